-- Names that are written label by label.
use Rattle.std.proofs.Common.{◌≡◌, ℕ, ◌+◌, ◌≤◌, true, List, [], ◌∷◌, ◌++◌, length, take, refl, sym, ap, ◌∙◌, arith, append_assoc, append-nil, length-append, take_at}
use Rattle.std.proofs.lemmas.List.{take-take}
use Rattle.dns_core.specs.NameText.{wire_length}
use Rattle.dns_core.specs.Labels.{AreLabels}
use Rattle.dns_core.specs.Name.{DomainName}
use Rattle.wire_names.specs.Names.{IsName, run, written}
use Rattle.wire_names.specs.Names.NameAt.{whole}

pub run-push : (labels : List (List ℕ)) (label : List ℕ) → run (labels ++ label ∷ []) ≡ run labels ++ length label ∷ label
run-push [] label = append-nil (length label ∷ label)
run-push (l ∷ ls) label = ap (λ (more : List ℕ). (length l ∷ l) ++ more) (run-push ls label) ∙ sym (append_assoc (length l ∷ l) (run ls) (length label ∷ label))

-- what stood there before still does
pub kept : (old front more new : List ℕ) → front ≡ old ++ more → take (length front) new ≡ front → take (length old) new ≡ old
kept old front more new is stays =
    let few : length old ≤ length front = omega (arith, ap length is, length-append old more) in
    sym (take-take (length old) (length front) new few) ∙ ap (take (length old)) (stays ∙ is) ∙ take_at old more (length old) refl

length_run : (labels : List (List ℕ)) → length (run labels) + 1 ≡ wire_length labels
length_run [] = refl
length_run (l ∷ ls) = omega (arith, length_run ls, length-append l (run ls))

-- how long a name is that is written out
pub length_written : (labels : List (List ℕ)) → length (written labels) ≡ wire_length labels
length_written labels = omega (arith, length_run labels, length-append (run labels) (0 ∷ []))

-- what is written is read in every message
pub name_written : (message : List ℕ) (name : DomainName) (rest : List ℕ) → AreLabels name.labels → name.fqdn ≡ true → IsName message (written name.labels ++ rest) name rest
name_written message name rest fit absolute = record { named = whole fit.each (append_assoc (run name.labels) (0 ∷ []) rest); absolute = absolute; short = fit.short }
