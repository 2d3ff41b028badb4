-- What is read of a run of labels stands there, and what stands there is read.
use Rattle.std.proofs.Common.{◌≡◌, ℕ, zero, suc, ◌+◌, ◌-◌, ◌*◌, ◌/◌, ◌%◌, ◌<◌, ◌≤◌, true, false, not, cond, eqb, ltb, List, [], ◌∷◌, ◌++◌, length, take, drop, get_or, Ok, Err, IsTrue, refl, sym, ap, subst, ◌∙◌, append_assoc, inl, inr, arith, take_at, drop_at, take-append-drop, length-append, get_or-drop, ltb-true, ltb-false, le-ltb, lt-ltb, ne_eqb, eqb-true}
use Rattle.std.specs.List.{list_all, AllByRecursion}
use Rattle.std.proofs.lemmas.List.{length-take-le}
use Rattle.std.proofs.lemmas.Bool.{eqb-false, not-false}
use Rattle.dns_core.specs.NameText.{is_allowed}
use Rattle.dns_core.specs.Labels.{IsLabel}
use Rattle.wire_names.specs.Names.{run, pointer}
use Rattle.wire_names.specs.declared.errors.WireError.TheVariants.{Short, BadLabel, BadByte}
use Rattle.wire_names.specs.declared.runs.RunEnd.{RunEnd}
use Rattle.wire_names.specs.declared.runs.RunEnd.TheVariants.{Root, Pointer}
use Rattle.wire_names.specs.Reading.{◌>>=◌, Run, label_of, pointer_of, run_of}
use Rattle.wire_names.proofs.Binds.{bind_ok, guard_ok, chosen, ok_is}

abbrev pub IsBytes : List ℕ → Type 0
IsBytes bytes = (i : ℕ) → get_or bytes i 0 < 256

pub IsBytes-drop : (n : ℕ) (bytes : List ℕ) → IsBytes bytes → IsBytes (drop n bytes)
IsBytes-drop n bytes h i = rw get_or-drop (h (n + i))

-- the bytes with which a run ends
abbrev pub ending : RunEnd → List ℕ
ending Root = 0 ∷ []
ending (Pointer to) = pointer to

-- two bytes can say so
abbrev pub IsEnd : RunEnd → Type 0
IsEnd Root = Unit {0}
IsEnd (Pointer to) = to < 16384

-- the bytes begin with this run, and the rest follows
pub record RunIs (bytes : List ℕ) (x : Run) : Type 0 where
  pub labels : AllByRecursion IsLabel x.0
  pub parts : bytes ≡ run x.0 ++ (ending x.1 ++ x.2)
  pub is_end : IsEnd x.1

pub skipped : (n : ℕ) (bytes : List ℕ) → n ≤ length bytes → run_of n bytes ≡ run_of 0 (drop n bytes)
unfolding run_of
skipped zero bytes le = refl
skipped (suc n) [] le = absurd (omega (arith, le))
skipped (suc n) (b ∷ bs) le = skipped n bs (omega (arith, le))

-- ---- what is read stands there

at_root : (b : ℕ) (bs : List ℕ) → b ≡ 0 → RunIs (b ∷ bs) ([], Root, bs)
at_root b bs e = record { labels = tt; parts = ap (λ k. k ∷ bs) e; is_end = tt }

at_label : (b : ℕ) (bs : List ℕ) (y : Run) → 0 < b → b < 64 → b ≤ length bs → IsTrue (list_all (is_allowed false) (take b bs)) → RunIs (drop b bs) y → RunIs (b ∷ bs) (take b bs ∷ y.0, y.1, y.2)
at_label b bs y some few long allowed rest =
    let len : length (take b bs) ≡ b = length-take-le b bs long in
    let tail = ending y.1 ++ y.2 in
    record {
      labels = (record { some = rw len some; few = rw len few; allowed = allowed }, rest.labels);
      parts =
          ap (λ (t : List ℕ). b ∷ t) (sym (take-append-drop b bs) ∙ ap (λ (t : List ℕ). take b bs ++ t) rest.parts ∙ sym (append_assoc (take b bs) (run y.0) tail))
          ∙ ap (λ (k : ℕ). k ∷ ((take b bs ++ run y.0) ++ tail)) (sym len);
      is_end = rest.is_end;
    }

high_is : (high low : ℕ) → 192 ≤ high → low < 256 → 192 + ((high - 192) * 256 + low) / 256 ≡ high
high_is high low le lt = omega (arith, le, lt)

low_is : (high low : ℕ) → low < 256 → ((high - 192) * 256 + low) % 256 ≡ low
low_is high low lt = omega (arith, lt)

at_pointer : (high : ℕ) (bs : List ℕ) (x : Run) → 192 ≤ high → IsBytes (high ∷ bs) → pointer_of high bs ≡ Ok x → RunIs (high ∷ bs) x
at_pointer high [] x le fits e = absurd cc
at_pointer high (low ∷ rest) x le fits e =
    let to = (high - 192) * 256 + low in
    let a : high < 256 = fits 0 in
    let b : low < 256 = fits 1 in
    let h = high_is high low le b in
    let l = low_is high low b in
    let parts : high ∷ low ∷ rest ≡ pointer to ++ rest = ap (λ (k : ℕ). k ∷ low ∷ rest) (sym h) ∙ ap (λ (k : ℕ). (192 + to / 256) ∷ k ∷ rest) (sym l) in
    let made : RunIs (high ∷ low ∷ rest) ([], Pointer to, rest) = record { labels = tt; parts = parts; is_end = omega (arith, a, b, le) } in
    subst (RunIs (high ∷ low ∷ rest)) (ok_is ([], Pointer to, rest) x e) made

pub run_takes : (n : ℕ) (bytes : List ℕ) (x : Run) → n ≤ length bytes → IsBytes bytes → run_of n bytes ≡ Ok x → RunIs (drop n bytes) x
unfolding run_of
run_takes n [] x le fits e = absurd cc
run_takes (suc n) (b ∷ bs) x le fits e = run_takes n bs x (omega (arith, le)) (λ i. fits (suc i)) e
run_takes zero (b ∷ bs) x le fits e =
    elim (chosen (eqb b 0) _ _ _ e) [
      | inl at ↦ subst (RunIs (b ∷ bs)) (ok_is ([], Root, bs) x at.1) (at_root b bs (eqb-true b 0 at.0))
      | inr on ↦ elim (chosen (ltb b 64) _ _ _ on.1) [
        | inl short ↦
            let l = bind_ok (label_of b bs) (λ l. run_of b bs >>= λ y. Ok (l.0 ∷ y.0, y.1, y.2)) x short.1 in
            let g = guard_ok (ltb (length bs) b) Short (cond (not (list_all (is_allowed false) (take b bs))) (Err BadByte) (Ok (take b bs, drop b bs))) l.0 l.1 in
            let h = guard_ok (not (list_all (is_allowed false) (take b bs))) BadByte (Ok (take b bs, drop b bs)) l.0 g.1 in
            let y = bind_ok (run_of b bs) (λ y. Ok (l.0.0 ∷ y.0, y.1, y.2)) x l.2 in
            let long : b ≤ length bs = ltb-false (length bs) b g.0 in
            let below = run_takes b bs y.0 long (λ i. fits (suc i)) y.1 in
            let some : 0 < b = omega (arith, eqb-false b 0 on.0) in
            let made = at_label b bs y.0 some (ltb-true b 64 short.0) long (not-false _ h.0) below in
            let same : (take b bs ∷ y.0.0, y.0.1, y.0.2) ≡ x = ap (λ (l : List ℕ × List ℕ). (l.0 ∷ y.0.0, y.0.1, y.0.2)) (ok_is (take b bs, drop b bs) l.0 h.1) ∙ ok_is (l.0.0 ∷ y.0.0, y.0.1, y.0.2) x y.2 in
            subst (RunIs (b ∷ bs)) same made
        | inr long ↦
            let g = guard_ok (ltb b 192) BadLabel (pointer_of b bs) x long.1 in
            at_pointer b bs x (ltb-false b 192 g.0) fits g.1
      ]
    ]

-- ---- what stands there is read

label_again : (l tail : List ℕ) → IsLabel l → run_of 0 (length l ∷ (l ++ tail)) ≡ (run_of 0 tail >>= λ x. Ok (l ∷ x.0, x.1, x.2))
unfolding run_of
label_again l tail good =
    let some : eqb (length l) 0 ≡ false = ne_eqb (length l) 0 (λ e. omega (arith, good.some, e)) in
    let few : ltb (length l) 64 ≡ true = lt-ltb (length l) 64 good.few in
    let within : length l ≤ length (l ++ tail) = omega (arith, length-append l tail) in
    let long : ltb (length (l ++ tail)) (length l) ≡ false = le-ltb (length (l ++ tail)) (length l) within in
    let label : take (length l) (l ++ tail) ≡ l = take_at l tail (length l) refl in
    let after : run_of (length l) (l ++ tail) ≡ run_of 0 tail = skipped (length l) (l ++ tail) within ∙ ap (run_of 0) (drop_at l tail (length l) refl) in
    rw (some, few, long, label, good.allowed, after) refl

pub pointer_again : (high low : ℕ) (rest : List ℕ) → 192 ≤ high → run_of 0 (high ∷ low ∷ rest) ≡ Ok ([], Pointer ((high - 192) * 256 + low), rest)
unfolding run_of
pointer_again high low rest le = rw (ne_eqb high 0 (λ e. omega (arith, le, e)), le-ltb high 64 (omega (arith, le)), le-ltb high 192 le) refl

root_again : (rest : List ℕ) → run_of 0 (0 ∷ rest) ≡ Ok ([], Root, rest)
unfolding run_of
root_again rest = refl

place_is : (to : ℕ) → ((192 + to / 256) - 192) * 256 + to % 256 ≡ to
place_is to = omega arith

pub run_again : (ls : List (List ℕ)) (end : RunEnd) (rest : List ℕ) → AllByRecursion IsLabel ls → IsEnd end → run_of 0 (run ls ++ (ending end ++ rest)) ≡ Ok (ls, end, rest)
run_again [] Root rest good is_end = root_again rest
run_again [] (Pointer to) rest good is_end = pointer_again (192 + to / 256) (to % 256) rest (omega arith) ∙ ap (λ (k : ℕ). Ok ([], Pointer k, rest)) (place_is to)
run_again (l ∷ ls) end rest good is_end =
    let tail = ending end ++ rest in
    ap (λ (t : List ℕ). run_of 0 (length l ∷ t)) (append_assoc l (run ls) tail) ∙ label_again l (run ls ++ tail) good.0 ∙ rw (run_again ls end rest good.1 is_end) refl
