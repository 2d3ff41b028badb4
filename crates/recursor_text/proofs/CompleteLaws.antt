-- Each draft can be brought to its end.
use Rattle.std.proofs.Common.{◌≡◌, ◌≢◌, ℕ, zero, suc, ◌+◌, ◌-◌, true, false, List, [], ◌∷◌, ◌++◌, Option, Some, None, refl, sym, ap, subst, ◌∙◌, arith, inl, inr, lit≤}
use Rattle.std.specs.Prelude.{IfSome}
use Rattle.std.proofs.lemmas.Bool.{lt-ltb, le-ltb, cases_Bool, cases_lt}
use Rattle.std.specs.declared.net.ipv4_addr.Ipv4Addr.{Ipv4Addr}
use Rattle.std.specs.declared.net.ip_addr.IpAddr.TheVariants.{V4}
use Rattle.std.specs.Net.Addr.{IsIpv4Addr}
use Rattle.dns_core.specs.Name.{DomainName}
use Rattle.dns_core.specs.declared.codes.RecordType.{RecordType}
use Rattle.dns_core.specs.declared.record.RData.TheVariants.{A}
use Rattle.dns_core.specs.declared.record.Record.{Record}
use Rattle.text_lines.specs.declared.lines.lines.Form.{Form}
use Rattle.text_lines.specs.declared.lines.lines.Form.TheVariants as form
use Rattle.text_lines.specs.declared.lines.rules.Counts.{Counts}
use Rattle.text_lines.specs.declared.lines.rules.OpenRule.{OpenRule}
use Rattle.recursor_text.specs.declared.reading.draft.Stage.{Stage}
use Rattle.recursor_text.specs.declared.reading.draft.Stage.TheVariants.{Start, Headed, Rooted, Optioned, Patient, Scripted, Asked, Turned, Ended}
use Rattle.recursor_text.specs.declared.reading.draft.Draft.{Draft}
use Rattle.text_lines.specs.Numbers.{◌>>=◌}
use Rattle.text_lines.specs.Codes.{class_in}
use Rattle.recursor_text.specs.Steps.{may_wait, may_end, settle, rule_of, add, put, is_settled}
use Rattle.text_lines.specs.Spelling.{spelled}
use Rattle.text_lines.specs.LineSpelling.{record_text, IsRecord}
use Rattle.text_lines.proofs.NumberLaws.{octet_fits}
use Rattle.text_lines.proofs.LineLaws.{form_words, IsForm}
use Rattle.recursor_text.proofs.DraftLaws.{rank, Good}
use Rattle.recursor_text.proofs.AgainLaws.{run, takes_form, takes_record}

abbrev pub Completes : Draft → Type 0
Completes d = (ls : List (List ℕ)) × (e : Draft) × (run d ls ≡ Some e) × (e.stage ≡ Ended)

by_form : (d e : Draft) (f : Form) → d.pending ≡ None → IsForm f → put d f ≡ Some e → Completes e → Completes d
by_form d e f shut fits h c = (spelled (form_words f) ∷ c.0, c.1, takes_form d e f c.0 shut fits h ∙ c.2, c.3)

from_script : (d : Draft) → may_end d.stage ≡ true → d.pending ≡ None → Completes d
from_script d may shut = by_form d (record d { stage = Ended }) form.End shut tt (rw may refl) ([], record d { stage = Ended }, refl, refl)

abbrev root_name : DomainName
root_name = record { labels = []; fqdn = true }

abbrev type_a : RecordType
type_a = record { code = 1 }

from_patient : (d : Draft) → d.stage ≡ Patient → d.pending ≡ None → Completes d
from_patient d is shut = by_form d (record d { stage = Scripted }) form.ToldScript shut tt (rw is refl) (from_script (record d { stage = Scripted }) refl shut)

from_options : (d : Draft) → may_wait d.stage ≡ true → d.pending ≡ None → Completes d
from_options d may shut = by_form d (record d { stage = Patient; patience = 1 }) (form.Patience 1) shut (lit≤ tt, lit≤ tt) (rw may refl) (from_patient (record d { stage = Patient; patience = 1 }) refl shut)

abbrev nowhere : Ipv4Addr
nowhere = record { octets = 0 ∷ 0 ∷ 0 ∷ 0 ∷ [] }

is_ipv4 : IsIpv4Addr nowhere
is_ipv4 = (refl, octet_fits 0 0 0 0 (lit≤ tt) (lit≤ tt) (lit≤ tt) (lit≤ tt))

from_headed : (d : Draft) → d.stage ≡ Headed → d.pending ≡ None → d.roots ≡ [] → Completes d
from_headed d is shut rootless =
    by_form d (record d { stage = Rooted; roots = d.roots ++ V4 nowhere ∷ [] }) (form.Root (V4 nowhere)) shut is_ipv4 (rw (is, rootless) refl)
    (from_options (record d { stage = Rooted; roots = d.roots ++ V4 nowhere ∷ [] }) refl shut)

from_start : (d : Draft) → d.stage ≡ Start → d.pending ≡ None → d.roots ≡ [] → Completes d
from_start d is shut rootless = by_form d (record d { stage = Headed }) form.Head shut tt (rw is refl) (from_headed (record d { stage = Headed }) refl shut rootless)

abbrev dummy : Record
dummy = record { name = root_name; ttl = 0; dns_class = class_in; record_type = type_a; rdata = A nowhere; typed = refl }

is_dummy : IsRecord dummy
is_dummy = record { name = (refl, refl); life = lit≤ tt; class = lit≤ tt; type = lit≤ tt; told = is_ipv4 }

abbrev total : Counts → ℕ
total c = c.answers + c.authorities + c.additionals

adds : (o : OpenRule) (k : ℕ) → total o.owed ≡ suc k → (p : OpenRule) × (add o dummy ≡ Some p) × (total p.owed ≡ k)
adds o k e =
    elim (cases_lt 0 o.owed.answers) [
      | inl a ↦ (record o { message = record o.message { answers = o.message.answers ++ dummy ∷ [] }; owed = record o.owed { answers = o.owed.answers - 1 } }, rw (lt-ltb 0 o.owed.answers a) refl, omega arith)
      | inr none ↦ elim (cases_lt 0 o.owed.authorities) [
        | inl b ↦ (record o { message = record o.message { authorities = o.message.authorities ++ dummy ∷ [] }; owed = record o.owed { authorities = o.owed.authorities - 1 } }, rw (le-ltb 0 o.owed.answers none, lt-ltb 0 o.owed.authorities b) refl, omega arith)
        | inr neither ↦ (
          record o { message = record o.message { additionals = o.message.additionals ++ dummy ∷ [] }; owed = record o.owed { additionals = o.owed.additionals - 1 } },
          rw (le-ltb 0 o.owed.answers none, le-ltb 0 o.owed.authorities neither, lt-ltb 0 o.owed.additionals (omega arith)) refl,
          omega arith,
        )
      ]
    ]

settled_zero : (c : Counts) → is_settled c ≡ false → total c ≡ 0 → ⊥
settled_zero c e z =
    let a : c.answers ≡ 0 = omega arith in let b : c.authorities ≡ 0 = omega arith in let d : c.additionals ≡ 0 = omega arith in
    let h : is_settled c ≡ true = rw (a, b, d) refl in
    absurd (let t : true ≡ false = sym h ∙ e in cc)

from_open : (k : ℕ) (d : Draft) (o : OpenRule) → d.stage ≡ Scripted → d.pending ≡ Some o → is_settled o.owed ≡ false → total o.owed ≡ k → Completes d
from_open zero d o is opened waits e = absurd (settled_zero o.owed waits e)
from_open (suc k) d o is opened waits e =
    let a = adds o k e in
    let p = a.0 in
    let next : Completes (settle d p) = elim (cases_Bool (is_settled p.owed)) [
      | inl whole ↦ let made : settle d p ≡ record d { rules = d.rules ++ rule_of p ∷ []; pending = None } = rw whole refl in
          subst Completes (sym made) (from_script (record d { rules = d.rules ++ rule_of p ∷ []; pending = None }) (ap may_end is) refl)
      | inr part ↦ let made : settle d p ≡ record d { pending = Some p } = rw part refl in
          subst Completes (sym made) (from_open k (record d { pending = Some p }) p is refl part a.2)
    ] in
    (record_text dummy ∷ next.0, next.1, takes_record d (settle d p) o dummy next.0 opened is_dummy (ap (λ (x : Option OpenRule). x >>= λ p. Some (settle d p)) a.1) ∙ next.2, next.3)

from_told : (p : Option OpenRule) (d : Draft) → d.pending ≡ p → d.stage ≡ Scripted → Good d → Completes d
from_told None d shut is g = from_script d (ap may_end is) shut
from_told (Some o) d opened is g =
    let waits : is_settled o.owed ≡ false = subst (λ (p : Option OpenRule). IfSome p (λ o. is_settled o.owed ≡ false)) opened g.waits in
    from_open (total o.owed) d o is opened waits refl

other : (s : Stage) (d : Draft) → d.stage ≡ s → Good d → rank s ≢ 5 → d.pending ≡ None
other s d is g ne = g.no_pending (λ e. ne (sym (ap rank is) ∙ e))

pub completes : (s : Stage) (d : Draft) → d.stage ≡ s → Good d → Completes d
completes Start d is g = let r : rank d.stage ≡ 0 = ap rank is in from_start d is (other Start d is g (λ e. omega arith)) (g.no_roots (omega arith))
completes Headed d is g = let r : rank d.stage ≡ 1 = ap rank is in from_headed d is (other Headed d is g (λ e. omega arith)) (g.no_roots (omega arith))
completes Rooted d is g = from_options d (ap may_wait is) (other Rooted d is g (λ e. omega arith))
completes Optioned d is g = from_options d (ap may_wait is) (other Optioned d is g (λ e. omega arith))
completes Patient d is g = from_patient d is (other Patient d is g (λ e. omega arith))
completes Scripted d is g = from_told d.pending d refl is g
completes Asked d is g = from_script d (ap may_end is) (other Asked d is g (λ e. omega arith))
completes Turned d is g = from_script d (ap may_end is) (other Turned d is g (λ e. omega arith))
completes Ended d is g = ([], d, refl, is)
