-- A scenario that was read can be run.
use Rattle.std.proofs.Common.{◌≡◌, ◌≢◌, ℕ, ◌≤◌, ◌<◌, Bool, true, false, List, [], ◌∷◌, length, refl, ap, ◌∙◌, sym, subst, arith}
use Rattle.std.specs.Prelude.{◌||◌, ◌&&◌, ◌==◌, not, nat_lt}
use Rattle.std.specs.List.{list_all, list_any, AllByRecursion}
use Rattle.std.specs.declared.net.ip_addr.IpAddr.{IpAddr}
use Rattle.std.proofs.lemmas.Bool.Decides.{nat_tests}
use Rattle.resolver_settings.specs.Ttl.{is_reversed, has_reversed}
use Rattle.recursor_types.specs.Options.{is_first_delay, has_bad_first_delays}
use Rattle.recursor_types.specs.declared.options.RecursorOptions.{RecursorOptions}
use Rattle.text_lines.specs.declared.lines.option_form.OptionLine.{OptionLine}
use Rattle.text_lines.specs.declared.lines.option_form.OptionLine.TheVariants.{ResponseCacheSize, RecursionLimit, NsRecursionLimit, AllowAnswers, DenyAnswers, AllowServer, DenyServer, AvoidLocalUdpPorts, PositiveTtl, NegativeTtl, CaseRandomization, EdnsPayloadLen, FirstDelays}
use Rattle.recursor_text.specs.declared.scenario.Scenario.{Scenario}
use Rattle.text_lines.specs.Spelling.{AreFirstDelays}
use Rattle.text_lines.specs.LineSpelling.{IsOption, standard_options, changed, changed_by}
use Rattle.recursor_text.specs.Spelling.{Reads}
use Rattle.recursor_command.specs.Command.{IsRunnable}

neither : (a b : Bool) → a ≡ false → b ≡ false → (a || b) ≡ false
neither a b p q = ap (λ x. x || b) p ∙ q

both : (a b : Bool) → a ≡ true → b ≡ true → (a && b) ≡ true
both a b p q = ap (λ x. x && b) p ∙ q

-- the bounds are in order, the same for every type, and servers may start with the delays
record IsRight (o : RecursorOptions) : Type 0 where
  positive : nat_lt o.cache_policy.general.positive_max o.cache_policy.general.positive_min ≡ false
  negative : nat_lt o.cache_policy.general.negative_max o.cache_policy.general.negative_min ≡ false
  own : o.cache_policy.own ≡ []
  delays : has_bad_first_delays o.first_delays ≡ false

not_less : (least most : ℕ) → least ≤ most → nat_lt most least ≡ false
not_less least most h = grind (arith, nat_tests)

some_length : (n : ℕ) → 0 < n → (n == 0) ≡ false
some_length n h = grind (arith, nat_tests)

is_delay : (n : ℕ) → (1 ≤ n) × (n ≤ 31) → is_first_delay n ≡ true
is_delay n h =
    let low = h.0 in
    let high = h.1 in
    grind (arith, nat_tests)

are_delays : (ns : List ℕ) → AllByRecursion (λ n. (1 ≤ n) × (n ≤ 31)) ns → list_all is_first_delay ns ≡ true
are_delays [] h = refl
are_delays (n ∷ ns) h = both (is_first_delay n) (list_all is_first_delay ns) (is_delay n h.0) (are_delays ns h.1)

right_delays : (ns : List ℕ) → AreFirstDelays ns → has_bad_first_delays ns ≡ false
right_delays ns h = neither (length ns == 0) (not (list_all is_first_delay ns)) (some_length (length ns) h.some) (ap not (are_delays ns h.each))

change_right : (o : RecursorOptions) (line : OptionLine) → IsRight o → IsOption line → IsRight (changed o line)
change_right o (ResponseCacheSize size) h v = record { positive = h.positive; negative = h.negative; own = h.own; delays = h.delays }
change_right o (RecursionLimit most) h v = record { positive = h.positive; negative = h.negative; own = h.own; delays = h.delays }
change_right o (NsRecursionLimit most) h v = record { positive = h.positive; negative = h.negative; own = h.own; delays = h.delays }
change_right o (AllowAnswers nets) h v = record { positive = h.positive; negative = h.negative; own = h.own; delays = h.delays }
change_right o (DenyAnswers nets) h v = record { positive = h.positive; negative = h.negative; own = h.own; delays = h.delays }
change_right o (AllowServer nets) h v = record { positive = h.positive; negative = h.negative; own = h.own; delays = h.delays }
change_right o (DenyServer nets) h v = record { positive = h.positive; negative = h.negative; own = h.own; delays = h.delays }
change_right o (AvoidLocalUdpPorts ports) h v = record { positive = h.positive; negative = h.negative; own = h.own; delays = h.delays }
change_right o (PositiveTtl b) h v = record { positive = not_less b.least b.most v.ordered; negative = h.negative; own = refl; delays = h.delays }
change_right o (NegativeTtl b) h v = record { positive = h.positive; negative = not_less b.least b.most v.ordered; own = refl; delays = h.delays }
change_right o (CaseRandomization on) h v = record { positive = h.positive; negative = h.negative; own = h.own; delays = h.delays }
change_right o (EdnsPayloadLen bytes) h v = record { positive = h.positive; negative = h.negative; own = h.own; delays = h.delays }
change_right o (FirstDelays delays) h v = record { positive = h.positive; negative = h.negative; own = h.own; delays = right_delays delays v }

changes_right : (o : RecursorOptions) (lines : List OptionLine) → IsRight o → AllByRecursion IsOption lines → IsRight (changed_by o lines)
changes_right o [] h v = h
changes_right o (line ∷ lines) h v = changes_right (changed o line) lines (change_right o line h v.0) v.1

standard_right : IsRight standard_options
standard_right = record { positive = refl; negative = refl; own = refl; delays = refl }

in_order : (o : RecursorOptions) → IsRight o → has_reversed o.cache_policy ≡ false
in_order o h =
    neither (is_reversed o.cache_policy.general) (list_any (λ e. is_reversed e.1) o.cache_policy.own)
    (neither _ _ h.positive h.negative)
    (ap (list_any (λ e. is_reversed e.1)) h.own)

has_root : (roots : List IpAddr) → 0 < length roots → roots ≢ []
has_root roots some = λ none. let count = ap length none in omega (arith, some, count)

pub runnable : (bytes : List ℕ) (s : Scenario) → Reads bytes s → IsRunnable s
runnable bytes s r =
    let right = subst IsRight (sym r.fits.options) (changes_right standard_options r.written standard_right r.fits.valued) in
    record { rooted = has_root s.roots r.fits.rooted; ordered = in_order s.options right; delayed = right.delays; upstream = r.fits.upstream }
