-- The lines of a scenario are taken again.
use Rattle.std.proofs.Common.{◌≡◌, ℕ, suc, ◌+◌, ◌-◌, ◌<◌, ◌≤◌, true, false, ltb, leb, List, [], ◌∷◌, ◌++◌, length, map, Option, Some, None, Ok, Err, refl, sym, ap, subst, ◌∙◌, arith, append_assoc}
use Rattle.std.specs.List.{flat_map, AllByRecursion}
use Rattle.std.proofs.lemmas.Bool.{lt-ltb, le-leb, ne_eqb}
use Rattle.std.proofs.lemmas.List.{append-nil, length_push}
use Rattle.std.specs.declared.net.ip_addr.IpAddr.{IpAddr}
use Rattle.dns_core.specs.Name.{DomainName}
use Rattle.dns_core.specs.declared.codes.RecordType.{RecordType}
use Rattle.dns_core.specs.declared.connection.Protocol.{Protocol}
use Rattle.dns_core.specs.declared.message.Message.{Message}
use Rattle.dns_core.specs.declared.record.Record.{Record}
use Rattle.dns_core.specs.declared.request.Question.{Question}
use Rattle.dns_core.specs.declared.request.Turn.{Turn}
use Rattle.recursor_types.specs.declared.options.RecursorOptions.{RecursorOptions}
use Rattle.script_upstream.specs.declared.script.script.ScriptLine.{ScriptLine}
use Rattle.script_upstream.specs.declared.script.script.ScriptLine.TheVariants.{Connect, Refuse, Reply}
use Rattle.recursor_text.specs.declared.scenario.Scenario.{Scenario}
use Rattle.recursor_text.specs.declared.scenario.Upstream.TheVariants.{Script as FromScript}
use Rattle.text_lines.specs.declared.lines.lines.Form.{Form}
use Rattle.text_lines.specs.declared.lines.lines.Form.TheVariants as form
use Rattle.text_lines.specs.declared.lines.option_form.OptionLine.{OptionLine}
use Rattle.text_lines.specs.declared.lines.rules.OpenRule.{OpenRule}
use Rattle.recursor_text.specs.declared.reading.draft.Stage.{Stage}
use Rattle.recursor_text.specs.declared.reading.draft.Stage.TheVariants.{Headed, Rooted, Optioned, Patient, Scripted, Asked, Turned, Ended}
use Rattle.recursor_text.specs.declared.reading.draft.Draft.{Draft}
use Rattle.text_lines.specs.Numbers.{◌>>=◌}
use Rattle.text_lines.specs.Codes.{class_in}
use Rattle.recursor_text.specs.Steps.{start, may_turn, may_end, is_settled, rule_of, settle, add, is_short, put, taken_at, taken, scenario_of}
use Rattle.text_lines.specs.Spelling.{spelled, IsAddress}
use Rattle.text_lines.specs.LineSpelling.{record_text, record_texts, script_lines, root_line, option_line, question_line, turn_line, patience_words, told_words, end_words, options_with, option_rank, last_rank, RiseAbove, IsRecord, IsRule, IsScriptLine, IsTurn, IsOption}
use Rattle.recursor_text.specs.Spelling.{rules_of, to_roots, to_options, to_patience, to_told, to_rules, to_questions, to_turns, scenario_lines, most_roots, most_questions, most_turns, NoneFalls, last_moment, IsAsked, IsScenario}
use Rattle.text_lines.proofs.StepsThatFail.{bind_some}
use Rattle.text_lines.proofs.LineLaws.{rule_words, form_words, IsBare, IsLone, IsForm, form_again}
use Rattle.text_lines.proofs.OptionLaws.{last_push}
use Rattle.text_lines.proofs.RecordLaws.{record_again}
use Rattle.recursor_text.proofs.TurnLaws.{moment_push}

abbrev pub run : Draft → List (List ℕ) → Option Draft
run d [] = Some d
run d (l ∷ ls) = taken d l >>= λ e. run e ls

abbrev some : Draft → Option Draft
some d = Some d

pub draft_is : (d e : Draft) → some d ≡ some e → d ≡ e
draft_is d e h = cc

pub run_append : (d e : Draft) (xs ys : List (List ℕ)) → run d xs ≡ Some e → run d (xs ++ ys) ≡ run e ys
run_append d e [] ys h = ap (λ (x : Draft). run x ys) (draft_is d e h)
run_append d e (x ∷ xs) ys h =
    let b = bind_some (taken d x) (λ m. run m xs) e h in
    ap (λ (o : Option Draft). o >>= λ m. run m (xs ++ ys)) b.1 ∙ run_append b.0 e xs ys b.2

-- a form, where no rule is open
pub takes_form : (d e : Draft) (f : Form) (ls : List (List ℕ)) → d.pending ≡ None → IsForm f → put d f ≡ Some e → run d (spelled (form_words f) ∷ ls) ≡ run e ls
takes_form d e f ls shut fits h = ap (λ (p : Option OpenRule). taken_at p d (spelled (form_words f)) >>= λ m. run m ls) shut ∙ rw (form_again f fits, h) refl

pub takes_record : (d e : Draft) (o : OpenRule) (r : Record) (ls : List (List ℕ)) → d.pending ≡ Some o → IsRecord r → (add o r >>= λ p. Some (settle d p)) ≡ Some e → run d (record_text r ∷ ls) ≡ run e ls
takes_record d e o r ls opened fits h = ap (λ (p : Option OpenRule). taken_at p d (record_text r) >>= λ m. run m ls) opened ∙ rw (record_again r fits, h) refl

-- ---- roots

abbrev with_roots : List IpAddr → Draft
with_roots roots = record { stage = Rooted; roots = roots; written = []; patience = 0; rules = []; pending = None; questions = []; turns = [] }

roots_again : (front roots : List IpAddr) → length front + length roots ≤ most_roots → AllByRecursion IsAddress roots → run (with_roots front) (map root_line roots) ≡ Some (with_roots (front ++ roots))
roots_again front [] few all = ap (λ (r : List IpAddr). Some (with_roots r)) (sym (append-nil front))
roots_again front (ip ∷ roots) few all =
    let room : ltb (length front) most_roots ≡ true = lt-ltb _ _ (omega arith) in
    takes_form (with_roots front) (with_roots (front ++ ip ∷ [])) (form.Root ip) (map root_line roots) refl all.0 (rw room refl)
    ∙ roots_again (front ++ ip ∷ []) roots (omega (arith, length_push front ip)) all.1
    ∙ ap (λ (r : List IpAddr). Some (with_roots r)) (append_assoc front (ip ∷ []) roots)

-- ---- options

abbrev stage_after : List OptionLine → Stage
stage_after [] = Rooted
stage_after (o ∷ os) = Optioned

abbrev with_options : List IpAddr → List OptionLine → Draft
with_options roots written = record { stage = stage_after written; roots = roots; written = written; patience = 0; rules = []; pending = None; questions = []; turns = [] }

puts_option : (roots : List IpAddr) (front : List OptionLine) (o : OptionLine) → last_rank 0 front < option_rank o → put (with_options roots front) (form.Option o) ≡ Some (with_options roots (front ++ o ∷ []))
puts_option roots [] o lt = let behind : ltb 0 (option_rank o) ≡ true = lt-ltb _ _ lt in rw behind refl
puts_option roots (p ∷ ps) o lt = let behind : ltb (last_rank (option_rank p) ps) (option_rank o) ≡ true = lt-ltb _ _ lt in rw behind refl

options_again : (roots : List IpAddr) (front os : List OptionLine) → RiseAbove (last_rank 0 front) os → AllByRecursion IsOption os → run (with_options roots front) (map option_line os) ≡ Some (with_options roots (front ++ os))
options_again roots front [] rise all = ap (λ (l : List OptionLine). Some (with_options roots l)) (sym (append-nil front))
options_again roots front (o ∷ os) rise all =
    takes_form (with_options roots front) (with_options roots (front ++ o ∷ [])) (form.Option o) (map option_line os) refl all.0 (puts_option roots front o rise.0)
    ∙ options_again roots (front ++ o ∷ []) os (subst (λ (n : ℕ). RiseAbove n os) (sym (last_push 0 front o)) rise.1) all.1
    ∙ ap (λ (l : List OptionLine). Some (with_options roots l)) (append_assoc front (o ∷ []) os)

abbrev pub waiting : List IpAddr → List OptionLine → ℕ → Draft
waiting roots written patience = record { stage = Patient; roots = roots; written = written; patience = patience; rules = []; pending = None; questions = []; turns = [] }

puts_patience : (roots : List IpAddr) (written : List OptionLine) (n : ℕ) → put (with_options roots written) (form.Patience n) ≡ Some (waiting roots written n)
puts_patience roots [] n = refl
puts_patience roots (o ∷ os) n = refl

-- ---- rules

abbrev scripted : List IpAddr → List OptionLine → ℕ → List ScriptLine → Draft
scripted roots written patience rules = record { stage = Scripted; roots = roots; written = written; patience = patience; rules = rules; pending = None; questions = []; turns = [] }

-- a rule with these records, that owes so many
abbrev part : OpenRule → List Record → List Record → List Record → ℕ → ℕ → ℕ → OpenRule
part o us vs ws a b c = record o { message = record o.message { answers = us; authorities = vs; additionals = ws }; owed = record { answers = a; authorities = b; additionals = c } }

abbrev Told : OpenRule → List Record → Type 0
Told o xs = AllByRecursion IsRecord xs

abbrev done : List IpAddr → List OptionLine → ℕ → List ScriptLine → OpenRule → List Record → List Record → List Record → Option Draft
done roots written patience rules o us vs ws = Some (scripted roots written patience (rules ++ rule_of (part o us vs ws 0 0 0) ∷ []))

third : (roots : List IpAddr) (written : List OptionLine) (patience : ℕ) (rules : List ScriptLine) (r : OpenRule) (us vs ws xs : List Record) → Told r xs
    → run (settle (scripted roots written patience rules) (part r us vs ws 0 0 (length xs))) (map record_text xs) ≡ done roots written patience rules r us vs (ws ++ xs)
third roots written patience rules r us vs ws [] all = ap (done roots written patience rules r us vs) (sym (append-nil ws))
third roots written patience rules r us vs ws (x ∷ xs) all =
    let d = scripted roots written patience rules in
    let o = part r us vs ws 0 0 (suc (length xs)) in
    let p = part r us vs (ws ++ x ∷ []) 0 0 (length xs) in
    let unsettled : is_settled o.owed ≡ false = rw (ne_eqb (suc (length xs)) 0 (λ e. omega arith)) refl in
    let opened : settle d o ≡ record d { pending = Some o } = rw unsettled refl in
    let more : ltb 0 (suc (length xs)) ≡ true = lt-ltb _ _ (omega arith) in
    let less : suc (length xs) - 1 ≡ length xs = omega arith in
    let added : add o x ≡ Some p = rw (more, less) refl in
    ap (λ (e : Draft). run e (map record_text (x ∷ xs))) opened
    ∙ takes_record (record d { pending = Some o }) (settle d p) o x (map record_text xs) refl all.0 (rw added refl)
    ∙ third roots written patience rules r us vs (ws ++ x ∷ []) xs all.1
    ∙ ap (done roots written patience rules r us vs) (append_assoc ws (x ∷ []) xs)

second : (roots : List IpAddr) (written : List OptionLine) (patience : ℕ) (rules : List ScriptLine) (r : OpenRule) (us vs ws xs : List Record) → Told r xs → Told r ws
    → run (settle (scripted roots written patience rules) (part r us vs [] 0 (length xs) (length ws))) (map record_text xs ++ map record_text ws) ≡ done roots written patience rules r us (vs ++ xs) ws
second roots written patience rules r us vs ws [] all later = third roots written patience rules r us vs [] ws later ∙ ap (λ (l : List Record). done roots written patience rules r us l ws) (sym (append-nil vs))
second roots written patience rules r us vs ws (x ∷ xs) all later =
    let d = scripted roots written patience rules in
    let o = part r us vs [] 0 (suc (length xs)) (length ws) in
    let p = part r us (vs ++ x ∷ []) [] 0 (length xs) (length ws) in
    let unsettled : is_settled o.owed ≡ false = rw (ne_eqb (suc (length xs)) 0 (λ e. omega arith)) refl in
    let opened : settle d o ≡ record d { pending = Some o } = rw unsettled refl in
    let more : ltb 0 (suc (length xs)) ≡ true = lt-ltb _ _ (omega arith) in
    let less : suc (length xs) - 1 ≡ length xs = omega arith in
    let added : add o x ≡ Some p = rw (more, less) refl in
    ap (λ (e : Draft). run e (map record_text (x ∷ xs) ++ map record_text ws)) opened
    ∙ takes_record (record d { pending = Some o }) (settle d p) o x (map record_text xs ++ map record_text ws) refl all.0 (rw added refl)
    ∙ second roots written patience rules r us (vs ++ x ∷ []) ws xs all.1 later
    ∙ ap (λ (l : List Record). done roots written patience rules r us l ws) (append_assoc vs (x ∷ []) xs)

first : (roots : List IpAddr) (written : List OptionLine) (patience : ℕ) (rules : List ScriptLine) (r : OpenRule) (us vs ws xs : List Record) → Told r xs → Told r vs → Told r ws
    → run (settle (scripted roots written patience rules) (part r us [] [] (length xs) (length vs) (length ws))) (map record_text xs ++ (map record_text vs ++ map record_text ws)) ≡ done roots written patience rules r (us ++ xs) vs ws
first roots written patience rules r us vs ws [] all next later = second roots written patience rules r us [] ws vs next later ∙ ap (λ (l : List Record). done roots written patience rules r l vs ws) (sym (append-nil us))
first roots written patience rules r us vs ws (x ∷ xs) all next later =
    let d = scripted roots written patience rules in
    let o = part r us [] [] (suc (length xs)) (length vs) (length ws) in
    let p = part r (us ++ x ∷ []) [] [] (length xs) (length vs) (length ws) in
    let unsettled : is_settled o.owed ≡ false = rw (ne_eqb (suc (length xs)) 0 (λ e. omega arith)) refl in
    let opened : settle d o ≡ record d { pending = Some o } = rw unsettled refl in
    let more : ltb 0 (suc (length xs)) ≡ true = lt-ltb _ _ (omega arith) in
    let less : suc (length xs) - 1 ≡ length xs = omega arith in
    let added : add o x ≡ Some p = rw (more, less) refl in
    ap (λ (e : Draft). run e (map record_text (x ∷ xs) ++ (map record_text vs ++ map record_text ws))) opened
    ∙ takes_record (record d { pending = Some o }) (settle d p) o x (map record_text xs ++ (map record_text vs ++ map record_text ws)) refl all.0 (rw added refl)
    ∙ first roots written patience rules r (us ++ x ∷ []) vs ws xs all.1 next later
    ∙ ap (λ (l : List Record). done roots written patience rules r l vs ws) (append_assoc us (x ∷ []) xs)

-- the rule of a message, none of whose records is there
abbrev bare_rule : IpAddr → Protocol → DomainName → RecordType → ℕ → Message → OpenRule
bare_rule ip protocol n t delay m = record {
  ip = ip;
  protocol = protocol;
  delay = delay;
  message = record { query = record { name = n; query_type = t; query_class = class_in }; response_code = m.response_code; authoritative = m.authoritative; truncation = m.truncation; answers = []; authorities = []; additionals = [] };
  owed = record { answers = length m.answers; authorities = length m.authorities; additionals = length m.additionals };
}

is_bare : (ip : IpAddr) (protocol : Protocol) (n : DomainName) (t : RecordType) (delay : ℕ) (m : Message) → IsRule ip protocol n t delay m → IsBare (bare_rule ip protocol n t delay m)
is_bare ip protocol n t delay m fits = record {
  address = fits.address;
  transport = fits.transport;
  named = fits.named;
  typed = fits.typed;
  soon = fits.soon;
  class = refl;
  fine = fits.fine;
  few = (fits.few_answers, fits.few_authorities, fits.few_additionals);
  no_answers = refl;
  no_authorities = refl;
  no_additionals = refl;
}

message_is : (ip : IpAddr) (protocol : Protocol) (n : DomainName) (t : RecordType) (delay : ℕ) (m : Message) → IsRule ip protocol n t delay m
    → rule_of (part (bare_rule ip protocol n t delay m) m.answers m.authorities m.additionals 0 0 0) ≡ Reply ip protocol n t delay (Ok m)
message_is ip protocol n t delay m fits =
    ap (λ (x : Message). Reply ip protocol n t delay (Ok x)) (λ i. record m { query = sym fits.query i })

-- a line that no records follow
lone_again : (roots : List IpAddr) (written : List OptionLine) (patience : ℕ) (rules : List ScriptLine) (r : ScriptLine) → IsLone r
    → run (scripted roots written patience rules) (spelled (rule_words r) ∷ []) ≡ Some (scripted roots written patience (rules ++ r ∷ []))
lone_again roots written patience rules r fits =
    takes_form (scripted roots written patience rules) (scripted roots written patience (rules ++ r ∷ [])) (form.Rule r) [] refl fits refl

rule_again : (roots : List IpAddr) (written : List OptionLine) (patience : ℕ) (rules : List ScriptLine) (r : ScriptLine) → IsScriptLine r → run (scripted roots written patience rules) (script_lines r) ≡ Some (scripted roots written patience (rules ++ r ∷ []))
rule_again roots written patience rules (Reply ip protocol n t delay (Ok m)) fits =
    let o = bare_rule ip protocol n t delay m in
    takes_form (scripted roots written patience rules) (settle (scripted roots written patience rules) o) (form.Reply o) (record_texts m) refl (is_bare ip protocol n t delay m fits) refl
    ∙ first roots written patience rules o [] m.authorities m.additionals m.answers fits.answers fits.authorities fits.additionals
    ∙ ap (λ (l : ScriptLine). Some (scripted roots written patience (rules ++ l ∷ []))) (message_is ip protocol n t delay m fits)
rule_again roots written patience rules (Reply ip protocol n t delay (Err e)) fits = lone_again roots written patience rules (Reply ip protocol n t delay (Err e)) fits
rule_again roots written patience rules (Connect ip protocol delay e) fits = lone_again roots written patience rules (Connect ip protocol delay e) fits
rule_again roots written patience rules (Refuse ip protocol) fits = lone_again roots written patience rules (Refuse ip protocol) fits

rules_again : (roots : List IpAddr) (written : List OptionLine) (patience : ℕ) (front rules : List ScriptLine) → AllByRecursion IsScriptLine rules → run (scripted roots written patience front) (flat_map script_lines rules) ≡ Some (scripted roots written patience (front ++ rules))
rules_again roots written patience front [] all = ap (λ (l : List ScriptLine). Some (scripted roots written patience l)) (sym (append-nil front))
rules_again roots written patience front (r ∷ rules) all =
    run_append (scripted roots written patience front) (scripted roots written patience (front ++ r ∷ [])) (script_lines r) (flat_map script_lines rules) (rule_again roots written patience front r all.0)
    ∙ rules_again roots written patience (front ++ r ∷ []) rules all.1
    ∙ ap (λ (l : List ScriptLine). Some (scripted roots written patience l)) (append_assoc front (r ∷ []) rules)

-- ---- questions and turns

abbrev pub stage_asked : List Question → Stage
stage_asked [] = Scripted
stage_asked (q ∷ qs) = Asked

abbrev pub asking : List OptionLine → Scenario → List Question → Draft
asking written sc questions = record { stage = stage_asked questions; roots = sc.roots; written = written; patience = sc.patience; rules = rules_of sc.upstream; pending = None; questions = questions; turns = [] }

pub puts_question : (written : List OptionLine) (sc : Scenario) (front : List Question) (q : Question) → length front < most_questions → IsAsked (options_with written) q
    → put (asking written sc front) (form.Question q) ≡ Some (asking written sc (front ++ q ∷ []))
puts_question written sc [] q lt fits = let short : is_short written q ≡ true = lt-ltb _ _ fits.1 in rw short refl
puts_question written sc (p ∷ ps) q lt fits =
    let room : ltb (length (p ∷ ps)) most_questions ≡ true = lt-ltb _ _ lt in
    let short : is_short written q ≡ true = lt-ltb _ _ fits.1 in
    rw (room, short) refl

questions_again : (written : List OptionLine) (sc : Scenario) (front qs : List Question) → length front + length qs ≤ most_questions → AllByRecursion (IsAsked (options_with written)) qs
    → run (asking written sc front) (map question_line qs) ≡ Some (asking written sc (front ++ qs))
questions_again written sc front [] few all = ap (λ (l : List Question). Some (asking written sc l)) (sym (append-nil front))
questions_again written sc front (q ∷ qs) few all =
    takes_form (asking written sc front) (asking written sc (front ++ q ∷ [])) (form.Question q) (map question_line qs) refl all.0.0 (puts_question written sc front q (omega arith) all.0)
    ∙ questions_again written sc (front ++ q ∷ []) qs (omega (arith, length_push front q)) all.1
    ∙ ap (λ (l : List Question). Some (asking written sc l)) (append_assoc front (q ∷ []) qs)

-- the stage after turns that follow a stage
abbrev pub stage_turned : Stage → List Turn → Stage
stage_turned s [] = s
stage_turned s (t ∷ ts) = Turned

turned_push : (s : Stage) (ts : List Turn) (t : Turn) → stage_turned s (ts ++ t ∷ []) ≡ Turned
turned_push s [] t = refl
turned_push s (u ∷ ts) t = refl

turns_may : (qs : List Question) (ts : List Turn) → may_turn (stage_turned (stage_asked qs) ts) ≡ true
turns_may [] [] = refl
turns_may (q ∷ qs) [] = refl
turns_may qs (t ∷ ts) = refl

end_may : (qs : List Question) (ts : List Turn) → may_end (stage_turned (stage_asked qs) ts) ≡ true
end_may [] [] = refl
end_may (q ∷ qs) [] = refl
end_may qs (t ∷ ts) = refl

abbrev pub turning_at : Stage → List OptionLine → Scenario → List Turn → Draft
turning_at s written sc turns = record { stage = s; roots = sc.roots; written = written; patience = sc.patience; rules = rules_of sc.upstream; pending = None; questions = sc.questions; turns = turns }

abbrev pub turning : List OptionLine → Scenario → List Turn → Draft
turning written sc turns = turning_at (stage_turned (stage_asked sc.questions) turns) written sc turns

pub puts_turn : (written : List OptionLine) (sc : Scenario) (front : List Turn) (t : Turn) → length front < most_turns → last_moment 0 front ≤ t.moment → put (turning written sc front) (form.Turn t) ≡ Some (turning written sc (front ++ t ∷ []))
puts_turn written sc front t lt le =
    let room : ltb (length front) most_turns ≡ true = lt-ltb _ _ lt in
    let rises : leb (last_moment 0 front) t.moment ≡ true = le-leb _ _ le in
    rw (turns_may sc.questions front, room, rises) (ap (λ (s : Stage). Some (turning_at s written sc (front ++ t ∷ []))) (sym (turned_push (stage_asked sc.questions) front t)))

turns_again : (written : List OptionLine) (sc : Scenario) (front ts : List Turn) → length front + length ts ≤ most_turns → AllByRecursion IsTurn ts → NoneFalls (last_moment 0 front) ts
    → run (turning written sc front) (map turn_line ts) ≡ Some (turning written sc (front ++ ts))
turns_again written sc front [] few all timed = ap (λ (l : List Turn). Some (turning written sc l)) (sym (append-nil front))
turns_again written sc front (t ∷ ts) few all timed =
    takes_form (turning written sc front) (turning written sc (front ++ t ∷ [])) (form.Turn t) (map turn_line ts) refl all.0 (puts_turn written sc front t (omega arith) timed.0)
    ∙ turns_again written sc (front ++ t ∷ []) ts (omega (arith, length_push front t)) all.1 (subst (λ (n : ℕ). NoneFalls n ts) (sym (moment_push 0 front t)) timed.1)
    ∙ ap (λ (l : List Turn). Some (turning written sc l)) (append_assoc front (t ∷ []) ts)

pub puts_end : (written : List OptionLine) (sc : Scenario) → put (turning written sc sc.turns) form.End ≡ Some (turning_at Ended written sc sc.turns)
puts_end written sc = rw (end_may sc.questions sc.turns) refl

-- ---- all of it

first_root : (roots : List IpAddr) → 0 < length roots → length roots ≤ most_roots → AllByRecursion IsAddress roots → run start (to_roots roots) ≡ Some (with_roots roots)
first_root [] some few all = absurd (omega arith)
first_root (ip ∷ roots) some few all =
    takes_form start (record start { stage = Headed }) form.Head (map root_line (ip ∷ roots)) refl tt refl
    ∙ takes_form (record start { stage = Headed }) (with_roots (ip ∷ [])) (form.Root ip) (map root_line roots) refl all.0 refl
    ∙ roots_again (ip ∷ []) roots (omega arith) all.1

-- told these rules
abbrev pub with_rules : Scenario → List ScriptLine → Scenario
with_rules sc rules = record sc { upstream = FromScript (record { lines = rules }) }

options_are : (written : List OptionLine) (sc : Scenario) (rules : List ScriptLine) → sc.options ≡ options_with written → scenario_of (turning_at Ended written (with_rules sc rules) sc.turns) ≡ with_rules sc rules
options_are written sc rules is = λ i. record { roots = sc.roots; options = sym is i; patience = sc.patience; upstream = FromScript (record { lines = rules }); questions = sc.questions; turns = sc.turns }

-- the lines up to the patience
pub patience_again : (written : List OptionLine) (sc : Scenario) → IsScenario written sc → run start (to_patience sc.roots written sc.patience) ≡ Some (waiting sc.roots written sc.patience)
patience_again written sc fits =
    let r1 = first_root sc.roots fits.rooted fits.few_roots fits.roots in
    let r0 : run start (to_options sc.roots written) ≡ Some (with_options sc.roots written) = run_append start (with_roots sc.roots) (to_roots sc.roots) (map option_line written) r1
    ∙ options_again sc.roots [] written fits.ordered fits.valued in
    run_append start (with_options sc.roots written) (to_options sc.roots written) (spelled (patience_words sc.patience) ∷ []) r0
    ∙ takes_form (with_options sc.roots written) (waiting sc.roots written sc.patience) (form.Patience sc.patience) [] refl fits.patience (puts_patience sc.roots written sc.patience)

-- the questions are those that these lines have room for
pub asked_by : (written : List OptionLine) (sc : Scenario) → IsScenario written sc → AllByRecursion (IsAsked (options_with written)) sc.questions
asked_by written sc fits = subst (λ (o : RecursorOptions). AllByRecursion (IsAsked o) sc.questions) fits.options fits.questions

pub run_again : (written : List OptionLine) (of : Scenario) (rules : List ScriptLine) → IsScenario written (with_rules of rules) → (d : Draft) × (run start (scenario_lines written (with_rules of rules)) ≡ Some d) × (d.stage ≡ Ended) × (scenario_of d ≡ with_rules of rules)
run_again written of rules fits =
    let sc = with_rules of rules in
    let rested = waiting sc.roots written sc.patience in
    let r2 = patience_again written sc fits in
    let r3 : run start (to_told sc.roots written sc.patience) ≡ Some (scripted sc.roots written sc.patience []) = run_append start rested (to_patience sc.roots written sc.patience) (spelled told_words ∷ []) r2
    ∙ takes_form rested (scripted sc.roots written sc.patience []) form.ToldScript [] refl tt refl in
    let r4 : run start (to_rules written sc) ≡ Some (scripted sc.roots written sc.patience (rules_of sc.upstream)) = run_append start (scripted sc.roots written sc.patience []) (to_told sc.roots written sc.patience) (flat_map script_lines (rules_of sc.upstream)) r3
    ∙ rules_again sc.roots written sc.patience [] (rules_of sc.upstream) fits.upstream in
    let r5 : run start (to_questions written sc) ≡ Some (turning written sc []) = run_append start (scripted sc.roots written sc.patience (rules_of sc.upstream)) (to_rules written sc) (map question_line sc.questions) r4
    ∙ questions_again written sc [] sc.questions (omega (arith, fits.few_questions)) (asked_by written sc fits) in
    let r6 : run start (to_turns written sc) ≡ Some (turning written sc sc.turns) = run_append start (turning written sc []) (to_questions written sc) (map turn_line sc.turns) r5
    ∙ turns_again written sc [] sc.turns (omega (arith, fits.few_turns)) fits.turns fits.timed in
    let r7 : run start (scenario_lines written sc) ≡ Some (turning_at Ended written sc sc.turns) = run_append start (turning written sc sc.turns) (to_turns written sc) (spelled end_words ∷ []) r6
    ∙ takes_form (turning written sc sc.turns) (turning_at Ended written sc sc.turns) form.End [] refl tt (puts_end written sc) in
    (turning_at Ended written sc sc.turns, r7, refl, options_are written of rules fits.options)
