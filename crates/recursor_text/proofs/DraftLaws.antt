-- What a draft holds is what the lines so far say.
use Rattle.std.proofs.Common.{◌≡◌, ◌≢◌, ℕ, ◌<◌, ◌≤◌, true, false, ◌&&◌, eqb, ltb, leb, List, [], ◌∷◌, ◌++◌, length, Option, Some, None, refl, sym, ap, subst, ◌∙◌, arith, inl, inr, append_assoc, lit<, lit≤}
use Rattle.std.specs.Prelude.{IfSome}
use Rattle.std.specs.List.{AllByRecursion}
use Rattle.std.proofs.lemmas.Bool.{and_parts, ltb-true, leb-true, eqb-true, cases_Bool}
use Rattle.std.proofs.lemmas.List.{append-nil, map_push, flat_map_more, length_push}
use Rattle.std.specs.declared.net.ip_addr.IpAddr.{IpAddr}
use Rattle.dns_core.specs.declared.record.Record.{Record}
use Rattle.dns_core.specs.declared.request.Question.{Question}
use Rattle.dns_core.specs.declared.request.Turn.{Turn}
use Rattle.script_upstream.specs.declared.script.script.ScriptLine.{ScriptLine}
use Rattle.text_lines.specs.declared.lines.lines.Form.{Form}
use Rattle.text_lines.specs.declared.lines.lines.Form.TheVariants as form
use Rattle.text_lines.specs.declared.lines.option_form.OptionLine.{OptionLine}
use Rattle.text_lines.specs.declared.lines.rules.Counts.{Counts}
use Rattle.text_lines.specs.declared.lines.rules.OpenRule.{OpenRule}
use Rattle.recursor_text.specs.declared.reading.draft.Stage.{Stage}
use Rattle.recursor_text.specs.declared.reading.draft.Stage.TheVariants.{Start, Headed, Rooted, Optioned, Patient, Scripted, Asked, Turned, Ended}
use Rattle.recursor_text.specs.declared.reading.draft.Draft.{Draft}
use Rattle.text_lines.specs.Numbers.{◌>>=◌}
use Rattle.text_lines.specs.Lines.{form_of}
use Rattle.text_lines.specs.RecordLines.{record_of}
use Rattle.recursor_text.specs.Steps.{may_head, may_root, may_option, may_wait, may_tell, may_reply, may_ask, may_turn, may_end, is_ended, start, is_settled, rule_of, settle, add, is_short, put, taken_at, taken, scenario_of}
use Rattle.text_lines.specs.Spelling.{spelled, IsAddress}
use Rattle.text_lines.specs.LineSpelling.{head_words, patience_words, told_words, end_words, record_text, script_lines, root_line, option_line, question_line, turn_line, IsScriptLine, IsTurn, IsOption, option_rank, RiseAbove, last_rank, options_with}
use Rattle.recursor_text.specs.Spelling.{to_roots, to_options, to_patience, to_told, to_rules, to_questions, to_turns, scenario_lines, most_roots, most_questions, most_turns, NoneFalls, last_moment, IsAsked, IsScenario}
use Rattle.text_lines.proofs.StepsThatFail.{bind_some, guard_some, some_is}
use Rattle.text_lines.proofs.LineLaws.{rule_words, form_words, IsBare, IsLone, IsForm, lone_lines, form_takes}
use Rattle.text_lines.proofs.OptionLaws.{rise_push}
use Rattle.recursor_text.proofs.OpenRuleLaws.{all_push, mapped_push, IsOpen, open_lines, same_head, add_takes}
use Rattle.text_lines.proofs.RecordLaws.{record_takes}
use Rattle.recursor_text.proofs.TurnLaws.{timed_push}

-- ---- a draft

-- how far a stage is
abbrev pub rank : Stage → ℕ
rank Start = 0
rank Headed = 1
rank Rooted = 2
rank Optioned = 3
rank Patient = 4
rank Scripted = 5
rank Asked = 6
rank Turned = 7
rank Ended = 8

-- what is not yet told is empty, and what was told is well formed
pub record Good (d : Draft) : Type 0 where
  pub no_roots : rank d.stage < 2 → d.roots ≡ []
  pub rooted : 2 ≤ rank d.stage → 0 < length d.roots
  pub no_written : rank d.stage < 3 → d.written ≡ []
  pub patient : 4 ≤ rank d.stage → (1 ≤ d.patience) × (d.patience ≤ 1000)
  pub no_rules : rank d.stage < 5 → d.rules ≡ []
  pub no_pending : rank d.stage ≢ 5 → d.pending ≡ None
  pub no_questions : rank d.stage < 6 → d.questions ≡ []
  pub no_turns : rank d.stage < 7 → d.turns ≡ []
  pub few_roots : length d.roots ≤ most_roots
  pub roots : AllByRecursion IsAddress d.roots
  pub ordered : RiseAbove 0 d.written
  pub valued : AllByRecursion IsOption d.written
  pub rules : AllByRecursion IsScriptLine d.rules
  pub pending : IfSome d.pending IsOpen
  pub waits : IfSome d.pending (λ o. is_settled o.owed ≡ false)
  pub few_questions : length d.questions ≤ most_questions
  pub questions : AllByRecursion (IsAsked (options_with d.written)) d.questions
  pub few_turns : length d.turns ≤ most_turns
  pub turns : AllByRecursion IsTurn d.turns
  pub timed : NoneFalls 0 d.turns

abbrev pending_lines : Option OpenRule → List (List ℕ)
pending_lines None = []
pending_lines (Some o) = open_lines o

-- the lines so far
abbrev pub so_far_at : Stage → Draft → List (List ℕ)
so_far_at Start d = []
so_far_at Headed d = spelled head_words ∷ []
so_far_at Rooted d = to_roots d.roots
so_far_at Optioned d = to_options d.roots d.written
so_far_at Patient d = to_patience d.roots d.written d.patience
so_far_at Scripted d = to_rules d.written (scenario_of d) ++ pending_lines d.pending
so_far_at Asked d = to_questions d.written (scenario_of d)
so_far_at Turned d = to_turns d.written (scenario_of d)
so_far_at Ended d = scenario_lines d.written (scenario_of d)

abbrev pub so_far : Draft → List (List ℕ)
so_far d = so_far_at d.stage d

head_rank : (s : Stage) → may_head s ≡ true → s ≡ Start
head_rank Start e = refl
head_rank Headed e = absurd cc
head_rank Rooted e = absurd cc
head_rank Optioned e = absurd cc
head_rank Patient e = absurd cc
head_rank Scripted e = absurd cc
head_rank Asked e = absurd cc
head_rank Turned e = absurd cc
head_rank Ended e = absurd cc

pub tell_rank : (s : Stage) → may_tell s ≡ true → s ≡ Patient
tell_rank Patient e = refl
tell_rank Start e = absurd cc
tell_rank Headed e = absurd cc
tell_rank Rooted e = absurd cc
tell_rank Optioned e = absurd cc
tell_rank Scripted e = absurd cc
tell_rank Asked e = absurd cc
tell_rank Turned e = absurd cc
tell_rank Ended e = absurd cc

pub reply_rank : (s : Stage) → may_reply s ≡ true → s ≡ Scripted
reply_rank Scripted e = refl
reply_rank Start e = absurd cc
reply_rank Headed e = absurd cc
reply_rank Rooted e = absurd cc
reply_rank Optioned e = absurd cc
reply_rank Patient e = absurd cc
reply_rank Asked e = absurd cc
reply_rank Turned e = absurd cc
reply_rank Ended e = absurd cc

pub end_rank : (s : Stage) → is_ended s ≡ true → s ≡ Ended
end_rank Ended e = refl
end_rank Start e = absurd cc
end_rank Headed e = absurd cc
end_rank Rooted e = absurd cc
end_rank Optioned e = absurd cc
end_rank Patient e = absurd cc
end_rank Scripted e = absurd cc
end_rank Asked e = absurd cc
end_rank Turned e = absurd cc

wait_as : (s : Stage) → may_wait s ≡ may_option s
wait_as Start = refl
wait_as Headed = refl
wait_as Rooted = refl
wait_as Optioned = refl
wait_as Patient = refl
wait_as Scripted = refl
wait_as Asked = refl
wait_as Turned = refl
wait_as Ended = refl

end_as : (s : Stage) → may_end s ≡ may_turn s
end_as Start = refl
end_as Headed = refl
end_as Rooted = refl
end_as Optioned = refl
end_as Patient = refl
end_as Scripted = refl
end_as Asked = refl
end_as Turned = refl
end_as Ended = refl

abbrev Between : ℕ → ℕ → ℕ → Type 0
Between low high n = (low ≤ n) × (n ≤ high)

at_roots : (s : Stage) (d : Draft) → may_root s ≡ true → (rank s < 2 → d.roots ≡ []) → Between 1 2 (rank s) × (so_far_at s d ≡ to_roots d.roots)
at_roots Headed d e none = ((lit≤ tt, lit≤ tt), rw (none (lit< tt)) refl)
at_roots Rooted d e none = ((lit≤ tt, lit≤ tt), refl)
at_roots Optioned d e none = absurd cc
at_roots Start d e none = absurd cc
at_roots Patient d e none = absurd cc
at_roots Scripted d e none = absurd cc
at_roots Asked d e none = absurd cc
at_roots Turned d e none = absurd cc
at_roots Ended d e none = absurd cc

at_options : (s : Stage) (d : Draft) → may_option s ≡ true → (rank s < 3 → d.written ≡ []) → Between 2 3 (rank s) × (so_far_at s d ≡ to_options d.roots d.written)
at_options Rooted d e none = ((lit≤ tt, lit≤ tt), rw (none (lit< tt)) (sym (append-nil (to_roots d.roots))))
at_options Optioned d e none = ((lit≤ tt, lit≤ tt), refl)
at_options Start d e none = absurd cc
at_options Headed d e none = absurd cc
at_options Patient d e none = absurd cc
at_options Scripted d e none = absurd cc
at_options Asked d e none = absurd cc
at_options Turned d e none = absurd cc
at_options Ended d e none = absurd cc

at_questions : (s : Stage) (d : Draft) → may_ask s ≡ true → d.pending ≡ None → (rank s < 6 → d.questions ≡ []) → Between 5 6 (rank s) × (so_far_at s d ≡ to_questions d.written (scenario_of d))
at_questions Scripted d e shut none = ((lit≤ tt, lit≤ tt), rw (shut, none (lit< tt)) refl)
at_questions Asked d e shut none = ((lit≤ tt, lit≤ tt), refl)
at_questions Start d e shut none = absurd cc
at_questions Headed d e shut none = absurd cc
at_questions Rooted d e shut none = absurd cc
at_questions Optioned d e shut none = absurd cc
at_questions Patient d e shut none = absurd cc
at_questions Turned d e shut none = absurd cc
at_questions Ended d e shut none = absurd cc

at_turns : (s : Stage) (d : Draft) → may_turn s ≡ true → d.pending ≡ None → (rank s < 6 → d.questions ≡ []) → (rank s < 7 → d.turns ≡ []) → Between 5 7 (rank s) × (so_far_at s d ≡ to_turns d.written (scenario_of d))
at_turns Scripted d e shut none neither = ((lit≤ tt, lit≤ tt), rw (shut, none (lit< tt), neither (lit< tt)) (sym (append-nil (to_rules d.written (scenario_of d) ++ []))))
at_turns Asked d e shut none neither = ((lit≤ tt, lit≤ tt), rw (neither (lit< tt)) (sym (append-nil (to_questions d.written (scenario_of d)))))
at_turns Turned d e shut none neither = ((lit≤ tt, lit≤ tt), refl)
at_turns Start d e shut none neither = absurd cc
at_turns Headed d e shut none neither = absurd cc
at_turns Rooted d e shut none neither = absurd cc
at_turns Optioned d e shut none neither = absurd cc
at_turns Patient d e shut none neither = absurd cc
at_turns Ended d e shut none neither = absurd cc

-- a line more
abbrev pub Takes : Draft → List ℕ → Draft → Type 0
Takes d line e = Good e × (so_far e ≡ so_far d ++ line ∷ [])

headed : (d : Draft) → Good d → may_head d.stage ≡ true → d.pending ≡ None → Takes d (spelled head_words) (record d { stage = Headed })
headed d g e shut =
    let is : d.stage ≡ Start = head_rank d.stage e in
    let r : rank d.stage ≡ 0 = ap rank is in (
      record {
        no_roots = λ h. g.no_roots (omega arith);
        rooted = λ h. absurd (omega arith);
        no_written = λ h. g.no_written (omega arith);
        patient = λ h. absurd (omega arith);
        no_rules = λ h. g.no_rules (omega arith);
        no_pending = λ h. shut;
        no_questions = λ h. g.no_questions (omega arith);
        no_turns = λ h. g.no_turns (omega arith);
        few_roots = g.few_roots;
        roots = g.roots;
        ordered = g.ordered;
        valued = g.valued;
        rules = g.rules;
        pending = g.pending;
        waits = g.waits;
        few_questions = g.few_questions;
        questions = g.questions;
        few_turns = g.few_turns;
        turns = g.turns;
        timed = g.timed;
      },
      sym (ap (λ (s : Stage). so_far_at s d ++ spelled head_words ∷ []) is),
    )

none_of : {X : Type 0} (P : X → Type 0) (xs : List X) → xs ≡ [] → AllByRecursion P xs
none_of P xs e = subst (AllByRecursion P) (sym e) tt

abbrev with_root : Draft → IpAddr → Draft
with_root d ip = record d { stage = Rooted; roots = d.roots ++ ip ∷ [] }

rooted : (d : Draft) (ip : IpAddr) → Good d → IsAddress ip → may_root d.stage ≡ true → length d.roots < most_roots → d.pending ≡ None → Takes d (root_line ip) (with_root d ip)
rooted d ip g fits e room shut =
    let at = at_roots d.stage d e g.no_roots in (
      record {
        no_roots = λ h. absurd (omega arith);
        rooted = λ h. omega (arith, length_push d.roots ip);
        no_written = λ h. g.no_written (omega (arith, at.0.1));
        patient = λ h. absurd (omega arith);
        no_rules = λ h. g.no_rules (omega (arith, at.0.1));
        no_pending = λ h. shut;
        no_questions = λ h. g.no_questions (omega (arith, at.0.1));
        no_turns = λ h. g.no_turns (omega (arith, at.0.1));
        few_roots = omega (arith, length_push d.roots ip);
        roots = all_push IsAddress d.roots ip g.roots fits;
        ordered = g.ordered;
        valued = g.valued;
        rules = g.rules;
        pending = g.pending;
        waits = g.waits;
        few_questions = g.few_questions;
        questions = g.questions;
        few_turns = g.few_turns;
        turns = g.turns;
        timed = g.timed;
      },
      ap (λ (l : List (List ℕ)). spelled head_words ∷ l) (map_push root_line d.roots ip) ∙ sym (ap (λ (l : List (List ℕ)). l ++ root_line ip ∷ []) at.1),
    )

abbrev with_option : Draft → OptionLine → Draft
with_option d o = record d { stage = Optioned; written = d.written ++ o ∷ [] }

optioned : (d : Draft) (o : OptionLine) → Good d → IsOption o → may_option d.stage ≡ true → last_rank 0 d.written < option_rank o → d.pending ≡ None → Takes d (option_line o) (with_option d o)
optioned d o g fits e behind shut =
    let at = at_options d.stage d e g.no_written in (
      record {
        no_roots = λ h. absurd (omega arith);
        rooted = λ h. g.rooted (omega (arith, at.0.0));
        no_written = λ h. absurd (omega arith);
        patient = λ h. absurd (omega arith);
        no_rules = λ h. g.no_rules (omega (arith, at.0.1));
        no_pending = λ h. shut;
        no_questions = λ h. g.no_questions (omega (arith, at.0.1));
        no_turns = λ h. g.no_turns (omega (arith, at.0.1));
        few_roots = g.few_roots;
        roots = g.roots;
        ordered = rise_push 0 d.written o g.ordered behind;
        valued = all_push IsOption d.written o g.valued fits;
        rules = g.rules;
        pending = g.pending;
        waits = g.waits;
        few_questions = g.few_questions;
        questions = none_of _ d.questions (g.no_questions (omega (arith, at.0.1)));
        few_turns = g.few_turns;
        turns = g.turns;
        timed = g.timed;
      },
      mapped_push option_line (to_roots d.roots) d.written o ∙ sym (ap (λ (l : List (List ℕ)). l ++ option_line o ∷ []) at.1),
    )

patient : (d : Draft) (n : ℕ) → Good d → (1 ≤ n) × (n ≤ 1000) → may_wait d.stage ≡ true → d.pending ≡ None → Takes d (spelled (patience_words n)) (record d { stage = Patient; patience = n })
patient d n g fits e shut =
    let at = at_options d.stage d (sym (wait_as d.stage) ∙ e) g.no_written in (
      record {
        no_roots = λ h. absurd (omega arith);
        rooted = λ h. g.rooted (omega (arith, at.0.0));
        no_written = λ h. absurd (omega arith);
        patient = λ h. fits;
        no_rules = λ h. g.no_rules (omega (arith, at.0.1));
        no_pending = λ h. shut;
        no_questions = λ h. g.no_questions (omega (arith, at.0.1));
        no_turns = λ h. g.no_turns (omega (arith, at.0.1));
        few_roots = g.few_roots;
        roots = g.roots;
        ordered = g.ordered;
        valued = g.valued;
        rules = g.rules;
        pending = g.pending;
        waits = g.waits;
        few_questions = g.few_questions;
        questions = g.questions;
        few_turns = g.few_turns;
        turns = g.turns;
        timed = g.timed;
      },
      sym (ap (λ (l : List (List ℕ)). l ++ spelled (patience_words n) ∷ []) at.1),
    )

nothing_told : (d : Draft) → d.rules ≡ [] → d.pending ≡ None → so_far_at Scripted d ≡ to_patience d.roots d.written d.patience ++ spelled told_words ∷ []
nothing_told d none shut = rw (none, shut) (append-nil (to_told d.roots d.written d.patience ++ []) ∙ append-nil (to_told d.roots d.written d.patience))

pub told : (d : Draft) → Good d → may_tell d.stage ≡ true → d.pending ≡ None → Takes d (spelled told_words) (record d { stage = Scripted })
told d g e shut =
    let is : d.stage ≡ Patient = tell_rank d.stage e in
    let r : rank d.stage ≡ 4 = ap rank is in
    let no_rules : d.rules ≡ [] = g.no_rules (omega arith) in (
      record {
        no_roots = λ h. absurd (omega arith);
        rooted = λ h. g.rooted (omega arith);
        no_written = λ h. absurd (omega arith);
        patient = λ h. g.patient (omega arith);
        no_rules = λ h. absurd (omega arith);
        no_pending = λ h. shut;
        no_questions = λ h. g.no_questions (omega arith);
        no_turns = λ h. g.no_turns (omega arith);
        few_roots = g.few_roots;
        roots = g.roots;
        ordered = g.ordered;
        valued = g.valued;
        rules = g.rules;
        pending = g.pending;
        waits = g.waits;
        few_questions = g.few_questions;
        questions = g.questions;
        few_turns = g.few_turns;
        turns = g.turns;
        timed = g.timed;
      },
      nothing_told d no_rules shut ∙ sym (ap (λ (s : Stage). so_far_at s d ++ spelled told_words ∷ []) is),
    )

-- the lines so far, where no rule is open
so_far_ruled : (d : Draft) → d.stage ≡ Scripted → d.pending ≡ None → so_far d ≡ to_rules d.written (scenario_of d)
so_far_ruled d is shut =
    ap (λ (s : Stage). so_far_at s d) is ∙ ap (λ (p : Option OpenRule). to_rules d.written (scenario_of d) ++ pending_lines p) shut ∙ append-nil (to_rules d.written (scenario_of d))

abbrev shut_in : Draft → OpenRule → Draft
shut_in d o = record d { rules = d.rules ++ rule_of o ∷ []; pending = None }

abbrev left_in : Draft → OpenRule → Draft
left_in d o = record d { pending = Some o }

none_owed : (c : Counts) → is_settled c ≡ true → (c.answers ≡ 0) × (c.authorities ≡ 0) × (c.additionals ≡ 0)
none_owed c e =
    let p = and_parts (eqb c.answers 0 && eqb c.authorities 0) (eqb c.additionals 0) e in
    let q = and_parts (eqb c.answers 0) (eqb c.authorities 0) p.0 in
    (eqb-true c.answers 0 q.0, eqb-true c.authorities 0 q.1, eqb-true c.additionals 0 p.1)

is_rule : (o : OpenRule) → IsOpen o → (o.owed.answers ≡ 0) × (o.owed.authorities ≡ 0) × (o.owed.additionals ≡ 0) → IsScriptLine (rule_of o)
is_rule o fits z = record {
  address = fits.address;
  transport = fits.transport;
  named = fits.named;
  typed = fits.typed;
  soon = fits.soon;
  query = λ i. record { name = o.message.query.name; query_type = o.message.query.query_type; query_class = fits.class i };
  fine = fits.fine;
  few_answers = omega (arith, fits.few_answers, z.0);
  few_authorities = omega (arith, fits.few_authorities, z.1);
  few_additionals = omega (arith, fits.few_additionals, z.2);
  answers = fits.answers;
  authorities = fits.authorities;
  additionals = fits.additionals;
}

-- A rule that is told in part, or whole, stands after the rules before it.
settled : (d : Draft) (o : OpenRule) (line : List ℕ) → Good d → d.stage ≡ Scripted → IsOpen o → to_rules d.written (scenario_of d) ++ open_lines o ≡ so_far d ++ line ∷ [] → Takes d line (settle d o)
settled d o line g is fits lines =
    let r : rank d.stage ≡ 5 = ap rank is in
    elim (cases_Bool (is_settled o.owed)) [
      | inl whole ↦
          let z = none_owed o.owed whole in
          let made : settle d o ≡ shut_in d o = rw whole refl in
          let rule : open_lines o ≡ script_lines (rule_of o) = same_head o _ _ _ _ _ _ _ _ (omega (arith, z.0)) (omega (arith, z.1)) (omega (arith, z.2)) refl in
          let spelt : so_far (shut_in d o) ≡ to_rules d.written (scenario_of d) ++ open_lines o =
          ap (λ (s : Stage). so_far_at s (shut_in d o)) is ∙ append-nil (to_rules d.written (scenario_of (shut_in d o)))
          ∙ sym (flat_map_more script_lines (to_told d.roots d.written d.patience) d.rules (rule_of o)) ∙ sym (ap (λ (l : List (List ℕ)). to_rules d.written (scenario_of d) ++ l) rule) in
          subst (Takes d line) (sym made) (
            record {
              no_roots = λ h. absurd (omega arith);
              rooted = λ h. g.rooted (omega arith);
              no_written = λ h. absurd (omega arith);
              patient = λ h. g.patient (omega arith);
              no_rules = λ h. absurd (omega arith);
              no_pending = λ h. refl;
              no_questions = g.no_questions;
              no_turns = g.no_turns;
              few_roots = g.few_roots;
              roots = g.roots;
              ordered = g.ordered;
              valued = g.valued;
              rules = all_push IsScriptLine d.rules (rule_of o) g.rules (is_rule o fits z);
              pending = tt;
              waits = tt;
              few_questions = g.few_questions;
              questions = g.questions;
              few_turns = g.few_turns;
              turns = g.turns;
              timed = g.timed;
            },
            spelt ∙ lines,
          )
      | inr part ↦
          let made : settle d o ≡ left_in d o = rw part refl in
          subst (Takes d line) (sym made) (
            record {
              no_roots = g.no_roots;
              rooted = g.rooted;
              no_written = g.no_written;
              patient = g.patient;
              no_rules = g.no_rules;
              no_pending = λ h. absurd (h r);
              no_questions = g.no_questions;
              no_turns = g.no_turns;
              few_roots = g.few_roots;
              roots = g.roots;
              ordered = g.ordered;
              valued = g.valued;
              rules = g.rules;
              pending = fits;
              waits = part;
              few_questions = g.few_questions;
              questions = g.questions;
              few_turns = g.few_turns;
              turns = g.turns;
              timed = g.timed;
            },
            ap (λ (s : Stage). so_far_at s (left_in d o)) is ∙ lines,
          )
    ]

abbrev with_rule : Draft → ScriptLine → Draft
with_rule d line = record d { rules = d.rules ++ line ∷ [] }

ruled : (d : Draft) (line : ScriptLine) → Good d → IsLone line → may_reply d.stage ≡ true → d.pending ≡ None → Takes d (spelled (rule_words line)) (with_rule d line)
ruled d line g fits e shut =
    let is : d.stage ≡ Scripted = reply_rank d.stage e in
    let r : rank d.stage ≡ 5 = ap rank is in
    let lone = lone_lines line fits in
    let before : so_far d ≡ to_rules d.written (scenario_of d) = so_far_ruled d is shut in
    let after : so_far (with_rule d line) ≡ to_rules d.written (scenario_of (with_rule d line)) = so_far_ruled (with_rule d line) is shut in (
      record {
        no_roots = λ h. absurd (omega arith);
        rooted = λ h. g.rooted (omega arith);
        no_written = λ h. absurd (omega arith);
        patient = λ h. g.patient (omega arith);
        no_rules = λ h. absurd (omega arith);
        no_pending = λ h. shut;
        no_questions = g.no_questions;
        no_turns = g.no_turns;
        few_roots = g.few_roots;
        roots = g.roots;
        ordered = g.ordered;
        valued = g.valued;
        rules = all_push IsScriptLine d.rules line g.rules lone.1;
        pending = g.pending;
        waits = g.waits;
        few_questions = g.few_questions;
        questions = g.questions;
        few_turns = g.few_turns;
        turns = g.turns;
        timed = g.timed;
      },
      after ∙ sym (flat_map_more script_lines (to_told d.roots d.written d.patience) d.rules line) ∙ ap (λ (l : List (List ℕ)). to_rules d.written (scenario_of d) ++ l) lone.0
          ∙ sym (ap (λ (l : List (List ℕ)). l ++ spelled (rule_words line) ∷ []) before),
    )

abbrev pub with_question : Draft → Question → Draft
with_question d q = record d { stage = Asked; questions = d.questions ++ q ∷ [] }

pub asked : (d : Draft) (q : Question) → Good d → IsAsked (options_with d.written) q → may_ask d.stage ≡ true → length d.questions < most_questions → d.pending ≡ None → Takes d (question_line q) (with_question d q)
asked d q g fits e room shut =
    let at = at_questions d.stage d e shut g.no_questions in (
      record {
        no_roots = λ h. absurd (omega arith);
        rooted = λ h. g.rooted (omega (arith, at.0.0));
        no_written = λ h. absurd (omega arith);
        patient = λ h. g.patient (omega (arith, at.0.0));
        no_rules = λ h. absurd (omega arith);
        no_pending = λ h. shut;
        no_questions = λ h. absurd (omega arith);
        no_turns = λ h. g.no_turns (omega (arith, at.0.1));
        few_roots = g.few_roots;
        roots = g.roots;
        ordered = g.ordered;
        valued = g.valued;
        rules = g.rules;
        pending = g.pending;
        waits = g.waits;
        few_questions = omega (arith, length_push d.questions q);
        questions = all_push (IsAsked (options_with d.written)) d.questions q g.questions fits;
        few_turns = g.few_turns;
        turns = g.turns;
        timed = g.timed;
      },
      mapped_push question_line (to_rules d.written (scenario_of d)) d.questions q ∙ sym (ap (λ (l : List (List ℕ)). l ++ question_line q ∷ []) at.1),
    )

abbrev pub with_turn : Draft → Turn → Draft
with_turn d t = record d { stage = Turned; turns = d.turns ++ t ∷ [] }

pub turned : (d : Draft) (t : Turn) → Good d → IsTurn t → may_turn d.stage ≡ true → length d.turns < most_turns → last_moment 0 d.turns ≤ t.moment → d.pending ≡ None → Takes d (turn_line t) (with_turn d t)
turned d t g fits e room rises shut =
    let at = at_turns d.stage d e shut g.no_questions g.no_turns in (
      record {
        no_roots = λ h. absurd (omega arith);
        rooted = λ h. g.rooted (omega (arith, at.0.0));
        no_written = λ h. absurd (omega arith);
        patient = λ h. g.patient (omega (arith, at.0.0));
        no_rules = λ h. absurd (omega arith);
        no_pending = λ h. shut;
        no_questions = λ h. absurd (omega arith);
        no_turns = λ h. absurd (omega arith);
        few_roots = g.few_roots;
        roots = g.roots;
        ordered = g.ordered;
        valued = g.valued;
        rules = g.rules;
        pending = g.pending;
        waits = g.waits;
        few_questions = g.few_questions;
        questions = g.questions;
        few_turns = omega (arith, length_push d.turns t);
        turns = all_push IsTurn d.turns t g.turns fits;
        timed = timed_push 0 d.turns t g.timed rises;
      },
      mapped_push turn_line (to_questions d.written (scenario_of d)) d.turns t ∙ sym (ap (λ (l : List (List ℕ)). l ++ turn_line t ∷ []) at.1),
    )

pub ended : (d : Draft) → Good d → may_end d.stage ≡ true → d.pending ≡ None → Takes d (spelled end_words) (record d { stage = Ended })
ended d g e shut =
    let at = at_turns d.stage d (sym (end_as d.stage) ∙ e) shut g.no_questions g.no_turns in (
      record {
        no_roots = λ h. absurd (omega arith);
        rooted = λ h. g.rooted (omega (arith, at.0.0));
        no_written = λ h. absurd (omega arith);
        patient = λ h. g.patient (omega (arith, at.0.0));
        no_rules = λ h. absurd (omega arith);
        no_pending = λ h. shut;
        no_questions = λ h. absurd (omega arith);
        no_turns = λ h. absurd (omega arith);
        few_roots = g.few_roots;
        roots = g.roots;
        ordered = g.ordered;
        valued = g.valued;
        rules = g.rules;
        pending = g.pending;
        waits = g.waits;
        few_questions = g.few_questions;
        questions = g.questions;
        few_turns = g.few_turns;
        turns = g.turns;
        timed = g.timed;
      },
      sym (ap (λ (l : List (List ℕ)). l ++ spelled end_words ∷ []) at.1),
    )

none_long : (rs : List Record) → rs ≡ [] → length rs ≡ 0
none_long rs e = ap length e

is_new : (o : OpenRule) → IsBare o → IsOpen o
is_new o b = record {
  address = b.address;
  transport = b.transport;
  named = b.named;
  typed = b.typed;
  soon = b.soon;
  class = b.class;
  fine = b.fine;
  few_answers = omega (arith, b.few.0, none_long o.message.answers b.no_answers);
  few_authorities = omega (arith, b.few.1, none_long o.message.authorities b.no_authorities);
  few_additionals = omega (arith, b.few.2, none_long o.message.additionals b.no_additionals);
  answers = none_of _ o.message.answers b.no_answers;
  authorities = none_of _ o.message.authorities b.no_authorities;
  additionals = none_of _ o.message.additionals b.no_additionals;
  first = λ h. (b.no_authorities, b.no_additionals);
  second = λ h. b.no_additionals;
}

-- the lines of a rule that has no record yet
new_lines : (o : OpenRule) → IsBare o → open_lines o ≡ spelled (form_words (form.Reply o)) ∷ []
new_lines o b = same_head o _ _ _ _ _ _ _ _ (omega (arith, none_long o.message.answers b.no_answers)) (omega (arith, none_long o.message.authorities b.no_authorities)) (omega (arith, none_long o.message.additionals b.no_additionals))
    (rw (b.no_answers, b.no_authorities, b.no_additionals) refl)

-- what a draft that takes a question has tested
pub record CanAsk (d : Draft) (q : Question) : Type 0 where
  pub may : may_ask d.stage ≡ true
  pub room : length d.questions < most_questions
  pub short : length q.query.name.labels < (options_with d.written).ns_recursion_limit

pub may_be_asked : (d : Draft) (q : Question) → (may_ask d.stage && ltb (length d.questions) most_questions && is_short d.written q) ≡ true → CanAsk d q
may_be_asked d q e =
    let p = and_parts (may_ask d.stage && ltb (length d.questions) most_questions) (is_short d.written q) e in
    let r = and_parts (may_ask d.stage) (ltb (length d.questions) most_questions) p.0 in
    record { may = r.0; room = ltb-true _ _ r.1; short = ltb-true _ _ p.1 }

put_takes : (d : Draft) (f : Form) (e : Draft) → Good d → d.pending ≡ None → IsForm f → put d f ≡ Some e → Takes d (spelled (form_words f)) e
put_takes d form.Head e g shut fits h =
    let k = guard_some (may_head d.stage) _ e h in
    subst (Takes d (spelled head_words)) (some_is (record d { stage = Headed }) e k.1) (headed d g k.0 shut)
put_takes d (form.Root ip) e g shut fits h =
    let k = guard_some (may_root d.stage && ltb (length d.roots) most_roots) (Some (with_root d ip)) e h in
    let p = and_parts (may_root d.stage) (ltb (length d.roots) most_roots) k.0 in
    subst (Takes d (root_line ip)) (some_is (with_root d ip) e k.1) (rooted d ip g fits p.0 (ltb-true _ _ p.1) shut)
put_takes d (form.Option o) e g shut fits h =
    let k = guard_some (may_option d.stage && ltb (last_rank 0 d.written) (option_rank o)) (Some (with_option d o)) e h in
    let p = and_parts (may_option d.stage) (ltb (last_rank 0 d.written) (option_rank o)) k.0 in
    subst (Takes d (option_line o)) (some_is (with_option d o) e k.1) (optioned d o g fits p.0 (ltb-true _ _ p.1) shut)
put_takes d (form.Patience n) e g shut fits h =
    let k = guard_some (may_wait d.stage) _ e h in
    subst (Takes d (spelled (patience_words n))) (some_is (record d { stage = Patient; patience = n }) e k.1) (patient d n g fits k.0 shut)
put_takes d form.ToldScript e g shut fits h =
    let k = guard_some (may_tell d.stage) _ e h in
    subst (Takes d (spelled told_words)) (some_is (record d { stage = Scripted }) e k.1) (told d g k.0 shut)
put_takes d (form.Reply o) e g shut fits h =
    let line = spelled (form_words (form.Reply o)) in
    let k = guard_some (may_reply d.stage) (Some (settle d o)) e h in
    let is : d.stage ≡ Scripted = reply_rank d.stage k.0 in
    let before : so_far d ≡ to_rules d.written (scenario_of d) = so_far_ruled d is shut in
    subst (Takes d line) (some_is (settle d o) e k.1) (settled d o line g is (is_new o fits)
    (ap (λ (l : List (List ℕ)). to_rules d.written (scenario_of d) ++ l) (new_lines o fits) ∙ sym (ap (λ (l : List (List ℕ)). l ++ line ∷ []) before)))
put_takes d (form.Rule line) e g shut fits h =
    let k = guard_some (may_reply d.stage) (Some (with_rule d line)) e h in
    subst (Takes d (spelled (rule_words line))) (some_is (with_rule d line) e k.1) (ruled d line g fits k.0 shut)
put_takes d (form.Question q) e g shut fits h =
    let k = guard_some (may_ask d.stage && ltb (length d.questions) most_questions && is_short d.written q) (Some (with_question d q)) e h in
    let a = may_be_asked d q k.0 in
    subst (Takes d (question_line q)) (some_is (with_question d q) e k.1) (asked d q g (fits, a.short) a.may a.room shut)
put_takes d (form.Turn t) e g shut fits h =
    let k = guard_some (may_turn d.stage && ltb (length d.turns) most_turns && leb (last_moment 0 d.turns) t.moment) (Some (with_turn d t)) e h in
    let p = and_parts (may_turn d.stage && ltb (length d.turns) most_turns) (leb (last_moment 0 d.turns) t.moment) k.0 in
    let q = and_parts (may_turn d.stage) (ltb (length d.turns) most_turns) p.0 in
    subst (Takes d (turn_line t)) (some_is (with_turn d t) e k.1) (turned d t g fits q.0 (ltb-true _ _ q.1) (leb-true _ _ p.1) shut)
put_takes d form.End e g shut fits h =
    let k = guard_some (may_end d.stage) _ e h in
    subst (Takes d (spelled end_words)) (some_is (record d { stage = Ended }) e k.1) (ended d g k.0 shut)

scripted : (s : Stage) (p : Option OpenRule) (o : OpenRule) → p ≡ Some o → (rank s ≢ 5 → p ≡ None) → s ≡ Scripted
scripted Scripted p o is shut = refl
scripted Start p o is shut = absurd (let h : p ≡ None = shut (λ e. omega arith) in cc)
scripted Headed p o is shut = absurd (let h : p ≡ None = shut (λ e. omega arith) in cc)
scripted Rooted p o is shut = absurd (let h : p ≡ None = shut (λ e. omega arith) in cc)
scripted Optioned p o is shut = absurd (let h : p ≡ None = shut (λ e. omega arith) in cc)
scripted Patient p o is shut = absurd (let h : p ≡ None = shut (λ e. omega arith) in cc)
scripted Asked p o is shut = absurd (let h : p ≡ None = shut (λ e. omega arith) in cc)
scripted Turned p o is shut = absurd (let h : p ≡ None = shut (λ e. omega arith) in cc)
scripted Ended p o is shut = absurd (let h : p ≡ None = shut (λ e. omega arith) in cc)

taken_at_takes : (p : Option OpenRule) (d : Draft) (line : List ℕ) (e : Draft) → d.pending ≡ p → Good d → taken_at p d line ≡ Some e → Takes d line e
taken_at_takes None d line e is g h =
    let b = bind_some (form_of line) (put d) e h in
    let t = form_takes line b.0 b.1 in
    subst (λ (l : List ℕ). Takes d l e) (sym t.0) (put_takes d b.0 e g is t.1 b.2)
taken_at_takes (Some o) d line e is g h =
    let b = bind_some (record_of line) (λ r. add o r >>= λ p. Some (settle d p)) e h in
    let t = record_takes line b.0 b.1 in
    let a = bind_some (add o b.0) (λ p. Some (settle d p)) e b.2 in
    let opened : IsOpen o = subst (λ (p : Option OpenRule). IfSome p IsOpen) is g.pending in
    let s = add_takes o b.0 a.0 opened t.1 a.1 in
    let stage : d.stage ≡ Scripted = scripted d.stage d.pending o is g.no_pending in
    let base = to_rules d.written (scenario_of d) in
    let before : so_far d ≡ base ++ open_lines o = ap (λ (s : Stage). so_far_at s d) stage ∙ ap (λ (p : Option OpenRule). to_rules d.written (scenario_of d) ++ pending_lines p) is in
    let lines : base ++ open_lines a.0 ≡ so_far d ++ record_text b.0 ∷ [] =
    ap (λ (l : List (List ℕ)). base ++ l) s.1 ∙ sym (append_assoc base (open_lines o) (record_text b.0 ∷ [])) ∙ sym (ap (λ (l : List (List ℕ)). l ++ record_text b.0 ∷ []) before) in
    subst (λ (l : List ℕ). Takes d l e) (sym t.0) (subst (Takes d (record_text b.0)) (some_is (settle d a.0) e a.2) (settled d a.0 (record_text b.0) g stage s.0 lines))

pub taken_takes : (d : Draft) (line : List ℕ) (e : Draft) → Good d → taken d line ≡ Some e → Takes d line e
taken_takes d line e g h = taken_at_takes d.pending d line e refl g h

pub start_good : Good start
start_good = record {
  no_roots = λ h. refl;
  rooted = λ h. absurd (omega arith);
  no_written = λ h. refl;
  patient = λ h. absurd (omega arith);
  no_rules = λ h. refl;
  no_pending = λ h. refl;
  no_questions = λ h. refl;
  no_turns = λ h. refl;
  few_roots = lit≤ tt;
  roots = tt;
  ordered = tt;
  valued = tt;
  rules = tt;
  pending = tt;
  waits = tt;
  few_questions = lit≤ tt;
  questions = tt;
  few_turns = lit≤ tt;
  turns = tt;
  timed = tt;
}

pub ended_is : (d : Draft) → Good d → is_ended d.stage ≡ true → IsScenario d.written (scenario_of d) × (so_far d ≡ scenario_lines d.written (scenario_of d))
ended_is d g e =
    let is : d.stage ≡ Ended = end_rank d.stage e in
    let r : rank d.stage ≡ 8 = ap rank is in (
      record {
        rooted = g.rooted (omega arith);
        few_roots = g.few_roots;
        roots = g.roots;
        ordered = g.ordered;
        valued = g.valued;
        options = refl;
        patience = g.patient (omega arith);
        upstream = g.rules;
        few_questions = g.few_questions;
        questions = g.questions;
        few_turns = g.few_turns;
        turns = g.turns;
        timed = g.timed;
      },
      ap (λ (s : Stage). so_far_at s d) is,
    )
