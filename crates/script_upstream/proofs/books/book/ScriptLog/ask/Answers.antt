use Rattle.std.proofs.Common.{◌≡◌, ◌+◌, ◌∷◌, ◌++◌, [], Option, None, IsSome, length, slice_get, refl, sym, ◌∙◌, ap, subst}
use Rattle.std.specs.Prelude.{unwrap_or, option_and_then}
use Rattle.std.specs.Option.{option_map}
use Rattle.std.specs.HashMap.{get}
use Rattle.dns_core.specs.declared.log.LogEntry.TheVariants.{Asked}
use Rattle.script_upstream.specs.Keys.{same_asking}
use Rattle.script_upstream.specs.Course.{reply_course}
use Rattle.script_upstream.specs.Giving.{asking_of}
use Rattle.script_upstream.specs.Book.{told}
use Rattle.script_upstream.specs.declared.courses.course.ScriptedReply.TheVariants.{Never}
use Rattle.script_upstream.specs.declared.courses.index.Turns.{Turns}
use Rattle.script_upstream.proofs.MapAfterPut.{places_of, used_of, same_turns, Leaves, places_left, used_left, used_up, none_used}
use Rattle.script_upstream.proofs.LogHoldsOn.{held, begun, not_begun, counts_still, counts_asked, knows_still, turn_course, question_is}
use Rattle.script_upstream.proofs.books.book.ScriptLog.ask.Goals as goal

pub returns-in_err-course-in-Some-clause-holds : goal.returns-in_err-course-in-Some-clause-holds
returns-in_err-course-in-Some-clause-holds c =
    let m = c.next_number.new.self in
    let next = c.next_number.ensures in
    let h = held c.args.self.now m next.told next.open next.same c.requires.holds in
    let k = c.in_ok-asking.asking in
    let t = c.in-Some.turns.now in
    let some : IsSome (get same_asking m.index.replies k) = subst (λ (o : Option Turns). IsSome o) c.in-Some.ensures.value refl in
    let leaves : Leaves m.index.replies (c.get_mut.follows.lender t) k t t = (c.in-Some.ensures.value, ((c.get_mut.follows.holds t).3 some).0) in
    let left = record m.index { replies = c.get_mut.follows.lender t } in
    not_begun m _ refl refl refl (λ n d is. is)
    (counts_still m.script (told m) m.index left h.counts (used_left m.index.replies (c.get_mut.follows.lender t) k t t leaves refl))
    (knows_still m.script m.index left h.knows (places_left m.index.replies (c.get_mut.follows.lender t) k t t leaves refl) refl) h

pub returns-in_err-begin-in-Some-clause-holds : goal.returns-in_err-begin-in-Some-clause-holds
returns-in_err-begin-in-Some-clause-holds c =
    let m = c.next_number.new.self in
    let next = c.next_number.ensures in
    let h = held c.args.self.now m next.told next.open next.same c.requires.holds in
    let k = c.in_ok-asking.asking in
    let t = c.in-Some.turns.now in
    let some : IsSome (get same_asking m.index.replies k) = subst (λ (o : Option Turns). IsSome o) c.in-Some.ensures.value refl in
    let leaves : Leaves m.index.replies (c.get_mut.follows.lender t) k t t = (c.in-Some.ensures.value, ((c.get_mut.follows.holds t).3 some).0) in
    let left = record m.index { replies = c.get_mut.follows.lender t } in
    not_begun m _ refl refl c.in_err-begin-in-Some.ensures.same c.in_err-begin-in-Some.ensures.fewer
    (counts_still m.script (told m) m.index left h.counts (used_left m.index.replies (c.get_mut.follows.lender t) k t t leaves refl))
    (knows_still m.script m.index left h.knows (places_left m.index.replies (c.get_mut.follows.lender t) k t t leaves refl) refl) h

pub returns-in-Some-clause-holds : goal.returns-in-Some-clause-holds
returns-in-Some-clause-holds c =
    let m = c.next_number.new.self in
    let next = c.next_number.ensures in
    let h = held c.args.self.now m next.told next.open next.same c.requires.holds in
    let p = c.args.endpoint in
    let q = c.args.query.now in
    let asked = c.in_ok-asked.asked in
    let e = Asked p.ip p.protocol asked c.args.now None in
    let k = c.in_ok-asking.asking in
    let k_is : k ≡ asking_of p asked = c.in_ok-asking.ensures ∙ ap (asking_of p) (sym c.in_ok-asked.ensures) in
    let t = c.in-Some.turns.now in
    let w = c.advance.new.self in
    let left = record m.index { replies = c.get_mut.follows.lender w } in
    let some : IsSome (get same_asking m.index.replies k) = subst (λ (o : Option Turns). IsSome o) c.in-Some.ensures.value refl in
    let leaves : Leaves m.index.replies left.replies k t w = (c.in-Some.ensures.value, ((c.get_mut.follows.holds w).3 some).0) in
    let place_is = c.place.ensures ∙ ap (λ o. slice_get (places_of o) (used_of o)) c.in-Some.ensures.value in
    let course_is = c.in_ok-course-in-Some.ensures.course ∙ ap (λ o. unwrap_or (option_map (reply_course q) (option_and_then (slice_get m.script.lines) o)) Never) place_is ∙ turn_course m.script (told m) m.index k q h.counts h.knows in
    let number_is = c.in_ok-number.ensures.number ∙ ap (λ es. length es + 1) (sym next.told) in
    let entry_is = c.in_ok-begin-in-Some.ensures.noted ∙ ap (λ x. m.log ++ x ∷ []) c.asked_entry-entry.ensures in
    let fresh = question_is m.script (told m) (asking_of p asked) k asked q c.in_ok-course-in-Some.course k_is (sym c.in_ok-asked.ensures) course_is in
    begun m _ e c.in_ok-course-in-Some.course c.in_ok-number.number c.in_ok-number.ensures.late number_is refl refl c.in_ok-begin-in-Some.ensures.known entry_is refl fresh c.in_ok-course-in-Some.ensures.qualified
    (counts_asked m.script (told m) e k m.index left h.counts h.knows.indexed (λ a. ap (λ x. same_asking x a) (sym k_is)) (used_up m.index.replies left.replies k t w leaves (ap (λ x. x.used) c.advance.ensures)))
    (knows_still m.script m.index left h.knows (places_left m.index.replies left.replies k t w leaves (ap (λ x. x.places) c.advance.ensures)) refl) h

pub returns-clause-holds : goal.returns-clause-holds
returns-clause-holds c =
    let m = c.next_number.new.self in
    let next = c.next_number.ensures in
    let h = held c.args.self.now m next.told next.open next.same c.requires.holds in
    let p = c.args.endpoint in
    let q = c.args.query.now in
    let asked = c.in_ok-asked.asked in
    let e = Asked p.ip p.protocol asked c.args.now None in
    let k = c.in_ok-asking.asking in
    let k_is : k ≡ asking_of p asked = c.in_ok-asking.ensures ∙ ap (asking_of p) (sym c.in_ok-asked.ensures) in
    let old = m.index.replies in
    let same = c.get_mut.follows.holds-at-none in
    let left = record m.index { replies = c.get_mut.follows.lender-at-none } in
    let course_is = ap (λ o. unwrap_or (option_map (reply_course q) (option_and_then (slice_get m.script.lines) (slice_get (places_of o) (used_of o)))) Never) c.in-None.ensures.value ∙ turn_course m.script (told m) m.index k q h.counts h.knows in
    let number_is = c.in_ok-number.ensures.number ∙ ap (λ es. length es + 1) (sym next.told) in
    let entry_is = c.in_ok-begin-in-None.ensures.noted ∙ ap (λ x. m.log ++ x ∷ []) c.asked_entry-entry-in-None.ensures in
    let fresh = question_is m.script (told m) (asking_of p asked) k asked q Never k_is (sym c.in_ok-asked.ensures) course_is in
    begun m _ e Never c.in_ok-number.number c.in_ok-number.ensures.late number_is refl refl c.in_ok-begin-in-None.ensures.known entry_is refl fresh refl
    (counts_asked m.script (told m) e k m.index left h.counts h.knows.indexed (λ a. ap (λ x. same_asking x a) (sym k_is))
    (λ a. ap (λ r. used_of (get same_asking r a)) same ∙ none_used (get same_asking old a) (same_asking k a) (λ alike. sym (same_turns old k a alike) ∙ sym c.in-None.ensures.value)))
    (knows_still m.script m.index left h.knows (λ a. ap (λ r. places_of (get same_asking r a)) same) refl) h
