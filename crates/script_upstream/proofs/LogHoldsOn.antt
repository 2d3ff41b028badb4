-- What holds of a book after an entry was noted.
use Rattle.std.proofs.Common.{◌≡◌, ℕ, ◌+◌, ◌-◌, Bool, true, false, cond, List, [], ◌∷◌, ◌++◌, length, min, filter, map, slice_get, Option, Some, None, refl, ap, ◌∙◌, sym, subst, arith, nat_eq, count_by, IsTrue}
use Rattle.std.specs.Prelude.{option_and_then, unwrap_or}
use Rattle.std.specs.Option.{option_map, option_map_or}
use Rattle.std.specs.declared.hash.FoldHasher.{FoldHasher}
use Rattle.std.specs.declared.hash.BuildHasherDefault.{BuildHasherDefault}
use Rattle.script_upstream.specs.declared.courses.index.Endpoint.{Endpoint}
use Rattle.script_upstream.specs.declared.courses.index.Route.{Route}
use Rattle.std.specs.HashMap.{HashMap, get}
use Rattle.std.proofs.lemmas.List.{append-nil, length-map}
use Rattle.std.proofs.lemmas.Grind.{common_steps}
use Rattle.std.proofs.lemmas.Bool.Decides.{nat_tests}
use Rattle.dns_core.specs.declared.log.LogEntry.{LogEntry}
use Rattle.script_upstream.specs.Keys.{same_asking, same_endpoint}
use Rattle.dns_core.specs.declared.log.LogEntry.TheVariants.{Told}
use Rattle.dns_core.specs.declared.log.ToldOutcome.{ToldOutcome}
use Rattle.dns_core.specs.declared.message.Query.{Query}
use Rattle.script_upstream.specs.Giving.{Fits, course_after, question_course_for, asks, waits, replies}
use Rattle.script_upstream.specs.Course.{reply_course, is_qualified_course, IsWaiting}
use Rattle.script_upstream.specs.Index.{IsIndexed, places_at, used_at, advanced}
use Rattle.script_upstream.specs.Book.{told, open_at, IsKept, Awaits, Counts, Knows, Holds, SameScript, Waits, IsDue, IsDueAs}
use Rattle.script_upstream.proofs.LogStaysTrue.{kept_begun}
use Rattle.script_upstream.proofs.IndexFindsLine.{line_at}
use Rattle.script_upstream.specs.declared.courses.course.ScriptedReply.TheVariants.{Never, After}
use Rattle.script_upstream.specs.declared.courses.index.Asking.{Asking}
use Rattle.script_upstream.specs.declared.courses.index.Index.{Index}
use Rattle.script_upstream.specs.declared.books.book.ScriptLog.{ScriptLog}
use Rattle.script_upstream.specs.declared.courses.course.ScriptedReply.{ScriptedReply}
use Rattle.script_upstream.specs.declared.script.script.Script.{Script}
use Rattle.script_upstream.specs.declared.script.script.ScriptLine.{ScriptLine}

pub hold : (b : ScriptLog) (s : Script) (es : List LogEntry) (index : Index) → b.script ≡ s → b.index ≡ index → told b ≡ es → IsKept s es (open_at b) → Counts s es index → Knows s index → Holds b
hold b s es index es_script es_index es_told keeps counts knows = record {
  keeps = subst (λ (x : Script). IsKept x (told b) (open_at b)) (sym es_script) (subst (λ (y : List LogEntry). IsKept s y (open_at b)) (sym es_told) keeps);
  counts = subst (λ (x : Script). Counts x (told b) b.index) (sym es_script) (subst (λ (y : List LogEntry). Counts s y b.index) (sym es_told) (subst (λ (i : Index). Counts s es i) (sym es_index) counts));
  knows = subst (λ (x : Script). Knows x b.index) (sym es_script) (subst (λ (i : Index). Knows s i) (sym es_index) knows);
}

-- the log with one entry more
pub pushed : (es log late more : List LogEntry) (e : LogEntry) → log ++ late ≡ es → late ≡ [] → more ≡ log ++ e ∷ [] → more ++ late ≡ es ++ e ∷ []
pushed es log late more e t l m = ap (λ x. more ++ x) l ∙ append-nil more ∙ m ∙ ap (λ x. x ++ e ∷ []) (sym (append-nil log) ∙ sym (ap (λ x. log ++ x) l) ∙ t)

abbrev one_if : Bool → ℕ
one_if b = cond b 1 0

asks_push : (a : Asking) (es : List LogEntry) (e : LogEntry) → count_by (asks a) (es ++ e ∷ []) ≡ count_by (asks a) es + one_if (asks a e)
asks_push a es e = grind (arith, common_steps)

-- an entry that asks nothing uses nothing up
pub counts_more : (s : Script) (es : List LogEntry) (e : LogEntry) (index : Index) → Counts s es index → ((a : Asking) → asks a e ≡ false) → Counts s (es ++ e ∷ []) index
counts_more s es e index h idle = λ a.
    let none = ap one_if (idle a) in
    let same : count_by (asks a) (es ++ e ∷ []) ≡ count_by (asks a) es = omega (arith, asks_push a es e, none) in
    h a ∙ ap (λ n. min n (length (filter (replies a) s.lines) - 1)) (sym same)

advanced_once : (n m used asked : ℕ) → n ≡ m → used ≡ min asked (m - 1) → advanced n used ≡ min (asked + 1) (m - 1)
advanced_once n m used asked e h = grind (arith, nat_tests)

advances : (b : Bool) (n m used asked next : ℕ) → n ≡ m → used ≡ min asked (m - 1) → next ≡ cond b (advanced n used) used → next ≡ min (asked + one_if b) (m - 1)
advances true n m used asked next e h is = is ∙ advanced_once n m used asked e h
advances false n m used asked next e h is = is ∙ h ∙ ap (λ x. min x (m - 1)) (omega arith)

-- as many places as lines
pub places_count : (lines : List ScriptLine) (index : Index) (a : Asking) → IsIndexed lines lines index → length (places_at index a) ≡ length (filter (replies a) lines)
places_count lines index a h = sym (length-map (places_at index a) (slice_get lines)) ∙ ap length (h.replying a) ∙ length-map (filter (replies a) lines) Some

-- an entry that asks uses its line up
pub counts_asked : (s : Script) (es : List LogEntry) (e : LogEntry) (k : Asking) (old new : Index) → Counts s es old → IsIndexed s.lines s.lines old → ((a : Asking) → asks a e ≡ same_asking k a)
    → ((a : Asking) → used_at new a ≡ cond (same_asking k a) (advanced (length (places_at old a)) (used_at old a)) (used_at old a)) → Counts s (es ++ e ∷ []) new
counts_asked s es e k old new h indexed asking used = λ a.
    let m = length (filter (replies a) s.lines) in
    advances (same_asking k a) (length (places_at old a)) m (used_at old a) (count_by (asks a) es) (used_at new a) (places_count s.lines old a indexed) (h a) (used a)
    ∙ ap (λ b. min (count_by (asks a) es + one_if b) (m - 1)) (sym (asking a)) ∙ ap (λ n. min n (m - 1)) (sym (asks_push a es e))

abbrev Routes : Type 0
Routes = HashMap Endpoint Route (BuildHasherDefault FoldHasher)

abbrev refused_in : Routes → Endpoint → Bool
refused_in m p = option_map_or (λ r. r.refused) (get same_endpoint m p) false

abbrev place_in : Routes → Endpoint → Option ℕ
place_in m p = option_and_then (λ r. r.place) (get same_endpoint m p)

-- the places are as before
pub knows_still : (s : Script) (old new : Index) → Knows s old → ((a : Asking) → places_at new a ≡ places_at old a) → new.routes ≡ old.routes → Knows s new
knows_still s old new h places routes = record {
  qualified = h.qualified;
  indexed = record {
    replying = λ a. ap (map (slice_get s.lines)) (places a) ∙ h.indexed.replying a;
    refusing = λ p. ap (λ r. refused_in r p) routes ∙ h.indexed.refusing p;
    connecting = λ p. ap (λ r. option_map (slice_get s.lines) (place_in r p)) routes ∙ h.indexed.connecting p;
  };
}

-- no more is open than before
pub kept_less : (s : Script) (es : List LogEntry) (old new : ℕ → Option ScriptedReply) → IsKept s es old → ((n : ℕ) (c : ScriptedReply) → new n ≡ Some c → old n ≡ Some c) → IsKept s es new
kept_less s es old new h e = record { gives = h.gives; awaited = λ n c is. h.awaited n c (e n c is) }

-- what holds of a book that differs at most in what waits for memory
pub held : (old new : ScriptLog) → told new ≡ told old → new.open ≡ old.open → SameScript old new → Holds old → Holds new
held old new t o same h =
    hold new old.script (told old) old.index same.script same.index t
    (kept_less old.script (told old) (open_at old) (open_at new) h.keeps (λ n c is. ap (λ m. get nat_eq m n) (sym o) ∙ is)) h.counts h.knows

-- a book in which an entry that opened or asked was noted
pub begun : (old new : ScriptLog) (e : LogEntry) (c : ScriptedReply) (number : ℕ) → old.late ≡ [] → number ≡ length (told old) + 1 → new.script ≡ old.script → new.late ≡ old.late
    → ((n : ℕ) → open_at new n ≡ cond (nat_eq number n) (Some c) (open_at old n)) → new.log ≡ old.log ++ e ∷ []
    → Fits old.script (told old) e → course_after old.script (told old) e ≡ Some c → IsTrue (is_qualified_course c) → Counts old.script (told old ++ e ∷ []) new.index → Knows old.script new.index → Holds old → Holds new
begun old new e c number late at script still put noted fits course qualified counts knows h =
    hold new old.script (told old ++ e ∷ []) new.index script refl (pushed (told old) old.log new.late new.log e (ap (λ x. old.log ++ x) still) (still ∙ late) noted)
    (kept_begun old.script (told old) e (open_at old) (open_at new) c h.keeps fits course qualified (λ n. put n ∙ ap (λ k. cond (nat_eq k n) (Some c) (open_at old n)) at)) counts knows

-- a book in which nothing was noted, and no more is open
pub not_begun : (old new : ScriptLog) → new.script ≡ old.script → new.late ≡ old.late → new.log ≡ old.log → ((n : ℕ) (c : ScriptedReply) → open_at new n ≡ Some c → open_at old n ≡ Some c)
    → Counts old.script (told old) new.index → Knows old.script new.index → Holds old → Holds new
not_begun old new script late log fewer counts knows h =
    hold new old.script (told old) new.index script refl (ap (λ x. x ++ new.late) log ∙ ap (λ x. old.log ++ x) late) (kept_less old.script (told old) (open_at old) (open_at new) h.keeps fewer) counts knows

-- as many lines are used up as before
pub counts_still : (s : Script) (es : List LogEntry) (old new : Index) → Counts s es old → ((a : Asking) → used_at new a ≡ used_at old a) → Counts s es new
counts_still s es old new h used = λ a. used a ∙ h a

-- the line that an index finds is the one that the script says
pub turn_course : (s : Script) (es : List LogEntry) (index : Index) (a : Asking) (q : Query) → Counts s es index → Knows s index
    → unwrap_or (option_map (reply_course q) (option_and_then (slice_get s.lines) (slice_get (places_at index a) (used_at index a)))) Never ≡ question_course_for s a q (count_by (asks a) es)
turn_course s es index a q counts knows =
    let fs = filter (replies a) s.lines in
    ap (λ o. unwrap_or (option_map (reply_course q) o) Never) (line_at s.lines fs (places_at index a) (used_at index a) (knows.indexed.replying a) ∙ ap (slice_get fs) (counts a))

-- what a question comes to, said of equal things
pub question_is : (s : Script) (es : List LogEntry) (a a' : Asking) (q q' : Query) (c : ScriptedReply) → a' ≡ a → q' ≡ q → c ≡ question_course_for s a' q' (count_by (asks a') es) → Some (question_course_for s a q (count_by (asks a) es)) ≡ Some c
question_is s es a a' q q' c ha hq h =
    sym (ap Some (h ∙ ap (λ x. question_course_for s x q' (count_by (asks x) es)) ha ∙ ap (λ x. question_course_for s a x (count_by (asks a) es)) hq))

pub waits_some : (o : Option ScriptedReply) → Waits o → (c : ScriptedReply) × (o ≡ Some c) × IsWaiting c
waits_some None h = absurd h
waits_some (Some c) h = (c, refl, h)

-- what is due is told as the script says
pub fits_told : (s : Script) (es : List LogEntry) (n moment : ℕ) (o : Option ScriptedReply) (told_now : ToldOutcome) → ((c : ScriptedReply) → o ≡ Some c → Awaits s es n c) → IsDue (λ x. Unit {0}) o → IsDueAs told_now o → Fits s es (Told n moment told_now)
fits_told s es n moment None told_now a due as_it = absurd due
fits_told s es n moment (Some Never) told_now a due as_it = absurd due
fits_told s es n moment (Some (After polls outcome)) told_now a due as_it =
    ((a (After polls outcome) refl).unended, (a (After polls outcome) refl).due ∙ ap (λ p. Some (After p outcome)) (omega (arith, due.0)) ∙ ap (λ x. Some (After (waits n es) x)) (sym as_it))

pub due_is : (o : Option ScriptedReply) (x y : ToldOutcome) → IsDue (λ z. Unit {0}) o → IsDueAs x o → IsDueAs y o → (o ≡ Some (After 0 y)) × (x ≡ y)
due_is None x y due a b = absurd due
due_is (Some Never) x y due a b = absurd due
due_is (Some (After polls outcome)) x y due a b = (ap (λ p. Some (After p outcome)) due.0 ∙ ap (λ z. Some (After 0 z)) (sym b), a ∙ sym b)
