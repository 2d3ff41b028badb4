-- The line that an index finds.
use Rattle.std.proofs.Common.{◌≡◌, ℕ, zero, suc, Bool, true, false, ◌&&◌, List, [], ◌∷◌, map, Option, Some, None, slice_get, refl, ap, ◌∙◌, sym, IsTrue}
use Rattle.std.specs.Option.{option_map}
use Rattle.std.specs.List.{list_all}
use Rattle.std.specs.Prelude.{Result, Ok, Err, option_and_then}
use Rattle.std.proofs.lemmas.Option.{slice_get-map}
use Rattle.dns_core.specs.NetError.{is_qualified_error}
use Rattle.dns_core.specs.declared.net_error.NetError.{NetError}
use Rattle.dns_core.specs.declared.net_error.NetError.TheVariants.{Busy, Io, Timeout, NoConnections, Truncated, QueryCaseMismatch, ForeignClassRecord, Dns, Msg, NoMemory}
use Rattle.dns_core.specs.declared.net_error.DnsError.TheVariants.{NoRecordsFound, ResponseCode}
use Rattle.dns_core.specs.declared.message.Query.{Query}
use Rattle.dns_core.specs.declared.message.Message.{Message as Response}
use Rattle.script_upstream.specs.Course.{connect_course, reply_course, answer, error_about, is_qualified_course, is_qualified_told}
use Rattle.script_upstream.specs.Script.{is_qualified_line, is_qualified_outcome}
use Rattle.script_upstream.specs.declared.script.script.ScriptLine.{ScriptLine}
use Rattle.script_upstream.specs.declared.script.script.ScriptLine.TheVariants.{Connect, Refuse, Reply}

then_line : {L : Type 0} (f : ℕ → Option L) (o : Option ℕ) (r : Option L) → option_map f o ≡ option_map Some r → option_and_then f o ≡ r
then_line f None None h = refl
then_line f None (Some y) h = cc
then_line f (Some n) None h = cc
then_line f (Some n) (Some y) h = cc

-- the line at the place is the one in the list
pub line_at : {L : Type 0} (lines fs : List L) (ps : List ℕ) (u : ℕ) → map (slice_get lines) ps ≡ map Some fs → option_and_then (slice_get lines) (slice_get ps u) ≡ slice_get fs u
line_at lines fs ps u h =
    then_line (slice_get lines) (slice_get ps u) (slice_get fs u) (sym (slice_get-map (slice_get lines) ps u) ∙ ap (λ xs. slice_get xs u) h ∙ slice_get-map Some fs u)

and_left : (a b : Bool) → (a && b) ≡ true → a ≡ true
and_left true b h = refl
and_left false b h = h

and_right : (a b : Bool) → (a && b) ≡ true → b ≡ true
and_right true b h = h
and_right false b h = cc

pub all_at : {L : Type 0} (p : L → Bool) (xs : List L) (i : ℕ) (x : L) → list_all p xs ≡ true → slice_get xs i ≡ Some x → p x ≡ true
all_at p [] i x h e = cc
all_at p (y ∷ ys) zero x h e = let same : y ≡ x = cc in sym (ap p same) ∙ and_left (p y) (list_all p ys) h
all_at p (y ∷ ys) (suc i) x h e = all_at p ys i x (and_right (p y) (list_all p ys) h) e

qualified_about : (q : Query) (e : NetError) → is_qualified_error (error_about q e) ≡ is_qualified_error e
qualified_about q (Dns (NoRecordsFound n)) = refl
qualified_about q (Dns (ResponseCode code)) = refl
qualified_about q Busy = refl
qualified_about q (Io kind) = refl
qualified_about q Timeout = refl
qualified_about q NoConnections = refl
qualified_about q Truncated = refl
qualified_about q QueryCaseMismatch = refl
qualified_about q (ForeignClassRecord name dns_class record_type) = refl
qualified_about q (Msg text) = refl
qualified_about q NoMemory = refl

qualified_answer : (q : Query) (o : Result Response NetError) → is_qualified_told (answer q o) ≡ is_qualified_outcome o
qualified_answer q (Ok m) = refl
qualified_answer q (Err e) = qualified_about q e

-- what a qualified line says is qualified
pub qualified_reply : (q : Query) (l : ScriptLine) → is_qualified_line l ≡ true → IsTrue (is_qualified_course (reply_course q l))
qualified_reply q (Reply ip protocol name query_type delay outcome) h = qualified_answer q outcome ∙ and_right name.fqdn (is_qualified_outcome outcome) h
qualified_reply q (Connect ip protocol delay error) h = refl
qualified_reply q (Refuse ip protocol) h = refl

pub qualified_connect : (l : ScriptLine) → is_qualified_line l ≡ true → IsTrue (is_qualified_course (connect_course l))
qualified_connect (Connect ip protocol delay None) h = refl
qualified_connect (Connect ip protocol delay (Some e)) h = and_left (is_qualified_error e) _ h
qualified_connect (Refuse ip protocol) h = refl
qualified_connect (Reply ip protocol name query_type delay outcome) h = refl
