-- Responses that are joined one after the other.
use Rattle.std.proofs.Common.{◌≡◌, ◌∙◌, sym, ap, refl, Bool, true, false, List, [], ◌∷◌, ◌++◌, append_assoc}
use Rattle.std.specs.Prelude.{filter}
use Rattle.std.proofs.lemmas.List.Elements.{filter-append, All-head, All-tail}
use Rattle.dns_core.specs.Stripping.{strip_of}
use Rattle.dns_core.specs.declared.codes.RecordType.{RecordType}
use Rattle.dns_core.specs.declared.message.Query.{Query}
use Rattle.dns_core.specs.declared.message.Message.{Message}
use Rattle.dns_core.specs.declared.record.Record.{Record}
use Rattle.resolution.specs.Answering.{is_appended, joined}
use Rattle.resolution.specs.Links.{Link, merged}
use Rattle.alias_rules.specs.Chains.{AllAskFor, joined_so_far}

module _ {X : Type 0} (p : X → Bool) where
  filter_twice : (xs : List X) → filter p (filter p xs) ≡ filter p xs
  filter_twice [] = refl
  filter_twice (x ∷ xs) = (elim (p x) as (λ b. p x ≡ b → filter p (filter p (x ∷ xs)) ≡ filter p (x ∷ xs)) [
    | true ↦ λ t. rw (t, t) (ap (λ rest. x ∷ rest) (filter_twice xs))
    | false ↦ λ t. rw t (filter_twice xs)
  ]) refl

  -- What passes of two lists, of which the second has passed before.
  filter_joined : (xs ys zs : List X) → xs ++ filter p (ys ++ filter p zs) ≡ (xs ++ filter p ys) ++ filter p zs
  filter_joined xs ys zs =
      ap (λ rest. xs ++ rest) (filter-append p ys (filter p zs) ∙ ap (λ rest. filter p ys ++ rest) (filter_twice zs))
      ∙ sym (append_assoc xs (filter p ys) (filter p zs))

with_answers : Message → List Record → Message
with_answers m rs = record m { answers = rs }

-- A further response that has grown is appended as its parts are.
pub joined_twice : (first second third : Message) (query other : Query) → other.query_type ≡ query.query_type
    → joined first query (joined second other third) ≡ joined (joined first query second) query third
unfolding with_answers
joined_twice first second third query other same =
    ap (λ (t : RecordType). with_answers first (first.answers ++ filter (is_appended query.query_type) (second.answers ++ filter (is_appended t) third.answers))) same
    ∙ ap (with_answers first) (filter_joined (is_appended query.query_type) first.answers second.answers third.answers)

-- What is appended depends on the asked type alone.
joined_by_type : (first further : Message) (query other : Query) → other.query_type ≡ query.query_type → joined first other further ≡ joined first query further
unfolding with_answers
joined_by_type first further query other same = ap (λ (t : RecordType). with_answers first (first.answers ++ filter (is_appended t) further.answers)) same

-- The response of the last link is joined to those before, and the reply to all of them.
pub merged_forwards : (dnssec : Bool) (links : List Link) (last : Link) (reply : Message) → AllAskFor last.query.query_type links
    → merged dnssec (links ++ last ∷ []) reply ≡ joined (joined_so_far dnssec links last) last.query reply
merged_forwards dnssec [] last reply types = refl
merged_forwards dnssec (l ∷ links) last reply types =
    let P : Link → Type 0 = λ (k : Link). k.query.query_type ≡ last.query.query_type in
    let same : l.query.query_type ≡ last.query.query_type = All-head P l links types in
    let front : Message = joined_so_far dnssec links last in
    let first : Message = strip_of l.kept dnssec in
    ap (joined first l.query) (merged_forwards dnssec links last reply (All-tail P l links types))
    ∙ joined_twice first front reply l.query last.query (sym same)
    ∙ sym (joined_by_type (joined first l.query front) reply l.query last.query (sym same))
