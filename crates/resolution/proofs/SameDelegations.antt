-- Messages that are the same but for TTLs hold the same delegations, the same addresses beside them, and the same aliases.
use Rattle.std.proofs.Common.{◌≡◌, ℕ, zero, suc, Bool, true, false, cond, ◌||◌, ◌&&◌, List, [], ◌∷◌, ◌++◌, length, Option, Some, None, refl, ap, subst, ◌∙◌}
use Rattle.std.specs.Prelude.{◌==◌, filter, if◌then◌else◌}
use Rattle.std.specs.List.{list_any, filter_map, cons_option}
use Rattle.dns_core.specs.Name.{DomainName, same_names}
use Rattle.dns_core.specs.Classifying.{is_ns}
use Rattle.dns_core.specs.Stripping.{is_kept, strip_of}
use Rattle.dns_core.specs.declared.codes.RecordType.{RecordType}
use Rattle.dns_core.specs.declared.message.Query.{Query}
use Rattle.dns_core.specs.declared.message.Message.{Message}
use Rattle.dns_core.specs.declared.record.Record.{Record}
use Rattle.resolution.specs.Names.{base}
use Rattle.resolution.specs.Records.{records}
use Rattle.resolution.specs.Same.{SameRecord, SameRecords, Same}
use Rattle.resolution.specs.Serving.{is_delegation, target_below, targets, address_under, addresses_under, glue}
use Rattle.resolution.specs.Following.{is_owned, owns, alias_of, alias_at, follow_from, follow}
use Rattle.resolution.specs.declared.following.Follow.{Follow}
use Rattle.resolution.specs.declared.following.Follow.TheVariants.{Done, Restart}

pub SameRecords-append : (xs ys us vs : List Record) → SameRecords xs ys → SameRecords us vs → SameRecords (xs ++ us) (ys ++ vs)
SameRecords-append [] [] us vs g h = h
SameRecords-append [] (y ∷ ys) us vs g h = elim g [ ]
SameRecords-append (x ∷ xs) [] us vs g h = elim g [ ]
SameRecords-append (x ∷ xs) (y ∷ ys) us vs (e, g) h = (e, SameRecords-append xs ys us vs g h)

pub SameRecords-length : (xs ys : List Record) → SameRecords xs ys → length xs ≡ length ys
SameRecords-length [] [] g = refl
SameRecords-length [] (y ∷ ys) g = elim g [ ]
SameRecords-length (x ∷ xs) [] g = elim g [ ]
SameRecords-length (x ∷ xs) (y ∷ ys) (e, g) = ap suc (SameRecords-length xs ys g)

-- what does not read the TTL
module _ {Y : Type 0} (f : Record → Y) (blind : (r : Record) (n : ℕ) → f (record r { ttl = n }) ≡ f r) where
  pub SameRecord-read : (a b : Record) → SameRecord a b → f a ≡ f b
  SameRecord-read a b e = ap f e.rest ∙ blind b a.ttl

module _ (p : Record → Bool) (blind : (r : Record) (n : ℕ) → p (record r { ttl = n }) ≡ p r) where
  pub SameRecords-list_any : (xs ys : List Record) → SameRecords xs ys → list_any p xs ≡ list_any p ys
  SameRecords-list_any [] [] g = refl
  SameRecords-list_any [] (y ∷ ys) g = elim g [ ]
  SameRecords-list_any (x ∷ xs) [] g = elim g [ ]
  SameRecords-list_any (x ∷ xs) (y ∷ ys) (e, g) = ap (λ (t : Bool). t || list_any p xs) (SameRecord-read p blind x y e) ∙ ap (λ (t : Bool). p y || t) (SameRecords-list_any xs ys g)

  pub SameRecords-filter : (xs ys : List Record) → SameRecords xs ys → SameRecords (filter p xs) (filter p ys)
  SameRecords-filter [] [] g = tt
  SameRecords-filter [] (y ∷ ys) g = elim g [ ]
  SameRecords-filter (x ∷ xs) [] g = elim g [ ]
  SameRecords-filter (x ∷ xs) (y ∷ ys) (e, g) =
      subst (λ (b : Bool). SameRecords (filter p (x ∷ xs)) (cond b (y ∷ filter p ys) (filter p ys))) (SameRecord-read p blind x y e) (at_head (p x) (SameRecords-filter xs ys g))
    where
      at_head : (b : Bool) → SameRecords (filter p xs) (filter p ys) → SameRecords (cond b (x ∷ filter p xs) (filter p xs)) (cond b (y ∷ filter p ys) (filter p ys))
      at_head true h = (e, h)
      at_head false h = h

module _ {Y : Type 0} (f : Record → Option Y) (blind : (r : Record) (n : ℕ) → f (record r { ttl = n }) ≡ f r) where
  pub SameRecords-filter_map : (xs ys : List Record) → SameRecords xs ys → filter_map f xs ≡ filter_map f ys
  SameRecords-filter_map [] [] g = refl
  SameRecords-filter_map [] (y ∷ ys) g = elim g [ ]
  SameRecords-filter_map (x ∷ xs) [] g = elim g [ ]
  SameRecords-filter_map (x ∷ xs) (y ∷ ys) (e, g) = ap (λ (o : Option Y). cons_option o (filter_map f xs)) (SameRecord-read f blind x y e) ∙ ap (λ (zs : List Y). cons_option (f y) zs) (SameRecords-filter_map xs ys g)

pub Same-records : (a b : Message) → Same a b → SameRecords (records a) (records b)
Same-records a b s =
    SameRecords-append (a.answers ++ a.authorities) (b.answers ++ b.authorities) a.additionals b.additionals
    (SameRecords-append a.answers b.answers a.authorities b.authorities s.answers s.authorities) s.additionals

pub Same-is_delegation : (a b : Message) (c : DomainName) → Same a b → is_delegation a c ≡ is_delegation b c
Same-is_delegation a b c s = SameRecords-list_any (λ r. is_ns r && same_names r.name c) (λ r n. refl) (records a) (records b) (Same-records a b s)

pub Same-targets : (a b : Message) (c : DomainName) → Same a b → targets a c ≡ targets b c
Same-targets a b c s = SameRecords-filter_map (target_below (base c)) (λ r n. refl) (records a) (records b) (Same-records a b s)

pub Same-glue : (a b : Message) (c : DomainName) → Same a b → glue a c ≡ glue b c
Same-glue a b c s =
    ap (λ (names : List DomainName). addresses_under names (records a)) (Same-targets a b c s)
    ∙ SameRecords-filter_map (address_under (targets b c)) (λ r n. refl) (records a) (records b) (Same-records a b s)

pub Same-query : (a b : Message) → Same a b → a.query ≡ b.query
Same-query a b s = ap (λ (m : Message). m.query) s.rest

-- the sections that a type leaves, of messages with the same question
kept-same : (s t : RecordType) → s ≡ t → (xs ys : List Record) → SameRecords xs ys → SameRecords (filter (is_kept s) xs) (filter (is_kept t) ys)
kept-same s t e xs ys g = subst (λ (u : RecordType). SameRecords (filter (is_kept s) xs) (filter (is_kept u) ys)) e (SameRecords-filter (is_kept s) (λ r n. refl) xs ys g)

pub Same-strip : (a b : Message) (dnssec : Bool) → Same a b → Same (strip_of a dnssec) (strip_of b dnssec)
Same-strip a b true s = s
Same-strip a b false s =
    let asked : a.query.query_type ≡ b.query.query_type = ap (λ (q : Query). q.query_type) (Same-query a b s) in
    let t = a.query.query_type in
    record {
      answers = kept-same t b.query.query_type asked a.answers b.answers s.answers;
      authorities = kept-same t b.query.query_type asked a.authorities b.authorities s.authorities;
      additionals = kept-same t b.query.query_type asked a.additionals b.additionals s.additionals;
      rest = ap (λ (m : Message). record m { answers = filter (is_kept t) a.answers; authorities = filter (is_kept t) a.authorities; additionals = filter (is_kept t) a.additionals }) s.rest;
    }

-- ---- aliases

alias_at-same : (n : DomainName) (xs ys : List Record) → SameRecords xs ys → alias_at xs n ≡ alias_at ys n
alias_at-same n [] [] g = refl
alias_at-same n [] (y ∷ ys) g = elim g [ ]
alias_at-same n (x ∷ xs) [] g = elim g [ ]
alias_at-same n (x ∷ xs) (y ∷ ys) (e, g) =
    let first : Option DomainName → Option DomainName → Option DomainName = λ o rest. elim o [ None ↦ rest | Some target ↦ Some target ] in
    ap (λ (o : Option DomainName). first o (alias_at xs n)) (SameRecord-read (alias_of n) (λ r k. refl) x y e) ∙ ap (λ (rest : Option DomainName). first (alias_of n y) rest) (alias_at-same n xs ys g)

follow_from-same : (steps : ℕ) (t : RecordType) (xs ys : List Record) → SameRecords xs ys → (met : List DomainName) (n : DomainName) → follow_from steps xs t met n ≡ follow_from steps ys t met n
follow_from-same zero t xs ys g met n = refl
follow_from-same (suc steps) t xs ys g met n =
    let F : Bool → Option DomainName → (DomainName → Follow) → Follow = λ owned o next.
    if owned then Done else
    elim o [ None ↦ Restart n | Some target ↦ (if list_any (same_names target) (met ++ n ∷ []) then Done else next target) ] in
    let next : (λ (m : DomainName). follow_from steps xs t (met ++ n ∷ []) m) ≡ (λ (m : DomainName). follow_from steps ys t (met ++ n ∷ []) m) = λ i m. follow_from-same steps t xs ys g (met ++ n ∷ []) m i in
    ap (λ (owned : Bool). F owned (alias_at xs n) (follow_from steps xs t (met ++ n ∷ []))) (SameRecords-list_any (is_owned t n) (λ r k. refl) xs ys g)
    ∙ ap (λ (o : Option DomainName). F (owns ys t n) o (follow_from steps xs t (met ++ n ∷ []))) (alias_at-same n xs ys g)
    ∙ ap (λ (h : DomainName → Follow). F (owns ys t n) (alias_at ys n) h) next

pub Same-follow : (a b : Message) (q : Query) → Same a b → follow a q ≡ follow b q
Same-follow a b q s =
    let F : Option DomainName → Follow → Follow = λ o from. if q.query_type.code == 5 || q.query_type.code == 255 then Done else elim o [ None ↦ Done | Some target ↦ from ] in
    ap (λ (o : Option DomainName). F o (follow_from (suc (length a.answers)) a.answers q.query_type [] q.name)) (alias_at-same q.name a.answers b.answers s.answers)
    ∙ ap (λ (n : ℕ). F (alias_at b.answers q.name) (follow_from (suc n) a.answers q.query_type [] q.name)) (SameRecords-length a.answers b.answers s.answers)
    ∙ ap (λ (from : Follow). F (alias_at b.answers q.name) from) (follow_from-same (suc (length b.answers)) q.query_type a.answers b.answers s.answers [] q.name)
