-- A run of a lookup by the servers of its pool is one by their addresses.
use Rattle.std.proofs.Common.{◌≡◌, ℕ, ◌+◌, ◌≤◌, Bool, true, false, not, ◌&&◌, ◌||◌, ◌==◌, List, [], ◌∷◌, map, filter, length, refl, ap, sym, subst, ◌∙◌, Option, Some, None, Ok, Err, inl, inr, arith, le-leb, leb-true}
use Rattle.std.specs.Prelude.{nat_le, Result, Contains}
use Rattle.std.specs.declared.net.ip_addr.IpAddr.{IpAddr}
use Rattle.std.specs.List.{list_any, list_all, last_or, after_first, AllByRecursion}
use Rattle.dns_core.specs.Classifying.{classify_of}
use Rattle.dns_core.specs.declared.message.Query.{Query}
use Rattle.dns_core.specs.declared.message.Message.{Message}
use Rattle.dns_core.specs.declared.net_error.NetError.{NetError}
use Rattle.dns_core.specs.declared.net_error.DnsError.{DnsError}
use Rattle.dns_core.specs.declared.net_error.DnsError.TheVariants as dns
use Rattle.resolution.specs.Names.{same_query}
use Rattle.resolution.specs.Class.{class_of_classified}
use Rattle.resolution.specs.Ending.{by_address}
use Rattle.resolution.specs.Lookups.{Answered, class_of_answer, End, Rules, is_tcp_fallback, is_retryable, is_busy, answer_of, least_bad, class_of_end, falls_back, the_fallback, has_fallen_back, but_fallback, retries, none_is_final, is_at, all_were_tried, turn_was_repeated, busy_were_retried, what_is_left, IsDecided, IsSpent, IsLate, PoolRun}
use Rattle.resolution.specs.Lookups.PoolRun.{decided, spent, late}
use Rattle.resolution.specs.declared.class.Class.{Class}
use Rattle.resolution.specs.declared.class.Class.TheVariants.{Truncated}
use Rattle.resolution.proofs.ElementsFiltered.{Has, Has-from_Contains, Contains-from_Has}
use Rattle.resolution.proofs.AddressesAreEqual.{same_ip-true, same_ip-itself}
use Rattle.resolution.proofs.Classified.{class_of_message-itself}
use Rattle.resolution.proofs.Caseless.{class_of_message-same, classified-same}
use Rattle.server_core.specs.Sending.{result_of}
use Rattle.pool_rules.specs.RetryQueue.{rules_of, class_of_sent, end_at}
use Rattle.pool_rules.specs.declared.pool_server.PoolServer.{PoolServer}
use Rattle.server_pool.specs.ByAddress.{Beside, IsSameEnd, SameEnds, at_address}
use Rattle.server_pool.proofs.ListsRelated.{BesideOption, beside_parted, beside_length, beside_map, beside_last, beside_any, beside_all, beside_filter, beside_find, beside_after, beside_but, beside_image, beside_and}
use Rattle.server_pool.proofs.NarrowerTest.{or_follows, last_passing, IsNarrower, length_narrowed, last_narrowed, any_follows, all_follow}
use Rattle.pool_rules.proofs.QueueStandsOn.{or_right}
use Rattle.pool_rules.proofs.QueueAfterEnd.{same_self, same_is}
use Rattle.server_pool.proofs.ListsRelated.BesideOption.{neither, both}

-- ---- what holds of all

all_each : {X : Type 0} (P : X → Type 0) (xs : List X) → ((x : X) → Has xs x → P x) → AllByRecursion P xs
all_each P [] f = tt
all_each P (x ∷ xs) f = (f x (inl refl), all_each P xs (λ y h. f y (inr h)))

each_of : {X : Type 0} (P : X → Type 0) (xs : List X) → AllByRecursion P xs → (x : X) → Has xs x → P x
each_of P [] a x h = elim h [ ]
each_of P (y ∷ ys) a x (inl e) = subst P e a.0
each_of P (y ∷ ys) a x (inr h) = each_of P ys a.1 x h

all_map : {X : Type 0} (P Q : X → Type 0) → ((x : X) → P x → Q x) → (xs : List X) → AllByRecursion P xs → AllByRecursion Q xs
all_map P Q f [] a = tt
all_map P Q f (x ∷ xs) a = (f x a.0, all_map P Q f xs a.1)

all_at : {X : Type 0} (p : X → Bool) (xs : List X) → list_all p xs ≡ true → (x : X) → Has xs x → p x ≡ true
all_at p [] a x h = elim h [ ]
all_at {X} p (y ∷ ys) a x h = at_head (p y) refl a h (all_at p ys)
  where
    at_head : (b : Bool) → p y ≡ b → (b && list_all p ys) ≡ true → Has (y ∷ ys) x → (list_all p ys ≡ true → (z : X) → Has ys z → p z ≡ true) → p x ≡ true
    at_head true e k (inl same) next = ap p (sym same) ∙ e
    at_head true e k (inr there) next = next k x there
    at_head false e k there next = cc

at_least_five : (m n : ℕ) → m ≤ n → nat_le 5 m ≡ true → nat_le 5 n ≡ true
at_least_five m n le h = let five : 5 ≤ m = leb-true 5 m h in le-leb 5 n (omega (arith, five, le))

-- ---- what a run is made of

module _ {S T : Type 0} (rules : Rules S) (rules' : Rules T) (class class' : Answered → Class) (f : S → T) (P : S → Type 0)
    (trusts : (a : S) → P a → rules.trusts a ≡ rules'.trusts (f a))
    (beyond_udp : (a : S) → P a → rules.beyond_udp a ≡ rules'.beyond_udp (f a))
    (timeout : rules.timeout ≡ rules'.timeout) where
  -- a server and its image, and an end and the one beside it, at servers that are known
  abbrev Image : S → T → Type 0
  Image s t = (t ≡ f s) × P s

  abbrev Both : End S → End T → Type 0
  Both e e' = IsSameEnd f class class' e e' × P e.server

  -- the tests agree
  same_turns : (e : End S) (e' : End T) → Both e e' → falls_back rules class e ≡ falls_back rules' class' e'
  same_turns e e' b = ap is_tcp_fallback b.0.outcome

  same_retries : (e : End S) (e' : End T) → Both e e' → retries rules class e ≡ retries rules' class' e'
  same_retries e e' b =
      ap (λ (t : Bool). is_retryable t (class e.outcome)) (trusts e.server b.1 ∙ ap rules'.trusts (sym b.0.server))
      ∙ ap (is_retryable (rules'.trusts e'.server)) b.0.outcome

  same_beyond : (s : S) (t : T) → Image s t → rules.beyond_udp s ≡ rules'.beyond_udp t
  same_beyond s t i = beyond_udp s i.1 ∙ ap rules'.beyond_udp (sym i.0)

  -- the image of the server of an end
  image_of : (e : End S) (e' : End T) → Both e e' → Image e.server e'.server
  image_of e e' b = (b.0.server, b.1)

  -- the ends of a server but the turn
  abbrev own : S → List (End S) → List (End S)
  own s ends = filter (is_at rules class s) (but_fallback rules class ends)

  abbrev own' : T → List (End T) → List (End T)
  own' t ends = filter (is_at rules' class' t) (but_fallback rules' class' ends)

  -- the policy allows the server no more
  abbrev refuses : List (End S) → S → Bool
  refuses ends s = has_fallen_back rules class ends && not (rules.beyond_udp s)

  abbrev refuses' : List (End T) → T → Bool
  refuses' ends t = has_fallen_back rules' class' ends && not (rules'.beyond_udp t)

  -- the server of the turn was asked again
  abbrev repeated_of : List (End S) → Option (End S) → Bool
  repeated_of after o = elim o [ None ↦ true | Some e ↦ not (rules.beyond_udp e.server) || list_any (is_at rules class e.server) after ]

  abbrev repeated_of' : List (End T) → Option (End T) → Bool
  repeated_of' after o = elim o [ None ↦ true | Some e ↦ not (rules'.beyond_udp e.server) || list_any (is_at rules' class' e.server) after ]

  -- the last end of a server was not that it is busy, or it was asked so often
  abbrev retried_of : ℕ → Option (End S) → Bool
  retried_of n o = elim o [ None ↦ true | Some e ↦ not (is_busy (class_of_end rules class e)) || nat_le 5 n ]

  abbrev retried_of' : ℕ → Option (End T) → Bool
  retried_of' n o = elim o [ None ↦ true | Some e ↦ not (is_busy (class_of_end rules' class' e)) || nat_le 5 n ]

  -- what ends of these classes leave, after a turn of a class
  abbrev class_left : List Class → List Class → Class → NetError
  class_left after but c = elim c [ Truncated ↦ least_bad true after | _ ↦ least_bad false but ]

  module _ {ends : List (End S)} {ends' : List (End T)} (beside : Beside Both ends ends') where
    same_turned : has_fallen_back rules class ends ≡ has_fallen_back rules' class' ends'
    same_turned = beside_any Both (falls_back rules class) (falls_back rules' class') same_turns beside

    but_beside : Beside Both (but_fallback rules class ends) (but_fallback rules' class' ends')
    but_beside = beside_but Both (falls_back rules class) (falls_back rules' class') same_turns beside

    after_beside : Beside Both (after_first (falls_back rules class) ends) (after_first (falls_back rules' class') ends')
    after_beside = beside_after Both (falls_back rules class) (falls_back rules' class') same_turns beside

    turn_beside : BesideOption Both (the_fallback rules class ends) (the_fallback rules' class' ends')
    turn_beside = beside_find Both (falls_back rules class) (falls_back rules' class') same_turns beside

    same_final : none_is_final rules class ends ≡ none_is_final rules' class' ends'
    same_final = beside_all Both (retries rules class) (retries rules' class') same_retries but_beside

    same_refused : (s : S) (t : T) → Image s t → refuses ends s ≡ refuses' ends' t
    same_refused s t i =
        ap (λ (b : Bool). b && not (rules.beyond_udp s)) same_turned
        ∙ ap (λ (b : Bool). has_fallen_back rules' class' ends' && not b) (same_beyond s t i)

    classes_beside : {es : List (End S)} {es' : List (End T)} → Beside Both es es' → map (class_of_end rules class) es ≡ map (class_of_end rules' class') es'
    classes_beside b = beside_map Both (class_of_end rules class) (class_of_end rules' class') (λ e e' h. h.0.outcome) b

    abbrev left_of : Option (End S) → NetError
    left_of o = elim o [
      | None ↦ least_bad false (map (class_of_end rules class) ends)
      | Some e ↦ class_left (map (class_of_end rules class) (after_first (falls_back rules class) ends)) (map (class_of_end rules class) (but_fallback rules class ends)) (class_of_end rules class e)
    ]

    abbrev left_of' : Option (End T) → NetError
    left_of' o = elim o [
      | None ↦ least_bad false (map (class_of_end rules' class') ends')
      | Some e ↦ class_left (map (class_of_end rules' class') (after_first (falls_back rules' class') ends')) (map (class_of_end rules' class') (but_fallback rules' class' ends')) (class_of_end rules' class' e)
    ]

    left_beside : {o : Option (End S)} {o' : Option (End T)} → BesideOption Both o o' → left_of o ≡ left_of' o'
    left_beside neither = ap (least_bad false) (classes_beside beside)
    left_beside (both {x = e} {y = e'} b) =
        ap (λ (cs : List Class). class_left cs (map (class_of_end rules class) (but_fallback rules class ends)) (class_of_end rules class e)) (classes_beside after_beside)
        ∙ ap (λ (cs : List Class). class_left (map (class_of_end rules' class') (after_first (falls_back rules' class') ends')) cs (class_of_end rules class e)) (classes_beside but_beside)
        ∙ ap (class_left (map (class_of_end rules' class') (after_first (falls_back rules' class') ends')) (map (class_of_end rules' class') (but_fallback rules' class' ends'))) b.0.outcome

    same_left : what_is_left rules class ends ≡ what_is_left rules' class' ends'
    same_left = left_beside turn_beside

  -- ---- an end decides, or the deadline does

  is_decided : {ends : List (End S)} {ends' : List (End T)} {result : Answered} → Beside Both ends ends' → IsDecided rules class ends result → IsDecided rules' class' ends' result
  is_decided {ends' = ends'} beside d =
      let parted = beside_parted Both d.earlier d.last (subst (λ (l : List (End S)). Beside Both l ends') d.whole beside) in
      record {
        earlier = parted.earlier;
        last = parted.last;
        whole = parted.whole;
        before = sym (same_final parted.before) ∙ d.before;
        final =
            sym (ap (λ (b : Bool). not b && (not (falls_back rules class d.last) || has_fallen_back rules class d.earlier)) (same_retries d.last parted.last parted.at_last)
            ∙ ap (λ (b : Bool). not (retries rules' class' parted.last) && (not b || has_fallen_back rules class d.earlier)) (same_turns d.last parted.last parted.at_last)
            ∙ ap (λ (b : Bool). not (retries rules' class' parted.last) && (not (falls_back rules' class' parted.last) || b)) (same_turned parted.before))
            ∙ d.final;
        answers = d.answers ∙ ap answer_of parted.at_last.0.outcome;
      }

  is_late : {ends : List (End S)} {ends' : List (End T)} {result : Answered} {start now : ℕ} → Beside Both ends ends' → IsLate rules class ends result start now → IsLate rules' class' ends' result start now
  is_late {ends' = ends'} {start = start} {now = now} beside l = record {
    none = sym (same_final beside) ∙ l.none;
    answers = l.answers;
    reached = subst (λ (n : ℕ). start + n ≤ now) timeout l.reached;
    some =
        sym (ap (λ (n : ℕ). not (n == 0) || rules.timeout == 0) (beside_length Both beside)
        ∙ ap (λ (n : ℕ). not (length ends' == 0) || n == 0) timeout)
        ∙ l.some;
  }

  -- what is known of the servers, of the pool and of the ends
  images : (pool : List S) → AllByRecursion P pool → Beside Image pool (map f pool)
  images pool known = beside_image f P pool known

  ends_beside : {ends : List (End S)} {ends' : List (End T)} → AllByRecursion (λ e. P e.server) ends → SameEnds f class class' ends ends' → Beside Both ends ends'
  ends_beside at ends = beside_and (IsSameEnd f class class') (λ e. P e.server) ends at

  -- ---- no server is left, where two servers are the same if and only if their images are

  module _ (same : (a b : S) → P a → P b → rules.same a b ≡ rules'.same (f a) (f b)) where
    same_at : (s : S) (t : T) → Image s t → (e : End S) (e' : End T) → Both e e' → is_at rules class s e ≡ is_at rules' class' t e'
    same_at s t i e e' b =
        same s e.server i.1 b.1
        ∙ ap (λ (x : T). rules'.same x (f e.server)) (sym i.0)
        ∙ ap (rules'.same t) (sym b.0.server)

    module _ {ends : List (End S)} {ends' : List (End T)} (beside : Beside Both ends ends') where
      was_tried : (s : S) (t : T) → Image s t
          → (refuses ends s || list_any (is_at rules class s) (but_fallback rules class ends)) ≡ (refuses' ends' t || list_any (is_at rules' class' t) (but_fallback rules' class' ends'))
      was_tried s t i =
          ap (λ (b : Bool). b || list_any (is_at rules class s) (but_fallback rules class ends)) (same_refused beside s t i)
          ∙ ap (λ (b : Bool). refuses' ends' t || b) (beside_any Both (is_at rules class s) (is_at rules' class' t) (same_at s t i) (but_beside beside))

      same_tried : {pool : List S} {pool' : List T} → Beside Image pool pool' → all_were_tried rules class pool ends ≡ all_were_tried rules' class' pool' ends'
      same_tried p =
          beside_all Image (λ s. refuses ends s || list_any (is_at rules class s) (but_fallback rules class ends)) (λ t. refuses' ends' t || list_any (is_at rules' class' t) (but_fallback rules' class' ends')) was_tried p

      repeated_beside : {o : Option (End S)} {o' : Option (End T)} → BesideOption Both o o' → repeated_of (after_first (falls_back rules class) ends) o ≡ repeated_of' (after_first (falls_back rules' class') ends') o'
      repeated_beside neither = refl
      repeated_beside (both {x = e} {y = e'} b) =
          ap (λ (t : Bool). not t || list_any (is_at rules class e.server) (after_first (falls_back rules class) ends)) (same_beyond e.server e'.server (image_of e e' b))
          ∙ ap (λ (t : Bool). not (rules'.beyond_udp e'.server) || t)
          (beside_any Both (is_at rules class e.server) (is_at rules' class' e'.server) (same_at e.server e'.server (image_of e e' b)) (after_beside beside))

      same_repeated : turn_was_repeated rules class ends ≡ turn_was_repeated rules' class' ends'
      same_repeated = repeated_beside (turn_beside beside)

      retried_beside : (n : ℕ) {o : Option (End S)} {o' : Option (End T)} → BesideOption Both o o' → retried_of n o ≡ retried_of' n o'
      retried_beside n neither = refl
      retried_beside n (both b) = ap (λ (c : Class). not (is_busy c) || nat_le 5 n) b.0.outcome

      own_beside : (s : S) (t : T) → Image s t → Beside Both (own s ends) (own' t ends')
      own_beside s t i = beside_filter Both (is_at rules class s) (is_at rules' class' t) (same_at s t i) (but_beside beside)

      was_retried : (s : S) (t : T) → Image s t → retried_of (length (own s ends)) (last_or None (own s ends)) ≡ retried_of' (length (own' t ends')) (last_or None (own' t ends'))
      was_retried s t i =
          retried_beside (length (own s ends)) (beside_last Both (own_beside s t i) neither)
          ∙ ap (λ (n : ℕ). retried_of' n (last_or None (own' t ends'))) (beside_length Both (own_beside s t i))

      same_retried : {pool : List S} {pool' : List T} → Beside Image pool pool' → busy_were_retried rules class pool ends ≡ busy_were_retried rules' class' pool' ends'
      same_retried p =
          beside_all Image (λ s. refuses ends s || retried_of (length (own s ends)) (last_or None (own s ends))) (λ t. refuses' ends' t || retried_of' (length (own' t ends')) (last_or None (own' t ends')))
          (λ s t i.
          ap (λ (b : Bool). b || retried_of (length (own s ends)) (last_or None (own s ends))) (same_refused beside s t i)
          ∙ ap (λ (b : Bool). refuses' ends' t || b) (was_retried s t i)) p

    is_spent : {pool : List S} {pool' : List T} {ends : List (End S)} {ends' : List (End T)} {result : Answered}
        → Beside Image pool pool' → Beside Both ends ends' → IsSpent rules class pool ends result → IsSpent rules' class' pool' ends' result
    is_spent servers beside s = record {
      none = sym (same_final beside) ∙ s.none;
      tried = sym (same_tried beside servers) ∙ s.tried;
      again = sym (same_repeated beside) ∙ s.again;
      busy = sym (same_retried beside servers) ∙ s.busy;
      answers = s.answers ∙ ap Err (same_left beside);
    }

    -- A run over servers that are known is one over their images.
    pub run_of_images : (pool : List S) {ends : List (End S)} {ends' : List (End T)} {result : Answered} {start now : ℕ}
        → AllByRecursion P pool → AllByRecursion (λ e. P e.server) ends → SameEnds f class class' ends ends'
        → PoolRun rules class pool ends result start now → PoolRun rules' class' (map f pool) ends' result start now
    run_of_images pool known at ends (decided d) = decided (is_decided (ends_beside at ends) d)
    run_of_images pool known at ends (spent s) = spent (is_spent (images pool known) (ends_beside at ends) s)
    run_of_images pool known at ends (late l) = late (is_late (ends_beside at ends) l)

  -- ---- the same, where two servers may have one image

  module _ (pool : List S) (listed : (a : S) → P a → Contains pool a)
      (itself : (a : S) → rules.same a a ≡ true)
      (joins : (a b : S) → rules.same a b ≡ true → f a ≡ f b)
      (itself' : (t : T) → rules'.same t t ≡ true)
      (equal : (t u : T) → rules'.same t u ≡ true → t ≡ u) where
    at_image : (s : S) (t : T) → Image s t → (e : End S) (e' : End T) → Both e e' → is_at rules class s e ≡ true → is_at rules' class' t e' ≡ true
    at_image s t i e e' b h =
        let there : t ≡ e'.server = i.0 ∙ joins s e.server h ∙ sym b.0.server in
        subst (λ (u : T). rules'.same t u ≡ true) there (itself' t)

    -- the end is at a server with this image
    abbrev has_image : T → End S → Bool
    has_image t e = rules'.same t (f e.server)

    module _ {ends : List (End S)} {ends' : List (End T)} (beside : Beside Both ends ends') where
      abbrev rest : List (End S)
      rest = but_fallback rules class ends

      abbrev rest' : List (End T)
      rest' = but_fallback rules' class' ends'

      abbrev tries : S → Bool
      tries s = refuses ends s || list_any (is_at rules class s) rest

      abbrev tries' : T → Bool
      tries' t = refuses' ends' t || list_any (is_at rules' class' t) rest'

      image_tried : (s : S) (t : T) → Image s t → tries s ≡ true → tries' t ≡ true
      image_tried s t i h =
          or_follows (refuses ends s) (list_any (is_at rules class s) rest) (refuses' ends' t) (list_any (is_at rules' class' t) rest') (same_refused beside s t i)
          (any_follows Both (is_at rules' class' t) (is_at rules class s) (at_image s t i) (but_beside beside)) h

      images_tried : {pool' : List T} → Beside Image pool pool' → all_were_tried rules class pool ends ≡ true → all_were_tried rules' class' pool' ends' ≡ true
      images_tried p h = all_follow Image tries' (λ s t i. image_tried s t i (all_at tries pool h s (Has-from_Contains pool s (listed s i.1)))) p

      image_repeated : {o : Option (End S)} {o' : Option (End T)} → BesideOption Both o o'
          → repeated_of (after_first (falls_back rules class) ends) o ≡ true → repeated_of' (after_first (falls_back rules' class') ends') o' ≡ true
      image_repeated neither h = refl
      image_repeated (both {x = e} {y = e'} b) h =
          let i = image_of e e' b in
          or_follows (not (rules.beyond_udp e.server)) (list_any (is_at rules class e.server) (after_first (falls_back rules class) ends))
          (not (rules'.beyond_udp e'.server)) (list_any (is_at rules' class' e'.server) (after_first (falls_back rules' class') ends')) (ap not (same_beyond e.server e'.server i))
          (any_follows Both (is_at rules' class' e'.server) (is_at rules class e.server) (at_image e.server e'.server i) (after_beside beside)) h

      -- the ends at servers with an image
      abbrev those : T → List (End S)
      those t = filter (has_image t) rest

      those_beside : (t : T) → Beside Both (those t) (own' t ends')
      those_beside t = beside_filter Both (has_image t) (is_at rules' class' t) (λ e e' b. ap (rules'.same t) (sym b.0.server)) (but_beside beside)

      -- those of one server among them
      narrower : (s : S) (t : T) → t ≡ f s → IsNarrower (is_at rules class s) (has_image t) rest
      narrower s t e =
          all_each (λ (x : End S). is_at rules class s x ≡ true → has_image t x ≡ true) rest
          (λ x h k. let there : t ≡ f x.server = e ∙ joins s x.server k in subst (λ (u : T). rules'.same t u ≡ true) there (itself' t))

      abbrev retried : S → Bool
      retried s = refuses ends s || retried_of (length (own s ends)) (last_or None (own s ends))

      abbrev retried' : T → Bool
      retried' t = refuses' ends' t || retried_of' (length (own' t ends')) (last_or None (own' t ends'))

      -- the server of the last of them was asked so often, if it was busy
      image_retried : list_all retried pool ≡ true → (t : T) {o : Option (End S)} {o' : Option (End T)} → last_or None (those t) ≡ o → BesideOption Both o o'
          → (refuses' ends' t || retried_of' (length (own' t ends')) o') ≡ true
      image_retried h t is neither = or_right (refuses' ends' t) true refl
      image_retried h t is (both {x = e} {y = e'} b) =
          let s = e.server in
          let passes : has_image t e ≡ true = last_passing (has_image t) rest None (λ x k. none_is_some x k) e is in
          let image : t ≡ f s = equal t (f s) passes in
          let last : last_or None (own s ends) ≡ Some e = last_narrowed (is_at rules class s) (has_image t) rest (narrower s t image) None None (λ x k i. k) e is (itself s) in
          let fact : (refuses ends s || retried_of (length (own s ends)) (Some e)) ≡ true =
          subst (λ (o : Option (End S)). (refuses ends s || retried_of (length (own s ends)) o) ≡ true) last (all_at retried pool h s (Has-from_Contains pool s (listed s b.1))) in
          let longer : length (own s ends) ≤ length (own' t ends') =
          subst (λ (n : ℕ). length (own s ends) ≤ n) (beside_length Both (those_beside t)) (length_narrowed (is_at rules class s) (has_image t) rest (narrower s t image)) in
          or_follows (refuses ends s) (retried_of (length (own s ends)) (Some e)) (refuses' ends' t) (retried_of' (length (own' t ends')) (Some e')) (same_refused beside s t (image, b.1))
          (or_follows (not (is_busy (class e.outcome))) (nat_le 5 (length (own s ends))) (not (is_busy (class' e'.outcome))) (nat_le 5 (length (own' t ends'))) (ap (λ (c : Class). not (is_busy c)) b.0.outcome)
          (at_least_five (length (own s ends)) (length (own' t ends')) longer)) fact
        where
          none_is_some : (x : End S) → None ≡ Some x → has_image t x ≡ true
          none_is_some x k = cc

      images_retried : {pool' : List T} → Beside Image pool pool' → busy_were_retried rules class pool ends ≡ true → busy_were_retried rules' class' pool' ends' ≡ true
      images_retried p h = all_follow Image retried' (λ s t i. image_retried h t refl (beside_last Both (those_beside t) neither)) p

    images_spent : {ends : List (End S)} {ends' : List (End T)} {result : Answered} → AllByRecursion P pool → Beside Both ends ends'
        → IsSpent rules class pool ends result → IsSpent rules' class' (map f pool) ends' result
    images_spent known beside s = record {
      none = sym (same_final beside) ∙ s.none;
      tried = images_tried beside (images pool known) s.tried;
      again = image_repeated beside (turn_beside beside) s.again;
      busy = images_retried beside (images pool known) s.busy;
      answers = s.answers ∙ ap Err (same_left beside);
    }

    -- A run over a pool is one over the images of its servers.
    pub run_of_joined : {ends : List (End S)} {ends' : List (End T)} {result : Answered} {start now : ℕ}
        → AllByRecursion P pool → AllByRecursion (λ e. P e.server) ends → SameEnds f class class' ends ends'
        → PoolRun rules class pool ends result start now → PoolRun rules' class' (map f pool) ends' result start now
    run_of_joined known at ends (decided d) = decided (is_decided (ends_beside at ends) d)
    run_of_joined known at ends (spent s) = spent (images_spent known (ends_beside at ends) s)
    run_of_joined known at ends (late l) = late (is_late (ends_beside at ends) l)

-- ---- candidates and their addresses

-- reached over another protocol than UDP too, with negatives that are trusted
pub record IsTrustedBeyondUdp (c : PoolServer) : Type 0 where
  pub beyond_udp : c.beyond_udp ≡ true
  pub trusted : c.trusted ≡ true

module _ (timeout : ℕ) (ip_of : ℕ → IpAddr) (pool : List PoolServer) where
  -- a candidate of the pool
  abbrev Known : PoolServer → Type 0
  Known c = IsTrustedBeyondUdp c × Contains pool c

  known : AllByRecursion IsTrustedBeyondUdp pool → (c : PoolServer) → Contains pool c → Known c
  known plain c h = (each_of IsTrustedBeyondUdp pool plain c (Has-from_Contains pool c h), h)

  -- A run over a pool of such candidates is one over their addresses; several may have one address.
  pub run_by_address : (class class' : Answered → Class) {ends : List (End PoolServer)} {ends' : List (End IpAddr)} {result : Answered} {start now : ℕ}
      → AllByRecursion IsTrustedBeyondUdp pool → AllByRecursion (λ e. Contains pool e.server) ends → SameEnds (at_address ip_of) class class' ends ends'
      → PoolRun (rules_of timeout) class pool ends result start now → PoolRun (by_address timeout) class' (map (at_address ip_of) pool) ends' result start now
  run_by_address class class' plain at beside run =
      run_of_joined (rules_of timeout) (by_address timeout) class class' (at_address ip_of) Known
      (λ a g. g.0.trusted) (λ a g. g.0.beyond_udp) refl
      pool (λ a g. g.1) same_self (λ a b h. ap (at_address ip_of) (same_is a b h)) same_ip-itself same_ip-true
      (all_each Known pool (λ c h. known plain c (Contains-from_Has pool c h)))
      (all_map (λ e. Contains pool e.server) (λ e. Known e.server) (λ e h. known plain e.server h) _ at) beside run

-- ---- what a send ended with, and what was told

-- a classified response, as a send ends with it
class_of_result : (q : Query) (r : Result Message DnsError) → class_of_sent q (result_of r) ≡ class_of_classified q r
class_of_result q (Ok m) = refl
class_of_result q (Err (dns.NoRecordsFound found)) = refl
class_of_result q (Err (dns.ResponseCode code)) = refl

-- A send that ended by a message for its question, in any case, has the class of the message.
pub told_class : (q : Query) (m : Message) → same_query m.query q ≡ true → class_of_sent q (result_of (classify_of m)) ≡ class_of_answer q (Ok m)
told_class q m same =
    class_of_result q (classify_of m)
    ∙ sym (classified-same m.query q same (classify_of m))
    ∙ sym (class_of_message-itself m)
    ∙ class_of_message-same m.query q same m

-- the same, where the message has the question itself
pub told_class_itself : (q : Query) (m : Message) → m.query ≡ q → class_of_sent q (result_of (classify_of m)) ≡ class_of_answer q (Ok m)
told_class_itself q m itself =
    subst (λ (p : Query). class_of_sent p (result_of (classify_of m)) ≡ class_of_answer p (Ok m)) itself
    (class_of_result m.query (classify_of m) ∙ sym (class_of_message-itself m))

-- One that ended by an error has the class of the error.
pub failed_class : (q : Query) (e : NetError) → class_of_sent q (Err e) ≡ class_of_answer q (Err e)
failed_class q e = refl

-- the end of a send, by a message or by an error, and the one at its server's address
pub told_end : (ip_of : ℕ → IpAddr) (q : Query) (c : PoolServer) (m : Message) → m.query ≡ q
    → IsSameEnd (at_address ip_of) (class_of_sent q) (class_of_answer q) (end_at c (result_of (classify_of m))) (record { server = ip_of c.server; outcome = Ok m })
told_end ip_of q c m itself = record { server = refl; outcome = told_class_itself q m itself }

pub failed_end : (ip_of : ℕ → IpAddr) (q : Query) (c : PoolServer) (e : NetError)
    → IsSameEnd (at_address ip_of) (class_of_sent q) (class_of_answer q) (end_at c (Err e)) (record { server = ip_of c.server; outcome = Err e })
failed_end ip_of q c e = record { server = refl; outcome = failed_class q e }

-- the address of a candidate of the pool is one of those of the pool
pub address_from_pool : (ip_of : ℕ → IpAddr) (pool : List PoolServer) (c : PoolServer) → Contains pool c → Contains (map (at_address ip_of) pool) (ip_of c.server)
address_from_pool ip_of pool c h = Contains-from_Has _ _ (has_image_of pool (Has-from_Contains pool c h))
  where
    has_image_of : (cs : List PoolServer) → Has cs c → Has (map (at_address ip_of) cs) (ip_of c.server)
    has_image_of [] k = elim k [ ]
    has_image_of (x ∷ xs) (inl e) = inl (ap (at_address ip_of) e)
    has_image_of (x ∷ xs) (inr k) = inr (has_image_of xs k)
