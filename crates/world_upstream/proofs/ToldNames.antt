-- What a world tells is of the question that was asked, and names fully qualified names alone where the world does.
use Rattle.std.proofs.Common.{◌≡◌, ℕ, zero, suc, ◌-◌, Bool, true, false, cond, List, [], ◌∷◌, ◌++◌, length, Option, Some, None, slice_get, refl, sym, ap, ◌∙◌, IsTrue}
use Rattle.std.specs.Prelude.{Result, Ok, Err, IfOk, filter, find, ◌==◌, ◌&&◌, not, nat_le}
use Rattle.std.specs.Option.{option_or, option_to_list}
use Rattle.std.specs.List.{list_all, list_any}
use Rattle.std.specs.Cmp.{first_so, second_so}
use Rattle.std.proofs.lemmas.Option.{option_and_then_some}
use Rattle.std.proofs.lemmas.List.Folds.{list_all-append}
use Rattle.std.specs.declared.net.IpAddr.{IpAddr}
use Rattle.dns_core.specs.Classifying.{is_soa, is_ns, is_address}
use Rattle.dns_core.specs.Message.{is_qualified_record, is_qualified_message}
use Rattle.dns_core.specs.Name.{DomainName, same_names}
use Rattle.dns_core.specs.declared.message.Query.{Query}
use Rattle.dns_core.specs.declared.message.Message.{Message}
use Rattle.dns_core.specs.declared.record.Record.{Record}
use Rattle.resolution.specs.Names.{is_above, walk}
use Rattle.zone_rules.specs.Tree.{qualified, zone_at, nearest, first_cut, host_of, numbered, has_apex, zone_among}
use Rattle.zone_rules.specs.Choosing.{is_of, owned, is_alias, alias_in, soa_of, servers, names_server, server_addresses}
use Rattle.zone_worlds.specs.Telling.{zone_asked, reply, referral, negative, positive, Follows, AnswersByAlias, Replies, Tells}
use Rattle.zone_rules.specs.Aliases.{next_alias}
use Rattle.zone_worlds.specs.Telling.Follows.{ends, leads}
use Rattle.zone_worlds.specs.Telling.AnswersByAlias.{alone, chained}
use Rattle.zone_worlds.specs.Telling.IsByAlias.{is_by_alias}
use Rattle.zone_worlds.specs.Telling.Replies.{denies, by_alias, gives, lacks}
use Rattle.zone_worlds.specs.Telling.Tells.{refuses, refers, answers}
use Rattle.zone_rules.specs.declared.world.Zone.{Zone}
use Rattle.zone_rules.specs.declared.world.Host.{Host}
use Rattle.zone_rules.specs.declared.world.World.{World}
use Rattle.world_upstream.specs.Qualified.{is_qualified_world}

-- ---- what all elements pass

all_at : {X : Type 0} (p : X → Bool) (xs : List X) (i : ℕ) (x : X) → list_all p xs ≡ true → slice_get xs i ≡ Some x → p x ≡ true
all_at p [] i x h e = cc
all_at p (y ∷ ys) zero x h e = let same : y ≡ x = cc in ap p (sym same) ∙ (first_so (p y) (list_all p ys) h)
all_at p (y ∷ ys) (suc i) x h e = all_at p ys i x (second_so (p y) (list_all p ys) h) e

all_found : {X : Type 0} (p t : X → Bool) (xs : List X) (x : X) → list_all p xs ≡ true → find t xs ≡ Some x → p x ≡ true
all_found p t [] x h e = cc
all_found p t (y ∷ ys) x h e = at_head (t y) e (all_found p t ys x (second_so (p y) (list_all p ys) h))
  where
    at_head : (b : Bool) → cond b (Some y) (find t ys) ≡ Some x → (find t ys ≡ Some x → p x ≡ true) → p x ≡ true
    at_head true e next = let same : y ≡ x = cc in ap p (sym same) ∙ first_so (p y) (list_all p ys) h
    at_head false e next = next e

all_filter : {X : Type 0} (p t : X → Bool) (xs : List X) → list_all p xs ≡ true → list_all p (filter t xs) ≡ true
all_filter p t [] h = refl
all_filter p t (y ∷ ys) h = at_head (t y) (all_filter p t ys (second_so (p y) (list_all p ys) h))
  where
    at_head : (b : Bool) → list_all p (filter t ys) ≡ true → list_all p (cond b (y ∷ filter t ys) (filter t ys)) ≡ true
    at_head true rest = ap (λ (a : Bool). a && list_all p (filter t ys)) (first_so (p y) (list_all p ys) h) ∙ rest
    at_head false rest = rest

all_append : {X : Type 0} (p : X → Bool) (xs ys : List X) → list_all p xs ≡ true → list_all p ys ≡ true → list_all p (xs ++ ys) ≡ true
all_append p xs ys h k = list_all-append p xs ys ∙ ap (λ (a : Bool). a && list_all p ys) h ∙ k

-- ---- the zones that are found

abbrev are_qualified : List Record → Bool
are_qualified rs = list_all is_qualified_record rs

abbrev IsQualified : Zone → Type 0
IsQualified z = are_qualified z.records ≡ true

abbrev AreQualified : List Zone → Type 0
AreQualified zones = list_all (λ z. are_qualified z.records) zones ≡ true

either : {X P : Type 0} (o p : Option X) (x : X) → option_or o p ≡ Some x → (o ≡ Some x → P) → (p ≡ Some x → P) → P
either None p x e f g = g e
either (Some y) p x e f g = f e

nearest_qualified : (look_up : List (List ℕ) → Option Zone) → ((ls : List (List ℕ)) (z : Zone) → look_up ls ≡ Some z → IsQualified z) → (ls : List (List ℕ)) (z : Zone) → nearest look_up ls ≡ Some z → IsQualified z
nearest_qualified look_up h [] z e = h [] z e
nearest_qualified look_up h (l ∷ ls) z e = either (look_up (l ∷ ls)) (nearest look_up ls) z e (h (l ∷ ls) z) (nearest_qualified look_up h ls z)

zone_at_qualified : (zones : List Zone) (ls : List (List ℕ)) (z : Zone) → AreQualified zones → zone_at zones ls ≡ Some z → IsQualified z
zone_at_qualified zones ls z h e = all_found (λ y. are_qualified y.records) (λ y. same_names y.apex (qualified ls)) zones z h e

numbered_qualified : (zones : List Zone) (n : ℕ) (z : Zone) → AreQualified zones → numbered zones n ≡ Some z → IsQualified z
numbered_qualified zones n z h e = at_zero (n == 0) e
  where
    at_zero : (b : Bool) → cond b None (slice_get zones (n - 1)) ≡ Some z → IsQualified z
    at_zero true e = cc
    at_zero false e = all_at (λ y. are_qualified y.records) zones (n - 1) z h e

zone_among_qualified : (zones : List Zone) (numbers : List ℕ) (ls : List (List ℕ)) (z : Zone) → AreQualified zones → zone_among zones numbers ls ≡ Some z → IsQualified z
zone_among_qualified zones numbers ls z h e =
    option_and_then_some (λ n. numbered zones n) (find (λ n. has_apex ls (numbered zones n)) numbers) z e (λ n at is. numbered_qualified zones n z h is)

zone_asked_qualified : (w : World) (ip : IpAddr) (q : Query) (z : Zone) → AreQualified w.zones → zone_asked w ip q ≡ Some z → IsQualified z
zone_asked_qualified w ip q z h e = at_flag (q.name).fqdn e
  where
    at_host : (o : Option Host) → elim o [ None ↦ None | Some host ↦ nearest (λ labels. zone_among w.zones host.zones labels) (walk q).labels ] ≡ Some z → IsQualified z
    at_host None e = cc
    at_host (Some host) e = nearest_qualified (λ labels. zone_among w.zones host.zones labels) (λ ls y f. zone_among_qualified w.zones host.zones ls y h f) (walk q).labels z e

    at_flag : (b : Bool) → cond b (elim (host_of w ip) [ None ↦ None | Some host ↦ nearest (λ labels. zone_among w.zones host.zones labels) (walk q).labels ]) None ≡ Some z → IsQualified z
    at_flag true e = at_host (host_of w ip) e
    at_flag false e = cc

first_cut_qualified : (zones : List Zone) (apex : ℕ) (ls : List (List ℕ)) (z : Zone) → AreQualified zones → first_cut zones apex ls ≡ Some z → IsQualified z
first_cut_qualified zones apex [] z h e = cc
first_cut_qualified zones apex (l ∷ ls) z h e = at_depth (nat_le (length (l ∷ ls)) apex) e (first_cut_qualified zones apex ls z h)
  where
    at_depth : (b : Bool) → cond b None (option_or (first_cut zones apex ls) (zone_at zones (l ∷ ls))) ≡ Some z → (first_cut zones apex ls ≡ Some z → IsQualified z) → IsQualified z
    at_depth true e next = cc
    at_depth false e next = either (first_cut zones apex ls) (zone_at zones (l ∷ ls)) z e next (zone_at_qualified zones (l ∷ ls) z h)

-- ---- what a zone tells

reply_qualified : (q : Query) (code : ℕ) (authoritative : Bool) (xs ys zs : List Record) → are_qualified xs ≡ true → are_qualified ys ≡ true → are_qualified zs ≡ true → is_qualified_message (reply q code authoritative xs ys zs) ≡ true
reply_qualified q code authoritative xs ys zs a b c =
    ap (λ (x : Bool). x && are_qualified ys && are_qualified zs) a ∙ ap (λ (x : Bool). x && are_qualified zs) b ∙ c

server_addresses_qualified : (z : Zone) (owner : DomainName) → IsQualified z → are_qualified (server_addresses z owner) ≡ true
server_addresses_qualified z owner h = all_filter is_qualified_record (λ r. is_address r && is_above z.apex r.name && list_any (names_server owner r.name) z.records) z.records h

owned_qualified : (z : Zone) (n : DomainName) (q : Query) → IsQualified z → are_qualified (owned z n q.query_type) ≡ true
owned_qualified z n q h = all_filter is_qualified_record (λ r. same_names r.name n && is_of q.query_type r) z.records h

referral_qualified : (child : Zone) (q : Query) → IsQualified child → is_qualified_message (referral child q) ≡ true
referral_qualified child q h =
    reply_qualified q 0 false [] (servers child child.apex) (server_addresses child child.apex) refl
    (all_filter is_qualified_record (λ r. is_ns r && same_names r.name child.apex) child.records h) (server_addresses_qualified child child.apex h)

soa_qualified : (z : Zone) → IsQualified z → are_qualified (soa_of z) ≡ true
soa_qualified z h = at_first (find (λ r. is_soa r && same_names r.name z.apex) z.records) (λ r e. all_found is_qualified_record (λ x. is_soa x && same_names x.name z.apex) z.records r h e)
  where
    at_first : (o : Option Record) → ((r : Record) → o ≡ Some r → is_qualified_record r ≡ true) → are_qualified (option_to_list o) ≡ true
    at_first None f = refl
    at_first (Some r) f = ap (λ (x : Bool). x && true) (f r refl)

negative_qualified : (z : Zone) (q : Query) (code : ℕ) → IsQualified z → is_qualified_message (negative z q code) ≡ true
negative_qualified z q code h = reply_qualified q code true [] (soa_of z) [] refl (soa_qualified z h) refl

positive_qualified : (z : Zone) (q : Query) → IsQualified z → is_qualified_message (positive z q (owned z q.name q.query_type)) ≡ true
positive_qualified z q h =
    reply_qualified q 0 true (owned z q.name q.query_type) [] (cond (q.query_type.code == 2) (server_addresses z q.name) []) (owned_qualified z q.name q h) refl (at_type (q.query_type.code == 2))
  where
    at_type : (b : Bool) → are_qualified (cond b (server_addresses z q.name) []) ≡ true
    at_type true = server_addresses_qualified z q.name h
    at_type false = refl

alias_qualified : (z : Zone) (n : DomainName) (c : Record) → IsQualified z → alias_in z n ≡ Some c → is_qualified_record c ≡ true
alias_qualified z n c h e = all_found is_qualified_record (is_alias n) z.records c h e

next_alias_qualified : (z : Zone) (met : List DomainName) (n : DomainName) (c : Record) → IsQualified z → next_alias z met n ≡ Some c → is_qualified_record c ≡ true
next_alias_qualified z met n c h e = at_name (is_above z.apex n && not (list_any (same_names n) met)) e
  where
    at_name : (b : Bool) → cond b (alias_in z n) None ≡ Some c → is_qualified_record c ≡ true
    at_name true e = alias_qualified z n c h e
    at_name false e = cc

follows_qualified : {z : Zone} {met : List DomainName} {n last : DomainName} {cs : List Record} → IsQualified z → Follows z met n cs last → are_qualified cs ≡ true
follows_qualified h (ends e) = refl
follows_qualified {z = z} {met = met} {n = n} h (leads {c = c} {cs = cs} e t f) =
    ap (λ (x : Bool). x && are_qualified cs) (next_alias_qualified z met n c h e) ∙ follows_qualified h f

by_alias_qualified : {z : Zone} {q : Query} {chain : Bool} {rs : List Record} → IsQualified z → AnswersByAlias z q chain rs → are_qualified rs ≡ true
by_alias_qualified {z = z} {q = q} h (alone {c = c} f e) = ap (λ (x : Bool). x && true) (alias_qualified z q.name c h e)
by_alias_qualified {z = z} {q = q} h (chained {cs = cs} {last = last} f e) =
    all_append is_qualified_record cs (owned z last q.query_type) (follows_qualified h e) (owned_qualified z last q h)

replies_qualified : {w : World} {z : Zone} {q : Query} {m : Message} → IsQualified z → Replies w z q m → is_qualified_message m ≡ true
replies_qualified {z = z} {q = q} h (denies e) = negative_qualified z q 3 h
replies_qualified {q = q} h (by_alias e a (is_by_alias {rs = rs} b)) = reply_qualified q 0 true rs [] [] (by_alias_qualified h b) refl refl
replies_qualified {z = z} {q = q} h (gives e a o) = positive_qualified z q h
replies_qualified {z = z} {q = q} h (lacks e a o) = negative_qualified z q 0 h

pub tells_qualified : (w : World) (ip : IpAddr) (q : Query) (m : Message) → IsTrue (is_qualified_world w) → Tells w ip q m → IsTrue (is_qualified_message m)
tells_qualified w ip q m h t = at t
  where
    at : {m : Message} → Tells w ip q m → is_qualified_message m ≡ true
    at (refuses z) = refl
    at (refers {z = z} {child = child} a c) = referral_qualified child q (first_cut_qualified w.zones (length (z.apex).labels) (walk q).labels child h c)
    at (answers {z = z} a c r) = replies_qualified (zone_asked_qualified w ip q z h a) r

replies_question : {w : World} {z : Zone} {q : Query} {m : Message} → Replies w z q m → m.query ≡ q
replies_question (denies e) = refl
replies_question (by_alias e a (is_by_alias b)) = refl
replies_question (gives e a o) = refl
replies_question (lacks e a o) = refl

-- what is told has the question that was asked
pub tells_question : (w : World) (ip : IpAddr) (q : Query) (m : Message) → Tells w ip q m → m.query ≡ q
tells_question w ip q m t = at t
  where
    at : {m : Message} → Tells w ip q m → m.query ≡ q
    at (refuses z) = refl
    at (refers a c) = refl
    at (answers a c r) = replies_question r

pub told_question : {E : Type 0} (w : World) (ip : IpAddr) (q : Query) (r : Result Message E) → IfOk r (Tells w ip q) → IfOk r (λ m. m.query ≡ q)
told_question w ip q (Ok m) t = tells_question w ip q m t
told_question w ip q (Err e) t = tt

pub told_qualified : {E : Type 0} (w : World) (ip : IpAddr) (q : Query) (r : Result Message E) → IsTrue (is_qualified_world w) → IfOk r (Tells w ip q) → IfOk r (λ m. IsTrue (is_qualified_message m))
told_qualified w ip q (Ok m) h t = tells_qualified w ip q m h t
told_qualified w ip q (Err e) h t = tt
