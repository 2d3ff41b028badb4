-- What a world tells are records of its zones, and the NS records of one message have one owner.
use Rattle.std.proofs.Common.{◌≡◌, ℕ, Bool, true, false, cond, List, [], ◌∷◌, ◌++◌, Option, Some, None, inl, inr, refl, subst}
use Rattle.std.specs.Prelude.{◌==◌, ◌-◌, ◌&&◌, find, slice_get, option_and_then, if◌then◌else◌}
use Rattle.std.specs.Option.{option_or, option_to_list, is_some}
use Rattle.std.specs.List.{list_any}
use Rattle.std.specs.declared.net.IpAddr.{IpAddr}
use Rattle.dns_core.specs.Name.{DomainName, same_names}
use Rattle.dns_core.specs.Classifying.{is_soa, is_ns, is_address}
use Rattle.dns_core.specs.declared.message.Query.{Query}
use Rattle.dns_core.specs.declared.message.Message.{Message}
use Rattle.dns_core.specs.declared.record.Record.{Record}
use Rattle.dns_core.specs.declared.record.RData.{RData}
use Rattle.dns_core.specs.declared.record.RData.TheVariants.{A, AAAA, NS, CNAME, SOA, RRSIG, Opaque}
use Rattle.resolution.specs.Names.{root, is_above, walk}
use Rattle.resolution.specs.Records.{records, cname_target}
use Rattle.resolution.proofs.ElementsFiltered.{Has, Contains-from_Has, Has-append_cases, Has-filter, Has-passes}
use Rattle.resolution.proofs.EntriesNumbered.{Has-from_slice_get}
use Rattle.zone_rules.specs.Tree.{qualified, zone_at, nearest, first_cut, host_of, numbered, has_apex, zone_among}
use Rattle.zone_rules.specs.Choosing.{is_of, owned, is_alias, alias_in, soa_of, servers, names_server, server_addresses}
use Rattle.zone_rules.specs.Aliases.{next_alias}
use Rattle.zone_rules.specs.declared.world.Zone.{Zone}
use Rattle.zone_rules.specs.declared.world.Host.{Host}
use Rattle.zone_rules.specs.declared.world.World.{World}
use Rattle.zone_worlds.specs.Telling.{zone_asked, child_of, reply, Follows, AnswersByAlias, Replies, Tells}
use Rattle.zone_worlds.specs.Telling.Follows.{ends, leads}
use Rattle.zone_worlds.specs.Telling.AnswersByAlias.{alone, chained}
use Rattle.zone_worlds.specs.Telling.IsByAlias.{is_by_alias}
use Rattle.zone_worlds.specs.Telling.Replies.{denies, by_alias, gives, lacks}
use Rattle.zone_worlds.specs.Telling.Tells.{refuses, refers, answers}
use Rattle.zone_worlds.proofs.FoundInLists.{find_Has, find_passes}
use Rattle.zone_worlds.proofs.ZonesFound.{alias_in_Has}
use Rattle.world_facts.specs.Served.{IsHeld}
use Rattle.world_facts.proofs.ElementsThatPass.{halves, in_parts, either}

-- ---- zones that are found are those of the world

pub zone_at_Has : (zones : List Zone) (ls : List (List ℕ)) (z : Zone) → zone_at zones ls ≡ Some z → Has zones z
zone_at_Has zones ls z e = find_Has (λ y. same_names y.apex (qualified ls)) zones z e

numbered_Has : (zones : List Zone) (n : ℕ) (z : Zone) → numbered zones n ≡ Some z → Has zones z
numbered_Has zones n z e = at_flag (n == 0) e
  where
    at_flag : (b : Bool) → cond b None (slice_get zones (n - 1)) ≡ Some z → Has zones z
    at_flag true h = cc
    at_flag false h = Has-from_slice_get zones (n - 1) z h

pub among_Has : (zones : List Zone) (numbers : List ℕ) (ls : List (List ℕ)) (z : Zone) → zone_among zones numbers ls ≡ Some z → Has zones z
among_Has zones numbers ls z e = at_found (find (λ n. has_apex ls (numbered zones n)) numbers) e
  where
    at_found : (o : Option ℕ) → option_and_then (λ n. numbered zones n) o ≡ Some z → Has zones z
    at_found None h = cc
    at_found (Some n) h = numbered_Has zones n z h

nearest_of : (P : Zone → Type 0) (look_up : List (List ℕ) → Option Zone) → ((xs : List (List ℕ)) (z : Zone) → look_up xs ≡ Some z → P z)
    → (ls : List (List ℕ)) (z : Zone) → nearest look_up ls ≡ Some z → P z
nearest_of P look_up each [] z e = each [] z e
nearest_of P look_up each (l ∷ ls) z e = elim (either (look_up (l ∷ ls)) (nearest look_up ls) z e) [
  | inl here ↦ each (l ∷ ls) z here
  | inr above ↦ nearest_of P look_up each ls z above
]

pub zone_asked_Has : (w : World) (ip : IpAddr) (q : Query) (z : Zone) → zone_asked w ip q ≡ Some z → Has w.zones z
zone_asked_Has w ip q z e = at_flag (q.name).fqdn e
  where
    at_host : (o : Option Host) → elim o [ None ↦ None | Some h ↦ nearest (λ labels. zone_among w.zones h.zones labels) (walk q).labels ] ≡ Some z → Has w.zones z
    at_host None h = cc
    at_host (Some host) h = nearest_of (λ y. Has w.zones y) (λ labels. zone_among w.zones host.zones labels) (λ xs y k. among_Has w.zones host.zones xs y k) (walk q).labels z h

    at_flag : (b : Bool) → cond b (elim (host_of w ip) [ None ↦ None | Some h ↦ nearest (λ labels. zone_among w.zones h.zones labels) (walk q).labels ]) None ≡ Some z → Has w.zones z
    at_flag true h = at_host (host_of w ip) h
    at_flag false h = cc

pub first_cut_Has : (zones : List Zone) (apex : ℕ) (ls : List (List ℕ)) (z : Zone) → first_cut zones apex ls ≡ Some z → Has zones z
first_cut_Has zones apex [] z e = cc
first_cut_Has zones apex (l ∷ ls) z e = at_flag _ e (first_cut_Has zones apex ls z)
  where
    at_flag : (b : Bool) → cond b None (option_or (first_cut zones apex ls) (zone_at zones (l ∷ ls))) ≡ Some z → (first_cut zones apex ls ≡ Some z → Has zones z) → Has zones z
    at_flag true h rest = cc
    at_flag false h rest = elim (either (first_cut zones apex ls) (zone_at zones (l ∷ ls)) z h) [
      | inl above ↦ rest above
      | inr here ↦ zone_at_Has zones (l ∷ ls) z here
    ]

pub child_Has : (w : World) (z : Zone) (q : Query) (c : Zone) → child_of w z q ≡ Some c → Has w.zones c
child_Has w z q c e = first_cut_Has w.zones _ (walk q).labels c e

-- ---- kinds of records

pub soa_no_ns : (r : Record) → is_soa r ≡ true → is_ns r ≡ true → ⊥
soa_no_ns r s n = at_data r.rdata s n
  where
    at_data : (d : RData) → (elim d [ SOA s ↦ true | _ ↦ false ]) ≡ true → (elim d [ NS n ↦ true | _ ↦ false ]) ≡ true → ⊥
    at_data (A ip) s n = cc
    at_data (AAAA ip) s n = cc
    at_data (NS t) s n = cc
    at_data (CNAME t) s n = cc
    at_data (SOA t) s n = cc
    at_data (RRSIG covered rest) s n = cc
    at_data (Opaque bytes) s n = cc

pub address_no_ns : (r : Record) → is_address r ≡ true → is_ns r ≡ true → ⊥
address_no_ns r s n = at_data r.rdata s n
  where
    at_data : (d : RData) → (elim d [ A ip ↦ true | AAAA ip ↦ true | _ ↦ false ]) ≡ true → (elim d [ NS n ↦ true | _ ↦ false ]) ≡ true → ⊥
    at_data (A ip) s n = cc
    at_data (AAAA ip) s n = cc
    at_data (NS t) s n = cc
    at_data (CNAME t) s n = cc
    at_data (SOA t) s n = cc
    at_data (RRSIG covered rest) s n = cc
    at_data (Opaque bytes) s n = cc

pub alias_no_ns : (r : Record) → is_some (cname_target r) ≡ true → is_ns r ≡ true → ⊥
alias_no_ns r s n = at_data r.rdata s n
  where
    at_data : (d : RData) → is_some (elim d [ CNAME n ↦ Some n | _ ↦ None ]) ≡ true → (elim d [ NS n ↦ true | _ ↦ false ]) ≡ true → ⊥
    at_data (A ip) s n = cc
    at_data (AAAA ip) s n = cc
    at_data (NS t) s n = cc
    at_data (CNAME t) s n = cc
    at_data (SOA t) s n = cc
    at_data (RRSIG covered rest) s n = cc
    at_data (Opaque bytes) s n = cc

-- ---- the records of a message that a zone made

-- A record of a message stands in the zone, and an NS record is of the owner.
pub record IsOf (z : Zone) (owner : DomainName) (r : Record) : Type 0 where
  pub within : Has z.records r
  pub owner_of : is_ns r ≡ true → same_names r.name owner ≡ true

pub servers_of : (z : Zone) (owner : DomainName) (r : Record) → Has (servers z owner) r → IsOf z owner r
servers_of z owner r h = record {
  within = Has-filter (λ r. is_ns r && same_names r.name owner) z.records r h;
  owner_of = λ n. (halves (is_ns r) (same_names r.name owner) (Has-passes (λ r. is_ns r && same_names r.name owner) z.records r h)).1;
}

pub addresses_of : (z : Zone) (owner n : DomainName) (r : Record) → Has (server_addresses z n) r → IsOf z owner r
addresses_of z owner n r h =
    let p : Record → Bool = λ r. is_address r && is_above z.apex r.name && list_any (names_server n r.name) z.records in
    record {
      within = Has-filter (λ r. is_address r && is_above z.apex r.name && list_any (names_server n r.name) z.records) z.records r h;
      owner_of = λ ns. absurd (address_no_ns r
          (halves (is_address r) (is_above z.apex r.name) (halves (is_address r && is_above z.apex r.name) (list_any (names_server n r.name) z.records)
          (Has-passes (λ r. is_address r && is_above z.apex r.name && list_any (names_server n r.name) z.records) z.records r h)).0).0 ns);
    }

pub soa_is : (z : Zone) (owner : DomainName) (r : Record) → Has (soa_of z) r → IsOf z owner r
soa_is z owner r h = at_found (find (λ r. is_soa r && same_names r.name z.apex) z.records) refl h
  where
    at_found : (o : Option Record) → find (λ r. is_soa r && same_names r.name z.apex) z.records ≡ o → Has (option_to_list o) r → IsOf z owner r
    at_found None e k = elim k [ ]
    at_found (Some s) e (inl same) = subst (IsOf z owner) same (record {
      within = find_Has (λ r. is_soa r && same_names r.name z.apex) z.records s e;
      owner_of = λ ns. absurd (soa_no_ns s (halves (is_soa s) _ (find_passes (λ r. is_soa r && same_names r.name z.apex) z.records s e)).0 ns);
    })
    at_found (Some s) e (inr k) = elim k [ ]

owned_of : (z : Zone) (n : DomainName) (q : Query) (r : Record) → Has (owned z n q.query_type) r → IsOf z n r
owned_of z n q r h = record {
  within = Has-filter (λ r. same_names r.name n && is_of q.query_type r) z.records r h;
  owner_of = λ ns. (halves (same_names r.name n) (is_of q.query_type r) (Has-passes (λ r. same_names r.name n && is_of q.query_type r) z.records r h)).0;
}

pub owned_is : (z : Zone) (n : DomainName) (q : Query) (r : Record) → Has (owned z n q.query_type) r → same_names r.name n ≡ true
owned_is z n q r h = (halves (same_names r.name n) (is_of q.query_type r) (Has-passes (λ r. same_names r.name n && is_of q.query_type r) z.records r h)).0

alias_is : (z : Zone) (owner n : DomainName) (c : Record) → alias_in z n ≡ Some c → IsOf z owner c
alias_is z owner n c e = record {
  within = alias_in_Has z n c e;
  owner_of = λ ns. absurd (alias_no_ns c (halves (is_some (cname_target c)) (same_names c.name n) (find_passes (is_alias n) z.records c e)).0 ns);
}

next_in : (z : Zone) (met : List DomainName) (n : DomainName) (c : Record) → next_alias z met n ≡ Some c → alias_in z n ≡ Some c
next_in z met n c e = at_test _ e
  where
    at_test : (b : Bool) → cond b (alias_in z n) None ≡ Some c → alias_in z n ≡ Some c
    at_test true e = e
    at_test false e = cc

pub follows_are : {z : Zone} {met : List DomainName} {n last : DomainName} {cs : List Record} (owner : DomainName) (r : Record) → Follows z met n cs last → Has cs r → IsOf z owner r
follows_are owner r (ends e) h = elim h [ ]
follows_are {z = z} owner r (leads {met = met} {n = n} {c = c} e t f) (inl same) = subst (IsOf z owner) same (alias_is z owner n c (next_in z met n c e))
follows_are owner r (leads e t f) (inr k) = follows_are owner r f k

-- a zone from which all records of a message are, and the owner of its NS records
pub record IsFrom (w : World) (m : Message) : Type 0 where
  pub zone : Zone
  pub owner : DomainName
  pub has : Has w.zones zone
  pub each : (r : Record) → Has (records m) r → IsOf zone owner r

alias_from : (w : World) (z : Zone) (q : Query) (rs : List Record) → Has w.zones z → AnswersByAlias z q w.chain rs → IsFrom w (reply q 0 true rs [] [])
alias_from w z q rs has (alone {c = c} f e) = record {
  zone = z;
  owner = root;
  has = has;
  each = λ r h. in_parts (IsOf z root r) (c ∷ []) [] [] r h
      (λ k. elim k [ inl same ↦ subst (IsOf z root) same (alias_is z root q.name c e) | inr none ↦ absurd none ])
      (λ k. absurd k) (λ k. absurd k);
}
alias_from w z q rs has (chained {cs = cs} {last = last} f follows) = record {
  zone = z;
  owner = last;
  has = has;
  each = λ r h. in_parts (IsOf z last r) (cs ++ owned z last q.query_type) [] [] r h
      (λ k. elim (Has-append_cases cs (owned z last q.query_type) r k) [ inl a ↦ follows_are last r follows a | inr a ↦ owned_of z last q r a ])
      (λ k. absurd k) (λ k. absurd k);
}

pub replies_from : (w : World) (z : Zone) (q : Query) (m : Message) → Has w.zones z → Replies w z q m → IsFrom w m
replies_from w z q m has (denies e) = record {
  zone = z;
  owner = root;
  has = has;
  each = λ r h. in_parts (IsOf z root r) [] (soa_of z) [] r h (λ k. absurd k) (λ k. soa_is z root r k) (λ k. absurd k);
}
replies_from w z q m has (by_alias e a (is_by_alias {rs = rs} b)) = alias_from w z q rs has b
replies_from w z q m has (gives e a o) = record {
  zone = z;
  owner = q.name;
  has = has;
  each = λ r h. in_parts (IsOf z q.name r) (owned z q.name q.query_type) [] (if q.query_type.code == 2 then server_addresses z q.name else []) r h
      (λ k. owned_of z q.name q r k) (λ k. absurd k) (λ k. beside r (q.query_type.code == 2) k);
}
  where
    beside : (r : Record) (b : Bool) → Has (cond b (server_addresses z q.name) []) r → IsOf z q.name r
    beside r true k = addresses_of z q.name q.name r k
    beside r false k = elim k [ ]
replies_from w z q m has (lacks e a o) = record {
  zone = z;
  owner = root;
  has = has;
  each = λ r h. in_parts (IsOf z root r) [] (soa_of z) [] r h (λ k. absurd k) (λ k. soa_is z root r k) (λ k. absurd k);
}

-- What is told with records is from one zone.
pub told_from : (w : World) (ip : IpAddr) (q : Query) (m : Message) (r : Record) → Tells w ip q m → Has (records m) r → IsFrom w m
told_from w ip q m r (refuses e) h = elim h [ ]
told_from w ip q m r (refers {z = z} {child = c} e f) h = record {
  zone = c;
  owner = c.apex;
  has = child_Has w z q c f;
  each = λ s k. in_parts (IsOf c c.apex s) [] (servers c c.apex) (server_addresses c c.apex) s k (λ a. absurd a) (λ a. servers_of c c.apex s a) (λ a. addresses_of c c.apex c.apex s a);
}
told_from w ip q m r (answers {z = z} {m = n} e f reply) h = replies_from w z q n (zone_asked_Has w ip q z e) reply

pub is_held : (w : World) (m : Message) (r : Record) (f : IsFrom w m) → Has (records m) r → IsHeld w r
is_held w m r f h = record { zone = f.zone; has = Contains-from_Has w.zones f.zone f.has; within = Contains-from_Has f.zone.records r (f.each r h).within }
