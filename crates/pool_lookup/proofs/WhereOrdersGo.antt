-- Where the orders of a lookup go.
use Rattle.std.proofs.Common.{◌≡◌, ◌∙◌, ℕ, ◌+◌, ◌&&◌, Bool, true, false, List, [], ◌∷◌, ◌++◌, map, find, Option, Some, None, inl, inr, refl, ap, sym, subst, eq-eqb}
use Rattle.std.specs.Prelude.{slice_set, count_by, Contains}
use Rattle.std.specs.declared.net.ip_addr.IpAddr.{IpAddr}
use Rattle.resolution.proofs.ElementsFiltered.{Has, Has-append_right}
use Rattle.server_core.specs.Hearing.{without_dead}
use Rattle.server_core.specs.Sending.{is_open, StepIs}
use Rattle.server_core.specs.Servers.{Server}
use Rattle.server_core.specs.declared.orders.order.Order.{Order}
use Rattle.server_core.specs.declared.orders.order.Order.TheVariants as order
use Rattle.server_core.specs.declared.sends.server_send.SendStep.TheVariants as made
use Rattle.server_core.specs.declared.sends.server_send.ServerSend.{ServerSend}
use Rattle.server_core.specs.declared.sends.server_send.Stage.{Stage}
use Rattle.server_core.specs.declared.sends.server_send.Stage.TheVariants as stage
use Rattle.pool_rules.specs.declared.pool_server.PoolServer.{PoolServer}
use Rattle.pool_lookup.specs.declared.attempt.Attempt.{Attempt}
use Rattle.pool_lookup.specs.declared.giving.Want.{Want}
use Rattle.pool_lookup.specs.declared.giving.Want.TheVariants as want
use Rattle.pool_lookup.specs.declared.lookup.State.TheVariants.{Asking}
use Rattle.pool_lookup.specs.Asked.{opens_in, opens}
use Rattle.pool_lookup.specs.Attempts.{GoesTo, is_open_at}
use Rattle.pool_lookup.specs.Cancelling.{address_of}
use Rattle.pool_lookup.specs.Giving.{want_of, ordered, beginning, Orders, Resumes, Begins, Sleeps, GivesFor}
use Rattle.pool_lookup.specs.Holds.{HeardEnd, ends_of, HoldsBy}
use Rattle.pool_lookup.specs.Lookup.{LookupState, question_of, under_way}
use Rattle.pool_lookup.specs.Running.{IsFor, IsSentTo, IsGivenFor}
use Rattle.pool_lookup.proofs.QueueStandsByLists.{under_from_pool, picked_has}
use Rattle.pool_lookup.proofs.ListFacts.{all_get}
use Rattle.pool_lookup.proofs.LookupHoldsOn.{asks_so}
use Rattle.pool_lookup.proofs.HoldsWhereItGives.{beginning_goes}
use Rattle.pool_lookup.proofs.FirstAndItsPlace.{first_set, first_more}
use Rattle.pool_lookup.proofs.StepsCanBeTaken.{resume_asks, begin_asks}

-- ---- what a send gives

-- it asks over a connection, or opens one
pub record IsSent (address : IpAddr) (asks : Bool) (ip : IpAddr) (next : Stage) : Type 0 where
  pub form : IsFor asks next
  pub on : is_open next ≡ true
  pub at : ip ≡ address

abbrev SentBy : ServerSend → IpAddr → Order → Stage → Type 0
SentBy s address (order.Open ip config) next = IsSent address false ip next
SentBy s address (order.Ask conn ip protocol request) next = (request ≡ s.request) × IsSent address true ip next
SentBy s address (order.Sleep until) next = ⊥

asked_over : (s : ServerSend) (now : ℕ) (again : Bool) (conn : ℕ) (server : Server) (given : Order) (next : Stage) (protocol : _) → (made.Order given ≡ made.Order (order.Ask conn server.config.ip protocol s.request))
    → next ≡ stage.Asking (record { conn = conn; at = now; again = again }) 0 → SentBy s server.config.ip given next
asked_over s now again conn server given next protocol is at =
    let same : given ≡ order.Ask conn server.config.ip protocol s.request = cc in
    rw (same, at) (refl, record { form = refl; on = refl; at = refl })

opened_over : (s : ServerSend) (number : ℕ) (server : Server) (given : Order) (next : Stage) (config protocol : _) → (made.Order given ≡ made.Order (order.Open server.config.ip config)) → next ≡ stage.Opening protocol number 0 → SentBy s server.config.ip given next
opened_over s number server given next config protocol is at =
    let same : given ≡ order.Open server.config.ip config = cc in
    rw (same, at) (record { form = refl; on = refl; at = refl })

sent_by : (s : ServerSend) (at : Stage) (number now : ℕ) (server : Server) (given : Order) (next : Stage) → StepIs s at number now server (made.Order given) next → SentBy s server.config.ip given next
sent_by s stage.Ready number now server given next (inl a) = asked_over s now true a.chosen.item.number (without_dead server) given next a.chosen.item.protocol a.over.0 a.over.1
sent_by s stage.Ready number now server given next (inr (none, inl o)) = opened_over s number (without_dead server) given next o.chosen.item _ o.over.0 o.over.1
sent_by s stage.Ready number now server given next (inr (none, inr c)) = let e = c.done in cc
sent_by s (stage.Opening protocol begun polls) number now server given next h = let e = h.0 in cc
sent_by s (stage.Opened protocol conn) number now server given next h = asked_over s now false conn server given next protocol h.0 h.1
sent_by s (stage.Asking asked polls) number now server given next h = let e = h.0 in cc
sent_by s (stage.Ended result) number now server given next h = let e = h.0 in cc
sent_by s stage.Over number now server given next h = let e = h.0 in cc

-- ---- and the lookup

module _ (denied : IpAddr → Bool) (heard : List HeardEnd) (number now : ℕ) (table : List Server) (l : LookupState) (given : Order) (new : LookupState) (h : HoldsBy denied heard l) (idle : opens number l ≡ 0) where
  -- an attempt of the round gave it
  sent_from : (a : Attempt) (next : Stage) (o : Orders number now table a given next) → GoesTo l.request a → Has (under_way l) a.candidate → l.state ≡ Asking → new.state ≡ Asking → new.servers ≡ l.servers → new.request ≡ l.request
      → find (is_open_at number) new.attempts ≡ Some (ordered number next a) → IsGivenFor table number given new
  sent_from a next o g has asks asking servers request found = by given (sent_by a.send a.send.stage number now o.server given next o.gives)
    where
      its_pool : Contains l.servers a.candidate
      its_pool = under_from_pool (question_of l) l.timeout l.servers (ends_of heard) (under_way l) l.queue a.candidate (asks_so denied heard l asks h).0 has

      address : (ip : IpAddr) → ip ≡ o.server.config.ip → address_of table a.candidate.server ≡ Some ip
      address ip is =
          ap (λ (n : ℕ). address_of table n) (sym g.server) ∙ ap (λ (x : Option Server). elim x as (λ y. Option IpAddr) [ None ↦ None | Some server ↦ Some server.config.ip ]) o.there
          ∙ ap (λ (i : IpAddr). Some i) (sym is)

      to : (asks : Bool) (ip : IpAddr) → IsSent o.server.config.ip asks ip next → IsSentTo table number asks ip new
      to asks ip s = record {
        candidate = a.candidate;
        from_pool = subst (λ (cs : List PoolServer). Contains cs a.candidate) (sym servers) its_pool;
        at = address ip s.at;
        open_to = record { asking = asking; attempt = ordered number next a; at = found; to = refl; form = s.form };
      }

      by : (x : Order) → SentBy a.send o.server.config.ip x next → IsGivenFor table number x new
      by (order.Open ip config) s = to false ip s
      by (order.Ask conn ip protocol asked) s = (s.0 ∙ g.asks ∙ sym request, to true ip s.1)
      by (order.Sleep until) s = absurd s

  open_now : (a : Attempt) (next : Stage) → is_open next ≡ true → is_open_at number (ordered number next a) ≡ true
  open_now a next on = ap (λ (b : Bool). b && is_open next) (eq-eqb number number refl) ∙ on

  still_open : (a : Attempt) (next : Stage) → Orders number now table a given next → is_open next ≡ true
  still_open a next o = by given (sent_by a.send a.send.stage number now o.server given next o.gives)
    where
      by : (x : Order) → SentBy a.send o.server.config.ip x next → is_open next ≡ true
      by (order.Open ip config) s = s.on
      by (order.Ask conn ip protocol asked) s = s.1.on
      by (order.Sleep until) s = absurd s

  none_open : l.state ≡ Asking → count_by (is_open_at number) l.attempts ≡ 0
  none_open asks = sym (ap (opens_in number l.attempts) asks) ∙ idle

  resumed_sent : (place : ℕ) → Resumes place number now table l given new → l.state ≡ Asking → IsGivenFor table number given new
  resumed_sent place r asks =
      let g = all_get (GoesTo l.request) l.attempts place r.attempt h.keeps.going r.at in
      let x = ordered number r.next r.attempt in
      let found : find (is_open_at number) (slice_set l.attempts place x) ≡ Some x =
      first_set (is_open_at number) l.attempts place r.attempt x (none_open asks) r.at (open_now r.attempt r.next (still_open r.attempt r.next r.orders)) in
      sent_from r.attempt r.next r.orders g (picked_has (λ (y : Attempt). y.candidate) l.attempts place r.attempt l.ready r.at) asks (ap (λ (y : LookupState). y.state) r.is ∙ asks) (ap (λ (y : LookupState). y.servers) r.is)
      (ap (λ (y : LookupState). y.request) r.is) (ap (λ (y : LookupState). find (is_open_at number) y.attempts) r.is ∙ found)

  begun_sent : (c : PoolServer) → Begins c number now table l given new → l.state ≡ Asking → Has (under_way l) c → IsGivenFor table number given new
  begun_sent c b asks has =
      let g = beginning_goes heard l c b.rest b.first h.keeps in
      let x = ordered number b.next (beginning l c) in
      let found : find (is_open_at number) (l.attempts ++ x ∷ []) ≡ Some x =
      first_more (is_open_at number) l.attempts x (none_open asks) (open_now (beginning l c) b.next (still_open (beginning l c) b.next b.orders)) in
      sent_from (beginning l c) b.next b.orders g has asks (ap (λ (y : LookupState). y.state) b.is ∙ asks) (ap (λ (y : LookupState). y.servers) b.is) (ap (λ (y : LookupState). y.request) b.is)
      (ap (λ (y : LookupState). find (is_open_at number) y.attempts) b.is ∙ found)

  slept_sent : (until : ℕ) → Sleeps until number l given new → IsGivenFor table number given new
  slept_sent until s = subst (λ (x : Order). IsGivenFor table number x new) (sym s.sleeps) (record { until = until; polls = s.polls; is = ap (λ (x : LookupState). x.state) s.is })

  first_under_way : (c : PoolServer) (rest : List PoolServer) → l.ready ≡ c ∷ rest → Has (under_way l) c
  first_under_way c rest first =
      subst (λ (cs : List PoolServer). Has (map (λ (a : Attempt). a.candidate) l.attempts ++ cs) c) (sym first) (Has-append_right (map (λ (a : Attempt). a.candidate) l.attempts) (c ∷ rest) c (inl refl))

  -- What a step gives goes to a server of the pool.
  pub order_sent : GivesFor (want_of l) number now table l given new → IsGivenFor table number given new
  order_sent g = at_want (want_of l) refl g
    where
      at_want : (w : Want) → want_of l ≡ w → GivesFor w number now table l given new → IsGivenFor table number given new
      at_want (want.Resume place) is g = resumed_sent place g (resume_asks l place is).0
      at_want (want.Begin c) is g = let asks = begin_asks l c is in begun_sent c g asks.0 (first_under_way c asks.1.0 asks.1.1)
      at_want (want.Sleep until) is g = slept_sent until g
      at_want want.Wait is g = absurd g
      at_want want.Tell is g = absurd g
