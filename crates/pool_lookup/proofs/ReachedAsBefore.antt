-- Whatever a step does to the table, each server is reached as before.
use Rattle.std.proofs.Common.{◌≡◌, ◌∙◌, ℕ, zero, suc, ◌-◌, Bool, true, false, cond, List, [], ◌∷◌, ◌++◌, fold, slice_get, Option, Some, None, Result, refl, ap, sym, subst}
use Rattle.std.specs.Prelude.{IsTrue}
use Rattle.std.specs.List.{list_any, position, AllByRecursion}
use Rattle.dns_core.specs.declared.message.Message.{Message}
use Rattle.dns_core.specs.declared.net_error.DnsError.{DnsError}
use Rattle.dns_core.specs.declared.net_error.IoKind.TheVariants.{Other}
use Rattle.dns_core.specs.declared.net_error.NetError.{NetError}
use Rattle.dns_core.specs.declared.net_error.NetError.TheVariants.{Io, Timeout}
use Rattle.dns_core.specs.Classifying.{classify_of}
use Rattle.resolver_settings.specs.NameServer.{NameServer}
use Rattle.resolution.specs.Lookups.{Answered}
use Rattle.server_core.specs.Hearing.{changed_place, changed_at}
use Rattle.server_core.specs.Policy.{allows_config}
use Rattle.server_core.specs.Sending.{after_step, after_want, asked_of, is_last_poll, lost_put, told_put, heard_put}
use Rattle.server_core.specs.Servers.{Server, place_of}
use Rattle.server_core.specs.declared.orders.order.Outcome.{Outcome}
use Rattle.server_core.specs.declared.orders.order.Outcome.TheVariants.{Pending, Connected, Told, Failed, Slept}
use Rattle.server_core.specs.declared.orders.order.Tick.{Tick}
use Rattle.server_core.specs.declared.sends.server_send.Asked.{Asked}
use Rattle.server_core.specs.declared.sends.server_send.Stage.{Stage}
use Rattle.server_core.specs.declared.sends.server_send.Stage.TheVariants as stage
use Rattle.pool_rules.specs.declared.pool_server.PoolServer.{PoolServer}
use Rattle.pool_lookup.specs.declared.attempt.Attempt.{Attempt}
use Rattle.pool_lookup.specs.declared.lookup.State.{State}
use Rattle.pool_lookup.specs.declared.lookup.State.TheVariants.{Asking, BackingOff, Decided}
use Rattle.pool_lookup.specs.Attempts.{is_open_at}
use Rattle.pool_lookup.specs.Cancelling.{ends_by_message, after_cancelled, cancelled, cancelled_table, ended_table, ended_at, heard_table, table_after, table_put, table_heard}
use Rattle.pool_lookup.specs.Giving.{changed_for, stepping_for, want_of, stepped_table, halted_table}
use Rattle.pool_lookup.specs.Hearing.{closed, closing_entry, end_by}
use Rattle.pool_lookup.specs.Holds.{IsReached, AreReached}
use Rattle.pool_lookup.specs.Lookup.{LookupState}
use Rattle.pool_lookup.specs.Tables.{configs}

-- ---- a server is changed, but for how it is reached

place_configs : (f : Server → Server) → ((s : Server) → (f s).config ≡ s.config) → (n : ℕ) (table : List Server) → configs (changed_place f n table) ≡ configs table
place_configs f same n [] = refl
place_configs f same zero (s ∷ table) = ap (λ (c : NameServer). c ∷ configs table) (same s)
place_configs f same (suc n) (s ∷ table) = ap (λ (cs : List NameServer). s.config ∷ cs) (place_configs f same n table)

pub changed_configs : (f : Server → Server) → ((s : Server) → (f s).config ≡ s.config) → (number : ℕ) (table : List Server) → configs (changed_at f number table) ≡ configs table
changed_configs f same number table = place_configs f same (place_of number) table

-- each of some, one after the other
each_configs : (f : Server → Server) → ((s : Server) → (f s).config ≡ s.config) → (ns : List ℕ) (table : List Server) → configs (fold (λ t n. changed_at f n t) table ns) ≡ configs table
each_configs f same [] table = refl
each_configs f same (n ∷ ns) table = each_configs f same ns (changed_at f n table) ∙ changed_configs f same n table

-- ---- by a step of a send, and by an outcome

step_config : (at : Stage) (s : Server) → (after_step at s).config ≡ s.config
step_config stage.Ready s = refl
step_config (stage.Opening protocol order polls) s = refl
step_config (stage.Opened protocol conn) s = refl
step_config (stage.Asking asked polls) s = refl
step_config (stage.Ended result) s = refl
step_config stage.Over s = refl

want_config : (at : Stage) (s : Server) → (after_want at s).config ≡ s.config
want_config stage.Ready s = refl
want_config (stage.Opening protocol order polls) s = refl
want_config (stage.Opened protocol conn) s = refl
want_config (stage.Asking asked polls) s = refl
want_config (stage.Ended result) s = refl
want_config stage.Over s = refl

lost_config : (asked : Option Asked) (now : ℕ) (e : NetError) (s : Server) → (lost_put asked now e s).config ≡ s.config
lost_config None now e s = refl
lost_config (Some asked) now e s = refl

told_config : (asked : Option Asked) (now : ℕ) (class : Result Message DnsError) (s : Server) → (told_put asked now class s).config ≡ s.config
told_config None now class s = refl
told_config (Some asked) now class s = refl

heard_config : (patience : ℕ) (at : Stage) (now : ℕ) (o : Outcome) (s : Server) → (heard_put patience at now o s).config ≡ s.config
heard_config patience at now (Pending entry of) s = by_poll (is_last_poll patience at)
  where
    by_poll : (b : Bool) → (cond b (lost_put (asked_of at) now Timeout s) s).config ≡ s.config
    by_poll true = lost_config (asked_of at) now Timeout s
    by_poll false = refl
heard_config patience at now (Connected entry sent) s = lost_config (asked_of at) now (Io Other) s
heard_config patience at now (Told entry sent message) s = told_config (asked_of at) now (classify_of message) s
heard_config patience at now (Failed entry sent refused error) s = lost_config (asked_of at) now error s
heard_config patience at now Slept s = lost_config (asked_of at) now (Io Other) s

-- ---- by a step of a lookup

for_configs : (f : Stage → Server → Server) → ((at : Stage) (s : Server) → (f at s).config ≡ s.config) → (o : Option Attempt) (table : List Server) → configs (changed_for f o table) ≡ configs table
for_configs f same None table = refl
for_configs f same (Some a) table = changed_configs (f a.send.stage) (same a.send.stage) a.send.server table

pub stepped_configs : (l : LookupState) (table : List Server) → configs (stepped_table l table) ≡ configs table
stepped_configs l table = for_configs after_step step_config (stepping_for (want_of l) l) table

pub halted_configs : (l : LookupState) (table : List Server) → configs (halted_table l table) ≡ configs table
halted_configs l table = for_configs after_want want_config (stepping_for (want_of l) l) table

ended_configs : (end : Answered) (now : ℕ) (udp_off : Bool) (l : LookupState) (table : List Server) → configs (ended_table end now udp_off l table) ≡ configs table
ended_configs end now udp_off l table = by_message (ends_by_message udp_off end)
  where
    by_message : (b : Bool) → configs (cond b (cancelled_table now l table) table) ≡ configs table
    by_message true = each_configs (after_cancelled (now - l.round_start) now) (λ s. refl) (cancelled table l) table
    by_message false = refl

end_configs : (place entry : ℕ) (a : Attempt) (now : ℕ) (l : LookupState) (e : Option Answered) (table : List Server) → configs (ended_at place entry a now l e table) ≡ configs table
end_configs place entry a now l None table = refl
end_configs place entry a now l (Some end) table = ended_configs end now l.queue.udp_off (closed place a.candidate.server entry l) table

after_configs : (tick : Tick) (place : ℕ) (o : Outcome) (l : LookupState) (table : List Server) → configs (table_after tick place o l table) ≡ configs table
after_configs tick place o l table = at_place (slice_get l.attempts place)
  where
    at_place : (x : Option Attempt)
        → configs (elim x as (λ _. List Server) [ None ↦ table | Some a ↦ ended_at place (closing_entry o) a tick.now l (end_by tick.patience o a) (heard_table tick o a table) ]) ≡ configs table
    at_place None = refl
    at_place (Some a) =
        end_configs place (closing_entry o) a tick.now l (end_by tick.patience o a) (heard_table tick o a table)
        ∙ changed_configs (heard_put tick.patience a.send.stage tick.now o) (heard_config tick.patience a.send.stage tick.now o) a.send.server table

pub heard_configs : (tick : Tick) (number : ℕ) (o : Outcome) (l : LookupState) (table : List Server) → configs (table_heard tick number o l table) ≡ configs table
heard_configs tick number o l table = at_state l.state
  where
    at_number : (x : Option ℕ) → configs (table_put tick x o l table) ≡ configs table
    at_number None = refl
    at_number (Some place) = after_configs tick place o l table

    at_state : (s : State) → configs (elim s as (λ _. List Server) [
      | Asking ↦ table_put tick (position (is_open_at number) l.attempts) o l table
      | BackingOff until order polls ↦ table
      | Decided answer at ↦ table
    ]) ≡ configs table
    at_state Asking = at_number (position (is_open_at number) l.attempts)
    at_state (BackingOff until order polls) = refl
    at_state (Decided answer at) = refl

-- ---- so the servers stay reached

at_config : (old new : List Server) (n : ℕ) (s : Server) → configs new ≡ configs old → slice_get old n ≡ Some s → (t : Server) × (slice_get new n ≡ Some t) × (t.config ≡ s.config)
at_config [] new n s same there = cc
at_config (x ∷ old) [] n s same there = cc
at_config (x ∷ old) (y ∷ new) zero s same there = let is : x ≡ s = cc in let first : y.config ≡ x.config = cc in (y, refl, first ∙ ap (λ (z : Server). z.config) is)
at_config (x ∷ old) (y ∷ new) (suc n) s same there = let rest : configs new ≡ configs old = cc in at_config old new n s rest there

get_more : {X : Type 0} (xs more : List X) (n : ℕ) (x : X) → slice_get xs n ≡ Some x → slice_get (xs ++ more) n ≡ Some x
get_more [] more n x there = cc
get_more (y ∷ xs) more zero x there = there
get_more (y ∷ xs) more (suc n) x there = get_more xs more n x there

all_so : {X : Type 0} (P Q : X → Type 0) → ((x : X) → P x → Q x) → (xs : List X) → AllByRecursion P xs → AllByRecursion Q xs
all_so P Q f [] all = tt
all_so P Q f (x ∷ xs) all = (f x all.0, all_so P Q f xs all.1)

same_reached : (old new : List Server) → configs new ≡ configs old → (c : PoolServer) → IsReached old c → IsReached new c
same_reached old new same c r =
    let at = at_config old new (place_of c.server) r.server same r.there in
    record {
      server = at.0;
      there = at.1;
      over = λ udp_off may. subst (λ (k : NameServer). IsTrue (list_any (allows_config (record { disable_udp = udp_off })) k.connections)) (sym at.2) (r.over udp_off may);
    }

-- in a table with the same ways to each, for a lookup at the same servers
pub are_reached : (old new : List Server) (l m : LookupState) → configs new ≡ configs old → m.servers ≡ l.servers → AreReached old l → AreReached new m
are_reached old new l m same at all =
    subst (λ (cs : List PoolServer). AllByRecursion (IsReached new) cs) (sym at) (all_so (IsReached old) (IsReached new) (same_reached old new same) l.servers all)

-- and in one with more servers
pub more_reached : (table more : List Server) (l : LookupState) → AreReached table l → AreReached (table ++ more) l
more_reached table more l all =
    all_so (IsReached table) (IsReached (table ++ more)) (λ c r. record { server = r.server; there = get_more table more (place_of c.server) r.server r.there; over = r.over }) l.servers all
