-- From what a part of a call did, what the call did.
use Rattle.std.proofs.Common.{◌≡◌, ◌≤◌, ◌+◌, ◌++◌, ⊎_elim, ℕ, true, false, List, [], ◌∷◌, length, length-append, Option, Some, None, refl, sym, ◌∙◌, ap, subst, arith}
use Rattle.std.specs.Prelude.{Result, Ok, Err, IsErr}
use Rattle.std.specs.Result.{result_ok}
use Rattle.std.proofs.lemmas.Option.{same_Some}
use Rattle.dns_core.specs.Log.{added}
use Rattle.dns_core.specs.NetError.{is_memory}
use Rattle.dns_core.specs.declared.log.LogEntry.{LogEntry}
use Rattle.dns_core.specs.declared.net_error.NetError.{NetError}
use Rattle.server_core.specs.declared.orders.order.Order.{Order}
use Rattle.server_core.specs.declared.orders.order.Order.TheVariants.{Open, Ask, Sleep}
use Rattle.server_core.specs.declared.orders.order.Outcome.{Outcome}
use Rattle.server_core.specs.declared.orders.order.Outcome.TheVariants as outcome
use Rattle.server_core.specs.declared.orders.order.SentBy.{SentBy}
use Rattle.order_carrier.specs.Awaited.{IsSentFor, sent_for, target_of, counted_after}
use Rattle.order_carrier.specs.Calling.{IsQuiet}
use Rattle.order_carrier.specs.Did.{Stand, State, CallsNobody, Carried, IsHeard, IsReady, HasConnection, HasNumbers, MayHear, MayStart, start_entry, poll_entry, told_by, order_in, sent_in, heard_stand}
use Rattle.order_carrier.specs.Did.Did.{Barred, LacksMemory, Refused, Started, Polled}
use Rattle.order_carrier.specs.Did.Stand.{Unseen, UnderWay, Made, Over}
use Rattle.order_carrier.specs.GivingUp.{GivenUp, give_up_entry}
use Rattle.order_carrier.specs.Growing.{with_entries}
use Rattle.order_carrier.specs.declared.key.OrderKey.{OrderKey}
use Rattle.order_carrier.specs.declared.polling.Heard.{Heard}
use Rattle.order_carrier.specs.declared.polling.Heard.TheVariants as hear

-- an error hands out nothing
pub none-of_err : {T E : Type 0} (r : Result T E) → IsErr r → result_ok r ≡ None
none-of_err (Ok x) is = cc
none-of_err (Err e) is = refl

-- entries, and then others, are both
pub with-append : (xs ys : List LogEntry) (told : Option (List LogEntry)) → with_entries ys (with_entries xs told) ≡ with_entries (xs ++ ys) told
with-append [] ys told = refl
with-append (e ∷ xs) ys told = with-append xs ys (added e told)

-- an order that was not started is ready where it has its connection
pub ready-unseen : (stands : OrderKey → Stand) (order : Order) (stand : Stand) → stand ≡ Unseen → HasConnection stands order → IsReady stands order stand
ready-unseen stands order stand unseen connected = subst (IsReady stands order) (sym unseen) connected

-- and one that is under way is
pub ready-going : (stands : OrderKey → Stand) (order : Order) (stand : Stand) → order_in stand ≡ Some order → IsReady stands order stand
ready-going stands order Unseen is = cc
ready-going stands order (UnderWay started sent) is = same_Some _ _ is
ready-going stands order (Made peer) is = cc
ready-going stands order Over is = cc

-- one that was started, and is not under way, is not ready
pub not-ready : (stands : OrderKey → Stand) (order : Order) (stand : Stand) → (stand ≡ Unseen → ⊥) → (order_in stand ≡ Some order → ⊥) → IsReady stands order stand → ⊥
not-ready stands order Unseen seen other ready = seen refl
not-ready stands order (UnderWay started sent) seen other ready = other (ap (λ (o : Order). Some o) ready)
not-ready stands order (Made peer) seen other ready = ready
not-ready stands order Over seen other ready = ready

-- for a sleep nothing was sent
asleep-unsent : (order : Order) (sent : Option SentBy) (until : ℕ) → IsSentFor order sent → order ≡ Sleep until → sent ≡ None
asleep-unsent order None until sends is = refl
asleep-unsent order (Some s) until sends is = let none = sends ∙ ap target_of is in cc

-- where nobody is called for an order that is under way nothing was sent for it
sent-nobody : {P : Type 0} (key : OrderKey) (order : Order) (old : State P) (sent : Option SentBy) → old.stands key ≡ UnderWay order sent → IsSentFor order sent
    → CallsNobody old key order → sent ≡ None
sent-nobody key order old sent stood sends nobody = ⊎_elim
    (λ unready. absurd (unready (ready-going old.stands order (old.stands key) (ap order_in stood))))
    (λ asleep. asleep-unsent order sent asleep.0 sends asleep.1)
    nobody

-- nobody is called for one that is ready only where it is a sleep
pub quiet-ready : {P : Type 0} (key : OrderKey) (order : Order) (old : State P) (a b : P) → IsReady old.stands order (old.stands key) → IsQuiet order a b
    → CallsNobody old key order → b ≡ a
quiet-ready key order old a b ready quiet nobody = ⊎_elim (λ unready. absurd (unready ready)) (λ asleep. quiet asleep.0 asleep.1) nobody

-- of a sleep no entry tells
pub told-asleep : (now : ℕ) (order : Order) (heard : Heard) (n m : ℕ) → MayHear now order None heard → told_by n heard ≡ told_by m heard
told-asleep now order (hear.Waiting of) n m may = cc
told-asleep now order hear.OutOfMemory n m may = refl
told-asleep now order (hear.Connected sent) n m may = let none = may.0 in cc
told-asleep now order (hear.Answered sent message) n m may = let none = may.0 in cc
told-asleep now order (hear.Failed sent error) n m may = let none = may.0 in cc
told-asleep now order hear.Resting n m may = refl
told-asleep now order hear.Slept n m may = refl

-- what a poll tells comes by the entry after that of the start, where there is one
told-started : (now n m : ℕ) (order : Order) (heard : Heard) → MayHear now order (sent_for (n + 1) now order) heard
    → m ≡ n + length (start_entry now None order) → told_by (m + 1) heard ≡ told_by (n + 1 + 1) heard
told-started now n m (Open ip config) heard may count = ap (λ (k : ℕ). told_by (k + 1) heard) count
told-started now n m (Ask conn ip protocol request) heard may count = ap (λ (k : ℕ). told_by (k + 1) heard) count
told-started now n m (Sleep until) heard may count = told-asleep now (Sleep until) heard (m + 1) (n + 1 + 1) may

-- what a start sends is counted, as far as numbers are left
pub counted-start : (n of now : ℕ) (order : Order) → HasNumbers n → counted_after n (sent_for of now order) ≡ n + length (start_entry now None order)
counted-start n of now (Open ip config) numbers = omega (arith, numbers)
counted-start n of now (Ask conn ip protocol request) numbers = omega (arith, numbers)
counted-start n of now (Sleep until) numbers = omega arith

-- at most one more is counted
pub counted-few : (n : ℕ) (sent : Option SentBy) → counted_after n sent ≤ n + 1
counted-few n None = omega arith
counted-few n (Some s) = omega arith

-- what is sent is sent by one entry
pub start-one : (of now : ℕ) (order : Order) (s : SentBy) (refusal : Option NetError) → sent_for of now order ≡ Some s → length (start_entry now refusal order) ≡ 1
start-one of now (Open ip config) s refusal is = refl
start-one of now (Ask conn ip protocol request) s refusal is = refl
start-one of now (Sleep until) s refusal is = cc

module _ {P : Type 0} (key : OrderKey) (order : Order) (now : ℕ) (old new : State P) (result : Option (Option Outcome)) where
  -- memory ran out before anything else
  pub wanted : new.options ≡ old.options → (CallsNobody old key order → new.provider ≡ old.provider) → IsReady old.stands order (old.stands key) → new.log ≡ old.log → new.entries ≡ old.entries → result ≡ None → new.stands key ≡ old.stands key
      → Carried key order now old new result
  wanted options quiet ready log entries none stand = record {
    did = LacksMemory;
    may = ready;
    options = options;
    quiet = quiet;
    log = log;
    entries = omega (arith, entries);
    handed_out = none;
    stand = stand;
  }

  -- the order was barred
  pub barred : new.options ≡ old.options → new.provider ≡ old.provider → (IsReady old.stands order (old.stands key) → ⊥) → new.log ≡ old.log → new.entries ≡ old.entries → result ≡ Some None
      → new.stands key ≡ old.stands key → Carried key order now old new result
  barred options provider not_ready log entries none stand = record {
    did = Barred;
    may = not_ready;
    options = options;
    quiet = λ nobody. provider;
    log = log;
    entries = omega (arith, entries);
    handed_out = none;
    stand = stand;
  }

  -- it was refused
  pub refused : (sent : SentBy) (error : NetError) → new.options ≡ old.options → (CallsNobody old key order → new.provider ≡ old.provider) → MayStart old key order → sent_for (old.entries + 1) now order ≡ Some sent → is_memory error ≡ false
      → new.log ≡ with_entries (start_entry now (Some error) order) old.log → new.entries ≡ old.entries + length (start_entry now (Some error) order)
      → result ≡ Some (Some (outcome.Failed (old.entries + 1) sent true error)) → new.stands key ≡ Over → Carried key order now old new result
  refused sent error options quiet may sends no_memory log entries failed over = record {
    did = Refused sent error;
    may = (may, sends, no_memory);
    options = options;
    quiet = quiet;
    log = log;
    entries = entries;
    handed_out = failed;
    stand = over;
  }

  -- it was started, and then polled
  pub started : (mid : State P) → mid.options ≡ old.options → (CallsNobody old key order → new.provider ≡ old.provider) → MayStart old key order → mid.log ≡ with_entries (start_entry now None order) old.log
      → mid.entries ≡ old.entries + length (start_entry now None order) → IsHeard key order (sent_for (old.entries + 1) now order) now mid new result
      → Carried key order now old new result
  started mid options quiet may log entries h =
      let start = start_entry now None order in
      let poll = poll_entry now h.heard in
      record {
        did = Started h.heard;
        may = (may, h.hears);
        options = h.options ∙ options;
        quiet = quiet;
        log = h.log ∙ ap (with_entries poll) log ∙ with-append start poll old.log;
        entries = omega (arith, h.entries, entries, length-append start poll);
        handed_out = h.handed_out ∙ told-started now old.entries mid.entries order h.heard h.hears entries;
        stand = h.stand;
      }

  -- it was under way, and was polled
  pub again : (mid : State P) (sent : Option SentBy) → mid.options ≡ old.options → mid.provider ≡ old.provider → HasNumbers old.entries → mid.log ≡ old.log → mid.entries ≡ old.entries → old.stands key ≡ UnderWay order sent
      → IsSentFor order sent → IsHeard key order sent now mid new result → Carried key order now old new result
  again mid sent options provider numbers log entries stood sends h = record {
    did = Polled h.heard;
    may = record { numbers = numbers; sent = sent; stood = stood; sends = sends; hears = h.hears };
    options = h.options ∙ options;
    quiet = λ nobody. h.quiet (sent-nobody key order old sent stood sends nobody) ∙ provider;
    log = h.log ∙ ap (with_entries (poll_entry now h.heard)) log;
    entries = h.entries ∙ ap (λ (n : ℕ). n + length (poll_entry now h.heard)) entries;
    handed_out = h.handed_out ∙ ap (λ (n : ℕ). told_by (n + 1) h.heard) entries;
    stand = h.stand ∙ ap (λ (s : Option SentBy). heard_stand order s h.heard) (sym (ap sent_in stood));
  }

-- what was under way was given up
pub given-up : {P : Type 0} (key : OrderKey) (now : ℕ) (old new : State P) (order : Order) (sent : Option SentBy) → new.options ≡ old.options → (sent ≡ None → new.provider ≡ old.provider) → old.stands key ≡ UnderWay order sent
    → new.log ≡ with_entries (give_up_entry now sent) old.log → new.entries ≡ counted_after old.entries sent → new.stands key ≡ Over
    → GivenUp key now old new
given-up key now old new order sent options quiet stood log entries over =
    let same : sent ≡ sent_in (old.stands key) = sym (ap sent_in stood) in
    record {
      options = options;
      quiet = λ none. quiet (same ∙ none);
      log = log ∙ ap (λ (s : Option SentBy). with_entries (give_up_entry now s) old.log) same;
      entries = entries ∙ ap (counted_after old.entries) same;
      stand = over;
    }
