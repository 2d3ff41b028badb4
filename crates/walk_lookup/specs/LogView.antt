-- By what a fact holds: the policy of the recursor, and how far it has come.
use Rattle.std.specs.Prelude.{◌≡◌, ◌≤◌, ℕ}
use Rattle.dns_core.specs.Log.{Log, Extends}
use Rattle.recursor_types.specs.Policy.{with_patience}
use Rattle.recursor_types.specs.declared.policy.Policy.{Policy}

-- the policy of the machine, the greatest entry that was put to it, the greatest moment that was handed in, and a log of what was told
pub record LogView : Type 0 where
  pub policy : Policy
  pub greatest : ℕ
  pub moment : ℕ
  pub log : Log

-- by what a machine that is set so sees of the log, no later than this entry and this moment
abbrev pub seen_at : Policy → ℕ → ℕ → Log → LogView
seen_at policy greatest moment log = record { policy = policy; greatest = greatest; moment = moment; log = log }

-- A machine has come further: the log has grown, the entry and the moment are no earlier, and nothing of its policy has changed but that patience may
-- be less.
pub record Advances (old new : LogView) : Type 0 where
  pub policy : new.policy ≡ with_patience new.policy.patience old.policy
  pub patience : new.policy.patience ≤ old.policy.patience
  pub greatest : old.greatest ≤ new.greatest
  pub moment : old.moment ≤ new.moment
  pub extends : Extends old.log new.log
