use Rattle.std.proofs.Common.{◌≡◌, ℕ, true, sym, subst}
use Rattle.resolution.specs.Names.{is_above, walk}
use Rattle.resolution_reference.specs.Plain.{apex, asks, counts_of}
use Rattle.resolution_reference.specs.PlainBase.{IsFreshFor}
use Rattle.resolution_reference.proofs.PlainBased.{none_based, based, is_base}
use Rattle.resolution_reference.proofs.setting.Setting.base_at.Goals as goal

pub returns-in_default : goal.returns-in_default
returns-in_default c = ((λ e. cc), (λ b. absurd (none_based c.args.self.now c.args.asked_at c.args.entry (asks c.args.labels.now c.args.record_type c.args.class) (apex c.args.zone.now) c.in_default.ensures.none b)))

pub returns-then-not-is_walked_below : goal.returns-then-not-is_walked_below
returns-then-not-is_walked_below c = (
  (λ e. cc),
  (λ b. let x = based c.args.self.now c.args.asked_at (asks c.args.labels.now c.args.record_type c.args.class) c.in-Some.told.message.now c.args.zone.now c.in-Some.ensures.tells b in
      let a = x.above in let w = c.is_walked_below.ensures in let n = c.if-not-is_walked_below.true in cc),
)

pub returns-then-not-counts : goal.returns-then-not-counts
returns-then-not-counts c = (
  (λ e. cc),
  (λ b. let x = based c.args.self.now c.args.asked_at (asks c.args.labels.now c.args.record_type c.args.class) c.in-Some.told.message.now c.args.zone.now c.in-Some.ensures.tells b in
      let a = x.counts in let w = c.counts.ensures in let n = c.if-not-counts.true in cc),
)

pub returns-then-not-is_fresh : goal.returns-then-not-is_fresh
returns-then-not-is_fresh c = (
  (λ e. cc),
  (λ b. let x = based c.args.self.now c.args.asked_at (asks c.args.labels.now c.args.record_type c.args.class) c.in-Some.told.message.now c.args.zone.now c.in-Some.ensures.tells b in
      let f = c.is_fresh.ensures.1 (subst (λ (life : ℕ). IsFreshFor c.args.asked_at c.in-Some.told.moment life) (sym c.life.ensures) x.fresh) in
      let n = c.if-not-is_fresh.true in cc),
)

pub returns : goal.returns
returns c =
    let q = asks c.args.labels.now c.args.record_type c.args.class in
    let m = c.in-Some.told.message.now in
    let walked : is_above (apex c.args.zone.now) (walk q) ≡ true = let a = c.is_walked_below.ensures in let n = c.if-not-is_walked_below.false in cc in
    let counted : counts_of c.args.self.now.policy.now.answer_filter c.args.zone.now m ≡ true = let a = c.counts.ensures in let n = c.if-not-counts.false in cc in
    let holds : c.is_fresh.result ≡ true = let n = c.if-not-is_fresh.false in cc in
    let fresh = subst (λ (life : ℕ). IsFreshFor c.args.asked_at c.in-Some.told.moment life) c.life.ensures (c.is_fresh.ensures.0 holds) in (
      (λ e. is_base c.args.self.now c.args.asked_at q m c.args.zone.now c.in-Some.ensures.tells c.in-Some.ensures.answers
          (record { above = walked; counts = counted; fresh = fresh; serves = c.serves_apex.ensures.0 e })),
      (λ b. let x = based c.args.self.now c.args.asked_at q m c.args.zone.now c.in-Some.ensures.tells b in c.serves_apex.ensures.1 x.serves),
    )
