use Rattle.std.proofs.Common.{◌≡◌, Some, None}
use Rattle.zone_worlds.specs.Telling.{zone_asked, child_of, refusal, referral, Replies, Tells}
use Rattle.zone_worlds.specs.Telling.Tells.{refuses, refers, answers}
use Rattle.zone_worlds.proofs.AliasAnswers.{if_ok, if_ok_so}
use Rattle.zone_worlds.proofs.telling.told.Goals as goal

pub returns-in_default : goal.returns-in_default
returns-in_default c =
    let none : zone_asked c.args.world.now c.args.ip c.args.query.now ≡ None = let e = c.in_default.ensures in cc in
    if_ok c.refusal.result (refusal c.args.query.now) (Tells c.args.world.now c.args.ip c.args.query.now) c.refusal.ensures (refuses none)

pub returns-in-Some-child_of : goal.returns-in-Some-child_of
returns-in-Some-child_of c =
    let zone : zone_asked c.args.world.now c.args.ip c.args.query.now ≡ Some c.in-Some.zone.now = let e = c.in-Some.ensures in cc in
    let child : child_of c.args.world.now c.in-Some.zone.now c.args.query.now ≡ Some c.in-Some-child_of.child.now = let e = c.in-Some-child_of.ensures in cc in
    if_ok c.referral.result (referral c.in-Some-child_of.child.now c.args.query.now) (Tells c.args.world.now c.args.ip c.args.query.now) c.referral.ensures (refers zone child)

pub returns : goal.returns
returns c =
    let zone : zone_asked c.args.world.now c.args.ip c.args.query.now ≡ Some c.in-Some.zone.now = let e = c.in-Some.ensures in cc in
    let none : child_of c.args.world.now c.in-Some.zone.now c.args.query.now ≡ None = let e = c.in_default-child_of.ensures in cc in
    if_ok_so c.reply_of.result (Replies c.args.world.now c.in-Some.zone.now c.args.query.now) (Tells c.args.world.now c.args.ip c.args.query.now) (λ m r. answers zone none r) c.reply_of.ensures
