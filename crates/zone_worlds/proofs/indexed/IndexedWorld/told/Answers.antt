use Rattle.std.proofs.Common.{◌≡◌, Some, None, sym, ap, ◌∙◌, subst}
use Rattle.std.specs.Prelude.{IfOk}
use Rattle.std.specs.Option.{option_copied}
use Rattle.zone_worlds.specs.Telling.{zone_asked, child_of, refusal, referral, Replies, Tells}
use Rattle.zone_worlds.specs.Telling.Tells.{refuses, refers, answers}
use Rattle.zone_rules.specs.declared.world.World.{World}
use Rattle.zone_worlds.proofs.AliasAnswers.{if_ok, if_ok_so}
use Rattle.zone_worlds.proofs.indexed.IndexedWorld.told.Goals as goal

pub returns-in_default : goal.returns-in_default
returns-in_default c =
    let w = c.self.inside.world in
    let q = c.args.query.now in
    let none : zone_asked w c.args.ip q ≡ None = let e = c.in_default.ensures in cc in
    subst (λ (v : World). IfOk c.refusal.result (Tells v c.args.ip q)) c.self.view_is (if_ok c.refusal.result (refusal q) (Tells w c.args.ip q) c.refusal.ensures (refuses none))

pub returns-in-Some-2 : goal.returns-in-Some-2
returns-in-Some-2 c =
    let w = c.self.inside.world in
    let q = c.args.query.now in
    let zone : zone_asked w c.args.ip q ≡ Some c.in-Some.zone.now = let e = c.in-Some.ensures in cc in
    let child : child_of w c.in-Some.zone.now q ≡ Some c.in-Some-2.child.now = sym c.in_ok-child.ensures ∙ ap option_copied c.in-Some-2.is in
    subst (λ (v : World). IfOk c.referral.result (Tells v c.args.ip q)) c.self.view_is
    (if_ok c.referral.result (referral c.in-Some-2.child.now q) (Tells w c.args.ip q) c.referral.ensures (refers zone child))

pub returns : goal.returns
returns c =
    let w = c.self.inside.world in
    let q = c.args.query.now in
    let zone : zone_asked w c.args.ip q ≡ Some c.in-Some.zone.now = let e = c.in-Some.ensures in cc in
    let none : child_of w c.in-Some.zone.now q ≡ None = sym c.in_ok-child.ensures ∙ ap option_copied c.in_default-2.is in
    subst (λ (v : World). IfOk c.reply_of.result (Tells v c.args.ip q)) c.self.view_is
    (if_ok_so c.reply_of.result (Replies w c.in-Some.zone.now q) (Tells w c.args.ip q) (λ m r. answers zone none r) c.reply_of.ensures)
