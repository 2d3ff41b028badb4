use Rattle.std.proofs.Common.{◌≡◌, List, true, false, length, subst}
use Rattle.std.specs.Prelude.{◌==◌, IfOk}
use Rattle.dns_core.specs.declared.record.Record.{Record}
use Rattle.zone_rules.specs.Tree.{exists_in}
use Rattle.zone_rules.specs.Choosing.{owned}
use Rattle.zone_worlds.specs.Telling.{negative, positive, IsByAlias, Replies}
use Rattle.zone_worlds.specs.Telling.Replies.{denies, by_alias, gives, lacks}
use Rattle.zone_worlds.proofs.AliasAnswers.{if_ok, if_ok_so}
use Rattle.zone_worlds.proofs.telling.reply_of.Goals as goal

pub returns-then-not-exists : goal.returns-then-not-exists
returns-then-not-exists c =
    let no : exists_in c.args.world.now c.args.query.now.name ≡ false = let a = c.requires in let n = c.if-not-exists.true in cc in
    if_ok c.negative.result (negative c.args.zone.now c.args.query.now 3) (Replies c.args.world.now c.args.zone.now c.args.query.now) c.negative.ensures (denies no)

pub returns-in-Some : goal.returns-in-Some
returns-in-Some c =
    let yes : exists_in c.args.world.now c.args.query.now.name ≡ true = let a = c.requires in let n = c.if-not-exists.false in cc in
    if_ok_so c.by_alias.result (IsByAlias c.args.zone.now c.args.query.now c.args.world.now.chain) (Replies c.args.world.now c.args.zone.now c.args.query.now) (λ m b. by_alias yes c.in-Some.ensures.some b) c.by_alias.ensures

pub returns-then-is_empty : goal.returns-then-is_empty
returns-then-is_empty c =
    let yes : exists_in c.args.world.now c.args.query.now.name ≡ true = let a = c.requires in let n = c.if-not-exists.false in cc in
    let empty : (length (owned c.args.zone.now c.args.query.now.name c.args.query.now.query_type) == 0) ≡ true = let a = c.in_ok-found.ensures in let b = c.new-answers.ensures in let e = c.is_empty.ensures in let t = c.if-is_empty.true in cc in
    if_ok c.negative-then-is_empty.result (negative c.args.zone.now c.args.query.now 0) (Replies c.args.world.now c.args.zone.now c.args.query.now) c.negative-then-is_empty.ensures (lacks yes c.in_default.ensures.none empty)

pub returns : goal.returns
returns c =
    let yes : exists_in c.args.world.now c.args.query.now.name ≡ true = let a = c.requires in let n = c.if-not-exists.false in cc in
    let same : c.new-answers.result ≡ owned c.args.zone.now c.args.query.now.name c.args.query.now.query_type = let a = c.in_ok-found.ensures in let b = c.new-answers.ensures in cc in
    let some : (length (owned c.args.zone.now c.args.query.now.name c.args.query.now.query_type) == 0) ≡ false = let e = c.is_empty.ensures in let t = c.if-is_empty.false in cc in
    if_ok c.positive.result (positive c.args.zone.now c.args.query.now (owned c.args.zone.now c.args.query.now.name c.args.query.now.query_type)) (Replies c.args.world.now c.args.zone.now c.args.query.now)
    (subst (λ (rs : List Record). IfOk c.positive.result (λ m. m ≡ positive c.args.zone.now c.args.query.now rs)) same c.positive.ensures) (gives yes c.in_default.ensures.none some)
