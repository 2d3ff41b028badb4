use Rattle.wire_names.proofs.KeptLaws.{kept_as, names_same, name_pushed, name_set}
use Rattle.wire_names.proofs.kept.KeptNames.keep.Goals as goal

pub returns-in_err-push-clause-kept : goal.returns-in_err-push-clause-kept
returns-in_err-push-clause-kept c = λ message all here.
    let before = kept_as message c.args.self.now _ c.self.view_is all in
    record { names = names_same message c.self.inside.names.items c.push.new.self.items c.in_err-push.ensures.items before.names; ends = before.ends }

pub returns-then-len-lt4-clause-kept : goal.returns-then-len-lt4-clause-kept
returns-then-len-lt4-clause-kept c = λ message all here.
    let before = kept_as message c.args.self.now _ c.self.view_is all in
    let pushed = name_pushed message c.self.inside.names.items c.args.place c.in_ok-name.name c.args.name.now c.in_ok-name.ensures before.names here in
    record { names = names_same message _ c.push.new.self.items c.in_ok-push.ensures.items pushed; ends = before.ends }

pub returns-clause-kept : goal.returns-clause-kept
returns-clause-kept c = λ message all here.
    let before = kept_as message c.args.self.now _ c.self.view_is all in
    record { names = name_set message c.self.inside.names.items c.self.inside.oldest c.args.place c.in_ok-name.name c.args.name.now c.in_ok-name.ensures before.names here; ends = before.ends }
