use Rattle.std.proofs.Common.{◌≡◌, true, false, cond, length, ap, ◌∙◌}
use Rattle.std.specs.Prelude.{◌==◌, ◌||◌}
use Rattle.std.specs.HashSet.{contains}
use Rattle.dns_core.specs.Name.{same_names}
use Rattle.resolution.specs.Names.{is_above}
use Rattle.zone_worlds.proofs.IndexOfOneMore.{put_base, on_ok}
use Rattle.zone_worlds.proofs.index.+add_above.Goals as goal

pub returns : goal.returns
returns t c =
    let name = c.args.name.now in
    let more : (length name.labels == 0) ≡ false = let a = c.is_empty.ensures in let b = c.labels.ensures.labels in let e = c.if-is_empty.false in cc in
    on_ok c.add_above.result c.add_above.ensures (λ rec n hn.
    put_base n name (contains same_names c.args.names.now n) (contains same_names c.insert.new.self n) (contains same_names c.add_above.new.names n) hn c.requires more
    (c.in_ok-insert.ensures.updates.0 n ∙ ap (λ x. cond (same_names x n) true (contains same_names c.args.names.now n)) c.in_ok-try_clone.ensures)
    (rec n hn ∙ ap (λ x. contains same_names c.insert.new.self n || is_above n x) c.in_ok-above.ensures))
