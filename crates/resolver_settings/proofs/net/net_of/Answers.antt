use Rattle.std.proofs.Common.{◌≤◌, ◌<◌, ◌+◌, ◌^◌, arith}
use Rattle.resolver_settings.specs.Net.{width_of}
use Rattle.resolver_settings.proofs.FirstBitsSpan.{fits_below}
use Rattle.resolver_settings.proofs.net.net_of.Goals as goal

pub overflow_add-highest : goal.overflow_add-highest
overflow_add-highest c =
    let few : c.from-behind.result ≤ width_of c.args.addr = omega (arith, c.from-behind.ensures, c.width.ensures) in
    let below : c.without_last-lowest.result + c.last_ones.result < 2 ^ 128 =
    rw (c.without_last-lowest.ensures, c.last_ones.ensures) (fits_below c.args.addr c.number.result c.from-behind.result few c.number.ensures.within) in
    omega (arith, below)
