use Rattle.walk_tables.proofs.Names.{List, [], subst, sym, AllZip, take_all, IpAddr, IsServerOf, more-met}
use Rattle.walk_tables.proofs.ServersAddedBehind.{grown-refl, grown-trans, all-met-grown}
use Rattle.walk_tables.proofs.pools.Pools.servers_for.Goals as goal

pub loop-ip-init : goal.loop-ip-init
loop-ip-init c = record {
  grown = grown-refl c.args.self.now;
  servers = λ policy h. h;
  met = λ policy h. subst (AllZip (IsServerOf c.args.self.now.shared.table) []) (sym c.in_ok-servers.ensures.items) tt;
}

pub loop-ip-preserved : goal.loop-ip-preserved
loop-ip-preserved c =
    let inv = c.loop-ip.invariant in
    let g = c.server_for.ensures.grown in
    record {
      grown = grown-trans c.args.self.now c.loop-ip.self c.server_for.new.self inv.grown g;
      servers = λ policy h. c.server_for.ensures.servers policy (inv.servers policy h);
      met = λ policy h.
          more-met c.server_for.new.self.shared.table c.args.ips.now c.loop-ip.ip-index _ c.loop-ip.servers.items _ c.in_ok-number.number c.loop-ip-test.true c.in_ok-push.ensures.items
          (all-met-grown c.loop-ip.self c.server_for.new.self g _ _ (inv.met policy h)) (c.in_ok-number.ensures.met policy (inv.servers policy h));
    }

pub returns-in_err-number-clause-grown : goal.returns-in_err-number-clause-grown
returns-in_err-number-clause-grown c = grown-trans c.args.self.now c.loop-ip.self c.server_for.new.self c.loop-ip.invariant.grown c.server_for.ensures.grown

pub returns-in_err-number-clause-servers : goal.returns-in_err-number-clause-servers
returns-in_err-number-clause-servers c policy h = c.server_for.ensures.servers policy (c.loop-ip.invariant.servers policy h)

pub returns-clause-met : goal.returns-clause-met
returns-clause-met c policy h =
    subst (λ (xs : List IpAddr). AllZip (IsServerOf c.loop-ip.self.shared.table) xs c.loop-ip.servers.items) (take_all c.loop-ip.ip-index c.args.ips.now c.loop-ip-test.false) (c.loop-ip.invariant.met policy h)

pub returns-in_err-push-clause-servers : goal.returns-in_err-push-clause-servers
returns-in_err-push-clause-servers c policy h = c.server_for.ensures.servers policy (c.loop-ip.invariant.servers policy h)
