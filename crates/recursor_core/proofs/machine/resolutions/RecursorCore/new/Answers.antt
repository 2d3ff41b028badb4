use Rattle.std.proofs.Common.{◌<◌, false, [], arith, ◌≡◌}
use Rattle.resolver_settings.specs.Ttl.{has_reversed}
use Rattle.recursor_core.proofs.MachineWords.{refl, sym, ap, subst, ◌∙◌, Cached, Policy}
use Rattle.recursor_core.proofs.machine.resolutions.RecursorCore.new.Goals as goal

pub cache_of-requires : goal.cache_of-requires
cache_of-requires c = subst (λ (held : Policy). has_reversed held.ttl_bounds ≡ false) (sym c.in_ok-policy.ensures) c.requires

pub returns : goal.returns
returns c =
    record {
      policy = c.in_ok-policy-2.ensures ∙ c.in_ok-policy.ensures;
      cache = c.in_ok-cache.ensures ∙ ap (λ (held : Policy). let kept : Cached = record { size = held.response_cache_size; config = held.ttl_bounds; entries = [] } in kept) c.in_ok-policy.ensures;
      moment = refl;
      greatest = refl;
      resolutions = c.new-4.ensures.items;
      pools = λ view same. c.in_ok-pools.ensures.holds view (same ∙ sym c.in_ok-policy.ensures) (subst (λ (held : Policy). 0 < held.timeout) (sym c.in_ok-policy.ensures) (omega arith));
    }
