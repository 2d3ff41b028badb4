use Rattle.std.proofs.Common.{rules}
use Rattle.std.proofs.lemmas.Fn.{filter_same}
use Rattle.server_core.specs.Servers.{is_live}
use Rattle.server_core.proofs.name_server.keep_live.Goals as goal

pub returns : goal.returns
returns c = filter_same _ is_live _ (λ x b g h. search rules) _ _ c.retain.ensures.filtered
