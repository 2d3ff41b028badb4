use Rattle.resolver_settings.proofs.FewWords.{few_enough}
use Rattle.resolver_settings.proofs.resolver_text.with_servers.Goals as goal

pub search_names-requires : goal.search_names-requires
search_names-requires c = few_enough c.args.text.now c.last_list.result _ c.requires c.last_list.ensures
