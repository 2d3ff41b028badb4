-- What a world answers, as a message tells it.
use Rattle.std.specs.Prelude.{◌≡◌, [], Some}
use Rattle.dns_core.specs.declared.message.Query.{Query}
use Rattle.dns_core.specs.declared.message.Message.{Message}
use Rattle.zone_rules.specs.declared.world.World.{World}
use Rattle.zone_rules.specs.declared.world.WorldAnswer.TheVariants.{Records, NxDomain, NoData}
use Rattle.zone_worlds.specs.Answer.{Answers}

-- The message says what the world answers: its records, or that there are none, or that the name is not there.
pub data TellsAnswer (w : World) (query : Query) (m : Message) : Type 0 where
  data_there : Answers w query (Some (Records m.answers)) → TellsAnswer w query m
  no_data : Answers w query (Some NoData) → m.response_code.code ≡ 0 → m.answers ≡ [] → TellsAnswer w query m
  no_name : Answers w query (Some NxDomain) → m.response_code.code ≡ 3 → m.answers ≡ [] → TellsAnswer w query m
