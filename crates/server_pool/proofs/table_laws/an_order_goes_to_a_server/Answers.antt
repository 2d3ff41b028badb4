use Rattle.server_pool.proofs.LookupsRun.{order_goes}
use Rattle.server_pool.proofs.table_laws.an_order_goes_to_a_server.Goals as goal

pub returns : goal.returns
returns c = λ n now number l old new order s denied heard by. order_goes denied heard n now number l old new order by.there s by.holds
