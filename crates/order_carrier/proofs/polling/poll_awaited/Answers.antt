use Rattle.order_carrier.proofs.ProviderTellsPolls.{rests-asleep, goes-for}
use Rattle.order_carrier.proofs.polling.poll_awaited.Goals as goal

pub poll_connection-requires-clause-goes : goal.poll_connection-requires-clause-goes
poll_connection-requires-clause-goes g c = goes-for g.P.ConnectionProvider c.args.under_way _ c.in-Connection.is

pub poll_answer-requires-clause-goes : goal.poll_answer-requires-clause-goes
poll_answer-requires-clause-goes g c = goes-for g.P.ConnectionProvider c.args.under_way _ c.in-Answer.is

pub poll_moment-requires : goal.poll_moment-requires
poll_moment-requires g c = rests-asleep c.args.under_way.order.value c.in-Moment.until (goes-for g.P.ConnectionProvider c.args.under_way _ c.in-Moment.is).goes

pub returns-in-Moment-clause-polled : goal.returns-in-Moment-clause-polled
returns-in-Moment-clause-polled g c = rw c.in-Moment.is (c.poll_moment.ensures (g.P.ConnectionProvider.log c.args.provider.now))
