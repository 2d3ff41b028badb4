use Rattle.std.proofs.Common.{sym, subst}
use Rattle.resolver_settings.specs.TextLines.{lines_of}
use Rattle.resolver_settings.specs.TextServers.{server_words}
use Rattle.resolver_settings.proofs.InOrder.{line_with, line_without, all_lines, LeadsTo}
use Rattle.resolver_settings.proofs.text_servers.addresses_of.Goals as goal

pub lines-preserved : goal.lines-preserved
lines-preserved c =
    let all = server_words (lines_of c.args.text.now) in
    subst (LeadsTo all c.next.new.self) (sym c.in_ok-push-in-Some-server_address.ensures.items) (line_with all c.lines.lines c.next.new.self c.in-Some.line c.lines.addresses.items c.in-Some-server_address.address c.in-Some.ensures c.in-Some-server_address.ensures c.lines.invariant)

pub lines-preserved-in-None : goal.lines-preserved-in-None
lines-preserved-in-None c = line_without (server_words (lines_of c.args.text.now)) c.lines.lines c.next.new.self c.in-Some.line c.lines.addresses.items c.in-Some.ensures c.in-None.ensures c.lines.invariant

pub returns : goal.returns
returns c = all_lines (server_words (lines_of c.args.text.now)) c.lines.lines c.lines.addresses.items c.in_default.ensures.0 c.lines.invariant
