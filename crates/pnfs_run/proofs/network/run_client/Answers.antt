use Rattle.std.proofs.Common.{refl, inr, map, string_bytes}
use Rattle.osd_bytes.specs.declared.lines.TheConstants.{MAX_READ}
use Rattle.osd_bytes.proofs.ReadLaws.{takes-none}
use Rattle.command_words.specs.Options.{client_options}
use Rattle.command_words.specs.Asked.{client_gives}
use Rattle.pnfs_run.specs.Network.{ClientEnds}
use Rattle.pnfs_run.specs.Ends.{ends}
use Rattle.pnfs_run.proofs.Asked.{first_fits, number_fits}
use Rattle.pnfs_run.proofs.Judging.{stopped}
use Rattle.pnfs_run.proofs.network.run_client.Goals as goal

pub client_command-requires-clause-number : goal.client_command-requires-clause-number
client_command-requires-clause-number g c = number_fits _ c.in-Ok.asked c.in-Ok.ensures.asks.1

pub client_command-requires-clause-first : goal.client_command-requires-clause-first
client_command-requires-clause-first g c = first_fits _ c.in-Ok.asked c.in-Ok.ensures.asks.1

pub returns-in-Err-client_command-clause-promise :
    goal.returns-in-Err-client_command-clause-promise
returns-in-Err-client_command-clause-promise g c = λ times ports.
    stopped client_options client_gives ClientEnds (map string_bytes c.args.words.now)
    (ends (g.S.Source.left c.args.source.now) (g.S.Source.faults c.args.source.now) (g.K.Sink.taken c.args.sink.now)
    (g.K.Sink.faults c.args.sink.now) (g.L.Links.told c.args.links.now) (g.L.Links.faults c.args.links.now)
    (g.L.Links.standing c.args.links.now) times ports)
    (ends (g.S.Source.left c.client_command.new.source) (g.S.Source.faults c.client_command.new.source)
    (g.K.Sink.taken c.client_command.new.sink) (g.K.Sink.faults c.client_command.new.sink)
    (g.L.Links.told c.client_command.new.links) (g.L.Links.faults c.client_command.new.links)
    (g.L.Links.standing c.client_command.new.links) times ports)
    c.in-Ok.asked c.in-Err-client_command.stop c.from-in-Err-client_command.result
    c.from-in-Err-client_command.ensures c.in-Ok.ensures.asks
    (refl, refl, inr (c.in-Err-client_command.stop, refl, c.in-Err-client_command.ensures.stops))

pub returns-in-Err-clause-input : goal.returns-in-Err-clause-input
returns-in-Err-clause-input g c = takes-none MAX_READ (g.S.Source.left c.args.source.now)
