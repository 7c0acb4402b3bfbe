use Rattle.std.proofs.Common.{refl, inl, inr, map, string_bytes}
use Rattle.osd_bytes.specs.declared.lines.TheConstants.{MAX_READ}
use Rattle.osd_bytes.proofs.ReadLaws.{takes-none}
use Rattle.command_words.specs.Options.{server_options}
use Rattle.command_words.specs.Asked.{server_gives}
use Rattle.pnfs_run.specs.Ends.{ends_at}
use Rattle.pnfs_run.specs.Network.{ServerEnds}
use Rattle.pnfs_run.proofs.Judging.{stopped}
use Rattle.pnfs_run.proofs.network.run_server.Goals as goal

pub returns-in-Ok-server_command-clause-promise : goal.returns-in-Ok-server_command-clause-promise
returns-in-Ok-server_command-clause-promise g c = λ ports. (
  c.in-Ok.asked,
  c.in-Ok.ensures.asks,
  (
    (refl, c.server_command.ensures.addresses),
    inl (refl, c.in-Ok-server_command.ensures.serves),
  ),
)

pub returns-in-Err-server_command-clause-promise : goal.returns-in-Err-server_command-clause-promise
returns-in-Err-server_command-clause-promise g c = λ ports.
    stopped server_options server_gives ServerEnds (map string_bytes c.args.words.now)
    (ends_at g.S.Source g.K.Sink g.L.Links g.C.Clock c.args.source.now c.args.sink.now c.args.links.now c.args.clock.now
    ports)
    (ends_at g.S.Source g.K.Sink g.L.Links g.C.Clock c.server_command.new.source c.server_command.new.sink
    c.server_command.new.links c.server_command.new.clock ports)
    c.in-Ok.asked c.in-Err-server_command.stop c.from.result c.from.ensures c.in-Ok.ensures.asks (
      (refl, c.server_command.ensures.addresses),
      inr (c.in-Err-server_command.stop, refl, c.in-Err-server_command.ensures.stops),
    )

pub returns-in-Err-clause-input : goal.returns-in-Err-clause-input
returns-in-Err-clause-input g c = takes-none MAX_READ (g.S.Source.left c.args.source.now)
