use Rattle.std.proofs.Common.{refl, inl, inr, map, string_bytes}
use Rattle.osd_bytes.specs.declared.lines.TheConstants.{MAX_READ}
use Rattle.osd_bytes.proofs.ReadLaws.{takes-none}
use Rattle.command_words.specs.Options.{drive_options}
use Rattle.command_words.specs.Asked.{drive_gives}
use Rattle.pnfs_run.specs.Ends.{ends, ports_at}
use Rattle.pnfs_run.specs.Network.{DriveEnds}
use Rattle.pnfs_run.proofs.Judging.{stopped}
use Rattle.pnfs_run.proofs.network.run_drive.Goals as goal

pub returns-in-Ok-drive_command-clause-promise : goal.returns-in-Ok-drive_command-clause-promise
returns-in-Ok-drive_command-clause-promise g c = λ told faults standing. (
  c.in-Ok.asked,
  c.in-Ok.ensures.asks,
  (
    ((refl, refl, refl), c.drive_command.ensures.listens),
    inl (refl, c.in-Ok-drive_command.ensures.serves),
  ),
)

pub returns-in-Err-drive_command-clause-promise : goal.returns-in-Err-drive_command-clause-promise
returns-in-Err-drive_command-clause-promise g c = λ told faults standing.
    stopped drive_options drive_gives DriveEnds (map string_bytes c.args.words.now)
    (ends (g.S.Source.left c.args.source.now) (g.S.Source.faults c.args.source.now) (g.K.Sink.taken c.args.sink.now)
    (g.K.Sink.faults c.args.sink.now) told faults standing (g.C.Clock.times c.args.clock.now)
    (ports_at g.P.Ports g.N.Notes c.args.ports.now c.args.notes))
    (ends (g.S.Source.left c.drive_command.new.source) (g.S.Source.faults c.drive_command.new.source)
    (g.K.Sink.taken c.drive_command.new.sink) (g.K.Sink.faults c.drive_command.new.sink) told faults standing
    (g.C.Clock.times c.drive_command.new.clock)
    (ports_at g.P.Ports g.N.Notes c.drive_command.new.ports c.in-Err-drive_command.notes))
    c.in-Ok.asked c.in-Err-drive_command.stop c.from.result c.from.ensures c.in-Ok.ensures.asks (
      ((refl, refl, refl), c.drive_command.ensures.listens),
      inr (c.in-Err-drive_command.stop, refl, c.in-Err-drive_command.ensures.stops),
    )

pub returns-in-Err-clause-input : goal.returns-in-Err-clause-input
returns-in-Err-clause-input g c = takes-none MAX_READ (g.S.Source.left c.args.source.now)
