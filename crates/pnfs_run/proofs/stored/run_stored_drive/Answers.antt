use Rattle.std.proofs.Common.{refl, inl, inr, map, string_bytes}
use Rattle.osd_bytes.specs.declared.lines.TheConstants.{MAX_READ}
use Rattle.osd_bytes.proofs.ReadLaws.{takes-none}
use Rattle.command_words.specs.StoredAsked.{stored_drive_gives, stored_drive_options}
use Rattle.pnfs_run.specs.declared.status.Status.TheVariants.{Done}
use Rattle.pnfs_run.specs.Ends.{ends, ports_at}
use Rattle.pnfs_run.specs.Stored.{StoredDriveEnds}
use Rattle.pnfs_run.proofs.Judging.{good}
use Rattle.pnfs_run.proofs.StoredJudging.{stored_stopped, stored_drive_apart}
use Rattle.pnfs_run.proofs.stored.run_stored_drive.Goals as goal

pub returns-in-Ok-stored_drive_command-clause-promise :
    goal.returns-in-Ok-stored_drive_command-clause-promise
returns-in-Ok-stored_drive_command-clause-promise g c = λ told faults standing. (
  c.in-Ok.asked,
  c.in-Ok.ensures.asks,
  (
    ((refl, refl, refl), c.stored_drive_command.ensures.listens),
    inl (
      refl,
      c.in-Ok-stored_drive_command.ensures.serves,
    ),
  ),
)

pub returns-in-Ok-stored_drive_command-clause-words :
    goal.returns-in-Ok-stored_drive_command-clause-words
returns-in-Ok-stored_drive_command-clause-words g c =
    good stored_drive_options stored_drive_gives (map string_bytes c.args.words.now) c.in-Ok.asked Done
    (stored_drive_apart (map string_bytes c.args.words.now) c.in-Ok.asked) c.in-Ok.ensures.asks (λ e. cc e)

pub returns-clause-promise : goal.returns-clause-promise
returns-clause-promise g c = λ told faults standing.
    stored_stopped stored_drive_options stored_drive_gives
    (StoredDriveEnds g.D.Disk c.args.lent.disk c.in-Err-stored_drive_command.refusal.1.disk) (map string_bytes c.args.words.now)
    (ends (g.S.Source.left c.args.source.now) (g.S.Source.faults c.args.source.now) (g.K.Sink.taken c.args.sink.now)
    (g.K.Sink.faults c.args.sink.now) told faults standing (g.C.Clock.times c.args.clock.now)
    (ports_at g.P.Ports g.N.Notes c.args.ports.now c.args.lent.notes))
    (ends (g.S.Source.left c.stored_drive_command.new.source) (g.S.Source.faults c.stored_drive_command.new.source)
    (g.K.Sink.taken c.stored_drive_command.new.sink) (g.K.Sink.faults c.stored_drive_command.new.sink) told faults standing
    (g.C.Clock.times c.stored_drive_command.new.clock)
    (ports_at g.P.Ports g.N.Notes c.stored_drive_command.new.ports c.in-Err-stored_drive_command.refusal.1.notes))
    c.in-Ok.asked c.in-Err-stored_drive_command.refusal.0 c.from.result c.from.ensures c.in-Ok.ensures.asks (
      ((refl, refl, refl), c.stored_drive_command.ensures.listens),
      inr (
        c.in-Err-stored_drive_command.refusal.0,
        refl,
        c.in-Err-stored_drive_command.ensures.stops,
      ),
    )

pub returns-in-Err-clause-input : goal.returns-in-Err-clause-input
returns-in-Err-clause-input g c = takes-none MAX_READ (g.S.Source.left c.args.source.now)
