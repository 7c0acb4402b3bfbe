use Rattle.std.proofs.Common.{refl, inl, inr, map, string_bytes}
use Rattle.osd_bytes.specs.declared.lines.TheConstants.{MAX_READ}
use Rattle.osd_bytes.proofs.ReadLaws.{takes-none}
use Rattle.command_words.specs.StoredAsked.{stored_server_gives, stored_server_options}
use Rattle.pnfs_run.specs.declared.status.Status.TheVariants.{Done}
use Rattle.pnfs_run.specs.Ends.{ends_at}
use Rattle.pnfs_run.specs.Stored.{StoredServerEnds}
use Rattle.pnfs_run.proofs.Judging.{good}
use Rattle.pnfs_run.proofs.StoredJudging.{stored_stopped, stored_server_apart}
use Rattle.pnfs_run.proofs.stored.run_stored_server.Goals as goal

pub returns-in-Ok-stored_server_command-clause-promise :
    goal.returns-in-Ok-stored_server_command-clause-promise
returns-in-Ok-stored_server_command-clause-promise g c = λ ports. (
  c.in-Ok.asked,
  c.in-Ok.ensures.asks,
  (
    (refl, c.stored_server_command.ensures.addresses),
    inl (
      refl,
      c.in-Ok-stored_server_command.ensures.serves,
    ),
  ),
)

pub returns-in-Ok-stored_server_command-clause-words :
    goal.returns-in-Ok-stored_server_command-clause-words
returns-in-Ok-stored_server_command-clause-words g c =
    good stored_server_options stored_server_gives (map string_bytes c.args.words.now) c.in-Ok.asked Done
    (stored_server_apart (map string_bytes c.args.words.now) c.in-Ok.asked) c.in-Ok.ensures.asks (λ e. cc e)

pub returns-clause-promise : goal.returns-clause-promise
returns-clause-promise g c = λ ports.
    stored_stopped stored_server_options stored_server_gives
    (StoredServerEnds g.D.Disk c.args.disk c.in-Err-stored_server_command.refusal.1) (map string_bytes c.args.words.now)
    (ends_at g.S.Source g.K.Sink g.L.Links g.C.Clock c.args.source.now c.args.sink.now c.args.links.now c.args.clock.now
    ports)
    (ends_at g.S.Source g.K.Sink g.L.Links g.C.Clock c.stored_server_command.new.source c.stored_server_command.new.sink
    c.stored_server_command.new.links c.stored_server_command.new.clock ports)
    c.in-Ok.asked c.in-Err-stored_server_command.refusal.0 c.from.result c.from.ensures c.in-Ok.ensures.asks (
      (refl, c.stored_server_command.ensures.addresses),
      inr (
        c.in-Err-stored_server_command.refusal.0,
        refl,
        c.in-Err-stored_server_command.ensures.stops,
      ),
    )

pub returns-in-Err-clause-input : goal.returns-in-Err-clause-input
returns-in-Err-clause-input g c = takes-none MAX_READ (g.S.Source.left c.args.source.now)
