use Rattle.std.proofs.Common.{ℕ, sym, subst}
use Rattle.std.specs.BTreeMap.{BTreeMap}
use Rattle.file_jobs.specs.declared.job.FileState.{FileState}
use Rattle.file_jobs.specs.Placing.{AreLoadsOf}
use Rattle.server_rules.specs.declared.server.Server.{Server}
use Rattle.server_rules.specs.Messages.{on_drive_reply}
use Rattle.server_state.specs.States.{server_of, HasRoom}
use Rattle.server_state.proofs.ReplyLaws.{did_between}
use Rattle.layout_server.specs.Hearing.{AwaitedAt}
use Rattle.layout_server.proofs.replies.hear.Goals as goal

pub hear_at-requires-clause-room : goal.hear_at-requires-clause-room
hear_at-requires-clause-room g c = subst (λ (s : Server). HasRoom s) (sym c.unlist.ensures.server) c.requires.room

pub hear_at-requires-clause-awaited : goal.hear_at-requires-clause-awaited
hear_at-requires-clause-awaited g c =
    subst (λ (m : BTreeMap ℕ FileState). AwaitedAt c.args.drive c.args.reply.now c.args.number m.entries)
    (sym c.unlist.ensures.files) c.requires.awaited

pub hear_at-requires-clause-loads : goal.hear_at-requires-clause-loads
hear_at-requires-clause-loads g c =
    rw c.as_slice-loads.ensures
    (subst (λ (s : Server). AreLoadsOf c.in_ok-loads.loads s.drives)
    (sym c.unlist.ensures.server) c.in_ok-loads.ensures.drives)

pub returns-clause-did : goal.returns-clause-did
returns-clause-did g c =
    let did = c.in_ok-step.ensures.did in (
      did.0,
      did_between c.in_ok-step.step (λ (s : Server). on_drive_reply s did.0 c.args.drive c.args.reply.now)
          (server_of c.args.state.now) (server_of c.unlist.new.state)
          (server_of c.hear_at.new.state) (server_of c.list.new.state) c.unlist.ensures.server c.in_ok-list.ensures.server did.1,
    )
