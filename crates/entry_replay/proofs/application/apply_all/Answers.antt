use Rattle.std.specs.Prelude.{None, Some}
use Rattle.std.proofs.Common.{ap, sym, ◌+◌, ◌∙◌}
use Rattle.server_rules.specs.declared.server.Server.{Server}
use Rattle.server_state.specs.States.{server_of}
use Rattle.entry_replay.proofs.RunLaws.{none_of_all, one_more}
use Rattle.entry_replay.proofs.application.apply_all.Goals as goal

pub returns-in-Ok-Unmade-clause-applied : goal.returns-in-Ok-Unmade-clause-applied
returns-in-Ok-Unmade-clause-applied c =
    let u = rw c.in-Ok-Unmade.field-0-is at c.in-Ok-Unmade.ensures.applied in
    none_of_all (server_of c.args.state.now) c.args.entries.now (c.loop-entry.entry-index + 1)
    (one_more (server_of c.args.state.now) (server_of c.loop-entry.state) c.args.entries.now c.loop-entry.entry-index
    c.entry-item.result None
    c.loop-entry-test.true c.entry-item.is c.loop-entry.invariant.made u.0)

pub returns-in-Ok-Unmade-clause-stops : goal.returns-in-Ok-Unmade-clause-stops
returns-in-Ok-Unmade-clause-stops c =
    let u = rw c.in-Ok-Unmade.field-0-is at c.in-Ok-Unmade.ensures.applied in (
      c.loop-entry.entry-index,
      record {
        made = c.loop-entry.invariant.made ∙ ap (λ (s : Server). Some s) (sym u.1);
        unmade =
            one_more (server_of c.args.state.now) (server_of c.loop-entry.state) c.args.entries.now c.loop-entry.entry-index
            c.entry-item.result None
            c.loop-entry-test.true c.entry-item.is c.loop-entry.invariant.made u.0;
      },
    )

pub loop-entry-preserved : goal.loop-entry-preserved
loop-entry-preserved c = record {
  made =
      one_more (server_of c.args.state.now) (server_of c.loop-entry.state) c.args.entries.now c.loop-entry.entry-index
      c.entry-item.result
      (Some (server_of c.apply.new.state)) c.loop-entry-test.true c.entry-item.is c.loop-entry.invariant.made
      (rw c.in-Ok-Done.field-0-is at c.in-Ok-Done.ensures.applied);
  ready = c.apply.ensures.ready;
}
