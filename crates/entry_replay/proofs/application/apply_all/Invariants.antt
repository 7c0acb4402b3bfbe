use Rattle.std.proofs.Common.{◌≡◌, take}
use Rattle.std.specs.Prelude.{Some}
use Rattle.server_state.specs.States.{server_of, IsReady}
use Rattle.server_entries.specs.Applying.{applied_all}
use Rattle.entry_replay.proofs.application.apply_all.Given as goal

abbrev pub invariant-loop-entry : goal.invariant-loop-entry
invariant-loop-entry l = record {
  made : applied_all (server_of l.fn.state) (take l.entry-index l.fn.entries) ≡ Some (server_of l.state);
  ready : IsReady l.state;
}
