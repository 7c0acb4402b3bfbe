use Rattle.std.proofs.Common.{ap, sym, ◌∙◌}
use Rattle.server_state.specs.States.{server_of}
use Rattle.server_state.proofs.TableLaws.{file_there, no_file_there}
use Rattle.server_entries.specs.Applying.{can_at}
use Rattle.server_entries.specs.Changes.{can_change}
use Rattle.entry_replay.proofs.changes.can_come.Goals as goal

pub returns-in-Some : goal.returns-in-Some
returns-in-Some c =
    c.can_change.ensures
    ∙ ap (can_at (can_change (server_of c.args.state.now) c.args.change.now))
    (sym
    (file_there c.args.state.now.files.entries c.args.number c.in-Some.file.now c.requires.files
    (sym c.in-Some.ensures.value)))

pub returns-in-None : goal.returns-in-None
returns-in-None c =
    ap (can_at (can_change (server_of c.args.state.now) c.args.change.now))
    (sym (no_file_there c.args.state.now.files.entries c.args.number c.requires.files (sym c.in-None.ensures.value)))
