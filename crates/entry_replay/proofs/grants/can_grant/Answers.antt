use Rattle.std.proofs.Common.{ap, sym, ◌∙◌}
use Rattle.server_state.specs.States.{server_of}
use Rattle.server_state.proofs.TableLaws.{file_there, no_file_there}
use Rattle.server_entries.specs.Applying.{can_at}
use Rattle.server_entries.specs.Changes.{can_grant}
use Rattle.entry_replay.proofs.grants.can_grant.Goals as goal

pub returns-in-Some : goal.returns-in-Some
returns-in-Some c =
    c.can_hold.ensures
    ∙ ap (can_at (can_grant (server_of c.args.state.now) c.args.grant.now))
    (sym
    (file_there c.args.state.now.files.entries c.args.grant.now.file c.in-Some.file.now c.requires.files
    (sym c.in-Some.ensures.value)))

pub returns-in-None : goal.returns-in-None
returns-in-None c =
    ap (can_at (can_grant (server_of c.args.state.now) c.args.grant.now))
    (sym (no_file_there c.args.state.now.files.entries c.args.grant.now.file c.requires.files (sym c.in-None.ensures.value)))
