use Rattle.std.proofs.Common.{[]}
use Rattle.server_journal.specs.Notes.{entry_bodies}
use Rattle.server_journal.proofs.record.entries_of.Goals as goal

pub returns-clause-bodies : goal.returns-clause-bodies
returns-clause-bodies c =
    c.in_ok-push_notes.ensures.pushed (entry_bodies c.args.changes.now)
    (c.in_ok-push_changes.ensures.pushed [] c.new-entries.ensures)
