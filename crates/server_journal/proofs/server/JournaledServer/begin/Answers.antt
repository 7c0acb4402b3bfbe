use Rattle.std.proofs.Common.{refl, ◌∙◌}
use Rattle.server_journal.proofs.JournalLaws.{journal_cause}
use Rattle.server_journal.proofs.server.JournaledServer.begin.Goals as goal

pub returns-in-Ok-clause-any_moment : goal.returns-in-Ok-clause-any_moment
returns-in-Ok-clause-any_moment g c =
    rw (c.of-server.ensures.0, c.of-server.ensures.1, c.of-server.ensures.2, c.of-server.ensures.3) at
    c.keep.ensures.any_moment

pub returns-in-Ok-clause-kept : goal.returns-in-Ok-clause-kept
returns-in-Ok-clause-kept g c =
    rw (c.of-server.ensures.0, c.of-server.ensures.1, c.of-server.ensures.2, c.of-server.ensures.3) at
    c.in-Ok.ensures.kept

pub returns-in-Err-clause-cut_off : goal.returns-in-Err-clause-cut_off
returns-in-Err-clause-cut_off g c =
    rw c.into_disk.ensures
    (rw (c.of-server.ensures.0, c.of-server.ensures.1, c.of-server.ensures.2, c.of-server.ensures.3) at
    c.keep.ensures.any_moment)

pub returns-in-Err-clause-cause : goal.returns-in-Err-clause-cause
returns-in-Err-clause-cause g c =
    rw c.into_disk.ensures (journal_cause _ _ c.in-Err.e _ (rw c.of-server.ensures.1 at c.in-Err.ensures.cause) refl)

pub returns-in-Ok-clause-quiet : goal.returns-in-Ok-clause-quiet
returns-in-Ok-clause-quiet g c = rw (c.of-server.ensures.0, c.of-server.ensures.1) at c.keep.ensures.quiet

pub returns-in-Ok-clause-objects : goal.returns-in-Ok-clause-objects
returns-in-Ok-clause-objects g c = c.keep.ensures.kept_made ∙ c.of-server.ensures.2

pub returns-in-Ok-clause-notes : goal.returns-in-Ok-clause-notes
returns-in-Ok-clause-notes g c = rw c.of-server.ensures.3 at c.in-Ok.ensures.noted
