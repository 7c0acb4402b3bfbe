use Rattle.server_journal.proofs.RecordLaws.{some_bytes}
use Rattle.server_journal.proofs.record.push_changes.Goals as goal

pub push_body-requires : goal.push_body-requires
push_body-requires c = rw c.in_ok-body.ensures.spelled (some_bytes c.args.changes.now)
