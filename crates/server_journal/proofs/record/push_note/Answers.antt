use Rattle.server_notes.specs.declared.remark.Remark.TheVariants.{Asks}
use Rattle.server_journal.proofs.RecordLaws.{remark_some}
use Rattle.server_journal.proofs.record.push_note.Goals as goal

pub push_body-requires : goal.push_body-requires
push_body-requires c = rw c.in_ok-body.ensures.written (remark_some (Asks c.args.note.now))
