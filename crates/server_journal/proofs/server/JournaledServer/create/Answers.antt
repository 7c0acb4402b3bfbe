use Rattle.std.proofs.Common.{[]}
use Rattle.server_rules.specs.Making.{new_server}
use Rattle.server_journal.proofs.OpeningLaws.{new_kept, no_size}
use Rattle.server_journal.proofs.server.JournaledServer.create.Goals as goal

pub returns-in-Ok-begin-clause-kept : goal.returns-in-Ok-begin-clause-kept
returns-in-Ok-begin-clause-kept g c told =
    c.in-Ok-begin.ensures.kept (new_server []) c.in-Ok.ensures.follows
    (rw (c.new-made.ensures, c.new-noted.ensures)
    (new_kept g.D.Disk _ c.in-Ok-create.log c.header_bytes-header.ensures (c.in-Ok-create.ensures.made told)))

pub returns-in-Err-begin-clause-refused : goal.returns-in-Err-begin-clause-refused
returns-in-Err-begin-clause-refused g c = no_size _ c.in-Err-begin.refusal.0 c.in-Err-begin.ensures.error

pub returns-in-Err-begin-clause-cause : goal.returns-in-Err-begin-clause-cause
returns-in-Err-begin-clause-cause g c = rw c.in-Ok-create.ensures.no_fault at c.in-Err-begin.ensures.cause
