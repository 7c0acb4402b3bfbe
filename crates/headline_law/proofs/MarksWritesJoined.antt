-- WRITEs stay tied to their entries behind each whole move, if those that it sends are.
-- Towards `WritesStayTied` (`specs/MarksTied.antt`).
use Rattle.history_law.specs.Read.{BookIsRead}
use Rattle.relation_law.specs.Steps.{ComponentsGoOn}
use Rattle.relation_law.proofs.ComponentsSenders.{SenderLaws}
use Rattle.headline_law.specs.MarksTied.{WritesStayTied}
use Rattle.headline_law.specs.Parts.{CutsAreRuns, EventsHaveLines, NotesAreTold}
use Rattle.headline_law.proofs.MarksWrites.{IsOld, IsNew, MessagesTied, writes_stay_tied}
use Rattle.headline_law.proofs.MarksWritesOld.{cuts_grow, old_stay_tied}
use Rattle.headline_law.proofs.MarksWritesSent.{posted_are_sent}
use Rattle.headline_law.proofs.MarksWritesStood.{written_stood}
use Rattle.headline_law.proofs.SentMove.{SentLaws}

-- what is known of histories, and of each move
pub record TiedLaws : Type 0 where
  pub book : BookIsRead
  pub senders : SenderLaws
  pub sent : SentLaws
  pub components : ComponentsGoOn
  pub lines : EventsHaveLines
  pub notes : NotesAreTold
  pub runs : CutsAreRuns

pub old_tied : TiedLaws → MessagesTied IsOld
old_tied laws = old_stay_tied (record {
  sent = posted_are_sent laws.senders;
  stood = written_stood laws.sent laws.components laws.lines laws.notes;
  grew = cuts_grow laws.runs laws.book;
})

pub writes_tied : TiedLaws → MessagesTied IsNew → WritesStayTied
writes_tied laws new = writes_stay_tied (old_tied laws) new
