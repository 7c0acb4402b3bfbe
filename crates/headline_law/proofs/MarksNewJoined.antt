-- WRITEs stay tied to their entries behind each whole move, if the log has their entries and each lies in one unit.
-- Towards `WritesStayTied` (`specs/MarksTied.antt`).
use Rattle.relation_law.specs.Steps.{CallsGoOn, SentGoesOn}
use Rattle.headline_law.specs.MarksTied.{WritesStayTied}
use Rattle.headline_law.proofs.MarksAgain.{again_scatters}
use Rattle.headline_law.proofs.MarksNew.{OneGoes, OneResends, new_tied, new_tied_of}
use Rattle.headline_law.proofs.MarksNewLogged.{LoggedLaws, NewScattered, SentAreLogged, new_logged}
use Rattle.headline_law.proofs.MarksNewNone.{none_new}
use Rattle.headline_law.proofs.MarksTurn.{turns_scatter}
use Rattle.headline_law.proofs.MarksUnitsJoined.{UnitLaws, resends_in_units, turns_in_units}
use Rattle.headline_law.proofs.MarksWrites.{IsNew, MessagesTied}
use Rattle.headline_law.proofs.MarksWritesJoined.{TiedLaws, writes_tied}

-- what is known of the WRITEs that a move sends
pub record NewLaws : Type 0 where
  pub tied : TiedLaws
  pub goes : SentGoesOn
  pub calls : CallsGoOn
  pub logged : SentAreLogged

module _ (laws : NewLaws) where
  units : UnitLaws
  units = record { tied = laws.tied; goes = laws.goes; calls = laws.calls }

  logs : LoggedLaws
  logs = record {
    logged = laws.logged;
    sent = laws.tied.sent;
    components = laws.tied.components;
    lines = laws.tied.lines;
    notes = laws.tied.notes;
  }

  sent_now : NewScattered OneGoes
  sent_now = turns_scatter (record { tied = laws.tied; calls = laws.calls })

  resent : NewScattered OneResends
  resent = again_scatters (record { tied = laws.tied; calls = laws.calls })

  pub messages_tied : MessagesTied IsNew
  messages_tied =
      new_tied none_new
      (new_tied_of OneResends (new_logged logs OneResends resent) (resends_in_units units))
      (new_tied_of OneGoes (new_logged logs OneGoes sent_now) (turns_in_units units))

pub writes_stay : NewLaws → WritesStayTied
writes_stay laws = writes_tied laws.tied (messages_tied laws)
