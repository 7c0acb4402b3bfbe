-- The calls that are pending by the lines of a text's history are those of the world's clients: `relation_law` shows it of
-- each move of which a line can tell each outcome, and of these histories a line can.
use Rattle.std.proofs.Common.{refl}
use Rattle.world_history.specs.ReadLog.{log_in}
use Rattle.world_history.specs.History.{OneEventMore}
use Rattle.history_law.specs.BookMoments.{lines_in}
use Rattle.exchange_law.specs.Text.{AreOfText}
use Rattle.exchange_law.proofs.CountGrowing.{text_front}
use Rattle.exchange_law.proofs.SlotMoments.{always}
use Rattle.exchange_law.proofs.PendingCalls.{Agree}
use Rattle.exchange_law.proofs.PendingMoves.{move_agrees}
use Rattle.name_law.specs.ClientTells.{OutcomesOfTextAreTold, CallsOfTextArePending}

-- at each moment of a history of a scenario's text the calls that are pending by the lines are those of the clients
pub calls_are_pending : OutcomesOfTextAreTold → OneEventMore → CallsOfTextArePending
calls_are_pending told more w h at text =
    (always (λ w h. AreOfText h → Agree w (log_in h).pending) (record {
      starts = λ text. (tt, λ c. refl);
      moves =
          λ v g k m d x text.
          let before : AreOfText g = text_front g (lines_in v m) text in
          move_agrees v g k m d (told v g k before m d) (x before);
    }) more w h at text).1
