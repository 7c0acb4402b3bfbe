-- At each moment the report whose answer a client awaits is short, and the server reads each request.
use Rattle.std.proofs.Common.{◌≡◌, ℕ, Option, Some, None, refl, subst}
use Rattle.world_history.specs.ClientNames.{Client}
use Rattle.world_history.specs.State.{World, ClientAt, at_number}
use Rattle.exchange_law.specs.InStep.{state_of}
use Rattle.exchange_law.proofs.ClientMoves.{IsKeptByClients, clients_always}
use Rattle.exchange_law.proofs.CountMoments.{reached}
use Rattle.history_law.specs.HistoryMoments.{IsReached}
use Rattle.cause_law.specs.Reports.{ReportsAreAlwaysShort, RequestsCanBeRead}
use Rattle.cause_law.proofs.Going.{RequestShort, ClientShort}
use Rattle.cause_law.proofs.ReportSteps.{step_short, new_short}

-- however many messages were sent
abbrev Short : ℕ → Client → Type 0
Short n c = ClientShort c

short_kept : IsKeptByClients Short
short_kept = record {
  more = λ n k c s. s;
  made = λ n number. new_short number 1;
  steps = λ n c i number wrote logged s. step_short c i s;
}

state_short : (w : World) → IsReached w → (c : ℕ) (o : Option ClientAt) → at_number w.clients c ≡ o
    → RequestShort (state_of c o).outstanding
state_short w r c None found = tt
state_short w r c (Some a) found = (clients_always Short short_kept w r c a found).request

pub reports_are_always_short : ReportsAreAlwaysShort
reports_are_always_short w g m c r e =
    (subst RequestShort e (state_short w (reached w g m) c (at_number w.clients c) refl)).0

pub requests_can_be_read : RequestsCanBeRead
requests_can_be_read w g m c r e =
    (subst RequestShort e (state_short w (reached w g m) c (at_number w.clients c) refl)).1
