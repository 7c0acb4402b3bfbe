-- Where no client of the machine is at a write, no WRITE of the file's is awaited.
use Rattle.std.proofs.Common.{◌≡◌, ℕ, Bool, true, subst}
use Rattle.std.proofs.lemmas.Bool.{eq-eqb}
use Rattle.server_rules.specs.Slots.{slot_of}
use Rattle.client_rules.specs.Calls.{file_of}
use Rattle.world_history.specs.ClientNames.{Phase, Scatters}
use Rattle.world_history.specs.ServerNames.{File}
use Rattle.world_history.specs.State.{World}
use Rattle.fence_law.specs.State.{State}
use Rattle.fence_law.specs.State.Call.{Writes as AtWrite}
use Rattle.file_simulation.specs.Calls.{CallAt, CallIs, CallOn}
use Rattle.file_simulation.specs.Relation.{client_of}
use Rattle.file_simulation.specs.Requests.{kept_for}
use Rattle.relation_law.specs.Steps.{AreCalls}
use Rattle.file_simulation.specs.Messages.{is_scatter}
use Rattle.headline_law.specs.ClientTold.{AreTold}

-- so the machine has the replies to all
pub told_idle : (s : State) (w : World) (f : File) → AreCalls s w f → ((c j : ℕ) → s.call c ≡ AtWrite j → ⊥) → AreTold s w f
told_idle s w f k idle c low call is here scatter a r i done = absurd (by_phase call.phase at_call scatter)
  where
    at_call : CallIs f.kept.map s c call.op (kept_for (slot_of w.server.slots c) (client_of w c).outstanding) call.phase
    at_call =
        subst (λ (b : Bool). CallOn b f.kept.map s c call (kept_for (slot_of w.server.slots c) (client_of w c).outstanding))
        (eq-eqb (file_of call.op) f.kept.number here)
        (subst (CallAt f.kept.number f.kept.map s c (kept_for (slot_of w.server.slots c) (client_of w c).outstanding)) is
        (k c low).call)

    by_phase : (p : Phase) → CallIs f.kept.map s c call.op (kept_for (slot_of w.server.slots c) (client_of w c).outstanding) p →
        is_scatter p ≡ true → ⊥
    by_phase (Scatters io queue) w_ e = idle c w_.0 w_.1.writing.at_
    by_phase p w_ e = cc e
