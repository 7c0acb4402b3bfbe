-- WRITEs stay tied to their entries behind each whole move, if those that were sent before stay tied, and new ones are.
-- Towards `WritesStayTied` (`specs/MarksTied.antt`).
use Rattle.std.proofs.Common.{◌≡◌, ◌≤◌, ◌<◌, ℕ, false, List, length, slice_get, Some, inl, inr}
use Rattle.std.proofs.lemmas.Bool.{cases_lt}
use Rattle.osd_commands.specs.declared.actions.Action.TheVariants.{Write}
use Rattle.osd_commands.specs.declared.commands.Command.{Command}
use Rattle.scenario_text.specs.declared.line.Line.{Line}
use Rattle.world_history.specs.ServerNames.{File, Component}
use Rattle.world_history.specs.State.{World}
use Rattle.world_history.specs.ReadLog.{log_in}
use Rattle.world_history.specs.Sending.{Move, move}
use Rattle.history_law.specs.BookMoments.{lines_in}
use Rattle.fence_law.specs.State as machine
use Rattle.fence_law.specs.State.{State}
use Rattle.fence_law.specs.Words.{In as InRun}
use Rattle.file_simulation.specs.Showing.{Pairs}
use Rattle.file_simulation.specs.Tied.{AreTied, WasPosted, HasItsEntry, WritesAreTied}
use Rattle.headline_law.specs.EntriesTied.{EntriesKept}
use Rattle.headline_law.specs.MarksTied.{WritesStayTied}
use Rattle.headline_law.specs.Parts.{CutShown, cut_at, lines_to}

-- messages of which this is so are tied behind each whole move
abbrev pub MessagesTied : (World → ℕ → Type 0) → Type 0
MessagesTied P =
    (w : World) (h : List Line) (m : Move) (f g : File) (s : State) (pairs : Pairs) →
    (k : CutShown w h m (length (lines_in w m)) f g s pairs) → AreTied w h s f.kept.number pairs →
    WritesAreTied w h s f pairs →
    (e : EntriesKept w h m (length (lines_in w m)) (cut_at k.shown.follows) f.kept.number pairs) →
    (n c d i : ℕ) (x : Command) (at : Component) → P w n → WasPosted (move w m).world n c d x → x.action ≡ Write →
    slice_get g.kept.components i ≡ Some at → x.object ≡ at.object → (cut_at k.shown.follows).lost i ≡ false →
    (y : machine.Write) → InRun y (cut_at k.shown.follows).writes → y.holder ≡ c → y.nonce ≡ x.nonce → y.at ≡ i →
    HasItsEntry (log_in (lines_to w h m (length (lines_in w m)))) (cut_at k.shown.follows) g e.shown.pairs n i x y

-- a message that was sent before the move, and one that the move sends
abbrev pub IsOld : World → ℕ → Type 0
IsOld w n = n < length w.network.messages

abbrev pub IsNew : World → ℕ → Type 0
IsNew w n = length w.network.messages ≤ n

pub writes_stay_tied : MessagesTied IsOld → MessagesTied IsNew → WritesStayTied
writes_stay_tied old new w h m f g s pairs k tied writes e n c d i x at posted write found object lost y sent holder nonce there =
    elim (cases_lt n (length w.network.messages)) [
      | inl low ↦
          old w h m f g s pairs k tied writes e n c d i x at low posted write found object lost y sent holder nonce there
      | inr from_ ↦
          new w h m f g s pairs k tied writes e n c d i x at from_ posted write found object lost y sent holder nonce there
    ]
