-- The WRITEs that clients sent, behind a move in which none is sent.
-- Towards `SentGoesOn` (`specs/Steps.antt`).
use Rattle.std.proofs.Common.{◌≡◌, ℕ, false, Some, sym, ◌∙◌, inl, inr}
use Rattle.std.specs.Prelude.{slice_get}
use Rattle.osd_commands.specs.declared.actions.Action.TheVariants.{Write as ToWrite}
use Rattle.osd_commands.specs.declared.commands.Command.{Command}
use Rattle.world_history.specs.ServerNames.{File, Component}
use Rattle.world_history.specs.State.{World}
use Rattle.exchange_law.specs.Sent.{HasSent}
use Rattle.fence_law.specs.State.{State}
use Rattle.fence_law.proofs.Open.{Known}
use Rattle.file_simulation.specs.Components.{AreComponents, is_lost_in}
use Rattle.file_simulation.specs.Messages.{WasSent}
use Rattle.relation_law.specs.Frames.{LogGrows}
use Rattle.relation_law.specs.MessagesWrites.{WritesAreSent, ObjectsStay}
use Rattle.relation_law.proofs.MessagesSent.{sent_stays}

-- An old WRITE stays sent to each component that has its object and stands behind the move.
pub old_stays : (s t : State) (w v : World) (f g : File) → Known s → LogGrows s t → AreComponents s w f → AreComponents t v g →
    ObjectsStay w v f g → WritesAreSent s w f → (c d k : ℕ) (x : Command) (at : Component) → HasSent w c d x →
    x.action ≡ ToWrite → slice_get g.kept.components k ≡ Some at → x.object ≡ at.object → t.lost k ≡ false → WasSent t c k x
old_stays s t w v f g known grows before behind stay sent c d k x at has write there object stands =
    let lost : is_lost_in v at ≡ false = sym (behind k at there).lost ∙ stands in
    elim (stay k at there lost) [
      | inl old ↦
          let was : s.lost k ≡ false = (before k old.component old.there).lost ∙ old.stands in
          sent_stays s t c k x known grows (sent c d k x old.component has write old.there (object ∙ sym old.object) was)
      | inr new ↦ absurd (new c d x has write object)
    ]

-- where clients send nothing new, all are
pub writes_stay : (s t : State) (w v : World) (f g : File) → Known s → LogGrows s t → AreComponents s w f → AreComponents t v g →
    ObjectsStay w v f g → ((c d : ℕ) (x : Command) → HasSent v c d x → HasSent w c d x) → WritesAreSent s w f →
    WritesAreSent t v g
writes_stay s t w v f g known grows before behind stay none sent c d k x at has write there object stands =
    old_stays s t w v f g known grows before behind stay sent c d k x at (none c d x has) write there object stands
