-- A component that stands behind a move stood before it, if a client had sent a WRITE to its object.
-- Towards `WrittenStood` (`proofs/MarksWritesOld.antt`).
use Rattle.std.proofs.Common.{◌≡◌, ℕ, false, List, length, slice_get, Option, Some, None, refl, sym, ap, subst, ◌∙◌, inl, inr}
use Rattle.osd_commands.specs.declared.actions.Action.TheVariants.{Write}
use Rattle.osd_commands.specs.declared.commands.Command.{Command}
use Rattle.scenario_text.specs.declared.line.Line.{Line}
use Rattle.server_rules.specs.History.{Input}
use Rattle.world_history.specs.ServerNames.{File, Component, Note}
use Rattle.world_history.specs.State.{World}
use Rattle.world_history.specs.Sending.{Move, move}
use Rattle.history_law.specs.BookMoments.{lines_in}
use Rattle.history_law.specs.Doing.{input_in}
use Rattle.exchange_law.specs.Sent.{HasSent}
use Rattle.fence_law.specs.Machine.{Lawful, after_all}
use Rattle.fence_law.specs.State.{State}
use Rattle.file_simulation.specs.ClientEvents.{Going, going_in}
use Rattle.file_simulation.specs.Components.{AreComponents}
use Rattle.file_simulation.specs.Cuts.{rebuilt_ahead}
use Rattle.file_simulation.specs.Showing.{Pairs}
use Rattle.relation_law.specs.MessagesWrites.{ObjectsStay}
use Rattle.relation_law.specs.Steps.{Follows, FollowsWhole, ComponentsGoOn, behind, whole_behind, owed}
use Rattle.relation_law.proofs.ComponentsGoOn.{client_file}
use Rattle.headline_law.specs.Parts.{CutShown, EventsHaveLines, NotesAreTold, cut_at}
use Rattle.headline_law.proofs.MarksWritesOld.{StoodBefore, WrittenStood}
use Rattle.headline_law.proofs.SentMove.{SentLaws, stay}
use Rattle.headline_law.proofs.SentOthers.{same, objects, objects_}

module _ (laws : SentLaws) (components : ComponentsGoOn) (lines : EventsHaveLines) (notes : NotesAreTold) (w : World)
    (h : List Line) (m : Move) (f g : File) (s : State) (pairs : Pairs)
    (k : CutShown w h m (length (lines_in w m)) f g s pairs) where
  abbrev follows : Follows w h m (length (lines_in w m)) f g s
  follows = k.shown.follows

  pub whole : FollowsWhole w h m f g s
  whole = record {
    follows = follows;
    lawful = subst (Lawful s) (lines w h m f g s (owed follows.related) follows) k.lawful;
  }

  pub cut_is : cut_at follows ≡ whole_behind whole
  unfolding rebuilt_ahead whole
  cut_is =
      ap (λ (ns : List Note). after_all (behind follows.related m (length (lines_in w m)))
      (rebuilt_ahead (behind follows.related m (length (lines_in w m))) w f ns)) (notes w h m f g s follows)
      ∙ ap (after_all s) (lines w h m f g s (owed follows.related) follows)

  there : AreComponents (whole_behind whole) (move w m).world g
  there = components w h m f g s whole

  module _ (c d i : ℕ) (y : Command) (at : Component) (sent : HasSent w c d y) (write : y.action ≡ Write)
      (found : slice_get g.kept.components i ≡ Some at) (object : y.object ≡ at.object)
      (lost : (cut_at follows).lost i ≡ false) where
    lost_behind : (whole_behind whole).lost i ≡ false
    lost_behind = ap (λ (t : State). t.lost i) (sym cut_is) ∙ lost

    by_objects : ObjectsStay w (move w m).world f g → StoodBefore s f i at
    by_objects stays = elim (stays i at found (sym (there i at found).lost ∙ lost_behind)) [
      | inl z ↦ record {
        component = z.component;
        there = z.there;
        object = z.object;
        stands = (follows.related.components i z.component z.there).lost ∙ z.stands;
      }
      | inr none ↦ absurd (none c d y sent write object)
    ]

    stood : StoodBefore s f i at
    stood = by_going (going_in w m.action) refl
      where
        by_input : going_in w m.action ≡ None → (o : Option Input) → input_in w m.action ≡ o → StoodBefore s f i at
        by_input none None is =
            by_objects (subst (ObjectsStay w (move w m).world f) (same laws.moved w h m f g s whole none is there)
            (objects laws.moved w h m f g s whole none is there))
        by_input none (Some x) is = by_objects (objects_ laws.moved w h m f g s whole none x is there)

        by_going : (o : Option Going) → going_in w m.action ≡ o → StoodBefore s f i at
        by_going None none = by_input none (input_in w m.action) refl
        by_going (Some j) goes = record {
          component = at;
          there =
              ap (λ (z : File). slice_get z.kept.components i)
              (client_file w h m f g s follows.moment follows.is_due follows.there follows.run follows.related j goes
              follows.goes)
              ∙ found;
          object = refl;
          stands = sym (ap (λ (q : ℕ → _). q i) (stay laws w h m f g s whole j goes).lost) ∙ lost_behind;
        }

pub written_stood : SentLaws → ComponentsGoOn → EventsHaveLines → NotesAreTold → WrittenStood
written_stood laws components lines notes w h m f g s pairs k c d i y at sent write found object lost =
    stood laws components lines notes w h m f g s pairs k c d i y at sent write found object lost
