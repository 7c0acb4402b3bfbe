-- What a move makes of an object to which no client sent anything: it stays or is gone, or the drive performs a command of the
-- server on it.
use Rattle.std.proofs.Common.{◌≡◌, ◌⊎◌, ◌++◌, ℕ, true, List, Option, Some, None, refl, sym, ap, subst, ◌∙◌, inl, inr}
use Rattle.osd_lists.specs.declared.node.Node.{Node}
use Rattle.osd_lists.specs.declared.node.Node.TheVariants as node
use Rattle.osd_commands.specs.declared.actions.Action.{Action}
use Rattle.osd_commands.specs.declared.actions.Action.TheVariants as action
use Rattle.osd_commands.specs.declared.commands.Command.{Command}
use Rattle.osd_objects.specs.declared.object.StoredObject.{StoredObject}
use Rattle.osd_objects.specs.Lanes.{with_lane}
use Rattle.osd_objects.specs.Objects.{created, after_write, after_set_attr, after_set_tag}
use Rattle.osd_objects.specs.Store.{object_at}
use Rattle.osd_drive.specs.Effects.{lane_for, next_tag, performed}
use Rattle.scenario_text.specs.declared.line.Line.{Line}
use Rattle.world_history.specs.Guesses.{unguessed}
use Rattle.world_history.specs.Plans.{due}
use Rattle.world_history.specs.Sending.{Move, move}
use Rattle.world_history.specs.State.{World, DriveAt, at_number}
use Rattle.history_law.specs.BookMoments.{IsMoment, plan_at, lines_in}
use Rattle.history_law.specs.Spent.{IsSpent}
use Rattle.history_law.proofs.Ending.{next_moment}
use Rattle.history_law.proofs.Spending.{IsFree, free, not_spent}
use Rattle.component_law.proofs.NamedLines.{are_named}
use Rattle.component_law.proofs.Moments.{allowed_at}
use Rattle.component_law.specs.Sent.{IsSentByRun}
use Rattle.exchange_law.specs.Sent.{HasSent}
use Rattle.file_simulation.specs.Claim.{IsOfScenario}
use Rattle.file_simulation.specs.Components.{object_on}
use Rattle.file_simulation.proofs.Fronts.{scenario_before}
use Rattle.relation_law.specs.ComponentsFollow.{EachWriteHasItsPlace}
use Rattle.relation_law.specs.DriveHearing.{IsPerformed, IsOfServer, IsOfSender}
use Rattle.relation_law.proofs.ComponentsGuesses.{none_is_guessed}
use Rattle.relation_law.proofs.ComponentsMoved.{MovedLaws}
use Rattle.relation_law.proofs.ComponentsSenders.{drive_sent, server_sent, client_sent}
use Rattle.relation_law.proofs.DriveObjects.{Leaves, writes, sets_tag, sets_attr, creates, creates_none, rests}
use Rattle.relation_law.proofs.DriveReads.{spent_read}
use Rattle.headline_law.proofs.OweBecomes.{Becomes, Stays, Fails, Performs, becomes}
use Rattle.headline_law.proofs.OweDrives.{HaveSenders, sender_of}

-- what becomes of object o of drive d
pub data Turned (w v : World) (d o : ℕ) : Type 0 where
  Same : object_on (at_number v.drives d) o ≡ object_on (at_number w.drives d) o → Turned w v d o
  Gone : object_on (at_number v.drives d) o ≡ None → Turned w v d o
  Makes : (x : Command) (of : IsOfServer w d x) → of.command.object ≡ o → of.command.action ≡ action.Create →
      object_on (at_number w.drives d) o ≡ None →
      object_on (at_number v.drives d) o ≡ Some (created of.command.capability.tag x.payload (lane_for x 0)) → Turned w v d o
  Writes : (x : Command) (of : IsOfServer w d x) → of.command.object ≡ o → of.command.action ≡ action.Write →
      (b : StoredObject) → object_on (at_number w.drives d) o ≡ Some b →
      object_on (at_number v.drives d) o ≡ Some (after_write of.command.offset of.command.payload (lane_for x 0) b) →
      (IsSpent (at_number w.drives d) of.command → ⊥) → Turned w v d o
  Sets : (x : Command) (of : IsOfServer w d x) → of.command.object ≡ o →
      (of.command.action ≡ action.SetTag) ⊎ (of.command.action ≡ action.SetAttr) → (b c : StoredObject) →
      object_on (at_number w.drives d) o ≡ Some b → object_on (at_number v.drives d) o ≡ Some c → (n : ℕ) →
      c.lanes ≡ with_lane b.lanes (lane_for x n) → Turned w v d o

module _ (laws : MovedLaws) (places : EachWriteHasItsPlace) (w : World) (h : List Line) (k : IsMoment w h) (m : Move)
    (is_due : due (plan_at k) w ≡ Some m.action) (later : IsOfScenario (h ++ lines_in w m))
    (clean : unguessed (h ++ lines_in w m) ≡ true) where
  abbrev v : World
  v = (move w m).world

  pub scenario : IsOfScenario h
  scenario = scenario_before h (lines_in w m) later

  run : IsSentByRun w
  run = laws.made.run w h k (are_named h scenario.written)

  have_senders : HaveSenders w
  have_senders b d a x i to reads p = by b.from refl
    where
      by : (from : Node) → b.from ≡ from → (n : Node) × IsOfSender w d x n
      by (node.Client c) from = (node.Client c, client_sent laws.senders w h k scenario run b d c a x i from to reads p)
      by node.Server from = (
        node.Server,
        server_sent laws.senders w h k scenario run (places w h k scenario) b d x i from to reads,
      )
      by (node.Drive e) from = absurd (drive_sent laws.senders w h k scenario run b d e i from to)

  module _ (d o : ℕ) (alone : (c e : ℕ) (x : Command) → HasSent w c e x → x.object ≡ o → ⊥) where
    -- a command is performed
    module _ (a : DriveAt) (x : Command) (p : IsPerformed w d a x) (own : x.object ≡ o)
        (there : at_number v.drives d ≡ Some (record a { state = performed a.state x })) where
      is_free : IsFree a.state x
      is_free = free a.state a.clock x p.clear

      before_at : object_on (at_number w.drives d) o ≡ object_at a.state.store x.object
      before_at = ap (λ (q : Option DriveAt). object_on q o) p.there ∙ ap (object_at a.state.store) (sym own)

      behind_at : object_on (at_number v.drives d) o ≡ object_at (performed a.state x).store x.object
      behind_at =
          ap (λ (q : Option DriveAt). object_on q o) there ∙ ap (object_at (performed a.state x).store) (sym own)

      same_if : (x.action ≡ action.Read) ⊎ (x.action ≡ action.GetAttr) → Turned w v d o
      same_if reads = Same (behind_at ∙ rests a.state x reads x.object ∙ sym before_at)

      module _ (of : IsOfServer w d x) where
        its : of.command.object ≡ o
        its = sym of.reads.object ∙ own

        unspent : IsSpent (at_number w.drives d) of.command → ⊥
        unspent spent =
            not_spent a x p.hears is_free
            (subst (λ (q : Option DriveAt). IsSpent q x) p.there
            (spent_read (at_number w.drives d) of.command x of.reads spent))

        by_action : (y : Action) → x.action ≡ y → Turned w v d o
        by_action action.Create e =
            Makes x of its (sym of.reads.action ∙ e) (before_at ∙ creates_none a.state x e is_free)
            (behind_at ∙ creates a.state x e
            ∙ ap (λ (n : ℕ). Some (created n x.payload (lane_for x 0))) of.reads.tag)
        by_action action.Read e = same_if (inl e)
        by_action action.Write e =
            let l : Leaves a.state x (after_write x.offset x.payload (lane_for x 0)) = writes a.state x e is_free in
            Writes x of its (sym of.reads.action ∙ e) l.before (before_at ∙ l.there)
            (behind_at ∙ l.behind
            ∙ ap (λ (n : ℕ). Some (after_write n x.payload (lane_for x 0) l.before)) (of.reads.offset e)
            ∙ ap (λ (bs : List ℕ). Some (after_write of.command.offset bs (lane_for x 0) l.before)) of.reads.payload)
            unspent
        by_action action.GetAttr e = same_if (inr e)
        by_action action.SetAttr e =
            let l = sets_attr a.state x e is_free in
            Sets x of its (inr (sym of.reads.action ∙ e)) l.before
            (after_set_attr x.attribute x.payload (lane_for x 0) l.before) (before_at ∙ l.there) (behind_at ∙ l.behind) 0 refl
        by_action action.SetTag e =
            let l = sets_tag a.state x e is_free in
            Sets x of its (inl (sym of.reads.action ∙ e)) l.before
            (after_set_tag (lane_for x (next_tag (object_at a.state.store x.object))) l.before) (before_at ∙ l.there)
            (behind_at ∙ l.behind) (next_tag (object_at a.state.store x.object)) refl

      by_sender : (from : Node) → IsOfSender w d x from → Turned w v d o
      by_sender (node.Client c) of = absurd (alone c d of.command of.sent (sym of.reads.object ∙ own))
      by_sender node.Server of = by_action of x.action refl
      by_sender (node.Drive e) of = absurd of

    by_becomes : Becomes w v.drives m.action d o → Turned w v d o
    by_becomes (Stays same) = Same same
    by_becomes (Fails failed none) = Gone none
    by_becomes (Performs a x p own there comes) =
        let r =
        sender_of w m.action have_senders (none_is_guessed w h k m (next_moment w h k m is_due) clean) d a x p comes in
        by_sender a x p own there r.0 r.1

    pub turned : Turned w v d o
    turned = by_becomes (becomes w m.action d o m.chosen (allowed_at w h k m.action is_due))
