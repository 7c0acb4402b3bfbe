-- What a rebuild made anew in a move of the server stands behind it as the machine has it.
-- Towards `EachRebuiltStands` (`relation_law/specs/ComponentsFollow.antt`).
use Rattle.std.proofs.Common.{◌≡◌, ◌||◌, ◌++◌, ℕ, ◌<◌, Bool, true, false, not, List, slice_get, Option, Some, None, refl, sym, ap, subst, ◌∙◌, arith, inr}
use Rattle.std.proofs.lemmas.Bool.{true≢false}
use Rattle.osd_lists.specs.declared.node.Node.TheVariants as node
use Rattle.osd_objects.specs.declared.object.StoredObject.{StoredObject}
use Rattle.osd_objects.specs.declared.lanes.LaneEntry.{LaneEntry}
use Rattle.osd_objects.specs.Store.{lane_or_none}
use Rattle.scenario_text.specs.declared.line.Line.{Line}
use Rattle.scenario_text.specs.declared.names.TheConstants.{CLIENTS}
use Rattle.server_rules.specs.Files.{file_at}
use Rattle.server_rules.specs.History.{Input, Hears, step}
use Rattle.server_rules.specs.Messages.{Replies}
use Rattle.world_history.specs.ServerNames.{File, Component, Note, Job, Work, Creates}
use Rattle.history_law.specs.Doing.{input_in}
use Rattle.component_law.specs.Objects.{target_in}
use Rattle.component_law.specs.Standing.{AreStanding, is_new, is_creates}
use Rattle.history_law.specs.Fencing.{Reached}
use Rattle.world_history.specs.Sending.{Move, move}
use Rattle.world_history.specs.State.{World, at_number}
use Rattle.fence_law.specs.State.{State, Event}
use Rattle.fence_law.specs.Machine.{Lawful, after_all}
use Rattle.file_simulation.specs.Components.{object_on, object_of, has_failed, is_lost_in, ObjectIs, LaneIs}
use Rattle.file_simulation.specs.Events.{joined, events_of}
use Rattle.file_simulation.specs.ServerEvents.{cells_made, server_goes}
use Rattle.relation_law.specs.ComponentsBehind.{WasRebuilt, RebuiltStands}
use Rattle.relation_law.specs.ComponentsFacts.{OfServer}
use Rattle.relation_law.specs.ComponentsFollow.{EachRebuiltStands}
use Rattle.relation_law.specs.KeptSteps.{first_of, notes_events}
use Rattle.relation_law.specs.Steps.{FollowsWhole, owed, whole_behind}
use Rattle.relation_law.proofs.ComponentsGoOn.{alike, events_are, goes_there}
use Rattle.relation_law.proofs.ComponentsWorld.{awaited_are_sent}
use Rattle.relation_law.proofs.KeptInputs.{IsNoRequest}
use Rattle.relation_law.proofs.ComponentsMoved.{server_needs}
use Rattle.relation_law.proofs.ComponentsMoves.{told_then}
use Rattle.relation_law.proofs.DriveStays.{IsAlike}
use Rattle.relation_law.proofs.KeptLines.{plain_joined}
use Rattle.relation_law.proofs.OwnedBefore.{fit}
use Rattle.headline_law.specs.TargetLaws.{WasTarget, NoClientAt}
use Rattle.headline_law.proofs.TargetBefore.{job_with, scenario, in_before, code, right, well, is_still}
use Rattle.headline_law.proofs.TargetStands.{RebuiltLaws, was_target, tag_is, cells_are}
use Rattle.headline_law.proofs.TargetMachine.{steady_here, IsMadeAnew, made_all}

-- whether an object has reached a tag doesn't matter here
abbrev every : Reached
every drive object tag = true

either_false : (a b : Bool) → (a || b) ≡ false → (a ≡ false) × (b ≡ false)
either_false false false e = (refl, refl)
either_false false true e = absurd (cc e)
either_false true b e = absurd (cc e)

module _ (laws : RebuiltLaws) (w : World) (h : List Line) (m : Move) (f g : File) (s : State)
    (k : FollowsWhole w h m f g s) where
  module _ (i : Input) (comes : input_in w m.action ≡ Some i) where
    module _ (n : ℕ) (at : Component) (there : slice_get g.kept.components n ≡ Some at)
        (was : WasRebuilt f (step w.server m.chosen i).notes n at) (stands : (whole_behind k).lost n ≡ false) where
      -- the machine's step and the component
      goes : file_at (step w.server m.chosen i).state.files f.kept.number ≡ Some g
      goes =
          goes_there w h m f g s k.follows.moment k.follows.is_due k.follows.there k.follows.run k.follows.related i comes
          k.follows.goes

      same_events : joined (events_of s w (owed k.follows.related) f m)
          ≡ joined (server_goes s w (step w.server m.chosen i) i (Some f) (Some g))
      same_events =
          events_are w h m f g s k.follows.moment k.follows.is_due k.follows.there k.follows.run k.follows.related i comes
          k.follows.goes

      of : OfServer w (move w m).world f g i
      of = server_needs laws.moved w h m f g s k i comes

      alike_ : IsAlike w (move w m).world
      alike_ =
          alike w h m f g s k.follows.moment k.follows.is_due k.follows.there k.follows.run k.follows.related i comes
          k.follows.goes
          (awaited_are_sent laws.moved.known w h k.follows.moment (scenario laws.target w h m f g s k.follows).few)

      is_told : (whole_behind k).lost n ≡ is_lost_in w at
      is_told =
          let told = told_then s w (move w m).world f g i m.chosen (right laws.target w h m f g s k.follows).sure.safe
          k.follows.related.components k.follows.there goes k.follows.related.kept.tag alike_ of n at there in
          ap (λ (es : List Event). (after_all s es).lost n) same_events ∙ told.lost

      parts : (at.missing ≡ false) × (has_failed (at_number w.drives at.drive) ≡ false)
      parts = either_false at.missing (has_failed (at_number w.drives at.drive)) (sym is_told ∙ stands)

      abbrev x : WasTarget i f g n at
      x = was_target laws w h m f g s k.follows i comes n at there was parts

      -- what the machine has of it
      reply_events : joined (events_of s w (owed k.follows.related) f m)
          ≡ notes_events s w f (Hears x.now (node.Drive x.drive) (Replies x.reply)) (step w.server m.chosen i).notes
      reply_events =
          same_events ∙ plain_joined s w (step w.server m.chosen i) i f g (plain i x.hears)
          ∙ as_reply i x.hears (step w.server m.chosen i).notes
        where
          plain : (y : Input) → y ≡ Hears x.now (node.Drive x.drive) (Replies x.reply) → IsNoRequest y
          plain y e = subst IsNoRequest (sym e) tt

          as_reply : (y : Input) → y ≡ Hears x.now (node.Drive x.drive) (Replies x.reply) → (ns : List Note) →
              first_of f g y ++ notes_events (after_all s (first_of f g y)) w f y ns
              ≡ notes_events s w f (Hears x.now (node.Drive x.drive) (Replies x.reply)) ns
          as_reply y e ns =
              ap (λ (q : Input). first_of f g q ++ notes_events (after_all s (first_of f g q)) w f q ns) e

      made_anew : IsMadeAnew s (whole_behind k) f n
      made_anew =
          let j = job_with f.job x.target x.aimed in
          let st = is_still laws.target w h m f g s k.follows j.0 j.1 x.target j.2 in
          subst (λ (es : List Event). IsMadeAnew s (after_all s es) f n) (sym reply_events)
          (made_all s (code laws.target w h m f g s k.follows) w f x.now x.drive x.reply s (step w.server m.chosen i).notes n
          (steady_here s st.fencing st.repairing) (subst (Lawful s) reply_events k.lawful)
          (inr (was.note, was.told, was.file, (at.drive, was.kind))))

      -- no client was given it
      alone : NoClientAt w x.target
      alone = (well laws.target w h m f g s k.follows laws.well).alone x.target x.aimed

      there_is : object_of (move w m).world at ≡ object_on (at_number w.drives x.target.drive) x.target.object
      there_is =
          alike_.objects at.drive at.object ∙ ap (λ (d : ℕ). object_on (at_number w.drives d) at.object) x.place
          ∙ ap (object_on (at_number w.drives x.target.drive)) x.object

      lane_none : (c : ℕ) (l : LaneEntry) → c < CLIENTS → lane_or_none (object_of (move w m).world at) c ≡ Some l → ⊥
      lane_none c l below is = by_object (object_on (at_number w.drives x.target.drive) x.target.object) refl
        where
          by_object : (o : Option StoredObject) → object_on (at_number w.drives x.target.drive) x.target.object ≡ o → ⊥
          by_object None none =
              cc (sym (ap (λ (y : Option StoredObject). lane_or_none y c) (there_is ∙ none)) ∙ is)
          by_object (Some o) some =
              alone.lanes c o l below some
              (sym (ap (λ (y : Option StoredObject). lane_or_none y c) (there_is ∙ some)) ∙ is)

      ready : f.kept.ready ≡ true
      ready =
          let j = job_with f.job x.target x.aimed in
          by_down j.0 j.1 j.2 w.down
          (fit laws.target.join.world w h k.follows.moment (scenario laws.target w h m f g s k.follows)).stands.standing
        where
          not_new : (work : Work) → target_in work ≡ Some x.target → is_creates work ≡ false
          not_new Creates e = absurd (cc e)
          not_new work e = refl

          not_ready : (b : Bool) → false ≡ not b → b ≡ true
          not_ready true e = refl
          not_ready false e = absurd (cc e)

          by_down : (j : Job) → f.job ≡ Some j → target_in j.work ≡ Some x.target → (down : Bool) →
              AreStanding down every w.server.files → f.kept.ready ≡ true
          by_down j runs aim true all =
              absurd (cc (sym runs ∙ (all f (in_before laws.target w h m f g s k.follows)).quiet))
          by_down j runs aim false all =
              not_ready f.kept.ready (sym (ap is_new runs ∙ not_new j.work aim)
              ∙ (all f (in_before laws.target w h m f g s k.follows)).makes)

      object_is : (o : Option StoredObject) → object_of (move w m).world at ≡ o → ObjectIs (whole_behind k) g n at o
      object_is None none =
          let lost : is_lost_in (move w m).world at ≡ false =
          ap (λ (b : Bool). at.missing || b) (alike_.failed at.drive) ∙ sym is_told ∙ stands in
          absurd (true≢false (sym ready ∙ x.ready (of.unready n at there lost none).unready))
      object_is (Some o) some =
          let is : object_on (at_number w.drives x.target.drive) x.target.object ≡ Some o = sym there_is ∙ some in
          record {
            tag =
                made_anew.tag ∙ k.follows.related.kept.tag
                ∙ sym (tag_is laws w h m f g s k.follows i comes n at there was parts o is);
            cells = λ z.
                made_anew.cells z
                ∙ ap (λ (c : ℕ). cells_made s f.kept.map f.kept.high c z) x.component
                ∙ cells_are laws w h m f g s k.follows i comes n at there was parts o is z;
          }

      lane_is : (c : ℕ) → c < CLIENTS → (l : Option LaneEntry) → lane_or_none (object_of (move w m).world at) c ≡ l →
          LaneIs (move w m).world (whole_behind k) n c at.object l
      lane_is c below None none =
          λ d y sent write object. absurd (alone.sent c d y (alike_.sent c d y below sent) (object ∙ x.object))
      lane_is c below (Some l) some = absurd (lane_none c l below some)

      stand : RebuiltStands (whole_behind k) (move w m).world g n at
      stand = record {
        stands = record {
          object = object_is (object_of (move w m).world at) refl;
          lane = λ c below. lane_is c below (lane_or_none (object_of (move w m).world at) c) refl;
          raised = λ next.
              let rises = of.rises in
              absurd (omega (arith, next, made_anew.tag, k.follows.related.kept.tag, rises));
        };
        lanes = lane_none;
      }

pub each_rebuilt_stands : RebuiltLaws → EachRebuiltStands
each_rebuilt_stands laws w h m f g s k i comes n at there was stands =
    stand laws w h m f g s k i comes n at there was stands
