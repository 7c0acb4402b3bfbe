-- Behind a move of a calm history what isn't made yet is of a file that isn't ready, and CREATEs are under the first tag.
-- Towards `ComponentsGoOn` (`specs/Steps.antt`).
use Rattle.std.proofs.Common.{◌≡◌, ◌≤◌, ◌||◌, ℕ, Bool, true, false, List, [], slice_get, Option, Some, None, sym, ap, subst, ◌∙◌, arith}
use Rattle.osd_commands.specs.declared.commands.Command.{Command}
use Rattle.osd_objects.specs.Store.{object_at}
use Rattle.osd_objects.specs.declared.object.StoredObject.{StoredObject}
use Rattle.scenario_text.specs.declared.line.Line.{Line}
use Rattle.server_rules.specs.Files.{file_at}
use Rattle.server_rules.specs.History.{state_after}
use Rattle.server_rules.specs.Laws.{In}
use Rattle.server_rules.specs.Making.{new_server}
use Rattle.server_rules.specs.Messages.{counters_have_room}
use Rattle.server_rules.proofs.Members.{in_map}
use Rattle.world_history.specs.ServerNames.{File, Component, Server}
use Rattle.world_history.specs.State.{World, DriveAt, at_number}
use Rattle.world_history.specs.History.{OneEventMore}
use Rattle.history_law.proofs.Files.{in_at}
use Rattle.history_law.specs.BookMoments.{IsMoment}
use Rattle.history_law.specs.Unforged.{AreUnforged}
use Rattle.history_law.specs.Holder.{UnforgedHolderIsServer}
use Rattle.history_law.specs.Reaching.{has_reached, has_tag, reached_in}
use Rattle.component_law.proofs.NamedLines.{are_named}
use Rattle.exchange_law.specs.Counters.{ServerIsCounted}
use Rattle.exchange_law.specs.Files.{AllFilesFit}
use Rattle.component_law.specs.First.{CreatesAreFirst}
use Rattle.component_law.specs.Objects.{objects_of}
use Rattle.component_law.specs.Sent.{IsSentByRun, ServerSentItsRun}
use Rattle.component_law.specs.Standing.{EachStepStands}
use Rattle.component_law.specs.Tagged.{NoCommandIsAhead}
use Rattle.component_law.proofs.BirthRuns.{firsts_over, none_is_earlier}
use Rattle.component_law.proofs.StandRuns.{starts}
use Rattle.component_law.specs.Origin.{EachTagWasSent}
use Rattle.component_law.proofs.LeastLaw.{stand_at, reached_there}
use Rattle.file_simulation.specs.Claim.{IsOfScenario}
use Rattle.file_simulation.specs.Components.{has_failed, object_on}
use Rattle.file_simulation.specs.Messages.{HasCommanded}
use Rattle.relation_law.specs.ComponentsBehind.{AreUnready}
use Rattle.relation_law.specs.DriveHearing.{AreFirst}
use Rattle.relation_law.proofs.ComponentsRaised.{behind_file}
use Rattle.relation_law.proofs.ComponentsUnready.{are_unready}
use Rattle.relation_law.proofs.DriveMoves.{got_in}

-- ---- what the server sent

module _ (w : World) (run : IsSentByRun w) (room : counters_have_room w.server ≡ true) (f : File)
    (there : file_at w.server.files f.kept.number ≡ Some f) where
  room_run : counters_have_room (state_after (new_server []) run.acts) ≡ true
  room_run = ap counters_have_room (sym run.server) ∙ room

  in_run : In f (state_after (new_server []) run.acts).files
  in_run = subst (λ (s : Server). In f s.files) run.server (in_at w.server.files f.kept.number f there)

  -- it isn't under an earlier tag than the first of the file to an object of which it goes
  pub none_is_earlier_in : (d k : ℕ) (x : Command) (at : Component) → HasCommanded w d x →
      slice_get f.kept.components k ≡ Some at → x.object ≡ at.object → f.kept.first_tag ≤ x.capability.tag
  none_is_earlier_in d k x at sent found object =
      none_is_earlier run.acts run.turns room_run f in_run d x (run.sends d x sent)
      (subst (λ (o : ℕ). In o (objects_of f.kept.components)) (sym object)
      (in_map (λ (y : Component). y.object) at f.kept.components (got_in f.kept.components k at found)))

  -- as long as the file isn't ready, all of it is under the first tag
  pub are_first : NoCommandIsAhead → AreFirst w f
  are_first ahead d k x at unready found sent create object =
      let low = none_is_earlier_in d k x at sent found object in
      let high = behind_file ahead w run f there d k x at sent found object in
      let first = firsts_over (new_server []) false run.acts starts run.turns room_run f in_run unready in
      omega (arith, low, high.0, first)

-- ---- what was made

-- an object that isn't there, on a drive that hasn't failed, has reached no tag
unreached : (o : Option DriveAt) (object tag : ℕ) → has_failed o ≡ false → object_on o object ≡ None →
    has_reached object tag o ≡ true → ⊥
unreached None object tag lives none e = cc e
unreached (Some a) object tag lives none e =
    by (object_at a.state.store object) none
    (sym (ap (λ (b : Bool). b || has_tag tag (object_at a.state.store object)) lives) ∙ e)
  where
    by : (q : Option StoredObject) → q ≡ None → has_tag tag q ≡ true → ⊥
    by None is x = cc x
    by (Some y) is x = cc is

lives_in : (a b : Bool) → (a || b) ≡ false → b ≡ false
lives_in true b e = absurd (cc e)
lives_in false b e = e

-- what is known of histories, for the tags of objects
pub record MadeLaws : Type 0 where
  pub more : OneEventMore
  pub run : ServerSentItsRun
  pub given : EachTagWasSent
  pub ahead : NoCommandIsAhead
  pub fits : AllFilesFit
  pub counted : ServerIsCounted
  pub holder : UnforgedHolderIsServer
  pub stands : EachStepStands
  pub first : CreatesAreFirst

pub unready_at : MadeLaws → (v : World) (h : List Line) → IsMoment v h → IsOfScenario h → AreUnforged h → (g : File) →
    file_at v.server.files g.kept.number ≡ Some g → AreUnready v g
unready_at l v h k scenario fair g there =
    let i : In g v.server.files = in_at v.server.files g.kept.number g there in
    let all =
    stand_at l.run l.given l.ahead l.fits l.counted l.holder l.stands l.first l.more v h k (are_named h scenario.written)
    scenario.text scenario.few fair g i in
    are_unready (reached_in h) v g all (λ n at found lost none reached.
    unreached (at_number v.drives at.drive) at.object g.kept.tag
    (lives_in at.missing (has_failed (at_number v.drives at.drive)) lost) none
    (reached_there l.run l.given l.ahead l.fits l.counted l.holder l.stands l.first l.more v h k scenario.text scenario.few g i
    at (got_in g.kept.components n at found) reached))
