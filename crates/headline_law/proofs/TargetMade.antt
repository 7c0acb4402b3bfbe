-- What is known at each moment of what rebuilds made: the objects of their targets are there once they are read or written
-- for, no client sent anything to them, and none has a lane there.
use Rattle.std.proofs.Common.{◌≡◌, ◌||◌, ◌<◌, ◌^◌, ℕ, Bool, true, false, List, Option, Some, None, refl, sym, ap, subst, ◌∙◌, arith, inl, inr}
use Rattle.osd_objects.specs.Store.{object_at}
use Rattle.osd_objects.specs.declared.object.StoredObject.{StoredObject}
use Rattle.scenario_text.specs.declared.line.Line.{Line}
use Rattle.server_rules.specs.Laws.{In}
use Rattle.world_history.specs.Guesses.{unguessed}
use Rattle.world_history.specs.ServerNames.{File, Target}
use Rattle.world_history.specs.State.{World, DriveAt, at_number}
use Rattle.history_law.specs.BookMoments.{IsMoment}
use Rattle.history_law.specs.Reaching.{has_reached, has_tag, reached_in}
use Rattle.component_law.specs.Objects.{target_in, target_of}
use Rattle.component_law.specs.Standing.{StandsBy, is_making, makes_objects}
use Rattle.component_law.proofs.NamedLines.{are_named}
use Rattle.component_law.proofs.LeastLaw.{stand_at}
use Rattle.exchange_law.proofs.CountGrowing.{as_many}
use Rattle.exchange_law.proofs.CountMoments.{reached}
use Rattle.exchange_law.proofs.Knowing.{lawful_at}
use Rattle.exchange_law.proofs.Parts.{each_in}
use Rattle.exchange_law.proofs.Replied.{read_at}
use Rattle.exchange_law.specs.Files.{KeptFits}
use Rattle.file_simulation.specs.Claim.{IsOfScenario}
use Rattle.file_simulation.specs.Components.{object_on, has_failed}
use Rattle.history_law.proofs.DriveLines.{drive_read}
use Rattle.history_law.proofs.Ending.{fits_reached}
use Rattle.relation_law.proofs.ComponentsMoved.{MovedLaws}
use Rattle.relation_law.proofs.FramesFiles.{files_distinct}
use Rattle.relation_law.proofs.KeptServer.{at_place}
use Rattle.relation_law.proofs.OwnedBefore.{OwnedLaws, owns}
use Rattle.headline_law.specs.TargetLaws.{EachTargetIsWellMade, TargetsAreMade, EachTargetIsInside, EachFillStands, NoLanesAtTargets}
use Rattle.headline_law.proofs.SentUntouched.{are_unaimed, is_backed}

-- a drive that hasn't failed has an object that has reached a tag
pub there_if : (o : Option DriveAt) (object tag : ℕ) → has_failed o ≡ false → has_reached object tag o ≡ true →
    (x : StoredObject) × (object_on o object ≡ Some x)
there_if None object tag lives e = absurd (cc e)
there_if (Some a) object tag lives e =
    by (object_at a.state.store object) refl
    (sym (ap (λ (b : Bool). b || has_tag tag (object_at a.state.store object)) lives) ∙ e)
  where
    by : (q : Option StoredObject) → object_at a.state.store object ≡ q → has_tag tag q ≡ true →
        (x : StoredObject) × (object_on (Some a) object ≡ Some x)
    by None is x = absurd (cc x)
    by (Some y) is x = (y, is)

module _ (laws : MovedLaws) (w : World) (h : List Line) (k : IsMoment w h) (scenario : IsOfScenario h)
    (clean : unguessed h ≡ true) (f : File) (here : In f w.server.files) where
  world : OwnedLaws
  world = record { more = laws.made.more; counters = laws.room; ahead = laws.made.ahead }

  -- what is reached of a target's object is so at its drive
  pub reached_now : (t : Target) → target_of f.job ≡ Some t → reached_in h t.drive t.object f.kept.tag ≡ true →
      has_reached t.object f.kept.tag (at_number w.drives t.drive) ≡ true
  reached_now t aim e =
      let read = read_at w h k in
      let fits : KeptFits w.server.next_object f.kept =
      each_in (λ (y : File). KeptFits w.server.next_object y.kept) w.server.files f (laws.made.fits w h k scenario.text)
      here in
      let owned = ((owns world w h k scenario).1 f here).target t aim in
      let next : w.server.next_object < 2 ^ 64 =
      omega (arith, (laws.made.counted w h k scenario.text).objects, as_many w h read, scenario.few) in
      subst (λ (o : Option DriveAt). has_reached t.object f.kept.tag o ≡ true)
      (drive_read w read.injected h t.drive read.drives)
      (fits_reached t.object f.kept.tag _ (omega (arith, owned.0, next)) (omega (arith, fits.tag)) e)

  pub stands_now : StandsBy w.down (reached_in h) f
  stands_now =
      stand_at laws.made.run laws.made.given laws.made.ahead laws.made.fits laws.made.counted laws.made.holder
      laws.made.stands laws.made.first laws.made.more w h k (are_named h scenario.written) scenario.text scenario.few
      (laws.unforged h (lawful_at w h k) clean) f here

  pub targets_are_made : TargetsAreMade w f
  targets_are_made j t todo runs works lives = by_down w.down stands_now
    where
      no_making : is_making f.job ≡ false
      no_making = ap is_making runs ∙ elim works [
        | inl is ↦ ap makes_objects is
        | inr is ↦ ap makes_objects is
      ]

      aim : target_of f.job ≡ Some t
      aim = ap target_of runs ∙ elim works [ inl is ↦ ap target_in is | inr is ↦ ap target_in is ]

      by_down : (down : Bool) → StandsBy down (reached_in h) f →
          (o : StoredObject) × (object_on (at_number w.drives t.drive) t.object ≡ Some o)
      by_down true left = absurd (cc (sym left.quiet ∙ runs))
      by_down false stands = elim (stands.target t aim) [
        | inl creating ↦ absurd (stands.quiet no_making creating.0 creating.1 creating.2.action)
        | inr reached_ ↦
            there_if (at_number w.drives t.drive) t.object f.kept.tag lives (reached_now t aim reached_)
      ]

-- each target is well made, where it is inside, fills stand, and no client has a lane there
pub each_target_is_well_made : MovedLaws → EachTargetIsInside → EachFillStands → NoLanesAtTargets → EachTargetIsWellMade
each_target_is_well_made laws inside stand lanes w h k scenario clean f here = record {
  inside = inside w h k scenario f here;
  stand = stand w h k scenario clean f here;
  made = targets_are_made laws w h k scenario clean f here;
  alone = λ t aim. record {
    sent = λ c d x has object.
        (are_unaimed laws w h k scenario c d x has (is_backed laws w h k scenario c d x has)).none f.kept.number f t
        (at_place w.server.files f (files_distinct w (reached w h k)) here) aim (sym object);
    lanes = lanes w h k scenario clean f here t aim;
  };
}
