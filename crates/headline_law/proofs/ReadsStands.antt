-- What a drive performs of what a client's call awaits goes to the component of its ask, if it goes to an object of a present one
-- (`stands` of `AwaitWell`, `relation_law/specs/ReadsDrive.antt`).
use Rattle.std.proofs.Common.{◌≡◌, ◌||◌, ℕ, Bool, true, false, List, Some, slice_get, refl, sym, ap, subst, ◌∙◌, arith}
use Rattle.std.proofs.lemmas.Option.{slice_get_within}
use Rattle.scenario_text.specs.declared.line.Line.{Line}
use Rattle.server_rules.specs.Files.{file_at}
use Rattle.world_history.specs.ClientNames.{Awaited}
use Rattle.world_history.specs.ServerNames.{File}
use Rattle.world_history.specs.State.{World, DriveAt, at_number}
use Rattle.world_history.specs.Sending.{Move}
use Rattle.world_history.specs.Stripes.{component_at}
use Rattle.exchange_law.specs.Sent.{IsBacked}
use Rattle.plan_law.specs.FileLayout.{position_in}
use Rattle.fence_law.specs.State.{Layout, State}
use Rattle.file_simulation.specs.Components.{has_failed}
use Rattle.relation_law.specs.DriveHearing.{IsPerformed}
use Rattle.relation_law.specs.ReadsDrive.{IsAwaitedBy, StandsThere}
use Rattle.relation_law.specs.Steps.{FollowsWhole}
use Rattle.relation_law.proofs.ComponentsMoved.{MovedLaws, laid, scenario}
use Rattle.relation_law.proofs.ComponentsWorld.{awaited_by}
use Rattle.relation_law.proofs.DriveFinding.{IsAt, found}
use Rattle.headline_law.specs.Reads.{EachAwaitStands, EachAwaitIsThere, EachAskIsPlaced}
use Rattle.headline_law.proofs.SentHeld.{component_is}
use Rattle.headline_law.proofs.SentUntouched.{is_backed}

-- a drive that hears hasn't failed
hears_on : (failed down : Bool) → (failed || down) ≡ false → failed ≡ false
hears_on true down e = absurd (cc e)
hears_on false down e = refl

module _ (laws : MovedLaws) (w : World) (h : List Line) (m : Move) (f g : File) (s : State) (k : FollowsWhole w h m f g s)
    (c d : ℕ) (at : DriveAt) (a : Awaited) (by : IsAwaitedBy w f c a) (same : a.drive ≡ d) (p : IsPerformed w d at a.command)
    (n : ℕ) (there : component_at d a.command.object f.kept.components 0 ≡ Some n)
    (placed : position_in f.kept.map a.ask.component ≡ a.ask.position) where
  its : IsAt f.kept.components d a.command.object n
  its = found d a.command.object f.kept.components n there

  backed : IsBacked a.command
  backed =
      is_backed laws w h k.follows.moment (scenario laws w h m f g s k) c a.drive a.command
      (awaited_by laws.known w h k.follows.moment (scenario laws w h m f g s k).few c by.call (at_number w.clients c) refl by.is a
      by.awaits)

  -- the present component is the one of the ask
  asked : a.ask.component ≡ n
  asked =
      component_is laws.held laws.fresh w h k.follows.moment (scenario laws w h m f g s k) c by.call by.is a by.awaits backed f
      (subst (λ (i : ℕ). file_at w.server.files i ≡ Some f) (sym by.here) k.follows.there) n its.component its.there
      its.object_is

  found_there : slice_get f.kept.components a.ask.component ≡ Some its.component
  found_there = ap (slice_get f.kept.components) asked ∙ its.there

  lives : has_failed (at_number w.drives its.component.drive) ≡ false
  lives =
      ap (λ (i : ℕ). has_failed (at_number w.drives i)) its.drive ∙ ap has_failed p.there ∙ hears_on at.failed at.down p.hears

  stands_there : StandsThere s f a
  stands_there = record {
    component = its.component;
    there = found_there;
    drive = its.drive ∙ sym same;
    object = its.object_is;
    found = ap (λ (i : ℕ). component_at i a.command.object f.kept.components 0) same ∙ there
        ∙ ap (λ (i : ℕ). Some i) (sym asked);
    stands = (k.follows.related.components a.ask.component its.component found_there).lost
        ∙ ap (λ (b : Bool). b || has_failed (at_number w.drives its.component.drive)) its.present ∙ lives;
    inside =
        let within = slice_get_within f.kept.components a.ask.component its.component found_there in
        let many = (laid laws w h m f g s k).components in
        let layout = ap (λ (y : Layout). y.components) k.follows.related.layout in
        omega (arith, within, many, layout);
    position = ap (λ (y : Layout). y.position a.ask.component) k.follows.related.layout ∙ placed;
  }

-- What clients await stands where drives perform it.
pub await_stands : MovedLaws → EachAwaitIsThere → EachAskIsPlaced → EachAwaitStands
await_stands laws there placed w h m f g s k c d at a by same p =
    let x = there w h m f g s k c d at a by same p in
    stands_there laws w h m f g s k c d at a by same p x.0 x.1 (placed w h m f g s k c a by)
