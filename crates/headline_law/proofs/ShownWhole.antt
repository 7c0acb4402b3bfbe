-- What the lines show of a file behind a whole move: its map, and its components as they stand in the world.
use Rattle.std.proofs.Common.{◌≡◌, ℕ, ◌++◌, List, Bool, true, false, ◌||◌, Option, Some, None, slice_get, get_or, refl, sym, ap, subst, ◌∙◌, arith}
use Rattle.std.proofs.lemmas.Option.{same_Some}
use Rattle.osd_objects.specs.declared.object.StoredObject.{StoredObject}
use Rattle.osd_objects.specs.Store.{bytes_or_none}
use Rattle.scenario_text.specs.declared.line.Line.{Line}
use Rattle.server_rules.specs.Files.{file_at}
use Rattle.server_rules.specs.Grants.{grant_of}
use Rattle.server_rules.specs.Laws.{In}
use Rattle.server_rules.specs.Numbers.{among}
use Rattle.world_history.specs.Calm.{moment_of, first_seen}
use Rattle.world_history.specs.Reading.{steps_of}
use Rattle.world_history.specs.History.{OneEventMore}
use Rattle.world_history.specs.ReadDrives.{drive_after}
use Rattle.world_history.specs.Sending.{Move, move}
use Rattle.world_history.specs.ServerNames.{Server, File, Component, Grant, Phase, Still, Fencing, Repairing, FencingAgain}
use Rattle.world_history.specs.State.{World, DriveAt, at_number}
use Rattle.world_history.specs.Stripes.{is_lost}
use Rattle.history_law.specs.BookMoments.{IsMoment, lines_in}
use Rattle.history_law.specs.Grants.{GrantsAreSafe}
use Rattle.history_law.specs.Read.{BookIsRead}
use Rattle.server_rules.proofs.FileLaws.{safe_at}
use Rattle.component_law.proofs.Server.{found_own}
use Rattle.exchange_law.proofs.CountMoments.{reached}
use Rattle.history_law.proofs.DriveLines.{drive_read}
use Rattle.history_law.proofs.Ending.{at_moment}
use Rattle.component_law.proofs.Failed.{failed_seen}
use Rattle.component_law.proofs.Failed as failed
use Rattle.component_law.proofs.SeenServer.{seen_server}
use Rattle.fence_law.specs.State as machine
use Rattle.fence_law.specs.State.{State}
use Rattle.file_simulation.specs.Claim.{IsOfScenario, byte_stored}
use Rattle.file_simulation.specs.Components.{has_failed, is_lost_in, object_on, object_of, ObjectIs, AreComponents}
use Rattle.file_simulation.specs.Phases.{IsKept, PhaseIs, OutstandingIs}
use Rattle.file_simulation.specs.Showing.{IsRun, ShowsComponent}
use Rattle.file_simulation.specs.Simulation.{EarlierAreOver}
use Rattle.relation_law.specs.Growing.{DrivesGrow}
use Rattle.relation_law.specs.Steps.{FollowsWhole, whole_behind}
use Rattle.relation_law.proofs.FramesFiles.{file_stays}
use Rattle.relation_law.proofs.Followed as followed
use Rattle.headline_law.specs.Parts.{SameShown}
use Rattle.headline_law.proofs.CalmCodes.{server_shown}
use Rattle.headline_law.proofs.GrantTags.{run_numbered}
use Rattle.headline_law.proofs.ShownFailed.{failed_have}

-- ---- an object

-- the byte that is stored is that of the object
pub stored_is : (o : Option DriveAt) (object z : ℕ) → byte_stored o object z ≡ get_or (bytes_or_none (object_on o object)) z 0
stored_is None object z = refl
stored_is (Some a) object z = refl

-- so the machine has the bytes that are stored, where it has the object or what stands for it
pub stored_object : (s : State) (w : World) (f : File) (i : ℕ) (at : Component) → ObjectIs s f i at (object_of w at) → (z : ℕ) →
    s.cell i z ≡ byte_stored (at_number w.drives at.drive) at.object z
stored_object s w f i at is z =
    by (object_of w at) is
    ∙ sym (stored_is (at_number w.drives at.drive) at.object z)
  where
    by : (o : Option StoredObject) → ObjectIs s f i at o → s.cell i z ≡ get_or (bytes_or_none o) z 0
    by None none = none.cells z
    by (Some x) there = there.cells z

-- an object that isn't there has no byte but 0
pub nothing_stored : (o : Option DriveAt) (object : ℕ) → object_on o object ≡ None → (z : ℕ) → byte_stored o object z ≡ 0
nothing_stored o object none z =
    stored_is o object z ∙ ap (λ (x : Option StoredObject). get_or (bytes_or_none x) z 0) none

-- ---- a moment

module _ (book : BookIsRead) (more : OneEventMore) (grow : DrivesGrow) (w : World) (h : List Line) (k : IsMoment w h)
    (scenario : IsOfScenario h) where
  -- the server that is read off the lines is the world's
  pub moment_server : (moment_of h).server ≡ w.server
  moment_server =
      server_shown first_seen (steps_of h) refl
      ∙ ap (λ x. x.server) (seen_server first_seen (steps_of h) ∙ book w h k scenario.written)

module _ (more : OneEventMore) (grow : DrivesGrow) (w : World) (h : List Line) (k : IsMoment w h) where
  -- each drive that is read off the lines is the world's
  pub drive_is : (d : ℕ) → drive_after h d ≡ at_number w.drives d
  drive_is d = drive_read w (at_moment w h k).read.injected h d (at_moment w h k).read.drives

  failed_there : (d : ℕ) → has_failed (at_number w.drives d) ≡ true → failed.has_failed (drive_after h d) ≡ true
  failed_there d e = subst (λ (o : Option DriveAt). failed.has_failed o ≡ true) (sym (drive_is d)) (same (at_number w.drives d) e)
    where
      same : (o : Option DriveAt) → has_failed o ≡ true → failed.has_failed o ≡ true
      same None e = e
      same (Some a) e = e

  pub failed_is : (d : ℕ) → among d (moment_of h).failed ≡ has_failed (at_number w.drives d)
  failed_is d = by (among d (moment_of h).failed) refl (has_failed (at_number w.drives d)) refl
    where
      by : (a : Bool) → among d (moment_of h).failed ≡ a → (b : Bool) → has_failed (at_number w.drives d) ≡ b → a ≡ b
      by true is true e = refl
      by false is false e = refl
      by true is false e = absurd (cc (sym e ∙ failed_have more grow w h k d is))
      by false is true e = absurd (cc (sym is ∙ failed_seen h d (failed_there d e)))

  -- a component is lost by the lines as it is in the world
  pub lost_is : (at : Component) → is_lost (moment_of h) at ≡ is_lost_in w at
  lost_is at = ap (λ b. at.missing || b) (failed_is at.drive)

  -- what the lines show of a component of which the machine has what there is
  pub shows : (s : State) (f : File) (i : ℕ) (at : Component) → AreComponents s w f → slice_get f.kept.components i ≡ Some at →
      ShowsComponent h s i at
  shows s f i at are there =
      let is = are i at there in
      record {
        lost = λ e. lost_is at ∙ sym is.lost ∙ e;
        cells = λ stands z.
            stored_object s w f i at ((is.stands (is.lost ∙ sym (lost_is at) ∙ stands)).object) z
            ∙ ap (λ o. byte_stored o at.object z) (sym (drive_is at.drive));
      }

-- ---- grants of earlier tags

-- a grant that the server keeps is outstanding in the machine, with the file's tag
pub live_tag : (s : State) (w : World) (g : File) (y : Grant) → IsKept s w.server g → In y g.kept.grants →
    grant_of g.kept.grants y.client ≡ Some y →
    (x : machine.Grant) × (s.outstanding y.client ≡ Some x) × (x.number ≡ y.number) × (x.tag ≡ s.tag)
live_tag s w g y kept i own = by_phase g.kept.phase kept.phase
  where
    by_outstanding : (o : Option machine.Grant) → s.outstanding y.client ≡ o →
        OutstandingIs g.kept.map g.kept.tag (Some y) o →
        (x : machine.Grant) × (s.outstanding y.client ≡ Some x) × (x.number ≡ y.number) × (x.tag ≡ s.tag)
    by_outstanding None there is = absurd is
    by_outstanding (Some x) there is = (x, there, is.0.number, is.1 ∙ sym kept.tag)

    by_phase : (p : Phase) → PhaseIs s g p →
        (x : machine.Grant) × (s.outstanding y.client ≡ Some x) × (x.number ≡ y.number) × (x.tag ≡ s.tag)
    by_phase Still is =
        by_outstanding (s.outstanding y.client) refl
        (subst (λ o. OutstandingIs g.kept.map g.kept.tag o (s.outstanding y.client)) own (is.outstanding y.client))
    by_phase Fencing is = absurd (subst (In y) is.live i)
    by_phase Repairing is = absurd (subst (In y) is.live i)
    by_phase FencingAgain is = absurd (subst (In y) is.live i)

-- ---- behind a whole move

pub record ShownLaws : Type 0 where
  pub book : BookIsRead
  pub more : OneEventMore
  pub grow : DrivesGrow
  pub safe : GrantsAreSafe

-- the file as the lines show it, and its components
pub record WholeShown {w : World} {h : List Line} {m : Move} {f g : File} {s : State} (k : FollowsWhole w h m f g s) (x : File) :
    Type 0 where
  pub same : SameShown f x
  pub components : (i : ℕ) (at : Component) → slice_get x.kept.components i ≡ Some at →
      ShowsComponent (h ++ lines_in w m) (whole_behind k) i at

module _ (laws : ShownLaws) (w : World) (h : List Line) (m : Move) (f g : File) (s : State) (k : FollowsWhole w h m f g s)
    (run : IsRun (whole_behind k)) (components : AreComponents (whole_behind k) (move w m).world g)
    (kept : IsKept (whole_behind k) (move w m).world.server g) where
  abbrev v : World
  v = (move w m).world

  behind : IsMoment v (h ++ lines_in w m)
  behind = followed.behind w h m f g s k

  scenario : IsOfScenario (h ++ lines_in w m)
  scenario = followed.later w h m f g s k

  file_is : (x : File) → file_at (moment_of (h ++ lines_in w m)).server.files f.kept.number ≡ Some x → x ≡ g
  file_is x there =
      same_Some x g (sym there ∙ ap (λ (y : Server). file_at y.files f.kept.number)
      (moment_server laws.book laws.more laws.grow v (h ++ lines_in w m) behind scenario) ∙ k.follows.goes)

  pub earlier_over : EarlierAreOver (whole_behind k) g
  earlier_over j y low older i number =
      let safe = safe_at v.server.files f.kept.number g (laws.safe v (reached v (h ++ lines_in w m) behind)) k.follows.goes in
      let out = live_tag (whole_behind k) v g y kept i (found_own g.kept.grants y safe.apart i) in
      let tag = (run_numbered (whole_behind k) run).tags j low y.client out.0 out.1 (sym number ∙ sym out.2) in
      omega (arith, older, tag, out.3)

  pub whole_shown : (x : File) → file_at (moment_of (h ++ lines_in w m)).server.files f.kept.number ≡ Some x → WholeShown k x
  whole_shown x there =
      let stays = file_stays w h k.follows.moment m k.follows.is_due f.kept.number f g k.follows.there k.follows.goes in
      let is : x ≡ g = file_is x there in
      record {
        same = record {
          map = ap (λ (y : File). y.kept.map) is ∙ stays.same.map;
          first_tag = ap (λ (y : File). y.kept.first_tag) is ∙ stays.same.first_tag;
        };
        components = λ i at here.
            shows laws.more laws.grow v (h ++ lines_in w m) behind (whole_behind k) g i at components
            (subst (λ (y : File). slice_get y.kept.components i ≡ Some at) is here);
      }
