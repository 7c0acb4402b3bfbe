-- At a cut inside a step of the server the lines show the file that is behind the whole step, and the machine its components.
-- `ServersShowFiles` and `ServersShowComponents` (`specs/Parts.antt`).
use Rattle.std.proofs.Common.{◌≡◌, ◌||◌, ◌+◌, ◌-◌, ◌++◌, ℕ, Bool, false, nat_lt, List, [], take, slice_get, get_or, Option, Some, None, refl, sym, ap, subst, ◌∙◌, inl, inr, arith, if◌then◌else◌}
use Rattle.std.specs.Prelude.{drop}
use Rattle.std.proofs.lemmas.Bool.{le-ltb}
use Rattle.osd_lists.proofs.Tests.{first_false, second_false}
use Rattle.osd_objects.specs.Store.{bytes_or_none}
use Rattle.osd_objects.specs.declared.object.StoredObject.{StoredObject}
use Rattle.scenario_text.specs.declared.line.Line.{Line}
use Rattle.server_rules.specs.Files.{Step, file_at}
use Rattle.server_rules.specs.History.{Input, step}
use Rattle.server_rules.specs.Numbers.{among}
use Rattle.world_history.specs.ServerNames.{File, Component, Note, Server}
use Rattle.world_history.specs.State.{World, DriveAt, at_number}
use Rattle.world_history.specs.Sending.{Move, move}
use Rattle.world_history.specs.Book.{server_behind, step_by}
use Rattle.world_history.specs.Calm.{Seen, moment_of}
use Rattle.world_history.specs.ReadDrives.{drive_after}
use Rattle.world_history.specs.Laws.{ServerGoesOn, AllLinesGoOn}
use Rattle.world_history.specs.Stripes.{is_lost}
use Rattle.history_law.specs.Moments.{IsMoment, lines_in}
use Rattle.history_law.specs.Doing.{input_in, did_in}
use Rattle.history_law.specs.Placed.{IsReadable}
use Rattle.history_law.proofs.BookMoments.{server_is_readable}
use Rattle.history_law.proofs.Ending.{next_moment}
use Rattle.history_law.proofs.Inputs.{placer_leaves_kept}
use Rattle.history_law.proofs.Staying.{written_front}
use Rattle.component_law.specs.Distinct.{AreDistinct}
use Rattle.component_law.specs.Sent.{IsSentByRun}
use Rattle.component_law.specs.Sound.{IsSound}
use Rattle.component_law.proofs.NamedLines.{are_named}
use Rattle.exchange_law.proofs.CountMoments.{reached}
use Rattle.fence_law.specs.State.{State, Event}
use Rattle.fence_law.specs.Machine.{after_all}
use Rattle.file_simulation.specs.Claim.{IsOfScenario, byte_stored}
use Rattle.file_simulation.specs.Components.{has_failed, is_lost_in, object_on}
use Rattle.file_simulation.specs.Cuts.{lines_before, notes_behind, rebuilt_ahead}
use Rattle.file_simulation.specs.DriveEvents.{drive_events}
use Rattle.file_simulation.specs.EventLists.{Lines}
use Rattle.file_simulation.specs.Events.{joined, events_of}
use Rattle.file_simulation.specs.ServerEvents.{at_first, cells_made, notes_all}
use Rattle.file_simulation.specs.Showing.{Pairs, ShowsComponent}
use Rattle.relation_law.specs.ComponentsBehind.{WasRebuilt}
use Rattle.relation_law.specs.ComponentsWalk.{noted_after}
use Rattle.relation_law.specs.Growing.{DrivesGrow}
use Rattle.relation_law.specs.Steps.{behind, owed}
use Rattle.relation_law.proofs.ComponentsFair.{is_fair}
use Rattle.relation_law.proofs.ComponentsFiles.{aimed}
use Rattle.relation_law.proofs.ComponentsGoOn.{alike}
use Rattle.relation_law.proofs.ComponentsMoved.{sound_there}
use Rattle.relation_law.proofs.ComponentsMoves.{step_told}
use Rattle.relation_law.proofs.ComponentsNotes.{Told, WasKept, AreTold}
use Rattle.relation_law.proofs.ComponentsWorld.{awaited_are_sent}
use Rattle.relation_law.proofs.DriveStays.{IsAlike}
use Rattle.relation_law.proofs.FramesFiles.{files_distinct}
use Rattle.relation_law.proofs.KeptNotes.{after_both}
use Rattle.relation_law.proofs.FramesParties.{drive_quiet}
use Rattle.headline_law.specs.Ending.{IsStepSeen, CutsAreSeen}
use Rattle.headline_law.specs.Parts.{CutShown, ServersShowFiles, ServersShowComponents, lines_to, cut_at}
use Rattle.headline_law.specs.TargetLaws.{WasTarget}
use Rattle.headline_law.proofs.CalmServers.{Splits, splits_at}
use Rattle.headline_law.proofs.First.{AreFirst}
use Rattle.headline_law.proofs.FirstSteps.{rebuilt_is_first}
use Rattle.headline_law.proofs.OtherCutsLines.{TellAlike, begun_alike}
use Rattle.headline_law.proofs.ServerCutsNotes.{GoesDown, cut_down, cells_rebuilt}
use Rattle.headline_law.proofs.ServerJoined.{found_there, lines_are}
use Rattle.headline_law.proofs.ShownWhole.{stored_is, stored_object, drive_is, failed_is}
use Rattle.headline_law.proofs.TargetBefore.{scenario}
use Rattle.headline_law.proofs.TargetStands.{RebuiltLaws, was_target, cells_are, cells_none}

-- ---- the server that is read at a cut

module _ (w : World) (h : List Line) (m : Move) (count q : ℕ) (i : Input) (z : IsStepSeen w h m count q i) where
  server_cut : (moment_of (lines_to w h m count)).server ≡ (step w.server z.placed i).state
  server_cut =
      ap (λ (x : Seen). x.moment.server) z.seen_is
      ∙ ap (λ (o : Option Step). server_behind z.before.server.server o) z.did

-- what is known of the world where a step of the server is cut
pub record ServerFileLaws : Type 0 where
  pub server : ServerGoesOn
  pub lines : AllLinesGoOn
  pub seen : CutsAreSeen

-- The file that the lines show is the one behind the step, but for its job.
pub servers_show_files : ServerFileLaws → ServersShowFiles
servers_show_files laws w h m count f g s k i is q at x there =
    let z : IsStepSeen w h m count q i = laws.seen w h m count f g s k i is q at in
    let readable : IsReadable w.server =
    server_is_readable laws.server laws.lines w h k.moment
    (written_front h (take count (lines_in w m)) k.calm.scenario.written) in
    placer_leaves_kept w.server m.chosen z.placed i f.kept.number f g x readable k.there
    (found_there w h m count f g s k i is)
    (ap (λ (v : Server). file_at v.files f.kept.number) (sym (server_cut w h m count q i z)) ∙ there)

-- ---- the machine at a cut

-- what is known of the world, and of steps
pub record ServerCutLaws : Type 0 where
  pub rebuilt : RebuiltLaws
  pub grow : DrivesGrow

-- the notes behind a cut
dropped : (count before q : ℕ) (ns : List Note) → count ≡ before + q →
    (if nat_lt count before then [] else drop (count - before) ns) ≡ drop q ns
dropped count before q ns e =
    let less : count - before ≡ q = omega (arith, e) in
    rw (le-ltb count before (omega (arith, e)), less) refl

-- the events of the first line of a step and of the lines up to a cut
taken_so : (before count q : ℕ) (one : List Event) (ls whole : Lines) → count ≡ before + q → Splits before count one ls whole →
    joined (take count whole) ≡ one ++ joined (take q ls)
taken_so before count q one ls whole at (inl none) = absurd (omega (arith, at, none.0))
taken_so before count q one ls whole at (inr p) =
    let same : p.0 ≡ q = omega (arith, at, p.1) in
    p.2 ∙ ap (λ (n : ℕ). one ++ joined (take n ls)) same

module _ (laws : ServerCutLaws) (w : World) (h : List Line) (m : Move) (count : ℕ) (f g : File) (s : State) (pairs : Pairs)
    (k : CutShown w h m count f g s pairs) (i : Input) (is : input_in w m.action ≡ Some i) (q : ℕ)
    (at_cut : count ≡ lines_before m.action + q) where
  abbrev did : Step
  did = step w.server m.chosen i

  -- behind the first line, behind the lines up to the cut, and behind all notes
  abbrev t0 : State
  t0 = after_all s (at_first s w.server (step w.server m.chosen i) f g i)

  abbrev lines : Lines
  lines =
      notes_all (after_all s (at_first s w.server (step w.server m.chosen i) f g i)) w f g i
      (step w.server m.chosen i).sends (step w.server m.chosen i).notes

  told_of : IsOfScenario h
  told_of = scenario laws.rebuilt.target w h m f g s k.shown.follows

  apart : AreDistinct w.server.files
  apart = files_distinct w (reached w h k.shown.follows.moment)

  first : AreFirst (step w.server m.chosen i).notes
  first = rebuilt_is_first w.server m.chosen i apart

  events_taken : joined (take count (events_of s w (owed k.shown.follows.related) f m))
      ≡ at_first s w.server (step w.server m.chosen i) f g i ++ joined (take q lines)
  events_taken =
      let one : List Event = at_first s w.server (step w.server m.chosen i) f g i in
      let quiet : Lines = drive_events s w (owed k.shown.follows.related) f m.action in
      ap (λ (ls : Lines). joined (take count ls)) (lines_are w h m count f g s k.shown.follows i is)
      ∙ taken_so (lines_before m.action) count q one lines _ at_cut
      (splits_at m.action count one lines quiet (drive_quiet s w (owed k.shown.follows.related) f m.action i is))

  machine_is : behind k.shown.follows.related m count ≡ after_all t0 (joined (take q lines))
  machine_is =
      ap (after_all s) events_taken
      ∙ after_both s (at_first s w.server (step w.server m.chosen i) f g i) (joined (take q lines))

  notes_are : notes_behind count m.action (did_in w m) ≡ drop q (step w.server m.chosen i).notes
  notes_are =
      ap (λ (o : Option Input). notes_behind count m.action (step_by w.server m.chosen o)) is
      ∙ dropped count (lines_before m.action) q (step w.server m.chosen i).notes at_cut

  cut_is : cut_at k.shown.follows
      ≡ after_all (after_all t0 (joined (take q lines)))
      (rebuilt_ahead (after_all t0 (joined (take q lines))) w f (drop q (step w.server m.chosen i).notes))
  cut_is =
      ap (λ (u : State). after_all u (rebuilt_ahead u w f (notes_behind count m.action (did_in w m)))) machine_is
      ∙ ap (λ (ns : List Note). after_all (after_all t0 (joined (take q lines)))
      (rebuilt_ahead (after_all t0 (joined (take q lines))) w f ns)) notes_are

  down : (n : ℕ) → GoesDown (cut_at k.shown.follows) (noted_after t0 w f i (step w.server m.chosen i).notes) n
  down n =
      subst (λ (u : State). GoesDown u (noted_after t0 w f i (step w.server m.chosen i).notes) n) (sym cut_is)
      (cut_down w f i n g (step w.server m.chosen i).sends (step w.server m.chosen i).notes q t0 first)

  -- the notes tell of each component what the machine has behind all of them
  told : AreTold s t0 w f i g.kept (step w.server m.chosen i).notes
  told =
      let moved = laws.rebuilt.moved in
      let ran : IsSentByRun w = moved.made.run w h k.shown.follows.moment (are_named h told_of.written) in
      let sound : IsSound w.server = sound_there moved.sound w ran in
      step_told s w f g m.chosen k.shown.follows.related.components k.shown.follows.there apart
      (λ x here j t runs target.
      (aimed w h k.shown.follows.moment m k.shown.follows.is_due f g k.shown.follows.there k.shown.follows.goes i is sound
      moved.raises x here j t runs target).0) i
      (is_fair moved.made.more moved.others w h k.shown.follows.moment m k.shown.follows.is_due f i is)
      (found_there w h m count f g s k.shown.follows i is)

  -- ---- what the lines tell of drives

  next : IsMoment (move w m).world (h ++ lines_in w m)
  next = next_moment w h k.shown.follows.moment m k.shown.follows.is_due

  -- as much as all lines of the move
  told_same : TellAlike (lines_to w h m count) (h ++ lines_in w m)
  told_same = begun_alike w h m k.shown.follows.moment k.shown.follows.is_due count (omega (arith, at_cut))

  alike_ : IsAlike w (move w m).world
  alike_ =
      alike w h m f g s k.shown.follows.moment k.shown.follows.is_due k.shown.follows.there k.shown.follows.run
      k.shown.follows.related i is k.shown.follows.goes
      (awaited_are_sent laws.rebuilt.moved.known w h k.shown.follows.moment told_of.few)

  -- ---- one component

  module _ (n : ℕ) (at : Component) (there : slice_get g.kept.components n ≡ Some at) where
    abbrev whole : State
    whole = noted_after t0 w f i (step w.server m.chosen i).notes

    to : Told s (noted_after t0 w f i (step w.server m.chosen i).notes) w f (step w.server m.chosen i).notes n at
    to = told.each n at there

    lost_same : is_lost (moment_of (lines_to w h m count)) at ≡ is_lost_in w at
    lost_same =
        ap (λ (b : Bool). at.missing || b)
        (ap (among at.drive) (sym told_same.failed)
        ∙ failed_is laws.rebuilt.moved.made.more laws.grow (move w m).world (h ++ lines_in w m) next at.drive
        ∙ alike_.failed at.drive)

    stored_cut : (z : ℕ) → byte_stored (drive_after (lines_to w h m count) at.drive) at.object z
        ≡ byte_stored (at_number w.drives at.drive) at.object z
    stored_cut z =
        ap (λ (d : Option DriveAt). byte_stored d at.object z)
        (sym (told_same.drives at.drive)
        ∙ drive_is laws.rebuilt.moved.made.more laws.grow (move w m).world (h ++ lines_in w m) next at.drive)
        ∙ stored_is (at_number (move w m).world.drives at.drive) at.object z
        ∙ ap (λ (o : Option StoredObject). get_or (bytes_or_none o) z 0) (alike_.objects at.drive at.object)
        ∙ sym (stored_is (at_number w.drives at.drive) at.object z)

    -- where it is the one that was there
    kept_cells : (z : ℕ) → whole.lost n ≡ false → WasKept s whole f n at →
        whole.cell n z ≡ byte_stored (at_number w.drives at.drive) at.object z
    kept_cells z stands was =
        was.cells z
        ∙ stored_object s w f n was.before
        ((k.shown.follows.related.components n was.before was.there).stands (was.lost stands)).object z
        ∙ ap (λ (d : ℕ). byte_stored (at_number w.drives d) was.before.object z) (sym was.drive)
        ∙ ap (λ (o : ℕ). byte_stored (at_number w.drives at.drive) o z) (sym was.object)

    -- where it was made anew
    module _ (parts : (at.missing ≡ false) × (has_failed (at_number w.drives at.drive) ≡ false))
        (was : WasRebuilt f (step w.server m.chosen i).notes n at) where
      abbrev x : WasTarget i f g n at
      x = was_target laws.rebuilt w h m f g s k.shown.follows i is n at there was parts

      -- the step hears a drive's reply, so its first line has no event
      begun : t0 ≡ s
      begun = ap (λ (y : Input). after_all s (at_first s w.server (step w.server m.chosen i) f g y)) x.hears

      there_is : object_on (at_number w.drives at.drive) at.object
          ≡ object_on (at_number w.drives x.target.drive) x.target.object
      there_is =
          ap (λ (d : ℕ). object_on (at_number w.drives d) at.object) x.place
          ∙ ap (object_on (at_number w.drives x.target.drive)) x.object

      made_cells : (z : ℕ) (o : Option StoredObject) → object_on (at_number w.drives x.target.drive) x.target.object ≡ o →
          cells_made s f.kept.map f.kept.high x.target.component z ≡ get_or (bytes_or_none o) z 0
      made_cells z None none = cells_none laws.rebuilt w h m f g s k.shown.follows i is n at there was parts none z
      made_cells z (Some o) some = cells_are laws.rebuilt w h m f g s k.shown.follows i is n at there was parts o some z

      rebuilt_cells : (z : ℕ) → whole.cell n z ≡ byte_stored (at_number w.drives at.drive) at.object z
      rebuilt_cells z =
          cells_rebuilt w f i n at.drive was.note was.file was.kind (step w.server m.chosen i).notes was.told first t0 z
          ∙ ap (λ (u : State). cells_made u f.kept.map f.kept.high n z) begun
          ∙ ap (λ (c : ℕ). cells_made s f.kept.map f.kept.high c z) x.component
          ∙ made_cells z (object_on (at_number w.drives x.target.drive) x.target.object) refl
          ∙ sym (ap (λ (o : Option StoredObject). get_or (bytes_or_none o) z 0) there_is)
          ∙ sym (stored_is (at_number w.drives at.drive) at.object z)

    shows : ShowsComponent (lines_to w h m count) (cut_at k.shown.follows) n at
    shows = record {
      lost = λ gone. lost_same ∙ sym to.lost ∙ (down n).lost gone;
      cells = λ stands z.
          sym ((down n).cells z) ∙ whole_cells (sym lost_same ∙ stands) z ∙ sym (stored_cut z);
    }
      where
        whole_cells : is_lost_in w at ≡ false → (z : ℕ) →
            whole.cell n z ≡ byte_stored (at_number w.drives at.drive) at.object z
        whole_cells stands z = elim to.kept [
          | inl was ↦ kept_cells z (to.lost ∙ stands) was
          | inr was ↦
              rebuilt_cells (
                first_false at.missing (has_failed (at_number w.drives at.drive)) stands,
                second_false at.missing (has_failed (at_number w.drives at.drive)) stands,
              ) was z
        ]

-- The machine at the cut shows the components of the file behind the step.
pub servers_show_components : ServerCutLaws → ServersShowComponents
servers_show_components laws w h m count f g s pairs k i is q at n x there =
    shows laws w h m count f g s pairs k i is q at n x there
