-- Each cut of a move that makes a file shows it, by the machine of a new file: `EachCreationIsShown` holds. And no lawful history
-- logs an entry of a file that there isn't: `NoneIsLogged` holds.
use Rattle.std.proofs.Common.{◌≡◌, ◌++◌, ◌<◌, ℕ, zero, suc, List, [], Option, Some, None, take, slice_get, refl, sym, ap, subst, ◌∙◌, arith}
use Rattle.std.specs.List.{fold}
use Rattle.std.specs.Prelude.{option_map}
use Rattle.std.proofs.lemmas.List.{append-nil}
use Rattle.std.proofs.lemmas.Option.{same_Some}
use Rattle.osd_objects.specs.declared.object.StoredObject.{StoredObject}
use Rattle.scenario_text.specs.declared.line.Line.{Line}
use Rattle.server_rules.specs.Files.{file_at}
use Rattle.world_history.specs.ServerNames.{Server, File, Component}
use Rattle.world_history.specs.State.{World, DriveAt, at_number}
use Rattle.world_history.specs.Plans.{due}
use Rattle.world_history.specs.Sending.{Move}
use Rattle.world_history.specs.ReadLog.{Log, Logged, log_in, log_of}
use Rattle.world_history.specs.Book.{sees_server}
use Rattle.world_history.specs.Calm.{moment_of}
use Rattle.world_history.specs.Laws.{AllLinesGoOn}
use Rattle.history_law.specs.Moments.{IsMoment, plan_at, lines_in}
use Rattle.history_law.specs.Read.{server_of}
use Rattle.component_law.specs.Naming.{IsNamed}
use Rattle.component_law.specs.Sent.{IsSentByRun}
use Rattle.component_law.proofs.Lists.{get_map}
use Rattle.component_law.proofs.Moments.{each_second}
use Rattle.component_law.proofs.NamedLines.{are_named}
use Rattle.exchange_law.proofs.CountMoments.{reached}
use Rattle.fence_law.specs.State.{Layout}
use Rattle.fence_law.specs.Machine.{new_file_state}
use Rattle.plan_law.specs.FileLayout.{layout_of}
use Rattle.file_simulation.specs.Claim.{IsCalmHistory, IsOfScenario, byte_stored}
use Rattle.file_simulation.specs.Components.{object_on}
use Rattle.file_simulation.specs.Conclusion.{NoneIsLogged}
use Rattle.file_simulation.specs.Showing.{ArePaired, ShowsComponent, ShowsFile, ShowsLines, IsRun, GoesAsRun}
use Rattle.file_simulation.specs.Simulation.{EachCreationIsShown}
use Rattle.file_simulation.proofs.Cutting.{IsCut, each_is_cut}
use Rattle.file_simulation.proofs.Fronts.{before_move, scenario_before, move_begun}
use Rattle.relation_law.proofs.BirthsMachine.{new_young, young_calm}
use Rattle.relation_law.proofs.ComponentsMoved.{MovedLaws, sound_there}
use Rattle.relation_law.proofs.FramesFiles.{files_distinct}
use Rattle.headline_law.specs.Parts.{CutsHaveRoom}
use Rattle.headline_law.specs.Used.{ObjectsAreUsed}
use Rattle.headline_law.proofs.BirthAnswers.{IsFile}
use Rattle.headline_law.proofs.BornFiles.{IsBorn, born}
use Rattle.headline_law.proofs.CreationLines.{IsMadeAt, ReadLaws, made_at, server_over}
use Rattle.headline_law.proofs.CreationSteps.{GoesOver, files_stay, goes_over}
use Rattle.headline_law.proofs.EntriesRead.{cut_plain, untaken}
use Rattle.headline_law.proofs.NotLogged.{LoggedLaws, are_there, away, none_is_logged_at}
use Rattle.headline_law.proofs.NotLoggedLines.{AllOn, none_on}
use Rattle.headline_law.proofs.ShownWhole.{ShownLaws, drive_is, nothing_stored}
use Rattle.headline_law.proofs.UsedObjects.{each_object_is_used}

-- what is known of histories
pub record CreationLaws : Type 0 where
  pub moved : MovedLaws
  pub shown : ShownLaws
  pub lines : AllLinesGoOn
  pub reading : ReadLaws
  pub logged : LoggedLaws
  pub room : CutsHaveRoom

-- ---- a cut of a move

module _ (laws : CreationLaws) (w : World) (h : List Line) (k : IsMoment w h) (m : Move)
    (is_due : due (plan_at k) w ≡ Some m.action) (count : ℕ) where
  abbrev lines : List Line
  lines = h ++ take count (lines_in w m)

  module _ (scenario : IsOfScenario (h ++ take count (lines_in w m))) where
    before : IsOfScenario h
    before = scenario_before h (take count (lines_in w m)) scenario

    -- none is logged of a file that wasn't there before
    none_logged : (file : ℕ) → file_at w.server.files file ≡ None → AllOn (λ (n : ℕ). n ≡ file → ⊥) (log_in lines).entries
    none_logged file absent = by count scenario
      where
        by : (c : ℕ) → IsOfScenario (h ++ take c (lines_in w m)) →
            AllOn (λ (n : ℕ). n ≡ file → ⊥) (log_in (h ++ take c (lines_in w m))).entries
        by zero fine =
            subst (λ (ls : List Line). AllOn (λ (n : ℕ). n ≡ file → ⊥) (log_in ls).entries) (sym (append-nil h))
            (away laws.logged w (log_in h).entries file (are_there laws.logged w h k before) absent)
        by (suc q) fine =
            none_is_logged_at laws.logged w h k m is_due before (laws.room w h m (suc q) k is_due (omega arith) fine).0 (suc q)
            file absent

    -- nor was one there before that isn't there
    absent_before : (file : ℕ) → file_at (moment_of lines).server.files file ≡ None → (o : Option File) →
        file_at w.server.files file ≡ o → file_at w.server.files file ≡ None
    absent_before file absent None is = is
    absent_before file absent (Some f) is =
        let on : GoesOver IsNamed h (take count (lines_in w m)) =
        goes_over laws.reading.moments laws.reading.pending IsNamed h (take count (lines_in w m)) (move_begun w m count)
        (each_second IsNamed h (take count (lines_in w m)) (are_named lines scenario.written)) in
        let stays : IsFile (fold sees_server (server_of w) on.steps).server file =
        files_stay file (server_of w) on.steps (files_distinct w (reached w h k)) (f, is) in
        absurd (cc (sym absent
        ∙ ap (λ (s : Server). file_at s.files file)
        (server_over laws.reading w h k before IsNamed (take count (lines_in w m)) on) ∙ stays.1))

    pub none_at : (file : ℕ) → file_at (moment_of lines).server.files file ≡ None → log_of lines file ≡ []
    none_at file absent =
        none_on (log_in lines).entries file
        (none_logged file (absent_before file absent (file_at w.server.files file) refl))

  module _ (calm : IsCalmHistory (h ++ take count (lines_in w m))) (f : File)
      (absent : file_at w.server.files f.kept.number ≡ None)
      (there : file_at (moment_of (h ++ take count (lines_in w m))).server.files f.kept.number ≡ Some f) where
    abbrev n : ℕ
    n = f.kept.number

    abbrev layout_ : Layout
    layout_ = layout_of f.kept.map f.kept.first_tag

    calm_before : IsCalmHistory h
    calm_before =
        before_move laws.reading.moments laws.lines laws.reading.pending w h m count calm

    run : IsSentByRun w
    run = laws.moved.made.run w h k (are_named h calm_before.scenario.written)

    made : IsMadeAt w h lines f
    made =
        made_at laws.reading w h k m is_due calm_before.scenario (sound_there laws.moved.sound w run) f absent count
        (are_named lines calm.scenario.written) there

    is_born : IsBorn w.server f
    is_born = born w.server made.placed n made.map made.tag made.zoned f absent made.there

    used : ObjectsAreUsed w
    used = each_object_is_used laws.moved w h k calm_before

    -- ---- components

    none_on_drive : (at : Component) (i : ℕ) → slice_get f.kept.components i ≡ Some at → (o : Option StoredObject) →
        object_on (at_number w.drives at.drive) at.object ≡ o → object_on (at_number w.drives at.drive) at.object ≡ None
    none_on_drive at i e None is = is
    none_on_drive at i e (Some x) is =
        let low = used.stored at.drive at.object x is in
        absurd (omega (arith, low, is_born.new i at e))

    shows_component : (i : ℕ) (at : Component) → slice_get f.kept.components i ≡ Some at →
        ShowsComponent lines (new_file_state layout_) i at
    shows_component i at e = record {
      lost = λ lost. absurd (cc lost);
      cells = λ stands z.
          sym (ap (λ (o : Option DriveAt). byte_stored o at.object z)
          (made.drives at.drive
          ∙ drive_is laws.shown.more laws.shown.grow w h k at.drive)
          ∙ nothing_stored (at_number w.drives at.drive) at.object
          (none_on_drive at i e (object_on (at_number w.drives at.drive) at.object) refl) z);
    }

    shows_file : ShowsFile lines (new_file_state layout_) [] f
    shows_file = record {
      layout = refl;
      components = shows_component;
      marks = λ x d. let low : d.0 < 0 = d.5 in absurd (omega (arith, low));
    }

    -- ---- the log

    none_of : AllOn (λ (i : ℕ). i ≡ n → ⊥) (log_in lines).entries
    none_of = none_logged calm.scenario n absent

    none_said : (i : ℕ) (e : Logged) → slice_get (moment_of lines).log.entries i ≡ Some e → e.file ≡ n → ⊥
    none_said i e at here =
        none_of i (untaken e)
        (ap (λ (l : Log). slice_get l.entries i)
        (sym (cut_plain laws.reading.moments laws.reading.pending laws.lines laws.shown.more w h k m count))
        ∙ get_map untaken (moment_of lines).log.entries i ∙ ap (λ (o : Option Logged). option_map untaken o) at) here

    paired : ArePaired (new_file_state layout_) n (moment_of lines).log.entries []
    paired = record {
      same = λ i j pair. absurd pair;
      each = λ i e at here. absurd (none_said i e at here);
      rising = λ i j g l pair. absurd pair;
      others = λ j low none. absurd (omega (arith, low));
    }

    -- ---- the run

    new_run : IsRun (new_file_state layout_)
    new_run = record {
      events = [];
      lawful = tt;
      calm = young_calm layout_ (new_file_state layout_) (new_young layout_);
      state = refl;
    }

    shows : ShowsLines lines (new_file_state layout_) n []
    shows = record {
      paired = paired;
      log = none_on (log_in lines).entries n none_of;
      shown = λ x is.
          subst (ShowsFile lines (new_file_state layout_) []) (same_Some f x (sym there ∙ is)) shows_file;
      calm = λ last is calm_there. young_calm layout_ (new_file_state layout_) (new_young layout_);
    }

    pub goes : GoesAsRun lines n
    goes = record { state = new_file_state layout_; pairs = []; run = new_run; shown = shows }

-- Each cut of a move that makes a file shows it.
pub creations_are_shown : CreationLaws → EachCreationIsShown
creations_are_shown laws w h more m count next low calm f absent there =
    subst (λ (ls : List Line). GoesAsRun (h ++ take count ls) f.kept.number) (sym next.lines)
    (goes laws w h next.moment m next.is_due count
    (subst (λ (ls : List Line). IsCalmHistory (h ++ take count ls)) next.lines calm) f absent
    (subst (λ (ls : List Line). file_at (moment_of (h ++ take count ls)).server.files f.kept.number ≡ Some f) next.lines there))

-- A file that there isn't has no entry in the log of any lawful history.
pub none_is_logged_at_cuts : CreationLaws → NoneIsLogged
none_is_logged_at_cuts laws h lawful scenario file absent =
    let c : IsCut h = each_is_cut h lawful in
    let is : h ≡ c.before ++ take c.count (lines_in c.world c.move) =
    c.lines ∙ ap (λ (ls : List Line). c.before ++ take c.count ls) c.next.lines in
    subst (λ (ls : List Line). log_of ls file ≡ []) (sym is)
    (none_at laws c.world c.before c.next.moment c.move c.next.is_due c.count (subst IsOfScenario is scenario) file
    (subst (λ (ls : List Line). file_at (moment_of ls).server.files file ≡ None) is absent))
