-- A step of the server keeps a run of the machine calm, up to each of its lines, and its moments beside it.
-- Towards `ServersKeepRuns` (`specs/Parts.antt`).
use Rattle.std.proofs.Common.{◌≡◌, ◌<◌, ◌≤◌, ◌+◌, ◌==◌, ◌&&◌, ◌||◌, ◌++◌, not, ℕ, Bool, true, false, List, [], ◌∷◌, take, map, length, slice_get, Option, Some, None, refl, sym, ap, subst, ◌∙◌, inl, inr, arith, append-nil, if◌then◌else◌}
use Rattle.std.specs.List.{fold}
use Rattle.std.proofs.lemmas.Bool.{cases_Bool}
use Rattle.server_rules.specs.Files.{file_at, Step as ServerStep}
use Rattle.server_rules.specs.History.{Input, step}
use Rattle.server_rules.specs.Laws.{In}
use Rattle.server_rules.specs.Numbers.{among}
use Rattle.scenario_text.specs.declared.line.Line.{Line}
use Rattle.world_history.specs.ServerNames.{File, Component, Server, Phase, Still, Fencing, Repairing, FencingAgain}
use Rattle.world_history.specs.State.{World, at_number}
use Rattle.world_history.specs.Names.{note_line}
use Rattle.world_history.specs.ReadLog.{Logged, Log}
use Rattle.world_history.specs.Sending.{Move}
use Rattle.world_history.specs.Stripes.{Mark, Moment, is_lost}
use Rattle.world_history.specs.Book.{server_step, sees_server}
use Rattle.world_history.specs.Calm.{Seen, Watched, watches, watched, begins, begun_file, through, mended_in, moment_of, takes_loss, taken_by, returned_at, marks_at, is_told_taken, seen_after}
use Rattle.world_history.specs.ReadDrives.{injected_after}
use Rattle.history_law.specs.Doing.{input_in}
use Rattle.history_law.specs.Read.{BookIsRead}
use Rattle.fence_law.specs.Law.{IsCode}
use Rattle.fence_law.specs.Machine.{Lawful, after_all}
use Rattle.fence_law.specs.State.{State, Event}
use Rattle.file_simulation.specs.Components.{has_failed}
use Rattle.file_simulation.specs.Cuts.{lines_before}
use Rattle.file_simulation.specs.EventLists.{Lines}
use Rattle.file_simulation.specs.Events.{joined}
use Rattle.file_simulation.specs.ServerEvents as table
use Rattle.file_simulation.specs.ServerEvents.{notes_all, begins_fence}
use Rattle.file_simulation.specs.Showing.{Pairs, IsRun, ShowsFile, IsPair, HasMark}
use Rattle.file_simulation.specs.Phases.{PhaseIs, IsStill}
use Rattle.data_map.specs.declared.check.RawMap.{RawMap}
use Rattle.data_map.specs.Striping.{parities}
use Rattle.server_rules.proofs.FileLaws.{number_at}
use Rattle.relation_law.proofs.FramesStay.{all_as}
use Rattle.relation_law.specs.Frames.{AreAll}
use Rattle.headline_law.specs.Ending.{EndsGrants, IsStepSeen, StepsEndGrants, CutsAreSeen, FailedAreRead, AreFresh}
use Rattle.headline_law.specs.Parts.{FollowsShown}
use Rattle.headline_law.specs.Watching.{IsSeen}
use Rattle.headline_law.proofs.CalmAhead.{run_peaceful, code_all, layout_all, sure_run}
use Rattle.headline_law.proofs.CalmEvents.{IsPeaceful, PerformsNone, LosesNone}
use Rattle.headline_law.proofs.CalmGone.{uncoded}
use Rattle.headline_law.proofs.CalmNotes.{FencesNone, mark_of}
use Rattle.headline_law.proofs.CalmStay.{came_all, lost_all, gone_all, rests_all}
use Rattle.headline_law.proofs.CalmCodes.{code_of, map_checked, has_all, file_there}
use Rattle.headline_law.proofs.CalmFirst.{IsFirst, first_events, first_form}
use Rattle.headline_law.proofs.CalmHandled.{handles_none, handles_quiet, handles_over, AllOver}
use Rattle.headline_law.proofs.CalmQuiet.{sends_quiet}
use Rattle.headline_law.proofs.CalmSteps.{Handles, notes_run}

-- what is known of the world
pub record MarkLaws : Type 0 where
  pub book : BookIsRead
  pub seen : CutsAreSeen
  pub grants : StepsEndGrants
  pub failed : FailedAreRead

-- ---- a file as a step begins

-- It has the components that it had, and the grants behind the step, or before it.
pub record IsBegun (untold : Bool) (x old b : File) : Type 0 where
  pub number : b.kept.number ≡ x.kept.number
  pub map : b.kept.map ≡ x.kept.map
  pub components : b.kept.components ≡ old.kept.components
  pub grants : b.kept.grants ≡ (if untold then old.kept.grants else x.kept.grants)

is_begun : (untold : Bool) (before : List File) (x old : File) → file_at before x.kept.number ≡ Some old →
    IsBegun untold x old (begun_file untold before x)
is_begun true before x old e = rw e (record { number = refl; map = refl; components = refl; grants = refl })
is_begun false before x old e = rw e (record { number = refl; map = refl; components = refl; grants = refl })

begun_number : (untold : Bool) (before : List File) (x : File) → (begun_file untold before x).kept.number ≡ x.kept.number
begun_number untold before x = by untold (file_at before x.kept.number) refl
  where
    by : (b : Bool) (o : Option File) → file_at before x.kept.number ≡ o → (begun_file b before x).kept.number ≡ x.kept.number
    by true None e = rw e e_none
      where
        e_none : x.kept.number ≡ x.kept.number
        e_none = refl
    by true (Some y) e = (is_begun true before x y e).number
    by false None e = rw e refl
    by false (Some y) e = (is_begun false before x y e).number

-- each is found there
pub begun_each : (untold : Bool) (before fs : List File) (n : ℕ) (x : File) → file_at fs n ≡ Some x →
    file_at (map (begun_file untold before) fs) n ≡ Some (begun_file untold before x)
unfolding file_at
begun_each untold before [] n x e = absurd (cc e)
begun_each untold before (y ∷ fs) n x e = elim (cases_Bool (y.kept.number == n)) [
  | inl t ↦
      let same : y ≡ x = cc (rw t at e) in
      rw (begun_number untold before y) (rw t (ap (λ (z : File). Some (begun_file untold before z)) same))
  | inr z ↦ rw (begun_number untold before y) (rw z (begun_each untold before fs n x (rw z at e)))
]

module _ (laws : MarkLaws) (w : World) (h : List Line) (m : Move) (count : ℕ) (f g : File) (s : State) (pairs : Pairs)
    (k : FollowsShown w h m count f g s pairs) (i : Input) (is : input_in w m.action ≡ Some i) where
  abbrev pub did : ServerStep
  did = step w.server m.chosen i

  -- the events of the first line
  abbrev pub first : List Event
  first = table.at_first s w.server did f g i

  -- the machine behind it
  abbrev pub t : State
  t = after_all s first

  -- the events of the lines behind it
  abbrev pub later : Lines
  later = notes_all t w f g i did.sends did.notes

  abbrev pub code : IsCode s.layout
  code = code_of laws.book w h m count f g s k.follows

  shown : ShowsFile h s pairs f
  shown = k.shown.shown f (file_there laws.book w h m count f g s k.follows)

  -- ---- the first line

  -- a fence begins in the step, or not
  abbrev begins_here : Bool
  begins_here = begins_fence f g

  firsts : AreAll (IsFirst begins_here) first
  firsts = first_events s w.server did f g i begins_here refl

  peaceful : AreAll IsPeaceful first
  peaceful = all_as (IsFirst begins_here) IsPeaceful (λ e. of_first begins_here e) first firsts
    where
      of_first : (b : Bool) (e : Event) → IsFirst b e → IsPeaceful e
      of_first true e p = p.0
      of_first false e p = p.0

  none : AreAll PerformsNone first
  none = all_as (IsFirst begins_here) PerformsNone (λ e. of_first begins_here e) first firsts
    where
      of_first : (b : Bool) (e : Event) → IsFirst b e → PerformsNone e
      of_first true e p = p.1
      of_first false e p = p.1

  loses : AreAll LosesNone first
  loses = all_as (IsFirst begins_here) LosesNone (λ e. of_first begins_here e) first firsts
    where
      of_first : (b : Bool) (e : Event) → IsFirst b e → LosesNone e
      of_first true e p = p.2
      of_first false e p = p.2

  fences_none : begins_here ≡ false → AreAll FencesNone first
  fences_none no_ =
      all_as (IsFirst false) FencesNone (λ e p. p.3) first (subst (λ (b : Bool). AreAll (IsFirst b) first) no_ firsts)

  -- ---- the step as it is read

  module _ (q : ℕ) (at : count ≡ lines_before m.action + q) where
    abbrev pub x : IsStepSeen w h m count q i
    x = laws.seen w h m count f g s k.follows i is q at

    abbrev pub ends : EndsGrants w.server m.chosen x.placed i f g
    ends = laws.grants w h m count f g s k.follows i is x.named x.placed

    -- the step as it is read, and the moment at which it begins
    abbrev pub read : ServerStep
    read = step w.server x.placed i

    abbrev pub told : Bool
    told = is_told_taken x.step_is.rest

    abbrev pub untold : Bool
    untold = takes_loss (Some read) && not told

    abbrev pub begun : Moment
    begun = begins x.before x.step_is (Some read)

    -- the file there
    abbrev pub begun_one : File
    begun_one = begun_file untold x.before.server.server.files ends.file

    number_is : ends.file.kept.number ≡ f.kept.number
    number_is = number_at read.state.files f.kept.number ends.file ends.there

    file_before : file_at x.before.server.server.files ends.file.kept.number ≡ Some f
    file_before =
        ap (λ (n : ℕ). file_at x.before.server.server.files n) number_is
        ∙ ap (λ (v : Server). file_at v.files f.kept.number) x.server ∙ k.follows.there

    begun_there : file_at begun.server.files f.kept.number ≡ Some begun_one
    begun_there =
        begun_each untold x.before.server.server.files read.state.files f.kept.number ends.file ends.there

    begun_like : IsBegun untold ends.file f begun_one
    begun_like = is_begun untold x.before.server.server.files ends.file f file_before

    -- ---- the moment at which it begins

    begun_lost : (j : ℕ) (y : Component) → slice_get begun_one.kept.components j ≡ Some y → t.lost j ≡ true →
        is_lost begun y ≡ true
    begun_lost j y found gone =
        let here : slice_get f.kept.components j ≡ Some y =
        ap (λ (cs : List Component). slice_get cs j) (sym begun_like.components) ∙ found in
        ap (λ (ds : List ℕ). y.missing || among y.drive ds) x.failed
        ∙ (shown.components j y here).lost (lost_all s first loses j gone)

    begun_marks : (y : Mark) → In y (moment_of h).marks → In y begun.marks
    begun_marks y e =
        subst (In y)
        (sym (ap (λ (ks : List Mark). ks ++ marks_at x.before x.step_is.head) x.marks
        ∙ ap (λ (ks : List Mark). (moment_of h).marks ++ ks) x.no_marks ∙ append-nil (moment_of h).marks)) e

    first_seen : Lawful s first → IsRun t × IsSeen t begun f begun_one.kept.grants pairs t begun
    first_seen l = (
      run_peaceful s first code k.follows.run peaceful l,
      record {
        file = begun_one;
        there = begun_there;
        number = begun_like.number ∙ number_is;
        map = begun_like.map ∙ ends.map_stays;
        granted = refl;
        long = ap length begun_like.components ∙ has_all laws.book w h m count f g s k.follows;
        beside = record { log = refl; failed = refl; stopped = refl };
        layout = layout_all s first ∙ k.follows.related.layout;
        came = λ y d. (d, refl, refl);
        lost = begun_lost;
        marks = λ y d.
            let c = came_all s first none y d in
            subst (λ (j : ℕ). HasMark t begun begun_one pairs j y) c.1 (elim (shown.marks y c.0) [
              | inl p ↦ inl (
                p.0,
                p.1,
                subst (λ (n : ℕ). In (mark_of n begun_one.kept.map p.0 y) begun.marks)
                    (sym (begun_like.number ∙ number_is))
                    (subst (λ (r : RawMap). In (mark_of f.kept.number r p.0 y) begun.marks)
                    (sym (begun_like.map ∙ ends.map_stays)) (begun_marks (mark_of f.kept.number f.kept.map p.0 y) p.2)),
              )
              | inr gone ↦ inr (
                ap parities (begun_like.map ∙ ends.map_stays) ∙ gone.0,
                gone_all s first code k.follows.run peaceful none l y
                    (uncoded f.kept.map f.kept.first_tag s y k.follows.related.layout gone.0) d gone.1,
              )
            ]);
        rests = λ a b. (a, b);
      },
    )

    -- ---- what tore a column is left

    over : AreFresh w.server.next_grant ends.file.kept.grants → told ≡ false → untold ≡ false →
        AllOver t begun f begun_one.kept.grants pairs did.notes
    over fresh silent not_ y j d pair =
        let c = came_all s first none y d in
        let p = k.shown.paired.same j c.0.0 (subst (λ (n : ℕ). IsPair pairs j n) (sym c.1) pair) in
        let e : Logged = p.0 in
        let log : begun.log ≡ (moment_of h).log =
        ap (λ (b : Bool). taken_by x.before.moment.log b (returned_at x.before.server.sent x.step_is.head)) silent ∙ x.log in
        let low : (s.start c.0.0).grant < s.next =
        ((sure_run s code k.follows.run).safe.formed c.0.0 c.0.5).number c.0.6 in (
          e,
          ap (λ (z : Log). slice_get z.entries j) log ∙ p.1,
          p.2.unfinished c.0.6 ∙ ap not c.0.7,
          λ v there number.
              let v_there : In v ends.file.kept.grants =
              subst (In v) (begun_like.grants ∙ ap (λ (b : Bool). if b then f.kept.grants else ends.file.kept.grants) not_)
              there in
              let above : w.server.next_grant ≤ v.number = fresh v v_there in
              let next : s.next ≤ w.server.next_grant = k.follows.related.kept.next in
              let grant : (s.start c.0.0).grant ≡ e.grant = p.2.grant in
              absurd (omega (arith, low, above, next, grant, number)),
        )

    handled_over : AreFresh w.server.next_grant ends.file.kept.grants → told ≡ false → untold ≡ false →
        Handles t begun f begun_one.kept.grants pairs did.notes
    handled_over fresh silent not_ =
        handles_over t begun f begun_one.kept.grants pairs did.notes (map_checked laws.book w h m count f g s k.follows)
        (over fresh silent not_)

    still_handled : Lawful s first → told ≡ false → untold ≡ false → f.kept.phase ≡ Still → IsStill s f → (b : Bool) →
        begins_here ≡ b → Handles t begun f begun_one.kept.grants pairs did.notes
    still_handled l silent not_ still ph false is_ =
        let r = rests_all s first (fences_none is_) l ph.fencing ph.repairing in
        handles_quiet t begun f begun_one.kept.grants pairs did.notes r.0 r.1
    still_handled l silent not_ still ph true is_ = elim (first_form s w.server did f g i) [
      | inl none_ ↦
          let r = rests_all s first none_ l ph.fencing ph.repairing in
          handles_quiet t begun f begun_one.kept.grants pairs did.notes r.0 r.1
      | inr may ↦ handled_over (ends.begun still may is_) silent not_
    ]

    by_phase : Lawful s first → told ≡ false → untold ≡ false → (p : Phase) → f.kept.phase ≡ p → PhaseIs s f p →
        Handles t begun f begun_one.kept.grants pairs did.notes
    by_phase l silent not_ Still is_ ph = still_handled l silent not_ is_ ph begins_here refl
    by_phase l silent not_ Fencing is_ ph = handled_over (ends.none ph.live) silent not_
    by_phase l silent not_ Repairing is_ ph = handled_over (ends.none ph.live) silent not_
    by_phase l silent not_ FencingAgain is_ ph = handled_over (ends.none ph.live) silent not_

    handles : Lawful s first → Handles t begun f begun_one.kept.grants pairs did.notes
    handles l = elim (cases_Bool told) [
      | inl taken ↦
          handles_none t begun f begun_one.kept.grants pairs did.notes
          ((laws.grants w h m count f g s k.follows i is x.named m.chosen).loss (x.told taken))
      | inr silent ↦ elim (cases_Bool (takes_loss (Some read))) [
        | inl loss ↦ handles_none t begun f begun_one.kept.grants pairs did.notes (ends.loss loss)
        | inr none_ ↦
            by_phase l silent (ap (λ (b : Bool). b && not told) none_) f.kept.phase refl k.follows.related.kept.phase
      ]
    ]

    -- ---- behind the first lines of the step

    abbrev pub watched_first : Watched
    watched_first = watched (record { moment = x.before.moment; calm = x.before.calm }) begun

    abbrev pub lines : List Line
    lines = map note_line did.notes ++ x.more

    abbrev pub Behind : ℕ → Type 0
    Behind j =
        IsRun (after_all t (joined (take j later)))
        × IsSeen t begun f begun_one.kept.grants pairs (after_all t (joined (take j later)))
        (fold (watches (mended_in (Some read))) watched_first (take j lines)).moment

    known : (d : ℕ) → has_failed (at_number w.drives d) ≡ true → among d begun.failed ≡ true
    known d dead = ap (among d) x.failed ∙ laws.failed w h m count f g s k.follows d dead

    still_calm : (fold (watches (mended_in (Some read))) watched_first (take q lines)).calm ≡ true
    still_calm =
        let behind_is : (seen_after x.step_is (sees_server x.before.server x.step_is)
        (injected_after x.before.injected x.step_is.head)
        (through x.before x.step_is (server_step x.before.server x.step_is))).calm ≡ true =
        ap (λ (y : Seen). y.calm) (sym x.seen_is) ∙ k.follows.calm.is_calm in
        let read_is : (through x.before x.step_is (Some read)).calm ≡ true =
        ap (λ (o : Option ServerStep). (through x.before x.step_is o).calm) (sym x.did) ∙ behind_is in
        subst (λ (ls : List Line). (fold (watches (mended_in (Some read))) watched_first ls).calm ≡ true) x.rest read_is

    pub step_runs : (j : ℕ) → j ≤ q → Lawful s first → Lawful t (joined (take j later)) → Behind j
    step_runs j low lf l =
        notes_run t begun f g begun_one.kept.grants pairs w i known (mended_in (Some read)) did.notes (handles lf) did.sends
        (sends_quiet w.server g i did.sends) x.more x.leave did.notes j q t watched_first low (λ y e. e)
        (code_all s first code) l still_calm (first_seen lf)
