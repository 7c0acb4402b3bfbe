-- At each cut what disturbs a column of the machine has its mark.
-- Towards `CutsShowTheirMarks` (`specs/MarksShown.antt`).
use Rattle.std.proofs.Common.{◌≡◌, ◌<◌, ◌+◌, ◌==◌, ◌++◌, ℕ, Bool, true, false, List, [], ◌∷◌, take, map, Option, Some, None, refl, sym, ap, subst, ◌∙◌, inl, inr, arith, le_refl}
use Rattle.std.specs.List.{fold}
use Rattle.std.proofs.lemmas.Bool.{cases_Bool}
use Rattle.data_map.specs.declared.check.RawMap.{RawMap}
use Rattle.data_map.specs.Striping.{parities}
use Rattle.scenario_text.specs.declared.line.Line.{Line}
use Rattle.server_rules.specs.Files.{file_at, Step as ServerStep}
use Rattle.server_rules.specs.History.{Input, step}
use Rattle.server_rules.specs.Laws.{In}
use Rattle.server_rules.proofs.FileLaws.{number_at}
use Rattle.world_history.specs.ServerNames.{File, Note, NoteKind, Rebuilt, Server}
use Rattle.world_history.specs.State.{World, at_number}
use Rattle.world_history.specs.Sending.{Move}
use Rattle.world_history.specs.Stripes.{Moment}
use Rattle.world_history.specs.Book.{server_behind}
use Rattle.world_history.specs.Calm.{Seen, Watched, moment_of, begins, through, watched, watches, mended_in}
use Rattle.world_history.specs.Names.{note_line}
use Rattle.headline_law.specs.Ending.{IsStepSeen, EndsGrants}
use Rattle.history_law.specs.Doing.{input_in, did_in}
use Rattle.fence_law.specs.Columns.{Disturbed, Gone}
use Rattle.fence_law.specs.Law.{IsCode}
use Rattle.fence_law.specs.Machine.{Lawful, after, after_all}
use Rattle.fence_law.specs.State.{State, Event}
use Rattle.fence_law.specs.State.Event.{Rebuilds, Fails, Fenced, Drops, Performs}
use Rattle.plan_law.specs.FileLayout.{layout_of}
use Rattle.file_simulation.specs.ClientEvents.{Going, going_in}
use Rattle.file_simulation.specs.Components.{has_failed}
use Rattle.file_simulation.specs.Cuts.{rebuilt_by, rebuilt_ahead, notes_behind, lines_before}
use Rattle.file_simulation.specs.EventLists.{where_so}
use Rattle.file_simulation.specs.Events.{joined, events_of}
use Rattle.file_simulation.specs.Showing.{Pairs, HasMark, IsRun, ShowsFile}
use Rattle.relation_law.specs.Frames.{AreAll, IsOfClient}
use Rattle.relation_law.specs.Steps.{Follows, owed, behind}
use Rattle.relation_law.proofs.FramesParties.{by_client_lines}
use Rattle.relation_law.proofs.FramesStay.{all_joined, lines_taken, all_as}
use Rattle.headline_law.specs.MarksShown.{IsKept, ClientsKeepMarks, EarlyCutsKeepMarks, DrivesShowMarks, CutsShowTheirMarks}
use Rattle.file_simulation.specs.Tied.{WritesAreTied}
use Rattle.headline_law.specs.Parts.{CutShown, EntriesShown, HasPairs, cut_at, lines_to}
use Rattle.headline_law.proofs.CalmAhead.{layout_all, sure_run, code_all}
use Rattle.headline_law.proofs.CalmCodes.{code_of, file_there}
use Rattle.headline_law.proofs.CalmEvents.{IsPeaceful, PerformsNone}
use Rattle.headline_law.proofs.CalmGone.{gone_stays, uncoded}
use Rattle.headline_law.proofs.CalmNotes.{mark_of}
use Rattle.headline_law.proofs.CalmServer.{MarkLaws, later, t as first_behind}
use Rattle.headline_law.proofs.CalmServers.{IsBehind, cut_behind}
use Rattle.headline_law.proofs.CalmStay.{came_all, gone_all}

-- ---- marks that stay

-- what disturbs a column of s has its mark at moment n
abbrev pub AllMarked : State → Moment → File → Pairs → Type 0
AllMarked s n f pairs = (q : ℕ) (d : Disturbed s q) → HasMark s n f pairs d.0 q

-- for a file with this number and map, by more pairs, and with these marks
pub marked_as : (s : State) (m n : Moment) (f x : File) (old new : Pairs) → x.kept.number ≡ f.kept.number →
    x.kept.map ≡ f.kept.map → HasPairs old new → n.marks ≡ m.marks → (j q : ℕ) → HasMark s m f old j q →
    HasMark s n x new j q
marked_as s m n f x old new number map more marks j q (inl k) = inl (
  k.0,
  more k.0 j k.1,
  subst (λ (a : ℕ). In (mark_of a x.kept.map k.0 q) n.marks) (sym number)
      (subst (λ (r : RawMap). In (mark_of f.kept.number r k.0 q) n.marks) (sym map)
      (subst (In (mark_of f.kept.number f.kept.map k.0 q)) (sym marks) k.2)),
)
marked_as s m n f x old new number map more marks j q (inr gone) = inr (ap parities map ∙ gone.0, gone.1)

-- behind events that perform nothing
marked_over : (s : State) (es : List Event) (n : Moment) (f : File) (pairs : Pairs) → AreAll PerformsNone es →
    ((q : ℕ) → parities f.kept.map ≡ 0 → Disturbed (after_all s es) q → Gone s q → Gone (after_all s es) q) →
    AllMarked s n f pairs → AllMarked (after_all s es) n f pairs
marked_over s es n f pairs none gone all q d =
    let c = came_all s es none q d in
    subst (λ (j : ℕ). HasMark (after_all s es) n f pairs j q) c.1 (elim (all q c.0) [
      | inl k ↦ inl k
      | inr x ↦ inr (x.0, gone q x.0 d x.1)
    ])

-- ---- a rebuild that is still to be told

module _ (tag : ℕ) (n : Moment) (f : File) (pairs : Pairs) where
  rebuilt_marked : (s : State) (failed : Bool) (k : ℕ) (cells : ℕ → ℕ) → s.layout ≡ layout_of f.kept.map tag →
      IsCode s.layout → IsRun s → Lawful s (Rebuilds k cells ∷ where_so failed (Fails k ∷ [])) → AllMarked s n f pairs →
      AllMarked (after_all s (Rebuilds k cells ∷ where_so failed (Fails k ∷ []))) n f pairs
  rebuilt_marked s failed k cells layout code run l all = by failed
    where
      gone : (q : ℕ) → parities f.kept.map ≡ 0 → Disturbed (after s (Rebuilds k cells)) q → Gone s q →
          Gone (after s (Rebuilds k cells)) q
      gone q none d x =
          gone_stays s (Rebuilds k cells) l.0 (sure_run s code run) q (uncoded f.kept.map tag s q layout none)
          (came_all s (Rebuilds k cells ∷ []) (tt, tt) q d).0 x

      by : (b : Bool) → AllMarked (after_all s (Rebuilds k cells ∷ where_so b (Fails k ∷ []))) n f pairs
      by true = marked_over s (Rebuilds k cells ∷ Fails k ∷ []) n f pairs (tt, (tt, tt)) (λ q none d x. gone q none d x) all
      by false = marked_over s (Rebuilds k cells ∷ []) n f pairs (tt, tt) (λ q none d x. gone q none d x) all

  by_kind : (s : State) (w : World) (kind : NoteKind) → s.layout ≡ layout_of f.kept.map tag → IsCode s.layout → IsRun s →
      Lawful s (rebuilt_by s w f kind) → AllMarked s n f pairs → AllMarked (after_all s (rebuilt_by s w f kind)) n f pairs
  by_kind s w (Rebuilt k d) layout code run l all =
      rebuilt_marked s (has_failed (at_number w.drives d)) k _ layout code run l all
  by_kind s w kind layout code run l all = all

  ahead_marked : (s : State) (w : World) (ns : List Note) → s.layout ≡ layout_of f.kept.map tag → IsCode s.layout →
      IsRun s → Lawful s (rebuilt_ahead s w f ns) → AllMarked s n f pairs →
      AllMarked (after_all s (rebuilt_ahead s w f ns)) n f pairs
  unfolding rebuilt_ahead
  ahead_marked s w [] layout code run l all = all
  ahead_marked s w (x ∷ ns) layout code run l all = elim (cases_Bool (x.file == f.kept.number)) [
    | inl t ↦ rw t (by_kind s w x.kind layout code run (rw t at l) all)
    | inr z ↦ rw z (ahead_marked s w ns layout code run (rw z at l) all)
  ]

-- ---- a client's events

performs_none : (c : ℕ) (e : Event) → IsOfClient c e → PerformsNone e
performs_none c (Performs m) is = absurd is
performs_none c e is = tt

is_peaceful : (c : ℕ) (e : Event) → IsOfClient c e → IsPeaceful e
is_peaceful c Fenced is = absurd is
is_peaceful c (Drops k) is = absurd is
is_peaceful c (Fails k) is = absurd is
is_peaceful c e is = tt

-- ---- any cut

module _ (laws : MarkLaws) (clients : ClientsKeepMarks) (early : EarlyCutsKeepMarks) (drives : DrivesShowMarks) (w : World)
    (h : List Line) (m : Move) (count : ℕ) (f g : File) (s : State) (pairs : Pairs)
    (k : CutShown w h m count f g s pairs) (writes : WritesAreTied w h s f pairs)
    (more : EntriesShown (lines_to w h m count) (cut_at k.shown.follows) f.kept.number pairs) (y : File)
    (found : file_at (moment_of (lines_to w h m count)).server.files f.kept.number ≡ Some y) where
  abbrev follows : Follows w h m count f g s
  follows = k.shown.follows

  abbrev b : State
  b = behind follows.related m count

  abbrev events : List Event
  events = joined (take count (events_of s w (owed follows.related) f m))

  abbrev cut : Moment
  cut = moment_of (lines_to w h m count)

  code : IsCode s.layout
  code = code_of laws.book w h m count f g s follows

  shown : ShowsFile h s pairs f
  shown = k.shown.shown.shown f (file_there laws.book w h m count f g s follows)

  -- the file at the cut has the map, and what disturbs a column has its mark
  abbrev IsMarked : State → Type 0
  IsMarked z = (y.kept.map ≡ f.kept.map) × AllMarked z cut f more.pairs

  map_before : cut.server ≡ w.server → y.kept.map ≡ f.kept.map
  map_before same =
      let one : Some y ≡ Some f =
      sym found ∙ ap (λ (z : Server). file_at z.files f.kept.number) same ∙ follows.there in
      let is : y ≡ f = cc one in
      ap (λ (z : File). z.kept.map) is

  -- as before, where nothing is performed
  before_marked : AreAll PerformsNone events →
      ((q : ℕ) → parities f.kept.map ≡ 0 → Disturbed b q → Gone s q → Gone b q) → IsKept w h cut → IsMarked b
  before_marked none gone kept = (
    map_before kept.1,
    λ q d.
        marked_as b (moment_of h) cut f f pairs more.pairs refl refl more.more kept.0 d.0 q
        (marked_over s events (moment_of h) f pairs none gone shown.marks q d),
  )

  client_marked : (j : Going) → going_in w m.action ≡ Some j → IsMarked b
  client_marked j goes =
      let own : AreAll (IsOfClient j.client) events =
      all_joined (IsOfClient j.client) (take count (events_of s w (owed follows.related) f m))
      (lines_taken (IsOfClient j.client) count (events_of s w (owed follows.related) f m)
      (by_client_lines s w (owed follows.related) f m j goes)) in
      let none : AreAll PerformsNone events =
      all_as (IsOfClient j.client) PerformsNone (performs_none j.client) events own in
      before_marked none
      (λ q plain d gone.
      gone_all s events code follows.run (all_as (IsOfClient j.client) IsPeaceful (is_peaceful j.client) events own) none
      k.lawful q (uncoded f.kept.map f.kept.first_tag s q follows.related.layout plain) d gone)
      (clients w h m count f g s follows j goes)

  -- the server's step, as it is read at the cut
  module _ (i : Input) (is : input_in w m.action ≡ Some i) where
    early_marked : count < lines_before m.action → events ≡ [] → IsMarked b
    early_marked low none =
        let kept : IsKept w h cut = early w h m count f g s follows i is low in
        subst IsMarked (sym (ap (after_all s) none)) (
          map_before kept.1,
          λ q d. marked_as s (moment_of h) cut f f pairs more.pairs refl refl more.more kept.0 d.0 q (shown.marks q d),
        )

    module _ (p : IsBehind laws w h m count f g s pairs k.shown i is count) where
      abbrev x : IsStepSeen w h m count p.lines i
      x = laws.seen w h m count f g s follows i is p.lines p.whole

      abbrev read : ServerStep
      read = step w.server x.placed i

      abbrev told : List Line
      told = map note_line (step w.server m.chosen i).notes ++ x.more

      abbrev first : Watched
      first = watched (record { moment = x.before.moment; calm = x.before.calm }) (begins x.before x.step_is (Some read))

      cut_marks : cut.marks ≡ (fold (watches (mended_in (Some read))) first (take p.place told)).moment.marks
      cut_marks =
          let whole : count ≡ lines_before m.action + p.lines = p.whole in
          let there : count ≡ lines_before m.action + p.place = p.there in
          let same : p.lines ≡ p.place = omega (arith, whole, there) in
          ap (λ (y : Seen). y.moment.marks) x.seen_is
          ∙ ap (λ (o : Option ServerStep). (through x.before x.step_is o).moment.marks) x.did
          ∙ ap (λ (ls : List Line). (fold (watches (mended_in (Some read))) first ls).moment.marks) x.rest
          ∙ ap (λ (c : ℕ). (fold (watches (mended_in (Some read))) first (take c told)).moment.marks) same

      abbrev there : State
      there =
          after_all (first_behind laws w h m count f g s pairs k.shown i is)
          (joined (take p.place (later laws w h m count f g s pairs k.shown i is)))

      abbrev ends : EndsGrants w.server m.chosen x.placed i f g
      ends = laws.grants w h m count f g s follows i is x.named x.placed

      map_behind : y.kept.map ≡ f.kept.map
      map_behind =
          let server : cut.server ≡ read.state =
          ap (λ (z : Seen). z.moment.server) x.seen_is ∙ ap (server_behind x.before.server.server) x.did in
          let one : Some y ≡ Some ends.file =
          sym found ∙ ap (λ (z : Server). file_at z.files f.kept.number) server ∙ ends.there in
          let is_ : y ≡ ends.file = cc one in
          ap (λ (z : File). z.kept.map) is_ ∙ ends.map_stays

      late_marked : IsMarked b
      late_marked =
          subst IsMarked (sym p.state) (
            map_behind,
            λ q d.
                marked_as there (fold (watches (mended_in (Some read))) first (take p.place told)).moment cut
                p.behind.1.file f pairs
                more.pairs (sym p.behind.1.number) (sym p.behind.1.map) more.more cut_marks d.0 q (p.behind.1.marks q d),
          )

    server_marked : IsMarked b
    server_marked =
        elim (cut_behind laws w h m count f g s pairs k.shown i is count (le_refl count) k.lawful) [
          | inl none ↦ early_marked none.0 none.1
          | inr p ↦ late_marked p
        ]

  behind_marked : IsMarked b
  behind_marked = by (going_in w m.action) refl (input_in w m.action) refl
    where
      by : (o : Option Going) → going_in w m.action ≡ o → (p : Option Input) → input_in w m.action ≡ p →
          IsMarked b
      by (Some j) goes p is = client_marked j goes
      by None goes (Some i) is = server_marked i is
      by None goes None is = drives w h m count f g s pairs k writes goes is more y found

  cut_marked : AllMarked (cut_at follows) cut f more.pairs
  cut_marked =
      ahead_marked f.kept.first_tag cut f more.pairs b w (notes_behind count m.action (did_in w m))
      (layout_all s events ∙ follows.related.layout) (code_all s events code) k.run k.ahead_lawful behind_marked.1

pub cuts_show_marks : MarkLaws → ClientsKeepMarks → EarlyCutsKeepMarks → DrivesShowMarks → CutsShowTheirMarks
cuts_show_marks laws clients early drives w h m count f g s pairs k writes more x found q d =
    marked_as (cut_at k.shown.follows) (moment_of (lines_to w h m count)) (moment_of (lines_to w h m count)) f x more.pairs
    more.pairs (number_at (moment_of (lines_to w h m count)).server.files f.kept.number x found)
    (behind_marked laws clients early drives w h m count f g s pairs k writes more x found).0 (λ i j p. p) refl d.0 q
    (cut_marked laws clients early drives w h m count f g s pairs k writes more x found q d)
