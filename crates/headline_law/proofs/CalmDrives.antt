-- A move of a drive keeps a run of the machine calm. Where a drive fails, the moment at which its step begins is looked at.
-- Towards `DrivesKeepRuns` (`specs/Parts.antt`).
use Rattle.std.proofs.Common.{◌≡◌, ◌+◌, ◌==◌, ◌++◌, ◌||◌, not, ℕ, zero, suc, Bool, true, false, List, [], ◌∷◌, take, find, slice_get, Option, Some, None, Result, Ok, Err, refl, sym, ap, subst, ◌∙◌, inl, inr, arith, append-nil, if◌then◌else◌}
use Rattle.std.specs.List.{fold}
use Rattle.std.proofs.lemmas.Bool.{cases_Bool, cases_eq}
use Rattle.osd_lists.specs.declared.node.Node.{Node}
use Rattle.osd_lists.specs.declared.node.Node.TheVariants as node
use Rattle.osd_lists.proofs.Tests.{second_true}
use Rattle.osd_commands.specs.declared.actions.Action.{Action}
use Rattle.osd_commands.specs.declared.actions.Action.TheVariants.{Read, Write, SetTag}
use Rattle.osd_commands.specs.declared.commands.Command.{Command}
use Rattle.osd_commands.specs.declared.commands.CommandErr.{CommandErr}
use Rattle.scenario_text.specs.declared.event.Event.{Event as Told}
use Rattle.scenario_text.specs.declared.event.Event.TheVariants as scenario
use Rattle.scenario_text.specs.declared.line.Line.{Line}
use Rattle.scenario_text.specs.declared.line.Line.TheVariants as line
use Rattle.server_rules.specs.Files.{file_at}
use Rattle.server_rules.specs.Laws.{In}
use Rattle.server_rules.specs.Numbers.{among}
use Rattle.world_history.specs.declared.messages.Message.{Message}
use Rattle.world_history.specs.declared.messages.Posted.{Posted}
use Rattle.world_history.specs.ServerNames.{File, Component}
use Rattle.world_history.specs.State.{World, DriveAt, at_number}
use Rattle.world_history.specs.Drives.{verdict_on, is_deaf, command_in}
use Rattle.world_history.specs.Stripes.{Moment, Mark, component_at, is_lost, is_calm}
use Rattle.world_history.specs.Moves as moves
use Rattle.world_history.specs.Moves.{Opens, Delivers, TimesOut, Pends}
use Rattle.world_history.specs.Sending.{Move, sent_lines}
use Rattle.world_history.specs.Reading.{Step}
use Rattle.world_history.specs.Book.{ServerSeen}
use Rattle.world_history.specs.Calm.{Seen, seen, sees, calm, begins, moment_of}
use Rattle.world_history.specs.Laws.{MomentGoesOn}
use Rattle.history_law.specs.BookMoments.{lines_in}
use Rattle.history_law.specs.Read.{BookIsRead, leads}
use Rattle.fence_law.specs.Columns.{IsCalm}
use Rattle.fence_law.specs.Law.{IsCode}
use Rattle.fence_law.specs.Machine.{Lawful, after, after_all}
use Rattle.fence_law.specs.State.{State, Event}
use Rattle.fence_law.specs.State.Event.{Fails}
use Rattle.fence_law.proofs.Words.{updated_other}
use Rattle.plan_law.specs.FileLayout.{layout_of}
use Rattle.file_simulation.specs.DriveEvents as drive
use Rattle.file_simulation.specs.EventLists.{Lines, where_so}
use Rattle.file_simulation.specs.Events.{joined, events_of, led_by}
use Rattle.file_simulation.specs.Showing.{Pairs, IsRun, ShowsFile}
use Rattle.relation_law.specs.Frames.{AreAll}
use Rattle.relation_law.specs.Steps.{owed}
use Rattle.headline_law.specs.Marks.{IsWatched, AreLeft}
use Rattle.headline_law.specs.Parts.{FollowsShown, DrivesKeepRuns}
use Rattle.headline_law.proofs.CalmAhead.{run_on, run_peaceful}
use Rattle.headline_law.proofs.CalmCodes.{one_alone, code_of, map_checked, has_all, file_there, server_seen_is}
use Rattle.headline_law.proofs.CalmEvents.{IsPeaceful}
use Rattle.headline_law.proofs.CalmLeft.{left_before, marked_before}
use Rattle.headline_law.proofs.CalmStripes.{calm_there}

-- ---- what a drive performs

pub where_all : (P : Event → Type 0) (b : Bool) (es : List Event) → AreAll P es → AreAll P (where_so b es)
where_all P true es all = all
where_all P false es all = tt

module _ (s : State) (w : World) (e : ℕ → ℕ) (f : File) where
  of_client_so : (k c : ℕ) (x : Command) (a : Action) → AreAll IsPeaceful (drive.of_client s w f.kept.number k c x a)
  of_client_so k c x Read = where_all IsPeaceful (drive.is_running f.kept.number x.nonce _) _ (tt, tt)
  of_client_so k c x Write = by (find (drive.is_write c k x.nonce) s.writes)
    where
      by : (o : Option _) → AreAll IsPeaceful (drive.performs o)
      by None = tt
      by (Some m) = (tt, tt)
  of_client_so k c x a = tt

  of_server_so : (k : ℕ) (x : Command) (a : Action) → AreAll IsPeaceful (drive.of_server e k x a)
  of_server_so k x SetTag = (tt, tt)
  of_server_so k x Write = (tt, tt)
  of_server_so k x a = tt

  performed_so : (k : ℕ) (x : Command) (from : Node) → AreAll IsPeaceful (drive.performed_of s w e f.kept.number k x from)
  performed_so k x (node.Client c) = of_client_so k c x x.action
  performed_so k x node.Server = of_server_so k x x.action
  performed_so k x (node.Drive d) = tt

  on_so : (x : Command) (from : Node) (o : Option ℕ) → AreAll IsPeaceful (drive.performed_on s w e f x from o)
  on_so x from None = tt
  on_so x from (Some k) = where_all IsPeaceful (not (s.lost k)) _ (performed_so k x from)

  judged_so : (d : ℕ) (a : DriveAt) (from : Node) (r : Result Command CommandErr) →
      AreAll IsPeaceful (drive.judged s w e f d a from r)
  judged_so d a from (Err cause) = tt
  judged_so d a from (Ok x) =
      where_all IsPeaceful (drive.is_performed (verdict_on a.state a.clock (Ok x))) _
      (on_so x from (component_at d x.object f.kept.components 0))

  heard_so : (d : ℕ) (m : Message) (o : Option DriveAt) → AreAll IsPeaceful (drive.heard s w e f d m o)
  heard_so d m None = tt
  heard_so d m (Some a) = where_all IsPeaceful (not (is_deaf a)) _ (judged_so d a m.from (command_in m.body))

  at_so : (m : Message) (to : Node) → AreAll IsPeaceful (drive.heard_at s w e f m to)
  at_so m (node.Drive d) = heard_so d m (at_number w.drives d)
  at_so m (node.Client c) = tt
  at_so m node.Server = tt

  pub delivered_so : (o : Option Posted) → AreAll IsPeaceful (drive.delivered s w e f o)
  delivered_so None = tt
  delivered_so (Some p) = at_so p.message p.message.to

-- ---- a drive fails

-- the moment at which the step begins
abbrev failing : List Line → (d : ℕ) → Moment
failing h d = begins (seen h) (record { head = line.Event (scenario.Fail d); rest = [] }) None

calm_failing : MomentGoesOn → (h : List Line) (d : ℕ) → calm (h ++ line.Event (scenario.Fail d) ∷ []) ≡ true →
    is_calm (failing h d) ≡ true
calm_failing goes h d is =
    let t : Step = record { head = line.Event (scenario.Fail d); rest = [] } in
    let behind : seen (h ++ line.Event (scenario.Fail d) ∷ []) ≡ sees (seen h) t =
    goes h (line.Event (scenario.Fail d) ∷ []) refl
    ∙ ap (λ (ts : List Step). fold sees (seen h) ts) (one_alone (line.Event (scenario.Fail d)) [] refl tt) in
    second_true (seen h).calm (is_calm (failing h d)) (ap (λ (x : Seen). x.calm) (sym behind) ∙ is)

module _ (book : BookIsRead) (goes : MomentGoesOn) (w : World) (h : List Line) (m : Move) (count : ℕ) (f g : File)
    (s : State) (pairs : Pairs) (k : FollowsShown w h m count f g s pairs) (d : ℕ)
    (here : is_calm (failing h d) ≡ true) where
  abbrev shown_file : ShowsFile h s pairs f
  shown_file = k.shown.shown f (file_there book w h m count f g s k.follows)

  abbrev Good : State → Type 0
  Good t = (t.layout ≡ layout_of f.kept.map f.kept.first_tag) × IsWatched t (failing h d) f pairs
      × AreLeft t (failing h d) f pairs

  lost_more : (at : Component) → is_lost (moment_of h) at ≡ true → is_lost (failing h d) at ≡ true
  unfolding among
  lost_more at is = by at.missing (at.drive == d) (among at.drive (moment_of h).failed) is
    where
      by : (a b c : Bool) → (a || c) ≡ true → (a || (b || c)) ≡ true
      by true b c e = refl
      by false true c e = refl
      by false false c e = e

  lost_now : (at : Component) → (at.drive == d) ≡ true → is_lost (failing h d) at ≡ true
  unfolding among
  lost_now at is = rw is (or_true at.missing)
    where
      or_true : (a : Bool) → (a || true) ≡ true
      or_true true = refl
      or_true false = refl

  good_first : Good s
  good_first = (
    k.follows.related.layout,
    record {
      there =
          ap (λ (x : ServerSeen). file_at x.server.files f.kept.number) (server_seen_is book w h m count f g s k.follows)
          ∙ k.follows.there;
      long = has_all book w h m count f g s k.follows;
      lost = λ i at found is. lost_more at ((shown_file.components i at found).lost is);
      marks = λ x t.
          marked_before s (moment_of h) (failing h d) f pairs
          (λ (y : Mark) (i : In y (moment_of h).marks).
          subst (In y) (sym (append-nil (moment_of h).marks)) i) t.0 x (shown_file.marks x t);
    },
    left_before h s f pairs k.shown k.over (failing h d) refl,
  )

  good_on : (t : State) (j : ℕ) (at : Component) → slice_get f.kept.components j ≡ Some at → (at.drive == d) ≡ true →
      Good t → Good (after t (Fails j))
  good_on t j at found is good = (
    good.0,
    record {
      there = good.1.there;
      long = good.1.long;
      lost = λ i b got gone. elim (cases_eq i j) [
        | inl same ↦
            let both : at ≡ b = cc (sym found ∙ ap (slice_get f.kept.components) (sym same) ∙ got) in
            subst (λ (y : Component). is_lost (failing h d) y ≡ true) both (lost_now at is)
        | inr other ↦ good.1.lost i b got (sym (updated_other t.lost j true i other) ∙ gone)
      ];
      marks = good.1.marks;
    },
    good.2,
  )

  calm_good : (t : State) → Good t → IsCalm t
  calm_good t good =
      calm_there f.kept.first_tag t (failing h d) f pairs (map_checked book w h m count f g s k.follows) good.0 good.1 good.2
      here

  fails_run : (cs : List Component) (n : ℕ) (t : State) →
      ((i : ℕ) (at : Component) → slice_get cs i ≡ Some at → slice_get f.kept.components (n + i) ≡ Some at) →
      IsRun t → Good t → IsRun (after_all t (drive.fails_from d cs n))
  unfolding drive.fails_from
  fails_run [] n t at run good = run
  fails_run (c ∷ cs) n t at run good = elim (cases_Bool (c.drive == d)) [
    | inl is ↦
        let found : slice_get f.kept.components n ≡ Some c =
        ap (slice_get f.kept.components) (let e : n ≡ n + 0 = omega arith in e) ∙ at 0 c refl in
        let on : Good (after t (Fails n)) = good_on t n c found is good in
        rw is (fails_run cs (n + 1) (after t (Fails n)) later (run_on t (Fails n) run tt (calm_good (after t (Fails n)) on)) on)
    | inr z ↦ rw z (fails_run cs (n + 1) t later run good)
  ]
    where
      later : (i : ℕ) (b : Component) → slice_get cs i ≡ Some b → slice_get f.kept.components (n + 1 + i) ≡ Some b
      later i b e = ap (slice_get f.kept.components) (let o : n + 1 + i ≡ n + suc i = omega arith in o) ∙ at (suc i) b e

  pub drive_fails : IsRun (after_all s (drive.fails_from d f.kept.components 0))
  drive_fails =
      fails_run f.kept.components 0 s
      (λ i at e. ap (slice_get f.kept.components) (let o : 0 + i ≡ i = omega arith in o) ∙ e) k.follows.run good_first

-- ---- any move of a drive

pub none_joined : (n : ℕ) → joined (take n []) ≡ []
none_joined zero = refl
none_joined (suc n) = refl

-- the events of one line, if it is there
run_line : (s : State) (n : ℕ) (es : List Event) → IsRun s → (Lawful s es → IsRun (after_all s es)) →
    Lawful s (joined (take n (es ∷ []))) → IsRun (after_all s (joined (take n (es ∷ []))))
run_line s zero es run goes l = run
run_line s (suc n) es run goes l =
    let same : es ++ joined (take n []) ≡ es = ap (λ (ys : List Event). es ++ ys) (none_joined n) ∙ append-nil es in
    subst (λ (ys : List Event). IsRun (after_all s ys)) (sym same) (goes (subst (Lawful s) same l))

-- behind the line of an event that leads
run_led : (s : State) (n : ℕ) (b : Bool) (lines : Lines) → IsRun s →
    ((i : ℕ) → Lawful s (joined (take i lines)) → IsRun (after_all s (joined (take i lines)))) →
    Lawful s (joined (take n (if b then [] ∷ lines else lines))) →
    IsRun (after_all s (joined (take n (if b then [] ∷ lines else lines))))
run_led s n false lines run goes l = goes n l
run_led s zero true lines run goes l = run
run_led s (suc n) true lines run goes l = goes n l

fail_alone : (w : World) (chosen : List ℕ) (d : ℕ) (n : ℕ) →
    take (suc n) (lines_in w (record { action = Opens (scenario.Fail d); chosen = chosen })) ≡
    line.Event (scenario.Fail d) ∷ []
unfolding moves.begins sent_lines
fail_alone w chosen d zero = refl
fail_alone w chosen d (suc n) = refl

module _ (book : BookIsRead) (goes : MomentGoesOn) where
  pub drives_keep_runs : DrivesKeepRuns
  drives_keep_runs w h m count f g s pairs k none nothing lawful =
      subst (λ (ls : Lines). IsRun (after_all s (joined (take count ls)))) (sym lines)
      (by m.action refl count refl (subst (λ (ls : Lines). Lawful s (joined (take count ls))) lines lawful))
    where
      e : ℕ → ℕ
      e = owed k.follows.related

      lines : events_of s w e f m ≡ led_by m.action (drive.drive_events s w e f m.action)
      lines = rw (none, nothing) refl

      code : IsCode s.layout
      code = code_of book w h m count f g s k.follows

      peaceful : (es : List Event) → AreAll IsPeaceful es → Lawful s es → IsRun (after_all s es)
      peaceful es all l = run_peaceful s es code k.follows.run all l

      fails : (d n : ℕ) → m.action ≡ Opens (scenario.Fail d) → count ≡ suc n →
          IsRun (after_all s (drive.fails_from d f.kept.components 0))
      fails d n is some =
          let here : take count (lines_in w m) ≡ line.Event (scenario.Fail d) ∷ [] =
          ap (λ (c : ℕ). take c (lines_in w m)) some
          ∙ ap (λ (a : moves.Action). take (suc n) (lines_in w (record { action = a; chosen = m.chosen }))) is
          ∙ fail_alone w m.chosen d n in
          drive_fails book goes w h m count f g s pairs k d
          (calm_failing goes h d
          (subst (λ (ls : List Line). calm (h ++ ls) ≡ true) here k.follows.calm.is_calm))

      opens : (x : Told) (n : ℕ) → m.action ≡ Opens x → count ≡ n →
          Lawful s (joined (take n (led_by (Opens x) (drive.opened s w e f x ∷ [])))) →
          IsRun (after_all s (joined (take n (led_by (Opens x) (drive.opened s w e f x ∷ [])))))
      opens (scenario.Fail d) zero is c l = k.follows.run
      opens (scenario.Fail d) (suc n) is c l =
          run_line s (suc n) (drive.fails_from d f.kept.components 0) k.follows.run (λ all. fails d n is c) l
      opens (scenario.Deliver number) n is c l =
          run_led s n (leads (scenario.Deliver number)) _ k.follows.run
          (λ i. run_line s i _ k.follows.run (peaceful _ (delivered_so s w e f (slice_get w.network.messages number)))) l
      opens (scenario.Inject d bytes) n is c l =
          run_led s n (leads (scenario.Inject d bytes)) _ k.follows.run
          (λ i. run_line s i _ k.follows.run
          (peaceful _ (delivered_so s w e f (find (drive.is_sent_as d bytes) w.network.messages)))) l
      opens x n is c l =
          run_led s n (leads x) _ k.follows.run
          (λ i. run_line s i (drive.opened s w e f x) k.follows.run (peaceful (drive.opened s w e f x) tt)) l

      by : (a : moves.Action) → m.action ≡ a → (n : ℕ) → count ≡ n →
          Lawful s (joined (take n (led_by a (drive.drive_events s w e f a)))) →
          IsRun (after_all s (joined (take n (led_by a (drive.drive_events s w e f a)))))
      by (Opens x) is n c l = opens x n is c l
      by (Delivers number) is n c l =
          run_line s n _ k.follows.run (peaceful _ (delivered_so s w e f (slice_get w.network.messages number))) l
      by (TimesOut c j) is n same l =
          subst (λ (ys : List Event). IsRun (after_all s ys)) (sym (none_joined n)) k.follows.run
      by (Pends c) is n same l =
          subst (λ (ys : List Event). IsRun (after_all s ys)) (sym (none_joined n)) k.follows.run
