-- A cut of a move at which a file is there that wasn't before: the move's event makes it, with some drives, and no drive changes.
-- Towards `EachCreationIsShown` (`file_simulation/specs/Simulation.antt`).
use Rattle.std.proofs.Common.{◌≡◌, ◌<◌, ◌++◌, ℕ, zero, suc, Bool, true, false, List, [], ◌∷◌, Option, Some, None, take, refl, sym, ap, subst, ◌∙◌, inl, inr}
use Rattle.std.specs.List.{fold}
use Rattle.std.proofs.lemmas.Bool.{cases_Bool}
use Rattle.data_map.specs.declared.check.RawMap.{RawMap}
use Rattle.scenario_text.specs.declared.event.Event.{Event}
use Rattle.scenario_text.specs.declared.event.Event.TheVariants as event
use Rattle.scenario_text.specs.declared.line.Line.{Line}
use Rattle.scenario_text.specs.declared.names.TheConstants.{FILES}
use Rattle.scenario_text.specs.declared.line.Line.TheVariants as line
use Rattle.server_rules.specs.Files.{file_at}
use Rattle.server_rules.specs.History.{Input, Makes, step}
use Rattle.world_history.specs.ServerNames.{Server, File}
use Rattle.world_history.specs.State.{World}
use Rattle.world_history.specs.Moves.{Action, Opens, Delivers, TimesOut, Pends, acts, begins, raw_of, has_algorithm}
use Rattle.world_history.specs.Plans.{due}
use Rattle.world_history.specs.Sending.{Move, move, sends_all}
use Rattle.world_history.specs.Reading.{Step, steps_of}
use Rattle.world_history.specs.ReadDrives.{drive_after}
use Rattle.world_history.specs.Book.{ServerSeen, made_of, input_of, step_by, server_behind, placed_in, sees_server}
use Rattle.world_history.specs.Calm.{Seen, seen, sees, moment_of, first_seen}
use Rattle.world_history.specs.Laws.{MomentGoesOn}
use Rattle.history_law.specs.Moments.{IsMoment, plan_at, lines_in, with_event}
use Rattle.history_law.specs.Read.{BookIsRead, server_of}
use Rattle.component_law.specs.LeftPending.{PendingIsRead}
use Rattle.component_law.specs.Going.{EachStepTells}
use Rattle.component_law.specs.Naming.{IsNamed, AreNamed}
use Rattle.component_law.specs.Sound.{IsSound, EachStepIsSound}
use Rattle.component_law.specs.Words.{Each}
use Rattle.component_law.proofs.Moments.{each_second}
use Rattle.component_law.proofs.SeenServer.{seen_server}
use Rattle.component_law.proofs.MoveOpening.{begins_bare}
use Rattle.component_law.proofs.Shapes.{Bare, sent_bare}
use Rattle.cause_law.specs.Lines.{is_event}
use Rattle.cause_law.proofs.Eventless.{NoEvent, first_plain}
use Rattle.file_simulation.specs.Claim.{IsOfScenario}
use Rattle.file_simulation.proofs.Fronts.{move_begun}
use Rattle.headline_law.proofs.CalmCodes.{one_alone, server_shown}
use Rattle.headline_law.proofs.CalmCuts.{bare_taken}
use Rattle.headline_law.proofs.CreationSteps.{GoesOver, goes_over, MakesNone, comes_making, none_comes}
use Rattle.headline_law.proofs.OtherCutsLines.{TellsNone, bare_none, none_more}
use Rattle.headline_law.proofs.ShownFailed.{move_plain}

-- ---- lines

-- lines with which no event begins make no file
plain_none : (ls : List Line) → NoEvent ls → Each MakesNone ls
plain_none [] none = tt
plain_none (l ∷ ls) none =
    let r = first_plain l ls none in (one l r.0, plain_none ls r.1)
  where
    one : (x : Line) → is_event x ≡ false → MakesNone x
    one (line.Event e) h = absurd (cc h)
    one x h = tt

each_taken : (P : Line → Type 0) (n : ℕ) (ls : List Line) → Each P ls → Each P (take n ls)
each_taken P zero ls all = tt
each_taken P (suc n) [] all = tt
each_taken P (suc n) (l ∷ ls) all = (all.0, each_taken P n ls all.1)

-- ---- the server's step

-- The file is there behind a step of the server that makes it on some drives, and no drive is another than before.
pub record IsMadeAt (w : World) (h lines : List Line) (f : File) : Type 0 where
  pub map : RawMap
  pub tag : ℕ
  pub zoned : Bool
  pub placed : List ℕ
  pub there : file_at (step w.server placed (Makes f.kept.number map tag zoned)).state.files f.kept.number ≡ Some f
  pub drives : (d : ℕ) → drive_after lines d ≡ drive_after h d

-- what is known of histories
pub record ReadLaws : Type 0 where
  pub book : BookIsRead
  pub moments : MomentGoesOn
  pub pending : PendingIsRead
  pub tells : EachStepTells
  pub sound : EachStepIsSound

module _ (laws : ReadLaws) (w : World) (h : List Line) (k : IsMoment w h) (before : IsOfScenario h) where
  -- the server that is read
  seen_is : (seen h).server ≡ server_of w
  seen_is = seen_server first_seen (steps_of h) ∙ laws.book w h k before.written

  shown_is : (ls : List Line) → (moment_of (h ++ ls)).server ≡ (seen (h ++ ls)).server.server
  shown_is ls = server_shown first_seen (steps_of (h ++ ls)) refl

  -- that of the moment behind further lines
  pub server_over : (P : Line → Type 0) (ls : List Line) (on : GoesOver P h ls) →
      (moment_of (h ++ ls)).server ≡ (fold sees_server (server_of w) on.steps).server
  server_over P ls on =
      shown_is ls ∙ ap (λ (s : ServerSeen). s.server) on.server
      ∙ ap (λ (s : ServerSeen). (fold sees_server s on.steps).server) seen_is

module _ (laws : ReadLaws) (w : World) (h : List Line) (k : IsMoment w h) (m : Move)
    (is_due : due (plan_at k) w ≡ Some m.action) (before : IsOfScenario h) (sound : IsSound w.server) where
  module _ (f : File) (absent : file_at w.server.files f.kept.number ≡ None) where
    abbrev n : ℕ
    n = f.kept.number

    -- a cut with no line of an event that makes a file
    none_there : (count : ℕ) → AreNamed (take count (lines_in w m)) → Each MakesNone (take count (lines_in w m)) →
        file_at (moment_of (h ++ take count (lines_in w m))).server.files n ≡ Some f → ⊥
    none_there count named none there =
        let on : GoesOver (λ (l : Line). IsNamed l × MakesNone l) h (take count (lines_in w m)) =
        goes_over laws.moments laws.pending (λ (l : Line). IsNamed l × MakesNone l) h (take count (lines_in w m))
        (move_begun w m count) (both (take count (lines_in w m)) named none) in
        let heads = apart on.steps on.heads in
        cc (sym (none_comes laws.tells laws.sound n (server_of w) on.steps sound heads.0 heads.1 absent)
        ∙ ap (λ (s : Server). file_at s.files n)
        (sym (server_over laws w h k before (λ (l : Line). IsNamed l × MakesNone l) (take count (lines_in w m)) on))
        ∙ there)
      where
        both : (ls : List Line) → AreNamed ls → Each MakesNone ls → Each (λ (l : Line). IsNamed l × MakesNone l) ls
        both [] a b = tt
        both (l ∷ ls) a b = ((a.0, b.0), both ls a.1 b.1)

        apart : (ts : List Step) → Each (λ (t : Step). IsNamed t.head × MakesNone t.head) ts →
            Each (λ (t : Step). IsNamed t.head) ts × Each (λ (t : Step). MakesNone t.head) ts
        apart [] a = (tt, tt)
        apart (t ∷ ts) a = let r = apart ts a.1 in ((a.0.0, r.0), (a.0.1, r.1))

    -- the first lines of an event
    first_is : (e : Event) → m.action ≡ Opens e → (q : ℕ) →
        take (suc q) (lines_in w m) ≡ line.Event e ∷ take q (sends_all (begins w m.chosen e)).lines
    first_is e act q = ap (λ (a : Action). take (suc q) (with_event a (sends_all (acts w m.chosen a)).lines)) act

    -- an event that makes a file
    module _ (e : Event) (i : ℕ) (map : RawMap) (tag : ℕ) (zoned : Bool) (q : ℕ) (act : m.action ≡ Opens e)
        (input : input_of e ≡ made_of i map tag zoned) (bare : Bare (begins w m.chosen e).told) (named : i < FILES)
        (plain_line : TellsNone (line.Event e))
        (there : file_at (moment_of (h ++ take (suc q) (lines_in w m))).server.files n ≡ Some f) where
      abbrev rest : List Line
      rest = take q (sends_all (begins w m.chosen e)).lines

      cut : take (suc q) (lines_in w m) ≡ line.Event e ∷ rest
      cut = first_is e act q

      rest_bare : Bare rest
      rest_bare = bare_taken q (sends_all (begins w m.chosen e)).lines (sent_bare (begins w m.chosen e) bare)

      server_is : (moment_of (h ++ take (suc q) (lines_in w m))).server
          ≡ server_behind w.server (step_by w.server (placed_in rest) (made_of i map tag zoned))
      server_is =
          shown_is laws w h k before (take (suc q) (lines_in w m))
          ∙ ap (λ (ls : List Line). (seen (h ++ ls)).server.server) cut
          ∙ ap (λ (s : Seen). s.server.server) (laws.moments h (line.Event e ∷ rest) refl)
          ∙ ap (λ (ts : List Step). (fold sees (seen h) ts).server.server) (one_alone (line.Event e) rest refl rest_bare)
          ∙ ap (λ (s : ServerSeen). server_behind s.server (step_by s.server (placed_in rest) (input_of e)))
          (seen_is laws w h k before)
          ∙ ap (λ (o : Option Input). server_behind w.server (step_by w.server (placed_in rest) o)) input

      drives_are : (d : ℕ) → drive_after (h ++ take (suc q) (lines_in w m)) d ≡ drive_after h d
      drives_are d =
          ap (λ (ls : List Line). drive_after (h ++ ls) d) cut
          ∙ (none_more h (line.Event e ∷ rest) (plain_line, bare_none rest rest_bare)).drives d

      there_then : file_at (server_behind w.server (step_by w.server (placed_in rest) (made_of i map tag zoned))).files n ≡ Some f
      there_then = ap (λ (s : Server). file_at s.files n) (sym server_is) ∙ there

      made : IsMadeAt w h (h ++ take (suc q) (lines_in w m)) f
      made = elim (cases_Bool (has_algorithm map)) [
        | inl t ↦ by_number (rw t at there_then)
        | inr z ↦ absurd (cc (sym absent ∙ rw z at there_then))
      ]
        where
          by_number : file_at (step w.server (placed_in rest) (Makes i map tag zoned)).state.files n ≡ Some f →
              IsMadeAt w h (h ++ take (suc q) (lines_in w m)) f
          by_number behind =
              let number : i ≡ n =
              comes_making laws.tells laws.sound n w.server (placed_in rest) (Makes i map tag zoned) sound named f absent
              behind in
              record {
                map = map;
                tag = tag;
                zoned = zoned;
                placed = placed_in rest;
                there =
                    subst
                    (λ (j : ℕ). file_at (step w.server (placed_in rest) (Makes j map tag zoned)).state.files n ≡ Some f)
                    number behind;
                drives = drives_are;
              }

    -- ---- any move

    plain : NoEvent (move w m).lines
    plain = move_plain w h k m is_due

    -- the event of an action makes no file, if it is one's
    abbrev OwnNone : Action → Type 0
    OwnNone (Opens e) = MakesNone (line.Event e)
    OwnNone a = Unit {0}

    -- then no line does
    lines_none : (a : Action) → m.action ≡ a → OwnNone a → Each MakesNone (lines_in w m)
    lines_none a act none =
        subst (λ (x : Action). Each MakesNone (with_event x (move w m).lines)) (sym act) (by a none)
      where
        by : (x : Action) → OwnNone x → Each MakesNone (with_event x (move w m).lines)
        by (Opens e) own = (own, plain_none (move w m).lines plain)
        by (Delivers i) own = plain_none (move w m).lines plain
        by (TimesOut c i) own = plain_none (move w m).lines plain
        by (Pends c) own = plain_none (move w m).lines plain

    -- At a cut at which the file is there, the move's event has made it.
    pub made_at : (count : ℕ) → AreNamed (h ++ take count (lines_in w m)) →
        file_at (moment_of (h ++ take count (lines_in w m))).server.files n ≡ Some f →
        IsMadeAt w h (h ++ take count (lines_in w m)) f
    made_at count all there = by_action m.action refl count named there
      where
        named : AreNamed (take count (lines_in w m))
        named = each_second IsNamed h (take count (lines_in w m)) all

        none : Each MakesNone (lines_in w m) → (j : ℕ) → AreNamed (take j (lines_in w m)) →
            file_at (moment_of (h ++ take j (lines_in w m))).server.files n ≡ Some f →
            IsMadeAt w h (h ++ take j (lines_in w m)) f
        none each j name at =
            absurd (none_there j name (each_taken MakesNone j (lines_in w m) each) at)

        by_event : (e : Event) → m.action ≡ Opens e → (j : ℕ) → AreNamed (take j (lines_in w m)) →
            file_at (moment_of (h ++ take j (lines_in w m))).server.files n ≡ Some f →
            IsMadeAt w h (h ++ take j (lines_in w m)) f
        by_event e act zero name at = absurd (none_there zero name tt at)
        by_event (event.File i map tag) act (suc q) name at =
            made (event.File i map tag) i (raw_of map) tag false q act refl (begins_bare w m.chosen (event.File i map tag) refl)
            (subst (λ (ls : List Line). AreNamed ls) (first_is (event.File i map tag) act q) name).0 (λ d s. refl, λ ds. refl) at
        by_event (event.ZonedFile i map tag) act (suc q) name at =
            made (event.ZonedFile i map tag) i (raw_of map) tag true q act refl
            (begins_bare w m.chosen (event.ZonedFile i map tag) refl)
            (subst (λ (ls : List Line). AreNamed ls) (first_is (event.ZonedFile i map tag) act q) name).0
            (λ d s. refl, λ ds. refl) at
        by_event e act (suc q) name at = none (lines_none (Opens e) act tt) (suc q) name at

        by_action : (a : Action) → m.action ≡ a → (j : ℕ) → AreNamed (take j (lines_in w m)) →
            file_at (moment_of (h ++ take j (lines_in w m))).server.files n ≡ Some f →
            IsMadeAt w h (h ++ take j (lines_in w m)) f
        by_action (Opens e) act = by_event e act
        by_action (Delivers i) act = none (lines_none (Delivers i) act tt)
        by_action (TimesOut c i) act = none (lines_none (TimesOut c i) act tt)
        by_action (Pends c) act = none (lines_none (Pends c) act tt)
