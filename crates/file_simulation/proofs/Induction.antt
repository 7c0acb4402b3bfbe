-- From the statements of the simulation to the runs of all files: a machine stands for each file at each moment, and shows
-- each cut of the move behind it.
use Rattle.std.proofs.Common.{◌≡◌, ℕ, ◌++◌, ◌≤◌, List, [], length, take, Option, Some, None, refl, sym, ap, subst, ◌∙◌}
use Rattle.std.proofs.lemmas.Option.{same_Some}
use Rattle.server_rules.specs.Files.{file_at}
use Rattle.server_rules.proofs.FileLaws.{number_at}
use Rattle.scenario_text.specs.declared.line.Line.{Line}
use Rattle.world_history.specs.ServerNames.{File}
use Rattle.world_history.specs.State.{World}
use Rattle.world_history.specs.Sending.{Move, move}
use Rattle.world_history.specs.Calm.{moment_of}
use Rattle.world_history.specs.History.{OneEventMore}
use Rattle.world_history.specs.Laws.{MomentGoesOn, AllLinesGoOn}
use Rattle.history_law.specs.BookMoments.{IsMoment, lines_in}
use Rattle.exchange_law.proofs.SlotMoments.{always}
use Rattle.component_law.specs.LeftPending.{PendingIsRead}
use Rattle.fence_law.specs.State.{State}
use Rattle.file_simulation.specs.Claim.{IsCalmHistory}
use Rattle.file_simulation.specs.Cuts.{at_cut}
use Rattle.file_simulation.specs.Showing.{Pairs, ShowsLines, GoesAsRun}
use Rattle.file_simulation.specs.Simulation.{StandsAt, StandsBehind, IsNext, ShowsCut, EachMoveGoesOn, EachFileIsCreated, EachCutIsShown, EachCreationIsShown}
use Rattle.file_simulation.specs.Conclusion.{SimulationGivesRuns}
use Rattle.file_simulation.proofs.Fronts.{before_move, before_all}
use Rattle.file_simulation.proofs.Cutting.{IsCut, each_is_cut}

-- some machine stands for a file
abbrev pub Stands : World → List Line → File → Type 0
Stands w h f = (s : State) × (pairs : Pairs) × StandsAt w h f s pairs

-- so it is of each file of a world
abbrev pub AllStand : World → List Line → Type 0
AllStand w h = (file : ℕ) (f : File) → file_at w.server.files file ≡ Some f → Stands w h f

none_there : (file : ℕ) → file_at [] file ≡ None
unfolding file_at
none_there file = refl

-- ---- a move

-- a file that was there before
stands_on : (v : World) (h : List Line) (file : ℕ) (f g : File) (s : State) (pairs : Pairs) → g.kept.number ≡ file →
    file_at v.server.files file ≡ Some f → StandsAt v h g s pairs → Stands v h f
stands_on v h file f g s pairs number e st =
    let same : g ≡ f =
    same_Some g f (sym st.there ∙ ap (λ (n : ℕ). file_at v.server.files n) number ∙ e) in
    subst (Stands v h) same (s, pairs, st)

-- a file that the move makes, or that was there before
stands_behind : (w : World) (h more : List Line) (m : Move) → EachMoveGoesOn → EachFileIsCreated → IsNext w h m more →
    IsCalmHistory (h ++ more) → AllStand w h → (file : ℕ) (f : File) →
    file_at (move w m).world.server.files file ≡ Some f →
    (o : Option File) → file_at w.server.files file ≡ o → Stands (move w m).world (h ++ more) f
stands_behind w h more m goes creates next calm all file f e None before =
    let number : f.kept.number ≡ file = number_at (move w m).world.server.files file f e in
    let made =
    creates w h more m next calm f (ap (λ (n : ℕ). file_at w.server.files n) number ∙ before)
    (ap (λ (n : ℕ). file_at (move w m).world.server.files n) number ∙ e) in
    (_, made.0, made.1)
stands_behind w h more m goes creates next calm all file f e (Some g) before =
    let st : Stands w h g = all file g before in
    let on : StandsBehind w (h ++ more) g st.0 m = goes w h more m next calm g st.0 st.1 st.2 in
    stands_on (move w m).world (h ++ more) file f on.file _ on.pairs
    (on.number ∙ number_at w.server.files file g before) e on.stands

-- ---- a cut

shows_cut : (w : World) (h more : List Line) (m : Move) (count : ℕ) → EachCutIsShown → EachCreationIsShown →
    IsNext w h m more → count ≤ length more → IsCalmHistory (h ++ take count more) → AllStand w h → (file : ℕ) (f : File) →
    file_at (moment_of (h ++ take count more)).server.files file ≡ Some f →
    (o : Option File) → file_at w.server.files file ≡ o → GoesAsRun (h ++ take count more) file
shows_cut w h more m count cuts creates next low calm all file f e None before =
    let number : f.kept.number ≡ file = number_at (moment_of (h ++ take count more)).server.files file f e in
    subst (GoesAsRun (h ++ take count more)) number
    (creates w h more m count next low calm f (ap (λ (n : ℕ). file_at w.server.files n) number ∙ before)
    (ap (λ (n : ℕ). file_at (moment_of (h ++ take count more)).server.files n) number ∙ e))
shows_cut w h more m count cuts creates next low calm all file f e (Some g) before =
    let st : Stands w h g = all file g before in
    let cut : ShowsCut w (h ++ take count more) g st.0 m count = cuts w h more m count next low calm g st.0 st.1 st.2 in
    record {
      state = at_cut st.0 w cut.bytes g m count;
      pairs = cut.pairs;
      run = cut.run;
      shown =
          subst (λ (n : ℕ). ShowsLines (h ++ take count more) (at_cut st.0 w cut.bytes g m count) n cut.pairs)
          (number_at w.server.files file g before) cut.shown;
    }

-- ---- each moment, and each history

module _ (more : OneEventMore) (moments : MomentGoesOn) (lines : AllLinesGoOn) (pending : PendingIsRead) where
  module _ (goes : EachMoveGoesOn) (creates : EachFileIsCreated) where
    abbrev pub Holds : World → List Line → Type 0
    Holds w h = IsCalmHistory h → AllStand w h

    none_stands : (file : ℕ) (f : File) → file_at [] file ≡ Some f → ⊥
    none_stands file f e = cc (sym (none_there file) ∙ e)

    moves_on : (w : World) (h : List Line) (m : Move) → IsNext w h m (lines_in w m) → Holds w h →
        Holds (move w m).world (h ++ lines_in w m)
    moves_on w h m next holds calm file f e =
        stands_behind w h (lines_in w m) m goes creates next calm (holds (before_all moments lines pending w h m calm)) file f e
        (file_at w.server.files file) refl

    -- at each moment of a calm history
    pub all_at : (w : World) (h : List Line) → IsMoment w h → IsCalmHistory h → AllStand w h
    all_at w h k =
        always Holds (record {
          starts = λ calm file f e. absurd (none_stands file f e);
          moves = λ u g j n d holds. moves_on u g n (record { moment = j; is_due = d; lines = refl }) holds;
        }) more w h k

    pub all_stand : (w : World) (h : List Line) (m : Move) (ls : List Line) → IsNext w h m ls → Holds w h
    all_stand w h m ls next = all_at w h next.moment

  cut_runs : EachMoveGoesOn → EachFileIsCreated → EachCutIsShown → EachCreationIsShown → (h : List Line) (c : IsCut h) →
      IsCalmHistory (c.before ++ take c.count c.more) → (file : ℕ) (f : File) →
      file_at (moment_of (c.before ++ take c.count c.more)).server.files file ≡ Some f →
      GoesAsRun (c.before ++ take c.count c.more) file
  cut_runs goes creates cuts births h c calm file f e =
      let here : IsCalmHistory (c.before ++ take c.count (lines_in c.world c.move)) =
      subst (λ (l : List Line). IsCalmHistory (c.before ++ take c.count l)) c.next.lines calm in
      shows_cut c.world c.before c.more c.move c.count cuts births c.next c.low calm
      (all_stand goes creates c.world c.before c.move c.more c.next
      (before_move moments lines pending c.world c.before c.move c.count here)) file f e
      (file_at c.world.server.files file) refl

  pub simulation_gives_runs : SimulationGivesRuns
  simulation_gives_runs goes creates cuts births h lawful calm file f e =
      let c : IsCut h = each_is_cut h lawful in
      subst (λ (l : List Line). GoesAsRun l file) (sym c.lines)
      (cut_runs goes creates cuts births h c (subst IsCalmHistory c.lines calm) file f
      (subst (λ (l : List Line). file_at (moment_of l).server.files file ≡ Some f) c.lines e))
