-- A step of the server that takes no report as a loss leaves the entries paired at each cut.
-- Towards `CutsShowEntries` (`specs/Parts.antt`).
use Rattle.std.proofs.Common.{◌≡◌, ◌||◌, ◌++◌, ℕ, Bool, true, false, List, [], ◌∷◌, take, Option, Some, None, refl, sym, ap, subst, ◌∙◌, inl, inr}
use Rattle.std.proofs.lemmas.Bool.{true≢false, cases_Bool}
use Rattle.scenario_text.specs.declared.line.Line.{Line}
use Rattle.server_rules.specs.Files.{Step as ServerStep, file_at}
use Rattle.server_rules.specs.History.{Input, step}
use Rattle.world_history.specs.Book.{step_by}
use Rattle.world_history.specs.Calm.{moment_of, takes_loss, is_told_taken, sent_taken}
use Rattle.world_history.specs.ReadLog.{Log, Logged}
use Rattle.world_history.specs.Sending.{Move}
use Rattle.world_history.specs.ServerNames.{File}
use Rattle.world_history.specs.State.{World}
use Rattle.history_law.specs.Doing.{input_in}
use Rattle.history_law.specs.Moments.{lines_in}
use Rattle.fence_law.specs.State.{State, Event}
use Rattle.file_simulation.proofs.Fronts.{move_begun}
use Rattle.file_simulation.specs.ClientEvents.{Going}
use Rattle.file_simulation.specs.DriveEvents.{drive_events}
use Rattle.file_simulation.specs.Events.{joined, events_of, events_at, led_by}
use Rattle.file_simulation.specs.ServerEvents.{server_goes, server_events}
use Rattle.file_simulation.specs.Showing.{ArePaired}
use Rattle.relation_law.specs.Frames.{AreAll, LinesAre}
use Rattle.relation_law.specs.Steps.{behind, owed}
use Rattle.relation_law.proofs.FramesClient.{led_all}
use Rattle.relation_law.proofs.FramesParties.{server_alone, drive_quiet, Never}
use Rattle.relation_law.proofs.FramesStay.{all_joined, lines_as, lines_more, lines_taken}
use Rattle.headline_law.specs.Ending.{ToldAreTaken}
use Rattle.headline_law.specs.Parts.{lines_to}
use Rattle.headline_law.proofs.EntriesPairs.{IsSilent, silent_stay, paired_stays}
use Rattle.headline_law.proofs.EntriesRead.{NoneTaken, begun_untold}
use Rattle.headline_law.proofs.EntriesServer.{ServersPair}
use Rattle.headline_law.proofs.EntriesServerEvents.{goes_silent}
use Rattle.headline_law.proofs.EntriesServerLines.{keep_all, front_keeps, server_lines_keep}
use Rattle.headline_law.proofs.EntriesShown.{ReadingLaws}

-- ---- lines

none_from : (ls : List Line) → is_told_taken ls ≡ false → NoneTaken ls
none_from [] e = tt
none_from (l ∷ ls) e = by (λ t. none_from ls t) (sent_taken l) refl e
  where
    by : (is_told_taken ls ≡ false → NoneTaken ls) → (b : Bool) → sent_taken l ≡ b → (b || is_told_taken ls) ≡ false →
        NoneTaken (l ∷ ls)
    by rest true is t = absurd (true≢false t)
    by rest false is t = (is, rest t)

-- Where no line of a cut of the server's step says that a report was taken, the log is as it was.
pub untold_log : ReadingLaws → (w : World) (h : List Line) (m : Move) (count : ℕ) (i : Input) → input_in w m.action ≡ Some i →
    is_told_taken (take count (lines_in w m)) ≡ false → (moment_of (lines_to w h m count)).log ≡ (moment_of h).log
untold_log reading w h m count i is none =
    begun_untold reading.moments reading.pending h (take count (lines_in w m)) (move_begun w m count)
    (none_from (take count (lines_in w m)) none)
    ∙ keep_all (take count (lines_in w m)) (front_keeps count (lines_in w m) (server_lines_keep w m i is)) (moment_of h).log

-- ---- events

module _ (s : State) (w : World) (e : ℕ → ℕ) (f : File) (m : Move) (i : Input) (is : input_in w m.action ≡ Some i) where
  abbrev did : ServerStep
  did = step w.server m.chosen i

  -- the lists of the server's step, and then of a drive, which have no event
  pub events_are : events_of s w e f m ≡ led_by m.action
      (server_goes s w did i (file_at w.server.files f.kept.number) (file_at did.state.files f.kept.number)
      ++ drive_events s w e f m.action)
  events_are =
      ap (λ (o : Option Going). led_by m.action (events_at s w e f m o)) (server_alone w m.action i is)
      ∙ ap (λ (o : Option Input). led_by m.action (server_events s w f.kept.number o (step_by w.server m.chosen o)
      ++ drive_events s w e f m.action)) is

  silent_by : (o p : Option File) → takes_loss (Some did) ≡ false → LinesAre IsSilent (server_goes s w did i o p)
  silent_by None p none = tt
  silent_by (Some x) None none = tt
  silent_by (Some x) (Some y) none = goes_silent w x y i did none s

  pub none_silent : takes_loss (Some did) ≡ false → (count : ℕ) → AreAll IsSilent (joined (take count (events_of s w e f m)))
  none_silent none count =
      let mine : LinesAre IsSilent
      (server_goes s w did i (file_at w.server.files f.kept.number) (file_at did.state.files f.kept.number)) =
      silent_by (file_at w.server.files f.kept.number) (file_at did.state.files f.kept.number) none in
      let all : LinesAre IsSilent (events_of s w e f m) =
      subst (LinesAre IsSilent) (sym events_are)
      (led_all IsSilent m.action _
      (lines_more IsSilent
      (server_goes s w did i (file_at w.server.files f.kept.number) (file_at did.state.files f.kept.number)) _ mine
      (lines_as Never IsSilent (λ x none. absurd none) _ (drive_quiet s w e f m.action i is)))) in
      all_joined IsSilent (take count (events_of s w e f m)) (lines_taken IsSilent count (events_of s w e f m) all)

-- ---- a step that takes no loss

pub plain_pairs : ReadingLaws → ToldAreTaken → ServersPair false
plain_pairs reading taken w h m count f g s pairs k tied i is none =
    let untold : is_told_taken (take count (lines_in w m)) ≡ false =
    elim (cases_Bool (is_told_taken (take count (lines_in w m)))) [
      | inl told ↦
          absurd (true≢false (sym (taken w h m count f g s k.shown.follows i is [] (lines_in w m) count refl told) ∙ none))
      | inr no_ ↦ no_
    ] in
    let es : List Event = joined (take count (events_of s w (owed k.shown.follows.related) f m)) in
    subst (λ (ls : List Logged). ArePaired (behind k.shown.follows.related m count) f.kept.number ls pairs)
    (ap (λ (l : Log). l.entries) (sym (untold_log reading w h m count i is untold)))
    (paired_stays s (behind k.shown.follows.related m count) f.kept.number (moment_of h).log.entries pairs
    (silent_stay s es (none_silent s w (owed k.shown.follows.related) f m i is none count)) k.shown.shown.paired)
