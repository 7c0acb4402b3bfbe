-- A move of a drive, or of nobody, shows the entries as they were, if its lines leave those of the log.
-- Towards `CutsShowEntries` (`specs/Parts.antt`).
use Rattle.std.proofs.Common.{◌≡◌, ℕ, zero, suc, List, [], ◌∷◌, length, take, None, sym, subst}
use Rattle.scenario_text.specs.declared.line.Line.{Line}
use Rattle.world_history.specs.Calm.{moment_of}
use Rattle.world_history.specs.Sending.{Move, move}
use Rattle.world_history.specs.ServerNames.{File}
use Rattle.world_history.specs.State.{World}
use Rattle.history_law.specs.Moments.{lines_in}
use Rattle.history_law.specs.Doing.{input_in}
use Rattle.fence_law.specs.State.{State, Event}
use Rattle.fence_law.specs.State.Event.{SetsTag, Performs, Shows, Fails, Repairs}
use Rattle.file_simulation.specs.ClientEvents.{going_in}
use Rattle.file_simulation.specs.Events.{joined, events_of}
use Rattle.file_simulation.specs.EventLists.{Lines}
use Rattle.file_simulation.specs.Showing.{Pairs, ArePaired}
use Rattle.relation_law.specs.Frames.{AreAll, LinesAre, IsOfDrive}
use Rattle.relation_law.specs.Steps.{behind, owed}
use Rattle.relation_law.proofs.FramesParties.{by_drive_lines}
use Rattle.relation_law.proofs.FramesStay.{all_joined, lines_as}
use Rattle.file_simulation.specs.Tied.{AreTied, IsSingle}
use Rattle.headline_law.specs.Parts.{CutShown, cut_at, lines_to}
use Rattle.headline_law.proofs.EntriesCuts.{DrivesKeepEntries}
use Rattle.headline_law.proofs.EntriesPairs.{IsSilent, silent_stay, paired_stays}
use Rattle.headline_law.proofs.EntriesShown.{ReadingLaws, shown_by}

-- Lines of a move of a drive, or of nobody, leave the entries of the file: those of the log are paired as they were.
abbrev pub OthersLeaveEntries : Type 0
OthersLeaveEntries =
    (w : World) (h : List Line) (m : Move) (count : ℕ) (f g : File) (s : State) (pairs : Pairs) →
    CutShown w h m count f g s pairs → AreTied w h s f.kept.number pairs → going_in w m.action ≡ None →
    input_in w m.action ≡ None → ArePaired s f.kept.number (moment_of (lines_to w h m count)).log.entries pairs

-- Behind a whole move of that kind the pairs are tied.
abbrev pub OthersKeepTied : Type 0
OthersKeepTied =
    (w : World) (h : List Line) (m : Move) (count : ℕ) (f g : File) (s : State) (pairs : Pairs) →
    (k : CutShown w h m count f g s pairs) → AreTied w h s f.kept.number pairs → going_in w m.action ≡ None →
    input_in w m.action ≡ None → count ≡ length (lines_in w m) →
    AreTied (move w m).world (lines_to w h m count) (cut_at k.shown.follows) f.kept.number pairs

-- ---- events

drive_silent : (e : Event) → IsOfDrive e → IsSilent e
drive_silent (SetsTag k) o = tt
drive_silent (Performs m) o = tt
drive_silent (Shows j k) o = tt
drive_silent (Fails k) o = tt
drive_silent (Repairs k cells e) o = tt
drive_silent e o = absurd o

lines_take : (P : Event → Type 0) (n : ℕ) (ls : Lines) → LinesAre P ls → LinesAre P (take n ls)
lines_take P zero ls all = tt
lines_take P (suc n) [] all = tt
lines_take P (suc n) (es ∷ ls) all = (all.0, lines_take P n ls all.1)

module _ (reading : ReadingLaws) (leaves : OthersLeaveEntries) (keep : OthersKeepTied) where
  pub others_keep_entries : DrivesKeepEntries
  others_keep_entries w h m count f g s pairs k tied goes input =
      let lines : LinesAre IsSilent (events_of s w (owed k.shown.follows.related) f m) =
      lines_as IsOfDrive IsSilent drive_silent (events_of s w (owed k.shown.follows.related) f m)
      (by_drive_lines s w (owed k.shown.follows.related) f m goes input) in
      let silent : AreAll IsSilent (joined (take count (events_of s w (owed k.shown.follows.related) f m))) =
      all_joined IsSilent (take count (events_of s w (owed k.shown.follows.related) f m))
      (lines_take IsSilent count (events_of s w (owed k.shown.follows.related) f m) lines) in
      let paired : ArePaired (behind k.shown.follows.related m count) f.kept.number (moment_of (lines_to w h m count)).log.entries
      pairs =
      paired_stays s (behind k.shown.follows.related m count) f.kept.number (moment_of (lines_to w h m count)).log.entries pairs
      (silent_stay s (joined (take count (events_of s w (owed k.shown.follows.related) f m))) silent)
      (leaves w h m count f g s pairs k tied goes input) in
      let z = shown_by reading w h m count f g s pairs k pairs (λ i j n. n) paired tied.single in
      record {
        shown = z.0;
        single = subst IsSingle (sym z.1) tied.single;
        tied = λ full.
            subst (AreTied (move w m).world (lines_to w h m count) (cut_at k.shown.follows) f.kept.number) (sym z.1)
            (keep w h m count f g s pairs k tied goes input full);
      }
