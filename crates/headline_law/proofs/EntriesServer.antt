-- A step of the server keeps the entries, if these parts hold: at each cut they are paired, and behind the step they are tied.
-- Towards `CutsShowEntries` (`specs/Parts.antt`).
use Rattle.std.proofs.Common.{◌≡◌, inl, inr, ℕ, Bool, true, false, List, length, Some, sym, subst}
use Rattle.std.proofs.lemmas.Bool.{cases_Bool}
use Rattle.scenario_text.specs.declared.line.Line.{Line}
use Rattle.server_rules.specs.History.{Input, step}
use Rattle.world_history.specs.Calm.{moment_of, takes_loss}
use Rattle.world_history.specs.Sending.{Move, move}
use Rattle.world_history.specs.ServerNames.{File}
use Rattle.world_history.specs.State.{World}
use Rattle.history_law.specs.Doing.{input_in}
use Rattle.history_law.specs.Moments.{lines_in}
use Rattle.fence_law.specs.State.{State}
use Rattle.file_simulation.specs.Showing.{Pairs, ArePaired}
use Rattle.file_simulation.specs.Tied.{AreTied, IsSingle}
use Rattle.relation_law.specs.Steps.{behind}
use Rattle.headline_law.specs.Parts.{CutShown, cut_at, lines_to}
use Rattle.headline_law.specs.EntriesTied.{ServersKeepEntries}
use Rattle.headline_law.proofs.EntriesShown.{ReadingLaws, shown_by}

-- The entries are paired at each cut of a step of the server, by whether it takes a report as a loss.
abbrev pub ServersPair : Bool → Type 0
ServersPair takes =
    (w : World) (h : List Line) (m : Move) (count : ℕ) (f g : File) (s : State) (pairs : Pairs) →
    (k : CutShown w h m count f g s pairs) → AreTied w h s f.kept.number pairs → (i : Input) → input_in w m.action ≡ Some i →
    takes_loss (Some (step w.server m.chosen i)) ≡ takes →
    ArePaired (behind k.shown.follows.related m count) f.kept.number (moment_of (lines_to w h m count)).log.entries pairs

-- Behind the whole step the pairs are tied.
abbrev pub ServersKeepTied : Type 0
ServersKeepTied =
    (w : World) (h : List Line) (m : Move) (count : ℕ) (f g : File) (s : State) (pairs : Pairs) →
    (k : CutShown w h m count f g s pairs) → AreTied w h s f.kept.number pairs → (i : Input) → input_in w m.action ≡ Some i →
    count ≡ length (lines_in w m) →
    AreTied (move w m).world (lines_to w h m count) (cut_at k.shown.follows) f.kept.number pairs

module _ (reading : ReadingLaws) (plain : ServersPair false) (losses : ServersPair true) (keep : ServersKeepTied) where
  pub servers_keep_entries : ServersKeepEntries
  servers_keep_entries w h m count f g s pairs k tied i input =
      let paired : ArePaired (behind k.shown.follows.related m count) f.kept.number
      (moment_of (lines_to w h m count)).log.entries pairs =
      elim (cases_Bool (takes_loss (Some (step w.server m.chosen i)))) [
        | inl takes ↦ losses w h m count f g s pairs k tied i input takes
        | inr none ↦ plain w h m count f g s pairs k tied i input none
      ] in
      let z = shown_by reading w h m count f g s pairs k pairs (λ i j n. n) paired tied.single in
      record {
        shown = z.0;
        single = subst IsSingle (sym z.1) tied.single;
        tied = λ full.
            subst (AreTied (move w m).world (lines_to w h m count) (cut_at k.shown.follows) f.kept.number) (sym z.1)
            (keep w h m count f g s pairs k tied i input full);
      }
