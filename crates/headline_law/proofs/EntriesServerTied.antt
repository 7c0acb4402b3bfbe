-- Behind a step of the server the pairs are tied, if grants stay apart, and those that are returned are over.
-- Towards `CutsShowEntries` (`specs/Parts.antt`).
use Rattle.std.specs.Prelude.{◌≡◌, ℕ, List, length, Some}
use Rattle.scenario_text.specs.declared.line.Line.{Line}
use Rattle.server_rules.specs.History.{Input}
use Rattle.world_history.specs.Sending.{Move, move}
use Rattle.world_history.specs.ServerNames.{File}
use Rattle.world_history.specs.State.{World}
use Rattle.history_law.specs.Doing.{input_in}
use Rattle.history_law.specs.Moments.{lines_in}
use Rattle.history_law.specs.Read.{BookIsRead}
use Rattle.fence_law.specs.State.{State}
use Rattle.file_simulation.specs.Showing.{Pairs}
use Rattle.file_simulation.specs.Tied.{AreTied, GrantsApart, ReturnsOver}
use Rattle.headline_law.specs.Parts.{CutShown, cut_at}
use Rattle.headline_law.proofs.EntriesServer.{ServersKeepTied, servers_keep_entries}
use Rattle.headline_law.specs.EntriesTied.{ServersKeepEntries}
use Rattle.headline_law.specs.Ending.{ToldAreTaken}
use Rattle.headline_law.proofs.EntriesServerCalls.{servers_keep_calls}
use Rattle.headline_law.proofs.EntriesServerLosses.{LossReading, losses_pair}
use Rattle.headline_law.proofs.EntriesServerOver.{losses_are_over}
use Rattle.headline_law.proofs.EntriesServerAgain.{ReturnsAreAsked, OthersAreApart, losses_elsewhere}
use Rattle.headline_law.proofs.EntriesServerReported.{LossesAreSole, losses_are_reported}
use Rattle.headline_law.proofs.EntriesServerPlain.{plain_pairs}
use Rattle.headline_law.proofs.EntriesShown.{ReadingLaws}

-- Behind a whole step of the server P holds.
abbrev pub HoldsBehind : (World → State → (file : ℕ) → Type 0) → Type 0
HoldsBehind P =
    (w : World) (h : List Line) (m : Move) (count : ℕ) (f g : File) (s : State) (pairs : Pairs) →
    (k : CutShown w h m count f g s pairs) → AreTied w h s f.kept.number pairs → (i : Input) → input_in w m.action ≡ Some i →
    count ≡ length (lines_in w m) → P (move w m).world (cut_at k.shown.follows) f.kept.number

-- Its grants are apart from those of other files.
abbrev pub ServersKeepApart : Type 0
ServersKeepApart = HoldsBehind GrantsApart

-- What is returned where a kept answer takes a loss is over.
abbrev pub ServersKeepOver : Type 0
ServersKeepOver = HoldsBehind (λ w s file. ReturnsOver w s)

pub servers_keep_tied : ReadingLaws → ServersKeepApart → ServersKeepOver → ServersKeepTied
servers_keep_tied laws apart over w h m count f g s pairs k tied i is full = record {
  single = tied.single;
  calls = servers_keep_calls laws w h m count f g s pairs k tied i is;
  apart = apart w h m count f g s pairs k tied i is full;
  over = over w h m count f g s pairs k tied i is full;
}

-- what is still to be known of reports that are taken, and of grants
pub record LossFacts : Type 0 where
  pub sole : LossesAreSole
  pub asked : ReturnsAreAsked
  pub others : OthersAreApart
  pub apart : ServersKeepApart
  pub over : ServersKeepOver

-- A step of the server keeps the entries, if these laws hold.
pub servers_keep : LossReading → ToldAreTaken → BookIsRead → LossFacts → ServersKeepEntries
servers_keep laws taken book facts =
    servers_keep_entries laws.reading (plain_pairs laws.reading taken)
    (losses_pair laws (losses_are_over (losses_are_reported book facts.sole) (losses_elsewhere facts.asked facts.others)))
    (servers_keep_tied laws.reading facts.apart facts.over)
