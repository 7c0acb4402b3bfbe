-- A server that is made of records again.
use Rattle.std.specs.Prelude.{◌≡◌, ◌<◌, ⊤, ℕ, List, [], false, Option, Some, None, length, take, ◌+◌}
use Rattle.server_rules.specs.declared.server.Server.{Server}
use Rattle.server_rules.specs.Making.{new_server}
use Rattle.server_rules.specs.Openings.{reopen}
use Rattle.server_state.specs.declared.step.Step.{Step}
use Rattle.server_state.specs.States.{Did}
use Rattle.server_entries.specs.declared.record.Record.{Record}
use Rattle.server_entries.specs.Applying.{replayed_to}
use Rattle.kept_server.specs.declared.restoration.RestoreErr.{RestoreErr}
use Rattle.kept_server.specs.declared.restoration.RestoreErr.TheVariants as restore
use Rattle.kept_server.specs.Views.{Keeping}
use Rattle.kept_server.specs.Keeping.{Follows, SaysNoMore}

-- a server that kept this was opened: its step is the rules', and the changes are those of the opening
pub record Opens (before : Server) (now : Keeping) (out : Step) : Type 0 where
  pub did : Did out now.server (reopen before)
  pub follows : Follows before now
  pub quiet : SaysNoMore before now
  pub going : now.is_over ≡ false

-- what these records make of a new server
abbrev pub restored : List Record → Option Server
restored rs = replayed_to (Some (new_server [])) rs

-- the record at this place is the first of which nothing can be made
pub record IsUnmade (rs : List Record) (place : ℕ) : Type 0 where
  pub inside : place < length rs
  pub before : Server
  pub made : restored (take place rs) ≡ Some before
  pub unmade : restored (take (place + 1) rs) ≡ None

abbrev pub SaysUnmade : List Record → RestoreErr → Type 0
SaysUnmade rs (restore.Unmade place) = IsUnmade rs place
SaysUnmade rs restore.Memory = ⊤

-- the records make a server, and that was opened
pub record Restores (rs : List Record) (now : Keeping) (out : Step) : Type 0 where
  pub before : Server
  pub made : restored rs ≡ Some before
  pub opens : Opens before now out
