-- What holds of the numbers of files: each fits its place in the messages of the server.
use Rattle.std.specs.Prelude.{◌≡◌, ℕ, ◌+◌, ◌*◌, ◌≤◌, ◌<◌, true, List, length}
use Rattle.std.specs.List.{AllByRecursion}
use Rattle.data_map.specs.declared.check.RawMap.{RawMap}
use Rattle.data_map.specs.declared.ranges.TheConstants.{MAX_FILE_SIZE}
use Rattle.data_map.specs.Check.{IsChecked}
use Rattle.data_map.specs.Striping.{stripe_length}
use Rattle.osd_capability.specs.Layout.{is_format}
use Rattle.scenario_text.specs.declared.names.TheConstants.{DRIVES, FILES}
use Rattle.scenario_text.specs.declared.line.Line.{Line}
use Rattle.server_rules.specs.declared.limits.TheConstants.{MAX_FILE_COMPONENTS, MAX_CLIENT, GREATEST_TAG, GREATEST_GRANT, NO_EXPIRY}
use Rattle.world_history.specs.ServerNames.{Server, File, Kept, Component, Grant}
use Rattle.world_history.specs.State.{World}
use Rattle.history_law.specs.BookMoments.{IsMoment}
use Rattle.exchange_law.specs.Text.{AreOfText}

-- a line can name the drive of a component, and its object has one of the numbers below a limit
pub record ComponentFits (objects : ℕ) (at : Component) : Type 0 where
  pub drive : at.drive < DRIVES
  pub object : at.object < objects

-- a grant is of a client that lines can name, on the file, and its stripes begin inside a file of the greatest size, and
-- end no more than a stripe behind it
pub record GrantFits (file : ℕ) (m : RawMap) (g : Grant) : Type 0 where
  pub number : g.number ≤ GREATEST_GRANT
  pub client : g.client ≤ MAX_CLIENT
  pub file_is : g.file ≡ file
  pub first : g.first * stripe_length m ≤ MAX_FILE_SIZE
  pub end : g.end * stripe_length m ≤ MAX_FILE_SIZE + stripe_length m
  pub expiry : g.expiry ≤ NO_EXPIRY

-- these stripes end no more than a stripe behind a file of the greatest size
abbrev pub EndFits : RawMap → (end : ℕ) → Type 0
EndFits m end = end * stripe_length m ≤ MAX_FILE_SIZE + stripe_length m

-- what is kept of a file
pub record KeptFits (objects : ℕ) (f : Kept) : Type 0 where
  pub number : f.number < FILES
  pub map : IsChecked f.map
  pub few : length f.components ≤ MAX_FILE_COMPONENTS
  pub format : is_format f.format ≡ true
  pub tag : f.tag ≤ GREATEST_TAG
  pub size : f.size ≤ MAX_FILE_SIZE
  pub components : AllByRecursion (ComponentFits objects) f.components
  pub grants : AllByRecursion (GrantFits f.number f.map) f.grants
  pub ended : AllByRecursion (GrantFits f.number f.map) f.ended
  pub high : EndFits f.map f.high

-- so it is of each file, whose objects have numbers that the server used
abbrev pub FilesFit : Server → Type 0
FilesFit s = AllByRecursion (λ (f : File). KeptFits s.next_object f.kept) s.files

-- at each moment of a history of a scenario's text
abbrev pub AllFilesFit : Type 0
AllFilesFit = (w : World) (h : List Line) → IsMoment w h → AreOfText h → FilesFit w.server
