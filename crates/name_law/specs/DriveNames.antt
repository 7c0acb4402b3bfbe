-- The parties of a world have numbers that a line can name, and drives name tags that it can.
use Rattle.std.specs.Prelude.{◌≡◌, ◌<◌, ◌^◌, ℕ, List, Some, Result}
use Rattle.osd_commands.specs.declared.commands.Command.{Command}
use Rattle.osd_commands.specs.declared.commands.CommandErr.{CommandErr}
use Rattle.scenario_text.specs.declared.names.TheConstants.{DRIVES, CLIENTS}
use Rattle.scenario_text.specs.declared.line.Verdict.{Verdict}
use Rattle.scenario_text.specs.declared.line.Verdict.TheVariants.{Tag}
use Rattle.scenario_text.specs.declared.line.Line.{Line}
use Rattle.world_history.specs.State.{World, DriveAt, ClientAt, at_number}
use Rattle.world_history.specs.Drives.{judges}
use Rattle.history_law.specs.BookMoments.{IsMoment}
use Rattle.exchange_law.specs.Text.{AreOfText}

-- each drive is one of 64, and each client one of 16
pub record HasNamedParties (w : World) : Type 0 where
  pub drives : (d : ℕ) (a : DriveAt) → at_number w.drives d ≡ Some a → d < DRIVES
  pub clients : (c : ℕ) (a : ClientAt) → at_number w.clients c ≡ Some a → c < CLIENTS

-- at each moment of a history of a scenario's text
abbrev pub PartiesAreNamed : Type 0
PartiesAreNamed = (w : World) (h : List Line) → IsMoment w h → AreOfText h → HasNamedParties w

-- a tag that a verdict names has 32 bits
abbrev pub NamesTag : Verdict → Type 0
NamesTag (Tag current) = current < 2 ^ 32
NamesTag v = Unit {0}

-- so it is of each verdict of a drive, whatever it reads, at each such moment
abbrev pub VerdictsNameTags : Type 0
VerdictsNameTags =
    (w : World) (h : List Line) → IsMoment w h → AreOfText h → (d : ℕ) (a : DriveAt) → at_number w.drives d ≡ Some a
    → (r : Result Command CommandErr) → NamesTag (judges a r).verdict
