-- The drives by number: what the world does with a named one.
use Rattle.std.specs.Prelude.{ℕ, List, ◌≡◌, ◌⊎◌, Option, Some, None, Result, if◌then◌else◌}
use Rattle.osd_commands.specs.declared.commands.Command.{Command}
use Rattle.osd_commands.specs.declared.commands.CommandErr.{CommandErr}
use Rattle.osd_commands.specs.Replies as replies
use Rattle.scenario_text.specs.declared.line.Party.{Party}
use Rattle.scenario_text.specs.declared.line.Party.TheVariants as party
use Rattle.scenario_text.specs.declared.line.Verdict.{Verdict}
use Rattle.scenario_text.specs.declared.line.Delivery.TheVariants as delivery
use Rattle.world_network.specs.declared.posting.Posting.{Posting}
use Rattle.world_network.specs.declared.acts.Handed.{Handed}
use Rattle.world_network.specs.Acts.{nothing, one_post}
use Rattle.world_history.specs.State.{DriveAt, at_number, with_number}
use Rattle.world_history.specs.Drives.{Judged, judges, is_deaf}

-- drives by rising numbers
abbrev pub Table : Type 0
Table = List (ℕ × DriveAt)

-- ---- a change of one drive

-- the drive of a number becomes another, where there is one
abbrev pub changed_if : Table → (drive : ℕ) → (DriveAt → DriveAt) → Option DriveAt → Table
changed_if t d becomes None = t
changed_if t d becomes (Some a) = with_number t d (becomes a)

abbrev pub changed : Table → (drive : ℕ) → (DriveAt → DriveAt) → Table
changed t d becomes = changed_if t d becomes (at_number t d)

-- nothing changed, or the drives are these
abbrev pub StaysOrDoes : (after old new : Table) → Type 0
StaysOrDoes after old new = (new ≡ old) ⊎ (new ≡ after)

-- ---- a message

-- its reply to who sent it
abbrev pub reply_post : (drive : ℕ) → (from : Party) → Judged → Posting
reply_post d from j = record { from = party.Drive d; to = from; bytes = replies.spelling j.reply; logged = 0 }

-- one drive then, and what became of the message
pub record HeardOne : Type 0 where
  pub drive : DriveAt
  pub handed : Handed

-- nothing of it is heard
abbrev pub unheard : Handed
unheard = record { receipt = delivery.Deaf; act = nothing }

-- it judged the message and replies
abbrev pub replied : (drive : ℕ) → (from : Party) → Judged → HeardOne
replied d from j = record {
  drive = j.drive;
  handed = record { receipt = delivery.Judged j.verdict; act = one_post (reply_post d from j) };
}

-- one that failed or is down is deaf
abbrev pub heard_one : (drive : ℕ) → (from : Party) → Result Command CommandErr → DriveAt → HeardOne
heard_one d from reading a =
    if is_deaf a then record { drive = a; handed = unheard } else replied d from (judges a reading)

-- the code does that
pub record HearsOne (e : HeardOne) (new : DriveAt) (handed : Handed) : Type 0 where
  pub drive : new ≡ e.drive
  pub handed_is : handed ≡ e.handed

-- the drives then, and what became of the message
pub record Heard : Type 0 where
  pub drives : Table
  pub handed : Handed

abbrev pub heard_at : Table → (drive : ℕ) → HeardOne → Heard
heard_at t d one = record { drives = with_number t d one.drive; handed = one.handed }

-- one that there isn't is deaf
abbrev pub heard_by : Table → (drive : ℕ) → (from : Party) → Result Command CommandErr → Option DriveAt → Heard
heard_by t d from reading None = record { drives = t; handed = unheard }
heard_by t d from reading (Some a) = heard_at t d (heard_one d from reading a)

-- a message comes to a drive
abbrev pub heard : Table → (drive : ℕ) → (from : Party) → Result Command CommandErr → Heard
heard t d from reading = heard_by t d from reading (at_number t d)

-- the code does that
pub record Hears (e : Heard) (new : Table) (handed : Handed) : Type 0 where
  pub drives : new ≡ e.drives
  pub handed_is : handed ≡ e.handed

-- ---- bytes that are injected

-- the drives then, and the verdict
pub record Injected : Type 0 where
  pub drives : Table
  pub verdict : Option Verdict

abbrev pub injected_by : Table → (drive : ℕ) → Result Command CommandErr → Option DriveAt → Injected
injected_by t d reading None = record { drives = t; verdict = None }
injected_by t d reading (Some a) = record {
  drives = with_number t d (judges a reading).drive;
  verdict = Some (judges a reading).verdict;
}

-- a drive judges bytes
abbrev pub injected : Table → (drive : ℕ) → Result Command CommandErr → Injected
injected t d reading = injected_by t d reading (at_number t d)

-- the code does that
pub record Injects (e : Injected) (new : Table) (verdict : Option Verdict) : Type 0 where
  pub drives : new ≡ e.drives
  pub verdict_is : verdict ≡ e.verdict
