-- What a drive does with a message, or with bytes that are injected.
use Rattle.std.specs.Prelude.{ℕ, Bool, false, true, ◌||◌, List, [], ◌∷◌, max, Result, Ok, Err}
use Rattle.osd_commands.specs.declared.commands.Command.{Command}
use Rattle.osd_commands.specs.declared.commands.CommandErr.{CommandErr}
use Rattle.osd_commands.specs.Commands as commands
use Rattle.osd_commands.specs.declared.replies.Reply.{Reply}
use Rattle.osd_objects.specs.Store.{empty_store}
use Rattle.osd_drive.specs.State.{DriveState, new_drive}
use Rattle.osd_drive.specs.Table.{first_fault}
use Rattle.osd_drive.specs.Effects.{reply_to_reading, after_reading}
use Rattle.osd_drive.specs.declared.keys.DriveKey.{DriveKey}
use Rattle.server_rules.specs.declared.limits.TheConstants.{KEY_VERSION}
use Rattle.scenario_text.specs.declared.line.Verdict.{Verdict}
use Rattle.scenario_text.specs.declared.line.Verdict.TheVariants as verdict
use Rattle.world_history.specs.State.{Body, DriveAt}
use Rattle.world_history.specs.Spelled.{spelled}
use Rattle.world_history.specs.Told.{told_verdict}

-- ---- what is read

-- what a drive reads in the bytes of a message
abbrev pub command_in : Body → Result Command CommandErr
command_in body = commands.reading (spelled body)

-- ---- what a drive makes of it

-- the drive then, what it says, and what it replies
pub record Judged : Type 0 where
  pub drive : DriveAt
  pub verdict : Verdict
  pub reply : Reply

-- the first fault, or that bytes spell no command
abbrev pub verdict_on : DriveState → (now : ℕ) → Result Command CommandErr → Verdict
verdict_on d now (Ok c) = told_verdict (first_fault d now c)
verdict_on d now (Err e) = verdict.Format

-- a drive judges, performs where nothing stands against it, and replies
unfoldable pub judges : DriveAt → Result Command CommandErr → Judged
judges a reading = record {
  drive = record a { state = after_reading a.state a.clock reading };
  verdict = verdict_on a.state a.clock reading;
  reply = reply_to_reading a.state a.clock reading;
}

-- ---- what events make of a drive

-- the key that it shares with the server
abbrev pub first_key : List ℕ → DriveKey
first_key key = record { version = KEY_VERSION; key = key }

-- a new one, which is stored or not
abbrev pub made_drive : (number : ℕ) → (key : List ℕ) → (capacity : ℕ) → (stored : Bool) → DriveAt
made_drive number key capacity stored = record {
  state = new_drive number (first_key key ∷ []) capacity;
  clock = 0;
  failed = false;
  stored = stored;
  down = false;
}

-- its least format only rises
abbrev pub raised : DriveAt → (format : ℕ) → DriveAt
raised a format = record a { state = record a.state { least = max a.state.least format } }

-- its clock shows this
abbrev pub at_time : DriveAt → (time : ℕ) → DriveAt
at_time a time = record a { clock = time }

-- it has lost everything, and is deaf
abbrev pub fallen : DriveAt → DriveAt
fallen a = record a { state = record a.state { store = empty_store a.state.store.capacity }; failed = true }

-- it is down, and deaf until it is opened again; its clock and all that it has stay
abbrev pub crashed : DriveAt → DriveAt
crashed a = record a { down = true }

abbrev pub reopened : DriveAt → DriveAt
reopened a = record a { down = false }

-- nothing that is sent to it reaches it
abbrev pub is_deaf : DriveAt → Bool
is_deaf a = a.failed || a.down
