-- What the lines of a history tell of drives: what each makes of the bytes that come to it, and what it replies.
use Rattle.std.specs.Prelude.{◌≡◌, ◌⊎◌, ℕ, ◌+◌, ◌≤◌, ◌<◌, false, true, List, [], ◌∷◌, ◌++◌, take, drop, slice_get, Some, Ok}
use Rattle.osd_commands.specs.declared.actions.Action.TheVariants.{Read}
use Rattle.osd_commands.specs.declared.commands.Command.{Command}
use Rattle.osd_commands.specs.declared.replies.Reply.{Reply}
use Rattle.osd_commands.specs.Commands.{reading}
use Rattle.osd_commands.specs.Replies.{spelling}
use Rattle.osd_objects.specs.Store.{bytes_at}
use Rattle.scenario_text.specs.declared.line.Delivery.{Delivery}
use Rattle.scenario_text.specs.declared.line.Delivery.TheVariants.{Judged}
use Rattle.scenario_text.specs.declared.line.Verdict.{Verdict}
use Rattle.scenario_text.specs.declared.line.Verdict.TheVariants.{Perform}
use Rattle.scenario_text.specs.declared.line.Party.{Party}
use Rattle.scenario_text.specs.declared.line.Party.TheVariants.{Drive}
use Rattle.scenario_text.specs.declared.line.Line.{Line}
use Rattle.scenario_text.specs.declared.line.Line.TheVariants as line
use Rattle.world_history.specs.declared.messages.Sent.{Sent}
use Rattle.world_history.specs.State.{DriveAt}
use Rattle.world_history.specs.Drives.{verdict_on, judges, is_deaf}
use Rattle.world_history.specs.Reading.{sent_in}
use Rattle.world_history.specs.ReadDrives.{drive_seen, drive_after}
use Rattle.history_law.specs.Touching.{IsInside, TouchesItsOwn}

-- ---- verdicts

-- A drive that hears judges bytes at a line: the verdict is the first fault that it finds, and it becomes what its rules
-- make of them. No other drive changes, and a command that it performs touches its own object and range alone.
pub record Judges (before : List Line) (l : Line) (drive : ℕ) (bytes : List ℕ) (v : Verdict) : Type 0 where
  pub there : DriveAt
  pub stands : drive_after before drive ≡ Some there
  pub hears : is_deaf there ≡ false
  pub verdict : v ≡ verdict_on there.state there.clock (reading bytes)
  pub becomes : drive_after (before ++ l ∷ []) drive ≡ Some (judges there (reading bytes)).drive
  pub others : (d : ℕ) → (d ≡ drive → ⊥) → drive_after (before ++ l ∷ []) d ≡ drive_after before d
  pub touches : v ≡ Perform → (c : Command) → reading bytes ≡ Ok c → TouchesItsOwn there.state c

-- what is judged is for that drive, and what isn't judged is for no drive that hears
abbrev pub Delivers : (before : List Line) → (number : ℕ) → Delivery → Sent → Type 0
Delivers before number (Judged v) m =
    (d : ℕ) × (m.to ≡ Drive d) × Judges before (line.Delivered number (Judged v)) d m.bytes v
Delivers before number delivery m =
    (d : ℕ) (a : DriveAt) → m.to ≡ Drive d → drive_after before d ≡ Some a → is_deaf a ≡ true

-- what is delivered was sent
pub record IsDelivered (before : List Line) (number : ℕ) (delivery : Delivery) : Type 0 where
  pub message : Sent
  pub sent : slice_get (sent_in before) number ≡ Some message
  pub tells : Delivers before number delivery message

-- the bytes that were injected last
abbrev pub injected_in : List Line → (drive : ℕ) → List ℕ
injected_in h d = (drive_seen d h).injected

-- ---- replies

-- a reply tells no data, or those of the capability's object and range alone
abbrev pub TellsItsOwn : DriveAt → Command → Reply → Type 0
TellsItsOwn a c r =
    (r.payload ≡ []) ⊎
    ((c.object ≡ c.capability.object) × (r.payload ≡ take c.length (drop c.offset (bytes_at a.state.store c.object))) ×
    ((k : ℕ) → c.offset ≤ k → k < c.offset + c.length → IsInside c.capability k))

-- A message of a drive is the reply of its rules to the message that was delivered to it in the line before, and goes to
-- who sent that. Where that was a READ, the reply tells bytes of its range alone.
pub record Replies (before : List Line) (drive : ℕ) (to : Party) (bytes : List ℕ) : Type 0 where
  pub lines : List Line
  pub number : ℕ
  pub delivery : Delivery
  pub before_is : before ≡ lines ++ line.Delivered number delivery ∷ []
  pub message : Sent
  pub sent : slice_get (sent_in lines) number ≡ Some message
  pub receiver : message.to ≡ Drive drive
  pub sender : message.from ≡ to
  pub there : DriveAt
  pub stands : drive_after lines drive ≡ Some there
  pub becomes : drive_after before drive ≡ Some (judges there (reading message.bytes)).drive
  pub bytes_are : bytes ≡ spelling (judges there (reading message.bytes)).reply
  pub tells : (c : Command) → reading message.bytes ≡ Ok c → c.action ≡ Read →
      TellsItsOwn there c (judges there (reading message.bytes)).reply

-- ---- each line

-- Each delivery, each verdict on what was injected, and each message of a drive tells what the drives' rules give.
abbrev pub JudgesAt : List Line → Line → Type 0
JudgesAt before (line.Delivered number delivery) = IsDelivered before number delivery
JudgesAt before (line.Judged d v) = Judges before (line.Judged d v) d (injected_in before d) v
JudgesAt before (line.Message number (Drive d) to bytes) = Replies before d to bytes
JudgesAt before l = Unit {0}
