-- Who takes a message that is delivered, and who is deaf to it.
use Rattle.std.specs.Prelude.{◌≡◌, ℕ, true, false, List, slice_get, Some}
use Rattle.scenario_text.specs.declared.line.Delivery.{Delivery}
use Rattle.scenario_text.specs.declared.line.Delivery.TheVariants.{Deaf, Taken, Judged}
use Rattle.scenario_text.specs.declared.line.Party.{Party}
use Rattle.scenario_text.specs.declared.line.Party.TheVariants as party
use Rattle.scenario_text.specs.declared.line.Line.{Line}
use Rattle.scenario_text.specs.declared.line.Line.TheVariants as line
use Rattle.world_history.specs.declared.messages.Sent.{Sent}
use Rattle.world_history.specs.State.{DriveAt, ClientAt}
use Rattle.world_history.specs.Drives.{is_deaf}
use Rattle.world_history.specs.Reading.{sent_in}
use Rattle.world_history.specs.ReadDrives.{drive_after}
use Rattle.world_history.specs.History.{Lawful}
use Rattle.history_law.specs.Safe.{AtEachLine}
use Rattle.cause_law.specs.ReadClients.{client_after}
use Rattle.cause_law.specs.Down.{is_down}

-- behind these lines nothing reaches the party: the drive has failed or is down, the client was stopped, the server is down, or
-- there is none
abbrev pub HearsNothing : List Line → Party → Type 0
HearsNothing h (party.Drive d) = (a : DriveAt) → drive_after h d ≡ Some a → is_deaf a ≡ true
HearsNothing h (party.Client c) = (a : ClientAt) → client_after h c ≡ Some a → a.stopped ≡ true
HearsNothing h party.Server = is_down h ≡ true

-- the party is a client that is there and wasn't stopped, or the server, and that is up
abbrev pub Hears : List Line → Party → Type 0
Hears h (party.Drive d) = ⊥
Hears h (party.Client c) = (a : ClientAt) × (client_after h c ≡ Some a) × (a.stopped ≡ false)
Hears h party.Server = is_down h ≡ false

-- the party is a drive that is there, is up, and hasn't failed
abbrev pub IsDriveUp : List Line → Party → Type 0
IsDriveUp h (party.Drive d) = (a : DriveAt) × (drive_after h d ≡ Some a) × (is_deaf a ≡ false)
IsDriveUp h p = ⊥

-- Its receiver is deaf to a message exactly if nothing reaches it. Else a client or the server takes it, and a drive judges it.
abbrev pub IsReceived : (before : List Line) → Delivery → Party → Type 0
IsReceived before Deaf to = HearsNothing before to
IsReceived before Taken to = Hears before to
IsReceived before (Judged v) to = IsDriveUp before to

-- what is delivered was sent, and its receiver does with it what it can
pub record WasReceived (before : List Line) (number : ℕ) (d : Delivery) : Type 0 where
  pub message : Sent
  pub sent : slice_get (sent_in before) number ≡ Some message
  pub received : IsReceived before d message.to

abbrev pub ReceivedAt : List Line → Line → Type 0
ReceivedAt before (line.Delivered number d) = WasReceived before number d
ReceivedAt before l = Unit {0}

-- so it is at each line of a lawful history
abbrev pub MessagesAreReceived : Type 0
MessagesAreReceived = (h : List Line) → Lawful h → AtEachLine ReceivedAt h
