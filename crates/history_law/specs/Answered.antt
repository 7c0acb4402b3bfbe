-- Behind each verdict on a delivered message stands the drive's reply, and behind one on injected bytes none.
use Rattle.std.specs.Prelude.{◌≡◌, ◌⊎◌, ℕ, true, List, [], ◌∷◌, ◌++◌, slice_get, Some}
use Rattle.osd_commands.specs.Commands.{reading}
use Rattle.osd_commands.specs.Replies.{spelling}
use Rattle.scenario_text.specs.declared.line.Delivery.TheVariants.{Judged}
use Rattle.scenario_text.specs.declared.line.Party.TheVariants.{Drive}
use Rattle.scenario_text.specs.declared.line.Line.{Line}
use Rattle.scenario_text.specs.declared.line.Line.TheVariants as line
use Rattle.world_history.specs.declared.messages.Sent.{Sent}
use Rattle.world_history.specs.State.{DriveAt, World}
use Rattle.world_history.specs.Drives.{judges}
use Rattle.world_history.specs.Reading.{is_head, sent_in}
use Rattle.world_history.specs.ReadDrives.{drive_after}
use Rattle.world_history.specs.History.{StandsFor}

-- ---- no message in the rest of a step

abbrev pub IsNoMessage : Line → Type 0
IsNoMessage (line.Message number from to bytes) = ⊥
IsNoMessage l = Unit {0}

-- before a further step begins, no message stands in these lines
abbrev pub SendNone : List Line → Type 0
SendNone [] = Unit {0}
SendNone (l ∷ ls) = (is_head l ≡ true) ⊎ (IsNoMessage l × SendNone ls)

-- ---- the reply

-- The line behind the one that a message was delivered is the reply of the drive to which the message was sent. It goes to
-- who sent the message, and its bytes spell what the drive's rules reply to the message's bytes, as the drive stood before.
-- No further message stands in the step.
pub record IsRepliedTo (before : List Line) (number : ℕ) (after : List Line) : Type 0 where
  pub message : Sent
  pub sent : slice_get (sent_in before) number ≡ Some message
  pub drive : ℕ
  pub receiver : message.to ≡ Drive drive
  pub there : DriveAt
  pub stands : drive_after before drive ≡ Some there
  pub reply : ℕ
  pub more : List Line
  pub replies : after ≡
      line.Message reply (Drive drive) message.from (spelling (judges there (reading message.bytes)).reply) ∷ more
  pub alone : SendNone more

-- so it is of each verdict of a delivery, and no message stands in the step of a verdict on injected bytes
abbrev pub AnsweredAt : (before : List Line) → Line → (after : List Line) → Type 0
AnsweredAt before (line.Delivered number (Judged v)) after = IsRepliedTo before number after
AnsweredAt before (line.Judged d v) after = SendNone after
AnsweredAt before l after = Unit {0}

-- at each line
abbrev pub AreAnswered : List Line → Type 0
AreAnswered h = (before : List Line) (l : Line) (after : List Line) → h ≡ before ++ l ∷ after → AnsweredAt before l after

-- so it is in each whole history; one that is cut may end between the verdict and the reply
abbrev pub VerdictsAreAnswered : Type 0
VerdictsAreAnswered = (w : World) (h : List Line) → StandsFor w h → AreAnswered h
