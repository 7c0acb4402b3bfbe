-- The command on which that verdict was given: the client's call awaited it then.
use Rattle.std.specs.Prelude.{◌≡◌, ◌⊎◌, ℕ, ◌<◌, ◌^◌, false, List, [], ◌∷◌, ◌++◌, length, Some}
use Rattle.osd_commands.specs.Commands.{reading, spelling}
use Rattle.server_rules.specs.Laws.{In}
use Rattle.client_rules.specs.declared.calls.Awaited.{Awaited}
use Rattle.client_rules.specs.Messages.{awaited_of}
use Rattle.scenario_text.specs.declared.event.Event.TheVariants as event
use Rattle.scenario_text.specs.declared.line.Verdict.{Verdict}
use Rattle.scenario_text.specs.declared.line.Ending.TheVariants.{Refused}
use Rattle.scenario_text.specs.declared.line.Outcome.TheVariants.{Failed}
use Rattle.scenario_text.specs.declared.line.Line.{Line}
use Rattle.scenario_text.specs.declared.line.Line.TheVariants as line
use Rattle.world_history.specs.State.{DriveAt, ClientAt, World, at_number}
use Rattle.world_history.specs.Drives.{verdict_on, is_deaf}
use Rattle.world_history.specs.Reading.{sent_in}
use Rattle.world_history.specs.History.{Lawful}
use Rattle.history_law.specs.Safe.{AtEachLine}
use Rattle.history_law.specs.BookMoments.{IsMoment}
use Rattle.exchange_law.specs.Judged.{WasJudged}

-- the lines before a delivery are those of a moment, and perhaps the line of the event that delivers
abbrev pub IsBehind : (before lines : List Line) → (number : ℕ) → Type 0
IsBehind before lines number = (before ≡ lines) ⊎ (before ≡ lines ++ line.Event (event.Deliver number) ∷ [])

-- The message that the drive judged so spelled a command that the client's call awaited at that moment, before the
-- drive had judged it. The client wasn't stopped then, and the verdict is that of the drive as it stood then.
pub record WasAwaited (h : List Line) (client drive : ℕ) (v : Verdict) : Type 0 where
  pub judged : WasJudged h client drive v
  pub world : World
  pub lines : List Line
  pub moment : IsMoment world lines
  pub behind : IsBehind judged.before lines judged.number
  pub caller : ClientAt
  pub there : at_number world.clients client ≡ Some caller
  pub alive : caller.stopped ≡ false
  pub command : Awaited
  pub awaits : In command (awaited_of caller.state.call)
  pub drive_is : command.drive ≡ drive
  pub bytes_are : judged.message.bytes ≡ spelling command.command
  pub device : DriveAt
  pub stands : at_number world.drives drive ≡ Some device
  pub hears : is_deaf device ≡ false
  pub verdict : judged.found ≡ verdict_on device.state device.clock (reading judged.message.bytes)

-- fewer messages were sent than half of the nonces that a grant has, and of the numbers that requests have
abbrev pub AreFewerThanNonces : List Line → Type 0
AreFewerThanNonces h = length (sent_in h) < 2 ^ 31

-- a call that ends as refused awaited the command that was refused
abbrev pub AwaitedAt : List Line → Line → Type 0
AwaitedAt before (line.Ended c (Failed kind (Refused d v))) = AreFewerThanNonces before → WasAwaited before c d v
AwaitedAt before l = Unit {0}

-- in each lawful history, at each line
abbrev pub RefusalsWereAwaited : Type 0
RefusalsWereAwaited = (h : List Line) → Lawful h → AtEachLine AwaitedAt h
