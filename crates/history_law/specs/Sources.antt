-- Where the commands come from that drives perform.
use Rattle.std.specs.Prelude.{◌≡◌, ℕ, true, List, slice_get, Some}
use Rattle.scenario_text.specs.declared.line.Delivery.TheVariants.{Judged}
use Rattle.scenario_text.specs.declared.line.Verdict.TheVariants.{Perform}
use Rattle.scenario_text.specs.declared.line.Party.{Party}
use Rattle.scenario_text.specs.declared.line.Party.TheVariants.{Drive}
use Rattle.scenario_text.specs.declared.line.Line.{Line}
use Rattle.scenario_text.specs.declared.line.Line.TheVariants as line
use Rattle.world_history.specs.declared.messages.Sent.{Sent}
use Rattle.world_history.specs.Reading.{sent_in}
use Rattle.world_history.specs.Guesses.{unguessed}
use Rattle.history_law.specs.Judging.{injected_in}

-- the server, or a client
abbrev pub IsServerOrClient : Party → Type 0
IsServerOrClient (Drive d) = ⊥
IsServerOrClient p = Unit {0}

-- these bytes were sent to the drive, by the server or a client
pub record WasSent (h : List Line) (drive : ℕ) (bytes : List ℕ) : Type 0 where
  pub number : ℕ
  pub message : Sent
  pub sent : slice_get (sent_in h) number ≡ Some message
  pub receiver : message.to ≡ Drive drive
  pub sender : IsServerOrClient message.from
  pub bytes_are : message.bytes ≡ bytes

-- A message that a drive performs as it is delivered is the server's or a client's. Where nothing was guessed so far,
-- injected bytes that a drive performs were sent to it before.
abbrev pub ComesAt : List Line → Line → Type 0
ComesAt before (line.Delivered number (Judged Perform)) =
    (message : Sent) → slice_get (sent_in before) number ≡ Some message → IsServerOrClient message.from
ComesAt before (line.Judged d Perform) = unguessed before ≡ true → WasSent before d (injected_in before d)
ComesAt before l = Unit {0}
