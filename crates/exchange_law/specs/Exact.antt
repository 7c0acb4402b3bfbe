-- Which commands of clients drives perform, where numbers fit their places: those under a grant of the client.
use Rattle.std.specs.Prelude.{◌≡◌, ◌⊎◌, ℕ, true, List, slice_get, Some, Ok}
use Rattle.osd_commands.specs.declared.commands.Command.{Command}
use Rattle.osd_commands.specs.Commands.{reading}
use Rattle.scenario_text.specs.declared.line.Delivery.TheVariants.{Judged}
use Rattle.scenario_text.specs.declared.line.Verdict.TheVariants.{Perform}
use Rattle.scenario_text.specs.declared.line.Party.{Party}
use Rattle.scenario_text.specs.declared.line.Party.TheVariants as party
use Rattle.scenario_text.specs.declared.line.Line.{Line}
use Rattle.scenario_text.specs.declared.line.Line.TheVariants as line
use Rattle.world_history.specs.declared.messages.Sent.{Sent}
use Rattle.world_history.specs.Reading.{sent_in}
use Rattle.world_history.specs.Guesses.{unguessed}
use Rattle.world_history.specs.History.{Lawful}
use Rattle.history_law.specs.Judging.{injected_in}
use Rattle.history_law.specs.Safe.{AtEachLine}
use Rattle.history_law.specs.Granted.{IsGrantOf, NumbersFit, IsOfGrant}
use Rattle.history_law.specs.Issued.{IsIssued, IsOfServer}
use Rattle.history_law.specs.Unforged.{AreUnforged, IsListed}
use Rattle.exchange_law.specs.Text.{AreOfText, AreFew}

-- These bytes were issued to the client. The answer gives a grant of that client, whose numbers fit their places, and
-- what the drive reads is a command for a component under this grant.
pub record IsIssuedExactly (before : List Line) (client drive : ℕ) (bytes : List ℕ) : Type 0 where
  pub issued : IsIssued before client drive bytes
  pub grant : IsGrantOf client issued.given.lists.given
  pub fits : NumbersFit grant.drives grant.file grant.grant
  pub exact : (c : Command) → reading bytes ≡ Ok c → IsOfGrant grant.file grant.grant issued.given.component c

-- they are the server's, or were issued to a client
abbrev pub HasExactSource : List Line → (drive : ℕ) → List ℕ → Type 0
HasExactSource before drive bytes =
    IsOfServer before drive bytes ⊎ ((client : ℕ) × IsIssuedExactly before client drive bytes)

-- the server sends its own, and a client what was issued to this client
abbrev pub IsExactlyFrom : List Line → Party → (drive : ℕ) → List ℕ → Type 0
IsExactlyFrom before party.Server drive bytes = IsOfServer before drive bytes
IsExactlyFrom before (party.Client client) drive bytes = IsIssuedExactly before client drive bytes
IsExactlyFrom before (party.Drive d) drive bytes = ⊥

-- So is what a drive performs: each message that is delivered is of its sender, and, where nothing was guessed so far,
-- injected bytes have a source.
abbrev pub IssuedExactlyAt : List Line → Line → Type 0
IssuedExactlyAt before (line.Delivered number (Judged Perform)) =
    (message : Sent) (drive : ℕ) → slice_get (sent_in before) number ≡ Some message → message.to ≡ party.Drive drive
    → IsExactlyFrom before message.from drive message.bytes
IssuedExactlyAt before (line.Judged drive Perform) =
    unguessed before ≡ true → HasExactSource before drive (injected_in before drive)
IssuedExactlyAt before l = Unit {0}

-- at each line of a lawful history of a scenario's text with few messages
abbrev pub CommandsAreIssuedExactly : Type 0
CommandsAreIssuedExactly = (h : List Line) → Lawful h → AreOfText h → AreFew h → AtEachLine IssuedExactlyAt h

-- This command carries a capability that was given to the client. The answer gives a grant of that client, whose numbers
-- fit their places, and the command is for a component under this grant.
pub record IsListedExactly (before : List Line) (client : ℕ) (c : Command) : Type 0 where
  pub listed : IsListed before client c
  pub grant : IsGrantOf client listed.given.lists.given
  pub fits : NumbersFit grant.drives grant.file grant.grant
  pub exact : IsOfGrant grant.file grant.grant listed.given.component c

-- So it is of injected bytes that a drive performs, where nothing that was injected so far is forged: they are the
-- server's, or were issued to a client, or spell a command that carries what was given to one.
abbrev pub InjectedExactlyAt : List Line → Line → Type 0
InjectedExactlyAt before (line.Judged drive Perform) =
    AreUnforged before → HasExactSource before drive (injected_in before drive)
    ⊎ ((c : Command) → reading (injected_in before drive) ≡ Ok c → (client : ℕ) × IsListedExactly before client c)
InjectedExactlyAt before l = Unit {0}

abbrev pub UnforgedAreIssuedExactly : Type 0
UnforgedAreIssuedExactly = (h : List Line) → Lawful h → AreOfText h → AreFew h → AtEachLine InjectedExactlyAt h
