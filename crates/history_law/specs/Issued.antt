-- Which commands of clients drives perform, in the words of the lines.
use Rattle.std.specs.Prelude.{◌≡◌, ◌⊎◌, ℕ, true, List, slice_get, Some, Ok}
use Rattle.osd_lists.specs.Blocks.{IsBytes}
use Rattle.layout_types.specs.declared.cred.ObjectCred.{ObjectCred}
use Rattle.layout_ops.specs.Spelling.{EnvelopeFits}
use Rattle.osd_capability.specs.Layout as capabilities
use Rattle.osd_commands.specs.declared.commands.Command.{Command}
use Rattle.osd_commands.specs.Commands.{reading, spelling}
use Rattle.scenario_text.specs.declared.line.Delivery.TheVariants.{Judged}
use Rattle.scenario_text.specs.declared.line.Verdict.TheVariants.{Perform}
use Rattle.scenario_text.specs.declared.line.Party.{Party}
use Rattle.scenario_text.specs.declared.line.Party.TheVariants as party
use Rattle.scenario_text.specs.declared.line.Line.{Line}
use Rattle.scenario_text.specs.declared.line.Line.TheVariants as line
use Rattle.world_history.specs.declared.messages.Sent.{Sent}
use Rattle.world_history.specs.Reading.{sent_in}
use Rattle.world_history.specs.Guesses.{unguessed}
use Rattle.world_history.specs.History.{Lawful}
use Rattle.history_law.specs.Judging.{injected_in}
use Rattle.history_law.specs.Safe.{AtEachLine}
use Rattle.history_law.specs.Listed.{WasGiven, IsUnder}
use Rattle.history_law.specs.Granted.{IsGrantOf, SpellsOwn, NumbersFit, IsOfGrant}

-- These bytes spell a command under a credential that an answer of the server gave the client before. What the drive
-- reads in them carries exactly the capability that the client read there, where the answer is of bytes. The answer
-- gives a grant of that client, and the command is for a component under this grant, where the answer's numbers fit
-- their places.
pub record IsIssued (before : List Line) (client drive : ℕ) (bytes : List ℕ) : Type 0 where
  pub credential : ObjectCred
  pub given : WasGiven (sent_in before) client credential
  pub command : Command
  pub spells : bytes ≡ spelling command
  pub under : IsUnder credential drive command
  pub carries : (c : Command) → reading bytes ≡ Ok c → IsBytes given.message.bytes →
      capabilities.reading credential.oc_capability ≡ Ok c.capability
  pub source : SpellsOwn client given.message.bytes
  pub grant : EnvelopeFits source.message → IsGrantOf client given.lists.given
  pub exact : (x : IsGrantOf client given.lists.given) → NumbersFit x.drives x.file x.grant → (c : Command) →
      reading bytes ≡ Ok c → IsOfGrant x.file x.grant given.component c

-- the server sent these bytes to the drive
pub record IsOfServer (before : List Line) (drive : ℕ) (bytes : List ℕ) : Type 0 where
  pub number : ℕ
  pub message : Sent
  pub there : slice_get (sent_in before) number ≡ Some message
  pub sender : message.from ≡ party.Server
  pub receiver : message.to ≡ party.Drive drive
  pub bytes_are : message.bytes ≡ bytes

-- they are the server's, or were issued to a client
abbrev pub HasSource : List Line → (drive : ℕ) → List ℕ → Type 0
HasSource before drive bytes = IsOfServer before drive bytes ⊎ ((client : ℕ) × IsIssued before client drive bytes)

-- whoever sent such a message had it to send: the server sends its own, and a client what was issued to this client
abbrev pub IsFrom : List Line → Party → (drive : ℕ) → List ℕ → Type 0
IsFrom before party.Server drive bytes = IsOfServer before drive bytes
IsFrom before (party.Client client) drive bytes = IsIssued before client drive bytes
IsFrom before (party.Drive d) drive bytes = ⊥

-- So is what a drive performs: each message that is delivered is of its sender, and, where nothing was guessed so far,
-- injected bytes have a source.
abbrev pub IssuedAt : List Line → Line → Type 0
IssuedAt before (line.Delivered number (Judged Perform)) =
    (message : Sent) (drive : ℕ) → slice_get (sent_in before) number ≡ Some message → message.to ≡ party.Drive drive
    → IsFrom before message.from drive message.bytes
IssuedAt before (line.Judged drive Perform) =
    unguessed before ≡ true → HasSource before drive (injected_in before drive)
IssuedAt before l = Unit {0}

-- in each lawful history, at each line
abbrev pub CommandsAreIssued : Type 0
CommandsAreIssued = (h : List Line) → Lawful h → AtEachLine IssuedAt h
