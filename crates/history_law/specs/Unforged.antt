-- Injected bytes that aren't forged.
use Rattle.std.specs.Prelude.{◌≡◌, ◌⊎◌, ℕ, true, List, Some, Ok}
use Rattle.layout_types.specs.declared.cred.ObjectCred.{ObjectCred}
use Rattle.layout_ops.specs.Spelling.{EnvelopeFits}
use Rattle.osd_capability.specs.declared.layout.Capability.{Capability}
use Rattle.osd_capability.specs.Layout as capabilities
use Rattle.osd_commands.specs.declared.commands.Command.{Command}
use Rattle.osd_commands.specs.Commands.{reading}
use Rattle.osd_drive.specs.State.{key_of_version}
use Rattle.scenario_text.specs.declared.event.Event.TheVariants as event
use Rattle.scenario_text.specs.declared.line.Verdict.TheVariants.{Perform}
use Rattle.scenario_text.specs.declared.line.Line.{Line}
use Rattle.scenario_text.specs.declared.line.Line.TheVariants as line
use Rattle.world_history.specs.State.{DriveAt}
use Rattle.world_history.specs.Guesses.{opens_with, unguessed}
use Rattle.world_history.specs.History.{Lawful}
use Rattle.world_history.specs.Reading.{sent_in}
use Rattle.world_history.specs.ReadDrives.{drive_after}
use Rattle.history_law.specs.Judging.{injected_in}
use Rattle.history_law.specs.Safe.{AtEachLine}
use Rattle.history_law.specs.Sources.{WasSent}
use Rattle.history_law.specs.Listed.{WasGiven}
use Rattle.history_law.specs.Granted.{IsGrantOf, SpellsOwn, NumbersFit, IsOfGrant}
use Rattle.history_law.specs.Issued.{HasSource}

-- an answer of the server gave some client a credential with this capability before
pub record WasListed (before : List Line) (c : Capability) : Type 0 where
  pub client : ℕ
  pub credential : ObjectCred
  pub given : WasGiven (sent_in before) client credential
  pub is : capabilities.reading credential.oc_capability ≡ Ok c

-- Injected bytes that spell a command, whose check value holds under the drive's key, were sent to that drive before, or
-- carry a capability that was listed before.
abbrev pub IsUnforged : List Line → Line → Type 0
IsUnforged before (line.Event (event.Inject drive bytes)) =
    (a : DriveAt) (c : Command) → drive_after before drive ≡ Some a → reading bytes ≡ Ok c
    → opens_with (key_of_version a.state.keys c.capability.key_version) c ≡ true
    → WasSent before drive bytes ⊎ WasListed before c.capability
IsUnforged before l = Unit {0}

-- nothing that was injected so far is forged
abbrev pub AreUnforged : List Line → Type 0
AreUnforged h = AtEachLine IsUnforged h

-- This command carries a capability that an answer of the server gave the client before. The answer gives a grant of that
-- client, and the command is for a component under this grant, where the answer's numbers fit their places.
pub record IsListed (before : List Line) (client : ℕ) (c : Command) : Type 0 where
  pub credential : ObjectCred
  pub given : WasGiven (sent_in before) client credential
  pub is : capabilities.reading credential.oc_capability ≡ Ok c.capability
  pub source : SpellsOwn client given.message.bytes
  pub grant : EnvelopeFits source.message → IsGrantOf client given.lists.given
  pub exact : (x : IsGrantOf client given.lists.given) → NumbersFit x.drives x.file x.grant →
      IsOfGrant x.file x.grant given.component c

-- so it is of each lawful history of which nothing was guessed
abbrev pub UnguessedAreUnforged : Type 0
UnguessedAreUnforged = (h : List Line) → Lawful h → unguessed h ≡ true → AreUnforged h

-- they are the server's, or were issued to a client, or spell a command that carries what was given to one
abbrev pub HasFairSource : List Line → (drive : ℕ) → List ℕ → Type 0
HasFairSource before drive bytes =
    HasSource before drive bytes
    ⊎ ((c : Command) → reading bytes ≡ Ok c → (client : ℕ) × IsListed before client c)

-- So it is of injected bytes that a drive performs, where nothing that was injected so far is forged.
abbrev pub InjectedAt : List Line → Line → Type 0
InjectedAt before (line.Judged drive Perform) =
    AreUnforged before → HasFairSource before drive (injected_in before drive)
InjectedAt before l = Unit {0}

-- in each lawful history, at each line
abbrev pub UnforgedAreIssued : Type 0
UnforgedAreIssued = (h : List Line) → Lawful h → AtEachLine InjectedAt h
