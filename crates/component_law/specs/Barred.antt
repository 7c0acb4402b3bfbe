-- What was given before a fence was over is of no use behind it.
use Rattle.std.specs.Prelude.{◌≡◌, ℕ, false, List, ◌∷◌, ◌++◌, Ok}
use Rattle.layout_types.specs.declared.cred.ObjectCred.{ObjectCred}
use Rattle.osd_capability.specs.declared.layout.Capability.{Capability}
use Rattle.osd_capability.specs.Layout as capabilities
use Rattle.osd_commands.specs.declared.commands.Command.{Command}
use Rattle.osd_commands.specs.Commands.{reading}
use Rattle.server_rules.specs.Laws.{In}
use Rattle.scenario_text.specs.declared.line.Verdict.TheVariants.{Perform}
use Rattle.scenario_text.specs.declared.line.Line.{Line}
use Rattle.world_history.specs.declared.messages.Sent.{Sent}
use Rattle.world_history.specs.ServerNames.{Component}
use Rattle.world_history.specs.Reading.{sent_in}
use Rattle.world_history.specs.State.{World}
use Rattle.world_history.specs.History.{StandsFor}
use Rattle.history_law.specs.Judging.{Judges}
use Rattle.history_law.specs.Listed.{WasGiven}
use Rattle.history_law.specs.Fenced.{noted, FencedBehind, UnforgedTo}
use Rattle.exchange_law.specs.Text.{AreOfText, AreFew}

-- an answer of the server on this file gave a client a credential with this capability
pub record WasGivenFor (sent : List Sent) (file : ℕ) (c : Capability) : Type 0 where
  pub client : ℕ
  pub credential : ObjectCred
  pub given : WasGiven sent client credential
  pub file_is : given.lists.answer.file ≡ file
  pub is : capabilities.reading credential.oc_capability ≡ Ok c

-- Behind the step of the note no command is performed on the object of any component of the file that isn't missing there,
-- if its capability was given for the file before the note, whatever is forged behind it.
abbrev pub BarsGiven :
    (before after : List Line) (number tag : ℕ) (f : FencedBehind before after number tag)
    → UnforgedTo before after number tag f → Type 0
BarsGiven before after number tag f fair =
    (at : Component) → In at (f.holds fair).file.kept.components → at.missing ≡ false →
    (middle later : List Line) (l : Line) → f.more ≡ middle ++ l ∷ later → (bytes : List ℕ) (c : Command) →
    Judges (noted before number tag f.rest ++ middle) l at.drive bytes Perform → reading bytes ≡ Ok c →
    c.object ≡ at.object → WasGivenFor (sent_in before) number c.capability → ⊥

-- so it is of each note that a fence is over, if nothing is forged up to the end of its step
abbrev pub FencesBar : List Line → Type 0
FencesBar h =
    (before after : List Line) (number tag : ℕ) → h ≡ noted before number tag after →
    (f : FencedBehind before after number tag)
    × ((fair : UnforgedTo before after number tag f) → BarsGiven before after number tag f fair)

-- in each whole history of a scenario's text with few messages
abbrev pub GivenIsBarred : Type 0
GivenIsBarred = (w : World) (h : List Line) → StandsFor w h → AreOfText h → AreFew h → FencesBar h
