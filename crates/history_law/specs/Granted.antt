-- What the server gives in its answers.
use Rattle.std.specs.Prelude.{◌≡◌, ℕ, true, false, List, [], ◌∷◌, ◌++◌, slice_get, Some}
use Rattle.osd_commands.specs.declared.actions.Action.TheVariants.{Write}
use Rattle.osd_commands.specs.declared.commands.Command.{Command}
use Rattle.osd_capability.specs.Layout.{Fits}
use Rattle.layout_types.specs.Spelling.{LayoutFits}
use Rattle.layout_ops.specs.declared.results.LayoutGetOk.{LayoutGetOk}
use Rattle.layout_ops.specs.declared.results.LayoutGetResult.TheVariants as get
use Rattle.layout_ops.specs.declared.results.Results.{Results}
use Rattle.layout_ops.specs.declared.results.Results.TheVariants as results
use Rattle.layout_ops.specs.declared.envelope.Envelope.{Envelope}
use Rattle.layout_ops.specs.declared.envelope.Envelope.TheVariants as envelope
use Rattle.layout_ops.specs.Spelling.{envelope_item}
use Rattle.server_rules.specs.declared.files.Component.{Component}
use Rattle.server_rules.specs.declared.files.Kept.{Kept}
use Rattle.server_rules.specs.declared.grants.Grant.{Grant}
use Rattle.server_rules.specs.declared.server.Drive.{Drive}
use Rattle.server_rules.specs.Layouts.{capability_for, layout_for, granted}

-- what a LAYOUTGET gives is a grant of this client, the latest of those that its file has then
pub record IsGrantOf (client : ℕ) (ok : LayoutGetOk) : Type 0 where
  pub drives : List Drive
  pub file : Kept
  pub grant : Grant
  pub is : ok ≡ granted drives file grant
  pub client_is : grant.client ≡ client
  pub earlier : List Grant
  pub latest : file.grants ≡ earlier ++ grant ∷ []

-- so it is of an answer's results, where they give a layout
abbrev pub GivesOwn : (client : ℕ) → Results → Type 0
GivesOwn client (results.LayoutGet (get.Granted ok)) = IsGrantOf client ok
GivesOwn client r = Unit {0}

-- and of any message that is an answer
abbrev pub OwnIn : (client : ℕ) → Envelope → Type 0
OwnIn client (envelope.Answer a) = GivesOwn client a.results
OwnIn client e = Unit {0}

-- these bytes spell such a message
pub record SpellsOwn (client : ℕ) (bytes : List ℕ) : Type 0 where
  pub message : Envelope
  pub bytes_are : bytes ≡ envelope_item message
  pub own : OwnIn client message

-- ---- the capability of a component

-- each number of the layout, and of its capabilities, fits its place
pub record NumbersFit (drives : List Drive) (f : Kept) (g : Grant) : Type 0 where
  pub layout : LayoutFits (layout_for drives f g)
  pub capabilities : (k : ℕ) (at : Component) → slice_get f.components k ≡ Some at → Fits (capability_for f g at k)

-- The command is for a present component of the file, under the grant: its capability is for the rows that the grant's
-- stripes have there, with the file's tag. A WRITE is under a grant for writing.
pub record IsOfGrant (f : Kept) (g : Grant) (k : ℕ) (c : Command) : Type 0 where
  pub at : Component
  pub found : slice_get f.components k ≡ Some at
  pub present : at.missing ≡ false
  pub capability : c.capability ≡ capability_for f g at k
  pub writes : c.action ≡ Write → g.rw ≡ true
