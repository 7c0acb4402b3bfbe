-- Why a LAYOUTRETURN is answered as it is, in the words of the file's book.
use Rattle.std.specs.Prelude.{◌≡◌, ◌≢◌, ℕ, true, List, [], ◌∷◌, Some, None}
use Rattle.layout_ops.specs.declared.results.LayoutReturnResult.TheVariants as return
use Rattle.layout_ops.specs.declared.results.Results.{Results}
use Rattle.layout_ops.specs.declared.results.Results.TheVariants as results
use Rattle.layout_ops.specs.declared.statuses.TheConstants.{NFS4ERR_LAYOUTUNAVAILABLE}
use Rattle.server_rules.specs.declared.limits.TheConstants.{GREATEST_TAG, NO_COMPONENT, LOSS_TAKEN}
use Rattle.server_rules.specs.Grants.{without}
use Rattle.server_rules.specs.Return.{named, none_beyond}
use Rattle.server_rules.specs.Standing.{lose_from}
use Rattle.world_history.specs.ServerNames.{Kept, Grant, IoErr}
use Rattle.cause_law.specs.Commits.{HasGrant}

-- A report is taken as a loss: the grant is for writing, and the file's only one; each entry is of a drive that wasn't reached,
-- and names a component; and without these, and those that are missing already, none of their groups has more positions without
-- a present replica than the code brings back.
pub record IsLoss (f : Kept) (g : Grant) (report : List IoErr) (components : List ℕ) : Type 0 where
  pub writes : g.rw ≡ true
  pub sole : f.grants ≡ g ∷ []
  pub names : named report f.components ≡ Some components
  pub borne : none_beyond f.map (lose_from components f.components 0) components ≡ true

-- so is this report of the client
pub record LosesSome (f : Kept) (client : ℕ) (report : List IoErr) : Type 0 where
  pub has : HasGrant f client
  pub components : List ℕ
  pub loss : IsLoss f has.grant report components

-- What it comes to: the client has no grant; the report is empty, and the grant goes; it is taken as a loss, and the grant and
-- the components go; or a fence is needed, and begins and ends all grants unless there is no further tag. Of the file as the book
-- has it when the request comes, and behind its step.
pub data Returns (before behind : Kept) (client : ℕ) : (report : List IoErr) → (detail : ℕ) → Results → Type 0 where
  NoGrant : (report : List IoErr) → (HasGrant before client → ⊥) → behind ≡ before
      → Returns before behind client report 0 (results.LayoutReturn (return.Returned None))
  Clean : HasGrant before client → behind ≡ record before { grants = without before.grants client }
      → Returns before behind client [] 0 (results.LayoutReturn (return.Returned None))
  Taken : (report : List IoErr) → report ≢ [] → (l : LosesSome before client report)
      → behind ≡ record before {
        components = lose_from l.components before.components 0;
        grants = without before.grants client;
      }
      → Returns before behind client report LOSS_TAKEN (results.LayoutReturn (return.Returned None))
  TagSpent : (report : List IoErr) → report ≢ [] → HasGrant before client → (LosesSome before client report → ⊥)
      → before.tag ≡ GREATEST_TAG → behind ≡ before
      → Returns before behind client report NO_COMPONENT (results.LayoutReturn (return.Refused NFS4ERR_LAYOUTUNAVAILABLE))
  Fences : (report : List IoErr) → report ≢ [] → HasGrant before client → (LosesSome before client report → ⊥)
      → before.tag ≢ GREATEST_TAG → behind.grants ≡ [] → behind.size ≡ before.size
      → Returns before behind client report 0 (results.LayoutReturn (return.Returned None))
