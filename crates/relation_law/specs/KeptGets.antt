-- What a LAYOUTGET comes to, for what the machine has of what is kept.
use Rattle.std.specs.Prelude.{◌≡◌, ℕ, ◌==◌, Bool, false, None}
use Rattle.layout_ops.specs.declared.statuses.TheConstants.{NFS4_OK}
use Rattle.client_rules.specs.Results.{status_of}
use Rattle.server_rules.specs.Answers.{result_of}
use Rattle.server_rules.specs.Get.{gives}
use Rattle.server_rules.specs.Going.{Going}
use Rattle.server_rules.specs.History.{Input}
use Rattle.server_rules.specs.Served.{Served}
use Rattle.world_history.specs.ServerNames.{File, Note, Grant, RequestArgs}
use Rattle.world_history.specs.State.{World}
use Rattle.fence_law.specs.State.{State}
use Rattle.relation_law.specs.KeptGrants.{CanGrant}
use Rattle.relation_law.specs.KeptSteps.{notes_events, behind_notes, IsSoFar, IsDone}
use Rattle.fence_law.specs.Machine.{Lawful}
use Rattle.std.specs.Prelude.{List}

-- it is refused, with a status that isn't well
pub record IsRefused (next : ℕ) (t : State) (w : World) (f : File) (i : Input) (Given : List Note → Type 0) (args : RequestArgs)
    (v : Served) : Type 0 where
  pub done : IsDone next t w f i Given v.going
  pub none : v.told.grant ≡ None
  pub status : (status_of (result_of args v.told.status) == NFS4_OK) ≡ false
  pub numbers : v.numbers ≡ 0

-- or a grant is given, on the file as it is so far
pub record IsGiven (next : ℕ) (t : State) (w : World) (f : File) (i : Input) (Given : List Note → Type 0) (c : ℕ) (rw_ : Bool)
    (v : Served) : Type 0 where
  pub before : Going
  pub grant : Grant
  pub gives_it : v ≡ gives before grant
  pub can : CanGrant before.file.kept next c grant
  pub rw_is : grant.rw ≡ rw_
  pub idle : before.file.job ≡ None
  pub number : before.file.kept.number ≡ f.kept.number
  pub busy : Bool
  pub lawful : Given before.effects.notes → Lawful t (notes_events t w f i before.effects.notes)
  pub so_far : Given before.effects.notes → IsSoFar next busy (behind_notes t w f i before.effects.notes) before.file.kept

-- one of these
pub data GetsAs (next : ℕ) (t : State) (w : World) (f : File) (i : Input) (Given : List Note → Type 0) (args : RequestArgs)
    (c : ℕ) (rw_ : Bool) (v : Served) : Type 0 where
  Refused : IsRefused next t w f i Given args v → GetsAs next t w f i Given args c rw_ v
  Given_ : IsGiven next t w f i Given c rw_ v → GetsAs next t w f i Given args c rw_ v
