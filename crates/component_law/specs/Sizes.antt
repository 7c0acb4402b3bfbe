-- A client knows the sizes of the files of which it holds grants.
use Rattle.std.specs.Prelude.{◌≡◌, ◌⊎◌, ℕ, List, Some}
use Rattle.layout_ops.specs.declared.args.Args.{Args}
use Rattle.layout_ops.specs.declared.args.Args.TheVariants as args
use Rattle.layout_ops.specs.declared.statuses.TheConstants.{NFS4_OK}
use Rattle.client_rules.specs.Grants.{held_of}
use Rattle.client_rules.specs.Results.{status_of}
use Rattle.server_rules.specs.Files.{file_at}
use Rattle.server_rules.specs.Grants.{grant_of}
use Rattle.server_rules.specs.Slots.{slot_of}
use Rattle.scenario_text.specs.declared.line.Line.{Line}
use Rattle.world_history.specs.ClientNames.{Client, Held, Request}
use Rattle.world_history.specs.ServerNames.{Server, File, Grant, Slot}
use Rattle.world_history.specs.State.{World, at_number}
use Rattle.history_law.specs.BookMoments.{IsMoment}
use Rattle.exchange_law.specs.InStep.{state_of}
use Rattle.exchange_law.specs.Meeting.{IsReadableThrough}

-- they are those of a LAYOUTCOMMIT
abbrev pub IsCommit : Args → Type 0
IsCommit (args.LayoutCommit a) = Unit {0}
IsCommit a = ⊥

-- The outstanding request of client c is a LAYOUTCOMMIT on this file. The server has carried it out, and the answer
-- that it keeps tells the file's size.
pub record IsCommitted (s : Server) (c : ℕ) (x : Client) (f : File) : Type 0 where
  pub request : Request
  pub outstanding : x.outstanding ≡ Some request
  pub commits : IsCommit request.args
  pub file : request.file ≡ f.kept.number
  pub slot : Slot
  pub kept : slot_of s.slots c ≡ Some slot
  pub last : slot.last ≡ request.sequence
  pub done : status_of slot.kept.results ≡ NFS4_OK
  pub size : slot.kept.size ≡ f.kept.size

-- where the server has a grant of client c on a file of which the client holds one, the client knows the size, or will
-- by the answer to its LAYOUTCOMMIT
abbrev pub KnowsSizes : Server → (c : ℕ) → Client → Type 0
KnowsSizes s c x =
    (n : ℕ) (h : Held) (f : File) (g : Grant) → held_of x.held n ≡ Some h → file_at s.files n ≡ Some f
    → grant_of f.kept.grants c ≡ Some g → (h.size ≡ f.kept.size) ⊎ IsCommitted s c x f

-- at each moment of a history
abbrev pub SizesAgree : Type 0
SizesAgree =
    (w : World) (h : List Line) → IsMoment w h → IsReadableThrough h → (c : ℕ)
    → KnowsSizes w.server c (state_of c (at_number w.clients c))
