-- The WRITEs that the server sent to the target of a rebuild: which of them is awaited, and when all are spent.
use Rattle.std.specs.Prelude.{◌≡◌, ◌≤◌, ℕ, true, false, nat_lt, List, [], ◌∷◌, replicate, Some}
use Rattle.osd_lists.specs.declared.node.Node.TheVariants as node
use Rattle.osd_commands.specs.declared.commands.Command.{Command}
use Rattle.osd_commands.specs.declared.replies.Reply.{Reply}
use Rattle.scenario_text.specs.declared.line.Line.{Line}
use Rattle.server_rules.specs.Columns.{end_of}
use Rattle.server_rules.specs.Laws.{In}
use Rattle.server_rules.specs.Messages.{Replies}
use Rattle.server_rules.specs.Rebuild.{made}
use Rattle.server_rules.specs.Replies.{Done, answers, hearing, others, heard_with}
use Rattle.world_history.specs.Handed.{for_server}
use Rattle.world_history.specs.ServerNames.{File, Awaited, Job, Piece, Target, Gathers, Fills}
use Rattle.world_history.specs.State.{World, at_number}
use Rattle.world_history.specs.Sending.{Move}
use Rattle.history_law.specs.Said.{IsDelivered}
use Rattle.component_law.specs.Naming.{AreNamed}
use Rattle.history_law.specs.BookMoments.{IsMoment}
use Rattle.history_law.specs.Spent.{IsSpent}
use Rattle.fence_law.specs.State.{State}
use Rattle.file_simulation.specs.Jobs.{IsFill}
use Rattle.relation_law.specs.Steps.{FollowsWhole}

-- ---- the last WRITE

-- the job awaits one command, and no WRITE to the target is later than it
pub record IsLatest (w : World) (t : Target) (awaited : List Awaited) : Type 0 where
  pub command : Awaited
  pub only : awaited ≡ command ∷ []
  pub latest : (x : Command) → IsFill w t x → x.nonce ≤ command.command.nonce

-- so it is where a rebuild writes a piece
abbrev pub FillsAreLatest : World → File → Type 0
FillsAreLatest w f =
    (j : Job) (t : Target) (todo : List Piece) → f.job ≡ Some j → j.work ≡ Fills t todo → IsLatest w t j.awaited

-- at each moment of a history whose events lines can name
abbrev pub EachFillIsLatest : Type 0
EachFillIsLatest =
    (w : World) (h : List Line) → IsMoment w h → AreNamed h → (f : File) → In f w.server.files → FillsAreLatest w f

-- ---- a piece of zeros

-- each WRITE that the server sent to the target is spent
abbrev pub AllAreSpent : World → Target → Type 0
AllAreSpent w t = (x : Command) → IsFill w t x → IsSpent (at_number w.drives t.drive) x

-- A rebuild reads the last row of the last piece of its target, and the piece is of zeros, so that it isn't written.
pub record LeavesZeros (w : World) (f : File) (t : Target) : Type 0 where
  pub drive : ℕ
  pub reply : Reply
  pub job : Job
  pub awaited : Awaited
  pub piece : Piece
  pub delivered : IsDelivered w node.Server
  pub from : delivered.posted.message.from ≡ node.Drive drive
  pub read : for_server delivered.posted.message ≡ Some (Replies reply)
  pub runs : f.job ≡ Some job
  pub work : job.work ≡ Gathers t (piece ∷ [])
  pub awaits : In awaited job.awaited
  pub answer : answers drive reply awaited ≡ true
  pub is_done : hearing f.kept awaited reply ≡ Done
  pub last : others job.awaited awaited.command.nonce ≡ []
  pub zeros : nat_lt 0 (end_of (made f.kept t piece (heard_with job awaited reply)) (replicate piece.count 0)) ≡ false

-- Then all that was sent to the target is spent: a piece that is begun again wasn't written before either, if it is of zeros.
abbrev pub ZerosAreSpent : Type 0
ZerosAreSpent =
    (w : World) (h : List Line) (m : Move) (f g : File) (s : State) → FollowsWhole w h m f g s → (t : Target) →
    LeavesZeros w f t → AllAreSpent w t
