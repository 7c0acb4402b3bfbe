-- The last reply that a file's job awaits: what is so of the piece that the job is behind then.
use Rattle.std.specs.Prelude.{◌≡◌, ℕ, ◌<◌, List, [], find, Some}
use Rattle.data_map.specs.Inverse.{stripe_at}
use Rattle.osd_lists.specs.declared.node.Node.TheVariants.{Drive as FromDrive}
use Rattle.osd_commands.specs.declared.replies.Reply.{Reply}
use Rattle.server_rules.specs.History.{Hears}
use Rattle.server_rules.specs.Messages.{Replies}
use Rattle.server_rules.specs.Replies.{Done, answers, hearing, others}
use Rattle.world_history.specs.ServerNames.{File, Target, Job, Awaited}
use Rattle.world_history.specs.State.{World}
use Rattle.world_history.specs.Sending.{Move}
use Rattle.history_law.specs.Doing.{input_in}
use Rattle.fence_law.specs.State.{State}
use Rattle.plan_law.specs.FileLayout.{position_in}
use Rattle.plan_law.specs.Known.{HasSource}

-- the server hears it in a move
pub record HearsLast (w : World) (m : Move) (f : File) (j : Job) (a : Awaited) (r : Reply) : Type 0 where
  pub now : ℕ
  pub drive : ℕ
  pub comes : input_in w m.action ≡ Some (Hears now (FromDrive drive) (Replies r))
  pub runs : f.job ≡ Some j
  pub found : find (answers drive r) j.awaited ≡ Some a
  pub done : hearing f.kept a r ≡ Done
  pub last : others j.awaited a.command.nonce ≡ []

-- there was something to make each cell of the target's component of
abbrev pub IsSourced : State → File → Target → Type 0
IsSourced u g t =
    (z : ℕ) → stripe_at g.kept.map (position_in g.kept.map t.component) z < g.kept.high →
    (out : List ℕ) × HasSource g.kept.map u.gone out t.component z
