-- What the proof that what the server keeps goes on needs of clients' returns, and gives.
use Rattle.std.specs.Prelude.{◌≡◌, ℕ, true, List, Some}
use Rattle.osd_lists.specs.declared.node.Node.TheVariants as node
use Rattle.scenario_text.specs.declared.line.Line.{Line}
use Rattle.server_rules.specs.History.{Hears}
use Rattle.server_rules.specs.Messages.{Asks}
use Rattle.server_rules.specs.Return.{return_row}
use Rattle.world_history.specs.ServerNames.{File, ClientRequest, IoErr, Return as Returns}
use Rattle.world_history.specs.State.{World}
use Rattle.world_history.specs.Sending.{Move}
use Rattle.history_law.specs.Doing.{input_in}
use Rattle.fence_law.specs.State.{State}
use Rattle.file_simulation.specs.ServerEvents.{is_served}
use Rattle.relation_law.specs.KeptAsked.{ReturnIs}
use Rattle.relation_law.specs.Steps.{FollowsWhole, KeptGoesOn, HighGoesOn}

-- Where the server carries out a client's return on the file, the machine has of it what the return's row needs.
abbrev pub ReturnsAreRight : Type 0
ReturnsAreRight =
    (w : World) (h : List Line) (m : Move) (f g : File) (s : State) → FollowsWhole w h m f g s →
    (now : ℕ) (q : ClientRequest) → input_in w m.action ≡ Some (Hears now (node.Client q.client) (Asks q)) →
    is_served w.server q.client q ≡ true → q.file ≡ f.kept.number →
    (report : List IoErr) → q.args ≡ Returns report → ReturnIs s q.client (return_row f.kept q.client report)

-- both parts on what the server keeps
pub record KeptParts : Type 0 where
  pub kept : KeptGoesOn
  pub high : HighGoesOn

-- They follow from it, which is proved (`proofs/ReturnsRight.antt`).
abbrev pub KeptFollows : Type 0
KeptFollows = ReturnsAreRight → KeptParts
