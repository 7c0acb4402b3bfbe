-- Where a kept answer comes from: the server made it when the request first came.
use Rattle.std.specs.Prelude.{◌≡◌, ◌++◌, ℕ, List, Option, Some, None}
use Rattle.osd_lists.specs.declared.node.Node.TheVariants as node
use Rattle.layout_ops.specs.declared.envelope.Envelope.TheVariants as envelope
use Rattle.server_rules.specs.declared.requests.ClientRequest.{ClientRequest}
use Rattle.layout_ops.specs.declared.messages.Answer.{Answer}
use Rattle.world_history.specs.ServerNames.{Server, File}
use Rattle.server_rules.specs.Files.{file_at, at_file}
use Rattle.server_rules.specs.Slots.{New, slot_of, admit}
use Rattle.server_rules.specs.Requests.{serves, answer_with, answer_without, on_request}
use Rattle.server_rules.specs.Messages.{Asks}
use Rattle.server_rules.specs.Envelopes.{message_in}
use Rattle.scenario_text.specs.declared.line.Line.{Line}
use Rattle.world_history.specs.ClientNames.{Request}
use Rattle.world_history.specs.declared.messages.Body.TheVariants.{Envelope as OfEnvelope}
use Rattle.world_history.specs.Spelled.{spelled}
use Rattle.world_history.specs.State.{World}
use Rattle.world_history.specs.Plans.{due}
use Rattle.world_history.specs.Sending.{Move, move}
use Rattle.history_law.specs.BookMoments.{IsMoment, plan_at}

-- the answer to a new request, at a file that there is, or isn't
abbrev pub answer_at : Server → (now : ℕ) → (chosen : List ℕ) → ClientRequest → Option File → Answer
answer_at s now chosen q None = answer_without q
answer_at s now chosen q (Some f) =
    answer_with s q (serves (at_file s chosen f) s.next_grant s.format now q.client q.args)

abbrev pub answer_to : Server → (now : ℕ) → (chosen : List ℕ) → ClientRequest → Answer
answer_to s now chosen q = answer_at s now chosen q (file_at s.files q.file)

-- At an earlier moment of the history the request of this client came to the server, which read it in its bytes as new,
-- carried it out, and answered so.
pub record WasMade (h : List Line) (c : ℕ) (r : Request) (a : Answer) : Type 0 where
  pub world : World
  pub before : List Line
  pub moment : IsMoment world before
  pub since : List Line
  pub history : h ≡ before ++ since
  pub request : ClientRequest
  pub read : message_in (node.Client c) (spelled (OfEnvelope (envelope.Request r))) ≡ Some (Asks request)
  pub client : request.client ≡ c
  pub sequence : request.sequence ≡ r.sequence
  pub new : admit (slot_of world.server.slots c) request.sequence ≡ New
  pub next : Move
  pub is_due : due (plan_at moment) world ≡ Some next.action
  pub server : (move world next).world.server ≡ (on_request world.server world.clock next.chosen request).state
  pub answer : a ≡ answer_to world.server world.clock next.chosen request
