-- An answer that a client takes is the server's own to its outstanding request.
use Rattle.std.specs.Prelude.{◌≡◌, ◌≢◌, ℕ, List, slice_get, Some}
use Rattle.osd_lists.specs.declared.node.Node.TheVariants as node
use Rattle.layout_ops.specs.declared.envelope.Envelope.TheVariants as envelope
use Rattle.layout_ops.specs.declared.statuses.TheConstants.{NFS4ERR_SEQ_MISORDERED}
use Rattle.layout_ops.specs.Spelling.{EnvelopeFits}
use Rattle.server_rules.specs.declared.server.Slot.{Slot}
use Rattle.layout_ops.specs.declared.messages.Answer.{Answer}
use Rattle.server_rules.specs.Slots.{slot_of}
use Rattle.client_rules.specs.Results.{status_of}
use Rattle.client_rules.specs.Messages.{Message as ClientMessage, TakesAnswer, takes}
use Rattle.scenario_text.specs.declared.line.Line.{Line}
use Rattle.world_history.specs.ClientNames.{Client, Request}
use Rattle.world_history.specs.declared.messages.Body.TheVariants.{Envelope as OfEnvelope}
use Rattle.world_history.specs.declared.messages.Posted.{Posted}
use Rattle.world_history.specs.State.{World, ClientAt, at_number}
use Rattle.world_history.specs.Handed.{for_client}
use Rattle.history_law.specs.BookMoments.{IsMoment}
use Rattle.exchange_law.specs.Made.{WasMade}

-- The message is the answer that the server keeps for the client. It was made of the client's outstanding request, and
-- doesn't say that this is misordered. What is read in it is that answer, where its numbers fit their places.
pub record TakesOwn (w : World) (h : List Line) (c : ℕ) (x : Client) (p : Posted) (a : Answer) : Type 0 where
  pub request : Request
  pub outstanding : x.outstanding ≡ Some request
  pub slot : Slot
  pub kept : slot_of w.server.slots c ≡ Some slot
  pub last : slot.last ≡ request.sequence
  pub made : WasMade h c request slot.kept
  pub in_order : status_of slot.kept.results ≢ NFS4ERR_SEQ_MISORDERED
  pub sender : p.message.from ≡ node.Server
  pub body : p.message.body ≡ OfEnvelope (envelope.Answer slot.kept)
  pub exact : EnvelopeFits (envelope.Answer slot.kept) → a ≡ slot.kept

-- at each moment, of each message to a client that would take it as an answer
abbrev pub AnswersAreOwn : Type 0
AnswersAreOwn =
    (w : World) (h : List Line) → IsMoment w h → (c : ℕ) (x : ClientAt) → at_number w.clients c ≡ Some x
    → (n : ℕ) (p : Posted) → slice_get w.network.messages n ≡ Some p → p.message.to ≡ node.Client c
    → (m : ClientMessage) (a : Answer) → for_client p.message ≡ Some m
    → takes x.state p.message.from m ≡ Some (TakesAnswer a) → TakesOwn w h c x.state p a
