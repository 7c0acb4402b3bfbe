-- What was sent between a client and the server.
use Rattle.std.specs.Prelude.{◌≡◌, ◌≤◌, ◌-◌, ◌==◌, ℕ, List, [], ◌∷◌, Option, Some, if◌then◌else◌}
use Rattle.osd_lists.specs.declared.node.Node.TheVariants as node
use Rattle.layout_ops.specs.declared.envelope.Envelope.TheVariants as envelope
use Rattle.server_rules.specs.declared.server.Slot.{Slot}
use Rattle.layout_ops.specs.declared.messages.Answer.{Answer}
use Rattle.client_rules.specs.declared.limits.TheConstants.{GREATEST_SEQUENCE, MAX_CLIENT}
use Rattle.world_history.specs.ClientNames.{Client, Request}
use Rattle.world_history.specs.declared.messages.Body.{Body}
use Rattle.world_history.specs.declared.messages.Body.TheVariants.{Envelope as OfEnvelope}
use Rattle.world_history.specs.declared.messages.Message.{Message}

-- each of these messages is so
abbrev pub EachMessage : (Message → Type 0) → List Message → Type 0
EachMessage P [] = Unit {0}
EachMessage P (m ∷ ms) = P m × EachMessage P ms

-- ---- what a client asks

-- the number of a client's last request, by that of its next one; behind the greatest number there is no next one
abbrev pub last_before : (next : ℕ) → ℕ
last_before next = if next == 0 then GREATEST_SEQUENCE else next - 1

-- the client sent this request: the outstanding one, if it has that one's number, or an earlier one
pub record WasAsked (x : Client) (q : Request) : Type 0 where
  pub client : q.client ≡ x.number
  pub first : 1 ≤ q.sequence
  pub last : q.sequence ≤ last_before x.next
  pub outstanding : (r : Request) → x.outstanding ≡ Some r → q.sequence ≡ r.sequence → q ≡ r

-- a client tells the server requests and answers to recalls
abbrev pub IsAsked : Client → Body → Type 0
IsAsked x (OfEnvelope (envelope.Request q)) = WasAsked x q
IsAsked x (OfEnvelope (envelope.RecallAnswer a)) = Unit {0}
IsAsked x body = ⊥

abbrev pub AsksOf : (c : ℕ) → Client → Message → Type 0
AsksOf c x m = m.from ≡ node.Client c → m.to ≡ node.Server → IsAsked x m.body

-- ---- what the server answers

-- the server sent this answer: the one that it keeps for the client, if it has that one's number, or an earlier one
pub record WasAnswered (c : ℕ) (o : Option Slot) (a : Answer) : Type 0 where
  pub client : a.client ≡ c
  pub slot : Slot
  pub kept : o ≡ Some slot
  pub last : a.sequence ≤ slot.last
  pub same : a.sequence ≡ slot.last → a ≡ slot.kept

-- the server tells a client answers and recalls
abbrev pub IsToldBySlot : (c : ℕ) → Option Slot → Body → Type 0
IsToldBySlot c o (OfEnvelope (envelope.Answer a)) = WasAnswered c o a
IsToldBySlot c o (OfEnvelope (envelope.Recall r)) = Unit {0}
IsToldBySlot c o body = ⊥

abbrev pub AnswersOf : (c : ℕ) → Option Slot → Message → Type 0
AnswersOf c o m = m.from ≡ node.Server → m.to ≡ node.Client c → IsToldBySlot c o m.body

-- what the server keeps for client c is its answer to the last request, and lines can name such a client
pub record IsSlotOf (c : ℕ) (s : Slot) : Type 0 where
  pub named : c ≤ MAX_CLIENT
  pub client : s.kept.client ≡ c
  pub sequence : s.kept.sequence ≡ s.last
  pub last : s.last ≤ GREATEST_SEQUENCE
