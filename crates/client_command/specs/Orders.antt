-- An order to the server, and its answer.
use Rattle.std.specs.Prelude.{◌≡◌, ℕ, ◌==◌, if◌then◌else◌, List, Option, Some, None, Result, Ok, Err}
use Rattle.osd_bytes.specs.Connections.{Traffic}
use Rattle.osd_bytes.specs.Counts.{Faults}
use Rattle.osd_lists.specs.declared.node.Node.TheVariants.{Server}
use Rattle.osd_bytes.specs.Asking.{Answered}
use Rattle.command_words.specs.declared.work.Order.{Order}
use Rattle.command_words.specs.declared.work.Order.TheVariants as work
use Rattle.layout_ops.specs.declared.err.OpErr.{OpErr}
use Rattle.layout_ops.specs.declared.envelope.Envelope.{Envelope}
use Rattle.layout_ops.specs.declared.envelope.Envelope.TheVariants as envelope
use Rattle.layout_ops.specs.declared.orders.Order.{Order as SentOrder}
use Rattle.layout_ops.specs.declared.orders.OrderKind.{OrderKind}
use Rattle.layout_ops.specs.declared.orders.OrderKind.TheVariants as kind
use Rattle.layout_ops.specs.declared.orders.OrderResult.{OrderResult}
use Rattle.layout_ops.specs.Enumerations.{order_number}
use Rattle.layout_ops.specs.Reading.{envelope_of}
use Rattle.layout_ops.specs.Spelling.{envelope_item}

-- the order as the server takes it
abbrev pub sent_order : Order → SentOrder
sent_order (work.Recall file) = record { order = kind.Recall; target = file }
sent_order (work.Revoke file) = record { order = kind.Revoke; target = file }
sent_order (work.Declare drive) = record { order = kind.Declare; target = drive }
sent_order (work.Rebuild file) = record { order = kind.Rebuild; target = file }
sent_order (work.Audit file) = record { order = kind.Audit; target = file }

-- the bytes of its message
abbrev pub order_message : SentOrder → List ℕ
order_message o = envelope_item (envelope.Order o)

-- what an envelope answers to an order of a kind
abbrev pub answer_to : OrderKind → Envelope → Option OrderResult
answer_to what (envelope.OrderAnswer a) = if order_number a.order == order_number what then Some a.result else None
answer_to what other = None

-- what bytes that are read answer
abbrev pub answer_read : OrderKind → Result Envelope OpErr → Option OrderResult
answer_read what (Ok e) = answer_to what e
answer_read what (Err why) = None

-- what a record answers, none where it isn't the order's answer, and where none came
abbrev pub answer_in : OrderKind → Option (List ℕ) → Option OrderResult
answer_in what None = None
answer_in what (Some bytes) = answer_read what (envelope_of bytes)

-- the order is one exchange with the server, and that is its answer
pub record Answers (o : SentOrder) (told_before told : Option Traffic) (failed_before failed : Faults)
    (answer : Option OrderResult) : Type 0 where
  pub came : Option (List ℕ)
  pub exchange : Answered Server (order_message o) told_before told failed_before failed came
  pub is : answer ≡ answer_in o.order came
