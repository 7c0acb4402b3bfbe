-- An answer that a client takes is the server's own to its outstanding request.
use Rattle.std.proofs.Common.{◌≡◌, ℕ, List, Option, Some, slice_get, sym, ap, subst, ◌∙◌}
use Rattle.osd_lists.specs.declared.node.Node.{Node}
use Rattle.osd_lists.specs.declared.node.Node.TheVariants as node
use Rattle.layout_ops.specs.declared.messages.Answer.{Answer}
use Rattle.server_rules.specs.declared.server.Slot.{Slot}
use Rattle.server_rules.specs.Laws.{SlotsAreKept}
use Rattle.server_rules.specs.Slots.{slot_of}
use Rattle.client_rules.specs.Messages.{Message as ClientMessage, Answers, TakesAnswer, takes}
use Rattle.client_rules.specs.Envelopes.{message_in}
use Rattle.scenario_text.specs.declared.line.Line.{Line}
use Rattle.world_history.specs.declared.messages.Body.{Body}
use Rattle.world_history.specs.declared.messages.Posted.{Posted}
use Rattle.world_history.specs.History.{OneEventMore}
use Rattle.world_history.specs.Spelled.{spelled}
use Rattle.world_history.specs.State.{World}
use Rattle.world_history.specs.Handed.{for_client}
use Rattle.history_law.specs.State.{Client}
use Rattle.exchange_law.specs.Doing.{said}
use Rattle.exchange_law.specs.Messages.{last_before, AnswersOf}
use Rattle.exchange_law.specs.InStep.{IsAwaiting, StandsAt, state_of}
use Rattle.exchange_law.specs.Taking.{TakesOwn, AnswersAreOwn}
use Rattle.exchange_law.proofs.SlotLists.{each_at}
use Rattle.exchange_law.proofs.SlotReading.{client_exact}
use Rattle.exchange_law.proofs.InOrder.{made_in_order}
use Rattle.exchange_law.proofs.Standing.{Parts}
use Rattle.exchange_law.proofs.SlotTaken.{is_taken, kept_for}
use Rattle.exchange_law.proofs.Each.{in_step}

takes_own : (w : World) (h : List Line) (c : ℕ) (x : Client)
    → Parts (said w.network.messages) (slot_of w.server.slots c) h c x → (n : ℕ) (p : Posted)
    → slice_get w.network.messages n ≡ Some p → p.message.to ≡ node.Client c → (m : ClientMessage) (a : Answer)
    → for_client p.message ≡ Some m → takes x p.message.from m ≡ Some (TakesAnswer a) → TakesOwn w h c x p a
takes_own w h c x i n p there to m a read e =
    let t = is_taken x p.message.from m a e in
    let o : Option Slot = slot_of w.server.slots c in
    let awaits : IsAwaiting h c o (last_before x.next) t.request =
    subst (StandsAt h c o (last_before x.next)) t.outstanding i.stands in
    let here : message_in node.Server (spelled p.message.body) ≡ Some (Answers a) =
    ap (λ (y : Node). message_in y (spelled p.message.body)) (sym t.sender) ∙ read
    ∙ ap (λ (z : ClientMessage). Some z) t.message in
    let k = kept_for h c o (last_before x.next) t.request awaits i.slot a t.sequence p.message.body
    (each_at (AnswersOf c o) w.network.messages n p there i.answers t.sender to) here in
    record {
      request = t.request;
      outstanding = t.outstanding;
      slot = k.slot;
      kept = k.kept;
      last = k.last;
      made = k.made;
      in_order = made_in_order h c t.request k.slot.kept k.made;
      sender = t.sender;
      body = k.body_is;
      exact = λ fits. client_exact k.slot.kept a fits
          (ap (λ (b : Body). message_in node.Server (spelled b)) (sym k.body_is) ∙ here);
    }

pub answers_are_own : SlotsAreKept → OneEventMore → AnswersAreOwn
answers_are_own kept more w h k c x found n p there to m a read e =
    takes_own w h c x.state
    (subst (Parts (said w.network.messages) (slot_of w.server.slots c) h c) (ap (state_of c) found)
    (in_step kept more w h k c)) n p there to m a read e
