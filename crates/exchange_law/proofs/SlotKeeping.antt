-- Each move that is due at a moment keeps each client in step with the server.
use Rattle.std.proofs.Common.{◌≡◌, ℕ, Bool, List, [], ◌++◌, Option, Some, None, filter, refl, sym, ap, subst, ◌∙◌, inl, inr}
use Rattle.std.proofs.lemmas.List.{append-nil}
use Rattle.osd_lists.specs.declared.node.Node.{Node}
use Rattle.osd_lists.specs.declared.node.Node.TheVariants as node
use Rattle.layout_ops.specs.declared.messages.Answer.{Answer}
use Rattle.server_rules.specs.declared.server.Slot.{Slot}
use Rattle.server_rules.specs.Laws.{last_of}
use Rattle.server_rules.specs.Slots.{slot_of}
use Rattle.client_rules.specs.Messages.{Message as ClientMessage, Taken, TakesAnswer, TakesReply, TakesRecall, takes}
use Rattle.client_rules.specs.Envelopes as client
use Rattle.client_rules.specs.History.{Input, Calls, Hears, TimesOut, Leaves, Resends, step}
use Rattle.scenario_text.specs.declared.line.Line.{Line}
use Rattle.world_history.specs.declared.messages.Message.{Message}
use Rattle.world_history.specs.State.{World, at_number}
use Rattle.world_history.specs.Handed.{is_addressed, client_posts}
use Rattle.world_history.specs.Spelled.{spelled}
use Rattle.history_law.specs.State.{Client, Request}
use Rattle.exchange_law.specs.Doing.{said, posted, IsHeardByClient}
use Rattle.exchange_law.specs.Messages.{EachMessage, last_before, AsksOf, AnswersOf}
use Rattle.exchange_law.specs.InStep.{IsAwaiting, StandsAt, state_of}
use Rattle.exchange_law.proofs.SlotLists.{each_at, addressed_each, client_asks, client_answers_none, each_more}
use Rattle.exchange_law.proofs.SlotStepping.{step_asks, outstanding_in, unless_answered}
use Rattle.exchange_law.proofs.Standing.{Parts, rests_on, asks_on, new_asked}
use Rattle.exchange_law.proofs.SlotTaken.{is_taken, kept_for}

-- what holds at a moment
abbrev pub InStep : World → List Line → Type 0
InStep w h =
    (c : ℕ) → Parts (said w.network.messages) (slot_of w.server.slots c) h c (state_of c (at_number w.clients c))

-- more is sent
more_sent : (ms new : List Message) (o : Option Slot) (h : List Line) (c : ℕ) (y : Client) → Parts ms o h c y
    → EachMessage (AsksOf c y) new → EachMessage (AnswersOf c o) new → Parts (ms ++ new) o h c y
more_sent ms new o h c y p asks answers = record {
  number = p.number;
  next = p.next;
  asks = each_more (AsksOf c y) ms new p.asks asks;
  answers = each_more (AnswersOf c o) ms new p.answers answers;
  slot = p.slot;
  stands = p.stands;
  room = p.room;
}

-- ---- a client's step

-- an answer is taken once the outstanding request was served
module _ (w : World) (h : List Line) (c : ℕ) (x : Client) (o : Option Slot)
    (p : Parts (said w.network.messages) o h c x) where
  answered_free : (from : Node) (m : ClientMessage) (b : Answer) → IsHeardByClient w c (Hears from m)
      → takes x from m ≡ Some (TakesAnswer b) → StandsAt h c o (last_before x.next) None
  answered_free from m b heard e =
      let t = is_taken x from m b e in
      let d = heard.0 in
      let sent : d.posted.message.from ≡ node.Server = sym heard.1 ∙ t.sender in
      let a : IsAwaiting h c o (last_before x.next) t.request =
      subst (StandsAt h c o (last_before x.next)) t.outstanding p.stands in
      let k = kept_for h c o (last_before x.next) t.request a p.slot b t.sequence d.posted.message.body
      (each_at (AnswersOf c o) w.network.messages d.number d.posted d.there p.answers sent d.receiver)
      (ap (λ (n : Node). client.message_in n (spelled d.posted.message.body)) (sym sent) ∙ heard.2
      ∙ ap (λ (z : ClientMessage). Some z) t.message) in
      subst (λ (z : Option Slot). last_of z ≡ last_before x.next) (sym k.kept) (k.last ∙ a.sequence)

  by_taken : (from : Node) (m : ClientMessage) (t : Option Taken) → takes x from m ≡ t
      → IsHeardByClient w c (Hears from m) → StandsAt h c o (last_before x.next) (unless_answered x.outstanding t)
  by_taken from m None e heard = p.stands
  by_taken from m (Some (TakesAnswer b)) e heard = answered_free from m b heard e
  by_taken from m (Some (TakesReply a r)) e heard = p.stands
  by_taken from m (Some (TakesRecall r)) e heard = p.stands

  freed : (i : Input) → IsHeardByClient w c i → StandsAt h c o (last_before x.next) (outstanding_in x i)
  freed (Hears from m) heard = by_taken from m (takes x from m) refl heard
  freed (Calls op) heard = p.stands
  freed (TimesOut k) heard = p.stands
  freed Leaves heard = p.stands
  freed Resends heard = p.stands

same_taken : (o : Option Request) (t : Option Taken) (r : Request) → unless_answered o t ≡ Some r → o ≡ Some r
same_taken o None r e = e
same_taken o (Some (TakesAnswer a)) r e = absurd (cc e)
same_taken o (Some (TakesReply a q)) r e = e
same_taken o (Some (TakesRecall q)) r e = e

same_out : (x : Client) (i : Input) (r : Request) → outstanding_in x i ≡ Some r → x.outstanding ≡ Some r
same_out x (Hears from m) r e = same_taken x.outstanding (takes x from m) r e
same_out x (Calls op) r e = e
same_out x (TimesOut k) r e = e
same_out x Leaves r e = e
same_out x Resends r e = e

module _ (w : World) (h ls : List Line) (c : ℕ) (x : Client) (o : Option Slot)
    (p : Parts (said w.network.messages) o h c x) (i : Input) (heard : IsHeardByClient w c i) where
  abbrev ms : List Message
  ms = said w.network.messages

  abbrev y : Client
  y = (step x i).client

  stepped : Parts ms o (h ++ ls) c y
  stepped =
      let a = step_asks x i p.room in
      let free = freed w h c x o p i heard in
      subst (λ (l : List Message). Parts l o (h ++ ls) c y) (append-nil ms) (elim a.asks [
        | inl n ↦ rests_on ms [] o h ls c x y (outstanding_in x i) p a.number n (same_out x i) free a.room tt tt
        | inr n ↦ asks_on ms [] o h ls c x y (outstanding_in x i) p a.number n free a.room tt tt
      ])

  pub own_step : (wrote : Bool) (logged : ℕ)
      → Parts (ms ++ posted (filter is_addressed (client_posts c wrote logged (step x i).sends))) o (h ++ ls) c y
  own_step wrote logged =
      let a = step_asks x i p.room in
      let q = stepped in
      let os = (step x i).sends in
      more_sent ms _ o (h ++ ls) c y q
      (addressed_each (AsksOf c y) (client_posts c wrote logged os)
      (client_asks c c y y.outstanding (λ r is it. new_asked c (h ++ ls) o ms y r q.number q.stands is) wrote logged os
      a.sends))
      (addressed_each (AnswersOf c o) (client_posts c wrote logged os) (client_answers_none c c o wrote logged os))
