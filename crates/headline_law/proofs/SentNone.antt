-- Where no client goes on in a move, no client sends a command that it hadn't sent.
-- Towards `SentGoesOn` (`relation_law/specs/Steps.antt`).
use Rattle.std.proofs.Common.{◌≡◌, ◌⊎◌, ◌<◌, ℕ, List, slice_get, Some, None, refl, sym, ap, subst, ◌∙◌, inl, inr, filter}
use Rattle.std.proofs.lemmas.Option.{same_Some}
use Rattle.osd_lists.specs.declared.node.Node.TheVariants as node
use Rattle.osd_commands.specs.declared.commands.Command.{Command}
use Rattle.scenario_text.specs.declared.event.Event.{Event}
use Rattle.scenario_text.specs.declared.event.Event.TheVariants as event
use Rattle.scenario_text.specs.declared.names.TheConstants.{CLIENTS}
use Rattle.server_rules.specs.Laws.{In}
use Rattle.world_history.specs.declared.messages.Message.{Message}
use Rattle.world_history.specs.ClientNames.{ToDrive}
use Rattle.world_history.specs.Handed.{client_posts, is_addressed, wrote_in, data_in, op_in}
use Rattle.world_history.specs.State.{World, ClientAt, at_number}
use Rattle.server_rules.specs.History as server
use Rattle.client_rules.specs.History as client
use Rattle.client_rules.specs.Messages.{Message as ClientMessage}
use Rattle.world_history.specs.Moves.{Act, Action, Opens, Delivers, TimesOut, Pends, acts}
use Rattle.world_history.specs.Sending.{Move, move, sends_all}
use Rattle.component_law.proofs.Doing.{IsAllowed}
use Rattle.history_law.specs.Said.{posted}
use Rattle.history_law.specs.Moves.{MoveCases, IsForClient, asked_in, number_in}
use Rattle.history_law.proofs.Moves.{each_act}
use Rattle.history_law.proofs.Goes.{moves_are_steps}
use Rattle.exchange_law.specs.Sent.{HasSent, message_of}
use Rattle.exchange_law.proofs.LatestLaw.{sent_split}
use Rattle.exchange_law.proofs.Replied.{from_server}
use Rattle.exchange_law.proofs.RefusalSending.{command_posted}
use Rattle.file_simulation.specs.ClientEvents as table
use Rattle.file_simulation.specs.ClientEvents.{going_in}
use Rattle.relation_law.specs.DriveHearing.{AwaitedAreSent}
use Rattle.relation_law.proofs.ComponentsAbove.{addressed}
use Rattle.relation_law.proofs.DriveAlike.{begun_alike, pends, times_out}
use Rattle.relation_law.proofs.ReadsMoves.{in_posted}

-- the client is handed this, and sends the command
pub record BySender (w : World) (action : Action) (c d : ℕ) (x : Command) : Type 0 where
  pub at : ClientAt
  pub found : at_number w.clients c ≡ Some at
  pub input : client.Input
  pub asked : IsForClient w action c at input
  pub sends : In (ToDrive d x) (client.step at.state input).sends

module _ (w : World) (chosen : List ℕ) (action : Action) where
  -- each command that a move sends of a client is such a client's
  Sends : Act → Type 0
  Sends a = (c d : ℕ) (x : Command) → In (message_of c d x) (posted a.posts) → BySender w action c d x

  not_server : (c : ℕ) → node.Client c ≡ node.Server → ⊥
  not_server c e = cc e

  not_drive : (c d : ℕ) → node.Client c ≡ node.Drive d → ⊥
  not_drive c d e = cc e

  cases : MoveCases w chosen action Sends
  unfolding Sends
  cases = record {
    rests = λ ms same told quiet c d x i. absurd i;
    refused = λ n a there op is e why c d x i. absurd i;
    clock = λ time c d x i. absurd i;
    serves = λ ms same i is c d x n.
        absurd (not_server c (from_server (message_of c d x) (server.step w.server chosen i).sends n));
    goes = λ ms same n a there i is c d x j. goes n a there i is c d x j;
    comes = λ n is c d x i. absurd i;
    stops = λ n a there c d x i. absurd i;
    judged = λ ms same k a there hears m number c d x i. elim i [
      | inl e ↦ absurd (not_drive c k (ap (λ (y : Message). y.from) e))
      | inr none ↦ absurd none
    ];
    injected = λ k bytes is a there c d x i. absurd i;
    turns = λ k a b there turns c d x i. absurd i;
    known = λ k key capacity stored is knows c d x i. absurd i;
    adds = λ k key capacity stored is knows c d x i. absurd i;
  }
    where
      goes : (n : ℕ) (a : ClientAt) → at_number w.clients n ≡ Some a → (i : client.Input) → IsForClient w action n a i →
          (c d : ℕ) (x : Command) → In (message_of c d x)
          (posted
          (filter is_addressed (client_posts n (wrote_in a i) (data_in (op_in a.state i)) (client.step a.state i).sends))) →
          BySender w action c d x
      goes n a there i is c d x j =
          let r = command_posted (message_of c d x) n (wrote_in a i) (data_in (op_in a.state i)) (client.step a.state i).sends
          (addressed (message_of c d x)
          (client_posts n (wrote_in a i) (data_in (op_in a.state i)) (client.step a.state i).sends) j)
          x refl in
          let from : node.Client c ≡ node.Client n = ap (λ (q : Message). q.from) r.2 in
          let to : node.Drive d ≡ node.Drive r.0 = ap (λ (q : Message). q.to) r.2 in
          let same_client : n ≡ c = cc (sym from) in
          let same_drive : r.0 ≡ d = cc (sym to) in
          subst (λ (q : ℕ). BySender w action q d x) same_client (record {
            at = a;
            found = there;
            input = i;
            asked = is;
            sends = subst (λ (q : ℕ). In (ToDrive q x) (client.step a.state i).sends) same_drive r.1;
          })

  sends : Sends (acts w chosen action)
  sends = each_act w chosen Sends action cases

-- what a client has sent behind a move it had sent before, or sends in it
sent_before_or_now : (w : World) (m : Move) (c d : ℕ) (x : Command) → HasSent (move w m).world c d x →
    HasSent w c d x ⊎ BySender w m.action c d x
unfolding Sends
sent_before_or_now w m c d x i =
    elim (sent_split w (acts w m.chosen m.action) (message_of c d x) (moves_are_steps w m.chosen m.action).said i) [
      | inl old ↦ inl old
      | inr (p, j, is) ↦
          inr (sends w m.chosen m.action c d x (in_posted (acts w m.chosen m.action).posts p (message_of c d x) j is))
    ]

-- ---- where no client goes on

module _ (w : World) (m : Move) (none : going_in w m.action ≡ None) (c : ℕ) where
  -- a message came to the client
  pub heard : (at : ClientAt) → at_number w.clients c ≡ Some at → (from : _) (b : ClientMessage) →
      IsForClient w m.action c at (client.Hears from b) → ⊥
  heard at found from b is = by m.action is.3 none
    where
      there : table.delivered w (slice_get w.network.messages is.0.number)
          ≡ Some (record { client = c; state = at.state; input = client.Hears is.0.posted.message.from b })
      there =
          ap (table.delivered w) is.0.there
          ∙ ap (table.hearing_at w is.0.posted.message) is.0.receiver
          ∙ ap (λ o. table.hearing c is.0.posted.message.from o (at_number w.clients c)) is.2
          ∙ ap (table.hearing c is.0.posted.message.from (Some b)) found
          ∙ rw is.4 refl

      number : (n : ℕ) → Some n ≡ Some is.0.number → table.delivered w (slice_get w.network.messages n) ≡ None → ⊥
      number n e gone =
          cc (sym gone ∙ ap (λ (i : ℕ). table.delivered w (slice_get w.network.messages i)) (same_Some n is.0.number e) ∙ there)

      by : (action : Action) → number_in action ≡ Some is.0.number → going_in w action ≡ None → ⊥
      by (Opens (event.Deliver n)) e gone = number n e gone
      by (Delivers n) e gone = number n e gone
      by (TimesOut n k) e gone = cc e
      by (Pends n) e gone = cc e
      by (Opens y) e gone = cc e

module _ (w : World) (m : Move) (allowed : IsAllowed w m.action) (none : going_in w m.action ≡ None) (sent : AwaitedAreSent w)
    (c d : ℕ) (x : Command) (low : c < CLIENTS) where
  -- what isn't asked of a client comes in a message
  by_sender : asked_in m.action ≡ None → (b : BySender w m.action c d x) → HasSent w c d x
  by_sender nothing b = by b.input b.asked
    where
      by : (i : client.Input) → IsForClient w m.action c b.at i → HasSent w c d x
      by (client.Hears from y) is = absurd (heard w m none c b.at b.found from y is)
      by (client.Calls op) is = absurd (cc (sym nothing ∙ is))
      by (client.TimesOut n) is = absurd (cc (sym nothing ∙ is))
      by client.Leaves is = absurd (cc (sym nothing ∙ is))
      by client.Resends is = absurd (cc (sym nothing ∙ is))

  unasked : asked_in m.action ≡ None → HasSent (move w m).world c d x → HasSent w c d x
  unasked nothing has = elim (sent_before_or_now w m c d x has) [
    | inl old ↦ old
    | inr now ↦ by_sender nothing now
  ]

  -- an event that isn't for drives
  at_event : (e : Event) → going_in w (Opens e) ≡ None → IsAllowed w (Opens e) →
      (asked_in (Opens e) ≡ None → HasSent (sends_all (acts w m.chosen (Opens e))).world c d x → HasSent w c d x) →
      HasSent (sends_all (acts w m.chosen (Opens e))).world c d x → HasSent w c d x
  at_event (event.Deliver n) gone ok walk has = walk refl has
  at_event (event.Inject n bytes) gone ok walk has = walk refl has
  at_event (event.Fail n) gone ok walk has = walk refl has
  at_event e gone ok walk has = (begun_alike w m.chosen sent e refl gone ok).sent c d x low has

  at_action : (a : Action) → going_in w a ≡ None → IsAllowed w a →
      (asked_in a ≡ None → HasSent (sends_all (acts w m.chosen a)).world c d x → HasSent w c d x) →
      HasSent (sends_all (acts w m.chosen a)).world c d x → HasSent w c d x
  at_action (Opens e) gone ok walk has = at_event e gone ok walk has
  at_action (Delivers n) gone ok walk has = walk refl has
  at_action (TimesOut n j) gone ok walk has = (times_out w n j gone).sent c d x low has
  at_action (Pends n) gone ok walk has = (pends w n).sent c d x low has

  pub none_new : HasSent (move w m).world c d x → HasSent w c d x
  none_new has = at_action m.action none allowed unasked has
