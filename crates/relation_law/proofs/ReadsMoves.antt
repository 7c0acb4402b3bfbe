-- A move in which a drive replies to a client: a message came to the drive, which judged it so.
-- Towards `ReadsGoOn` (`specs/Steps.antt`).
use Rattle.std.proofs.Common.{◌≡◌, ◌⊎◌, ℕ, ◌++◌, Bool, true, false, List, [], ◌∷◌, slice_get, Option, Some, None, refl, sym, ap, subst, ◌∙◌, inl, inr}
use Rattle.std.specs.Prelude.{if◌then◌else◌}
use Rattle.std.proofs.lemmas.List.{append-nil}
use Rattle.std.proofs.lemmas.Option.{same_Some}
use Rattle.osd_lists.specs.declared.node.Node.TheVariants as node
use Rattle.osd_commands.specs.declared.replies.Reply.{Reply}
use Rattle.scenario_text.specs.declared.event.Event.TheVariants as event
use Rattle.server_rules.specs.Laws.{In}
use Rattle.world_history.specs.declared.messages.Message.{Message}
use Rattle.world_history.specs.declared.messages.Body.TheVariants.{Reply as OfReply}
use Rattle.world_history.specs.ServerNames.{File}
use Rattle.world_history.specs.State.{World, DriveAt, at_number}
use Rattle.world_history.specs.Drives.{command_in, judges, is_deaf}
use Rattle.world_history.specs.Handed.{Post, wrote_in, data_in, op_in}
use Rattle.server_rules.specs.History as server
use Rattle.client_rules.specs.History as client
use Rattle.world_history.specs.Moves.{Act, Action, Opens, Delivers, TimesOut, Pends, acts}
use Rattle.world_history.specs.Sending.{Move, move}
use Rattle.history_law.specs.Said.{posted, IsDelivered}
use Rattle.history_law.specs.Moves.{MoveCases, number_in}
use Rattle.history_law.proofs.Moves.{each_act}
use Rattle.history_law.proofs.Goes.{moves_are_steps}
use Rattle.exchange_law.proofs.LatestLaw.{sent_split}
use Rattle.exchange_law.proofs.Replied.{from_server, from_client}
use Rattle.history_law.specs.Read.{leads}
use Rattle.fence_law.specs.State.{State, Event}
use Rattle.history_law.specs.Doing.{input_in, did_in, brought, brought_to}
use Rattle.server_rules.specs.History.{Input as ServerInput}
use Rattle.file_simulation.specs.ClientEvents as table
use Rattle.file_simulation.specs.ClientEvents.{going_in}
use Rattle.file_simulation.specs.ServerEvents.{server_events}
use Rattle.file_simulation.specs.DriveEvents.{judged, heard, heard_at, delivered, drive_events}
use Rattle.file_simulation.specs.Events.{joined, events_of, led_by, events_at}
use Rattle.file_simulation.specs.Messages.{HasReplied}

-- ---- who replies

-- what a drive says to a client
abbrev pub reply_message : (d c : ℕ) → Reply → Message
reply_message d c r = record { from = node.Drive d; to = node.Client c; body = OfReply r }

-- drive d, which hears, judges a message of client c, and replies r
pub record IsReplying (w : World) (action : Action) (d c : ℕ) (r : Reply) : Type 0 where
  pub delivered : IsDelivered w (node.Drive d)
  pub number : number_in action ≡ Some delivered.number
  pub drive : DriveAt
  pub there : at_number w.drives d ≡ Some drive
  pub hears : is_deaf drive ≡ false
  pub from : delivered.posted.message.from ≡ node.Client c
  pub reply : r ≡ (judges drive (command_in delivered.posted.message.body)).reply

module _ (w : World) (chosen : List ℕ) (action : Action) where
  -- each reply that a move sends is such a drive's
  Replies : Act → Type 0
  Replies a = (d c : ℕ) (r : Reply) → In (reply_message d c r) (posted a.posts) → IsReplying w action d c r

  cases : MoveCases w chosen action Replies
  unfolding Replies
  cases = record {
    rests = λ ms same told quiet d c r i. absurd i;
    refused = λ n a there op is e why d c r i. absurd i;
    clock = λ time d c r i. absurd i;
    serves = λ ms same i is d c r n.
        absurd (not_server d (from_server (reply_message d c r) (server.step w.server chosen i).sends n));
    goes = λ ms same n a there i is d c r x.
        absurd
        (not_client d n
        (from_client (reply_message d c r) n (wrote_in a i) (data_in (op_in a.state i)) (client.step a.state i).sends x));
    comes = λ n is d c r i. absurd i;
    stops = λ n a there d c r i. absurd i;
    judged = λ ms same k a there hears m number d c r i. elim i [
      | inl e ↦
          let to_drive : d ≡ k = cc (ap (λ (x : Message). x.from) e) in
          let from : m.posted.message.from ≡ node.Client c = sym (ap (λ (x : Message). x.to) e) in
          let reply : r ≡ (judges a (command_in m.posted.message.body)).reply = cc (ap (λ (x : Message). x.body) e) in
          subst (λ (n : ℕ). IsReplying w action n c r) (sym to_drive)
          (record { delivered = m; number = number; drive = a; there = there; hears = hears; from = from; reply = reply })
      | inr none ↦ absurd none
    ];
    injected = λ k bytes is a there d c r i. absurd i;
    turns = λ k a b there turns d c r i. absurd i;
    known = λ k key capacity stored is knows d c r i. absurd i;
    adds = λ k key capacity stored is knows d c r i. absurd i;
  }
    where
      not_server : (d : ℕ) → node.Drive d ≡ node.Server → ⊥
      not_server d e = cc e

      not_client : (d n : ℕ) → node.Drive d ≡ node.Client n → ⊥
      not_client d n e = cc e

  replies : Replies (acts w chosen action)
  replies = each_act w chosen Replies action cases

-- the message of what is posted is among the messages that are
pub in_posted : (ps : List Post) (p : Post) (x : Message) → In p ps → x ≡ p.message → In x (posted ps)
in_posted [] p x i e = absurd i
in_posted (q ∷ ps) p x (inl same) e = inl (e ∙ ap (λ (y : Post). y.message) same)
in_posted (q ∷ ps) p x (inr i) e = inr (in_posted ps p x i e)

-- what a drive has replied behind a move it had replied before, or replies in it
pub replied_before_or_now : (w : World) (m : Move) (d c : ℕ) (r : Reply) → HasReplied (move w m).world d c r →
    HasReplied w d c r ⊎ IsReplying w m.action d c r
unfolding Replies
replied_before_or_now w m d c r i =
    elim (sent_split w (acts w m.chosen m.action) (reply_message d c r) (moves_are_steps w m.chosen m.action).said i) [
      | inl old ↦ inl old
      | inr (p, j, is) ↦
          inr (replies w m.chosen m.action d c r (in_posted (acts w m.chosen m.action).posts p (reply_message d c r) j is))
    ]

-- ---- its events

module _ (s : State) (w : World) (e : ℕ → ℕ) (f : File) (m : Move) (d c : ℕ) (r : Reply) (k : IsReplying w m.action d c r) where
  heard_is : delivered s w e f (slice_get w.network.messages k.delivered.number)
      ≡ judged s w e f d k.drive (node.Client c) (command_in k.delivered.posted.message.body)
  heard_is =
      ap (delivered s w e f) k.delivered.there
      ∙ ap (heard_at s w e f k.delivered.posted.message) k.delivered.receiver
      ∙ ap (heard s w e f d k.delivered.posted.message) k.there
      ∙ rw (k.hears, k.from) refl

  at_drive : (n : ℕ) → Some n ≡ Some k.delivered.number →
      delivered s w e f (slice_get w.network.messages n)
      ≡ judged s w e f d k.drive (node.Client c) (command_in k.delivered.posted.message.body)
  at_drive n is =
      ap (λ (i : ℕ). delivered s w e f (slice_get w.network.messages i)) (same_Some n k.delivered.number is) ∙ heard_is

  at_client : (n : ℕ) → Some n ≡ Some k.delivered.number → table.delivered w (slice_get w.network.messages n) ≡ None
  at_client n is =
      ap (λ (i : ℕ). table.delivered w (slice_get w.network.messages i)) (same_Some n k.delivered.number is)
      ∙ ap (table.delivered w) k.delivered.there ∙ ap (table.hearing_at w k.delivered.posted.message) k.delivered.receiver

  at_server : (n : ℕ) → Some n ≡ Some k.delivered.number → brought w (slice_get w.network.messages n) ≡ None
  at_server n is =
      ap (λ (i : ℕ). brought w (slice_get w.network.messages i)) (same_Some n k.delivered.number is)
      ∙ ap (brought w) k.delivered.there ∙ ap (brought_to w k.delivered.posted.message) k.delivered.receiver

  -- the server has no event where nothing comes to it
  none_served : (o : Option ServerInput) → o ≡ None → server_events s w f.kept.number o (did_in w m) ≡ []
  none_served o is = ap (λ i. server_events s w f.kept.number i (did_in w m)) is

  pub by_action : (action : Action) → number_in action ≡ Some k.delivered.number →
      (going_in w action ≡ None) × (input_in w action ≡ None) ×
      (drive_events s w e f action ≡ judged s w e f d k.drive (node.Client c) (command_in k.delivered.posted.message.body) ∷ [])
  by_action (Opens (event.Deliver n)) is = (at_client n is, at_server n is, ap (λ es. es ∷ []) (at_drive n is))
  by_action (Delivers n) is = (at_client n is, at_server n is, ap (λ es. es ∷ []) (at_drive n is))
  by_action (TimesOut n x) is = absurd (cc is)
  by_action (Pends n) is = absurd (cc is)
  by_action (Opens x) is = absurd (cc is)

  -- the events of the move are those of the drive's judgement
  pub replying_events : joined (events_of s w e f m)
      ≡ judged s w e f d k.drive (node.Client c) (command_in k.delivered.posted.message.body)
  replying_events =
      let b = by_action m.action k.number in
      ap (λ o. joined (led_by m.action (events_at s w e f m o))) b.0
      ∙ ap (λ ls. joined (led_by m.action (ls ++ drive_events s w e f m.action))) (none_served (input_in w m.action) b.1)
      ∙ ap (λ ls. joined (led_by m.action ls)) b.2
      ∙ led m.action (judged s w e f d k.drive (node.Client c) (command_in k.delivered.posted.message.body))
    where
      led_line : (b : Bool) (es : List Event) → joined (if b then [] ∷ (es ∷ []) else es ∷ []) ≡ es
      led_line true es = append-nil es
      led_line false es = append-nil es

      led : (action : Action) (es : List Event) → joined (led_by action (es ∷ [])) ≡ es
      led (Opens x) es = led_line (leads x) es
      led (Delivers n) es = append-nil es
      led (TimesOut n x) es = append-nil es
      led (Pends n) es = append-nil es
