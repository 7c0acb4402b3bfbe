-- At each moment the grants that a client was given rise with the numbers of its requests.
use Rattle.std.proofs.Common.{◌≡◌, ◌⊎◌, ℕ, ◌≤◌, ◌<◌, ◌^◌, List, [], ◌∷◌, Some, map, filter, sym, ap, subst, ◌∙◌, arith, inl, inr}
use Rattle.osd_lists.specs.declared.node.Node.TheVariants as node
use Rattle.layout_ops.specs.declared.messages.Answer.{Answer}
use Rattle.layout_ops.specs.declared.envelope.Envelope.TheVariants as envelope
use Rattle.server_rules.specs.Files.{Step}
use Rattle.server_rules.specs.Laws.{In}
use Rattle.server_rules.specs.History.{step as server_step}
use Rattle.server_rules.proofs.Members.{in_either}
use Rattle.client_rules.specs.History.{step as client_step}
use Rattle.world_history.specs.ServerNames.{Server, Outgoing, ToDrive, Recalls, Answers, AnswersOrder}
use Rattle.world_history.specs.declared.messages.Body.TheVariants.{Envelope as OfEnvelope}
use Rattle.world_history.specs.declared.messages.Message.{Message}
use Rattle.world_history.specs.State.{World, empty_world}
use Rattle.world_history.specs.Handed.{Post, is_addressed, server_post}
use Rattle.world_history.specs.Moves.{Act, acts}
use Rattle.world_history.specs.Sending.{Move, move}
use Rattle.history_law.specs.Said.{posted}
use Rattle.exchange_law.proofs.Turning.{sent_by, Turn, ByServer, ByClient, ByDrive, Makes, Stops, Rests}
use Rattle.exchange_law.proofs.Turns.{acts_turn, messages_behind}
use Rattle.exchange_law.proofs.Replied.{addressed, from_client, none_posted}
use Rattle.exchange_law.proofs.Gives.{last_in, KeepsGrant, AreSlots, IsNew, StepGives, step_gives}
use Rattle.exchange_law.proofs.RefusalTelling.{named}

-- an answer that gives this grant was sent to the client
pub record WasSent (w : World) (c q n : ℕ) : Type 0 where
  pub message : Message
  pub there : In message (sent_by w)
  pub sender : message.from ≡ node.Server
  pub receiver : message.to ≡ node.Client c
  pub answer : Answer
  pub body : message.body ≡ OfEnvelope (envelope.Answer answer)
  pub sequence : answer.sequence ≡ q
  pub gives : named answer.results ≡ Some n

-- or is kept for it
abbrev pub Gave : World → (client sequence number : ℕ) → Type 0
Gave w c q n = KeepsGrant w.server.slots c q n ⊎ WasSent w c q n

pub record AreOrdered (w : World) : Type 0 where
  pub slots : AreSlots w.server.slots
  pub first : 1 ≤ w.server.next_grant
  pub positive : (c q n : ℕ) → Gave w c q n → 1 ≤ n
  pub numbers : (c q n : ℕ) → Gave w c q n → n < w.server.next_grant
  pub lasts : (c q n : ℕ) → Gave w c q n → q ≤ last_in w.server.slots c
  pub low : (c q n : ℕ) → Gave w c q n → q < 2 ^ 32
  pub order : (c q n p k : ℕ) → Gave w c q n → Gave w c p k → q < p → n < k
  pub same : (c q n p k : ℕ) → Gave w c q n → Gave w c p k → q ≡ p → n ≡ k

-- ---- what is new in a move

answer_posted : (m : Message) (c : ℕ) (a : Answer) (os : List Outgoing) → In m (posted (map server_post os))
    → m.to ≡ node.Client c → m.body ≡ OfEnvelope (envelope.Answer a) → In (Answers a) os × (a.client ≡ c)
answer_posted m c a [] i to body = absurd i
answer_posted m c a (ToDrive d x ∷ os) (inl e) to body = absurd (cc (sym body ∙ ap (λ (y : Message). y.body) e))
answer_posted m c a (Recalls r ∷ os) (inl e) to body = absurd (cc (sym body ∙ ap (λ (y : Message). y.body) e))
answer_posted m c a (AnswersOrder r ∷ os) (inl e) to body = absurd (cc (sym body ∙ ap (λ (y : Message). y.body) e))
answer_posted m c a (Answers b ∷ os) (inl e) to body =
    let bodies : OfEnvelope (envelope.Answer a) ≡ OfEnvelope (envelope.Answer b) =
    sym body ∙ ap (λ (y : Message). y.body) e in
    let same : a ≡ b = cc bodies in
    let parties : node.Client b.client ≡ node.Client c = sym (ap (λ (y : Message). y.to) e) ∙ to in
    let client : b.client ≡ c = cc parties in
    (inl (ap (λ (y : Answer). Answers y) same), ap (λ (y : Answer). y.client) same ∙ client)
answer_posted m c a (o ∷ os) (inr i) to body = let r = answer_posted m c a os i to body in (inr r.0, r.1)

-- what a move gave it gave before, or is new
pub record GivesOn (w v : World) : Type 0 where
  pub slots : AreSlots v.server.slots
  pub grants : w.server.next_grant ≤ v.server.next_grant
  pub lasts : (c : ℕ) → last_in w.server.slots c ≤ last_in v.server.slots c
  pub back : (c q n : ℕ) → Gave v c q n
      → Gave w c q n ⊎ IsNew w.server (record { state = v.server; sends = []; notes = []; mended = [] }) c q n

new_order : (w v : World) → GivesOn w v → AreOrdered w → AreOrdered v
new_order w v g o = record {
  slots = g.slots;
  first = omega (arith, o.first, g.grants);
  positive =
      λ c q n x. elim (g.back c q n x) [
        | inl old ↦ o.positive c q n old
        | inr new ↦ omega (arith, new.number, o.first)
      ];
  numbers =
      λ c q n x. elim (g.back c q n x) [
        | inl old ↦ let less : n < w.server.next_grant = o.numbers c q n old in omega (arith, less, g.grants)
        | inr new ↦ new.next
      ];
  lasts =
      λ c q n x. elim (g.back c q n x) [
        | inl old ↦ let less : q ≤ last_in w.server.slots c = o.lasts c q n old in omega (arith, less, g.lasts c)
        | inr new ↦ let is : q ≡ last_in v.server.slots c = new.last in omega (arith, is)
      ];
  low = λ c q n x. elim (g.back c q n x) [ inl old ↦ o.low c q n old | inr new ↦ new.low ];
  order =
      λ c q n p k x y less. elim (g.back c q n x) [
        | inl old ↦ elim (g.back c p k y) [
          | inl too ↦ o.order c q n p k old too less
          | inr new ↦ let below : n < w.server.next_grant = o.numbers c q n old in omega (arith, below, new.number)
        ]
        | inr new ↦ elim (g.back c p k y) [
          | inl old ↦
              let before : p ≤ last_in w.server.slots c = o.lasts c p k old in
              let later : last_in w.server.slots c < q = new.later in
              absurd (omega (arith, before, later, less))
          | inr too ↦
              let first : q ≡ last_in v.server.slots c = new.last in
              let second : p ≡ last_in v.server.slots c = too.last in
              absurd (omega (arith, first, second, less))
        ]
      ];
  same =
      λ c q n p k x y is. elim (g.back c q n x) [
        | inl old ↦ elim (g.back c p k y) [
          | inl too ↦ o.same c q n p k old too is
          | inr new ↦
              let before : q ≤ last_in w.server.slots c = o.lasts c q n old in
              let later : last_in w.server.slots c < p = new.later in
              absurd (omega (arith, before, later, is))
        ]
        | inr new ↦ elim (g.back c p k y) [
          | inl old ↦
              let before : p ≤ last_in w.server.slots c = o.lasts c p k old in
              let later : last_in w.server.slots c < q = new.later in
              absurd (omega (arith, before, later, is))
          | inr too ↦ new.number ∙ sym too.number
        ]
      ];
}

module _ (w : World) (m : Move) (o : AreOrdered w) (few : w.server.next_grant < 2 ^ 32) where
  abbrev a : Act
  a = acts w m.chosen m.action

  abbrev v : World
  v = (move w m).world

  -- where the server stays as it is, and sends nothing
  same_server : a.world.server ≡ w.server
      → ((x : Message) → In x (posted a.posts) → x.from ≡ node.Server → ⊥) → GivesOn w v
  same_server is none = record {
    slots = subst (λ (s : Server). AreSlots s.slots) (sym is) o.slots;
    grants = let same : v.server.next_grant ≡ w.server.next_grant = ap (λ (s : Server). s.next_grant) is in
        omega (arith, same);
    lasts = λ c.
        let same : last_in v.server.slots c ≡ last_in w.server.slots c = ap (λ (s : Server). last_in s.slots c) is in
        omega (arith, same);
    back =
        λ c q n x. elim x [
          | inl kept ↦ inl (inl (subst (λ (s : Server). KeepsGrant s.slots c q n) is kept))
          | inr sent ↦ elim (in_either sent.message (sent_by w) (posted a.posts)
              (subst (In sent.message) (messages_behind w m) sent.there)) [
                | inl old ↦ inl (inr (record {
                  message = sent.message;
                  there = old;
                  sender = sent.sender;
                  receiver = sent.receiver;
                  answer = sent.answer;
                  body = sent.body;
                  sequence = sent.sequence;
                  gives = sent.gives;
                }))
                | inr new ↦ absurd (none sent.message new sent.sender)
              ]
        ];
  }

  -- where it takes a step
  step_server : (t : Step) → StepGives w.server t → a.world.server ≡ t.state
      → a.posts ≡ filter is_addressed (map server_post t.sends) → GivesOn w v
  step_server t g is posts = record {
    slots = subst (λ (s : Server). AreSlots s.slots) (sym is) g.slots;
    grants = let same : v.server.next_grant ≡ t.state.next_grant = ap (λ (s : Server). s.next_grant) is in
        omega (arith, same, g.grants);
    lasts = λ c.
        let same : last_in v.server.slots c ≡ last_in t.state.slots c = ap (λ (s : Server). last_in s.slots c) is in
        omega (arith, same, g.lasts c);
    back =
        λ c q n x. elim x [
          | inl kept ↦ turned c q n (g.kept c q n (subst (λ (s : Server). KeepsGrant s.slots c q n) is kept))
          | inr sent ↦ elim (in_either sent.message (sent_by w) (posted a.posts)
              (subst (In sent.message) (messages_behind w m) sent.there)) [
                | inl old ↦ inl (inr (record {
                  message = sent.message;
                  there = old;
                  sender = sent.sender;
                  receiver = sent.receiver;
                  answer = sent.answer;
                  body = sent.body;
                  sequence = sent.sequence;
                  gives = sent.gives;
                }))
                | inr new ↦
                    let there = answer_posted sent.message c sent.answer t.sends
                    (addressed sent.message (map server_post t.sends)
                    (subst (λ (ps : List Post). In sent.message (posted ps)) posts new)) sent.receiver sent.body in
                    turned c q n (g.sent c q n (record {
                      answer = sent.answer;
                      sent = there.0;
                      client = there.1;
                      sequence = sent.sequence;
                      gives = sent.gives;
                    }))
              ]
        ];
  }
    where
      turned : (c q n : ℕ) → KeepsGrant w.server.slots c q n ⊎ IsNew w.server t c q n
          → Gave w c q n ⊎ IsNew w.server (record { state = v.server; sends = []; notes = []; mended = [] }) c q n
      turned c q n (inl kept) = inl (inl kept)
      turned c q n (inr new) = inr (record {
        number = new.number;
        next = subst (λ (s : Server). n < s.next_grant) (sym is) new.next;
        later = new.later;
        last = new.last ∙ ap (λ (s : Server). last_in s.slots c) (sym is);
        low = new.low;
      })

  turn_gives : Turn w m.action a → GivesOn w v
  turn_gives (ByServer t) =
      step_server (server_step w.server t.chosen t.input) (step_gives w.server o.slots few t.chosen t.input) t.server
      t.posts
  turn_gives (ByClient t) =
      same_server t.server (λ x i from.
      let here : x.from ≡ node.Client t.client = from_client x t.client t.wrote t.logged
      (client_step t.caller.state t.input).sends (subst (λ (l : List Post). In x (posted l)) t.posts i) in
      cc (sym from ∙ here))
  turn_gives (ByDrive t) =
      same_server t.server (λ x i from. elim (subst (λ (l : List Post). In x (posted l)) t.posts i) [
        | inl e ↦ let here : x.from ≡ node.Drive t.drive = ap (λ (y : Message). y.from) e in cc (sym from ∙ here)
        | inr none ↦ none
      ])
  turn_gives (Makes t) = same_server t.server (λ x i from. none_posted x a.posts t.posts i)
  turn_gives (Stops t) = same_server t.server (λ x i from. none_posted x a.posts t.posts i)
  turn_gives (Rests t) = same_server t.server (λ x i from. none_posted x a.posts t.posts i)

  pub ordered_move : AreOrdered v
  ordered_move = new_order w v (turn_gives (acts_turn w m.chosen m.action).turn) o

none_gave : (c q n : ℕ) → Gave empty_world c q n → ⊥
none_gave c q n (inl kept) = cc kept.found
none_gave c q n (inr sent) = sent.there

pub none_ordered : AreOrdered empty_world
none_ordered = record {
  slots = λ c t found. absurd (cc found);
  first = omega arith;
  positive = λ c q n x. absurd (none_gave c q n x);
  numbers = λ c q n x. absurd (none_gave c q n x);
  lasts = λ c q n x. absurd (none_gave c q n x);
  low = λ c q n x. absurd (none_gave c q n x);
  order = λ c q n p k x y less. absurd (none_gave c q n x);
  same = λ c q n p k x y is. absurd (none_gave c q n x);
}
