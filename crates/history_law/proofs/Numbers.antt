-- In each world the server's messages and what its jobs await have nonces that don't repeat.
use Rattle.std.proofs.Common.{◌≡◌, ◌⊎◌, ℕ, ◌<◌, ◌∷◌, [], ◌++◌, List, map, refl, sym, ap, subst, ◌∙◌, arith, inl, inr}
use Rattle.osd_lists.specs.declared.node.Node.TheVariants as node
use Rattle.osd_commands.specs.declared.commands.Command.{Command}
use Rattle.server_rules.specs.Laws.{In}
use Rattle.server_rules.specs.Files.{Step as ServerStep}
use Rattle.server_rules.specs.History.{step}
use Rattle.server_rules.proofs.Members.{in_either, in_mapped, in_filtered}
use Rattle.world_history.specs.ServerNames.{Awaited, Outgoing, ToDrive, Recalls, Answers, AnswersOrder}
use Rattle.world_history.specs.declared.messages.Message.{Message}
use Rattle.world_history.specs.declared.messages.Posted.{Posted}
use Rattle.world_history.specs.declared.messages.Body.{Body}
use Rattle.world_history.specs.declared.messages.Body.TheVariants.{Command as OfCommand}
use Rattle.world_history.specs.State.{World, empty_world}
use Rattle.world_history.specs.Handed.{Post, is_addressed, server_post}
use Rattle.world_history.specs.Moves.{Act, acts}
use Rattle.world_history.specs.Sending.{Move, move, fresh, sends_all}
use Rattle.history_law.specs.Numbered.{Awaits, IsOf, NumbersOn}
use Rattle.history_law.proofs.Lists.{numbered_from, numbered_alone}
use Rattle.history_law.proofs.JobSteps.{step_numbers}
use Rattle.history_law.proofs.FencingMoves.{messages_in, posts_of, NoneOfServer, Acts, Others, Serves, each_acts}

-- a message of the server to a drive
abbrev pub to_drive : (drive : ℕ) → Body → Message
to_drive d b = record { from = node.Server; to = node.Drive d; body = b }

-- Each message of the server to a drive is a command, with a nonce below the next one; so is what is awaited, each
-- with a nonce of its own; and a command with the nonce of an awaited one is that, sent to its drive.
pub record Numbers (w : World) : Type 0 where
  pub sent : (d : ℕ) (b : Body) → In (to_drive d b) (messages_in w) →
      (c : Command) × (b ≡ OfCommand c) × (c.nonce < w.server.next_nonce)
  pub waits : (a : Awaited) → Awaits w.server.files a → a.command.nonce < w.server.next_nonce
  pub alone : (a b : Awaited) → Awaits w.server.files a → Awaits w.server.files b
      → a.command.nonce ≡ b.command.nonce → a ≡ b
  pub answers : (d : ℕ) (c : Command) → In (to_drive d (OfCommand c)) (messages_in w) → (a : Awaited) →
      Awaits w.server.files a → a.command.nonce ≡ c.nonce → IsOf d c a

-- ---- what is sent

commands_only : (o : Outgoing) (d : ℕ) (b : Body) → to_drive d b ≡ (server_post o).message
    → (c : Command) × (o ≡ ToDrive d c) × (b ≡ OfCommand c)
commands_only (ToDrive k c) d b e = (
  c,
  ap (λ (n : ℕ). ToDrive n c) (sym (same (ap (λ (m : Message). m.to) e))),
  ap
      (λ (m : Message). m.body) e,
)
  where
    same : node.Drive d ≡ node.Drive k → d ≡ k
    same x = cc x
commands_only (Recalls r) d b e = absurd (cc (ap (λ (m : Message). m.to) e))
commands_only (Answers a) d b e = absurd (cc (ap (λ (m : Message). m.to) e))
commands_only (AnswersOrder a) d b e = absurd (cc (ap (λ (m : Message). m.to) e))

pub sent_anew : (os : List Outgoing) (d : ℕ) (b : Body) → In (to_drive d b) (map (λ (p : Post). p.message) (posts_of os))
    → (c : Command) × In (ToDrive d c) os × (b ≡ OfCommand c)
sent_anew os d b i =
    let p = in_mapped (λ (p : Post). p.message) (to_drive d b) (posts_of os) i in
    let o = in_mapped server_post p.0 os (in_filtered is_addressed p.0 (map server_post os) p.1).0 in
    let r = commands_only o.0 d b (p.2 ∙ ap (λ (x : Post). x.message) o.2) in
    (r.0, subst (λ (x : Outgoing). In x os) r.1 o.1, r.2)

pub none_anew : (ps : List Post) (d : ℕ) (b : Body) → NoneOfServer ps
    → In (to_drive d b) (map (λ (p : Post). p.message) ps) → ⊥
none_anew ps d b none i =
    let p = in_mapped (λ (p : Post). p.message) (to_drive d b) ps i in
    none p.0 p.1 (ap (λ (m : Message). m.from) (sym p.2))

-- ---- a step

module _ (w : World) (n : Numbers w) (t : ServerStep) (s : NumbersOn w.server t) where
  -- it was awaited before, or is new
  abbrev Known : Awaited → Type 0
  Known a = Awaits w.server.files a ⊎ In a s.fresh

  below : (a : Awaited) → Known a → a.command.nonce < t.state.next_nonce
  below a (inl old) = omega (arith, n.waits a old, s.rises)
  below a (inr new) = omega (arith, (numbered_from w.server.next_nonce s.fresh a s.numbered new).1, s.rises)

  known_alone : (a b : Awaited) → Known a → Known b → a.command.nonce ≡ b.command.nonce → a ≡ b
  known_alone a b (inl i) (inl j) e = n.alone a b i j e
  known_alone a b (inl i) (inr j) e =
      absurd (omega (arith, e, n.waits a i, (numbered_from w.server.next_nonce s.fresh b s.numbered j).0))
  known_alone a b (inr i) (inl j) e =
      absurd (omega (arith, e, n.waits b j, (numbered_from w.server.next_nonce s.fresh a s.numbered i).0))
  known_alone a b (inr i) (inr j) e = numbered_alone w.server.next_nonce s.fresh a b s.numbered i j e

  old_answers : (d : ℕ) (c : Command) → In (to_drive d (OfCommand c)) (messages_in w) → (a : Awaited) → Known a
      → a.command.nonce ≡ c.nonce → IsOf d c a
  old_answers d c i a (inl old) e = n.answers d c i a old e
  old_answers d c i a (inr new) e =
      let r = n.sent d (OfCommand c) i in
      let same : c.nonce ≡ r.0.nonce = ap (λ (x : Command). x.nonce) (own c r.0 r.1) in
      absurd (omega (arith, e, same, r.2, (numbered_from w.server.next_nonce s.fresh a s.numbered new).0))
    where
      own : (x y : Command) → OfCommand x ≡ OfCommand y → x ≡ y
      own x y f = cc f

  new_answers : (d : ℕ) (c : Command) → In (ToDrive d c) t.sends → (a : Awaited) → Known a → a.command.nonce ≡ c.nonce
      → IsOf d c a
  new_answers d c i a known e =
      let r = s.sends d c i in
      let nonce : c.nonce ≡ r.0.command.nonce = ap (λ (x : Command). x.nonce) r.1.1 in
      subst (IsOf d c) (known_alone r.0 a r.2 known (sym nonce ∙ sym e)) r.1

  new_below : (d : ℕ) (c : Command) → In (ToDrive d c) t.sends → c.nonce < t.state.next_nonce
  new_below d c i =
      let r = s.sends d c i in
      let nonce : c.nonce ≡ r.0.command.nonce = ap (λ (x : Command). x.nonce) r.1.1 in
      omega (arith, nonce, below r.0 r.2)

-- ---- a move

pub messages_sent : (ms : List Posted) (ps : List Post)
    → map (λ (x : Posted). x.message) (ms ++ map fresh ps)
    ≡ map (λ (x : Posted). x.message) ms ++ map (λ (p : Post). p.message) ps
messages_sent [] [] = refl
messages_sent [] (p ∷ ps) = ap (λ (xs : List Message). p.message ∷ xs) (messages_sent [] ps)
messages_sent (m ∷ ms) ps = ap (λ (xs : List Message). m.message ∷ xs) (messages_sent ms ps)

numbers_act : (w : World) (a : Act) → Numbers w → Acts w a.world a.told a.posts → Numbers (sends_all a).world
numbers_act w a n (Others server messages told others) = record {
  sent = λ d b i.
      let r = n.sent d b (old d b i) in
      (r.0, r.1, subst (λ s. r.0.nonce < s.next_nonce) (sym server) r.2);
  waits = λ x i. subst (λ s. x.command.nonce < s.next_nonce) (sym server) (n.waits x (subst (λ s. Awaits s.files x)
      server i));
  alone = λ x y i j e. n.alone x y (subst (λ s. Awaits s.files x) server i) (subst (λ s. Awaits s.files y) server j) e;
  answers = λ d c i x j e. n.answers d c (old d (OfCommand c) i) x (subst (λ s. Awaits s.files x) server j) e;
}
  where
    old : (d : ℕ) (b : Body) → In (to_drive d b) (messages_in (sends_all a).world) → In (to_drive d b) (messages_in w)
    old d b i = elim (in_either (to_drive d b) (messages_in a.world) (map (λ (p : Post). p.message) a.posts)
        (subst (In (to_drive d b)) (messages_sent a.world.network.messages a.posts) i)) [
          | inl j ↦ subst (In (to_drive d b)) messages j
          | inr j ↦ absurd (none_anew a.posts d b others j)
        ]
numbers_act w a n (Serves chosen i sent server messages told posts) = record {
  sent = λ d b j. elim (split d b j) [
    | inl k ↦ let r = n.sent d b k in (r.0, r.1, omega (arith, r.2, s.rises, next))
    | inr (c, k, is) ↦ (c, is, omega (arith, new_below w n t s d c k, next))
  ];
  waits = λ x j. omega (arith, below w n t s x (s.waits x (known x j)), next);
  alone = λ x y j k e. known_alone w n t s x y (s.waits x (known x j)) (s.waits y (known y k)) e;
  answers = λ d c j x k e. elim (split d (OfCommand c) j) [
    | inl old ↦ old_answers w n t s d c old x (s.waits x (known x k)) e
    | inr (z, new, is) ↦
        new_answers w n t s d c (subst (λ (y : Command). In (ToDrive d y) t.sends) (sym (own c z is)) new) x
        (s.waits x (known x k)) e
  ];
}
  where
    t : ServerStep
    t = step w.server chosen i

    s : NumbersOn w.server (step w.server chosen i)
    s = step_numbers w.server chosen i

    next : a.world.server.next_nonce ≡ (step w.server chosen i).state.next_nonce
    next = ap (λ s. s.next_nonce) server

    own : (x y : Command) → OfCommand x ≡ OfCommand y → x ≡ y
    own x y f = cc f

    known : (x : Awaited) → Awaits a.world.server.files x → Awaits (step w.server chosen i).state.files x
    known x j = subst (λ s. Awaits s.files x) server j

    split : (d : ℕ) (b : Body) → In (to_drive d b) (messages_in (sends_all a).world)
        → In (to_drive d b) (messages_in w)
        ⊎ ((c : Command) × In (ToDrive d c) (step w.server chosen i).sends × (b ≡ OfCommand c))
    split d b j = elim (in_either (to_drive d b) (messages_in a.world) (map (λ (p : Post). p.message) a.posts)
        (subst (In (to_drive d b)) (messages_sent a.world.network.messages a.posts) j)) [
          | inl k ↦ inl (subst (In (to_drive d b)) messages k)
          | inr k ↦ inr (sent_anew (step w.server chosen i).sends d b
              (subst (λ (ps : List Post). In (to_drive d b) (map (λ (p : Post). p.message) ps)) posts k))
        ]

pub numbers_move : (w : World) (m : Move) → Numbers w → Numbers (move w m).world
numbers_move w m n = numbers_act w (acts w m.chosen m.action) n (each_acts w m.chosen m.action)

pub numbers_first : Numbers empty_world
numbers_first = record {
  sent = λ d b i. absurd i;
  waits = λ a i. absurd i.1;
  alone = λ a b i j e. absurd i.1;
  answers = λ d c i a j e. absurd i;
}
