-- At each moment each WRITE that a client awaits has the greatest nonce of those that it sent to the object.
use Rattle.std.proofs.Common.{◌≡◌, ◌⊎◌, ◌==◌, ℕ, ◌≤◌, [], List, Bool, true, false, Option, Some, None, map, option_map, refl, sym, ap, subst, ◌∙◌, arith, inl, inr, if◌then◌else◌, append_assoc, ◌++◌}
use Rattle.std.proofs.lemmas.Bool.{cases_eq}
use Rattle.std.proofs.lemmas.List.{append-nil}
use Rattle.osd_lists.specs.declared.node.Node.{Node}
use Rattle.osd_lists.specs.declared.node.Node.TheVariants as node
use Rattle.server_rules.specs.Laws.{In}
use Rattle.server_rules.proofs.Members.{in_either, in_mapped}
use Rattle.exchange_law.specs.ClientState.{Client, Call, Held, Awaited, Outgoing, AnswersRecall, Asks, ToDrive, Answer, Reply, Command, Request}
use Rattle.client_rules.specs.Grants.{held_of}
use Rattle.client_rules.specs.Io.{awaited_in}
use Rattle.client_rules.specs.Messages.{Message as ClientMessage, Replies, Answers, Recalls, Taken, TakesAnswer, TakesRecall, answer_taken, is_awaited, reply_taken, awaited_of, takes}
use Rattle.client_rules.specs.Steps.{new_client}
use Rattle.client_rules.specs.History.{Input, Calls, Hears, TimesOut, Leaves, Resends, step}
use Rattle.scenario_text.specs.declared.line.Line.{Line}
use Rattle.world_history.specs.declared.messages.Body.TheVariants.{Command as OfCommand}
use Rattle.world_history.specs.declared.messages.Message.{Message}
use Rattle.world_history.specs.State.{ClientAt, World, at_number}
use Rattle.world_history.specs.Handed.{Post}
use Rattle.world_history.specs.Moves.{Act, acts}
use Rattle.world_history.specs.Sending.{sends_all}
use Rattle.world_history.specs.History.{OneEventMore}
use Rattle.history_law.proofs.Moments.{IsKept}
use Rattle.history_law.specs.BookMoments.{IsMoment, lines_in}
use Rattle.history_law.proofs.FencingMoves.{messages_in}
use Rattle.history_law.proofs.Numbers.{messages_sent}
use Rattle.exchange_law.specs.Sent.{message_of, HasSent}
use Rattle.exchange_law.specs.Given.{IsNew, CanTake, GrantsAreNew}
use Rattle.exchange_law.specs.Latest.{AwaitedAreLatest}
use Rattle.exchange_law.proofs.LaneGrowing.{With, HeldFine}
use Rattle.exchange_law.proofs.Fine.{ClientFine, fewer}
use Rattle.exchange_law.proofs.LaneGoing.{StepFine}
use Rattle.exchange_law.proofs.LaneSteps.{IsNewIn, InputNew, step_fine}
use Rattle.exchange_law.proofs.Dealing.{message_by, IsHeard, AreSends, Acts, Others, Goes, Makes, each_acts}
use Rattle.exchange_law.proofs.LaneMoments.{moment}

-- ---- what a client sent

-- to any drive
abbrev pub SentIn : World → (client : ℕ) → Command → Type 0
SentIn w c y = (d : ℕ) × HasSent w c d y

abbrev pub IsFineAt : World → (client : ℕ) → Client → Type 0
IsFineAt w c s = ClientFine (With (SentIn w c) (awaited_of s.call)) s.held s.call

abbrev pub AllFine : World → Type 0
AllFine w = (c : ℕ) (a : ClientAt) → at_number w.clients c ≡ Some a → IsFineAt w c a.state

-- ---- what is sent in a move

pub sent_split : (w : World) (a : Act) (x : Message) → messages_in a.world ≡ messages_in w
    → In x (messages_in (sends_all a).world) → In x (messages_in w) ⊎ ((p : Post) × In p a.posts × (x ≡ p.message))
sent_split w a x same i =
    elim (in_either x (messages_in a.world) (map (λ (p : Post). p.message) a.posts)
    (subst (In x) (messages_sent a.world.network.messages a.posts) i)) [
      | inl j ↦ inl (subst (In x) same j)
      | inr j ↦ inr (in_mapped (λ (p : Post). p.message) x a.posts j)
    ]

-- a client that sends nothing
kept_by : (w : World) (a : Act) (c : ℕ) (s : Client) → messages_in a.world ≡ messages_in w
    → ((p : Post) → In p a.posts → p.message.from ≡ node.Client c → ⊥) → IsFineAt w c s
    → IsFineAt (sends_all a).world c s
kept_by w a c s same none fine =
    fewer (With (SentIn w c) (awaited_of s.call)) (With (SentIn (sends_all a).world c) (awaited_of s.call)) less s.held
    s.call fine (λ x i. inr (x, i, refl))
  where
    less : (y : Command) → With (SentIn (sends_all a).world c) (awaited_of s.call) y
        → With (SentIn w c) (awaited_of s.call) y
    less y (inr r) = inr r
    less y (inl (d, i)) = elim (sent_split w a (message_of c d y) same i) [
      | inl old ↦ inl (d, old)
      | inr (p, j, e) ↦ absurd (none p j (ap (λ (m : Message). m.from) (sym e)))
    ]

same_state : (w : World) (c : ℕ) (s t : Client) → s ≡ t → IsFineAt w c t → IsFineAt w c s
same_state w c s t e f = subst (IsFineAt w c) (sym e) f

-- ---- a step of a client

drive_message : (c n d : ℕ) (y : Command) (o : Outgoing) → message_of c d y ≡ message_by n o → o ≡ ToDrive d y
drive_message c n d y (ToDrive k z) e =
    ap (λ (m : ℕ). ToDrive m z) (sym (number (ap (λ (m : Message). m.to) e)))
    ∙ ap (ToDrive d) (sym (command (ap (λ (m : Message). m.body) e)))
  where
    number : node.Drive d ≡ node.Drive k → d ≡ k
    number f = cc f

    command : OfCommand y ≡ OfCommand z → y ≡ z
    command f = cc f
drive_message c n d y (Asks r) e = absurd (cc (ap (λ (m : Message). m.to) e))
drive_message c n d y (AnswersRecall r) e = absurd (cc (ap (λ (m : Message). m.to) e))

pub same_client : (c n : ℕ) → node.Client c ≡ node.Client n → c ≡ n
same_client c n e = cc e

own_step : (w : World) (a : Act) (c : ℕ) (s : Client) (i : Input) → messages_in a.world ≡ messages_in w
    → AreSends c (step s i).sends a.posts → StepFine (With (SentIn w c) (awaited_of s.call)) (step s i)
    → IsFineAt (sends_all a).world c (step s i).client
own_step w a c s i same sends fine =
    fewer (With S fine.commands) (With (SentIn (sends_all a).world c) (awaited_of (step s i).client.call)) less
    (step s i).client.held (step s i).client.call fine.client (λ x j. inr (x, j, refl))
  where
    S : Command → Type 0
    S = With (SentIn w c) (awaited_of s.call)

    less : (y : Command) → With (SentIn (sends_all a).world c) (awaited_of (step s i).client.call) y
        → With S fine.commands y
    less y (inr (x, j, e)) = subst (With S fine.commands) e (fine.client.sent x j)
    less y (inl (d, j)) = elim (sent_split w a (message_of c d y) same j) [
      | inl old ↦ inl (inl (d, old))
      | inr (p, k, e) ↦
          let r = sends p k in
          inr (fine.sends d y (subst (λ (o : Outgoing). In o (step s i).sends) (drive_message c c d y r.0 (e ∙ r.2)) r.1))
    ]

-- ---- the grants that it takes

none_awaited : (o : Option Call) (call : Call) → o ≡ Some call → awaited_in call.phase ≡ [] → awaited_of o ≡ []
none_awaited o call is none = ap awaited_of is ∙ none

new_in : (w : World) (c : ℕ) (s : Client) (h : Held) → awaited_of s.call ≡ [] → IsNew w c s.held h
    → IsNewIn (With (SentIn w c) (awaited_of s.call)) s.held h
new_in w c s h none new = record {
  nonces = nonces;
  beside = λ f j other there k i o m n. new.apart f j there (λ e. other (sym e)) k i o m n;
  single = new.single;
}
  where
    nonces : HeldFine (With (SentIn w c) (awaited_of s.call)) h
    nonces k y (inl (d, i)) b n = omega (arith, new.later d k y i b n)
    nonces k y (inr (x, i, e)) b n = absurd (subst (In x) none i)

pub reply_never : (r : Reply) (o : Option Awaited) (x : Answer) → reply_taken r o ≡ Some (TakesAnswer x) → ⊥
reply_never r None x e = cc e
reply_never r (Some a) x e = cc e

recall_never : (r : ClientMessage) (b : Bool) (t : Taken) (x : Answer) → ((y : Answer) → t ≡ TakesAnswer y → ⊥)
    → (if b then Some t else None) ≡ Some (TakesAnswer x) → ⊥
recall_never r true t x other e = other x (cc e)
recall_never r false t x other e = cc e

answer_same : (s : Client) (a x : Answer) (o : Option Request) → answer_taken s a o ≡ Some (TakesAnswer x) → a ≡ x
answer_same s a x None e = absurd (cc e)
answer_same s a x (Some r) e = either (is_awaited s a r) e
  where
    either : (b : Bool) → (if b then Some (TakesAnswer a) else None) ≡ Some (TakesAnswer x) → a ≡ x
    either true f = cc f
    either false f = absurd (cc f)

-- an answer that is taken came from the server
pub record IsAnswered (from : Node) (m : ClientMessage) (x : Answer) : Type 0 where
  pub server : from ≡ node.Server
  pub message : m ≡ Answers x

pub answered : (s : Client) (from : Node) (m : ClientMessage) (x : Answer) → takes s from m ≡ Some (TakesAnswer x)
    → IsAnswered from m x
unfolding takes
answered s node.Server (Answers a) x e = record {
  server = refl;
  message = ap Answers (answer_same s a x s.outstanding e);
}
answered s node.Server (Recalls r) x e =
    absurd (recall_never (Recalls r) (r.client == s.number) (TakesRecall r) x (λ y f. cc f) e)
answered s node.Server (Replies r) x e = absurd (cc e)
answered s (node.Drive d) (Replies r) x e = absurd (reply_never r _ x e)
answered s (node.Drive d) (Answers a) x e = absurd (cc e)
answered s (node.Drive d) (Recalls r) x e = absurd (cc e)
answered s (node.Client n) (Replies r) x e = absurd (cc e)
answered s (node.Client n) (Answers a) x e = absurd (cc e)
answered s (node.Client n) (Recalls r) x e = absurd (cc e)

module _ (w : World)
    (given : (c : ℕ) (a : ClientAt) → at_number w.clients c ≡ Some a → (g : Held) → CanTake w c a g
    → IsNew w c a.state.held g) where
  heard_new : (c : ℕ) (a : ClientAt) (from : Node) (m : ClientMessage) → at_number w.clients c ≡ Some a
      → IsHeard w c (Hears from m) → InputNew (With (SentIn w c) (awaited_of a.state.call)) a.state (Hears from m)
  heard_new c a from m there (x, sent, by, to, read) v takes_it call is none g grant =
      let r = answered a.state from m v takes_it in
      new_in w c a.state g (none_awaited a.state.call call is none)
      (given c a there g (record {
        message = x;
        sent = sent;
        sender = by ∙ r.server;
        receiver = to;
        answer = v;
        read = read ∙ ap (λ (y : ClientMessage). Some y) r.message;
        takes =
            subst (λ (y : ClientMessage). takes a.state node.Server y ≡ Some (TakesAnswer v)) r.message
            (subst (λ (n : Node). takes a.state n m ≡ Some (TakesAnswer v)) r.server takes_it);
        op = call.op;
        asks = ap (λ (o : Option Call). option_map (λ (y : Call). y.op) o) is;
        grant = grant;
      }))

  input_new : (c : ℕ) (a : ClientAt) (i : Input) → at_number w.clients c ≡ Some a → IsHeard w c i
      → InputNew (With (SentIn w c) (awaited_of a.state.call)) a.state i
  input_new c a (Hears from m) there heard = heard_new c a from m there heard
  input_new c a (Calls op) there heard = tt
  input_new c a (TimesOut n) there heard = tt
  input_new c a Leaves there heard = tt
  input_new c a Resends there heard = tt

  -- ---- a move

  new_fine : (v : World) (c : ℕ) → IsFineAt v c (new_client c 1)
  unfolding held_of
  new_fine v c = record {
    helds = record {
      nonces = λ f j e. absurd (cc e);
      single = λ f j e. absurd (cc e);
      apart = λ f g j i e d other. absurd (cc e);
    };
    call = tt;
    sent = λ x i. absurd i;
  }

  act_fine : (a : Act) → Acts w a.world a.posts → AllFine w → AllFine (sends_all a).world
  act_fine a (Others states same none) fine c b there =
      let r = states c b there in
      same_state (sends_all a).world c b.state r.0.state r.2
      (kept_by w a c r.0.state same (λ p i e. none p c i e) (fine c r.0 r.1))
  act_fine a (Goes c x i found heard own others same sends) fine n b there = elim (cases_eq n c) [
    | inl it ↦
        let here : at_number a.world.clients c ≡ Some b = subst (λ (k : ℕ). at_number a.world.clients k ≡ Some b) it
        there in
        subst (λ (k : ℕ). IsFineAt (sends_all a).world k b.state) (sym it)
        (same_state (sends_all a).world c b.state (step x.state i).client (own b here)
        (own_step w a c x.state i same sends
        (step_fine (With (SentIn w c) (awaited_of x.state.call)) x.state i (input_new c x i found heard)
        (fine c x found))))
    | inr other ↦
        kept_by w a n b.state same
        (λ p j e. let r = sends p j in
        other (same_client n c (sym e ∙ ap (λ (m : Message). m.from) r.2)))
        (fine n b (others n b other there))
  ]
  act_fine a (Makes c own others same none) fine n b there = elim (cases_eq n c) [
    | inl it ↦
        let here : at_number a.world.clients c ≡ Some b = subst (λ (k : ℕ). at_number a.world.clients k ≡ Some b) it
        there in
        subst (λ (k : ℕ). IsFineAt (sends_all a).world k b.state) (sym it)
        (same_state (sends_all a).world c b.state (new_client c 1) (own b here) (new_fine (sends_all a).world c))
    | inr other ↦
        kept_by w a n b.state same (λ p i e. none p n i e) (fine n b (others n b other there))
  ]

-- up to the end of these lines
module _ (further : OneEventMore) (h : List Line) (given : GrantsAreNew h) where
  abbrev FineUpTo : World → List Line → Type 0
  FineUpTo w before = (after : List Line) → h ≡ before ++ after → AllFine w

  all_fine : IsKept FineUpTo
  all_fine = record {
    starts = λ after is c a there. absurd (cc there);
    moves = λ w before k m due fine after is.
        let longer : h ≡ before ++ (lines_in w m ++ after) = is ∙ append_assoc before (lines_in w m) after in
        act_fine w (given w before (lines_in w m ++ after) longer k) (acts w m.chosen m.action)
        (each_acts w m.chosen m.action) (fine (lines_in w m ++ after) longer);
  }

  pub fine_at : (w : World) → IsMoment w h → AllFine w
  fine_at w k = moment further FineUpTo all_fine w h k [] (sym (append-nil h))

pub awaited_are_latest : OneEventMore → AwaitedAreLatest
awaited_are_latest further w h k given c a there x i writes backed d y sent action y_backed same =
    by_call a.state.call (fine_at further h given w k c a there) i
  where
    by_call : (o : Option Call) → ClientFine (With (SentIn w c) (awaited_of a.state.call)) a.state.held o
        → In x (awaited_of o) → y.nonce ≤ x.command.nonce
    by_call None f j = absurd j
    by_call (Some call) f j = f.call.latest x j writes backed y (inl (d, sent)) action y_backed same
