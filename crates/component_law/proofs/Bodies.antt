-- What the server sent clients spells messages whose numbers fit their places, and so is read as it was spelled.
use Rattle.std.proofs.Common.{◌≡◌, ℕ, ◌+◌, ◌≤◌, ◌^◌, ◌∷◌, ◌++◌, [], List, length, arith, Option, Some, None, map, refl, sym, ap, subst, ◌∙◌, inl, inr}
use Rattle.osd_lists.specs.declared.node.Node.{Node}
use Rattle.osd_lists.specs.declared.node.Node.TheVariants as node
use Rattle.layout_ops.specs.declared.envelope.Envelope.{Envelope}
use Rattle.layout_ops.specs.declared.envelope.Envelope.TheVariants as envelope
use Rattle.layout_ops.specs.Spelling.{EnvelopeFits, RecallFits}
use Rattle.scenario_text.specs.declared.line.Line.{Line}
use Rattle.scenario_text.specs.declared.line.Line.TheVariants as line
use Rattle.server_rules.specs.declared.limits.TheConstants.{FIRST_OBJECT}
use Rattle.server_rules.specs.Files.{Step}
use Rattle.server_rules.specs.History.{Input, step}
use Rattle.server_rules.specs.Laws.{In}
use Rattle.server_rules.proofs.Members.{in_mapped, in_filtered, one_in}
use Rattle.world_history.specs.ServerNames.{Server, Answer, Recall, Outgoing, ToDrive, Recalls, Answers, AnswersOrder}
use Rattle.world_history.specs.declared.messages.Message.{Message}
use Rattle.world_history.specs.declared.messages.Body.TheVariants.{Envelope as OfEnvelope}
use Rattle.world_history.specs.State.{World}
use Rattle.world_history.specs.Handed.{Post, is_addressed, server_post}
use Rattle.world_history.specs.Moves.{acts}
use Rattle.world_history.specs.Sending.{Move, move}
use Rattle.world_history.specs.Book.{step_by, server_behind}
use Rattle.world_history.specs.Reading.{sent_in}
use Rattle.world_history.specs.declared.limits.TheConstants.{MAX_KEPT}
use Rattle.world_history.proofs.Always.{opening, IsKept}
use Rattle.history_law.specs.Doing.{input_in}
use Rattle.history_law.proofs.Doing.{acts_serve}
use Rattle.exchange_law.proofs.Answering.{GoodBelow, SentGood, SlotsGood, StepGood}
use Rattle.exchange_law.proofs.CountSending.{ReadAny, read_input, IsOther, acts_come}
use Rattle.exchange_law.proofs.CountStepping.{ServerFits}
use Rattle.exchange_law.proofs.CountTelling.{step_good}
use Rattle.exchange_law.proofs.CountWorlds.{GivenAny, given_event, given_rule}
use Rattle.exchange_law.proofs.CountGrowing.{as_many, fewer, text_front, text_behind}
use Rattle.exchange_law.proofs.Fitting.{IsFitting, all_fitting}
use Rattle.history_law.proofs.FencingMoves.{messages_in, Acts, Others, Serves, each_acts}
use Rattle.component_law.specs.Live.{AreShort}
use Rattle.component_law.proofs.Aging.{IsLow, to_client, split}

-- ---- what is sent

answer_in : (first last k : ℕ) (os : List Outgoing) (a : Answer) → SentGood first last k os → In (Answers a) os
    → GoodBelow last a
answer_in first last k [] a g i = absurd i
answer_in first last k (Answers x ∷ os) a g (inl e) = subst (GoodBelow last) (same e) g.0
  where
    same : Answers a ≡ Answers x → x ≡ a
    same f = cc f
answer_in first last k (Recalls r ∷ os) a g (inl e) = absurd (cc e)
answer_in first last k (ToDrive d c ∷ os) a g (inl e) = absurd (cc e)
answer_in first last k (AnswersOrder x ∷ os) a g (inl e) = absurd (cc e)
answer_in first last k (Answers x ∷ os) a g (inr i) = answer_in first last (k + 1) os a g.2 i
answer_in first last k (Recalls r ∷ os) a g (inr i) = answer_in first last (k + 1) os a g.1 i
answer_in first last k (ToDrive d c ∷ os) a g (inr i) = answer_in first last (k + 1) os a g i
answer_in first last k (AnswersOrder x ∷ os) a g (inr i) = answer_in first last (k + 1) os a g i

recall_in : (first last k : ℕ) (os : List Outgoing) (r : Recall) → SentGood first last k os → In (Recalls r) os
    → RecallFits r
recall_in first last k [] r g i = absurd i
recall_in first last k (Recalls x ∷ os) r g (inl e) = subst RecallFits (same e) g.0
  where
    same : Recalls r ≡ Recalls x → x ≡ r
    same f = cc f
recall_in first last k (Answers x ∷ os) r g (inl e) = absurd (cc e)
recall_in first last k (ToDrive d c ∷ os) r g (inl e) = absurd (cc e)
recall_in first last k (AnswersOrder x ∷ os) r g (inl e) = absurd (cc e)
recall_in first last k (Answers x ∷ os) r g (inr i) = recall_in first last (k + 1) os r g.2 i
recall_in first last k (Recalls x ∷ os) r g (inr i) = recall_in first last (k + 1) os r g.1 i
recall_in first last k (ToDrive d c ∷ os) r g (inr i) = recall_in first last (k + 1) os r g i
recall_in first last k (AnswersOrder x ∷ os) r g (inr i) = recall_in first last (k + 1) os r g i

-- ---- a move

-- each message of the server to a client that was sent is an envelope whose numbers fit
abbrev pub BodiesFit : World → Type 0
BodiesFit w = (c : ℕ) (e : Envelope) → In (to_client c (OfEnvelope e)) (messages_in w) → EnvelopeFits e

body_is : (x e : Envelope) → OfEnvelope x ≡ OfEnvelope e → x ≡ e
body_is x e f = cc f

out_fits : (s : Server) (t : Step) → StepGood s t → t.state.next_object ≤ 2 ^ 63 → (o : Outgoing) → In o t.sends
    → (c : ℕ) (e : Envelope) → to_client c (OfEnvelope e) ≡ (server_post o).message → EnvelopeFits e
out_fits s t good low (Answers a) i c e is =
    subst EnvelopeFits (body_is (envelope.Answer a) e (sym (ap (λ (m : Message). m.body) is)))
    (answer_in s.next_object t.state.next_object 0 t.sends a good.sends i low).0
out_fits s t good low (Recalls r) i c e is =
    subst EnvelopeFits (body_is (envelope.Recall r) e (sym (ap (λ (m : Message). m.body) is)))
    (recall_in s.next_object t.state.next_object 0 t.sends r good.sends i)
out_fits s t good low (ToDrive d x) i c e is = absurd (cc (ap (λ (m : Message). m.to) is))
out_fits s t good low (AnswersOrder x) i c e is = absurd (cc (ap (λ (m : Message). m.to) is))

none_other : (from to : Node) (c : ℕ) → IsOther from to → from ≡ node.Server → to ≡ node.Client c → ⊥
none_other node.Server node.Server c o f t = cc t
none_other node.Server (node.Drive d) c o f t = cc t
none_other node.Server (node.Client x) c o f t = o
none_other (node.Drive d) to c o f t = cc f
none_other (node.Client x) to c o f t = cc f

module _ (w : World) (m : Move) (fits : ServerFits w.server) (given : GivenAny (input_in w m.action))
    (slots : SlotsGood w.server.next_object w.server.slots) where
  new_fits : (o : Option Input) → input_in w m.action ≡ o → GivenAny o → ReadAny o
      → (server_behind w.server (step_by w.server m.chosen o)).next_object ≤ 2 ^ 63
      → (i : Input) → o ≡ Some i → (c : ℕ) (e : Envelope)
      → In (to_client c (OfEnvelope e)) (map (λ (p : Post). p.message) (acts w m.chosen m.action).posts) → EnvelopeFits e
  new_fits None is g r low i x c e there = absurd (cc x)
  new_fits (Some j) is g r low i x c e there =
      let t : Step = step w.server m.chosen j in
      let good : StepGood w.server t = step_good w.server m.chosen j fits g r slots in
      let p = in_mapped (λ (p : Post). p.message) (to_client c (OfEnvelope e)) (acts w m.chosen m.action).posts there in
      let f = in_filtered is_addressed p.0 (map server_post t.sends)
      (subst (In p.0) ((acts_serve w m.chosen m.action).posts j is) p.1) in
      let o = in_mapped server_post p.0 t.sends f.0 in
      out_fits w.server t good low o.0 o.1 c e (p.2 ∙ ap (λ (y : Post). y.message) o.2)

  messages_same : Acts w (acts w m.chosen m.action).world (acts w m.chosen m.action).told (acts w m.chosen m.action).posts
      → messages_in (acts w m.chosen m.action).world ≡ messages_in w
  messages_same (Others server messages told others) = messages
  messages_same (Serves chosen i sent server messages told posts) = messages

  pub bodies_fit : (move w m).world.server.next_object ≤ 2 ^ 63 → BodiesFit w → BodiesFit (move w m).world
  bodies_fit low k c e i =
      elim (split w (acts w m.chosen m.action) c (OfEnvelope e) (messages_same (each_acts w m.chosen m.action)) i) [
        | inl old ↦ k c e old
        | inr new ↦ elim (acts_come w m.chosen m.action) [
          | inl others ↦
              let p = in_mapped (λ (p : Post). p.message) (to_client c (OfEnvelope e)) (acts w m.chosen m.action).posts
              new in
              absurd (none_other p.0.message.from p.0.message.to c
              (one_in (λ (q : Post). IsOther q.message.from q.message.to) (acts w m.chosen m.action).posts p.0 others p.1)
              (sym (ap (λ (x : Message). x.from) p.2)) (sym (ap (λ (x : Message). x.to) p.2)))
          | inr (j, is) ↦
              new_fits (input_in w m.action) refl given (read_input w m.action)
              (subst (λ (s : Server). s.next_object ≤ 2 ^ 63) (acts_serve w m.chosen m.action).server low) j is c e new
        ]
      ]

-- ---- at each moment

pub shorter : (h ls : List Line) → AreShort (h ++ ls) → AreShort h
shorter h ls s = record { text = text_front h ls s.text; few = fewer h ls s.few }

pub low_now : (w : World) (h : List Line) → IsFitting w h → AreShort h → IsLow w.server
low_now w h k s =
    let f = k.there s.text in
    record {
      fits = f.server;
      objects = low w.server.next_object (length w.network.messages) (length (sent_in h)) f.objects
          (as_many w h k.known.read) s.few;
    }
  where
    low : (o n m : ℕ) → o ≤ n + FIRST_OBJECT → m ≡ n → m ≤ MAX_KEPT → o ≤ 2 ^ 63
    low o n m l e f = omega (arith, l, e, f)

-- what is known behind some lines
pub record HasBodies (w : World) (h : List Line) : Type 0 where
  pub fitting : IsFitting w h
  pub bodies : AreShort h → BodiesFit w

bodies_move : (w : World) (h ls : List Line) (m : Move) → HasBodies w h → IsFitting (move w m).world (h ++ ls)
    → AreShort (h ++ ls) → GivenAny (input_in w m.action) → BodiesFit (move w m).world
bodies_move w h ls m k next short given =
    let s = shorter h ls short in
    bodies_fit w m (k.fitting.there s.text).server given (k.fitting.slots s.text)
    (low_now (move w m).world (h ++ ls) next short).objects (k.bodies s)

pub all_bodies : IsKept HasBodies
all_bodies = record {
  starts = record { fitting = all_fitting.starts; bodies = λ short c e i. absurd i };
  opens = λ w h e chosen k allowed.
      let m : Move = opening e chosen in
      let lines : List Line = line.Event e ∷ (move w m).lines in
      let next = all_fitting.opens w h e chosen k.fitting allowed in
      record {
        fitting = next;
        bodies = λ short.
            bodies_move w h lines m k next short (given_event w e (text_behind h lines short.text).0);
      };
  moves = λ w h r m k due.
      let next = all_fitting.moves w h r m k.fitting due in
      record {
        fitting = next;
        bodies = λ short. bodies_move w h (move w m).lines m k next short (given_rule w r m.action due);
      };
}
