-- An answer that a client in step takes is the one that the server keeps for it.
use Rattle.std.proofs.Common.{◌≡◌, ◌==◌, ◌&&◌, not, ℕ, Bool, true, false, List, Option, Some, None, find, refl, sym, ap, subst, ◌∙◌, arith, inl, inr, if◌then◌else◌}
use Rattle.std.proofs.lemmas.Bool.Decides.{nat_tests}
use Rattle.std.proofs.lemmas.Bool.{and_parts}
use Rattle.osd_lists.specs.declared.node.Node.{Node}
use Rattle.osd_lists.specs.declared.node.Node.TheVariants as node
use Rattle.osd_lists.specs.declared.node.Node.TheVariants.{Server as FromServer, Drive as FromDrive}
use Rattle.layout_ops.specs.declared.envelope.Envelope.TheVariants as envelope
use Rattle.client_rules.specs.Replies.{answers}
use Rattle.client_rules.specs.Envelopes.{message_in}
use Rattle.client_rules.specs.Messages.{Message, Replies, Answers, Recalls, Taken, TakesAnswer, TakesRecall, names_nobody, is_awaited, answer_taken, awaited_of, takes}
use Rattle.server_rules.specs.declared.server.Slot.{Slot}
use Rattle.server_rules.specs.Laws.{last_of}
use Rattle.scenario_text.specs.declared.line.Line.{Line}
use Rattle.world_history.specs.declared.messages.Body.{Body}
use Rattle.world_history.specs.declared.messages.Body.TheVariants.{Command as OfCommand, Reply as OfReply, Envelope as OfEnvelope}
use Rattle.world_history.specs.Spelled.{spelled}
use Rattle.history_law.specs.State.{Client, Request, Answer}
use Rattle.exchange_law.specs.Messages.{WasAnswered, IsToldBySlot, IsSlotOf}
use Rattle.exchange_law.specs.Made.{WasMade}
use Rattle.exchange_law.specs.InStep.{IsAwaiting}
use Rattle.exchange_law.proofs.SlotReading.{client_reads, client_reads_none}
use Rattle.exchange_law.proofs.LatestLaw.{reply_never}

-- ---- what a client takes

-- an answer of the server to its outstanding request
pub record IsTaken (x : Client) (from : Node) (m : Message) (b : Answer) : Type 0 where
  pub sender : from ≡ node.Server
  pub message : m ≡ Answers b
  pub request : Request
  pub outstanding : x.outstanding ≡ Some request
  pub sequence : b.sequence ≡ request.sequence

awaited_same : (x : Client) (a : Answer) (r : Request) → is_awaited x a r ≡ true → a.sequence ≡ r.sequence
awaited_same x a r e =
    let both = and_parts (a.client == x.number) ((a.sequence == r.sequence) && not (names_nobody a)) e in
    let two = and_parts (a.sequence == r.sequence) (not (names_nobody a)) both.1 in
    same a.sequence r.sequence two.0
  where
    same : (n k : ℕ) → (n == k) ≡ true → n ≡ k
    same n k e = grind (arith, e, nat_tests)

by_test : (x : Client) (a b : Answer) (r : Request) (t : Bool) → is_awaited x a r ≡ t → x.outstanding ≡ Some r
    → (if t then Some (TakesAnswer a) else None) ≡ Some (TakesAnswer b) → IsTaken x FromServer (Answers a) b
by_test x a b r true is out e =
    let same : a ≡ b = cc e in
    subst (λ (z : Answer). IsTaken x FromServer (Answers a) z) same (record {
      sender = refl;
      message = refl;
      request = r;
      outstanding = out;
      sequence = awaited_same x a r is;
    })
by_test x a b r false is out e = absurd (cc e)

by_outstanding : (x : Client) (a b : Answer) (o : Option Request) → x.outstanding ≡ o
    → answer_taken x a o ≡ Some (TakesAnswer b) → IsTaken x FromServer (Answers a) b
by_outstanding x a b None out e = absurd (cc e)
by_outstanding x a b (Some r) out e = by_test x a b r (is_awaited x a r) refl out e

no_recall : (t : Bool) (k : Taken) (b : Answer) → (k ≡ TakesAnswer b → ⊥)
    → (if t then Some k else None) ≡ Some (TakesAnswer b) → ⊥
no_recall true k b not e = not (cc e)
no_recall false k b not e = cc e

pub is_taken : (x : Client) (from : Node) (m : Message) (b : Answer) → takes x from m ≡ Some (TakesAnswer b)
    → IsTaken x from m b
unfolding takes
is_taken x FromServer (Answers a) b e = by_outstanding x a b x.outstanding refl e
is_taken x (FromDrive d) (Replies r) b e = absurd (reply_never r (find (answers d r) (awaited_of x.call)) b e)
is_taken x FromServer (Recalls r) b e = absurd (no_recall (r.client == x.number) (TakesRecall r) b (λ f. cc f) e)
is_taken x from m b e = absurd (cc e)

-- ---- which answer that is

pub record IsKeptFor (h : List Line) (c : ℕ) (o : Option Slot) (r : Request) (body : Body) : Type 0 where
  pub slot : Slot
  pub kept : o ≡ Some slot
  pub last : slot.last ≡ r.sequence
  pub made : WasMade h c r slot.kept
  pub body_is : body ≡ OfEnvelope (envelope.Answer slot.kept)

module _ (h : List Line) (c : ℕ) (o : Option Slot) (last : ℕ) (r : Request) (w : IsAwaiting h c o last r)
    (slots : (s : Slot) → o ≡ Some s → IsSlotOf c s) (b : Answer) (sequence : b.sequence ≡ r.sequence) where
  kept_answer : (a : Answer) → WasAnswered c o a → a.sequence ≡ b.sequence
      → IsKeptFor h c o r (OfEnvelope (envelope.Answer a))
  kept_answer a k same = elim w.served [
    | inl v ↦ absurd (omega (arith, v, same, sequence, k.last, ap last_of k.kept))
    | inr v ↦
        let it : k.slot ≡ v.slot = one_slot k.slot v.slot k.kept v.kept in
        let is : a ≡ k.slot.kept = k.same (same ∙ sequence ∙ sym v.last ∙ sym (ap (λ (s : Slot). s.last) it)) in
        record {
          slot = v.slot;
          kept = v.kept;
          last = v.last;
          made = v.made;
          body_is = ap (λ (z : Answer). OfEnvelope (envelope.Answer z)) (is ∙ ap (λ (s : Slot). s.kept) it);
        }
  ]
    where
      one_slot : (s t : Slot) → o ≡ Some s → o ≡ Some t → s ≡ t
      one_slot s t e f = cc (sym e ∙ f)

  read_same : (a : Answer) → WasAnswered c o a
      → message_in node.Server (spelled (OfEnvelope (envelope.Answer a))) ≡ Some (Answers b) → a.sequence ≡ b.sequence
  read_same a k e =
      let s = slots k.slot k.kept in
      sym (client_reads a b (omega (arith, k.client, s.named), omega (arith, k.last, s.last)) e).1

  pub kept_for : (body : Body) → IsToldBySlot c o body → message_in node.Server (spelled body) ≡ Some (Answers b)
      → IsKeptFor h c o r body
  kept_for (OfEnvelope (envelope.Answer a)) k e = kept_answer a k (read_same a k e)
  kept_for (OfEnvelope (envelope.Recall v)) k e = absurd (client_reads_none v b e)
  kept_for (OfEnvelope (envelope.Request v)) k e = absurd k
  kept_for (OfEnvelope (envelope.RecallAnswer v)) k e = absurd k
  kept_for (OfEnvelope (envelope.Order v)) k e = absurd k
  kept_for (OfEnvelope (envelope.OrderAnswer v)) k e = absurd k
  kept_for (OfCommand v) k e = absurd k
  kept_for (OfReply v) k e = absurd k
