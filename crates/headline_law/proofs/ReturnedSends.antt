-- A request that a client sends is outstanding then.
-- Towards `ReturnsAreLow` (`specs/Returned.antt`).
use Rattle.std.proofs.Common.{◌≡◌, ◌||◌, ℕ, Bool, List, [], ◌∷◌, Option, Some, None, filter, sym, ap, subst, ◌∙◌, inl, inr}
use Rattle.layout_ops.specs.declared.envelope.Envelope.TheVariants as envelope
use Rattle.server_rules.specs.Laws.{In}
use Rattle.server_rules.proofs.Members.{in_either, in_mapped}
use Rattle.client_rules.specs.Commands.{in_order}
use Rattle.client_rules.specs.History.{Input, Calls, Hears, TimesOut, Leaves, Resends, step}
use Rattle.client_rules.specs.Messages.{to_drive, awaited_of}
use Rattle.client_rules.specs.Steps.{outstanding_sends, resent}
use Rattle.world_history.specs.declared.messages.Body.TheVariants.{Envelope as OfEnvelope}
use Rattle.world_history.specs.declared.messages.Message.{Message}
use Rattle.world_history.specs.Handed.{is_addressed, is_write_out, client_posts}
use Rattle.exchange_law.specs.ClientState.{Client, Outgoing, AnswersRecall, Asks, ToDrive, Request}
use Rattle.exchange_law.specs.Doing.{posted}
use Rattle.exchange_law.specs.Requests.{requests_in, requests_at, OneRequest}
use Rattle.exchange_law.proofs.LatestLaw.{same_client}
use Rattle.exchange_law.proofs.Replied.{addressed}
use Rattle.cause_law.proofs.Sends.{request_message}

-- ---- what is posted

same_request : (c n : ℕ) (q r : Request) → request_message c q ≡ request_message n r → q ≡ r
same_request c n q r e = body (ap (λ (m : Message). m.body) e)
  where
    body : OfEnvelope (envelope.Request q) ≡ OfEnvelope (envelope.Request r) → q ≡ r
    body f = cc f

among_posts : (c n : ℕ) (q : Request) (wrote : Bool) (logged : ℕ) (os : List Outgoing) →
    In (request_message c q) (posted (client_posts n wrote logged os)) → (c ≡ n) × In (Asks q) os
among_posts c n q wrote logged [] i = absurd i
among_posts c n q wrote logged (Asks r ∷ os) (inl e) = (
  same_client c n (ap (λ (m : Message). m.from) e),
  inl (ap (λ (x : Request). Asks x) (same_request c n q r e)),
)
among_posts c n q wrote logged (AnswersRecall a ∷ os) (inl e) = absurd (cc (ap (λ (m : Message). m.body) e))
among_posts c n q wrote logged (ToDrive d x ∷ os) (inl e) = absurd (cc (ap (λ (m : Message). m.body) e))
among_posts c n q wrote logged (o ∷ os) (inr i) =
    let it = among_posts c n q (wrote || is_write_out o) logged os i in (it.0, inr it.1)

-- a request that a client posts is its own, and among what its step sends
pub request_posted : (c n : ℕ) (q : Request) (wrote : Bool) (logged : ℕ) (os : List Outgoing) →
    In (request_message c q) (posted (filter is_addressed (client_posts n wrote logged os))) → (c ≡ n) × In (Asks q) os
request_posted c n q wrote logged os i =
    among_posts c n q wrote logged os (addressed (request_message c q) (client_posts n wrote logged os) i)

-- ---- what a step sends

among_requests : (q : Request) (os : List Outgoing) → In (Asks q) os → In q (requests_in os)
among_requests q (Asks r ∷ os) (inl e) = inl (cc e)
among_requests q (Asks r ∷ os) (inr i) = inr (among_requests q os i)
among_requests q (ToDrive d x ∷ os) (inl e) = absurd (cc e)
among_requests q (ToDrive d x ∷ os) (inr i) = among_requests q os i
among_requests q (AnswersRecall a ∷ os) (inl e) = absurd (cc e)
among_requests q (AnswersRecall a ∷ os) (inr i) = among_requests q os i
among_requests q [] i = absurd i

only_one : (q r : Request) → In q (r ∷ []) → q ≡ r
only_one q r (inl e) = e
only_one q r (inr i) = absurd i

-- where a request is sent that wasn't sent before
new_outstanding : OneRequest → (x : Client) (i : Input) (q : Request) → In q (requests_at x i) →
    (step x i).client.outstanding ≡ Some q
new_outstanding one x i q there = elim (one x i) [
  | inl (none, stays) ↦ absurd (subst (In q) none there)
  | inr (free, r, list, is, number) ↦ is ∙ ap (λ (z : Request). Some z) (sym (only_one q r (subst (In q) list there)))
]

among_outstanding : (o : Option Request) (q : Request) → In (Asks q) (outstanding_sends o) → o ≡ Some q
among_outstanding None q i = absurd i
among_outstanding (Some r) q (inl e) = let same : q ≡ r = cc e in ap (λ (z : Request). Some z) (sym same)
among_outstanding (Some r) q (inr i) = absurd i

-- where it is sent again
again_outstanding : (x : Client) (q : Request) → In (Asks q) (resent x) → x.outstanding ≡ Some q
unfolding resent
again_outstanding x q i = elim (in_either (Asks q) (outstanding_sends x.outstanding) _ i) [
  | inl here ↦ among_outstanding x.outstanding q here
  | inr other ↦
      let it = in_mapped to_drive (Asks q) (in_order (awaited_of x.call)) other in
      absurd (cc (it.2))
]

-- what a step sends is outstanding behind it
pub sent_outstanding : OneRequest → (x : Client) (i : Input) (q : Request) → In (Asks q) (step x i).sends →
    (step x i).client.outstanding ≡ Some q
sent_outstanding one x (Calls op) q i =
    new_outstanding one x (Calls op) q (among_requests q (step x (Calls op)).sends i)
sent_outstanding one x (Hears from m) q i =
    new_outstanding one x (Hears from m) q (among_requests q (step x (Hears from m)).sends i)
sent_outstanding one x (TimesOut k) q i =
    new_outstanding one x (TimesOut k) q (among_requests q (step x (TimesOut k)).sends i)
sent_outstanding one x Leaves q i = new_outstanding one x Leaves q (among_requests q (step x Leaves).sends i)
sent_outstanding one x Resends q i = again_outstanding x q i
