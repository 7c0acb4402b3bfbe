-- At each stage of a ready call, who receives a message of its event is its client, or a client without a call.
use Rattle.std.proofs.Common.{◌≡◌, List, [], ◌∷◌, ◌++◌, Some, refl, sym, ap, subst, ◌∙◌, inl, inr}
use Rattle.osd_lists.specs.declared.node.Node.TheVariants as node
use Rattle.server_rules.specs.Laws.{In}
use Rattle.server_rules.proofs.Members.{in_behind, in_either}
use Rattle.world_history.specs.ClientNames.{Answer, Request, Awaited}
use Rattle.world_history.specs.ServerNames.{Grant}
use Rattle.world_history.specs.State.{World, ClientAt, at_number}
use Rattle.world_history.specs.declared.messages.Message.{Message}
use Rattle.ready_law.proofs.Calls.{ReadyCall, opposed_at, queue_at, request_message, answer_message}
use Rattle.ready_law.proofs.Stages.{Stage, Returns, WasReturned, AsksFirst, Recalls, AsksAgain, Gets, Works, Commits, WasCommitted, Reports, WasReported, AreRecalls, AreReturns, AreTaken, AreHalves, AreOf, IsUntouched}
use Rattle.history_claims.proofs.PlainMoves.{IsReceived}

module _ (s : ReadyCall) (w : World) where
  abbrev Received : Message → Type 0
  Received m = IsReceived w s.client m

  -- all of some messages are received so
  abbrev AllReceived : List Message → Type 0
  AllReceived ms = (m : Message) → In m ms → Received m

  none_left : AllReceived []
  none_left m i = absurd i

  and_all : (x : Message) (ms : List Message) → Received x → AllReceived ms → AllReceived (x ∷ ms)
  and_all x ms one rest m (inl e) = subst Received (sym e) one
  and_all x ms one rest m (inr i) = rest m i

  both_all : (xs ys : List Message) → AllReceived xs → AllReceived ys → AllReceived (xs ++ ys)
  both_all xs ys p q m i = elim (in_either m xs ys i) [
    | inl a ↦ p m a
    | inr b ↦ q m b
  ]

  -- the server receives a request
  request : (q : Request) → Received (request_message q)
  request q k e = absurd (cc e)

  -- the call's client receives the answer to it
  answer : (a : Answer) → a.client ≡ s.client → Received (answer_message a)
  answer a same k e = let its : a.client ≡ k = cc e in inl (sym its ∙ same)

  -- ---- the holders of conflicting grants

  recalled : (left : List Grant) (ms : List Message) → AreRecalls left ms → ((g : Grant) → In g left → In g (opposed_at s)) →
      ((g : Grant) → In g left → IsUntouched s w g.client) → AllReceived ms
  recalled [] [] are inside same = none_left
  recalled [] (m ∷ ms) are inside same = absurd are
  recalled (g ∷ left) [] are inside same = absurd are
  recalled (g ∷ left) (m ∷ ms) are inside same =
      and_all m ms (λ k e. inr (λ a there.
      let to : node.Client g.client ≡ node.Client k = sym (ap (λ (z : Message). z.to) are.0.1) ∙ e in
      let its : g.client ≡ k = cc to in
      let y = s.ready.yielding g (inside g (inl refl)) in
      let found : Some a ≡ Some y.client =
      sym there ∙ ap (at_number w.clients) (sym its) ∙ same g (inl refl) ∙ y.there in
      let one : a ≡ y.client = cc found in
      ap (λ (z : ClientAt). z.state.call) one ∙ y.idle.free))
      (recalled left ms are.1 (λ h i. inside h (inr i)) (λ h i. same h (inr i)))

  returned : (gs : List Grant) (ms : List Message) → AreReturns s w gs ms → AllReceived ms
  returned [] [] are = none_left
  returned [] (m ∷ ms) are = absurd are
  returned (g ∷ gs) [] are = absurd are
  returned (g ∷ gs) (a ∷ []) are = absurd are
  returned (g ∷ gs) (a ∷ m ∷ ms) are =
      and_all a (m ∷ ms) (subst Received (sym are.0.message_is) (λ k e. absurd (cc e)))
      (and_all m ms (subst Received (sym are.1.2) (request are.1.0)) (returned gs ms are.2))

  halved : (gs : List Grant) (ms : List Message) → AreHalves s w gs ms → AllReceived ms
  halved [] [] are = none_left
  halved [] (m ∷ ms) are = absurd are
  halved (g ∷ []) [] are = absurd are
  halved (g ∷ h ∷ gs) [] are = absurd are
  halved (g ∷ []) (m ∷ []) are = and_all m [] (subst Received (sym are.2) (request are.0)) none_left
  halved (g ∷ []) (m ∷ n ∷ ms) are = absurd are
  halved (g ∷ h ∷ gs) (m ∷ ms) are = absurd are

  taken : (gs : List Grant) (ms : List Message) → AreTaken s w gs ms → AllReceived ms
  taken [] [] are = none_left
  taken [] (m ∷ ms) are = absurd are
  taken (g ∷ gs) [] are = absurd are
  taken (g ∷ gs) (m ∷ ms) are =
      and_all m ms (λ k e. inr (λ a there.
      let q = are.0.1 in
      let to : node.Client are.0.0.client ≡ node.Client k = sym (ap (λ (z : Message). z.to) are.0.2) ∙ e in
      let its : are.0.0.client ≡ k = cc to in
      let found : Some a ≡ Some q.at = sym there ∙ ap (at_number w.clients) (sym its ∙ q.client_is) ∙ q.there in
      let one : a ≡ q.at = cc found in
      ap (λ (z : ClientAt). z.state.call) one ∙ q.free)) (taken gs ms are.1)

  -- ---- commands and their replies

  working : (xs : List Awaited) (ms : List Message) → AreOf s.client xs ms → AllReceived ms
  working [] [] are = none_left
  working [] (m ∷ ms) are = absurd are
  working (x ∷ xs) [] are = absurd are
  working (x ∷ xs) (m ∷ ms) are =
      and_all m ms (elim are.0 [
        | inl command ↦ subst Received (sym command) (λ k e. absurd (cc e))
        | inr reply ↦ λ k e.
            let to : node.Client s.client ≡ node.Client k = sym reply.to_is ∙ e in
            let its : s.client ≡ k = cc to in inl (sym its)
      ]) (working xs ms are.1)

  -- ---- all stages

  -- each message of the queue is received so
  pub queue_received : Stage s w → AllReceived (queue_at s w)
  queue_received (Returns a) = subst AllReceived (sym a.queue) (and_all _ [] (request a.request) none_left)
  queue_received (WasReturned a) =
      subst AllReceived (sym a.queue) (and_all _ [] (answer a.answer a.answered.client_is) none_left)
  queue_received (AsksFirst a) = subst AllReceived (sym a.queue) (and_all _ [] (request a.request) none_left)
  queue_received (Recalls a) =
      subst AllReceived (sym a.queue)
      (both_all a.recalls (answer_message a.answer ∷ a.returns)
      (recalled a.left a.recalls a.are_recalls
      (λ g i. subst (In g) (sym a.all) (in_behind g a.done a.left i)) a.untouched)
      (and_all _ a.returns (answer a.answer a.answered.client_is) (returned a.done a.returns a.are_returns)))
  queue_received (AsksAgain a) =
      subst AllReceived (sym a.queue)
      (both_all (a.halves ++ a.returns) (request_message a.request ∷ a.taken_by)
      (both_all a.halves a.returns (halved a.half a.halves a.are_halves) (returned a.left a.returns a.are_returns))
      (and_all _ a.taken_by (request a.request) (taken a.done a.taken_by a.are_taken)))
  queue_received (Gets a) =
      subst AllReceived (sym a.queue)
      (both_all a.taken_by (answer_message a.answer ∷ []) (taken a.left a.taken_by a.are_taken)
      (and_all _ [] (answer a.answer a.answered.client_is) none_left))
  queue_received (Works a) = working a.waiting (queue_at s w) a.queue
  queue_received (Commits a) = subst AllReceived (sym a.queue) (and_all _ [] (request a.request) none_left)
  queue_received (WasCommitted a) =
      subst AllReceived (sym a.queue) (and_all _ [] (answer a.answer a.answered.client_is) none_left)
  queue_received (Reports a) = subst AllReceived (sym a.queue) (and_all _ [] (request a.request) none_left)
  queue_received (WasReported a) =
      subst AllReceived (sym a.queue) (and_all _ [] (answer a.answer a.answered.client_is) none_left)
