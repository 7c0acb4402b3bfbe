-- The WRITEs of a running write: one was performed, and those to a component that doesn't answer are given up.
-- Towards `CallsGoOn` (`specs/Steps.antt`).
use Rattle.std.proofs.Common.{◌≡◌, ◌⊎◌, ◌==◌, not, ℕ, true, List, refl, sym, ap, subst, ◌∙◌, inl, inr}
use Rattle.std.proofs.lemmas.Bool.{true≢false, eq-eqb, ne_eqb, cases_eq}
use Rattle.server_rules.specs.Laws.{In}
use Rattle.server_rules.proofs.Members.{in_filtered}
use Rattle.client_rules.specs.Commands.{others, not_of, is_of}
use Rattle.client_rules.specs.Writes.{without_component}
use Rattle.world_history.specs.ClientNames.{CallOp, Awaited, TimedOut, Store, Io}
use Rattle.fence_law.specs.State.{State}
use Rattle.fence_law.specs.State.PartState.{Sent, Done}
use Rattle.fence_law.specs.State.Event.{Learns}
use Rattle.fence_law.specs.Machine.{after}
use Rattle.file_simulation.specs.Calls.{IsAwaited, IsQueued, IsTimedOut, IsOver, PartsDiffer, IsScattering}
use Rattle.relation_law.proofs.CallsOut.{in_passed, differ_filter, two_same, two_other, writing_same}

-- ---- a WRITE was performed

passes : (b : Awaited) (nonce : ℕ) → (b.command.nonce ≡ nonce → ⊥) → not (b.command.nonce == nonce) ≡ true
passes b nonce ne = rw (ne_eqb b.command.nonce nonce ne) refl

pub in_others : (b : Awaited) (xs : List Awaited) (nonce : ℕ) → In b xs → (b.command.nonce ≡ nonce → ⊥) →
    In b (others xs nonce)
unfolding others
in_others b xs nonce i ne = in_passed (λ (a : Awaited). not (a.command.nonce == nonce)) b xs i (passes b nonce ne)

nonce_differs : (b : Awaited) (nonce : ℕ) → not (b.command.nonce == nonce) ≡ true → b.command.nonce ≡ nonce → ⊥
nonce_differs b nonce e same = true≢false (sym e ∙ ap not (eq-eqb b.command.nonce nonce same))

pub from_others : (b : Awaited) (xs : List Awaited) (nonce : ℕ) → In b (others xs nonce) →
    In b xs × (b.command.nonce ≡ nonce → ⊥)
unfolding others
from_others b xs nonce i =
    let r = in_filtered (λ (a : Awaited). not (a.command.nonce == nonce)) b xs i in (r.0, nonce_differs b nonce r.1)

sent_same : (v w : ℕ) → Sent v ≡ Sent w → v ≡ w
sent_same v w e = cc e

module _ (s : State) (c : ℕ) (op : CallOp) (io : Io) (queue : List Store) (j : ℕ) (k : IsScattering s c op io queue j)
    (n : ℕ) (a : Awaited) (there : In a io.awaited)
    (differ : (b : Awaited) → In b io.awaited → b.command.nonce ≡ a.command.nonce → b ≡ a) where
  abbrev ka : ℕ
  ka = a.ask.component

  abbrev ia : ℕ
  ia = a.ask.offset

  abbrev t : State
  t = after s (Learns c ka n a.command.nonce ia)

  done_now : t.out c ka ia ≡ Done
  done_now = two_same s.out c ka ia Done

  stays : (q i : ℕ) → (q ≡ ka → i ≡ ia → ⊥) → t.out c q i ≡ s.out c q i
  stays q i ne = two_other s.out c ka ia Done q i ne

  was : (q i : ℕ) → q ≡ ka → i ≡ ia → s.out c q i ≡ Sent a.command.nonce
  was q i x y = rw (x, y) (k.out.sent a there)

  -- an awaited WRITE with another nonce is for another part
  other_part : (b : Awaited) → In b io.awaited → (b.command.nonce ≡ a.command.nonce → ⊥) → b.ask.component ≡ ka →
      b.ask.offset ≡ ia → ⊥
  other_part b i ne x y =
      ne (sent_same b.command.nonce a.command.nonce (sym (k.out.sent b i) ∙ was b.ask.component b.ask.offset x y))

  queued_apart : (q : Store) → In q queue → q.ask.component ≡ ka → q.ask.offset ≡ ia → ⊥
  queued_apart q i x y = cc (sym (k.out.queued q i) ∙ was q.ask.component q.ask.offset x y)

  is_over : (q i : ℕ) → IsOver s c j io.timed q i → IsOver t c j io.timed q i
  is_over q i (inl done) = elim (cases_eq q ka) [
    | inl x ↦ elim (cases_eq i ia) [
      | inl y ↦ inl (rw (x, y) done_now)
      | inr y ↦ inl (stays q i (λ p r. y r) ∙ done)
    ]
    | inr x ↦ inl (stays q i (λ p r. x p) ∙ done)
  ]
  is_over q i (inr other) = inr other

  awaits_still : (q i : ℕ) → IsAwaited io.awaited q i →
      IsAwaited (others io.awaited a.command.nonce) q i ⊎ (t.out c q i ≡ Done)
  awaits_still q i (b, old, x, y) = elim (cases_eq b.command.nonce a.command.nonce) [
    | inl same ↦
        let is : b ≡ a = differ b old same in
        inr (rw (sym x ∙ ap (λ (u : Awaited). u.ask.component) is, sym y ∙ ap (λ (u : Awaited). u.ask.offset) is) done_now)
    | inr ne ↦ inl (b, in_others b io.awaited a.command.nonce old ne, x, y)
  ]

  knows_still : (q i v : ℕ) → t.out c q i ≡ Sent v →
      IsAwaited (others io.awaited a.command.nonce) q i ⊎ IsTimedOut io.timed q
  knows_still q i v e = elim (cases_eq q ka) [
    | inl x ↦ elim (cases_eq i ia) [
      | inl y ↦ absurd (not_done (rw (x, y) done_now))
      | inr y ↦ old (λ p r. y r)
    ]
    | inr x ↦ old (λ p r. x p)
  ]
    where
      not_done : t.out c q i ≡ Done → ⊥
      not_done d = cc (sym d ∙ e)

      old : (q ≡ ka → i ≡ ia → ⊥) → IsAwaited (others io.awaited a.command.nonce) q i ⊎ IsTimedOut io.timed q
      old ne = elim (k.out.known q i v (sym (stays q i ne) ∙ e)) [
        | inl b ↦ elim (awaits_still q i b) [
          | inl z ↦ inl z
          | inr d ↦ absurd (not_done d)
        ]
        | inr b ↦ inr b
      ]

  pub write_performed : IsScattering t c op (record {
    awaited = others io.awaited a.command.nonce;
    got = io.got;
    timed = io.timed;
  })
      queue j
  write_performed = record {
    writing = writing_same s t c op j refl refl refl refl refl refl k.writing;
    clip = k.clip;
    out = record {
      sent = λ b i. let r = from_others b io.awaited a.command.nonce i in
          stays b.ask.component b.ask.offset (other_part b r.0 r.1) ∙ k.out.sent b r.0;
      queued = λ q i. stays q.ask.component q.ask.offset (queued_apart q i) ∙ k.out.queued q i;
      others = λ q z v e. elim (k.out.others q z v e) [
        | inl b ↦ elim (awaits_still q ((s.start j).part q z) b) [ inl y ↦ inl y | inr d ↦ inr (inr (inl d)) ]
        | inr (inl b) ↦ inr (inl b)
        | inr (inr b) ↦ inr (inr (is_over q ((s.start j).part q z) b))
      ];
      known = knows_still;
    };
    content = k.content;
    differ = k.differ;
  }

-- ---- a component times out

module _ (s : State) (c : ℕ) (op : CallOp) (io : Io) (queue : List Store) (j : ℕ) (k : IsScattering s c op io queue j)
    (n : ℕ) (timed : List TimedOut) (more : (q : ℕ) → IsTimedOut io.timed q → IsTimedOut timed q)
    (now_timed : IsTimedOut timed n) where
  of_other : (b : Awaited) → (b.ask.component ≡ n → ⊥) → not (is_of n b) ≡ true
  of_other b ne = rw (ne_eqb b.ask.component n ne) refl

  store_other : (q : Store) → (q.ask.component ≡ n → ⊥) → not (q.ask.component == n) ≡ true
  store_other q ne = rw (ne_eqb q.ask.component n ne) refl

  left_awaited : (q i : ℕ) → IsAwaited io.awaited q i → IsAwaited (not_of n io.awaited) q i ⊎ IsTimedOut timed q
  unfolding not_of
  left_awaited q i (b, old, x, y) = elim (cases_eq b.ask.component n) [
    | inl same ↦ inr (subst (IsTimedOut timed) (sym same ∙ x) now_timed)
    | inr ne ↦ inl (b, in_passed (λ (a : Awaited). not (is_of n a)) b io.awaited old (of_other b ne), x, y)
  ]

  left_queued : (q i : ℕ) → IsQueued queue q i → IsQueued (without_component n queue) q i ⊎ IsTimedOut timed q
  unfolding without_component
  left_queued q i (b, old, x, y) = elim (cases_eq b.ask.component n) [
    | inl same ↦ inr (subst (IsTimedOut timed) (sym same ∙ x) now_timed)
    | inr ne ↦ inl (b, in_passed (λ (w : Store). not (w.ask.component == n)) b queue old (store_other b ne), x, y)
  ]

  was_awaited : (b : Awaited) → In b (not_of n io.awaited) → In b io.awaited
  unfolding not_of
  was_awaited b i = (in_filtered (λ (a : Awaited). not (is_of n a)) b io.awaited i).0

  was_queued : (q : Store) → In q (without_component n queue) → In q queue
  unfolding without_component
  was_queued q i = (in_filtered (λ (w : Store). not (w.ask.component == n)) q queue i).0

  left_differ : PartsDiffer (without_component n queue)
  unfolding without_component
  left_differ = differ_filter (λ (w : Store). not (w.ask.component == n)) queue k.differ

  over_timed : (q i : ℕ) → IsOver s c j io.timed q i → IsOver s c j timed q i
  over_timed q i (inl done) = inl done
  over_timed q i (inr (inl left)) = inr (inl left)
  over_timed q i (inr (inr t)) = inr (inr (more q t))

  pub write_timed : IsScattering s c op (record { awaited = not_of n io.awaited; got = io.got; timed = timed })
      (without_component n queue) j
  write_timed = record {
    writing = k.writing;
    clip = k.clip;
    out = record {
      sent = λ b i. k.out.sent b (was_awaited b i);
      queued = λ q i. k.out.queued q (was_queued q i);
      others = λ q z v e. elim (k.out.others q z v e) [
        | inl b ↦ elim (left_awaited q ((s.start j).part q z) b) [ inl y ↦ inl y | inr d ↦ inr (inr (inr (inr d))) ]
        | inr (inl b) ↦ elim (left_queued q ((s.start j).part q z) b) [ inl y ↦ inr (inl y) | inr d ↦ inr (inr (inr (inr d))) ]
        | inr (inr b) ↦ inr (inr (over_timed q ((s.start j).part q z) b))
      ];
      known = λ q i v e. elim (k.out.known q i v e) [
        | inl b ↦ left_awaited q i b
        | inr t ↦ inr (more q t)
      ];
    };
    content = λ q i. k.content q (was_queued q i);
    differ = left_differ;
  }
