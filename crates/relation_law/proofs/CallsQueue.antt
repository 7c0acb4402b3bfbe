-- The queue of a running write: what goes out next is taken from it, and the rest stays.
-- Towards `CallsGoOn` (`specs/Steps.antt`).
use Rattle.std.proofs.Common.{◌≡◌, ◌==◌, not, ℕ, ◌+◌, true, false, List, [], ◌∷◌, ◌++◌, refl, sym, ap, subst, ◌∙◌, inl, inr}
use Rattle.std.proofs.lemmas.Bool.{true≢false, cases_Bool, cases_eq, eq-eqb, ne_eqb}
use Rattle.server_rules.specs.Laws.{In}
use Rattle.server_rules.proofs.Members.{in_either, in_front, in_behind, in_filtered}
use Rattle.client_rules.specs.Commands.{write_commands, numbered, command, sealed, others, not_of, is_of}
use Rattle.client_rules.specs.Writes.{next_to, without_next, without_component}
use Rattle.world_history.specs.ClientNames.{CallOp, Held, Awaited, Store, Io}
use Rattle.fence_law.specs.State.{State}
use Rattle.file_simulation.specs.Calls.{PartsDiffer, IsScattering}
use Rattle.relation_law.specs.CallsTurns.{stores_of, IsQueueBehind}
use Rattle.relation_law.proofs.CallsMoved.{none_in}
use Rattle.relation_law.proofs.CallsDone.{in_others}
use Rattle.relation_law.proofs.CallsOut.{in_passed}

-- ---- what commands carry

stores_are_from : (h : Held) (n : ℕ) (ws : List Store) → stores_of (numbered h true n ws) ≡ ws
unfolding numbered command sealed
stores_are_from h n [] = refl
stores_are_from h n (w ∷ ws) = ap (λ (xs : List Store). w ∷ xs) (stores_are_from h (n + 1) ws)

pub stores_are : (h : Held) (ws : List Store) → stores_of (write_commands h ws) ≡ ws
unfolding write_commands
stores_are h ws = stores_are_from h h.count ws

-- ---- the same WRITEs in another order

pub scattering_queue : (s : State) (c : ℕ) (op : CallOp) (io : Io) (queue other : List Store) (j : ℕ) →
    ((q : Store) → In q queue → In q other) → ((q : Store) → In q other → In q queue) → PartsDiffer other →
    IsScattering s c op io queue j → IsScattering s c op io other j
scattering_queue s c op io queue other j to from differ k = record {
  writing = k.writing;
  clip = k.clip;
  out = record {
    sent = k.out.sent;
    queued = λ q i. k.out.queued q (from q i);
    others = λ q z v e. elim (k.out.others q z v e) [
      | inl a ↦ inl a
      | inr (inl a) ↦ inr (inl (a.0, to a.0 a.1, a.2, a.3))
      | inr (inr a) ↦ inr (inr a)
    ];
    known = k.out.known;
  };
  content = λ q i. k.content q (from q i);
  differ = differ;
}

-- ---- the next WRITE to a component

-- one more among those that differ
differ_insert : (w : Store) (xs ys : List Store) → PartsDiffer (xs ++ ys) →
    ((q : Store) → In q (xs ++ ys) → q.ask.component ≡ w.ask.component → q.ask.offset ≡ w.ask.offset → ⊥) →
    PartsDiffer (xs ++ w ∷ ys)
differ_insert w [] ys k f = (f, k)
differ_insert w (x ∷ xs) ys k f = (
  λ q i a b. elim (in_either q xs (w ∷ ys) i) [
    | inl old ↦ k.0 q (in_front q xs ys old) a b
    | inr (inl is) ↦ f x (inl refl) (sym a ∙ ap (λ (z : Store). z.ask.component) is)
        (sym b ∙ ap (λ (z : Store). z.ask.offset) is)
    | inr (inr old) ↦ k.0 q (in_behind q xs ys old) a b
  ],
  differ_insert w xs ys k.1 (λ q i. f q (inr i)),
)

module _ (k : ℕ) where
  taken_to : (w : Store) (ws : List Store) → (w.ask.component == k) ≡ true →
      next_to k (w ∷ ws) ++ without_next k (w ∷ ws) ≡ w ∷ ws
  unfolding next_to without_next
  taken_to w ws e = rw e refl

  passed_over : (w : Store) (ws : List Store) → (w.ask.component == k) ≡ false →
      next_to k (w ∷ ws) ++ without_next k (w ∷ ws) ≡ next_to k ws ++ w ∷ without_next k ws
  unfolding next_to without_next
  passed_over w ws e = rw e refl

  pub next_there : (q : Store) (ws : List Store) → In q ws → In q (next_to k ws ++ without_next k ws)
  next_there q [] i = absurd i
  next_there q (w ∷ ws) i = elim (cases_Bool (w.ask.component == k)) [
    | inl t ↦ rw (taken_to w ws t) i
    | inr f ↦ rw (passed_over w ws f) (elim i [
      | inl is ↦ in_behind q (next_to k ws) (w ∷ without_next k ws) (inl is)
      | inr old ↦ elim (in_either q (next_to k ws) (without_next k ws) (next_there q ws old)) [
        | inl a ↦ in_front q (next_to k ws) (w ∷ without_next k ws) a
        | inr b ↦ in_behind q (next_to k ws) (w ∷ without_next k ws) (inr b)
      ]
    ])
  ]

  pub next_from : (q : Store) (ws : List Store) → In q (next_to k ws ++ without_next k ws) → In q ws
  unfolding next_to without_next
  next_from q [] i = i
  next_from q (w ∷ ws) i = elim (cases_Bool (w.ask.component == k)) [
    | inl t ↦ subst (λ l. In q l) (taken_to w ws t) i
    | inr f ↦
        let j : In q (next_to k ws ++ w ∷ without_next k ws) = subst (λ l. In q l) (passed_over w ws f) i in
        elim (in_either q (next_to k ws) (w ∷ without_next k ws) j) [
          | inl a ↦ inr (next_from q ws (in_front q (next_to k ws) (without_next k ws) a))
          | inr (inl is) ↦ inl is
          | inr (inr b) ↦ inr (next_from q ws (in_behind q (next_to k ws) (without_next k ws) b))
        ]
  ]

  pub next_differ : (ws : List Store) → PartsDiffer ws → PartsDiffer (next_to k ws ++ without_next k ws)
  unfolding next_to without_next
  next_differ [] d = tt
  next_differ (w ∷ ws) d = elim (cases_Bool (w.ask.component == k)) [
    | inl t ↦ rw (taken_to w ws t) d
    | inr f ↦ rw (passed_over w ws f) (differ_insert w (next_to k ws) (without_next k ws) (next_differ ws d.1)
        (λ q i. d.0 q (next_from q ws i)))
  ]

  next_is : (w : Store) (ws : List Store) → (w.ask.component == k) ≡ true → next_to k (w ∷ ws) ≡ w ∷ []
  unfolding next_to
  next_is w ws e = rw e refl

  next_on : (w : Store) (ws : List Store) → (w.ask.component == k) ≡ false → next_to k (w ∷ ws) ≡ next_to k ws
  unfolding next_to
  next_on w ws e = rw e refl

  -- nothing goes next where nothing to the component is queued
  pub none_next : (ws : List Store) → next_to k ws ≡ [] → (q : Store) → In q ws → q.ask.component ≡ k → ⊥
  none_next [] e q i x = i
  none_next (w ∷ ws) e q i x = elim (cases_Bool (w.ask.component == k)) [
    | inl t ↦ absurd (cc (sym (next_is w ws t) ∙ e))
    | inr f ↦ elim i [
      | inl is ↦ true≢false (sym (eq-eqb w.ask.component k (ap (λ (z : Store). z.ask.component) (sym is) ∙ x)) ∙ f)
      | inr old ↦ none_next ws (sym (next_on w ws f) ∙ e) q old x
    ]
  ]

-- ---- nothing stays queued where nothing is awaited

pub none_queued_performed : (awaited : List Awaited) (queue : List Store) (a : Awaited) →
    ((b : Awaited) → In b awaited → b.command.nonce ≡ a.command.nonce → b ≡ a) → IsQueueBehind awaited queue →
    others awaited a.command.nonce ≡ [] → next_to a.ask.component queue ≡ [] → without_next a.ask.component queue ≡ []
none_queued_performed awaited queue a differ behind none next =
    none_in (without_next a.ask.component queue) (λ q i.
    let there : In q queue = next_from a.ask.component q queue
    (in_behind q (next_to a.ask.component queue) (without_next a.ask.component queue) i) in
    let b = behind q there in
    elim (cases_eq b.0.command.nonce a.command.nonce) [
      | inl same ↦ none_next a.ask.component queue next q there
          (sym b.2 ∙ ap (λ (x : Awaited). x.ask.component) (differ b.0 b.1 same))
      | inr ne ↦ subst (λ l. In b.0 l) none (in_others b.0 awaited a.command.nonce b.1 ne)
    ])

queued_other : (k : ℕ) (q : Store) (queue : List Store) → In q (without_component k queue) →
    In q queue × (q.ask.component ≡ k → ⊥)
unfolding without_component
queued_other k q queue i =
    let r = in_filtered (λ (w : Store). not (w.ask.component == k)) q queue i in
    (r.0, λ e. true≢false (sym r.1 ∙ ap not (eq-eqb q.ask.component k e)))

awaits_other : (k : ℕ) (b : Awaited) (awaited : List Awaited) → In b awaited → (b.ask.component ≡ k → ⊥) →
    In b (not_of k awaited)
unfolding not_of
awaits_other k b awaited i ne =
    in_passed (λ (a : Awaited). not (is_of k a)) b awaited i (rw (ne_eqb b.ask.component k ne) refl)

pub none_queued_timed : (k : ℕ) (awaited : List Awaited) (queue : List Store) → IsQueueBehind awaited queue →
    not_of k awaited ≡ [] → without_component k queue ≡ []
none_queued_timed k awaited queue behind none =
    none_in (without_component k queue) (λ q i.
    let r = queued_other k q queue i in
    let b = behind q r.0 in
    subst (λ l. In b.0 l) none (awaits_other k b.0 awaited b.1 (λ e. r.1 (sym b.2 ∙ e))))
