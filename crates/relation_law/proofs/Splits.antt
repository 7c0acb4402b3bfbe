-- The WRITEs of a plan by whether they go out first: the same WRITEs in another order, so the plan's entry has them all.
-- Towards `CallsGoOn` (`relation_law/specs/Steps.antt`).
use Rattle.std.proofs.Common.{◌≡◌, ◌+◌, ◌++◌, ◌⊎◌, ℕ, true, List, [], ◌∷◌, map, refl, sym, ap, ◌∙◌, inl, inr}
use Rattle.std.proofs.lemmas.Bool.{cases_Bool}
use Rattle.stripe_plan.specs.Lost.{among}
use Rattle.server_rules.specs.Laws.{In}
use Rattle.client_rules.specs.Commands.{awaited_for, command, sealed, nonce_at, numbered, write_commands}
use Rattle.client_rules.specs.Writes.{firsts, laters}
use Rattle.world_history.specs.ClientNames.{Held, Store, TimedOut}
use Rattle.fence_law.specs.State.{Start}
use Rattle.file_simulation.specs.Calls.{PartsDiffer}
use Rattle.relation_law.specs.CallsTurns.{store_of, stores_of}
use Rattle.relation_law.proofs.CallsSends.{IsPlanned}

-- ---- one more in the middle

mid_in : (q w : Store) (xs ys : List Store) → (q ≡ w) ⊎ In q (xs ++ ys) → In q (xs ++ w ∷ ys)
mid_in q w [] ys (inl e) = inl e
mid_in q w [] ys (inr j) = inr j
mid_in q w (x ∷ xs) ys (inl e) = inr (mid_in q w xs ys (inl e))
mid_in q w (x ∷ xs) ys (inr (inl e)) = inl e
mid_in q w (x ∷ xs) ys (inr (inr j)) = inr (mid_in q w xs ys (inr j))

in_mid : (q w : Store) (xs ys : List Store) → In q (xs ++ w ∷ ys) → (q ≡ w) ⊎ In q (xs ++ ys)
in_mid q w [] ys (inl e) = inl e
in_mid q w [] ys (inr j) = inr j
in_mid q w (x ∷ xs) ys (inl e) = inr (inl e)
in_mid q w (x ∷ xs) ys (inr i) = elim (in_mid q w xs ys i) [ inl e ↦ inl e | inr j ↦ inr (inr j) ]

differ_mid : (xs ys : List Store) (w : Store) →
    ((q : Store) → In q (xs ++ ys) → q.ask.component ≡ w.ask.component → q.ask.offset ≡ w.ask.offset → ⊥) →
    PartsDiffer (xs ++ ys) → PartsDiffer (xs ++ w ∷ ys)
differ_mid [] ys w apart d = (apart, d)
differ_mid (x ∷ xs) ys w apart d = (
  λ q i c o. elim (in_mid q w xs ys i) [
    | inl e ↦
        apart x (inl refl) (sym c ∙ ap (λ (z : Store). z.ask.component) e) (sym o ∙ ap (λ (z : Store). z.ask.offset) e)
    | inr j ↦ d.0 q j c o
  ],
  differ_mid xs ys w (λ q i. apart q (inr i)) d.1,
)

-- ---- those that go out first, and the others

split_in : (seen : List ℕ) (ws : List Store) (q : Store) → In q ws → In q (firsts seen ws ++ laters seen ws)
unfolding firsts laters
split_in seen [] q i = absurd i
split_in seen (w ∷ ws) q (inl e) = elim (cases_Bool (among w.ask.component seen)) [
  | inl t ↦ rw t (mid_in q w (firsts seen ws) (laters seen ws) (inl e))
  | inr f ↦ rw f (inl e)
]
split_in seen (w ∷ ws) q (inr j) = elim (cases_Bool (among w.ask.component seen)) [
  | inl t ↦ rw t (mid_in q w (firsts seen ws) (laters seen ws) (inr (split_in seen ws q j)))
  | inr f ↦ rw f (inr (split_in (w.ask.component ∷ seen) ws q j))
]

pub join_in : (seen : List ℕ) (ws : List Store) (q : Store) → In q (firsts seen ws ++ laters seen ws) → In q ws
unfolding firsts laters
join_in seen [] q i = absurd i
join_in seen (w ∷ ws) q i = elim (cases_Bool (among w.ask.component seen)) [
  | inl t ↦ elim (in_mid q w (firsts seen ws) (laters seen ws) (rw t at i)) [
    | inl e ↦ inl e
    | inr j ↦ inr (join_in seen ws q j)
  ]
  | inr f ↦ elim (rw f at i) [
    | inl e ↦ inl e
    | inr j ↦ inr (join_in (w.ask.component ∷ seen) ws q j)
  ]
]

split_differ : (seen : List ℕ) (ws : List Store) → PartsDiffer ws → PartsDiffer (firsts seen ws ++ laters seen ws)
unfolding firsts laters
split_differ seen [] d = tt
split_differ seen (w ∷ ws) d = elim (cases_Bool (among w.ask.component seen)) [
  | inl t ↦
      rw t (differ_mid (firsts seen ws) (laters seen ws) w (λ q i. d.0 q (join_in seen ws q i)) (split_differ seen ws d.1))
  | inr f ↦ rw f (
    λ q i. d.0 q (join_in (w.ask.component ∷ seen) ws q i),
    split_differ (w.ask.component ∷ seen) ws d.1,
  )
]

pub planned_split : (x : Start) (timed : List TimedOut) (ws : List Store) → IsPlanned x timed ws →
    IsPlanned x timed (firsts [] ws ++ laters [] ws)
planned_split x timed ws p = record {
  listed = p.listed;
  covered = λ k z v e. elim (p.covered k z v e) [
    | inl q ↦ inl (q.0, split_in [] ws q.0 q.1, q.2, q.3)
    | inr n ↦ inr n
  ];
  content = λ q i. p.content q (join_in [] ws q i);
  differ = split_differ [] ws p.differ;
}

-- ---- commands carry what they are made of

store_made : (h : Held) (w : Store) (n : ℕ) → store_of (awaited_for h true w n) ≡ w
unfolding command sealed
store_made h w n = refl

numbered_stores : (h : Held) (count : ℕ) (ws : List Store) → map store_of (numbered h true count ws) ≡ ws
unfolding numbered
numbered_stores h count [] = refl
numbered_stores h count (w ∷ ws) =
    ap (λ (z : Store). z ∷ map store_of (numbered h true (count + 1) ws)) (store_made h w (nonce_at h (count + 1)))
    ∙ ap (λ (l : List Store). w ∷ l) (numbered_stores h (count + 1) ws)

pub command_stores : (h : Held) (ws : List Store) → stores_of (write_commands h ws) ≡ ws
unfolding write_commands
command_stores h ws = numbered_stores h h.count ws
