-- Which grants conflict with the one that a call asks for, and which of them are left when clients give theirs back.
use Rattle.std.proofs.Common.{◌≡◌, ◌≢◌, ◌==◌, ℕ, Bool, true, false, not, List, [], ◌∷◌, filter, refl, sym, ap, subst, ◌∙◌, inl, inr, eq-eqb, ne_eqb, arith, if◌then◌else◌}
use Rattle.std.proofs.lemmas.Bool.{cases_Bool, cases_eq}
use Rattle.server_rules.specs.Grants.{overlaps, conflicts, without, against, asked}
use Rattle.server_rules.specs.Laws.{In, Apart}
use Rattle.server_rules.proofs.GrantLaws.{in_filter}
use Rattle.world_history.specs.ClientNames.{CallOp}
use Rattle.world_history.specs.ServerNames.{Kept, Grant}
use Rattle.component_law.specs.Order.{Rise}
use Rattle.exchange_law.proofs.Covered.{asked_for}

-- ---- what conflicts

-- which stripes a grant has and whose it is decide what conflicts with it
record IsAlike (g k : Grant) : Type 0 where
  client : k.client ≡ g.client
  rw_is : k.rw ≡ g.rw
  extending : k.extending ≡ g.extending
  first : k.first ≡ g.first
  end : k.end ≡ g.end

alike_conflicts : (g k x : Grant) → IsAlike g k → conflicts k x ≡ conflicts g x
unfolding conflicts overlaps
alike_conflicts g k x a = rw (a.client, a.rw_is, a.extending, a.first, a.end) refl

same_filter : (p r : Grant → Bool) (gs : List Grant) → ((x : Grant) → p x ≡ r x) → filter p gs ≡ filter r gs
same_filter p r [] same = refl
same_filter p r (g ∷ gs) same = elim (cases_Bool (r g)) [
  | inl t ↦ rw (same g, t) (ap (λ (xs : List Grant). g ∷ xs) (same_filter p r gs same))
  | inr z ↦ rw (same g, z) (same_filter p r gs same)
]

-- neither the number nor the time of the asked one matters, and of the file only its map and size
pub against_again : (gs : List Grant) (f k : Kept) (m n c now later : ℕ) (op : CallOp) → k.map ≡ f.map → k.size ≡ f.size
    → against gs (asked_for k n c later op) ≡ against gs (asked_for f m c now op)
unfolding asked
against_again gs f k m n c now later op map size =
    same_filter _ _ gs (λ x. alike_conflicts (asked_for f m c now op) (asked_for k n c later op) x (record {
      client = refl;
      rw_is = refl;
      extending = rw size refl;
      first = rw map refl;
      end = rw map refl;
    }))

-- two tests, in either order
swapped : (p r : Grant → Bool) (gs : List Grant) → filter p (filter r gs) ≡ filter r (filter p gs)
swapped p r [] = refl
swapped p r (g ∷ gs) = elim (cases_Bool (p g)) [
  | inl t ↦ elim (cases_Bool (r g)) [
    | inl u ↦ rw (t, u, t) (ap (λ (xs : List Grant). g ∷ xs) (swapped p r gs))
    | inr z ↦ rw (t, z) (swapped p r gs)
  ]
  | inr y ↦ elim (cases_Bool (r g)) [ inl u ↦ rw (u, y) (swapped p r gs) | inr z ↦ rw (y, z) (swapped p r gs) ]
]

-- without the grants of a client those conflict that did, without its own
pub against_without : (gs : List Grant) (g : Grant) (d : ℕ) → against (without gs d) g ≡ without (against gs g) d
against_without gs g d = swapped (conflicts g) (λ (x : Grant). not (x.client == d)) gs

-- the client's own grants don't count
pub against_own : (gs : List Grant) (g : Grant) → against (without gs g.client) g ≡ against gs g
unfolding conflicts
against_own [] g = refl
against_own (x ∷ gs) g = elim (cases_eq x.client g.client) [
  | inl is ↦ rw (eq-eqb x.client g.client is, eq-eqb g.client x.client (sym is)) (against_own gs g)
  | inr other ↦ rw (ne_eqb x.client g.client other) (kept (conflicts g x) (against_own gs g))
]
  where
    kept : (b : Bool) → against (without gs g.client) g ≡ against gs g
        → (if b then x ∷ against (without gs g.client) g else against (without gs g.client) g)
        ≡ (if b then x ∷ against gs g else against gs g)
    kept true e = ap (λ (xs : List Grant). x ∷ xs) e
    kept false e = e

-- ---- a client has one grant alone

rise_filter : (p : Grant → Bool) (gs : List Grant) → Rise gs → Rise (filter p gs)
rise_filter p [] r = tt
rise_filter p (g ∷ gs) r = elim (cases_Bool (p g)) [
  | inl t ↦ rw t (λ x i. r.0 x (in_filter p gs x i), rise_filter p gs r.1)
  | inr z ↦ rw z (rise_filter p gs r.1)
]

without_none : (gs : List Grant) (c : ℕ) → ((x : Grant) → In x gs → x.client ≢ c) → without gs c ≡ gs
without_none [] c none = refl
without_none (g ∷ gs) c none =
    rw (ne_eqb g.client c (none g (inl refl)))
    (ap (λ (xs : List Grant). g ∷ xs) (without_none gs c (λ x i. none x (inr i))))

-- when the first one that conflicts is given back, the others are left
pub others_left : (gs : List Grant) (g x : Grant) (xs : List Grant) → Apart gs → Rise gs → against gs g ≡ x ∷ xs
    → against (without gs x.client) g ≡ xs
others_left gs g x xs apart rise are =
    let there : (y : Grant) → In y (x ∷ xs) → In y gs = λ y i.
    in_filter (conflicts g) gs y (subst (In y) (sym are) i) in
    let order : Rise (x ∷ xs) = subst Rise are (rise_filter (conflicts g) gs rise) in
    let other : (y : Grant) → In y xs → y.client ≢ x.client = λ y i is.
    let same : y ≡ x = (apart y x (there y (inr i)) (there x (inl refl))).1 is in
    absurd (omega (arith, order.0 y i, ap (λ (z : Grant). z.number) same)) in
    against_without gs g x.client
    ∙ ap (λ (ys : List Grant). without ys x.client) are
    ∙ rw (eq-eqb x.client x.client refl) (without_none xs x.client other)
