-- The WRITEs of a piece, one component after the other.
use Rattle.std.proofs.Common.{◌≡◌, ℕ, suc, ◌+◌, ◌<◌, false, List, ◌∷◌, Option, Some, None, length, get_or, drop, drop-cons, refl, sym, ap, ◌∙◌, arith, inl, inr, eq-eqb}
use Rattle.std.specs.Prelude.{nat_lt, if◌then◌else◌}
use Rattle.std.proofs.lemmas.Bool.{cases_Bool}
use Rattle.data_map.specs.Striping.{group_of}
use Rattle.server_rules.specs.declared.files.Kept.{Kept}
use Rattle.server_rules.specs.declared.files.Component.{Component}
use Rattle.server_rules.specs.declared.jobs.Piece.{Piece}
use Rattle.server_rules.specs.declared.jobs.Heard.{Heard}
use Rattle.server_rules.specs.declared.jobs.Awaited.{Awaited}
use Rattle.server_rules.specs.Maps.{group_with}
use Rattle.server_rules.specs.Columns.{row_from, unit_with, wanted, end_of}
use Rattle.server_rules.specs.Pieces.{is_off, to_store, stores_from}
use Rattle.stripe_repair.specs.Pieces.{store_of}

-- a present component of the piece's group
pub store_there : (f : Kept) (p : Piece) (rows : List (List ℕ)) (heard : List Heard) (at : Component) (k nonce : ℕ) →
    at.missing ≡ false → group_with f.map k ≡ group_of f.map p.stripe →
    store_of f p rows heard at k nonce
    ≡ (if nat_lt 0 (end_of (row_from heard k p.count) (wanted f.map rows (unit_with f.map p.stripe k) p.count))
    then Some (to_store f p (row_from heard k p.count)
    (wanted f.map rows (unit_with f.map p.stripe k) p.count) k at.drive at.object nonce) else None)
unfolding store_of
store_there f p rows heard at k nonce e g = rw (e, eq-eqb (group_with f.map k) (group_of f.map p.stripe) g) refl

-- a component with a WRITE
pub with_store : (f : Kept) (p : Piece) (rows : List (List ℕ)) (heard : List Heard) (at : Component) (cs : List Component)
    (k nonce : ℕ) (w : Awaited) → store_of f p rows heard at k nonce ≡ Some w →
    stores_from f p rows heard (at ∷ cs) k nonce ≡ w ∷ stores_from f p rows heard cs (k + 1) (nonce + 1)
unfolding store_of stores_from
with_store f p rows heard at cs k nonce w e =
    elim (cases_Bool (is_off f p (row_from heard k p.count) (wanted f.map rows (unit_with f.map p.stripe k) p.count) at k)) [
      | inl off ↦ let is = rw off at e in rw off (cc is)
      | inr on ↦ absurd (cc (rw on at e))
    ]

-- and one without
pub with_none : (f : Kept) (p : Piece) (rows : List (List ℕ)) (heard : List Heard) (at : Component) (cs : List Component)
    (k nonce : ℕ) → store_of f p rows heard at k nonce ≡ None →
    stores_from f p rows heard (at ∷ cs) k nonce ≡ stores_from f p rows heard cs (k + 1) nonce
unfolding store_of stores_from
with_none f p rows heard at cs k nonce e =
    elim (cases_Bool (is_off f p (row_from heard k p.count) (wanted f.map rows (unit_with f.map p.stripe k) p.count) at k)) [
      | inl off ↦ absurd (cc (rw off at e))
      | inr on ↦ rw on refl
    ]

-- ---- from component to component

pub next_some : (f : Kept) (p : Piece) (rows : List (List ℕ)) (heard : List Heard) (cs : List Component) (i k nonce : ℕ)
    (d : Component) (o : Option Awaited) (w : Awaited) → i < length cs →
    o ≡ store_of f p rows heard (get_or cs i d) k nonce → o ≡ Some w →
    stores_from f p rows heard (drop i cs) k nonce ≡ w ∷ stores_from f p rows heard (drop (i + 1) cs) (k + 1) (nonce + 1)
next_some f p rows heard cs i k nonce d o w lt is e =
    let n : suc i ≡ i + 1 = omega arith in
    ap (λ (xs : List Component). stores_from f p rows heard xs k nonce) (drop-cons cs i d lt)
    ∙ with_store f p rows heard (get_or cs i d) (drop (suc i) cs) k nonce w (sym is ∙ e)
    ∙ ap (λ (z : ℕ). w ∷ stores_from f p rows heard (drop z cs) (k + 1) (nonce + 1)) n

pub next_none : (f : Kept) (p : Piece) (rows : List (List ℕ)) (heard : List Heard) (cs : List Component) (i k nonce : ℕ)
    (d : Component) (o : Option Awaited) → i < length cs →
    o ≡ store_of f p rows heard (get_or cs i d) k nonce → o ≡ None →
    stores_from f p rows heard (drop i cs) k nonce ≡ stores_from f p rows heard (drop (i + 1) cs) (k + 1) nonce
next_none f p rows heard cs i k nonce d o lt is e =
    let n : suc i ≡ i + 1 = omega arith in
    ap (λ (xs : List Component). stores_from f p rows heard xs k nonce) (drop-cons cs i d lt)
    ∙ with_none f p rows heard (get_or cs i d) (drop (suc i) cs) k nonce (sym is ∙ e)
    ∙ ap (λ (z : ℕ). stores_from f p rows heard (drop z cs) (k + 1) nonce) n
