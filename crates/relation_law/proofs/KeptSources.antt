-- Where the last piece of a rebuild is written, there was something to make each cell of: what the target's part says.
-- Towards `KeptGoesOn` (`specs/Steps.antt`).
use Rattle.std.proofs.Common.{◌≡◌, ◌==◌, ℕ, zero, suc, ◌+◌, ◌-◌, ◌*◌, ◌/◌, ◌%◌, ◌<◌, ◌≤◌, min, List, [], refl, sym, ap, ◌∙◌, arith, inl, inr}
use Rattle.std.proofs.lemmas.Bool.{cases_eq, eq-eqb}
use Rattle.std.proofs.lemmas.Nat.{div-add-mod', mod_below}
use Rattle.data_map.specs.declared.check.RawMap.{RawMap}
use Rattle.data_map.specs.Check.{IsChecked}
use Rattle.data_map.specs.Striping.{group_of, group_width}
use Rattle.data_map.specs.Inverse.{stripe_at}
use Rattle.data_map.proofs.Inverse.{group_there}
use Rattle.data_map.proofs.Striping.{group_again}
use Rattle.server_rules.specs.declared.limits.TheConstants.{MAX_PIECE}
use Rattle.server_rules.specs.Laws.{In}
use Rattle.server_rules.specs.Maps.{group_with, pieces_from, pieces_of, pieces_along, pieces_in}
use Rattle.server_rules.proofs.Members.{in_front, in_behind, in_filter}
use Rattle.world_history.specs.ServerNames.{File, Piece, Target}
use Rattle.world_history.specs.State.{World}
use Rattle.fence_law.specs.State.{State}
use Rattle.plan_law.specs.FileLayout.{position_in}
use Rattle.plan_law.specs.Known.{HasSource}
use Rattle.plan_law.proofs.Cells.{stands_at}
use Rattle.file_simulation.specs.Jobs.{HasBegun, IsTarget}

-- a stripe has a piece
some_piece : (unit most : ℕ) → 0 < unit → 0 < most → (unit + (most - 1)) / most ≡ 0 → ⊥
some_piece unit most some wide none =
    let n : ℕ = unit + (most - 1) in
    let whole = div-add-mod' n most in
    let rest : n % most < most = mod_below n most wide in
    let zero_ : n / most * most ≡ 0 * most = ap (λ (x : ℕ). x * most) none in
    omega (arith, whole, rest, zero_, some, wide)

first_piece : (unit stripe n : ℕ) → (n ≡ 0 → ⊥) → (p : Piece) × In p (pieces_from unit stripe 0 n) × (p.stripe ≡ stripe)
unfolding pieces_from
first_piece unit stripe zero some = absurd (some refl)
first_piece unit stripe (suc n) some =
    (record { stripe = stripe; column = 0; count = min MAX_PIECE (unit - 0) }, inl refl, refl)

-- the pieces of one of some stripes are among theirs
pub along_in : (unit first n s : ℕ) → first ≤ s → s < first + n → (p : Piece) → In p (pieces_of unit s)
    → In p (pieces_along unit first n)
unfolding pieces_along
along_in unit first zero s low high p i = absurd (omega (arith, low, high))
along_in unit first (suc n) s low high p i = elim (cases_eq first s) [
  | inl same ↦ in_front p (pieces_of unit first) (pieces_along unit (first + 1) n) (rw (sym same) at i)
  | inr other ↦
      in_behind p (pieces_of unit first) (pieces_along unit (first + 1) n)
      (along_in unit (first + 1) n s (omega (arith, low, other)) (omega (arith, high)) p i)
]

piece_of : (m : RawMap) (group high s : ℕ) → 0 < m.unit → s < high → group_of m s ≡ group
    → (p : Piece) × In p (pieces_in m group high)
unfolding pieces_in
piece_of m group high s some low is =
    let x = first_piece m.unit s ((m.unit + (MAX_PIECE - 1)) / MAX_PIECE)
    (some_piece m.unit MAX_PIECE some (omega arith)) in
    let there = along_in m.unit 0 high s (omega arith) (omega (arith, low)) x.0 x.1 in (
      x.0,
      in_filter (λ (p : Piece). group_of m p.stripe == group) x.0 (pieces_along m.unit 0 high) there
          (eq-eqb (group_of m x.0.stripe) group (ap (group_of m) x.2 ∙ is)),
    )

-- the stripe of a cell stands in its component's group
pub group_here : (m : RawMap) (k z : ℕ) → IsChecked m → k < m.comps
    → group_of m (stripe_at m (position_in m k) z) ≡ group_with m k
group_here m k z c below =
    group_again m (position_in m k / group_width m) (z / m.unit) c
    (group_there m (position_in m k) c (stands_at m k c below))

pub target_sources : (s : State) (w : World) (f : File) (t : Target) → IsChecked f.kept.map → t.component < f.kept.map.comps
    → IsTarget s w f t [] → (z : ℕ) → stripe_at f.kept.map (position_in f.kept.map t.component) z < f.kept.high
    → (out : List ℕ) × HasSource f.kept.map s.gone out t.component z
target_sources s w f t c below target z low =
    let m : RawMap = f.kept.map in
    let p = piece_of m (group_with m t.component) f.kept.high (stripe_at m (position_in m t.component) z) c.some_unit low
    (group_here m t.component z c below) in
    let begun : HasBegun f t [] = record { piece = p.0; planned = p.1; done = λ i. i } in
    let r = target.source begun in
    (r.0, r.1 z)
