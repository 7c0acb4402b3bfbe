-- The guards of a read's and a gather's start.
-- Towards `EventsAreLawful` (`specs/Steps.antt`).
use Rattle.std.proofs.Common.{ne_eqb, ◌≡◌, ℕ, ◌+◌, ◌-◌, ◌*◌, ◌/◌, ◌%◌, ◌<◌, ◌≤◌, true, false, refl, ◌∙◌, inl, inr, arith}
use Rattle.std.specs.Prelude.{min, ◌==◌}
use Rattle.std.proofs.lemmas.Bool.{lt-ltb, le-leb}
use Rattle.std.proofs.Math.Nat.{min-le_left}
use Rattle.std.proofs.lemmas.Bool.Decides.{nat_tests}
use Rattle.data_map.specs.declared.ranges.TheConstants.{MAX_FILE_SIZE}
use Rattle.std.proofs.lemmas.Nat.{le-div, div_below, mod_below}
use Rattle.data_map.specs.declared.check.RawMap.{RawMap}
use Rattle.data_map.specs.Check.{IsChecked}
use Rattle.data_map.specs.Striping.{stripe_length, stripe_of}
use Rattle.data_map.proofs.Shape.{some_stripe}
use Rattle.stripe_plan.specs.declared.plan.Span.{Span}
use Rattle.stripe_plan.specs.Touched.{end_of}
use Rattle.client_rules.specs.Calls.{span_of, is_write}
use Rattle.client_rules.specs.Grants.{clipped, is_for}
use Rattle.world_history.specs.ClientNames.{CallOp, Held}
use Rattle.fence_law.specs.Columns.{spans}
use Rattle.fence_law.specs.State.{State}
use Rattle.fence_law.specs.State.Call.{Idle}
use Rattle.fence_law.specs.State.Event.{StartsRead}
use Rattle.fence_law.specs.Machine.{Allowed}
use Rattle.plan_law.specs.FileLayout.{layout_of, stripe_of_column}
use Rattle.plan_law.specs.Writes.{touches_column, in_range}
use Rattle.plan_law.proofs.Cells.{with_parity, is_coded, is_plain}
use Rattle.plan_law.proofs.Payloads.{range_means, any_touched}
use Rattle.plan_law.proofs.StripeColumns.{columns_have_stripes}
use Rattle.plan_law.proofs.Starts.{touch_is}
use Rattle.exchange_law.specs.Asked.{IsHeldIn}
use Rattle.exchange_law.proofs.PlaceMoving.{write_in, read_in}
use Rattle.file_simulation.specs.Grants.{covers_column}
use Rattle.file_simulation.specs.Calls.{IsHolding}

-- ---- columns of a range

-- a range that touches a column has a byte
some_byte : (m : RawMap) (r : Span) (x : ℕ) → IsChecked m → touches_column m r x ≡ true → 0 < r.length
some_byte m r x c e = elim (with_parity m) [
  | inr none ↦ let i = range_means r x (rw (is_plain m none) at e) in omega (arith, i.0, i.1)
  | inl some ↦ (any_touched m r (x / m.unit) (x % m.unit) c (mod_below x m.unit c.some_unit) (rw (is_coded m some) at e)).2
]

-- a column that a range inside some stripes touches is of these stripes
pub column_covered : (m : RawMap) (r : Span) (first end x : ℕ) → IsChecked m → first * stripe_length m ≤ r.offset →
    end_of r ≤ end * stripe_length m → touches_column m r x ≡ true → covers_column m first end x ≡ true
column_covered m r first end x c low high e =
    let t = (columns_have_stripes m c).2 r x e in
    let some = some_byte m r x c e in
    let below : stripe_of m (end_of r - 1) < end =
    div_below (end_of r - 1) (stripe_length m) end (some_stripe m c) (omega (arith, high, some)) in
    let above : first ≤ stripe_of m r.offset = le-div first r.offset (stripe_length m) (some_stripe m c) low in
    rw (
      le-leb first (stripe_of_column m x) (omega (arith, above, t.0)),
      lt-ltb (stripe_of_column m x) end (omega (arith, below, t.1)),
    ) refl

-- a grant that a client holds covers the columns of what lies in its bytes
pub grant_covers : (m : RawMap) (s : State) (c : ℕ) (h : Held) (r : Span) (x : ℕ) → IsChecked m → (k : IsHolding m s c h) →
    IsHeldIn h.reach r → touches_column m r x ≡ true → k.grant.covers x ≡ true
grant_covers m s c h r x ch k i e =
    let g = k.same.given in
    let a = k.same.agrees in
    let low : g.first * stripe_length m ≤ r.offset = omega (arith, a.first, i.0) in
    let high : end_of r ≤ g.end * stripe_length m =
    omega (arith, a.end, i.1, min-le_left (g.end * stripe_length m) MAX_FILE_SIZE) in
    k.same.same.covers x ∙ column_covered m r g.first g.end x ch low high e

-- ---- a read

-- a position of a read's range below the size is one of the clipped range
in_clipped : (size p : ℕ) (r : Span) → spans r.offset (min (r.offset + r.length) size - r.offset) p ≡ true →
    in_range (clipped size r) p ≡ true
in_clipped size p r e = e

pub read_may_start : (m : RawMap) (tag : ℕ) (s : State) (c : ℕ) (h : Held) (op : CallOp) → IsChecked m →
    s.layout ≡ layout_of m tag →
    (k : IsHolding m s c h) → s.call c ≡ Idle → is_write op ≡ false → is_for h.reach h.size op ≡ true →
    Allowed s (StartsRead c k.grant (span_of op).offset ((span_of op).offset + (span_of op).length)
    (touches_column h.map (clipped h.size (span_of op))))
unfolding is_for
read_may_start m tag s c h op ch lay k idle reads covers =
    let map : h.map ≡ m = k.same.agrees.map in
    record {
      has = k.held;
      idle = idle;
      within = λ x e. let t = rw map at e in
          grant_covers m s c h (clipped h.size (span_of op)) x ch k
          (read_in h.reach h.size (span_of op) (rw reads at covers) (some_length _ (some_byte m _ x ch t))) t;
      reaches =
          λ p e. rw (map, lay)
          (touch_is m (clipped h.size (span_of op)) p ch (in_clipped h.size p (span_of op) (rw k.size at e)));
    }
  where
    some_length : (n : ℕ) → 0 < n → (n == 0) ≡ false
    some_length n l = ne_eqb n 0 (λ e. absurd (omega (arith, l, e)))

-- ---- a gather

-- a range without a position
spans_none : (p size : ℕ) → spans 0 (min 0 size - 0) p ≡ true → ⊥
spans_none p size e = grind (arith, nat_tests, e)

pub gather_may_start : (m : RawMap) (tag : ℕ) (s : State) (c : ℕ) (h : Held) (op : CallOp) → IsChecked m →
    s.layout ≡ layout_of m tag →
    (k : IsHolding m s c h) → s.call c ≡ Idle → is_write op ≡ true → is_for h.reach h.size op ≡ true →
    Allowed s (StartsRead c k.grant 0 0 (touches_column h.map (span_of op)))
unfolding is_for
gather_may_start m tag s c h op ch lay k idle writes covers =
    let map : h.map ≡ m = k.same.agrees.map in
    record {
      has = k.held;
      idle = idle;
      within =
          λ x e. grant_covers m s c h (span_of op) x ch k (write_in h.reach h.size (span_of op) (rw writes at covers)).1
          (rw map at e);
      reaches = λ p e. absurd (spans_none p (s.known_size c) e);
    }
