-- Positions and groups of a map.
use Rattle.std.proofs.Common.{◌≡◌, ◌<◌, ◌≤◌, ℕ, suc, ◌+◌, ◌-◌, ◌*◌, ◌/◌, ◌++◌, List, [], ◌∷◌, refl, sym, ap, ◌∙◌, arith, false}
use Rattle.std.specs.Prelude.{drop, slice_get, is_some, Some, None}
use Rattle.std.specs.List.{range_with_len}
use Rattle.std.proofs.lemmas.Nat.{div_below, div-mul-add}
use Rattle.std.proofs.Math.Nat.{add-mul, mul-le-mul_right}
use Rattle.data_map.specs.declared.check.RawMap.{RawMap}
use Rattle.data_map.specs.Check.{IsChecked}
use Rattle.data_map.specs.Striping.{replicas, replica_of, positions, group_width, groups}
use Rattle.client_rules.specs.Commands.{of_component}
use Rattle.client_rules.specs.Reads.{probe_each}
use Rattle.call_commands.specs.Pending.{first_among}
use Rattle.call_commands.proofs.Lists.{drop_at, snoc}
use Rattle.call_io.specs.State.{Held, Column}
use Rattle.stripe_plan.specs.declared.plan.Part.{Part}
use Rattle.stripe_plan.specs.Plans.{part_column, columns_of}
use Rattle.stripe_plan.proofs.Parities.{left}
use Rattle.stripe_plan.proofs.Steps.{none}
use Rattle.call_io.specs.Probes.{probe_unless}
use Rattle.data_map.proofs.Shape.{whole_groups}

-- the first component of a position is the position's
pub first_replica : (m : RawMap) (p : ℕ) → (p * replicas m + 0) / replicas m ≡ p
first_replica m p = div-mul-add p (replicas m) 0 (omega arith)

-- ---- numbers from p up to e

pub range_step : (p e : ℕ) → p < e → range_with_len p (e - p) ≡ p ∷ range_with_len (p + 1) (e - (p + 1))
range_step p e l = ap (range_with_len p) (left p e l)

pub range_end : (p e : ℕ) → e ≤ p → range_with_len p (e - p) ≡ []
range_end p e l = ap (range_with_len p) (none p e l)

pub probe_step : (h : Held) (out have : List ℕ) (p e : ℕ) → p < e →
    probe_each h out have p (e - p) ≡ probe_unless h out have p ++ probe_each h out have (p + 1) (e - (p + 1))
unfolding probe_each
probe_step h out have p e l = ap (probe_each h out have p) (left p e l)

pub probe_end : (h : Held) (out have : List ℕ) (p e : ℕ) → e ≤ p → probe_each h out have p (e - p) ≡ []
unfolding probe_each
probe_end h out have p e l = ap (probe_each h out have p) (none p e l)

-- ---- nothing is awaited

pub none_of : (k : ℕ) → is_some (first_among (of_component k [])) ≡ false
unfolding of_component
none_of k = refl

pub none_first : (k : ℕ) → first_among (of_component k []) ≡ None
unfolding of_component
none_first k = refl

-- ---- what was read, as of first components

pub same_column : (m : RawMap) (x : Column) (k : ℕ) (bytes : List ℕ) → k ≡ replica_of m x.position 0 → bytes ≡ x.bytes →
    part_column m (record { component = k; offset = x.offset; bytes = bytes }) ≡ x
same_column m x k bytes e b = rw (e, b, first_replica m x.position) refl

map_snoc : (m : RawMap) (ts : List Part) (t : Part) → columns_of m (ts ++ t ∷ []) ≡ columns_of m ts ++ part_column m t ∷ []
map_snoc m [] t = refl
map_snoc m (s ∷ ts) t = ap (λ xs. part_column m s ∷ xs) (map_snoc m ts t)

pub fetched_step : (m : RawMap) (got : List Column) (ts : List Part) (i : ℕ) (x : Column) (t : Part) → slice_get got i ≡ Some x →
    part_column m t ≡ x → columns_of m ts ++ drop i got ≡ got → columns_of m (ts ++ t ∷ []) ++ drop (i + 1) got ≡ got
fetched_step m got ts i x t e p h =
    ap (λ xs. xs ++ drop (i + 1) got) (map_snoc m ts t ∙ ap (λ (y : Column). columns_of m ts ++ y ∷ []) p)
    ∙ snoc (columns_of m ts) x (drop (i + 1) got)
    ∙ ap (λ xs. columns_of m ts ++ xs) (sym (drop_at got i x e))
    ∙ h
