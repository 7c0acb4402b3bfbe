use Rattle.std.proofs.Common.{◌≡◌, ℕ, ◌++◌, drop}
use Rattle.data_map.specs.Striping.{parities}
use Rattle.stripe_plan.specs.Encoded.{AreParities, parity_columns}
use Rattle.stripe_plan.proofs.outs.push_parity.Given as goal

abbrev pub invariant-loop-j : goal.invariant-loop-j
invariant-loop-j l =
    (f : ℕ → ℕ → ℕ) → AreParities (parities l.fn.map) l.fn.intervals f l.fn.parity →
    l.made ++ parity_columns l.fn.map l.fn.stripe l.fn.position f l.fn.row
    (drop l.j l.fn.intervals) ≡ l.fn.made ++ parity_columns l.fn.map l.fn.stripe l.fn.position f l.fn.row l.fn.intervals
