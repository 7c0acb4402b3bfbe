use Rattle.std.proofs.Common.{◌≡◌, ◌+◌, ◌<◌, ◌≤◌, ℕ, drop, slice_index}
use Rattle.zone_place.specs.declared.loads.TheConstants.{MAX_DRIVES}
use Rattle.server_state.specs.Counts.{standing}
use Rattle.server_state.proofs.counts.DriveCounts.remove.Given as goal

-- those that are left are still to be taken off
abbrev pub invariant-loop-component : goal.invariant-loop-component
invariant-loop-component l =
    (d : ℕ) → d < MAX_DRIVES →
    (slice_index l.self d + standing d l.fn.components ≡ slice_index l.fn.self d + standing d
    (drop l.component-index l.fn.components))
    × (standing d l.fn.components ≤ slice_index l.fn.self d)
