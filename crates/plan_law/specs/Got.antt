-- What a call got of the columns of a file, and what the machine showed it.
use Rattle.std.specs.Prelude.{◌≡◌, ℕ, ◌<◌, List}
use Rattle.data_map.specs.declared.check.RawMap.{RawMap}
use Rattle.fence_law.specs.Words.{In}
use Rattle.fence_law.specs.State.{State, ReadReply}
use Rattle.stripe_plan.specs.declared.plan.Column.{Column}
use Rattle.stripe_plan.specs.Words.{byte_at as byte_got}
use Rattle.stripe_plan.specs.Laws.{IsGot}
use Rattle.plan_law.specs.FileLayout.{position_in, column_of_cell, word_in}

-- these data have the bytes that were got of column x; nothing is said of other columns
abbrev pub Fits : RawMap → List Column → (x : ℕ) → (d : ℕ → ℕ) → Type 0
Fits m got x d =
    (k z : ℕ) → k < m.comps → column_of_cell m k z ≡ x → IsGot got (position_in m k) z →
    byte_got got (position_in m k) z ≡ word_in m k z d

-- each byte that was got of a position is a cell of a reply that entry j of the log was shown, of a component there
abbrev pub IsShown : RawMap → State → (j : ℕ) → List Column → Type 0
IsShown m b j got =
    (p z : ℕ) → IsGot got p z →
    (reply : ReadReply) × In reply b.shown × (reply.entry ≡ j) × (reply.at < m.comps) × (position_in m reply.at ≡ p) ×
    (reply.cells z ≡ byte_got got p z)
