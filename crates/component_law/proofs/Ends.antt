-- What holds of a file in the middle of a step: its objects, and what was sent to them.
use Rattle.std.proofs.Common.{◌≡◌, ℕ, ◌≤◌, ◌⊎◌, Bool, true, false, List, Option, Some, None}
use Rattle.server_rules.specs.Laws.{In}
use Rattle.server_rules.specs.Going.{Going}
use Rattle.server_rules.specs.Messages.{awaited_by}
use Rattle.history_law.specs.Names.{Kept, Command, Component, Awaited, Target, Job, Work, Fetches, Stores}
use Rattle.component_law.specs.Objects.{objects_of, target_of, NoneIs, AllDiffer}
use Rattle.component_law.specs.Tagged.{fence_open, IsBehind}
use Rattle.component_law.proofs.Sent.{IsUsed, IsMine, AllMine, AllUsed}

-- ---- what holds in the middle of a step

-- what wasn't past the file at first isn't now; and what was sent wasn't sent before, or is the file's own
abbrev pub Sends : (P : ℕ → Type 0) → (k0 : Kept) → (before : List Awaited) → (next : ℕ) → Kept → List Awaited → Type 0
Sends P k0 before m k sent =
    ((c : Command) → IsBehind k0 c → IsBehind k c) × ((a : Awaited) → In a sent → In a before ⊎ IsMine P m k a)

-- so are those of its components, which differ; numbers were used from n on
abbrev pub Owns : (P : ℕ → Type 0) → (number n : ℕ) → Kept → List Awaited → Going → Type 0
Owns P number n k0 before g =
    (g.file.kept.number ≡ number) × (n ≤ g.effects.object) × AllUsed P g.effects.object g.file.kept.components
    × AllDiffer (objects_of g.file.kept.components)
    × Sends P k0 before g.effects.object g.file.kept g.effects.sent

-- and so is that of what is made anew, which is none of theirs
abbrev pub IsAim : (P : ℕ → Type 0) → (next : ℕ) → List Component → Option Target → Type 0
IsAim P m cs None = Unit {0}
IsAim P m cs (Some t) = IsUsed P m t.object × NoneIs t.object (objects_of cs)

-- no fence is open in a repair
abbrev pub is_repair : Work → Bool
is_repair (Fetches todo short) = true
is_repair (Stores todo short broken) = true
is_repair work = false

abbrev pub IsClosed : Kept → Work → Type 0
IsClosed k work = is_repair work ≡ true → fence_open k ≡ false

abbrev pub AreClosed : Kept → Option Job → Type 0
AreClosed k None = Unit {0}
AreClosed k (Some j) = IsClosed k j.work

abbrev pub Ends : (P : ℕ → Type 0) → (number n : ℕ) → Kept → List Awaited → Going → Type 0
Ends P number n k0 before g =
    Owns P number n k0 before g
    × IsAim P g.effects.object g.file.kept.components (target_of g.file.job)
    × AllMine P g.effects.object g.file.kept (awaited_by g.file.job)
    × AreClosed g.file.kept g.file.job
