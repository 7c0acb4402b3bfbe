-- What is said of the columns of a file: which data agree with what is there, and whether a column is torn or short.
use Rattle.std.specs.Prelude.{◌≡◌, ℕ, nat_le, nat_lt, ◌+◌, ◌<◌, ◌≤◌, Bool, true, false, ◌&&◌, Option, Some, None, ◌⊎◌}
use Rattle.fence_law.specs.Words.{In, over}
use Rattle.fence_law.specs.State.{State, Layout, RequestKind, ReadReply}
use Rattle.fence_law.specs.State.RequestKind.{Get, Return}

-- the positions from lo on, n of them
abbrev pub spans : ℕ → ℕ → ℕ → Bool
spans lo n p = nat_le lo p && nat_lt p (lo + n)

-- d, and what was seen where d has nothing
abbrev pub overlaid : (ℕ → Option ℕ) → (ℕ → ℕ) → ℕ → ℕ
overlaid d seen p = over true (d p) (seen p)

-- a value where a flag is set
abbrev pub only : Bool → ℕ → Option ℕ
only true v = Some v
only false v = None

-- what a write sends to the cells that it hits
abbrev pub payload : Layout → (ℕ → ℕ → Bool) → (ℕ → Option ℕ) → (ℕ → ℕ) → ℕ → ℕ → Option ℕ
payload m hit d seen k z = only (hit k z) (m.word k z (overlaid d seen))

-- data of bytes
abbrev pub AreBytes : (ℕ → ℕ) → Type 0
AreBytes d = (q : ℕ) → d q < 256

-- data that agree with every reply of this call in this column
abbrev pub Agrees : State → ℕ → ℕ → (ℕ → ℕ) → Type 0
Agrees b j x d = (r : ReadReply) → In r b.shown → r.entry ≡ j → (z : ℕ) → b.layout.is_cell r.at z ≡ true →
    b.layout.cell_col r.at z ≡ x → r.cells z ≡ b.layout.word r.at z d

-- data that agree with every component of this column that isn't lost
abbrev pub Stands : State → ℕ → (ℕ → ℕ) → Type 0
Stands b x d = (k z : ℕ) → b.layout.is_cell k z ≡ true → b.layout.cell_col k z ≡ x → b.lost k ≡ false →
    b.cell k z ≡ b.layout.word k z d

-- a byte of which every copy is lost, or a parity of which every replica is
abbrev pub Short : State → ℕ → Type 0
Short b x = (k z : ℕ) × (b.layout.is_cell k z ≡ true) × (b.layout.cell_col k z ≡ x) ×
    ((f y : ℕ) → b.layout.is_cell f y ≡ true → b.layout.cell_col f y ≡ x → b.layout.position f ≡ b.layout.position k →
    b.lost f ≡ true)

-- nothing was left of the column
abbrev pub Gone : State → ℕ → Type 0
Gone b x = (k z : ℕ) → b.layout.is_cell k z ≡ true → b.layout.cell_col k z ≡ x → b.gone k ≡ true

-- data that agree with every component that there was in this column when this phase of the job began
abbrev pub Stood : State → ℕ → (ℕ → ℕ) → Type 0
Stood b x d = (k z : ℕ) → b.layout.is_cell k z ≡ true → b.layout.cell_col k z ≡ x → b.gone k ≡ false →
    b.cell k z ≡ b.layout.word k z d

-- no write ever touched the column
abbrev pub Untouched : State → ℕ → Type 0
Untouched b x = (j : ℕ) → j < b.count → (b.start j).is_write ≡ true → (b.start j).touch x ≡ false

-- a part of a write that isn't acknowledged was performed in this column since it was repaired
abbrev pub Disturbed : State → ℕ → Type 0
Disturbed b x =
    (j k z v : ℕ) × (b.repaired_at x ≤ j) × (j < b.count) × ((b.start j).is_write ≡ true) × (b.acknowledged j ≡ false) ×
    ((b.start j).content k z ≡ Some v) × (b.layout.cell_col k z ≡ x) × (b.layout.is_cell k z ≡ true) ×
    (b.applied j k z ≡ true)

-- and its grant is over
abbrev pub Torn : State → ℕ → Type 0
Torn b x =
    (j k z v : ℕ) × (b.repaired_at x ≤ j) × (j < b.count) × ((b.start j).is_write ≡ true) × (b.acknowledged j ≡ false) ×
    ((b.start j).content k z ≡ Some v) × (b.layout.cell_col k z ≡ x) × (b.layout.is_cell k z ≡ true) ×
    (b.applied j k z ≡ true) × ((b.start j).tag < b.tag)

-- no column with parity is both torn and short
abbrev pub IsCalm : State → Type 0
IsCalm b = (x : ℕ) → b.layout.coded x ≡ true → Torn b x → Short b x → ⊥

-- not a clean return, which the server never refuses
abbrev pub NotClean : RequestKind → Type 0
NotClean (Get rw) = Unit {0}
NotClean (Return true) = ⊥
NotClean (Return false) = Unit {0}

-- each component that isn't lost has replied that it has the next tag
abbrev pub HaveNextTag : State → Type 0
HaveNextTag b = (k : ℕ) → k < b.layout.components → (b.lost k ≡ true) ⊎ In (k, b.tag + 1) b.tag_replies
