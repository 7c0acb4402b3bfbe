-- One stripe of two data units and a parity unit, of a byte each: writes and a read of one byte there, which meet the
-- premises of the laws, and what they send and give.
use Rattle.std.specs.Prelude.{◌≡◌, ℕ, ◌==◌, false, None, List, [], ◌∷◌, if◌then◌else◌}
use Rattle.data_map.specs.declared.check.RawMap.{RawMap}
use Rattle.fence_law.specs.State.{State}
use Rattle.fence_law.specs.Machine.{new_file_state}
use Rattle.stripe_plan.specs.declared.plan.Span.{Span}
use Rattle.stripe_plan.specs.declared.plan.Column.{Column}
use Rattle.stripe_plan.specs.declared.plan.Store.{Store}
use Rattle.stripe_plan.specs.declared.plan.Aim.TheVariants.{Reads}
use Rattle.stripe_plan.specs.Touched.{stripes}
use Rattle.stripe_plan.specs.Lost.{unreadable}
use Rattle.stripe_plan.specs.Words.{answer_at}
use Rattle.stripe_plan.specs.Plans.{stores}
use Rattle.stripe_plan.specs.Laws.{IsFetched}
use Rattle.plan_law.specs.FileLayout.{layout_of}
use Rattle.plan_law.specs.Got.{IsShown}
use Rattle.plan_law.specs.Guards.{IsGathered}
use Rattle.plan_law.specs.Sending.{MayScatter}

-- RAID 4 of three components, with units of a byte
abbrev pub small_map : RawMap
small_map = record { comps = 3; unit = 1; width = 0; depth = 0; mirrors = 0; algorithm = 2 }

-- the file's first byte
abbrev pub first_byte : Span
first_byte = record { offset = 0; length = 1 }

-- the byte at offset 0 of a position
abbrev pub one_byte : (position byte : ℕ) → Column
one_byte position byte = record { position = position; offset = 0; bytes = byte ∷ [] }

-- ---- a write of 7 over 5, beside which stands 9

-- the old byte and the old parity
abbrev pub old_bytes : List Column
old_bytes = one_byte 0 5 ∷ one_byte 2 12 ∷ []

-- the file's bytes before it
abbrev pub bytes_before : (l : ℕ) → ℕ
bytes_before l = if l == 0 then 5 else if l == 1 then 9 else 0

-- an object of one byte
abbrev pub one_cell : (byte z : ℕ) → ℕ
one_cell byte z = if z == 0 then byte else 0

-- the machine, where entry 0 of the log was shown them
abbrev pub shown_old : State
shown_old = record (new_file_state (layout_of small_map 1)) {
  shown = record { entry = 0; at = 0; cells = one_cell 5 } ∷ record { entry = 0; at = 2; cells = one_cell 12 } ∷ [];
}

-- the WRITE of a byte to the object of a position, which has one replica
abbrev pub byte_to : (position byte : ℕ) → Store
byte_to position byte = record {
  ask = record { stripe = 0; position = position; component = position; offset = 0; length = 1 };
  bytes = byte ∷ [];
}

-- what is sent: the byte and the new parity
abbrev pub new_bytes : List Store
new_bytes = byte_to 0 7 ∷ byte_to 2 14 ∷ []

-- the write may scatter, by old data and old parity; so it may where the other data unit is out, and then it decodes
abbrev pub ScatterIsMet : Type 0
ScatterIsMet =
    MayScatter small_map first_byte (7 ∷ []) old_bytes [] ×
    (stores small_map first_byte (7 ∷ []) old_bytes [] ≡ new_bytes) ×
    MayScatter small_map first_byte (7 ∷ []) old_bytes (1 ∷ []) ×
    (stores small_map first_byte (7 ∷ []) old_bytes (1 ∷ []) ≡ new_bytes)

-- it was gathered by what the machine showed it
abbrev pub GatherIsMet : Type 0
GatherIsMet = IsGathered small_map 1 shown_old 0 first_byte (7 ∷ []) old_bytes [] (λ k. false) bytes_before

-- ---- a read of the same byte, of which the component is out

-- the other byte and the parity
abbrev pub other_bytes : List Column
other_bytes = one_byte 1 9 ∷ one_byte 2 12 ∷ []

-- the machine, where entry 0 was shown them
abbrev pub shown_others : State
shown_others = record (new_file_state (layout_of small_map 1)) {
  shown = record { entry = 0; at = 1; cells = one_cell 9 } ∷ record { entry = 0; at = 2; cells = one_cell 12 } ∷ [];
}

-- it can be read, and is decoded
abbrev pub ReadIsMet : Type 0
ReadIsMet =
    (unreadable small_map first_byte (0 ∷ []) (stripes small_map first_byte) ≡ None) ×
    IsFetched Reads small_map first_byte other_bytes (0 ∷ []) × IsShown small_map shown_others 0 other_bytes ×
    (answer_at small_map other_bytes (0 ∷ []) 0 ≡ 5)

-- all of it
abbrev pub ExamplesAreMet : Type 0
ExamplesAreMet = ScatterIsMet × GatherIsMet × ReadIsMet
