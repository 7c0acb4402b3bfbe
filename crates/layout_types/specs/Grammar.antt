-- The parts of a structure, as they are read: a value and what is left behind it, or a refusal.
use Rattle.std.specs.Prelude.{◌≡◌, ◌⊎◌, ⊤, ℕ, ℤ, zero, suc, List, [], ◌∷◌, ◌++◌, length, Bool, true, false, if◌then◌else◌, Option, Some, None, Result, Ok, Err}
use Rattle.std.specs.List.{flat_map}
use Rattle.xdr_codec.specs.declared.err.XdrErr.{XdrErr}
use Rattle.xdr_codec.specs.Items.{u32_item, bool_item}
use Rattle.xdr_codec.specs.Reading.{Rest, ◌>>=◌, u32_in, u64_in, i64_in, bool_in, count_in, fixed_in, opaque_in, end_of}
use Rattle.layout_types.specs.declared.err.LayoutErr.{LayoutErr}
use Rattle.layout_types.specs.declared.err.LayoutErr.TheVariants.{BadEnum, Memory}
use Rattle.layout_types.specs.declared.parts.TheConstants.{MAX_OPAQUE, MAX_MEMBERS}
use Rattle.layout_types.specs.Refusals.{of_item}

-- ---- items

abbrev pub lifted : {A : Type 0} → Result A XdrErr → Result A LayoutErr
lifted (Ok x) = Ok x
lifted (Err e) = Err (of_item e)

unfoldable pub u32_part : Rest → Result (ℕ × Rest) LayoutErr
u32_part i = lifted (u32_in i)

unfoldable pub u64_part : Rest → Result (ℕ × Rest) LayoutErr
u64_part i = lifted (u64_in i)

unfoldable pub i64_part : Rest → Result (ℤ × Rest) LayoutErr
i64_part i = lifted (i64_in i)

unfoldable pub bool_part : Rest → Result (Bool × Rest) LayoutErr
bool_part i = lifted (bool_in i)

unfoldable pub fixed_part : ℕ → Rest → Result (List ℕ × Rest) LayoutErr
fixed_part n i = lifted (fixed_in n i)

-- an opaque or a string is within its largest length
unfoldable pub opaque_part : Rest → Result (List ℕ × Rest) LayoutErr
opaque_part i = lifted (opaque_in MAX_OPAQUE i)

-- a list is within its largest length
unfoldable pub count_part : Rest → Result (ℕ × Rest) LayoutErr
count_part i = lifted (count_in MAX_MEMBERS i)

-- ---- enumerations

abbrev pub named : {V : Type 0} → ℕ → ℕ × Rest → Option V → Result (V × Rest) LayoutErr
named at n None = Err (BadEnum at n.0)
named at n (Some v) = Ok (v, n.1)

-- the value that the number stands for
unfoldable pub enum_part : {V : Type 0} → (ℕ → Option V) → Rest → Result (V × Rest) LayoutErr
enum_part of i = do
  n ← u32_part i
  named i.at n (of n.0)

-- ---- optional parts and lists

-- a bool, and where it is 1 the value
unfoldable pub optional_part : {V : Type 0} → (Rest → Result (V × Rest) LayoutErr) → Rest →
    Result (Option V × Rest) LayoutErr
optional_part part i = do
  there ← bool_part i
  if there.0 then (part there.1 >>= λ v. Ok (Some v.0, v.1)) else Ok (None, there.1)

abbrev pub optional_item : {V : Type 0} → (V → List ℕ) → Option V → List ℕ
optional_item item None = bool_item false
optional_item item (Some v) = bool_item true ++ item v

abbrev pub OptionalFits : {V : Type 0} → (V → Type 0) → Option V → Type 0
OptionalFits Fits None = ⊤
OptionalFits Fits (Some v) = Fits v

unfoldable pub members : {V : Type 0} → (Rest → Result (V × Rest) LayoutErr) → ℕ → Rest →
    Result (List V × Rest) LayoutErr
members part zero i = Ok ([], i)
members part (suc n) i = do
  v ← part i
  vs ← members part n v.1
  Ok (v.0 ∷ vs.0, vs.1)

-- the count and the members
unfoldable pub list_part : {V : Type 0} → (Rest → Result (V × Rest) LayoutErr) → Rest → Result (List V × Rest) LayoutErr
list_part part i = do
  n ← count_part i
  members part n.0 n.1

unfoldable pub list_item : {V : Type 0} → (V → List ℕ) → List V → List ℕ
list_item item vs = u32_item (length vs) ++ flat_map item vs

-- ---- whole structures

-- nothing follows
unfoldable pub whole : {V : Type 0} → (Rest → Result (V × Rest) LayoutErr) → List ℕ → Result V LayoutErr
whole part bytes = do
  v ← part (record { left = bytes; at = 0 })
  _ ← lifted (end_of v.1)
  Ok v.0

-- the spelling of no value begins with other bytes than its own: whatever stands behind these is none
abbrev pub BeginsNoOther : {V : Type 0} → (V → Type 0) → (V → List ℕ) → List ℕ → Type 0
BeginsNoOther Fits spelling bytes = (w : _) (more : List ℕ) → Fits w → spelling w ≡ bytes ++ more → more ≡ []

-- ---- answers

-- the expected value, with what is left behind it, or the expected refusal, unless memory was wanting
abbrev pub Gives : {V : Type 0} → Result (V × Rest) LayoutErr → Result V LayoutErr → Rest → Type 0
Gives expected (Ok v) new = expected ≡ Ok (v, new)
Gives expected (Err e) new = (e ≡ Memory) ⊎ (expected ≡ Err e)

-- an answer is the expected one, unless memory was wanting
abbrev pub GivesOrMemory : {A : Type 0} → Result A LayoutErr → Result A LayoutErr → Type 0
GivesOrMemory expected result = (result ≡ Err Memory) ⊎ (result ≡ expected)
