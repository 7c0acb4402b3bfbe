-- The parts of a message, as they are read: a value and what is left behind it, or a refusal.
use Rattle.std.specs.Prelude.{◌≡◌, ◌⊎◌, ℕ, zero, suc, List, [], ◌∷◌, Bool, if◌then◌else◌, nat_eq, Option, Some, None, Result, Ok, Err}
use Rattle.xdr_codec.specs.Reading.{Rest, ◌>>=◌, opaque_in, end_of}
use Rattle.layout_types.specs.declared.err.LayoutErr.{LayoutErr}
use Rattle.layout_types.specs.Grammar.{lifted, u32_part, u64_part, bool_part, count_part}
use Rattle.layout_ops.specs.declared.err.OpErr.{OpErr}
use Rattle.layout_ops.specs.declared.err.OpErr.TheVariants.{UnknownOp, WrongLayoutType, WrongReturn, Memory}
use Rattle.layout_ops.specs.declared.operation.Operation.{Operation}
use Rattle.layout_ops.specs.declared.statuses.TheConstants.{LAYOUT4_OSD2_OBJECTS, LAYOUT4_RET_REC_FILE, OP_CB_LAYOUTRECALL}
use Rattle.layout_ops.specs.Refusals.{of_layout}
use Rattle.layout_ops.specs.Enumerations.{operation_of}

-- ---- what structures have too

abbrev pub carried : {A : Type 0} → Result A LayoutErr → Result A OpErr
carried (Ok x) = Ok x
carried (Err e) = Err (of_layout e)

unfoldable pub u32_field : Rest → Result (ℕ × Rest) OpErr
u32_field i = carried (u32_part i)

unfoldable pub u64_field : Rest → Result (ℕ × Rest) OpErr
u64_field i = carried (u64_part i)

unfoldable pub bool_field : Rest → Result (Bool × Rest) OpErr
bool_field i = carried (bool_part i)

-- an opaque of at most `most` bytes
unfoldable pub opaque_field : ℕ → Rest → Result (List ℕ × Rest) OpErr
opaque_field most i = carried (lifted (opaque_in most i))

-- the count of a list, which is within the largest length
unfoldable pub count_field : Rest → Result (ℕ × Rest) OpErr
count_field i = carried (count_part i)

-- ---- numbers that decide

abbrev pub as_expected : ℕ → (ℕ → OpErr) → ℕ × Rest → Result (Unit {0} × Rest) OpErr
as_expected expected refusal n = if nat_eq n.0 expected then Ok (tt, n.1) else Err (refusal n.0)

-- the layout type of object-based storage
unfoldable pub layout_type_in : Rest → Result (Unit {0} × Rest) OpErr
layout_type_in i = u32_field i >>= as_expected LAYOUT4_OSD2_OBJECTS WrongLayoutType

-- a return or a recall of a file's layouts
unfoldable pub file_kind_in : Rest → Result (Unit {0} × Rest) OpErr
file_kind_in i = u32_field i >>= as_expected LAYOUT4_RET_REC_FILE WrongReturn

-- CB_LAYOUTRECALL
unfoldable pub recall_op_in : Rest → Result (Unit {0} × Rest) OpErr
recall_op_in i = u32_field i >>= as_expected OP_CB_LAYOUTRECALL UnknownOp

abbrev pub known : ℕ × Rest → Option Operation → Result (Operation × Rest) OpErr
known n None = Err (UnknownOp n.0)
known n (Some operation) = Ok (operation, n.1)

unfoldable pub operation_in : Rest → Result (Operation × Rest) OpErr
operation_in i = u32_field i >>= λ n. known n (operation_of n.0)

-- ---- lists

unfoldable pub members : {V : Type 0} → (Rest → Result (V × Rest) OpErr) → ℕ → Rest → Result (List V × Rest) OpErr
members part zero i = Ok ([], i)
members part (suc n) i = do
  v ← part i
  vs ← members part n v.1
  Ok (v.0 ∷ vs.0, vs.1)

-- the count and the members
unfoldable pub list_in : {V : Type 0} → (Rest → Result (V × Rest) OpErr) → Rest → Result (List V × Rest) OpErr
list_in part i = count_field i >>= λ n. members part n.0 n.1

-- ---- whole messages

-- nothing follows
unfoldable pub whole : {V : Type 0} → (Rest → Result (V × Rest) OpErr) → List ℕ → Result V OpErr
whole part bytes = do
  v ← part (record { left = bytes; at = 0 })
  _ ← carried (lifted (end_of v.1))
  Ok v.0

-- ---- answers

-- the expected value, with what is left behind it, or the expected refusal, unless memory was wanting
abbrev pub Gives : {V : Type 0} → Result (V × Rest) OpErr → Result V OpErr → Rest → Type 0
Gives expected (Ok v) new = expected ≡ Ok (v, new)
Gives expected (Err e) new = (e ≡ Memory) ⊎ (expected ≡ Err e)

-- an answer is the expected one, unless memory was wanting
abbrev pub GivesOrMemory : {A : Type 0} → Result A OpErr → Result A OpErr → Type 0
GivesOrMemory expected result = (result ≡ Err Memory) ⊎ (result ≡ expected)
