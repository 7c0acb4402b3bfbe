-- The items of XDR (RFC 4506), as they are read.
use Rattle.std.specs.Prelude.{◌≡◌, ◌⊎◌, ◌≤◌, ℕ, ℤ, ◌+◌, List, ◌++◌, length, take, drop, slice_range, Bool, true, false, if◌then◌else◌, nat_eq, nat_lt, Option, Some, None, Result, Ok, Err, IfOk}
use Rattle.std.specs.Borrow.{Bor}
use Rattle.std.specs.Int.{Width, byte_len, w32, w64, from_be_bytes, cast_signed}
use Rattle.osd_lists.specs.Blocks.{first_nonzero}
use Rattle.xdr_codec.specs.declared.err.XdrErr.{XdrErr}
use Rattle.xdr_codec.specs.declared.err.XdrErr.TheVariants.{Short, Padding, BadBool, TooMany, Trailing, Memory}
use Rattle.xdr_codec.specs.Items.{padded, fixed_item}

-- the bytes that are left, and the place of the first of them
pub record Rest : Type 0 where
  pub left : List ℕ
  pub at : ℕ

-- what is left behind n bytes
abbrev pub behind : ℕ → Rest → Rest
behind n i = record { left = drop n i.left; at = i.at + n }

-- the second step, if the first gave a value
infixl 10 ◌>>=◌
abbrev pub ◌>>=◌ : {A B E : Type 0} → Result A E → (A → Result B E) → Result B E
Ok x >>= f = f x
Err e >>= f = Err e

-- ---- items: a value and what is left behind it, or a refusal

-- a big-endian number of a width
abbrev pub number_in : Width → Rest → Result (ℕ × Rest) XdrErr
number_in w i =
    if nat_lt (length i.left) (byte_len w) then Err (Short i.at)
    else Ok (from_be_bytes w (take (byte_len w) i.left), behind (byte_len w) i)

unfoldable pub u32_in : Rest → Result (ℕ × Rest) XdrErr
u32_in i = number_in w32 i

unfoldable pub u64_in : Rest → Result (ℕ × Rest) XdrErr
u64_in i = number_in w64 i

unfoldable pub i64_in : Rest → Result (ℤ × Rest) XdrErr
i64_in i = do
  n ← u64_in i
  Ok (cast_signed w64 n.0, n.1)

unfoldable pub bool_in : Rest → Result (Bool × Rest) XdrErr
bool_in i = do
  n ← u32_in i
  if nat_eq n.0 0 then Ok (false, n.1) else if nat_eq n.0 1 then Ok (true, n.1) else Err (BadBool i.at)

-- a length of at most `most`
unfoldable pub count_in : ℕ → Rest → Result (ℕ × Rest) XdrErr
count_in most i = do
  n ← u32_in i
  if nat_lt most n.0 then Err (TooMany i.at) else Ok n

abbrev pub unless_padding : ℕ → Option ℕ → List ℕ × Rest → Result (List ℕ × Rest) XdrErr
unless_padding at None x = Ok x
unless_padding at (Some k) x = Err (Padding (at + k))

-- the n bytes from `start` on, and zeros up to a multiple of four
unfoldable pub body_in : ℕ → ℕ → Rest → Result (List ℕ × Rest) XdrErr
body_in start n i =
    if nat_lt (length i.left) (start + padded n) then Err (Short i.at)
    else
    unless_padding i.at (first_nonzero i.left (start + n) (start + padded n))
    (slice_range i.left start (start + n), behind (start + padded n) i)

abbrev pub fixed_in : ℕ → Rest → Result (List ℕ × Rest) XdrErr
fixed_in n i = body_in 0 n i

-- the length, at most `most`, and then the body, whose end is missed where the item begins
unfoldable pub opaque_in : ℕ → Rest → Result (List ℕ × Rest) XdrErr
opaque_in most i = do
  n ← count_in most i
  body_in 4 n.0 i

unfoldable pub end_of : Rest → Result (Unit {0}) XdrErr
end_of i = if nat_eq (length i.left) 0 then Ok tt else Err (Trailing i.at)

-- ---- answers

-- the answer is the expected one; what is refused leaves the reader as it was
abbrev pub Reads : {V : Type 0} → (Rest → Result (V × Rest) XdrErr) → Rest → Result V XdrErr → Rest → Type 0
Reads reading old (Ok v) new = reading old ≡ Ok (v, new)
Reads reading old (Err e) new = (reading old ≡ Err e) × (new ≡ old)

-- the same of bytes that are read into a place, which keeps what it had where they are refused
abbrev pub ReadsInto : (Rest → Result (List ℕ × Rest) XdrErr) → Rest → List ℕ → Result (Unit {0}) XdrErr → Rest →
    List ℕ → Type 0
ReadsInto reading old before (Ok done) new out = reading old ≡ Ok (out, new)
ReadsInto reading old before (Err e) new out = (reading old ≡ Err e) × (new ≡ old) × (out ≡ before)

-- the n bytes at the front were taken
abbrev pub IsTaken : ℕ → Rest → List ℕ → Rest → Type 0
IsTaken n old front new = (n ≤ length old.left) × (front ≡ take n old.left) × (new ≡ behind n old)

-- a body's bytes and the number of bytes up to its end
abbrev pub ReadsBody : Rest → ℕ → ℕ → Result (Bor (List ℕ) × ℕ) XdrErr → Type 0
ReadsBody i start n (Ok x) =
    (body_in start n i ≡ Ok (x.0.now, behind x.1 i)) × (length x.0.now ≡ n) × (x.1 ≤ length i.left)
ReadsBody i start n (Err e) = body_in start n i ≡ Err e

-- the same, unless memory was wanting
abbrev pub ReadsOrMemory : {V : Type 0} → (Rest → Result (V × Rest) XdrErr) → Rest → Result V XdrErr → Rest → Type 0
ReadsOrMemory reading old (Ok v) new = reading old ≡ Ok (v, new)
ReadsOrMemory reading old (Err e) new = ((e ≡ Memory) ⊎ (reading old ≡ Err e)) × (new ≡ old)

-- what was read is spelled so, at the front of what was left
abbrev pub IsFront : {V : Type 0} → (V → Type 0) → (V → List ℕ) → Rest → Result V XdrErr → Rest → Type 0
IsFront Fits spelling old result new = IfOk result (λ v. Fits v × (old.left ≡ spelling v ++ new.left))

-- what is spelled so at the front is read
abbrev pub TakesFront : {V : Type 0} → (V → Type 0) → (V → List ℕ) → Rest → Result V XdrErr → Rest → Type 0
TakesFront Fits spelling old result new =
    (v : _) (more : List ℕ) → Fits v → old.left ≡ spelling v ++ more → (result ≡ Ok v) × (new.left ≡ more)

abbrev pub TakesFrontOrMemory : {V : Type 0} → (V → Type 0) → (V → List ℕ) → Rest → Result V XdrErr → Rest → Type 0
TakesFrontOrMemory Fits spelling old result new =
    (v : _) (more : List ℕ) → Fits v → old.left ≡ spelling v ++ more → (result ≡ Err Memory) ⊎
    ((result ≡ Ok v) × (new.left ≡ more))

-- bytes of a length that is known, spelled so at the front, are read into the place
abbrev pub TakesInto : ℕ → Rest → Result (Unit {0}) XdrErr → Rest → List ℕ → Type 0
TakesInto n old result new out =
    (v more : List ℕ) → length v ≡ n → old.left ≡ fixed_item v ++ more → (result ≡ Ok tt) × (out ≡ v) ×
    (new.left ≡ more)
