-- What it shows that a chain of tests let a value pass, and that two blocks state one length.
use Rattle.std.proofs.Common.{◌≡◌, ℕ, ◌<◌, ◌≤◌, ◌^◌, List, ◌++◌, length, Bool, true, false, cond, Ok, Err, refl, sym, ap, ◌∙◌}
use Rattle.std.specs.Prelude.{slice_range}
use Rattle.std.specs.Int.{w32, to_be_bytes, from_be_bytes}
use Rattle.std.proofs.lemmas.Nat.{from_be_bytes-to_be_bytes_4}
use Rattle.osd_lists.proofs.BlockLaws.{slice_range-append}
use Rattle.osd_commands.specs.declared.commands.CommandErr.{CommandErr}

pub if_ok : {X : Type 0} (b : Bool) (f : CommandErr) (y x : X) → cond b (Ok y) (Err f) ≡ Ok x → (b ≡ true) × (y ≡ x)
if_ok true f y x e = (refl, cc)
if_ok false f y x e = absurd cc

-- a stated length, and another behind which the same bytes stand
pub same_length : (xs ys : List ℕ) (a b m n : ℕ) → a ≤ b → b ≤ length xs → m < 2 ^ 32 → n < 2 ^ 32 →
    slice_range xs a b ≡ to_be_bytes w32 m → slice_range (xs ++ ys) a b ≡ to_be_bytes w32 n → m ≡ n
same_length xs ys a b m n le within low_m low_n p q =
    let same : to_be_bytes w32 m ≡ to_be_bytes w32 n = sym p ∙ sym (slice_range-append xs ys a b le within) ∙ q in
    sym (from_be_bytes-to_be_bytes_4 m low_m) ∙ ap (from_be_bytes w32) same ∙ from_be_bytes-to_be_bytes_4 n low_n
