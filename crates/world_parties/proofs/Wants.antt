-- A store whose disk doesn't fail, and whose contents aren't refused, wants memory.
use Rattle.std.proofs.Common.{◌≡◌, ℕ, Result, Err, refl, arith}
use Rattle.drive_store.specs.declared.errors.StoreErr.{StoreErr}
use Rattle.drive_store.specs.declared.errors.StoreErr.TheVariants.{NotEmpty, DiskFault, NotAStore, Memory}
use Rattle.drive_store.specs.Errors.{HasErrCause, HasStoreCause, IsOfDisk, NotAStoreSays}

never : HasErrCause 0 0 DiskFault → ⊥
never cause = let rose = cause.failed refl in omega (arith, rose)

pub all_was_taken : (P : ℕ → Type 0) (e : StoreErr) → NotAStoreSays P e → ((at : ℕ) → P at → ⊥) → HasErrCause 0 0 e → e ≡ Memory
all_was_taken P (NotEmpty size) says none cause = absurd says
all_was_taken P DiskFault says none cause = absurd (never cause)
all_was_taken P (NotAStore at) says none cause = absurd (none at says)
all_was_taken P Memory says none cause = refl

pub is_want : {T : Type 0} (e : StoreErr) (r : Result T StoreErr) → r ≡ Err e → IsOfDisk e → HasStoreCause 0 0 r → e ≡ Memory
is_want (NotEmpty size) r is of cause = absurd of
is_want DiskFault r is of cause = let rose = cause.failed is in absurd (omega (arith, rose))
is_want (NotAStore at) r is of cause = absurd of
is_want Memory r is of cause = refl
