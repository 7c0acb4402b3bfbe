-- An image of a crash after one call more.
use Rattle.std.proofs.Common.{◌≡◌, inr, ℕ, List, [], ◌∷◌, ◌++◌, length, sym, subst}
use Rattle.osd_lists.specs.Overwrite.{overwritten}
use Rattle.osd_disk.specs.Calls.{all_done, left_by, left_after}
use Rattle.osd_disk.specs.Crashes.{Torn}
use Rattle.osd_disk.specs.Images.{Leaves}
use Rattle.osd_disk.specs.declared.calls.Call.{Call}
use Rattle.osd_disk.specs.declared.calls.Call.TheVariants.{Write, Sync, Idle}
use Rattle.osd_disk.proofs.Media.{last_left, torn_whole}

leaves_by : (call : Call) (seen left now : List ℕ) (before : List ℕ → Type 0) → before left → Leaves call seen left now →
    left_by call seen before now
leaves_by (Write at bytes) seen left now before stays torn = inr (left, stays, torn)
leaves_by Sync seen left now before stays is = is
leaves_by Idle seen left now before stays is = subst before (sym is) stays

-- the image that a call leaves of an image before it
pub image_more : (first : List ℕ) (calls : List Call) (call : Call) (left now : List ℕ) →
    left_after calls first (λ d. d ≡ first) left
    → Leaves call (all_done calls first) left now → left_after (calls ++ call ∷ []) first (λ d. d ≡ first) now
image_more first calls call left now stays leaves =
    last_left calls call first (λ d. d ≡ first) now
    (leaves_by call (all_done calls first) left now (λ d. left_after calls first (λ e. e ≡ first) d) stays leaves)

-- a range that holds other bytes, as many as were written
pub torn_filled : (at n : ℕ) (filled old new : List ℕ) → length filled ≡ n → new ≡ overwritten old at filled → Torn at n old new
torn_filled at n filled old new same is =
    subst (λ (k : ℕ). Torn at k old new) same
    (subst (λ (l : List ℕ). Torn at (length filled) old l) (sym is) (torn_whole at filled old))
