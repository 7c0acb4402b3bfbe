-- What the calls of a disk in memory make of its bytes, and what a crash may.
use Rattle.std.specs.Prelude.{◌≡◌, refl, ◌⊎◌, ℕ, zero, suc, List, [], ◌∷◌, length}
use mathlib.Core.Logic.{inl, inr}
use Rattle.osd_lists.specs.Overwrite.{overwritten}
use Rattle.osd_disk.specs.Crashes.{Torn}
use Rattle.osd_disk.specs.declared.calls.Call.{Call}
use Rattle.osd_disk.specs.declared.calls.Call.TheVariants.{Write, Sync, Idle}

-- the bytes after a call
abbrev pub done : Call → List ℕ → List ℕ
done (Write at bytes) seen = overwritten seen at bytes
done Sync seen = seen
done Idle seen = seen

-- the bytes after these calls, the first of them first
abbrev pub all_done : List Call → List ℕ → List ℕ
all_done [] seen = seen
all_done (call ∷ calls) seen = all_done calls (done call seen)

-- What a crash may leave after a call, by what was seen before it and what a crash might have left then: a write is done whole
-- or in part, and after a sync what is seen stays.
abbrev pub left_by : Call → List ℕ → (List ℕ → Type 0) → List ℕ → Type 0
left_by (Write at bytes) seen before c =
    ((c ≡ overwritten seen at bytes) × before seen) ⊎ ((d : List ℕ) × before d × Torn at (length bytes) d c)
left_by Sync seen before c = c ≡ seen
left_by Idle seen before c = before c

-- what a crash may leave after these calls
abbrev pub left_after : List Call → List ℕ → (List ℕ → Type 0) → List ℕ → Type 0
left_after [] seen before c = before c
left_after (call ∷ calls) seen before c = left_after calls (done call seen) (left_by call seen before) c

-- what a crash might have left after t of these calls, or after more of them
abbrev pub left_from : ℕ → List Call → List ℕ → (List ℕ → Type 0) → List ℕ → Type 0
left_from zero [] seen before c = before c
left_from (suc t) [] seen before c = before c
left_from zero (call ∷ calls) seen before c = before c ⊎ left_from zero calls (done call seen) (left_by call seen before) c
left_from (suc t) (call ∷ calls) seen before c = left_from t calls (done call seen) (left_by call seen before) c

-- after all of them is after some of them
pub after_is_from : (t : ℕ) (calls : List Call) (seen : List ℕ) (before : List ℕ → Type 0) (c : List ℕ) →
    left_after calls seen before c → left_from t calls seen before c
after_is_from zero [] seen before c left = left
after_is_from (suc t) [] seen before c left = left
after_is_from zero (call ∷ calls) seen before c left =
    inr (after_is_from zero calls (done call seen) (left_by call seen before) c left)
after_is_from (suc t) (call ∷ calls) seen before c left = after_is_from t calls (done call seen) (left_by call seen before) c left

-- after as many of them as there are is after all of them
pub from_last_is_after : (calls : List Call) (seen : List ℕ) (before : List ℕ → Type 0) (c : List ℕ) →
    left_from (length calls) calls seen before c → left_after calls seen before c
from_last_is_after [] seen before c left = left
from_last_is_after (call ∷ calls) seen before c left = from_last_is_after calls (done call seen) (left_by call seen before) c left

-- a crash may leave what is seen after a call
pub seen_stays : (call : Call) (seen : List ℕ) (before : List ℕ → Type 0) → before seen →
    left_by call seen before (done call seen)
seen_stays (Write at bytes) seen before stays = inl (refl, stays)
seen_stays Sync seen before stays = refl
seen_stays Idle seen before stays = stays

-- and after these calls
pub all_seen_stays : (calls : List Call) (seen : List ℕ) (before : List ℕ → Type 0) →
    before seen → left_after calls seen before (all_done calls seen)
all_seen_stays [] seen before stays = stays
all_seen_stays (call ∷ calls) seen before stays =
    all_seen_stays calls (done call seen) (left_by call seen before) (seen_stays call seen before stays)
