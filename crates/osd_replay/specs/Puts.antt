-- What a put of several pieces leaves: all of the bytes, or a part of them where the sink failed.
use Rattle.std.specs.Prelude.{◌≡◌, ℕ, ◌<◌, Bool, true, false, List, length, take, Option}
use Rattle.std.specs.Io.KnownBytes.{Appends}
use Rattle.osd_bytes.specs.Causes.{Rose}

abbrev pub Puts : Option (List ℕ) → Option (List ℕ) → ℕ → ℕ → List ℕ → Bool → Type 0
Puts before after failed_before failed bytes true = Appends before after bytes × (failed ≡ failed_before)
Puts before after failed_before failed bytes false =
    (upto : ℕ) × (upto < length bytes) × Appends before after (take upto bytes) × Rose failed_before failed
