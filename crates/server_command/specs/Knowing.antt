-- Which objects a server keeps as made for it.
use Rattle.std.specs.Prelude.{◌≡◌, ℕ, Bool, ◌==◌, ◌&&◌, ◌||◌, Option, Some}
use Rattle.reply_matching.specs.declared.making.Creation.{Creation}
use Rattle.reply_matching.specs.declared.making.Creation.TheVariants.{Made}

-- this one besides those before, and no other
abbrev pub LearnsOne : (before now : ℕ → ℕ → Bool) → (drive object : ℕ) → Type 0
LearnsOne before now drive object = (d o : ℕ) → now d o ≡ (before d o || ((drive == d) && (object == o)))

-- that of which the drive says that it made it, and none of which it says anything else
abbrev pub Learns : (before now : ℕ → ℕ → Bool) → (drive : ℕ) → Option Creation → Type 0
Learns before now drive (Some (Made object)) = LearnsOne before now drive object
Learns before now drive said = (d o : ℕ) → now d o ≡ before d o
