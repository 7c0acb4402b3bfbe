-- What holds of a file in the middle of a step, and behind it: what was sent to its objects, and what is awaited.
use Rattle.std.proofs.Common.{◌≡◌, ◌⊎◌, ℕ, ◌≤◌, List, Option, Some, None, refl, arith}
use Rattle.server_rules.specs.Laws.{In}
use Rattle.server_rules.specs.Going.{Going}
use Rattle.server_rules.specs.Messages.{awaited_by}
use Rattle.history_law.specs.Names.{File, Awaited, Target}
use Rattle.component_law.specs.Objects.{target_of}
use Rattle.component_law.proofs.ObjectSteps.{Agree}
use Rattle.component_law.proofs.BirthSent.{IsBorn, AllBorn, AllNew, IsAsked, AllAsked}

-- ---- a file

-- and so is the object of what is made anew, which was given behind the file's first tag
abbrev pub IsAim : (birth : ℕ → ℕ) → (next first tag : ℕ) → Option Target → Type 0
IsAim birth m first t None = Unit {0}
IsAim birth m first t (Some x) = IsBorn birth m x.object t × (first ≤ birth x.object)

-- what a file has, and what its job awaits; none of its objects is older than the file
abbrev pub IsFine : (birth : ℕ → ℕ) → (next : ℕ) → File → Type 0
IsFine birth m f =
    AllBorn birth m f.kept.tag f.kept.components × IsAim birth m f.kept.first_tag f.kept.tag (target_of f.job)
    × AllAsked birth m f.kept.tag (awaited_by f.job) × AllNew birth f.kept.first_tag f.kept.components
    × (f.kept.first_tag ≤ f.kept.tag)

-- ---- numbers that are given later

pub born_later : (birth later : ℕ → ℕ) (n m o t : ℕ) → Agree birth later n → n ≤ m → IsBorn birth n o t
    → IsBorn later m o t
born_later birth later n m o t agree le x = (omega (arith, x.0, le), omega (arith, x.1, agree o x.0))

asked_later : (birth later : ℕ → ℕ) (n m t : ℕ) (a : Awaited) → Agree birth later n → n ≤ m → IsAsked birth n t a
    → IsAsked later m t a
asked_later birth later n m t a agree le x = (
  born_later birth later n m a.command.object a.command.capability.tag agree le x.0,
  λ e. let new : t ≤ birth a.command.object = x.1 e in omega (arith, new, agree a.command.object x.0.0),
)

aim_later : (birth later : ℕ → ℕ) (n m first t : ℕ) (o : Option Target) → Agree birth later n → n ≤ m
    → IsAim birth n first t o → IsAim later m first t o
aim_later birth later n m first t None agree le x = tt
aim_later birth later n m first t (Some y) agree le x =
    (born_later birth later n m y.object t agree le x.0, omega (arith, x.1, agree y.object x.0.0))

pub fine_later : (birth later : ℕ → ℕ) (n m : ℕ) (f : File) → Agree birth later n → n ≤ m → IsFine birth n f
    → IsFine later m f
fine_later birth later n m f agree le h = (
  λ o i. born_later birth later n m o f.kept.tag agree le (h.0 o i),
  aim_later birth later n m f.kept.first_tag f.kept.tag (target_of f.job) agree le h.1,
  λ a i. asked_later birth later n m f.kept.tag a agree le (h.2 a i),
  λ o i. let since : f.kept.first_tag ≤ birth o = h.3 o i in omega (arith, since, agree o (h.0 o i).0),
  h.4,
)

-- ---- in the middle of a step, and behind it

-- what was sent wasn't sent before, or is under no earlier tag than its object
abbrev pub AllSent : (birth : ℕ → ℕ) → (next : ℕ) → (before sent : List Awaited) → Type 0
AllSent birth m before sent =
    (a : Awaited) → In a sent → In a before ⊎ IsBorn birth m a.command.object a.command.capability.tag

-- the file has the numbers that it had, and the step gave none yet: its tag may still rise
abbrev pub Owns : (birth : ℕ → ℕ) → (n : ℕ) → (before : List Awaited) → Going → Type 0
Owns birth n before g =
    (g.effects.object ≡ n) × AllBorn birth g.effects.object g.file.kept.tag g.file.kept.components
    × AllSent birth g.effects.object before g.effects.sent × AllNew birth g.file.kept.first_tag g.file.kept.components
    × (g.file.kept.first_tag ≤ g.file.kept.tag)

-- and so it is of its job
abbrev pub Holds : (birth : ℕ → ℕ) → (n : ℕ) → (before : List Awaited) → Going → Type 0
Holds birth n before g =
    Owns birth n before g × IsAim birth g.effects.object g.file.kept.first_tag g.file.kept.tag (target_of g.file.job)
    × AllAsked birth g.effects.object g.file.kept.tag (awaited_by g.file.job)

-- the step may have given numbers from n on
abbrev pub Ends : (birth : ℕ → ℕ) → (n : ℕ) → (before : List Awaited) → Going → Type 0
Ends birth n before g =
    (later : ℕ → ℕ) × Agree birth later n × (n ≤ g.effects.object) × IsFine later g.effects.object g.file
    × AllSent later g.effects.object before g.effects.sent

-- it gave none
pub holds_on : (birth : ℕ → ℕ) (n : ℕ) (before : List Awaited) (g : Going) → Holds birth n before g
    → Ends birth n before g
holds_on birth n before g h = (birth, λ o less. refl, omega (arith, h.0.0), (h.0.1, h.1, h.2, h.0.3, h.0.4), h.0.2)
