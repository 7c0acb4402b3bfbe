-- Components of a file behind some notes, as the lines tell them.
use Rattle.std.specs.Prelude.{◌≡◌, ℕ, zero, suc, Bool, true, false, ◌==◌, List, [], ◌∷◌, Option, Some, None, if◌then◌else◌}
use Rattle.std.specs.List.{fold}
use Rattle.scenario_text.specs.declared.line.Note.TheVariants as note
use Rattle.scenario_text.specs.declared.line.Line.{Line}
use Rattle.scenario_text.specs.declared.line.Line.TheVariants as line
use Rattle.server_rules.specs.Standing.{lose_on}
use Rattle.world_history.specs.ServerNames.{Component}
use Rattle.world_history.specs.Calm.{noted}

-- ---- lists of one length

-- so are those in the same places
abbrev pub Paired : {A : Type 0} → (A → A → Type 0) → List A → List A → Type 0
Paired R [] [] = Unit {0}
Paired R (x ∷ xs) (y ∷ ys) = R x y × Paired R xs ys
Paired R xs ys = ⊥

-- on the same drive, both missing or both present; their objects may differ
abbrev pub StandAlike : Component → Component → Type 0
StandAlike a b = (a.drive ≡ b.drive) × (a.missing ≡ b.missing)

-- component k is missing, or isn't there
abbrev pub is_lacking : List Component → (k : ℕ) → Bool
is_lacking [] k = true
is_lacking (at ∷ cs) zero = at.missing
is_lacking (at ∷ cs) (suc k) = is_lacking cs k

-- ---- what lines tell

-- the components of a file behind a line
abbrev pub told_by : (file : ℕ) → List Component → Line → List Component
told_by n cs (line.Note f what) = if f == n then noted cs what else cs
told_by n cs l = cs

-- behind several
abbrev pub told_in : (file : ℕ) → List Component → List Line → List Component
told_in n cs lines = fold (told_by n) cs lines

-- a line tells of a component
abbrev pub tells_component : Line → Bool
tells_component (line.Note f (note.NoSpace k)) = true
tells_component (line.Note f (note.Reported k)) = true
tells_component (line.Note f (note.Rebuilt k d)) = true
tells_component l = false

-- a component of the file was rebuilt
abbrev pub tells_rebuilt : (file : ℕ) → Line → Bool
tells_rebuilt n (line.Note f (note.Rebuilt k d)) = f == n
tells_rebuilt n l = false

-- ---- a drive that is declared

-- the components without those on it
abbrev pub without_drive : (out : Option ℕ) → List Component → List Component
without_drive None cs = cs
without_drive (Some d) cs = lose_on d cs
