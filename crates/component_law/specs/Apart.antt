-- The components of a file stand on different drives.
use Rattle.std.specs.Prelude.{◌≡◌, ℕ, false, List, [], ◌∷◌, map}
use Rattle.server_rules.specs.Numbers.{among}
use Rattle.server_rules.specs.Making.{new_server}
use Rattle.server_rules.specs.History.{Input, Adds, Act, step, state_after}
use Rattle.world_history.specs.ServerNames.{Server, File, Component, Drive}
use Rattle.component_law.specs.Words.{Each}
use Rattle.component_law.specs.Naming.{IsNamedInput}
use Rattle.component_law.specs.Sound.{IsSound}

-- no number stands twice
abbrev pub AreDifferent : List ℕ → Type 0
AreDifferent [] = Unit {0}
AreDifferent (n ∷ ns) = (among n ns ≡ false) × AreDifferent ns

-- components, present or missing, on different drives
abbrev pub AreApart : List Component → Type 0
AreApart cs = AreDifferent (map (λ (at : Component). at.drive) cs)

-- So are those of each file. A rebuild's target stands on a further drive, as a sound server has it.
pub record IsApart (s : Server) : Type 0 where
  pub drives : AreDifferent (map (λ (d : Drive). d.number) s.drives)
  pub files : Each (λ (f : File). AreApart f.kept.components) s.files

-- a drive that is added has a new number
abbrev pub IsFresh : Server → Input → Type 0
IsFresh s (Adds d) = among d.number (map (λ (e : Drive). e.number) s.drives) ≡ false
IsFresh s i = Unit {0}

-- each step leaves it so
abbrev pub EachStepIsApart : Type 0
EachStepIsApart =
    (s : Server) (chosen : List ℕ) (i : Input) → IsSound s → IsApart s → IsNamedInput i → IsFresh s i
    → IsApart (step s chosen i).state

-- so it is whatever comes to a new server, where no drive is added twice and lines can name drives and files
abbrev pub AreGiven : Server → List Act → Type 0
AreGiven s [] = Unit {0}
AreGiven s (a ∷ acts) =
    IsNamedInput a.input × IsFresh s a.input × AreGiven (step s a.chosen a.input).state acts

abbrev pub ComponentsApart : Type 0
ComponentsApart =
    (acts : List Act) → AreGiven (new_server []) acts
    → IsSound (state_after (new_server []) acts) × IsApart (state_after (new_server []) acts)
