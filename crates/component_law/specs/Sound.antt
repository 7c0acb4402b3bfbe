-- What holds of the server's files after every step.
use Rattle.std.specs.Prelude.{◌≡◌, ◌<◌, ℕ, false, true, List, Option, Some, None}
use Rattle.scenario_text.specs.declared.names.TheConstants.{DRIVES, FILES}
use Rattle.server_rules.specs.Standing.{stood_on}
use Rattle.server_rules.specs.History.{Input, step}
use Rattle.world_history.specs.ServerNames.{Server, File, Component, Drive, Target}
use Rattle.component_law.specs.Words.{Each}
use Rattle.component_law.specs.Distinct.{AreDistinct, HaveComponents}
use Rattle.component_law.specs.Components.{is_lacking}
use Rattle.component_law.specs.Naming.{IsNamedInput}
use Rattle.component_law.specs.Objects.{target_of}

-- that component is missing until then, lines can name the drive, and no component stands or last stood there
abbrev pub IsAim : List Component → Option Target → Type 0
IsAim cs None = Unit {0}
IsAim cs (Some t) = (is_lacking cs t.component ≡ true) × (t.drive < DRIVES) × (stood_on t.drive cs ≡ false)

abbrev pub IsAimed : File → Type 0
IsAimed f = IsAim f.kept.components (target_of f.job)

-- No two files have one number, none has more components than its map, and what a rebuild makes anew is missing. Lines
-- can name the files and the drives.
pub record IsSound (s : Server) : Type 0 where
  pub distinct : AreDistinct s.files
  pub components : HaveComponents s.files
  pub aimed : Each IsAimed s.files
  pub files : Each (λ (f : File). f.kept.number < FILES) s.files
  pub drives : Each (λ (d : Drive). d.number < DRIVES) s.drives

-- each step leaves it so
abbrev pub EachStepIsSound : Type 0
EachStepIsSound =
    (s : Server) (chosen : List ℕ) (i : Input) → IsSound s → IsNamedInput i → IsSound (step s chosen i).state
