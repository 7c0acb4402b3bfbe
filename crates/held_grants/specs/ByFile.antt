-- Held grants by their files.
use Rattle.std.specs.Prelude.{ℕ, List, [], ◌∷◌, ◌≡◌, ◌<◌}
use Rattle.client_rules.specs.declared.grants.Held.{Held}

-- all stand behind that file
abbrev pub AllBehind : (file : ℕ) → List (ℕ × Held) → Type 0
AllBehind file [] = Unit {0}
AllBehind file (e ∷ es) = (file < e.0) × AllBehind file es

-- each grant stands at its file, and files rise
abbrev pub AreByFile : List (ℕ × Held) → Type 0
AreByFile [] = Unit {0}
AreByFile (e ∷ es) = (e.0 ≡ e.1.file) × AllBehind e.0 es × AreByFile es
