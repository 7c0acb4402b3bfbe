-- The value of a word by a table.
use Rattle.std.specs.Prelude.{ℕ, if◌then◌else◌, List, [], ◌∷◌, Option, Some, None}
use Rattle.std.specs.Str.{bytes_eq}

-- the value of a word in a table, of which the first entry counts
abbrev pub word_in : {K : Type 0} → List (List ℕ × K) → List ℕ → Option K
word_in [] word = None
word_in (entry ∷ table) word = if bytes_eq word entry.0 then Some entry.1 else word_in table word
