-- The words of a line.
use Rattle.std.specs.Prelude.{ℕ, ◌==◌, List, [], ◌∷◌, ◌++◌, Option, Some, None}
use Rattle.std.specs.Borrow.{Bor}
use Rattle.std.specs.List.{slice_split, join_with_byte}

-- the words of a line, which single spaces separate
abbrev pub words_of : List ℕ → List (List ℕ)
words_of line = slice_split (λ b. b == 32) line

-- the parts of what is left behind a separator, if anything is
abbrev pub parts_left : ℕ → Option (Bor (List ℕ)) → List (List ℕ)
parts_left separator None = []
parts_left separator (Some rest) = slice_split (λ b. b == separator) rest.now

-- words, separated by single spaces
abbrev pub spaced : List (List ℕ) → List ℕ
spaced words = join_with_byte 32 words

-- words, each behind a separator
abbrev pub behind : ℕ → List (List ℕ) → List ℕ
behind separator [] = []
behind separator (word ∷ words) = separator ∷ (word ++ behind separator words)
