-- The codewords, and the stripes that hold one in each column.
use Rattle.std.specs.Prelude.{◌≡◌, ℕ, ◌+◌, ◌<◌, ◌≤◌, List, [], ◌∷◌, ◌++◌, length, slice_index}
use Rattle.std.specs.List.{All, Contains}
use Rattle.parity_code.specs.declared.code.Code.{Code}
use Rattle.parity_code.specs.declared.code.Code.TheVariants.{Plain, Xor, PandQ}
use Rattle.parity_code.specs.Parity.{p_of, q_of}

-- how many bytes of parity a codeword has
abbrev pub count_of : Code → ℕ
count_of Plain = 0
count_of Xor = 1
count_of PandQ = 2

-- the data, then P, then Q
abbrev pub codeword : Code → List ℕ → List ℕ
codeword Plain ds = ds
codeword Xor ds = ds ++ (p_of ds ∷ [])
codeword PandQ ds = ds ++ (p_of ds ∷ q_of ds ∷ [])

-- the length of the rows
abbrev pub width_of : List (List ℕ) → ℕ
width_of [] = 0
width_of (row ∷ rows) = length row

-- rows of one length, of which at least one and at most 255 are data
pub record AreRows (code : Code) (rows : List (List ℕ)) : Type 0 where
  pub some : count_of code < length rows
  pub most : length rows ≤ 255 + count_of code
  pub even : All (λ row. length row ≡ width_of rows) rows

-- two columns of one length that agree at each position but the lost ones
pub record AgreeOutside (lost xs ys : List ℕ) : Type 0 where
  pub long : length xs ≡ length ys
  pub same : (j : ℕ) → ¬ Contains lost j → slice_index xs j ≡ slice_index ys j
