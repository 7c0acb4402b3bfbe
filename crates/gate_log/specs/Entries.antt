-- What is written behind a closed gate.
use Rattle.std.specs.Prelude.{ℕ, ◌-◌, List, [], ◌∷◌, ◌++◌, length, take, drop}
use Rattle.gate_log.specs.declared.form.Form.TheVariants.{Checked}
use Rattle.gate_log.specs.Forms.{record_of}
use Rattle.gate_log.specs.Written.{appended}

-- records with their checksums, an open gate between any two of them, and a closed gate
abbrev pub pieces_of : List (List ℕ) → List ℕ
pieces_of [] = []
pieces_of (body ∷ others) = record_of Checked body ++ (appended others ++ 0 ∷ [])

-- one record, and a closed gate
abbrev pub piece_of : List ℕ → List ℕ
piece_of body = pieces_of (body ∷ [])

-- the body in such a piece
abbrev pub body_in : List ℕ → List ℕ
body_in piece = take (length piece - 13) (drop 8 piece)
