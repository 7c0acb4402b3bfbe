-- What the bytes of a log stand for: a header, then a record behind each open gate, up to the first closed gate.
use Rattle.std.specs.Prelude.{◌≡◌, ◌<◌, ℕ, List, [], ◌∷◌, ◌++◌, length, map}
use Rattle.gate_log.specs.declared.form.Form.{Form}
use Rattle.gate_log.specs.declared.header.TheConstants.{HEADER_SIZE}
use Rattle.gate_log.specs.Forms.{IsBody, record_of}

-- a gate, and the body behind it in its form
pub record Gated : Type 0 where
  pub gate : ℕ
  pub form : Form
  pub body : List ℕ

-- gates with the records behind them, one after another
abbrev pub records_of : List Gated → List ℕ
records_of [] = []
records_of (r ∷ rs) = r.gate ∷ (record_of r.form r.body ++ records_of rs)

-- the gate is open, and the body is one that a record may have
pub record IsRecord (r : Gated) : Type 0 where
  pub open_gate : 0 < r.gate
  pub is_body : IsBody r.body

abbrev pub AreRecords : List Gated → Type 0
AreRecords [] = Unit {0}
AreRecords (r ∷ rs) = IsRecord r × AreRecords rs

abbrev pub bodies_of : List Gated → List (List ℕ)
bodies_of rs = map (λ (r : Gated). r.body) rs

-- the bytes before a closed gate: this header, and these bodies behind open gates
pub record IsFront (header : List ℕ) (bodies : List (List ℕ)) (front : List ℕ) : Type 0 where
  pub whole : length header ≡ HEADER_SIZE
  pub records : List Gated
  pub are_records : AreRecords records
  pub bodies_are : bodies_of records ≡ bodies
  pub front_is : front ≡ header ++ records_of records

-- The contents are a log with this header and these bodies: a closed gate stands behind them, and whatever follows it isn't
-- looked at.
pub record IsLog (header : List ℕ) (bodies : List (List ℕ)) (c : List ℕ) : Type 0 where
  pub front : List ℕ
  pub is_front : IsFront header bodies front
  pub rest : List ℕ
  pub contents : c ≡ front ++ 0 ∷ rest
