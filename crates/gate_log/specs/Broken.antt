-- Where contents aren't a log.
use Rattle.std.specs.Prelude.{◌≡◌, ◌<◌, ◌≤◌, ◌⊎◌, ℕ, List, ◌∷◌, ◌++◌, length}
use Rattle.gate_log.specs.declared.form.Form.{Form}
use Rattle.gate_log.specs.declared.header.TheConstants.{HEADER_SIZE}
use Rattle.gate_log.specs.Forms.{IsBody, record_of}
use Rattle.gate_log.specs.Logs.{IsFront}

-- what stands behind an open gate isn't a record, in whichever form, with a gate behind it
abbrev pub IsNoRecord : List ℕ → Type 0
IsNoRecord rest =
    (form : Form) (body : List ℕ) (next : ℕ) (behind : List ℕ) → IsBody body → rest ≡ record_of form body ++ next ∷ behind → ⊥

-- the open gate at this place has no record
pub record HasNoRecord (c : List ℕ) (at : ℕ) : Type 0 where
  pub header : List ℕ
  pub bodies : List (List ℕ)
  pub front : List ℕ
  pub is_front : IsFront header bodies front
  pub gate : ℕ
  pub open_gate : 0 < gate
  pub rest : List ℕ
  pub contents : c ≡ front ++ gate ∷ rest
  pub place : at ≡ length front
  pub no_record : IsNoRecord rest

-- contents aren't a log from this place on: they end before the first gate, or an open gate has no record
abbrev pub IsBrokenAt : List ℕ → ℕ → Type 0
IsBrokenAt c at = ((length c ≤ HEADER_SIZE) × (at ≡ HEADER_SIZE)) ⊎ HasNoRecord c at
