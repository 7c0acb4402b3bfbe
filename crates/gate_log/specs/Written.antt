-- Logs as `append` leaves them, and what one bit that turned makes of them.
use Rattle.std.specs.Prelude.{◌≡◌, ◌<◌, ◌≤◌, ◌+◌, ◌^◌, ℕ, List, [], ◌∷◌, ◌++◌, length, bit_xor}
use Rattle.osd_lists.specs.Blocks.{IsBytes}
use Rattle.gate_log.specs.declared.entry.TheConstants.{OPEN_GATE}
use Rattle.gate_log.specs.declared.form.Form.TheVariants.{Checked}
use Rattle.gate_log.specs.declared.header.TheConstants.{HEADER_SIZE}
use Rattle.gate_log.specs.Forms.{IsBody, record_of}
use Rattle.gate_log.specs.Logs.{IsLog}

-- the bytes of records that were appended: each has its checksum, behind a gate with all its bits set
abbrev pub appended : List (List ℕ) → List ℕ
appended [] = []
appended (body ∷ bodies) = OPEN_GATE ∷ (record_of Checked body ++ appended bodies)

abbrev pub AreBodies : List (List ℕ) → Type 0
AreBodies [] = Unit {0}
AreBodies (body ∷ bodies) = IsBody body × AreBodies bodies

-- a log of which each record was appended
pub record IsAppended (header : List ℕ) (bodies : List (List ℕ)) (c : List ℕ) : Type 0 where
  pub whole : length header ≡ HEADER_SIZE
  pub are_bodies : AreBodies bodies
  pub rest : List ℕ
  pub contents : c ≡ header ++ (appended bodies ++ 0 ∷ rest)

-- bytes, and the same with one bit of the byte at a place turned
pub record Turned (at : ℕ) (old new : List ℕ) : Type 0 where
  pub before : List ℕ
  pub byte : ℕ
  pub behind : List ℕ
  pub was : old ≡ before ++ byte ∷ behind
  pub place : at ≡ length before
  pub bit : ℕ
  pub is_bit : bit < 8
  pub now : new ≡ before ++ bit_xor byte (2 ^ bit) ∷ behind

-- One bit turned in a record that was appended, or in its gate: then the contents are no log, or the same one.
abbrev pub TurnedBitShows : Type 0
TurnedBitShows =
    (header : List ℕ) (bodies : List (List ℕ)) (c d : List ℕ) (at : ℕ) → IsAppended header bodies c → IsBytes c
    → HEADER_SIZE ≤ at → at < HEADER_SIZE + length (appended bodies) → Turned at c d
    → (other : List ℕ) (others : List (List ℕ)) → IsLog other others d → (other ≡ header) × (others ≡ bodies)
