-- How a log, and a reader of one, stands on its disk.
use Rattle.std.specs.Prelude.{◌≡◌, ℕ, List, ◌∷◌, ◌++◌, length, IsTrue, Bool}
use Rattle.osd_disk.specs.Crashes.{Only}
use Rattle.gate_log.specs.Logs.{IsFront}
use Rattle.gate_log.specs.declared.log.GateLog.{GateLog}
use Rattle.gate_log.specs.declared.reader.LogReader.{LogReader}

-- The disk tells its bytes, this header and these bodies stand before a gate at this place, and a crash leaves all of that.
pub record StandsAt {D : Type 0} (tells : D → Bool) (seen : D → List ℕ) (may_leave : D → List ℕ → Type 0)
    (header : List ℕ) (bodies : List (List ℕ)) (disk : D) (at gate : ℕ) : Type 0 where
  pub told : IsTrue (tells disk)
  pub front : List ℕ
  pub is_front : IsFront header bodies front
  pub rest : List ℕ
  pub contents : seen disk ≡ front ++ gate ∷ rest
  pub place : at ≡ length front
  pub durable : Only (seen disk) (may_leave disk)

-- the disk of a log
abbrev pub disk_of : {D : Type 0} → GateLog D → D
disk_of log = log.disk

-- whether a call of the log's disk failed
abbrev pub over_of : {D : Type 0} → GateLog D → Bool
over_of log = log.is_over

-- the log has this header and these bodies, and its gate at the end is closed
abbrev pub IsAtRest : {D : Type 0} (tells : D → Bool) (seen : D → List ℕ) (may_leave : D → List ℕ → Type 0)
    (header : List ℕ) (bodies : List (List ℕ)) (log : GateLog D) → Type 0
IsAtRest tells seen may_leave header bodies log = StandsAt tells seen may_leave header bodies log.disk log.end 0

-- the disk of a reader
abbrev pub read_disk : {D : Type 0} → LogReader D → D
read_disk reader = reader.disk

-- the place that a reader has come to, which is that of a gate
abbrev pub place_of : {D : Type 0} → LogReader D → ℕ
place_of reader = reader.at

-- the gate there, which is 0 at the end of the log
abbrev pub gate_of : {D : Type 0} → LogReader D → ℕ
gate_of reader = reader.gate

-- a reader of a log with this header has read these bodies, and knows the disk's size
pub record HasRead {D : Type 0} (tells : D → Bool) (seen : D → List ℕ) (may_leave : D → List ℕ → Type 0)
    (header : List ℕ) (bodies : List (List ℕ)) (reader : LogReader D) : Type 0 where
  pub stands : StandsAt tells seen may_leave header bodies reader.disk reader.at reader.gate
  pub sized : reader.size ≡ length (seen reader.disk)

-- the header that a reader has read
abbrev pub header_of : {D : Type 0} → LogReader D → List ℕ
header_of reader = reader.header.bytes
