-- How a record is written behind its gate, in the form of this version or in the earlier one.
use Rattle.std.specs.Prelude.{◌<◌, ◌≤◌, ℕ, ◌+◌, ◌-◌, List, [], ◌++◌, length}
use Rattle.std.specs.Int.{w32, to_be_bytes}
use Rattle.gate_log.specs.declared.checksum.TheConstants.{ALL_ONES}
use Rattle.gate_log.specs.declared.entry.TheConstants.{MAX_BODY}
use Rattle.gate_log.specs.declared.form.Form.{Form}
use Rattle.gate_log.specs.declared.form.Form.TheVariants.{Plain, Checked}
use Rattle.gate_log.specs.Checksum.{crc_32}

-- a body that a record may have
pub record IsBody (body : List ℕ) : Type 0 where
  pub some : 0 < length body
  pub fits : length body ≤ MAX_BODY

-- the number of 32 bits with the other bits set
abbrev pub complement : ℕ → ℕ
complement n = ALL_ONES - n

-- before the body: its length, and in front of that the length's complement where a checksum follows
abbrev pub head_of : Form → ℕ → List ℕ
head_of Plain len = to_be_bytes w32 len
head_of Checked len = to_be_bytes w32 (complement len) ++ to_be_bytes w32 len

-- behind the body: its checksum
abbrev pub tail_of : Form → List ℕ → List ℕ
tail_of Plain body = []
tail_of Checked body = to_be_bytes w32 (crc_32 body)

-- how long they are
abbrev pub head_size : Form → ℕ
head_size Plain = 4
head_size Checked = 8

abbrev pub tail_size : Form → ℕ
tail_size Plain = 0
tail_size Checked = 4

-- how long a record is whose body has this length, and what stands behind its head, up to the next gate and with it
abbrev pub size_of : Form → ℕ → ℕ
size_of form len = head_size form + len + tail_size form

abbrev pub block_size : Form → ℕ → ℕ
block_size form len = len + tail_size form + 1

-- the bytes of a record
abbrev pub record_of : Form → List ℕ → List ℕ
record_of form body = head_of form (length body) ++ (body ++ tail_of form body)
