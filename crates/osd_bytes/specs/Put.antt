-- How far a write of several pieces came.
use Rattle.std.specs.Prelude.{ℕ}
use Rattle.osd_bytes.specs.declared.put.PutErr.{PutErr}
use Rattle.osd_bytes.specs.declared.put.PutErr.TheVariants.{WriteFault}

abbrev pub written_of : PutErr → ℕ
written_of (WriteFault n) = n
