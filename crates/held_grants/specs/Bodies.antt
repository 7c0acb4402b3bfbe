-- The body of a return.
use Rattle.std.specs.Prelude.{ℕ, List}
use Rattle.layout_types.specs.declared.ioerrs.IoErr.{IoErr}
use Rattle.layout_types.specs.Spelling.{ioerrs_item}

-- the spelling of a report
abbrev pub report_item : List IoErr → List ℕ
report_item report = ioerrs_item (record { olr_ioerr_report = report })
