-- What stands where something was taken out of a list.
use Rattle.std.specs.Prelude.{[]}
use Rattle.call_io.specs.State.{Column}

-- nothing that was read
abbrev pub no_column : Column
no_column = record { position = 0; offset = 0; bytes = [] }
