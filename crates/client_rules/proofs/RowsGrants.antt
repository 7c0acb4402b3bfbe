-- The maps and the grants of the worked rows.
use Rattle.std.specs.Prelude.{true, false, [], ◌∷◌}
use Rattle.client_rules.specs.State.{RawMap}
use Rattle.client_rules.specs.Rows.{Given, Usable}

abbrev pub rotating : RawMap
rotating = record { comps = 3; unit = 4; width = 0; depth = 0; mirrors = 0; algorithm = 3 }

abbrev pub striping : RawMap
striping = record { comps = 1; unit = 4; width = 0; depth = 0; mirrors = 0; algorithm = 1 }

abbrev pub rotating_grant : Given
rotating_grant = record {
  number = 1;
  writes = true;
  offset = 0;
  len = 8;
  map = rotating;
  components = Usable 0 65536 0 4 ∷ Usable 1 65537 0 4 ∷ Usable 2 65538 0 4 ∷ [];
}

abbrev pub striping_grant : Given
striping_grant = record { number = 1; writes = true; offset = 0; len = 4; map = striping; components = Usable 0 65536 0 4 ∷ [] }

abbrev pub reading_grant : Given
reading_grant = record { number = 2; writes = false; offset = 0; len = 4; map = striping; components = Usable 0 65536 0 4 ∷ [] }
