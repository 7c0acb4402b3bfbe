-- RAID 5 with a missing component: writes and reads in its stripes, and of its own bytes.
use Rattle.std.specs.Prelude.{◌≡◌, refl, List, [], ◌∷◌, true}
use Rattle.client_rules.specs.State.{Write, Read, WriteOk, ReadOk, Nothing, TheServer, ADrive}
use Rattle.client_rules.specs.Steps.{new_client}
use Rattle.client_rules.specs.History.{Calls}
use Rattle.client_rules.specs.Rows.{Event, Given, Usable, Missing, done, on, ends, answers, gives_layout, has_read, has_written, asks_to_write, reads, writes}
use Rattle.client_rules.proofs.Opened.{opened}
use Rattle.client_rules.proofs.RowsGrants.{rotating}

abbrev first_grant : Given
first_grant =
    record {
      number = 1;
      writes = true;
      offset = 0;
      len = 8;
      map = rotating;
      components =
          Usable 0 65536 0 4 ∷ Missing 1 65537 ∷ Usable 2 65538 0 4 ∷ [];
    }

abbrev events : List Event
events =
    on (Calls (Write 0 0 (255 ∷ []))) TheServer (asks_to_write 1 0 0 1 ∷ []) ∷
    on (answers 1 0 0 8 (gives_layout first_grant)) (ADrive 0) (reads first_grant 0 1 0 1 ∷ reads first_grant 2 2 0 1 ∷ []) ∷
    on (has_read first_grant 0 1 (1 ∷ [])) (ADrive 2) [] ∷
    on (has_read first_grant 2 2 (4 ∷ [])) (ADrive 0)
    (writes first_grant 0 3 0 (255 ∷ []) ∷ writes first_grant 2 4 0 (250 ∷ []) ∷ []) ∷
    on (has_written first_grant 0 3) (ADrive 2) [] ∷
    ends (has_written first_grant 2 4) (WriteOk 1) Nothing [] ∷
    on (Calls (Write 0 4 (9 ∷ []))) (ADrive 0) (reads first_grant 0 5 0 1 ∷ reads first_grant 2 6 0 1 ∷ []) ∷
    on (has_read first_grant 0 5 (255 ∷ [])) (ADrive 2) [] ∷
    on (has_read first_grant 2 6 (250 ∷ [])) (ADrive 2) (writes first_grant 2 7 0 (246 ∷ []) ∷ []) ∷
    ends (has_written first_grant 2 7) (WriteOk 1) Nothing [] ∷
    on (Calls (Read 0 4 1)) (ADrive 0) (reads first_grant 0 8 0 1 ∷ reads first_grant 2 9 0 1 ∷ []) ∷
    on (has_read first_grant 2 9 (246 ∷ [])) (ADrive 0) [] ∷
    ends (has_read first_grant 0 8 (255 ∷ [])) (ReadOk (9 ∷ [])) Nothing [] ∷
    []

pub steps : done (new_client 0 1) events ≡ events
unfolding opened
steps = refl
