-- A grant that doesn't cover goes back first; a call that needs no request runs beside a return; leaving.
use Rattle.std.specs.Prelude.{◌≡◌, refl, List, [], ◌∷◌, false, true}
use Rattle.client_rules.specs.State.{Write, Read, WriteOk, ReadOk, Nothing, TheServer, ADrive}
use Rattle.client_rules.specs.Steps.{new_client}
use Rattle.client_rules.specs.History.{Calls, Leaves}
use Rattle.client_rules.specs.Rows.{Event, Given, Usable, done, on, ends, answers, gives_layout, committed, returned, has_read, has_written, asks_to_read, asks_to_write, commits, gives_back, reads, writes}
use Rattle.client_rules.proofs.Opened.{opened}
use Rattle.client_rules.proofs.RowsGrants.{rotating, striping}

abbrev first_grant : Given
first_grant =
    record {
      number = 1;
      writes = false;
      offset = 0;
      len = 8;
      map = rotating;
      components =
          Usable 0 65536 0 4 ∷ Usable 1 65537 0 4 ∷ Usable 2 65538 0 4 ∷ [];
    }

abbrev second_grant : Given
second_grant = record { number = 2; writes = true; offset = 0; len = 4; map = striping; components = Usable 0 65539 0 4 ∷ [] }

abbrev third_grant : Given
third_grant =
    record {
      number = 3;
      writes = true;
      offset = 0;
      len = 8;
      map = rotating;
      components =
          Usable 0 65536 0 4 ∷ Usable 1 65537 0 4 ∷ Usable 2 65538 0 4 ∷ [];
    }

abbrev events : List Event
events =
    on (Calls (Read 0 0 1)) TheServer (asks_to_read 1 0 0 1 ∷ []) ∷
    on (answers 1 0 0 0 (gives_layout first_grant)) (ADrive 0) (reads first_grant 0 1 0 0 ∷ []) ∷
    ends (has_read first_grant 0 1 []) (ReadOk []) Nothing [] ∷
    on (Calls (Write 1 0 (65 ∷ []))) TheServer (asks_to_write 2 1 0 1 ∷ []) ∷
    on (answers 2 1 0 0 (gives_layout second_grant)) (ADrive 0) (writes second_grant 0 1 0 (65 ∷ []) ∷ []) ∷
    on (has_written second_grant 0 1) TheServer (commits 3 1 2 0 1 ∷ []) ∷
    ends (answers 3 1 0 1 committed) (WriteOk 1) Nothing [] ∷
    on (Calls (Write 0 0 (7 ∷ []))) TheServer (gives_back 4 0 1 [] ∷ []) ∷
    on (answers 4 0 0 0 returned) TheServer (asks_to_write 5 0 0 1 ∷ []) ∷
    on (answers 5 0 0 0 (gives_layout third_grant)) (ADrive 0) (reads third_grant 0 1 0 1 ∷ reads third_grant 2 2 0 1 ∷ []) ∷
    on (has_read third_grant 0 1 []) (ADrive 2) [] ∷
    on (has_read third_grant 2 2 []) (ADrive 0) (writes third_grant 0 3 0 (7 ∷ []) ∷ writes third_grant 2 4 0 (7 ∷ []) ∷ []) ∷
    on (has_written third_grant 0 3) (ADrive 2) [] ∷
    on (has_written third_grant 2 4) TheServer (commits 6 0 3 0 1 ∷ []) ∷
    ends (answers 6 0 0 1 committed) (WriteOk 1) Nothing [] ∷
    on Leaves TheServer (gives_back 7 0 3 [] ∷ []) ∷
    on (Calls (Read 1 0 1)) (ADrive 0) (reads second_grant 0 2 0 1 ∷ []) ∷
    on (answers 7 0 0 1 returned) (ADrive 0) [] ∷
    ends (has_read second_grant 0 2 (65 ∷ [])) (ReadOk (65 ∷ [])) TheServer (gives_back 8 1 2 [] ∷ []) ∷
    on (answers 8 1 0 1 returned) Nothing [] ∷
    on Leaves Nothing [] ∷
    []

pub steps : done (new_client 0 1) events ≡ events
unfolding opened
steps = refl
