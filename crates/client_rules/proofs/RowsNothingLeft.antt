-- An empty read whose component times out asks the rest of its group; without parity the position is lost.
use Rattle.std.specs.Prelude.{◌≡◌, refl, List, [], ◌∷◌, false}
use Rattle.client_rules.specs.State.{Read, ReadOk, Lost, Nothing, TheServer, ADrive}
use Rattle.client_rules.specs.Steps.{new_client}
use Rattle.client_rules.specs.History.{Calls, TimesOut}
use Rattle.client_rules.specs.Rows.{Event, Given, Usable, done, on, ends, answers, gives_layout, has_read, asks_to_read, reads}
use Rattle.client_rules.proofs.Opened.{opened}
use Rattle.client_rules.proofs.RowsGrants.{rotating, striping}

abbrev first_grant : Given
first_grant =
    record {
      number = 1;
      writes = false;
      offset = 0;
      len = 8;
      map = rotating;
      components =
          Usable 0 65536 0 4 ∷ Usable 1 65537 0 4 ∷ Usable 2 65538 0 4 ∷ [];
    }

abbrev second_grant : Given
second_grant = record { number = 2; writes = false; offset = 0; len = 4; map = striping; components = Usable 0 65539 0 4 ∷ [] }

abbrev events : List Event
events =
    on (Calls (Read 0 0 0)) TheServer (asks_to_read 1 0 0 1 ∷ []) ∷
    on (answers 1 0 0 0 (gives_layout first_grant)) (ADrive 0) (reads first_grant 0 1 0 0 ∷ []) ∷
    on (TimesOut 0) (ADrive 1) (reads first_grant 1 2 0 0 ∷ reads first_grant 2 3 0 0 ∷ []) ∷
    on (has_read first_grant 1 2 []) (ADrive 2) [] ∷
    ends (has_read first_grant 2 3 []) (ReadOk []) Nothing [] ∷
    on (Calls (Read 1 0 1)) TheServer (asks_to_read 2 1 0 1 ∷ []) ∷
    on (answers 2 1 0 0 (gives_layout second_grant)) (ADrive 0) (reads second_grant 0 1 0 0 ∷ []) ∷
    ends (TimesOut 0) (Lost (0 ∷ [])) Nothing [] ∷
    []

pub steps : done (new_client 0 1) events ≡ events
unfolding opened
steps = refl
