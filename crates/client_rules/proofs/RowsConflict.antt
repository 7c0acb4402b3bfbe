-- Another client holds a conflicting grant: the call asks three times. A file that there isn't.
use Rattle.std.specs.Prelude.{◌≡◌, refl, List, [], ◌∷◌, false}
use Rattle.layout_ops.specs.declared.statuses.TheConstants.{NFS4ERR_NOENT}
use Rattle.client_rules.specs.State.{Read, ReadOk, NoFile, HeldBy, Nothing, TheServer, ADrive}
use Rattle.client_rules.specs.Steps.{new_client}
use Rattle.client_rules.specs.History.{Calls}
use Rattle.client_rules.specs.Rows.{Event, Given, Usable, done, on, ends, answers, gives_layout, no_layout, try_later, has_read, asks_to_read, reads}
use Rattle.client_rules.proofs.Opened.{opened}
use Rattle.client_rules.proofs.RowsGrants.{rotating}

abbrev first_grant : Given
first_grant =
    record {
      number = 2;
      writes = false;
      offset = 0;
      len = 8;
      map = rotating;
      components =
          Usable 0 65536 0 4 ∷ Usable 1 65537 0 4 ∷ Usable 2 65538 0 4 ∷ [];
    }

abbrev events : List Event
events =
    on (Calls (Read 0 0 1)) TheServer (asks_to_read 1 0 0 1 ∷ []) ∷
    on (answers 1 0 1 1 try_later) TheServer (asks_to_read 2 0 0 1 ∷ []) ∷
    on (answers 2 0 1 1 try_later) TheServer (asks_to_read 3 0 0 1 ∷ []) ∷
    ends (answers 3 0 1 1 try_later) (HeldBy 1) Nothing [] ∷
    on (Calls (Read 0 0 1)) TheServer (asks_to_read 4 0 0 1 ∷ []) ∷
    on (answers 4 0 0 1 (gives_layout first_grant)) (ADrive 0) (reads first_grant 0 1 0 1 ∷ []) ∷
    ends (has_read first_grant 0 1 (1 ∷ [])) (ReadOk (1 ∷ [])) Nothing [] ∷
    on (Calls (Read 9 0 1)) TheServer (asks_to_read 5 9 0 1 ∷ []) ∷
    ends (answers 5 9 0 0 (no_layout NFS4ERR_NOENT)) NoFile Nothing [] ∷
    []

pub steps : done (new_client 0 1) events ≡ events
unfolding opened
steps = refl
