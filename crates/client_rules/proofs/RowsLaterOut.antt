-- RAID 5, a component has answered for one stripe and times out in the next: it is out in both. Late replies and answers.
use Rattle.std.specs.Prelude.{◌≡◌, refl, List, [], ◌∷◌, true}
use Rattle.client_rules.specs.State.{Write, Read, WriteOk, ReadOk, Nothing, TheServer, ADrive}
use Rattle.client_rules.specs.Steps.{new_client}
use Rattle.client_rules.specs.History.{Calls, TimesOut}
use Rattle.client_rules.specs.Rows.{Event, Given, Usable, done, on, ends, answers, gives_layout, committed, has_read, has_written, asks_to_write, commits, reads, writes}
use Rattle.client_rules.proofs.Opened.{opened}
use Rattle.client_rules.proofs.RowsGrants.{rotating}

abbrev first_grant : Given
first_grant =
    record {
      number = 1;
      writes = true;
      offset = 0;
      len = 16;
      map = rotating;
      components =
          Usable 0 65536 0 8 ∷ Usable 1 65537 0 8 ∷ Usable 2 65538 0 8 ∷ [];
    }

abbrev events : List Event
events =
    on (Calls (Write 0 0 (1 ∷ 2 ∷ 3 ∷ 4 ∷ 5 ∷ 6 ∷ 7 ∷ 8 ∷ 9 ∷ 10 ∷ 11 ∷ 12 ∷ 13 ∷ 14 ∷ 15 ∷ 16 ∷ []))) TheServer
    (asks_to_write 1 0 0 16 ∷ []) ∷
    on (answers 1 0 0 0 (gives_layout first_grant)) (ADrive 0)
    (writes first_grant 0 1 0 (1 ∷ 2 ∷ 3 ∷ 4 ∷ []) ∷ writes first_grant 1 2 0 (5 ∷ 6 ∷ 7 ∷ 8 ∷ []) ∷ writes first_grant 2 3 0
    (4 ∷ 4 ∷ 4 ∷ 12 ∷ []) ∷ []) ∷
    on (has_written first_grant 0 1) (ADrive 0) (writes first_grant 0 4 4 (13 ∷ 14 ∷ 15 ∷ 16 ∷ []) ∷ []) ∷
    on (has_written first_grant 1 2) (ADrive 0) (writes first_grant 1 5 4 (4 ∷ 4 ∷ 4 ∷ 28 ∷ []) ∷ []) ∷
    on (has_written first_grant 2 3) (ADrive 0) (writes first_grant 2 6 4 (9 ∷ 10 ∷ 11 ∷ 12 ∷ []) ∷ []) ∷
    on (has_written first_grant 0 4) (ADrive 1) [] ∷
    on (has_written first_grant 1 5) (ADrive 2) [] ∷
    on (has_written first_grant 2 6) TheServer (commits 2 0 1 0 16 ∷ []) ∷
    ends (answers 2 0 0 16 committed) (WriteOk 16) Nothing [] ∷
    on (Calls (Read 0 0 16)) (ADrive 0)
    (reads first_grant 0 7 0 4 ∷ reads first_grant 1 8 0 4 ∷ reads first_grant 0 9 4 4 ∷ reads first_grant 2 10 4 4 ∷ []) ∷
    on (TimesOut 0) (ADrive 1) (reads first_grant 2 11 0 4 ∷ reads first_grant 1 12 4 4 ∷ []) ∷
    on (has_written first_grant 2 6) (ADrive 1) [] ∷
    on (answers 2 0 0 16 committed) (ADrive 1) [] ∷
    on (has_read first_grant 0 7 (1 ∷ 2 ∷ 3 ∷ 4 ∷ [])) (ADrive 1) [] ∷
    on (has_read first_grant 1 8 (5 ∷ 6 ∷ 7 ∷ 8 ∷ [])) (ADrive 1) [] ∷
    on (has_read first_grant 0 9 (13 ∷ 14 ∷ 15 ∷ 16 ∷ [])) (ADrive 1) [] ∷
    on (has_read first_grant 2 10 (9 ∷ 10 ∷ 11 ∷ 12 ∷ [])) (ADrive 1) [] ∷
    on (has_read first_grant 2 11 (4 ∷ 4 ∷ 4 ∷ 12 ∷ [])) (ADrive 1) [] ∷
    ends (has_read first_grant 1 12 (4 ∷ 4 ∷ 4 ∷ 28 ∷ []))
    (ReadOk (1 ∷ 2 ∷ 3 ∷ 4 ∷ 5 ∷ 6 ∷ 7 ∷ 8 ∷ 9 ∷ 10 ∷ 11 ∷ 12 ∷ 13 ∷ 14 ∷ 15 ∷ 16 ∷ [])) Nothing [] ∷
    []

pub steps : done (new_client 0 1) events ≡ events
unfolding opened
steps = refl
