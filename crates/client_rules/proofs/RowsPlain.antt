-- Three components without parity: a write over two stripes, reads of a part, of nothing, across the size and behind it,
-- and a write of nothing.
use Rattle.std.specs.Prelude.{◌≡◌, refl, List, [], ◌∷◌, true}
use Rattle.client_rules.specs.State.{RawMap, Write, Read, WriteOk, ReadOk, Nothing, TheServer, ADrive}
use Rattle.client_rules.specs.Steps.{new_client}
use Rattle.client_rules.specs.History.{Calls}
use Rattle.client_rules.specs.Rows.{Event, Given, Usable, done, on, ends, answers, gives_layout, committed, has_read, has_written, asks_to_write, commits, reads, writes}
use Rattle.client_rules.proofs.Opened.{opened}

abbrev striping : RawMap
striping = record { comps = 3; unit = 4; width = 0; depth = 0; mirrors = 0; algorithm = 1 }

abbrev first_grant : Given
first_grant =
    record {
      number = 1;
      writes = true;
      offset = 0;
      len = 24;
      map = striping;
      components =
          Usable 0 65536 0 8 ∷ Usable 1 65537 0 8 ∷ Usable 2 65538 0 8 ∷ [];
    }

abbrev events : List Event
events =
    on (Calls (Write 0 3 (97 ∷ 98 ∷ 99 ∷ 100 ∷ 101 ∷ 102 ∷ 103 ∷ 104 ∷ 105 ∷ 106 ∷ []))) TheServer (asks_to_write 1 0 3 10 ∷ []) ∷
    on (answers 1 0 0 0 (gives_layout first_grant)) (ADrive 0)
    (writes first_grant 0 1 3 (97 ∷ []) ∷ writes first_grant 1 2 0 (98 ∷ 99 ∷ 100 ∷ 101 ∷ []) ∷ writes first_grant 2 3 0
    (102 ∷ 103 ∷ 104 ∷ 105 ∷ []) ∷ []) ∷
    on (has_written first_grant 0 1) (ADrive 0) (writes first_grant 0 4 4 (106 ∷ []) ∷ []) ∷
    on (has_written first_grant 1 2) (ADrive 0) [] ∷
    on (has_written first_grant 2 3) (ADrive 0) [] ∷
    on (has_written first_grant 0 4) TheServer (commits 2 0 1 3 10 ∷ []) ∷
    ends (answers 2 0 0 13 committed) (WriteOk 10) Nothing [] ∷
    on (Calls (Read 0 0 20)) (ADrive 0)
    (reads first_grant 0 5 0 4 ∷ reads first_grant 1 6 0 4 ∷ reads first_grant 2 7 0 4 ∷ reads first_grant 0 8 4 1 ∷ []) ∷
    on (has_read first_grant 0 5 (0 ∷ 0 ∷ 0 ∷ 97 ∷ [])) (ADrive 0) [] ∷
    on (has_read first_grant 1 6 (98 ∷ 99 ∷ 100 ∷ 101 ∷ [])) (ADrive 0) [] ∷
    on (has_read first_grant 2 7 (102 ∷ 103 ∷ 104 ∷ 105 ∷ [])) (ADrive 0) [] ∷
    ends (has_read first_grant 0 8 (106 ∷ []))
    (ReadOk (0 ∷ 0 ∷ 0 ∷ 97 ∷ 98 ∷ 99 ∷ 100 ∷ 101 ∷ 102 ∷ 103 ∷ 104 ∷ 105 ∷ 106 ∷ [])) Nothing [] ∷
    on (Calls (Read 0 0 0)) (ADrive 0) (reads first_grant 0 9 0 0 ∷ []) ∷
    ends (has_read first_grant 0 9 []) (ReadOk []) Nothing [] ∷
    on (Calls (Read 0 13 5)) (ADrive 0) (reads first_grant 0 10 0 0 ∷ []) ∷
    ends (has_read first_grant 0 10 []) (ReadOk []) Nothing [] ∷
    on (Calls (Read 0 12 5)) (ADrive 0) (reads first_grant 0 11 4 1 ∷ []) ∷
    ends (has_read first_grant 0 11 (106 ∷ [])) (ReadOk (106 ∷ [])) Nothing [] ∷
    ends (Calls (Write 0 5 [])) (WriteOk 0) Nothing [] ∷
    []

pub steps : done (new_client 0 1) events ≡ events
unfolding opened
steps = refl
