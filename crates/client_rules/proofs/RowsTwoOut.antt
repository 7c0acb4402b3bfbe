-- P and Q: two components time out and come back by decoding; a third is too many.
use Rattle.std.specs.Prelude.{◌≡◌, refl, List, [], ◌∷◌, true}
use Rattle.client_rules.specs.State.{RawMap, Write, Read, WriteOk, ReadOk, Lost, Nothing, TheServer, ADrive}
use Rattle.client_rules.specs.Steps.{new_client}
use Rattle.client_rules.specs.History.{Calls, TimesOut}
use Rattle.client_rules.specs.Rows.{Event, Given, Usable, done, on, ends, answers, gives_layout, committed, has_read, has_written, asks_to_write, commits, reads, writes}
use Rattle.client_rules.proofs.Opened.{opened}

abbrev two_parities : RawMap
two_parities = record { comps = 6; unit = 4; width = 0; depth = 0; mirrors = 0; algorithm = 4 }

abbrev first_grant : Given
first_grant =
    record {
      number = 1;
      writes = true;
      offset = 0;
      len = 16;
      map = two_parities;
      components =
          Usable 0 65536 0 4 ∷ Usable 1 65537 0 4 ∷ Usable 2 65538 0 4 ∷ Usable 3 65539 0 4 ∷ Usable 4 65540 0 4
          ∷ Usable 5 65541 0 4
          ∷ [];
    }

abbrev events : List Event
events =
    on (Calls (Write 0 0 (0 ∷ 1 ∷ 2 ∷ 3 ∷ 4 ∷ 5 ∷ 6 ∷ 7 ∷ 8 ∷ 9 ∷ 10 ∷ 11 ∷ 12 ∷ 13 ∷ 14 ∷ 15 ∷ []))) TheServer
    (asks_to_write 1 0 0 16 ∷ []) ∷
    on (answers 1 0 0 0 (gives_layout first_grant)) (ADrive 0)
    (writes first_grant 0 1 0 (0 ∷ 1 ∷ 2 ∷ 3 ∷ []) ∷ writes first_grant 1 2 0 (4 ∷ 5 ∷ 6 ∷ 7 ∷ []) ∷ writes first_grant 2 3 0
    (8 ∷ 9 ∷ 10 ∷ 11 ∷ []) ∷ writes first_grant 3 4 0 (12 ∷ 13 ∷ 14 ∷ 15 ∷ []) ∷ writes first_grant 4 5 0
    (0 ∷ 0 ∷ 0 ∷ 0 ∷ []) ∷ writes first_grant 5 6 0 (72 ∷ 71 ∷ 86 ∷ 89 ∷ []) ∷ []) ∷
    on (has_written first_grant 0 1) (ADrive 1) [] ∷
    on (has_written first_grant 1 2) (ADrive 2) [] ∷
    on (has_written first_grant 2 3) (ADrive 3) [] ∷
    on (has_written first_grant 3 4) (ADrive 4) [] ∷
    on (has_written first_grant 4 5) (ADrive 5) [] ∷
    on (has_written first_grant 5 6) TheServer (commits 2 0 1 0 16 ∷ []) ∷
    ends (answers 2 0 0 16 committed) (WriteOk 16) Nothing [] ∷
    on (Calls (Read 0 0 16)) (ADrive 0)
    (reads first_grant 0 7 0 4 ∷ reads first_grant 1 8 0 4 ∷ reads first_grant 2 9 0 4 ∷ reads first_grant 3 10 0 4 ∷ []) ∷
    on (has_read first_grant 2 9 (8 ∷ 9 ∷ 10 ∷ 11 ∷ [])) (ADrive 0) [] ∷
    on (has_read first_grant 3 10 (12 ∷ 13 ∷ 14 ∷ 15 ∷ [])) (ADrive 0) [] ∷
    on (TimesOut 0) (ADrive 1) (reads first_grant 4 11 0 4 ∷ reads first_grant 5 12 0 4 ∷ []) ∷
    on (has_read first_grant 4 11 (0 ∷ 0 ∷ 0 ∷ 0 ∷ [])) (ADrive 1) [] ∷
    on (has_read first_grant 5 12 (72 ∷ 71 ∷ 86 ∷ 89 ∷ [])) (ADrive 1) [] ∷
    ends (TimesOut 1) (ReadOk (0 ∷ 1 ∷ 2 ∷ 3 ∷ 4 ∷ 5 ∷ 6 ∷ 7 ∷ 8 ∷ 9 ∷ 10 ∷ 11 ∷ 12 ∷ 13 ∷ 14 ∷ 15 ∷ [])) Nothing [] ∷
    on (Calls (Read 0 0 16)) (ADrive 0)
    (reads first_grant 0 13 0 4 ∷ reads first_grant 1 14 0 4 ∷ reads first_grant 2 15 0 4 ∷ reads first_grant 3 16 0 4 ∷ []) ∷
    on (has_read first_grant 3 16 (12 ∷ 13 ∷ 14 ∷ 15 ∷ [])) (ADrive 0) [] ∷
    on (TimesOut 0) (ADrive 1) (reads first_grant 4 17 0 4 ∷ reads first_grant 5 18 0 4 ∷ []) ∷
    on (has_read first_grant 4 17 (0 ∷ 0 ∷ 0 ∷ 0 ∷ [])) (ADrive 1) [] ∷
    on (has_read first_grant 5 18 (72 ∷ 71 ∷ 86 ∷ 89 ∷ [])) (ADrive 1) [] ∷
    on (TimesOut 1) (ADrive 2) [] ∷
    ends (TimesOut 2) (Lost (0 ∷ 1 ∷ 2 ∷ [])) Nothing [] ∷
    []

pub steps : done (new_client 0 1) events ≡ events
unfolding opened
steps = refl
