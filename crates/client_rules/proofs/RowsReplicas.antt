-- Groups, mirrors and RAID 5: each component is sent one WRITE at a time; where a replica times out the next is read,
-- and where all of a position do, the rest of its group is.
use Rattle.std.specs.Prelude.{◌≡◌, refl, List, [], ◌∷◌, true}
use Rattle.client_rules.specs.State.{RawMap, Write, Read, WriteOk, ReadOk, Nothing, TheServer, ADrive}
use Rattle.client_rules.specs.Steps.{new_client}
use Rattle.client_rules.specs.History.{Calls, TimesOut}
use Rattle.client_rules.specs.Rows.{Event, Given, Usable, done, on, ends, answers, gives_layout, committed, has_read, has_written, asks_to_write, commits, reads, writes}
use Rattle.client_rules.proofs.Opened.{opened}

abbrev rotating : RawMap
rotating = record { comps = 8; unit = 2; width = 2; depth = 2; mirrors = 1; algorithm = 3 }

abbrev first_grant : Given
first_grant =
    record {
      number = 1;
      writes = true;
      offset = 0;
      len = 8;
      map = rotating;
      components =
          Usable 0 65536 0 4 ∷ Usable 1 65537 0 4 ∷ Usable 2 65538 0 4 ∷ Usable 3 65539 0 4 ∷ Usable 4 65540 0 4
          ∷ Usable 5 65541 0 4
          ∷ Usable 6 65542 0 4 ∷ Usable 7 65543 0 4 ∷ [];
    }

abbrev events : List Event
events =
    on (Calls (Write 0 0 (1 ∷ 2 ∷ 3 ∷ 4 ∷ 5 ∷ 6 ∷ 7 ∷ 8 ∷ []))) TheServer (asks_to_write 1 0 0 8 ∷ []) ∷
    on (answers 1 0 0 0 (gives_layout first_grant)) (ADrive 0)
    (writes first_grant 0 1 0 (1 ∷ 2 ∷ []) ∷ writes first_grant 1 2 0 (1 ∷ 2 ∷ []) ∷ writes first_grant 2 3 0
    (1 ∷ 2 ∷ []) ∷ writes first_grant 3 4 0 (1 ∷ 2 ∷ []) ∷ writes first_grant 4 5 0 (5 ∷ 6 ∷ []) ∷ writes first_grant 5 6 0
    (5 ∷ 6 ∷ []) ∷ writes first_grant 6 7 0 (5 ∷ 6 ∷ []) ∷ writes first_grant 7 8 0 (5 ∷ 6 ∷ []) ∷ []) ∷
    on (has_written first_grant 0 1) (ADrive 0) (writes first_grant 0 9 2 (3 ∷ 4 ∷ []) ∷ []) ∷
    on (has_written first_grant 1 2) (ADrive 0) (writes first_grant 1 10 2 (3 ∷ 4 ∷ []) ∷ []) ∷
    on (has_written first_grant 2 3) (ADrive 0) (writes first_grant 2 11 2 (3 ∷ 4 ∷ []) ∷ []) ∷
    on (has_written first_grant 3 4) (ADrive 0) (writes first_grant 3 12 2 (3 ∷ 4 ∷ []) ∷ []) ∷
    on (has_written first_grant 4 5) (ADrive 0) (writes first_grant 4 13 2 (7 ∷ 8 ∷ []) ∷ []) ∷
    on (has_written first_grant 5 6) (ADrive 0) (writes first_grant 5 14 2 (7 ∷ 8 ∷ []) ∷ []) ∷
    on (has_written first_grant 6 7) (ADrive 0) (writes first_grant 6 15 2 (7 ∷ 8 ∷ []) ∷ []) ∷
    on (has_written first_grant 7 8) (ADrive 0) (writes first_grant 7 16 2 (7 ∷ 8 ∷ []) ∷ []) ∷
    on (has_written first_grant 0 9) (ADrive 1) [] ∷
    on (has_written first_grant 1 10) (ADrive 2) [] ∷
    on (has_written first_grant 2 11) (ADrive 3) [] ∷
    on (has_written first_grant 3 12) (ADrive 4) [] ∷
    on (has_written first_grant 4 13) (ADrive 5) [] ∷
    on (has_written first_grant 5 14) (ADrive 6) [] ∷
    on (has_written first_grant 6 15) (ADrive 7) [] ∷
    on (has_written first_grant 7 16) TheServer (commits 2 0 1 0 8 ∷ []) ∷
    ends (answers 2 0 0 8 committed) (WriteOk 8) Nothing [] ∷
    on (Calls (Read 0 0 8)) (ADrive 0)
    (reads first_grant 0 17 0 2 ∷ reads first_grant 2 18 2 2 ∷ reads first_grant 4 19 0 2 ∷ reads first_grant 6 20 2 2 ∷ []) ∷
    on (has_read first_grant 2 18 (3 ∷ 4 ∷ [])) (ADrive 0) [] ∷
    on (has_read first_grant 4 19 (5 ∷ 6 ∷ [])) (ADrive 0) [] ∷
    on (has_read first_grant 6 20 (7 ∷ 8 ∷ [])) (ADrive 0) [] ∷
    on (TimesOut 0) (ADrive 1) (reads first_grant 1 21 0 2 ∷ []) ∷
    ends (has_read first_grant 1 21 (1 ∷ 2 ∷ [])) (ReadOk (1 ∷ 2 ∷ 3 ∷ 4 ∷ 5 ∷ 6 ∷ 7 ∷ 8 ∷ [])) Nothing [] ∷
    on (Calls (Read 0 0 8)) (ADrive 0)
    (reads first_grant 0 22 0 2 ∷ reads first_grant 2 23 2 2 ∷ reads first_grant 4 24 0 2 ∷ reads first_grant 6 25 2 2 ∷ []) ∷
    on (has_read first_grant 2 23 (3 ∷ 4 ∷ [])) (ADrive 0) [] ∷
    on (has_read first_grant 4 24 (5 ∷ 6 ∷ [])) (ADrive 0) [] ∷
    on (has_read first_grant 6 25 (7 ∷ 8 ∷ [])) (ADrive 0) [] ∷
    on (TimesOut 0) (ADrive 1) (reads first_grant 1 26 0 2 ∷ []) ∷
    on (TimesOut 1) (ADrive 2) (reads first_grant 2 27 0 2 ∷ []) ∷
    ends (has_read first_grant 2 27 (1 ∷ 2 ∷ [])) (ReadOk (1 ∷ 2 ∷ 3 ∷ 4 ∷ 5 ∷ 6 ∷ 7 ∷ 8 ∷ [])) Nothing [] ∷
    on (Calls (Read 0 9 1)) (ADrive 0) (reads first_grant 0 28 0 0 ∷ []) ∷
    on (TimesOut 0) (ADrive 1) (reads first_grant 1 29 0 0 ∷ []) ∷
    on (TimesOut 1) (ADrive 2) (reads first_grant 2 30 0 0 ∷ []) ∷
    ends (has_read first_grant 2 30 []) (ReadOk []) Nothing [] ∷
    []

pub steps : done (new_client 0 1) events ≡ events
unfolding opened
steps = refl
