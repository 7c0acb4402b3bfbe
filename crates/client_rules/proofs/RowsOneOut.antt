-- RAID 5: a component times out, and what its columns lack of the other components is read.
use Rattle.std.specs.Prelude.{◌≡◌, refl, List, [], ◌∷◌}
use Rattle.client_rules.specs.State.{Write, Read, WriteOk, ReadOk, Nothing, TheServer, ADrive}
use Rattle.client_rules.specs.Steps.{new_client}
use Rattle.client_rules.specs.History.{Calls, TimesOut}
use Rattle.client_rules.specs.Rows.{Event, done, on, ends, answers, gives_layout, committed, has_read, has_written, asks_to_write, commits, reads, writes}
use Rattle.client_rules.proofs.Opened.{opened}
use Rattle.client_rules.proofs.RowsGrants.{rotating_grant}

abbrev events : List Event
events =
    on (Calls (Write 0 0 (1 ∷ 2 ∷ 3 ∷ 4 ∷ 5 ∷ 6 ∷ 7 ∷ 8 ∷ []))) TheServer (asks_to_write 1 0 0 8 ∷ []) ∷
    on (answers 1 0 0 0 (gives_layout rotating_grant)) (ADrive 0)
    (writes rotating_grant 0 1 0 (1 ∷ 2 ∷ 3 ∷ 4 ∷ []) ∷ writes rotating_grant 1 2 0
    (5 ∷ 6 ∷ 7 ∷ 8 ∷ []) ∷ writes rotating_grant 2 3 0 (4 ∷ 4 ∷ 4 ∷ 12 ∷ []) ∷ []) ∷
    on (has_written rotating_grant 0 1) (ADrive 1) [] ∷
    on (has_written rotating_grant 1 2) (ADrive 2) [] ∷
    on (has_written rotating_grant 2 3) TheServer (commits 2 0 1 0 8 ∷ []) ∷
    ends (answers 2 0 0 8 committed) (WriteOk 8) Nothing [] ∷
    on (Calls (Read 0 2 4)) (ADrive 0) (reads rotating_grant 0 4 2 2 ∷ reads rotating_grant 1 5 0 2 ∷ []) ∷
    on (has_read rotating_grant 0 4 (3 ∷ 4 ∷ [])) (ADrive 1) [] ∷
    on (TimesOut 1) (ADrive 0) (reads rotating_grant 0 6 0 2 ∷ reads rotating_grant 2 7 0 4 ∷ []) ∷
    on (has_read rotating_grant 0 6 (1 ∷ 2 ∷ [])) (ADrive 2) [] ∷
    ends (has_read rotating_grant 2 7 (4 ∷ 4 ∷ 4 ∷ 12 ∷ [])) (ReadOk (3 ∷ 4 ∷ 5 ∷ 6 ∷ [])) Nothing [] ∷
    []

pub steps : done (new_client 0 1) events ≡ events
unfolding opened
steps = refl
