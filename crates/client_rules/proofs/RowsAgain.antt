-- A request and commands sent once more: the same request, and the commands by stripe, component and offset. A second answer
-- to the request, and second replies, change nothing.
use Rattle.std.specs.Prelude.{◌≡◌, refl, List, [], ◌∷◌}
use Rattle.client_rules.specs.State.{Write, WriteOk, Nothing, TheServer, ADrive}
use Rattle.client_rules.specs.Steps.{new_client}
use Rattle.client_rules.specs.History.{Calls, Resends}
use Rattle.client_rules.specs.Rows.{Event, done, on, ends, answers, gives_layout, committed, has_written, asks_to_write, commits, writes}
use Rattle.client_rules.proofs.Opened.{opened}
use Rattle.client_rules.proofs.RowsGrants.{rotating_grant}

abbrev events : List Event
events =
    on (Calls (Write 0 0 (1 ∷ 2 ∷ 3 ∷ 4 ∷ 5 ∷ 6 ∷ 7 ∷ 8 ∷ []))) TheServer (asks_to_write 1 0 0 8 ∷ []) ∷
    on Resends TheServer (asks_to_write 1 0 0 8 ∷ []) ∷
    on (answers 1 0 0 0 (gives_layout rotating_grant)) (ADrive 0)
    (writes rotating_grant 0 1 0 (1 ∷ 2 ∷ 3 ∷ 4 ∷ []) ∷ writes rotating_grant 1 2 0
    (5 ∷ 6 ∷ 7 ∷ 8 ∷ []) ∷ writes rotating_grant 2 3 0 (4 ∷ 4 ∷ 4 ∷ 12 ∷ []) ∷ []) ∷
    on Resends (ADrive 0)
    (writes rotating_grant 0 1 0 (1 ∷ 2 ∷ 3 ∷ 4 ∷ []) ∷ writes rotating_grant 1 2 0
    (5 ∷ 6 ∷ 7 ∷ 8 ∷ []) ∷ writes rotating_grant 2 3 0 (4 ∷ 4 ∷ 4 ∷ 12 ∷ []) ∷ []) ∷
    on (answers 1 0 0 0 (gives_layout rotating_grant)) (ADrive 0) [] ∷
    on (has_written rotating_grant 0 1) (ADrive 1) [] ∷
    on (has_written rotating_grant 1 2) (ADrive 2) [] ∷
    on (has_written rotating_grant 2 3) TheServer (commits 2 0 1 0 8 ∷ []) ∷
    on (has_written rotating_grant 0 1) TheServer [] ∷
    on (has_written rotating_grant 1 2) TheServer [] ∷
    on (has_written rotating_grant 2 3) TheServer [] ∷
    ends (answers 2 0 0 8 committed) (WriteOk 8) Nothing [] ∷
    []

pub steps : done (new_client 0 1) events ≡ events
unfolding opened
steps = refl
