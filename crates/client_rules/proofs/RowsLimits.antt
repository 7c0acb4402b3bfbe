-- Calls that are refused, and an empty read at the greatest size of a file.
use Rattle.std.specs.Prelude.{◌≡◌, refl, List, [], ◌∷◌}
use Rattle.client_rules.specs.State.{Write, Read, WriteOk, ReadOk, Busy, BadRange, Nothing, TheServer, ADrive}
use Rattle.client_rules.specs.Steps.{new_client}
use Rattle.client_rules.specs.History.{Calls}
use Rattle.client_rules.specs.Rows.{Event, done, on, ends, refuses, answers, gives_layout, committed, has_read, has_written, asks_to_write, commits, reads, writes}
use Rattle.client_rules.proofs.Opened.{opened}
use Rattle.client_rules.proofs.RowsGrants.{rotating_grant}

abbrev events : List Event
events =
    on (Calls (Write 0 0 (1 ∷ []))) TheServer (asks_to_write 1 0 0 1 ∷ []) ∷
    refuses (Calls (Read 0 0 1)) Busy TheServer ∷
    on (answers 1 0 0 0 (gives_layout rotating_grant)) (ADrive 0)
    (reads rotating_grant 0 1 0 1 ∷ reads rotating_grant 2 2 0 1 ∷ []) ∷
    on (has_read rotating_grant 0 1 []) (ADrive 2) [] ∷
    on (has_read rotating_grant 2 2 []) (ADrive 0)
    (writes rotating_grant 0 3 0 (1 ∷ []) ∷ writes rotating_grant 2 4 0 (1 ∷ []) ∷ []) ∷
    on (has_written rotating_grant 0 3) (ADrive 2) [] ∷
    on (has_written rotating_grant 2 4) TheServer (commits 2 0 1 0 1 ∷ []) ∷
    ends (answers 2 0 0 1 committed) (WriteOk 1) Nothing [] ∷
    refuses (Calls (Read 0 0 262145)) BadRange Nothing ∷
    refuses (Calls (Read 0 16777216 1)) BadRange Nothing ∷
    on (Calls (Read 0 16777216 0)) (ADrive 0) (reads rotating_grant 0 5 0 0 ∷ []) ∷
    ends (has_read rotating_grant 0 5 []) (ReadOk []) Nothing [] ∷
    []

pub steps : done (new_client 0 1) events ≡ events
unfolding opened
steps = refl
