-- A recall in the middle of a call is answered at once, and obeyed when the call ends.
use Rattle.std.specs.Prelude.{◌≡◌, refl, List, [], ◌∷◌}
use Rattle.layout_ops.specs.declared.statuses.TheConstants.{NFS4_OK}
use Rattle.client_rules.specs.State.{Write, Read, WriteOk, ReadOk, Nothing, TheServer, ADrive}
use Rattle.client_rules.specs.Steps.{new_client}
use Rattle.client_rules.specs.History.{Calls}
use Rattle.client_rules.specs.Rows.{Event, done, on, ends, answers, gives_layout, committed, returned, recalls, has_read, has_written, asks_to_read, asks_to_write, commits, gives_back, answers_recall, reads, writes}
use Rattle.client_rules.proofs.Opened.{opened}
use Rattle.client_rules.proofs.RowsGrants.{striping_grant, reading_grant}

abbrev events : List Event
events =
    on (Calls (Write 0 0 (65 ∷ []))) TheServer (asks_to_write 1 0 0 1 ∷ []) ∷
    on (answers 1 0 0 0 (gives_layout striping_grant)) (ADrive 0) (writes striping_grant 0 1 0 (65 ∷ []) ∷ []) ∷
    on (has_written striping_grant 0 1) TheServer (commits 2 0 1 0 1 ∷ []) ∷
    ends (answers 2 0 0 1 committed) (WriteOk 1) Nothing [] ∷
    on (Calls (Write 0 0 (66 ∷ []))) (ADrive 0) (writes striping_grant 0 2 0 (66 ∷ []) ∷ []) ∷
    on (recalls 1 0 1) (ADrive 0) (answers_recall 1 0 NFS4_OK ∷ []) ∷
    ends (has_written striping_grant 0 2) (WriteOk 1) TheServer (gives_back 3 0 1 [] ∷ []) ∷
    on (answers 3 0 0 1 returned) Nothing [] ∷
    on (Calls (Read 0 0 1)) TheServer (asks_to_read 4 0 0 1 ∷ []) ∷
    on (answers 4 0 0 1 (gives_layout reading_grant)) (ADrive 0) (reads reading_grant 0 1 0 1 ∷ []) ∷
    ends (has_read reading_grant 0 1 (66 ∷ [])) (ReadOk (66 ∷ [])) Nothing [] ∷
    []

pub steps : done (new_client 0 1) events ≡ events
unfolding opened
steps = refl
