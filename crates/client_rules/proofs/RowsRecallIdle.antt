-- An idle client obeys a recall at once; a second one finds no grant.
use Rattle.std.specs.Prelude.{◌≡◌, refl, List, [], ◌∷◌}
use Rattle.layout_ops.specs.declared.statuses.TheConstants.{NFS4ERR_NOMATCHING_LAYOUT, NFS4_OK}
use Rattle.client_rules.specs.State.{Write, WriteOk, Nothing, TheServer, ADrive}
use Rattle.client_rules.specs.Steps.{new_client}
use Rattle.client_rules.specs.History.{Calls}
use Rattle.client_rules.specs.Rows.{Event, done, on, ends, answers, gives_layout, committed, returned, recalls, has_written, asks_to_write, commits, gives_back, answers_recall, writes}
use Rattle.client_rules.proofs.Opened.{opened}
use Rattle.client_rules.proofs.RowsGrants.{striping_grant}

abbrev events : List Event
events =
    on (Calls (Write 0 0 (65 ∷ []))) TheServer (asks_to_write 1 0 0 1 ∷ []) ∷
    on (answers 1 0 0 0 (gives_layout striping_grant)) (ADrive 0) (writes striping_grant 0 1 0 (65 ∷ []) ∷ []) ∷
    on (has_written striping_grant 0 1) TheServer (commits 2 0 1 0 1 ∷ []) ∷
    ends (answers 2 0 0 1 committed) (WriteOk 1) Nothing [] ∷
    on (recalls 1 0 1) TheServer (answers_recall 1 0 NFS4_OK ∷ gives_back 3 0 1 [] ∷ []) ∷
    on (recalls 2 0 1) TheServer (answers_recall 2 0 NFS4ERR_NOMATCHING_LAYOUT ∷ []) ∷
    on (answers 3 0 0 1 returned) Nothing [] ∷
    []

pub steps : done (new_client 0 1) events ≡ events
unfolding opened
steps = refl
