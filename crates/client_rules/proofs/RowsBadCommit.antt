-- BADLAYOUT to a commit: the grant is forgotten. A grant for reading goes back before a write asks for another.
use Rattle.std.specs.Prelude.{◌≡◌, refl, List, [], ◌∷◌, true}
use Rattle.layout_ops.specs.declared.statuses.TheConstants.{NFS4ERR_BADLAYOUT}
use Rattle.client_rules.specs.State.{Write, Read, WriteOk, ReadOk, Status, Nothing, TheServer, ADrive}
use Rattle.client_rules.specs.Steps.{new_client}
use Rattle.client_rules.specs.History.{Calls}
use Rattle.client_rules.specs.Rows.{Event, Given, Usable, done, on, ends, answers, gives_layout, committed, not_committed, returned, has_read, has_written, asks_to_read, asks_to_write, commits, gives_back, reads, writes}
use Rattle.client_rules.proofs.Opened.{opened}
use Rattle.client_rules.proofs.RowsGrants.{striping, striping_grant, reading_grant}

abbrev third_grant : Given
third_grant = record { number = 3; writes = true; offset = 0; len = 4; map = striping; components = Usable 0 65536 0 4 ∷ [] }

abbrev events : List Event
events =
    on (Calls (Write 0 0 (65 ∷ []))) TheServer (asks_to_write 1 0 0 1 ∷ []) ∷
    on (answers 1 0 0 0 (gives_layout striping_grant)) (ADrive 0) (writes striping_grant 0 1 0 (65 ∷ []) ∷ []) ∷
    on (has_written striping_grant 0 1) TheServer (commits 2 0 1 0 1 ∷ []) ∷
    ends (answers 2 0 0 0 (not_committed NFS4ERR_BADLAYOUT)) (Status NFS4ERR_BADLAYOUT 0) Nothing [] ∷
    on (Calls (Read 0 0 1)) TheServer (asks_to_read 3 0 0 1 ∷ []) ∷
    on (answers 3 0 0 0 (gives_layout reading_grant)) (ADrive 0) (reads reading_grant 0 1 0 0 ∷ []) ∷
    ends (has_read reading_grant 0 1 []) (ReadOk []) Nothing [] ∷
    on (Calls (Write 0 1 (66 ∷ []))) TheServer (gives_back 4 0 2 [] ∷ []) ∷
    on (answers 4 0 0 0 returned) TheServer (asks_to_write 5 0 1 1 ∷ []) ∷
    on (answers 5 0 0 0 (gives_layout third_grant)) (ADrive 0) (writes third_grant 0 1 1 (66 ∷ []) ∷ []) ∷
    on (has_written third_grant 0 1) TheServer (commits 6 0 3 1 1 ∷ []) ∷
    ends (answers 6 0 0 2 committed) (WriteOk 1) Nothing [] ∷
    on (Calls (Read 0 0 2)) (ADrive 0) (reads third_grant 0 2 0 2 ∷ []) ∷
    ends (has_read third_grant 0 2 (65 ∷ 66 ∷ [])) (ReadOk (65 ∷ 66 ∷ [])) Nothing [] ∷
    []

pub steps : done (new_client 0 1) events ≡ events
unfolding opened
steps = refl
