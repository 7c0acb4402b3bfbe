-- What the server says in the place of a layout; answers that aren't awaited.
use Rattle.std.specs.Prelude.{◌≡◌, refl, List, [], ◌∷◌}
use Rattle.layout_ops.specs.declared.statuses.TheConstants.{NFS4ERR_DELAY, NFS4ERR_LAYOUTUNAVAILABLE, NFS4ERR_RECALLCONFLICT}
use Rattle.client_rules.specs.declared.limits.TheConstants.{NO_COMPONENT}
use Rattle.client_rules.specs.State.{Write, Read, Fencing, Degraded, Spent, Status, SlotSpent, Nothing, TheServer}
use Rattle.client_rules.specs.Steps.{new_client}
use Rattle.client_rules.specs.History.{Calls}
use Rattle.client_rules.specs.Rows.{Event, done, on, ends, refuses, answers, no_layout, try_later, asks_to_read, asks_to_write}
use Rattle.client_rules.proofs.Opened.{opened}

abbrev events : List Event
events =
    on (Calls (Read 0 0 1)) TheServer (asks_to_read 1 0 0 1 ∷ []) ∷
    on (answers 1 0 2 0 (no_layout NFS4ERR_RECALLCONFLICT)) TheServer (asks_to_read 2 0 0 1 ∷ []) ∷
    on (answers 2 0 16 0 try_later) TheServer [] ∷
    on (answers 1 0 2 0 try_later) TheServer [] ∷
    on (answers 2 0 15 0 try_later) TheServer (asks_to_read 3 0 0 1 ∷ []) ∷
    ends (answers 3 0 2 0 (no_layout NFS4ERR_RECALLCONFLICT)) (Fencing 2) Nothing [] ∷
    on (Calls (Write 0 0 (1 ∷ []))) TheServer (asks_to_write 4 0 0 1 ∷ []) ∷
    ends (answers 4 0 1 0 (no_layout NFS4ERR_LAYOUTUNAVAILABLE)) (Degraded 1) Nothing [] ∷
    on (Calls (Read 0 16777216 0)) TheServer (asks_to_read 5 0 16777215 1 ∷ []) ∷
    ends (answers 5 0 NO_COMPONENT 0 (no_layout NFS4ERR_LAYOUTUNAVAILABLE)) Spent Nothing [] ∷
    on (Calls (Read 0 0 1)) TheServer (asks_to_read 6 0 0 1 ∷ []) ∷
    ends (answers 6 0 7 0 (no_layout NFS4ERR_DELAY)) (Status NFS4ERR_DELAY 7) Nothing [] ∷
    []

pub steps : done (new_client 0 1) events ≡ events
unfolding opened
steps = refl

-- sixteen numbers are left, and then too few
abbrev last_events : List Event
last_events =
    on (Calls (Read 0 0 1)) TheServer (asks_to_read 4294967280 0 0 1 ∷ []) ∷
    ends (answers 4294967280 0 7 0 (no_layout NFS4ERR_DELAY)) (Status NFS4ERR_DELAY 7) Nothing [] ∷
    refuses (Calls (Read 0 0 1)) SlotSpent Nothing ∷
    []

pub last_steps : done (new_client 0 4294967280) last_events ≡ last_events
unfolding opened
last_steps = refl
