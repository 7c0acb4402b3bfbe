-- No parity, and a WRITE times out: the report of it isn't taken as a loss, and the write ends as silent.
use Rattle.std.specs.Prelude.{◌≡◌, refl, List, [], ◌∷◌, true}
use Rattle.layout_types.specs.declared.ioerrs.Errno.TheVariants.{Unreachable}
use Rattle.client_rules.specs.State.{Write, Read, WriteOk, ReadOk, Silent, Nothing, TheServer, ADrive}
use Rattle.client_rules.specs.Steps.{new_client}
use Rattle.client_rules.specs.History.{Calls, TimesOut}
use Rattle.client_rules.specs.Rows.{Event, done, on, ends, answers, gives_layout, committed, returned, has_read, has_written, asks_to_read, asks_to_write, commits, gives_back, error, reads, writes}
use Rattle.client_rules.proofs.Opened.{opened}
use Rattle.client_rules.proofs.RowsGrants.{striping_grant, reading_grant}

abbrev events : List Event
events =
    on (Calls (Write 0 0 (65 ∷ []))) TheServer (asks_to_write 1 0 0 1 ∷ []) ∷
    on (answers 1 0 0 0 (gives_layout striping_grant)) (ADrive 0) (writes striping_grant 0 1 0 (65 ∷ []) ∷ []) ∷
    on (has_written striping_grant 0 1) TheServer (commits 2 0 1 0 1 ∷ []) ∷
    ends (answers 2 0 0 1 committed) (WriteOk 1) Nothing [] ∷
    on (Calls (Write 0 0 (66 ∷ []))) (ADrive 0) (writes striping_grant 0 2 0 (66 ∷ []) ∷ []) ∷
    on (TimesOut 0) TheServer (gives_back 3 0 1 (error 0 65536 0 1 true Unreachable ∷ []) ∷ []) ∷
    on (has_written striping_grant 0 2) TheServer [] ∷
    ends (answers 3 0 0 1 returned) (Silent 0) Nothing [] ∷
    on (Calls (Read 0 0 1)) TheServer (asks_to_read 4 0 0 1 ∷ []) ∷
    on (answers 4 0 0 1 (gives_layout reading_grant)) (ADrive 0) (reads reading_grant 0 1 0 1 ∷ []) ∷
    ends (has_read reading_grant 0 1 (66 ∷ [])) (ReadOk (66 ∷ [])) Nothing [] ∷
    []

pub steps : done (new_client 0 1) events ≡ events
unfolding opened
steps = refl
