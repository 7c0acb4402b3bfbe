-- RAID 5, a WRITE times out: the write goes on and is reported, and its late reply changes nothing.
use Rattle.std.specs.Prelude.{◌≡◌, refl, List, [], ◌∷◌, true}
use Rattle.layout_types.specs.declared.ioerrs.Errno.TheVariants.{Unreachable}
use Rattle.client_rules.specs.State.{Write, WriteOk, Nothing, TheServer, ADrive}
use Rattle.client_rules.specs.Steps.{new_client}
use Rattle.client_rules.specs.History.{Calls, TimesOut}
use Rattle.client_rules.specs.Rows.{Event, done, on, ends, answers, gives_layout, committed, returned, has_written, asks_to_write, commits, gives_back, error, writes}
use Rattle.client_rules.proofs.Opened.{opened}
use Rattle.client_rules.proofs.RowsGrants.{rotating_grant}

abbrev events : List Event
events =
    on (Calls (Write 0 0 (1 ∷ 2 ∷ 3 ∷ 4 ∷ 5 ∷ 6 ∷ 7 ∷ 8 ∷ []))) TheServer (asks_to_write 1 0 0 8 ∷ []) ∷
    on (answers 1 0 0 0 (gives_layout rotating_grant)) (ADrive 0)
    (writes rotating_grant 0 1 0 (1 ∷ 2 ∷ 3 ∷ 4 ∷ []) ∷ writes rotating_grant 1 2 0
    (5 ∷ 6 ∷ 7 ∷ 8 ∷ []) ∷ writes rotating_grant 2 3 0 (4 ∷ 4 ∷ 4 ∷ 12 ∷ []) ∷ []) ∷
    on (has_written rotating_grant 0 1) (ADrive 1) [] ∷
    on (has_written rotating_grant 1 2) (ADrive 2) [] ∷
    on (has_written rotating_grant 2 3) TheServer (commits 2 0 1 0 8 ∷ []) ∷
    ends (answers 2 0 0 8 committed) (WriteOk 8) Nothing [] ∷
    on (Calls (Write 0 0 (17 ∷ 18 ∷ 19 ∷ 20 ∷ 21 ∷ 22 ∷ 23 ∷ 24 ∷ []))) (ADrive 0)
    (writes rotating_grant 0 4 0 (17 ∷ 18 ∷ 19 ∷ 20 ∷ []) ∷ writes rotating_grant 1 5 0
    (21 ∷ 22 ∷ 23 ∷ 24 ∷ []) ∷ writes rotating_grant 2 6 0 (4 ∷ 4 ∷ 4 ∷ 12 ∷ []) ∷ []) ∷
    on (has_written rotating_grant 0 4) (ADrive 1) [] ∷
    on (has_written rotating_grant 2 6) (ADrive 1) [] ∷
    on (TimesOut 1) TheServer (gives_back 3 0 1 (error 1 65537 0 4 true Unreachable ∷ []) ∷ []) ∷
    ends (answers 3 0 1 8 returned) (WriteOk 8) Nothing [] ∷
    on (has_written rotating_grant 1 5) Nothing [] ∷
    []

pub steps : done (new_client 0 1) events ≡ events
unfolding opened
steps = refl
