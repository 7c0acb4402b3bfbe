-- A timeout where nothing is awaited of the component changes nothing; the commit is sent once more.
use Rattle.std.specs.Prelude.{◌≡◌, refl, List, [], ◌∷◌}
use Rattle.client_rules.specs.State.{Write, WriteOk, Nothing, TheServer, ADrive}
use Rattle.client_rules.specs.Steps.{new_client}
use Rattle.client_rules.specs.History.{Calls, TimesOut, Resends}
use Rattle.client_rules.specs.Rows.{Event, done, on, ends, answers, gives_layout, committed, has_written, asks_to_write, commits, writes}
use Rattle.client_rules.proofs.Opened.{opened}
use Rattle.client_rules.proofs.RowsGrants.{striping_grant}

abbrev events : List Event
events =
    on (Calls (Write 0 0 (65 ∷ []))) TheServer (asks_to_write 1 0 0 1 ∷ []) ∷
    on (answers 1 0 0 0 (gives_layout striping_grant)) (ADrive 0) (writes striping_grant 0 1 0 (65 ∷ []) ∷ []) ∷
    on (has_written striping_grant 0 1) TheServer (commits 2 0 1 0 1 ∷ []) ∷
    on (TimesOut 0) TheServer [] ∷
    on Resends TheServer (commits 2 0 1 0 1 ∷ []) ∷
    ends (answers 2 0 0 1 committed) (WriteOk 1) Nothing [] ∷
    on (answers 2 0 0 1 committed) Nothing [] ∷
    []

pub steps : done (new_client 0 1) events ≡ events
unfolding opened
steps = refl
