-- Another tag means that the grant is over: it is forgotten, and the next call asks for another.
use Rattle.std.specs.Prelude.{◌≡◌, refl, List, [], ◌∷◌, false}
use Rattle.osd_commands.specs.declared.actions.Action.TheVariants.{Read as ToRead}
use Rattle.client_rules.specs.declared.limits.TheConstants.{OTHER_TAG}
use Rattle.client_rules.specs.State.{Write, Read, WriteOk, ReadOk, Refused, Nothing, TheServer, ADrive}
use Rattle.client_rules.specs.Steps.{new_client}
use Rattle.client_rules.specs.History.{Calls}
use Rattle.client_rules.specs.Rows.{Event, Given, Usable, done, on, ends, answers, gives_layout, committed, replies, has_read, has_written, asks_to_read, asks_to_write, commits, reads, writes}
use Rattle.client_rules.proofs.Opened.{opened}
use Rattle.client_rules.proofs.RowsGrants.{rotating, rotating_grant}

abbrev second_grant : Given
second_grant =
    record {
      number = 2;
      writes = false;
      offset = 0;
      len = 8;
      map = rotating;
      components =
          Usable 0 65536 0 4 ∷ Usable 1 65537 0 4 ∷ Usable 2 65538 0 4 ∷ [];
    }

abbrev events : List Event
events =
    on (Calls (Write 0 0 (1 ∷ 2 ∷ 3 ∷ 4 ∷ 5 ∷ 6 ∷ 7 ∷ 8 ∷ []))) TheServer (asks_to_write 1 0 0 8 ∷ []) ∷
    on (answers 1 0 0 0 (gives_layout rotating_grant)) (ADrive 0)
    (writes rotating_grant 0 1 0 (1 ∷ 2 ∷ 3 ∷ 4 ∷ []) ∷ writes rotating_grant 1 2 0
    (5 ∷ 6 ∷ 7 ∷ 8 ∷ []) ∷ writes rotating_grant 2 3 0 (4 ∷ 4 ∷ 4 ∷ 12 ∷ []) ∷ []) ∷
    on (has_written rotating_grant 0 1) (ADrive 1) [] ∷
    on (has_written rotating_grant 1 2) (ADrive 2) [] ∷
    on (has_written rotating_grant 2 3) TheServer (commits 2 0 1 0 8 ∷ []) ∷
    ends (answers 2 0 0 8 committed) (WriteOk 8) Nothing [] ∷
    on (Calls (Read 0 0 1)) (ADrive 0) (reads rotating_grant 0 4 0 1 ∷ []) ∷
    ends (replies rotating_grant 0 4 ToRead OTHER_TAG 2 []) (Refused 0 OTHER_TAG 2) Nothing [] ∷
    on (Calls (Read 0 0 1)) TheServer (asks_to_read 3 0 0 1 ∷ []) ∷
    on (answers 3 0 0 8 (gives_layout second_grant)) (ADrive 0) (reads second_grant 0 1 0 1 ∷ []) ∷
    ends (has_read second_grant 0 1 (1 ∷ [])) (ReadOk (1 ∷ [])) Nothing [] ∷
    []

pub steps : done (new_client 0 1) events ≡ events
unfolding opened
steps = refl
