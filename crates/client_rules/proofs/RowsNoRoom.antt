-- A WRITE that finds no room is reported, and the call ends with the answer to that.
use Rattle.std.specs.Prelude.{◌≡◌, refl, List, [], ◌∷◌, true}
use Rattle.osd_commands.specs.declared.actions.Action.TheVariants.{Write as ToWrite}
use Rattle.layout_types.specs.declared.ioerrs.Errno.TheVariants.{NoSpace}
use Rattle.client_rules.specs.declared.limits.TheConstants.{NO_SPACE}
use Rattle.client_rules.specs.State.{Write, Refused, Nothing, TheServer, ADrive}
use Rattle.client_rules.specs.Steps.{new_client}
use Rattle.client_rules.specs.History.{Calls}
use Rattle.client_rules.specs.Rows.{Event, Given, Usable, done, on, ends, answers, gives_layout, returned, replies, has_written, asks_to_write, gives_back, error, writes}
use Rattle.client_rules.proofs.Opened.{opened}
use Rattle.client_rules.proofs.RowsGrants.{striping}

abbrev first_grant : Given
first_grant = record { number = 1; writes = true; offset = 0; len = 8; map = striping; components = Usable 0 65536 0 8 ∷ [] }

abbrev events : List Event
events =
    on (Calls (Write 0 0 (1 ∷ 2 ∷ 3 ∷ 4 ∷ 5 ∷ []))) TheServer (asks_to_write 1 0 0 5 ∷ []) ∷
    on (answers 1 0 0 0 (gives_layout first_grant)) (ADrive 0) (writes first_grant 0 1 0 (1 ∷ 2 ∷ 3 ∷ 4 ∷ []) ∷ []) ∷
    on (has_written first_grant 0 1) (ADrive 0) (writes first_grant 0 2 4 (5 ∷ []) ∷ []) ∷
    on (replies first_grant 0 2 ToWrite NO_SPACE 0 []) TheServer (gives_back 2 0 1 (error 0 65536 4 1 true NoSpace ∷ []) ∷ []) ∷
    ends (answers 2 0 0 0 returned) (Refused 0 NO_SPACE 0) Nothing [] ∷
    []

pub steps : done (new_client 0 1) events ≡ events
unfolding opened
steps = refl
