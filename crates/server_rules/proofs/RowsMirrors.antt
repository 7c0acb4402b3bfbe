-- A repair makes the mirrors equal to the first present replica of each position.
-- The scenario:
-- drive d0 0b..0b 20000
-- drive d1 0b..0b 20000
-- drive d2 0b..0b 20000
-- drive d3 0b..0b 20000
-- client c0
-- client c1
-- file f0 4 2 0 0 1 1 1
-- call c0 write f0 0 0a0b0c0d
-- deliver 8
-- deliver 9
-- deliver 10
-- revoke f0
-- settle
use Rattle.std.specs.Prelude.{List, [], ◌∷◌, refl, ◌≡◌, Some, true, None, false}
use Rattle.osd_commands.specs.declared.actions.Action.TheVariants.{Create, Read, SetTag}
use Rattle.layout_ops.specs.declared.statuses.TheConstants.{NFS4ERR_BADLAYOUT}
use Rattle.server_rules.specs.State.{Server, RawMap, Fenced, Ready, Repaired, Commit, Get, ToRevoke}
use Rattle.server_rules.specs.Commands.{label}
use Rattle.server_rules.specs.History.{Makes, Obeys, Event}
use Rattle.server_rules.specs.Making.{new_server}
use Rattle.server_rules.specs.Rows.{done, on, placing, note, asks_at, performed, creates, raises_tag, reads_from, answers, not_committed, Usable, gives_layout}
use Rattle.server_rules.proofs.Opened.{opened}

abbrev striping : RawMap
striping = record { comps = 4; unit = 2; width = 0; depth = 0; mirrors = 1; algorithm = 1 }

abbrev first : Server
first = new_server
    ((record { number = 0; key = []; capacity = 20000; online = true; zone = None })
    ∷ (record { number = 1; key = []; capacity = 20000; online = true; zone = None })
    ∷ (record { number = 2; key = []; capacity = 20000; online = true; zone = None })
    ∷ (record { number = 3; key = []; capacity = 20000; online = true; zone = None }) ∷ [])

abbrev events : List Event
events =
    placing (0 ∷ 1 ∷ 2 ∷ 3 ∷ [])
    (on (Makes 0 striping 1 false) []
    (creates 0 65536 1 1 1 (label striping 0 0) ∷ creates 1 65537 1 1 2 (label striping 0 1) ∷ creates 2 65538 1 1 3
    (label striping 0 2) ∷ creates 3 65539 1 1 4 (label striping 0 3) ∷ [])) ∷
    on (performed 0 Create 65536 1 0 []) [] [] ∷
    on (performed 1 Create 65537 2 0 []) [] [] ∷
    on (performed 2 Create 65538 3 0 []) [] [] ∷
    on (performed 3 Create 65539 4 0 []) (note 0 Ready ∷ []) [] ∷
    on (asks_at 0 0 1 0 (Get 2 0 4)) []
    (answers 0 1 0 0 0
    (gives_layout
    (record {
      number = 1;
      client = 0;
      writes = true;
      expiry = 90;
      tag = 1;
      format = 1;
      offset = 0;
      len = 4;
      map =
          striping;
      components = Usable 0 65536 0 2 ∷ Usable 1 65537 0 2 ∷ Usable 2 65538 0 2 ∷ Usable 3 65539 0 2 ∷ [];
    })) ∷ []) ∷
    on (Obeys ToRevoke 0) []
    (raises_tag 0 65536 1 1 5 ∷ raises_tag 1 65537 1 1 6 ∷ raises_tag 2 65538 1 1 7 ∷ raises_tag 3 65539 1 1 8 ∷ []) ∷
    on (performed 0 SetTag 65536 5 2 []) [] [] ∷
    on (performed 1 SetTag 65537 6 2 []) [] [] ∷
    on (performed 2 SetTag 65538 7 2 []) [] [] ∷
    on (performed 3 SetTag 65539 8 2 []) (note 0 (Fenced 2) ∷ [])
    (reads_from 0 65536 2 1 9 0 2 ∷ reads_from 1 65537 2 1 10 0 2 ∷ reads_from 2 65538 2 1 11 0 2
    ∷ reads_from 3 65539 2 1 12 0 2 ∷ []) ∷
    on (asks_at 0 0 2 0 (Commit (Some 3))) [] (answers 0 2 0 0 0 (not_committed NFS4ERR_BADLAYOUT) ∷ []) ∷
    on (performed 0 Read 65536 9 2 (10 ∷ 11 ∷ [])) [] [] ∷
    on (performed 1 Read 65537 10 2 (10 ∷ 11 ∷ [])) [] [] ∷
    on (performed 2 Read 65538 11 2 (12 ∷ 13 ∷ [])) [] [] ∷
    on (performed 3 Read 65539 12 2 (12 ∷ 13 ∷ [])) (note 0 (Repaired 1 0) ∷ []) [] ∷
    []

pub steps : done first events ≡ events
unfolding opened
steps = refl
