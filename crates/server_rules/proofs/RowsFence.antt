-- A fence waits for one component, LAYOUTGETs are told so, and its SET TAG is sent once more.
-- The scenario:
-- drive d0 0b..0b 20000
-- drive d1 0b..0b 20000
-- drive d2 0b..0b 20000
-- client c0
-- client c1
-- file f0 3 4 0 0 0 3 1
-- do c0 write f0 0 0102030405060708
-- revoke f0
-- drop 18
-- settle
-- do c1 read f0 0 1
-- resend s
-- settle
-- do c1 read f0 0 1
use Rattle.std.specs.Prelude.{List, [], ◌∷◌, refl, ◌≡◌, Some, true, false, None}
use Rattle.osd_commands.specs.declared.actions.Action.TheVariants.{Create, Read, SetTag}
use Rattle.layout_ops.specs.declared.statuses.TheConstants.{NFS4ERR_RECALLCONFLICT}
use Rattle.server_rules.specs.State.{Server, RawMap, Fenced, Ready, Repaired, Commit, Get, ToRevoke}
use Rattle.server_rules.specs.Commands.{label}
use Rattle.server_rules.specs.History.{Makes, Obeys, Resends, Event}
use Rattle.server_rules.specs.Making.{new_server}
use Rattle.server_rules.specs.Rows.{done, on, placing, note, asks_at, performed, creates, raises_tag, reads_from, answers, no_layout, committed, Usable, gives_layout}
use Rattle.server_rules.proofs.Opened.{opened}

abbrev striping : RawMap
striping = record { comps = 3; unit = 4; width = 0; depth = 0; mirrors = 0; algorithm = 3 }

abbrev first : Server
first = new_server
    ((record { number = 0; key = []; capacity = 20000; online = true; zone = None })
    ∷ (record { number = 1; key = []; capacity = 20000; online = true; zone = None })
    ∷ (record { number = 2; key = []; capacity = 20000; online = true; zone = None }) ∷ [])

abbrev events : List Event
events =
    placing (0 ∷ 1 ∷ 2 ∷ [])
    (on (Makes 0 striping 1 false) []
    (creates 0 65536 1 1 1 (label striping 0 0) ∷ creates 1 65537 1 1 2 (label striping 0 1) ∷ creates 2 65538 1 1 3
    (label striping 0 2) ∷ [])) ∷
    on (performed 0 Create 65536 1 0 []) [] [] ∷
    on (performed 1 Create 65537 2 0 []) [] [] ∷
    on (performed 2 Create 65538 3 0 []) (note 0 Ready ∷ []) [] ∷
    on (asks_at 0 0 1 0 (Get 2 0 8)) []
    (answers 0 1 0 0 0
    (gives_layout
    (record {
      number = 1;
      client = 0;
      writes = true;
      expiry = 90;
      tag = 1;
      format = 1;
      offset = 0;
      len = 8;
      map =
          striping;
      components = Usable 0 65536 0 4 ∷ Usable 1 65537 0 4 ∷ Usable 2 65538 0 4 ∷ [];
    })) ∷ []) ∷
    on (asks_at 0 0 2 0 (Commit (Some 7))) [] (answers 0 2 0 0 8 committed ∷ []) ∷
    on (Obeys ToRevoke 0) [] (raises_tag 0 65536 1 1 4 ∷ raises_tag 1 65537 1 1 5 ∷ raises_tag 2 65538 1 1 6 ∷ []) ∷
    on (performed 0 SetTag 65536 4 2 []) [] [] ∷
    on (performed 1 SetTag 65537 5 2 []) [] [] ∷
    on (asks_at 0 1 1 0 (Get 1 0 1)) [] (answers 1 1 0 2 8 (no_layout NFS4ERR_RECALLCONFLICT) ∷ []) ∷
    on (asks_at 0 1 2 0 (Get 1 0 1)) [] (answers 1 2 0 2 8 (no_layout NFS4ERR_RECALLCONFLICT) ∷ []) ∷
    on (asks_at 0 1 3 0 (Get 1 0 1)) [] (answers 1 3 0 2 8 (no_layout NFS4ERR_RECALLCONFLICT) ∷ []) ∷
    on Resends [] (raises_tag 2 65538 1 1 6 ∷ []) ∷
    on (performed 2 SetTag 65538 6 2 []) (note 0 (Fenced 2) ∷ [])
    (reads_from 0 65536 2 1 7 0 4 ∷ reads_from 1 65537 2 1 8 0 4 ∷ reads_from 2 65538 2 1 9 0 4 ∷ []) ∷
    on (performed 0 Read 65536 7 4 (1 ∷ 2 ∷ 3 ∷ 4 ∷ [])) [] [] ∷
    on (performed 1 Read 65537 8 4 (5 ∷ 6 ∷ 7 ∷ 8 ∷ [])) [] [] ∷
    on (performed 2 Read 65538 9 4 (4 ∷ 4 ∷ 4 ∷ 12 ∷ [])) (note 0 (Repaired 1 0) ∷ []) [] ∷
    on (asks_at 0 1 4 0 (Get 1 0 1)) []
    (answers 1 4 0 0 8
    (gives_layout
    (record {
      number = 2;
      client = 1;
      writes = false;
      expiry = 90;
      tag = 2;
      format = 1;
      offset = 0;
      len = 8;
      map =
          striping;
      components = Usable 0 65536 0 4 ∷ Usable 1 65537 0 4 ∷ Usable 2 65538 0 4 ∷ [];
    })) ∷ []) ∷
    []

pub steps : done first events ≡ events
unfolding opened
steps = refl
