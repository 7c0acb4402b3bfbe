-- RAID 5: a component is rebuilt from the others on another drive, and an audit finds all well.
-- The scenario:
-- drive d0 0b..0b 20000
-- drive d1 0b..0b 20000
-- drive d2 0b..0b 20000
-- client c0
-- client c1
-- drive d3 0b..0b 20000
-- file f0 3 4 0 0 0 3 1
-- do c0 write f0 0 0102030405060708
-- fail d1
-- declare d1
-- rebuild f0
-- settle
-- audit f0
-- settle
use Rattle.std.specs.Prelude.{List, [], ◌∷◌, refl, ◌≡◌, Some, true, None, false}
use Rattle.osd_commands.specs.declared.actions.Action.TheVariants.{Create, GetAttr, Read, SetTag, Write}
use Rattle.server_rules.specs.State.{Server, RawMap, Audit, Fenced, Ready, Rebuilt, Repaired, Commit, Get, ToAudit, ToDeclare, ToRebuild}
use Rattle.server_rules.specs.Commands.{label}
use Rattle.server_rules.specs.History.{Makes, Obeys, Event}
use Rattle.server_rules.specs.Making.{new_server}
use Rattle.server_rules.specs.Rows.{done, on, placing, note, asks_at, performed, creates, raises_tag, reads_from, writes_to, asks_length, answers, committed, Usable, gives_layout}
use Rattle.server_rules.proofs.Opened.{opened}

abbrev striping : RawMap
striping = record { comps = 3; unit = 4; width = 0; depth = 0; mirrors = 0; algorithm = 3 }

abbrev first : Server
first = new_server
    ((record { number = 0; key = []; capacity = 20000; online = true; zone = None })
    ∷ (record { number = 1; key = []; capacity = 20000; online = true; zone = None })
    ∷ (record { number = 2; key = []; capacity = 20000; online = true; zone = None })
    ∷ (record { number = 3; key = []; capacity = 20000; online = true; zone = None }) ∷ [])

abbrev events : List Event
events =
    placing (0 ∷ 1 ∷ 2 ∷ [])
    (on (Makes 0 striping 1 false) []
    (creates 0 65536 1 1 1 (label striping 0 0) ∷ creates 1 65537 1 1 2 (label striping 0 1) ∷ creates 2 65538 1 1 3
    (label striping 0 2) ∷ [])) ∷
    on (performed 0 Create 65536 1 0 []) [] [] ∷
    on (performed 1 Create 65537 2 0 []) [] [] ∷
    on (performed 2 Create 65538 3 0 []) (note 0 Ready ∷ []) [] ∷
    on (asks_at 0 0 1 0 (Get 2 0 8)) []
    (answers 0 1 0 0 0
    (gives_layout
    (record {
      number = 1;
      client = 0;
      writes = true;
      expiry = 90;
      tag = 1;
      format = 1;
      offset = 0;
      len = 8;
      map =
          striping;
      components = Usable 0 65536 0 4 ∷ Usable 1 65537 0 4 ∷ Usable 2 65538 0 4 ∷ [];
    })) ∷ []) ∷
    on (asks_at 0 0 2 0 (Commit (Some 7))) [] (answers 0 2 0 0 8 committed ∷ []) ∷
    on (Obeys ToDeclare 1) [] [] ∷
    on (Obeys ToRebuild 0) [] (raises_tag 0 65536 1 1 4 ∷ raises_tag 2 65538 1 1 5 ∷ []) ∷
    on (performed 0 SetTag 65536 4 2 []) [] [] ∷
    placing (3 ∷ [])
    (on (performed 2 SetTag 65538 5 2 []) (note 0 (Fenced 2) ∷ note 0 (Repaired 1 1) ∷ [])
    (creates 3 65539 2 1 6 (label striping 0 1) ∷ [])) ∷
    on (performed 3 Create 65539 6 0 []) [] (reads_from 0 65536 2 1 7 0 4 ∷ reads_from 2 65538 2 1 8 0 4 ∷ []) ∷
    on (performed 0 Read 65536 7 4 (1 ∷ 2 ∷ 3 ∷ 4 ∷ [])) [] [] ∷
    on (performed 2 Read 65538 8 4 (4 ∷ 4 ∷ 4 ∷ 12 ∷ [])) [] (writes_to 3 65539 2 1 9 0 (5 ∷ 6 ∷ 7 ∷ 8 ∷ []) ∷ []) ∷
    on (performed 3 Write 65539 9 0 []) (note 0 (Rebuilt 1 3) ∷ []) [] ∷
    on (Obeys ToAudit 0) [] (raises_tag 0 65536 2 1 10 ∷ raises_tag 3 65539 2 1 11 ∷ raises_tag 2 65538 2 1 12 ∷ []) ∷
    on (performed 0 SetTag 65536 10 3 []) [] [] ∷
    on (performed 3 SetTag 65539 11 3 []) [] [] ∷
    on (performed 2 SetTag 65538 12 3 []) (note 0 (Fenced 3) ∷ note 0 (Repaired 0 0) ∷ [])
    (asks_length 0 65536 3 1 13 ∷ asks_length 3 65539 3 1 14 ∷ asks_length 2 65538 3 1 15 ∷ []) ∷
    on (performed 0 GetAttr 65536 13 1 (0 ∷ 0 ∷ 0 ∷ 0 ∷ 0 ∷ 0 ∷ 0 ∷ 4 ∷ [])) [] [] ∷
    on (performed 3 GetAttr 65539 14 1 (0 ∷ 0 ∷ 0 ∷ 0 ∷ 0 ∷ 0 ∷ 0 ∷ 4 ∷ [])) [] [] ∷
    on (performed 2 GetAttr 65538 15 1 (0 ∷ 0 ∷ 0 ∷ 0 ∷ 0 ∷ 0 ∷ 0 ∷ 4 ∷ [])) []
    (reads_from 0 65536 3 1 16 0 4 ∷ reads_from 3 65539 3 1 17 0 4 ∷ reads_from 2 65538 3 1 18 0 4 ∷ []) ∷
    on (performed 0 Read 65536 16 4 (1 ∷ 2 ∷ 3 ∷ 4 ∷ [])) [] [] ∷
    on (performed 3 Read 65539 17 4 (5 ∷ 6 ∷ 7 ∷ 8 ∷ [])) [] [] ∷
    on (performed 2 Read 65538 18 4 (4 ∷ 4 ∷ 4 ∷ 12 ∷ [])) (note 0 (Audit 1 0 0 12) ∷ []) [] ∷
    []

pub steps : done first events ≡ events
unfolding opened
steps = refl
