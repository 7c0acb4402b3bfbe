-- Two groups of two: a report that is taken as a loss, a grant on a short file, an audit that finds short stripes.
-- The scenario:
-- drive d0 0b..0b 20000
-- drive d1 0b..0b 20000
-- drive d2 0b..0b 20000
-- drive d3 0b..0b 20000
-- client c0
-- client c1
-- file f0 4 2 2 2 0 3 1
-- do c0 write f0 0 010203040506
-- do c1 read f0 4 1
-- do c0 write f0 0 ff
-- fail d2
-- do c0 write f0 5 aa
-- audit f0
-- settle
use Rattle.std.specs.Prelude.{List, [], ◌∷◌, refl, ◌≡◌, Some, true, false, None}
use Rattle.layout_types.specs.declared.ioerrs.Errno.TheVariants.{Unreachable}
use Rattle.osd_commands.specs.declared.actions.Action.TheVariants.{Create, GetAttr, Read, SetTag}
use Rattle.server_rules.specs.State.{Server, RawMap, Audit, Fenced, Ready, Repaired, Reported, Commit, Get, Return, ToAudit}
use Rattle.server_rules.specs.Commands.{label}
use Rattle.server_rules.specs.History.{Makes, Obeys, Event}
use Rattle.server_rules.specs.Making.{new_server}
use Rattle.server_rules.specs.Rows.{done, on, placing, note, asks_at, performed, error_at, creates, raises_tag, reads_from, asks_length, answers, try_later, committed, returned, Usable, gives_layout, recalls}
use Rattle.server_rules.proofs.Opened.{opened}

abbrev striping : RawMap
striping = record { comps = 4; unit = 2; width = 2; depth = 2; mirrors = 0; algorithm = 3 }

abbrev first : Server
first = new_server
    ((record { number = 0; key = []; capacity = 20000; online = true; zone = None })
    ∷ (record { number = 1; key = []; capacity = 20000; online = true; zone = None })
    ∷ (record { number = 2; key = []; capacity = 20000; online = true; zone = None })
    ∷ (record { number = 3; key = []; capacity = 20000; online = true; zone = None }) ∷ [])

abbrev events : List Event
events =
    placing (0 ∷ 1 ∷ 2 ∷ 3 ∷ [])
    (on (Makes 0 striping 1 false) []
    (creates 0 65536 1 1 1 (label striping 0 0) ∷ creates 1 65537 1 1 2 (label striping 0 1) ∷ creates 2 65538 1 1 3
    (label striping 0 2) ∷ creates 3 65539 1 1 4 (label striping 0 3) ∷ [])) ∷
    on (performed 0 Create 65536 1 0 []) [] [] ∷
    on (performed 1 Create 65537 2 0 []) [] [] ∷
    on (performed 2 Create 65538 3 0 []) [] [] ∷
    on (performed 3 Create 65539 4 0 []) (note 0 Ready ∷ []) [] ∷
    on (asks_at 0 0 1 0 (Get 2 0 6)) []
    (answers 0 1 0 0 0
    (gives_layout
    (record {
      number = 1;
      client = 0;
      writes = true;
      expiry = 90;
      tag = 1;
      format = 1;
      offset = 0;
      len = 6;
      map =
          striping;
      components = Usable 0 65536 0 4 ∷ Usable 1 65537 0 4 ∷ Usable 2 65538 0 2 ∷ Usable 3 65539 0 2 ∷ [];
    })) ∷ []) ∷
    on (asks_at 0 0 2 0 (Commit (Some 5))) [] (answers 0 2 0 0 6 committed ∷ []) ∷
    on (asks_at 0 1 1 0 (Get 1 4 1)) [] (recalls 0 1 0 1 ∷ answers 1 1 0 0 6 try_later ∷ []) ∷
    on (asks_at 0 0 3 0 (Return [])) [] (answers 0 3 0 0 6 returned ∷ []) ∷
    on (asks_at 0 1 2 0 (Get 1 4 1)) []
    (answers 1 2 0 0 6
    (gives_layout
    (record {
      number = 2;
      client = 1;
      writes = false;
      expiry = 90;
      tag = 1;
      format = 1;
      offset = 4;
      len = 2;
      map =
          striping;
      components = Usable 0 65536 0 0 ∷ Usable 1 65537 0 0 ∷ Usable 2 65538 0 2 ∷ Usable 3 65539 0 2 ∷ [];
    })) ∷ []) ∷
    on (asks_at 0 0 4 0 (Get 2 0 1)) []
    (answers 0 4 0 0 6
    (gives_layout
    (record {
      number = 3;
      client = 0;
      writes = true;
      expiry = 90;
      tag = 1;
      format = 1;
      offset = 0;
      len = 2;
      map =
          striping;
      components = Usable 0 65536 0 2 ∷ Usable 1 65537 0 2 ∷ Usable 2 65538 0 0 ∷ Usable 3 65539 0 0 ∷ [];
    })) ∷ []) ∷
    on (asks_at 0 0 5 0 (Return [])) [] (answers 0 5 0 0 6 returned ∷ []) ∷
    on (asks_at 0 0 6 0 (Get 2 5 1)) [] (recalls 1 2 0 2 ∷ answers 0 6 0 1 6 try_later ∷ []) ∷
    on (asks_at 0 1 3 0 (Return [])) [] (answers 1 3 0 0 6 returned ∷ []) ∷
    on (asks_at 0 0 7 0 (Get 2 5 1)) []
    (answers 0 7 0 0 6
    (gives_layout
    (record {
      number = 4;
      client = 0;
      writes = true;
      expiry = 90;
      tag = 1;
      format = 1;
      offset = 4;
      len = 2;
      map =
          striping;
      components = Usable 0 65536 0 0 ∷ Usable 1 65537 0 0 ∷ Usable 2 65538 0 2 ∷ Usable 3 65539 0 2 ∷ [];
    })) ∷ []) ∷
    on (asks_at 0 0 8 0 (Return (error_at 2 65538 65538 Unreachable ∷ []))) (note 0 (Reported 2) ∷ [])
    (answers 0 8 0 1 6 returned ∷ []) ∷
    on (Obeys ToAudit 0) [] (raises_tag 0 65536 1 1 5 ∷ raises_tag 1 65537 1 1 6 ∷ raises_tag 3 65539 1 1 7 ∷ []) ∷
    on (performed 0 SetTag 65536 5 2 []) [] [] ∷
    on (performed 1 SetTag 65537 6 2 []) [] [] ∷
    on (performed 3 SetTag 65539 7 2 []) (note 0 (Fenced 2) ∷ note 0 (Repaired 0 0) ∷ [])
    (asks_length 0 65536 2 1 8 ∷ asks_length 1 65537 2 1 9 ∷ asks_length 3 65539 2 1 10 ∷ []) ∷
    on (performed 0 GetAttr 65536 8 1 (0 ∷ 0 ∷ 0 ∷ 0 ∷ 0 ∷ 0 ∷ 0 ∷ 4 ∷ [])) [] [] ∷
    on (performed 1 GetAttr 65537 9 1 (0 ∷ 0 ∷ 0 ∷ 0 ∷ 0 ∷ 0 ∷ 0 ∷ 4 ∷ [])) [] [] ∷
    on (performed 3 GetAttr 65539 10 1 (0 ∷ 0 ∷ 0 ∷ 0 ∷ 0 ∷ 0 ∷ 0 ∷ 2 ∷ [])) []
    (reads_from 0 65536 2 1 11 0 2 ∷ reads_from 1 65537 2 1 12 0 2 ∷ []) ∷
    on (performed 0 Read 65536 11 4 (255 ∷ 2 ∷ [])) [] [] ∷
    on (performed 1 Read 65537 12 4 (255 ∷ 2 ∷ [])) [] (reads_from 0 65536 2 1 13 2 2 ∷ reads_from 1 65537 2 1 14 2 2 ∷ []) ∷
    on (performed 0 Read 65536 13 4 (3 ∷ 4 ∷ [])) [] [] ∷
    on (performed 1 Read 65537 14 4 (3 ∷ 4 ∷ [])) [] (reads_from 3 65539 2 1 15 0 2 ∷ []) ∷
    on (performed 3 Read 65539 15 2 (5 ∷ 170 ∷ [])) (note 0 (Audit 3 1 0 10) ∷ []) [] ∷
    []

pub steps : done first events ≡ events
unfolding opened
steps = refl
