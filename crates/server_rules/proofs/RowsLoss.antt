-- A report that is taken as a loss, and a reader behind it.
-- The scenario:
-- drive d0 0b..0b 20000
-- drive d1 0b..0b 20000
-- drive d2 0b..0b 20000
-- client c0
-- client c1
-- file f0 3 4 0 0 0 3 1
-- do c0 write f0 0 0102030405060708
-- fail d2
-- do c0 write f0 0 ff
-- do c1 read f0 0 8
use Rattle.std.specs.Prelude.{List, [], ◌∷◌, refl, ◌≡◌, Some, true, false, None}
use Rattle.layout_types.specs.declared.ioerrs.Errno.TheVariants.{Unreachable}
use Rattle.osd_commands.specs.declared.actions.Action.TheVariants.{Create}
use Rattle.server_rules.specs.State.{Server, RawMap, Ready, Reported, Commit, Get, Return}
use Rattle.server_rules.specs.Commands.{label}
use Rattle.server_rules.specs.History.{Makes, Event}
use Rattle.server_rules.specs.Making.{new_server}
use Rattle.server_rules.specs.Rows.{done, on, placing, note, asks_at, performed, error_at, creates, answers, committed, returned, Usable, Missing, gives_layout}
use Rattle.server_rules.proofs.Opened.{opened}

abbrev striping : RawMap
striping = record { comps = 3; unit = 4; width = 0; depth = 0; mirrors = 0; algorithm = 3 }

abbrev first : Server
first = new_server
    ((record { number = 0; key = []; capacity = 20000; online = true; zone = None })
    ∷ (record { number = 1; key = []; capacity = 20000; online = true; zone = None })
    ∷ (record { number = 2; key = []; capacity = 20000; online = true; zone = None }) ∷ [])

abbrev events : List Event
events =
    placing (0 ∷ 1 ∷ 2 ∷ [])
    (on (Makes 0 striping 1 false) []
    (creates 0 65536 1 1 1 (label striping 0 0) ∷ creates 1 65537 1 1 2 (label striping 0 1) ∷ creates 2 65538 1 1 3
    (label striping 0 2) ∷ [])) ∷
    on (performed 0 Create 65536 1 0 []) [] [] ∷
    on (performed 1 Create 65537 2 0 []) [] [] ∷
    on (performed 2 Create 65538 3 0 []) (note 0 Ready ∷ []) [] ∷
    on (asks_at 0 0 1 0 (Get 2 0 8)) []
    (answers 0 1 0 0 0
    (gives_layout
    (record {
      number = 1;
      client = 0;
      writes = true;
      expiry = 90;
      tag = 1;
      format = 1;
      offset = 0;
      len = 8;
      map =
          striping;
      components = Usable 0 65536 0 4 ∷ Usable 1 65537 0 4 ∷ Usable 2 65538 0 4 ∷ [];
    })) ∷ []) ∷
    on (asks_at 0 0 2 0 (Commit (Some 7))) [] (answers 0 2 0 0 8 committed ∷ []) ∷
    on (asks_at 0 0 3 0 (Return (error_at 2 65538 65538 Unreachable ∷ []))) (note 0 (Reported 2) ∷ [])
    (answers 0 3 0 1 8 returned ∷ []) ∷
    on (asks_at 0 1 1 0 (Get 1 0 8)) []
    (answers 1 1 0 0 8
    (gives_layout
    (record {
      number = 2;
      client = 1;
      writes = false;
      expiry = 90;
      tag = 1;
      format = 1;
      offset = 0;
      len = 8;
      map =
          striping;
      components = Usable 0 65536 0 4 ∷ Usable 1 65537 0 4 ∷ Missing 2 65538 ∷ [];
    })) ∷ []) ∷
    []

pub steps : done first events ≡ events
unfolding opened
steps = refl
