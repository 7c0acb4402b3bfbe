-- A rebuild that can't decode what is lost, and one that finds no drive: plain striping has no parity.
use Rattle.std.specs.Prelude.{List, [], ◌∷◌, refl, ◌≡◌, true, None, false}
use Rattle.osd_commands.specs.declared.actions.Action.TheVariants.{Create, SetTag}
use Rattle.server_rules.specs.State.{Server, RawMap, Fenced, Lost, NoDrive, Ready, Repaired, Get, Return, ToDeclare, ToRebuild}
use Rattle.server_rules.specs.Commands.{label}
use Rattle.server_rules.specs.History.{Makes, Obeys, Event}
use Rattle.server_rules.specs.Making.{new_server}
use Rattle.server_rules.specs.Rows.{done, on, placing, note, asks_at, performed, creates, raises_tag, answers, returned, Usable, gives_layout}
use Rattle.server_rules.proofs.Opened.{opened}

abbrev striping : RawMap
striping = record { comps = 2; unit = 4; width = 0; depth = 0; mirrors = 0; algorithm = 1 }

abbrev first : Server
first = new_server
    ((record { number = 0; key = []; capacity = 20000; online = true; zone = None })
    ∷ (record { number = 1; key = []; capacity = 20000; online = true; zone = None })
    ∷ (record { number = 2; key = []; capacity = 20000; online = true; zone = None }) ∷ [])

abbrev events : List Event
events =
    placing (0 ∷ 1 ∷ [])
    (on (Makes 0 striping 1 false) []
    (creates 0 65536 1 1 1 (label striping 0 0) ∷ creates 1 65537 1 1 2 (label striping 0 1) ∷ [])) ∷
    on (performed 0 Create 65536 1 0 []) [] [] ∷
    on (performed 1 Create 65537 2 0 []) (note 0 Ready ∷ []) [] ∷
    on (asks_at 0 0 1 0 (Get 2 0 8)) []
    (answers 0 1 0 0 0
    (gives_layout
    (record {
      number = 1;
      client = 0;
      writes = true;
      expiry = 90;
      tag = 1;
      format = 1;
      offset = 0;
      len = 8;
      map =
          striping;
      components = Usable 0 65536 0 4 ∷ Usable 1 65537 0 4 ∷ [];
    })) ∷ []) ∷
    on (asks_at 0 0 2 0 (Return [])) [] (answers 0 2 0 0 0 returned ∷ []) ∷
    on (Obeys ToDeclare 1) [] [] ∷
    on (Obeys ToRebuild 0) [] (raises_tag 0 65536 1 1 3 ∷ []) ∷
    placing (2 ∷ [])
    (on (performed 0 SetTag 65536 3 2 []) (note 0 (Fenced 2) ∷ note 0 (Repaired 0 0) ∷ [])
    (creates 2 65538 2 1 4 (label striping 0 1) ∷ [])) ∷
    on (performed 2 Create 65538 4 0 []) (note 0 (Lost 1 (1 ∷ [])) ∷ []) [] ∷
    on (Obeys ToDeclare 2) [] [] ∷
    on (Obeys ToRebuild 0) [] (raises_tag 0 65536 2 1 5 ∷ []) ∷
    on (performed 0 SetTag 65536 5 3 []) (note 0 (Fenced 3) ∷ note 0 (Repaired 0 0) ∷ note 0 (NoDrive 1) ∷ []) [] ∷
    []

pub steps : done first events ≡ events
unfolding opened
steps = refl
