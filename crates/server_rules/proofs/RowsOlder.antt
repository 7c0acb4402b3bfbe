-- A drive takes format 2 alone: SET TAG goes again in format 2, and so do the grants behind it.
-- The scenario:
-- drive d0 0b..0b 20000
-- client c0
-- file f0 1 4 0 0 0 1 1
-- do c0 write f0 0 41
-- least d0 2
-- do c0 read f0 0 1
-- revoke f0
-- settle
-- do c0 read f0 0 1
use Rattle.std.specs.Prelude.{List, [], ◌∷◌, refl, ◌≡◌, Some, true, false, None}
use Rattle.osd_commands.specs.declared.actions.Action.TheVariants.{Create, SetTag}
use Rattle.server_rules.specs.declared.limits.TheConstants.{OLD_FORMAT}
use Rattle.server_rules.specs.State.{Server, RawMap, Fenced, Ready, Repaired, Commit, Get, Return, ToRevoke}
use Rattle.server_rules.specs.Commands.{label}
use Rattle.server_rules.specs.History.{Makes, Obeys, Event}
use Rattle.server_rules.specs.Making.{new_server}
use Rattle.server_rules.specs.Rows.{done, on, placing, note, asks_at, performed, replied, creates, raises_tag, answers, committed, returned, Usable, gives_layout}
use Rattle.server_rules.proofs.Opened.{opened}

abbrev striping : RawMap
striping = record { comps = 1; unit = 4; width = 0; depth = 0; mirrors = 0; algorithm = 1 }

abbrev first : Server
first = new_server ((record { number = 0; key = []; capacity = 20000; online = true; zone = None }) ∷ [])

abbrev events : List Event
events =
    placing (0 ∷ []) (on (Makes 0 striping 1 false) [] (creates 0 65536 1 1 1 (label striping 0 0) ∷ [])) ∷
    on (performed 0 Create 65536 1 0 []) (note 0 Ready ∷ []) [] ∷
    on (asks_at 0 0 1 0 (Get 2 0 1)) []
    (answers 0 1 0 0 0
    (gives_layout
    (record {
      number = 1;
      client = 0;
      writes = true;
      expiry = 90;
      tag = 1;
      format = 1;
      offset = 0;
      len = 4;
      map =
          striping;
      components = Usable 0 65536 0 4 ∷ [];
    })) ∷ []) ∷
    on (asks_at 0 0 2 0 (Commit (Some 0))) [] (answers 0 2 0 0 1 committed ∷ []) ∷
    on (asks_at 0 0 3 0 (Return [])) [] (answers 0 3 0 0 1 returned ∷ []) ∷
    on (Obeys ToRevoke 0) [] (raises_tag 0 65536 1 1 2 ∷ []) ∷
    on (replied 0 SetTag OLD_FORMAT 65536 2 0) [] (raises_tag 0 65536 1 2 3 ∷ []) ∷
    on (performed 0 SetTag 65536 3 2 []) (note 0 (Fenced 2) ∷ note 0 (Repaired 0 0) ∷ []) [] ∷
    on (asks_at 0 0 4 0 (Get 1 0 1)) []
    (answers 0 4 0 0 1
    (gives_layout
    (record {
      number = 2;
      client = 0;
      writes = false;
      expiry = 90;
      tag = 2;
      format = 2;
      offset = 0;
      len = 4;
      map =
          striping;
      components = Usable 0 65536 0 4 ∷ [];
    })) ∷ []) ∷
    []

pub steps : done first events ≡ events
unfolding opened
steps = refl
