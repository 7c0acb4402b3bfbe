-- Grants, a conflict, a recall, a clean return; a file that there isn't.
-- The scenario:
-- drive d0 0b..0b 20000
-- client c0
-- client c1
-- file f0 1 4 0 0 0 1 1
-- do c0 write f0 0 41
-- do c1 read f0 0 1
-- call c0 write f0 0 42
-- resend c0
-- deliver 14
-- do c1 read f9 0 1
use Rattle.std.specs.Prelude.{List, [], ◌∷◌, refl, ◌≡◌, Some, true, false, None}
use Rattle.osd_commands.specs.declared.actions.Action.TheVariants.{Create}
use Rattle.layout_ops.specs.declared.statuses.TheConstants.{NFS4ERR_NOENT}
use Rattle.server_rules.specs.State.{Server, RawMap, Ready, Commit, Get, Return}
use Rattle.server_rules.specs.History.{Makes, Event}
use Rattle.server_rules.specs.Making.{new_server}
use Rattle.server_rules.specs.Rows.{done, on, placing, note, asks_at, performed, creates, answers, no_layout, try_later, committed, returned, Usable, gives_layout, recalls}
use Rattle.server_rules.proofs.Opened.{opened}

abbrev striping : RawMap
striping = record { comps = 1; unit = 4; width = 0; depth = 0; mirrors = 0; algorithm = 1 }

abbrev first : Server
first = new_server ((record { number = 0; key = []; capacity = 20000; online = true; zone = None }) ∷ [])

abbrev events : List Event
events =
    placing (0 ∷ [])
    (on (Makes 0 striping 1 false) []
    (creates 0 65536 1 1 1
    (0 ∷ 0 ∷ 0 ∷ 0 ∷ 0 ∷ 0 ∷ 0 ∷ 0 ∷ 0 ∷ 0 ∷ 0 ∷ 1 ∷ 0 ∷ 0 ∷ 0 ∷ 0 ∷ 0 ∷ 0 ∷ 0 ∷ 4 ∷ 0 ∷ 0 ∷ 0 ∷ 0 ∷ 0 ∷ 0 ∷ 0 ∷ 0 ∷ 0 ∷ 0 ∷ 0
    ∷ 0 ∷ 0 ∷ 0 ∷ 0 ∷ 1 ∷ []) ∷ [])) ∷
    on (performed 0 Create 65536 1 0 []) (note 0 Ready ∷ []) [] ∷
    on (asks_at 0 0 1 0 (Get 2 0 1)) []
    (answers 0 1 0 0 0
    (gives_layout
    (record {
      number = 1;
      client = 0;
      writes = true;
      expiry = 90;
      tag = 1;
      format = 1;
      offset = 0;
      len = 4;
      map =
          striping;
      components = Usable 0 65536 0 4 ∷ [];
    })) ∷ []) ∷
    on (asks_at 0 0 2 0 (Commit (Some 0))) [] (answers 0 2 0 0 1 committed ∷ []) ∷
    on (asks_at 0 1 1 0 (Get 1 0 1)) [] (recalls 0 1 0 1 ∷ answers 1 1 0 0 1 try_later ∷ []) ∷
    on (asks_at 0 0 3 0 (Return [])) [] (answers 0 3 0 0 1 returned ∷ []) ∷
    on (asks_at 0 1 2 0 (Get 1 0 1)) []
    (answers 1 2 0 0 1
    (gives_layout
    (record {
      number = 2;
      client = 1;
      writes = false;
      expiry = 90;
      tag = 1;
      format = 1;
      offset = 0;
      len = 4;
      map =
          striping;
      components = Usable 0 65536 0 4 ∷ [];
    })) ∷ []) ∷
    on (asks_at 0 1 3 9 (Get 1 0 1)) [] (answers 1 3 9 0 0 (no_layout NFS4ERR_NOENT) ∷ []) ∷
    []

pub steps : done first events ≡ events
unfolding opened
steps = refl
