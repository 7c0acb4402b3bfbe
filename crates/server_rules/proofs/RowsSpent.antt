-- The greatest tag: a fence is refused, and so is each LAYOUTGET after an opening.
-- The scenario:
-- drive d0 0b..0b 20000
-- client c0
-- client c1
-- file f0 1 4 0 0 0 1 4294967295
-- do c0 write f0 0 41
-- revoke f0
-- do c0 read f0 0 1
-- crash s
-- reopen s
-- do c0 read f0 0 1
-- do c1 read f0 0 1
use Rattle.std.specs.Prelude.{List, [], ◌∷◌, refl, ◌≡◌, Some, true, None, false}
use Rattle.osd_commands.specs.declared.actions.Action.TheVariants.{Create}
use Rattle.layout_ops.specs.declared.statuses.TheConstants.{NFS4ERR_LAYOUTUNAVAILABLE}
use Rattle.server_rules.specs.State.{Server, RawMap, Ready, Spent, Commit, Get, ToRevoke}
use Rattle.server_rules.specs.Commands.{label}
use Rattle.server_rules.specs.History.{Makes, Obeys, Crashes, Opens, Event}
use Rattle.server_rules.specs.Making.{new_server}
use Rattle.server_rules.specs.Rows.{done, on, placing, note, asks_at, performed, creates, answers, no_layout, committed, Usable, gives_layout}
use Rattle.server_rules.proofs.Opened.{opened}

abbrev striping : RawMap
striping = record { comps = 1; unit = 4; width = 0; depth = 0; mirrors = 0; algorithm = 1 }

abbrev first : Server
first = new_server ((record { number = 0; key = []; capacity = 20000; online = true; zone = None }) ∷ [])

abbrev events : List Event
events =
    placing (0 ∷ []) (on (Makes 0 striping 4294967295 false) [] (creates 0 65536 4294967295 1 1 (label striping 0 0) ∷ [])) ∷
    on (performed 0 Create 65536 1 0 []) (note 0 Ready ∷ []) [] ∷
    on (asks_at 0 0 1 0 (Get 2 0 1)) []
    (answers 0 1 0 0 0
    (gives_layout
    (record {
      number = 1;
      client = 0;
      writes = true;
      expiry = 90;
      tag = 4294967295;
      format = 1;
      offset = 0;
      len = 4;
      map =
          striping;
      components = Usable 0 65536 0 4 ∷ [];
    })) ∷ []) ∷
    on (asks_at 0 0 2 0 (Commit (Some 0))) [] (answers 0 2 0 0 1 committed ∷ []) ∷
    on (Obeys ToRevoke 0) (note 0 Spent ∷ []) [] ∷
    on Crashes [] [] ∷
    on Opens (note 0 Spent ∷ []) [] ∷
    on (asks_at 0 1 1 0 (Get 1 0 1)) [] (answers 1 1 0 4294967295 1 (no_layout NFS4ERR_LAYOUTUNAVAILABLE) ∷ []) ∷
    []

pub steps : done first events ≡ events
unfolding opened
steps = refl
