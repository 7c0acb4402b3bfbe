-- The last number of a grant is given, and behind it none is left.
use Rattle.std.specs.Prelude.{List, [], ◌∷◌, refl, ◌≡◌, true, false, None}
use Rattle.osd_commands.specs.declared.actions.Action.TheVariants.{Create}
use Rattle.layout_ops.specs.declared.statuses.TheConstants.{NFS4ERR_LAYOUTUNAVAILABLE}
use Rattle.server_rules.specs.State.{Server, RawMap, Ready, Get, Return}
use Rattle.server_rules.specs.Commands.{label}
use Rattle.server_rules.specs.History.{Makes, Event}
use Rattle.server_rules.specs.Making.{new_server}
use Rattle.server_rules.specs.Rows.{done, on, placing, note, asks_at, performed, creates, answers, no_layout, returned, Usable, gives_layout}
use Rattle.server_rules.proofs.Opened.{opened}

abbrev striping : RawMap
striping = record { comps = 1; unit = 4; width = 0; depth = 0; mirrors = 0; algorithm = 1 }

abbrev first : Server
first = record (new_server ((record { number = 0; key = []; capacity = 20000; online = true; zone = None }) ∷ [])) {
  next_grant =
      4294967295;
}

abbrev events : List Event
events =
    placing (0 ∷ []) (on (Makes 0 striping 1 false) [] (creates 0 65536 1 1 1 (label striping 0 0) ∷ [])) ∷
    on (performed 0 Create 65536 1 0 []) (note 0 Ready ∷ []) [] ∷
    on (asks_at 0 0 1 0 (Get 1 0 1)) []
    (answers 0 1 0 0 0
    (gives_layout
    (record {
      number = 4294967295;
      client = 0;
      writes = false;
      expiry = 90;
      tag = 1;
      format = 1;
      offset = 0;
      len = 4;
      map =
          striping;
      components = Usable 0 65536 0 4 ∷ [];
    })) ∷ []) ∷
    on (asks_at 0 0 2 0 (Return [])) [] (answers 0 2 0 0 0 returned ∷ []) ∷
    on (asks_at 0 0 3 0 (Get 1 0 1)) [] (answers 0 3 0 4294967295 0 (no_layout NFS4ERR_LAYOUTUNAVAILABLE) ∷ []) ∷
    []

pub steps : done first events ≡ events
unfolding opened
steps = refl
