-- Orders that come as messages: a file that isn't there, a job that is refused as busy, a drive that isn't there, a recall.
use Rattle.std.specs.Prelude.{List, [], ◌∷◌, refl, ◌≡◌, true, None, false}
use Rattle.osd_lists.specs.declared.node.Node.TheVariants.{Server as FromServer, Client as FromClient}
use Rattle.osd_commands.specs.declared.actions.Action.TheVariants.{Create}
use Rattle.server_rules.specs.declared.limits.TheConstants.{EXISTS}
use Rattle.server_rules.specs.State.{Server, RawMap, Audit, Busy, Fenced, Ready, Repaired, Get, HasStarted, IsBusy, IsUnknown, ToAudit, ToDeclare, ToRebuild, ToRecall, ToRevoke}
use Rattle.server_rules.specs.Commands.{label}
use Rattle.server_rules.specs.Messages.{Orders}
use Rattle.server_rules.specs.History.{Hears, Makes, Event}
use Rattle.server_rules.specs.Making.{new_server}
use Rattle.server_rules.specs.Rows.{done, on, placing, note, asks_at, replied, creates, raises_tag, answers, Usable, gives_layout, recalls, answers_order}
use Rattle.server_rules.proofs.Opened.{opened}

abbrev striping : RawMap
striping = record { comps = 1; unit = 4; width = 0; depth = 0; mirrors = 0; algorithm = 1 }

abbrev first : Server
first = new_server (record { number = 0; key = []; capacity = 20000; online = true; zone = None } ∷ [])

abbrev events : List Event
events =
    placing (0 ∷ []) (on (Makes 0 striping 1 false) [] (creates 0 65536 1 1 1 (label striping 0 0) ∷ [])) ∷
    on (Hears 0 FromServer (Orders (record { order = ToRevoke; target = 0 }))) (note 0 (Busy 0) ∷ [])
    (answers_order ToRevoke IsBusy ∷ []) ∷
    on (replied 0 Create EXISTS 65536 1 0) (note 0 Ready ∷ []) [] ∷
    on (asks_at 0 5 1 0 (Get 2 0 1)) []
    (answers 5 1 0 0 0
    (gives_layout
    (record {
      number = 1;
      client = 5;
      writes = true;
      expiry = 90;
      tag = 1;
      format = 1;
      offset = 0;
      len = 4;
      map =
          striping;
      components = Usable 0 65536 0 4 ∷ [];
    })) ∷ []) ∷
    on (Hears 0 FromServer (Orders (record { order = ToRecall; target = 0 }))) []
    (recalls 5 1 0 1 ∷ answers_order ToRecall HasStarted ∷ []) ∷
    on (Hears 0 FromServer (Orders (record { order = ToAudit; target = 0 }))) []
    (raises_tag 0 65536 1 1 2 ∷ answers_order ToAudit HasStarted ∷ []) ∷
    on (Hears 0 FromServer (Orders (record { order = ToRebuild; target = 7 }))) [] (answers_order ToRebuild IsUnknown ∷ []) ∷
    on (Hears 0 FromServer (Orders (record { order = ToDeclare; target = 1 }))) [] (answers_order ToDeclare IsUnknown ∷ []) ∷
    on (Hears 0 FromServer (Orders (record { order = ToDeclare; target = 0 })))
    (note 0 (Fenced 2) ∷ note 0 (Repaired 1 1) ∷ note 0 (Audit 1 1 0 0) ∷ []) (answers_order ToDeclare HasStarted ∷ []) ∷
    on (Hears 0 (FromClient 5) (Orders (record { order = ToRevoke; target = 0 }))) [] [] ∷
    []

pub steps : done first events ≡ events
unfolding opened
steps = refl
