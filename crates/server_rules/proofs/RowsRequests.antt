-- Requests row by row: a file of three components, RAID 5, unit 4; component 1 exists already, its CREATE counts
-- while it is made: RECALLCONFLICT {2}
-- no file, a mode that there isn't, no length, an end past the limit
-- a number again, one that was left out, one of another client
-- a grant for writing past the size, and a conflict
-- commits: of another client, past the range, without an offset, of byte 7
-- the grant is expired at 91, so that a reader makes a fence begin; nobody else may
-- the repair reads, and a reply without payload is zeros
-- the tag is spent: a report that isn't taken as a loss keeps its grant, one that is goes
-- now the file is short: a writer is given stripes still; without two components it isn't
use Rattle.std.specs.Prelude.{List, [], ◌∷◌, refl, ◌≡◌, Some, None, true, false}
use Rattle.layout_types.specs.declared.ioerrs.Errno.TheVariants.{Eio, Unreachable}
use Rattle.osd_commands.specs.declared.actions.Action.TheVariants.{Create, Read, SetTag}
use Rattle.layout_ops.specs.declared.statuses.TheConstants.{NFS4ERR_BADIOMODE, NFS4ERR_BADLAYOUT, NFS4ERR_INVAL, NFS4ERR_LAYOUTUNAVAILABLE, NFS4ERR_NOENT, NFS4ERR_RECALLCONFLICT, NFS4ERR_SEQ_MISORDERED}
use Rattle.server_rules.specs.declared.limits.TheConstants.{EXISTS, OTHER_TAG}
use Rattle.server_rules.specs.State.{Server, RawMap, Fenced, Ready, Repaired, Reported, Spent, Commit, Get, Return, ToDeclare}
use Rattle.server_rules.specs.Commands.{label}
use Rattle.server_rules.specs.History.{Makes, Obeys, Event}
use Rattle.server_rules.specs.Making.{new_server}
use Rattle.server_rules.specs.Rows.{done, on, placing, note, asks_at, performed, replied, error_at, creates, raises_tag, reads_from, answers, no_layout, try_later, committed, not_committed, returned, not_returned, Usable, Missing, gives_layout, recalls}
use Rattle.server_rules.proofs.Opened.{opened}

abbrev striping : RawMap
striping = record { comps = 3; unit = 4; width = 0; depth = 0; mirrors = 0; algorithm = 3 }

abbrev first : Server
first = new_server
    ((record { number = 0; key = []; capacity = 1000; online = true; zone = None })
    ∷ (record { number = 1; key = []; capacity = 1000; online = true; zone = None })
    ∷ (record { number = 2; key = []; capacity = 1000; online = true; zone = None }) ∷ [])

abbrev events : List Event
events =
    placing (0 ∷ 1 ∷ 2 ∷ [])
    (on (Makes 0 striping 4294967294 false) []
    (creates 0 65536 4294967294 1 1 (label striping 0 0) ∷ creates 1 65537 4294967294 1 2
    (label striping 0 1) ∷ creates 2 65538 4294967294 1 3 (label striping 0 2) ∷ [])) ∷
    on (performed 0 Create 65536 1 0 []) [] [] ∷
    on (replied 1 Create EXISTS 65537 2 0) [] [] ∷
    on (asks_at 0 0 1 0 (Get 2 0 1)) [] (answers 0 1 0 2 0 (no_layout NFS4ERR_RECALLCONFLICT) ∷ []) ∷
    on (performed 2 Create 65538 3 0 []) (note 0 Ready ∷ []) [] ∷
    on (asks_at 0 0 2 9 (Get 2 0 1)) [] (answers 0 2 9 0 0 (no_layout NFS4ERR_NOENT) ∷ []) ∷
    on (asks_at 0 0 3 0 (Get 3 0 1)) [] (answers 0 3 0 0 0 (no_layout NFS4ERR_BADIOMODE) ∷ []) ∷
    on (asks_at 0 0 4 0 (Get 2 0 0)) [] (answers 0 4 0 0 0 (no_layout NFS4ERR_INVAL) ∷ []) ∷
    on (asks_at 0 0 5 0 (Get 2 16777215 2)) [] (answers 0 5 0 0 0 (no_layout NFS4ERR_INVAL) ∷ []) ∷
    on (asks_at 0 0 5 0 (Get 2 0 1)) [] (answers 0 5 0 0 0 (no_layout NFS4ERR_INVAL) ∷ []) ∷
    on (asks_at 0 0 7 0 (Get 2 0 1)) [] (answers 0 7 0 6 0 (no_layout NFS4ERR_SEQ_MISORDERED) ∷ []) ∷
    on (asks_at 0 1 2 0 (Get 1 0 1)) [] (answers 1 2 0 1 0 (no_layout NFS4ERR_SEQ_MISORDERED) ∷ []) ∷
    on (asks_at 0 0 6 0 (Get 2 0 1)) []
    (answers 0 6 0 0 0
    (gives_layout
    (record {
      number = 1;
      client = 0;
      writes = true;
      expiry = 90;
      tag = 4294967294;
      format = 1;
      offset = 0;
      len = 8;
      map =
          striping;
      components = Usable 0 65536 0 4 ∷ Usable 1 65537 0 4 ∷ Usable 2 65538 0 4 ∷ [];
    })) ∷ []) ∷
    on (asks_at 0 1 1 0 (Get 1 0 1)) [] (recalls 0 1 0 1 ∷ answers 1 1 0 0 0 try_later ∷ []) ∷
    on (asks_at 0 1 2 0 (Commit (Some 0))) [] (answers 1 2 0 0 0 (not_committed NFS4ERR_BADLAYOUT) ∷ []) ∷
    on (asks_at 0 0 7 0 (Commit (Some 8))) [] (answers 0 7 0 0 0 (not_committed NFS4ERR_INVAL) ∷ []) ∷
    on (asks_at 0 0 8 0 (Commit None)) [] (answers 0 8 0 0 0 (not_committed NFS4ERR_INVAL) ∷ []) ∷
    on (asks_at 0 0 9 0 (Commit (Some 7))) [] (answers 0 9 0 0 8 committed ∷ []) ∷
    on (asks_at 91 2 1 0 (Get 1 0 1)) []
    (raises_tag 0 65536 4294967294 1 4 ∷ raises_tag 1 65537 4294967294 1 5 ∷ raises_tag 2 65538 4294967294 1 6
    ∷ answers 2 1 0 0 8 (no_layout NFS4ERR_RECALLCONFLICT) ∷ []) ∷
    on (asks_at 0 1 3 0 (Get 1 0 1)) [] (answers 1 3 0 0 8 (no_layout NFS4ERR_RECALLCONFLICT) ∷ []) ∷
    on (performed 0 SetTag 65536 4 4294967295 []) [] [] ∷
    on (replied 1 SetTag OTHER_TAG 65537 5 4294967295) [] [] ∷
    on (replied 2 SetTag OTHER_TAG 65538 6 7) [] [] ∷
    on (performed 2 SetTag 65538 6 4294967295 []) (note 0 (Fenced 4294967295) ∷ [])
    (reads_from 0 65536 4294967295 1 7 0 4 ∷ reads_from 1 65537 4294967295 1 8 0 4 ∷ reads_from 2 65538 4294967295 1 9 0 4
    ∷ []) ∷
    on (performed 0 Read 65536 7 0 []) [] [] ∷
    on (performed 1 Read 65537 8 0 []) [] [] ∷
    on (performed 2 Read 65538 9 0 []) (note 0 (Repaired 1 0) ∷ []) [] ∷
    on (asks_at 0 0 10 0 (Get 2 0 1)) []
    (answers 0 10 0 0 8
    (gives_layout
    (record {
      number = 2;
      client = 0;
      writes = true;
      expiry = 90;
      tag = 4294967295;
      format = 1;
      offset = 0;
      len = 8;
      map =
          striping;
      components = Usable 0 65536 0 4 ∷ Usable 1 65537 0 4 ∷ Usable 2 65538 0 4 ∷ [];
    })) ∷ []) ∷
    on (asks_at 0 0 11 0 (Return (error_at 1 65537 65537 Eio ∷ []))) (note 0 Spent ∷ [])
    (answers 0 11 0 4294967295 8 (not_returned NFS4ERR_LAYOUTUNAVAILABLE) ∷ []) ∷
    on (asks_at 0 0 12 0 (Return (error_at 1 65537 65537 Unreachable ∷ error_at 0 65536 65536 Unreachable ∷ [])))
    (note 0 Spent ∷ []) (answers 0 12 0 4294967295 8 (not_returned NFS4ERR_LAYOUTUNAVAILABLE) ∷ []) ∷
    on (asks_at 0 0 13 0 (Return (error_at 2 65538 65538 Unreachable ∷ []))) (note 0 (Reported 2) ∷ [])
    (answers 0 13 0 1 8 returned ∷ []) ∷
    on (asks_at 0 0 14 0 (Get 2 0 1)) []
    (answers 0 14 0 0 8
    (gives_layout
    (record {
      number = 3;
      client = 0;
      writes = true;
      expiry = 90;
      tag = 4294967295;
      format = 1;
      offset = 0;
      len = 8;
      map =
          striping;
      components = Usable 0 65536 0 4 ∷ Usable 1 65537 0 4 ∷ Missing 2 65538 ∷ [];
    })) ∷ []) ∷
    on (asks_at 0 0 15 0 (Return [])) [] (answers 0 15 0 0 8 returned ∷ []) ∷
    on (Obeys ToDeclare 0) [] [] ∷
    on (asks_at 0 0 16 0 (Get 2 0 1)) [] (answers 0 16 0 0 8 (no_layout NFS4ERR_LAYOUTUNAVAILABLE) ∷ []) ∷
    on (asks_at 0 0 17 0 (Get 1 0 1)) []
    (answers 0 17 0 0 8
    (gives_layout
    (record {
      number = 4;
      client = 0;
      writes = false;
      expiry = 90;
      tag = 4294967295;
      format = 1;
      offset = 0;
      len = 8;
      map =
          striping;
      components = Missing 0 65536 ∷ Usable 1 65537 0 4 ∷ Missing 2 65538 ∷ [];
    })) ∷ []) ∷
    []

pub steps : done first events ≡ events
unfolding opened
steps = refl
