-- The server takes a call's LAYOUTCOMMIT.
use Rattle.std.proofs.Common.{◌+◌, ℕ, max, refl, sym, ◌∙◌, arith, List, ap}
use Rattle.world_history.specs.ClientNames.{Request, Waits, Commit}
use Rattle.ready_law.proofs.Calls.{op_at, kept_at}
use Rattle.ready_law.proofs.Going.{GoesOnBy}
use Rattle.ready_law.proofs.Stages.{Committing, WasCommitted, Further, asking_at, work_at}
use Rattle.ready_law.proofs.ServingForms.{Carried}
use Rattle.ready_law.proofs.ServingCommits.{end_of, committed, commit_sizes}
use Rattle.ready_law.proofs.AskingServed.{request_laws}
use Rattle.ready_law.proofs.ReportingForms.{ReportingLaws}
use Rattle.ready_law.proofs.ReportingGrants.{commit_some, commit_may}
use Rattle.ready_law.proofs.ReportingServed.{head_of, Awaits, file_now, request_comes, granted_to, caller_then, answered_then, queue_then, sent_then, silent_then, server_then, is_served}
use Rattle.ready_law.proofs.AskingFrames.{aside_still}
use Rattle.ready_law.proofs.WorkingTurns.{drives_on}
use Rattle.world_history.specs.State.{ClientAt, at_number}
use Rattle.world_history.specs.Sending.{move}

pub committing_goes_on : ReportingLaws → GoesOnBy Committing
committing_goes_on laws s w h k m next a x rest queue d =
    let q : Request = a.request in
    let e = head_of d (sym queue ∙ a.queue) in
    let has = a.has in
    let z : Awaits s w q = record {
      grants = has.grants;
      size = (kept_at s).size;
      server = has.server;
      asked = a.asked;
      phase = Waits (Commit a.timed);
      caller = has.caller;
    } in
    let end : ℕ = end_of (op_at s) in
    let c : Carried = committed q.client q (file_now s w m q e z) end in
    let served =
    commit_sizes (request_laws laws.asking) w h k.fair m.chosen e.number q.client q (file_now s w m q e z)
    (request_comes s w m q e z) has.held (op_at s) a.args_are has.grant (granted_to s w m q e z has.grant has.granted)
    (commit_some laws.asking s w h k a.timed q (kept_at s).size has)
    (commit_may laws.asking s w h k a.timed q (kept_at s).size has a.past) in
    Further
    (WasCommitted (record {
      request = q;
      answer = c.answer;
      timed = a.timed;
      size = max (kept_at s).size end;
      size_is = refl;
      drives = drives_on a.drives (is_served s w m q e z c refl refl refl served).drives;
      has = record {
        caller = caller_then s w m q e z c refl refl refl served;
        held = has.held;
        holds = has.holds;
        grants = has.grants;
        grant = has.grant;
        granted = has.granted;
        others = has.others;
        aside =
            aside_still s w (move w m).world has.grants
            (λ x other. ap (λ (xs : List (ℕ × ClientAt)). at_number xs x) (is_served s w m q e z c refl refl refl served).clients)
            has.aside;
        server = server_then s w m q e z c refl refl refl served (max (kept_at s).size end) refl;
        good = has.good;
        listed = has.listed;
      };
      writes = a.writes;
      silent = a.silent;
      answered = answered_then s w m q e z c refl refl refl served;
      status = refl;
      queue = queue_then s w m q e z c refl refl refl served;
      sent =
          sent_then s w m q e z c refl refl refl served (asking_at s + work_at s + 1) (asking_at s + work_at s + 2) a.sent
          (omega arith);
    }))
    (silent_then s w m q e z c refl refl refl served)
