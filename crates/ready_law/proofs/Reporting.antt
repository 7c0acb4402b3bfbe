-- The server takes the report of a ready call.
use Rattle.std.proofs.Common.{◌∷◌, [], ◌+◌, refl, sym, ◌∙◌, arith, ◌≡◌, ◌≢◌, List, true, subst, ℕ, inl}
use Rattle.world_history.specs.ClientNames.{Request, Waits, Report, Held, TimedOut}
use Rattle.world_history.specs.ServerNames.{File}
use Rattle.exchange_law.proofs.HeldWorlds.{reached, readable_there}
use Rattle.ready_law.proofs.Calls.{file_at_call, ReadyCall, lost_at}
use Rattle.ready_law.proofs.Going.{GoesOnBy}
use Rattle.ready_law.proofs.Stages.{Reporting, WasReported, Further, asking_at, work_at, AreSilent}
use Rattle.ready_law.proofs.ServingForms.{Carried}
use Rattle.ready_law.proofs.ServingReports.{components_of, lost_to, CanReport, report_taken, few_reported}
use Rattle.ready_law.proofs.ReportingForms.{ReportingLaws, report_laws}
use Rattle.ready_law.proofs.ReportingLosses.{silent_inside, silent_borne}
use Rattle.ready_law.proofs.ReportingServed.{head_of, Awaits, file_now, request_comes, caller_then, answered_then, queue_then, sent_then, silent_then}
use Rattle.stripe_plan.specs.Lost.{among}

-- what timed out is lost
silent_lost : (s : ReadyCall) (held : Held) (timed : List TimedOut) → timed ≢ [] → AreSilent s held timed → lost_at s ≢ []
silent_lost s held [] some silent none = some refl
silent_lost s held (t ∷ timed) some silent none =
    let there : among t.ask.component [] ≡ true =
    subst (λ (ks : List ℕ). among t.ask.component ks ≡ true) none (silent.lost t (inl refl)) in
    absurd (cc there)

pub reporting_goes_on : ReportingLaws → GoesOnBy Reporting
reporting_goes_on laws s w h k m next a x rest queue d =
    let q : Request = a.request in
    let e = head_of d (sym queue ∙ a.queue) in
    let z : Awaits s w q = record {
      grants = a.grant ∷ [];
      size = a.size;
      server = a.server;
      asked = a.asked;
      phase = Waits (Report a.timed);
      caller = a.caller;
    } in
    let f : File = file_now s w m q e z in
    let there = readable_there w h k.fair.moment k.fair.readable in
    let can : CanReport q.client f a.held a.timed = record {
      grant = a.grant;
      sole = refl;
      client = a.client_is ∙ sym a.asked.client_is;
      writes = a.for_writing;
      some = a.some;
      few = few_reported w h k.fair.moment s.client a.caller.at a.caller.there _ a.timed a.caller.call;
      inside = silent_inside s a.held a.timed a.silent;
      named = a.named;
      borne =
          silent_borne s a.held a.timed a.silent (there.files (file_at_call s) f a.server.found).map
          (laws.asking.shapes w (reached w h k.fair.moment) (file_at_call s) f a.server.found).components;
    } in
    let c : Carried = lost_to q.client q f (components_of a.timed) in
    let served =
    report_taken (report_laws laws) w h k.fair m.chosen e.number q.client q f (request_comes s w m q e z) a.held a.timed
    a.held.number a.args_are can in
    Further
    (WasReported (record {
      request = q;
      answer = c.answer;
      timed = a.timed;
      answered = answered_then s w m q e z c refl refl refl served;
      taken = refl;
      some_lost = silent_lost s a.held a.timed a.some a.silent;
      caller = caller_then s w m q e z c refl refl refl served;
      writes = a.writes;
      queue = queue_then s w m q e z c refl refl refl served;
      sent =
          sent_then s w m q e z c refl refl refl served (asking_at s + work_at s + 3) (asking_at s + work_at s + 4) a.sent
          (omega arith);
    }))
    (silent_then s w m q e z c refl refl refl served)
