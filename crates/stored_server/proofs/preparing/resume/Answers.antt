use Rattle.std.proofs.Common.{rules, ◌≡◌, [], Err, inl, refl}
use Rattle.osd_bytes.specs.Asking.{ends_of}
use Rattle.server_command.proofs.CutLaws.{tells_none}
use Rattle.server_command.proofs.FaultLaws.{step_fault}
use Rattle.server_command.proofs.KeptLaws.{cuts_as, cuts_none, cuts_then, from_then}
use Rattle.server_command.proofs.MakingLaws.{stops_step}
use Rattle.server_command.specs.Notes.{note_texts}
use Rattle.server_command.specs.ServerStops.{no_memory}
use Rattle.stored_server.proofs.PreparingLaws.{opened_at, resumed, resumed_cut, resumed_not}
use Rattle.stored_server.proofs.preparing.resume.Goals as goal

pub work_all-requires-clause-goes_on : goal.work_all-requires-clause-goes_on
work_all-requires-clause-goes_on g c =
    let made = c.in-Ok.ensures.makes [] in (made.2).went.goes_on

pub returns-in_err-new-clause-stops : goal.returns-in_err-new-clause-stops
returns-in_err-new-clause-stops g c =
    let same : c.from_residual.result ≡ Err no_memory = search rules in
    rw same (λ had. (
      had,
      [],
      inl (record {
        told = tells_none (note_texts c.args.step.notes) (g.L.Links.told c.args.links.now);
        faults = refl;
        times = refl;
        same = refl;
        none = refl;
      }),
      cuts_none g.H.MetadataServer _ had c.args.server.now (g.met.H.MetadataServer.kept_stays c.args.server.now)
          c.requires.goes_on (λ e. cc e),
    ))

pub returns-in_err-others-clause-stops : goal.returns-in_err-others-clause-stops
returns-in_err-others-clause-stops g c =
    let same : c.from_residual-in_err-others.result ≡ Err no_memory = search rules in
    rw same (λ had. (
      had,
      [],
      inl (record {
        told = tells_none (note_texts c.args.step.notes) (g.L.Links.told c.args.links.now);
        faults = refl;
        times = refl;
        same = refl;
        none = refl;
      }),
      cuts_none g.H.MetadataServer _ had c.args.server.now (g.met.H.MetadataServer.kept_stays c.args.server.now)
          c.requires.goes_on (λ e. cc e),
    ))

pub returns-in_err-tell_notes-clause-stops : goal.returns-in_err-tell_notes-clause-stops
returns-in_err-tell_notes-clause-stops g c =
    let same : c.from_residual-in_err-tell_notes.result ≡ Err no_memory = search rules in
    rw same (λ had. (
      had,
      [],
      inl (record {
        told = c.in_err-tell_notes.ensures.err;
        faults = c.tell_notes.ensures.same;
        times = refl;
        same = refl;
        none = refl;
      }),
      cuts_none g.H.MetadataServer _ had c.args.server.now (g.met.H.MetadataServer.kept_stays c.args.server.now)
          c.requires.goes_on (λ e. cc e),
    ))

pub returns-in-Err-clause-stops : goal.returns-in-Err-clause-stops
returns-in-Err-clause-stops g c = λ had.
    let x = c.in-Err.ensures.stops had in (
      x.0,
      x.1,
      resumed_not (g.H.MetadataServer.knows c.args.server.now) (g.H.MetadataServer.server c.args.server.now) c.args.step had
          (ends_of (g.L.Links.told c.args.links.now) (g.L.Links.faults c.args.links.now) (g.C.Clock.times c.args.clock.now))
          (ends_of (g.L.Links.told c.tell_notes.new.links) (g.L.Links.faults c.tell_notes.new.links)
          (g.C.Clock.times c.args.clock.now)) c.in_ok-new.new c.in_ok-others.others
          (opened_at (g.H.MetadataServer.server c.args.server.now) c.args.step c.in_ok-new.new had
          (g.L.Links.told c.args.links.now)
          (g.L.Links.told c.tell_notes.new.links) (g.L.Links.faults c.args.links.now) (g.L.Links.faults c.tell_notes.new.links)
          (g.C.Clock.times c.args.clock.now) c.in_ok-tell_notes.ensures.told c.in_ok-tell_notes.ensures.same)
          c.in_ok-new.ensures c.in_ok-others.ensures _ _ c.in-Err.stop x.0 x.1 x.2,
      x.3,
    )

pub returns-in-Ok-work_all-clause-resumes : goal.returns-in-Ok-work_all-clause-resumes
returns-in-Ok-work_all-clause-resumes g c = λ had.
    let first = c.in-Ok.ensures.makes had in
    let more = c.in-Ok-work_all.ensures.works first.0 in (
      more.0,
      resumed (g.H.MetadataServer.knows c.args.server.now) (g.H.MetadataServer.server c.args.server.now) c.args.step had
          (ends_of (g.L.Links.told c.args.links.now) (g.L.Links.faults c.args.links.now) (g.C.Clock.times c.args.clock.now))
          (ends_of (g.L.Links.told c.tell_notes.new.links) (g.L.Links.faults c.tell_notes.new.links)
          (g.C.Clock.times c.args.clock.now)) c.in_ok-new.new c.in_ok-others.others
          (opened_at (g.H.MetadataServer.server c.args.server.now) c.args.step c.in_ok-new.new had
          (g.L.Links.told c.args.links.now)
          (g.L.Links.told c.tell_notes.new.links) (g.L.Links.faults c.args.links.now) (g.L.Links.faults c.tell_notes.new.links)
          (g.C.Clock.times c.args.clock.now) c.in_ok-tell_notes.ensures.told c.in_ok-tell_notes.ensures.same)
          c.in_ok-new.ensures c.in_ok-others.ensures
          (g.H.MetadataServer.server c.make_all.new.server) (g.H.MetadataServer.server c.work_all.new.server) first.0 more.0
          _ _ _ first.1 more.1,
      from_then g.H.MetadataServer had first.0 more.0 c.args.server.now c.make_all.new.server c.work_all.new.server first.2
          more.2,
    )

pub returns-clause-stops : goal.returns-clause-stops
returns-clause-stops g c =
    rw c.from.ensures (λ had.
    let first = c.in-Ok.ensures.makes had in
    let x = c.in-Err-work_all.ensures.cuts first.0 in (
      x.0,
      x.1,
      stops_step _ _ _ x.0 x.1 c.in-Err-work_all.e
          (resumed_cut (g.H.MetadataServer.knows c.args.server.now) (g.H.MetadataServer.server c.args.server.now) c.args.step had
          (ends_of (g.L.Links.told c.args.links.now) (g.L.Links.faults c.args.links.now) (g.C.Clock.times c.args.clock.now))
          (ends_of (g.L.Links.told c.tell_notes.new.links) (g.L.Links.faults c.tell_notes.new.links)
          (g.C.Clock.times c.args.clock.now)) c.in_ok-new.new c.in_ok-others.others
          (opened_at (g.H.MetadataServer.server c.args.server.now) c.args.step c.in_ok-new.new had
          (g.L.Links.told c.args.links.now)
          (g.L.Links.told c.tell_notes.new.links) (g.L.Links.faults c.args.links.now) (g.L.Links.faults c.tell_notes.new.links)
          (g.C.Clock.times c.args.clock.now) c.in_ok-tell_notes.ensures.told c.in_ok-tell_notes.ensures.same)
          c.in_ok-new.ensures c.in_ok-others.ensures (g.H.MetadataServer.server c.make_all.new.server) first.0 _ _ x.0 x.1
          first.1 x.2),
      cuts_as g.H.MetadataServer _ _ had x.0 x.1 c.args.server.now c.work_all.new.server
          (step_fault c.in-Err-work_all.e)
          (cuts_then g.H.MetadataServer _ had first.0 x.0 x.1 c.args.server.now c.make_all.new.server c.work_all.new.server
          first.2 x.3),
    ))
