use Rattle.std.proofs.Common.{rules, ◌≡◌, [], Some, None, refl, Err}
use Rattle.osd_bytes.specs.Asking.{ends_of}
use Rattle.server_command.specs.declared.metadata_server.StepErr.TheVariants.{Memory}
use Rattle.server_command.proofs.CutLaws.{cut_asking, cut_hearing}
use Rattle.server_command.proofs.KeptLaws.{cuts_none, from_none}
use Rattle.server_command.proofs.records.ask_drive.Goals as goal

pub returns-in_ok-hear_drive-in-Some-clause-asks : goal.returns-in_ok-hear_drive-in-Some-clause-asks
returns-in_ok-hear_drive-in-Some-clause-asks g c = λ stands had.
    let same : c.as_slice.result.now ≡ c.in-Some.reply = search rules in
    let h = c.in_ok-hear_drive-in-Some.ensures.hears stands had in
    let hears = h.1 in (
      h.0,
      record {
        came = Some c.in-Some.reply;
        between = ends_of (g.L.Links.told c.asked.new.links) (g.L.Links.faults c.asked.new.links)
            (g.C.Clock.times c.args.clock.now);
        answered = rw c.in-Some.is at c.in_ok-reply.ensures.came;
        times = refl;
        hears = rw same at hears;
      },
      h.2,
    )

pub returns-in-None-clause-asks : goal.returns-in-None-clause-asks
returns-in-None-clause-asks g c = λ stands had. (
  had,
  record {
    came = None;
    between = ends_of (g.L.Links.told c.asked.new.links) (g.L.Links.faults c.asked.new.links) (g.C.Clock.times c.args.clock.now);
    answered = rw c.in-None.is at c.in_ok-reply.ensures.came;
    times = refl;
    hears = refl;
  },
  from_none g.H.MetadataServer had c.args.server.now (g.met.H.MetadataServer.kept_stays c.args.server.now) c.requires.goes_on,
)

pub returns-in_err-reply-clause-cuts : goal.returns-in_err-reply-clause-cuts
returns-in_err-reply-clause-cuts g c =
    let same : c.from_residual.result ≡ Err Memory = search rules in
    rw same (λ stands had. (
      had,
      [],
      cut_asking _ _ _ _ c.in_err-reply.ensures.cut refl,
      cuts_none g.H.MetadataServer _ had c.args.server.now (g.met.H.MetadataServer.kept_stays c.args.server.now)
          c.requires.goes_on (λ e. cc e),
    ))

pub returns-in_err-hear_drive-in-Some-clause-cuts : goal.returns-in_err-hear_drive-in-Some-clause-cuts
returns-in_err-hear_drive-in-Some-clause-cuts g c =
    let error : c.from_residual-in_err-hear_drive-in-Some.result ≡ Err c.in_err-hear_drive-in-Some.field-0.0 = search rules in
    let same : c.as_slice.result.now ≡ c.in-Some.reply = search rules in
    rw error (λ stands had.
    let h = c.in_err-hear_drive-in-Some.ensures.cuts stands had in
    let cuts = h.2 in (
      h.0,
      h.1,
      cut_hearing c.args.drive c.args.message.now c.in-Some.reply _
          (ends_of (g.L.Links.told c.asked.new.links) (g.L.Links.faults c.asked.new.links)
          (g.C.Clock.times c.args.clock.now)) _ h.0 h.1 (rw c.in-Some.is at c.in_ok-reply.ensures.came) refl (rw same at cuts),
      h.3,
    ))
