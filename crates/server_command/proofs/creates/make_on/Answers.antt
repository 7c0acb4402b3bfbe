use Rattle.std.proofs.Common.{rules, ◌≡◌, ◌∙◌, [], true, false, Some, None, ap, inl, refl, sym, Err}
use Rattle.osd_bytes.specs.Asking.{ends_of}
use Rattle.server_command.specs.Messages.{serving}
use Rattle.server_command.specs.Faults.{creation_fault, silent_line}
use Rattle.server_command.specs.ServerStops.{no_memory, stop_of_step}
use Rattle.server_command.proofs.CutLaws.{cut_hearing}
use Rattle.server_command.proofs.FaultLaws.{step_fault}
use Rattle.server_command.proofs.KeptLaws.{cuts_as, cuts_in, cuts_none, cuts_then, from_same, from_then}
use Rattle.server_command.proofs.MakingLaws.{cut_from_there, drive_cuts, drive_loses, drive_makes, handled_from, stops_step}
use Rattle.server_command.proofs.creates.make_on.Goals as goal

pub returns-in_default-clause-stops : goal.returns-in_default-clause-stops
returns-in_default-clause-stops g c =
    let none : c.in_ok-reply.field-0 ≡ None = search rules in
    let line : c.as_bytes.result.now ≡ silent_line c.args.drive = c.as_bytes.ensures.value ∙ c.in_ok-line.ensures in
    let same : g.L.Links.faults c.note.new.self ≡ g.L.Links.faults c.asked.new.links = search rules in
    λ had. (
      had,
      [],
      (
        drive_loses c.args.drive c.args.message.now (silent_line c.args.drive) None
            (serving (g.H.MetadataServer.server c.args.server.now) c.args.waiting.now true had
            (ends_of (g.L.Links.told c.args.links.now) (g.L.Links.faults c.args.links.now) (g.C.Clock.times c.args.clock.now)))
            (g.L.Links.told c.asked.new.links) (g.L.Links.told c.note.new.self) (g.L.Links.faults c.asked.new.links)
            (g.L.Links.faults c.note.new.self)
            (rw none at c.in_ok-reply.ensures.came) refl (rw line at c.in_ok-note.ensures.ok) same,
        refl,
      ),
      cuts_none g.H.MetadataServer _ had c.args.server.now (g.met.H.MetadataServer.kept_stays c.args.server.now)
          c.requires.goes_on (λ e. cc e),
    )

pub returns-then-stops-clause-stops : goal.returns-then-stops-clause-stops
returns-then-stops-clause-stops g c =
    let same : c.as_slice.result.now ≡ c.in-Some.reply = search rules in
    let yes : c.in_ok-stops.stops ≡ true = search rules in
    let told = rw yes at c.in_ok-stops.ensures.told in
    λ had. (
      had,
      [],
      (
        drive_loses c.args.drive c.args.message.now told.0 (Some c.in-Some.reply)
            (serving (g.H.MetadataServer.server c.args.server.now) c.args.waiting.now true had
            (ends_of (g.L.Links.told c.args.links.now) (g.L.Links.faults c.args.links.now) (g.C.Clock.times c.args.clock.now)))
            (g.L.Links.told c.asked.new.links) (g.L.Links.told c.tell_fault.new.links)
            (g.L.Links.faults c.asked.new.links) (g.L.Links.faults c.tell_fault.new.links)
            (rw c.in-Some.is at c.in_ok-reply.ensures.came)
            (ap (creation_fault c.args.drive) (sym (rw same at c.in_ok-said.ensures)) ∙ told.1)
            told.2 c.in_ok-stops.ensures.same,
        refl,
      ),
      cuts_none g.H.MetadataServer _ had c.args.server.now (g.met.H.MetadataServer.kept_stays c.args.server.now)
          c.requires.goes_on (λ e. cc e),
    )

pub returns-clause-makes : goal.returns-clause-makes
returns-clause-makes g c =
    let same : c.as_slice.result.now ≡ c.in-Some.reply = search rules in
    let heard : c.as_slice-2.result.now ≡ c.in-Some.reply = search rules in
    let no : c.in_ok-stops.stops ≡ false = search rules in
    let told = rw no at c.in_ok-stops.ensures.told in
    λ had.
    let h = c.in_ok-hear_drive.ensures.hears true had in
    let hears = h.1 in (
      h.0,
      drive_makes c.args.drive c.args.message.now c.in-Some.reply
          (serving (g.H.MetadataServer.server c.args.server.now) c.args.waiting.now true had
          (ends_of (g.L.Links.told c.args.links.now) (g.L.Links.faults c.args.links.now) (g.C.Clock.times c.args.clock.now)))
          (serving (g.H.MetadataServer.server c.hear_drive.new.server) c.hear_drive.new.waiting true h.0
          (ends_of (g.L.Links.told c.hear_drive.new.links) (g.L.Links.faults c.hear_drive.new.links)
          (g.C.Clock.times c.hear_drive.new.clock)))
          (ends_of (g.L.Links.told c.asked.new.links) (g.L.Links.faults c.asked.new.links) (g.C.Clock.times c.args.clock.now))
          (rw c.in-Some.is at c.in_ok-reply.ensures.came) refl
          (handled_from c.args.drive c.in-Some.reply c.args.waiting.now had _ _ (g.C.Clock.times c.args.clock.now)
          (g.L.Links.told c.asked.new.links) (g.L.Links.told c.tell_fault.new.links) (g.L.Links.faults c.asked.new.links)
          (g.L.Links.faults c.tell_fault.new.links) _ c.in_ok-keep_creation.ensures.ok.state told.1 c.in_ok-stops.ensures.same
          (rw heard at hears))
          (ap (creation_fault c.args.drive) (sym (rw same at c.in_ok-said.ensures)) ∙ told.0),
      from_then g.H.MetadataServer had had h.0 c.args.server.now c.keep_creation.new.server c.hear_drive.new.server
          (from_same g.H.MetadataServer had c.args.server.now c.keep_creation.new.server c.in_ok-keep_creation.ensures.ok) h.2,
    )

pub returns-in_err-reply-clause-stops : goal.returns-in_err-reply-clause-stops
returns-in_err-reply-clause-stops g c =
    let same : c.from_residual.result ≡ Err no_memory = search rules in
    rw same (λ had. (
      had,
      [],
      inl (inl (record { cut = c.in_err-reply.ensures.cut; times = refl; before = refl; none = refl })),
      cuts_none g.H.MetadataServer _ had c.args.server.now (g.met.H.MetadataServer.kept_stays c.args.server.now)
          c.requires.goes_on (λ e. cc e),
    ))

pub returns-in_err-line-clause-stops : goal.returns-in_err-line-clause-stops
returns-in_err-line-clause-stops g c =
    let error : c.from_residual-in_err-line.result ≡ Err no_memory = search rules in
    let none : c.in_ok-reply.field-0 ≡ None = search rules in
    rw error (λ had. (
      had,
      [],
      drive_cuts c.args.drive c.args.message.now None
          (serving (g.H.MetadataServer.server c.args.server.now) c.args.waiting.now true had
          (ends_of (g.L.Links.told c.args.links.now) (g.L.Links.faults c.args.links.now) (g.C.Clock.times c.args.clock.now)))
          (g.L.Links.told c.asked.new.links) (g.L.Links.told c.asked.new.links) (g.L.Links.faults c.asked.new.links)
          (g.L.Links.faults c.asked.new.links)
          (rw none at c.in_ok-reply.ensures.came) refl refl,
      cuts_none g.H.MetadataServer _ had c.args.server.now (g.met.H.MetadataServer.kept_stays c.args.server.now)
          c.requires.goes_on (λ e. cc e),
    ))

pub returns-in_err-note-clause-stops : goal.returns-in_err-note-clause-stops
returns-in_err-note-clause-stops g c =
    let error : c.from_residual-in_err-note.result ≡ Err no_memory = search rules in
    let none : c.in_ok-reply.field-0 ≡ None = search rules in
    rw error (λ had. (
      had,
      [],
      drive_cuts c.args.drive c.args.message.now None
          (serving (g.H.MetadataServer.server c.args.server.now) c.args.waiting.now true had
          (ends_of (g.L.Links.told c.args.links.now) (g.L.Links.faults c.args.links.now) (g.C.Clock.times c.args.clock.now)))
          (g.L.Links.told c.asked.new.links) (g.L.Links.told c.note.new.self) (g.L.Links.faults c.asked.new.links)
          (g.L.Links.faults c.note.new.self)
          (rw none at c.in_ok-reply.ensures.came) c.in_err-note.ensures.err c.note.ensures.same,
      cuts_none g.H.MetadataServer _ had c.args.server.now (g.met.H.MetadataServer.kept_stays c.args.server.now)
          c.requires.goes_on (λ e. cc e),
    ))

pub returns-in_err-said-clause-stops : goal.returns-in_err-said-clause-stops
returns-in_err-said-clause-stops g c =
    let error : c.from_residual-in_err-said.result ≡ Err no_memory = search rules in
    rw error (λ had. (
      had,
      [],
      drive_cuts c.args.drive c.args.message.now (Some c.in-Some.reply)
          (serving (g.H.MetadataServer.server c.args.server.now) c.args.waiting.now true had
          (ends_of (g.L.Links.told c.args.links.now) (g.L.Links.faults c.args.links.now) (g.C.Clock.times c.args.clock.now)))
          (g.L.Links.told c.asked.new.links) (g.L.Links.told c.asked.new.links) (g.L.Links.faults c.asked.new.links)
          (g.L.Links.faults c.asked.new.links)
          (rw c.in-Some.is at c.in_ok-reply.ensures.came) refl refl,
      cuts_none g.H.MetadataServer _ had c.args.server.now (g.met.H.MetadataServer.kept_stays c.args.server.now)
          c.requires.goes_on (λ e. cc e),
    ))

pub returns-in_err-stops-clause-stops : goal.returns-in_err-stops-clause-stops
returns-in_err-stops-clause-stops g c =
    let error : c.from_residual-in_err-stops.result ≡ Err no_memory = search rules in
    rw error (λ had. (
      had,
      [],
      drive_cuts c.args.drive c.args.message.now (Some c.in-Some.reply)
          (serving (g.H.MetadataServer.server c.args.server.now) c.args.waiting.now true had
          (ends_of (g.L.Links.told c.args.links.now) (g.L.Links.faults c.args.links.now) (g.C.Clock.times c.args.clock.now)))
          (g.L.Links.told c.asked.new.links) (g.L.Links.told c.tell_fault.new.links) (g.L.Links.faults c.asked.new.links)
          (g.L.Links.faults c.tell_fault.new.links)
          (rw c.in-Some.is at c.in_ok-reply.ensures.came) c.in_err-stops.ensures.err c.tell_fault.ensures.same,
      cuts_none g.H.MetadataServer _ had c.args.server.now (g.met.H.MetadataServer.kept_stays c.args.server.now)
          c.requires.goes_on (λ e. cc e),
    ))

pub returns-in_err-keep_creation-clause-stops : goal.returns-in_err-keep_creation-clause-stops
returns-in_err-keep_creation-clause-stops g c =
    let e = c.in_err-keep_creation.field-0.0 in
    let error : c.from_residual-in_err-keep_creation.result ≡ Err (stop_of_step e) = search rules in
    let no : c.in_ok-stops.stops ≡ false = search rules in
    let told = rw no at c.in_ok-stops.ensures.told in
    rw error (λ had. (
      had,
      [],
      stops_step _ _ _ had [] e
          (drive_cuts c.args.drive c.args.message.now (Some c.in-Some.reply)
          (serving (g.H.MetadataServer.server c.args.server.now) c.args.waiting.now true had
          (ends_of (g.L.Links.told c.args.links.now) (g.L.Links.faults c.args.links.now) (g.C.Clock.times c.args.clock.now)))
          (g.L.Links.told c.asked.new.links) (g.L.Links.told c.tell_fault.new.links) (g.L.Links.faults c.asked.new.links)
          (g.L.Links.faults c.tell_fault.new.links)
          (rw c.in-Some.is at c.in_ok-reply.ensures.came) told.1 c.tell_fault.ensures.same),
      cuts_as g.H.MetadataServer _ _ had had [] c.args.server.now c.keep_creation.new.server (step_fault e)
          (cuts_in g.H.MetadataServer _ had [] c.args.server.now c.keep_creation.new.server c.in_err-keep_creation.ensures.err),
    ))

pub returns-in_err-hear_drive-clause-stops : goal.returns-in_err-hear_drive-clause-stops
returns-in_err-hear_drive-clause-stops g c =
    let e = c.in_err-hear_drive.field-0.0 in
    let error : c.from_residual-in_err-hear_drive.result ≡ Err (stop_of_step e) = search rules in
    let heard : c.as_slice-2.result.now ≡ c.in-Some.reply = search rules in
    let no : c.in_ok-stops.stops ≡ false = search rules in
    let told = rw no at c.in_ok-stops.ensures.told in
    rw error (λ had.
    let x = c.in_err-hear_drive.ensures.cuts true had in
    let cut = x.2 in (
      x.0,
      x.1,
      stops_step _ _ _ x.0 x.1 e
          (inl (cut_hearing c.args.drive c.args.message.now c.in-Some.reply
          (serving (g.H.MetadataServer.server c.args.server.now) c.args.waiting.now true had
          (ends_of (g.L.Links.told c.args.links.now) (g.L.Links.faults c.args.links.now) (g.C.Clock.times c.args.clock.now)))
          (ends_of (g.L.Links.told c.asked.new.links) (g.L.Links.faults c.asked.new.links) (g.C.Clock.times c.args.clock.now)) _
          x.0 x.1 (rw c.in-Some.is at c.in_ok-reply.ensures.came) refl
          (cut_from_there c.args.drive c.in-Some.reply c.args.waiting.now had _ _ (g.C.Clock.times c.args.clock.now)
          (g.L.Links.told c.asked.new.links) (g.L.Links.told c.tell_fault.new.links) (g.L.Links.faults c.asked.new.links)
          (g.L.Links.faults c.tell_fault.new.links) _ x.0 x.1 c.in_ok-keep_creation.ensures.ok.state told.1
          c.in_ok-stops.ensures.same (rw heard at cut)))),
      cuts_as g.H.MetadataServer _ _ had x.0 x.1 c.args.server.now c.hear_drive.new.server (step_fault e)
          (cuts_then g.H.MetadataServer _ had had x.0 x.1 c.args.server.now c.keep_creation.new.server c.hear_drive.new.server
          (from_same g.H.MetadataServer had c.args.server.now c.keep_creation.new.server c.in_ok-keep_creation.ensures.ok) x.3),
    ))
