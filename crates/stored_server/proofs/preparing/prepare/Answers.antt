use Rattle.std.proofs.Common.{[], ◌∷◌, ◌++◌, append_assoc, sym}
use Rattle.std.proofs.lemmas.List.{append-nil}
use Rattle.osd_bytes.specs.Asking.{ends_of}
use Rattle.server_command.specs.Steps.{Raises}
use Rattle.server_command.proofs.FaultLaws.{step_fault}
use Rattle.server_command.proofs.KeptLaws.{cuts_as, cuts_broke, cuts_in, cuts_then, from_by, from_then, from_went}
use Rattle.stored_server.proofs.PreparingLaws.{prepared, settled, stopped_adding, stopped_making, stopped_resuming, stopped_step}
use Rattle.stored_server.proofs.preparing.prepare.Goals as goal

pub set_format-requires : goal.set_format-requires
set_format-requires g c =
    let resumes = c.in-Ok.ensures.resumes [] in record { goes_on = (resumes.2).went.goes_on }

pub returns-in-Err-clause-stops : goal.returns-in-Err-clause-stops
returns-in-Err-clause-stops g c = λ had.
    let x = c.in-Err.ensures.stops had in (
      x.0,
      x.1,
      stopped_resuming (g.H.MetadataServer.knows c.args.server.now) c.args.cluster.now
          (g.H.MetadataServer.server c.args.server.now) c.args.step had
          (ends_of (g.L.Links.told c.args.links.now) (g.L.Links.faults c.args.links.now) (g.C.Clock.times c.args.clock.now))
          _ _ c.in-Err.stop x.0 x.1 x.2,
      x.3,
    )

pub returns-in-Err-set_format-clause-stops : goal.returns-in-Err-set_format-clause-stops
returns-in-Err-set_format-clause-stops g c =
    rw c.from.ensures (λ had.
    let first = c.in-Ok.ensures.resumes had in
    let raises = Raises c.args.cluster.now.format ∷ [] in (
      first.0,
      raises,
      stopped_step (g.H.MetadataServer.knows c.args.server.now) c.args.cluster.now
          (g.H.MetadataServer.server c.args.server.now) c.args.step had
          (ends_of (g.L.Links.told c.args.links.now) (g.L.Links.faults c.args.links.now) (g.C.Clock.times c.args.clock.now))
          _ (g.H.MetadataServer.server c.resume.new.server) first.0 [] first.0 raises _ c.in-Err-set_format.e first.1
          (sym (append-nil first.0)),
      cuts_as g.H.MetadataServer _ _ had first.0 raises c.args.server.now c.set_format.new.self
          (step_fault c.in-Err-set_format.e)
          (cuts_then g.H.MetadataServer _ had first.0 first.0 raises c.args.server.now c.resume.new.server c.set_format.new.self
          first.2
          (cuts_in g.H.MetadataServer _ first.0 raises c.resume.new.server c.set_format.new.self
          c.in-Err-set_format.ensures.err)),
    ))

pub returns-in-Err-add_lacking-clause-stops : goal.returns-in-Err-add_lacking-clause-stops
returns-in-Err-add_lacking-clause-stops g c = λ had.
    let first = c.in-Ok.ensures.resumes had in
    let raises = Raises c.args.cluster.now.format ∷ [] in
    let raised =
    from_then g.H.MetadataServer had first.0 (first.0 ++ raises) c.args.server.now c.resume.new.server c.set_format.new.self
    first.2
    (from_by g.H.MetadataServer first.0 raises c.resume.new.server c.set_format.new.self c.in-Ok-set_format.ensures.ok) in
    let b = c.in-Err-add_lacking.ensures.goes in
    let served = (first.0 ++ raises) ++ b.done in (
      served,
      b.cut_off,
      stopped_adding (g.H.MetadataServer.knows c.args.server.now) c.args.cluster.now
          (g.H.MetadataServer.server c.args.server.now) c.args.step had
          (ends_of (g.L.Links.told c.args.links.now) (g.L.Links.faults c.args.links.now) (g.C.Clock.times c.args.clock.now))
          (g.H.MetadataServer.server c.set_format.new.self) _ (g.H.MetadataServer.server c.resume.new.server) first.0
          (raises ++ b.done) served b.cut_off c.as_slice.result.now _ c.in-Err-add_lacking.stop
          c.as_slice.ensures c.requires.sound.keys first.1 (append_assoc first.0 raises b.done)
          c.in-Err-add_lacking.ensures.stops,
      cuts_then g.H.MetadataServer _ had (first.0 ++ raises) served b.cut_off c.args.server.now c.set_format.new.self
          c.add_lacking.new.server raised
          (cuts_broke g.H.MetadataServer _ (first.0 ++ raises) c.set_format.new.self c.add_lacking.new.server b),
    )

pub returns-in-Ok-make_lacking-clause-prepares : goal.returns-in-Ok-make_lacking-clause-prepares
returns-in-Ok-make_lacking-clause-prepares g c = λ had.
    let first = c.in-Ok.ensures.resumes had in
    let raises = Raises c.args.cluster.now.format ∷ [] in
    let raised =
    from_then g.H.MetadataServer had first.0 (first.0 ++ raises) c.args.server.now c.resume.new.server c.set_format.new.self
    first.2
    (from_by g.H.MetadataServer first.0 raises c.resume.new.server c.set_format.new.self c.in-Ok-set_format.ensures.ok) in
    let w = c.in-Ok-add_lacking.ensures.goes in
    let more = raises ++ w.done in
    let known = (first.0 ++ raises) ++ w.done in
    let knows =
    from_then g.H.MetadataServer had (first.0 ++ raises) known c.args.server.now c.set_format.new.self c.add_lacking.new.server
    raised (from_went g.H.MetadataServer (first.0 ++ raises) c.set_format.new.self c.add_lacking.new.server w) in
    let settles =
    settled (g.H.MetadataServer.knows c.args.server.now) c.args.cluster.now (g.H.MetadataServer.server c.args.server.now)
    c.args.step had
    (ends_of (g.L.Links.told c.args.links.now) (g.L.Links.faults c.args.links.now) (g.C.Clock.times c.args.clock.now))
    (g.H.MetadataServer.server c.resume.new.server)
    (g.H.MetadataServer.server c.set_format.new.self) (g.H.MetadataServer.server c.add_lacking.new.server) first.0 more known
    c.as_slice.result.now _ c.as_slice.ensures (append_assoc first.0 raises w.done) first.1
    c.in-Ok-set_format.ensures.ok.state c.in-Ok-add_lacking.ensures.knows in
    let x = c.in-Ok-make_lacking.ensures.makes known in (
      x.0,
      prepared (g.H.MetadataServer.knows c.args.server.now) c.args.cluster.now (g.H.MetadataServer.server c.args.server.now)
          c.args.step had
          (ends_of (g.L.Links.told c.args.links.now) (g.L.Links.faults c.args.links.now) (g.C.Clock.times c.args.clock.now))
          (g.H.MetadataServer.server c.add_lacking.new.server) _ known x.0 c.as_slice-2.result.now _ _ c.as_slice-2.ensures
          settles x.1,
      from_then g.H.MetadataServer had known x.0 c.args.server.now c.add_lacking.new.server c.make_lacking.new.server knows x.2,
    )

pub returns-in-Err-make_lacking-clause-stops : goal.returns-in-Err-make_lacking-clause-stops
returns-in-Err-make_lacking-clause-stops g c = λ had.
    let first = c.in-Ok.ensures.resumes had in
    let raises = Raises c.args.cluster.now.format ∷ [] in
    let raised =
    from_then g.H.MetadataServer had first.0 (first.0 ++ raises) c.args.server.now c.resume.new.server c.set_format.new.self
    first.2
    (from_by g.H.MetadataServer first.0 raises c.resume.new.server c.set_format.new.self c.in-Ok-set_format.ensures.ok) in
    let w = c.in-Ok-add_lacking.ensures.goes in
    let more = raises ++ w.done in
    let known = (first.0 ++ raises) ++ w.done in
    let knows =
    from_then g.H.MetadataServer had (first.0 ++ raises) known c.args.server.now c.set_format.new.self c.add_lacking.new.server
    raised (from_went g.H.MetadataServer (first.0 ++ raises) c.set_format.new.self c.add_lacking.new.server w) in
    let settles =
    settled (g.H.MetadataServer.knows c.args.server.now) c.args.cluster.now (g.H.MetadataServer.server c.args.server.now)
    c.args.step had
    (ends_of (g.L.Links.told c.args.links.now) (g.L.Links.faults c.args.links.now) (g.C.Clock.times c.args.clock.now))
    (g.H.MetadataServer.server c.resume.new.server)
    (g.H.MetadataServer.server c.set_format.new.self) (g.H.MetadataServer.server c.add_lacking.new.server) first.0 more known
    c.as_slice.result.now _ c.as_slice.ensures (append_assoc first.0 raises w.done) first.1
    c.in-Ok-set_format.ensures.ok.state c.in-Ok-add_lacking.ensures.knows in
    let x = c.in-Err-make_lacking.ensures.stops known in (
      x.0,
      x.1,
      stopped_making (g.H.MetadataServer.knows c.args.server.now) c.args.cluster.now
          (g.H.MetadataServer.server c.args.server.now) c.args.step had
          (ends_of (g.L.Links.told c.args.links.now) (g.L.Links.faults c.args.links.now) (g.C.Clock.times c.args.clock.now))
          (g.H.MetadataServer.server c.add_lacking.new.server) _ known x.0 x.1 c.as_slice-2.result.now _ _
          c.in-Err-make_lacking.stop c.as_slice-2.ensures settles c.requires.sound.maps x.2,
      cuts_then g.H.MetadataServer _ had known x.0 x.1 c.args.server.now c.add_lacking.new.server c.make_lacking.new.server knows
          x.3,
    )
