use Rattle.std.proofs.Common.{[], inl, inr, refl}
use Rattle.osd_bytes.specs.Asking.{ends_of}
use Rattle.server_journal.specs.Journals.{core_of}
use Rattle.server_command.proofs.KeptLaws.{cuts_then, from_then, went_from_none}
use Rattle.stored_server.proofs.ServiceLaws.{broke_off, served_from}
use Rattle.stored_server.proofs.TellingLaws.{ends_told}
use Rattle.stored_server.proofs.command.serve_from.Goals as goal

pub serve_told-requires-clause-goes_on : goal.serve_told-requires-clause-goes_on
serve_told-requires-clause-goes_on g c =
    let prepared = c.in-Ok-prepare.ensures.prepares [] in (prepared.2).went.goes_on

pub returns-in-Ok-serve_told-clause-serves : goal.returns-in-Ok-serve_told-clause-serves
returns-in-Ok-serve_told-clause-serves g c =
    let first = c.in-Ok-prepare.ensures.prepares [] in
    let x = c.in-Ok-serve_told.ensures.serves first.0 in
    let w =
    went_from_none _ x.0 c.in-Ok.opened.0 c.serve_told.new.server
    (from_then _ [] first.0 x.0 c.in-Ok.opened.0 c.prepare.new.server c.serve_told.new.server first.2 x.2) in
    served_from g.D.Disk c.args.connections c.args.cluster.now
    (ends_of (g.L.Links.told c.args.links.now) (g.L.Links.faults c.args.links.now) (g.C.Clock.times c.args.clock.now))
    (ends_of (g.L.Links.told c.begin_on.new.links) (g.L.Links.faults c.begin_on.new.links) (g.C.Clock.times c.args.clock.now))
    (ends_of (g.L.Links.told c.serve_told.new.links) (g.L.Links.faults c.serve_told.new.links)
    (g.C.Clock.times c.serve_told.new.clock))
    (g.K.Sink.taken c.args.sink.now) (g.K.Sink.taken c.serve_told.new.sink) c.args.disk c.into_disk-in-Ok-serve_told.result
    c.in-Ok.opened.0 c.serve_told.new.server c.in-Ok.opened.1 c.in-Ok.ensures.begins c.in-Ok.ensures.own
    (ends_told c.args.cluster.now (core_of c.in-Ok.opened.0.journal) (g.L.Links.told c.args.links.now) (g.L.Links.told c.begin_on.new.links) _ _ _
    c.in-Ok.ensures.told c.begin_on.ensures.same) c.in-Ok.ensures.kept c.in-Ok.ensures.leaves
    x.0 c.into_disk-in-Ok-serve_told.ensures
    _ first.0 _ first.1 x.1 w.state w.carries w.keeps_on w.same c.in-Ok.ensures.no_fault

pub returns-in-Err-serve_told-clause-stops : goal.returns-in-Err-serve_told-clause-stops
returns-in-Err-serve_told-clause-stops g c =
    let first = c.in-Ok-prepare.ensures.prepares [] in
    let x = c.in-Err-serve_told.ensures.stops first.0 in
    let b =
    cuts_then _ _ [] first.0 x.0 x.1 c.in-Ok.opened.0 c.prepare.new.server c.serve_told.new.server first.2 x.3 in
    inr (broke_off g.D.Disk c.args.connections c.args.cluster.now
    (ends_of (g.L.Links.told c.args.links.now) (g.L.Links.faults c.args.links.now) (g.C.Clock.times c.args.clock.now))
    (ends_of (g.L.Links.told c.begin_on.new.links) (g.L.Links.faults c.begin_on.new.links) (g.C.Clock.times c.args.clock.now))
    (ends_of (g.L.Links.told c.serve_told.new.links) (g.L.Links.faults c.serve_told.new.links)
    (g.C.Clock.times c.serve_told.new.clock))
    (g.K.Sink.taken c.args.sink.now) (g.K.Sink.taken c.serve_told.new.sink) c.args.disk c.into_disk-in-Err-serve_told.result
    c.in-Ok.opened.0 c.serve_told.new.server c.in-Ok.opened.1 c.in-Ok.ensures.begins c.in-Ok.ensures.own
    (ends_told c.args.cluster.now (core_of c.in-Ok.opened.0.journal) (g.L.Links.told c.args.links.now) (g.L.Links.told c.begin_on.new.links) _ _ _
    c.in-Ok.ensures.told c.begin_on.ensures.same) c.in-Ok.ensures.kept c.in-Ok.ensures.leaves
    b.done c.into_disk-in-Err-serve_told.ensures
    x.0 x.1 b.handled b.cut_off (g.K.Sink.faults c.args.sink.now) (g.K.Sink.faults c.serve_told.new.sink) _
    c.in-Err-serve_told.stop b.are_served b.are_unserved c.stored_stop_of-in-Err-serve_told.ensures
    (inr (_, first.0, _, first.1, _, x.2)) b.broke.carries b.broke.rose c.in-Ok.ensures.no_fault)

pub returns-in-Err-prepare-clause-stops : goal.returns-in-Err-prepare-clause-stops
returns-in-Err-prepare-clause-stops g c =
    let x = c.in-Err-prepare.ensures.stops [] in
    let b = x.3 in
    inr (broke_off g.D.Disk c.args.connections c.args.cluster.now
    (ends_of (g.L.Links.told c.args.links.now) (g.L.Links.faults c.args.links.now) (g.C.Clock.times c.args.clock.now))
    (ends_of (g.L.Links.told c.begin_on.new.links) (g.L.Links.faults c.begin_on.new.links) (g.C.Clock.times c.args.clock.now))
    (ends_of (g.L.Links.told c.prepare.new.links) (g.L.Links.faults c.prepare.new.links) (g.C.Clock.times c.prepare.new.clock))
    (g.K.Sink.taken c.args.sink.now) (g.K.Sink.taken c.args.sink.now) c.args.disk c.into_disk.result
    c.in-Ok.opened.0 c.prepare.new.server c.in-Ok.opened.1 c.in-Ok.ensures.begins c.in-Ok.ensures.own
    (ends_told c.args.cluster.now (core_of c.in-Ok.opened.0.journal) (g.L.Links.told c.args.links.now) (g.L.Links.told c.begin_on.new.links) _ _ _
    c.in-Ok.ensures.told c.begin_on.ensures.same) c.in-Ok.ensures.kept c.in-Ok.ensures.leaves
    b.done c.into_disk.ensures
    x.0 x.1 b.handled b.cut_off (g.K.Sink.faults c.args.sink.now) (g.K.Sink.faults c.args.sink.now) _ c.in-Err-prepare.stop
    b.are_served b.are_unserved c.stored_stop_of.ensures
    (inl (refl, _, x.2)) b.broke.carries b.broke.rose c.in-Ok.ensures.no_fault)

pub returns-in-Err-clause-stops : goal.returns-in-Err-clause-stops
returns-in-Err-clause-stops g c = inl (record {
  why = c.in-Err.ensures.refused;
  faults = c.begin_on.ensures.same;
  times = refl;
  silent = refl;
  stays = c.in-Err.ensures.cut_off;
})
