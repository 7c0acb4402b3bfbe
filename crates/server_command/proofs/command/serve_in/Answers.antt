use Rattle.std.proofs.Common.{rules, ◌∙◌, Option, [], ap, arith, refl}
use Rattle.osd_bytes.specs.Connections.{Traffic}
use Rattle.osd_bytes.specs.Counts.{Faults}
use Rattle.osd_bytes.specs.Asking.{ends_of}
use Rattle.server_command.specs.Ends.{IsSettledAs}
use Rattle.server_command.proofs.Stopping.{has_made, making_in_memory, serving_in_memory}
use Rattle.server_command.proofs.command.serve_in.Goals as goal

-- a server in memory has no disk that could fail
pub without_disk-requires : goal.without_disk-requires
without_disk-requires g c = λ is.
    let x = c.in-Err-make_files.ensures.stops [] in omega (arith, (x.3).broke.rose is)

pub without_disk-requires-in-Err-serve_told : goal.without_disk-requires-in-Err-serve_told
without_disk-requires-in-Err-serve_told g c = λ is.
    let x = c.in-Err-serve_told.ensures.stops [] in omega (arith, (x.3).broke.rose is)

pub returns-in-Ok-serve_told-clause-serves : goal.returns-in-Ok-serve_told-clause-serves
returns-in-Ok-serve_told-clause-serves g c =
    let before =
    ends_of (g.L.Links.told c.args.links.now) (g.L.Links.faults c.args.links.now) (g.C.Clock.times c.args.clock.now) in
    let settled =
    ends_of (g.L.Links.told c.settle_at.new.links) (g.L.Links.faults c.settle_at.new.links)
    (g.C.Clock.times c.args.clock.now) in
    let between =
    ends_of (g.L.Links.told c.make_files.new.links) (g.L.Links.faults c.make_files.new.links)
    (g.C.Clock.times c.make_files.new.clock) in
    let same = ap
    (λ (t : Option Traffic). ends_of t (g.L.Links.faults c.settle_at.new.links) (g.C.Clock.times c.args.clock.now))
    c.in-Ok.ensures.told
    ∙ ap (λ (f : Faults). ends_of (g.L.Links.told c.args.links.now) f (g.C.Clock.times c.args.clock.now)) c.in-Ok.ensures.same in
    let at : IsSettledAs c.args.cluster.now (g.L.Links.standing c.serve_told.new.links) = search rules in
    let makes = c.in-Ok-make_files.ensures.makes [] in
    let x = c.in-Ok-serve_told.ensures.serves makes.0 in
    record {
      settled = at;
      made = c.make_files.new.server;
      steps = makes.0;
      between = between;
      has_made = has_made c.args.cluster.now before settled between c.in-Ok-server_of.core c.make_files.new.server makes.0
          c.as_slice-2.result.now same c.as_slice-2.ensures c.in-Ok-server_of.ensures.knows makes.1;
      last = c.serve_told.new.server;
      has = x.0;
      serves = x.1;
    }

pub returns-clause-stops : goal.returns-clause-stops
returns-clause-stops g c =
    let before =
    ends_of (g.L.Links.told c.args.links.now) (g.L.Links.faults c.args.links.now) (g.C.Clock.times c.args.clock.now) in
    let settled =
    ends_of (g.L.Links.told c.settle_at.new.links) (g.L.Links.faults c.settle_at.new.links)
    (g.C.Clock.times c.args.clock.now) in
    let between =
    ends_of (g.L.Links.told c.make_files.new.links) (g.L.Links.faults c.make_files.new.links)
    (g.C.Clock.times c.make_files.new.clock) in
    let same = ap
    (λ (t : Option Traffic). ends_of t (g.L.Links.faults c.settle_at.new.links) (g.C.Clock.times c.args.clock.now))
    c.in-Ok.ensures.told
    ∙ ap (λ (f : Faults). ends_of (g.L.Links.told c.args.links.now) f (g.C.Clock.times c.args.clock.now)) c.in-Ok.ensures.same in
    let at : IsSettledAs c.args.cluster.now (g.L.Links.standing c.serve_told.new.links) = search rules in
    let makes = c.in-Ok-make_files.ensures.makes [] in
    let x = c.in-Err-serve_told.ensures.stops makes.0 in
    serving_in_memory c.args.connections c.args.cluster.now before
    (ends_of (g.L.Links.told c.serve_told.new.links) (g.L.Links.faults c.serve_told.new.links)
    (g.C.Clock.times c.serve_told.new.clock)) (g.L.Links.standing c.serve_told.new.links)
    (g.K.Sink.taken c.args.sink.now) (g.K.Sink.taken c.serve_told.new.sink) (g.K.Sink.faults c.args.sink.now)
    (g.K.Sink.faults c.serve_told.new.sink) at x.0 x.1
    c.in-Err-serve_told.stop c.without_disk-in-Err-serve_told.result c.make_files.new.server c.serve_told.new.server makes.0
    between
    c.without_disk-in-Err-serve_told.ensures
    (has_made c.args.cluster.now before settled between c.in-Ok-server_of.core c.make_files.new.server makes.0
    c.as_slice-2.result.now same c.as_slice-2.ensures c.in-Ok-server_of.ensures.knows makes.1) x.2

pub returns-in-Err-make_files-clause-stops : goal.returns-in-Err-make_files-clause-stops
returns-in-Err-make_files-clause-stops g c =
    let before =
    ends_of (g.L.Links.told c.args.links.now) (g.L.Links.faults c.args.links.now) (g.C.Clock.times c.args.clock.now) in
    let settled =
    ends_of (g.L.Links.told c.settle_at.new.links) (g.L.Links.faults c.settle_at.new.links)
    (g.C.Clock.times c.args.clock.now) in
    let same = ap
    (λ (t : Option Traffic). ends_of t (g.L.Links.faults c.settle_at.new.links) (g.C.Clock.times c.args.clock.now))
    c.in-Ok.ensures.told
    ∙ ap (λ (f : Faults). ends_of (g.L.Links.told c.args.links.now) f (g.C.Clock.times c.args.clock.now)) c.in-Ok.ensures.same in
    let at : IsSettledAs c.args.cluster.now (g.L.Links.standing c.make_files.new.links) = search rules in
    let x = c.in-Err-make_files.ensures.stops [] in
    making_in_memory c.args.connections c.args.cluster.now before
    (ends_of (g.L.Links.told c.make_files.new.links) (g.L.Links.faults c.make_files.new.links)
    (g.C.Clock.times c.make_files.new.clock)) (g.L.Links.standing c.make_files.new.links)
    (g.K.Sink.taken c.args.sink.now) (g.K.Sink.taken c.args.sink.now) (g.K.Sink.faults c.args.sink.now)
    (g.K.Sink.faults c.args.sink.now) at x.0 x.1
    c.in-Err-make_files.stop c.without_disk.result c.in-Ok-server_of.core c.make_files.new.server settled c.as_slice-2.result.now
    c.without_disk.ensures same c.as_slice-2.ensures c.in-Ok-server_of.ensures.knows refl x.2
