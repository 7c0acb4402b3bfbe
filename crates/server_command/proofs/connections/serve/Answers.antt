use Rattle.std.proofs.Common.{rules, [], refl}
use Rattle.osd_bytes.specs.Asking.{ends_of}
use Rattle.server_command.proofs.ConnectionLaws.{accepts_none, served_one}
use Rattle.server_command.proofs.CutLaws.{cut_all, stops_so}
use Rattle.server_command.proofs.FaultLaws.{serve_fault}
use Rattle.server_command.proofs.KeptLaws.{cuts_as, cuts_then, from_none, from_then}
use Rattle.server_command.proofs.connections.serve.Goals as goal

pub serve_connection-requires-clause-goes_on : goal.serve_connection-requires-clause-goes_on
serve_connection-requires-clause-goes_on g c =
    let so_far = c.loop-served.invariant.0 [] in (so_far.2).went.goes_on

pub loop-served-init : goal.loop-served-init
loop-served-init g c = (
  λ had. (
    had,
    (refl, refl, refl),
    from_none g.H.MetadataServer had c.args.server.now (g.met.H.MetadataServer.kept_stays c.args.server.now) c.requires.goes_on,
  ),
  search rules,
  search rules,
)

pub loop-served-preserved : goal.loop-served-preserved
loop-served-preserved g c =
    let accepted =
    ends_of (g.L.Links.told c.accept.new.self) (g.L.Links.faults c.accept.new.self) (g.C.Clock.times c.loop-served.clock) in (
      λ had.
          let first = c.loop-served.invariant.0 had in
          let more = c.in-Ok-serve_connection.ensures.serves first.0 in (
            more.0,
            served_one c.loop-served.served (g.H.MetadataServer.server c.args.server.now)
                (g.H.MetadataServer.server c.loop-served.server)
                (g.H.MetadataServer.server c.serve_connection.new.server) had first.0 more.0 _ _ accepted _ first.1
                (record { told = c.in-Ok.ensures.told; faults = search rules; times = refl }) more.1,
            from_then g.H.MetadataServer had first.0 more.0 c.args.server.now c.loop-served.server c.serve_connection.new.server
                first.2 more.2,
          ),
      search rules,
      search rules,
    )

pub returns-in-Err-clause-ends : goal.returns-in-Err-clause-ends
returns-in-Err-clause-ends g c = λ had.
    let first = c.loop-served.invariant.0 had in
    let none =
    accepts_none
    (ends_of (g.L.Links.told c.loop-served.links) (g.L.Links.faults c.loop-served.links) (g.C.Clock.times c.loop-served.clock))
    (ends_of (g.L.Links.told c.accept.new.self) (g.L.Links.faults c.accept.new.self) (g.C.Clock.times c.loop-served.clock))
    _ c.in-Err.ensures.told refl c.in-Err.ensures.cause.later c.in-Err.ensures.cause.failed in
    (first.0, (c.loop-served.served, search rules, _, first.1, none), first.2)

pub returns-in-Err-serve_connection-clause-ends : goal.returns-in-Err-serve_connection-clause-ends
returns-in-Err-serve_connection-clause-ends g c =
    let e = c.in-Err-serve_connection.e in
    let accepted =
    ends_of (g.L.Links.told c.accept.new.self) (g.L.Links.faults c.accept.new.self) (g.C.Clock.times c.loop-served.clock) in
    rw c.from.ensures
    (stops_so g.H.MetadataServer c.args.connections c.args.server.now c.serve_connection.new.server _ _ e (λ had.
    let first = c.loop-served.invariant.0 had in
    let x = c.in-Err-serve_connection.ensures.cuts first.0 in (
      x.0,
      x.1,
      cut_all c.args.connections c.loop-served.served _ (g.H.MetadataServer.server c.loop-served.server) had first.0 _ _
          accepted _
          x.0 x.1 (search rules) first.1
          (record { told = c.in-Ok.ensures.told; faults = search rules; times = refl }) x.2,
      cuts_as g.H.MetadataServer _ _ had x.0 x.1 c.args.server.now c.serve_connection.new.server (serve_fault e)
          (cuts_then g.H.MetadataServer _ had first.0 x.0 x.1 c.args.server.now c.loop-served.server
          c.serve_connection.new.server first.2 x.3),
    )))

pub returns-clause-ends : goal.returns-clause-ends
returns-clause-ends g c = λ had.
    let first = c.loop-served.invariant.0 had in (first.0, search rules, first.2)
