use Rattle.std.proofs.Common.{rules, ◌≡◌, ◌∙◌, ℕ, List, [], Option, Some, None, ap, inl, inr, nat_eq, refl}
use Rattle.std.specs.List.{find}
use Rattle.cluster_text.specs.declared.cluster.ClusterDrive.{ClusterDrive}
use Rattle.osd_drive.specs.State.{DriveState, new_drive}
use Rattle.drive_command.specs.Own.{core_in, keys_of}
use Rattle.drive_loop.specs.Ends.{HasServed, HasStopped, ListensAs}
use Rattle.drive_loop.specs.Service.{Ends, ends_of, network_at}
use Rattle.drive_loop.proofs.StoppingLaws.{listens-as, of-drive}
use Rattle.port_loop.specs.declared.ports.Happening.{Happening}
use Rattle.drive_loop.proofs.command.serve_in.Goals as goal

pub returns-in_default-clause-stops : goal.returns-in_default-clause-stops
returns-in_default-clause-stops g c =
    let none : core_in c.args.number c.args.cluster.now ≡ None = search rules in inl ((refl, none), refl)

pub returns-in_default-key-clause-stops : goal.returns-in_default-key-clause-stops
returns-in_default-key-clause-stops g c =
    let none : core_in c.args.number c.args.cluster.now ≡ None = search rules in inl ((refl, none), refl)

pub returns-in-Ok-serve_core-clause-serves : goal.returns-in-Ok-serve_core-clause-serves
returns-in-Ok-serve_core-clause-serves g c =
    let before = network_at g.P.Ports g.N.Notes g.C.Clock c.args.ports.now c.args.notes c.args.clock.now in
    let settled = network_at g.P.Ports g.N.Notes g.C.Clock c.listen.new.self c.args.notes c.args.clock.now in
    let same : settled ≡ before =
    ap (λ (t : Option (List Happening)). ends_of t (g.P.Ports.faults c.listen.new.self) (g.N.Notes.noted c.args.notes)
    (g.C.Clock.times c.args.clock.now)) c.in-Ok.ensures.told
    ∙ ap (λ (f : ℕ). ends_of (g.P.Ports.told c.args.ports.now) f (g.N.Notes.noted c.args.notes)
    (g.C.Clock.times c.args.clock.now)) c.in-Ok.ensures.cause.same in
    let own : core_in c.args.number c.args.cluster.now ≡ Some c.in-Ok-new_core.core = search rules in
    let found : find (λ (d : ClusterDrive). nat_eq d.number c.args.number) c.args.cluster.now.drives ≡ Some c.in-Some.drive.now =
    search rules in
    let address : c.as_slice-2.result.now ≡ c.in-Some.drive.now.address = search rules in
    let at : ListensAs c.args.number c.args.cluster.now (g.P.Ports.listens c.serve_core.new.ports) = listens-as c.args.number
    c.args.cluster.now c.in-Some.drive.now c.as_slice-2.result.now (g.P.Ports.listens c.listen.new.self)
    (g.P.Ports.listens c.serve_core.new.ports) found address c.in-Ok.ensures.ok c.serve_core.ensures.listens in
    of-drive c.args.number c.args.cluster.now (g.P.Ports.listens c.serve_core.new.ports) c.in-Ok-new_core.core before settled
    (λ (e : Ends). HasServed c.args.connections e
    (network_at g.P.Ports g.N.Notes g.C.Clock c.serve_core.new.ports c.in-Ok-serve_core.notes c.serve_core.new.clock)
    (g.K.Sink.taken c.args.sink.now) (g.K.Sink.taken c.serve_core.new.sink)) same at own
    c.in-Ok-serve_core.ensures.serves

pub returns-in-Err-serve_core-clause-stops : goal.returns-in-Err-serve_core-clause-stops
returns-in-Err-serve_core-clause-stops g c =
    let before = network_at g.P.Ports g.N.Notes g.C.Clock c.args.ports.now c.args.notes c.args.clock.now in
    let settled = network_at g.P.Ports g.N.Notes g.C.Clock c.listen.new.self c.args.notes c.args.clock.now in
    let same : settled ≡ before =
    ap (λ (t : Option (List Happening)). ends_of t (g.P.Ports.faults c.listen.new.self) (g.N.Notes.noted c.args.notes)
    (g.C.Clock.times c.args.clock.now)) c.in-Ok.ensures.told
    ∙ ap (λ (f : ℕ). ends_of (g.P.Ports.told c.args.ports.now) f (g.N.Notes.noted c.args.notes)
    (g.C.Clock.times c.args.clock.now)) c.in-Ok.ensures.cause.same in
    let own : core_in c.args.number c.args.cluster.now ≡ Some c.in-Ok-new_core.core = search rules in
    let found : find (λ (d : ClusterDrive). nat_eq d.number c.args.number) c.args.cluster.now.drives ≡ Some c.in-Some.drive.now =
    search rules in
    let address : c.as_slice-2.result.now ≡ c.in-Some.drive.now.address = search rules in
    let at : ListensAs c.args.number c.args.cluster.now (g.P.Ports.listens c.serve_core.new.ports) = listens-as c.args.number
    c.args.cluster.now c.in-Some.drive.now c.as_slice-2.result.now (g.P.Ports.listens c.listen.new.self)
    (g.P.Ports.listens c.serve_core.new.ports) found address c.in-Ok.ensures.ok c.serve_core.ensures.listens in
    inr (inr (of-drive c.args.number c.args.cluster.now (g.P.Ports.listens c.serve_core.new.ports) c.in-Ok-new_core.core before
    settled (λ (e : Ends). HasStopped c.args.connections e
    (network_at g.P.Ports g.N.Notes g.C.Clock c.serve_core.new.ports c.in-Err-serve_core.stop.1 c.serve_core.new.clock)
    (g.K.Sink.taken c.args.sink.now) (g.K.Sink.taken c.serve_core.new.sink) (g.K.Sink.faults c.args.sink.now)
    (g.K.Sink.faults c.serve_core.new.sink) c.in-Err-serve_core.stop.0) same at own c.in-Err-serve_core.ensures.stops))

pub returns-in-Err-new_core-clause-stops : goal.returns-in-Err-new_core-clause-stops
returns-in-Err-new_core-clause-stops g c =
    let before = network_at g.P.Ports g.N.Notes g.C.Clock c.args.ports.now c.args.notes c.args.clock.now in
    let settled = network_at g.P.Ports g.N.Notes g.C.Clock c.listen.new.self c.args.notes c.args.clock.now in
    let same : settled ≡ before =
    ap (λ (t : Option (List Happening)). ends_of t (g.P.Ports.faults c.listen.new.self) (g.N.Notes.noted c.args.notes)
    (g.C.Clock.times c.args.clock.now)) c.in-Ok.ensures.told
    ∙ ap (λ (f : ℕ). ends_of (g.P.Ports.told c.args.ports.now) f (g.N.Notes.noted c.args.notes)
    (g.C.Clock.times c.args.clock.now)) c.in-Ok.ensures.cause.same in
    let first : DriveState = new_drive c.args.number (keys_of c.in-Some-key.key) c.in-Some.drive.now.capacity in
    let own : core_in c.args.number c.args.cluster.now ≡ Some first = search rules in
    let found : find (λ (d : ClusterDrive). nat_eq d.number c.args.number) c.args.cluster.now.drives ≡ Some c.in-Some.drive.now =
    search rules in
    let address : c.as_slice-2.result.now ≡ c.in-Some.drive.now.address = search rules in
    inr (inr (
      listens-as c.args.number c.args.cluster.now c.in-Some.drive.now c.as_slice-2.result.now
          (g.P.Ports.listens c.listen.new.self) (g.P.Ports.listens c.listen.new.self) found address c.in-Ok.ensures.ok refl,
      first,
      own,
      (first, [], inl (refl, same, refl, refl)),
    ))

pub returns-in-Err-new_core-clause-listens : goal.returns-in-Err-new_core-clause-listens
returns-in-Err-new_core-clause-listens g c =
    let found : find (λ (d : ClusterDrive). nat_eq d.number c.args.number) c.args.cluster.now.drives ≡ Some c.in-Some.drive.now =
    search rules in
    let address : c.as_slice-2.result.now ≡ c.in-Some.drive.now.address = search rules in
    inr (listens-as c.args.number c.args.cluster.now c.in-Some.drive.now c.as_slice-2.result.now
    (g.P.Ports.listens c.listen.new.self) (g.P.Ports.listens c.listen.new.self) found address c.in-Ok.ensures.ok refl)
