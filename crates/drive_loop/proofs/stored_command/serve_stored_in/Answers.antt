use Rattle.std.proofs.Common.{rules, ◌≡◌, ◌∙◌, ℕ, List, Option, Some, None, ap, inl, inr, nat_eq, refl}
use Rattle.std.specs.List.{find}
use Rattle.cluster_text.specs.declared.cluster.ClusterDrive.{ClusterDrive}
use Rattle.drive_command.specs.Opened.{first_of}
use Rattle.drive_command.specs.Own.{core_in}
use Rattle.drive_command.specs.declared.opened.OwnStore.{OwnStore}
use Rattle.drive_loop.specs.Ends.{ListensAs}
use Rattle.drive_loop.specs.Service.{Ends, ends_of, network_at}
use Rattle.drive_loop.specs.StoredService.{ServesFrom, StopsFrom}
use Rattle.drive_loop.proofs.StoppingLaws.{listens-as, of-drive}
use Rattle.port_loop.specs.declared.ports.Happening.{Happening}
use Rattle.drive_loop.proofs.stored_command.serve_stored_in.Goals as goal

pub returns-in_default-clause-stops : goal.returns-in_default-clause-stops
returns-in_default-clause-stops g c =
    let none : core_in c.args.number c.args.cluster.now ≡ None = search rules in
    inl ((refl, none), (refl, refl))

pub returns-in_default-key-clause-stops : goal.returns-in_default-key-clause-stops
returns-in_default-key-clause-stops g c =
    let none : core_in c.args.number c.args.cluster.now ≡ None = search rules in
    inl ((refl, none), (refl, refl))

pub returns-in-Ok-serve_from-clause-serves : goal.returns-in-Ok-serve_from-clause-serves
returns-in-Ok-serve_from-clause-serves g c =
    let before = network_at g.P.Ports g.N.Notes g.C.Clock c.args.ports.now c.args.lent.notes c.args.clock.now in
    let settled = network_at g.P.Ports g.N.Notes g.C.Clock c.listen.new.self c.args.lent.notes c.args.clock.now in
    let same : settled ≡ before =
    ap (λ (t : Option (List Happening)). ends_of t (g.P.Ports.faults c.listen.new.self) (g.N.Notes.noted c.args.lent.notes)
    (g.C.Clock.times c.args.clock.now)) c.in-Ok.ensures.told
    ∙ ap (λ (f : ℕ). ends_of (g.P.Ports.told c.args.ports.now) f (g.N.Notes.noted c.args.lent.notes)
    (g.C.Clock.times c.args.clock.now)) c.in-Ok.ensures.cause.same in
    let mine : OwnStore =
    record { number = c.args.number; key = c.in-Some-key.key; capacity = c.in-Some.drive.now.capacity } in
    let own : core_in c.args.number c.args.cluster.now ≡ Some (first_of mine) = search rules in
    let found : find (λ (d : ClusterDrive). nat_eq d.number c.args.number) c.args.cluster.now.drives ≡ Some c.in-Some.drive.now =
    search rules in
    let address : c.as_slice-2.result.now ≡ c.in-Some.drive.now.address = search rules in
    let at : ListensAs c.args.number c.args.cluster.now (g.P.Ports.listens c.serve_from.new.ports) = listens-as c.args.number
    c.args.cluster.now c.in-Some.drive.now c.as_slice-2.result.now (g.P.Ports.listens c.listen.new.self)
    (g.P.Ports.listens c.serve_from.new.ports) found address c.in-Ok.ensures.ok c.serve_from.ensures.listens in
    of-drive c.args.number c.args.cluster.now (g.P.Ports.listens c.serve_from.new.ports) (first_of mine) before settled
    (λ (e : Ends). ServesFrom g.D.Disk c.args.connections e
    (network_at g.P.Ports g.N.Notes g.C.Clock c.serve_from.new.ports c.in-Ok-serve_from.lent.notes c.serve_from.new.clock)
    (g.K.Sink.taken c.args.sink.now) (g.K.Sink.taken c.serve_from.new.sink) c.args.lent.disk c.in-Ok-serve_from.lent.disk)
    same at own c.in-Ok-serve_from.ensures.serves

pub returns-in-Err-serve_from-clause-stops : goal.returns-in-Err-serve_from-clause-stops
returns-in-Err-serve_from-clause-stops g c =
    let before = network_at g.P.Ports g.N.Notes g.C.Clock c.args.ports.now c.args.lent.notes c.args.clock.now in
    let settled = network_at g.P.Ports g.N.Notes g.C.Clock c.listen.new.self c.args.lent.notes c.args.clock.now in
    let same : settled ≡ before =
    ap (λ (t : Option (List Happening)). ends_of t (g.P.Ports.faults c.listen.new.self) (g.N.Notes.noted c.args.lent.notes)
    (g.C.Clock.times c.args.clock.now)) c.in-Ok.ensures.told
    ∙ ap (λ (f : ℕ). ends_of (g.P.Ports.told c.args.ports.now) f (g.N.Notes.noted c.args.lent.notes)
    (g.C.Clock.times c.args.clock.now)) c.in-Ok.ensures.cause.same in
    let mine : OwnStore =
    record { number = c.args.number; key = c.in-Some-key.key; capacity = c.in-Some.drive.now.capacity } in
    let own : core_in c.args.number c.args.cluster.now ≡ Some (first_of mine) = search rules in
    let found : find (λ (d : ClusterDrive). nat_eq d.number c.args.number) c.args.cluster.now.drives ≡ Some c.in-Some.drive.now =
    search rules in
    let address : c.as_slice-2.result.now ≡ c.in-Some.drive.now.address = search rules in
    let at : ListensAs c.args.number c.args.cluster.now (g.P.Ports.listens c.serve_from.new.ports) = listens-as c.args.number
    c.args.cluster.now c.in-Some.drive.now c.as_slice-2.result.now (g.P.Ports.listens c.listen.new.self)
    (g.P.Ports.listens c.serve_from.new.ports) found address c.in-Ok.ensures.ok c.serve_from.ensures.listens in
    inr (inr (of-drive c.args.number c.args.cluster.now (g.P.Ports.listens c.serve_from.new.ports) (first_of mine) before settled
    (λ (e : Ends). StopsFrom g.D.Disk c.args.connections e
    (network_at g.P.Ports g.N.Notes g.C.Clock c.serve_from.new.ports c.in-Err-serve_from.refusal.1.notes
    c.serve_from.new.clock)
    (g.K.Sink.taken c.args.sink.now) (g.K.Sink.taken c.serve_from.new.sink) (g.K.Sink.faults c.args.sink.now)
    (g.K.Sink.faults c.serve_from.new.sink) c.args.lent.disk c.in-Err-serve_from.refusal.1.disk
    c.in-Err-serve_from.refusal.0) same at own c.in-Err-serve_from.ensures.stops))
