use Rattle.port_loop.specs.Serving.{desk_at}
use Rattle.drive_loop.proofs.HandlingLaws.{ends-early, ends-well}
use Rattle.drive_loop.proofs.serving.serve_drive.Goals as goal

pub returns-in-Ok-clause-ends : goal.returns-in-Ok-clause-ends
returns-in-Ok-clause-ends g c =
    ends-well g.H.DeviceServer g.N.Notes _ (λ time message old new h. h) g.met.H.DeviceServer.kept_stays
    (desk_at c.args.handler.now (g.C.Clock.times c.args.clock.now))
    (desk_at c.serve_many.new.server (g.C.Clock.times c.serve_many.new.clock))
    (g.P.Ports.told c.args.ports.now) (g.P.Ports.told c.serve_many.new.ports) c.args.connections c.requires
    (λ steps l. l) (λ steps l. l) c.in-Ok.ensures.serves

pub returns-in-Err-clause-ends : goal.returns-in-Err-clause-ends
returns-in-Err-clause-ends g c =
    rw c.serve_err_of.ensures
    (ends-early g.H.DeviceServer g.N.Notes _ (λ time message old new h. h) g.met.H.DeviceServer.kept_stays
    (λ time message is_handled old new h. h) (desk_at c.args.handler.now (g.C.Clock.times c.args.clock.now))
    (desk_at c.serve_many.new.server (g.C.Clock.times c.serve_many.new.clock))
    (g.P.Ports.told c.args.ports.now) (g.P.Ports.told c.serve_many.new.ports) c.args.connections c.in-Err.e c.requires
    (λ steps l. l) (λ steps l. l) (λ h older f. f) c.in-Err.ensures.serves)
