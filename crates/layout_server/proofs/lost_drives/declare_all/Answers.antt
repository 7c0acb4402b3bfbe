use Rattle.std.proofs.Common.{sym, subst}
use Rattle.server_rules.specs.declared.server.Server.{Server}
use Rattle.server_rules.specs.Orders.{declare}
use Rattle.server_state.specs.States.{server_of, Did}
use Rattle.layout_server.proofs.DeclareLaws.{declared_at, still_drives}
use Rattle.layout_server.proofs.lost_drives.declare_all.Goals as goal

pub loads_of-requires-clause-drives : goal.loads_of-requires-clause-drives
loads_of-requires-clause-drives g c =
    rw (c.in_ok-state.ensures, c.as_slice.ensures) (still_drives c.args.state.now.drives c.args.drive c.requires.good.drives)

pub list_all-requires : goal.list_all-requires
list_all-requires g c =
    let off = rw c.as_slice.ensures at c.in_ok-state.ensures in
    let loaded = c.in_ok-loads.ensures.drives in
    let did = rw (c.no_effects-effects.ensures, c.as_slice-2.ensures) at c.in_ok-at_each_file.ensures in
    (declared_at c.args.state.now c.in_ok-state.field-0 c.at_each_file.new.files c.finish_step.new.state
    c.at_each_file.new.effects _ c.args.drive c.in_ok-step.step
    c.requires.good off loaded did c.in_ok-step.ensures).1

pub returns-clause-did : goal.returns-clause-did
returns-clause-did g c =
    let off = rw c.as_slice.ensures at c.in_ok-state.ensures in
    let loaded = c.in_ok-loads.ensures.drives in
    let did = rw (c.no_effects-effects.ensures, c.as_slice-2.ensures) at c.in_ok-at_each_file.ensures in
    let d = (declared_at c.args.state.now c.in_ok-state.field-0 c.at_each_file.new.files c.finish_step.new.state
    c.at_each_file.new.effects _ c.args.drive c.in_ok-step.step
    c.requires.good off loaded did c.in_ok-step.ensures).0 in (
      d.0,
      subst (λ (s : Server). Did c.in_ok-step.step s (declare (server_of c.args.state.now) d.0 c.args.drive))
          (sym c.in_ok-list_all.ensures.server) d.1,
    )
