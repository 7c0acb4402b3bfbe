use Rattle.std.proofs.Common.{ap, sym, ◌∙◌}
use Rattle.layout_world.specs.ServerState.{WorldServerState}
use Rattle.layout_world.proofs.ServerActed.{same_state}
use Rattle.layout_world.proofs.Knowing.{is_new_by, added_by}
use Rattle.layout_world.proofs.server.WorldServer.add_drive.Goals as goal

pub add_drive-requires-clause-new : goal.add_drive-requires-clause-new
add_drive-requires-clause-new c =
    is_new_by c.self.inside.core.drives c.drives.result.now c.number.result c.number-2.result
    c.if-has_number.ensures c.drives.ensures (c.number.ensures.number ∙ sym c.number-2.ensures.number)

pub returns-clause-added : goal.returns-clause-added
returns-clause-added c =
    added_by c.args.self.now.state _ _ _ _ _ c.args.drive c.args.key c.args.capacity _ c.if-has_number.ensures
    (c.drives.ensures ∙ ap (λ (v : WorldServerState). v.state.drives) c.self.view_is) c.number.ensures.number
    c.number-2.ensures.number (same_state c.self.view_is) c.in_ok-add_drive.ensures c.nothing-2.ensures
