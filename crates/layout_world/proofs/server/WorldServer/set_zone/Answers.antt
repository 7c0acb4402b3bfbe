use Rattle.std.proofs.Common.{ap, sym, ◌∙◌}
use Rattle.layout_world.specs.ServerState.{WorldServerState}
use Rattle.layout_world.proofs.ServerActed.{same_state}
use Rattle.layout_world.proofs.Knowing.{is_known_by, unzoned_by, zoned_by}
use Rattle.layout_world.proofs.server.WorldServer.set_zone.Goals as goal

pub set_zone-requires : goal.set_zone-requires
set_zone-requires c = record {
  known = is_known_by c.self.inside.core.drives c.drives.result.now c.number.result c.number-2.result
      c.if-not-has_number.ensures c.drives.ensures (c.number.ensures.number ∙ sym c.number-2.ensures.number);
}

pub returns-clause-state : goal.returns-clause-state
returns-clause-state c =
    zoned_by c.args.self.now.state c.self.inside.core c.set_zone.new.self c.number-2.result c.args.drive c.args.zone
    (same_state c.self.view_is) c.number-2.ensures.number c.in_ok-set_zone.ensures.put

pub returns-then-not-has_number-clause-state : goal.returns-then-not-has_number-clause-state
returns-then-not-has_number-clause-state c =
    unzoned_by c.args.self.now.state c.drives.result.now c.number.result c.args.drive c.args.zone c.if-not-has_number.ensures
    (c.drives.ensures ∙ ap (λ (v : WorldServerState). v.state.drives) c.self.view_is) c.number.ensures.number
