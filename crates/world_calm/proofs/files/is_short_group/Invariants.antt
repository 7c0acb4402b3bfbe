use Rattle.std.proofs.Common.{◌≡◌, ◌+◌, ◌^◌, ◌<◌}
use Rattle.server_rules.specs.Standing.{is_short}
use Rattle.world_calm.specs.Files.{standing}
use Rattle.world_calm.proofs.Short.{any_lacking}
use Rattle.world_calm.proofs.files.is_short_group.Given as goal

abbrev pub invariant-loop-left : goal.invariant-loop-left
invariant-loop-left l = record {
  rest : any_lacking l.fn.file.map (standing l.fn.failed l.fn.file.components) l.position l.left
      ≡ is_short l.fn.file.map (standing l.fn.failed l.fn.file.components) l.fn.group;
  fits : l.position + l.left < 2 ^ 64;
}

abbrev pub decreases-loop-left : goal.decreases-loop-left
decreases-loop-left l = l.left
