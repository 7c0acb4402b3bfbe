use Rattle.std.proofs.Common.{arith, ◌≡◌, true, refl}
use Rattle.zone_place.specs.Choosing.{online_placed}
use Rattle.zone_place.specs.Zones.{spreads}
use Rattle.program_tests.specs.Swapped.{swapped}
use Rattle.program_tests.proofs.Swapping.{swaps}
use Rattle.program_tests.proofs.zoning.second_first.Goals as goal

pub returns : goal.returns
returns c = λ x e.
    let is : x ≡ swapped c.as_slice.result.now = rw e at c.swapped.ensures in
    let dealt : spreads c.args.ask.now (online_placed c.args.loads.now) c.as_slice.result.now ≡ true =
    rw c.as_slice.ensures (c.in_ok-dealt.ensures.spread c.requires c.in_ok-dealt.dealt refl) in
    rw is (swaps c.args.ask.now (online_placed c.args.loads.now) c.as_slice.result.now (omega (arith, c.if-ask-ne1.false)) dealt)
