use Rattle.std.proofs.Common.{◌∙◌}
use Rattle.program_tests.proofs.Ranking.{may_rank, ranked_places}
use Rattle.program_tests.proofs.placing.highest_first.Goals as goal

pub fewest_first-requires : goal.fewest_first-requires
fewest_first-requires c =
    may_rank c.args.count c.args.loads.now c.as_slice.result.now (c.as_slice.ensures.value ∙ c.in_ok-ranked.ensures) c.requires

pub returns : goal.returns
returns c = λ x e. ranked_places c.args.count c.args.loads.now c.as_slice.result.now x
    (c.as_slice.ensures.value ∙ c.in_ok-ranked.ensures) (c.fewest_first.ensures.places x e)
