use Rattle.stripe_repair.proofs.RepairLaws.{some_of}
use Rattle.stripe_repair.proofs.RebuildLaws.{with_sources}
use Rattle.stripe_repair.proofs.rebuild.sourced.Goals as goal

pub returns-then-not-is_empty-clause-readable : goal.returns-then-not-is_empty-clause-readable
returns-then-not-is_empty-clause-readable c =
    let own = rw c.in-Some.is at c.requires.piece in
    rw c.in-Some.is
    (λ fetch. with_sources c.args.kept.now c.args.target c.in-Some.piece c.args.nonce c.in_ok-reads.reads c.known.ensures
    own.group c.in_ok-reads.ensures
    (some_of c.is_empty.result c.in_ok-reads.reads c.is_empty.ensures c.if-not-is_empty.true))
