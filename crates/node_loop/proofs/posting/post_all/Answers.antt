use Rattle.std.proofs.Common.{rules, ◌+◌, refl}
use Rattle.std.proofs.lemmas.Result.{err_from_is_err_and}
use Rattle.std.proofs.Common.{drop}
use Rattle.std.proofs.lemmas.List.{drop_all}
use Rattle.node_loop.specs.Points.{seen}
use Rattle.node_loop.proofs.DueLaws.{drop-next}
use Rattle.node_loop.proofs.MovingLaws.{moves-stop, moves-then, moves-zero}
use Rattle.node_loop.proofs.posting.post_all.Goals as goal

pub loop-i-init : goal.loop-i-init
loop-i-init g c = record {
  moves = λ desk w. moves-zero refl (λ first since steps h. h);
  listens = search rules;
  later = search rules;
}

pub returns-in_err-post-clause-leaves : goal.returns-in_err-post-clause-leaves
returns-in_err-post-clause-leaves g c = λ desk w.
    let p = err_from_is_err_and c.from_residual.result c.from_residual.ensures.1 in
    rw p.1
    (moves-stop (seen (g.P.Ports.opened c.post.new.ports) (g.P.Ports.told c.post.new.ports) desk c.post.new.board)
    (c.loop-i.invariant.moves desk w)
    (rw (drop-next c.args.messages.now c.loop-i.i c.get.result.now (search rules))
    (c.in_err-post.ensures.leaves desk w (drop (c.loop-i.i + 1) c.args.messages.now))))

pub loop-i-preserved : goal.loop-i-preserved
loop-i-preserved g c = record {
  moves = λ desk w. moves-then {k = 0} (c.loop-i.invariant.moves desk w)
      (rw (drop-next c.args.messages.now c.loop-i.i c.get.result.now (search rules))
      (c.in_ok-post.ensures.leaves desk w (drop (c.loop-i.i + 1) c.args.messages.now)));
  listens = search rules;
  later = search rules;
}

pub returns-clause-leaves : goal.returns-clause-leaves
returns-clause-leaves g c = λ desk w.
    rw (drop_all c.loop-i.i c.args.messages.now (search rules)) at (c.loop-i.invariant.moves desk w)
