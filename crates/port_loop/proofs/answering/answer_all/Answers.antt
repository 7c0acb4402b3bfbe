use Rattle.std.proofs.Common.{rules, ◌+◌, drop, inl, inr, refl}
use Rattle.std.proofs.lemmas.Result.{err_from_is_err_and}
use Rattle.std.proofs.lemmas.List.{drop_all}
use Rattle.port_loop.specs.Points.{around, holding}
use Rattle.port_loop.specs.Serving.{desk_at}
use Rattle.port_loop.proofs.LeavingLaws.{moves-stop, moves-then}
use Rattle.port_loop.proofs.ListLaws.{drop-got}
use Rattle.port_loop.proofs.TurnLaws.{breaks-after, breaks-before, handles-one, handles-stops}
use Rattle.port_loop.proofs.answering.answer_all.Goals as goal

pub returns-in_err-reply-clause-leaves : goal.returns-in_err-reply-clause-leaves
returns-in_err-reply-clause-leaves g c = λ opened over told at.
    let p = err_from_is_err_and c.from_residual.result c.from_residual.ensures.1 in
    rw p.1
    (moves-stop (around opened told (desk_at c.handle.new.self (g.C.Clock.times c.now-now.new.self)) over)
    (c.loop-i.invariant.moves opened over told at)
    (elim c.in_err-reply.ensures.err [
      | inl same ↦ rw (drop-got c.args.records.now c.loop-i.i c.as_slice.result.now (search rules))
          (breaks-before (around opened told (desk_at c.loop-i.server (g.C.Clock.times c.loop-i.clock)) over)
          (around opened told (desk_at c.handle.new.self (g.C.Clock.times c.now-now.new.self)) over)
          (holding c.args.port c.loop-i.session at) c.args.port c.now-now.result c.as_slice.result.now
          (drop (c.loop-i.i + 1) c.args.records.now) refl same.0 c.now-now.ensures same.1)
      | inr changed ↦ rw (drop-got c.args.records.now c.loop-i.i c.as_slice.result.now (search rules))
          (breaks-after (around opened told (desk_at c.loop-i.server (g.C.Clock.times c.loop-i.clock)) over)
          (around opened told (desk_at c.handle.new.self (g.C.Clock.times c.now-now.new.self)) over)
          (holding c.args.port c.loop-i.session at) c.args.port c.now-now.result c.as_slice.result.now
          (drop (c.loop-i.i + 1) c.args.records.now) refl changed.0 c.now-now.ensures changed.1)
    ]))

pub returns-in_err-owe-clause-leaves : goal.returns-in_err-owe-clause-leaves
returns-in_err-owe-clause-leaves g c = λ opened over told at.
    let p = err_from_is_err_and c.from_residual-in_err-owe.result c.from_residual-in_err-owe.ensures.1 in
    rw p.1
    (moves-stop (around opened told (desk_at c.handle.new.self (g.C.Clock.times c.now-now.new.self)) over)
    (c.loop-i.invariant.moves opened over told at)
    (rw (drop-got c.args.records.now c.loop-i.i c.as_slice.result.now (search rules))
    (handles-stops (around opened told (desk_at c.loop-i.server (g.C.Clock.times c.loop-i.clock)) over)
    (around opened told (desk_at c.handle.new.self (g.C.Clock.times c.now-now.new.self)) over) at c.args.port
    c.now-now.result c.as_slice.result.now (drop (c.loop-i.i + 1) c.args.records.now) c.loop-i.session refl refl
    (search rules) c.now-now.ensures c.in_ok-reply.ensures.handles refl)))

pub loop-i-preserved : goal.loop-i-preserved
loop-i-preserved g c = record {
  moves = λ opened over told at. moves-then {k = 0} (c.loop-i.invariant.moves opened over told at)
      (rw (drop-got c.args.records.now c.loop-i.i c.as_slice.result.now (search rules))
      (handles-one (around opened told (desk_at c.loop-i.server (g.C.Clock.times c.loop-i.clock)) over)
      (around opened told (desk_at c.handle.new.self (g.C.Clock.times c.now-now.new.self)) over) at c.args.port
      c.now-now.result c.as_slice.result.now (drop (c.loop-i.i + 1) c.args.records.now) c.loop-i.session c.owe.new.self refl refl
      (search rules) c.now-now.ensures c.in_ok-reply.ensures.handles refl (search rules)));
  later = search rules;
  goes_on = c.in_ok-reply.ensures.goes_on;
}

pub returns-clause-leaves : goal.returns-clause-leaves
returns-clause-leaves g c = λ opened over told at.
    rw (drop_all c.loop-i.i c.args.records.now (search rules)) at (c.loop-i.invariant.moves opened over told at)
