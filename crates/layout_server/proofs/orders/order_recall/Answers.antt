use Rattle.std.proofs.Common.{sym, refl}
use Rattle.layout_server.proofs.OrderLaws.{recalled_at, not_recalled}
use Rattle.layout_server.proofs.orders.order_recall.Goals as goal

pub returns-in_ok-step-in-Some-clause-obeys : goal.returns-in_ok-step-in-Some-clause-obeys
returns-in_ok-step-in-Some-clause-obeys c = λ chosen.
    rw c.as_slice-grants.ensures
    (recalled_at c.args.state.now c.args.number c.in-Some.file.now _ _ c.requires.good.files
    (sym c.in-Some.ensures.value) refl
    (rw c.as_slice-grants.ensures at c.in_ok-step-in-Some.ensures.sends) c.in_ok-step-in-Some.ensures.notes refl chosen)

pub returns-in-None-clause-obeys : goal.returns-in-None-clause-obeys
returns-in-None-clause-obeys c =
    λ chosen. not_recalled c.args.state.now c.args.number _ c.requires.good.files (sym c.in-None.ensures.value)
    (c.unknown.ensures c.args.state.now) chosen
