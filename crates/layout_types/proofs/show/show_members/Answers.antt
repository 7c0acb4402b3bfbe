use Rattle.layout_types.proofs.Shown.{shown_next, shown_all}
use Rattle.std.proofs.Common.{◌∙◌, refl}
use Rattle.layout_types.proofs.show.show_members.Goals as goal

pub loop-n-preserved : goal.loop-n-preserved
loop-n-preserved g c =
    shown_next g.T.Show.lines c.args.path.now c.args.list.now c.loop-n.n c.index-list-n.result c.loop-n.out c.show.new.out _
    c.loop-n-test.true c.index-list-n.is
    (c.in_ok-show.ensures ∙ rw (c.as_slice.ensures, c.in_ok-front.ensures) refl) c.loop-n.invariant

pub returns : goal.returns
returns g c =
    shown_all g.T.Show.lines c.args.path.now c.args.list.now c.loop-n.n c.loop-n.out _ c.loop-n-test.false c.loop-n.invariant
