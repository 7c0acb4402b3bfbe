use Rattle.std.proofs.Common.{◌∙◌, ◌∷◌, []}
use Rattle.layout_types.specs.Lines.{layout_lines}
use Rattle.layout_types.proofs.Shown.{on_ok, one_after_another}
use Rattle.layout_types.proofs.show.LayoutShow.show.Goals as goal

pub returns : goal.returns
unfolding layout_lines
returns c = on_ok c.show_list.result c.show_list.ensures
    (λ e. e ∙ rw (c.in_ok-put_u32.ensures, c.in_ok-show_part.ensures) (one_after_another c.args.out.now _ (_ ∷ _ ∷ [])))
