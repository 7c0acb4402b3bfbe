use Rattle.std.proofs.Common.{◌∙◌, ◌∷◌, []}
use Rattle.layout_types.specs.Lines.{hint_lines}
use Rattle.layout_types.proofs.Shown.{on_ok, one_after_another}
use Rattle.layout_types.proofs.show.LayoutHintShow.show.Goals as goal

pub returns : goal.returns
unfolding hint_lines
returns c = on_ok c.show_hint-6.result c.show_hint-6.ensures
    (λ e. e ∙ rw (
      c.in_ok-show_hint-5.ensures,
      c.in_ok-show_hint-4.ensures,
      c.in_ok-show_hint-3.ensures,
      c.in_ok-show_hint-2.ensures,
      c.in_ok-show_hint.ensures,
      c.widened-5.ensures,
      c.widened-4.ensures,
      c.widened-3.ensures,
      c.widened-2.ensures,
      c.widened.ensures,
    ) (one_after_another c.args.out.now _ (_ ∷ _ ∷ _ ∷ _ ∷ _ ∷ [])))
