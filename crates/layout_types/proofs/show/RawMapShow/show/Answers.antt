use Rattle.std.proofs.Common.{◌∙◌, ◌∷◌, []}
use Rattle.layout_types.specs.Lines.{map_lines}
use Rattle.layout_types.proofs.Shown.{on_ok, one_after_another}
use Rattle.layout_types.proofs.show.RawMapShow.show.Goals as goal

pub returns : goal.returns
unfolding map_lines
returns c = on_ok c.put_u32-5.result c.put_u32-5.ensures
    (λ e. e ∙ rw (
      c.in_ok-put_u32-4.ensures,
      c.in_ok-put_u32-3.ensures,
      c.in_ok-put_u32-2.ensures,
      c.in_ok-put_number.ensures,
      c.in_ok-put_u32.ensures,
    ) (one_after_another c.args.out.now _ (_ ∷ _ ∷ _ ∷ _ ∷ _ ∷ [])))
