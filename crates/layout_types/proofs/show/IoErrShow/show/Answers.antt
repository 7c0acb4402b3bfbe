use Rattle.std.proofs.Common.{◌∙◌, ◌∷◌, []}
use Rattle.layout_types.specs.Lines.{ioerr_lines}
use Rattle.layout_types.proofs.Shown.{on_ok, one_after_another}
use Rattle.layout_types.proofs.show.IoErrShow.show.Goals as goal

pub returns : goal.returns
unfolding ioerr_lines
returns c = on_ok c.put_u32.result c.put_u32.ensures
    (λ e. e ∙ rw (
      c.in_ok-put_bool.ensures,
      c.in_ok-put_number-2.ensures,
      c.in_ok-put_number.ensures,
      c.in_ok-show_part.ensures,
      c.number.ensures.number,
    ) (one_after_another c.args.out.now _ (_ ∷ _ ∷ _ ∷ _ ∷ [])))
