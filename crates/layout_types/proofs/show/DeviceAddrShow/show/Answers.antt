use Rattle.std.proofs.Common.{◌∙◌, ◌∷◌, []}
use Rattle.layout_types.specs.Lines.{deviceaddr_lines}
use Rattle.layout_types.proofs.Shown.{on_ok, one_after_another}
use Rattle.layout_types.proofs.show.DeviceAddrShow.show.Goals as goal

pub returns : goal.returns
unfolding deviceaddr_lines
returns c = on_ok c.put_bytes-2.result c.put_bytes-2.ensures
    (λ e. e ∙ rw (
      c.in_ok-show_part-2.ensures,
      c.in_ok-put_bytes.ensures,
      c.in_ok-put_opaque.ensures,
      c.in_ok-show_netaddr.ensures,
      c.in_ok-show_part.ensures,
    ) (one_after_another c.args.out.now _ (_ ∷ _ ∷ _ ∷ _ ∷ _ ∷ [])))
