use Rattle.std.proofs.Common.{length, sym, ap, ◌∙◌}
use Rattle.osd_objects.specs.Sparse.{Sparse}
use Rattle.osd_objects.proofs.PageLaws.{length-span}
use Rattle.osd_objects.proofs.sparse.SparseBytes.len.Goals as goal

pub returns : goal.returns
returns c = sym (length-span c.self.inside.pages.entries 0 c.self.inside.length)
    ∙ ap (λ (s : Sparse). length s.bytes) c.self.view_is
