use Rattle.std.proofs.Common.{arith, ◌≡◌, ◌+◌, ◌-◌, min, take, drop, ap, ◌∙◌}
use Rattle.osd_objects.specs.Pages.{span}
use Rattle.osd_objects.specs.Sparse.{Sparse}
use Rattle.osd_objects.proofs.SparseLaws.{read_is}
use Rattle.osd_objects.proofs.sparse.SparseBytes.read.Goals as goal

pub returns : goal.returns
returns c =
    let size = c.self.inside.length in
    let end : min (c.args.offset + c.args.length) size ≡ c.min-end.result =
    omega (arith, c.min-end.ensures, c.saturating_add.ensures, c.self.invariant.small) in
    let all : span c.self.inside.pages.entries c.args.offset (c.min-end.result - c.args.offset) ≡ take c.args.length
    (drop c.args.offset c.args.self.now.bytes) =
    read_is c.self.inside.pages.entries size c.args.offset c.args.length c.min-end.result end
    ∙ ap (λ (s : Sparse). take c.args.length (drop c.args.offset s.bytes)) c.self.view_is in
    rw all at c.bytes_between.ensures
