use Rattle.std.proofs.Common.{rules, arith, ◌/◌, ap, ◌∙◌, inr}
use Rattle.osd_objects.specs.declared.pages.TheConstants.{PAGE_BYTES}
use Rattle.osd_objects.specs.Pages.{byte_at}
use Rattle.osd_objects.specs.Sparse.{Sparse, written}
use Rattle.osd_objects.proofs.Filling.{there_with_pages, full_with_pages, byte_with_pages}
use Rattle.osd_objects.proofs.SparseLaws.{view_written, kept_written}
use Rattle.osd_objects.proofs.sparse.SparseBytes.write.Goals as goal

pub put_over-requires-clause-there : goal.put_over-requires-clause-there
put_over-requires-clause-there c =
    λ k from below. rw c.in_ok-fill.ensures.ok
    (there_with_pages _ _ _ (k / PAGE_BYTES) (inr (omega (arith, from, below), omega (arith, from, below))))

pub put_over-requires-clause-full : goal.put_over-requires-clause-full
put_over-requires-clause-full c = rw c.in_ok-fill.ensures.ok (full_with_pages _ _ _ c.self.invariant.full)

pub invariant_of-self-2 : goal.invariant_of-self-2
invariant_of-self-2 c =
    rw c.max-self-inside.ensures
    (kept_written c.self.inside.pages.entries c.fill.new.pages.entries c.put_over.new.pages.entries c.self.inside.length
    c.args.offset c.args.bytes.now c.self.invariant
    (λ k. ap (λ x. byte_at x k) c.in_ok-fill.ensures.ok
    ∙ byte_with_pages c.self.inside.pages.entries _ _ k) c.put_over.ensures c.requires)

pub returns-clause-ok : goal.returns-clause-ok
returns-clause-ok c =
    rw c.max-self-inside.ensures
    (view_written c.self.inside.pages.entries c.fill.new.pages.entries c.put_over.new.pages.entries c.self.inside.length
    c.args.offset c.args.bytes.now (search rules) c.self.invariant c.in_ok-fill.ensures.ok c.put_over.ensures
    ∙ ap (λ (s : Sparse). written s c.args.offset c.args.bytes.now) c.self.view_is)
