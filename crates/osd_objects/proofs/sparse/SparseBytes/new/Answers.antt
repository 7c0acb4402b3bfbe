use Rattle.std.proofs.Common.{arith, refl}
use Rattle.osd_objects.specs.Pages.{span, byte_at}
use Rattle.osd_objects.proofs.sparse.SparseBytes.new.Goals as goal

pub invariant_of-result : goal.invariant_of-result
unfolding byte_at
invariant_of-result c =
    rw c.new.ensures.empty (record { full = λ n page found. absurd (cc found); clean = λ k h. refl; small = omega arith })

pub returns : goal.returns
unfolding span
returns c = rw c.new.ensures.empty refl
