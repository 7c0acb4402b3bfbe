use Rattle.std.proofs.Common.{◌≡◌, ◌++◌, ◌-◌, drop, length}
use Rattle.layout_world.specs.Posting.{postings}
use Rattle.layout_world.proofs.posting.postings.Given as goal

abbrev pub invariant-loop-place : goal.invariant-loop-place
invariant-loop-place l = l.posts ++ postings (drop l.place l.left) ≡ postings l.fn.sends

abbrev pub decreases-loop-place : goal.decreases-loop-place
decreases-loop-place l = length l.left - l.place
