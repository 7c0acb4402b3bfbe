use Rattle.std.proofs.Common.{◌≡◌, ◌++◌, ◌-◌, drop, length}
use Rattle.world_parties.specs.Posting.{postings}
use Rattle.world_parties.proofs.posting.postings.Given as goal

abbrev pub invariant-loop-place : goal.invariant-loop-place
invariant-loop-place l =
    l.posts ++ postings l.fn.client l.begun l.fn.logged (drop l.place l.left)
    ≡ postings l.fn.client l.fn.wrote l.fn.logged l.fn.sends

abbrev pub decreases-loop-place : goal.decreases-loop-place
decreases-loop-place l = length l.left - l.place
