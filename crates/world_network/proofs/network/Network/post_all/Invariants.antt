use Rattle.std.proofs.Common.{◌≡◌, ◌≤◌, ◌+◌, ◌-◌, ◌++◌, map, drop, length, sum_by}
use Rattle.world_history.specs.declared.limits.TheConstants.{MAX_KEPT}
use Rattle.world_network.specs.Posting.{sent, cost, lines_from, fitting, AppendsPart}
use Rattle.world_network.proofs.network.Network.post_all.Given as goal

abbrev pub invariant-loop-place : goal.invariant-loop-place
invariant-loop-place l = record {
  within : l.self-inside.kept ≤ MAX_KEPT;
  messages : l.self-inside.messages ++ map sent
      (drop l.place l.left) ≡ l.fn.self.messages ++ map sent l.fn.postings;
  kept : l.self-inside.kept + sum_by cost
      (drop l.place l.left) ≡ l.fn.self.kept + sum_by cost l.fn.postings;
  lines : AppendsPart l.fn.lines l.lines (lines_from (length l.fn.self.messages) l.fn.postings)
      (lines_from (length l.self-inside.messages) (drop l.place l.left));
  cut : l.lines ++ lines_from (length l.self-inside.messages) (fitting (MAX_KEPT - l.self-inside.kept)
      (drop l.place l.left))
      ≡ l.fn.lines ++ lines_from (length l.fn.self.messages) (fitting (MAX_KEPT - l.fn.self.kept) l.fn.postings);
}

abbrev pub decreases-loop-place : goal.decreases-loop-place
decreases-loop-place l = length l.left - l.place
