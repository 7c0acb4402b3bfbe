use Rattle.std.proofs.Common.{◌≡◌, map, length}
use Rattle.scenario_text.specs.Keywords.{word_in}
use Rattle.scenario_text.proofs.keyword.value_of.Given as goal

abbrev pub invariant-loop-table : goal.invariant-loop-table
invariant-loop-table g l =
    word_in (map (λ entry. (entry.0.now, entry.1)) l.table) l.word ≡ word_in
    (map (λ entry. (entry.0.now, entry.1)) l.fn.table) l.word

abbrev pub decreases-loop-table : goal.decreases-loop-table
decreases-loop-table g l = length l.table
