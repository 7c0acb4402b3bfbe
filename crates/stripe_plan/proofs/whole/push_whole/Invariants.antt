use Rattle.std.proofs.Common.{◌≡◌, ℕ, List, ◌-◌, ◌++◌, length}
use Rattle.data_map.specs.Striping.{group_width}
use Rattle.stripe_plan.specs.declared.plan.Column.{Column}
use Rattle.stripe_plan.specs.Encoded.{all_columns, words_in}
use Rattle.stripe_plan.specs.Plans.{written_stripe}
use Rattle.stripe_plan.proofs.Wholes.{Untaken}
use Rattle.stripe_plan.proofs.whole.push_whole.Given as goal

abbrev pub invariant-loop-place : goal.invariant-loop-place
invariant-loop-place l =
    (length l.rows ≡ group_width l.fn.map)
    × ((got : List Column) →
    (l.made ++ written_stripe l.fn.map l.fn.range l.fn.bytes got l.fn.out.components l.fn.stripe l.place
    (group_width l.fn.map - l.place)
    ≡ l.fn.made ++ written_stripe l.fn.map l.fn.range l.fn.bytes got l.fn.out.components l.fn.stripe 0 (group_width l.fn.map))
    × Untaken l.fn.map l.fn.stripe l.place
    (λ (c : ℕ). words_in l.fn.map l.fn.range l.fn.bytes got l.fn.out.components l.fn.stripe c (all_columns l.fn.map)) l.rows)
