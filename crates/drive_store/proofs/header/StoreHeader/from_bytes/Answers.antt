use Rattle.std.proofs.Common.{ℕ, List, eqb, ◌∙◌, sym, ap, arith}
use Rattle.std.specs.Prelude.{slice_range}
use Rattle.std.specs.Int.{w64, from_be_bytes}
use Rattle.std.specs.Cmp.Lexicographic.{pointwise}
use Rattle.drive_store.proofs.HeaderLaws.{alike, capacity_in, number_in}
use Rattle.drive_store.proofs.header.StoreHeader.from_bytes.Goals as goal

pub returns-then-number-from-clause-none : goal.returns-then-number-from-clause-none
returns-then-number-from-clause-none c number capacity low fits is =
    let same = c.u64_at-number.ensures ∙ ap (λ (l : List ℕ). from_be_bytes w64 (slice_range l 8 16)) is
    ∙ number_in number capacity (omega (arith, low)) in
    omega (arith, same, low, c.if-number-from.true)

pub returns-else-eq-clause-none : goal.returns-else-eq-clause-none
returns-else-eq-clause-none c number capacity low fits is =
    let same = c.u64_at-number.ensures ∙ ap (λ (l : List ℕ). from_be_bytes w64 (slice_range l 8 16)) is
    ∙ number_in number capacity (omega (arith, low)) in
    let room = c.u64_at.ensures ∙ ap (λ (l : List ℕ). from_be_bytes w64 (slice_range l 16 24)) is
    ∙ capacity_in number capacity fits in
    let written = rw (same, room) at c.to_bytes.ensures.written in
    let alike_there =
    c.if-eq.ensures
    ∙ ap (λ (l : List ℕ). pointwise eqb l c.as_slice-2.result.now)
    (c.as_slice.ensures ∙ written ∙ sym is ∙ sym c.as_slice-2.ensures) ∙ alike c.as_slice-2.result.now in
    absurd (cc alike_there)
