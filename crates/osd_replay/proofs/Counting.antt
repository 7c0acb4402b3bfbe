-- The lines that were read and the newlines among the bytes that were taken.
use Rattle.std.proofs.Common.{◌≡◌, ◌==◌, ℕ, ◌+◌, Bool, true, false, List, [], ◌∷◌, ◌++◌, Option, Some, None, Ok, Err, if◌then◌else◌, refl, ap, subst, arith}
use Rattle.std.specs.Io.KnownBytes.{Consumes}
use Rattle.osd_bytes.specs.Lines.{CountsNewlines, TakesNewlines, newlines}
use Rattle.osd_bytes.specs.declared.lines.LineErr.{LineErr}
use Rattle.osd_bytes.specs.declared.lines.LineErr.TheVariants.{ReadFault}
use Rattle.osd_bytes.proofs.NextLine.{Consumes-then}
use Rattle.osd_replay.specs.Ends.{IsLineAt}

-- until the source ends there are as many newlines as lines
abbrev pub Counted : (ended : Bool) → (number : ℕ) → (input now : Option (List ℕ)) → Type 0
Counted ended number input now = ended ≡ false → TakesNewlines number input now

newlines_both : (xs ys : List ℕ) → newlines (xs ++ ys) ≡ newlines xs + newlines ys
unfolding newlines
newlines_both [] ys = omega arith
newlines_both (x ∷ xs) ys = by_test (x == 10) (newlines_both xs ys)
  where
    by_test : (b : Bool) → newlines (xs ++ ys) ≡ newlines xs + newlines ys
        → (if b then newlines (xs ++ ys) + 1 else newlines (xs ++ ys)) ≡ (if b then newlines xs + 1 else newlines xs)
        + newlines ys
    by_test true e = omega (arith, e)
    by_test false e = e

taken_both : (n m : ℕ) (input now next : Option (List ℕ)) → TakesNewlines n input now → TakesNewlines m now next →
    TakesNewlines (n + m) input next
taken_both n m input now next a b =
    (a.0 ++ b.0, omega (arith, newlines_both a.0 b.0, a.1, b.1), Consumes-then input now next a.0 b.0 a.2 b.2)

pub counted_none : (input : Option (List ℕ)) → Counted false 0 input input
unfolding newlines
counted_none None h = ([], refl, tt)
counted_none (Some bytes) h = ([], refl, refl)

-- a line more
pub counted_more : (ended ended_now : Bool) (number : ℕ) (input now next left : Option (List ℕ)) (line : List ℕ) →
    Counted ended number input now
    → CountsNewlines ended ended_now now next left (Ok (Some line)) → Counted ended_now (number + 1) input next
counted_more ended ended_now number input now next left line before counts h =
    let here = counts h in
    taken_both number 1 input now next (before here.0) here.1

-- the line at which the source fails
pub fails_at : (ended ended_now : Bool) (number : ℕ) (input now next left : Option (List ℕ)) (e : LineErr) →
    Counted ended number input now
    → CountsNewlines ended ended_now now next left (Err e) → e ≡ ReadFault → IsLineAt (number + 1) input left
fails_at ended ended_now number input now next left e before counts is =
    let here = subst (λ (x : LineErr). CountsNewlines ended ended_now now next left (Err x)) is counts in
    let all = taken_both number 0 input now left (before here.0) here.1 in
    (all.0, all.2, omega (arith, all.1))
