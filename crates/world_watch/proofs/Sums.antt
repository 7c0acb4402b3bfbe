-- Sums that stop at the greatest number of 64 bits.
use Rattle.std.proofs.Common.{◌≡◌, ℕ, ◌+◌, ◌∷◌, [], List, length, fold, sum_by, refl, ap, ◌∙◌, arith}
use Rattle.scenario_text.specs.declared.line.Outcome.TheVariants.{ReadOk}
use Rattle.world_history.specs.declared.summary.Summary.{Summary}
use Rattle.world_history.specs.Summing.{counts_outcome}
use Rattle.world_watch.specs.Capping.{capped, capped_summary, sum_onto}

capped_more : (n b : ℕ) → capped (capped n + b) ≡ capped (n + b)
capped_more n b = omega arith

onto_fold : (n : ℕ) (bs : List ℕ) → sum_onto (capped n) bs ≡ capped (fold (λ k b. k + b) n bs)
onto_fold n [] = refl
onto_fold n (b ∷ bs) = ap (λ k. sum_onto k bs) (capped_more n b) ∙ onto_fold (n + b) bs

fold_plus : (n k : ℕ) (bs : List ℕ) → fold (λ k b. k + b) (n + k) bs ≡ n + fold (λ k b. k + b) k bs
fold_plus n k [] = refl
fold_plus n k (b ∷ bs) =
    let same : n + k + b ≡ n + (k + b) = omega arith in
    ap (λ j. fold (λ k b. k + b) j bs) same ∙ fold_plus n (k + b) bs

-- bytes that are added one after another to a sum that is capped
pub onto_capped : (n : ℕ) (bs : List ℕ) → sum_onto (capped n) bs ≡ capped (n + sum_by (λ b. b) bs)
onto_capped n bs =
    let none : n ≡ n + 0 = omega arith in
    onto_fold n bs ∙ ap (λ j. capped (fold (λ k b. k + b) j bs)) none ∙ ap (λ j. capped j) (fold_plus n 0 bs)

-- what is counted for a read that was answered
abbrev with_read : Summary → (ok n sum : ℕ) → Summary
with_read s ok n sum = record {
  calls = capped s.calls;
  ok = ok;
  writes = capped s.writes;
  reads = capped s.reads;
  read_bytes = n;
  read_sum = sum;
}

read_capped : (s : Summary) (bytes : List ℕ)
    → record (capped_summary s) {
      ok = capped (capped s.ok + 1);
      read_bytes = capped (capped s.read_bytes + length bytes);
      read_sum = sum_onto (capped s.read_sum) bytes;
    } ≡ capped_summary (counts_outcome s (ReadOk bytes))
read_capped s bytes =
    ap (λ x. with_read s x (capped (capped s.read_bytes + length bytes)) (sum_onto (capped s.read_sum) bytes))
    (capped_more s.ok 1)
    ∙ ap (λ x. with_read s (capped (s.ok + 1)) x (sum_onto (capped s.read_sum) bytes))
    (capped_more s.read_bytes (length bytes))
    ∙ ap (λ x. with_read s (capped (s.ok + 1)) (capped (s.read_bytes + length bytes)) x) (onto_capped s.read_sum bytes)

pub read_counted : (s now : Summary) (bytes : List ℕ) (ok n sum : ℕ) → now ≡ capped_summary s
    → ok ≡ capped (now.ok + 1) → n ≡ capped (now.read_bytes + length bytes) → sum ≡ sum_onto now.read_sum bytes
    → record now { ok = ok; read_bytes = n; read_sum = sum } ≡ capped_summary (counts_outcome s (ReadOk bytes))
read_counted s now bytes ok n sum e o r t = rw (o, r, t, e) (read_capped s bytes)
