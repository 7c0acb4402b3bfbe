-- How many bytes were read of a source.
use Rattle.std.proofs.Common.{◌≡◌, ◌≤◌, ◌+◌, ℕ, List, [], ◌++◌, length, take, Option, None, Some, refl, sym, ap, ◌∙◌, arith}
use Rattle.std.specs.Io.KnownBytes.{Consumes, Keeps}
use Rattle.std.proofs.lemmas.List.{length-append}
use Rattle.osd_bytes.specs.Reading.{ReadsOn, TakesAtMost}
use Rattle.osd_bytes.specs.Lines.{KeepsUnread}
use Rattle.osd_bytes.specs.declared.lines.LineErr.{LineErr}
use Rattle.osd_bytes.specs.declared.lines.LineErr.TheVariants.{TooLong, InputFull, ReadFault, Memory}
use Rattle.osd_bytes.proofs.NextLine.{Consumes-then}

-- nothing was taken
pub Consumes-none : (a : Option (List ℕ)) → Consumes a a []
Consumes-none None = tt
Consumes-none (Some xs) = refl

pub Consumes-kept : (a b : Option (List ℕ)) → Keeps a b → Consumes a b []
Consumes-kept None b k = tt
Consumes-kept (Some xs) None k = absurd k
Consumes-kept (Some xs) (Some ys) k = sym k

-- bytes were taken, and then none
pub Consumes-then-kept : (a b c : Option (List ℕ)) (x : List ℕ) → Consumes a b x → Keeps b c → Consumes a c x
Consumes-then-kept None b c x p k = tt
Consumes-then-kept (Some a) None c x p k = absurd p
Consumes-then-kept (Some a) (Some b) None x p k = absurd k
Consumes-then-kept (Some a) (Some b) (Some c) x p k = p ∙ ap (λ (t : List ℕ). x ++ t) (sym k)

-- ---- a count

pub reads-none : (n : ℕ) (a : Option (List ℕ)) → ReadsOn n n a a
reads-none n a = ([], Consumes-none a, omega arith)

pub reads-then : (n m k : ℕ) (a b c : Option (List ℕ)) → ReadsOn n m a b → ReadsOn m k b c → ReadsOn n k a c
reads-then n m k a b c p q =
    (p.0 ++ q.0, Consumes-then a b c p.0 q.0 p.1 q.1, omega (arith, p.2, q.2, length-append p.0 q.0))

-- behind bytes that came before
pub reads-behind : (before n m : ℕ) (a b : Option (List ℕ)) → ReadsOn n m a b → ReadsOn (before + n) (before + m) a b
reads-behind before n m a b p = (p.0, p.1, omega (arith, p.2))

-- a read that failed
pub reads-failed : (e : LineErr) (a b : Option (List ℕ)) → KeepsUnread a b e → ReadsOn 0 0 a b
reads-failed TooLong a b k = absurd k
reads-failed InputFull a b k = absurd k
reads-failed ReadFault a b k = ([], Consumes-kept a b k, refl)
reads-failed Memory a b k = rw k (reads-none 0 a)

pub within-most : (n m most : ℕ) (a b : Option (List ℕ)) → ReadsOn n m a b → m ≤ most → TakesAtMost most a b
within-most n m most a b p bound = (p.0, p.1, omega (arith, p.2, bound))

-- so many bytes came before, and these were read ahead
pub reads-ahead : (n taken k m : ℕ) (a b c : Option (List ℕ)) → ReadsOn n (taken + k) a b → ReadsOn k m b c →
    ReadsOn n (taken + m) a c
reads-ahead n taken k m a b c p q = reads-then n (taken + k) (taken + m) a b c p (reads-behind taken k m b c q)

pub reads-same : (n m k : ℕ) (a b : Option (List ℕ)) → ReadsOn n m a b → k ≡ m → ReadsOn n k a b
reads-same n m k a b p e = (p.0, p.1, e ∙ p.2)

-- nothing was taken of a source
pub takes-none : (most : ℕ) (a : Option (List ℕ)) → TakesAtMost most a a
takes-none most a = ([], Consumes-none a, omega arith)
