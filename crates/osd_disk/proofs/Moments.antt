-- How a run of a disk's calls goes on.
use Rattle.std.proofs.Common.{◌≡◌, inl, inr, ⊎_elim, ℕ, Bool, List, refl, ◌∙◌, arith}
use Rattle.osd_disk.specs.Crashes.{Elapses, LeavesOnly, Narrows, OnlyRead}

module _ {D : Type 0} (moment : D → ℕ) (left_since : D → ℕ → List ℕ → Type 0) where
  -- before the first call
  pub started : (old : D) (P : List ℕ → Type 0) → ((c : List ℕ) → left_since old (moment old) c → P c) →
      LeavesOnly moment left_since old old P
  started old P here = record { later = omega arith; each = here; before = λ t c le left. inl left }

  -- one call more, after which a crash leaves what has P
  pub goes_on : (old mid new : D) (P may_leave : List ℕ → Type 0) → LeavesOnly moment left_since old mid P
      → Elapses (moment mid) (moment new) (left_since mid) (left_since new) may_leave → ((c : List ℕ) → may_leave c → P c) →
      LeavesOnly moment left_since old new P
  goes_on old mid new P may_leave so_far time here = record {
    later = omega (arith, so_far.later, time.later);
    each = λ c left. ⊎_elim (so_far.each c) (here c) (time.nothing_else (moment old) c so_far.later left);
    before = λ t c le left. ⊎_elim (so_far.before t c le) (λ now. inr (here c now))
        (time.nothing_else t c (omega (arith, le, so_far.later)) left);
  }

  -- calls behind calls
  pub leaves_then : (old mid new : D) (P Q R : List ℕ → Type 0) → LeavesOnly moment left_since old mid P →
      LeavesOnly moment left_since mid new Q → ((c : List ℕ) → P c → R c) → ((c : List ℕ) → Q c → R c) →
      LeavesOnly moment left_since old new R
  leaves_then old mid new P Q R p q first second = record {
    later = omega (arith, p.later, q.later);
    each = λ c left. ⊎_elim (λ before. first c (p.each c before)) (second c) (q.before (moment old) c p.later left);
    before = λ t c le left. ⊎_elim (λ earlier. ⊎_elim inl (λ here. inr (first c here)) (p.before t c le earlier))
        (λ here. inr (second c here))
        (q.before t c (omega (arith, le, p.later)) left);
  }

module _ {D : Type 0} (tells : D → Bool) (seen : D → List ℕ) (may_leave : D → List ℕ → Type 0) (moment : D → ℕ)
    (left_since : D → ℕ → List ℕ → Type 0) where
  abbrev Read : D → D → Type 0
  Read old new = OnlyRead tells seen may_leave moment left_since old new

  -- before the first read
  pub nothing_read : (old : D) → Read old old
  nothing_read old = record {
    tells_same = refl;
    seen_same = refl;
    narrows = λ c left. left;
    later = omega arith;
    nothing_else = λ t c le left. inl left;
  }

  -- one read more
  pub read_more : (old mid new : D) → Read old mid → tells new ≡ tells mid → seen new ≡ seen mid →
      Narrows (may_leave mid) (may_leave new)
      → Elapses (moment mid) (moment new) (left_since mid) (left_since new) (may_leave new) → Read old new
  read_more old mid new so_far told same narrows time = record {
    tells_same = told ∙ so_far.tells_same;
    seen_same = same ∙ so_far.seen_same;
    narrows = λ c left. so_far.narrows c (narrows c left);
    later = omega (arith, so_far.later, time.later);
    nothing_else =
        λ t c le left. ⊎_elim (so_far.nothing_else t c le) (λ now. inr (so_far.narrows c (narrows c now)))
        (time.nothing_else t c (omega (arith, le, so_far.later)) left);
  }

  -- reads behind reads
  pub read_again : (old mid new : D) → Read old mid → Read mid new → Read old new
  read_again old mid new so_far more = record {
    tells_same = more.tells_same ∙ so_far.tells_same;
    seen_same = more.seen_same ∙ so_far.seen_same;
    narrows = λ c left. so_far.narrows c (more.narrows c left);
    later = omega (arith, so_far.later, more.later);
    nothing_else =
        λ t c le left. ⊎_elim (so_far.nothing_else t c le) (λ now. inr (so_far.narrows c now))
        (more.nothing_else t c (omega (arith, le, so_far.later)) left);
  }

  -- at each moment of reads a crash leaves what it could leave before them
  pub leaves_as_before : (old new : D) (P : List ℕ → Type 0) → Read old new →
      ((d : D) (c : List ℕ) → left_since d (moment d) c → may_leave d c)
      → ((c : List ℕ) → may_leave old c → P c) → LeavesOnly moment left_since old new P
  leaves_as_before old new P read only_now here = record {
    later = read.later;
    each = λ c left. ⊎_elim (λ past. here c (only_now old c past)) (here c) (read.nothing_else (moment old) c (omega arith) left);
    before = λ t c le left. ⊎_elim (λ past. inl past) (λ now. inr (here c now)) (read.nothing_else t c le left);
  }
