-- Only a write's commit is carried out, an acknowledged write ends inside the size or was committed, and whoever was told so
-- was acknowledged.
use Rattle.std.proofs.Common.{max, ◌≡◌, ℕ, ◌+◌, ◌<◌, ◌≤◌, Bool, true, false, cond, ◌⊎◌, sym, ap, ◌∙◌, inl, inr, arith}
use Rattle.std.proofs.lemmas.Bool.{true_from_ne_false, cases_Bool, cases_eq, true≢false}
use Rattle.fence_law.specs.Words.{updated}
use Rattle.fence_law.specs.State.{State, Event, Start}
use Rattle.fence_law.specs.Starts.{written_start, read_start, repair_start, rebuilt_start}
use Rattle.fence_law.specs.Machine.{Allowed, after}
use Rattle.fence_law.specs.State.Event.{StartsWrite, StartsRead, Acknowledges, Repairs, Rebuilds, Commits, Tells}
use Rattle.fence_law.specs.Law.{IsCode, grow, size_before}
use Rattle.fence_law.proofs.Words.{up_on, updated_at, updated_other, updated_read}
use Rattle.fence_law.proofs.Commands.{Calls}
use Rattle.fence_law.proofs.Formed.{added, Formed, Running}
use Rattle.fence_law.proofs.Open.{Dead}
use Rattle.fence_law.proofs.Acked.{Known_done, acks_full}
use Rattle.fence_law.proofs.Sizes.{Commit_call, grow-next}

-- only a write's commit is carried out
abbrev pub Took_write : State → Type 0
Took_write b = (j : ℕ) → j < b.count → b.committed j ≡ true → (b.start j).is_write ≡ true

tw_added : (b : State) (s : Start) (row : ℕ → ℕ → Bool) → Took_write b → Took_write (added b s row)
tw_added b s row h j low t = elim (updated_read b.start b.count s j).1 [
  | inl w ↦ absurd (true≢false (sym t ∙ updated_at b.committed b.count false j w.0))
  | inr w ↦ rw w.1 (h j (grind (arith, w.0, low)) (sym (updated_other b.committed b.count false j w.0) ∙ t))
]

pub keep_took : (b : State) (e : Event) → Allowed b e → Running b → Commit_call b → Took_write b → Took_write (after b e)
keep_took b (StartsWrite c g i d touch hit seen e1 pt) a run cm h =
    tw_added b (written_start b c g d touch hit seen e1 pt) (λ k z. false) h
keep_took b (StartsRead c g lo hi reach) a run cm h = tw_added b (read_start b c g lo hi reach) (λ k z. false) h
keep_took b (Repairs k which e0) a run cm h = tw_added b (repair_start b k which e0) (λ f y. updated (λ w. false) k true f) h
keep_took b (Rebuilds k cells) a run cm h = tw_added b (rebuilt_start b k cells) (λ f y. updated (λ w. false) k true f) h
keep_took b (Commits c i g) a run cm h = λ j low t. elim (cases_eq j i) [
  | inl e ↦ ap (λ y. (b.start y).is_write) e ∙ (run.writes c i (grind (arith, cm c, a.asks))).0
  | inr ne ↦ h j low (sym (updated_other b.committed i true j ne) ∙ t)
]
keep_took b e a run cm h = h

-- an acknowledged write was under a grant of its time, and ends inside the size or was committed
abbrev pub Acked_fits : State → Type 0
Acked_fits b = (j : ℕ) → j < b.count → b.acknowledged j ≡ true →
    ((b.start j).alive ≡ true) × ((b.start j).server ≡ false) × (((b.start j).end_ ≤ (b.start j).clip) ⊎ (b.committed j ≡ true))

af_added : (b : State) (s : Start) (row : ℕ → ℕ → Bool) → Acked_fits b → Acked_fits (added b s row)
af_added b s row h j low t = elim (updated_read b.start b.count s j).1 [
  | inl w ↦ absurd (true≢false (sym t ∙ updated_at b.acknowledged b.count false j w.0))
  | inr w ↦
      rw (w.1, updated_other b.committed b.count false j w.0)
      (h j (grind (arith, w.0, low)) (sym (updated_other b.acknowledged b.count false j w.0) ∙ t))
]

af_acks : (b : State) (c i : ℕ) → Allowed b (Acknowledges c i) → IsCode b.layout → Calls b → Running b → Formed b → Known_done b →
    Dead b → Acked_fits b → Acked_fits (after b (Acknowledges c i))
af_acks b c i a code r run f kd dead h j low t = elim (cases_eq j i) [
  | inr ne ↦ h j low (sym (updated_other b.acknowledged i true j ne) ∙ t)
  | inl e ↦ let lo = (r.writes c i a.runs).below in let w = run.writes c i a.runs in
      let al : (b.start i).alive ≡ true =
      true_from_ne_false (b.start i).alive (λ d. let x = (f i lo).some w.0 in let c1 = (f i lo).lands x.0 x.1 w.0 x.2 in
      true≢false (sym (acks_full b c i a kd (dead i lo d).0 c1.0 c1.1 c1.2 c1.3) ∙ (dead i lo d).1 c1.0 c1.1)) in
      rw e (al, (f i lo).own w.0, a.fits)
]

pub keep_acked_fits : (b : State) (e : Event) → Allowed b e → IsCode b.layout → Calls b → Running b → Formed b → Known_done b →
    Dead b → Acked_fits b → Acked_fits (after b e)
keep_acked_fits b (StartsWrite c g i d touch hit seen e1 pt) a code r run f kd dead h =
    af_added b (written_start b c g d touch hit seen e1 pt) (λ k z. false) h
keep_acked_fits b (StartsRead c g lo hi reach) a code r run f kd dead h =
    af_added b (read_start b c g lo hi reach) (λ k z. false) h
keep_acked_fits b (Repairs k which e0) a code r run f kd dead h =
    af_added b (repair_start b k which e0) (λ f2 y. updated (λ w. false) k true f2) h
keep_acked_fits b (Rebuilds k cells) a code r run f kd dead h =
    af_added b (rebuilt_start b k cells) (λ f2 y. updated (λ w. false) k true f2) h
keep_acked_fits b (Commits c i g) a code r run f kd dead h = λ j low t. let x = h j low t in
    (x.0, x.1, elim x.2 [ inl l ↦ inl l | inr on ↦ inr (grind (arith, updated_read b.committed i true j, on)) ])
keep_acked_fits b (Acknowledges c i) a code r run f kd dead h = af_acks b c i a code r run f kd dead h
keep_acked_fits b e a code r run f kd dead h = h

-- the size that the log leaves after entry j, by whether its commit was carried out
pub sz_next : (b : State) (j : ℕ) →
    ((b.committed j ≡ true) × (size_before b (j + 1) ≡ max (size_before b j) (b.start j).end_))
    ⊎ ((b.committed j ≡ false) × (size_before b (j + 1) ≡ size_before b j))
sz_next b j = elim (cases_Bool (b.committed j)) [
  | inl on ↦ inl (on, grow-next _ _ j ∙ ap (λ y. cond y (max (size_before b j) (b.start j).end_) (size_before b j)) on)
  | inr off ↦ inr (off, grow-next _ _ j ∙ ap (λ y. cond y (max (size_before b j) (b.start j).end_) (size_before b j)) off)
]

-- whoever was told so was acknowledged
abbrev pub Said : State → Type 0
Said b = (j : ℕ) → b.told_client j ≡ true → (j < b.count) × (b.acknowledged j ≡ true)

said_added : (b : State) (s : Start) (row : ℕ → ℕ → Bool) → Said b → Said (added b s row)
said_added b s row h j t =
    let x = h j t in (grind (arith, x.0), grind (arith, updated_read b.acknowledged b.count false j, x.0, x.1))

pub keep_said : (b : State) (e : Event) → Allowed b e → Said b → Said (after b e)
keep_said b (StartsWrite c g i d touch hit seen e1 pt) a h =
    said_added b (written_start b c g d touch hit seen e1 pt) (λ k z. false) h
keep_said b (StartsRead c g lo hi reach) a h = said_added b (read_start b c g lo hi reach) (λ k z. false) h
keep_said b (Repairs k which e0) a h = said_added b (repair_start b k which e0) (λ f y. updated (λ w. false) k true f) h
keep_said b (Rebuilds k cells) a h = said_added b (rebuilt_start b k cells) (λ f y. updated (λ w. false) k true f) h
keep_said b (Acknowledges c i) a h = λ j t. let x = h j t in (x.0, up_on b.acknowledged i j x.1)
keep_said b (Tells i) a h =
    λ j t. elim (updated_read b.told_client i true j).1 [ inl w ↦ rw w.0 (a.low, a.on) | inr w ↦ h j (sym w.1 ∙ t) ]
keep_said b e a h = h
