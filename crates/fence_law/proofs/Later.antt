-- Kept: after an unsettled write no living entry reaches its columns, nor does the server write while its grant is outstanding.
-- Its grant conflicts with any other on these columns, and a repair runs when no grant is outstanding.
use Rattle.std.proofs.Common.{◌≡◌, ℕ, ◌<◌, ◌≤◌, Bool, true, false, ◌==◌, Option, Some, None, ◌⊎◌, refl, sym, ◌∙◌, inl, inr, arith}
use Rattle.std.proofs.lemmas.Bool.{false_from_ne_true, cases_Bool, eqb-true, cases_lt, true≢false}
use Rattle.std.proofs.lemmas.Option.{same_Some}
use Rattle.fence_law.specs.Words.{updated}
use Rattle.fence_law.specs.State.{State, Event, Grant, Start}
use Rattle.fence_law.specs.Starts.{written_start, read_start, repair_start, rebuilt_start}
use Rattle.fence_law.specs.Machine.{Allowed, after}
use Rattle.fence_law.specs.State.Call.{Idle, Reads}
use Rattle.fence_law.specs.State.Event.{Fenced, Refenced, StartsWrite, StartsRead, Acknowledges, Repairs, Repaired, Rebuilds}
use Rattle.fence_law.specs.Law.{IsUnsettled}
use Rattle.fence_law.proofs.Words.{updated_other, updated_read}
use Rattle.fence_law.proofs.Holds.{Holds}
use Rattle.fence_law.proofs.Commands.{Calls}
use Rattle.fence_law.proofs.Formed.{added, Mending, Formed}
use Rattle.fence_law.proofs.Open.{Dead, Open, open_added, open_acks, open_fenced}
use Rattle.fence_law.proofs.Live.{Open_granted, Open_at_work, busy_free}
use Rattle.fence_law.proofs.Acked.{option_cases}

abbrev pub Unsettled : State → ℕ → Type 0
Unsettled b j = IsUnsettled b j

pub open_unsettled : (b : State) (j : ℕ) → Open b j → Unsettled b j
open_unsettled b j o = (o.0, o.1, o.2, o.3, inl o.4)

pub none_open : (b : State) (j : ℕ) → b.repairing ≡ true → Mending b → Open_granted b → Open b j → ⊥
none_open b j m n q o = let e = q j o in grind (arith, n.outstanding (b.start j).client m, e.1)

pub nobody : (b : State) → Open_granted b → ((c : ℕ) → b.outstanding c ≡ None) → (j : ℕ) → Open b j → ⊥
nobody b q none j o = grind (arith, (q j o).1, none (b.start j).client)

pub unsettled_added : (b : State) (s : Start) (row : ℕ → ℕ → Bool) (j : ℕ) → Unsettled (added b s row) j →
    ((j ≡ b.count) × (s.is_write ≡ true) × (s.alive ≡ true) × ((s.tag ≡ b.tag) ⊎ ((b.repairing ≡ true) × (s.tag ≡ b.ended_tag))))
    ⊎ ((j ≡ b.count → ⊥) × Unsettled b j)
unsettled_added b s row j o = elim (updated_read b.start b.count s j).1 [
  | inl w ↦ inl (w.0, rw w.1 at o.1, rw w.1 at o.2, rw w.1 at o.4)
  | inr w ↦
      inr (
        w.0,
        (
          grind (arith, o.0, w.0),
          rw w.1 at o.1,
          rw w.1 at o.2,
          rw (updated_other b.acknowledged b.count false j w.0) at o.3,
          rw w.1 at o.4,
        ),
      )
]

pub unsettled_acks : (b : State) (i j : ℕ) → Unsettled (record b { acknowledged = updated b.acknowledged i true }) j →
    (j ≡ i → ⊥) × Unsettled b j
unsettled_acks b i j o = elim (updated_read b.acknowledged i true j).1 [
  | inl w ↦ absurd (grind (arith, w.1, o.3))
  | inr w ↦ (w.0, (o.0, o.1, o.2, sym w.1 ∙ o.3, o.4))
]

-- a fence that is over unsettles nothing: the writes of the grants that it ends were unsettled before
pub unsettled_fenced : (b : State) (j : ℕ) → Formed b → Unsettled (after b Fenced) j → Unsettled b j
unsettled_fenced b j f o = (o.0, o.1, o.2, o.3, inl (grind (arith, (f j o.0).low, o.4)))

-- nor does one that ran again, and it settles nothing: no grant was outstanding, and the tag to be settled stays
pub unsettled_refenced : (b : State) (j : ℕ) → Formed b → Unsettled (after b Refenced) j → Unsettled b j
unsettled_refenced b j f o =
    (o.0, o.1, o.2, o.3, elim o.4 [ inl e ↦ absurd (let l = (f j o.0).low in omega (arith, l, e)) | inr e ↦ inr e ])

pub refenced_unsettled : (b : State) (j : ℕ) → b.repairing ≡ true → Mending b → Open_granted b → Unsettled b j →
    Unsettled (after b Refenced) j
refenced_unsettled b j m n q o =
    (o.0, o.1, o.2, o.3, elim o.4 [ inl e ↦ absurd (none_open b j m n q (o.0, o.1, o.2, o.3, e)) | inr e ↦ inr e ])

pub unsettled_mended : (b : State) (j : ℕ) → b.repairing ≡ true → Mending b → Open_granted b →
    Unsettled (record b { repairing = false }) j → ⊥
unsettled_mended b j m n q o = none_open b j m n q (o.0, o.1, o.2, o.3, grind (arith, o.4))

-- while no grant is outstanding and no repair runs nothing is unsettled
pub unsettled_none : (b : State) (j : ℕ) → b.repairing ≡ false → Open_granted b → ((c : ℕ) → b.outstanding c ≡ None) →
    Unsettled b j → ⊥
unsettled_none b j m q none o = nobody b q none j (o.0, o.1, o.2, o.3, grind (arith, o.4, m))

-- after an unsettled write no living entry of a client reaches a column that it touches
abbrev pub Later : State → Type 0
Later b = (j : ℕ) → Unsettled b j → (i x : ℕ) → j < i → i < b.count → (b.start j).touch x ≡ true → (b.start i).reach x ≡ true →
    (b.start i).server ≡ false → (b.start i).alive ≡ false

-- nor any of the server, while its grant is outstanding
abbrev pub Unserved : State → Type 0
Unserved b = (j : ℕ) → Open b j → (i : ℕ) → j < i → i < b.count → (b.start i).server ≡ false

starts_dead : (b : State) (c d : ℕ) (g f : Grant) (x : ℕ) → b.held d ≡ Some g → Holds b → (c ≡ d → ⊥) → b.outstanding c ≡ Some f →
    f.rw ≡ true → f.covers x ≡ true → g.covers x ≡ true → (g.tag == b.tag) ≡ false
starts_dead b c d g f x has o ne outstanding may fx gx = elim (cases_Bool (g.tag == b.tag)) [
  | inl y ↦
      absurd
      (grind (
        arith,
        o.has d g has,
        λ (z : b.outstanding d ≡ Some g). o.apart c d f g ne outstanding z x fx gx,
        may,
        eqb-true g.tag b.tag y,
      ))
  | inr y ↦ y
]

-- a client that starts meets no other unsettled write
pub later_starts : (b : State) (c : ℕ) (g : Grant) → b.held c ≡ Some g → (b.call c ≡ Idle) ⊎ ((i : ℕ) × (b.call c ≡ Reads i)) →
    Holds b → Mending b → Open_granted b → Open_at_work b → (j x : ℕ) → Unsettled b j → (b.start j).touch x ≡ true →
    g.covers x ≡ true → (g.tag == b.tag) ≡ false
later_starts b c g has free o m q y j x z t gx = elim z.4 [
  | inl e ↦ let op : Open b j = (z.0, z.1, z.2, z.3, e) in let outstanding = q j op in
      starts_dead b (b.start j).client c g outstanding.0 x has o (busy_free b c j g has free y op) outstanding.1 outstanding.3
      (outstanding.4 x t) gx
  | inr e ↦ false_from_ne_true (g.tag == b.tag) (λ on. grind (arith, o.has c g has, eqb-true g.tag b.tag on, m.outstanding c e.0))
]

later_added : (b : State) (s : Start) (row : ℕ → ℕ → Bool) →
    ((j x : ℕ) → Unsettled b j → (b.start j).touch x ≡ true → s.reach x ≡ true → s.server ≡ false → s.alive ≡ false) → Later b →
    Later (added b s row)
later_added b s row new h j o i x low high t r sv = elim (unsettled_added b s row j o) [
  | inl w ↦ absurd (grind (arith, w.0, low, high))
  | inr w ↦ let t2 : (b.start j).touch x ≡ true = rw (updated_other b.start b.count s j w.0) at t in
      elim (updated_read b.start b.count s i).1 [
        | inl y ↦ rw y.1 (new j x w.1 t2 (rw y.1 at r) (rw y.1 at sv))
        | inr y ↦ rw y.1 (h j w.1 i x low (grind (arith, y.0, high)) t2 (rw y.1 at r) (rw y.1 at sv))
      ]
]

pub gathered_covers : (b : State) (c : ℕ) (g : Grant) (i : ℕ) (d : ℕ → Option ℕ) (touch : ℕ → Bool) (hit : ℕ → ℕ →
    Bool) (seen : ℕ → ℕ) (e1 : ℕ) (pt : ℕ → ℕ → ℕ) → Allowed b (StartsWrite c g i d touch hit seen e1 pt) → Calls b → (x : ℕ) →
    touch x ≡ true → g.covers x ≡ true
gathered_covers b c g i d touch hit seen e1 pt a r x t = let u = r.reads c i a.gathers in
    let same : Some u.under.0 ≡ Some g = sym u.under.1 ∙ a.has in
    rw (same_Some u.under.0 g same) at (u.under.3 x (a.gathered x t))

pub keep_later : (b : State) (e : Event) → Allowed b e → Calls b → Holds b → Formed b → Mending b → Open_granted b →
    Open_at_work b → Later b → Later (after b e)
keep_later b (StartsWrite c g i d touch hit seen e1 pt) a r o f n q y h =
    later_added b (written_start b c g d touch hit seen e1 pt) (λ k z. false)
    (λ j x z t u sv. later_starts b c g a.has (inr (i, a.gathers)) o n q y j x z t
    (gathered_covers b c g i d touch hit seen e1 pt a r x u)) h
keep_later b (StartsRead c g lo hi reach) a r o f n q y h =
    later_added b (read_start b c g lo hi reach) (λ k z. false)
    (λ j x z t u sv. later_starts b c g a.has (inl a.idle) o n q y j x z t (a.within x u)) h
keep_later b (Repairs k which e0) a r o f n q y h =
    later_added b (repair_start b k which e0) (λ f y. updated (λ w. false) k true f) (λ j x u t r2 sv. absurd (true≢false sv)) h
keep_later b (Rebuilds k cells) a r o f n q y h =
    later_added b (rebuilt_start b k cells) (λ f y. updated (λ w. false) k true f) (λ j x u t r2 sv. absurd (true≢false sv)) h
keep_later b (Acknowledges c i) a r o f n q y h = λ j x. h j (unsettled_acks b i j x).1
keep_later b Fenced a r o f n q y h = λ j x. h j (unsettled_fenced b j f x)
keep_later b Refenced a r o f n q y h = λ j x. h j (unsettled_refenced b j f x)
keep_later b (Repaired done e0) a r o f n q y h = λ j x. absurd (unsettled_mended b j a.runs n q x)
keep_later b e a r o f n q y h = h

unserved_added : (b : State) (s : Start) (row : ℕ → ℕ → Bool) → (s.server ≡ false) ⊎ ((j : ℕ) → Open b j → ⊥) → Unserved b →
    Unserved (added b s row)
unserved_added b s row new h j o i low high = elim (open_added b s row j o) [
  | inl w ↦ absurd (grind (arith, w.0, low, high))
  | inr w ↦ elim (updated_read b.start b.count s i).1 [
    | inl y ↦ rw y.1 (elim new [ inl e ↦ e | inr none ↦ absurd (none j w.1) ])
    | inr y ↦ rw y.1 (h j w.1 i low (grind (arith, y.0, high)))
  ]
]

pub keep_unserved : (b : State) (e : Event) → Allowed b e → Formed b → Mending b → Open_granted b → Unserved b →
    Unserved (after b e)
keep_unserved b (StartsWrite c g i d touch hit seen e1 pt) a f n q h =
    unserved_added b (written_start b c g d touch hit seen e1 pt) (λ k z. false) (inl refl) h
keep_unserved b (StartsRead c g lo hi reach) a f n q h =
    unserved_added b (read_start b c g lo hi reach) (λ k z. false) (inl refl) h
keep_unserved b (Repairs k which e0) a f n q h =
    unserved_added b (repair_start b k which e0) (λ f y. updated (λ w. false) k true f)
    (inr (λ j o. none_open b j a.at_work n q o)) h
keep_unserved b (Rebuilds k cells) a f n q h =
    unserved_added b (rebuilt_start b k cells) (λ f y. updated (λ w. false) k true f) (inr (nobody b q a.none)) h
keep_unserved b (Acknowledges c i) a f n q h = λ j x. h j (open_acks b i j x).1
keep_unserved b Fenced a f n q h = λ j x. absurd (open_fenced b j f x)
keep_unserved b Refenced a f n q h = λ j x. absurd (open_fenced b j f x)
keep_unserved b e a f n q h = h

-- an entry of a client that lives stands before an unsettled write of a column that it reaches
pub before_unsettled : (b : State) (j i x : ℕ) → Unsettled b j → Later b → i < b.count → (b.start i).alive ≡ true →
    (b.start i).reach x ≡ true → (b.start i).server ≡ false → (b.start j).touch x ≡ true → i ≤ j
before_unsettled b j i x o lt low alive r sv t = elim (cases_lt j i) [
  | inl l ↦ absurd (true≢false (sym alive ∙ lt j o i x l low t r sv))
  | inr l ↦ l
]

pub byte_or_touch : (b : State) (j q : ℕ) → j < b.count → Formed b →
    ((b.start j).data_at q ≡ None) ⊎ ((b.start j).touch (b.layout.col q) ≡ true)
byte_or_touch b j q low f = option_cases ((b.start j).data_at q) (λ n. inl n) (λ v e. inr ((f j low).touches q v e))

pub pay_or_touch : (b : State) (j k z : ℕ) → j < b.count → Formed b →
    ((b.start j).content k z ≡ None) ⊎ ((b.start j).touch (b.layout.cell_col k z) ≡ true)
pay_or_touch b j k z low f =
    elim (cases_Bool ((b.start j).touch (b.layout.cell_col k z))) [ inl t ↦ inr t | inr n ↦ inl ((f j low).payless k z n) ]

-- after an open write nothing that counts stands in a column that it touches: neither in cells nor in bytes
pub cells_end : (b : State) (j i k z : ℕ) → Open b j → j < i → i < b.count → (b.start j).touch (b.layout.cell_col k z) ≡ true →
    Formed b → Dead b → Later b → Unserved b → (b.applied i k z ≡ false) ⊎ ((b.start i).content k z ≡ None)
cells_end b j i k z o low high t f dead lt us = elim (pay_or_touch b i k z high f) [
  | inl n ↦ inr n
  | inr t2 ↦
      inl
      ((dead i high
      (lt j (open_unsettled b j o) i (b.layout.cell_col k z) low high t ((f i high).reaches _ t2) (us j o i low high))).1 k z)
]

pub bytes_end : (b : State) (j i q : ℕ) → Unsettled b j → j < i → i < b.count → (b.start j).touch (b.layout.col q) ≡ true →
    Formed b → Dead b → Later b → (b.chosen i q ≡ false) ⊎ ((b.start i).data_at q ≡ None)
bytes_end b j i q o low high t f dead lt = elim (cases_Bool (b.start i).is_write) [
  | inr no_write ↦ inr ((f i high).none q no_write)
  | inl w ↦ elim (byte_or_touch b i q high f) [
    | inl n ↦ inr n
    | inr t2 ↦ (dead i high (lt j o i (b.layout.col q) low high t ((f i high).reaches _ t2) ((f i high).own w))).2 q
  ]
]
