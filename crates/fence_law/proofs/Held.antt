-- Kept: a component that isn't gone holds what the performed writes leave, in order of their start; beside a running read nothing
-- changes what it reaches.
-- Two writes of one column are never at work together.
use Rattle.std.proofs.Common.{◌≡◌, ℕ, ◌+◌, ◌<◌, ◌≤◌, Bool, true, false, Some, None, ◌⊎◌, refl, sym, ap, ◌∙◌, inl, inr, arith, ◌==◌}
use Rattle.std.proofs.lemmas.Bool.{cases_Bool, false_from_ne_true, eq-eqb, cases_eq, true≢false}
use Rattle.fence_law.specs.Words.{updated, over}
use Rattle.std.proofs.Common.{cond}
use Rattle.osd_lists.proofs.Tests.{first_false}
use Rattle.fence_law.specs.State.{State, Event, Write, Call, Start}
use Rattle.fence_law.specs.Starts.{written_start, read_start, repair_start, rebuilt_start, performed}
use Rattle.fence_law.specs.Machine.{Allowed, after}
use Rattle.fence_law.specs.State.Call.{Idle, Writes, Reads, Broken}
use Rattle.fence_law.specs.State.Event.{Grants, Reports, Forgets, Fenced, Refenced, StartsWrite, StartsRead, Performs, Acknowledges, Breaks, Answers, EndsRead, Repairs, Repaired, Rebuilds, TakesRefusal, Loses, PerformsLost}
use Rattle.fence_law.specs.Law.{chain, byte_before, cell_before, IsCode}
use Rattle.fence_law.proofs.Words.{up_off, updated_at, updated_other, updated_read, updated_same}
use Rattle.fence_law.proofs.Parts.{pf_row, pf_hit, hit_case}
use Rattle.fence_law.proofs.Tags.{Tags}
use Rattle.fence_law.proofs.Holds.{Holds}
use Rattle.fence_law.proofs.Commands.{Calls}
use Rattle.fence_law.proofs.Chains.{chain-next, chain_same, chain_cares, chain_quiet, over_none, over_twice}
use Rattle.fence_law.proofs.Formed.{Gone_lost, not_gone, added, Mending, Formed, Running}
use Rattle.fence_law.proofs.Open.{Dead, Known, Unacked, Open, fresh_open, now_fresh}
use Rattle.fence_law.proofs.Live.{Open_granted, Open_at_work}
use Rattle.fence_law.proofs.Acked.{Known_done}
use Rattle.fence_law.proofs.Later.{Unsettled, Later, Unserved, pay_or_touch, cells_end}
use Rattle.fence_law.proofs.Chosen.{Late_ack, acks_same}

-- no writer is at work beside a read under an outstanding grant
no_writer : (b : State) (i c j z : ℕ) → Open b i → b.call c ≡ Reads j → (b.start j).tag ≡ b.tag → (b.start i).touch z ≡ true →
    (b.start j).reach z ≡ true → Holds b → Calls b → Open_granted b → Open_at_work b → ⊥
no_writer b i c j z x run tag t rz o r q y = let u = r.reads c j run in let e = q i x in
    let outstanding : b.outstanding c ≡ Some u.under.0 = grind (arith, o.has c u.under.0 u.under.1, u.under.2, tag) in
    elim (cases_eq (b.start i).client c) [
      | inl same ↦ grind (arith, y i x, run, u.under.1, same)
      | inr ne ↦ grind (arith, o.apart (b.start i).client c e.0 u.under.0 ne e.1 outstanding z (e.4 z t) (u.under.3 z rz), e.3)
    ]

-- a read under an outstanding grant runs beside no repair
pub read_over : (b : State) (c j : ℕ) → b.call c ≡ Reads j → (b.start j).tag ≡ b.tag → Holds b → Calls b → Mending b →
    b.repairing ≡ false
read_over b c j run tag o r m = let u = r.reads c j run in
    false_from_ne_true b.repairing (λ on. grind (arith, o.has c u.under.0 u.under.1, u.under.2, tag, m.outstanding c on))

abbrev pub Silent : State → ℕ → Type 0
Silent b i = ((k z : ℕ) → b.applied i k z ≡ false) × ((p : ℕ) → (b.chosen i p ≡ false) ⊎ ((b.start i).data_at p ≡ None))

-- since a read under an outstanding grant nothing counts that started after it and touches what it reaches
abbrev pub Beside_reads : State → Type 0
Beside_reads b = (c j : ℕ) → b.call c ≡ Reads j → (b.start j).tag ≡ b.tag → (i x : ℕ) → j ≤ i → i < b.count →
    (b.start j).reach x ≡ true → (b.start i).touch x ≡ true → Silent b i

quiet_call : (b : State) (c : ℕ) (x : Call) → ((j : ℕ) → x ≡ Reads j → ⊥) → Beside_reads b →
    Beside_reads (record b { call = updated b.call c x })
quiet_call b c x none h d j run = h d j (grind (arith, updated_read b.call c x d, none j, run))

quiet_old : (b : State) (s : Start) → Calls b → Beside_reads b → (c j : ℕ) → b.call c ≡ Reads j →
    (updated b.start b.count s j).tag ≡ b.tag → (i x : ℕ) → j ≤ i → i < b.count + 1 →
    (updated b.start b.count s j).reach x ≡ true → (updated b.start b.count s i).touch x ≡ true →
    Silent (added b s (λ k z. false)) i
quiet_old b s r h c j run tag i x low high rx tx = let u = r.reads c j run in
    let e : updated b.start b.count s j ≡ b.start j = grind (arith, updated_read b.start b.count s j, u.below) in
    let tag2 : (b.start j).tag ≡ b.tag = rw e at tag in
    elim (cases_eq i b.count) [
      | inl w ↦ (
        λ k z. ap (λ y. y k z) (updated_at b.applied b.count (λ k z. false) i w),
        λ p. inl (ap (λ y. y p) (updated_at b.chosen b.count (λ p. false) i w)),
      )
      | inr ne ↦
          rw (
            updated_other b.applied b.count (λ k z. false) i ne,
            updated_other b.chosen b.count (λ p. false) i ne,
            updated_other b.start b.count s i ne,
          )
          (h c j run tag2 i x low (grind (arith, ne, high)) (rw e at rx) (rw (updated_other b.start b.count s i ne) at tx))
    ]

quiet_performs : (b : State) (w : Write) → Open b w.entry → Holds b → Calls b → Open_granted b → Open_at_work b → Beside_reads b →
    Beside_reads (after b (Performs w))
quiet_performs b w z o r q y h c j run tag i x low high rx tx = elim (cases_eq i w.entry) [
  | inl e ↦ absurd (no_writer b w.entry c j x z run tag (rw e at tx) rx o r q y)
  | inr ne ↦ rw (pf_row b w i ne) (h c j run tag i x low high rx tx)
]

quiet_acks : (b : State) (c0 j0 : ℕ) → Allowed b (Acknowledges c0 j0) → IsCode b.layout → Calls b → Running b → Formed b →
    Known_done b → Dead b → Late_ack b → Holds b → Mending b → Open_granted b → Open_at_work b → Beside_reads b →
    Beside_reads (record b { acknowledged = updated b.acknowledged j0 true; chosen = updated b.chosen j0 (λ p. true) })
quiet_acks b c0 j0 a code r run f kd dead late o m q y h c j go tag i x low high rx tx =
    let old = h c j go tag i x low high rx tx in
    elim (cases_eq i j0) [
      | inr ne ↦ rw (updated_other b.chosen j0 (λ p. true) i ne) old
      | inl e ↦ let over_ = read_over b c j go tag o r m in
          let no_ : Unsettled b j0 → ⊥ =
          λ u. no_writer b j0 c j x (u.0, u.1, u.2, u.3, grind (arith, u.4, over_)) go tag
          (ap (λ z. (b.start z).touch x) (sym e) ∙ tx) rx o r q y in (
            old.0,
            λ p. elim (acks_same b c0 j0 p a code r run f kd dead late no_) [
              | inr n ↦ inr (ap (λ z. (b.start z).data_at p) e ∙ n)
              | inl on ↦
                  elim (old.1 p) [ inl off ↦ absurd (true≢false (sym on ∙ ap (λ z. b.chosen z p) (sym e) ∙ off)) | inr n ↦ inr n ]
            ],
          )
    ]

pub keep_beside_reads : (b : State) (e : Event) → Allowed b e → IsCode b.layout → Tags b → Formed b → Holds b → Calls b →
    Running b → Known b → Known_done b → Dead b → Unacked b → Mending b → Open_granted b → Open_at_work b → Late_ack b →
    Beside_reads b → Beside_reads (after b e)
keep_beside_reads b (Reports c g) a code t f o r run n kd d u m q y late h = quiet_call b c Idle (λ j e. cc) h
keep_beside_reads b (Forgets c) a code t f o r run n kd d u m q y late h = quiet_call b c Idle (λ j e. cc) h
keep_beside_reads b (TakesRefusal c j0) a code t f o r run n kd d u m q y late h = quiet_call b c Idle (λ j e. cc) h
keep_beside_reads b (StartsWrite c g i0 d0 touch hit seen e1 pt) a code t f o r run n kd d u m q y late h =
    λ e j go tag i x low high rx tx.
    elim (updated_read b.call c (Writes b.count) e).1 [
      | inl w ↦ let z : Writes b.count ≡ Reads j = sym w.1 ∙ go in absurd (cc z)
      | inr w ↦ quiet_old b (written_start b c g d0 touch hit seen e1 pt) r h e j (sym w.1 ∙ go) tag i x low high rx tx
    ]
keep_beside_reads b (StartsRead c g lo hi reach) a code t f o r run n kd d u m q y late h = λ e j go tag i x low high rx tx.
    elim (updated_read b.call c (Reads b.count) e).1 [
      | inl w ↦ let z : Reads b.count ≡ Reads j = sym w.1 ∙ go in let same : i ≡ b.count = grind (arith, z, low, high) in (
        λ k z. ap (λ y. y k z) (updated_at b.applied b.count (λ k z. false) i same),
        λ p. inl (ap (λ y. y p) (updated_at b.chosen b.count (λ p. false) i same)),
      )
      | inr w ↦ quiet_old b (read_start b c g lo hi reach) r h e j (sym w.1 ∙ go) tag i x low high rx tx
    ]
keep_beside_reads b (Repairs k which e0) a code t f o r run n kd d u m q y late h =
    λ c j go tag i x low high rx tx. let v = r.reads c j go in
    let e : updated b.start b.count (repair_start b k which e0) j ≡ b.start j =
    grind (arith, updated_read b.start b.count (repair_start b k which e0) j, v.below) in
    absurd (true≢false (sym a.at_work ∙ read_over b c j go (rw e at tag) o r m))
keep_beside_reads b (Rebuilds k cells) a code t f o r run n kd d u m q y late h =
    λ c j go tag i x low high rx tx. let v = r.reads c j go in
    let e : updated b.start b.count (rebuilt_start b k cells) j ≡ b.start j =
    grind (arith, updated_read b.start b.count (rebuilt_start b k cells) j, v.below) in
    let tag2 : (b.start j).tag ≡ b.tag = rw e at tag in
    absurd (grind (arith, o.has c v.under.0 v.under.1, v.under.2, tag2, a.none c))
keep_beside_reads b (Acknowledges c j) a code t f o r run n kd d u m q y late h =
    quiet_call (record b { acknowledged = updated b.acknowledged j true; chosen = updated b.chosen j (λ p. true) }) c Idle
    (λ j e. cc) (quiet_acks b c j a code r run f kd d late o m q y h)
keep_beside_reads b (Breaks c j) a code t f o r run n kd d u m q y late h = quiet_call b c Broken (λ j e. cc) h
keep_beside_reads b (Answers c j f2) a code t f o r run n kd d u m q y late h = quiet_call b c Idle (λ j e. cc) h
keep_beside_reads b (EndsRead c j) a code t f o r run n kd d u m q y late h = quiet_call b c Idle (λ j e. cc) h
keep_beside_reads b (Performs w) a code t f o r run n kd d u m q y late h =
    quiet_performs b w (fresh_open b w a.comes (now_fresh b w a t f n) n d u) o r q y h
keep_beside_reads b (Repaired done e0) a code t f o r run n kd d u m q y late h =
    λ c j go tag i x low high rx tx. absurd (true≢false (sym a.runs ∙ read_over b c j go tag o r m))
keep_beside_reads b Fenced a code t f o r run n kd d u m q y late h =
    λ c j go tag i x low high rx tx. let v = r.reads c j go in absurd (grind (arith, o.has c v.under.0 v.under.1, v.under.2, tag))
keep_beside_reads b Refenced a code t f o r run n kd d u m q y late h =
    λ c j go tag i x low high rx tx. let v = r.reads c j go in absurd (grind (arith, o.has c v.under.0 v.under.1, v.under.2, tag))
keep_beside_reads b e a code t f o r run n kd d u m q y late h = h

-- a new entry changes nothing before it
pub at_added : (b : State) (s : Start) (row : ℕ → ℕ → Bool) (i q : ℕ) → i ≤ b.count →
    byte_before (added b s row) i q ≡ byte_before b i q
at_added b s row i q l = chain_same _ _ _ _ i (λ y low. (
  let ne : y ≡ b.count → ⊥ = omega arith in rw (updated_other b.chosen b.count (λ p. false) y ne) refl,
  let ne : y ≡ b.count → ⊥ = omega arith in rw (updated_other b.start b.count s y ne) refl,
))

pub at_new : (b : State) (s : Start) (row : ℕ → ℕ → Bool) (q : ℕ) →
    byte_before (added b s row) (b.count + 1) q ≡ byte_before b b.count q
at_new b s row q =
    chain-next _ _ b.count ∙ rw (updated_same b.chosen b.count (λ p. false)) (at_added b s row b.count q (omega arith))

pub ct_added : (b : State) (s : Start) (row : ℕ → ℕ → Bool) (i k z : ℕ) → i ≤ b.count →
    cell_before (added b s row) i k z ≡ cell_before b i k z
ct_added b s row i k z l = chain_same _ _ _ _ i (λ y low. (
  let ne : y ≡ b.count → ⊥ = omega arith in rw (updated_other b.applied b.count row y ne) refl,
  let ne : y ≡ b.count → ⊥ = omega arith in rw (updated_other b.start b.count s y ne) refl,
))

pub ct_new : (b : State) (s : Start) (row : ℕ → ℕ → Bool) (k z : ℕ) →
    cell_before (added b s row) (b.count + 1) k z ≡ over (row k z) (s.content k z) (cell_before b b.count k z)
ct_new b s row k z = chain-next _ _ b.count
    ∙ rw (updated_same b.applied b.count row, updated_same b.start b.count s)
    (ap (over (row k z) (s.content k z)) (ct_added b s row b.count k z (omega arith)))

-- a performed WRITE changes no cell that it doesn't write, and none before its entry
pub ct_performs : (b : State) (m : Write) (i k z : ℕ) →
    ((b.start m.entry).content k z ≡ None) ⊎ ((i ≤ m.entry) ⊎ (performed b m m.entry k z ≡ b.applied m.entry k z)) →
    cell_before (after b (Performs m)) i k z ≡ cell_before b i k z
ct_performs b m i k z h = chain_cares _ _ _ i (λ y low. elim (cases_eq y m.entry) [
  | inr ne ↦ inl (ap (λ w. w k z) (pf_row b m y ne))
  | inl e ↦ elim h [
    | inl n ↦ inr (ap (λ w. (b.start w).content k z) e ∙ n)
    | inr w ↦ elim w [
      | inl l ↦ absurd (grind (arith, l, low, e))
      | inr same ↦ inl (ap (λ w. performed b m w k z) e ∙ same ∙ ap (λ w. b.applied w k z) (sym e))
    ]
  ]
])

-- an open write's part, once performed, is what stands in its cell, whatever else of it is performed
pub ct_open : (b : State) (w : ℕ → Bool) (j k z : ℕ) → Open b j → (b.start j).touch (b.layout.cell_col k z) ≡ true →
    ((i : ℕ) → (i ≡ j → ⊥) → w i ≡ b.applied i k z) → Formed b → Dead b → Later b → Unserved b →
    chain w (λ i. (b.start i).content k z) b.count ≡ over (w j) ((b.start j).content k z) (cell_before b j k z)
ct_open b w j k z o t same f dead lt us =
    chain_quiet w (λ i. (b.start i).content k z) (j + 1) b.count (grind (arith, o.0))
    (λ i low high. elim (cells_end b j i k z o (omega arith) high t f dead lt us) [
      | inl e ↦
          inl (same i (omega arith) ∙ e)
      | inr n ↦ inr n
    ])
    ∙ chain-next _ _ j ∙ ap (over (w j) ((b.start j).content k z)) (chain_same _ _ _ _ j (λ i low. (same i (omega arith), refl)))

-- what a component holds is what the log leaves
abbrev pub Cells : State → Type 0
Cells b = (k z : ℕ) → b.gone k ≡ false → b.cell k z ≡ cell_before b b.count k z

cells_starts : (b : State) (s : Start) → Cells b → Cells (added b s (λ k z. false))
cells_starts b s h k z l = h k z l ∙ sym (ct_new b s (λ k z. false) k z)

cells_performs : (b : State) (m : Write) → Open b m.entry → Formed b → Dead b → Later b → Unserved b → Cells b →
    Cells (after b (Performs m))
cells_performs b m o f dead lt us h k z l = let content = (b.start m.entry).content in elim (hit_case b m k z) [
  | inr s ↦ s.1 ∙ h k z l ∙ sym (ct_performs b m b.count k z (inr (inr s.0)))
  | inl e ↦ ap (λ y. y z) (updated_at b.cell m.at _ k e.0) ∙ ap (λ w. over w (content m.at z) (b.cell m.at z)) e.1
      ∙ ap (λ y. over true (content y z) (b.cell y z)) (sym e.0) ∙ ap (over true (content k z)) (h k z l) ∙
      elim (pay_or_touch b m.entry k z o.0 f) [
        | inl n ↦ over_none true (content k z) _ n ∙ sym (ct_performs b m b.count k z (inl n))
        | inr t ↦ ap (over true (content k z)) (ct_open b (λ i. b.applied i k z) m.entry k z o t (λ i ne. refl) f dead lt us)
            ∙ over_twice (content k z) (b.applied m.entry k z) _ ∙
            sym (ct_open b (λ i. performed b m i k z) m.entry k z o t (λ i ne. ap (λ y. y k z) (pf_row b m i ne)) f dead lt us
            ∙ ap (λ y. over y (content k z) (cell_before b m.entry k z)) (pf_hit b m m.entry k z refl e.0 e.1))
      ]
]

cells_mends : (b : State) (k : ℕ) (which : ℕ → Bool) (e0 : ℕ → ℕ) → Cells b → Cells (after b (Repairs k which e0))
cells_mends b k which e0 h f y l =
    let new : ℕ → ℕ = λ w. cond (which w) (b.layout.word k w e0) (b.cell k w) in let old = h f y l in
    rw (ct_new b (repair_start b k which e0) (λ f y. updated (λ w. false) k true f) f y) (elim (cases_eq f k) [
      | inr ne ↦ rw (updated_other b.cell k new f ne, updated_other (λ z. false) k true f ne) old
      | inl e ↦
          rw (updated_at (λ z. false) k true f e, eq-eqb f k e) (ap (λ w. w y) (updated_at b.cell k new f e)
          ∙ elim (cases_Bool (which y)) [
            | inl on ↦ rw on refl
            | inr off ↦ rw off (ap (λ w. b.cell w y) (sym e) ∙ old)
          ])
    ])

cells_rebuilds : (b : State) (k : ℕ) (cells : ℕ → ℕ) → Cells b → Cells (after b (Rebuilds k cells))
cells_rebuilds b k cells h f y l =
    rw (ct_new b (rebuilt_start b k cells) (λ f y. updated (λ w. false) k true f) f y) (elim (cases_eq f k) [
      | inr ne ↦
          rw (updated_other b.cell k cells f ne, updated_other (λ z. false) k true f ne)
          (h f y (sym (updated_other b.gone k false f ne) ∙ l))
      | inl e ↦ rw (updated_at (λ z. false) k true f e, eq-eqb f k e) (ap (λ w. w y) (updated_at b.cell k cells f e))
    ])

pub keep_cells : (b : State) (e : Event) → Allowed b e → Tags b → Formed b → Known b → Unacked b → Dead b → Later b → Unserved b →
    Gone_lost b → Cells b → Cells (after b e)
keep_cells b (StartsWrite c g i d touch hit seen e1 pt) a t f n u dead lt us gl h =
    cells_starts b (written_start b c g d touch hit seen e1 pt) h
keep_cells b (StartsRead c g lo hi reach) a t f n u dead lt us gl h = cells_starts b (read_start b c g lo hi reach) h
keep_cells b (Repairs k which e0) a t f n u dead lt us gl h = cells_mends b k which e0 h
keep_cells b (Rebuilds k cells) a t f n u dead lt us gl h = cells_rebuilds b k cells h
keep_cells b (Grants c number rw range extending) a t f n u dead lt us gl h =
    λ k z l. h k z (first_false (b.gone k) (b.missing k) l)
keep_cells b (Loses c k0) a t f n u dead lt us gl h = λ k z l. h k z (up_off b.gone k0 k l)
keep_cells b (PerformsLost m) a t f n u dead lt us gl h =
    λ k z l. ap (λ y. y z)
    (updated_other b.cell m.at (λ y. over ((b.start m.entry).part m.at y == m.part) ((b.start m.entry).content m.at y)
    (b.cell m.at y)) k (λ e. true≢false (sym a.lost ∙ ap b.gone (sym e) ∙ l))) ∙ h k z l
keep_cells b Fenced a t f n u dead lt us gl h = λ q z l. h q z (not_gone b q gl l)
keep_cells b (Repaired done e0) a t f n u dead lt us gl h = λ q z l. h q z (not_gone b q gl l)
keep_cells b (Performs m) a t f n u dead lt us gl h =
    cells_performs b m (fresh_open b m a.comes (now_fresh b m a t f n) n dead u) f dead lt us h
keep_cells b e a t f n u dead lt us gl h = h
