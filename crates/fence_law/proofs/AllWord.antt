-- Kept: where a write under way was performed whole its columns are words of its data; what a layout left out is gone.
-- Every cell that a write doesn't hit keeps its word, and each that it hits gets the new one.
use Rattle.std.proofs.Common.{◌≡◌, ℕ, ◌≤◌, Bool, true, false, ◌||◌, ◌&&◌, ◌==◌, Option, Some, None, ◌⊎◌, refl, sym, ap, ◌∙◌, inl, inr, arith}
use Rattle.std.proofs.lemmas.Bool.{cases_Bool, and_right, false_from_ne_true, eqb-true, eq-eqb, cases_eq, true≢false, or_left}
use Rattle.std.proofs.lemmas.Option.{same_Some}
use Rattle.osd_lists.proofs.Tests.{first_false}
use Rattle.fence_law.specs.Words.{updated, over}
use Rattle.fence_law.specs.State.{State, Event, Grant, Write, Start}
use Rattle.fence_law.specs.Columns.{overlaid, only}
use Rattle.fence_law.specs.Starts.{granted, written_start, read_start, repair_start, rebuilt_start, performed}
use Rattle.fence_law.specs.Machine.{Allowed, after}
use Rattle.fence_law.specs.State.Call.{Idle, Reads}
use Rattle.fence_law.specs.State.Event.{Grants, Frees, Fenced, Refenced, StartsWrite, StartsRead, Performs, Acknowledges, Repairs, Repaired, Rebuilds, Loses, Leaves}
use Rattle.fence_law.specs.Law.{chain, byte_before, cell_before, IsCode}
use Rattle.fence_law.proofs.Words.{up_off, up_on, updated_at, updated_other, updated_read, updated_same}
use Rattle.fence_law.proofs.Parts.{pf_row}
use Rattle.fence_law.proofs.Tags.{Tags}
use Rattle.fence_law.proofs.Holds.{Holds}
use Rattle.fence_law.proofs.Commands.{Calls}
use Rattle.fence_law.proofs.Chains.{over_none}
use Rattle.fence_law.proofs.Formed.{Gone_lost, not_gone, added, Mending, Formed, FormedOne, Running}
use Rattle.fence_law.proofs.Open.{Dead, Known, Unacked, Open, fresh_open, now_fresh}
use Rattle.fence_law.proofs.Live.{Open_granted}
use Rattle.fence_law.proofs.Acked.{FullHere, Known_done, option_cases}
use Rattle.fence_law.proofs.Later.{Unsettled, open_unsettled, none_open, unsettled_added, unsettled_acks, unsettled_fenced, unsettled_mended, unsettled_none, Later, Unserved, gathered_covers, before_unsettled, pay_or_touch, unsettled_refenced}
use Rattle.fence_law.proofs.Chosen.{Late_ack, at_acks}
use Rattle.fence_law.proofs.Held.{at_added, ct_new, ct_performs, ct_open, Cells}
use Rattle.fence_law.proofs.Before.{WholeAt, Before_whole}
use Rattle.fence_law.proofs.Sound.{Sound, word_moves}

-- two unsettled writes touch no column both
pub one_writer : (b : State) (i j x : ℕ) → Unsettled b i → Unsettled b j → Formed b → Later b → (b.start i).touch x ≡ true →
    (b.start j).touch x ≡ true → i ≡ j
one_writer b i j x u v f lt ti tj =
    let one : i ≤ j = before_unsettled b j i x v lt u.0 u.2 ((f i u.0).reaches x ti) ((f i u.0).own u.1) tj in
    let two : j ≤ i = before_unsettled b i j x u lt v.0 v.2 ((f j v.0).reaches x tj) ((f j v.0).own v.1) ti in omega arith

over_some : (o : Option ℕ) (x w : ℕ) → o ≡ Some w → over true o x ≡ w
over_some o x w e = ap (λ y. over true y x) e

-- what the layout of an outstanding grant left out is gone
abbrev pub Left_gone : State → Type 0
Left_gone b = record {
  outstanding : (c k : ℕ) (g : Grant) → b.outstanding c ≡ Some g → g.left k ≡ true → b.gone k ≡ true;
  writes : (j k : ℕ) → Unsettled b j → (b.start j).left k ≡ true → b.gone k ≡ true;
}

lg_added : (b : State) (s : Start) (row : ℕ → ℕ → Bool) →
    (s.is_write ≡ true → s.alive ≡ true → (k : ℕ) → s.left k ≡ true → b.gone k ≡ true) → Left_gone b → Left_gone (added b s row)
lg_added b s row new h = record {
  outstanding = h.outstanding;
  writes = λ j k u l. elim (unsettled_added b s row j u) [
    | inl w ↦ new w.1 w.2 k (rw (updated_at b.start b.count s j w.0) at l)
    | inr w ↦ h.writes j k w.1 (rw (updated_other b.start b.count s j w.0) at l)
  ];
}

pub keep_left_gone : (b : State) (e : Event) → Allowed b e → Holds b → Formed b → Mending b → Open_granted b → Gone_lost b →
    Left_gone b → Left_gone (after b e)
keep_left_gone b (Grants c number rw range extending) a o f m q gl h = record {
  outstanding = λ d k g e l. elim (updated_read b.outstanding c (Some (granted b c number rw range extending)) d).1 [
    | inl w ↦ let same : b.missing ≡ g.left =
        ap (λ y. y.left) (same_Some (granted b c number rw range extending) g (sym w.1 ∙ e)) in
        or_new (b.gone k) (b.missing k) (ap (λ y. y k) same ∙ l)
    | inr w ↦ or_left (b.gone k) (b.missing k) (h.outstanding d k g (sym w.1 ∙ e) l)
  ];
  writes = λ j k u l. or_left (b.gone k) (b.missing k) (h.writes j k u l);
}
  where
    or_new : (x y : Bool) → y ≡ true → (x || y) ≡ true
    or_new true y e = refl
    or_new false y e = e
keep_left_gone b (Loses c k0) a o f m q gl h =
    record {
      outstanding = λ d k g e l. up_on b.gone k0 k (h.outstanding d k g e l);
      writes = λ j k u l. up_on b.gone k0 k (h.writes j k u l);
    }
keep_left_gone b (Leaves c g0) a o f m q gl h =
    record
    { outstanding = λ d k g e. h.outstanding d k g (grind (arith, updated_read b.outstanding c None d, e)); writes = h.writes }
keep_left_gone b (Frees c) a o f m q gl h =
    record
    { outstanding = λ d k g e. h.outstanding d k g (grind (arith, updated_read b.outstanding c None d, e)); writes = h.writes }
keep_left_gone b Fenced a o f m q gl h =
    record { outstanding = λ d k g e. absurd (cc e); writes = λ j k u l. gl k (h.writes j k (unsettled_fenced b j f u) l) }
keep_left_gone b Refenced a o f m q gl h =
    record { outstanding = λ d k g e. absurd (cc e); writes = λ j k u l. h.writes j k (unsettled_refenced b j f u) l }
keep_left_gone b (Repaired done e0) a o f m q gl h =
    record
    { outstanding = λ d k g e l. gl k (h.outstanding d k g e l); writes = λ j k u. absurd (unsettled_mended b j a.runs m q u) }
keep_left_gone b (StartsWrite c g i d touch hit seen e1 pt) a o f m q gl h =
    lg_added b (written_start b c g d touch hit seen e1 pt) (λ k z. false)
    (λ w al k l. h.outstanding c k g (grind (arith, o.has c g a.has, eqb-true g.tag b.tag al)) l) h
keep_left_gone b (StartsRead c g lo hi reach) a o f m q gl h =
    lg_added b (read_start b c g lo hi reach) (λ k z. false) (λ w. absurd (true≢false (sym w))) h
keep_left_gone b (Repairs k which e0) a o f m q gl h =
    lg_added b (repair_start b k which e0) (λ f y. updated (λ w. false) k true f) (λ w. absurd (true≢false (sym w))) h
keep_left_gone b (Rebuilds k cells) a o f m q gl h = record {
  outstanding = λ d y g e. absurd (let z : None ≡ Some g = sym (a.none d) ∙ e in cc z);
  writes =
      λ j y u. absurd (elim (unsettled_added b (rebuilt_start b k cells) (λ f y. updated (λ w. false) k true f) j u) [
        | inl w ↦
            true≢false (sym w.1)
        | inr w ↦ unsettled_none b j a.repaired q a.none w.1
      ]);
}
keep_left_gone b (Acknowledges c i) a o f m q gl h =
    record { outstanding = h.outstanding; writes = λ j k u. h.writes j k (unsettled_acks b i j u).1 }
keep_left_gone b e a o f m q gl h = h

-- what isn't gone was listed
pub listed : (b : State) (j k : ℕ) → Unsettled b j → Left_gone b → b.gone k ≡ false → (b.start j).left k ≡ false
listed b j k u h l = false_from_ne_true ((b.start j).left k) (λ on. true≢false (sym (h.writes j k u on) ∙ l))

-- where all of an unsettled write was performed, its columns hold its words
abbrev pub All_word : State → Type 0
All_word b = (j k z : ℕ) → Unsettled b j → FullHere b j → (b.start j).touch (b.layout.cell_col k z) ≡ true →
    b.layout.is_cell k z ≡ true → b.gone k ≡ false →
    cell_before b b.count k z ≡ b.layout.word k z (overlaid (b.start j).data_at (byte_before b j))

-- an open write, by its parts, under the flags w of which all its parts are set
aw_open : (b : State) (w : ℕ → Bool) (j k z : ℕ) → Open b j → ((v : ℕ) → (b.start j).content k z ≡ Some v → w j ≡ true) →
    ((i : ℕ) → (i ≡ j → ⊥) → w i ≡ b.applied i k z) →
    (b.start j).touch (b.layout.cell_col k z) ≡ true → b.layout.is_cell k z ≡ true → b.gone k ≡ false → IsCode b.layout →
    Formed b → Dead b → Later b → Unserved b → Before_whole b → Sound b → Left_gone b →
    chain w (λ i. (b.start i).content k z) b.count ≡ b.layout.word k z (overlaid (b.start j).data_at (byte_before b j))
aw_open b w j k z o full same t is l code f dead lt us bw sound lg = ct_open b w j k z o t same f dead lt us ∙
    option_cases ((b.start j).content k z)
    (λ n. over_none (w j) _ _ n
    ∙ bw j (b.layout.cell_col k z) o.0 o.2 ((f j o.0).reaches _ t) ((f j o.0).own o.1) (inl (open_unsettled b j o))
    k z is refl l
    ∙ sym ((f j o.0).misses k z o.1 is (listed b j k (open_unsettled b j o) lg l) n (byte_before b j)))
    (λ v e. ap (λ y. over y ((b.start j).content k z) (cell_before b j k z)) (full v e)
    ∙ over_some ((b.start j).content k z) _ v e ∙ sound j k z v o.0 o.1 o.2 e)

-- while no repair runs each performed part of an unsettled write stands as its word
aw_again : (b : State) (j k z : ℕ) → b.repairing ≡ false → Unsettled b j →
    ((v : ℕ) → (b.start j).content k z ≡ Some v → b.applied j k z ≡ true) →
    (b.start j).touch (b.layout.cell_col k z) ≡ true → b.layout.is_cell k z ≡ true → b.gone k ≡ false → IsCode b.layout →
    Formed b → Dead b → Later b → Unserved b → Before_whole b → Sound b → Left_gone b →
    cell_before b b.count k z ≡ b.layout.word k z (overlaid (b.start j).data_at (byte_before b j))
aw_again b j k z m u full t is l code f dead lt us bw sound lg =
    aw_open b (λ i. b.applied i k z) j k z (
      u.0,
      u.1,
      u.2,
      u.3,
      elim u.4 [ inl e ↦ e | inr y ↦ absurd (true≢false (sym y.0 ∙ m)) ],
    ) full (λ i ne. refl) t is l code f dead lt
    us bw sound lg

aw_performs : (b : State) (m : Write) → Allowed b (Performs m) → Open b m.entry → IsCode b.layout → Formed b → Mending b →
    Open_granted b → Dead b → Later b → Unserved b → Before_whole b → Sound b → Left_gone b → All_word b →
    All_word (after b (Performs m))
aw_performs b m a o code f md q dead lt us bw sound lg h j k z u full t is l = elim (cases_eq j m.entry) [
  | inl e ↦ let oj : Open b j = (u.0, u.1, u.2, u.3, elim u.4 [ inl y ↦ y | inr y ↦ absurd (none_open b m.entry y.0 md q o) ]) in
      aw_open b (λ i. performed b m i k z) j k z oj (λ v content. full k z v l content)
      (λ i ne. ap (λ y. y k z) (pf_row b m i (λ y. ne (y ∙ sym e)))) t is l code f dead lt us bw sound lg
  | inr ne ↦
      let off : (b.start m.entry).content k z ≡ None =
      elim (pay_or_touch b m.entry k z o.0 f) [
        | inl n ↦ n
        | inr t2 ↦
            absurd (ne (one_writer b j m.entry (b.layout.cell_col k z) u (open_unsettled b m.entry o) f lt t t2))
      ] in
      ct_performs b m b.count k z (inl off) ∙
      h j k z u (λ x w v g content. sym (ap (λ y. y x w) (pf_row b m j ne)) ∙ full x w v g content) t is l
]

aw_added : (b : State) (s : Start) → IsCode b.layout → Formed b → FormedOne b s →
    (s.is_write ≡ true → s.alive ≡ true → (k : ℕ) → b.gone k ≡ false → s.left k ≡ false) →
    (s.is_write ≡ true → s.alive ≡ true → (x : ℕ) → s.touch x ≡ true → WholeAt b b.count x) → All_word b →
    All_word (added b s (λ k z. false))
aw_added b s code f fs ls new h j k z u full t is l =
    ct_new b s (λ k z. false) k z ∙ elim (unsettled_added b s (λ k z. false) j u) [
      | inl w ↦ let st : updated b.start b.count s j ≡ s = updated_at b.start b.count s j w.0 in
          let none : s.content k z ≡ None =
          option_cases (s.content k z) (λ n. n)
          (λ v e. absurd
          (true≢false (sym (full k z v l (rw st e)) ∙ ap (λ y. y k z) (updated_at b.applied b.count (λ k z. false) j w.0)))) in
          rw (st, w.0) (new w.1 w.2 (b.layout.cell_col k z) (rw st at t) k z is refl l
          ∙ sym (fs.misses k z w.1 is (ls w.1 w.2 k l) none (byte_before b b.count))
          ∙ code.local k z _ _
          (λ q here. ap (over true (s.data_at q)) (sym (at_added b s (λ k z. false) b.count q (omega arith)))))
      | inr w ↦ let st : updated b.start b.count s j ≡ b.start j = updated_other b.start b.count s j w.0 in
          rw st (h j k z w.1 (λ x y v g content. sym (ap (λ f2. f2 x y) (updated_other b.applied b.count (λ k z. false) j w.0))
          ∙ full x y v g (rw st content)) (rw st at t) is l
          ∙ word_moves b (added b s (λ k z. false)) j j k z code (λ q here. at_added b s (λ k z. false) j q (grind (arith, w.1))))
    ]

-- a repair writes the words that stand already
aw_mends : (b : State) (k0 : ℕ) (which : ℕ → Bool) (e0 : ℕ → ℕ) → Allowed b (Repairs k0 which e0) → IsCode b.layout → Cells b →
    All_word b → All_word (after b (Repairs k0 which e0))
aw_mends b k0 which e0 a code cells h j k z u full t is l =
    let s : Start = repair_start b k0 which e0 in let row : ℕ → ℕ → Bool = λ f y. updated (λ w. false) k0 true f in
    elim (unsettled_added b s row j u) [
      | inl w ↦ absurd (true≢false (sym w.1))
      | inr w ↦ let st : updated b.start b.count s j ≡ b.start j = updated_other b.start b.count s j w.0 in
          let full2 : FullHere b j = λ x y v g content. sym (ap (λ f2. f2 x y) (updated_other b.applied b.count row j w.0))
          ∙ full x y v g (rw st content) in
          let old = h j k z w.1 full2 (rw st at t) is l in
          let moved = word_moves b (added b s row) j j k z code (λ q here. at_added b s row j q (grind (arith, w.1))) in
          ct_new b s row k z ∙ rw st (elim (cases_eq k k0) [
            | inr ne ↦ ap (λ y. over y (s.content k z) (cell_before b b.count k z)) (updated_other (λ f. false) k0 true k ne)
                ∙ old ∙ moved
            | inl e ↦ ap (λ y. over y (s.content k z) (cell_before b b.count k z)) (updated_at (λ f. false) k0 true k e)
                ∙ elim (cases_Bool (which z)) [
                  | inr ne ↦
                      over_none true (s.content k z) _
                      (rw ne (only_false ((k == k0) && false) _ (and_right (k == k0) false refl)))
                      ∙ old ∙ moved
                  | inl ez ↦ over_some (s.content k z) _ (b.layout.word k0 z e0) (rw (eq-eqb k k0 e, ez) refl)
                      ∙ ap (λ y. b.layout.word y z e0) (sym e) ∙
                      code.local k z _ _ (λ q here. let c = a.all z q ez (here ∙ ap (λ y. b.layout.cell_col y z) e) in
                      let law = code.copies c.0 c.1 q c.2 in
                      c.4 ∙ cells c.0 c.1 c.3 ∙ h j c.0 c.1 w.1 full2 (ap (b.start j).touch (law.1 ∙ here) ∙ rw st at t) law.0 c.3
                      ∙ law.2 (overlaid (b.start j).data_at (byte_before b j)))
                      ∙ moved
                ]
          ])
    ]
  where
    only_false : (w : Bool) (v : ℕ) → w ≡ false → only w v ≡ None
    only_false true v e = absurd (true≢false e)
    only_false false v e = refl

aw_acks : (b : State) (c i : ℕ) → Allowed b (Acknowledges c i) → IsCode b.layout → Calls b → Running b → Formed b → Known_done b →
    Dead b → Late_ack b → Later b → All_word b → All_word (after b (Acknowledges c i))
aw_acks b c i a code r run f kd dead late lt h j k z u full t is l = let x = unsettled_acks b i j u in
    h j k z x.1 full t is l
    ∙ word_moves b (after b (Acknowledges c i)) j j k z code (λ q here. at_acks b c i j q a code r run f kd dead late
    (λ v ti. before_unsettled b i j (b.layout.col q) v lt x.1.0 x.1.2 ((f j x.1.0).reaches _ (ap (b.start j).touch here ∙ t))
    ((f j x.1.0).own x.1.1) ti))

pub keep_all_word : (b : State) (e : Event) → Allowed b e → IsCode b.layout → Tags b → Formed b → Formed (after b e) → Holds b →
    Calls b → Running b → Known b → Unacked b → Known_done b → Dead b → Late_ack b → Mending b → Open_granted b → Later b →
    Unserved b → Cells b → Before_whole b → Sound b →
    ((c : ℕ) (g : Grant) → b.held c ≡ Some g → (b.call c ≡ Idle) ⊎ ((i : ℕ) × (b.call c ≡ Reads i)) → (g.tag == b.tag) ≡ true →
    (x : ℕ) → g.covers x ≡ true → WholeAt b b.count x) →
    Gone_lost b → Left_gone b → All_word b → All_word (after b e)
keep_all_word b (StartsWrite c g i d touch hit seen e1 pt) a code t f f2 o r run n u kd dead late m q lt us cells bw sound
    now gl lg h =
    aw_added b (written_start b c g d touch hit seen e1 pt) code f
    (rw (updated_same b.start b.count (written_start b c g d touch hit seen e1 pt)) at (f2 b.count (omega arith)))
    (λ w al k l. false_from_ne_true (g.left k)
    (λ on. true≢false (sym (lg.outstanding c k g (grind (arith, o.has c g a.has, eqb-true g.tag b.tag al)) on) ∙ l)))
    (λ w al x t2. now c g a.has (inr (i, a.gathers)) al x (gathered_covers b c g i d touch hit seen e1 pt a r x t2)) h
keep_all_word b (StartsRead c g lo hi reach) a code t f f2 o r run n u kd dead late m q lt us cells bw sound now gl lg h =
    aw_added b (read_start b c g lo hi reach) code f
    (rw (updated_same b.start b.count (read_start b c g lo hi reach)) at (f2 b.count (omega arith)))
    (λ w. absurd (true≢false (sym w))) (λ w. absurd (true≢false (sym w))) h
keep_all_word b (Repairs k which e0) a code t f f2 o r run n u kd dead late m q lt us cells bw sound now gl lg h =
    aw_mends b k which e0 a code cells h
keep_all_word b (Rebuilds k cells0) a code t f f2 o r run n u kd dead late m q lt us cells bw sound now gl lg h =
    λ j x y v. absurd (elim (unsettled_added b (rebuilt_start b k cells0) (λ f y. updated (λ w. false) k true f) j v) [
      | inl w ↦ true≢false (sym w.1)
      | inr w ↦ unsettled_none b j a.repaired q a.none w.1
    ])
keep_all_word b (Acknowledges c i) a code t f f2 o r run n u kd dead late m q lt us cells bw sound now gl lg h =
    aw_acks b c i a code r run f kd dead late lt h
keep_all_word b (Performs w) a code t f f2 o r run n u kd dead late m q lt us cells bw sound now gl lg h =
    aw_performs b w a (fresh_open b w a.comes (now_fresh b w a t f n) n dead u) code f m q dead lt us bw sound lg h
keep_all_word b (Grants c number rw range extending) a code t f f2 o r run n u kd dead late m q lt us cells bw sound now gl lg h =
    λ j k z v full t2 is l. aw_again b j k z a.repaired v (λ u2 content. full k z u2 l content) t2 is
    (first_false (b.gone k) (b.missing k) l) code f dead lt us bw sound lg
keep_all_word b (Loses c k0) a code t f f2 o r run n u kd dead late m q lt us cells bw sound now gl lg h =
    λ j k z v full t2 is l. aw_again b j k z a.repaired v (λ u2 content. full k z u2 l content) t2 is (up_off b.gone k0 k l) code
    f dead lt us bw sound lg
keep_all_word b Fenced a code t f f2 o r run n u kd dead late m q lt us cells bw sound now gl lg h =
    λ j k z v full t2 is l. aw_again b j k z a.first (unsettled_fenced b j f v) (λ u2 content. full k z u2 l content) t2 is
    (not_gone b k gl l) code f dead lt us bw sound lg
keep_all_word b Refenced a code t f f2 o r run n u kd dead late m q lt us cells bw sound now gl lg h =
    λ j k z v full t2 is l. h j k z (unsettled_refenced b j f v) full t2 is l
keep_all_word b (Repaired done e0) a code t f f2 o r run n u kd dead late m q lt us cells bw sound now gl lg h =
    λ j k z v. absurd (unsettled_mended b j a.runs m q v)
keep_all_word b e a code t f f2 o r run n u kd dead late m q lt us cells bw sound now gl lg h = h
