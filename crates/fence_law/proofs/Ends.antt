-- The repair's end: what it found is what the log leaves from then on, in columns that are done and in those that are left. Calm
-- is used for the latter.
use Rattle.std.proofs.Common.{◌≡◌, ℕ, ◌<◌, Bool, true, false, not, cond, ◌&&◌, ◌==◌, Some, ◌⊎◌, refl, sym, ap, ◌∙◌, inl, inr, arith}
use Rattle.std.proofs.lemmas.Bool.{and_parts, and_from, cases_Bool, eqb-true, eq-eqb, cases_eq, true≢false}
use Rattle.osd_lists.proofs.Tests.{first_false}
use Rattle.fence_law.specs.Words.{updated, over}
use Rattle.fence_law.specs.State.{State, Event, Start}
use Rattle.fence_law.specs.Columns.{overlaid, IsCalm}
use Rattle.fence_law.specs.Starts.{written_start, read_start, repair_start, rebuilt_start, is_byte, ended}
use Rattle.fence_law.specs.Machine.{Allowed, after}
use Rattle.fence_law.specs.State.Event.{Grants, Fenced, Refenced, StartsWrite, StartsRead, Performs, Acknowledges, Repairs, Repaired, Rebuilds, Loses}
use Rattle.fence_law.specs.Law.{byte_before, cell_before, IsCode}
use Rattle.fence_law.proofs.Words.{up_off, updated_at, updated_other}
use Rattle.fence_law.proofs.Parts.{pf_row}
use Rattle.fence_law.proofs.Tags.{Tags}
use Rattle.fence_law.proofs.Commands.{Calls}
use Rattle.fence_law.proofs.Chains.{chain_same}
use Rattle.fence_law.proofs.Formed.{Gone_lost, not_gone, added, Mending, Formed, Running}
use Rattle.fence_law.proofs.Open.{Dead, Known, Unacked, fresh_open, now_fresh}
use Rattle.fence_law.proofs.Live.{Open_granted}
use Rattle.fence_law.proofs.Acked.{Known_done}
use Rattle.fence_law.proofs.Later.{Unsettled, none_open, Later, Unserved, refenced_unsettled}
use Rattle.fence_law.proofs.Chosen.{Old, Chosen_open, Late_ack, ended_unsettled}
use Rattle.fence_law.proofs.Held.{ct_new, Cells}
use Rattle.fence_law.proofs.Sound.{Sound}
use Rattle.fence_law.proofs.AllWord.{All_word}
use Rattle.fence_law.proofs.SettledWrites.{Mended_low, short_gone, find_flag, is_byte_true, is_byte_some, end_with}
use Rattle.fence_law.proofs.Mixed.{Mixed, mixed_added, mixed_mends, mixed_rebuilds, mixed_performs, mixed_acks}

cond_done : (w : Bool) (x y : Bool) → w ≡ true → cond w x y ≡ x
cond_done w x y e = rw e refl

cond_not : (w : Bool) (x y : Bool) → w ≡ false → cond w x y ≡ y
cond_not w x y e = rw e refl

-- of a column that was repaired the log leaves what the repair found
pub end_done : (b : State) (done : ℕ → Bool) (e0 : ℕ → ℕ) (q : ℕ) → Allowed b (Repaired done e0) → done (b.layout.col q) ≡ true →
    Gone_lost b → IsCode b.layout → Formed b → Dead b → Later b → Mending b → Open_granted b → Chosen_open b → Cells b → Mixed b →
    byte_before (after b (Repaired done e0)) b.count q ≡ e0 q
end_done b done e0 q a d gl code f dead lt md eras co cells mixed =
    let c = a.copies q d in let law = code.copies c.0 c.1 q c.2 in
    let found : cell_before b b.count c.0 c.1 ≡ e0 q =
    sym (cells c.0 c.1 (not_gone b c.0 gl c.3)) ∙ a.right (b.layout.col q) d c.0 c.1 law.0 law.1 c.3 ∙ law.2 e0 in
    elim (find_flag (λ j. ended b j && is_byte ((b.start j).data_at q) (e0 q)) b.count) [
      | inl w ↦ let p = and_parts (ended b w.0) _ w.2 in
          end_with b done e0 w.0 q (e0 q) a.runs (ended_unsettled b w.0 w.1 a.runs p.0)
          (is_byte_true ((b.start w.0).data_at q) (e0 q) p.1)
          (cond_done (ended b w.0) _ _ p.0 ∙ cond_done (done (b.layout.col q)) _ _ d ∙ p.1) f dead lt
      | inr none ↦ elim (mixed c.0 c.1 q c.2 (not_gone b c.0 gl c.3)) [
        | inr w ↦
            absurd
            (true≢false
            (sym
            (and_from (ended b w.0) _ (ended_is w.0 w.5)
            (is_byte_some ((b.start w.0).data_at q) (e0 q) (w.6 ∙ ap Some (sym w.11 ∙ found)))) ∙ none w.0 w.5.0))
        | inl same ↦ chain_same _ _ _ _ b.count (λ j l. (
          elim (cases_Bool (ended b j)) [
            | inr no_ ↦ cond_not (ended b j) _ _ no_
            | inl yes_ ↦ cond_done (ended b j) _ _ yes_ ∙ cond_done (done (b.layout.col q)) _ _ d ∙ second j yes_ (none j l)
                ∙ sym (co j q (ended_unsettled b j l a.runs yes_))
          ],
          refl,
        ))
            ∙ sym same ∙ found
      ]
    ]
  where
    second : (j : ℕ) → ended b j ≡ true → (ended b j && is_byte ((b.start j).data_at q) (e0 q)) ≡ false →
        is_byte ((b.start j).data_at q) (e0 q) ≡ false
    second j yes_ n = sym (ap (λ w. w && is_byte ((b.start j).data_at q) (e0 q)) yes_) ∙ n

    ended_is : (j : ℕ) → Unsettled b j → ended b j ≡ true
    ended_is j u =
        and_from (b.start j).is_write _ u.1
        (and_from (b.start j).alive _ u.2
        (and_from (not (b.acknowledged j)) _ (not_on (b.acknowledged j) u.3)
        (tag_of (λ e. none_open b j a.runs md eras (u.0, u.1, u.2, u.3, e)) u.4)))
      where
        not_on : (w : Bool) → w ≡ false → not w ≡ true
        not_on true e = absurd (true≢false e)
        not_on false e = refl

        tag_of : ((b.start j).tag ≡ b.tag → ⊥) →
            ((b.start j).tag ≡ b.tag) ⊎ ((b.repairing ≡ true) × ((b.start j).tag ≡ b.ended_tag)) →
            ((b.start j).tag == b.ended_tag) ≡ true
        tag_of no_ (inl e) = absurd (no_ e)
        tag_of no_ (inr e) = eq-eqb (b.start j).tag b.ended_tag e.1

-- of a column with parity that was left the log leaves what it left
pub end_left : (b : State) (done : ℕ → Bool) (e0 : ℕ → ℕ) (i q : ℕ) → done (b.layout.col q) ≡ false →
    b.layout.coded (b.layout.col q) ≡ true → byte_before (after b (Repaired done e0)) i q ≡ byte_before b i q
end_left b done e0 i q d c = chain_same _ _ _ _ i (λ j l. (
  elim (cases_Bool (ended b j)) [
    | inr no_ ↦ cond_not (ended b j) _ _ no_
    | inl yes_ ↦ cond_done (ended b j) _ _ yes_ ∙ cond_not (done (b.layout.col q)) _ _ d
        ∙ cond_done (b.layout.coded (b.layout.col q)) _ _ c
  ],
  refl,
))

-- where calm holds nothing of an unsettled write was performed in a column with parity that is left
pub left_calm : (b : State) (done : ℕ → Bool) (e0 : ℕ → ℕ) (j k z v x : ℕ) → Allowed b (Repaired done e0) → IsCalm b →
    Mended_low b → Mending b → Open_granted b → Unsettled b j →
    (b.start j).content k z ≡ Some v → b.layout.cell_col k z ≡ x → b.layout.is_cell k z ≡ true → b.applied j k z ≡ true →
    done x ≡ false → b.layout.coded x ≡ true → ⊥
left_calm b done e0 j k z v x a calm ml m q u content here is on d coded = elim u.4 [
  | inl same ↦ none_open b j a.runs m q (u.0, u.1, u.2, u.3, same)
  | inr old ↦
      calm x coded (j, k, z, v, ml.opened j x u, u.0, u.1, u.3, content, here, is, on, grind (arith, old.1, m.low a.runs))
      (a.left x d)
]

mixed_mended : (b : State) (done : ℕ → Bool) (e0 : ℕ → ℕ) → Allowed b (Repaired done e0) → IsCalm b → Gone_lost b →
    IsCode b.layout → Formed b → Dead b → Later b → Mending b → Open_granted b → Chosen_open b → Cells b → Mended_low b →
    Mixed b → Mixed (after b (Repaired done e0))
mixed_mended b done e0 a calm gl code f dead lt m q co cells ml h k z p c l =
    let law = code.copies k z p c in elim (cases_Bool (done (b.layout.col p))) [
      | inl d ↦
          inl (sym (cells k z (not_gone b k gl l)) ∙ a.right (b.layout.col p) d k z law.0 law.1 l ∙ law.2 e0
          ∙ sym (end_done b done e0 p a d gl code f dead lt m q co cells h))
      | inr d ↦ elim (cases_Bool (b.layout.coded (b.layout.col p))) [
        | inr plain ↦
            absurd (true≢false (sym (short_gone b (b.layout.col p) code plain (a.left (b.layout.col p) d) k z law.0 law.1) ∙ l))
        | inl coded ↦ elim (h k z p c (not_gone b k gl l)) [
          | inl e ↦ inl (e ∙ sym (end_left b done e0 b.count p d coded))
          | inr w ↦ absurd (left_calm b done e0 w.0 w.2 w.3 w.4 (b.layout.col p) a calm ml m q w.5 w.7 w.8 w.9 w.10 d coded)
        ]
      ]
    ]

pub keep_mixed : (b : State) (e : Event) → Allowed b e → IsCalm b → IsCode b.layout → Tags b → Formed b → Calls b → Running b →
    Known b → Unacked b → Known_done b → Dead b → Late_ack b → Mending b → Open_granted b → Later b → Unserved b → Chosen_open b →
    Cells b → Sound b → All_word b → Mended_low b →
    ((k : ℕ) (cells : ℕ → ℕ) → Allowed b (Rebuilds k cells) → (z : ℕ) → b.layout.is_cell k z ≡ true →
    cells z ≡ b.layout.word k z (byte_before b b.count)) → Gone_lost b → Mixed b → Mixed (after b e)
keep_mixed b (StartsWrite c g i d touch hit seen e1 pt) a calm code t f r run n u kd dead late m q lt us co cells sound aw ml re
    gl h =
    λ k z p c2 l. mixed_added b (written_start b c g d touch hit seen e1 pt) (λ k z. false) k z p
    (ct_new b (written_start b c g d touch hit seen e1 pt) (λ k z. false) k z) (h k z p c2 l)
keep_mixed b (StartsRead c g lo hi reach) a calm code t f r run n u kd dead late m q lt us co cells sound aw ml re gl h =
    λ k z p c2 l. mixed_added b (read_start b c g lo hi reach) (λ k z. false) k z p
    (ct_new b (read_start b c g lo hi reach) (λ k z. false) k z) (h k z p c2 l)
keep_mixed b (Repairs k which e0) a calm code t f r run n u kd dead late m q lt us co cells sound aw ml re gl h =
    mixed_mends b k which e0 a code cells h
keep_mixed b (Rebuilds k cells0) a calm code t f r run n u kd dead late m q lt us co cells sound aw ml re gl h =
    mixed_rebuilds b k cells0 (re k cells0 a) code h
keep_mixed b (Acknowledges c i) a calm code t f r run n u kd dead late m q lt us co cells sound aw ml re gl h =
    mixed_acks b c i a code r run f kd dead late lt aw h
keep_mixed b (Performs w) a calm code t f r run n u kd dead late m q lt us co cells sound aw ml re gl h =
    mixed_performs b w (fresh_open b w a.comes (now_fresh b w a t f n) n dead u) code f dead lt us co sound h
keep_mixed b (Grants c number rw range extending) a calm code t f r run n u kd dead late m q lt us co cells sound aw ml re gl h =
    λ k z p c2 l. h k z p c2 (first_false (b.gone k) (b.missing k) l)
keep_mixed b (Loses c k0) a calm code t f r run n u kd dead late m q lt us co cells sound aw ml re gl h =
    λ k z p c2 l. h k z p c2 (up_off b.gone k0 k l)
keep_mixed b Fenced a calm code t f r run n u kd dead late m q lt us co cells sound aw ml re gl h =
    λ k z p c l. elim (h k z p c (not_gone b k gl l)) [
      | inl e ↦ inl e
      | inr w ↦
          inr (
            w.0,
            w.1,
            w.2,
            w.3,
            w.4,
            (w.5.0, w.5.1, w.5.2, w.5.3, inr (refl, elim w.5.4 [ inl e ↦ e | inr e ↦ absurd (true≢false (sym e.0 ∙ a.first)) ])),
            w.6,
            w.7,
            w.8,
            w.9,
            w.10,
            w.11,
          )
    ]
keep_mixed b Refenced a calm code t f r run n u kd dead late m q lt us co cells sound aw ml re gl h =
    λ k z p c l. elim (h k z p c l) [
      | inl e ↦ inl e
      | inr w ↦ inr (w.0, w.1, w.2, w.3, w.4, refenced_unsettled b w.0 a.again m q w.5, w.6, w.7, w.8, w.9, w.10, w.11)
    ]
keep_mixed b (Repaired done e0) a calm code t f r run n u kd dead late m q lt us co cells sound aw ml re gl h =
    mixed_mended b done e0 a calm gl code f dead lt m q co cells ml h
keep_mixed b e a calm code t f r run n u kd dead late m q lt us co cells sound aw ml re gl h = h

pub late_added : (b : State) (s : Start) (row : ℕ → ℕ → Bool) → (s.is_write ≡ true → s.alive ≡ true → s.tag ≡ b.tag) →
    Late_ack b → Late_ack (added b s row)
late_added b s row new h j p v o full byte1 = elim (cases_eq j b.count) [
  | inl e ↦ let st : updated b.start b.count s j ≡ s = updated_at b.start b.count s j e in
      absurd (grind (arith, new (rw st at o.1) (rw st at o.2), rw st at o.4))
  | inr ne ↦ let st : updated b.start b.count s j ≡ b.start j = updated_other b.start b.count s j ne in
      rw (updated_other b.chosen b.count (λ q. false) j ne)
      (h j p v (
        grind (arith, o.0, ne),
        rw st at o.1,
        rw st at o.2,
        sym (updated_other b.acknowledged b.count false j ne)
            ∙ o.3,
        rw st at o.4,
        rw st at o.5,
      )
      (λ x y u content. sym (ap (λ w. w x y) (updated_other b.applied b.count row j ne)) ∙ full x y u (rw st content))
      (rw st at byte1))
]

late_mended : (b : State) (done : ℕ → Bool) (e0 : ℕ → ℕ) → Allowed b (Repaired done e0) → IsCalm b → Gone_lost b →
    IsCode b.layout → Formed b → Mending b → Open_granted b → Cells b → Mended_low b → All_word b → Late_ack b →
    Late_ack (after b (Repaired done e0))
late_mended b done e0 a calm gl code f m q cells ml aw h j p v o full byte1 = elim (cases_Bool (ended b j)) [
  | inr no_ ↦ cond_not (ended b j) _ _ no_ ∙ h j p v (o.0, o.1, o.2, o.3, o.4, inr (not_ended no_)) full byte1
  | inl yes_ ↦ let u = ended_unsettled b j o.0 a.runs yes_ in let t = (f j o.0).touches p v byte1 in
      cond_done (ended b j) _ _ yes_ ∙ elim (cases_Bool (done (b.layout.col p))) [
        | inl d ↦ cond_done (done (b.layout.col p)) _ _ d ∙ is_byte_some ((b.start j).data_at p) (e0 p) (byte1 ∙ ap Some (
            let c = a.copies p d in let law = code.copies c.0 c.1 p c.2 in
            sym (ap (λ y. over true y (byte_before b j p)) byte1) ∙ sym (law.2 (overlaid (b.start j).data_at (byte_before b j)))
            ∙ sym
            (aw j c.0 c.1 u (λ x y w g content. full x y w content) (ap (b.start j).touch law.1 ∙ t) law.0
            (not_gone b c.0 gl c.3))
            ∙ sym (cells c.0 c.1 (not_gone b c.0 gl c.3)) ∙ a.right (b.layout.col p) d c.0 c.1 law.0 law.1 c.3 ∙ law.2 e0))
        | inr d ↦ cond_not (done (b.layout.col p)) _ _ d ∙ elim (cases_Bool (b.layout.coded (b.layout.col p))) [
          | inr plain ↦ cond_not (b.layout.coded (b.layout.col p)) _ _ plain
          | inl coded ↦ let c = (f j o.0).lands p v o.1 byte1 in
              absurd
              (left_calm b done e0 j c.0 c.1 c.2 (b.layout.col p) a calm ml m q u c.3 c.4 c.5 (full c.0 c.1 c.2 c.3) d coded)
        ]
      ]
]
  where
    not_ended : ended b j ≡ false → (b.start j).tag ≡ b.ended_tag → ⊥
    not_ended no_ = elim (cases_eq (b.start j).tag b.ended_tag) [
      | inl e ↦
          absurd
          (true≢false
          (sym
          (and_from (b.start j).is_write _ o.1
          (and_from (b.start j).alive _ o.2
          (and_from (not (b.acknowledged j)) _ (rw o.3 refl) (eq-eqb (b.start j).tag b.ended_tag e)))) ∙ no_))
      | inr ne ↦ ne
    ]

pub keep_late : (b : State) (e : Event) → Allowed b e → IsCalm b → IsCode b.layout → Tags b → Formed b → Known b → Unacked b →
    Dead b → Mending b → Open_granted b → Cells b → Mended_low b → All_word b → Gone_lost b → Late_ack b → Late_ack (after b e)
keep_late b (StartsWrite c g i d touch hit seen e1 pt) a calm code t f n u dead m q cells ml aw gl h =
    late_added b (written_start b c g d touch hit seen e1 pt) (λ k z. false) (λ w al. eqb-true g.tag b.tag al) h
keep_late b (StartsRead c g lo hi reach) a calm code t f n u dead m q cells ml aw gl h =
    late_added b (read_start b c g lo hi reach) (λ k z. false) (λ w. absurd (true≢false (sym w))) h
keep_late b (Repairs k which e0) a calm code t f n u dead m q cells ml aw gl h =
    late_added b (repair_start b k which e0) (λ f y. updated (λ w. false) k true f) (λ w. absurd (true≢false (sym w))) h
keep_late b (Rebuilds k cells0) a calm code t f n u dead m q cells ml aw gl h =
    late_added b (rebuilt_start b k cells0) (λ f y. updated (λ w. false) k true f) (λ w. absurd (true≢false (sym w))) h
keep_late b (Acknowledges c i) a calm code t f n u dead m q cells ml aw gl h = λ j p v o full byte1. elim (cases_eq j i) [
  | inl e ↦ ap (λ y. y p) (updated_at b.chosen i (λ z. true) j e)
  | inr ne ↦ ap (λ y. y p) (updated_other b.chosen i (λ z. true) j ne)
      ∙ h j p v (o.0, o.1, o.2, sym (updated_other b.acknowledged i true j ne) ∙ o.3, o.4, o.5) full byte1
]
keep_late b (Performs w) a calm code t f n u dead m q cells ml aw gl h = λ j p v o full byte1.
    let op = fresh_open b w a.comes (now_fresh b w a t f n) n dead u in
    let ne : j ≡ w.entry → ⊥ = λ e. grind (arith, op.4, e, o.4) in
    h j p v o (λ x y z content. sym (ap (λ f2. f2 x y) (pf_row b w j ne)) ∙ full x y z content) byte1
keep_late b Fenced a calm code t f n u dead m q cells ml aw gl h =
    λ j p v o full byte1. h j p v (o.0, o.1, o.2, o.3, grind (arith, o.5), inl a.first) full byte1
keep_late b Refenced a calm code t f n u dead m q cells ml aw gl h =
    λ j p v o full byte1. h j p v (
      o.0,
      o.1,
      o.2,
      o.3,
      refenced_low j o,
      elim o.5 [ inl off ↦ inl off | inr ne ↦ inr ne ],
    ) full byte1
  where
    refenced_low : (j : ℕ) → Old (after b Refenced) j → (b.start j).tag < b.tag
    refenced_low j o = elim (cases_eq (b.start j).tag b.tag) [
      | inl e ↦ absurd (none_open b j a.again m q (o.0, o.1, o.2, o.3, e))
      | inr ne ↦ let l = o.4 in omega (arith, l, ne)
    ]
keep_late b (Repaired done e0) a calm code t f n u dead m q cells ml aw gl h =
    late_mended b done e0 a calm gl code f m q cells ml aw h
keep_late b e a calm code t f n u dead m q cells ml aw gl h = h
