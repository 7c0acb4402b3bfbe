-- Kept: a column that isn't disturbed is a codeword, in the components that aren't lost.
-- A performed part of a write that isn't acknowledged disturbs; the acknowledgement or the repair ends that with whole words.
use Rattle.std.proofs.Common.{◌≡◌, ℕ, ◌+◌, ◌≤◌, Bool, true, false, ◌&&◌, ◌==◌, Option, Some, None, ◌⊎◌, refl, sym, ap, ◌∙◌, inl, inr, arith}
use Rattle.std.proofs.lemmas.Bool.{cases_Bool, eq-eqb, cases_eq, true≢false}
use Rattle.osd_lists.proofs.Tests.{first_false}
use Rattle.fence_law.specs.Words.{updated, over}
use Rattle.fence_law.specs.State.{State, Event, Grant, Write, Start}
use Rattle.fence_law.specs.Columns.{only, Untouched, Disturbed}
use Rattle.fence_law.specs.Starts.{written_start, read_start, repair_start, rebuilt_start, performed}
use Rattle.fence_law.specs.Machine.{Allowed, after}
use Rattle.fence_law.specs.State.Call.{Idle, Reads}
use Rattle.fence_law.specs.State.Event.{Grants, Fenced, StartsWrite, StartsRead, Performs, Acknowledges, Repairs, Repaired, Rebuilds, Loses}
use Rattle.fence_law.specs.Law.{byte_before, cell_before, IsCode}
use Rattle.fence_law.proofs.Words.{up_off, updated_at, updated_other}
use Rattle.fence_law.proofs.Parts.{pf_hit, hit_case, pf_grows}
use Rattle.fence_law.proofs.Tags.{Tags}
use Rattle.fence_law.proofs.Holds.{Holds}
use Rattle.fence_law.proofs.Commands.{Calls}
use Rattle.fence_law.proofs.Chains.{chain-none, chain_cares, chain_quiet, over_none}
use Rattle.fence_law.proofs.Formed.{Gone_lost, not_gone, added, Mending, Formed, Running, bytes_before}
use Rattle.fence_law.proofs.Open.{Dead, Known, Unacked, Open, fresh_open, now_fresh}
use Rattle.fence_law.proofs.Live.{Open_granted, Open_at_work}
use Rattle.fence_law.proofs.Acked.{Known_done, acks_here, option_cases}
use Rattle.fence_law.proofs.Later.{Unsettled, open_unsettled, unsettled_none, Later, later_starts, byte_or_touch, pay_or_touch, bytes_end}
use Rattle.fence_law.proofs.Chosen.{old_apart, three, Chosen_open, Late_ack, acks_same, at_acks}
use Rattle.fence_law.proofs.Held.{at_new, ct_new, ct_performs, Cells}
use Rattle.fence_law.proofs.Before.{WholeAt}
use Rattle.fence_law.proofs.AllWord.{All_word}
use Rattle.fence_law.proofs.SettledWrites.{Mended_low, Settled, short_gone}
use Rattle.fence_law.proofs.Mixed.{Mixed, acked_byte}
use Rattle.fence_law.proofs.Ends.{end_done, end_left}

-- a column that isn't disturbed is a codeword, in the components that aren't lost
abbrev pub Whole_now : State → Type 0
Whole_now b = (k z : ℕ) → b.layout.is_cell k z ≡ true → b.gone k ≡ false → (Disturbed b (b.layout.cell_col k z) → ⊥) →
    cell_before b b.count k z ≡ b.layout.word k z (byte_before b b.count)

disturbed_added : (b : State) (s : Start) (row : ℕ → ℕ → Bool) (x : ℕ) → Disturbed b x → Disturbed (added b s row) x
disturbed_added b s row x d =
    let ne : d.0 ≡ b.count → ⊥ = grind (arith, d.5) in let st = updated_other b.start b.count s d.0 ne in (
      d.0,
      d.1,
      d.2,
      d.3,
      d.4,
      grind (arith, d.5),
      rw st d.6,
      updated_other b.acknowledged b.count false d.0 ne ∙ d.7,
      rw st d.8,
      d.9,
      d.10,
      ap (λ y. y d.1 d.2) (updated_other b.applied b.count row d.0 ne) ∙ d.11,
    )

-- a write that disturbs a column touches it
disturbs_touch : (b : State) (x : ℕ) (d : Disturbed b x) → Formed b → (b.start d.0).touch x ≡ true
disturbs_touch b x d f = elim (pay_or_touch b d.0 d.1 d.2 d.5 f) [
  | inl n ↦ absurd (let e : None ≡ Some d.3 = sym n ∙ d.8 in cc e)
  | inr t ↦ ap (b.start d.0).touch (sym d.9) ∙ t
]

wn_added : (b : State) (s : Start) (row : ℕ → ℕ → Bool) (k z : ℕ) → IsCode b.layout →
    cell_before (added b s row) (b.count + 1) k z ≡ cell_before b b.count k z →
    (Disturbed (added b s row) (b.layout.cell_col k z) → ⊥) →
    ((Disturbed b (b.layout.cell_col k z) → ⊥) → cell_before b b.count k z ≡ b.layout.word k z (byte_before b b.count)) →
    cell_before (added b s row) (b.count + 1) k z ≡ b.layout.word k z (byte_before (added b s row) (b.count + 1))
wn_added b s row k z code same none h = same ∙ h (λ d. none (disturbed_added b s row (b.layout.cell_col k z) d))
    ∙ code.local k z _ _ (λ q here. sym (at_new b s row q))

wn_mends : (b : State) (k0 : ℕ) (which : ℕ → Bool) (e0 : ℕ → ℕ) → Allowed b (Repairs k0 which e0) → IsCode b.layout → Cells b →
    Whole_now b → Whole_now (after b (Repairs k0 which e0))
wn_mends b k0 which e0 a code cells h k z is l none =
    let s : Start = repair_start b k0 which e0 in let row : ℕ → ℕ → Bool = λ f y. updated (λ w. false) k0 true f in
    elim (cases_eq k k0) [
      | inr ne ↦
          wn_added b s row k z code (ct_new b s row k z
          ∙ ap (λ y. over y (s.content k z) (cell_before b b.count k z)) (updated_other (λ f. false) k0 true k ne)) none
          (h k z is l)
      | inl e ↦ elim (cases_Bool (which z)) [
        | inr ne ↦
            wn_added b s row k z code (ct_new b s row k z
            ∙ ap (λ y. over y (s.content k z) (cell_before b b.count k z)) (updated_at (λ f. false) k0 true k e)
            ∙ over_none true (s.content k z) _ (off e ne)) none (h k z is l)
        | inl ez ↦ ct_new b s row k z
            ∙ ap (λ y. over y (s.content k z) (cell_before b b.count k z)) (updated_at (λ f. false) k0 true k e)
            ∙ ap (λ o. over true o (cell_before b b.count k z)) (pay_here e ez) ∙
            ap (λ y. b.layout.word y z e0) (sym e) ∙
            code.local k z _ _ (λ q here. let c = a.all z q ez (here ∙ ap (λ y. b.layout.cell_col y z) e) in
            let law = code.copies c.0 c.1 q c.2 in
            c.4 ∙ cells c.0 c.1 c.3
            ∙ h c.0 c.1 law.0 c.3 (λ d. none (disturbed_added b s row (b.layout.cell_col k z) (move law.1 here d)))
            ∙ law.2 (byte_before b b.count) ∙ sym (at_new b s row q))
      ]
    ]
  where
    pay_here : k ≡ k0 → which z ≡ true → only ((k == k0) && which z) (b.layout.word k0 z e0) ≡ Some (b.layout.word k0 z e0)
    pay_here e ez = rw (eq-eqb k k0 e, ez) refl

    off : k ≡ k0 → which z ≡ false → only ((k == k0) && which z) (b.layout.word k0 z e0) ≡ None
    off e ne = rw (eq-eqb k k0 e, ne) refl

    move : {x y q : ℕ} → x ≡ b.layout.col q → b.layout.col q ≡ y → Disturbed b x → Disturbed b y
    move e f d = (d.0, d.1, d.2, d.3, rw (e ∙ f) at d.4, d.5, d.6, d.7, d.8, d.9 ∙ e ∙ f, d.10, d.11)

wn_rebuilds : (b : State) (k0 : ℕ) (cells : ℕ → ℕ) →
    ((z : ℕ) → b.layout.is_cell k0 z ≡ true → cells z ≡ b.layout.word k0 z (byte_before b b.count)) → IsCode b.layout →
    Whole_now b → Whole_now (after b (Rebuilds k0 cells))
wn_rebuilds b k0 cells right code h k z is l none =
    let s : Start = rebuilt_start b k0 cells in let row : ℕ → ℕ → Bool = λ f y. updated (λ w. false) k0 true f in
    elim (cases_eq k k0) [
      | inr ne ↦
          wn_added b s row k z code (ct_new b s row k z
          ∙ ap (λ y. over y (s.content k z) (cell_before b b.count k z)) (updated_other (λ f. false) k0 true k ne)) none
          (h k z is (sym (updated_other b.gone k0 false k ne) ∙ l))
      | inl e ↦ ct_new b s row k z
          ∙ ap (λ y. over y (s.content k z) (cell_before b b.count k z)) (updated_at (λ f. false) k0 true k e)
          ∙ ap (λ o. over true o (cell_before b b.count k z)) (pay_here e) ∙
          right z (ap (λ y. b.layout.is_cell y z) (sym e) ∙ is) ∙ ap (λ y. b.layout.word y z (byte_before b b.count)) (sym e)
          ∙ code.local k z _ _ (λ q here. sym (at_new b s row q))
    ]
  where
    pay_here : k ≡ k0 → only (k == k0) (cells z) ≡ Some (cells z)
    pay_here e = rw (eq-eqb k k0 e) refl

wn_performs : (b : State) (m : Write) → Open b m.entry → Formed b → Mended_low b → Whole_now b → Whole_now (after b (Performs m))
wn_performs b m o f ml h k z is l none = elim (hit_case b m k z) [
  | inr s ↦ still (inr (inr s.0))
  | inl e ↦ option_cases ((b.start m.entry).content k z) (λ n. still (inl n)) (λ v content. absurd (none (
    m.entry,
    k,
    z,
    v,
    ml.opened m.entry (b.layout.cell_col k z) (open_unsettled b m.entry o),
    o.0,
    o.1,
    o.3,
    content,
    refl,
    is,
    pf_hit b m m.entry k z refl e.0 e.1,
  )))
]
  where
    still : ((b.start m.entry).content k z ≡ None) ⊎ ((b.count ≤ m.entry) ⊎ (performed b m m.entry k z ≡ b.applied m.entry k z)) →
        cell_before (after b (Performs m)) b.count k z ≡ b.layout.word k z (byte_before b b.count)
    still off = ct_performs b m b.count k z off
        ∙ h k z is l (λ d. none (d.0, d.1, d.2, d.3, d.4, d.5, d.6, d.7, d.8, d.9, d.10, pf_grows b m d.0 d.1 d.2 d.11))

wn_acks : (b : State) (c i : ℕ) → Allowed b (Acknowledges c i) → IsCode b.layout → Calls b → Running b → Formed b → Known_done b →
    Dead b → Late_ack b → Later b → All_word b → Settled b → Whole_now b → Whole_now (after b (Acknowledges c i))
wn_acks b c i a code r run f kd dead late lt aw st h k z is l none =
    let low = (r.writes c i a.runs).below in let x = run.writes c i a.runs in
    let full = acks_here b c i a kd in
    let same : ((q : ℕ) → b.layout.col q ≡ b.layout.cell_col k z → (Unsettled b i → (b.start i).data_at q ≡ None)) →
    (Disturbed b (b.layout.cell_col k z) → ⊥) →
    cell_before b b.count k z ≡ b.layout.word k z (byte_before (after b (Acknowledges c i)) b.count) =
    λ no_ un. h k z is l un ∙ code.local k z _ _ (λ q here. sym (chain_cares _ _ _ b.count (λ y l2. elim (cases_eq y i) [
      | inr ne ↦ inl (ap (λ w. w q) (updated_other b.chosen i (λ p. true) y ne))
      | inl e ↦ elim (three b i low x.0 x.1 f) [
        | inl u ↦ inr (ap (λ w. (b.start w).data_at q) e ∙ no_ q here u)
        | inr w ↦
            elim
            (acks_same b c i q a code r run f kd dead late
            (λ u. elim w [ inl o ↦ old_apart b i o u | inr d ↦ true≢false (sym u.2 ∙ d) ])) [
              | inl on ↦ inl (ap (λ w. w q) (updated_at b.chosen i (λ p. true) y e) ∙ sym (ap (λ w. b.chosen w q) e ∙ on))
              | inr n ↦ inr (ap (λ w. (b.start w).data_at q) e ∙ n)
            ]
      ]
    ]))) in
    let others : ((d : Disturbed b (b.layout.cell_col k z)) → d.0 ≡ i → ⊥) → Disturbed b (b.layout.cell_col k z) → ⊥ =
    λ ne d. none (
      d.0,
      d.1,
      d.2,
      d.3,
      d.4,
      d.5,
      d.6,
      updated_other b.acknowledged i true d.0 (ne d) ∙ d.7,
      d.8,
      d.9,
      d.10,
      d.11,
    ) in
    elim (three b i low x.0 x.1 f) [
      | inl u ↦ elim (cases_Bool ((b.start i).touch (b.layout.cell_col k z))) [
        | inl t ↦ aw i k z u full t is l ∙ code.local k z _ _ (λ q here. elim (option_two ((b.start i).data_at q)) [
          | inr byte1 ↦ ap (λ y. over true y (byte_before b i q)) byte1.1 ∙ sym (acked_byte b c i q byte1.0 u byte1.1 f dead lt)
          | inl n ↦ ap (λ y. over true y (byte_before b i q)) n
              ∙ sym
              (chain_quiet (λ j. updated b.chosen i (λ p. true) j q) (λ j. (b.start j).data_at q) i b.count (grind (arith, low))
              (λ j lo hi. elim (cases_eq j i) [
                | inl e ↦ inr (ap (λ w. (b.start w).data_at q) e ∙ n)
                | inr ne ↦ elim (bytes_end b i j q u (omega arith) hi (ap (b.start i).touch here ∙ t) f dead lt) [
                  | inr m ↦
                      inr m
                  | inl off ↦ inl (ap (λ w. w q) (updated_other b.chosen i (λ p. true) j ne) ∙ off)
                ]
              ])
              ∙ at_acks b c i i q a code r run f kd dead late (λ v w. omega arith))
        ])
        | inr off ↦
            same
            (λ q here v. elim (byte_or_touch b i q low f) [
              | inl n ↦ n
              | inr t ↦
                  absurd (true≢false (sym t ∙ ap (b.start i).touch here ∙ off))
            ])
            (others
            (λ d e. true≢false (sym (disturbs_touch b (b.layout.cell_col k z) d f)
            ∙ ap (λ y. (b.start y).touch (b.layout.cell_col k z)) e ∙ off)))
      ]
      | inr w ↦ let no_ : Unsettled b i → ⊥ = λ u. elim w [ inl o ↦ old_apart b i o u | inr d ↦ true≢false (sym u.2 ∙ d) ] in
          same (λ q here u. absurd (no_ u)) (others (λ d e. elim (st d.0 d.1 d.2 d.3 d.5 d.6 d.7 d.8 d.10 (rw (sym d.9) at d.4)) [
            | inl u ↦ no_ (rw e at u)
            | inr v ↦ elim v [ inl off ↦ true≢false (sym d.11 ∙ off) | inr g ↦ true≢false (sym (g.0 k z is (sym d.9)) ∙ l) ]
          ]))
    ]
  where
    option_two : (o : Option ℕ) → (o ≡ None) ⊎ ((v : ℕ) × (o ≡ Some v))
    option_two None = inl refl
    option_two (Some v) = inr (v, refl)

wn_mended : (b : State) (done : ℕ → Bool) (e0 : ℕ → ℕ) → Allowed b (Repaired done e0) → Gone_lost b → IsCode b.layout → Formed b →
    Dead b → Later b → Mending b → Open_granted b → Chosen_open b → Cells b → Mixed b → Whole_now b →
    Whole_now (after b (Repaired done e0))
wn_mended b done e0 a gl code f dead lt m q co cells mixed h k z is l none = elim (cases_Bool (done (b.layout.cell_col k z))) [
  | inl d ↦ sym (cells k z (not_gone b k gl l)) ∙ a.right (b.layout.cell_col k z) d k z is refl l
      ∙ code.local k z _ _ (λ y here. sym (end_done b done e0 y a (ap done here ∙ d) gl code f dead lt m q co cells mixed))
  | inr d ↦ elim (cases_Bool (b.layout.coded (b.layout.cell_col k z))) [
    | inr plain ↦
        absurd
        (true≢false (sym (short_gone b (b.layout.cell_col k z) code plain (a.left (b.layout.cell_col k z) d) k z is refl) ∙ l))
    | inl coded ↦ h k z is (not_gone b k gl l) (λ w. none (w.0, w.1, w.2, w.3, rw d w.4, w.5, w.6, w.7, w.8, w.9, w.10, w.11))
        ∙ code.local k z _ _ (λ y here. sym (end_left b done e0 b.count y (ap done here ∙ d) (ap b.layout.coded here ∙ coded)))
  ]
]

pub keep_whole_now : (b : State) (e : Event) → Allowed b e → IsCode b.layout → Tags b → Formed b → Calls b → Running b → Known b →
    Unacked b → Known_done b → Dead b → Late_ack b → Mending b → Open_granted b → Later b → Chosen_open b → Cells b → All_word b →
    Mended_low b → Mixed b → Settled b →
    ((k : ℕ) (cells : ℕ → ℕ) → Allowed b (Rebuilds k cells) → (z : ℕ) → b.layout.is_cell k z ≡ true →
    cells z ≡ b.layout.word k z (byte_before b b.count)) → Gone_lost b → Whole_now b → Whole_now (after b e)
keep_whole_now b (StartsWrite c g i d touch hit seen e1 pt) a code t f r run n u kd dead late m q lt co cells aw ml mixed st re gl
    h = λ k z is l none. wn_added b (written_start b c g d touch hit seen e1 pt) (λ k z. false) k z code
    (ct_new b (written_start b c g d touch hit seen e1 pt) (λ k z. false) k z) none (h k z is l)
keep_whole_now b (StartsRead c g lo hi reach) a code t f r run n u kd dead late m q lt co cells aw ml mixed st re gl h =
    λ k z is l none. wn_added b (read_start b c g lo hi reach) (λ k z. false) k z code
    (ct_new b (read_start b c g lo hi reach) (λ k z. false) k z) none (h k z is l)
keep_whole_now b (Repairs k which e0) a code t f r run n u kd dead late m q lt co cells aw ml mixed st re gl h =
    wn_mends b k which e0 a code cells h
keep_whole_now b (Rebuilds k cells0) a code t f r run n u kd dead late m q lt co cells aw ml mixed st re gl h =
    wn_rebuilds b k cells0 (re k cells0 a) code h
keep_whole_now b (Acknowledges c i) a code t f r run n u kd dead late m q lt co cells aw ml mixed st re gl h =
    wn_acks b c i a code r run f kd dead late lt aw st h
keep_whole_now b (Performs w) a code t f r run n u kd dead late m q lt co cells aw ml mixed st re gl h =
    wn_performs b w (fresh_open b w a.comes (now_fresh b w a t f n) n dead u) f ml h
keep_whole_now b (Grants c number rw range extending) a code t f r run n u kd dead late m q lt co cells aw ml mixed st re gl h =
    λ k z is l none. h k z is (first_false (b.gone k) (b.missing k) l) none
keep_whole_now b (Loses c k0) a code t f r run n u kd dead late m q lt co cells aw ml mixed st re gl h =
    λ k z is l none. h k z is (up_off b.gone k0 k l) none
keep_whole_now b Fenced a code t f r run n u kd dead late m q lt co cells aw ml mixed st re gl h =
    λ k z is l none. h k z is (not_gone b k gl l) none
keep_whole_now b (Repaired done e0) a code t f r run n u kd dead late m q lt co cells aw ml mixed st re gl h =
    wn_mended b done e0 a gl code f dead lt m q co cells mixed h
keep_whole_now b e a code t f r run n u kd dead late m q lt co cells aw ml mixed st re gl h = h

-- a column that no unsettled write touches is a codeword
pub calm_whole : (b : State) (x : ℕ) → Formed b → Settled b → Whole_now b →
    ((j : ℕ) → Unsettled b j → (b.start j).touch x ≡ true → ⊥) → WholeAt b b.count x
calm_whole b x f st h none k z is here l =
    h k z is l (λ d. let t : (b.start d.0).touch x ≡ true = ap (b.start d.0).touch (sym here)
    ∙ disturbs_touch b (b.layout.cell_col k z) d f in
    elim (st d.0 d.1 d.2 d.3 d.5 d.6 d.7 d.8 d.10 (rw (sym d.9) at d.4)) [
      | inl u ↦ none d.0 u t
      | inr v ↦ elim v [ inl off ↦ true≢false (sym d.11 ∙ off) | inr g ↦ true≢false (sym (g.0 k z is (sym d.9)) ∙ l) ]
    ])

-- at the start of a call under an outstanding grant
pub start_whole : (b : State) → Formed b → Holds b → Mending b → Open_granted b → Open_at_work b → Settled b → Whole_now b →
    (c : ℕ) (g : Grant) → b.held c ≡ Some g → (b.call c ≡ Idle) ⊎ ((i : ℕ) × (b.call c ≡ Reads i)) → (g.tag == b.tag) ≡ true →
    (x : ℕ) → g.covers x ≡ true → WholeAt b b.count x
start_whole b f o m q y st h c g has free on x range =
    calm_whole b x f st h (λ j u t. true≢false (sym on ∙ later_starts b c g has free o m q y j x u t range))

-- of a column that no write touched all is 0
untouched_zero : (b : State) (q : ℕ) → Formed b → Untouched b (b.layout.col q) → byte_before b b.count q ≡ 0
untouched_zero b q f un =
    chain_quiet (λ i. b.chosen i q) (λ i. (b.start i).data_at q) 0 b.count (omega arith)
    (λ i low high. elim (cases_Bool (b.start i).is_write) [
      | inr n ↦ inr ((f i high).none q n)
      | inl w ↦ elim (byte_or_touch b i q high f) [ inl n ↦ inr n | inr t ↦ absurd (true≢false (sym t ∙ un i high w)) ]
    ]) ∙ chain-none _ _

pub rebuilt_word : (b : State) → IsCode b.layout → Formed b → Cells b → Open_granted b → Settled b → Whole_now b →
    (k : ℕ) (cells : ℕ → ℕ) → Allowed b (Rebuilds k cells) → (z : ℕ) → b.layout.is_cell k z ≡ true →
    cells z ≡ b.layout.word k z (byte_before b b.count)
rebuilt_word b code formed held q st h k cells a z is = elim (a.right z is) [
  | inl all ↦ all (byte_before b b.count) (bytes_before b b.count (omega arith) formed) (λ f y isf here l. held f y l
      ∙ calm_whole b (b.layout.cell_col k z) formed st h (λ j u t. unsettled_none b j a.repaired q a.none u) f y isf here l)
  | inr w ↦ w.1 ∙ sym (code.zeros k z) ∙ code.local k z _ _ (λ p here. sym (untouched_zero b p formed (rw (← here) at w.0)))
]
