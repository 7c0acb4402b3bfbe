-- Kept: a write that isn't acknowledged is unsettled, or has no part in a column since its repair, unless nothing is left of
-- that.
-- Calm is used here: a column that a repair leaves short wasn't torn.
use Rattle.std.proofs.Common.{◌≡◌, ℕ, zero, suc, ◌+◌, ◌<◌, ◌≤◌, Bool, true, false, cond, Option, Some, None, ◌⊎◌, refl, sym, ap, ◌∙◌, inl, inr, arith}
use Rattle.std.proofs.lemmas.Bool.{false_from_ne_true, cases_Bool, eqb-true, eq-eqb, cases_eq, true≢false, or_left}
use Rattle.fence_law.specs.Words.{updated, over}
use Rattle.fence_law.specs.State.{State, Event, Write, Start}
use Rattle.fence_law.specs.Columns.{Stood, Untouched, Short, Gone, IsCalm}
use Rattle.fence_law.specs.Starts.{written_start, read_start, repair_start, rebuilt_start, is_byte, ended, settled}
use Rattle.fence_law.specs.Machine.{Allowed, after}
use Rattle.fence_law.specs.State.Event.{Grants, Fenced, Refenced, StartsWrite, StartsRead, Performs, Acknowledges, Repairs, Repaired, Rebuilds, Loses}
use Rattle.fence_law.specs.Law.{byte_before, IsCode}
use Rattle.fence_law.proofs.Words.{up_on, updated_at, updated_other}
use Rattle.fence_law.proofs.Parts.{pf_row}
use Rattle.fence_law.proofs.Tags.{Tags}
use Rattle.fence_law.proofs.Holds.{Holds}
use Rattle.fence_law.proofs.Chains.{chain-next, chain_quiet}
use Rattle.fence_law.proofs.Formed.{Gone_lost, added, Mending, Formed}
use Rattle.fence_law.proofs.Open.{Dead, Known, Unacked, Open, fresh_open, now_fresh}
use Rattle.fence_law.proofs.Live.{Open_granted}
use Rattle.fence_law.proofs.Later.{Unsettled, none_open, unsettled_added, unsettled_acks, unsettled_fenced, unsettled_mended, Later, byte_or_touch, pay_or_touch, bytes_end, unsettled_refenced, refenced_unsettled}
use Rattle.fence_law.proofs.Chosen.{ended_unsettled}
use Rattle.fence_law.proofs.AllWord.{one_writer}

-- an open write started after each repair
abbrev pub Mended_low : State → Type 0
Mended_low b = record { low : (x : ℕ) → b.repaired_at x ≤ b.count; opened : (j x : ℕ) → Unsettled b j → b.repaired_at x ≤ j }

ml_added : (b : State) (s : Start) (row : ℕ → ℕ → Bool) → Mended_low b → Mended_low (added b s row)
ml_added b s row h = record {
  low = λ x. grind (arith, h.low x);
  opened = λ j x o. elim (unsettled_added b s row j o) [ inl w ↦ grind (arith, w.0, h.low x) | inr w ↦ h.opened j x w.1 ];
}

cond_low : (w : Bool) (a b n : ℕ) → a ≤ n → b ≤ n → cond w a b ≤ n
cond_low true a b n h k = h
cond_low false a b n h k = k

pub keep_mended_low : (b : State) (e : Event) → Allowed b e → Formed b → Mending b → Open_granted b → Mended_low b →
    Mended_low (after b e)
keep_mended_low b (StartsWrite c g i d touch hit seen e1 pt) a f m q h =
    ml_added b (written_start b c g d touch hit seen e1 pt) (λ k z. false) h
keep_mended_low b (StartsRead c g lo hi reach) a f m q h = ml_added b (read_start b c g lo hi reach) (λ k z. false) h
keep_mended_low b (Repairs k which e0) a f m q h = ml_added b (repair_start b k which e0) (λ f y. updated (λ w. false) k true f) h
keep_mended_low b (Rebuilds k cells) a f m q h = ml_added b (rebuilt_start b k cells) (λ f y. updated (λ w. false) k true f) h
keep_mended_low b (Acknowledges c i) a f m q h = record { low = h.low; opened = λ j x o. h.opened j x (unsettled_acks b i j o).1 }
keep_mended_low b Fenced a f m q h = record { low = h.low; opened = λ j x o. h.opened j x (unsettled_fenced b j f o) }
keep_mended_low b Refenced a f m q h = record { low = h.low; opened = λ j x o. h.opened j x (unsettled_refenced b j f o) }
keep_mended_low b (Repaired done e0) a f m q h =
    record {
      low = λ x. cond_low (done x) b.count (b.repaired_at x) b.count (omega arith) (h.low x);
      opened = λ j x o. absurd (unsettled_mended b j a.runs m q o);
    }
keep_mended_low b e a f m q h = h

-- a column without parity that is short has nothing left
pub short_gone : (b : State) (x : ℕ) → IsCode b.layout → b.layout.coded x ≡ false → Short b x → (k z : ℕ) →
    b.layout.is_cell k z ≡ true → b.layout.cell_col k z ≡ x → b.lost k ≡ true
short_gone b x code plain s k z is here =
    let p = code.plain s.0 s.1 k z (ap b.layout.coded s.3 ∙ plain) s.2 is (here ∙ sym s.3) in
    s.4 k z is here (sym p.3)

-- of a column with nothing left nothing is rebuilt
pub gone_rebuilds : (b : State) (k : ℕ) (cells : ℕ → ℕ) (x z : ℕ) → Allowed b (Rebuilds k cells) → IsCode b.layout →
    b.layout.coded x ≡ false → (Untouched b x → ⊥) → Gone b x → b.layout.is_cell k z ≡ true → b.layout.cell_col k z ≡ x → ⊥
gone_rebuilds b k cells x z a code plain granted_since gone is here = elim (a.right z is) [
  | inr w ↦ granted_since (rw here at w.0)
  | inl all ↦
      let p = code.plain k z k z (ap b.layout.coded here ∙ plain) is is refl in let law = code.copies k z p.0 p.1 in
      let any : (d : ℕ → ℕ) → Stood b (b.layout.cell_col k z) d =
      λ d f y isf heref l. absurd (true≢false (sym (gone f y isf (heref ∙ here)) ∙ l)) in
      let zero1 = all (λ q. 0) (λ q. omega arith) (any (λ q. 0)) ∙ law.2 (λ q. 0) in
      let one1 = all (λ q. 1) (λ q. omega arith) (any (λ q. 1)) ∙ law.2 (λ q. 1) in
      absurd (grind (arith, zero1, one1))
]

-- an old write that isn't acknowledged has no part in a column that wasn't repaired since, unless nothing is left of that
abbrev pub Settled : State → Type 0
Settled b = (j k z v : ℕ) → j < b.count → (b.start j).is_write ≡ true → b.acknowledged j ≡ false →
    (b.start j).content k z ≡ Some v → b.layout.is_cell k z ≡ true → b.repaired_at (b.layout.cell_col k z) ≤ j →
    (Unsettled b j)
    ⊎ ((b.applied j k z ≡ false) ⊎ ((Gone b (b.layout.cell_col k z)) × (b.layout.coded (b.layout.cell_col k z) ≡ false)))

settled_starts : (b : State) (s : Start) (row : ℕ → ℕ → Bool) →
    (s.is_write ≡ true → (s.alive ≡ true → s.tag ≡ b.tag) × ((k z : ℕ) → row k z ≡ false)) → Settled b → Settled (added b s row)
settled_starts b s row new h j k z v low w a content is l = elim (cases_eq j b.count) [
  | inl e ↦ let st : updated b.start b.count s j ≡ s = updated_at b.start b.count s j e in let n = new (rw st at w) in
      inr (inl (ap (λ y. y k z) (updated_at b.applied b.count row j e) ∙ n.1 k z))
  | inr ne ↦ let st : updated b.start b.count s j ≡ b.start j = updated_other b.start b.count s j ne in
      elim
      (h j k z v (omega arith) (rw st at w) (sym (updated_other b.acknowledged b.count false j ne) ∙ a)
      (rw st at content) is l) [
        | inl u ↦ inl (grind (arith, u.0), rw st u.1, rw st u.2, a, rw st u.4)
        | inr y ↦
            inr (elim y [ inl off ↦ inl (ap (λ f. f k z) (updated_other b.applied b.count row j ne) ∙ off) | inr g ↦ inr g ])
      ]
]

settled_mended : (b : State) (done : ℕ → Bool) (e0 : ℕ → ℕ) → Allowed b (Repaired done e0) → IsCode b.layout → IsCalm b →
    Gone_lost b → Mending b → Open_granted b → Settled b → Settled (after b (Repaired done e0))
settled_mended b done e0 a code calm gl m q h j k z v low w ack content is l =
    let x : ℕ = b.layout.cell_col k z in elim (cases_Bool (done x)) [
      | inl d ↦ absurd (grind (arith, rw d at l, low))
      | inr d ↦ let l2 : b.repaired_at x ≤ j = rw d at l in elim (h j k z v low w ack content is l2) [
        | inr y ↦ inr (elim y [ inl off ↦ inl off | inr g ↦ inr (λ f u is2 here. gl f (g.0 f u is2 here), g.1) ])
        | inl u ↦ inr (elim (cases_Bool (b.layout.coded x)) [
          | inr plain ↦ inr (short_gone b x code plain (a.left x d), plain)
          | inl coded ↦ inl (false_from_ne_true (b.applied j k z) (λ on. elim u.4 [
            | inl same ↦ none_open b j a.runs m q (u.0, u.1, u.2, u.3, same)
            | inr old ↦
                calm x coded (j, k, z, v, l2, low, w, ack, content, refl, is, on, grind (arith, old.1, m.low a.runs)) (a.left x d)
          ]))
        ])
      ]
    ]

settled_performs : (b : State) (m : Write) → Open b m.entry → Settled b → Settled (after b (Performs m))
settled_performs b m o h j k z v low w a content is l = elim (cases_eq j m.entry) [
  | inl e ↦ inl (low, w, ap (λ y. (b.start y).alive) e ∙ o.2, a, inl (ap (λ y. (b.start y).tag) e ∙ o.4))
  | inr ne ↦ rw (pf_row b m j ne) (h j k z v low w a content is l)
]

settled_acks : (b : State) (i : ℕ) → Settled b → Settled (record b { acknowledged = updated b.acknowledged i true })
settled_acks b i h j k z v low w a content is l = elim (cases_eq j i) [
  | inl e ↦ absurd (true≢false (sym (updated_at b.acknowledged i true j e) ∙ a))
  | inr ne ↦
      elim (h j k z v low w (sym (updated_other b.acknowledged i true j ne) ∙ a) content is l) [
        | inl u ↦
            inl (u.0, u.1, u.2, a, u.4)
        | inr y ↦ inr y
      ]
]

settled_rebuilds : (b : State) (k0 : ℕ) (cells : ℕ → ℕ) → Allowed b (Rebuilds k0 cells) → IsCode b.layout → Formed b → Settled b →
    Settled (after b (Rebuilds k0 cells))
settled_rebuilds b k0 cells a code f h j k z v low w ack content is l =
    let x : ℕ = b.layout.cell_col k z in let granted_since : Untouched b x → ⊥ = λ un. elim (cases_eq j b.count) [
      | inl e ↦ true≢false (sym (rw (updated_at b.start b.count (rebuilt_start b k0 cells) j e) at w))
      | inr ne ↦ let st = updated_other b.start b.count (rebuilt_start b k0 cells) j ne in
          let lo : j < b.count = omega (arith, low, ne) in elim (pay_or_touch b j k z lo f) [
            | inl n ↦ none_some v n (rw st at content)
            | inr t ↦ true≢false (sym t ∙ un j lo (rw st at w))
          ]
    ] in
    elim (settled_starts b (rebuilt_start b k0 cells) (λ f y. updated (λ w. false) k0 true f) (λ y. absurd (true≢false (sym y))) h
    j k z v low w ack content is l) [
      | inl u ↦ inl u
      | inr y ↦ inr (elim y [
        | inl off ↦ inl off
        | inr g ↦
            inr (
              λ q u is2 here. elim (cases_eq q k0) [
                | inl e ↦
                    absurd
                    (gone_rebuilds b k0 cells x u a code g.1 (λ un. granted_since un) g.0
                    (ap (λ y. b.layout.is_cell y u) (sym e)
                    ∙ is2) (ap (λ y. b.layout.cell_col y u) (sym e) ∙ here))
                | inr ne ↦
                    updated_other b.gone k0 false q ne ∙ g.0 q u is2 here
              ],
              g.1,
            )
      ])
    ]
  where
    none_some : {o : Option ℕ} (y : ℕ) → o ≡ None → o ≡ Some y → ⊥
    none_some y n s = let e : None ≡ Some y = sym n ∙ s in cc e

pub keep_settled : (b : State) (e : Event) → Allowed b e → IsCalm b → IsCode b.layout → Tags b → Formed b → Holds b → Known b →
    Unacked b → Dead b → Mending b → Open_granted b → Gone_lost b → Settled b → Settled (after b e)
keep_settled b (StartsWrite c g i d touch hit seen e1 pt) a calm code t f o n u dead m q gl h =
    settled_starts b (written_start b c g d touch hit seen e1 pt) (λ k z. false)
    (λ w. (λ al. eqb-true g.tag b.tag al, λ k z. refl)) h
keep_settled b (StartsRead c g lo hi reach) a calm code t f o n u dead m q gl h =
    settled_starts b (read_start b c g lo hi reach) (λ k z. false) (λ w. absurd (true≢false (sym w))) h
keep_settled b (Repairs k which e0) a calm code t f o n u dead m q gl h =
    settled_starts b (repair_start b k which e0) (λ f y. updated (λ w. false) k true f) (λ w. absurd (true≢false (sym w))) h
keep_settled b (Rebuilds k cells) a calm code t f o n u dead m q gl h = settled_rebuilds b k cells a code f h
keep_settled b (Acknowledges c i) a calm code t f o n u dead m q gl h = settled_acks b i h
keep_settled b (Performs w) a calm code t f o n u dead m q gl h =
    settled_performs b w (fresh_open b w a.comes (now_fresh b w a t f n) n dead u) h
keep_settled b (Grants c number rw range extending) a calm code t f o n u dead m q gl h =
    λ j k z v low w ack content is l. elim (h j k z v low w ack content is l) [
      | inl y ↦ inl y
      | inr v2 ↦
          inr
          (elim v2 [
            | inl off ↦ inl off
            | inr g ↦
                inr (λ f2 u is2 here. or_left (b.gone f2) (b.missing f2) (g.0 f2 u is2 here), g.1)
          ])
    ]
keep_settled b (Loses c k0) a calm code t f o n u dead m q gl h =
    λ j k z v low w ack content is l. elim (h j k z v low w ack content is l) [
      | inl y ↦ inl y
      | inr v2 ↦ inr (elim v2 [ inl off ↦ inl off | inr g ↦ inr (λ f2 u is2 here. up_on b.gone k0 f2 (g.0 f2 u is2 here), g.1) ])
    ]
keep_settled b Fenced a calm code t f o n u dead m q gl h =
    λ j k z v low w ack content is l. elim (h j k z v low w ack content is l) [
      | inr v ↦ inr (elim v [ inl off ↦ inl off | inr g ↦ inr (λ f2 u is2 here. gl f2 (g.0 f2 u is2 here), g.1) ])
      | inl y ↦ inl (y.0, y.1, y.2, y.3, inr (refl, elim y.4 [ inl e ↦ e | inr e ↦ absurd (true≢false (sym e.0 ∙ a.first)) ]))
    ]
keep_settled b Refenced a calm code t f o n u dead m q gl h =
    λ j k z v low w ack content is l. elim (h j k z v low w ack content is l) [
      | inr v ↦ inr v
      | inl y ↦ inl (refenced_unsettled b j a.again m q y)
    ]
keep_settled b (Repaired done e0) a calm code t f o n u dead m q gl h = settled_mended b done e0 a code calm gl m q h
keep_settled b e a calm code t f o n u dead m q gl h = h

-- a flag among the first n is set, or none is
pub find_flag : (t : ℕ → Bool) (n : ℕ) → ((j : ℕ) × (j < n) × (t j ≡ true)) ⊎ ((j : ℕ) → j < n → t j ≡ false)
find_flag t zero = inr (λ j l. absurd (omega (arith, l)))
find_flag t (suc n) = elim (cases_Bool (t n)) [
  | inl on ↦ inl (n, omega arith, on)
  | inr off ↦ elim (find_flag t n) [
    | inl w ↦ inl (w.0, omega (arith, w.1), w.2)
    | inr none ↦ inr (λ j l. elim (cases_eq j n) [ inl e ↦ rw e off | inr ne ↦ none j (omega arith) ])
  ]
]

pub is_byte_true : (o : Option ℕ) (v : ℕ) → is_byte o v ≡ true → o ≡ Some v
is_byte_true None v e = absurd (true≢false (sym e))
is_byte_true (Some u) v e = ap Some (eqb-true u v e)

pub is_byte_some : (o : Option ℕ) (v : ℕ) → o ≡ Some v → is_byte o v ≡ true
is_byte_some o v e = rw e (eq-eqb v v refl)

-- after a repair's end a write of the grants that were just ended has left this byte
pub end_with : (b : State) (done : ℕ → Bool) (e0 : ℕ → ℕ) (j q v : ℕ) → b.repairing ≡ true → Unsettled b j →
    (b.start j).data_at q ≡ Some v → settled b done e0 j q ≡ true → Formed b → Dead b → Later b →
    byte_before (after b (Repaired done e0)) b.count q ≡ v
end_with b done e0 j q v m u byte1 on f dead lt =
    let t : (b.start j).touch (b.layout.col q) ≡ true = (f j u.0).touches q v byte1 in
    chain_quiet (λ i. settled b done e0 i q) (λ i. (b.start i).data_at q) (j + 1) b.count (grind (arith, u.0))
    (λ i low high. elim (bytes_end b j i q u (omega arith) high t f dead lt) [
      | inr n ↦ inr n
      | inl off ↦ elim (cases_Bool (ended b i)) [
        | inr no_ ↦ inl (rw no_ off)
        | inl yes_ ↦ let w = ended_unsettled b i high m yes_ in elim (byte_or_touch b i q high f) [
          | inl n ↦ inr n
          | inr ti ↦ let same = one_writer b i j (b.layout.col q) w u f lt ti t in absurd (grind (arith, low, same))
        ]
      ]
    ])
    ∙ chain-next _ _ j ∙ ap (λ y. over y ((b.start j).data_at q) (byte_before (after b (Repaired done e0)) j q)) on
    ∙ ap (λ y. over true y (byte_before (after b (Repaired done e0)) j q)) byte1
