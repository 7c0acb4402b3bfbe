-- Kept: a replica that isn't gone holds what the log leaves, or the byte of an unsettled write.
-- A repair takes each byte from a replica, so it is old or new, whatever the mixture.
use Rattle.std.proofs.Common.{◌≡◌, ℕ, ◌+◌, Bool, true, false, ◌&&◌, ◌==◌, Option, Some, None, ◌⊎◌, refl, sym, ap, ◌∙◌, inl, inr, arith}
use Rattle.std.proofs.lemmas.Bool.{cases_Bool, and_right, eq-eqb, cases_eq, true≢false}
use Rattle.fence_law.specs.Words.{updated, over}
use Rattle.fence_law.specs.State.{State, Write, Start}
use Rattle.fence_law.specs.Columns.{overlaid, only}
use Rattle.fence_law.specs.Starts.{repair_start, rebuilt_start, performed}
use Rattle.fence_law.specs.Machine.{Allowed, after}
use Rattle.fence_law.specs.State.Event.{Performs, Acknowledges, Repairs, Rebuilds}
use Rattle.fence_law.specs.Law.{byte_before, cell_before, IsCode}
use Rattle.fence_law.proofs.Words.{updated_at, updated_other, updated_same}
use Rattle.fence_law.proofs.Parts.{pf_row, pf_hit, hit_case, pf_grows}
use Rattle.fence_law.proofs.Commands.{Calls}
use Rattle.fence_law.proofs.Chains.{chain-next, chain_cares, chain_quiet, over_none}
use Rattle.fence_law.proofs.Formed.{added, Formed, Running}
use Rattle.fence_law.proofs.Open.{Dead, Open}
use Rattle.fence_law.proofs.Acked.{Known_done, acks_here, option_cases}
use Rattle.fence_law.proofs.Later.{Unsettled, open_unsettled, Later, Unserved, pay_or_touch, bytes_end}
use Rattle.fence_law.proofs.Chosen.{old_apart, three, Chosen_open, Late_ack, acks_same}
use Rattle.fence_law.proofs.Held.{at_new, ct_new, ct_performs, ct_open, Cells}
use Rattle.fence_law.proofs.Sound.{Sound}
use Rattle.fence_law.proofs.AllWord.{All_word}

-- this is the byte of an unsettled write of which something was performed in the byte's column
abbrev pub Newer : State → ℕ → ℕ → Type 0
Newer b p x = (j v f y u : ℕ) × Unsettled b j × ((b.start j).data_at p ≡ Some v) × ((b.start j).content f y ≡ Some u)
    × (b.layout.cell_col f y ≡ b.layout.col p) × (b.layout.is_cell f y ≡ true) × (b.applied j f y ≡ true) × (x ≡ v)

-- each copy of a byte that isn't lost holds what the log leaves there, or the byte of an unsettled write
abbrev pub Mixed : State → Type 0
Mixed b = (k z p : ℕ) → b.layout.copy k z p ≡ true → b.gone k ≡ false →
    (cell_before b b.count k z ≡ byte_before b b.count p) ⊎ Newer b p (cell_before b b.count k z)

newer_added : (b : State) (s : Start) (row : ℕ → ℕ → Bool) (p x y : ℕ) → y ≡ x → Newer b p x → Newer (added b s row) p y
newer_added b s row p x y same w =
    let ne : w.0 ≡ b.count → ⊥ = grind (arith, w.5) in let st = updated_other b.start b.count s w.0 ne in (
      w.0,
      w.1,
      w.2,
      w.3,
      w.4,
      (grind (arith, w.5), rw st w.5.1, rw st w.5.2, updated_other b.acknowledged b.count false w.0 ne ∙ w.5.3, rw st w.5.4),
      rw st w.6,
      rw st w.7,
      w.8,
      w.9,
      ap (λ f. f w.2 w.3) (updated_other b.applied b.count row w.0 ne) ∙ w.10,
      same ∙ w.11,
    )

pub mixed_added : (b : State) (s : Start) (row : ℕ → ℕ → Bool) (k z p : ℕ) →
    (cell_before (added b s row) (b.count + 1) k z ≡ cell_before b b.count k z) →
    ((cell_before b b.count k z ≡ byte_before b b.count p) ⊎ Newer b p (cell_before b b.count k z)) →
    (cell_before (added b s row) (b.count + 1) k z ≡ byte_before (added b s row) (b.count + 1) p)
    ⊎ Newer (added b s row) p (cell_before (added b s row) (b.count + 1) k z)
mixed_added b s row k z p same h =
    elim h [ inl e ↦ inl (same ∙ e ∙ sym (at_new b s row p)) | inr w ↦ inr (newer_added b s row p _ _ same w) ]

pub mixed_mends : (b : State) (k0 : ℕ) (which : ℕ → Bool) (e0 : ℕ → ℕ) → Allowed b (Repairs k0 which e0) → IsCode b.layout →
    Cells b → Mixed b → Mixed (after b (Repairs k0 which e0))
mixed_mends b k0 which e0 a code cells h k z p c l = let s : Start = repair_start b k0 which e0 in
    let row : ℕ → ℕ → Bool = λ f y. updated (λ w. false) k0 true f in let law = code.copies k z p c in
    elim (cases_eq k k0) [
      | inr ne ↦
          mixed_added b s row k z p (ct_new b s row k z
          ∙ ap (λ y. over y (s.content k z) (cell_before b b.count k z)) (updated_other (λ f. false) k0 true k ne)) (h k z p c l)
      | inl e ↦ elim (cases_Bool (which z)) [
        | inr ne ↦
            mixed_added b s row k z p (ct_new b s row k z
            ∙ ap (λ y. over y (s.content k z) (cell_before b b.count k z)) (updated_at (λ f. false) k0 true k e) ∙
            over_none true (s.content k z) _ (rw ne (only_off ((k == k0) && false) _ (and_right (k == k0) false refl))))
            (h k z p c l)
        | inl ez ↦
            let new : cell_before (added b s row) (b.count + 1) k z ≡ b.layout.word k0 z e0 =
            ct_new b s row k z
            ∙ ap (λ y. over y (s.content k z) (cell_before b b.count k z)) (updated_at (λ f. false) k0 true k e) ∙
            ap (λ o. over true o (cell_before b b.count k z)) (pay_here e ez) in
            let word1 : b.layout.word k0 z e0 ≡ e0 p = ap (λ y. b.layout.word y z e0) (sym e) ∙ law.2 e0 in
            let src = a.all z p ez (sym law.1 ∙ ap (λ y. b.layout.cell_col y z) e) in
            let val : cell_before (added b s row) (b.count + 1) k z ≡ cell_before b b.count src.0 src.1 =
            new ∙ word1 ∙ src.4 ∙ cells src.0 src.1 src.3 in
            elim (h src.0 src.1 p src.2 src.3) [
              | inl y ↦ inl (val ∙ y ∙ sym (at_new b s row p))
              | inr w ↦ inr (newer_added b s row p _ _ val w)
            ]
      ]
    ]
  where
    only_off : (w : Bool) (v : ℕ) → w ≡ false → only w v ≡ None
    only_off true v e = absurd (true≢false e)
    only_off false v e = refl

    pay_here : k ≡ k0 → which z ≡ true → only ((k == k0) && which z) (b.layout.word k0 z e0) ≡ Some (b.layout.word k0 z e0)
    pay_here e ez = rw (eq-eqb k k0 e, ez) refl

pub mixed_rebuilds : (b : State) (k0 : ℕ) (cells : ℕ → ℕ) →
    ((z : ℕ) → b.layout.is_cell k0 z ≡ true → cells z ≡ b.layout.word k0 z (byte_before b b.count)) → IsCode b.layout → Mixed b →
    Mixed (after b (Rebuilds k0 cells))
mixed_rebuilds b k0 cells right code h k z p c l = let s : Start = rebuilt_start b k0 cells in
    let row : ℕ → ℕ → Bool = λ f y. updated (λ w. false) k0 true f in let law = code.copies k z p c in
    elim (cases_eq k k0) [
      | inr ne ↦
          mixed_added b s row k z p (ct_new b s row k z
          ∙ ap (λ y. over y (s.content k z) (cell_before b b.count k z)) (updated_other (λ f. false) k0 true k ne))
          (h k z p c (sym (updated_other b.gone k0 false k ne) ∙ l))
      | inl e ↦
          inl (ct_new b s row k z
          ∙ ap (λ y. over y (s.content k z) (cell_before b b.count k z)) (updated_at (λ f. false) k0 true k e)
          ∙ ap (λ o. over true o (cell_before b b.count k z)) (pay_here e) ∙
          right z (ap (λ y. b.layout.is_cell y z) (sym e) ∙ law.0) ∙ ap (λ y. b.layout.word y z (byte_before b b.count)) (sym e)
          ∙ law.2 (byte_before b b.count) ∙ sym (at_new b s row p))
    ]
  where
    pay_here : k ≡ k0 → only (k == k0) (cells z) ≡ Some (cells z)
    pay_here e = rw (eq-eqb k k0 e) refl

pub mixed_performs : (b : State) (m : Write) → Open b m.entry → IsCode b.layout → Formed b → Dead b → Later b → Unserved b →
    Chosen_open b → Sound b → Mixed b → Mixed (after b (Performs m))
mixed_performs b m o code f dead lt us co sound h k z p c l = let law = code.copies k z p c in let s : Start = b.start m.entry in
    let still : (s.content k z ≡ None) ⊎ (performed b m m.entry k z ≡ b.applied m.entry k z) →
    (cell_before (after b (Performs m)) b.count k z ≡ byte_before b b.count p)
    ⊎ Newer (after b (Performs m)) p (cell_before (after b (Performs m)) b.count k z) =
    λ off. let same = ct_performs b m b.count k z (elim off [ inl n ↦ inl n | inr n ↦ inr (inr n) ]) in elim (h k z p c l) [
      | inl e ↦ inl (same ∙ e)
      | inr w ↦ inr (w.0, w.1, w.2, w.3, w.4, w.5, w.6, w.7, w.8, w.9, pf_grows b m w.0 w.2 w.3 w.10, same ∙ w.11)
    ] in
    elim (hit_case b m k z) [
      | inr s2 ↦ still (inr s2.0)
      | inl e ↦ option_cases (s.content k z) (λ n. still (inl n)) (λ v content.
          let t : s.touch (b.layout.cell_col k z) ≡ true =
          elim (pay_or_touch b m.entry k z o.0 f) [ inl n ↦ absurd (none_some v n content) | inr t ↦ t ] in
          let on : performed b m m.entry k z ≡ true = pf_hit b m m.entry k z refl e.0 e.1 in
          let value : cell_before (after b (Performs m)) b.count k z ≡ overlaid s.data_at (byte_before b m.entry) p =
          ct_open b (λ i. performed b m i k z) m.entry k z o t (λ i ne. ap (λ y. y k z) (pf_row b m i ne)) f dead lt us
          ∙ ap (λ y. over y (s.content k z) (cell_before b m.entry k z)) on
          ∙ ap (λ y. over true y (cell_before b m.entry k z)) content ∙ sound m.entry k z v o.0 o.1 o.2 content
          ∙ law.2 (overlaid s.data_at (byte_before b m.entry)) in
          option_cases (s.data_at p)
          (λ n. inl (value ∙ ap (λ y. over true y (byte_before b m.entry p)) n
          ∙ sym (chain_quiet (λ i. b.chosen i p) (λ i. (b.start i).data_at p) m.entry b.count (grind (arith, o.0))
          (λ i low high. elim (cases_eq i m.entry) [
            | inl y ↦ inr (ap (λ x. (b.start x).data_at p) y ∙ n)
            | inr ne ↦
                bytes_end b m.entry i p (open_unsettled b m.entry o) (omega arith) high (ap s.touch (sym law.1) ∙ t) f dead lt
          ]))))
          (λ u byte1. inr (
            m.entry,
            u,
            k,
            z,
            v,
            open_unsettled b m.entry o,
            byte1,
            content,
            law.1,
            law.0,
            on,
            value
                ∙ ap (λ y. over true y (byte_before b m.entry p)) byte1,
          )))
    ]
  where
    none_some : (v : ℕ) → (b.start m.entry).content k z ≡ None → (b.start m.entry).content k z ≡ Some v → ⊥
    none_some v n content = let e : None ≡ Some v = sym n ∙ content in cc e

-- after an acknowledgement an unsettled write's bytes stand
pub acked_byte : (b : State) (c i q v : ℕ) → Unsettled b i → (b.start i).data_at q ≡ Some v → Formed b → Dead b → Later b →
    byte_before (after b (Acknowledges c i)) b.count q ≡ v
acked_byte b c i q v u byte1 f dead lt = let t : (b.start i).touch (b.layout.col q) ≡ true = (f i u.0).touches q v byte1 in
    chain_quiet (λ j. updated b.chosen i (λ p. true) j q) (λ j. (b.start j).data_at q) (i + 1) b.count (grind (arith, u.0))
    (λ j low high. let ne : j ≡ i → ⊥ = omega arith in
    elim (bytes_end b i j q u (omega arith) high t f dead lt) [
      | inr n ↦ inr n
      | inl off ↦
          inl (ap (λ y. y q) (updated_other b.chosen i (λ p. true) j ne) ∙ off)
    ])
    ∙ chain-next _ _ i ∙ ap (λ y. over y ((b.start i).data_at q) (byte_before (after b (Acknowledges c i)) i q))
    (ap (λ y. y q) (updated_same b.chosen i (λ p. true)))
    ∙ ap (λ y. over true y (byte_before (after b (Acknowledges c i)) i q)) byte1

pub mixed_acks : (b : State) (c i : ℕ) → Allowed b (Acknowledges c i) → IsCode b.layout → Calls b → Running b → Formed b →
    Known_done b → Dead b → Late_ack b → Later b → All_word b → Mixed b → Mixed (after b (Acknowledges c i))
mixed_acks b c i a code r run f kd dead late lt aw h k z p cp l =
    let law = code.copies k z p cp in let low = (r.writes c i a.runs).below in let x = run.writes c i a.runs in
    let full = acks_here b c i a kd in
    let hits : (u : Unsettled b i) (v : ℕ) → (b.start i).data_at p ≡ Some v →
    cell_before b b.count k z ≡ byte_before (after b (Acknowledges c i)) b.count p =
    λ u v byte1. aw i k z u full (ap (b.start i).touch law.1 ∙ (f i low).touches p v byte1) law.0 l
    ∙ law.2 (overlaid (b.start i).data_at (byte_before b i)) ∙ ap (λ y. over true y (byte_before b i p)) byte1
    ∙ sym (acked_byte b c i p v u byte1 f dead lt) in
    let stays : ((Unsettled b i) → (b.start i).data_at p ≡ None) →
    byte_before (after b (Acknowledges c i)) b.count p ≡ byte_before b b.count p =
    λ none. chain_cares _ _ _ b.count (λ y l2. elim (cases_eq y i) [
      | inr ne ↦ inl (ap (λ w. w p) (updated_other b.chosen i (λ q. true) y ne))
      | inl e ↦ elim (three b i low x.0 x.1 f) [
        | inl u ↦ inr (ap (λ w. (b.start w).data_at p) e ∙ none u)
        | inr w ↦
            elim
            (acks_same b c i p a code r run f kd dead late
            (λ u. elim w [ inl o ↦ old_apart b i o u | inr d ↦ true≢false (sym u.2 ∙ d) ])) [
              | inl on ↦ inl (ap (λ w. w p) (updated_at b.chosen i (λ q. true) y e) ∙ sym (ap (λ w. b.chosen w p) e ∙ on))
              | inr n ↦ inr (ap (λ w. (b.start w).data_at p) e ∙ n)
            ]
      ]
    ]) in
    elim (three b i low x.0 x.1 f) [
      | inl u ↦ option_cases ((b.start i).data_at p)
          (λ n. rest (stays (λ z2. n)) n)
          (λ v byte1. inl (hits u v byte1))
      | inr w ↦
          old_rest (stays (λ u. absurd (elim w [ inl o ↦ old_apart b i o u | inr d ↦ true≢false (sym u.2 ∙ d) ])))
          (λ u. elim w [ inl o ↦ old_apart b i o u | inr d ↦ true≢false (sym u.2 ∙ d) ])
    ]
  where
    keep_other : (byte_before (after b (Acknowledges c i)) b.count p ≡ byte_before b b.count p) →
        ((j v : ℕ) → Unsettled b j → (b.start j).data_at p ≡ Some v → j ≡ i → ⊥) →
        (cell_before b b.count k z ≡ byte_before (after b (Acknowledges c i)) b.count p)
        ⊎ Newer (after b (Acknowledges c i)) p (cell_before b b.count k z)
    keep_other same ne = elim (h k z p cp l) [
      | inl e ↦ inl (e ∙ sym same)
      | inr w ↦
          inr (
            w.0,
            w.1,
            w.2,
            w.3,
            w.4,
            (w.5.0, w.5.1, w.5.2, updated_other b.acknowledged i true w.0 (ne w.0 w.1 w.5 w.6) ∙ w.5.3, w.5.4),
            w.6,
            w.7,
            w.8,
            w.9,
            w.10,
            w.11,
          )
    ]

    rest : (byte_before (after b (Acknowledges c i)) b.count p ≡ byte_before b b.count p) → (b.start i).data_at p ≡ None →
        (cell_before b b.count k z ≡ byte_before (after b (Acknowledges c i)) b.count p)
        ⊎ Newer (after b (Acknowledges c i)) p (cell_before b b.count k z)
    rest same n = keep_other same (λ j v u byte1 e. none_some v (ap (λ y. (b.start y).data_at p) e ∙ n) byte1)
      where
        none_some : {o : Option ℕ} (v : ℕ) → o ≡ None → o ≡ Some v → ⊥
        none_some v n2 s = let e : None ≡ Some v = sym n2 ∙ s in cc e

    old_rest : (byte_before (after b (Acknowledges c i)) b.count p ≡ byte_before b b.count p) → (Unsettled b i → ⊥) →
        (cell_before b b.count k z ≡ byte_before (after b (Acknowledges c i)) b.count p)
        ⊎ Newer (after b (Acknowledges c i)) p (cell_before b b.count k z)
    old_rest same none = keep_other same (λ j v u byte1 e. none (move u e))
      where
        move : {j : ℕ} → Unsettled b j → j ≡ i → Unsettled b i
        move u e = rw (← e) u
