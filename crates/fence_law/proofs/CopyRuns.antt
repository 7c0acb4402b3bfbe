-- The example runs of the file of three copies are lawful by computation; one shows what "lost" must mean.
use Rattle.std.proofs.Common.{◌≡◌, ℕ, zero, suc, ◌<◌, Bool, true, false, ◌==◌, ◌||◌, Some, None, ◌⊎◌, refl, sym, ap, ◌∙◌, inl, inr, arith}
use Rattle.std.proofs.lemmas.Bool.{true≢false}
use Rattle.fence_law.specs.Words.{updated}
use Rattle.fence_law.specs.State.{Grant}
use Rattle.fence_law.specs.Machine.{Lawful, after_all, new_file_state}
use Rattle.fence_law.specs.State.{PartState}
use Rattle.fence_law.specs.Columns.{only}
use Rattle.fence_law.specs.State.PartState.{NotSent, Sent, Done}
use Rattle.fence_law.specs.Runs.{reported, lease, first_cells, tripled, copied_on, IsMeantThen, never}
use Rattle.fence_law.proofs.Words.{updated_at, updated_other, updated_read}
use Rattle.fence_law.proofs.SmallFiles.{three_cases, byte_place, lands_first, hits_first, at_first_zero, byte_low, sees_triple, shown_first, tripled_code, misses_plain, calms_plain}

lawful_copied : Lawful (new_file_state tripled) copied_on
unfolding updated
lawful_copied = (
  record { free = refl; home = refl; none = refl; idle = refl },
  (
    record {
      new = omega arith;
      asks = inl refl;
      over = refl;
      repaired = refl;
      none = refl;
      apart = λ d g e. absurd (cc e);
      apart_ext = λ d g e. absurd (cc e);
    },
    (
      record { waits = refl; comes = inl refl },
      (
        record { has = refl; idle = refl; within = λ x r. refl; reaches = λ p w. refl },
        (
          record {
            some = (0, 1, refl, refl);
            ends = λ p v e. (byte_place 1 p v e).1;
            room = inl refl;
            has = refl;
            may = refl;
            gathers = refl;
            gathered = λ x t. refl;
            touches = λ p v e. (byte_place 1 p v e).0;
            hits = λ k z e. hits_first 3 k z e;
            lands = λ p v e. (0, 0, refl, lands_first 1 p v e);
            misses = λ k z a lf n e. misses_plain 1 k z a n e;
            bytes = λ p v e. byte_low 1 p v (omega arith) e;
            sees = λ k z h e bs g. sees_triple 1 k z h e;
          },
          (
            record { new = omega arith; runs = refl; has = refl; listed = refl; first = refl },
            (
              record { comes = inl refl; there = omega arith; stands = refl; here = refl; right = refl; new = omega arith },
              (
                record { over = refl },
                (
                  inl refl,
                  (
                    inl refl,
                    (
                      inl refl,
                      (
                        record {
                          runs = refl;
                          first = refl;
                          all = three_cases _ (inr (inr (inr (inl refl)))) (inr (inr (inl refl))) (inr (inl refl));
                        },
                        (
                          record {
                            at_work = refl;
                            stands = refl;
                            all =
                                λ z q on c. (0, 0, rw (c ∙ at_first_zero z on) refl, refl, rw (c ∙ at_first_zero z on) refl);
                          },
                          (tt, tt),
                        ),
                      ),
                    ),
                  ),
                ),
              ),
            ),
          ),
        ),
      ),
    ),
  ),
)

-- the parts of a call that waits for its third
abbrev outs3 : ℕ → ℕ → PartState
outs3 =
    updated
    (updated
    (updated (updated (updated (λ k i. NotSent) 0 (updated (λ i. NotSent) 0 (Sent 1))) 1 (updated (λ i. NotSent) 0 (Sent 2))) 2
    (updated (λ i. NotSent) 0 (Sent 3))) 0 (updated (updated (λ i. NotSent) 0 (Sent 1)) 0 Done)) 1
    (updated (updated (λ i. NotSent) 0 (Sent 2)) 0 Done)

outs3_told : (k i v : ℕ) → outs3 k i ≡ Sent v → k ≡ 2
outs3_told k i v e =
    elim
    (updated_read
    (updated
    (updated (updated (updated (λ k2 i2. NotSent) 0 (updated (λ i2. NotSent) 0 (Sent 1))) 1 (updated (λ i2. NotSent) 0 (Sent 2)))
    2 (updated (λ i2. NotSent) 0 (Sent 3))) 0 (updated (updated (λ i2. NotSent) 0 (Sent 1)) 0 Done)) 1
    (updated (updated (λ i2. NotSent) 0 (Sent 2)) 0 Done) k).1 [
      | inl y ↦ absurd (part (Sent 2) (sym (ap (λ f. f i) y.1) ∙ e))
      | inr y ↦
          elim
          (updated_read
          (updated (updated (updated (λ k2 i2. NotSent) 0 (updated (λ i2. NotSent) 0 (Sent 1))) 1
          (updated (λ i2. NotSent) 0 (Sent 2))) 2 (updated (λ i2. NotSent) 0 (Sent 3))) 0
          (updated (updated (λ i2. NotSent) 0 (Sent 1)) 0 Done) k).1 [
            | inl x ↦ absurd (part (Sent 1) (sym (ap (λ f. f i) (y.1 ∙ x.1)) ∙ e))
            | inr x ↦
                elim
                (updated_read
                (updated (updated (λ k2 i2. NotSent) 0 (updated (λ i2. NotSent) 0 (Sent 1))) 1
                (updated (λ i2. NotSent) 0 (Sent 2))) 2
                (updated (λ i2. NotSent) 0 (Sent 3)) k).1 [
                  | inl w ↦ w.0
                  | inr w ↦
                      absurd
                      (let z : NotSent ≡ Sent v =
                      sym
                      (ap (λ f. f i) (y.1 ∙ x.1 ∙ w.1
                      ∙ updated_other (updated (λ k2 i2. NotSent) 0 (updated (λ i2. NotSent) 0 (Sent 1))) 1 _ k y.0
                      ∙ updated_other (λ k2 i2. NotSent) 0 _ k x.0)) ∙ e in cc z)
                ]
          ]
    ]
  where
    part : (x : PartState) → updated (updated (λ i2. NotSent) 0 x) 0 Done i ≡ Sent v → ⊥
    part x f = elim (updated_read (updated (λ i2. NotSent) 0 x) 0 Done i).1 [
      | inl y ↦ let z : Done ≡ Sent v = sym y.1 ∙ f in cc z
      | inr y ↦ let z : NotSent ≡ Sent v = sym (updated_other (λ i2. NotSent) 0 x i y.0) ∙ sym y.1 ∙ f in cc z
    ]

outs3_all : (t x k z v : ℕ) → only (first_cells 3 k z) x ≡ Some v →
    (outs3 k 0 ≡ Done) ⊎ ((updated never 2 true k ≡ true) × (t ≡ t))
unfolding updated
outs3_all t x zero zero v e = inl refl
outs3_all t x (suc zero) zero v e = inl refl
outs3_all t x (suc (suc zero)) zero v e = inr (refl, refl)
outs3_all t x (suc (suc (suc k))) zero v e = absurd (cc e)
outs3_all t x k (suc z) v e = absurd (cc e)

pub lawful_reported : Lawful (new_file_state tripled) reported
unfolding updated
lawful_reported = (
  record { free = refl; home = refl; none = refl; idle = refl },
  (
    record {
      new = omega arith;
      asks = inl refl;
      over = refl;
      repaired = refl;
      none = refl;
      apart = λ d g e. absurd (cc e);
      apart_ext = λ d g e. absurd (cc e);
    },
    (
      record { waits = refl; comes = inl refl },
      (
        record { has = refl; idle = refl; within = λ x r. refl; reaches = λ p w. refl },
        (
          record {
            some = (0, 7, refl, refl);
            ends = λ p v e. (byte_place 7 p v e).1;
            room = inl refl;
            has = refl;
            may = refl;
            gathers = refl;
            gathered = λ x t. refl;
            touches = λ p v e. (byte_place 7 p v e).0;
            hits = λ k z e. hits_first 3 k z e;
            lands = λ p v e. (0, 0, refl, lands_first 7 p v e);
            misses = λ k z a lf n e. misses_plain 7 k z a n e;
            bytes = λ p v e. byte_low 7 p v (omega arith) e;
            sees = λ k z h e bs g. sees_triple 7 k z h e;
          },
          (
            record { new = omega arith; runs = refl; has = refl; listed = refl; first = refl },
            (
              record { new = omega arith; runs = refl; has = refl; listed = refl; first = refl },
              (
                record { new = omega arith; runs = refl; has = refl; listed = refl; first = refl },
                (
                  record {
                    comes = inr (inr (inl refl));
                    there = omega arith;
                    stands = refl;
                    here = refl;
                    right = refl;
                    new = omega arith;
                  },
                  (
                    record {
                      comes = inr (inl refl);
                      there = omega arith;
                      stands = refl;
                      here = refl;
                      right = refl;
                      new = omega arith;
                    },
                    (
                      record { runs = refl; sent = refl; comes = inr (inl refl) },
                      (
                        record { runs = refl; sent = refl; comes = inl refl },
                        (
                          record { free = refl; home = refl },
                          (
                            record { runs = refl; plain = refl },
                            (
                              record { free = refl; out = refl; next = refl },
                              (
                                record { asks = refl; live = refl; extending = refl; over = refl },
                                (
                                  record { out = refl; served = refl },
                                  (
                                    refl,
                                    (
                                      record { free = refl; home = refl },
                                      (
                                        record { free = refl; out = refl; next = refl },
                                        (
                                          record {
                                            over = refl;
                                            repaired = refl;
                                            has = (_, refl);
                                            only = λ d ne. updated_other (λ y. None) 0 (Some (lease 1 1 true true)) d ne;
                                          },
                                          (
                                            record {
                                              runs = refl;
                                              plain = refl;
                                              fits = inr refl;
                                              told = λ k i v e. gone_third k
                                                  (outs3_told k i v e);
                                              all = λ k z v e. outs3_all 1 _ k z v e;
                                            },
                                            (
                                              record { has = refl; idle = refl },
                                              (
                                                record { out = refl; served = refl },
                                                (
                                                  record { low = omega arith; on = refl },
                                                  (
                                                    record { free = refl; home = refl; none = refl; idle = refl },
                                                    (
                                                      record {
                                                        new = omega arith;
                                                        asks = inl refl;
                                                        over = refl;
                                                        repaired = refl;
                                                        none = refl;
                                                        apart = λ d g e. absurd (none_left d g e);
                                                        apart_ext = λ d g e. absurd (none_left d g e);
                                                      },
                                                      (
                                                        record { waits = refl; comes = inl refl },
                                                        (
                                                          record {
                                                            comes = inl refl;
                                                            there = omega arith;
                                                            lost = refl;
                                                            right = refl;
                                                            new = omega arith;
                                                          },
                                                          (
                                                            record {
                                                              has = refl;
                                                              idle = refl;
                                                              within = λ x r. refl;
                                                              reaches = λ p w. refl;
                                                            },
                                                            (
                                                              record {
                                                                client = refl;
                                                                in_log = omega arith;
                                                                right = refl;
                                                                there = omega arith;
                                                                stands = refl;
                                                              },
                                                              (
                                                                record {
                                                                  runs = refl;
                                                                  told = (_, inl refl, refl);
                                                                  all =
                                                                      λ p w d bs ag. shown_first 7
                                                                      ((after_all (new_file_state tripled) reported).cell 0) d
                                                                      refl p
                                                                      w (ag _ (inl refl) refl p refl refl);
                                                                },
                                                                tt,
                                                              ),
                                                            ),
                                                          ),
                                                        ),
                                                      ),
                                                    ),
                                                  ),
                                                ),
                                              ),
                                            ),
                                          ),
                                        ),
                                      ),
                                    ),
                                  ),
                                ),
                              ),
                            ),
                          ),
                        ),
                      ),
                    ),
                  ),
                ),
              ),
            ),
          ),
        ),
      ),
    ),
  ),
)
  where
    gone_third : (k : ℕ) → k ≡ 2 → updated never 2 true k ≡ true
    gone_third k e = updated_at never 2 true k e

    none_left : (d : ℕ) (g : Grant) → updated (updated (λ y. None) 0 (Some (lease 1 1 true true))) 0 None d ≡ Some g → ⊥
    none_left d g e = elim (updated_read (updated (λ y. None) 0 (Some (lease 1 1 true true))) 0 None d).1 [
      | inl w ↦ let z : None ≡ Some g = sym w.1 ∙ e in cc z
      | inr w ↦ let z : None ≡ Some g = sym (updated_other (λ y. None) 0 (Some (lease 1 1 true true)) d w.0) ∙ sym w.1 ∙ e in cc z
    ]

row_other : (k z : ℕ) → (after_all (new_file_state tripled) copied_on).applied 1 (suc k) z ≡ false
unfolding updated
row_other k z =
    ap (λ (y : ℕ → Bool). y z) (updated_other (λ f y. false) 0 (λ y. false || (0 == 0)) (suc k) (λ e. absurd (omega (arith, e))))

-- the only part that was performed stands on a component that is lost
none_now : (j k z : ℕ) → j < 3 → ((after_all (new_file_state tripled) copied_on).start j).is_write ≡ true →
    (after_all (new_file_state tripled) copied_on).applied j k z ≡ true →
    (after_all (new_file_state tripled) copied_on).lost k ≡ false → ⊥
unfolding updated
none_now zero k z l w a lo = true≢false (sym w)
none_now (suc zero) zero z l w a lo = true≢false lo
none_now (suc zero) (suc k) z l w a lo = true≢false (sym a ∙ row_other k z)
none_now (suc (suc zero)) k z l w a lo = true≢false (sym w)
none_now (suc (suc (suc j))) k z l w a lo = absurd (omega (arith, l))

pub is_meant_then : IsMeantThen
unfolding updated
is_meant_then h = let d =
    h tripled copied_on 0 tripled_code lawful_copied (calms_plain (new_file_state tripled) copied_on (λ x. refl))
    (λ t. none_now t.0 t.1 t.2 t.5 t.6 t.11 t.12) in
    let one : 1 ≡ d.0 0 = d.1 1 0 refl refl refl in let zero1 : 0 ≡ d.0 0 = d.1 2 0 refl refl refl in
    absurd (grind (arith, one, zero1))
