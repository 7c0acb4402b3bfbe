-- The example runs of the file with parity are lawful by computation.
use Rattle.std.proofs.Common.{ℕ, true, [], ◌∷◌, ◌++◌, refl, ◌∙◌, inl, inr, arith}
use Rattle.std.proofs.lemmas.Bool.{eq-eqb, true≢false}
use Rattle.fence_law.specs.Words.{updated}
use Rattle.fence_law.specs.State.{State}
use Rattle.fence_law.specs.Machine.{Lawful, after, after_all, new_file_state}
use Rattle.fence_law.specs.State.Event.{Fences, SetsTag, Fenced, StartsWrite, Sends, Performs, StartsRead, Repairs}
use Rattle.fence_law.specs.Runs.{lease, message, always, at_first, byte, file, nothing, one_part, first_cells, doubled, written_41, stopped, late, cut_off}
use Rattle.fence_law.proofs.SmallFiles.{Keeps, AllKeep, two_cases, byte_place, lands_first, hits_first, misses_double, at_first_zero, byte_low, sees_double, outs_told, outs_all, four_cells, shown_first}

pub lawful_41 : Lawful (new_file_state doubled) written_41
unfolding updated
lawful_41 = (
  record { free = refl; home = refl; none = refl; idle = refl },
  (
    record {
      new = omega arith;
      asks = inl refl;
      over = refl;
      repaired = refl;
      none = refl;
      apart = λ d g e. absurd (cc e);
      apart_ext = λ d g e. absurd (cc e);
    },
    (
      record { waits = refl; comes = inl refl },
      (
        record { has = refl; idle = refl; within = λ x r. refl; reaches = λ p w. refl },
        (
          record {
            some = (0, 41, refl, refl);
            ends = λ p v e. (byte_place 41 p v e).1;
            room = inl refl;
            has = refl;
            may = refl;
            gathers = refl;
            gathered = λ x t. refl;
            touches = λ p v e. (byte_place 41 p v e).0;
            hits = λ k z e. hits_first 2 k z e;
            lands = λ p v e. (0, 0, refl, lands_first 41 p v e);
            misses = λ k z a lf n e. misses_double 41 k z a n e;
            bytes = λ p v e. byte_low 41 p v (omega arith) e;
            sees = λ k z h e bs g. sees_double 41 k z h e;
          },
          (
            record { new = omega arith; runs = refl; has = refl; listed = refl; first = refl },
            (
              record { new = omega arith; runs = refl; has = refl; listed = refl; first = refl },
              (
                record
                    { comes = inr (inl refl); there = omega arith; stands = refl; here = refl; right = refl; new = omega arith },
                (
                  record { comes = inl refl; there = omega arith; stands = refl; here = refl; right = refl; new = omega arith },
                  (
                    record { runs = refl; sent = refl; comes = inr (inl refl) },
                    (
                      record { runs = refl; sent = refl; comes = inl refl },
                      (
                        record { free = refl; home = refl },
                        (
                          record { runs = refl; plain = refl },
                          (
                            record { free = refl; out = refl; next = refl },
                            (
                              record { asks = refl; live = refl; extending = refl; over = refl },
                              (
                                record { out = refl; served = refl },
                                (
                                  refl,
                                  (
                                    record {
                                      runs = refl;
                                      plain = refl;
                                      fits = inr refl;
                                      told = λ k i v e. absurd
                                          (outs_told 1 2 k i v e);
                                      all = λ k z v e. inl (outs_all 1 2 _ k z v e);
                                    },
                                    (record { low = omega arith; on = refl }, tt),
                                  ),
                                ),
                              ),
                            ),
                          ),
                        ),
                      ),
                    ),
                  ),
                ),
              ),
            ),
          ),
        ),
      ),
    ),
  ),
)

-- the state when the repair begins
abbrev at_repair : State
at_repair =
    after_all (after_all (new_file_state doubled) written_41)
    (StartsRead 0 (lease 1 1 true true) 0 0 always ∷ StartsWrite 0 (lease 1 1 true true) 2 (byte 42) at_first (first_cells 2)
    nothing 1 one_part ∷
    Sends 0 0 (lease 1 1 true true) 3 0 3 ∷ Performs (message 0 1 1 3 0 3) ∷ Fences ∷ SetsTag 0 ∷ SetsTag 1 ∷ Fenced ∷ [])

abbrev after_repair : State
after_repair = after at_repair (Repairs 1 at_first (file 42))

abbrev pub both_written : State
both_written =
    after_all (after_all (new_file_state doubled) written_41)
    (StartsRead 0 (lease 1 1 true true) 0 0 always ∷ StartsWrite 0 (lease 1 1 true true) 2 (byte 42) at_first (first_cells 2)
    nothing 1 one_part ∷
    Sends 0 0 (lease 1 1 true true) 3 0 3 ∷ Sends 0 1 (lease 1 1 true true) 3 0 4 ∷ Performs (message 0 1 1 3 0 3) ∷ Performs
    (message 0 1 1 4 1 3) ∷ [])

abbrev pub written_43 : ℕ → ℕ
written_43 = (after_all (new_file_state doubled) (written_41 ++ late)).cell 0

pub lawful_stopped : Lawful (after_all (new_file_state doubled) written_41) stopped
unfolding updated
lawful_stopped = (
  record { has = refl; idle = refl; within = λ x r. refl; reaches = λ p w. refl },
  (
    record {
      some = (0, 42, refl, refl);
      ends = λ p v e. (byte_place 42 p v e).1;
      room = inl refl;
      has = refl;
      may = refl;
      gathers = refl;
      gathered = λ x t. refl;
      touches = λ p v e. (byte_place 42 p v e).0;
      hits = λ k z e. hits_first 2 k z e;
      lands = λ p v e. (0, 0, refl, lands_first 42 p v e);
      misses = λ k z a lf n e. misses_double 42 k z a n e;
      bytes = λ p v e. byte_low 42 p v (omega arith) e;
      sees = λ k z h e bs g. sees_double 42 k z h e;
    },
    (
      record { new = omega arith; runs = refl; has = refl; listed = refl; first = refl },
      (
        record { comes = inl refl; there = omega arith; stands = refl; here = refl; right = refl; new = omega arith },
        (
          record { over = refl },
          (
            inl refl,
            (
              inl refl,
              (
                record { runs = refl; first = refl; all = two_cases _ (inr (inr (inl refl))) (inr (inl refl)) },
                (
                  record {
                    at_work = refl;
                    stands = refl;
                    all = λ z q on c. (0, 0, rw (c ∙ at_first_zero z on) refl, refl, rw (c ∙ at_first_zero z on) refl);
                  },
                  (
                    record {
                      runs = refl;
                      left = λ x d. absurd (true≢false d);
                      right = λ x d k z is here l. four_cells after_repair.cell 42 refl (λ y. refl) refl (λ y. refl) k z is;
                      copies = λ q d. (0, q, rw (eq-eqb q q refl) refl, refl);
                    },
                    (
                      record { free = refl; home = refl; none = refl; idle = refl },
                      (
                        record {
                          new = omega arith;
                          asks = inl refl;
                          over = refl;
                          repaired = refl;
                          none = refl;
                          apart = λ d g e.
                              absurd (cc e);
                          apart_ext = λ d g e. absurd (cc e);
                        },
                        (
                          record { waits = refl; comes = inl refl },
                          (
                            record { has = refl; idle = refl; within = λ x r. refl; reaches = λ p w. refl },
                            (
                              record { client = refl; in_log = omega arith; right = refl; there = omega arith; stands = refl },
                              (
                                record {
                                  runs = refl;
                                  told = (_, inl refl, refl);
                                  all = λ p w d bs ag. shown_first 42
                                      (after_repair.cell 0) d refl p w (ag _ (inl refl) refl p refl refl);
                                },
                                tt,
                              ),
                            ),
                          ),
                        ),
                      ),
                    ),
                  ),
                ),
              ),
            ),
          ),
        ),
      ),
    ),
  ),
)

-- the state when the late WRITE of the repair was performed
abbrev after_late_repair : State
after_late_repair = after (after_all at_repair (Fences ∷ SetsTag 0 ∷ [])) (Repairs 1 at_first (file 42))

pub lawful_cut_off : Lawful (after_all (new_file_state doubled) written_41) cut_off
unfolding updated
lawful_cut_off = (
  record { has = refl; idle = refl; within = λ x r. refl; reaches = λ p w. refl },
  (
    record {
      some = (0, 42, refl, refl);
      ends = λ p v e. (byte_place 42 p v e).1;
      room = inl refl;
      has = refl;
      may = refl;
      gathers = refl;
      gathered = λ x t. refl;
      touches = λ p v e. (byte_place 42 p v e).0;
      hits = λ k z e. hits_first 2 k z e;
      lands = λ p v e. (0, 0, refl, lands_first 42 p v e);
      misses = λ k z a lf n e. misses_double 42 k z a n e;
      bytes = λ p v e. byte_low 42 p v (omega arith) e;
      sees = λ k z h e bs g. sees_double 42 k z h e;
    },
    (
      record { new = omega arith; runs = refl; has = refl; listed = refl; first = refl },
      (
        record { comes = inl refl; there = omega arith; stands = refl; here = refl; right = refl; new = omega arith },
        (
          record { over = refl },
          (
            inl refl,
            (
              inl refl,
              (
                record { runs = refl; first = refl; all = two_cases _ (inr (inr (inl refl))) (inr (inl refl)) },
                (
                  record { over = refl },
                  (
                    inl refl,
                    (
                      record {
                        at_work = refl;
                        stands = refl;
                        all = λ z q on c. (0, 0, rw (c ∙ at_first_zero z on) refl, refl, rw (c ∙ at_first_zero z on) refl);
                      },
                      (
                        inl refl,
                        (
                          record { runs = refl; again = refl; all = two_cases _ (inr (inr (inl refl))) (inr (inl refl)) },
                          (
                            record {
                              runs = refl;
                              left = λ x d. absurd (true≢false d);
                              right =
                                  λ x d k z is here l. four_cells after_late_repair.cell 42 refl (λ y. refl) refl
                                  (λ y. refl) k z is;
                              copies = λ q d. (0, q, rw (eq-eqb q q refl) refl, refl);
                            },
                            (
                              record { free = refl; home = refl; none = refl; idle = refl },
                              (
                                record {
                                  new = omega arith;
                                  asks = inl refl;
                                  over = refl;
                                  repaired = refl;
                                  none = refl;
                                  apart = λ d g e. absurd (cc e);
                                  apart_ext = λ d g e. absurd (cc e);
                                },
                                (
                                  record { waits = refl; comes = inl refl },
                                  (
                                    record { has = refl; idle = refl; within = λ x r. refl; reaches = λ p w. refl },
                                    (
                                      record {
                                        client = refl;
                                        in_log = omega arith;
                                        right = refl;
                                        there = omega arith;
                                        stands = refl;
                                      },
                                      (
                                        record {
                                          runs = refl;
                                          told = (_, inl refl, refl);
                                          all = λ p w d bs ag. shown_first 42
                                              (after_late_repair.cell 0) d refl p w (ag _ (inl refl) refl p refl refl);
                                        },
                                        tt,
                                      ),
                                    ),
                                  ),
                                ),
                              ),
                            ),
                          ),
                        ),
                      ),
                    ),
                  ),
                ),
              ),
            ),
          ),
        ),
      ),
    ),
  ),
)

-- none of their events loses a component
pub keep_41 : AllKeep written_41
unfolding Keeps
keep_41 = (tt, (tt, (tt, (tt, (tt, (tt, (tt, (tt, (tt, (tt, (tt, (tt, (tt, (tt, (tt, (tt, (tt, (tt, (tt, tt)))))))))))))))))))

pub keep_stopped : AllKeep stopped
unfolding Keeps
keep_stopped = (tt, (tt, (tt, (tt, (tt, (tt, (tt, (tt, (tt, (tt, (tt, (tt, (tt, (tt, (tt, (tt, tt))))))))))))))))

pub keep_cut_off : AllKeep cut_off
unfolding Keeps
keep_cut_off =
    (tt, (tt, (tt, (tt, (tt, (tt, (tt, (tt, (tt, (tt, (tt, (tt, (tt, (tt, (tt, (tt, (tt, (tt, (tt, (tt, tt))))))))))))))))))))
