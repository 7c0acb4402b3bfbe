-- The example run of the file with parity that goes on behind a late acknowledgement is lawful by computation.
use Rattle.std.proofs.Common.{refl, inl, inr, arith}
use Rattle.std.proofs.lemmas.Bool.{eq-eqb, true≢false}
use Rattle.fence_law.specs.Words.{updated}
use Rattle.fence_law.specs.Machine.{Lawful, after_all, new_file_state}
use Rattle.fence_law.specs.Runs.{doubled, written_41, late}
use Rattle.fence_law.proofs.SmallFiles.{Keeps, AllKeep, two_cases, byte_place, lands_first, hits_first, misses_double, byte_low, sees_double, outs_told, outs_all, four_cells, shown_first}
use Rattle.fence_law.proofs.ParityRuns.{both_written, written_43}

pub lawful_late : Lawful (after_all (new_file_state doubled) written_41) late
unfolding updated
lawful_late = (
  record { has = refl; idle = refl; within = λ x r. refl; reaches = λ p w. refl },
  (
    record {
      some = (0, 42, refl, refl);
      ends = λ p v e. (byte_place 42 p v e).1;
      room = inl refl;
      has = refl;
      may = refl;
      gathers = refl;
      gathered = λ x t. refl;
      touches = λ p v e. (byte_place 42 p v e).0;
      hits = λ k z e. hits_first 2 k z e;
      lands = λ p v e. (0, 0, refl, lands_first 42 p v e);
      misses = λ k z a lf n e. misses_double 42 k z a n e;
      bytes = λ p v e. byte_low 42 p v (omega arith) e;
      sees = λ k z h e bs g. sees_double 42 k z h e;
    },
    (
      record { new = omega arith; runs = refl; has = refl; listed = refl; first = refl },
      (
        record { new = omega arith; runs = refl; has = refl; listed = refl; first = refl },
        (
          record { comes = inr (inl refl); there = omega arith; stands = refl; here = refl; right = refl; new = omega arith },
          (
            record { comes = inl refl; there = omega arith; stands = refl; here = refl; right = refl; new = omega arith },
            (
              record { over = refl },
              (
                inl refl,
                (
                  inl refl,
                  (
                    record { runs = refl; first = refl; all = two_cases _ (inr (inr (inl refl))) (inr (inl refl)) },
                    (
                      record {
                        runs = refl;
                        left = λ x d. absurd (true≢false d);
                        right = λ x d k z is here l. four_cells both_written.cell 42 refl (λ y. refl) refl (λ y. refl) k z is;
                        copies = λ q d. (0, q, rw (eq-eqb q q refl) refl, refl);
                      },
                      (
                        record { free = refl; home = refl; none = refl; idle = refl },
                        (
                          record {
                            new = omega arith;
                            asks = inl refl;
                            over = refl;
                            repaired = refl;
                            none = refl;
                            apart = λ d g e.
                                absurd (cc e);
                            apart_ext = λ d g e. absurd (cc e);
                          },
                          (
                            record { waits = refl; comes = inl refl },
                            (
                              record { has = refl; idle = refl; within = λ x r. refl; reaches = λ p w. refl },
                              (
                                record {
                                  some = (0, 43, refl, refl);
                                  ends = λ p v e. (byte_place 43 p v e).1;
                                  room = inl refl;
                                  has = refl;
                                  may = refl;
                                  gathers = refl;
                                  gathered = λ x t. refl;
                                  touches = λ p v e. (byte_place 43 p v e).0;
                                  hits = λ k z e. hits_first 2 k z e;
                                  lands = λ p v e. (0, 0, refl, lands_first 43 p v e);
                                  misses = λ k z a lf n e. misses_double 43 k z a n e;
                                  bytes = λ p v e. byte_low 43 p v (omega arith) e;
                                  sees = λ k z h e bs g. sees_double 43 k z h e;
                                },
                                (
                                  record { new = omega arith; runs = refl; has = refl; listed = refl; first = refl },
                                  (
                                    record { new = omega arith; runs = refl; has = refl; listed = refl; first = refl },
                                    (
                                      record {
                                        comes = inr (inl refl);
                                        there = omega arith;
                                        stands = refl;
                                        here = refl;
                                        right = refl;
                                        new = omega arith;
                                      },
                                      (
                                        record {
                                          comes = inl refl;
                                          there = omega arith;
                                          stands = refl;
                                          here = refl;
                                          right = refl;
                                          new = omega arith;
                                        },
                                        (
                                          record { runs = refl; sent = refl; comes = inr (inl refl) },
                                          (
                                            record { runs = refl; sent = refl; comes = inl refl },
                                            (
                                              record {
                                                runs = refl;
                                                plain = refl;
                                                fits = inl (omega arith);
                                                told = λ k i v e.
                                                    absurd (outs_told 1 2 k i v e);
                                                all = λ k z v e. inl (outs_all 1 2 _ k z v e);
                                              },
                                              (
                                                record { low = omega arith; on = refl },
                                                (
                                                  record { runs = refl; sent = refl; comes = inr (inr (inr (inl refl))) },
                                                  (
                                                    record { runs = refl; sent = refl; comes = inr (inr (inl refl)) },
                                                    (
                                                      record {
                                                        runs = refl;
                                                        plain = refl;
                                                        fits = inl (omega arith);
                                                        told = λ k i v e. absurd (outs_told 3 4 k i v e);
                                                        all = λ k z v e. inl (outs_all 3 4 _ k z v e);
                                                      },
                                                      (
                                                        record { low = omega arith; on = refl },
                                                        (
                                                          record {
                                                            has = refl;
                                                            idle = refl;
                                                            within = λ x r. refl;
                                                            reaches = λ p w. refl;
                                                          },
                                                          (
                                                            record {
                                                              client = refl;
                                                              in_log = omega arith;
                                                              right = refl;
                                                              there = omega arith;
                                                              stands = refl;
                                                            },
                                                            (
                                                              record {
                                                                runs = refl;
                                                                told = (_, inl refl, refl);
                                                                all =
                                                                    λ p w d bs ag. shown_first 43 written_43 d refl p w
                                                                    (ag _ (inl refl) refl p refl refl);
                                                              },
                                                              tt,
                                                            ),
                                                          ),
                                                        ),
                                                      ),
                                                    ),
                                                  ),
                                                ),
                                              ),
                                            ),
                                          ),
                                        ),
                                      ),
                                    ),
                                  ),
                                ),
                              ),
                            ),
                          ),
                        ),
                      ),
                    ),
                  ),
                ),
              ),
            ),
          ),
        ),
      ),
    ),
  ),
)

-- none of its events loses a component
pub keep_late : AllKeep late
unfolding Keeps
keep_late = (
  tt,
  (
    tt,
    (
      tt,
      (
        tt,
        (
          tt,
          (
            tt,
            (
              tt,
              (
                tt,
                (
                  tt,
                  (
                    tt,
                    (
                      tt,
                      (
                        tt,
                        (
                          tt,
                          (
                            tt,
                            (
                              tt,
                              (
                                tt,
                                (tt, (tt, (tt, (tt, (tt, (tt, (tt, (tt, (tt, (tt, (tt, (tt, (tt, (tt, (tt, tt))))))))))))))),
                              ),
                            ),
                          ),
                        ),
                      ),
                    ),
                  ),
                ),
              ),
            ),
          ),
        ),
      ),
    ),
  ),
)
