-- So it is where a component times out, at a call's begin, and behind a commit.
use Rattle.std.proofs.Common.{◌≡◌, ◌==◌, ◌≤◌, ℕ, List, [], ◌∷◌, length, subst, arith}
use Rattle.std.specs.List.{AllByRecursion}
use Rattle.layout_ops.specs.declared.statuses.TheConstants.{NFS4_OK}
use Rattle.cause_law.specs.State.{CallOp, Held, Awaited, TimedOut, Phase, Starts, Needs, Waits, Reads, Probes, Gathers, Scatters, Io, Ends, Forgets, Answer, Ask}
use Rattle.client_rules.specs.Turns.{turned}
use Rattle.client_rules.specs.Calls.{span_of, is_write}
use Rattle.client_rules.specs.Grants.{clipped}
use Rattle.client_rules.specs.Results.{status_of}
use Rattle.client_rules.specs.Io.{awaited_in, first_of, timed_with}
use Rattle.client_rules.specs.Commands.{of_component}
use Rattle.client_rules.specs.Replies.{timed_out}
use Rattle.client_rules.specs.Answers.{committed, not_committed, on_commit}
use Rattle.client_rules.specs.Going.{begins}
use Rattle.exchange_law.proofs.Parts.{each_filtered}
use Rattle.cause_law.proofs.Timed.{Rise, Apart, AskApart, AwaitedApart, rise_with, IsOf, all_of, first_holds, rest_apart, queue_apart}
use Rattle.cause_law.proofs.Moving.{HeldShort, IoShort, PhaseShort, TurnShort, MovedShort, either_moved, either_turn, turned_short, reads_short, probes_short, gathers_short, accounted_short, gather_timed_short, scatter_timed_short}

-- ---- the component that times out

of_apart : (timed : List TimedOut) (k : ℕ) (xs : List Awaited) → AllByRecursion (AwaitedApart timed) xs
    → AllByRecursion (AwaitedApart timed) (of_component k xs)
unfolding of_component
of_apart timed k xs l = each_filtered (AwaitedApart timed) _ xs l

-- it is the one of the first command, and didn't time out before
is_it : (k : ℕ) (ys : List Awaited) (a : Awaited) (xs : List Awaited) → of_component k ys ≡ a ∷ xs
    → (first_of a xs).ask.component ≡ k
is_it k ys a xs e =
    first_holds (λ (b : Ask). b.component ≡ k) a xs (subst (AllByRecursion (IsOf k)) e (all_of k ys))

is_new : (k : ℕ) (io : Io) (a : Awaited) (xs : List Awaited) → of_component k io.awaited ≡ a ∷ xs → IoShort io
    → Apart io.timed (first_of a xs).ask.component
is_new k io a xs e s =
    first_holds (AskApart io.timed) a xs
    (subst (AllByRecursion (AwaitedApart io.timed)) e (of_apart io.timed k io.awaited s.1))

still_rise : (k : ℕ) (io : Io) (a : Awaited) (xs : List Awaited) → of_component k io.awaited ≡ a ∷ xs → IoShort io
    → Rise 0 (timed_with (first_of a xs) io.timed)
still_rise k io a xs e s = rise_with 0 (first_of a xs) io.timed (omega arith) (is_new k io a xs e s) s.0

module _ (h : Held) (s : HeldShort h) where
  pub timed_out_short : (op : CallOp) (p : Phase) (k : ℕ) (a : Awaited) (xs : List Awaited)
      → of_component k (awaited_in p) ≡ a ∷ xs → PhaseShort p → MovedShort (timed_out h op p k a xs)
  timed_out_short op (Reads io) k a xs e l = reads_short h s _ io.got _ _
  timed_out_short op (Probes io) k a xs e l = probes_short h s io.got _ _
  timed_out_short op (Gathers io) k a xs e l =
      gather_timed_short h s op io k (timed_with (first_of a xs) io.timed) (still_rise k io a xs e l)
      (rest_apart k (first_of a xs) io.timed io.awaited (is_it k io.awaited a xs e) l.1)
  timed_out_short op (Scatters io queue) k a xs e l =
      scatter_timed_short h s op io queue k (timed_with (first_of a xs) io.timed) (still_rise k io a xs e l.0)
      (queue_apart k (first_of a xs) io.timed queue (is_it k io.awaited a xs e) l.1)
      (rest_apart k (first_of a xs) io.timed io.awaited (is_it k io.awaited a xs e) l.0.1)
  timed_out_short op Starts k a xs e l = turned_short h s _ tt
  timed_out_short op (Needs need) k a xs e l = turned_short h s _ l
  timed_out_short op (Waits need) k a xs e l = turned_short h s _ l

  -- ---- the begin, and a commit

  pub begins_short : (op : CallOp) → MovedShort (begins h op)
  unfolding begins
  begins_short op =
      either_moved (is_write op) _ _ (gathers_short h s op [] [] [] (omega arith) tt)
      (either_moved ((clipped h.size (span_of op)).length == 0) _ _ (probes_short h s [] [] [])
      (reads_short h s _ [] [] []))

  not_committed_short : (status detail : ℕ) → TurnShort (not_committed status detail)
  unfolding not_committed
  not_committed_short status detail = either_turn _ (Forgets _) (Ends _) tt tt

  pub on_commit_short : (op : CallOp) (a : Answer) (timed : List TimedOut) → length timed ≤ 64
      → MovedShort (on_commit h op a timed)
  unfolding on_commit
  on_commit_short op a timed few =
      either_moved (status_of a.results == NFS4_OK) (committed h op a timed)
      (turned h (not_committed (status_of a.results) a.detail))
      (record { held = s; turn = accounted_short h s op timed few })
      (turned_short h s _ (not_committed_short (status_of a.results) a.detail))
