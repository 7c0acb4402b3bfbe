-- What a call awaits of the drives: what it awaited before, and what it sends.
use Rattle.std.proofs.Common.{◌≡◌, ◌⊎◌, ◌==◌, ℕ, Bool, true, false, List, [], ◌∷◌, ◌++◌, Option, Some, None, filter, refl, subst, inl, inr, if◌then◌else◌}
use Rattle.layout_ops.specs.declared.statuses.TheConstants.{NFS4_OK}
use Rattle.server_rules.specs.Laws.{In}
use Rattle.server_rules.proofs.Members.{in_either}
use Rattle.history_law.specs.State.{CallOp, Held, Awaited, TimedOut, Io, Commit, Phase, Starts, Needs, Waits, Reads, Probes, Gathers, Scatters, Turn, Goes, Ends, Forgets, Moved, Answer, Reply, Span, Column, Store}
use Rattle.client_rules.specs.declared.limits.TheConstants.{PERFORMED, OTHER_TAG}
use Rattle.client_rules.specs.Commands.{others, not_of}
use Rattle.client_rules.specs.Io.{awaited_in}
use Rattle.client_rules.specs.Results.{status_of}
use Rattle.client_rules.specs.Turns.{turned, needing, closing}
use Rattle.client_rules.specs.Reads.{reads_on, reads_unless, reads, probes_on, probes_by, probes}
use Rattle.client_rules.specs.Writes.{accounted, is_past_size, written, scatters_on, scatters, scatters_next, gathers_on, gathers}
use Rattle.client_rules.specs.Replies.{refusal, refused_report, performed, refused, replied, gather_timed, scatter_timed, timed_out}
use Rattle.client_rules.specs.Answers.{committed, not_committed, on_commit}
use Rattle.client_rules.specs.Going.{begins}

-- what is awaited behind a turn
abbrev pub awaited_by : Turn → List Awaited
awaited_by (Goes p) = awaited_in p
awaited_by t = []

-- it was awaited before, or is sent
pub record MovedAwaits (old : List Awaited) (m : Moved) : Type 0 where
  pub each : (x : Awaited) → In x (awaited_by m.turn) → In x old ⊎ In x m.sent

module _ (old : List Awaited) where
  either : (b : Bool) (m n : Moved) → MovedAwaits old m → MovedAwaits old n → MovedAwaits old (if b then m else n)
  either true m n k l = k
  either false m n k l = l

  -- nothing is awaited
  none : (h : Held) (t : Turn) → awaited_by t ≡ [] → MovedAwaits old (turned h t)
  none h t e = record { each = λ x i. absurd (subst (In x) e i) }

  -- these commands are among the old ones, and those that are sent
  abbrev pub AreFrom : (awaited sent : List Awaited) → Type 0
  AreFrom awaited sent = (x : Awaited) → In x awaited → In x old ⊎ In x sent

  pub fewer : (p : Awaited → Bool) (xs : List Awaited) → AreFrom xs [] → AreFrom (filter p xs) []
  fewer p [] k x i = absurd i
  fewer p (a ∷ xs) k x i = kept (p a) i (λ j. fewer p xs (λ y l. k y (inr l)) x j)
    where
      kept : (b : Bool) → In x (if b then a ∷ filter p xs else filter p xs) → (In x (filter p xs) → In x old ⊎ In x [])
          → In x old ⊎ In x []
      kept true (inl e) rest = k x (inl e)
      kept true (inr j) rest = rest j
      kept false j rest = rest j

  others_from : (xs : List Awaited) (n : ℕ) → AreFrom xs [] → AreFrom (others xs n) []
  unfolding others
  others_from xs n k = fewer _ xs k

  rest_from : (n : ℕ) (xs : List Awaited) → AreFrom xs [] → AreFrom (not_of n xs) []
  unfolding not_of
  rest_from n xs k = fewer _ xs k

  with_sent : (awaited sent : List Awaited) → AreFrom awaited [] → AreFrom (awaited ++ sent) sent
  with_sent awaited sent k x i = elim (in_either x awaited sent i) [
    | inl a ↦ elim (k x a) [ inl o ↦ inl o | inr n ↦ absurd n ]
    | inr s ↦ inr s
  ]

  only_sent : (sent : List Awaited) → AreFrom sent sent
  only_sent sent x i = inr i

  -- ---- reads

  reads_on_awaits : (h : Held) (r : Span) (got : List Column) (timed : List TimedOut) (sent awaited : List Awaited)
      → AreFrom awaited sent → MovedAwaits old (reads_on h r got timed sent awaited)
  unfolding reads_on
  reads_on_awaits h r got timed sent [] k = record { each = λ x i. absurd i }
  reads_on_awaits h r got timed sent (a ∷ xs) k = record { each = k }

  reads_unless_awaits : (h : Held) (r : Span) (got : List Column) (timed : List TimedOut) (awaited : List Awaited)
      (o : Option (List ℕ)) → AreFrom awaited [] → MovedAwaits old (reads_unless h r got timed awaited o)
  reads_unless_awaits h r got timed awaited (Some ps) k = none h _ refl
  reads_unless_awaits h r got timed awaited None k = reads_on_awaits h r got timed _ _ (with_sent awaited _ k)

  reads_awaits : (h : Held) (r : Span) (got : List Column) (timed : List TimedOut) (awaited : List Awaited)
      → AreFrom awaited [] → MovedAwaits old (reads h r got timed awaited)
  unfolding reads
  reads_awaits h r got timed awaited k = reads_unless_awaits h r got timed awaited _ k

  probes_on_awaits : (h : Held) (got : List Column) (timed : List TimedOut) (sent awaited : List Awaited)
      → AreFrom awaited sent → MovedAwaits old (probes_on h got timed sent awaited)
  unfolding probes_on
  probes_on_awaits h got timed sent [] k = record { each = λ x i. absurd i }
  probes_on_awaits h got timed sent (a ∷ xs) k = record { each = k }

  probes_by_awaits : (h : Held) (got : List Column) (timed : List TimedOut) (awaited : List Awaited) (o : Option ℕ)
      → AreFrom awaited [] → MovedAwaits old (probes_by h got timed awaited o)
  probes_by_awaits h got timed awaited None k = none h _ refl
  probes_by_awaits h got timed awaited (Some n) k =
      either _ _ _ (none h _ refl) (probes_on_awaits h got timed _ _ (with_sent awaited _ k))

  probes_awaits : (h : Held) (got : List Column) (timed : List TimedOut) (awaited : List Awaited)
      → AreFrom awaited [] → MovedAwaits old (probes h got timed awaited)
  unfolding probes
  probes_awaits h got timed awaited k = probes_by_awaits h got timed awaited _ k

  -- ---- writes

  either_turn : (b : Bool) (t u : Turn) → awaited_by t ≡ [] → awaited_by u ≡ [] → awaited_by (if b then t else u) ≡ []
  either_turn true t u k l = k
  either_turn false t u k l = l

  accounted_awaits : (op : CallOp) (timed : List TimedOut) → awaited_by (accounted op timed) ≡ []
  accounted_awaits op [] = refl
  accounted_awaits op (t ∷ ts) = refl

  written_awaits : (h : Held) (op : CallOp) (timed : List TimedOut) → awaited_by (written h op timed) ≡ []
  unfolding written
  written_awaits h op timed =
      either_turn (is_past_size h op) (needing (Commit timed)) (accounted op timed) refl (accounted_awaits op timed)

  scatters_on_awaits : (h : Held) (op : CallOp) (timed : List TimedOut) (queue : List Store)
      (sent awaited : List Awaited) → AreFrom awaited sent
      → MovedAwaits old (scatters_on h op timed queue sent awaited)
  unfolding scatters_on
  scatters_on_awaits h op timed queue sent [] k =
      record { each = λ x i. absurd (subst (In x) (written_awaits h op timed) i) }
  scatters_on_awaits h op timed queue sent (a ∷ xs) k = record { each = k }

  scatters_awaits : (h : Held) (op : CallOp) (got : List Column) (timed : List TimedOut)
      → MovedAwaits old (scatters h op got timed)
  unfolding scatters
  scatters_awaits h op got timed = scatters_on_awaits h op timed _ _ _ (only_sent _)

  next_awaits : (h : Held) (op : CallOp) (timed : List TimedOut) (queue : List Store) (n : ℕ) (awaited : List Awaited)
      → AreFrom awaited [] → MovedAwaits old (scatters_next h op timed queue n awaited)
  unfolding scatters_next
  next_awaits h op timed queue n awaited k = scatters_on_awaits h op timed _ _ _ (with_sent awaited _ k)

  gathers_on_awaits : (h : Held) (op : CallOp) (got : List Column) (timed : List TimedOut) (sent awaited : List Awaited)
      → AreFrom awaited sent → MovedAwaits old (gathers_on h op got timed sent awaited)
  unfolding gathers_on
  gathers_on_awaits h op got timed sent [] k = scatters_awaits h op got timed
  gathers_on_awaits h op got timed sent (a ∷ xs) k = record { each = k }

  gathers_awaits : (h : Held) (op : CallOp) (got : List Column) (timed : List TimedOut) (awaited : List Awaited)
      → AreFrom awaited [] → MovedAwaits old (gathers h op got timed awaited)
  unfolding gathers
  gathers_awaits h op got timed awaited k = gathers_on_awaits h op got timed _ _ (with_sent awaited _ k)

  -- ---- replies

  performed_awaits : (h : Held) (op : CallOp) (p : Phase) (a : Awaited) (r : Reply) → AreFrom (awaited_in p) []
      → MovedAwaits old (performed h op p a r)
  performed_awaits h op (Reads io) a r k =
      reads_on_awaits h _ _ io.timed [] _ (others_from io.awaited a.command.nonce k)
  performed_awaits h op (Probes io) a r k =
      probes_on_awaits h _ io.timed [] _ (others_from io.awaited a.command.nonce k)
  performed_awaits h op (Gathers io) a r k =
      gathers_on_awaits h op _ io.timed [] _ (others_from io.awaited a.command.nonce k)
  performed_awaits h op (Scatters io queue) a r k =
      next_awaits h op io.timed queue _ _ (others_from io.awaited a.command.nonce k)
  performed_awaits h op Starts a r k = none h _ refl
  performed_awaits h op (Needs need) a r k = none h _ refl
  performed_awaits h op (Waits need) a r k = none h _ refl

  refused_awaits : (h : Held) (p : Phase) (a : Awaited) (r : Reply) → MovedAwaits old (refused h p a r)
  unfolding refused
  refused_awaits h p a r =
      either (r.verdict == OTHER_TAG) (turned h (Forgets (refusal a r)))
      (turned h (closing (refusal a r) (refused_report h p a r))) (none h _ refl) (none h _ refl)

  pub replied_awaits : (h : Held) (op : CallOp) (p : Phase) (a : Awaited) (r : Reply) → AreFrom (awaited_in p) []
      → MovedAwaits old (replied h op p a r)
  unfolding replied
  replied_awaits h op p a r k =
      either (r.verdict == PERFORMED) _ _ (performed_awaits h op p a r k) (refused_awaits h p a r)

  -- ---- timeouts

  gather_timed_awaits : (h : Held) (op : CallOp) (io : Io) (n : ℕ) (timed : List TimedOut) → AreFrom io.awaited []
      → MovedAwaits old (gather_timed h op io n timed)
  unfolding gather_timed
  gather_timed_awaits h op io n timed k =
      either _ _ _ (none h _ refl) (gathers_awaits h op io.got timed _ (rest_from n io.awaited k))

  scatter_timed_awaits : (h : Held) (op : CallOp) (io : Io) (queue : List Store) (n : ℕ) (timed : List TimedOut)
      → AreFrom io.awaited [] → MovedAwaits old (scatter_timed h op io queue n timed)
  unfolding scatter_timed
  scatter_timed_awaits h op io queue n timed k =
      either _ _ _ (none h _ refl) (scatters_on_awaits h op timed _ [] _ (rest_from n io.awaited k))

  pub timed_out_awaits : (h : Held) (op : CallOp) (p : Phase) (n : ℕ) (a : Awaited) (xs : List Awaited)
      → AreFrom (awaited_in p) [] → MovedAwaits old (timed_out h op p n a xs)
  timed_out_awaits h op (Reads io) n a xs k = reads_awaits h _ io.got _ _ (rest_from n io.awaited k)
  timed_out_awaits h op (Probes io) n a xs k = probes_awaits h io.got _ _ (rest_from n io.awaited k)
  timed_out_awaits h op (Gathers io) n a xs k = gather_timed_awaits h op io n _ k
  timed_out_awaits h op (Scatters io queue) n a xs k = scatter_timed_awaits h op io queue n _ k
  timed_out_awaits h op Starts n a xs k = none h _ refl
  timed_out_awaits h op (Needs need) n a xs k = none h _ refl
  timed_out_awaits h op (Waits need) n a xs k = none h _ refl

  -- ---- the begin, and a commit

  none_from : AreFrom [] []
  none_from x i = absurd i

  pub begins_awaits : (h : Held) (op : CallOp) → MovedAwaits old (begins h op)
  unfolding begins
  begins_awaits h op =
      either _ _ _ (gathers_awaits h op [] [] [] none_from)
      (either _ _ _ (probes_awaits h [] [] [] none_from) (reads_awaits h _ [] [] [] none_from))

  not_committed_awaits : (status detail : ℕ) → awaited_by (not_committed status detail) ≡ []
  unfolding not_committed
  not_committed_awaits status detail = either_turn _ (Forgets _) (Ends _) refl refl

  pub on_commit_awaits : (h : Held) (op : CallOp) (a : Answer) (timed : List TimedOut)
      → MovedAwaits old (on_commit h op a timed)
  unfolding on_commit
  on_commit_awaits h op a timed =
      either (status_of a.results == NFS4_OK) (committed h op a timed)
      (turned h (not_committed (status_of a.results) a.detail))
      (none (record h { size = a.size }) (accounted op timed) (accounted_awaits op timed))
      (none h _ (not_committed_awaits (status_of a.results) a.detail))
