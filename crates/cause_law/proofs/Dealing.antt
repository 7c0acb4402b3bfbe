-- How a call ends but by an answer of the server: never as only an answer says.
use Rattle.std.proofs.Common.{◌≡◌, ◌≢◌, ◌==◌, ℕ, ◌+◌, Bool, true, false, List, [], ◌∷◌, Option, Some, None, Result, Ok, Err, refl, sym, subst, arith, if◌then◌else◌}
use Rattle.std.proofs.lemmas.Bool.Decides.{nat_tests}
use Rattle.layout_ops.specs.declared.messages.Answer.{Answer}
use Rattle.layout_ops.specs.declared.statuses.TheConstants.{NFS4_OK, NFS4ERR_NOENT, NFS4ERR_BADLAYOUT, NFS4ERR_LAYOUTTRYLATER, NFS4ERR_RECALLCONFLICT, NFS4ERR_LAYOUTUNAVAILABLE}
use Rattle.client_rules.specs.declared.limits.TheConstants.{PERFORMED, OTHER_TAG, NO_COMPONENT}
use Rattle.client_rules.specs.Answers.{busy, not_granted, committed, not_committed, on_commit, is_loss_taken, on_report}
use Rattle.client_rules.specs.Calls.{file_of, span_of}
use Rattle.client_rules.specs.Going.{over, by_turn, moved, with_held, begins}
use Rattle.client_rules.specs.Grants.{held_of}
use Rattle.client_rules.specs.Layouts.{taken}
use Rattle.client_rules.specs.Messages.{answered_get, commit_under, on_need}
use Rattle.client_rules.specs.Reads.{reads_on, reads_unless, reads, probes_on, probes_by, probes}
use Rattle.client_rules.specs.Replies.{refusal, refused_report, performed, refused, replied, gather_timed, scatter_timed, timed_out}
use Rattle.client_rules.specs.Results.{status_of}
use Rattle.client_rules.specs.Turns.{turned, needing, closing}
use Rattle.client_rules.specs.Writes.{accounted, is_past_size, written, scatters_on, scatters, scatters_next, gathers_on, gathers}
use Rattle.world_history.specs.ClientNames.{CallOp, Call, Held, Awaited, TimedOut, Io, Need, First, Get, Commit, Report, Close, Phase, Starts, Needs, Waits, Reads, Probes, Gathers, Scatters, Outcome, WriteOk, NoFile, HeldBy, Fencing, Degraded, Spent, Status, Silent, Why, Turn, Goes, Ends, Forgets, Moved, Done, Reply, Span, Column, Store}
use Rattle.cause_law.specs.Ends.{Says, SaysNoFile, SaysSpent, SaysDegraded, SaysOther, SaysWrong}

-- an outcome that no answer is needed for
abbrev pub IsOwn : Outcome → Type 0
IsOwn NoFile = ⊥
IsOwn Spent = ⊥
IsOwn (Degraded k) = ⊥
IsOwn (Status status detail) = ⊥
IsOwn o = Unit {0}

-- so is one that is kept until the grant is back
abbrev pub NeedOwn : Need → Type 0
NeedOwn (Close o report) = IsOwn o
NeedOwn n = Unit {0}

abbrev pub PhaseOwn : Phase → Type 0
PhaseOwn (Needs n) = NeedOwn n
PhaseOwn (Waits n) = NeedOwn n
PhaseOwn p = Unit {0}

abbrev pub CallOwn : Option Call → Type 0
CallOwn None = Unit {0}
CallOwn (Some call) = PhaseOwn call.phase

-- `T` holds of what is told
abbrev pub TurnOwn : (Outcome → Type 0) → Turn → Type 0
TurnOwn T (Goes p) = PhaseOwn p
TurnOwn T (Ends o) = T o
TurnOwn T (Forgets o) = T o

pub record MovedOwn (T : Outcome → Type 0) (m : Moved) : Type 0 where
  pub turn : TurnOwn T m.turn

abbrev pub EndOwn : (Outcome → Type 0) → Option Outcome → Type 0
EndOwn T None = Unit {0}
EndOwn T (Some o) = T o

pub record DoneOwn (T : Outcome → Type 0) (d : Done) : Type 0 where
  pub call : CallOwn d.client.call
  pub outcome : EndOwn T d.outcome

module _ (T : Outcome → Type 0) (own : (o : Outcome) → IsOwn o → T o) where
  either : (b : Bool) (m n : Moved) → MovedOwn T m → MovedOwn T n → MovedOwn T (if b then m else n)
  either true m n k l = k
  either false m n k l = l

  turned_own : (h : Held) (t : Turn) → TurnOwn T t → MovedOwn T (turned h t)
  turned_own h t k = record { turn = k }

  either_turn : (b : Bool) (t u : Turn) → TurnOwn T t → TurnOwn T u → TurnOwn T (if b then t else u)
  either_turn true t u k l = k
  either_turn false t u k l = l

  -- ---- reads

  reads_on_own : (h : Held) (r : Span) (got : List Column) (timed : List TimedOut) (sent awaited : List Awaited)
      → MovedOwn T (reads_on h r got timed sent awaited)
  unfolding reads_on
  reads_on_own h r got timed sent [] = record { turn = own _ tt }
  reads_on_own h r got timed sent (a ∷ xs) = record { turn = tt }

  reads_unless_own : (h : Held) (r : Span) (got : List Column) (timed : List TimedOut) (awaited : List Awaited)
      (o : Option (List ℕ)) → MovedOwn T (reads_unless h r got timed awaited o)
  reads_unless_own h r got timed awaited (Some ps) = record { turn = own _ tt }
  reads_unless_own h r got timed awaited None = reads_on_own h r got timed _ _

  reads_own : (h : Held) (r : Span) (got : List Column) (timed : List TimedOut) (awaited : List Awaited)
      → MovedOwn T (reads h r got timed awaited)
  unfolding reads
  reads_own h r got timed awaited = reads_unless_own h r got timed awaited _

  probes_on_own : (h : Held) (got : List Column) (timed : List TimedOut) (sent awaited : List Awaited)
      → MovedOwn T (probes_on h got timed sent awaited)
  unfolding probes_on
  probes_on_own h got timed sent [] = record { turn = own _ tt }
  probes_on_own h got timed sent (a ∷ xs) = record { turn = tt }

  probes_by_own : (h : Held) (got : List Column) (timed : List TimedOut) (awaited : List Awaited) (o : Option ℕ)
      → MovedOwn T (probes_by h got timed awaited o)
  probes_by_own h got timed awaited None = record { turn = own _ tt }
  probes_by_own h got timed awaited (Some n) =
      either _ _ _ (turned_own h _ (own _ tt)) (probes_on_own h got timed _ _)

  probes_own : (h : Held) (got : List Column) (timed : List TimedOut) (awaited : List Awaited)
      → MovedOwn T (probes h got timed awaited)
  unfolding probes
  probes_own h got timed awaited = probes_by_own h got timed awaited _

  -- ---- writes

  accounted_own : (op : CallOp) (timed : List TimedOut) → TurnOwn T (accounted op timed)
  accounted_own op [] = own _ tt
  accounted_own op (t ∷ ts) = tt

  written_own : (h : Held) (op : CallOp) (timed : List TimedOut) → TurnOwn T (written h op timed)
  unfolding written
  written_own h op timed =
      either_turn (is_past_size h op) (needing (Commit timed)) (accounted op timed) tt (accounted_own op timed)

  scatters_on_own : (h : Held) (op : CallOp) (timed : List TimedOut) (queue : List Store) (sent awaited : List Awaited)
      → MovedOwn T (scatters_on h op timed queue sent awaited)
  unfolding scatters_on
  scatters_on_own h op timed queue sent [] = record { turn = written_own h op timed }
  scatters_on_own h op timed queue sent (a ∷ xs) = record { turn = tt }

  scatters_own : (h : Held) (op : CallOp) (got : List Column) (timed : List TimedOut)
      → MovedOwn T (scatters h op got timed)
  unfolding scatters
  scatters_own h op got timed = scatters_on_own h op timed _ _ _

  next_own : (h : Held) (op : CallOp) (timed : List TimedOut) (queue : List Store) (n : ℕ) (awaited : List Awaited)
      → MovedOwn T (scatters_next h op timed queue n awaited)
  unfolding scatters_next
  next_own h op timed queue n awaited = scatters_on_own h op timed _ _ _

  gathers_on_own : (h : Held) (op : CallOp) (got : List Column) (timed : List TimedOut) (sent awaited : List Awaited)
      → MovedOwn T (gathers_on h op got timed sent awaited)
  unfolding gathers_on
  gathers_on_own h op got timed sent [] = scatters_own h op got timed
  gathers_on_own h op got timed sent (a ∷ xs) = record { turn = tt }

  gathers_own : (h : Held) (op : CallOp) (got : List Column) (timed : List TimedOut) (awaited : List Awaited)
      → MovedOwn T (gathers h op got timed awaited)
  unfolding gathers
  gathers_own h op got timed awaited = gathers_on_own h op got timed _ _

  -- ---- replies and timeouts

  performed_own : (h : Held) (op : CallOp) (p : Phase) (a : Awaited) (r : Reply) → PhaseOwn p
      → MovedOwn T (performed h op p a r)
  performed_own h op (Reads io) a r k = reads_on_own h _ _ io.timed [] _
  performed_own h op (Probes io) a r k = probes_on_own h _ io.timed [] _
  performed_own h op (Gathers io) a r k = gathers_on_own h op _ io.timed [] _
  performed_own h op (Scatters io queue) a r k = next_own h op io.timed queue _ _
  performed_own h op Starts a r k = record { turn = tt }
  performed_own h op (Needs need) a r k = record { turn = k }
  performed_own h op (Waits need) a r k = record { turn = k }

  refused_own : (h : Held) (p : Phase) (a : Awaited) (r : Reply) → MovedOwn T (refused h p a r)
  unfolding refused
  refused_own h p a r =
      either (r.verdict == OTHER_TAG) (turned h (Forgets (refusal a r)))
      (turned h (closing (refusal a r) (refused_report h p a r))) (record { turn = own _ tt }) (record { turn = tt })

  pub replied_own : (h : Held) (op : CallOp) (p : Phase) (a : Awaited) (r : Reply) → PhaseOwn p
      → MovedOwn T (replied h op p a r)
  unfolding replied
  replied_own h op p a r k =
      either (r.verdict == PERFORMED) _ _ (performed_own h op p a r k) (refused_own h p a r)

  gather_timed_own : (h : Held) (op : CallOp) (io : Io) (n : ℕ) (timed : List TimedOut)
      → MovedOwn T (gather_timed h op io n timed)
  unfolding gather_timed
  gather_timed_own h op io n timed =
      either _ _ _ (turned_own h _ (own _ tt)) (gathers_own h op io.got timed _)

  scatter_timed_own : (h : Held) (op : CallOp) (io : Io) (queue : List Store) (n : ℕ) (timed : List TimedOut)
      → MovedOwn T (scatter_timed h op io queue n timed)
  unfolding scatter_timed
  scatter_timed_own h op io queue n timed =
      either _ _ _ (turned_own h _ tt) (scatters_on_own h op timed _ [] _)

  pub timed_out_own : (h : Held) (op : CallOp) (p : Phase) (n : ℕ) (a : Awaited) (xs : List Awaited) → PhaseOwn p
      → MovedOwn T (timed_out h op p n a xs)
  timed_out_own h op (Reads io) n a xs k = reads_own h _ io.got _ _
  timed_out_own h op (Probes io) n a xs k = probes_own h io.got _ _
  timed_out_own h op (Gathers io) n a xs k = gather_timed_own h op io n _
  timed_out_own h op (Scatters io queue) n a xs k = scatter_timed_own h op io queue n _
  timed_out_own h op Starts n a xs k = record { turn = tt }
  timed_out_own h op (Needs need) n a xs k = record { turn = k }
  timed_out_own h op (Waits need) n a xs k = record { turn = k }

  pub begins_own : (h : Held) (op : CallOp) → MovedOwn T (begins h op)
  unfolding begins
  begins_own h op =
      either _ _ _ (gathers_own h op [] [] []) (either _ _ _ (probes_own h [] [] []) (reads_own h _ [] [] []))

  -- ---- in a turn

  over_own : (d : Done) (o : Outcome) → T o → DoneOwn T (over d o)
  over_own d o k = record { call = tt; outcome = k }

  by_turn_own : (d : Done) (op : CallOp) (t : Turn) → EndOwn T d.outcome → TurnOwn T t → DoneOwn T (by_turn d op t)
  by_turn_own d op (Goes p) k t = record { call = t; outcome = k }
  by_turn_own d op (Ends o) k t = record { call = tt; outcome = t }
  by_turn_own d op (Forgets o) k t = record { call = tt; outcome = t }

  pub moved_own : (d : Done) (op : CallOp) (m : Moved) → EndOwn T d.outcome → MovedOwn T m → DoneOwn T (moved d op m)
  moved_own d op m k t = by_turn_own (record (with_held d m.held) { commands = m.sent }) op m.turn k t.turn

  -- ---- an answer

  module _ (a : Answer) (n : Need) (said : (o : Outcome) → Says a n o → T o) where
    by_wrong : (timed : List TimedOut) → n ≡ Commit timed → status_of a.results ≢ NFS4_OK
        → TurnOwn T (not_committed (status_of a.results) a.detail)
    unfolding not_committed
    by_wrong timed is wrong =
        let it : T (Status (status_of a.results) a.detail) =
        said (Status (status_of a.results) a.detail)
        (subst (λ (x : Need). Says a x (Status (status_of a.results) a.detail)) (sym is) (SaysWrong timed wrong)) in
        either_turn (status_of a.results == NFS4ERR_BADLAYOUT) (Forgets (Status (status_of a.results) a.detail))
        (Ends (Status (status_of a.results) a.detail)) it it

    commit_own : (h : Held) (op : CallOp) (timed : List TimedOut) → n ≡ Commit timed → MovedOwn T (on_commit h op a timed)
    unfolding on_commit
    commit_own h op timed is = by_status (status_of a.results == NFS4_OK) refl
      where
        by_status : (b : Bool) → (status_of a.results == NFS4_OK) ≡ b
            → MovedOwn T (if b then committed h op a timed else turned h (not_committed (status_of a.results) a.detail))
        by_status true e = record { turn = accounted_own op timed }
        by_status false e =
            record { turn = by_wrong timed is (λ same. absurd (grind (arith, nat_tests, e, same))) }

    busy_own : (tries : ℕ) (o : Outcome) → IsOwn o → TurnOwn T (busy tries o)
    unfolding busy
    busy_own tries o k = either_turn _ (Goes (Needs (Get (tries + 1)))) (Ends o) tt (own o k)

    not_granted_own : (tries : ℕ) → n ≡ Get tries → status_of a.results ≢ NFS4_OK → TurnOwn T (not_granted a tries)
    unfolding not_granted
    not_granted_own tries is some =
        by_row (status_of a.results == NFS4ERR_NOENT) (status_of a.results == NFS4ERR_LAYOUTTRYLATER)
        (status_of a.results == NFS4ERR_RECALLCONFLICT) (status_of a.results == NFS4ERR_LAYOUTUNAVAILABLE)
        (a.detail == NO_COMPONENT) refl refl refl refl refl
      where
        told : (o : Outcome) → Says a (Get tries) o → T o
        told o s = said o (subst (λ (x : Need). Says a x o) (sym is) s)

        by_row : (b c e f g : Bool) → (status_of a.results == NFS4ERR_NOENT) ≡ b
            → (status_of a.results == NFS4ERR_LAYOUTTRYLATER) ≡ c → (status_of a.results == NFS4ERR_RECALLCONFLICT) ≡ e
            → (status_of a.results == NFS4ERR_LAYOUTUNAVAILABLE) ≡ f → (a.detail == NO_COMPONENT) ≡ g
            → TurnOwn T (if b then Ends NoFile else if c then busy tries (HeldBy a.detail)
            else if e then busy tries (Fencing a.detail) else if f then Ends (if g then Spent else Degraded a.detail)
            else Ends (Status (status_of a.results) a.detail))
        by_row true c e f g p q r s t = told NoFile (SaysNoFile tries (grind (arith, nat_tests, p)))
        by_row false true e f g p q r s t = busy_own tries (HeldBy a.detail) tt
        by_row false false true f g p q r s t = busy_own tries (Fencing a.detail) tt
        by_row false false false true true p q r s t =
            told Spent (SaysSpent tries (grind (arith, nat_tests, s)) (grind (arith, nat_tests, t)))
        by_row false false false true false p q r s t =
            told (Degraded a.detail)
            (SaysDegraded tries (grind (arith, nat_tests, s)) (λ x. absurd (grind (arith, nat_tests, t, x))))
        by_row false false false false g p q r s t =
            told (Status (status_of a.results) a.detail) (SaysOther tries (record {
              granted = some;
              file = λ x. absurd (grind (arith, nat_tests, p, x));
              held = λ x. absurd (grind (arith, nat_tests, q, x));
              fencing = λ x. absurd (grind (arith, nat_tests, r, x));
              unable = λ x. absurd (grind (arith, nat_tests, s, x));
            }))

    reported_own : (b : Bool) (op : CallOp) (k : ℕ) → T (if b then WriteOk (span_of op).length else Silent k)
    reported_own true op k = own _ tt
    reported_own false op k = own _ tt

    get_own : (d : Done) (op : CallOp) (r : Result Held Why) → EndOwn T d.outcome → DoneOwn T (answered_get d op r)
    get_own d op (Err w) k = over_own d _ (own _ tt)
    get_own d op (Ok h) k = record { call = tt; outcome = k }

    got_own : (d : Done) (op : CallOp) (tries : ℕ) → n ≡ Get tries → EndOwn T d.outcome → (b : Bool)
        → (status_of a.results == NFS4_OK) ≡ b
        → DoneOwn T (if b then answered_get d op (taken a op) else by_turn d op (not_granted a tries))
    got_own d op tries is k true e = get_own d op (taken a op) k
    got_own d op tries is k false e =
        by_turn_own d op (not_granted a tries) k (not_granted_own tries is (λ same. absurd (grind (arith, nat_tests, e, same))))

    under_own : (d : Done) (op : CallOp) (timed : List TimedOut) (o : Option Held) → n ≡ Commit timed → DoneOwn T d
        → DoneOwn T (commit_under d op a (Commit timed) o)
    under_own d op timed (Some h) is k = moved_own d op (on_commit h op a timed) k.outcome (commit_own h op timed is)
    under_own d op timed None is k = k

    pub need_own : (d : Done) (op : CallOp) (x : Need) → n ≡ x → NeedOwn x → DoneOwn T d → DoneOwn T (on_need d op x a)
    unfolding on_report
    need_own d op First is t k = record { call = tt; outcome = k.outcome }
    need_own d op (Get tries) is t k = got_own d op tries is k.outcome (status_of a.results == NFS4_OK) refl
    need_own d op (Commit timed) is t k = under_own d op timed (held_of d.client.held (file_of op)) is k
    need_own d op (Report timed) is t k = over_own d _ (reported_own (is_loss_taken a) op _)
    need_own d op (Close o report) is t k = over_own d o (own o t)
