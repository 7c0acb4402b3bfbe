-- What a call does with the drives keeps its grant, leaves it in a fair phase, and ends it fairly.
use Rattle.std.proofs.Common.{◌≡◌, ℕ, Bool, true, false, List, [], ◌∷◌, Option, Some, None, inl, inr, refl, if◌then◌else◌}
use Rattle.std.proofs.lemmas.Bool.{cases_Bool}
use Rattle.layout_ops.specs.declared.statuses.TheConstants.{NFS4ERR_BADLAYOUT}
use Rattle.layout_ops.specs.declared.messages.Answer.{Answer}
use Rattle.world_history.specs.ClientNames.{CallOp, Held, Request, Awaited, TimedOut, Io, Commit, Phase, Starts, Needs, Waits, Reads, Probes, Gathers, Scatters, Turn, Goes, Ends, Forgets, Moved, Reply, Span, Column, Store}
use Rattle.client_rules.specs.Answers.{not_committed, on_commit}
use Rattle.client_rules.specs.Calls.{is_write}
use Rattle.client_rules.specs.Commands.{counted}
use Rattle.client_rules.specs.Going.{begins}
use Rattle.client_rules.specs.Grants.{is_for}
use Rattle.client_rules.specs.Reads.{reads_on, reads_unless, reads, probes_on, probes_by, probes}
use Rattle.client_rules.specs.Replies.{refused, performed, replied, gather_timed, scatter_timed, timed_out}
use Rattle.client_rules.specs.Turns.{turned}
use Rattle.client_rules.specs.Writes.{accounted, is_past_size, written, scatters_on, scatters, scatters_next, gathers_on, gathers}
use Rattle.exchange_law.specs.Calls.{IsFair, NoGet, Writes, Knows, PhaseFine, GoodAnswer}

-- the same grant, whatever was sent under it, and whatever the file's size is now
pub record IsSame (h k : Held) : Type 0 where
  pub file : k.file ≡ h.file
  pub number : k.number ≡ h.number
  pub reach : k.reach ≡ h.reach
  pub map : k.map ≡ h.map
  pub components : k.components ≡ h.components

pub same_itself : (h : Held) → IsSame h h
same_itself h = record { file = refl; number = refl; reach = refl; map = refl; components = refl }

same_counted : (h : Held) (sent : List Awaited) → IsSame h (counted h sent)
same_counted h sent = record { file = refl; number = refl; reach = refl; map = refl; components = refl }

module _ (K : Knows) (out : Option Request) where
  abbrev pub TurnFine : Option Held → CallOp → Turn → Type 0
  TurnFine o op (Goes p) = PhaseFine K o out op p
  TurnFine o op (Ends u) = IsFair u
  TurnFine o op (Forgets u) = IsFair u

  pub record MoveFine (h : Held) (op : CallOp) (m : Moved) : Type 0 where
    pub same : IsSame h m.held
    pub turn : TurnFine (Some m.held) op m.turn

  either : (h : Held) (op : CallOp) (b : Bool) (m n : Moved) → MoveFine h op m → MoveFine h op n
      → MoveFine h op (if b then m else n)
  either h op true m n x y = x
  either h op false m n x y = y

  still : (h : Held) (op : CallOp) (t : Turn) → TurnFine (Some h) op t → MoveFine h op (turned h t)
  still h op t x = record { same = same_itself h; turn = x }

  module _ (none : NoGet out) where
    -- ---- reads

    reads_on_fine : (h : Held) (op : CallOp) (r : Span) (got : List Column) (timed : List TimedOut)
        (sent awaited : List Awaited) → MoveFine h op (reads_on h r got timed sent awaited)
    unfolding reads_on
    reads_on_fine h op r got timed sent [] = record { same = same_counted h sent; turn = tt }
    reads_on_fine h op r got timed sent (a ∷ xs) = record { same = same_counted h sent; turn = (tt, none) }

    reads_unless_fine : (h : Held) (op : CallOp) (r : Span) (got : List Column) (timed : List TimedOut)
        (awaited : List Awaited) (o : Option (List ℕ)) → MoveFine h op (reads_unless h r got timed awaited o)
    reads_unless_fine h op r got timed awaited None = reads_on_fine h op r got timed _ _
    reads_unless_fine h op r got timed awaited (Some ps) = still h op _ tt

    reads_fine : (h : Held) (op : CallOp) (r : Span) (got : List Column) (timed : List TimedOut)
        (awaited : List Awaited) → MoveFine h op (reads h r got timed awaited)
    unfolding reads
    reads_fine h op r got timed awaited = reads_unless_fine h op r got timed awaited _

    probes_on_fine : (h : Held) (op : CallOp) (got : List Column) (timed : List TimedOut) (sent awaited : List Awaited)
        → MoveFine h op (probes_on h got timed sent awaited)
    unfolding probes_on
    probes_on_fine h op got timed sent [] = record { same = same_counted h sent; turn = tt }
    probes_on_fine h op got timed sent (a ∷ xs) = record { same = same_counted h sent; turn = (tt, none) }

    probes_by_fine : (h : Held) (op : CallOp) (got : List Column) (timed : List TimedOut) (awaited : List Awaited)
        (o : Option ℕ) → MoveFine h op (probes_by h got timed awaited o)
    probes_by_fine h op got timed awaited None = still h op _ tt
    probes_by_fine h op got timed awaited (Some k) =
        either h op _ _ _ (still h op _ tt) (probes_on_fine h op got timed _ _)

    probes_fine : (h : Held) (op : CallOp) (got : List Column) (timed : List TimedOut) (awaited : List Awaited)
        → MoveFine h op (probes h got timed awaited)
    unfolding probes
    probes_fine h op got timed awaited = probes_by_fine h op got timed awaited _

    -- ---- writes

    accounted_fine : (h : Held) (op : CallOp) (timed : List TimedOut) → TurnFine (Some h) op (accounted op timed)
    accounted_fine h op [] = tt
    accounted_fine h op (t ∷ ts) = (tt, none)

    written_fine : (h : Held) (op : CallOp) (timed : List TimedOut) (sent : List Awaited) → Writes (Some h) op
        → TurnFine (Some (counted h sent)) op (written h op timed)
    unfolding written
    written_fine h op timed sent w = elim (cases_Bool (is_past_size h op)) [
      | inl t ↦ rw t ((w, t), none)
      | inr z ↦ rw z (accounted_fine (counted h sent) op timed)
    ]

    scatters_on_fine : (h : Held) (op : CallOp) (timed : List TimedOut) (queue : List Store)
        (sent awaited : List Awaited) → Writes (Some h) op → MoveFine h op (scatters_on h op timed queue sent awaited)
    unfolding scatters_on
    scatters_on_fine h op timed queue sent [] w = record {
      same = same_counted h sent;
      turn = written_fine h op timed sent w;
    }
    scatters_on_fine h op timed queue sent (a ∷ xs) w = record { same = same_counted h sent; turn = (w, none) }

    scatters_fine : (h : Held) (op : CallOp) (got : List Column) (timed : List TimedOut) → Writes (Some h) op
        → MoveFine h op (scatters h op got timed)
    unfolding scatters
    scatters_fine h op got timed w = scatters_on_fine h op timed _ _ _ w

    next_fine : (h : Held) (op : CallOp) (timed : List TimedOut) (queue : List Store) (k : ℕ) (awaited : List Awaited)
        → Writes (Some h) op → MoveFine h op (scatters_next h op timed queue k awaited)
    unfolding scatters_next
    next_fine h op timed queue k awaited w = scatters_on_fine h op timed _ _ _ w

    gathers_on_fine : (h : Held) (op : CallOp) (got : List Column) (timed : List TimedOut) (sent awaited : List Awaited)
        → Writes (Some h) op → MoveFine h op (gathers_on h op got timed sent awaited)
    unfolding gathers_on
    gathers_on_fine h op got timed sent [] w = scatters_fine h op got timed w
    gathers_on_fine h op got timed sent (a ∷ xs) w = record { same = same_counted h sent; turn = (w, none) }

    gathers_fine : (h : Held) (op : CallOp) (got : List Column) (timed : List TimedOut) (awaited : List Awaited)
        → Writes (Some h) op → MoveFine h op (gathers h op got timed awaited)
    unfolding gathers
    gathers_fine h op got timed awaited w = gathers_on_fine h op got timed _ _ w

    -- ---- a call begins

    pub begins_fine : (h : Held) (op : CallOp) → is_for h.reach h.size op ≡ true → MoveFine h op (begins h op)
    unfolding begins
    begins_fine h op covered = elim (cases_Bool (is_write op)) [
      | inl t ↦ rw t (gathers_fine h op [] [] [] (t, covered))
      | inr z ↦ rw z (either h op _ _ _ (probes_fine h op [] [] []) (reads_fine h op _ [] [] []))
    ]

    -- ---- the answer to a commit

    over_or : (n detail : ℕ) (h : Held) (op : CallOp) → (n ≡ NFS4ERR_BADLAYOUT) × (detail ≡ 0)
        → TurnFine (Some h) op (not_committed n detail)
    unfolding not_committed
    over_or n detail h op e = rw e.0 (refl, e.1)

    pub commit_fine : (h : Held) (op : CallOp) (a : Answer) (timed : List TimedOut)
        → GoodAnswer (λ f k. Unit {0}) op (Commit timed) a → MoveFine h op (on_commit h op a timed)
    unfolding on_commit
    commit_fine h op a timed (inl ok) =
        rw ok (record {
          same = record { file = refl; number = refl; reach = refl; map = refl; components = refl };
          turn = accounted_fine (record h { size = a.size }) op timed;
        })
    commit_fine h op a timed (inr e) =
        rw (e.0)
        (still h op (not_committed NFS4ERR_BADLAYOUT a.detail)
        (over_or NFS4ERR_BADLAYOUT a.detail h op (refl, e.1)))

  -- ---- replies and timeouts

  refused_fine : (h : Held) (op : CallOp) (p : Phase) (a : Awaited) (r : Reply) → NoGet out
      → MoveFine h op (refused h p a r)
  unfolding refused
  refused_fine h op p a r none = either h op _ _ _ (still h op _ tt) (still h op _ ((tt, tt), none))

  -- a phase that waits for drives
  abbrev pub IsWorking : Phase → Type 0
  IsWorking Starts = ⊥
  IsWorking (Needs n) = ⊥
  IsWorking (Waits n) = ⊥
  IsWorking p = Unit {0}

  performed_fine : (h : Held) (op : CallOp) (p : Phase) (a : Awaited) (r : Reply) → IsWorking p
      → PhaseFine K (Some h) out op p → MoveFine h op (performed h op p a r)
  performed_fine h op (Reads io) a r works x = reads_on_fine x.1 h op _ _ io.timed [] _
  performed_fine h op (Probes io) a r works x = probes_on_fine x.1 h op _ io.timed [] _
  performed_fine h op (Gathers io) a r works x = gathers_on_fine x.1 h op _ io.timed [] _ x.0
  performed_fine h op (Scatters io queue) a r works x = next_fine x.1 h op io.timed queue _ _ x.0
  performed_fine h op Starts a r works x = absurd works
  performed_fine h op (Needs n) a r works x = absurd works
  performed_fine h op (Waits n) a r works x = absurd works

  pub none_asked : (o : Option Held) (op : CallOp) (p : Phase) → IsWorking p → PhaseFine K o out op p → NoGet out
  none_asked o op (Reads io) works x = x.1
  none_asked o op (Probes io) works x = x.1
  none_asked o op (Gathers io) works x = x.1
  none_asked o op (Scatters io queue) works x = x.1
  none_asked o op Starts works x = x
  none_asked o op (Needs n) works x = x.1
  none_asked o op (Waits n) works x = absurd works

  pub replied_fine : (h : Held) (op : CallOp) (p : Phase) (a : Awaited) (r : Reply) → IsWorking p
      → PhaseFine K (Some h) out op p → MoveFine h op (replied h op p a r)
  unfolding replied
  replied_fine h op p a r works x =
      either h op _ _ _ (performed_fine h op p a r works x)
      (refused_fine h op p a r (none_asked (Some h) op p works x))

  gather_timed_fine : (h : Held) (op : CallOp) (io : Io) (k : ℕ) (timed : List TimedOut) → NoGet out
      → Writes (Some h) op → MoveFine h op (gather_timed h op io k timed)
  unfolding gather_timed
  gather_timed_fine h op io k timed none w =
      either h op _ _ _ (still h op _ tt) (gathers_fine none h op io.got timed _ w)

  scatter_timed_fine : (h : Held) (op : CallOp) (io : Io) (queue : List Store) (k : ℕ) (timed : List TimedOut)
      → NoGet out → Writes (Some h) op → MoveFine h op (scatter_timed h op io queue k timed)
  unfolding scatter_timed
  scatter_timed_fine h op io queue k timed none w =
      either h op _ _ _ (still h op _ ((tt, tt), none)) (scatters_on_fine none h op timed _ [] _ w)

  pub timed_fine : (h : Held) (op : CallOp) (p : Phase) (k : ℕ) (a : Awaited) (xs : List Awaited) → IsWorking p
      → PhaseFine K (Some h) out op p → MoveFine h op (timed_out h op p k a xs)
  timed_fine h op (Reads io) k a xs works x = reads_fine x.1 h op _ io.got _ _
  timed_fine h op (Probes io) k a xs works x = probes_fine x.1 h op io.got _ _
  timed_fine h op (Gathers io) k a xs works x = gather_timed_fine h op io k _ x.1 x.0
  timed_fine h op (Scatters io queue) k a xs works x = scatter_timed_fine h op io queue k _ x.1 x.0
  timed_fine h op Starts k a xs works x = absurd works
  timed_fine h op (Needs n) k a xs works x = absurd works
  timed_fine h op (Waits n) k a xs works x = absurd works
