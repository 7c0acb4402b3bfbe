-- The guards of the events by which a client's call goes on: each of one event, at the machine before it.
-- Towards `EventsAreLawful` (`specs/Steps.antt`).
use Rattle.std.proofs.Common.{◌≡◌, ℕ, ◌<◌, true, false, List, [], Some, sym, ap, ◌∙◌, inl, inr}
use Rattle.std.proofs.lemmas.Bool.{false_from_ne_true, true≢false, eq-eqb, ne_eqb}
use Rattle.layout_ops.specs.declared.statuses.TheConstants.{NFS4_OK}
use Rattle.layout_ops.specs.declared.messages.Answer.{Answer}
use Rattle.client_rules.specs.Results.{status_of}
use Rattle.world_history.specs.ClientNames.{CallOp, TimedOut}
use Rattle.fence_law.specs.State.{State, Grant}
use Rattle.fence_law.specs.State.Call.{Idle, Writes as AtWrite, Reads as AtRead}
use Rattle.fence_law.specs.State.Commit.{NoCommit, CommitDone, CommitRefused}
use Rattle.fence_law.specs.State.Event.{Forgets, Acknowledges, Breaks, EndsRead, Tells, Leaves, AsksCommit, TakesCommit, TakesRefusal}
use Rattle.fence_law.specs.Machine.{Allowed}
use Rattle.fence_law.proofs.Commands.{Calls}
use Rattle.file_simulation.specs.EventLists.{entry_in, entry_of}
use Rattle.file_simulation.specs.Calls.{IsWriting, AreOut, IsTimedOut, Fits, WaitsCommit, IsReporting, commit_at}

-- ---- the entry that a call is at

pub entry_writes : (s : State) (c j : ℕ) → s.call c ≡ AtWrite j → entry_of s c ≡ j
entry_writes s c j e = ap entry_in e

pub entry_reads : (s : State) (c j : ℕ) → s.call c ≡ AtRead j → entry_of s c ≡ j
entry_reads s c j e = ap entry_in e

-- a client that runs a call waits for no answer of the file
pub not_waiting : (s : State) (c : ℕ) → Calls s → (s.call c ≡ Idle → ⊥) → s.waiting c ≡ false
not_waiting s c k busy = false_from_ne_true (s.waiting c) (λ on. busy (k.waits c on))

pub writes_busy : (s : State) (c j : ℕ) → s.call c ≡ AtWrite j → s.call c ≡ Idle → ⊥
writes_busy s c j e i = cc (sym i ∙ e)

pub reads_busy : (s : State) (c j : ℕ) → s.call c ≡ AtRead j → s.call c ≡ Idle → ⊥
reads_busy s c j e i = cc (sym i ∙ e)

-- ---- a call breaks off, ends or is forgotten

pub breaks_allowed : (s : State) (c : ℕ) (op : CallOp) (j : ℕ) → IsWriting s c op NoCommit j →
    Allowed s (Breaks c (entry_of s c))
breaks_allowed s c op j w = record {
  runs = w.at_ ∙ ap AtWrite (sym (entry_writes s c j w.at_));
  plain = w.commit_is;
}

pub ends_read_allowed : (s : State) (c j : ℕ) → s.call c ≡ AtRead j → Allowed s (EndsRead c (entry_of s c))
ends_read_allowed s c j e = e ∙ ap AtRead (sym (entry_reads s c j e))

pub forgets_allowed : (s : State) (c : ℕ) → s.waiting c ≡ false → s.commit c ≡ NoCommit → Allowed s (Forgets c)
forgets_allowed s c free plain = record { free = free; plain = plain }

-- ---- commits

pub asks_commit_allowed : (s : State) (c : ℕ) (op : CallOp) (j : ℕ) → IsWriting s c op NoCommit j →
    Allowed s (AsksCommit c (entry_of s c))
asks_commit_allowed s c op j w = record {
  runs = w.at_ ∙ ap AtWrite (sym (entry_writes s c j w.at_));
  plain = w.commit_is;
}

commit_ok : (j : ℕ) (a : Answer) → status_of a.results ≡ NFS4_OK → commit_at j (Some a) ≡ CommitDone j
commit_ok j a e = rw (eq-eqb (status_of a.results) NFS4_OK e)

commit_not : (j : ℕ) (a : Answer) → (status_of a.results ≡ NFS4_OK → ⊥) → commit_at j (Some a) ≡ CommitRefused j
commit_not j a ne = rw (ne_eqb (status_of a.results) NFS4_OK ne)

pub takes_commit_allowed : (s : State) (c : ℕ) (op : CallOp) (timed : List TimedOut) (a : Answer) (j : ℕ) →
    WaitsCommit s c op timed (Some a) j → status_of a.results ≡ NFS4_OK → Allowed s (TakesCommit c (entry_of s c))
takes_commit_allowed s c op timed a j w ok =
    w.writing.commit_is ∙ commit_ok j a ok ∙ ap CommitDone (sym (entry_writes s c j w.writing.at_))

pub takes_refusal_allowed : (s : State) (c : ℕ) (op : CallOp) (timed : List TimedOut) (a : Answer) (j : ℕ) →
    WaitsCommit s c op timed (Some a) j → (status_of a.results ≡ NFS4_OK → ⊥) → Allowed s (TakesRefusal c (entry_of s c))
takes_refusal_allowed s c op timed a j w no_ =
    w.writing.commit_is ∙ commit_not j a no_ ∙ ap CommitRefused (sym (entry_writes s c j w.writing.at_))

-- ---- a write is over

-- each part was performed
pub acknowledges_allowed : (s : State) (c : ℕ) (op : CallOp) (j : ℕ) → IsWriting s c op NoCommit j →
    AreOut s c j [] [] [] → Fits s j → Allowed s (Acknowledges c j)
acknowledges_allowed s c op j w o fits = record {
  runs = w.at_;
  plain = w.commit_is;
  fits = fits;
  told = λ k i v e. absurd (elim (o.known k i v e) [ inl a ↦ a.1 | inr t ↦ t.1 ]);
  all = λ k z v e. elim (o.others k z v e) [
    | inl a ↦ absurd a.1
    | inr (inl q) ↦ absurd q.1
    | inr (inr (inl done)) ↦ inl done
    | inr (inr (inr (inl left))) ↦ absurd (true≢false (sym left ∙ w.write.listed k z v e))
    | inr (inr (inr (inr t))) ↦ absurd t.1
  ];
}

-- or is for a component that was reported, which is lost since, under a grant of the file's tag
pub loss_acknowledges_allowed : (s : State) (c : ℕ) (op : CallOp) (timed : List TimedOut) (j : ℕ) →
    IsReporting s c op timed j → ((k : ℕ) → IsTimedOut timed k → s.gone k ≡ true) → (s.start j).tag ≡ s.tag →
    Allowed s (Acknowledges c j)
loss_acknowledges_allowed s c op timed j w gone tag = record {
  runs = w.writing.at_;
  plain = w.writing.commit_is;
  fits = w.fits;
  told = λ k i v e. elim (w.out.known k i v e) [ inl a ↦ absurd a.1 | inr t ↦ gone k t ];
  all = λ k z v e. elim (w.out.others k z v e) [
    | inl a ↦ absurd a.1
    | inr (inl q) ↦ absurd q.1
    | inr (inr (inl done)) ↦ inl done
    | inr (inr (inr (inl left))) ↦ absurd (true≢false (sym left ∙ w.writing.write.listed k z v e))
    | inr (inr (inr (inr t))) ↦ inr (gone k t, tag)
  ];
}

pub leaves_allowed : (s : State) (c : ℕ) (g : Grant) → s.held c ≡ Some g → s.call c ≡ Idle → Allowed s (Leaves c g)
leaves_allowed s c g has idle = record { has = has; idle = idle }

-- the client is told of a write that is acknowledged
pub tells_allowed : (s : State) (j : ℕ) → j < s.count → s.acknowledged j ≡ true → Allowed s (Tells j)
tells_allowed s j low on = record { low = low; on = on }
