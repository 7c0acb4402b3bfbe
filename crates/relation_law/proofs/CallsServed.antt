-- A request of a client is carried out: what the server's events make of what the machine has of the client.
-- Towards `CallsGoOn` (`specs/Steps.antt`).
use Rattle.std.proofs.Common.{◌≡◌, ℕ, ◌*◌, ◌<◌, ◌≤◌, max, Bool, true, List, Some, None, refl, sym, ap, subst, ◌∙◌, inl, inr, arith}
use Rattle.std.proofs.lemmas.Bool.{eq-eqb, ne_eqb}
use Rattle.layout_ops.specs.declared.statuses.TheConstants.{NFS4_OK}
use Rattle.layout_ops.specs.declared.messages.Answer.{Answer as ServerAnswer}
use Rattle.client_rules.specs.declared.limits.TheConstants.{NONCES}
use Rattle.client_rules.specs.Results.{status_of}
use Rattle.world_history.specs.ClientNames.{CallOp, TimedOut}
use Rattle.fence_law.specs.Words.{In as InRun}
use Rattle.fence_law.specs.State.{State, Grant, Answer}
use Rattle.fence_law.specs.State.Call.{Idle}
use Rattle.fence_law.specs.State.Commit.{CommitDone, CommitRefused}
use Rattle.fence_law.specs.State.Event.{Grants, Acknowledges, Leaves, Commits, RefusesCommit}
use Rattle.fence_law.specs.Starts.{granted}
use Rattle.fence_law.specs.Machine.{after}
use Rattle.fence_law.proofs.Words.{updated_same}
use Rattle.file_simulation.specs.Calls.{WaitsCommit, IsReporting, IsTaken}
use Rattle.relation_law.specs.CallsFrames.{IsCarried}

-- ---- a grant

pub grants_carried : (s : State) (c number : ℕ) (rw : Bool) (range : ℕ → Bool) (extending : Bool) → s.next ≤ number →
    IsCarried s (after s (Grants c number rw range extending)) c
grants_carried s c number rw range extending new = record {
  held = refl;
  size = refl;
  nonce = refl;
  call = refl;
  commit = refl;
  out = refl;
  next = omega (arith, new);
  count = omega arith;
  start = λ j low. refl;
  last = refl;
  acknowledged = λ j low mine. refl;
  committed = λ j low on. on;
}

-- its number is above the nonces of all grants before it
pub grants_fresh : (s : State) (c number : ℕ) (rw : Bool) (range : ℕ → Bool) (extending : Bool) → s.next ≤ number →
    s.nonce c < s.next * NONCES →
    ((g : Grant) (size : ℕ) → s.waiting c ≡ true →
    InRun (record { client = c; sequence = s.sequence c; grant = Some g; size = size }) s.answers →
    s.nonce c < g.number * NONCES) →
    (g : Grant) (size : ℕ) → s.waiting c ≡ true →
    InRun (record { client = c; sequence = s.sequence c; grant = Some g; size = size })
    (after s (Grants c number rw range extending)).answers →
    s.nonce c < g.number * NONCES
grants_fresh s c number rw range extending new used fresh g size w i = elim i [
  | inl e ↦ subst (λ n. s.nonce c < n * NONCES) (number_is (ap (λ (x : Answer). x.grant) e)) (above number new)
  | inr old ↦ fresh g size w old
]
  where
    number_is : Some g ≡ Some (granted s c number rw range extending) → number ≡ g.number
    number_is e = cc e

    above : (n : ℕ) → s.next ≤ n → s.nonce c < n * NONCES
    above n low = omega (arith, low, used)

-- ---- a commit

-- it is carried out: the answer has the greater size
pub commit_done : (s : State) (c : ℕ) (op : CallOp) (timed : List TimedOut) (j : ℕ) (g : Grant) (a : ServerAnswer) →
    WaitsCommit s c op timed None j → status_of a.results ≡ NFS4_OK → a.size ≡ max (s.known_size c) (s.start j).end_ →
    WaitsCommit (after s (Commits c j g)) c op timed (Some a) j
commit_done s c op timed j g a w ok size = let r = w.writing in record {
  writing = record {
    at_ = r.at_;
    commit_is = updated_same s.commit c (CommitDone j) ∙ sym (rw (eq-eqb (status_of a.results) NFS4_OK ok) refl);
    running =
        record { below = r.running.below; client = r.running.client; under = r.running.under; unfinished = r.running.unfinished };
    write = record { write = r.write.write; bytes = r.write.bytes; past = r.write.past; listed = r.write.listed };
    last = r.last;
  };
  out = record { sent = w.out.sent; queued = w.out.queued; others = w.out.others; known = w.out.known };
  committed = λ e. (size, updated_same s.committed j true);
}

-- it is refused
pub commit_refused : (s : State) (c : ℕ) (op : CallOp) (timed : List TimedOut) (j : ℕ) (a : ServerAnswer) →
    WaitsCommit s c op timed None j → (status_of a.results ≡ NFS4_OK → ⊥) →
    WaitsCommit (after s (RefusesCommit c j)) c op timed (Some a) j
commit_refused s c op timed j a w no_ = let r = w.writing in record {
  writing = record {
    at_ = r.at_;
    commit_is = updated_same s.commit c (CommitRefused j) ∙ sym (rw (ne_eqb (status_of a.results) NFS4_OK no_) refl);
    running =
        record { below = r.running.below; client = r.running.client; under = r.running.under; unfinished = r.running.unfinished };
    write = record { write = r.write.write; bytes = r.write.bytes; past = r.write.past; listed = r.write.listed };
    last = r.last;
  };
  out = record { sent = w.out.sent; queued = w.out.queued; others = w.out.others; known = w.out.known };
  committed = λ e. absurd (no_ e);
}

-- ---- a report that is taken as a loss

pub report_taken : (s : State) (c : ℕ) (op : CallOp) (timed : List TimedOut) (j : ℕ) → IsReporting s c op timed j →
    IsTaken (after s (Acknowledges c j)) c op j
report_taken s c op timed j w = let r = w.writing in record {
  at_ = updated_same s.call c Idle;
  commit = r.commit_is;
  below = r.running.below;
  client = r.running.client;
  write = record { write = r.write.write; bytes = r.write.bytes; past = r.write.past; listed = r.write.listed };
  last = r.last;
  acknowledged = updated_same s.acknowledged j true;
}

pub taken_left : (s : State) (c : ℕ) (op : CallOp) (j : ℕ) (g : Grant) → IsTaken s c op j →
    IsTaken (after s (Leaves c g)) c op j
taken_left s c op j g w = record {
  at_ = w.at_;
  commit = w.commit;
  below = w.below;
  client = w.client;
  write = record { write = w.write.write; bytes = w.write.bytes; past = w.write.past; listed = w.write.listed };
  last = w.last;
  acknowledged = w.acknowledged;
}

pub leaves_none : (s : State) (c : ℕ) (g : Grant) → (after s (Leaves c g)).held c ≡ None
leaves_none s c g = updated_same s.held c None
