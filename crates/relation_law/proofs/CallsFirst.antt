-- The first line of a client's turn: what its events make of what the machine has of the client.
-- Towards `CallsGoOn` (`specs/Steps.antt`).
use Rattle.std.proofs.Common.{◌≡◌, ℕ, ◌+◌, ◌*◌, ◌<◌, ◌≤◌, max, List, [], Option, Some, None, sym, subst, ◌∙◌, inr, arith}
use Rattle.data_map.specs.declared.check.RawMap.{RawMap}
use Rattle.layout_ops.specs.declared.statuses.TheConstants.{NFS4_OK}
use Rattle.layout_ops.specs.declared.messages.Answer.{Answer}
use Rattle.client_rules.specs.declared.limits.TheConstants.{NONCES}
use Rattle.client_rules.specs.Results.{status_of}
use Rattle.world_history.specs.ClientNames.{CallOp, Held, TimedOut}
use Rattle.fence_law.specs.State.{State, Grant}
use Rattle.fence_law.specs.State.Call.{Idle, Broken}
use Rattle.fence_law.specs.State.Commit.{NoCommit}
use Rattle.fence_law.specs.State.Event.{Takes, Forgets, Acknowledges, Breaks, Answers, EndsRead, Tells, TakesCommit, TakesRefusal}
use Rattle.fence_law.specs.Machine.{after}
use Rattle.fence_law.proofs.Words.{updated_same}
use Rattle.file_simulation.specs.Calls.{AreOut, IsWriting, Fits, WaitsCommit, IsIdle, IsBroken, IsHolding}
use Rattle.file_simulation.specs.Grants.{LayoutIs}

-- ---- the call

pub ends_idle : (s : State) (c j : ℕ) → s.commit c ≡ NoCommit → IsIdle (after s (EndsRead c j)) c
ends_idle s c j plain = record { at_ = updated_same s.call c Idle; commit = plain }

pub answers_idle : (s : State) (c j : ℕ) (f : ℕ → ℕ) → s.commit c ≡ NoCommit → IsIdle (after s (Answers c j f)) c
answers_idle s c j f plain = record { at_ = updated_same s.call c Idle; commit = plain }

pub acknowledges_idle : (s : State) (c j : ℕ) → s.commit c ≡ NoCommit → IsIdle (after s (Acknowledges c j)) c
acknowledges_idle s c j plain = record { at_ = updated_same s.call c Idle; commit = plain }

pub breaks_broken : (s : State) (c j : ℕ) → s.commit c ≡ NoCommit → IsBroken (after s (Breaks c j)) c
breaks_broken s c j plain = record { at_ = updated_same s.call c Broken; commit = plain }

pub forgets_idle : (s : State) (c : ℕ) → s.commit c ≡ NoCommit → IsIdle (after s (Forgets c)) c
forgets_idle s c plain = record { at_ = updated_same s.call c Idle; commit = plain }

pub forgets_none : (s : State) (c : ℕ) → (after s (Forgets c)).held c ≡ None
forgets_none s c = updated_same s.held c None

pub refusal_idle : (s : State) (c j : ℕ) → IsIdle (after s (TakesRefusal c j)) c
refusal_idle s c j = record { at_ = updated_same s.call c Idle; commit = updated_same s.commit c NoCommit }

pub refusal_none : (s : State) (c j : ℕ) → (after s (TakesRefusal c j)).held c ≡ None
refusal_none s c j = updated_same s.held c None

pub takes_idle : (s : State) (c : ℕ) (o : Option Grant) (size : ℕ) → IsIdle s c → IsIdle (after s (Takes c o size)) c
takes_idle s c o size k = record { at_ = k.at_; commit = k.commit }

pub tells_idle : (s : State) (c j : ℕ) → IsIdle s c → IsIdle (after s (Tells j)) c
tells_idle s c j k = record { at_ = k.at_; commit = k.commit }

-- ---- the grant

-- a grant that is taken
pub takes_holding : (m : RawMap) (s : State) (c : ℕ) (x : Grant) (size : ℕ) (h : Held) → LayoutIs m x h → size ≡ h.size →
    s.nonce c < x.number * NONCES → IsHolding m (after s (Takes c (Some x) size)) c h
takes_holding m s c x size h same size_is low = record {
  grant = x;
  held = updated_same s.held c (Some x);
  same = same;
  size = updated_same s.known_size c size ∙ size_is;
  nonce = below x.number h.number (same.same.number ∙ sym same.agrees.number) low;
}
  where
    below : (n k : ℕ) → n ≡ k → s.nonce c < n * NONCES → s.nonce c ≤ k * NONCES + h.count
    below n k e l = subst (λ i. s.nonce c ≤ i * NONCES + h.count) e (omega (arith, l))

pub takes_none : (s : State) (c size : ℕ) → (after s (Takes c None size)).held c ≡ None
takes_none s c size = updated_same s.held c None

-- ---- commits

-- its answer is taken: the commit is over, and the size is known
pub commit_taken : (s : State) (c : ℕ) (op : CallOp) (timed : List TimedOut) (a : Answer) (j i : ℕ) →
    WaitsCommit s c op timed (Some a) j → IsWriting (after s (TakesCommit c i)) c op NoCommit j
commit_taken s c op timed a j i w = let r = w.writing in record {
  at_ = r.at_;
  commit_is = updated_same s.commit c NoCommit;
  running =
      record { below = r.running.below; client = r.running.client; under = r.running.under; unfinished = r.running.unfinished };
  write = record { write = r.write.write; bytes = r.write.bytes; past = r.write.past; listed = r.write.listed };
  last = r.last;
}

pub commit_out : (s : State) (c : ℕ) (op : CallOp) (timed : List TimedOut) (a : Answer) (j i : ℕ) →
    WaitsCommit s c op timed (Some a) j → AreOut (after s (TakesCommit c i)) c j [] [] timed
commit_out s c op timed a j i w = let o = w.out in record {
  sent = o.sent;
  queued = o.queued;
  others = o.others;
  known = o.known;
}

pub commit_fits : (s : State) (c : ℕ) (op : CallOp) (timed : List TimedOut) (a : Answer) (j i : ℕ) →
    WaitsCommit s c op timed (Some a) j → status_of a.results ≡ NFS4_OK → Fits (after s (TakesCommit c i)) j
commit_fits s c op timed a j i w ok = inr (w.committed ok).1

pub commit_holding : (m : RawMap) (s : State) (c : ℕ) (op : CallOp) (timed : List TimedOut) (a : Answer) (j : ℕ) (h : Held) →
    WaitsCommit s c op timed (Some a) j → status_of a.results ≡ NFS4_OK → IsHolding m s c h →
    IsHolding m (after s (TakesCommit c j)) c (record h { size = a.size })
commit_holding m s c op timed a j h w ok k = record {
  grant = k.grant;
  held = k.held;
  same = record {
    given = k.same.given;
    same = k.same.same;
    agrees = record {
      file = k.same.agrees.file;
      number = k.same.agrees.number;
      rw = k.same.agrees.rw;
      extending = k.same.agrees.extending;
      first = k.same.agrees.first;
      end = k.same.agrees.end;
      map = k.same.agrees.map;
    };
    left = k.same.left;
    tag = k.same.tag;
  };
  size = updated_same s.known_size c (max (s.known_size c) (s.start j).end_) ∙ sym (w.committed ok).0;
  nonce = k.nonce;
}
