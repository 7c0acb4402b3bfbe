-- The messages of a client's turn: what their events make of what the machine has of the client.
-- Towards `CallsGoOn` (`specs/Steps.antt`).
use Rattle.std.proofs.Common.{◌≡◌, ◌⊎◌, ℕ, ◌+◌, Bool, true, false, List, [], Option, Some, None, refl, sym, ap, subst, ◌∙◌, inl, inr, arith, add-one}
use Rattle.std.proofs.lemmas.Bool.{eq-eqb}
use Rattle.std.proofs.lemmas.Option.{same_Some}
use Rattle.data_map.specs.declared.check.RawMap.{RawMap}
use Rattle.file_log.specs.Judge.{byte_for}
use Rattle.server_rules.specs.Laws.{In}
use Rattle.client_rules.specs.Calls.{span_of, bytes_of}
use Rattle.world_history.specs.ClientNames.{CallOp, TimedOut, Store, Column}
use Rattle.fence_law.specs.Words.{updated}
use Rattle.fence_law.specs.State.{State, Grant, Start, PartState}
use Rattle.fence_law.specs.State.Call.{Idle, Writes as AtWrite, Reads as AtRead}
use Rattle.fence_law.specs.State.Commit.{NoCommit, CommitAsked}
use Rattle.fence_law.specs.State.PartState.{NotSent}
use Rattle.fence_law.specs.State.Event.{Asks, AsksOther, GivesBack, Reports, StartsWrite, StartsRead, AsksCommit}
use Rattle.fence_law.specs.Starts.{written_start, read_start}
use Rattle.fence_law.specs.Machine.{after}
use Rattle.fence_law.proofs.Words.{updated_same}
use Rattle.plan_law.specs.Writes.{touches_column}
use Rattle.file_simulation.specs.EventLists.{last_write}
use Rattle.file_simulation.specs.Calls.{IsOfGrant, IsRunning, IsReading, IsGathering, IsQueued, IsTimedOut, AreOut, PartsDiffer, CarriesContent, IsWriting, IsScattering, IsIdle, IsBroken}
use Rattle.relation_law.specs.CallsFrames.{IsCarried}

-- ---- requests

pub asks_carried : (s : State) (c : ℕ) (rw : Bool) → IsCarried s (after s (Asks c rw)) c
asks_carried s c rw = record {
  held = refl;
  size = refl;
  nonce = refl;
  call = refl;
  commit = refl;
  out = refl;
  next = omega arith;
  count = omega arith;
  start = λ j low. refl;
  last = refl;
  acknowledged = λ j low mine. refl;
  committed = λ j low on. on;
}

pub asks_other_carried : (s : State) (c : ℕ) → IsCarried s (after s (AsksOther c)) c
asks_other_carried s c = record {
  held = refl;
  size = refl;
  nonce = refl;
  call = refl;
  commit = refl;
  out = refl;
  next = omega arith;
  count = omega arith;
  start = λ j low. refl;
  last = refl;
  acknowledged = λ j low mine. refl;
  committed = λ j low on. on;
}

pub gives_back_idle : (s : State) (c : ℕ) (g : Grant) → IsIdle s c → IsIdle (after s (GivesBack c g)) c
gives_back_idle s c g k = record { at_ = k.at_; commit = k.commit }

pub gives_back_none : (s : State) (c : ℕ) (g : Grant) → (after s (GivesBack c g)).held c ≡ None
gives_back_none s c g = updated_same s.held c None

pub reports_idle : (s : State) (c : ℕ) (g : Grant) → IsBroken s c → IsIdle (after s (Reports c g)) c
reports_idle s c g k = record { at_ = updated_same s.call c Idle; commit = k.commit }

pub reports_none : (s : State) (c : ℕ) (g : Grant) → (after s (Reports c g)).held c ≡ None
reports_none s c g = updated_same s.held c None

-- ---- a commit is asked

pub commit_asked : (s : State) (c : ℕ) (op : CallOp) (j : ℕ) → IsWriting s c op NoCommit j →
    IsWriting (after s (AsksCommit c j)) c op (CommitAsked j) j
commit_asked s c op j w = record {
  at_ = w.at_;
  commit_is = updated_same s.commit c (CommitAsked j);
  running =
      record { below = w.running.below; client = w.running.client; under = w.running.under; unfinished = w.running.unfinished };
  write = record { write = w.write.write; bytes = w.write.bytes; past = w.write.past; listed = w.write.listed };
  last = w.last;
}

pub commit_asked_out : (s : State) (c j i : ℕ) (timed : List TimedOut) → AreOut s c j [] [] timed →
    AreOut (after s (AsksCommit c i)) c j [] [] timed
commit_asked_out s c j i timed o = record { sent = o.sent; queued = o.queued; others = o.others; known = o.known }

-- ---- an entry starts

-- under the grant that its client holds
first_running : (s t : State) (c : ℕ) (g : Grant) (x : Start) → s.held c ≡ Some g → t.held c ≡ s.held c →
    t.count ≡ s.count + 1 → t.start s.count ≡ x → t.acknowledged s.count ≡ false → x.client ≡ c → IsOfGrant x g →
    IsRunning t c s.count
first_running s t c g x has held count start told client under = record {
  below = omega (arith, count);
  client = ap (λ (y : Start). y.client) start ∙ client;
  under = λ y e.
      let same : Some g ≡ Some y = sym has ∙ sym held ∙ e in
      subst (λ z. IsOfGrant (t.start s.count) z) (same_Some g y same) (subst (λ z. IsOfGrant z g) (sym start) under);
  unfinished = told;
}

read_entry : (s : State) (c : ℕ) (g : Grant) (lo hi : ℕ) (reach : ℕ → Bool) →
    (after s (StartsRead c g lo hi reach)).start s.count ≡ read_start s c g lo hi reach
read_entry s c g lo hi reach = updated_same s.start s.count (read_start s c g lo hi reach)

read_running : (s : State) (c : ℕ) (g : Grant) (lo hi : ℕ) (reach : ℕ → Bool) → s.held c ≡ Some g →
    IsRunning (after s (StartsRead c g lo hi reach)) c s.count
read_running s c g lo hi reach has =
    first_running s (after s (StartsRead c g lo hi reach)) c g (read_start s c g lo hi reach) has refl refl
    (read_entry s c g lo hi reach) (updated_same s.acknowledged s.count false) refl
    (record { number = refl; tag = refl; left = λ k. refl })

-- a read of the call's range
pub read_starts : (s : State) (c : ℕ) (op : CallOp) (g : Grant) (reach : ℕ → Bool) → IsIdle s c → s.held c ≡ Some g →
    IsReading (after s (StartsRead c g (span_of op).offset ((span_of op).offset + (span_of op).length) reach)) c op s.count
read_starts s c op g reach idle has =
    let lo : ℕ = (span_of op).offset in
    let hi : ℕ = (span_of op).offset + (span_of op).length in
    let e = read_entry s c g lo hi reach in
    record {
      at_ = updated_same s.call c (AtRead s.count);
      commit = idle.commit;
      running = read_running s c g lo hi reach has;
      first = ap (λ (y : Start). y.from_) e;
      past = ap (λ (y : Start). y.to_) e;
      clip = ap (λ (y : Start). y.clip) e;
    }

-- a gather of all columns that the call touches
pub gather_starts : (m : RawMap) (s : State) (c : ℕ) (op : CallOp) (g : Grant) → IsIdle s c → s.held c ≡ Some g →
    IsGathering m (after s (StartsRead c g 0 0 (touches_column m (span_of op)))) c op s.count
gather_starts m s c op g idle has =
    let e = read_entry s c g 0 0 (touches_column m (span_of op)) in
    record {
      at_ = updated_same s.call c (AtRead s.count);
      commit = idle.commit;
      running = read_running s c g 0 0 (touches_column m (span_of op)) has;
      reach = λ x on. ap (λ (y : Start). y.reach x) e ∙ on;
    }

-- ---- a write starts

last_is : (f : ℕ → Start) (x : Start) (c n : ℕ) → x.is_write ≡ true → x.client ≡ c →
    last_write (updated f n x) c (n + 1) ≡ n
unfolding last_write
last_is f x c n w e = rw (add-one, updated_same f n x, w, e, eq-eqb c c refl) refl

-- What the plan has to give of a write that starts as entry x: each cell that it changes is in one of its WRITEs, or of a
-- component that timed out in its gather; each WRITE carries the entry's content; no two are for one part.
pub record IsPlanned (x : Start) (timed : List TimedOut) (all : List Store) : Type 0 where
  pub listed : (k z v : ℕ) → x.content k z ≡ Some v → x.left k ≡ false
  pub covered : (k z v : ℕ) → x.content k z ≡ Some v → IsQueued all k (x.part k z) ⊎ IsTimedOut timed k
  pub content : (q : Store) → In q all → CarriesContent x q
  pub differ : PartsDiffer all

module _ (s : State) (c : ℕ) (op : CallOp) (g : Grant) (i : ℕ) (d : ℕ → Option ℕ) (touch : ℕ → Bool) (hit : ℕ → ℕ → Bool)
    (seen : ℕ → ℕ) (end_ : ℕ) (part : ℕ → ℕ → ℕ) where
  abbrev x : Start
  x = written_start s c g d touch hit seen end_ part

  abbrev t : State
  t = after s (StartsWrite c g i d touch hit seen end_ part)

  entry : t.start s.count ≡ x
  entry = updated_same s.start s.count x

  pub write_starts : (got : List Column) (timed : List TimedOut) (all : List Store) → s.commit c ≡ NoCommit →
      s.held c ≡ Some g →
      ((p : ℕ) → d p ≡ byte_for (span_of op).offset (bytes_of op) p) →
      end_ ≡ (span_of op).offset + (span_of op).length → IsPlanned x timed all →
      IsScattering t c op (record { awaited = []; got = got; timed = timed }) all s.count
  write_starts got timed all plain has bytes past plan = record {
    writing = record {
      at_ = updated_same s.call c (AtWrite s.count);
      commit_is = plain;
      running = first_running s t c g x has refl refl entry (updated_same s.acknowledged s.count false) refl
          (record { number = refl; tag = refl; left = λ k. refl });
      write = record {
        write = ap (λ (y : Start). y.is_write) entry;
        bytes = λ p. ap (λ (y : Start). y.data_at p) entry ∙ bytes p;
        past = ap (λ (y : Start). y.end_) entry ∙ past;
        listed = λ k z v. subst (λ (y : Start). y.content k z ≡ Some v → y.left k ≡ false) (sym entry) (plan.listed k z v);
      };
      last = last_is s.start x c s.count refl refl;
    };
    clip = ap (λ (y : Start). y.clip) entry;
    out = record {
      sent = λ a n. absurd n;
      queued = λ q n. unsent q.ask.component q.ask.offset;
      others = λ k z v e.
          let part_is : (t.start s.count).part k z ≡ x.part k z = ap (λ (y : Start). y.part k z) entry in
          elim (plan.covered k z v (sym (ap (λ (y : Start). y.content k z) entry) ∙ e)) [
            | inl q ↦ inr (inl (q.0, q.1, q.2, q.3 ∙ sym part_is))
            | inr n ↦ inr (inr (inr (inr n)))
          ];
      known = λ k n v e. absurd (cc (sym (unsent k n) ∙ e));
    };
    content = λ q n. subst (λ y. CarriesContent y q) (sym entry) (plan.content q n);
    differ = plan.differ;
  }
    where
      unsent : (k n : ℕ) → t.out c k n ≡ NotSent
      unsent k n = ap (λ (f : ℕ → ℕ → PartState). f k n) (updated_same s.out c (λ k2 i2. NotSent))
