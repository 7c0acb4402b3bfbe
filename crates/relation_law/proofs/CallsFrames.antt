-- Events that aren't of a client leave what the machine has of it.
-- Towards `CallsGoOn` (`specs/Steps.antt`).
use Rattle.std.proofs.Common.{◌≡◌, ℕ, zero, suc, ◌+◌, ◌<◌, ◌≤◌, ◌==◌, ◌&&◌, Bool, true, false, max, List, [], ◌∷◌, Option, Some, None, refl, sym, ap, subst, ◌∙◌, inl, inr, arith, add-one, if◌then◌else◌}
use Rattle.std.proofs.lemmas.Bool.{ne_eqb}
use Rattle.fence_law.specs.Words.{updated, In as InRun}
use Rattle.fence_law.specs.State.{State, Grant, Event, Start, Answer, Call, Commit, PartState}
use Rattle.fence_law.specs.State.Call.{Idle, Writes, Reads, Broken}
use Rattle.fence_law.specs.State.Commit.{NoCommit, CommitAsked, CommitDone, CommitRefused}
use Rattle.fence_law.specs.State.PartState.{NotSent, Sent, Done}
use Rattle.fence_law.specs.State.Event.{Asks, Grants, Refuses, Takes, AsksOther, GivesBack, Reports, Forgets, Frees, StartsWrite, Sends, Learns, Acknowledges, Breaks, StartsRead, Answers, EndsRead, Leaves, AsksCommit, Commits, RefusesCommit, TakesCommit, TakesRefusal, Repairs, Rebuilds}
use Rattle.fence_law.specs.Machine.{after, after_all}
use Rattle.fence_law.specs.Starts.{written_start, read_start, repair_start, rebuilt_start, granted}
use Rattle.fence_law.proofs.Words.{updated_same, updated_other, up_on}
use Rattle.file_simulation.specs.EventLists.{last_write}
use Rattle.relation_law.specs.CallsFrames.{IsSpared, IsBeside, AreBeside}

-- ---- the same

pub spared_same : (s : State) (c : ℕ) → IsSpared s s c
spared_same s c = record {
  held = refl;
  size = refl;
  nonce = refl;
  call = refl;
  commit = refl;
  waiting = refl;
  sequence = refl;
  out = refl;
  next = omega arith;
  count = omega arith;
  start = λ j low. refl;
  last = refl;
  acknowledged = λ j low mine. refl;
  committed = λ j low on. on;
  answers = λ g size i. i;
}

pub spared_more : (s t u : State) (c : ℕ) → IsSpared s t c → IsSpared t u c → IsSpared s u c
spared_more s t u c a b = record {
  held = b.held ∙ a.held;
  size = b.size ∙ a.size;
  nonce = b.nonce ∙ a.nonce;
  call = b.call ∙ a.call;
  commit = b.commit ∙ a.commit;
  waiting = b.waiting ∙ a.waiting;
  sequence = b.sequence ∙ a.sequence;
  out = b.out ∙ a.out;
  next = omega (arith, a.next, b.next);
  count = omega (arith, a.count, b.count);
  start = λ j low. b.start j (omega (arith, low, a.count)) ∙ a.start j low;
  last = b.last ∙ a.last;
  acknowledged = λ j low mine.
      b.acknowledged j (omega (arith, low, a.count)) (ap (λ (x : Start). x.client) (a.start j low) ∙ mine)
      ∙ a.acknowledged j low mine;
  committed = λ j low on. b.committed j (omega (arith, low, a.count)) (a.committed j low on);
  answers = λ g size i. a.answers g size
      (subst (λ n. InRun (record { client = c; sequence = n; grant = Some g; size = size }) t.answers) a.sequence
      (b.answers g size
      (subst (λ n. InRun (record { client = c; sequence = n; grant = Some g; size = size }) u.answers) (sym a.sequence) i)));
}

-- ---- entries

other : (d c : ℕ) → (d ≡ c → ⊥) → c ≡ d → ⊥
other d c ne e = ne (sym e)

-- an entry more
started : (s : State) (x : Start) (j : ℕ) → j < s.count → updated s.start s.count x j ≡ s.start j
started s x j low = updated_other s.start s.count x j (λ e. absurd (omega (arith, low, e)))

unset : (f : ℕ → Bool) (n j : ℕ) → j < n → updated f n false j ≡ f j
unset f n j low = updated_other f n false j (λ e. absurd (omega (arith, low, e)))

last_below : (f : ℕ → Start) (x : Start) (c m n : ℕ) → n ≤ m → last_write (updated f m x) c n ≡ last_write f c n
unfolding last_write
last_below f x c m zero low = refl
last_below f x c m (suc n) low = rw (updated_other f m x n (λ e. absurd (omega (arith, low, e))))
    (ap (λ y. if (f n).is_write && ((f n).client == c) then n else y) (last_below f x c m n (omega (arith, low))))

-- an entry that isn't a write of the client
pub last_more : (s : State) (x : Start) (c : ℕ) → (x.is_write && (x.client == c)) ≡ false →
    last_write (updated s.start s.count x) c (s.count + 1) ≡ last_write s.start c s.count
unfolding last_write
last_more s x c e = rw (add-one, updated_same s.start s.count x, e) (last_below s.start x c s.count s.count (omega arith))

entry_added : (s : State) (x : Start) (c : ℕ) → (x.is_write && (x.client == c)) ≡ false →
    IsSpared s (record s {
      count = s.count + 1;
      start = updated s.start s.count x;
      committed = updated s.committed s.count false;
      acknowledged = updated s.acknowledged s.count false;
    }) c
entry_added s x c e = record {
  held = refl;
  size = refl;
  nonce = refl;
  call = refl;
  commit = refl;
  waiting = refl;
  sequence = refl;
  out = refl;
  next = omega arith;
  count = omega arith;
  start = λ j low. started s x j low;
  last = last_more s x c e;
  acknowledged = λ j low mine. unset s.acknowledged s.count j low;
  committed = λ j low on. unset s.committed s.count j low ∙ on;
  answers = λ g size i. i;
}

-- what an event of another client changes
call_of_other : (s : State) (x : Start) (c d : ℕ) (v : Call) → (d ≡ c → ⊥) → (x.is_write && (x.client == c)) ≡ false →
    IsSpared s (record s {
      count = s.count + 1;
      start = updated s.start s.count x;
      committed = updated s.committed s.count false;
      acknowledged = updated s.acknowledged s.count false;
      call = updated s.call d v;
    }) c
call_of_other s x c d v ne e = record {
  held = refl;
  size = refl;
  nonce = refl;
  call = updated_other s.call d v c (other d c ne);
  commit = refl;
  waiting = refl;
  sequence = refl;
  out = refl;
  next = omega arith;
  count = omega arith;
  start = λ j low. started s x j low;
  last = last_more s x c e;
  acknowledged = λ j low mine. unset s.acknowledged s.count j low;
  committed = λ j low on. unset s.committed s.count j low ∙ on;
  answers = λ g size i. i;
}

-- ---- fields

-- other values of the clients' fields, that are the same at c
fields : (s : State) (c : ℕ) (held : ℕ → Option Grant) (size nonce : ℕ → ℕ) (call : ℕ → Call) (commit : ℕ → Commit)
    (waiting : ℕ → Bool) (sequence : ℕ → ℕ) (out : ℕ → ℕ → ℕ → PartState) →
    held c ≡ s.held c → size c ≡ s.known_size c → nonce c ≡ s.nonce c → call c ≡ s.call c → commit c ≡ s.commit c →
    waiting c ≡ s.waiting c → sequence c ≡ s.sequence c → out c ≡ s.out c →
    IsSpared s (record s {
      held = held;
      known_size = size;
      nonce = nonce;
      call = call;
      commit = commit;
      waiting = waiting;
      sequence = sequence;
      out = out;
    }) c
fields s c held size nonce call commit waiting sequence out e1 e2 e3 e4 e5 e6 e7 e8 = record {
  held = e1;
  size = e2;
  nonce = e3;
  call = e4;
  commit = e5;
  waiting = e6;
  sequence = e7;
  out = e8;
  next = omega arith;
  count = omega arith;
  start = λ j low. refl;
  last = refl;
  acknowledged = λ j low mine. refl;
  committed = λ j low on. on;
  answers = λ g size i. i;
}

-- an answer to a client, which gives a grant to no client but d
answered : (s : State) (c : ℕ) (next : ℕ) (a : Answer) → s.next ≤ next →
    ((g : Grant) → a.client ≡ c → a.grant ≡ Some g → ⊥) →
    IsSpared s (record s { next = next; answers = a ∷ s.answers }) c
answered s c next a low none = record {
  held = refl;
  size = refl;
  nonce = refl;
  call = refl;
  commit = refl;
  waiting = refl;
  sequence = refl;
  out = refl;
  next = low;
  count = omega arith;
  start = λ j below. refl;
  last = refl;
  acknowledged = λ j below mine. refl;
  committed = λ j below on. on;
  answers = λ g size i. elim i [
    | inl e ↦ absurd (none g (ap (λ (x : Answer). x.client) (sym e)) (ap (λ (x : Answer). x.grant) (sym e)))
    | inr old ↦ old
  ];
}

-- another client's commit is carried out
commits : (s : State) (c d j : ℕ) (v : Commit) → (d ≡ c → ⊥) →
    IsSpared s (record s { commit = updated s.commit d v; committed = updated s.committed j true }) c
commits s c d j v ne = record {
  held = refl;
  size = refl;
  nonce = refl;
  call = refl;
  commit = updated_other s.commit d v c (other d c ne);
  waiting = refl;
  sequence = refl;
  out = refl;
  next = omega arith;
  count = omega arith;
  start = λ i below. refl;
  last = refl;
  acknowledged = λ i below mine. refl;
  committed = λ i below on. up_on s.committed j i on;
  answers = λ g size i. i;
}

-- another client's write is acknowledged
acknowledges : (s : State) (c d j : ℕ) → (d ≡ c → ⊥) → ((s.start j).client ≡ c → ⊥) →
    IsSpared s (record s { acknowledged = updated s.acknowledged j true; call = updated s.call d Idle }) c
acknowledges s c d j ne theirs = record {
  held = refl;
  size = refl;
  nonce = refl;
  call = updated_other s.call d Idle c (other d c ne);
  commit = refl;
  waiting = refl;
  sequence = refl;
  out = refl;
  next = omega arith;
  count = omega arith;
  start = λ i below. refl;
  last = refl;
  acknowledged = λ i below mine.
      updated_other s.acknowledged j true i (λ e. theirs (ap (λ n. (s.start n).client) (sym e) ∙ mine));
  committed = λ i below on. on;
  answers = λ g size i. i;
}

-- another client starts a write
writes : (s : State) (c d : ℕ) (x : Start) (v : Call) (o : ℕ → ℕ → PartState) → (d ≡ c → ⊥) →
    (x.is_write && (x.client == c)) ≡ false →
    IsSpared s (record s {
      count = s.count + 1;
      start = updated s.start s.count x;
      committed = updated s.committed s.count false;
      acknowledged = updated s.acknowledged s.count false;
      call = updated s.call d v;
      out = updated s.out d o;
    }) c
writes s c d x v o ne e = record {
  held = refl;
  size = refl;
  nonce = refl;
  call = updated_other s.call d v c (other d c ne);
  commit = refl;
  waiting = refl;
  sequence = refl;
  out = updated_other s.out d o c (other d c ne);
  next = omega arith;
  count = omega arith;
  start = λ j low. started s x j low;
  last = last_more s x c e;
  acknowledged = λ j low mine. unset s.acknowledged s.count j low;
  committed = λ j low on. unset s.committed s.count j low ∙ on;
  answers = λ g size i. i;
}

-- ---- events

none_given : (g : Grant) → None ≡ Some g → ⊥
none_given g e = cc e

pub spares : (c : ℕ) (s : State) (e : Event) → IsBeside c s e → IsSpared s (after s e) c
spares c s (Asks d rw) b = let ne = other d c b in
    fields s c s.held s.known_size s.nonce s.call s.commit (updated s.waiting d true)
    (updated s.sequence d (s.sequence d + 1)) s.out
    refl refl refl refl refl (updated_other s.waiting d true c ne)
    (updated_other s.sequence d (s.sequence d + 1) c ne) refl
spares c s (Grants d number rw range extending) b =
    answered s c (number + 1)
    (record { client = d; sequence = s.slot d + 1; grant = Some (granted s d number rw range extending); size = s.size })
    (omega (arith, b.1)) (λ g e x. b.0 e)
spares c s (Refuses d kind) b =
    answered s c s.next (record { client = d; sequence = s.slot d + 1; grant = None; size = s.size })
    (omega arith) (λ g e x. none_given g x)
spares c s (Frees d) b =
    answered s c s.next (record { client = d; sequence = s.slot d + 1; grant = None; size = s.size })
    (omega arith) (λ g e x. none_given g x)
spares c s (Takes d o s0) b = let ne = other d c b in
    fields s c (updated s.held d o) (updated s.known_size d s0) s.nonce s.call s.commit (updated s.waiting d false)
    s.sequence s.out
    (updated_other s.held d o c ne) (updated_other s.known_size d s0 c ne) refl refl refl
    (updated_other s.waiting d false c ne) refl refl
spares c s (AsksOther d) b = let ne = other d c b in
    fields s c s.held s.known_size s.nonce s.call s.commit s.waiting (updated s.sequence d (s.sequence d + 1)) s.out
    refl refl refl refl refl refl (updated_other s.sequence d (s.sequence d + 1) c ne) refl
spares c s (GivesBack d g) b = let ne = other d c b in
    fields s c (updated s.held d None) s.known_size s.nonce s.call s.commit (updated s.waiting d true)
    (updated s.sequence d (s.sequence d + 1)) s.out
    (updated_other s.held d None c ne) refl refl refl refl (updated_other s.waiting d true c ne)
    (updated_other s.sequence d (s.sequence d + 1) c ne) refl
spares c s (Reports d g) b = let ne = other d c b in
    fields s c (updated s.held d None) s.known_size s.nonce (updated s.call d Idle) s.commit (updated s.waiting d true)
    (updated s.sequence d (s.sequence d + 1)) s.out
    (updated_other s.held d None c ne) refl refl (updated_other s.call d Idle c ne) refl
    (updated_other s.waiting d true c ne) (updated_other s.sequence d (s.sequence d + 1) c ne) refl
spares c s (Forgets d) b = let ne = other d c b in
    fields s c (updated s.held d None) s.known_size s.nonce (updated s.call d Idle) s.commit s.waiting s.sequence s.out
    (updated_other s.held d None c ne) refl refl (updated_other s.call d Idle c ne) refl refl refl refl
spares c s (Leaves d g) b = let ne = other d c b in
    fields s c (updated s.held d None) s.known_size s.nonce s.call s.commit s.waiting s.sequence s.out
    (updated_other s.held d None c ne) refl refl refl refl refl refl refl
spares c s (StartsWrite d g i data_at touch hit seen e1 part) b =
    writes s c d (written_start s d g data_at touch hit seen e1 part) (Writes s.count) (λ k i2. NotSent) b
    (ne_eqb d c b)
spares c s (StartsRead d g lo hi reach) b =
    call_of_other s (read_start s d g lo hi reach) c d (Reads s.count) b refl
spares c s (Sends d k g j i v) b = let ne = other d c b in
    fields s c s.held s.known_size (updated s.nonce d v) s.call s.commit s.waiting s.sequence
    (updated s.out d (updated (s.out d) k (updated (s.out d k) i (Sent v))))
    refl refl (updated_other s.nonce d v c ne) refl refl refl refl
    (updated_other s.out d (updated (s.out d) k (updated (s.out d k) i (Sent v))) c ne)
spares c s (Learns d k j v i) b = let ne = other d c b in
    fields s c s.held s.known_size s.nonce s.call s.commit s.waiting s.sequence
    (updated s.out d (updated (s.out d) k (updated (s.out d k) i Done)))
    refl refl refl refl refl refl refl
    (updated_other s.out d (updated (s.out d) k (updated (s.out d k) i Done)) c ne)
spares c s (Acknowledges d j) b = acknowledges s c d j b.0 b.1
spares c s (Breaks d j) b = let ne = other d c b in
    fields s c s.held s.known_size s.nonce (updated s.call d Broken) s.commit s.waiting s.sequence s.out
    refl refl refl (updated_other s.call d Broken c ne) refl refl refl refl
spares c s (Answers d j f) b = let ne = other d c b in
    fields s c s.held s.known_size s.nonce (updated s.call d Idle) s.commit s.waiting s.sequence s.out
    refl refl refl (updated_other s.call d Idle c ne) refl refl refl refl
spares c s (EndsRead d j) b = let ne = other d c b in
    fields s c s.held s.known_size s.nonce (updated s.call d Idle) s.commit s.waiting s.sequence s.out
    refl refl refl (updated_other s.call d Idle c ne) refl refl refl refl
spares c s (AsksCommit d j) b = let ne = other d c b in
    fields s c s.held s.known_size s.nonce s.call (updated s.commit d (CommitAsked j)) s.waiting s.sequence s.out
    refl refl refl refl (updated_other s.commit d (CommitAsked j) c ne) refl refl refl
spares c s (Commits d j g) b = commits s c d j (CommitDone j) b
spares c s (RefusesCommit d j) b = let ne = other d c b in
    fields s c s.held s.known_size s.nonce s.call (updated s.commit d (CommitRefused j)) s.waiting s.sequence s.out
    refl refl refl refl (updated_other s.commit d (CommitRefused j) c ne) refl refl refl
spares c s (TakesCommit d j) b = let ne = other d c b in
    fields s c s.held (updated s.known_size d (max (s.known_size d) (s.start j).end_)) s.nonce s.call
    (updated s.commit d NoCommit) s.waiting s.sequence s.out
    refl (updated_other s.known_size d (max (s.known_size d) (s.start j).end_) c ne) refl refl
    (updated_other s.commit d NoCommit c ne) refl refl refl
spares c s (TakesRefusal d j) b = let ne = other d c b in
    fields s c (updated s.held d None) s.known_size s.nonce (updated s.call d Idle) (updated s.commit d NoCommit)
    s.waiting s.sequence s.out
    (updated_other s.held d None c ne) refl refl (updated_other s.call d Idle c ne)
    (updated_other s.commit d NoCommit c ne) refl refl refl
spares c s (Repairs k cells e) b = entry_added s (repair_start s k cells e) c refl
spares c s (Rebuilds k cells) b = entry_added s (rebuilt_start s k cells) c refl
spares c s e b = spared_same s c

-- events that aren't of c, one behind the other
pub spares_all : (c : ℕ) (s : State) (es : List Event) → AreBeside c s es → IsSpared s (after_all s es) c
spares_all c s [] b = spared_same s c
spares_all c s (e ∷ es) b =
    spared_more s (after s e) (after_all (after s e) es) c (spares c s e b.0) (spares_all c (after s e) es b.1)
