-- What stays of a client in the machine of a file while others go on.
use Rattle.std.specs.Prelude.{◌≡◌, ℕ, ◌<◌, ◌≤◌, true, List, [], ◌∷◌, Some}
use Rattle.fence_law.specs.Words.{In as InRun}
use Rattle.fence_law.specs.State.{State, Grant, Event}
use Rattle.fence_law.specs.State.Event.{Asks, Grants, Takes, AsksOther, GivesBack, Reports, Forgets, StartsWrite, Sends, Learns, Acknowledges, Breaks, StartsRead, Answers, EndsRead, Leaves, AsksCommit, Commits, RefusesCommit, TakesCommit, TakesRefusal}
use Rattle.fence_law.specs.Machine.{after}
use Rattle.file_simulation.specs.EventLists.{write_of}

-- Machine t has of client c what machine s has: what it holds and is at, what it waits for, and its entries. Entries of
-- others may have come, and answers that give it nothing.
abbrev pub IsSpared : (s t : State) → (c : ℕ) → Type 0
IsSpared s t c = record {
  held : t.held c ≡ s.held c;
  size : t.known_size c ≡ s.known_size c;
  nonce : t.nonce c ≡ s.nonce c;
  call : t.call c ≡ s.call c;
  commit : t.commit c ≡ s.commit c;
  waiting : t.waiting c ≡ s.waiting c;
  sequence : t.sequence c ≡ s.sequence c;
  out : t.out c ≡ s.out c;
  next : s.next ≤ t.next;
  count : s.count ≤ t.count;
  start : (j : ℕ) → j < s.count → t.start j ≡ s.start j;
  last : write_of t c ≡ write_of s c;
  acknowledged : (j : ℕ) → j < s.count → (s.start j).client ≡ c → t.acknowledged j ≡ s.acknowledged j;
  committed : (j : ℕ) → j < s.count → s.committed j ≡ true → t.committed j ≡ true;
  answers : (g : Grant) (size : ℕ) →
      InRun (record { client = c; sequence = s.sequence c; grant = Some g; size = size }) t.answers →
      InRun (record { client = c; sequence = s.sequence c; grant = Some g; size = size }) s.answers;
}

-- Of these it has what the client holds and is at, and its entries: the client may have asked since, or taken an answer.
abbrev pub IsCarried : (s t : State) → (c : ℕ) → Type 0
IsCarried s t c = record {
  held : t.held c ≡ s.held c;
  size : t.known_size c ≡ s.known_size c;
  nonce : t.nonce c ≡ s.nonce c;
  call : t.call c ≡ s.call c;
  commit : t.commit c ≡ s.commit c;
  out : t.out c ≡ s.out c;
  next : s.next ≤ t.next;
  count : s.count ≤ t.count;
  start : (j : ℕ) → j < s.count → t.start j ≡ s.start j;
  last : write_of t c ≡ write_of s c;
  acknowledged : (j : ℕ) → j < s.count → (s.start j).client ≡ c → t.acknowledged j ≡ s.acknowledged j;
  committed : (j : ℕ) → j < s.count → s.committed j ≡ true → t.committed j ≡ true;
}

-- an event that isn't of client c
abbrev pub IsBeside : (c : ℕ) → State → Event → Type 0
IsBeside c s (Asks d rw) = d ≡ c → ⊥
IsBeside c s (Grants d number rw range extending) = (d ≡ c → ⊥) × (s.next ≤ number)
IsBeside c s (Takes d o s0) = d ≡ c → ⊥
IsBeside c s (AsksOther d) = d ≡ c → ⊥
IsBeside c s (GivesBack d g) = d ≡ c → ⊥
IsBeside c s (Reports d g) = d ≡ c → ⊥
IsBeside c s (Forgets d) = d ≡ c → ⊥
IsBeside c s (StartsWrite d g i data_at touch hit seen e1 part) = d ≡ c → ⊥
IsBeside c s (Sends d k g j i v) = d ≡ c → ⊥
IsBeside c s (Learns d k j v i) = d ≡ c → ⊥
IsBeside c s (Acknowledges d j) = (d ≡ c → ⊥) × ((s.start j).client ≡ c → ⊥)
IsBeside c s (Breaks d j) = d ≡ c → ⊥
IsBeside c s (StartsRead d g lo hi reach) = d ≡ c → ⊥
IsBeside c s (Answers d j f) = d ≡ c → ⊥
IsBeside c s (EndsRead d j) = d ≡ c → ⊥
IsBeside c s (Leaves d g) = d ≡ c → ⊥
IsBeside c s (AsksCommit d j) = d ≡ c → ⊥
IsBeside c s (Commits d j g) = d ≡ c → ⊥
IsBeside c s (RefusesCommit d j) = d ≡ c → ⊥
IsBeside c s (TakesCommit d j) = d ≡ c → ⊥
IsBeside c s (TakesRefusal d j) = d ≡ c → ⊥
IsBeside c s e = Unit {0}

-- so is each of these
abbrev pub AreBeside : (c : ℕ) → State → List Event → Type 0
AreBeside c s [] = Unit {0}
AreBeside c s (e ∷ es) = IsBeside c s e × AreBeside c (after s e) es
