-- What the machine has of what is kept, behind a client's request.
use Rattle.std.specs.Prelude.{◌≡◌, ℕ, ◌+◌, true, false, List, Option, Some, None}
use Rattle.server_rules.specs.History.{Input}
use Rattle.server_rules.specs.Return.{Returned, NoGrant, Clean, Taken, return_row}
use Rattle.world_history.specs.ServerNames.{File, Note, ClientRequest, IoErr, Commit as Commits, Return as Returns}
use Rattle.world_history.specs.State.{World}
use Rattle.fence_law.specs.State as machine
use Rattle.fence_law.specs.State.{State, Event}
use Rattle.fence_law.specs.State.RequestKind.{Return}
use Rattle.fence_law.specs.Machine.{Lawful, after_all}
use Rattle.file_simulation.specs.EventLists.{entry_of}
use Rattle.relation_law.specs.KeptSteps.{notes_events, behind_notes, IsKeptAt}

-- Behind the notes of the step, and the events of its answer: the next grant has number `next`, and the file is g.
pub record AsksAs (next : ℕ) (t : State) (w : World) (f : File) (i : Input) (Given : Type 0) (ns : List Note)
    (answer : State → List Event) (g : File) : Type 0 where
  pub lawful : Given → Lawful t (notes_events t w f i ns)
  pub kept : Given → Lawful (behind_notes t w f i ns) (answer (behind_notes t w f i ns)) →
      IsKeptAt next (after_all (behind_notes t w f i ns) (answer (behind_notes t w f i ns))) g

-- A return, by what the machine has of it: a clean one has no report; one of a write that broke off isn't taken as a loss; and a
-- report that may be taken is of a client that holds its grant.
pub data ReturnIs (s : State) (c : ℕ) (row : Returned) : Type 0 where
  IsClean : s.waiting c ≡ true → s.asked c ≡ Return true → row ≡ Clean → ReturnIs s c row
  IsNothing : s.waiting c ≡ true → s.asked c ≡ Return true → row ≡ NoGrant → ReturnIs s c row
  IsBroken : s.waiting c ≡ true → s.asked c ≡ Return false → (row ≡ Clean → ⊥) → ((ks : List ℕ) → row ≡ Taken ks → ⊥) →
      ReturnIs s c row
  IsReport : s.waiting c ≡ false → (row ≡ Clean → ⊥) → (x : machine.Grant) → s.held c ≡ Some x → ReturnIs s c row

-- a commit carries the end of the write that its client is at
abbrev pub CommitIs : State → (c : ℕ) → Option ℕ → Type 0
CommitIs s c None = Unit {0}
CommitIs s c (Some last) = last + 1 ≡ (s.start (entry_of s c)).end_

-- what the machine has of a request on the file, in the parts of calls and of requests
pub record AsksRightly (s : State) (f : File) (q : ClientRequest) : Type 0 where
  pub commits : (last : Option ℕ) → q.args ≡ Commits last → CommitIs s q.client last
  pub returns : (report : List IoErr) → q.args ≡ Returns report → ReturnIs s q.client (return_row f.kept q.client report)
