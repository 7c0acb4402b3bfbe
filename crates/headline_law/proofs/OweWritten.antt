-- What a repair that writes awaits carries words, and so what it owes goes on.
-- Towards `OweFollows` (`specs/Parts.antt`).
use Rattle.std.proofs.Common.{ℕ, List, [], ◌∷◌, Option, Some, None}
use Rattle.world_history.specs.ServerNames.{File, Job, Work, Creates, Fences, Fetches, Stores, Targets, Gathers, Fills, Lengths, Checks, Awaited}
use Rattle.world_history.specs.State.{World}
use Rattle.fence_law.specs.State.{State}
use Rattle.file_simulation.specs.Jobs.{AreWritten, OweWords, DueIn, DueOf}

-- what a repair that writes awaits has words of e
abbrev pub WrittenIn : State → (e : ℕ → ℕ) → List Awaited → Work → Type 0
WrittenIn s e ws (Stores (p ∷ ps) short broken) = AreWritten s e ws
WrittenIn s e ws work = Unit {0}

abbrev pub WrittenOf : State → (e : ℕ → ℕ) → Option Job → Type 0
WrittenOf s e None = Unit {0}
WrittenOf s e (Some j) = WrittenIn s e j.awaited j.work

-- what a repair owes, and that what it awaits carries words of the same bytes
pub record OwesWritten (s : State) (w : World) (f : File) : Type 0 where
  pub owe : OweWords s w f
  pub written : WrittenOf s owe.bytes f.job

written_in : (s : State) (w : World) (f : File) (e : ℕ → ℕ) (ws : List Awaited) (work : Work) → DueIn s w f e ws work →
    WrittenIn s e ws work
written_in s w f e ws (Stores (p ∷ ps) short broken) due = due.1
written_in s w f e ws (Stores [] short broken) due = tt
written_in s w f e ws (Fetches todo short) due = tt
written_in s w f e ws Creates due = tt
written_in s w f e ws Fences due = tt
written_in s w f e ws (Targets t) due = tt
written_in s w f e ws (Gathers t todo) due = tt
written_in s w f e ws (Fills t todo) due = tt
written_in s w f e ws Lengths due = tt
written_in s w f e ws (Checks todo tally) due = tt

-- what is owed says so
pub written_of : (s : State) (w : World) (f : File) (e : ℕ → ℕ) (o : Option Job) → DueOf s w f e o → WrittenOf s e o
written_of s w f e None due = tt
written_of s w f e (Some j) due = written_in s w f e j.awaited j.work due
