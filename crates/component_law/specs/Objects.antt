-- Whose object numbers are: each is one file's for ever, and one component's of it.
use Rattle.std.specs.Prelude.{◌≡◌, ℕ, ◌<◌, List, [], ◌∷◌, ◌++◌, map, Option, Some, None}
use Rattle.server_rules.specs.Making.{new_server}
use Rattle.server_rules.specs.History.{Act, state_after}
use Rattle.server_rules.specs.Laws.{In}
use Rattle.history_law.specs.Names.{Server, File, Component, Target, Job, Work, Targets, Gathers, Fills}

-- ---- the objects of a file

-- those of components, present or missing
abbrev pub objects_of : List Component → List ℕ
objects_of cs = map (λ (at : Component). at.object) cs

-- where a job makes a component anew
abbrev pub target_in : Work → Option Target
target_in (Targets t) = Some t
target_in (Gathers t todo) = Some t
target_in (Fills t todo) = Some t
target_in work = None

abbrev pub target_of : Option Job → Option Target
target_of None = None
target_of (Some j) = target_in j.work

-- none of these is o
abbrev pub NoneIs : (o : ℕ) → List ℕ → Type 0
NoneIs o [] = Unit {0}
NoneIs o (x ∷ xs) = (x ≡ o → ⊥) × NoneIs o xs

-- no two are the same
abbrev pub AllDiffer : List ℕ → Type 0
AllDiffer [] = Unit {0}
AllDiffer (x ∷ xs) = NoneIs x xs × AllDiffer xs

-- ---- whose they are

-- each number is below this one and has the file as its owner; no two components have one, nor has what is made anew
-- that of any
pub record IsOwned (owner : ℕ → ℕ) (next : ℕ) (f : File) : Type 0 where
  pub components : (o : ℕ) → In o (objects_of f.kept.components) → (o < next) × (owner o ≡ f.kept.number)
  pub target : (t : Target) → target_of f.job ≡ Some t → (t.object < next) × (owner t.object ≡ f.kept.number)
  pub differ : AllDiffer (objects_of f.kept.components)
  pub apart : (t : Target) → target_of f.job ≡ Some t → NoneIs t.object (objects_of f.kept.components)

-- so it is of each file of a server
abbrev pub AreOwned : (ℕ → ℕ) → Server → Type 0
AreOwned owner s = (f : File) → In f s.files → IsOwned owner s.next_object f

-- by the same owners at each moment of a run, whatever came to the server
abbrev pub EachObjectIsOwned : Type 0
EachObjectIsOwned =
    (acts : List Act) →
    (owner : ℕ → ℕ) × ((before after : List Act) → acts ≡ before ++ after →
    AreOwned owner (state_after (new_server []) before))
