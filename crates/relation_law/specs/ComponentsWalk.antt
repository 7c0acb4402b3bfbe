-- How the components of a file go on in a step of the server, note by note.
use Rattle.std.specs.Prelude.{◌≡◌, ℕ, ◌+◌, Bool, true, false, List, [], ◌∷◌, ◌++◌, slice_set, if◌then◌else◌}
use Rattle.server_rules.specs.Numbers.{among}
use Rattle.server_rules.specs.Standing.{lose_from}
use Rattle.server_rules.specs.Rebuild.{stands_at}
use Rattle.world_history.specs.ServerNames.{File, Kept, Component, Note, NoteKind, Rebuilt, NoSpace, Reported, Target, ToDeclare}
use Rattle.component_law.specs.Components.{is_lacking}
use Rattle.osd_lists.specs.declared.node.Node.TheVariants as node
use Rattle.server_rules.specs.History.{Input, Hears, Obeys}
use Rattle.server_rules.specs.Messages.{Orders}
use Rattle.world_history.specs.State.{World}
use Rattle.fence_law.specs.State.{State}
use Rattle.fence_law.specs.Machine.{after_all}
use Rattle.file_simulation.specs.ServerEvents.{noted}

-- the machine behind the events of some notes, one by one
unfoldable pub noted_after : State → World → File → Input → List Note → State
noted_after t w f i [] = t
noted_after t w f i (n ∷ ns) = noted_after (after_all t (noted t w f i n)) w f i ns

-- a note that tells of no component
abbrev pub is_silent : NoteKind → Bool
is_silent (Rebuilt k d) = false
is_silent (NoSpace k) = false
is_silent (Reported k) = false
is_silent kind = true

-- the notes, and a further one of the file
abbrev pub and_note : Kept → List Note → NoteKind → List Note
and_note k ns kind = ns ++ (record { file = k.number; kind = kind } ∷ [])

-- the notes of reported components: those with these numbers, from number k on
unfoldable pub reports_of : (file : ℕ) → List ℕ → List Component → (k : ℕ) → List Note
reports_of n ks [] k = []
reports_of n ks (at ∷ cs) k =
    (if among k ks then record { file = n; kind = Reported k } ∷ [] else []) ++ reports_of n ks cs (k + 1)

-- Q of what is kept and of the notes so far lasts through each part of a job.
pub record IsWalked (Q : Kept → List Note → Type 0) : Type 0 where
  -- what leaves number and components
  pub same : (k l : Kept) (ns : List Note) → l.number ≡ k.number → l.components ≡ k.components → Q k ns → Q l ns
  pub silent : (k : Kept) (ns : List Note) (kind : NoteKind) → is_silent kind ≡ true → Q k ns → Q k (and_note k ns kind)
  -- a component lacks space, and is missing from then on
  pub lost : (k : Kept) (ns : List Note) (n : ℕ) → Q k ns →
      Q (record k { components = lose_from (n ∷ []) k.components 0 }) (and_note k ns (NoSpace n))
  -- so does the target of a rebuild, which is missing
  pub full : (k : Kept) (ns : List Note) (n : ℕ) → is_lacking k.components n ≡ true → Q k ns →
      Q k (and_note k ns (NoSpace n))
  -- a component is made anew
  pub rebuilt : (k : Kept) (ns : List Note) (t : Target) → Q k ns →
      Q (record k { components = slice_set k.components t.component (stands_at t) })
      (and_note k ns (Rebuilt t.component t.drive))

-- so it lasts where a report is taken as a loss
abbrev pub TakesReports : (Kept → List Note → Type 0) → Type 0
TakesReports Q =
    (k : Kept) (ns : List Note) (ks : List ℕ) → Q k ns →
    Q (record k { components = lose_from ks k.components 0 }) (ns ++ reports_of k.number ks k.components 0)

-- no order comes in a message, and what comes is no declaration
abbrev pub IsPlain : Input → Type 0
IsPlain (Hears now node.Server (Orders o)) = ⊥
IsPlain (Obeys ToDeclare n) = ⊥
IsPlain i = Unit {0}
