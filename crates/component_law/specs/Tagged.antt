-- What the server sends to drives has no later tag than the file whose object it goes to.
use Rattle.std.specs.Prelude.{◌≡◌, ◌⊎◌, ◌<◌, ◌≤◌, ℕ, Bool, true, false, List, [], ◌∷◌, ◌++◌, Some}
use Rattle.osd_commands.specs.declared.actions.Action.TheVariants.{SetTag}
use Rattle.server_rules.specs.Files.{file_at}
use Rattle.server_rules.specs.History.{Act, step, state_after}
use Rattle.server_rules.specs.Laws.{In}
use Rattle.server_rules.specs.Making.{new_server}
use Rattle.history_law.specs.Names.{Server, File, Kept, Phase, Fencing, FencingAgain, Command, Outgoing, ToDrive}
use Rattle.component_law.specs.Words.{Each}
use Rattle.component_law.specs.Naming.{IsNamedInput}
use Rattle.component_law.specs.Objects.{AreOwned}

-- ---- a fence

-- a fence of the file was begun, and its tag isn't raised yet
abbrev pub is_fence : Phase → Bool
is_fence Fencing = true
is_fence FencingAgain = true
is_fence phase = false

abbrev pub fence_open : Kept → Bool
fence_open k = is_fence k.phase

-- ---- a command

-- Its tag isn't past the file's. Behind a SET TAG the object's isn't either, unless the fence is open: then it is the
-- next one.
abbrev pub IsBehind : Kept → Command → Type 0
IsBehind k c =
    (c.capability.tag ≤ k.tag) × (c.action ≡ SetTag → (c.capability.tag < k.tag) ⊎ (fence_open k ≡ true))

-- it goes to an object of a file, whose number was used, and isn't past that file
pub record HasFile (owner : ℕ → ℕ) (s : Server) (c : Command) : Type 0 where
  pub file : File
  pub there : file_at s.files (owner c.object) ≡ Some file
  pub used : c.object < s.next_object
  pub behind : IsBehind file.kept c

-- so it is of each command among what is sent
abbrev pub HaveFiles : (ℕ → ℕ) → Server → List Outgoing → Type 0
HaveFiles owner s sends = (drive : ℕ) (c : Command) → In (ToDrive drive c) sends → HasFile owner s c

-- ---- a run

-- all that a server sends over these
unfoldable pub sent_over : Server → List Act → List Outgoing
sent_over s [] = []
sent_over s (a ∷ acts) = (step s a.chosen a.input).sends ++ sent_over (step s a.chosen a.input).state acts

-- lines can name the files that are made, and the drives that are added
abbrev pub AreNamedActs : List Act → Type 0
AreNamedActs acts = Each (λ (a : Act). IsNamedInput a.input) acts

-- At each moment of a run all that was sent so far goes to objects of files, and isn't past them; the owners of objects
-- are the same at all moments.
abbrev pub NoCommandIsAhead : Type 0
NoCommandIsAhead =
    (acts : List Act) → AreNamedActs acts →
    (owner : ℕ → ℕ) × ((before after : List Act) → acts ≡ before ++ after →
    AreOwned owner (state_after (new_server []) before)
    × HaveFiles owner (state_after (new_server []) before) (sent_over (new_server []) before))
