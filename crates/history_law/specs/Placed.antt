-- The drives that a placer named are those of the CREATEs that are sent.
use Rattle.std.specs.Prelude.{◌≡◌, ℕ, ◌<◌, true, List, [], ◌∷◌, map, filter, Some}
use Rattle.osd_capability.specs.Layout.{is_format}
use Rattle.scenario_text.specs.declared.names.TheConstants.{DRIVES}
use Rattle.world_history.specs.ServerNames.{Server, Drive, File, Outgoing}
use Rattle.server_rules.specs.Files.{file_at}
use Rattle.server_rules.specs.History.{Input, step}
use Rattle.world_history.specs.Handed.{is_addressed, server_post}
use Rattle.world_history.specs.Sending.{sent_lines}
use Rattle.world_history.specs.Book.{placed_in}

-- a line can name each drive
abbrev pub AreNamed : List Drive → Type 0
AreNamed [] = Unit {0}
AreNamed (d ∷ ds) = (d.number < DRIVES) × AreNamed ds

-- each file has one of the two formats
abbrev pub HaveFormats : List File → Type 0
HaveFormats [] = Unit {0}
HaveFormats (f ∷ fs) = (is_format f.kept.format ≡ true) × HaveFormats fs

-- What the server sends to drives can be told and read: it knows no drive that no line can name, and no format but
-- the two that there are.
pub record IsReadable (s : Server) : Type 0 where
  pub drives : AreNamed s.drives
  pub format : is_format s.format ≡ true
  pub files : HaveFormats s.files

-- the drives of the CREATEs that are sent, as lines tell them from a number on
abbrev pub placed_by : (number : ℕ) → List Outgoing → List ℕ
placed_by n os = placed_in (sent_lines n (filter is_addressed (map server_post os)))

-- Where a placer names the drives to which the CREATEs of a step go, the step is the same: the server takes of a
-- placer's drives those that it may, in order, and else the first that it may.
abbrev pub PlacedIsChosen : Type 0
PlacedIsChosen =
    (s : Server) (chosen : List ℕ) (i : Input) (n : ℕ) → IsReadable s
    → step s (placed_by n (step s chosen i).sends) i ≡ step s chosen i

-- Whatever drives a placer names, a step keeps the same of each file that was there: they decide only where its job makes a
-- component anew.
abbrev pub PlacerLeavesKept : Type 0
PlacerLeavesKept =
    (s : Server) (chosen placed : List ℕ) (i : Input) (n : ℕ) (f g x : File) → IsReadable s → file_at s.files n ≡ Some f →
    file_at (step s chosen i).state.files n ≡ Some g → file_at (step s placed i).state.files n ≡ Some x → x.kept ≡ g.kept

-- And it ends the same repairs.
abbrev pub PlacerLeavesRepairs : Type 0
PlacerLeavesRepairs =
    (s : Server) (chosen placed : List ℕ) (i : Input) → IsReadable s → (step s placed i).mended ≡ (step s chosen i).mended
