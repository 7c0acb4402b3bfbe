-- The entries that make of what was kept of a file what is kept of it now.
use Rattle.std.specs.Prelude.{ℕ, Bool, true, false, List, [], ◌∷◌, ◌++◌, Option, Some, None, ◌+◌, ◌==◌, ◌&&◌, ◌||◌, not, map, if◌then◌else◌}
use Rattle.server_rules.specs.declared.files.Component.{Component}
use Rattle.server_rules.specs.declared.files.File.{File}
use Rattle.server_rules.specs.declared.files.Kept.{Kept}
use Rattle.server_rules.specs.declared.files.Phase.TheVariants.{Still}
use Rattle.server_rules.specs.Openings.{is_still}
use Rattle.server_rules.specs.declared.grants.Grant.{Grant}
use Rattle.server_entries.specs.declared.entry.Entry.{Entry}
use Rattle.server_entries.specs.declared.entry.FileChange.{FileChange}
use Rattle.server_entries.specs.declared.entry.FileChange.TheVariants.{Size, FenceStarted, Fenced, Repaired, Missing, Present, Ready, Format, Zoned}
use Rattle.server_entries.specs.declared.entry.Placed.{Placed}
use Rattle.server_entries.specs.Changes.{has_number, is_fencing, is_repairing}
use Rattle.server_entries.specs.declared.entry.Entry.TheVariants as entry
use Rattle.server_differences.specs.Views.{Past}

-- this alone, if the test says so
abbrev pub only : {A : Type 0} → Bool → A → List A
only true x = x ∷ []
only false x = []

-- the change of the file
abbrev pub at : Kept → FileChange → Entry
at f change = entry.Change f.number change

-- ---- what was kept

abbrev pub past : Kept → Past
past f = record {
  zoned = f.zoned;
  tag = f.tag;
  format = f.format;
  size = f.size;
  ready = f.ready;
  phase = f.phase;
  components = f.components;
  grants = f.grants;
}

-- of a file that its entry made just now
abbrev pub no_past : Kept → Past
no_past f = record (past f) { zoned = false; tag = f.first_tag; size = 0; ready = false; phase = Still; grants = [] }

-- ---- the fence

-- a fence started
abbrev pub has_started : Past → Kept → Bool
has_started was f = not (is_fencing was.phase) && (is_fencing f.phase || not (f.tag == was.tag))

-- the repair behind a fence is over
abbrev pub is_repaired : Past → Kept → Bool
is_repaired was f = (not (f.tag == was.tag) || (not (has_started was f) && is_repairing was.phase)) && is_still f.phase

abbrev pub fence_entries : Past → Kept → List Entry
fence_entries was f =
    only (has_started was f) (at f FenceStarted)
    ++ (only (not (f.tag == was.tag)) (at f (Fenced f.tag f.format))
    ++ (only (is_repaired was f) (at f Repaired)
    ++ only ((f.tag == was.tag) && not (f.format == was.format)) (at f (Format f.format))))

-- ---- components

-- it stands elsewhere, or stands again
abbrev pub has_moved : (was at : Component) → Bool
has_moved was c = (not (was.drive == c.drive) || not (was.object == c.object)) || (was.missing && not c.missing)

-- component k of the file
abbrev pub component_entries : (file k : ℕ) → (was at : Component) → List Entry
component_entries n k was c =
    only (has_moved was c) (entry.Change n (Present k c.drive c.object))
    ++ only (c.missing && (has_moved was c || not was.missing)) (entry.Change n (Missing k))

-- its components from number k on
abbrev pub components_entries : (file k : ℕ) → (were are : List Component) → List Entry
components_entries n k (w ∷ ws) (c ∷ cs) = component_entries n k w c ++ components_entries n (k + 1) ws cs
components_entries n k [] cs = []
components_entries n k (w ∷ ws) [] = []

-- ---- grants

-- those that are no more
abbrev pub returned_of : (were are : List Grant) → List Entry
returned_of [] gs = []
returned_of (w ∷ ws) gs = only (not (has_number gs w.number)) (entry.Return w.number) ++ returned_of ws gs

-- those that weren't there
abbrev pub issued_of : (were are : List Grant) → List Entry
issued_of ws [] = []
issued_of ws (g ∷ gs) = only (not (has_number ws g.number)) (entry.Grant g) ++ issued_of ws gs

-- the start of a fence ends all
abbrev pub grant_entries : Past → Kept → List Entry
grant_entries was f =
    if has_started was f then issued_of [] f.grants else returned_of was.grants f.grants ++ issued_of was.grants f.grants

-- ---- the file

-- how long it is, and whether it is ready
abbrev pub size_entries : Past → Kept → List Entry
size_entries was f =
    only (not (f.size == was.size)) (at f (Size f.size)) ++ only (f.ready && not was.ready) (at f Ready)

-- what changed of a file
abbrev pub changes : Past → Kept → List Entry
changes was f =
    only (f.zoned && not was.zoned) (at f Zoned)
    ++ (fence_entries was f
    ++ (components_entries f.number 0 was.components f.components
    ++ (grant_entries was f ++ size_entries was f)))

abbrev pub placed_of : Component → Placed
placed_of c = record { drive = c.drive; object = c.object }

-- a new file
abbrev pub file_entry : Kept → Entry
file_entry f = entry.File (record {
  file = f.number;
  map = f.map;
  tag = f.first_tag;
  format = f.format;
  components = map placed_of f.components;
})

abbrev pub file_entries : (was : Option File) → Kept → List Entry
file_entries None f = file_entry f ∷ changes (no_past f) f
file_entries (Some was) f = changes (past was.kept) f
