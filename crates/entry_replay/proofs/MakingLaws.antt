-- A file is made in the state as in the rules' server.
use Rattle.std.specs.Prelude.{ℕ, suc, true, false, List, [], ◌∷◌, Option, Some, None, ◌≡◌, ◌≤◌, ◌==◌, not, nat_lt, is_some, length, map, refl}
use Rattle.std.specs.Ordering.{nat_cmp}
use Rattle.std.specs.BTreeMap.{BTreeMap, insert_entry}
use Rattle.std.proofs.Common.{arith, ap, sym, subst, ◌∙◌}
use Rattle.std.proofs.lemmas.Bool.{and_parts, eqb-true}
use Rattle.server_rules.specs.declared.limits.TheConstants.{MAX_FILE_COMPONENTS}
use Rattle.server_rules.specs.declared.files.File.{File}
use Rattle.server_rules.specs.declared.server.Server.{Server}
use Rattle.server_rules.specs.Files.{file_at, add_file}
use Rattle.file_jobs.specs.declared.job.FileState.{FileState}
use Rattle.file_jobs.specs.Steps.{file_of}
use Rattle.file_jobs.specs.Sound.{IsSound}
use Rattle.server_state.specs.declared.state.State.{State}
use Rattle.server_state.specs.States.{server_of, IsReady}
use Rattle.server_state.specs.Tables.{Table, files_in, entry_at, AreEntries}
use Rattle.layout_server.proofs.CreateLaws.{add_file-files, entries_inserted, has_entry}
use Rattle.server_entries.specs.declared.entry.FileEntry.{FileEntry}
use Rattle.server_entries.specs.declared.entry.Placed.{Placed}
use Rattle.server_entries.specs.Applying.{applied}
use Rattle.server_entries.specs.Making.{can_place, component_of, is_usable, new_file}
use Rattle.server_entries.specs.declared.entry.Entry.TheVariants as entry
use Rattle.server_entries.specs.declared.applied.TheConstants.{MAX_FILES}
use Rattle.entry_replay.proofs.ChangeLaws.{idle_sound}

not_some : (o : Option FileState) → not (is_some o) ≡ true → o ≡ None
not_some None e = refl
not_some (Some f) e = absurd (cc e)

no_entry : (old : State) (f : FileEntry) → IsReady old → can_place (server_of old) f ≡ true →
    entry_at old.files.entries f.file ≡ None
no_entry old f ready may =
    not_some (entry_at old.files.entries f.file)
    (ap not (has_entry old.files.entries f.file ready.files)
    ∙ (and_parts (not (is_some (file_at (files_in old.files.entries) f.file))) _ may).0)

-- as many components as the map has
many : (old : State) (f : FileEntry) → can_place (server_of old) f ≡ true → length f.components ≡ f.map.comps
many old f may =
    let behind = (and_parts (not (is_some (file_at (files_in old.files.entries) f.file))) _ may).1 in
    let count = (and_parts (nat_lt (length (files_in old.files.entries)) MAX_FILES) _ behind).1 in
    eqb-true (length f.components) f.map.comps (and_parts (length f.components == f.map.comps) _ count).0

length_placed : (ps : List Placed) → length (map component_of ps) ≡ length ps
length_placed [] = refl
length_placed (p ∷ ps) = ap (λ n. suc n) (length_placed ps)

new_sound : (f : FileEntry) → length f.components ≡ f.map.comps → f.map.comps ≤ MAX_FILE_COMPONENTS → IsSound (new_file f).kept
new_sound f e few = record {
  few = rw (length_placed f.components, e) few;
  whole = length_placed f.components ∙ e;
  high = omega (arith);
  live = tt;
  ended = tt;
}

-- a file is made
has_made : (old : State) (files : BTreeMap ℕ FileState) (f : FileEntry) (g : FileState) → IsReady old →
    can_place (server_of old) f ≡ true →
    file_of g ≡ new_file f →
    files.entries ≡ insert_entry nat_cmp old.files.entries f.file g →
    add_file (files_in old.files.entries) (new_file f) ≡ files_in files.entries
has_made old files f g ready may e put =
    ap (add_file (files_in old.files.entries)) (sym e)
    ∙ add_file-files old.files.entries f.file g ready.files (no_entry old f ready may) (ap (λ (x : File). x.kept.number) e)
    ∙ ap files_in (sym put)

pub file_made : (old : State) (files : BTreeMap ℕ FileState) (f : FileEntry) (g : FileState) → IsReady old →
    is_usable f.map ≡ true →
    can_place (server_of old) f ≡ true → file_of g ≡ new_file f →
    files.entries ≡ insert_entry nat_cmp old.files.entries f.file g →
    applied (server_of old) (entry.File f) ≡ Some (server_of (record old { files = files }))
unfolding applied
file_made old files f g ready usable may e put =
    rw (usable, may)
    (ap (λ (fs : List File). Some (record (server_of old) { files = fs })) (has_made old files f g ready may e put))

-- and stands at its number
pub ready_made : (old : State) (files : BTreeMap ℕ FileState) (f : FileEntry) (g : FileState) → IsReady old →
    can_place (server_of old) f ≡ true →
    f.map.comps ≤ MAX_FILE_COMPONENTS → file_of g ≡ new_file f →
    files.entries ≡ insert_entry nat_cmp old.files.entries f.file g → IsReady (record old { files = files })
ready_made old files f g ready may few e put =
    let sound = idle_sound g (new_file f).kept e (new_sound f (many old f may) few) in
    let entries =
    entries_inserted old.files.entries f.file g ready.files (record {
      number = ap (λ (x : File). x.kept.number) e;
      sound = sound;
    }) in
    record {
      files = subst (λ (t : Table). AreEntries t) (sym put) entries;
      grants = ready.grants;
      drives = ready.drives;
    }

-- ---- it isn't made

pub map_refused : (s : Server) (f : FileEntry) → is_usable f.map ≡ false → applied s (entry.File f) ≡ None
unfolding applied
map_refused s f e = rw e refl

pub place_refused : (s : Server) (f : FileEntry) → is_usable f.map ≡ true → can_place s f ≡ false →
    applied s (entry.File f) ≡ None
unfolding applied
place_refused s f usable e = rw (usable, e) refl
