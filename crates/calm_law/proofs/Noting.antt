-- Short stripes, drives that fail, and notes.
use Rattle.std.proofs.Common.{◌≡◌, ◌⊎◌, ℕ, ◌==◌, ◌||◌, ◌&&◌, ◌++◌, ◌∷◌, [], List, Bool, true, false, Option, Some, None, find, slice_get, refl, sym, ap, ◌∙◌, arith, inl, inr, eq-eqb, ne_eqb}
use Rattle.std.specs.Prelude.{nat_lt}
use Rattle.std.proofs.lemmas.Bool.{cases_Bool, cases_eq}
use Rattle.std.proofs.lemmas.Bool.Decides.{nat_tests}
use Rattle.osd_objects.proofs.Entries.{lookup_set, lookup_set_beside}
use Rattle.data_map.specs.Striping.{parities, group_of}
use Rattle.scenario_text.specs.declared.line.Note.{Note}
use Rattle.scenario_text.specs.declared.line.Note.TheVariants as note
use Rattle.server_rules.specs.Numbers.{among}
use Rattle.server_rules.specs.Files.{file_at}
use Rattle.server_rules.specs.Standing.{is_short}
use Rattle.server_rules.proofs.FileLaws.{number_at, put_same}
use Rattle.world_history.specs.ServerNames.{Component, File, Mended}
use Rattle.world_history.specs.State.{at_number}
use Rattle.world_history.specs.Stripes.{Moment, is_lost, is_short_stripe, standing as standing_at}
use Rattle.world_history.specs.Calm.{noted as noted_components, noted_in, stands_on}
use Rattle.world_calm.specs.declared.files.SeenFile.{SeenFile}
use Rattle.world_calm.specs.Files.{FilesState, Table, seen_as, is_short_in, standing, lost_as, missing, standing_on, component_with, component_as, file_with, file_as}
use Rattle.world_calm.specs.Seeing.{CalmState, mended_by}
use Rattle.component_law.specs.Words.{IsSorted}
use Rattle.calm_law.specs.Words.{seen_in}
use Rattle.calm_law.specs.Files.{KeepsFiles, ShortAlike, FailsAlike, NotesAlike}
use Rattle.component_law.proofs.Lists.{sorted_set}
use Rattle.calm_law.proofs.Tables.{among_end, lost_one, put_other}

-- ---- short stripes

lost_alike : (m : Moment) (failed : List ℕ) → ((d : ℕ) → among d failed ≡ among d m.failed) → (at : Component)
    → lost_as failed at ≡ record at { missing = is_lost m at }
lost_alike m failed h at = ap (λ (b : Bool). record at { missing = at.missing || b }) (h at.drive)

standing_alike : (m : Moment) (failed : List ℕ) → ((d : ℕ) → among d failed ≡ among d m.failed) → (cs : List Component)
    → standing failed cs ≡ standing_at m cs
standing_alike m failed h [] = refl
standing_alike m failed h (at ∷ cs) =
    ap (λ (x : Component). x ∷ standing failed cs) (lost_alike m failed h at)
    ∙ ap (λ (x : List Component). record at { missing = is_lost m at } ∷ x) (standing_alike m failed h cs)

pub short_alike : ShortAlike
unfolding is_short_stripe
short_alike there m t n s f h i e =
    ap (λ (o : Option SeenFile). is_short_in t.failed s o) (h.files n i ∙ ap seen_in e)
    ∙ ap (λ (cs : List Component). nat_lt 0 (parities f.kept.map) && is_short f.kept.map cs (group_of f.kept.map s))
    (standing_alike m t.failed h.failed f.kept.components)

-- ---- a drive fails

pub fails_more : (d e : ℕ) (ds failed : List ℕ) → among e ds ≡ among e failed → among e (ds ++ d ∷ []) ≡ among e (d ∷ failed)
unfolding among
fails_more d e ds failed h = among_end e d ds ∙ ap (λ (b : Bool). (e == d) || b) h

pub fails_alike : FailsAlike
fails_alike there now failed c d h = record {
  files = h.files;
  others = h.others;
  failed = λ e. fails_more d e c.files.failed failed (h.failed e);
  sorted = h.sorted;
}

-- ---- notes

-- a file behind a note
abbrev pub with_noted : Note → Option File → Option File
with_noted what None = None
with_noted what (Some f) =
    Some (record f { kept = record f.kept { components = noted_components f.kept.components what } })

noted_here : (fs : List File) (n : ℕ) (what : Note) (o : Option File) → file_at fs n ≡ o
    → file_at (noted_in fs n what o) n ≡ with_noted what o
noted_here fs n what None e = e
noted_here fs n what (Some f) e =
    put_same fs n (record f { kept = record f.kept { components = noted_components f.kept.components what } }) f
    (number_at fs n f e) e

noted_beside : (fs : List File) (n j : ℕ) (what : Note) (o : Option File) → file_at fs n ≡ o → (n == j) ≡ false
    → file_at (noted_in fs n what o) j ≡ file_at fs j
noted_beside fs n j what None e other = refl
noted_beside fs n j what (Some f) e other =
    put_other fs n j (record f { kept = record f.kept { components = noted_components f.kept.components what } })
    (number_at fs n f e) other

-- file j behind a note on file n
pub noted_at : (fs : List File) (n j : ℕ) (what : Note)
    → ((n == j) ≡ true) × (file_at (noted_in fs n what (file_at fs n)) j ≡ with_noted what (file_at fs j))
    ⊎ (((n == j) ≡ false) × (file_at (noted_in fs n what (file_at fs n)) j ≡ file_at fs j))
noted_at fs n j what = elim (cases_eq n j) [
  | inl i ↦ rw i (inl (eq-eqb j j refl, noted_here fs j what (file_at fs j) refl))
  | inr o ↦ inr (ne_eqb n j o, noted_beside fs n j what (file_at fs n) refl (ne_eqb n j o))
]

-- a file that is kept becomes another
abbrev mapped : (SeenFile → SeenFile) → Option SeenFile → Option SeenFile
mapped becomes None = None
mapped becomes (Some x) = Some (becomes x)

with_here : (t : Table) (n : ℕ) (becomes : SeenFile → SeenFile) (o : Option SeenFile) → at_number t n ≡ o
    → at_number (file_with t n becomes o) n ≡ mapped becomes o
with_here t n becomes None e = e
with_here t n becomes (Some x) e = lookup_set t n (becomes x) (rw e refl)

with_beside : (t : Table) (n j : ℕ) (becomes : SeenFile → SeenFile) (o : Option SeenFile) → (n == j) ≡ false
    → at_number (file_with t n becomes o) j ≡ at_number t j
with_beside t n j becomes None other = refl
with_beside t n j becomes (Some x) other =
    lookup_set_beside t n j (becomes x) (λ i. absurd (cc (sym other ∙ eq-eqb n j (sym i))))

sorted_with : (t : Table) (n : ℕ) (becomes : SeenFile → SeenFile) (o : Option SeenFile) → IsSorted t
    → IsSorted (file_with t n becomes o)
sorted_with t n becomes None h = h
sorted_with t n becomes (Some x) h = sorted_set t n (becomes x) h

-- a component of a file becomes another, here and there
seen_noted : (what : Note) (k : ℕ) (becomes : Component → Component)
    → ((cs : List Component) → noted_components cs what ≡ component_with cs k becomes (slice_get cs k))
    → (o : Option File) → mapped (component_as k becomes) (seen_in o) ≡ seen_in (with_noted what o)
seen_noted what k becomes alike None = refl
seen_noted what k becomes alike (Some f) =
    ap (λ (cs : List Component). Some (record (seen_as f.kept) { components = cs })) (sym (alike f.kept.components))

becomes_alike : (there now : List File) (failed : List ℕ) (t : FilesState) (n k : ℕ) (what : Note)
    (becomes : Component → Component)
    → ((cs : List Component) → noted_components cs what ≡ component_with cs k becomes (slice_get cs k))
    → KeepsFiles there now failed t
    → KeepsFiles there (noted_in now n what (file_at now n)) failed (file_as t n (component_as k becomes))
becomes_alike there now failed t n k what becomes alike h = record {
  files = λ j i. elim (noted_at now n j what) [
    | inl a ↦
        let same : n ≡ j = grind (arith, nat_tests, a.0) in
        rw same (with_here t.files j (component_as k becomes) (at_number t.files j) refl
        ∙ ap (mapped (component_as k becomes)) (h.files j i) ∙ seen_noted what k becomes alike (file_at now j)
        ∙ sym (ap seen_in (rw same at a.1)))
    | inr b ↦ with_beside t.files n j (component_as k becomes) (at_number t.files n) b.0 ∙ h.files j i
        ∙ sym (ap seen_in b.1)
  ];
  others = λ j i. elim (cases_Bool (n == j)) [
    | inl a ↦
        let same : n ≡ j = grind (arith, nat_tests, a) in
        rw same (with_here t.files j (component_as k becomes) (at_number t.files j) refl
        ∙ ap (mapped (component_as k becomes)) (h.others j i))
    | inr b ↦ with_beside t.files n j (component_as k becomes) (at_number t.files n) b ∙ h.others j i
  ];
  failed = h.failed;
  sorted = sorted_with t.files n (component_as k becomes) (at_number t.files n) h.sorted;
}

-- a note that changes no component
seen_again : (what : Note) → ((cs : List Component) → noted_components cs what ≡ cs) → (o : Option File)
    → seen_in o ≡ seen_in (with_noted what o)
seen_again what alike None = refl
seen_again what alike (Some f) =
    ap (λ (cs : List Component). Some (record (seen_as f.kept) { components = cs })) (sym (alike f.kept.components))

again_alike : (there now : List File) (failed : List ℕ) (t : FilesState) (n : ℕ) (what : Note)
    → ((cs : List Component) → noted_components cs what ≡ cs) → KeepsFiles there now failed t
    → KeepsFiles there (noted_in now n what (file_at now n)) failed t
again_alike there now failed t n what alike h = record {
  files = λ j i. elim (noted_at now n j what) [
    | inl a ↦ h.files j i ∙ seen_again what alike (file_at now j) ∙ sym (ap seen_in a.1)
    | inr b ↦ h.files j i ∙ sym (ap seen_in b.1)
  ];
  others = h.others;
  failed = h.failed;
  sorted = h.sorted;
}

stands_alike : (cs : List Component) (k d : ℕ) (o : Option Component)
    → stands_on cs k d o ≡ component_with cs k (standing_on d) o
stands_alike cs k d None = refl
stands_alike cs k d (Some at) = refl

mended_files : (c : CalmState) (r : Option Mended) → (mended_by c r).files ≡ c.files
mended_files c None = refl
mended_files c (Some r) = refl

pub notes_alike : NotesAlike
notes_alike rs there now failed c n (note.NoSpace k) h =
    becomes_alike there now failed c.files n k (note.NoSpace k) missing (λ cs. lost_one cs k) h
notes_alike rs there now failed c n (note.Reported k) h =
    becomes_alike there now failed c.files n k (note.Reported k) missing (λ cs. lost_one cs k) h
notes_alike rs there now failed c n (note.Rebuilt k d) h =
    becomes_alike there now failed c.files n k (note.Rebuilt k d) (standing_on d)
    (λ cs. stands_alike cs k d (slice_get cs k)) h
notes_alike rs there now failed c n (note.Repaired stripes short) h =
    rw (mended_files c (find (λ (r : Mended). r.file == n) rs))
    (again_alike there now failed c.files n (note.Repaired stripes short) (λ cs. refl) h)
notes_alike rs there now failed c n what h = again_alike there now failed c.files n what (λ cs. refl) h
