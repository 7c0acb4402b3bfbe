-- A file is changed in the state as in the rules' server.
use Rattle.std.specs.Prelude.{ℕ, Bool, true, false, List, [], ◌∷◌, ◌++◌, Option, Some, None, ◌≡◌, ◌==◌, nat_lt, not, length, filter, refl}
use Rattle.std.specs.List.{AllByRecursion}
use Rattle.std.specs.List.Sorted.{IsStrictlySortedBy}
use Rattle.std.specs.Ordering.{nat_cmp}
use Rattle.std.specs.declared.cmp.Ordering.TheVariants.{Less}
use Rattle.std.specs.BTreeMap.{BTreeMap, is_at}
use Rattle.std.specs.Map.{keys_of, set_value}
use Rattle.std.proofs.Common.{arith, inl, inr, ap, sym, subst, ◌∙◌}
use Rattle.std.proofs.lemmas.Bool.{and_parts, cases_Bool, ltb-true}
use Rattle.std.proofs.lemmas.Bool.Decides.{nat_tests}
use Rattle.osd_lists.proofs.Tests.{at_number, is_at_same}
use Rattle.osd_capability.specs.Layout.{is_format}
use Rattle.server_rules.specs.declared.files.File.{File}
use Rattle.server_rules.specs.declared.files.Kept.{Kept}
use Rattle.server_rules.specs.declared.grants.Grant.{Grant}
use Rattle.server_rules.specs.declared.jobs.Job.{Job}
use Rattle.server_rules.specs.declared.server.Server.{Server}
use Rattle.server_rules.specs.Files.{file_at, put_file}
use Rattle.server_rules.specs.Get.{high_after}
use Rattle.file_jobs.specs.declared.job.FileState.{FileState}
use Rattle.file_jobs.specs.Steps.{file_of}
use Rattle.file_jobs.specs.Sound.{IsSound, IsSoundFile, IsAlone, HasSoundJob}
use Rattle.server_state.specs.declared.state.State.{State}
use Rattle.server_state.specs.FileRequests.{LeavesFile}
use Rattle.server_state.specs.States.{server_of, IsReady}
use Rattle.server_state.specs.Tables.{Table, files_in, entry_at, IsEntry, AreEntries}
use Rattle.server_state.proofs.ReplyLaws.{none_again, sorted_rest}
use Rattle.server_state.proofs.TableLaws.{file_there, no_file_there, put_file-files, entries_left, entry_found}
use Rattle.server_entries.specs.declared.entry.FileChange.{FileChange}
use Rattle.server_entries.specs.declared.entry.FileChange.TheVariants.{Size, FenceStarted, Fenced, Repaired, Missing, Present, Ready, Format, Zoned}
use Rattle.server_entries.specs.declared.entry.Entry.TheVariants as entry
use Rattle.server_entries.specs.Applying.{applied, can_at, changed_at, change_file, holder_of, returns_at}
use Rattle.server_entries.specs.Changes.{can_change, can_grant, changed, granted, has_number, is_fencing, is_grant, IsInside, kept_file, returned}
use Rattle.entry_replay.proofs.SoundLaws.{changed_number, changed_sound, granted_sound, returned_sound}

-- where the change can't come nothing is made
pub not_changed : (s : Server) (n : ℕ) (can : Kept → Bool) (does : Kept → Kept) (o : Option File) → can_at can o ≡ false →
    changed_at s n can does o ≡ None
not_changed s n can does None e = refl
not_changed s n can does (Some f) e = rw e refl

-- nothing is made where there is no file
pub none_there : (old : State) (n : ℕ) (can : Kept → Bool) (does : Kept → Kept) → IsReady old →
    entry_at old.files.entries n ≡ None →
    change_file (server_of old) n can does ≡ None
none_there old n can does ready none =
    ap (changed_at (server_of old) n can does) (no_file_there old.files.entries n ready.files none)

-- what holds of the file that the rules find holds of the file that is there
pub can_there : (old : State) (n : ℕ) (f : FileState) (can : Kept → Bool) → IsReady old → entry_at old.files.entries n ≡ Some f →
    can_at can (file_at (files_in old.files.entries) n) ≡ true →
    can f.kept ≡ true
can_there old n f can ready here may = ap (can_at can) (sym (file_there old.files.entries n f ready.files here)) ∙ may

-- a file on which no job runs is sound with what is kept of it
pub idle_sound : (g : FileState) (k : Kept) → file_of g ≡ kept_file k → IsSound k → IsSoundFile g
idle_sound g k e sound =
    let job : g.job ≡ None = ap (λ (x : File). x.job) e in
    let kept : g.kept ≡ k = ap (λ (x : File). x.kept) e in
    record {
      kept = subst IsSound (sym kept) sound;
      alone = subst (λ (j : Option Job). IsAlone g.kept j) (sym job) tt;
      job = subst (λ (j : Option Job). HasSoundJob g.kept j) (sym job) tt;
    }

made_of : (s : Server) (n : ℕ) (can : Kept → Bool) (does : Kept → Kept) (f : File) → can f.kept ≡ true →
    changed_at s n can does (Some f) ≡ Some (record s { files = put_file s.files n (kept_file (does f.kept)) })
made_of s n can does f e = rw e refl

-- a file is changed
pub has_changed : (old : State) (files : BTreeMap ℕ FileState) (n : ℕ) (f g : FileState) (can : Kept → Bool) (does : Kept →
    Kept) → IsReady old →
    entry_at old.files.entries n ≡ Some f →
    can_at can (file_at (files_in old.files.entries) n) ≡ true → file_of g ≡ kept_file (does f.kept) →
    files.entries ≡ set_value (is_at (nat_cmp n)) old.files.entries g →
    change_file (server_of old) n can does ≡ Some (server_of (record old { files = files }))
has_changed old files n f g can does ready here may e put =
    let t : Table = old.files.entries in
    let there : file_at (files_in t) n ≡ Some (file_of f) = file_there t n f ready.files here in
    let allowed : can f.kept ≡ true = can_there old n f can ready here may in
    ap (changed_at (server_of old) n can does) there
    ∙ made_of (server_of old) n can does (file_of f) allowed
    ∙ ap (λ (x : File). Some (record (server_of old) { files = put_file (files_in t) n x })) (sym e)
    ∙ ap (λ fs. Some (record (server_of old) { files = fs })) (put_file-files t n g ready.files ∙ ap files_in (sym put))

-- the files are ready where the file that was changed stays at its number
pub ready_left : (old : State) (files : BTreeMap ℕ FileState) (n : ℕ) (f g : FileState) → IsReady old →
    entry_at old.files.entries n ≡ Some f → LeavesFile f g →
    files.entries ≡ set_value (is_at (nat_cmp n)) old.files.entries g → IsReady (record old { files = files })
ready_left old files n f g ready here leaves put = record {
  files = subst (λ (t : Table). AreEntries t) (sym put) (entries_left old.files.entries n f g ready.files here leaves);
  grants = ready.grants;
  drives = ready.drives;
}

-- a file on which no job runs stays at its number
pub idle_leaves : (f g : FileState) (k : Kept) → file_of g ≡ kept_file k → k.number ≡ f.kept.number → IsSound k → LeavesFile f g
idle_leaves f g k e number sound = record { number = ap (λ (x : File). x.kept.number) e ∙ number; sound = idle_sound g k e sound }

-- what was found is sound
pub found_sound : (old : State) (n : ℕ) (f : FileState) → IsReady old → entry_at old.files.entries n ≡ Some f → IsSoundFile f
found_sound old n f ready here = (entry_found old.files.entries n f ready.files here).sound

-- the server stays where the files do
pub server_stays : (old : State) (files : BTreeMap ℕ FileState) → files ≡ old.files →
    server_of (record old { files = files }) ≡ server_of old
server_stays old files e = ap (λ (m : BTreeMap ℕ FileState). server_of (record old { files = m })) e

-- ---- what is left of a file

pub grant_leaves : (f : FileState) (g : Grant) (gs : List Grant) (high : ℕ) → IsSoundFile f → is_grant g ≡ true →
    gs ≡ f.kept.grants ++ (g ∷ []) →
    high ≡ high_after f.kept.high g →
    LeavesFile f (record { kept = record f.kept { grants = gs; high = high }; spent = false; job = None })
grant_leaves f g gs high s e p q =
    let k : Kept = record f.kept { grants = gs; high = high } in
    let same : k ≡ granted g f.kept = rw (p, q) refl in
    idle_leaves f (record {
      kept = k;
      spent = false;
      job = None;
    }) (granted g f.kept) (ap kept_file same) refl (granted_sound g f.kept s.kept e)

pub return_leaves : (f : FileState) (n : ℕ) (gs : List Grant) → IsSoundFile f →
    gs ≡ filter (λ (g : Grant). not (g.number == n)) f.kept.grants →
    LeavesFile f (record { kept = record f.kept { grants = gs }; spent = false; job = None })
return_leaves f n gs s p =
    let k : Kept = record f.kept { grants = gs } in
    let same : k ≡ returned n f.kept = rw p refl in
    idle_leaves f (record {
      kept = k;
      spent = false;
      job = None;
    }) (returned n f.kept) (ap kept_file same) refl (returned_sound n f.kept s.kept)

pub change_leaves : (f : FileState) (c : FileChange) (k : Kept) → IsSoundFile f → k ≡ changed c f.kept →
    LeavesFile f (record { kept = k; spent = false; job = None })
change_leaves f c k s e =
    idle_leaves f (record { kept = k; spent = false; job = None }) (changed c f.kept) (ap kept_file e) (changed_number c f.kept)
    (changed_sound c f.kept s.kept)

-- ---- grants

pub not_granted : (s : Server) (g : Grant) → can_at (can_grant s g) (file_at s.files g.file) ≡ false →
    applied s (entry.Grant g) ≡ None
unfolding applied
not_granted s g e = not_changed s g.file (can_grant s g) (granted g) (file_at s.files g.file) e

pub absent_granted : (old : State) (g : Grant) → IsReady old → entry_at old.files.entries g.file ≡ None →
    applied (server_of old) (entry.Grant g) ≡ None
unfolding applied
absent_granted old g ready none = none_there old g.file (can_grant (server_of old) g) (granted g) ready none

pub grant_made : (old : State) (files : BTreeMap ℕ FileState) (g : Grant) (f h : FileState) → IsReady old →
    entry_at old.files.entries g.file ≡ Some f →
    can_at (can_grant (server_of old) g) (file_at (files_in old.files.entries) g.file) ≡ true →
    file_of h ≡ kept_file (granted g f.kept) →
    files.entries ≡ set_value (is_at (nat_cmp g.file)) old.files.entries h →
    applied (server_of old) (entry.Grant g) ≡ Some (server_of (record old { files = files }))
unfolding applied
grant_made old files g f h ready here may e put =
    has_changed old files g.file f h (can_grant (server_of old) g) (granted g) ready here may e put

-- ---- grants that go back

-- the number of a file of the table is one that is there
holder_there : (t : Table) (n m : ℕ) → AreEntries t → holder_of (files_in t) n ≡ Some m → entry_at t m ≡ None → ⊥
unfolding holder_of
holder_there [] n m a h none = absurd (cc h)
holder_there (e ∷ es) n m a h none = elim (cases_Bool (has_number e.1.kept.grants n)) [
  | inl has ↦ absurd (some_none e.1 (rw (here e m a.0 (rw has at h)) at none))
  | inr not_has ↦ elim (cases_Bool (is_at (nat_cmp m) e.0)) [
    | inl there ↦ absurd (some_none e.1 (rw there at none))
    | inr not_there ↦ holder_there es n m a.1 (rw not_has at h) (rw not_there at none)
  ]
]
  where
    some_none : (f : FileState) → Some f ≡ None → ⊥
    some_none f e = absurd (cc e)

    here : (e : ℕ × FileState) (m : ℕ) → IsEntry e → Some e.1.kept.number ≡ Some m → is_at (nat_cmp m) e.0 ≡ true
    here e m i s =
        let same : e.1.kept.number ≡ m = cc s in
        rw (sym same ∙ i.number) (is_at_same e.0)

-- the file of that number has the grant
holder_has : (t : Table) (n m : ℕ) (f : FileState) → AreEntries t → IsStrictlySortedBy nat_cmp (keys_of t) →
    holder_of (files_in t) n ≡ Some m →
    entry_at t m ≡ Some f →
    has_number f.kept.grants n ≡ true
unfolding holder_of
holder_has [] n m f a s h here = absurd (cc h)
holder_has (e ∷ es) n m f a s h here = elim (cases_Bool (has_number e.1.kept.grants n)) [
  | inl has ↦ ap (λ (x : FileState). has_number x.kept.grants n) (sym (first e f m a.0 (rw has at h) here)) ∙ has
  | inr not_has ↦ elim (cases_Bool (is_at (nat_cmp m) e.0)) [
    | inl there ↦
        absurd (holder_there es n m a.1 (rw not_has at h) (none_behind m e.0 es there (sorted_rest e.0 (keys_of es) s).0))
    | inr not_there ↦ holder_has es n m f a.1 (sorted_rest e.0 (keys_of es) s).1 (rw not_has at h) (rw not_there at here)
  ]
]
  where
    same_key : (n k : ℕ) → is_at (nat_cmp n) k ≡ true → n ≡ k
    same_key n k t = grind (arith, nat_tests, at_number n k, t)

    none_behind : (m k : ℕ) (es : Table) → is_at (nat_cmp m) k ≡ true → AllByRecursion (λ n. nat_cmp k n ≡ Less) (keys_of es) →
        entry_at es m ≡ None
    none_behind m k es there less = rw (same_key m k there) (none_again k es less)

    some_same : (x y : FileState) → Some x ≡ Some y → x ≡ y
    some_same x y e = cc e

    first : (e : ℕ × FileState) (f : FileState) (m : ℕ) → IsEntry e → Some e.1.kept.number ≡ Some m →
        entry_at (e ∷ es) m ≡ Some f → e.1 ≡ f
    first e f m i h here =
        let number : e.1.kept.number ≡ m = cc h in
        let there : is_at (nat_cmp m) e.0 ≡ true = rw (sym number ∙ i.number) (is_at_same e.0) in
        some_same e.1 f (rw there at here)

pub not_returned : (s : Server) (n : ℕ) → holder_of s.files n ≡ None → applied s (entry.Return n) ≡ None
unfolding applied
not_returned s n none = ap (returns_at s n) none

pub absent_returned : (old : State) (n m : ℕ) → IsReady old → holder_of (files_in old.files.entries) n ≡ Some m →
    entry_at old.files.entries m ≡ None →
    applied (server_of old) (entry.Return n) ≡ None
unfolding applied
absent_returned old n m ready h none =
    ap (returns_at (server_of old) n) h ∙ none_there old m (λ (k : Kept). has_number k.grants n) (returned n) ready none

pub return_made : (old : State) (files : BTreeMap ℕ FileState) (n m : ℕ) (f g : FileState) → IsReady old →
    IsStrictlySortedBy nat_cmp (keys_of old.files.entries) →
    holder_of (files_in old.files.entries) n ≡ Some m → entry_at old.files.entries m ≡ Some f →
    file_of g ≡ kept_file (returned n f.kept) →
    files.entries ≡ set_value (is_at (nat_cmp m)) old.files.entries g →
    applied (server_of old) (entry.Return n) ≡ Some (server_of (record old { files = files }))
unfolding applied
return_made old files n m f g ready sorted h here e put =
    let has : has_number f.kept.grants n ≡ true = holder_has old.files.entries n m f ready.files sorted h here in
    let may : can_at (λ (k : Kept). has_number k.grants n) (file_at (files_in old.files.entries) m) ≡ true =
    ap (can_at (λ (k : Kept). has_number k.grants n)) (file_there old.files.entries m f ready.files here) ∙ has in
    ap (returns_at (server_of old) n) h
    ∙ has_changed old files m f g (λ (k : Kept). has_number k.grants n) (returned n) ready here may e put

-- ---- changes

pub not_made : (s : Server) (n : ℕ) (c : FileChange) → can_at (can_change s c) (file_at s.files n) ≡ false →
    applied s (entry.Change n c) ≡ None
unfolding applied
not_made s n c e = not_changed s n (can_change s c) (changed c) (file_at s.files n) e

pub absent_made : (old : State) (n : ℕ) (c : FileChange) → IsReady old → entry_at old.files.entries n ≡ None →
    applied (server_of old) (entry.Change n c) ≡ None
unfolding applied
absent_made old n c ready none = none_there old n (can_change (server_of old) c) (changed c) ready none

pub change_made : (old : State) (files : BTreeMap ℕ FileState) (n : ℕ) (c : FileChange) (f g : FileState) → IsReady old →
    entry_at old.files.entries n ≡ Some f →
    can_at (can_change (server_of old) c) (file_at (files_in old.files.entries) n) ≡ true →
    file_of g ≡ kept_file (changed c f.kept) →
    files.entries ≡ set_value (is_at (nat_cmp n)) old.files.entries g →
    applied (server_of old) (entry.Change n c) ≡ Some (server_of (record old { files = files }))
unfolding applied
change_made old files n c f g ready here may e put =
    has_changed old files n f g (can_change (server_of old) c) (changed c) ready here may e put

-- its numbers fit the file
pub fits_inside : (s : Server) (c : FileChange) (k : Kept) → can_change s c k ≡ true → IsInside c k
fits_inside s (Size size) k e = tt
fits_inside s FenceStarted k e = tt
fits_inside s (Fenced tag format) k e = (and_parts (is_fencing k.phase) (is_format format) e).1
fits_inside s Repaired k e = tt
fits_inside s (Missing j) k e = tt
fits_inside s (Present j drive object) k e = ltb-true j (length k.components) (and_parts (nat_lt j (length k.components)) _ e).0
fits_inside s Ready k e = tt
fits_inside s (Format format) k e = e
fits_inside s Zoned k e = tt
