-- A file is made.
use Rattle.std.specs.Prelude.{ℕ, Bool, true, false, List, [], ◌∷◌, Option, Some, None, Ok, ◌≡◌, ◌==◌, ◌+◌, ◌≤◌, nat_lt, is_some, length, refl}
use Rattle.std.specs.Option.{option_map}
use Rattle.std.specs.Ordering.{nat_cmp}
use Rattle.std.specs.declared.cmp.Ordering.TheVariants.{Less, Equal, Greater}
use Rattle.std.specs.BTreeMap.{BTreeMap, insert_entry, is_at}
use Rattle.std.proofs.Common.{arith, inl, inr, ap, sym, subst, eq-eqb, ◌∙◌}
use Rattle.std.proofs.lemmas.Bool.{cases_Bool}
use Rattle.std.proofs.lemmas.Bool.Decides.{nat_tests}
use Rattle.osd_lists.proofs.Tests.{same_number, at_number, is_at_same}
use Rattle.data_map.specs.declared.check.RawMap.{RawMap}
use Rattle.server_rules.specs.declared.files.File.{File}
use Rattle.server_rules.specs.declared.files.Kept.{Kept}
use Rattle.server_rules.specs.declared.limits.TheConstants.{MAX_FILE_COMPONENTS}
use Rattle.file_jobs.specs.Sound.{IsSound}
use Rattle.server_rules.specs.declared.server.Refusal.{Refusal}
use Rattle.server_rules.specs.declared.server.Server.{Server}
use Rattle.server_rules.specs.declared.server.Effects.{Effects}
use Rattle.server_rules.specs.Going.{Going}
use Rattle.server_rules.specs.Jobs.{making}
use Rattle.server_rules.specs.Files.{file_at, put_file, add_file, at_file, step_at}
use Rattle.server_rules.specs.Making.{components_on, create_file, drives_for, makes_file, refusal, unless_refused, unmade, with_file}
use Rattle.server_rules.proofs.Components.{length_components}
use Rattle.server_rules.proofs.FileLaws.{not_there}
use Rattle.file_jobs.specs.declared.job.FileState.{FileState}
use Rattle.file_jobs.specs.Steps.{at, file_of, Steps}
use Rattle.server_state.specs.declared.state.State.{State}
use Rattle.server_state.specs.declared.step.Step.{Step}
use Rattle.server_state.specs.Tables.{Table, files_in, entry_at, without, IsEntry, AreEntries}
use Rattle.server_state.specs.States.{server_of, Did, IsGood, IsGoodBut, Settles}
use Rattle.server_state.specs.Replies.{file_awaits, AreListed, AreListedBut, OthersStay}
use Rattle.server_state.specs.Index.{Keys}
use Rattle.layout_server.specs.declared.new_files.NewFile.{NewFile}
use Rattle.layout_server.specs.Creating.{Creates}
use Rattle.server_state.proofs.TableLaws.{file_at-files}
use Rattle.server_state.proofs.CountLaws.{none_off}
use Rattle.server_state.proofs.StepLaws.{after_settling}

-- the code's order of keys is the rules' order of numbers
behind_it : (n k : ℕ) → nat_lt k n ≡ true → nat_cmp n k ≡ Greater
behind_it n k t = grind (arith, nat_tests, t)

before_it : (n k : ℕ) → nat_lt k n ≡ false → is_at (nat_cmp n) k ≡ false → nat_cmp n k ≡ Less
before_it n k t d = grind (arith, nat_tests, t, at_number n k, d)

-- a new file, in the place of its number
pub add_file-files : (t : Table) (n : ℕ) (f : FileState) → AreEntries t → entry_at t n ≡ None → f.kept.number ≡ n →
    add_file (files_in t) (file_of f) ≡ files_in (insert_entry nat_cmp t n f)
unfolding add_file
add_file-files [] n f a none e = refl
add_file-files (x ∷ xs) n f a none e = elim (cases_Bool (is_at (nat_cmp n) x.0)) [
  | inl here ↦ absurd (some_none (rw here at none))
  | inr not_here ↦ elim (cases_Bool (nat_lt x.1.kept.number f.kept.number)) [
    | inl less ↦ rw (less, behind_it n x.0 (rw (a.0.number, e) at less))
        (ap (λ fs. file_of x.1 ∷ fs) (add_file-files xs n f a.1 (rw not_here at none) e))
    | inr more ↦ rw (more, before_it n x.0 (rw (a.0.number, e) at more) not_here) refl
  ]
]
  where
    some_none : {f : FileState} → Some f ≡ None → ⊥
    some_none e = absurd (cc e)

-- a file that was added is put in its own place
pub put_added : (fs : List File) (f g : File) → file_at fs f.kept.number ≡ None → g.kept.number ≡ f.kept.number →
    put_file (add_file fs f) f.kept.number g ≡ add_file fs g
unfolding add_file file_at put_file
put_added [] f g none e = rw (eq-eqb f.kept.number f.kept.number refl) refl
put_added (x ∷ xs) f g none e = elim (cases_Bool (x.kept.number == f.kept.number)) [
  | inl here ↦ absurd (some_none x (rw here at none))
  | inr not_here ↦ elim (cases_Bool (nat_lt x.kept.number f.kept.number)) [
    | inl less ↦
        let less_too : nat_lt x.kept.number g.kept.number ≡ true = rw e less in
        rw (less, not_here, less_too) (ap (λ fs. x ∷ fs) (put_added xs f g (rw not_here at none) e))
    | inr more ↦
        let more_too : nat_lt x.kept.number g.kept.number ≡ false = rw e more in
        rw (more, eq-eqb f.kept.number f.kept.number refl, more_too) refl
  ]
]
  where
    some_none : (x : File) → Some x ≡ None → ⊥
    some_none x e = absurd (cc e)

-- ---- the step

-- where there is no file, there is no entry
mapped_none : (o : Option FileState) → option_map file_of o ≡ None → o ≡ None
mapped_none None e = refl
mapped_none (Some f) e = absurd (cc e)

no_entry : (t : Table) (n : ℕ) → AreEntries t → file_at (files_in t) n ≡ None → entry_at t n ≡ None
no_entry t n a e = mapped_none (entry_at t n) (sym (file_at-files t n a) ∙ e)

-- the file that is put in the server
new_files : (old : State) (n : ℕ) (u g : FileState) → AreEntries old.files.entries →
    file_at (files_in old.files.entries) n ≡ None →
    u.kept.number ≡ n → g.kept.number ≡ n →
    put_file (add_file (files_in old.files.entries) (file_of u)) u.kept.number (file_of g) ≡ files_in
    (insert_entry nat_cmp old.files.entries n g)
new_files old n u g good none e h =
    put_added (files_in old.files.entries) (file_of u) (file_of g) (rw e none) (h ∙ sym e)
    ∙ add_file-files old.files.entries n g good (no_entry old.files.entries n good none) h

-- what comes of a file that is made
pub made_at : (old : State) (files : BTreeMap ℕ FileState) (new : State) (m : Effects) (f : NewFile) (ds : List ℕ)
    (u g : FileState) (out : Step) →
    AreEntries old.files.entries → refusal (server_of old) f.number f.map f.zoned ≡ None →
    drives_for f.zoned old.drives f.map ds ≡ ds →
    file_of u ≡ unmade (server_of old) f.number f.map f.tag f.zoned ds → g.kept.number ≡ u.kept.number →
    files.entries ≡ insert_entry nat_cmp old.files.entries f.number g →
    Steps making u
    (record { nonce = old.next_nonce; object = old.next_object + length ds; sent = []; notes = []; mended = [] }) g m →
    Settles (record old { files = files }) m new out → Creates f old new out
unfolding create_file
made_at old files new m f ds u g out good none chosen same left put_in steps fin =
    let s : Server = server_of old in
    let w : Server = with_file s (file_of u) in
    let number : u.kept.number ≡ f.number = ap (λ (x : File). x.kept.number) same in
    let many : length ds ≡ length u.kept.components =
    sym (ap (λ (x : File). length x.kept.components) same ∙ length_components ds old.next_object) in
    let go : at g m old.drives [] ≡ making (at_file w [] (file_of u)) =
    steps old.drives []
    ∙ ap (λ (k : ℕ). making
    (at u (record { nonce = old.next_nonce; object = old.next_object + k; sent = []; notes = []; mended = [] }) old.drives
    [])) many in
    let put : files_in files.entries ≡ put_file (add_file s.files (file_of u)) u.kept.number (file_of g) =
    ap files_in put_in ∙ sym (new_files old f.number u g good (not_there s f.number f.map f.zoned none) number (left ∙ number)) in
    let did : Did out (server_of new) (makes_file s (file_of u)) =
    subst (λ (z : Going). Did out (server_of new) (step_at w u.kept.number z)) go (record {
      state = ap server_of fin.state ∙ ap (λ (fs : List File). after_settling old fs m) put;
      sends = fin.sends;
      notes = fin.notes;
      mended = fin.mended;
    }) in (
      ds,
      makes_file s (file_of u),
      ap (λ (r : Option Refusal). unless_refused r
          (makes_file s (unmade s f.number f.map f.tag f.zoned (drives_for f.zoned s.drives f.map ds)))) none
          ∙ ap (λ (p : List ℕ). Ok (makes_file s (unmade s f.number f.map f.tag f.zoned p))) chosen
          ∙ ap (λ (x : File). Ok (makes_file s x)) (sym same),
      did,
    )

-- ---- what it looks at

pub has_entry : (t : Table) (n : ℕ) → AreEntries t → is_some (entry_at t n) ≡ is_some (file_at (files_in t) n)
has_entry t n a = mapped_alike (entry_at t n) ∙ ap is_some (sym (file_at-files t n a))
  where
    mapped_alike : (o : Option FileState) → is_some o ≡ is_some (option_map file_of o)
    mapped_alike None = refl
    mapped_alike (Some f) = refl

-- the new file is one of few components
pub sound_new : (k : Kept) (ds : List ℕ) (object : ℕ) → k.components ≡ components_on ds object → length ds ≡ k.map.comps →
    k.map.comps ≤ MAX_FILE_COMPONENTS →
    k.high ≡ 0 → k.grants ≡ [] → k.ended ≡ [] → IsSound k
sound_new k ds object e many few high live ended = record {
  few = rw (e, length_components ds object, many) few;
  whole = rw e (length_components ds object ∙ many);
  high = rw high (omega arith);
  live = rw live tt;
  ended = rw ended tt;
}

-- ---- what it leaves

same_it : (n k : ℕ) → is_at (nat_cmp n) k ≡ true → nat_cmp n k ≡ Equal
same_it n k t = grind (arith, nat_tests, at_number n k, t)

same_key : (n k : ℕ) → is_at (nat_cmp n) k ≡ true → n ≡ k
same_key n k t = grind (arith, nat_tests, at_number n k, t)

-- each file stands at its number
pub entries_inserted : (t : Table) (n : ℕ) (f : FileState) → AreEntries t → IsEntry (n, f) →
    AreEntries (insert_entry nat_cmp t n f)
entries_inserted [] n f a i = (i, tt)
entries_inserted (e ∷ es) n f a i = elim (cases_Bool (is_at (nat_cmp n) e.0)) [
  | inl here ↦ rw (same_it n e.0 here) (record { number = i.number ∙ same_key n e.0 here; sound = i.sound }, a.1)
  | inr not_here ↦ elim (cases_Bool (nat_lt e.0 n)) [
    | inl less ↦ rw (behind_it n e.0 less) (a.0, entries_inserted es n f a.1 i)
    | inr more ↦ rw (before_it n e.0 more not_here) (i, a)
  ]
]

-- a number that no file has
none_without : (t : Table) (n : ℕ) → entry_at t n ≡ None → without n t ≡ t
none_without [] n none = refl
none_without (e ∷ es) n none = elim (cases_Bool (is_at (nat_cmp n) e.0)) [
  | inl here ↦ absurd (some_none (rw here at none))
  | inr not_here ↦ rw not_here (ap (λ (xs : Table). e ∷ xs) (none_without es n (rw not_here at none)))
]
  where
    some_none : {f : FileState} → Some f ≡ None → ⊥
    some_none e = absurd (cc e)

inserted_out : (t : Table) (n : ℕ) (g : FileState) → entry_at t n ≡ None → without n (insert_entry nat_cmp t n g) ≡ t
inserted_out [] n g none = rw (is_at_same n) refl
inserted_out (e ∷ es) n g none = elim (cases_Bool (is_at (nat_cmp n) e.0)) [
  | inl here ↦ absurd (some_none (rw here at none))
  | inr not_here ↦ elim (cases_Bool (nat_lt e.0 n)) [
    | inl less ↦ rw (behind_it n e.0 less) (rw not_here (ap (λ (xs : Table). e ∷ xs) (inserted_out es n g (rw not_here at none))))
    | inr more ↦ rw (before_it n e.0 more not_here) (rw (is_at_same n) refl)
  ]
]
  where
    some_none : {f : FileState} → Some f ≡ None → ⊥
    some_none e = absurd (cc e)

-- no other file than the new one changes
pub others_inserted : (t : Table) (n : ℕ) (g : FileState) → entry_at t n ≡ None → OthersStay n t (insert_entry nat_cmp t n g)
others_inserted t n g none = inserted_out t n g none ∙ sym (none_without t n none)

-- none awaits anything at a number that no file has
unlisted : (t : Table) (ks : Keys) (n : ℕ) → entry_at t n ≡ None → AreListed ks t → AreListedBut n ks t
unlisted t ks n none a = λ x d m. elim (cases_Bool (n == m)) [
  | inl here ↦ a x d m
      ∙ rw here (ap (λ (k : ℕ). file_awaits (entry_at t k) x d) (sym (same_number n m here))
      ∙ ap (λ (o : Option FileState). file_awaits o x d) none)
  | inr there ↦ a x d m ∙ rw there refl
]

pub none_before : (old : State) (n : ℕ) (raw : RawMap) (zoned : Bool) → IsGood old → refusal (server_of old) n raw zoned ≡ None →
    entry_at old.files.entries n ≡ None
none_before old n raw zoned good none = no_entry old.files.entries n good.files (not_there (server_of old) n raw zoned none)

pub good_before : (old : State) (n : ℕ) (raw : RawMap) (zoned : Bool) → IsGood old → refusal (server_of old) n raw zoned ≡ None →
    IsGoodBut n old
good_before old n raw zoned good none = record {
  files = good.files;
  grants = good.grants;
  drives = good.drives;
  replies = unlisted old.files.entries old.replies n (none_before old n raw zoned good none) good.replies;
  counts = none_off old.files.entries old.counts n (none_before old n raw zoned good none) good.counts;
}

pub created_too : (f : NewFile) (old is new : State) (out : Step) → server_of new ≡ server_of is → Creates f old is out →
    Creates f old new out
created_too f old is new out e h = (h.0, h.1, h.2, subst (λ (s : Server). Did out s h.1) (sym e) h.3)
