-- Files by number, in the code's map and in the rules' list.
use Rattle.std.specs.Prelude.{ℕ, true, [], ◌∷◌, None, Some, refl, ◌≡◌, ◌==◌}
use Rattle.std.specs.Option.{option_map}
use Rattle.std.specs.Ordering.{nat_cmp}
use Rattle.std.specs.BTreeMap.{is_at}
use Rattle.std.specs.Map.{set_value}
use Rattle.std.proofs.Common.{arith, inl, inr, ap, sym, subst, ◌∙◌}
use Rattle.std.proofs.lemmas.Bool.{cases_Bool}
use Rattle.std.proofs.lemmas.Bool.Decides.{nat_tests}
use Rattle.osd_lists.proofs.Tests.{at_number}
use Rattle.server_rules.specs.Files.{file_at, put_file}
use Rattle.server_rules.specs.Requests.{size_in}
use Rattle.server_state.specs.FileRequests.{LeavesFile}
use Rattle.file_jobs.specs.declared.job.FileState.{FileState}
use Rattle.file_jobs.specs.Steps.{file_of}
use Rattle.file_jobs.specs.Sound.{IsSoundFile}
use Rattle.server_state.specs.Tables.{Table, files_in, entry_at, IsEntry, AreEntries}

number_at : (n : ℕ) (e : ℕ × FileState) → IsEntry e → is_at (nat_cmp n) e.0 ≡ (e.1.kept.number == n)
number_at n e i = at_number n e.0 ∙ ap (λ k. k == n) (sym i.number)

-- the file of a number
pub file_at-files : (t : Table) (n : ℕ) → AreEntries t → file_at (files_in t) n ≡ option_map file_of (entry_at t n)
unfolding file_at
file_at-files [] n a = refl
file_at-files (e ∷ es) n a = elim (cases_Bool (e.1.kept.number == n)) [
  | inl here ↦ rw (here, number_at n e a.0, here) refl
  | inr not_here ↦ rw (not_here, number_at n e a.0, not_here) (file_at-files es n a.1)
]

-- in the place of the file of a number
pub put_file-files : (t : Table) (n : ℕ) (f : FileState) → AreEntries t →
    put_file (files_in t) n (file_of f) ≡ files_in (set_value (is_at (nat_cmp n)) t f)
unfolding put_file
put_file-files [] n f a = refl
put_file-files (e ∷ es) n f a = elim (cases_Bool (e.1.kept.number == n)) [
  | inl here ↦ rw (here, number_at n e a.0, here) refl
  | inr not_here ↦ rw (not_here, number_at n e a.0, not_here) (ap (λ fs. file_of e.1 ∷ fs) (put_file-files es n f a.1))
]

-- the file that is put stands at its number
pub entries_put : (t : Table) (n : ℕ) (f : FileState) → AreEntries t → IsEntry (n, f) →
    AreEntries (set_value (is_at (nat_cmp n)) t f)
entries_put [] n f a i = tt
entries_put (e ∷ es) n f a i = elim (cases_Bool (is_at (nat_cmp n) e.0)) [
  | inl here ↦ rw here (record { number = i.number ∙ same_key n e.0 here; sound = i.sound }, a.1)
  | inr not_here ↦ rw not_here (a.0, entries_put es n f a.1 i)
]
  where
    same_key : (n k : ℕ) → is_at (nat_cmp n) k ≡ true → n ≡ k
    same_key n k t = grind (arith, nat_tests, at_number n k, t)

-- what was found stands at its number
pub entry_found : (t : Table) (n : ℕ) (f : FileState) → AreEntries t → entry_at t n ≡ Some f → IsEntry (n, f)
entry_found [] n f a e = absurd (cc e)
entry_found (x ∷ xs) n f a e = elim (cases_Bool (is_at (nat_cmp n) x.0)) [
  | inl here ↦ found_here n x f a.0 here (rw here at e)
  | inr not_here ↦ entry_found xs n f a.1 (rw not_here at e)
]
  where
    same_key : (n k : ℕ) → is_at (nat_cmp n) k ≡ true → n ≡ k
    same_key n k t = grind (arith, nat_tests, at_number n k, t)

    found_here : (n : ℕ) (x : ℕ × FileState) (f : FileState) → IsEntry x → is_at (nat_cmp n) x.0 ≡ true → Some x.1 ≡ Some f →
        IsEntry (n, f)
    found_here n x f i t e =
        let same : x.1 ≡ f = cc e in
        record {
          number = ap (λ (y : FileState). y.kept.number) (sym same) ∙ i.number ∙ sym (same_key n x.0 t);
          sound =
              subst (λ y. IsSoundFile y) same i.sound;
        }

-- it stays at its number
pub entries_left : (t : Table) (n : ℕ) (f g : FileState) → AreEntries t → entry_at t n ≡ Some f → LeavesFile f g →
    AreEntries (set_value (is_at (nat_cmp n)) t g)
entries_left t n f g a e l = entries_put t n g a (record { number = l.number ∙ (entry_found t n f a e).number; sound = l.sound })

-- the file that there is, and the one that there isn't
pub file_there : (t : Table) (n : ℕ) (f : FileState) → AreEntries t → entry_at t n ≡ Some f →
    file_at (files_in t) n ≡ Some (file_of f)
file_there t n f a e = file_at-files t n a ∙ ap (option_map file_of) e

pub no_file_there : (t : Table) (n : ℕ) → AreEntries t → entry_at t n ≡ None → file_at (files_in t) n ≡ None
no_file_there t n a e = file_at-files t n a ∙ ap (option_map file_of) e

pub size_there : (t : Table) (n : ℕ) (f : FileState) → AreEntries t → entry_at t n ≡ Some f →
    f.kept.size ≡ size_in (file_at (files_in t) n)
size_there t n f a e = ap size_in (sym (file_there t n f a e))

pub no_size_there : (t : Table) (n : ℕ) → AreEntries t → entry_at t n ≡ None → 0 ≡ size_in (file_at (files_in t) n)
no_size_there t n a e = ap size_in (sym (no_file_there t n a e))
