-- The list of files.
use Rattle.std.specs.Prelude.{ℕ, false, List, [], ◌∷◌, Some, refl, ◌≡◌, ◌==◌, nat_lt}
use Rattle.std.proofs.Common.{arith, inl, inr, eq-eqb, subst, sym, None, is_some, Bool}
use Rattle.std.proofs.lemmas.Bool.{cases_Bool}
use Rattle.std.proofs.lemmas.Bool.Decides.{nat_tests}
use Rattle.osd_lists.proofs.Options.{none_there}
use Rattle.data_map.specs.declared.check.RawMap.{RawMap}
use Rattle.server_rules.specs.declared.server.Server.{Server}
use Rattle.server_rules.specs.State.{File, Slot}
use Rattle.server_rules.specs.Slots.{slot_of, keep}
use Rattle.server_rules.specs.Files.{file_at, put_file, add_file}
use Rattle.server_rules.specs.Laws.{FilesArePut, SlotsAreKept, IsSafe, AreSafe, OthersStay, In}
use Rattle.server_rules.specs.Making.{refusal}

pub number_at : (fs : List File) (n : ℕ) (f : File) → file_at fs n ≡ Some f → f.kept.number ≡ n
unfolding file_at
number_at [] n f e = absurd (cc e)
number_at (g ∷ fs) n f e = elim (cases_Bool (g.kept.number == n)) [
  | inl t ↦ grind (arith, nat_tests, t, (rw t at e))
  | inr z ↦ number_at fs n f (rw z at e)
]

-- the file that was put back is found again, and every other is as it was
pub put_same : (fs : List File) (n : ℕ) (f g : File) → f.kept.number ≡ n → file_at fs n ≡ Some g →
    file_at (put_file fs n f) n ≡ Some f
unfolding file_at put_file
put_same [] n f g m e = absurd (cc e)
put_same (h ∷ hs) n f g m e = elim (cases_Bool (h.kept.number == n)) [
  | inl t ↦ rw t (rw (eq-eqb f.kept.number n m) refl)
  | inr z ↦ rw (z, z) (put_same hs n f g m (rw z at e))
]

pub put_other : (fs : List File) (m : ℕ) (f : File) → f.kept.number ≡ m → OthersStay m fs (put_file fs m f)
unfolding file_at put_file
put_other [] m f k n e = refl
put_other (h ∷ hs) m f k n e = elim (cases_Bool (h.kept.number == m)) [
  | inl t ↦ grind (arith, nat_tests, t, e, k)
  | inr z ↦ grind (arith, nat_tests, z, put_other hs m f k n e)
]

-- and so is every other file beside a new one
pub add_other : (fs : List File) (f : File) → OthersStay f.kept.number fs (add_file fs f)
unfolding file_at add_file
add_other [] f n e = rw e refl
add_other (g ∷ fs) f n e = elim (cases_Bool (nat_lt g.kept.number f.kept.number)) [
  | inl t ↦ rw t (elim (cases_Bool (g.kept.number == n)) [ inl x ↦ rw x refl | inr z ↦ rw z (add_other fs f n e) ])
  | inr z ↦ rw z (rw e refl)
]

pub safe_at : (fs : List File) (n : ℕ) (f : File) → AreSafe fs → file_at fs n ≡ Some f → IsSafe f
unfolding file_at
safe_at [] n f h e = absurd (cc e)
safe_at (g ∷ fs) n f h e = elim (cases_Bool (g.kept.number == n)) [
  | inl t ↦ subst IsSafe (same (rw t at e)) h.0
  | inr z ↦ safe_at fs n f h.1 (rw z at e)
]
  where
    same : Some g ≡ Some f → g ≡ f
    same x = cc x

pub safe_put : (fs : List File) (n : ℕ) (f : File) → AreSafe fs → IsSafe f → AreSafe (put_file fs n f)
unfolding put_file
safe_put [] n f h s = tt
safe_put (g ∷ fs) n f h s = elim (cases_Bool (g.kept.number == n)) [
  | inl t ↦ rw t (s, h.1)
  | inr z ↦ rw z (h.0, safe_put fs n f h.1 s)
]

pub safe_add : (fs : List File) (f : File) → AreSafe fs → IsSafe f → AreSafe (add_file fs f)
unfolding add_file
safe_add [] f h s = (s, tt)
safe_add (g ∷ fs) f h s = elim (cases_Bool (nat_lt g.kept.number f.kept.number)) [
  | inl t ↦ rw t (h.0, safe_add fs f h.1 s)
  | inr z ↦ rw z (s, h)
]

pub files_put : FilesArePut
files_put fs n f g m e = (put_same fs n f g m e, put_other fs n f m)

pub keep_same : (ss : List Slot) (s : Slot) → slot_of (keep ss s) s.client ≡ Some s
unfolding keep
keep_same [] s = rw (eq-eqb s.client s.client refl) refl
keep_same (t ∷ ts) s = elim (cases_Bool (t.client == s.client)) [
  | inl e ↦ rw e (rw (eq-eqb s.client s.client refl) refl)
  | inr z ↦ rw (z, z) (keep_same ts s)
]

pub keep_other : (ss : List Slot) (s : Slot) (c : ℕ) → (s.client == c) ≡ false → slot_of (keep ss s) c ≡ slot_of ss c
unfolding keep
keep_other [] s c e = rw e refl
keep_other (t ∷ ts) s c e = elim (cases_Bool (t.client == s.client)) [
  | inl x ↦ grind (arith, nat_tests, x, e)
  | inr z ↦ grind (arith, nat_tests, z, keep_other ts s c e)
]

pub slots_kept : SlotsAreKept
slots_kept ss s = (keep_same ss s, keep_other ss s)

-- a file that is found is one of them
pub file_in : (fs : List File) (n : ℕ) (f : File) → file_at fs n ≡ Some f → In f fs
unfolding file_at
file_in [] n f e = absurd (cc e)
file_in (g ∷ fs) n f e = elim (cases_Bool (g.kept.number == n)) [
  | inl t ↦ inl (cc (sym (rw t at e)))
  | inr z ↦ inr (file_in fs n f (rw z at e))
]

-- a number under which a file may be made is no file's
pub not_there : (s : Server) (n : ℕ) (m : RawMap) (zoned : Bool) → refusal s n m zoned ≡ None → file_at s.files n ≡ None
unfolding refusal
not_there s n m zoned e = elim (cases_Bool (is_some (file_at s.files n))) [
  | inl t ↦ absurd (cc (rw t at e))
  | inr z ↦ none_there (file_at s.files n) z
]
