-- Each note of a step of the server: its events make of the machine what the note makes of the moment.
use Rattle.std.proofs.Common.{◌≡◌, ◌+◌, ◌==◌, ◌&&◌, not, ℕ, suc, Bool, true, false, List, [], ◌∷◌, length, filter, find, length-set, Option, Some, None, refl, sym, ap, subst, ◌∙◌, inl, inr, if◌then◌else◌}
use Rattle.std.proofs.lemmas.Bool.{true≢false, cases_Bool, cases_eq, eq-eqb, ne_eqb, eqb-true}
use Rattle.server_rules.specs.Files.{file_at}
use Rattle.server_rules.specs.Laws.{In}
use Rattle.server_rules.specs.Numbers.{among}
use Rattle.server_rules.specs.Standing.{lose_from}
use Rattle.server_rules.proofs.FileLaws.{files_put, number_at}
use Rattle.scenario_text.specs.declared.line.Note.{Note as ToldNote}
use Rattle.scenario_text.specs.declared.line.Note.TheVariants as note
use Rattle.scenario_text.specs.declared.line.Line.TheVariants as line
use Rattle.data_map.specs.declared.check.RawMap.{RawMap}
use Rattle.world_history.specs.ServerNames.{File, Component, Mended}
use Rattle.world_history.specs.Stripes.{Mark, Moment, is_repaired, marks_left}
use Rattle.world_history.specs.Calm.{moment_behind, marks_behind, noted, noted_in, stands_on}
use Rattle.component_law.specs.Components.{told_by}
use Rattle.headline_law.specs.Watching.{is_no_repair}
use Rattle.headline_law.proofs.CalmNotes.{IsOn}

-- ---- marks of the file

kept_by : {A : Type 0} (p : A → Bool) (xs : List A) (x : A) → In x xs → p x ≡ true → In x (filter p xs)
kept_by p [] x i e = absurd i
kept_by p (y ∷ xs) x i e = elim i [
  | inl same ↦ rw (ap p (sym same) ∙ e) (inl same)
  | inr later ↦ skip (p y) (kept_by p xs x later e)
]
  where
    skip : (b : Bool) → In x (filter p xs) → In x (if b then y ∷ filter p xs else filter p xs)
    skip true k = inr k
    skip false k = k

found_so : {A : Type 0} (p : A → Bool) (xs : List A) (x : A) → find p xs ≡ Some x → p x ≡ true
found_so p [] x e = absurd (cc e)
found_so p (y ∷ xs) x e = elim (cases_Bool (p y)) [
  | inl t ↦ let same : y ≡ x = cc (rw t at e) in ap p (sym same) ∙ t
  | inr z ↦ found_so p xs x (rw z at e)
]

-- a repair of another file leaves them
beside_repair : (ks : List Mark) (r : RawMap) (d : Mended) (k : Mark) → (k.file ≡ d.file → ⊥) → In k ks →
    In k (marks_left ks r d)
beside_repair ks r d k other i =
    kept_by (λ (y : Mark). not ((y.file == d.file) && is_repaired r d y.stripe)) ks k i (rw (ne_eqb k.file d.file other) refl)

stay_by : (ks : List Mark) (stripes short n : ℕ) (o : Option File) (q : Option Mended) (k : Mark) →
    ((d : Mended) → q ≡ Some d → k.file ≡ d.file → ⊥) → In k ks →
    In k (marks_behind ks (note.Repaired stripes short) o q)
stay_by ks stripes short n None q k other i = i
stay_by ks stripes short n (Some x) None k other i = i
stay_by ks stripes short n (Some x) (Some d) k other i = beside_repair ks x.kept.map d k (other d refl) i

stay_plain : (ks : List Mark) (what : ToldNote) (o : Option File) (q : Option Mended) (k : Mark) → is_no_repair what ≡ true →
    In k ks → In k (marks_behind ks what o q)
stay_plain ks (note.Repaired stripes short) o q k no_ i = absurd (true≢false (sym no_))
stay_plain ks what o q k no_ i = i

stay_beside : (ks : List Mark) (what : ToldNote) (n : ℕ) (o : Option File) (rs : List Mended) (k : Mark) → (k.file ≡ n → ⊥) →
    In k ks → In k (marks_behind ks what o (find (λ (r : Mended). r.file == n) rs))
stay_beside ks (note.Repaired stripes short) n o rs k other i =
    stay_by ks stripes short n o (find (λ (r : Mended). r.file == n) rs) k
    (λ d is same. other (same ∙ eqb-true d.file n (found_so (λ (r : Mended). r.file == n) rs d is))) i
stay_beside ks what n o rs k other i = i

-- ---- the next moment

-- the file with these components
abbrev pub with_parts : File → List Component → File
with_parts f cs = record f { kept = record f.kept { components = cs } }

pub noted_file : (fs : List File) (m n : ℕ) (what : ToldNote) (x : File) → file_at fs n ≡ Some x →
    file_at (noted_in fs m what (file_at fs m)) n
    ≡ Some (with_parts x (if m == n then noted x.kept.components what else x.kept.components))
noted_file fs m n what x e = elim (cases_eq m n) [
  | inl same ↦
      subst (λ (k : ℕ). file_at (noted_in fs k what (file_at fs k)) n
      ≡ Some (with_parts x (if k == n then noted x.kept.components what else x.kept.components))) (sym same)
      (ap (λ (o : Option File). file_at (noted_in fs n what o) n) e
      ∙ (files_put fs n (with_parts x (noted x.kept.components what)) x (number_at fs n x e) e).0
      ∙ ap (λ (b : Bool). Some (with_parts x (if b then noted x.kept.components what else x.kept.components)))
      (sym (eq-eqb n n refl)))
  | inr other ↦
      beside (ne_eqb m n other) (file_at fs m) refl
      ∙ ap (λ (b : Bool). Some (with_parts x (if b then noted x.kept.components what else x.kept.components)))
      (sym (ne_eqb m n other))
]
  where
    beside : (m == n) ≡ false → (o : Option File) → file_at fs m ≡ o →
        file_at (noted_in fs m what o) n ≡ Some (with_parts x x.kept.components)
    beside ne None is = e
    beside ne (Some y) is =
        (files_put fs m (with_parts y (noted y.kept.components what)) y (number_at fs m y is) is).1 n ne ∙ e

module _ (number : ℕ) (rs : List Mended) (n : Moment) (x : File) (there : file_at n.server.files number ≡ Some x) where
  abbrev next : (file : ℕ) → ToldNote → Moment
  next file what = moment_behind rs n file what

  abbrev parts : (file : ℕ) → ToldNote → List Component
  parts file what = told_by number x.kept.components (line.Note file what)

  next_file : (file : ℕ) (what : ToldNote) →
      file_at (next file what).server.files number ≡ Some (with_parts x (parts file what))
  next_file file what = noted_file n.server.files file number what x there

  on_next : (file : ℕ) (what : ToldNote) (cs : List Component) → parts file what ≡ cs →
      length cs ≡ length x.kept.components →
      ((k : Mark) → k.file ≡ number → In k n.marks → In k (next file what).marks) →
      IsOn number n (next file what) x (with_parts x cs)
  on_next file what cs same long marks = record {
    there = next_file file what ∙ ap (λ (ds : List Component). Some (with_parts x ds)) same;
    same_number = refl;
    map = refl;
    granted = refl;
    long = long;
    beside = record { log = refl; failed = refl; stopped = refl };
    marks = marks;
  }

  -- of another file
  pub on_other : (file : ℕ) (what : ToldNote) → (file ≡ number → ⊥) → IsOn number n (next file what) x x
  on_other file what other =
      on_next file what x.kept.components (rw (ne_eqb file number other) refl) refl
      (λ k is i. stay_beside n.marks what file (file_at n.server.files file) rs k (λ e. other (sym e ∙ is)) i)

  -- of this one
  pub on_own : (what : ToldNote) (cs : List Component) → is_no_repair what ≡ true → noted x.kept.components what ≡ cs →
      length cs ≡ length x.kept.components → IsOn number n (next number what) x (with_parts x cs)
  on_own what cs plain is long =
      on_next number what cs (rw (eq-eqb number number refl) is) long
      (λ k e i. stay_plain n.marks what (file_at n.server.files number) (find (λ (r : Mended). r.file == number) rs) k plain i)

  pub own_there : (stripes short : ℕ) →
      file_at (next number (note.Repaired stripes short)).server.files number ≡ Some x
  own_there stripes short = next_file number (note.Repaired stripes short) ∙ same (number == number)
    where
      same : (b : Bool) → Some (with_parts x (if b then x.kept.components else x.kept.components)) ≡ Some x
      same true = refl
      same false = refl

-- ---- components

pub long_lost : (ks : List ℕ) (cs : List Component) (k : ℕ) → length (lose_from ks cs k) ≡ length cs
unfolding lose_from
long_lost ks [] k = refl
long_lost ks (c ∷ cs) k = ap suc (long_lost ks cs (k + 1))

pub long_stood : (cs : List Component) (k d : ℕ) (o : Option Component) → length (stands_on cs k d o) ≡ length cs
long_stood cs k d None = refl
long_stood cs k d (Some at) = length-set cs k _

pub one_of : (j k : ℕ) → (j ≡ k → ⊥) → among j (k ∷ []) ≡ false
unfolding among
one_of j k other = rw (ne_eqb j k other) refl

pub is_one : (j k : ℕ) → j ≡ k → among j (k ∷ []) ≡ true
unfolding among
is_one j k same = rw (eq-eqb j k same) refl
