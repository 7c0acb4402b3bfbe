-- A repair that is over takes marks away, here and there.
use Rattle.std.proofs.Common.{◌≡◌, ℕ, ◌==◌, ◌||◌, ◌&&◌, ◌∷◌, [], List, Bool, true, false, not, cond, true≢false, Option, Some, None, length, find, refl, sym, ap, ◌∙◌, arith, inl, inr, eq-eqb, ne_eqb}
use Rattle.std.specs.Prelude.{nat_lt}
use Rattle.std.proofs.lemmas.Bool.{cases_Bool, cases_eq, and_parts}
use Rattle.std.proofs.lemmas.Bool.Decides.{nat_tests}
use Rattle.osd_lists.proofs.Tests.{and_false, same_number}
use Rattle.data_map.specs.declared.check.RawMap.{RawMap}
use Rattle.data_map.specs.Striping.{parities}
use Rattle.scenario_text.specs.declared.line.Note.TheVariants as note
use Rattle.server_rules.specs.Files.{file_at}
use Rattle.server_rules.specs.Numbers.{among}
use Rattle.world_history.specs.ServerNames.{File, Mended}
use Rattle.world_history.specs.Stripes.{Mark, is_in, is_repaired as is_repaired_in, marks_left}
use Rattle.world_history.specs.Calm.{marks_behind}
use Rattle.world_calm.specs.declared.calls.LogEntry.{LogEntry}
use Rattle.world_calm.specs.declared.marks.Marked.{Marked}
use Rattle.world_calm.specs.Marking.{is_of, is_repaired, stripes_left, mended_by, has_stripes, all_mended}
use Rattle.world_calm.specs.Seeing.{CalmState, mended_by as mends}
use Rattle.component_law.specs.Words.{Each, is_there}
use Rattle.calm_law.specs.Marks.{any_mark, any_marked, IsReal, has_parity, has_parity_in, KeepsMarks, HaveMaps, NotesMark}

-- ---- tests

-- a filter that keeps a member exactly where b holds
kept_both : (a b c : Bool) → ((a && b) || (c && b)) ≡ ((a || c) && b)
kept_both true true c = refl
kept_both true false c = and_false c
kept_both false b c = refl

-- ---- the marks of the moments

-- the repair takes the marks of a stripe
abbrev takes : RawMap → Mended → (f s : ℕ) → Bool
takes m r f s = (f == r.file) && is_repaired_in m r s

one_left : (m : RawMap) (r : Mended) (k : Mark) (f s n : ℕ) → (is_in f s k && (k.entry == n)) ≡ true
    → ((k.file == r.file) && is_repaired_in m r k.stripe) ≡ takes m r f s
one_left m r k f s n e =
    let i : is_in f s k ≡ true = (and_parts (is_in f s k) (k.entry == n) e).0 in
    let b : ((k.file == f) ≡ true) × ((k.stripe == s) ≡ true) = and_parts (k.file == f) (k.stripe == s) i in
    ap (λ (x : ℕ). (x == r.file) && is_repaired_in m r k.stripe) (same_number k.file f b.0)
    ∙ ap (λ (x : ℕ). (f == r.file) && is_repaired_in m r x) (same_number k.stripe s b.1)

-- a mark before others
kept_one : (hit out all more left : Bool) (k : Mark) (rest : List Mark) (f s n : ℕ)
    → (is_in f s k && (k.entry == n)) ≡ hit → any_mark f s n rest ≡ left → (hit ≡ true → out ≡ all)
    → left ≡ (more && not all)
    → any_mark f s n (cond (not out) (k ∷ rest) rest) ≡ ((hit || more) && not all)
kept_one true true all more left k rest f s n h l q e =
    let a : true ≡ all = q refl in
    rw (sym a) (l ∙ e ∙ ap (λ (b : Bool). more && not b) (sym a) ∙ and_false more)
kept_one true false all more left k rest f s n h l q e =
    let a : false ≡ all = q refl in
    rw (h, sym a) refl
kept_one false true all more left k rest f s n h l q e = l ∙ e
kept_one false false all more left k rest f s n h l q e = rw h (l ∙ e)

marks_kept : (m : RawMap) (r : Mended) (ks : List Mark) (f s n : ℕ)
    → any_mark f s n (marks_left ks m r) ≡ (any_mark f s n ks && not (takes m r f s))
marks_kept m r [] f s n = refl
marks_kept m r (k ∷ ks) f s n = elim (cases_Bool (is_in f s k && (k.entry == n))) [
  | inl t ↦
      let q : ((k.file == r.file) && is_repaired_in m r k.stripe) ≡ takes m r f s = one_left m r k f s n t in
      kept_one (is_in f s k && (k.entry == n)) ((k.file == r.file) && is_repaired_in m r k.stripe) (takes m r f s)
      (any_mark f s n ks) (any_mark f s n (marks_left ks m r)) k (marks_left ks m r) f s n refl refl (λ e. q)
      (marks_kept m r ks f s n)
  | inr z ↦
      kept_one (is_in f s k && (k.entry == n)) ((k.file == r.file) && is_repaired_in m r k.stripe) (takes m r f s)
      (any_mark f s n ks) (any_mark f s n (marks_left ks m r)) k (marks_left ks m r) f s n refl refl
      (λ e. absurd (cc (sym e ∙ z))) (marks_kept m r ks f s n)
]

-- ---- the marks that are kept

among_left : (r : Mended) (ss : List ℕ) (s : ℕ) → among s (stripes_left r ss) ≡ (among s ss && not (is_repaired r s))
unfolding among
among_left r [] s = refl
among_left r (x ∷ ss) s = elim (cases_eq s x) [
  | inl same ↦ elim (cases_Bool (is_repaired r x)) [
    | inl out ↦ rw (eq-eqb s x same, out) (among_left r ss s
        ∙ ap (λ (b : Bool). among s ss && not b) (ap (is_repaired r) same ∙ out) ∙ and_false (among s ss)
        ∙ sym (ap (λ (b : Bool). not b) (ap (is_repaired r) same ∙ out)))
    | inr stays ↦ rw stays (rw (eq-eqb s x same) (sym (ap (λ (b : Bool). not b) (ap (is_repaired r) same ∙ stays))))
  ]
  | inr apart ↦ elim (cases_Bool (is_repaired r x)) [
    | inl out ↦ rw (ne_eqb s x apart, out) (among_left r ss s)
    | inr stays ↦ rw stays (rw (ne_eqb s x apart) (among_left r ss s))
  ]
]

abbrev taken : Mended → (f s : ℕ) → Bool
taken r f s = (f == r.file) && is_repaired r s

one_mended : (r : Mended) (m : Marked) (f s n : ℕ)
    → (is_of n f (mended_by r m) && among s (mended_by r m).stripes)
    ≡ ((is_of n f m && among s m.stripes) && not (taken r f s))
one_mended r m f s n = elim (cases_eq m.file f) [
  | inl here ↦ elim (cases_eq m.file r.file) [
    | inl it ↦ rw (eq-eqb m.file r.file it) (rw (among_left r m.stripes s, eq-eqb f r.file (sym here ∙ it))
        (both_again (is_of n f m) (among s m.stripes) (not (is_repaired r s))))
    | inr other ↦ rw (ne_eqb m.file r.file other, ne_eqb f r.file (λ q. other (here ∙ q)))
        (sym (whole (is_of n f m && among s m.stripes)))
  ]
  | inr away ↦ elim (cases_eq m.file r.file) [
    | inl it ↦ rw (eq-eqb m.file r.file it) (rw (ne_eqb m.file f away) (nothing (m.write == n)))
    | inr other ↦ rw (ne_eqb m.file r.file other) (rw (ne_eqb m.file f away) (nothing_too (m.write == n)))
  ]
]
  where
    both_again : (a b c : Bool) → (a && (b && c)) ≡ ((a && b) && c)
    both_again true b c = refl
    both_again false b c = refl

    whole : (a : Bool) → (a && true) ≡ a
    whole true = refl
    whole false = refl

    nothing : (a : Bool) → ((a && false) && among s (stripes_left r m.stripes))
        ≡ (((a && false) && among s m.stripes) && not (taken r f s))
    nothing true = refl
    nothing false = refl

    nothing_too : (a : Bool) → ((a && false) && among s m.stripes)
        ≡ (((a && false) && among s m.stripes) && not (taken r f s))
    nothing_too true = refl
    nothing_too false = refl

-- one without stripes has none
empty_none : (s : ℕ) (ss : List ℕ) → nat_lt 0 (length ss) ≡ false → among s ss ≡ false
unfolding among
empty_none s [] e = refl
empty_none s (x ∷ ss) e =
    let t : nat_lt 0 (length (x ∷ ss)) ≡ true = grind (arith, nat_tests) in
    absurd (true≢false (sym t ∙ e))

marked_kept : (r : Mended) (ms : List Marked) (f s n : ℕ)
    → any_marked f s n (all_mended ms r) ≡ (any_marked f s n ms && not (taken r f s))
marked_kept r [] f s n = refl
marked_kept r (m ∷ ms) f s n = elim (cases_Bool (has_stripes (mended_by r m))) [
  | inl t ↦ rw t (ap (λ (b : Bool). (is_of n f (mended_by r m) && among s (mended_by r m).stripes) || b) (marked_kept r ms f s n)
      ∙ ap (λ (b : Bool). b || (any_marked f s n ms && not (taken r f s))) (one_mended r m f s n)
      ∙ kept_both (is_of n f m && among s m.stripes) (not (taken r f s)) (any_marked f s n ms))
  | inr z ↦
      let none : ((is_of n f m && among s m.stripes) && not (taken r f s)) ≡ false =
      sym (one_mended r m f s n) ∙ ap (λ (b : Bool). is_of n f (mended_by r m) && b)
      (empty_none s (mended_by r m).stripes z) ∙ and_false (is_of n f (mended_by r m)) in
      rw z (marked_kept r ms f s n
      ∙ ap (λ (b : Bool). b || (any_marked f s n ms && not (taken r f s))) (sym none)
      ∙ kept_both (is_of n f m && among s m.stripes) (not (taken r f s)) (any_marked f s n ms))
]

real_mended : (there : List File) (es : List LogEntry) (r : Mended) (ms : List Marked)
    → Each (λ m. IsReal es m × (is_there there m.file ≡ true)) ms
    → Each (λ m. IsReal es m × (is_there there m.file ≡ true)) (all_mended ms r)
real_mended there es r [] h = tt
real_mended there es r (m ∷ ms) h = elim (cases_Bool (has_stripes (mended_by r m))) [
  | inl t ↦ rw t (real_one, real_mended there es r ms h.1)
  | inr z ↦ rw z (real_mended there es r ms h.1)
]
  where
    real_one : IsReal es (mended_by r m) × (is_there there (mended_by r m).file ≡ true)
    real_one = elim (cases_Bool (m.file == r.file)) [ inl t ↦ rw t h.0 | inr z ↦ rw z h.0 ]

-- ---- in a file with parity both take the same

same_repaired : (m : RawMap) (r : Mended) (s : ℕ) → nat_lt 0 (parities m) ≡ true → is_repaired_in m r s ≡ is_repaired r s
same_repaired m r s p =
    let z : (parities m == 0) ≡ false = grind (arith, nat_tests, p) in
    rw z refl

of_file : (rs : List Mended) (n : ℕ) (r : Mended) → find (λ (x : Mended). x.file == n) rs ≡ Some r → r.file ≡ n
of_file [] n r e = absurd (cc e)
of_file (x ∷ rs) n r e = elim (cases_Bool (x.file == n)) [
  | inl t ↦
      let same : x ≡ r = cc (rw t at e) in
      ap (λ (y : Mended). y.file) (sym same) ∙ same_number x.file n t
  | inr z ↦ of_file rs n r (rw z at e)
]

-- the marks of the moments lose at most what a repair takes
fewer : (ks : List Mark) (m : RawMap) (r : Mended) (f s n : ℕ) → any_mark f s n (marks_left ks m r) ≡ true
    → any_mark f s n ks ≡ true
fewer ks m r f s n e = (and_parts (any_mark f s n ks) (not (takes m r f s)) (sym (marks_kept m r ks f s n) ∙ e)).0

mended_keeps : (there now : List File) (es : List LogEntry) (ks : List Mark) (ms : List Marked) (n : ℕ) (r : Mended)
    (a b : ℕ) (o : Option File) → file_at now n ≡ o → r.file ≡ n → HaveMaps there now → KeepsMarks there es ks ms
    → KeepsMarks there es (marks_behind ks (note.Repaired a b) o (Some r)) (all_mended ms r)
mended_keeps there now es ks ms n r a b None e q maps h = record {
  same = λ f s i p u. h.same f s i p u ∙ sym (marked_kept r ms f s i ∙ stays f s i (not_it f p));
  known = h.known;
  real = real_mended there es r ms h.real;
}
  where
    not_it : (f : ℕ) → has_parity there f ≡ true → (f == r.file) ≡ false
    not_it f p = ne_eqb f r.file (λ i. gone (file_at there f) refl p (i ∙ q))
      where
        gone : (o : Option File) → file_at there f ≡ o → has_parity_in o ≡ true → f ≡ n → ⊥
        gone None s p i = absurd (cc p)
        gone (Some g) s p i =
            let m : (x : File) × (file_at now f ≡ Some x) × (x.kept.map ≡ g.kept.map) = maps f g s in
            absurd (cc (sym m.1 ∙ ap (file_at now) i ∙ e))

    stays : (f s i : ℕ) → (f == r.file) ≡ false → (any_marked f s i ms && not (taken r f s)) ≡ any_marked f s i ms
    stays f s i z = rw z (whole (any_marked f s i ms))
      where
        whole : (a : Bool) → (a && true) ≡ a
        whole true = refl
        whole false = refl
mended_keeps there now es ks ms n r a b (Some g) e q maps h = record {
  same = λ f s i p u. marks_kept g.kept.map r ks f s i
      ∙ ap (λ (x : Bool). x && not (takes g.kept.map r f s)) (h.same f s i p u)
      ∙ ap (λ (x : Bool). any_marked f s i ms && not x) (alike f s p)
      ∙ sym (marked_kept r ms f s i);
  known = λ f s i x. h.known f s i (fewer ks g.kept.map r f s i x);
  real = real_mended there es r ms h.real;
}
  where
    parity : (f : ℕ) (o : Option File) → file_at there f ≡ o → has_parity_in o ≡ true → f ≡ n
        → nat_lt 0 (parities g.kept.map) ≡ true
    parity f None s p i = absurd (cc p)
    parity f (Some x) s p i =
        let m : (y : File) × (file_at now f ≡ Some y) × (y.kept.map ≡ x.kept.map) = maps f x s in
        let same : m.0 ≡ g = cc (sym m.1 ∙ ap (file_at now) i ∙ e) in
        ap (λ (z : RawMap). nat_lt 0 (parities z)) (ap (λ (z : File). z.kept.map) (sym same) ∙ m.2) ∙ p

    alike : (f s : ℕ) → has_parity there f ≡ true → takes g.kept.map r f s ≡ taken r f s
    alike f s p = elim (cases_eq f r.file) [
      | inl i ↦ ap (λ (x : Bool). (f == r.file) && x)
          (same_repaired g.kept.map r s (parity f (file_at there f) refl p (i ∙ q)))
      | inr z ↦ rw (ne_eqb f r.file z) refl
    ]

found_keeps : (rs : List Mended) (there now : List File) (ks : List Mark) (c : CalmState) (n a b : ℕ) (o : Option Mended)
    → find (λ (r : Mended). r.file == n) rs ≡ o → HaveMaps there now → KeepsMarks there c.log.entries ks c.marks
    → KeepsMarks there (mends c o).log.entries (marks_behind ks (note.Repaired a b) (file_at now n) o) (mends c o).marks
found_keeps rs there now ks c n a b None e maps h = none_found (file_at now n)
  where
    none_found : (o : Option File) → KeepsMarks there c.log.entries (marks_behind ks (note.Repaired a b) o None) c.marks
    none_found None = h
    none_found (Some f) = h
found_keeps rs there now ks c n a b (Some r) e maps h =
    mended_keeps there now c.log.entries ks c.marks n r a b (file_at now n) refl (of_file rs n r e) maps h

pub notes_mark : NotesMark
notes_mark rs there now ks c n (note.Repaired a b) maps h =
    found_keeps rs there now ks c n a b (find (λ (r : Mended). r.file == n) rs) refl maps h
notes_mark rs there now ks c n (note.NoSpace k) maps h = h
notes_mark rs there now ks c n (note.Reported k) maps h = h
notes_mark rs there now ks c n (note.Rebuilt k d) maps h = h
notes_mark rs there now ks c n what maps h = h
