-- The list of the grants of a map by file.
use Rattle.std.specs.Prelude.{ℕ, Bool, true, false, List, [], ◌∷◌, Option, Some, None, IfSome, IfNone, refl, ◌≡◌, ◌<◌, ◌==◌, ◌||◌}
use Rattle.std.specs.Borrow.{Bor}
use Rattle.std.specs.Option.{option_copied}
use Rattle.std.specs.Ordering.{nat_cmp}
use Rattle.std.specs.BTreeMap.{is_at, insert_entry}
use Rattle.std.specs.Map.{lookup, remove_entry, values_of}
use Rattle.std.proofs.Common.{arith, inl, inr, sym, ap, ◌∙◌, eq-eqb}
use Rattle.std.proofs.lemmas.Bool.{cases_Bool, cases_eq, cases_lt, ne_eqb}
use Rattle.std.proofs.lemmas.Bool.Decides.{nat_tests}
use Rattle.osd_lists.proofs.Tests.{at_number}
use Rattle.client_rules.specs.declared.grants.Held.{Held}
use Rattle.client_rules.specs.declared.grants.Due.{Due}
use Rattle.client_rules.specs.Grants.{held_of, put_held, without_held}
use Rattle.client_rules.specs.Going.{is_held}
use Rattle.client_rules.specs.Steps.{all_due}
use Rattle.held_grants.specs.ByFile.{AllBehind, AreByFile}

-- ---- a look-up

pub found : (f : ℕ) (es : List (ℕ × Held)) → AreByFile es → lookup (is_at (nat_cmp f)) es ≡ held_of (values_of es) f
unfolding held_of
found f [] o = refl
found f (e ∷ es) o =
    let same : is_at (nat_cmp f) e.0 ≡ (e.1.file == f) = at_number f e.0 ∙ ap (λ (z : ℕ). z == f) o.0 in
    rw same (elim (cases_Bool (e.1.file == f)) [ inl t ↦ rw t refl | inr z ↦ rw z (found f es o.2) ])

-- ---- a grant is put

pub put_there : (h : Held) (es : List (ℕ × Held)) → AreByFile es →
    put_held (values_of es) h ≡ values_of (insert_entry nat_cmp es h.file h)
unfolding put_held
put_there h [] o = refl
put_there h (e ∷ es) o = rw o.0 (elim (cases_lt h.file e.1.file) [
  | inl l ↦ grind (arith, nat_tests, l)
  | inr n ↦ elim (cases_eq e.1.file h.file) [
    | inl s ↦ grind (arith, nat_tests, s, n)
    | inr d ↦ grind (arith, nat_tests, d, n, put_there h es o.2)
  ]
])

behind_put : (f : ℕ) (h : Held) (es : List (ℕ × Held)) → AllBehind f es → f < h.file →
    AllBehind f (insert_entry nat_cmp es h.file h)
behind_put f h [] b l = (l, tt)
behind_put f h (e ∷ es) b l = elim (cases_lt h.file e.0) [
  | inl m ↦ grind (arith, nat_tests, m, b.0, b.1, l)
  | inr n ↦ elim (cases_eq e.0 h.file) [
    | inl s ↦ grind (arith, nat_tests, s, n, b.0, b.1, l)
    | inr d ↦ grind (arith, nat_tests, d, n, b.0, behind_put f h es b.1 l)
  ]
]

behind_more : (f g : ℕ) (es : List (ℕ × Held)) → f < g → AllBehind g es → AllBehind f es
behind_more f g [] l b = tt
behind_more f g (e ∷ es) l b = (omega (arith, l, b.0), behind_more f g es l b.1)

pub by_file_put : (h : Held) (es : List (ℕ × Held)) → AreByFile es → AreByFile (insert_entry nat_cmp es h.file h)
by_file_put h [] o = (refl, tt, tt)
by_file_put h (e ∷ es) o = elim (cases_lt h.file e.0) [
  | inl m ↦ grind (arith, nat_tests, m, o.0, o.1, o.2, behind_more h.file e.0 es m o.1)
  | inr n ↦ elim (cases_eq e.0 h.file) [
    | inl s ↦ grind (arith, nat_tests, s, n, o.0, o.1, o.2)
    | inr d ↦ grind (arith, nat_tests, d, n, o.0, behind_put e.0 h es o.1 (omega (arith, d, n)), by_file_put h es o.2)
  ]
]

-- ---- a grant is taken out

behind_left : (t : ℕ → Bool) (f : ℕ) (es : List (ℕ × Held)) → AllBehind f es → AllBehind f (remove_entry t es)
behind_left t f [] b = tt
behind_left t f (e ∷ es) b = elim (cases_Bool (t e.0)) [ inl y ↦ rw y b.1 | inr n ↦ rw n (b.0, behind_left t f es b.1) ]

pub by_file_left : (t : ℕ → Bool) (es : List (ℕ × Held)) → AreByFile es → AreByFile (remove_entry t es)
by_file_left t [] o = tt
by_file_left t (e ∷ es) o =
    elim (cases_Bool (t e.0)) [ inl y ↦ rw y o.2 | inr n ↦ rw n (o.0, behind_left t e.0 es o.1, by_file_left t es o.2) ]

none_without : (f : ℕ) (es : List (ℕ × Held)) → AreByFile es → AllBehind f es →
    without_held (values_of es) f ≡ values_of es
unfolding without_held
none_without f [] o b = refl
none_without f (e ∷ es) o b =
    let other : (e.1.file == f) ≡ false = ne_eqb e.1.file f (λ s. absurd (omega (arith, b.0, o.0, s))) in
    rw other (ap (λ (z : List Held). e.1 ∷ z) (none_without f es o.2 b.1))

pub left_there : (f : ℕ) (es : List (ℕ × Held)) → AreByFile es →
    without_held (values_of es) f ≡ values_of (remove_entry (is_at (nat_cmp f)) es)
unfolding without_held
left_there f [] o = refl
left_there f (e ∷ es) o =
    let same : is_at (nat_cmp f) e.0 ≡ (e.1.file == f) = at_number f e.0 ∙ ap (λ (z : ℕ). z == f) o.0 in
    rw same (elim (cases_eq e.1.file f) [
      | inl s ↦ rw (eq-eqb e.1.file f s) (none_without f es o.2 (rw (o.0 ∙ s) at o.1))
      | inr d ↦ rw (ne_eqb e.1.file f d) (ap (λ (z : List Held). e.1 ∷ z) (left_there f es o.2))
    ])

-- ---- taken out and put back

first_behind : (h : Held) (es : List (ℕ × Held)) → AreByFile es → AllBehind h.file es →
    put_held (values_of es) h ≡ h ∷ values_of es
unfolding put_held
first_behind h [] o b = refl
first_behind h (e ∷ es) o b = grind (arith, nat_tests, o.0, b.0)

pub put_back : (h : Held) (es : List (ℕ × Held)) → AreByFile es →
    put_held (without_held (values_of es) h.file) h ≡ put_held (values_of es) h
unfolding put_held without_held
put_back h [] o = refl
put_back h (e ∷ es) o = elim (cases_eq e.1.file h.file) [
  | inl s ↦ rw (eq-eqb e.1.file h.file s)
      (rw (none_without h.file es o.2 (rw (o.0 ∙ s) at o.1)) (first_behind h es o.2 (rw (o.0 ∙ s) at o.1)))
  | inr d ↦ rw (ne_eqb e.1.file h.file d) (rw (ne_eqb e.1.file h.file d) (elim (cases_lt h.file e.1.file) [
    | inl l ↦ grind (
      arith,
      nat_tests,
      l,
      none_without h.file es o.2
          (behind_more h.file e.0 es (omega (arith, l, o.0)) o.1),
    )
    | inr n ↦ grind (arith, nat_tests, n, put_back h es o.2)
  ]))
]

pub put_back_there : (f : ℕ) (h : Held) (es : List (ℕ × Held)) → AreByFile es → h.file ≡ f →
    put_held (values_of (remove_entry (is_at (nat_cmp f)) es)) h ≡ put_held (values_of es) h
put_back_there f h es o e = ap (λ (hs : List Held). put_held hs h)
    (sym (left_there f es o) ∙ ap (λ (z : ℕ). without_held (values_of es) z) (sym e)) ∙ put_back h es o

-- ---- each becomes due

pub due_end : (us : List Due) (es : List (ℕ × Held)) → es ≡ [] → all_due us (values_of es) ≡ us
unfolding all_due
due_end us es e = rw e refl

-- ---- what a look-up tells

pub got_some : (f : ℕ) (es : List (ℕ × Held)) (o : Option (Bor Held)) → AreByFile es →
    option_copied o ≡ lookup (is_at (nat_cmp f)) es →
    IfSome o (λ h. held_of (values_of es) f ≡ Some h.now)
got_some f es None o e = tt
got_some f es (Some b) o e = sym (found f es o) ∙ sym e

pub got_none : (f : ℕ) (es : List (ℕ × Held)) (o : Option (Bor Held)) → AreByFile es →
    option_copied o ≡ lookup (is_at (nat_cmp f)) es →
    IfNone o (held_of (values_of es) f ≡ None)
got_none f es None o e = sym (found f es o) ∙ sym e
got_none f es (Some b) o e = tt

none_named : (u : Due) (es : List (ℕ × Held)) → AreByFile es → AllBehind u.file es → is_held (values_of es) u ≡ false
none_named u [] o b = refl
none_named u (e ∷ es) o b =
    let other : (e.1.file == u.file) ≡ false = ne_eqb e.1.file u.file (λ s. absurd (omega (arith, b.0, o.0, s))) in
    rw other (none_named u es o.2 b.1)

-- whether the grant that is found has the number
abbrev pub has_number : (number : ℕ) → Option Held → Bool
has_number number None = false
has_number number (Some h) = h.number == number

pub named : (u : Due) (es : List (ℕ × Held)) → AreByFile es →
    is_held (values_of es) u ≡ has_number u.number (held_of (values_of es) u.file)
unfolding held_of
named u [] o = refl
named u (e ∷ es) o = elim (cases_eq e.1.file u.file) [
  | inl s ↦ rw (eq-eqb e.1.file u.file s)
      (either_number (e.1.number == u.number) (none_named u es o.2 (rw (o.0 ∙ s) at o.1)))
  | inr d ↦ rw (ne_eqb e.1.file u.file d) (named u es o.2)
]
  where
    either_number : (b : Bool) {c : Bool} → c ≡ false → (b || c) ≡ b
    either_number true e = refl
    either_number false e = e
