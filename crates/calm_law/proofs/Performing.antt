-- A WRITE that is performed marks the same stripes here and there.
use Rattle.std.proofs.Common.{◌≡◌, ◌⊎◌, ℕ, suc, ◌+◌, ◌<◌, ◌≤◌, ◌==◌, ◌||◌, ◌&&◌, ◌++◌, ◌∷◌, [], List, Bool, true, false, not, cond, true≢false, Option, Some, None, is_some, length, position, slice_get, refl, sym, ap, subst, ◌∙◌, arith, inl, inr, eq-eqb, ne_eqb}
use Rattle.std.specs.Prelude.{nat_lt}
use Rattle.std.specs.List.{list_any, position_or_len}
use Rattle.std.specs.Option.{option_map}
use Rattle.std.proofs.lemmas.Bool.{cases_Bool, cases_eq, and_parts, or_cases}
use Rattle.std.proofs.lemmas.Bool.Decides.{nat_tests}
use Rattle.std.proofs.Math.Bool.{or-false, or_assoc}
use Rattle.std.proofs.lemmas.List.Folds.{list_any-append}
use Rattle.osd_lists.proofs.Tests.{and_false, same_number}
use Rattle.osd_objects.proofs.Entries.{is_at_equal, is_at_other}
use Rattle.data_map.specs.declared.check.RawMap.{RawMap}
use Rattle.data_map.specs.Striping.{parities}
use Rattle.osd_commands.specs.declared.commands.Command.{Command}
use Rattle.server_rules.specs.Files.{file_at}
use Rattle.server_rules.specs.Numbers.{among}
use Rattle.world_history.specs.ServerNames.{Component, File}
use Rattle.world_history.specs.State.{at_number}
use Rattle.world_history.specs.Stripes.{Mark, is_in, component_at, stripe_of, marked_in, marks_of}
use Rattle.world_calm.specs.declared.calls.LogEntry.{LogEntry}
use Rattle.world_calm.specs.declared.files.SeenFile.{SeenFile}
use Rattle.world_calm.specs.declared.files.StripeOf.{StripeOf}
use Rattle.osd_drive.specs.declared.limits.TheConstants.{MAX_END}
use Rattle.world_calm.specs.declared.marks.Marked.{Marked}
use Rattle.world_calm.specs.declared.marks.NewMark.{NewMark}
use Rattle.world_calm.specs.Files.{FilesState, Table, stripe_with, stripe_in, stripes_in}
use Rattle.world_calm.specs.Marking.{is_of, last_is_from, last_is, and_stripe, first_mark, marked_at, marked_with, marked}
use Rattle.world_calm.specs.Seeing.{CalmState, KeptOf, mark_of, marks_one, marks_all, marks_for}
use Rattle.component_law.specs.Words.{Each, IsSorted, is_there}
use Rattle.calm_law.specs.Words.{seen_in}
use Rattle.calm_law.specs.Files.{KeepsFiles}
use Rattle.calm_law.specs.Marks.{any_mark, any_marked, is_open, open_at, IsReal, has_parity, has_parity_in, KeepsMarks}
use Rattle.component_law.specs.Distinct.{AreDistinct, HaveComponents}
use Rattle.calm_law.specs.Performing.{WritesMark}
use Rattle.component_law.proofs.Lists.{each_more}
use Rattle.calm_law.proofs.Tables.{among_end}

-- ---- tests

or_both : (a b c : Bool) → ((a || b) && c) ≡ ((a && c) || (b && c))
or_both true true true = refl
or_both true true false = refl
or_both true false true = refl
or_both true false false = refl
or_both false b c = refl

-- ---- where the moments have marks

-- the stripe of a component's place is s
abbrev hit_with : RawMap → (offset s : ℕ) → Option ℕ → Bool
hit_with m offset s None = false
hit_with m offset s (Some k) = stripe_of m k offset == s

abbrev hit_in : (drive object offset s : ℕ) → Option File → Bool
hit_in d object offset s None = false
hit_in d object offset s (Some f) = hit_with f.kept.map offset s (component_at d object f.kept.components 0)

one_hit : (g : File) (d object offset f s i n : ℕ) (o : Option ℕ)
    → any_mark f s i (marked_in g offset n o) ≡ (((g.kept.number == f) && hit_with g.kept.map offset s o) && (n == i))
one_hit g d object offset f s i n None = rw (and_false (g.kept.number == f)) refl
one_hit g d object offset f s i n (Some k) =
    or-false (((g.kept.number == f) && (stripe_of g.kept.map k offset == s)) && (n == i))

no_hits : (fs : List File) (d object offset f s i n : ℕ) → Each (λ (g : File). g.kept.number ≡ f → ⊥) fs
    → any_mark f s i (marks_of fs d object offset n) ≡ false
unfolding marks_of
no_hits [] d object offset f s i n h = refl
no_hits (g ∷ fs) d object offset f s i n h =
    list_any-append (λ (k : Mark). is_in f s k && (k.entry == i))
    (marked_in g offset n (component_at d object g.kept.components 0)) (marks_of fs d object offset n)
    ∙ ap (λ (b : Bool). b || any_mark f s i (marks_of fs d object offset n))
    (one_hit g d object offset f s i n (component_at d object g.kept.components 0)
    ∙ ap (λ (b : Bool). (b && hit_with g.kept.map offset s (component_at d object g.kept.components 0)) && (n == i))
    (ne_eqb g.kept.number f h.0))
    ∙ no_hits fs d object offset f s i n h.1

marks_hit : (fs : List File) (d object offset f s i n : ℕ) → AreDistinct fs
    → any_mark f s i (marks_of fs d object offset n) ≡ (hit_in d object offset s (file_at fs f) && (n == i))
unfolding marks_of file_at
marks_hit [] d object offset f s i n h = refl
marks_hit (g ∷ fs) d object offset f s i n h =
    list_any-append (λ (k : Mark). is_in f s k && (k.entry == i))
    (marked_in g offset n (component_at d object g.kept.components 0)) (marks_of fs d object offset n)
    ∙ ap (λ (b : Bool). b || any_mark f s i (marks_of fs d object offset n))
    (one_hit g d object offset f s i n (component_at d object g.kept.components 0))
    ∙ elim (cases_eq g.kept.number f) [
      | inl same ↦ rw (eq-eqb g.kept.number f same)
          (ap (λ (b : Bool). (hit_with g.kept.map offset s (component_at d object g.kept.components 0) && (n == i)) || b)
          (no_hits fs d object offset f s i n (each_more (λ (x : File). x.kept.number ≡ g.kept.number → ⊥)
          (λ (x : File). x.kept.number ≡ f → ⊥) (λ x u v. u (v ∙ sym same)) fs h.0))
          ∙ or-false (hit_with g.kept.map offset s (component_at d object g.kept.components 0) && (n == i)))
      | inr other ↦ rw (ne_eqb g.kept.number f other) (marks_hit fs d object offset f s i n h.1)
    ]

-- ---- where what is kept has

abbrev any_stripe : (file stripe : ℕ) → List StripeOf → Bool
any_stripe f s xs = list_any (λ (x : StripeOf). (x.file == f) && (x.stripe == s)) xs

-- a component is one of the map
abbrev seen_with : RawMap → (offset s : ℕ) → Option ℕ → Bool
seen_with m offset s None = false
seen_with m offset s (Some k) = nat_lt k m.comps && (stripe_of m k offset == s)

abbrev seen_hit : (drive object offset s : ℕ) → Option SeenFile → Bool
seen_hit d object offset s None = false
seen_hit d object offset s (Some x) =
    not (parities x.map == 0) && seen_with x.map offset s (component_at d object x.components 0)

with_hit : (j : ℕ) (m : RawMap) (offset f s : ℕ) (o : Option ℕ)
    → any_stripe f s (stripe_with j m offset o) ≡ ((j == f) && seen_with m offset s o)
with_hit j m offset f s None = sym (and_false (j == f))
with_hit j m offset f s (Some k) = elim (cases_Bool (nat_lt k m.comps)) [
  | inl t ↦ rw t (or-false ((j == f) && (stripe_of m k offset == s)))
  | inr z ↦ rw z (sym (and_false (j == f)))
]

in_hit : (j : ℕ) (x : SeenFile) (d object offset f s : ℕ)
    → any_stripe f s (stripe_in j x d object offset) ≡ ((j == f) && seen_hit d object offset s (Some x))
in_hit j x d object offset f s = elim (cases_Bool (parities x.map == 0)) [
  | inl t ↦ rw t (sym (and_false (j == f)))
  | inr z ↦ rw z (with_hit j x.map offset f s (component_at d object x.components 0))
]

no_stripes : (t : Table) (d object offset f s : ℕ) → Each (λ (e : ℕ × SeenFile). f < e.0) t
    → any_stripe f s (stripes_in t d object offset) ≡ false
no_stripes [] d object offset f s h = refl
no_stripes (e ∷ es) d object offset f s h =
    list_any-append (λ (x : StripeOf). (x.file == f) && (x.stripe == s)) (stripe_in e.0 e.1 d object offset)
    (stripes_in es d object offset)
    ∙ ap (λ (b : Bool). b || any_stripe f s (stripes_in es d object offset))
    (in_hit e.0 e.1 d object offset f s
    ∙ ap (λ (b : Bool). b && seen_hit d object offset s (Some e.1)) (ne_eqb e.0 f (λ q. omega (arith, q, h.0))))
    ∙ no_stripes es d object offset f s h.1

stripes_hit : (t : Table) (d object offset f s : ℕ) → IsSorted t
    → any_stripe f s (stripes_in t d object offset) ≡ seen_hit d object offset s (at_number t f)
stripes_hit [] d object offset f s h = refl
stripes_hit (e ∷ es) d object offset f s h =
    list_any-append (λ (x : StripeOf). (x.file == f) && (x.stripe == s)) (stripe_in e.0 e.1 d object offset)
    (stripes_in es d object offset)
    ∙ ap (λ (b : Bool). b || any_stripe f s (stripes_in es d object offset)) (in_hit e.0 e.1 d object offset f s)
    ∙ elim (cases_eq e.0 f) [
      | inl same ↦ rw (eq-eqb e.0 f same, is_at_equal f e.0 (sym same))
          (ap (λ (b : Bool). seen_hit d object offset s (Some e.1) || b)
          (no_stripes es d object offset f s (each_more (λ (x : ℕ × SeenFile). e.0 < x.0) (λ (x : ℕ × SeenFile). f < x.0)
          (λ x l. omega (arith, l, same)) es h.0))
          ∙ or-false (seen_hit d object offset s (Some e.1)))
      | inr other ↦ rw (ne_eqb e.0 f other, is_at_other f e.0 (λ q. other (sym q)))
          (stripes_hit es d object offset f s h.1)
    ]

-- ---- both are the same in a file with parity

component_below : (d object k : ℕ) (cs : List Component) (j : ℕ) → component_at d object cs j ≡ Some k
    → k < j + length cs
unfolding component_at
component_below d object k [] j e = absurd (cc e)
component_below d object k (at ∷ cs) j e = elim (cases_Bool (not at.missing && ((at.drive == d) && (at.object == object)))) [
  | inl t ↦ let s : j ≡ k = cc (rw t at e) in omega (arith, s)
  | inr z ↦ omega (arith, component_below d object k cs (j + 1) (rw z at e))
]

components_of : (fs : List File) (f : ℕ) (g : File) → HaveComponents fs → file_at fs f ≡ Some g
    → length g.kept.components ≤ g.kept.map.comps
unfolding file_at
components_of [] f g h e = absurd (cc e)
components_of (x ∷ fs) f g h e = elim (cases_Bool (x.kept.number == f)) [
  | inl t ↦
      let s : x ≡ g = cc (rw t at e) in
      subst (λ (y : File). length y.kept.components ≤ y.kept.map.comps) s h.0
  | inr z ↦ components_of fs f g h.1 (rw z at e)
]

same_with : (m : RawMap) (d object offset s : ℕ) (cs : List Component) (o : Option ℕ)
    → component_at d object cs 0 ≡ o → length cs ≤ m.comps → seen_with m offset s o ≡ hit_with m offset s o
same_with m d object offset s cs None e l = refl
same_with m d object offset s cs (Some k) e l =
    let b : k < m.comps = omega (arith, component_below d object k cs 0 e, l) in
    let t : nat_lt k m.comps ≡ true = grind (arith, nat_tests, b) in
    rw t refl

same_hit : (fs : List File) (d object offset f s : ℕ) (o : Option File) → file_at fs f ≡ o → HaveComponents fs
    → has_parity_in o ≡ true → seen_hit d object offset s (seen_in o) ≡ hit_in d object offset s o
same_hit fs d object offset f s None e h p = refl
same_hit fs d object offset f s (Some g) e h p =
    let z : (parities g.kept.map == 0) ≡ false = grind (arith, nat_tests, p) in
    rw z (same_with g.kept.map d object offset s g.kept.components (component_at d object g.kept.components 0) refl
    (components_of fs f g h e))

-- ---- a mark more is kept

pub last_among : (s : ℕ) (last : Bool) (ss : List ℕ) → last_is_from last s ss ≡ true
    → (last ≡ true) ⊎ (among s ss ≡ true)
unfolding among
last_among s last [] e = inl e
last_among s last (x ∷ ss) e = elim (last_among s (x == s) ss e) [
  | inl a ↦ inr (rw (eq-eqb s x (sym (same_number x s a))) refl)
  | inr b ↦ inr (elim (cases_Bool (s == x)) [ inl t ↦ rw t refl | inr f ↦ rw f b ])
]

already : (s t : ℕ) (ss : List ℕ) → last_is t ss ≡ true → among s ss ≡ ((s == t) || among s ss)
already s t ss e = elim (cases_eq s t) [
  | inl same ↦ rw (eq-eqb s t same) (elim (last_among t false ss e) [
    | inl a ↦ absurd (true≢false (sym a))
    | inr b ↦ ap (λ (x : ℕ). among x ss) same ∙ b
  ])
  | inr other ↦ rw (ne_eqb s t other) refl
]

stripes_more : (s t : ℕ) (m : Marked) → among s (and_stripe t m).stripes ≡ ((s == t) || among s m.stripes)
stripes_more s t m = elim (cases_Bool (last_is t m.stripes)) [
  | inl e ↦ rw e (already s t m.stripes e)
  | inr z ↦ rw z (among_end s t m.stripes)
]

pub same_of : (w f t : ℕ) (m : Marked) → is_of w f (and_stripe t m) ≡ is_of w f m
same_of w f t m = elim (cases_Bool (last_is t m.stripes)) [ inl e ↦ rw e refl | inr z ↦ rw z refl ]

-- the new mark is one of that entry in that stripe
abbrev is_new : (f s i : ℕ) → NewMark → Bool
is_new f s i k = ((k.write == i) && (k.file == f)) && (s == k.stripe)

-- a place among others
shifted : (m : Marked) (ms : List Marked) (k : NewMark) (p : ℕ) → marked_with (m ∷ ms) k (suc p) (slice_get ms p)
    ≡ m ∷ marked_with ms k p (slice_get ms p)
shifted m ms k p = by_place (slice_get ms p)
  where
    by_place : (o : Option Marked) → marked_with (m ∷ ms) k (suc p) o ≡ m ∷ marked_with ms k p o
    by_place None = refl
    by_place (Some x) = refl

pub first_place : (k : NewMark) (m : Marked) (ms : List Marked) → is_of k.write k.file m ≡ true
    → marked (m ∷ ms) k ≡ and_stripe k.stripe m ∷ ms
first_place k m ms t =
    let u : nat_lt 0 (length (m ∷ ms)) ≡ true = grind (arith, nat_tests) in
    rw t (rw u refl)

place_more : (a b : ℕ) → cond (nat_lt (1 + a) (suc b)) (Some (1 + a)) None
    ≡ option_map (λ (n : ℕ). suc n) (cond (nat_lt a b) (Some a) None)
place_more a b = elim (cases_Bool (nat_lt a b)) [
  | inl t ↦
      let u : nat_lt (1 + a) (suc b) ≡ true = grind (arith, nat_tests, t) in
      let one : 1 + a ≡ suc a = omega arith in
      rw (u, t) (ap (λ (n : ℕ). Some n) one)
  | inr f ↦
      let u : nat_lt (1 + a) (suc b) ≡ false = grind (arith, nat_tests, f) in
      rw (u, f) refl
]

place_after : (test : Marked → Bool) (m : Marked) (ms : List Marked) → test m ≡ false
    → position test (m ∷ ms) ≡ option_map (λ (n : ℕ). suc n) (position test ms)
place_after test m ms z = rw z (place_more (position_or_len test ms) (length ms))

shift_at : (m : Marked) (ms : List Marked) (k : NewMark) (o : Option ℕ)
    → marked_at (m ∷ ms) k (option_map (λ (n : ℕ). suc n) o) ≡ m ∷ marked_at ms k o
shift_at m ms k None = refl
shift_at m ms k (Some p) = shifted m ms k p

pub later_place : (k : NewMark) (m : Marked) (ms : List Marked) → is_of k.write k.file m ≡ false
    → marked (m ∷ ms) k ≡ m ∷ marked ms k
later_place k m ms z =
    ap (marked_at (m ∷ ms) k) (place_after (is_of k.write k.file) m ms z)
    ∙ shift_at m ms k (position (is_of k.write k.file) ms)

of_numbers : (w f v g : ℕ) (m : Marked) → is_of w f m ≡ true → is_of v g m ≡ ((w == v) && (f == g))
of_numbers w f v g m e =
    let b : ((m.write == w) ≡ true) × ((m.file == f) ≡ true) = and_parts (m.write == w) (m.file == f) e in
    ap (λ (x : ℕ). (x == v) && (m.file == g)) (same_number m.write w b.0)
    ∙ ap (λ (x : ℕ). (w == v) && (x == g)) (same_number m.file f b.1)

distribute : (a b c d : Bool) → ((a && (b || c)) || d) ≡ (((a && c) || d) || (a && b))
distribute true true true d = refl
distribute true true false true = refl
distribute true true false false = refl
distribute true false true true = refl
distribute true false true false = refl
distribute true false false true = refl
distribute true false false false = refl
distribute false b c true = refl
distribute false b c false = refl

marked_more : (ms : List Marked) (k : NewMark) (f s i : ℕ)
    → any_marked f s i (marked ms k) ≡ (any_marked f s i ms || is_new f s i k)
unfolding among
marked_more [] k f s i =
    or-false (((k.write == i) && (k.file == f)) && ((s == k.stripe) || false))
    ∙ ap (λ (b : Bool). ((k.write == i) && (k.file == f)) && b) (or-false (s == k.stripe))
marked_more (m ∷ ms) k f s i = elim (cases_Bool (is_of k.write k.file m)) [
  | inl t ↦ ap (any_marked f s i) (first_place k m ms t)
      ∙ ap (λ (b : Bool). (b && among s (and_stripe k.stripe m).stripes) || any_marked f s i ms) (same_of i f k.stripe m)
      ∙ ap (λ (b : Bool). (is_of i f m && b) || any_marked f s i ms) (stripes_more s k.stripe m)
      ∙ distribute (is_of i f m) (s == k.stripe) (among s m.stripes) (any_marked f s i ms)
      ∙ ap (λ (b : Bool). ((is_of i f m && among s m.stripes) || any_marked f s i ms) || (b && (s == k.stripe)))
      (of_numbers k.write k.file i f m t)
  | inr z ↦ ap (any_marked f s i) (later_place k m ms z)
      ∙ ap (λ (b : Bool). (is_of i f m && among s m.stripes) || b) (marked_more ms k f s i)
      ∙ sym (or_assoc (is_of i f m && among s m.stripes) (any_marked f s i ms) (is_new f s i k))
]

-- ---- several

eq_turned : (a b : ℕ) → (a == b) ≡ (b == a)
eq_turned a b = elim (cases_eq a b) [
  | inl s ↦ rw (eq-eqb a b s, eq-eqb b a (sym s)) refl
  | inr o ↦ rw (ne_eqb a b o, ne_eqb b a (λ q. o (sym q))) refl
]

new_of : (f s i n : ℕ) (w : LogEntry) (x : StripeOf)
    → is_new f s i (mark_of n w x) ≡ (((x.file == f) && (x.stripe == s)) && (n == i))
new_of f s i n w x = elim (cases_Bool (n == i)) [
  | inl t ↦ rw (t, eq_turned s x.stripe) (sym (whole ((x.file == f) && (x.stripe == s))))
  | inr z ↦ rw z (sym (and_false ((x.file == f) && (x.stripe == s))))
]
  where
    whole : (a : Bool) → (a && true) ≡ a
    whole true = refl
    whole false = refl

all_more : (kept : KeptOf) (c : CalmState) (n : ℕ) (w : LogEntry) (xs : List StripeOf) (f s i : ℕ)
    → any_marked f s i (marks_all kept c n w xs).marks ≡ (any_marked f s i c.marks || (any_stripe f s xs && (n == i)))
all_more kept c n w [] f s i = sym (or-false (any_marked f s i c.marks))
all_more kept c n w (x ∷ xs) f s i =
    all_more kept (marks_one kept c (mark_of n w x)) n w xs f s i
    ∙ ap (λ (b : Bool). b || (any_stripe f s xs && (n == i))) (marked_more c.marks (mark_of n w x) f s i)
    ∙ ap (λ (b : Bool). (any_marked f s i c.marks || b) || (any_stripe f s xs && (n == i))) (new_of f s i n w x)
    ∙ or_assoc (any_marked f s i c.marks) (((x.file == f) && (x.stripe == s)) && (n == i)) (any_stripe f s xs && (n == i))
    ∙ ap (λ (b : Bool). any_marked f s i c.marks || b)
    (sym (or_both ((x.file == f) && (x.stripe == s)) (any_stripe f s xs) (n == i)))

-- ---- what is kept is of an entry that isn't finished

abbrev RealIn : List File → List LogEntry → Marked → Type 0
RealIn fs es m = IsReal es m × (is_there fs m.file ≡ true)

real_stripe : (fs : List File) (es : List LogEntry) (t : ℕ) (m : Marked) → RealIn fs es m → RealIn fs es (and_stripe t m)
real_stripe fs es t m h = elim (cases_Bool (last_is t m.stripes)) [ inl e ↦ rw e h | inr z ↦ rw z h ]

real_marked : (fs : List File) (es : List LogEntry) (ms : List Marked) (k : NewMark) → Each (RealIn fs es) ms
    → RealIn fs es (first_mark k) → Each (RealIn fs es) (marked ms k)
real_marked fs es [] k h r = (r, tt)
real_marked fs es (m ∷ ms) k h r = elim (cases_Bool (is_of k.write k.file m)) [
  | inl t ↦ subst (Each (RealIn fs es)) (sym (first_place k m ms t)) (real_stripe fs es k.stripe m h.0, h.1)
  | inr z ↦ subst (Each (RealIn fs es)) (sym (later_place k m ms z)) (h.0, real_marked fs es ms k h.1 r)
]

real_all : (kept : KeptOf) (fs : List File) (es : List LogEntry) (c : CalmState) (n : ℕ) (w : LogEntry)
    (xs : List StripeOf) → slice_get es n ≡ Some (record { client = w.client; grant = w.grant; finished = false })
    → Each (λ (x : StripeOf). is_there fs x.file ≡ true) xs → Each (RealIn fs es) c.marks
    → Each (RealIn fs es) (marks_all kept c n w xs).marks
real_all kept fs es c n w [] e t h = h
real_all kept fs es c n w (x ∷ xs) e t h =
    real_all kept fs es (marks_one kept c (mark_of n w x)) n w xs e t.1
    (real_marked fs es c.marks (mark_of n w x) h (e, t.0))

-- stripes are of files that are there
each_append : {A : Type 0} (P : A → Type 0) (xs ys : List A) → Each P xs → Each P ys → Each P (xs ++ ys)
each_append P [] ys h i = i
each_append P (x ∷ xs) ys h i = (h.0, each_append P xs ys h.1 i)

with_there : (j : ℕ) (m : RawMap) (offset : ℕ) (o : Option ℕ) (P : ℕ → Type 0) → P j
    → Each (λ (x : StripeOf). P x.file) (stripe_with j m offset o)
with_there j m offset None P p = tt
with_there j m offset (Some k) P p = elim (cases_Bool (nat_lt k m.comps)) [
  | inl t ↦ rw t (p, tt)
  | inr z ↦ rw z tt
]

in_there : (j : ℕ) (y : SeenFile) (d object offset : ℕ) (P : ℕ → Type 0) → P j
    → Each (λ (x : StripeOf). P x.file) (stripe_in j y d object offset)
in_there j y d object offset P p = elim (cases_Bool (parities y.map == 0)) [
  | inl t ↦ rw t tt
  | inr z ↦ rw z (with_there j y.map offset (component_at d object y.components 0) P p)
]

stripes_there : (t : Table) (d object offset : ℕ) (P : ℕ → Type 0) → Each (λ (e : ℕ × SeenFile). P e.0) t
    → Each (λ (x : StripeOf). P x.file) (stripes_in t d object offset)
stripes_there [] d object offset P h = tt
stripes_there (e ∷ es) d object offset P h =
    each_append (λ (x : StripeOf). P x.file) (stripe_in e.0 e.1 d object offset) (stripes_in es d object offset)
    (in_there e.0 e.1 d object offset P h.0) (stripes_there es d object offset P h.1)

-- each number of a sorted table is found
found_numbers : (t : Table) → IsSorted t → Each (λ (e : ℕ × SeenFile). is_some (at_number t e.0) ≡ true) t
found_numbers [] h = tt
found_numbers (e ∷ es) h = (
  rw (is_at_equal e.0 e.0 refl) refl,
  each_both (λ (x : ℕ × SeenFile). e.0 < x.0) (λ (x : ℕ × SeenFile). is_some (at_number es x.0) ≡ true)
      (λ (x : ℕ × SeenFile). is_some (at_number (e ∷ es) x.0) ≡ true)
      (λ x l q. rw (is_at_other x.0 e.0 (λ s. omega (arith, s, l))) q) es h.0 (found_numbers es h.1),
)
  where
    each_both : (P Q R : ℕ × SeenFile → Type 0) → ((x : ℕ × SeenFile) → P x → Q x → R x) → (xs : Table)
        → Each P xs → Each Q xs → Each R xs
    each_both P Q R f [] p q = tt
    each_both P Q R f (x ∷ xs) p q = (f x p.0 q.0, each_both P Q R f xs p.1 q.1)

file_there : (fs : List File) (fallen : List ℕ) (t : FilesState) (n : ℕ) → KeepsFiles fs fs fallen t
    → is_some (at_number t.files n) ≡ true → is_there fs n ≡ true
file_there fs fallen t n h e = elim (cases_Bool (is_there fs n)) [
  | inl y ↦ y
  | inr z ↦ absurd (true≢false (sym e ∙ ap (λ (o : Option SeenFile). is_some o) (h.others n z)))
]

-- ---- the law

hits_there : (fs : List File) (d object offset f s : ℕ) (o : Option File) → hit_in d object offset s o ≡ true
    → file_at fs f ≡ o → is_there fs f ≡ true
hits_there fs d object offset f s None e q = absurd (true≢false (sym e))
hits_there fs d object offset f s (Some g) e q = ap (λ (o : Option File). is_some o) q

known_more : (fs : List File) (ks : List Mark) (es : List LogEntry) (ms : List Marked) (d object offset f s i n : ℕ)
    → AreDistinct fs → n < length es → KeepsMarks fs es ks ms
    → any_mark f s i (ks ++ marks_of fs d object offset n) ≡ true → (is_there fs f ≡ true) × (i < length es)
known_more fs ks es ms d object offset f s i n dis l h e =
    elim (or_cases (any_mark f s i ks) (any_mark f s i (marks_of fs d object offset n))
    (sym (list_any-append (λ (k : Mark). is_in f s k && (k.entry == i)) ks (marks_of fs d object offset n)) ∙ e)) [
      | inl a ↦ h.known f s i a
      | inr b ↦
          let c : (hit_in d object offset s (file_at fs f) ≡ true) × ((n == i) ≡ true) =
          and_parts (hit_in d object offset s (file_at fs f)) (n == i)
          (sym (marks_hit fs d object offset f s i n dis) ∙ b) in
          (hits_there fs d object offset f s (file_at fs f) c.0 refl, omega (arith, l, same_number n i c.1))
    ]

finished_more : (fs : List File) (ks : List Mark) (es : List LogEntry) (ms : List Marked) (d object offset n : ℕ)
    → AreDistinct fs → n < length es → open_at es n ≡ false → KeepsMarks fs es ks ms
    → KeepsMarks fs es (ks ++ marks_of fs d object offset n) ms
finished_more fs ks es ms d object offset n dis l o h = record {
  same = λ f s i p u.
      list_any-append (λ (k : Mark). is_in f s k && (k.entry == i)) ks (marks_of fs d object offset n)
      ∙ ap (λ (b : Bool). any_mark f s i ks || b) (marks_hit fs d object offset f s i n dis
      ∙ ap (λ (b : Bool). hit_in d object offset s (file_at fs f) && b)
      (ne_eqb n i (λ q. true≢false (sym u ∙ ap (open_at es) (sym q) ∙ o)))
      ∙ and_false (hit_in d object offset s (file_at fs f)))
      ∙ or-false (any_mark f s i ks) ∙ h.same f s i p u;
  known = λ f s i e. known_more fs ks es ms d object offset f s i n dis l h e;
  real = h.real;
}

within_max : (offset : ℕ) → offset ≤ MAX_END → nat_lt MAX_END offset ≡ false
within_max offset l = grind (arith, nat_tests, l)

by_entry : (kept : KeptOf) (fs : List File) (fallen : List ℕ) (ks : List Mark) (c : CalmState) (d : ℕ) (x : Command)
    (n : ℕ) (o : Option LogEntry) → slice_get c.log.entries n ≡ o → AreDistinct fs → HaveComponents fs
    → x.offset ≤ MAX_END → n < length c.log.entries → KeepsFiles fs fs fallen c.files
    → KeepsMarks fs c.log.entries ks c.marks
    → KeepsMarks fs c.log.entries (ks ++ marks_of fs d x.object x.offset n) (marks_for kept c d x n o).marks
by_entry kept fs fallen ks c d x n None e dis comps off l t h =
    finished_more fs ks c.log.entries c.marks d x.object x.offset n dis l (ap is_open e) h
by_entry kept fs fallen ks c d x n (Some w) e dis comps off l t h = elim (cases_Bool w.finished) [
  | inl yes_ ↦ rw yes_ (finished_more fs ks c.log.entries c.marks d x.object x.offset n dis l
      (ap is_open e ∙ ap (λ (b : Bool). not b) yes_) h)
  | inr no_ ↦ rw (no_, within_max x.offset off) (record {
    same = λ f s i p u.
        list_any-append (λ (k : Mark). is_in f s k && (k.entry == i)) ks (marks_of fs d x.object x.offset n)
        ∙ ap (λ (b : Bool). b || any_mark f s i (marks_of fs d x.object x.offset n)) (h.same f s i p u)
        ∙ ap (λ (b : Bool). any_marked f s i c.marks || b)
        (marks_hit fs d x.object x.offset f s i n dis
        ∙ ap (λ (b : Bool). b && (n == i))
        (sym (same_hit fs d x.object x.offset f s (file_at fs f) refl comps p)
        ∙ ap (seen_hit d x.object x.offset s) (sym (seen_at f p))
        ∙ sym (stripes_hit c.files.files d x.object x.offset f s t.sorted)))
        ∙ sym (all_more kept c n w (stripes_in c.files.files d x.object x.offset) f s i);
    known = λ f s i q. known_more fs ks c.log.entries c.marks d x.object x.offset f s i n dis l h q;
    real = real_all kept fs c.log.entries c n w (stripes_in c.files.files d x.object x.offset)
        (e ∙ ap (λ (b : Bool). Some (record { client = w.client; grant = w.grant; finished = b })) no_)
        (stripes_there c.files.files d x.object x.offset (λ j. is_there fs j ≡ true)
        (each_more (λ (y : ℕ × SeenFile). is_some (at_number c.files.files y.0) ≡ true)
        (λ (y : ℕ × SeenFile). is_there fs y.0 ≡ true) (λ y q. file_there fs fallen c.files y.0 t q) c.files.files
        (found_numbers c.files.files t.sorted)))
        h.real;
  })
]
  where
    there_in : (o : Option File) → has_parity_in o ≡ true → is_some o ≡ true
    there_in None p = absurd (true≢false (sym p))
    there_in (Some g) p = refl

    seen_at : (f : ℕ) → has_parity fs f ≡ true → at_number c.files.files f ≡ seen_in (file_at fs f)
    seen_at f p = t.files f (there_in (file_at fs f) p)

pub writes_mark : WritesMark
writes_mark kept fs fallen ks c d x n dis comps off l t h =
    by_entry kept fs fallen ks c d x n (slice_get c.log.entries n) refl dis comps off l t h
