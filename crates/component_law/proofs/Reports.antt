-- A report that is taken as a loss: each component that becomes missing has its note.
use Rattle.std.proofs.Common.{◌≡◌, ℕ, ◌+◌, ◌<◌, ◌==◌, ◌&&◌, ◌++◌, ◌∷◌, [], List, Bool, true, false, nat_lt, length, map, refl, sym, ap, subst, ◌∙◌, arith, inl, inr, eq-eqb, ne_eqb, if◌then◌else◌}
use Rattle.std.proofs.lemmas.Bool.{cases_Bool, cases_eq, lt-ltb}
use Rattle.std.proofs.lemmas.Bool.Decides.{nat_tests}
use Rattle.server_rules.specs.Numbers.{among}
use Rattle.server_rules.specs.Standing.{lose_from}
use Rattle.server_rules.specs.Going.{Going, keeping, noting_if}
use Rattle.server_rules.specs.Return.{reports_from, takes_loss}
use Rattle.world_history.specs.ServerNames.{Component, File, Note, NoteKind, Reported}
use Rattle.component_law.specs.Components.{Paired, StandAlike}
use Rattle.component_law.specs.Sound.{IsAimed}
use Rattle.component_law.specs.Apart.{AreApart}
use Rattle.component_law.proofs.Drives.{apart_lost}
use Rattle.component_law.proofs.Components.{lost, alike_same}
use Rattle.component_law.proofs.FileNotes.{Ends, AreTellable, tag_behind, AreNext, Tagged, noted_with, behind}
use Rattle.component_law.proofs.Targets.{aim_lost}
use Rattle.component_law.specs.Objects.{target_of}

-- ---- components that are lost one by one

lose_nothing : (cs : List Component) (j : ℕ) → lose_from [] cs j ≡ cs
unfolding lose_from among
lose_nothing [] j = refl
lose_nothing (at ∷ cs) j = ap (λ (x : List Component). at ∷ x) (lose_nothing cs (j + 1))

lose_both : (k : ℕ) (ks : List ℕ) (cs : List Component) (j : ℕ)
    → lose_from (k ∷ []) (lose_from ks cs j) j ≡ lose_from (k ∷ ks) cs j
unfolding lose_from among
lose_both k ks [] j = refl
lose_both k ks (at ∷ cs) j = elim (cases_Bool (j == k)) [
  | inl t ↦ elim (cases_Bool (among j ks)) [
    | inl u ↦ rw (u, t) (ap (λ (x : List Component). lost at ∷ x) (lose_both k ks cs (j + 1)))
    | inr v ↦ rw (v, t) (ap (λ (x : List Component). lost at ∷ x) (lose_both k ks cs (j + 1)))
  ]
  | inr z ↦ elim (cases_Bool (among j ks)) [
    | inl u ↦ rw (u, z) (ap (λ (x : List Component). lost at ∷ x) (lose_both k ks cs (j + 1)))
    | inr v ↦ rw (v, z) (ap (λ (x : List Component). at ∷ x) (lose_both k ks cs (j + 1)))
  ]
]

lose_same : (ks ls : List ℕ) (cs : List Component) (j : ℕ)
    → ((i : ℕ) → i < j + length cs → among i ks ≡ among i ls) → lose_from ks cs j ≡ lose_from ls cs j
unfolding lose_from
lose_same ks ls [] j h = refl
lose_same ks ls (at ∷ cs) j h =
    rw (h j (omega arith))
    (ap (λ (x : List Component). (if among j ls then lost at else at) ∷ x)
    (lose_same ks ls cs (j + 1) (λ i l. h i (omega (arith, l)))))

-- ---- the numbers of those that are reported

abbrev pub numbers : (ks : List ℕ) → List Component → (k : ℕ) → (so_far : List ℕ) → List ℕ
numbers ks [] k ns = ns
numbers ks (at ∷ cs) k ns = numbers ks cs (k + 1) (if among k ks then k ∷ ns else ns)

-- those below k
one_more : (ks ns : List ℕ) (k i : ℕ) → among i ns ≡ (nat_lt i k && among i ks)
    → among i (if among k ks then k ∷ ns else ns) ≡ (nat_lt i (k + 1) && among i ks)
unfolding among
one_more ks ns k i h = elim (cases_eq i k) [
  | inl e ↦ rw e (elim (cases_Bool (among k ks)) [
    | inl t ↦ rw t (rw (eq-eqb k k refl, lt-ltb k (k + 1) (omega arith)) refl)
    | inr z ↦ rw z (rw e at h ∙ rw z (grind (arith, nat_tests)))
  ])
  | inr o ↦ elim (cases_Bool (among k ks)) [
    | inl t ↦ rw t (rw (ne_eqb i k o) (h ∙ ap (λ (b : Bool). b && among i ks) (grind (arith, nat_tests, o))))
    | inr z ↦ rw z (h ∙ ap (λ (b : Bool). b && among i ks) (grind (arith, nat_tests, o)))
  ]
]

numbers_are : (ks : List ℕ) (cs : List Component) (k : ℕ) (ns : List ℕ)
    → ((i : ℕ) → among i ns ≡ (nat_lt i k && among i ks)) → (i : ℕ)
    → among i (numbers ks cs k ns) ≡ (nat_lt i (k + length cs) && among i ks)
numbers_are ks [] k ns h i = h i ∙ ap (λ (n : ℕ). nat_lt i n && among i ks) (omega arith)
numbers_are ks (at ∷ cs) k ns h i =
    numbers_are ks cs (k + 1) (if among k ks then k ∷ ns else ns) (λ x. one_more ks ns k x (h x)) i
    ∙ ap (λ (n : ℕ). nat_lt i n && among i ks) (omega arith)

all_numbers : (ks : List ℕ) (cs : List Component) → lose_from (numbers ks cs 0 []) cs 0 ≡ lose_from ks cs 0
unfolding among
all_numbers ks cs =
    lose_same (numbers ks cs 0 []) ks cs 0
    (λ i l. numbers_are ks cs 0 [] (λ x. grind (arith, nat_tests)) i ∙ rw (lt-ltb i (0 + length cs) l) refl)

-- ---- notes

abbrev pub kinds_of : List ℕ → List NoteKind
kinds_of ns = map Reported ns

behind_reports : (cs : List Component) (ns : List ℕ) → behind cs (kinds_of ns) ≡ lose_from ns cs 0
behind_reports cs [] = sym (lose_nothing cs 0)
behind_reports cs (n ∷ ns) =
    ap (λ (x : List Component). lose_from (n ∷ []) x 0) (behind_reports cs ns) ∙ lose_both n ns cs 0

all_told : (ns : List ℕ) → AreTellable (kinds_of ns)
all_told [] = tt
all_told (n ∷ ns) = (refl, all_told ns)

-- they leave the tag
tag_stays : (tag : ℕ) (ns : List ℕ) → tag ≡ tag_behind tag (kinds_of ns)
tag_stays tag [] = refl
tag_stays tag (n ∷ ns) = tag_stays tag ns

none_next : (tag : ℕ) (ns : List ℕ) → AreNext tag (kinds_of ns)
none_next tag [] = tt
none_next tag (n ∷ ns) = none_next tag ns

still_tagged : (tag : ℕ) (ns : List ℕ) → Tagged tag (kinds_of ns) tag
still_tagged tag ns = (tag_stays tag ns, none_next tag ns)

-- the file stays, and has these notes more
abbrev Reports : (before : List Note) → (ns : List ℕ) → (g h : Going) → Type 0
Reports before ns g h = record {
  file : h.file ≡ g.file;
  notes : h.effects.notes ≡ noted_with before g.file.kept.number (kinds_of ns);
}

report_one : (b : Bool) (before : List Note) (go : Going) (k : ℕ) (ns : List ℕ)
    → go.effects.notes ≡ noted_with before go.file.kept.number (kinds_of ns)
    → (noting_if b go (Reported k)).effects.notes ≡ noted_with before go.file.kept.number (kinds_of (if b then k ∷ ns else ns))
report_one true before go k ns e =
    ap (λ (x : List Note). x ++ record { file = go.file.kept.number; kind = Reported k } ∷ []) e
report_one false before go k ns e = e

reports_on : (before : List Note) (go : Going) (ks : List ℕ) (cs : List Component) (k : ℕ) (ns : List ℕ)
    → go.effects.notes ≡ noted_with before go.file.kept.number (kinds_of ns)
    → Reports before (numbers ks cs k ns) go (reports_from go ks cs k)
unfolding reports_from
reports_on before go ks [] k ns e = record { file = refl; notes = e }
reports_on before go ks (at ∷ cs) k ns e =
    reports_on before (noting_if (among k ks) go (Reported k)) ks cs (k + 1) (if among k ks then k ∷ ns else ns)
    (report_one (among k ks) before go k ns e)

abbrev taken : Going → List ℕ → Going
taken go ks = keeping go (record go.file.kept { components = lose_from ks go.file.kept.components 0 })

told_of : (go h : Going) (ks : List ℕ)
    → Reports go.effects.notes (numbers ks go.file.kept.components 0 []) (taken go ks) h → IsAimed go.file
    → Ends go.file.kept go.effects.notes h
told_of go h ks r a =
    let cs : List Component = go.file.kept.components in
    let ns : List ℕ = numbers ks cs 0 [] in
    let same : h.file.kept.components ≡ behind cs (kinds_of ns) =
    ap (λ (f : File). f.kept.components) r.file ∙ sym (behind_reports cs ns ∙ all_numbers ks cs) in (
      record {
        number = ap (λ (f : File). f.kept.number) r.file;
        map = ap (λ (f : File). f.kept.map) r.file;
        kinds = kinds_of ns;
        notes = r.notes;
        tellable = all_told ns;
        tags =
            subst (λ (f : File). Tagged go.file.kept.tag (kinds_of ns) f.kept.tag) (sym r.file)
            (still_tagged go.file.kept.tag ns);
        alike = subst (λ (x : List Component). Paired StandAlike (behind cs (kinds_of ns)) x) (sym same)
            (alike_same (behind cs (kinds_of ns)));
        exact = λ e. same;
        apart = λ x. subst (λ (f : File). AreApart f.kept.components) (sym r.file) (apart_lost ks cs x);
      },
      subst (λ (f : File). IsAimed f) (sym r.file) (aim_lost ks cs (target_of go.file.job) a),
    )

pub ends_loss : (go : Going) (ks : List ℕ) → IsAimed go.file → Ends go.file.kept go.effects.notes (takes_loss go ks)
unfolding takes_loss
ends_loss go ks a =
    told_of go (reports_from (taken go ks) ks go.file.kept.components 0) ks
    (reports_on go.effects.notes (taken go ks) ks go.file.kept.components 0 [] refl) a
