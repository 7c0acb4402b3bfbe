-- What commands of a job go to components, and what it says of these that there are none.
use Rattle.std.proofs.Common.{◌≡◌, ◌⊎◌, ◌&&◌, ◌/◌, ℕ, suc, ◌+◌, Bool, true, false, not, List, [], ◌∷◌, slice_get, Option, Some, None, refl, sym, ap, subst, ◌∙◌, arith, inl, inr, if◌then◌else◌}
use Rattle.std.proofs.lemmas.Bool.{cases_Bool, eq-eqb, eqb-true, and_parts}
use Rattle.data_map.specs.Striping.{group_of, replicas, group_width, offset_of}
use Rattle.server_rules.specs.Commands.{Ask, Reading, Which, All, Only, OfGroup, FirstsOf, is_meant, sent_to, to_each, to_all}
use Rattle.server_rules.specs.Laws.{In}
use Rattle.server_rules.specs.Maps.{group_with}
use Rattle.server_rules.specs.Pieces.{reads}
use Rattle.server_rules.specs.Rebuild.{group_for, position_for, sources_by, sources}
use Rattle.server_rules.specs.Standing.{replica, lacking, is_beyond}
use Rattle.world_history.specs.ServerNames.{Kept, Component, Awaited, Piece, Target}
use Rattle.headline_law.proofs.OweAsked.{meant_in}
use Rattle.headline_law.proofs.OweReplicas.{replica_is, none_stands, some_replica}
use Rattle.history_claims.specs.Notes.{AllMissing, NoneIn, IsBeyond}

-- ---- to which components commands go

-- a command goes to a component that is meant
pub record IsMeant (f : Kept) (which : Which) (cs : List Component) (k : ℕ) : Type 0 where
  pub place : ℕ
  pub at : Component
  pub there : slice_get cs place ≡ Some at
  pub stands : at.missing ≡ false
  pub meant : is_meant f which (k + place) ≡ true

one_meant : (f : Kept) (which : Which) (ask : Ask) (cs : List Component) (k nonce : ℕ) (a : Awaited) (as_ : List Awaited)
    → to_each f which ask cs k nonce ≡ a ∷ as_ → IsMeant f which cs k
unfolding to_each
one_meant f which ask [] k nonce a as_ e = absurd (cc e)
one_meant f which ask (x ∷ cs) k nonce a as_ e =
    by (not x.missing && is_meant f which k) refl e (one_meant f which ask cs (k + 1) nonce a as_)
  where
    more : IsMeant f which cs (k + 1) → IsMeant f which (x ∷ cs) k
    more m = record {
      place = suc m.place;
      at = m.at;
      there = m.there;
      stands = m.stands;
      meant = ap (is_meant f which) (omega (arith)) ∙ m.meant;
    }

    by : (b : Bool) → (not x.missing && is_meant f which k) ≡ b
        → (if b then sent_to f ask k x.drive x.object nonce ∷ to_each f which ask cs (k + 1) (nonce + 1)
        else to_each f which ask cs (k + 1) nonce) ≡ a ∷ as_
        → (to_each f which ask cs (k + 1) nonce ≡ a ∷ as_ → IsMeant f which cs (k + 1)) → IsMeant f which (x ∷ cs) k
    by false test e rest = more (rest e)
    by true test e rest =
        let both = and_parts (not x.missing) (is_meant f which k) test in
        record {
          place = 0;
          at = x;
          there = refl;
          stands = stands x.missing both.0;
          meant = ap (is_meant f which) (omega (arith)) ∙ both.1;
        }
      where
        stands : (b : Bool) → not b ≡ true → b ≡ false
        stands true n = absurd (cc n)
        stands false n = refl

-- where none goes out, none of those that are meant is present
none_meant : (f : Kept) (which : Which) (ask : Ask) (nonce : ℕ) → to_all f which ask nonce ≡ [] → (n : ℕ) (at : Component)
    → slice_get f.components n ≡ Some at → is_meant f which n ≡ true → at.missing ≡ true
none_meant f which ask nonce none n at there meant = elim (cases_Bool at.missing) [
  | inl t ↦ t
  | inr z ↦
      let r = meant_in f which ask f.components 0 nonce n at there z (ap (is_meant f which) (omega (arith)) ∙ meant) in
      absurd (subst (λ (ws : List Awaited). In r.0 ws) none r.1)
]

-- ---- of all, and of a group

all_present : (f : Kept) (ask : Ask) (cs : List Component) (k nonce : ℕ) → to_each f All ask cs k nonce ≡ [] → AllMissing cs
unfolding to_each is_meant
all_present f ask [] k nonce e at i = absurd i
all_present f ask (x ∷ cs) k nonce e at i = by x.missing refl e (all_present f ask cs (k + 1) nonce) i
  where
    by : (b : Bool) → x.missing ≡ b
        → (if not b && true then sent_to f ask k x.drive x.object nonce ∷ to_each f All ask cs (k + 1) (nonce + 1)
        else to_each f All ask cs (k + 1) nonce) ≡ []
        → (to_each f All ask cs (k + 1) nonce ≡ [] → AllMissing cs) → In at (x ∷ cs) → at.missing ≡ true
    by false m e rest i = absurd (cc e)
    by true m e rest (inl same) = ap (λ (y : Component). y.missing) same ∙ m
    by true m e rest (inr j) = rest e at j

pub all_missing : (f : Kept) (ask : Ask) (nonce : ℕ) → to_all f All ask nonce ≡ [] → AllMissing f.components
all_missing f ask nonce e = all_present f ask f.components 0 nonce e

of_group : (f : Kept) (group n : ℕ) → group_with f.map n ≡ group → is_meant f (OfGroup group) n ≡ true
unfolding is_meant
of_group f group n e = eq-eqb (group_with f.map n) group e

in_group : (f : Kept) (group n : ℕ) → is_meant f (OfGroup group) n ≡ true → group_with f.map n ≡ group
unfolding is_meant
in_group f group n e = eqb-true (group_with f.map n) group e

pub reads_none : (f : Kept) (p : Piece) (nonce : ℕ) → reads f p nonce ≡ [] → NoneIn f (group_of f.map p.stripe)
reads_none f p nonce none n at there own =
    none_meant f (OfGroup (group_of f.map p.stripe)) _ nonce none n at there (of_group f (group_of f.map p.stripe) n own)

pub reads_some : (f : Kept) (p : Piece) (nonce : ℕ) (a : Awaited) (as_ : List Awaited) → reads f p nonce ≡ a ∷ as_
    → NoneIn f (group_of f.map p.stripe) → ⊥
reads_some f p nonce a as_ e none =
    let m = one_meant f (OfGroup (group_of f.map p.stripe)) _ f.components 0 nonce a as_ e in
    cc (sym (none m.place m.at m.there (in_group f (group_of f.map p.stripe) m.place
    (ap (is_meant f (OfGroup (group_of f.map p.stripe))) (omega (arith)) ∙ m.meant))) ∙ m.stands)

-- ---- the sources of a piece

firsts : (f : Kept) (group n : ℕ) → group_with f.map n ≡ group → replica f.map f.components (n / replicas f.map) ≡ Some n
    → is_meant f (FirstsOf group) n ≡ true
unfolding is_meant
firsts f group n own first = rw (eq-eqb (group_with f.map n) group own, first) (eq-eqb n n refl)

only : (f : Kept) (n : ℕ) → is_meant f (Only n) n ≡ true
unfolding is_meant
only f n = eq-eqb n n refl

-- where none is asked, the component can't be made anew
pub beyond : (f : Kept) (t : Target) (p : Piece) (nonce : ℕ) → sources f t p nonce ≡ []
    → IsBeyond f t.component (lacking f.map f.components (group_for f t))
unfolding sources
beyond f t p nonce none = by (replica f.map f.components (position_for f t)) refl none
  where
    by : (o : Option ℕ) → replica f.map f.components (position_for f t) ≡ o → sources_by f t p nonce o ≡ []
        → IsBeyond f t.component (lacking f.map f.components (group_for f t))
    by (Some j) e n =
        let r = replica_is f.map (position_for f t) f.components j e in
        absurd (cc (sym (none_meant f (Only j) _ nonce n j r.component r.there (only f j)) ∙ r.present))
    by None e n = record {
      alone = λ k at there same. none_stands f.map (position_for f t) f.components e k at there same;
      group = of_test (is_beyond f.map f.components (group_for f t)) refl n;
      positions_are = refl;
    }
      where
        no_first : to_all f (FirstsOf (group_for f t)) (Reading (offset_of f.map p.stripe p.column) p.count) nonce ≡ []
            → NoneIn f (group_for f t)
        no_first m k at there own = elim (cases_Bool at.missing) [
          | inl y ↦ y
          | inr z ↦
              let s = some_replica f.map (k / replicas f.map) f.components k at there z refl in
              let r = replica_is f.map (k / replicas f.map) f.components s.0 s.1 in
              absurd (cc (sym (none_meant f (FirstsOf (group_for f t)) _ nonce m s.0 r.component r.there
              (firsts f (group_for f t) s.0 (ap (λ (x : ℕ). x / group_width f.map) r.at ∙ own)
              (ap (replica f.map f.components) r.at ∙ s.1))) ∙ r.present))
        ]

        of_test : (b : Bool) → is_beyond f.map f.components (group_for f t) ≡ b
            → (if b then [] else to_all f (FirstsOf (group_for f t)) (Reading (offset_of f.map p.stripe p.column) p.count)
            nonce) ≡ []
            → (is_beyond f.map f.components (group_for f t) ≡ true) ⊎ NoneIn f (group_for f t)
        of_test true y m = inl y
        of_test false y m = inr (no_first m)
