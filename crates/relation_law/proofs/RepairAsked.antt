-- What a job sends at each place is as its work asks.
use Rattle.std.proofs.Common.{◌≡◌, ◌⊎◌, ◌==◌, ◌&&◌, ℕ, zero, suc, ◌+◌, ◌-◌, ◌≤◌, Bool, true, false, not, min, List, [], ◌∷◌, length, replicate, slice_get, slice_range, drop, Option, Some, None, refl, sym, ap, subst, ◌∙◌, inl, inr, arith, if◌then◌else◌}
use Rattle.std.proofs.lemmas.Bool.{and_parts, eqb-true}
use Rattle.std.proofs.lemmas.List.{length-take}
use Rattle.std.proofs.lemmas.List.FromFn.{length-map-range_with_len}
use Rattle.data_map.specs.declared.check.RawMap.{RawMap}
use Rattle.data_map.specs.Striping.{group_of, offset_of}
use Rattle.osd_commands.specs.declared.actions.Action.{Action}
use Rattle.osd_commands.specs.declared.actions.Action.TheVariants as action
use Rattle.server_rules.specs.Columns.{row_from, unit_rows, unit_with, wanted, first_unlike, end_unlike, end_of}
use Rattle.server_rules.specs.Commands.{Ask, Creating, Raising, Reading, Measuring, Which, All, Only, OfGroup, FirstsOf, is_meant, command_for, sent_to, to_each, to_all}
use Rattle.server_rules.specs.Going.{Going}
use Rattle.server_rules.specs.Laws.{In}
use Rattle.server_rules.specs.Maps.{group_with}
use Rattle.server_rules.specs.Pieces.{stores_from, is_off, to_store}
use Rattle.server_rules.specs.Rebuild.{sources_by, sources, to_fill, group_for}
use Rattle.server_rules.specs.Repair.{is_left, repair_reads}
use Rattle.server_rules.specs.Standing.{is_beyond}
use Rattle.history_law.specs.Names.{Kept, Component, Awaited, Heard, Piece, Target, Work}
use Rattle.component_law.proofs.StandAwaited.{object_for}
use Rattle.file_simulation.specs.Jobs.{LieIn, IsInPiece}
use Rattle.relation_law.specs.Awaiting.{IsOfComponent, IsDone, IsRow, IsStore, IsMaking, IsFill, IsAskedIn, AreOfGroup, ToDoFits}
use Rattle.relation_law.proofs.Walk.{Place, AtFill, AtSources, Asks, Makes, Raises, Reads, Writes, Aims, Sources, Filled, Measures, Checks_}

-- ---- one command to each of some components

-- it is what is asked of one of these components, of which the first has number k
record IsSentOf (f : Kept) (ask : Ask) (cs : List Component) (k : ℕ) (a : Awaited) : Type 0 where
  index : ℕ
  component : Component
  there : slice_get cs index ≡ Some component
  nonce : ℕ
  is : a ≡ sent_to f ask (k + index) component.drive component.object nonce

sent_next : (f : Kept) (ask : Ask) (at : Component) (cs : List Component) (k : ℕ) (a : Awaited) →
    IsSentOf f ask cs (k + 1) a → IsSentOf f ask (at ∷ cs) k a
sent_next f ask at cs k a s =
    let same : (k + 1) + s.index ≡ k + suc s.index = omega arith in
    record {
      index = suc s.index;
      component = s.component;
      there = s.there;
      nonce = s.nonce;
      is = s.is ∙ ap (λ (n : ℕ). sent_to f ask n s.component.drive s.component.object s.nonce) same;
    }

sent_first : (f : Kept) (ask : Ask) (at : Component) (cs : List Component) (k nonce : ℕ) (a : Awaited) →
    a ≡ sent_to f ask k at.drive at.object nonce → IsSentOf f ask (at ∷ cs) k a
sent_first f ask at cs k nonce a is =
    let same : k ≡ k + 0 = omega arith in
    record {
      index = 0;
      component = at;
      there = refl;
      nonce = nonce;
      is = is ∙ ap (λ (n : ℕ). sent_to f ask n at.drive at.object nonce) same;
    }

in_if : (b : Bool) (a x : Awaited) (xs ys : List Awaited) → In a (if b then x ∷ xs else ys) →
    ((b ≡ true) × (a ≡ x)) ⊎ (In a xs ⊎ In a ys)
in_if true a x xs ys (inl e) = inl (refl, e)
in_if true a x xs ys (inr i) = inr (inl i)
in_if false a x xs ys i = inr (inr i)

each_sent : (f : Kept) (which : Which) (ask : Ask) (cs : List Component) (k nonce : ℕ) (a : Awaited) →
    In a (to_each f which ask cs k nonce) → IsSentOf f ask cs k a
unfolding to_each
each_sent f which ask [] k nonce a i = absurd i
each_sent f which ask (at ∷ cs) k nonce a i =
    elim (in_if (not at.missing && is_meant f which k) a _ _ _ i) [
      | inl first ↦ sent_first f ask at cs k nonce a first.1
      | inr (inl j) ↦ sent_next f ask at cs k a (each_sent f which ask cs (k + 1) (nonce + 1) a j)
      | inr (inr j) ↦ sent_next f ask at cs k a (each_sent f which ask cs (k + 1) nonce a j)
    ]

of_component : (f : Kept) (ask : Ask) (a : Awaited) → IsSentOf f ask f.components 0 a → IsOfComponent f.components a
of_component f ask a s =
    let place : a.component ≡ s.index = ap (λ (x : Awaited). x.component) s.is ∙ omega arith in
    record {
      component = s.component;
      there = ap (slice_get f.components) place ∙ s.there;
      drive = ap (λ (x : Awaited). x.drive) s.is;
      object = ap (λ (x : Awaited). x.command.object) s.is
          ∙ object_for f ask (0 + s.index) s.component.drive s.component.object s.nonce;
    }

all_done : (f : Kept) (ask : Ask) (which : Which) (act : Action) (nonce : ℕ) →
    ((k drive object n : ℕ) → (command_for f ask k drive object n).action ≡ act) → (a : Awaited) →
    In a (to_all f which ask nonce) → IsDone f.components act a
all_done f ask which act nonce is a i =
    let s = each_sent f which ask f.components 0 nonce a i in
    record {
      of = of_component f ask a s;
      action_is = ap (λ (x : Awaited). x.command.action) s.is
          ∙ is (0 + s.index) s.component.drive s.component.object s.nonce;
    }

all_rows : (f : Kept) (which : Which) (p : Piece) (nonce : ℕ) (a : Awaited) →
    In a (to_all f which (Reading (offset_of f.map p.stripe p.column) p.count) nonce) → IsRow f.map f.components p a
all_rows f which p nonce a i =
    let s = each_sent f which (Reading (offset_of f.map p.stripe p.column) p.count) f.components 0 nonce a i in
    record {
      of = of_component f (Reading (offset_of f.map p.stripe p.column) p.count) a s;
      action_is = ap (λ (x : Awaited). x.command.action) s.is;
      offset = ap (λ (x : Awaited). x.command.offset) s.is;
      count = ap (λ (x : Awaited). x.command.length) s.is;
    }

none_if : (b : Bool) (a : Awaited) (ws : List Awaited) → In a (if b then [] else ws) → In a ws
none_if true a ws i = absurd i
none_if false a ws i = i

sources_rows : (f : Kept) (t : Target) (p : Piece) (nonce : ℕ) (o : Option ℕ) (a : Awaited) →
    In a (sources_by f t p nonce o) → IsRow f.map f.components p a
sources_rows f t p nonce (Some j) a i = all_rows f (Only j) p nonce a i
sources_rows f t p nonce None a i =
    all_rows f (FirstsOf (group_for f t)) p nonce a (none_if (is_beyond f.map f.components (group_for f t)) a _ i)

-- ---- the bytes that differ

pub first_within : (xs ys : List ℕ) → first_unlike xs ys ≤ length ys
unfolding first_unlike
first_within [] ys = omega arith
first_within (x ∷ xs) [] = omega arith
first_within (x ∷ xs) (y ∷ ys) = either (x == y) (first_within xs ys)
  where
    either : (b : Bool) → first_unlike xs ys ≤ length ys →
        (if b then first_unlike xs ys + 1 else 0) ≤ suc (length ys)
    either true below = omega (arith, below)
    either false below = omega arith

end_within : (xs ys : List ℕ) (i end : ℕ) → end ≤ i + length ys → end_unlike xs ys i end ≤ i + length ys
unfolding end_unlike
end_within [] ys i end below = below
end_within (x ∷ xs) [] i end below = below
end_within (x ∷ xs) (y ∷ ys) i end below =
    let sum : (i + 1) + length ys ≡ i + suc (length ys) = omega arith in
    let rest = end_within xs ys (i + 1) (if x == y then end else i + 1) (either (x == y) (omega (arith, below, sum))) in
    omega (arith, rest, sum)
  where
    either : (b : Bool) → end ≤ (i + 1) + length ys → (if b then end else i + 1) ≤ (i + 1) + length ys
    either true e = e
    either false e = omega arith

-- what is cut out of a row from the first to the last that differs lies within it
cut_within : (xs ys zs : List ℕ) (count : ℕ) → length ys ≡ count →
    first_unlike xs ys + length (slice_range zs (first_unlike xs ys) (end_of xs ys)) ≤ count
cut_within xs ys zs count long =
    let first = first_within xs ys in
    let last : end_of xs ys ≤ 0 + length ys = end_within xs ys 0 0 (omega arith) in
    let cut = length-take (end_of xs ys - first_unlike xs ys) (drop (first_unlike xs ys) zs) in
    below (first_unlike xs ys) (end_of xs ys) (length (drop (first_unlike xs ys) zs)) (length (slice_range zs
    (first_unlike xs ys) (end_of xs ys))) first last cut
  where
    below : (a b c n : ℕ) → a ≤ length ys → b ≤ 0 + length ys → n ≡ min (b - a) c → a + n ≤ count
    below a b c n first last cut = grind (arith, first, last, cut, long)

-- ---- the WRITEs of a piece

lie_in : (m : RawMap) (p : Piece) (k cut len : ℕ) → group_with m k ≡ group_of m p.stripe → cut + len ≤ p.count →
    LieIn m p k (offset_of m p.stripe p.column + cut) ((offset_of m p.stripe p.column + cut) + len)
lie_in m p k cut len group within = record {
  group = group;
  low = omega arith;
  high = omega (arith, within);
}

-- it makes the row of one of these components another, of which the first has number k
record IsStoreOf (f : Kept) (p : Piece) (cs : List Component) (k : ℕ) (a : Awaited) : Type 0 where
  index : ℕ
  component : Component
  there : slice_get cs index ≡ Some component
  place : a.component ≡ k + index
  drive : a.drive ≡ component.drive
  object : a.command.object ≡ component.object
  action : a.command.action ≡ action.Write
  inside : IsInPiece f.map p a.component a.command

store_next : (f : Kept) (p : Piece) (at : Component) (cs : List Component) (k : ℕ) (a : Awaited) →
    IsStoreOf f p cs (k + 1) a → IsStoreOf f p (at ∷ cs) k a
store_next f p at cs k a s = record {
  index = suc s.index;
  component = s.component;
  there = s.there;
  place = s.place ∙ omega arith;
  drive = s.drive;
  object = s.object;
  action = s.action;
  inside = s.inside;
}

off_group : (f : Kept) (p : Piece) (have want : List ℕ) (at : Component) (k : ℕ) → is_off f p have want at k ≡ true →
    group_with f.map k ≡ group_of f.map p.stripe
off_group f p have want at k e =
    let one = and_parts (not at.missing && (group_with f.map k == group_of f.map p.stripe)) _ e in
    eqb-true (group_with f.map k) (group_of f.map p.stripe) (and_parts (not at.missing) _ one.0).1

pub wanted_long : (m : RawMap) (rows : List (List ℕ)) (c count : ℕ) → length (wanted m rows c count) ≡ count
unfolding wanted
wanted_long m rows c count = length-map-range_with_len _ 0 count

stores_sent : (f : Kept) (p : Piece) (rows : List (List ℕ)) (heard : List Heard) (cs : List Component) (k nonce : ℕ)
    (a : Awaited) → In a (stores_from f p rows heard cs k nonce) → IsStoreOf f p cs k a
unfolding stores_from
stores_sent f p rows heard [] k nonce a i = absurd i
stores_sent f p rows heard (at ∷ cs) k nonce a i =
    let have : List ℕ = row_from heard k p.count in
    let want : List ℕ = wanted f.map rows (unit_with f.map p.stripe k) p.count in
    elim (in_if (is_off f p have want at k) a _ _ _ i) [
      | inl first ↦ own have want (wanted_long f.map rows (unit_with f.map p.stripe k) p.count) first.0 first.1
      | inr (inl j) ↦ store_next f p at cs k a (stores_sent f p rows heard cs (k + 1) (nonce + 1) a j)
      | inr (inr j) ↦ store_next f p at cs k a (stores_sent f p rows heard cs (k + 1) nonce a j)
    ]
  where
    own : (have want : List ℕ) → length want ≡ p.count → is_off f p have want at k ≡ true →
        a ≡ to_store f p have want k at.drive at.object nonce → IsStoreOf f p (at ∷ cs) k a
    own have want long off is = record {
      index = 0;
      component = at;
      there = refl;
      place = ap (λ (x : Awaited). x.component) is ∙ omega arith;
      drive = ap (λ (x : Awaited). x.drive) is;
      object = ap (λ (x : Awaited). x.command.object) is;
      action = ap (λ (x : Awaited). x.command.action) is;
      inside = subst (λ (x : Awaited). IsInPiece f.map p x.component x.command) (sym is)
          (lie_in f.map p k (first_unlike have want) (length (slice_range want (first_unlike have want) (end_of have want)))
          (off_group f p have want at k off) (cut_within have want want p.count long));
    }

is_store : (f : Kept) (p : Piece) (a : Awaited) → IsStoreOf f p f.components 0 a → IsStore f.map f.components p a
is_store f p a s = record {
  of = record {
    component = s.component;
    there = ap (slice_get f.components) (s.place ∙ omega arith) ∙ s.there;
    drive = s.drive;
    object = s.object;
  };
  action_is = s.action;
  inside = s.inside;
}

length_zeros : (n : ℕ) → length {A = ℕ} (replicate n 0) ≡ n
length_zeros zero = refl
length_zeros (suc n) = ap suc (length_zeros n)

is_fill : (f : Kept) (t : Target) (p : Piece) (bytes : List ℕ) (nonce : ℕ) →
    group_with f.map t.component ≡ group_of f.map p.stripe → IsFill f.map t p (to_fill f t p bytes nonce)
is_fill f t p bytes nonce group = record {
  of = record { component = refl; drive = refl; object = refl };
  action_is = refl;
  inside = lie_in f.map p t.component (first_unlike bytes (replicate p.count 0))
      (length (slice_range bytes (first_unlike bytes (replicate p.count 0)) (end_of bytes (replicate p.count 0)))) group
      (cut_within bytes (replicate p.count 0) bytes p.count (length_zeros p.count));
}

-- ---- what is asked at a place

-- the pieces that a rebuild goes on with are of its group
abbrev pub PlaceFits : Place → Going → Type 0
PlaceFits (AtFill t ps) g = AreOfGroup g.file.kept.map t.component ps
PlaceFits (AtSources t p ps heard) g = AreOfGroup g.file.kept.map t.component (p ∷ ps)
PlaceFits place g = Unit {0}

only : (P : Awaited → Type 0) (x : Awaited) → P x → (a : Awaited) → In a (x ∷ []) → P a
only P x is a (inl same) = subst P (sym same) is
only P x is a (inr none) = absurd none

pub asked_fits : (g : Going) (place : Place) (work : Work) (ws : List Awaited) → PlaceFits place g →
    Asks g place work ws → ((a : Awaited) → In a ws → IsAskedIn g.file.kept work a) × ToDoFits g.file.kept.map work
unfolding repair_reads sources
asked_fits g place work ws q Makes =
    (all_done g.file.kept Creating All action.Create g.effects.nonce (λ k d o n. refl), tt)
asked_fits g place work ws q Raises =
    (all_done g.file.kept Raising All action.SetTag g.effects.nonce (λ k d o n. refl), tt)
asked_fits g place work ws q (Reads p ps short) = (
  λ a i. all_rows g.file.kept (OfGroup (group_of g.file.kept.map p.stripe)) p g.effects.nonce a
      (none_if (is_left g.file.kept p) a _ i),
  tt,
)
asked_fits g place work ws q (Writes p ps heard short) = (
  λ a i. is_store g.file.kept p a (stores_sent g.file.kept p
      (unit_rows g.file.kept.map g.file.kept.components p.stripe heard p.count) heard g.file.kept.components 0 g.effects.nonce
      a i),
  tt,
)
asked_fits g place work ws q (Aims t) = (
  only (IsMaking t) (sent_to g.file.kept Creating t.component t.drive t.object g.effects.nonce)
      (record { of = record { component = refl; drive = refl; object = refl }; action_is = refl }),
  tt,
)
asked_fits g place work ws q (Sources t p ps) =
    (λ a i. sources_rows g.file.kept t p g.effects.nonce _ a i, q)
asked_fits g place work ws q (Filled t p ps heard bytes is some) = (
  only (IsFill g.file.kept.map t p) (to_fill g.file.kept t p bytes g.effects.nonce)
      (is_fill g.file.kept t p bytes g.effects.nonce (q p (inl refl))),
  q,
)
asked_fits g place work ws q Measures =
    (all_done g.file.kept Measuring All action.GetAttr g.effects.nonce (λ k d o n. refl), tt)
asked_fits g place work ws q (Checks_ p ps tally) =
    (λ a i. all_rows g.file.kept (OfGroup (group_of g.file.kept.map p.stripe)) p g.effects.nonce a i, tt)
