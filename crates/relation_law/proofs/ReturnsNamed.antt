-- What a report names on the server: if too much timed out, a group that can't be decoded without it. So it stays while the
-- client's grant is live, and no such report is taken as a loss.
-- Towards `ReturnsAreRight` (`specs/KeptFollows.antt`).
use Rattle.std.proofs.Common.{◌≡◌, ◌==◌, ◌<◌, ◌⊎◌, ◌^◌, ℕ, zero, suc, ◌+◌, ◌&&◌, not, Bool, true, false, List, [], ◌∷◌, ◌++◌, Option, Some, None, map, length, slice_get, refl, sym, ap, subst, ◌∙◌, arith, inl, inr, if◌then◌else◌}
use Rattle.std.specs.Prelude.{is_some}
use Rattle.std.proofs.lemmas.Bool.{cases_Bool, cases_eq, eq-eqb, ne_eqb, eqb-true, and_parts}
use Rattle.std.proofs.lemmas.Nat.{from_be_bytes-to_be_bytes_8}
use Rattle.std.proofs.lemmas.Option.{slice_get_cases, slice_get_within}
use Rattle.data_map.specs.Check.{IsChecked}
use Rattle.stripe_plan.specs.Touched.{stripes}
use Rattle.stripe_plan.specs.Lost.{among as among_these}
use Rattle.layout_types.specs.declared.objid.ObjId.{ObjId}
use Rattle.layout_types.specs.declared.ioerrs.IoErr.{IoErr}
use Rattle.layout_types.specs.declared.ioerrs.Errno.TheVariants.{Unreachable}
use Rattle.client_rules.specs.Calls.{span_of}
use Rattle.client_rules.specs.Grants.{missing_from, missing_of}
use Rattle.client_rules.specs.Io.{outs}
use Rattle.client_rules.specs.Requests.{id_in, object_of, error_at, report_of}
use Rattle.client_rules.specs.Writes.{is_too_short}
use Rattle.world_history.specs.ClientNames.{CallOp, Held, Listed, TimedOut}
use Rattle.world_history.specs.ServerNames.{Component, Drive, Grant, Kept}
use Rattle.server_rules.specs.declared.limits.TheConstants.{GREATEST_TAG, FIRST_PARTITION}
use Rattle.server_rules.specs.Grants.{grant_of}
use Rattle.server_rules.specs.Laws.{In}
use Rattle.server_rules.specs.Maps.{group_with}
use Rattle.server_rules.specs.Numbers.{among}
use Rattle.server_rules.specs.Return.{Taken, TooMany, Fencing, is_device, is_at, is_unreachable, named_from, named_by, and_others, named, none_beyond, bearable, loss, by_loss, by_grant, return_row}
use Rattle.server_rules.specs.Standing.{is_beyond, lose_from}
use Rattle.server_rules.proofs.Members.{in_map}
use Rattle.component_law.specs.Objects.{objects_of, NoneIs, AllDiffer}
use Rattle.component_law.specs.Listed.{ListsComponents}
use Rattle.component_law.proofs.PartyKeeping.{IsAlike}
use Rattle.relation_law.specs.Returns.{as_written, error_read, report_read, IsBeyondBearing, IsTooShort, IsOfRefusal}
use Rattle.relation_law.proofs.ComponentsNotes.{lost_at}
use Rattle.relation_law.proofs.ReturnsShort.{AreMissing, beyond_too, beyond_still, newly_out, shortened}

-- ---- lists of numbers

among_either : (k : ℕ) (xs ys : List ℕ) → among_these k (xs ++ ys) ≡ true
    → (among_these k xs ≡ true) ⊎ (among_these k ys ≡ true)
among_either k [] ys e = inr e
among_either k (x ∷ xs) ys e = elim (cases_Bool (x == k)) [
  | inl t ↦ inl (rw t refl)
  | inr f ↦ elim (among_either k xs ys (rw f at e)) [ inl l ↦ inl (rw f l) | inr r ↦ inr r ]
]

among_front : (k : ℕ) (xs ys : List ℕ) → among_these k (xs ++ ys) ≡ false → among_these k xs ≡ false
among_front k [] ys e = refl
among_front k (x ∷ xs) ys e = elim (cases_Bool (x == k)) [
  | inl t ↦ absurd (cc (rw t at e))
  | inr f ↦ rw f (among_front k xs ys (rw f at e))
]

-- ---- components have objects of their own

none_is : (cs : List Component) (o j : ℕ) (b : Component) → NoneIs o (objects_of cs) → slice_get cs j ≡ Some b → b.object ≡ o
    → ⊥
none_is [] o j b none found is = cc found
none_is (c ∷ cs) o zero b none found is =
    let same : c ≡ b = cc found in none.0 (ap (λ (x : Component). x.object) same ∙ is)
none_is (c ∷ cs) o (suc j) b none found is = none_is cs o j b none.1 found is

one_object : (cs : List Component) (i j : ℕ) (a b : Component) → AllDiffer (objects_of cs) → slice_get cs i ≡ Some a
    → slice_get cs j ≡ Some b → a.object ≡ b.object → i ≡ j
one_object [] i j a b d x y same = absurd (cc x)
one_object (c ∷ cs) zero zero a b d x y same = refl
one_object (c ∷ cs) zero (suc j) a b d x y same =
    let it : c ≡ a = cc x in
    absurd (none_is cs c.object j b d.0 y (sym same ∙ ap (λ (z : Component). z.object) (sym it)))
one_object (c ∷ cs) (suc i) zero a b d x y same =
    let it : c ≡ b = cc y in
    absurd (none_is cs c.object i a d.0 x (same ∙ ap (λ (z : Component). z.object) (sym it)))
one_object (c ∷ cs) (suc i) (suc j) a b d x y same = ap suc (one_object cs i j a b d.1 x y same)

-- what an entry names
record IsNamed (o : ObjId) (cs : List Component) (j k : ℕ) : Type 0 where
  place : ℕ
  number : k ≡ j + place
  at : Component
  there : slice_get cs place ≡ Some at
  object : o.oid_object_id ≡ at.object

named_at : (e : IoErr) (cs : List Component) (j k : ℕ) → named_from e cs j ≡ Some k → IsNamed e.oer_component cs j k
unfolding named_from
named_at e [] j k is = absurd (cc is)
named_at e (c ∷ cs) j k is = elim (cases_Bool (is_at e.oer_component c)) [
  | inl t ↦
      let same : j ≡ k = cc (rw t at is) in
      let w = and_parts (is_device e.oer_component.oid_device_id c.drive) _ t in
      let u = and_parts _ (e.oer_component.oid_object_id == c.object) w.1 in
      record {
        place = 0;
        number = omega (arith, same);
        at = c;
        there = refl;
        object = eqb-true e.oer_component.oid_object_id c.object u.1;
      }
  | inr f ↦
      let r = named_at e cs (j + 1) k (rw f at is) in
      record { place = suc r.place; number = omega (arith, r.number); at = r.at; there = r.there; object = r.object }
]

-- ---- what a report of silence names

module _ (entry : TimedOut → IoErr) (silent : (t : TimedOut) → is_unreachable (entry t).oer_errno ≡ true)
    (cs : List Component) (differ : AllDiffer (objects_of cs))
    (lists : (t : TimedOut) (at : Component) → slice_get cs t.ask.component ≡ Some at
    → (entry t).oer_component.oid_object_id ≡ at.object) where
  -- each component that timed out
  named_all : (ts : List TimedOut) (ks : List ℕ) → named (map entry ts) cs ≡ Some ks → (k : ℕ) (at : Component)
      → slice_get cs k ≡ Some at → among_these k (map (λ (t : TimedOut). t.ask.component) ts) ≡ true → among k ks ≡ true
  unfolding named among
  named_all [] ks e k at there is = absurd (cc is)
  named_all (t ∷ ts) ks e k at there is =
      by (λ js names later. named_all ts js names k at there later) (named_from (entry t) cs 0) refl
      (named (map entry ts) cs) refl (rw (silent t) at e)
    where
      by : ((js : List ℕ) → named (map entry ts) cs ≡ Some js
          → among_these k (map (λ (u : TimedOut). u.ask.component) ts) ≡ true → among k js ≡ true)
          → (o : Option ℕ) → named_from (entry t) cs 0 ≡ o → (p : Option (List ℕ)) → named (map entry ts) cs ≡ p
          → and_others o p ≡ Some ks → among k ks ≡ true
      by others None eo p ep is_ = absurd (cc is_)
      by others (Some j) eo None ep is_ = absurd (cc is_)
      by others (Some j) eo (Some js) ep is_ =
          let same : j ∷ js ≡ ks = cc is_ in
          subst (λ (z : List ℕ). among k z ≡ true) same (elim (cases_eq t.ask.component k) [
            | inl here ↦
                let n = named_at (entry t) cs 0 j eo in
                let its : at.object ≡ n.at.object =
                sym (lists t at (ap (λ (z : ℕ). slice_get cs z) here ∙ there)) ∙ n.object in
                let one : k ≡ n.place = one_object cs k n.place at n.at differ there n.there its in
                rw (eq-eqb k j (omega (arith, one, n.number))) refl
            | inr other ↦
                let rest = others js ep (rw (ne_eqb t.ask.component k other) at is) in
                elim (cases_Bool (k == j)) [ inl x ↦ rw x refl | inr x ↦ rw x rest ]
          ])

-- ---- what a layout lists as missing

missing_is : (ls : List Listed) (j n : ℕ) → among_these n (missing_from ls j) ≡ true
    → (i : ℕ) × (n ≡ j + i) × (l : Listed) × (slice_get ls i ≡ Some l) × (is_some l.credential ≡ false)
unfolding missing_from
missing_is [] j n e = absurd (cc e)
missing_is (l ∷ ls) j n e = elim (cases_Bool (is_some l.credential)) [
  | inl t ↦ later (missing_is ls (j + 1) n (rw t at e))
  | inr f ↦ elim (cases_eq j n) [
    | inl same ↦ (0, omega (arith, same), l, refl, f)
    | inr other ↦ later (missing_is ls (j + 1) n (rw (f, ne_eqb j n other) at e))
  ]
]
  where
    later : (i : ℕ) × (n ≡ j + 1 + i) × (m : Listed) × (slice_get ls i ≡ Some m) × (is_some m.credential ≡ false)
        → (i : ℕ) × (n ≡ j + i) × (m : Listed) × (slice_get (l ∷ ls) i ≡ Some m) × (is_some m.credential ≡ false)
    later r = (suc r.0, omega (arith, r.1), r.2, r.3, r.4)

none_of : {A : Type 0} (o : Option A) → is_some o ≡ false → o ≡ None
none_of None e = refl
none_of (Some x) e = absurd (cc e)

-- what timed out is among what did
in_these : (timed : List TimedOut) (t : TimedOut) → In t timed
    → among_these t.ask.component (map (λ (u : TimedOut). u.ask.component) timed) ≡ true
in_these [] t i = absurd i
in_these (u ∷ us) t (inl same) =
    rw (eq-eqb u.ask.component t.ask.component (ap (λ (y : TimedOut). y.ask.component) (sym same))) refl
in_these (u ∷ us) t (inr i) = elim (cases_Bool (u.ask.component == t.ask.component)) [
  | inl x ↦ rw x refl
  | inr x ↦ rw x (in_these us t i)
]

-- an object of no partition is no component's
none_from : (e : IoErr) (cs : List Component) (j : ℕ) → e.oer_component.oid_partition_id ≡ 0 → named_from e cs j ≡ None
unfolding named_from
none_from e [] j zero_ = refl
none_from e (c ∷ cs) j zero_ =
    let other : (e.oer_component.oid_partition_id == FIRST_PARTITION + c.drive) ≡ false =
    ne_eqb e.oer_component.oid_partition_id (FIRST_PARTITION + c.drive) (λ same. omega (arith, zero_, same)) in
    rw (other, neither (is_device e.oer_component.oid_device_id c.drive)) (none_from e cs (j + 1) zero_)
  where
    neither : (b : Bool) → (b && false) ≡ false
    neither true = refl
    neither false = refl

-- where each entry names a component, so does one of them
one_named : (es : List IoErr) (cs : List Component) (ks : List ℕ) → named es cs ≡ Some ks → (e : IoErr) → In e es
    → is_unreachable e.oer_errno ≡ true → e.oer_component.oid_partition_id ≡ 0 → ⊥
unfolding named
one_named [] cs ks names e i silent zero_ = i
one_named (d ∷ es) cs ks names e i silent zero_ =
    by (λ js rest. one_named es cs js rest e) (named_by d cs) refl (named es cs) refl names i
  where
    by : ((js : List ℕ) → named es cs ≡ Some js → In e es → is_unreachable e.oer_errno ≡ true
        → e.oer_component.oid_partition_id ≡ 0 → ⊥)
        → (o : Option ℕ) → named_by d cs ≡ o → (p : Option (List ℕ)) → named es cs ≡ p → and_others o p ≡ Some ks
        → (e ≡ d) ⊎ In e es → ⊥
    by later None first p rest all at_ = cc all
    by later (Some m) first None rest all at_ = cc all
    by later (Some m) first (Some js) rest all (inl same) =
        let none : named_by e cs ≡ None = rw silent (none_from e cs 0 zero_) in
        cc (sym none ∙ ap (λ (x : IoErr). named_by x cs) same ∙ first)
    by later (Some m) first (Some js) rest all (inr i_) = later js rest i_ silent zero_

-- ---- too much timed out

-- a component that timed out, as the server reads of it
abbrev entry_of : Held → TimedOut → IoErr
entry_of h t = error_read (error_at h t.write t.ask Unreachable)

read_each : (h : Held) (ts : List TimedOut) → report_read (report_of h ts) ≡ map (entry_of h) ts
unfolding report_of
read_each h [] = refl
read_each h (t ∷ ts) = ap (λ (es : List IoErr). entry_of h t ∷ es) (read_each h ts)

module _ (ds : List Drive) (f : Kept) (g : Grant) (h : Held) (lists : ListsComponents ds f g h.components)
    (same : h.map ≡ f.map) (ch : IsChecked f.map) (long : length f.components ≡ f.map.comps)
    (differ : AllDiffer (objects_of f.components))
    (low : (k : ℕ) (at : Component) → slice_get f.components k ≡ Some at → at.object < 2 ^ 64) where
  listed : (k : ℕ) (at : Component) → slice_get f.components k ≡ Some at
      → (l : Listed) × (slice_get h.components k ≡ Some l)
  listed k at there = elim (slice_get_cases h.components k).1 [
    | inl x ↦ (x.0, x.2)
    | inr y ↦ absurd (omega (arith, y.0, lists.count, slice_get_within f.components k at there))
  ]

  objects : (t : TimedOut) (at : Component) → slice_get f.components t.ask.component ≡ Some at
      → (entry_of h t).oer_component.oid_object_id ≡ at.object
  unfolding error_at object_of
  objects t at there =
      let l = listed t.ask.component at there in
      ap (λ (o : Option Listed). as_written (id_in o).oid_object_id) l.1
      ∙ ap (λ (o : ObjId). as_written o.oid_object_id) (lists.each t.ask.component at l.0 there l.1).object
      ∙ from_be_bytes-to_be_bytes_8 at.object (low t.ask.component at there)

  silent : (t : TimedOut) → is_unreachable (entry_of h t).oer_errno ≡ true
  unfolding error_at
  silent t = refl

  -- what is out to the client is missing behind the loss
  all_missing : (ts : List TimedOut) (ks : List ℕ) → named (map (entry_of h) ts) f.components ≡ Some ks
      → AreMissing (outs h ts) (lose_from ks f.components 0)
  unfolding outs
  all_missing ts ks names i b there out =
      let z : 0 + i ≡ i = omega arith in
      let l = lost_at ks f.components 0 i b there in
      let kept : l.before.missing ≡ true → b.missing ≡ true = λ m. elim (cases_Bool (among (0 + i) ks)) [
        | inl t ↦ ap (λ (x : Component). x.missing) (l.hit t)
        | inr x ↦ ap (λ (x : Component). x.missing) (l.spared x) ∙ m
      ] in
      elim (among_either i (missing_of h) (map (λ (t : TimedOut). t.ask.component) ts) out) [
        | inl left ↦
            let m = missing_is h.components 0 i left in
            let n : i ≡ m.0 = omega (arith, m.1) in
            let has : slice_get h.components i ≡ Some m.2 = ap (λ (x : ℕ). slice_get h.components x) n ∙ m.3 in
            kept ((lists.each i l.before m.2 l.there has).missing (none_of m.2.credential m.4))
        | inr timed ↦
            let hit : among i ks ≡ true =
            named_all (entry_of h) silent f.components differ objects ts ks names i l.before l.there timed in
            ap (λ (x : Component). x.missing) (l.hit (ap (λ (x : ℕ). among x ks) z ∙ hit))
      ]

  pub short_beyond : (op : CallOp) (report : List IoErr) → IsTooShort h op report → IsBeyondBearing f (report_read report)
  unfolding is_too_short outs
  short_beyond op report x ks names =
      let told : named (map (entry_of h) x.timed) f.components ≡ Some ks =
      subst (λ (es : List IoErr). named es f.components ≡ Some ks) (ap report_read x.report_is ∙ read_each h x.timed) names in
      let s =
      shortened f.map (outs h []) (outs h x.timed) (stripes f.map (span_of op)) (rw same at x.enough) (rw same at x.short) in
      let beyond =
      beyond_too f.map (outs h x.timed) (lose_from ks f.components 0) (all_missing x.timed ks told) s.stripe s.short in
      let n = newly_out f.map (outs h []) (outs h x.timed) s.stripe ch s.enough s.short in
      let at : (at : Component) × (slice_get f.components n.component ≡ Some at) =
      elim (slice_get_cases f.components n.component).1 [
        | inl y ↦ (y.0, y.2)
        | inr y ↦ absurd (omega (arith, y.0, long, n.below))
      ] in
      let timed : among_these n.component (map (λ (t : TimedOut). t.ask.component) x.timed) ≡ true =
      elim (among_either n.component (missing_of h) (map (λ (t : TimedOut). t.ask.component) x.timed) n.out_now) [
        | inl left ↦ absurd (cc (sym left ∙ among_front n.component (missing_of h) [] n.not_before))
        | inr t ↦ t
      ] in (
        n.component,
        named_all (entry_of h) silent f.components differ objects x.timed ks told n.component at.0 at.1 timed,
        ap (λ (z : ℕ). is_beyond f.map (lose_from ks f.components 0) z) n.group ∙ beyond,
      )

  -- each component that timed out is named, where each entry names one
  pub each_named : (timed : List TimedOut) (ks : List ℕ) → named (report_read (report_of h timed)) f.components ≡ Some ks
      → (t : TimedOut) → In t timed → among t.ask.component ks ≡ true
  unfolding error_at object_of
  each_named timed ks names t i =
      let told : named (map (entry_of h) timed) f.components ≡ Some ks =
      subst (λ (es : List IoErr). named es f.components ≡ Some ks) (read_each h timed) names in
      elim (slice_get_cases f.components t.ask.component).1 [
        | inl y ↦
            named_all (entry_of h) silent f.components differ objects timed ks told t.ask.component y.0 y.2 (in_these timed t i)
        | inr y ↦ elim (slice_get_cases h.components t.ask.component).1 [
          | inl z ↦ absurd (omega (arith, y.0, lists.count, slice_get_within h.components t.ask.component z.0 z.2))
          | inr z ↦
              let zero_ : as_written (id_in (slice_get h.components t.ask.component)).oid_partition_id ≡ 0 =
              ap (λ (o : Option Listed). as_written (id_in o).oid_partition_id) z.1
              ∙ from_be_bytes-to_be_bytes_8 0 (omega arith) in
              absurd (one_named (map (entry_of h) timed) f.components ks told (entry_of h t) (in_map (entry_of h) t timed i)
              (silent t) zero_)
        ]
      ]

-- ---- a refusal

-- it names nothing
pub refusal_beyond : (f : Kept) (report : List IoErr) → IsOfRefusal report → IsBeyondBearing f (report_read report)
unfolding named
refusal_beyond f [] x ks names = absurd x
refusal_beyond f (e ∷ es) x ks names = absurd (cc (rw x at names))

-- ---- while the grant is live

same_name : (e : IoErr) (cs ds : List Component) (j : ℕ) → length ds ≡ length cs
    → ((k : ℕ) (b : Component) → slice_get ds k ≡ Some b
    → (a : Component) × (slice_get cs k ≡ Some a) × (b.drive ≡ a.drive) × (b.object ≡ a.object))
    → named_from e ds j ≡ named_from e cs j
unfolding named_from
same_name e [] [] j long each = refl
same_name e (c ∷ cs) [] j long each = absurd (cc long)
same_name e [] (d ∷ ds) j long each = absurd (cc long)
same_name e (c ∷ cs) (d ∷ ds) j long each =
    let a = each 0 d refl in
    let it : c ≡ a.0 = cc a.1 in
    let drive : d.drive ≡ c.drive = a.2 ∙ ap (λ (x : Component). x.drive) (sym it) in
    let object : d.object ≡ c.object = a.3 ∙ ap (λ (x : Component). x.object) (sym it) in
    let less : length ds ≡ length cs = cc long in
    rw (drive, object, same_name e cs ds (j + 1) less (λ k b found. each (suc k) b found)) refl

pub same_names : (es : List IoErr) (cs ds : List Component) → length ds ≡ length cs
    → ((k : ℕ) (b : Component) → slice_get ds k ≡ Some b
    → (a : Component) × (slice_get cs k ≡ Some a) × (b.drive ≡ a.drive) × (b.object ≡ a.object))
    → named es ds ≡ named es cs
unfolding named
same_names [] cs ds long each = refl
same_names (e ∷ es) cs ds long each = rw (same_name e cs ds 0 long each, same_names es cs ds long each) refl

-- behind a loss each is there
lost_there : (ks : List ℕ) (cs : List Component) (j i : ℕ) (c : Component) → slice_get cs i ≡ Some c
    → slice_get (lose_from ks cs j) i ≡ Some (if among (j + i) ks then record c { missing = true } else c)
unfolding lose_from
lost_there ks [] j i c e = absurd (cc e)
lost_there ks (d ∷ cs) j zero c e =
    let same : d ≡ c = cc e in
    let z : j + 0 ≡ j = omega arith in
    rw z (ap (λ (x : Component). Some (if among j ks then record x { missing = true } else x)) same)
lost_there ks (d ∷ cs) j (suc i) c e =
    let on : j + suc i ≡ j + 1 + i = omega arith in
    rw on (lost_there ks cs (j + 1) i c e)

-- components that become missing bring nothing back
pub beyond_alike : (Off : ℕ → Type 0) (f k : Kept) (report : List IoErr) → IsAlike Off f k → IsBeyondBearing f report
    → IsBeyondBearing k report
beyond_alike Off f k report a x ks names =
    let lose = a.components in
    let told : named report f.components ≡ Some ks =
    sym (same_names report f.components k.components lose.count (λ n b found.
    let y = lose.each n b found in (y.0, y.1, y.2.drive, y.2.object))) ∙ names in
    let r = x ks told in
    let later = λ (i : ℕ) (b : Component) (found : slice_get (lose_from ks k.components 0) i ≡ Some b).
    still i b found in (
      r.0,
      r.1,
      rw a.map (beyond_still f.map (lose_from ks f.components 0) (lose_from ks k.components 0) (group_with f.map r.0) later r.2),
    )
  where
    both_missing : (t : Bool) (c d : Component) → (c.missing ≡ true → d.missing ≡ true)
        → (if t then record c { missing = true } else c).missing ≡ true
        → (if t then record d { missing = true } else d).missing ≡ true
    both_missing true c d on e = refl
    both_missing false c d on e = on e

    still : (i : ℕ) (b : Component) → slice_get (lose_from ks k.components 0) i ≡ Some b
        → (c : Component) × (slice_get (lose_from ks f.components 0) i ≡ Some c) × (c.missing ≡ true → b.missing ≡ true)
    still i b found =
        let l = lost_at ks k.components 0 i b found in
        let y = a.components.each i l.before l.there in
        let c : Component = if among (0 + i) ks then record y.0 { missing = true } else y.0 in
        let here : (if among (0 + i) ks then record l.before { missing = true } else l.before) ≡ b =
        elim (cases_Bool (among (0 + i) ks)) [
          | inl t ↦ rw t (sym (l.hit t))
          | inr z ↦ rw z (sym (l.spared z))
        ] in (
          c,
          lost_there ks f.components 0 i y.0 y.1,
          λ m. subst (λ (x : Component). x.missing ≡ true) here
              (both_missing (among (0 + i) ks) y.0 l.before y.2.missing m),
        )

-- ---- the row

none_beyond_at : (f : Kept) (cs : List Component) (ks : List ℕ) (n : ℕ) → none_beyond f.map cs ks ≡ true → among n ks ≡ true
    → is_beyond f.map cs (group_with f.map n) ≡ true → ⊥
unfolding none_beyond among
none_beyond_at f cs [] n e is beyond = cc is
none_beyond_at f cs (k ∷ ks) n e is beyond =
    let w = and_parts (not (is_beyond f.map cs (group_with f.map k))) (none_beyond f.map cs ks) e in
    elim (cases_eq n k) [
      | inl same ↦ cc (sym w.0
          ∙ ap (λ (b : Bool). not b) (ap (λ (x : ℕ). is_beyond f.map cs (group_with f.map x)) (sym same) ∙ beyond))
      | inr other ↦ none_beyond_at f cs ks n w.1 (rw (ne_eqb n k other) at is) beyond
    ]

-- such a report isn't taken as a loss
pub never_taken : (f : Kept) (client : ℕ) (e : IoErr) (es : List IoErr)
    → ((g : Grant) → grant_of f.grants client ≡ Some g → IsBeyondBearing f (e ∷ es)) → (ks : List ℕ)
    → return_row f client (e ∷ es) ≡ Taken ks → ⊥
unfolding return_row loss
never_taken f client e es beyond ks row = by (grant_of f.grants client) refl row
  where
    none_taken : (b : Bool) → (if b then TooMany else Fencing) ≡ Taken ks → ⊥
    none_taken true x = cc x
    none_taken false x = cc x

    borne : (p : Option (List ℕ)) → named (e ∷ es) f.components ≡ p → IsBeyondBearing f (e ∷ es)
        → by_loss f (bearable f p) ≡ Taken ks → ⊥
    borne None names x taken = none_taken (f.tag == GREATEST_TAG) taken
    borne (Some js) names x taken = elim (cases_Bool (none_beyond f.map (lose_from js f.components 0) js)) [
      | inl t ↦ let r = x js names in none_beyond_at f (lose_from js f.components 0) js r.0 t r.1 r.2
      | inr z ↦ none_taken (f.tag == GREATEST_TAG) (rw z at taken)
    ]

    sole : (b : Bool) (g : Grant) → grant_of f.grants client ≡ Some g
        → by_loss f (if b then bearable f (named (e ∷ es) f.components) else None) ≡ Taken ks → ⊥
    sole true g has taken = borne (named (e ∷ es) f.components) refl (beyond g has) taken
    sole false g has taken = none_taken (f.tag == GREATEST_TAG) taken

    by : (o : Option Grant) → grant_of f.grants client ≡ o → by_grant f (e ∷ es) o ≡ Taken ks → ⊥
    by None has taken = cc taken
    by (Some g) has taken = sole (g.rw && (length f.grants == 1)) g has taken
