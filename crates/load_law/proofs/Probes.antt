-- A read of no byte asks each component at most once.
use Rattle.std.proofs.Common.{◌≡◌, ◌≤◌, ◌<◌, ℕ, zero, suc, ◌+◌, ◌*◌, ◌/◌, ◌==◌, eq-eqb, if◌then◌else◌, true, false, List, [], ◌∷◌, length, map, Option, Some, None, refl, sym, subst, ap, ◌∙◌, inl, inr, arith}
use Rattle.std.specs.List.{flat_map, range_with_len}
use Rattle.std.specs.Prelude.{is_some}
use Rattle.std.proofs.lemmas.Bool.{cases_Bool, or_left, or_right}
use Rattle.std.proofs.lemmas.List.Folds.{list_any-append}
use Rattle.std.proofs.Math.Nat.{mul_comm}
use Rattle.std.proofs.lemmas.List.{length-map, map-append}
use Rattle.std.proofs.lemmas.List.FromFn.{length-range_with_len}
use Rattle.std.proofs.lemmas.Nat.{div_below}
use Rattle.data_map.specs.Check.{IsChecked}
use Rattle.data_map.specs.Striping.{replicas, positions, group_width}
use Rattle.data_map.proofs.Shape.{whole_positions, group_ends}
use Rattle.stripe_plan.specs.Lost.{among, source, is_out}
use Rattle.server_rules.specs.Laws.{In}
use Rattle.server_rules.proofs.Members.{in_either, in_map, in_mapped}
use Rattle.load_law.specs.ClientState.{Held, Listed, Awaited, Ask, Column, Stretch}
use Rattle.client_rules.specs.Commands.{credential_of}
use Rattle.client_rules.specs.Io.{got_stretch, awaited_stretch, had, had_positions}
use Rattle.client_rules.specs.Reads.{first_present, probe_of, probe_each, probes_due}
use Rattle.load_law.proofs.Lists.{AreDistinct, distinct_more, in_range, by_test, in_flat, flat_most}
use Rattle.load_law.proofs.Asking.{Place, place_of, IsNew, AreNew}
use Rattle.load_law.proofs.Plans.{source_found}

-- where a component is asked for no byte
abbrev pub probe_place : Held → (p k : ℕ) → Place
probe_place h p k = (0, p, k, (credential_of h k).capability.range_start)

-- those of a position's components
abbrev pub probe_at : Held → (p : ℕ) → List Place
probe_at h p = map (probe_place h p) (range_with_len (p * replicas h.map) (replicas h.map))

-- those of all
abbrev pub probe_places : Held → List Place
probe_places h = flat_map (probe_at h) (range_with_len 0 (positions h.map))

pub few_probes : (h : Held) → IsChecked h.map → length (probe_places h) ≤ h.map.comps
few_probes h ch =
    let most : length (probe_places h) ≤ replicas h.map * length (range_with_len 0 (positions h.map)) =
    flat_most (probe_at h) (replicas h.map) (range_with_len 0 (positions h.map)) (λ p. at_position p) in
    let long : length (probe_places h) ≤ replicas h.map * positions h.map =
    rw (length-range_with_len 0 (positions h.map)) at most in
    let all : replicas h.map * positions h.map ≡ h.map.comps =
    mul_comm (replicas h.map) (positions h.map) ∙ whole_positions h.map ch in
    rw all at long
  where
    at_position : (p : ℕ) → length (probe_at h p) ≤ replicas h.map
    at_position p =
        omega (
          arith,
          length-map {B = Place} (range_with_len (p * replicas h.map) (replicas h.map)) (probe_place h p),
          length-range_with_len (p * replicas h.map) (replicas h.map),
        )

-- whatever is had
abbrev pub IsAny : Stretch → Type 0
IsAny t = Unit {0}

-- ---- what is due

-- the position of what is had
had_there : (got : List Column) (awaited : List Awaited) (t : Stretch) → In t (had got awaited)
    → among t.position (had_positions got awaited) ≡ true
unfolding had had_positions
had_there got awaited t i =
    list_any-append (λ (n : ℕ). n == t.position) (map (λ (c : Column). c.position) got)
    (map (λ (a : Awaited). a.ask.position) awaited)
    ∙ elim (in_either t (map got_stretch got) (map awaited_stretch awaited) i) [
      | inl g ↦ or_left _ _ (of_got got g)
      | inr w ↦ or_right _ _ (of_awaited awaited w)
    ]
  where
    of_got : (cs : List Column) → In t (map got_stretch cs)
        → among t.position (map (λ (c : Column). c.position) cs) ≡ true
    of_got [] j = absurd j
    of_got (c ∷ cs) (inl e) =
        or_left (c.position == t.position) _ (eq-eqb c.position t.position (sym (ap (λ (u : Stretch). u.position) e)))
    of_got (c ∷ cs) (inr j) = or_right (c.position == t.position) _ (of_got cs j)

    of_awaited : (xs : List Awaited) → In t (map awaited_stretch xs)
        → among t.position (map (λ (a : Awaited). a.ask.position) xs) ≡ true
    of_awaited [] j = absurd j
    of_awaited (a ∷ xs) (inl e) =
        or_left (a.ask.position == t.position) _
        (eq-eqb a.ask.position t.position (sym (ap (λ (u : Stretch). u.position) e)))
    of_awaited (a ∷ xs) (inr j) = or_right (a.ask.position == t.position) _ (of_awaited xs j)

module _ (h : Held) (out : List ℕ) (got : List Column) (awaited : List Awaited) where
  -- from a position on
  record AreFrom (first : ℕ) (due : List Ask) : Type 0 where
    place : (b : Ask) → In b due → first ≤ b.position
    new : (b : Ask) → In b due → IsNew (probe_places h) IsAny out (had got awaited) b
    once : AreDistinct (map place_of due)

  nothing_from : (first : ℕ) → AreFrom first []
  nothing_from first = record { place = λ b j. absurd j; new = λ b j. absurd j; once = tt }

  of_source : (p : ℕ) (o : Option ℕ) → p < positions h.map → among p (had_positions got awaited) ≡ false
      → source h.map out p ≡ o
      → AreFrom p (probe_of h p o) × ((b : Ask) → In b (probe_of h p o) → b.position ≡ p)
  unfolding source
  of_source p None low none is = (nothing_from p, λ b j. absurd j)
  of_source p (Some k) low none is =
      let found = source_found out (p * replicas h.map) (replicas h.map) k is in
      let its : IsNew (probe_places h) IsAny out (had got awaited) (record {
        stripe = 0;
        position = p;
        component = k;
        offset = (credential_of h k).capability.range_start;
        length = 0;
      }) = record {
        listed = in_flat (probe_at h) p (range_with_len 0 (positions h.map)) (probe_place h p k)
            (in_range 0 (positions h.map) p (omega arith) (omega (arith, low)))
            (in_map (probe_place h p) k (range_with_len (p * replicas h.map) (replicas h.map))
            (in_range (p * replicas h.map) (replicas h.map) k found.0 found.1));
        known = tt;
        there = found.2;
        new = λ t j e same.
            cc (sym (subst (λ (n : ℕ). among n (had_positions got awaited) ≡ true) e (had_there got awaited t j)) ∙ none);
      } in (
        record {
          place = λ b j. elim j [
            | inl e ↦ let same : b.position ≡ p = ap (λ (a : Ask). a.position) e in omega (arith, same)
            | inr n ↦ absurd n
          ];
          new = λ b j. elim j [
            | inl e ↦ subst (IsNew (probe_places h) IsAny out (had got awaited)) (sym e) its
            | inr n ↦ absurd n
          ];
          once = (λ j. absurd j, tt);
        },
        λ b j. elim j [ inl e ↦ ap (λ (a : Ask). a.position) e | inr n ↦ absurd n ],
      )

  abbrev due_at : (p : ℕ) → List Ask
  due_at p = if among p (had_positions got awaited) then [] else probe_of h p (source h.map out p)

  of_position : (p : ℕ) → p < positions h.map
      → AreFrom p (due_at p) × ((b : Ask) → In b (due_at p) → b.position ≡ p)
  of_position p low = elim (cases_Bool (among p (had_positions got awaited))) [
    | inl t ↦ rw t (nothing_from p, λ b j. absurd j)
    | inr f ↦ rw f (of_source p (source h.map out p) low f refl)
  ]

  of_each : (p n : ℕ) → p + n ≤ positions h.map → AreFrom p (probe_each h out (had_positions got awaited) p n)
  unfolding probe_each
  of_each p zero low = nothing_from p
  of_each p (suc n) low =
      let front : List Ask = due_at p in
      let back : List Ask = probe_each h out (had_positions got awaited) (p + 1) n in
      let its = of_position p (omega (arith, low)) in
      let rest = of_each (p + 1) n (omega (arith, low)) in
      record {
        place = λ b j. elim (in_either b front back j) [ inl x ↦ its.0.place b x | inr y ↦ omega (arith, rest.place b y) ];
        new = λ b j. elim (in_either b front back j) [ inl x ↦ its.0.new b x | inr y ↦ rest.new b y ];
        once = rw (map-append place_of front back) (distinct_more (map place_of front) (map place_of back) its.0.once rest.once
            (λ z x y.
            let a = in_mapped place_of z front x in
            let b = in_mapped place_of z back y in
            let same : a.0.position ≡ b.0.position = ap (λ (w : Place). w.1) (sym a.2 ∙ b.2) in
            omega (arith, same, its.1 a.0 a.1, rest.place b.0 b.1)));
      }

-- a component that is present is one of them
present_below : (ls : List Listed) (k j : ℕ) → first_present ls k ≡ Some j → j < k + length ls
unfolding first_present
present_below [] k j e = absurd (cc e)
present_below (l ∷ ls) k j e = elim (cases_Bool (is_some l.credential)) [
  | inl has ↦ let same : k ≡ j = cc (rw has at e) in omega (arith, same)
  | inr not ↦ let rest = present_below ls (k + 1) j (rw not at e) in omega (arith, rest)
]

-- what is due is new
pub probes_new : (h : Held) (out : List ℕ) (got : List Column) (awaited : List Awaited) (n : ℕ) → IsChecked h.map
    → length h.components ≡ h.map.comps → first_present h.components 0 ≡ Some n
    → AreNew (probe_places h) IsAny out (had got awaited)
    (probes_due h out (had_positions got awaited) (n / replicas h.map))
unfolding probes_due
probes_new h out got awaited n ch complete present =
    let p : ℕ = n / replicas h.map in
    let below : n < positions h.map * replicas h.map =
    omega (arith, present_below h.components 0 n present, complete, whole_positions h.map ch) in
    let low : n / replicas h.map < positions h.map = div_below n (replicas h.map) (positions h.map) (omega arith) below in
    by_test (AreNew (probe_places h) IsAny out (had got awaited)) (is_out h.map out p) _ _
    (as_new _ _ (of_each h out got awaited (p / group_width h.map * group_width h.map) (group_width h.map)
    (group_ends h.map p ch low)))
    (as_new _ _ (of_each h out got awaited p 1 (omega (arith, low))))
  where
    as_new : (first : ℕ) (due : List Ask) → AreFrom h out got awaited first due
        → AreNew (probe_places h) IsAny out (had got awaited) due
    as_new first due k = record { each = k.new; once = k.once }
