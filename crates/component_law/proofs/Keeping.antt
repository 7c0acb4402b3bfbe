-- A file that is spread stays so behind each change of its components, and of the drives.
use Rattle.std.proofs.Common.{◌≡◌, ℕ, ◌/◌, ◌≤◌, ◌<◌, ◌==◌, ◌&&◌, not, nat_lt, ◌∷◌, [], List, Bool, true, Option, Some, None, length, filter, slice_set, refl, sym, ap, subst, ◌∙◌, arith, inl, inr, true≢false}
use Rattle.std.proofs.lemmas.Bool.{cases_Bool, cases_eq, eqb-true, ltb-true, and_parts}
use Rattle.zone_place.specs.declared.asks.ZoneAsk.{ZoneAsk}
use Rattle.zone_place.specs.declared.loads.Holder.{Holder}
use Rattle.zone_place.specs.Zones.{InZone, ask_of, stands_in, zone_takes}
use Rattle.zone_place.specs.Zones as zones
use Rattle.zone_place.proofs.Spreading.{apart}
use Rattle.server_rules.specs.declared.files.File.{File}
use Rattle.server_rules.specs.declared.files.Kept.{Kept}
use Rattle.server_rules.specs.declared.files.Component.{Component}
use Rattle.server_rules.specs.declared.jobs.Target.{Target}
use Rattle.server_rules.specs.Rebuild.{stands_at}
use Rattle.server_rules.specs.Zoning.{holders_from}
use Rattle.server_rules.specs.Laws.{In}
use Rattle.component_law.specs.Spread.{holders, of_group_in, has_zone, IsSpread, HasRoomFor, HasRoom, StaysSpread}
use Rattle.component_law.proofs.Zones.{SameZones, of_zone, of_stand}
use Rattle.component_law.proofs.Holders.{filter_same, filter_fewer, length_set, holder_set, counts, counts_but, counts_less, one_if, count_set}

-- ---- zones

-- a drive that stands in a zone has one
pub has_stand : (xs : List InZone) (n z : ℕ) → stands_in xs n z ≡ true → has_zone xs n ≡ true
has_stand [] n z e = absurd (cc e)
has_stand (d ∷ xs) n z e = elim (cases_Bool (d.drive == n)) [
  | inl x ↦ rw x refl
  | inr x ↦ rw x (has_stand xs n z (rw x at e))
]

-- ---- the same holders

abbrev with : Kept → List Component → Kept
with f cs = record f { components = cs }

pub spread_same : (ds : List InZone) (f : Kept) (cs : List Component) → length cs ≡ length f.components
    → holders_from cs 0 ≡ holders f → IsSpread ds f → IsSpread ds (with f cs)
spread_same ds f cs long e h = record {
  whole = long ∙ h.whole;
  zoned = subst (λ (x : List Holder). (y : Holder) → In y x → has_zone ds y.drive ≡ true) (sym e) h.zoned;
  few = λ j z.
      subst (λ (x : List Holder). length (of_group_in (ask_of f.map) ds j z x) ≤ (ask_of f.map).most) (sym e) (h.few j z);
}

pub room_same : (ds : List InZone) (f : Kept) (cs : List Component) (o : Option Target) → holders_from cs 0 ≡ holders f
    → HasRoom ds f o → HasRoom ds (with f cs) o
room_same ds f cs None e h = tt
room_same ds f cs (Some t) e h = record {
  zone = h.zone;
  stands = h.stands;
  takes = ap (zone_takes (ask_of f.map) ds t.component h.zone) e ∙ h.takes;
}

-- ---- the target's component is made

module _ (ds : List InZone) (different : zones.AreDifferent ds) (f : Kept) (t : Target) (h : IsSpread ds f)
    (r : HasRoomFor ds f t) where
  abbrev ask : ZoneAsk
  ask = ask_of f.map

  placed_zoned : (x : Holder) → In x (holders_from (slice_set f.components t.component (stands_at t)) 0)
      → has_zone ds x.drive ≡ true
  placed_zoned x i = elim (holder_set f.components t.component 0 (stands_at t) x i) [
    | inl e ↦ subst (λ (d : ℕ). has_zone ds d ≡ true) (sym e) (has_stand ds t.drive r.zone r.stands)
    | inr j ↦ h.zoned x j
  ]

  abbrev new : Holder
  new = record { component = t.component; drive = t.drive }

  placed_few : (j z : ℕ)
      → length (of_group_in ask ds j z (holders_from (slice_set f.components t.component (stands_at t)) 0)) ≤ ask.most
  placed_few j z =
      let k : ℕ = t.component in
      let set = count_set ask ds j z f.components k 0 k (stands_at t) (omega arith) in
      elim (cases_Bool (counts ask ds j z new)) [
        | inl yes_ ↦
            let its = and_parts (k / ask.size == j) (stands_in ds t.drive z) yes_ in
            let group : k / ask.size ≡ j = eqb-true (k / ask.size) j its.0 in
            elim (cases_eq z r.zone) [
              | inl same ↦
                  let takes : zone_takes ask ds k z (holders f) ≡ true =
                  subst (λ (y : ℕ). zone_takes ask ds k y (holders f) ≡ true) (sym same) r.takes in
                  let less : length (filter (counts_but ask ds (k / ask.size) z k) (holders f)) < ask.most = ltb-true _ _ takes in
                  let few : length (filter (counts_but ask ds j z k) (holders f)) < ask.most =
                  subst (λ (i : ℕ). length (filter (counts_but ask ds i z k) (holders f)) < ask.most) group less in
                  omega (arith, set, ap one_if yes_, few)
              | inr other ↦
                  absurd (true≢false (sym its.1 ∙ apart ds t.drive r.zone z different other r.stands))
            ]
        | inr not_ ↦
            omega (
              arith,
              set,
              ap one_if not_,
              filter_fewer (counts_but ask ds j z k) (counts ask ds j z) (holders f) (counts_less ask ds j z k),
              h.few j z,
            )
      ]

  pub spread_placed : IsSpread ds (with f (slice_set f.components t.component (stands_at t)))
  spread_placed = record {
    whole = length_set f.components t.component (stands_at t) ∙ h.whole;
    zoned = placed_zoned;
    few = placed_few;
  }

-- ---- other drives

module _ (ds es : List InZone) (same : SameZones ds es) where
  stands_same : (n z : ℕ) → has_zone ds n ≡ true → stands_in es n z ≡ stands_in ds n z
  stands_same n z h = same n h (λ (d : InZone). (d.drive == n) && (d.zone == z)) (of_stand n z)

  zone_same : (n : ℕ) → has_zone ds n ≡ true → has_zone es n ≡ true
  zone_same n h = same n h (λ (d : InZone). d.drive == n) (of_zone n) ∙ h

  pub spread_moved : (f : Kept) → IsSpread ds f → IsSpread es f
  spread_moved f h = record {
    whole = h.whole;
    zoned = λ x i. zone_same x.drive (h.zoned x i);
    few = λ j z.
        subst (λ (xs : List Holder). length xs ≤ (ask_of f.map).most)
        (sym (filter_same (counts (ask_of f.map) es j z) (counts (ask_of f.map) ds j z) (holders f)
        (λ x i. ap (λ (b : Bool). (x.component / (ask_of f.map).size == j) && b) (stands_same x.drive z (h.zoned x i)))))
        (h.few j z);
  }

  pub room_moved : (f : Kept) (o : Option Target) → IsSpread ds f → HasRoom ds f o → HasRoom es f o
  room_moved f None h r = tt
  room_moved f (Some t) h r = record {
    zone = r.zone;
    stands = stands_same t.drive r.zone (has_stand ds t.drive r.zone r.stands) ∙ r.stands;
    takes = ap (λ (xs : List Holder). nat_lt (length xs) (ask_of f.map).most)
        (filter_same (counts_but (ask_of f.map) es (t.component / (ask_of f.map).size) r.zone t.component)
        (counts_but (ask_of f.map) ds (t.component / (ask_of f.map).size) r.zone t.component) (holders f)
        (λ x i. ap (λ (b : Bool). ((x.component / (ask_of f.map).size == t.component / (ask_of f.map).size)
        && not (x.component == t.component)) && b) (stands_same x.drive r.zone (h.zoned x i))))
        ∙ r.takes;
  }

  pub stays_moved : (f : File) → StaysSpread ds f → StaysSpread es f
  stays_moved f h e = let x = h e in (spread_moved f.kept x.0, room_moved f.kept _ x.0 x.1)
