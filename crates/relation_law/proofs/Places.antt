-- Components that are lost keep their places: their drives and objects stay, and none comes to be present.
use Rattle.std.proofs.Common.{◌≡◌, ◌==◌, ℕ, zero, suc, ◌+◌, Bool, true, false, List, [], ◌∷◌, slice_get, Some, refl, sym, subst, ◌∙◌, if◌then◌else◌}
use Rattle.server_rules.specs.Numbers.{among}
use Rattle.server_rules.specs.Standing.{lose_on, lose_from}
use Rattle.history_law.specs.Names.{Kept, Component, Awaited, Work, Creates, Fences, Fetches, Stores, Targets, Gathers, Fills, Lengths, Checks}
use Rattle.relation_law.specs.Awaiting.{IsOfComponent, IsAskedIn}

-- it stands where the other did, if it is present
pub record IsPlaced (a b : Component) : Type 0 where
  pub drive : b.drive ≡ a.drive
  pub object : b.object ≡ a.object
  pub missing : b.missing ≡ false → a.missing ≡ false

-- so does each
pub record KeepPlaces (cs ds : List Component) : Type 0 where
  pub on : (i : ℕ) (a : Component) → slice_get cs i ≡ Some a →
      (b : Component) × (slice_get ds i ≡ Some b) × IsPlaced a b
  pub back : (i : ℕ) (b : Component) → slice_get ds i ≡ Some b →
      (a : Component) × (slice_get cs i ≡ Some a) × IsPlaced a b

placed_here : (a : Component) → IsPlaced a a
placed_here a = record { drive = refl; object = refl; missing = λ e. e }

pub placed_then : (a b c : Component) → IsPlaced a b → IsPlaced b c → IsPlaced a c
placed_then a b c x y = record {
  drive = y.drive ∙ x.drive;
  object = y.object ∙ x.object;
  missing = λ e. x.missing (y.missing e);
}

pub keep_here : (cs : List Component) → KeepPlaces cs cs
keep_here cs = record {
  on = λ i a there. (a, there, placed_here a);
  back = λ i b there. (b, there, placed_here b);
}

pub keep_then : (cs ds es : List Component) → KeepPlaces cs ds → KeepPlaces ds es → KeepPlaces cs es
keep_then cs ds es x y = record {
  on = λ i a there.
      let b = x.on i a there in
      let c = y.on i b.0 b.1 in
      (c.0, c.1, placed_then a b.0 c.0 b.2 c.2);
  back = λ i c there.
      let b = y.back i c there in
      let a = x.back i b.0 b.1 in
      (a.0, a.1, placed_then a.0 b.0 c a.2 b.2);
}

keep_first : (a b : Component) (cs ds : List Component) → IsPlaced a b → KeepPlaces cs ds → KeepPlaces (a ∷ cs) (b ∷ ds)
keep_first a b cs ds x k = record { on = on; back = back }
  where
    on : (i : ℕ) (c : Component) → slice_get (a ∷ cs) i ≡ Some c →
        (d : Component) × (slice_get (b ∷ ds) i ≡ Some d) × IsPlaced c d
    on zero c there = let same : a ≡ c = cc there in (b, refl, subst (λ (y : Component). IsPlaced y b) same x)
    on (suc i) c there = k.on i c there

    back : (i : ℕ) (d : Component) → slice_get (b ∷ ds) i ≡ Some d →
        (c : Component) × (slice_get (a ∷ cs) i ≡ Some c) × IsPlaced c d
    back zero d there = let same : b ≡ d = cc there in (a, refl, subst (IsPlaced a) same x)
    back (suc i) d there = k.back i d there

lost_if : (b : Bool) (at : Component) → IsPlaced at (if b then record at { missing = true } else at)
lost_if true at = record { drive = refl; object = refl; missing = λ e. absurd (cc e) }
lost_if false at = placed_here at

pub keep_from : (ks : List ℕ) (cs : List Component) (k : ℕ) → KeepPlaces cs (lose_from ks cs k)
unfolding lose_from
keep_from ks [] k = keep_here []
keep_from ks (at ∷ cs) k = keep_first at _ cs _ (lost_if (among k ks) at) (keep_from ks cs (k + 1))

pub keep_on : (drive : ℕ) (cs : List Component) → KeepPlaces cs (lose_on drive cs)
unfolding lose_on
keep_on drive [] = keep_here []
keep_on drive (at ∷ cs) = keep_first at _ cs _ (lost_if (at.drive == drive) at) (keep_on drive cs)

-- ---- what is asked of them

module _ (f h : Kept) (map : h.map ≡ f.map) (keeps : KeepPlaces f.components h.components) where
  of_kept : (a : Awaited) → IsOfComponent f.components a → IsOfComponent h.components a
  of_kept a is =
      let b = keeps.on a.component is.component is.there in
      record {
        component = b.0;
        there = b.1;
        drive = is.drive ∙ sym b.2.drive;
        object = is.object ∙ sym b.2.object;
      }

  pub asked_kept : (work : Work) (a : Awaited) → IsAskedIn f work a → IsAskedIn h work a
  asked_kept Creates a is = record { of = of_kept a is.of; action_is = is.action_is }
  asked_kept Fences a is = record { of = of_kept a is.of; action_is = is.action_is }
  asked_kept (Fetches [] short) a is = is
  asked_kept (Fetches (p ∷ ps) short) a is =
      rw map (record { of = of_kept a is.of; action_is = is.action_is; offset = is.offset; count = is.count })
  asked_kept (Stores [] short broken) a is = is
  asked_kept (Stores (p ∷ ps) short broken) a is =
      rw map (record { of = of_kept a is.of; action_is = is.action_is; inside = is.inside })
  asked_kept (Targets t) a is = is
  asked_kept (Gathers t []) a is = is
  asked_kept (Gathers t (p ∷ ps)) a is =
      rw map (record { of = of_kept a is.of; action_is = is.action_is; offset = is.offset; count = is.count })
  asked_kept (Fills t []) a is = is
  asked_kept (Fills t (p ∷ ps)) a is = rw map is
  asked_kept Lengths a is = record { of = of_kept a is.of; action_is = is.action_is }
  asked_kept (Checks [] tally) a is = is
  asked_kept (Checks (p ∷ ps) tally) a is =
      rw map (record { of = of_kept a is.of; action_is = is.action_is; offset = is.offset; count = is.count })
