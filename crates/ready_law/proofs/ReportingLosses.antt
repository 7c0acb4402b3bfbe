-- A report of what timed out in a ready call: it is taken as a loss.
use Rattle.std.proofs.Common.{◌≡◌, ◌⊎◌, ◌≤◌, ◌<◌, ◌+◌, ◌==◌, ℕ, zero, suc, true, false, List, [], ◌∷◌, length, slice_get, Some, refl, sym, ap, subst, ◌∙◌, inl, inr, arith}
use Rattle.std.proofs.lemmas.Bool.{cases_Bool, eqb-true}
use Rattle.std.proofs.lemmas.Bool.Decides.{nat_tests}
use Rattle.data_map.specs.declared.check.RawMap.{RawMap}
use Rattle.data_map.specs.Check.{IsChecked}
use Rattle.data_map.specs.Striping.{parities, group_of}
use Rattle.server_rules.specs.Laws.{In}
use Rattle.server_rules.specs.Maps.{group_with}
use Rattle.server_rules.specs.Numbers.{among as in_set}
use Rattle.server_rules.specs.Return.{none_beyond}
use Rattle.server_rules.specs.Standing.{is_beyond, lose_from}
use Rattle.server_rules.proofs.Components.{length_lost}
use Rattle.stripe_plan.specs.Lost.{among, is_short, positions_out}
use Rattle.world_history.specs.ClientNames.{Held, TimedOut}
use Rattle.world_history.specs.ServerNames.{Component}
use Rattle.ready_law.specs.Enough.{AreMissingAmong}
use Rattle.ready_law.specs.Ready.{Scene, IsTouched, is_lost, lost_from}
use Rattle.ready_law.proofs.Calls.{ReadyCall, scene_at, op_at, kept_at, lost_at}
use Rattle.ready_law.proofs.Lacking.{lost_are_listed, not_beyond, group_below}
use Rattle.ready_law.proofs.ServingReports.{components_of}
use Rattle.ready_law.proofs.Stages.{AreSilent}

-- ---- lost components

-- each is one of these
lost_inside : (s : Scene) (cs : List Component) (j k : ℕ) → among k (lost_from s cs j) ≡ true → k < j + length cs
unfolding lost_from
lost_inside s [] j k e = absurd (cc e)
lost_inside s (c ∷ cs) j k e = elim (cases_Bool (is_lost s c)) [
  | inl t ↦ elim (cases_Bool (j == k)) [
    | inl y ↦ omega (arith, eqb-true j k y)
    | inr n ↦ omega (arith, lost_inside s cs (j + 1) k (rw (t, n) at e))
  ]
  | inr f ↦ omega (arith, lost_inside s cs (j + 1) k (rw f at e))
]

-- ---- components that become missing

-- one that is missing then was before, or is one of these
missing_then : (ks : List ℕ) (cs : List Component) (j i : ℕ) (at : Component) → slice_get (lose_from ks cs j) i ≡ Some at
    → at.missing ≡ true
    → (c : Component) × (slice_get cs i ≡ Some c) × ((c.missing ≡ true) ⊎ (in_set (j + i) ks ≡ true))
unfolding lose_from
missing_then ks [] j i at e gone = absurd (cc e)
missing_then ks (c ∷ cs) j zero at e gone = elim (cases_Bool (in_set j ks)) [
  | inl t ↦ (c, refl, inr (ap (λ (n : ℕ). in_set n ks) (omega arith) ∙ t))
  | inr f ↦ let same : c ≡ at = cc (rw f at e) in (c, refl, inl (ap (λ (x : Component). x.missing) same ∙ gone))
]
missing_then ks (c ∷ cs) j (suc i) at e gone =
    let rest = missing_then ks cs (j + 1) i at e gone in (
      rest.0,
      rest.1,
      elim rest.2 [
        | inl l ↦ inl l
        | inr t ↦ inr (ap (λ (n : ℕ). in_set n ks) (omega arith) ∙ t)
      ],
    )

-- ---- what timed out

timed_out_there : (ts : List TimedOut) (k : ℕ) → in_set k (components_of ts) ≡ true
    → (t : TimedOut) × In t ts × (k ≡ t.ask.component)
unfolding in_set
timed_out_there [] k e = absurd (cc e)
timed_out_there (t ∷ ts) k e = elim (cases_Bool (k == t.ask.component)) [
  | inl y ↦ (t, inl refl, eqb-true k t.ask.component y)
  | inr n ↦ let rest = timed_out_there ts k (rw n at e) in (rest.0, inr rest.1, rest.2)
]

none_are_beyond : (m : RawMap) (cs : List Component) (ts : List TimedOut)
    → ((t : TimedOut) → In t ts → is_beyond m cs (group_with m t.ask.component) ≡ false)
    → none_beyond m cs (components_of ts) ≡ true
unfolding none_beyond
none_are_beyond m cs [] all = refl
none_are_beyond m cs (t ∷ ts) all = rw (all t (inl refl)) (none_are_beyond m cs ts (λ u i. all u (inr i)))

few_out : (m : RawMap) (lost : List ℕ) (n : ℕ) → is_short m lost n ≡ false
    → length (positions_out m lost (group_of m n)) ≤ parities m
unfolding is_short
few_out m lost n e = grind (arith, nat_tests, e)

-- ---- of a ready call

module _ (s : ReadyCall) (held : Held) (timed : List TimedOut) (silent : AreSilent s held timed) where
  abbrev cs : List Component
  cs = (kept_at s).components

  -- each that timed out is a component of the file
  pub silent_inside : (t : TimedOut) → In t timed → t.ask.component < length cs
  silent_inside t i = omega (arith, lost_inside (scene_at s) cs 0 t.ask.component (silent.lost t i))

  -- what is missing without them is lost
  missing_are_lost : AreMissingAmong (lose_from (components_of timed) cs 0) (lost_at s)
  missing_are_lost k at found gone =
      let was = missing_then (components_of timed) cs 0 k at found gone in
      elim was.2 [
        | inl l ↦
            lost_are_listed (scene_at s) (kept_at s) k was.0 was.1 (rw l refl)
        | inr l ↦
            let z : 0 + k ≡ k = omega arith in
            let t = timed_out_there timed k (subst (λ (n : ℕ). in_set n (components_of timed) ≡ true) z l) in
            subst (λ (n : ℕ). among n (lost_at s) ≡ true) (sym t.2) (silent.lost t.0 t.1)
      ]

  -- so each of their groups can be decoded
  pub silent_borne : IsChecked (kept_at s).map → length cs ≡ (kept_at s).map.comps
      → none_beyond (kept_at s).map (lose_from (components_of timed) cs 0) (components_of timed) ≡ true
  silent_borne checked complete =
      none_are_beyond (kept_at s).map (lose_from (components_of timed) cs 0) timed (λ t i.
      let m = (kept_at s).map in
      let n : IsTouched (kept_at s) (op_at s) t.ask.component = silent.touched t i in
      let few : length (positions_out m (lost_at s) (group_with m t.ask.component)) ≤ parities m =
      subst (λ (g : ℕ). length (positions_out m (lost_at s) g) ≤ parities m) n.2
      (few_out m (lost_at s) n.0 (s.ready.enough n.0 n.1)) in
      not_beyond m (lose_from (components_of timed) cs 0) (lost_at s) checked
      (length_lost (components_of timed) cs 0 ∙ complete) missing_are_lost (group_with m t.ask.component)
      (group_below m (lose_from (components_of timed) cs 0) (lost_at s) checked
      (length_lost (components_of timed) cs 0 ∙ complete) missing_are_lost t.ask.component
      (omega (arith, silent_inside t i, complete))) few)
