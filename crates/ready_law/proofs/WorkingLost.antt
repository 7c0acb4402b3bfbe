-- The drives of a working call's components: that of a lost one is deaf, and any other one serves.
use Rattle.std.proofs.Common.{◌≡◌, ◌⊎◌, ◌+◌, ◌||◌, ℕ, zero, suc, Bool, true, false, List, [], ◌∷◌, slice_get, Option, Some, None, true≢false, refl, sym, ap, subst, ◌∙◌, inl, inr, arith, ne_eqb}
use Rattle.std.proofs.lemmas.Bool.{cases_Bool, or_parts}
use Rattle.stripe_plan.specs.Lost.{among}
use Rattle.scenario_text.specs.declared.line.Line.{Line}
use Rattle.world_history.specs.ServerNames.{Component}
use Rattle.world_history.specs.State.{World, DriveAt, at_number}
use Rattle.world_history.specs.Drives.{is_deaf}
use Rattle.component_law.specs.Listed.{IsOffline}
use Rattle.ready_law.specs.Enough.{LostAreListed}
use Rattle.ready_law.specs.Fair.{IsFair}
use Rattle.component_law.specs.Offline.{OfflineHaveFailed}
use Rattle.ready_law.specs.Ready.{Scene, has_failed, is_lost, lost_from}
use Rattle.ready_law.proofs.Losses.{not_before}
use Rattle.ready_law.proofs.Calls.{ReadyCall, scene_at, kept_at, lost_at}
use Rattle.ready_law.proofs.Stages.{IsAsBefore, DrivesGoOn}

-- ---- which are lost

lost_back : (s : Scene) (cs : List Component) (j i : ℕ) (at : Component) → slice_get cs i ≡ Some at
    → among (j + i) (lost_from s cs j) ≡ true → is_lost s at ≡ true
unfolding lost_from
lost_back s [] j i at e l = absurd (cc e)
lost_back s (c ∷ cs) j zero at e l =
    let same : c ≡ at = cc e in
    elim (cases_Bool (is_lost s c)) [
      | inl t ↦ ap (λ (x : Component). is_lost s x) (sym same) ∙ t
      | inr z ↦ absurd (true≢false (sym (rw z at l) ∙ not_before s cs (j + 1) (j + 0) (omega arith)))
    ]
lost_back s (c ∷ cs) j (suc i) at e l =
    let on : j + suc i ≡ j + 1 + i = omega arith in
    lost_back s cs (j + 1) i at e (elim (cases_Bool (is_lost s c)) [
      | inl t ↦
          subst (λ (k : ℕ). among k (lost_from s cs (j + 1)) ≡ true) on
          (rw (t, ne_eqb j (j + suc i) (λ f. omega (arith, f))) at l)
      | inr z ↦ subst (λ (k : ℕ). among k (lost_from s cs (j + 1)) ≡ true) on (rw z at l)
    ])

either_or : (a b : Bool) → (a || b) ≡ true → (a ≡ true) ⊎ (b ≡ true)
either_or true b e = inl refl
either_or false b e = inr e

-- ---- deaf drives

-- there is none, or it is deaf
abbrev pub is_none_or_deaf : Option DriveAt → Bool
is_none_or_deaf None = true
is_none_or_deaf (Some a) = is_deaf a

-- a drive that had failed has
failed_still : (o p : Option DriveAt) → IsAsBefore o p → has_failed o ≡ true → is_none_or_deaf p ≡ true
failed_still None p is e = ap is_none_or_deaf is
failed_still (Some a) p x e = ap is_none_or_deaf x.1 ∙ ap (λ (b : Bool). b || x.0.down) (x.2 ∙ e)

-- a drive that is there and hasn't failed stands, as it was but for its objects
pub record IsThere (s : ReadyCall) (w : World) (d : ℕ) : Type 0 where
  pub first : DriveAt
  pub stood : at_number s.world.drives d ≡ Some first
  pub now : DriveAt
  pub stands : at_number w.drives d ≡ Some now
  pub works : now.failed ≡ false
  pub down : now.down ≡ first.down
  pub clock : now.clock ≡ first.clock
  pub least : now.state.least ≡ first.state.least

stands_still : (s : ReadyCall) (w : World) (d : ℕ) (o : Option DriveAt) → at_number s.world.drives d ≡ o
    → IsAsBefore o (at_number w.drives d) → has_failed o ≡ false → IsThere s w d
stands_still s w d None e is works = absurd (cc works)
stands_still s w d (Some a) e x works = record {
  first = a;
  stood = e;
  now = x.0;
  stands = x.1;
  works = x.2 ∙ works;
  down = x.3;
  clock = x.4;
  least = x.5;
}

module _ (s : ReadyCall) (w : World) (go : DrivesGoOn s w) (k : ℕ) (at : Component)
    (place : slice_get (kept_at s).components k ≡ Some at) where
  -- that of a lost component, which isn't missing unless its drive is offline
  pub lost_is_deaf : OfflineHaveFailed → (h : List Line) → IsFair w h
      → (at.missing ≡ true → IsOffline w.server.drives at.drive) → among k (lost_at s) ≡ true
      → is_none_or_deaf (at_number w.drives at.drive) ≡ true
  lost_is_deaf offline h fair gone lost =
      let z : 0 + k ≡ k = omega arith in
      let it = lost_back (scene_at s) (kept_at s).components 0 k at place
      (subst (λ (n : ℕ). among n (lost_at s) ≡ true) (sym z) lost) in
      elim (either_or at.missing (has_failed (at_number s.world.drives at.drive)) it) [
        | inl missing ↦
            let f = offline w h fair.moment at.drive (gone missing) in
            ap is_none_or_deaf f.1 ∙ ap (λ (b : Bool). b || f.0.down) f.2
        | inr failed ↦ failed_still (at_number s.world.drives at.drive) (at_number w.drives at.drive) (go.each at.drive) failed
      ]

  pub not_lost : LostAreListed → among k (lost_at s) ≡ false → is_lost (scene_at s) at ≡ false
  not_lost listed there = elim (cases_Bool (is_lost (scene_at s) at)) [
    | inr z ↦ z
    | inl t ↦ absurd (true≢false (sym (listed (scene_at s) (kept_at s) k at place t) ∙ there))
  ]

  -- that of any other stands
  pub other_stands : is_lost (scene_at s) at ≡ false → IsThere s w at.drive
  other_stands is =
      let n = or_parts at.missing (has_failed (at_number s.world.drives at.drive)) is in
      stands_still s w at.drive (at_number s.world.drives at.drive) refl (go.each at.drive) n.1
