-- The guard of a rebuild that is over, by what its target has and what there was to make it of.
-- Towards `KeptGoesOn` (`specs/Steps.antt`).
use Rattle.std.proofs.Common.{◌≡◌, ◌⊎◌, ℕ, ◌<◌, ◌≤◌, true, false, nat_lt, List, [], None, refl, ap, subst, ◌∙◌, arith, inl, inr}
use Rattle.std.proofs.lemmas.Bool.{cases_lt, false_from_ne_true, lt-ltb}
use Rattle.osd_lists.proofs.Tests.{nat_less}
use Rattle.data_map.specs.declared.check.RawMap.{RawMap}
use Rattle.data_map.specs.Inverse.{stripe_at}
use Rattle.server_rules.specs.Grants.{grant_of}
use Rattle.world_history.specs.ServerNames.{File, Grant, Still}
use Rattle.fence_law.specs.State as machine
use Rattle.fence_law.specs.State.{State}
use Rattle.fence_law.specs.State.Event.{Rebuilds}
use Rattle.fence_law.specs.Columns.{Stood, AreBytes, Untouched}
use Rattle.fence_law.specs.Law.{IsWholeAt, byte_before}
use Rattle.fence_law.specs.Machine.{Allowed}
use Rattle.fence_law.proofs.Later.{unsettled_none}
use Rattle.fence_law.proofs.Safe.{Safe}
use Rattle.plan_law.specs.FileLayout.{stripe_of_column, column_of_cell, position_in}
use Rattle.plan_law.specs.Known.{HasSource}
use Rattle.plan_law.proofs.StripeColumns.{columns_have_stripes}
use Rattle.plan_law.proofs.Words.{rebuilds_are_known}
use Rattle.file_simulation.specs.Phases.{IsStill, PhaseIs}
use Rattle.file_simulation.specs.ServerEvents.{cells_made}
use Rattle.relation_law.specs.KeptGuards.{HasLayout}
use Rattle.relation_law.specs.KeptSteps.{IsKeptAt}
use Rattle.relation_law.proofs.KeptGrants.{none_by}

-- a file with a running job that is still has no grant outstanding in the machine, if the server has none
pub none_outstanding : (s : State) (f : File) → IsStill s f → f.kept.grants ≡ [] → (c : ℕ) → s.outstanding c ≡ None
none_outstanding s f st none c =
    none_by f.kept (grant_of f.kept.grants c) (s.outstanding c) (ap (λ (gs : List Grant). grant_of gs c) none)
    (st.outstanding c)

-- Component k is made anew. It is lost, its file is still, has a job and no grant, and the column of each of its cells in a
-- stripe below `high` has a source.
pub rebuilds_allowed : (next : ℕ) (s : State) (f : File) (k : ℕ) → f.kept.phase ≡ Still → (f.job ≡ None → ⊥)
    → f.kept.grants ≡ [] → s.lost k ≡ true → HasLayout s f.kept → Safe s → IsWholeAt s
    → ((z : ℕ) → stripe_at f.kept.map (position_in f.kept.map k) z < f.kept.high
    → (out : List ℕ) × HasSource f.kept.map s.gone out k z)
    → IsKeptAt next s f → Allowed s (Rebuilds k (cells_made s f.kept.map f.kept.high k))
unfolding cells_made
rebuilds_allowed next s f k still busy alone lost lay safe whole source h =
    let st : IsStill s f = subst (PhaseIs s f) still h.phase in
    let none : (c : ℕ) → s.outstanding c ≡ None = none_outstanding s f st alone in
    record {
      gone = lost;
      over = st.fencing;
      repaired = st.repairing;
      unused = st.unused busy;
      none = none;
      right = λ z cell. right st none z cell;
    }
  where
    not_low : (a b : ℕ) → b ≤ a → nat_lt a b ≡ false
    not_low a b le = false_from_ne_true (nat_lt a b) (λ e. let l = nat_less a b e in absurd (omega (arith, l, le)))

    right : (st : IsStill s f) → ((c : ℕ) → s.outstanding c ≡ None) → (z : ℕ) → s.layout.is_cell k z ≡ true
        → ((d : ℕ → ℕ) → AreBytes d → Stood s (s.layout.cell_col k z) d
        → cells_made s f.kept.map f.kept.high k z ≡ s.layout.word k z d)
        ⊎ (Untouched s (s.layout.cell_col k z) × (cells_made s f.kept.map f.kept.high k z ≡ 0))
    right st none z cell =
        let m : RawMap = f.kept.map in
        let high : ℕ = f.kept.high in
        let stripe : ℕ = stripe_at m (position_in m k) z in
        let here : nat_lt k m.comps ≡ true = rw lay.layout at cell in
        let below : k < m.comps = nat_less k m.comps here in
        elim (cases_lt stripe high) [
          | inl low ↦
              let src = source z low in
              inl (λ d bytes stood.
              rw (lt-ltb stripe high low)
              (rebuilds_are_known m lay.tag s src.0 k z (byte_before s s.count) d lay.checked lay.layout below src.1
              whole.bytes bytes
              (whole.settled (s.layout.cell_col k z)
              (λ j u t. unsettled_none s j st.repairing safe.open_granted none u)) stood))
          | inr above ↦
              let column : s.layout.cell_col k z ≡ column_of_cell m k z =
              ap (λ (y : machine.Layout). y.cell_col k z) lay.layout in
              let is : stripe_of_column m (s.layout.cell_col k z) ≡ stripe =
              ap (stripe_of_column m) column ∙ (columns_have_stripes m lay.checked).1 k z in
              inr (
                λ j l w.
                    false_from_ne_true ((s.start j).touch (s.layout.cell_col k z))
                    (λ t. let b = h.low.writes j (s.layout.cell_col k z) w t in absurd (omega (arith, b, is, above))),
                rw (not_low stripe high above) refl,
              )
        ]
