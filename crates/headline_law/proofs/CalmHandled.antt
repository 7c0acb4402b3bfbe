-- Where a note may end calm, the machine behind it is calm if the moment is: what tore a column before the step is left.
use Rattle.std.proofs.Common.{◌≡◌, ℕ, true, false, List, slice_get, Some, sym, ap, subst, ◌∙◌}
use Rattle.data_map.specs.declared.check.RawMap.{RawMap}
use Rattle.data_map.specs.Check.{IsChecked}
use Rattle.server_rules.specs.Files.{file_at}
use Rattle.world_history.specs.ServerNames.{File, Grant, Note}
use Rattle.world_history.specs.ReadLog.{Logged, Log}
use Rattle.world_history.specs.Stripes.{Moment, is_unfinished}
use Rattle.fence_law.specs.Columns.{Disturbed}
use Rattle.fence_law.specs.State.{State}
use Rattle.plan_law.specs.FileLayout.{layout_of}
use Rattle.file_simulation.specs.Showing.{Pairs, IsPair}
use Rattle.headline_law.specs.Ending.{AreHarmless}
use Rattle.headline_law.proofs.CalmEvents.{disturbs, calm_unrepairing}
use Rattle.headline_law.proofs.CalmLeft.{NoneHas, left_then}
use Rattle.headline_law.proofs.CalmStripes.{calm_there}
use Rattle.headline_law.proofs.CalmSteps.{Handles}

module _ (s : State) (m : Moment) (f : File) (grants : List Grant) (pairs : Pairs) (all : List Note) where
  -- no note may end calm
  pub handles_none : AreHarmless f.kept.number all → Handles s m f grants pairs all
  handles_none harmless x there same danger u o sure h calm = absurd (harmless x there same danger)

  -- no fence begins, and no repair runs
  pub handles_quiet : s.fencing ≡ false → s.repairing ≡ false → Handles s m f grants pairs all
  handles_quiet fencing repairing x there same danger u o sure h calm =
      calm_unrepairing u sure (h.rests fencing repairing).1

  -- each entry that disturbs a column is unfinished, and has a grant that isn't live
  abbrev pub AllOver : Type 0
  AllOver =
      (x i : ℕ) (d : Disturbed s x) → IsPair pairs i d.0 →
      (e : Logged) × (slice_get m.log.entries i ≡ Some e) × (is_unfinished e ≡ true) × NoneHas grants e.grant

  pub handles_over : IsChecked f.kept.map → AllOver → Handles s m f grants pairs all
  handles_over checked over x there same danger u o sure h calm =
      calm_there f.kept.first_tag u o h.file pairs (subst IsChecked (sym h.map) checked)
      (h.layout ∙ ap (λ (r : RawMap). layout_of r f.kept.first_tag) (sym h.map))
      (record {
        there = ap (λ (n : ℕ). file_at o.server.files n) h.number ∙ h.there;
        long = h.long ∙ sym (ap (λ (r : RawMap). r.comps) h.map);
        lost = h.lost;
        marks = h.marks;
      })
      (λ q i t coded pair.
      let c = h.came q (disturbs u q t) in
      let v = over q i c.0 (subst (λ (j : ℕ). IsPair pairs i j) (sym c.1) pair) in
      record {
        entry = v.0;
        found = ap (λ (l : Log). slice_get l.entries i) h.beside.log ∙ v.1;
        unfinished = v.2;
        left = left_then o h.file v.0 (subst (λ (gs : List Grant). NoneHas gs v.0.grant) (sym h.granted) v.3);
      }) calm
