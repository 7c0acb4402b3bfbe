use Rattle.std.specs.Prelude.{count_by, refl}
use Rattle.std.proofs.Common.{arith, ap, sym, ◌∙◌}
use Rattle.stripe_repair.specs.declared.loads.DriveLoad.{DriveLoad}
use Rattle.file_jobs.proofs.Placed.{none_free, can_place, picked_free}
use Rattle.file_jobs.proofs.places.pick_free.Goals as goal

pub returns-then-online_count-eq0 : goal.returns-then-online_count-eq0
returns-then-online_count-eq0 g c = λ ds e. none_free c.args.components.now c.args.loads.now ds e
    (ap (count_by (λ (l : DriveLoad). l.online)) (sym (c.as_slice.ensures ∙ c.in_ok-free.ensures.value))
    ∙ sym c.online_count.ensures ∙ c.if-online_count-eq0.true)

pub place-requires-clause-asked : goal.place-requires-clause-asked
place-requires-clause-asked g c =
    let v = c.as_slice-2.ensures ∙ c.in_ok-free.ensures.value in
    let n = ap (count_by (λ (l : DriveLoad). l.online)) (sym (c.as_slice.ensures ∙ c.in_ok-free.ensures.value))
    ∙ sym c.online_count.ensures in
    rw v (can_place c.args.components.now c.args.loads.now c.requires.few
    (rw c.in_ok-free.ensures.value at c.in_ok-free.ensures.fits) c.requires.different
    (omega (arith, n, c.if-online_count-eq0.false)))

pub returns : goal.returns
returns g c =
    λ ds e. picked_free c.args.components.now c.args.loads.now ds c.in_ok-chosen.chosen _ e
    ((rw (c.as_slice-2.ensures ∙ c.in_ok-free.ensures.value) at c.in_ok-chosen.ensures) _ refl) c.get-drive.ensures
