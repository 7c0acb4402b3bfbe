use Rattle.file_jobs.proofs.Zoned.{picked_taker}
use Rattle.file_jobs.proofs.places.pick_in_zones.Goals as goal

pub returns-clause-exact : goal.returns-clause-exact
returns-clause-exact c =
    rw (
      c.zone_ask-ask.ensures.exact,
      c.as_slice-2.ensures,
      c.as_slice-3.ensures,
      c.in_ok-holders.ensures,
      c.in_ok-zones.ensures.value,
      c.as_slice.ensures,
    ) at c.pick.ensures

pub returns-clause-among : goal.returns-clause-among
returns-clause-among c = λ ds e. rw (returns-clause-exact c) (picked_taker c.args.kept.now c.args.component c.args.loads.now ds e)
