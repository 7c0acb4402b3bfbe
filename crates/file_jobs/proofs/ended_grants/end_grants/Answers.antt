use Rattle.std.specs.Prelude.{refl}
use Rattle.file_jobs.proofs.Rising.{all_inside}
use Rattle.file_jobs.proofs.ended_grants.end_grants.Goals as goal

pub returns-clause-keeps : goal.returns-clause-keeps
returns-clause-keeps c = record {
  number = refl;
  grants = λ e. c.new.ensures;
  sound = λ s. record {
    few = s.few;
    whole = s.whole;
    high = s.high;
    live = rw c.new.ensures tt;
    ended = rw (c.in_ok-extend_from_slice.ensures.ok, c.as_slice.ensures)
        (all_inside c.args.kept.now.ended c.args.kept.now.grants s.ended s.live);
  };
}
