use Rattle.std.proofs.Common.{refl}
use Rattle.calm_law.proofs.Logging.{lines_alike}
use Rattle.calm_law.proofs.Taking.{taken_alike}
use Rattle.calm_law.proofs.laws.log_is_kept.Goals as goal

pub returns : goal.returns
returns c = record {
  first = record {
    pending = refl;
    entries = refl;
    sent_for = refl;
    keys = record { kinds = tt; grants = tt; under = λ n k e t. absurd (cc e) };
    below = tt;
  };
  lines = lines_alike;
  taken = taken_alike;
}
