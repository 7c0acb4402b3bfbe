use Rattle.std.proofs.Common.{true≢false, refl, sym}
use Rattle.calm_law.proofs.CalmShowing.{first_alike}
use Rattle.calm_law.proofs.CalmFollowing.{follows_on}
use Rattle.calm_law.proofs.CalmOpening.{follows_events}
use Rattle.calm_law.proofs.laws.calm_is_followed.Goals as goal

pub returns-clause-first : goal.returns-clause-first
returns-clause-first c = record {
  server = refl;
  files = first_alike;
  stopped = λ d. refl;
  log = record {
    pending = refl;
    entries = refl;
    sent_for = refl;
    keys = record { kinds = tt; grants = tt; under = λ n k e t. absurd (cc e) };
    below = tt;
  };
  marks = record { same = λ f s n p o. refl; known = λ f s n e. absurd (true≢false (sym e)); real = tt };
  left = λ kept k. tt;
  calm = refl;
  quiet = λ e. refl;
}

pub returns-clause-on : goal.returns-clause-on
returns-clause-on c = follows_on

pub returns-clause-events : goal.returns-clause-events
returns-clause-events c = follows_events
