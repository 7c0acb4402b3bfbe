use Rattle.cause_law.proofs.Through.{all_readable}
use Rattle.cause_law.proofs.ending_laws.files_and_answers_are_readable.Goals as goal

pub returns : goal.returns
returns c =
    all_readable c.files_are_fit.ensures c.kept_answers_fit.ensures c.short_requests_fit.ensures
    c.reports_are_always_short.ensures
