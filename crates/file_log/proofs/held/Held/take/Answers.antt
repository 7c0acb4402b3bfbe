use Rattle.std.proofs.lemmas.Result.{on_ok_weaker}
use Rattle.file_log.proofs.held.Held.take.Goals as goal

pub returns : goal.returns
returns c = rw (← c.self.view_is)
    (on_ok_weaker c.next_values.result (λ h. record { values = h; sizes = c.in_ok-next_sizes.ensures }) c.next_values.ensures)
