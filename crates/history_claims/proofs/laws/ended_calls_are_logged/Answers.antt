use Rattle.headline_law.proofs.Histories.{known, moved}
use Rattle.headline_law.proofs.ReadsWell.{reads_await_reads}
use Rattle.headline_law.specs.Histories.{HistoriesAreLawful}
use Rattle.history_claims.proofs.PlainWhole.{logged}
use Rattle.history_claims.proofs.PlainWrites.{scatters_await_writes}
use Rattle.history_claims.proofs.laws.ended_calls_are_logged.Goals as goal

pub returns : goal.returns
returns c =
    let l : HistoriesAreLawful = c.histories_are_lawful.ensures in
    logged (record {
      known = known l;
      pending = l.calls_of_text_are_pending;
      reads = reads_await_reads (moved l);
      writes = scatters_await_writes (moved l);
    })
