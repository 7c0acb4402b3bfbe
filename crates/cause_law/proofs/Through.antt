-- What is said between clients and the server is readable, up to the end of a history.
use Rattle.std.proofs.Common.{subst}
use Rattle.exchange_law.specs.Text.{AreOfText, AreFew}
use Rattle.exchange_law.proofs.CountGrowing.{fewer, text_front}
use Rattle.cause_law.specs.Reports.{ReportsAreAlwaysShort}
use Rattle.cause_law.specs.Readable.{FilesAreFit, KeptAnswersFit, ShortRequestsFit, FilesAndAnswersAreReadable}

pub all_readable : FilesAreFit → KeptAnswersFit → ShortRequestsFit → ReportsAreAlwaysShort
    → FilesAndAnswersAreReadable
all_readable files answers requests short h lawful text few w g rest m is =
    let here : AreOfText g = text_front g rest (subst AreOfText is text) in
    let some : AreFew g = fewer g rest (subst AreFew is few) in
    record {
      files = files w g m here some;
      answers = answers w g m here some;
      requests = λ c r out. requests w g m here c r out (short w g m c r out);
    }
