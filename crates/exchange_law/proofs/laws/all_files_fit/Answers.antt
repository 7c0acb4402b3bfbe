use Rattle.exchange_law.proofs.CountWorlds.{all_files_fit}
use Rattle.exchange_law.proofs.laws.all_files_fit.Goals as goal

pub returns : goal.returns
returns c = all_files_fit
