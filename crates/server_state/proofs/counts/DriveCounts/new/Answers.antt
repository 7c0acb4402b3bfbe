use Rattle.std.proofs.Common.{ℕ}
use Rattle.std.proofs.lemmas.List.{get_or-replicate}
use Rattle.server_state.proofs.counts.DriveCounts.new.Goals as goal

pub returns : goal.returns
returns c = λ d l. get_or-replicate {A = ℕ} 64 d 0 0 l
