use Rattle.name_law.proofs.ServerMoments.{texts_are_named}
use Rattle.name_law.proofs.laws.texts_are_named.Goals as goal

pub returns : goal.returns
returns c = texts_are_named
