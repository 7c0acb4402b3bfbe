use Rattle.component_law.proofs.Others.{server_writes_to_others}
use Rattle.component_law.proofs.file_laws.server_writes_to_others.Goals as goal

pub returns : goal.returns
returns c = server_writes_to_others
