use Rattle.std.proofs.Common.{◌∙◌, sym, ap}
use Rattle.osd_capability.specs.Keys.{key_of}
use Rattle.server_rules.specs.Commands.{key_at, key_in}
use Rattle.server_requests.proofs.KeyLaws.{zeros_as_none}
use Rattle.server_requests.proofs.seals.key_of_drive.Goals as goal

pub returns-in-None : goal.returns-in-None
unfolding key_at
returns-in-None c = λ x. zeros_as_none x ∙ ap (λ o. key_of (key_in o) x) (sym c.in-None.is ∙ c.drive_at.ensures)
