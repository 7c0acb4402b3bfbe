use Rattle.std.proofs.Common.{◌∙◌, ap, subst, sym}
use Rattle.osd_disk.specs.Medium.{Medium, bytes_of, fresh}
use Rattle.world_parties.specs.declared.backing.Backing.{Backing}
use Rattle.world_parties.specs.Backing.{Stands}
use Rattle.world_parties.proofs.Backings.{left}
use Rattle.world_parties.proofs.backing.left_by_crash.Goals as goal

pub returns-else-is_over : goal.returns-else-is_over
returns-else-is_over c =
    rw c.in-Stored.is (left c.args.made c.in-Stored.store c.crash.result
    (subst (λ (b : Backing). Stands c.args.made b) c.in-Stored.is c.requires)
    (sym c.is_over.ensures ∙ c.if-is_over.false)
    (c.crash.ensures ∙ ap (λ (m : Medium). fresh (bytes_of m)) c.into_disk.ensures))
