-- The events of an input of the server that answers no request can happen, if what is lost is lost in the machine.
-- Towards `KeptGoesOn` (`specs/Steps.antt`).
use Rattle.std.proofs.Common.{◌==◌, ℕ, Bool, true, false, List}
use Rattle.server_rules.specs.History.{Input, Hears, Makes, Obeys, Adds, Zones, Formats, Resends, Crashes, Opens}
use Rattle.world_history.specs.ServerNames.{File, ToRecall, ToRevoke, ToDeclare, ToRebuild, ToAudit}
use Rattle.fence_law.specs.State.{State, Event}
use Rattle.fence_law.specs.Machine.{Lawful}
use Rattle.file_simulation.specs.EventLists.{where_so}
use Rattle.file_simulation.specs.ServerEvents.{fences}
use Rattle.relation_law.specs.KeptSteps.{IsKeptAt, first_of}
use Rattle.relation_law.proofs.KeptSupplies.{fences_lawful, AreLostOn, declared_lawful}

-- ---- the first line

-- where a drive is declared, each component on it is lost
abbrev pub DeclaredAreLost : State → File → Input → Type 0
DeclaredAreLost s f (Obeys ToDeclare d) = AreLostOn s d f.kept.components 0
DeclaredAreLost s f i = Unit {0}

where_lawful : (s : State) (b : Bool) (es : List Event) → Lawful s es → Lawful s (where_so b es)
where_lawful s true es l = l
where_lawful s false es l = tt

pub first_lawful : (next : ℕ) (s : State) (f g : File) (i : Input) → DeclaredAreLost s f i → IsKeptAt next s f
    → Lawful s (first_of f g i)
first_lawful next s f g (Obeys ToDeclare d) lost h = declared_lawful s d f.kept.components 0 lost
first_lawful next s f g (Obeys ToRecall n) lost h = tt
first_lawful next s f g (Obeys ToRevoke n) lost h =
    where_lawful s (n == f.kept.number) (fences f g) (fences_lawful next s f g h)
first_lawful next s f g (Obeys ToRebuild n) lost h =
    where_lawful s (n == f.kept.number) (fences f g) (fences_lawful next s f g h)
first_lawful next s f g (Obeys ToAudit n) lost h =
    where_lawful s (n == f.kept.number) (fences f g) (fences_lawful next s f g h)
first_lawful next s f g Opens lost h = fences_lawful next s f g h
first_lawful next s f g (Hears now from m) lost h = tt
first_lawful next s f g (Makes n m tag zoned) lost h = tt
first_lawful next s f g (Adds d) lost h = tt
first_lawful next s f g (Zones d zone) lost h = tt
first_lawful next s f g (Formats n) lost h = tt
first_lawful next s f g Resends lost h = tt
first_lawful next s f g Crashes lost h = tt
