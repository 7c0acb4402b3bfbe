-- What is known of the links of a client.
use Rattle.std.specs.Prelude.{Option}
use Rattle.osd_bytes.specs.Connections.{Traffic}
use Rattle.osd_bytes.specs.Counts.{Faults}
use Rattle.osd_bytes.specs.declared.links.Links.{Ghosts as LinksGhosts}

-- what came and went, and the counts of the calls that failed
pub record OnLinks : Type 0 where
  pub told : Option Traffic
  pub faults : Faults

abbrev pub on_links : Option Traffic → Faults → OnLinks
on_links told faults = record { told = told; faults = faults }

abbrev pub links_at : {A : Type 0} → LinksGhosts A → (links : A) → OnLinks
links_at l links = on_links (l.told links) (l.faults links)
