-- The four counts of faults of links.
use Rattle.std.specs.Prelude.{◌≡◌, ℕ, ◌≤◌, Option, Some, Result, OnOk, OnErr}
use Rattle.osd_bytes.specs.Causes.{Rose}
use Rattle.osd_lists.specs.declared.node.Node.{Node}
use Rattle.osd_lists.specs.declared.node.Node.TheVariants.{Server}

-- those of settle and accept, of the accepted connection, of asking the server, and of asking any other node or none
pub record Faults : Type 0 where
  pub listening : ℕ
  pub accepted : ℕ
  pub server : ℕ
  pub others : ℕ

-- no count fell
pub record NoFewer (before now : Faults) : Type 0 where
  pub listening : before.listening ≤ now.listening
  pub accepted : before.accepted ≤ now.accepted
  pub server : before.server ≤ now.server
  pub others : before.others ≤ now.others

-- the count of the calls that ask a node
abbrev pub asking_count : Option Node → Faults → ℕ
asking_count (Some Server) faults = faults.server
asking_count asked faults = faults.others

-- a fault is told only where that count rose, and an answer leaves all four
pub record HasLinkCause {T E : Type 0} (count : Faults → ℕ) (before now : Faults) (result : Result T E) : Type 0 where
  pub later : NoFewer before now
  pub failed : OnErr result (Rose (count before) (count now))
  pub same : OnOk result (now ≡ before)
