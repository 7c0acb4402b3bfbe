-- What is known of the ends of a command: its input and its output, and its links and its clock.
--
-- A definition that ends in `_at` takes the ghost members of each end's trait, as `S.Source`, and then the ends.
use Rattle.std.specs.Prelude.{ℕ, List, Option}
use Rattle.osd_bytes.specs.declared.clock.Clock.{Ghosts as ClockGhosts}
use Rattle.osd_bytes.specs.declared.links.Links.{Ghosts as LinksGhosts}
use Rattle.osd_bytes.specs.declared.sink.Sink.{Ghosts as SinkGhosts}
use Rattle.osd_bytes.specs.declared.source.Source.{Ghosts as SourceGhosts}
use Rattle.osd_bytes.specs.Asking.{Ends, ends_of}

-- the bytes that the source has left and that the sink has taken, where they tell them, and the counts of their faults
pub record Streams : Type 0 where
  pub left : Option (List ℕ)
  pub reads_failed : ℕ
  pub taken : Option (List ℕ)
  pub writes_failed : ℕ

abbrev pub streams : Option (List ℕ) → ℕ → Option (List ℕ) → ℕ → Streams
streams left reads_failed taken writes_failed =
    record { left = left; reads_failed = reads_failed; taken = taken; writes_failed = writes_failed }

abbrev pub streams_at : {A B : Type 0} → SourceGhosts A → SinkGhosts B → (source : A) → (sink : B) → Streams
streams_at s k source sink = streams (s.left source) (s.faults source) (k.taken sink) (k.faults sink)

-- what is known of links and a clock
abbrev pub network_at : {A B : Type 0} → LinksGhosts A → ClockGhosts B → (links : A) → (clock : B) → Ends
network_at l c links clock = ends_of (l.told links) (l.faults links) (c.times clock)
