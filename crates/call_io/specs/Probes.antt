-- A probe of one position.
use Rattle.std.specs.Prelude.{ℕ, List, [], if◌then◌else◌}
use Rattle.stripe_plan.specs.Lost.{among, source}
use Rattle.call_io.specs.State.{Held, Ask}
use Rattle.client_rules.specs.Reads.{probe_of}

-- unless it is had
abbrev pub probe_unless : Held → (out have : List ℕ) → (p : ℕ) → List Ask
probe_unless h out have p = if among p have then [] else probe_of h p (source h.map out p)
