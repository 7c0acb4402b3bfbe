-- Reads: what a read asks of the drives, and how it ends.
use Rattle.std.specs.Prelude.{ℕ, zero, suc, Bool, false, List, [], ◌∷◌, ◌++◌, Option, Some, None, ◌+◌, ◌*◌, ◌/◌, nat_lt, length, is_some, if◌then◌else◌}
use Rattle.std.specs.List.{range_with_len}
use Rattle.data_map.specs.Striping.{replicas, positions, group_width, parities}
use Rattle.stripe_plan.specs.declared.plan.Aim.TheVariants.{Reads as ToRead}
use Rattle.stripe_plan.specs.Touched.{stripes}
use Rattle.stripe_plan.specs.Lost.{among, source, is_out, positions_out, unreadable}
use Rattle.stripe_plan.specs.Asks.{asks}
use Rattle.stripe_plan.specs.Words.{answered}
use Rattle.client_rules.specs.State.{Held, Listed, Awaited, TimedOut, ReadOk, Lost, Reads, Probes, Goes, Ends, Moved, Span, Ask, Column, RawMap}
use Rattle.client_rules.specs.Turns.{ended}
use Rattle.client_rules.specs.Io.{outs, had, had_positions}
use Rattle.client_rules.specs.Commands.{credential_of, read_commands, counted}

-- ---- a range with bytes

-- it goes on while a reply is awaited; then its bytes are put together
unfoldable pub reads_on : Held → Span → List Column → List TimedOut → (sent awaited : List Awaited) → Moved
reads_on h r got timed sent [] = record {
  held = counted h sent;
  turn = Ends (ReadOk (answered h.map r got (outs h timed)));
  sent = sent;
}
reads_on h r got timed sent (a ∷ xs) = record {
  held = counted h sent;
  turn = Goes (Reads (record { awaited = a ∷ xs; got = got; timed = timed }));
  sent = sent;
}

-- what the plan asks and isn't had
abbrev pub reads_due : Held → Span → List Column → List TimedOut → List Awaited → List Ask
reads_due h r got timed awaited = asks ToRead h.map r (outs h timed) (had got awaited) (stripes h.map r)

-- these are sent
abbrev pub reads_sent : Held → Span → List Column → List TimedOut → List Awaited → List Ask → Moved
reads_sent h r got timed awaited due = reads_on h r got timed (read_commands h due) (awaited ++ read_commands h due)

-- what is due is sent, unless a stripe lacks too much
abbrev pub reads_unless : Held → Span → List Column → List TimedOut → List Awaited → Option (List ℕ) → Moved
reads_unless h r got timed awaited (Some ps) = ended h (Lost ps)
reads_unless h r got timed awaited None = reads_sent h r got timed awaited (reads_due h r got timed awaited)

-- at its begin, and where a component timed out
unfoldable pub reads : Held → Span → List Column → List TimedOut → List Awaited → Moved
reads h r got timed awaited = reads_unless h r got timed awaited (unreadable h.map r (outs h timed) (stripes h.map r))

-- ---- a range without bytes

-- the first component that isn't missing, from number k on
unfoldable pub first_present : List Listed → (k : ℕ) → Option ℕ
first_present [] k = None
first_present (l ∷ ls) k = if is_some l.credential then Some k else first_present ls (k + 1)

-- a READ of no byte, where the range of the component's capability begins
abbrev pub probe_of : Held → (p : ℕ) → Option ℕ → List Ask
probe_of h p None = []
probe_of h p (Some k) = record {
  stripe = 0;
  position = p;
  component = k;
  offset = (credential_of h k).capability.range_start;
  length = 0;
} ∷ []

-- to n positions from p on, but for those that are had
unfoldable pub probe_each : Held → (out have : List ℕ) → (p n : ℕ) → List Ask
probe_each h out have p zero = []
probe_each h out have p (suc n) =
    (if among p have then [] else probe_of h p (source h.map out p)) ++ probe_each h out have (p + 1) n

-- it goes on while a reply is awaited
unfoldable pub probes_on : Held → List Column → List TimedOut → (sent awaited : List Awaited) → Moved
probes_on h got timed sent [] = record { held = counted h sent; turn = Ends (ReadOk []); sent = sent }
probes_on h got timed sent (a ∷ xs) = record {
  held = counted h sent;
  turn = Goes (Probes (record { awaited = a ∷ xs; got = got; timed = timed }));
  sent = sent;
}

-- position p is asked, or where it is out each other position of its group
unfoldable pub probes_due : Held → (out have : List ℕ) → (p : ℕ) → List Ask
probes_due h out have p =
    if is_out h.map out p then probe_each h out have (p / group_width h.map * group_width h.map) (group_width h.map)
    else probe_each h out have p 1

-- these are sent
abbrev pub probes_asked : Held → List Column → List TimedOut → List Awaited → List Ask → Moved
probes_asked h got timed awaited due = probes_on h got timed (read_commands h due) (awaited ++ read_commands h due)

-- what is due is sent
abbrev pub probes_sent : Held → List Column → List TimedOut → List Awaited → (p : ℕ) → Moved
probes_sent h got timed awaited p =
    probes_asked h got timed awaited (probes_due h (outs h timed) (had_positions got awaited) p)

-- position p is out, and with it more of its group than there is parity
unfoldable pub is_probe_lost : RawMap → (out : List ℕ) → (p : ℕ) → Bool
is_probe_lost m out p =
    if is_out m out p then nat_lt (parities m) (length (positions_out m out (p / group_width m))) else false

-- the position of the first present component is meant
abbrev pub probes_at : Held → List Column → List TimedOut → List Awaited → (p : ℕ) → Moved
probes_at h got timed awaited p =
    if is_probe_lost h.map (outs h timed) p
    then ended h (Lost (positions_out h.map (outs h timed) (p / group_width h.map)))
    else probes_sent h got timed awaited p

-- where no component is present, every position is lost
abbrev pub probes_by : Held → List Column → List TimedOut → List Awaited → Option ℕ → Moved
probes_by h got timed awaited None = ended h (Lost (range_with_len 0 (positions h.map)))
probes_by h got timed awaited (Some k) = probes_at h got timed awaited (k / replicas h.map)

-- at its begin, and where a component timed out
unfoldable pub probes : Held → List Column → List TimedOut → List Awaited → Moved
probes h got timed awaited = probes_by h got timed awaited (first_present h.components 0)
