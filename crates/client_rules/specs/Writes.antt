-- Writes: the gather, the scatter, and what follows the last WRITE.
use Rattle.std.specs.Prelude.{ℕ, Bool, not, List, [], ◌∷◌, ◌++◌, ◌+◌, ◌==◌, nat_lt, filter, is_some, if◌then◌else◌}
use Rattle.data_map.specs.Striping.{parities}
use Rattle.stripe_plan.specs.declared.plan.Aim.TheVariants.{Gathers as ToGather}
use Rattle.stripe_plan.specs.Touched.{stripes}
use Rattle.stripe_plan.specs.Lost.{among, unwritable}
use Rattle.stripe_plan.specs.Asks.{asks}
use Rattle.stripe_plan.specs.Plans.{stores}
use Rattle.client_rules.specs.State.{CallOp, Held, Awaited, TimedOut, WriteOk, Commit, Report, Gathers, Scatters, Turn, Goes, Ends, Moved, Span, Ask, Column, Store}
use Rattle.client_rules.specs.Turns.{needing}
use Rattle.client_rules.specs.Calls.{span_of, bytes_of}
use Rattle.client_rules.specs.Io.{outs, had}
use Rattle.client_rules.specs.Commands.{read_commands, write_commands, counted}

-- ---- after the last WRITE

-- the components that timed out are reported; with none the write is over
abbrev pub accounted : CallOp → List TimedOut → Turn
accounted op [] = Ends (WriteOk (span_of op).length)
accounted op (t ∷ ts) = needing (Report (t ∷ ts))

-- the file ends before the call's range does
abbrev pub is_past_size : Held → CallOp → Bool
is_past_size h op = nat_lt h.size ((span_of op).offset + (span_of op).length)

-- a write past the size is committed first
unfoldable pub written : Held → CallOp → List TimedOut → Turn
written h op timed = if is_past_size h op then needing (Commit timed) else accounted op timed

-- ---- the scatter

-- the first write to each component, but for those seen
unfoldable pub firsts : (seen : List ℕ) → List Store → List Store
firsts seen [] = []
firsts seen (w ∷ ws) = if among w.ask.component seen then firsts seen ws else w ∷ firsts (w.ask.component ∷ seen) ws

-- the others
unfoldable pub laters : (seen : List ℕ) → List Store → List Store
laters seen [] = []
laters seen (w ∷ ws) = if among w.ask.component seen then w ∷ laters seen ws else laters (w.ask.component ∷ seen) ws

-- it goes on while a reply is awaited
unfoldable pub scatters_on : Held → CallOp → List TimedOut → (queue : List Store) → (sent awaited : List Awaited) →
    Moved
scatters_on h op timed queue sent [] = record { held = counted h sent; turn = written h op timed; sent = sent }
scatters_on h op timed queue sent (a ∷ xs) = record {
  held = counted h sent;
  turn = Goes (Scatters (record { awaited = a ∷ xs; got = []; timed = timed }) queue);
  sent = sent;
}

-- each component is sent its first of these writes
abbrev pub scatters_all : Held → CallOp → List TimedOut → List Store → Moved
scatters_all h op timed all =
    scatters_on h op timed (laters [] all) (write_commands h (firsts [] all)) (write_commands h (firsts [] all))

-- at its begin
unfoldable pub scatters : Held → CallOp → List Column → List TimedOut → Moved
scatters h op got timed = scatters_all h op timed (stores h.map (span_of op) (bytes_of op) got (outs h timed))

-- the next write to component k
unfoldable pub next_to : (k : ℕ) → List Store → List Store
next_to k [] = []
next_to k (w ∷ ws) = if w.ask.component == k then w ∷ [] else next_to k ws

-- the queue without it
unfoldable pub without_next : (k : ℕ) → List Store → List Store
without_next k [] = []
without_next k (w ∷ ws) = if w.ask.component == k then ws else w ∷ without_next k ws

-- component k answered, and is sent its next write
unfoldable pub scatters_next : Held → CallOp → List TimedOut → (queue : List Store) → (k : ℕ) →
    (awaited : List Awaited) → Moved
scatters_next h op timed queue k awaited =
    scatters_on h op timed (without_next k queue) (write_commands h (next_to k queue))
    (awaited ++ write_commands h (next_to k queue))

-- the queue without any write to component k
unfoldable pub without_component : (k : ℕ) → List Store → List Store
without_component k ws = filter (λ (w : Store). not (w.ask.component == k)) ws

-- ---- the gather

-- it goes on while a reply is awaited, and then scatters
unfoldable pub gathers_on : Held → CallOp → List Column → List TimedOut → (sent awaited : List Awaited) → Moved
gathers_on h op got timed sent [] = scatters h op got timed
gathers_on h op got timed sent (a ∷ xs) = record {
  held = counted h sent;
  turn = Goes (Gathers (record { awaited = a ∷ xs; got = got; timed = timed }));
  sent = sent;
}

-- what the plan asks and isn't had; without parity it asks nothing
unfoldable pub gathers_due : Held → Span → List Column → List TimedOut → List Awaited → List Ask
gathers_due h r got timed awaited =
    if parities h.map == 0 then []
    else asks ToGather h.map r (outs h timed) (had got awaited) (stripes h.map r)

-- these are sent
abbrev pub gathers_sent : Held → CallOp → List Column → List TimedOut → List Awaited → List Ask → Moved
gathers_sent h op got timed awaited due =
    gathers_on h op got timed (read_commands h due) (awaited ++ read_commands h due)

-- at its begin, and where a component timed out
unfoldable pub gathers : Held → CallOp → List Column → List TimedOut → List Awaited → Moved
gathers h op got timed awaited = gathers_sent h op got timed awaited (gathers_due h (span_of op) got timed awaited)

-- ---- what can't be written

-- a touched stripe lacks more positions than its parity brings back
unfoldable pub is_too_short : Held → CallOp → List TimedOut → Bool
is_too_short h op timed = is_some (unwritable h.map (outs h timed) (stripes h.map (span_of op)))

-- the lowest component that timed out
abbrev pub lowest : List TimedOut → ℕ
lowest [] = 0
lowest (t ∷ ts) = t.ask.component
