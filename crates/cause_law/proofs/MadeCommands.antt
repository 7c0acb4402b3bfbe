-- What a call awaits of drives are commands that were made under its grant, each for no more bytes than the call's range has,
-- and with as many as it says.
use Rattle.std.proofs.Common.{◌≡◌, ◌≤◌, ◌==◌, ℕ, zero, suc, ◌+◌, ◌-◌, Bool, true, false, min, List, [], ◌∷◌, ◌++◌, map, Option, Some, None, length, refl, arith, if◌then◌else◌}
use Rattle.std.specs.List.{AllByRecursion}
use Rattle.std.proofs.lemmas.List.FromFn.{length-map-range_with_len}
use Rattle.layout_ops.specs.declared.messages.Answer.{Answer}
use Rattle.layout_ops.specs.declared.statuses.TheConstants.{NFS4_OK}
use Rattle.data_map.specs.Check.{IsChecked}
use Rattle.data_map.specs.Striping.{parities}
use Rattle.stripe_plan.specs.declared.plan.Aim.TheVariants as aim
use Rattle.stripe_plan.specs.Asks.{asks}
use Rattle.stripe_plan.specs.Lost.{among}
use Rattle.stripe_plan.specs.Plans.{filled, stores}
use Rattle.stripe_plan.specs.Plans as plans
use Rattle.stripe_plan.specs.Touched.{stripes}
use Rattle.stripe_plan.specs.Words.{byte_at}
use Rattle.client_rules.specs.declared.limits.TheConstants.{PERFORMED, OTHER_TAG}
use Rattle.client_rules.specs.Answers.{committed, not_committed, on_commit}
use Rattle.client_rules.specs.Calls.{span_of, bytes_of}
use Rattle.client_rules.specs.Commands.{awaited_for, numbered, carrying_none, read_commands, write_commands, others, not_of}
use Rattle.client_rules.specs.Going.{begins}
use Rattle.client_rules.specs.Grants.{clipped}
use Rattle.client_rules.specs.Io.{had, had_positions, outs, awaited_in}
use Rattle.client_rules.specs.Reads.{reads_on, reads_unless, reads, probe_of, probe_each, probes_on, probes_due, probes_by, probes}
use Rattle.client_rules.specs.Replies.{refused, performed, replied, gather_timed, scatter_timed, timed_out}
use Rattle.client_rules.specs.Results.{status_of}
use Rattle.client_rules.specs.Turns.{turned, needing}
use Rattle.client_rules.specs.Writes.{accounted, is_past_size, written, scatters_on, scatters, scatters_next, gathers_on, gathers_due, gathers}
use Rattle.world_history.specs.ClientNames.{CallOp, Held, Awaited, TimedOut, Commit, Io, Phase, Starts, Needs, Waits, Reads, Probes, Gathers, Scatters, Turn, Goes, Ends, Forgets, Moved, Reply, Span, Ask, Column, Store}
use Rattle.exchange_law.proofs.Parts.{each_more, each_filtered}
use Rattle.exchange_law.proofs.PlaceLists.{all_wider, all_map, either_all}
use Rattle.exchange_law.proofs.PlaceSending.{firsts_fit, laters_fit, next_fit, queue_fit, without_fit}
use Rattle.cause_law.proofs.ShortAsks.{AsksShort, asks_short}

-- ---- commands

-- it carries as many bytes as it says; a READ carries none
abbrev pub Carries : (write : Bool) → Store → Type 0
Carries write w = length w.bytes ≡ (if write then w.ask.length else 0)

-- and says at most n
abbrev pub CarriesFew : (n : ℕ) → (write : Bool) → Store → Type 0
CarriesFew n write w = Carries write w × (w.ask.length ≤ n)

-- a command that was made under the grant, for at most n bytes
pub record IsMade (h : Held) (n : ℕ) (x : Awaited) : Type 0 where
  pub write : Bool
  pub store : Store
  pub nonce : ℕ
  pub is : x ≡ awaited_for h write store nonce
  pub carries : CarriesFew n write store

abbrev pub AreMade : Held → (n : ℕ) → List Awaited → Type 0
AreMade h n xs = AllByRecursion (IsMade h n) xs

-- what is queued for a scatter
abbrev AreQueued : (n : ℕ) → List Store → Type 0
AreQueued n ws = AllByRecursion (CarriesFew n true) ws

abbrev IsQueued : (n : ℕ) → Phase → Type 0
IsQueued n (Scatters io queue) = AreQueued n queue
IsQueued n Starts = Unit {0}
IsQueued n (Needs need) = Unit {0}
IsQueued n (Waits need) = Unit {0}
IsQueued n (Reads io) = Unit {0}
IsQueued n (Probes io) = Unit {0}
IsQueued n (Gathers io) = Unit {0}

-- a phase awaits such commands, and will send such
abbrev pub PhaseMade : Held → (n : ℕ) → Phase → Type 0
PhaseMade h n p = AreMade h n (awaited_in p) × IsQueued n p

abbrev pub TurnMade : Held → (n : ℕ) → Turn → Type 0
TurnMade h n (Goes p) = PhaseMade h n p
TurnMade h n (Ends o) = Unit {0}
TurnMade h n (Forgets o) = Unit {0}

-- the grant stays, but for what was sent under it and the size
pub record MovedMade (h : Held) (n : ℕ) (m : Moved) : Type 0 where
  pub file : m.held.file ≡ h.file
  pub components : m.held.components ≡ h.components
  pub map : m.held.map ≡ h.map
  pub turn : TurnMade h n m.turn

-- ---- what is written

filled_carries : (n : ℕ) (cols : List Column) (xs : List Ask) → AsksShort n xs → AreQueued n (map (filled cols) xs)
filled_carries n cols [] k = tt
filled_carries n cols (a ∷ xs) k = (
  (length-map-range_with_len (byte_at cols a.position) a.offset a.length, k.0),
  filled_carries n cols xs k.1,
)

module _ (h : Held) (n : ℕ) where
  abbrev Made : List Awaited → Type 0
  Made xs = AreMade h n xs

  either_turn : (b : Bool) (t u : Turn) → TurnMade h n t → TurnMade h n u → TurnMade h n (if b then t else u)
  either_turn true t u k l = k
  either_turn false t u k l = l

  either : (b : Bool) (m k : Moved) → MovedMade h n m → MovedMade h n k → MovedMade h n (if b then m else k)
  either true m k x y = x
  either false m k x y = y

  turned_made : (t : Turn) → TurnMade h n t → MovedMade h n (turned h t)
  turned_made t k = record { file = refl; components = refl; map = refl; turn = k }

  -- ---- lists

  more_made : (xs ys : List Awaited) → Made xs → Made ys → Made (xs ++ ys)
  more_made xs ys k l = each_more (IsMade h n) xs ys k l

  others_made : (xs : List Awaited) (nonce : ℕ) → Made xs → Made (others xs nonce)
  unfolding others
  others_made xs nonce k = each_filtered (IsMade h n) _ xs k

  rest_made : (j : ℕ) (xs : List Awaited) → Made xs → Made (not_of j xs)
  unfolding not_of
  rest_made j xs k = each_filtered (IsMade h n) _ xs k

  numbered_made : (write : Bool) (count : ℕ) (ws : List Store) → AllByRecursion (CarriesFew n write) ws
      → Made (numbered h write count ws)
  unfolding numbered
  numbered_made write count [] k = tt
  numbered_made write count (w ∷ ws) k =
      (record { write = write; store = w; nonce = _; is = refl; carries = k.0 }, numbered_made write (count + 1) ws k.1)

  read_made : (xs : List Ask) → AsksShort n xs → Made (read_commands h xs)
  unfolding read_commands
  read_made xs k =
      numbered_made false h.count (carrying_none xs)
      (all_map (λ (a : Ask). record { ask = a; bytes = [] }) (λ (a : Ask). a.length ≤ n) (CarriesFew n false)
      (λ a few. (refl, few)) xs k)

  write_made : (ws : List Store) → AreQueued n ws → Made (write_commands h ws)
  unfolding write_commands
  write_made ws k = numbered_made true h.count ws k

  -- ---- reads

  reads_on_made : (r : Span) (got : List Column) (timed : List TimedOut) (sent awaited : List Awaited) → Made awaited
      → MovedMade h n (reads_on h r got timed sent awaited)
  unfolding reads_on
  reads_on_made r got timed sent [] k = record { file = refl; components = refl; map = refl; turn = tt }
  reads_on_made r got timed sent (a ∷ xs) k = record { file = refl; components = refl; map = refl; turn = (k, tt) }

  -- of a plan for at most n bytes
  plan_short : IsChecked h.map → (aim : _) (r : Span) (out : List ℕ) (hs : _) → r.length ≤ n
      → AsksShort n (asks aim h.map r out hs (stripes h.map r))
  plan_short ch aim r out hs few =
      all_wider (λ (a : Ask). a.length ≤ r.length) (λ (a : Ask). a.length ≤ n) (λ a k. omega (arith, k, few)) _
      (asks_short aim h.map r out hs ch)

  reads_unless_made : IsChecked h.map → (r : Span) (got : List Column) (timed : List TimedOut) (awaited : List Awaited)
      (o : Option (List ℕ)) → r.length ≤ n → Made awaited → MovedMade h n (reads_unless h r got timed awaited o)
  reads_unless_made ch r got timed awaited (Some ps) few k = turned_made _ tt
  reads_unless_made ch r got timed awaited None few k =
      reads_on_made r got timed _ _
      (more_made awaited _ k (read_made _ (plan_short ch aim.Reads r (outs h timed) (had got awaited) few)))

  reads_made : IsChecked h.map → (r : Span) (got : List Column) (timed : List TimedOut) (awaited : List Awaited)
      → r.length ≤ n → Made awaited → MovedMade h n (reads h r got timed awaited)
  unfolding reads
  reads_made ch r got timed awaited few k = reads_unless_made ch r got timed awaited _ few k

  -- ---- probes

  probe_short : (p : ℕ) (o : Option ℕ) → AsksShort n (probe_of h p o)
  probe_short p None = tt
  probe_short p (Some j) = (omega arith, tt)

  each_short : (out have : List ℕ) (p many : ℕ) → AsksShort n (probe_each h out have p many)
  unfolding probe_each
  each_short out have p zero = tt
  each_short out have p (suc many) =
      each_more (λ (a : Ask). a.length ≤ n) _ _
      (either_all (λ (a : Ask). a.length ≤ n) (among p have) [] _ tt (probe_short p _)) (each_short out have (p + 1) many)

  due_short : (out have : List ℕ) (p : ℕ) → AsksShort n (probes_due h out have p)
  unfolding probes_due
  due_short out have p =
      either_all (λ (a : Ask). a.length ≤ n) _ _ _ (each_short out have _ _) (each_short out have p 1)

  probes_on_made : (got : List Column) (timed : List TimedOut) (sent awaited : List Awaited) → Made awaited
      → MovedMade h n (probes_on h got timed sent awaited)
  unfolding probes_on
  probes_on_made got timed sent [] k = record { file = refl; components = refl; map = refl; turn = tt }
  probes_on_made got timed sent (a ∷ xs) k = record { file = refl; components = refl; map = refl; turn = (k, tt) }

  probes_by_made : (got : List Column) (timed : List TimedOut) (awaited : List Awaited) (o : Option ℕ) → Made awaited
      → MovedMade h n (probes_by h got timed awaited o)
  probes_by_made got timed awaited None k = turned_made _ tt
  probes_by_made got timed awaited (Some j) k =
      either _ _ _ (turned_made _ tt)
      (probes_on_made got timed _ _
      (more_made awaited _ k (read_made _ (due_short (outs h timed) (had_positions got awaited) _))))

  probes_made : (got : List Column) (timed : List TimedOut) (awaited : List Awaited) → Made awaited
      → MovedMade h n (probes h got timed awaited)
  unfolding probes
  probes_made got timed awaited k = probes_by_made got timed awaited _ k

  -- ---- writes

  accounted_made : (op : CallOp) (timed : List TimedOut) → TurnMade h n (accounted op timed)
  accounted_made op [] = tt
  accounted_made op (t ∷ ts) = (tt, tt)

  written_made : (op : CallOp) (timed : List TimedOut) → TurnMade h n (written h op timed)
  unfolding written
  written_made op timed =
      either_turn (is_past_size h op) (needing (Commit timed)) (accounted op timed) (tt, tt)
      (accounted_made op timed)

  scatters_on_made : (op : CallOp) (timed : List TimedOut) (queue : List Store) (sent awaited : List Awaited)
      → AreQueued n queue → Made awaited → MovedMade h n (scatters_on h op timed queue sent awaited)
  unfolding scatters_on
  scatters_on_made op timed queue sent [] q k =
      record { file = refl; components = refl; map = refl; turn = written_made op timed }
  scatters_on_made op timed queue sent (a ∷ xs) q k =
      record { file = refl; components = refl; map = refl; turn = (k, q) }

  stores_made : IsChecked h.map → (r : Span) (bytes : List ℕ) (got : List Column) (timed : List TimedOut) → r.length ≤ n
      → AreQueued n (stores h.map r bytes got (outs h timed))
  unfolding stores
  stores_made ch r bytes got timed few =
      filled_carries n (plans.written h.map r bytes got (outs h timed) (stripes h.map r))
      (asks aim.Scatters h.map r (outs h timed) [] (stripes h.map r))
      (plan_short ch aim.Scatters r (outs h timed) [] few)

  next_made : (op : CallOp) (timed : List TimedOut) (queue : List Store) (j : ℕ) (awaited : List Awaited)
      → AreQueued n queue → Made awaited → MovedMade h n (scatters_next h op timed queue j awaited)
  unfolding scatters_next
  next_made op timed queue j awaited q k =
      scatters_on_made op timed _ _ _ (queue_fit (CarriesFew n true) j queue q)
      (more_made awaited _ k (write_made _ (next_fit (CarriesFew n true) j queue q)))

  -- ---- what the call does, where the map is a checked one, and the call's range has at most n bytes

  module _ (ch : IsChecked h.map) (op : CallOp) (few : (span_of op).length ≤ n) where
    clipped_few : (clipped h.size (span_of op)).length ≤ n
    clipped_few = shorter (span_of op).offset (span_of op).length h.size few
      where
        shorter : (off len size : ℕ) → len ≤ n → min (off + len) size - off ≤ n
        shorter off len size le = omega (arith, le)

    scatters_made : (got : List Column) (timed : List TimedOut) → MovedMade h n (scatters h op got timed)
    unfolding scatters
    scatters_made got timed =
        let all : List Store = stores h.map (span_of op) (bytes_of op) got (outs h timed) in
        let short : AreQueued n all = stores_made ch (span_of op) (bytes_of op) got timed few in
        scatters_on_made op timed _ _ _ (laters_fit (CarriesFew n true) [] all short)
        (write_made _ (firsts_fit (CarriesFew n true) [] all short))

    gathers_on_made : (got : List Column) (timed : List TimedOut) (sent awaited : List Awaited) → Made awaited
        → MovedMade h n (gathers_on h op got timed sent awaited)
    unfolding gathers_on
    gathers_on_made got timed sent [] k = scatters_made got timed
    gathers_on_made got timed sent (a ∷ xs) k =
        record { file = refl; components = refl; map = refl; turn = (k, tt) }

    gathers_short : (got : List Column) (timed : List TimedOut) (awaited : List Awaited)
        → AsksShort n (gathers_due h (span_of op) got timed awaited)
    unfolding gathers_due
    gathers_short got timed awaited =
        either_all (λ (a : Ask). a.length ≤ n) (parities h.map == 0) _ _ tt
        (plan_short ch aim.Gathers (span_of op) (outs h timed) (had got awaited) few)

    gathers_made : (got : List Column) (timed : List TimedOut) (awaited : List Awaited) → Made awaited
        → MovedMade h n (gathers h op got timed awaited)
    unfolding gathers
    gathers_made got timed awaited k =
        gathers_on_made got timed _ _ (more_made awaited _ k (read_made _ (gathers_short got timed awaited)))

    performed_made : (p : Phase) (a : Awaited) (r : Reply) → PhaseMade h n p
        → MovedMade h n (performed h op p a r)
    performed_made (Reads io) a r k = reads_on_made _ _ io.timed [] _ (others_made io.awaited a.command.nonce k.0)
    performed_made (Probes io) a r k = probes_on_made _ io.timed [] _ (others_made io.awaited a.command.nonce k.0)
    performed_made (Gathers io) a r k = gathers_on_made _ io.timed [] _ (others_made io.awaited a.command.nonce k.0)
    performed_made (Scatters io queue) a r k =
        next_made op io.timed queue _ _ k.1 (others_made io.awaited a.command.nonce k.0)
    performed_made Starts a r k = turned_made _ (tt, tt)
    performed_made (Needs need) a r k = turned_made _ (tt, tt)
    performed_made (Waits need) a r k = turned_made _ (tt, tt)

    refused_made : (p : Phase) (a : Awaited) (r : Reply) → MovedMade h n (refused h p a r)
    unfolding refused
    refused_made p a r = either (r.verdict == OTHER_TAG) _ _ (turned_made _ tt) (turned_made _ (tt, tt))

    pub replied_made : (p : Phase) (a : Awaited) (r : Reply) → PhaseMade h n p
        → MovedMade h n (replied h op p a r)
    unfolding replied
    replied_made p a r k = either (r.verdict == PERFORMED) _ _ (performed_made p a r k) (refused_made p a r)

    gather_timed_made : (io : Io) (j : ℕ) (timed : List TimedOut) → Made io.awaited
        → MovedMade h n (gather_timed h op io j timed)
    unfolding gather_timed
    gather_timed_made io j timed k =
        either _ _ _ (turned_made _ tt) (gathers_made io.got timed _ (rest_made j io.awaited k))

    scatter_timed_made : (io : Io) (queue : List Store) (j : ℕ) (timed : List TimedOut) → Made io.awaited
        → AreQueued n queue → MovedMade h n (scatter_timed h op io queue j timed)
    unfolding scatter_timed
    scatter_timed_made io queue j timed k q =
        either _ _ _ (turned_made _ (tt, tt))
        (scatters_on_made op timed _ [] _ (without_fit (CarriesFew n true) j queue q) (rest_made j io.awaited k))

    pub timed_out_made : (p : Phase) (j : ℕ) (a : Awaited) (xs : List Awaited) → PhaseMade h n p
        → MovedMade h n (timed_out h op p j a xs)
    timed_out_made (Reads io) j a xs k = reads_made ch _ io.got _ _ clipped_few (rest_made j io.awaited k.0)
    timed_out_made (Probes io) j a xs k = probes_made io.got _ _ (rest_made j io.awaited k.0)
    timed_out_made (Gathers io) j a xs k = gather_timed_made io j _ k.0
    timed_out_made (Scatters io queue) j a xs k = scatter_timed_made io queue j _ k.0 k.1
    timed_out_made Starts j a xs k = turned_made _ (tt, tt)
    timed_out_made (Needs need) j a xs k = turned_made _ (tt, tt)
    timed_out_made (Waits need) j a xs k = turned_made _ (tt, tt)

    pub begins_made : MovedMade h n (begins h op)
    unfolding begins
    begins_made =
        either _ _ _ (gathers_made [] [] [] tt)
        (either _ _ _ (probes_made [] [] [] tt) (reads_made ch _ [] [] [] clipped_few tt))

  -- ---- a commit

  pub on_commit_made : (op : CallOp) (a : Answer) (timed : List TimedOut) → MovedMade h n (on_commit h op a timed)
  unfolding on_commit not_committed
  on_commit_made op a timed =
      either (status_of a.results == NFS4_OK) (committed h op a timed) (turned h (not_committed (status_of a.results) a.detail))
      (record { file = refl; components = refl; map = refl; turn = accounted_made op timed })
      (turned_made _ (either_turn _ (Forgets _) (Ends _) tt tt))
