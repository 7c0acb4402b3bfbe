-- Each WRITE of a scatter lies in one unit; and so does what a call awaits and has queued when it goes on with the drives.
-- Towards `WritesStayTied` (`specs/MarksTied.antt`).
use Rattle.std.proofs.Common.{◌≡◌, ◌==◌, ◌≤◌, ◌<◌, ◌+◌, ◌-◌, ◌/◌, ◌++◌, ℕ, Bool, true, false, List, [], ◌∷◌, length, map, Option, Some, None, sym, ap, subst, ◌∙◌, inl, inr, arith, if◌then◌else◌}
use Rattle.std.proofs.lemmas.Bool.{cases_Bool, cases_lt}
use Rattle.std.proofs.lemmas.Nat.{div-mul-add}
use Rattle.std.proofs.lemmas.List.FromFn.{length-map-range_with_len}
use Rattle.data_map.specs.declared.check.RawMap.{RawMap}
use Rattle.data_map.specs.Check.{IsChecked}
use Rattle.data_map.specs.Striping.{group_width, replicas, row_of, stripe_of}
use Rattle.stripe_plan.specs.declared.plan.Ask.{Ask}
use Rattle.stripe_plan.specs.declared.plan.Aim.TheVariants.{Scatters as ToScatter}
use Rattle.stripe_plan.specs.Asks.{asks}
use Rattle.stripe_plan.specs.Lost.{among, positions_out}
use Rattle.stripe_plan.specs.Plans.{writes, written as columns_written, filled, stores}
use Rattle.stripe_plan.specs.Touched.{end_of, stripes}
use Rattle.stripe_plan.specs.Words.{byte_at as byte_got}
use Rattle.stripe_plan.proofs.ReadLaws.{stripes_are}
use Rattle.stripe_plan.proofs.WriteFollows.{within_changed, no_stripes}
use Rattle.plan_law.proofs.Intervals.{Every}
use Rattle.plan_law.proofs.Stores.{IsForAsk, all_asks, no_asks}
use Rattle.osd_commands.specs.declared.commands.Command.{Command}
use Rattle.osd_commands.specs.declared.replies.Reply.{Reply}
use Rattle.server_rules.specs.Laws.{In}
use Rattle.server_rules.proofs.Members.{in_either, in_filtered}
use Rattle.client_rules.specs.declared.limits.TheConstants.{PERFORMED, OTHER_TAG}
use Rattle.client_rules.specs.Calls.{span_of, bytes_of, is_write}
use Rattle.client_rules.specs.Commands.{awaited_for, command, sealed, others, not_of, read_commands, write_commands}
use Rattle.client_rules.specs.Going.{begins}
use Rattle.client_rules.specs.Grants.{clipped}
use Rattle.client_rules.specs.Io.{had_positions, outs}
use Rattle.client_rules.specs.Reads.{reads, reads_on, reads_unless, probes, probes_on, probes_by, probes_due, is_probe_lost}
use Rattle.client_rules.specs.Replies.{replied, performed, refused, timed_out, gather_timed, scatter_timed}
use Rattle.client_rules.specs.Turns.{ended, needing}
use Rattle.client_rules.specs.Writes.{accounted, written, is_past_size, firsts, laters, scatters, scatters_on, scatters_next, next_to, without_next, without_component, gathers, gathers_on, is_too_short}
use Rattle.world_history.specs.ClientNames.{Awaited, CallOp, Column, Held, Io, Lost, Moved, Commit, Needs, Phase, Starts, Waits, Reads, Probes, Gathers, Scatters, Span, Store, TimedOut, Turn, Goes}
use Rattle.relation_law.proofs.CallsDone.{from_others}
use Rattle.relation_law.proofs.MessagesBehind.{numbered_made}

-- ---- the plan

-- what begins at `first` and is n long lies in one unit
abbrev pub LiesInUnit : (unit first n : ℕ) → Type 0
LiesInUnit unit first n = (z : ℕ) → first ≤ z → z < first + n → z / unit ≡ first / unit

abbrev pub StoreLies : (unit : ℕ) → Store → Type 0
StoreLies unit w = LiesInUnit unit w.ask.offset (length w.bytes)

abbrev pub CommandLies : (unit : ℕ) → Command → Type 0
CommandLies unit x = LiesInUnit unit x.offset (length x.payload)

module _ (m : RawMap) (r : Span) (out : List ℕ) (checked : IsChecked m) where
  -- each byte is in the stripe's row
  in_row : (a : Ask) (f : IsForAsk m r out a) (j : ℕ) → j < a.length → (a.offset + j) / m.unit ≡ row_of m f.stripe
  in_row a f j lt =
      let x = f.each j lt in
      ap (λ (z : ℕ). z / m.unit) (sym x.1)
      ∙ div-mul-add (row_of m f.stripe) m.unit x.0 (within_changed m r f.stripe f.unit x.0 checked x.2)

  ask_lies : (a : Ask) → IsForAsk m r out a → LiesInUnit m.unit a.offset a.length
  ask_lies a f z from to =
      let here : z ≡ a.offset + (z - a.offset) = omega (arith, from) in
      let zero_ : a.offset ≡ a.offset + 0 = omega arith in
      ap (λ (y : ℕ). y / m.unit) here ∙ in_row a f (z - a.offset) (omega (arith, from, to)) ∙ sym (in_row a f 0 f.some)
      ∙ ap (λ (y : ℕ). y / m.unit) (sym zero_)

  each_lies : (cols : List Column) (xs : List Ask) → Every (IsForAsk m r out) xs → (w : Store) → In w (map (filled cols) xs) →
      StoreLies m.unit w
  each_lies cols [] h w i = absurd i
  each_lies cols (a ∷ xs) h w (inl e) =
      subst (StoreLies m.unit) (sym e)
      (λ z from to. ask_lies a h.0 z from
      (omega (arith, to, length-map-range_with_len (byte_got cols a.position) a.offset a.length)))
  each_lies cols (a ∷ xs) h w (inr i) = each_lies cols xs h.1 w i

  pub stores_lie : (bytes : List ℕ) (got : List Column) (w : Store) → In w (stores m r bytes got out) → StoreLies m.unit w
  unfolding stores
  stores_lie bytes got w i = elim (cases_lt 0 r.length) [
    | inl some ↦
        each_lies (columns_written m r bytes got out (stripes m r)) (writes m r out)
        (rw (stripes_are m r some)
        (all_asks m r out (stripe_of m r.offset) (stripe_of m (end_of r - 1) + 1 - stripe_of m r.offset)
        checked (λ s le lt. (le, omega (arith, lt, le))))) w i
    | inr none ↦
        let empty : writes m r out ≡ [] =
        ap (asks ToScatter m r out []) (no_stripes m r (omega (arith, none))) ∙ no_asks m r out in
        absurd (subst (λ (xs : List Ask). In w (map (filled (columns_written m r bytes got out (stripes m r))) xs)) empty i)
  ]

-- ---- a call

-- what is queued and what is awaited
pub record ScatterLies (unit : ℕ) (io : Io) (queue : List Store) : Type 0 where
  pub queued : (q : Store) → In q queue → StoreLies unit q
  pub awaited : (a : Awaited) → In a io.awaited → CommandLies unit a.command

abbrev pub PhaseLies : (unit : ℕ) → Phase → Type 0
PhaseLies unit (Scatters io queue) = ScatterLies unit io queue
PhaseLies unit p = Unit {0}

abbrev pub TurnLies : (unit : ℕ) → Turn → Type 0
TurnLies unit (Goes p) = PhaseLies unit p
TurnLies unit t = Unit {0}

-- where its map is right
abbrev pub MovedLies : Moved → Type 0
MovedLies m = IsChecked m.held.map → TurnLies m.held.map.unit m.turn

either : (b : Bool) (m n : Moved) → MovedLies m → MovedLies n → MovedLies (if b then m else n)
either true m n x y = x
either false m n x y = y

-- ---- lists

in_firsts : (seen : List ℕ) (ws : List Store) (q : Store) → In q (firsts seen ws) → In q ws
unfolding firsts
in_firsts seen [] q i = absurd i
in_firsts seen (w ∷ ws) q i = elim (cases_Bool (among w.ask.component seen)) [
  | inl t ↦ inr (in_firsts seen ws q (rw t at i))
  | inr f ↦ elim (rw f at i) [ inl e ↦ inl e | inr later ↦ inr (in_firsts (w.ask.component ∷ seen) ws q later) ]
]

in_laters : (seen : List ℕ) (ws : List Store) (q : Store) → In q (laters seen ws) → In q ws
unfolding laters
in_laters seen [] q i = absurd i
in_laters seen (w ∷ ws) q i = elim (cases_Bool (among w.ask.component seen)) [
  | inl t ↦ elim (rw t at i) [ inl e ↦ inl e | inr later ↦ inr (in_laters seen ws q later) ]
  | inr f ↦ inr (in_laters (w.ask.component ∷ seen) ws q (rw f at i))
]

in_next : (k : ℕ) (ws : List Store) (q : Store) → In q (next_to k ws) → In q ws
unfolding next_to
in_next k [] q i = absurd i
in_next k (w ∷ ws) q i = elim (cases_Bool (w.ask.component == k)) [
  | inl t ↦ elim (rw t at i) [ inl e ↦ inl e | inr none ↦ absurd none ]
  | inr f ↦ inr (in_next k ws q (rw f at i))
]

in_rest : (k : ℕ) (ws : List Store) (q : Store) → In q (without_next k ws) → In q ws
unfolding without_next
in_rest k [] q i = absurd i
in_rest k (w ∷ ws) q i = elim (cases_Bool (w.ask.component == k)) [
  | inl t ↦ inr (rw t at i)
  | inr f ↦ elim (rw f at i) [ inl e ↦ inl e | inr later ↦ inr (in_rest k ws q later) ]
]

command_lies : (unit : ℕ) (h : Held) (w : Store) (n : ℕ) → StoreLies unit w → CommandLies unit (awaited_for h true w n).command
unfolding command sealed
command_lies unit h w n lies = lies

commands_lie : (unit : ℕ) (h : Held) (ws : List Store) → ((w : Store) → In w ws → StoreLies unit w) → (a : Awaited) →
    In a (write_commands h ws) → CommandLies unit a.command
unfolding write_commands
commands_lie unit h ws lies a i =
    let r = numbered_made h true h.count ws a i in
    subst (λ (b : Awaited). CommandLies unit b.command) (sym r.3) (command_lies unit h r.0 r.1 (lies r.0 r.2))

module _ (h : Held) (op : CallOp) where
  -- ---- reads

  reads_on_lie : (r : Span) (got : List Column) (timed : List TimedOut) (sent awaited : List Awaited) →
      MovedLies (reads_on h r got timed sent awaited)
  unfolding reads_on
  reads_on_lie r got timed sent [] = λ c. tt
  reads_on_lie r got timed sent (a ∷ xs) = λ c. tt

  reads_unless_lie : (r : Span) (got : List Column) (timed : List TimedOut) (awaited : List Awaited) (o : Option (List ℕ)) →
      MovedLies (reads_unless h r got timed awaited o)
  reads_unless_lie r got timed awaited (Some ps) = λ c. tt
  reads_unless_lie r got timed awaited None = reads_on_lie r got timed _ _

  reads_lie : (r : Span) (got : List Column) (timed : List TimedOut) (awaited : List Awaited) →
      MovedLies (reads h r got timed awaited)
  unfolding reads
  reads_lie r got timed awaited = reads_unless_lie r got timed awaited _

  probes_on_lie : (got : List Column) (timed : List TimedOut) (sent awaited : List Awaited) →
      MovedLies (probes_on h got timed sent awaited)
  unfolding probes_on
  probes_on_lie got timed sent [] = λ c. tt
  probes_on_lie got timed sent (a ∷ xs) = λ c. tt

  probes_by_lie : (got : List Column) (timed : List TimedOut) (awaited : List Awaited) (o : Option ℕ) →
      MovedLies (probes_by h got timed awaited o)
  probes_by_lie got timed awaited None = λ c. tt
  probes_by_lie got timed awaited (Some n) =
      either (is_probe_lost h.map (outs h timed) (n / replicas h.map))
      (ended h (Lost (positions_out h.map (outs h timed) (n / replicas h.map / group_width h.map))))
      (probes_on h got timed
      (read_commands h (probes_due h (outs h timed) (had_positions got awaited) (n / replicas h.map)))
      (awaited ++ read_commands h (probes_due h (outs h timed) (had_positions got awaited) (n / replicas h.map))))
      (λ c. tt) (probes_on_lie got timed _ _)

  probes_lie : (got : List Column) (timed : List TimedOut) (awaited : List Awaited) → MovedLies (probes h got timed awaited)
  unfolding probes
  probes_lie got timed awaited = probes_by_lie got timed awaited _

  -- ---- writes

  accounted_lies : (unit : ℕ) (timed : List TimedOut) → TurnLies unit (accounted op timed)
  accounted_lies unit [] = tt
  accounted_lies unit (t ∷ ts) = tt

  written_lies : (unit : ℕ) (timed : List TimedOut) → TurnLies unit (written h op timed)
  unfolding written
  written_lies unit timed = by (is_past_size h op)
    where
      by : (b : Bool) → TurnLies unit (if b then needing (Commit timed) else accounted op timed)
      by true = tt
      by false = accounted_lies unit timed

  scatters_on_lie : (timed : List TimedOut) (queue : List Store) (sent awaited : List Awaited) →
      (IsChecked h.map → (q : Store) → In q queue → StoreLies h.map.unit q) →
      (IsChecked h.map → (a : Awaited) → In a awaited → CommandLies h.map.unit a.command) →
      MovedLies (scatters_on h op timed queue sent awaited)
  unfolding scatters_on
  scatters_on_lie timed queue sent [] qs waits c = written_lies h.map.unit timed
  scatters_on_lie timed queue sent (a ∷ xs) qs waits c = record { queued = qs c; awaited = waits c }

  scatters_lie : (got : List Column) (timed : List TimedOut) → MovedLies (scatters h op got timed)
  unfolding scatters
  scatters_lie got timed =
      let all = stores h.map (span_of op) (bytes_of op) got (outs h timed) in
      scatters_on_lie timed (laters [] all) (write_commands h (firsts [] all)) (write_commands h (firsts [] all))
      (λ c q i. stores_lie h.map (span_of op) (outs h timed) c (bytes_of op) got q (in_laters [] all q i))
      (λ c a i. commands_lie h.map.unit h (firsts [] all)
      (λ w j. stores_lie h.map (span_of op) (outs h timed) c (bytes_of op) got w (in_firsts [] all w j)) a i)

  gathers_on_lie : (got : List Column) (timed : List TimedOut) (sent awaited : List Awaited) →
      MovedLies (gathers_on h op got timed sent awaited)
  unfolding gathers_on
  gathers_on_lie got timed sent [] = scatters_lie got timed
  gathers_on_lie got timed sent (a ∷ xs) = λ c. tt

  gathers_lie : (got : List Column) (timed : List TimedOut) (awaited : List Awaited) → MovedLies (gathers h op got timed awaited)
  unfolding gathers
  gathers_lie got timed awaited = gathers_on_lie got timed _ _

  -- ---- replies

  scatters_next_lie : (io : Io) (queue : List Store) (a : Awaited) →
      (IsChecked h.map → ScatterLies h.map.unit io queue) →
      MovedLies (scatters_next h op io.timed queue a.ask.component (others io.awaited a.command.nonce))
  unfolding scatters_next
  scatters_next_lie io queue a w =
      scatters_on_lie io.timed _ _ _
      (λ c q i. (w c).queued q (in_rest a.ask.component queue q i))
      (λ c b i. elim (in_either b (others io.awaited a.command.nonce) (write_commands h (next_to a.ask.component queue)) i) [
        | inl old ↦ (w c).awaited b (from_others b io.awaited a.command.nonce old).0
        | inr new ↦ commands_lie h.map.unit h (next_to a.ask.component queue)
            (λ q j. (w c).queued q (in_next a.ask.component queue q j)) b new
      ])

  performed_lies : (p : Phase) (a : Awaited) (r : Reply) → (IsChecked h.map → PhaseLies h.map.unit p) →
      MovedLies (performed h op p a r)
  performed_lies (Reads io) a r w = reads_on_lie _ _ io.timed [] _
  performed_lies (Probes io) a r w = probes_on_lie _ io.timed [] _
  performed_lies (Gathers io) a r w = gathers_on_lie _ io.timed [] _
  performed_lies (Scatters io queue) a r w = scatters_next_lie io queue a w
  performed_lies Starts a r w = λ c. tt
  performed_lies (Needs n) a r w = λ c. tt
  performed_lies (Waits n) a r w = λ c. tt

  refused_lies : (p : Phase) (a : Awaited) (r : Reply) → MovedLies (refused h p a r)
  unfolding refused
  refused_lies p a r = either (r.verdict == OTHER_TAG) _ _ (λ c. tt) (λ c. tt)

  pub replied_lies : (p : Phase) (a : Awaited) (r : Reply) → (IsChecked h.map → PhaseLies h.map.unit p) →
      MovedLies (replied h op p a r)
  unfolding replied
  replied_lies p a r w = either (r.verdict == PERFORMED) _ _ (performed_lies p a r w) (refused_lies p a r)

  -- ---- timeouts

  gather_timed_lies : (io : Io) (k : ℕ) (timed : List TimedOut) → MovedLies (gather_timed h op io k timed)
  unfolding gather_timed
  gather_timed_lies io k timed = either (is_too_short h op timed) _ _ (λ c. tt) (gathers_lie io.got timed _)

  scatter_timed_lies : (io : Io) (queue : List Store) (k : ℕ) (timed : List TimedOut) →
      (IsChecked h.map → ScatterLies h.map.unit io queue) → MovedLies (scatter_timed h op io queue k timed)
  unfolding scatter_timed without_component not_of
  scatter_timed_lies io queue k timed w =
      either (is_too_short h op timed) _ _ (λ c. tt)
      (scatters_on_lie timed _ [] _
      (λ c q i. (w c).queued q (in_filtered _ q queue i).0)
      (λ c a i. (w c).awaited a (in_filtered _ a io.awaited i).0))

  pub timed_lies : (p : Phase) (k : ℕ) (a : Awaited) (xs : List Awaited) → (IsChecked h.map → PhaseLies h.map.unit p) →
      MovedLies (timed_out h op p k a xs)
  timed_lies (Reads io) k a xs w = reads_lie _ io.got _ (not_of k io.awaited)
  timed_lies (Probes io) k a xs w = probes_lie io.got _ (not_of k io.awaited)
  timed_lies (Gathers io) k a xs w = gather_timed_lies io k _
  timed_lies (Scatters io queue) k a xs w = scatter_timed_lies io queue k _ w
  timed_lies Starts k a xs w = λ c. tt
  timed_lies (Needs n) k a xs w = λ c. tt
  timed_lies (Waits n) k a xs w = λ c. tt

  -- ---- the begin

  pub begins_lie : MovedLies (begins h op)
  unfolding begins
  begins_lie =
      either (is_write op) _ _ (gathers_lie [] [] [])
      (either ((clipped h.size (span_of op)).length == 0) _ _ (probes_lie [] [] []) (reads_lie _ [] [] []))
