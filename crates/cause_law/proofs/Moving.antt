-- What a call has the drives do leaves few components that timed out, and its reports are short.
use Rattle.std.proofs.Common.{◌≡◌, ◌==◌, ◌≤◌, ℕ, ◌+◌, Bool, true, false, List, [], ◌∷◌, ◌++◌, Option, Some, None, length, slice_get, zero, suc, refl, arith, if◌then◌else◌}
use Rattle.std.specs.List.{AllByRecursion}
use Rattle.osd_lists.proofs.Tests.{second_false}
use Rattle.data_map.specs.Check.{IsChecked}
use Rattle.data_map.specs.Striping.{parities}
use Rattle.stripe_plan.specs.Touched.{stripes}
use Rattle.stripe_plan.specs.Lost.{among}
use Rattle.stripe_plan.specs.declared.plan.Aim.{Aim}
use Rattle.stripe_plan.specs.declared.plan.Aim.TheVariants as aim
use Rattle.stripe_plan.specs.Asks.{asks}
use Rattle.stripe_plan.specs.Plans.{filled, stores}
use Rattle.stripe_plan.specs.Plans as plans
use Rattle.cause_law.specs.State.{CallOp, Listed, Held, Awaited, TimedOut, Need, Commit, Report, Close, Phase, Starts, Needs, Waits, Reads, Probes, Gathers, Scatters, Io, Silent, Turn, Goes, Forgets, Moved, Reply, Span, Ask, Column, Store, Stretch}
use Rattle.client_rules.specs.declared.limits.TheConstants.{PERFORMED, OTHER_TAG}
use Rattle.client_rules.specs.Turns.{turned, needing, closing}
use Rattle.client_rules.specs.Calls.{span_of, bytes_of}
use Rattle.client_rules.specs.Grants.{missing_of}
use Rattle.client_rules.specs.Io.{outs, had}
use Rattle.client_rules.specs.Commands.{numbered, carrying_none, read_commands, write_commands, others, not_of}
use Rattle.client_rules.specs.Requests.{id_in, object_of, error_at, report_of}
use Rattle.client_rules.specs.Reads.{reads_on, reads_unless, reads, probes_on, probes_by, probes}
use Rattle.client_rules.specs.Writes.{accounted, is_past_size, written, firsts, laters, scatters_on, scatters, next_to, without_next, without_component, scatters_next, gathers_on, gathers_due, gathers, is_too_short}
use Rattle.client_rules.specs.Replies.{refusal, refused_report, performed, refused, replied, gather_timed, scatter_timed}
use Rattle.exchange_law.proofs.PlaceLists.{all_wider, all_map, either_all}
use Rattle.exchange_law.proofs.Plans.{IsAsked, asks_in}
use Rattle.exchange_law.proofs.PlaceSending.{firsts_fit, laters_fit, next_fit, queue_fit}
use Rattle.exchange_law.proofs.Parts.{each_more, each_filtered}
use Rattle.cause_law.proofs.Ids.{IsLong}
use Rattle.cause_law.proofs.Lengths.{ErrorLong, ReportShort}
use Rattle.cause_law.proofs.Timed.{components, Rise, are_few, AskApart, StoreApart, AwaitedApart}

-- ---- what a client keeps

-- a component's device id is as long as all are
abbrev pub ListedLong : Listed → Type 0
ListedLong l = IsLong l.id

-- a grant has few components
abbrev pub HeldShort : Held → Type 0
HeldShort h = record {
  checked : IsChecked h.map;
  few : h.map.comps ≤ 64;
  ids : AllByRecursion ListedLong h.components;
}

-- what a call needs of the server reports few
abbrev pub NeedShort : Need → Type 0
NeedShort (Commit timed) = length timed ≤ 64
NeedShort (Report timed) = length timed ≤ 64
NeedShort (Close outcome report) = ReportShort report
NeedShort n = Unit {0}

-- no component that timed out is awaited
abbrev pub IoShort : Io → Type 0
IoShort io = Rise 0 io.timed × AllByRecursion (AwaitedApart io.timed) io.awaited

-- nor queued
abbrev pub PhaseShort : Phase → Type 0
PhaseShort (Needs n) = NeedShort n
PhaseShort (Waits n) = NeedShort n
PhaseShort (Gathers io) = IoShort io
PhaseShort (Scatters io queue) = IoShort io × AllByRecursion (StoreApart io.timed) queue
PhaseShort p = Unit {0}

abbrev pub TurnShort : Turn → Type 0
TurnShort (Goes p) = PhaseShort p
TurnShort t = Unit {0}

pub record MovedShort (m : Moved) : Type 0 where
  pub held : HeldShort m.held
  pub turn : TurnShort m.turn

pub either_moved : (b : Bool) (m n : Moved) → MovedShort m → MovedShort n → MovedShort (if b then m else n)
either_moved true m n k l = k
either_moved false m n k l = l

pub either_turn : (b : Bool) (t u : Turn) → TurnShort t → TurnShort u → TurnShort (if b then t else u)
either_turn true t u k l = k
either_turn false t u k l = l

-- ---- reports

id_long : (ls : List Listed) (k : ℕ) → AllByRecursion ListedLong ls → IsLong (id_in (slice_get ls k))
id_long [] k l = refl
id_long (x ∷ ls) zero l = l.0
id_long (x ∷ ls) (suc k) l = id_long ls k l.1

object_long : (h : Held) (k : ℕ) → HeldShort h → IsLong (object_of h k)
unfolding object_of
object_long h k s = id_long h.components k s.ids

errors_long : (h : Held) (timed : List TimedOut) → HeldShort h → AllByRecursion ErrorLong (report_of h timed)
unfolding report_of error_at
errors_long h [] s = tt
errors_long h (t ∷ ts) s = (object_long h t.ask.component s, errors_long h ts s)

as_many : (h : Held) (timed : List TimedOut) → length (report_of h timed) ≡ length timed
unfolding report_of
as_many h [] = refl
as_many h (t ∷ ts) = omega (arith, as_many h ts)

pub report_short : (h : Held) (timed : List TimedOut) → HeldShort h → length timed ≤ 64
    → ReportShort (report_of h timed)
report_short h timed s few = record { few = omega (arith, as_many h timed, few); long = errors_long h timed s }

pub none_short : ReportShort []
none_short = record { few = omega arith; long = tt }

one_short : (h : Held) (p : Phase) (a : Awaited) (r : Reply) → HeldShort h → ReportShort (refused_report h p a r)
unfolding error_at
one_short h (Scatters io queue) a r s = record { few = omega arith; long = (object_long h a.ask.component s, tt) }
one_short h Starts a r s = none_short
one_short h (Needs n) a r s = none_short
one_short h (Waits n) a r s = none_short
one_short h (Reads io) a r s = none_short
one_short h (Probes io) a r s = none_short
one_short h (Gathers io) a r s = none_short

-- ---- what plans ask

any_stripes : (ss : List ℕ) → AllByRecursion (λ (s : ℕ). Unit {0}) ss
any_stripes [] = tt
any_stripes (s ∷ ss) = (tt, any_stripes ss)

not_back : (k : ℕ) (xs ys : List ℕ) → among k (xs ++ ys) ≡ false → among k ys ≡ false
not_back k [] ys e = e
not_back k (x ∷ xs) ys e = not_back k xs ys (second_false (x == k) (among k (xs ++ ys)) e)

asks_apart : (h : Held) → HeldShort h → (by : Aim) (r : Span) (timed : List TimedOut) (got : List Stretch)
    (ss : List ℕ) → AllByRecursion (AskApart timed) (asks by h.map r (outs h timed) got ss)
unfolding outs
asks_apart h s by r timed got ss =
    all_wider (IsAsked h.map (missing_of h ++ components timed) (λ (n : ℕ). Unit {0})) (AskApart timed)
    (λ a asked. (
      omega (arith, asked.2.below, s.few),
      not_back a.component (missing_of h) (components timed) asked.2.there,
    ))
    _ (asks_in (λ (n : ℕ). Unit {0}) by h.map r (missing_of h ++ components timed) got ss s.checked (any_stripes ss))

numbered_apart : (h : Held) (timed : List TimedOut) (write : Bool) (count : ℕ) (ws : List Store)
    → AllByRecursion (StoreApart timed) ws → AllByRecursion (AwaitedApart timed) (numbered h write count ws)
unfolding numbered
numbered_apart h timed write count [] l = tt
numbered_apart h timed write count (w ∷ ws) l = (l.0, numbered_apart h timed write (count + 1) ws l.1)

reads_apart : (h : Held) (timed : List TimedOut) (xs : List Ask) → AllByRecursion (AskApart timed) xs
    → AllByRecursion (AwaitedApart timed) (read_commands h xs)
unfolding read_commands
reads_apart h timed xs l =
    numbered_apart h timed false h.count (carrying_none xs)
    (all_map (λ (a : Ask). record { ask = a; bytes = [] }) (AskApart timed) (StoreApart timed) (λ a apart. apart) xs l)

writes_apart : (h : Held) (timed : List TimedOut) (ws : List Store) → AllByRecursion (StoreApart timed) ws
    → AllByRecursion (AwaitedApart timed) (write_commands h ws)
unfolding write_commands
writes_apart h timed ws l = numbered_apart h timed true h.count ws l

others_apart : (timed : List TimedOut) (xs : List Awaited) (nonce : ℕ) → AllByRecursion (AwaitedApart timed) xs
    → AllByRecursion (AwaitedApart timed) (others xs nonce)
unfolding others
others_apart timed xs nonce l = each_filtered (AwaitedApart timed) _ xs l

module _ (h : Held) (s : HeldShort h) where
  pub turned_short : (t : Turn) → TurnShort t → MovedShort (turned h t)
  turned_short t l = record { held = s; turn = l }

  -- ---- reads

  reads_on_short : (r : Span) (got : List Column) (timed : List TimedOut) (sent awaited : List Awaited)
      → MovedShort (reads_on h r got timed sent awaited)
  unfolding reads_on
  reads_on_short r got timed sent [] = record { held = s; turn = tt }
  reads_on_short r got timed sent (a ∷ xs) = record { held = s; turn = tt }

  reads_unless_short : (r : Span) (got : List Column) (timed : List TimedOut) (awaited : List Awaited)
      (o : Option (List ℕ)) → MovedShort (reads_unless h r got timed awaited o)
  reads_unless_short r got timed awaited (Some ps) = turned_short _ tt
  reads_unless_short r got timed awaited None = reads_on_short r got timed _ _

  pub reads_short : (r : Span) (got : List Column) (timed : List TimedOut) (awaited : List Awaited)
      → MovedShort (reads h r got timed awaited)
  unfolding reads
  reads_short r got timed awaited = reads_unless_short r got timed awaited _

  probes_on_short : (got : List Column) (timed : List TimedOut) (sent awaited : List Awaited)
      → MovedShort (probes_on h got timed sent awaited)
  unfolding probes_on
  probes_on_short got timed sent [] = record { held = s; turn = tt }
  probes_on_short got timed sent (a ∷ xs) = record { held = s; turn = tt }

  probes_by_short : (got : List Column) (timed : List TimedOut) (awaited : List Awaited) (o : Option ℕ)
      → MovedShort (probes_by h got timed awaited o)
  probes_by_short got timed awaited None = turned_short _ tt
  probes_by_short got timed awaited (Some n) =
      either_moved _ _ _ (turned_short _ tt) (probes_on_short got timed _ _)

  pub probes_short : (got : List Column) (timed : List TimedOut) (awaited : List Awaited)
      → MovedShort (probes h got timed awaited)
  unfolding probes
  probes_short got timed awaited = probes_by_short got timed awaited _

  -- ---- writes

  pub accounted_short : (op : CallOp) (timed : List TimedOut) → length timed ≤ 64 → TurnShort (accounted op timed)
  accounted_short op [] few = tt
  accounted_short op (t ∷ ts) few = few

  written_short : (op : CallOp) (timed : List TimedOut) → length timed ≤ 64 → TurnShort (written h op timed)
  unfolding written
  written_short op timed few =
      either_turn (is_past_size h op) (needing (Commit timed)) (accounted op timed) few (accounted_short op timed few)

  scatters_on_short : (op : CallOp) (timed : List TimedOut) (queue : List Store) (sent awaited : List Awaited)
      → Rise 0 timed → AllByRecursion (StoreApart timed) queue → AllByRecursion (AwaitedApart timed) awaited
      → MovedShort (scatters_on h op timed queue sent awaited)
  unfolding scatters_on
  scatters_on_short op timed queue sent [] r q w = record {
    held = s;
    turn = written_short op timed (omega (arith, are_few 0 timed r));
  }
  scatters_on_short op timed queue sent (a ∷ xs) r q w = record { held = s; turn = ((r, w), q) }

  stores_apart : (r : Span) (bytes : List ℕ) (got : List Column) (timed : List TimedOut)
      → AllByRecursion (StoreApart timed) (stores h.map r bytes got (outs h timed))
  unfolding stores
  stores_apart r bytes got timed =
      all_map (filled (plans.written h.map r bytes got (outs h timed) (stripes h.map r))) (AskApart timed)
      (StoreApart timed) (λ a apart. apart) (asks aim.Scatters h.map r (outs h timed) [] (stripes h.map r))
      (asks_apart h s aim.Scatters r timed [] (stripes h.map r))

  scatters_short : (op : CallOp) (got : List Column) (timed : List TimedOut) → Rise 0 timed
      → MovedShort (scatters h op got timed)
  unfolding scatters
  scatters_short op got timed r =
      let all : List Store = stores h.map (span_of op) (bytes_of op) got (outs h timed) in
      let apart : AllByRecursion (StoreApart timed) all = stores_apart (span_of op) (bytes_of op) got timed in
      scatters_on_short op timed (laters [] all) _ _ r (laters_fit (StoreApart timed) [] all apart)
      (writes_apart h timed (firsts [] all) (firsts_fit (StoreApart timed) [] all apart))

  next_short : (op : CallOp) (timed : List TimedOut) (queue : List Store) (n : ℕ) (awaited : List Awaited)
      → Rise 0 timed → AllByRecursion (StoreApart timed) queue → AllByRecursion (AwaitedApart timed) awaited
      → MovedShort (scatters_next h op timed queue n awaited)
  unfolding scatters_next
  next_short op timed queue n awaited r q w =
      scatters_on_short op timed (without_next n queue) _ _ r (queue_fit (StoreApart timed) n queue q)
      (each_more (AwaitedApart timed) awaited _ w
      (writes_apart h timed (next_to n queue) (next_fit (StoreApart timed) n queue q)))

  gathers_on_short : (op : CallOp) (got : List Column) (timed : List TimedOut) (sent awaited : List Awaited)
      → Rise 0 timed → AllByRecursion (AwaitedApart timed) awaited → MovedShort (gathers_on h op got timed sent awaited)
  unfolding gathers_on
  gathers_on_short op got timed sent [] r w = scatters_short op got timed r
  gathers_on_short op got timed sent (a ∷ xs) r w = record { held = s; turn = (r, w) }

  due_apart : (r : Span) (got : List Column) (timed : List TimedOut) (awaited : List Awaited)
      → AllByRecursion (AskApart timed) (gathers_due h r got timed awaited)
  unfolding gathers_due
  due_apart r got timed awaited =
      either_all (AskApart timed) (parities h.map == 0) _ _ tt
      (asks_apart h s aim.Gathers r timed (had got awaited) (stripes h.map r))

  pub gathers_short : (op : CallOp) (got : List Column) (timed : List TimedOut) (awaited : List Awaited)
      → Rise 0 timed → AllByRecursion (AwaitedApart timed) awaited → MovedShort (gathers h op got timed awaited)
  unfolding gathers
  gathers_short op got timed awaited r w =
      gathers_on_short op got timed _ _ r (each_more (AwaitedApart timed) awaited _ w
      (reads_apart h timed _ (due_apart (span_of op) got timed awaited)))

  -- ---- replies

  performed_short : (op : CallOp) (p : Phase) (a : Awaited) (r : Reply) → PhaseShort p
      → MovedShort (performed h op p a r)
  performed_short op (Reads io) a r k = reads_on_short _ _ io.timed [] _
  performed_short op (Probes io) a r k = probes_on_short _ io.timed [] _
  performed_short op (Gathers io) a r k =
      gathers_on_short op _ io.timed [] _ k.0 (others_apart io.timed io.awaited a.command.nonce k.1)
  performed_short op (Scatters io queue) a r k =
      next_short op io.timed queue _ _ k.0.0 k.1 (others_apart io.timed io.awaited a.command.nonce k.0.1)
  performed_short op Starts a r k = turned_short _ tt
  performed_short op (Needs need) a r k = turned_short _ k
  performed_short op (Waits need) a r k = turned_short _ k

  refused_short : (p : Phase) (a : Awaited) (r : Reply) → MovedShort (refused h p a r)
  unfolding refused
  refused_short p a r =
      either_moved (r.verdict == OTHER_TAG) _ _ (turned_short (Forgets (refusal a r)) tt)
      (turned_short (closing (refusal a r) (refused_report h p a r)) (one_short h p a r s))

  pub replied_short : (op : CallOp) (p : Phase) (a : Awaited) (r : Reply) → PhaseShort p
      → MovedShort (replied h op p a r)
  unfolding replied
  replied_short op p a r k =
      either_moved (r.verdict == PERFORMED) _ _ (performed_short op p a r k) (refused_short p a r)

  -- ---- timeouts

  pub gather_timed_short : (op : CallOp) (io : Io) (k : ℕ) (timed : List TimedOut) → Rise 0 timed
      → AllByRecursion (AwaitedApart timed) (not_of k io.awaited) → MovedShort (gather_timed h op io k timed)
  unfolding gather_timed
  gather_timed_short op io k timed r w =
      either_moved (is_too_short h op timed) _ _ (turned_short _ tt) (gathers_short op io.got timed _ r w)

  pub scatter_timed_short : (op : CallOp) (io : Io) (queue : List Store) (k : ℕ) (timed : List TimedOut) → Rise 0 timed
      → AllByRecursion (StoreApart timed) (without_component k queue)
      → AllByRecursion (AwaitedApart timed) (not_of k io.awaited) → MovedShort (scatter_timed h op io queue k timed)
  unfolding scatter_timed
  scatter_timed_short op io queue k timed r q w =
      either_moved (is_too_short h op timed) _ _
      (turned_short (closing (Silent k) (report_of h timed))
      (report_short h timed s (omega (arith, are_few 0 timed r))))
      (scatters_on_short op timed (without_component k queue) [] _ r q w)
