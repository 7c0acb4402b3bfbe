-- What a call has the drives do is placed: at its begin, at replies and timeouts, and behind a commit.
use Rattle.std.proofs.Common.{◌≡◌, ◌==◌, ℕ, Bool, true, false, List, [], ◌∷◌, ◌+◌, Option, Some, None, length, refl, if◌then◌else◌}
use Rattle.std.specs.List.{AllByRecursion}
use Rattle.exchange_law.specs.PlaceState.{CallOp, Held, Awaited, TimedOut, Commit, Phase, Reads, Gathers, Scatters, Turn, Goes, Moved, Ask, Column, Store}
use Rattle.stripe_plan.specs.declared.plan.Aim.TheVariants as aim
use Rattle.stripe_plan.specs.Lost.{among}
use Rattle.client_rules.specs.Turns.{turned, needing}
use Rattle.client_rules.specs.Calls.{span_of}
use Rattle.client_rules.specs.Grants.{clipped}
use Rattle.client_rules.specs.Io.{had, awaited_in}
use Rattle.client_rules.specs.Commands.{numbered, carrying_none, read_commands, write_commands, counted, others, not_of, placed, before, in_order}
use Rattle.client_rules.specs.Reads.{reads_on, reads_unless, reads, probes_on}
use Rattle.client_rules.specs.Writes.{accounted, is_past_size, written, firsts, laters, next_to, without_next, without_component}
use Rattle.exchange_law.specs.Kept.{IsOwnGrant}
use Rattle.exchange_law.proofs.PlaceLists.{all_map, either_all}
use Rattle.exchange_law.specs.Asked.{AskFits, IsHeldIn}
use Rattle.exchange_law.proofs.Reach.{plan_fits}
use Rattle.exchange_law.proofs.Commands.{MaySend, command_placed}
use Rattle.exchange_law.proofs.Parts.{each_more, each_filtered}

-- ---- what is sent and awaited

abbrev pub AwaitedPlaced : Awaited → Type 0
AwaitedPlaced a = MaySend a.drive a.command

abbrev pub ArePlaced : List Awaited → Type 0
ArePlaced xs = AllByRecursion AwaitedPlaced xs

pub others_placed : (xs : List Awaited) (nonce : ℕ) → ArePlaced xs → ArePlaced (others xs nonce)
unfolding others
others_placed xs nonce k = each_filtered AwaitedPlaced _ xs k

pub rest_placed : (n : ℕ) (xs : List Awaited) → ArePlaced xs → ArePlaced (not_of n xs)
unfolding not_of
rest_placed n xs k = each_filtered AwaitedPlaced _ xs k

placed_placed : (a : Awaited) (xs : List Awaited) → AwaitedPlaced a → ArePlaced xs → ArePlaced (placed a xs)
unfolding placed
placed_placed a [] k l = (k, tt)
placed_placed a (b ∷ bs) k l =
    either_all AwaitedPlaced (before a.ask b.ask) (a ∷ b ∷ bs) (b ∷ placed a bs) (k, l)
    (l.0, placed_placed a bs k l.1)

pub ordered_placed : (xs : List Awaited) → ArePlaced xs → ArePlaced (in_order xs)
unfolding in_order
ordered_placed [] k = tt
ordered_placed (a ∷ xs) k = placed_placed a (in_order xs) k.0 (ordered_placed xs k.1)

-- ---- a grant that is held

-- it stays the grant as its commands are counted, and as the file's size is known anew
pub same_grant : (c : ℕ) (h : Held) (count size : ℕ) → IsOwnGrant c h
    → IsOwnGrant c (record h { count = count; size = size })
same_grant c h count size k = record {
  file = k.file;
  grant = k.grant;
  client_is = k.client_is;
  kept = record {
    map = k.kept.map;
    checked = k.kept.checked;
    writes = k.kept.writes;
    first = k.kept.first;
    end = k.kept.end;
    complete = k.kept.complete;
    present = k.kept.present;
  };
}

-- what a write is under
abbrev pub Covers : Held → CallOp → Type 0
Covers h op = (h.reach.rw ≡ true) × IsHeldIn h.reach (span_of op)

-- a write of a scatter
abbrev pub StoreFits : Held → Store → Type 0
StoreFits h w = AskFits h.components w.ask

-- what a phase relies on
abbrev pub PhaseFits : Held → CallOp → Phase → Type 0
PhaseFits h op (Reads io) = IsHeldIn h.reach (clipped h.size (span_of op))
PhaseFits h op (Gathers io) = Covers h op
PhaseFits h op (Scatters io queue) = (h.reach.rw ≡ true) × AllByRecursion (StoreFits h) queue
PhaseFits h op p = Unit {0}

abbrev pub TurnFits : Held → CallOp → Turn → Type 0
TurnFits h op (Goes p) = ArePlaced (awaited_in p) × PhaseFits h op p
TurnFits h op t = Unit {0}

pub record MovedFits (c : ℕ) (h : Held) (op : CallOp) (m : Moved) : Type 0 where
  pub file : m.held.file ≡ h.file
  pub held : IsOwnGrant c m.held
  pub sent : ArePlaced m.sent
  pub turn : TurnFits m.held op m.turn

pub either_moved : (c : ℕ) (h : Held) (op : CallOp) (b : Bool) (m n : Moved) → MovedFits c h op m → MovedFits c h op n
    → MovedFits c h op (if b then m else n)
either_moved c h op true m n k l = k
either_moved c h op false m n k l = l

pub either_turn : (h : Held) (op : CallOp) (b : Bool) (t u : Turn) → TurnFits h op t → TurnFits h op u
    → TurnFits h op (if b then t else u)
either_turn h op true t u k l = k
either_turn h op false t u k l = l

pub accounted_fits : (h : Held) (op : CallOp) (timed : List TimedOut) → TurnFits h op (accounted op timed)
accounted_fits h op [] = tt
accounted_fits h op (t ∷ ts) = (tt, tt)

pub written_fits : (g h : Held) (op : CallOp) (timed : List TimedOut) → TurnFits g op (written h op timed)
unfolding written
written_fits g h op timed =
    either_turn g op (is_past_size h op) (needing (Commit timed)) (accounted op timed) (tt, tt)
    (accounted_fits g op timed)

-- ---- stores

pub firsts_fit : (P : Store → Type 0) (seen : List ℕ) (ws : List Store) → AllByRecursion P ws
    → AllByRecursion P (firsts seen ws)
unfolding firsts
firsts_fit P seen [] k = tt
firsts_fit P seen (w ∷ ws) k =
    either_all P (among w.ask.component seen) (firsts seen ws) (w ∷ firsts (w.ask.component ∷ seen) ws)
    (firsts_fit P seen ws k.1) (k.0, firsts_fit P (w.ask.component ∷ seen) ws k.1)

pub laters_fit : (P : Store → Type 0) (seen : List ℕ) (ws : List Store) → AllByRecursion P ws
    → AllByRecursion P (laters seen ws)
unfolding laters
laters_fit P seen [] k = tt
laters_fit P seen (w ∷ ws) k =
    either_all P (among w.ask.component seen) (w ∷ laters seen ws) (laters (w.ask.component ∷ seen) ws)
    (k.0, laters_fit P seen ws k.1) (laters_fit P (w.ask.component ∷ seen) ws k.1)

pub next_fit : (P : Store → Type 0) (n : ℕ) (ws : List Store) → AllByRecursion P ws → AllByRecursion P (next_to n ws)
unfolding next_to
next_fit P n [] k = tt
next_fit P n (w ∷ ws) k =
    either_all P (w.ask.component == n) (w ∷ []) (next_to n ws) (k.0, tt) (next_fit P n ws k.1)

pub queue_fit : (P : Store → Type 0) (n : ℕ) (ws : List Store) → AllByRecursion P ws
    → AllByRecursion P (without_next n ws)
unfolding without_next
queue_fit P n [] k = tt
queue_fit P n (w ∷ ws) k =
    either_all P (w.ask.component == n) ws (w ∷ without_next n ws) k.1 (k.0, queue_fit P n ws k.1)

pub without_fit : (P : Store → Type 0) (n : ℕ) (ws : List Store) → AllByRecursion P ws
    → AllByRecursion P (without_component n ws)
unfolding without_component
without_fit P n ws k = each_filtered P _ ws k

module _ (c : ℕ) (h : Held) (k : IsOwnGrant c h) where
  pub counted_own : (sent : List Awaited) → IsOwnGrant c (counted h sent)
  counted_own sent = same_grant c h (h.count + length sent) h.size k

  -- ---- commands

  pub numbered_placed : (write : Bool) (count : ℕ) (ws : List Store) → (write ≡ true → h.reach.rw ≡ true)
      → AllByRecursion (StoreFits h) ws → ArePlaced (numbered h write count ws)
  unfolding numbered
  numbered_placed write count [] may l = tt
  numbered_placed write count (w ∷ ws) may l = (
    command_placed k.file k.grant h k.kept write w _ l.0 may,
    numbered_placed write (count + 1) ws may l.1,
  )

  pub read_placed : (xs : List Ask) → AllByRecursion (AskFits h.components) xs → ArePlaced (read_commands h xs)
  unfolding read_commands
  read_placed xs l =
      numbered_placed false h.count (carrying_none xs) (λ e. absurd (cc e))
      (all_map (λ (a : Ask). record { ask = a; bytes = [] }) (AskFits h.components) (StoreFits h) (λ a fits. fits) xs l)

  pub write_placed : (ws : List Store) → h.reach.rw ≡ true → AllByRecursion (StoreFits h) ws
      → ArePlaced (write_commands h ws)
  unfolding write_commands
  write_placed ws may l = numbered_placed true h.count ws (λ e. may) l

  -- ---- reads

  pub turned_fits : (op : CallOp) (t : Turn) → TurnFits h op t → MovedFits c h op (turned h t)
  turned_fits op t l = record { file = refl; held = k; sent = tt; turn = l }

  pub reads_on_fits : (op : CallOp) (got : List Column) (timed : List TimedOut) (sent awaited : List Awaited)
      → IsHeldIn h.reach (clipped h.size (span_of op)) → ArePlaced sent → ArePlaced awaited
      → MovedFits c h op (reads_on h (clipped h.size (span_of op)) got timed sent awaited)
  unfolding reads_on
  reads_on_fits op got timed sent [] i s w = record { file = refl; held = counted_own sent; sent = s; turn = tt }
  reads_on_fits op got timed sent (a ∷ xs) i s w = record {
    file = refl;
    held = counted_own sent;
    sent = s;
    turn = (w, i);
  }

  pub reads_unless_fits : (op : CallOp) (got : List Column) (timed : List TimedOut) (awaited : List Awaited)
      (o : Option (List ℕ)) → IsHeldIn h.reach (clipped h.size (span_of op)) → ArePlaced awaited
      → MovedFits c h op (reads_unless h (clipped h.size (span_of op)) got timed awaited o)
  reads_unless_fits op got timed awaited (Some ps) i w = turned_fits op _ tt
  reads_unless_fits op got timed awaited None i w =
      let due = read_placed _ (plan_fits k.file k.grant h k.kept aim.Reads (clipped h.size (span_of op)) timed
      (had got awaited) i) in
      reads_on_fits op got timed _ _ i due (each_more AwaitedPlaced awaited _ w due)

  pub reads_fits : (op : CallOp) (got : List Column) (timed : List TimedOut) (awaited : List Awaited)
      → IsHeldIn h.reach (clipped h.size (span_of op)) → ArePlaced awaited
      → MovedFits c h op (reads h (clipped h.size (span_of op)) got timed awaited)
  unfolding reads
  reads_fits op got timed awaited i w = reads_unless_fits op got timed awaited _ i w

  pub probes_on_fits : (op : CallOp) (got : List Column) (timed : List TimedOut) (sent awaited : List Awaited)
      → ArePlaced sent → ArePlaced awaited → MovedFits c h op (probes_on h got timed sent awaited)
  unfolding probes_on
  probes_on_fits op got timed sent [] s w = record { file = refl; held = counted_own sent; sent = s; turn = tt }
  probes_on_fits op got timed sent (a ∷ xs) s w = record {
    file = refl;
    held = counted_own sent;
    sent = s;
    turn = (w, tt);
  }
