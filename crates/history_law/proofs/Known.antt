-- What a client's dealings with the drives send is what may be sent under its grant.
use Rattle.std.proofs.Common.{◌≡◌, ◌==◌, ℕ, Bool, true, false, List, [], ◌∷◌, ◌++◌, ◌+◌, Option, Some, None, filter, refl, if◌then◌else◌}
use Rattle.layout_ops.specs.declared.statuses.TheConstants.{NFS4_OK}
use Rattle.history_law.specs.State.{CallOp, Held, Awaited, TimedOut, Commit, Phase, Starts, Needs, Waits, Reads, Probes, Gathers, Scatters, Io, Turn, Goes, Ends, Forgets, Moved, Answer, Reply, Command, Span, Ask, Column, Store}
use Rattle.client_rules.specs.Turns.{turned, needing}
use Rattle.client_rules.specs.Results.{status_of}
use Rattle.client_rules.specs.Commands.{credential_of, command, numbered, carrying_none, read_commands, write_commands, others, not_of, placed, before, in_order}
use Rattle.client_rules.specs.Io.{awaited_in}
use Rattle.client_rules.specs.Reads.{reads_on, reads_unless, reads, probes_on, probes_by, probes}
use Rattle.client_rules.specs.Writes.{accounted, is_past_size, written, scatters_on, scatters, scatters_next, gathers_on, gathers}
use Rattle.client_rules.specs.Replies.{performed, refused, replied, gather_timed, scatter_timed, timed_out}
use Rattle.client_rules.specs.Answers.{committed, not_committed, on_commit}
use Rattle.client_rules.specs.Going.{begins}

-- ---- what is known

-- each of these commands, with its drive, is known
abbrev pub AreKnown : (ℕ → Command → Type 0) → List Awaited → Type 0
AreKnown Q [] = Unit {0}
AreKnown Q (a ∷ xs) = Q a.drive a.command × AreKnown Q xs

-- whatever a client sends under a grant with these components is known
abbrev pub HeldKnown : (ℕ → Command → Type 0) → Held → Type 0
HeldKnown Q h =
    (j : Held) → j.components ≡ h.components → (write : Bool) (w : Store) (nonce : ℕ)
    → Q (credential_of j w.ask.component).drive (command j write w nonce)

-- what is awaited then
abbrev pub TurnKnown : (ℕ → Command → Type 0) → Turn → Type 0
TurnKnown Q (Goes p) = AreKnown Q (awaited_in p)
TurnKnown Q t = Unit {0}

pub record MovedKnown (Q : ℕ → Command → Type 0) (m : Moved) : Type 0 where
  pub held : HeldKnown Q m.held
  pub sent : AreKnown Q m.sent
  pub turn : TurnKnown Q m.turn

module _ (Q : ℕ → Command → Type 0) where
  -- ---- lists

  pub more_known : (xs ys : List Awaited) → AreKnown Q xs → AreKnown Q ys → AreKnown Q (xs ++ ys)
  more_known [] ys k l = l
  more_known (a ∷ xs) ys k l = (k.0, more_known xs ys k.1 l)

  one_known : (b : Bool) (a : Awaited) (xs : List Awaited) → Q a.drive a.command → AreKnown Q xs
      → AreKnown Q (if b then a ∷ xs else xs)
  one_known true a xs k l = (k, l)
  one_known false a xs k l = l

  filter_known : (p : Awaited → Bool) (xs : List Awaited) → AreKnown Q xs → AreKnown Q (filter p xs)
  filter_known p [] k = tt
  filter_known p (a ∷ xs) k = one_known (p a) a (filter p xs) k.0 (filter_known p xs k.1)

  others_known : (xs : List Awaited) (nonce : ℕ) → AreKnown Q xs → AreKnown Q (others xs nonce)
  unfolding others
  others_known xs nonce k = filter_known _ xs k

  rest_known : (n : ℕ) (xs : List Awaited) → AreKnown Q xs → AreKnown Q (not_of n xs)
  unfolding not_of
  rest_known n xs k = filter_known _ xs k

  either_known : (b : Bool) (xs ys : List Awaited) → AreKnown Q xs → AreKnown Q ys
      → AreKnown Q (if b then xs else ys)
  either_known true xs ys k l = k
  either_known false xs ys k l = l

  placed_known : (a : Awaited) (xs : List Awaited) → Q a.drive a.command → AreKnown Q xs → AreKnown Q (placed a xs)
  unfolding placed
  placed_known a [] k l = (k, tt)
  placed_known a (b ∷ bs) k l =
      either_known (before a.ask b.ask) (a ∷ b ∷ bs) (b ∷ placed a bs) (k, l) (l.0, placed_known a bs k l.1)

  pub ordered_known : (xs : List Awaited) → AreKnown Q xs → AreKnown Q (in_order xs)
  unfolding in_order
  ordered_known [] k = tt
  ordered_known (a ∷ xs) k = placed_known a (in_order xs) k.0 (ordered_known xs k.1)

  -- ---- commands under a grant

  numbered_known : (h : Held) (write : Bool) (count : ℕ) (ws : List Store) → HeldKnown Q h
      → AreKnown Q (numbered h write count ws)
  unfolding numbered
  numbered_known h write count [] k = tt
  numbered_known h write count (w ∷ ws) k = (k h refl write w _, numbered_known h write (count + 1) ws k)

  read_known : (h : Held) (xs : List Ask) → HeldKnown Q h → AreKnown Q (read_commands h xs)
  unfolding read_commands
  read_known h xs k = numbered_known h false h.count (carrying_none xs) k

  write_known : (h : Held) (ws : List Store) → HeldKnown Q h → AreKnown Q (write_commands h ws)
  unfolding write_commands
  write_known h ws k = numbered_known h true h.count ws k

  -- ---- reads

  either_moved : (b : Bool) (m n : Moved) → MovedKnown Q m → MovedKnown Q n → MovedKnown Q (if b then m else n)
  either_moved true m n k l = k
  either_moved false m n k l = l

  turned_known : (h : Held) (t : Turn) → HeldKnown Q h → TurnKnown Q t → MovedKnown Q (turned h t)
  turned_known h t k l = record { held = k; sent = tt; turn = l }

  reads_on_known : (h : Held) (r : Span) (got : List Column) (timed : List TimedOut) (sent awaited : List Awaited)
      → HeldKnown Q h → AreKnown Q sent → AreKnown Q awaited → MovedKnown Q (reads_on h r got timed sent awaited)
  unfolding reads_on
  reads_on_known h r got timed sent [] k s w = record { held = k; sent = s; turn = tt }
  reads_on_known h r got timed sent (a ∷ xs) k s w = record { held = k; sent = s; turn = w }

  reads_unless_known : (h : Held) (r : Span) (got : List Column) (timed : List TimedOut) (awaited : List Awaited)
      (o : Option (List ℕ)) → HeldKnown Q h → AreKnown Q awaited → MovedKnown Q (reads_unless h r got timed awaited o)
  reads_unless_known h r got timed awaited (Some ps) k w = turned_known h _ k tt
  reads_unless_known h r got timed awaited None k w =
      reads_on_known h r got timed _ _ k (read_known h _ k) (more_known awaited _ w (read_known h _ k))

  reads_known : (h : Held) (r : Span) (got : List Column) (timed : List TimedOut) (awaited : List Awaited)
      → HeldKnown Q h → AreKnown Q awaited → MovedKnown Q (reads h r got timed awaited)
  unfolding reads
  reads_known h r got timed awaited k w = reads_unless_known h r got timed awaited _ k w

  probes_on_known : (h : Held) (got : List Column) (timed : List TimedOut) (sent awaited : List Awaited)
      → HeldKnown Q h → AreKnown Q sent → AreKnown Q awaited → MovedKnown Q (probes_on h got timed sent awaited)
  unfolding probes_on
  probes_on_known h got timed sent [] k s w = record { held = k; sent = s; turn = tt }
  probes_on_known h got timed sent (a ∷ xs) k s w = record { held = k; sent = s; turn = w }

  probes_by_known : (h : Held) (got : List Column) (timed : List TimedOut) (awaited : List Awaited) (o : Option ℕ)
      → HeldKnown Q h → AreKnown Q awaited → MovedKnown Q (probes_by h got timed awaited o)
  probes_by_known h got timed awaited None k w = turned_known h _ k tt
  probes_by_known h got timed awaited (Some n) k w =
      either_moved _ _ _ (turned_known h _ k tt)
      (probes_on_known h got timed _ _ k (read_known h _ k) (more_known awaited _ w (read_known h _ k)))

  probes_known : (h : Held) (got : List Column) (timed : List TimedOut) (awaited : List Awaited) → HeldKnown Q h
      → AreKnown Q awaited → MovedKnown Q (probes h got timed awaited)
  unfolding probes
  probes_known h got timed awaited k w = probes_by_known h got timed awaited _ k w

  -- ---- writes

  either_turn : (b : Bool) (t u : Turn) → TurnKnown Q t → TurnKnown Q u → TurnKnown Q (if b then t else u)
  either_turn true t u k l = k
  either_turn false t u k l = l

  accounted_known : (op : CallOp) (timed : List TimedOut) → TurnKnown Q (accounted op timed)
  accounted_known op [] = tt
  accounted_known op (t ∷ ts) = tt

  written_known : (h : Held) (op : CallOp) (timed : List TimedOut) → TurnKnown Q (written h op timed)
  unfolding written
  written_known h op timed =
      either_turn (is_past_size h op) (needing (Commit timed)) (accounted op timed) tt (accounted_known op timed)

  scatters_on_known : (h : Held) (op : CallOp) (timed : List TimedOut) (queue : List Store)
      (sent awaited : List Awaited) → HeldKnown Q h → AreKnown Q sent → AreKnown Q awaited
      → MovedKnown Q (scatters_on h op timed queue sent awaited)
  unfolding scatters_on
  scatters_on_known h op timed queue sent [] k s w = record { held = k; sent = s; turn = written_known h op timed }
  scatters_on_known h op timed queue sent (a ∷ xs) k s w = record { held = k; sent = s; turn = w }

  scatters_known : (h : Held) (op : CallOp) (got : List Column) (timed : List TimedOut) → HeldKnown Q h
      → MovedKnown Q (scatters h op got timed)
  unfolding scatters
  scatters_known h op got timed k = scatters_on_known h op timed _ _ _ k (write_known h _ k) (write_known h _ k)

  next_known : (h : Held) (op : CallOp) (timed : List TimedOut) (queue : List Store) (n : ℕ) (awaited : List Awaited)
      → HeldKnown Q h → AreKnown Q awaited → MovedKnown Q (scatters_next h op timed queue n awaited)
  unfolding scatters_next
  next_known h op timed queue n awaited k w =
      scatters_on_known h op timed _ _ _ k (write_known h _ k) (more_known awaited _ w (write_known h _ k))

  gathers_on_known : (h : Held) (op : CallOp) (got : List Column) (timed : List TimedOut) (sent awaited : List Awaited)
      → HeldKnown Q h → AreKnown Q sent → AreKnown Q awaited → MovedKnown Q (gathers_on h op got timed sent awaited)
  unfolding gathers_on
  gathers_on_known h op got timed sent [] k s w = scatters_known h op got timed k
  gathers_on_known h op got timed sent (a ∷ xs) k s w = record { held = k; sent = s; turn = w }

  gathers_known : (h : Held) (op : CallOp) (got : List Column) (timed : List TimedOut) (awaited : List Awaited)
      → HeldKnown Q h → AreKnown Q awaited → MovedKnown Q (gathers h op got timed awaited)
  unfolding gathers
  gathers_known h op got timed awaited k w =
      gathers_on_known h op got timed _ _ k (read_known h _ k) (more_known awaited _ w (read_known h _ k))

  -- ---- replies

  performed_known : (h : Held) (op : CallOp) (p : Phase) (a : Awaited) (r : Reply) → HeldKnown Q h
      → AreKnown Q (awaited_in p) → MovedKnown Q (performed h op p a r)
  performed_known h op (Reads io) a r k w =
      reads_on_known h _ _ io.timed [] _ k tt (others_known io.awaited a.command.nonce w)
  performed_known h op (Probes io) a r k w =
      probes_on_known h _ io.timed [] _ k tt (others_known io.awaited a.command.nonce w)
  performed_known h op (Gathers io) a r k w =
      gathers_on_known h op _ io.timed [] _ k tt (others_known io.awaited a.command.nonce w)
  performed_known h op (Scatters io queue) a r k w =
      next_known h op io.timed queue _ _ k (others_known io.awaited a.command.nonce w)
  performed_known h op Starts a r k w = turned_known h _ k tt
  performed_known h op (Needs need) a r k w = turned_known h _ k tt
  performed_known h op (Waits need) a r k w = turned_known h _ k tt

  refused_known : (h : Held) (p : Phase) (a : Awaited) (r : Reply) → HeldKnown Q h → MovedKnown Q (refused h p a r)
  unfolding refused
  refused_known h p a r k = either_moved _ _ _ (turned_known h _ k tt) (turned_known h _ k tt)

  pub replied_known : (h : Held) (op : CallOp) (p : Phase) (a : Awaited) (r : Reply) → HeldKnown Q h
      → AreKnown Q (awaited_in p) → MovedKnown Q (replied h op p a r)
  unfolding replied
  replied_known h op p a r k w = either_moved _ _ _ (performed_known h op p a r k w) (refused_known h p a r k)

  -- ---- timeouts

  gather_timed_known : (h : Held) (op : CallOp) (io : Io) (n : ℕ) (timed : List TimedOut) → HeldKnown Q h
      → AreKnown Q io.awaited → MovedKnown Q (gather_timed h op io n timed)
  unfolding gather_timed
  gather_timed_known h op io n timed k w =
      either_moved _ _ _ (turned_known h _ k tt) (gathers_known h op io.got timed _ k (rest_known n io.awaited w))

  scatter_timed_known : (h : Held) (op : CallOp) (io : Io) (queue : List Store) (n : ℕ) (timed : List TimedOut)
      → HeldKnown Q h → AreKnown Q io.awaited → MovedKnown Q (scatter_timed h op io queue n timed)
  unfolding scatter_timed
  scatter_timed_known h op io queue n timed k w =
      either_moved _ _ _ (turned_known h _ k tt)
      (scatters_on_known h op timed _ [] _ k tt (rest_known n io.awaited w))

  pub timed_out_known : (h : Held) (op : CallOp) (p : Phase) (n : ℕ) (a : Awaited) (xs : List Awaited)
      → HeldKnown Q h → AreKnown Q (awaited_in p) → MovedKnown Q (timed_out h op p n a xs)
  timed_out_known h op (Reads io) n a xs k w = reads_known h _ io.got _ _ k (rest_known n io.awaited w)
  timed_out_known h op (Probes io) n a xs k w = probes_known h io.got _ _ k (rest_known n io.awaited w)
  timed_out_known h op (Gathers io) n a xs k w = gather_timed_known h op io n _ k w
  timed_out_known h op (Scatters io queue) n a xs k w = scatter_timed_known h op io queue n _ k w
  timed_out_known h op Starts n a xs k w = turned_known h _ k tt
  timed_out_known h op (Needs need) n a xs k w = turned_known h _ k tt
  timed_out_known h op (Waits need) n a xs k w = turned_known h _ k tt

  -- ---- the begin, and a commit

  pub begins_known : (h : Held) (op : CallOp) → HeldKnown Q h → MovedKnown Q (begins h op)
  unfolding begins
  begins_known h op k =
      either_moved _ _ _ (gathers_known h op [] [] [] k tt)
      (either_moved _ _ _ (probes_known h [] [] [] k tt) (reads_known h _ [] [] [] k tt))

  not_committed_known : (status detail : ℕ) → TurnKnown Q (not_committed status detail)
  unfolding not_committed
  not_committed_known status detail = either_turn _ (Forgets _) (Ends _) tt tt

  pub on_commit_known : (h : Held) (op : CallOp) (a : Answer) (timed : List TimedOut) → HeldKnown Q h
      → MovedKnown Q (on_commit h op a timed)
  unfolding on_commit
  on_commit_known h op a timed k =
      either_moved (status_of a.results == NFS4_OK) (committed h op a timed)
      (turned h (not_committed (status_of a.results) a.detail))
      (turned_known (record h { size = a.size }) (accounted op timed) k (accounted_known op timed))
      (turned_known h _ k (not_committed_known (status_of a.results) a.detail))
