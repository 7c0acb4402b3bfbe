-- What a call does with the drives: which of its WRITEs are awaited then, and of which components they are.
use Rattle.std.proofs.Common.{◌≡◌, ◌⊎◌, ℕ, ◌+◌, ◌==◌, Bool, true, false, List, [], ◌∷◌, ◌++◌, Option, Some, None, refl, sym, ap, subst, ◌∙◌, inl, inr, if◌then◌else◌}
use Rattle.osd_drive.specs.Table.{is_mutating}
use Rattle.layout_ops.specs.declared.statuses.TheConstants.{NFS4_OK}
use Rattle.server_rules.specs.Laws.{In}
use Rattle.server_rules.proofs.Members.{in_behind, in_either, in_filtered}
use Rattle.exchange_law.specs.ClientState.{CallOp, Held, Awaited, TimedOut, Io, Commit, Phase, Starts, Needs, Waits, Reads, Probes, Gathers, Scatters, Outcome, Silent, Turn, Goes, Ends, Forgets, Moved, Answer, Reply, Span, Ask, Column, Store}
use Rattle.client_rules.specs.Results.{status_of}
use Rattle.client_rules.specs.Requests.{object_of, report_of}
use Rattle.client_rules.specs.Commands.{credential_of, sealed, command, numbered, carrying_none, read_commands, write_commands, others, not_of}
use Rattle.client_rules.specs.Io.{awaited_in}
use Rattle.client_rules.specs.Turns.{turned, ended, needing, closing}
use Rattle.client_rules.specs.Reads.{reads_on, reads_unless, reads, probes_on, probes_by, probes}
use Rattle.client_rules.specs.Writes.{accounted, is_past_size, written, scatters_on, scatters, scatters_next, gathers_on, gathers, is_too_short, without_component}
use Rattle.client_rules.specs.Replies.{refusal, refused_report, performed, refused, replied, gather_timed, scatter_timed, timed_out}
use Rattle.client_rules.specs.Answers.{committed, not_committed, on_commit}
use Rattle.client_rules.specs.Going.{begins}
use Rattle.client_rules.specs.Laws.{NoneTo, AreApart}
use Rattle.client_rules.proofs.Apart.{IsIn, others_apart, rest_apart, others_none, next_apart, firsts_apart}

-- ---- what is known of commands

-- a command is for its component's object, under that component's capability
pub record IsOf (h : Held) (x : Awaited) : Type 0 where
  pub object : x.command.object ≡ (object_of h x.ask.component).oid_object_id
  pub capability : x.command.capability ≡ (credential_of h x.ask.component).capability

-- so are all of these
abbrev pub AreOf : Held → List Awaited → Type 0
AreOf h xs = (x : Awaited) → In x xs → IsOf h x

-- none of these is a WRITE
abbrev pub NoneWrites : List Awaited → Type 0
NoneWrites xs = (x : Awaited) → In x xs → is_mutating x.command.action ≡ true → ⊥

-- a phase awaits no WRITEs, or one of each component
abbrev pub PhaseFine : Phase → Type 0
PhaseFine Starts = Unit {0}
PhaseFine (Needs n) = Unit {0}
PhaseFine (Waits n) = Unit {0}
PhaseFine (Reads io) = NoneWrites io.awaited
PhaseFine (Probes io) = NoneWrites io.awaited
PhaseFine (Gathers io) = NoneWrites io.awaited
PhaseFine (Scatters io queue) = AreApart io.awaited

-- What is awaited in a phase was awaited before or is sent; and each WRITE that is sent is awaited.
pub record PhaseWell (old sent : List Awaited) (p : Phase) : Type 0 where
  pub fine : PhaseFine p
  pub stays : (x : Awaited) → In x (awaited_in p) → In x old ⊎ In x sent
  pub writes : (x : Awaited) → In x sent → is_mutating x.command.action ≡ true → In x (awaited_in p)

unfoldable pub TurnWell : (old sent : List Awaited) → Turn → Type 0
TurnWell old sent (Goes p) = PhaseWell old sent p
TurnWell old sent (Ends o) = Unit {0}
TurnWell old sent (Forgets o) = Unit {0}

goes : (old sent : List Awaited) (p : Phase) → PhaseWell old sent p → TurnWell old sent (Goes p)
unfolding TurnWell
goes old sent p x = x

ends : (old sent : List Awaited) (o : Outcome) → TurnWell old sent (Ends o)
unfolding TurnWell
ends old sent o = tt

forgets : (old sent : List Awaited) (o : Outcome) → TurnWell old sent (Forgets o)
unfolding TurnWell
forgets old sent o = tt

pub phase_well : (old sent : List Awaited) (p : Phase) → TurnWell old sent (Goes p) → PhaseWell old sent p
unfolding TurnWell
phase_well old sent p x = x

-- the components stay, and what is sent is of them
pub record MovedWell (h : Held) (old : List Awaited) (m : Moved) : Type 0 where
  pub components : m.held.components ≡ h.components
  pub of : AreOf h m.sent
  pub turn : TurnWell old m.sent m.turn

-- ---- lists

pub in_is : (x : Awaited) (xs : List Awaited) → In x xs → IsIn x xs
in_is x [] i = absurd i
in_is x (y ∷ ys) (inl e) = inl e
in_is x (y ∷ ys) (inr i) = inr (in_is x ys i)

pub is_in : (x : Awaited) (xs : List Awaited) → IsIn x xs → In x xs
is_in x [] i = absurd i
is_in x (y ∷ ys) (inl e) = inl e
is_in x (y ∷ ys) (inr i) = inr (is_in x ys i)

others_in : (x : Awaited) (xs : List Awaited) (nonce : ℕ) → In x (others xs nonce) → In x xs
unfolding others
others_in x xs nonce i = (in_filtered _ x xs i).0

rest_in : (x : Awaited) (xs : List Awaited) (k : ℕ) → In x (not_of k xs) → In x xs
unfolding not_of
rest_in x xs k i = (in_filtered _ x xs i).0

-- ---- commands under a grant

one_of : (h : Held) (write : Bool) (w : Store) (nonce : ℕ) (x : Awaited)
    → x ≡ record {
      write = write;
      ask = w.ask;
      drive = (credential_of h w.ask.component).drive;
      command = command h write w nonce;
    } → IsOf h x
unfolding command sealed
one_of h write w nonce x e = record {
  object =
      ap (λ (y : Awaited). y.command.object) e ∙ ap (λ (y : Awaited). (object_of h y.ask.component).oid_object_id) (sym e);
  capability =
      ap (λ (y : Awaited). y.command.capability) e
      ∙ ap (λ (y : Awaited). (credential_of h y.ask.component).capability) (sym e);
}

numbered_of : (h : Held) (write : Bool) (count : ℕ) (ws : List Store) → AreOf h (numbered h write count ws)
unfolding numbered
numbered_of h write count [] x i = absurd i
numbered_of h write count (w ∷ ws) x (inl e) = one_of h write w _ x e
numbered_of h write count (w ∷ ws) x (inr i) = numbered_of h write (count + 1) ws x i

no_write : (h : Held) (w : Store) (nonce : ℕ) → is_mutating (command h false w nonce).action ≡ true → ⊥
unfolding command sealed
no_write h w nonce e = cc e

numbered_reads : (h : Held) (count : ℕ) (ws : List Store) → NoneWrites (numbered h false count ws)
unfolding numbered
numbered_reads h count [] x i e = i
numbered_reads h count (w ∷ ws) x (inl same) e =
    no_write h w _ (ap (λ (y : Awaited). is_mutating y.command.action) (sym same) ∙ e)
numbered_reads h count (w ∷ ws) x (inr i) e = numbered_reads h (count + 1) ws x i e

read_of : (h : Held) (xs : List Ask) → AreOf h (read_commands h xs)
unfolding read_commands
read_of h xs = numbered_of h false h.count (carrying_none xs)

read_reads : (h : Held) (xs : List Ask) → NoneWrites (read_commands h xs)
unfolding read_commands
read_reads h xs = numbered_reads h h.count (carrying_none xs)

write_of : (h : Held) (ws : List Store) → AreOf h (write_commands h ws)
unfolding write_commands
write_of h ws = numbered_of h true h.count ws

none_of : (h : Held) → AreOf h []
none_of h x i = absurd i

-- ---- one of two, and what sends nothing

module _ (h : Held) (old : List Awaited) where
  either : (b : Bool) (m n : Moved) → MovedWell h old m → MovedWell h old n → MovedWell h old (if b then m else n)
  either true m n x y = x
  either false m n x y = y

  either_turn : (sent : List Awaited) (b : Bool) (t u : Turn) → TurnWell old sent t → TurnWell old sent u
      → TurnWell old sent (if b then t else u)
  either_turn sent true t u x y = x
  either_turn sent false t u x y = y

  turned_well : (t : Turn) → TurnWell old [] t → MovedWell h old (turned h t)
  turned_well t x = record { components = refl; of = none_of h; turn = x }

  -- a phase that awaits nothing
  empty_well : (p : Phase) → awaited_in p ≡ [] → PhaseFine p → PhaseWell old [] p
  empty_well p none fine = record {
    fine = fine;
    stays = λ x i. absurd (subst (In x) none i);
    writes = λ x i e. absurd i;
  }

  -- ---- READs

  -- it asks for more, or has all
  reads_on_well : (r : Span) (got : List Column) (timed : List TimedOut) (sent awaited : List Awaited) → AreOf h sent
      → NoneWrites sent → NoneWrites awaited → ((x : Awaited) → In x awaited → In x old ⊎ In x sent)
      → MovedWell h old (reads_on h r got timed sent awaited)
  unfolding reads_on
  reads_on_well r got timed sent [] of s n k = record { components = refl; of = of; turn = ends _ _ _ }
  reads_on_well r got timed sent (a ∷ xs) of s n k = record {
    components = refl;
    of = of;
    turn = goes _ _ _ (record { fine = n; stays = k; writes = λ x i e. absurd (s x i e) });
  }

  more_in : (awaited sent : List Awaited) → ((x : Awaited) → In x awaited → In x old)
      → (x : Awaited) → In x (awaited ++ sent) → In x old ⊎ In x sent
  more_in awaited sent k x i = elim (in_either x awaited sent i) [ inl j ↦ inl (k x j) | inr j ↦ inr j ]

  more_reads : (xs ys : List Awaited) → NoneWrites xs → NoneWrites ys → NoneWrites (xs ++ ys)
  more_reads xs ys n m x i e = elim (in_either x xs ys i) [ inl j ↦ n x j e | inr j ↦ m x j e ]

  reads_unless_well : (r : Span) (got : List Column) (timed : List TimedOut) (awaited : List Awaited)
      (o : Option (List ℕ)) → NoneWrites awaited → ((x : Awaited) → In x awaited → In x old)
      → MovedWell h old (reads_unless h r got timed awaited o)
  reads_unless_well r got timed awaited (Some ps) n k = turned_well _ (ends _ _ _)
  reads_unless_well r got timed awaited None n k =
      reads_on_well r got timed _ _ (read_of h _) (read_reads h _) (more_reads awaited _ n (read_reads h _))
      (more_in awaited _ k)

  reads_well : (r : Span) (got : List Column) (timed : List TimedOut) (awaited : List Awaited) → NoneWrites awaited
      → ((x : Awaited) → In x awaited → In x old) → MovedWell h old (reads h r got timed awaited)
  unfolding reads
  reads_well r got timed awaited n k = reads_unless_well r got timed awaited _ n k

  probes_on_well : (got : List Column) (timed : List TimedOut) (sent awaited : List Awaited) → AreOf h sent
      → NoneWrites sent → NoneWrites awaited → ((x : Awaited) → In x awaited → In x old ⊎ In x sent)
      → MovedWell h old (probes_on h got timed sent awaited)
  unfolding probes_on
  probes_on_well got timed sent [] of s n k = record { components = refl; of = of; turn = ends _ _ _ }
  probes_on_well got timed sent (a ∷ xs) of s n k = record {
    components = refl;
    of = of;
    turn = goes _ _ _ (record { fine = n; stays = k; writes = λ x i e. absurd (s x i e) });
  }

  probes_by_well : (got : List Column) (timed : List TimedOut) (awaited : List Awaited) (o : Option ℕ)
      → NoneWrites awaited → ((x : Awaited) → In x awaited → In x old)
      → MovedWell h old (probes_by h got timed awaited o)
  probes_by_well got timed awaited None n k = turned_well _ (ends _ _ _)
  probes_by_well got timed awaited (Some j) n k =
      either _ _ _ (turned_well _ (ends _ _ _))
      (probes_on_well got timed _ _ (read_of h _) (read_reads h _) (more_reads awaited _ n (read_reads h _))
      (more_in awaited _ k))

  probes_well : (got : List Column) (timed : List TimedOut) (awaited : List Awaited) → NoneWrites awaited
      → ((x : Awaited) → In x awaited → In x old) → MovedWell h old (probes h got timed awaited)
  unfolding probes
  probes_well got timed awaited n k = probes_by_well got timed awaited _ n k

  -- ---- WRITEs

  accounted_well : (sent : List Awaited) (op : CallOp) (timed : List TimedOut) → NoneWrites sent
      → TurnWell old sent (accounted op timed)
  accounted_well sent op [] n = ends _ _ _
  accounted_well sent op (t ∷ ts) n =
      goes _ _ _ (record { fine = tt; stays = λ x i. absurd i; writes = λ x i e. absurd (n x i e) })

  written_well : (sent : List Awaited) (op : CallOp) (timed : List TimedOut) → NoneWrites sent
      → TurnWell old sent (written h op timed)
  unfolding written
  written_well sent op timed n =
      either_turn sent (is_past_size h op) (needing (Commit timed)) (accounted op timed)
      (goes _ _ _ (record { fine = tt; stays = λ x i. absurd i; writes = λ x i e. absurd (n x i e) }))
      (accounted_well sent op timed n)

  scatters_on_well : (op : CallOp) (timed : List TimedOut) (queue : List Store) (sent awaited : List Awaited)
      → AreOf h sent → AreApart awaited → ((x : Awaited) → In x awaited → In x old ⊎ In x sent)
      → ((x : Awaited) → In x sent → In x awaited) → MovedWell h old (scatters_on h op timed queue sent awaited)
  unfolding scatters_on
  scatters_on_well op timed queue sent [] of n k s = record {
    components = refl;
    of = of;
    turn = written_well sent op timed (λ x i e. s x i);
  }
  scatters_on_well op timed queue sent (a ∷ xs) of n k s = record {
    components = refl;
    of = of;
    turn = goes _ _ _ (record { fine = n; stays = k; writes = λ x i e. s x i });
  }

  scatters_well : (op : CallOp) (got : List Column) (timed : List TimedOut) → MovedWell h old (scatters h op got timed)
  unfolding scatters
  scatters_well op got timed =
      scatters_on_well op timed _ _ _ (write_of h _) (firsts_apart h _) (λ x i. inr i) (λ x i. i)

  next_well : (op : CallOp) (timed : List TimedOut) (queue : List Store) (n : ℕ) (awaited : List Awaited)
      → AreApart awaited → NoneTo n awaited → ((x : Awaited) → In x awaited → In x old)
      → MovedWell h old (scatters_next h op timed queue n awaited)
  unfolding scatters_next
  next_well op timed queue n awaited apart none k =
      scatters_on_well op timed _ _ _ (write_of h _) (next_apart h n queue awaited apart none) (more_in awaited _ k)
      (λ x i. in_behind x awaited _ i)

  gathers_on_well : (op : CallOp) (got : List Column) (timed : List TimedOut) (sent awaited : List Awaited)
      → AreOf h sent → NoneWrites sent → NoneWrites awaited
      → ((x : Awaited) → In x awaited → In x old ⊎ In x sent) → MovedWell h old (gathers_on h op got timed sent awaited)
  unfolding gathers_on
  gathers_on_well op got timed sent [] of s n k = scatters_well op got timed
  gathers_on_well op got timed sent (a ∷ xs) of s n k = record {
    components = refl;
    of = of;
    turn = goes _ _ _ (record { fine = n; stays = k; writes = λ x i e. absurd (s x i e) });
  }

  gathers_well : (op : CallOp) (got : List Column) (timed : List TimedOut) (awaited : List Awaited)
      → NoneWrites awaited → ((x : Awaited) → In x awaited → In x old) → MovedWell h old (gathers h op got timed awaited)
  unfolding gathers
  gathers_well op got timed awaited n k =
      gathers_on_well op got timed _ _ (read_of h _) (read_reads h _) (more_reads awaited _ n (read_reads h _))
      (more_in awaited _ k)

  -- ---- the begin, and a commit

  no_reads : NoneWrites []
  no_reads x i e = i

  pub begins_well : (op : CallOp) → MovedWell h old (begins h op)
  unfolding begins
  begins_well op =
      either _ _ _ (gathers_well op [] [] [] no_reads (λ x i. absurd i))
      (either _ _ _ (probes_well [] [] [] no_reads (λ x i. absurd i))
      (reads_well _ [] [] [] no_reads (λ x i. absurd i)))

  not_committed_well : (status detail : ℕ) → TurnWell old [] (not_committed status detail)
  unfolding not_committed
  not_committed_well status detail = either_turn [] _ _ _ (forgets _ _ _) (ends _ _ _)

  pub on_commit_well : (op : CallOp) (a : Answer) (timed : List TimedOut) → MovedWell h old (on_commit h op a timed)
  unfolding on_commit
  on_commit_well op a timed =
      either (status_of a.results == NFS4_OK) (committed h op a timed)
      (turned h (not_committed (status_of a.results) a.detail))
      (record { components = refl; of = none_of h; turn = accounted_well [] op timed no_reads })
      (turned_well _ (not_committed_well _ _))

-- ---- replies

module _ (h : Held) where
  filtered_reads : (xs ys : List Awaited) → ((x : Awaited) → In x ys → In x xs) → NoneWrites xs → NoneWrites ys
  filtered_reads xs ys k n x i e = n x (k x i) e

  performed_well : (op : CallOp) (p : Phase) (a : Awaited) (r : Reply) → PhaseFine p → In a (awaited_in p)
      → MovedWell h (awaited_in p) (performed h op p a r)
  performed_well op (Reads io) a r f i =
      let k : (x : Awaited) → In x (others io.awaited a.command.nonce) → In x io.awaited =
      λ x j. others_in x io.awaited a.command.nonce j in
      reads_on_well h io.awaited _ _ io.timed [] _ (none_of h) (λ x j e. j) (filtered_reads io.awaited _ k f)
      (λ x j. inl (k x j))
  performed_well op (Probes io) a r f i =
      let k : (x : Awaited) → In x (others io.awaited a.command.nonce) → In x io.awaited =
      λ x j. others_in x io.awaited a.command.nonce j in
      probes_on_well h io.awaited _ io.timed [] _ (none_of h) (λ x j e. j) (filtered_reads io.awaited _ k f)
      (λ x j. inl (k x j))
  performed_well op (Gathers io) a r f i =
      let k : (x : Awaited) → In x (others io.awaited a.command.nonce) → In x io.awaited =
      λ x j. others_in x io.awaited a.command.nonce j in
      gathers_on_well h io.awaited op _ io.timed [] _ (none_of h) (λ x j e. j) (filtered_reads io.awaited _ k f)
      (λ x j. inl (k x j))
  performed_well op (Scatters io queue) a r f i =
      next_well h io.awaited op io.timed queue _ _ (others_apart io.awaited a.command.nonce f)
      (others_none io.awaited a f (in_is a io.awaited i)) (λ x j. others_in x io.awaited a.command.nonce j)
  performed_well op Starts a r f i = absurd i
  performed_well op (Needs n) a r f i = absurd i
  performed_well op (Waits n) a r f i = absurd i

  refused_well : (old : List Awaited) (p : Phase) (a : Awaited) (r : Reply) → MovedWell h old (refused h p a r)
  unfolding refused
  refused_well old p a r =
      either h old _ (turned h (Forgets (refusal a r))) (turned h (closing (refusal a r) (refused_report h p a r)))
      (turned_well h old _ (forgets _ _ _)) (turned_well h old _ (goes _ _ _ (empty_well h old _ refl tt)))

  pub replied_well : (op : CallOp) (p : Phase) (a : Awaited) (r : Reply) → PhaseFine p → In a (awaited_in p)
      → MovedWell h (awaited_in p) (replied h op p a r)
  unfolding replied
  replied_well op p a r f i =
      either h (awaited_in p) _ _ _ (performed_well op p a r f i) (refused_well (awaited_in p) p a r)

  -- ---- timeouts

  gather_timed_well : (op : CallOp) (io : Io) (k : ℕ) (timed : List TimedOut) → NoneWrites io.awaited
      → MovedWell h io.awaited (gather_timed h op io k timed)
  unfolding gather_timed
  gather_timed_well op io k timed n =
      either h io.awaited (is_too_short h op timed) (ended h (Silent k))
      (gathers h op io.got timed (not_of k io.awaited)) (turned_well h io.awaited _ (ends _ _ _))
      (gathers_well h io.awaited op io.got timed _
      (filtered_reads io.awaited _ (λ x i. rest_in x io.awaited k i) n) (λ x i. rest_in x io.awaited k i))

  scatter_timed_well : (op : CallOp) (io : Io) (queue : List Store) (k : ℕ) (timed : List TimedOut)
      → AreApart io.awaited → MovedWell h io.awaited (scatter_timed h op io queue k timed)
  unfolding scatter_timed
  scatter_timed_well op io queue k timed n =
      either h io.awaited (is_too_short h op timed) (turned h (closing (Silent k) (report_of h timed)))
      (scatters_on h op timed (without_component k queue) [] (not_of k io.awaited))
      (turned_well h io.awaited _ (goes _ _ _ (empty_well h io.awaited _ refl tt)))
      (scatters_on_well h io.awaited op timed _ [] _ (none_of h) (rest_apart k io.awaited n)
      (λ x i. inl (rest_in x io.awaited k i)) (λ x i. absurd i))

  pub timed_well : (op : CallOp) (p : Phase) (k : ℕ) (a : Awaited) (xs : List Awaited) → PhaseFine p
      → MovedWell h (awaited_in p) (timed_out h op p k a xs)
  timed_well op (Reads io) k a xs f =
      reads_well h io.awaited _ io.got _ _ (filtered_reads io.awaited _ (λ x i. rest_in x io.awaited k i) f)
      (λ x i. rest_in x io.awaited k i)
  timed_well op (Probes io) k a xs f =
      probes_well h io.awaited io.got _ _ (filtered_reads io.awaited _ (λ x i. rest_in x io.awaited k i) f)
      (λ x i. rest_in x io.awaited k i)
  timed_well op (Gathers io) k a xs f = gather_timed_well op io k _ f
  timed_well op (Scatters io queue) k a xs f = scatter_timed_well op io queue k _ f
  timed_well op Starts k a xs f = turned_well h [] _ (goes _ _ _ (empty_well h [] _ refl tt))
  timed_well op (Needs n) k a xs f = turned_well h [] _ (goes _ _ _ (empty_well h [] _ refl tt))
  timed_well op (Waits n) k a xs f = turned_well h [] _ (goes _ _ _ (empty_well h [] _ refl tt))
