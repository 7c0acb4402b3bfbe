-- How a call goes on with the drives: its begin, and the commands that are still to be sent.
-- Towards `CallsGoOn` (`specs/Steps.antt`).
use Rattle.std.proofs.Common.{◌≡◌, ◌⊎◌, ◌==◌, ℕ, ◌+◌, ◌/◌, ◌≤◌, Bool, true, false, List, [], ◌∷◌, ◌++◌, Option, Some, None, refl, sym, subst, inl, inr, arith, if◌then◌else◌}
use Rattle.std.specs.Prelude.{nat_lt}
use Rattle.std.proofs.lemmas.Bool.Decides.{nat_tests}
use Rattle.data_map.specs.declared.check.RawMap.{RawMap}
use Rattle.data_map.specs.Striping.{replicas}
use Rattle.layout_ops.specs.declared.messages.Answer.{Answer}
use Rattle.stripe_plan.specs.Plans.{stores}
use Rattle.server_rules.specs.Laws.{In}
use Rattle.client_rules.specs.Calls.{span_of, bytes_of, is_write}
use Rattle.client_rules.specs.Commands.{read_commands, write_commands, numbered, counted}
use Rattle.client_rules.specs.Going.{begins}
use Rattle.client_rules.specs.Grants.{clipped}
use Rattle.client_rules.specs.Io.{outs}
use Rattle.client_rules.specs.Laws.{Awaiting}
use Rattle.client_rules.specs.Reads.{reads_on, reads_unless, reads, reads_due, probes_on, probes_sent, probes_by, probes}
use Rattle.client_rules.specs.Turns.{ended}
use Rattle.client_rules.specs.Writes.{accounted, is_past_size, written, firsts, laters, scatters_on, scatters, gathers_on, gathers, gathers_due}
use Rattle.client_rules.proofs.Asked.{front_none}
use Rattle.world_history.specs.ClientNames.{CallOp, Held, Awaited, TimedOut, Store, Column, Span, Commit, Needs, ReadOk, Lost, Goes, Ends}
use Rattle.fence_law.specs.State.{State}
use Rattle.fence_law.specs.State.Commit.{NoCommit}
use Rattle.file_simulation.specs.Calls.{IsReading, IsGathering, IsWriting, AreOut, Fits, IsIdle}
use Rattle.relation_law.specs.CallsTurns.{PendsRead, PendsGather, IsSending, TurnIs, IsCounted, MovedIs, WritesSome, ReadsWait, stores_of}

-- ---- the grant

pub counted_same : (h : Held) → IsCounted h h
counted_same h = record { same = refl; more = omega arith }

pub counted_is : (h : Held) (sent : List Awaited) → IsCounted h (counted h sent)
counted_is h sent = record { same = refl; more = omega arith }

-- ---- lists

pub none_in : {A : Type 0} (xs : List A) → ((x : A) → In x xs → ⊥) → xs ≡ []
none_in [] none = refl
none_in (x ∷ xs) none = absurd (none x (inl refl))

pub none_behind : {A : Type 0} (xs ys : List A) → xs ++ ys ≡ [] → ys ≡ []
none_behind [] ys e = e
none_behind (x ∷ xs) ys e = absurd (cc e)

-- ---- the first WRITEs

pub first_sent : (h : Held) (ws : List Store) → (ws ≡ [] → ⊥) → Awaiting (write_commands h (firsts [] ws))
unfolding firsts write_commands numbered
first_sent h [] some = absurd (some refl)
first_sent h (w ∷ ws) some = tt

-- ---- reads

module _ (m : RawMap) (s : State) (c : ℕ) (op : CallOp) (o : Option Answer) (h : Held) where
  pub reads_on_is : (r : Span) (got : List Column) (timed : List TimedOut) (sent awaited : List Awaited) →
      PendsRead s c op sent → (awaited ≡ [] → (j : ℕ) × IsReading s c op j) →
      MovedIs m s c op o h (reads_on h r got timed sent awaited)
  unfolding reads_on
  reads_on_is r got timed sent [] k e = record { held = counted_is h sent; turn = e refl }
  reads_on_is r got timed sent (a ∷ xs) k e = record { held = counted_is h sent; turn = k }

  pub probes_on_is : (got : List Column) (timed : List TimedOut) (sent awaited : List Awaited) →
      PendsRead s c op sent → (awaited ≡ [] → (j : ℕ) × IsReading s c op j) →
      MovedIs m s c op o h (probes_on h got timed sent awaited)
  unfolding probes_on
  probes_on_is got timed sent [] k e = record { held = counted_is h sent; turn = e refl }
  probes_on_is got timed sent (a ∷ xs) k e = record { held = counted_is h sent; turn = k }

  -- at its begin: the client is idle, and something is awaited, or nothing can be read
  reads_first : (r : Span) (got : List Column) (timed : List TimedOut) (cs : List Awaited) → IsIdle s c →
      ((bytes : List ℕ) → (reads_on h r got timed cs cs).turn ≡ Ends (ReadOk bytes) → ⊥) →
      MovedIs m s c op o h (reads_on h r got timed cs cs)
  unfolding reads_on
  reads_first r got timed [] idle some = absurd (some _ refl)
  reads_first r got timed (a ∷ xs) idle some = record { held = counted_is h (a ∷ xs); turn = inr (idle, tt) }

  probes_first : (got : List Column) (timed : List TimedOut) (cs : List Awaited) → IsIdle s c →
      ((bytes : List ℕ) → (probes_on h got timed cs cs).turn ≡ Ends (ReadOk bytes) → ⊥) →
      MovedIs m s c op o h (probes_on h got timed cs cs)
  unfolding probes_on
  probes_first got timed [] idle some = absurd (some _ refl)
  probes_first got timed (a ∷ xs) idle some = record { held = counted_is h (a ∷ xs); turn = inr (idle, tt) }

  unless_first : (r : Span) (ps : Option (List ℕ)) → IsIdle s c →
      ((bytes : List ℕ) → (reads_unless h r [] [] [] ps).turn ≡ Ends (ReadOk bytes) → ⊥) →
      MovedIs m s c op o h (reads_unless h r [] [] [] ps)
  unless_first r (Some ps) idle some = record { held = counted_same h; turn = idle }
  unless_first r None idle some = reads_first r [] [] (read_commands h (reads_due h r [] [] [])) idle some

  pub reads_begin : (r : Span) → IsIdle s c → ((bytes : List ℕ) → (reads h r [] [] []).turn ≡ Ends (ReadOk bytes) → ⊥) →
      MovedIs m s c op o h (reads h r [] [] [])
  unfolding reads
  reads_begin r idle some = unless_first r _ idle some

  probe_either : (b : Bool) (ps : List ℕ) (p : ℕ) → IsIdle s c →
      ((bytes : List ℕ) → (if b then ended h (Lost ps) else probes_sent h [] [] [] p).turn ≡ Ends (ReadOk bytes) → ⊥) →
      MovedIs m s c op o h (if b then ended h (Lost ps) else probes_sent h [] [] [] p)
  probe_either true ps p idle some = record { held = counted_same h; turn = idle }
  probe_either false ps p idle some = probes_first [] [] _ idle some

  probe_by : (n : Option ℕ) → IsIdle s c →
      ((bytes : List ℕ) → (probes_by h [] [] [] n).turn ≡ Ends (ReadOk bytes) → ⊥) →
      MovedIs m s c op o h (probes_by h [] [] [] n)
  probe_by None idle some = record { held = counted_same h; turn = idle }
  probe_by (Some k) idle some = probe_either _ _ (k / replicas h.map) idle some

  pub probes_begin : IsIdle s c → ((bytes : List ℕ) → (probes h [] [] []).turn ≡ Ends (ReadOk bytes) → ⊥) →
      MovedIs m s c op o h (probes h [] [] [])
  unfolding probes
  probes_begin idle some = probe_by _ idle some

  -- ---- a scatter begins

  -- the client is at the gather, or gathered nothing
  abbrev IsAhead : Type 0
  IsAhead = ((i : ℕ) × IsGathering m s c op i) ⊎ IsIdle s c

  scatter_begins : (timed : List TimedOut) (queue : List Store) (cs : List Awaited) → IsAhead → Awaiting cs →
      MovedIs m s c op o h (scatters_on h op timed queue cs cs)
  unfolding scatters_on
  scatter_begins timed queue [] from some = absurd some
  scatter_begins timed queue (a ∷ xs) from some = record {
    held = counted_is h (a ∷ xs);
    turn = inr (record { from = from; some = tt; all = refl });
  }

  pub scatters_begin : (got : List Column) (timed : List TimedOut) → IsAhead → WritesSome h op timed →
      MovedIs m s c op o h (scatters h op got timed)
  unfolding scatters
  scatters_begin got timed from some =
      let all : List Store = stores h.map (span_of op) (bytes_of op) got (outs h timed) in
      scatter_begins timed (laters [] all) (write_commands h (firsts [] all)) from (first_sent h all (some got))

  -- ---- gathers

  pub gathers_on_is : (got : List Column) (timed : List TimedOut) (sent awaited : List Awaited) →
      IsAhead → (Awaiting awaited → PendsGather m s c op sent) → WritesSome h op timed →
      MovedIs m s c op o h (gathers_on h op got timed sent awaited)
  unfolding gathers_on
  gathers_on_is got timed sent [] from k some = scatters_begin got timed from some
  gathers_on_is got timed sent (a ∷ xs) from k some = record { held = counted_is h sent; turn = k tt }

  pub gathers_begin : IsIdle s c → WritesSome h op [] → MovedIs m s c op o h (gathers h op [] [] [])
  unfolding gathers
  gathers_begin idle some =
      let cs : List Awaited = read_commands h (gathers_due h (span_of op) [] [] []) in
      gathers_on_is [] [] cs cs (inr idle) (λ a. inr (idle, a)) some

  -- ---- a call begins

  begin_by : (b n : Bool) → IsIdle s c → (b ≡ true → WritesSome h op []) →
      ((bytes : List ℕ) → (if b then gathers h op [] [] []
      else if n then probes h [] [] [] else reads h (clipped h.size (span_of op)) [] [] []).turn ≡ Ends (ReadOk bytes) → ⊥) →
      MovedIs m s c op o h (if b then gathers h op [] [] []
      else if n then probes h [] [] [] else reads h (clipped h.size (span_of op)) [] [] [])
  begin_by true n idle some wait = gathers_begin idle (some refl)
  begin_by false true idle some wait = probes_begin idle wait
  begin_by false false idle some wait = reads_begin (clipped h.size (span_of op)) idle wait

  pub begins_is : IsIdle s c → (is_write op ≡ true → WritesSome h op []) → ReadsWait h op →
      MovedIs m s c op o h (begins h op)
  unfolding begins
  begins_is idle some wait = begin_by (is_write op) ((clipped h.size (span_of op)).length == 0) idle some wait

  -- ---- the last WRITE

  below_size : (a b : ℕ) → nat_lt a b ≡ false → b ≤ a
  below_size a b e = grind (arith, nat_tests, e)

  pub account : (j : ℕ) (timed : List TimedOut) → IsWriting s c op NoCommit j → AreOut s c j [] [] timed → Fits s j →
      TurnIs m s c op o [] (accounted op timed)
  account j [] w k fits = inr (refl, inl (j, record { writing = w; out = k; fits = fits }))
  account j (t ∷ ts) w k fits = (refl, (j, record { writing = w; out = k; fits = fits }))

  -- a write that passes the size needs a commit, and any other is accounted for
  written_by : (b : Bool) (j : ℕ) (timed : List TimedOut) → IsWriting s c op NoCommit j → AreOut s c j [] [] timed →
      (b ≡ false → Fits s j) → TurnIs m s c op o [] (if b then Goes (Needs (Commit timed)) else accounted op timed)
  written_by true j timed w k fits = (refl, (j, record { writing = w; out = k }))
  written_by false j timed w k fits = account j timed w k (fits refl)

  pub written_is : (j : ℕ) (timed : List TimedOut) → IsWriting s c op NoCommit j → (s.start j).clip ≡ s.known_size c →
      s.known_size c ≡ h.size → AreOut s c j [] [] timed → TurnIs m s c op o [] (written h op timed)
  unfolding written
  written_is j timed w clip size k =
      written_by (is_past_size h op) j timed w k
      (λ e. inl (fits (below_size h.size ((span_of op).offset + (span_of op).length) e)))
    where
      fits : (span_of op).offset + (span_of op).length ≤ h.size → (s.start j).end_ ≤ (s.start j).clip
      fits low = rw (w.write.past, clip, size) low

  -- ---- a scatter goes on

  -- nothing is awaited, nothing is queued
  over : (timed : List TimedOut) (got : List Column) (queue : List Store) (sent : List Awaited) → s.known_size c ≡ h.size →
      queue ≡ [] → IsSending s c op (record { awaited = []; got = got; timed = timed }) queue sent →
      (j : ℕ) × IsWriting s c op NoCommit j × ((s.start j).clip ≡ s.known_size c) × AreOut s c j [] [] timed
  over timed got queue sent size none k =
      let a : k.before ≡ [] = front_none k.before sent (sym k.awaited) in
      let b : sent ≡ [] = none_behind k.before sent (sym k.awaited) in
      let all : stores_of sent ++ queue ≡ [] = rw (b, none) refl in (
        k.entry,
        k.scattering.writing,
        k.scattering.clip,
        subst (λ q. AreOut s c k.entry [] q timed) all
            (subst (λ q. AreOut s c k.entry q (stores_of sent ++ queue) timed) a k.scattering.out),
      )

  pub scatters_on_is : (timed : List TimedOut) (queue : List Store) (sent awaited : List Awaited) → s.known_size c ≡ h.size →
      (awaited ≡ [] → queue ≡ []) → IsSending s c op (record { awaited = awaited; got = []; timed = timed }) queue sent →
      MovedIs m s c op o h (scatters_on h op timed queue sent awaited)
  unfolding scatters_on
  scatters_on_is timed queue sent [] size none k =
      let e = over timed [] queue sent size (none refl) k in
      let b : sent ≡ [] = none_behind k.before sent (sym k.awaited) in
      record {
        held = counted_is h sent;
        turn = subst (λ cs. TurnIs m s c op o cs (written h op timed)) (sym b) (written_is e.0 timed e.1 e.2 size e.3);
      }
  scatters_on_is timed queue sent (a ∷ xs) size none k = record { held = counted_is h sent; turn = inl k }
