-- A call that begins: nothing of it is in the log yet, and its first command is still to be sent.
-- Towards `CutsShowEntries` (`specs/Parts.antt`).
use Rattle.std.proofs.Common.{◌≡◌, ◌==◌, ℕ, Bool, true, false, List, [], ◌∷◌, Option, Some, None, refl, sym, subst, inr, if◌then◌else◌}
use Rattle.client_rules.specs.Calls.{span_of, bytes_of, is_write}
use Rattle.client_rules.specs.Commands.{write_commands}
use Rattle.client_rules.specs.Going.{begins}
use Rattle.client_rules.specs.Grants.{clipped}
use Rattle.client_rules.specs.Io.{outs}
use Rattle.client_rules.specs.Laws.{Awaiting}
use Rattle.client_rules.specs.Reads.{reads_on, reads_unless, reads, probes_on, probes_by, probes, probes_sent, is_probe_lost}
use Rattle.client_rules.specs.Turns.{ended}
use Rattle.client_rules.specs.Writes.{firsts, laters, scatters_on, scatters, gathers_on, gathers}
use Rattle.stripe_plan.specs.Plans.{stores}
use Rattle.world_history.specs.ClientNames.{CallOp, Held, Awaited, TimedOut, Column, Moved, ReadOk, Lost, Ends}
use Rattle.fence_law.specs.State.{State}
use Rattle.fence_law.specs.State.Call.{Idle}
use Rattle.file_simulation.specs.Showing.{Pairs}
use Rattle.relation_law.specs.CallsTurns.{WritesSome, ReadsWait}
use Rattle.relation_law.proofs.CallsMoved.{first_sent}
use Rattle.headline_law.proofs.EntriesCalls.{CallAs}
use Rattle.headline_law.proofs.EntriesMoved.{MovedTo}

module _ (t : State) (c : ℕ) (h : Held) (op : CallOp) (pairs : Pairs) (o : Option ℕ) (idle : t.call c ≡ Idle) (none : o ≡ None)
  where
    abbrev To : Moved → Type 0
    To m = MovedTo t c op pairs o m

    idle_as : CallAs pairs (is_write op) o (t.call c)
    idle_as = subst (CallAs pairs (is_write op) o) (sym idle) none

    -- a read begins, or nothing can be read
    reads_first : (got : List Column) (timed : List TimedOut) (cs : List Awaited) →
        ((bytes : List ℕ) → (reads_on h (clipped h.size (span_of op)) got timed cs cs).turn ≡ Ends (ReadOk bytes) → ⊥) →
        To (reads_on h (clipped h.size (span_of op)) got timed cs cs)
    unfolding reads_on
    reads_first got timed [] wait = absurd (wait _ refl)
    reads_first got timed (a ∷ xs) wait = inr (idle_as, tt)

    probes_first : (got : List Column) (timed : List TimedOut) (cs : List Awaited) →
        ((bytes : List ℕ) → (probes_on h got timed cs cs).turn ≡ Ends (ReadOk bytes) → ⊥) → To (probes_on h got timed cs cs)
    unfolding probes_on
    probes_first got timed [] wait = absurd (wait _ refl)
    probes_first got timed (a ∷ xs) wait = inr (idle_as, tt)

    reads_begin : ((bytes : List ℕ) → (reads h (clipped h.size (span_of op)) [] [] []).turn ≡ Ends (ReadOk bytes) → ⊥) →
        To (reads h (clipped h.size (span_of op)) [] [] [])
    unfolding reads
    reads_begin wait = by _ wait
      where
        by : (ps : Option (List ℕ)) →
            ((bytes : List ℕ) → (reads_unless h (clipped h.size (span_of op)) [] [] [] ps).turn ≡ Ends (ReadOk bytes) → ⊥) →
            To (reads_unless h (clipped h.size (span_of op)) [] [] [] ps)
        by (Some ps) wait = tt
        by None wait = reads_first [] [] _ wait

    probes_begin : ((bytes : List ℕ) → (probes h [] [] []).turn ≡ Ends (ReadOk bytes) → ⊥) → To (probes h [] [] [])
    unfolding probes
    probes_begin wait = by _ wait
      where
        at_ : (b : Bool) (ps : List ℕ) (p : ℕ) →
            ((bytes : List ℕ) → (if b then ended h (Lost ps) else probes_sent h [] [] [] p).turn ≡ Ends (ReadOk bytes) → ⊥) →
            To (if b then ended h (Lost ps) else probes_sent h [] [] [] p)
        at_ true ps p wait = tt
        at_ false ps p wait = probes_first [] [] _ wait

        by : (k : Option ℕ) → ((bytes : List ℕ) → (probes_by h [] [] [] k).turn ≡ Ends (ReadOk bytes) → ⊥) →
            To (probes_by h [] [] [] k)
        by None wait = tt
        by (Some k) wait = at_ (is_probe_lost h.map (outs h []) _) _ _ wait

    -- a write begins with its gather, or at once
    scatters_begin : WritesSome h op [] → To (scatters h op [] [])
    unfolding scatters scatters_on
    scatters_begin some =
        by (write_commands h (firsts [] (stores h.map (span_of op) (bytes_of op) [] (outs h []))))
        (first_sent h (stores h.map (span_of op) (bytes_of op) [] (outs h [])) (some []))
      where
        by : (cs : List Awaited) → Awaiting cs →
            To (scatters_on h op [] (laters [] (stores h.map (span_of op) (bytes_of op) [] (outs h []))) cs cs)
        by [] z = absurd z
        by (a ∷ cs) z = inr (idle_as, tt)

    gathers_first : WritesSome h op [] → (cs : List Awaited) → To (gathers_on h op [] [] cs cs)
    unfolding gathers_on
    gathers_first some [] = scatters_begin some
    gathers_first some (a ∷ xs) = inr (idle_as, tt)

    gathers_begin : WritesSome h op [] → To (gathers h op [] [] [])
    unfolding gathers
    gathers_begin some = gathers_first some _

    -- A call begins.
    pub begins_to : (is_write op ≡ true → WritesSome h op []) → ReadsWait h op → To (begins h op)
    unfolding begins
    begins_to some wait = by (is_write op) ((clipped h.size (span_of op)).length == 0) some wait
      where
        by : (b d : Bool) → (b ≡ true → WritesSome h op []) →
            ((bytes : List ℕ) → (if b then gathers h op [] [] [] else if d then probes h [] [] []
            else reads h (clipped h.size (span_of op)) [] [] []).turn ≡ Ends (ReadOk bytes) → ⊥) →
            To (if b then gathers h op [] [] [] else if d then probes h [] [] []
            else reads h (clipped h.size (span_of op)) [] [] [])
        by true d some wait = gathers_begin (some refl)
        by false true some wait = probes_begin wait
        by false false some wait = reads_begin wait
