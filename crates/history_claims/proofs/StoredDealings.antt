-- What a call's dealings with the drives keep of what it stores; and a write that they end with an acknowledgement has stored
-- its bytes.
use Rattle.std.proofs.Common.{◌≡◌, ◌⊎◌, ◌==◌, ◌+◌, ◌++◌, ℕ, Bool, true, false, List, [], ◌∷◌, length, Option, Some, None, refl, sym, ap, ◌∙◌, inl, inr, if◌then◌else◌}
use Rattle.std.proofs.lemmas.Bool.{eqb-true}
use Rattle.data_map.specs.Check.{IsChecked}
use Rattle.server_rules.specs.Laws.{In}
use Rattle.stripe_plan.specs.Plans.{stores}
use Rattle.client_rules.specs.declared.limits.TheConstants.{PERFORMED, OTHER_TAG}
use Rattle.client_rules.specs.Calls.{file_of, span_of, bytes_of, is_write}
use Rattle.client_rules.specs.Commands.{command, sealed, nonce_at, write_commands, not_of, of_component}
use Rattle.client_rules.specs.Going.{begins}
use Rattle.client_rules.specs.Grants.{clipped, covers, held_of}
use Rattle.client_rules.specs.Io.{awaited_in, got_of, outs}
use Rattle.client_rules.specs.Laws.{Awaiting}
use Rattle.client_rules.specs.Reads.{reads_on, reads_unless, reads, probes_sent, probes_on, probes_by, probes, is_probe_lost}
use Rattle.client_rules.specs.Replies.{performed, refusal, refused_report, refused, replied, timed_after, gather_timed, scatter_timed, timed_out}
use Rattle.client_rules.specs.Requests.{report_of}
use Rattle.client_rules.specs.Turns.{turned, ended, needing, closing}
use Rattle.client_rules.specs.Writes.{accounted, is_past_size, written, firsts, laters, scatters_on, scatters, scatters_next, gathers_on, gathers, is_too_short, without_component}
use Rattle.gather_law.specs.Ready.{AreBelow, IsReady, IsSome}
use Rattle.gather_law.proofs.Gathered.{below_to, below_from, fetched, ready_sent, ready_replied, long_enough}
use Rattle.exchange_law.proofs.Had.{rest_below}
use Rattle.exchange_law.proofs.PlaceMoving.{covered}
use Rattle.plan_law.specs.Sending.{MayScatter}
use Rattle.stripe_plan.specs.Lost.{unwritable}
use Rattle.stripe_plan.specs.Touched.{stripes}
use Rattle.world_history.specs.ClientNames.{CallOp, Held, Awaited, TimedOut, Store, Column, Span, Moved, Reply, Need, First, Get, Commit, Report, Close, Phase, Starts, Needs, Waits, Reads, Probes, Gathers, Scatters, Outcome, WriteOk, Silent, Lost, Turn, Goes, Ends, Forgets}
use Rattle.cause_law.specs.Met as met
use Rattle.cause_law.specs.Met.{Met, Replied, timed_in}
use Rattle.cause_law.specs.Read.{read_in}
use Rattle.cause_law.specs.ReadCalls.{LastStep}
use Rattle.cause_law.proofs.Trace.{comps}
use Rattle.relation_law.specs.CallsTurns.{WritesSome, ReplyFits, TimeFits, IsQueueBehind}
use Rattle.relation_law.proofs.CallsMoved.{first_sent}
use Rattle.relation_law.proofs.MessagesClients.{IsUsable, IsFit}
use Rattle.relation_law.proofs.MessagesGathers.{HasBytes, begin_writable}
use Rattle.history_claims.specs.Stored.{HasStored}
use Rattle.history_claims.proofs.StoredParts.{NoneWritten, Stands, Gathering, Scattering, Scattered, gathering_again, scattering_again, under_replied, are_stored}
use Rattle.history_claims.proofs.StoredMoves.{quiet_alike, scatter_begins, reads_more, scatter_replied, next_behind, gathering_timed, scatter_silent, left_behind}
use Rattle.history_claims.proofs.Wrote.{IsNoOk}

-- ---- a phase under the grant

-- a write that reports what timed out, which is something, has scattered
pub record Reporting (op : CallOp) (h : Held) (ms : List Met) (timed : List TimedOut) : Type 0 where
  pub checked : IsChecked h.map
  pub scattered : Scattered op h ms timed
  pub component : ℕ
  pub there : In component (comps timed)

-- so has one that commits
abbrev pub NeedUnder : CallOp → Held → List Met → Need → Type 0
NeedUnder op h ms First = ⊥
NeedUnder op h ms (Get tries) = ⊥
NeedUnder op h ms (Commit timed) = Scattered op h ms timed
NeedUnder op h ms (Report timed) = Reporting op h ms timed
NeedUnder op h ms (Close outcome report) = Unit {0}

abbrev pub PhaseUnder : CallOp → Held → List Met → Phase → Type 0
PhaseUnder op h ms Starts = ⊥
PhaseUnder op h ms (Needs need) = NeedUnder op h ms need
PhaseUnder op h ms (Waits need) = ⊥
PhaseUnder op h ms (Reads io) = Unit {0}
PhaseUnder op h ms (Probes io) = Unit {0}
PhaseUnder op h ms (Gathers io) = Gathering op h ms io.got io.timed
PhaseUnder op h ms (Scatters io queue) = Scattering op h ms io.timed io.awaited queue

-- no component timed out, nothing was read, and nothing was written
abbrev pub IsQuiet : List Met → Type 0
IsQuiet ms = (timed_in ms ≡ []) × (read_in ms ≡ []) × NoneWritten ms

-- ---- a step that began with these grants and is about this call, which has met all this

module _ (before : List Held) (mine : Option CallOp) where
  -- the call works under a grant that was held as the step began
  pub record IsOwn (op : CallOp) (h : Held) : Type 0 where
    pub call : mine ≡ Some op
    pub held : held_of before (file_of op) ≡ Some h
    pub checked : IsChecked h.map
    pub some : is_write op ≡ true → IsSome op

  module _ (ms : List Met) where
    abbrev pub Last : LastStep
    Last = record { call = mine; held = before; met = ms; outcome = None }

    -- a write that is acknowledged has stored its bytes, or had none
    abbrev pub IsEnd : Outcome → Type 0
    IsEnd (WriteOk count) = (count ≡ 0) ⊎ HasStored Last
    IsEnd o = Unit {0}

    abbrev pub TurnStored : CallOp → Held → Turn → Type 0
    TurnStored op k (Goes p) = PhaseUnder op k ms p
    TurnStored op k (Ends o) = IsEnd o
    TurnStored op k (Forgets o) = IsNoOk o

    abbrev pub MovedStored : CallOp → Moved → Type 0
    MovedStored op m = TurnStored op m.held m.turn

    module _ (op : CallOp) (h : Held) where
      -- ---- reads

      reads_on_stored : (r : Span) (got : List Column) (timed : List TimedOut) (sent awaited : List Awaited) →
          MovedStored op (reads_on h r got timed sent awaited)
      unfolding reads_on
      reads_on_stored r got timed sent [] = tt
      reads_on_stored r got timed sent (a ∷ xs) = tt

      reads_stored : (r : Span) (got : List Column) (timed : List TimedOut) (awaited : List Awaited) →
          MovedStored op (reads h r got timed awaited)
      unfolding reads
      reads_stored r got timed awaited = by_lost _
        where
          by_lost : (ps : Option (List ℕ)) → MovedStored op (reads_unless h r got timed awaited ps)
          by_lost (Some ps) = tt
          by_lost None = reads_on_stored r got timed _ _

      probes_on_stored : (got : List Column) (timed : List TimedOut) (sent awaited : List Awaited) →
          MovedStored op (probes_on h got timed sent awaited)
      unfolding probes_on
      probes_on_stored got timed sent [] = tt
      probes_on_stored got timed sent (a ∷ xs) = tt

      probes_stored : (got : List Column) (timed : List TimedOut) (awaited : List Awaited) →
          MovedStored op (probes h got timed awaited)
      unfolding probes
      probes_stored got timed awaited = by_present _
        where
          at_place : (b : Bool) (ps : List ℕ) (p : ℕ) →
              MovedStored op (if b then ended h (Lost ps) else probes_sent h got timed awaited p)
          at_place true ps p = tt
          at_place false ps p = probes_on_stored got timed _ _

          by_present : (n : Option ℕ) → MovedStored op (probes_by h got timed awaited n)
          by_present None = tt
          by_present (Some n) = at_place (is_probe_lost h.map (outs h timed) _) _ _

      -- ---- writes

      -- what a scatter doesn't send at its begin
      abbrev left_to : List Column → List TimedOut → List Store
      left_to got timed = laters [] (stores h.map (span_of op) (bytes_of op) got (outs h timed))

      scatters_stored : (got : List Column) (timed : List TimedOut) → Gathering op h ms got timed →
          MayScatter h.map (span_of op) (bytes_of op) got (outs h timed) → WritesSome h op timed →
          MovedStored op (scatters h op got timed)
      unfolding scatters scatters_on
      scatters_stored got timed g may some =
          by_first (write_commands h (firsts [] (stores h.map (span_of op) (bytes_of op) got (outs h timed))))
          (first_sent h (stores h.map (span_of op) (bytes_of op) got (outs h timed)) (some got))
          (scatter_begins op h ms got timed g may)
        where
          by_first : (cs : List Awaited) → Awaiting cs → Scattering op h ms timed cs (left_to got timed) →
              MovedStored op (scatters_on h op timed (left_to got timed) cs cs)
          by_first [] z x = absurd z
          by_first (a ∷ cs) z x =
              scattering_again op h (h.count + length (a ∷ cs)) h.size ms timed (a ∷ cs) (left_to got timed) x

      -- it has bytes, and a map that can be used
      module _ (ch : IsChecked h.map) (has : IsSome op) where
        gathers_on_stored : (got : List Column) (timed : List TimedOut) (sent awaited : List Awaited) (top : ℕ) →
            Gathering op h ms got timed → IsReady h.map (span_of op) (outs h timed) got awaited top → WritesSome h op timed →
            MovedStored op (gathers_on h op got timed sent awaited)
        unfolding gathers_on
        gathers_on_stored got timed sent [] top g ready some =
            scatters_stored got timed g
            (record {
              checked = ch;
              long = has.long;
              can = ready.can;
              fetched = fetched h.map (span_of op) (outs h timed) got top ready;
            }) some
        gathers_on_stored got timed sent (a ∷ xs) top g ready some =
            gathering_again op h (h.count + length sent) h.size ms got timed g

        gathers_stored : (got : List Column) (timed : List TimedOut) (awaited : List Awaited) → Gathering op h ms got timed →
            unwritable h.map (outs h timed) (stripes h.map (span_of op)) ≡ None → AreBelow (nonce_at h h.count) awaited →
            WritesSome h op timed → MovedStored op (gathers h op got timed awaited)
        unfolding gathers
        gathers_stored got timed awaited g can below some =
            gathers_on_stored got timed _ _ _ g (ready_sent h (span_of op) got timed awaited has.some can below) some

      -- ---- a call begins, where nothing timed out yet

      pub begins_stored : IsQuiet ms → IsUsable h → HasBytes op → covers h op ≡ true →
          (is_write op ≡ true → WritesSome h op []) → MovedStored op (begins h op)
      unfolding begins
      begins_stored quiet usable has cover some = by (is_write op) ((clipped h.size (span_of op)).length == 0) refl
        where
          by : (b n : Bool) → is_write op ≡ b → MovedStored op
              (if b then gathers h op [] [] []
              else if n then probes h [] [] [] else reads h (clipped h.size (span_of op)) [] [] [])
          by true n is =
              gathers_stored usable.checked (has.some is) [] [] []
              (record {
                under = record { write = is; alike = quiet_alike h ms quiet.0; silent = quiet.0 };
                read = sym quiet.1;
                none = quiet.2;
              })
              (begin_writable h op usable is (covered h op cover)) (record { differ = tt; below = λ a i. absurd i }) (some is)
          by false true is = probes_stored [] [] []
          by false false is = reads_stored (clipped h.size (span_of op)) [] [] []

      -- ---- a write that has scattered

      module _ (own : IsOwn op h) where
        -- where nothing timed out it is over
        stored_ends : Scattered op h ms [] → HasStored Last
        stored_ends x = record {
          op = op;
          call = own.call;
          write = x.under.write;
          held = h;
          under = inl own.held;
          checked = own.checked;
          stored = are_stored op h ms [] own.checked (own.some x.under.write) x;
          reported = inl x.under.silent;
        }

        pub accounted_stored : (n s : ℕ) (timed : List TimedOut) → Scattered op h ms timed →
            TurnStored op (record h { count = n; size = s }) (accounted op timed)
        accounted_stored n s [] x = inr (stored_ends x)
        accounted_stored n s (t ∷ ts) x = record {
          checked = own.checked;
          scattered = scattering_again op h n s ms (t ∷ ts) [] [] x;
          component = t.ask.component;
          there = inl refl;
        }

        written_stored : (n s : ℕ) (timed : List TimedOut) → Scattered op h ms timed →
            TurnStored op (record h { count = n; size = s }) (written h op timed)
        unfolding written
        written_stored n s timed x = by (is_past_size h op)
          where
            by : (b : Bool) →
                TurnStored op (record h { count = n; size = s }) (if b then needing (Commit timed) else accounted op timed)
            by true = scattering_again op h n s ms timed [] [] x
            by false = accounted_stored n s timed x

        -- what is queued stands behind what is awaited: nothing
        none_left : (timed : List TimedOut) (queue : List Store) → IsQueueBehind [] queue →
            Scattering op h ms timed [] queue → Scattered op h ms timed
        none_left timed queue behind x = record {
          under = x.under;
          got = x.got;
          first = x.first;
          still = x.still;
          read = x.read;
          may = x.may;
          sent = λ a i. absurd i;
          left = λ w i. absurd i;
          alone = x.alone;
          each = λ w i. by w (x.each w i);
        }
          where
            by : (w : Store) → Stands h ms timed [] queue w → Stands h ms timed [] [] w
            by w (inl done) = inl done
            by w (inr (inl out)) = inr (inl out)
            by w (inr (inr (inl (a, i, c)))) = absurd i
            by w (inr (inr (inr i))) = absurd (behind w i).1

        pub scatters_on_stored : (timed : List TimedOut) (queue : List Store) (sent awaited : List Awaited) →
            IsQueueBehind awaited queue → Scattering op h ms timed awaited queue →
            MovedStored op (scatters_on h op timed queue sent awaited)
        unfolding scatters_on
        scatters_on_stored timed queue sent [] behind x =
            written_stored (h.count + length sent) h.size timed (none_left timed queue behind x)
        scatters_on_stored timed queue sent (a ∷ xs) behind x =
            scattering_again op h (h.count + length sent) h.size ms timed (a ∷ xs) queue x

  -- ---- a reply, and a timeout

  module _ (op : CallOp) (h : Held) (own : IsOwn op h) (ms : List Met) where
    module _ (a : Awaited) (q : Reply) (nonce : q.nonce ≡ a.command.nonce) where
      abbrev replied_to : List Met
      replied_to = Replied a q ∷ ms

      performed_stored : (p : Phase) → q.verdict ≡ PERFORMED → In a (awaited_in p) → PhaseUnder op h ms p →
          IsFit h op p → ReplyFits h op p a → MovedStored replied_to op (performed h op p a q)
      unfolding scatters_next command sealed
      performed_stored Starts done i x fit fits = absurd i
      performed_stored (Needs n) done i x fit fits = absurd i
      performed_stored (Waits n) done i x fit fits = absurd i
      performed_stored (Reads io) done i x fit fits = reads_on_stored replied_to op h _ _ _ _ _
      performed_stored (Probes io) done i x fit fits = probes_on_stored replied_to op h _ _ _ _
      performed_stored (Gathers io) done i x fit fits =
          let read : a.write ≡ false = ap (λ (y : Awaited). y.write) (fit.reads a i).is in
          gathers_on_stored replied_to op h own.checked fit.some (io.got ++ got_of a q ∷ []) io.timed _ _ (nonce_at h h.count)
          (record {
            under = under_replied op h ms io.timed a q x.under;
            read = ap (λ (cs : List Column). cs ++ got_of a q ∷ []) x.read ∙ sym (reads_more a q ms done read);
            none = (λ e. absurd (cc (sym e ∙ ap (λ (y : Awaited). y.command.action) (fit.reads a i).is)), x.none);
          })
          (ready_replied h.map (span_of op) (outs h io.timed) io.got io.awaited a q (nonce_at h h.count) i fit.ready) fits
      performed_stored (Scatters io queue) done i x fit fits =
          scatters_on_stored replied_to op h own io.timed _ _ _ (next_behind h io.awaited queue a fits.1 fits.2)
          (scatter_replied op h ms io.timed io.awaited queue a q done nonce i fits.1 x)

      refused_stored : (p : Phase) → MovedStored replied_to op (refused h p a q)
      unfolding refused
      refused_stored p = by (q.verdict == OTHER_TAG)
        where
          by : (b : Bool) → MovedStored replied_to op
              (if b then turned h (Forgets (refusal a q)) else turned h (closing (refusal a q) (refused_report h p a q)))
          by true = tt
          by false = tt

      pub replied_stored : (p : Phase) → In a (awaited_in p) → PhaseUnder op h ms p → IsFit h op p → ReplyFits h op p a →
          MovedStored replied_to op (replied h op p a q)
      unfolding replied
      replied_stored p i x fit fits = by (q.verdict == PERFORMED) refl
        where
          by : (b : Bool) → (q.verdict == PERFORMED) ≡ b →
              MovedStored replied_to op (if b then performed h op p a q else refused h p a q)
          by true e = performed_stored p (eqb-true q.verdict PERFORMED e) i x fit fits
          by false e = refused_stored p

    module _ (k : ℕ) (a : Awaited) (xs : List Awaited) where
      abbrev silent : List Met
      silent = met.TimedOut h k ∷ ms

      pub timed_stored : (p : Phase) → of_component k (awaited_in p) ≡ a ∷ xs → PhaseUnder op h ms p →
          IsFit h op p → TimeFits h op p a xs → MovedStored silent op (timed_out h op p k a xs)
      unfolding gather_timed scatter_timed of_component
      timed_stored Starts is x fit fits = absurd (cc is)
      timed_stored (Needs n) is x fit fits = absurd (cc is)
      timed_stored (Waits n) is x fit fits = absurd (cc is)
      timed_stored (Reads io) is x fit fits = reads_stored silent op h _ _ _ _
      timed_stored (Probes io) is x fit fits = probes_stored silent op h _ _ _
      timed_stored (Gathers io) is x fit fits = by (is_too_short h op (timed_after io.timed a xs)) refl
        where
          by : (b : Bool) → is_too_short h op (timed_after io.timed a xs) ≡ b → MovedStored silent op
              (if b then ended h (Silent k) else gathers h op io.got (timed_after io.timed a xs) (not_of k io.awaited))
          by true e = tt
          by false e =
              gathers_stored silent op h own.checked fit.some io.got (timed_after io.timed a xs) (not_of k io.awaited)
              (gathering_timed op h ms io.got io.timed k io.awaited a xs is x) (long_enough h op (timed_after io.timed a xs) e)
              (below_from _ _ (rest_below (nonce_at h h.count) k io.awaited (below_to _ io.awaited fit.ready.nonces))) (fits e)
      timed_stored (Scatters io queue) is x fit fits = by (is_too_short h op (timed_after io.timed a xs))
        where
          by : (b : Bool) → MovedStored silent op
              (if b then turned h (closing (Silent k) (report_of h (timed_after io.timed a xs)))
              else scatters_on h op (timed_after io.timed a xs) (without_component k queue) [] (not_of k io.awaited))
          by true = tt
          by false =
              scatters_on_stored silent op h own _ _ [] _ (left_behind k io.awaited queue fits)
              (scatter_silent op h ms io.timed io.awaited queue k a xs is x)
