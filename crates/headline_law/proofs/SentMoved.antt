-- What a call does with the drives: what it has got in a phase that reads it had got before or was just given, and where it ends
-- it sends nothing.
-- Towards `SentGoesOn` and `ReadsFollow` (`relation_law/specs/Steps.antt`, `headline_law/specs/Parts.antt`).
use Rattle.std.proofs.Common.{◌≡◌, ◌⊎◌, ◌==◌, ℕ, Bool, true, false, List, [], ◌∷◌, ◌++◌, Option, Some, None, refl, inl, inr, if◌then◌else◌}
use Rattle.osd_commands.specs.declared.replies.Reply.{Reply}
use Rattle.layout_ops.specs.declared.messages.Answer.{Answer}
use Rattle.layout_ops.specs.declared.statuses.TheConstants.{NFS4_OK, NFS4ERR_BADLAYOUT}
use Rattle.server_rules.specs.Laws.{In}
use Rattle.server_rules.proofs.Members.{in_either}
use Rattle.client_rules.specs.declared.limits.TheConstants.{OTHER_TAG}
use Rattle.client_rules.specs.Answers.{not_committed, on_commit}
use Rattle.client_rules.specs.Calls.{is_write}
use Rattle.client_rules.specs.Commands.{not_of}
use Rattle.client_rules.specs.Going.{begins}
use Rattle.client_rules.specs.Io.{got_of}
use Rattle.client_rules.specs.Reads.{reads, reads_on, reads_unless, probes, probes_on, probes_by}
use Rattle.client_rules.specs.Replies.{performed, refused, timed_out, timed_after, gather_timed, scatter_timed}
use Rattle.client_rules.specs.Results.{status_of}
use Rattle.client_rules.specs.Writes.{accounted, written, is_past_size, scatters, scatters_on, scatters_next, without_component, gathers, gathers_on, is_too_short}
use Rattle.world_history.specs.ClientNames.{Awaited, CallOp, Column, Held, Io, Moved, Outcome, Phase, Starts, Needs, Waits, Reads, Probes, Gathers, Scatters, Span, Store, TimedOut, Turn, Goes, Ends, Forgets}
use Rattle.relation_law.proofs.CallsMoved.{none_behind}

-- the phase reads
abbrev pub ReadsNow : Phase → Type 0
ReadsNow (Reads io) = Unit {0}
ReadsNow (Probes io) = Unit {0}
ReadsNow (Gathers io) = Unit {0}
ReadsNow p = ⊥

-- what a call got is so, in a phase that reads; R is so where it reads, and B where it begins anew
abbrev pub PhaseFrom : (R B : Type 0) → (Column → Type 0) → Phase → Type 0
PhaseFrom R B P (Reads io) = R × ((col : Column) → In col io.got → P col)
PhaseFrom R B P (Probes io) = R × ((col : Column) → In col io.got → P col)
PhaseFrom R B P (Gathers io) = R × ((col : Column) → In col io.got → P col)
PhaseFrom R B P Starts = B
PhaseFrom R B P p = Unit {0}

-- by how the call goes on; one that ends sends nothing
unfoldable pub TurnFrom : (R B : Type 0) → (Column → Type 0) → (sent : List Awaited) → Turn → Type 0
TurnFrom R B P sent (Goes p) = PhaseFrom R B P p
TurnFrom R B P sent (Ends u) = sent ≡ []
TurnFrom R B P sent (Forgets u) = sent ≡ []

abbrev pub MovedFrom : (R B : Type 0) → (Column → Type 0) → Moved → Type 0
MovedFrom R B P m = TurnFrom R B P m.sent m.turn

module _ (R B : Type 0) (P : Column → Type 0) where
  goes : (sent : List Awaited) (p : Phase) → PhaseFrom R B P p → TurnFrom R B P sent (Goes p)
  unfolding TurnFrom
  goes sent p w = w

  ends : (sent : List Awaited) (u : Outcome) → sent ≡ [] → TurnFrom R B P sent (Ends u)
  unfolding TurnFrom
  ends sent u e = e

  forgets : (u : Outcome) → TurnFrom R B P [] (Forgets u)
  unfolding TurnFrom
  forgets u = refl

  pub phase_of : (sent : List Awaited) (p : Phase) → TurnFrom R B P sent (Goes p) → PhaseFrom R B P p
  unfolding TurnFrom
  phase_of sent p w = w

  either_turn : (sent : List Awaited) (b : Bool) (t u : Turn) → TurnFrom R B P sent t → TurnFrom R B P sent u →
      TurnFrom R B P sent (if b then t else u)
  either_turn sent true t u x y = x
  either_turn sent false t u x y = y

  either : (b : Bool) (m n : Moved) → MovedFrom R B P m → MovedFrom R B P n → MovedFrom R B P (if b then m else n)
  either true m n x y = x
  either false m n x y = y

  -- what is got
  abbrev Got : List Column → Type 0
  Got got = (col : Column) → In col got → P col

  module _ (h : Held) (op : CallOp) where
    -- ---- reads

    reads_on_from : (r : Span) (got : List Column) (timed : List TimedOut) (sent awaited : List Awaited) → R → Got got →
        (awaited ≡ [] → sent ≡ []) → MovedFrom R B P (reads_on h r got timed sent awaited)
    unfolding reads_on
    reads_on_from r got timed sent [] now g none = ends sent _ (none refl)
    reads_on_from r got timed sent (a ∷ xs) now g none = goes sent _ (now, g)

    reads_from : (r : Span) (got : List Column) (timed : List TimedOut) (awaited : List Awaited) → R → Got got →
        MovedFrom R B P (reads h r got timed awaited)
    unfolding reads
    reads_from r got timed awaited now g = by _
      where
        by : (o : Option (List ℕ)) → MovedFrom R B P (reads_unless h r got timed awaited o)
        by (Some ps) = ends [] _ refl
        by None = reads_on_from r got timed _ _ now g (λ e. none_behind awaited _ e)

    probes_on_from : (got : List Column) (timed : List TimedOut) (sent awaited : List Awaited) → R → Got got →
        (awaited ≡ [] → sent ≡ []) → MovedFrom R B P (probes_on h got timed sent awaited)
    unfolding probes_on
    probes_on_from got timed sent [] now g none = ends sent _ (none refl)
    probes_on_from got timed sent (a ∷ xs) now g none = goes sent _ (now, g)

    probes_from : (got : List Column) (timed : List TimedOut) (awaited : List Awaited) → R → Got got →
        MovedFrom R B P (probes h got timed awaited)
    unfolding probes
    probes_from got timed awaited now g = by _
      where
        by : (o : Option ℕ) → MovedFrom R B P (probes_by h got timed awaited o)
        by None = ends [] _ refl
        by (Some n) =
            either _ _ _ (ends [] _ refl) (probes_on_from got timed _ _ now g (λ e. none_behind awaited _ e))

    -- ---- writes

    accounted_from : (sent : List Awaited) (timed : List TimedOut) → sent ≡ [] → TurnFrom R B P sent (accounted op timed)
    accounted_from sent [] e = ends sent _ e
    accounted_from sent (t ∷ ts) e = goes sent _ tt

    written_from : (sent : List Awaited) (timed : List TimedOut) → sent ≡ [] → TurnFrom R B P sent (written h op timed)
    unfolding written
    written_from sent timed e =
        either_turn sent (is_past_size h op) _ _ (goes sent _ tt) (accounted_from sent timed e)

    scatters_on_from : (timed : List TimedOut) (queue : List Store) (sent awaited : List Awaited) →
        (awaited ≡ [] → sent ≡ []) → MovedFrom R B P (scatters_on h op timed queue sent awaited)
    unfolding scatters_on
    scatters_on_from timed queue sent [] none = written_from sent timed (none refl)
    scatters_on_from timed queue sent (a ∷ xs) none = goes sent _ tt

    scatters_from : (got : List Column) (timed : List TimedOut) → MovedFrom R B P (scatters h op got timed)
    unfolding scatters
    scatters_from got timed = scatters_on_from timed _ _ _ (λ e. e)

    scatters_next_from : (timed : List TimedOut) (queue : List Store) (k : ℕ) (awaited : List Awaited) →
        MovedFrom R B P (scatters_next h op timed queue k awaited)
    unfolding scatters_next
    scatters_next_from timed queue k awaited = scatters_on_from timed _ _ _ (λ e. none_behind awaited _ e)

    gathers_on_from : (got : List Column) (timed : List TimedOut) (sent awaited : List Awaited) → R → Got got →
        MovedFrom R B P (gathers_on h op got timed sent awaited)
    unfolding gathers_on
    gathers_on_from got timed sent [] now g = scatters_from got timed
    gathers_on_from got timed sent (a ∷ xs) now g = goes sent _ (now, g)

    gathers_from : (got : List Column) (timed : List TimedOut) (awaited : List Awaited) → R → Got got →
        MovedFrom R B P (gathers h op got timed awaited)
    unfolding gathers
    gathers_from got timed awaited now g = gathers_on_from got timed _ _ now g

    -- ---- the answer to a commit

    pub committed_from : (a : Answer) (timed : List TimedOut) → MovedFrom R B P (on_commit h op a timed)
    unfolding on_commit not_committed
    committed_from a timed =
        either (status_of a.results == NFS4_OK) _ _ (accounted_from [] timed refl)
        (either_turn [] (status_of a.results == NFS4ERR_BADLAYOUT) _ _ (forgets _) (ends [] _ refl))

-- ---- replies

-- what was got in a phase that reads
abbrev pub WasGot : Phase → Column → Type 0
WasGot (Reads io) col = In col io.got
WasGot (Probes io) col = In col io.got
WasGot (Gathers io) col = In col io.got
WasGot p col = ⊥

module _ (h : Held) (op : CallOp) where
  -- or what a performed reply gives
  given : (got : List Column) (a : Awaited) (r : Reply) (col : Column) → In col (got ++ got_of a r ∷ []) →
      In col got ⊎ (col ≡ got_of a r)
  given got a r col i = elim (in_either col got (got_of a r ∷ []) i) [
    | inl old ↦ inl old
    | inr (inl e) ↦ inr e
    | inr (inr none) ↦ absurd none
  ]

  abbrev Given : Phase → Awaited → Reply → Column → Type 0
  Given p a r col = WasGot p col ⊎ (col ≡ got_of a r)

  -- a performed reply; where the phase doesn't read nothing is got
  pub performed_reads : (p : Phase) (a : Awaited) (r : Reply) → ReadsNow p →
      MovedFrom (Unit {0}) ⊥ (λ col. WasGot p col ⊎ (col ≡ got_of a r)) (performed h op p a r)
  performed_reads (Reads io) a r now =
      reads_on_from (Unit {0}) ⊥ (Given (Reads io) a r) h op _ _ io.timed [] _ tt (given io.got a r) (λ e. refl)
  performed_reads (Probes io) a r now =
      probes_on_from (Unit {0}) ⊥ (Given (Probes io) a r) h op _ io.timed [] _ tt (given io.got a r) (λ e. refl)
  performed_reads (Gathers io) a r now =
      gathers_on_from (Unit {0}) ⊥ (Given (Gathers io) a r) h op _ io.timed [] _ tt (given io.got a r)
  performed_reads (Scatters io queue) a r now = absurd now
  performed_reads Starts a r now = absurd now
  performed_reads (Needs n) a r now = absurd now
  performed_reads (Waits n) a r now = absurd now

  pub performed_scatters : (io : Io) (queue : List Store) (a : Awaited) (r : Reply) →
      MovedFrom ⊥ ⊥ (λ col. ⊥) (performed h op (Scatters io queue) a r)
  performed_scatters io queue a r = scatters_next_from ⊥ ⊥ (λ col. ⊥) h op io.timed queue a.ask.component _

  -- any other
  pub refused_from : (p : Phase) (a : Awaited) (r : Reply) → MovedFrom ⊥ ⊥ (λ col. ⊥) (refused h p a r)
  unfolding refused
  refused_from p a r =
      either ⊥ ⊥ (λ col. ⊥) (r.verdict == OTHER_TAG) _ _ (forgets ⊥ ⊥ (λ col. ⊥) _) (goes ⊥ ⊥ (λ col. ⊥) [] _ tt)

  -- ---- timeouts

  pub timed_reads : (p : Phase) (k : ℕ) (a : Awaited) (xs : List Awaited) → ReadsNow p →
      MovedFrom (Unit {0}) ⊥ (WasGot p) (timed_out h op p k a xs)
  unfolding gather_timed
  timed_reads (Reads io) k a xs now =
      reads_from (Unit {0}) ⊥ (WasGot (Reads io)) h op _ io.got _ (not_of k io.awaited) tt (λ col i. i)
  timed_reads (Probes io) k a xs now =
      probes_from (Unit {0}) ⊥ (WasGot (Probes io)) h op io.got _ (not_of k io.awaited) tt (λ col i. i)
  timed_reads (Gathers io) k a xs now =
      either (Unit {0}) ⊥ (WasGot (Gathers io)) (is_too_short h op (timed_after io.timed a xs)) _ _
      (ends (Unit {0}) ⊥ (WasGot (Gathers io)) [] _ refl)
      (gathers_from (Unit {0}) ⊥ (WasGot (Gathers io)) h op io.got _ (not_of k io.awaited) tt (λ col i. i))
  timed_reads (Scatters io queue) k a xs now = absurd now
  timed_reads Starts k a xs now = absurd now
  timed_reads (Needs n) k a xs now = absurd now
  timed_reads (Waits n) k a xs now = absurd now

  pub timed_scatters : (io : Io) (queue : List Store) (k : ℕ) (a : Awaited) (xs : List Awaited) →
      MovedFrom ⊥ ⊥ (λ col. ⊥) (timed_out h op (Scatters io queue) k a xs)
  unfolding scatter_timed
  timed_scatters io queue k a xs =
      either ⊥ ⊥ (λ col. ⊥) (is_too_short h op (timed_after io.timed a xs)) _ _ (goes ⊥ ⊥ (λ col. ⊥) [] _ tt)
      (scatters_on_from ⊥ ⊥ (λ col. ⊥) h op _ (without_component k queue) [] (not_of k io.awaited) (λ e. refl))

  -- ---- the begin

  pub begins_from : (R : Type 0) → R → MovedFrom R ⊥ (λ col. ⊥) (begins h op)
  unfolding begins
  begins_from R now =
      either R ⊥ (λ col. ⊥) (is_write op) _ _ (gathers_from R ⊥ (λ col. ⊥) h op [] [] [] now (λ col i. i))
      (either R ⊥ (λ col. ⊥) _ _ _ (probes_from R ⊥ (λ col. ⊥) h op [] [] [] now (λ col i. i))
      (reads_from R ⊥ (λ col. ⊥) h op _ [] [] [] now (λ col i. i)))
