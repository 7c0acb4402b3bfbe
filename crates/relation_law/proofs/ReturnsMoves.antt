-- What a call does with the drives: a write begins with enough, and breaks off only if a drive refused it or too much timed out.
-- Towards `ReturnsAreRight` (`specs/KeptFollows.antt`).
use Rattle.std.proofs.Common.{◌≡◌, ◌==◌, ◌/◌, ◌||◌, ℕ, Bool, true, false, List, [], ◌∷◌, Option, Some, None, refl, inl, inr, if◌then◌else◌}
use Rattle.std.proofs.lemmas.Bool.{cases_Bool}
use Rattle.data_map.specs.Striping.{replicas, group_width}
use Rattle.stripe_plan.specs.Lost.{positions_out}
use Rattle.layout_types.specs.declared.ioerrs.IoErr.{IoErr}
use Rattle.layout_types.specs.declared.ioerrs.Errno.TheVariants.{Eio, NotFound, NoSpace, BadCred, NoAccess, Resource}
use Rattle.server_rules.specs.Return.{is_unreachable}
use Rattle.client_rules.specs.Calls.{is_write}
use Rattle.client_rules.specs.Commands.{not_of, counted}
use Rattle.client_rules.specs.Going.{begins}
use Rattle.client_rules.specs.Io.{outs}
use Rattle.client_rules.specs.Reads.{reads_on, reads_unless, reads, probes_on, is_probe_lost, probes_sent, probes_by, probes}
use Rattle.client_rules.specs.Replies.{refusal, refused_report, refused, performed, replied, gather_timed, scatter_timed, timed_out}
use Rattle.client_rules.specs.declared.limits.TheConstants.{NO_KEY as NO_KEY_LEFT, BAD_CHECK_VALUE, NO_OBJECT, OVER_LIMIT, NO_SPACE, LANE_FULL}
use Rattle.client_rules.specs.Requests.{error_at, is_no_access, errno_of, report_of}
use Rattle.client_rules.specs.Turns.{turned, ended, closing}
use Rattle.client_rules.specs.Writes.{accounted, written, scatters_on, scatters, scatters_next, gathers_on, gathers, is_too_short}
use Rattle.world_history.specs.ClientNames.{CallOp, Held, Awaited, TimedOut, Io, Phase, Starts, Needs, Waits, Reads, Probes, Gathers, Scatters, Outcome, Lost, Silent, Turn, Goes, Ends, Forgets, Moved, Reply, Span, Column, Store}
use Rattle.relation_law.specs.Returns.{BreaksOff, ReportsBy, PhaseReports, HasEnough, WritesEnough}

-- ---- words

-- N holds of what is reported, and a write has enough, behind a turn
abbrev pub Suits : (List IoErr → Type 0) → Held → CallOp → Phase → Type 0
Suits N h op p = PhaseReports N p × WritesEnough h op p

-- (these words stay folded, so that the lemmas on tests find their cases)
unfoldable pub TurnSuits : (List IoErr → Type 0) → Held → CallOp → Turn → Type 0
TurnSuits N h op (Goes p) = Suits N h op p
TurnSuits N h op (Ends o) = Unit {0}
TurnSuits N h op (Forgets o) = Unit {0}

unfoldable pub MovedSuits : (List IoErr → Type 0) → CallOp → Moved → Type 0
MovedSuits N op m = TurnSuits N m.held op m.turn

-- ---- verdicts

-- a drive that refuses was reached
reached : (v : ℕ) → is_unreachable (errno_of v) ≡ false
unfolding errno_of
reached v =
    by (v == NO_SPACE) ((v == NO_KEY_LEFT) || (v == BAD_CHECK_VALUE)) (is_no_access v) (v == NO_OBJECT)
    ((v == OVER_LIMIT) || (v == LANE_FULL))
  where
    by : (a b c d e : Bool) → is_unreachable (if a then NoSpace else if b then BadCred else if c then NoAccess
        else if d then NotFound else if e then Resource else Eio) ≡ false
    by true b c d e = refl
    by false true c d e = refl
    by false false true d e = refl
    by false false false true e = refl
    by false false false false true = refl
    by false false false false false = refl

module _ (N : List IoErr → Type 0) (op : CallOp) where
  -- ---- turns

  pub ends : (k : Held) (o : Outcome) → TurnSuits N k op (Ends o)
  unfolding TurnSuits
  ends k o = tt

  pub forgets : (k : Held) (o : Outcome) → TurnSuits N k op (Forgets o)
  unfolding TurnSuits
  forgets k o = tt

  goes : (k : Held) (p : Phase) → Suits N k op p → TurnSuits N k op (Goes p)
  unfolding TurnSuits
  goes k p w = w

  pub moves : (k : Held) (t : Turn) (sent : List Awaited) → TurnSuits N k op t
      → MovedSuits N op (record { held = k; turn = t; sent = sent })
  unfolding MovedSuits
  moves k t sent w = w

  pub turn_of : (m : Moved) → MovedSuits N op m → TurnSuits N m.held op m.turn
  unfolding MovedSuits
  turn_of m w = w

  pub phase_of : (k : Held) (p : Phase) → TurnSuits N k op (Goes p) → Suits N k op p
  unfolding TurnSuits
  phase_of k p w = w

  either_turn : (k : Held) (b : Bool) (t u : Turn) → TurnSuits N k op t → TurnSuits N k op u
      → TurnSuits N k op (if b then t else u)
  either_turn k true t u x y = x
  either_turn k false t u x y = y

  either : (b : Bool) (m n : Moved) → MovedSuits N op m → MovedSuits N op n → MovedSuits N op (if b then m else n)
  either true m n x y = x
  either false m n x y = y

  pub accounted_suits : (k : Held) (timed : List TimedOut) → TurnSuits N k op (accounted op timed)
  accounted_suits k [] = ends k _
  accounted_suits k (t ∷ ts) = goes k _ (tt, tt)

  written_suits : (h k : Held) (timed : List TimedOut) → TurnSuits N k op (written h op timed)
  unfolding written
  written_suits h k timed = either_turn k _ _ _ (goes k _ (tt, tt)) (accounted_suits k timed)

counted_enough : (h : Held) (op : CallOp) (sent : List Awaited) → HasEnough h op → HasEnough (counted h sent) op
unfolding is_too_short outs
counted_enough h op sent e = e

module _ (N : List IoErr → Type 0) (h : Held) (op : CallOp) where
  -- ---- dealings with the drives

  reads_on_suit : (r : Span) (got : List Column) (timed : List TimedOut) (sent awaited : List Awaited)
      → MovedSuits N op (reads_on h r got timed sent awaited)
  unfolding reads_on
  reads_on_suit r got timed sent [] = moves N op _ _ _ (ends N op _ _)
  reads_on_suit r got timed sent (a ∷ xs) = moves N op _ _ _ (goes N op _ _ (tt, tt))

  reads_unless_suit : (r : Span) (got : List Column) (timed : List TimedOut) (awaited : List Awaited) (o : Option (List ℕ))
      → MovedSuits N op (reads_unless h r got timed awaited o)
  reads_unless_suit r got timed awaited None = reads_on_suit r got timed _ _
  reads_unless_suit r got timed awaited (Some ps) = moves N op _ _ _ (ends N op _ _)

  reads_suit : (r : Span) (got : List Column) (timed : List TimedOut) (awaited : List Awaited)
      → MovedSuits N op (reads h r got timed awaited)
  unfolding reads
  reads_suit r got timed awaited = reads_unless_suit r got timed awaited _

  probes_on_suit : (got : List Column) (timed : List TimedOut) (sent awaited : List Awaited)
      → MovedSuits N op (probes_on h got timed sent awaited)
  unfolding probes_on
  probes_on_suit got timed sent [] = moves N op _ _ _ (ends N op _ _)
  probes_on_suit got timed sent (a ∷ xs) = moves N op _ _ _ (goes N op _ _ (tt, tt))

  probes_by_suit : (got : List Column) (timed : List TimedOut) (awaited : List Awaited) (o : Option ℕ)
      → MovedSuits N op (probes_by h got timed awaited o)
  probes_by_suit got timed awaited None = moves N op _ _ _ (ends N op _ _)
  probes_by_suit got timed awaited (Some k) =
      either N op (is_probe_lost h.map (outs h timed) (k / replicas h.map))
      (ended h (Lost (positions_out h.map (outs h timed) (k / replicas h.map / group_width h.map))))
      (probes_sent h got timed awaited (k / replicas h.map)) (moves N op _ _ _ (ends N op _ _)) (probes_on_suit got timed _ _)

  probes_suit : (got : List Column) (timed : List TimedOut) (awaited : List Awaited)
      → MovedSuits N op (probes h got timed awaited)
  unfolding probes
  probes_suit got timed awaited = probes_by_suit got timed awaited _

  module _ (enough : HasEnough h op) where
    scatters_on_suit : (timed : List TimedOut) (queue : List Store) (sent awaited : List Awaited)
        → MovedSuits N op (scatters_on h op timed queue sent awaited)
    unfolding scatters_on
    scatters_on_suit timed queue sent [] = moves N op _ _ _ (written_suits N op h _ timed)
    scatters_on_suit timed queue sent (a ∷ xs) = moves N op _ _ _ (goes N op _ _ (tt, counted_enough h op sent enough))

    scatters_suit : (got : List Column) (timed : List TimedOut) → MovedSuits N op (scatters h op got timed)
    unfolding scatters
    scatters_suit got timed = scatters_on_suit timed _ _ _

    scatters_next_suit : (timed : List TimedOut) (queue : List Store) (k : ℕ) (awaited : List Awaited)
        → MovedSuits N op (scatters_next h op timed queue k awaited)
    unfolding scatters_next
    scatters_next_suit timed queue k awaited = scatters_on_suit timed _ _ _

    gathers_on_suit : (got : List Column) (timed : List TimedOut) (sent awaited : List Awaited)
        → MovedSuits N op (gathers_on h op got timed sent awaited)
    unfolding gathers_on
    gathers_on_suit got timed sent [] = scatters_suit got timed
    gathers_on_suit got timed sent (a ∷ xs) = moves N op _ _ _ (goes N op _ _ (tt, counted_enough h op sent enough))

    gathers_suit : (got : List Column) (timed : List TimedOut) (awaited : List Awaited)
        → MovedSuits N op (gathers h op got timed awaited)
    unfolding gathers
    gathers_suit got timed awaited = gathers_on_suit got timed _ _

    gather_timed_suits : (io : Io) (k : ℕ) (timed : List TimedOut) → MovedSuits N op (gather_timed h op io k timed)
    unfolding gather_timed
    gather_timed_suits io k timed =
        either N op (is_too_short h op timed) (ended h (Silent k)) (gathers h op io.got timed (not_of k io.awaited))
        (moves N op _ _ _ (ends N op _ _)) (gathers_suit io.got timed _)

  -- ---- replies and timeouts

  performed_suits : (p : Phase) (a : Awaited) (r : Reply) → Suits N h op p → MovedSuits N op (performed h op p a r)
  performed_suits (Reads io) a r w = reads_on_suit _ _ io.timed [] _
  performed_suits (Probes io) a r w = probes_on_suit _ io.timed [] _
  performed_suits (Gathers io) a r w = gathers_on_suit w.1 _ io.timed [] _
  performed_suits (Scatters io queue) a r w = scatters_next_suit w.1 io.timed queue _ _
  performed_suits Starts a r w = moves N op _ _ _ (goes N op _ _ w)
  performed_suits (Needs need) a r w = moves N op _ _ _ (goes N op _ _ w)
  performed_suits (Waits need) a r w = moves N op _ _ _ (goes N op _ _ w)

  module _ (broken : (report : List IoErr) → BreaksOff h op report → N report) where
    report_by : (report : List IoErr) → BreaksOff h op report → ReportsBy N report
    report_by [] b = tt
    report_by (e ∷ es) b = broken (e ∷ es) b

    refused_reports : (p : Phase) (a : Awaited) (r : Reply) → ReportsBy N (refused_report h p a r)
    unfolding error_at
    refused_reports (Scatters io queue) a r = broken _ (inl (reached r.verdict))
    refused_reports Starts a r = tt
    refused_reports (Needs need) a r = tt
    refused_reports (Waits need) a r = tt
    refused_reports (Reads io) a r = tt
    refused_reports (Probes io) a r = tt
    refused_reports (Gathers io) a r = tt

    refused_suits : (p : Phase) (a : Awaited) (r : Reply) → MovedSuits N op (refused h p a r)
    unfolding refused
    refused_suits p a r =
        either N op (r.verdict == 9) (turned h (Forgets (refusal a r)))
        (turned h (closing (refusal a r) (refused_report h p a r)))
        (moves N op _ _ _ (forgets N op _ _)) (moves N op _ _ _ (goes N op _ _ ((tt, refused_reports p a r), tt)))

    pub replied_suits : (p : Phase) (a : Awaited) (r : Reply) → Suits N h op p → MovedSuits N op (replied h op p a r)
    unfolding replied
    replied_suits p a r w = either N op _ _ _ (performed_suits p a r w) (refused_suits p a r)

    scatter_timed_suits : HasEnough h op → (io : Io) (queue : List Store) (k : ℕ) (timed : List TimedOut)
        → MovedSuits N op (scatter_timed h op io queue k timed)
    unfolding scatter_timed
    scatter_timed_suits enough io queue k timed = elim (cases_Bool (is_too_short h op timed)) [
      | inl short ↦ rw short (moves N op _ _ _ (goes N op _ _ (
        (
          tt,
          report_by (report_of h timed) (inr (record {
            timed = timed;
            report_is = refl;
            short = short;
            enough = enough;
          })),
        ),
        tt,
      )))
      | inr long ↦ rw long (scatters_on_suit enough timed _ [] _)
    ]

    pub timed_suits : (p : Phase) (k : ℕ) (a : Awaited) (xs : List Awaited) → Suits N h op p
        → MovedSuits N op (timed_out h op p k a xs)
    timed_suits (Reads io) k a xs w = reads_suit _ io.got _ _
    timed_suits (Probes io) k a xs w = probes_suit io.got _ _
    timed_suits (Gathers io) k a xs w = gather_timed_suits w.1 io k _
    timed_suits (Scatters io queue) k a xs w = scatter_timed_suits w.1 io queue k _
    timed_suits Starts k a xs w = moves N op _ _ _ (goes N op _ _ w)
    timed_suits (Needs need) k a xs w = moves N op _ _ _ (goes N op _ _ w)
    timed_suits (Waits need) k a xs w = moves N op _ _ _ (goes N op _ _ w)

  -- ---- the begin

  pub begins_suit : (is_write op ≡ true → HasEnough h op) → MovedSuits N op (begins h op)
  unfolding begins
  begins_suit enough = elim (cases_Bool (is_write op)) [
    | inl t ↦ rw t (gathers_suit (enough t) [] [] [])
    | inr f ↦ rw f (either N op _ _ _ (probes_suit [] [] []) (reads_suit _ [] [] []))
  ]
