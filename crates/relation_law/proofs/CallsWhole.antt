-- The rest of a client's turn behind its first line: its call may begin, how it ended is told, a request may go out.
-- Towards `CallsGoOn` (`specs/Steps.antt`).
use Rattle.std.proofs.Common.{◌≡◌, ◌==◌, ℕ, Bool, true, false, find, Option, Some, None, refl, sym, ap, subst, ◌∙◌, if◌then◌else◌}
use Rattle.data_map.specs.declared.check.RawMap.{RawMap}
use Rattle.client_rules.specs.Going.{asks_under, begins, begun, by_turn, is_held, progress_call, progress_free, progress_phase, progressed, requests, returns, returns_due, with_held}
use Rattle.client_rules.specs.Grants.{held_of}
use Rattle.client_rules.specs.Calls.{file_of}
use Rattle.client_rules.specs.Messages.{Step, finished, sends_of}
use Rattle.history_law.proofs.Turns.{each_begin}
use Rattle.world_history.specs.ServerNames.{Slot}
use Rattle.world_history.specs.ClientNames.{Call, CallOp, Held, Due, Request, Need, Phase, Starts, Needs, Waits, Reads, Probes, Gathers, Scatters, Outcome, Turn, Goes, Ends, Forgets, Done}
use Rattle.fence_law.specs.State.{State}
use Rattle.fence_law.specs.Machine.{after_all}
use Rattle.fence_law.proofs.Formed.{Formed}
use Rattle.fence_law.proofs.Slots.{Slots}
use Rattle.fence_law.proofs.Holds.{Holds}
use Rattle.file_simulation.specs.Events.{joined}
use Rattle.file_simulation.specs.ClientEvents as table
use Rattle.file_simulation.specs.Requests.{kept_for}
use Rattle.file_simulation.specs.Calls.{IsClient}
use Rattle.relation_law.specs.CallsTurns.{IsMid}
use Rattle.relation_law.proofs.CallsMid.{AsksOfBegin, begun_mid}
use Rattle.relation_law.proofs.CallsEnded.{ended_mid}
use Rattle.relation_law.proofs.CallsTells.{told, told_is}
use Rattle.relation_law.proofs.CallsTurned.{EndFits, turn_ends}
use Rattle.relation_law.proofs.KeptNotes.{after_both}

-- ---- the outcome stands beside what goes to the server

-- with another outcome
abbrev pub with_outcome : Done → Option Outcome → Done
with_outcome d u = record d { outcome = u }

asks_apart : (d : Done) (u : Option Outcome) (op : CallOp) (n : Need) (h : Option Held) →
    asks_under (with_outcome d u) op n h ≡ with_outcome (asks_under d op n h) u
unfolding requests
asks_apart d u op n None = refl
asks_apart d u op n (Some h) = refl

returns_apart : (d : Done) (u : Option Outcome) (x : Option Due) → returns (with_outcome d u) x ≡ with_outcome (returns d x) u
unfolding requests
returns_apart d u None = refl
returns_apart d u (Some x) = refl

either_apart : (b : Bool) (d : Done) (u : Option Outcome) (x : Option Due) →
    (if b then with_outcome d u else returns (with_outcome d u) x) ≡ with_outcome (if b then d else returns d x) u
either_apart true d u x = refl
either_apart false d u x = returns_apart d u x

due_apart : (d : Done) (u : Option Outcome) → returns_due (with_outcome d u) ≡ with_outcome (returns_due d) u
unfolding returns_due
due_apart d u = either_apart (d.client.next == 0) d u (find (is_held d.client.held) d.client.due)

phase_apart : (d : Done) (u : Option Outcome) (op : CallOp) (p : Phase) →
    progress_phase (with_outcome d u) op p ≡ with_outcome (progress_phase d op p) u
phase_apart d u op (Needs n) = asks_apart d u op n (held_of d.client.held (file_of op))
phase_apart d u op Starts = refl
phase_apart d u op (Waits n) = refl
phase_apart d u op (Reads io) = refl
phase_apart d u op (Probes io) = refl
phase_apart d u op (Gathers io) = refl
phase_apart d u op (Scatters io queue) = refl

call_apart : (d : Done) (u : Option Outcome) (c : Option Call) →
    progress_call (with_outcome d u) c ≡ with_outcome (progress_call d c) u
call_apart d u None = due_apart d u
call_apart d u (Some call) = phase_apart d u call.op call.phase

free_apart : (d : Done) (u : Option Outcome) (r : Option Request) →
    progress_free (with_outcome d u) r ≡ with_outcome (progress_free d r) u
free_apart d u None = call_apart d u d.client.call
free_apart d u (Some r) = refl

pub outcome_apart : (d : Done) (u : Option Outcome) → progressed (with_outcome d u) ≡ with_outcome (progressed d) u
unfolding progressed
outcome_apart d u = free_apart d u d.client.outstanding

-- so it stays
pub outcome_stays : (d : Done) → (progressed d).outcome ≡ d.outcome
outcome_stays d = ap (λ (e : Done). e.outcome) (outcome_apart d d.outcome)

-- ---- the outstanding request stays where a call begins

turn_outstanding : (d : Done) (op : CallOp) (t : Turn) → (by_turn d op t).client.outstanding ≡ d.client.outstanding
turn_outstanding d op (Goes p) = refl
turn_outstanding d op (Ends u) = refl
turn_outstanding d op (Forgets u) = refl

pub begun_outstanding : (d : Done) → (begun d).client.outstanding ≡ d.client.outstanding
begun_outstanding d = each_begin d (λ (e : Done). e.client.outstanding ≡ d.client.outstanding) (record {
  stays = refl;
  needs = λ op n is out first. refl;
  begun = λ op h is held covered.
      turn_outstanding (record (with_held d (begins h op).held) { commands = (begins h op).sent }) op (begins h op).turn;
})

-- ---- the rest of a turn

module _ (file : ℕ) (m : RawMap) (c : ℕ) (slot : Option Slot) (s : State) (op : Option CallOp) (d : Done)
    (k : IsMid file m s c (kept_for slot d.client.outstanding) op d)
    (begin : AsksOfBegin file m c (kept_for slot d.client.outstanding) s op d k) where
  abbrev e : Done
  e = begun d

  pub mid : IsMid file m s c (kept_for slot e.client.outstanding) op e
  mid = subst (λ r. IsMid file m s c (kept_for slot r) op e) (sym (begun_outstanding d))
      (begun_mid file m c (kept_for slot d.client.outstanding) s op d k begin)

  -- the machine behind the line that tells how the call ended, if it has
  abbrev pub told_end : Option Outcome → State
  told_end None = s
  told_end (Some u) = after_all s (table.ended s file c op (Some u))

  -- what the end of the turn asks, at the machine there
  abbrev pub AsksOfEnd : Type 0
  AsksOfEnd =
      (holding : Holds (told_end e.outcome)) (slots : Slots (told_end e.outcome))
      (w : IsMid file m (told_end e.outcome) c (kept_for slot e.client.outstanding) op (with_outcome e None)) →
      EndFits file m c (told_end e.outcome) holding slots op slot (with_outcome e None) w refl

  -- behind the whole turn
  abbrev pub IsWholeTurn : Step → Type 0
  IsWholeTurn t =
      IsClient file m (after_all s (joined (table.at_end s file c op t))) c t.client (kept_for slot t.client.outstanding)

  pub mid_by : (u : Option Outcome) → e.outcome ≡ u → Formed s →
      IsMid file m (told_end u) c (kept_for slot e.client.outstanding) op (with_outcome e None)
  mid_by None is formed = subst (λ z. IsMid file m s c (kept_for slot e.client.outstanding) op (with_outcome e z)) is mid
  mid_by (Some u) is formed = ended_mid file m c (kept_for slot e.client.outstanding) s op e u is formed mid

  turn_client : Formed s → Holds (told_end e.outcome) → Slots (told_end e.outcome) → AsksOfEnd →
      IsClient file m (told (told_end e.outcome) file c (progressed e).client (sends_of (progressed e))) c
      (progressed e).client (kept_for slot (progressed e).client.outstanding)
  turn_client formed holding slots fits =
      let w = mid_by e.outcome refl formed in
      let z = turn_ends file m c (told_end e.outcome) holding slots op slot (with_outcome e None) w refl (fits holding slots w) in
      subst
      (λ y. IsClient file m (told (told_end e.outcome) file c y.client (sends_of y)) c y.client
      (kept_for slot y.client.outstanding))
      (outcome_apart e None) z

  pub lines_by : (u : Option Outcome) → e.outcome ≡ u →
      after_all s (joined (table.at_end s file c op (finished d)))
      ≡ told (told_end u) file c (progressed e).client (sends_of (progressed e))
  unfolding finished
  lines_by None is =
      rw (outcome_stays e ∙ is) (told_is s file c (progressed e).client (sends_of (progressed e)))
  lines_by (Some u) is =
      rw (outcome_stays e ∙ is)
      (after_both s (table.ended s file c op (Some u))
      (joined
      (table.sends_all (after_all s (table.ended s file c op (Some u))) file c (progressed e).client
      (sends_of (progressed e))))
      ∙ told_is (after_all s (table.ended s file c op (Some u))) file c (progressed e).client (sends_of (progressed e)))

  pub whole_turn : Formed s → Holds (told_end e.outcome) → Slots (told_end e.outcome) → AsksOfEnd → IsWholeTurn (finished d)
  unfolding finished
  whole_turn formed holding slots fits =
      subst (λ t. IsClient file m t c (progressed e).client (kept_for slot (progressed e).client.outstanding))
      (sym (lines_by e.outcome refl)) (turn_client formed holding slots fits)
