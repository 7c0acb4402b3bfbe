-- Where nothing is logged of a file, a call on it that is pending has no entry: so it is tied to a machine in which none of
-- its clients holds a grant. Towards `EachFileIsCreated`.
use Rattle.std.proofs.Common.{◌≡◌, ◌<◌, ℕ, zero, suc, List, [], ◌∷◌, Option, Some, None, slice_get, option_map, refl, sym, ap, subst, ◌∙◌, inl, inr}
use Rattle.std.proofs.lemmas.Bool.{cases_eq, eq-eqb, eqb-true, ne_eqb}
use Rattle.std.proofs.lemmas.Option.{same_Some}
use Rattle.scenario_text.specs.declared.line.Line.{Line}
use Rattle.scenario_text.specs.declared.names.TheConstants.{CLIENTS}
use Rattle.client_rules.specs.Calls.{file_of}
use Rattle.client_rules.specs.Grants.{held_of}
use Rattle.world_history.specs.ClientNames.{Client, Call, CallOp, Held, Request, First, Get, Commit, Report, Close, Phase as CallPhase, Starts, Needs, Waits, Reads, Probes, Gathers, Scatters}
use Rattle.world_history.specs.Handed.{pending_op}
use Rattle.world_history.specs.Moves.{op_of}
use Rattle.world_history.specs.ReadLog.{Logged, Pending, entry_in, log_in, log_of}
use Rattle.world_history.specs.ServerNames.{Server}
use Rattle.world_history.specs.State.{at_number}
use Rattle.exchange_law.specs.Calls.{CallFine, PhaseFine}
use Rattle.exchange_law.specs.Meeting.{KeptGood}
use Rattle.fence_law.specs.State.{State}
use Rattle.file_simulation.specs.Tied.{CallTied, PhaseTied}
use Rattle.relation_law.specs.Requests.{IsReturning}
use Rattle.exchange_law.specs.Pending.{logged_op}
use Rattle.relation_law.specs.RequestsClients.{AsksFor, IsAtPhase}
use Rattle.headline_law.proofs.EntriesLog.{said_of}
use Rattle.headline_law.proofs.EntriesNamed.{log_well}

-- where no entry is said of a file, there is none of it
pub none_said : (file : ℕ) (es : List Logged) → said_of file es ≡ [] → (i : ℕ) (e : Logged) → slice_get es i ≡ Some e →
    e.file ≡ file → ⊥
none_said file [] none i e there here = cc there
none_said file (x ∷ es) none i e there here = elim (cases_eq x.file file) [
  | inl same ↦ cc (rw (eq-eqb x.file file same) at none)
  | inr other ↦ by_place i (rw (ne_eqb x.file file other) at none) there
      (λ j rest later. none_said file es rest j e later here) other
]
  where
    by_place : (j : ℕ) → said_of file es ≡ [] → slice_get (x ∷ es) j ≡ Some e →
        ((g : ℕ) → said_of file es ≡ [] → slice_get es g ≡ Some e → ⊥) → (x.file ≡ file → ⊥) → ⊥
    by_place zero rest at later other = other (ap (λ (z : Logged). z.file) (same_Some x e at) ∙ here)
    by_place (suc j) rest at later other = later j rest at

module _ (all : List Line) (n : ℕ) (none_logged : log_of all n ≡ []) (server : Server) (s : State) (x : ℕ → Client)
    (logged : (c : ℕ) → logged_op (at_number (log_in all).pending c) ≡ pending_op (x c))
    (asks : (c : ℕ) → AsksFor (x c)) (none_held : (c : ℕ) → held_of (x c).held n ≡ None)
    (gone : (c : ℕ) (r : Request) → (x c).outstanding ≡ Some r → IsReturning r.args → r.file ≡ n → ⊥) where
  -- no pending call on the file has an entry
  no_entry : (c : ℕ) → c < CLIENTS → (call : Call) → (x c).call ≡ Some call → file_of call.op ≡ n →
      entry_in (at_number (log_in all).pending c) ≡ None
  no_entry c low call is here = by_pending (at_number (log_in all).pending c) refl
    where
      agrees : logged_op (at_number (log_in all).pending c) ≡ Some call.op
      agrees = logged c ∙ ap (option_map (λ (y : Call). y.op)) is

      by_entry : (p : Pending) → at_number (log_in all).pending c ≡ Some p → (o : Option ℕ) → p.entry ≡ o → p.entry ≡ None
      by_entry p at None e = e
      by_entry p at (Some i) e =
          let its = (log_well all).1 c i p at e in
          let op : op_of p.call ≡ call.op = cc (ap logged_op (sym at) ∙ agrees) in
          absurd (none_said n (log_in all).entries none_logged i its.logged its.there
          (its.file ∙ ap file_of op ∙ here))

      by_pending : (o : Option Pending) → at_number (log_in all).pending c ≡ o →
          entry_in (at_number (log_in all).pending c) ≡ None
      by_pending None at = ap entry_in at
      by_pending (Some p) at = ap entry_in at ∙ by_entry p at p.entry refl

  call_tied : (c : ℕ) (o : Option ℕ) (op : CallOp) (p : CallPhase) → o ≡ None → IsAtPhase (x c) op p → file_of op ≡ n →
      PhaseFine (KeptGood server c) None (x c).outstanding op p → PhaseTied s c [] o p
  call_tied c o op Starts none is here k = none
  call_tied c o op (Needs First) none is here k = none
  call_tied c o op (Needs (Get tries)) none is here k = none
  call_tied c o op (Needs (Commit timed)) none is here k = absurd k.0.0
  call_tied c o op (Needs (Report timed)) none is here k = absurd k.0
  call_tied c o op (Needs (Close u report)) none is here k = tt
  call_tied c o op (Waits First) none is here k = none
  call_tied c o op (Waits (Get tries)) none is here k = none
  call_tied c o op (Waits (Commit timed)) none is here k = absurd k.writes
  call_tied c o op (Waits (Report timed)) none is here k =
      let asked = (asks c).waits op (Report timed) is in
      absurd (gone c asked.request asked.outstanding (subst IsReturning (sym asked.asks.1.1) tt) (asked.file_is ∙ here))
  call_tied c o op (Waits (Close u report)) none is here k = tt
  call_tied c o op (Reads io) none is here k = absurd k.0
  call_tied c o op (Probes io) none is here k = absurd k.0
  call_tied c o op (Gathers io) none is here k = none
  call_tied c o op (Scatters io queue) none is here k = absurd k.0

  pub calls_tied : (c : ℕ) → c < CLIENTS → (call : Option Call) → (x c).call ≡ call →
      CallFine (KeptGood server c) (x c).held (x c).outstanding call →
      CallTied s n c [] (entry_in (at_number (log_in all).pending c)) call
  calls_tied c low None is k = tt
  calls_tied c low (Some call) is k = λ here.
      let same : file_of call.op ≡ n = eqb-true (file_of call.op) n here in
      call_tied c (entry_in (at_number (log_in all).pending c)) call.op call.phase (no_entry c low call is same) is same
      (subst (λ (o : Option Held). PhaseFine (KeptGood server c) o (x c).outstanding call.op call.phase)
      (ap (held_of (x c).held) same ∙ none_held c) k.1)
