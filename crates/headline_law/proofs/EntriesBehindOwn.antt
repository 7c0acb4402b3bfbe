-- The call of the client that goes on, behind its move.
-- Towards `CutsKeepEntries` (`specs/EntriesTied.antt`).
use Rattle.std.proofs.Common.{◌≡◌, ◌==◌, ◌≤◌, ◌+◌, ℕ, Bool, true, false, List, Option, Some, None, refl, sym, ap, subst, inl, inr, arith}
use Rattle.data_map.specs.declared.check.RawMap.{RawMap}
use Rattle.layout_ops.specs.declared.messages.Answer.{Answer}
use Rattle.scenario_text.specs.declared.line.Line.{Line}
use Rattle.server_rules.specs.Laws.{last_of}
use Rattle.client_rules.specs.Calls.{file_of, is_write}
use Rattle.client_rules.specs.Grants.{held_of}
use Rattle.world_history.specs.ClientNames.{Call, CallOp, Held, Request, Phase, Starts, Needs, Waits, Reads, Probes, Gathers, Scatters}
use Rattle.world_history.specs.ServerNames.{Slot}
use Rattle.exchange_law.specs.Calls.{Knows, PhaseFine, CallFine}
use Rattle.exchange_law.specs.InStep.{StandsAt, IsAwaiting}
use Rattle.exchange_law.specs.Messages.{last_before}
use Rattle.exchange_law.proofs.Standing.{last_one_less}
use Rattle.fence_law.specs.State.{State}
use Rattle.fence_law.specs.State.Call.{Writes as AtWrite, Reads as AtRead}
use Rattle.file_simulation.specs.Calls.{CallIs, CallAt, CallOn}
use Rattle.file_simulation.specs.EventLists.{write_of, entry_of, entry_in as at_entry}
use Rattle.file_simulation.specs.Showing.{Pairs}
use Rattle.file_simulation.specs.Tied.{HasEntry, PhaseTied}
use Rattle.relation_law.specs.CallsTurns.{IsWorking}
use Rattle.relation_law.proofs.MessagesClients.{IsFit}
use Rattle.relation_law.proofs.MessagesRun.{CallFits}
use Rattle.headline_law.proofs.EntriesCalls.{CallAs}

-- ---- a call by its kind

-- a read reads or probes, and a write gathers
abbrev pub IsOfKind : CallOp → Phase → Type 0
IsOfKind op (Reads io) = is_write op ≡ false
IsOfKind op (Probes io) = is_write op ≡ false
IsOfKind op (Gathers io) = is_write op ≡ true
IsOfKind op p = Unit {0}

kind_under : (h : Held) (op : CallOp) (p : Phase) → IsFit h op p → IsOfKind op p
kind_under h op (Reads io) k = k.is
kind_under h op (Probes io) k = k.is
kind_under h op (Gathers io) k = k.is
kind_under h op (Scatters io queue) k = tt
kind_under h op Starts k = tt
kind_under h op (Needs n) k = tt
kind_under h op (Waits n) k = tt

none_works : (K : Knows) (out : Option Request) (op : CallOp) (p : Phase) → IsWorking p → PhaseFine K None out op p → ⊥
none_works K out op (Reads io) works k = k.0
none_works K out op (Probes io) works k = k.0
none_works K out op (Gathers io) works k = k.0
none_works K out op (Scatters io queue) works k = k.0
none_works K out op Starts works k = works
none_works K out op (Needs n) works k = works
none_works K out op (Waits n) works k = works

-- So it is of a call that works with the drives.
pub working_kind : (K : Knows) (hs : List Held) (out : Option Request) (x : Option Call) (call : Call) → x ≡ Some call →
    IsWorking call.phase → CallFits hs x → CallFine K hs out x → IsOfKind call.op call.phase
working_kind K hs out None call is works fits fine = absurd (cc is)
working_kind K hs out (Some y) call is works fits fine =
    let one : y ≡ call = cc is in
    subst (λ (z : Call). IsOfKind z.op z.phase) one
    (by (held_of hs (file_of y.op)) refl (subst (λ (z : Call). IsWorking z.phase) (sym one) works) fine.1)
  where
    by : (o : Option Held) → held_of hs (file_of y.op) ≡ o → IsWorking y.phase →
        PhaseFine K (held_of hs (file_of y.op)) out y.op y.phase → IsOfKind y.op y.phase
    by None e w k =
        absurd (none_works K out y.op y.phase w (subst (λ (o : Option Held). PhaseFine K o out y.op y.phase) e k))
    by (Some h) e w k = kind_under h y.op y.phase (fits.1 h e)

-- ---- the tie of a call that sent commands

module _ (map : RawMap) (c : ℕ) (t : State) (pairs : Pairs) (o : Option ℕ) (op : CallOp) where
  read_tied : (j : ℕ) → is_write op ≡ false → t.call c ≡ AtRead j → CallAs pairs (is_write op) o (t.call c) →
      HasEntry pairs (entry_of t c) o
  read_tied j kind at_ k =
      subst (λ (i : ℕ). HasEntry pairs i o) (sym (ap at_entry at_))
      (subst (λ (b : Bool). CallAs pairs b o (AtRead j)) kind (subst (CallAs pairs (is_write op) o) at_ k))

  gather_tied : (j : ℕ) → is_write op ≡ true → t.call c ≡ AtRead j → CallAs pairs (is_write op) o (t.call c) → o ≡ None
  gather_tied j kind at_ k =
      subst (λ (b : Bool). CallAs pairs b o (AtRead j)) kind (subst (CallAs pairs (is_write op) o) at_ k)

  write_tied : (j : ℕ) → t.call c ≡ AtWrite j → write_of t c ≡ j → CallAs pairs (is_write op) o (t.call c) →
      HasEntry pairs (write_of t c) o
  write_tied j at_ last k =
      subst (λ (i : ℕ). HasEntry pairs i o) (sym last) (subst (CallAs pairs (is_write op) o) at_ k)

  pub sent_tied : (ans : Option Answer) (p : Phase) → IsWorking p → IsOfKind op p → CallIs map t c op ans p →
      CallAs pairs (is_write op) o (t.call c) → PhaseTied t c pairs o p
  sent_tied ans (Reads io) works kind is k = read_tied is.0 kind is.1.at_ k
  sent_tied ans (Probes io) works kind is k = read_tied is.0 kind is.1.at_ k
  sent_tied ans (Gathers io) works kind is k = gather_tied is.0 kind is.1.at_ k
  sent_tied ans (Scatters io queue) works kind is k = write_tied is.0 is.1.writing.at_ is.1.writing.last k
  sent_tied ans Starts works kind is k = absurd works
  sent_tied ans (Needs n) works kind is k = absurd works
  sent_tied ans (Waits n) works kind is k = absurd works

-- what the machine is at for a call on the file
pub call_here : (file : ℕ) (map : RawMap) (t : State) (c : ℕ) (ans : Option Answer) (x : Option Call) (call : Call) →
    x ≡ Some call → (file_of call.op == file) ≡ true → CallAt file map t c ans x → CallIs map t c call.op ans call.phase
call_here file map t c ans x call is here k =
    subst (λ (b : Bool). CallOn b map t c call ans) here (subst (CallAt file map t c ans) is k)

-- ---- a request that is new

-- the server's last answer was to no later request than the client's last
last_low : (h : List Line) (c : ℕ) (o : Option Slot) (last : ℕ) (out : Option Request) →
    StandsAt h c o last out → last_of o ≤ last
last_low h c o last None k = let e : last_of o ≡ last = k in omega (arith, e)
last_low h c o last (Some r) k =
    let z : IsAwaiting h c o last r = k in
    let same : r.sequence ≡ last = z.sequence in
    elim z.served [
      | inl e ↦ omega (arith, e, same)
      | inr v ↦
          let at_ : last_of o ≡ v.slot.last = ap last_of v.kept in
          let is : v.slot.last ≡ r.sequence = v.last in
          omega (arith, at_, is, same)
    ]

-- A request with the client's next number isn't the one that the server answered last.
pub new_unserved : (h : List Line) (c : ℕ) (o : Option Slot) (next : ℕ) (out : Option Request) (slot : Slot) (q : Request) →
    StandsAt h c o (last_before next) out → o ≡ Some slot → q.sequence ≡ slot.last → 1 ≤ q.sequence → q.sequence ≡ next → ⊥
new_unserved h c o next out slot q k is same first now =
    let low : last_of o ≤ last_before next = last_low h c o (last_before next) out k in
    let at_ : last_of o ≡ slot.last = ap last_of is in
    let less : last_before next + 1 ≡ next = last_one_less next (omega (arith, first, now)) in
    omega (arith, low, at_, same, now, less)
