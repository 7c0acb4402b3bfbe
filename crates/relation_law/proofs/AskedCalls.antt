-- What a client's request asks, and what its call waits for.
-- Towards `CallsGoOn` (`relation_law/specs/Steps.antt`).
use Rattle.std.proofs.Common.{◌≡◌, ◌==◌, ℕ, true, List, Option, Some, None, refl, sym, ap, subst, ◌∙◌}
use Rattle.std.proofs.lemmas.Bool.{and_parts}
use Rattle.layout_ops.specs.declared.args.Args.{Args}
use Rattle.layout_ops.specs.declared.args.Args.TheVariants as args
use Rattle.layout_types.specs.declared.ioerrs.IoErr.{IoErr}
use Rattle.server_rules.specs.Envelopes.{asked_in}
use Rattle.client_rules.specs.Calls.{file_of}
use Rattle.world_history.specs.ServerNames.{Get as Gets, Commit as Commits, Return as Returns}
use Rattle.world_history.specs.ClientNames.{Client, Call, CallOp, Need, First, Get, Commit, Report, Close, Phase, Starts, Needs, Waits, Reads, Probes, Gathers, Scatters, TimedOut}
use Rattle.file_simulation.specs.Calls.{reports_on, waits_report}
use Rattle.relation_law.specs.RequestsClients.{IsGetting, IsCommitting, IsReturnOf}
use Rattle.relation_law.specs.Requests.{IsReturning}
use Rattle.relation_law.proofs.CallsCarried.{IsEven, IsEvenCall}
use Rattle.relation_law.proofs.RequestsServed.{commit_read, return_read}

-- ---- what is asked

-- a LAYOUTGET is no commit and no return
pub get_no_commit : (a : Args) (iomode offset count : ℕ) → asked_in a ≡ Some (Gets iomode offset count) → IsCommitting a → ⊥
get_no_commit (args.LayoutGet z) iomode offset count e i = i
get_no_commit (args.LayoutReturn z) iomode offset count e i = i
get_no_commit (args.LayoutCommit z) iomode offset count e i =
    cc (sym (commit_read z.last_write_offset _ (Gets iomode offset count) e))

pub get_no_return : (a : Args) (iomode offset count : ℕ) → asked_in a ≡ Some (Gets iomode offset count) → IsReturning a → ⊥
get_no_return (args.LayoutGet z) iomode offset count e i = i
get_no_return (args.LayoutCommit z) iomode offset count e i = i
get_no_return (args.LayoutReturn z) iomode offset count e i =
    let r = return_read _ (Gets iomode offset count) e in cc (sym r.1)

pub commit_no_get : (a : Args) (last : Option ℕ) → asked_in a ≡ Some (Commits last) → IsGetting a → ⊥
commit_no_get (args.LayoutGet z) last e i = cc e
commit_no_get (args.LayoutCommit z) last e i = i
commit_no_get (args.LayoutReturn z) last e i = i

pub commit_no_return : (a : Args) (last : Option ℕ) → asked_in a ≡ Some (Commits last) → IsReturning a → ⊥
commit_no_return (args.LayoutGet z) last e i = i
commit_no_return (args.LayoutCommit z) last e i = i
commit_no_return (args.LayoutReturn z) last e i = let r = return_read _ (Commits last) e in cc (sym r.1)

pub return_no_commit : (a : Args) (report : List IoErr) → asked_in a ≡ Some (Returns report) → IsCommitting a → ⊥
return_no_commit (args.LayoutGet z) report e i = i
return_no_commit (args.LayoutReturn z) report e i = i
return_no_commit (args.LayoutCommit z) report e i = cc (sym (commit_read z.last_write_offset _ (Returns report) e))

pub is_returning : (es : List IoErr) (a : Args) → IsReturnOf es a → IsReturning a
is_returning es a r = subst IsReturning (sym r.1) tt

pub returns_by : (a : Args) (report : List IoErr) → asked_in a ≡ Some (Returns report) → IsReturning a
returns_by (args.LayoutGet z) report e = absurd (cc e)
returns_by (args.LayoutCommit z) report e = absurd (cc (sym (commit_read z.last_write_offset _ (Returns report) e)))
returns_by (args.LayoutReturn z) report e = tt

-- ---- calls

-- the call on the file waits for an answer to a commit, or to a report
abbrev pub WaitsFor : (file : ℕ) → Client → Need → Type 0
WaitsFor file x n = (op : CallOp) × (x.call ≡ Some (record { op = op; phase = Waits n })) × ((file_of op == file) ≡ true)

pub even_by : (file : ℕ) (x : Client) → ((timed : List TimedOut) → WaitsFor file x (Commit timed) → ⊥) →
    ((timed : List TimedOut) → WaitsFor file x (Report timed) → ⊥) → IsEvenCall file x.call
even_by file x commit report call is here = by_phase call.phase refl
  where
    at : (p : Phase) → call.phase ≡ p → x.call ≡ Some (record { op = call.op; phase = p })
    at p e = is ∙ ap (λ (z : Phase). Some (record { op = call.op; phase = z })) e

    by_phase : (p : Phase) → call.phase ≡ p → IsEven call.phase
    by_phase (Waits (Commit timed)) e = absurd (commit timed (call.op, at (Waits (Commit timed)) e, here))
    by_phase (Waits (Report timed)) e = absurd (report timed (call.op, at (Waits (Report timed)) e, here))
    by_phase Starts e = rw e tt
    by_phase (Needs n) e = rw e tt
    by_phase (Waits First) e = rw e tt
    by_phase (Waits (Get tries)) e = rw e tt
    by_phase (Waits (Close u es)) e = rw e tt
    by_phase (Reads io) e = rw e tt
    by_phase (Probes io) e = rw e tt
    by_phase (Gathers io) e = rw e tt
    by_phase (Scatters io queue) e = rw e tt

-- it reports what timed out
abbrev pub ReportsOn : (file : ℕ) → Client → Type 0
ReportsOn file x =
    (timed : List TimedOut) × (op : CallOp) × (x.call ≡ Some (record { op = op; phase = Waits (Report timed) }))
    × ((file_of op == file) ≡ true)

-- a call that reports does so in that phase
pub reports_so : (file : ℕ) (x : Client) → reports_on file x.call ≡ true → ReportsOn file x
reports_so file x e = by_call x.call refl e
  where
    by_phase : (op : CallOp) (p : Phase) → x.call ≡ Some (record { op = op; phase = p }) → (file_of op == file) ≡ true →
        waits_report p ≡ true → ReportsOn file x
    by_phase op (Waits (Report timed)) is here z = (timed, op, is, here)
    by_phase op p is here z = absurd (cc z)

    by_call : (o : Option Call) → x.call ≡ o → reports_on file o ≡ true → ReportsOn file x
    by_call None is z = absurd (cc z)
    by_call (Some call) is z =
        let both = and_parts (file_of call.op == file) (waits_report call.phase) z in
        by_phase call.op call.phase is both.0 both.1

pub quiet_report : (file : ℕ) (x : Client) (op : CallOp) (timed : List TimedOut) →
    x.call ≡ Some (record { op = op; phase = Waits (Report timed) }) → (file_of op == file) ≡ true → reports_on file x.call ≡ true
quiet_report file x op timed is here = rw (is, here) refl
