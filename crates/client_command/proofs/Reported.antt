-- The report of a call, by how its dealings ended.
use Rattle.std.proofs.Common.{◌≡◌, ◌++◌, ℕ, List, [], None, Some, Ok, Err, inl, inr, subst}
use Rattle.std.specs.Prelude.{IfOk, IsSome, OnErr, Result}
use Rattle.osd_lists.specs.declared.memory.Memory.{Memory}
use Rattle.scenario_text.specs.declared.line.CallKind.{CallKind}
use Rattle.scenario_text.specs.LineSpelling.{lines_text}
use Rattle.world_history.specs.Told.{kind_of}
use Rattle.client_rules.specs.declared.calls.CallOp.{CallOp}
use Rattle.client_rules.specs.declared.client.Client.{Client}
use Rattle.client_rules.specs.Steps.{new_client}
use Rattle.client_command.specs.declared.notices.Notice.{Notice}
use Rattle.client_command.specs.Exchanges.{dealing}
use Rattle.client_command.specs.declared.calls.CallStop.{CallStop}
use Rattle.client_command.specs.declared.calls.CallStop.TheVariants.{Lost}
use Rattle.client_command.specs.declared.work_ends.Report.{Report}
use Rattle.client_command.specs.Calls.{Calls, StopsCall}
use Rattle.client_command.specs.WorkEnds.{end_of}
use Rattle.client_command.specs.Lines.{call_lines, next_line}
use Rattle.client_command.specs.OnLinks.{OnLinks}
use Rattle.client_command.specs.Numbering.{CutsFinding, Finds, after}
use Rattle.client_command.specs.Reports.{CutsCall, CutsFresh, IsReport, ReportsCall}

pub untold : (r : Result Report Memory) (P : Type 0) → P → OnErr r P
untold (Ok report) P p = tt
untold (Err e) P p = p

module _ (number n sequence : ℕ) (op o : CallOp) (kind : CallKind) (first notices told : List Notice) (before now : OnLinks)
    (same_number : n ≡ number) (same_op : o ≡ op) (its_kind : kind ≡ kind_of o) (none : first ≡ []) (same : told ≡ notices) where
  pub is_ended : (next : ℕ) (r : Result Report Memory)
      → ((client : Client) ×
      Calls o (dealing (new_client n sequence) [] first before.told before.faults)
      (dealing client [] notices now.told now.faults)
      × (next ≡ client.next))
      → IfOk r (λ report. IsSome (end_of told) ×
      IsReport (lines_text (call_lines number kind told) ++ next_line next) (end_of told) report)
      → IfOk r (ReportsCall number sequence op before now)
  is_ended next (Err e) c report = tt
  is_ended next (Ok r) c report =
      let ended = rw (same, its_kind, same_op, c.2) at report in
      let done = rw (same_number, same_op, none) at c.1 in
      inr (inl (record { client = c.0; notices = notices; calls = done; ended = ended.0; told = ended.1 }))

  pub is_lost : (r : Result Report Memory)
      → ((client : Client) ×
      StopsCall o (dealing (new_client n sequence) [] first before.told before.faults) client notices now.told now.faults
      Lost)
      → IfOk r (IsReport (lines_text (call_lines number kind told)) None)
      → IfOk r (ReportsCall number sequence op before now)
  is_lost (Err e) c report = tt
  is_lost (Ok r) c report =
      let lines = rw (same, its_kind, same_op) at report in
      let lost = rw (same_number, same_op, none) at c.1 in
      inr (inr (record { client = c.0; notices = notices; loses = lost; told = lines }))

-- there was no memory to tell of it
module _ (number n sequence : ℕ) (op o : CallOp) (first notices : List Notice) (before now : OnLinks)
    (same_number : n ≡ number) (same_op : o ≡ op) (none : first ≡ []) where
  pub cuts_ended : (client : Client)
      → Calls o (dealing (new_client n sequence) [] first before.told before.faults)
      (dealing client [] notices now.told now.faults)
      → CutsCall number sequence op before now
  cuts_ended client c =
      let done = rw (same_number, same_op, none) at c in
      (client, notices, inl done)

  pub cuts_stopped : (client : Client) (stop : CallStop)
      → StopsCall o (dealing (new_client n sequence) [] first before.told before.faults) client notices now.told now.faults stop
      → CutsCall number sequence op before now
  cuts_stopped client stop c =
      let stopped = rw (same_number, same_op, none) at c in
      (client, notices, inr (stop, stopped))

-- ---- a number is found first

module _ (n number : ℕ) (op : CallOp) (before between now : OnLinks) (same : n ≡ number) where
  pub cuts_finding : CutsFinding n before now → CutsFresh number op before now
  cuts_finding c = inl (subst (λ (m : ℕ). CutsFinding m before now) same c)

  pub cuts_found : (used next : ℕ) → next ≡ after used → Finds n before between (Some used)
      → CutsCall number next op between now → CutsFresh number op before now
  cuts_found used next is finds cuts = inr (
    Some used,
    between,
    subst (λ (m : ℕ). Finds m before between (Some used)) same finds,
    subst (λ (m : ℕ). CutsCall number m op between now) is cuts,
  )
