-- A call awaits one WRITE at most from each component.
use Rattle.std.proofs.Common.{List, []}
use Rattle.std.specs.Prelude.{Option, Some, None}
use Rattle.client_rules.specs.State.{Call, CallOp, Held, Phase, Scatters, Column}
use Rattle.client_rules.specs.Steps.{new_client}
use Rattle.client_rules.specs.History.{state_after}
use Rattle.client_rules.specs.Laws.{read_by, WritesApart, CallApart, OneWriteEach}
use Rattle.client_rules.proofs.ReadSteps.{GoodAt, GoodCall, all_good}

phase_apart : (hs : List Held) (op : CallOp) (p : Phase) (got : List Column) → GoodAt hs op p got → WritesApart p
phase_apart hs op (Scatters io queue) got x = x
phase_apart hs op p got x = tt

call_apart : (hs : List Held) (o : Option Call) (got : List Column) → GoodCall hs o got → CallApart o
call_apart hs None got x = tt
call_apart hs (Some call) got x = phase_apart hs call.op call.phase got x

pub one_write_each : OneWriteEach
one_write_each = λ number sequence is.
    call_apart (state_after (new_client number sequence) is).held (state_after (new_client number sequence) is).call
    (read_by (new_client number sequence) [] is)
    (all_good (new_client number sequence) [] is (record { checked = tt; call = tt })).call
