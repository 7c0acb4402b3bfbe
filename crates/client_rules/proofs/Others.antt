-- What isn't taken, awaited or accepted changes nothing.
use Rattle.std.specs.Prelude.{◌≡◌, refl, ℕ, List, [], Option, Some, None, Err}
use Rattle.osd_lists.specs.declared.node.Node.{Node}
use Rattle.client_rules.specs.State.{Client, Call, CallOp, CallErr, Held, Awaited}
use Rattle.client_rules.specs.Calls.{file_of}
use Rattle.client_rules.specs.Grants.{held_of}
use Rattle.client_rules.specs.Commands.{of_component}
use Rattle.client_rules.specs.Messages.{Message, takes, awaited_of, still, hears}
use Rattle.client_rules.specs.Steps.{timeout_under, timeout_call, times_out, calls}
use Rattle.client_rules.specs.History.{Calls, Hears, TimesOut, step}
use Rattle.client_rules.specs.Laws.{OthersChangeNothing}

untaken : (c : Client) (from : Node) (m : Message) → takes c from m ≡ None → step c (Hears from m) ≡ still c
unfolding hears
untaken c from m e = rw e refl

under_nothing : (c : Client) (call : Call) (k : ℕ) (o : Option Held) (xs : List Awaited) → xs ≡ [] →
    timeout_under c call k o xs ≡ still c
under_nothing c call k None xs e = refl
under_nothing c call k (Some h) xs e = rw e refl

call_nothing : (c : Client) (k : ℕ) (o : Option Call) → of_component k (awaited_of o) ≡ [] → timeout_call c k o ≡ still c
call_nothing c k None e = refl
call_nothing c k (Some call) e = under_nothing c call k (held_of c.held (file_of call.op)) _ e

unawaited : (c : Client) (k : ℕ) → of_component k (awaited_of c.call) ≡ [] → step c (TimesOut k) ≡ still c
unfolding times_out
unawaited c k e = call_nothing c k c.call e

refused : (c : Client) (op : CallOp) (e : CallErr) → calls c op ≡ Err e → step c (Calls op) ≡ still c
refused c op e x = rw x refl

pub others_change_nothing : OthersChangeNothing
others_change_nothing = record { untaken = untaken; unawaited = unawaited; refused = refused }
