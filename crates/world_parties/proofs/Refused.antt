-- A call is refused exactly where there is a reason.
use Rattle.std.proofs.Common.{◌≡◌, Bool, true, false, refl}
use Rattle.std.specs.Prelude.{Some, None, Ok, Err, is_some, is_err, if◌then◌else◌}
use Rattle.client_rules.specs.Calls.{span_of}
use Rattle.client_rules.specs.Messages.{Step}
use Rattle.client_rules.specs.Steps.{is_bad_range, is_spent, starts, calls}
use Rattle.stripe_client.specs.Calling.{refusal}
use Rattle.world_history.specs.ClientNames.{Client, CallOp, Busy, BadRange, SlotSpent}

first_reason : (a b d : Bool) (s : Step)
    → is_some (if a then Some Busy else if b then Some BadRange else if d then Some SlotSpent else None)
    ≡ is_err (if a then Err Busy else if b then Err BadRange else if d then Err SlotSpent else Ok s)
first_reason true b d s = refl
first_reason false true d s = refl
first_reason false false true s = refl
first_reason false false false s = refl

pub refused_alike : (c : Client) (op : CallOp) → is_some (refusal c op) ≡ is_err (calls c op)
unfolding calls
refused_alike c op = first_reason (is_some c.call) (is_bad_range (span_of op)) (is_spent c.next) (starts c op)
