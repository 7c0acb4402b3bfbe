-- A call that was taken up for a reply or a timeout, and its client.
use Rattle.std.specs.Prelude.{ℕ, false, List, [], ◌∷◌, Option, Some, None, refl, ◌≡◌}
use Rattle.client_rules.specs.declared.client.Client.{Client}
use Rattle.client_rules.specs.declared.calls.Call.{Call}
use Rattle.client_rules.specs.declared.calls.Awaited.{Awaited}
use Rattle.client_rules.specs.declared.grants.Held.{Held}
use Rattle.client_rules.specs.Messages.{still}
use Rattle.client_rules.specs.Steps.{timeout_under, timeout_call, times_out}
use Rattle.stripe_client.specs.Driving.{waits_under, waits_call}

under_unwaited : (c : Client) (call : Call) (k : ℕ) (h : Option Held) (xs : List Awaited) → waits_under h xs ≡ false →
    timeout_under c call k h xs ≡ still c
under_unwaited c call k None xs e = refl
under_unwaited c call k (Some h) [] e = refl
under_unwaited c call k (Some h) (a ∷ xs) e = absurd (cc e)

call_unwaited : (c : Client) (k : ℕ) (o : Option Call) → waits_call c k o ≡ false → timeout_call c k o ≡ still c
call_unwaited c k None e = refl
call_unwaited c k (Some call) e = under_unwaited c call k _ _ e

pub unwaited : (c : Client) (k : ℕ) → waits_call c k c.call ≡ false → times_out c k ≡ still c
unfolding times_out
unwaited c k e = call_unwaited c k c.call e
