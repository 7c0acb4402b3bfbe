-- The map and the components of a layout.
use Rattle.std.specs.Prelude.{ℕ, Bool, List, Option, Some, None, Result, Ok, Err, is_some}
use Rattle.layout_types.specs.declared.layout.Layout.{Layout}
use Rattle.layout_ops.specs.declared.messages.Answer.{Answer}
use Rattle.data_map.specs.declared.check.RawMap.{RawMap}
use Rattle.stripe_plan.specs.declared.plan.Span.{Span}
use Rattle.stripe_plan.specs.Touched.{stripes}
use Rattle.stripe_plan.specs.Lost.{unwritable}
use Rattle.client_rules.specs.declared.calls.CallOp.{CallOp}
use Rattle.client_rules.specs.declared.grants.Held.{Held}
use Rattle.client_rules.specs.declared.grants.Reach.{Reach}
use Rattle.client_rules.specs.declared.outcomes.Why.{Why}
use Rattle.client_rules.specs.Layouts.{all_listed, with_listed}

-- unless something stands against the layout
abbrev pub map_unless : RawMap → Option Why → Result RawMap Why
map_unless m None = Ok m
map_unless m (Some w) = Err w

-- a stripe of the range lacks more positions than its parity brings back
abbrev pub is_short : RawMap → (out : List ℕ) → Span → Bool
is_short m out r = is_some (unwritable m out (stripes m r))

-- the grant by the layout's credentials
abbrev pub with_creds : Answer → (number : ℕ) → CallOp → Reach → Layout → Result Held Why
with_creds a number op g l = with_listed a number op g l (all_listed l.olo_components)
