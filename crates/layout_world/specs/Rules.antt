-- The rule of an event, and what is due of a call, as the code has them.
use Rattle.std.specs.Prelude.{◌≤◌, ℕ, Option, Some, None, ⊤}
use Rattle.world_history.specs.Moves.{Action, TimesOut as TimesOutAt, Pends as PendsAt}
use Rattle.world_history.specs.Plans.{Rule as WorldRule, Alone as JustThis, Prompt as Promptly}
use Rattle.layout_world.specs.declared.rules.Rule.{Rule}
use Rattle.layout_world.specs.declared.rules.Rule.TheVariants.{Alone, Prompt}
use Rattle.layout_world.specs.declared.rules.Quiet.{Quiet}
use Rattle.layout_world.specs.declared.rules.Quiet.TheVariants.{Over, TimesOut, Pends}

-- the rule of the world
abbrev pub rule_in : Rule → WorldRule
rule_in Alone = JustThis
rule_in (Prompt first client) = Promptly first client

-- the first message that is delivered by it isn't beyond those that were sent
abbrev pub IsWithin : Rule → (sent : ℕ) → Type 0
IsWithin Alone sent = ⊤
IsWithin (Prompt first client) sent = first ≤ sent

-- what is due where no message is pending
abbrev pub action_of : Quiet → Option Action
action_of Over = None
action_of (TimesOut c component) = Some (TimesOutAt c component)
action_of (Pends c) = Some (PendsAt c)
