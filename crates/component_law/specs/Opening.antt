-- Events behind which a further step begins.
use Rattle.std.specs.Prelude.{Bool, true, false}
use Rattle.scenario_text.specs.declared.event.Event.{Event}
use Rattle.scenario_text.specs.declared.event.Event.TheVariants as event

-- an event behind which a further step begins: a message is delivered, a component times out, bytes are injected
abbrev pub is_opening : Event → Bool
is_opening (event.Deliver number) = true
is_opening (event.Timeout c component) = true
is_opening (event.Inject d bytes) = true
is_opening e = false
