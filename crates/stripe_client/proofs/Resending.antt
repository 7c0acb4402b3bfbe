-- What is sent once more, as bytes.
use Rattle.std.specs.Prelude.{List, [], ◌++◌, Option, Some, None, map, refl, ◌≡◌}
use Rattle.client_rules.specs.declared.calls.Awaited.{Awaited}
use Rattle.client_rules.specs.declared.client.Outgoing.TheVariants.{Asks}
use Rattle.layout_ops.specs.declared.messages.Request.{Request}
use Rattle.client_rules.specs.Messages.{to_drive}
use Rattle.client_rules.specs.Steps.{outstanding_sends}
use Rattle.stripe_client.specs.States.{list_of}
use Rattle.stripe_client.specs.Sending.{sent_of, spelled}

pub resent_bytes : (o : Option Request) (xs : List Awaited) →
    spelled (outstanding_sends o ++ map to_drive xs) ≡ ([] ++ map sent_of (map Asks (list_of o)))
    ++ map sent_of (map to_drive xs)
resent_bytes None xs = refl
resent_bytes (Some r) xs = refl
