use Rattle.std.proofs.Common.{◌≡◌, ◌++◌, drop}
use Rattle.std.specs.Prelude.{map}
use Rattle.client_rules.specs.Messages.{to_drive}
use Rattle.stripe_client.specs.Sending.{sent_of}
use Rattle.stripe_client.proofs.sending.push_commands.Given as goal

abbrev pub invariant-loop-awaited : goal.invariant-loop-awaited
invariant-loop-awaited l =
    l.sends ++ map sent_of (map to_drive (drop l.awaited-index l.fn.commands)) ≡ l.fn.sends ++ map sent_of
    (map to_drive l.fn.commands)
