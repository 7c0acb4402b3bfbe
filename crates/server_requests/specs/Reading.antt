-- What the server takes, as the code has it.
use Rattle.std.specs.Prelude.{Option, Some, None}
use Rattle.server_rules.specs.Messages.{Message as MessageRule, Asks, Replies, Orders}
use Rattle.server_requests.specs.declared.incoming.Message.{Message}
use Rattle.server_requests.specs.declared.incoming.Message.TheVariants as message

abbrev pub message_rule : Message → MessageRule
message_rule (message.Asks q) = Asks q
message_rule (message.Replies r) = Replies r
message_rule (message.Orders o) = Orders o

abbrev pub messages_rule : Option Message → Option MessageRule
messages_rule None = None
messages_rule (Some m) = Some (message_rule m)
