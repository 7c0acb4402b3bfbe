-- What a client sends, as bytes.
use Rattle.std.specs.Prelude.{List, ◌≡◌, map}
use Rattle.client_rules.specs.declared.client.Client.{Client}
use Rattle.client_rules.specs.declared.client.Outgoing.{Outgoing}
use Rattle.client_rules.specs.Messages.{Step}
use Rattle.client_rules.specs.Envelopes.{receiver, bytes_of}
use Rattle.stripe_client.specs.declared.sending.Sent.{Sent}
use Rattle.stripe_client.specs.declared.sending.CStep.{CStep}

-- a message, spelled
abbrev pub sent_of : Outgoing → Sent
sent_of o = record { to = receiver o; bytes = bytes_of o }

-- messages in order
abbrev pub spelled : List Outgoing → List Sent
spelled os = map sent_of os

-- this client and what was told are those of the rules' step
pub record IsStep (s : Step) (c : Client) (told : CStep) : Type 0 where
  pub client : c ≡ s.client
  pub sends : told.sends ≡ spelled s.sends
  pub outcome : told.outcome ≡ s.outcome
