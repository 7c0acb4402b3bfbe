-- What is sent, as bytes.
use Rattle.std.specs.Prelude.{List, map}
use Rattle.server_rules.specs.declared.server.Outgoing.{Outgoing}
use Rattle.server_rules.specs.Envelopes.{receiver, bytes_of}
use Rattle.server_requests.specs.declared.outgoing.Sent.{Sent}

abbrev pub sent_as : Outgoing → Sent
sent_as o = record { to = receiver o; bytes = bytes_of o }

abbrev pub all_sent : List Outgoing → List Sent
all_sent os = map sent_as os
