-- What the server sends, as messages of a world.
use Rattle.std.specs.Prelude.{ℕ, List, [], ◌∷◌, ◌++◌, Option, Some, None}
use Rattle.osd_lists.specs.declared.node.Node.TheVariants as node
use Rattle.scenario_text.specs.declared.line.Party.{Party}
use Rattle.scenario_text.specs.declared.line.Party.TheVariants as party
use Rattle.server_requests.specs.declared.outgoing.Sent.{Sent}
use Rattle.world_network.specs.declared.posting.Posting.{Posting}
use Rattle.world_history.specs.Names.{named_party}

-- a message to a party that no line can name isn't sent
abbrev pub posting_to : List ℕ → Option Party → List Posting
posting_to bytes None = []
posting_to bytes (Some p) = record { from = party.Server; to = p; bytes = bytes; logged = 0 } ∷ []

abbrev pub posting : Sent → List Posting
posting s = posting_to s.bytes (named_party s.to)

-- what stands where a message was taken out
abbrev pub no_message : Sent
no_message = record { to = node.Server; bytes = [] }

-- several in order
abbrev pub postings : List Sent → List Posting
postings [] = []
postings (s ∷ ss) = posting s ++ postings ss
