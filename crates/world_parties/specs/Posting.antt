-- What a client sends, as messages of the world.
use Rattle.std.specs.Prelude.{ℕ, Bool, false, List, [], ◌∷◌, ◌++◌, ◌||◌, ◌&&◌, ◌==◌, not, nat_le, slice_range, length, Option, Some, None, if◌then◌else◌}
use Rattle.std.specs.Int.{w16, from_be_bytes}
use Rattle.osd_lists.specs.declared.node.Node.{Node}
use Rattle.osd_lists.specs.declared.node.Node.TheVariants as node
use Rattle.osd_commands.specs.declared.actions.Action.TheVariants as action
use Rattle.osd_commands.specs.Actions.{number_of}
use Rattle.scenario_text.specs.declared.line.Party.{Party}
use Rattle.scenario_text.specs.declared.line.Party.TheVariants as party
use Rattle.stripe_client.specs.declared.sending.Sent.{Sent}
use Rattle.world_network.specs.declared.posting.Posting.{Posting}
use Rattle.world_history.specs.Names.{named_party}
use Rattle.world_parties.specs.declared.posting.TheConstants.{ACTION_AT, ACTION_END}

-- bytes have the number of a WRITE where a command has that of its action
abbrev pub has_write : List ℕ → Bool
has_write bytes = from_be_bytes w16 (slice_range bytes ACTION_AT ACTION_END) == number_of action.Write

-- a command to a drive is a WRITE
abbrev pub is_write_to : Node → List ℕ → Bool
is_write_to (node.Drive d) bytes = nat_le ACTION_END (length bytes) && has_write bytes
is_write_to to bytes = false

-- a message is a WRITE
abbrev pub is_write : Sent → Bool
is_write s = is_write_to s.to s.bytes

-- the bytes that the log keeps with a message: a write begins with its first WRITE
abbrev pub logged_with : (writes wrote : Bool) → (logged : ℕ) → ℕ
logged_with writes wrote logged = if writes && not wrote then logged else 0

-- a message to a party that no line can name isn't sent
abbrev pub posting_to : (client logged : ℕ) → List ℕ → Option Party → List Posting
posting_to c logged bytes None = []
posting_to c logged bytes (Some p) = record { from = party.Client c; to = p; bytes = bytes; logged = logged } ∷ []

abbrev pub posting : (client logged : ℕ) → Sent → List Posting
posting c logged s = posting_to c logged s.bytes (named_party s.to)

-- what stands where a message was taken out
abbrev pub no_message : Sent
no_message = record { to = node.Server; bytes = [] }

-- several in order
abbrev pub postings : (client : ℕ) → (wrote : Bool) → (logged : ℕ) → List Sent → List Posting
postings c wrote logged [] = []
postings c wrote logged (s ∷ ss) =
    posting c (logged_with (is_write s) wrote logged) s ++ postings c (wrote || is_write s) logged ss
