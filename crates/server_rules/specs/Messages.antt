-- The step of a message, and what is sent once more.
use Rattle.std.specs.Prelude.{ℕ, Bool, List, [], ◌∷◌, Option, Some, None, ◌==◌, ◌&&◌, nat_lt, nat_le, flat_map, if◌then◌else◌}
use Rattle.osd_lists.specs.declared.node.Node.{Node}
use Rattle.osd_lists.specs.declared.node.Node.TheVariants.{Server as FromServer, Drive as FromDrive, Client as FromClient}
use Rattle.server_rules.specs.declared.limits.TheConstants.{MAX_CLIENT, COUNTERS_END}
use Rattle.server_rules.specs.State.{Server, File, Awaited, Job, ClientRequest, Reply, Order, Outgoing}
use Rattle.server_rules.specs.Going.{Going}
use Rattle.server_rules.specs.Replies.{on_reply}
use Rattle.server_rules.specs.Files.{Step, still, at_file, to_drives, step_at}
use Rattle.server_rules.specs.Requests.{on_request}
use Rattle.server_rules.specs.Orders.{ordered, with_result}

-- the counters of 64 bits have room: each is below COUNTERS_END
unfoldable pub counters_have_room : Server → Bool
counters_have_room s =
    nat_lt s.next_nonce COUNTERS_END && (nat_lt s.next_object COUNTERS_END && nat_lt s.next_recall COUNTERS_END)

-- ---- a drive's reply

-- the first of two that there is, of files that may have heard a reply
abbrev pub or_else : Option Going → Option Going → Option Going
or_else None later = later
or_else (Some g) later = Some g

-- the first file, in order, whose job awaits the reply
unfoldable pub heard_at : Server → (chosen : List ℕ) → (drive : ℕ) → Reply → List File → Option Going
heard_at s chosen drive r [] = None
heard_at s chosen drive r (f ∷ fs) = or_else (on_reply (at_file s chosen f) drive r) (heard_at s chosen drive r fs)

-- the step of the file that heard the reply
abbrev pub by_heard : Server → Option Going → Step
by_heard s None = still s
by_heard s (Some g) = step_at s g.file.kept.number g

-- the step of a drive's reply
unfoldable pub on_drive_reply : Server → (chosen : List ℕ) → (drive : ℕ) → Reply → Step
on_drive_reply s chosen drive r = by_heard s (heard_at s chosen drive r s.files)

-- ---- a message

-- what the server takes; all else that comes to it is nothing
pub data Message : Type 0 where
  Asks : ClientRequest → Message
  Replies : Reply → Message
  Orders : Order → Message

-- the step of a message, by who sent it
abbrev pub handled : Server → (now : ℕ) → (chosen : List ℕ) → Node → Message → Step
handled s now chosen (FromClient c) (Asks q) =
    if (q.client == c) && nat_le c MAX_CLIENT then on_request s now chosen q else still s
handled s now chosen (FromDrive d) (Replies r) = on_drive_reply s chosen d r
handled s now chosen FromServer (Orders o) = with_result o.order (ordered s chosen o.order o.target)
handled s now chosen from message = still s

-- the step of a message; none is taken while a counter has no room
unfoldable pub on_message : Server → (now : ℕ) → (chosen : List ℕ) → Node → Message → Step
on_message s now chosen from message = if counters_have_room s then handled s now chosen from message else still s

-- ---- what is awaited, once more

-- the commands that a job waits for
abbrev pub awaited_by : Option Job → List Awaited
awaited_by None = []
awaited_by (Some j) = j.awaited

-- every command that a job waits for
abbrev pub resend : Server → List Outgoing
resend s = flat_map (λ f. to_drives s.drives (awaited_by f.job)) s.files
