-- Worked rows: what comes to a server and what it then does, written out.
use Rattle.std.specs.Prelude.{ℕ, Bool, true, false, List, [], ◌∷◌, None, ◌+◌, length, map, replicate, if◌then◌else◌}
use Rattle.std.specs.Int.{w32, to_be_bytes}
use Rattle.osd_lists.specs.declared.node.Node.TheVariants.{Drive as FromDrive, Client as FromClient}
use Rattle.osd_capability.specs.Keys.{key_of}
use Rattle.osd_commands.specs.declared.actions.Action.{Action}
use Rattle.osd_commands.specs.declared.actions.Action.TheVariants.{Create, Read, Write, GetAttr, SetTag}
use Rattle.osd_commands.specs.Actions.{number_of}
use Rattle.layout_types.specs.declared.cred.ObjectCred.{ObjectCred}
use Rattle.layout_types.specs.declared.ioerrs.Errno.{Errno}
use Rattle.layout_ops.specs.declared.results.LayoutGetResult.TheVariants as get
use Rattle.layout_ops.specs.declared.results.LayoutCommitResult.TheVariants as commit
use Rattle.layout_ops.specs.declared.results.LayoutReturnResult.TheVariants as return
use Rattle.layout_ops.specs.declared.results.Results.{Results}
use Rattle.layout_ops.specs.declared.results.Results.TheVariants as results
use Rattle.server_rules.specs.State.{Server, RawMap, Capability, Command, Note, NoteKind, IoErr, RequestArgs, Outgoing, ToDrive, Recalls, Answers, AnswersOrder, OrderKind, OrderResult}
use Rattle.server_rules.specs.Commands.{check_under}
use Rattle.server_rules.specs.Layouts.{device_of, credential_with, no_credential, body_of, stateid_of}
use Rattle.server_rules.specs.Files.{Step}
use Rattle.server_rules.specs.Messages.{Asks, Replies}
use Rattle.server_rules.specs.History.{Input, Hears, Event, step}

-- the inputs of a row, with what the server does at each
unfoldable pub done : Server → List Event → List Event
done s [] = []
done s (e ∷ es) =
    let t : Step = step s e.act.chosen e.act.input
    in record e { notes = t.notes; sends = t.sends } ∷ done t.state es

-- an input, and what the server notes and sends
abbrev pub on : Input → List Note → List Outgoing → Event
on i notes sends = record { act = record { input = i; chosen = [] }; notes = notes; sends = sends }

-- an event with the drives that the placer names
abbrev pub placing : List ℕ → Event → Event
placing drives e = record e { act = record e.act { chosen = drives } }

-- a note
abbrev pub note : (file : ℕ) → NoteKind → Note
note file kind = record { file = file; kind = kind }

-- ---- what comes

-- a request at a time of the server's clock
abbrev pub asks_at : (now client sequence file : ℕ) → RequestArgs → Input
asks_at now client sequence file args =
    Hears now (FromClient client) (Asks (record { client = client; sequence = sequence; file = file; args = args }))

-- a drive's reply to a command that it performed
abbrev pub performed : (drive : ℕ) → Action → (object nonce detail : ℕ) → (payload : List ℕ) → Input
performed drive action object nonce detail payload =
    Hears 0 (FromDrive drive)
    (Replies (record {
      action = number_of action;
      verdict = 0;
      object = object;
      nonce = nonce;
      detail = detail;
      payload = payload;
    }))

-- a drive's reply to another
abbrev pub replied : (drive : ℕ) → Action → (verdict object nonce detail : ℕ) → Input
replied drive action verdict object nonce detail =
    Hears 0 (FromDrive drive)
    (Replies (record {
      action = number_of action;
      verdict = verdict;
      object = object;
      nonce = nonce;
      detail = detail;
      payload = [];
    }))

-- an error at an object of a drive
abbrev pub error_at : (drive partition object : ℕ) → Errno → IoErr
error_at drive partition object errno = record {
  oer_component = record { oid_device_id = device_of drive; oid_partition_id = partition; oid_object_id = object };
  oer_comp_offset = 0;
  oer_comp_length = 0;
  oer_iswrite = true;
  oer_errno = errno;
}

-- ---- what goes to drives

-- the server's capability for an object
abbrev pub for_server : (drive object tag format : ℕ) → Capability
for_server drive object tag format = record {
  format = format;
  key_version = 1;
  rights = 63;
  expiry = 18446744073709551615;
  grant = 0;
  holder = 4294967295;
  tag = tag;
  partition = 65536 + drive;
  object = object;
  range_start = 0;
  range_len = 18446744073709551615;
}

-- a command that isn't sealed
abbrev pub bare : (drive object tag format nonce : ℕ) → Action → (offset len attribute : ℕ) → (payload : List ℕ) →
    Command
bare drive object tag format nonce action offset len attribute payload = record {
  action = action;
  partition = 65536 + drive;
  object = object;
  offset = offset;
  length = len;
  nonce = nonce;
  attribute = attribute;
  capability = for_server drive object tag format;
  payload = payload;
  check = replicate 32 0;
}

-- sealed under a key of no bytes, as all drives have it here
abbrev pub seals : (drive : ℕ) → Command → Outgoing
seals drive c = ToDrive drive (record c { check = check_under [] c })

abbrev pub creates : (drive object tag format nonce : ℕ) → (label : List ℕ) → Outgoing
creates drive object tag format nonce label = seals drive (bare drive object tag format nonce Create 0 0 0 label)

abbrev pub raises_tag : (drive object tag format nonce : ℕ) → Outgoing
raises_tag drive object tag format nonce = seals drive (bare drive object tag format nonce SetTag 0 0 0 [])

abbrev pub reads_from : (drive object tag format nonce offset len : ℕ) → Outgoing
reads_from drive object tag format nonce offset len =
    seals drive (bare drive object tag format nonce Read offset len 0 [])

abbrev pub writes_to : (drive object tag format nonce offset : ℕ) → (bytes : List ℕ) → Outgoing
writes_to drive object tag format nonce offset bytes =
    seals drive (bare drive object tag format nonce Write offset (length bytes) 0 bytes)

abbrev pub asks_length : (drive object tag format nonce : ℕ) → Outgoing
asks_length drive object tag format nonce = seals drive (bare drive object tag format nonce GetAttr 0 0 1 [])

-- ---- what goes to clients

-- an answer
abbrev pub answers : (client sequence file detail size : ℕ) → Results → Outgoing
answers client sequence file detail size r =
    Answers (record { client = client; sequence = sequence; file = file; detail = detail; size = size; results = r })

-- results without a layout
abbrev pub no_layout : (status : ℕ) → Results
no_layout status = results.LayoutGet (get.Refused status)

abbrev pub try_later : Results
try_later = results.LayoutGet (get.TryLater false)

abbrev pub committed : Results
committed = results.LayoutCommit (commit.Committed None)

abbrev pub not_committed : (status : ℕ) → Results
not_committed status = results.LayoutCommit (commit.Refused status)

abbrev pub returned : Results
returned = results.LayoutReturn (return.Returned None)

abbrev pub not_returned : (status : ℕ) → Results
not_returned status = results.LayoutReturn (return.Refused status)

-- a component in a layout: a range of its object that may be used, or nothing
pub data Listed : Type 0 where
  Usable : (drive object start len : ℕ) → Listed
  Missing : (drive object : ℕ) → Listed

-- what a grant gives
pub record Given : Type 0 where
  pub number : ℕ
  pub client : ℕ
  pub writes : Bool
  pub expiry : ℕ
  pub tag : ℕ
  pub format : ℕ
  pub offset : ℕ
  pub len : ℕ
  pub map : RawMap
  pub components : List Listed

-- the capability of a component under it
abbrev pub usable : Given → (drive object start len : ℕ) → Capability
usable g drive object start len = record {
  format = g.format;
  key_version = 1;
  rights = if g.writes then 6 else 2;
  expiry = g.expiry;
  grant = g.number;
  holder = g.client;
  tag = g.tag;
  partition = 65536 + drive;
  object = object;
  range_start = start;
  range_len = len;
}

abbrev pub listed : Given → Listed → ObjectCred
listed g (Usable drive object start len) =
    credential_with (record { drive = drive; object = object; missing = false })
    (key_of [] (usable g drive object start len)) (usable g drive object start len)
listed g (Missing drive object) = no_credential (record { drive = drive; object = object; missing = true })

-- the result with its layout
abbrev pub gives_layout : Given → Results
gives_layout g = results.LayoutGet (get.Granted (record {
  return_on_close = false;
  stateid = stateid_of g.number;
  layouts = record {
    offset = g.offset;
    length = g.len;
    iomode = if g.writes then 2 else 1;
    body = body_of (record { olo_map = g.map; olo_comps_index = 0; olo_components = map (listed g) g.components });
  } ∷ [];
}))

-- a recall
abbrev pub recalls : (client number file grant : ℕ) → Outgoing
recalls client number file grant = Recalls (record {
  client = client;
  number = number;
  file = file;
  args = record {
    iomode = 3;
    changed = false;
    file = to_be_bytes w32 file;
    offset = 0;
    length = 18446744073709551615;
    stateid = stateid_of grant;
  };
})

-- the answer to an order
abbrev pub answers_order : OrderKind → OrderResult → Outgoing
answers_order order r = AnswersOrder (record { order = order; result = r })
