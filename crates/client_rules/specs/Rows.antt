-- Worked rows: what comes to a client and what it then does, written out.
use Rattle.std.specs.Prelude.{ℕ, Bool, true, false, List, [], ◌∷◌, ◌++◌, Option, Some, None, Result, Ok, Err, ◌+◌, ◌*◌, length, map, replicate, slice_get, unwrap_or, if◌then◌else◌}
use Rattle.std.specs.Int.{w32, w64, to_be_bytes}
use Rattle.osd_lists.specs.declared.node.Node.TheVariants.{Server as FromServer, Drive as FromDrive}
use Rattle.osd_capability.specs.declared.keys.CapKey.TheVariants.{One}
use Rattle.osd_capability.specs.Layout as capabilities
use Rattle.osd_commands.specs.declared.actions.Action.{Action}
use Rattle.osd_commands.specs.declared.actions.Action.TheVariants.{Read as ToRead, Write as ToWrite}
use Rattle.osd_commands.specs.Actions.{number_of}
use Rattle.layout_types.specs.declared.objid.ObjId.{ObjId}
use Rattle.layout_types.specs.declared.cred.ObjectCred.{ObjectCred}
use Rattle.layout_types.specs.declared.cred.OsdVersion.TheVariants as version
use Rattle.layout_types.specs.declared.cred.KeySecurity.TheVariants as security
use Rattle.layout_types.specs.declared.ioerrs.Errno.{Errno}
use Rattle.layout_types.specs.declared.layout.Layout.{Layout}
use Rattle.layout_types.specs.Spelling.{layout_item}
use Rattle.layout_ops.specs.declared.args.Args.{Args}
use Rattle.layout_ops.specs.declared.args.Args.TheVariants as args
use Rattle.layout_ops.specs.declared.results.LayoutGetResult.TheVariants as get
use Rattle.layout_ops.specs.declared.results.LayoutCommitResult.TheVariants as commit
use Rattle.layout_ops.specs.declared.results.LayoutReturnResult.TheVariants as return
use Rattle.layout_ops.specs.declared.results.Results.{Results}
use Rattle.layout_ops.specs.declared.results.Results.TheVariants as results
use Rattle.client_rules.specs.State.{Client, CallErr, Outcome, Awaits, Outgoing, AnswersRecall, Asks, ToDrive, Command, Capability, IoErr, RawMap, Span}
use Rattle.client_rules.specs.Requests.{stateid_of, get_of, commit_of, return_args}
use Rattle.client_rules.specs.Commands.{sealed}
use Rattle.client_rules.specs.Messages.{Step, Answers, Recalls, Replies}
use Rattle.client_rules.specs.Steps.{calls, awaits}
use Rattle.client_rules.specs.History.{Input, Calls, Hears, step}

-- an input, and what the client then does
pub record Event : Type 0 where
  pub input : Input
  pub refused : Option CallErr
  pub outcome : Option Outcome
  pub awaits : Awaits
  pub sends : List Outgoing

-- why a call isn't taken
abbrev pub refusal_in : Result Step CallErr → Option CallErr
refusal_in (Ok s) = None
refusal_in (Err e) = Some e

-- only calls are refused
abbrev pub refusal : Client → Input → Option CallErr
refusal c (Calls op) = refusal_in (calls c op)
refusal c i = None

-- what the client does at an input
abbrev pub event : Client → Input → Event
event c i =
    let s : Step = step c i
    in record { input = i; refused = refusal c i; outcome = s.outcome; awaits = awaits s.client; sends = s.sends }

-- the same inputs, with what the client does
unfoldable pub done : Client → List Event → List Event
done c [] = []
done c (e ∷ es) = event c e.input ∷ done (step c e.input).client es

-- what it then awaits and sends
abbrev pub on : Input → Awaits → List Outgoing → Event
on i a sends = record { input = i; refused = None; outcome = None; awaits = a; sends = sends }

-- the same where its call ends
abbrev pub ends : Input → Outcome → Awaits → List Outgoing → Event
ends i o a sends = record (on i a sends) { outcome = Some o }

-- a call that isn't taken
abbrev pub refuses : Input → CallErr → Awaits → Event
refuses i e a = record (on i a []) { refused = Some e }

-- ---- layouts

-- a component in a layout: a range of its object that may be used, or nothing
pub data Part : Type 0 where
  Usable : (drive object start len : ℕ) → Part
  Missing : (drive object : ℕ) → Part

-- a grant with its layout, of these bytes of the file
pub record Given : Type 0 where
  pub number : ℕ
  pub writes : Bool
  pub offset : ℕ
  pub len : ℕ
  pub map : RawMap
  pub components : List Part

-- the key of a drive's capabilities here
abbrev pub key_of : (drive : ℕ) → List ℕ
key_of drive = replicate 20 (drive + 1)

-- the object of a component, on its drive
abbrev pub object_at : (drive object : ℕ) → ObjId
object_at drive object = record {
  oid_device_id = replicate 8 0 ++ to_be_bytes w64 drive;
  oid_partition_id = 65536 + drive;
  oid_object_id = object;
}

-- the capability of a component of client 0
abbrev pub usable : Given → (drive object start len : ℕ) → Capability
usable g drive object start len = record {
  format = 1;
  key_version = 1;
  rights = if g.writes then 6 else 2;
  expiry = 90;
  grant = g.number;
  holder = 0;
  tag = 1;
  partition = 65536 + drive;
  object = object;
  range_start = start;
  range_len = len;
}

-- a component with its credential
abbrev pub credential : Given → Part → ObjectCred
credential g (Usable drive object start len) = record {
  oc_object_id = object_at drive object;
  oc_osd_version = version.Version2;
  oc_cap_key_sec = security.None;
  oc_capability_key = key_of drive;
  oc_capability = capabilities.spelling (usable g drive object start len);
}
credential g (Missing drive object) = record {
  oc_object_id = object_at drive object;
  oc_osd_version = version.Missing;
  oc_cap_key_sec = security.None;
  oc_capability_key = [];
  oc_capability = [];
}

-- the layout of a grant
abbrev pub layout_of : Given → Layout
layout_of g = record { olo_map = g.map; olo_comps_index = 0; olo_components = map (credential g) g.components }

-- ---- what comes from the server

-- an answer to client 0
abbrev pub answers : (sequence file detail size : ℕ) → Results → Input
answers sequence file detail size r =
    Hears FromServer
    (Answers (record { client = 0; sequence = sequence; file = file; detail = detail; size = size; results = r }))

-- layouts with these bodies under a grant
abbrev pub gives_bodies : Given → List (List ℕ) → Results
gives_bodies g bodies = results.LayoutGet (get.Granted (record {
  return_on_close = false;
  stateid = stateid_of g.number;
  layouts =
      map (λ (body : List ℕ). record {
        offset = g.offset;
        length = g.len;
        iomode = if g.writes then 2 else 1;
        body = body;
      }) bodies;
}))

-- one layout
abbrev pub gives : Given → Layout → Results
gives g l = gives_bodies g (layout_item l ∷ [])

-- the layout of a grant
abbrev pub gives_layout : Given → Results
gives_layout g = gives g (layout_of g)

abbrev pub no_layout : (status : ℕ) → Results
no_layout status = results.LayoutGet (get.Refused status)

abbrev pub try_later : Results
try_later = results.LayoutGet (get.TryLater false)

abbrev pub committed : Results
committed = results.LayoutCommit (commit.Committed None)

abbrev pub not_committed : (status : ℕ) → Results
not_committed status = results.LayoutCommit (commit.Refused status)

abbrev pub returned : Results
returned = results.LayoutReturn (return.Returned None)

-- a recall of client 0's grant
abbrev pub recalls : (number file grant : ℕ) → Input
recalls number file grant = Hears FromServer (Recalls (record {
  client = 0;
  number = number;
  file = file;
  args = record {
    iomode = 3;
    changed = false;
    file = to_be_bytes w32 file;
    offset = 0;
    length = 18446744073709551615;
    stateid = stateid_of grant;
  };
}))

-- ---- what comes from drives

-- the reply to the command of this count under a grant
abbrev pub replies : Given → (drive count : ℕ) → Action → (verdict detail : ℕ) → (payload : List ℕ) → Input
replies g drive count action verdict detail payload =
    Hears (FromDrive drive)
    (Replies (record {
      action = number_of action;
      verdict = verdict;
      object = 0;
      nonce = g.number * 4294967296 + count;
      detail = detail;
      payload = payload;
    }))

-- a READ that was performed
abbrev pub has_read : Given → (drive count : ℕ) → (bytes : List ℕ) → Input
has_read g drive count bytes = replies g drive count ToRead 0 (length bytes) bytes

-- a WRITE that was performed
abbrev pub has_written : Given → (drive count : ℕ) → Input
has_written g drive count = replies g drive count ToWrite 0 0 []

-- ---- what goes to the server

-- a request of client 0
abbrev pub asks : (sequence file : ℕ) → Args → Outgoing
asks sequence file a = Asks (record { client = 0; sequence = sequence; file = file; args = a })

-- a range
abbrev pub span : (offset len : ℕ) → Span
span offset len = record { offset = offset; length = len }

abbrev pub asks_to_read : (sequence file offset len : ℕ) → Outgoing
asks_to_read sequence file offset len = asks sequence file (args.LayoutGet (get_of false (span offset len)))

abbrev pub asks_to_write : (sequence file offset len : ℕ) → Outgoing
asks_to_write sequence file offset len = asks sequence file (args.LayoutGet (get_of true (span offset len)))

-- the bytes from an offset on were written
abbrev pub commits : (sequence file grant offset len : ℕ) → Outgoing
commits sequence file grant offset len = asks sequence file (args.LayoutCommit (commit_of grant (span offset len)))

-- a return with these errors
abbrev pub gives_back : (sequence file grant : ℕ) → (errors : List IoErr) → Outgoing
gives_back sequence file grant errors = asks sequence file (return_args grant errors)

-- an error at a range of an object
abbrev pub error : (drive object offset len : ℕ) → (write : Bool) → Errno → IoErr
error drive object offset len write errno = record {
  oer_component = object_at drive object;
  oer_comp_offset = offset;
  oer_comp_length = len;
  oer_iswrite = write;
  oer_errno = errno;
}

abbrev pub answers_recall : (number file status : ℕ) → Outgoing
answers_recall number file status = AnswersRecall (record { client = 0; number = number; file = file; status = status })

-- ---- what goes to drives

-- the command of this count under a grant
abbrev pub bare : Given → (count : ℕ) → Action → Capability → (offset len : ℕ) → (payload : List ℕ) → Command
bare g count action c offset len payload = record {
  action = action;
  partition = c.partition;
  object = c.object;
  offset = offset;
  length = len;
  nonce = g.number * 4294967296 + count;
  attribute = 0;
  capability = c;
  payload = payload;
  check = replicate 32 0;
}

-- to component k as the layout lists it
abbrev pub to_part : Given → Part → (count : ℕ) → Action → (offset len : ℕ) → (payload : List ℕ) → Outgoing
to_part g (Usable drive object start n) count action offset len payload =
    ToDrive drive (sealed (One (key_of drive)) (bare g count action (usable g drive object start n) offset len payload))
to_part g (Missing drive object) count action offset len payload =
    ToDrive drive (bare g count action (usable g drive object 0 0) offset len payload)

-- to component k
abbrev pub to_component : Given → (k count : ℕ) → Action → (offset len : ℕ) → (payload : List ℕ) → Outgoing
to_component g k count action offset len payload =
    to_part g (unwrap_or (slice_get g.components k) (Missing 0 0)) count action offset len payload

abbrev pub reads : Given → (k count offset len : ℕ) → Outgoing
reads g k count offset len = to_component g k count ToRead offset len []

abbrev pub writes : Given → (k count offset : ℕ) → (bytes : List ℕ) → Outgoing
writes g k count offset bytes = to_component g k count ToWrite offset (length bytes) bytes
