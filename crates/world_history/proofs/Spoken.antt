-- Lines that rows read. Nothing that is read needs them to be lawful, so check values are zeros and some messages
-- empty.
use Rattle.std.specs.Prelude.{ℕ, true, List, [], ◌∷◌, ◌+◌, ◌++◌, length, replicate}
use Rattle.osd_capability.specs.declared.layout.Capability.{Capability}
use Rattle.osd_commands.specs.declared.actions.Action.{Action}
use Rattle.osd_commands.specs.declared.actions.Action.TheVariants.{Create, Write as ToWrite}
use Rattle.osd_commands.specs.Commands as commands
use Rattle.osd_commands.specs.Replies as replies
use Rattle.layout_ops.specs.declared.args.Args.TheVariants as args
use Rattle.layout_ops.specs.declared.envelope.Envelope.TheVariants as envelope
use Rattle.layout_ops.specs.Spelling.{envelope_item}
use Rattle.client_rules.specs.Requests.{get_of}
use Rattle.scenario_text.specs.declared.event.Event.TheVariants as event
use Rattle.scenario_text.specs.declared.event.Call.TheVariants as call
use Rattle.scenario_text.specs.declared.line.Delivery.TheVariants as delivery
use Rattle.scenario_text.specs.declared.line.Line.{Line}
use Rattle.scenario_text.specs.declared.line.Line.TheVariants as line
use Rattle.scenario_text.specs.declared.line.Note.TheVariants as note
use Rattle.scenario_text.specs.declared.line.Party.TheVariants as party
use Rattle.scenario_text.specs.declared.line.Verdict.TheVariants as verdict
use Rattle.world_history.proofs.Played.{taken, drive, file}

-- ---- bytes

abbrev pub capability : (grant holder drive object : ℕ) → Capability
capability grant holder d object = record {
  format = 1;
  key_version = 1;
  rights = 6;
  expiry = 90;
  grant = grant;
  holder = holder;
  tag = 1;
  partition = 65536 + d;
  object = object;
  range_start = 0;
  range_len = 4;
}

abbrev pub command : Action → (grant holder drive object nonce : ℕ) → (bytes : List ℕ) → List ℕ
command action grant holder d object nonce bytes = commands.spelling (record {
  action = action;
  partition = 65536 + d;
  object = object;
  offset = 0;
  length = length bytes;
  nonce = nonce;
  attribute = 0;
  capability = capability grant holder d object;
  payload = bytes;
  check = replicate 32 0;
})

abbrev pub creates : (drive object nonce : ℕ) → List ℕ
creates d object nonce = commands.spelling (record {
  action = Create;
  partition = 65536 + d;
  object = object;
  offset = 0;
  length = 0;
  nonce = nonce;
  attribute = 0;
  capability = capability 0 0 d object;
  payload = [];
  check = replicate 32 0;
})

abbrev pub made : (object nonce : ℕ) → List ℕ
made object nonce = replies.spelling (record {
  action = 1;
  verdict = 0;
  object = object;
  nonce = nonce;
  detail =
      0;
  payload = [];
})

abbrev pub asks : List ℕ
asks = envelope_item (envelope.Request (record {
  client = 0;
  sequence = 1;
  file = 0;
  args = args.LayoutGet (get_of true (record { offset = 0; length = 4 }));
}))

abbrev pub performs : (number : ℕ) → Line
performs number = line.Delivered number (delivery.Judged verdict.Perform)

-- ---- lines

abbrev pub write : List ℕ
write = 65 ∷ 66 ∷ 67 ∷ 68 ∷ []

-- a file of data and parity is made, and a write of c0 has written its data
abbrev pub first : List Line
first =
    line.Event (drive 0) ∷
    line.Event (drive 1) ∷
    line.Event (event.Client 0) ∷
    line.Event (file 0 2 2) ∷
    line.Message 0 party.Server (party.Drive 0) (creates 0 65536 1) ∷
    line.Message 1 party.Server (party.Drive 1) (creates 1 65537 2) ∷
    performs 0 ∷
    line.Message 2 (party.Drive 0) party.Server (made 65536 1) ∷
    performs 1 ∷
    line.Message 3 (party.Drive 1) party.Server (made 65537 2) ∷
    taken 2 ∷
    taken 3 ∷
    line.Note 0 note.Ready ∷
    line.Event (event.Call 0 (call.Write 0 0 write)) ∷
    line.Message 4 (party.Client 0) party.Server asks ∷
    line.Event (event.Deliver 4) ∷
    taken 4 ∷
    line.Message 5 party.Server (party.Client 0) [] ∷
    line.Event (event.Deliver 5) ∷
    taken 5 ∷
    line.Message 6 (party.Client 0) (party.Drive 0) (command ToWrite 1 0 0 65536 4294967297 write) ∷
    line.Message 7 (party.Client 0) (party.Drive 1) (command ToWrite 1 0 1 65537 4294967298 write) ∷
    line.Event (event.Deliver 6) ∷
    performs 6 ∷
    line.Message 8 (party.Drive 0) (party.Client 0) [] ∷
    []

-- then its client stops, and the drive of the parity fails
abbrev pub stops : List Line
stops = first ++ (line.Event (event.Stop 0) ∷ [])

abbrev pub fails : List Line
fails = stops ++ (line.Event (event.Fail 1) ∷ [])
