-- What a drive does with a command, and what it answers.
use Rattle.std.specs.Prelude.{ℕ, ◌+◌, List, [], length, take, drop, is_some, if◌then◌else◌, Option, Some, None, Result, Ok, Err}
use Rattle.osd_commands.specs.declared.actions.Action.{Action}
use Rattle.osd_commands.specs.declared.actions.Action.TheVariants.{Create, Read, Write, GetAttr, SetAttr, SetTag}
use Rattle.osd_commands.specs.declared.commands.Command.{Command}
use Rattle.osd_commands.specs.declared.commands.CommandErr.{CommandErr}
use Rattle.osd_commands.specs.declared.replies.Reply.{Reply}
use Rattle.osd_commands.specs.Actions.{number_of}
use Rattle.osd_commands.specs.Commands.{reading}
use Rattle.osd_objects.specs.declared.lanes.LaneEntry.{LaneEntry}
use Rattle.osd_objects.specs.declared.object.StoredObject.{StoredObject}
use Rattle.osd_objects.specs.Objects.{created, after_write, after_set_tag, after_set_attr}
use Rattle.osd_objects.specs.Store.{StoreState, object_at, lane_or_none, bytes_at, attribute_at, attribute_bytes, with_object, changed}
use Rattle.osd_drive.specs.declared.replies.TheConstants.{FORMAT_VERDICT}
use Rattle.osd_drive.specs.declared.verdict.Verdict.{Verdict}
use Rattle.osd_drive.specs.declared.verdict.Verdict.TheVariants as verdict
use Rattle.osd_drive.specs.State.{DriveState}
use Rattle.osd_drive.specs.Table.{first_fault}

-- ---- verdicts in replies

abbrev pub verdict_number : Verdict → ℕ
verdict_number verdict.Perform = 0
verdict_number verdict.NoKey = 1
verdict_number verdict.CheckValue = 2
verdict_number verdict.Expired = 3
verdict_number verdict.Rights = 4
verdict_number verdict.WrongObject = 5
verdict_number verdict.Range = 6
verdict_number verdict.NoObject = 7
verdict_number verdict.Exists = 8
verdict_number (verdict.Tag current) = 9
verdict_number verdict.Limit = 10
verdict_number (verdict.NoSpace free) = 11
verdict_number verdict.LaneFull = 12
verdict_number (verdict.Stale last) = 13
verdict_number verdict.AttrFull = 14
verdict_number verdict.Again = 15
verdict_number verdict.OldFormat = 17

abbrev pub detail_of : Verdict → ℕ
detail_of (verdict.Tag current) = current
detail_of (verdict.NoSpace free) = free
detail_of (verdict.Stale last) = last
detail_of _ = 0

-- ---- effects

-- the lane that a change leaves
abbrev pub lane_for : Command → ℕ → LaneEntry
lane_for c detail = record {
  holder = c.capability.holder;
  nonce = c.nonce;
  action = number_of c.action;
  detail = detail;
}

-- the tag after a SET TAG
abbrev pub next_tag : Option StoredObject → ℕ
next_tag None = 0
next_tag (Some o) = o.tag + 1

abbrev pub effect_of : Action → StoreState → Command → StoreState
effect_of Create s c = with_object s c.object (created c.capability.tag c.payload (lane_for c 0))
effect_of Read s c = s
effect_of Write s c = changed s c.object (after_write c.offset c.payload (lane_for c 0))
effect_of GetAttr s c = s
effect_of SetAttr s c = changed s c.object (after_set_attr c.attribute c.payload (lane_for c 0))
effect_of SetTag s c = changed s c.object (after_set_tag (lane_for c (next_tag (object_at s c.object))))

-- the state after a command that was performed
abbrev pub performed : DriveState → Command → DriveState
performed d c = record d { store = effect_of c.action d.store c }

-- ---- replies

abbrev pub reply_with : Command → ℕ → List ℕ → Reply
reply_with c detail payload = record {
  action = number_of c.action;
  verdict = 0;
  object = c.object;
  nonce = c.nonce;
  detail = detail;
  payload = payload;
}

abbrev pub result_of : Action → StoreState → Command → Reply
result_of Create s c = reply_with c 0 []
result_of Read s c = reply_with c (length (bytes_at s c.object)) (take c.length (drop c.offset (bytes_at s c.object)))
result_of Write s c = reply_with c 0 []
result_of GetAttr s c = reply_with c (if is_some (attribute_at s c.object c.attribute) then 1 else 0)
    (attribute_bytes (attribute_at s c.object c.attribute))
result_of SetAttr s c = reply_with c 0 []
result_of SetTag s c = reply_with c (next_tag (object_at s c.object)) []

-- to a command that was performed
abbrev pub performed_reply : DriveState → Command → Reply
performed_reply d c = result_of c.action d.store c

-- to one that wasn't
abbrev pub refused_reply : Command → Verdict → Reply
refused_reply c v = record {
  action = number_of c.action;
  verdict = verdict_number v;
  object = c.object;
  nonce = c.nonce;
  detail = detail_of v;
  payload = [];
}

-- the reply that a lane keeps
abbrev pub kept_reply : Command → Option LaneEntry → Reply
kept_reply c (Some l) = record {
  action = l.action;
  verdict = 0;
  object = c.object;
  nonce = l.nonce;
  detail = l.detail;
  payload = [];
}
kept_reply c None = refused_reply c verdict.Again

-- to bytes that spell no command
abbrev pub format_reply : Reply
format_reply = record { action = 0; verdict = FORMAT_VERDICT; object = 0; nonce = 0; detail = 0; payload = [] }

-- ---- a message's reply, and the state after it

abbrev pub reply_by : Verdict → DriveState → Command → Reply
reply_by verdict.Perform d c = performed_reply d c
reply_by verdict.Again d c = kept_reply c (lane_or_none (object_at d.store c.object) c.capability.holder)
reply_by v d c = refused_reply c v

abbrev pub state_by : Verdict → DriveState → Command → DriveState
state_by verdict.Perform d c = performed d c
state_by v d c = d

abbrev pub reply_to_reading : DriveState → ℕ → Result Command CommandErr → Reply
reply_to_reading d now (Ok c) = reply_by (first_fault d now c) d c
reply_to_reading d now (Err e) = format_reply

abbrev pub after_reading : DriveState → ℕ → Result Command CommandErr → DriveState
after_reading d now (Ok c) = state_by (first_fault d now c) d c
after_reading d now (Err e) = d

-- what a drive answers to any bytes
abbrev pub reply_to : DriveState → ℕ → List ℕ → Reply
reply_to d now bytes = reply_to_reading d now (reading bytes)

-- what the drive is then
abbrev pub drive_after : DriveState → ℕ → List ℕ → DriveState
drive_after d now bytes = after_reading d now (reading bytes)
