-- The bytes of a command, both ways.
use Rattle.std.specs.Prelude.{◌≡◌, ℕ, ◌-◌, ◌<◌, ◌^◌, List, [], ◌++◌, length, take, drop, slice_index, slice_range, replicate, Result, Ok, Err, Option, Some, None, Bool, ◌&&◌, IsTrue, if◌then◌else◌, nat_eq, nat_lt, not, ⊤}
use Rattle.std.specs.Option.{option_or}
use Rattle.std.specs.Int.{w16, w32, w64, to_be_bytes, from_be_bytes}
use Rattle.osd_lists.specs.Blocks.{first_nonzero}
use Rattle.osd_capability.specs.declared.layout.TheConstants.{FORMAT_SHA256}
use Rattle.osd_capability.specs.declared.keys.TheConstants.{CHECK_BYTES, SHA1_TAG_BYTES}
use Rattle.osd_capability.specs.declared.layout.Capability.{Capability}
use Rattle.osd_capability.specs.declared.layout.CapErr.{CapErr}
use Rattle.osd_capability.specs.Layout as Cap
use Rattle.osd_capability.specs.Keys.{key_of, check_of}
use Rattle.osd_commands.specs.declared.actions.Action.{Action}
use Rattle.osd_commands.specs.declared.actions.Action.TheVariants.{Create, Read, Write, GetAttr, SetAttr, SetTag}
use Rattle.osd_commands.specs.declared.commands.TheConstants.{MAGIC, BLOCK, FIELDS, CAPABILITY_END, TAIL}
use Rattle.osd_commands.specs.declared.commands.Command.{Command}
use Rattle.osd_commands.specs.declared.commands.CommandBlock.{CommandBlock}
use Rattle.osd_commands.specs.declared.commands.CommandErr.{CommandErr}
use Rattle.osd_commands.specs.declared.commands.CommandErr.TheVariants.{Short, Magic, BadAction, Reserved, BadCapability, Length, Memory}
use Rattle.osd_commands.specs.Actions.{number_of, action_of}

-- `OSD2`
abbrev pub magic : ℕ
magic = MAGIC

-- how many bytes a format's check value has
abbrev pub check_len : ℕ → ℕ
check_len format = if nat_eq format FORMAT_SHA256 then CHECK_BYTES else SHA1_TAG_BYTES

-- ---- what is written

-- the bytes before the capability
unfoldable pub fields : Command → List ℕ
fields c =
    to_be_bytes w32 magic ++ (to_be_bytes w16 (number_of c.action) ++ (replicate 2 0 ++ (to_be_bytes w64 c.partition
    ++ (to_be_bytes w64 c.object ++ (to_be_bytes w64 c.offset ++ (to_be_bytes w64 c.length ++ (to_be_bytes w64 c.nonce
    ++ (to_be_bytes w32 c.attribute ++ (replicate 4 0 ++ (to_be_bytes w32 (length c.payload) ++ replicate 4 0))))))))))

-- the bytes before the check value: the fields, the capability and zeros
unfoldable pub head : Command → List ℕ
head c = fields c ++ (Cap.spelling c.capability ++ replicate (TAIL - check_len c.capability.format) 0)

unfoldable pub spelling : Command → List ℕ
spelling c = head c ++ (take (check_len c.capability.format) c.check ++ c.payload)

-- ---- what is read

-- the first place that must be 0 and isn't
unfoldable pub stray : List ℕ → Option ℕ
stray bytes =
    option_or (option_or (option_or (first_nonzero bytes 6 8) (first_nonzero bytes 52 56))
    (first_nonzero bytes 60 FIELDS))
    (first_nonzero bytes CAPABILITY_END (BLOCK - check_len (slice_index bytes FIELDS)))

-- the length that a payload may have: that of a WRITE is the command's, CREATE and SET ATTR have any and no other
-- length, the others have none
abbrev pub allows : Action → ℕ → ℕ → Bool
allows Create len payload = nat_eq len 0
allows Read len payload = nat_eq payload 0
allows Write len payload = nat_eq payload len
allows GetAttr len payload = nat_eq payload 0
allows SetAttr len payload = nat_eq len 0
allows SetTag len payload = nat_eq payload 0

-- a payload is as long as is stated and the action allows
abbrev pub is_sized : List ℕ → Action → ℕ → ℕ → Bool
is_sized bytes action len payload =
    nat_eq (from_be_bytes w32 (slice_range bytes 56 60)) payload && allows action len payload

-- the check value of a format, filled with zeros
abbrev pub check_at : List ℕ → ℕ → List ℕ
check_at bytes format =
    slice_range bytes (BLOCK - check_len format) BLOCK ++ replicate (CHECK_BYTES - check_len format) 0

-- the numbers at their places, the check value filled with zeros, and what follows the block
unfoldable pub command_at : Action → Capability → List ℕ → Command
command_at action capability bytes = record {
  action = action;
  partition = from_be_bytes w64 (slice_range bytes 8 16);
  object = from_be_bytes w64 (slice_range bytes 16 24);
  offset = from_be_bytes w64 (slice_range bytes 24 32);
  length = from_be_bytes w64 (slice_range bytes 32 40);
  nonce = from_be_bytes w64 (slice_range bytes 40 48);
  attribute = from_be_bytes w32 (slice_range bytes 48 52);
  capability = capability;
  payload = drop BLOCK bytes;
  check = check_at bytes capability.format;
}

-- the last refusal
abbrev pub sized : List ℕ → Command → Result Command CommandErr
sized bytes c =
    if is_sized bytes c.action c.length (length c.payload) then Ok c
    else Err (Length (length c.payload))

abbrev pub with_capability : List ℕ → Action → Result Capability CapErr → Result Command CommandErr
with_capability bytes action (Ok capability) = sized bytes (command_at action capability bytes)
with_capability bytes action (Err e) = Err (BadCapability e)

abbrev pub unless_reserved : List ℕ → Action → Option ℕ → Result Command CommandErr
unless_reserved bytes action None = with_capability bytes action (Cap.reading (slice_range bytes FIELDS CAPABILITY_END))
unless_reserved bytes action (Some at) = Err (Reserved at)

abbrev pub with_action : List ℕ → Option Action → Result Command CommandErr
with_action bytes (Some action) = unless_reserved bytes action (stray bytes)
with_action bytes None = Err (BadAction (from_be_bytes w16 (slice_range bytes 4 6)))

-- the command that bytes spell, or the first refusal
unfoldable pub reading : List ℕ → Result Command CommandErr
reading bytes =
    if nat_lt (length bytes) BLOCK then Err Short
    else if not (nat_eq (from_be_bytes w32 (slice_range bytes 0 4)) magic) then Err Magic
    else with_action bytes (action_of (from_be_bytes w16 (slice_range bytes 4 6)))

-- an answer is what the bytes read as, unless there was no memory
abbrev pub ReadsAs : {X : Type 0} → Result X CommandErr → Result X CommandErr → Type 0
ReadsAs (Ok value) whole = whole ≡ Ok value
ReadsAs (Err Short) whole = whole ≡ Err Short
ReadsAs (Err Magic) whole = whole ≡ Err Magic
ReadsAs (Err (BadAction n)) whole = whole ≡ Err (BadAction n)
ReadsAs (Err (Reserved at)) whole = whole ≡ Err (Reserved at)
ReadsAs (Err (BadCapability e)) whole = whole ≡ Err (BadCapability e)
ReadsAs (Err (Length n)) whole = whole ≡ Err (Length n)
ReadsAs (Err Memory) whole = ⊤

-- ---- the block alone

-- the command of a block and its payload
abbrev pub with_payload : CommandBlock → (payload : List ℕ) → Command
with_payload b payload = record {
  action = b.action;
  partition = b.partition;
  object = b.object;
  offset = b.offset;
  length = b.length;
  nonce = b.nonce;
  attribute = b.attribute;
  capability = b.capability;
  payload = payload;
  check = b.check;
}

-- the same where there is a block
abbrev pub with_payload_in : (payload : List ℕ) → Result CommandBlock CommandErr → Result Command CommandErr
with_payload_in payload (Ok b) = Ok (with_payload b payload)
with_payload_in payload (Err e) = Err e

-- ---- what has a spelling that is read

-- a check value in its place, the bytes past the format's own 0
pub record IsCheck (format : ℕ) (check : List ℕ) : Type 0 where
  pub long : length check ≡ CHECK_BYTES
  pub zeros : drop (check_len format) check ≡ replicate (CHECK_BYTES - check_len format) 0

-- what the types of a command don't keep
pub record IsWhole (c : Command) : Type 0 where
  pub format : IsTrue (Cap.is_format c.capability.format)
  pub check : IsCheck c.capability.format c.check
  pub allowed : IsTrue (allows c.action c.length (length c.payload))
  pub payload : length c.payload < 2 ^ 32

-- what they keep
pub record NumbersFit (c : Command) : Type 0 where
  pub partition : c.partition < 2 ^ 64
  pub object : c.object < 2 ^ 64
  pub offset : c.offset < 2 ^ 64
  pub length : c.length < 2 ^ 64
  pub nonce : c.nonce < 2 ^ 64
  pub attribute : c.attribute < 2 ^ 32

pub record Fits (c : Command) : Type 0 where
  pub whole : IsWhole c
  pub numbers : NumbersFit c
  pub capability : Cap.Fits c.capability

-- no command's bytes begin with other bytes than all of its own: whatever stands behind these is none
abbrev pub BeginsNoOther : List ℕ → Type 0
BeginsNoOther bytes = (d : Command) (rest : List ℕ) → Fits d → spelling d ≡ bytes ++ rest → rest ≡ []

-- ---- check values

-- The check value is the one that the drive's key gives: the HMAC, under the capability's key, of the bytes before the
-- check value and then the payload.
abbrev pub Holds : List ℕ → Command → Type 0
Holds key c = c.check ≡ check_of (key_of key c.capability) (head c ++ c.payload)
