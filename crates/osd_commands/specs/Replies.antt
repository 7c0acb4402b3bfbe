-- The bytes of a reply, both ways.
use Rattle.std.specs.Prelude.{◌≡◌, ℕ, ◌≤◌, ◌<◌, ◌^◌, List, [], ◌++◌, length, drop, slice_range, replicate, Result, Ok, Err, Option, Some, None, Bool, ◌&&◌, ◌||◌, IsTrue, if◌then◌else◌, nat_eq, nat_lt, nat_le, not}
use Rattle.std.specs.Int.{w16, w32, w64, to_be_bytes, from_be_bytes}
use Rattle.osd_lists.specs.Blocks.{first_nonzero}
use Rattle.osd_commands.specs.Actions.{number_of}
use Rattle.osd_commands.specs.declared.actions.Action.TheVariants.{Read, GetAttr}
use Rattle.osd_commands.specs.declared.replies.TheConstants.{MAGIC, BLOCK, LAST_ACTION, LAST_VERDICT, PERFORMED_BEFORE}
use Rattle.osd_commands.specs.declared.commands.CommandErr.{CommandErr}
use Rattle.osd_commands.specs.declared.commands.CommandErr.TheVariants.{Short, Magic, BadAction, Reserved, Length}
use Rattle.osd_commands.specs.declared.replies.Reply.{Reply}

-- `OSDr`
abbrev pub magic : ℕ
magic = MAGIC

-- ---- what is written

-- the bytes before the payload
unfoldable pub fields : Reply → List ℕ
fields r =
    to_be_bytes w32 magic ++ (to_be_bytes w16 r.action ++ (to_be_bytes w16 r.verdict ++ (to_be_bytes w64 r.object
    ++ (to_be_bytes w64 r.nonce ++ (to_be_bytes w64 r.detail
    ++ (to_be_bytes w32 (length r.payload) ++ replicate 4 0))))))

unfoldable pub spelling : Reply → List ℕ
spelling r = fields r ++ r.payload

-- ---- what is read

-- A verdict's number. A command that was performed before is answered by its kept reply, so no reply has that.
abbrev pub is_verdict : ℕ → Bool
is_verdict n = nat_le n LAST_VERDICT && not (nat_eq n PERFORMED_BEFORE)

-- only a READ and a GET ATTR that were performed have a payload
abbrev pub allows : ℕ → ℕ → ℕ → Bool
allows action verdict payload =
    nat_eq payload 0 || (nat_eq verdict 0 && (nat_eq action (number_of Read) || nat_eq action (number_of GetAttr)))

-- a payload is as long as is stated and the reply allows
abbrev pub is_sized : List ℕ → ℕ → ℕ → ℕ → Bool
is_sized bytes action verdict payload =
    nat_eq (from_be_bytes w32 (slice_range bytes 32 36)) payload && allows action verdict payload

abbrev pub action_at : List ℕ → ℕ
action_at bytes = from_be_bytes w16 (slice_range bytes 4 6)

abbrev pub verdict_at : List ℕ → ℕ
verdict_at bytes = from_be_bytes w16 (slice_range bytes 6 8)

-- the numbers at their places, and what follows the block
unfoldable pub reply_at : List ℕ → Reply
reply_at bytes = record {
  action = action_at bytes;
  verdict = verdict_at bytes;
  object = from_be_bytes w64 (slice_range bytes 8 16);
  nonce = from_be_bytes w64 (slice_range bytes 16 24);
  detail = from_be_bytes w64 (slice_range bytes 24 32);
  payload = drop BLOCK bytes;
}

abbrev pub sized : List ℕ → Reply → Result Reply CommandErr
sized bytes r =
    if is_sized bytes r.action r.verdict (length r.payload) then Ok r
    else Err (Length (length r.payload))

abbrev pub unless_reserved : List ℕ → Option ℕ → Result Reply CommandErr
unless_reserved bytes None = sized bytes (reply_at bytes)
unless_reserved bytes (Some at) = Err (Reserved at)

-- the reply that bytes spell, or the first refusal
unfoldable pub reading : List ℕ → Result Reply CommandErr
reading bytes =
    if nat_lt (length bytes) BLOCK then Err Short
    else if not (nat_eq (from_be_bytes w32 (slice_range bytes 0 4)) magic) then Err Magic
    else if nat_lt LAST_ACTION (action_at bytes) then Err (BadAction (action_at bytes))
    else if not (is_verdict (verdict_at bytes)) then Err (BadAction (verdict_at bytes))
    else unless_reserved bytes (first_nonzero bytes 36 BLOCK)

-- ---- what has a spelling that is read

-- what the types of a reply don't keep
pub record IsWhole (r : Reply) : Type 0 where
  pub action : r.action ≤ LAST_ACTION
  pub verdict : IsTrue (is_verdict r.verdict)
  pub allowed : IsTrue (allows r.action r.verdict (length r.payload))
  pub payload : length r.payload < 2 ^ 32

-- what they keep
pub record NumbersFit (r : Reply) : Type 0 where
  pub object : r.object < 2 ^ 64
  pub nonce : r.nonce < 2 ^ 64
  pub detail : r.detail < 2 ^ 64

pub record Fits (r : Reply) : Type 0 where
  pub whole : IsWhole r
  pub numbers : NumbersFit r

-- no reply's bytes begin with other bytes than all of its own: whatever stands behind these is none
abbrev pub BeginsNoOther : List ℕ → Type 0
BeginsNoOther bytes = (d : Reply) (rest : List ℕ) → Fits d → spelling d ≡ bytes ++ rest → rest ≡ []
