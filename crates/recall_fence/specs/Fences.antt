-- The fence of a file: its command, and what counts as done.
use Rattle.std.specs.Prelude.{ℕ, Bool, List, [], ◌≡◌, ◌+◌, ◌<◌, ◌==◌, ◌&&◌, ◌||◌, replicate}
use Rattle.osd_capability.specs.declared.keys.TheConstants.{CHECK_BYTES}
use Rattle.osd_commands.specs.declared.actions.Action.TheVariants.{SetTag}
use Rattle.osd_commands.specs.declared.commands.Command.{Command}
use Rattle.osd_commands.specs.declared.replies.Reply.{Reply}
use Rattle.server_rules.specs.declared.files.Kept.{Kept}
use Rattle.server_rules.specs.declared.limits.TheConstants.{ALL_RIGHTS, FIRST_PARTITION, GREATEST_TAG, KEY_VERSION, NO_EXPIRY, OTHER_TAG, PERFORMED, SERVER_HOLDER, WHOLE_OBJECT}
use Rattle.recall_fence.specs.declared.fence.ObjectPlace.{ObjectPlace}
use Rattle.recall_fence.specs.Waiting.{without}

-- its file, the tag before it, and the components that it waits for
pub record FenceState : Type 0 where
  pub file : ℕ
  pub tag : ℕ
  pub waiting : List ℕ

-- there is a next tag
abbrev pub HasNext : (tag : ℕ) → Type 0
HasNext tag = tag < GREATEST_TAG

-- this component isn't waited for any more
abbrev pub without_done : FenceState → (component : ℕ) → FenceState
without_done s component = record s { waiting = without component s.waiting }

-- Perform, or Tag with the next tag
unfoldable pub counts_as_done : (tag : ℕ) → Reply → Bool
counts_as_done tag r = (r.verdict == PERFORMED) || ((r.verdict == OTHER_TAG) && (r.detail == tag + 1))

-- SET TAG under the server's own capability, not sealed
abbrev pub raise : (tag : ℕ) → ObjectPlace → (nonce format : ℕ) → Command
raise tag at nonce format = record {
  action = SetTag;
  partition = at.partition;
  object = at.object;
  offset = 0;
  length = 0;
  nonce = nonce;
  attribute = 0;
  capability = record {
    format = format;
    key_version = KEY_VERSION;
    rights = ALL_RIGHTS;
    expiry = NO_EXPIRY;
    grant = 0;
    holder = SERVER_HOLDER;
    tag = tag;
    partition = at.partition;
    object = at.object;
    range_start = 0;
    range_len = WHOLE_OBJECT;
  };
  payload = [];
  check = replicate CHECK_BYTES 0;
}

-- the fence is that of this file, and the place one on a drive of the server
pub record IsOfFile (f : Kept) (old_tag in_format : ℕ) (at : ObjectPlace) : Type 0 where
  pub tag : f.tag ≡ old_tag
  pub format : f.format ≡ in_format
  pub partition : at.partition ≡ FIRST_PARTITION + at.drive
