-- The commands of the server's jobs, before and after they are sealed.
use Rattle.std.specs.Prelude.{ℕ, Bool, true, false, List, [], ◌∷◌, ◌++◌, Option, Some, None, ◌+◌, ◌/◌, ◌==◌, ◌&&◌, not, length, replicate, if◌then◌else◌, find}
use Rattle.std.specs.Int.{w32, w64, to_be_bytes}
use Rattle.data_map.specs.Striping.{replicas}
use Rattle.osd_capability.specs.declared.layout.TheConstants.{FORMAT_SHA256}
use Rattle.osd_capability.specs.declared.keys.TheConstants.{CHECK_BYTES}
use Rattle.osd_capability.specs.Keys.{key_of, check_of}
use Rattle.osd_commands.specs.Commands.{head}
use Rattle.osd_commands.specs.declared.actions.Action.{Action}
use Rattle.osd_commands.specs.declared.actions.Action.TheVariants.{Create, Read, Write, GetAttr, SetTag}
use Rattle.server_rules.specs.declared.limits.TheConstants.{NO_EXPIRY, SERVER_HOLDER, ALL_RIGHTS, WHOLE_OBJECT, KEY_VERSION, LENGTH_ATTRIBUTE, FIRST_PARTITION}
use Rattle.server_rules.specs.State.{Kept, RawMap, Component, Awaited, Command, Capability, Drive}
use Rattle.server_rules.specs.Maps.{group_with}
use Rattle.server_rules.specs.Standing.{replica}

-- ---- one command

-- the capability of the server's own commands: all rights on the whole object, for ever
abbrev pub own_capability : Kept → (drive object : ℕ) → Capability
own_capability f drive object = record {
  format = f.format;
  key_version = KEY_VERSION;
  rights = ALL_RIGHTS;
  expiry = NO_EXPIRY;
  grant = 0;
  holder = SERVER_HOLDER;
  tag = f.tag;
  partition = FIRST_PARTITION + drive;
  object = object;
  range_start = 0;
  range_len = WHOLE_OBJECT;
}

-- a command of the server, not sealed
abbrev pub command : Kept → (drive object nonce : ℕ) → Action → (offset len attribute : ℕ) → List ℕ → Command
command f drive object nonce action offset len attribute payload = record {
  action = action;
  partition = FIRST_PARTITION + drive;
  object = object;
  offset = offset;
  length = len;
  nonce = nonce;
  attribute = attribute;
  capability = own_capability f drive object;
  payload = payload;
  check = replicate CHECK_BYTES 0;
}

-- what a job asks of an object
pub data Ask : Type 0 where
  Creating : Ask
  Raising : Ask
  Reading : (offset len : ℕ) → Ask
  Writing : (offset : ℕ) → (bytes : List ℕ) → Ask
  Measuring : Ask

-- what a CREATE carries: the file, the component and the map
unfoldable pub label : RawMap → (file component : ℕ) → List ℕ
label m file component =
    to_be_bytes w32 file ++ (to_be_bytes w32 component
    ++ (to_be_bytes w32 m.comps ++ (to_be_bytes w64 m.unit ++ (to_be_bytes w32 m.width
    ++ (to_be_bytes w32 m.depth ++ (to_be_bytes w32 m.mirrors ++ to_be_bytes w32 m.algorithm))))))

-- the command that asks it of component k's object
abbrev pub command_for : Kept → Ask → (component drive object nonce : ℕ) → Command
command_for f Creating k drive object nonce = command f drive object nonce Create 0 0 0 (label f.map f.number k)
command_for f Raising k drive object nonce = command f drive object nonce SetTag 0 0 0 []
command_for f (Reading offset len) k drive object nonce = command f drive object nonce Read offset len 0 []
command_for f (Writing offset bytes) k drive object nonce =
    command f drive object nonce Write offset (length bytes) 0 bytes
command_for f Measuring k drive object nonce = command f drive object nonce GetAttr 0 0 LENGTH_ATTRIBUTE []

-- the same, as it is awaited
abbrev pub sent_to : Kept → Ask → (component drive object nonce : ℕ) → Awaited
sent_to f ask k drive object nonce = record {
  component = k;
  drive = drive;
  command = command_for f ask k drive object nonce;
}

-- ---- one to each of some components

-- which of the present components are meant
pub data Which : Type 0 where
  All : Which
  Only : (component : ℕ) → Which
  OfGroup : (group : ℕ) → Which
  FirstsOf : (group : ℕ) → Which

-- component k is that component, if there is one
abbrev pub is_first : Kept → (k : ℕ) → Option ℕ → Bool
is_first f k None = false
is_first f k (Some j) = k == j

-- component number k is meant, where it is present; the firsts are each position's first present replica
unfoldable pub is_meant : Kept → Which → (k : ℕ) → Bool
is_meant f All k = true
is_meant f (Only j) k = k == j
is_meant f (OfGroup group) k = group_with f.map k == group
is_meant f (FirstsOf group) k =
    (group_with f.map k == group) && is_first f k (replica f.map f.components (k / replicas f.map))

-- the same command to each present component that is meant, from number k on, with rising nonces
unfoldable pub to_each : Kept → Which → Ask → List Component → (k nonce : ℕ) → List Awaited
to_each f which ask [] k nonce = []
to_each f which ask (at ∷ cs) k nonce =
    if not at.missing && is_meant f which k
    then sent_to f ask k at.drive at.object nonce ∷ to_each f which ask cs (k + 1) (nonce + 1)
    else to_each f which ask cs (k + 1) nonce

-- the same command to each component of the file that is meant
abbrev pub to_all : Kept → Which → Ask → (nonce : ℕ) → List Awaited
to_all f which ask nonce = to_each f which ask f.components 0 nonce

-- ---- again, and sealed

-- the same command in format 2, with a new nonce
abbrev pub again_in_2 : Awaited → (nonce : ℕ) → Awaited
again_in_2 a nonce =
    record a {
      command = record a.command {
        nonce = nonce;
        capability = record a.command.capability { format = FORMAT_SHA256 };
      };
    }

-- the key of a drive that there is
abbrev pub key_in : Option Drive → List ℕ
key_in None = []
key_in (Some d) = d.key

-- the working key of a drive
unfoldable pub key_at : List Drive → (drive : ℕ) → List ℕ
key_at ds drive = key_in (find (λ d. d.number == drive) ds)

-- the check value that a drive's key gives a command
unfoldable pub check_under : List ℕ → Command → List ℕ
check_under key c = check_of (key_of key c.capability) (head c ++ c.payload)

-- the command as it is sent
abbrev pub sealed : List Drive → Awaited → Command
sealed ds a = record a.command { check = check_under (key_at ds a.drive) a.command }
