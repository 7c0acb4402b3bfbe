-- Numbers that are in more than one crate.
use Rattle.std.specs.Prelude.{◌≡◌, ◌+◌, ℕ, true, false}
use Rattle.client_rules.specs.declared.limits.TheConstants as client
use Rattle.server_rules.specs.declared.limits.TheConstants as server
use Rattle.osd_drive.specs.declared.limits.TheConstants as drive
use Rattle.osd_drive.specs.declared.verdict.Verdict.TheVariants as verdict
use Rattle.osd_drive.specs.Effects.{verdict_number}
use Rattle.osd_commands.specs.Replies.{is_verdict}
use Rattle.layout_ops.specs.declared.parts.TheConstants as messages
use Rattle.server_entries.specs.declared.fields.TheConstants as entries
use Rattle.server_entries.specs.declared.applied.TheConstants as journal
use Rattle.scenario_text.specs.declared.names.TheConstants as names
use Rattle.zone_place.specs.declared.loads.TheConstants as zones
use Rattle.cluster_text.specs.declared.fields.TheConstants as texts
use Rattle.command_words.specs.declared.words.TheConstants as words

-- what clients and the server say to each other
pub record PartiesAgree : Type 0 where
  pub clients : client.MAX_CLIENT ≡ server.MAX_CLIENT
  pub components : client.MAX_FILE_COMPONENTS ≡ server.MAX_FILE_COMPONENTS
  pub sequences : client.GREATEST_SEQUENCE ≡ server.GREATEST_SEQUENCE
  pub whole_file : client.WHOLE_FILE ≡ server.WHOLE_FILE
  pub no_component : client.NO_COMPONENT ≡ server.NO_COMPONENT
  pub loss_taken : client.LOSS_TAKEN ≡ server.LOSS_TAKEN
  pub layouts : client.MAX_LAYOUT ≡ messages.MAX_BODY
  pub answers : entries.MAX_ANSWER ≡ messages.MAX_BODY

-- what the server knows of drives
pub record DrivesAgree : Type 0 where
  pub tags : server.GREATEST_TAG ≡ drive.MAX_TAG
  pub ends : server.MAX_OBJECT_LENGTH ≡ drive.MAX_END
  pub pieces : server.MAX_PIECE ≡ drive.MAX_LENGTH
  pub partitions : server.FIRST_PARTITION ≡ drive.FIRST_PARTITION

-- a scenario names as many parties and files as the rules have
pub record CapacitiesAgree : Type 0 where
  pub drives : names.DRIVES ≡ client.MAX_DRIVE + 1
  pub zoned_drives : names.DRIVES ≡ zones.MAX_DRIVES
  pub clients : names.CLIENTS ≡ server.MAX_CLIENT + 1
  pub files : names.FILES ≡ journal.MAX_FILES

-- a cluster text and the words of the program name as many
pub record CommandsAgree : Type 0 where
  pub drives : texts.MAX_DRIVES ≡ zones.MAX_DRIVES
  pub files : texts.MAX_FILES ≡ journal.MAX_FILES
  pub components : texts.MAX_FILE_COMPONENTS ≡ server.MAX_FILE_COMPONENTS
  pub drive_words : words.MAX_DRIVE ≡ client.MAX_DRIVE
  pub client_words : words.MAX_CLIENT ≡ client.MAX_CLIENT

-- both are this number
abbrev pub AreBoth : ℕ → ℕ → ℕ → Type 0
AreBoth a b n = (a ≡ n) × (b ≡ n)

-- the numbers by which clients and the server know a drive's verdicts, and the greatest that a reply may have
pub record VerdictsAgree : Type 0 where
  pub performed : AreBoth client.PERFORMED server.PERFORMED (verdict_number verdict.Perform)
  pub no_key : client.NO_KEY ≡ verdict_number verdict.NoKey
  pub check : client.BAD_CHECK_VALUE ≡ verdict_number verdict.CheckValue
  pub expired : client.EXPIRED ≡ verdict_number verdict.Expired
  pub rights : client.NO_RIGHT ≡ verdict_number verdict.Rights
  pub elsewhere : client.OTHER_OBJECT ≡ verdict_number verdict.WrongObject
  pub range : client.OUT_OF_RANGE ≡ verdict_number verdict.Range
  pub no_object : client.NO_OBJECT ≡ verdict_number verdict.NoObject
  pub exists : server.EXISTS ≡ verdict_number verdict.Exists
  pub tag : (now : ℕ) → AreBoth client.OTHER_TAG server.OTHER_TAG (verdict_number (verdict.Tag now))
  pub limit : client.OVER_LIMIT ≡ verdict_number verdict.Limit
  pub space : (free : ℕ) → AreBoth client.NO_SPACE server.NO_SPACE (verdict_number (verdict.NoSpace free))
  pub lanes : client.LANE_FULL ≡ verdict_number verdict.LaneFull
  pub old_format : server.OLD_FORMAT ≡ verdict_number verdict.OldFormat
  pub last : is_verdict (verdict_number verdict.OldFormat) ≡ true
  pub none_after : is_verdict (verdict_number verdict.OldFormat + 1) ≡ false
