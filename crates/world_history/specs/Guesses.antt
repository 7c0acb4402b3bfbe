-- Whether a history is unguessed: each injected message that a drive's key opens was sent to that drive before.
use Rattle.std.specs.Prelude.{ℕ, Bool, false, true, ◌&&◌, not, nat_eq, List, [], ◌∷◌, Option, Some, None, Result, Ok, Err}
use Rattle.std.specs.List.{fold, list_any}
use Rattle.std.specs.Cmp.Lexicographic.{pointwise}
use Rattle.osd_commands.specs.declared.commands.Command.{Command}
use Rattle.osd_commands.specs.declared.commands.CommandErr.{CommandErr}
use Rattle.osd_commands.specs.Commands as commands
use Rattle.osd_drive.specs.declared.keys.DriveKey.{DriveKey}
use Rattle.osd_drive.specs.State.{key_of_version}
use Rattle.osd_drive.specs.Table.{is_checked}
use Rattle.scenario_text.specs.declared.event.Event.TheVariants as event
use Rattle.scenario_text.specs.declared.line.Line.{Line}
use Rattle.scenario_text.specs.declared.line.Line.TheVariants as line
use Rattle.world_history.specs.State.{at_number, and_number, Sent}
use Rattle.world_history.specs.Drives.{first_key}
use Rattle.world_history.specs.Reading.{sent_after, is_drive}
use Rattle.world_history.specs.Calm.{calm}

-- the keys of the drives, the messages so far, and whether all so far were unguessed
pub record Guarded : Type 0 where
  pub keys : List (ℕ × List DriveKey)
  pub sent : List Sent
  pub unguessed : Bool

-- the check value holds under a key
abbrev pub opens_with : Option DriveKey → Command → Bool
opens_with None c = false
opens_with (Some k) c = is_checked k.key c

-- the drive's keys open the command
abbrev pub opened_by : Option (List DriveKey) → Command → Bool
opened_by None c = false
opened_by (Some keys) c = opens_with (key_of_version keys c.capability.key_version) c

-- these bytes were sent to the drive before
abbrev pub was_sent : List Sent → (drive : ℕ) → (bytes : List ℕ) → Bool
was_sent ss d bytes = list_any (λ (s : Sent). is_drive d s.to && pointwise nat_eq s.bytes bytes) ss

-- bytes that spell a command
abbrev pub is_guess_of : Guarded → (drive : ℕ) → (bytes : List ℕ) → Result Command CommandErr → Bool
is_guess_of g d bytes (Ok c) = opened_by (at_number g.keys d) c && not (was_sent g.sent d bytes)
is_guess_of g d bytes (Err e) = false

-- injected bytes are a guess
abbrev pub is_guess : Guarded → (drive : ℕ) → (bytes : List ℕ) → Bool
is_guess g d bytes = is_guess_of g d bytes (commands.reading bytes)

-- a drive and its key
abbrev pub keys_after : List (ℕ × List DriveKey) → Line → List (ℕ × List DriveKey)
keys_after keys (line.Event (event.Drive d key capacity)) = and_number keys d (first_key key ∷ [])
keys_after keys (line.Event (event.Disk d key capacity)) = and_number keys d (first_key key ∷ [])
keys_after keys l = keys

abbrev pub guessed_at : Guarded → Line → Bool
guessed_at g (line.Event (event.Inject d bytes)) = is_guess g d bytes
guessed_at g l = false

abbrev pub guards : Guarded → Line → Guarded
guards g l = record {
  keys = keys_after g.keys l;
  sent = sent_after g.sent l;
  unguessed = g.unguessed && not (guessed_at g l);
}

abbrev pub guarded : List Line → Guarded
guarded h = fold guards (record { keys = []; sent = []; unguessed = true }) h

-- no message of a history was guessed
abbrev pub unguessed : List Line → Bool
unguessed h = (guarded h).unguessed

-- the last line of a history
abbrev pub last_line : List Line → Line
last_line h = line.Last (calm h) (unguessed h)
