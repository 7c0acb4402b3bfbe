-- Whether injected messages were sent before: what is kept of it, line by line.
use Rattle.std.specs.Prelude.{ℕ, Bool, true, false, ◌&&◌, ◌==◌, not, List, [], Option, Some, None, is_none, Result, Ok, Err}
use Rattle.osd_commands.specs.declared.commands.Command.{Command}
use Rattle.osd_commands.specs.declared.commands.CommandErr.{CommandErr}
use Rattle.osd_commands.specs.Commands as commands
use Rattle.osd_drive.specs.Table.{is_checked}
use Rattle.server_rules.specs.declared.limits.TheConstants.{KEY_VERSION}
use Rattle.scenario_text.specs.declared.event.Event.{Event}
use Rattle.scenario_text.specs.declared.event.Event.TheVariants as event
use Rattle.scenario_text.specs.declared.line.Party.{Party}
use Rattle.scenario_text.specs.declared.line.Party.TheVariants as party
use Rattle.scenario_text.specs.declared.line.Line.{Line}
use Rattle.scenario_text.specs.declared.line.Line.TheVariants as line
use Rattle.world_history.specs.declared.messages.Sent.{Sent}
use Rattle.world_history.specs.State.{at_number, and_number}
use Rattle.world_watch.specs.Sighted.{Table, sighted, sees_message}

-- the drives' keys, the messages to them, and whether no injected message so far was guessed
pub record GuessState : Type 0 where
  pub keys : List (ℕ × List ℕ)
  pub sightings : Table
  pub unguessed : Bool

abbrev pub no_guess : GuessState
no_guess = record { keys = []; sightings = []; unguessed = true }

-- the drive's key opens the command
abbrev pub opens_with : Command → Option (List ℕ) → Bool
opens_with c None = false
opens_with c (Some key) = (KEY_VERSION == c.capability.key_version) && is_checked key c

abbrev pub opens : GuessState → (drive : ℕ) → Command → Bool
opens g d c = opens_with c (at_number g.keys d)

-- bytes are injected
abbrev pub injects_read : GuessState → List Sent → (drive : ℕ) → (bytes : List ℕ) → Result Command CommandErr
    → GuessState
injects_read g ms d bytes (Ok c) =
    record g { unguessed = g.unguessed && not (opens g d c && is_none (sighted g.sightings ms d bytes)) }
injects_read g ms d bytes (Err e) = g

abbrev pub injects : GuessState → List Sent → (drive : ℕ) → (bytes : List ℕ) → GuessState
injects g ms d bytes = injects_read g ms d bytes (commands.reading bytes)

abbrev pub sees_event : GuessState → List Sent → Event → GuessState
sees_event g ms (event.Drive d key capacity) = record g { keys = and_number g.keys d key }
sees_event g ms (event.Disk d key capacity) = record g { keys = and_number g.keys d key }
sees_event g ms (event.Inject d bytes) = injects g ms d bytes
sees_event g ms e = g

abbrev pub sees_message_to : GuessState → List Sent → (number : ℕ) → Party → (bytes : List ℕ) → GuessState
sees_message_to g ms number (party.Drive d) bytes =
    record g { sightings = sees_message g.sightings ms number d bytes }
sees_message_to g ms number to bytes = g

-- a line more, where these are the messages
abbrev pub sees : GuessState → List Sent → Line → GuessState
sees g ms (line.Event e) = sees_event g ms e
sees g ms (line.Message number from to bytes) = sees_message_to g ms number to bytes
sees g ms l = g
