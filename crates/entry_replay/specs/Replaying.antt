-- What comes of entries that are taken into a state.
use Rattle.std.specs.Prelude.{◌≡◌, ⊤, ℕ, List, [], ◌∷◌, Option, Some, None, Result, Ok, ◌+◌, ◌==◌, take, if◌then◌else◌}
use Rattle.layout_ops.specs.declared.envelope.Envelope.{Envelope}
use Rattle.layout_ops.specs.declared.envelope.Envelope.TheVariants as envelope
use Rattle.layout_ops.specs.declared.err.OpErr.{OpErr}
use Rattle.layout_ops.specs.declared.messages.Answer.{Answer}
use Rattle.server_rules.specs.declared.server.Drive.{Drive}
use Rattle.server_rules.specs.declared.server.Server.{Server}
use Rattle.server_state.specs.declared.state.State.{State}
use Rattle.server_state.specs.States.{server_of}
use Rattle.server_entries.specs.declared.entry.DriveEntry.{DriveEntry}
use Rattle.server_entries.specs.declared.entry.Entry.{Entry}
use Rattle.server_entries.specs.Applying.{applied_all}
use Rattle.server_entries.specs.Making.{in_place_of, new_drive}
use Rattle.server_entries.specs.declared.applied.Applied.{Applied}
use Rattle.server_entries.specs.declared.applied.Applied.TheVariants.{Done, Unmade}

-- ---- one entry

-- the state is that of the server which is made, or the server stays where none is
abbrev pub Becomes : (old new : State) → (made : Option Server) → Applied → Type 0
Becomes old new made Done = made ≡ Some (server_of new)
Becomes old new made Unmade = (made ≡ None) × (server_of new ≡ server_of old)

-- drives of numbers that aren't less, and one before them or in the place of its former
abbrev pub put_before : List Drive → DriveEntry → List Drive
put_before [] d = new_drive d ∷ []
put_before (e ∷ ds) d = if e.number == d.number then in_place_of e d ∷ ds else new_drive d ∷ e ∷ ds

-- the answer that was read, if one was
abbrev pub read_answer : Result Envelope OpErr → Option Answer
read_answer (Ok (envelope.Answer a)) = Some a
read_answer r = None

-- ---- one after another

-- the entries before this place make the server, and nothing can be made of the entry there
pub record StopsAt (old : Server) (es : List Entry) (place : ℕ) (new : Server) : Type 0 where
  pub made : applied_all old (take place es) ≡ Some new
  pub unmade : applied_all old (take (place + 1) es) ≡ None

-- where nothing can be made of an entry the server is that of those before it
abbrev pub Stops : (old new : Server) → List Entry → Applied → Type 0
Stops old new es Done = ⊤
Stops old new es Unmade = (place : ℕ) × StopsAt old es place new
