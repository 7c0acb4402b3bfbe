-- A client and the server: what it holds agrees with what the server keeps, and so do the answers that are kept for it.
use Rattle.std.specs.Prelude.{◌≡◌, ◌++◌, ℕ, List, Some}
use Rattle.layout_ops.specs.declared.envelope.Envelope.TheVariants as envelope
use Rattle.layout_ops.specs.Spelling.{EnvelopeFits}
use Rattle.world_history.specs.ClientNames.{Client, Held, Request}
use Rattle.world_history.specs.ServerNames.{Server, File, Grant, Slot, ClientRequest}
use Rattle.server_rules.specs.Envelopes.{asked_in}
use Rattle.server_rules.specs.Files.{file_at}
use Rattle.server_rules.specs.Grants.{grant_of}
use Rattle.server_rules.specs.Slots.{slot_of}
use Rattle.data_map.specs.Check.{IsChecked}
use Rattle.history_law.specs.Granted.{NumbersFit}
use Rattle.scenario_text.specs.declared.line.Line.{Line}
use Rattle.world_history.specs.State.{World, at_number}
use Rattle.history_law.specs.BookMoments.{IsMoment}
use Rattle.exchange_law.specs.InStep.{state_of}
use Rattle.exchange_law.specs.Held.{Agrees}
use Rattle.exchange_law.specs.HeldTaken.{IsShaped, OnDrives}
use Rattle.exchange_law.specs.Calls.{Knows, ClientFine, GoodAnswer}

-- where the server has a grant of client c on the file, it is the one that is held
abbrev pub AgreesAt : Server → (c : ℕ) → (file : ℕ) → Held → Type 0
AgreesAt s c file h =
    (f : File) (g : Grant) → file_at s.files file ≡ Some f → grant_of f.kept.grants c ≡ Some g
    → Agrees f.kept.map g h

-- where the server has answered the request, its answer is good for what the call needs
abbrev pub KeptGood : Server → (c : ℕ) → Knows
KeptGood s c op need r =
    (t : Slot) → slot_of s.slots c ≡ Some t → t.last ≡ r.sequence → GoodAnswer (AgreesAt s c) op need t.kept

-- both of client c
abbrev pub IsMet : Server → (c : ℕ) → Client → Type 0
IsMet s c x = ClientFine (AgreesAt s c) (KeptGood s c) x

-- the server reads in its request what the client asks
pub record Reads (q : ClientRequest) (r : Request) : Type 0 where
  pub sequence : q.sequence ≡ r.sequence
  pub file : q.file ≡ r.file
  pub args : asked_in r.args ≡ Some q.args

-- a file has a usable map, and the numbers of its components and grants fit
pub record IsFitting (s : Server) (f : File) : Type 0 where
  pub map : IsChecked f.kept.map
  pub drives : OnDrives f.kept
  pub fits : (c : ℕ) (g : Grant) → grant_of f.kept.grants c ≡ Some g → NumbersFit s.drives f.kept g

-- it also has a component for each that its map has
pub record IsSoundFile (s : Server) (f : File) : Type 0 where
  pub shaped : IsShaped f.kept
  pub drives : OnDrives f.kept
  pub fits : (c : ℕ) (g : Grant) → grant_of f.kept.grants c ≡ Some g → NumbersFit s.drives f.kept g

abbrev pub FilesSound : Server → Type 0
FilesSound s = (n : ℕ) (f : File) → file_at s.files n ≡ Some f → IsSoundFile s f

-- ---- at a moment of a history

-- what is said between clients and the server fits its places, so it is read as it was said, and so do files
pub record IsReadable (w : World) : Type 0 where
  pub files : (n : ℕ) (f : File) → file_at w.server.files n ≡ Some f → IsFitting w.server f
  pub answers : (c : ℕ) (t : Slot) → slot_of w.server.slots c ≡ Some t → EnvelopeFits (envelope.Answer t.kept)
  pub requests : (c : ℕ) (r : Request) → (state_of c (at_number w.clients c)).outstanding ≡ Some r
      → EnvelopeFits (envelope.Request r)

-- so it is at each moment of a history, up to its end
abbrev pub IsReadableThrough : List Line → Type 0
IsReadableThrough h =
    (w : World) (g rest : List Line) → IsMoment w g → h ≡ g ++ rest → IsReadable w

-- then each client and the server agree at each moment
abbrev pub ClientsAgree : Type 0
ClientsAgree =
    (w : World) (h : List Line) → IsMoment w h → IsReadableThrough h → (c : ℕ)
    → IsMet w.server c (state_of c (at_number w.clients c))
