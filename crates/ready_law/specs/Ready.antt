-- When a call is ready: what has to hold where it begins so that it ends in ok, if all that it sends arrives.
use Rattle.std.specs.Prelude.{◌≡◌, ◌⊎◌, ℕ, ◌+◌, ◌≤◌, ◌<◌, Bool, false, true, ◌||◌, not, nat_lt, ◌==◌, if◌then◌else◌, min, max, List, [], ◌∷◌, length, slice_get, Option, Some, None, is_some, option_map}
use Rattle.data_map.specs.Striping.{parities, group_of}
use Rattle.server_rules.specs.declared.limits.TheConstants.{LEASE, NO_EXPIRY}
use Rattle.server_rules.specs.Files.{file_at}
use Rattle.server_rules.specs.Grants.{grant_of, against, asked}
use Rattle.server_rules.specs.Laws.{In}
use Rattle.server_rules.specs.Maps.{group_with}
use Rattle.stripe_plan.specs.declared.plan.Ask.{Ask}
use Rattle.stripe_plan.specs.declared.plan.Span.{Span}
use Rattle.stripe_plan.specs.declared.plan.Aim.TheVariants as aim
use Rattle.stripe_plan.specs.Lost.{among, is_short, positions_out}
use Rattle.stripe_plan.specs.Touched.{stripes}
use Rattle.stripe_plan.specs.Asks.{asks}
use Rattle.client_rules.specs.Calls.{file_of, span_of, is_write}
use Rattle.client_rules.specs.Commands.{credential_in}
use Rattle.client_rules.specs.Grants.{held_of, covers, clipped}
use Rattle.client_rules.specs.Requests.{asked_span}
use Rattle.client_rules.specs.Steps.{is_bad_range}
use Rattle.scenario_text.specs.declared.line.Line.{Line}
use Rattle.world_history.specs.ClientNames.{CallOp, Held}
use Rattle.world_history.specs.ServerNames.{Server, File, Kept, Component, Grant}
use Rattle.world_history.specs.State.{World, DriveAt, ClientAt, at_number}
use Rattle.world_history.specs.Guesses.{unguessed}
use Rattle.ready_law.specs.Clear.{HasRoomTo}

-- ---- the parties where a call begins

-- the server, its clock and whether it is down, the drives and the clients by number, and whether nothing was guessed so far
pub record Scene : Type 0 where
  pub server : Server
  pub clock : ℕ
  pub down : Bool
  pub drive : (number : ℕ) → Option DriveAt
  pub client : (number : ℕ) → Option ClientAt
  pub unguessed : Bool

-- the scene of a world that stands for these lines
abbrev pub scene_of : World → List Line → Scene
scene_of w h = record {
  server = w.server;
  clock = w.clock;
  down = w.down;
  drive = λ d. at_number w.drives d;
  client = λ c. at_number w.clients c;
  unguessed = unguessed h;
}

-- a client that wasn't stopped, has no call and waits for no answer
pub record IsIdle (a : ClientAt) : Type 0 where
  pub alive : a.stopped ≡ false
  pub free : a.state.call ≡ None
  pub answered : a.state.outstanding ≡ None

-- ---- the grant under which the call works

-- the grant that the client holds on a file
abbrev pub held_by : ClientAt → (file : ℕ) → Option Held
held_by a n = held_of a.state.held n

-- a held grant covers the call; without one nothing does
abbrev pub is_covered : Option Held → CallOp → Bool
is_covered None op = false
is_covered (Some h) op = covers h op

-- the grant that a LAYOUTGET for the call would get
abbrev pub wanted : Scene → Kept → (client : ℕ) → CallOp → Grant
wanted s f c op = asked f s.server.next_grant c s.clock (asked_span op).offset (asked_span op).length (is_write op)

-- the live grants that conflict with that one; a call that is covered asks for none
abbrev pub opposed : Scene → Kept → (client : ℕ) → Option Held → CallOp → List Grant
opposed s f c o op = if is_covered o op then [] else against f.grants (wanted s f c op)

-- The client of a grant on the file gives it back as soon as it is recalled: the grant isn't expired, and its client is
-- idle and holds it.
pub record Yields (s : Scene) (file : ℕ) (g : Grant) : Type 0 where
  pub unexpired : nat_lt g.expiry s.clock ≡ false
  pub client : ClientAt
  pub there : s.client g.client ≡ Some client
  pub idle : IsIdle client
  pub held : Held
  pub holds : held_by client file ≡ Some held
  pub same : held.number ≡ g.number

-- ---- components

-- there is a component here, and it isn't missing
abbrev pub stands : Option Component → Bool
stands None = false
stands (Some at) = not at.missing

-- component k has a credential in the layout under which the call works: in the held grant's where that covers the call,
-- else in the one that would be given
abbrev pub is_listed : Kept → Option Held → CallOp → (k : ℕ) → Bool
is_listed f None op k = stands (slice_get f.components k)
is_listed f (Some h) op k =
    if covers h op then is_some (credential_in (slice_get h.components k)) else stands (slice_get f.components k)

-- the lowest component that is listed so
pub record IsLowestListed (f : Kept) (o : Option Held) (op : CallOp) (k : ℕ) : Type 0 where
  pub listed : is_listed f o op k ≡ true
  pub below : (j : ℕ) → j < k → is_listed f o op j ≡ false

-- the drive has failed, or there is none
abbrev pub has_failed : Option DriveAt → Bool
has_failed None = true
has_failed (Some a) = a.failed

-- a component is lost where it is missing, or its drive has failed
abbrev pub is_lost : Scene → Component → Bool
is_lost s at = at.missing || has_failed (s.drive at.drive)

-- the lost ones of these components, whose numbers are k and those behind it
unfoldable pub lost_from : Scene → List Component → (k : ℕ) → List ℕ
lost_from s [] k = []
lost_from s (at ∷ cs) k = if is_lost s at then k ∷ lost_from s cs (k + 1) else lost_from s cs (k + 1)

-- the lost components of a file
abbrev pub lost_of : Scene → Kept → List ℕ
lost_of s f = lost_from s f.components 0

-- ---- what the call touches

-- the range that a call reaches: of a read what is below the size
abbrev pub reached : Kept → CallOp → Span
reached f op = if is_write op then span_of op else clipped f.size (span_of op)

-- the stripes that it touches
abbrev pub touched : Kept → CallOp → List ℕ
touched f op = stripes f.map (reached f op)

-- component k is one of the group of a touched stripe
abbrev pub IsTouched : Kept → CallOp → (k : ℕ) → Type 0
IsTouched f op k = (s : ℕ) × In s (touched f op) × (group_of f.map s ≡ group_with f.map k)

-- where what is asked of component k ends, 0 where nothing is
unfoldable pub greatest_end : (k : ℕ) → List Ask → ℕ
greatest_end k [] = 0
greatest_end k (a ∷ xs) = if a.component == k then max (a.offset + a.length) (greatest_end k xs) else greatest_end k xs

-- where the call's last WRITE to component k ends
abbrev pub write_end : Kept → CallOp → (k : ℕ) → ℕ
write_end f op k = greatest_end k (asks aim.Scatters f.map (span_of op) [] [] (touched f op))

-- ---- drives

-- The drive isn't down, its clock isn't past the client's grant, nor past one that would be given, and it takes the file's
-- format.
pub record IsInTime (s : Scene) (f : Kept) (client : ℕ) (d : DriveAt) : Type 0 where
  pub up : d.down ≡ false
  pub lease : d.clock ≤ min (s.clock + LEASE) NO_EXPIRY
  pub own : (g : Grant) → grant_of f.grants client ≡ Some g → d.clock ≤ g.expiry
  pub format : d.state.least ≤ f.format

-- ---- reads and writes

-- Some component isn't missing; and the component that a read of no byte asks has a group with no more positions lost than
-- its parity brings back.
pub record IsReadable (s : Scene) (f : Kept) (o : Option Held) (op : CallOp) : Type 0 where
  pub some : (k : ℕ) × (stands (slice_get f.components k) ≡ true)
  pub probed : touched f op ≡ [] → (k : ℕ) → IsLowestListed f o op k →
      length (positions_out f.map (lost_of s f) (group_with f.map k)) ≤ parities f.map

-- If a touched component is lost that the layout lists, no other client has a grant, so that the loss can be reported; and
-- each drive of a touched component that isn't lost has room for what is written there.
pub record IsWritable (s : Scene) (f : Kept) (client : ℕ) (o : Option Held) (op : CallOp) : Type 0 where
  pub sole : (k : ℕ) → IsTouched f op k → among k (lost_of s f) ≡ true → is_listed f o op k ≡ true →
      (g : Grant) → In g f.grants → g.client ≡ client
  pub room : (k : ℕ) (at : Component) (a : DriveAt) → IsTouched f op k → slice_get f.components k ≡ Some at →
      is_lost s at ≡ false → s.drive at.drive ≡ Some a →
      HasRoomTo (write_end f op k) a.state.store at.object

-- ---- a ready call

-- a client's call is ready in a scene
pub record IsReady (s : Scene) (client : ℕ) (op : CallOp) : Type 0 where
  pub unguessed : s.unguessed ≡ true
  pub up : s.down ≡ false
  pub caller : ClientAt
  pub there : s.client client ≡ Some caller
  pub idle : IsIdle caller
  pub range : is_bad_range (span_of op) ≡ false
  pub file : File
  pub found : file_at s.server.files (file_of op) ≡ Some file
  -- no job runs on the file
  pub quiet : file.job ≡ None
  -- the client holds the grant that the server has of it there, or neither has one
  pub same : option_map (λ (h : Held). h.number) (held_by caller (file_of op))
      ≡ option_map (λ (g : Grant). g.number) (grant_of file.kept.grants client)
  -- each grant that conflicts with the one that it would ask for is given back
  pub yielding : (g : Grant) → In g (opposed s file.kept client (held_by caller (file_of op)) op) →
      Yields s (file_of op) g
  -- no drive of a component that isn't lost is down, or refuses the call's commands by their time or format
  pub drives : (k : ℕ) (at : Component) (d : DriveAt) → slice_get file.kept.components k ≡ Some at →
      is_lost s at ≡ false → s.drive at.drive ≡ Some d → IsInTime s file.kept client d
  -- a further grant can be given, where one is needed
  pub unspent : (is_covered (held_by caller (file_of op)) op ≡ true) ⊎ (file.spent ≡ false)
  -- no touched stripe has more positions lost than its parity brings back
  pub enough : (n : ℕ) → In n (touched file.kept op) → is_short file.kept.map (lost_of s file.kept) n ≡ false
  pub reads : is_write op ≡ false → IsReadable s file.kept (held_by caller (file_of op)) op
  pub writes : is_write op ≡ true → IsWritable s file.kept client (held_by caller (file_of op)) op
