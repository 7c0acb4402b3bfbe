-- Examples of scenes: four in which a call is ready, and one for each thing without which it isn't.
use Rattle.std.specs.Prelude.{◌+◌, ℕ, Bool, false, true, ◌==◌, if◌then◌else◌, List, [], ◌∷◌, Some, None}
use Rattle.data_map.specs.declared.check.RawMap.{RawMap}
use Rattle.osd_drive.specs.State.{new_drive}
use Rattle.osd_drive.specs.declared.limits.TheConstants.{FIRST_FORMAT}
use Rattle.data_map.specs.declared.ranges.TheConstants.{MAX_FILE_SIZE}
use Rattle.client_rules.specs.Commands.{no_credential}
use Rattle.client_rules.specs.Requests.{get_args}
use Rattle.client_rules.specs.Steps.{new_client}
use Rattle.server_rules.specs.Layouts.{object_of}
use Rattle.server_rules.specs.Making.{new_server}
use Rattle.world_history.specs.ClientNames.{CallOp, Write, Read, Held, Client, Starts, Request}
use Rattle.world_history.specs.ServerNames.{File, Component, Grant, Still, Job, Auditing, Fences}
use Rattle.world_history.specs.State.{DriveAt, ClientAt}
use Rattle.ready_law.specs.Ready.{Scene, IsReady}

-- ---- the parties

-- a component on the drive of its number
abbrev pub component : (drive : ℕ) → (missing : Bool) → Component
component d missing = record { drive = d; object = 1; missing = missing }

-- file 0, of which nothing was written
abbrev pub file_with : RawMap → (size : ℕ) → List Component → List Grant → File
file_with m size cs gs = record {
  kept = record {
    number = 0;
    map = m;
    zoned = false;
    first_tag = 1;
    tag = 1;
    format = FIRST_FORMAT;
    size = size;
    high = 0;
    ready = true;
    phase = Still;
    components = cs;
    grants = gs;
    ended = [];
  };
  spent = false;
  job = None;
}

-- drive 0 has failed, or not
abbrev pub drive_where : (failed : Bool) → (number : ℕ) → DriveAt
drive_where failed d = record {
  state = new_drive d [] 1000;
  clock = 0;
  failed = if d == 0 then failed else false;
  stored = false;
  down = false;
}

-- each client holds this
abbrev pub client_with : List Held → (number : ℕ) → ClientAt
client_with hs c = record { state = record (new_client c 1) { held = hs }; stopped = false; wrote = false }

-- a scene of these
abbrev pub scene_with : File → (failed : Bool) → List Held → Scene
scene_with f failed hs = record {
  server = record (new_server []) { files = f ∷ [] };
  clock = 0;
  down = false;
  drive = λ d. Some (drive_where failed d);
  client = λ c. Some (client_with hs c);
  unguessed = true;
}

-- a grant of a client for reading one stripe, with number 1
abbrev pub reading : (client stripe : ℕ) → Grant
reading c s = record {
  number = 1;
  client = c;
  file = 0;
  rw = false;
  extending = false;
  first = s;
  end = s + 1;
  expiry = 90;
}

-- ---- a read of no byte, where a component is missing: two components without parity, each a group of its own

-- their map
abbrev pub apart : RawMap
apart = record { comps = 2; unit = 4; width = 1; depth = 1; mirrors = 0; algorithm = 1 }

-- the grant under which client 0 read before, which lists both
abbrev pub held_before : Held
held_before = record {
  file = 0;
  number = 1;
  reach = record { rw = false; extending = false; first = 0; end = 4 };
  size = 0;
  map = apart;
  components =
      record { id = object_of (component 0 false); credential = Some no_credential }
      ∷ record { id = object_of (component 1 false); credential = Some no_credential } ∷ [];
  count = 1;
}

-- under that grant it asks component 0, which is missing since
abbrev pub asks_the_lost : Scene
asks_the_lost =
    scene_with (file_with apart 0 (component 0 true ∷ component 1 false ∷ []) (reading 0 0 ∷ [])) true (held_before ∷ [])

-- without a grant it gets one that lists component 1 alone, and asks that
abbrev pub asks_another : Scene
asks_another = scene_with (file_with apart 0 (component 0 true ∷ component 1 false ∷ []) []) true []

-- ---- a write where a drive has failed: two replicas

-- their map
abbrev pub mirrored : RawMap
mirrored = record { comps = 2; unit = 4; width = 0; depth = 0; mirrors = 1; algorithm = 1 }

-- nobody else has a grant, so the loss can be reported
abbrev pub writes_alone : Scene
writes_alone = scene_with (file_with mirrored 8 (component 0 false ∷ component 1 false ∷ []) []) true []

-- another client reads the next stripe: its grant stands, so the loss can't be reported
abbrev pub writes_beside : Scene
writes_beside = scene_with (file_with mirrored 8 (component 0 false ∷ component 1 false ∷ []) (reading 1 1 ∷ [])) true []

-- as long as nothing is lost that is no matter
abbrev pub writes_whole : Scene
writes_whole = scene_with (file_with mirrored 8 (component 0 false ∷ component 1 false ∷ []) (reading 1 1 ∷ [])) false []

-- ---- a write where another client reads

-- grant 1, for reading the first stripe
abbrev pub held_to_read : Held
held_to_read = record held_before { size = 8; map = mirrored }

-- client 1 holds it, and client 0 nothing
abbrev pub reader : (number : ℕ) → ClientAt
reader c = client_with (if c == 1 then held_to_read ∷ [] else []) c

-- the file with two replicas and these grants
abbrev pub granted : List Grant → File
granted gs = file_with mirrored 8 (component 0 false ∷ component 1 false ∷ []) gs

-- Client 0 writes where client 1 reads, who gives its grant back.
abbrev pub recalls : Scene
recalls = record (scene_with (granted (reading 1 0 ∷ [])) false []) { client = λ c. Some (reader c) }

-- that write
abbrev pub write : CallOp
write = Write 0 0 (7 ∷ [])

-- the same scene with another file, with another client, or with other drives
abbrev pub with_file : File → Scene
with_file f = record recalls { server = record (new_server []) { files = f ∷ [] } }

abbrev pub with_client : (number : ℕ) → ClientAt → Scene
with_client n a = record recalls { client = λ c. Some (if c == n then a else reader c) }

abbrev pub with_drives : (DriveAt → DriveAt) → Scene
with_drives becomes = record recalls { drive = λ d. Some (becomes (drive_where false d)) }

-- client 0 in this state
abbrev pub caller : Client → ClientAt
caller c = record { state = c; stopped = false; wrote = false }

-- a job of the file, and a request of client 0
abbrev pub audit : Job
audit = record { kind = Auditing; work = Fences; awaited = []; heard = [] }

abbrev pub request : Request
request = record { client = 0; sequence = 1; file = 0; args = get_args write }

-- The call isn't ready any more where just one thing is changed.
pub record ChangedAreUnready : Type 0 where
  pub guessed : IsReady (record recalls { unguessed = false }) 0 write → ⊥
  pub down : IsReady (record recalls { down = true }) 0 write → ⊥
  -- the caller isn't there, was stopped, has a call, or waits for an answer
  pub absent : IsReady (record recalls { client = λ c. None }) 0 write → ⊥
  pub stopped : IsReady (with_client 0 (record (reader 0) { stopped = true })) 0 write → ⊥
  pub busy :
      IsReady (with_client 0 (caller (record (new_client 0 1) { call = Some (record { op = write; phase = Starts }) }))) 0 write
      → ⊥
  pub asking : IsReady (with_client 0 (caller (record (new_client 0 1) { outstanding = Some request }))) 0 write → ⊥
  -- the range passes the greatest size of a file; there is no such file, or a job runs on it
  pub range : IsReady recalls 0 (Write 0 MAX_FILE_SIZE (7 ∷ [])) → ⊥
  pub file : IsReady recalls 0 (Write 1 0 (7 ∷ [])) → ⊥
  pub job : IsReady (with_file (record (granted (reading 1 0 ∷ [])) { job = Some audit })) 0 write → ⊥
  -- the caller holds a grant that the server doesn't have, or the other way round
  pub held : IsReady (with_client 0 (client_with (held_to_read ∷ []) 0)) 0 write → ⊥
  pub given : IsReady (with_file (granted (reading 1 0 ∷ record (reading 0 1) { number = 2 } ∷ []))) 0 write → ⊥
  -- the reader was stopped, doesn't hold its grant any more, or let it expire
  pub mute : IsReady (with_client 1 (record (reader 1) { stopped = true })) 0 write → ⊥
  pub returned : IsReady (with_client 1 (client_with [] 1)) 0 write → ⊥
  pub expired : IsReady (record recalls { clock = 91 }) 0 write → ⊥
  -- the drives are down, their clocks are late, they take no commands of the file's format, or they are full
  pub crashed : IsReady (with_drives (λ d. record d { down = true })) 0 write → ⊥
  pub late : IsReady (with_drives (λ d. record d { clock = 91 })) 0 write → ⊥
  pub refusing : IsReady (with_drives (λ d. record d { state = record d.state { least = 2 } })) 0 write → ⊥
  pub full : IsReady (with_drives (λ d. record d { state = new_drive d.state.number [] 0 })) 0 write → ⊥
  -- no further grant of the file can be given
  pub spent : IsReady (with_file (record (granted (reading 1 0 ∷ [])) { spent = true })) 0 write → ⊥
  -- where nobody reads, both replicas are lost; or all components are missing that a read of no byte could ask
  pub short : IsReady (record writes_alone { drive = λ d. Some (record (drive_where true d) { failed = true }) }) 0 write → ⊥
  pub missing :
      IsReady (scene_with (file_with apart 0 (component 0 true ∷ component 1 true ∷ []) []) true []) 0 (Read 0 0 1) → ⊥

-- ---- which are ready

-- in which of the scenes the call is ready, and in which it isn't
pub record ExamplesAreMet : Type 0 where
  pub lost : IsReady asks_the_lost 0 (Read 0 0 1) → ⊥
  pub another : IsReady asks_another 0 (Read 0 0 1)
  pub alone : IsReady writes_alone 0 (Write 0 0 (7 ∷ []))
  pub whole : IsReady writes_whole 0 (Write 0 0 (7 ∷ []))
  pub beside : IsReady writes_beside 0 (Write 0 0 (7 ∷ [])) → ⊥
  pub recalled : IsReady recalls 0 write
  pub changed : ChangedAreUnready
