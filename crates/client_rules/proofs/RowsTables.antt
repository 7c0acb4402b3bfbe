-- Tables: the errors of verdicts, keys and their formats, and how long a grant covers calls.
use Rattle.std.specs.Prelude.{◌≡◌, refl, ℕ, ◌+◌, Bool, List, [], ◌∷◌, map, replicate, true, false, Some, None}
use Rattle.layout_types.specs.declared.ioerrs.Errno.TheVariants.{Eio, NotFound, NoSpace, BadCred, NoAccess, Resource}
use Rattle.layout_types.specs.declared.cred.ObjectCred.{ObjectCred}
use Rattle.osd_capability.specs.declared.keys.CapKey.TheVariants.{Two}
use Rattle.osd_capability.specs.Layout as capabilities
use Rattle.client_rules.specs.declared.limits.TheConstants.{MAX_COUNT}
use Rattle.client_rules.specs.State.{Write, Read, Held, Capability}
use Rattle.client_rules.specs.Requests.{errno_of}
use Rattle.client_rules.specs.Layouts.{listed}
use Rattle.client_rules.specs.Grants.{covers}
use Rattle.client_rules.specs.Rows.{Given, Usable, object_at, credential, usable}
use Rattle.client_rules.proofs.Opened.{opened}
use Rattle.client_rules.proofs.RowsGrants.{striping}

-- ---- verdicts, from Perform to OldFormat

pub errors : map errno_of (0 ∷ 1 ∷ 2 ∷ 3 ∷ 4 ∷ 5 ∷ 6 ∷ 7 ∷ 8 ∷ 9 ∷ 10 ∷ 11 ∷ 12 ∷ 13 ∷ 14 ∷ 15 ∷ 16 ∷ 17 ∷ []) ≡
    Eio ∷ BadCred ∷ BadCred ∷ NoAccess ∷ NoAccess ∷ NoAccess ∷ NoAccess ∷ NotFound ∷ Eio ∷ Eio ∷ Resource ∷ NoSpace ∷ Resource
    ∷ Eio ∷ Eio ∷ Eio ∷ Eio ∷ Eio ∷ []
unfolding opened
errors = refl

-- ---- keys

abbrev first_grant : Given
first_grant = record { number = 1; writes = true; offset = 0; len = 4; map = striping; components = Usable 0 65536 0 4 ∷ [] }

abbrev in_format_2 : Capability
in_format_2 = record (usable first_grant 0 65536 0 4) { format = 2 }

-- a component with a capability of format 2 and this key
abbrev with_key : List ℕ → ObjectCred
with_key key =
    record (credential first_grant (Usable 0 65536 0 4)) {
      oc_capability_key = key;
      oc_capability =
          capabilities.spelling in_format_2;
    }

pub long_key : listed (with_key (replicate 32 7)) ≡ Some
    (record {
      id = object_at 0 65536;
      credential =
          Some (record { drive = 0; key = Two (replicate 32 7); capability = in_format_2 });
    })
unfolding opened
long_key = refl

pub short_key : listed (with_key (replicate 20 7)) ≡ None
unfolding opened
short_key = refl

-- ---- cover

-- a grant that isn't extending, for the first 8 bytes of a file of 6
abbrev held : (rw : Bool) → (count : ℕ) → Held
held rw count =
    record {
      file = 0;
      number = 1;
      reach = record { rw = rw; extending = false; first = 0; end = 8 };
      size = 6;
      map =
          striping;
      components = [];
      count = count;
    }

pub cover :
    covers (held true 0) (Write 0 4 (1 ∷ 2 ∷ [])) ∷ covers (held true 0) (Write 0 5 (1 ∷ 2 ∷ [])) ∷ covers (held false 0)
    (Write 0 4 (1 ∷ 2 ∷ []))
    ∷ covers (held false 0) (Read 0 4 100) ∷ covers (held false 0) (Read 0 9 1) ∷ covers (held true MAX_COUNT)
    (Read 0 0 1) ∷ covers (held true (MAX_COUNT + 1)) (Read 0 0 1) ∷ []
    ≡ true ∷ false ∷ false ∷ true ∷ true ∷ true ∷ false ∷ []
unfolding opened
cover = refl
