-- A drive that the server is to know.
use Rattle.std.proofs.Common.{◌≡◌, ◌==◌, ℕ, Bool, List, [], ◌∷◌, true, false, nat_eq, find, is_some, inl, inr, refl, sym, ap}
use Rattle.std.specs.List.{list_any}
use Rattle.std.proofs.lemmas.Bool.{cases_Bool, or_parts}
use Rattle.osd_lists.proofs.Tests.{differ}
use Rattle.server_rules.specs.declared.server.Drive.{Drive}
use Rattle.server_rules.specs.declared.server.Server.{Server}
use Rattle.server_rules.specs.Making.{add_drive}
use Rattle.server_rules.specs.Zoning.{put_in_zone}
use Rattle.server_rules.specs.History.{Zones}
use Rattle.layout_server.specs.Adding.{IsNew}
use Rattle.world_history.specs.State.{with_server, and_drive}
use Rattle.world_history.specs.Drives.{made_drive}
use Rattle.world_history.specs.Moves.{gives, knows_drive, known_drive}
use Rattle.world_network.specs.declared.acts.Act.{Act}
use Rattle.world_network.specs.Acts.{nothing}
use Rattle.layout_world.specs.ServerActing.{Adds, Does}
use Rattle.layout_world.proofs.ServerActed.{zoned}

-- a number that no drive has is a new one
pub new_by : (ds : List Drive) (number : ℕ) → list_any (λ d. nat_eq d.number number) ds ≡ false → IsNew number ds
new_by [] number e = _
new_by (d ∷ ds) number e =
    let parts = or_parts (nat_eq d.number number) (list_any (λ x. nat_eq x.number number) ds) e in
    (differ d.number number parts.0, new_by ds number parts.1)

-- a number that a drive has is a known one
found : (p : Drive → Bool) (ds : List Drive) → list_any p ds ≡ true → is_some (find p ds) ≡ true
found p [] h = h
found p (d ∷ ds) h = elim (cases_Bool (p d)) [
  | inl e ↦ rw e refl
  | inr e ↦ rw e (found p ds (rw e at h))
]

-- where no drive has the number, none is put into a zone
stays : (ds : List Drive) (number zone : ℕ) → list_any (λ d. nat_eq d.number number) ds ≡ false → put_in_zone ds number zone ≡ ds
unfolding put_in_zone
stays [] number zone e = refl
stays (d ∷ ds) number zone e =
    let parts = or_parts (nat_eq d.number number) (list_any (λ x. nat_eq x.number number) ds) e in
    rw (parts.0, stays ds number zone parts.1) refl

-- ---- in the world

pub added : (old new : Server) (drive : ℕ) (key : List ℕ) (capacity : ℕ) → knows_drive old drive ≡ false
    → new ≡ record old { drives = add_drive old.drives (known_drive drive key capacity) }
    → Adds old drive key capacity new nothing
unfolding gives
added old new drive key capacity k f = λ w stored e. rw (e, k) (record {
  world = ap (λ s. with_server (and_drive w drive (made_drive drive key capacity stored)) s) (sym f);
  act = record { lines = refl; sends = refl };
})

-- ---- as the code has it

pub is_new_by : (old : List Drive) (drives : List Drive) (n m : ℕ) → false ≡ list_any (λ d. nat_eq d.number n) drives
    → drives ≡ old → n ≡ m → IsNew m old
is_new_by old drives n m k e f = new_by old m (rw (← f, ← e) (sym k))

pub added_by : (old core new : Server) (drives : List Drive) (n m drive : ℕ) (key : List ℕ) (capacity : ℕ) (act : Act)
    → false ≡ list_any (λ d. nat_eq d.number n) drives → drives ≡ old.drives → n ≡ drive → m ≡ drive → core ≡ old
    → new ≡ record core { drives = add_drive core.drives (known_drive m key capacity) } → act ≡ nothing
    → Adds old drive key capacity new act
added_by old core new drives n m drive key capacity act k e f g h i a =
    rw a (added old new drive key capacity (rw (← f, ← e) (sym k)) (rw (← g, ← h) i))

pub is_known_by : (core : List Drive) (drives : List Drive) (n m : ℕ) → true ≡ list_any (λ d. nat_eq d.number n) drives
    → drives ≡ core → n ≡ m → is_some (find (λ d. d.number == m) core) ≡ true
is_known_by core drives n m k e f = found (λ d. d.number == m) core (rw (← f, ← e) (sym k))

pub zoned_by : (old core new : Server) (n drive zone : ℕ) → core ≡ old → n ≡ drive
    → new ≡ record core { drives = put_in_zone core.drives n zone } → Does old (λ w. gives w [] (Zones drive zone)) new nothing
zoned_by old core new n drive zone e f h = zoned old new drive zone (rw (← f, ← e) h)

pub unzoned_by : (old : Server) (drives : List Drive) (n drive zone : ℕ) → false ≡ list_any (λ d. nat_eq d.number n) drives
    → drives ≡ old.drives → n ≡ drive → Does old (λ w. gives w [] (Zones drive zone)) old nothing
unzoned_by old drives n drive zone k e f =
    let same : put_in_zone old.drives drive zone ≡ old.drives = stays old.drives drive zone (rw (← f, ← e) (sym k)) in
    zoned old old drive zone (ap (λ (ds : List Drive). record old { drives = ds }) (sym same))
