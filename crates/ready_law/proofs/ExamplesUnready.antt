-- The hand-made scenes in which one change keeps the call from being ready: the part of readiness that fails.
use Rattle.std.proofs.Common.{◌≡◌, ◌⊎◌, ℕ, zero, suc, true, false, true≢false, [], ◌∷◌, slice_get, Some, None, refl, sym, ap, subst, ◌∙◌, inl, inr, arith}
use Rattle.std.specs.Prelude.{option_map}
use Rattle.server_rules.specs.Files.{file_at}
use Rattle.server_rules.specs.Grants.{grant_of, asked, conflicts, overlaps}
use Rattle.server_rules.specs.Laws.{In}
use Rattle.stripe_plan.specs.Lost.{source_from, source, out_from, is_short, positions_out}
use Rattle.stripe_plan.specs.Touched.{stripes, own, touches, columns, columns_between}
use Rattle.stripe_plan.specs.Asks.{own_columns, changed, without, without_each, asks_each, asks_place, asks_stripe, asks}
use Rattle.client_rules.specs.Calls.{file_of}
use Rattle.client_rules.specs.Grants.{held_of}
use Rattle.client_rules.specs.Steps.{new_client}
use Rattle.osd_drive.specs.State.{new_drive}
use Rattle.world_history.specs.ClientNames.{CallOp, Read, Held, Starts}
use Rattle.world_history.specs.ServerNames.{File, Component, Grant}
use Rattle.world_history.specs.State.{DriveAt, ClientAt}
use Rattle.ready_law.specs.Ready.{Scene, IsReady, IsReadable, IsWritable, IsInTime, Yields, held_by, is_covered, opposed, touched, lost_of, lost_from, greatest_end, stands, is_lost}
use Rattle.ready_law.specs.Examples.{component, file_with, drive_where, client_with, scene_with, reading, apart, writes_alone, held_to_read, reader, granted, recalls, write, with_file, with_client, with_drives, caller, audit, request, ChangedAreUnready}

-- Of the caller and the file that are there some part of readiness fails.
part_fails : (s : Scene) (op : CallOp) (a : ClientAt) (f : File) → s.client 0 ≡ Some a
    → file_at s.server.files (file_of op) ≡ Some f → (P : ClientAt → File → Type 0)
    → ((r : IsReady s 0 op) → P r.caller r.file) → (P a f → ⊥) → IsReady s 0 op → ⊥
part_fails s op a f there found P part fails r =
    let its : r.caller ≡ a = cc (sym r.there ∙ there) in
    let same : r.file ≡ f = cc (sym r.found ∙ found) in
    fails (subst (λ (x : ClientAt). P x f) its (subst (λ (y : File). P r.caller y) same (part r)))

-- ---- the caller

-- the client isn't idle
caller_unready : (a : ClientAt) (P : ClientAt → Type 0) → ((r : IsReady (with_client 0 a) 0 write) → P r.caller) → (P a → ⊥)
    → IsReady (with_client 0 a) 0 write → ⊥
unfolding file_at
caller_unready a P part fails =
    part_fails (with_client 0 a) write a (granted (reading 1 0 ∷ [])) refl refl (λ x y. P x) part fails

stopped : IsReady (with_client 0 (record (reader 0) { stopped = true })) 0 write → ⊥
stopped = caller_unready (record (reader 0) { stopped = true }) (λ a. a.stopped ≡ false) (λ r. r.idle.alive) true≢false

busy : IsReady (with_client 0 (caller (record (new_client 0 1) { call = Some (record { op = write; phase = Starts }) }))) 0 write
    → ⊥
busy = caller_unready (caller (record (new_client 0 1) { call = Some (record { op = write; phase = Starts }) }))
    (λ a. a.state.call ≡ None) (λ r. r.idle.free) (λ e. absurd (cc e))

asking : IsReady (with_client 0 (caller (record (new_client 0 1) { outstanding = Some request }))) 0 write → ⊥
asking = caller_unready (caller (record (new_client 0 1) { outstanding = Some request }))
    (λ a. a.state.outstanding ≡ None) (λ r. r.idle.answered) (λ e. absurd (cc e))

-- it holds the grant that the server has of it
abbrev Same : ClientAt → File → Type 0
Same a f = option_map (λ (h : Held). h.number) (held_by a 0) ≡ option_map (λ (g : Grant). g.number) (grant_of f.kept.grants 0)

held : IsReady (with_client 0 (client_with (held_to_read ∷ []) 0)) 0 write → ⊥
unfolding file_at held_of
held = part_fails (with_client 0 (client_with (held_to_read ∷ []) 0)) write (client_with (held_to_read ∷ []) 0)
    (granted (reading 1 0 ∷ [])) refl refl Same (λ r. r.same) (λ e. absurd (cc e))

given : IsReady (with_file (granted (reading 1 0 ∷ record (reading 0 1) { number = 2 } ∷ []))) 0 write → ⊥
unfolding file_at held_of
given = part_fails (with_file (granted (reading 1 0 ∷ record (reading 0 1) { number = 2 } ∷ []))) write (reader 0)
    (granted (reading 1 0 ∷ record (reading 0 1) { number = 2 } ∷ [])) refl refl Same (λ r. r.same) (λ e. absurd (cc e))

-- ---- the reader

-- the reader's grant conflicts, and isn't given back
reader_unready : (s : Scene) → s.client 0 ≡ Some (reader 0) → file_at s.server.files 0 ≡ Some (granted (reading 1 0 ∷ []))
    → (Yields s 0 (reading 1 0) → ⊥) → IsReady s 0 write → ⊥
unfolding held_of asked conflicts overlaps
reader_unready s there found fails =
    part_fails s write (reader 0) (granted (reading 1 0 ∷ [])) there found
    (λ a f. (g : Grant) → In g (opposed s f.kept 0 (held_by a 0) write) → Yields s 0 g) (λ r. r.yielding)
    (λ y. fails (y (reading 1 0) (inl refl)))

mute : IsReady (with_client 1 (record (reader 1) { stopped = true })) 0 write → ⊥
unfolding file_at
mute = reader_unready (with_client 1 (record (reader 1) { stopped = true })) refl refl
    (λ y.
    let same : record (reader 1) { stopped = true } ≡ y.client = cc y.there in
    true≢false (ap (λ (a : ClientAt). a.stopped) same ∙ y.idle.alive))

returned : IsReady (with_client 1 (client_with [] 1)) 0 write → ⊥
unfolding file_at held_of
returned = reader_unready (with_client 1 (client_with [] 1)) refl refl
    (λ y.
    let same : client_with [] 1 ≡ y.client = cc y.there in
    absurd (cc (ap (λ (a : ClientAt). held_by a 0) same ∙ y.holds)))

expired : IsReady (record recalls { clock = 91 }) 0 write → ⊥
unfolding file_at
expired = reader_unready (record recalls { clock = 91 }) refl refl (λ y. true≢false y.unexpired)

-- ---- the file

-- one thing about the file is wrong
file_unready : (f : File) (P : ClientAt → File → Type 0) → f.kept.number ≡ 0
    → ((r : IsReady (with_file f) 0 write) → P r.caller r.file) → (P (reader 0) f → ⊥) → IsReady (with_file f) 0 write → ⊥
unfolding file_at
file_unready f P is part fails = part_fails (with_file f) write (reader 0) f refl (rw is refl) P part fails

job : IsReady (with_file (record (granted (reading 1 0 ∷ [])) { job = Some audit })) 0 write → ⊥
job = file_unready (record (granted (reading 1 0 ∷ [])) { job = Some audit }) (λ a f. f.job ≡ None) refl (λ r. r.quiet)
    (λ e. absurd (cc e))

spent : IsReady (with_file (record (granted (reading 1 0 ∷ [])) { spent = true })) 0 write → ⊥
unfolding held_of
spent = file_unready (record (granted (reading 1 0 ∷ [])) { spent = true })
    (λ a f. (is_covered (held_by a 0) write ≡ true) ⊎ (f.spent ≡ false)) refl (λ r. r.unspent)
    (λ e. elim e [ inl covered ↦ true≢false (sym covered) | inr not_spent ↦ true≢false not_spent ])

-- ---- the drives

-- the first drive keeps the call from being carried out
drive_unready : (becomes : DriveAt → DriveAt) → (becomes (drive_where false 0)).failed ≡ false
    → (IsInTime (with_drives becomes) (granted (reading 1 0 ∷ [])).kept 0 (becomes (drive_where false 0)) → ⊥)
    → IsReady (with_drives becomes) 0 write → ⊥
unfolding file_at
drive_unready becomes works fails =
    part_fails (with_drives becomes) write (reader 0) (granted (reading 1 0 ∷ [])) refl refl
    (λ a f. (k : ℕ) (at : Component) (d : DriveAt) → slice_get f.kept.components k ≡ Some at
    → is_lost (with_drives becomes) at ≡ false → (with_drives becomes).drive at.drive ≡ Some d
    → IsInTime (with_drives becomes) f.kept 0 d) (λ r. r.drives)
    (λ t. fails (t 0 (component 0 false) (becomes (drive_where false 0)) refl works refl))

crashed : IsReady (with_drives (λ d. record d { down = true })) 0 write → ⊥
crashed = drive_unready (λ d. record d { down = true }) refl (λ t. true≢false t.up)

late : IsReady (with_drives (λ d. record d { clock = 91 })) 0 write → ⊥
late = drive_unready (λ d. record d { clock = 91 }) refl (λ t. let l = t.lease in omega (arith, l))

refusing : IsReady (with_drives (λ d. record d { state = record d.state { least = 2 } })) 0 write → ⊥
refusing =
    drive_unready (λ d. record d { state = record d.state { least = 2 } }) refl
    (λ t. let l = t.format in omega (arith, l))

full : IsReady (with_drives (λ d. record d { state = new_drive d.state.number [] 0 })) 0 write → ⊥
unfolding file_at greatest_end asks asks_stripe asks_place asks_each without_each without changed own_columns touches own
    columns columns_between stripes
full =
    let s : Scene = with_drives (λ d. record d { state = new_drive d.state.number [] 0 }) in
    part_fails s write (reader 0) (granted (reading 1 0 ∷ [])) refl refl
    (λ a f. IsWritable s f.kept 0 (held_by a 0) write) (λ r. r.writes refl)
    (λ w.
    let l = w.room 0 (component 0 false) (record (drive_where false 0) { state = new_drive 0 [] 0 }) (0, inl refl, refl) refl
    refl refl in
    omega (arith, l))

-- ---- components

short : IsReady (record writes_alone { drive = λ d. Some (record (drive_where true d) { failed = true }) }) 0 write → ⊥
unfolding file_at stripes lost_from is_short positions_out out_from source source_from
short =
    let s : Scene = record writes_alone { drive = λ d. Some (record (drive_where true d) { failed = true }) } in
    part_fails s write (client_with [] 0) (granted []) refl refl
    (λ a f. (n : ℕ) → In n (touched f.kept write) → is_short f.kept.map (lost_of s f.kept) n ≡ false) (λ r. r.enough)
    (λ e. true≢false (e 0 (inl refl)))

missing : IsReady (scene_with (file_with apart 0 (component 0 true ∷ component 1 true ∷ []) []) true []) 0 (Read 0 0 1) → ⊥
unfolding file_at
missing =
    let f : File = file_with apart 0 (component 0 true ∷ component 1 true ∷ []) [] in
    let s : Scene = scene_with f true [] in
    part_fails s (Read 0 0 1) (client_with [] 0) f refl refl (λ a y. IsReadable s y.kept (held_by a 0) (Read 0 0 1))
    (λ r. r.reads refl) (λ r. none r.some.0 r.some.1)
  where
    none : (k : ℕ) → stands (slice_get (component 0 true ∷ component 1 true ∷ []) k) ≡ true → ⊥
    none zero e = true≢false (sym e)
    none (suc zero) e = true≢false (sym e)
    none (suc (suc k)) e = true≢false (sym e)

pub changed_are_unready : ChangedAreUnready
unfolding file_at
changed_are_unready = record {
  guessed = λ r. true≢false (sym r.unguessed);
  down = λ r. true≢false r.up;
  absent = λ r. absurd (cc r.there);
  stopped = stopped;
  busy = busy;
  asking = asking;
  range = λ r. true≢false r.range;
  file = λ r. absurd (cc r.found);
  job = job;
  held = held;
  given = given;
  mute = mute;
  returned = returned;
  expired = expired;
  crashed = crashed;
  late = late;
  refusing = refusing;
  full = full;
  spent = spent;
  short = short;
  missing = missing;
}
