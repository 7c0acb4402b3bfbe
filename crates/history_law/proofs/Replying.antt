-- What a line tells of a drive that judges bytes.
use Rattle.std.proofs.Common.{◌≡◌, ℕ, List, Bool, false, Option, Some, None, Result, Ok, Err, option_map, refl, sym, ap, subst, ◌∙◌, inl, inr, if◌then◌else◌}
use Rattle.std.proofs.lemmas.Bool.{eq-eqb, ne_eqb}
use Rattle.osd_commands.specs.declared.actions.Action.TheVariants.{Read}
use Rattle.osd_commands.specs.declared.commands.Command.{Command}
use Rattle.osd_commands.specs.declared.commands.CommandErr.{CommandErr}
use Rattle.osd_commands.specs.Commands.{reading}
use Rattle.osd_objects.specs.declared.lanes.LaneEntry.{LaneEntry}
use Rattle.osd_objects.specs.Store.{object_at, lane_or_none}
use Rattle.osd_drive.specs.declared.verdict.Verdict.{Verdict}
use Rattle.osd_drive.specs.declared.verdict.Verdict.TheVariants as drive
use Rattle.osd_drive.specs.Table.{first_fault}
use Rattle.osd_drive.specs.Effects.{kept_reply, reply_by, reply_to_reading}
use Rattle.scenario_text.specs.declared.line.Verdict.{Verdict as ToldVerdict}
use Rattle.scenario_text.specs.declared.line.Verdict.TheVariants as told
use Rattle.scenario_text.specs.declared.line.Party.{Party}
use Rattle.scenario_text.specs.declared.line.Party.TheVariants as party
use Rattle.world_history.specs.declared.messages.Sent.{Sent}
use Rattle.world_history.specs.State.{DriveAt}
use Rattle.world_history.specs.Told.{told_verdict}
use Rattle.world_history.specs.Drives.{verdict_on, judges, is_deaf}
use Rattle.world_history.specs.Reading.{is_drive}
use Rattle.world_history.specs.ReadDrives.{hears_bytes, hears_sent, where_it_is}
use Rattle.history_law.specs.Touching.{TouchesItsOwn}
use Rattle.history_law.specs.Judging.{TellsItsOwn}
use Rattle.history_law.proofs.Touching.{touches_its_own}

-- ---- which drive takes a message

pub at_it : (d k : ℕ) (a : Option DriveAt) (m : Sent) → m.to ≡ party.Drive k → k ≡ d
    → hears_sent d a (Some m) ≡ option_map (hears_bytes m.bytes) a
at_it d k a m to same =
    ap (λ (t : Party). if is_drive d t then option_map (hears_bytes m.bytes) a else a) to
    ∙ ap (λ (b : Bool). if b then option_map (hears_bytes m.bytes) a else a) (eq-eqb k d same)

pub at_another : (d k : ℕ) (a : Option DriveAt) (m : Sent) → m.to ≡ party.Drive k → (k ≡ d → ⊥)
    → hears_sent d a (Some m) ≡ a
at_another d k a m to other =
    ap (λ (t : Party). if is_drive d t then option_map (hears_bytes m.bytes) a else a) to
    ∙ ap (λ (b : Bool). if b then option_map (hears_bytes m.bytes) a else a) (ne_eqb k d other)

pub at_server : (d : ℕ) (a : Option DriveAt) (m : Sent) → m.to ≡ party.Server → hears_sent d a (Some m) ≡ a
at_server d a m to = ap (λ (t : Party). if is_drive d t then option_map (hears_bytes m.bytes) a else a) to

pub at_client : (d c : ℕ) (a : Option DriveAt) (m : Sent) → m.to ≡ party.Client c → hears_sent d a (Some m) ≡ a
at_client d c a m to = ap (λ (t : Party). if is_drive d t then option_map (hears_bytes m.bytes) a else a) to

-- ---- a change of one drive

pub changes_it : (k d : ℕ) (f : DriveAt → DriveAt) (a : Option DriveAt) → k ≡ d → where_it_is k d f a ≡ option_map f a
changes_it k d f a same = ap (λ (b : Bool). if b then option_map f a else a) (eq-eqb k d same)

pub changes_another : (k d : ℕ) (f : DriveAt → DriveAt) (a : Option DriveAt) → (k ≡ d → ⊥) → where_it_is k d f a ≡ a
changes_another k d f a other = ap (λ (b : Bool). if b then option_map f a else a) (ne_eqb k d other)

-- ---- what becomes of it

-- a drive that hears judges what comes to it
pub heard : (a : DriveAt) (bytes : List ℕ) → is_deaf a ≡ false → hears_bytes bytes a ≡ (judges a (reading bytes)).drive
heard a bytes hears = ap (λ (b : Bool). if b then a else (judges a (reading bytes)).drive) hears

-- it tells that it performs where it finds no fault
told_clear : (v : Verdict) → told.Perform ≡ told_verdict v → v ≡ drive.Perform
told_clear drive.Perform is = refl
told_clear v is = absurd (cc is)

-- a command that it performs
pub record IsPerformed (a : DriveAt) (bytes : List ℕ) : Type 0 where
  pub command : Command
  pub read : reading bytes ≡ Ok command
  pub clear : first_fault a.state a.clock command ≡ drive.Perform

performed_in : (a : DriveAt) (bytes : List ℕ) (r : Result Command CommandErr) → reading bytes ≡ r
    → told.Perform ≡ verdict_on a.state a.clock r → IsPerformed a bytes
performed_in a bytes (Ok c) read is = record {
  command = c;
  read = read;
  clear = told_clear (first_fault a.state a.clock c) is;
}
performed_in a bytes (Err e) read is = absurd (cc is)

pub is_performed : (a : DriveAt) (bytes : List ℕ) → told.Perform ≡ verdict_on a.state a.clock (reading bytes)
    → IsPerformed a bytes
is_performed a bytes is = performed_in a bytes (reading bytes) refl is

-- a command that is read is clear where the drive performs it
pub is_clear : (a : DriveAt) (bytes : List ℕ) (c : Command) → reading bytes ≡ Ok c
    → told.Perform ≡ verdict_on a.state a.clock (reading bytes) → first_fault a.state a.clock c ≡ drive.Perform
is_clear a bytes c read is =
    told_clear (first_fault a.state a.clock c)
    (is ∙ ap (λ (r : Result Command CommandErr). verdict_on a.state a.clock r) read)

pub touches : (a : DriveAt) (bytes : List ℕ) (v : ToldVerdict) → v ≡ verdict_on a.state a.clock (reading bytes)
    → v ≡ told.Perform → (c : Command) → reading bytes ≡ Ok c → TouchesItsOwn a.state c
touches a bytes v verdict performs c read =
    touches_its_own a.state a.clock bytes c read (is_clear a bytes c read (sym performs ∙ verdict))

-- ---- what it tells

kept_tells : (a : DriveAt) (c : Command) (l : Option LaneEntry) → TellsItsOwn a c (kept_reply c l)
kept_tells a c None = inl refl
kept_tells a c (Some l) = inl refl

tells_by : (v : Verdict) (a : DriveAt) (bytes : List ℕ) (c : Command) → reading bytes ≡ Ok c → c.action ≡ Read
    → first_fault a.state a.clock c ≡ v → TellsItsOwn a c (reply_by v a.state c)
tells_by drive.Perform a bytes c read reads clear =
    let t : TouchesItsOwn a.state c = touches_its_own a.state a.clock bytes c read clear in
    inr (t.object, t.tells reads, t.inside reads)
tells_by drive.Again a bytes c read reads clear =
    kept_tells a c (lane_or_none (object_at a.state.store c.object) c.capability.holder)
tells_by v a bytes c read reads clear = inl refl

pub reply_tells : (a : DriveAt) (bytes : List ℕ) (c : Command) → reading bytes ≡ Ok c → c.action ≡ Read
    → TellsItsOwn a c (judges a (reading bytes)).reply
unfolding judges
reply_tells a bytes c read reads =
    subst (λ (r : Result Command CommandErr). TellsItsOwn a c (reply_to_reading a.state a.clock r)) (sym read)
    (tells_by (first_fault a.state a.clock c) a bytes c read reads refl)
