-- What a line does to the drive that lines tell of.
use Rattle.std.proofs.Common.{◌++◌, List, [], ap, sym, ◌∙◌, inl, inr, ℕ, ◌∷◌, ◌≡◌, Bool, None, Option, Some, false, if◌then◌else◌, option_map, refl, true}
use Rattle.std.proofs.lemmas.Bool.{cases_eq, ne_eqb}
use Rattle.std.proofs.lemmas.List.Sums.{fold-append}
use Rattle.osd_commands.specs.Commands.{reading}
use Rattle.scenario_text.specs.declared.line.Line.{Line}
use Rattle.world_history.specs.ReadDrives.{DriveSeen, drive_after, drive_after_line, drive_seen, sees_drive, hears_bytes, hears_sent}
use Rattle.world_history.specs.State.{DriveAt}
use Rattle.world_history.specs.declared.messages.Sent.{Sent}
use Rattle.world_history.specs.Reading.{is_drive}
use Rattle.world_history.specs.Drives.{judges, is_deaf}
use Rattle.scenario_text.specs.declared.line.Party.{Party}
use Rattle.scenario_text.specs.declared.line.Party.TheVariants as party

pub drive_line : (before : List Line) (l : Line) (d : ℕ)
    → drive_after (before ++ l ∷ []) d ≡ drive_after_line d (drive_seen d before) l
drive_line before l d = ap (λ (x : DriveSeen). x.drive) (fold-append (sees_drive d) _ before (l ∷ []))

pub same_drive : (d : ℕ) (p : Party) → is_drive d p ≡ true → p ≡ party.Drive d
same_drive d party.Server e = absurd (cc e)
same_drive d (party.Client c) e = absurd (cc e)
same_drive d (party.Drive k) e = elim (cases_eq k d) [
  | inl same ↦ ap (λ (x : ℕ). party.Drive x) same
  | inr other ↦ absurd (cc (sym e ∙ ne_eqb k d other))
]

-- what was sent to a deaf drive changes nothing there
pub unheard : (d : ℕ) (o : Option DriveAt) (m : Sent)
    → ((a : DriveAt) → m.to ≡ party.Drive d → o ≡ Some a → is_deaf a ≡ true) → hears_sent d o (Some m) ≡ o
unheard d o m deaf = either (is_drive d m.to) (λ e. same_drive d m.to e) o deaf
  where
    either : (b : Bool) → (b ≡ true → m.to ≡ party.Drive d) → (p : Option DriveAt)
        → ((a : DriveAt) → m.to ≡ party.Drive d → p ≡ Some a → is_deaf a ≡ true)
        → (if b then option_map (hears_bytes m.bytes) p else p) ≡ p
    either true to None deaf = refl
    either true to (Some a) deaf =
        ap (λ (f : Bool). Some (if f then a else (judges a (reading m.bytes)).drive)) (deaf a (to refl) refl)
    either false to p deaf = refl
