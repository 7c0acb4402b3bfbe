-- At each moment of a history of a scenario's text the parties have numbers that a line can name, and drives name tags
-- that it can.
use Rattle.std.proofs.Common.{◌≡◌, ◌<◌, ℕ, Bool, true, false, List, Some, Result, Ok, Err, inl, inr, sym, subst, ◌∙◌}
use Rattle.std.proofs.lemmas.Bool.{cases_eq}
use Rattle.osd_commands.specs.declared.commands.Command.{Command}
use Rattle.osd_commands.specs.declared.commands.CommandErr.{CommandErr}
use Rattle.osd_objects.proofs.Entries.{lookup_beside, lookup_set_beside}
use Rattle.osd_drive.specs.declared.verdict.Verdict.{Verdict}
use Rattle.osd_drive.specs.declared.verdict.Verdict.TheVariants as verdict
use Rattle.osd_drive.specs.Table.{first_fault}
use Rattle.scenario_text.specs.declared.names.TheConstants.{DRIVES}
use Rattle.scenario_text.specs.declared.line.Line.{Line}
use Rattle.scenario_text.specs.Spelling.{Fits}
use Rattle.world_history.specs.State.{World, DriveAt, at_number, with_number, and_number}
use Rattle.world_history.specs.Told.{told_verdict}
use Rattle.world_history.specs.Drives.{judges, made_drive}
use Rattle.world_history.specs.Moves.{Act, Action, Opens, acts}
use Rattle.world_history.specs.Sending.{Move, move}
use Rattle.world_history.specs.History.{OneEventMore}
use Rattle.history_law.specs.Moves.{drive_event}
use Rattle.history_law.proofs.Moves.{each_act}
use Rattle.history_law.specs.BookMoments.{with_event, lines_in}
use Rattle.exchange_law.specs.Text.{AreOfText}
use Rattle.exchange_law.proofs.CountGrowing.{text_front, text_behind}
use Rattle.exchange_law.proofs.SlotMoments.{always}
use Rattle.name_law.specs.DriveNames.{PartiesAreNamed, NamesTag, VerdictsNameTags}
use Rattle.name_law.proofs.DriveReplies.{clients_named_at}
use Rattle.name_law.proofs.DriveTags.{TagsAreLow, NamesLow, fault_low}
use Rattle.name_law.proofs.DriveWorlds.{tags_low}

-- ---- numbers of drives

abbrev AllNumbered : List (ℕ × DriveAt) → Type 0
AllNumbered xs = (d : ℕ) (a : DriveAt) → at_number xs d ≡ Some a → d < DRIVES

put_numbered : (xs : List (ℕ × DriveAt)) (k : ℕ) (a b : DriveAt) → at_number xs k ≡ Some a → AllNumbered xs
    → AllNumbered (with_number xs k b)
put_numbered xs k a b there all d x e = elim (cases_eq d k) [
  | inl same ↦ subst (λ (n : ℕ). n < DRIVES) (sym same) (all k a there)
  | inr other ↦ all d x (sym (lookup_set_beside xs k d b other) ∙ e)
]

more_numbered : (xs : List (ℕ × DriveAt)) (k : ℕ) (b : DriveAt) → AllNumbered xs → k < DRIVES
    → AllNumbered (and_number xs k b)
more_numbered xs k b all low d x e = elim (cases_eq d k) [
  | inl same ↦ subst (λ (n : ℕ). n < DRIVES) (sym same) low
  | inr other ↦ all d x (sym (lookup_beside xs k d b other) ∙ e)
]

event_numbers : (d : ℕ) (key : List ℕ) (capacity : ℕ) (stored : Bool) → Fits (drive_event d key capacity stored)
    → d < DRIVES
event_numbers d key capacity true fits = fits.1.0
event_numbers d key capacity false fits = fits.1.0

made_numbered : (action : Action) (ls : List Line) → AreOfText (with_event action ls) → (d : ℕ) (key : List ℕ)
    (capacity : ℕ) (stored : Bool) → action ≡ Opens (drive_event d key capacity stored) → d < DRIVES
made_numbered action ls text d key capacity stored is =
    let own = subst (λ (x : Action). AreOfText (with_event x ls)) is text in
    event_numbers d key capacity stored own.0

move_numbered : (w : World) (m : Move) (ls : List Line) → AreOfText (with_event m.action ls) → AllNumbered w.drives
    → AllNumbered (acts w m.chosen m.action).world.drives
move_numbered w m ls text all = each_act w m.chosen (λ (a : Act). AllNumbered a.world.drives) m.action (record {
  rests = λ ms said told quiet. all;
  refused = λ c a found op is e why. all;
  clock = λ time. all;
  serves = λ ms said i is. all;
  goes = λ ms said c a found i is. all;
  comes = λ c is. all;
  stops = λ c a found. all;
  judged = λ ms said d a found hears n number. put_numbered w.drives d a _ found all;
  injected = λ d bytes is a found. put_numbered w.drives d a _ found all;
  turns = λ d a b found t. put_numbered w.drives d a b found all;
  known = λ d key capacity stored is knows.
      more_numbered w.drives d (made_drive d key capacity stored) all
      (made_numbered m.action ls text d key capacity stored is);
  adds = λ d key capacity stored is knows.
      more_numbered w.drives d (made_drive d key capacity stored) all
      (made_numbered m.action ls text d key capacity stored is);
})

pub parties_named : OneEventMore → PartiesAreNamed
parties_named more w h k text = record {
  drives = always (λ w h. AreOfText h → AllNumbered w.drives) (record {
    starts = λ text d a e. absurd (cc e);
    moves =
        λ v g j m due x text.
        move_numbered v m (move v m).lines (text_behind g (lines_in v m) text)
        (x (text_front g (lines_in v m) text));
  }) more w h k text;
  clients = clients_named_at more w h k text;
}

-- ---- verdicts

told_tag : (v : Verdict) → NamesLow v → NamesTag (told_verdict v)
told_tag (verdict.Tag current) low = low
told_tag verdict.Perform low = tt
told_tag verdict.OldFormat low = tt
told_tag verdict.NoKey low = tt
told_tag verdict.CheckValue low = tt
told_tag verdict.Expired low = tt
told_tag verdict.Rights low = tt
told_tag verdict.WrongObject low = tt
told_tag verdict.Range low = tt
told_tag verdict.NoObject low = tt
told_tag verdict.Exists low = tt
told_tag verdict.Limit low = tt
told_tag (verdict.NoSpace free) low = tt
told_tag verdict.LaneFull low = tt
told_tag (verdict.Stale last) low = tt
told_tag verdict.AttrFull low = tt
told_tag verdict.Again low = tt

judged_tag : (a : DriveAt) (r : Result Command CommandErr) → TagsAreLow a.state.store → NamesTag (judges a r).verdict
unfolding judges
judged_tag a (Ok c) low = told_tag (first_fault a.state a.clock c) (fault_low a.state a.clock c low)
judged_tag a (Err e) low = tt

pub verdicts_name : OneEventMore → VerdictsNameTags
verdicts_name more w h k text d a found r = judged_tag a r (tags_low more w h k text d a found)
