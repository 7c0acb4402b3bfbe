-- The verdict that a reply carries is the one that the drive gave.
use Rattle.std.proofs.Common.{◌≡◌, ◌==◌, ℕ, ◌%◌, ◌<◌, ◌^◌, false, true≢false, Option, Some, None, Result, Ok, Err, refl, sym, ap, ◌∙◌, arith}
use Rattle.osd_commands.specs.declared.actions.Action.{Action}
use Rattle.osd_commands.specs.declared.actions.Action.TheVariants.{Create, Read, Write, GetAttr, SetAttr, SetTag}
use Rattle.osd_commands.specs.declared.commands.Command.{Command}
use Rattle.osd_commands.specs.declared.commands.CommandErr.{CommandErr}
use Rattle.osd_commands.specs.declared.replies.Reply.{Reply}
use Rattle.osd_objects.specs.declared.lanes.LaneEntry.{LaneEntry}
use Rattle.osd_objects.specs.Store.{StoreState, object_at, lane_or_none}
use Rattle.osd_drive.specs.declared.verdict.Verdict.{Verdict}
use Rattle.osd_drive.specs.declared.verdict.Verdict.TheVariants as drive
use Rattle.osd_drive.specs.State.{DriveState}
use Rattle.osd_drive.specs.Table.{first_fault}
use Rattle.osd_drive.specs.Effects.{verdict_number, detail_of, result_of, refused_reply, kept_reply, reply_by, reply_to_reading}
use Rattle.client_rules.specs.declared.limits.TheConstants.{PERFORMED}
use Rattle.scenario_text.specs.declared.line.Verdict.{Verdict as ToldVerdict}
use Rattle.scenario_text.specs.declared.line.Verdict.TheVariants as told
use Rattle.world_history.specs.State.{DriveAt}
use Rattle.world_history.specs.Told.{told_verdict, verdict_with}
use Rattle.world_history.specs.Drives.{verdict_on, judges}
use Rattle.exchange_law.specs.Judged.{carried}
use Rattle.exchange_law.proofs.ReplyRead.{ReadsAs}

-- a reply that says anything else than that the command was performed says the drive's verdict
pub record Agrees (r : Reply) (v : ToldVerdict) : Type 0 where
  pub low : r.verdict < 2 ^ 16
  pub same : (r.verdict == PERFORMED) ≡ false → verdict_with r.verdict (r.detail % 2 ^ 64) ≡ carried v
  pub refuses : (r.verdict == PERFORMED) ≡ false → v ≡ told.Perform → ⊥

done : (r : Reply) (v : ToldVerdict) → r.verdict ≡ 0 → Agrees r v
done r v none = record {
  low = omega (arith, none);
  same = λ e. absurd (true≢false (sym (ap (λ (n : ℕ). n == PERFORMED) none) ∙ e));
  refuses = λ e. absurd (true≢false (sym (ap (λ (n : ℕ). n == PERFORMED) none) ∙ e));
}

performed : (a : Action) (s : StoreState) (c : Command) (v : ToldVerdict) → Agrees (result_of a s c) v
performed Create s c v = done (result_of Create s c) v refl
performed Read s c v = done (result_of Read s c) v refl
performed Write s c v = done (result_of Write s c) v refl
performed GetAttr s c v = done (result_of GetAttr s c) v refl
performed SetAttr s c v = done (result_of SetAttr s c) v refl
performed SetTag s c v = done (result_of SetTag s c) v refl

low_number : (v : Verdict) → verdict_number v < 65536
low_number drive.Perform = omega arith
low_number drive.NoKey = omega arith
low_number drive.CheckValue = omega arith
low_number drive.Expired = omega arith
low_number drive.Rights = omega arith
low_number drive.WrongObject = omega arith
low_number drive.Range = omega arith
low_number drive.NoObject = omega arith
low_number drive.Exists = omega arith
low_number (drive.Tag current) = omega arith
low_number drive.Limit = omega arith
low_number (drive.NoSpace free) = omega arith
low_number drive.LaneFull = omega arith
low_number (drive.Stale last) = omega arith
low_number drive.AttrFull = omega arith
low_number drive.Again = omega arith
low_number drive.OldFormat = omega arith

-- what is told of a verdict's number and detail
told_again : (v : Verdict) → verdict_with (verdict_number v) (detail_of v % 2 ^ 64) ≡ carried (told_verdict v)
unfolding verdict_with
told_again drive.Perform = refl
told_again drive.NoKey = refl
told_again drive.CheckValue = refl
told_again drive.Expired = refl
told_again drive.Rights = refl
told_again drive.WrongObject = refl
told_again drive.Range = refl
told_again drive.NoObject = refl
told_again drive.Exists = refl
told_again (drive.Tag current) = refl
told_again drive.Limit = refl
told_again (drive.NoSpace free) = refl
told_again drive.LaneFull = refl
told_again (drive.Stale last) = refl
told_again drive.AttrFull = refl
told_again drive.Again = refl
told_again drive.OldFormat = refl

performs : (v : Verdict) → told_verdict v ≡ told.Perform → verdict_number v ≡ 0
performs drive.Perform e = refl
performs v e = absurd (cc e)

refused : (c : Command) (v : Verdict) → Agrees (refused_reply c v) (told_verdict v)
refused c v = record {
  low = low_number v;
  same = λ e. told_again v;
  refuses =
      λ e is. absurd (true≢false (sym (ap (λ (n : ℕ). n == PERFORMED) (performs v is)) ∙ e));
}

kept : (c : Command) (l : Option LaneEntry) → Agrees (kept_reply c l) (told_verdict drive.Again)
kept c None = refused c drive.Again
kept c (Some l) = done (kept_reply c (Some l)) _ refl

by_verdict : (v : Verdict) (s : DriveState) (c : Command) → Agrees (reply_by v s c) (told_verdict v)
by_verdict drive.Perform s c = performed c.action s.store c told.Perform
by_verdict drive.Again s c = kept c (lane_or_none (object_at s.store c.object) c.capability.holder)
by_verdict v s c = refused c v

format_told : verdict_with 16 (0 % 2 ^ 64) ≡ carried told.Format
unfolding verdict_with
format_told = refl

by_reading : (a : DriveAt) (r : Result Command CommandErr)
    → Agrees (reply_to_reading a.state a.clock r) (verdict_on a.state a.clock r)
by_reading a (Ok c) = by_verdict (first_fault a.state a.clock c) a.state c
by_reading a (Err e) = record { low = omega arith; same = λ e. format_told; refuses = λ e is. absurd (cc is) }

pub judged_agrees : (a : DriveAt) (r : Result Command CommandErr) → Agrees (judges a r).reply (judges a r).verdict
unfolding judges
judged_agrees a r = by_reading a r

-- so does what is read of it
pub read_agrees : (r read : Reply) (v : ToldVerdict) → Agrees r v → ReadsAs r read → (read.verdict == PERFORMED) ≡ false
    → (verdict_with read.verdict read.detail ≡ carried v) × (v ≡ told.Perform → ⊥)
read_agrees r read v a same e =
    let other : (r.verdict == PERFORMED) ≡ false = ap (λ (n : ℕ). n == PERFORMED) (sym same.verdict) ∙ e in (
      ap (λ (n : ℕ). verdict_with n read.detail) same.verdict
          ∙ ap (λ (n : ℕ). verdict_with r.verdict n) same.detail ∙ a.same other,
      a.refuses other,
    )
