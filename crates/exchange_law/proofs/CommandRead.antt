-- The nonce that a drive reads in a command's bytes, and that a refusing reply carries.
use Rattle.std.proofs.Common.{◌≡◌, ◌⊎◌, ◌==◌, ℕ, ◌%◌, ◌^◌, false, true≢false, List, length, Option, Some, None, Result, Ok, Err, refl, sym, ap, ◌∙◌, inl, inr}
use Rattle.std.specs.Prelude.{slice_range, nat_lt, nat_eq, not}
use Rattle.std.specs.Int.{w16, w32, w64, from_be_bytes}
use Rattle.osd_capability.specs.declared.layout.Capability.{Capability}
use Rattle.osd_capability.specs.declared.layout.CapErr.{CapErr}
use Rattle.osd_capability.specs.Layout as cap
use Rattle.osd_commands.specs.declared.actions.Action.{Action}
use Rattle.osd_commands.specs.declared.actions.Action.TheVariants.{Create, Read, Write, GetAttr, SetAttr, SetTag}
use Rattle.osd_commands.specs.declared.commands.Command.{Command}
use Rattle.osd_commands.specs.declared.commands.CommandErr.{CommandErr}
use Rattle.osd_commands.specs.declared.commands.CommandErr.TheVariants.{Short, Magic}
use Rattle.osd_commands.specs.declared.replies.Reply.{Reply}
use Rattle.osd_commands.specs.Actions.{action_of}
use Rattle.osd_commands.specs.Commands.{magic, spelling, stray, command_at, with_capability, unless_reserved, with_action, reading}
use Rattle.osd_commands.proofs.Passing.{if_ok}
use Rattle.osd_objects.specs.declared.lanes.LaneEntry.{LaneEntry}
use Rattle.osd_objects.specs.Store.{StoreState, object_at, lane_or_none}
use Rattle.osd_drive.specs.declared.verdict.Verdict.{Verdict}
use Rattle.osd_drive.specs.declared.verdict.Verdict.TheVariants as drive
use Rattle.osd_drive.specs.State.{DriveState}
use Rattle.osd_drive.specs.Table.{first_fault}
use Rattle.osd_drive.specs.Effects.{result_of, kept_reply, reply_by, reply_to_reading}
use Rattle.client_rules.specs.declared.limits.TheConstants.{PERFORMED}
use Rattle.world_history.specs.State.{DriveAt}
use Rattle.world_history.specs.Drives.{judges}
use Rattle.history_law.proofs.Carried.{unless_either}
use Rattle.history_law.proofs.Spelled.{nonce_part}
use Rattle.exchange_law.proofs.ReplyRead.{read_64}

-- ---- what is read

by_capability : (bytes : List ℕ) (a : Action) (r : Result Capability CapErr) (c : Command)
    → with_capability bytes a r ≡ Ok c → from_be_bytes w64 (slice_range bytes 40 48) ≡ c.nonce
unfolding command_at
by_capability bytes a (Err e) c is = absurd (cc is)
by_capability bytes a (Ok x) c is = ap (λ (y : Command). y.nonce) ((if_ok _ _ (command_at a x bytes) c is).1)

by_stray : (bytes : List ℕ) (a : Action) (o : Option ℕ) (c : Command) → unless_reserved bytes a o ≡ Ok c
    → from_be_bytes w64 (slice_range bytes 40 48) ≡ c.nonce
by_stray bytes a None c is = by_capability bytes a (cap.reading (slice_range bytes 64 160)) c is
by_stray bytes a (Some at) c is = absurd (cc is)

by_action : (bytes : List ℕ) (o : Option Action) (c : Command) → with_action bytes o ≡ Ok c
    → from_be_bytes w64 (slice_range bytes 40 48) ≡ c.nonce
by_action bytes None c is = absurd (cc is)
by_action bytes (Some a) c is = by_stray bytes a (stray bytes) c is

nonce_in : (bytes : List ℕ) (c : Command) → reading bytes ≡ Ok c
    → from_be_bytes w64 (slice_range bytes 40 48) ≡ c.nonce
unfolding reading
nonce_in bytes c is =
    let action : Option Action = action_of (from_be_bytes w16 (slice_range bytes 4 6)) in
    by_action bytes action c
    (unless_either (nat_lt (length bytes) 256) (not (nat_eq (from_be_bytes w32 (slice_range bytes 0 4)) magic)) Short
    Magic (with_action bytes action) c is)

pub nonce_read : (x c : Command) → reading (spelling x) ≡ Ok c → c.nonce ≡ x.nonce % 2 ^ 64
nonce_read x c is =
    sym (nonce_in (spelling x) c is) ∙ ap (from_be_bytes w64) (nonce_part x) ∙ read_64 x.nonce

-- ---- what is replied

-- a reply that refuses has the nonce of the command that was read, or none was read
abbrev Carries : Result Command CommandErr → Reply → Type 0
Carries r y = ((c : Command) × (r ≡ Ok c) × (y.nonce ≡ c.nonce)) ⊎ (y.nonce ≡ 0)

done : (y : Reply) (r : Result Command CommandErr) → y.verdict ≡ 0 → (y.verdict == PERFORMED) ≡ false → Carries r y
done y r none e = absurd (true≢false (sym (ap (λ (n : ℕ). n == PERFORMED) none) ∙ e))

performed : (a : Action) (s : StoreState) (c : Command) (r : Result Command CommandErr)
    → ((result_of a s c).verdict == PERFORMED) ≡ false → Carries r (result_of a s c)
performed Create s c r e = done (result_of Create s c) r refl e
performed Read s c r e = done (result_of Read s c) r refl e
performed Write s c r e = done (result_of Write s c) r refl e
performed GetAttr s c r e = done (result_of GetAttr s c) r refl e
performed SetAttr s c r e = done (result_of SetAttr s c) r refl e
performed SetTag s c r e = done (result_of SetTag s c) r refl e

kept : (c : Command) (l : Option LaneEntry) → ((kept_reply c l).verdict == PERFORMED) ≡ false
    → Carries (Ok c) (kept_reply c l)
kept c None e = inl (c, refl, refl)
kept c (Some l) e = done (kept_reply c (Some l)) (Ok c) refl e

by_verdict : (v : Verdict) (s : DriveState) (c : Command) → ((reply_by v s c).verdict == PERFORMED) ≡ false
    → Carries (Ok c) (reply_by v s c)
by_verdict drive.Perform s c e = performed c.action s.store c (Ok c) e
by_verdict drive.Again s c e = kept c (lane_or_none (object_at s.store c.object) c.capability.holder) e
by_verdict v s c e = inl (c, refl, refl)

by_reading : (a : DriveAt) (r : Result Command CommandErr)
    → ((reply_to_reading a.state a.clock r).verdict == PERFORMED) ≡ false
    → Carries r (reply_to_reading a.state a.clock r)
by_reading a (Ok c) e = by_verdict (first_fault a.state a.clock c) a.state c e
by_reading a (Err x) e = inr refl

pub reply_carries : (a : DriveAt) (r : Result Command CommandErr) → ((judges a r).reply.verdict == PERFORMED) ≡ false
    → ((c : Command) × (r ≡ Ok c) × ((judges a r).reply.nonce ≡ c.nonce)) ⊎ ((judges a r).reply.nonce ≡ 0)
unfolding judges
reply_carries a r e = by_reading a r e
