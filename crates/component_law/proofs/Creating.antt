-- Where a reply counts as the answer to a CREATE of the server, the object is there.
use Rattle.std.proofs.Common.{◌≡◌, ◌⊎◌, ◌==◌, ◌&&◌, ◌||◌, ◌+◌, ℕ, Bool, true, false, nat_eq, is_some, Option, Some, None, option_map, refl, ap, subst, ◌∙◌, arith, inl, inr}
use Rattle.std.proofs.lemmas.Bool.Decides.{nat_tests}
use Rattle.std.proofs.lemmas.Bool.{and_parts, or_right}
use Rattle.osd_lists.proofs.Tests.{or_none, same_number}
use Rattle.osd_commands.specs.declared.actions.Action.{Action}
use Rattle.osd_commands.specs.declared.actions.Action.TheVariants.{Create}
use Rattle.osd_commands.specs.declared.commands.Command.{Command}
use Rattle.osd_commands.specs.declared.replies.Reply.{Reply}
use Rattle.osd_objects.specs.declared.lanes.LaneEntry.{LaneEntry}
use Rattle.osd_objects.specs.declared.object.StoredObject.{StoredObject}
use Rattle.osd_objects.specs.Objects.{state_of, created}
use Rattle.osd_objects.specs.Store.{object_at, lane_or_none}
use Rattle.osd_objects.proofs.Entries.{lookup_inserted}
use Rattle.osd_drive.specs.declared.verdict.Verdict.{Verdict}
use Rattle.osd_drive.specs.declared.verdict.Verdict.TheVariants as verdict
use Rattle.osd_drive.specs.State.{DriveState}
use Rattle.osd_drive.specs.Table.{all_rows, first_fault, is_create as makes, is_mutating, of_lane}
use Rattle.osd_drive.specs.Effects.{lane_for, effect_of, reply_by, state_by}
use Rattle.server_rules.specs.Replies.{is_create, is_set_tag, is_done}
use Rattle.world_history.specs.ServerNames.{Awaited, Kept}
use Rattle.world_history.specs.State.{DriveAt}
use Rattle.history_law.proofs.HistoryTelling.{again_row, first_applies}
use Rattle.history_law.specs.Reaching.{has_tag, has_reached}
use Rattle.component_law.proofs.There.{zero_below}

-- ---- what a reply must be to count

-- to a CREATE: performed, or that the object is there already
pub counts : (f : Kept) (a : Awaited) (r : Reply) → a.command.action ≡ Create → is_done f a r ≡ true
    → (r.verdict ≡ 0) ⊎ (r.verdict ≡ 8)
unfolding is_done
counts f a r is e =
    by_tests (r.verdict == 0) (r.verdict == 8) refl refl
    (subst (λ (x : Action). ((r.verdict == 0) || ((is_create x && (r.verdict == 8))
    || (is_set_tag x && ((r.verdict == 9) && (r.detail == f.tag + 1))))) ≡ true) is e)
  where
    by_tests : (p q : Bool) → (r.verdict == 0) ≡ p → (r.verdict == 8) ≡ q → (p || ((true && q) || false)) ≡ true
        → (r.verdict ≡ 0) ⊎ (r.verdict ≡ 8)
    by_tests true q x y z = inl (same_number r.verdict 0 x)
    by_tests false true x y z = inr (same_number r.verdict 8 y)
    by_tests false false x y z = absurd (cc z)

-- ---- the row that finds the object

abbrev is_exists : Verdict → Bool
is_exists verdict.Exists = true
is_exists v = false

exists_row : (d : DriveState) (now : ℕ) (c : Command) → first_fault d now c ≡ verdict.Exists
    → (makes c.action && is_some (option_map state_of (object_at d.store c.object))) ≡ true
unfolding first_fault
exists_row d now c e = or_none _ (first_applies is_exists (all_rows d now c) refl (ap is_exists e))

-- ---- the drive behind a reply

there_now : (a : DriveAt) (object : ℕ) (x : StoredObject) → object_at a.state.store object ≡ Some x
    → has_reached object 0 (Some a) ≡ true
there_now a object x e = or_right a.failed _ (ap (has_tag 0) e ∙ zero_below x.tag)

by_found : (a : DriveAt) (object : ℕ) (o : Option StoredObject) → object_at a.state.store object ≡ o
    → is_some (option_map state_of o) ≡ true → has_reached object 0 (Some a) ≡ true
by_found a object None there e = absurd (cc e)
by_found a object (Some x) there e = there_now a object x there

by_lane : (a : DriveAt) (object holder nonce : ℕ) (o : Option StoredObject) → object_at a.state.store object ≡ o
    → of_lane (λ (l : LaneEntry). nat_eq l.nonce nonce) (lane_or_none o holder) ≡ true
    → has_reached object 0 (Some a) ≡ true
by_lane a object holder nonce None there e = absurd (cc e)
by_lane a object holder nonce (Some x) there e = there_now a object x there

-- another verdict is neither
neither : (n : ℕ) → nat_eq n 0 ≡ false → nat_eq n 8 ≡ false → ((n ≡ 0) ⊎ (n ≡ 8)) → ⊥
neither n none eight (inl e) = grind (arith, none, e, nat_tests)
neither n none eight (inr e) = grind (arith, eight, e, nat_tests)

-- behind a CREATE that it answers so
pub made_behind : (a : DriveAt) (c : Command) (v : Verdict) → first_fault a.state a.clock c ≡ v → c.action ≡ Create
    → ((reply_by v a.state c).verdict ≡ 0) ⊎ ((reply_by v a.state c).verdict ≡ 8)
    → has_reached c.object 0 (Some (record a { state = state_by v a.state c })) ≡ true
made_behind a c verdict.Perform clear is told =
    let made : StoredObject = created c.capability.tag c.payload (lane_for c 0) in
    there_now (record a { state = state_by verdict.Perform a.state c }) c.object made
    (ap (λ (x : Action). object_at (effect_of x a.state.store c) c.object) is
    ∙ lookup_inserted a.state.store.objects c.object made)
made_behind a c verdict.Again clear is told =
    by_lane (record a { state = a.state }) c.object c.capability.holder c.nonce (object_at a.state.store c.object) refl
    (and_parts (is_mutating c.action) _ (again_row a.state a.clock c clear)).1
made_behind a c verdict.Exists clear is told =
    by_found (record a { state = a.state }) c.object (object_at a.state.store c.object) refl
    (and_parts (makes c.action) _ (exists_row a.state a.clock c clear)).1
made_behind a c verdict.OldFormat clear is told = absurd (neither 17 refl refl told)
made_behind a c verdict.NoKey clear is told = absurd (neither 1 refl refl told)
made_behind a c verdict.CheckValue clear is told = absurd (neither 2 refl refl told)
made_behind a c verdict.Expired clear is told = absurd (neither 3 refl refl told)
made_behind a c verdict.Rights clear is told = absurd (neither 4 refl refl told)
made_behind a c verdict.WrongObject clear is told = absurd (neither 5 refl refl told)
made_behind a c verdict.Range clear is told = absurd (neither 6 refl refl told)
made_behind a c verdict.NoObject clear is told = absurd (neither 7 refl refl told)
made_behind a c (verdict.Tag t) clear is told = absurd (neither 9 refl refl told)
made_behind a c verdict.Limit clear is told = absurd (neither 10 refl refl told)
made_behind a c (verdict.NoSpace n) clear is told = absurd (neither 11 refl refl told)
made_behind a c verdict.LaneFull clear is told = absurd (neither 12 refl refl told)
made_behind a c (verdict.Stale n) clear is told = absurd (neither 13 refl refl told)
made_behind a c verdict.AttrFull clear is told = absurd (neither 14 refl refl told)
