-- Where a reply counts as the answer to a SET TAG of the server, the tag was reached.
use Rattle.std.proofs.Common.{◌≡◌, ◌⊎◌, ◌==◌, ◌&&◌, ◌||◌, ℕ, ◌+◌, ◌≤◌, ◌<◌, ◌^◌, Bool, true, false, nat_eq, nat_le, Option, Some, None, option_map, refl, ap, subst, ◌∙◌, arith, inl, inr}
use Rattle.std.proofs.lemmas.Bool.Decides.{nat_tests}
use Rattle.osd_commands.specs.declared.actions.Action.{Action}
use Rattle.osd_commands.specs.declared.actions.Action.TheVariants.{Create, Read, Write, GetAttr, SetAttr, SetTag}
use Rattle.osd_commands.specs.declared.commands.Command.{Command}
use Rattle.osd_commands.specs.declared.replies.Reply.{Reply}
use Rattle.osd_objects.specs.declared.lanes.LaneEntry.{LaneEntry}
use Rattle.osd_objects.specs.declared.object.StoredObject.{StoredObject}
use Rattle.osd_objects.specs.Lanes.{lane_of}
use Rattle.osd_objects.specs.Store.{StoreState, object_at, lane_or_none}
use Rattle.osd_drive.specs.declared.verdict.Verdict.{Verdict}
use Rattle.osd_drive.specs.declared.verdict.Verdict.TheVariants as verdict
use Rattle.osd_drive.specs.State.{DriveState}
use Rattle.osd_drive.specs.Table.{first_fault, is_mutating, of_lane}
use Rattle.osd_drive.specs.Effects.{result_of, kept_reply, reply_by, state_by}
use Rattle.world_history.specs.ServerNames.{Awaited, Kept}
use Rattle.server_rules.specs.Replies.{is_create, is_set_tag, is_done}
use Rattle.world_history.specs.State.{DriveAt}
use Rattle.history_law.specs.Tags.{tag_in}
use Rattle.history_law.proofs.Spending.{free}
use Rattle.history_law.proofs.HistoryTelling.{again_row, tells_by}
use Rattle.history_law.specs.Reaching.{has_tag, has_reached}
use Rattle.history_law.proofs.Raising.{set_tag_raises}

-- ---- what a reply must be to count

eq_is : (a b : ℕ) → (a == b) ≡ true → a ≡ b
eq_is a b e = grind (arith, e, nat_tests)

-- to a SET TAG: performed, or that the tag is the next one already
pub counts : (f : Kept) (a : Awaited) (r : Reply) → a.command.action ≡ SetTag → is_done f a r ≡ true
    → (r.verdict ≡ 0) ⊎ ((r.verdict ≡ 9) × (r.detail ≡ f.tag + 1))
unfolding is_done
counts f a r is e =
    by_tests (r.verdict == 0) (r.verdict == 8) (r.verdict == 9) (r.detail == f.tag + 1) refl refl refl
    (subst (λ (x : Action). ((r.verdict == 0) || ((is_create x && (r.verdict == 8))
    || (is_set_tag x && ((r.verdict == 9) && (r.detail == f.tag + 1))))) ≡ true) is e)
  where
    by_tests : (p q s t : Bool) → (r.verdict == 0) ≡ p → (r.verdict == 9) ≡ s → (r.detail == f.tag + 1) ≡ t
        → (p || ((false && q) || (true && (s && t)))) ≡ true
        → (r.verdict ≡ 0) ⊎ ((r.verdict ≡ 9) × (r.detail ≡ f.tag + 1))
    by_tests true q s t x y z w = inl (eq_is r.verdict 0 x)
    by_tests false q true true x y z w = inr (eq_is r.verdict 9 y, eq_is r.detail (f.tag + 1) z)
    by_tests false q true false x y z w = absurd (cc w)
    by_tests false q false t x y z w = absurd (cc w)

-- ---- the nonce of a reply

pub result_nonce : (a : Action) (s : StoreState) (c : Command) → (result_of a s c).nonce ≡ c.nonce
result_nonce Create s c = refl
result_nonce Read s c = refl
result_nonce Write s c = refl
result_nonce GetAttr s c = refl
result_nonce SetAttr s c = refl
result_nonce SetTag s c = refl

kept_nonce : (c : Command) (l : Option LaneEntry) → of_lane (λ (e : LaneEntry). nat_eq e.nonce c.nonce) l ≡ true
    → (kept_reply c l).nonce ≡ c.nonce
kept_nonce c None e = refl
kept_nonce c (Some l) e = eq_is l.nonce c.nonce e

and_right : (a b : Bool) → (a && b) ≡ true → b ≡ true
and_right true b e = e
and_right false b e = absurd (cc e)

-- it is the command's
pub reply_nonce_is : (d : DriveState) (now : ℕ) (c : Command) (v : Verdict) → first_fault d now c ≡ v
    → (reply_by v d c).nonce ≡ c.nonce
reply_nonce_is d now c verdict.Perform e = result_nonce c.action d.store c
reply_nonce_is d now c verdict.Again e =
    kept_nonce c (lane_or_none (object_at d.store c.object) c.capability.holder)
    (and_right (is_mutating c.action) _ (again_row d now c e))
reply_nonce_is d now c v e = refl

-- ---- the tag behind a reply

-- the numbers of verdicts have 16 bits
pub verdict_low : (a : DriveState) (now : ℕ) (c : Command) (v : Verdict) → first_fault a now c ≡ v
    → (reply_by v a c).verdict < 2 ^ 16
verdict_low a now c verdict.Perform e = done c.action
  where
    done : (x : Action) → (result_of x a.store c).verdict < 2 ^ 16
    done Create = omega arith
    done Read = omega arith
    done Write = omega arith
    done GetAttr = omega arith
    done SetAttr = omega arith
    done SetTag = omega arith
verdict_low a now c verdict.Again e = kept (lane_or_none (object_at a.store c.object) c.capability.holder)
  where
    kept : (l : Option LaneEntry) → (kept_reply c l).verdict < 2 ^ 16
    kept None = omega arith
    kept (Some l) = omega arith
verdict_low a now c verdict.OldFormat e = omega arith
verdict_low a now c verdict.NoKey e = omega arith
verdict_low a now c verdict.CheckValue e = omega arith
verdict_low a now c verdict.Expired e = omega arith
verdict_low a now c verdict.Rights e = omega arith
verdict_low a now c verdict.WrongObject e = omega arith
verdict_low a now c verdict.Range e = omega arith
verdict_low a now c verdict.NoObject e = omega arith
verdict_low a now c verdict.Exists e = omega arith
verdict_low a now c (verdict.Tag t) e = omega arith
verdict_low a now c verdict.Limit e = omega arith
verdict_low a now c (verdict.NoSpace n) e = omega arith
verdict_low a now c verdict.LaneFull e = omega arith
verdict_low a now c (verdict.Stale n) e = omega arith
verdict_low a now c verdict.AttrFull e = omega arith

-- a lane of that nonce shows that the tag was reached
abbrev pub LaneShows : DriveAt → Command → (tag : ℕ) → Type 0
LaneShows a c tag =
    (x : StoredObject) (l : LaneEntry) → object_at a.state.store c.object ≡ Some x
    → lane_of x.lanes c.capability.holder ≡ Some l → l.nonce ≡ c.nonce → tag ≤ x.tag

low_tag : (tag : ℕ) (x : StoredObject) → tag ≤ x.tag → nat_le tag x.tag ≡ true
low_tag tag x e = grind (arith, e, nat_tests)

or_right : (a b : Bool) → b ≡ true → (a || b) ≡ true
or_right true b e = refl
or_right false b e = e

there_reached : (a : DriveAt) (object tag : ℕ) (o : Option StoredObject) (x : StoredObject)
    → object_at a.state.store object ≡ o
    → o ≡ Some x → tag ≤ x.tag → has_reached object tag (Some a) ≡ true
there_reached a object tag o x e is le =
    or_right a.failed _ (ap (has_tag tag) (e ∙ is) ∙ low_tag tag x le)

again_reached : (a : DriveAt) (c : Command) (tag : ℕ) (o : Option StoredObject) → object_at a.state.store c.object ≡ o
    → of_lane (λ (e : LaneEntry). nat_eq e.nonce c.nonce) (lane_or_none o c.capability.holder) ≡ true
    → LaneShows a c tag → has_reached c.object tag (Some a) ≡ true
again_reached a c tag None there e shows = absurd (cc e)
again_reached a c tag (Some x) there e shows = by_lane (lane_of x.lanes c.capability.holder) refl e
  where
    by_lane : (l : Option LaneEntry) → lane_of x.lanes c.capability.holder ≡ l
        → of_lane (λ (k : LaneEntry). nat_eq k.nonce c.nonce) l ≡ true → has_reached c.object tag (Some a) ≡ true
    by_lane None is f = absurd (cc f)
    by_lane (Some l) is f =
        there_reached a c.object tag (Some x) x there refl (shows x l there is (eq_is l.nonce c.nonce f))

tag_there : (a : DriveAt) (object tag t : ℕ) → tag_in (Some a) object ≡ Some t → tag ≤ t
    → has_reached object tag (Some a) ≡ true
tag_there a object tag t e le = by_object (object_at a.state.store object) refl e
  where
    same : (m n : ℕ) → Some m ≡ Some n → m ≡ n
    same m n x = cc x

    by_object : (o : Option StoredObject) → object_at a.state.store object ≡ o
        → option_map (λ (x : StoredObject). x.tag) o ≡ Some t → has_reached object tag (Some a) ≡ true
    by_object None is f = absurd (cc f)
    by_object (Some x) is f = there_reached a object tag (Some x) x is refl (omega (arith, le, same x.tag t f))

-- another verdict is neither
neither : (n : ℕ) (P : Type 0) → nat_eq n 0 ≡ false → nat_eq n 9 ≡ false → ((n ≡ 0) ⊎ ((n ≡ 9) × P)) → ⊥
neither n P none nine (inl e) = grind (arith, none, e, nat_tests)
neither n P none nine (inr e) = grind (arith, nine, e.0, nat_tests)

-- the drive behind a SET TAG that it answers so
pub raised_behind : (a : DriveAt) (c : Command) (v : Verdict) → first_fault a.state a.clock c ≡ v → c.action ≡ SetTag
    → LaneShows a c (c.capability.tag + 1)
    → ((reply_by v a.state c).verdict ≡ 0) ⊎ (((reply_by v a.state c).verdict ≡ 9)
    × (c.capability.tag + 1 ≤ (reply_by v a.state c).detail))
    → has_reached c.object (c.capability.tag + 1) (Some (record a { state = state_by v a.state c })) ≡ true
raised_behind a c verdict.Perform clear is shows told =
    let r = set_tag_raises a.state c is (free a.state a.clock c clear) in
    there_reached (record a { state = state_by verdict.Perform a.state c }) c.object (c.capability.tag + 1) _ r.0 r.1
    refl
    (omega (arith, r.2))
raised_behind a c verdict.Again clear is shows told =
    again_reached (record a { state = a.state }) c (c.capability.tag + 1) (object_at a.state.store c.object) refl
    (and_right (is_mutating c.action) _ (again_row a.state a.clock c clear)) shows
raised_behind a c (verdict.Tag t) clear is shows (inr told) =
    tag_there (record a { state = a.state }) c.object (c.capability.tag + 1) t
    ((tells_by a c (verdict.Tag t) clear).tag t refl) told.1
raised_behind a c (verdict.Tag t) clear is shows (inl told) = absurd (cc told)
raised_behind a c verdict.OldFormat clear is shows told = absurd (neither 17 _ refl refl told)
raised_behind a c verdict.NoKey clear is shows told = absurd (neither 1 _ refl refl told)
raised_behind a c verdict.CheckValue clear is shows told = absurd (neither 2 _ refl refl told)
raised_behind a c verdict.Expired clear is shows told = absurd (neither 3 _ refl refl told)
raised_behind a c verdict.Rights clear is shows told = absurd (neither 4 _ refl refl told)
raised_behind a c verdict.WrongObject clear is shows told = absurd (neither 5 _ refl refl told)
raised_behind a c verdict.Range clear is shows told = absurd (neither 6 _ refl refl told)
raised_behind a c verdict.NoObject clear is shows told = absurd (neither 7 _ refl refl told)
raised_behind a c verdict.Exists clear is shows told = absurd (neither 8 _ refl refl told)
raised_behind a c verdict.Limit clear is shows told = absurd (neither 10 _ refl refl told)
raised_behind a c (verdict.NoSpace n) clear is shows told = absurd (neither 11 _ refl refl told)
raised_behind a c verdict.LaneFull clear is shows told = absurd (neither 12 _ refl refl told)
raised_behind a c (verdict.Stale n) clear is shows told = absurd (neither 13 _ refl refl told)
raised_behind a c verdict.AttrFull clear is shows told = absurd (neither 14 _ refl refl told)
