-- What a reply tells of its drive.
use Rattle.std.specs.List.{list_any}
use Rattle.std.proofs.Common.{◌≡◌, ℕ, ◌<◌, ◌∷◌, [], List, Bool, true, false, not, nat_eq, nat_lt, ◌&&◌, ◌||◌, Option, Some, None, Result, option_map, refl, sym, ap, subst, ◌∙◌, arith, inl, inr, if◌then◌else◌}
use Rattle.std.proofs.lemmas.Bool.Decides.{nat_tests}
use Rattle.std.proofs.lemmas.Bool.{and_parts}
use Rattle.osd_lists.proofs.Tests.{or_none, differ}
use Rattle.osd_commands.specs.declared.actions.Action.{Action}
use Rattle.osd_commands.specs.declared.actions.Action.TheVariants as action
use Rattle.osd_commands.specs.declared.commands.Command.{Command}
use Rattle.osd_commands.specs.declared.commands.CommandErr.{CommandErr}
use Rattle.osd_commands.specs.Commands.{reading}
use Rattle.osd_objects.specs.declared.lanes.LaneEntry.{LaneEntry}
use Rattle.osd_objects.specs.declared.object.StoredObject.{StoredObject}
use Rattle.osd_objects.specs.Lanes.{lane_of}
use Rattle.osd_objects.specs.Objects.{state_of}
use Rattle.osd_objects.specs.Store.{StoreState, object_at, lane_or_none}
use Rattle.osd_drive.specs.declared.verdict.Verdict.{Verdict}
use Rattle.osd_drive.specs.declared.verdict.Verdict.TheVariants as verdict
use Rattle.osd_drive.specs.State.{DriveState}
use Rattle.osd_drive.specs.Table.{Row, first_row, all_rows, first_fault, is_create, is_mutating, of_lane, of_object, tag_of}
use Rattle.osd_drive.specs.Effects.{result_of, reply_by, state_by, kept_reply}
use Rattle.world_history.specs.State.{DriveAt}
use Rattle.world_history.specs.Drives.{judges}
use Rattle.history_law.specs.Spent.{HasPassed, IsSpent, IsSpentOn}
use Rattle.history_law.specs.Replied.{TellsOf, RepliesTell}
use Rattle.history_law.proofs.Spending.{free, effect_spent}

-- ---- the row of a verdict applies

pub row_applies : (p : Verdict → Bool) (b : Bool) (v w : Verdict) (rows : List Row) → p (if b then v else w) ≡ true
    → (p w ≡ true → list_any (λ (r : Row). p r.1 && r.0) rows ≡ true)
    → ((p v && b) || list_any (λ (r : Row). p r.1 && r.0) rows) ≡ true
row_applies p true v w rows e rest = rw e refl
row_applies p false v w rows e rest = either (p v) (rest e)
  where
    either : (x : Bool) → list_any (λ (r : Row). p r.1 && r.0) rows ≡ true
        → ((x && false) || list_any (λ (r : Row). p r.1 && r.0) rows) ≡ true
    either true is = is
    either false is = is

pub first_applies : (p : Verdict → Bool) (rows : List Row) → p verdict.Perform ≡ false → p (first_row rows) ≡ true
    → list_any (λ (r : Row). p r.1 && r.0) rows ≡ true
first_applies p [] none e = absurd (cc (sym e ∙ none))
first_applies p (r ∷ rows) none e =
    row_applies p r.0 r.1 (first_row rows) rows e (λ later. first_applies p rows none later)

-- ---- which verdict it was

abbrev is_again : Verdict → Bool
is_again verdict.Again = true
is_again v = false

abbrev is_old : Verdict → Bool
is_old verdict.OldFormat = true
is_old v = false

abbrev is_tag : ℕ → Verdict → Bool
is_tag t (verdict.Tag current) = nat_eq current t
is_tag t v = false

pub again_row : (d : DriveState) (now : ℕ) (c : Command) → first_fault d now c ≡ verdict.Again
    → (is_mutating c.action && of_lane (λ l. nat_eq l.nonce c.nonce)
    (lane_or_none (object_at d.store c.object) c.capability.holder)) ≡ true
unfolding first_fault
again_row d now c e = or_none _ (first_applies is_again (all_rows d now c) refl (ap is_again e))

pub old_row : (d : DriveState) (now : ℕ) (c : Command) → first_fault d now c ≡ verdict.OldFormat
    → nat_lt c.capability.format d.least ≡ true
unfolding first_fault
old_row d now c e = or_none _ (first_applies is_old (all_rows d now c) refl (ap is_old e))

tag_row : (d : DriveState) (now : ℕ) (c : Command) (t : ℕ) → first_fault d now c ≡ verdict.Tag t
    → (nat_eq (tag_of (option_map state_of (object_at d.store c.object))) t && (not (is_create c.action)
    && of_object (λ o. not (nat_eq c.capability.tag o.tag)) (option_map state_of (object_at d.store c.object)))) ≡ true
unfolding first_fault
tag_row d now c t e =
    or_none _ (first_applies (is_tag t) (all_rows d now c) refl (ap (is_tag t) e ∙ same_number t))
  where
    same_number : (n : ℕ) → nat_eq n n ≡ true
    same_number n = grind (arith, nat_tests)

-- ---- what it tells

kept_spent : (c : Command) (o : Option StoredObject)
    → (is_mutating c.action && of_lane (λ l. nat_eq l.nonce c.nonce) (lane_or_none o c.capability.holder)) ≡ true
    → IsSpentOn o c
kept_spent c None e = absurd (cc (and_parts (is_mutating c.action) false e).1)
kept_spent c (Some x) e =
    let tests = and_parts (is_mutating c.action) _ e in
    inr (inr (tests.0, passed (lane_of x.lanes c.capability.holder) tests.1))
  where
    passed : (o : Option LaneEntry) → of_lane (λ l. nat_eq l.nonce c.nonce) o ≡ true → HasPassed o c.nonce
    passed None is = absurd (cc is)
    passed (Some l) is = grind (arith, is, nat_tests)

tag_there : (c : Command) (o : Option StoredObject) (t : ℕ) (b : Bool)
    → (nat_eq (tag_of (option_map state_of o)) t
    && (b && of_object (λ y. not (nat_eq c.capability.tag y.tag)) (option_map state_of o))) ≡ true
    → option_map (λ (x : StoredObject). x.tag) o ≡ Some t
tag_there c None t b e = absurd (cc (and_parts b false (and_parts _ (b && false) e).1).1)
tag_there c (Some x) t b e =
    ap (λ (n : ℕ). Some n) (same (and_parts (nat_eq x.tag t) _ e).0)
  where
    same : nat_eq x.tag t ≡ true → x.tag ≡ t
    same is = grind (arith, is, nat_tests)

pub result_done : (a : Action) (s : StoreState) (c : Command) → (result_of a s c).verdict ≡ 0
result_done action.Create s c = refl
result_done action.Read s c = refl
result_done action.Write s c = refl
result_done action.GetAttr s c = refl
result_done action.SetAttr s c = refl
result_done action.SetTag s c = refl

-- a reply of another verdict tells nothing of these
pub tells_by : (a : DriveAt) (c : Command) (v : Verdict) → first_fault a.state a.clock c ≡ v
    → TellsOf (Some (record a { state = state_by v a.state c })) c (reply_by v a.state c)
tells_by a c verdict.Perform e = record {
  performed = λ same changes. inr (inr (effect_spent c.action a.state c refl changes (free a.state a.clock c e)));
  old = λ same. absurd (differ 0 17 refl (sym (result_done c.action a.state.store c) ∙ same));
  tag = λ other same. absurd (differ 0 9 refl (sym (result_done c.action a.state.store c) ∙ same));
}
tells_by a c verdict.Again e = again (lane_or_none (object_at a.state.store c.object) c.capability.holder)
  where
    spent : IsSpent (Some a) c
    spent = inr (inr (kept_spent c (object_at a.state.store c.object) (again_row a.state a.clock c e)))

    again : (l : Option LaneEntry) → TellsOf (Some (record a { state = a.state })) c (kept_reply c l)
    again None = record {
      performed = λ same changes. spent;
      old = λ same. spent;
      tag = λ other same. absurd (differ _ _ refl same);
    }
    again (Some l) = record {
      performed = λ same changes. spent;
      old = λ same. spent;
      tag = λ other same. absurd (differ _ _ refl same);
    }
tells_by a c verdict.OldFormat e = record {
  performed = λ same changes. absurd (differ _ _ refl same);
  old = λ same. inr (inl (less (old_row a.state a.clock c e)));
  tag = λ other same. absurd (differ _ _ refl same);
}
  where
    less : nat_lt c.capability.format a.state.least ≡ true → c.capability.format < a.state.least
    less is = grind (arith, is, nat_tests)
tells_by a c (verdict.Tag t) e = record {
  performed = λ same changes. absurd (differ _ _ refl same);
  old = λ same. absurd (differ _ _ refl same);
  tag = λ other same. tag_there c (object_at a.state.store c.object) t _ (tag_row a.state a.clock c t e);
}
tells_by a c v e = record {
  performed = λ same changes. absurd (differ _ _ refl same);
  old = λ same. absurd (differ _ _ refl same);
  tag = λ other same. absurd (differ _ _ refl same);
}

pub replies_tell : RepliesTell
unfolding judges
replies_tell before drive to bytes r c read =
    subst (λ (o : Option DriveAt). TellsOf o c (judges r.there (reading r.message.bytes)).reply) (sym r.becomes)
    (subst (λ (x : Result Command CommandErr). TellsOf (Some (judges r.there x).drive) c (judges r.there x).reply) (sym read)
    (tells_by r.there c (first_fault r.there.state r.there.clock c) refl))
