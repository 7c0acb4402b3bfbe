-- What was reached stays reached, over all lines.
use Rattle.std.proofs.Common.{◌≡◌, ℕ, ◌+◌, ◌<◌, ◌^◌, ◌&&◌, ◌||◌, ◌++◌, [], List, Bool, true, false, not, nat_lt, Option, Some, None, refl, sym, subst, arith, inl, inr}
use Rattle.std.proofs.lemmas.Bool.Decides.{nat_tests}
use Rattle.osd_commands.specs.declared.actions.Action.TheVariants.{Read}
use Rattle.osd_commands.specs.declared.commands.Command.{Command}
use Rattle.osd_objects.specs.declared.object.StoredObject.{StoredObject}
use Rattle.osd_objects.specs.Store.{object_at}
use Rattle.scenario_text.specs.declared.line.Line.{Line}
use Rattle.world_history.specs.State.{DriveAt}
use Rattle.world_history.specs.ReadDrives.{drive_after}
use Rattle.history_law.specs.Spent.{IsSpent, IsSpentOn, Spends}
use Rattle.history_law.specs.Reaching.{has_tag, has_reached, is_spellable, reached_in}

-- a READ of the object under an earlier tag
abbrev probe : (format object tag : ℕ) → Command
probe format object tag = record {
  action = Read;
  partition = 0;
  object = object;
  offset = 0;
  length = 0;
  nonce = 0;
  attribute = 0;
  capability = record {
    format = format;
    key_version = 0;
    rights = 0;
    expiry = 0;
    grant = 0;
    holder = 0;
    tag = tag;
    partition = 0;
    object = object;
    range_start = 0;
    range_len = 0;
  };
  payload = [];
  check = [];
}

-- each command of an earlier tag is spent where the tag was reached
spent_by : (o : Option StoredObject) (c : Command) (tag : ℕ) → has_tag tag o ≡ true → c.capability.tag < tag
    → IsSpentOn o c
spent_by None c tag e less = absurd (cc e)
spent_by (Some x) c tag e less = inr (inl (grind (arith, e, less, nat_tests)))

pub reached_spent : (o : Option DriveAt) (object tag : ℕ) (c : Command) → has_reached object tag o ≡ true
    → c.object ≡ object
    → c.capability.tag < tag → IsSpent o c
reached_spent None object tag c e is less = absurd (cc e)
reached_spent (Some a) object tag c e is less = by_failed a.failed refl e
  where
    by_failed : (b : Bool) → a.failed ≡ b → (b || has_tag tag (object_at a.state.store object)) ≡ true
        → IsSpent (Some a) c
    by_failed true failed f = inl failed
    by_failed false lives f =
        inr (inr (subst (λ (n : ℕ). IsSpentOn (object_at a.state.store n) c) (sym is)
        (spent_by (object_at a.state.store object) c tag f less)))

tag_by : (o : Option StoredObject) (format object tag : ℕ) → IsSpentOn o (probe format object tag)
    → has_tag (tag + 1) o ≡ true
tag_by None format object tag s = absurd s
tag_by (Some x) format object tag (inl e) = absurd (cc e)
tag_by (Some x) format object tag (inr (inl less)) = grind (arith, less, nat_tests)
tag_by (Some x) format object tag (inr (inr late)) = absurd (cc late.0)

or_true : (a b : Bool) → (a ≡ true) → (a || b) ≡ true
or_true true b e = refl
or_true false b e = absurd (cc e)

true_or : (a b : Bool) → (b ≡ true) → (a || b) ≡ true
true_or true b e = refl
true_or false b e = e

-- and it was reached where each command of an earlier tag is spent
spent_reached : (o : Option DriveAt) (object tag : ℕ)
    → ((c : Command) → c.object ≡ object → c.capability.tag < tag + 1 → IsSpent o c)
    → has_reached object (tag + 1) o ≡ true
spent_reached None object tag each = absurd (each (probe 0 object tag) refl (omega arith))
spent_reached (Some a) object tag each = by_spent (each (probe a.state.least object tag) refl (omega arith))
  where
    by_spent : IsSpent (Some a) (probe a.state.least object tag)
        → (a.failed || has_tag (tag + 1) (object_at a.state.store object)) ≡ true
    by_spent (inl failed) = or_true a.failed _ failed
    by_spent (inr (inl old)) = absurd (omega (arith, old))
    by_spent (inr (inr spent)) = true_or a.failed _ (tag_by (object_at a.state.store object) a.state.least object tag
        spent)

pub has_stays : (h first middle after : List Line) → Spends h → h ≡ first ++ (middle ++ after) → (drive object tag : ℕ)
    → has_reached object (tag + 1) (drive_after first drive) ≡ true
    → has_reached object (tag + 1) (drive_after (first ++ middle) drive) ≡ true
has_stays h first middle after s is drive object tag e =
    spent_reached (drive_after (first ++ middle) drive) object tag
    (λ c own less. s.stays first middle after is drive c
    (reached_spent (drive_after first drive) object (tag + 1) c e own less))

pub reached_stays : (h first middle after : List Line) → Spends h → h ≡ first ++ (middle ++ after)
    → (drive object tag : ℕ)
    → reached_in first drive object (tag + 1) ≡ true → reached_in (first ++ middle) drive object (tag + 1) ≡ true
reached_stays h first middle after s is drive object tag e = by_fit (is_spellable object (tag + 1)) e
  where
    by_fit : (b : Bool) → (not b || has_reached object (tag + 1) (drive_after first drive)) ≡ true
        → (not b || has_reached object (tag + 1) (drive_after (first ++ middle) drive)) ≡ true
    by_fit false f = refl
    by_fit true f = has_stays h first middle after s is drive object tag f

-- where the numbers fit it is enough that the tag was reached
pub reached_by : (h : List Line) (drive object tag : ℕ)
    → (object < 2 ^ 64 → tag < 2 ^ 32 → has_reached object tag (drive_after h drive) ≡ true)
    → reached_in h drive object tag ≡ true
reached_by h drive object tag each = by_fit (nat_lt object (2 ^ 64)) (nat_lt tag (2 ^ 32)) refl refl
  where
    less : (a b : ℕ) → nat_lt a b ≡ true → a < b
    less a b e = grind (arith, e, nat_tests)

    by_fit : (a b : Bool) → nat_lt object (2 ^ 64) ≡ a → nat_lt tag (2 ^ 32) ≡ b
        → (not (a && b) || has_reached object tag (drive_after h drive)) ≡ true
    by_fit false b e f = refl
    by_fit true false e f = refl
    by_fit true true e f = each (less object (2 ^ 64) e) (less tag (2 ^ 32) f)
