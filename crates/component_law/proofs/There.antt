-- What an object has reached stays reached, whatever the tag; so an object that is there stays there.
use Rattle.std.proofs.Common.{◌≡◌, ℕ, zero, suc, ◌+◌, ◌||◌, ◌++◌, [], List, Bool, true, false, not, nat_le, Option, Some, None, refl, sym, subst, arith, inl, inr}
use Rattle.std.proofs.lemmas.Bool.Decides.{nat_tests}
use Rattle.std.proofs.lemmas.Bool.{or_left, or_right}
use Rattle.osd_commands.specs.declared.actions.Action.TheVariants.{Create}
use Rattle.osd_commands.specs.declared.commands.Command.{Command}
use Rattle.osd_objects.specs.declared.object.StoredObject.{StoredObject}
use Rattle.osd_objects.specs.Store.{object_at}
use Rattle.scenario_text.specs.declared.line.Line.{Line}
use Rattle.world_history.specs.State.{DriveAt}
use Rattle.world_history.specs.ReadDrives.{drive_after}
use Rattle.history_law.specs.Spent.{IsSpent, IsSpentOn, Spends}
use Rattle.history_law.specs.Reaching.{has_tag, has_reached, is_spellable, reached_in}
use Rattle.history_law.proofs.Reaching.{has_stays}

-- ---- an object that is there

pub zero_below : (n : ℕ) → nat_le 0 n ≡ true
zero_below n = grind (arith, nat_tests)

-- a CREATE of the object
abbrev probe : (format object : ℕ) → Command
probe format object = record {
  action = Create;
  partition = 0;
  object = object;
  offset = 0;
  length = 0;
  nonce = 0;
  attribute = 0;
  capability = record {
    format = format;
    key_version = 0;
    rights = 0;
    expiry = 0;
    grant = 0;
    holder = 0;
    tag = 0;
    partition = 0;
    object = object;
    range_start = 0;
    range_len = 0;
  };
  payload = [];
  check = [];
}

-- each CREATE is spent where the object is there
there_spent : (o : Option DriveAt) (object : ℕ) (c : Command) → has_reached object 0 o ≡ true → c.action ≡ Create
    → c.object ≡ object → IsSpent o c
there_spent None object c e makes is = absurd (cc e)
there_spent (Some a) object c e makes is = by_failed a.failed refl e
  where
    on_object : (o : Option StoredObject) → has_tag 0 o ≡ true → IsSpentOn o c
    on_object None f = absurd (cc f)
    on_object (Some x) f = inl makes

    by_failed : (b : Bool) → a.failed ≡ b → (b || has_tag 0 (object_at a.state.store object)) ≡ true
        → IsSpent (Some a) c
    by_failed true failed f = inl failed
    by_failed false lives f =
        inr (inr (subst (λ (n : ℕ). IsSpentOn (object_at a.state.store n) c) (sym is)
        (on_object (object_at a.state.store object) f)))

there_by : (o : Option StoredObject) (c : Command) → IsSpentOn o c → has_tag 0 o ≡ true
there_by None c s = absurd s
there_by (Some x) c s = zero_below x.tag

-- and it is there where each CREATE is spent
spent_there : (o : Option DriveAt) (object : ℕ) → ((c : Command) → c.action ≡ Create → c.object ≡ object → IsSpent o c)
    → has_reached object 0 o ≡ true
spent_there None object each = absurd (each (probe 0 object) refl refl)
spent_there (Some a) object each = by_spent (each (probe a.state.least object) refl refl)
  where
    by_spent : IsSpent (Some a) (probe a.state.least object)
        → (a.failed || has_tag 0 (object_at a.state.store object)) ≡ true
    by_spent (inl failed) = or_left a.failed _ failed
    by_spent (inr (inl old)) = absurd (omega (arith, old))
    by_spent (inr (inr spent)) =
        or_right a.failed _ (there_by (object_at a.state.store object) (probe a.state.least object) spent)

-- ---- over more lines

module _ (h first middle after : List Line) (s : Spends h) (is : h ≡ first ++ (middle ++ after))
    (drive object : ℕ) where
  pub there_stays : has_reached object 0 (drive_after first drive) ≡ true
      → has_reached object 0 (drive_after (first ++ middle) drive) ≡ true
  there_stays e =
      spent_there (drive_after (first ++ middle) drive) object
      (λ c makes own. s.stays first middle after is drive c
      (there_spent (drive_after first drive) object c e makes own))

  tag_stays : (tag : ℕ) → has_reached object tag (drive_after first drive) ≡ true
      → has_reached object tag (drive_after (first ++ middle) drive) ≡ true
  tag_stays zero e = there_stays e
  tag_stays (suc n) e =
      let next : n + 1 ≡ suc n = omega arith in
      subst (λ (t : ℕ). has_reached object t (drive_after (first ++ middle) drive) ≡ true) next
      (has_stays h first middle after s is drive object n
      (subst (λ (t : ℕ). has_reached object t (drive_after first drive) ≡ true) (sym next) e))

  pub any_stays : (tag : ℕ) → reached_in first drive object tag ≡ true
      → reached_in (first ++ middle) drive object tag ≡ true
  any_stays tag e = by_fit (is_spellable object tag) e
    where
      by_fit : (b : Bool) → (not b || has_reached object tag (drive_after first drive)) ≡ true
          → (not b || has_reached object tag (drive_after (first ++ middle) drive)) ≡ true
      by_fit false f = refl
      by_fit true f = tag_stays tag f
