-- What a move makes of an object of a drive: it stays, the drive fails, or a command on it is performed.
-- Towards `OweFollows` and `DoneFollows` (`specs/Parts.antt`).
use Rattle.std.proofs.Common.{◌≡◌, ℕ, List, Bool, true, false, Option, Some, None, Result, Ok, Err, IsSome, refl, sym, ap, subst, ◌∙◌, inl, inr}
use Rattle.std.proofs.lemmas.Bool.{cases_eq}
use Rattle.std.proofs.lemmas.Option.{same_Some}
use Rattle.osd_lists.specs.declared.node.Node.TheVariants as node
use Rattle.osd_commands.specs.declared.commands.Command.{Command}
use Rattle.osd_commands.specs.declared.commands.CommandErr.{CommandErr}
use Rattle.osd_commands.specs.Commands as commands
use Rattle.osd_objects.specs.Store.{object_at}
use Rattle.osd_objects.proofs.Entries.{lookup_set, lookup_set_beside, lookup_beside, lookup_inserted}
use Rattle.osd_drive.specs.declared.verdict.Verdict.{Verdict}
use Rattle.osd_drive.specs.declared.verdict.Verdict.TheVariants as verdict
use Rattle.osd_drive.specs.Table.{first_fault}
use Rattle.osd_drive.specs.Effects.{performed, state_by}
use Rattle.scenario_text.specs.declared.event.Event.TheVariants as event
use Rattle.world_history.specs.State.{World, DriveAt, at_number, with_number, and_number}
use Rattle.world_history.specs.Drives.{judges, command_in, made_drive, is_deaf}
use Rattle.world_history.specs.Moves.{Act, Action, Opens}
use Rattle.world_history.specs.Sending.{move}
use Rattle.world_history.specs.Refusals.{refusal}
use Rattle.history_law.specs.Moves.{MoveCases, Turns, Raised, Timed, Falls, Crashed, Reopened}
use Rattle.history_law.specs.Said.{IsDelivered}
use Rattle.history_law.proofs.Moves.{each_act}
use Rattle.component_law.proofs.Doing.{IsAllowed}
use Rattle.component_law.proofs.Within.{performed_stay_within}
use Rattle.file_simulation.specs.Components.{has_failed, object_on}
use Rattle.relation_law.specs.DriveHearing.{IsPerformed}
use Rattle.relation_law.proofs.Growing.{new_drive}
use Rattle.relation_law.proofs.DriveMoves.{stands_and_hears}

-- where a command came from: a message that was delivered, or injected bytes
pub data Comes (w : World) (action : Action) (d : ℕ) (x : Command) : Type 0 where
  Delivered : (m : IsDelivered w (node.Drive d)) → command_in m.posted.message.body ≡ Ok x → Comes w action d x
  Injected : (bytes : List ℕ) → action ≡ Opens (event.Inject d bytes) → commands.reading bytes ≡ Ok x → Comes w action d x

-- object o of drive d
pub data Becomes (w : World) (ds : List (ℕ × DriveAt)) (action : Action) (d o : ℕ) : Type 0 where
  Stays : object_on (at_number ds d) o ≡ object_on (at_number w.drives d) o → Becomes w ds action d o
  Fails : has_failed (at_number ds d) ≡ true → object_on (at_number ds d) o ≡ None → Becomes w ds action d o
  Performs : (a : DriveAt) (x : Command) → IsPerformed w d a x → x.object ≡ o →
      at_number ds d ≡ Some (record a { state = performed a.state x }) → Comes w action d x → Becomes w ds action d o

module _ (w : World) (action : Action) (d o : ℕ) where
  abbrev Behind : Act → Type 0
  Behind a = Becomes w a.world.drives action d o

  -- another drive
  beside : (ds : List (ℕ × DriveAt)) (k : ℕ) (b : DriveAt) → ds ≡ with_number w.drives k b → (d ≡ k → ⊥) → Becomes w ds action d o
  beside ds k b drives other =
      Stays (ap (λ (x : Option DriveAt). object_on x o)
      (ap (λ (xs : List (ℕ × DriveAt)). at_number xs d) drives ∙ lookup_set_beside w.drives k d b other))

  here : (ds : List (ℕ × DriveAt)) (k : ℕ) (a b : DriveAt) → at_number w.drives k ≡ Some a → ds ≡ with_number w.drives k b →
      d ≡ k → at_number ds d ≡ Some b
  here ds k a b found drives same =
      ap (λ (xs : List (ℕ × DriveAt)). at_number xs d) drives ∙ ap (at_number (with_number w.drives k b)) same
      ∙ lookup_set w.drives k b (subst IsSome (sym found) refl)

  -- the drive, where it leaves the object
  leaves : (ds : List (ℕ × DriveAt)) (k : ℕ) (a b : DriveAt) → at_number w.drives k ≡ Some a → ds ≡ with_number w.drives k b →
      (d ≡ k → object_at b.state.store o ≡ object_at a.state.store o) → Becomes w ds action d o
  leaves ds k a b found drives same = elim (cases_eq d k) [
    | inr other ↦ beside ds k b drives other
    | inl at ↦ Stays (ap (λ (x : Option DriveAt). object_on x o) (here ds k a b found drives at) ∙ same at
        ∙ sym (ap (λ (x : Option DriveAt). object_on x o) (ap (at_number w.drives) at ∙ found)))
  ]

  -- a drive judges a command
  by_verdict : (ds : List (ℕ × DriveAt)) (k : ℕ) (a : DriveAt) (x : Command) → at_number w.drives k ≡ Some a → is_deaf a ≡ false →
      (q : Verdict) → first_fault a.state a.clock x ≡ q →
      ds ≡ with_number w.drives k (record a { state = state_by q a.state x }) → Comes w action k x →
      Becomes w ds action d o
  by_verdict ds k a x found hears verdict.Perform clear drives comes = elim (cases_eq d k) [
    | inr other ↦ beside ds k (record a { state = performed a.state x }) drives other
    | inl at ↦ elim (cases_eq x.object o) [
      | inl own ↦
          Performs a x
          (record { there = ap (at_number w.drives) at ∙ found; hears = hears; clear = clear }) own
          (here ds k a (record a { state = performed a.state x }) found drives at)
          (subst (λ (n : ℕ). Comes w action n x) (sym at) comes)
      | inr apart ↦
          leaves ds k a (record a { state = performed a.state x }) found drives
          (λ same. (performed_stay_within a.state a.clock x clear).others o (λ e. apart (sym e)))
    ]
  ]
  by_verdict ds k a x found hears q fault drives comes = leaves ds k a _ found drives (λ same. refl)

  judged : (ds : List (ℕ × DriveAt)) (k : ℕ) (a : DriveAt) (r : Result Command CommandErr) → at_number w.drives k ≡ Some a →
      is_deaf a ≡ false → ds ≡ with_number w.drives k (judges a r).drive →
      ((x : Command) → r ≡ Ok x → Comes w action k x) → Becomes w ds action d o
  unfolding judges
  judged ds k a (Err e) found hears drives comes = leaves ds k a _ found drives (λ same. refl)
  judged ds k a (Ok x) found hears drives comes =
      by_verdict ds k a x found hears (first_fault a.state a.clock x) refl drives (comes x refl)

  turned : (ds : List (ℕ × DriveAt)) (k : ℕ) (a b : DriveAt) → at_number w.drives k ≡ Some a → ds ≡ with_number w.drives k b →
      Turns a b → Becomes w ds action d o
  turned ds k a b found drives (Raised format is) =
      leaves ds k a b found drives (λ same. ap (λ (y : DriveAt). object_at y.state.store o) is)
  turned ds k a b found drives (Timed time is) =
      leaves ds k a b found drives (λ same. ap (λ (y : DriveAt). object_at y.state.store o) is)
  turned ds k a b found drives (Crashed is) =
      leaves ds k a b found drives (λ same. ap (λ (y : DriveAt). object_at y.state.store o) is)
  turned ds k a b found drives (Reopened is) =
      leaves ds k a b found drives (λ same. ap (λ (y : DriveAt). object_at y.state.store o) is)
  turned ds k a b found drives (Falls is) = elim (cases_eq d k) [
    | inr other ↦ beside ds k b drives other
    | inl at ↦
        Fails (ap has_failed (here ds k a b found drives at) ∙ ap (λ (y : DriveAt). y.failed) is)
        (ap (λ (x : Option DriveAt). object_on x o) (here ds k a b found drives at)
        ∙ ap (λ (y : DriveAt). object_at y.state.store o) is)
  ]

  -- a drive more
  added : (ds : List (ℕ × DriveAt)) (k : ℕ) (key : List ℕ) (capacity : ℕ) (stored : Bool) →
      ds ≡ and_number w.drives k (made_drive k key capacity stored) → at_number w.drives k ≡ None →
      Becomes w ds action d o
  added ds k key capacity stored drives none = elim (cases_eq d k) [
    | inl at ↦ Stays (ap (λ (x : Option DriveAt). object_on x o)
        (ap (λ (xs : List (ℕ × DriveAt)). at_number xs d) drives
        ∙ ap (at_number (and_number w.drives k (made_drive k key capacity stored))) at
        ∙ lookup_inserted w.drives k (made_drive k key capacity stored))
        ∙ sym (ap (λ (x : Option DriveAt). object_on x o) (ap (at_number w.drives) at ∙ none)))
    | inr other ↦ Stays (ap (λ (x : Option DriveAt). object_on x o)
        (ap (λ (xs : List (ℕ × DriveAt)). at_number xs d) drives
        ∙ lookup_beside w.drives k d (made_drive k key capacity stored) other))
  ]

  -- injected bytes come to a drive that hears
  hears_injected : IsAllowed w action → (k : ℕ) (bytes : List ℕ) → action ≡ Opens (event.Inject k bytes) → (a : DriveAt) →
      at_number w.drives k ≡ Some a → is_deaf a ≡ false
  unfolding refusal
  hears_injected allowed k bytes is a found =
      let r = stands_and_hears (at_number w.drives k) (subst (IsAllowed w) is allowed) in
      let same : r.0 ≡ a = same_Some r.0 a (sym r.1 ∙ found) in
      ap is_deaf (sym same) ∙ r.2

  cases : (chosen : List ℕ) → IsAllowed w action → MoveCases w chosen action (λ a. Becomes w a.world.drives action d o)
  cases chosen allowed = record {
    rests = λ ms said told quiet. Stays refl;
    refused = λ c x found op is e why. Stays refl;
    clock = λ time. Stays refl;
    serves = λ ms said i is. Stays refl;
    goes = λ ms said c x found i is. Stays refl;
    comes = λ c is. Stays refl;
    stops = λ c x found. Stays refl;
    judged = λ ms said k x found hears m number.
        judged _ k x (command_in m.posted.message.body) found hears refl (λ c is. Delivered m is);
    injected = λ k bytes is x found.
        judged _ k x (commands.reading bytes) found (hears_injected allowed k bytes is x found) refl
        (λ c read. Injected bytes is read);
    turns = λ k x y found turns. turned _ k x y found refl turns;
    known = λ k key capacity stored is knows. added _ k key capacity stored refl
        (new_drive w k key capacity stored (subst (IsAllowed w) is allowed));
    adds = λ k key capacity stored is knows. added _ k key capacity stored refl
        (new_drive w k key capacity stored (subst (IsAllowed w) is allowed));
  }

  -- so it is of each move
  pub becomes : (chosen : List ℕ) → IsAllowed w action →
      Becomes w (move w (record { chosen = chosen; action = action })).world.drives action d o
  becomes chosen allowed = each_act w chosen Behind action (cases chosen allowed)
