-- Each move leaves the keys of drives, and those that the server has for them, as they were, but for an event that
-- makes a drive.
use Rattle.std.proofs.Common.{◌≡◌, ℕ, Bool, true, false, List, Option, Some, IsSome, option_map, refl, sym, ap, subst, ◌∙◌, inl, inr}
use Rattle.std.proofs.lemmas.Bool.{cases_eq}
use Rattle.osd_commands.specs.Commands.{reading}
use Rattle.osd_objects.proofs.Entries.{lookup_set, lookup_set_beside}
use Rattle.osd_drive.specs.declared.keys.DriveKey.{DriveKey}
use Rattle.server_rules.specs.History as server_input
use Rattle.scenario_text.specs.declared.event.Event.TheVariants as event
use Rattle.world_history.specs.ServerNames as server_rules
use Rattle.world_history.specs.State.{DriveAt, World, at_number, with_number}
use Rattle.world_history.specs.Drives.{judges, command_in}
use Rattle.world_history.specs.Moves.{Act, Action, Opens, acts}
use Rattle.history_law.specs.Moves.{Turns, Raised, Timed, Falls, Crashed, Reopened, drive_event, IsForServer, MoveCases}
use Rattle.history_law.proofs.Moves.{none_added, each_act}
use Rattle.history_law.proofs.Coming.{judged_keys}
use Rattle.component_law.proofs.Servers.{known_keys, keys_step, known_then}

-- the keys of a drive as it has them
abbrev pub keys_of : Option DriveAt → Option (List DriveKey)
keys_of o = option_map (λ (a : DriveAt). a.state.keys) o

-- all keys are as they were
pub record Stays (w v : World) : Type 0 where
  pub drives : (d : ℕ) → keys_of (at_number v.drives d) ≡ keys_of (at_number w.drives d)
  pub known : (d : ℕ) → known_keys v.server.drives d ≡ known_keys w.server.drives d

-- ---- what a drive does

turned_keys : (a b : DriveAt) → Turns a b → b.state.keys ≡ a.state.keys
turned_keys a b (Raised format is) = ap (λ (x : DriveAt). x.state.keys) is
turned_keys a b (Timed time is) = ap (λ (x : DriveAt). x.state.keys) is
turned_keys a b (Falls is) = ap (λ (x : DriveAt). x.state.keys) is
turned_keys a b (Crashed is) = ap (λ (x : DriveAt). x.state.keys) is
turned_keys a b (Reopened is) = ap (λ (x : DriveAt). x.state.keys) is

-- an action that makes no drive
abbrev pub MakesNone : Action → Type 0
MakesNone (Opens (event.Drive d key capacity)) = ⊥
MakesNone (Opens (event.Disk d key capacity)) = ⊥
MakesNone action = Unit {0}

makes_one : (d : ℕ) (key : List ℕ) (capacity : ℕ) (stored : Bool)
    → MakesNone (Opens (drive_event d key capacity stored)) → ⊥
makes_one d key capacity true none = none
makes_one d key capacity false none = none

-- an input that adds no drive leaves them
known_before : (i : server_input.Input) (ds : List server_rules.Drive)
    → ((x : server_rules.Drive) → i ≡ server_input.Adds x → ⊥) → known_then i ds ≡ ds
known_before (server_input.Adds x) ds none = absurd (none x refl)
known_before i ds none = refl

module _ (w : World) where
  same : (v : World) → v.drives ≡ w.drives → v.server ≡ w.server → Stays w v
  same v drives server = record {
    drives = λ d. ap (λ (ds : List (ℕ × DriveAt)). keys_of (at_number ds d)) drives;
    known = λ d. ap (λ (s : server_rules.Server). known_keys s.drives d) server;
  }

  -- one drive changes, and keeps its keys
  put_drive : (k : ℕ) (a b : DriveAt) → at_number w.drives k ≡ Some a → b.state.keys ≡ a.state.keys → (v : World)
      → v.drives ≡ with_number w.drives k b → v.server ≡ w.server → Stays w v
  put_drive k a b found keys v drives server = record {
    drives = λ d. ap (λ (ds : List (ℕ × DriveAt)). keys_of (at_number ds d)) drives ∙ each d;
    known = λ d. ap (λ (s : server_rules.Server). known_keys s.drives d) server;
  }
    where
      each : (d : ℕ) → keys_of (at_number (with_number w.drives k b) d) ≡ keys_of (at_number w.drives d)
      each d = elim (cases_eq d k) [
        | inl it ↦ ap (λ (j : ℕ). keys_of (at_number (with_number w.drives k b) j)) it
            ∙ ap keys_of (lookup_set w.drives k b (subst IsSome (sym found) refl))
            ∙ ap (λ (x : List DriveKey). Some x) keys
            ∙ sym (ap keys_of found)
            ∙ ap (λ (j : ℕ). keys_of (at_number w.drives j)) (sym it)
        | inr other ↦ ap keys_of (lookup_set_beside w.drives k d b other)
      ]

  cases : (chosen : List ℕ) (action : Action) → MakesNone action → MoveCases w chosen action (λ (a : Act). Stays w a.world)
  cases chosen action none = record {
    rests = λ ms said told quiet. same _ refl refl;
    refused = λ c a found op is e why. same _ refl refl;
    clock = λ time. same _ refl refl;
    serves = λ ms said i is. record {
      drives = λ d. refl;
      known = λ d. keys_step w.server chosen i d
          ∙ ap (λ (ds : List server_rules.Drive). known_keys ds d)
          (known_before i w.server.drives (λ x e. none_added w action x (subst (IsForServer w action) e is)));
    };
    goes = λ ms said c a found i is. same _ refl refl;
    comes = λ c is. same _ refl refl;
    stops = λ c a found. same _ refl refl;
    judged = λ ms said d a found deaf m number.
        put_drive d a (judges a (command_in m.posted.message.body)).drive found
        (judged_keys a (command_in m.posted.message.body)) _ refl refl;
    injected = λ d bytes is a found.
        put_drive d a (judges a (reading bytes)).drive found (judged_keys a (reading bytes)) _ refl refl;
    turns = λ d a b found turns. put_drive d a b found (turned_keys a b turns) _ refl refl;
    known = λ d key capacity stored is knows. absurd (makes_one d key capacity stored (subst MakesNone is none));
    adds = λ d key capacity stored is knows. absurd (makes_one d key capacity stored (subst MakesNone is none));
  }

  pub acts_stay : (chosen : List ℕ) (action : Action) → MakesNone action → Stays w (acts w chosen action).world
  acts_stay chosen action none = each_act w chosen (λ (a : Act). Stays w a.world) action (cases chosen action none)
