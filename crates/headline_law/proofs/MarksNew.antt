-- The WRITEs that a move sends have their entries, if those have that clients send again, and those of a client's turn.
-- Towards `WritesStayTied` (`specs/MarksTied.antt`).
use Rattle.std.proofs.Common.{◌≡◌, ◌/◌, ℕ, false, List, length, slice_get, Option, Some, None, refl, sym, ◌∙◌}
use Rattle.osd_commands.specs.declared.actions.Action.TheVariants.{Write}
use Rattle.osd_commands.specs.declared.commands.Command.{Command}
use Rattle.scenario_text.specs.declared.event.Event.TheVariants as event
use Rattle.scenario_text.specs.declared.event.Sender.TheVariants as sender
use Rattle.scenario_text.specs.declared.line.Line.{Line}
use Rattle.world_history.specs.Moves.{Action, Opens, Delivers, TimesOut, Pends}
use Rattle.world_history.specs.ServerNames.{File, Component}
use Rattle.world_history.specs.State.{World, at_number}
use Rattle.world_history.specs.ReadLog.{log_in}
use Rattle.world_history.specs.Sending.{Move, move}
use Rattle.history_law.specs.Moments.{lines_in}
use Rattle.fence_law.specs.State as machine
use Rattle.fence_law.specs.State.{State}
use Rattle.fence_law.specs.Words.{In as InRun}
use Rattle.file_simulation.specs.ClientEvents.{Going, going_in}
use Rattle.file_simulation.specs.Showing.{Pairs, IsPair}
use Rattle.file_simulation.specs.Tied.{AreTied, WasPosted, HasItsEntry, WritesAreTied}
use Rattle.headline_law.specs.EntriesTied.{EntriesKept}
use Rattle.headline_law.specs.Parts.{CutShown, cut_at, lines_to}
use Rattle.headline_law.proofs.MarksWrites.{IsNew, MessagesTied}

-- ---- what is said of the WRITEs that a move sends

-- A WRITE that a move sends to a component that stands, and that of the machine.
pub record IsNewWrite (w : World) (h : List Line) (m : Move) (f g : File) (s : State) (pairs : Pairs)
    (k : CutShown w h m (length (lines_in w m)) f g s pairs) (n c d i : ℕ) (x : Command) (y : machine.Write) : Type 0 where
  pub at : Component
  pub new : IsNew w n
  pub posted : WasPosted (move w m).world n c d x
  pub write : x.action ≡ Write
  pub found : slice_get g.kept.components i ≡ Some at
  pub object : x.object ≡ at.object
  pub stands : (cut_at k.shown.follows).lost i ≡ false
  pub sent : InRun y (cut_at k.shown.follows).writes
  pub holder : y.holder ≡ c
  pub nonce : y.nonce ≡ x.nonce
  pub there : y.at ≡ i

-- So it is of each, in moves like these.
abbrev pub NewWrites : (World → Move → Type 0)
    → ((w : World) (h : List Line) (m : Move) (f g : File) (s : State) (pairs : Pairs)
    → (k : CutShown w h m (length (lines_in w m)) f g s pairs)
    → EntriesKept w h m (length (lines_in w m)) (cut_at k.shown.follows) f.kept.number pairs
    → (n i : ℕ) → Command → machine.Write → Type 0)
    → Type 0
NewWrites P Q =
    (w : World) (h : List Line) (m : Move) (f g : File) (s : State) (pairs : Pairs) → P w m →
    (k : CutShown w h m (length (lines_in w m)) f g s pairs) → AreTied w h s f.kept.number pairs →
    WritesAreTied w h s f pairs →
    (e : EntriesKept w h m (length (lines_in w m)) (cut_at k.shown.follows) f.kept.number pairs) →
    (n c d i : ℕ) (x : Command) (y : machine.Write) → IsNewWrite w h m f g s pairs k n c d i x y →
    Q w h m f g s pairs k e n i x y

-- each has an entry in the log, paired with that of the machine
abbrev pub NewLogged : (World → Move → Type 0) → Type 0
NewLogged P = NewWrites P (λ w h m f g s pairs k e n i x y.
    (entry : ℕ) × (at_number (log_in (lines_to w h m (length (lines_in w m)))).writes n ≡ Some entry)
    × IsPair e.shown.pairs entry y.entry)

-- what each carries is in the unit in which it begins
abbrev pub NewInUnits : (World → Move → Type 0) → Type 0
NewInUnits P = NewWrites P (λ w h m f g s pairs k e n i x y.
    (z v : ℕ) → ((cut_at k.shown.follows).start y.entry).content i z ≡ Some v →
    ((cut_at k.shown.follows).start y.entry).part i z ≡ y.part → z / g.kept.map.unit ≡ x.offset / g.kept.map.unit)

-- both
abbrev pub NewTied : (World → Move → Type 0) → Type 0
NewTied P = NewWrites P (λ w h m f g s pairs k e n i x y.
    HasItsEntry (log_in (lines_to w h m (length (lines_in w m)))) (cut_at k.shown.follows) g e.shown.pairs n i x y)

pub new_tied_of : (P : World → Move → Type 0) → NewLogged P → NewInUnits P → NewTied P
new_tied_of P logged units w h m f g s pairs p k tied writes e n c d i x y is =
    let r = logged w h m f g s pairs p k tied writes e n c d i x y is in
    record {
      entry = r.0;
      logged = r.1;
      pair = r.2;
      unit = units w h m f g s pairs p k tied writes e n c d i x y is;
    }

-- ---- moves

-- a client goes on
abbrev pub OneGoes : World → Move → Type 0
OneGoes w m = (j : Going) × (going_in w m.action ≡ Some j)

-- a client sends its messages again
abbrev pub OneResends : World → Move → Type 0
OneResends w m = (c : ℕ) × (m.action ≡ Opens (event.Resend (sender.Client c)))

-- none does either
abbrev pub NoneSends : World → Move → Type 0
NoneSends w m =
    (going_in w m.action ≡ None) × ((c : ℕ) → m.action ≡ Opens (event.Resend (sender.Client c)) → ⊥)

-- Then no client sends a message.
abbrev pub NoneNew : Type 0
NoneNew =
    (w : World) (m : Move) → NoneSends w m → (n c d : ℕ) (x : Command) → IsNew w n →
    WasPosted (move w m).world n c d x → ⊥

-- by who sends in the move
which : (w : World) (m : Move) (X : Type 0) → (OneGoes w m → X) → (OneResends w m → X) → (NoneSends w m → X) → X
which w m X goes resends none = by (going_in w m.action) refl
  where
    by_action : going_in w m.action ≡ None → (a : Action) → m.action ≡ a → X
    by_action e (Opens (event.Resend (sender.Client c))) is = resends (c, is)
    by_action e (Opens y) is = none (e, λ c it. absurd (cc (sym is ∙ it)))
    by_action e (Delivers y) is = none (e, λ c it. absurd (cc (sym is ∙ it)))
    by_action e (TimesOut y z) is = none (e, λ c it. absurd (cc (sym is ∙ it)))
    by_action e (Pends y) is = none (e, λ c it. absurd (cc (sym is ∙ it)))

    by : (o : Option Going) → going_in w m.action ≡ o → X
    by (Some j) is = goes (j, is)
    by None is = by_action is m.action refl

pub new_tied : NoneNew → NewTied OneResends → NewTied OneGoes → MessagesTied IsNew
new_tied none resends goes w h m f g s pairs k tied writes e n c d i x at new posted write found object lost y sent holder nonce
    there =
    which w m (HasItsEntry (log_in (lines_to w h m (length (lines_in w m)))) (cut_at k.shown.follows) g e.shown.pairs n i x y)
    (λ p. goes w h m f g s pairs p k tied writes e n c d i x y is)
    (λ p. resends w h m f g s pairs p k tied writes e n c d i x y is)
    (λ p. absurd (none w m p n c d x new posted))
  where
    is : IsNewWrite w h m f g s pairs k n c d i x y
    is = record {
      at = at;
      new = new;
      posted = posted;
      write = write;
      found = found;
      object = object;
      stands = lost;
      sent = sent;
      holder = holder;
      nonce = nonce;
      there = there;
    }
