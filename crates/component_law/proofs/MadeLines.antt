-- In a lawful history no drive is made twice.
use Rattle.std.proofs.Common.{◌≡◌, ℕ, ◌++◌, ◌∷◌, [], List, Bool, true, false, None, is_some, map, refl, sym, ap, subst, ◌∙◌, inl, inr}
use Rattle.std.proofs.lemmas.Bool.{cases_Bool, cases_eq, eq-eqb, ne_eqb}
use Rattle.scenario_text.specs.declared.event.Event.TheVariants as event
use Rattle.scenario_text.specs.declared.line.Line.{Line}
use Rattle.scenario_text.specs.declared.line.Line.TheVariants as line
use Rattle.server_rules.specs.Numbers.{among}
use Rattle.world_history.specs.Reading.{is_head, Step, Grouped, grouped_with, grouped}
use Rattle.world_history.specs.ReadDrives.{DriveSeen, drive_seen, drive_after}
use Rattle.history_law.proofs.Each.{EachBehind, ArisesAt, HoldsAt, arises_of}
use Rattle.history_law.proofs.DriveLines.{reads_on}
use Rattle.history_law.proofs.Staying.{drive_stays}
use Rattle.component_law.specs.Naming.{IsNamed, AreNamed}

-- ---- lines

-- the drive that a line makes is none of these
abbrev pub IsNew : List ℕ → Line → Type 0
IsNew ds (line.Event (event.Drive d key capacity)) = among d ds ≡ false
IsNew ds (line.Event (event.Disk d key capacity)) = among d ds ≡ false
IsNew ds l = Unit {0}

-- these drives, and the one that a line makes
abbrev pub made_by : List ℕ → Line → List ℕ
made_by ds (line.Event (event.Drive d key capacity)) = d ∷ ds
made_by ds (line.Event (event.Disk d key capacity)) = d ∷ ds
made_by ds l = ds

-- lines can name what these make, and make no drive twice
abbrev pub AreFit : List ℕ → List Line → Type 0
AreFit ds [] = Unit {0}
AreFit ds (l ∷ ls) = IsNamed l × IsNew ds l × AreFit (made_by ds l) ls

-- each of these is there behind the lines
abbrev AreThere : List Line → List ℕ → Type 0
AreThere h ds = (d : ℕ) → among d ds ≡ true → is_some (drive_after h d) ≡ true

pub none_there : AreThere [] []
unfolding among
none_there d e = absurd (cc e)

-- one that isn't there is none of them
no_one : (before : List Line) (ds : List ℕ) (k : ℕ) → drive_after before k ≡ None → AreThere before ds
    → among k ds ≡ false
no_one before ds k none there = elim (cases_Bool (among k ds)) [
  | inl t ↦ absurd (cc (sym (there k t) ∙ ap is_some none))
  | inr f ↦ f
]

is_new : (before : List Line) (ds : List ℕ) (l : Line) → ArisesAt before l → AreThere before ds → IsNew ds l
is_new before ds (line.Event (event.Drive k key capacity)) none there = no_one before ds k none there
is_new before ds (line.Event (event.Disk k key capacity)) none there = no_one before ds k none there
is_new before ds l none there = tt

stays : (h : List Line) (l : Line) (d : ℕ) → is_some (drive_after h d) ≡ true
    → is_some (drive_after (h ++ l ∷ []) d) ≡ true
stays h l d e =
    ap (λ (s : DriveSeen). is_some s.drive) (reads_on h (l ∷ []) d (drive_seen d h) refl)
    ∙ drive_stays d (drive_seen d h) (l ∷ []) e

later : (d k : ℕ) (ds : List ℕ) → (d ≡ k → ⊥) → among d (k ∷ ds) ≡ true → among d ds ≡ true
unfolding among
later d k ds o e = rw (ne_eqb d k o) at e

there_behind : (h : List Line) (ds : List ℕ) (l : Line) → AreThere h ds → AreThere (h ++ l ∷ []) (made_by ds l)
there_behind h ds (line.Event (event.Drive k key capacity)) there d e = elim (cases_eq d k) [
  | inl it ↦ ap (λ (s : DriveSeen). is_some s.drive)
      (reads_on h (line.Event (event.Drive k key capacity) ∷ []) d (drive_seen d h) refl)
      ∙ rw (eq-eqb k d (sym it)) refl
  | inr o ↦ stays h (line.Event (event.Drive k key capacity)) d (there d (later d k ds o e))
]
there_behind h ds (line.Event (event.Disk k key capacity)) there d e = elim (cases_eq d k) [
  | inl it ↦ ap (λ (s : DriveSeen). is_some s.drive)
      (reads_on h (line.Event (event.Disk k key capacity) ∷ []) d (drive_seen d h) refl)
      ∙ rw (eq-eqb k d (sym it)) refl
  | inr o ↦ stays h (line.Event (event.Disk k key capacity)) d (there d (later d k ds o e))
]
there_behind h ds l there d e = stays h l d (there d e)

pub lines_fit : (before : List Line) (ds : List ℕ) (ls : List Line) → EachBehind HoldsAt before ls → AreNamed ls
    → AreThere before ds → AreFit ds ls
lines_fit before ds [] each named there = tt
lines_fit before ds (l ∷ ls) each named there = (
  named.0,
  is_new before ds l (arises_of before l each.0) there,
  lines_fit (before ++ l ∷ []) (made_by ds l) ls each.1 named.1 (there_behind before ds l there),
)

-- ---- steps

-- the lines with which steps begin
abbrev pub heads : List Step → List Line
heads ts = map (λ (t : Step). t.head) ts

makes_none : (ds : List ℕ) (l : Line) → is_head l ≡ false → made_by ds l ≡ ds
makes_none ds (line.Event e) f = absurd (cc f)
makes_none ds l f = refl

with_line : (b : Bool) (ds : List ℕ) (l : Line) (g : Grouped) → is_head l ≡ b → IsNamed l → IsNew ds l
    → AreFit (made_by ds l) (heads g.steps) → AreFit ds (heads (grouped_with b l g).steps)
with_line true ds l g e named new rest = (named, new, rest)
with_line false ds l g e named new rest =
    subst (λ (x : List ℕ). AreFit x (heads g.steps)) (makes_none ds l e) rest

-- the other lines make nothing
pub heads_fit : (ds : List ℕ) (h : List Line) → AreFit ds h → AreFit ds (heads (grouped h).steps)
unfolding grouped
heads_fit ds [] fit = tt
heads_fit ds (l ∷ ls) fit =
    with_line (is_head l) ds l (grouped ls) refl fit.0 fit.1 (heads_fit (made_by ds l) ls fit.2)
