-- In every lawful history the components of a file stand on different drives.
use Rattle.std.proofs.Common.{◌≡◌, ℕ, ◌==◌, ◌++◌, ◌∷◌, [], List, Bool, true, false, Option, Some, None, refl, subst, slice_get, inl, inr, fold, if◌then◌else◌}
use Rattle.std.proofs.lemmas.Bool.{cases_Bool}
use Rattle.scenario_text.specs.declared.event.Event.{Event}
use Rattle.scenario_text.specs.declared.event.Event.TheVariants as event
use Rattle.scenario_text.specs.declared.event.Machine.TheVariants as machine
use Rattle.scenario_text.specs.declared.line.Delivery.TheVariants as delivery
use Rattle.scenario_text.specs.declared.line.Party.{Party}
use Rattle.scenario_text.specs.declared.line.Party.TheVariants as party
use Rattle.scenario_text.specs.declared.line.Line.{Line}
use Rattle.scenario_text.specs.declared.line.Line.TheVariants as line
use Rattle.server_rules.specs.Numbers.{among}
use Rattle.server_rules.specs.Files.{file_at}
use Rattle.server_rules.specs.Making.{new_server}
use Rattle.server_rules.specs.Laws.{In}
use Rattle.server_rules.specs.Messages.{Message}
use Rattle.server_rules.specs.Envelopes.{message_in}
use Rattle.server_rules.specs.History.{Input, Hears, Makes, Obeys, Adds, Zones, Formats, Crashes, Opens, step}
use Rattle.world_history.specs.ServerNames.{Server, File, RawMap, ToRecall, ToRevoke, ToDeclare, ToRebuild, ToAudit}
use Rattle.world_history.specs.declared.messages.Sent.{Sent}
use Rattle.world_history.specs.Spelled.{node_of}
use Rattle.world_history.specs.Moves.{raw_of, has_algorithm, known_drive}
use Rattle.world_history.specs.Reading.{is_head, Step, grouped_with, grouped, steps_of}
use Rattle.world_history.specs.Book.{ServerSeen, heard, heard_for, heard_from, made_of, input_of, input_at, placed_in, step_by, server_behind, sees_server, server_at_first, server_after}
use Rattle.world_history.specs.History.{Lawful}
use Rattle.history_law.specs.Safe.{AtEachMoment}
use Rattle.history_law.proofs.Histories.{lawful}
use Rattle.history_law.proofs.Each.{EachBehind, HoldsAt, each_front}
use Rattle.history_law.proofs.DriveEvents.{IsRead, kept}
use Rattle.component_law.specs.Words.{Each}
use Rattle.component_law.specs.Naming.{IsNamed, AreNamed}
use Rattle.component_law.specs.Sound.{IsAimed, IsSound, EachStepIsSound}
use Rattle.component_law.specs.Apart.{AreApart, IsApart, IsFresh, EachStepIsApart}
use Rattle.component_law.proofs.Drives.{not_first}
use Rattle.component_law.proofs.FileFacts.{named_input}
use Rattle.component_law.proofs.Placing.{numbers, not_known}
use Rattle.component_law.specs.OnDrives.{StandApart, ComponentsStandApart}
use Rattle.component_law.proofs.MadeLines.{IsNew, made_by, AreFit, heads, none_there, lines_fit, heads_fit}

-- ---- what a line gives the server

-- a drive that is added was made by the line, is none of these, and is in no zone; one is put into a zone by its event
abbrev IsGiven : List ℕ → Line → Input → Type 0
IsGiven ds l (Adds d) = (made_by ds l ≡ d.number ∷ ds) × (among d.number ds ≡ false) × (d.zone ≡ None)
IsGiven ds l (Zones d zone) = l ≡ line.Event (event.Zone d zone)
IsGiven ds l i = Unit {0}

module _ (ds : List ℕ) (l : Line) where
  heard_one : (now : ℕ) (m : Sent) (o : Option Message) (i : Input) → heard_from now m.from o ≡ Some i → IsGiven ds l i
  heard_one now m None i e = absurd (cc e)
  heard_one now m (Some x) i e = let s : Hears now (node_of m.from) x ≡ i = cc e in subst (IsGiven ds l) s tt

  heard_by : (now : ℕ) (m : Sent) (p : Party) (i : Input) → heard_for now m p ≡ Some i → IsGiven ds l i
  heard_by now m party.Server i e = heard_one now m (message_in (node_of m.from) m.bytes) i e
  heard_by now m p i e = absurd (cc e)

  heard_as : (now : ℕ) (o : Option Sent) (i : Input) → heard now o ≡ Some i → IsGiven ds l i
  heard_as now None i e = absurd (cc e)
  heard_as now (Some m) i e = heard_by now m m.to i e

  made_as : (f : ℕ) (m : RawMap) (tag : ℕ) (zoned : Bool) (i : Input) → made_of f m tag zoned ≡ Some i → IsGiven ds l i
  made_as f m tag zoned i e = elim (cases_Bool (has_algorithm m)) [
    | inl t ↦ let s : Makes f m tag zoned ≡ i = cc (rw t at e) in subst (IsGiven ds l) s tt
    | inr z ↦ absurd (cc (rw z at e))
  ]

given_by : (ds : List ℕ) (v : Event) (i : Input) → input_of v ≡ Some i → IsNew ds (line.Event v)
    → IsGiven ds (line.Event v) i
given_by ds (event.Drive d key capacity) i e new =
    let s : Adds (known_drive d key capacity) ≡ i = cc e in
    subst (IsGiven ds (line.Event (event.Drive d key capacity))) s (refl, new, refl)
given_by ds (event.Disk d key capacity) i e new =
    let s : Adds (known_drive d key capacity) ≡ i = cc e in
    subst (IsGiven ds (line.Event (event.Disk d key capacity))) s (refl, new, refl)
given_by ds (event.File f m tag) i e new = made_as ds (line.Event (event.File f m tag)) f (raw_of m) tag false i e
given_by ds (event.ZonedFile f m tag) i e new = made_as ds (line.Event (event.ZonedFile f m tag)) f (raw_of m) tag true i e
given_by ds (event.Format format) i e new =
    let s : Formats format ≡ i = cc e in subst (IsGiven ds (line.Event (event.Format format))) s tt
given_by ds (event.Zone d zone) i e new =
    let s : Zones d zone ≡ i = cc e in subst (IsGiven ds (line.Event (event.Zone d zone))) s refl
given_by ds (event.Recall f) i e new =
    let s : Obeys ToRecall f ≡ i = cc e in subst (IsGiven ds (line.Event (event.Recall f))) s tt
given_by ds (event.Revoke f) i e new =
    let s : Obeys ToRevoke f ≡ i = cc e in subst (IsGiven ds (line.Event (event.Revoke f))) s tt
given_by ds (event.Rebuild f) i e new =
    let s : Obeys ToRebuild f ≡ i = cc e in subst (IsGiven ds (line.Event (event.Rebuild f))) s tt
given_by ds (event.Audit f) i e new =
    let s : Obeys ToAudit f ≡ i = cc e in subst (IsGiven ds (line.Event (event.Audit f))) s tt
given_by ds (event.Declare d) i e new =
    let s : Obeys ToDeclare d ≡ i = cc e in subst (IsGiven ds (line.Event (event.Declare d))) s tt
given_by ds (event.Crash (machine.Drive d)) i e new = absurd (cc e)
given_by ds (event.Crash machine.Server) i e new =
    let s : Crashes ≡ i = cc e in subst (IsGiven ds (line.Event (event.Crash machine.Server))) s tt
given_by ds (event.Reopen (machine.Drive d)) i e new = absurd (cc e)
given_by ds (event.Reopen machine.Server) i e new =
    let s : Opens ≡ i = cc e in subst (IsGiven ds (line.Event (event.Reopen machine.Server))) s tt
given_by ds v i e new = absurd (cc e)

given : (s : ServerSeen) (ds : List ℕ) (l : Line) (i : Input) → input_at s l ≡ Some i → IsNew ds l → IsGiven ds l i
given s ds (line.Event v) i e new = given_by ds v i e new
given s ds (line.Delivered number delivery.Deaf) i e new = absurd (cc e)
given s ds (line.Delivered number d) i e new =
    heard_as ds (line.Delivered number d) s.clock (slice_get s.sent number) i e
given s ds l i e new = absurd (cc e)

-- ---- the server that is read off the lines

-- it knows no drive but these
abbrev KnowsNone : List ℕ → Server → Type 0
KnowsNone ds s = (n : ℕ) → among n ds ≡ false → among n (numbers s.drives) ≡ false

is_fresh : (s : Server) (ds : List ℕ) (l : Line) (i : Input) → IsGiven ds l i → KnowsNone ds s → IsFresh s i
is_fresh s ds l (Adds d) g k = k d.number g.1
is_fresh s ds l i g k = tt

not_made : (ds : List ℕ) (l : Line) (n : ℕ) → among n (made_by ds l) ≡ false → among n ds ≡ false
not_made ds (line.Event (event.Drive d key capacity)) n e = (not_first n d ds e).1
not_made ds (line.Event (event.Disk d key capacity)) n e = (not_first n d ds e).1
not_made ds l n e = e

knows_then : (s : Server) (placed ds : List ℕ) (l : Line) (i : Input) → IsGiven ds l i → KnowsNone ds s
    → KnowsNone (made_by ds l) (step s placed i).state
knows_then s placed ds l (Adds d) g k n e =
    let p : (n ≡ d.number → ⊥) × (among n ds ≡ false) =
    not_first n d.number ds (subst (λ (x : List ℕ). among n x ≡ false) g.0 e) in
    not_known s placed (Adds d) n p.0 (k n p.1)
knows_then s placed ds l i g k n e = not_known s placed i n tt (k n (not_made ds l n e))

-- what comes is told by these lines, as far as it is of zones
abbrev pub IsTold : List Line → Input → Type 0
IsTold h (Adds d) = d.zone ≡ None
IsTold h (Zones d zone) = In (line.Event (event.Zone d zone)) h
IsTold h i = Unit {0}

is_told : (h : List Line) (ds : List ℕ) (l : Line) (i : Input) → IsGiven ds l i → In l h → IsTold h i
is_told h ds l (Adds d) g there = g.2
is_told h ds l (Zones d zone) g there = subst (λ (x : Line). In x h) g there
is_told h ds l i g there = tt

-- P lasts through each step that the lines tell, where a drive that is added is new
abbrev pub Lasts : List Line → (Server → Type 0) → Type 0
Lasts h P = (s : Server) (chosen : List ℕ) (i : Input) → IsApart s → IsFresh s i → IsTold h i → P s → P (step s chosen i).state

head_among : (b : Bool) (x : Line) (h : List Line) (l : Line) → (In l (heads (steps_of h)) → In l h)
    → In l (heads (grouped_with b x (grouped h)).steps) → In l (x ∷ h)
head_among true x h l rest (inl e) = inl e
head_among true x h l rest (inr i) = inr (rest i)
head_among false x h l rest i = inr (rest i)

heads_among : (h : List Line) (l : Line) → In l (heads (steps_of h)) → In l h
unfolding grouped
heads_among [] l i = absurd i
heads_among (x ∷ h) l i = head_among (is_head x) x h l (heads_among h l) i

module _ (sound : EachStepIsSound) (apart : EachStepIsApart) (P : List Line → Server → Type 0)
    (lasts : (h : List Line) → Lasts h (P h)) (first : (h : List Line) → P h (new_server [])) where
  -- its files are sound, and their components stand apart
  abbrev Stands : List Line → List ℕ → Server → Type 0
  Stands h ds s = IsSound s × IsApart s × KnowsNone ds s × P h s

  step_stands : (h : List Line) (s : ServerSeen) (placed ds : List ℕ) (l : Line) (o : Option Input) → input_at s l ≡ o
      → IsNamed l → IsNew ds l → In l h → Stands h ds s.server
      → Stands h (made_by ds l) (server_behind s.server (step_by s.server placed o))
  step_stands all s placed ds l None e named new there h = (h.0, h.1, λ n q. h.2 n (not_made ds l n q), h.3)
  step_stands all s placed ds l (Some i) e named new there h =
      let g = given s ds l i e new in
      let fit = named_input s l i e named in
      let fresh = is_fresh s.server ds l i g h.2 in (
        sound s.server placed i h.0 fit,
        apart s.server placed i h.0 h.1 fit fresh,
        knows_then s.server placed ds l i g h.2,
        lasts all s.server placed i h.1 fresh (is_told all ds l i g there) h.3,
      )

  -- So it is of a server, with P.
  abbrev pub Stood : List Line → Server → Type 0
  Stood h s = IsSound s × IsApart s × P h s

  steps_stand : (h : List Line) (s : ServerSeen) (ds : List ℕ) (ts : List Step) → AreFit ds (heads ts)
      → ((l : Line) → In l (heads ts) → In l h) → Stands h ds s.server → Stood h (fold sees_server s ts).server
  steps_stand all s ds [] fit there h = (h.0, h.1, h.3)
  steps_stand all s ds (t ∷ ts) fit there h =
      steps_stand all (sees_server s t) (made_by ds t.head) ts fit.2 (λ l i. there l (inr i))
      (step_stands all s (placed_in t.rest) ds t.head (input_at s t.head) refl fit.0 fit.1 (there t.head (inl refl)) h)

  -- ---- at each moment

  stands_after : (h : List Line) → AreNamed h → EachBehind HoldsAt [] h → Stood h (server_after h)
  stands_after h named each =
      steps_stand h server_at_first [] (steps_of h) (heads_fit [] h (lines_fit [] [] h each named none_there))
      (heads_among h) (
        record { distinct = tt; components = tt; aimed = tt; files = tt; drives = tt },
        record { drives = tt; files = tt },
        λ n e. e,
        first h,
      )

  named_front : (xs ys : List Line) → AreNamed (xs ++ ys) → AreNamed xs
  named_front [] ys n = tt
  named_front (x ∷ xs) ys n = (n.0, named_front xs ys n.1)

  pub stands_at : (h : List Line) → Lawful h → AreNamed h → AtEachMoment (λ before. Stood before (server_after before)) h
  stands_at h l named before after is =
      let further = lawful IsRead kept h l in
      let each : EachBehind HoldsAt [] h = each_front HoldsAt [] h further.1 further.2.lines in
      stands_after before (named_front before after (subst AreNamed is named))
      (each_front HoldsAt [] before after (subst (EachBehind HoldsAt []) is each))

-- ---- components

file_stands : (fs : List File) (n : ℕ) → Each IsAimed fs → Each (λ (f : File). AreApart f.kept.components) fs
    → StandApart (file_at fs n)
unfolding file_at
file_stands [] n a c = tt
file_stands (f ∷ fs) n a c = either (f.kept.number == n) (file_stands fs n a.1 c.1)
  where
    either : (b : Bool) → StandApart (file_at fs n) → StandApart (if b then Some f else file_at fs n)
    either true rest = (c.0, a.0)
    either false rest = rest

pub components_stand_apart : EachStepIsSound → EachStepIsApart → ComponentsStandApart
components_stand_apart sound apart h l named before after is file =
    let s = stands_at sound apart (λ h s. Unit {0}) (λ h s chosen i a fresh told p. p) (λ h. tt) h l named before after is in
    file_stands (server_after before).files file s.0.aimed s.1.files
