-- At each moment the keys of drives are those that the server has, and come from the events that made them.
use Rattle.std.proofs.Common.{◌≡◌, ℕ, ◌++◌, [], ◌∷◌, List, Bool, true, false, Option, Some, None, refl, sym, ap, subst, ◌∙◌, inl, inr}
use Rattle.std.proofs.lemmas.Bool.{cases_eq}
use Rattle.osd_objects.proofs.Entries.{lookup_inserted, lookup_beside}
use Rattle.osd_drive.specs.declared.keys.DriveKey.{DriveKey}
use Rattle.server_rules.specs.Laws.{In}
use Rattle.server_rules.specs.Making.{add_drive}
use Rattle.scenario_text.specs.declared.event.Event.{Event}
use Rattle.scenario_text.specs.declared.event.Event.TheVariants as event
use Rattle.scenario_text.specs.declared.line.Line.{Line}
use Rattle.scenario_text.specs.declared.line.Line.TheVariants as line
use Rattle.world_history.specs.ServerNames.{Drive}
use Rattle.world_history.specs.Drives.{first_key, made_drive}
use Rattle.world_history.specs.State.{World, DriveAt, at_number, and_number}
use Rattle.world_history.specs.Moves.{Action, Opens, Delivers, TimesOut, Pends, gives, known_drive, adds_drive, begins, acts}
use Rattle.world_history.specs.Sending.{Move, move}
use Rattle.world_history.specs.Plans.{due, went_on, plan_of}
use Rattle.world_history.specs.Runs.{world_after, plan_after}
use Rattle.world_history.specs.History.{OneEventMore}
use Rattle.world_history.specs.Refusals.{refusal}
use Rattle.world_history.proofs.Runs.{no_opening}
use Rattle.history_law.specs.Moves.{drive_event}
use Rattle.history_law.specs.BookMoments.{IsMoment, with_event, lines_in, plan_at}
use Rattle.history_law.proofs.DriveEvents.{new_there}
use Rattle.exchange_law.proofs.SlotMoments.{always, not_opened}
use Rattle.component_law.proofs.Servers.{known_keys, added_here, added_other, not_known}
use Rattle.component_law.proofs.Moves.{keys_of, Stays, acts_stay}

-- ---- a drive that comes is new

new_at : (w : World) (d : ℕ) (key : List ℕ) (capacity : ℕ) (stored : Bool)
    → refusal w (drive_event d key capacity stored) ≡ None → at_number w.drives d ≡ None
unfolding refusal
new_at w d key capacity true e = new_there (at_number w.drives d) w e
new_at w d key capacity false e = new_there (at_number w.drives d) w e

new_by : (v w : World) (e : Event) (ms : List Move) (d : ℕ) (key : List ℕ) (capacity : ℕ) (stored : Bool)
    → w ≡ world_after v ms → refusal v e ≡ None
    → due (plan_after (plan_of v e) ms) w ≡ Some (Opens (drive_event d key capacity stored))
    → at_number w.drives d ≡ None
new_by v w e [] d key capacity stored is allowed s =
    let same : e ≡ drive_event d key capacity stored = opened s in
    new_at w d key capacity stored
    (ap (λ (x : Event). refusal w x) (sym same) ∙ ap (λ (u : World). refusal u e) is ∙ allowed)
  where
    opened : Some (Opens e) ≡ Some (Opens (drive_event d key capacity stored)) → e ≡ drive_event d key capacity stored
    opened x = cc x
new_by v w e (m ∷ ms) d key capacity stored is allowed s =
    absurd (not_opened w (plan_after (plan_of v e) (m ∷ ms)) (drive_event d key capacity stored)
    (no_opening (went_on (plan_of v e) m.action) ms refl) s)

-- ---- what holds at each moment

-- the event of a drive brought these keys
abbrev pub Made : List Line → ℕ → Option (List DriveKey) → Type 0
Made h d None = Unit {0}
Made h d (Some keys) =
    (key : List ℕ) × (capacity : ℕ) × (stored : Bool) × In (line.Event (drive_event d key capacity stored)) h
    × (keys ≡ first_key key ∷ [])

pub record AreKnown (w : World) (h : List Line) : Type 0 where
  pub same : (d : ℕ) → keys_of (at_number w.drives d) ≡ known_keys w.server.drives d
  pub made : (d : ℕ) → Made h d (keys_of (at_number w.drives d))

in_longer : (x : Line) (h ls : List Line) → In x h → In x (h ++ ls)
in_longer x [] ls i = absurd i
in_longer x (l ∷ h) ls (inl e) = inl e
in_longer x (l ∷ h) ls (inr i) = inr (in_longer x h ls i)

in_behind : (x : Line) (h ls : List Line) → In x (h ++ x ∷ ls)
in_behind x [] ls = inl refl
in_behind x (l ∷ h) ls = inr (in_behind x h ls)

made_longer : (h ls : List Line) (d : ℕ) (o : Option (List DriveKey)) → Made h d o → Made (h ++ ls) d o
made_longer h ls d None m = tt
made_longer h ls d (Some keys) m = (m.0, m.1, m.2, in_longer _ h ls m.3, m.4)

stayed : (w v : World) (h ls : List Line) → Stays w v → AreKnown w h → AreKnown v (h ++ ls)
stayed w v h ls s k = record {
  same = λ d. s.drives d ∙ k.same d ∙ sym (s.known d);
  made = λ d. subst (Made (h ++ ls) d) (sym (s.drives d))
      (made_longer h ls d (keys_of (at_number w.drives d)) (k.made d));
}

-- ---- a drive more

module _ (w : World) (h : List Line) (k : AreKnown w h) (d : ℕ) (key : List ℕ) (capacity : ℕ)
    (stored : Bool) (new : at_number w.drives d ≡ None) where
  abbrev drives : List (ℕ × DriveAt)
  drives = and_number w.drives d (made_drive d key capacity stored)

  abbrev servers : List Drive
  servers = add_drive w.server.drives (known_drive d key capacity)

  unknown : known_keys w.server.drives d ≡ None
  unknown = sym (k.same d) ∙ ap keys_of new

  here : keys_of (at_number drives d) ≡ Some (first_key key ∷ [])
  here = ap keys_of (lookup_inserted w.drives d (made_drive d key capacity stored))

  beside : (q : ℕ) → (q ≡ d → ⊥) → keys_of (at_number drives q) ≡ keys_of (at_number w.drives q)
  beside q other = ap keys_of (lookup_beside w.drives d q (made_drive d key capacity stored) other)

  alike : (q : ℕ) → keys_of (at_number drives q) ≡ known_keys servers q
  alike q = elim (cases_eq q d) [
    | inl it ↦ ap (λ (j : ℕ). keys_of (at_number drives j)) it ∙ here
        ∙ sym (added_here w.server.drives (known_drive d key capacity) unknown)
        ∙ ap (λ (j : ℕ). known_keys servers j) (sym it)
    | inr other ↦ beside q other ∙ k.same q
        ∙ sym (added_other w.server.drives (known_drive d key capacity) q (λ e. other (sym e)))
  ]

  made_more : (ls : List Line) (q : ℕ)
      → Made (h ++ line.Event (drive_event d key capacity stored) ∷ ls) q (keys_of (at_number drives q))
  made_more ls q = elim (cases_eq q d) [
    | inl it ↦ subst
        (λ (j : ℕ). Made (h ++ line.Event (drive_event d key capacity stored) ∷ ls) j (keys_of (at_number drives j)))
        (sym it) (subst (Made (h ++ line.Event (drive_event d key capacity stored) ∷ ls) d) (sym here)
        (key, capacity, stored, in_behind (line.Event (drive_event d key capacity stored)) h ls, refl))
    | inr other ↦ subst (Made (h ++ line.Event (drive_event d key capacity stored) ∷ ls) q) (sym (beside q other))
        (made_longer h _ q (keys_of (at_number w.drives q)) (k.made q))
  ]

  pub comes : (ls : List Line) → AreKnown (adds_drive w d key capacity stored).world
      (h ++ line.Event (drive_event d key capacity stored) ∷ ls)
  unfolding gives
  comes ls =
      rw (not_known w.server.drives d unknown) (record { same = alike; made = made_more ls })

-- ---- a move

module _ (w : World) (h : List Line) (k : IsMoment w h) where
  pub goes : (chosen : List ℕ) (action : Action) (ls : List Line) → due (plan_at k) w ≡ Some action → AreKnown w h
      → AreKnown (acts w chosen action).world (h ++ with_event action ls)
  unfolding begins
  goes chosen (Opens (event.Drive d key capacity)) ls s a =
      comes w h a d key capacity false (new_by k.before w k.event k.moves d key capacity false k.world_is k.allowed s) ls
  goes chosen (Opens (event.Disk d key capacity)) ls s a =
      comes w h a d key capacity true (new_by k.before w k.event k.moves d key capacity true k.world_is k.allowed s) ls
  goes chosen (Opens e) ls s a = stayed w _ h _ (acts_stay w chosen (Opens e) tt) a
  goes chosen (Delivers number) ls s a = stayed w _ h _ (acts_stay w chosen (Delivers number) tt) a
  goes chosen (TimesOut c component) ls s a = stayed w _ h _ (acts_stay w chosen (TimesOut c component) tt) a
  goes chosen (Pends c) ls s a = stayed w _ h _ (acts_stay w chosen (Pends c) tt) a

-- keys that the server knows stay
module _ (w : World) (h : List Line) (k : IsMoment w h) (a : AreKnown w h) (q : ℕ) (keys : List DriveKey)
    (has : known_keys w.server.drives q ≡ Some keys) where
  beside_new : (d : ℕ) (key : List ℕ) (capacity : ℕ) (stored : Bool) → at_number w.drives d ≡ None
      → known_keys (adds_drive w d key capacity stored).world.server.drives q ≡ Some keys
  unfolding gives
  beside_new d key capacity stored new =
      let none : known_keys w.server.drives d ≡ None = sym (a.same d) ∙ ap keys_of new in
      rw (not_known w.server.drives d none)
      (added_other w.server.drives (known_drive d key capacity) q
      (λ it. absurd (cc (sym none ∙ ap (λ (n : ℕ). known_keys w.server.drives n) it ∙ has))) ∙ has)

  pub keys_stay : (chosen : List ℕ) (action : Action) → due (plan_at k) w ≡ Some action
      → known_keys (acts w chosen action).world.server.drives q ≡ Some keys
  unfolding begins
  keys_stay chosen (Opens (event.Drive d key capacity)) s =
      beside_new d key capacity false
      (new_by k.before w k.event k.moves d key capacity false k.world_is k.allowed s)
  keys_stay chosen (Opens (event.Disk d key capacity)) s =
      beside_new d key capacity true (new_by k.before w k.event k.moves d key capacity true k.world_is k.allowed s)
  keys_stay chosen (Opens e) s = (acts_stay w chosen (Opens e) tt).known q ∙ has
  keys_stay chosen (Delivers number) s = (acts_stay w chosen (Delivers number) tt).known q ∙ has
  keys_stay chosen (TimesOut c component) s = (acts_stay w chosen (TimesOut c component) tt).known q ∙ has
  keys_stay chosen (Pends c) s = (acts_stay w chosen (Pends c) tt).known q ∙ has

pub moved : (w : World) (h : List Line) (k : IsMoment w h) (m : Move) → due (plan_at k) w ≡ Some m.action → AreKnown w h
    → AreKnown (move w m).world (h ++ lines_in w m)
moved w h k m s a =
    let x = goes w h k m.chosen m.action (move w m).lines s a in record { same = x.same; made = x.made }

pub are_known : OneEventMore → (w : World) (h : List Line) → IsMoment w h → AreKnown w h
are_known more w h k =
    always AreKnown (record { starts = record { same = λ d. refl; made = λ d. tt }; moves = moved }) more w h k
