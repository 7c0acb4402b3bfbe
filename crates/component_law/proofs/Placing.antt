-- The drives on which files are made, and those that the server knows.
use Rattle.std.proofs.Common.{◌≡◌, ◌⊎◌, ℕ, zero, suc, ◌+◌, ◌==◌, ◌&&◌, not, nat_lt, ◌∷◌, [], List, Bool, true, false, Option, Some, None, is_some, find, map, filter, take, length, true≢false, refl, sym, ap, subst, ◌∙◌, inl, inr}
use Rattle.std.specs.List.{list_any}
use Rattle.std.proofs.lemmas.Bool.{cases_Bool, eq-eqb, ne_eqb, or_parts}
use Rattle.osd_lists.proofs.Tests.{second_true}
use Rattle.server_rules.specs.Numbers.{among}
use Rattle.server_rules.specs.Files.{Step, add_file}
use Rattle.server_rules.specs.Requests.{on_request}
use Rattle.server_rules.specs.Making.{online, refusal, unless_refused, are_of, places, drives_for, components_on, unmade, makes_file, create_file, add_drive, new_server}
use Rattle.server_rules.specs.Orders.{offline, declare}
use Rattle.server_rules.specs.Zoning.{and_in_zone, in_zones}
use Rattle.zone_place.specs.Zones as zones
use Rattle.zone_place.proofs.Members.{spread_different}
use Rattle.server_rules.proofs.Zoned.{map_zoned}
use Rattle.server_rules.specs.History.{Input, Makes, Adds, Act, step, state_after, unless_made}
use Rattle.server_rules.proofs.FileLaws.{not_there}
use Rattle.world_history.specs.ServerNames.{Server, File, Drive, ClientRequest, Refusal, RawMap}
use Rattle.history_law.proofs.Steps.{each_request, each_step}
use Rattle.component_law.specs.Words.{Each}
use Rattle.component_law.specs.Going.{taken_out}
use Rattle.component_law.specs.Naming.{IsNamedInput}
use Rattle.component_law.specs.Sound.{IsSound}
use Rattle.component_law.specs.Apart.{AreDifferent, AreApart, IsApart, IsFresh, EachStepIsApart, AreGiven, ComponentsApart}
use Rattle.component_law.proofs.Drives.{drives, not_first, not_among}
use Rattle.component_law.proofs.Rounds.{apart_went}
use Rattle.component_law.proofs.Steps.{went, makes}
use Rattle.component_law.proofs.Making.{each_added, none_there, went_made, each_step_is_sound}

abbrev pub numbers : List Drive → List ℕ
numbers ds = map (λ (d : Drive). d.number) ds

-- ---- the drives of a new file

not_filtered : (n : ℕ) (p : Drive → Bool) (ds : List Drive) → among n (numbers ds) ≡ false
    → among n (numbers (filter p ds)) ≡ false
not_filtered n p [] h = h
not_filtered n p (d ∷ ds) h = elim (cases_Bool (p d)) [
  | inl t ↦ rw t (not_among n d.number (numbers (filter p ds)) (not_first n d.number (numbers ds) h).0
      (not_filtered n p ds (not_first n d.number (numbers ds) h).1))
  | inr z ↦ rw z (not_filtered n p ds (not_first n d.number (numbers ds) h).1)
]

pub different_filtered : (p : Drive → Bool) (ds : List Drive) → AreDifferent (numbers ds) → AreDifferent (numbers (filter p ds))
different_filtered p [] h = tt
different_filtered p (d ∷ ds) h = elim (cases_Bool (p d)) [
  | inl t ↦ rw t (not_filtered d.number p ds h.0, different_filtered p ds h.1)
  | inr z ↦ rw z (different_filtered p ds h.1)
]

not_taken : (n k : ℕ) (ns : List ℕ) → among n ns ≡ false → among n (take k ns) ≡ false
unfolding among
not_taken n zero ns h = refl
not_taken n (suc k) [] h = h
not_taken n (suc k) (m ∷ ns) h =
    not_among n m (take k ns) (not_first n m ns h).0 (not_taken n k ns (not_first n m ns h).1)

different_taken : (k : ℕ) (ns : List ℕ) → AreDifferent ns → AreDifferent (take k ns)
different_taken zero ns h = tt
different_taken (suc k) [] h = tt
different_taken (suc k) (n ∷ ns) h = (not_taken n k ns h.0, different_taken k ns h.1)

both : (a b c : Bool) → (a && (not b && c)) ≡ true → (b ≡ false) × (c ≡ true)
both true true c e = absurd (cc e)
both true false c e = (refl, e)
both false b c e = absurd (cc e)

different_chosen : (ds : List Drive) (ns : List ℕ) → are_of ds ns ≡ true → AreDifferent ns
unfolding are_of
different_chosen ds [] e = tt
different_chosen ds (n ∷ ns) e =
    let p : (among n ns ≡ false) × (are_of ds ns ≡ true) =
    both (is_some (find (λ (d : Drive). d.number == n) ds)) (among n ns) (are_of ds ns) e in
    (p.0, different_chosen ds ns p.1)

different_placed : (ds : List Drive) (count : ℕ) (chosen : List ℕ) → AreDifferent (numbers ds)
    → AreDifferent (places ds count chosen)
unfolding places
different_placed ds count chosen h = elim (cases_Bool ((length chosen == count) && are_of (online ds) chosen)) [
  | inl t ↦ rw t (different_chosen (online ds) chosen (second_true (length chosen == count) (are_of (online ds) chosen) t))
  | inr z ↦ rw z (different_taken count (numbers (online ds)) (different_filtered (λ (d : Drive). d.online) ds h))
]

-- drives in zones are different too
none_in_zones : (n : ℕ) (ds : List Drive) → among n (numbers ds) ≡ false → list_any (λ x. x.drive == n) (in_zones ds) ≡ false
unfolding in_zones among
none_in_zones n [] h = refl
none_in_zones n (d ∷ ds) h =
    let other : (n ≡ d.number → ⊥) × (among n (numbers ds) ≡ false) = not_first n d.number (numbers ds) h in
    either other.0 (none_in_zones n ds other.1) d.zone
  where
    either : (n ≡ d.number → ⊥) → list_any (λ x. x.drive == n) (in_zones ds) ≡ false → (o : Option ℕ)
        → list_any (λ x. x.drive == n) (and_in_zone d.number o (in_zones ds)) ≡ false
    either other rest None = rest
    either other rest (Some z) = rw (ne_eqb d.number n (λ q. other (sym q))) rest

different_in_zones : (ds : List Drive) → AreDifferent (numbers ds) → zones.AreDifferent (in_zones ds)
unfolding in_zones zones.AreDifferent
different_in_zones [] h = tt
different_in_zones (d ∷ ds) h = either (different_in_zones ds h.1) d.zone
  where
    either : zones.AreDifferent (in_zones ds) → (o : Option ℕ) → zones.AreDifferent (and_in_zone d.number o (in_zones ds))
    either rest None = rest
    either rest (Some z) = (none_in_zones d.number ds h.0, rest)

same_test : (n : ℕ) (ns : List ℕ) → list_any (λ k. k == n) ns ≡ false → among n ns ≡ false
unfolding among
same_test n [] e = e
same_test n (k ∷ ns) e =
    let p = or_parts (k == n) (list_any (λ j. j == n) ns) e in
    not_among n k ns (λ q. true≢false (sym (eq-eqb k n (sym q)) ∙ p.0)) (same_test n ns p.1)

different_among : (ds : List zones.InZone) (ns : List ℕ) → zones.are_among ds ns ≡ true → AreDifferent ns
unfolding zones.are_among
different_among ds [] e = tt
different_among ds (n ∷ ns) e =
    let p : (list_any (λ k. k == n) ns ≡ false) × (zones.are_among ds ns ≡ true) =
    both (list_any (λ d. d.drive == n) ds) (list_any (λ k. k == n) ns) (zones.are_among ds ns) e in
    (same_test n ns p.0, different_among ds ns p.1)

different_for : (zoned : Bool) (ds : List Drive) (m : RawMap) (chosen : List ℕ) → AreDifferent (numbers ds)
    → AreDifferent (drives_for zoned ds m chosen)
different_for false ds m chosen h = different_placed ds m.comps chosen h
different_for true ds m chosen h =
    different_among (in_zones (online ds)) _
    (spread_different (zones.ask_of m) (in_zones (online ds)) chosen
    (different_in_zones (online ds) (different_filtered (λ (d : Drive). d.online) ds h)))

drives_made : (ds : List ℕ) (object : ℕ) → drives (components_on ds object) ≡ ds
unfolding components_on
drives_made [] object = refl
drives_made (d ∷ ds) object = ap (λ (x : List ℕ). d ∷ x) (drives_made ds (object + 1))

-- ---- the drives that the server knows

pub numbers_offline : (ds : List Drive) (drive : ℕ) → numbers (offline ds drive) ≡ numbers ds
unfolding offline
numbers_offline [] drive = refl
numbers_offline (d ∷ ds) drive = elim (cases_Bool (d.number == drive)) [
  | inl t ↦ rw t (ap (λ (x : List ℕ). d.number ∷ x) (numbers_offline ds drive))
  | inr z ↦ rw z (ap (λ (x : List ℕ). d.number ∷ x) (numbers_offline ds drive))
]

not_added : (n : ℕ) (ds : List Drive) (d : Drive) → (n ≡ d.number → ⊥) → among n (numbers ds) ≡ false
    → among n (numbers (add_drive ds d)) ≡ false
unfolding add_drive
not_added n [] d o h = not_among n d.number [] o h
not_added n (e ∷ ds) d o h = elim (cases_Bool (nat_lt e.number d.number)) [
  | inl t ↦ rw t (not_among n e.number (numbers (add_drive ds d)) (not_first n e.number (numbers ds) h).0
      (not_added n ds d o (not_first n e.number (numbers ds) h).1))
  | inr z ↦ rw z (not_among n d.number (numbers (e ∷ ds)) o h)
]

different_added : (ds : List Drive) (d : Drive) → AreDifferent (numbers ds) → among d.number (numbers ds) ≡ false
    → AreDifferent (numbers (add_drive ds d))
unfolding add_drive
different_added [] d h a = (a, tt)
different_added (e ∷ ds) d h a = elim (cases_Bool (nat_lt e.number d.number)) [
  | inl t ↦ rw t (
    not_added e.number ds d (λ q. (not_first d.number e.number (numbers ds) a).0 (sym q)) h.0,
    different_added ds d h.1 (not_first d.number e.number (numbers ds) a).1,
  )
  | inr z ↦ rw z (a, h)
]

-- the same drives, or one more
abbrev Knows : Server → Input → Step → Type 0
Knows s i did =
    (numbers did.state.drives ≡ numbers s.drives)
    ⊎ ((d : Drive) × (i ≡ Adds d) × (did.state.drives ≡ add_drive s.drives d))

knows_request : (s : Server) (now : ℕ) (chosen : List ℕ) (q : ClientRequest)
    → numbers (on_request s now chosen q).state.drives ≡ numbers s.drives
knows_request s now chosen q =
    each_request s now chosen q (λ (t : Step). numbers t.state.drives ≡ numbers s.drives) (record {
      again = λ kept is. refl;
      misordered = λ expected is. refl;
      without = λ new none. refl;
      served = λ new f found. refl;
    })

knows_declared : (s : Server) (chosen : List ℕ) (drive : ℕ)
    → numbers (declare s chosen drive).state.drives ≡ numbers s.drives
unfolding declare
knows_declared s chosen drive = numbers_offline s.drives drive

knows_step : (s : Server) (chosen : List ℕ) (i : Input) → Knows s i (step s chosen i)
knows_step s chosen i = each_step s chosen i (Knows s i) (record {
  rests = inl refl;
  asked = λ now q is. inl (knows_request s now chosen q);
  answered = λ x is. inl refl;
  recalled = λ f is. inl refl;
  refused = λ f is n why. inl refl;
  fenced = λ f is kind none low. inl refl;
  declared = λ d known. inl (knows_declared s chosen d);
  told = λ t now o is result knows. knows;
  made = λ n m tag zoned is none. inl refl;
  added = λ d is. inr (d, is, refl);
  zoned = λ d zone is. inl (map_zoned (λ (x : Drive). x.number) (λ x z. refl) s.drives d zone);
  formats = λ n is. inl refl;
  resends = λ is. inl refl;
  crashes = λ is. inl refl;
  opened = λ is low. inl refl;
})

-- another drive than the one that is added, if any
abbrev pub IsOther : ℕ → Input → Type 0
IsOther n (Adds d) = n ≡ d.number → ⊥
IsOther n i = Unit {0}

-- behind a step, too, it doesn't know such a drive
pub not_known : (s : Server) (chosen : List ℕ) (i : Input) (n : ℕ) → IsOther n i → among n (numbers s.drives) ≡ false
    → among n (numbers (step s chosen i).state.drives) ≡ false
not_known s chosen i n o h = elim (knows_step s chosen i) [
  | inl same ↦ ap (λ (ns : List ℕ). among n ns) same ∙ h
  | inr (d, is, more) ↦
      ap (λ (ds : List Drive). among n (numbers ds)) more ∙ not_added n s.drives d (subst (IsOther n) is o) h
]

different_drives : (s : Server) (chosen : List ℕ) (i : Input) → AreDifferent (numbers s.drives) → IsFresh s i
    → AreDifferent (numbers (step s chosen i).state.drives)
different_drives s chosen i h a = elim (knows_step s chosen i) [
  | inl same ↦ subst AreDifferent (sym same) h
  | inr (d, is, more) ↦
      subst (λ (ds : List Drive). AreDifferent (numbers ds)) (sym more)
      (different_added s.drives d h (subst (IsFresh s) is a))
]

-- ---- each step

abbrev AllApart : List File → Type 0
AllApart fs = Each (λ (f : File). AreApart f.kept.components) fs

files_unless : (s : Server) (n : ℕ) (m : RawMap) (tag : ℕ) (zoned : Bool) (ds : List ℕ) (o : Option Refusal)
    → refusal s n m zoned ≡ o → IsSound s → AllApart s.files → AreDifferent ds
    → AllApart (unless_made s (unless_refused o (makes_file s (unmade s n m tag zoned ds)))).state.files
files_unless s n m tag zoned ds (Some r) e h a d = a
files_unless s n m tag zoned ds None e h a d =
    let f : File = unmade s n m tag zoned ds in
    apart_went None (add_file s.files f) (makes_file s f).state.files [] (makes_file s f).notes
    (each_added (λ (x : File). AreApart x.kept.components) s.files f a
    (subst AreDifferent (sym (drives_made ds s.next_object)) d))
    (went_made s f h (none_there s.files n (not_there s n m zoned e)) tt)

files_created : (s : Server) (chosen : List ℕ) (n : ℕ) (m : RawMap) (tag : ℕ) (zoned : Bool) → IsSound s → IsApart s
    → AllApart (step s chosen (Makes n m tag zoned)).state.files
unfolding create_file
files_created s chosen n m tag zoned h a =
    files_unless s n m tag zoned (drives_for zoned s.drives m chosen) (refusal s n m zoned) refl h a.files
    (different_for zoned s.drives m chosen a.drives)

files_by : (b : Bool) (s : Server) (chosen : List ℕ) (i : Input) → makes i ≡ b → IsSound s → IsApart s → IsNamedInput i
    → AllApart (step s chosen i).state.files
files_by true s chosen (Makes n m tag zoned) e h a named = files_created s chosen n m tag zoned h a
files_by true s chosen i e h a named = absurd (cc e)
files_by false s chosen i e h a named =
    let w = went s chosen i h named e in
    apart_went (taken_out s i) s.files (step s chosen i).state.files [] (step s chosen i).notes a.files w.each

pub each_step_is_apart : EachStepIsApart
each_step_is_apart s chosen i h a named fresh = record {
  drives = different_drives s chosen i a.drives fresh;
  files = files_by (makes i) s chosen i refl h a named;
}

apart_after : (s : Server) (acts : List Act) → IsSound s × IsApart s → AreGiven s acts
    → IsSound (state_after s acts) × IsApart (state_after s acts)
apart_after s [] h g = h
apart_after s (a ∷ acts) h g =
    apart_after (step s a.chosen a.input).state acts (
      each_step_is_sound s a.chosen a.input h.0 g.0,
      each_step_is_apart s a.chosen a.input h.0 h.1 g.0 g.1,
    ) g.2

pub components_apart : ComponentsApart
components_apart acts g =
    apart_after (new_server []) acts (
      record { distinct = tt; components = tt; aimed = tt; files = tt; drives = tt },
      record { drives = tt; files = tt },
    ) g
