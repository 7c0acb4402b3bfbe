-- Each component of a file, and what a rebuild makes anew, stands on a drive that the server knows.
use Rattle.std.proofs.Common.{◌≡◌, ◌⊎◌, ◌==◌, ◌&&◌, ◌+◌, not, ℕ, zero, suc, nat_lt, List, [], ◌∷◌, Bool, true, false, Option, Some, None, is_some, find, filter, take, length, option_map, slice_get, slice_set, refl, sym, ap, subst, ◌∙◌, inl, inr, if◌then◌else◌}
use Rattle.std.specs.List.{list_any}
use Rattle.std.proofs.lemmas.Bool.{cases_Bool, eq-eqb, and_parts}
use Rattle.osd_lists.proofs.Tests.{second_true}
use Rattle.zone_place.specs.Zones.{InZone, ask_of}
use Rattle.zone_place.proofs.Members.{are_there, spread_there}
use Rattle.server_rules.specs.Files.{Step, at_file, begins, put_file, add_file}
use Rattle.server_rules.specs.Going.{Going, noting}
use Rattle.server_rules.specs.History.{Input, Act, step, state_after}
use Rattle.server_rules.specs.Jobs.{fence_begins, making}
use Rattle.server_rules.specs.Laws.{In}
use Rattle.server_rules.specs.Making.{add_drive, are_of, online, places, drives_for, components_on, makes_file, with_file}
use Rattle.server_rules.specs.Numbers.{among}
use Rattle.server_rules.specs.Openings.{opens_each}
use Rattle.server_rules.specs.Orders.{offline, declare}
use Rattle.server_rules.specs.Rebuild.{or_first, picked, target_on, target_for}
use Rattle.server_rules.specs.Replies.{hearing}
use Rattle.server_rules.specs.Requests.{serves, on_request}
use Rattle.server_rules.specs.Standing.{free_drives, stood_on, lose_from, lose_on}
use Rattle.server_rules.specs.Zoning.{and_in_zone, in_zones, put_in_zone, takers, takers_by, zone_has_room}
use Rattle.server_rules.proofs.Members.{in_mapped}
use Rattle.world_history.specs.ServerNames.{Server, File, Kept, Component, Drive, Target, RawMap, ClientRequest}
use Rattle.world_history.specs.State.{World}
use Rattle.history_law.specs.HistoryMoments.{IsReached}
use Rattle.history_law.specs.Parties.{AllPartiesRun}
use Rattle.history_law.specs.Steps.{new_file, answered_file}
use Rattle.history_law.proofs.Files.{Each, in_at, put_each, add_each, crashed_each, declared_each, opened_each}
use Rattle.history_law.proofs.Steps.{each_step, each_request}
use Rattle.component_law.proofs.Drives.{drives, drives_lost, drives_on}
use Rattle.component_law.proofs.Walking.{IsWalked, Ends, ends_hears, ends_fence, ends_declares, ends_opens, ends_making, ends_serves}
use Rattle.component_law.specs.Listed.{IsKnown}
use Rattle.component_law.proofs.Servers.{known_keys, offline_keys, zoned_keys}
use Rattle.component_law.specs.Objects.{target_of}

-- ---- the drives that the server knows

mapped_some : {A B : Type 0} (f : A → B) (o : Option A) → is_some (option_map f o) ≡ is_some o
mapped_some f None = refl
mapped_some f (Some x) = refl

-- the server knows a drive where it has a key for it
pub known_keyed : (ds : List Drive) (n : ℕ) → is_some (known_keys ds n) ≡ is_some (find (λ (d : Drive). d.number == n) ds)
known_keyed ds n = mapped_some _ (find (λ (d : Drive). d.number == n) ds)

-- so it does where the keys are the same
pub known_same : (ds es : List Drive) (n : ℕ) → known_keys es n ≡ known_keys ds n → IsKnown ds n → IsKnown es n
known_same ds es n same e = sym (known_keyed es n) ∙ ap is_some same ∙ known_keyed ds n ∙ e

known_added : (ds : List Drive) (x : Drive) (n : ℕ) → IsKnown ds n → IsKnown (add_drive ds x) n
unfolding add_drive
known_added [] x n e = absurd (cc e)
known_added (y ∷ ds) x n e = elim (cases_Bool (nat_lt y.number x.number)) [
  | inl t ↦ rw t (elim (cases_Bool (y.number == n)) [
    | inl it ↦ rw it refl
    | inr other ↦ rw other (known_added ds x n (rw other at e))
  ])
  | inr z ↦ rw z (elim (cases_Bool (x.number == n)) [ inl it ↦ rw it refl | inr other ↦ rw other e ])
]

known_filtered : (p : Drive → Bool) (ds : List Drive) (n : ℕ) → IsKnown (filter p ds) n → IsKnown ds n
known_filtered p [] n e = e
known_filtered p (d ∷ ds) n e = elim (cases_Bool (d.number == n)) [
  | inl it ↦ rw it refl
  | inr other ↦ rw other (known_filtered p ds n (elim (cases_Bool (p d)) [
    | inl t ↦ rw (t, other) at e
    | inr z ↦ rw z at e
  ]))
]

known_member : (ds : List Drive) (d : Drive) → In d ds → IsKnown ds d.number
known_member [] d i = absurd i
known_member (x ∷ ds) d (inl same) = rw (eq-eqb x.number d.number (ap (λ (y : Drive). y.number) (sym same))) refl
known_member (x ∷ ds) d (inr i) = elim (cases_Bool (x.number == d.number)) [
  | inl it ↦ rw it refl
  | inr other ↦ rw other (known_member ds d i)
]

-- each of these is known
abbrev AllIn : List Drive → List ℕ → Type 0
AllIn ds ns = (n : ℕ) → In n ns → IsKnown ds n

-- ---- where a component is made anew

known_first : (chosen : List ℕ) (d : Drive) (ds : List Drive) → IsKnown (d ∷ ds) (or_first chosen d ds)
known_first [] d ds = rw (eq-eqb d.number d.number refl) refl
known_first (c ∷ cs) d ds = either (is_some (find (λ (e : Drive). e.number == c) (d ∷ ds))) refl
  where
    either : (b : Bool) → is_some (find (λ (e : Drive). e.number == c) (d ∷ ds)) ≡ b
        → IsKnown (d ∷ ds) (if b then c else d.number)
    either true e = e
    either false e = rw (eq-eqb d.number d.number refl) refl

known_picked : (chosen : List ℕ) (ds : List Drive) (n : ℕ) → picked chosen ds ≡ Some n → IsKnown ds n
known_picked chosen [] n e = absurd (cc e)
known_picked chosen (d ∷ ds) n e =
    let s : or_first chosen d ds ≡ n = cc e in subst (IsKnown (d ∷ ds)) s (known_first chosen d ds)

known_taker : (zoned : Bool) (ds : List Drive) (f : Kept) (k n : ℕ) → IsKnown (takers_by zoned ds f k) n → IsKnown ds n
known_taker false ds f k n e = known_filtered (λ (d : Drive). d.online && not (stood_on d.number f.components)) ds n e
known_taker true ds f k n e =
    known_filtered (λ (d : Drive). d.online && not (stood_on d.number f.components)) ds n
    (known_filtered (λ (d : Drive). zone_has_room ds f k d.zone) (free_drives ds f.components) n e)

known_on : (g : Going) (k : ℕ) (o : Option ℕ) (t : Target) → ((n : ℕ) → o ≡ Some n → IsKnown g.drives n)
    → target_on g k o ≡ Some t → IsKnown g.drives t.drive
known_on g k None t f e = absurd (cc e)
known_on g k (Some n) t f e =
    let s : record { component = k; drive = n; object = g.effects.object } ≡ t = cc e in
    subst (λ (y : Target). IsKnown g.drives y.drive) s (f n refl)

known_target : (g : Going) (at : Component) (k : ℕ) (t : Target) → target_for g at k ≡ Some t → IsKnown g.drives t.drive
unfolding target_for
known_target g at k t e = elim (cases_Bool at.missing) [
  | inl m ↦
      known_on g k (picked g.chosen (takers g.drives g.file.kept k)) t
      (λ n q. known_taker g.file.kept.zoned g.drives g.file.kept k n
      (known_picked g.chosen (takers g.drives g.file.kept k) n q)) (rw m at e)
  | inr p ↦ absurd (cc (rw p at e))
]

-- ---- a new file

chosen_known : (ds : List Drive) (ns : List ℕ) → are_of ds ns ≡ true → AllIn ds ns
unfolding are_of
chosen_known ds [] e n i = absurd i
chosen_known ds (m ∷ ns) e n (inl same) =
    subst (IsKnown ds) (sym same)
    (and_parts (is_some (find (λ (d : Drive). d.number == m) ds)) (not (among m ns) && are_of ds ns) e).0
chosen_known ds (m ∷ ns) e n (inr i) =
    chosen_known ds ns (second_true (not (among m ns)) (are_of ds ns)
    (and_parts (is_some (find (λ (d : Drive). d.number == m) ds)) (not (among m ns) && are_of ds ns) e).1) n i

taken_in : (k : ℕ) (ns : List ℕ) (n : ℕ) → In n (take k ns) → In n ns
taken_in zero ns n i = absurd i
taken_in (suc k) [] n i = absurd i
taken_in (suc k) (m ∷ ns) n (inl e) = inl e
taken_in (suc k) (m ∷ ns) n (inr i) = inr (taken_in k ns n i)

placed_known : (ds : List Drive) (count : ℕ) (chosen : List ℕ) → AllIn ds (places ds count chosen)
unfolding places
placed_known ds count chosen n i = elim (cases_Bool ((length chosen == count) && are_of (online ds) chosen)) [
  | inl t ↦
      known_filtered (λ (d : Drive). d.online) ds n
      (chosen_known (online ds) chosen (second_true (length chosen == count) (are_of (online ds) chosen) t) n (rw t at i))
  | inr z ↦
      let r = in_mapped (λ (d : Drive). d.number) n (online ds) (taken_in count _ n (rw z at i)) in
      known_filtered (λ (d : Drive). d.online) ds n (subst (IsKnown (online ds)) (sym r.2) (known_member (online ds) r.0 r.1))
]

zone_known : (ds : List Drive) (n : ℕ) → list_any (λ (d : InZone). d.drive == n) (in_zones ds) ≡ true → IsKnown ds n
unfolding in_zones
zone_known [] n e = absurd (cc e)
zone_known (d ∷ ds) n e = elim (cases_Bool (d.number == n)) [
  | inl it ↦ rw it refl
  | inr other ↦ rw other (zone_known ds n (by d.zone other e))
]
  where
    by : (o : Option ℕ) → (d.number == n) ≡ false
        → list_any (λ (x : InZone). x.drive == n) (and_in_zone d.number o (in_zones ds)) ≡ true
        → list_any (λ (x : InZone). x.drive == n) (in_zones ds) ≡ true
    by None other x = x
    by (Some z) other x = rw other at x

spread_known : (ds : List Drive) (ns : List ℕ) → are_there (in_zones ds) ns ≡ true → AllIn ds ns
spread_known ds [] e n i = absurd i
spread_known ds (m ∷ ns) e n (inl same) =
    subst (IsKnown ds) (sym same) (zone_known ds m (and_parts _ (are_there (in_zones ds) ns) e).0)
spread_known ds (m ∷ ns) e n (inr i) = spread_known ds ns (and_parts _ (are_there (in_zones ds) ns) e).1 n i

made_known : (zoned : Bool) (ds : List Drive) (m : RawMap) (chosen : List ℕ) → AllIn ds (drives_for zoned ds m chosen)
made_known false ds m chosen n i = placed_known ds m.comps chosen n i
made_known true ds m chosen n i =
    known_filtered (λ (d : Drive). d.online) ds n
    (spread_known (online ds) _ (spread_there (ask_of m) (in_zones (online ds)) chosen) n i)

drives_made : (ns : List ℕ) (object : ℕ) → drives (components_on ns object) ≡ ns
unfolding components_on
drives_made [] object = refl
drives_made (d ∷ ns) object = ap (λ (x : List ℕ). d ∷ x) (drives_made ns (object + 1))

-- ---- a file

-- the drives of a file's components are known
abbrev pub StandKnown : List Drive → List Component → Type 0
StandKnown ds cs = AllIn ds (drives cs)

in_drives : (cs : List Component) (k : ℕ) (at : Component) → slice_get cs k ≡ Some at → In at.drive (drives cs)
in_drives [] k at e = absurd (cc e)
in_drives (c ∷ cs) zero at e = let same : c ≡ at = cc e in inl (ap (λ (x : Component). x.drive) (sym same))
in_drives (c ∷ cs) (suc k) at e = inr (in_drives cs k at e)

pub stands_known : (ds : List Drive) (cs : List Component) → StandKnown ds cs → (k : ℕ) (at : Component)
    → slice_get cs k ≡ Some at → IsKnown ds at.drive
stands_known ds cs h k at e = h at.drive (in_drives cs k at e)

abbrev TargetKnown : List Drive → Option Target → Type 0
TargetKnown ds None = Unit {0}
TargetKnown ds (Some t) = IsKnown ds t.drive

abbrev Knows : List Drive → File → Type 0
Knows ds f = StandKnown ds f.kept.components × TargetKnown ds (target_of f.job)

wider_target : (ds es : List Drive) → ((n : ℕ) → IsKnown ds n → IsKnown es n) → (o : Option Target) → TargetKnown ds o
    → TargetKnown es o
wider_target ds es on None h = tt
wider_target ds es on (Some t) h = on t.drive h

wider : (ds es : List Drive) → ((n : ℕ) → IsKnown ds n → IsKnown es n) → (f : File) → Knows ds f → Knows es f
wider ds es on f h = (λ n i. on n (h.0 n i), wider_target ds es on (target_of f.job) h.1)

in_set : (cs : List Component) (k : ℕ) (at : Component) (n : ℕ) → In n (drives (slice_set cs k at))
    → (n ≡ at.drive) ⊎ In n (drives cs)
in_set [] k at n i = absurd i
in_set (c ∷ cs) zero at n (inl e) = inl e
in_set (c ∷ cs) zero at n (inr i) = inr (inr i)
in_set (c ∷ cs) (suc k) at n (inl e) = inr (inl e)
in_set (c ∷ cs) (suc k) at n (inr i) = elim (in_set cs k at n i) [ inl e ↦ inl e | inr j ↦ inr (inr j) ]

module _ (start : List Drive) where
  -- the drives are those of the start
  abbrev Lasts : List Drive → (next : ℕ) → Kept → Option Target → Type 0
  Lasts ds m k o = (ds ≡ start) × StandKnown start k.components × TargetKnown start o

  lasts_same : (ds : List Drive) (m : ℕ) (k l : Kept) (o : Option Target) → drives l.components ≡ drives k.components
      → Lasts ds m k o → Lasts ds m l o
  lasts_same ds m k l o same h = (h.0, λ n i. h.1 n (subst (In n) same i), h.2)

  lasts_placed : (ds : List Drive) (cs : List Component) (k : ℕ) (at : Component) → IsKnown ds at.drive → StandKnown ds cs
      → StandKnown ds (slice_set cs k at)
  lasts_placed ds cs k at its h n i = elim (in_set cs k at n i) [
    | inl same ↦ subst (IsKnown ds) (sym same) its
    | inr j ↦ h n j
  ]

  known_walked : IsWalked Lasts
  known_walked = record {
    same = λ ds m k l o number zoned map components h. lasts_same ds m k l o (ap drives components) h;
    ends = λ ds m k o h. (h.0, h.1, tt);
    aims = λ g at n t is h. (h.0, h.1, subst (λ (ds : List Drive). IsKnown ds t.drive) h.0 (known_target g at n t is));
    placed = λ ds m k t h. (h.0, lasts_placed start k.components t.component _ h.2 h.1, tt);
    lost = λ ds m k o ns h. lasts_same ds m k (record k { components = lose_from ns k.components 0 }) o
        (drives_lost ns k.components 0) h;
    declared = λ ds m k o d h. lasts_same ds m k (record k { components = lose_on d k.components }) o
        (drives_on d k.components) h;
  }

-- ---- a step

-- so it is of each file
abbrev pub AllKnown : Server → Type 0
AllKnown s = Each (Knows s.drives) s.files

module _ (s : Server) (chosen : List ℕ) (i : Input) (h : AllKnown s) where
  abbrev Leaves : Step → Type 0
  Leaves t = AllKnown t.state

  abbrev Own : Going → Type 0
  Own g = Ends (Lasts s.drives) (known_walked s.drives) g

  begun : (f : File) → In f s.files → Own (at_file s chosen f)
  begun f there = (refl, (h f there).0, (h f there).1)

  put : (n : ℕ) (g : Going) → Own g → Each (Knows s.drives) (put_file s.files n g.file)
  put n g e = put_each (Knows s.drives) s.files n g.file h (e.1, e.2)

  asked : (now : ℕ) (q : ClientRequest) → Leaves (on_request s now chosen q)
  asked now q = each_request s now chosen q Leaves (record {
    again = λ kept is. h;
    misordered = λ expected is. h;
    without = λ new none. h;
    served = λ new f found.
        put q.file (serves (at_file s chosen f) s.next_grant s.format now q.client q.args).going
        (ends_serves (Lasts s.drives) (known_walked s.drives) (at_file s chosen f) s.next_grant s.format now q.client q.args
        (begun f (in_at s.files q.file f found)));
  })

  declared : (d : ℕ) → Leaves (declare s chosen d)
  unfolding declare
  declared d =
      let ds : List Drive = offline s.drives d in
      declared_each (Knows ds) d ds s.files (begins s) chosen
      (λ f there m placed.
      let k = wider s.drives ds (λ n. known_same s.drives ds n (offline_keys s.drives d n)) f (h f there) in
      let e = ends_declares (Lasts ds) (known_walked ds) (record { file = f; effects = m; drives = ds; chosen = placed }) d
      (refl, k.0, k.1) in (e.1, e.2))

  made : (n : ℕ) (m : RawMap) (tag : ℕ) (zoned : Bool) → Leaves (makes_file s (new_file s chosen n m tag zoned))
  made n m tag zoned =
      let f : File = new_file s chosen n m tag zoned in
      let new : Knows s.drives f =
      (λ j l. made_known zoned s.drives m chosen j (subst (In j) (drives_made _ s.next_object) l), tt) in
      let e = ends_making (Lasts s.drives) (known_walked s.drives) (at_file (with_file s f) [] f) (refl, new.0, new.1) in
      put_each (Knows s.drives) (add_file s.files f) n (making (at_file (with_file s f) [] f)).file
      (add_each (Knows s.drives) s.files f h new) (e.1, e.2)

  opened : Each (Knows s.drives) (opens_each s.format s.drives s.files (begins s)).files
  opened =
      opened_each (Knows s.drives) s.format s.drives s.files (begins s)
      (λ f there m.
      let e = ends_opens (Lasts s.drives) (known_walked s.drives) s.format
      (record { file = f; effects = m; drives = s.drives; chosen = [] }) (refl, (h f there).0, (h f there).1) in (e.1, e.2))

  known_step : Leaves (step s chosen i)
  known_step = each_step s chosen i Leaves (record {
    rests = h;
    asked = λ now q is. asked now q;
    answered = λ x is.
        put (answered_file s chosen x).file.kept.number (answered_file s chosen x)
        (ends_hears (Lasts s.drives) (known_walked s.drives) (at_file s chosen x.file) x.job x.awaited x.reply
        (hearing x.file.kept x.awaited x.reply) is.runs (begun x.file is.there));
    recalled = λ f is. h;
    refused = λ f is n why.
        put f.kept.number (noting (at_file s chosen f) n) (begun f (in_at s.files is.target f is.found));
    fenced = λ f is kind none low.
        put f.kept.number (fence_begins kind s.format (at_file s chosen f))
        (ends_fence (Lasts s.drives) (known_walked s.drives) kind s.format (at_file s chosen f)
        ((known_walked s.drives).ends s.drives s.next_object f.kept (target_of f.job)
        (begun f (in_at s.files is.target f is.found))));
    declared = λ d known. declared d;
    told = λ t now o is result l. l;
    made = λ n m tag zoned is none. made n m tag zoned;
    added = λ d is f there. wider s.drives (add_drive s.drives d) (λ n. known_added s.drives d n) f (h f there);
    zoned = λ d z is f there.
        wider s.drives (put_in_zone s.drives d z)
        (λ n. known_same s.drives (put_in_zone s.drives d z) n (zoned_keys s.drives d z n)) f (h f there);
    formats = λ n is. h;
    resends = λ is. h;
    crashes = λ is. crashed_each (Knows s.drives) s.files (λ f there. ((h f there).0, tt));
    opened = λ is low. opened;
  })

-- ---- at each moment

known_after : (s : Server) (acts : List Act) → AllKnown s → AllKnown (state_after s acts)
known_after s [] h = h
known_after s (a ∷ acts) h = known_after (step s a.chosen a.input).state acts (known_step s a.chosen a.input h)

pub all_known : AllPartiesRun → (w : World) → IsReached w → AllKnown w.server
all_known run w reached =
    let r = (run w reached).server in
    subst AllKnown (sym r.is) (known_after _ r.acts (λ f i. absurd i))
