-- A file is made: each drive that is up falls, the file is made, and each rises again.
use Rattle.std.proofs.Common.{◌≡◌, ℕ, zero, suc, ◌+◌, ◌≤◌, ◌<◌, Bool, true, false, cond, List, [], ◌∷◌, ◌++◌, Option, Some, None, Ok, length, map, arith, refl, sym, ap, subst, ◌∙◌, append_assoc, inl, inr}
use Rattle.std.specs.Prelude.{not, ◌&&◌, ◌||◌, filter}
use Rattle.std.specs.List.{filter_map, range_with_len}
use Rattle.std.proofs.lemmas.List.{append-nil}
use Rattle.std.proofs.lemmas.Bool.{cases_eq}
use Rattle.std.proofs.lemmas.Map.Made.{lookup-map_values}
use Rattle.std.specs.BTreeMap.{is_at}
use Rattle.std.specs.Option.{option_map}
use Rattle.std.specs.Ordering.{nat_cmp}
use Rattle.osd_objects.proofs.Entries.{lookup_set_beside}
use Rattle.data_map.specs.declared.check.RawMap.{RawMap}
use Rattle.scenario_text.specs.declared.names.TheConstants.{DRIVES}
use Rattle.scenario_text.specs.declared.event.Event.TheVariants as event
use Rattle.scenario_text.specs.declared.event.Machine.TheVariants as machine
use Rattle.scenario_text.specs.declared.line.Line.{Line}
use Rattle.scenario_text.specs.declared.line.Line.TheVariants as line
use Rattle.server_rules.specs.Files.{Step as ServerStep}
use Rattle.server_rules.specs.Making.{create_file}
use Rattle.world_history.specs.declared.messages.Message.{Message}
use Rattle.world_history.specs.State.{World, DriveAt, at_number, with_number}
use Rattle.world_history.specs.Names.{known_note_line}
use Rattle.world_history.specs.Drives.{is_deaf}
use Rattle.world_history.specs.Moves.{has_algorithm}
use Rattle.world_history.specs.History.{StandsFor}
use Rattle.cluster_history.specs.State.{DriveHere, Cluster, with_drive}
use Rattle.cluster_history.specs.Steps.{Step, May, IsUp, IsDown, Makes, Falls, Rises}
use Rattle.cluster_history.specs.Deeds.{Deed, makes, turned, fallen, risen, is_up_here, up_drives, falls, all_rise, for_somebody, server_message, map_of, unheard}
use Rattle.cluster_history.specs.History.{message_lines, lines_of, sending, deed, after, told}
use Rattle.cluster_history.specs.Like.{drive_of, cluster_of, AreStored, LeadsTo}
use Rattle.cluster_history.proofs.Lists.{put_found, put_twice}
use Rattle.cluster_history.proofs.Worlds.{by_deed}
use Rattle.cluster_history.proofs.Kept.{DriveThere, drive_there, not_true}
use Rattle.cluster_history.proofs.DriveSteps as drive_steps
use Rattle.cluster_history.proofs.FileEvent.{NobodyHears, file_goes}

-- ---- lists

-- what is nested between two lines
nested : (h : List Line) (l : Line) (a b c d : List Line)
    → (((h ++ l ∷ []) ++ (a ++ (b ++ c))) ++ d) ≡ h ++ ((l ∷ a) ++ (b ++ (c ++ d)))
nested h l a b c d =
    append_assoc (h ++ l ∷ []) (a ++ (b ++ c)) d
    ∙ append_assoc h (l ∷ []) ((a ++ (b ++ c)) ++ d)
    ∙ ap (λ (x : List Line). h ++ (l ∷ x)) (append_assoc a (b ++ c) d ∙ ap (λ (x : List Line). a ++ x) (append_assoc b c d))

-- the lines of the event stand between those of the drives
all_lines : (a : List Line) (l : Line) (n m u r : List Line)
    → a ++ ((l ∷ (n ++ (m ++ u))) ++ r) ≡ (a ++ l ∷ n) ++ (m ++ (u ++ r))
all_lines a l n m u r =
    ap (λ (x : List Line). a ++ (l ∷ x)) (append_assoc n (m ++ u) r ∙ ap (λ (x : List Line). n ++ x) (append_assoc m u r))
    ∙ sym (append_assoc a (l ∷ n) (m ++ (u ++ r)))

-- ---- one drive

-- a drive that is up falls
abbrev down_at : (k : Cluster) (d : ℕ) → IsUp k d → Cluster
down_at k d u = with_drive k d (fallen u.here)

turned_goes : (h : List Line) (k : Cluster) (l : Line) (d : Deed)
    → d ≡ record { cluster = k; lines = l ∷ []; gives = []; behind = [] }
    → LeadsTo (h ++ lines_of d) (sending d) → LeadsTo (h ++ l ∷ []) k
unfolding message_lines
turned_goes h k l d is x =
    subst (λ (ms : List Message). LeadsTo (h ++ l ∷ []) (record k { sent = ms })) (append-nil k.sent)
    (subst (λ (y : Deed). LeadsTo (h ++ lines_of y) (sending y)) is x)

falls_one : (h : List Line) (k : Cluster) (d : ℕ) (u : IsUp k d) → LeadsTo h k → LeadsTo (h ++ falls d ∷ []) (down_at k d u)
unfolding deed
falls_one h k d u x =
    let goes : LeadsTo (h ++ told k (Falls d)) (after k (Falls d)) =
    subst (λ (y : Cluster). May y (Falls d) → LeadsTo (h ++ told y (Falls d)) (after y (Falls d))) x.like.same
    (drive_steps.falls x.world h x.stands x.like.stored d) u in
    turned_goes h (down_at k d u) (falls d) (deed k (Falls d)) (rw u.found refl) goes

rises_one : (h : List Line) (k : Cluster) (d : ℕ) (u : IsDown k d) → LeadsTo h k
    → LeadsTo (h ++ line.Event (event.Reopen (machine.Drive d)) ∷ []) (with_drive k d (risen u.here))
unfolding deed
rises_one h k d u x =
    let goes : LeadsTo (h ++ told k (Rises d)) (after k (Rises d)) =
    subst (λ (y : Cluster). May y (Rises d) → LeadsTo (h ++ told y (Rises d)) (after y (Rises d))) x.like.same
    (drive_steps.rises x.world h x.stands x.like.stored d) u in
    turned_goes h (with_drive k d (risen u.here)) (line.Event (event.Reopen (machine.Drive d))) (deed k (Rises d))
    (rw u.found refl) goes

-- ---- all that are up

-- no drive that a line can name is up
abbrev NoneUp : Cluster → Type 0
NoneUp k = (d : ℕ) → d < DRIVES → is_up_here (at_number k.drives d) ≡ false

-- these are up, and fall one after the other, and behind that none is up
abbrev AreUp : Cluster → List ℕ → Type 0
AreUp k [] = NoneUp k
AreUp k (d ∷ ds) = (u : IsUp k d) × AreUp (down_at k d u) ds

is_up : (k : Cluster) (d : ℕ) (o : Option DriveHere) → at_number k.drives d ≡ o → is_up_here o ≡ true → IsUp k d
is_up k d None found e = absurd (cc e)
is_up k d (Some h) found e = both h.up h.lost refl refl e
  where
    both : (up gone : Bool) → h.up ≡ up → h.lost ≡ gone → (up && not gone) ≡ true → IsUp k d
    both true false u g x = record { here = h; found = found; up = u; kept = g }
    both true true u g x = absurd (cc x)
    both false gone u g x = absurd (cc x)

-- the same drives from a number on, and none before is up
abbrev SameFrom : (a : ℕ) → Cluster → Cluster → Type 0
SameFrom a j k = (d : ℕ) → a ≤ d → at_number j.drives d ≡ at_number k.drives d

abbrev NoneBelow : (a : ℕ) → Cluster → Type 0
NoneBelow a j = (d : ℕ) → d < a → is_up_here (at_number j.drives d) ≡ false

-- at one number, where it is so for any cluster from the next one on
up_at : (k : Cluster) (a : ℕ) (ds : List ℕ)
    → ((i : Cluster) → SameFrom (a + 1) i k → NoneBelow (a + 1) i → AreUp i ds)
    → (j : Cluster) → SameFrom a j k → NoneBelow a j → (b : Bool) → is_up_here (at_number k.drives a) ≡ b
    → AreUp j (cond b (a ∷ ds) ds)
up_at k a ds rest j same none true e =
    let here : is_up_here (at_number j.drives a) ≡ true = ap is_up_here (same a (omega arith)) ∙ e in
    let u : IsUp j a = is_up j a (at_number j.drives a) refl here in
    let down : is_up_here (at_number (down_at j a u).drives a) ≡ false =
    ap is_up_here (put_found j.drives a u.here (fallen u.here) u.found) in (
      u,
      rest (down_at j a u)
          (λ d l. lookup_set_beside j.drives a d (fallen u.here) (λ it. absurd (omega (arith, l, it)))
          ∙ same d (omega (arith, l)))
          (λ d l. elim (cases_eq d a) [
            | inl it ↦ ap (λ (i : ℕ). is_up_here (at_number (down_at j a u).drives i)) it ∙ down
            | inr other ↦ ap is_up_here (lookup_set_beside j.drives a d (fallen u.here) other)
                ∙ none d (omega (arith, l, other))
          ]),
    )
up_at k a ds rest j same none false e =
    rest j (λ d l. same d (omega (arith, l)))
    (λ d l. elim (cases_eq d a) [
      | inl it ↦ ap (λ (i : ℕ). is_up_here (at_number j.drives i)) it ∙ ap is_up_here (same a (omega arith)) ∙ e
      | inr other ↦ none d (omega (arith, l, other))
    ])

up_from : (k : Cluster) (n a : ℕ) → a + n ≡ DRIVES → (j : Cluster) → SameFrom a j k → NoneBelow a j
    → AreUp j (filter (λ d. is_up_here (at_number k.drives d)) (range_with_len a n))
up_from k zero a all j same none = λ d l. none d (omega (arith, l, all))
up_from k (suc n) a all j same none =
    up_at k a (filter (λ d. is_up_here (at_number k.drives d)) (range_with_len (a + 1) n))
    (up_from k n (a + 1) (omega (arith, all))) j same none (is_up_here (at_number k.drives a)) refl

up_drives_are : (k : Cluster) → AreUp k (up_drives k)
unfolding up_drives
up_drives_are k = up_from k DRIVES 0 (omega arith) k (λ d l. refl) (λ d l. absurd (omega (arith, l)))

-- ---- the file

same_put_if : (b : Bool) (e : ℕ × DriveHere) (x : DriveHere) (xs ys : List (ℕ × DriveHere)) (o : Option DriveHere)
    → cond b (Some e.1) o ≡ Some x → (o ≡ Some x → ys ≡ xs) → cond b ((e.0, x) ∷ xs) (e ∷ ys) ≡ e ∷ xs
same_put_if true e x xs ys o found rest =
    let it : e.1 ≡ x = cc found in ap (λ (y : DriveHere). (e.0, y) ∷ xs) (sym it)
same_put_if false e x xs ys o found rest = ap (λ (l : List (ℕ × DriveHere)). e ∷ l) (rest found)

-- what stands there already
same_put : (xs : List (ℕ × DriveHere)) (n : ℕ) (x : DriveHere) → at_number xs n ≡ Some x → with_number xs n x ≡ xs
same_put [] n x found = absurd (cc found)
same_put (e ∷ xs) n x found =
    same_put_if (is_at (nat_cmp n) e.0) e x xs (with_number xs n x) (at_number xs n) found (λ rest. same_put xs n x rest)

-- a drive that fell, and is opened again, is as it was
risen_again : (k : Cluster) (d : ℕ) (u : IsUp k d) → with_number (down_at k d u).drives d (risen (fallen u.here)) ≡ k.drives
risen_again k d u =
    put_twice k.drives d (fallen u.here) (risen (fallen u.here))
    ∙ ap (λ (b : Bool). with_number k.drives d (record u.here { up = b })) (sym u.up)
    ∙ same_put k.drives d u.here u.found

deaf_all : (w : World) → NoneUp (cluster_of w) → NobodyHears w
deaf_all w none d l a found =
    deaf a.failed a.down
    (ap is_up_here (sym (lookup-map_values drive_of (is_at (nat_cmp d)) w.drives ∙ ap (option_map drive_of) found))
    ∙ none d l)
  where
    deaf : (failed down : Bool) → (not down && not failed) ≡ false → (failed || down) ≡ true
    deaf true down e = refl
    deaf false true e = refl
    deaf false false e = absurd (cc e)

-- the server is up, and the file is made
module _ (chosen : List ℕ) (f : ℕ) (m : RawMap) (x : ServerStep) (algorithm : has_algorithm m ≡ true) where
  abbrev gives : List Message
  gives = for_somebody (map server_message x.sends)

  abbrev notes : List Line
  notes = filter_map known_note_line x.notes

  -- the lines of the event, and the cluster behind them
  abbrev made_lines : Cluster → List Line
  made_lines k =
      line.Event (event.File f (map_of m) 1)
      ∷ (notes ++ (message_lines (length k.sent) gives ++ unheard (length k.sent) gives))

  abbrev made_cluster : Cluster → Cluster
  made_cluster k = record k { server = x.state; sent = k.sent ++ gives }

  makes_deaf : (h : List Line) (k : Cluster) → k.up ≡ true → create_file k.server f m 1 false chosen ≡ Ok x → NoneUp k
      → LeadsTo h k → LeadsTo (h ++ made_lines k) (made_cluster k)
  makes_deaf h k up made none l =
      subst (λ (y : Cluster). y.up ≡ true → create_file y.server f m 1 false chosen ≡ Ok x → NoneUp y
      → LeadsTo (h ++ made_lines y) (made_cluster y)) l.like.same
      (λ up made none. file_goes l.world h l.stands l.like.stored (deaf_all l.world none) (not_true l.world.down up) chosen
      f m x algorithm made) up made none

  makes_all : (ds : List ℕ) (h : List Line) (k : Cluster) → k.up ≡ true → create_file k.server f m 1 false chosen ≡ Ok x
      → AreUp k ds → LeadsTo h k → LeadsTo (h ++ (map falls ds ++ (made_lines k ++ all_rise ds))) (made_cluster k)
  makes_all [] h k up made none l =
      subst (λ (ls : List Line). LeadsTo (h ++ ls) (made_cluster k)) (sym (append-nil (made_lines k)))
      (makes_deaf h k up made none l)
  makes_all (d ∷ ds) h k up made are l =
      let j : Cluster = down_at k d are.0 in
      let fell : LeadsTo (h ++ falls d ∷ []) (down_at k d are.0) = falls_one h k d are.0 l in
      let inner : LeadsTo ((h ++ falls d ∷ []) ++ (map falls ds ++ (made_lines k ++ all_rise ds)))
      (made_cluster (down_at k d are.0)) =
      makes_all ds (h ++ falls d ∷ []) (down_at k d are.0) up made are.1 fell in
      let down : IsDown (made_cluster (down_at k d are.0)) d =
      record {
        here = fallen are.0.here;
        found = put_found k.drives d are.0.here (fallen are.0.here) are.0.found;
        down = refl;
        kept = are.0.kept;
      } in
      let rose : LeadsTo (((h ++ falls d ∷ []) ++ (map falls ds ++ (made_lines k ++ all_rise ds)))
      ++ line.Event (event.Reopen (machine.Drive d)) ∷ [])
      (with_drive (made_cluster (down_at k d are.0)) d (risen (fallen are.0.here))) =
      rises_one _ (made_cluster (down_at k d are.0)) d down inner in
      subst (λ (y : Cluster). LeadsTo (h ++ (map falls (d ∷ ds) ++ (made_lines k ++ all_rise (d ∷ ds)))) y)
      (ap (λ (l : List (ℕ × DriveHere)). record (made_cluster k) { drives = l }) (risen_again k d are.0))
      (subst (λ (ls : List Line). LeadsTo ls (with_drive (made_cluster (down_at k d are.0)) d (risen (fallen are.0.here))))
      (nested h (falls d) (map falls ds) (made_lines k) (all_rise ds) (line.Event (event.Reopen (machine.Drive d)) ∷ [])) rose)

-- ---- the step

pub makes_file : (w : World) (h : List Line) → StandsFor w h → AreStored w.drives → (chosen : List ℕ) (f : ℕ) (m : RawMap)
    → May (cluster_of w) (Makes chosen f m)
    → LeadsTo (h ++ told (cluster_of w) (Makes chosen f m)) (after (cluster_of w) (Makes chosen f m))
unfolding deed
makes_file w h s stored chosen f m may =
    let k : Cluster = cluster_of w in
    by_deed h (cluster_of w) (Makes chosen f m) (makes (cluster_of w) f m (Ok may.1.step)) (rw may.1.made refl)
    (subst (λ (ls : List Line). LeadsTo (h ++ ls) (sending (makes (cluster_of w) f m (Ok may.1.step))))
    (all_lines (map falls (up_drives (cluster_of w))) (line.Event (event.File f (map_of m) 1))
    (notes chosen f m may.1.step may.1.algorithm)
    (message_lines (length (cluster_of w).sent) (gives chosen f m may.1.step may.1.algorithm))
    (unheard (length (cluster_of w).sent) (gives chosen f m may.1.step may.1.algorithm)) (all_rise (up_drives (cluster_of w))))
    (makes_all chosen f m may.1.step may.1.algorithm (up_drives (cluster_of w)) h (cluster_of w) may.0 may.1.made
    (up_drives_are (cluster_of w)) (record { world = w; stands = s; like = record { same = refl; stored = stored } })))
