-- A file is made on the drives that a placer named, which its CREATEs tell.
use Rattle.std.proofs.Common.{◌≡◌, ℕ, ◌+◌, ◌==◌, ◌<◌, ◌∷◌, [], List, ◌++◌, Bool, true, false, ◌&&◌, not, Option, Some, None, is_some, find, map, take, length, zero, suc, refl, sym, ap, subst, ◌∙◌, inl, inr, if◌then◌else◌}
use Rattle.std.specs.List.{list_any}
use Rattle.std.proofs.lemmas.Bool.{and_parts, cases_Bool, eqb-true, ne_eqb}
use Rattle.osd_capability.specs.Layout.{is_format}
use Rattle.scenario_text.specs.declared.names.TheConstants.{DRIVES}
use Rattle.world_history.specs.ServerNames.{Server, Kept, File, Drive, Awaited, RawMap, Refusal, JobKind, Work, Making, Creates}
use Rattle.server_rules.specs.Numbers.{among}
use Rattle.server_rules.specs.Commands.{Creating, All, is_meant, to_each, to_all}
use Rattle.server_rules.specs.Going.{Going, rests_or}
use Rattle.server_rules.specs.Jobs.{is_made, making}
use Rattle.server_rules.specs.Files.{Step, still, at_file, file_at}
use Rattle.zone_place.specs.Zones.{ask_of}
use Rattle.zone_place.proofs.Members.{are_there, spread_there}
use Rattle.zone_place.proofs.Spreading.{spread_again}
use Rattle.server_rules.specs.Zoning.{and_in_zone, in_zones}
use Rattle.server_rules.specs.Making.{online, are_of, places, drives_for, components_on, unmade, with_file, makes_file, unless_refused, refusal, create_file}
use Rattle.server_rules.specs.History.{unless_made}
use Rattle.server_rules.proofs.FileLaws.{not_there, put_other, add_other}
use Rattle.server_rules.proofs.Runs.{ran_making}
use Rattle.history_law.specs.Placed.{AreNamed, IsReadable, placed_by}
use Rattle.history_law.proofs.Creating.{place_create}
use Rattle.history_law.proofs.Placing.{placed_of}
use Rattle.history_law.proofs.Rebuilding.{found_named, named_part}
use Rattle.history_law.proofs.Stepping.{kept_of, IsPlaced, placed_always, placed_sent, formats_put, formats_add}

-- ---- the drives

-- lines can name each of these
abbrev pub AllNamed : List ℕ → Type 0
AllNamed [] = Unit {0}
AllNamed (n ∷ ns) = (n < DRIVES) × AllNamed ns

chosen_named : (ds : List Drive) (ns : List ℕ) → AreNamed ds → are_of ds ns ≡ true → AllNamed ns
unfolding are_of
chosen_named ds [] a e = tt
chosen_named ds (n ∷ ns) a e =
    let one = and_parts (is_some (find (λ d. d.number == n) ds)) (not (among n ns) && are_of ds ns) e in
    let two = and_parts (not (among n ns)) (are_of ds ns) one.1 in
    (found_named n ds a one.0, chosen_named ds ns a two.1)

first_named : (count : ℕ) (ds : List Drive) → AreNamed ds → AllNamed (take count (map (λ d. d.number) ds))
first_named zero ds a = tt
first_named (suc n) [] a = tt
first_named (suc n) (d ∷ ds) a = (a.0, first_named n ds a.1)

places_named : (ds : List Drive) (count : ℕ) (chosen : List ℕ) → AreNamed ds → AllNamed (places ds count chosen)
unfolding places
places_named ds count chosen a = either ((length chosen == count) && are_of (online ds) chosen) refl
  where
    named : AreNamed (online ds)
    named = named_part (λ (d : Drive). d.online) ds a

    either : (b : Bool) → ((length chosen == count) && are_of (online ds) chosen) ≡ b
        → AllNamed (if b then chosen else take count (map (λ d. d.number) (online ds)))
    either true e = chosen_named (online ds) chosen named (and_parts (length chosen == count) _ e).1
    either false e = first_named count (online ds) named

-- so it can each drive in a zone
number_named : (ds : List Drive) (n : ℕ) → AreNamed ds → list_any (λ x. x.drive == n) (in_zones ds) ≡ true → n < DRIVES
unfolding in_zones
number_named [] n a e = absurd (cc e)
number_named (d ∷ ds) n a e = either (number_named ds n a.1) d.zone e
  where
    either : (list_any (λ x. x.drive == n) (in_zones ds) ≡ true → n < DRIVES) → (o : Option ℕ)
        → list_any (λ x. x.drive == n) (and_in_zone d.number o (in_zones ds)) ≡ true → n < DRIVES
    either rest None f = rest f
    either rest (Some z) f = elim (cases_Bool (d.number == n)) [
      | inl t ↦ subst (λ (k : ℕ). k < DRIVES) (eqb-true d.number n t) a.0
      | inr o ↦ rest (rw o at f)
    ]

there_named : (ds : List Drive) (ns : List ℕ) → AreNamed ds → are_there (in_zones ds) ns ≡ true → AllNamed ns
there_named ds [] a e = tt
there_named ds (n ∷ ns) a e =
    let p = and_parts (list_any (λ x. x.drive == n) (in_zones ds)) (are_there (in_zones ds) ns) e in
    (number_named ds n a p.0, there_named ds ns a p.1)

pub for_named : (zoned : Bool) (ds : List Drive) (m : RawMap) (chosen : List ℕ) → AreNamed ds
    → AllNamed (drives_for zoned ds m chosen)
for_named false ds m chosen a = places_named ds m.comps chosen a
for_named true ds m chosen a =
    there_named (online ds) _ (named_part (λ (d : Drive). d.online) ds a)
    (spread_there (ask_of m) (in_zones (online ds)) chosen)

-- what was taken is taken again
either_same : (b : Bool) (xs : List ℕ) → (if b then xs else xs) ≡ xs
either_same true xs = refl
either_same false xs = refl

places_again : (ds : List Drive) (count : ℕ) (chosen : List ℕ)
    → places ds count (places ds count chosen) ≡ places ds count chosen
unfolding places
places_again ds count chosen = either ((length chosen == count) && are_of (online ds) chosen) refl
  where
    first : List ℕ
    first = take count (map (λ d. d.number) (online ds))

    ok : List ℕ → Bool
    ok ns = (length ns == count) && are_of (online ds) ns

    kept : (b : Bool) → ok chosen ≡ b → b ≡ true → (if ok chosen then chosen else first) ≡ chosen
    kept b e t = ap (λ (c : Bool). if c then chosen else first) (e ∙ t)

    either : (b : Bool) → ok chosen ≡ b
        → (if ok (if b then chosen else first) then (if b then chosen else first) else first) ≡
        (if b then chosen else first)
    either true e = kept true e refl
    either false e = either_same (ok first) first

for_again : (zoned : Bool) (ds : List Drive) (m : RawMap) (chosen : List ℕ)
    → drives_for zoned ds m (drives_for zoned ds m chosen) ≡ drives_for zoned ds m chosen
for_again false ds m chosen = places_again ds m.comps chosen
for_again true ds m chosen = spread_again (ask_of m) (in_zones (online ds)) chosen

-- ---- its CREATEs

creates_told : (ds : List Drive) (f : Kept) (ns : List ℕ) (object k nonce : ℕ) → is_format f.format ≡ true → AllNamed ns
    → placed_of ds (to_each f All Creating (components_on ns object) k nonce) ≡ ns
unfolding to_each components_on is_meant
creates_told ds f [] object k nonce h a = refl
creates_told ds f (n ∷ ns) object k nonce h a =
    ap (λ (xs : List ℕ). xs ++ placed_of ds
    (to_each f All Creating (components_on ns (object + 1)) (k + 1) (nonce + 1)))
    (place_create ds f k n object nonce h a.0)
    ∙ ap (λ (xs : List ℕ). n ∷ xs) (creates_told ds f ns (object + 1) (k + 1) (nonce + 1) h a.1)

-- what is sent where a job rests, or has nothing to send
sent_or : (cs : List Awaited) (g : Going) (kind : JobKind) (work : Work) (later : Going)
    → later.effects.sent ≡ g.effects.sent ++ []
    → (rests_or cs g kind work later).effects.sent ≡ g.effects.sent ++ cs
sent_or [] g kind work later e = e
sent_or (c ∷ cs) g kind work later e = refl

format_or : (cs : List Awaited) (g : Going) (kind : JobKind) (work : Work) (later : Going)
    → later.file.kept.format ≡ g.file.kept.format
    → (rests_or cs g kind work later).file.kept.format ≡ g.file.kept.format
format_or [] g kind work later e = e
format_or (c ∷ cs) g kind work later e = refl

pub making_format : (g : Going) → (making g).file.kept.format ≡ g.file.kept.format
unfolding making
making_format g = format_or (to_all g.file.kept All Creating g.effects.nonce) g Making Creates (is_made g) refl

-- ---- the step

module _ (s : Server) (number : ℕ) (m : RawMap) (tag : ℕ) (zoned : Bool) (r : IsReadable s) where
  -- the file on these drives
  abbrev on : List ℕ → File
  on ns = unmade s number m tag zoned ns

  abbrev makes_on : List ℕ → Step
  makes_on ns = makes_file s (on ns)

  made_sent : (ns : List ℕ) → (making (at_file (with_file s (on ns)) [] (on ns))).effects.sent
      ≡ to_all (on ns).kept All Creating s.next_nonce
  unfolding making
  made_sent ns =
      let g : Going = at_file (with_file s (on ns)) [] (on ns) in
      sent_or (to_all (on ns).kept All Creating s.next_nonce) g Making Creates (is_made g) refl

  made_format : (ns : List ℕ) → is_format (making (at_file (with_file s (on ns)) [] (on ns))).file.kept.format ≡ true
  made_format ns =
      ap (λ (n : ℕ). is_format n) (making_format (at_file (with_file s (on ns)) [] (on ns))) ∙ r.format

  pub told_on : (ns : List ℕ) → AllNamed ns → (n : ℕ) → placed_by n (makes_on ns).sends ≡ ns
  told_on ns a n =
      placed_sent s.drives (making (at_file (with_file s (on ns)) [] (on ns))).effects.sent n
      ∙ ap (placed_of s.drives) (made_sent ns)
      ∙ creates_told s.drives (on ns).kept ns s.next_object 0 s.next_nonce r.format a

  -- each other file is as it was
  made_beside : (ns : List ℕ) (n : ℕ) → (number ≡ n → ⊥) → file_at (makes_on ns).state.files n ≡ file_at s.files n
  made_beside ns n other =
      put_other _ number (making (at_file (with_file s (on ns)) [] (on ns))).file
      (ran_making (at_file (with_file s (on ns)) [] (on ns))).number n (ne_eqb number n other)
      ∙ add_other s.files (on ns) n (ne_eqb number n other)

  -- no repair ends
  made_none : (ns : List ℕ) → (makes_on ns).mended ≡ []
  unfolding making
  made_none ns =
      let g : Going = at_file (with_file s (on ns)) [] (on ns) in
      either g (to_all (on ns).kept All Creating s.next_nonce) refl
    where
      either : (g : Going) (cs : List Awaited) → g.effects.mended ≡ []
          → (rests_or cs g Making Creates (is_made g)).effects.mended ≡ []
      either g [] e = e
      either g (c ∷ cs) e = e

  made_placed : (o : Option Refusal) (chosen : List ℕ) → refusal s number m zoned ≡ o
      → IsPlaced s (unless_made s (unless_refused o (makes_on (drives_for zoned s.drives m chosen))))
      (λ x. unless_made s (unless_refused o (makes_on (drives_for zoned s.drives m x))))
  made_placed (Some e) chosen is = placed_always s (still s) r (λ d. refl)
  made_placed None chosen is =
      let ns = drives_for zoned s.drives m chosen in record {
        same = λ n. ap (λ (x : List ℕ). makes_on (drives_for zoned s.drives m x))
            (told_on ns (for_named zoned s.drives m chosen r.drives) n)
            ∙ ap makes_on (for_again zoned s.drives m chosen);
        keeps = λ x n y at.
            let other : number ≡ n → ⊥ = λ (e : number ≡ n). cc (sym (not_there s number m zoned is)
            ∙ ap (file_at s.files) e ∙ at) in
            ap kept_of (made_beside (drives_for zoned s.drives m x) n other ∙ sym (made_beside ns n other));
        mends = λ x. made_none (drives_for zoned s.drives m x) ∙ sym (made_none ns);
        readable = record {
          drives = r.drives;
          format = r.format;
          files = formats_put _ number _ (formats_add s.files (on ns) r.files r.format) (made_format ns);
        };
        knows = λ d. refl;
      }

  pub file_placed : (chosen : List ℕ)
      → IsPlaced s (unless_made s (create_file s number m tag zoned chosen))
      (λ x. unless_made s (create_file s number m tag zoned x))
  unfolding create_file
  file_placed chosen = made_placed (refusal s number m zoned) chosen refl
