-- Short stripes: components that are lost alike.
use Rattle.std.proofs.Common.{if◌then◌else◌, ◌≡◌, ℕ, ◌+◌, ◌*◌, ◌/◌, ◌==◌, ◌&&◌, ◌||◌, not, ◌∷◌, [], List, Bool, true, false, Option, Some, is_none, filter, length, nat_lt, refl, sym, ap, ◌∙◌, arith, inl, inr}
use Rattle.std.specs.List.{range_with_len}
use Rattle.std.proofs.lemmas.Bool.{cases_Bool}
use Rattle.std.proofs.lemmas.Bool.Decides.{nat_tests}
use Rattle.data_map.specs.declared.check.RawMap.{RawMap}
use Rattle.data_map.specs.Striping.{replicas, group_width, group_of}
use Rattle.scenario_text.specs.declared.line.Note.{Note as ToldNote}
use Rattle.scenario_text.specs.declared.line.Note.TheVariants as note
use Rattle.scenario_text.specs.declared.line.Line.{Line}
use Rattle.scenario_text.specs.declared.line.Line.TheVariants as line
use Rattle.server_rules.specs.Numbers.{among}
use Rattle.server_rules.specs.Standing.{replica_from, replica, lacking, is_short, lose_on}
use Rattle.world_history.specs.ServerNames.{Component, File}
use Rattle.world_history.specs.Stripes.{Moment, is_lost, standing, is_short_stripe}
use Rattle.world_history.specs.Calm.{noted}
use Rattle.component_law.specs.Components.{Paired, StandAlike, told_by, told_in}
use Rattle.component_law.proofs.Components.{paired_lost, stands_is, paired_stood, lost}

-- ---- what a short stripe is, by which components are missing

abbrev MissAlike : Component → Component → Type 0
MissAlike a b = a.missing ≡ b.missing

replica_alike : (m : RawMap) (p : ℕ) (xs ys : List Component) (k : ℕ) → Paired MissAlike xs ys
    → replica_from m p xs k ≡ replica_from m p ys k
unfolding replica_from
replica_alike m p [] [] k h = refl
replica_alike m p [] (y ∷ ys) k h = absurd h
replica_alike m p (x ∷ xs) [] k h = absurd h
replica_alike m p (x ∷ xs) (y ∷ ys) k h =
    rw h.0 (ap (λ (o : Option ℕ). if not y.missing && (k / replicas m == p) then Some k else o)
    (replica_alike m p xs ys (k + 1) h.1))

filter_alike : (p q : ℕ → Bool) (xs : List ℕ) → ((x : ℕ) → p x ≡ q x) → filter p xs ≡ filter q xs
filter_alike p q [] h = refl
filter_alike p q (x ∷ xs) h =
    rw (h x) (ap (λ (ys : List ℕ). if q x then x ∷ ys else ys) (filter_alike p q xs h))

short_in : (m : RawMap) (xs ys : List Component) (group : ℕ) → Paired MissAlike xs ys
    → is_short m xs group ≡ is_short m ys group
unfolding lacking
short_in m xs ys group h =
    ap (λ (ps : List ℕ). nat_lt 0 (length ps))
    (filter_alike (λ p. is_none (replica m xs p)) (λ p. is_none (replica m ys p))
    (range_with_len (group * group_width m) (group_width m))
    (λ p. ap (λ (o : Option ℕ). is_none o) (replica_alike m p xs ys 0 h)))

-- ---- components that are lost alike

abbrev pub LostAlike : Moment → Component → Component → Type 0
LostAlike m a b = is_lost m a ≡ is_lost m b

standing_alike : (m : Moment) (xs ys : List Component) → Paired (LostAlike m) xs ys
    → Paired MissAlike (standing m xs) (standing m ys)
standing_alike m [] [] h = tt
standing_alike m [] (y ∷ ys) h = absurd h
standing_alike m (x ∷ xs) [] h = absurd h
standing_alike m (x ∷ xs) (y ∷ ys) h = (h.0, standing_alike m xs ys h.1)

pub short_alike : (m : Moment) (f g : File) (stripe : ℕ) → g.kept.map ≡ f.kept.map
    → Paired (LostAlike m) f.kept.components g.kept.components → is_short_stripe m g stripe ≡ is_short_stripe m f stripe
unfolding is_short_stripe
short_alike m f g stripe same h =
    ap (λ (r : RawMap). is_short r (standing m g.kept.components) (group_of r stripe)) same
    ∙ sym (short_in f.kept.map (standing m f.kept.components) (standing m g.kept.components) (group_of f.kept.map stripe)
    (standing_alike m f.kept.components g.kept.components h))

pub lost_by_standing : (m : Moment) (a b : Component) → StandAlike a b → LostAlike m a b
lost_by_standing m a b h =
    ap (λ (x : Bool). x || among a.drive m.failed) h.1 ∙ ap (λ (d : ℕ). b.missing || among d m.failed) h.0

-- those on a drive that failed
out_one : (m : Moment) (d : ℕ) (at : Component) → among d m.failed ≡ true → (at.drive == d) ≡ true
    → LostAlike m (lost at) at
out_one m d at e t =
    let s : at.drive ≡ d = grind (arith, nat_tests, t) in
    sym (or_true at.missing (among at.drive m.failed) (ap (λ (x : ℕ). among x m.failed) s ∙ e))
  where
    or_true : (a b : Bool) → b ≡ true → (a || b) ≡ true
    or_true true b q = refl
    or_true false b q = q

pub out_alike : (m : Moment) (d : ℕ) (cs : List Component) → among d m.failed ≡ true
    → Paired (LostAlike m) cs (lose_on d cs)
unfolding lose_on
out_alike m d [] e = tt
out_alike m d (at ∷ cs) e = elim (cases_Bool (at.drive == d)) [
  | inl t ↦ rw t (sym (out_one m d at e t), out_alike m d cs e)
  | inr z ↦ rw z (refl, out_alike m d cs e)
]

-- ---- they stay so along lines

mark_lost : (m : Moment) (a b : Component) → LostAlike m a b → LostAlike m (lost a) (lost b)
mark_lost m a b h = refl

mark_stood : (m : Moment) (a b : Component) (d : ℕ) → LostAlike m a b
    → LostAlike m (record a { drive = d; missing = false }) (record b { drive = d; missing = false })
mark_stood m a b d h = refl

noted_alike : (m : Moment) (xs ys : List Component) (what : ToldNote) → Paired (LostAlike m) xs ys
    → Paired (LostAlike m) (noted xs what) (noted ys what)
noted_alike m xs ys (note.NoSpace k) h = paired_lost (LostAlike m) (mark_lost m) (k ∷ []) xs ys 0 h
noted_alike m xs ys (note.Reported k) h = paired_lost (LostAlike m) (mark_lost m) (k ∷ []) xs ys 0 h
noted_alike m xs ys (note.Rebuilt k d) h =
    rw (stands_is xs k d, stands_is ys k d) (paired_stood (LostAlike m) (mark_stood m) xs ys k d h)
noted_alike m xs ys what h = h

line_alike : (m : Moment) (n : ℕ) (xs ys : List Component) (l : Line) → Paired (LostAlike m) xs ys
    → Paired (LostAlike m) (told_by n xs l) (told_by n ys l)
line_alike m n xs ys (line.Note f what) h = elim (cases_Bool (f == n)) [
  | inl t ↦ rw t (noted_alike m xs ys what h)
  | inr z ↦ rw z h
]
line_alike m n xs ys l h = h

pub told_alike : (m : Moment) (n : ℕ) (xs ys : List Component) (ls : List Line) → Paired (LostAlike m) xs ys
    → Paired (LostAlike m) (told_in n xs ls) (told_in n ys ls)
told_alike m n xs ys [] h = h
told_alike m n xs ys (l ∷ ls) h = told_alike m n (told_by n xs l) (told_by n ys l) ls (line_alike m n xs ys l h)
