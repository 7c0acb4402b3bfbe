-- The zones of the server's drives, behind each change of their list.
use Rattle.std.proofs.Common.{◌≡◌, ℕ, ◌==◌, ◌&&◌, ◌||◌, nat_lt, ◌∷◌, [], List, Bool, true, false, true≢false, Option, Some, None, refl, sym, ap, subst, ◌∙◌, inl, inr, eq-eqb, ne_eqb}
use Rattle.std.specs.List.{list_any}
use Rattle.std.proofs.lemmas.Bool.{cases_Bool, cases_eq}
use Rattle.zone_place.specs.Zones.{InZone}
use Rattle.zone_place.specs.Zones as zones
use Rattle.server_rules.specs.declared.server.Drive.{Drive}
use Rattle.server_rules.specs.Numbers.{among}
use Rattle.server_rules.specs.Making.{add_drive, online}
use Rattle.server_rules.specs.Orders.{offline}
use Rattle.server_rules.specs.Zoning.{and_in_zone, in_zones, zone_or, put_in_zone}
use Rattle.component_law.specs.Apart.{AreDifferent}
use Rattle.component_law.proofs.Drives.{not_first}
use Rattle.component_law.proofs.Placing.{numbers, different_filtered}
use Rattle.component_law.specs.Spread.{has_zone}

-- ---- tests of one drive

-- the test fails for each other drive
abbrev pub IsOf : ℕ → (InZone → Bool) → Type 0
IsOf n q = (m z : ℕ) → (m ≡ n → ⊥) → q (record { drive = m; zone = z }) ≡ false

pub of_zone : (n : ℕ) → IsOf n (λ (d : InZone). d.drive == n)
of_zone n m z ne = ne_eqb m n ne

pub of_stand : (n y : ℕ) → IsOf n (λ (d : InZone). (d.drive == n) && (d.zone == y))
of_stand n y m z ne = rw (ne_eqb m n ne) refl

-- another drive in front changes nothing
any_front : (q : InZone → Bool) (n m : ℕ) (o : Option ℕ) (rest : List InZone) → IsOf n q → (m ≡ n → ⊥)
    → list_any q (and_in_zone m o rest) ≡ list_any q rest
any_front q n m None rest of ne = refl
any_front q n m (Some z) rest of ne = rw (of m z ne) refl

front_more : (q : InZone → Bool) (m : ℕ) (o : Option ℕ) (xs ys : List InZone) → list_any q xs ≡ list_any q ys
    → list_any q (and_in_zone m o xs) ≡ list_any q (and_in_zone m o ys)
front_more q m None xs ys e = e
front_more q m (Some z) xs ys e = ap (λ (b : Bool). q (record { drive = m; zone = z }) || b) e

-- none for a drive that isn't there
none_any : (q : InZone → Bool) (n : ℕ) (ds : List Drive) → IsOf n q → among n (numbers ds) ≡ false
    → list_any q (in_zones ds) ≡ false
unfolding in_zones
none_any q n [] of a = refl
none_any q n (d ∷ ds) of a =
    let p = not_first n d.number (numbers ds) a in
    any_front q n d.number d.zone (in_zones ds) of (λ e. p.0 (sym e)) ∙ none_any q n ds of p.1

is_among : (n : ℕ) (ds : List Drive) → has_zone (in_zones ds) n ≡ true → among n (numbers ds) ≡ true
is_among n ds h = elim (cases_Bool (among n (numbers ds))) [
  | inl t ↦ t
  | inr z ↦ absurd (true≢false (sym h ∙ none_any (λ (d : InZone). d.drive == n) n ds (of_zone n) z))
]

-- ---- drives that are in the same zones

-- each drive of the former that is in a zone is in that zone alone by the latter, too
abbrev pub SameZones : List InZone → List InZone → Type 0
SameZones ds es =
    (n : ℕ) → has_zone ds n ≡ true → (q : InZone → Bool) → IsOf n q → list_any q es ≡ list_any q ds

pub same_equal : (ds es : List InZone) → es ≡ ds → SameZones ds es
same_equal ds es e n h q of = ap (list_any q) e

-- ---- a drive is added

any_added : (q : InZone → Bool) (n : ℕ) (ds : List Drive) (d : Drive) → IsOf n q → (d.number ≡ n → ⊥)
    → list_any q (in_zones (add_drive ds d)) ≡ list_any q (in_zones ds)
unfolding in_zones add_drive
any_added q n [] d of ne = any_front q n d.number d.zone [] of ne
any_added q n (e ∷ ds) d of ne = elim (cases_Bool (nat_lt e.number d.number)) [
  | inl t ↦ rw t (front_more q e.number e.zone (in_zones (add_drive ds d)) (in_zones ds) (any_added q n ds d of ne))
  | inr z ↦ rw z (any_front q n d.number d.zone (in_zones (e ∷ ds)) of ne)
]

pub same_added : (ds : List Drive) (d : Drive) → among d.number (numbers ds) ≡ false
    → SameZones (in_zones ds) (in_zones (add_drive ds d))
same_added ds d new n h q of =
    any_added q n ds d of (λ e. true≢false (sym (subst (λ (k : ℕ). among k (numbers ds) ≡ true) (sym e) (is_among n ds h)) ∙ new))

-- ---- a drive is put into a zone

any_put : (q : InZone → Bool) (n : ℕ) (ds : List Drive) (m z : ℕ) → IsOf n q → (m ≡ n → ⊥)
    → list_any q (in_zones (put_in_zone ds m z)) ≡ list_any q (in_zones ds)
unfolding in_zones put_in_zone
any_put q n [] m z of ne = refl
any_put q n (d ∷ ds) m z of ne = elim (cases_eq d.number m) [
  | inl e ↦
      let other : d.number ≡ n → ⊥ = λ f. ne (sym e ∙ f) in
      rw (eq-eqb d.number m e)
      (any_front q n d.number (zone_or z d.zone) (in_zones (put_in_zone ds m z)) of other
      ∙ any_put q n ds m z of ne ∙ sym (any_front q n d.number d.zone (in_zones ds) of other))
  | inr o ↦
      rw (ne_eqb d.number m o)
      (front_more q d.number d.zone (in_zones (put_in_zone ds m z)) (in_zones ds) (any_put q n ds m z of ne))
]

none_put : (ds : List Drive) (n z : ℕ) → among n (numbers ds) ≡ false → put_in_zone ds n z ≡ ds
unfolding put_in_zone
none_put [] n z a = refl
none_put (d ∷ ds) n z a =
    let p = not_first n d.number (numbers ds) a in
    rw (ne_eqb d.number n (λ e. p.0 (sym e))) (ap (λ (x : List Drive). d ∷ x) (none_put ds n z p.1))

-- the drive in front stays in its zone
first_stays : (d : Drive) (ds : List Drive) (n z : ℕ) (o : Option ℕ) → d.zone ≡ o → d.number ≡ n
    → among n (numbers ds) ≡ false → has_zone (and_in_zone d.number o (in_zones ds)) n ≡ true
    → record d { zone = zone_or z o } ≡ d
first_stays d ds n z None is e a h =
    absurd (true≢false (sym h ∙ none_any (λ (x : InZone). x.drive == n) n ds (of_zone n) a))
first_stays d ds n z (Some y) is e a h = ap (λ (o : Option ℕ). record d { zone = o }) (sym is)

there_put : (ds : List Drive) (n z : ℕ) → AreDifferent (numbers ds) → has_zone (in_zones ds) n ≡ true
    → put_in_zone ds n z ≡ ds
unfolding in_zones put_in_zone
there_put [] n z a h = refl
there_put (d ∷ ds) n z a h = elim (cases_eq d.number n) [
  | inl e ↦
      let none : among n (numbers ds) ≡ false = subst (λ (k : ℕ). among k (numbers ds) ≡ false) e a.0 in
      rw (eq-eqb d.number n e)
      (ap (λ (x : Drive). x ∷ put_in_zone ds n z) (first_stays d ds n z d.zone refl e none h)
      ∙ ap (λ (x : List Drive). d ∷ x) (none_put ds n z none))
  | inr o ↦
      rw (ne_eqb d.number n o)
      (ap (λ (x : List Drive). d ∷ x)
      (there_put ds n z a.1 (sym (any_front (λ (x : InZone). x.drive == n) n d.number d.zone (in_zones ds) (of_zone n) o) ∙ h)))
]

pub same_put : (ds : List Drive) (m z : ℕ) → AreDifferent (numbers ds)
    → SameZones (in_zones ds) (in_zones (put_in_zone ds m z))
same_put ds m z a n h q of = elim (cases_eq m n) [
  | inl e ↦
      ap (λ (x : List Drive). list_any q (in_zones x))
      (there_put ds m z a (subst (λ (k : ℕ). has_zone (in_zones ds) k ≡ true) (sym e) h))
  | inr o ↦ any_put q n ds m z of o
]

-- ---- a drive is declared

pub zones_offline : (ds : List Drive) (drive : ℕ) → in_zones (offline ds drive) ≡ in_zones ds
unfolding in_zones offline
zones_offline [] drive = refl
zones_offline (d ∷ ds) drive = elim (cases_Bool (d.number == drive)) [
  | inl t ↦ rw t (ap (and_in_zone d.number d.zone) (zones_offline ds drive))
  | inr z ↦ rw z (ap (and_in_zone d.number d.zone) (zones_offline ds drive))
]

-- ---- those that are online

behind : (b c : Bool) → c ≡ true → (b || c) ≡ true
behind true c e = refl
behind false c e = e

first_or : (b c x : Bool) → (b || x) ≡ true → (x ≡ true → c ≡ true) → (b || c) ≡ true
first_or true c x e f = refl
first_or false c x e f = f e

was_online : (n : ℕ) (ds : List Drive) → among n (numbers (online ds)) ≡ true → among n (numbers ds) ≡ true
unfolding among
was_online n [] t = t
was_online n (d ∷ ds) t = elim (cases_Bool d.online) [
  | inl is ↦
      first_or (n == d.number) (among n (numbers ds)) (among n (numbers (online ds))) (rw is at t) (was_online n ds)
  | inr is ↦ behind (n == d.number) (among n (numbers ds)) (was_online n ds (rw is at t))
]

not_online : (n : ℕ) (ds : List Drive) → among n (numbers ds) ≡ false → among n (numbers (online ds)) ≡ false
not_online n ds a = elim (cases_Bool (among n (numbers (online ds)))) [
  | inl t ↦ absurd (true≢false (sym (was_online n ds t) ∙ a))
  | inr z ↦ z
]

any_online : (q : InZone → Bool) (n : ℕ) (ds : List Drive) → IsOf n q → AreDifferent (numbers ds)
    → has_zone (in_zones (online ds)) n ≡ true → list_any q (in_zones ds) ≡ list_any q (in_zones (online ds))
unfolding in_zones
any_online q n [] of a h = refl
any_online q n (d ∷ ds) of a h = elim (cases_Bool d.online) [
  | inl is ↦ rw is (elim (cases_eq d.number n) [
    | inl e ↦
        let none : among n (numbers ds) ≡ false = subst (λ (k : ℕ). among k (numbers ds) ≡ false) e a.0 in
        front_more q d.number d.zone (in_zones ds) (in_zones (online ds))
        (none_any q n ds of none ∙ sym (none_any q n (online ds) of (not_online n ds none)))
    | inr o ↦
        front_more q d.number d.zone (in_zones ds) (in_zones (online ds))
        (any_online q n ds of a.1
        (sym (any_front (λ (x : InZone). x.drive == n) n d.number d.zone (in_zones (online ds)) (of_zone n) o) ∙ (rw is at h)))
  ])
  | inr is ↦ rw is (elim (cases_eq d.number n) [
    | inl e ↦
        let none : among n (numbers ds) ≡ false = subst (λ (k : ℕ). among k (numbers ds) ≡ false) e a.0 in
        absurd (true≢false (sym (rw is at h)
        ∙ none_any (λ (x : InZone). x.drive == n) n (online ds) (of_zone n) (not_online n ds none)))
    | inr o ↦ any_front q n d.number d.zone (in_zones ds) of o ∙ any_online q n ds of a.1 (rw is at h)
  ])
]

pub same_online : (ds : List Drive) → AreDifferent (numbers ds) → SameZones (in_zones (online ds)) (in_zones ds)
same_online ds a n h q of = any_online q n ds of a h

-- ---- different drives

different_first : (n : ℕ) (o : Option ℕ) (ds : List InZone) → list_any (λ (x : InZone). x.drive == n) ds ≡ false
    → zones.AreDifferent ds → zones.AreDifferent (and_in_zone n o ds)
unfolding zones.AreDifferent
different_first n None ds new a = a
different_first n (Some z) ds new a = (new, a)

pub different_zones : (ds : List Drive) → AreDifferent (numbers ds) → zones.AreDifferent (in_zones ds)
unfolding in_zones zones.AreDifferent
different_zones [] a = tt
different_zones (d ∷ ds) a =
    different_first d.number d.zone (in_zones ds)
    (none_any (λ (x : InZone). x.drive == d.number) d.number ds (of_zone d.number) a.0) (different_zones ds a.1)

pub different_online : (ds : List Drive) → AreDifferent (numbers ds) → zones.AreDifferent (in_zones (online ds))
different_online ds a = different_zones (online ds) (different_filtered (λ (d : Drive). d.online) ds a)
