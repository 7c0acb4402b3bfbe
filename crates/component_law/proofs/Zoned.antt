-- A drive comes into a zone by what the server is told, and stays there.
use Rattle.std.proofs.Common.{◌≡◌, ◌⊎◌, ℕ, ◌==◌, ◌&&◌, ◌||◌, nat_lt, List, [], ◌∷◌, Bool, true, false, Option, Some, None, refl, sym, ap, subst, ◌∙◌, inl, inr, eq-eqb, ne_eqb}
use Rattle.std.proofs.lemmas.Bool.{cases_Bool, cases_eq, eqb-true, and_parts}
use Rattle.zone_place.specs.Zones.{InZone, stands_in}
use Rattle.server_rules.specs.declared.server.Server.{Server}
use Rattle.server_rules.specs.declared.server.Drive.{Drive}
use Rattle.server_rules.specs.declared.requests.ClientRequest.{ClientRequest}
use Rattle.server_rules.specs.Files.{Step}
use Rattle.server_rules.specs.History.{Input, step}
use Rattle.server_rules.specs.Making.{add_drive}
use Rattle.server_rules.specs.Orders.{declare}
use Rattle.server_rules.specs.Requests.{on_request}
use Rattle.server_rules.specs.Zoning.{and_in_zone, in_zones, zone_or, put_in_zone}
use Rattle.history_law.proofs.Steps.{each_step, each_request}
use Rattle.component_law.specs.Apart.{IsFresh}
use Rattle.component_law.specs.Spread.{AreApart}
use Rattle.component_law.specs.Zoned.{Gives, ZonesGoOn, EachStepZones}
use Rattle.component_law.proofs.Zones.{SameZones, of_stand, same_added, same_put, zones_offline}
use Rattle.component_law.proofs.Keeping.{has_stand}

-- ---- one drive more

either : (b : Bool) {c : Bool} → (b || c) ≡ true → (b ≡ true) ⊎ (c ≡ true)
either true e = inl refl
either false e = inr e

-- in front of others
stands_first : (n : ℕ) (o : Option ℕ) (ds : List InZone) (drive zone : ℕ)
    → stands_in (and_in_zone n o ds) drive zone ≡ true
    → ((drive ≡ n) × (o ≡ Some zone)) ⊎ (stands_in ds drive zone ≡ true)
stands_first n None ds drive zone e = inr e
stands_first n (Some y) ds drive zone e = elim (either ((n == drive) && (y == zone)) e) [
  | inl t ↦
      let both = and_parts (n == drive) (y == zone) t in
      inl (sym (eqb-true n drive both.0), ap Some (eqb-true y zone both.1))
  | inr f ↦ inr f
]

stands_front : (n : ℕ) (o : Option ℕ) (ds : List InZone) (drive zone : ℕ) → (drive ≡ n) × (o ≡ Some zone)
    → stands_in (and_in_zone n o ds) drive zone ≡ true
stands_front n None ds drive zone e = absurd (cc e.1)
stands_front n (Some y) ds drive zone e =
    let same : y ≡ zone = cc e.1 in
    rw (eq-eqb n drive (sym e.0), eq-eqb y zone same) refl

stands_behind : (n : ℕ) (o : Option ℕ) (ds : List InZone) (drive zone : ℕ) → stands_in ds drive zone ≡ true
    → stands_in (and_in_zone n o ds) drive zone ≡ true
stands_behind n None ds drive zone e = e
stands_behind n (Some y) ds drive zone e = last ((n == drive) && (y == zone)) e
  where
    last : (b : Bool) {c : Bool} → c ≡ true → (b || c) ≡ true
    last true e = refl
    last false e = e

added_came : (ds : List Drive) (d : Drive) (drive zone : ℕ) → stands_in (in_zones (add_drive ds d)) drive zone ≡ true
    → (stands_in (in_zones ds) drive zone ≡ true) ⊎ ((drive ≡ d.number) × (d.zone ≡ Some zone))
unfolding in_zones add_drive
added_came [] d drive zone e = elim (stands_first d.number d.zone [] drive zone e) [ inl x ↦ inr x | inr y ↦ inl y ]
added_came (x ∷ ds) d drive zone e = elim (cases_Bool (nat_lt x.number d.number)) [
  | inl t ↦ elim (stands_first x.number x.zone (in_zones (add_drive ds d)) drive zone (rw t at e)) [
    | inl here ↦ inl (stands_front x.number x.zone (in_zones ds) drive zone here)
    | inr rest ↦ elim (added_came ds d drive zone rest) [
      | inl was ↦ inl (stands_behind x.number x.zone (in_zones ds) drive zone was)
      | inr new ↦ inr new
    ]
  ]
  | inr z ↦ elim (stands_first d.number d.zone (in_zones (x ∷ ds)) drive zone (rw z at e)) [
    | inl here ↦ inr here
    | inr rest ↦ inl rest
  ]
]

-- ---- a zone more

zone_came : (o : Option ℕ) (y zone : ℕ) → zone_or y o ≡ Some zone → (o ≡ Some zone) ⊎ (zone ≡ y)
zone_came None y zone e = inr (sym (cc e))
zone_came (Some z) y zone e = inl e

put_came : (ds : List Drive) (n y drive zone : ℕ) → stands_in (in_zones (put_in_zone ds n y)) drive zone ≡ true
    → (stands_in (in_zones ds) drive zone ≡ true) ⊎ ((drive ≡ n) × (zone ≡ y))
unfolding in_zones put_in_zone
put_came [] n y drive zone e = inl e
put_came (x ∷ ds) n y drive zone e = elim (cases_eq x.number n) [
  | inl it ↦ elim (stands_first x.number (zone_or y x.zone) (in_zones (put_in_zone ds n y)) drive zone
      (rw (eq-eqb x.number n it) at e)) [
        | inl here ↦ elim (zone_came x.zone y zone here.1) [
          | inl was ↦ inl (stands_front x.number x.zone (in_zones ds) drive zone (here.0, was))
          | inr new ↦ inr (here.0 ∙ it, new)
        ]
        | inr rest ↦ later (put_came ds n y drive zone rest)
      ]
  | inr other ↦ elim (stands_first x.number x.zone (in_zones (put_in_zone ds n y)) drive zone
      (rw (ne_eqb x.number n other) at e)) [
        | inl here ↦ inl (stands_front x.number x.zone (in_zones ds) drive zone here)
        | inr rest ↦ later (put_came ds n y drive zone rest)
      ]
]
  where
    later : (stands_in (in_zones ds) drive zone ≡ true) ⊎ ((drive ≡ n) × (zone ≡ y))
        → (stands_in (and_in_zone x.number x.zone (in_zones ds)) drive zone ≡ true) ⊎ ((drive ≡ n) × (zone ≡ y))
    later (inl was) = inl (stands_behind x.number x.zone (in_zones ds) drive zone was)
    later (inr new) = inr new

-- ---- each step

still_stands : (ds es : List InZone) → SameZones ds es → (drive zone : ℕ) → stands_in ds drive zone ≡ true
    → stands_in es drive zone ≡ true
still_stands ds es same drive zone e =
    same drive (has_stand ds drive zone e) (λ (d : InZone). (d.drive == drive) && (d.zone == zone)) (of_stand drive zone) ∙ e

module _ (s : Server) (chosen : List ℕ) (i : Input) (apart : AreApart s) (fresh : IsFresh s i) where
  abbrev Goes : Step → Type 0
  Goes t = ZonesGoOn s i t.state

  -- the same zones
  same : (t : Server) → in_zones t.drives ≡ in_zones s.drives → ZonesGoOn s i t
  same t e = record {
    came = λ drive zone h. inl (ap (λ (ds : List InZone). stands_in ds drive zone) (sym e) ∙ h);
    stay = λ drive zone h. ap (λ (ds : List InZone). stands_in ds drive zone) e ∙ h;
  }

  asked : (now : ℕ) (q : ClientRequest) → Goes (on_request s now chosen q)
  asked now q = each_request s now chosen q Goes (record {
    again = λ kept is. same _ refl;
    misordered = λ expected is. same _ refl;
    without = λ new none. same _ refl;
    served = λ new f found. same _ refl;
  })

  declared : (d : ℕ) → Goes (declare s chosen d)
  unfolding declare
  declared d = same _ (zones_offline s.drives d)

  pub zones_step : Goes (step s chosen i)
  zones_step = each_step s chosen i Goes (record {
    rests = same s refl;
    asked = λ now q is. asked now q;
    answered = λ x is. same _ refl;
    recalled = λ f is. same _ refl;
    refused = λ f is n why. same _ refl;
    fenced = λ f is kind none low. same _ refl;
    declared = λ d known. declared d;
    told = λ t now o is result l. record { came = l.came; stay = l.stay };
    made = λ n m tag zoned is none. same _ refl;
    added = λ d is. record {
      came = λ drive zone h. elim (added_came s.drives d drive zone h) [
        | inl was ↦ inl was
        | inr new ↦ inr (subst (λ (j : Input). Gives j drive zone) (sym is) new)
      ];
      stay = still_stands _ _ (same_added s.drives d (subst (IsFresh s) is fresh));
    };
    zoned = λ d z is. record {
      came = λ drive zone h. elim (put_came s.drives d z drive zone h) [
        | inl was ↦ inl was
        | inr new ↦ inr (subst (λ (j : Input). Gives j drive zone) (sym is) new)
      ];
      stay = still_stands _ _ (same_put s.drives d z apart);
    };
    formats = λ n is. same _ refl;
    resends = λ is. same _ refl;
    crashes = λ is. same _ refl;
    opened = λ is low. same _ refl;
  })

pub each_step_zones : EachStepZones
each_step_zones s chosen i apart fresh = zones_step s chosen i apart fresh
