-- The keys that the server has for drives: each step keeps them, and one drive more brings its own.
use Rattle.std.proofs.Common.{◌≡◌, ◌==◌, ℕ, nat_lt, nat_eq, ◌∷◌, [], List, Bool, true, false, Option, Some, None, find, option_map, refl, sym, ap, ◌∙◌, inl, inr, if◌then◌else◌}
use Rattle.std.specs.List.{list_any}
use Rattle.std.proofs.lemmas.Bool.{cases_Bool, eq-eqb, ne_eqb}
use Rattle.osd_drive.specs.declared.keys.DriveKey.{DriveKey}
use Rattle.server_rules.specs.Files.{Step}
use Rattle.server_rules.specs.Making.{add_drive}
use Rattle.server_rules.specs.Orders.{offline, declare}
use Rattle.server_rules.specs.Zoning.{put_in_zone}
use Rattle.server_rules.specs.History.{Input, Adds, step}
use Rattle.world_history.specs.ServerNames.{Server, Drive}
use Rattle.world_history.specs.Drives.{first_key}
use Rattle.history_law.specs.Steps.{StepCases}
use Rattle.history_law.proofs.Steps.{each_step, each_request}

-- the keys of a drive as the server has them
abbrev pub keys_for : Option Drive → Option (List DriveKey)
keys_for o = option_map (λ (x : Drive). first_key x.key ∷ []) o

abbrev pub known_keys : List Drive → (drive : ℕ) → Option (List DriveKey)
known_keys ds d = keys_for (find (λ (x : Drive). x.number == d) ds)

-- ---- one drive more

pub added_here : (ds : List Drive) (x : Drive) → known_keys ds x.number ≡ None
    → known_keys (add_drive ds x) x.number ≡ Some (first_key x.key ∷ [])
unfolding add_drive
added_here [] x none = rw (eq-eqb x.number x.number refl) refl
added_here (y ∷ ds) x none = elim (cases_Bool (nat_lt y.number x.number)) [
  | inl t ↦ rw t (elim (cases_Bool (y.number == x.number)) [
    | inl it ↦ absurd (there y (find (λ (z : Drive). z.number == x.number) ds) (y.number == x.number) it none)
    | inr other ↦ rw other (added_here ds x (beside y (find (λ (z : Drive). z.number == x.number) ds)
        (y.number == x.number) other none))
  ])
  | inr z ↦ rw z (rw (eq-eqb x.number x.number refl) refl)
]
  where
    there : (y : Drive) (o : Option Drive) (b : Bool) → b ≡ true → keys_for (if b then Some y else o) ≡ None → ⊥
    there y o true e none = cc none
    there y o false e none = cc e

    beside : (y : Drive) (o : Option Drive) (b : Bool) → b ≡ false → keys_for (if b then Some y else o) ≡ None
        → keys_for o ≡ None
    beside y o false e none = none
    beside y o true e none = absurd (cc e)

pub added_other : (ds : List Drive) (x : Drive) (d : ℕ) → (x.number ≡ d → ⊥)
    → known_keys (add_drive ds x) d ≡ known_keys ds d
unfolding add_drive
added_other [] x d other = rw (ne_eqb x.number d other) refl
added_other (y ∷ ds) x d other = elim (cases_Bool (nat_lt y.number x.number)) [
  | inl t ↦ rw t (elim (cases_Bool (y.number == d)) [
    | inl it ↦ rw it refl
    | inr differs ↦ rw differs (added_other ds x d other)
  ])
  | inr z ↦ rw z (rw (ne_eqb x.number d other) refl)
]

pub not_known : (ds : List Drive) (d : ℕ) → known_keys ds d ≡ None
    → list_any (λ (x : Drive). nat_eq x.number d) ds ≡ false
not_known [] d none = refl
not_known (y ∷ ds) d none = elim (cases_Bool (y.number == d)) [
  | inl it ↦ absurd (cc (sym none ∙ ap (λ (b : Bool). keys_for (if b then Some y
      else find (λ (z : Drive). z.number == d) ds)) it))
  | inr differs ↦ rw differs (not_known ds d
      (sym (ap (λ (b : Bool). keys_for (if b then Some y else find (λ (z : Drive). z.number == d) ds)) differs) ∙ none))
]

-- ---- a step

pick : (x y : Drive) (b : Bool) (o p : Option Drive) → x.key ≡ y.key → keys_for o ≡ keys_for p
    → keys_for (if b then Some x else o) ≡ keys_for (if b then Some y else p)
pick x y true o p e f = ap (λ (k : List ℕ). Some (first_key k ∷ [])) e
pick x y false o p e f = f

pub offline_keys : (ds : List Drive) (drive d : ℕ) → known_keys (offline ds drive) d ≡ known_keys ds d
unfolding offline
offline_keys [] drive d = refl
offline_keys (x ∷ ds) drive d = elim (cases_Bool (x.number == drive)) [
  | inl t ↦ rw t (pick _ x (x.number == d) _ _ refl (offline_keys ds drive d))
  | inr z ↦ rw z (pick _ x (x.number == d) _ _ refl (offline_keys ds drive d))
]

pub zoned_keys : (ds : List Drive) (n z d : ℕ) → known_keys (put_in_zone ds n z) d ≡ known_keys ds d
unfolding put_in_zone
zoned_keys [] n z d = refl
zoned_keys (x ∷ ds) n z d = elim (cases_Bool (x.number == n)) [
  | inl t ↦ rw t (pick _ x (x.number == d) _ _ refl (zoned_keys ds n z d))
  | inr o ↦ rw o (pick _ x (x.number == d) _ _ refl (zoned_keys ds n z d))
]

-- the same keys
abbrev Knows : Server → Step → Type 0
Knows s did = (d : ℕ) → known_keys did.state.drives d ≡ known_keys s.drives d

-- so it is in each step that adds no drive
cases : (s : Server) (chosen : List ℕ) (i : Input) → ((x : Drive) → i ≡ Adds x → ⊥) → StepCases s chosen i (Knows s)
unfolding declare
cases s chosen i none = record {
  rests = λ d. refl;
  asked = λ now q is. each_request s now chosen q (Knows s) (record {
    again = λ kept is d. refl;
    misordered = λ expected is d. refl;
    without = λ new found d. refl;
    served = λ new f found d. refl;
  });
  answered = λ x is d. refl;
  recalled = λ f is d. refl;
  refused = λ f is n why d. refl;
  fenced = λ f is kind free low d. refl;
  declared = λ drive known d. offline_keys s.drives drive d;
  told = λ t now o is result same. same;
  made = λ n m tag zoned is free d. refl;
  added = λ x is. absurd (none x is);
  zoned = λ n zone is d. zoned_keys s.drives n zone d;
  formats = λ n is d. refl;
  resends = λ is d. refl;
  crashes = λ is d. refl;
  opened = λ is low d. refl;
}

-- the drives behind a step
abbrev pub known_then : Input → List Drive → List Drive
known_then (Adds x) ds = add_drive ds x
known_then i ds = ds

pub keys_step : (s : Server) (chosen : List ℕ) (i : Input) (d : ℕ)
    → known_keys (step s chosen i).state.drives d ≡ known_keys (known_then i s.drives) d
keys_step s chosen (Adds x) d = refl
keys_step s chosen i d = each_step s chosen i (Knows s) (cases s chosen i (λ x is. absurd (cc is))) d
