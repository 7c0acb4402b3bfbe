-- The entries under a grant are taken as a loss.
use Rattle.std.proofs.Common.{◌≡◌, ◌⊎◌, ℕ, zero, suc, ◌==◌, ◌||◌, ◌&&◌, ◌∷◌, [], List, Bool, true, false, not, Option, Some, None, map, slice_get, slice_set, refl, sym, ap, ◌∙◌, arith, inl, inr, eq-eqb, ne_eqb, if◌then◌else◌}
use Rattle.std.specs.List.{fold}
use Rattle.std.specs.Option.{option_map}
use Rattle.std.specs.Ordering.{nat_cmp}
use Rattle.std.specs.BTreeMap.{is_at}
use Rattle.std.proofs.lemmas.Bool.{cases_Bool, cases_eq}
use Rattle.std.proofs.lemmas.Bool.Decides.{nat_tests}
use Rattle.server_rules.specs.Numbers.{among}
use Rattle.world_history.specs.State.{at_number, without_number}
use Rattle.world_history.specs.ReadLog.{Pending, Logged, Log}
use Rattle.world_history.specs.Stripes.{is_acknowledged}
use Rattle.world_history.specs.Calm.{taken_by, taken_under, is_told_taken}
use Rattle.world_calm.specs.declared.calls.LogEntry.{LogEntry}
use Rattle.world_calm.specs.Log.{LogState, finished_with, finished}
use Rattle.world_calm.specs.Seeing.{CalmState, numbers_in, taken_if as takes_if}
use Rattle.component_law.specs.Words.{Each}
use Rattle.calm_law.specs.Logs.{view, Key, key, HasEntry, IsUnder, KeepsKeys, KeepsLog, TakenAlike}
use Rattle.component_law.proofs.Lists.{each_more, same_lists, get_map, map_length, each_removed, each_found, removed_beside}

-- ---- entries are finished one after another

abbrev fin : LogEntry → LogEntry
fin e = record e { finished = true }

abbrev fin_if : Bool → Option LogEntry → Option LogEntry
fin_if true o = option_map fin o
fin_if false o = o

set_at : (es : List LogEntry) (n i : ℕ) (x y : LogEntry) → slice_get es n ≡ Some x
    → ((n ≡ i) × (slice_get (slice_set es n y) i ≡ Some y)) ⊎ ((n ≡ i → ⊥) × (slice_get (slice_set es n y) i ≡ slice_get es i))
set_at [] n i x y e = absurd (cc e)
set_at (z ∷ es) zero zero x y e = inl (refl, refl)
set_at (z ∷ es) zero (suc i) x y e = inr (λ q. absurd (omega (arith, q)), refl)
set_at (z ∷ es) (suc n) zero x y e = inr (λ q. absurd (omega (arith, q)), refl)
set_at (z ∷ es) (suc n) (suc i) x y e = elim (set_at es n i x y e) [
  | inl a ↦ inl (ap (λ (k : ℕ). suc k) a.0, a.1)
  | inr b ↦ inr (λ q. b.0 (omega (arith, q)), b.1)
]

-- entry i behind the end of entry n
one_fin : (es : List LogEntry) (n i : ℕ) (o : Option LogEntry) → slice_get es n ≡ o
    → slice_get (finished_with es n o) i ≡ fin_if (i == n) (slice_get es i)
one_fin es n i None e = elim (cases_eq i n) [
  | inl same ↦ rw (eq-eqb i n same) (rw same (rw e refl))
  | inr other ↦ rw (ne_eqb i n other) refl
]
one_fin es n i (Some x) e = elim (set_at es n i x (fin x) e) [
  | inl a ↦ rw (eq-eqb i n (sym a.0)) (a.1 ∙ sym (ap (option_map fin) (ap (λ (k : ℕ). slice_get es k) (sym a.0) ∙ e)))
  | inr b ↦ rw (ne_eqb i n (λ q. b.0 (sym q))) b.1
]

fin_again : (a b : Bool) (o : Option LogEntry) → fin_if b (fin_if a o) ≡ fin_if (a || b) o
fin_again true true None = refl
fin_again true true (Some x) = refl
fin_again true false o = refl
fin_again false b o = refl

all_fin : (l : LogState) (ns : List ℕ) (i : ℕ)
    → slice_get (fold finished l ns).entries i ≡ fin_if (among i ns) (slice_get l.entries i)
unfolding among
all_fin l [] i = refl
all_fin l (n ∷ ns) i =
    all_fin (finished l n) ns i
    ∙ ap (fin_if (among i ns)) (one_fin l.entries n i (slice_get l.entries n) refl)
    ∙ fin_again (i == n) (among i ns) (slice_get l.entries i)

rest_stays : (l : LogState) (ns : List ℕ) → ((fold finished l ns).pending ≡ l.pending)
    × ((fold finished l ns).sent_for ≡ l.sent_for) × ((fold finished l ns).by_grant ≡ l.by_grant)
rest_stays l [] = (refl, refl, refl)
rest_stays l (n ∷ ns) = rest_stays (finished l n) ns

-- ---- they are those of the grant

taken_view : (e : Logged) → view (record e { taken = true }) ≡ fin (view e)
taken_view e =
    ap (λ (b : Bool). record { client = e.client; grant = e.grant; finished = not b }) (none (not (is_acknowledged e.entry)))
  where
    none : (b : Bool) → (b && false) ≡ false
    none true = refl
    none false = refl

was_taken : (e : Logged) → e.taken ≡ true → view e ≡ fin (view e)
was_taken e t =
    ap (λ (b : Bool). record { client = e.client; grant = e.grant; finished = not (not (is_acknowledged e.entry) && not b) }) t
    ∙ taken_view e

listed : (n g : ℕ) (ns : List ℕ) (ks : List Key) → Each (λ m. IsUnder ks g m) ns → among n ns ≡ true → IsUnder ks g n
unfolding among
listed n g [] ks h e = absurd (cc e)
listed n g (m ∷ ns) ks h e = elim (cases_eq n m) [
  | inl same ↦ rw same h.0
  | inr other ↦ listed n g ns ks h.1 (rw (ne_eqb n m other) at e)
]

none_listed : (n g : ℕ) (t : List (ℕ × List ℕ)) (ks : List Key) (o : Option (List ℕ)) → at_number t g ≡ o
    → Each (λ (e : ℕ × List ℕ). Each (λ m. IsUnder ks e.0 m) e.1) t → among n (numbers_in o) ≡ true → IsUnder ks g n
unfolding among
none_listed n g t ks None a h e = absurd (cc e)
none_listed n g t ks (Some ns) a h e =
    let f : (j : ℕ) × (g ≡ j) × Each (λ m. IsUnder ks j m) ns =
    each_found (λ (e : ℕ × List ℕ). Each (λ m. IsUnder ks e.0 m) e.1) t g ns h a in
    rw f.1 (listed n f.0 ns ks f.2 e)

taken_at : (l : Log) (s : LogState) (g i : ℕ) (e : Logged) → KeepsLog l s → slice_get l.entries i ≡ Some e
    → fin_if (among i (numbers_in (at_number s.by_grant g))) (Some (view e)) ≡ Some (view (taken_under g e))
taken_at l s g i e h q = elim (cases_Bool (e.grant == g)) [
  | inl t ↦ elim (cases_Bool (among i (numbers_in (at_number s.by_grant g)))) [
    | inl a ↦ rw (t, a) (ap (λ (x : LogEntry). Some x) (sym (taken_view e)))
    | inr b ↦ elim (cases_Bool e.taken) [
      | inl was ↦ rw (t, b) (ap (λ (x : LogEntry). Some x) (was_taken e was ∙ sym (taken_view e)))
      | inr not_yet ↦
          let same : e.grant ≡ g = grind (arith, nat_tests, t) in
          let in_list : among i (numbers_in (at_number s.by_grant e.grant)) ≡ true =
          h.keys.under i (key e) (get_map key l.entries i ∙ ap (option_map key) q) not_yet in
          absurd (cc (sym (rw same at in_list) ∙ b))
    ]
  ]
  | inr f ↦ elim (cases_Bool (among i (numbers_in (at_number s.by_grant g)))) [
    | inl a ↦
        let u : (k : Key) × (slice_get (map key l.entries) i ≡ Some k) × (k.grant ≡ g) =
        none_listed i g s.by_grant (map key l.entries) (at_number s.by_grant g) refl h.keys.grants a in
        let is : Some (key e) ≡ Some u.0 = sym (get_map key l.entries i ∙ ap (option_map key) q) ∙ u.1 in
        let same : key e ≡ u.0 = cc is in
        let grant : e.grant ≡ g = ap (λ (k : Key). k.grant) same ∙ u.2 in
        absurd (cc (sym (eq-eqb e.grant g grant) ∙ f))
    | inr b ↦ rw (f, b) refl
  ]
]

taken_each : (l : Log) (s : LogState) (g i : ℕ) (o : Option Logged) → KeepsLog l s → slice_get l.entries i ≡ o
    → fin_if (among i (numbers_in (at_number s.by_grant g))) (option_map view o)
    ≡ option_map view (option_map (taken_under g) o)
taken_each l s g i None h q = none_fin (among i (numbers_in (at_number s.by_grant g)))
  where
    none_fin : (b : Bool) → fin_if b None ≡ None
    none_fin true = refl
    none_fin false = refl
taken_each l s g i (Some e) h q = taken_at l s g i e h q

-- ---- the keys then

abbrev taken_key : (grant : ℕ) → Key → Key
taken_key g k = if k.grant == g then record k { taken = true } else k

key_taken : (g : ℕ) (e : Logged) → key (taken_under g e) ≡ taken_key g (key e)
key_taken g e = elim (cases_Bool (e.grant == g)) [ inl t ↦ rw t refl | inr f ↦ rw f refl ]

keys_taken : (g : ℕ) (es : List Logged) → map key (map (taken_under g) es) ≡ map (taken_key g) (map key es)
keys_taken g [] = refl
keys_taken g (e ∷ es) =
    ap (λ (k : Key). k ∷ map key (map (taken_under g) es)) (key_taken g e)
    ∙ ap (λ (ks : List Key). taken_key g (key e) ∷ ks) (keys_taken g es)

same_grant : (g : ℕ) (k : Key) → (taken_key g k).grant ≡ k.grant
same_grant g k = elim (cases_Bool (k.grant == g)) [ inl t ↦ rw t refl | inr f ↦ rw f refl ]

same_kind : (g : ℕ) (k : Key) → (taken_key g k).writes ≡ k.writes
same_kind g k = elim (cases_Bool (k.grant == g)) [ inl t ↦ rw t refl | inr f ↦ rw f refl ]

under_still : (g : ℕ) (ks : List Key) (q n : ℕ) → IsUnder ks q n → IsUnder (map (taken_key g) ks) q n
under_still g ks q n u =
    (taken_key g u.0, get_map (taken_key g) ks n ∙ ap (option_map (taken_key g)) u.1, same_grant g u.0 ∙ u.2)

has_still : (g : ℕ) (ks : List Key) (p : Pending) → HasEntry ks p → HasEntry (map (taken_key g) ks) p
has_still g ks p h n e =
    let u : (k : Key) × (slice_get ks n ≡ Some k) × _ = h n e in
    (taken_key g u.0, get_map (taken_key g) ks n ∙ ap (option_map (taken_key g)) u.1, same_kind g u.0 ∙ u.2)

not_it : (g : ℕ) (k x : Key) → taken_key g k ≡ x → x.taken ≡ false → (k ≡ x) × (x.grant ≡ g → ⊥)
not_it g k x e f = elim (cases_Bool (k.grant == g)) [
  | inl t ↦ absurd (cc (ap (λ (y : Key). y.taken) (rw t at e) ∙ f))
  | inr n ↦
      let same : k ≡ x = rw n at e in
      (same, λ q. absurd (cc (sym (eq-eqb k.grant g (ap (λ (y : Key). y.grant) same ∙ q)) ∙ n)))
]

from_map : (g : ℕ) (o : Option Key) (x : Key) → option_map (taken_key g) o ≡ Some x
    → (k : Key) × (o ≡ Some k) × (taken_key g k ≡ x)
from_map g None x e = absurd (cc e)
from_map g (Some k) x e = let s : taken_key g k ≡ x = cc e in (k, refl, s)

keys_keep : (g : ℕ) (ks : List Key) (ps : List (ℕ × Pending)) (t : List (ℕ × List ℕ)) → KeepsKeys ks ps t
    → KeepsKeys (map (taken_key g) ks) ps (without_number t g)
keys_keep g ks ps t h = record {
  kinds = each_more (λ (e : ℕ × Pending). HasEntry ks e.1) (λ (e : ℕ × Pending). HasEntry (map (taken_key g) ks) e.1)
      (λ e x. has_still g ks e.1 x) ps h.kinds;
  grants = each_removed (λ (e : ℕ × List ℕ). Each (λ n. IsUnder (map (taken_key g) ks) e.0 n) e.1) (is_at (nat_cmp g)) t
      (each_more (λ (e : ℕ × List ℕ). Each (λ n. IsUnder ks e.0 n) e.1)
      (λ (e : ℕ × List ℕ). Each (λ n. IsUnder (map (taken_key g) ks) e.0 n) e.1)
      (λ e x. each_more (λ n. IsUnder ks e.0 n) (λ n. IsUnder (map (taken_key g) ks) e.0 n)
      (λ n u. under_still g ks e.0 n u) e.1 x) t h.grants);
  under = λ n x q f.
      let m : (k : Key) × (slice_get ks n ≡ Some k) × (taken_key g k ≡ x) =
      from_map g (slice_get ks n) x (sym (get_map (taken_key g) ks n) ∙ q) in
      let it : (m.0 ≡ x) × (x.grant ≡ g → ⊥) = not_it g m.0 x m.2 f in
      ap (λ (o : Option (List ℕ)). among n (numbers_in o)) (removed_beside t g x.grant it.1)
      ∙ h.under n x (m.1 ∙ ap (λ (k : Key). Some k) it.0) f;
}

-- ---- a report

grant_keeps : (l : Log) (c : CalmState) (g : ℕ) → KeepsLog l c.log
    → KeepsLog (record l { entries = map (taken_under g) l.entries }) (takes_if c true g).log
grant_keeps l c g h =
    let s : LogState = record c.log { by_grant = without_number c.log.by_grant g } in
    let ns : List ℕ = numbers_in (at_number c.log.by_grant g) in
    let r : ((fold finished s ns).pending ≡ s.pending) × ((fold finished s ns).sent_for ≡ s.sent_for)
    × ((fold finished s ns).by_grant ≡ s.by_grant) = rest_stays s ns in
    record {
      pending = r.0 ∙ h.pending;
      entries = same_lists (fold finished s ns).entries (map view (map (taken_under g) l.entries))
          (λ i. all_fin s ns i
          ∙ ap (fin_if (among i ns)) (ap (λ (es : List LogEntry). slice_get es i) h.entries ∙ get_map view l.entries i)
          ∙ taken_each l c.log g i (slice_get l.entries i) h refl
          ∙ sym (get_map view (map (taken_under g) l.entries) i
          ∙ ap (option_map view) (get_map (taken_under g) l.entries i)));
      sent_for = r.1 ∙ h.sent_for;
      keys = rw (keys_taken g l.entries, r.2) (keys_keep g (map key l.entries) l.pending c.log.by_grant h.keys);
      below = rw (map_length (taken_under g) l.entries) h.below;
    }

told_keeps : (l : Log) (c : CalmState) (told : Bool) (g : ℕ) → KeepsLog l c.log
    → KeepsLog (taken_by l told (Some g)) (takes_if c told g).log
told_keeps l c true g h = grant_keeps l c g h
told_keeps l c false g h = h

none_keeps : (l : Log) (s : LogState) (told : Bool) → KeepsLog l s → KeepsLog (taken_by l told None) s
none_keeps l s true h = h
none_keeps l s false h = h

pub taken_alike : TakenAlike
taken_alike l c rest None h = none_keeps l c.log (is_told_taken rest) h
taken_alike l c rest (Some g) h = told_keeps l c (is_told_taken rest) g h
