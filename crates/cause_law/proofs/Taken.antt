-- The grant that a client takes from an answer has few components, with device ids that are as long as all are.
use Rattle.std.proofs.Common.{◌≡◌, ◌≤◌, ℕ, Bool, true, false, not, ◌||◌, nat_lt, List, [], ◌∷◌, Option, Some, None, Result, Ok, Err, refl, subst, inl, inr}
use Rattle.std.specs.Prelude.{is_err}
use Rattle.std.specs.List.{AllByRecursion}
use Rattle.std.proofs.lemmas.Bool.{cases_lt, lt-ltb}
use Rattle.data_map.specs.Check.{checked}
use Rattle.layout_types.specs.declared.err.LayoutErr.{LayoutErr}
use Rattle.layout_types.specs.declared.cred.ObjectCred.{ObjectCred}
use Rattle.layout_types.specs.declared.cred.OsdVersion.{OsdVersion}
use Rattle.layout_types.specs.declared.cred.OsdVersion.TheVariants.{Missing, Version1, Version2}
use Rattle.layout_types.specs.declared.layout.Layout.{Layout}
use Rattle.layout_types.specs.Grammar.{whole}
use Rattle.layout_types.specs.Reading.{layout_in}
use Rattle.layout_ops.specs.declared.results.LayoutSegment.{LayoutSegment}
use Rattle.layout_ops.specs.declared.results.LayoutGetOk.{LayoutGetOk}
use Rattle.osd_capability.specs.declared.layout.Capability.{Capability}
use Rattle.osd_capability.specs.declared.layout.CapErr.{CapErr}
use Rattle.osd_capability.specs.declared.keys.CapKey.{CapKey}
use Rattle.osd_capability.specs.Layout as capabilities
use Rattle.client_rules.specs.declared.limits.TheConstants.{MAX_DRIVE, MAX_FILE_COMPONENTS}
use Rattle.client_rules.specs.Calls.{file_of}
use Rattle.client_rules.specs.Requests.{grant_in}
use Rattle.client_rules.specs.Results.{layouts_in}
use Rattle.client_rules.specs.Layouts.{drive_of, key_of, with_key, with_capability, with_version, listed, all_listed, is_map, first_why, reach_of, fresh, with_listed, unless_why, with_body, one_layout, in_layouts, taken}
use Rattle.client_rules.proofs.TakenMaps.{taken_checked, map_taken}
use Rattle.history_law.proofs.Taking.{both_listed, unless_far, enough_same}
use Rattle.cause_law.specs.State.{CallOp, Listed, Reach, Held, Why, Answer, RawMap}
use Rattle.cause_law.proofs.Ids.{CredLong, whole_long}
use Rattle.cause_law.proofs.Moving.{ListedLong, HeldShort}

-- ---- a component

by_key : (o : ObjectCred) (c : Capability) (k : Option CapKey) (l : Listed) → CredLong o → with_key o c k ≡ Some l
    → ListedLong l
by_key o c None l long e = absurd (cc e)
by_key o c (Some key) l long e =
    let made : Listed = record {
      id = o.oc_object_id;
      credential = Some (record { drive = drive_of o.oc_object_id.oid_device_id; key = key; capability = c });
    } in
    let same : made ≡ l = cc e in
    subst ListedLong same long

by_capability : (o : ObjectCred) (r : Result Capability CapErr) (l : Listed) → CredLong o
    → with_capability o r ≡ Some l → ListedLong l
by_capability o (Err x) l long e = absurd (cc e)
by_capability o (Ok c) l long e = by_key o c (key_of c.format o.oc_capability_key) l long e

by_version : (o : ObjectCred) (v : OsdVersion) (l : Listed) → CredLong o → with_version o v ≡ Some l → ListedLong l
by_version o Missing l long e =
    let made : Listed = record { id = o.oc_object_id; credential = None } in
    let same : made ≡ l = cc e in
    subst ListedLong same long
by_version o Version1 l long e = absurd (cc e)
by_version o Version2 l long e =
    by_capability o (capabilities.reading o.oc_capability) l long
    (unless_far (nat_lt MAX_DRIVE (drive_of o.oc_object_id.oid_device_id)) _ l e)

listed_long : (o : ObjectCred) (l : Listed) → CredLong o → listed o ≡ Some l → ListedLong l
unfolding listed
listed_long o l long e = by_version o o.oc_osd_version l long e

all_long : (os : List ObjectCred) (ls : List Listed) → AllByRecursion CredLong os → all_listed os ≡ Some ls
    → AllByRecursion ListedLong ls
unfolding all_listed
all_long [] ls long e = let none : [] ≡ ls = cc e in subst (AllByRecursion ListedLong) none tt
all_long (o ∷ os) ls long e =
    let s = both_listed (listed o) (all_listed os) ls e in
    subst (AllByRecursion ListedLong) s.4 (listed_long o s.0 long.0 s.2, all_long os s.1 long.1 s.3)

-- ---- the map

few_map : (m : RawMap) → is_map m ≡ true → m.comps ≤ 64
few_map m e = elim (cases_lt MAX_FILE_COMPONENTS m.comps) [
  | inl many ↦ absurd (refuses (is_err (checked m)) (nat_lt MAX_FILE_COMPONENTS m.comps) e
      (lt-ltb MAX_FILE_COMPONENTS m.comps many))
  | inr few ↦ few
]
  where
    refuses : (a b : Bool) → not (a || b) ≡ true → b ≡ true → ⊥
    refuses true b e f = cc e
    refuses false true e f = cc e
    refuses false false e f = cc f

-- ---- the grant

abbrev Made : Held → Type 0
Made h = (h.map.comps ≤ 64) × AllByRecursion ListedLong h.components

in_listed : (a : Answer) (n : ℕ) (op : CallOp) (g : Reach) (l : Layout) (o : Option (List Listed)) (h : Held)
    → all_listed l.olo_components ≡ o → l.olo_map.comps ≤ 64 → AllByRecursion CredLong l.olo_components
    → with_listed a n op g l o ≡ Ok h → Made h
in_listed a n op g l None h are few long e = absurd (cc e)
in_listed a n op g l (Some ls) h are few long e =
    let made : Held = fresh (file_of op) n a.size g l.olo_map ls in
    subst Made (enough_same made h op e) (few, all_long l.olo_components ls long are)

in_layout : (a : Answer) (n : ℕ) (op : CallOp) (g : Reach) (l : Layout) (w : Option Why) (h : Held)
    → first_why g a.size op l ≡ w → AllByRecursion CredLong l.olo_components → unless_why a n op g l w ≡ Ok h → Made h
in_layout a n op g l (Some w) h is long e = absurd (cc e)
in_layout a n op g l None h is long e =
    in_listed a n op g l (all_listed l.olo_components) h refl (few_map l.olo_map (map_taken g a.size op l is)) long e

in_body : (a : Answer) (n : ℕ) (op : CallOp) (g : Reach) (r : Result Layout LayoutErr) (h : Held)
    → ((l : Layout) → r ≡ Ok l → AllByRecursion CredLong l.olo_components) → with_body a n op g r ≡ Ok h → Made h
in_body a n op g (Err x) h long e = absurd (cc e)
in_body a n op g (Ok l) h long e = in_layout a n op g l (first_why g a.size op l) h refl (long l refl) e

in_segments : (a : Answer) (n : ℕ) (op : CallOp) (gs : List LayoutSegment) (h : Held) → one_layout a n op gs ≡ Ok h
    → Made h
in_segments a n op [] h e = absurd (cc e)
in_segments a n op (g ∷ []) h e =
    in_body a n op (reach_of a.size op g) (whole layout_in g.body) h (λ l r. whole_long g.body l r) e
in_segments a n op (g ∷ f ∷ gs) h e = absurd (cc e)

in_results : (a : Answer) (op : CallOp) (o : Option LayoutGetOk) (h : Held) → in_layouts a op o ≡ Ok h → Made h
in_results a op None h e = absurd (cc e)
in_results a op (Some ok) h e = in_segments a (grant_in ok.stateid) op ok.layouts h e

taken_made : (a : Answer) (op : CallOp) (h : Held) → taken a op ≡ Ok h → Made h
unfolding taken
taken_made a op h e = in_results a op (layouts_in a.results) h e

pub taken_short : (a : Answer) (op : CallOp) (h : Held) → taken a op ≡ Ok h → HeldShort h
taken_short a op h e =
    let made = taken_made a op h e in
    record { checked = taken_checked a op h e; few = made.0; ids = made.1 }
