-- The key of each credential that a client holds is one of its capability's format.
use Rattle.std.proofs.Common.{◌≡◌, ◌==◌, ℕ, Bool, true, false, List, [], ◌∷◌, Option, Some, None, Result, Ok, Err, length, refl, subst, if◌then◌else◌}
use Rattle.std.specs.List.{AllByRecursion}
use Rattle.layout_types.specs.declared.cred.ObjectCred.{ObjectCred}
use Rattle.layout_types.specs.declared.cred.OsdVersion.{OsdVersion}
use Rattle.layout_types.specs.declared.cred.OsdVersion.TheVariants.{Missing, Version1, Version2}
use Rattle.layout_types.specs.declared.err.LayoutErr.{LayoutErr}
use Rattle.layout_types.specs.declared.layout.Layout.{Layout}
use Rattle.layout_types.specs.Grammar.{whole}
use Rattle.layout_types.specs.Reading.{layout_in}
use Rattle.layout_ops.specs.declared.results.LayoutSegment.{LayoutSegment}
use Rattle.layout_ops.specs.declared.results.LayoutGetOk.{LayoutGetOk}
use Rattle.osd_capability.specs.declared.layout.TheConstants.{FORMAT_SHA1}
use Rattle.osd_capability.specs.declared.layout.CapErr.{CapErr}
use Rattle.osd_capability.specs.declared.keys.TheConstants.{SHA1_TAG_BYTES, CHECK_BYTES}
use Rattle.osd_capability.specs.declared.keys.CapKey.{CapKey}
use Rattle.osd_capability.specs.declared.keys.CapKey.TheVariants.{One, Two}
use Rattle.osd_capability.specs.Layout as capabilities
use Rattle.client_rules.specs.Calls.{file_of}
use Rattle.client_rules.specs.Requests.{grant_in}
use Rattle.client_rules.specs.Results.{layouts_in}
use Rattle.client_rules.specs.Layouts.{drive_of, key_of, with_key, with_capability, with_version, listed, and_listed, all_listed, first_why, fresh, with_listed, unless_why, with_body, reach_of, one_layout, in_layouts, taken}
use Rattle.client_rules.proofs.TakenMaps.{enough_same}
use Rattle.world_history.specs.ClientNames.{CallOp, Credential, Listed, Held, Reach, Why, Answer, Capability}

-- the key is one for this format
abbrev pub IsKeyFor : (format : ℕ) → CapKey → Type 0
IsKeyFor format (One key) = (format == FORMAT_SHA1) ≡ true
IsKeyFor format (Two key) = (format == FORMAT_SHA1) ≡ false

abbrev pub IsKeyed : Option Credential → Type 0
IsKeyed None = Unit {0}
IsKeyed (Some c) = IsKeyFor c.capability.format c.key

-- so it is of all components
abbrev pub AreKeyed : List Listed → Type 0
AreKeyed ls = AllByRecursion (λ (l : Listed). IsKeyed l.credential) ls

-- ---- credentials

long_key : (format : ℕ) (b : Bool) (key : List ℕ) (k c : CapKey) → IsKeyFor format k
    → (if b then Some k else None) ≡ Some c → IsKeyFor format c
long_key format true key k c fits e = let same : k ≡ c = cc e in subst (IsKeyFor format) same fits
long_key format false key k c fits e = absurd (cc e)

key_fits : (format : ℕ) (b : Bool) (key : List ℕ) (c : CapKey) → (format == FORMAT_SHA1) ≡ b
    → (if b then (if length key == SHA1_TAG_BYTES then Some (One key) else None)
    else (if length key == CHECK_BYTES then Some (Two key) else None)) ≡ Some c → IsKeyFor format c
key_fits format true key c is e = long_key format (length key == SHA1_TAG_BYTES) key (One key) c is e
key_fits format false key c is e = long_key format (length key == CHECK_BYTES) key (Two key) c is e

key_keyed : (o : ObjectCred) (c : Capability) (k : Option CapKey) (l : Listed) → key_of c.format o.oc_capability_key ≡ k
    → with_key o c k ≡ Some l → IsKeyed l.credential
key_keyed o c None l is e = absurd (cc e)
key_keyed o c (Some key) l is e =
    let fits : IsKeyFor c.format key = key_fits c.format (c.format == FORMAT_SHA1) o.oc_capability_key key refl is in
    let made : Listed = record {
      id = o.oc_object_id;
      credential = Some (record { drive = drive_of o.oc_object_id.oid_device_id; key = key; capability = c });
    } in
    let same : made ≡ l = cc e in
    subst (λ (x : Listed). IsKeyed x.credential) same fits

capability_keyed : (o : ObjectCred) (r : Result Capability CapErr) (l : Listed) → with_capability o r ≡ Some l
    → IsKeyed l.credential
capability_keyed o (Err x) l e = absurd (cc e)
capability_keyed o (Ok c) l e = key_keyed o c (key_of c.format o.oc_capability_key) l refl e

drive_keyed : (o : ObjectCred) (b : Bool) (r : Result Capability CapErr) (l : Listed)
    → (if b then None else with_capability o r) ≡ Some l → IsKeyed l.credential
drive_keyed o true r l e = absurd (cc e)
drive_keyed o false r l e = capability_keyed o r l e

version_keyed : (o : ObjectCred) (v : OsdVersion) (l : Listed) → with_version o v ≡ Some l → IsKeyed l.credential
version_keyed o Missing l e =
    let made : Listed = record { id = o.oc_object_id; credential = None } in
    let same : made ≡ l = cc e in
    subst (λ (x : Listed). IsKeyed x.credential) same tt
version_keyed o Version1 l e = absurd (cc e)
version_keyed o Version2 l e = drive_keyed o _ (capabilities.reading o.oc_capability) l e

listed_keyed : (o : ObjectCred) (l : Listed) → listed o ≡ Some l → IsKeyed l.credential
unfolding listed
listed_keyed o l e = version_keyed o o.oc_osd_version l e

and_keyed : (x : Option Listed) (rest : Option (List Listed)) (ls : List Listed)
    → ((l : Listed) → x ≡ Some l → IsKeyed l.credential) → ((ms : List Listed) → rest ≡ Some ms → AreKeyed ms)
    → and_listed x rest ≡ Some ls → AreKeyed ls
and_keyed None rest ls one more e = absurd (cc e)
and_keyed (Some l) None ls one more e = absurd (cc e)
and_keyed (Some l) (Some ms) ls one more e =
    let same : l ∷ ms ≡ ls = cc e in subst AreKeyed same (one l refl, more ms refl)

all_keyed : (os : List ObjectCred) (ls : List Listed) → all_listed os ≡ Some ls → AreKeyed ls
unfolding all_listed
all_keyed [] ls e = let same : [] ≡ ls = cc e in subst AreKeyed same tt
all_keyed (o ∷ os) ls e = and_keyed (listed o) (all_listed os) ls (listed_keyed o) (all_keyed os) e

-- ---- a grant that is taken

by_listed : (a : Answer) (n : ℕ) (op : CallOp) (g : Reach) (l : Layout) (o : Option (List Listed)) (h : Held)
    → all_listed l.olo_components ≡ o → with_listed a n op g l o ≡ Ok h → AreKeyed h.components
by_listed a n op g l None h is e = absurd (cc e)
by_listed a n op g l (Some ls) h is e =
    rw (enough_same (fresh (file_of op) n a.size g l.olo_map ls) h op e) (all_keyed l.olo_components ls is)

by_why : (a : Answer) (n : ℕ) (op : CallOp) (g : Reach) (l : Layout) (w : Option Why) (h : Held)
    → unless_why a n op g l w ≡ Ok h → AreKeyed h.components
by_why a n op g l (Some w) h e = absurd (cc e)
by_why a n op g l None h e = by_listed a n op g l (all_listed l.olo_components) h refl e

by_body : (a : Answer) (n : ℕ) (op : CallOp) (g : Reach) (r : Result Layout LayoutErr) (h : Held)
    → with_body a n op g r ≡ Ok h → AreKeyed h.components
by_body a n op g (Err x) h e = absurd (cc e)
by_body a n op g (Ok l) h e = by_why a n op g l (first_why g a.size op l) h e

by_layouts : (a : Answer) (n : ℕ) (op : CallOp) (gs : List LayoutSegment) (h : Held) → one_layout a n op gs ≡ Ok h
    → AreKeyed h.components
by_layouts a n op [] h e = absurd (cc e)
by_layouts a n op (g ∷ []) h e = by_body a n op (reach_of a.size op g) (whole layout_in g.body) h e
by_layouts a n op (g ∷ f ∷ gs) h e = absurd (cc e)

by_ok : (a : Answer) (op : CallOp) (o : Option LayoutGetOk) (h : Held) → in_layouts a op o ≡ Ok h
    → AreKeyed h.components
by_ok a op None h e = absurd (cc e)
by_ok a op (Some ok) h e = by_layouts a (grant_in ok.stateid) op ok.layouts h e

pub taken_keyed : (a : Answer) (op : CallOp) (h : Held) → taken a op ≡ Ok h → AreKeyed h.components
unfolding taken
taken_keyed a op h e = by_ok a op (layouts_in a.results) h e
