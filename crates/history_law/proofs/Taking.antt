-- What is sent under a grant that was taken from an answer is under a credential that the answer lists.
use Rattle.std.proofs.Common.{◌≡◌, ◌⊎◌, ℕ, zero, suc, Bool, true, false, List, [], ◌∷◌, ◌++◌, Option, Some, None, Result, Ok, Err, ◌&&◌, ◌||◌, nat_lt, slice_get, unwrap_or, refl, sym, ap, subst, ◌∙◌, inl, inr, if◌then◌else◌}
use Rattle.layout_types.specs.declared.err.LayoutErr.{LayoutErr}
use Rattle.layout_types.specs.declared.cred.ObjectCred.{ObjectCred}
use Rattle.layout_types.specs.declared.cred.OsdVersion.{OsdVersion}
use Rattle.layout_types.specs.declared.cred.OsdVersion.TheVariants.{Missing, Version1, Version2}
use Rattle.layout_types.specs.declared.layout.Layout.{Layout}
use Rattle.layout_types.specs.declared.objid.ObjId.{ObjId}
use Rattle.layout_types.specs.Grammar.{whole}
use Rattle.layout_types.specs.Reading.{layout_in}
use Rattle.layout_ops.specs.declared.results.LayoutSegment.{LayoutSegment}
use Rattle.layout_ops.specs.declared.results.LayoutGetOk.{LayoutGetOk}
use Rattle.osd_capability.specs.declared.layout.CapErr.{CapErr}
use Rattle.osd_capability.specs.declared.keys.CapKey.{CapKey}
use Rattle.osd_capability.specs.Layout as capabilities
use Rattle.osd_capability.specs.Keys.{check_of}
use Rattle.osd_commands.specs.Commands.{fields, head}
use Rattle.client_rules.specs.declared.limits.TheConstants.{MAX_DRIVE}
use Rattle.history_law.specs.State.{CallOp, Credential, Listed, Reach, Held, Why, BadCredential, Answer, Capability, Command, Store}
use Rattle.client_rules.specs.Calls.{is_write, file_of}
use Rattle.client_rules.specs.Requests.{grant_in, id_in, object_of}
use Rattle.client_rules.specs.Results.{layouts_in}
use Rattle.client_rules.specs.Commands.{no_capability, no_credential, credential_in, credential_of, sealed, bare, command}
use Rattle.client_rules.specs.Layouts.{drive_of, key_of, with_key, with_capability, with_version, listed, and_listed, all_listed, first_why, fresh, is_lacking, enough, with_listed, unless_why, with_body, reach_of, one_layout, in_layouts, taken}
use Rattle.history_law.specs.Listed.{IsUnder}
use Rattle.history_law.proofs.Known.{HeldKnown}
use Rattle.history_law.proofs.KnownSteps.{AnswerKnown}

-- a command under one of these credentials, or one that allows nothing: no plan asks a component without a credential
abbrev pub IsUnderOne : (ObjectCred → Type 0) → ℕ → Command → Type 0
IsUnderOne P drive c = ((o : ObjectCred) × P o × IsUnder o drive c) ⊎ (c.capability ≡ no_capability)

-- ---- a credential that is listed

pub record IsListedAs (o : ObjectCred) (l : Listed) (cr : Credential) : Type 0 where
  pub id : l.id ≡ o.oc_object_id
  pub drive : cr.drive ≡ drive_of o.oc_object_id.oid_device_id
  pub capability : capabilities.reading o.oc_capability ≡ Ok cr.capability
  pub key : key_of cr.capability.format o.oc_capability_key ≡ Some cr.key

by_key : (o : ObjectCred) (c : Capability) (k : Option CapKey) (l : Listed) (cr : Credential)
    → capabilities.reading o.oc_capability ≡ Ok c → key_of c.format o.oc_capability_key ≡ k → with_key o c k ≡ Some l
    → l.credential ≡ Some cr → IsListedAs o l cr
by_key o c None l cr read is e f = absurd (cc e)
by_key o c (Some key) l cr read is e f =
    let made : Listed = record {
      id = o.oc_object_id;
      credential = Some (record { drive = drive_of o.oc_object_id.oid_device_id; key = key; capability = c });
    } in
    let whole : made ≡ l = cc e in
    let it : record { drive = drive_of o.oc_object_id.oid_device_id; key = key; capability = c } ≡ cr =
    cc (ap (λ (x : Listed). x.credential) whole ∙ f) in
    subst (IsListedAs o l) it (record {
      id = sym (ap (λ (x : Listed). x.id) whole);
      drive = refl;
      capability = read;
      key = is;
    })

by_capability : (o : ObjectCred) (r : Result Capability CapErr) (l : Listed) (cr : Credential)
    → capabilities.reading o.oc_capability ≡ r → with_capability o r ≡ Some l → l.credential ≡ Some cr
    → IsListedAs o l cr
by_capability o (Err x) l cr read e f = absurd (cc e)
by_capability o (Ok c) l cr read e f = by_key o c (key_of c.format o.oc_capability_key) l cr read refl e f

pub unless_far : (b : Bool) (x : Option Listed) (l : Listed) → (if b then None else x) ≡ Some l → x ≡ Some l
unless_far true x l e = absurd (cc e)
unless_far false x l e = e

by_version : (o : ObjectCred) (v : OsdVersion) (l : Listed) (cr : Credential) → with_version o v ≡ Some l
    → l.credential ≡ Some cr → IsListedAs o l cr
by_version o Missing l cr e f =
    let made : Listed = record { id = o.oc_object_id; credential = None } in
    let whole : made ≡ l = cc e in
    absurd (cc (ap (λ (x : Listed). x.credential) whole ∙ f))
by_version o Version1 l cr e f = absurd (cc e)
by_version o Version2 l cr e f =
    by_capability o (capabilities.reading o.oc_capability) l cr refl
    (unless_far (nat_lt MAX_DRIVE (drive_of o.oc_object_id.oid_device_id)) _ l e) f

pub is_listed : (o : ObjectCred) (l : Listed) (cr : Credential) → listed o ≡ Some l → l.credential ≡ Some cr
    → IsListedAs o l cr
unfolding listed
is_listed o l cr e f = by_version o o.oc_osd_version l cr e f

-- ---- all that are listed

pub both_listed : (x : Option Listed) (r : Option (List Listed)) (ls : List Listed) → and_listed x r ≡ Some ls
    → (l : Listed) × (rest : List Listed) × (x ≡ Some l) × (r ≡ Some rest) × (l ∷ rest ≡ ls)
both_listed None r ls e = absurd (cc e)
both_listed (Some l) None ls e = absurd (cc e)
both_listed (Some l) (Some rest) ls e = (l, rest, refl, refl, cc e)

-- the component with that number is one of them
abbrev pub IsAt : List ObjectCred → (k : ℕ) → Listed → Type 0
IsAt os k l = (o : ObjectCred) × (slice_get os k ≡ Some o) × (listed o ≡ Some l)

at_place : (o : ObjectCred) (os : List ObjectCred) (l : Listed) (rest : List Listed) (k : ℕ) (m : Listed)
    → listed o ≡ Some l → slice_get (l ∷ rest) k ≡ Some m
    → ((n : ℕ) → slice_get rest n ≡ Some m → IsAt os n m) → IsAt (o ∷ os) k m
at_place o os l rest zero m is found later = (o, refl, is ∙ found)
at_place o os l rest (suc k) m is found later = later k found

pub listed_at : (os : List ObjectCred) (ls : List Listed) (k : ℕ) (l : Listed) → all_listed os ≡ Some ls
    → slice_get ls k ≡ Some l → IsAt os k l
unfolding all_listed
listed_at [] ls k l e found =
    let none : [] ≡ ls = cc e in
    absurd (cc (subst (λ (xs : List Listed). slice_get xs k ≡ Some l) (sym none) found))
listed_at (o ∷ os) ls k l e found =
    let s = both_listed (listed o) (all_listed os) ls e in
    at_place o os s.0 s.1 k l s.2 (subst (λ (xs : List Listed). slice_get xs k ≡ Some l) (sym s.4) found)
    (λ n there. listed_at os s.1 n l s.3 there)

-- ---- what is sent under it

sealed_check : (key : CapKey) (c : Command)
    → (sealed key c).check ≡ check_of key (head (sealed key c) ++ (sealed key c).payload)
unfolding sealed head fields
sealed_check key c = refl

module _ (j : Held) (write : Bool) (w : Store) (nonce : ℕ) where
  abbrev k : ℕ
  k = w.ask.component

  found_credential : (x : Option Listed) → slice_get j.components k ≡ x
      → credential_of j k ≡ unwrap_or (credential_in x) no_credential
  unfolding credential_of
  found_credential x e = ap (λ (y : Option Listed). unwrap_or (credential_in y) no_credential) e

  found_object : (l : Listed) → slice_get j.components k ≡ Some l → object_of j k ≡ l.id
  unfolding object_of
  found_object l e = ap id_in e

  under_listed : (o : ObjectCred) (l : Listed) (cr : Credential) → slice_get j.components k ≡ Some l
      → credential_of j k ≡ cr → IsListedAs o l cr → IsUnder o (credential_of j k).drive (command j write w nonce)
  unfolding command sealed
  under_listed o l cr found is listed_as =
      let object : object_of j k ≡ o.oc_object_id = found_object l found ∙ listed_as.id in
      record {
        drive_is = ap (λ (x : Credential). x.drive) is ∙ listed_as.drive;
        partition = ap (λ (x : ObjId). x.oid_partition_id) object;
        object = ap (λ (x : ObjId). x.oid_object_id) object;
        capability = listed_as.capability ∙ ap (λ (x : Credential). Ok x.capability) (sym is);
        key = (credential_of j k).key;
        key_is =
            subst (λ (x : Credential). key_of x.capability.format o.oc_capability_key ≡ Some x.key) (sym is)
            listed_as.key;
        check = sealed_check (credential_of j k).key (bare j write w nonce);
      }

  under_none : credential_of j k ≡ no_credential → (command j write w nonce).capability ≡ no_capability
  unfolding command sealed
  under_none is = ap (λ (x : Credential). x.capability) is

  module _ (P : ObjectCred → Type 0) (os : List ObjectCred) (ls : List Listed) (all : all_listed os ≡ Some ls)
      (each : (n : ℕ) (o : ObjectCred) → slice_get os n ≡ Some o → P o) (same : j.components ≡ ls) where
    by_credential : (l : Listed) (c : Option Credential) → slice_get j.components k ≡ Some l → l.credential ≡ c
        → IsUnderOne P (credential_of j k).drive (command j write w nonce)
    by_credential l None found is =
        inr (under_none (found_credential (Some l) found
        ∙ ap (λ (x : Option Credential). unwrap_or x no_credential) is))
    by_credential l (Some cr) found is =
        let at = listed_at os ls k l all (subst (λ (xs : List Listed). slice_get xs k ≡ Some l) same found) in
        inl (
          at.0,
          each k at.0 at.1,
          under_listed at.0 l cr found (found_credential (Some l) found
              ∙ ap (λ (x : Option Credential). unwrap_or x no_credential) is) (is_listed at.0 l cr at.2 is),
        )

    by_component : (x : Option Listed) → slice_get j.components k ≡ x
        → IsUnderOne P (credential_of j k).drive (command j write w nonce)
    by_component None found = inr (under_none (found_credential None found))
    by_component (Some l) found = by_credential l l.credential found refl

listed_known : (P : ObjectCred → Type 0) (os : List ObjectCred) (ls : List Listed) (h : Held) → all_listed os ≡ Some ls
    → ((n : ℕ) (o : ObjectCred) → slice_get os n ≡ Some o → P o) → h.components ≡ ls → HeldKnown (IsUnderOne P) h
listed_known P os ls h all each is j same write w nonce =
    by_component j write w nonce P os ls all each (same ∙ is) (slice_get j.components w.ask.component) refl

-- ---- the grant that is taken

-- where its components stand in the answer
pub record IsTaken (a : Answer) (h : Held) : Type 0 where
  pub given : LayoutGetOk
  pub gives : layouts_in a.results ≡ Some given
  pub segment : LayoutSegment
  pub one : given.layouts ≡ segment ∷ []
  pub layout : Layout
  pub body : whole layout_in segment.body ≡ Ok layout
  pub components : all_listed layout.olo_components ≡ Some h.components

pub same_grant : (b : Bool) (h k : Held) → (if b then Err BadCredential else Ok h) ≡ Ok k → h ≡ k
same_grant true h k e = absurd (cc e)
same_grant false h k e = cc e

pub enough_same : (h k : Held) (op : CallOp) → enough h op ≡ Ok k → h ≡ k
unfolding enough
enough_same h k op e = same_grant ((is_write op || h.reach.rw) && is_lacking h op) h k e

in_listed : (a : Answer) (n : ℕ) (op : CallOp) (g : Reach) (l : Layout) (o : Option (List Listed)) (h : Held)
    → with_listed a n op g l o ≡ Ok h → o ≡ Some h.components
in_listed a n op g l None h e = absurd (cc e)
in_listed a n op g l (Some ls) h e =
    ap (λ (x : Held). Some x.components) (enough_same (fresh (file_of op) n a.size g l.olo_map ls) h op e)

in_layout : (a : Answer) (n : ℕ) (op : CallOp) (g : Reach) (l : Layout) (w : Option Why) (h : Held)
    → unless_why a n op g l w ≡ Ok h → all_listed l.olo_components ≡ Some h.components
in_layout a n op g l (Some w) h e = absurd (cc e)
in_layout a n op g l None h e = in_listed a n op g l (all_listed l.olo_components) h e

in_body : (a : Answer) (n : ℕ) (op : CallOp) (g : Reach) (r : Result Layout LayoutErr) (h : Held)
    → with_body a n op g r ≡ Ok h → (l : Layout) × (r ≡ Ok l) × (all_listed l.olo_components ≡ Some h.components)
in_body a n op g (Err x) h e = absurd (cc e)
in_body a n op g (Ok l) h e = (l, refl, in_layout a n op g l (first_why g a.size op l) h e)

in_segments : (a : Answer) (given : LayoutGetOk) (op : CallOp) (gs : List LayoutSegment) (h : Held)
    → layouts_in a.results ≡ Some given → given.layouts ≡ gs → one_layout a (grant_in given.stateid) op gs ≡ Ok h
    → IsTaken a h
in_segments a given op [] h gives is e = absurd (cc e)
in_segments a given op (g ∷ []) h gives is e =
    let b = in_body a (grant_in given.stateid) op (reach_of a.size op g) (whole layout_in g.body) h e in
    record {
      given = given;
      gives = gives;
      segment = g;
      one = is;
      layout = b.0;
      body = b.1;
      components = b.2;
    }
in_segments a given op (g ∷ f ∷ gs) h gives is e = absurd (cc e)

in_results : (a : Answer) (op : CallOp) (o : Option LayoutGetOk) (h : Held) → layouts_in a.results ≡ o
    → in_layouts a op o ≡ Ok h → IsTaken a h
in_results a op None h gives e = absurd (cc e)
in_results a op (Some given) h gives e = in_segments a given op given.layouts h gives refl e

pub is_taken : (a : Answer) (op : CallOp) (h : Held) → taken a op ≡ Ok h → IsTaken a h
unfolding taken
is_taken a op h e = in_results a op (layouts_in a.results) h refl e

-- whatever is sent under a grant of this answer is under one of its credentials
pub answer_known : (P : ObjectCred → Type 0) (a : Answer)
    → ((h : Held) (t : IsTaken a h) (n : ℕ) (o : ObjectCred) → slice_get t.layout.olo_components n ≡ Some o → P o)
    → AnswerKnown (IsUnderOne P) a
answer_known P a each op h e =
    let t = is_taken a op h e in
    listed_known P t.layout.olo_components h.components h t.components (each h t) refl
