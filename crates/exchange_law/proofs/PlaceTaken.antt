-- The grant that a client takes from an answer of the server is the one that the server gave.
use Rattle.std.proofs.Common.{◌≡◌, ◌==◌, ℕ, ◌<◌, ◌^◌, Bool, true, false, not, List, [], ◌∷◌, Option, Some, None, Result, Ok, Err, length, slice_get, refl, sym, ap, subst, ◌∙◌, arith, if◌then◌else◌}
use Rattle.std.specs.Int.{w64, to_be_bytes}
use Rattle.std.proofs.lemmas.Bool.Decides.{nat_tests}
use Rattle.std.proofs.lemmas.Nat.{from_be_bytes-to_be_bytes_8}
use Rattle.data_map.specs.Check.{IsChecked}
use Rattle.layout_types.specs.declared.err.LayoutErr.{LayoutErr}
use Rattle.layout_types.specs.declared.cred.ObjectCred.{ObjectCred}
use Rattle.layout_types.specs.declared.layout.Layout.{Layout}
use Rattle.layout_types.specs.declared.objid.ObjId.{ObjId}
use Rattle.layout_types.specs.Grammar.{whole}
use Rattle.layout_types.specs.Reading.{layout_in}
use Rattle.layout_ops.specs.declared.results.LayoutSegment.{LayoutSegment}
use Rattle.layout_ops.specs.declared.results.LayoutGetOk.{LayoutGetOk}
use Rattle.layout_ops.specs.declared.results.LayoutGetResult.TheVariants as get
use Rattle.layout_ops.specs.declared.results.Results.{Results}
use Rattle.layout_ops.specs.declared.results.Results.TheVariants as results
use Rattle.layout_ops.specs.declared.envelope.Envelope.TheVariants as envelope
use Rattle.layout_ops.specs.Reading.{envelope_of}
use Rattle.layout_ops.proofs.Whole.{all_again}
use Rattle.osd_capability.specs.Layout as cap
use Rattle.osd_capability.proofs.LayoutLaws.{reading-spelling}
use Rattle.exchange_law.specs.PlaceState.{CallOp, Credential, Listed, Reach, Held, Why, Unreadable, Index, Partial, Secured, BadMap, Answer}
use Rattle.client_rules.specs.Calls.{file_of}
use Rattle.client_rules.specs.Grants.{is_for}
use Rattle.client_rules.specs.Requests.{grant_in}
use Rattle.client_rules.specs.Results.{layouts_in}
use Rattle.client_rules.specs.Layouts.{drive_of, any_secured, is_map, first_why, reach_of, fresh, listed, all_listed, with_listed, unless_why, with_body, one_layout, in_layouts, taken}
use Rattle.client_rules.proofs.TakenMaps.{taken_checked}
use Rattle.server_rules.specs.declared.files.Component.{Component}
use Rattle.server_rules.specs.declared.files.Kept.{Kept}
use Rattle.server_rules.specs.declared.grants.Grant.{Grant}
use Rattle.server_rules.specs.declared.server.Drive.{Drive}
use Rattle.server_rules.specs.Layouts.{capability_for, device_of, object_of, credential, no_credential, layout_for, segment_for}
use Rattle.history_law.proofs.Carried.{same_read}
use Rattle.history_law.proofs.Exact.{same_ok, one_of, body_read, first_credential, read_in}
use Rattle.history_law.proofs.Taking.{IsListedAs, is_listed, both_listed, listed_at, enough_same}
use Rattle.exchange_law.specs.Kept.{IsCredentialOf, IsOwnGrant}
use Rattle.exchange_law.specs.PlaceAnswers.{GivesFitting, ResultsFit, AnswerFits, SpellsFitting}
use Rattle.exchange_law.proofs.Covered.{rw_again}
use Rattle.exchange_law.proofs.Listing.{device_read}

-- ---- what is taken

-- a grant of what the answer gives, with all of the layout's components
pub record IsTaken (a : Answer) (op : CallOp) (h : Held) : Type 0 where
  pub given : LayoutGetOk
  pub gives : layouts_in a.results ≡ Some given
  pub segment : LayoutSegment
  pub one : given.layouts ≡ segment ∷ []
  pub layout : Layout
  pub body : whole layout_in segment.body ≡ Ok layout
  pub reach : h.reach ≡ reach_of a.size op segment
  pub map : h.map ≡ layout.olo_map
  pub components : all_listed layout.olo_components ≡ Some h.components
  pub complete : length layout.olo_components ≡ layout.olo_map.comps

-- the grant without its commands
record IsMade (g : Reach) (l : Layout) (h : Held) : Type 0 where
  reach : h.reach ≡ g
  map : h.map ≡ l.olo_map
  components : all_listed l.olo_components ≡ Some h.components
  complete : length l.olo_components ≡ l.olo_map.comps

in_listed : (a : Answer) (n : ℕ) (op : CallOp) (g : Reach) (l : Layout) (o : Option (List Listed)) (h : Held)
    → all_listed l.olo_components ≡ o → length l.olo_components ≡ l.olo_map.comps → with_listed a n op g l o ≡ Ok h
    → IsMade g l h
in_listed a n op g l None h are all e = absurd (cc e)
in_listed a n op g l (Some ls) h are all e =
    let same = enough_same (fresh (file_of op) n a.size g l.olo_map ls) h op e in
    record {
      reach = ap (λ (x : Held). x.reach) (sym same);
      map = ap (λ (x : Held). x.map) (sym same);
      components = are ∙ ap (λ (x : Held). Some x.components) same;
      complete = all;
    }

third_none : (a b c d e : Bool) (v w x y z : Why)
    → (if not a then Some v else if not b then Some w else if not c then Some x else if d then Some y
    else if not e then Some z else None) ≡ None → c ≡ true
third_none false b c d e v w x y z n = absurd (cc n)
third_none true false c d e v w x y z n = absurd (cc n)
third_none true true false d e v w x y z n = absurd (cc n)
third_none true true true d e v w x y z n = refl

not_partial : (g : Reach) (size : ℕ) (op : CallOp) (l : Layout) → first_why g size op l ≡ None
    → length l.olo_components ≡ l.olo_map.comps
unfolding first_why
not_partial g size op l e =
    let all = third_none (is_for g size op) (l.olo_comps_index == 0) (length l.olo_components == l.olo_map.comps)
    (any_secured l.olo_components) (is_map l.olo_map) Unreadable Index Partial Secured BadMap e in
    equal (length l.olo_components) l.olo_map.comps all
  where
    equal : (a b : ℕ) → (a == b) ≡ true → a ≡ b
    equal a b e = grind (arith, nat_tests, e)

in_layout : (a : Answer) (n : ℕ) (op : CallOp) (g : Reach) (l : Layout) (w : Option Why) (h : Held)
    → first_why g a.size op l ≡ w → unless_why a n op g l w ≡ Ok h → IsMade g l h
in_layout a n op g l (Some w) h is e = absurd (cc e)
in_layout a n op g l None h is e =
    in_listed a n op g l (all_listed l.olo_components) h refl (not_partial g a.size op l is) e

in_body : (a : Answer) (n : ℕ) (op : CallOp) (g : Reach) (r : Result Layout LayoutErr) (h : Held)
    → with_body a n op g r ≡ Ok h → (l : Layout) × (r ≡ Ok l) × IsMade g l h
in_body a n op g (Err x) h e = absurd (cc e)
in_body a n op g (Ok l) h e = (l, refl, in_layout a n op g l (first_why g a.size op l) h refl e)

in_segments : (a : Answer) (given : LayoutGetOk) (op : CallOp) (gs : List LayoutSegment) (h : Held)
    → layouts_in a.results ≡ Some given → given.layouts ≡ gs → one_layout a (grant_in given.stateid) op gs ≡ Ok h
    → IsTaken a op h
in_segments a given op [] h gives is e = absurd (cc e)
in_segments a given op (g ∷ []) h gives is e =
    let b = in_body a (grant_in given.stateid) op (reach_of a.size op g) (whole layout_in g.body) h e in
    record {
      given = given;
      gives = gives;
      segment = g;
      one = is;
      layout = b.0;
      body = b.1;
      reach = b.2.reach;
      map = b.2.map;
      components = b.2.components;
      complete = b.2.complete;
    }
in_segments a given op (g ∷ f ∷ gs) h gives is e = absurd (cc e)

in_results : (a : Answer) (op : CallOp) (o : Option LayoutGetOk) (h : Held) → layouts_in a.results ≡ o
    → in_layouts a op o ≡ Ok h → IsTaken a op h
in_results a op None h gives e = absurd (cc e)
in_results a op (Some given) h gives e = in_segments a given op given.layouts h gives refl e

pub is_taken : (a : Answer) (op : CallOp) (h : Held) → taken a op ≡ Ok h → IsTaken a op h
unfolding taken
is_taken a op h e = in_results a op (layouts_in a.results) h refl e

-- ---- what was given

given_fits : (client : ℕ) (r : Results) (given : LayoutGetOk) → layouts_in r ≡ Some given → ResultsFit client r
    → GivesFitting client given
given_fits client (results.LayoutGet (get.Granted ok)) given e fits =
    let same : ok ≡ given = cc e in subst (GivesFitting client) same fits
given_fits client (results.LayoutGet (get.TryLater signal)) given e fits = absurd (cc e)
given_fits client (results.LayoutGet (get.Refused status)) given e fits = absurd (cc e)
given_fits client (results.LayoutCommit r) given e fits = absurd (cc e)
given_fits client (results.LayoutReturn r) given e fits = absurd (cc e)

-- a list of which each member was listed is as long
as_long : (os : List ObjectCred) (ls : List Listed) → all_listed os ≡ Some ls → length ls ≡ length os
unfolding all_listed
as_long [] ls e = let none : [] ≡ ls = cc e in ap (λ (xs : List Listed). length xs) (sym none)
as_long (o ∷ os) ls e =
    let s = both_listed (listed o) (all_listed os) ls e in
    let rest = as_long os s.1 s.3 in
    ap (λ (xs : List Listed). length xs) (sym s.4) ∙ omega (arith, rest)

-- ---- a component

drive_again : (d : ℕ) → d < 2 ^ 64 → drive_of (device_of d) ≡ d
drive_again d low = device_read (to_be_bytes w64 d) ∙ from_be_bytes-to_be_bytes_8 d low

object_in : (ds : List Drive) (f : Kept) (g : Grant) (at : Component) (k : ℕ) (b : Bool)
    → (if b then no_credential at else credential ds f g at k).oc_object_id ≡ object_of at
unfolding credential
object_in ds f g at k true = refl
object_in ds f g at k false = refl

pub credential_is : (ds : List Drive) (f : Kept) (g : Grant) (os : List ObjectCred) (ls : List Listed) (k : ℕ) (l : Listed)
    (c : Credential) → os ≡ (layout_for ds f g).olo_components → all_listed os ≡ Some ls
    → ((n : ℕ) (at : Component) → slice_get f.components n ≡ Some at → cap.Fits (capability_for f g at n))
    → slice_get ls k ≡ Some l → l.credential ≡ Some c → IsCredentialOf f g k l c
credential_is ds f g os ls k l c are all fits found has =
    let o = listed_at os ls k l all found in
    let read : IsListedAs o.0 l c = is_listed o.0 l c o.2 has in
    let at = first_credential ds f g f.components k o.0
    (ap (λ (xs : List ObjectCred). slice_get xs k) (sym are) ∙ o.1) in
    let here = read_in ds f g at.0 k at.0.missing o.0 c.capability at.2 read.capability in
    let fit : cap.Fits (capability_for f g at.0 k) = fits k at.0 at.1 in
    let object : o.0.oc_object_id ≡ object_of at.0 =
    ap (λ (x : ObjectCred). x.oc_object_id) at.2 ∙ object_in ds f g at.0 k at.0.missing in
    let low : at.0.drive < 2 ^ 64 = omega (arith, fit.partition) in
    record {
      at = at.0;
      found = at.1;
      object = read.id ∙ object;
      drive =
          read.drive ∙ ap (λ (x : ObjId). drive_of x.oid_device_id) object ∙ drive_again at.0.drive low;
      capability =
          same_read c.capability (capability_for f g at.0 k) _ here.1
          (reading-spelling (capability_for f g at.0 k) fit);
      fits = fit;
    }

-- ---- the grant

module _ (client : ℕ) (a : Answer) (op : CallOp) (h : Held) (t : IsTaken a op h) (x : GivesFitting client t.given) where
  abbrev f : Kept
  f = x.own.file

  abbrev g : Grant
  g = x.own.grant

  segment_is : t.segment ≡ segment_for x.own.drives f g
  segment_is =
      one_of t.segment (segment_for x.own.drives f g) t.given.layouts t.one
      (ap (λ (y : LayoutGetOk). y.layouts) x.own.is)

  layout_is : t.layout ≡ layout_for x.own.drives f g
  layout_is =
      same_ok t.layout (layout_for x.own.drives f g) (whole layout_in t.segment.body) t.body
      (ap (λ (s : LayoutSegment). whole layout_in s.body) segment_is
      ∙ body_read x.own.drives f g x.numbers.layout)

  map_is : h.map ≡ f.map
  map_is = t.map ∙ ap (λ (l : Layout). l.olo_map) layout_is

  reach_is : h.reach ≡ reach_of a.size op (segment_for x.own.drives f g)
  reach_is = t.reach ∙ ap (reach_of a.size op) segment_is

  pub own_grant : IsChecked h.map → IsOwnGrant client h
  own_grant ch = record {
    file = f;
    grant = g;
    client_is = x.own.client_is;
    kept = record {
      map = map_is;
      checked = subst IsChecked map_is ch;
      writes = ap (λ (r : Reach). r.rw) reach_is ∙ rw_again g.rw;
      first = ap (λ (r : Reach). r.first) reach_is;
      end = ap (λ (r : Reach). r.end) reach_is;
      complete =
          as_long t.layout.olo_components h.components t.components ∙ t.complete
          ∙ ap (λ (l : Layout). l.olo_map.comps) layout_is;
      present =
          λ k l c found has. credential_is x.own.drives f g t.layout.olo_components h.components k l c
          (ap (λ (y : Layout). y.olo_components) layout_is) t.components x.numbers.capabilities found has;
    };
  }

-- the grant that is taken from bytes that the server sent
pub taken_own : (client : ℕ) (bytes : List ℕ) (a : Answer) (op : CallOp) (h : Held) → SpellsFitting client bytes
    → envelope_of bytes ≡ Ok (envelope.Answer a) → taken a op ≡ Ok h → IsOwnGrant client h
taken_own client bytes a op h s read e =
    let t = is_taken a op h e in
    let again : envelope_of bytes ≡ Ok s.message = ap envelope_of s.bytes_are ∙ all_again s.message s.fits in
    let same : s.message ≡ envelope.Answer a =
    same_ok s.message (envelope.Answer a) (envelope_of bytes) again read in
    let fits : ResultsFit client a.results = subst (AnswerFits client) same s.gives in
    own_grant client a op h t (given_fits client a.results t.given t.gives fits) (taken_checked a op h e)
