-- The objects that a grant lists, which a client takes from an answer, are those of the file at which it was made.
use Rattle.std.proofs.Common.{◌≡◌, ℕ, List, Option, Some, None, Ok, slice_get, unwrap_or, refl, sym, ap, ◌∙◌}
use Rattle.layout_types.specs.declared.layout.Layout.{Layout}
use Rattle.layout_types.specs.Grammar.{whole}
use Rattle.layout_types.specs.Reading.{layout_in}
use Rattle.layout_types.specs.declared.objid.ObjId.{ObjId}
use Rattle.layout_ops.specs.declared.results.LayoutSegment.{LayoutSegment}
use Rattle.layout_ops.specs.declared.results.LayoutGetOk.{LayoutGetOk}
use Rattle.layout_ops.specs.declared.results.LayoutGetResult.TheVariants as get
use Rattle.layout_ops.specs.declared.results.Results.TheVariants as results
use Rattle.layout_ops.specs.declared.messages.Answer.{Answer}
use Rattle.client_rules.specs.Commands.{credential_in, credential_of, no_capability, no_credential}
use Rattle.client_rules.specs.Layouts.{taken}
use Rattle.client_rules.specs.Requests.{id_in, object_of}
use Rattle.server_rules.specs.Layouts.{granted, layout_for, segment_for}
use Rattle.world_history.specs.ClientNames.{CallOp, Credential, Held, Listed}
use Rattle.world_history.specs.ServerNames.{Component, Drive, Grant, Kept}
use Rattle.history_law.specs.Granted.{NumbersFit}
use Rattle.history_law.proofs.Exact.{same_ok, one_of, body_read}
use Rattle.exchange_law.proofs.PlaceTaken.{IsTaken, is_taken, credential_is}
use Rattle.exchange_law.specs.Sent.{Names}
use Rattle.component_law.proofs.Given.{given_is}

-- component k of the grant is listed with this object
pub record IsNamed (h : Held) (k o : ℕ) : Type 0 where
  pub listed : Listed
  pub found : slice_get h.components k ≡ Some listed
  pub credential : Credential
  pub has : listed.credential ≡ Some credential
  pub object : listed.id.oid_object_id ≡ o

with_credential : (h : Held) (k o : ℕ) (l : Listed) → slice_get h.components k ≡ Some l → (c : Option Credential)
    → l.credential ≡ c → ((unwrap_or c no_credential).capability ≡ no_capability → ⊥)
    → l.id.oid_object_id ≡ o → IsNamed h k o
with_credential h k o l found None e some is = absurd (some refl)
with_credential h k o l found (Some c) e some is = record {
  listed = l;
  found = found;
  credential = c;
  has = e;
  object = is;
}

with_listed : (h : Held) (k o : ℕ) (x : Option Listed) → slice_get h.components k ≡ x
    → ((unwrap_or (credential_in x) no_credential).capability ≡ no_capability → ⊥)
    → (id_in x).oid_object_id ≡ o → IsNamed h k o
with_listed h k o None found some is = absurd (some refl)
with_listed h k o (Some l) found some is = with_credential h k o l found l.credential refl some is

pub named : (h : Held) (k o : ℕ) → Names h k o → IsNamed h k o
unfolding credential_of object_of
named h k o n = with_listed h k o (slice_get h.components k) refl n.0 n.1

-- ---- the objects of a file

-- what the grant names, the file has
pub record HasObject (f : Kept) (k o : ℕ) : Type 0 where
  pub at : Component
  pub found : slice_get f.components k ≡ Some at
  pub object : at.object ≡ o

abbrev pub ListsAt : Kept → Held → Type 0
ListsAt f h = (k o : ℕ) → Names h k o → HasObject f k o

pub lists_at : (ds : List Drive) (f : Kept) (g : Grant) (a : Answer) (op : CallOp) (h : Held)
    → a.results ≡ results.LayoutGet (get.Granted (granted ds f g)) → NumbersFit ds f g → taken a op ≡ Ok h
    → ListsAt f h
lists_at ds f g a op h gives fits e k o n =
    let t : IsTaken a op h = is_taken a op h e in
    let ok : t.given ≡ granted ds f g = given_is a.results t.given (granted ds f g) t.gives gives in
    let segment : t.segment ≡ segment_for ds f g =
    one_of t.segment (segment_for ds f g) t.given.layouts t.one (ap (λ (y : LayoutGetOk). y.layouts) ok) in
    let layout : t.layout ≡ layout_for ds f g =
    same_ok t.layout (layout_for ds f g) (whole layout_in t.segment.body) t.body
    (ap (λ (s : LayoutSegment). whole layout_in s.body) segment ∙ body_read ds f g fits.layout) in
    let x = named h k o n in
    let c =
    credential_is ds f g t.layout.olo_components h.components k x.listed x.credential
    (ap (λ (y : Layout). y.olo_components) layout) t.components fits.capabilities x.found x.has in
    record {
      at = c.at;
      found = c.found;
      object = ap (λ (y : ObjId). y.oid_object_id) (sym c.object) ∙ x.object;
    }
