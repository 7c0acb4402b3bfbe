-- What a client reads in an answer whose numbers fit is what the server's rules gave.
use Rattle.std.proofs.Common.{◌≡◌, ℕ, ◌+◌, zero, suc, List, [], ◌∷◌, Bool, true, false, Some, Result, Ok, slice_get, bit_and, nat_eq, refl, sym, ap, subst, ◌∙◌, arith, if◌then◌else◌}
use Rattle.layout_types.specs.declared.cred.ObjectCred.{ObjectCred}
use Rattle.layout_types.specs.declared.layout.Layout.{Layout}
use Rattle.layout_types.specs.Grammar.{whole}
use Rattle.layout_types.specs.Reading.{layout_in}
use Rattle.layout_types.specs.Spelling.{layout_item, LayoutFits}
use Rattle.layout_types.proofs.Codecs.{layout_codec}
use Rattle.layout_types.proofs.Steps.{all_again as layout_again}
use Rattle.layout_ops.specs.declared.results.LayoutGetOk.{LayoutGetOk}
use Rattle.layout_ops.specs.declared.results.LayoutSegment.{LayoutSegment}
use Rattle.layout_ops.specs.declared.results.LayoutGetResult.TheVariants as get
use Rattle.layout_ops.specs.declared.results.Results.{Results}
use Rattle.layout_ops.specs.declared.results.Results.TheVariants as results
use Rattle.layout_ops.specs.declared.envelope.Envelope.TheVariants as envelope
use Rattle.layout_ops.specs.Reading.{envelope_of}
use Rattle.layout_ops.specs.Spelling.{EnvelopeFits}
use Rattle.layout_ops.proofs.Whole.{all_again}
use Rattle.osd_capability.specs.declared.layout.Capability.{Capability}
use Rattle.osd_capability.specs.Layout as cap
use Rattle.osd_capability.proofs.LayoutLaws.{reading-spelling}
use Rattle.osd_commands.specs.declared.actions.Action.{Action}
use Rattle.osd_commands.specs.declared.actions.Action.TheVariants.{Write}
use Rattle.osd_commands.specs.declared.commands.Command.{Command}
use Rattle.osd_commands.specs.Actions.{right_of}
use Rattle.osd_commands.specs.Commands.{reading, spelling}
use Rattle.client_rules.specs.Results.{layouts_in}
use Rattle.server_rules.specs.declared.limits.TheConstants.{READ_RIGHTS, WRITE_RIGHTS}
use Rattle.server_rules.specs.declared.files.Component.{Component}
use Rattle.server_rules.specs.declared.files.Kept.{Kept}
use Rattle.server_rules.specs.declared.grants.Grant.{Grant}
use Rattle.server_rules.specs.declared.server.Drive.{Drive}
use Rattle.server_rules.specs.Layouts.{capability_for, no_credential, credential, credentials_from, layout_for, body_of, granted}
use Rattle.history_law.specs.Listed.{Lists}
use Rattle.history_law.specs.Granted.{IsGrantOf, GivesOwn, OwnIn, SpellsOwn, NumbersFit, IsOfGrant}
use Rattle.history_law.proofs.Carried.{fits_read, same_read}

-- ---- the answer

pub same_ok : {A E : Type 0} (x y : A) (r : Result A E) → r ≡ Ok x → r ≡ Ok y → x ≡ y
same_ok x y r is too = cc (sym is ∙ too)

pub own_given : (client : ℕ) (r : Results) (given : LayoutGetOk) → layouts_in r ≡ Some given → GivesOwn client r
    → IsGrantOf client given
own_given client (results.LayoutGet (get.Granted ok)) given e own =
    let same : ok ≡ given = cc e in subst (IsGrantOf client) same own
own_given client (results.LayoutGet (get.TryLater signal)) given e own = absurd (cc e)
own_given client (results.LayoutGet (get.Refused status)) given e own = absurd (cc e)
own_given client (results.LayoutCommit r) given e own = absurd (cc e)
own_given client (results.LayoutReturn r) given e own = absurd (cc e)

-- where its numbers fit, what was read is a grant of the client
pub grant_read : (client : ℕ) (bytes : List ℕ) (k : ℕ) (o : ObjectCred) (s : SpellsOwn client bytes)
    (l : Lists bytes k o)
    → EnvelopeFits s.message → IsGrantOf client l.given
grant_read client bytes k o s l fits =
    let again : envelope_of bytes ≡ Ok s.message = ap envelope_of s.bytes_are ∙ all_again s.message fits in
    let same : s.message ≡ envelope.Answer l.answer =
    same_ok s.message (envelope.Answer l.answer) (envelope_of bytes) again l.read in
    own_given client l.answer.results l.given l.gives (subst (OwnIn client) same s.own)

-- ---- its layout

pub body_read : (ds : List Drive) (f : Kept) (g : Grant) → LayoutFits (layout_for ds f g)
    → whole layout_in (body_of (layout_for ds f g)) ≡ Ok (layout_for ds f g)
unfolding body_of
body_read ds f g fits = layout_again layout_in layout_item LayoutFits layout_codec (layout_for ds f g) fits

pub one_of : (a b : LayoutSegment) (xs : List LayoutSegment) → xs ≡ a ∷ [] → xs ≡ b ∷ [] → a ≡ b
one_of a b xs is too = cc (sym is ∙ too)

layout_read : (bytes : List ℕ) (k : ℕ) (o : ObjectCred) (l : Lists bytes k o) (ds : List Drive) (f : Kept) (g : Grant)
    → l.given ≡ granted ds f g → LayoutFits (layout_for ds f g) → l.layout ≡ layout_for ds f g
layout_read bytes k o l ds f g is fits =
    let there : (granted ds f g).layouts ≡ l.segment ∷ [] = ap (λ (y : LayoutGetOk). y.layouts) (sym is) ∙ l.one in
    let body : body_of (layout_for ds f g) ≡ l.segment.body =
    ap (λ (y : LayoutSegment). y.body) (one_of _ l.segment _ refl there) in
    same_ok l.layout (layout_for ds f g) (whole layout_in l.segment.body) l.body
    (ap (whole layout_in) (sym body) ∙ body_read ds f g fits)

-- ---- its credentials

-- the credential of component k
abbrev IsCredential : List Drive → Kept → Grant → List Component → (j k : ℕ) → ObjectCred → Type 0
IsCredential ds f g cs j k o =
    (at : Component) × (slice_get cs k ≡ Some at)
    × (o ≡ (if at.missing then no_credential at else credential ds f g at (j + k)))

credential_at : (ds : List Drive) (f : Kept) (g : Grant) (cs : List Component) (j k : ℕ) (o : ObjectCred)
    → slice_get (credentials_from ds f g cs j) k ≡ Some o → IsCredential ds f g cs j k o
unfolding credentials_from
credential_at ds f g [] j k o found = absurd (cc found)
credential_at ds f g (at ∷ cs) j zero o found =
    let same : j + 0 ≡ j = omega arith in
    let it : (if at.missing then no_credential at else credential ds f g at j) ≡ o = cc found in
    (at, refl, sym it ∙ ap (λ (n : ℕ). if at.missing then no_credential at else credential ds f g at n) (sym same))
credential_at ds f g (at ∷ cs) j (suc k) o found =
    let rest = credential_at ds f g cs (j + 1) k o found in
    let same : (j + 1) + k ≡ j + suc k = omega arith in (
      rest.0,
      rest.1,
      rest.2 ∙ ap (λ (n : ℕ). if rest.0.missing then no_credential rest.0 else credential ds f g rest.0 n) same,
    )

-- among all components
pub first_credential : (ds : List Drive) (f : Kept) (g : Grant) (cs : List Component) (k : ℕ) (o : ObjectCred)
    → slice_get (credentials_from ds f g cs 0) k ≡ Some o
    → (at : Component) × (slice_get cs k ≡ Some at)
    × (o ≡ (if at.missing then no_credential at else credential ds f g at k))
first_credential ds f g cs k o found =
    let rest = credential_at ds f g cs 0 k o found in
    let same : 0 + k ≡ k = omega arith in (
      rest.0,
      rest.1,
      rest.2 ∙ ap (λ (n : ℕ). if rest.0.missing then no_credential rest.0 else credential ds f g rest.0 n) same,
    )

-- a capability that is read in it
pub read_in : (ds : List Drive) (f : Kept) (g : Grant) (at : Component) (k : ℕ) (b : Bool) (o : ObjectCred) (x : Capability)
    → o ≡ (if b then no_credential at else credential ds f g at k) → cap.reading o.oc_capability ≡ Ok x
    → (b ≡ false) × (cap.reading (cap.spelling (capability_for f g at k)) ≡ Ok x)
unfolding credential cap.reading
read_in ds f g at k true o x is read =
    absurd (cc (ap (λ (y : ObjectCred). cap.reading y.oc_capability) (sym is) ∙ read))
read_in ds f g at k false o x is read =
    (refl, ap (λ (y : ObjectCred). cap.reading y.oc_capability) (sym is) ∙ read)

-- a right to write is under a grant for writing
allows_write : (b : Bool) → nat_eq (bit_and (if b then WRITE_RIGHTS else READ_RIGHTS) (right_of Write)) 0 ≡ false
    → b ≡ true
allows_write true has = refl
allows_write false has = absurd (cc has)

may_write : (f : Kept) (g : Grant) (at : Component) (k : ℕ) (c : Command) → c.capability ≡ capability_for f g at k
    → nat_eq (bit_and c.capability.rights (right_of c.action)) 0 ≡ false → c.action ≡ Write → g.rw ≡ true
may_write f g at k c is has writes =
    allows_write g.rw
    (sym (ap (λ (x : Capability). nat_eq (bit_and x.rights (right_of Write)) 0) is)
    ∙ ap (λ (a : Action). nat_eq (bit_and c.capability.rights (right_of a)) 0) (sym writes) ∙ has)

-- where its numbers fit, what is read of the credential is the capability of a component under the grant
pub record IsCapability (f : Kept) (g : Grant) (k : ℕ) (x : Capability) : Type 0 where
  pub at : Component
  pub found : slice_get f.components k ≡ Some at
  pub present : at.missing ≡ false
  pub fits : cap.Fits (capability_for f g at k)
  pub is : x ≡ capability_for f g at k

pub capability_read : (bytes : List ℕ) (k : ℕ) (o : ObjectCred) (l : Lists bytes k o) (ds : List Drive) (f : Kept)
    (g : Grant)
    → l.given ≡ granted ds f g → NumbersFit ds f g → (y : Capability) → cap.reading o.oc_capability ≡ Ok y
    → IsCapability f g k y
capability_read bytes k o l ds f g is fits y read =
    let layout = layout_read bytes k o l ds f g is fits.layout in
    let at = first_credential ds f g f.components k o
    (ap (λ (z : Layout). slice_get z.olo_components k) (sym layout) ∙ l.found) in
    let here = read_in ds f g at.0 k at.0.missing o y at.2 read in
    let known : cap.Fits (capability_for f g at.0 k) = fits.capabilities k at.0 at.1 in
    record {
      at = at.0;
      found = at.1;
      present = here.0;
      fits = known;
      is = same_read y (capability_for f g at.0 k) _ here.1 (reading-spelling (capability_for f g at.0 k) known);
    }

of_grant : (f : Kept) (g : Grant) (k : ℕ) (x : Capability) (i : IsCapability f g k x) (c : Command) → c.capability ≡ x
    → nat_eq (bit_and c.capability.rights (right_of c.action)) 0 ≡ false → IsOfGrant f g k c
of_grant f g k x i c same allowed = record {
  at = i.at;
  found = i.found;
  present = i.present;
  capability = same ∙ i.is;
  writes = may_write f g i.at k c (same ∙ i.is) allowed;
}

-- a command that carries it is for a component under the grant
pub exact_listed : (client : ℕ) (bytes : List ℕ) (k : ℕ) (o : ObjectCred) (l : Lists bytes k o)
    (x : IsGrantOf client l.given)
    → NumbersFit x.drives x.file x.grant → (c : Command) → cap.reading o.oc_capability ≡ Ok c.capability
    → nat_eq (bit_and c.capability.rights (right_of c.action)) 0 ≡ false → IsOfGrant x.file x.grant k c
exact_listed client bytes k o l x fits c read allowed =
    of_grant x.file x.grant k c.capability
    (capability_read bytes k o l x.drives x.file x.grant x.is fits c.capability read) c refl allowed

-- where its numbers fit, the command that the drive reads is for a component under the grant
pub exact_read : (client : ℕ) (bytes : List ℕ) (k : ℕ) (o : ObjectCred) (l : Lists bytes k o)
    (x : IsGrantOf client l.given)
    → NumbersFit x.drives x.file x.grant → (y c : Command) → cap.reading o.oc_capability ≡ Ok y.capability
    → reading (spelling y) ≡ Ok c → nat_eq (bit_and c.capability.rights (right_of c.action)) 0 ≡ false
    → IsOfGrant x.file x.grant k c
exact_read client bytes k o l x fits y c read spelled allowed =
    let i = capability_read bytes k o l x.drives x.file x.grant x.is fits y.capability read in
    of_grant x.file x.grant k y.capability i c (fits_read y c (subst cap.Fits (sym i.is) i.fits) spelled) allowed
