-- The grant that a client takes from an answer is the machine's: for the same columns, without the components that are missing.
use Rattle.std.proofs.Common.{◌≡◌, ℕ, zero, suc, Bool, true, false, List, [], ◌∷◌, Option, Some, None, Ok, refl, sym, ap, subst, ◌∙◌, if◌then◌else◌}
use Rattle.std.specs.Prelude.{◌+◌, slice_get, is_none}
use Rattle.layout_ops.specs.declared.messages.Answer.{Answer}
use Rattle.layout_ops.specs.declared.results.LayoutGetOk.{LayoutGetOk}
use Rattle.client_rules.specs.Layouts.{taken, in_layouts}
use Rattle.client_rules.specs.Results.{layouts_in}
use Rattle.world_history.specs.ServerNames.{Server, File, Component, Drive, Kept, Grant}
use Rattle.world_history.specs.ClientNames.{CallOp, Listed, Credential}
use Rattle.exchange_law.specs.Held.{credential_of, listed_at, listed_from}
use Rattle.fence_law.specs.Starts.{granted}
use Rattle.fence_law.specs.State as machine
use Rattle.fence_law.specs.State.{State}
use Rattle.file_simulation.specs.Grants.{covers_column, LayoutIs}
use Rattle.file_simulation.specs.Requests.{GivesIn}
use Rattle.relation_law.specs.RequestsGoing.{GivesGrant}

-- ---- what is listed

-- it is of a component
abbrev OfComponent : List Drive → Kept → Grant → List Component → (k : ℕ) → Listed → Type 0
OfComponent ds f g cs k l = (at : Component) × (slice_get cs k ≡ Some at) × (j : ℕ) × (l ≡ listed_at ds f g at j)

listed_is : (ds : List Drive) (f : Kept) (g : Grant) (cs : List Component) (n k : ℕ) (l : Listed)
    → slice_get (listed_from ds f g cs n) k ≡ Some l → OfComponent ds f g cs k l
unfolding listed_from
listed_is ds f g [] n k l e = absurd (cc e)
listed_is ds f g (at ∷ cs) n zero l e = (at, refl, n, cc (sym e))
listed_is ds f g (at ∷ cs) n (suc k) l e = listed_is ds f g cs (n + 1) k l e

-- without a credential where it is missing, and else with the file's tag
left_is : (b : Bool) (x : Credential) → is_none (if b then None else Some x) ≡ b
left_is true x = refl
left_is false x = refl

credential_is : (b : Bool) (x y : Credential) → (if b then None else Some x) ≡ Some y → y ≡ x
credential_is true x y e = absurd (cc e)
credential_is false x y e = cc (sym e)

-- ---- the grant

module _ (s : Server) (g : File) (a : Answer) (op : CallOp) (c : ℕ) (k : GivesGrant s g a op c) (u : State) (rw : Bool)
    (writes : k.grant.rw ≡ rw) (tag : u.tag ≡ g.kept.tag)
    (missing : (i : ℕ) (at : Component) → slice_get g.kept.components i ≡ Some at → u.missing i ≡ at.missing) where
  abbrev its : machine.Grant
  its = granted u c k.grant.number rw (covers_column g.kept.map k.grant.first k.grant.end) k.grant.extending

  of_component : (i : ℕ) (l : Listed) → slice_get k.held.components i ≡ Some l
      → OfComponent s.drives g.kept k.grant g.kept.components i l
  of_component i l e =
      listed_is s.drives g.kept k.grant g.kept.components 0 i l
      (subst (λ (ls : List Listed). slice_get ls i ≡ Some l) k.given.components e)

  layout_is : LayoutIs g.kept.map its k.held
  layout_is = record {
    given = k.grant;
    same = record { number = refl; rw = sym writes; extending = refl; covers = λ q. refl };
    agrees = k.given.agrees;
    left = λ i l e.
        let o = of_component i l e in
        missing i o.0 o.1 ∙ sym (ap (λ (z : Listed). is_none z.credential) o.3
        ∙ left_is o.0.missing (credential_of s.drives g.kept k.grant o.0 o.2));
    tag = λ i l x e is.
        let o = of_component i l e in
        let same : x ≡ credential_of s.drives g.kept k.grant o.0 o.2 =
        credential_is o.0.missing (credential_of s.drives g.kept k.grant o.0 o.2) x
        (sym (ap (λ (z : Listed). z.credential) o.3) ∙ is) in
        ap (λ (z : Credential). z.capability.tag) same ∙ sym tag;
  }

  by_layouts : (o : Option LayoutGetOk) → layouts_in a.results ≡ o → in_layouts a op o ≡ Ok k.held
      → GivesIn g.kept.map a (Some op) o (Some its)
  by_layouts None is e = absurd (cc e)
  by_layouts (Some ok) is e = (its, k.held, refl, k.taken_is, layout_is)

  -- so the answer gives it
  pub gives_it : GivesIn g.kept.map a (Some op) (layouts_in a.results) (Some its)
  unfolding taken
  gives_it = by_layouts (layouts_in a.results) refl k.taken_is
