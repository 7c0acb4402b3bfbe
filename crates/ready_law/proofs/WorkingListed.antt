-- The components that the layout of a working call lists.
use Rattle.std.proofs.Common.{◌≡◌, ◌≤◌, ◌<◌, ℕ, Bool, true, List, [], length, slice_get, Option, Some, None, is_some, unwrap_or, nat_lt, refl, sym, ap, ◌∙◌, arith}
use Rattle.std.proofs.lemmas.Bool.Decides.{nat_tests}
use Rattle.std.proofs.lemmas.List.{append-nil}
use Rattle.std.proofs.lemmas.Option.{slice_get_within}
use Rattle.osd_lists.proofs.Slices.{some_at}
use Rattle.server_rules.specs.Layouts.{object_of}
use Rattle.client_rules.specs.declared.limits.TheConstants.{MAX_DRIVE}
use Rattle.layout_types.specs.declared.objid.ObjId.{ObjId}
use Rattle.stripe_plan.specs.declared.plan.Ask.{Ask}
use Rattle.client_rules.specs.Commands.{no_credential, credential_in, credential_of, command, sealed}
use Rattle.client_rules.specs.Requests.{object_of as listed_object, id_in}
use Rattle.scenario_text.specs.declared.line.Line.{Line}
use Rattle.scenario_text.specs.declared.names.TheConstants.{DRIVES}
use Rattle.world_history.specs.ClientNames.{Credential, Listed, Held, Awaited, TimedOut}
use Rattle.world_history.specs.ServerNames.{Component}
use Rattle.world_history.specs.State.{World}
use Rattle.component_law.specs.Listed.{IsOffline, ListsComponent}
use Rattle.ready_law.specs.Reacting.{IsAwaitedWell}
use Rattle.ready_law.proofs.Calls.{ReadyCall, op_at, kept_at, IsIn}
use Rattle.ready_law.proofs.WorkingForms.{UnderGrant}

-- ---- one component

-- Component k stands at the server, and the client lists it with a credential for its drive.
pub record IsListedAt (s : ReadyCall) (w : World) (held : Held) (k : ℕ) : Type 0 where
  pub at : Component
  pub place : slice_get (kept_at s).components k ≡ Some at
  pub drive : (credential_of held k).drive ≡ at.drive
  pub object : listed_object held k ≡ object_of at
  pub gone : at.missing ≡ true → IsOffline w.server.drives at.drive

record IsEntry (o : Option Listed) : Type 0 where
  entry : Listed
  credential : Credential
  is : o ≡ Some entry
  has : entry.credential ≡ Some credential

entry_of : (o : Option Listed) → is_some (credential_in o) ≡ true → IsEntry o
entry_of None e = absurd (cc e)
entry_of (Some l) e = by_credential l.credential refl e
  where
    by_credential : (o : Option Credential) → l.credential ≡ o → is_some o ≡ true → IsEntry (Some l)
    by_credential None is t = absurd (cc t)
    by_credential (Some c) is t = record { entry = l; credential = c; is = refl; has = is }

module _ (s : ReadyCall) (w : World) (held : Held) (size : ℕ) (u : UnderGrant s w held size) where
  pub listed_at : (k : ℕ) → is_some (credential_in (slice_get held.components k)) ≡ true → IsListedAt s w held k
  unfolding credential_of listed_object
  listed_at k e =
      let x = entry_of (slice_get held.components k) e in
      let low : k < length (kept_at s).components =
      omega (arith, slice_get_within held.components k x.entry x.is, u.lists.count) in
      let at = some_at (kept_at s).components k low in
      let it : ListsComponent w.server.drives _ u.grant at.0 k x.entry = u.lists.each k at.0 x.entry at.1 x.is in
      record {
        at = at.0;
        place = at.1;
        drive =
            ap (λ (o : Option Listed). (unwrap_or (credential_in o) no_credential).drive) x.is
            ∙ ap (λ (o : Option Credential). (unwrap_or o no_credential).drive) x.has
            ∙ (it.credential x.credential x.has).drive;
        object = ap (λ (o : Option Listed). id_in o) x.is ∙ it.object;
        gone = λ m. it.gone x.credential x.has m;
      }

  -- a line can name its drive
  pub drive_named : (h : List Line) → IsIn s w h → (k : ℕ) (at : Component) → slice_get (kept_at s).components k ≡ Some at
      → nat_lt at.drive DRIVES ≡ true
  drive_named h i k at place =
      let files = (i.fair.readable w h [] i.fair.moment (sym (append-nil h))).files in
      let low : at.drive ≤ MAX_DRIVE = (files _ _ u.server.found).drives k at place in
      grind (arith, nat_tests, low)

  -- ---- what is awaited under the grant

  -- Something that is awaited is for the drive of a listed component, and its object.
  pub record IsAwaitedAt (y : Awaited) : Type 0 where
    pub component : IsListedAt s w held y.ask.component
    pub drive : y.drive ≡ component.at.drive
    pub object : y.command.object ≡ component.at.object

  pub awaited_at : (timed : List TimedOut) (write : Bool) (y : Awaited)
      → IsAwaitedWell held (op_at s) timed write y → IsAwaitedAt y
  unfolding command sealed
  awaited_at timed write y it =
      let k = listed_at y.ask.component it.may.asks.listed in
      let ask : y.ask ≡ it.store.ask = ap (λ (z : Awaited). z.ask) it.is in
      record {
        component = k;
        drive =
            ap (λ (z : Awaited). z.drive) it.is
            ∙ ap (λ (a : Ask). (credential_of held a.component).drive) (sym ask) ∙ k.drive;
        object =
            ap (λ (z : Awaited). z.command.object) it.is
            ∙ ap (λ (a : Ask). (listed_object held a.component).oid_object_id) (sym ask)
            ∙ ap (λ (o : ObjId). o.oid_object_id) k.object;
      }
