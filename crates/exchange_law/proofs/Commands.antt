-- A command under a grant is placed where its bytes lie in the range of the component's capability.
use Rattle.std.proofs.Common.{◌≡◌, ◌⊎◌, ◌<◌, ℕ, ◌+◌, ◌^◌, Bool, true, false, bit_and, nat_eq, unwrap_or, Option, Some, slice_get, refl, sym, ap, ◌∙◌, inl, inr, if◌then◌else◌}
use Rattle.layout_types.specs.declared.objid.ObjId.{ObjId}
use Rattle.osd_capability.specs.declared.layout.Capability.{Capability}
use Rattle.osd_capability.specs.Layout as cap
use Rattle.osd_commands.specs.declared.actions.Action.TheVariants.{Read, Write}
use Rattle.osd_commands.specs.declared.commands.Command.{Command}
use Rattle.osd_commands.specs.Actions.{right_of}
use Rattle.exchange_law.specs.PlaceState.{Credential, Listed, Held, Store}
use Rattle.client_rules.specs.Requests.{id_in, object_of}
use Rattle.client_rules.specs.Commands.{no_credential, credential_in, credential_of, action_of, sealed, command}
use Rattle.server_rules.specs.declared.limits.TheConstants.{READ_RIGHTS, WRITE_RIGHTS}
use Rattle.server_rules.specs.declared.files.Kept.{Kept}
use Rattle.server_rules.specs.declared.grants.Grant.{Grant}
use Rattle.server_rules.specs.Layouts.{capability_for}
use Rattle.exchange_law.specs.Kept.{IsGrant}
use Rattle.exchange_law.specs.Placed.{IsPlaced}
use Rattle.exchange_law.specs.Asked.{AskFits}

-- a command that is placed, and whose capability and range fit their places
pub record MaySend (drive : ℕ) (c : Command) : Type 0 where
  pub placed : IsPlaced drive c
  pub capability : cap.Fits c.capability
  pub offset : c.offset < 2 ^ 64
  pub length : c.length < 2 ^ 64

pub credential_found : (h : Held) (k : ℕ) (l : Listed) (c : Credential) → slice_get h.components k ≡ Some l
    → l.credential ≡ Some c → credential_of h k ≡ c
unfolding credential_of
credential_found h k l c found has =
    ap (λ (o : Option Listed). unwrap_or (credential_in o) no_credential) found
    ∙ ap (λ (o : Option Credential). unwrap_or o no_credential) has

object_found : (h : Held) (k : ℕ) (l : Listed) → slice_get h.components k ≡ Some l → object_of h k ≡ l.id
unfolding object_of
object_found h k l found = ap id_in found

allowed : (rw write : Bool) → (write ≡ true → rw ≡ true)
    → nat_eq (bit_and (if rw then WRITE_RIGHTS else READ_RIGHTS) (right_of (action_of write))) 0 ≡ false
allowed true true w = refl
allowed true false w = refl
allowed false true w = absurd (cc (w refl))
allowed false false w = refl

module _ (f : Kept) (g : Grant) (h : Held) (k : IsGrant f g h) where
  pub command_placed : (write : Bool) (w : Store) (nonce : ℕ) → AskFits h.components w.ask
      → (write ≡ true → h.reach.rw ≡ true)
      → MaySend (credential_of h w.ask.component).drive (command h write w nonce)
  unfolding command sealed
  command_placed write w nonce a may =
      let own = k.present w.ask.component a.listed a.credential a.found a.has in
      let is : credential_of h w.ask.component ≡ a.credential =
      credential_found h w.ask.component a.listed a.credential a.found a.has in
      let object = object_found h w.ask.component a.listed a.found ∙ own.object in
      let capability : (credential_of h w.ask.component).capability ≡ capability_for f g own.at w.ask.component =
      ap (λ (c : Credential). c.capability) is ∙ own.capability in
      let partition = ap (λ (o : ObjId). o.oid_partition_id) object in
      record {
        placed = record {
          partition = partition ∙ sym (ap (λ (c : Capability). c.partition) capability);
          here =
              partition
              ∙ ap (λ (d : ℕ). 65536 + d) (sym (ap (λ (c : Credential). c.drive) is ∙ own.drive));
          object =
              ap (λ (o : ObjId). o.oid_object_id) object ∙ sym (ap (λ (c : Capability). c.object) capability);
          action = read_or_write write;
          right = rw capability (allowed g.rw write (λ e. sym k.writes ∙ may e));
          first = rw is a.first;
          end = rw is a.end;
        };
        capability = rw capability own.fits;
        offset = a.near;
        length = a.short;
      }
    where
      read_or_write : (b : Bool) → (action_of b ≡ Read) ⊎ (action_of b ≡ Write)
      read_or_write true = inr refl
      read_or_write false = inl refl
