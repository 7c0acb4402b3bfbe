-- What a client may send gives no object a tag: its capability has no right to that.
use Rattle.std.proofs.Common.{◌≡◌, ◌⊎◌, ℕ, ◌<◌, ◌^◌, Bool, true, false, List, Ok, bit_and, nat_eq, refl, sym, ap, subst, ◌∙◌, inl, inr}
use Rattle.osd_lists.proofs.Tests.{first_false}
use Rattle.osd_capability.specs.declared.layout.Capability.{Capability}
use Rattle.osd_capability.specs.Layout.{reading as capability_in}
use Rattle.osd_commands.specs.declared.actions.Action.{Action}
use Rattle.osd_commands.specs.declared.actions.Action.TheVariants.{Create, SetTag}
use Rattle.osd_commands.specs.declared.commands.Command.{Command}
use Rattle.osd_commands.specs.Actions.{right_of}
use Rattle.osd_commands.specs.Commands.{reading}
use Rattle.osd_drive.specs.Table.{has_no_right}
use Rattle.layout_types.specs.declared.cred.ObjectCred.{ObjectCred}
use Rattle.scenario_text.specs.declared.line.Line.{Line}
use Rattle.server_rules.proofs.Members.{in_map}
use Rattle.world_history.specs.declared.messages.Sent.{Sent}
use Rattle.world_history.specs.Reading.{sent_in}
use Rattle.history_law.specs.Listed.{WasGiven}
use Rattle.history_law.specs.Granted.{SpellsOwn}
use Rattle.history_law.specs.Issued.{IsIssued}
use Rattle.history_law.specs.Unforged.{HasFairSource}
use Rattle.history_law.proofs.Carried.{read_spelled}
use Rattle.history_law.proofs.LaneLines.{SentTo, letter, in_get}
use Rattle.history_law.proofs.Layouts.{rights_by}
use Rattle.history_law.proofs.Bodies.{given_own}
use Rattle.history_law.proofs.Holders.{rights_read, few_rights, bears_rights}

-- ---- the rights of what was given to a client

listed_rights : (ss : List Sent) (c : ℕ) (o : ObjectCred) (w : WasGiven ss c o) → SpellsOwn c w.message.bytes
    → (x : Capability) → capability_in o.oc_capability ≡ Ok x → (rw : Bool) × (x.rights ≡ rights_by rw)
listed_rights ss c o w s x read =
    let own = given_own ss c o w s in (own.grant.rw, bears_rights own.grant o x own.bears read)

issued_rights : (before : List Line) (c d : ℕ) (bytes : List ℕ) (i : IsIssued before c d bytes) (y : Command)
    → reading bytes ≡ Ok y → (rw : Bool) × (y.capability.rights ≡ rights_by rw)
issued_rights before c d bytes i y read =
    let x = listed_rights (sent_in before) c i.credential i.given i.source i.command.capability i.under.capability in (
      x.0,
      rights_read i.command.capability y.capability (subst (λ (n : ℕ). n < 2 ^ 32) (sym x.1) (few_rights x.0))
          (read_spelled i.command y (ap reading (sym i.spells) ∙ read)) ∙ x.1,
    )

-- ---- who gives tags

-- a CREATE or a SET TAG
abbrev pub GivesTags : Action → Type 0
GivesTags a = (a ≡ Create) ⊎ (a ≡ SetTag)

no_create : (rw : Bool) → nat_eq (bit_and (rights_by rw) (right_of Create)) 0 ≡ true
no_create true = refl
no_create false = refl

no_set_tag : (rw : Bool) → nat_eq (bit_and (rights_by rw) (right_of SetTag)) 0 ≡ true
no_set_tag true = refl
no_set_tag false = refl

no_tags : (rw : Bool) (a : Action) → GivesTags a → nat_eq (bit_and (rights_by rw) (right_of a)) 0 ≡ true
no_tags rw a (inl is) = ap (λ (x : Action). nat_eq (bit_and (rights_by rw) (right_of x)) 0) is ∙ no_create rw
no_tags rw a (inr is) = ap (λ (x : Action). nat_eq (bit_and (rights_by rw) (right_of x)) 0) is ∙ no_set_tag rw

-- no client's capability allows that
has_none : (y : Command) → (rw : Bool) × (y.capability.rights ≡ rights_by rw) → has_no_right y ≡ false → GivesTags y.action
    → ⊥
has_none y r allowed gives =
    let none : nat_eq (bit_and y.capability.rights (right_of y.action)) 0 ≡ true =
    ap (λ (n : ℕ). nat_eq (bit_and n (right_of y.action)) 0) r.1 ∙ no_tags r.0 y.action gives in
    cc (sym none ∙ first_false _ _ allowed)

-- what gives a tag and has the right to is the server's
pub servers_tag : (before : List Line) (d : ℕ) (bytes : List ℕ) → HasFairSource before d bytes → (y : Command)
    → reading bytes ≡ Ok y → has_no_right y ≡ false → GivesTags y.action → SentTo before d bytes
servers_tag before d bytes (inl (inl s)) y read allowed gives = record {
  message = letter s.message;
  sent = in_map letter s.message (sent_in before) (in_get (sent_in before) s.number s.message s.there);
  sender = s.sender;
  receiver = s.receiver;
  bytes_are = s.bytes_are;
}
servers_tag before d bytes (inl (inr (c, i))) y read allowed gives =
    absurd (has_none y (issued_rights before c d bytes i y read) allowed gives)
servers_tag before d bytes (inr listed) y read allowed gives =
    let k = listed y read in
    let i = k.1 in
    absurd (has_none y (listed_rights (sent_in before) k.0 i.credential i.given i.source y.capability i.is) allowed gives)
