-- What an answer of the server gives a client, and which commands are under it.
use Rattle.std.specs.Prelude.{◌≡◌, ℕ, List, [], ◌∷◌, ◌++◌, slice_get, Some, Ok}
use Rattle.layout_types.specs.declared.cred.ObjectCred.{ObjectCred}
use Rattle.layout_types.specs.declared.layout.Layout.{Layout}
use Rattle.layout_types.specs.Grammar.{whole}
use Rattle.layout_types.specs.Reading.{layout_in}
use Rattle.layout_ops.specs.declared.results.LayoutSegment.{LayoutSegment}
use Rattle.layout_ops.specs.declared.results.LayoutGetOk.{LayoutGetOk}
use Rattle.layout_ops.specs.declared.messages.Answer.{Answer}
use Rattle.layout_ops.specs.declared.envelope.Envelope.TheVariants as envelope
use Rattle.layout_ops.specs.Reading.{envelope_of}
use Rattle.osd_capability.specs.declared.keys.CapKey.{CapKey}
use Rattle.osd_capability.specs.Layout as capabilities
use Rattle.osd_capability.specs.Keys.{check_of}
use Rattle.osd_commands.specs.declared.commands.Command.{Command}
use Rattle.osd_commands.specs.Commands.{head}
use Rattle.client_rules.specs.Results.{layouts_in}
use Rattle.client_rules.specs.Layouts.{drive_of, key_of}
use Rattle.scenario_text.specs.declared.line.Party.TheVariants as party
use Rattle.world_history.specs.declared.messages.Sent.{Sent}

-- these bytes are an answer that gives one layout, in which component k has this credential
pub record Lists (bytes : List ℕ) (k : ℕ) (o : ObjectCred) : Type 0 where
  pub answer : Answer
  pub read : envelope_of bytes ≡ Ok (envelope.Answer answer)
  pub given : LayoutGetOk
  pub gives : layouts_in answer.results ≡ Some given
  pub segment : LayoutSegment
  pub one : given.layouts ≡ segment ∷ []
  pub layout : Layout
  pub body : whole layout_in segment.body ≡ Ok layout
  pub found : slice_get layout.olo_components k ≡ Some o

-- among these messages stands such an answer, of the server to this client
pub record WasGiven (sent : List Sent) (client : ℕ) (o : ObjectCred) : Type 0 where
  pub number : ℕ
  pub message : Sent
  pub there : slice_get sent number ≡ Some message
  pub sender : message.from ≡ party.Server
  pub receiver : message.to ≡ party.Client client
  pub component : ℕ
  pub lists : Lists message.bytes component o

-- a command is for the credential's drive and object, carries its capability, and is sealed with its key
pub record IsUnder (o : ObjectCred) (drive : ℕ) (c : Command) : Type 0 where
  pub drive_is : drive ≡ drive_of o.oc_object_id.oid_device_id
  pub partition : c.partition ≡ o.oc_object_id.oid_partition_id
  pub object : c.object ≡ o.oc_object_id.oid_object_id
  pub capability : capabilities.reading o.oc_capability ≡ Ok c.capability
  pub key : CapKey
  pub key_is : key_of c.capability.format o.oc_capability_key ≡ Some key
  pub check : c.check ≡ check_of key (head c ++ c.payload)
