-- What is known of the commands that clients' calls await (`AwaitWell`): calls that read await READs, and what a client
-- awaits under a nonce is the command that drives read in its message.
-- Towards `ReadsFollow` (`headline_law/specs/Parts.antt`).
use Rattle.std.proofs.Common.{◌≡◌, ◌<◌, ◌≤◌, ◌^◌, ◌||◌, ℕ, Bool, true, false, nat_lt, List, [], Option, Some, None, Ok, refl, sym, ap, subst, ◌∙◌, arith, inl, inr}
use Rattle.std.proofs.lemmas.Bool.{cases_Bool}
use Rattle.std.proofs.lemmas.Bool.Decides.{nat_tests}
use Rattle.std.proofs.lemmas.List.{append-nil}
use Rattle.osd_lists.specs.declared.node.Node.{Node}
use Rattle.osd_lists.specs.declared.node.Node.TheVariants as node
use Rattle.osd_commands.specs.declared.actions.Action.TheVariants.{Read}
use Rattle.osd_commands.specs.declared.commands.Command.{Command}
use Rattle.osd_commands.specs.Commands.{reading, spelling}
use Rattle.scenario_text.specs.declared.line.Line.{Line}
use Rattle.client_rules.specs.declared.limits.TheConstants.{MAX_CALL}
use Rattle.client_rules.specs.Calls.{file_of, is_write, span_of}
use Rattle.client_rules.specs.Commands.{command, credential_of}
use Rattle.client_rules.specs.Grants.{held_of}
use Rattle.client_rules.specs.Io.{awaited_in}
use Rattle.client_rules.specs.Messages.{awaited_of}
use Rattle.client_rules.specs.Steps.{is_bad_range}
use Rattle.server_rules.specs.Laws.{In}
use Rattle.world_history.specs.ClientNames.{Awaited, Call, Held}
use Rattle.world_history.specs.declared.messages.Body.{Body}
use Rattle.world_history.specs.declared.messages.Message.{Message}
use Rattle.world_history.specs.Drives.{command_in}
use Rattle.world_history.specs.State.{World, ClientAt, at_number}
use Rattle.history_law.specs.Moments.{IsMoment}
use Rattle.exchange_law.specs.Calls.{CallFine}
use Rattle.exchange_law.specs.Doing.{said}
use Rattle.exchange_law.specs.InStep.{state_of}
use Rattle.exchange_law.specs.Meeting.{IsMet, KeptGood}
use Rattle.exchange_law.specs.Sent.{HasSent, message_of}
use Rattle.exchange_law.proofs.Commands.{MaySend}
use Rattle.exchange_law.proofs.HeldWorlds.{reached}
use Rattle.exchange_law.proofs.Knowing.{lawful_at}
use Rattle.exchange_law.proofs.Parts.{each_in}
use Rattle.exchange_law.proofs.PlaceWorlds.{PostPlaced}
use Rattle.cause_law.proofs.Objects.{placed_there}
use Rattle.cause_law.proofs.MadeCommands.{IsMade}
use Rattle.cause_law.proofs.MadeSteps.{CallMade, ClientMade, UnderMade, all_made}
use Rattle.cause_law.proofs.MadeRead.{made_read, nonce_of}
use Rattle.file_simulation.specs.Claim.{IsOfScenario}
use Rattle.file_simulation.specs.Messages.{is_scatter}
use Rattle.file_simulation.specs.Relation.{client_of}
use Rattle.relation_law.specs.DriveHearing.{AwaitsOwn}
use Rattle.relation_law.specs.Working.{IsOne}
use Rattle.relation_law.proofs.AwaitsReads.{reads_well}
use Rattle.relation_law.proofs.ComponentsMoved.{MovedLaws, scenario}
use Rattle.relation_law.proofs.ComponentsReading.{read_as}
use Rattle.relation_law.proofs.ComponentsSenders.{IsPlacedBy, placed_by, same_message}
use Rattle.relation_law.proofs.ComponentsWorld.{awaited_by, awaits_same}
use Rattle.headline_law.specs.Reads.{EachAwaitIsWell, EachAwaitStands, ReadsAwaitReads}
use Rattle.headline_law.proofs.ClientAwaits.{one_of, scatter_writes}
use Rattle.headline_law.proofs.SentHeld.{held_for, readable_then}

-- a call has no more bytes than a call may have
few_bytes : (n : ℕ) (past : Bool) → (nat_lt MAX_CALL n || past) ≡ false → n < 2 ^ 32
few_bytes n past fair = elim (cases_Bool (nat_lt MAX_CALL n)) [
  | inl t ↦ absurd (cc (sym (ap (λ (b : Bool). b || past) t) ∙ fair))
  | inr f ↦ let few : n ≤ MAX_CALL = grind (arith, f, nat_tests) in omega (arith, few)
]

module _ (laws : MovedLaws) (w : World) (h : List Line) (k : IsMoment w h) (t : IsOfScenario h) where
  -- what a client sent to a drive is placed there
  placed : (b : Message) → In b (said w.network.messages) → PostPlaced b.from b.to b.body
  placed b i = placed_there w h k (laws.answers h (lawful_at w h k) t.text t.few) b i

  made_at : (c : ℕ) (o : Option ClientAt) → at_number w.clients c ≡ o → (call : Call) → (state_of c o).call ≡ Some call →
      ClientMade (state_of c o)
  made_at c None gone call is = absurd (cc is)
  made_at c (Some a) there call is = all_made w (reached w h k) c a there

  -- ---- what a call awaits

  module _ (c : ℕ) (call : Call) (is : (client_of w c).call ≡ Some call) (y : Awaited) (i : In y (awaited_in call.phase)) where
    abbrev pub held : Held
    held = (held_for laws.held laws.fresh w h k t c call is y i).held

    holds : held_of (client_of w c).held (file_of call.op) ≡ Some held
    holds = (held_for laws.held laws.fresh w h k t c call is y i).holds

    made : ClientMade (client_of w c)
    made = made_at c (at_number w.clients c) refl call is

    -- it was made under the grant, for no more bytes than the call's range has
    pub made_under : IsMade held (span_of call.op).length y
    made_under =
        each_in (IsMade held (span_of call.op).length) (awaited_in call.phase) y
        (subst (λ (g : Option Held). UnderMade g call.op call.phase) holds
        (subst (CallMade (client_of w c).held) is made.call)).0 i

    fine : CallFine (KeptGood w.server c) (client_of w c).held (client_of w c).outstanding (Some call)
    fine =
        let met : IsMet w.server c (client_of w c) =
        laws.held.right.world.agree w h k (readable_then laws.held laws.fresh w h k t) c in
        subst (CallFine (KeptGood w.server c) (client_of w c).held (client_of w c).outstanding) is met.call

    -- a call that goes on isn't of a bad range
    range : is_bad_range (span_of call.op) ≡ false
    range = fine.0.range

    -- a call that reads awaits READs
    awaits_read : is_write call.op ≡ false → y.command.action ≡ Read
    awaits_read reads =
        let one : IsOne (is_scatter call.phase) y = one_of w h k c call is y i in
        elim (cases_Bool (is_scatter call.phase)) [
          | inl t ↦
              let writes : is_write call.op ≡ true =
              scatter_writes (KeptGood w.server c) (held_of (client_of w c).held (file_of call.op))
              (client_of w c).outstanding call.op call.phase fine.1 t in absurd (cc (sym reads ∙ writes))
          | inr none ↦ (one.read none).action_is
        ]

    has : HasSent w c y.drive y.command
    has = awaited_by laws.known w h k t.few c call (at_number w.clients c) refl is y i

    -- so a drive reads it as it is
    pub awaited_is_read : reading (spelling y.command) ≡ Ok y.command
    awaited_is_read =
        let m = made_under in
        let x : Command = command held m.write m.store m.nonce in
        let same : y.command ≡ x = ap (λ (a : Awaited). a.command) m.is in
        let may : MaySend y.drive x =
        subst (MaySend y.drive) same (placed (message_of c y.drive y.command) has) in
        let places = laws.senders.places h (lawful_at w h k) t.text t.few w h [] (sym (append-nil h)) k in
        let low : m.nonce < 2 ^ 64 = nonce_of held m.write m.store m.nonce
        (subst (λ (a : Command). a.nonce < 2 ^ 64) same (places.sent c y.drive y.command has).nonce) in
        let short : (span_of call.op).length < 2 ^ 32 = few_bytes (span_of call.op).length _ range in
        let keyed = (made.grants (file_of call.op) held holds).keyed in
        subst (λ (a : Command). reading (spelling a) ≡ Ok a) (sym same)
        (made_read held m.write m.store m.nonce y.drive keyed m.carries.0 may low (omega (arith, m.carries.1, short)))

  -- ---- what drives read

  module _ (b : Message) (c d : ℕ) (x : Command) (i : In b (said w.network.messages)) (from : b.from ≡ node.Client c)
      (to : b.to ≡ node.Drive d) (reads : command_in b.body ≡ Ok x) where
    at_drive : PostPlaced (node.Client c) (node.Drive d) b.body
    at_drive =
        subst (λ (n : Node). PostPlaced (node.Client c) n b.body) to
        (subst (λ (n : Node). PostPlaced n b.to b.body) from (placed b i))

    abbrev q : IsPlacedBy d b.body
    q = placed_by c d b.body at_drive

    sent : HasSent w c d (placed_by c d b.body at_drive).command
    sent =
        subst (λ (y : Body). In (record { from = node.Client c; to = node.Drive d; body = y }) (said w.network.messages)) q.is
        (subst (λ (y : Message). In y (said w.network.messages)) (same_message b (node.Client c) (node.Drive d) from to) i)

    read : reading (spelling (placed_by c d b.body at_drive).command) ≡ Ok x
    read = ap command_in (sym q.is) ∙ reads

    nonce_is : x.nonce ≡ (placed_by c d b.body at_drive).command.nonce
    nonce_is =
        let room = (laws.senders.places h (lawful_at w h k) t.text t.few w h [] (sym (append-nil h)) k).sent c d q.command sent in
        (read_as q.command x (record {
          object = room.object;
          nonce = room.nonce;
          offset = λ write. q.may.offset;
          tag = q.may.capability.tag;
          holder = q.may.capability.holder;
        }) read).nonce

    pub own_well : AwaitsOwn w c x
    own_well = record {
      same = λ call is y j nonce.
          let one : y.command ≡ q.command =
          awaits_same laws.known w h k t.few c d q.command sent call is y j (nonce ∙ nonce_is) in
          let both : Ok y.command ≡ Ok x =
          sym (awaited_is_read c call is y j) ∙ ap (λ (a : Command). reading (spelling a)) one ∙ read in
          cc both;
      of = λ call n is holding y j.
          let z = held_for laws.held laws.fresh w h k t c call is y j in
          let one : z.held ≡ n = cc (sym z.holds ∙ holding) in
          z.of.capability ∙ ap (λ (g : Held). (credential_of g y.ask.component).capability) one;
    }

-- What pending reads await are READs, which drives read as they are.
pub reads_await_reads : MovedLaws → ReadsAwaitReads
reads_await_reads laws w h k t c call is reads a i =
    let there : In a (awaited_in call.phase) = subst (λ (o : Option Call). In a (awaited_of o)) is i in
    (awaits_read laws w h k t c call is a there reads, awaited_is_read laws w h k t c call is a there)

-- What clients await is well known, where what drives perform of it goes to its component.
pub await_well : MovedLaws → EachAwaitStands → EachAwaitIsWell
await_well laws stands w h m f g s k = record {
  reads = reads_well w h k.follows.moment (scenario laws w h m f g s k).text s f k.follows.related;
  own = own_well laws w h k.follows.moment (scenario laws w h m f g s k);
  stands = stands w h m f g s k;
}
