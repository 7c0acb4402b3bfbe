-- What a drive performs of a message is its sender's, and what a client's READ shows is right.
-- Towards `ComponentsGoOn` (`specs/Steps.antt`).
use Rattle.std.proofs.Common.{◌≡◌, ◌<◌, ℕ, suc, List, [], ◌∷◌, slice_get, Option, Some, None, Ok, refl, sym, ap, subst, ◌∙◌, inl, inr, arith}
use Rattle.std.proofs.lemmas.List.{append-nil}
use Rattle.std.proofs.lemmas.Option.{slice_get_within}
use Rattle.osd_commands.specs.Commands.{reading, spelling}
use Rattle.osd_commands.specs.declared.commands.Command.{Command}
use Rattle.osd_drive.proofs.Clear.{all_told}
use Rattle.osd_lists.specs.declared.node.Node.{Node}
use Rattle.osd_lists.specs.declared.node.Node.TheVariants as node
use Rattle.scenario_text.specs.declared.line.Line.{Line}
use Rattle.scenario_text.specs.declared.line.Party.{Party}
use Rattle.scenario_text.specs.declared.line.Party.TheVariants as party
use Rattle.scenario_text.specs.declared.names.TheConstants.{CLIENTS}
use Rattle.server_rules.specs.declared.limits.TheConstants.{SERVER_HOLDER}
use Rattle.server_rules.specs.History.{Act, step, state_after}
use Rattle.server_rules.specs.Laws.{In}
use Rattle.server_rules.specs.Making.{new_server}
use Rattle.server_rules.proofs.FileLaws.{file_in}
use Rattle.server_rules.proofs.Members.{in_either}
use Rattle.client_rules.specs.Calls.{file_of}
use Rattle.client_rules.specs.Commands.{credential_of, no_capability}
use Rattle.client_rules.specs.Grants.{held_of}
use Rattle.client_rules.specs.Io.{awaited_in}
use Rattle.history_law.specs.Names.{Server, ToDrive}
use Rattle.history_law.specs.Owned.{AreOwned}
use Rattle.history_law.proofs.JobSteps.{step_owns}
use Rattle.world_history.specs.ClientNames.{Awaited, Call, Held}
use Rattle.world_history.specs.ServerNames.{File}
use Rattle.world_history.specs.declared.messages.Body.{Body}
use Rattle.world_history.specs.declared.messages.Body.TheVariants.{Command as OfCommand, Reply as OfReply, Envelope as OfEnvelope}
use Rattle.world_history.specs.declared.messages.Message.{Message}
use Rattle.world_history.specs.declared.messages.Posted.{Posted}
use Rattle.world_history.specs.declared.messages.Sent.{Sent}
use Rattle.world_history.specs.Drives.{command_in}
use Rattle.world_history.specs.Laws.{shown}
use Rattle.world_history.specs.Reading.{sent_in}
use Rattle.world_history.specs.Spelled.{spelled, party_of}
use Rattle.world_history.specs.State.{World, DriveAt, ClientAt, at_number}
use Rattle.history_law.specs.BookMoments.{IsMoment}
use Rattle.history_law.proofs.Carried.{fits_read, none_read}
use Rattle.history_law.proofs.Coming.{IsFair as IsFairTo, lines_fair, none_fair}
use Rattle.history_law.proofs.DriveEvents.{IsRead}
use Rattle.history_law.proofs.DriveLines.{sent_read, shown_get}
use Rattle.history_law.proofs.IssuedLaw.{answered}
use Rattle.history_law.proofs.IssueLines.{Carries, IsKnown, all_known}
use Rattle.history_law.proofs.Messages.{SentCarries, AllCarry, all_carry}
use Rattle.history_law.proofs.HolderLaw.{given_holder, given_named}
use Rattle.history_law.proofs.Holding.{Holds, holds}
use Rattle.history_law.proofs.Named.{AllNamed, lines_named, messages_named}
use Rattle.history_law.proofs.Numbers.{to_drive}
use Rattle.exchange_law.specs.Counters.{ServerIsCounted}
use Rattle.exchange_law.specs.Doing.{said}
use Rattle.exchange_law.specs.Files.{KeptFits, AllFilesFit}
use Rattle.exchange_law.specs.InStep.{state_of}
use Rattle.exchange_law.specs.Sent.{HasSent}
use Rattle.exchange_law.proofs.Commands.{MaySend}
use Rattle.exchange_law.proofs.CountGrowing.{as_many}
use Rattle.exchange_law.proofs.CountMoments.{at_moment}
use Rattle.exchange_law.proofs.Fine.{ClientFine}
use Rattle.exchange_law.proofs.Knowing.{lawful_at}
use Rattle.exchange_law.proofs.LaneMoves.{IsOf}
use Rattle.exchange_law.proofs.LatestLaw.{AllFine}
use Rattle.exchange_law.proofs.Parts.{each_in}
use Rattle.exchange_law.proofs.PlaceReading.{placed_read}
use Rattle.exchange_law.proofs.PlaceWorlds.{PostPlaced}
use Rattle.exchange_law.proofs.RefusalClients.{Known}
use Rattle.exchange_law.proofs.Replied.{read_at}
use Rattle.exchange_law.proofs.Sources.{below}
use Rattle.exchange_law.proofs.TakenLaw.{not_none}
use Rattle.cause_law.specs.Readable.{AnswersAreFit, PlacesAreEnough}
use Rattle.cause_law.proofs.Objects.{placed_there}
use Rattle.component_law.specs.Sent.{IsSentByRun}
use Rattle.component_law.specs.Tagged.{sent_over, NoCommandIsAhead}
use Rattle.fence_law.specs.State.{State}
use Rattle.fence_law.proofs.Safe.{Safe}
use Rattle.file_simulation.specs.Claim.{IsOfScenario}
use Rattle.file_simulation.specs.Messages.{HasCommanded}
use Rattle.file_simulation.specs.Relation.{IsRelated}
use Rattle.relation_law.specs.ComponentsFollow.{WritesHavePlaces}
use Rattle.relation_law.specs.DriveHearing.{IsPerformed, IsOfClient, IsOfServer, IsOfSender, IsLaidOut, AwaitsUnder, AreShownRight, AreOfSenders}
use Rattle.relation_law.proofs.ComponentsReading.{HasRoom, read_as}
use Rattle.relation_law.proofs.ComponentsWorld.{awaits_same}
use Rattle.relation_law.proofs.DriveShows.{shows_right}

-- ---- messages

-- a message by its parties
pub same_message : (b : Message) (from to : Node) → b.from ≡ from → b.to ≡ to → b ≡ record { from = from; to = to; body = b.body }
same_message b from to e f =
    ap (λ (n : Node). record { from = n; to = b.to; body = b.body }) e
    ∙ ap (λ (n : Node). record { from = from; to = n; body = b.body }) f

record IsAt (ps : List Posted) (b : Message) : Type 0 where
  number : ℕ
  posted : Posted
  there : slice_get ps number ≡ Some posted
  is : posted.message ≡ b

said_at : (ps : List Posted) (b : Message) → In b (said ps) → IsAt ps b
said_at [] b i = absurd i
said_at (p ∷ ps) b (inl e) = record { number = 0; posted = p; there = refl; is = sym e }
said_at (p ∷ ps) b (inr i) =
    let r = said_at ps b i in record { number = suc r.number; posted = r.posted; there = r.there; is = r.is }

-- ---- the server

-- what it sent is under its own holder
owned_over : (s : Server) (acts : List Act) → AreOwned s.files → (d : ℕ) (y : Command) → In (ToDrive d y) (sent_over s acts) →
    y.capability.holder ≡ SERVER_HOLDER
unfolding sent_over
owned_over s [] own d y i = absurd i
owned_over s (a ∷ acts) own d y i =
    elim (in_either (ToDrive d y) (step s a.chosen a.input).sends (sent_over (step s a.chosen a.input).state acts) i) [
      | inl now ↦ (step_owns s a.chosen a.input).sends own d y now
      | inr later ↦ owned_over (step s a.chosen a.input).state acts ((step_owns s a.chosen a.input).waits own) d y later
    ]

-- a client's message to a drive is a placed command
pub record IsPlacedBy (d : ℕ) (body : Body) : Type 0 where
  pub command : Command
  pub is : body ≡ OfCommand command
  pub may : MaySend d command

pub placed_by : (c d : ℕ) (body : Body) → PostPlaced (node.Client c) (node.Drive d) body → IsPlacedBy d body
placed_by c d (OfCommand y) k = record { command = y; is = refl; may = k }
placed_by c d (OfReply r) k = absurd k
placed_by c d (OfEnvelope e) k = absurd k

-- what a call awaits is of the grant that it holds
pub of_call : (S : Command → Type 0) (hs : List Held) (o : Option Call) (call : Call) (n : Held) (y : Awaited) → o ≡ Some call →
    held_of hs (file_of call.op) ≡ Some n → In y (awaited_in call.phase) → ClientFine S hs o → IsOf n y
of_call S hs None call n y e held i z = absurd (cc e)
of_call S hs (Some q) call n y e held i z =
    let same : q ≡ call = cc e in
    z.call.of n (ap (λ (r : Call). held_of hs (file_of r.op)) same ∙ held) y
    (subst (λ (r : Call). In y (awaited_in r.phase)) (sym same) i)

-- what is known of histories
pub record SenderLaws : Type 0 where
  pub ahead : NoCommandIsAhead
  pub counted : ServerIsCounted
  pub fits : AllFilesFit
  pub answers : AnswersAreFit
  pub places : PlacesAreEnough

module _ (laws : SenderLaws) (w : World) (h : List Line) (k : IsMoment w h) (scenario : IsOfScenario h)
    (run : IsSentByRun w) where
  known : IsKnown w h
  known = at_moment IsKnown all_known w h k

  read : IsRead w h
  read = read_at w h k

  carry : AllCarry (sent_in h)
  carry = all_carry h known.lines

  named : AllNamed (sent_in h)
  named = messages_named h (lines_named h (lawful_at w h k))

  -- a message as the lines show it
  shown_there : (b : Message) → (i : In b (said w.network.messages)) →
      slice_get (sent_in h) (said_at w.network.messages b i).number ≡ Some (shown (said_at w.network.messages b i).posted)
  shown_there b i =
      let r = said_at w.network.messages b i in
      ap (λ (ss : List Sent). slice_get ss r.number) (sent_read w read.injected h read.drives)
      ∙ shown_get w.network.messages r.number (Some r.posted) r.there

  -- no drive sends one to a drive
  pub drive_sent : (b : Message) (d e : ℕ) → In b (said w.network.messages) → b.from ≡ node.Drive e → b.to ≡ node.Drive d → ⊥
  drive_sent b d e i from to =
      let r = said_at w.network.messages b i in
      let fair = lines_fair [] h none_fair read.lines r.number (shown r.posted) (shown_there b i) in
      subst (λ (p : Party). IsFairTo (party.Drive e) p) (ap party_of (ap (λ (y : Message). y.to) r.is ∙ to))
      (subst (λ (p : Party). IsFairTo p (party_of r.posted.message.to)) (ap party_of (ap (λ (y : Message). y.from) r.is ∙ from))
      fair)

  -- ---- the server's

  pub server_room : (d : ℕ) (y : Command) → HasCommanded w d y → WritesHavePlaces w → y.nonce < w.server.next_nonce → HasRoom y
  server_room d y has places nonce =
      let all = (laws.ahead run.acts run.named).1 run.acts [] (sym (append-nil run.acts)) in
      let mine = all.1 d y (run.sends d y has) in
      let counts = laws.counted w h k scenario.text in
      let many = as_many w h read in
      let next : w.server.next_object ≡ (state_after (new_server []) run.acts).next_object =
      ap (λ (s : Server). s.next_object) run.server in
      let inside : In mine.file w.server.files =
      subst (λ (s : Server). In mine.file s.files) (sym run.server)
      (file_in (state_after (new_server []) run.acts).files _ mine.file mine.there) in
      let fit : KeptFits w.server.next_object mine.file.kept =
      each_in (λ (y : File). KeptFits w.server.next_object y.kept) w.server.files mine.file
      (laws.fits w h k scenario.text) inside in
      let holder = owned_over (new_server []) run.acts (λ b j. absurd j.1) d y (run.sends d y has) in
      record {
        object = omega (arith, mine.used, next, counts.objects, many, scenario.few);
        nonce = omega (arith, nonce, counts.nonces, many, scenario.few);
        offset = λ write. places d y has write;
        tag = omega (arith, mine.behind.0, fit.tag);
        holder = omega (arith, holder);
      }

  pub server_sent : WritesHavePlaces w → (b : Message) (d : ℕ) (x : Command) → In b (said w.network.messages) →
      b.from ≡ node.Server → b.to ≡ node.Drive d → command_in b.body ≡ Ok x → IsOfServer w d x
  server_sent places b d x i from to reads =
      let numbers = (at_moment Holds holds w h k).numbers in
      let there : In (to_drive d b.body) (said w.network.messages) =
      subst (λ (y : Message). In y (said w.network.messages)) (same_message b node.Server (node.Drive d) from to) i in
      let n = numbers.sent d b.body there in
      let has : HasCommanded w d n.0 =
      subst (λ (y : Body). In (to_drive d y) (said w.network.messages)) n.1 there in
      let e : reading (spelling n.0) ≡ Ok x = ap command_in (sym n.1) ∙ reads in
      let as_ = read_as n.0 x (server_room d n.0 has places n.2) e in
      record {
        command = n.0;
        sent = has;
        reads = as_;
        holder = as_.holder ∙ owned_over (new_server []) run.acts (λ b j. absurd j.1) d n.0 (run.sends d n.0 has);
      }

  -- ---- a client's

  -- the capability names the client
  pub holder_is : (b : Message) (d c : ℕ) (x : Command) → In b (said w.network.messages) → b.from ≡ node.Client c →
      b.to ≡ node.Drive d → command_in b.body ≡ Ok x → (x.capability ≡ no_capability → ⊥) →
      (c < CLIENTS) × (x.capability.holder ≡ c)
  holder_is b d c x i from to reads some =
      let r = said_at w.network.messages b i in
      let its : Carries (sent_in h) c d (spelled r.posted.message.body) =
      subst (λ (p : Party). SentCarries (sent_in h) (party.Client c) p (spelled r.posted.message.body))
      (ap party_of (ap (λ (y : Message). y.to) r.is ∙ to))
      (subst (λ (p : Party). SentCarries (sent_in h) p (party_of r.posted.message.to) (spelled r.posted.message.body))
      (ap party_of (ap (λ (y : Message). y.from) r.is ∙ from)) (carry r.number (shown r.posted) (shown_there b i))) in
      let e : reading (spelling its.0) ≡ Ok x =
      ap reading (sym its.1) ∙ ap (λ (y : Message). command_in y.body) r.is ∙ reads in
      elim its.2 [
        | inl u ↦
            let client = given_named (sent_in h) c u.0 named u.1 in
            (below c client, given_holder (sent_in h) c d u.0 u.1 (answered (sent_in h) c u.0 carry u.1) its.0 x u.2 client e)
        | inr none ↦ absurd (some (none_read its.0 x none e))
      ]

  pub client_sent : (b : Message) (d c : ℕ) (a : DriveAt) (x : Command) → In b (said w.network.messages) →
      b.from ≡ node.Client c → b.to ≡ node.Drive d → command_in b.body ≡ Ok x → IsPerformed w d a x → IsOfClient w d c x
  client_sent b d c a x i from to reads p =
      let fit = laws.answers h (lawful_at w h k) scenario.text scenario.few in
      let placed : PostPlaced (node.Client c) (node.Drive d) b.body =
      subst (λ (n : Node). PostPlaced (node.Client c) n b.body) to
      (subst (λ (n : Node). PostPlaced n b.to b.body) from (placed_there w h k fit b i)) in
      let q = placed_by c d b.body placed in
      let has : HasSent w c d q.command =
      subst (λ (y : Body). In (record { from = node.Client c; to = node.Drive d; body = y }) (said w.network.messages)) q.is
      (subst (λ (y : Message). In y (said w.network.messages)) (same_message b (node.Client c) (node.Drive d) from to) i) in
      let e : reading (spelling q.command) ≡ Ok x = ap command_in (sym q.is) ∙ reads in
      let room =
      (laws.places h (lawful_at w h k) scenario.text scenario.few w h [] (sym (append-nil h)) k).sent c d q.command has in
      let holder =
      holder_is b d c x i from to reads (not_none x ((all_told a.state a.clock x).0 p.clear).1.1.1.1.0) in
      record {
        command = q.command;
        sent = has;
        reads = read_as q.command x (record {
          object = room.object;
          nonce = room.nonce;
          offset = λ write. q.may.offset;
          tag = q.may.capability.tag;
          holder = q.may.capability.holder;
        }) e;
        capability = fits_read q.command x q.may.capability e;
        below = holder.0;
        holder = holder.1;
        action = (placed_read d q.command x q.may e).action;
      }

  -- ---- a READ

  module _ (clients : Known) (fine : AllFine w) (s : State) (f : File) (related : IsRelated s w f) (safe : Safe s)
      (laid : IsLaidOut f) where
    of_by : (c : ℕ) (o : Option ClientAt) → at_number w.clients c ≡ o → (call : Call) (n : Held) →
        (state_of c o).call ≡ Some call → held_of (state_of c o).held (file_of call.op) ≡ Some n → (y : Awaited) →
        In y (awaited_in call.phase) → y.command.capability ≡ (credential_of n y.ask.component).capability
    of_by c None gone call n is held y i = absurd (cc is)
    of_by c (Some a) there call n is held y i =
        (of_call _ a.state.held a.state.call call n y is held i (fine c a there)).capability

    awaits_under : (c d : ℕ) (x : Command) → IsOfClient w d c x → AwaitsUnder w c x
    awaits_under c d x of = record {
      same = λ call is y i nonce.
          ap (λ (z : Command). z.capability)
          (awaits_same clients w h k scenario.few c d of.command of.sent call is y i (nonce ∙ of.reads.nonce))
          ∙ sym of.capability;
      of = λ call n is held y i. of_by c (at_number w.clients c) refl call n is held y i;
    }

    shown_right : (d c : ℕ) (a : DriveAt) (x : Command) → IsPerformed w d a x → IsOfClient w d c x →
        AreShownRight s w f d x (node.Client c)
    shown_right d c a x p of i at found present drive object reads =
        shows_right s w f c _ safe (related.clients c of.below).client d a x (awaits_under c d x of) p reads i at drive object
        (omega (
          arith,
          slice_get_within f.kept.components i at found,
          laid.components,
          ap (λ (y : _). y.components) related.layout,
        )) (related.components i at found).stands

    pub are_of_senders : WritesHavePlaces w → AreOfSenders s w f
    are_of_senders places b d a x i to reads p = by b.from refl
      where
        by : (from : Node) → b.from ≡ from → IsOfSender w d x from × AreShownRight s w f d x from
        by (node.Client c) from =
            let of = client_sent b d c a x i from to reads p in (of, shown_right d c a x p of)
        by node.Server from = (server_sent places b d x i from to reads, tt)
        by (node.Drive e) from = absurd (drive_sent b d e i from to)
