-- No rebuild aims at an object to which a client sent something, at each moment.
-- Towards `SentGoesOn` (`relation_law/specs/Steps.antt`).
use Rattle.std.proofs.Common.{◌≡◌, ◌⊎◌, ◌<◌, ◌++◌, ℕ, List, [], Option, Some, None, length, nat_eq, bit_and, refl, sym, ap, subst, ◌∙◌, inl, inr}
use Rattle.std.proofs.lemmas.List.{append-nil}
use Rattle.osd_commands.specs.declared.commands.Command.{Command}
use Rattle.osd_commands.specs.Actions.{right_of}
use Rattle.scenario_text.specs.declared.line.Line.{Line}
use Rattle.scenario_text.specs.declared.names.TheConstants.{CLIENTS}
use Rattle.client_rules.specs.Calls.{file_of}
use Rattle.client_rules.specs.History.{step as client_step}
use Rattle.client_rules.specs.Messages.{awaited_of}
use Rattle.server_rules.specs.Files.{file_at}
use Rattle.server_rules.specs.History.{Input, step}
use Rattle.server_rules.specs.Laws.{In}
use Rattle.server_rules.proofs.Members.{in_either}
use Rattle.world_history.specs.ClientNames.{Awaited, Call, Client, ToDrive}
use Rattle.world_history.specs.ServerNames.{Server, File}
use Rattle.world_history.specs.declared.messages.Message.{Message}
use Rattle.world_history.specs.State.{World, ClientAt, at_number}
use Rattle.world_history.specs.Moves.{acts}
use Rattle.world_history.specs.Plans.{due}
use Rattle.world_history.specs.Handed.{Post, client_posts}
use Rattle.world_history.specs.Sending.{Move, move}
use Rattle.history_law.specs.Moments.{IsMoment, lines_in, plan_at}
use Rattle.history_law.specs.Doing.{input_in}
use Rattle.history_law.specs.Said.{said, posted}
use Rattle.history_law.proofs.IssuedLaw.{nothing_allowed}
use Rattle.component_law.specs.Objects.{AreOwned}
use Rattle.component_law.proofs.Moments.{allowed_at}
use Rattle.component_law.proofs.ObjectRuns.{each_object_is_owned}
use Rattle.exchange_law.specs.Sent.{HasSent, IsBacked, message_of}
use Rattle.exchange_law.proofs.Commands.{MaySend}
use Rattle.exchange_law.proofs.CountGrowing.{fewer}
use Rattle.exchange_law.proofs.CountMoments.{reached}
use Rattle.exchange_law.proofs.HeldWorlds.{next_moment}
use Rattle.exchange_law.proofs.Knowing.{lawful_at}
use Rattle.exchange_law.proofs.RefusalSending.{command_posted}
use Rattle.exchange_law.proofs.SlotMoments.{always}
use Rattle.exchange_law.proofs.Turns.{messages_behind}
use Rattle.cause_law.proofs.Moments.{Stands}
use Rattle.cause_law.proofs.Objects.{placed_there}
use Rattle.file_simulation.specs.Claim.{IsOfScenario}
use Rattle.file_simulation.specs.ClientEvents.{Going, going_in}
use Rattle.file_simulation.specs.Relation.{client_of}
use Rattle.file_simulation.proofs.Fronts.{scenario_before}
use Rattle.relation_law.specs.Frames.{ByClient}
use Rattle.relation_law.specs.Working.{ClientWorks}
use Rattle.relation_law.proofs.ComponentsAbove.{addressed}
use Rattle.relation_law.proofs.ComponentsMoved.{MovedLaws}
use Rattle.relation_law.proofs.ComponentsWorld.{awaited_are_sent, ran}
use Rattle.relation_law.proofs.FramesFiles.{file_stays, files_distinct}
use Rattle.relation_law.proofs.FramesParties as parties
use Rattle.relation_law.proofs.KeptCommits.{client_low}
use Rattle.headline_law.proofs.SentAwaited.{sends_awaited}
use Rattle.headline_law.proofs.SentHeld.{its, works_at, was_held, names, held_for}
use Rattle.headline_law.proofs.SentNone.{none_new}
use Rattle.headline_law.proofs.SentUnaimed.{IsUnaimed, step_unaimed, component_unaimed}

-- no rebuild aims at what a client sent something to
abbrev pub AreUnaimed : World → Type 0
AreUnaimed w = (c d : ℕ) (x : Command) → HasSent w c d x → IsBacked x → IsUnaimed x.object w.server

module _ (laws : MovedLaws) where
  -- what a client sent is backed
  pub is_backed : (w : World) (h : List Line) → IsMoment w h → IsOfScenario h → (c d : ℕ) (x : Command) → HasSent w c d x →
      IsBacked x
  is_backed w h k t c d x i none =
      let fit = laws.answers h (lawful_at w h k) t.text t.few in
      let may : MaySend d x = placed_there w h k fit (message_of c d x) i in
      cc (sym (ap (λ q. nat_eq (bit_and q.rights (right_of x.action)) 0) none ∙ nothing_allowed x.action) ∙ may.placed.right)

  module _ (w : World) (h : List Line) (k : IsMoment w h) (m : Move) (is_due : due (plan_at k) w ≡ Some m.action)
      (t : IsOfScenario (h ++ lines_in w m)) (before : AreUnaimed w) where
    next : IsMoment (move w m).world (h ++ lines_in w m)
    next = next_moment w h k m is_due

    abbrev there : Stands (move w m).world
    there = its laws.held laws.fresh (move w m).world (h ++ lines_in w m) next t

    abbrev owner : ℕ → ℕ
    owner = (each_object_is_owned there.run).0

    -- ---- the server

    module _ (i : Input) (is : input_in w m.action ≡ Some i) where
      behind : (move w m).world.server ≡ (step w.server m.chosen i).state
      behind = parties.server_steps w m i is

      owned : AreOwned owner (step w.server m.chosen i).state
      owned =
          subst (AreOwned owner) (sym there.is ∙ behind)
          ((each_object_is_owned there.run).1 there.run [] (sym (append-nil there.run)))

      many : (n : ℕ) (f g : File) → file_at w.server.files n ≡ Some f →
          file_at (step w.server m.chosen i).state.files n ≡ Some g → length g.kept.components ≡ length f.kept.components
      many n f g found goes =
          (file_stays w h k m is_due n f g found (ap (λ (s : Server). file_at s.files n) behind ∙ goes)).components

      served : (o : ℕ) → IsUnaimed o w.server → IsUnaimed o (move w m).world.server
      served o u =
          subst (IsUnaimed o) (sym behind)
          (step_unaimed w.server m.chosen i (files_distinct w (reached w h k)) owner owned many o u)

    stays : (q : Option Input) → input_in w m.action ≡ q → (o : ℕ) → IsUnaimed o w.server →
        IsUnaimed o (move w m).world.server
    stays None is o u = subst (IsUnaimed o) (sym (parties.server_rests w m is)) u
    stays (Some i) is o u = served i is o u

    -- ---- where no client goes on

    module _ (none : going_in w m.action ≡ None) where
      low : (c d : ℕ) (x : Command) → HasSent (move w m).world c d x → c < CLIENTS
      low c d x has = by (at_number (move w m).world.clients c) refl
        where
          by : (o : Option ClientAt) → at_number (move w m).world.clients c ≡ o → c < CLIENTS
          by None gone =
              absurd ((ran laws.known (move w m).world (h ++ lines_in w m) next t.few).absent c gone (message_of c d x) has refl)
          by (Some a) found = client_low (move w m).world (h ++ lines_in w m) next t.text c a found

      rests : AreUnaimed (move w m).world
      rests c d x has backed =
          let old : HasSent w c d x =
          none_new w m (allowed_at w h k m.action is_due) none
          (awaited_are_sent laws.known w h k (fewer h (lines_in w m) t.few)) c d x (low c d x has) has in
          stays (input_in w m.action) refl x.object (before c d x old backed)

    -- ---- where a client goes on

    module _ (j : Going) (goes : going_in w m.action ≡ Some j) where
      mine : ByClient w m.action j (acts w m.chosen m.action)
      mine = parties.client_goes w h k m is_due j goes

      -- what is sent is sent before, or in the step
      sent_either : (d e : ℕ) (y : Command) → HasSent (move w m).world d e y →
          HasSent w d e y ⊎ ((d ≡ j.client) × In (ToDrive e y) (client_step j.state j.input).sends)
      sent_either d e y i =
          elim (in_either (message_of d e y) (said w.network.messages) (posted (acts w m.chosen m.action).posts)
          (subst (In (message_of d e y)) (messages_behind w m) i)) [
            | inl old ↦ inl old
            | inr new ↦
                let r = command_posted (message_of d e y) j.client mine.wrote mine.logged (client_step j.state j.input).sends
                (addressed (message_of d e y)
                (client_posts j.client mine.wrote mine.logged (client_step j.state j.input).sends)
                (subst (λ (ps : List Post). In (message_of d e y) (posted ps)) mine.posts new)) y refl in
                inr (
                  cc (ap (λ (q : Message). q.from) r.2),
                  subst (λ (n : ℕ). In (ToDrive n y) (client_step j.state j.input).sends)
                      (cc (sym (ap (λ (q : Message). q.to) r.2))) r.1,
                )
          ]

      client_is : client_of (move w m).world j.client ≡ (client_step j.state j.input).client
      client_is = parties.client_behind w m j mine

      works : ClientWorks j.state
      works =
          subst ClientWorks (parties.client_before w m.action j (acts w m.chosen m.action) mine)
          (works_at laws.held laws.fresh w h k (scenario_before h (lines_in w m) t) j.client (at_number w.clients j.client) refl)

      -- what its call awaits behind the move
      held_unaimed : (call : Call) → (client_of (move w m).world j.client).call ≡ Some call → (a : Awaited) →
          In a (awaited_of (Some call)) → IsBacked a.command → IsUnaimed a.command.object (move w m).world.server
      held_unaimed call is a i backed =
          let n = held_for laws.held laws.fresh (move w m).world (h ++ lines_in w m) next t j.client call is a i in
          let x =
          was_held laws.held laws.fresh (move w m).world (h ++ lines_in w m) next t j.client call is a i backed in
          let p = x.lists a.ask.component a.command.object
          (names laws.held laws.fresh (move w m).world (h ++ lines_in w m) next t j.client call is a i backed) in
          subst (λ (o : ℕ). IsUnaimed o (move w m).world.server) p.object
          (subst (IsUnaimed p.at.object) (sym there.is)
          (component_unaimed there.run owner (each_object_is_owned there.run).1 x.there.before x.there.after x.there.run
          (file_of call.op) x.file x.there.found
          a.ask.component p.at p.found))

      call_unaimed : (o : Option Call) → (client_of (move w m).world j.client).call ≡ o → (a : Awaited) →
          In a (awaited_of o) → IsBacked a.command → IsUnaimed a.command.object (move w m).world.server
      call_unaimed None is a i backed = absurd i
      call_unaimed (Some call) is a i backed = held_unaimed call is a i backed

      steps : AreUnaimed (move w m).world
      steps c d x has backed = elim (sent_either c d x has) [
        | inl old ↦ stays (input_in w m.action) refl x.object (before c d x old backed)
        | inr now ↦
            let r = sends_awaited j.state j.input works d x now.1 in
            subst (λ (y : Command). IsUnaimed y.object (move w m).world.server) r.2
            (call_unaimed (client_step j.state j.input).client.call (ap (λ (y : Client). y.call) client_is) r.0 r.1
            (subst IsBacked (sym r.2) backed))
      ]

    move_unaimed : AreUnaimed (move w m).world
    move_unaimed = by (going_in w m.action) refl
      where
        by : (o : Option Going) → going_in w m.action ≡ o → AreUnaimed (move w m).world
        by None none = rests none
        by (Some j) goes = steps j goes

  abbrev Stand : World → List Line → Type 0
  Stand w h = IsOfScenario h → AreUnaimed w

  pub are_unaimed : (w : World) (h : List Line) → IsMoment w h → IsOfScenario h → AreUnaimed w
  are_unaimed w h k t =
      always Stand (record {
        starts = λ t c d x has. absurd has;
        moves = λ u g j m d p s. move_unaimed u g j m d s (p (scenario_before g (lines_in u m) s));
      }) laws.held.right.world.more w h k t
