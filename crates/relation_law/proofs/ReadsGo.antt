-- What the reads of clients were shown goes on: of each client but the one that the move is of.
-- Towards `ReadsGoOn` (`specs/Steps.antt`).
use Rattle.std.proofs.Common.{◌≡◌, ℕ, List, Option, Some, None, refl, sym, ap, ◌∙◌, arith}
use Rattle.server_rules.specs.History.{Input}
use Rattle.client_rules.specs.Calls.{file_of}
use Rattle.scenario_text.specs.declared.line.Line.{Line}
use Rattle.world_history.specs.ClientNames.{Call}
use Rattle.world_history.specs.ServerNames.{File}
use Rattle.world_history.specs.State.{World}
use Rattle.world_history.specs.Sending.{Move, move}
use Rattle.world_history.specs.Plans.{due}
use Rattle.history_law.specs.Doing.{input_in}
use Rattle.history_law.specs.BookMoments.{IsMoment, plan_at}
use Rattle.fence_law.specs.State.{State, Event}
use Rattle.fence_law.specs.State.Call.{Idle, Reads as AtRead}
use Rattle.fence_law.specs.State.Event.{Grants, Refuses, ServesOther, Frees, Fences, Fenced, Refenced, Fails, Drops, Declares, Loses, Leaves, Acknowledges, Commits, RefusesCommit, Repaired, Rebuilds}
use Rattle.fence_law.specs.Machine.{after, after_all}
use Rattle.fence_law.proofs.Words.{updated_read}
use Rattle.file_simulation.specs.ClientEvents.{Going, going_in}
use Rattle.file_simulation.specs.Components.{AreComponents}
use Rattle.file_simulation.specs.Events.{joined, events_of}
use Rattle.file_simulation.specs.Messages.{ShownIn}
use Rattle.file_simulation.specs.Relation.{client_of}
use Rattle.relation_law.specs.Frames.{IsOfClient, IsOfServer, IsOfDrive, AreAll}
use Rattle.relation_law.specs.ReadsDrive.{AwaitWell}
use Rattle.relation_law.proofs.FramesStay.{all_joined, related_by_all}
use Rattle.relation_law.proofs.FramesOthers.{client_by_clients, client_by_drives}
use Rattle.file_simulation.specs.ServerEvents.{asker}
use Rattle.relation_law.proofs.FramesParties.{by_client_lines, by_server_lines, by_drive_lines, client_goes, clients_rest, client_beside}
use Rattle.relation_law.proofs.ReadsBeside.{shown_beside}

-- ---- the machine's clients

-- a client that reads an entry read it before
abbrev pub ReadBefore : (c : ℕ) → (s : State) → (t : State) → Type 0
ReadBefore c s t = (j : ℕ) → t.call c ≡ AtRead j → s.call c ≡ AtRead j

acknowledged_none : (s : State) (c d j i : ℕ) → (after s (Acknowledges d i)).call c ≡ AtRead j → s.call c ≡ AtRead j
acknowledged_none s c d j i e = grind (arith, updated_read s.call d Idle c, e)

one_before : (c : ℕ) (o : Option ℕ) (s : State) (e : Event) → IsOfServer o e → ReadBefore c s (after s e)
one_before c o s (Acknowledges d i) is = λ j e. acknowledged_none s c d j i e
one_before c o s (Grants d number rw range extending) is = λ j e. e
one_before c o s (Refuses d kind) is = λ j e. e
one_before c o s (ServesOther d) is = λ j e. e
one_before c o s (Frees d) is = λ j e. e
one_before c o s Fences is = λ j e. e
one_before c o s Fenced is = λ j e. e
one_before c o s Refenced is = λ j e. e
one_before c o s (Fails k) is = λ j e. e
one_before c o s (Drops k) is = λ j e. e
one_before c o s (Declares k) is = λ j e. e
one_before c o s (Loses d k) is = λ j e. e
one_before c o s (Leaves d g) is = λ j e. e
one_before c o s (Commits d j g) is = λ i e. e
one_before c o s (RefusesCommit d j) is = λ i e. e
one_before c o s (Repaired done d) is = λ j e. e
one_before c o s (Rebuilds k cells) is = λ j e. e
one_before c o s e is = absurd is

by_server : (c : ℕ) (o : Option ℕ) (s : State) (es : List Event) → AreAll (IsOfServer o) es → ReadBefore c s (after_all s es)
by_server c o =
    related_by_all (IsOfServer o) (ReadBefore c) (λ s j e. e) (λ s t u x y j e. x j (y j e)) (one_before c o)

-- ---- each move

module _ (w : World) (h : List Line) (k : IsMoment w h) (m : Move) (is_due : due (plan_at k) w ≡ Some m.action) (f : File)
    (s : State) (e : ℕ → ℕ) (well : AwaitWell s w f) (is : AreComponents s w f) where
  -- what a client's reads were shown, where the client rests
  unfoldable pub ShownBehind : (c : ℕ) → Type 0
  ShownBehind c =
      ((call : Call) (j : ℕ) → (client_of w c).call ≡ Some call → file_of call.op ≡ f.kept.number → s.call c ≡ AtRead j →
      ShownIn s w c j call.phase) → (call : Call) (j : ℕ) → (client_of (move w m).world c).call ≡ Some call →
      file_of call.op ≡ f.kept.number → (after_all s (joined (events_of s w e f m))).call c ≡ AtRead j →
      ShownIn (after_all s (joined (events_of s w e f m))) (move w m).world c j call.phase

  rests : (c : ℕ) → client_of (move w m).world c ≡ client_of w c → ReadBefore c s (after_all s (joined (events_of s w e f m))) →
      ShownBehind c
  unfolding ShownBehind
  rests c same before shown call j at here runs =
      let at_before : (client_of w c).call ≡ Some call = ap (λ x. x.call) (sym same) ∙ at in
      let runs_before = before j runs in
      shown_beside s w e f m well is c j runs_before call at_before here (shown call j at_before here runs_before)

  -- of each client but the one that goes on
  beside : (o : Option Going) → going_in w m.action ≡ o → (c : ℕ) → ((g : Going) → o ≡ Some g → c ≡ g.client → ⊥) → ShownBehind c
  beside (Some g) going c other =
      let by = client_goes w h k m is_due g going in
      rests c (client_beside w m g by c (other g refl))
      (λ j runs. sym (client_by_clients c g.client (other g refl) s (joined (events_of s w e f m))
      (all_joined (IsOfClient g.client) (events_of s w e f m) (by_client_lines s w e f m g going))).call ∙ runs)
  beside None going c other = by_input (input_in w m.action) refl
    where
      by_input : (i : Option Input) → input_in w m.action ≡ i → ShownBehind c
      by_input (Some i) comes =
          rests c (clients_rest w h k m is_due going c)
          (by_server c (asker i) s (joined (events_of s w e f m))
          (all_joined (IsOfServer (asker i)) (events_of s w e f m) (by_server_lines s w e f m i comes)))
      by_input None comes =
          rests c (clients_rest w h k m is_due going c)
          (λ j runs. sym (client_by_drives c s (joined (events_of s w e f m))
          (all_joined IsOfDrive (events_of s w e f m) (by_drive_lines s w e f m going comes))).call ∙ runs)

  pub shown_of_others : (c : ℕ) → ((g : Going) → going_in w m.action ≡ Some g → c ≡ g.client → ⊥) → ShownBehind c
  shown_of_others c other = beside (going_in w m.action) refl c other
