-- A client with a conflicting grant gives it back as it is recalled.
use Rattle.std.proofs.Common.{◌≡◌, ◌≢◌, ℕ, false, List, [], ◌∷◌, filter, Some, refl, ap, ◌∙◌, arith}
use Rattle.std.specs.List.{list_any}
use Rattle.osd_lists.specs.declared.node.Node.TheVariants as node
use Rattle.layout_ops.specs.declared.statuses.TheConstants.{NFS4_OK}
use Rattle.layout_ops.specs.Spelling.{RecallFits}
use Rattle.scenario_text.specs.declared.line.Line.{Line}
use Rattle.server_rules.specs.Answers.{recall_of, recalls_from}
use Rattle.server_rules.specs.Laws.{In}
use Rattle.server_rules.specs.Slots.{admit, slot_of}
use Rattle.server_rules.proofs.FileLaws.{number_at, file_in}
use Rattle.server_rules.proofs.Members.{one_in}
use Rattle.client_rules.specs.Grants.{held_of, without_held}
use Rattle.client_rules.specs.History.{Hears, step}
use Rattle.client_rules.specs.Messages.{Recalls, Step as ClientStep, recall_answer}
use Rattle.world_history.specs.ClientNames.{Client, Request}
use Rattle.world_history.specs.ServerNames.{Server, File, Grant}
use Rattle.world_history.specs.declared.messages.Message.{Message}
use Rattle.world_history.specs.State.{World, at_number}
use Rattle.world_history.specs.Handed.{is_addressed, client_posts, pending_op}
use Rattle.world_history.specs.Moves.{acts}
use Rattle.world_history.specs.Sending.{Move, move}
use Rattle.history_law.specs.BookMoments.{lines_in}
use Rattle.exchange_law.specs.Doing.{posted}
use Rattle.exchange_law.specs.Files.{GrantFits, KeptFits}
use Rattle.exchange_law.specs.InStep.{IsInStep}
use Rattle.exchange_law.proofs.Answering.{recalls_good}
use Rattle.exchange_law.proofs.HeldWorlds.{reached}
use Rattle.ready_law.specs.Answered.{ends_call}
use Rattle.ready_law.specs.Ready.{Yields}
use Rattle.ready_law.proofs.Calls.{ReadyCall, scene_at, file_at_call, kept_at, opposed_at, IsIn, DeliversHead, request_message}
use Rattle.ready_law.proofs.Stages.{Serves, IsUntouched, IsReturning, IsRecallAnswer}
use Rattle.ready_law.proofs.ServingForms.{recall_message}
use Rattle.ready_law.proofs.AskingAsks.{in_step_there, has_number, new_idle, step_silent}
use Rattle.ready_law.proofs.AskingClients.{recall_read, idle_client, is_idle_client, its_return, recalled_step}
use Rattle.ready_law.proofs.AskingForms.{AskingLaws, Steps}
use Rattle.ready_law.proofs.AskingFrames.{IsKept, opposed_yields}
use Rattle.ready_law.proofs.AskingMoves.{delivered_steps}
use Rattle.exchange_law.proofs.ClientKeeping.{none_left}

-- The client of the grant answers the recall and sends the return, and no other party changes.
pub record GivesBack (s : ReadyCall) (w : World) (m : Move) (g : Grant) : Type 0 where
  pub answer : Message
  pub answers : IsRecallAnswer g.client answer
  pub request : Request
  pub returning : IsReturning s (move w m).world g request
  pub posts : posted (acts w m.chosen m.action).posts ≡ answer ∷ request_message request ∷ []
  pub others : (c : ℕ) → c ≢ g.client → IsKept w (move w m).world c
  pub server : (move w m).world.server ≡ w.server
  pub clock : (move w m).world.clock ≡ w.clock
  pub down : (move w m).world.down ≡ w.down
  pub drives : (move w m).world.drives ≡ w.drives
  pub silent : list_any (ends_call s.client) (lines_in w m) ≡ false

module _ (laws : AskingLaws) (s : ReadyCall) (w : World) (h : List Line) (k : IsIn s w h) (m : Move) (g : Grant)
    (i : In g (opposed_at s)) (grants : List Grant) (server : Serves s w grants (kept_at s).size) (live : In g grants)
    (untouched : IsUntouched s w g.client) (count : ℕ) (rest : List Message)
    (d : DeliversHead s w m (recall_message (recall_of g count)) rest) where
  abbrev y : Yields (scene_at s) (file_at_call s) g
  y = opposed_yields s g i

  there : at_number w.clients g.client ≡ Some y.client
  there = untouched ∙ y.there

  abbrev x : Client
  x = y.client.state

  -- ---- the numbers of its grant

  abbrev file_now : File
  file_now = record s.ready.file { kept = record (kept_at s) { grants = grants; high = server.high } }

  kept_fits : KeptFits w.server.next_object file_now.kept
  kept_fits =
      one_in (λ (f : File). KeptFits w.server.next_object f.kept) w.server.files file_now
      (laws.fit w h k.fair.moment k.fair.of_text) (file_in w.server.files (file_at_call s) file_now server.found)

  fits : GrantFits (kept_at s).number (kept_at s).map g
  fits = one_in (GrantFits (kept_at s).number (kept_at s).map) grants g kept_fits.grants live

  its_file : g.file ≡ file_at_call s
  its_file = fits.file_is ∙ number_at w.server.files (file_at_call s) file_now server.found

  recall_fits : RecallFits (recall_of g count)
  unfolding recalls_from
  recall_fits =
      (recalls_good 0 0 0 count (kept_at s).number (kept_at s).map (g ∷ []) kept_fits.number (fits, tt)).0

  -- ---- its step

  met : IsInStep w h g.client x
  met = in_step_there laws w h k.fair g.client y.client there

  some : x.next ≢ 0
  some = has_number laws w h k.fair g.client y.client there

  due : x.due ≡ []
  due = laws.rests w (reached w h k.fair.moment) g.client y.client there y.idle.free y.idle.answered some

  state : x ≡ idle_client g.client x.next x.held
  state =
      is_idle_client x y.idle.answered due y.idle.free ∙ ap (λ (n : ℕ). idle_client n x.next x.held) met.number

  holds : held_of x.held g.file ≡ Some y.held
  holds = ap (held_of x.held) its_file ∙ y.holds

  abbrev q : Request
  q = its_return g.client x.next g

  abbrev its_step : ClientStep
  its_step = step x (Hears node.Server (Recalls (recall_of g count)))

  steps : Steps w m g.client y.client (pending_op x) its_step
  steps =
      delivered_steps w m d.number g.client d.posted_as (recall_message (recall_of g count)) y.client
      (Recalls (recall_of g count)) d.action_is d.found d.message_is refl there y.idle.alive
      (recall_read (recall_of g count) recall_fits)

  pub gives_back : GivesBack s w m g
  gives_back =
      let is = ap (λ (z : Client). step z (Hears node.Server (Recalls (recall_of g count)))) state
      ∙ recalled_step g.client x.next x.held y.held g count refl some holds y.same (omega (arith, fits.number)) in
      let after = steps.state ∙ ap (λ (t : ClientStep). t.client) is in
      record {
        answer = _;
        answers = record { answer = recall_answer (recall_of g count) NFS4_OK; message_is = refl };
        request = q;
        returning = record {
          client_is = refl;
          file_is = its_file;
          args_are = refl;
          new =
              ap (λ (z : Server). admit (slot_of z.slots g.client) x.next) steps.server
              ∙ new_idle laws w h k.fair g.client y.client there y.idle.answered;
          at = steps.after;
          there = steps.there;
          free = ap (λ (z : Client). z.call) after;
          outstanding = ap (λ (z : Client). z.outstanding) after;
          due = ap (λ (z : Client). z.due) after;
          alive = steps.stopped ∙ y.idle.alive;
          released =
              ap (λ (z : Client). held_of z.held (file_at_call s)) after
              ∙ ap (λ (n : ℕ). held_of (without_held x.held n) (file_at_call s)) its_file
              ∙ none_left x.held (file_at_call s);
        };
        posts =
            ap posted steps.posts
            ∙ ap (λ (t : ClientStep). posted (filter is_addressed (client_posts g.client steps.wrote steps.logged t.sends))) is;
        others = λ c other. record {
          client = steps.others c other;
          slot = ap (λ (z : Server). slot_of z.slots c) steps.server;
        };
        server = steps.server;
        clock = steps.clock;
        down = steps.down;
        drives = steps.drives;
        silent = step_silent w m g.client y.client (pending_op x) its_step steps (ap (λ (t : ClientStep). t.outcome) is) s.client;
      }
