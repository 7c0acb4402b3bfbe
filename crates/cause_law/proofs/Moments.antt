-- At each moment what clients hold and what is kept for them is of files as they were in the server's run.
use Rattle.std.proofs.Common.{◌≡◌, ◌⊎◌, ℕ, ◌++◌, [], List, Some, Ok, refl, sym, ap, subst, ◌∙◌, inl, inr}
use Rattle.std.proofs.lemmas.Bool.{cases_eq}
use Rattle.layout_ops.specs.declared.results.LayoutGetOk.{LayoutGetOk}
use Rattle.layout_ops.specs.declared.results.LayoutGetResult.TheVariants as get
use Rattle.layout_ops.specs.declared.results.Results.TheVariants as results
use Rattle.layout_ops.specs.declared.messages.Answer.{Answer}
use Rattle.scenario_text.specs.declared.line.Line.{Line}
use Rattle.client_rules.specs.Commands.{credential_of}
use Rattle.client_rules.specs.Requests.{object_of}
use Rattle.client_rules.specs.Grants.{held_of}
use Rattle.client_rules.specs.History.{Input, step as client_step}
use Rattle.client_rules.specs.Layouts.{taken}
use Rattle.server_rules.specs.Files.{file_at}
use Rattle.server_rules.specs.History.{Act as ServerAct, state_after}
use Rattle.server_rules.specs.Making.{new_server}
use Rattle.world_history.specs.ClientNames.{Client, CallOp, Held}
use Rattle.world_history.specs.ServerNames.{Server, File}
use Rattle.world_history.specs.History.{OneEventMore}
use Rattle.world_history.specs.Plans.{due}
use Rattle.world_history.specs.Sending.{Move, move}
use Rattle.world_history.specs.State.{World, ClientAt, at_number, empty_world}
use Rattle.history_law.specs.BookMoments.{IsMoment, lines_in, plan_at}
use Rattle.exchange_law.specs.Doing.{IsHeardByClient}
use Rattle.exchange_law.specs.InStep.{client_of}
use Rattle.exchange_law.specs.Taking.{AnswersAreOwn}
use Rattle.exchange_law.proofs.ClientsWalk.{StepOf, OfNeither, OfServer, OfClient, step_of}
use Rattle.exchange_law.proofs.HeldHearing.{step_is_fine}
use Rattle.exchange_law.proofs.SlotMoments.{always}
use Rattle.exchange_law.specs.Meeting.{IsFitting, IsReadableThrough, ClientsAgree}
use Rattle.exchange_law.proofs.HeldMoving.{IsSame}
use Rattle.exchange_law.proofs.HeldWorlds.{none_held, none_kept, next_moment, readable_fronts, readable_there}
use Rattle.component_law.proofs.Given.{taken_gives}
use Rattle.cause_law.proofs.Listed.{ListsAt, lists_at}
use Rattle.cause_law.proofs.Made.{IsFileAt, AnswerGiven, file_later, SlotsGiven, more, runs_on, step_slots}

-- ---- what is held

-- the grant lists what this file had at some front of the run
pub record WasHeld (acts : List ServerAct) (number : ℕ) (h : Held) : Type 0 where
  pub file : File
  pub there : IsFileAt acts number file
  pub lists : ListsAt file.kept h

abbrev AreHeld : List ServerAct → List Held → Type 0
AreHeld acts hs = (file : ℕ) (h : Held) → held_of hs file ≡ Some h → WasHeld acts file h

held_later : (acts new : List ServerAct) (n : ℕ) (h : Held) → WasHeld acts n h → WasHeld (acts ++ new) n h
held_later acts new n h x = record { file = x.file; there = file_later acts new n x.file x.there; lists = x.lists }

same_listed : (f : _) (h k : Held) → IsSame h k → ListsAt f h → ListsAt f k
unfolding credential_of object_of
same_listed f h k same l = subst (λ (cs : _). ListsAt f (record k { components = cs })) (sym same.components) l

same_held : (acts : List ServerAct) (n : ℕ) (h k : Held) → IsSame h k → WasHeld acts n h → WasHeld acts n k
same_held acts n h k same x = record {
  file = x.file;
  there = x.there;
  lists = same_listed x.file.kept h k same x.lists;
}

pub taken_held : (acts : List ServerAct) (a : Answer) (op : CallOp) (h : Held) → AnswerGiven acts a
    → taken a op ≡ Ok h → WasHeld acts a.file h
taken_held acts a op h given e =
    let r = taken_gives a op h e in
    let x = given r.0 r.1 in
    record {
      file = x.file;
      there = x.there;
      lists =
          lists_at x.gives.drives x.file.kept x.gives.grant a op h
          (r.1 ∙ ap (λ (y : LayoutGetOk). results.LayoutGet (get.Granted y)) x.gives.is) x.gives.fits e;
    }

-- ---- a moment

pub record Stands (w : World) : Type 0 where
  pub run : List ServerAct
  pub is : w.server ≡ state_after (new_server []) run
  pub slots : SlotsGiven run w.server
  pub helds : (c : ℕ) → AreHeld run (client_of w c).held

abbrev pub Stand : World → List Line → Type 0
Stand w h = IsReadableThrough h → Stands w

module _ (more_events : OneEventMore) (own : AnswersAreOwn) (agree : ClientsAgree) where
  -- ---- a move

  module _ (w : World) (h : List Line) (k : IsMoment w h) (m : Move) (d : due (plan_at k) w ≡ Some m.action)
      (before : Stand w h) (t : IsReadableThrough (h ++ lines_in w m)) where
    abbrev v : World
    v = (move w m).world

    t_before : IsReadableThrough h
    t_before = readable_fronts h (lines_in w m) t

    s : Stands w
    s = before t_before

    client_held : (c : ℕ) (a : ClientAt) → at_number w.clients c ≡ Some a → (i : Input) → IsHeardByClient w c i
        → AreHeld s.run (client_step a.state i).client.held
    client_held c a found i heard =
        (step_is_fine own agree (WasHeld s.run) (same_held s.run) w h k t_before c a found (s.helds c)
        (λ slot e op x took. taken_held s.run slot.kept op x (s.slots c slot e) took) i heard).helds

    as_before : (c : ℕ) → client_of v c ≡ client_of w c → AreHeld s.run (client_of v c).held
    as_before c same = subst (λ (x : Client). AreHeld s.run x.held) (sym same) (s.helds c)

    idle : v.server ≡ w.server → ((c : ℕ) → AreHeld s.run (client_of v c).held) → Stands v
    idle server helds = record {
      run = s.run;
      is = server ∙ s.is;
      slots = subst (SlotsGiven s.run) (sym server) s.slots;
      helds = helds;
    }

    by_step : StepOf w m → Stands v
    by_step (OfNeither server stays) = idle server (λ c. as_before c (stays c))
    by_step (OfServer g stays) =
        let readable = readable_there v (h ++ lines_in w m) (next_moment w h k m d) t in
        let fit = subst (λ (x : Server). (n : ℕ) (f : File) → file_at x.files n ≡ Some f → IsFitting x f) g.server
        readable.files in
        let on : List ServerAct = more s.run w.server s.is m.chosen g.input fit s.slots in
        record {
          run = on;
          is = g.server ∙ runs_on s.run w.server s.is m.chosen g.input fit s.slots;
          slots =
              subst (SlotsGiven on) (sym g.server) (step_slots s.run w.server s.is m.chosen g.input fit s.slots);
          helds =
              λ c. subst (λ (x : Client). AreHeld on x.held) (sym (stays c))
              (λ file x e. held_later s.run _ file x (s.helds c file x e));
        }
    by_step (OfClient g after stays) = idle g.server (λ c. helds_at c (cases_eq c g.client))
      where
        helds_at : (c : ℕ) → (c ≡ g.client) ⊎ (c ≡ g.client → ⊥) → AreHeld s.run (client_of v c).held
        helds_at c (inl it) =
            subst (λ (n : ℕ). AreHeld s.run (client_of v n).held) (sym it)
            (subst (λ (x : Client). AreHeld s.run x.held) (sym after)
            (client_held g.client g.before g.found g.input g.heard))
        helds_at c (inr other) = as_before c (stays c other)

    move_stands : Stands v
    move_stands = by_step (step_of w h k m d)

  first : Stand empty_world []
  first t = record {
    run = [];
    is = refl;
    slots = λ c slot e. absurd (none_kept c slot e);
    helds = λ c file h e. absurd (none_held file h e);
  }

  pub stands : (w : World) (h : List Line) → IsMoment w h → Stand w h
  stands w h k =
      always Stand (record { starts = first; moves = λ u g j m d p t. move_stands u g j m d p t }) more_events w h k
