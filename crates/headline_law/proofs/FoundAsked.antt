-- What became of a grant that a client holds, or is to take, over a step of the server.
-- Towards `EachHeldBecame` (`headline_law/specs/FoundHeld.antt`).
use Rattle.std.proofs.Common.{◌≡◌, ◌⊎◌, ◌++◌, ℕ, List, [], Option, Some, None, Ok, refl, sym, ap, subst, ◌∙◌, inl, inr, arith}
use Rattle.std.proofs.lemmas.Bool.{cases_Bool, cases_eq, ne_eqb}
use Rattle.layout_ops.specs.declared.messages.Answer.{Answer}
use Rattle.layout_ops.specs.declared.results.LayoutGetResult.TheVariants as get
use Rattle.layout_ops.specs.declared.results.Results.TheVariants as results
use Rattle.layout_types.specs.declared.objid.ObjId.{ObjId}
use Rattle.osd_lists.proofs.Slices.{some_at}
use Rattle.std.proofs.lemmas.Option.{slice_get_within}
use Rattle.server_rules.specs.Answers.{result_with}
use Rattle.server_rules.specs.Grants.{grant_of}
use Rattle.server_rules.specs.Layouts.{granted}
use Rattle.component_law.specs.Listed.{ListsComponents, IsOffline}
use Rattle.component_law.proofs.DrivesKnown.{AllKnown, StandKnown, all_known, stands_known}
use Rattle.component_law.proofs.Given.{taken_lists}
use Rattle.exchange_law.proofs.PlaceTaken.{is_taken}
use Rattle.client_rules.specs.Results.{layouts_in}
use Rattle.exchange_law.specs.Meeting.{IsFitting}
use Rattle.history_law.proofs.Running.{parties_run}
use Rattle.scenario_text.specs.declared.line.Line.{Line}
use Rattle.server_rules.specs.Files.{Step, at_file, file_at, put_file}
use Rattle.server_rules.specs.History.{step}
use Rattle.server_rules.specs.Laws.{In, NoneBeside}
use Rattle.server_rules.specs.Requests.{answer_with, answer_without, carried_out, carries_out, keeps, only_answers, on_request, serves as serves_request}
use Rattle.server_rules.specs.Served.{Served}
use Rattle.server_rules.specs.Slots.{New, admit, slot_of}
use Rattle.server_rules.proofs.FileLaws.{keep_other, keep_same, number_at, put_other, put_same}
use Rattle.client_rules.specs.Grants.{held_of}
use Rattle.client_rules.specs.Layouts.{taken}
use Rattle.world_history.specs.ClientNames.{CallOp, Client, Credential, Held, Listed}
use Rattle.world_history.specs.ServerNames.{Awaited as ForServer, ClientRequest, File, Grant, Job, RequestArgs, Get, Commit, Return, Server, Slot, Fences, Fencing}
use Rattle.world_history.specs.Moves.{acts}
use Rattle.world_history.specs.Plans.{due}
use Rattle.world_history.specs.Sending.{Move, move}
use Rattle.world_history.specs.State.{World, at_number}
use Rattle.history_law.specs.Moments.{IsMoment, lines_in, plan_at}
use Rattle.history_law.specs.Steps.{IsAsked}
use Rattle.history_law.specs.Unforged.{AreUnforged}
use Rattle.history_law.proofs.Files.{in_at, safe_in}
use Rattle.history_law.proofs.Steps.{each_request}
use Rattle.component_law.specs.Distinct.{AreDistinct}
use Rattle.exchange_law.specs.Doing.{IsHeardByServer, ServerGoes}
use Rattle.exchange_law.specs.Made.{answer_at}
use Rattle.exchange_law.specs.InStep.{state_of}
use Rattle.exchange_law.proofs.HeldWorlds.{next_moment, reached}
use Rattle.component_law.proofs.Shut.{is_shut}
use Rattle.component_law.proofs.NamedLines.{are_named}
use Rattle.component_law.proofs.PartyStepping.{told_found}
use Rattle.relation_law.proofs.KeptServer.{at_place}
use Rattle.history_law.proofs.Unforged.{unforged_front}
use Rattle.file_simulation.proofs.Fronts.{scenario_before}
use Rattle.osd_commands.specs.declared.actions.Action.TheVariants.{SetTag}
use Rattle.relation_law.specs.Requests.{IsReturning}
use Rattle.relation_law.specs.RequestsGoing.{IsItsRequest}
use Rattle.relation_law.proofs.RequestsClients.{clients_ask_for}
use Rattle.relation_law.proofs.RequestsHeard.{its_request}
use Rattle.relation_law.proofs.ReturnsRight.{return_asked}
use Rattle.exchange_law.proofs.HeldWorlds.{readable_there}
use Rattle.headline_law.proofs.FoundTold.{ungiven}
use Rattle.headline_law.proofs.SentHeld.{readable_then}
use Rattle.file_simulation.specs.Claim.{IsOfScenario}
use Rattle.file_simulation.specs.Relation.{client_of}
use Rattle.relation_law.proofs.FramesFiles.{files_distinct, move_stays}
use Rattle.headline_law.proofs.CalmWays.{served_number}
use Rattle.headline_law.specs.FoundHeld.{BecameAt, EachHeldBecame, IsListedWith, IsOver, Lasts, StandsYet}
use Rattle.headline_law.proofs.FoundGoes.{GoesLaws, became_goes, off_over, rests}
use Rattle.headline_law.proofs.FoundMoments.{AllBecame, AnswerBecame, BecameGoes, each_held_became}
use Rattle.headline_law.proofs.FoundServed.{Goes, IsReturn, NoClient, goes_itself, served_goes}
use Rattle.headline_law.proofs.FoundSteps.{AreFit, Stepped, Quiet, Asked, stepped}

-- while a job runs no grant is live
alone_of : (gs : List Grant) (o : Option Job) (j : Job) → o ≡ Some j → NoneBeside o gs → gs ≡ []
alone_of gs None j runs none = absurd (cc runs)
alone_of gs (Some i) j runs none = none

module _ (laws : GoesLaws) (w : World) (h : List Line) (k : IsMoment w h) (m : Move) (d : due (plan_at k) w ≡ Some m.action)
    (scenario : IsOfScenario (h ++ lines_in w m)) (fair : AreUnforged (h ++ lines_in w m)) where
  abbrev v : World
  v = (move w m).world

  apart : AreDistinct w.server.files
  apart = files_distinct w (reached w h k)

  behind : IsMoment (move w m).world (h ++ lines_in w m)
  behind = next_moment w h k m d

  before : IsOfScenario h
  before = scenario_before h (lines_in w m) scenario

  fences : (f : File) → In f w.server.files → f.kept.phase ≡ Fencing → (j : Job) → f.job ≡ Some j →
      (j.work ≡ Fences) × ((a : ForServer) → In a j.awaited → a.command.action ≡ SetTag)
  fences = laws.fences w h k before (unforged_front h (lines_in w m) fair)

  fit : AreFit w.server
  fit = record {
    still = λ f i c g has.
        (is_shut laws.moved.held.right.world.more laws.moved.room w h k (are_named h before.written) before.text before.few).still
        f.kept.number c f g (at_place w.server.files f apart i) has;
    fits = λ f i phase j runs. (fences f i phase j runs).0;
    sets = λ f j a i phase runs there. (fences f i phase j runs).1 a there;
    alone = λ f j i runs.
        alone_of f.kept.grants f.job j runs
        (safe_in w.server.files (laws.moved.held.right.world.safe w (reached w h k)) f i).alone;
  }

  -- each file that was there goes on
  goes_at : (But : ℕ → Type 0) (c n : ℕ) → (But c → ⊥) →
      ((f g : File) → file_at w.server.files n ≡ Some f → file_at v.server.files n ≡ Some g →
      Goes (IsOffline v.server.drives) f.kept But g.kept) → (x : Held) → BecameAt w c n x → BecameAt v c n x
  goes_at But c n but went x b =
      let g = (move_stays w m apart).2 n b.file b.there in
      record {
        file = g.0;
        there = g.1;
        became =
            became_goes laws w h k m d scenario fair c n b.file g.0 b.there g.1 x But but (went b.file g.0 b.there g.1) b.became;
      }

  module _ (g : ServerGoes w m.chosen (acts w m.chosen m.action)) (c : ℕ) (all : AllBecame w c) where
    same_client : client_of v c ≡ client_of w c
    same_client = ap (λ (xs : _). state_of c (at_number xs c)) g.clients

    -- where each is so of all that the client has, and the slot is as it was
    on : slot_of v.server.slots c ≡ slot_of w.server.slots c →
        ((n : ℕ) (x : Held) → BecameAt w c n x → BecameAt v c n x) → AllBecame v c
    on slots goes = record {
      slot = λ slot e op x took. goes slot.kept.file x (all.slot slot (sym slots ∙ e) op x took);
      helds = λ n x e. goes n x (all.helds n x (sym (ap (λ (y : Client). held_of y.held n) same_client) ∙ e));
    }

    idle : v.server ≡ w.server → AllBecame v c
    idle same =
        on (ap (λ (s : Server). slot_of s.slots c) same) (λ n x b. rests laws w h k m d scenario fair same c n x b)

    -- a request
    module _ (now : ℕ) (q : ClientRequest) (is : IsAsked w.server g.input now q) where
      abbrev Goal : Step → Type 0
      Goal t = v.server ≡ t.state → AllBecame v c

      -- a grant that was just given
      module _ (mine : q.client ≡ c) (f : File) (found : file_at w.server.files q.file ≡ Some f) where
        abbrev given : Served
        given = serves_request (at_file w.server m.chosen f) w.server.next_grant w.server.format now q.client q.args

        module _ (same : v.server ≡ (carried_out w.server q given).state) (its : Grant) (told : given.told.grant ≡ Some its)
            (op : CallOp) (x : Held)
            (gives : (answer_with w.server q given).results
            ≡ results.LayoutGet (get.Granted (granted w.server.drives given.going.file.kept its)))
            (took : taken (answer_with w.server q given) op ≡ Ok x) where
          given_number : given.going.file.kept.number ≡ q.file
          given_number =
              served_number (at_file w.server m.chosen f) w.server.next_grant w.server.format now q.client q.args
              ∙ number_at w.server.files q.file f found

          given_there : file_at v.server.files q.file ≡ Some given.going.file
          given_there =
              ap (λ (s : Server). file_at s.files q.file) same
              ∙ put_same w.server.files q.file given.going.file f given_number found

          live : grant_of given.going.file.kept.grants q.client ≡ Some its
          live = told_found (at_file w.server m.chosen f) w.server.next_grant w.server.format now q.client q.args its told

          fitting : IsFitting (carried_out w.server q given).state given.going.file
          fitting =
              subst (λ (s : Server). IsFitting s given.going.file) same
              ((readable_there v (h ++ lines_in w m) behind
              (readable_then laws.moved.held laws.moved.fresh v (h ++ lines_in w m) behind scenario)).files q.file
              given.going.file
              given_there)

          known : StandKnown w.server.drives given.going.file.kept.components
          known =
              (subst AllKnown same (all_known parties_run v (reached v (h ++ lines_in w m) behind)) given.going.file
              (subst (λ (s : Server). In given.going.file s.files) same
              (in_at v.server.files q.file given.going.file given_there))).0

          lists : ListsComponents w.server.drives given.going.file.kept its x.components
          lists =
              taken_lists w.server.drives given.going.file.kept its (answer_with w.server q given) op x gives fitting.drives
              (stands_known w.server.drives given.going.file.kept.components known) (fitting.fits q.client its live) took

          listed_yet : (i : ℕ) (l : Listed) (cr : Credential) → IsListedWith x i l cr →
              StandsYet given.going.file i l cr ⊎ IsOver v l cr
          listed_yet i l cr has =
              let within = slice_get_within x.components i l has.found in
              let at = some_at given.going.file.kept.components i (omega (arith, within, lists.count)) in
              let one = lists.each i at.0 l at.1 has.found in
              let fits = one.credential cr has.has in
              elim (cases_Bool at.0.missing) [
                | inl missing ↦
                    inr (off_over laws w h k m d scenario fair l cr
                    (subst (IsOffline v.server.drives) (sym fits.drive)
                    (subst (λ (s : Server). IsOffline s.drives at.0.drive) (sym same) (one.gone cr has.has missing))))
                | inr present ↦
                    inl (record {
                      component = at.0;
                      there = at.1;
                      present = present;
                      drive = sym fits.drive;
                      object = ap (λ (o : ObjId). o.oid_object_id) (sym one.object);
                      tag = ap (λ z. z.tag) fits.capability;
                    })
              ]

          given_became : BecameAt v c q.file x
          given_became = record {
            file = given.going.file;
            there = given_there;
            became = Lasts (inl (its, ap (grant_of given.going.file.kept.grants) (sym mine) ∙ live)) listed_yet;
          }

      -- what the client takes of the server's new answer is as it was just given
      fresh : q.client ≡ c → admit (slot_of w.server.slots q.client) q.sequence ≡ New →
          (o : Option File) → file_at w.server.files q.file ≡ o → v.server ≡ (carries_out w.server now m.chosen q o).state →
          AnswerBecame v c (answer_at w.server now m.chosen q o)
      fresh mine new None found same op x took =
          absurd (cc (sym (ungiven q.args _) ∙ (is_taken (answer_without q) op x took).gives))
      fresh mine new (Some f) found same op x took = by_told y.told.grant refl
        where
          y : Served
          y = serves_request (at_file w.server m.chosen f) w.server.next_grant w.server.format now q.client q.args

          a : Answer
          a = answer_with w.server q y

          by_told : (o : Option Grant) → y.told.grant ≡ o → BecameAt v c a.file x
          by_told None told =
              absurd (cc (sym (ungiven q.args y.told.status)
              ∙ sym (ap (λ (o : Option Grant).
              layouts_in (result_with w.server.drives y.going.file.kept q.args y.told.status o)) told)
              ∙ (is_taken (answer_with w.server q y) op x took).gives))
          by_told (Some g) told =
              given_became mine f found same g told op x
              (ap (result_with w.server.drives y.going.file.kept q.args y.told.status) told) took

      -- the slot behind it
      slot_behind : (a : Answer) → a.client ≡ q.client →
          slot_of v.server.slots q.client ≡ Some (record { client = a.client; last = a.sequence; kept = a }) →
          q.client ≡ c → AnswerBecame v c a → (t : Slot) → slot_of v.server.slots c ≡ Some t → AnswerBecame v c t.kept
      slot_behind a its found mine became t e =
          let same : record { client = a.client; last = a.sequence; kept = a } ≡ t =
          cc (sym (subst (λ (n : ℕ).
          slot_of v.server.slots n ≡ Some (record { client = a.client; last = a.sequence; kept = a })) mine found) ∙ e) in
          subst (λ (y : Slot). AnswerBecame v c y.kept) same became

      -- a client that asks to return a grant holds none on the file
      not_returning : (n : ℕ) (x : Held) → q.file ≡ n → held_of (client_of w c).held n ≡ Some x →
          admit (slot_of w.server.slots q.client) q.sequence ≡ New → IsReturn q.client q.args c → ⊥
      not_returning n x here e new returns = by_args q.args refl returns
        where
          it : IsItsRequest w q.client q
          it =
              its_request w h q.client k (laws.moved.held.right.world.in_step w h k q.client)
              (readable_there w h k (readable_then laws.moved.held laws.moved.fresh w h k before)) now q is.named
              (subst (IsHeardByServer w) is.is g.heard) new

          by_args : (a : RequestArgs) → q.args ≡ a → IsReturn q.client a c → ⊥
          by_args (Get iomode offset count) asks its = its
          by_args (Commit last) asks its = its
          by_args (Return report) asks its =
              let r = return_asked it.request.args report (it.reads.args ∙ ap (λ (b : RequestArgs). Some b) asks) in
              let gone = (clients_ask_for w (reached w h k) q.client).gone it.request it.outstanding
              (subst IsReturning (sym r.1) tt) in
              absurd (cc (sym gone ∙ ap (held_of (client_of w q.client).held) (sym it.reads.file ∙ here)
              ∙ ap (λ (i : ℕ). held_of (client_of w i).held n) (sym its) ∙ e))

      without : admit (slot_of w.server.slots q.client) q.sequence ≡ New → file_at w.server.files q.file ≡ None →
          Goal (only_answers (keeps w.server (answer_without q)) (answer_without q))
      without new none same = elim (cases_eq q.client c) [
        | inl mine ↦ record {
          slot =
              slot_behind (answer_without q) refl
              (ap (λ (s : Server). slot_of s.slots q.client) same
              ∙ keep_same w.server.slots
              (record { client = q.client; last = q.sequence; kept = answer_without q })) mine
              (fresh mine new None none same);
          helds = λ n x e.
              stays_at n x (all.helds n x (sym (ap (λ (y : Client). held_of y.held n) same_client) ∙ e));
        }
        | inr other ↦
            on (ap (λ (s : Server). slot_of s.slots c) same
            ∙ keep_other w.server.slots (record { client = q.client; last = q.sequence; kept = answer_without q }) c
            (ne_eqb q.client c other)) stays_at
      ]
        where
          stays_at : (n : ℕ) (x : Held) → BecameAt w c n x → BecameAt v c n x
          stays_at n x b = goes_at NoClient c n (λ z. z) (λ f y was there.
              let is : f ≡ y = cc (sym was ∙ sym (ap (λ (s : Server). file_at s.files n) same) ∙ there) in
              subst (λ (z : File). Goes (IsOffline v.server.drives) f.kept NoClient z.kept) is
              (goes_itself (IsOffline v.server.drives) f.kept NoClient)) x b

      not_its : (a : RequestArgs) → (q.client ≡ c → ⊥) → IsReturn q.client a c → ⊥
      not_its (Return report) other its = other (sym its)
      not_its (Get iomode offset count) other its = its
      not_its (Commit last) other its = its

      module _ (f : File) (found : file_at w.server.files q.file ≡ Some f) where
        abbrev y : Served
        y = serves_request (at_file w.server m.chosen f) w.server.next_grant w.server.format now q.client q.args

        number : y.going.file.kept.number ≡ q.file
        number =
            served_number (at_file w.server m.chosen f) w.server.next_grant w.server.format now q.client q.args
            ∙ number_at w.server.files q.file f found

        module _ (same : v.server ≡ (carried_out w.server q y).state) where
          goes_on : (n : ℕ) → (q.file ≡ n → IsReturn q.client q.args c → ⊥) → (x : Held) → BecameAt w c n x → BecameAt v c n x
          goes_on n but x b = elim (cases_eq q.file n) [
            | inl here ↦ goes_at (IsReturn q.client q.args) c n (but here) (λ e z was there.
                let is : f ≡ e = cc (sym found ∙ ap (file_at w.server.files) here ∙ was) in
                let now_is : y.going.file ≡ z =
                cc (sym (put_same w.server.files q.file y.going.file f number found)
                ∙ ap (file_at (put_file w.server.files q.file y.going.file)) here
                ∙ sym (ap (λ (s : Server). file_at s.files n) same) ∙ there) in
                subst (λ (o : File). Goes (IsOffline v.server.drives) e.kept (IsReturn q.client q.args) o.kept) now_is
                (subst (λ (o : File). Goes (IsOffline v.server.drives) o.kept (IsReturn q.client q.args) y.going.file.kept) is
                (served_goes (IsOffline v.server.drives) f.kept (fit.still f (in_at w.server.files q.file f found))
                (at_file w.server m.chosen f) w.server.next_grant w.server.format now q.client q.args refl))) x b
            | inr other ↦ goes_at NoClient c n (λ z. z) (λ e z was there.
                let is : e ≡ z =
                cc (sym was ∙ sym (put_other w.server.files q.file y.going.file number n (ne_eqb q.file n other))
                ∙ sym (ap (λ (s : Server). file_at s.files n) same) ∙ there) in
                subst (λ (o : File). Goes (IsOffline v.server.drives) e.kept NoClient o.kept) is
                (goes_itself (IsOffline v.server.drives) e.kept NoClient)) x b
          ]

          served_so : admit (slot_of w.server.slots q.client) q.sequence ≡ New → AllBecame v c
          served_so new = elim (cases_eq q.client c) [
            | inl mine ↦ record {
              slot =
                  slot_behind (answer_with w.server q y) refl
                  (ap (λ (s : Server). slot_of s.slots q.client) same
                  ∙ keep_same w.server.slots
                  (record { client = q.client; last = q.sequence; kept = answer_with w.server q y })) mine
                  (fresh mine new (Some f) found same);
              helds = λ n x e.
                  let was = sym (ap (λ (y : Client). held_of y.held n) same_client) ∙ e in
                  goes_on n (λ here returns. not_returning n x here was new returns) x (all.helds n x was);
            }
            | inr other ↦
                on (ap (λ (s : Server). slot_of s.slots c) same
                ∙ keep_other w.server.slots (record { client = q.client; last = q.sequence; kept = answer_with w.server q y }) c
                (ne_eqb q.client c other))
                (λ n x b. goes_on n (λ here returns. not_its q.args other returns) x b)
          ]

      asked : Goal (on_request w.server now m.chosen q)
      asked =
          each_request w.server now m.chosen q Goal (record {
            again = λ kept admits same. idle same;
            misordered = λ expected admits same. idle same;
            without = without;
            served = λ new f found same. served_so f found same new;
          })

    by_step : Stepped w.server m.chosen g.input (step w.server m.chosen g.input) → AllBecame v c
    by_step (Quiet goes slots) =
        on (ap (λ (s : Server). slot_of s.slots c) g.server ∙ ap (λ (ss : List Slot). slot_of ss c) slots)
        (λ n x b. goes_at NoClient c n (λ none. none) (λ f y was there.
        subst (λ (s : Server). Goes (IsOffline s.drives) f.kept NoClient y.kept) (sym g.server)
        (goes n f y was (ap (λ (s : Server). file_at s.files n) (sym g.server) ∙ there))) x b)
    by_step (Asked now q is same) = asked now q is (g.server ∙ ap (λ (t : Step). t.state) same)

    serves : AllBecame v c
    serves = by_step (stepped w.server m.chosen g.input fit apart)

pub became_on : GoesLaws → BecameGoes
became_on laws = record {
  rests = λ w h k m d t r same c n x b. rests laws w h k m d t r same c n x b;
  serves = λ w h k m d t r g c all. serves laws w h k m d t r g c all;
}

-- What became of each grant that clients hold.
pub helds_became : GoesLaws → EachHeldBecame
helds_became laws = each_held_became laws.moved (became_on laws)
