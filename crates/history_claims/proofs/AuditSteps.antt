-- What an audit has left to read, and has found, goes on in each step of the server.
use Rattle.std.proofs.Common.{◌≡◌, ◌==◌, ◌||◌, ◌&&◌, ℕ, suc, ◌+◌, Bool, true, false, not, List, [], ◌∷◌, Option, Some, None, refl, sym, ap, subst, ◌∙◌, inl, inr, if◌then◌else◌}
use Rattle.std.proofs.lemmas.Bool.{and_parts, eqb-true}
use Rattle.server_rules.specs.declared.limits.TheConstants.{GREATEST_TAG}
use Rattle.server_rules.specs.Commit.{Committed, Wrong, Sizes, NoGrant as NoCommit, by_commit, commits, commit_row}
use Rattle.server_rules.specs.Files.{Step, begins, add_file, at_file}
use Rattle.server_rules.specs.Get as rows
use Rattle.server_rules.specs.Get.{Early, early, must_fence, Late, by_late, late, give_or_refuse, after_fence, fence_first, on_grants, by_early, gets}
use Rattle.server_rules.specs.Going.{Going, keeping, noting, noting_if, with_components}
use Rattle.server_rules.specs.History.{Input, Hears, step}
use Rattle.osd_lists.specs.declared.node.Node.TheVariants.{Drive as FromDrive}
use Rattle.server_rules.specs.Jobs.{making, declares, fence_begins, others_than, is_target, targets, declared_in}
use Rattle.server_rules.specs.Laws.{In}
use Rattle.server_rules.specs.Making.{with_file}
use Rattle.server_rules.specs.Messages.{Replies, awaited_by}
use Rattle.server_rules.specs.Numbers.{among}
use Rattle.server_rules.specs.Openings.{opens, opens_made, opens_spent, opens_fenced, is_unsettled}
use Rattle.server_rules.specs.Orders.{offline, declare}
use Rattle.server_rules.specs.Replies.{Hearing, Older, Full, Done, Nothing, answers, others, heard_with, hearing, hears, fills_up}
use Rattle.server_rules.specs.Requests.{serves, on_request}
use Rattle.server_rules.specs.Return as returning
use Rattle.server_rules.specs.Return.{Returned, return_row, reports_from, takes_loss, by_return, returns_on}
use Rattle.server_rules.specs.Served.{Served}
use Rattle.server_rules.specs.Standing.{any_on, lose_on, lose_from}
use Rattle.world_history.specs.ServerNames.{Server, File, Kept, Component, Grant, Job, Work, Creates, Fences, Fetches, Stores, Targets, Gathers, Fills, Lengths, Checks, Awaited, Piece, Tally, NoSpace, Reported, Revoking, Reply, ClientRequest, RequestArgs, Get, Commit, Return, IoErr}
use Rattle.history_law.specs.Steps.{Answering, IsAnswering, answered_file, new_file, StepCases}
use Rattle.history_law.proofs.Files as Files
use Rattle.history_law.proofs.Files.{in_at, put_each, add_each, declared_each, opened_each, crashed_each}
use Rattle.history_law.proofs.Steps.{each_request, each_step}
use Rattle.history_law.proofs.Hearing.{found_in, goes_hears as number_hears}
use Rattle.history_law.proofs.Asking.{handled_served, handled_declares, handled_opened}
use Rattle.component_law.specs.Components.{is_lacking}
use Rattle.component_law.specs.Objects.{target_in, target_of}
use Rattle.cause_law.specs.Awaiting.{Answers}
use Rattle.cause_law.proofs.TagSteps.{R}
use Rattle.history_claims.specs.Audits.{HasFound, LosesOne, FoundGoes, AsBefore, ByReply, ByLoss, ByLast}
use Rattle.history_claims.specs.Notes.{fills_at, IsFull, BySpace, HasHeard, WithReply, WithLoss, found_first, all_pieces, GoesOnWith, Measured, Again, Through}
use Rattle.history_claims.proofs.NoteCauses.{goes_on_with}
use Rattle.history_claims.proofs.AuditJobs.{NoAudit, no_fence, no_making, no_past, found_waits, LostWith, Begins, Lasts, found_loses}

-- ---- a component on a drive

lost_on : (d : ℕ) (cs : List Component) → any_on d cs ≡ true
    → (k : ℕ) × (is_lacking cs k ≡ false) × (is_lacking (lose_on d cs) k ≡ true)
unfolding any_on lose_on
lost_on d [] e = absurd (cc e)
lost_on d (x ∷ cs) e = by (not x.missing && (x.drive == d)) refl e (lost_on d cs)
  where
    stood : (b : Bool) → not b ≡ true → b ≡ false
    stood true n = absurd (cc n)
    stood false n = refl

    by : (b : Bool) → (not x.missing && (x.drive == d)) ≡ b → (if b then true else any_on d cs) ≡ true
        → (any_on d cs ≡ true → (k : ℕ) × (is_lacking cs k ≡ false) × (is_lacking (lose_on d cs) k ≡ true))
        → (k : ℕ) × (is_lacking (x ∷ cs) k ≡ false)
        × (is_lacking ((if x.drive == d then record x { missing = true } else x) ∷ lose_on d cs) k ≡ true)
    by false t e rest = let r = rest e in (suc r.0, r.1, r.2)
    by true t e rest =
        let both = and_parts (not x.missing) (x.drive == d) t in
        (0, stood x.missing both.0, rw both.1 refl)

-- ---- a file

module _ (s : Server) (i : Input) (f : File) where
  module _ (j : Job) (runs : f.job ≡ Some j) where
    as_before : (left : List Piece) (found : Tally) (k : Kept) → j.work ≡ Checks left found → FoundGoes s i f k left found
    as_before left found k e = AsBefore (subst (λ (o : Option Job). HasFound o left found) (sym runs) e)

    module _ (g : Going) (own : g.file ≡ f) (a : Awaited) (there : In a j.awaited) (r : Reply)
        (y : (hearing f.kept a r ≡ Nothing → ⊥) → (x : Answers s i f a) × (x.reply ≡ r)) where
      its_job : (left : List Piece) (found : Tally) → HasFound g.file.job left found → j.work ≡ Checks left found
      its_job left found x =
          subst (λ (o : Option Job). HasFound o left found) (ap (λ (z : File). z.job) own ∙ runs) x

      by_lost : hearing f.kept a r ≡ Full → (work : Work) → j.work ≡ work → target_in work ≡ None → (left : List Piece)
          (found : Tally)
          → LostWith (noting (with_components g (lose_from (a.component ∷ []) g.file.kept.components 0))
          (NoSpace a.component)).file.kept (fills_up g j a work).file.kept work j.heard left found
          → FoundGoes s i f (fills_up g j a work).file.kept left found
      by_lost full work is none left found l = by l
        where
          lacks : IsFull s i f (fills_at a (target_of f.job))
          lacks =
              let x = y (λ e. cc (sym full ∙ e)) in
              record {
                awaited = a;
                there = subst (λ (o : Option Job). In a (awaited_by o)) (sym runs) there;
                answers = x.0;
                full = ap (hearing f.kept a) x.1 ∙ full;
                component = refl;
              }

          by : {k l : Kept} → LostWith k l work j.heard left found → FoundGoes s i f l left found
          by {k} {l} (Begins ps t e through same) =
              ByReply (record {
                pieces = ps;
                first = t;
                on = Again j ps t runs (is ∙ e) (BySpace (fills_at a (target_of f.job)) lacks);
                through = subst (λ (z : Kept). Through z ps t left found) (sym same) through;
              })
          by {k} {l} (Lasts e through same) =
              ByReply (record {
                pieces = all_pieces l;
                first = found_first j.heard;
                on = Measured j runs (is ∙ e) j.heard (WithLoss (BySpace (fills_at a (target_of f.job)) lacks));
                through =
                    subst (λ (z : Kept). Through z (all_pieces z) (found_first j.heard) left found) (sym same) through;
              })

      by_full : hearing f.kept a r ≡ Full → (work : Work) → j.work ≡ work → (left : List Piece) (found : Tally)
          → HasFound (fills_up g j a work).file.job left found
          → FoundGoes s i f (fills_up g j a work).file.kept left found
      by_full full (Targets t) is left found x = absurd (no_past _ _ _ left found x)
      by_full full (Gathers t todo) is left found x = absurd (no_past _ _ _ left found x)
      by_full full (Fills t todo) is left found x = absurd (no_past _ _ _ left found x)
      by_full full Creates is left found x =
          by_lost full Creates is refl left found (found_loses _ j Creates _ false (λ l u q. sym is ∙ its_job l u q) left
          found x)
      by_full full Fences is left found x =
          by_lost full Fences is refl left found (found_loses _ j Fences _ false (λ l u q. sym is ∙ its_job l u q) left
          found x)
      by_full full (Fetches todo short) is left found x =
          by_lost full (Fetches todo short) is refl left found (found_loses _ j (Fetches todo short) _ false
          (λ l u q. sym is ∙ its_job l u q) left found x)
      by_full full (Stores todo short broken) is left found x =
          by_lost full (Stores todo short broken) is refl left found (found_loses _ j (Stores todo short broken) _ false
          (λ l u q. sym is ∙ its_job l u q) left found x)
      by_full full Lengths is left found x =
          by_lost full Lengths is refl left found (found_loses _ j Lengths _ false (λ l u q. sym is ∙ its_job l u q) left
          found x)
      by_full full (Checks todo t) is left found x =
          by_lost full (Checks todo t) is refl left found (found_loses _ j (Checks todo t) _ false
          (λ l u q. sym is ∙ its_job l u q) left found x)

      found_hears : (v : Hearing) → hearing f.kept a r ≡ v → (left : List Piece) (found : Tally)
          → HasFound (hears g j a r v).file.job left found → FoundGoes s i f (hears g j a r v).file.kept left found
      found_hears Older is left found x = as_before left found _ x
      found_hears Nothing is left found x = as_before left found _ (its_job left found x)
      found_hears Full is left found x = by_full is j.work refl left found x
      found_hears Done is left found x =
          elim (found_waits g j j.work (others j.awaited a.command.nonce) (heard_with j a r) left found x) [
            | inl e ↦ as_before left found _ e
            | inr o ↦
                ByReply (record {
                  pieces = o.pieces;
                  first = o.first;
                  on =
                      subst (λ (k : Kept). GoesOnWith s i f k o.pieces o.first) (sym o.same)
                      (goes_on_with s s.drives i f g.file j runs (heard_with j a r) heard j.work refl o.pieces o.first o.on);
                  through = subst (λ (k : Kept). Through k o.pieces o.first left found) (sym o.same) o.through;
                })
          ]
        where
          heard : HasHeard s i f j (heard_with j a r)
          heard =
              let x = y (λ e. cc (sym is ∙ e)) in
              subst (λ (z : Reply). HasHeard s i f j (heard_with j a z)) x.1
              (WithReply a there x.0 (ap (hearing f.kept a) x.1 ∙ is))

  -- ---- a declared drive

  found_declares : (d : ℕ) (g : Going) → g.file ≡ f → (left : List Piece) (found : Tally)
      → HasFound (declares g d).file.job left found → FoundGoes s i f (declares g d).file.kept left found
  unfolding declares
  found_declares d g own left found x =
      by (any_on d g.file.kept.components || targets g.file.job d) refl x
    where
      h : Going
      h = with_components g (lose_on d g.file.kept.components)

      its : HasFound g.file.job left found → HasFound f.job left found
      its y = subst (λ (z : File). HasFound z.job left found) own y

      -- no target is lost with it
      loses_it : (j : Job) → g.file.job ≡ Some j → is_target j.work d ≡ false
          → (any_on d g.file.kept.components || targets g.file.job d) ≡ true → (k : Kept) → k ≡ h.file.kept → LosesOne f k
      loses_it j runs none e k same =
          let on : any_on d g.file.kept.components ≡ true =
          first_true (any_on d g.file.kept.components) (targets g.file.job d) (ap (λ (o : Option Job). targets o d) runs ∙ none)
          e in
          let l = lost_on d g.file.kept.components on in
          record {
            component = l.0;
            stood = ap (λ (z : File). is_lacking z.kept.components l.0) (sym own) ∙ l.1;
            lacks = ap (λ (z : Kept). is_lacking z.components l.0) same ∙ l.2;
          }
        where
          first_true : (b c : Bool) → c ≡ false → (b || c) ≡ true → b ≡ true
          first_true true c n t = refl
          first_true false c n t = absurd (cc (sym n ∙ t))

      by_lost : (j : Job) → g.file.job ≡ Some j → (any_on d g.file.kept.components || targets g.file.job d) ≡ true
          → {k : Kept} → LostWith h.file.kept k j.work j.heard left found → FoundGoes s i f k left found
      by_lost j runs e {k} (Begins ps t is through same) =
          ByLoss (loses_it j runs (ap (λ (w : Work). is_target w d) is) e k same) ps t
          (subst (λ (o : Option Job). HasFound o ps t) (sym (ap (λ (z : File). z.job) (sym own) ∙ runs)) is)
          (subst (λ (z : Kept). Through z ps t left found) (sym same) through)
      by_lost j runs e {k} (Lasts is through same) =
          ByLast (loses_it j runs (ap (λ (w : Work). is_target w d) is) e k same) j (ap (λ (z : File). z.job) (sym own) ∙ runs)
          is (subst (λ (z : Kept). Through z (all_pieces z) (found_first j.heard) left found) (sym same) through)

      by_job : (o : Option Job) → g.file.job ≡ o → (any_on d g.file.kept.components || targets g.file.job d) ≡ true
          → HasFound (declared_in h d o).file.job left found → FoundGoes s i f (declared_in h d o).file.kept left found
      by_job None runs e y = AsBefore (its y)
      by_job (Some j) runs e y =
          by_lost j runs e (found_loses h j j.work (others_than d j.awaited) (is_target j.work d)
          (λ l u q. subst (λ (o : Option Job). HasFound o l u) runs q) left found y)

      by : (b : Bool) → (any_on d g.file.kept.components || targets g.file.job d) ≡ b
          → HasFound (if b then declared_in h d g.file.job else g).file.job left found
          → FoundGoes s i f (if b then declared_in h d g.file.job else g).file.kept left found
      by true e y = by_job g.file.job refl e y
      by false e y = AsBefore (its y)

-- ---- requests and openings begin none

module _ (go : Going) where
  -- an audit behind it was there before
  abbrev Had : Going → Type 0
  Had h = (left : List Piece) (found : Tally) → HasFound h.file.job left found → HasFound go.file.job left found

  begins_none : (h : Going) → NoAudit h → Had h
  begins_none h none left found x = absurd (none left found x)

  had_late : (h : Going) (w : Grant) → Had h → (l : Late) → Had (by_late h w l).going
  had_late h w had rows.NoNumber = had
  had_late h w had (rows.Lacks k) = had
  had_late h w had (rows.Conflict c) = had
  had_late h w had rows.Gives = had

  had_given : (h : Going) (next : ℕ) (w : Grant) → Had h → Had (give_or_refuse h next w).going
  unfolding give_or_refuse
  had_given h next w had = had_late h w had (late h.file.kept next w)

  had_after : (h : Going) (next : ℕ) (w : Grant) (o : Option Job) → Had h → Had (after_fence h next w o).going
  had_after h next w None had = had_given h next w had
  had_after h next w (Some j) had = had

  either : (b : Bool) (v w : Served) → Had v.going → Had w.going → Had (if b then v else w).going
  either true v w p q = p
  either false v w p q = q

  here : Had go
  here left found x = x

  had_fence : (format : ℕ) → Had (fence_begins Revoking format go)
  had_fence format = begins_none (fence_begins Revoking format go) (no_fence Revoking format go)

  had_gets : (next format now client iomode offset count : ℕ)
      → Had (gets go next format now client iomode offset count).going
  unfolding gets on_grants fence_first
  had_gets next format now client iomode offset count = by _ (early go.file iomode offset count)
    where
      by : (w : Grant) (e : Early) → Had (by_early go next format now w e).going
      by w rows.BadMode = here
      by w rows.Invalid = here
      by w rows.Unable = here
      by w (rows.Waits k) = here
      by w rows.On =
          either (must_fence now go.file.kept.grants w) _ _
          (either (go.file.kept.tag == GREATEST_TAG) _ _ here
          (had_after (fence_begins Revoking format go) next w (fence_begins Revoking format go).file.job (had_fence format)))
          (had_given go next w here)

  had_commits : (client : ℕ) (last : Option ℕ) → Had (commits go client last).going
  unfolding commits
  had_commits client last = by (commit_row go.file.kept client last)
    where
      by : (c : Committed) → Had (by_commit go c).going
      by NoCommit = here
      by Wrong = here
      by (Sizes size) = here

  reports_job : (g : Going) (ks : List ℕ) (cs : List Component) (k : ℕ) → (reports_from g ks cs k).file ≡ g.file
  unfolding reports_from
  reports_job g ks [] k = refl
  reports_job g ks (at ∷ cs) k = reports_job (noting_if (among k ks) g (Reported k)) ks cs (k + 1)

  had_returns : (format client : ℕ) (report : List IoErr) → Had (returns_on go format client report).going
  unfolding returns_on takes_loss
  had_returns format client report = by (return_row go.file.kept client report)
    where
      by : (r : Returned) → Had (by_return go format client r).going
      by returning.NoGrant = here
      by returning.Clean = here
      by (returning.Taken ks) = λ left found x.
          subst (λ (f : File). HasFound f.job left found) (reports_job (keeping go _) ks go.file.kept.components 0) x
      by returning.TooMany = here
      by returning.Fencing = had_fence format

  had_serves : (next format now client : ℕ) (args : RequestArgs) → Had (serves go next format now client args).going
  had_serves next format now client (Get iomode offset count) = had_gets next format now client iomode offset count
  had_serves next format now client (Commit last) = had_commits client last
  had_serves next format now client (Return report) = had_returns format client report

  had_opens : (format : ℕ) → Had (opens format go)
  unfolding opens opens_fenced
  had_opens format = by (is_unsettled go.file.kept)
    where
      made : (b : Bool) → Had (opens_made go b)
      made true = λ left found x. absurd x
      made false = begins_none (making go) (no_making go)

      tag : (b : Bool) → Had (if b then opens_spent go else fence_begins Revoking format go)
      tag true = here
      tag false = had_fence format

      by : (b : Bool) → Had (if b then (if go.file.kept.tag == GREATEST_TAG then opens_spent go
          else fence_begins Revoking format go) else opens_made go go.file.kept.ready)
      by true = tag (go.file.kept.tag == GREATEST_TAG)
      by false = made go.file.kept.ready

-- ---- a step

-- what its audit has left and found comes from a file that was there
abbrev pub FoundAs : Server → Input → File → Type 0
FoundAs s i g =
    (left : List Piece) (found : Tally) → HasFound g.job left found
    → (f : File) × In f s.files × (g.kept.number ≡ f.kept.number) × FoundGoes s i f g.kept left found

module _ (s : Server) (chosen : List ℕ) (i : Input) where
  abbrev P : Step → Type 0
  P t = Files.Each (FoundAs s i) t.state.files

  as_it_was : (f g : File) → In f s.files → g.kept.number ≡ f.kept.number
      → ((left : List Piece) (found : Tally) → HasFound g.job left found → HasFound f.job left found) → FoundAs s i g
  as_it_was f g there number had left found x = (f, there, number, AsBefore (had left found x))

  stay : Files.Each (FoundAs s i) s.files
  stay f there = as_it_was f f there refl (λ left found x. x)

  asked : (now : ℕ) (q : ClientRequest) → P (on_request s now chosen q)
  asked now q =
      each_request s now chosen q P (record {
        again = λ kept e. stay;
        misordered = λ expected e. stay;
        without = λ new none. stay;
        served = λ new f found.
            put_each (FoundAs s i) s.files q.file _ stay
            (as_it_was f (serves (at_file s chosen f) s.next_grant s.format now q.client q.args).going.file
            (in_at s.files q.file f found)
            (handled_served R (at_file s chosen f) s.next_grant s.format now q.client q.args).goes.number_is
            (had_serves (at_file s chosen f) s.next_grant s.format now q.client q.args));
      })

  answered : (x : Answering) → IsAnswering s i x → FoundAs s i (answered_file s chosen x).file
  answered x is left found has = (
    x.file,
    is.there,
    (number_hears (at_file s chosen x.file) x.job x.awaited x.reply (hearing x.file.kept x.awaited x.reply) own.0
        (λ y j. subst (λ (o : Option Job). In y (awaited_by o)) (sym is.runs) j)).number_is,
    found_hears s i x.file x.job is.runs (at_file s chosen x.file) refl x.awaited own.0 x.reply
        (λ counts. (
          record {
            now = x.now;
            reply = x.reply;
            comes = is.is ∙ ap (λ (n : ℕ). Hears x.now (FromDrive n) (Replies x.reply)) (sym its.0);
            room = is.low;
            nonce = its.1;
            counts = counts;
          },
          refl,
        )) (hearing x.file.kept x.awaited x.reply) refl left found has,
  )
    where
      own : In x.awaited x.job.awaited × (answers x.drive x.reply x.awaited ≡ true)
      own = found_in (answers x.drive x.reply) x.job.awaited x.awaited is.awaits

      its : (x.awaited.drive ≡ x.drive) × (x.reply.nonce ≡ x.awaited.command.nonce)
      its =
          let both = and_parts (x.awaited.command.nonce == x.reply.nonce) (x.awaited.drive == x.drive) own.1 in
          (eqb-true x.awaited.drive x.drive both.1, sym (eqb-true x.awaited.command.nonce x.reply.nonce both.0))

  cases : StepCases s chosen i P
  unfolding declare
  cases = record {
    rests = stay;
    asked = λ now q is. asked now q;
    answered = λ x is.
        put_each (FoundAs s i) s.files (answered_file s chosen x).file.kept.number (answered_file s chosen x).file stay
        (answered x is);
    recalled = λ f is. stay;
    refused = λ f is n why. put_each (FoundAs s i) s.files f.kept.number f stay (stay f (in_at s.files is.target f is.found));
    fenced = λ f is kind free low.
        put_each (FoundAs s i) s.files f.kept.number _ stay
        (λ left found x. absurd (no_fence kind s.format (at_file s chosen f) left found x));
    declared = λ d known.
        declared_each (FoundAs s i) d (offline s.drives d) s.files (begins s) chosen (λ f there m placed left found x.
        let g : Going = record { file = f; effects = m; drives = offline s.drives d; chosen = placed } in
        (f, there, (handled_declares R g d).goes.number_is, found_declares s i f d g refl left found x));
    told = λ t now o is result p. p;
    made = λ n m tag zoned is none.
        let f : File = new_file s chosen n m tag zoned in
        put_each (FoundAs s i) (add_file s.files f) n (making (at_file (with_file s f) [] f)).file
        (add_each (FoundAs s i) s.files f stay (λ left found x. absurd x))
        (λ left found x. absurd (no_making (at_file (with_file s f) [] f) left found x));
    added = λ d is. stay;
    zoned = λ d zone is. stay;
    formats = λ n is. stay;
    resends = λ is. stay;
    crashes = λ is. crashed_each (FoundAs s i) s.files (λ f there left found x. absurd x);
    opened = λ is low.
        opened_each (FoundAs s i) s.format s.drives s.files (begins s) (λ f there m.
        let g : Going = record { file = f; effects = m; drives = s.drives; chosen = [] } in
        as_it_was f (opens s.format g).file there (handled_opened R s.format g).goes.number_is (had_opens g s.format));
  }

  pub founds_go : P (step s chosen i)
  founds_go = each_step s chosen i P cases
