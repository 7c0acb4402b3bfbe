-- While a grant of a file is live, no fence of it is open; and while the server is up, a file without a job was made.
use Rattle.std.proofs.Common.{◌≡◌, ◌⊎◌, ◌==◌, not, ℕ, Bool, true, false, List, [], ◌∷◌, Option, Some, None, refl, sym, ap, subst, ◌∙◌, inl, inr, if◌then◌else◌}
use Rattle.std.proofs.lemmas.Bool.{cases_eq, ne_eqb}
use Rattle.layout_ops.specs.declared.statuses.TheConstants.{LAYOUTIOMODE4_RW}
use Rattle.server_rules.specs.declared.limits.TheConstants.{GREATEST_TAG}
use Rattle.server_rules.specs.Files.{Step, file_at, at_file, put_file}
use Rattle.server_rules.specs.Get.{Early, BadMode, Invalid, Unable, Waits, On, Late, NoNumber, Lacks, Conflict, Gives, by_job, early, must_fence, by_late, late, give_or_refuse, after_fence, fence_first, on_grants, by_early, gets}
use Rattle.server_rules.specs.Going.{Going}
use Rattle.server_rules.specs.Grants.{grant_of, asked}
use Rattle.server_rules.specs.History.{Input, Act, step, state_after}
use Rattle.server_rules.specs.Jobs.{fence_begins}
use Rattle.server_rules.specs.Laws.{In, AreSafe}
use Rattle.server_rules.specs.Making.{new_server}
use Rattle.server_rules.specs.Messages.{counters_have_room}
use Rattle.server_rules.specs.Requests.{serves, on_request}
use Rattle.server_rules.specs.Served.{Served}
use Rattle.server_rules.proofs.FileLaws.{number_at, put_same, put_other}
use Rattle.server_rules.proofs.StepLaws.{safe_step}
use Rattle.scenario_text.specs.declared.line.Line.{Line}
use Rattle.world_history.specs.ServerNames.{Server, File, Kept, Grant, Job, Note, Still, Revoking, ClientRequest, RequestArgs, Get as Gets, Commit as Commits, Return as Returns}
use Rattle.world_history.specs.State.{World}
use Rattle.world_history.specs.History.{OneEventMore}
use Rattle.history_law.specs.BookMoments.{IsMoment}
use Rattle.history_law.specs.Moves.{down_behind}
use Rattle.history_law.specs.Files.{Quiet, Asked}
use Rattle.history_law.specs.Steps.{IsAsked}
use Rattle.history_law.proofs.Files.{in_at}
use Rattle.history_law.proofs.Steps.{each_request}
use Rattle.component_law.specs.Naming.{AreNamed}
use Rattle.exchange_law.specs.Counters.{CountersStayLow}
use Rattle.exchange_law.specs.Text.{AreOfText, AreFew}
use Rattle.exchange_law.proofs.HeldAsking.{none_told}
use Rattle.component_law.specs.Sent.{IsSentByRun}
use Rattle.component_law.specs.Standing.{is_new}
use Rattle.component_law.specs.Turns.{in_turn, AreInTurn, down_after}
use Rattle.component_law.proofs.Moments.{server_sent_its_run}
use Rattle.component_law.proofs.StandRuns.{IsAt, starts, goes_on, room_before}
use Rattle.component_law.specs.Listed.{IsOffline}
use Rattle.component_law.proofs.ListedServing.{MayGive, serves_may}
use Rattle.component_law.proofs.ListedSteps.{FewerAt, Did, step_did}
use Rattle.component_law.proofs.PartyKeeping.{IsAlike}
use Rattle.component_law.specs.KeptWalk.{IsWalked, JobFits, FileFits}
use Rattle.component_law.proofs.KeptFits.{FitsBy, AllFit, fits_step, fits_run}
use Rattle.component_law.proofs.KeptJobs.{fence_by}

-- ---- a request

-- where a grant is told, no fence is open behind it
record StillTold (v : Served) : Type 0 where
  still : (g : Grant) → v.told.grant ≡ Some g → v.going.file.kept.phase ≡ Still

tells_none : (v : Served) → v.told.grant ≡ None → StillTold v
tells_none v none = record { still = λ g e. absurd (cc (sym none ∙ e)) }

either_told : (b : Bool) (v u : Served) → StillTold v → StillTold u → StillTold (if b then v else u)
either_told true v u p q = p
either_told false v u p q = q

late_still : (g : Going) (x : Grant) (l : Late) → g.file.kept.phase ≡ Still → StillTold (by_late g x l)
late_still g x NoNumber e = tells_none _ refl
late_still g x (Lacks k) e = tells_none _ refl
late_still g x (Conflict holder) e = tells_none _ refl
late_still g x Gives e = record { still = λ y told. e }

give_still : (g : Going) (next : ℕ) (x : Grant) → g.file.kept.phase ≡ Still → StillTold (give_or_refuse g next x)
unfolding give_or_refuse
give_still g next x e = late_still g x (late g.file.kept next x) e

after_still : (g : Going) (next : ℕ) (x : Grant) (o : Option Job) → (o ≡ None → g.file.kept.phase ≡ Still)
    → StillTold (after_fence g next x o)
after_still g next x None e = give_still g next x (e refl)
after_still g next x (Some j) e = tells_none _ refl

-- through the parts of a job no tag comes to be spent
abbrev Unspent : (spent : Bool) → Kept → List Note → Type 0
Unspent spent k ns = spent ≡ false

unspent_walked : (spent : Bool) → IsWalked (Unspent spent)
unspent_walked spent = record {
  alike = λ k l ns a h. h;
  plain = λ k ns kind p h. h;
  fenced = λ k ns p h. h;
  mended = λ k ns stripes short p h. h;
}

first_still : (g : Going) (next format : ℕ) (x : Grant) → g.file.spent ≡ false → StillTold (fence_first g next format x)
unfolding fence_first
first_still g next format x fresh =
    let fenced : Going = fence_begins Revoking format g in
    let e = fence_by Unspent unspent_walked Revoking format g fresh in
    either_told (g.file.kept.tag == GREATEST_TAG) _ _ (tells_none _ refl)
    (after_still fenced next x fenced.file.job
    (λ none. (subst (JobFits fenced.file.spent fenced.file.kept.phase) none e.1) e.0))

grants_still : (g : Going) (next format now : ℕ) (x : Grant) → g.file.spent ≡ false → g.file.kept.phase ≡ Still
    → StillTold (on_grants g next format now x)
unfolding on_grants
grants_still g next format now x fresh still =
    either_told (must_fence now g.file.kept.grants x) _ _ (first_still g next format x fresh) (give_still g next x still)

on_where : (a b c : Bool) (o : Option Job)
    → (if a then BadMode else if b then Invalid else if c then Unable else by_job o) ≡ On → (c ≡ false) × (o ≡ None)
on_where true b c o e = absurd (cc e)
on_where false true c o e = absurd (cc e)
on_where false false true o e = absurd (cc e)
on_where false false false (Some j) e = absurd (cc e)
on_where false false false None e = (refl, refl)

early_still : (g : Going) (next format now : ℕ) (x : Grant) (e : Early)
    → (e ≡ On → (g.file.spent ≡ false) × (g.file.job ≡ None)) → FileFits g.file
    → StillTold (by_early g next format now x e)
early_still g next format now x BadMode free fits = tells_none _ refl
early_still g next format now x Invalid free fits = tells_none _ refl
early_still g next format now x Unable free fits = tells_none _ refl
early_still g next format now x (Waits k) free fits = tells_none _ refl
early_still g next format now x On free fits =
    let f = free refl in
    grants_still g next format now x f.0 ((subst (JobFits g.file.spent g.file.kept.phase) f.1 fits) f.0)

serves_still : (g : Going) (next format now client : ℕ) (args : RequestArgs) → FileFits g.file
    → StillTold (serves g next format now client args)
unfolding gets early
serves_still g next format now client (Gets iomode offset count) fits =
    early_still g next format now (asked g.file.kept next client now offset count (iomode == LAYOUTIOMODE4_RW))
    (early g.file iomode offset count) (λ e. on_where _ _ g.file.spent g.file.job e) fits
serves_still g next format now client (Commits last) fits =
    record { still = λ x told. absurd (none_told g next format now client (Commits last) x tt told) }
serves_still g next format now client (Returns report) fits =
    record { still = λ x told. absurd (none_told g next format now client (Returns report) x tt told) }

-- ---- a step

-- a file of which a client has a grant is still
abbrev pub StillBeside : Server → Type 0
StillBeside s =
    (n c : ℕ) (f : File) (g : Grant) → file_at s.files n ≡ Some f → grant_of f.kept.grants c ≡ Some g → f.kept.phase ≡ Still

module _ (s : Server) (chosen : List ℕ) (beside : StillBeside s) where
  quiet_still : (t : Step) → ((n : ℕ) (f : File) → file_at t.state.files n ≡ Some f
      → FewerAt (IsOffline t.state.drives) s.files n f) → StillBeside t.state
  quiet_still t all n c f g at has = by (all n f at)
    where
      by : FewerAt (IsOffline t.state.drives) s.files n f → f.kept.phase ≡ Still
      by (inl (e, there, fewer)) =
          let x = fewer.grants c g has in
          x.1.phase ∙ beside n c e g there x.0
      by (inr none) = absurd (cc (ap (λ (gs : List Grant). grant_of gs c) (sym none) ∙ has))

  module _ (now : ℕ) (q : ClientRequest) (f : File) (at : file_at s.files q.file ≡ Some f) (fits : FileFits f) where
    abbrev v : Served
    v = serves (at_file s chosen f) s.next_grant s.format now q.client q.args

    may : MayGive (IsOffline s.drives) f.kept q.client v
    may = serves_may (IsOffline s.drives) (at_file s chosen f) s.next_grant s.format now q.client q.args

    number : v.going.file.kept.number ≡ q.file
    number = may.number ∙ number_at s.files q.file f at

    own_still : (c : ℕ) (g : Grant)
        → ((grant_of f.kept.grants c ≡ Some g) × IsAlike (IsOffline s.drives) f.kept v.going.file.kept)
        ⊎ ((c ≡ q.client) × (v.told.grant ≡ Some g)) → v.going.file.kept.phase ≡ Still
    own_still c g (inl old) = old.1.phase ∙ beside q.file c f g at old.0
    own_still c g (inr new) = (serves_still (at_file s chosen f) s.next_grant s.format now q.client q.args fits).still g new.1

    served_still : (n c : ℕ) (e : File) (g : Grant) → file_at (put_file s.files q.file v.going.file) n ≡ Some e
        → grant_of e.kept.grants c ≡ Some g → e.kept.phase ≡ Still
    served_still n c e g there has = elim (cases_eq q.file n) [
      | inl same ↦
          let it : v.going.file ≡ e =
          is_it (subst (λ (m : ℕ). file_at (put_file s.files q.file v.going.file) m ≡ Some e) (sym same) there) in
          subst (λ (y : File). y.kept.phase ≡ Still) it
          (own_still c g (may.grants c g (ap (λ (y : File). grant_of y.kept.grants c) it ∙ has)))
      | inr other ↦
          beside n c e g (sym (put_other s.files q.file v.going.file number n (ne_eqb q.file n other)) ∙ there) has
    ]
      where
        is_it : file_at (put_file s.files q.file v.going.file) q.file ≡ Some e → v.going.file ≡ e
        is_it x = cc (sym (put_same s.files q.file v.going.file f number at) ∙ x)

  request_still : (now : ℕ) (q : ClientRequest) → AllFit s.files → StillBeside (on_request s now chosen q).state
  request_still now q fits = each_request s now chosen q (λ (t : Step). StillBeside t.state) (record {
    again = λ kept e. beside;
    misordered = λ expected e. beside;
    without = λ new none. beside;
    served = λ new f found. served_still now q f found (fits f (in_at s.files q.file f found));
  })

  -- a request comes while the server is up
  up_fits : (down : Bool) (i : Input) (now : ℕ) (q : ClientRequest) → IsAsked s i now q → in_turn down i ≡ true
      → FitsBy down s.files → AllFit s.files
  up_fits true i now q is turn fits = absurd (cc (sym (ap (in_turn true) is.is) ∙ turn))
  up_fits false i now q is turn fits = fits

  did_still : (down : Bool) (i : Input) → in_turn down i ≡ true → FitsBy down s.files → Did s chosen i (step s chosen i)
      → StillBeside (step s chosen i).state
  did_still down i turn fits (Quiet all same) = quiet_still (step s chosen i) all
  did_still down i turn fits (Asked now q is done) =
      subst (λ (t : Step). StillBeside t.state) (sym done) (request_still now q (up_fits down i now q is turn fits))

-- ---- a run

still_run : (down : Bool) (s : Server) (acts : List Act) → IsAt down s → FitsBy down s.files → AreSafe s.files
    → StillBeside s → AreInTurn down acts → counters_have_room (state_after s acts) ≡ true
    → StillBeside (state_after s acts)
still_run down s [] at fits safe beside turns low = beside
still_run down s (a ∷ acts) at fits safe beside turns low =
    let room : counters_have_room s ≡ true = room_before down s (a ∷ acts) at low in
    still_run (down_behind down a.input) (step s a.chosen a.input).state acts
    (goes_on down s a at turns.0 (λ e. room)) (fits_step down s a.chosen a.input turns.0 (λ e. room) fits)
    (safe_step s a.chosen a.input safe)
    (did_still s a.chosen beside down a.input turns.0 fits (step_did s a.chosen a.input safe)) turns.1 low

-- ---- at a moment

pub record IsShut (w : World) : Type 0 where
  pub still : StillBeside w.server
  pub made : w.down ≡ false → (f : File) → In f w.server.files → f.job ≡ None → f.kept.ready ≡ true

none_there : (n : ℕ) (f : File) → file_at [] n ≡ Some f → ⊥
unfolding file_at
none_there n f e = cc e

made_there : (f : File) → (is_new f.job ≡ not f.kept.ready) → f.job ≡ None → f.kept.ready ≡ true
made_there f makes none = by f.kept.ready (sym makes ∙ ap is_new none)
  where
    by : (b : Bool) → not b ≡ false → b ≡ true
    by true e = refl
    by false e = absurd (cc e)

pub is_shut : OneEventMore → CountersStayLow → (w : World) (h : List Line) → IsMoment w h → AreNamed h → AreOfText h
    → AreFew h → IsShut w
is_shut more low w h k named text few =
    let r : IsSentByRun w = server_sent_its_run more w h k named in
    let room : counters_have_room (state_after (new_server []) r.acts) ≡ true =
    subst (λ (s : Server). counters_have_room s ≡ true) r.server (low w h k text few) in
    let x = fits_run false (new_server []) r.acts starts (λ f i. absurd i) r.turns room in
    let beside = still_run false (new_server []) r.acts starts (λ f i. absurd i) tt
    (λ n c f g e has. absurd (none_there n f e)) r.turns room in
    let at : IsAt w.down w.server =
    subst (λ (b : Bool). IsAt b w.server) r.down
    (subst (λ (s : Server). IsAt (down_after false r.acts) s) (sym r.server) x.1) in
    record {
      still = subst StillBeside (sym r.server) beside;
      made = λ up f i none. by at up f i none;
    }
  where
    by : IsAt w.down w.server → w.down ≡ false → (f : File) → In f w.server.files → f.job ≡ None → f.kept.ready ≡ true
    by at up f i none =
        let one : IsAt false w.server = subst (λ (b : Bool). IsAt b w.server) up at in
        made_there f (one.standing f i).makes none
