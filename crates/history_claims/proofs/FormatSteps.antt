-- What a step of the server makes of the format of a file, and which format the commands have that its job awaits then.
use Rattle.std.proofs.Common.{◌≡◌, ◌≢◌, ◌⊎◌, ◌==◌, ℕ, ◌+◌, Bool, true, false, true≢false, max, List, [], ◌∷◌, Option, Some, None, refl, sym, ap, subst, ◌∙◌, arith, inl, inr, if◌then◌else◌}
use Rattle.std.proofs.lemmas.Bool.{eqb-true, eq-eqb}
use Rattle.osd_capability.specs.declared.layout.TheConstants.{FORMAT_SHA256}
use Rattle.server_rules.specs.declared.limits.TheConstants.{GREATEST_TAG}
use Rattle.server_rules.specs.Commit.{Committed, Wrong, Sizes, NoGrant as NoCommit, by_commit, commits, commit_row}
use Rattle.server_rules.specs.Files.{at_file}
use Rattle.server_rules.specs.Get as rows
use Rattle.server_rules.specs.Get.{Early, early, must_fence, Late, by_late, late, give_or_refuse, after_fence, fence_first, on_grants, by_early, gets}
use Rattle.server_rules.specs.Going.{Going, keeping, noting_if}
use Rattle.server_rules.specs.History.{Input, Opens}
use Rattle.server_rules.specs.Jobs.{making, declares, fence_begins}
use Rattle.server_rules.specs.Laws.{In, NoneBeside}
use Rattle.server_rules.specs.Messages.{awaited_by, counters_have_room}
use Rattle.server_rules.specs.Numbers.{among}
use Rattle.server_rules.specs.Openings.{opens, opens_made, opens_spent, opens_fenced, is_unsettled}
use Rattle.server_rules.specs.Replies.{Hearing, Older, Full, Done, Nothing, others, heard_with, hearing, hears}
use Rattle.server_rules.specs.Requests.{serves}
use Rattle.server_rules.specs.Return as returning
use Rattle.server_rules.specs.Return.{Returned, return_row, reports_from, takes_loss, by_return, returns_on}
use Rattle.server_rules.specs.Served.{Served}
use Rattle.server_rules.proofs.HandlerLaws.{idle}
use Rattle.world_history.specs.ServerNames.{Server, File, Component, Grant, Job, JobKind, Revoking, Awaited, Reported, Reply, RequestArgs, Get, Commit, Return, IoErr}
use Rattle.history_law.specs.Fencing.{is_fences, is_fencing}
use Rattle.component_law.proofs.StandAwaited.{filtered_are, renewed_are}
use Rattle.relation_law.proofs.Walk.{walk_fence, walk_making}
use Rattle.cause_law.specs.Changes.{IsUnsettled, BeginsFence, ByOrder, ByOpening}
use Rattle.cause_law.proofs.Changing.{begun}
use Rattle.cause_law.proofs.Unsettled.{is_fenced, unsettled}
use Rattle.history_claims.specs.Formats.{IsTooOld}
use Rattle.history_claims.proofs.FormatJobs.{Has, Here, Keeps, End, TagIn, keeps_on, waits_so, full_so, declares_so}

-- ---- a file

module _ (s : Server) (i : Input) (f : File) where
  -- a fence begins, as the file is kept behind the step with this tag and this job
  pub record Begins (tag : ℕ) (job : Option Job) : Type 0 where
    pub under : (is_fencing job ≡ true) ⊎ (tag ≡ f.kept.tag + 1)
    pub anew : (is_fencing f.job ≡ false) ⊎ BeginsFence s i f

  -- Which format it has then: with the begin of a fence that, or the server's, if that is greater; else as before. Where a
  -- command of its job is too old, what it is told elsewhere.
  pub data Becomes (format tag : ℕ) (job : Option Job) : Type 0 where
    Raised : Begins tag job → format ≡ max f.kept.format s.format → Becomes format tag job
    Renewed : (Begins tag job → ⊥) → IsTooOld s i f → Becomes format tag job
    Stays : (Begins tag job → ⊥) → format ≡ f.kept.format → Becomes format tag job

  -- and what is awaited then was awaited before, or has this format
  pub record Went (format tag : ℕ) (job : Option Job) : Type 0 where
    pub becomes : Becomes format tag job
    pub asks : (a : Awaited) → In a (awaited_by job) → In a (awaited_by f.job) ⊎ Has format a

  abbrev pub Ends : Going → Type 0
  Ends g = Went g.file.kept.format g.file.kept.tag g.file.job

  -- ---- a job that goes on

  abbrev Old : Awaited → Type 0
  Old a = In a (awaited_by f.job)

  -- a fence is left then only if it was before, and elsewhere the tag stays
  abbrev At : ℕ → Type 0
  At t = is_fencing f.job ≡ true

  abbrev Past : ℕ → Type 0
  Past t = is_fencing f.job ≡ false → t ≡ f.kept.tag

  pub over_ : (t : ℕ) → At t → Past (t + 1)
  over_ t is other = absurd (true≢false (sym is ∙ other))

  abbrev On : Going → Type 0
  On g = End f.kept.format Old At Past over_ g

  more : (t : ℕ) → t ≡ t + 1 → ⊥
  more t e = omega (arith, e)

  tagged_here : TagIn f.kept.format Old At Past over_ (is_fencing f.job) f.kept.tag
  tagged_here = by (is_fencing f.job) refl
    where
      by : (b : Bool) → is_fencing f.job ≡ b → TagIn f.kept.format Old At Past over_ b f.kept.tag
      by true e = e
      by false e = λ other. refl

  here : Keeps f.kept.format Old At Past over_ f.kept.format f.kept.tag f.job
  here = record { format_is = refl; tagged = tagged_here; asks = λ a k. inl k }

  -- no fence begins where the job and the tag are so
  none_begins : (tag : ℕ) (job : Option Job) → TagIn f.kept.format Old At Past over_ (is_fencing job) tag
      → is_fencing f.job ≡ false → (is_fencing job ≡ true) ⊎ (tag ≡ f.kept.tag + 1) → ⊥
  none_begins tag job tagged closed under = by (is_fencing job) refl tagged under
    where
      by : (b : Bool) → is_fencing job ≡ b → TagIn f.kept.format Old At Past over_ b tag
          → (is_fencing job ≡ true) ⊎ (tag ≡ f.kept.tag + 1) → ⊥
      by true e t u = true≢false (sym t ∙ closed)
      by false e t (inl left) = true≢false (sym left ∙ e)
      by false e t (inr is) = more f.kept.tag (sym (t closed) ∙ is)

  -- its CREATEs go out
  pub went_making : (g : Going) → g.file ≡ f → On (making g)
  went_making g own =
      walk_making (Here f.kept.format Old At Past over_) On (keeps_on f.kept.format Old At Past over_) g
      (ap (λ (x : File). x.kept.format) own, λ closed. ap (λ (x : File). x.kept.tag) own)

  -- Where none begins but what an order begins, or a request, while no job runs.
  module _ (calm : BeginsFence s i f → is_fencing f.job ≡ false) where
    none_so : (tag : ℕ) (job : Option Job) → TagIn f.kept.format Old At Past over_ (is_fencing job) tag → Begins tag job
        → ⊥
    none_so tag job tagged b =
        none_begins tag job tagged (elim b.anew [ inl closed ↦ closed | inr begins_it ↦ calm begins_it ]) b.under

    pub went_on : (g : Going) → On g → Ends g
    went_on g k = record {
      becomes = Stays (none_so g.file.kept.tag g.file.job k.tagged) k.format_is;
      asks = λ a j. elim (k.asks a j) [ inl old ↦ inl old | inr new ↦ inr (new ∙ sym k.format_is) ];
    }

    pub went_still : Went f.kept.format f.kept.tag f.job
    went_still = record {
      becomes = Stays (none_so f.kept.tag f.job tagged_here) refl;
      asks = λ a j. inl j;
    }

    -- no job runs any more
    pub went_idle : Went f.kept.format f.kept.tag None
    went_idle = record {
      becomes = Stays (none_so f.kept.tag None (λ closed. refl)) refl;
      asks = λ a j. absurd j;
    }

    pub went_declared : (g : Going) (d : ℕ) → g.file ≡ f → Ends (declares g d)
    went_declared g d own =
        went_on (declares g d)
        (declares_so f.kept.format Old At Past over_ g d (λ a j. subst (λ (x : File). In a (awaited_by x.job)) own j)
        (subst (λ (x : File). Keeps f.kept.format Old At Past over_ x.kept.format x.kept.tag x.job) (sym own) here))

    -- ---- a reply to a command of its job

    module _ (chosen : List ℕ) (j : Job) (runs : f.job ≡ Some j) (a : Awaited) (there : In a j.awaited) (r : Reply) where
      abbrev at : Going
      at = at_file s chosen f

      old : (b : Awaited) → In b j.awaited → Old b
      old b k = subst (λ (o : Option Job). In b (awaited_by o)) (sym runs) k

      tagged : TagIn f.kept.format Old At Past over_ (is_fences j.work) f.kept.tag
      tagged = subst (λ (o : Option Job). TagIn f.kept.format Old At Past over_ (is_fencing o) f.kept.tag) runs tagged_here

      -- the command goes again, in format 2
      again : IsTooOld s i f → Ends (hears at j a r Older)
      again is = record {
        becomes = Renewed (none_so f.kept.tag (hears at j a r Older).file.job tagged) is;
        asks = renewed_are (λ (x : Awaited). Old x ⊎ Has FORMAT_SHA256 x) j.awaited a s.next_nonce (inr refl)
            (λ x k. inl (old x k));
      }

      pub went_heard : (hearing f.kept a r ≡ Older → IsTooOld s i f) → (v : Hearing) → hearing f.kept a r ≡ v
          → Ends (hears at j a r v)
      went_heard is Older e = again (is e)
      went_heard is Nothing e = went_still
      went_heard is Full e =
          went_on (hears at j a r Full) (full_so f.kept.format Old At Past over_ at j a j.work refl refl tagged old here)
      went_heard is Done e =
          went_on (hears at j a r Done)
          (waits_so f.kept.format Old At Past over_ at refl j j.work (others j.awaited a.command.nonce) (heard_with j a r) tagged
          (filtered_are Old _ j.awaited old))

-- ---- a fence begins

-- all that is awaited is new, and whichever tag the file has
abbrev pub NoneOld : Awaited → Type 0
NoneOld a = ⊥

abbrev pub AnyTag : ℕ → Type 0
AnyTag t = Unit {0}

pub any_tag : (t : ℕ) → AnyTag t → AnyTag (t + 1)
any_tag t x = tt

module _ (s : Server) (i : Input) where
  abbrev F : Going → ℕ
  F g = max g.file.kept.format s.format

  pub went_fence : (kind : JobKind) (g : Going) → (is_fencing g.file.job ≡ false) ⊎ BeginsFence s i g.file
      → Ends s i g.file (fence_begins kind s.format g)
  went_fence kind g anew = record {
    becomes = Raised (record { under = (begun kind s.format g).fence; anew = anew }) k.format_is;
    asks = λ a j. elim (k.asks a j) [ inl none ↦ absurd none | inr new ↦ inr (new ∙ sym k.format_is) ];
  }
    where
      k : End (F g) NoneOld AnyTag AnyTag any_tag (fence_begins kind s.format g)
      k =
          walk_fence (Here (F g) NoneOld AnyTag AnyTag any_tag) (End (F g) NoneOld AnyTag AnyTag any_tag)
          (keeps_on (F g) NoneOld AnyTag AnyTag any_tag) kind s.format g (refl, tt)

  -- ---- a request

  module _ (chosen : List ℕ) (f : File) (alone : NoneBeside f.job f.kept.grants) where
    abbrev go : Going
    go = at_file s chosen f

    abbrev W : Going → Type 0
    W h = Ends s i f h

    late_so : (h : Going) (w : Grant) → W h → (l : Late) → W (by_late h w l).going
    late_so h w had rows.NoNumber = had
    late_so h w had (rows.Lacks k) = had
    late_so h w had (rows.Conflict c) = had
    late_so h w had rows.Gives = had

    given_so : (h : Going) (next : ℕ) (w : Grant) → W h → W (give_or_refuse h next w).going
    unfolding give_or_refuse
    given_so h next w had = late_so h w had (late h.file.kept next w)

    after_so : (h : Going) (next : ℕ) (w : Grant) (o : Option Job) → W h → W (after_fence h next w o).going
    after_so h next w None had = given_so h next w had
    after_so h next w (Some j) had = had

    either : (b : Bool) (v w : Served) → W v.going → W w.going → W (if b then v else w).going
    either true v w p q = p
    either false v w p q = q

    module _ (here : W go) where
      gets_so : (next now client iomode offset count : ℕ) → W (gets go next s.format now client iomode offset count).going
      unfolding gets on_grants fence_first
      gets_so next now client iomode offset count = by _ (early f iomode offset count) (idle f iomode offset count)
        where
          by : (w : Grant) (e : Early) → (e ≡ rows.On → f.job ≡ None) → W (by_early go next s.format now w e).going
          by w rows.BadMode free = here
          by w rows.Invalid free = here
          by w rows.Unable free = here
          by w (rows.Waits k) free = here
          by w rows.On free =
              either (must_fence now f.kept.grants w) _ _
              (either (f.kept.tag == GREATEST_TAG) _ _ here
              (after_so (fence_begins Revoking s.format go) next w (fence_begins Revoking s.format go).file.job
              (went_fence Revoking go (inl (ap is_fencing (free refl))))))
              (given_so go next w here)

      commits_so : (client : ℕ) (last : Option ℕ) → W (commits go client last).going
      unfolding commits
      commits_so client last = by (commit_row f.kept client last)
        where
          by : (c : Committed) → W (by_commit go c).going
          by NoCommit = here
          by Wrong = here
          by (Sizes size) = here

      reports_file : (g : Going) (ks : List ℕ) (cs : List Component) (k : ℕ) → (reports_from g ks cs k).file ≡ g.file
      unfolding reports_from
      reports_file g ks [] k = refl
      reports_file g ks (c ∷ cs) k = reports_file (noting_if (among k ks) g (Reported k)) ks cs (k + 1)

      -- a report that needs a fence is under a grant, beside which no job runs
      free_there : (client : ℕ) (report : List IoErr) → return_row f.kept client report ≡ returning.Fencing
          → f.job ≡ None
      unfolding return_row
      free_there client report e = by f.job refl alone
        where
          by : (o : Option Job) → f.job ≡ o → NoneBeside o f.kept.grants → f.job ≡ None
          by None is beside = is
          by (Some j) is none = absurd (cc (rw none at e))

      returns_so : (client : ℕ) (report : List IoErr) → W (returns_on go s.format client report).going
      unfolding returns_on takes_loss
      returns_so client report = by (return_row f.kept client report) (free_there client report)
        where
          by : (r : Returned) → (r ≡ returning.Fencing → f.job ≡ None) → W (by_return go s.format client r).going
          by returning.NoGrant free = here
          by returning.Clean free = here
          by (returning.Taken ks) free =
              subst (λ (x : File). Went s i f x.kept.format x.kept.tag x.job)
              (sym (reports_file (keeping go _) ks f.kept.components 0)) here
          by returning.TooMany free = here
          by returning.Fencing free = went_fence Revoking go (inl (ap is_fencing (free refl)))

      pub serves_so : (next now client : ℕ) (args : RequestArgs) → W (serves go next s.format now client args).going
      serves_so next now client (Get iomode offset count) = gets_so next now client iomode offset count
      serves_so next now client (Commit last) = commits_so client last
      serves_so next now client (Return report) = returns_so client report

  -- ---- an opening

  module _ (g : Going) (is : i ≡ Opens) (room : counters_have_room s ≡ true) where
    -- no order comes
    calm : (IsUnsettled g.file.kept → g.file.kept.tag ≢ GREATEST_TAG → ⊥) → BeginsFence s i g.file
        → is_fencing g.file.job ≡ false
    calm none (ByOrder kind fencing order takes free low) = ap is_fencing free
    calm none (ByOpening e low left further) = absurd (none left further)

    opens_fence : is_unsettled g.file.kept ≡ true → (b : Bool) → (g.file.kept.tag == GREATEST_TAG) ≡ b
        → Ends s i g.file (if b then opens_spent g else fence_begins Revoking s.format g)
    opens_fence left true last =
        went_still s i g.file (calm (λ unsettled_ further. further (eqb-true g.file.kept.tag GREATEST_TAG last)))
    opens_fence left false last =
        went_fence Revoking g
        (inr (ByOpening is room (unsettled g.file.kept left)
        (λ e. true≢false (sym (eq-eqb g.file.kept.tag GREATEST_TAG e) ∙ last))))

    opens_rest : is_unsettled g.file.kept ≡ false → (ready : Bool) → Ends s i g.file (opens_made g ready)
    opens_rest settled true =
        went_idle s i g.file (calm (λ left further. true≢false (sym (is_fenced g.file.kept left) ∙ settled)))
    opens_rest settled false =
        went_on s i g.file (calm (λ left further. true≢false (sym (is_fenced g.file.kept left) ∙ settled))) (making g)
        (went_making s i g.file g refl)

    pub opens_so : Ends s i g.file (opens s.format g)
    unfolding opens opens_fenced
    opens_so = by (is_unsettled g.file.kept) refl
      where
        by : (b : Bool) → is_unsettled g.file.kept ≡ b
            → Ends s i g.file (if b then (if g.file.kept.tag == GREATEST_TAG then opens_spent g
            else fence_begins Revoking s.format g) else opens_made g g.file.kept.ready)
        by true left = opens_fence left (g.file.kept.tag == GREATEST_TAG) refl
        by false settled = opens_rest settled g.file.kept.ready
