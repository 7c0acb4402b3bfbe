-- What each handler notes of its file has its cause.
use Rattle.std.proofs.Common.{◌≡◌, ◌≢◌, ◌==◌, ◌&&◌, ◌||◌, ℕ, Bool, true, false, not, nat_lt, List, [], ◌∷◌, length, Option, Some, None, refl, sym, ap, subst, ◌∙◌, arith, inl, inr, if◌then◌else◌}
use Rattle.std.proofs.lemmas.Bool.{eqb-true, ne_eqb}
use Rattle.std.proofs.lemmas.Bool.Decides.{nat_tests}
use Rattle.server_rules.specs.Going.{Going, with_components, noting}
use Rattle.server_rules.specs.History.{Input, Opens}
use Rattle.server_rules.specs.Jobs.{fence_begins, loses, others_than, is_target, targets, declared_in, declares}
use Rattle.server_rules.specs.Laws.{In}
use Rattle.server_rules.specs.Messages.{awaited_by, counters_have_room}
use Rattle.server_rules.specs.Openings.{is_still, is_unsettled, opens_made, opens_spent, opens_fenced, opens}
use Rattle.server_rules.specs.Rebuild.{target_full}
use Rattle.server_rules.specs.Replies.{Hearing, Older, Full, Done, Nothing, others, heard_with, hearing, hears, fills_up}
use Rattle.server_rules.specs.Standing.{stood_on, free_drives, lose_on, lose_from, any_on}
use Rattle.server_rules.specs.Zoning.{takers_by, takers}
use Rattle.server_rules.specs.declared.limits.TheConstants.{GREATEST_TAG}
use Rattle.server_rules.proofs.Members.{in_filter}
use Rattle.world_history.specs.ServerNames.{Server, Drive, File, Kept, Phase, Still, Fencing, Repairing, FencingAgain, Component, Awaited, Heard, Piece, Target, Job, JobKind, Revoking, Rebuilding, Auditing, Work, Creates, Fences, Fetches, Stores, Targets, Gathers, Fills, Lengths, Checks, Tally, Grant, NoteKind, NoDrive, NoSpace, Spent, Reply}
use Rattle.world_history.specs.Told.{told_note}
use Rattle.component_law.specs.Going.{taken_out}
use Rattle.component_law.specs.Objects.{target_in, target_of}
use Rattle.cause_law.specs.Awaiting.{Answers}
use Rattle.history_claims.specs.Notes.{are_creates, awaits_creates, IsLeftOpen, WithLast, AtOpening, NeedsOne, ByOpening, IsRebuilt, Runs, Aims, MayTake, NoneMay, ItsIsGone, fills_at, IsFull, IsAudited, RunsAudit, LosesOne, ByDrive, BySpace, HasHeard, WithReply, WithLoss, found_first, all_pieces, GoesOnWith, AtOnce, Measured, Checked, Ended, Again, Through, CausedOf}
use Rattle.history_claims.proofs.NoteWords.{beyond}
use Rattle.history_claims.proofs.NoteWalk.{New, none_new, then_new, one_new, audit_note, AuditOn, OnLengths, OnRows, OnNone, Own, MayNote, MayGoOn, MayLose, adds_waits, adds_loses, adds_full, adds_fence, adds_making}

-- ---- a drive that may take a component

stands_nowhere : (drive : ℕ) (cs : List Component) → ((at : Component) → In at cs → at.drive ≢ drive) → stood_on drive cs ≡ false
unfolding stood_on
stands_nowhere drive [] none = refl
stands_nowhere drive (x ∷ cs) none =
    rw (ne_eqb x.drive drive (none x (inl refl))) (stands_nowhere drive cs (λ at i. none at (inr i)))

takes_in : (ds : List Drive) (f : Kept) (k : ℕ) (d : Drive) → In d ds → MayTake ds f k d → In d (takers ds f k)
takes_in ds f k d i m = by f.zoned refl
  where
    free : In d (free_drives ds f.components)
    free = in_filter (λ (e : Drive). e.online && not (stood_on e.number f.components)) d ds i
        (rw (m.online, stands_nowhere d.number f.components m.free) refl)

    by : (b : Bool) → f.zoned ≡ b → In d (takers_by b ds f k)
    by false z = free
    by true z = in_filter _ d (free_drives ds f.components) free (m.room z)

-- ---- a file that was left open

left_open : (f : Kept) → is_unsettled f ≡ true → IsLeftOpen f
left_open f e = by f.grants f.phase refl refl e
  where
    by : (gs : List Grant) (p : Phase) → f.grants ≡ gs → f.phase ≡ p → (nat_lt 0 (length gs) || not (is_still p)) ≡ true
        → IsLeftOpen f
    by (g ∷ gs) p is phase e = inl (λ none. absurd (cc (sym is ∙ none)))
    by [] Still is phase e = absurd (cc e)
    by [] Fencing is phase e = inr (λ still. absurd (cc (sym phase ∙ still)))
    by [] Repairing is phase e = inr (λ still. absurd (cc (sym phase ∙ still)))
    by [] FencingAgain is phase e = inr (λ still. absurd (cc (sym phase ∙ still)))

or_true : (b : Bool) → (b || true) ≡ false → ⊥
or_true true e = cc e
or_true false e = cc e

pub none_open : (f : Kept) → is_unsettled f ≡ false → IsLeftOpen f → ⊥
none_open f e (inl some) = by f.grants refl e
  where
    by : (gs : List Grant) → f.grants ≡ gs → (nat_lt 0 (length gs) || not (is_still f.phase)) ≡ false → ⊥
    by [] is e = some is
    by (g ∷ gs) is e = absurd (grind (arith, nat_tests, e))
none_open f e (inr open_) = by f.phase refl e
  where
    by : (p : Phase) → f.phase ≡ p → (nat_lt 0 (length f.grants) || not (is_still p)) ≡ false → ⊥
    by Still is e = open_ is
    by Fencing is e = or_true (nat_lt 0 (length f.grants)) e
    by Repairing is e = or_true (nat_lt 0 (length f.grants)) e
    by FencingAgain is e = or_true (nat_lt 0 (length f.grants)) e

-- ---- a file's step

-- of file f as the book has it before the step, and as the step leaves it
module _ (s : Server) (ds : List Drive) (i : Input) (f z : File) where
  abbrev pub Caused : NoteKind → Type 0
  Caused kind = CausedOf s ds i f z (told_note kind)

  -- it notes nothing but what has its cause
  abbrev pub Says : (g h : Going) → Type 0
  Says g h = New (Own f.kept.number Caused) g.effects.notes h.effects.notes

  abbrev GoOn : JobKind → Work → List Heard → Type 0
  GoOn = MayGoOn f.kept.number ds z Caused (IsRebuilt s i f) (IsAudited s i f)

  abbrev Lose : JobKind → Work → List Heard → Bool → Type 0
  Lose = MayLose f.kept.number ds z Caused (IsRebuilt s i f) (IsAudited s i f)

  may : MayNote f.kept.number ds z Caused (IsRebuilt s i f) (IsAudited s i f)
  may = record {
    fenced = λ tag. tt;
    repaired = λ stripes short. tt;
    rebuilt = λ k d. tt;
    passed = λ r k at there missing none. (
      r,
      NoneMay at there missing (λ d j m. subst (In d) none (takes_in ds z.kept k d j m)),
    );
    lost = λ r t p nonce none. (r, beyond z.kept t p nonce none);
    audits = λ a none found x job.
        record {
          found = found;
          goes = record { pieces = all_pieces z.kept; first = found_first []; on = AtOnce a none; through = x };
          over = job;
          stripes_are = refl;
          short_are = refl;
          bad_are = refl;
          bytes_are = refl;
        };
  }

  its_audit : (ps : List Piece) (t found : Tally) → GoesOnWith s i f z.kept ps t → Through z.kept ps t [] found → z.job ≡ None
      → Caused (audit_note z.kept found)
  its_audit ps t found on x job = record {
    found = found;
    goes = record { pieces = ps; first = t; on = on; through = x };
    over = job;
    stripes_are = refl;
    short_are = refl;
    bad_are = refl;
    bytes_are = refl;
  }

  -- ---- a job that goes on

  module _ (j : Job) (runs : f.job ≡ Some j) where
    pub goes_on_with : (heard : List Heard) → HasHeard s i f j heard → (work : Work) → j.work ≡ work → (ps : List Piece)
        (t : Tally) → AuditOn z.kept heard work ps t → GoesOnWith s i f z.kept ps t
    goes_on_with heard h Lengths is _ _ OnLengths = Measured j runs is heard h
    goes_on_with heard h (Checks _ _) is _ _ (OnRows p ps t) = Checked j p ps t runs is heard h
    goes_on_with heard h (Checks _ _) is _ _ (OnNone t) = Ended j t runs is
    goes_on_with heard h Creates is ps t x = elim x [ ]
    goes_on_with heard h Fences is ps t x = elim x [ ]
    goes_on_with heard h (Fetches _ _) is ps t x = elim x [ ]
    goes_on_with heard h (Stores _ _ _) is ps t x = elim x [ ]
    goes_on_with heard h (Targets _) is ps t x = elim x [ ]
    goes_on_with heard h (Gathers _ _) is ps t x = elim x [ ]
    goes_on_with heard h (Fills _ _) is ps t x = elim x [ ]

    goes : (heard : List Heard) → HasHeard s i f j heard
        → GoOn j.kind j.work heard
    goes heard h = record {
      rebuilds = λ e. Runs j runs e;
      audited = λ e. RunsAudit j runs e;
      aims = λ t e. Aims t (ap target_of runs ∙ e);
      ready = λ e job ready. record {
        made = WithLast f (ap awaits_creates runs ∙ ap are_creates e);
        over = job;
        ready = ready;
      };
      found = λ ps t on found x job. its_audit ps t found (goes_on_with heard h j.work refl ps t on) x job;
    }

    loses_so : LosesOne s i f → (gone : Bool)
        → (gone ≡ true → (t : Target) → target_in j.work ≡ Some t → Caused (NoDrive t.component))
        → Lose j.kind j.work j.heard gone
    loses_so l gone target = record {
      on = goes j.heard (WithLoss l);
      target = target;
      again = λ ps t is found x job. its_audit ps t found (Again j ps t runs is l) x job;
    }

    -- ---- a reply

    module _ (g : Going) (own : g.file.kept.number ≡ f.kept.number) (same : g.drives ≡ ds) (a : Awaited) (there : In a j.awaited)
        (r : Reply) (x : Answers s i f a) (its : x.reply ≡ r) where
      awaits : In a (awaited_by f.job)
      awaits = subst (λ (o : Option Job). In a (awaited_by o)) (sym runs) there

      no_space : hearing f.kept a r ≡ Full → (k : ℕ) → k ≡ fills_at a (target_of f.job) → IsFull s i f k
      no_space full k at = record {
        awaited = a;
        there = awaits;
        answers = x;
        full = ap (hearing f.kept a) its ∙ full;
        component = at;
      }

      says_lost : hearing f.kept a r ≡ Full → (work : Work) → j.work ≡ work → target_in work ≡ None
          → (loses (noting (with_components g (lose_from (a.component ∷ []) g.file.kept.components 0)) (NoSpace a.component)) j
          work (others j.awaited a.command.nonce) false).file ≡ z
          → Says g (loses (noting (with_components g (lose_from (a.component ∷ []) g.file.kept.components 0))
          (NoSpace a.component)) j work (others j.awaited a.command.nonce) false)
      says_lost full work is none file =
          let h : Going = with_components g (lose_from (a.component ∷ []) g.file.kept.components 0) in
          let lacks : IsFull s i f a.component =
          no_space full a.component (sym (ap (fills_at a) (ap target_of runs ∙ ap target_in is ∙ none))) in
          then_new (Own f.kept.number Caused) g.effects.notes (noting h (NoSpace a.component)).effects.notes _
          (one_new (Own f.kept.number Caused) g.effects.notes
          (record { file = g.file.kept.number; kind = NoSpace a.component }) (own, lacks))
          (adds_loses f.kept.number ds z Caused (IsRebuilt s i f) (IsAudited s i f) may (noting h (NoSpace a.component)) j work
          (others j.awaited a.command.nonce) false
          (subst (λ (w : Work). Lose j.kind w j.heard false) is
          (loses_so (BySpace a.component lacks) false (λ e. absurd (cc e)))) file same own)

      says_full : hearing f.kept a r ≡ Full → (work : Work) → j.work ≡ work → (fills_up g j a work).file ≡ z
          → Says g (fills_up g j a work)
      says_full full (Targets t) is file = says_target full t (ap target_in is) file
        where
          says_target : hearing f.kept a r ≡ Full → (t : Target) → target_in j.work ≡ Some t
              → (target_full g t).file ≡ z → Says g (target_full g t)
          says_target full t aims file =
              adds_full f.kept.number ds z Caused (IsRebuilt s i f) (IsAudited s i f) may (Aims t (ap target_of runs ∙ aims)) g t
              (no_space full t.component (sym (ap (fills_at a) (ap target_of runs ∙ aims)))) file same own
      says_full full (Gathers t todo) is file =
          adds_full f.kept.number ds z Caused (IsRebuilt s i f) (IsAudited s i f) may
          (Aims t (ap target_of runs ∙ ap target_in is)) g t
          (no_space full t.component (sym (ap (fills_at a) (ap target_of runs ∙ ap target_in is)))) file same own
      says_full full (Fills t todo) is file =
          adds_full f.kept.number ds z Caused (IsRebuilt s i f) (IsAudited s i f) may
          (Aims t (ap target_of runs ∙ ap target_in is)) g t
          (no_space full t.component (sym (ap (fills_at a) (ap target_of runs ∙ ap target_in is)))) file same own
      says_full full Creates is file = says_lost full Creates is refl file
      says_full full Fences is file = says_lost full Fences is refl file
      says_full full (Fetches todo short) is file = says_lost full (Fetches todo short) is refl file
      says_full full (Stores todo short broken) is file = says_lost full (Stores todo short broken) is refl file
      says_full full Lengths is file = says_lost full Lengths is refl file
      says_full full (Checks todo t) is file = says_lost full (Checks todo t) is refl file

      pub says_hears : (v : Hearing) → hearing f.kept a r ≡ v → (hears g j a r v).file ≡ z → Says g (hears g j a r v)
      says_hears Older is file = none_new (Own f.kept.number Caused) g.effects.notes
      says_hears Nothing is file = none_new (Own f.kept.number Caused) g.effects.notes
      says_hears Full is file = says_full is j.work refl file
      says_hears Done is file =
          adds_waits f.kept.number ds z Caused (IsRebuilt s i f) (IsAudited s i f) may g j j.work
          (others j.awaited a.command.nonce) (heard_with j a r) (λ none. goes (heard_with j a r) heard) file same own
        where
          heard : HasHeard s i f j (heard_with j a r)
          heard =
              subst (λ (y : Reply). HasHeard s i f j (heard_with j a y)) its
              (WithReply a there x (ap (hearing f.kept a) its ∙ is))

    -- ---- a declared drive

    says_gone : (d : ℕ) → taken_out s i ≡ Some d → (g : Going) → (loses g j j.work (others_than d j.awaited)
        (is_target j.work d)).file ≡ z → g.file.kept.number ≡ f.kept.number → g.drives ≡ ds
        → Says g (loses g j j.work (others_than d j.awaited) (is_target j.work d))
    says_gone d out g file own same =
        adds_loses f.kept.number ds z Caused (IsRebuilt s i f) (IsAudited s i f) may g j j.work (others_than d j.awaited)
        (is_target j.work d) (loses_so (ByDrive d out) (is_target j.work d) (λ gone t aims. (
          Aims t (ap target_of runs ∙ aims),
          ItsIsGone t (ap target_of runs ∙ aims) refl
              (out ∙ ap (λ (n : ℕ). Some n) (sym (on_drive j.work t aims gone))),
        ))) file same own
      where
        on_drive : (work : Work) (t : Target) → target_in work ≡ Some t → is_target work d ≡ true → t.drive ≡ d
        on_drive (Targets u) t aims gone =
            let same_ : u ≡ t = cc aims in subst (λ (y : Target). y.drive ≡ d) same_ (eqb-true u.drive d gone)
        on_drive (Gathers u todo) t aims gone =
            let same_ : u ≡ t = cc aims in subst (λ (y : Target). y.drive ≡ d) same_ (eqb-true u.drive d gone)
        on_drive (Fills u todo) t aims gone =
            let same_ : u ≡ t = cc aims in subst (λ (y : Target). y.drive ≡ d) same_ (eqb-true u.drive d gone)
        on_drive Creates t aims gone = absurd (cc gone)
        on_drive Fences t aims gone = absurd (cc gone)
        on_drive (Fetches todo short) t aims gone = absurd (cc gone)
        on_drive (Stores todo short broken) t aims gone = absurd (cc gone)
        on_drive Lengths t aims gone = absurd (cc gone)
        on_drive (Checks todo u) t aims gone = absurd (cc gone)

  pub says_declares : (d : ℕ) → taken_out s i ≡ Some d → (g : Going) → g.file ≡ f → g.drives ≡ ds → (declares g d).file ≡ z
      → Says g (declares g d)
  unfolding declares
  says_declares d out g own same = by (any_on d g.file.kept.components || targets g.file.job d)
    where
      h : Going
      h = with_components g (lose_on d g.file.kept.components)

      by_job : (o : Option Job) → g.file.job ≡ o → (declared_in h d o).file ≡ z → Says g (declared_in h d o)
      by_job None runs file = none_new (Own f.kept.number Caused) g.effects.notes
      by_job (Some j) runs file =
          says_gone j (ap (λ (x : File). x.job) (sym own) ∙ runs) d out h file
          (ap (λ (x : File). x.kept.number) own) same

      by : (b : Bool) → (if b then declared_in h d g.file.job else g).file ≡ z
          → Says g (if b then declared_in h d g.file.job else g)
      by true file = by_job g.file.job refl file
      by false file = none_new (Own f.kept.number Caused) g.effects.notes

  -- ---- a fence

  -- that is begun by itself, or by an order
  pub says_fence : (kind : JobKind) → (kind ≡ Rebuilding → IsRebuilt s i f) → (kind ≡ Auditing → IsAudited s i f)
      → (format : ℕ) (g : Going) → g.file ≡ f → g.drives ≡ ds → (fence_begins kind format g).file ≡ z
      → Says g (fence_begins kind format g)
  says_fence kind r a format g own same file =
      adds_fence f.kept.number ds z Caused (IsRebuilt s i f) (IsAudited s i f) may kind r a format g file same
      (ap (λ (x : File). x.kept.number) own)

  no_rebuild : Revoking ≡ Rebuilding → IsRebuilt s i f
  no_rebuild e = absurd (cc e)

  no_audit : Revoking ≡ Auditing → IsAudited s i f
  no_audit e = absurd (cc e)

  -- a fence is refused
  pub says_spent : (g : Going) → g.file ≡ f → g.file ≡ z → f.kept.tag ≡ GREATEST_TAG → NeedsOne s i f z
      → Says g (noting g Spent)
  says_spent g own file tag needs =
      one_new (Own f.kept.number Caused) g.effects.notes (record { file = g.file.kept.number; kind = Spent }) (
        ap (λ (x : File). x.kept.number) own,
        record {
          tag = tag;
          needs = needs;
          kept = ap (λ (x : File). x.kept) (sym file ∙ own);
          job = ap (λ (x : File). x.job) (sym file ∙ own);
        },
      )

  -- ---- an opening

  module _ (opened : i ≡ Opens) (room : counters_have_room s ≡ true) (format : ℕ) (g : Going) (own : g.file ≡ f)
      (same : g.drives ≡ ds) where
    says_made : is_unsettled f.kept ≡ false → (b : Bool) → f.kept.ready ≡ b → (opens_made g b).file ≡ z
        → Says g (opens_made g b)
    says_made settled true ready file = none_new (Own f.kept.number Caused) g.effects.notes
    says_made settled false ready file =
        adds_making f.kept.number ds z Caused (IsRebuilt s i f) (IsAudited s i f) g (λ none job done. record {
          made = AtOpening f opened ready (none_open f.kept settled) none;
          over = job;
          ready = done;
        }) file same (ap (λ (x : File). x.kept.number) own)

    says_tag : is_unsettled f.kept ≡ true → (b : Bool) → (f.kept.tag == GREATEST_TAG) ≡ b
        → (if b then opens_spent g else fence_begins Revoking format g).file ≡ z
        → Says g (if b then opens_spent g else fence_begins Revoking format g)
    says_tag left false e file = says_fence Revoking no_rebuild no_audit format g own same file
    says_tag left true e file =
        one_new (Own f.kept.number Caused) g.effects.notes (record { file = g.file.kept.number; kind = Spent }) (
          ap (λ (x : File). x.kept.number) own,
          record {
            tag = eqb-true f.kept.tag GREATEST_TAG e;
            needs = ByOpening opened room (left_open f.kept left);
            kept = ap (λ (x : File). x.kept) (sym file) ∙ ap (λ (x : File). x.kept) own;
            job = ap (λ (x : File). x.job) (sym file) ∙ ap (λ (x : File). x.job) own;
          },
        )

    pub says_opens : (opens format g).file ≡ z → Says g (opens format g)
    unfolding opens opens_fenced
    says_opens file = by (is_unsettled g.file.kept) refl file
      where
        kept : g.file.kept ≡ f.kept
        kept = ap (λ (x : File). x.kept) own

        by : (b : Bool) → is_unsettled g.file.kept ≡ b
            → (if b then (if g.file.kept.tag == GREATEST_TAG then opens_spent g else fence_begins Revoking format g)
            else opens_made g g.file.kept.ready).file ≡ z
            → Says g (if b then (if g.file.kept.tag == GREATEST_TAG then opens_spent g else fence_begins Revoking format g)
            else opens_made g g.file.kept.ready)
        by true e done =
            says_tag (ap is_unsettled (sym kept) ∙ e) (g.file.kept.tag == GREATEST_TAG)
            (ap (λ (k : Kept). k.tag == GREATEST_TAG) (sym kept)) done
        by false e done =
            says_made (ap is_unsettled (sym kept) ∙ e) g.file.kept.ready (ap (λ (k : Kept). k.ready) (sym kept)) done
