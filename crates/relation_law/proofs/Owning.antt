-- What may still come to a present component is of the repair that awaits it, where a fence begins, the server stops or is
-- opened, and a job waits on or goes on.
use Rattle.std.proofs.Common.{◌≡◌, ◌⊎◌, ◌==◌, ◌||◌, ℕ, zero, suc, ◌+◌, Bool, true, false, not, nat_lt, length, List, [], ◌∷◌, map, slice_get, Option, Some, refl, sym, ap, subst, ◌∙◌, inl, inr, arith, if◌then◌else◌}
use Rattle.std.proofs.lemmas.Bool.{cases_Bool, eq-eqb}
use Rattle.osd_commands.specs.declared.commands.Command.{Command}
use Rattle.data_map.specs.declared.check.RawMap.{RawMap}
use Rattle.server_rules.specs.declared.limits.TheConstants.{GREATEST_TAG}
use Rattle.server_rules.specs.Going.{Going, over, waits_on}
use Rattle.server_rules.specs.History.{Input}
use Rattle.server_rules.specs.Jobs.{fencing, fence_begins, waits_or_on, loses}
use Rattle.server_rules.specs.Laws.{In}
use Rattle.server_rules.specs.Openings.{crashed_file, is_still, is_unsettled, opens_made, opens_fenced, opens}
use Rattle.server_rules.specs.Standing.{lose_from}
use Rattle.server_rules.specs.Numbers.{among}
use Rattle.history_law.specs.Names.{File, Phase, Still, Fencing, Repairing, FencingAgain, Component, Awaited, Heard, Piece, Target, Job, JobKind, Revoking, Work, Creates, Fences, Fetches, Stores, Targets, Gathers, Fills, Lengths, Checks}
use Rattle.component_law.specs.Objects.{target_in, target_of}
use Rattle.component_law.specs.Tagged.{is_fence}
use Rattle.component_law.specs.KeptWalk.{WorkFits}
use Rattle.file_simulation.specs.Jobs.{IsInPiece, IsOfWork, IsOfJob, IsOfPhase}
use Rattle.relation_law.specs.Owning.{Coming, IsOld, AreOfPhase, IsReady}
use Rattle.relation_law.proofs.Walk.{AtFence, place_behind, lost_place, broken, waits_for, walk_fence, walk_making, walk_waits, walk_loses}
use Rattle.relation_law.proofs.Places.{KeepPlaces}
use Rattle.relation_law.proofs.Ways.{IsAlike, alike_spent}
use Rattle.relation_law.proofs.OwningPlaces.{Clear, Ended, IsNew, PlaceOwns, Owns, clear_owns, own_cases}

-- ---- components that are lost

pub lost_at : (ks : List ℕ) (cs : List Component) (n i : ℕ) (at : Component) → among (n + i) ks ≡ true →
    slice_get (lose_from ks cs n) i ≡ Some at → at.missing ≡ true
unfolding lose_from
lost_at ks [] n i at is e = absurd (cc e)
lost_at ks (c ∷ cs) n zero at is e =
    let here : among n ks ≡ true = ap (λ (m : ℕ). among m ks) (omega arith) ∙ is in
    let same : record c { missing = true } ≡ at = cc (rw here at e) in
    ap (λ (x : Component). x.missing) (sym same)
lost_at ks (c ∷ cs) n (suc i) at is e =
    let next : (n + 1) + i ≡ n + suc i = omega arith in
    lost_at ks cs (n + 1) i at (ap (λ (m : ℕ). among m ks) next ∙ is) e

pub among_one : (k : ℕ) → among k (k ∷ []) ≡ true
unfolding among
among_one k = rw (eq-eqb k k refl) refl

-- ---- the phase

-- what is of a phase stays so while the map and the job do
phase_kept : (f h : File) (k : ℕ) (x : Command) (p : Phase) → h.kept.map ≡ f.kept.map → h.job ≡ f.job →
    IsOfPhase f k x p → IsOfPhase h k x p
phase_kept f h k x Still map job is = is
phase_kept f h k x Fencing map job is = is
phase_kept f h k x FencingAgain map job is = tt
phase_kept f h k x Repairing map job is =
    subst (λ (m : RawMap). IsOfJob m k x h.job) (sym map) (subst (λ (o : Option Job). IsOfJob f.kept.map k x o) (sym job) is)

-- a job's work tells in which phase it can be
work_phase : (p : Phase) (work : Work) → WorkFits p work →
    ((p ≡ Still) ⊎ (p ≡ Repairing)) ⊎ ((work ≡ Fences) × (is_fence p ≡ true))
work_phase p Creates fits = inl (inl fits)
work_phase p Fences fits = inr (refl, fits)
work_phase p (Fetches todo short) fits = inl (inr fits)
work_phase p (Stores todo short b) fits = inl (inr fits)
work_phase p (Targets t) fits = inl (inl fits)
work_phase p (Gathers t todo) fits = inl (inl fits)
work_phase p (Fills t todo) fits = inl (inl fits)
work_phase p Lengths fits = inl (inl fits)
work_phase p (Checks todo t) fits = inl (inl fits)

module _ (C : Coming) (i : Input) (f : File) (ready : IsReady C i f) where
  abbrev pub Known : List Component → Type 0
  Known cs = Clear C f cs

  -- ---- the file as it is

  pub kept_owns : (g h : Going) → IsAlike g h → Owns C f g → Owns C f h
  kept_owns g h a (inl e) = inl (e.0, a.notes _ e.1)
  kept_owns g h a (inr owned) = inr (λ k at x there stands old comes object.
      let was = a.places.back k at there in
      let drive = was.2.drive in
      subst (IsOfPhase h.file k x) (sym a.phase)
      (phase_kept g.file h.file k x g.file.kept.phase a.map a.job
      (owned k was.0 x was.1 (was.2.missing stands) (old.0, old.1, old.2 ∙ was.2.object)
      (subst (λ (d : ℕ). C d x) drive comes) (object ∙ was.2.object))))

  pub here_owns : (g : Going) → g.file ≡ f → Owns C f g
  here_owns g same = inr (subst (AreOfPhase C f) (sym same) ready.owned)

  -- in these phases nothing comes
  pub quiet_clear : (g : Going) → g.file ≡ f → (f.kept.phase ≡ Still) ⊎ (f.kept.phase ≡ Fencing) → Known g.file.kept.components
  quiet_clear g same quiet k at x there stands old comes object =
      let was : IsOfPhase f k x f.kept.phase =
      ready.owned k at x (ap (λ (y : File). slice_get y.kept.components k) (sym same) ∙ there) stands old comes object in
      elim quiet [
        | inl still ↦ subst (IsOfPhase f k x) still was
        | inr fences ↦ subst (IsOfPhase f k x) fences was
      ]

  -- ---- a fence begins

  fencing_place : (g : Going) (format : ℕ) → g.file ≡ f → (p : Phase) → f.kept.phase ≡ p →
      (fencing f.kept.phase ≡ FencingAgain) ⊎ Known f.kept.components
  fencing_place g format same Still is = inr (quiet_clear (record g { file = f }) refl (inl is))
  fencing_place g format same Fencing is = inr (quiet_clear (record g { file = f }) refl (inr is))
  fencing_place g format same Repairing is = inl (ap fencing is)
  fencing_place g format same FencingAgain is = inl (ap fencing is)

  pub fence_owns : (g : Going) (kind : JobKind) (format : ℕ) → g.file ≡ f → Owns C f (fence_begins kind format g)
  fence_owns g kind format same =
      walk_fence (PlaceOwns C f) (Owns C f) (own_cases C f) kind format g (
        ap (λ (y : File). y.kept.number) same,
        elim (fencing_place g format same f.kept.phase refl) [
          | inl again ↦ inl (ap (λ (y : File). fencing y.kept.phase) same ∙ again)
          | inr clear ↦ inr (inr (subst (λ (y : File). Known y.kept.components) (sym same) clear))
        ],
      )

  -- ---- an opening, and a crash

  still_by : (g : Going) → g.file ≡ f → is_unsettled g.file.kept ≡ false → f.kept.phase ≡ Still
  still_by g same e = by_phase f.kept.phase (ap (λ (y : File). is_still y.kept.phase) (sym same) ∙ settled)
    where
      settled : is_still g.file.kept.phase ≡ true
      settled = either (nat_lt 0 (length g.file.kept.grants)) (is_still g.file.kept.phase) e
        where
          either : (a b : Bool) → (a || not b) ≡ false → b ≡ true
          either true b x = absurd (cc x)
          either false true x = refl
          either false false x = absurd (cc x)

      by_phase : (p : Phase) → is_still p ≡ true → p ≡ Still
      by_phase Still x = refl
      by_phase Fencing x = absurd (cc x)
      by_phase Repairing x = absurd (cc x)
      by_phase FencingAgain x = absurd (cc x)

  number_of : (g : Going) → g.file ≡ f → g.file.kept.number ≡ f.kept.number
  number_of g same = ap (λ (y : File). y.kept.number) same

  pub opens_owns : (g : Going) (format : ℕ) → g.file ≡ f → Owns C f (opens format g)
  unfolding opens opens_fenced
  opens_owns g format same = elim (cases_Bool (is_unsettled g.file.kept)) [
    | inl open_ ↦ rw open_ (pick (g.file.kept.tag == GREATEST_TAG) _ _
        (kept_owns g _ (alike_spent g) (here_owns g same)) (fence_owns g Revoking format same))
    | inr settled ↦ rw settled (by_ready g.file.kept.ready (quiet_clear g same (inl (still_by g same settled))))
  ]
    where
      pick : (b : Bool) (x y : Going) → Owns C f x → Owns C f y → Owns C f (if b then x else y)
      pick true x y p q = p
      pick false x y p q = q

      by_ready : (b : Bool) → Known g.file.kept.components → Owns C f (opens_made g b)
      by_ready true clear = inr (clear_owns C f (over g).file clear)
      by_ready false clear =
          walk_making (PlaceOwns C f) (Owns C f) (own_cases C f) g (number_of g same, inr clear)

  pub crash_owns : (g : Going) → g.file ≡ crashed_file f → Owns C f g
  crash_owns g same = inr (subst (AreOfPhase C f) (sym same) (λ k at x there stands old comes object.
      by_phase k x f.kept.phase (ready.owned k at x there stands old comes object)))
    where
      by_phase : (k : ℕ) (x : Command) (p : Phase) → IsOfPhase f k x p → IsOfPhase (crashed_file f) k x p
      by_phase k x Still is = is
      by_phase k x Fencing is = is
      by_phase k x Repairing is = tt
      by_phase k x FencingAgain is = tt

  -- ---- a job

  -- while a job that isn't a fence runs, each that comes is of the job's work
  of_job : (j : Job) → f.job ≡ Some j → (k : ℕ) (at : Component) (x : Command) →
      slice_get f.kept.components k ≡ Some at → at.missing ≡ false → IsOld f k at → C at.drive x → x.object ≡ at.object →
      (f.kept.phase ≡ FencingAgain) ⊎ IsOfWork f.kept.map j.awaited k x j.work
  of_job j runs k at x there stands old comes object =
      by_phase f.kept.phase refl (ready.owned k at x there stands old comes object)
    where
      by_phase : (p : Phase) → f.kept.phase ≡ p → IsOfPhase f k x p →
          (f.kept.phase ≡ FencingAgain) ⊎ IsOfWork f.kept.map j.awaited k x j.work
      by_phase Still is own = absurd own
      by_phase Fencing is own = absurd own
      by_phase Repairing is own = inr (subst (λ (o : Option Job). IsOfJob f.kept.map k x o) runs own)
      by_phase FencingAgain is own = inl is

  pub not_again : (j : Job) → f.job ≡ Some j → f.kept.phase ≡ FencingAgain → j.work ≡ Fences
  not_again j runs again = elim (work_phase f.kept.phase j.work (ready.phase j runs)) [
    | inl (inl still) ↦ absurd (cc (sym again ∙ still))
    | inl (inr repairs) ↦ absurd (cc (sym again ∙ repairs))
    | inr fences ↦ fences.0
  ]

  -- the file is as it was, but that components may be lost
  pub record IsOf (h : Going) : Type 0 where
    pub job : h.file.job ≡ f.job
    pub number : h.file.kept.number ≡ f.kept.number
    pub map : h.file.kept.map ≡ f.kept.map
    pub phase : h.file.kept.phase ≡ f.kept.phase
    pub places : KeepPlaces f.kept.components h.file.kept.components

  pub of_alike : (g h : Going) → g.file ≡ f → IsAlike g h → IsOf h
  of_alike g h same a = record {
    job = a.job ∙ ap (λ (y : File). y.job) same;
    number = a.number ∙ ap (λ (y : File). y.kept.number) same;
    map = a.map ∙ ap (λ (y : File). y.kept.map) same;
    phase = a.phase ∙ ap (λ (y : File). y.kept.phase) same;
    places = subst (λ (y : File). KeepPlaces y.kept.components h.file.kept.components) same a.places;
  }

  clear_kept : (ds : List Component) → KeepPlaces f.kept.components ds → Known f.kept.components → Known ds
  clear_kept ds keeps clear k at x there stands old comes object =
      let was = keeps.back k at there in
      clear k was.0 x was.1 (was.2.missing stands) (old.0, old.1, old.2 ∙ was.2.object)
      (subst (λ (d : ℕ). C d x) was.2.drive comes) (object ∙ was.2.object)

  -- what a WRITE of a repair tells of its work
  pub record IsStored (j : Job) (k : ℕ) (x : Command) : Type 0 where
    pub piece : Piece
    pub todo : List Piece
    pub short : List ℕ
    pub is_broken : Bool
    pub work : j.work ≡ Stores (piece ∷ todo) short is_broken
    pub command : Awaited
    pub awaits : In command j.awaited
    pub component : command.component ≡ k
    pub is : x ≡ record command.command { check = x.check }
    pub inside : IsInPiece f.kept.map piece k x

  stored_by : (j : Job) (k : ℕ) (x : Command) (work : Work) → j.work ≡ work → IsOfWork f.kept.map j.awaited k x work →
      IsStored j k x
  stored_by j k x (Stores [] short b) is own = absurd own
  stored_by j k x (Stores (p ∷ ps) short b) is own = record {
    piece = p;
    todo = ps;
    short = short;
    is_broken = b;
    work = is;
    command = own.0.0;
    awaits = own.0.1;
    component = own.0.2;
    is = own.0.3;
    inside = own.1;
  }
  stored_by j k x Creates is own = absurd own
  stored_by j k x Fences is own = absurd own
  stored_by j k x (Fetches todo short) is own = absurd own
  stored_by j k x (Targets t) is own = absurd own
  stored_by j k x (Gathers t todo) is own = absurd own
  stored_by j k x (Fills t todo) is own = absurd own
  stored_by j k x Lengths is own = absurd own
  stored_by j k x (Checks todo t) is own = absurd own

  module _ (h : Going) (j : Job) (runs : f.job ≡ Some j) (of : IsOf h) (rest : List Awaited) where
    -- what comes to a component that is still present is awaited, or a fence is waited for again
    pub comes_to : (k : ℕ) (at : Component) (x : Command) → slice_get h.file.kept.components k ≡ Some at →
        at.missing ≡ false → IsOld f k at → C at.drive x → x.object ≡ at.object →
        (f.kept.phase ≡ FencingAgain) ⊎ IsStored j k x
    comes_to k at x there stands old comes object =
        let was = of.places.back k at there in
        elim (of_job j runs k was.0 x was.1 (was.2.missing stands) (old.0, old.1, old.2 ∙ was.2.object)
        (subst (λ (d : ℕ). C d x) was.2.drive comes) (object ∙ was.2.object)) [
          | inl again ↦ inl again
          | inr own ↦ inr (stored_by j k x j.work refl own)
        ]

    -- those that aren't done are left
    abbrev pub AreLeft : Type 0
    AreLeft =
        (k : ℕ) (at : Component) (x : Command) → slice_get h.file.kept.components k ≡ Some at → at.missing ≡ false →
        IsOld f k at → C at.drive x → x.object ≡ at.object → (s : IsStored j k x) → In s.command rest

    module _ (left : AreLeft) where
      -- the job waits on
      waits_owns : (c : Awaited) (cs : List Awaited) (heard : List Heard) (work : Work) → rest ≡ c ∷ cs →
          ((p : Piece) (ps : List Piece) (short : List ℕ) (b : Bool) → j.work ≡ Stores (p ∷ ps) short b →
          (a : Bool) × (work ≡ Stores (p ∷ ps) short a)) → Owns C f (waits_on h j work c cs heard)
      waits_owns c cs heard work e same = inr (λ k at x there stands old comes object.
          elim (comes_to k at x there stands old comes object) [
            | inl again ↦ subst (IsOfPhase F k x) (sym (of.phase ∙ again)) tt
            | inr s ↦ by_store k x s
                (subst (λ (ws : List Awaited). In s.command ws) e (left k at x there stands old comes object s))
          ])
        where
          F : File
          F = (waits_on h j work c cs heard).file

          repairs : (work : Work) → (p : Piece) → (ps : List Piece) → (short : List ℕ) → (b : Bool) →
              work ≡ Stores (p ∷ ps) short b → WorkFits f.kept.phase work → f.kept.phase ≡ Repairing
          repairs work p ps short b is fits = subst (WorkFits f.kept.phase) is fits

          by_store : (k : ℕ) (x : Command) (s : IsStored j k x) → In s.command (c ∷ cs) → IsOfPhase F k x F.kept.phase
          by_store k x s i =
              let w = same s.piece s.todo s.short s.is_broken s.work in
              subst (IsOfPhase F k x) (sym (of.phase ∙ repairs j.work s.piece s.todo s.short s.is_broken s.work
              (ready.phase j runs)))
              (subst (λ (y : Work). IsOfWork F.kept.map (c ∷ cs) k x y) (sym w.1)
              ((s.command, i, s.component, s.is), subst (λ (m : RawMap). IsInPiece m s.piece k x) (sym of.map) s.inside))

      -- nothing comes where nothing is left
      clear_where : (waits_for j.work ≡ true → rest ≡ []) → (p : Phase) → f.kept.phase ≡ p →
          (f.kept.phase ≡ FencingAgain) ⊎ Known h.file.kept.components
      clear_where none Still is =
          inr (clear_kept h.file.kept.components of.places (quiet_clear (record h { file = f }) refl (inl is)))
      clear_where none Fencing is =
          inr (clear_kept h.file.kept.components of.places (quiet_clear (record h { file = f }) refl (inr is)))
      clear_where none FencingAgain is = inl is
      clear_where none Repairing is = inr (λ k at x there stands old comes object.
          elim (comes_to k at x there stands old comes object) [
            | inl again ↦ cc (sym is ∙ again)
            | inr s ↦
                subst (λ (ws : List Awaited). In s.command ws) (none (ap waits_for s.work))
                (left k at x there stands old comes object s)
          ])

      -- so the job may go on there, but for a fence
      unless_fence : (waits_for j.work ≡ true → rest ≡ []) → (j.work ≡ Fences → ⊥) →
          Ended C f h ⊎ Known h.file.kept.components
      unless_fence none other = elim (clear_where none f.kept.phase refl) [
        | inl again ↦ absurd (other (not_again j runs again))
        | inr clear ↦ inr clear
      ]

      at_fence : rest ≡ [] → PlaceOwns C f AtFence h
      at_fence none = (
        of.number,
        elim (clear_where (λ waits. none) f.kept.phase refl) [
          | inl again ↦ inl (of.phase ∙ again)
          | inr clear ↦ inr (inr clear)
        ],
      )

      new_target : (t : Target) → target_in j.work ≡ Some t → IsNew C f t
      new_target t is = ready.apart t (ap target_of runs ∙ is)

      lost_owns : (work : Work) → j.work ≡ work → (waits_for j.work ≡ true → rest ≡ []) →
          PlaceOwns C f (lost_place h.file.kept work) h
      lost_owns Creates is none = (of.number, unless_fence none (λ e. cc (sym is ∙ e)))
      lost_owns Fences is none = at_fence (none (ap waits_for is))
      lost_owns (Fetches todo short) is none = (of.number, unless_fence none (λ e. cc (sym is ∙ e)))
      lost_owns (Stores todo short b) is none = (of.number, unless_fence none (λ e. cc (sym is ∙ e)))
      lost_owns (Targets t) is none =
          (of.number, unless_fence none (λ e. cc (sym is ∙ e)), new_target t (ap target_in is))
      lost_owns (Gathers t todo) is none =
          (of.number, unless_fence none (λ e. cc (sym is ∙ e)), new_target t (ap target_in is))
      lost_owns (Fills t todo) is none =
          (of.number, unless_fence none (λ e. cc (sym is ∙ e)), new_target t (ap target_in is))
      lost_owns Lengths is none = (of.number, unless_fence none (λ e. cc (sym is ∙ e)))
      lost_owns (Checks todo t) is none = (of.number, unless_fence none (λ e. cc (sym is ∙ e)))

      behind_owns : (work : Work) (heard : List Heard) → j.work ≡ work → rest ≡ [] →
          PlaceOwns C f (place_behind h.file.kept work heard) h
      behind_owns Creates heard is none = (of.number, unless_fence (λ w. none) (λ e. cc (sym is ∙ e)))
      behind_owns Fences heard is none = at_fence none
      behind_owns (Fetches [] short) heard is none = (of.number, unless_fence (λ w. none) (λ e. cc (sym is ∙ e)))
      behind_owns (Fetches (p ∷ ps) short) heard is none = (of.number, unless_fence (λ w. none) (λ e. cc (sym is ∙ e)))
      behind_owns (Stores [] short b) heard is none = (of.number, unless_fence (λ w. none) (λ e. cc (sym is ∙ e)))
      behind_owns (Stores (p ∷ ps) short true) heard is none =
          (of.number, unless_fence (λ w. none) (λ e. cc (sym is ∙ e)))
      behind_owns (Stores (p ∷ ps) short false) heard is none =
          (of.number, unless_fence (λ w. none) (λ e. cc (sym is ∙ e)))
      behind_owns (Targets t) heard is none =
          (of.number, unless_fence (λ w. none) (λ e. cc (sym is ∙ e)), new_target t (ap target_in is))
      behind_owns (Gathers t []) heard is none =
          (of.number, unless_fence (λ w. none) (λ e. cc (sym is ∙ e)), new_target t (ap target_in is))
      behind_owns (Gathers t (p ∷ ps)) heard is none =
          (of.number, unless_fence (λ w. none) (λ e. cc (sym is ∙ e)), new_target t (ap target_in is))
      behind_owns (Fills t []) heard is none =
          (of.number, unless_fence (λ w. none) (λ e. cc (sym is ∙ e)), new_target t (ap target_in is))
      behind_owns (Fills t (p ∷ ps)) heard is none =
          (of.number, unless_fence (λ w. none) (λ e. cc (sym is ∙ e)), new_target t (ap target_in is))
      behind_owns Lengths heard is none = (of.number, unless_fence (λ w. none) (λ e. cc (sym is ∙ e)))
      behind_owns (Checks [] t) heard is none = (of.number, unless_fence (λ w. none) (λ e. cc (sym is ∙ e)))
      behind_owns (Checks (p ∷ ps) t) heard is none = (of.number, unless_fence (λ w. none) (λ e. cc (sym is ∙ e)))

      -- a component is lost
      pub loses_owns : (gone : Bool) → Owns C f h → Owns C f (loses h j j.work rest gone)
      loses_owns gone here =
          walk_loses (PlaceOwns C f) (Owns C f) (own_cases C f) h j j.work rest gone refl (record {
            waits = λ c cs e. waits_owns c cs j.heard (broken j.work) e
                (λ p ps short b is. (true, ap broken is));
            stays = here;
            on = lost_owns j.work refl;
          })

      -- a command is answered
      pub answered_owns : (heard : List Heard) → Owns C f (waits_or_on h j j.work rest heard)
      answered_owns heard =
          walk_waits (PlaceOwns C f) (Owns C f) (own_cases C f) h j j.work rest heard
          (λ c cs e. waits_owns c cs heard j.work e (λ p ps short b is. (b, is)))
          (behind_owns j.work heard refl)
