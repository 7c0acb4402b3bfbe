-- A file that had a grant or a fence when the server crashed: what holds of it from there on, move by move.
use Rattle.std.proofs.Common.{◌≡◌, ◌≢◌, ◌⊎◌, ◌||◌, ℕ, ◌+◌, ◌<◌, Bool, true, false, true≢false, not, List, [], ◌∷◌, ◌++◌, Option, Some, None, refl, sym, ap, subst, ◌∙◌, arith, inl, inr}
use Rattle.std.proofs.lemmas.Bool.{cases_eq, eq-eqb, ne_eqb, false≢true}
use Rattle.scenario_text.specs.declared.names.TheConstants.{FILES}
use Rattle.scenario_text.specs.declared.line.Line.{Line}
use Rattle.server_rules.specs.declared.limits.TheConstants.{GREATEST_TAG}
use Rattle.server_rules.specs.Files.{file_at}
use Rattle.server_rules.specs.History.{Input, Makes, Crashes, Opens, step}
use Rattle.server_rules.specs.Laws.{In, AreSafe, NoneBeside}
use Rattle.server_rules.specs.Messages.{counters_have_room}
use Rattle.server_rules.specs.Openings.{crashed_file, is_still, is_unsettled}
use Rattle.server_rules.proofs.FileLaws.{number_at, safe_at}
use Rattle.server_rules.proofs.Members.{in_either}
use Rattle.world_history.specs.ServerNames.{Server, File, Grant, Job, Note}
use Rattle.world_history.specs.State.{World}
use Rattle.world_history.specs.Sending.{Move, move}
use Rattle.history_law.specs.Moments.{lines_in}
use Rattle.history_law.proofs.Files.{in_at}
use Rattle.history_law.specs.Fencing.{is_fencing}
use Rattle.component_law.specs.Naming.{IsNamedInput}
use Rattle.component_law.specs.Distinct.{AreDistinct}
use Rattle.component_law.specs.Sound.{IsSound}
use Rattle.component_law.specs.Tags.{fence_note, EachStepRaisesTags}
use Rattle.component_law.specs.Words.{Each}
use Rattle.component_law.proofs.Steps.{makes}
use Rattle.cause_law.specs.Reopened.{crash_line, reopen_line, NoneOver}
use Rattle.cause_law.proofs.Fences.{IsUnder, Fence}
use Rattle.cause_law.proofs.ReopenMoving.{TellFences, NoRestart, Moves, Crashing, Opening, Resting, Serving}
use Rattle.cause_law.proofs.ReopenNoting.{step_tells}
use Rattle.cause_law.proofs.Opening.{IsDue}
use Rattle.cause_law.proofs.Refusing.{IsSpent}
use Rattle.cause_law.proofs.ReopenSteps.{At, is_restart, fence_stays, spent_stays, made_stays, crash_leaves, fence_begun, spent_noted}

-- ---- one file

-- the file of the number is so
abbrev pub One : (n : ℕ) → (File → Type 0) → List File → Type 0
One n Q fs = (f : File) × (file_at fs n ≡ Some f) × Q f

pub of_each : (P : File → Type 0) (fs : List File) (f : File) → Each P fs → In f fs → P f
of_each P [] f e i = absurd i
of_each P (x ∷ fs) f e (inl same) = subst P (sym same) e.0
of_each P (x ∷ fs) f e (inr i) = of_each P fs f e.1 i

-- where no two have one number, it is the only one that has it
all_of : (n : ℕ) (Q : File → Type 0) (fs : List File) → AreDistinct fs → One n Q fs → At n Q fs
unfolding file_at
all_of n Q [] d o f i here = absurd i
all_of n Q (x ∷ fs) d (g, found, q) f i here = elim (cases_eq x.kept.number n) [
  | inl same ↦
      let first : x ≡ g = cc (rw (eq-eqb x.kept.number n same) at found) in
      elim i [
        | inl it ↦ subst Q (sym (it ∙ first)) q
        | inr j ↦
            absurd (of_each (λ (y : File). y.kept.number ≡ x.kept.number → ⊥) fs f d.0 j (here ∙ sym same))
      ]
  | inr other ↦ elim i [
    | inl it ↦ absurd (other (ap (λ (y : File). y.kept.number) (sym it) ∙ here))
    | inr j ↦ all_of n Q fs d.1 (g, rw (ne_eqb x.kept.number n other) at found, q) f j here
  ]
]

-- ---- a step

module _ (raise : EachStepRaisesTags) (n : ℕ) (s : Server) (chosen : List ℕ) (i : Input) (sound : IsSound s) where
  -- what is so of each file with the number, is so of the one that is there
  one_behind : (Q R : File → Type 0) → At n R (step s chosen i).state.files → One n Q s.files
      → One n R (step s chosen i).state.files
  one_behind Q R all (f, found, q) =
      let r = raise s chosen i sound n f found in (
        r.behind,
        r.there,
        all r.behind (in_at (step s chosen i).state.files n r.behind r.there)
            (number_at (step s chosen i).state.files n r.behind r.there),
      )

  -- no note tells that a fence of the file is over
  abbrev NoneNoted : Type 0
  NoneNoted = (tag : ℕ) → In (fence_note n tag) (step s chosen i).notes → ⊥

  -- then the fence is under way still
  under_way : (tag : ℕ) (Q : File → Type 0) → ((f : File) → Q f → f.kept.tag ≡ tag) → IsNamedInput i → makes i ≡ false → NoneNoted
      → One n Q s.files → One n (Fence tag) (step s chosen i).state.files → One n (IsUnder tag) (step s chosen i).state.files
  under_way tag Q has named none quiet (f, found, q) (g, there, inl u) = (g, there, u)
  under_way tag Q has named none quiet (f, found, q) (g, there, inr later) =
      absurd (elim (step_tells s chosen i sound named none n f g found there) [
        | inl same ↦ absurd (next tag (sym later ∙ same ∙ has f q))
        | inr noted ↦ quiet g.kept.tag noted
      ])
    where
      next : (t : ℕ) → t + 1 ≡ t → ⊥
      next t e = absurd (omega (arith, e))

-- a step of a server that is up
serves_on : EachStepRaisesTags → (n : ℕ) (s : Server) (chosen : List ℕ) (i : Input) → IsSound s → AreSafe s.files
    → is_restart i ≡ false → IsNamedInput i → (tag : ℕ) → ((t : ℕ) → In (fence_note n t) (step s chosen i).notes → ⊥)
    → One n (IsUnder tag) s.files → One n (IsUnder tag) (step s chosen i).state.files
serves_on raise n s chosen (Makes m r t zoned) sound safe plain named tag quiet (f, found, u) =
    (f, made_stays s chosen m r t zoned n f found, u)
serves_on raise n s chosen i sound safe plain named tag quiet (f, found, u) =
    under_way raise n s chosen i sound tag (IsUnder tag) (λ x v. v.2) named refl quiet (f, found, u)
    (one_behind raise n s chosen i sound (IsUnder tag) (Fence tag)
    (fence_stays n s chosen i f found safe plain tag (all_of n (IsUnder tag) s.files sound.distinct (f, found, u)))
    (f, found, u))

-- ---- stages

-- the server crashed again while a fence was under way
abbrev pub IsDueAgain : (tag : ℕ) → File → Type 0
IsDueAgain tag f = IsDue tag f × (f.kept.grants ≡ [])

-- From the crash on, behind these lines: the server wasn't opened yet; a fence is under way; the server crashed again
-- meanwhile; or the fence was refused.
pub data Stage (n tag : ℕ) (ls : List Line) (w : World) : Type 0 where
  Crashed : w.down ≡ true → (In reopen_line ls → ⊥) → One n (IsDue tag) w.server.files → Stage n tag ls w
  Fenced : w.down ≡ false → tag ≢ GREATEST_TAG → One n (IsUnder tag) w.server.files → Stage n tag ls w
  Again : w.down ≡ true → tag ≢ GREATEST_TAG → One n (IsDueAgain tag) w.server.files → Stage n tag ls w
  Refused : w.down ≡ false → tag ≡ GREATEST_TAG → One n IsSpent w.server.files → Stage n tag ls w

-- where a fence is under way, or the server crashed in it, no grant is live
grants_none : (o : Option Job) (gs : List Grant) → is_fencing o ≡ true → NoneBeside o gs → gs ≡ []
grants_none None gs f none = absurd (false≢true f)
grants_none (Some j) gs f none = none

pub under_none : (n tag : ℕ) (s : Server) → AreSafe s.files → One n (IsUnder tag) s.files
    → One n (λ (f : File). f.kept.grants ≡ []) s.files
under_none n tag s safe (f, found, u) =
    (f, found, grants_none f.job f.kept.grants u.0 (safe_at s.files n f safe found).alone)

-- a phase other than Still makes a file unsettled
unsettled : (b p : Bool) → p ≡ false → (b || not p) ≡ true
unsettled true false e = refl
unsettled false false e = refl
unsettled b true e = absurd (true≢false e)

-- a step by the states of two worlds
abbrev pub Behind : World → Move → (n : ℕ) → (File → Type 0) → Type 0
Behind w m n Q = One n Q (move w m).world.server.files

module _ (raise : EachStepRaisesTags) (n tag : ℕ) (w : World) (m : Move) (sound : IsSound w.server)
    (safe : AreSafe w.server.files) (known : n < FILES) (quiet : NoneOver n (lines_in w m)) where
  abbrev After : (File → Type 0) → Type 0
  After Q = Behind w m n Q

  by_state : (t : Server) (Q : File → Type 0) → (move w m).world.server ≡ t → One n Q t.files → After Q
  by_state t Q e o = subst (λ (s : Server). One n Q s.files) (sym e) o

  by_files : (Q : File → Type 0) → (move w m).world.server.files ≡ w.server.files → One n Q w.server.files → After Q
  by_files Q e o = subst (One n Q) (sym e) o

  none_noted : (ns : List Note) → TellFences ns (lines_in w m) → (t : ℕ) → In (fence_note n t) ns → ⊥
  none_noted ns told t i = quiet t (told n t known i)

  crash_behind : (Q R : File → Type 0) → ((f : File) → Q f → R (crashed_file f))
      → (move w m).world.server ≡ (step w.server m.chosen Crashes).state → One n Q w.server.files → After R
  crash_behind Q R leaves e o =
      by_state (step w.server m.chosen Crashes).state R e
      (one_behind raise n w.server m.chosen Crashes sound Q R
      (crash_leaves n Q R w.server m.chosen leaves (all_of n Q w.server.files sound.distinct o)) o)

  -- a fence under way: so it is behind the move, or the server crashed in it
  pub fenced_on : w.down ≡ false → One n (IsUnder tag) w.server.files → Moves w m
      → (((move w m).world.down ≡ false) × After (IsUnder tag)) ⊎ (((move w m).world.down ≡ true) × After (IsDueAgain tag))
  fenced_on up o (Crashing lines awake state down) =
      inr (
        down,
        crash_behind (λ f. IsUnder tag f × (f.kept.grants ≡ [])) (IsDueAgain tag)
            (λ f q. ((unsettled _ (is_still f.kept.phase) q.0.1, refl, q.0.2), q.1)) state (with_none o),
      )
    where
      with_none : One n (IsUnder tag) w.server.files → One n (λ f. IsUnder tag f × (f.kept.grants ≡ [])) w.server.files
      with_none (f, found, u) =
          (f, found, (u, grants_none f.job f.kept.grants u.0 (safe_at w.server.files n f safe found).alone))
  fenced_on up o (Opening there asleep state down told) = absurd (true≢false (sym asleep ∙ up))
  fenced_on up o (Resting none files down) = inl (down ∙ up, by_files (IsUnder tag) files o)
  fenced_on up o (Serving i none plain named awake down state told) =
      inl (
        down,
        by_state (step w.server m.chosen i).state (IsUnder tag) state
            (serves_on raise n w.server m.chosen i sound safe plain named tag
            (none_noted (step w.server m.chosen i).notes told) o),
      )

  -- the opening begins one
  begins_fence : (Q : File → Type 0) → ((f : File) → Q f → IsDue tag f) → counters_have_room w.server ≡ true
      → tag ≢ GREATEST_TAG → (move w m).world.server ≡ (step w.server m.chosen Opens).state
      → TellFences (step w.server m.chosen Opens).notes (lines_in w m) → One n Q w.server.files → After (IsUnder tag)
  begins_fence Q due room less state told o =
      let all : At n (IsDue tag) w.server.files =
      λ f i here. due f (all_of n Q w.server.files sound.distinct o f i here) in
      by_state (step w.server m.chosen Opens).state (IsUnder tag) state
      (under_way raise n w.server m.chosen Opens sound tag Q (λ f q. (due f q).2) tt refl
      (none_noted (step w.server m.chosen Opens).notes told) o
      (one_behind raise n w.server m.chosen Opens sound Q (Fence tag)
      (fence_begun n tag w.server m.chosen room less all) o))

  -- each stage goes on
  module _ (room : counters_have_room w.server ≡ true) (ls : List Line)
      (once : tag ≡ GREATEST_TAG → In crash_line (lines_in w m) → ⊥) where
    abbrev Next : Type 0
    Next = Stage n tag (ls ++ lines_in w m) (move w m).world

    not_opened : (In reopen_line ls → ⊥) → NoRestart (lines_in w m) → In reopen_line (ls ++ lines_in w m) → ⊥
    not_opened before none i = elim (in_either reopen_line ls (lines_in w m) i) [
      | inl j ↦ before j
      | inr j ↦ none.1 j
    ]

    from_crash : w.down ≡ true → (In reopen_line ls → ⊥) → One n (IsDue tag) w.server.files → Moves w m → Next
    from_crash asleep none o (Crashing lines awake state down) = absurd (true≢false (sym asleep ∙ awake))
    from_crash asleep none o (Opening there down_ state down told) = elim (cases_eq tag GREATEST_TAG) [
      | inl greatest ↦
          Refused down greatest (by_state (step w.server m.chosen Opens).state IsSpent state
          (one_behind raise n w.server m.chosen Opens sound (IsDue tag) IsSpent
          (spent_noted n tag w.server m.chosen room greatest (all_of n (IsDue tag) w.server.files sound.distinct o)) o))
      | inr less ↦ Fenced down less (begins_fence (IsDue tag) (λ f q. q) room less state told o)
    ]
    from_crash asleep none o (Resting quiet_ files down) =
        Crashed (down ∙ asleep) (not_opened none quiet_) (by_files (IsDue tag) files o)
    from_crash asleep none o (Serving i quiet_ plain named awake down state told) = absurd (true≢false (sym asleep ∙ awake))

    again : w.down ≡ true → tag ≢ GREATEST_TAG → One n (IsDueAgain tag) w.server.files → Moves w m → Next
    again asleep less o (Crashing lines awake state down) = absurd (true≢false (sym asleep ∙ awake))
    again asleep less o (Opening there down_ state down told) =
        Fenced down less (begins_fence (IsDueAgain tag) (λ f q. q.0) room less state told o)
    again asleep less o (Resting none files down) = Again (down ∙ asleep) less (by_files (IsDueAgain tag) files o)
    again asleep less o (Serving i none plain named awake down state told) = absurd (true≢false (sym asleep ∙ awake))

    refused_on : w.down ≡ false → tag ≡ GREATEST_TAG → One n IsSpent w.server.files → Moves w m → Next
    refused_on up greatest o (Crashing lines awake state down) =
        absurd (once greatest (subst (In crash_line) (sym lines) (inl refl)))
    refused_on up greatest o (Opening there asleep state down told) = absurd (true≢false (sym asleep ∙ up))
    refused_on up greatest o (Resting none files down) = Refused (down ∙ up) greatest (by_files IsSpent files o)
    refused_on up greatest (f, found, q) (Serving i none plain named awake down state told) =
        Refused down greatest (by_state (step w.server m.chosen i).state IsSpent state
        (one_behind raise n w.server m.chosen i sound IsSpent IsSpent
        (spent_stays n w.server m.chosen i f found safe plain (all_of n IsSpent w.server.files sound.distinct (f, found, q)))
        (f, found, q)))

    pub stage_on : Stage n tag ls w → Moves w m → Next
    stage_on (Crashed asleep none o) moves = from_crash asleep none o moves
    stage_on (Fenced up less o) moves = elim (fenced_on up o moves) [
      | inl r ↦ Fenced r.0 less r.1
      | inr r ↦ Again r.0 less r.1
    ]
    stage_on (Again asleep less o) moves = again asleep less o moves
    stage_on (Refused up greatest o) moves = refused_on up greatest o moves

-- the crash itself
pub crashed : EachStepRaisesTags → (n : ℕ) (w : World) (m : Move) → IsSound w.server → (f : File)
    → file_at w.server.files n ≡ Some f → is_unsettled f.kept ≡ true
    → (move w m).world.server ≡ (step w.server m.chosen Crashes).state → (move w m).world.down ≡ true
    → Stage n f.kept.tag [] (move w m).world
crashed raise n w m sound f found open_ state down =
    Crashed down (λ i. i)
    (subst (λ (s : Server). One n (IsDue f.kept.tag) s.files) (sym state)
    (one_behind raise n w.server m.chosen Crashes sound Is (IsDue f.kept.tag)
    (crash_leaves n Is (IsDue f.kept.tag) w.server m.chosen (λ x q. (q.0, refl, q.1))
    (all_of n Is w.server.files sound.distinct (f, found, (open_, refl)))) (f, found, (open_, refl))))
  where
    Is : File → Type 0
    Is x = (is_unsettled x.kept ≡ true) × (x.kept.tag ≡ f.kept.tag)
