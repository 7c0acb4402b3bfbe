-- A step of the server on anything but a client's request: what the machine of a file has behind it.
-- Towards `KeptGoesOn` (`specs/Steps.antt`).
use Rattle.std.proofs.Common.{◌≡◌, ◌==◌, ◌||◌, ℕ, ◌+◌, Bool, true, false, not, List, [], ◌∷◌, Option, Some, None, is_some, refl, sym, ap, subst, ◌∙◌, inl, inr, if◌then◌else◌}
use Rattle.std.proofs.lemmas.Bool.{true≢false, cases_Bool, cases_eq, eq-eqb, ne_eqb}
use Rattle.std.proofs.lemmas.Option.{same_Some}
use Rattle.server_rules.specs.declared.limits.TheConstants.{GREATEST_TAG}
use Rattle.component_law.specs.Tagged.{fence_open}
use Rattle.server_rules.specs.Files.{Step, still, begins, file_at, put_file, at_file, step_at}
use Rattle.server_rules.specs.Get.{lowest}
use Rattle.server_rules.specs.Going.{Going, noting, with_components}
use Rattle.server_rules.specs.History.{Input, Hears, Makes, Obeys, Adds, Zones, Formats, Resends, Crashes, Opens}
use Rattle.server_rules.specs.Jobs.{ending, fence_begins, declares, declared_in, targets}
use Rattle.server_rules.specs.Laws.{In}
use Rattle.server_rules.specs.Orders.{offline, declare, begins_job, starts, recalls_on, declares_known}
use Rattle.server_rules.specs.Replies.{hears, hearing, Hearing}
use Rattle.server_rules.specs.Standing.{any_on, lose_on}
use Rattle.server_rules.proofs.FileLaws.{number_at, put_same, put_other}
use Rattle.history_law.specs.Steps.{IsAnswering, answered_file, Answering}
use Rattle.history_law.proofs.Files.{put_gives}
use Rattle.component_law.proofs.Rounds.{each_at}
use Rattle.component_law.specs.Words.{Each}
use Rattle.component_law.specs.Distinct.{AreDistinct}
use Rattle.world_history.specs.ServerNames.{File, Kept, Note, NoteKind, Busy, Spent, Effects, Drive, Job, JobKind, Awaited, Reply, ToRecall, ToRevoke, ToDeclare, ToRebuild, ToAudit, Component}
use Rattle.world_history.specs.State.{World}
use Rattle.fence_law.specs.State.{State, Event}
use Rattle.fence_law.specs.State.Event.{Fences, Declares}
use Rattle.fence_law.specs.Machine.{Lawful, after_all}
use Rattle.fence_law.proofs.Safe.{Safe, safe_all}
use Rattle.file_simulation.specs.EventLists.{where_so}
use Rattle.file_simulation.specs.ServerEvents.{begins_fence, fences, declared_from, noted_here}
use Rattle.relation_law.specs.KeptSteps.{AllLight, notes_events, IsKeptAt, GoesAs, IsDone, first_of}
use Rattle.component_law.specs.KeptWalk.{IsWalked, FileFits}
use Rattle.component_law.proofs.KeptJobs.{ends_hears, ends_declares, ends_fence}
use Rattle.relation_law.proofs.KeptLight.{so_far_light}
use Rattle.relation_law.proofs.KeptNotes.{AreSupplied, IsBehind, walked, both_light, where_light}
use Rattle.relation_law.proofs.KeptEnds.{so_far_from, kept_from, begins_so_far, fence_shows}
use Rattle.relation_law.proofs.KeptRounds.{Quiet, quiet_walked, begun, done, goes_as, declared_round}
use Rattle.relation_law.proofs.KeptOpens.{none_shows}

-- ---- the first line

declared_light : (d : ℕ) (cs : List Component) (k : ℕ) → AllLight (declared_from d cs k)
unfolding declared_from
declared_light d [] k = tt
declared_light d (at ∷ cs) k =
    both_light (where_so (at.drive == d) (Declares k ∷ [])) (declared_from d cs (k + 1))
    (where_light (at.drive == d) (Declares k ∷ []) (refl, tt)) (declared_light d cs (k + 1))

-- where the file stays as it is, no fence is seen
no_fence : (f : File) → fences f f ≡ []
no_fence f = rw (none_shows f f refl refl) refl

pub light_first : (f : File) (i : Input) → AllLight (first_of f f i)
light_first f (Obeys ToDeclare d) = declared_light d f.kept.components 0
light_first f (Obeys ToRecall n) = tt
light_first f (Obeys ToRevoke n) = where_light (n == f.kept.number) (fences f f) (rw (no_fence f) tt)
light_first f (Obeys ToRebuild n) = where_light (n == f.kept.number) (fences f f) (rw (no_fence f) tt)
light_first f (Obeys ToAudit n) = where_light (n == f.kept.number) (fences f f) (rw (no_fence f) tt)
light_first f Opens = rw (no_fence f) tt
light_first f (Hears now from m) = tt
light_first f (Makes n m tag zoned) = tt
light_first f (Adds d) = tt
light_first f (Zones d zone) = tt
light_first f (Formats n) = tt
light_first f Resends = tt
light_first f Crashes = tt

-- ---- places in the list of files

pub at_place : (fs : List File) (x : File) → AreDistinct fs → In x fs → file_at fs x.kept.number ≡ Some x
unfolding file_at
at_place [] x d i = absurd i
at_place (y ∷ fs) x d (inl e) = rw (e, eq-eqb y.kept.number y.kept.number refl) refl
at_place (y ∷ fs) x d (inr i) =
    rw (ne_eqb y.kept.number x.kept.number (λ e. absurd (none_of fs x y.kept.number d.0 i (sym e)))) (at_place fs x d.1 i)
  where
    none_of : (gs : List File) (z : File) (n : ℕ) → Each (λ (g : File). g.kept.number ≡ n → ⊥) gs → In z gs
        → z.kept.number ≡ n → ⊥
    none_of [] z n e j is = absurd j
    none_of (g ∷ gs) z n e (inl same) is = e.0 (sym (ap (λ (v : File). v.kept.number) same) ∙ is)
    none_of (g ∷ gs) z n e (inr j) is = none_of gs z n e.1 j is

-- ---- the file stays

pub busy_some : (o : Option Job) → (is_some o ≡ true → o ≡ None → ⊥) × (is_some o ≡ false → o ≡ None)
busy_some None = (λ e n. true≢false (sym e), λ e. refl)
busy_some (Some j) = (λ e n. absurd (cc n), λ e. absurd (true≢false e))

pub light_kept : (next : ℕ) (s : State) (es : List Event) (f : File) → AllLight es → Lawful s es → Safe s → IsKeptAt next s f
    → IsKeptAt next (after_all s es) f
light_kept next s es f l a safe h =
    let b = busy_some f.job in
    kept_from next (is_some f.job) (after_all s es) f b.1
    (so_far_light next (is_some f.job) s es f.kept l a safe (so_far_from next (is_some f.job) s f b.0 h))

-- its number stays
abbrev pub HasNumber : (number : ℕ) → Kept → List Note → Type 0
HasNumber n k ns = k.number ≡ n

pub number_walked : (n : ℕ) → IsWalked (HasNumber n)
number_walked n = record {
  alike = λ k l ns a h. a.number ∙ h;
  plain = λ k ns kind p h. h;
  fenced = λ k ns p h. h;
  mended = λ k ns stripes short p h. h;
}

-- the file's server, as it is before the step
pub record IsReady (w : World) (f : File) : Type 0 where
  pub there : file_at w.server.files f.kept.number ≡ Some f
  pub apart : AreDistinct w.server.files

module _ (next : ℕ) (s : State) (w : World) (f : File) (chosen : List ℕ) (safe : Safe s) (h : IsKeptAt next s f)
    (ready : IsReady w f) where
  fits : Each FileFits w.server.files → FileFits f
  fits fit = each_at FileFits w.server.files f.kept.number f fit ready.there

  module _ (i : Input) (Given : State → List Note → Type 0)
      (supplied : (busy : Bool) (t : State) → AreSupplied next busy t w f i (Given t)) where
    -- what a step makes of the file
    abbrev pub Makes_ : Step → Type 0
    Makes_ did =
        (g : File) → file_at did.state.files f.kept.number ≡ Some g → Lawful s (first_of f g i) →
        GoesAs next (after_all s (first_of f g i)) w f i (Given (after_all s (first_of f g i)) did.notes) did.notes g

    -- the machine behind the first line
    abbrev At : File → State
    At g = after_all s (first_of f g i)

    -- the file stays as it is, and no note has an event
    pub quiet_goes : (did : Step) → file_at did.state.files f.kept.number ≡ Some f
        → ((t : State) → notes_events t w f i did.notes ≡ []) → Makes_ did
    quiet_goes did stays none g found law =
        let same : f ≡ g = cc (sym stays ∙ found) in
        subst (λ (y : File). Lawful s (first_of f y i) → GoesAs next (At y) w f i (Given (At y) did.notes) did.notes y) same
        (λ l. record {
          lawful = λ x. subst (Lawful (At f)) (sym (none (At f))) tt;
          kept = λ x.
              subst (λ (es : List Event). IsKeptAt next (after_all (At f) es) f) (sym (none (At f)))
              (light_kept next s (first_of f f i) f (light_first f i) l safe h);
        }) law

    pub stays_goes : (did : Step) → did.state.files ≡ w.server.files → did.notes ≡ [] → Makes_ did
    unfolding notes_events
    stays_goes did files notes =
        quiet_goes did (ap (λ (fs : List File). file_at fs f.kept.number) files ∙ ready.there)
        (λ t. ap (λ (ns : List Note). notes_events t w f i ns) notes)

    -- another file goes on
    pub other_goes : (x : File) (G : Going) → file_at w.server.files x.kept.number ≡ Some x
        → (x.kept.number ≡ f.kept.number → ⊥) → G.file.kept.number ≡ x.kept.number
        → ((t : State) → notes_events t w f i G.effects.notes ≡ []) → Makes_ (step_at w.server x.kept.number G)
    other_goes x G found ne same none =
        quiet_goes (step_at w.server x.kept.number G)
        (put_other w.server.files x.kept.number G.file same f.kept.number (ne_eqb x.kept.number f.kept.number ne)
        ∙ ready.there) none

    -- the file goes on
    own_goes : (G : Going) → G.file.kept.number ≡ f.kept.number
        → (Lawful s (first_of f G.file i) → IsDone next (At G.file) w f i (Given (At G.file)) G)
        → Makes_ (step_at w.server f.kept.number G)
    own_goes G number d g found law =
        let same : g ≡ G.file = put_gives w.server.files f.kept.number G.file g number found in
        subst (λ (y : File). Lawful s (first_of f y i)
        → GoesAs next (At y) w f i (Given (At y) G.effects.notes) G.effects.notes y)
        (sym same) (λ l. let x = d l in record { lawful = x.lawful; kept = x.kept }) law

    -- ---- a job goes on

    -- by a reply
    hears_goes : Each FileFits w.server.files → (j : Job) (a : Awaited) (r : Reply) (x : Hearing) → f.job ≡ Some j
        → ((g : File) → first_of f g i ≡ []) → Makes_ (step_at w.server f.kept.number (hears (at_file w.server chosen f) j a r x))
    unfolding notes_events
    hears_goes fit j a r x is first =
        let G : Going = hears (at_file w.server chosen f) j a r x in
        let e = ends_hears (IsBehind next true s w f i (Given s)) (walked next true s w f i (Given s) (supplied true s) safe)
        (at_file w.server chosen f) j a r x is (
          begun next s w f i (Given s) (λ busy. supplied busy s) true f.kept [] refl refl refl
              (so_far_from next true s f (λ b n. absurd (cc (sym is ∙ n))) h),
          fits fit,
        ) in
        own_goes G e.0.number (λ l.
        subst (λ (es : List Event). IsDone next (after_all s es) w f i (Given (after_all s es)) G) (sym (first G.file))
        (done next s w f i (Given s) (λ busy. supplied busy s) true G (λ b. absurd (true≢false b)) e.0))

    -- with a fence
    fence_goes : (kind : JobKind) → f.job ≡ None
        → ((g : File) → first_of f g i ≡ fences f g)
        → Makes_ (step_at w.server f.kept.number (fence_begins kind w.server.format (at_file w.server chosen f)))
    unfolding notes_events
    fence_goes kind none first =
        let go : Going = at_file w.server chosen f in
        let G : Going = fence_begins kind w.server.format go in
        let shows : begins_fence f G.file ≡ not (fence_open f.kept) = elim (cases_Bool (fence_open f.kept)) [
          | inl o ↦ rw o refl
          | inr o ↦ fence_shows kind w.server.format go o ∙ sym (ap not o)
        ] in
        let events : first_of f G.file i ≡ where_so (not (fence_open f.kept)) (Fences ∷ []) =
        first G.file ∙ ap (λ (b : Bool). where_so b (Fences ∷ [])) shows in
        let t : State = after_all s (where_so (not (fence_open f.kept)) (Fences ∷ [])) in
        let ended : Lawful s (where_so (not (fence_open f.kept)) (Fences ∷ []))
        → IsBehind next true t w f i (Given t) (ending f.kept w.server.format) [] = λ l.
        begun next t w f i (Given t) (λ busy. supplied busy t) true (ending f.kept w.server.format) [] refl refl refl
        (begins_so_far next s f.kept w.server.format f.kept.phase refl l safe false
        (so_far_from next false s f (λ b. absurd (true≢false (sym b))) h)) in
        let number : G.file.kept.number ≡ f.kept.number =
        (ends_fence (HasNumber f.kept.number) (number_walked f.kept.number) kind w.server.format go refl).0 in
        own_goes G number (λ l.
        let law : Lawful s (where_so (not (fence_open f.kept)) (Fences ∷ [])) = subst (Lawful s) events l in
        let safe_ : Safe t = safe_all s (where_so (not (fence_open f.kept)) (Fences ∷ [])) law safe in
        let e = ends_fence (IsBehind next true t w f i (Given t))
        (walked next true t w f i (Given t) (supplied true t) safe_) kind w.server.format go (ended law) in
        subst (λ (es : List Event). IsDone next (after_all s es) w f i (Given (after_all s es)) G) (sym events)
        (done next t w f i (Given t) (λ busy. supplied busy t) true G (λ b. absurd (true≢false b)) e.0))

    -- ---- a reply

    -- another file goes on, and its notes have no event
    other_quiet : (x : File) (G : Going) → file_at w.server.files x.kept.number ≡ Some x
        → (x.kept.number ≡ f.kept.number → ⊥)
        → ((t : State) → Quiet t w f i [] [] G.file.kept G.effects.notes) → G.file.kept.number ≡ x.kept.number
        → Makes_ (step_at w.server x.kept.number G)
    other_quiet x G found ne q number = other_goes x G found ne number (λ t. (q t).2)

    pub answered_goes : Each FileFits w.server.files → (x : Answering) → IsAnswering w.server i x → ((g : File)
        → first_of f g i ≡ [])
        → Makes_ (step_at w.server (answered_file w.server chosen x).file.kept.number (answered_file w.server chosen x))
    unfolding notes_events
    answered_goes fit x is first =
        let G : Going = answered_file w.server chosen x in
        let found : file_at w.server.files x.file.kept.number ≡ Some x.file =
        at_place w.server.files x.file ready.apart is.there in
        let fits_ : FileFits x.file = each_at FileFits w.server.files x.file.kept.number x.file fit found in
        let number : G.file.kept.number ≡ x.file.kept.number =
        (ends_hears (HasNumber x.file.kept.number) (number_walked x.file.kept.number) (at_file w.server chosen x.file)
        x.job x.awaited x.reply _ is.runs (refl, fits_)).0 in
        subst (λ (n : ℕ). Makes_ (step_at w.server n G)) (sym number)
        (elim (cases_eq x.file.kept.number f.kept.number) [
          | inl here ↦
              let same : x.file ≡ f = same_Some x.file f (sym found ∙ ap (file_at w.server.files) here ∙ ready.there) in
              subst (λ (n : ℕ). Makes_ (step_at w.server n G)) (sym here)
              (subst (λ (y : File).
              (f.job ≡ Some x.job → Makes_ (step_at w.server f.kept.number
              (hears (at_file w.server chosen y) x.job x.awaited x.reply (hearing y.kept x.awaited x.reply))))) (sym same)
              (λ runs. hears_goes fit x.job x.awaited x.reply _ runs first)
              (sym (ap (λ (y : File). y.job) same) ∙ is.runs))
          | inr ne ↦
              other_quiet x.file G found ne
              (λ t.
              (ends_hears (Quiet t w f i [] []) (quiet_walked t w f i [] []) (at_file w.server chosen x.file)
              x.job x.awaited x.reply _ is.runs ((ne, ([], refl), refl), fits_)).0) number
        ])

    -- ---- an order

    -- a note that the file's job runs, or that its tag is spent, has no event
    refused_goes : (x : File) (n : NoteKind) → file_at w.server.files x.kept.number ≡ Some x
        → ((t : State) → noted_here t w f i n ≡ [])
        → Makes_ (step_at w.server x.kept.number (noting (at_file w.server chosen x) n))
    unfolding notes_events
    refused_goes x n found none =
        quiet_goes (step_at w.server x.kept.number (noting (at_file w.server chosen x) n)) (elim
        (cases_eq x.kept.number f.kept.number) [
          | inl here ↦
              let same : x ≡ f = same_Some x f (sym found ∙ ap (file_at w.server.files) here ∙ ready.there) in
              subst (λ (y : File). file_at (put_file w.server.files y.kept.number y) f.kept.number ≡ Some f) (sym same)
              (put_same w.server.files f.kept.number f f refl ready.there)
          | inr ne ↦
              put_other w.server.files x.kept.number x refl f.kept.number (ne_eqb x.kept.number f.kept.number ne) ∙ ready.there
        ])
        (λ t. elim (cases_eq x.kept.number f.kept.number) [
          | inl here ↦ rw (eq-eqb x.kept.number f.kept.number here, none t) refl
          | inr ne ↦ rw (ne_eqb x.kept.number f.kept.number ne) refl
        ])

    module _ (n : ℕ) (first : (g : File) → first_of f g i ≡ where_so (n == f.kept.number) (fences f g)) where
      fenced_goes : (kind : JobKind) (x : File) → file_at w.server.files n ≡ Some x → x.job ≡ None
          → Makes_ (step_at w.server x.kept.number (fence_begins kind w.server.format (at_file w.server chosen x)))
      unfolding notes_events
      fenced_goes kind x found none =
          let is : x.kept.number ≡ n = number_at w.server.files n x found in
          let found_ : file_at w.server.files x.kept.number ≡ Some x = ap (file_at w.server.files) is ∙ found in
          let G : Going = fence_begins kind w.server.format (at_file w.server chosen x) in
          elim (cases_eq x.kept.number f.kept.number) [
            | inl here ↦
                let same : x ≡ f = same_Some x f (sym found_ ∙ ap (file_at w.server.files) here ∙ ready.there) in
                subst (λ (y : File).
                Makes_ (step_at w.server y.kept.number (fence_begins kind w.server.format (at_file w.server chosen y))))
                (sym same)
                (fence_goes kind (sym (ap (λ (y : File). y.job) same) ∙ none)
                (λ g. first g ∙ ap (λ (b : Bool). where_so b (fences f g)) (eq-eqb n f.kept.number (sym is ∙ here))))
            | inr ne ↦
                other_quiet x G found_ ne
                (λ t.
                (ends_fence (Quiet t w f i [] []) (quiet_walked t w f i [] []) kind w.server.format (at_file w.server chosen x)
                (ne, ([], refl), refl)).0)
                (ends_fence (HasNumber x.kept.number) (number_walked x.kept.number) kind w.server.format
                (at_file w.server chosen x) refl).0
          ]

      begun_goes : (kind : JobKind) (x : File) (o : Option Job) → file_at w.server.files n ≡ Some x → x.job ≡ o
          → Makes_ (begins_job w.server chosen kind x o).step
      begun_goes kind x (Some j) found runs =
          refused_goes x (Busy (lowest j.awaited))
          (ap (file_at w.server.files) (number_at w.server.files n x found) ∙ found) (λ t. refl)
      begun_goes kind x None found none = elim (cases_Bool (x.kept.tag == GREATEST_TAG)) [
        | inl e ↦
            rw e (refused_goes x Spent
            (ap (file_at w.server.files) (number_at w.server.files n x found) ∙ found) (λ t. refl))
        | inr e ↦ rw e (fenced_goes kind x found none)
      ]

      pub starts_goes : (kind : JobKind) (o : Option File) → file_at w.server.files n ≡ o
          → Makes_ (starts w.server chosen kind o).step
      starts_goes kind None found = stays_goes (still w.server) refl refl
      starts_goes kind (Some x) found = begun_goes kind x x.job found refl

    pub recalls_goes : (o : Option File) → Makes_ (recalls_on w.server o).step
    recalls_goes None = stays_goes (still w.server) refl refl
    recalls_goes (Some x) = stays_goes (recalls_on w.server (Some x)).step refl refl

    -- ---- a drive is declared

    job_stays : (g : Going) (drive : ℕ) → g.file.job ≡ None → (declares g drive).file.job ≡ None
    unfolding declares
    job_stays g drive none =
        either (any_on drive g.file.kept.components || targets g.file.job drive)
        (declared_in (with_components g (lose_on drive g.file.kept.components)) drive g.file.job) g
        (stays g.file.job refl) none
      where
        either : (b : Bool) (x y : Going) → x.file.job ≡ None → y.file.job ≡ None → (if b then x else y).file.job ≡ None
        either true x y p q = p
        either false x y p q = q

        stays : (o : Option Job) → g.file.job ≡ o
            → (declared_in (with_components g (lose_on drive g.file.kept.components)) drive o).file.job ≡ None
        stays None is = is
        stays (Some j) is = absurd (cc (sym is ∙ none))

    declares_done : Each FileFits w.server.files → (t : State) → Safe t → IsKeptAt next t f
        → (drive : ℕ) (ds : List Drive) (m : Effects) (placed : List ℕ)
        → notes_events t w f i m.notes ≡ []
        → IsDone next t w f i (Given t) (declares (record { file = f; effects = m; drives = ds; chosen = placed }) drive)
    declares_done fit t safe_ k drive ds m placed none =
        let busy : Bool = is_some f.job in
        let b = busy_some f.job in
        let e = ends_declares (IsBehind next busy t w f i (Given t)) (walked next busy t w f i (Given t) (supplied busy t) safe_)
        (record { file = f; effects = m; drives = ds; chosen = placed }) drive (
          begun next t w f i (Given t) (λ c. supplied c t) busy f.kept m.notes refl refl none
              (so_far_from next busy t f b.0 k),
          fits fit,
        ) in
        done next t w f i (Given t) (λ c. supplied c t) busy
        (declares (record { file = f; effects = m; drives = ds; chosen = placed }) drive)
        (λ x. job_stays (record { file = f; effects = m; drives = ds; chosen = placed }) drive (b.1 x)) e.0

    declare_goes : Each FileFits w.server.files → (drive : ℕ) → ((g : File) → AllLight (first_of f g i))
        → ((g : File) → first_of f g i ≡ first_of f f i) → Makes_ (declare w.server chosen drive)
    unfolding declare notes_events
    declare_goes fit drive light same g found law =
        let t : State = after_all s (first_of f f i) in
        let law_ : Lawful s (first_of f f i) = subst (Lawful s) (same g) law in
        let safe_ : Safe t = safe_all s (first_of f f i) law_ safe in
        let k : IsKeptAt next t f = light_kept next s (first_of f f i) f (light f) law_ safe h in
        let r = declared_round w f i t drive (offline w.server.drives drive) (IsDone next t w f i (Given t)) (λ x d. d.number)
        (λ m placed none. declares_done fit t safe_ k drive (offline w.server.drives drive) m placed none)
        w.server.files (begins w.server) chosen ready.there ready.apart fit refl in
        let is : r.going.file ≡ g = same_Some r.going.file g (sym r.found ∙ found) in
        let ns : List Note = (declare w.server chosen drive).notes in
        subst (λ (es : List Event). GoesAs next (after_all s es) w f i (Given (after_all s es) ns) ns g) (sym (same g))
        (subst (GoesAs next t w f i (Given t ns) ns) is
        (goes_as next t w f i (Given t) (λ c. supplied c t) r.going ns r.is r.behind.0 r.behind.1))

    pub known_goes : Each FileFits w.server.files → (drive : ℕ) (b : Bool) → ((g : File) → AllLight (first_of f g i))
        → ((g : File) → first_of f g i ≡ first_of f f i) → Makes_ (declares_known w.server chosen drive b).step
    known_goes fit drive true light same = declare_goes fit drive light same
    known_goes fit drive false light same = stays_goes (still w.server) refl refl
