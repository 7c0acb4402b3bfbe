-- A component that becomes missing in the middle of a job.
use Rattle.std.specs.Prelude.{ℕ, Bool, true, false, List, [], ◌∷◌, Option, Some, None, refl, ◌≡◌, ◌==◌, ◌||◌, length}
use Rattle.std.proofs.Common.{ap, sym, ◌∙◌}
use Rattle.server_rules.specs.declared.files.Component.{Component}
use Rattle.server_rules.specs.declared.files.Kept.{Kept}
use Rattle.server_rules.specs.declared.jobs.Awaited.{Awaited}
use Rattle.server_rules.specs.declared.jobs.Heard.{Heard}
use Rattle.server_rules.specs.declared.jobs.Job.{Job}
use Rattle.server_rules.specs.declared.jobs.JobKind.{JobKind}
use Rattle.server_rules.specs.declared.jobs.Piece.{Piece}
use Rattle.server_rules.specs.declared.jobs.Target.{Target}
use Rattle.server_rules.specs.declared.jobs.Work.{Work}
use Rattle.server_rules.specs.declared.jobs.Work.TheVariants.{Creates, Fences, Fetches, Stores, Targets, Gathers, Fills, Lengths, Checks}
use Rattle.server_rules.specs.declared.notes.NoteKind.TheVariants.{NoSpace}
use Rattle.server_rules.specs.declared.server.Effects.{Effects}
use Rattle.server_rules.specs.declared.server.Drive.{Drive}
use Rattle.server_rules.specs.Standing.{any_on, lose_from, lose_on}
use Rattle.file_jobs.specs.declared.job.FileState.{FileState}
use Rattle.server_rules.specs.Going.{Going, noting, with_components}
use Rattle.server_rules.specs.Jobs.{declared_in, declares, is_target, loses, others_than, targets, waits_or_on}
use Rattle.server_rules.specs.Rebuild.{fills, target_full, target_gone}
use Rattle.server_rules.specs.Repair.{repairs}
use Rattle.server_rules.specs.Replies.{fills_up, others}
use Rattle.server_rules.proofs.Components.{length_lost, length_lost_on}
use Rattle.stripe_repair.specs.declared.repair.Stage.{Stage}
use Rattle.stripe_repair.specs.declared.repair.Stage.TheVariants.{Fetching, Storing}
use Rattle.stripe_repair.specs.declared.rebuild.FillStage.{FillStage}
use Rattle.stripe_repair.specs.declared.rebuild.FillStage.TheVariants.{Gathering, Filling}
use Rattle.stripe_repair.specs.Filling.{RebuildState, fill_work_at, fill_work_of}
use Rattle.stripe_repair.specs.Repairing.{RepairState, broken, work_at, work_of}
use Rattle.file_jobs.specs.declared.job.Work.{Work as RunningWork}
use Rattle.file_jobs.specs.declared.job.Work.TheVariants.{Creates as IsMade, Fences as IsFenced, Repairs as InRepair, Targets as OnTarget, Rebuilds as InPieces, Lengths as IsMeasured, Checks as InAudit}
use Rattle.file_jobs.specs.Works.{noted, work_of as work_in}
use Rattle.file_jobs.specs.Losing.{loses_in_repair, target_in}
use Rattle.file_jobs.specs.Sound.{IsSound}
use Rattle.file_jobs.specs.Steps.{Around, at, going}
use Rattle.file_jobs.proofs.FitsLaws.{some_is}

-- ---- a repair

fetching_at : (g : Going) (kind : JobKind) (stage : Stage) (todo : List Piece) (short : List ℕ) (rest : List Awaited)
    (heard : List Heard) → stage ≡ Fetching →
    repairs kind g todo short ≡ loses g (record { kind = kind; work = work_at stage todo short; awaited = rest; heard = heard })
    (work_at stage todo short) rest false
unfolding loses
fetching_at g kind Fetching todo short rest heard e = refl
fetching_at g kind (Storing b) todo short rest heard e = absurd (cc e)

storing_at : (g : Going) (kind : JobKind) (stage : Stage) (todo : List Piece) (short : List ℕ) (rest : List Awaited)
    (heard : List Heard) (b : Bool) → stage ≡ Storing b →
    waits_or_on g (record { kind = kind; work = work_at (broken stage) todo short; awaited = rest; heard = heard })
    (work_at (broken stage) todo short) rest heard
    ≡ loses g (record { kind = kind; work = work_at stage todo short; awaited = rest; heard = heard })
    (work_at stage todo short) rest false
unfolding loses
storing_at g kind Fetching todo short rest heard b e = absurd (cc e)
storing_at g kind (Storing c) todo short [] heard b e = refl
storing_at g kind (Storing c) todo short (r ∷ rest) heard b e = refl

pub loses_fetching : (g : Going) (kind : JobKind) (r : RepairState) (rest : List Awaited) (heard : List Heard) →
    r.stage ≡ Fetching →
    repairs kind g r.todo r.short ≡ loses_in_repair g kind r rest heard
loses_fetching g kind r rest heard e = fetching_at g kind r.stage r.todo r.short rest heard e

pub loses_storing : (g : Going) (kind : JobKind) (r s : RepairState) (rest : List Awaited) (heard : List Heard) (b : Bool) →
    r.stage ≡ Storing b → s ≡ record r { stage = broken r.stage } →
    waits_or_on g (record { kind = kind; work = work_of s; awaited = rest; heard = heard })
    (work_of s) rest heard ≡ loses_in_repair g kind r rest heard
loses_storing g kind r s rest heard b e x =
    ap (λ (y : RepairState). waits_or_on g (record { kind = kind; work = work_of y; awaited = rest; heard = heard })
    (work_of y) rest heard) x
    ∙ storing_at g kind r.stage r.todo r.short rest heard b e

-- ---- a WRITE for which there is no space

fills_at : (g : Going) (kind : JobKind) (work : Work) (awaited : List Awaited) (heard : List Heard) (a : Awaited) →
    target_in work ≡ None →
    loses (noting (with_components g (lose_from (a.component ∷ []) g.file.kept.components 0)) (NoSpace a.component))
    (record { kind = kind; work = work; awaited = others awaited a.command.nonce; heard = heard }) work
    (others awaited a.command.nonce) false
    ≡ fills_up g (record { kind = kind; work = work; awaited = awaited; heard = heard }) a work
unfolding loses
fills_at g kind Creates awaited heard a f = refl
fills_at g kind Fences awaited heard a f = refl
fills_at g kind (Fetches todo short) awaited heard a f = refl
fills_at g kind (Stores todo short b) awaited heard a f = refl
fills_at g kind (Targets t) awaited heard a f = absurd (cc f)
fills_at g kind (Gathers t todo) awaited heard a f = absurd (cc f)
fills_at g kind (Fills t todo) awaited heard a f = absurd (cc f)
fills_at g kind Lengths awaited heard a f = refl
fills_at g kind (Checks todo t) awaited heard a f = refl

pub fills_is : (kept : Kept) (m is : Effects) (s : Around) (j : Job) (a x y : Awaited) (cs : List Component)
    (rest : List Awaited) → target_in j.work ≡ None → x ≡ a → y ≡ a →
    cs ≡ lose_from (x.component ∷ []) kept.components 0 → rest ≡ others j.awaited y.command.nonce →
    is ≡ noted m kept.number (NoSpace x.component) →
    loses (going (record kept { components = cs }) is s)
    (record { kind = j.kind; work = j.work; awaited = rest; heard = j.heard }) j.work rest false ≡ fills_up
    (going kept m s) j a j.work
fills_is kept m is s j a x y cs rest f ex ey ec er ei =
    rw (ec, er, ei, ex, ey) (fills_at (going kept m s) j.kind j.work j.awaited j.heard a f)

-- the target of a rebuild ends
pub full_is : (g : Going) (j : Job) (a : Awaited) (work : Work) (t : Target) → target_in work ≡ Some t →
    target_full g t ≡ fills_up g j a work
full_is g j a Creates t f = absurd (cc f)
full_is g j a Fences t f = absurd (cc f)
full_is g j a (Fetches todo short) t f = absurd (cc f)
full_is g j a (Stores todo short b) t f = absurd (cc f)
full_is g j a (Targets u) t f = ap (target_full g) (some_is t u f)
full_is g j a (Gathers u todo) t f = ap (target_full g) (some_is t u f)
full_is g j a (Fills u todo) t f = ap (target_full g) (some_is t u f)
full_is g j a Lengths t f = absurd (cc f)
full_is g j a (Checks todo x) t f = absurd (cc f)

-- ---- what is kept

pub sound_lost : (k : Kept) (cs : List Component) (lost : ℕ) → cs ≡ lose_from (lost ∷ []) k.components 0 → IsSound k →
    IsSound (record k { components = cs })
sound_lost k cs lost e s =
    record {
      few = rw (e, length_lost (lost ∷ []) k.components 0) s.few;
      whole =
          rw (e, length_lost (lost ∷ []) k.components 0) s.whole;
      high = s.high;
      live = s.live;
      ended = s.ended;
    }

-- ---- a drive is declared

declared_at : (g : Going) (kind : JobKind) (work : Work) (awaited : List Awaited) (heard : List Heard) (rest : List Awaited)
    (drive : ℕ) → target_in work ≡ None →
    loses g (record { kind = kind; work = work; awaited = rest; heard = heard }) work rest false
    ≡ loses g (record { kind = kind; work = work; awaited = awaited; heard = heard }) work rest (is_target work drive)
unfolding loses
declared_at g kind Creates awaited heard rest drive f = refl
declared_at g kind Fences awaited heard rest drive f = refl
declared_at g kind (Fetches todo short) awaited heard rest drive f = refl
declared_at g kind (Stores todo short b) awaited heard rest drive f = refl
declared_at g kind (Targets t) awaited heard rest drive f = absurd (cc f)
declared_at g kind (Gathers t todo) awaited heard rest drive f = absurd (cc f)
declared_at g kind (Fills t todo) awaited heard rest drive f = absurd (cc f)
declared_at g kind Lengths awaited heard rest drive f = refl
declared_at g kind (Checks todo t) awaited heard rest drive f = refl

pub declared_is : (g : Going) (j : Job) (rest others : List Awaited) (drive : ℕ) → target_in j.work ≡ None → rest ≡ others →
    loses g (record { kind = j.kind; work = j.work; awaited = rest; heard = j.heard }) j.work rest false ≡ loses g j j.work others
    (is_target j.work drive)
declared_is g j rest others drive f e =
    declared_at g j.kind j.work j.awaited j.heard rest drive f
    ∙ ap (λ (r : List Awaited). loses g j j.work r (is_target j.work drive)) e

-- the target stands on the drive
pub gone_is : (g : Going) (j : Job) (work : Work) (rest : List Awaited) (t : Target) (drive : ℕ) → target_in work ≡ Some t →
    (t.drive == drive) ≡ true →
    target_gone g t ≡ loses g j work rest (is_target work drive)
unfolding loses
gone_is g j Creates rest t drive f e = absurd (cc f)
gone_is g j Fences rest t drive f e = absurd (cc f)
gone_is g j (Fetches todo short) rest t drive f e = absurd (cc f)
gone_is g j (Stores todo short b) rest t drive f e = absurd (cc f)
gone_is g j (Targets u) rest t drive f e = rw (sym (some_is t u f), e) refl
gone_is g j (Gathers u todo) rest t drive f e = rw (sym (some_is t u f), e) refl
gone_is g j (Fills u todo) rest t drive f e = rw (sym (some_is t u f), e) refl
gone_is g j Lengths rest t drive f e = absurd (cc f)
gone_is g j (Checks todo x) rest t drive f e = absurd (cc f)

-- it stands elsewhere, and its piece begins again
pub refills_is : (g : Going) (j : Job) (stage : FillStage) (u : Target) (todo : List Piece) (rest : List Awaited) (drive : ℕ) →
    (u.drive == drive) ≡ false →
    fills g u todo ≡ loses g j (fill_work_at stage u todo) rest (is_target (fill_work_at stage u todo) drive)
unfolding loses
refills_is g j Gathering u todo rest drive e = rw e refl
refills_is g j Filling u todo rest drive e = rw e refl

-- or its CREATE is waited for as before
pub remakes_is : (g : Going) (j : Job) (u : Target) (rest : List Awaited) (drive : ℕ) → (u.drive == drive) ≡ false →
    g ≡ loses g j (Targets u) rest (is_target (Targets u) drive)
unfolding loses
remakes_is g j u rest drive e = rw e refl

target_at : (stage : FillStage) (u : Target) (todo : List Piece) (t : Target) → target_in (fill_work_at stage u todo) ≡ Some t →
    u ≡ t
target_at Gathering u todo t e = cc e
target_at Filling u todo t e = cc e

pub redirected : (g : Going) (j : Job) (r : RebuildState) (t : Target) (rest : List Awaited) (drive : ℕ) →
    j.work ≡ fill_work_of r → target_in j.work ≡ Some t → (t.drive == drive) ≡ false →
    fills g r.target r.todo ≡ loses g j j.work rest (is_target j.work drive)
redirected g j r t rest drive w e f =
    let same : r.target ≡ t = target_at r.stage r.target r.todo t (ap target_in (sym w) ∙ e) in
    refills_is g j r.stage r.target r.todo rest drive (rw same f)
    ∙ ap (λ (x : Work). loses g j x rest (is_target x drive)) (sym w)

no_repair : (stage : Stage) (todo : List Piece) (short : List ℕ) (t : Target) → target_in (work_at stage todo short) ≡ Some t → ⊥
no_repair Fetching todo short t e = cc e
no_repair (Storing b) todo short t e = cc e

pub remade : (g : Going) (j : Job) (work : RunningWork) (t : Target) (rest : List Awaited) (drive : ℕ) → j.work ≡ work_in work →
    target_in j.work ≡ Some t → ((r : RebuildState) → work ≡ InPieces r → ⊥) →
    (t.drive == drive) ≡ false → g ≡ loses g j j.work rest (is_target j.work drive)
remade g j IsMade t rest drive w e n f = absurd (cc (ap target_in (sym w) ∙ e))
remade g j IsFenced t rest drive w e n f = absurd (cc (ap target_in (sym w) ∙ e))
remade g j (InRepair r) t rest drive w e n f = absurd (no_repair r.stage r.todo r.short t (ap target_in (sym w) ∙ e))
remade g j (OnTarget u) t rest drive w e n f =
    let same : t ≡ u = some_is t u (ap target_in (sym w) ∙ e) in
    remakes_is g j u rest drive (rw (← same) f) ∙ ap (λ (x : Work). loses g j x rest (is_target x drive)) (sym w)
remade g j (InPieces r) t rest drive w e n f = absurd (n r refl)
remade g j IsMeasured t rest drive w e n f = absurd (cc (ap target_in (sym w) ∙ e))
remade g j (InAudit a) t rest drive w e n f = absurd (cc (ap target_in (sym w) ∙ e))

in_job : (g : Going) (drive : ℕ) (o : Option Job) (j : Job) → o ≡ Some j →
    loses g j j.work (others_than drive j.awaited) (is_target j.work drive) ≡ declared_in g drive o
in_job g drive o j e = rw e refl

pub declares_is : (f : FileState) (m : Effects) (ds : List Drive) (chosen : List ℕ) (drive : ℕ) (cs : List Component) (j : Job) →
    (any_on drive f.kept.components || targets f.job drive) ≡ true →
    cs ≡ lose_on drive f.kept.components → f.job ≡ Some j →
    loses (going (record f.kept { components = cs }) m (record { spent = f.spent; job = f.job; drives = ds; chosen = chosen })) j
    j.work (others_than drive j.awaited) (is_target j.work drive) ≡ declares (at f m ds chosen) drive
unfolding declares
declares_is f m ds chosen drive cs j a e o =
    in_job (going (record f.kept { components = cs }) m (record { spent = f.spent; job = f.job; drives = ds; chosen = chosen }))
    drive f.job j o
    ∙ ap (λ (x : List Component). declared_in
    (going (record f.kept { components = x }) m (record { spent = f.spent; job = f.job; drives = ds; chosen = chosen })) drive
    f.job) e
    ∙ rw a refl

pub lost_many : (new : List Component) (drive : ℕ) (old : List Component) → new ≡ lose_on drive old → length new ≡ length old
lost_many new drive old e = rw e (length_lost_on drive old)

pub sound_off : (k : Kept) (cs : List Component) (drive : ℕ) → cs ≡ lose_on drive k.components → IsSound k →
    IsSound (record k { components = cs })
sound_off k cs drive e s =
    record {
      few = rw (e, length_lost_on drive k.components) s.few;
      whole =
          rw (e, length_lost_on drive k.components) s.whole;
      high = s.high;
      live = s.live;
      ended = s.ended;
    }
