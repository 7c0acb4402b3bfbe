-- Components that are placed, or passed over.
use Rattle.std.specs.Prelude.{ℕ, true, false, List, [], ◌∷◌, Some, None, refl, ◌≡◌, ◌==◌, ◌+◌, ◌<◌, drop, length, slice_get, find, is_some}
use Rattle.std.proofs.Common.{ap, sym, ◌∙◌}
use Rattle.std.proofs.lemmas.List.{drop_more}
use Rattle.std.proofs.lemmas.Option.{get_or_from_slice_get}
use Rattle.server_rules.specs.declared.files.Component.{Component}
use Rattle.server_rules.specs.declared.files.Kept.{Kept}
use Rattle.server_rules.specs.declared.jobs.Awaited.{Awaited}
use Rattle.server_rules.specs.declared.jobs.JobKind.TheVariants.{Rebuilding}
use Rattle.server_rules.specs.declared.notes.NoteKind.TheVariants.{NoDrive}
use Rattle.server_rules.specs.declared.server.Drive.{Drive}
use Rattle.server_rules.specs.declared.server.Effects.{Effects}
use Rattle.server_rules.specs.Commands.{Creating, sent_to}
use Rattle.server_rules.specs.declared.jobs.Work.TheVariants.{Targets}
use Rattle.server_rules.specs.Going.{Going, over, noting_if, rests_or}
use Rattle.server_rules.specs.Rebuild.{picked, target_for, makes, rebuilds}
use Rattle.server_rules.specs.Zoning.{takers}
use Rattle.file_jobs.specs.declared.job.Work.TheVariants.{Targets as Placing}
use Rattle.file_jobs.specs.declared.job.Turn.{Turn}
use Rattle.file_jobs.specs.Works.{noted}
use Rattle.file_jobs.specs.Placing.{IsPick}
use Rattle.file_jobs.specs.Steps.{Around, going, RestsOr, MakesOn}

-- the CREATE alone is sent
pub made_on : (k drive : ℕ) (kept : Kept) (was is : Effects) (turn : Turn) (cs : List Awaited) →
    cs ≡ sent_to kept Creating k drive was.object was.nonce ∷ [] →
    RestsOr cs Rebuilding (Placing (record { component = k; drive = drive; object = was.object }))
    (record was { object = was.object + 1 }) turn is → MakesOn k drive kept was turn is
made_on k drive kept was is turn cs e h = λ a.
    h kept a (over (going kept was a))
    ∙ ap (λ (xs : List Awaited). rests_or xs (going kept (record was { object = was.object + 1 }) a) Rebuilding
    (Targets (record { component = k; drive = drive; object = was.object })) (over (going kept was a))) e

-- ---- one component

picked_is : (ds : List Drive) (drive : ℕ) (rest : List ℕ) → is_some (find (λ d. d.number == drive) ds) ≡ true →
    picked (drive ∷ rest) ds ≡ Some drive
picked_is [] drive rest e = absurd (cc e)
picked_is (d ∷ ds) drive rest e = rw e refl

-- it is made on the drive that was picked
one_made : (g : Going) (at : Component) (cs : List Component) (k drive : ℕ) → at.missing ≡ true →
    picked g.chosen (takers g.drives g.file.kept k) ≡ Some drive →
    rebuilds g (at ∷ cs) k ≡ makes g (record { component = k; drive = drive; object = g.effects.object })
unfolding rebuilds target_for
one_made g at cs k drive t e = rw (t, e) refl

-- no drive can take it
one_passed : (g : Going) (at : Component) (cs : List Component) (k : ℕ) → at.missing ≡ true → takers g.drives g.file.kept k ≡ [] →
    rebuilds g (at ∷ cs) k ≡ rebuilds (noting_if true g (NoDrive k)) cs (k + 1)
unfolding rebuilds target_for
one_passed g at cs k t e = rw (t, e) refl

-- it is present
one_present : (g : Going) (at : Component) (cs : List Component) (k : ℕ) → at.missing ≡ false →
    rebuilds g (at ∷ cs) k ≡ rebuilds g cs (k + 1)
unfolding rebuilds target_for
one_present g at cs k f = rw f refl

-- ---- the component at a place

here : (cs : List Component) (k : ℕ) (at : Component) → k < length cs → slice_get cs k ≡ Some at →
    drop k cs ≡ at ∷ drop (k + 1) cs
here cs k at l e = drop_more cs k at l ∙ ap (λ (x : Component). x ∷ drop (k + 1) cs) (get_or_from_slice_get cs k at at e)

pub is_present : (kept : Kept) (m : Effects) (a : Around) (k : ℕ) (at : Component) → k < length kept.components →
    slice_get kept.components k ≡ Some at → at.missing ≡ false →
    rebuilds (going kept m a) (drop (k + 1) kept.components) (k + 1) ≡ rebuilds (going kept m a) (drop k kept.components) k
is_present kept m a k at l e f =
    sym (one_present (going kept m a) at (drop (k + 1) kept.components) k f)
    ∙ ap (λ (cs : List Component). rebuilds (going kept m a) cs k) (sym (here kept.components k at l e))

pub is_passed : (kept : Kept) (m : Effects) (a : Around) (k : ℕ) (at : Component) → k < length kept.components →
    slice_get kept.components k ≡ Some at → at.missing ≡ true →
    IsPick a.drives kept k None →
    rebuilds (going kept (noted m kept.number (NoDrive k)) a) (drop (k + 1) kept.components) (k + 1) ≡ rebuilds (going kept m a)
    (drop k kept.components) k
is_passed kept m a k at l e t p =
    sym (one_passed (going kept m a) at (drop (k + 1) kept.components) k t p)
    ∙ ap (λ (cs : List Component). rebuilds (going kept m a) cs k) (sym (here kept.components k at l e))

pub is_made_on : (kept : Kept) (m : Effects) (a : Around) (k drive : ℕ) (at : Component) → k < length kept.components →
    slice_get kept.components k ≡ Some at → at.missing ≡ true →
    IsPick a.drives kept k (Some drive) →
    makes (going kept m (record a { chosen = drive ∷ a.chosen })) (record { component = k; drive = drive; object = m.object })
    ≡ rebuilds (going kept m (record a { chosen = drive ∷ a.chosen })) (drop k kept.components) k
is_made_on kept m a k drive at l e t p =
    let g : Going = going kept m (record a { chosen = drive ∷ a.chosen }) in
    sym (one_made g at (drop (k + 1) kept.components) k drive t (picked_is (takers a.drives kept k) drive a.chosen p))
    ∙ ap (λ (cs : List Component). rebuilds g cs k) (sym (here kept.components k at l e))
