-- What a reply does to a job.
use Rattle.std.specs.Prelude.{ℕ, List, [], ◌∷◌, ◌++◌, Option, Some, None, ◌≡◌, map, slice_get, find, refl}
use Rattle.std.proofs.Common.{ap, sym, ◌∙◌}
use Rattle.osd_lists.proofs.Slices.{some_at}
use Rattle.osd_commands.specs.declared.replies.Reply.{Reply}
use Rattle.server_rules.specs.declared.files.Kept.{Kept}
use Rattle.server_rules.specs.declared.jobs.Awaited.{Awaited}
use Rattle.server_rules.specs.declared.jobs.Heard.{Heard}
use Rattle.server_rules.specs.declared.jobs.Job.{Job}
use Rattle.server_rules.specs.declared.server.Effects.{Effects}
use Rattle.server_rules.specs.Going.{Going}
use Rattle.server_rules.specs.Jobs.{waits_or_on}
use Rattle.osd_capability.specs.declared.layout.TheConstants.{FORMAT_SHA256}
use Rattle.server_rules.specs.Commands.{again_in_2}
use Rattle.server_rules.specs.Replies.{Hearing, Done, answers, heard_in, heard_with, hearing, hears, others, renewed, renews}
use Rattle.file_jobs.specs.Heard.{FoundIn}
use Rattle.file_jobs.specs.declared.job.Turn.TheVariants.{Rests}
use Rattle.file_jobs.specs.Steps.{Around, going, turned}
use Rattle.file_jobs.specs.Works.{sends}

-- by what it is to the command at that place
pub heard_is : (g : Going) (j : Job) (k : Kept) (r : Reply) (cs : List Awaited) (place : ℕ) (a x : Awaited) (kind : Hearing) →
    slice_get cs place ≡ Some x → slice_get cs place ≡ Some a → kind ≡ hearing k x r →
    hears g j a r kind ≡ hears g j a r (hearing k a r)
heard_is g j k r cs place a x kind u v e =
    let same : x ≡ a = cc (u, v) in
    ap (hears g j a r) (e ∙ ap (λ (y : Awaited). hearing k y r) same)

-- the job waits on
pub waits_on_still : (k : Kept) (m : Effects) (s : Around) (j : Job) → s.job ≡ Some j → turned (Rests j) k m s ≡ going k m s
waits_on_still k m s j e = ap (λ (x : Option Job). going k m (record s { job = x })) (sym e)

-- ---- the job that awaits it

by_job : (g : Going) (drive : ℕ) (r : Reply) (o : Option Job) (j : Job) (a : Awaited) → o ≡ Some j →
    find (answers drive r) j.awaited ≡ Some a → heard_in g drive r o ≡ Some (hears g j a r (hearing g.file.kept a r))
by_job g drive r o j a e f = rw e (rw f refl)

pub is_heard : (g : Going) (drive : ℕ) (r : Reply) (o : Option Job) (j : Job) (place : ℕ) (x : Going) → o ≡ Some j →
    FoundIn drive r place o →
    ((a : Awaited) → slice_get j.awaited place ≡ Some a → x ≡ hears g j a r (hearing g.file.kept a r)) →
    heard_in g drive r o ≡ Some x
is_heard g drive r None j place x e f h = absurd f
is_heard g drive r (Some i) j place x e f h =
    let same : i ≡ j = cc e in
    let at = some_at i.awaited place f.0 in
    by_job g drive r (Some i) j at.0 e (ap (λ (y : Job). find (answers drive r) y.awaited) (sym same) ∙ f.1 ∙ at.1)
    ∙ ap Some (sym (h at.0 (ap (λ (y : Job). slice_get y.awaited place) (sym same) ∙ at.1)))

-- the reply is heard, and its command isn't awaited any more
pub heard_job : (j i : Job) (a x y : Awaited) (r : Reply) (rest : List Awaited) (heard : List Heard) →
    i ≡ record { kind = j.kind; work = j.work; awaited = rest; heard = heard } → x ≡ a → y ≡ a →
    rest ≡ others j.awaited y.command.nonce →
    heard ≡ j.heard ++ (record { component = x.component; payload = r.payload } ∷ []) →
    i ≡ record j { awaited = others j.awaited a.command.nonce; heard = heard_with j a r }
heard_job j i a x y r rest heard e ex ey er eh = e ∙ rw (er, eh, ex, ey) refl

-- the command is answered, and the job goes on without it
pub answered_job : (g : Going) (j i : Job) (a : Awaited) (r : Reply) →
    i ≡ record j { awaited = others j.awaited a.command.nonce; heard = heard_with j a r } →
    waits_or_on g i i.work i.awaited i.heard ≡ hears g j a r Done
answered_job g j i a r e = rw e refl

-- the command goes again, and the job waits for it
pub renewed_job : (k : Kept) (m is : Effects) (s : Around) (j : Job) (a : Awaited) (cs : List Awaited) →
    is ≡ sends m (again_in_2 a m.nonce ∷ []) → cs ≡ map (renewed a (again_in_2 a m.nonce)) j.awaited →
    turned (Rests (record { kind = j.kind; work = j.work; awaited = cs; heard = j.heard }))
    (record k { format = FORMAT_SHA256 }) is s ≡ renews (going k m s) j a
renewed_job k m is s j a cs e f = rw (e, f) refl
