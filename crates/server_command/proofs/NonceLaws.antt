-- A step of a drive's reply sends nothing, or takes a nonce: function by function.
use Rattle.std.specs.Prelude.{ℕ, Bool, true, false, List, [], ◌∷◌, Option, Some, None, ◌≡◌, ◌⊎◌, ◌≤◌, ◌<◌, ◌+◌, nat_lt, replicate, find}
use Rattle.std.proofs.Common.{inl, inr, arith}
use Rattle.std.proofs.lemmas.Bool.{cases_Bool}
use Rattle.server_rules.specs.Columns.{end_of}
use Rattle.osd_commands.specs.declared.replies.Reply.{Reply}
use Rattle.server_rules.specs.declared.files.Component.{Component}
use Rattle.server_rules.specs.declared.jobs.Awaited.{Awaited}
use Rattle.server_rules.specs.declared.jobs.Heard.{Heard}
use Rattle.server_rules.specs.declared.jobs.Job.{Job}
use Rattle.server_rules.specs.declared.jobs.JobKind.{JobKind}
use Rattle.server_rules.specs.declared.jobs.JobKind.TheVariants.{Making, Revoking, Rebuilding, Auditing}
use Rattle.server_rules.specs.declared.jobs.Piece.{Piece}
use Rattle.server_rules.specs.declared.jobs.Tally.{Tally}
use Rattle.server_rules.specs.declared.jobs.Target.{Target}
use Rattle.server_rules.specs.declared.jobs.Work.{Work}
use Rattle.server_rules.specs.declared.jobs.Work.TheVariants.{Creates, Fences, Fetches, Stores, Targets, Gathers, Fills, Lengths, Checks}
use Rattle.server_rules.specs.declared.notes.NoteKind.TheVariants.{NoDrive}
use Rattle.server_rules.specs.declared.server.Effects.{Effects}
use Rattle.server_rules.specs.Going.{Going, noting_if, rests_or, sending}
use Rattle.server_rules.specs.Audit.{audits, audit_begins}
use Rattle.server_rules.specs.Rebuild.{rebuilds, makes_or, fills, filling, target_gone, target_full}
use Rattle.server_rules.specs.Repair.{repairs, after_repair, mended, storing, stored, repair_begins}
use Rattle.server_rules.specs.Jobs.{fenced, goes_on, fetched, written, gathered, filled_in, audited_on, waits_or_on, loses, refills, remakes}
use Rattle.server_rules.specs.Replies.{Hearing, Older, Full, Done, Nothing, hearing, hears, fills_up, on_reply, heard_by, heard_in, answers}

-- the nonces didn't fall, and what is sent is as before unless they rose
pub record Rises (m n : Effects) : Type 0 where
  pub least : m.nonce ≤ n.nonce
  pub more : (n.sent ≡ m.sent) ⊎ (m.nonce < n.nonce)

-- neither was touched yet
abbrev pub At : Effects → Going → Type 0
At m g = (g.effects.nonce ≡ m.nonce) × (g.effects.sent ≡ m.sent)

pub here : (m : Effects) (g : Going) → At m g → Rises m g.effects
here m g e = record { least = omega (arith, e.0); more = inl e.1 }

sent_some : (m : Effects) (g : Going) (c : Awaited) (cs : List Awaited) → At m g → Rises m (sending g (c ∷ cs)).effects
sent_some m g c cs e = record { least = omega (arith, e.0); more = inr (omega (arith, e.0)) }

rests_or_rises : (m : Effects) (cs : List Awaited) (g : Going) (kind : JobKind) (work : Work) (later : Going) → At m g →
    Rises m later.effects
    → Rises m (rests_or cs g kind work later).effects
rests_or_rises m [] g kind work later e h = h
rests_or_rises m (c ∷ cs) g kind work later e h = sent_some m g c cs e

-- ---- audit

audits_rise : (m : Effects) (g : Going) (ps : List Piece) (t : Tally) → At m g → Rises m (audits g ps t).effects
unfolding audits
audits_rise m g [] t e = record { least = omega (arith, e.0); more = inl e.1 }
audits_rise m g (p ∷ ps) t e = rests_or_rises m _ g _ _ _ e (audits_rise m g ps _ e)

audit_rises : (m : Effects) (g : Going) → At m g → Rises m (audit_begins g).effects
unfolding audit_begins
audit_rises m g e = rests_or_rises m _ g _ _ _ e (audits_rise m g _ _ e)

-- ---- rebuild

makes_or_rises : (m : Effects) (g : Going) (t : Option Target) (later : Going) → At m g → Rises m later.effects →
    Rises m (makes_or g t later).effects
makes_or_rises m g None later e h = h
makes_or_rises m g (Some t) later e h = record { least = omega (arith, e.0); more = inr (omega (arith, e.0)) }

rebuilds_rise : (m : Effects) (g : Going) (cs : List Component) (k : ℕ) → At m g → Rises m (rebuilds g cs k).effects
unfolding rebuilds
rebuilds_rise m g [] k e = here m g e
rebuilds_rise m g (at ∷ cs) k e = makes_or_rises m g _ _ e (rebuilds_rise m (noting_if at.missing g (NoDrive k)) cs (k + 1) e)

fills_rise : (m : Effects) (g : Going) (t : Target) (ps : List Piece) → At m g → Rises m (fills g t ps).effects
unfolding fills
fills_rise m g t [] e = rebuilds_rise m _ _ _ e
fills_rise m g t (p ∷ ps) e = rests_or_rises m _ g _ _ _ e (rebuilds_rise m _ _ _ e)

filling_rises : (m : Effects) (g : Going) (t : Target) (p : Piece) (ps : List Piece) (bytes : List ℕ) → At m g →
    Rises m (filling g t p ps bytes).effects
unfolding filling
filling_rises m g t p ps bytes e = elim (cases_Bool (nat_lt 0 (end_of bytes (replicate p.count 0)))) [
  | inl i ↦ rw i (sent_some m g _ [] e)
  | inr i ↦ rw i (fills_rise m g t ps e)
]

gone_rises : (m : Effects) (g : Going) (t : Target) → At m g → Rises m (target_gone g t).effects
gone_rises m g t e = rebuilds_rise m _ _ _ e

full_rises : (m : Effects) (g : Going) (t : Target) → At m g → Rises m (target_full g t).effects
full_rises m g t e = rebuilds_rise m _ _ _ e

-- ---- repair

after_rises : (m : Effects) (kind : JobKind) (g : Going) → At m g → Rises m (after_repair kind g).effects
after_rises m Making g e = here m g e
after_rises m Revoking g e = here m g e
after_rises m Rebuilding g e = rebuilds_rise m g _ _ e
after_rises m Auditing g e = audit_rises m g e

repairs_rise : (m : Effects) (kind : JobKind) (g : Going) (ps : List Piece) (short : List ℕ) → At m g →
    Rises m (repairs kind g ps short).effects
unfolding repairs
repairs_rise m kind g [] short e = after_rises m kind (mended g short) e
repairs_rise m kind g (p ∷ ps) short e = rests_or_rises m _ g _ _ _ e (repairs_rise m kind g ps _ e)

storing_rises : (m : Effects) (kind : JobKind) (g : Going) (p : Piece) (ps : List Piece) (short : List ℕ) (heard : List Heard) →
    At m g → Rises m (storing kind g p ps short heard).effects
unfolding storing
storing_rises m kind g p ps short heard e = rests_or_rises m _ g _ _ _ e (repairs_rise m kind g ps short e)

stored_rises : (m : Effects) (kind : JobKind) (g : Going) (p : Piece) (ps : List Piece) (short : List ℕ) (broken : Bool) →
    At m g → Rises m (stored kind g p ps short broken).effects
stored_rises m kind g p ps short true e = repairs_rise m kind g (p ∷ ps) short e
stored_rises m kind g p ps short false e = repairs_rise m kind g ps short e

repair_rises : (m : Effects) (kind : JobKind) (g : Going) → At m g → Rises m (repair_begins kind g).effects
unfolding repair_begins
repair_rises m kind g e = repairs_rise m kind g _ _ e

-- ---- the job

fenced_rises : (m : Effects) (kind : JobKind) (g : Going) → At m g → Rises m (fenced kind g).effects
unfolding fenced
fenced_rises m kind g e = repair_rises m kind _ e

fetched_rises : (m : Effects) (kind : JobKind) (g : Going) (ps : List Piece) (short : List ℕ) (heard : List Heard) → At m g →
    Rises m (fetched kind g ps short heard).effects
fetched_rises m kind g [] short heard e = repairs_rise m kind g [] short e
fetched_rises m kind g (p ∷ ps) short heard e = storing_rises m kind g p ps short heard e

written_rises : (m : Effects) (kind : JobKind) (g : Going) (ps : List Piece) (short : List ℕ) (broken : Bool) → At m g →
    Rises m (written kind g ps short broken).effects
written_rises m kind g [] short broken e = repairs_rise m kind g [] short e
written_rises m kind g (p ∷ ps) short broken e = stored_rises m kind g p ps short broken e

gathered_rises : (m : Effects) (g : Going) (t : Target) (ps : List Piece) (heard : List Heard) → At m g →
    Rises m (gathered g t ps heard).effects
gathered_rises m g t [] heard e = fills_rise m g t [] e
gathered_rises m g t (p ∷ ps) heard e = filling_rises m g t p ps _ e

filled_rises : (m : Effects) (g : Going) (t : Target) (ps : List Piece) → At m g → Rises m (filled_in g t ps).effects
filled_rises m g t [] e = fills_rise m g t [] e
filled_rises m g t (p ∷ ps) e = fills_rise m g t ps e

checked_rises : (m : Effects) (g : Going) (ps : List Piece) (t : Tally) (heard : List Heard) → At m g →
    Rises m (audited_on g ps t heard).effects
checked_rises m g [] t heard e = audits_rise m g [] t e
checked_rises m g (p ∷ ps) t heard e = audits_rise m g ps _ e

on_rises : (m : Effects) (kind : JobKind) (work : Work) (heard : List Heard) (g : Going) → At m g →
    Rises m (goes_on kind work heard g).effects
unfolding goes_on
on_rises m kind Creates heard g e = record { least = omega (arith, e.0); more = inl e.1 }
on_rises m kind Fences heard g e = fenced_rises m kind g e
on_rises m kind (Fetches ps short) heard g e = fetched_rises m kind g ps short heard e
on_rises m kind (Stores ps short broken) heard g e = written_rises m kind g ps short broken e
on_rises m kind (Targets t) heard g e = fills_rise m g t _ e
on_rises m kind (Gathers t ps) heard g e = gathered_rises m g t ps heard e
on_rises m kind (Fills t ps) heard g e = filled_rises m g t ps e
on_rises m kind Lengths heard g e = audits_rise m g _ _ e
on_rises m kind (Checks ps t) heard g e = checked_rises m g ps t heard e

waits_or_on_rises : (m : Effects) (g : Going) (j : Job) (work : Work) (rest : List Awaited) (heard : List Heard) → At m g →
    Rises m (waits_or_on g j work rest heard).effects
waits_or_on_rises m g j work [] heard e = on_rises m j.kind work heard g e
waits_or_on_rises m g j work (c ∷ cs) heard e = here m g e

refills_rise : (m : Effects) (g : Going) (t : Target) (ps : List Piece) (gone : Bool) → At m g →
    Rises m (refills g t ps gone).effects
refills_rise m g t ps true e = gone_rises m g t e
refills_rise m g t ps false e = fills_rise m g t ps e

remakes_rise : (m : Effects) (g : Going) (t : Target) (gone : Bool) → At m g → Rises m (remakes g t gone).effects
remakes_rise m g t true e = gone_rises m g t e
remakes_rise m g t false e = here m g e

loses_rises : (m : Effects) (g : Going) (j : Job) (work : Work) (rest : List Awaited) (gone : Bool) → At m g →
    Rises m (loses g j work rest gone).effects
unfolding loses
loses_rises m g j (Fetches ps short) rest gone e = repairs_rise m j.kind g ps short e
loses_rises m g j (Stores ps short broken) rest gone e = waits_or_on_rises m g j _ rest _ e
loses_rises m g j (Targets t) rest gone e = remakes_rise m g t gone e
loses_rises m g j (Gathers t ps) rest gone e = refills_rise m g t ps gone e
loses_rises m g j (Fills t ps) rest gone e = refills_rise m g t ps gone e
loses_rises m g j (Checks ps t) rest gone e = audits_rise m g ps t e
loses_rises m g j work rest gone e = waits_or_on_rises m g j work rest j.heard e

-- ---- a reply

fills_up_rises : (m : Effects) (g : Going) (j : Job) (a : Awaited) (work : Work) → At m g → Rises m (fills_up g j a work).effects
fills_up_rises m g j a (Targets t) e = full_rises m g t e
fills_up_rises m g j a (Gathers t todo) e = full_rises m g t e
fills_up_rises m g j a (Fills t todo) e = full_rises m g t e
fills_up_rises m g j a work e = loses_rises m _ j work _ false e

hears_rises : (m : Effects) (g : Going) (j : Job) (a : Awaited) (r : Reply) (as_ : Hearing) → At m g →
    Rises m (hears g j a r as_).effects
hears_rises m g j a r Older e = sent_some m g _ [] e
hears_rises m g j a r Full e = fills_up_rises m g j a j.work e
hears_rises m g j a r Done e = waits_or_on_rises m g j j.work _ _ e
hears_rises m g j a r Nothing e = here m g e

-- the nonces rose, where there is a file that heard it
abbrev pub RisesIn : Effects → Option Going → Type 0
RisesIn m None = Unit {0}
RisesIn m (Some g) = Rises m g.effects

by_rises : (m : Effects) (g : Going) (r : Reply) (j : Job) (o : Option Awaited) → At m g → RisesIn m (heard_by g r j o)
by_rises m g r j None e = tt
by_rises m g r j (Some a) e = hears_rises m g j a r (hearing g.file.kept a r) e

in_rises : (m : Effects) (g : Going) (drive : ℕ) (r : Reply) (j : Option Job) → At m g → RisesIn m (heard_in g drive r j)
in_rises m g drive r None e = tt
in_rises m g drive r (Some j) e = by_rises m g r j (find (answers drive r) j.awaited) e

pub reply_rises : (m : Effects) (g : Going) (drive : ℕ) (r : Reply) → At m g → RisesIn m (on_reply g drive r)
unfolding on_reply
reply_rises m g drive r e = in_rises m g drive r g.file.job e
