-- What an audit has left to read, and has found, behind each part of a job.
use Rattle.std.proofs.Common.{◌≡◌, ◌⊎◌, ℕ, zero, suc, ◌+◌, Bool, true, false, nat_lt, List, [], ◌∷◌, replicate, slice_get, Option, Some, None, refl, sym, ap, subst, ◌∙◌, inl, inr, if◌then◌else◌}
use Rattle.data_map.specs.Striping.{group_of}
use Rattle.server_rules.specs.Audit.{audits, audits_all, audit_begins, tallied, checked}
use Rattle.server_rules.specs.Columns.{end_of}
use Rattle.server_rules.specs.Commands.{Creating, Raising, Measuring, All, to_all}
use Rattle.server_rules.specs.Going.{Going, keeping, noting_if, rests, rests_or}
use Rattle.server_rules.specs.Jobs.{making, is_made, ending, fenced, fence_begins, goes_on, waits_or_on, loses}
use Rattle.server_rules.specs.Laws.{In}
use Rattle.server_rules.specs.Maps.{pieces, pieces_in}
use Rattle.server_rules.specs.Pieces.{reads, stores, short_with}
use Rattle.server_rules.specs.Rebuild.{target_for, makes_or, rebuilds, group_for, sources, fills, lost, made, to_fill, filling}
use Rattle.server_rules.specs.Repair.{after_repair, mended, repair_reads, repairs, storing, repair_begins}
use Rattle.world_history.specs.ServerNames.{Kept, Component, Awaited, Heard, Piece, Target, Job, JobKind, Making, Revoking, Rebuilding, Auditing, Work, Creates, Fences, Fetches, Stores, Targets, Gathers, Fills, Lengths, Checks, Tally, NoDrive}
use Rattle.history_claims.specs.Audits.{HasFound}
use Rattle.history_claims.specs.Notes.{AllMissing, NoneIn, found_first, all_pieces, with_bad, Through}
use Rattle.history_claims.proofs.NoteWords.{reads_some, all_missing}
use Rattle.history_claims.proofs.NoteWalk.{Audits, RestsThere, IsOver, audits_so, audits_kept, AuditOn, OnLengths, OnRows, OnNone}

-- ---- parts that leave no audit

abbrev pub NoAudit : Going → Type 0
NoAudit h = (left : List Piece) (found : Tally) → HasFound h.file.job left found → ⊥

no_rests : (cs : List Awaited) (g : Going) (kind : JobKind) (work : Work) (later : Going)
    → ((left : List Piece) (found : Tally) → work ≡ Checks left found → ⊥) → NoAudit later
    → NoAudit (rests_or cs g kind work later)
no_rests [] g kind work later other on = on
no_rests (c ∷ cs) g kind work later other on = other

no_rebuilds : (g : Going) (cs : List Component) (k : ℕ) → NoAudit (rebuilds g cs k)
unfolding rebuilds
no_rebuilds g [] k = λ left found x. x
no_rebuilds g (at ∷ cs) k = by (target_for g at k) (no_rebuilds (noting_if at.missing g (NoDrive k)) cs (k + 1))
  where
    by : (o : Option Target) → NoAudit (rebuilds (noting_if at.missing g (NoDrive k)) cs (k + 1))
        → NoAudit (makes_or g o (rebuilds (noting_if at.missing g (NoDrive k)) cs (k + 1)))
    by None on = on
    by (Some t) on = λ left found x. cc x

no_fills : (g : Going) (t : Target) (ps : List Piece) → NoAudit (fills g t ps)
unfolding fills
no_fills g t [] = no_rebuilds _ _ _
no_fills g t (p ∷ ps) =
    no_rests (sources g.file.kept t p g.effects.nonce) g Rebuilding (Gathers t (p ∷ ps)) (lost g t) (λ left found e. cc e)
    (no_rebuilds _ _ _)

no_filling : (g : Going) (t : Target) (p : Piece) (ps : List Piece) (bytes : List ℕ) → NoAudit (filling g t p ps bytes)
unfolding filling
no_filling g t p ps bytes = by (nat_lt 0 (end_of bytes (replicate p.count 0)))
  where
    by : (b : Bool) → NoAudit
        (if b then rests g Rebuilding (Fills t (p ∷ ps)) (to_fill g.file.kept t p bytes g.effects.nonce) [] else fills g t ps)
    by true = λ left found x. cc x
    by false = no_fills g t ps

-- where no component is present, nothing can be read
in_list : (cs : List Component) (n : ℕ) (at : Component) → slice_get cs n ≡ Some at → In at cs
in_list [] n at e = absurd (cc e)
in_list (c ∷ cs) zero at e = let same : c ≡ at = cc e in inl (sym same)
in_list (c ∷ cs) (suc n) at e = inr (in_list cs n at e)

none_in : (f : Kept) (group : ℕ) → AllMissing f.components → NoneIn f group
none_in f group all n at there own = all at (in_list f.components n at there)

no_audits : (g : Going) (ps : List Piece) (t : Tally) → AllMissing g.file.kept.components → NoAudit (audits g ps t)
unfolding audits
no_audits g [] t all = λ left found x. x
no_audits g (p ∷ ps) t all =
    by (reads g.file.kept p g.effects.nonce) refl (no_audits g ps (tallied g.file.kept p t) all)
  where
    by : (ws : List Awaited) → reads g.file.kept p g.effects.nonce ≡ ws → NoAudit (audits g ps (tallied g.file.kept p t))
        → NoAudit (rests_or ws g Auditing (Checks (p ∷ ps) (tallied g.file.kept p t))
        (audits g ps (tallied g.file.kept p t)))
    by [] e on = on
    by (c ∷ cs) e on =
        absurd (reads_some g.file.kept p g.effects.nonce c cs e (none_in g.file.kept (group_of g.file.kept.map p.stripe) all))

no_begun : (g : Going) → NoAudit (audit_begins g)
unfolding audit_begins
no_begun g = by (to_all g.file.kept All Measuring g.effects.nonce) refl
  where
    by : (ws : List Awaited) → to_all g.file.kept All Measuring g.effects.nonce ≡ ws
        → NoAudit (rests_or ws g Auditing Lengths (audits_all g []))
    by (c ∷ cs) e = λ left found x. cc x
    by [] e =
        no_audits g (all_pieces g.file.kept) (found_first []) (all_missing g.file.kept Measuring g.effects.nonce e)

no_after : (kind : JobKind) (g : Going) → NoAudit (after_repair kind g)
no_after Making g = λ left found x. x
no_after Revoking g = λ left found x. x
no_after Rebuilding g = no_rebuilds _ _ _
no_after Auditing g = no_begun g

no_repairs : (kind : JobKind) (g : Going) (ps : List Piece) (short : List ℕ) → NoAudit (repairs kind g ps short)
unfolding repairs
no_repairs kind g [] short = no_after kind (mended g short)
no_repairs kind g (p ∷ ps) short =
    no_rests (repair_reads g.file.kept p g.effects.nonce) g kind (Fetches (p ∷ ps) (short_with g.file.kept p short))
    (repairs kind g ps (short_with g.file.kept p short)) (λ left found e. cc e)
    (no_repairs kind g ps (short_with g.file.kept p short))

no_storing : (kind : JobKind) (g : Going) (p : Piece) (ps : List Piece) (short : List ℕ) (heard : List Heard)
    → NoAudit (storing kind g p ps short heard)
unfolding storing
no_storing kind g p ps short heard =
    no_rests (stores g.file.kept p heard g.effects.nonce) g kind (Stores (p ∷ ps) short false) (repairs kind g ps short)
    (λ left found e. cc e) (no_repairs kind g ps short)

no_fenced : (kind : JobKind) (g : Going) → NoAudit (fenced kind g)
unfolding fenced repair_begins
no_fenced kind g = no_repairs kind _ _ []

pub no_fence : (kind : JobKind) (format : ℕ) (g : Going) → NoAudit (fence_begins kind format g)
unfolding fence_begins
no_fence kind format g =
    let h : Going = keeping g (ending g.file.kept format) in
    no_rests (to_all h.file.kept All Raising h.effects.nonce) h kind Fences (fenced kind h) (λ left found e. cc e)
    (no_fenced kind h)

pub no_making : (g : Going) → NoAudit (making g)
unfolding making
no_making g =
    no_rests (to_all g.file.kept All Creating g.effects.nonce) g Making Creates (is_made g) (λ left found e. cc e)
    (λ left found x. x)

-- ---- an audit that goes on

found_audits : (g : Going) (ps : List Piece) (t : Tally) (left : List Piece) (found : Tally)
    → HasFound (audits g ps t).file.job left found → Through g.file.kept ps t left found
found_audits g ps t left found = by (audits_so g ps t)
  where
    same : (l m : List Piece) (u v : Tally) → Checks l u ≡ Checks m v → (l ≡ m) × (u ≡ v)
    same l m u v e = (cc e, cc e)

    by : Audits g.file.kept ps t g (audits g ps t) → HasFound (audits g ps t).file.job left found
        → Through g.file.kept ps t left found
    by (IsOver u job x notes) has = absurd (subst (λ (o : Option Job). HasFound o left found) job has)
    by (RestsThere j l u job work heard x notes) has =
        let both = same l left u found (sym work ∙ subst (λ (o : Option Job). HasFound o left found) job has) in
        subst (λ (y : Tally). Through g.file.kept ps t left y) both.1
        (subst (λ (y : List Piece). Through g.file.kept ps t y u) both.0 x)

-- Where it goes on: with which pieces, and what was found. Of what is kept before that and behind it, which is the same.
pub record OnWith (f k : Kept) (work : Work) (heard : List Heard) (left : List Piece) (found : Tally) : Type 0 where
  pub pieces : List Piece
  pub first : Tally
  pub on : AuditOn f heard work pieces first
  pub through : Through f pieces first left found
  pub same : k ≡ f

found_on : (kind : JobKind) (work : Work) (heard : List Heard) (g : Going) (left : List Piece) (found : Tally)
    → HasFound (goes_on kind work heard g).file.job left found
    → OnWith g.file.kept (goes_on kind work heard g).file.kept work heard left found
unfolding goes_on checked
found_on kind Creates heard g left found x = absurd x
found_on kind Fences heard g left found x = absurd (no_fenced kind g left found x)
found_on kind (Fetches [] short) heard g left found x = absurd (no_repairs kind g [] short left found x)
found_on kind (Fetches (p ∷ ps) short) heard g left found x = absurd (no_storing kind g p ps short heard left found x)
found_on kind (Stores [] short broken) heard g left found x = absurd (no_repairs kind g [] short left found x)
found_on kind (Stores (p ∷ ps) short true) heard g left found x = absurd (no_repairs kind g (p ∷ ps) short left found x)
found_on kind (Stores (p ∷ ps) short false) heard g left found x = absurd (no_repairs kind g ps short left found x)
found_on kind (Targets t) heard g left found x =
    absurd (no_fills g t (pieces_in g.file.kept.map (group_for g.file.kept t) g.file.kept.high) left found x)
found_on kind (Gathers t []) heard g left found x = absurd (no_fills g t [] left found x)
found_on kind (Gathers t (p ∷ ps)) heard g left found x =
    absurd (no_filling g t p ps (made g.file.kept t p heard) left found x)
found_on kind (Fills t []) heard g left found x = absurd (no_fills g t [] left found x)
found_on kind (Fills t (p ∷ ps)) heard g left found x = absurd (no_fills g t ps left found x)
found_on kind Lengths heard g left found x = record {
  pieces = all_pieces g.file.kept;
  first = found_first heard;
  on = OnLengths;
  through = found_audits g (all_pieces g.file.kept) (found_first heard) left found x;
  same = audits_kept g (all_pieces g.file.kept) (found_first heard);
}
found_on kind (Checks [] t) heard g left found x =
    record {
      pieces = [];
      first = t;
      on = OnNone t;
      through = found_audits g [] t left found x;
      same = audits_kept g [] t;
    }
found_on kind (Checks (p ∷ ps) t) heard g left found x = record {
  pieces = ps;
  first = with_bad g.file.kept p heard t;
  on = OnRows p ps t;
  through = found_audits g ps (with_bad g.file.kept p heard t) left found x;
  same = audits_kept g ps (with_bad g.file.kept p heard t);
}

-- it waits on with the same work, or goes on
pub found_waits : (g : Going) (j : Job) (work : Work) (rest : List Awaited) (heard : List Heard) (left : List Piece)
    (found : Tally) → HasFound (waits_or_on g j work rest heard).file.job left found
    → (work ≡ Checks left found)
    ⊎ OnWith g.file.kept (waits_or_on g j work rest heard).file.kept work heard left found
found_waits g j work [] heard left found x = inr (found_on j.kind work heard g left found x)
found_waits g j work (c ∷ cs) heard left found x = inl x

-- ---- a component is lost

-- its piece begins again, or no further length is awaited
pub data LostWith (f k : Kept) (work : Work) (heard : List Heard) (left : List Piece) (found : Tally) : Type 0 where
  Begins : (ps : List Piece) (t : Tally) → work ≡ Checks ps t → Through f ps t left found → k ≡ f
      → LostWith f k work heard left found
  Lasts : work ≡ Lengths → Through f (all_pieces f) (found_first heard) left found → k ≡ f
      → LostWith f k work heard left found

lasts : (f k : Kept) (heard : List Heard) (left : List Piece) (found : Tally) (ps : List Piece) (t : Tally)
    → AuditOn f heard Lengths ps t → Through f ps t left found → k ≡ f → LostWith f k Lengths heard left found
lasts f k heard left found _ _ OnLengths x same = Lasts refl x same

-- no other work goes on as an audit
abbrev pub is_audit : Work → Bool
is_audit Lengths = true
is_audit (Checks todo t) = true
is_audit work = false

of_audit : (f : Kept) (heard : List Heard) (work : Work) (ps : List Piece) (t : Tally) → AuditOn f heard work ps t
    → is_audit work ≡ true
of_audit f heard _ _ _ OnLengths = refl
of_audit f heard _ _ _ (OnRows p ps t) = refl
of_audit f heard _ _ _ (OnNone t) = refl

no_waits : (g : Going) (j : Job) (work : Work) (rest : List Awaited) (heard : List Heard) (left : List Piece)
    (found : Tally) → is_audit work ≡ false → HasFound (waits_or_on g j work rest heard).file.job left found → ⊥
no_waits g j work rest heard left found other x = elim (found_waits g j work rest heard left found x) [
  | inl e ↦ cc (sym other ∙ ap is_audit e)
  | inr o ↦ cc (sym other ∙ of_audit _ heard work o.pieces o.first o.on)
]

pub found_loses : (g : Going) (j : Job) (work : Work) (rest : List Awaited) (gone : Bool)
    → ((l : List Piece) (u : Tally) → HasFound g.file.job l u → work ≡ Checks l u) → (left : List Piece) (found : Tally)
    → HasFound (loses g j work rest gone).file.job left found
    → LostWith g.file.kept (loses g j work rest gone).file.kept work j.heard left found
unfolding loses
found_loses g j (Fetches ps short) rest gone at left found x = absurd (no_repairs j.kind g ps short left found x)
found_loses g j (Stores ps short broken) rest gone at left found x =
    absurd (no_waits g j (Stores ps short true) rest j.heard left found refl x)
found_loses g j (Targets t) rest true at left found x = absurd (no_rebuilds _ _ _ left found x)
found_loses g j (Targets t) rest false at left found x = absurd (cc (at left found x))
found_loses g j (Gathers t ps) rest true at left found x = absurd (no_rebuilds _ _ _ left found x)
found_loses g j (Gathers t ps) rest false at left found x = absurd (no_fills g t ps left found x)
found_loses g j (Fills t ps) rest true at left found x = absurd (no_rebuilds _ _ _ left found x)
found_loses g j (Fills t ps) rest false at left found x = absurd (no_fills g t ps left found x)
found_loses g j (Checks ps t) rest gone at left found x =
    Begins ps t refl (found_audits g ps t left found x) (audits_kept g ps t)
found_loses g j Creates rest gone at left found x = absurd (no_waits g j Creates rest j.heard left found refl x)
found_loses g j Fences rest gone at left found x = absurd (no_waits g j Fences rest j.heard left found refl x)
found_loses g j Lengths rest gone at left found x = elim (found_waits g j Lengths rest j.heard left found x) [
  | inl e ↦ absurd (cc e)
  | inr o ↦ lasts g.file.kept _ j.heard left found o.pieces o.first o.on o.through o.same
]

pub no_past : (g : Going) (cs : List Component) (k : ℕ) → NoAudit (rebuilds g cs k)
no_past g cs k = no_rebuilds g cs k
