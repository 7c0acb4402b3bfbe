-- A job that goes on stays at what it is at, or notes that this is over.
use Rattle.std.proofs.Common.{◌≡◌, ◌||◌, ℕ, ◌+◌, Bool, true, false, nat_lt, List, [], ◌∷◌, ◌++◌, length, drop, replicate, slice_set, Option, Some, None, refl, sym, ap, subst, inl, if◌then◌else◌}
use Rattle.server_rules.specs.Audit.{audits}
use Rattle.server_rules.specs.Columns.{end_of}
use Rattle.server_rules.specs.Grants.{merged, count_stripes}
use Rattle.server_rules.specs.Going.{Going, keeping, noting, noting_if, with_components, rests, rests_or}
use Rattle.server_rules.specs.Jobs.{fenced, goes_on, waits_or_on, loses, others_than, is_target, targets, declared_in, declares}
use Rattle.server_rules.specs.Laws.{In}
use Rattle.server_rules.specs.Maps.{pieces, pieces_in}
use Rattle.server_rules.specs.Pieces.{stores, short_with}
use Rattle.server_rules.specs.Rebuild.{goes_past, group_for, stands_at, sources, fills, lost, made, to_fill, filling}
use Rattle.server_rules.specs.Repair.{after_repair, mended, repair_reads, repairs, storing, repair_begins}
use Rattle.server_rules.specs.Replies.{Hearing, Older, Full, Done, Nothing, hears, fills_up}
use Rattle.server_rules.specs.Standing.{any_on, lose_on}
use Rattle.server_rules.proofs.Members.{in_front, in_behind}
use Rattle.world_history.specs.ServerNames.{Repairing, Awaited, Heard, Piece, Target, Job, JobKind, Rebuilding, Work, Creates, Fences, Fetches, Stores, Targets, Gathers, Fills, Lengths, Checks, Tally, Note, NoteKind, Ready, Fenced, Repaired, Rebuilt, NoDrive, Lost, NoSpace, Reply}
use Rattle.world_history.specs.Told.{told_note}
use Rattle.relation_law.proofs.Walk.{Place, JobCases, walk_behind, walk_rebuilds, walk_repairs, walk_loses}
use Rattle.history_claims.specs.Stages.{Stage, AtCreates, AtFence, AtRepair, AtComponent, AtAudit, stage_of, Ends, IsAt}
use Rattle.history_claims.proofs.NoteWalk.{Audits, RestsThere, IsOver, audit_note, audits_so}

-- ---- notes stay

module _ (x : Note) where
  abbrev pub Noted : Place → Going → Type 0
  Noted place g = In x g.effects.notes

  abbrev pub HasNote : Going → Type 0
  HasNote g = In x g.effects.notes

  more : (g : Going) (k : NoteKind) → HasNote g → HasNote (noting g k)
  more g k i = in_front x g.effects.notes (record { file = g.file.kept.number; kind = k } ∷ []) i

  more_if : (b : Bool) (g : Going) (k : NoteKind) → HasNote g → HasNote (noting_if b g k)
  more_if true g k i = more g k i
  more_if false g k i = i

  pub note_stays : JobCases Noted HasNote
  note_stays = record {
    asks = λ place work c cs kind g q a. q;
    aims = λ t g q is. q;
    readied = λ g q. more g Ready q;
    rests_behind = λ g q. q;
    built = λ k g q. q;
    counted = λ t g q. in_front x g.effects.notes _ q;
    raises = λ g q. in_front x g.effects.notes _ q;
    skips = λ p ps g q e. q;
    unchanged = λ p ps heard g q e. q;
    repaired = λ short g q. in_front x g.effects.notes _ q;
    begins = λ g q. q;
    passes = λ b k g q. more_if b g (NoDrive k) q;
    builds = λ t g q. in_front x g.effects.notes _ q;
    loses_it = λ t p ps lacked g q e. in_front x g.effects.notes _ q;
    gone = λ t todo g q. in_front x g.effects.notes _ q;
    full = λ t todo g q. in_front x g.effects.notes _ q;
    zeros = λ t p ps heard g q e. q;
    lengths = λ g q. q;
    counts = λ p ps g q. q;
  }

-- ---- a stage

-- a file's job is at this, or it is noted of the file of that number that it is over
pub data Goes (n : ℕ) (s : Stage) (h : Going) : Type 0 where
  StaysAt : IsAt s h.file.job → Goes n s h
  IsNoted : (kind : NoteKind) → Ends s (told_note kind) → In (record { file = n; kind = kind }) h.effects.notes → Goes n s h

last_note : (g : Going) (k : NoteKind) → In (record { file = g.file.kept.number; kind = k }) (noting g k).effects.notes
last_note g k = in_behind _ g.effects.notes _ (inl refl)

module _ (n : ℕ) where
  goes_rests : (s : Stage) (cs : List Awaited) (g : Going) (kind : JobKind) (work : Work) (later : Going) → stage_of work ≡ s
      → Goes n s later → Goes n s (rests_or cs g kind work later)
  goes_rests s [] g kind work later is on = on
  goes_rests s (c ∷ cs) g kind work later is on = StaysAt is

  -- ---- audit

  goes_audits : (g : Going) (ps : List Piece) (t : Tally) → g.file.kept.number ≡ n → Goes n AtAudit (audits g ps t)
  goes_audits g ps t own = by (audits_so g ps t)
    where
      by : Audits g.file.kept ps t g (audits g ps t) → Goes n AtAudit (audits g ps t)
      by (RestsThere j left found job work heard x notes) =
          StaysAt (subst (IsAt AtAudit) (sym job) (ap stage_of work))
      by (IsOver found job x notes) =
          IsNoted (audit_note g.file.kept found) tt
          (subst (λ (ns : List Note). In (record { file = n; kind = audit_note g.file.kept found }) ns) (sym notes)
          (subst (λ (m : ℕ). In (record { file = m; kind = audit_note g.file.kept found })
          (g.effects.notes ++ (record { file = g.file.kept.number; kind = audit_note g.file.kept found } ∷ []))) own
          (in_behind _ g.effects.notes _ (inl refl))))

  -- ---- rebuild

  -- what follows a note keeps it
  past : (t : Target) (g : Going) (k : NoteKind) → g.file.kept.number ≡ n → Ends (AtComponent t.component) (told_note k)
      → Goes n (AtComponent t.component) (goes_past (noting g k) t)
  past t g k own ends =
      IsNoted k ends (walk_rebuilds (Noted (record { file = n; kind = k })) (HasNote (record { file = n; kind = k }))
      (note_stays (record { file = n; kind = k })) (drop (t.component + 1) g.file.kept.components) (t.component + 1)
      (noting g k) (subst (λ (m : ℕ). In (record { file = m; kind = k }) (noting g k).effects.notes) own (last_note g k)))

  goes_fills : (g : Going) (t : Target) (ps : List Piece) → g.file.kept.number ≡ n
      → Goes n (AtComponent t.component) (fills g t ps)
  unfolding fills
  goes_fills g t [] own =
      past t (with_components g (slice_set g.file.kept.components t.component (stands_at t))) (Rebuilt t.component t.drive) own
      refl
  goes_fills g t (p ∷ ps) own =
      goes_rests (AtComponent t.component) (sources g.file.kept t p g.effects.nonce) g Rebuilding (Gathers t (p ∷ ps)) (lost g t)
      refl (past t g (Lost t.component _) own refl)

  goes_filling : (g : Going) (t : Target) (p : Piece) (ps : List Piece) (bytes : List ℕ) → g.file.kept.number ≡ n
      → Goes n (AtComponent t.component) (filling g t p ps bytes)
  unfolding filling
  goes_filling g t p ps bytes own = by (nat_lt 0 (end_of bytes (replicate p.count 0)))
    where
      by : (b : Bool) → Goes n (AtComponent t.component)
          (if b then rests g Rebuilding (Fills t (p ∷ ps)) (to_fill g.file.kept t p bytes g.effects.nonce) [] else fills g t ps)
      by true = StaysAt refl
      by false = goes_fills g t ps own

  -- ---- repair

  goes_repairs : (kind : JobKind) (g : Going) (ps : List Piece) (short : List ℕ) → g.file.kept.number ≡ n
      → Goes n AtRepair (repairs kind g ps short)
  unfolding repairs
  goes_repairs kind g [] short own =
      mended_note kind (mended g short) (Repaired (count_stripes (merged g.file.kept.ended)) (length short)) tt
      (subst (λ (m : ℕ). In (record { file = m; kind = Repaired (count_stripes (merged g.file.kept.ended)) (length short) })
      (mended g short).effects.notes) own
      (in_behind _ g.effects.notes _ (inl refl)))
    where
      mended_note : (kind : JobKind) (h : Going) (k : NoteKind) → Ends AtRepair (told_note k)
          → In (record { file = n; kind = k }) h.effects.notes → Goes n AtRepair (after_repair kind h)
      mended_note kind h k ends i =
          IsNoted k ends (walk_behind (Noted (record { file = n; kind = k })) (HasNote (record { file = n; kind = k }))
          (note_stays (record { file = n; kind = k })) kind h i)
  goes_repairs kind g (p ∷ ps) short own =
      goes_rests AtRepair (repair_reads g.file.kept p g.effects.nonce) g kind
      (Fetches (p ∷ ps) (short_with g.file.kept p short)) (repairs kind g ps (short_with g.file.kept p short)) refl
      (goes_repairs kind g ps (short_with g.file.kept p short) own)

  goes_storing : (kind : JobKind) (g : Going) (p : Piece) (ps : List Piece) (short : List ℕ) (heard : List Heard)
      → g.file.kept.number ≡ n → Goes n AtRepair (storing kind g p ps short heard)
  unfolding storing
  goes_storing kind g p ps short heard own =
      goes_rests AtRepair (stores g.file.kept p heard g.effects.nonce) g kind (Stores (p ∷ ps) short false)
      (repairs kind g ps short) refl (goes_repairs kind g ps short own)

  -- ---- the fence

  goes_fenced : (kind : JobKind) (g : Going) → g.file.kept.number ≡ n → Goes n AtFence (fenced kind g)
  unfolding fenced repair_begins
  goes_fenced kind g own =
      let k : NoteKind = Fenced (g.file.kept.tag + 1) in
      let h : Going = keeping g (record g.file.kept { tag = g.file.kept.tag + 1; phase = Repairing }) in
      IsNoted k tt (walk_repairs (Noted (record { file = n; kind = k })) (HasNote (record { file = n; kind = k }))
      (note_stays (record { file = n; kind = k })) kind (pieces g.file.kept.map.unit (merged g.file.kept.ended)) [] (noting h k)
      (subst (λ (m : ℕ). In (record { file = m; kind = k }) (noting h k).effects.notes) own (last_note h k)))

  -- ---- nothing is awaited any more

  goes_so : (kind : JobKind) (work : Work) (heard : List Heard) (g : Going) → g.file.kept.number ≡ n
      → Goes n (stage_of work) (goes_on kind work heard g)
  unfolding goes_on
  goes_so kind Creates heard g own =
      IsNoted Ready tt (subst (λ (m : ℕ). In (record { file = m; kind = Ready }) (noting g Ready).effects.notes) own
      (last_note g Ready))
  goes_so kind Fences heard g own = goes_fenced kind g own
  goes_so kind (Fetches [] short) heard g own = goes_repairs kind g [] short own
  goes_so kind (Fetches (p ∷ ps) short) heard g own = goes_storing kind g p ps short heard own
  goes_so kind (Stores [] short broken) heard g own = goes_repairs kind g [] short own
  goes_so kind (Stores (p ∷ ps) short true) heard g own = goes_repairs kind g (p ∷ ps) short own
  goes_so kind (Stores (p ∷ ps) short false) heard g own = goes_repairs kind g ps short own
  goes_so kind (Targets t) heard g own =
      goes_fills g t (pieces_in g.file.kept.map (group_for g.file.kept t) g.file.kept.high) own
  goes_so kind (Gathers t []) heard g own = goes_fills g t [] own
  goes_so kind (Gathers t (p ∷ ps)) heard g own = goes_filling g t p ps (made g.file.kept t p heard) own
  goes_so kind (Fills t []) heard g own = goes_fills g t [] own
  goes_so kind (Fills t (p ∷ ps)) heard g own = goes_fills g t ps own
  goes_so kind Lengths heard g own = goes_audits g _ _ own
  goes_so kind (Checks [] t) heard g own = goes_audits g [] t own
  goes_so kind (Checks (p ∷ ps) t) heard g own = goes_audits g ps _ own

  goes_waits : (s : Stage) (g : Going) (j : Job) (work : Work) (rest : List Awaited) (heard : List Heard)
      → g.file.kept.number ≡ n → stage_of work ≡ s → Goes n s (waits_or_on g j work rest heard)
  goes_waits s g j work [] heard own is =
      subst (λ (x : Stage). Goes n x (goes_on j.kind work heard g)) is (goes_so j.kind work heard g own)
  goes_waits s g j work (c ∷ cs) heard own is = StaysAt is

  goes_loses : (g : Going) (j : Job) (work : Work) (rest : List Awaited) (gone : Bool) → g.file.kept.number ≡ n
      → IsAt (stage_of work) g.file.job → Goes n (stage_of work) (loses g j work rest gone)
  unfolding loses
  goes_loses g j (Fetches ps short) rest gone own at = goes_repairs j.kind g ps short own
  goes_loses g j (Stores ps short broken) rest gone own at = goes_waits AtRepair g j (Stores ps short true) rest j.heard own refl
  goes_loses g j (Targets t) rest true own at = past t g (NoDrive t.component) own refl
  goes_loses g j (Targets t) rest false own at = StaysAt at
  goes_loses g j (Gathers t ps) rest true own at = past t g (NoDrive t.component) own refl
  goes_loses g j (Gathers t ps) rest false own at = goes_fills g t ps own
  goes_loses g j (Fills t ps) rest true own at = past t g (NoDrive t.component) own refl
  goes_loses g j (Fills t ps) rest false own at = goes_fills g t ps own
  goes_loses g j (Checks ps t) rest gone own at = goes_audits g ps t own
  goes_loses g j Creates rest gone own at = goes_waits AtCreates g j Creates rest j.heard own refl
  goes_loses g j Fences rest gone own at = goes_waits AtFence g j Fences rest j.heard own refl
  goes_loses g j Lengths rest gone own at = goes_waits AtAudit g j Lengths rest j.heard own refl

  -- ---- a reply, and a declared drive

  goes_full : (g : Going) (j : Job) (a : Awaited) (work : Work) → g.file.kept.number ≡ n → IsAt (stage_of work) g.file.job
      → Goes n (stage_of work) (fills_up g j a work)
  goes_full g j a (Targets t) own at = past t g (NoSpace t.component) own refl
  goes_full g j a (Gathers t todo) own at = past t g (NoSpace t.component) own refl
  goes_full g j a (Fills t todo) own at = past t g (NoSpace t.component) own refl
  goes_full g j a Creates own at = goes_loses _ j Creates _ false own at
  goes_full g j a Fences own at = goes_loses _ j Fences _ false own at
  goes_full g j a (Fetches todo short) own at = goes_loses _ j (Fetches todo short) _ false own at
  goes_full g j a (Stores todo short broken) own at = goes_loses _ j (Stores todo short broken) _ false own at
  goes_full g j a Lengths own at = goes_loses _ j Lengths _ false own at
  goes_full g j a (Checks todo t) own at = goes_loses _ j (Checks todo t) _ false own at

  pub goes_hears : (g : Going) (j : Job) (a : Awaited) (r : Reply) (v : Hearing) → g.file.kept.number ≡ n → g.file.job ≡ Some j
      → Goes n (stage_of j.work) (hears g j a r v)
  goes_hears g j a r Older own runs = StaysAt refl
  goes_hears g j a r Nothing own runs = StaysAt (subst (IsAt (stage_of j.work)) (sym runs) refl)
  goes_hears g j a r Done own runs = goes_waits (stage_of j.work) g j j.work _ _ own refl
  goes_hears g j a r Full own runs = goes_full g j a j.work own (subst (IsAt (stage_of j.work)) (sym runs) refl)

  pub goes_declares : (s : Stage) (d : ℕ) (g : Going) → g.file.kept.number ≡ n → IsAt s g.file.job → Goes n s (declares g d)
  unfolding declares
  goes_declares s d g own at = by (any_on d g.file.kept.components || targets g.file.job d)
    where
      h : Going
      h = with_components g (lose_on d g.file.kept.components)

      by_job : (o : Option Job) → g.file.job ≡ o → IsAt s o → Goes n s (declared_in h d o)
      by_job None runs at_ = absurd at_
      by_job (Some j) runs at_ =
          subst (λ (x : Stage). Goes n x (loses h j j.work (others_than d j.awaited) (is_target j.work d))) at_
          (goes_loses h j j.work (others_than d j.awaited) (is_target j.work d) own
          (subst (IsAt (stage_of j.work)) (sym runs) refl))

      by : (b : Bool) → Goes n s (if b then declared_in h d g.file.job else g)
      by true = by_job g.file.job refl at
      by false = StaysAt at

-- ---- what was noted before stays

pub declares_notes : (x : Note) (d : ℕ) (g : Going) → In x g.effects.notes → In x (declares g d).effects.notes
unfolding declares
declares_notes x d g i = by (any_on d g.file.kept.components || targets g.file.job d)
  where
    h : Going
    h = with_components g (lose_on d g.file.kept.components)

    by_job : (o : Option Job) → In x (declared_in h d o).effects.notes
    by_job None = i
    by_job (Some j) =
        walk_loses (Noted x) (HasNote x) (note_stays x) h j j.work (others_than d j.awaited) (is_target j.work d) refl
        (record { waits = λ c cs e. i; stays = i; on = λ waits. i })

    by : (b : Bool) → In x (if b then declared_in h d g.file.job else g).effects.notes
    by true = by_job g.file.job
    by false = i
