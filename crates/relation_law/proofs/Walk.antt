-- The parts of a job, once for all laws of jobs: where it goes on, what it asks there, and how it ends or rests.
use Rattle.std.proofs.Common.{◌≡◌, ℕ, ◌+◌, Bool, true, false, nat_lt, List, [], ◌∷◌, drop, replicate, slice_set, Option, Some, None, refl, sym, ap, subst, ◌∙◌, inl, inr}
use Rattle.std.proofs.lemmas.Bool.{cases_Bool}
use Rattle.server_rules.specs.Audit.{audits, audit_begins, tallied, audited}
use Rattle.server_rules.specs.Columns.{end_of}
use Rattle.server_rules.specs.Commands.{Creating, Raising, Measuring, All, sent_to, to_all}
use Rattle.server_rules.specs.Going.{Going, over, keeping, noting, noting_if, with_components, rests, rests_or, waits_on}
use Rattle.server_rules.specs.Grants.{merged}
use Rattle.server_rules.specs.Jobs.{making, is_made, ending, fenced, fence_begins, goes_on, waits_or_on, loses}
use Rattle.server_rules.specs.Maps.{pieces, pieces_along, pieces_in}
use Rattle.server_rules.specs.Pieces.{reads, stores, short_with}
use Rattle.server_rules.specs.Rebuild.{target_for, makes_or, rebuilds, goes_past, group_for, stands_at, sources, fills, made, to_fill, filling, target_gone, target_full}
use Rattle.server_rules.specs.Repair.{after_repair, mended, repair_reads, repairs, storing, repair_begins}
use Rattle.history_law.specs.Names.{Kept, Repairing, Component, Awaited, Heard, Piece, Target, Job, JobKind, Making, Revoking, Rebuilding, Auditing, Work, Creates, Fences, Fetches, Stores, Targets, Gathers, Fills, Lengths, Checks, Tally, Fenced, Rebuilt, NoDrive, NoSpace, Lost}
use Rattle.component_law.proofs.Walking.{target_is}

-- ---- where a job goes on

pub data Place : Type 0 where
  -- nothing is under way: its first commands come, or its fence, or what follows a repair
  AtStart : Place
  AtFence : Place
  Behind : Place
  -- a repair goes on with these pieces, or has read the rows of the first of them
  AtRepair : List Piece → Place
  AtRows : Piece → List Piece → List Heard → Place
  -- a rebuild goes on with the components from this number on, with these pieces of its target, or has read the sources
  AtRebuild : (component : ℕ) → Place
  AtFill : Target → List Piece → Place
  AtSources : Target → Piece → List Piece → List Heard → Place
  -- an audit goes on with these pieces
  AtAudit : List Piece → Place

-- what it asks at a place, and in which work it rests then
pub data Asks (g : Going) : Place → Work → List Awaited → Type 0 where
  Makes : Asks g AtStart Creates (to_all g.file.kept All Creating g.effects.nonce)
  Raises : Asks g AtFence Fences (to_all g.file.kept All Raising g.effects.nonce)
  Reads : (p : Piece) (ps : List Piece) (short : List ℕ) →
      Asks g (AtRepair (p ∷ ps)) (Fetches (p ∷ ps) short) (repair_reads g.file.kept p g.effects.nonce)
  Writes : (p : Piece) (ps : List Piece) (heard : List Heard) (short : List ℕ) →
      Asks g (AtRows p ps heard) (Stores (p ∷ ps) short false) (stores g.file.kept p heard g.effects.nonce)
  Aims : (t : Target) →
      Asks g (AtRebuild t.component) (Targets t)
      (sent_to g.file.kept Creating t.component t.drive t.object g.effects.nonce ∷ [])
  Sources : (t : Target) (p : Piece) (ps : List Piece) →
      Asks g (AtFill t (p ∷ ps)) (Gathers t (p ∷ ps)) (sources g.file.kept t p g.effects.nonce)
  Filled : (t : Target) (p : Piece) (ps : List Piece) (heard : List Heard) (bytes : List ℕ) →
      bytes ≡ made g.file.kept t p heard → nat_lt 0 (end_of bytes (replicate p.count 0)) ≡ true →
      Asks g (AtSources t p ps heard) (Fills t (p ∷ ps)) (to_fill g.file.kept t p bytes g.effects.nonce ∷ [])
  Measures : Asks g Behind Lengths (to_all g.file.kept All Measuring g.effects.nonce)
  Checks_ : (p : Piece) (ps : List Piece) (tally : Tally) →
      Asks g (AtAudit (p ∷ ps)) (Checks (p ∷ ps) tally) (reads g.file.kept p g.effects.nonce)

-- ---- the cases

-- the fence is over, and the objects have the next tag
abbrev pub raised : Going → Going
raised g =
    noting (keeping g (record g.file.kept { tag = g.file.kept.tag + 1; phase = Repairing })) (Fenced (g.file.kept.tag + 1))

-- the target stands where its component was
abbrev pub standing : Going → Target → Going
standing g t =
    noting (with_components g (slice_set g.file.kept.components t.component (stands_at t))) (Rebuilt t.component t.drive)

-- the target's CREATE goes out
abbrev pub aims_at : Going → Target → Going
aims_at g t =
    rests (record g { effects = record g.effects { object = t.object + 1 }; chosen = drop 1 g.chosen }) Rebuilding
    (Targets t) (sent_to g.file.kept Creating t.component t.drive t.object g.effects.nonce) []

-- `Q` is so of a place and the file there, and `E` of the file where the step leaves it.
pub record JobCases (Q : Place → Going → Type 0) (E : Going → Type 0) : Type 0 where
  -- the job rests
  pub asks : (place : Place) (work : Work) (c : Awaited) (cs : List Awaited) (kind : JobKind) (g : Going) → Q place g →
      Asks g place work (c ∷ cs) → E (rests g kind work c cs)
  pub aims : (t : Target) (g : Going) → Q (AtRebuild t.component) g → t.object ≡ g.effects.object → E (aims_at g t)
  -- it is over
  pub readied : (g : Going) → Q AtStart g → E (is_made g)
  pub rests_behind : (g : Going) → Q Behind g → E (over g)
  pub built : (component : ℕ) (g : Going) → Q (AtRebuild component) g → E (over g)
  pub counted : (t : Tally) (g : Going) → Q (AtAudit []) g → E (audited g t)
  -- it goes on
  pub raises : (g : Going) → Q AtFence g → Q (AtRepair (pieces g.file.kept.map.unit (merged g.file.kept.ended))) (raised g)
  pub skips : (p : Piece) (ps : List Piece) (g : Going) → Q (AtRepair (p ∷ ps)) g →
      repair_reads g.file.kept p g.effects.nonce ≡ [] → Q (AtRepair ps) g
  pub unchanged : (p : Piece) (ps : List Piece) (heard : List Heard) (g : Going) → Q (AtRows p ps heard) g →
      stores g.file.kept p heard g.effects.nonce ≡ [] → Q (AtRepair ps) g
  pub repaired : (short : List ℕ) (g : Going) → Q (AtRepair []) g → Q Behind (mended g short)
  pub begins : (g : Going) → Q Behind g → Q (AtRebuild 0) g
  pub passes : (b : Bool) (k : ℕ) (g : Going) → Q (AtRebuild k) g → Q (AtRebuild (k + 1)) (noting_if b g (NoDrive k))
  pub builds : (t : Target) (g : Going) → Q (AtFill t []) g → Q (AtRebuild (t.component + 1)) (standing g t)
  pub loses_it : (t : Target) (p : Piece) (ps : List Piece) (lacked : List ℕ) (g : Going) → Q (AtFill t (p ∷ ps)) g →
      sources g.file.kept t p g.effects.nonce ≡ [] →
      Q (AtRebuild (t.component + 1)) (noting g (Lost t.component lacked))
  pub gone : (t : Target) (todo : List Piece) (g : Going) → Q (AtFill t todo) g →
      Q (AtRebuild (t.component + 1)) (noting g (NoDrive t.component))
  pub full : (t : Target) (todo : List Piece) (g : Going) → Q (AtFill t todo) g →
      Q (AtRebuild (t.component + 1)) (noting g (NoSpace t.component))
  pub zeros : (t : Target) (p : Piece) (ps : List Piece) (heard : List Heard) (g : Going) →
      Q (AtSources t p ps heard) g → nat_lt 0 (end_of (made g.file.kept t p heard) (replicate p.count 0)) ≡ false →
      Q (AtFill t ps) g
  pub lengths : (g : Going) → Q Behind g →
      Q (AtAudit (pieces_along g.file.kept.map.unit 0 g.file.kept.high)) g
  pub counts : (p : Piece) (ps : List Piece) (g : Going) → Q (AtAudit (p ∷ ps)) g → Q (AtAudit ps) g

-- ---- the walk

-- where a job goes on when nothing is awaited any more
abbrev pub place_behind : Kept → Work → List Heard → Place
place_behind f Creates heard = AtStart
place_behind f Fences heard = AtFence
place_behind f (Fetches [] short) heard = AtRepair []
place_behind f (Fetches (p ∷ ps) short) heard = AtRows p ps heard
place_behind f (Stores [] short broken) heard = AtRepair []
place_behind f (Stores (p ∷ ps) short true) heard = AtRepair (p ∷ ps)
place_behind f (Stores (p ∷ ps) short false) heard = AtRepair ps
place_behind f (Targets t) heard = AtFill t (pieces_in f.map (group_for f t) f.high)
place_behind f (Gathers t []) heard = AtFill t []
place_behind f (Gathers t (p ∷ ps)) heard = AtSources t p ps heard
place_behind f (Fills t []) heard = AtFill t []
place_behind f (Fills t (p ∷ ps)) heard = AtFill t ps
place_behind f Lengths heard = AtAudit (pieces_along f.map.unit 0 f.high)
place_behind f (Checks [] tally) heard = AtAudit []
place_behind f (Checks (p ∷ ps) tally) heard = AtAudit ps

-- where it goes on when a component is lost
abbrev pub lost_place : Kept → Work → Place
lost_place f Creates = AtStart
lost_place f Fences = AtFence
lost_place f (Fetches todo short) = AtRepair todo
lost_place f (Stores todo short b) = AtRepair todo
lost_place f (Targets t) = AtFill t []
lost_place f (Gathers t todo) = AtFill t todo
lost_place f (Fills t todo) = AtFill t todo
lost_place f Lengths = AtAudit (pieces_along f.map.unit 0 f.high)
lost_place f (Checks todo tally) = AtAudit todo

-- it waits for the rest of what it asked
abbrev pub waits_for : Work → Bool
waits_for Creates = true
waits_for Fences = true
waits_for (Stores todo short b) = true
waits_for Lengths = true
waits_for work = false

-- the work that waits on then
abbrev pub broken : Work → Work
broken (Stores todo short b) = Stores todo short true
broken work = work

module _ (Q : Place → Going → Type 0) (E : Going → Type 0) (k : JobCases Q E) where
  rests_on : (cs : List Awaited) (place : Place) (work : Work) (kind : JobKind) (g later : Going) → Q place g →
      Asks g place work cs → (cs ≡ [] → E later) → E (rests_or cs g kind work later)
  rests_on [] place work kind g later q asks on = on refl
  rests_on (c ∷ cs) place work kind g later q asks on = k.asks place work c cs kind g q asks

  -- ---- audit

  pub walk_audits : (ps : List Piece) (t : Tally) (g : Going) → Q (AtAudit ps) g → E (audits g ps t)
  unfolding audits
  walk_audits [] t g q = k.counted t g q
  walk_audits (p ∷ ps) t g q =
      rests_on (reads g.file.kept p g.effects.nonce) (AtAudit (p ∷ ps)) _ Auditing g _ q
      (Checks_ p ps (tallied g.file.kept p t))
      (λ none. walk_audits ps (tallied g.file.kept p t) g (k.counts p ps g q))

  walk_audit : (g : Going) → Q Behind g → E (audit_begins g)
  unfolding audit_begins
  walk_audit g q =
      rests_on (to_all g.file.kept All Measuring g.effects.nonce) Behind Lengths Auditing g _ q Measures
      (λ none. walk_audits (pieces_along g.file.kept.map.unit 0 g.file.kept.high) _ g (k.lengths g q))

  -- ---- rebuild

  aimed : (at : Component) (n : ℕ) (g later : Going) (o : Option Target) → target_for g at n ≡ o → Q (AtRebuild n) g →
      E later → E (makes_or g o later)
  aimed at n g later None is q on = on
  aimed at n g later (Some t) is q on =
      let r = target_is g at n t is in
      k.aims t g (subst (λ (m : ℕ). Q (AtRebuild m) g) (sym r.0) q) r.1

  pub walk_rebuilds : (cs : List Component) (n : ℕ) (g : Going) → Q (AtRebuild n) g → E (rebuilds g cs n)
  unfolding rebuilds
  walk_rebuilds [] n g q = k.built n g q
  walk_rebuilds (at ∷ cs) n g q =
      aimed at n g _ (target_for g at n) refl q
      (walk_rebuilds cs (n + 1) (noting_if at.missing g (NoDrive n)) (k.passes at.missing n g q))

  walk_past : (t : Target) (g : Going) → Q (AtRebuild (t.component + 1)) g → E (goes_past g t)
  walk_past t g q = walk_rebuilds (drop (t.component + 1) g.file.kept.components) (t.component + 1) g q

  pub walk_fills : (t : Target) (ps : List Piece) (g : Going) → Q (AtFill t ps) g → E (fills g t ps)
  unfolding fills
  walk_fills t [] g q = walk_past t (standing g t) (k.builds t g q)
  walk_fills t (p ∷ ps) g q =
      rests_on (sources g.file.kept t p g.effects.nonce) (AtFill t (p ∷ ps)) _ Rebuilding g _ q (Sources t p ps)
      (λ none. walk_past t (noting g (Lost t.component _)) (k.loses_it t p ps _ g q none))

  walk_filling : (t : Target) (p : Piece) (ps : List Piece) (heard : List Heard) (g : Going) →
      Q (AtSources t p ps heard) g → E (filling g t p ps (made g.file.kept t p heard))
  unfolding filling
  walk_filling t p ps heard g q =
      elim (cases_Bool (nat_lt 0 (end_of (made g.file.kept t p heard) (replicate p.count 0)))) [
        | inl some ↦ rw some
            (k.asks (AtSources t p ps heard) (Fills t (p ∷ ps))
            (to_fill g.file.kept t p (made g.file.kept t p heard) g.effects.nonce) [] Rebuilding g q
            (Filled t p ps heard (made g.file.kept t p heard) refl some))
        | inr none ↦ rw none (walk_fills t ps g (k.zeros t p ps heard g q none))
      ]

  pub walk_gone : (t : Target) (todo : List Piece) (g : Going) → Q (AtFill t todo) g → E (target_gone g t)
  walk_gone t todo g q = walk_past t (noting g (NoDrive t.component)) (k.gone t todo g q)

  pub walk_full : (t : Target) (todo : List Piece) (g : Going) → Q (AtFill t todo) g → E (target_full g t)
  walk_full t todo g q = walk_past t (noting g (NoSpace t.component)) (k.full t todo g q)

  -- ---- repair

  pub walk_behind : (kind : JobKind) (g : Going) → Q Behind g → E (after_repair kind g)
  walk_behind Making g q = k.rests_behind g q
  walk_behind Revoking g q = k.rests_behind g q
  walk_behind Rebuilding g q = walk_rebuilds g.file.kept.components 0 g (k.begins g q)
  walk_behind Auditing g q = walk_audit g q

  pub walk_repairs : (kind : JobKind) (ps : List Piece) (short : List ℕ) (g : Going) → Q (AtRepair ps) g →
      E (repairs kind g ps short)
  unfolding repairs
  walk_repairs kind [] short g q = walk_behind kind (mended g short) (k.repaired short g q)
  walk_repairs kind (p ∷ ps) short g q =
      rests_on (repair_reads g.file.kept p g.effects.nonce) (AtRepair (p ∷ ps)) _ kind g _ q
      (Reads p ps (short_with g.file.kept p short))
      (λ none. walk_repairs kind ps (short_with g.file.kept p short) g (k.skips p ps g q none))

  walk_storing : (kind : JobKind) (p : Piece) (ps : List Piece) (short : List ℕ) (heard : List Heard) (g : Going) →
      Q (AtRows p ps heard) g → E (storing kind g p ps short heard)
  unfolding storing
  walk_storing kind p ps short heard g q =
      rests_on (stores g.file.kept p heard g.effects.nonce) (AtRows p ps heard) _ kind g _ q (Writes p ps heard short)
      (λ none. walk_repairs kind ps short g (k.unchanged p ps heard g q none))

  -- ---- the fence, and a new file

  walk_fenced : (kind : JobKind) (g : Going) → Q AtFence g → E (fenced kind g)
  unfolding fenced repair_begins
  walk_fenced kind g q =
      walk_repairs kind (pieces g.file.kept.map.unit (merged g.file.kept.ended)) [] (raised g) (k.raises g q)

  pub walk_fence : (kind : JobKind) (format : ℕ) (g : Going) → Q AtFence (keeping g (ending g.file.kept format)) →
      E (fence_begins kind format g)
  unfolding fence_begins
  walk_fence kind format g q =
      let h : Going = keeping g (ending g.file.kept format) in
      rests_on (to_all h.file.kept All Raising h.effects.nonce) AtFence Fences kind h _ q Raises
      (λ none. walk_fenced kind h q)

  pub walk_making : (g : Going) → Q AtStart g → E (making g)
  unfolding making
  walk_making g q =
      rests_on (to_all g.file.kept All Creating g.effects.nonce) AtStart Creates Making g _ q Makes
      (λ none. k.readied g q)

  -- ---- nothing is awaited any more

  pub walk_on : (kind : JobKind) (work : Work) (heard : List Heard) (g : Going) →
      Q (place_behind g.file.kept work heard) g → E (goes_on kind work heard g)
  unfolding goes_on
  walk_on kind Creates heard g q = k.readied g q
  walk_on kind Fences heard g q = walk_fenced kind g q
  walk_on kind (Fetches [] short) heard g q = walk_repairs kind [] short g q
  walk_on kind (Fetches (p ∷ ps) short) heard g q = walk_storing kind p ps short heard g q
  walk_on kind (Stores [] short broken) heard g q = walk_repairs kind [] short g q
  walk_on kind (Stores (p ∷ ps) short true) heard g q = walk_repairs kind (p ∷ ps) short g q
  walk_on kind (Stores (p ∷ ps) short false) heard g q = walk_repairs kind ps short g q
  walk_on kind (Targets t) heard g q = walk_fills t (pieces_in g.file.kept.map (group_for g.file.kept t) g.file.kept.high) g q
  walk_on kind (Gathers t []) heard g q = walk_fills t [] g q
  walk_on kind (Gathers t (p ∷ ps)) heard g q = walk_filling t p ps heard g q
  walk_on kind (Fills t []) heard g q = walk_fills t [] g q
  walk_on kind (Fills t (p ∷ ps)) heard g q = walk_fills t ps g q
  walk_on kind Lengths heard g q =
      walk_audits (pieces_along g.file.kept.map.unit 0 g.file.kept.high) _ g q
  walk_on kind (Checks [] t) heard g q = walk_audits [] t g q
  walk_on kind (Checks (p ∷ ps) t) heard g q = walk_audits ps _ g q

  -- ---- it waits on, or goes on

  pub walk_waits : (g : Going) (j : Job) (work : Work) (rest : List Awaited) (heard : List Heard) →
      ((c : Awaited) (cs : List Awaited) → rest ≡ c ∷ cs → E (waits_on g j work c cs heard)) →
      (rest ≡ [] → Q (place_behind g.file.kept work heard) g) → E (waits_or_on g j work rest heard)
  walk_waits g j work [] heard waits on = walk_on j.kind work heard g (on refl)
  walk_waits g j work (c ∷ cs) heard waits on = waits c cs refl

  -- ---- a component is lost

  -- what is so where a component of the file is lost: of a job that waits on for the rest, and of one that goes on
  pub record LosesAs (g : Going) (j : Job) (rest : List Awaited) (gone : Bool) : Type 0 where
    pub waits : (c : Awaited) (cs : List Awaited) → rest ≡ c ∷ cs → E (waits_on g j (broken j.work) c cs j.heard)
    pub stays : E g
    pub on : (waits_for j.work ≡ true → rest ≡ []) → Q (lost_place g.file.kept j.work) g

  walk_lost : (g : Going) (j : Job) (rest : List Awaited) (gone : Bool) (work : Work) → LosesAs g j rest gone →
      broken j.work ≡ work → lost_place g.file.kept j.work ≡ place_behind g.file.kept work j.heard →
      E (waits_or_on g j work rest j.heard)
  walk_lost g j rest gone work l same place =
      walk_waits g j work rest j.heard
      (λ c cs e. subst (λ (x : Work). E (waits_on g j x c cs j.heard)) same (l.waits c cs e))
      (λ none. subst (λ (x : Place). Q x g) place (l.on (λ waits. none)))

  at : {g : Going} → {j : Job} → {rest : List Awaited} → {gone : Bool} → {work : Work} → j.work ≡ work →
      waits_for work ≡ false → LosesAs g j rest gone → Q (lost_place g.file.kept work) g
  at {g} is goes l =
      subst (λ (x : Work). Q (lost_place g.file.kept x) g) is
      (l.on (λ waits. absurd (cc (sym goes ∙ sym (ap waits_for is) ∙ waits))))

  pub walk_loses : (g : Going) (j : Job) (work : Work) (rest : List Awaited) (gone : Bool) → j.work ≡ work →
      LosesAs g j rest gone → E (loses g j work rest gone)
  unfolding loses
  walk_loses g j Creates rest gone is l = walk_lost g j rest gone Creates l (ap broken is) (ap (lost_place g.file.kept) is)
  walk_loses g j Fences rest gone is l = walk_lost g j rest gone Fences l (ap broken is) (ap (lost_place g.file.kept) is)
  walk_loses g j (Fetches todo short) rest gone is l = walk_repairs j.kind todo short g (at is refl l)
  walk_loses g j (Stores [] short b) rest gone is l =
      walk_lost g j rest gone (Stores [] short true) l (ap broken is) (ap (lost_place g.file.kept) is)
  walk_loses g j (Stores (p ∷ ps) short b) rest gone is l =
      walk_lost g j rest gone (Stores (p ∷ ps) short true) l (ap broken is) (ap (lost_place g.file.kept) is)
  walk_loses g j (Targets t) rest true is l = walk_gone t [] g (at is refl l)
  walk_loses g j (Targets t) rest false is l = l.stays
  walk_loses g j (Gathers t todo) rest true is l = walk_gone t todo g (at is refl l)
  walk_loses g j (Gathers t todo) rest false is l = walk_fills t todo g (at is refl l)
  walk_loses g j (Fills t todo) rest true is l = walk_gone t todo g (at is refl l)
  walk_loses g j (Fills t todo) rest false is l = walk_fills t todo g (at is refl l)
  walk_loses g j Lengths rest gone is l = walk_lost g j rest gone Lengths l (ap broken is) (ap (lost_place g.file.kept) is)
  walk_loses g j (Checks todo t) rest gone is l = walk_audits todo t g (at is refl l)
