-- What is so of a file in a step lasts through the parts of its job: before a repair, in one, and behind it.
use Rattle.std.proofs.Common.{◌≡◌, ◌⊎◌, ◌||◌, ℕ, ◌+◌, Bool, true, false, nat_lt, List, [], ◌∷◌, ◌++◌, length, replicate, slice_set, Option, Some, None, refl, sym, subst, inl, inr, if◌then◌else◌}
use Rattle.server_rules.specs.Audit.{audits, audit_begins, audited}
use Rattle.server_rules.specs.Columns.{end_of}
use Rattle.server_rules.specs.Commands.{Creating, All, to_all}
use Rattle.server_rules.specs.Going.{Going, keeping, noting, noting_if, with_components, rests_or}
use Rattle.server_rules.specs.Grants.{merged, count_stripes}
use Rattle.server_rules.specs.Jobs.{making, is_made, ending, fenced, fence_begins, goes_on, waits_or_on, refills, remakes, loses, declared_in, targets, declares}
use Rattle.server_rules.specs.Maps.{pieces}
use Rattle.server_rules.specs.Pieces.{short_with}
use Rattle.server_rules.specs.Rebuild.{makes_or, rebuilds, fills, filling, target_for, goes_past, stands_at}
use Rattle.server_rules.specs.Repair.{after_repair, mended, repairs, storing, stored, repair_begins}
use Rattle.server_rules.specs.Replies.{fills_up, hears, Hearing, Older, Full, Done, Nothing}
use Rattle.server_rules.specs.Standing.{lose_from, lose_on, any_on}
use Rattle.osd_commands.specs.declared.replies.Reply.{Reply}
use Rattle.world_history.specs.ServerNames.{Kept, Note, NoteKind, Ready, Fenced, Repaired, NoDrive, NoSpace, Audit, Mended, Job, JobKind, Making, Revoking, Rebuilding, Auditing, Work, Creates, Fences, Fetches, Stores, Targets, Gathers, Fills, Lengths, Checks, Awaited, Heard, Piece, Target, Tally, Component, Still, Repairing}
use Rattle.component_law.specs.KeptWalk.{is_plain, noted_of}

-- what is kept of the file, what the step noted, and the repairs that it ended so far
abbrev pub Fact : Type 1
Fact = Kept → List Note → List Mended → Type 0

-- `A` is so while no repair of the part is over, and none is under way; `R` in a repair, of the pieces that it goes on with and of
-- the stripes that it left short; and `D` behind it.
pub record RepairCases (A D : Fact) (R : List Piece → List ℕ → Fact) : Type 0 where
  -- notes that tell of no fence and of no repair
  pub a_noted : (k : Kept) (ns : List Note) (ms : List Mended) (kind : NoteKind) → is_plain kind ≡ true → A k ns ms
      → A k (noted_of k ns kind) ms
  pub d_noted : (k : Kept) (ns : List Note) (ms : List Mended) (kind : NoteKind) → is_plain kind ≡ true → D k ns ms
      → D k (noted_of k ns kind) ms
  pub r_noted : (ps : List Piece) (ss : List ℕ) (k : Kept) (ns : List Note) (ms : List Mended) (kind : NoteKind)
      → is_plain kind ≡ true → R ps ss k ns ms → R ps ss k (noted_of k ns kind) ms
  -- components, in a repair such as become missing; format, and whether the file is made
  pub a_parts : (k : Kept) (ns : List Note) (ms : List Mended) (cs : List Component) → A k ns ms
      → A (record k { components = cs }) ns ms
  pub r_lost : (ps : List Piece) (ss : List ℕ) (k : Kept) (ns : List Note) (ms : List Mended) (lost : List ℕ)
      → R ps ss k ns ms → R ps ss (record k { components = lose_from lost k.components 0 }) ns ms
  pub r_gone : (ps : List Piece) (ss : List ℕ) (k : Kept) (ns : List Note) (ms : List Mended) (drive : ℕ)
      → R ps ss k ns ms → R ps ss (record k { components = lose_on drive k.components }) ns ms
  pub a_format : (k : Kept) (ns : List Note) (ms : List Mended) (format : ℕ) → A k ns ms → A (record k { format = format }) ns ms
  pub r_format : (ps : List Piece) (ss : List ℕ) (k : Kept) (ns : List Note) (ms : List Mended) (format : ℕ)
      → R ps ss k ns ms → R ps ss (record k { format = format }) ns ms
  pub a_ready : (k : Kept) (ns : List Note) (ms : List Mended) → A k ns ms → A (record k { ready = true }) ns ms
  -- a repair begins, goes on, and is over
  pub raised : (k : Kept) (ns : List Note) (ms : List Mended) → A k ns ms
      → R (pieces k.map.unit (merged k.ended)) [] (record k { tag = k.tag + 1; phase = Repairing })
      (noted_of k ns (Fenced (k.tag + 1))) ms
  pub marks : (p : Piece) (ps : List Piece) (ss : List ℕ) (k : Kept) (ns : List Note) (ms : List Mended)
      → R (p ∷ ps) ss k ns ms → R (p ∷ ps) (short_with k p ss) k ns ms
  pub next : (p : Piece) (ps : List Piece) (ss : List ℕ) (k : Kept) (ns : List Note) (ms : List Mended)
      → R (p ∷ ps) ss k ns ms → R ps ss k ns ms
  pub mends : (ss : List ℕ) (k : Kept) (ns : List Note) (ms : List Mended) → R [] ss k ns ms
      → D (record k { ended = []; phase = Still })
      (noted_of k ns (Repaired (count_stripes (merged k.ended)) (length ss)))
      (ms ++ record { file = k.number; worked = merged k.ended; short = ss } ∷ [])

module _ {A D : Fact} {R : List Piece → List ℕ → Fact} (w : RepairCases A D R) where
  abbrev Of : Fact → Going → Type 0
  Of X g = X g.file.kept g.effects.notes g.effects.mended

  -- outside a repair
  abbrev pub Out : Fact
  Out k ns ms = A k ns ms ⊎ D k ns ms

  -- where a step begins in this work
  abbrev pub Begins : Work → Fact
  Begins (Fetches todo short) = R todo short
  Begins (Stores todo short broken) = R todo short
  Begins work = A

  -- and where it leaves the file in it
  abbrev pub Ends : Work → Fact
  Ends (Fetches todo short) = R todo short
  Ends (Stores todo short broken) = R todo short
  Ends work = Out

  abbrev pub EndsIn : Option Job → Fact
  EndsIn None = Out
  EndsIn (Some j) = Ends j.work

  abbrev pub End : Going → Type 0
  End g = Of (EndsIn g.file.job) g

  stays : (work : Work) (k : Kept) (ns : List Note) (ms : List Mended) → Begins work k ns ms → Ends work k ns ms
  stays (Fetches todo short) k ns ms h = h
  stays (Stores todo short broken) k ns ms h = h
  stays Creates k ns ms h = inl h
  stays Fences k ns ms h = inl h
  stays (Targets t) k ns ms h = inl h
  stays (Gathers t todo) k ns ms h = inl h
  stays (Fills t todo) k ns ms h = inl h
  stays Lengths k ns ms h = inl h
  stays (Checks todo t) k ns ms h = inl h

  noted : (k : Kept) (ns : List Note) (ms : List Mended) (kind : NoteKind) → is_plain kind ≡ true → Out k ns ms
      → Out k (noted_of k ns kind) ms
  noted k ns ms kind p (inl a) = inl (w.a_noted k ns ms kind p a)
  noted k ns ms kind p (inr d) = inr (w.d_noted k ns ms kind p d)

  noted_if : (b : Bool) (g : Going) (kind : NoteKind) → is_plain kind ≡ true → Of Out g → Of Out (noting_if b g kind)
  noted_if true g kind p h = noted g.file.kept g.effects.notes g.effects.mended kind p h
  noted_if false g kind p h = h

  either : (b : Bool) (x y : Going) → End x → End y → End (if b then x else y)
  either true x y p q = p
  either false x y p q = q

  -- ---- the job rests, or goes on

  rests_on : (cs : List Awaited) (g : Going) (kind : JobKind) (work : Work) (later : Going) → Of (Ends work) g → End later
      → End (rests_or cs g kind work later)
  rests_on [] g kind work later h l = l
  rests_on (c ∷ cs) g kind work later h l = h

  -- ---- audit and rebuild

  all_audited : (g : Going) (ps : List Piece) (t : Tally) → Of Out g → End (audits g ps t)
  unfolding audits
  all_audited g [] t h = noted g.file.kept g.effects.notes g.effects.mended _ refl h
  all_audited g (p ∷ ps) t h = rests_on _ g _ _ _ h (all_audited g ps _ h)

  audit : (g : Going) → Of Out g → End (audit_begins g)
  unfolding audit_begins
  audit g h = rests_on _ g _ _ _ h (all_audited g _ _ h)

  made_or : (g : Going) (o : Option Target) (later : Going) → Of Out g → End later → End (makes_or g o later)
  made_or g None later h l = l
  made_or g (Some t) later h l = h

  all_rebuilt : (g : Going) (cs : List Component) (k : ℕ) → Of Out g → End (rebuilds g cs k)
  unfolding rebuilds
  all_rebuilt g [] k h = h
  all_rebuilt g (at ∷ cs) k h =
      made_or g (target_for g at k) _ h
      (all_rebuilt (noting_if at.missing g (NoDrive k)) cs (k + 1) (noted_if at.missing g (NoDrive k) refl h))

  -- past the target, where this is noted
  past : (g : Going) (t : Target) (kind : NoteKind) → is_plain kind ≡ true → Of A g → End (goes_past (noting g kind) t)
  past g t kind p h =
      all_rebuilt (noting g kind) _ _ (inl (w.a_noted g.file.kept g.effects.notes g.effects.mended kind p h))

  all_filled : (g : Going) (t : Target) (ps : List Piece) → Of A g → End (fills g t ps)
  unfolding fills
  all_filled g t [] h =
      past (with_components g (slice_set g.file.kept.components t.component (stands_at t))) t _ refl
      (w.a_parts g.file.kept g.effects.notes g.effects.mended _ h)
  all_filled g t (p ∷ ps) h = rests_on _ g _ _ _ (inl h) (past g t _ refl h)

  piece_filled : (g : Going) (t : Target) (p : Piece) (ps : List Piece) (bytes : List ℕ) → Of A g
      → End (filling g t p ps bytes)
  unfolding filling
  piece_filled g t p ps bytes h =
      either (nat_lt 0 (end_of bytes (replicate p.count 0))) _ _ (inl h) (all_filled g t ps h)

  -- ---- repair

  after : (kind : JobKind) (g : Going) → Of D g → End (after_repair kind g)
  after Making g h = inr h
  after Revoking g h = inr h
  after Rebuilding g h = all_rebuilt g g.file.kept.components 0 (inr h)
  after Auditing g h = audit g (inr h)

  all_repaired : (kind : JobKind) (g : Going) (ps : List Piece) (ss : List ℕ) → Of (R ps ss) g → End (repairs kind g ps ss)
  unfolding repairs
  all_repaired kind g [] ss h =
      after kind (mended g ss) (w.mends ss g.file.kept g.effects.notes g.effects.mended h)
  all_repaired kind g (p ∷ ps) ss h =
      let marked : Of (R (p ∷ ps) (short_with g.file.kept p ss)) g =
      w.marks p ps ss g.file.kept g.effects.notes g.effects.mended h in
      rests_on _ g _ _ _ marked
      (all_repaired kind g ps _ (w.next p ps _ g.file.kept g.effects.notes g.effects.mended marked))

  piece_stored : (kind : JobKind) (g : Going) (p : Piece) (ps : List Piece) (ss : List ℕ) (heard : List Heard)
      → Of (R (p ∷ ps) ss) g → End (storing kind g p ps ss heard)
  unfolding storing
  piece_stored kind g p ps ss heard h =
      rests_on _ g _ _ _ h
      (all_repaired kind g ps ss (w.next p ps ss g.file.kept g.effects.notes g.effects.mended h))

  piece_behind : (kind : JobKind) (g : Going) (p : Piece) (ps : List Piece) (ss : List ℕ) (broken : Bool)
      → Of (R (p ∷ ps) ss) g → End (stored kind g p ps ss broken)
  piece_behind kind g p ps ss true h = all_repaired kind g (p ∷ ps) ss h
  piece_behind kind g p ps ss false h =
      all_repaired kind g ps ss (w.next p ps ss g.file.kept g.effects.notes g.effects.mended h)

  -- ---- the fence and the job

  is_made_so : (g : Going) → Of A g → End (is_made g)
  is_made_so g h =
      inl (w.a_noted (record g.file.kept { ready = true }) g.effects.notes g.effects.mended Ready refl
      (w.a_ready g.file.kept g.effects.notes g.effects.mended h))

  pub of_making : (g : Going) → Of A g → End (making g)
  unfolding making
  of_making g h =
      rests_on (to_all g.file.kept All Creating g.effects.nonce) g Making Creates (is_made g) (inl h) (is_made_so g h)

  of_fenced : (kind : JobKind) (g : Going) → Of A g → End (fenced kind g)
  unfolding fenced repair_begins
  of_fenced kind g h = all_repaired kind _ _ [] (w.raised g.file.kept g.effects.notes g.effects.mended h)

  pub of_fence : (kind : JobKind) (format : ℕ) (g : Going)
      → A (ending g.file.kept format) g.effects.notes g.effects.mended → End (fence_begins kind format g)
  unfolding fence_begins
  of_fence kind format g h =
      let f : Going = keeping g (ending g.file.kept format) in rests_on _ f _ _ _ (inl h) (of_fenced kind f h)

  goes : (kind : JobKind) (work : Work) (heard : List Heard) (g : Going) → Of (Begins work) g → End (goes_on kind work heard g)
  unfolding goes_on
  goes kind Creates heard g h = is_made_so g h
  goes kind Fences heard g h = of_fenced kind g h
  goes kind (Fetches [] ss) heard g h = all_repaired kind g [] ss h
  goes kind (Fetches (p ∷ ps) ss) heard g h = piece_stored kind g p ps ss heard h
  goes kind (Stores [] ss broken) heard g h = all_repaired kind g [] ss h
  goes kind (Stores (p ∷ ps) ss broken) heard g h = piece_behind kind g p ps ss broken h
  goes kind (Targets t) heard g h = all_filled g t _ h
  goes kind (Gathers t []) heard g h = all_filled g t [] h
  goes kind (Gathers t (p ∷ ps)) heard g h = piece_filled g t p ps _ h
  goes kind (Fills t []) heard g h = all_filled g t [] h
  goes kind (Fills t (p ∷ ps)) heard g h = all_filled g t ps h
  goes kind Lengths heard g h = all_audited g _ _ (inl h)
  goes kind (Checks [] t) heard g h = all_audited g [] t (inl h)
  goes kind (Checks (p ∷ ps) t) heard g h = all_audited g ps _ (inl h)

  waits : (g : Going) (j : Job) (work : Work) (rest : List Awaited) (heard : List Heard) → Of (Begins work) g
      → End (waits_or_on g j work rest heard)
  waits g j work [] heard h = goes j.kind work heard g h
  waits g j work (c ∷ cs) heard h = stays work g.file.kept g.effects.notes g.effects.mended h

  -- ---- a component is lost meanwhile

  refilled : (g : Going) (t : Target) (ps : List Piece) (gone : Bool) → Of A g → End (refills g t ps gone)
  refilled g t ps true h = past g t (NoDrive t.component) refl h
  refilled g t ps false h = all_filled g t ps h

  remade : (g : Going) (t : Target) (gone : Bool) → Of A g → End g → End (remakes g t gone)
  remade g t true h e = past g t (NoDrive t.component) refl h
  remade g t false h e = e

  lost_in : (g : Going) (j : Job) (work : Work) (rest : List Awaited) (gone : Bool) → Of (Begins work) g → End g
      → End (loses g j work rest gone)
  unfolding loses
  lost_in g j (Fetches ps ss) rest gone h e = all_repaired j.kind g ps ss h
  lost_in g j (Stores ps ss broken) rest gone h e = waits g j (Stores ps ss true) rest j.heard h
  lost_in g j (Targets t) rest gone h e = remade g t gone h e
  lost_in g j (Gathers t ps) rest gone h e = refilled g t ps gone h
  lost_in g j (Fills t ps) rest gone h e = refilled g t ps gone h
  lost_in g j (Checks ps t) rest gone h e = all_audited g ps t (inl h)
  lost_in g j Creates rest gone h e = waits g j Creates rest j.heard h
  lost_in g j Fences rest gone h e = waits g j Fences rest j.heard h
  lost_in g j Lengths rest gone h e = waits g j Lengths rest j.heard h

  -- the same work begins without these
  without : (work : Work) (k : Kept) (ns : List Note) (ms : List Mended) (c : ℕ) → Begins work k ns ms
      → Begins work (record k { components = lose_from (c ∷ []) k.components 0 }) (noted_of k ns (NoSpace c)) ms
  without (Fetches ps ss) k ns ms c h =
      w.r_noted ps ss (record k { components = lose_from (c ∷ []) k.components 0 }) ns ms (NoSpace c) refl
      (w.r_lost ps ss k ns ms (c ∷ []) h)
  without (Stores ps ss broken) k ns ms c h =
      w.r_noted ps ss (record k { components = lose_from (c ∷ []) k.components 0 }) ns ms (NoSpace c) refl
      (w.r_lost ps ss k ns ms (c ∷ []) h)
  without Creates k ns ms c h = w.a_noted _ ns ms (NoSpace c) refl (w.a_parts k ns ms _ h)
  without Fences k ns ms c h = w.a_noted _ ns ms (NoSpace c) refl (w.a_parts k ns ms _ h)
  without (Targets t) k ns ms c h = w.a_noted _ ns ms (NoSpace c) refl (w.a_parts k ns ms _ h)
  without (Gathers t ps) k ns ms c h = w.a_noted _ ns ms (NoSpace c) refl (w.a_parts k ns ms _ h)
  without (Fills t ps) k ns ms c h = w.a_noted _ ns ms (NoSpace c) refl (w.a_parts k ns ms _ h)
  without Lengths k ns ms c h = w.a_noted _ ns ms (NoSpace c) refl (w.a_parts k ns ms _ h)
  without (Checks ps t) k ns ms c h = w.a_noted _ ns ms (NoSpace c) refl (w.a_parts k ns ms _ h)

  declared_work : (work : Work) (k : Kept) (ns : List Note) (ms : List Mended) (d : ℕ) → Begins work k ns ms
      → Begins work (record k { components = lose_on d k.components }) ns ms
  declared_work (Fetches ps ss) k ns ms d h = w.r_gone ps ss k ns ms d h
  declared_work (Stores ps ss broken) k ns ms d h = w.r_gone ps ss k ns ms d h
  declared_work Creates k ns ms d h = w.a_parts k ns ms _ h
  declared_work Fences k ns ms d h = w.a_parts k ns ms _ h
  declared_work (Targets t) k ns ms d h = w.a_parts k ns ms _ h
  declared_work (Gathers t ps) k ns ms d h = w.a_parts k ns ms _ h
  declared_work (Fills t ps) k ns ms d h = w.a_parts k ns ms _ h
  declared_work Lengths k ns ms d h = w.a_parts k ns ms _ h
  declared_work (Checks ps t) k ns ms d h = w.a_parts k ns ms _ h

  formatted : (work : Work) (k : Kept) (ns : List Note) (ms : List Mended) (format : ℕ) → Begins work k ns ms
      → Begins work (record k { format = format }) ns ms
  formatted (Fetches ps ss) k ns ms f h = w.r_format ps ss k ns ms f h
  formatted (Stores ps ss broken) k ns ms f h = w.r_format ps ss k ns ms f h
  formatted Creates k ns ms f h = w.a_format k ns ms f h
  formatted Fences k ns ms f h = w.a_format k ns ms f h
  formatted (Targets t) k ns ms f h = w.a_format k ns ms f h
  formatted (Gathers t ps) k ns ms f h = w.a_format k ns ms f h
  formatted (Fills t ps) k ns ms f h = w.a_format k ns ms f h
  formatted Lengths k ns ms f h = w.a_format k ns ms f h
  formatted (Checks ps t) k ns ms f h = w.a_format k ns ms f h

  -- the file of a job that runs
  in_job : (g : Going) (j : Job) → g.file.job ≡ Some j → (k : Kept) (ns : List Note) (ms : List Mended)
      → Begins j.work k ns ms → EndsIn g.file.job k ns ms
  in_job g j runs k ns ms h = subst (λ (o : Option Job). EndsIn o k ns ms) (sym runs) (stays j.work k ns ms h)

  -- ---- a reply, and a declaration

  filled_up : (g : Going) (j : Job) (a : Awaited) (work : Work) → j.work ≡ work → g.file.job ≡ Some j → Of (Begins work) g
      → End (fills_up g j a work)
  filled_up g j a (Targets t) is runs h = past g t (NoSpace t.component) refl h
  filled_up g j a (Gathers t ps) is runs h = past g t (NoSpace t.component) refl h
  filled_up g j a (Fills t ps) is runs h = past g t (NoSpace t.component) refl h
  filled_up g j a work is runs h =
      let lacks : Begins work (record g.file.kept { components = lose_from (a.component ∷ []) g.file.kept.components 0 })
      (noted_of g.file.kept g.effects.notes (NoSpace a.component)) g.effects.mended =
      without work g.file.kept g.effects.notes g.effects.mended a.component h in
      lost_in _ j work _ false lacks
      (in_job g j runs _ _ _
      (subst (λ (x : Work). Begins x (record g.file.kept { components = lose_from (a.component ∷ []) g.file.kept.components 0 })
      (noted_of g.file.kept g.effects.notes (NoSpace a.component)) g.effects.mended) (sym is) lacks))

  pub of_reply : (g : Going) (j : Job) (a : Awaited) (r : Reply) (x : Hearing) → g.file.job ≡ Some j → Of (Begins j.work) g
      → End (hears g j a r x)
  of_reply g j a r Older runs h =
      stays j.work _ g.effects.notes g.effects.mended
      (formatted j.work g.file.kept g.effects.notes g.effects.mended _ h)
  of_reply g j a r Full runs h = filled_up g j a j.work refl runs h
  of_reply g j a r Done runs h = waits g j j.work _ _ h
  of_reply g j a r Nothing runs h = in_job g j runs _ _ _ h

  pub of_declaration : (g : Going) (drive : ℕ) (j : Job) → g.file.job ≡ Some j → Of (Begins j.work) g
      → End (declares g drive)
  unfolding declares
  of_declaration g drive j runs h =
      either (any_on drive g.file.kept.components || targets g.file.job drive) _ _ (lost g.file.job runs)
      (in_job g j runs _ _ _ h)
    where
      less : Begins j.work (record g.file.kept { components = lose_on drive g.file.kept.components }) g.effects.notes
          g.effects.mended
      less = declared_work j.work g.file.kept g.effects.notes g.effects.mended drive h

      lost : (o : Option Job) → o ≡ Some j
          → End (declared_in (with_components g (lose_on drive g.file.kept.components)) drive o)
      lost None e = absurd (cc e)
      lost (Some i) e =
          let same : i ≡ j = cc e in
          lost_in _ i i.work _ _
          (subst (λ (x : Job). Begins x.work (record g.file.kept { components = lose_on drive g.file.kept.components })
          g.effects.notes g.effects.mended) (sym same) less) (in_job g j runs _ _ _ less)
