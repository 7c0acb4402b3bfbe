-- Which notes each part of a job adds to those of its step.
use Rattle.std.proofs.Common.{◌≡◌, ◌⊎◌, ℕ, zero, suc, ◌+◌, Bool, true, false, not, nat_lt, List, [], ◌∷◌, ◌++◌, length, filter, drop, replicate, slice_get, slice_set, Option, Some, None, refl, sym, ap, subst, ◌∙◌, inl, inr, if◌then◌else◌}
use Rattle.std.proofs.Math.Numerals.{add-one}
use Rattle.server_rules.specs.Audit.{audits, audits_all, audit_begins, audited, tallied, checked, present_lengths}
use Rattle.server_rules.specs.Columns.{end_of}
use Rattle.server_rules.specs.Commands.{Creating, Raising, Measuring, All, to_all}
use Rattle.server_rules.specs.Going.{Going, keeping, noting, noting_if, with_components, rests, rests_or}
use Rattle.server_rules.specs.Grants.{merged}
use Rattle.server_rules.specs.Jobs.{making, is_made, ending, fenced, fence_begins, goes_on, fetched, written, waits_or_on, loses, refills, remakes}
use Rattle.server_rules.specs.Laws.{In}
use Rattle.server_rules.specs.Maps.{pieces, pieces_in}
use Rattle.server_rules.specs.Numbers.{among}
use Rattle.server_rules.specs.Pieces.{reads, stores, short_with}
use Rattle.server_rules.specs.Rebuild.{picked, target_on, target_for, makes_or, rebuilds, goes_past, group_for, stands_at, sources, fills, lost, made, to_fill, filling, target_gone, target_full}
use Rattle.server_rules.specs.Repair.{after_repair, mended, repair_reads, repairs, storing, stored, repair_begins}
use Rattle.server_rules.specs.Standing.{lacking}
use Rattle.server_rules.specs.Zoning.{takers}
use Rattle.server_rules.proofs.Members.{in_either}
use Rattle.world_history.specs.ServerNames.{Drive, File, Kept, Repairing, Component, Awaited, Heard, Piece, Target, Job, JobKind, Making, Revoking, Rebuilding, Auditing, Work, Creates, Fences, Fetches, Stores, Targets, Gathers, Fills, Lengths, Checks, Tally, Note, NoteKind, Ready, Fenced, Repaired, Rebuilt, NoDrive, Lost, NoSpace, Audit}
use Rattle.component_law.specs.Objects.{target_in}
use Rattle.history_claims.specs.Notes.{found_first, all_pieces, with_bad, Through, AllMissing}
use Rattle.history_claims.proofs.NoteWords.{reads_some, reads_none, all_missing}

-- ---- notes that come

abbrev pub New : (Note → Type 0) → (before after : List Note) → Type 0
New P before after = (x : Note) → In x after → In x before ⊎ P x

pub none_new : (P : Note → Type 0) (ns : List Note) → New P ns ns
none_new P ns x i = inl i

pub then_new : (P : Note → Type 0) (a b c : List Note) → New P a b → New P b c → New P a c
then_new P a b c f g x i = elim (g x i) [ inl j ↦ f x j | inr p ↦ inr p ]

pub one_new : (P : Note → Type 0) (ns : List Note) (y : Note) → P y → New P ns (ns ++ y ∷ [])
one_new P ns y p x i = elim (in_either x ns (y ∷ []) i) [
  | inl j ↦ inl j
  | inr (inl e) ↦ inr (subst P (sym e) p)
  | inr (inr none) ↦ absurd none
]

-- ---- what a rebuild leaves

rebuilds_kept : (g : Going) (cs : List Component) (k : ℕ) → (rebuilds g cs k).file.kept ≡ g.file.kept
unfolding rebuilds
rebuilds_kept g [] k = refl
rebuilds_kept g (at ∷ cs) k =
    by (target_for g at k) (rebuilds_kept (noting_if at.missing g (NoDrive k)) cs (k + 1))
  where
    by : (o : Option Target) → (rebuilds (noting_if at.missing g (NoDrive k)) cs (k + 1)).file.kept ≡ g.file.kept
        → (makes_or g o (rebuilds (noting_if at.missing g (NoDrive k)) cs (k + 1))).file.kept ≡ g.file.kept
    by None e = e
    by (Some t) e = refl

-- a component that is there
here : (cs : List Component) (k : ℕ) (at : Component) (as_ : List Component) → at ∷ as_ ≡ drop k cs → slice_get cs k ≡ Some at
here [] zero at as_ e = absurd (cc e)
here [] (suc k) at as_ e = absurd (cc e)
here (c ∷ cs) zero at as_ e = let s : at ≡ c = cc e in ap (λ (x : Component). Some x) (sym s)
here (c ∷ cs) (suc k) at as_ e = here cs k at as_ e

next : (cs : List Component) (k : ℕ) (at : Component) (as_ : List Component) → at ∷ as_ ≡ drop k cs → as_ ≡ drop (suc k) cs
next [] zero at as_ e = absurd (cc e)
next [] (suc k) at as_ e = absurd (cc e)
next (c ∷ cs) zero at as_ e = cc e
next (c ∷ cs) (suc k) at as_ e = next cs k at as_ e

-- no drive may take it
no_taker : (g : Going) (at : Component) (k : ℕ) → at.missing ≡ true → target_for g at k ≡ None
    → takers g.drives g.file.kept k ≡ []
unfolding target_for
no_taker g at k m e = by (takers g.drives g.file.kept k) (rw m at e)
  where
    by : (ds : List Drive) → target_on g k (picked g.chosen ds) ≡ None → ds ≡ []
    by [] e = refl
    by (d ∷ ds) e = absurd (cc e)

-- ---- an audit

-- what an audit that found this notes
abbrev pub audit_note : Kept → Tally → NoteKind
audit_note f t =
    Audit f.high (length t.short) (length (filter (λ n. not (among n t.short)) t.bad)) (present_lengths t.lengths f.components 0)

-- where it reads no piece, it is over with its note, or else rests with what it found
pub data Audits (f : Kept) (ps : List Piece) (t : Tally) (g h : Going) : Type 0 where
  RestsThere : (j : Job) (left : List Piece) (found : Tally) → h.file.job ≡ Some j → j.work ≡ Checks left found → j.heard ≡ []
      → Through f ps t left found → h.effects.notes ≡ g.effects.notes → Audits f ps t g h
  IsOver : (found : Tally) → h.file.job ≡ None → Through f ps t [] found
      → h.effects.notes ≡ g.effects.notes ++ (record { file = g.file.kept.number; kind = audit_note f found } ∷ [])
      → Audits f ps t g h

pub audits_so : (g : Going) (ps : List Piece) (t : Tally) → Audits g.file.kept ps t g (audits g ps t)
unfolding audits short_with
audits_so g [] t = IsOver t refl (refl, refl) refl
audits_so g (p ∷ ps) t =
    by (reads g.file.kept p g.effects.nonce) refl (audits_so g ps (tallied g.file.kept p t))
  where
    more : Audits g.file.kept ps (tallied g.file.kept p t) g (audits g ps (tallied g.file.kept p t))
        → reads g.file.kept p g.effects.nonce ≡ []
        → Audits g.file.kept (p ∷ ps) t g (audits g ps (tallied g.file.kept p t))
    more (RestsThere j left found job work heard x notes) e =
        RestsThere j left found job work heard (inr (reads_none g.file.kept p g.effects.nonce e, x)) notes
    more (IsOver found job x notes) e = IsOver found job (inr (reads_none g.file.kept p g.effects.nonce e, x)) notes

    by : (ws : List Awaited) → reads g.file.kept p g.effects.nonce ≡ ws
        → Audits g.file.kept ps (tallied g.file.kept p t) g (audits g ps (tallied g.file.kept p t))
        → Audits g.file.kept (p ∷ ps) t g
        (rests_or ws g Auditing (Checks (p ∷ ps) (tallied g.file.kept p t)) (audits g ps (tallied g.file.kept p t)))
    by [] e on = more on e
    by (c ∷ cs) e on =
        RestsThere (record {
          kind = Auditing;
          work = Checks (p ∷ ps) (tallied g.file.kept p t);
          awaited = c ∷ cs;
          heard = [];
        }) (p ∷ ps) (tallied g.file.kept p t) refl refl refl
        (inl (reads_some g.file.kept p g.effects.nonce c cs e, refl, refl)) refl

pub audits_kept : (g : Going) (ps : List Piece) (t : Tally) → (audits g ps t).file.kept ≡ g.file.kept
unfolding audits
audits_kept g [] t = refl
audits_kept g (p ∷ ps) t = by (reads g.file.kept p g.effects.nonce) (audits_kept g ps (tallied g.file.kept p t))
  where
    by : (ws : List Awaited) → (audits g ps (tallied g.file.kept p t)).file.kept ≡ g.file.kept
        → (rests_or ws g Auditing (Checks (p ∷ ps) (tallied g.file.kept p t))
        (audits g ps (tallied g.file.kept p t))).file.kept ≡ g.file.kept
    by [] e = e
    by (c ∷ cs) e = refl

-- where an audit goes on
pub data AuditOn (f : Kept) (heard : List Heard) : Work → List Piece → Tally → Type 0 where
  OnLengths : AuditOn f heard Lengths (all_pieces f) (found_first heard)
  OnRows : (p : Piece) (ps : List Piece) (t : Tally) → AuditOn f heard (Checks (p ∷ ps) t) ps (with_bad f p heard t)
  OnNone : (t : Tally) → AuditOn f heard (Checks [] t) [] t

-- ---- parts of a job

-- a note of the file of this number, and of such a kind
abbrev pub Own : ℕ → (NoteKind → Type 0) → Note → Type 0
Own n K x = (x.file ≡ n) × K x.kind

-- of the file of this number, which the step leaves as `z`, and the drives `ds`
module _ (n : ℕ) (ds : List Drive) (z : File) (K : NoteKind → Type 0) (rebuilding auditing : Type 0) where
  abbrev Mine : Note → Type 0
  Mine = Own n K

  -- what may be noted by the way
  pub record MayNote : Type 0 where
    pub fenced : (tag : ℕ) → K (Fenced tag)
    pub repaired : (stripes short : ℕ) → K (Repaired stripes short)
    pub rebuilt : (k d : ℕ) → K (Rebuilt k d)
    pub passed : rebuilding → (k : ℕ) (at : Component) → slice_get z.kept.components k ≡ Some at → at.missing ≡ true
        → takers ds z.kept k ≡ [] → K (NoDrive k)
    pub lost : rebuilding → (t : Target) (p : Piece) (nonce : ℕ) → sources z.kept t p nonce ≡ []
        → K (Lost t.component (lacking z.kept.map z.kept.components (group_for z.kept t)))
    pub audits : auditing → AllMissing z.kept.components → (found : Tally)
        → Through z.kept (all_pieces z.kept) (found_first []) [] found → z.job ≡ None → K (audit_note z.kept found)

  -- what may be noted where this work goes on
  pub record MayGoOn (kind : JobKind) (work : Work) (heard : List Heard) : Type 0 where
    pub rebuilds : kind ≡ Rebuilding → rebuilding
    pub audited : kind ≡ Auditing → auditing
    pub aims : (t : Target) → target_in work ≡ Some t → rebuilding
    pub ready : work ≡ Creates → z.job ≡ None → z.kept.ready ≡ true → K Ready
    pub found : (ps : List Piece) (t : Tally) → AuditOn z.kept heard work ps t → (found : Tally)
        → Through z.kept ps t [] found → z.job ≡ None → K (audit_note z.kept found)

  -- what may be noted where a job with this work loses a component, or its target
  pub record MayLose (kind : JobKind) (work : Work) (heard : List Heard) (gone : Bool) : Type 0 where
    pub on : MayGoOn kind work heard
    pub target : gone ≡ true → (t : Target) → target_in work ≡ Some t → K (NoDrive t.component)
    pub again : (ps : List Piece) (t : Tally) → work ≡ Checks ps t → (found : Tally) → Through z.kept ps t [] found
        → z.job ≡ None → K (audit_note z.kept found)

  -- behind a part: it leaves the file as `z`
  abbrev pub Adds : (g h : Going) → Type 0
  Adds g h =
      h.file ≡ z → g.drives ≡ ds → g.file.kept.number ≡ n → New Mine g.effects.notes h.effects.notes

  noted : (g : Going) (kind : NoteKind) → g.file.kept.number ≡ n → K kind
      → New Mine g.effects.notes (noting g kind).effects.notes
  noted g kind number k = one_new Mine g.effects.notes (record { file = g.file.kept.number; kind = kind }) (number, k)

  -- ---- a file is made

  adds_made : (g : Going) → (z.job ≡ None → z.kept.ready ≡ true → K Ready) → Adds g (is_made g)
  adds_made g k file drives number =
      noted (keeping g (record g.file.kept { ready = true })) Ready number
      (k (ap (λ (f : File). f.job) (sym file)) (ap (λ (f : File). f.kept.ready) (sym file)))

  pub adds_making : (g : Going)
      → (AllMissing z.kept.components → z.job ≡ None → z.kept.ready ≡ true → K Ready) → Adds g (making g)
  unfolding making
  adds_making g k file drives number = by (to_all g.file.kept All Creating g.effects.nonce) refl file
    where
      by : (ws : List Awaited) → to_all g.file.kept All Creating g.effects.nonce ≡ ws
          → (rests_or ws g Making Creates (is_made g)).file ≡ z
          → New Mine g.effects.notes (rests_or ws g Making Creates (is_made g)).effects.notes
      by (c ∷ cs) e done = none_new Mine g.effects.notes
      by [] e done =
          adds_made g (k (subst (λ (f : File). AllMissing f.kept.components) done
          (all_missing g.file.kept Creating g.effects.nonce e))) done drives number

  module _ (may : MayNote) where
    -- a note, and what comes then
    noted_then : (g : Going) (kind : NoteKind) (h : Going) → K kind → Adds (noting g kind) h → Adds g h
    noted_then g kind h k on file drives number =
        then_new Mine g.effects.notes (noting g kind).effects.notes h.effects.notes (noted g kind number k)
        (on file drives number)

    adds_rests : (cs : List Awaited) (g : Going) (kind : JobKind) (work : Work) (later : Going) → (cs ≡ [] → Adds g later)
        → Adds g (rests_or cs g kind work later)
    adds_rests [] g kind work later on = on refl
    adds_rests (c ∷ cs) g kind work later on = λ file drives number. none_new Mine g.effects.notes

    -- ---- audit

    adds_audits : (g : Going) (ps : List Piece) (t : Tally)
        → ((found : Tally) → Through z.kept ps t [] found → z.job ≡ None → K (audit_note z.kept found))
        → Adds g (audits g ps t)
    adds_audits g ps t k file drives number = by (audits_so g ps t)
      where
        kept : g.file.kept ≡ z.kept
        kept = sym (audits_kept g ps t) ∙ ap (λ (f : File). f.kept) file

        by : Audits g.file.kept ps t g (audits g ps t) → New Mine g.effects.notes (audits g ps t).effects.notes
        by (RestsThere j left found job work heard x notes) =
            subst (New Mine g.effects.notes) (sym notes) (none_new Mine g.effects.notes)
        by (IsOver found job x notes) =
            subst (New Mine g.effects.notes) (sym notes)
            (one_new Mine g.effects.notes (record { file = g.file.kept.number; kind = audit_note g.file.kept found }) (
              number,
              subst (λ (f : Kept). K (audit_note f found)) (sym kept)
                  (k found (subst (λ (f : Kept). Through f ps t [] found) kept x) (ap (λ (f : File). f.job) (sym file) ∙ job)),
            ))

    adds_audit : (g : Going) → auditing → Adds g (audit_begins g)
    unfolding audit_begins
    adds_audit g auditing_it file drives number =
        adds_rests (to_all g.file.kept All Measuring g.effects.nonce) g Auditing Lengths (audits_all g [])
        (λ none. adds_audits g (all_pieces g.file.kept) (found_first []) (λ found x job.
        may.audits auditing_it
        (subst (λ (f : Kept). AllMissing f.components) (kept none) (all_missing g.file.kept Measuring g.effects.nonce none)) found
        (subst (λ (f : Kept). Through z.kept (all_pieces f) (found_first []) [] found) (kept none) x) job)) file drives number
      where
        kept : to_all g.file.kept All Measuring g.effects.nonce ≡ [] → g.file.kept ≡ z.kept
        kept none =
            sym (audits_kept g (all_pieces g.file.kept) (found_first []))
            ∙ ap (λ (f : File). f.kept) (subst (λ (ws : List Awaited).
            (rests_or ws g Auditing Lengths (audits_all g [])).file ≡ z) none file)

    -- ---- rebuild

    adds_rebuilds : rebuilding → (g : Going) (cs : List Component) (k : ℕ) → cs ≡ drop k g.file.kept.components
        → Adds g (rebuilds g cs k)
    unfolding rebuilds
    adds_rebuilds r g [] k from file drives number = none_new Mine g.effects.notes
    adds_rebuilds r g (at ∷ cs) k from file drives number =
        by (target_for g at k) refl file
        (adds_rebuilds r (noting_if at.missing g (NoDrive k)) cs (k + 1)
        (rw add-one (next g.file.kept.components k at cs from)))
      where
        later : Going
        later = rebuilds (noting_if at.missing g (NoDrive k)) cs (k + 1)

        step : (b : Bool) → at.missing ≡ b → target_for g at k ≡ None → later.file ≡ z
            → New Mine g.effects.notes (noting_if b g (NoDrive k)).effects.notes
        step false m e done = none_new Mine g.effects.notes
        step true m e done =
            let kept : g.file.kept ≡ z.kept =
            sym (rebuilds_kept (noting_if at.missing g (NoDrive k)) cs (k + 1)) ∙ ap (λ (f : File). f.kept) done in
            noted g (NoDrive k) number
            (may.passed r k at
            (subst (λ (f : Kept). slice_get f.components k ≡ Some at) kept (here g.file.kept.components k at cs from)) m
            (subst (λ (f : Kept). takers ds f k ≡ []) kept
            (subst (λ (xs : List Drive). takers xs g.file.kept k ≡ []) drives (no_taker g at k m e))))

        by : (o : Option Target) → target_for g at k ≡ o → (makes_or g o later).file ≡ z
            → Adds (noting_if at.missing g (NoDrive k)) later → New Mine g.effects.notes (makes_or g o later).effects.notes
        by (Some t) e done on = none_new Mine g.effects.notes
        by None e done on =
            then_new Mine g.effects.notes (noting_if at.missing g (NoDrive k)).effects.notes later.effects.notes
            (step at.missing refl e done) (on done drives number)

    adds_past : rebuilding → (t : Target) (g : Going) → Adds g (goes_past g t)
    adds_past r t g =
        adds_rebuilds r g (drop (t.component + 1) g.file.kept.components) (t.component + 1) refl

    pub adds_fills : rebuilding → (g : Going) (t : Target) (ps : List Piece) → Adds g (fills g t ps)
    unfolding fills
    adds_fills r g t [] file drives number =
        let h : Going = with_components g (slice_set g.file.kept.components t.component (stands_at t)) in
        noted_then h (Rebuilt t.component t.drive) (fills g t []) (may.rebuilt t.component t.drive)
        (adds_past r t (noting h (Rebuilt t.component t.drive))) file drives number
    adds_fills r g t (p ∷ ps) file drives number =
        by (sources g.file.kept t p g.effects.nonce) refl file
      where
        by : (ws : List Awaited) → sources g.file.kept t p g.effects.nonce ≡ ws
            → (rests_or ws g Rebuilding (Gathers t (p ∷ ps)) (lost g t)).file ≡ z
            → New Mine g.effects.notes (rests_or ws g Rebuilding (Gathers t (p ∷ ps)) (lost g t)).effects.notes
        by (c ∷ cs) e done = none_new Mine g.effects.notes
        by [] e done =
            let told : NoteKind =
            Lost t.component (lacking g.file.kept.map g.file.kept.components (group_for g.file.kept t)) in
            let kept : g.file.kept ≡ z.kept =
            sym (rebuilds_kept (noting g told) (drop (t.component + 1) g.file.kept.components) (t.component + 1))
            ∙ ap (λ (f : File). f.kept) done in
            noted_then g told (lost g t)
            (subst (λ (f : Kept). K (Lost t.component (lacking f.map f.components (group_for f t)))) (sym kept)
            (may.lost r t p g.effects.nonce (subst (λ (f : Kept). sources f t p g.effects.nonce ≡ []) kept e)))
            (adds_past r t (noting g told)) done drives number

    adds_filling : rebuilding → (g : Going) (t : Target) (p : Piece) (ps : List Piece) (bytes : List ℕ)
        → Adds g (filling g t p ps bytes)
    unfolding filling
    adds_filling r g t p ps bytes = by (nat_lt 0 (end_of bytes (replicate p.count 0)))
        (rests g Rebuilding (Fills t (p ∷ ps)) (to_fill g.file.kept t p bytes g.effects.nonce) []) (adds_fills r g t ps) refl
      where
        by : (b : Bool) (x : Going) → Adds g (fills g t ps) → x.effects.notes ≡ g.effects.notes
            → Adds g (if b then x else fills g t ps)
        by true x on same file drives number = subst (New Mine g.effects.notes) (sym same) (none_new Mine g.effects.notes)
        by false x on same file drives number = on file drives number

    pub adds_gone : rebuilding → (g : Going) (t : Target) → K (NoDrive t.component) → Adds g (target_gone g t)
    adds_gone r g t k =
        noted_then g (NoDrive t.component) (target_gone g t) k (adds_past r t (noting g (NoDrive t.component)))

    pub adds_full : rebuilding → (g : Going) (t : Target) → K (NoSpace t.component) → Adds g (target_full g t)
    adds_full r g t k =
        noted_then g (NoSpace t.component) (target_full g t) k (adds_past r t (noting g (NoSpace t.component)))

    -- ---- repair

    adds_after : (kind : JobKind) → (kind ≡ Rebuilding → rebuilding) → (kind ≡ Auditing → auditing) → (g : Going)
        → Adds g (after_repair kind g)
    adds_after Making r a g = λ file drives number. none_new Mine g.effects.notes
    adds_after Revoking r a g = λ file drives number. none_new Mine g.effects.notes
    adds_after Rebuilding r a g = adds_rebuilds (r refl) g g.file.kept.components 0 refl
    adds_after Auditing r a g = adds_audit g (a refl)

    module _ (kind : JobKind) (r : kind ≡ Rebuilding → rebuilding) (a : kind ≡ Auditing → auditing) where
      adds_repairs : (g : Going) (ps : List Piece) (short : List ℕ) → Adds g (repairs kind g ps short)
      unfolding repairs
      adds_repairs g [] short file drives number =
          then_new Mine g.effects.notes (mended g short).effects.notes (repairs kind g [] short).effects.notes
          (noted g _ number (may.repaired _ (length short))) (adds_after kind r a (mended g short) file drives number)
      adds_repairs g (p ∷ ps) short file drives number =
          adds_rests (repair_reads g.file.kept p g.effects.nonce) g kind (Fetches (p ∷ ps) (short_with g.file.kept p short))
          (repairs kind g ps (short_with g.file.kept p short))
          (λ none. adds_repairs g ps (short_with g.file.kept p short)) file drives number

      adds_storing : (g : Going) (p : Piece) (ps : List Piece) (short : List ℕ) (heard : List Heard)
          → Adds g (storing kind g p ps short heard)
      unfolding storing
      adds_storing g p ps short heard =
          adds_rests (stores g.file.kept p heard g.effects.nonce) g kind (Stores (p ∷ ps) short false) (repairs kind g ps short)
          (λ none. adds_repairs g ps short)

      adds_fetched : (g : Going) (ps : List Piece) (short : List ℕ) (heard : List Heard)
          → Adds g (fetched kind g ps short heard)
      adds_fetched g [] short heard = adds_repairs g [] short
      adds_fetched g (p ∷ ps) short heard = adds_storing g p ps short heard

      adds_stored : (g : Going) (p : Piece) (ps : List Piece) (short : List ℕ) (broken : Bool)
          → Adds g (stored kind g p ps short broken)
      adds_stored g p ps short true = adds_repairs g (p ∷ ps) short
      adds_stored g p ps short false = adds_repairs g ps short

      adds_written : (g : Going) (ps : List Piece) (short : List ℕ) (broken : Bool) → Adds g (written kind g ps short broken)
      adds_written g [] short broken = adds_repairs g [] short
      adds_written g (p ∷ ps) short broken = adds_stored g p ps short broken

      -- ---- the fence

      adds_fenced : (g : Going) → Adds g (fenced kind g)
      unfolding fenced repair_begins
      adds_fenced g file drives number =
          let h : Going = keeping g (record g.file.kept { tag = g.file.kept.tag + 1; phase = Repairing }) in
          noted_then h (Fenced (g.file.kept.tag + 1)) (fenced kind g) (may.fenced (g.file.kept.tag + 1))
          (adds_repairs (noting h (Fenced (g.file.kept.tag + 1)))
          (pieces g.file.kept.map.unit (merged g.file.kept.ended)) []) file drives number

      pub adds_fence : (format : ℕ) (g : Going) → Adds g (fence_begins kind format g)
      unfolding fence_begins
      adds_fence format g file drives number =
          let h : Going = keeping g (ending g.file.kept format) in
          adds_rests (to_all h.file.kept All Raising h.effects.nonce) h kind Fences (fenced kind h) (λ none. adds_fenced h)
          file drives number

    -- ---- nothing is awaited any more

    -- an audit that goes on with these pieces leaves what is kept
    audited_kept : (g : Going) (ps : List Piece) (t : Tally) → (audits g ps t).file ≡ z → g.file.kept ≡ z.kept
    audited_kept g ps t file = sym (audits_kept g ps t) ∙ ap (λ (f : File). f.kept) file

    adds_on : (kind : JobKind) (work : Work) (heard : List Heard) (g : Going) → MayGoOn kind work heard
        → Adds g (goes_on kind work heard g)
    unfolding goes_on checked
    adds_on kind Creates heard g m file drives number = adds_made g (m.ready refl) file drives number
    adds_on kind Fences heard g m file drives number = adds_fenced kind m.rebuilds m.audited g file drives number
    adds_on kind (Fetches ps short) heard g m file drives number =
        adds_fetched kind m.rebuilds m.audited g ps short heard file drives number
    adds_on kind (Stores ps short broken) heard g m file drives number =
        adds_written kind m.rebuilds m.audited g ps short broken file drives number
    adds_on kind (Targets t) heard g m file drives number =
        adds_fills (m.aims t refl) g t (pieces_in g.file.kept.map (group_for g.file.kept t) g.file.kept.high) file drives number
    adds_on kind (Gathers t []) heard g m file drives number = adds_fills (m.aims t refl) g t [] file drives number
    adds_on kind (Gathers t (p ∷ ps)) heard g m file drives number =
        adds_filling (m.aims t refl) g t p ps (made g.file.kept t p heard) file drives number
    adds_on kind (Fills t []) heard g m file drives number = adds_fills (m.aims t refl) g t [] file drives number
    adds_on kind (Fills t (p ∷ ps)) heard g m file drives number = adds_fills (m.aims t refl) g t ps file drives number
    adds_on kind Lengths heard g m file drives number =
        let kept : g.file.kept ≡ z.kept = audited_kept g (all_pieces g.file.kept) (found_first heard) file in
        adds_audits g (all_pieces g.file.kept) (found_first heard) (λ found x job.
        m.found (all_pieces z.kept) (found_first heard) OnLengths found
        (subst (λ (f : Kept). Through z.kept (all_pieces f) (found_first heard) [] found) kept x) job) file drives number
    adds_on kind (Checks [] t) heard g m file drives number = adds_audits g [] t (m.found [] t (OnNone t)) file drives number
    adds_on kind (Checks (p ∷ ps) t) heard g m file drives number =
        let kept : g.file.kept ≡ z.kept = audited_kept g ps (with_bad g.file.kept p heard t) file in
        adds_audits g ps (with_bad g.file.kept p heard t) (λ found x job.
        m.found ps (with_bad z.kept p heard t) (OnRows p ps t) found
        (subst (λ (f : Kept). Through z.kept ps (with_bad f p heard t) [] found) kept x) job) file drives number

    pub adds_waits : (g : Going) (j : Job) (work : Work) (rest : List Awaited) (heard : List Heard)
        → (rest ≡ [] → MayGoOn j.kind work heard) → Adds g (waits_or_on g j work rest heard)
    adds_waits g j work [] heard m = adds_on j.kind work heard g (m refl)
    adds_waits g j work (c ∷ cs) heard m = λ file drives number. none_new Mine g.effects.notes

    -- ---- a component is lost

    adds_refills : rebuilding → (g : Going) (t : Target) (ps : List Piece) (gone : Bool)
        → (gone ≡ true → K (NoDrive t.component)) → Adds g (refills g t ps gone)
    adds_refills r g t ps true k = adds_gone r g t (k refl)
    adds_refills r g t ps false k = adds_fills r g t ps

    adds_remakes : rebuilding → (g : Going) (t : Target) (gone : Bool) → (gone ≡ true → K (NoDrive t.component))
        → Adds g (remakes g t gone)
    adds_remakes r g t true k = adds_gone r g t (k refl)
    adds_remakes r g t false k = λ file drives number. none_new Mine g.effects.notes

    pub adds_loses : (g : Going) (j : Job) (work : Work) (rest : List Awaited) (gone : Bool)
        → MayLose j.kind work j.heard gone → Adds g (loses g j work rest gone)
    unfolding loses
    adds_loses g j (Fetches ps short) rest gone m = adds_repairs j.kind m.on.rebuilds m.on.audited g ps short
    adds_loses g j (Stores ps short broken) rest gone m =
        adds_waits g j (Stores ps short true) rest j.heard (λ none. record {
          rebuilds = m.on.rebuilds;
          audited = m.on.audited;
          aims = λ t e. absurd (cc e);
          ready = λ e. absurd (cc e);
          found = λ qs t on. absurd (no_audit _ qs t on refl);
        })
      where
        no_audit : (work : Work) (qs : List Piece) (t : Tally) → AuditOn z.kept j.heard work qs t
            → work ≡ Stores ps short true → ⊥
        no_audit _ _ _ OnLengths e = cc e
        no_audit _ _ _ (OnRows p qs t) e = cc e
        no_audit _ _ _ (OnNone t) e = cc e
    adds_loses g j (Targets t) rest gone m = adds_remakes (m.on.aims t refl) g t gone (λ is. m.target is t refl)
    adds_loses g j (Gathers t ps) rest gone m = adds_refills (m.on.aims t refl) g t ps gone (λ is. m.target is t refl)
    adds_loses g j (Fills t ps) rest gone m = adds_refills (m.on.aims t refl) g t ps gone (λ is. m.target is t refl)
    adds_loses g j (Checks ps t) rest gone m = adds_audits g ps t (m.again ps t refl)
    adds_loses g j Creates rest gone m = adds_waits g j Creates rest j.heard (λ none. m.on)
    adds_loses g j Fences rest gone m = adds_waits g j Fences rest j.heard (λ none. m.on)
    adds_loses g j Lengths rest gone m = adds_waits g j Lengths rest j.heard (λ none. m.on)
