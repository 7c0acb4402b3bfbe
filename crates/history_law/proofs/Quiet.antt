-- What a job's run leaves that ends no fence: it awaits just what it sends, with the next nonces, and notes no fence's
-- end.
use Rattle.std.proofs.Common.{◌≡◌, ◌&&◌, ℕ, ◌+◌, Bool, true, false, not, nat_lt, List, [], ◌∷◌, ◌++◌, length, replicate, Option, Some, None, refl, sym, ap, ◌∙◌, arith, inl, inr, if◌then◌else◌}
use Rattle.std.proofs.lemmas.Bool.{cases_Bool}
use Rattle.std.proofs.lemmas.List.{append-nil}
use Rattle.server_rules.specs.Columns.{row_from, unit_with, wanted, end_of}
use Rattle.history_law.specs.Names.{Kept, Piece, Heard, Component, Awaited, Target, JobKind, Work, Tally, Note, NoteKind, Still, Making, Revoking, Rebuilding, Auditing, Fenced, Rebuilt, NoDrive, Lost, NoSpace}
use Rattle.server_rules.specs.Commands.{Ask, Creating, Raising, Reading, Writing, Measuring, Which, is_meant, command_for, to_each}
use Rattle.server_rules.specs.Going.{Going, over, noting, noting_if, rests_or}
use Rattle.server_rules.specs.Messages.{awaited_by}
use Rattle.server_rules.specs.Pieces.{stores_from, is_off}
use Rattle.server_rules.specs.Standing.{is_beyond}
use Rattle.server_rules.specs.Audit.{audits, audits_all, audit_begins}
use Rattle.server_rules.specs.Rebuild.{makes_or, rebuilds, sources, sources_by, fills, filling, target_gone, target_full, group_for}
use Rattle.server_rules.specs.Repair.{after_repair, mended, is_left, repair_reads, repairs, storing, stored, repair_begins}
use Rattle.server_rules.specs.Jobs.{fetched, written, gathered, filled_in, audited_on}
use Rattle.server_rules.specs.Laws.{In}
use Rattle.server_rules.proofs.Members.{in_either}
use Rattle.history_law.specs.Numbered.{Numbered}
use Rattle.history_law.specs.Fencing.{is_fences, is_fencing}
use Rattle.history_law.proofs.Owned.{AllOwned, none_owned, one_owned, each_owned, stores_owned, repair_owned, sources_owned}

-- ---- what is sent is numbered

pub nonce_of : (f : Kept) (a : Ask) (k drive object nonce : ℕ) → (command_for f a k drive object nonce).nonce ≡ nonce
nonce_of f Creating k drive object nonce = refl
nonce_of f Raising k drive object nonce = refl
nonce_of f (Reading offset len) k drive object nonce = refl
nonce_of f (Writing offset bytes) k drive object nonce = refl
nonce_of f Measuring k drive object nonce = refl

first_or : (b : Bool) (n : ℕ) (a : Awaited) (ws bs : List Awaited) → a.command.nonce ≡ n → Numbered (n + 1) ws
    → Numbered n bs → Numbered n (if b then a ∷ ws else bs)
first_or true n a ws bs e h i = (e, h)
first_or false n a ws bs e h i = i

pub each_numbered : (f : Kept) (which : Which) (ask : Ask) (cs : List Component) (k nonce : ℕ)
    → Numbered nonce (to_each f which ask cs k nonce)
unfolding to_each
each_numbered f which ask [] k nonce = tt
each_numbered f which ask (at ∷ cs) k nonce =
    first_or (not at.missing && is_meant f which k) nonce _ _ _ (nonce_of f ask k at.drive at.object nonce)
    (each_numbered f which ask cs (k + 1) (nonce + 1)) (each_numbered f which ask cs (k + 1) nonce)

stores_numbered : (f : Kept) (p : Piece) (rows : List (List ℕ)) (heard : List Heard) (cs : List Component) (k nonce : ℕ)
    → Numbered nonce (stores_from f p rows heard cs k nonce)
unfolding stores_from
stores_numbered f p rows heard [] k nonce = tt
stores_numbered f p rows heard (at ∷ cs) k nonce =
    first_or (is_off f p (row_from heard k p.count) (wanted f.map rows (unit_with f.map p.stripe k) p.count) at k) nonce
    _ _ _ refl (stores_numbered f p rows heard cs (k + 1) (nonce + 1)) (stores_numbered f p rows heard cs (k + 1) nonce)

either_numbered : (b : Bool) (n : ℕ) (ws bs : List Awaited) → Numbered n ws → Numbered n bs
    → Numbered n (if b then ws else bs)
either_numbered true n ws bs h i = h
either_numbered false n ws bs h i = i

repair_numbered : (f : Kept) (p : Piece) (nonce : ℕ) → Numbered nonce (repair_reads f p nonce)
unfolding repair_reads
repair_numbered f p nonce = either_numbered (is_left f p) nonce _ _ tt (each_numbered f _ _ f.components 0 nonce)

sources_numbered : (f : Kept) (t : Target) (p : Piece) (nonce : ℕ) (o : Option ℕ)
    → Numbered nonce (sources_by f t p nonce o)
sources_numbered f t p nonce (Some j) = each_numbered f _ _ f.components 0 nonce
sources_numbered f t p nonce None =
    either_numbered (is_beyond f.map f.components (group_for f t)) nonce _ _ tt
    (each_numbered f _ _ f.components 0 nonce)

-- ---- notes that end no fence

-- the note is that a fence is over
abbrev pub is_fenced : NoteKind → Bool
is_fenced (Fenced tag) = true
is_fenced kind = false

-- no further note says that a fence is over
abbrev pub NoEnd : (before after : List Note) → Type 0
NoEnd before after = (x : Note) → In x after → is_fenced x.kind ≡ true → In x before

pub no_end_behind : (ns : List Note) (file : ℕ) (kind : NoteKind) → is_fenced kind ≡ false
    → NoEnd ns (ns ++ record { file = file; kind = kind } ∷ [])
no_end_behind ns file kind none x i e = elim (in_either x ns _ i) [
  | inl there ↦ there
  | inr (inl same) ↦ absurd (cc (sym none ∙ sym (ap (λ (y : Note). is_fenced y.kind) same) ∙ e))
  | inr (inr nothing) ↦ absurd nothing
]

-- ---- a run

-- It awaits just what it sent, numbered from the next nonce on, under the server's holder; it awaits no fence's SET
-- TAGs, and ended no fence.
-- What is kept of the file is as `K` says.
pub record Quiet (K : Kept → Type 0) (nonce : ℕ) (sent : List Awaited) (notes : List Note) (g : Going) : Type 0 where
  pub kept : K g.file.kept
  pub sent_is : g.effects.sent ≡ sent ++ awaited_by g.file.job
  pub rises : g.effects.nonce ≡ nonce + length (awaited_by g.file.job)
  pub numbered : Numbered nonce (awaited_by g.file.job)
  pub owned : AllOwned (awaited_by g.file.job)
  pub waits : is_fencing g.file.job ≡ false
  pub ends : NoEnd notes g.effects.notes

abbrev pub From : (Kept → Type 0) → Going → Going → Type 0
From K g h = Quiet K g.effects.nonce g.effects.sent g.effects.notes h

-- behind a note that ends no fence
pub noted : (K : Kept → Type 0) (g h : Going) (kind : NoteKind) → is_fenced kind ≡ false
    → From K (noting g kind) h → From K g h
noted K g h kind none q = record {
  kept = q.kept;
  sent_is = q.sent_is;
  rises = q.rises;
  numbered = q.numbered;
  owned = q.owned;
  waits = q.waits;
  ends = λ x i e. no_end_behind g.effects.notes g.file.kept.number kind none x (q.ends x i e) e;
}

noted_if : (K : Kept → Type 0) (b : Bool) (g h : Going) (kind : NoteKind) → is_fenced kind ≡ false
    → Quiet K g.effects.nonce g.effects.sent (if b then (noting g kind).effects.notes else g.effects.notes) h → From K g h
noted_if K true g h kind none q = noted K g h kind none q
noted_if K false g h kind none q = q

nothing_sent : (g : Going) → g.effects.sent ≡ g.effects.sent ++ []
nothing_sent g = sym (append-nil g.effects.sent)

pub quiet_over : (K : Kept → Type 0) (g : Going) → K g.file.kept → From K g (over g)
quiet_over K g k = record {
  kept = k;
  sent_is = nothing_sent g;
  rises = omega arith;
  numbered = tt;
  owned = none_owned;
  waits = refl;
  ends = λ x i e. i;
}

pub quiet_rests_or : (K : Kept → Type 0) (cs : List Awaited) (g : Going) (kind : JobKind) (work : Work) (later : Going)
    → K g.file.kept → Numbered g.effects.nonce cs → AllOwned cs → is_fences work ≡ false → From K g later
    → From K g (rests_or cs g kind work later)
quiet_rests_or K [] g kind work later k n o w q = q
quiet_rests_or K (c ∷ cs) g kind work later k n o w q = record {
  kept = k;
  sent_is = refl;
  rises = refl;
  numbered = n;
  owned = o;
  waits = w;
  ends = λ x i e. i;
}

-- ---- audit

pub quiet_audits : (K : Kept → Type 0) (g : Going) (ps : List Piece) (t : Tally) → K g.file.kept
    → From K g (audits g ps t)
unfolding audits
quiet_audits K g [] t k = noted K g _ _ refl (quiet_over K (noting g _) k)
quiet_audits K g (p ∷ ps) t k =
    quiet_rests_or K _ g _ _ _ k (each_numbered g.file.kept _ _ g.file.kept.components 0 g.effects.nonce)
    (each_owned g.file.kept _ _ g.file.kept.components 0 g.effects.nonce) refl
    (quiet_audits K g ps _ k)

pub quiet_audits_all : (K : Kept → Type 0) (g : Going) (heard : List Heard) → K g.file.kept
    → From K g (audits_all g heard)
quiet_audits_all K g heard k = quiet_audits K g _ _ k

quiet_audit : (K : Kept → Type 0) (g : Going) → K g.file.kept → From K g (audit_begins g)
unfolding audit_begins
quiet_audit K g k =
    quiet_rests_or K _ g _ _ _ k (each_numbered g.file.kept _ _ g.file.kept.components 0 g.effects.nonce)
    (each_owned g.file.kept _ _ g.file.kept.components 0 g.effects.nonce) refl
    (quiet_audits_all K g [] k)

pub quiet_audited : (K : Kept → Type 0) (g : Going) (ps : List Piece) (t : Tally) (heard : List Heard) → K g.file.kept
    → From K g (audited_on g ps t heard)
quiet_audited K g [] t heard k = quiet_audits K g [] t k
quiet_audited K g (p ∷ ps) t heard k = quiet_audits K g ps _ k

-- ---- rebuild

quiet_makes_or : (K : Kept → Type 0) (g : Going) (t : Option Target) (later : Going) → K g.file.kept → From K g later
    → From K g (makes_or g t later)
quiet_makes_or K g None later k q = q
quiet_makes_or K g (Some t) later k q = record {
  kept = k;
  sent_is = refl;
  rises = refl;
  numbered = (refl, tt);
  owned = one_owned _ refl;
  waits = refl;
  ends = λ x i e. i;
}

pub quiet_rebuilds : (K : Kept → Type 0) (g : Going) (cs : List Component) (k : ℕ) → K g.file.kept
    → From K g (rebuilds g cs k)
unfolding rebuilds
quiet_rebuilds K g [] n k = quiet_over K g k
quiet_rebuilds K g (at ∷ cs) n k =
    quiet_makes_or K g _ _ k
    (noted_if K at.missing g _ (NoDrive n) refl (quiet_rebuilds K (noting_if at.missing g (NoDrive n)) cs (n + 1) k))

-- ---- repair

-- what a repair keeps
pub record IsMended (K : Kept → Type 0) : Type 0 where
  pub mends : (k : Kept) → K k → K (record k { ended = []; phase = Still })

quiet_after : (K : Kept → Type 0) (kind : JobKind) (g : Going) → K g.file.kept → From K g (after_repair kind g)
quiet_after K Making g k = quiet_over K g k
quiet_after K Revoking g k = quiet_over K g k
quiet_after K Rebuilding g k = quiet_rebuilds K g g.file.kept.components 0 k
quiet_after K Auditing g k = quiet_audit K g k

from_mended : (K : Kept → Type 0) (g h : Going) (short : List ℕ) → From K (mended g short) h → From K g h
from_mended K g h short q = record {
  kept = q.kept;
  sent_is = q.sent_is;
  rises = q.rises;
  numbered = q.numbered;
  owned = q.owned;
  waits = q.waits;
  ends = λ x i e. no_end_behind g.effects.notes g.file.kept.number _ refl x (q.ends x i e) e;
}

pub quiet_repairs : (K : Kept → Type 0) → IsMended K → (kind : JobKind) (g : Going) (ps : List Piece) (short : List ℕ)
    → K g.file.kept → From K g (repairs kind g ps short)
unfolding repairs
quiet_repairs K m kind g [] short k =
    from_mended K g _ short (quiet_after K kind (mended g short) (m.mends g.file.kept k))
quiet_repairs K m kind g (p ∷ ps) short k =
    quiet_rests_or K _ g _ _ _ k (repair_numbered g.file.kept p g.effects.nonce)
    (repair_owned g.file.kept p g.effects.nonce) refl (quiet_repairs K m kind g ps _ k)

quiet_storing : (K : Kept → Type 0) → IsMended K → (kind : JobKind) (g : Going) (p : Piece) (ps : List Piece)
    (short : List ℕ) (heard : List Heard) → K g.file.kept → From K g (storing kind g p ps short heard)
unfolding storing
quiet_storing K m kind g p ps short heard k =
    quiet_rests_or K _ g _ _ _ k (stores_numbered g.file.kept p _ heard g.file.kept.components 0 g.effects.nonce)
    (stores_owned g.file.kept p _ heard g.file.kept.components 0 g.effects.nonce) refl
    (quiet_repairs K m kind g ps short k)

quiet_stored : (K : Kept → Type 0) → IsMended K → (kind : JobKind) (g : Going) (p : Piece) (ps : List Piece)
    (short : List ℕ) (broken : Bool) → K g.file.kept → From K g (stored kind g p ps short broken)
quiet_stored K m kind g p ps short true k = quiet_repairs K m kind g (p ∷ ps) short k
quiet_stored K m kind g p ps short false k = quiet_repairs K m kind g ps short k

pub quiet_repair : (K : Kept → Type 0) → IsMended K → (kind : JobKind) (g : Going) → K g.file.kept
    → From K g (repair_begins kind g)
unfolding repair_begins
quiet_repair K m kind g k = quiet_repairs K m kind g _ _ k

pub quiet_fetched : (K : Kept → Type 0) → IsMended K → (kind : JobKind) (g : Going) (ps : List Piece) (short : List ℕ)
    (heard : List Heard) → K g.file.kept → From K g (fetched kind g ps short heard)
quiet_fetched K m kind g [] short heard k = quiet_repairs K m kind g [] short k
quiet_fetched K m kind g (p ∷ ps) short heard k = quiet_storing K m kind g p ps short heard k

pub quiet_written : (K : Kept → Type 0) → IsMended K → (kind : JobKind) (g : Going) (ps : List Piece) (short : List ℕ)
    (broken : Bool) → K g.file.kept → From K g (written kind g ps short broken)
quiet_written K m kind g [] short broken k = quiet_repairs K m kind g [] short k
quiet_written K m kind g (p ∷ ps) short broken k = quiet_stored K m kind g p ps short broken k

-- ---- pieces of a rebuild

-- what a component that is placed anew keeps
pub record IsPlaced (K : Kept → Type 0) : Type 0 where
  pub places : (k : Kept) (cs : List Component) → K k → K (record k { components = cs })

pub quiet_fills : (K : Kept → Type 0) → IsPlaced K → (g : Going) (t : Target) (ps : List Piece) → K g.file.kept
    → From K g (fills g t ps)
unfolding fills sources
quiet_fills K c g t [] k =
    noted K g _ (Rebuilt t.component t.drive) refl (quiet_rebuilds K _ _ _ (c.places g.file.kept _ k))
quiet_fills K c g t (p ∷ ps) k =
    quiet_rests_or K _ g _ _ _ k (sources_numbered g.file.kept t p g.effects.nonce _)
    (sources_owned g.file.kept t p g.effects.nonce _) refl
    (noted K g _ (Lost t.component _) refl (quiet_rebuilds K _ _ _ k))

pub quiet_filling : (K : Kept → Type 0) → IsPlaced K → (g : Going) (t : Target) (p : Piece) (ps : List Piece)
    (bytes : List ℕ) → K g.file.kept → From K g (filling g t p ps bytes)
unfolding filling
quiet_filling K c g t p ps bytes k = elim (cases_Bool (nat_lt 0 (end_of bytes (replicate p.count 0)))) [
  | inl e ↦ rw e (record {
    kept = k;
    sent_is = refl;
    rises = refl;
    numbered = (refl, tt);
    owned = one_owned _ refl;
    waits = refl;
    ends = λ x i f. i;
  })
  | inr e ↦ rw e (quiet_fills K c g t ps k)
]

pub quiet_gathered : (K : Kept → Type 0) → IsPlaced K → (g : Going) (t : Target) (ps : List Piece) (heard : List Heard)
    → K g.file.kept → From K g (gathered g t ps heard)
quiet_gathered K c g t [] heard k = quiet_fills K c g t [] k
quiet_gathered K c g t (p ∷ ps) heard k = quiet_filling K c g t p ps _ k

pub quiet_filled : (K : Kept → Type 0) → IsPlaced K → (g : Going) (t : Target) (ps : List Piece) → K g.file.kept
    → From K g (filled_in g t ps)
quiet_filled K c g t [] k = quiet_fills K c g t [] k
quiet_filled K c g t (p ∷ ps) k = quiet_fills K c g t ps k

pub quiet_gone : (K : Kept → Type 0) (g : Going) (t : Target) → K g.file.kept → From K g (target_gone g t)
quiet_gone K g t k = noted K g _ (NoDrive t.component) refl (quiet_rebuilds K _ _ _ k)

pub quiet_full : (K : Kept → Type 0) (g : Going) (t : Target) → K g.file.kept → From K g (target_full g t)
quiet_full K g t k = noted K g _ (NoSpace t.component) refl (quiet_rebuilds K _ _ _ k)
