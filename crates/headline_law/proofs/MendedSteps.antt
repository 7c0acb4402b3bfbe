-- Each note of a step of the server that a repair is over counts what the first repair of its file did, and each file of a
-- repair is there.
-- Towards `RepairsLeaveNoneDisturbed` (`file_simulation/specs/Claim.antt`).
use Rattle.std.proofs.Common.{◌≡◌, ℕ, ◌+◌, Bool, false, List, [], ◌∷◌, Option, Some, None, refl, sym, ap, subst, ◌∙◌, inl, inr, arith}
use Rattle.std.proofs.lemmas.Bool.{cases_eq}
use Rattle.server_rules.specs.Files.{Step, begins, file_at, at_file}
use Rattle.server_rules.specs.Going.{Going}
use Rattle.server_rules.specs.History.{Input, Makes, step, unless_made}
use Rattle.server_rules.specs.Jobs.{fence_begins, declares, making}
use Rattle.server_rules.specs.Grants.{merged}
use Rattle.server_rules.specs.Laws.{In, AreSafe, NoneBeside}
use Rattle.server_rules.specs.Making.{refusal, unless_refused, makes_file, create_file, with_file}
use Rattle.server_rules.specs.Openings.{opens, opens_each}
use Rattle.server_rules.specs.Orders.{declare, declares_each, offline}
use Rattle.server_rules.specs.Replies.{hearing}
use Rattle.server_rules.specs.Requests.{serves}
use Rattle.world_history.specs.ServerNames.{Server, File, Grant, Job, Drive, Effects, Note, NoteKind, Repaired, ClientRequest, Mended, RawMap, Refusal}
use Rattle.history_law.specs.Steps.{Answering, IsAnswering, answered_file, new_file, Refuses, WhileBusy, OnGreatest, StepCases, RequestCases}
use Rattle.history_law.proofs.Files.{in_at, safe_in}
use Rattle.history_law.proofs.Steps.{each_step, each_request}
use Rattle.component_law.specs.Distinct.{AreDistinct}
use Rattle.cause_law.proofs.Barring.{of_each}
use Rattle.relation_law.proofs.KeptServer.{at_place}
use Rattle.headline_law.proofs.PartWalk.{part_hears}
use Rattle.headline_law.proofs.MendedJobs.{tells_repair, repair_of, AllCounted, to_repair, only_ended, Told, AllTold, Base, counted_noted, told_making, told_part, told_fence, told_opens, told_serves, told_declares}

-- ---- before the first part

-- nothing is over yet
nothing_yet : AllCounted [] []
nothing_yet x stripes short i is = absurd i

begun : (before : List Mended) (n : ℕ) (total : List Grant) (ns : List Note) → AllCounted ns before →
    repair_of n before ≡ None → Told before n total ns before
begun before n total ns all none = record {
  counted = all;
  worked = λ r found. absurd (cc (sym none ∙ found));
  others = λ k other. refl;
}

module _ (s : Server) (apart : AreDistinct s.files) where
  -- A repair of file k counted the stripes of the grants that were to be repaired.
  abbrev pub IsOf : (k : ℕ) → Mended → Type 0
  IsOf k r = (f : File) × (file_at s.files k ≡ Some f) × (r.worked ≡ merged (to_repair f.kept))

  -- Each note counts, and so is each repair.
  pub record Counts (ns : List Note) (ms : List Mended) : Type 0 where
    pub counted : AllCounted ns ms
    pub there : (k : ℕ) (r : Mended) → repair_of k ms ≡ Some r → IsOf k r

  none_yet : Counts [] []
  none_yet = record { counted = nothing_yet; there = λ k r found. absurd (cc found) }

  -- where no repair is over
  one_note : (n : ℕ) (kind : NoteKind) → tells_repair kind ≡ false → Counts (record { file = n; kind = kind } ∷ []) []
  one_note n kind plain = record {
    counted = counted_noted [] [] n kind plain nothing_yet;
    there = λ k r found. absurd (cc found);
  }

  -- behind the part of a file
  with_part : (ns : List Note) (before ms : List Mended) (x : File) → In x s.files →
      ((k : ℕ) (r : Mended) → repair_of k before ≡ Some r → IsOf k r) →
      Told before x.kept.number (to_repair x.kept) ns ms → Counts ns ms
  with_part ns before ms x i was told = record {
    counted = told.counted;
    there = λ k r found. elim (cases_eq x.kept.number k) [
      | inl same ↦ (
        x,
        ap (file_at s.files) (sym same) ∙ at_place s.files x apart i,
        told.worked r (ap (λ (j : ℕ). repair_of j ms) same ∙ found),
      )
      | inr other ↦ was k r (sym (told.others k other) ∙ found)
    ];
  }

  -- the part of one file
  alone : (x : File) → In x s.files → (g : Going) → AllTold [] x.kept.number (to_repair x.kept) g →
      Counts g.effects.notes g.effects.mended
  alone x i g told = with_part g.effects.notes [] g.effects.mended x i (λ k r found. absurd (cc found)) told

  told_at : (chosen : List ℕ) (x : File) → AllTold [] x.kept.number (to_repair x.kept) (at_file s chosen x)
  told_at chosen x = begun [] x.kept.number (to_repair x.kept) [] nothing_yet refl

  -- ---- rounds

  -- before the round of these files: no repair of them is over
  record AtRound (fs : List File) (m : Effects) : Type 0 where
    so : Counts m.notes m.mended
    ahead : (y : File) → In y fs → repair_of y.kept.number m.mended ≡ None
    apart_there : AreDistinct fs
    all : (y : File) → In y fs → In y s.files

  at_first : AtRound s.files (begins s)
  at_first = record { so = none_yet; ahead = λ y i. refl; apart_there = apart; all = λ y i. i }

  module _ (x : File) (fs : List File) (m : Effects) (r : AtRound (x ∷ fs) m) where
    told_in : (ds : List Drive) (c : List ℕ) →
        AllTold m.mended x.kept.number (to_repair x.kept) (record { file = x; effects = m; drives = ds; chosen = c })
    told_in ds c = begun m.mended x.kept.number (to_repair x.kept) m.notes r.so.counted (r.ahead x (inl refl))

    round_on : (g : Going) → AllTold m.mended x.kept.number (to_repair x.kept) g → AtRound fs g.effects
    round_on g told = record {
      so = with_part g.effects.notes m.mended g.effects.mended x (r.all x (inl refl)) r.so.there told;
      ahead = λ y i.
          told.others y.kept.number
          (λ same. of_each (λ (f : File). f.kept.number ≡ x.kept.number → ⊥) fs y r.apart_there.0 i (sym same))
          ∙ r.ahead y (inr i);
      apart_there = r.apart_there.1;
      all = λ y i. r.all y (inr i);
    }

  declared_counts : (safe : AreSafe s.files) (drive : ℕ) (ds : List Drive) (fs : List File) (m : Effects) (c : List ℕ) → AtRound fs m →
      Counts (declares_each drive ds fs m c).effects.notes (declares_each drive ds fs m c).effects.mended
  unfolding declares_each
  declared_counts safe drive ds [] m c r = r.so
  declared_counts safe drive ds (x ∷ fs) m c r =
      let at : Going = record { file = x; effects = m; drives = ds; chosen = c } in
      let g : Going = declares at drive in
      declared_counts safe drive ds fs g.effects g.chosen
      (round_on x fs m r g
      (told_declares m.mended x.kept.number (to_repair x.kept) drive at (told_in x fs m r ds c) refl (r.ahead x (inl refl)) refl
      (safe_in s.files safe x (r.all x (inl refl))).alone))

  opened_counts : (format : ℕ) (ds : List Drive) (fs : List File) (m : Effects) → AtRound fs m →
      Counts (opens_each format ds fs m).effects.notes (opens_each format ds fs m).effects.mended
  unfolding opens_each
  opened_counts format ds [] m r = r.so
  opened_counts format ds (x ∷ fs) m r =
      let at : Going = record { file = x; effects = m; drives = ds; chosen = [] } in
      let g : Going = opens format at in
      opened_counts format ds fs g.effects
      (round_on x fs m r g
      (told_opens m.mended x.kept.number (to_repair x.kept) format at (told_in x fs m r ds []) refl (r.ahead x (inl refl)) refl))

  -- ---- a file is made

  module _ (x : File) where
    abbrev making_it : Going
    making_it = making (at_file (with_file s x) [] x)

    making_told : (k : ℕ) → AllTold [] k [] making_it
    making_told k = told_making [] k [] (at_file (with_file s x) [] x) (begun [] k [] [] nothing_yet refl)

    none_mended : (k : ℕ) → repair_of k making_it.effects.mended ≡ None
    none_mended k = (making_told (k + 1)).others k (λ e. another k e)
      where
        another : (n : ℕ) → n + 1 ≡ n → ⊥
        another n e = omega (arith, e)

    made_counts : Counts making_it.effects.notes making_it.effects.mended
    made_counts = record {
      counted = (making_told 0).counted;
      there = λ k r found. absurd (cc (sym (none_mended k) ∙ found));
    }

    none_noted : (y : Note) (stripes short : ℕ) → In y making_it.effects.notes → y.kind ≡ Repaired stripes short → ⊥
    none_noted y stripes short i is =
        cc (sym (none_mended y.file) ∙ ((making_told 0).counted y stripes short i is).found)

  -- ---- the cases

  module _ (safe : AreSafe s.files) (chosen : List ℕ) (i : Input) where
    abbrev AllCounts : Step → Type 0
    AllCounts did = Counts did.notes did.mended

    refused : (x : File) (kind : NoteKind) → Refuses x kind → tells_repair kind ≡ false
    refused x kind (WhileBusy j runs is) = ap tells_repair is
    refused x kind (OnGreatest none great is) = ap tells_repair is

    -- a job that runs has no live grant beside it
    base_at : (x : Answering) → IsAnswering s i x →
        Base [] x.file.kept.number (to_repair x.file.kept) (at_file s chosen x.file)
    base_at x is =
        let none : x.file.kept.grants ≡ [] =
        subst (λ (o : Option Job). NoneBeside o x.file.kept.grants) is.runs (safe_in s.files safe x.file is.there).alone in
        (told_at chosen x.file, record { number = refl; none = refl; ended = only_ended x.file.kept none }, none)

    requests : (now : ℕ) (q : ClientRequest) → RequestCases s now chosen q AllCounts
    requests now q = record {
      again = λ kept is. none_yet;
      misordered = λ expected is. none_yet;
      without = λ is none. none_yet;
      served = λ is x found.
          alone x (in_at s.files q.file x found) (serves (at_file s chosen x) s.next_grant s.format now q.client q.args).going
          (told_serves [] x.kept.number (to_repair x.kept) (at_file s chosen x) (told_at chosen x) refl refl refl s.next_grant
          s.format now q.client q.args);
    }

    cases : StepCases s chosen i AllCounts
    unfolding declare
    cases = record {
      rests = none_yet;
      asked = λ now q is. each_request s now chosen q AllCounts (requests now q);
      answered = λ x is.
          alone x.file is.there (answered_file s chosen x)
          (part_hears (told_part [] x.file.kept.number (to_repair x.file.kept)) (at_file s chosen x.file) x.job x.awaited x.reply
          (hearing x.file.kept x.awaited x.reply) (base_at x is));
      recalled = λ x is. none_yet;
      refused = λ x is kind why. one_note x.kept.number kind (refused x kind why);
      fenced = λ x is kind none low.
          alone x (in_at s.files is.target x is.found) (fence_begins kind s.format (at_file s chosen x))
          (told_fence [] x.kept.number (to_repair x.kept) kind s.format (at_file s chosen x) (told_at chosen x) refl refl refl);
      declared = λ d known. declared_counts safe d (offline s.drives d) s.files (begins s) chosen at_first;
      told = λ u now o is result found. found;
      made = λ n m tag zoned is ok. made_counts (new_file s chosen n m tag zoned);
      added = λ d is. none_yet;
      zoned = λ d zone is. none_yet;
      formats = λ n is. none_yet;
      resends = λ is. none_yet;
      crashes = λ is. none_yet;
      opened = λ is low. opened_counts s.format s.drives s.files (begins s) at_first;
    }

    pub step_counts : AllCounts (step s chosen i)
    step_counts = each_step s chosen i AllCounts cases

-- where a file is made no repair is over
pub none_made : (s : Server) → AreDistinct s.files → (chosen : List ℕ) (n : ℕ) (m : RawMap) (tag : ℕ) (zoned : Bool) (y : Note)
    (stripes short : ℕ) → In y (step s chosen (Makes n m tag zoned)).notes → y.kind ≡ Repaired stripes short → ⊥
unfolding create_file
none_made s apart chosen n m tag zoned y stripes short = by (refusal s n m zoned)
  where
    by : (o : Option Refusal) →
        In y (unless_made s (unless_refused o (makes_file s (new_file s chosen n m tag zoned)))).notes →
        y.kind ≡ Repaired stripes short → ⊥
    by (Some why) i is = i
    by None i is = none_noted s apart (new_file s chosen n m tag zoned) y stripes short i is
