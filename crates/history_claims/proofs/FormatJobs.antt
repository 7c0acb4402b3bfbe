-- What a job that goes on makes of its file's format, and which format its commands have.
use Rattle.std.proofs.Common.{◌≡◌, ◌⊎◌, ◌&&◌, ◌||◌, ℕ, ◌+◌, Bool, true, false, not, List, [], ◌∷◌, Option, Some, None, refl, sym, subst, ◌∙◌, inl, inr, if◌then◌else◌}
use Rattle.server_rules.specs.Columns.{row_from, unit_with, wanted}
use Rattle.server_rules.specs.Commands.{Ask, Creating, Raising, Reading, Writing, Measuring, Which, is_meant, sent_to, to_each}
use Rattle.server_rules.specs.Going.{Going, noting, with_components}
use Rattle.server_rules.specs.Jobs.{waits_or_on, loses, others_than, is_target, targets, declared_in, declares}
use Rattle.server_rules.specs.Laws.{In}
use Rattle.server_rules.specs.Messages.{awaited_by}
use Rattle.server_rules.specs.Pieces.{stores_from, is_off}
use Rattle.server_rules.specs.Rebuild.{sources, sources_by, group_for, position_for}
use Rattle.server_rules.specs.Repair.{is_left, repair_reads}
use Rattle.server_rules.specs.Replies.{others, fills_up}
use Rattle.server_rules.specs.Standing.{any_on, lose_on, lose_from, is_beyond, replica}
use Rattle.world_history.specs.ServerNames.{Kept, Component, Job, Work, Creates, Fences, Fetches, Stores, Targets, Gathers, Fills, Lengths, Checks, Awaited, Heard, Piece, Target, NoSpace}
use Rattle.history_law.specs.Fencing.{is_fences, is_fencing}
use Rattle.component_law.proofs.StandAwaited.{AllAre, none_are, one_is, filtered_are}
use Rattle.relation_law.proofs.Walk.{Place, AtFence, Asks, Makes, Raises, Reads, Writes, Aims, Sources, Filled, Measures, Checks_, JobCases, place_behind, lost_place, broken, walk_full, walk_loses, walk_waits}

-- ---- what is asked

abbrev pub Has : (format : ℕ) → Awaited → Type 0
Has n a = a.command.capability.format ≡ n

module _ (f : Kept) where
  abbrev All : List Awaited → Type 0
  All ws = AllAre (Has f.format) ws

  asked_for : (ask : Ask) (k drive object nonce : ℕ) → Has f.format (sent_to f ask k drive object nonce)
  asked_for Creating k drive object nonce = refl
  asked_for Raising k drive object nonce = refl
  asked_for (Reading offset len) k drive object nonce = refl
  asked_for (Writing offset bytes) k drive object nonce = refl
  asked_for Measuring k drive object nonce = refl

  first_or : (b : Bool) (x : Awaited) (ws bs : List Awaited) → Has f.format x → All ws → All bs
      → All (if b then x ∷ ws else bs)
  first_or true x ws bs o more less a (inl e) = subst (Has f.format) (sym e) o
  first_or true x ws bs o more less a (inr i) = more a i
  first_or false x ws bs o more less a i = less a i

  either : (b : Bool) (ws bs : List Awaited) → All ws → All bs → All (if b then ws else bs)
  either true ws bs h i = h
  either false ws bs h i = i

  each_has : (which : Which) (ask : Ask) (cs : List Component) (k nonce : ℕ) → All (to_each f which ask cs k nonce)
  unfolding to_each
  each_has which ask [] k nonce = none_are (Has f.format)
  each_has which ask (at ∷ cs) k nonce =
      first_or (not at.missing && is_meant f which k) _ _ _ (asked_for ask k at.drive at.object nonce)
      (each_has which ask cs (k + 1) (nonce + 1)) (each_has which ask cs (k + 1) nonce)

  stores_have : (p : Piece) (rows : List (List ℕ)) (heard : List Heard) (cs : List Component) (k nonce : ℕ)
      → All (stores_from f p rows heard cs k nonce)
  unfolding stores_from
  stores_have p rows heard [] k nonce = none_are (Has f.format)
  stores_have p rows heard (at ∷ cs) k nonce =
      first_or (is_off f p (row_from heard k p.count) (wanted f.map rows (unit_with f.map p.stripe k) p.count) at k)
      _ _ _ refl (stores_have p rows heard cs (k + 1) (nonce + 1)) (stores_have p rows heard cs (k + 1) nonce)

  repair_has : (p : Piece) (nonce : ℕ) → All (repair_reads f p nonce)
  unfolding repair_reads
  repair_has p nonce = either (is_left f p) _ _ (none_are (Has f.format)) (each_has _ _ f.components 0 nonce)

  sources_by_have : (t : Target) (p : Piece) (nonce : ℕ) (o : Option ℕ) → All (sources_by f t p nonce o)
  sources_by_have t p nonce (Some j) = each_has _ _ f.components 0 nonce
  sources_by_have t p nonce None =
      either (is_beyond f.map f.components (group_for f t)) _ _ (none_are (Has f.format)) (each_has _ _ f.components 0 nonce)

  sources_have : (t : Target) (p : Piece) (nonce : ℕ) → All (sources f t p nonce)
  unfolding sources
  sources_have t p nonce = sources_by_have t p nonce (replica f.map f.components (position_for f t))

asked_have : (g : Going) (place : Place) (work : Work) (ws : List Awaited) → Asks g place work ws
    → AllAre (Has g.file.kept.format) ws
asked_have g place work ws Makes = each_has g.file.kept _ _ g.file.kept.components 0 g.effects.nonce
asked_have g place work ws Raises = each_has g.file.kept _ _ g.file.kept.components 0 g.effects.nonce
asked_have g place work ws (Reads p ps short) = repair_has g.file.kept p g.effects.nonce
asked_have g place work ws (Writes p ps heard short) = stores_have g.file.kept p _ heard g.file.kept.components 0 g.effects.nonce
asked_have g place work ws (Aims t) = one_is (Has g.file.kept.format) _ refl
asked_have g place work ws (Sources t p ps) = sources_have g.file.kept t p g.effects.nonce
asked_have g place work ws (Filled t p ps heard bytes is some) = one_is (Has g.file.kept.format) _ refl
asked_have g place work ws Measures = each_has g.file.kept _ _ g.file.kept.components 0 g.effects.nonce
asked_have g place work ws (Checks_ p ps tally) = each_has g.file.kept _ _ g.file.kept.components 0 g.effects.nonce

-- ---- whether a job is at a fence

abbrev pub at_fence : Place → Bool
at_fence AtFence = true
at_fence place = false

asked_at : (g : Going) (place : Place) (work : Work) (ws : List Awaited) → Asks g place work ws
    → at_fence place ≡ is_fences work
asked_at g place work ws Makes = refl
asked_at g place work ws Raises = refl
asked_at g place work ws (Reads p ps short) = refl
asked_at g place work ws (Writes p ps heard short) = refl
asked_at g place work ws (Aims t) = refl
asked_at g place work ws (Sources t p ps) = refl
asked_at g place work ws (Filled t p ps heard bytes is some) = refl
asked_at g place work ws Measures = refl
asked_at g place work ws (Checks_ p ps tally) = refl

behind_at : (k : Kept) (work : Work) (heard : List Heard) → at_fence (place_behind k work heard) ≡ is_fences work
behind_at k Creates heard = refl
behind_at k Fences heard = refl
behind_at k (Fetches [] short) heard = refl
behind_at k (Fetches (p ∷ ps) short) heard = refl
behind_at k (Stores [] short b) heard = refl
behind_at k (Stores (p ∷ ps) short true) heard = refl
behind_at k (Stores (p ∷ ps) short false) heard = refl
behind_at k (Targets t) heard = refl
behind_at k (Gathers t []) heard = refl
behind_at k (Gathers t (p ∷ ps)) heard = refl
behind_at k (Fills t []) heard = refl
behind_at k (Fills t (p ∷ ps)) heard = refl
behind_at k Lengths heard = refl
behind_at k (Checks [] t) heard = refl
behind_at k (Checks (p ∷ ps) t) heard = refl

lost_at : (k : Kept) (work : Work) → at_fence (lost_place k work) ≡ is_fences work
lost_at k Creates = refl
lost_at k Fences = refl
lost_at k (Fetches todo short) = refl
lost_at k (Stores todo short b) = refl
lost_at k (Targets t) = refl
lost_at k (Gathers t todo) = refl
lost_at k (Fills t todo) = refl
lost_at k Lengths = refl
lost_at k (Checks todo t) = refl

broken_at : (work : Work) → is_fences work ≡ is_fences (broken work)
broken_at Creates = refl
broken_at Fences = refl
broken_at (Fetches todo short) = refl
broken_at (Stores todo short b) = refl
broken_at (Targets t) = refl
broken_at (Gathers t todo) = refl
broken_at (Fills t todo) = refl
broken_at Lengths = refl
broken_at (Checks todo t) = refl

-- ---- the walk

-- The file has format n. Old says what was awaited before; At and Past, which tag the file has at a fence, and elsewhere.
module _ (n : ℕ) (Old : Awaited → Type 0) (At Past : ℕ → Type 0) (over_ : (t : ℕ) → At t → Past (t + 1)) where
  abbrev pub TagIn : Bool → ℕ → Type 0
  TagIn true t = At t
  TagIn false t = Past t

  abbrev pub Here : Place → Going → Type 0
  Here place g = (g.file.kept.format ≡ n) × TagIn (at_fence place) g.file.kept.tag

  -- so the file is where a part of a step ends
  pub record Keeps (format tag : ℕ) (job : Option Job) : Type 0 where
    pub format_is : format ≡ n
    pub tagged : TagIn (is_fencing job) tag
    pub asks : (a : Awaited) → In a (awaited_by job) → Old a ⊎ Has n a

  abbrev pub End : Going → Type 0
  End g = Keeps g.file.kept.format g.file.kept.tag g.file.job

  over_so : (format tag : ℕ) → format ≡ n → Past tag → Keeps format tag None
  over_so format tag e t = record { format_is = e; tagged = t; asks = λ a i. absurd i }

  pub keeps_on : JobCases Here End
  keeps_on = record {
    asks = λ place work c cs kind g q a. record {
      format_is = q.0;
      tagged = subst (λ (b : Bool). TagIn b g.file.kept.tag) (asked_at g place work (c ∷ cs) a) q.1;
      asks = λ x i. inr (asked_have g place work (c ∷ cs) a x i ∙ q.0);
    };
    aims = λ t g q is. record {
      format_is = q.0;
      tagged = q.1;
      asks = λ x i. inr (one_is (Has g.file.kept.format) _ refl x i ∙ q.0);
    };
    readied = λ g q. over_so g.file.kept.format g.file.kept.tag q.0 q.1;
    rests_behind = λ g q. over_so g.file.kept.format g.file.kept.tag q.0 q.1;
    built = λ k g q. over_so g.file.kept.format g.file.kept.tag q.0 q.1;
    counted = λ t g q. over_so g.file.kept.format g.file.kept.tag q.0 q.1;
    raises = λ g q. (q.0, over_ g.file.kept.tag q.1);
    skips = λ p ps g q e. q;
    unchanged = λ p ps heard g q e. q;
    repaired = λ short g q. q;
    begins = λ g q. q;
    passes = λ b k g q. q;
    builds = λ t g q. q;
    loses_it = λ t p ps lacked g q e. q;
    gone = λ t todo g q. q;
    full = λ t todo g q. q;
    zeros = λ t p ps heard g q e. q;
    lengths = λ g q. q;
    counts = λ p ps g q. q;
  }

  -- ---- a job that waits on, or goes on

  module _ (g : Going) (e : g.file.kept.format ≡ n) where
    rest_so : (work : Work) (o : Job) → TagIn (is_fences work) g.file.kept.tag → o.work ≡ work → AllAre Old o.awaited
        → Keeps g.file.kept.format g.file.kept.tag (Some o)
    rest_so work o tag is old = record {
      format_is = e;
      tagged = subst (λ (w : Work). TagIn (is_fences w) g.file.kept.tag) (sym is) tag;
      asks = λ a i. inl (old a i);
    }

    pub waits_so : (j : Job) (work : Work) (rest : List Awaited) (heard : List Heard)
        → TagIn (is_fences work) g.file.kept.tag → AllAre Old rest → End (waits_or_on g j work rest heard)
    waits_so j work rest heard tag old =
        walk_waits Here End keeps_on g j work rest heard
        (λ c cs is. rest_so work _ tag refl (subst (AllAre Old) is old))
        (λ none. (e, subst (λ (b : Bool). TagIn b g.file.kept.tag) (sym (behind_at g.file.kept work heard)) tag))

    pub loses_so : (j : Job) (work : Work) (rest : List Awaited) (gone : Bool) → j.work ≡ work
        → TagIn (is_fences j.work) g.file.kept.tag → AllAre Old rest → End g → End (loses g j work rest gone)
    loses_so j work rest gone is tag old stays =
        walk_loses Here End keeps_on g j work rest gone is
        (record {
          waits = λ c cs l.
              rest_so (broken j.work) _ (subst (λ (b : Bool). TagIn b g.file.kept.tag) (broken_at j.work) tag) refl
              (subst (AllAre Old) l old);
          stays = stays;
          on = λ waits. (e, subst (λ (b : Bool). TagIn b g.file.kept.tag) (sym (lost_at g.file.kept j.work)) tag);
        })

  -- a WRITE of the job found no space
  pub full_so : (g : Going) (j : Job) (a : Awaited) (work : Work) → j.work ≡ work → g.file.kept.format ≡ n
      → TagIn (is_fences work) g.file.kept.tag → AllAre Old j.awaited → End g → End (fills_up g j a work)
  full_so g j a work is e tag old stays = by work is tag
    where
      less : Going
      less = noting (with_components g (lose_from (a.component ∷ []) g.file.kept.components 0)) (NoSpace a.component)

      lost : (work : Work) → j.work ≡ work → TagIn (is_fences work) g.file.kept.tag
          → End (loses less j work (others j.awaited a.command.nonce) false)
      lost work same t =
          loses_so less e j work (others j.awaited a.command.nonce) false same
          (subst (λ (w : Work). TagIn (is_fences w) g.file.kept.tag) (sym same) t) (filtered_are Old _ j.awaited old) stays

      by : (work : Work) → j.work ≡ work → TagIn (is_fences work) g.file.kept.tag → End (fills_up g j a work)
      by (Targets t) same p = walk_full Here End keeps_on t [] g (e, p)
      by (Gathers t todo) same p = walk_full Here End keeps_on t [] g (e, p)
      by (Fills t todo) same p = walk_full Here End keeps_on t [] g (e, p)
      by Creates same p = lost Creates same p
      by Fences same p = lost Fences same p
      by (Fetches todo short) same p = lost (Fetches todo short) same p
      by (Stores todo short b) same p = lost (Stores todo short b) same p
      by Lengths same p = lost Lengths same p
      by (Checks todo t) same p = lost (Checks todo t) same p

  -- a drive is declared
  pub declares_so : (g : Going) (d : ℕ) → AllAre Old (awaited_by g.file.job) → End g → End (declares g d)
  unfolding declares
  declares_so g d old stays = by (any_on d g.file.kept.components || targets g.file.job d)
    where
      h : Going
      h = with_components g (lose_on d g.file.kept.components)

      by_job : (o : Option Job) → g.file.job ≡ o → End (declared_in h d o)
      by_job None runs = stays
      by_job (Some j) runs =
          loses_so h stays.format_is j j.work (others_than d j.awaited) (is_target j.work d) refl
          (subst (λ (o : Option Job). TagIn (is_fencing o) g.file.kept.tag) runs stays.tagged)
          (filtered_are Old _ j.awaited (subst (λ (o : Option Job). AllAre Old (awaited_by o)) runs old)) stays

      by : (b : Bool) → End (if b then declared_in h d g.file.job else g)
      by true = by_job g.file.job refl
      by false = stays
