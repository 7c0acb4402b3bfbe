-- What a repair owes and has done, over the parts of a job.
-- Towards `OweFollows` and `DoneFollows` (`specs/Parts.antt`).
use Rattle.std.proofs.Common.{◌≡◌, ◌⊎◌, ℕ, ◌+◌, ◌-◌, ◌<◌, ◌≤◌, true, false, nat_lt, List, [], ◌∷◌, length, slice_get, Some, refl, sym, ap, subst, ◌∙◌, inl, inr, arith}
use Rattle.std.proofs.lemmas.Bool.{cases_Bool, cases_eq, cases_lt}
use Rattle.std.proofs.lemmas.Bool.Decides.{nat_tests}
use Rattle.std.proofs.lemmas.Option.{same_Some}
use Rattle.osd_lists.proofs.Slices.{some_at}
use Rattle.data_map.specs.declared.check.RawMap.{RawMap}
use Rattle.data_map.specs.Check.{IsChecked}
use Rattle.osd_objects.specs.Store.{lane_or_none}
use Rattle.server_rules.specs.declared.limits.TheConstants.{SERVER_HOLDER}
use Rattle.server_rules.specs.Commands.{Creating, sent_to}
use Rattle.server_rules.specs.Going.{Going, rests}
use Rattle.server_rules.specs.Grants.{merged}
use Rattle.server_rules.specs.Laws.{In}
use Rattle.server_rules.specs.Pieces.{stores}
use Rattle.history_law.specs.Names.{File, Kept, Component, Awaited, Heard, Piece, Job, JobKind, Rebuilding, Repairing, Work, Creates, Fences, Fetches, Stores, Targets, Gathers, Fills, Lengths, Checks}
use Rattle.history_law.specs.Spent.{HasPassed}
use Rattle.world_history.specs.State.{World}
use Rattle.fence_law.specs.Columns.{Short, Stands}
use Rattle.fence_law.specs.State.{State, Layout}
use Rattle.plan_law.specs.FileLayout.{layout_of, column_of_cell, stripe_of_column}
use Rattle.file_simulation.specs.Components.{object_of}
use Rattle.file_simulation.specs.Grants.{covers_column}
use Rattle.file_simulation.specs.Jobs.{HasColumn, offset_of_column, AreDone, AreDue, IsDue, AreWritten}
use Rattle.file_simulation.specs.Phases.{IsEndedAt}
use Rattle.relation_law.proofs.Walk.{Place, AtRepair, AtRows, Asks, Makes, Raises, Reads, Writes, Aims, Sources, Filled, Measures, Checks_, JobCases, raised, aims_at, broken}
use Rattle.headline_law.specs.OweAsking.{AreInside}
use Rattle.headline_law.proofs.DoneColumns.{all_pieces}
use Rattle.headline_law.proofs.DoneSkipped.{skipped}
use Rattle.headline_law.proofs.OweAsked.{all_inside}
use Rattle.headline_law.proofs.OweRows.{RowsAre, read_byte, rows_words, rows_owe}

-- what a repair that writes owes behind a move
pub record OwesStores (s : State) (w : World) (f : File) (j : Job) (p : Piece) : Type 0 where
  pub bytes : ℕ → ℕ
  pub due : AreDue s w f bytes j.awaited p
  pub written : AreWritten s bytes j.awaited

-- the machine has the file's tag, its layout, and lacks what is missing
pub record Settles (t : State) (k : Kept) : Type 0 where
  pub tag : t.tag ≡ k.tag
  pub layout : t.layout ≡ layout_of k.map k.first_tag
  pub checked : IsChecked k.map
  pub many : length k.components ≡ k.map.comps
  pub lost : (n : ℕ) (at : Component) → slice_get k.components n ≡ Some at → at.missing ≡ true → t.lost n ≡ true

-- ---- columns

-- a piece has a column, or hasn't
pub has_or_not : (m : RawMap) (p : Piece) (x : ℕ) → HasColumn m p x ⊎ (HasColumn m p x → ⊥)
has_or_not m p x = elim (cases_eq (stripe_of_column m x) p.stripe) [
  | inr other ↦ inr (λ has. other has.stripe)
  | inl same ↦ elim (cases_lt (offset_of_column m x) p.column) [
    | inl before ↦ inr (λ has. omega (arith, before, has.first))
    | inr from ↦ elim (cases_lt (offset_of_column m x) (p.column + p.count)) [
      | inl below ↦ inl (record { stripe = same; first = from; past = below })
      | inr past ↦ inr (λ has. omega (arith, past, has.past))
    ]
  ]
]

ended_same : (f g : File) (x : ℕ) → f.kept.ended ≡ g.kept.ended → f.kept.map ≡ g.kept.map → IsEndedAt g x → IsEndedAt f x
ended_same f g x ended map is = record {
  grant = is.grant;
  ended = subst (λ gs. In is.grant gs) (sym ended) is.ended;
  rw = is.rw;
  has = ap (λ (m : RawMap). covers_column m is.grant.first is.grant.end x) map ∙ is.has;
}

-- what is done is so of a file with the same map and the same ended grants
pub done_same : (t : State) (f g : File) (todo : List Piece) → f.kept.ended ≡ g.kept.ended → f.kept.map ≡ g.kept.map →
    AreDone t f todo → AreDone t g todo
done_same t f g todo ended map done x is past short =
    done x (ended_same f g x ended map is) (λ p i has. past p i (subst (λ (m : RawMap). HasColumn m p x) map has)) short

-- one more piece is done
pub done_more : (t : State) (f : File) (p : Piece) (ps : List Piece) → AreDone t f (p ∷ ps) →
    ((x : ℕ) → HasColumn f.kept.map p x → (Short t x → ⊥) → (d : ℕ → ℕ) × Stands t x d) → AreDone t f ps
done_more t f p ps done own x ended past short = elim (has_or_not f.kept.map p x) [
  | inl has ↦ own x has short
  | inr other ↦ done x ended (λ q i. elim i [
    | inl same ↦ λ has. other (subst (λ (y : Piece). HasColumn f.kept.map y x) same has)
    | inr later ↦ past q later
  ]) short
]

module _ (W : Type 0) (t : State) (v : World) (low : ℕ)
    (passed : (at : Component) (n : ℕ) → HasPassed (lane_or_none (object_of v at) SERVER_HOLDER) n → n < low) where
  -- ---- behind a step

  -- by the work of a repair; what it owes is asked of W
  abbrev pub Outcome : File → Job → Work → Type 0
  Outcome f j (Fetches todo short) = AreDone t f todo
  Outcome f j (Stores [] short q) = AreDone t f []
  Outcome f j (Stores (p ∷ ps) short q) = AreDone t f (p ∷ ps) × (W → OwesStores t v f j p)
  Outcome f j work = Unit {0}

  abbrev pub IsSettled : File → Type 0
  IsSettled f = f.kept.phase ≡ Repairing → Settles t f.kept → (j : Job) → f.job ≡ Some j → Outcome f j j.work

  -- ---- at a place

  abbrev pub PlaceOwes : Place → Going → Type 0
  PlaceOwes (AtRepair ps) g = AreInside g.file.kept.map ps × (Settles t g.file.kept → AreDone t g.file ps)
  PlaceOwes (AtRows p ps heard) g =
      AreInside g.file.kept.map (p ∷ ps) ×
      (Settles t g.file.kept → AreDone t g.file (p ∷ ps) × RowsAre t g.file.kept p heard) × (low ≤ g.effects.nonce)
  PlaceOwes place g = Unit {0}

  -- the rows of a piece are read
  module _ (k : Kept) (settles : Settles t k) (p : Piece) (inside : p.count ≤ k.map.unit - p.column) (heard : List Heard)
      (are : RowsAre t k p heard) (nonce : ℕ) where
    stands : (n : ℕ) (at : Component) → slice_get k.components n ≡ Some at → t.lost n ≡ false → at.missing ≡ false
    stands n at there lost = elim (cases_Bool at.missing) [
      | inl gone ↦ absurd (cc (sym lost ∙ settles.lost n at there gone))
      | inr here ↦ here
    ]

    rows_due : low ≤ nonce → (n z : ℕ) (at : Component) → slice_get k.components n ≡ Some at → t.lost n ≡ false →
        HasColumn k.map p (column_of_cell k.map n z) →
        (t.cell n z ≡ t.layout.word n z (read_byte k.map k.components t.cell)) ⊎
        IsDue t v at (read_byte k.map k.components t.cell) (stores k p heard nonce) n z
    rows_due above n z at there lost has =
        elim (rows_owe t k k.first_tag settles.layout settles.checked settles.many p heard are inside nonce n z at there
        (stands n at there lost) has) [
          | inl word ↦ inl word
          | inr w ↦ inr (record {
            command = w.command;
            awaits = w.among;
            component = w.component;
            first = w.first;
            past = w.past;
            word = w.word;
            ahead = λ has_passed. let below = passed at w.command.command.nonce has_passed
                in omega (arith, below, above, w.later);
          })
        ]

    -- nothing of it is written: each of its columns stands
    pub rows_stand : stores k p heard nonce ≡ [] → (x : ℕ) → HasColumn k.map p x →
        Stands t x (read_byte k.map k.components t.cell)
    rows_stand none x has n z is col lost =
        let below : n < length k.components = omega (arith, under n z is, settles.many) in
        let at = some_at k.components n below in
        let here : column_of_cell k.map n z ≡ x = sym (ap (λ (l : Layout). l.cell_col n z) settles.layout) ∙ col in
        elim (rows_owe t k k.first_tag settles.layout settles.checked settles.many p heard are inside nonce n z at.0 at.1
        (stands n at.0 at.1 lost) (subst (HasColumn k.map p) (sym here) has)) [
          | inl word ↦ word
          | inr w ↦ absurd (subst (In w.command) none w.among)
        ]
      where
        less : (n : ℕ) → nat_lt n k.map.comps ≡ true → n < k.map.comps
        less n e = grind (arith, nat_tests, e)

        under : (n z : ℕ) → t.layout.is_cell n z ≡ true → n < k.map.comps
        under n z is = less n (sym (ap (λ (l : Layout). l.is_cell n z) settles.layout) ∙ is)

  -- ---- what is asked at a place

  asked_owes : (g : Going) (place : Place) (work : Work) (ws : List Awaited) (kind : JobKind) (f : File) →
      f.kept ≡ g.file.kept → PlaceOwes place g → Settles t g.file.kept → Asks g place work ws →
      Outcome f (record { kind = kind; work = work; awaited = ws; heard = [] }) work
  asked_owes g place work ws kind f same q settles Makes = tt
  asked_owes g place work ws kind f same q settles Raises = tt
  asked_owes g place work ws kind f same q settles (Reads p ps short) =
      done_same t g.file f (p ∷ ps) (ap (λ (y : Kept). y.ended) (sym same)) (ap (λ (y : Kept). y.map) (sym same)) (q.1 settles)
  asked_owes g place work ws kind f same q settles (Writes p ps heard short) =
      let r = q.1 settles in
      let inside : p.count ≤ g.file.kept.map.unit - p.column = q.0 p (inl refl) in (
        done_same t g.file f (p ∷ ps) (ap (λ (y : Kept). y.ended) (sym same)) (ap (λ (y : Kept). y.map) (sym same)) r.0,
        λ known. record {
          bytes = read_byte g.file.kept.map g.file.kept.components t.cell;
          due = subst (λ (y : Kept). (n z : ℕ) (at : Component) → slice_get y.components n ≡ Some at → t.lost n ≡ false →
              HasColumn y.map p (column_of_cell y.map n z) →
              (t.cell n z ≡ t.layout.word n z (read_byte g.file.kept.map g.file.kept.components t.cell)) ⊎
              IsDue t v at (read_byte g.file.kept.map g.file.kept.components t.cell)
              (stores g.file.kept p heard g.effects.nonce) n z) (sym same)
              (rows_due g.file.kept settles p inside heard r.1 g.effects.nonce q.2);
          written = λ a i.
              rows_words t g.file.kept g.file.kept.first_tag settles.layout settles.checked settles.many p heard r.1 inside
              g.effects.nonce a i;
        },
      )
  asked_owes g place work ws kind f same q settles (Aims y) = tt
  asked_owes g place work ws kind f same q settles (Sources y p ps) = tt
  asked_owes g place work ws kind f same q settles (Filled y p ps heard bytes is more) = tt
  asked_owes g place work ws kind f same q settles Measures = tt
  asked_owes g place work ws kind f same q settles (Checks_ p ps tally) = tt

  -- a job that rests
  pub rested : (f : File) (i : Job) → f.job ≡ Some i → Outcome f i i.work → (j : Job) → f.job ≡ Some j → Outcome f j j.work
  rested f i is o j runs = subst (λ (y : Job). Outcome f y y.work) (same_Some i j (sym is ∙ runs)) o

  pub broken_out : (f : File) (i : Job) (work : Work) → Outcome f i work → Outcome f i (broken work)
  broken_out f i Creates o = o
  broken_out f i Fences o = o
  broken_out f i (Fetches todo short) o = o
  broken_out f i (Stores [] short q) o = o
  broken_out f i (Stores (p ∷ ps) short q) o = o
  broken_out f i (Targets y) o = o
  broken_out f i (Gathers y todo) o = o
  broken_out f i (Fills y todo) o = o
  broken_out f i Lengths o = o
  broken_out f i (Checks todo y) o = o

  pub owe_cases : JobCases PlaceOwes (λ g. IsSettled g.file)
  owe_cases = record {
    asks = λ place work c cs kind g q a repairs settles j runs.
        rested (rests g kind work c cs).file (record { kind = kind; work = work; awaited = c ∷ cs; heard = [] }) refl
        (asked_owes g place work (c ∷ cs) kind (rests g kind work c cs).file refl q settles a) j runs;
    aims = λ y g q is repairs settles j runs.
        rested (aims_at g y).file (record {
          kind = Rebuilding;
          work = Targets y;
          awaited = sent_to g.file.kept Creating y.component y.drive y.object g.effects.nonce ∷ [];
          heard = [];
        }) refl tt j runs;
    readied = λ g q repairs settles j runs. absurd (cc runs);
    rests_behind = λ g q repairs settles j runs. absurd (cc runs);
    built = λ n g q repairs settles j runs. absurd (cc runs);
    counted = λ y g q repairs settles j runs. absurd (cc runs);
    raises = λ g q. (
      all_inside g.file.kept.map.unit (merged g.file.kept.ended),
      λ settles x ended done short. absurd (all_pieces (raised g).file x settles.checked ended done),
    );
    skips = λ p ps g q none. (
      λ x i. q.0 x (inr i),
      λ settles. done_more t g.file p ps (q.1 settles) (λ x has short.
          skipped t g.file.kept g.file.kept.first_tag settles.layout settles.checked settles.many settles.lost p
          g.effects.nonce x none has short),
    );
    unchanged = λ p ps heard g q none. (
      λ x i. q.0 x (inr i),
      λ settles. done_more t g.file p ps (q.1 settles).0 (λ x has short. (
        read_byte g.file.kept.map g.file.kept.components t.cell,
        rows_stand g.file.kept settles p (q.0 p (inl refl)) heard (q.1 settles).1 g.effects.nonce none x has,
      )),
    );
    repaired = λ short g q. tt;
    begins = λ g q. tt;
    passes = λ b n g q. tt;
    builds = λ y g q. tt;
    loses_it = λ y p ps lacked g q e. tt;
    gone = λ y todo g q. tt;
    full = λ y todo g q. tt;
    zeros = λ y p ps heard g q e. tt;
    lengths = λ g q. tt;
    counts = λ p ps g q. tt;
  }
