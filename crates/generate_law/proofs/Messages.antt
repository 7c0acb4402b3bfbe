-- Each call of the scenario takes few messages from a rest: it touches two stripes at most, and at most three grants are live.
use Rattle.std.proofs.Common.{◌≡◌, ◌≤◌, ◌<◌, ◌+◌, ◌-◌, ◌*◌, ◌/◌, ◌%◌, ℕ, zero, suc, Bool, true, false, if◌then◌else◌, List, [], ◌∷◌, ◌++◌, length, filter, map, refl, sym, ap, subst, ◌∙◌, arith, inl, inr, ne_eqb}
use Rattle.std.specs.List.{range_with_len, sum_by}
use Rattle.std.proofs.Math.Nat.{mod-lt}
use Rattle.std.proofs.lemmas.Bool.{cases_Bool, cases_eq}
use Rattle.data_map.specs.declared.check.RawMap.{RawMap}
use Rattle.stripe_plan.specs.declared.plan.Span.{Span}
use Rattle.stripe_plan.specs.Touched.{stripes}
use Rattle.server_rules.specs.Grants.{against, conflicts}
use Rattle.server_rules.specs.Laws.{In}
use Rattle.server_rules.proofs.FileLaws.{safe_at}
use Rattle.scenario_text.specs.declared.event.Call.{Call}
use Rattle.scenario_text.specs.declared.event.Event.TheVariants as event
use Rattle.scenario_text.specs.declared.line.Line.{Line}
use Rattle.scenario_text.specs.declared.line.Line.TheVariants as line
use Rattle.client_rules.specs.Calls.{file_of, span_of, is_write}
use Rattle.client_rules.specs.Grants.{clipped}
use Rattle.world_history.specs.ClientNames.{CallOp}
use Rattle.world_history.specs.ServerNames.{File, Kept, Grant}
use Rattle.world_history.specs.State.{World}
use Rattle.world_history.specs.Moves.{op_of, raw_of}
use Rattle.world_history.specs.History.{StandsFor, Lawful}
use Rattle.history_law.specs.Grants.{GrantsAreSafe}
use Rattle.history_law.specs.HistoryMoments.{IsReached}
use Rattle.history_law.proofs.Files.{in_at}
use Rattle.history_law.proofs.Staying.{written_front}
use Rattle.history_law.specs.Read.{AreWritten}
use Rattle.exchange_law.specs.Text.{AreOfText, AreFew}
use Rattle.component_law.specs.Order.{Rise, GrantsAreInOrder}
use Rattle.load_law.proofs.Lists.{AreDistinct, no_longer}
use Rattle.ready_law.specs.Answered.{messages_at, message_bound, ReadyIsAnswered}
use Rattle.ready_law.specs.Events.{IsOver}
use Rattle.ready_law.specs.Ready.{Scene, IsReady, scene_of, held_by, is_covered, opposed, reached, touched, wanted}
use Rattle.ready_law.specs.Worlds.{ScenesAreRead}
use Rattle.generate_law.specs.Few.{MESSAGES_A_CALL, EachCallTakesFew, FirstCallTakesFew}
use Rattle.generate_law.specs.Rests.{FILE_SIZE, Rests}
use Rattle.generate_law.specs.Scenario.{file_map, call_of, first_write}
use Rattle.generate_law.proofs.Readiness.{IsInside, call_inside, is_ready, its_file}
use Rattle.generate_law.proofs.Resting.{first_inside}

-- ---- stripes

range_long : (a n : ℕ) → length (range_with_len a n) ≡ n
range_long a zero = refl
range_long a (suc n) = ap suc (range_long (a + 1) n)

two_stripes : (r : Span) → r.length ≤ 1000 → length (stripes (raw_of file_map) r) ≤ 2
unfolding stripes
two_stripes r short = elim (cases_eq r.length 0) [
  | inl none ↦ rw none (omega arith)
  | inr some ↦
      rw (ne_eqb r.length 0 some)
      (few_between (r.offset / 16384) ((r.offset + r.length - 1) / 16384 + 1 - r.offset / 16384) (omega (arith, short)))
]
  where
    few_between : (a n : ℕ) → n ≤ 2 → length (range_with_len a n) ≤ 2
    few_between a n l = omega (arith, range_long a n, l)

pub two_touched : (f : Kept) (op : CallOp) → f.map ≡ raw_of file_map → (span_of op).length ≤ 1000 → length (touched f op) ≤ 2
two_touched f op is short = rw is (two_stripes (reached f op) (short_reach (is_write op)))
  where
    short_reach : (b : Bool) → (if b then span_of op else clipped f.size (span_of op)).length ≤ 1000
    short_reach true = short
    short_reach false = omega (arith, short)

-- ---- grants

filter_fewer : (test : Grant → Bool) (gs : List Grant) → length (filter test gs) ≤ length gs
filter_fewer test [] = omega arith
filter_fewer test (g ∷ gs) = elim (cases_Bool (test g)) [
  | inl t ↦ rw t (omega (arith, filter_fewer test gs))
  | inr f ↦ rw f (omega (arith, filter_fewer test gs))
]

client_of : (gs : List Grant) (c : ℕ) → In c (map (λ (g : Grant). g.client) gs) → (g : Grant) × In g gs × (g.client ≡ c)
client_of [] c i = absurd i
client_of (g ∷ gs) c (inl e) = (g, inl refl, sym e)
client_of (g ∷ gs) c (inr i) = let r = client_of gs c i in (r.0, inr r.1, r.2)

clients_distinct : (gs : List Grant) → Rise gs → ((a b : Grant) → In a gs → In b gs → a.client ≡ b.client → a ≡ b)
    → AreDistinct (map (λ (g : Grant). g.client) gs)
clients_distinct [] rise one = tt
clients_distinct (g ∷ gs) rise one = (
  λ i. (let r = client_of gs g.client i in
      let same : g ≡ r.0 = one g r.0 (inl refl) (inr r.1) (sym r.2) in
      absurd (omega (arith, rise.0 r.0 r.1, ap (λ (x : Grant). x.number) same))),
  clients_distinct gs rise.1 (λ a b i j. one a b (inr i) (inr j)),
)

map_long : (gs : List Grant) → length (map (λ (g : Grant). g.client) gs) ≡ length gs
map_long [] = refl
map_long (g ∷ gs) = ap suc (map_long gs)

below_three : (c : ℕ) → c < 3 → In c (0 ∷ 1 ∷ 2 ∷ [])
below_three zero low = inl refl
below_three (suc zero) low = inr (inl refl)
below_three (suc (suc zero)) low = inr (inr (inl refl))
below_three (suc (suc (suc c))) low = absurd (omega (arith, low))

pub three_grants : (gs : List Grant) → Rise gs → ((a b : Grant) → In a gs → In b gs → a.client ≡ b.client → a ≡ b)
    → ((g : Grant) → In g gs → g.client < 3) → length gs ≤ 3
three_grants gs rise one low =
    omega (
      arith,
      map_long gs,
      no_longer (map (λ (g : Grant). g.client) gs) (0 ∷ 1 ∷ 2 ∷ []) (clients_distinct gs rise one)
          (λ c i. let r = client_of gs c i in below_three c (subst (λ (n : ℕ). n < 3) r.2 (low r.0 r.1))),
    )

pub three_opposed : (s : Scene) (f : Kept) (c : ℕ) (op : CallOp) → length f.grants ≤ 3 → (b : Bool)
    → length (if b then [] else against f.grants (wanted s f c op)) ≤ 3
three_opposed s f c op few true = omega arith
three_opposed s f c op few false = omega (arith, few, filter_fewer (conflicts (wanted s f c op)) f.grants)

-- ---- one call

through : (a b c : ℕ) → a ≤ b → b ≤ c → a ≤ c
through a b c p q = omega (arith, p, q)

module _ (answered : ReadyIsAnswered) (safe : GrantsAreSafe) (order : GrantsAreInOrder) (scenes : ScenesAreRead) where
  module _ (size c : ℕ) (low : c < 3) (x : Call) (its : IsInside (op_of x)) (h : List Line) (lawful : Lawful h)
      (written : AreWritten h) (text : AreOfText h) (few : AreFew h) (before body : List Line)
      (over : IsOver h before (event.Do c x) body) (w : World) (here : StandsFor w before)
      (r : Rests size (scene_of w before)) where
    abbrev op : CallOp
    op = op_of x

    ready : IsReady (scene_of w before) c op
    ready = is_ready safe w before here size r c low op its.file its.short its.inside

    same : ready.file ≡ r.file
    unfolding ready
    same = its_file safe w before here size r c low op its.file its.short its.inside

    reached_here : IsReached w
    reached_here = record { before = w; history = before; stands = here; moves = []; world_is = refl }

    few_grants : length r.file.kept.grants ≤ 3
    few_grants =
        three_grants r.file.kept.grants (order w reached_here r.file (in_at w.server.files 0 r.file r.found)).rise
        (λ a b i j. ((safe_at w.server.files 0 r.file (safe w reached_here) r.found).apart a b i j).1) r.granted

    bound : message_bound (scene_of w before) c op ready ≤ MESSAGES_A_CALL
    bound =
        let map_is : ready.file.kept.map ≡ raw_of file_map = ap (λ (f : File). f.kept.map) same ∙ r.its.map in
        let comps : ready.file.kept.map.comps ≡ 5 = ap (λ (m : RawMap). m.comps) map_is in
        let two : length (touched ready.file.kept op) ≤ 2 = two_touched ready.file.kept op map_is its.short in
        let three : length (opposed (scene_of w before) ready.file.kept c (held_by ready.caller (file_of op)) op) ≤ 3 =
        three_opposed (scene_of w before) ready.file.kept c op
        (subst (λ (f : File). length f.kept.grants ≤ 3) (sym same) few_grants)
        (is_covered (held_by ready.caller (file_of op)) op) in
        at_most (length (opposed (scene_of w before) ready.file.kept c (held_by ready.caller (file_of op)) op))
        ready.file.kept.map.comps (length (touched ready.file.kept op)) three comps two
      where
        at_most : (n comps l : ℕ) → n ≤ 3 → comps ≡ 5 → l ≤ 2 → 16 + 4 * n + 12 * comps * (l + 1) ≤ 208
        at_most n comps l a e b = rw e (omega (arith, a, b))

    abbrev Within : Scene → Type 0
    Within z = (q : IsReady z c op) → sum_by messages_at body ≤ message_bound z c op q

    front_written : AreWritten before
    front_written =
        written_front before (line.Event (event.Do c x) ∷ (body ++ over.after)) (subst AreWritten over.lines_are written)

    within : Within (scene_of w before)
    within =
        subst Within (scenes w before here front_written)
        (λ q. (answered h lawful written text few before body c x over q).1)

    takes_few : sum_by messages_at body ≤ MESSAGES_A_CALL
    takes_few =
        through (sum_by messages_at body) (message_bound (scene_of w before) c op ready) MESSAGES_A_CALL (within ready) bound

  -- ---- the calls of the scenario

  pub each_call_takes_few : EachCallTakesFew
  each_call_takes_few k x = takes_few FILE_SIZE (k % 3) (mod-lt k (omega arith)) (call_of k x) (call_inside k x)

  pub first_call_takes_few : FirstCallTakesFew
  first_call_takes_few = takes_few 0 0 (omega arith) first_write first_inside
