-- A history that is cut at the limit of kept bytes: its lines are such as a text has them, and its messages are few.
use Rattle.std.specs.Prelude.{nat_lt}
use Rattle.std.proofs.Common.{◌≡◌, ℕ, suc, ◌+◌, ◌-◌, ◌≤◌, Bool, true, false, true≢false, List, [], ◌∷◌, ◌++◌, length, None, refl, sym, ap, subst, ◌∙◌, arith, append_assoc, inl, inr, if◌then◌else◌}
use Rattle.std.proofs.lemmas.Bool.Decides.{nat_tests}
use Rattle.std.proofs.lemmas.Bool.{cases_Bool}
use Rattle.std.proofs.lemmas.List.{append-nil}
use Rattle.scenario_text.specs.declared.event.Event.{Event}
use Rattle.scenario_text.specs.declared.line.Line.{Line}
use Rattle.scenario_text.specs.declared.line.Line.TheVariants as line
use Rattle.world_history.specs.declared.limits.TheConstants.{MAX_KEPT}
use Rattle.world_history.specs.State.{World}
use Rattle.world_history.specs.Spelled.{spelled, party_of}
use Rattle.world_history.specs.Handed.{Post}
use Rattle.world_history.specs.Moves.{Act, acts}
use Rattle.world_history.specs.Sending.{Move, move, cost, sent_line, sent_lines, fitting}
use Rattle.world_history.specs.Plans.{plan_of}
use Rattle.world_history.specs.Refusals.{refusal}
use Rattle.world_history.specs.Reading.{sent_in}
use Rattle.world_history.specs.Runs.{world_after, lines_of, AreDue, CarriesPart, FillsUp}
use Rattle.world_history.specs.History.{StandsFor}
use Rattle.world_history.proofs.Histories.{full_is_cut}
use Rattle.world_history.proofs.Runs.{due_more, world_more, lines_more}
use Rattle.history_law.specs.Read.{is_written_line, AreWritten}
use Rattle.history_law.proofs.Counting.{acts_count}
use Rattle.history_law.proofs.DriveEvents.{kept as all_read, IsRead}
use Rattle.history_law.proofs.Histories.{kept_part, stands}
use Rattle.component_law.specs.Words.{Each}
use Rattle.component_law.proofs.Shapes.{is_event}
use Rattle.component_law.proofs.Inside.{event_each}
use Rattle.exchange_law.specs.Text.{IsOfText, AreOfText, AreFew}
use Rattle.exchange_law.proofs.Bytes.{some_byte, each_message_is_kept}
use Rattle.exchange_law.proofs.ClientMoves.{longer_by}
use Rattle.exchange_law.proofs.CountGrowing.{as_many, one_longer}
use Rattle.history_claims.specs.Texts.{CutsGoOn}
use Rattle.history_claims.proofs.Texts.{text_inside, each_text}

-- ---- each line of a cut event

each_front : (P : Line → Type 0) (xs ys : List Line) → Each P (xs ++ ys) → Each P xs
each_front P [] ys e = tt
each_front P (x ∷ xs) ys e = (e.0, each_front P xs ys e.1)

module _ (P : Line → Type 0) (inside : (l : Line) → is_event l ≡ false → P l) where
  part_each : (w : World) (e : Event) (lines : List Line) (c : CarriesPart w e lines) (ms : List Move) → c.moves ≡ ms
      → P (line.Event e) → Each P lines
  part_each w e lines c [] is own =
      each_front P lines c.part.0
      (subst (Each P) (ap (λ (l : List Move). line.Event e ∷ lines_of w l) (sym is) ∙ c.part.1) (own, tt))
  part_each w e lines c (m ∷ ms) is own =
      each_front P lines c.part.0
      (subst (Each P) (ap (λ (l : List Move). line.Event e ∷ lines_of w l) (sym is) ∙ c.part.1)
      (event_each P inside w e m ms c.allowed (subst (AreDue (plan_of w e) w) is c.are_due) own))

  cut_each : (w : World) (e : Event) (lines : List Line) → FillsUp w e lines → P (line.Event e) → Each P lines
  cut_each w e lines f own = let c = full_is_cut w e lines f in part_each w e lines c c.moves refl own

text_all : (xs ys : List Line) → AreOfText xs → AreOfText ys → AreOfText (xs ++ ys)
text_all [] ys a b = b
text_all (x ∷ xs) ys a b = (a.0, text_all xs ys a.1 b)

written_all : (xs ys : List Line) → AreWritten xs → AreWritten ys → AreWritten (xs ++ ys)
written_all [] ys a b = b
written_all (x ∷ xs) ys a b = (a.0, written_all xs ys a.1 b)

written_inside : (l : Line) → is_event l ≡ false → is_written_line l ≡ true
written_inside (line.Event e) i = absurd (true≢false i)
written_inside l i = refl

each_written : (ls : List Line) → Each (λ (l : Line). is_written_line l ≡ true) ls → AreWritten ls
each_written [] a = tt
each_written (l ∷ ls) a = (a.0, each_written ls a.1)

-- ---- how many messages

sent_longer : (h : List Line) (n : ℕ) (ps : List Post)
    → length (sent_in (h ++ sent_lines n ps)) ≡ length (sent_in h) + length ps
unfolding sent_lines
sent_longer h n [] = ap (λ (ls : List Line). length (sent_in ls)) (append-nil h) ∙ omega arith
sent_longer h n (p ∷ ps) =
    ap (λ (ls : List Line). length (sent_in ls)) (sym (append_assoc h (sent_line n p.message ∷ []) (sent_lines (n + 1) ps)))
    ∙ sent_longer (h ++ sent_line n p.message ∷ []) (n + 1) ps
    ∙ omega (
      arith,
      one_longer h n (party_of p.message.from) (party_of p.message.to) (spelled p.message.body),
    )

-- each that fits has a byte of the room
few_fit : (room : ℕ) (ps : List Post) → length (fitting room ps) ≤ room
unfolding fitting
few_fit room [] = omega arith
few_fit room (p ∷ ps) = elim (cases_Bool (nat_lt room (cost p))) [
  | inl over ↦ subst (λ (b : Bool). length (if b then [] else p ∷ fitting (room - cost p) ps) ≤ room) (sym over) (omega arith)
  | inr fits ↦ subst (λ (b : Bool). length (if b then [] else p ∷ fitting (room - cost p) ps) ≤ room) (sym fits)
      (one_more (length (fitting (room - cost p) ps)) (few_fit (room - cost p) ps) (some_byte p.message.body)
      (within (cost p) fits))
]
  where
    within : (c : ℕ) → nat_lt room c ≡ false → c ≤ room
    within c is = grind (arith, is, nat_tests)

    one_more : (n : ℕ) → n ≤ room - cost p → 1 ≤ length (spelled p.message.body) → cost p ≤ room → suc n ≤ room
    one_more n l some fits = omega (arith, l, some, fits)

-- ---- up to the move that is cut

behind_moves : (w : World) (h : List Line) (e : Event) (ms : List Move) (last : Move) → StandsFor w h
    → AreDue (plan_of w e) w (ms ++ last ∷ []) → refusal w e ≡ None
    → IsRead (world_after w (ms ++ last ∷ [])) (h ++ line.Event e ∷ lines_of w (ms ++ last ∷ []))
behind_moves w h e [] last s d allowed =
    kept_part IsRead all_read w h e last [] d allowed (stands IsRead all_read w h s)
behind_moves w h e (m ∷ ms) last s d allowed =
    kept_part IsRead all_read w h e m (ms ++ last ∷ []) d allowed (stands IsRead all_read w h s)

module _ (w : World) (h cut : List Line) (e : Event) (s : StandsFor w h) (f : FillsUp w e cut) where
  abbrev now : World
  now = world_after w f.moves

  abbrev act : Act
  act = acts now f.last.chosen f.last.action

  -- the lines up to where the move sends
  abbrev front : List Line
  front = h ++ line.Event e ∷ (lines_of w f.moves ++ act.told)

  split : (ls : List Line) → h ++ line.Event e ∷ (lines_of w f.moves ++ (act.told ++ ls)) ≡ front ++ ls
  split ls =
      ap (λ (x : List Line). h ++ line.Event e ∷ x) (sym (append_assoc (lines_of w f.moves) act.told ls))
      ∙ sym (append_assoc h (line.Event e ∷ (lines_of w f.moves ++ act.told)) ls)

  -- all messages of the move behind it, as many as the world has
  all_sent : length (sent_in (front ++ sent_lines (length act.world.network.messages) act.posts))
      ≡ length (move now f.last).world.network.messages
  all_sent =
      let d : AreDue (plan_of w e) w (f.moves ++ f.last ∷ []) =
      due_more (plan_of w e) w f.moves f.last f.are_due f.last_is_due in
      let lines : h ++ line.Event e ∷ lines_of w (f.moves ++ f.last ∷ [])
      ≡ front ++ sent_lines (length act.world.network.messages) act.posts =
      ap (λ (x : List Line). h ++ line.Event e ∷ x) (lines_more w f.moves f.last)
      ∙ split (sent_lines (length act.world.network.messages) act.posts) in
      ap (λ (ls : List Line). length (sent_in ls)) (sym lines)
      ∙ as_many (world_after w (f.moves ++ f.last ∷ [])) (h ++ line.Event e ∷ lines_of w (f.moves ++ f.last ∷ []))
      (behind_moves w h e f.moves f.last s d f.allowed)
      ∙ ap (λ (v : World). length v.network.messages) (world_more w f.moves f.last)

  front_sent : length (sent_in front) ≡ length now.network.messages
  front_sent = omega (
    arith,
    all_sent,
    sent_longer front (length act.world.network.messages) act.posts,
    longer_by now f.last,
  )

  few_cut : AreFew (h ++ cut)
  few_cut =
      let room = MAX_KEPT - act.world.network.kept in
      let fit = fitting room act.posts in
      let lines : h ++ cut ≡ front ++ sent_lines (length act.world.network.messages) fit =
      ap (λ (ls : List Line). h ++ ls) f.lines_are ∙ split (sent_lines (length act.world.network.messages) fit) in
      let kept : length now.network.messages ≤ now.network.kept =
      each_message_is_kept now (record { before = w; history = h; stands = s; moves = f.moves; world_is = refl }) in
      subst AreFew (sym lines)
      (joined (length (sent_in (front ++ sent_lines (length act.world.network.messages) fit))) (length (sent_in front))
      (length fit) (length now.network.messages) now.network.kept act.world.network.kept
      (sent_longer front (length act.world.network.messages) fit) front_sent (few_fit room act.posts) kept
      (acts_count now f.last.chosen f.last.action).kept f.passes.0)
    where
      joined : (all sent fit many k then_kept : ℕ) → all ≡ sent + fit → sent ≡ many → fit ≤ MAX_KEPT - then_kept → many ≤ k
          → then_kept ≡ k → then_kept ≤ MAX_KEPT → all ≤ MAX_KEPT
      joined all sent fit many k then_kept a b c d same l = omega (arith, a, b, c, d, same, l)

pub cuts_go_on : CutsGoOn
cuts_go_on = record {
  written = λ w h cut e f before own.
      written_all h cut before
      (each_written cut (cut_each (λ (l : Line). is_written_line l ≡ true) written_inside w e cut f own));
  text = λ w h cut e f before own.
      text_all h cut before (each_text cut (cut_each IsOfText text_inside w e cut f own));
  few = few_cut;
}
