-- Messages are numbered as they are sent.
use Rattle.std.proofs.Common.{◌≡◌, ◌&&◌, ◌+◌, nat_lt, ℕ, suc, Bool, true, false, List, [], ◌∷◌, ◌++◌, length, map, fold, append_assoc, slice_get, Option, Some, None, refl, sym, ap, ◌∙◌, arith}
use Rattle.std.specs.List.{filter_map, cons_option}
use Rattle.std.proofs.lemmas.List.Sums.{fold-append}
use Rattle.std.proofs.lemmas.List.{length-append, length-map}
use Rattle.osd_lists.proofs.Slices.{length_set}
use Rattle.scenario_text.specs.declared.event.Event.{Event}
use Rattle.scenario_text.specs.declared.event.Event.TheVariants as event
use Rattle.scenario_text.specs.declared.line.Delivery.{Delivery}
use Rattle.scenario_text.specs.declared.line.Delivery.TheVariants as delivery
use Rattle.scenario_text.specs.declared.line.Outcome.{Outcome as ToldOutcome}
use Rattle.scenario_text.specs.declared.line.Line.{Line}
use Rattle.scenario_text.specs.declared.line.Line.TheVariants as line
use Rattle.scenario_text.specs.declared.names.TheConstants.{FILES}
use Rattle.server_rules.specs.History as server
use Rattle.client_rules.specs.History.{step}
use Rattle.world_history.specs.ServerNames.{Note}
use Rattle.world_history.specs.ClientNames.{CallOp, Outcome}
use Rattle.world_history.specs.Told.{kind_of}
use Rattle.world_history.specs.declared.messages.Posted.{Posted}
use Rattle.world_history.specs.declared.messages.Sent.{Sent}
use Rattle.world_history.specs.Handed.{Post, ended_by, end_line, op_in}
use Rattle.world_history.specs.History.{OneEventMore}
use Rattle.world_history.specs.Moves.{Act, Action, Opens, Delivers, TimesOut, Pends, acts}
use Rattle.world_history.specs.Names.{is_tellable_note, where_known, note_line, known_note_line, known_outcome}
use Rattle.world_history.specs.Reading.{changed_by, arrived, left_out, sent_after, sent_after_event, sent_in}
use Rattle.world_history.specs.Sending.{Move, move, sent_line, sent_lines, fresh}
use Rattle.world_history.specs.State.{World}
use Rattle.history_law.specs.Answered.{IsNoMessage}
use Rattle.history_law.specs.Moments.{with_event, lines_in}
use Rattle.history_law.specs.Moves.{IsQuiet, AreQuiet, front_of}
use Rattle.history_law.proofs.Each.{EachBehind, each_more, each_front, at_each_line}
use Rattle.history_law.proofs.Moves.{each_act, front_cases}
use Rattle.exchange_law.specs.Doing.{said}
use Rattle.exchange_law.proofs.Along.{lawful}
use Rattle.exchange_law.proofs.Turns.{acts_turn}
use Rattle.history_claims.specs.Numbered.{NumberedAt, MessagesAreNumbered}

-- ---- lines that aren't messages

abbrev SendsNone : List Line → Type 0
SendsNone [] = Unit {0}
SendsNone (l ∷ ls) = IsNoMessage l × SendsNone ls

both : (xs ys : List Line) → SendsNone xs → SendsNone ys → SendsNone (xs ++ ys)
both [] ys x y = y
both (l ∷ xs) ys x y = (x.0, both xs ys x.1 y)

changed_length : (ss : List Sent) (n : ℕ) (f : Sent → Sent) (o : Option Sent) → length (changed_by ss n f o) ≡ length ss
changed_length ss n f None = refl
changed_length ss n f (Some s) = length_set ss n (f s)

event_length : (ss : List Sent) (e : Event) → length (sent_after_event ss e) ≡ length ss
event_length ss (event.DropMessage n) = changed_length ss n left_out (slice_get ss n)
event_length ss e = refl

line_length : (ss : List Sent) (l : Line) → IsNoMessage l → length (sent_after ss l) ≡ length ss
line_length ss (line.Event e) k = event_length ss e
line_length ss (line.Message n from to bytes) k = absurd k
line_length ss (line.Delivered n d) k = changed_length ss n arrived (slice_get ss n)
line_length ss l k = refl

lines_length : (ss : List Sent) (ls : List Line) → SendsNone ls → length (fold sent_after ss ls) ≡ length ss
lines_length ss [] k = refl
lines_length ss (l ∷ ls) k = lines_length (sent_after ss l) ls k.1 ∙ line_length ss l k.0

none_numbered : (b : List Line) (l : Line) → IsNoMessage l → NumberedAt b l
none_numbered b (line.Message n from to bytes) k = absurd k
none_numbered b l k = tt

none_at : (b ls : List Line) → SendsNone ls → EachBehind NumberedAt b ls
none_at b [] k = tt
none_at b (l ∷ ls) k = (none_numbered b l k.0, none_at (b ++ l ∷ []) ls k.1)

-- ---- messages

sent_more : (b : List Line) (l : Line) → sent_in (b ++ l ∷ []) ≡ sent_after (sent_in b) l
unfolding sent_in
sent_more b l = fold-append sent_after [] b (l ∷ [])

sent_at : (b : List Line) (n : ℕ) (ps : List Post) → n ≡ length (sent_in b) → EachBehind NumberedAt b (sent_lines n ps)
unfolding sent_lines
sent_at b n [] e = tt
sent_at b n (p ∷ ps) e = (
  e,
  sent_at (b ++ _ ∷ []) (n + 1) ps
      (ap (λ (k : ℕ). k + 1) e ∙ sym (ap length (sent_more b _) ∙ length-append (sent_in b) _)),
)

-- ---- what is told

quiet_none : (ls : List Line) → AreQuiet ls → SendsNone ls
quiet_none [] q = tt
quiet_none (l ∷ ls) q = (by l q.0, quiet_none ls q.1)
  where
    by : (x : Line) → IsQuiet x → IsNoMessage x
    by (line.Message n from to bytes) k = k
    by x k = tt

notes_none : (ns : List Note) → SendsNone (filter_map known_note_line ns)
notes_none [] = tt
notes_none (n ∷ ns) = by (nat_lt n.file FILES && is_tellable_note n.kind) (notes_none ns)
  where
    by : (y : Bool) → SendsNone (filter_map known_note_line ns) →
        SendsNone (cons_option (where_known y (note_line n)) (filter_map known_note_line ns))
    by true rest = (tt, rest)
    by false rest = rest

end_none : (c : ℕ) (o : Option ToldOutcome) → SendsNone (end_line c o)
end_none c None = tt
end_none c (Some o) = (tt, tt)

ended_none : (c : ℕ) (p : Option CallOp) (o : Option Outcome) → SendsNone (ended_by c p o)
ended_none c None o = tt
ended_none c (Some p) None = tt
ended_none c (Some p) (Some o) = end_none c (known_outcome (kind_of p) o)

module _ (w : World) (chosen : List ℕ) (action : Action) where
  abbrev Told : Act → Type 0
  Told act = SendsNone act.told

  fronted_none : (d : Delivery) (ls : List Line) → SendsNone ls → SendsNone (front_of action d ++ ls)
  fronted_none d ls k =
      front_cases (λ (front : List Line). SendsNone (front ++ ls)) k (λ number x. (tt, k)) (λ c j. (tt, k)) action d

  told_none : Told (acts w chosen action)
  told_none = each_act w chosen Told action (record {
    rests = λ ms said told quiet. quiet_none told quiet;
    refused = λ c a found op is e why. (tt, tt);
    clock = λ time. tt;
    serves = λ ms said i is.
        fronted_none delivery.Taken (filter_map known_note_line (server.step w.server chosen i).notes)
        (notes_none (server.step w.server chosen i).notes);
    goes = λ ms said c a found i is.
        fronted_none delivery.Taken (ended_by c (op_in a.state i) (step a.state i).outcome)
        (ended_none c (op_in a.state i) (step a.state i).outcome);
    comes = λ c is. tt;
    stops = λ c a found. tt;
    judged = λ ms said d a found hears m number. (tt, tt);
    injected = λ d bytes is a found. (tt, tt);
    turns = λ d a z found turns. tt;
    known = λ d key capacity stored is knows. tt;
    adds = λ d key capacity stored is knows. tt;
  })

-- ---- a move

said_length : (ps : List Posted) → length (said ps) ≡ length ps
said_length [] = refl
said_length (p ∷ ps) = ap suc (said_length ps)

sents_length : (ss : List Sent) (n : ℕ) (ps : List Post) → length (fold sent_after ss (sent_lines n ps)) ≡ length ss + length ps
unfolding sent_lines
sents_length ss n [] = omega arith
sents_length ss n (p ∷ ps) =
    let more = sents_length (sent_after ss (sent_line n p.message)) (n + 1) ps in
    let one : length (sent_after ss (sent_line n p.message)) ≡ length ss + 1 = length-append ss _ in
    omega (arith, more, one)

abbrev So : World → List Line → Type 0
So w h = EachBehind NumberedAt [] h × (length (sent_in h) ≡ length w.network.messages)

module _ (w : World) (h : List Line) (m : Move) where
  abbrev act : Act
  act = acts w m.chosen m.action

  abbrev number : ℕ
  number = length act.world.network.messages

  same_number : number ≡ length w.network.messages
  same_number =
      sym (said_length act.world.network.messages) ∙ ap length (acts_turn w m.chosen m.action).messages
      ∙ said_length w.network.messages

  -- behind these lines, which have as many messages
  module _ (b : List Line) (as_many : length (sent_in b) ≡ length w.network.messages) where
    told_length : length (sent_in (b ++ act.told)) ≡ number
    unfolding sent_in
    told_length =
        ap length (fold-append sent_after [] b act.told)
        ∙ lines_length (sent_in b) act.told (told_none w m.chosen m.action) ∙ as_many ∙ sym same_number

    all_numbered : EachBehind NumberedAt b (move w m).lines
    all_numbered =
        each_more NumberedAt b act.told (sent_lines number act.posts) (none_at b act.told (told_none w m.chosen m.action))
        (sent_at (b ++ act.told) number act.posts (sym told_length))

    all_length : length (sent_in (b ++ (move w m).lines)) ≡ length (move w m).world.network.messages
    unfolding sent_in
    all_length =
        let split : sent_in (b ++ (act.told ++ sent_lines number act.posts))
        ≡ fold sent_after (sent_in (b ++ act.told)) (sent_lines number act.posts) =
        ap sent_in (sym (append_assoc b act.told (sent_lines number act.posts)))
        ∙ fold-append sent_after [] (b ++ act.told) (sent_lines number act.posts) in
        let all = sents_length (sent_in (b ++ act.told)) number act.posts in
        let posts = length-append act.world.network.messages (map fresh act.posts) in
        let each : length (map fresh act.posts) ≡ length act.posts = length-map act.posts fresh in
        ap length split ∙ omega (arith, all, told_length, posts, each)

  move_so : So w h → So (move w m).world (h ++ lines_in w m)
  unfolding sent_in
  move_so so = by m.action refl
    where
      plain : EachBehind NumberedAt h (move w m).lines
          × (length (sent_in (h ++ (move w m).lines)) ≡ length (move w m).world.network.messages)
      plain = (all_numbered h so.1, all_length h so.1)

      opened : (e : Event) → EachBehind NumberedAt h (line.Event e ∷ (move w m).lines)
          × (length (sent_in (h ++ line.Event e ∷ (move w m).lines)) ≡ length (move w m).world.network.messages)
      opened e =
          let many : length (sent_in (h ++ line.Event e ∷ [])) ≡ length w.network.messages =
          ap length (sent_more h (line.Event e)) ∙ event_length (sent_in h) e ∙ so.1 in (
            (tt, all_numbered (h ++ line.Event e ∷ []) many),
            ap (λ (ls : List Line). length (sent_in ls)) (sym (append_assoc h (line.Event e ∷ []) (move w m).lines))
                ∙ all_length (h ++ line.Event e ∷ []) many,
          )

      joined : (a : Action) → EachBehind NumberedAt h (with_event a (move w m).lines)
          × (length (sent_in (h ++ with_event a (move w m).lines)) ≡ length (move w m).world.network.messages)
      joined (Opens e) = opened e
      joined (Delivers n) = plain
      joined (TimesOut c k) = plain
      joined (Pends c) = plain

      by : (a : Action) → m.action ≡ a → So (move w m).world (h ++ lines_in w m)
      by a e =
          let j = joined m.action in (each_more NumberedAt [] h (lines_in w m) so.0 j.0, j.1)

-- Each message of a lawful history has the number of messages before it.
pub messages_are_numbered : OneEventMore → MessagesAreNumbered
unfolding sent_in
messages_are_numbered more h l =
    let all = lawful more So (record {
      starts = (tt, refl);
      moves = λ w g m k next may x. move_so w g m x;
    }) h l in
    at_each_line NumberedAt h (each_front NumberedAt [] h all.1 all.2.0)
