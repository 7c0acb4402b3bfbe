-- What the lines of a move are to the server that is read off them.
use Rattle.std.proofs.Common.{◌≡◌, ℕ, ◌++◌, ◌∷◌, [], List, Bool, true, false, Option, Some, None, ◌+◌, map, fold, refl, sym, ap, subst, ◌∙◌, ◌⊎◌, inl, inr}
use Rattle.std.proofs.lemmas.List.{append-nil}
use Rattle.server_rules.specs.Files.{Step as ServerStep}
use Rattle.server_rules.specs.History.{Input, step}
use Rattle.scenario_text.specs.declared.event.Event.{Event}
use Rattle.scenario_text.specs.declared.line.CallKind.{CallKind}
use Rattle.scenario_text.specs.declared.line.Ending.TheVariants as ending
use Rattle.scenario_text.specs.declared.line.Outcome.{Outcome}
use Rattle.scenario_text.specs.declared.line.Outcome.TheVariants as outcome
use Rattle.scenario_text.specs.declared.line.Line.{Line}
use Rattle.scenario_text.specs.declared.line.Line.TheVariants as line
use Rattle.world_history.specs.declared.messages.Sent.{Sent}
use Rattle.world_history.specs.ServerNames.{Server}
use Rattle.world_history.specs.State.{World}
use Rattle.world_history.specs.Handed.{Post}
use Rattle.world_history.specs.Moves.{Act}
use Rattle.world_history.specs.Sending.{sent_lines}
use Rattle.world_history.specs.Reading.{is_head, Step, Grouped, grouped_with, grouped, steps_of, sent_after}
use Rattle.world_history.specs.Book.{ServerSeen, created_in, placed_in, input_of, input_at, step_by, server_step, server_behind, clock_after, sees_server, server_at_first, server_seen}
use Rattle.world_history.specs.Laws.{shown, ServerGoesOn}
use Rattle.history_law.specs.Placed.{IsReadable}
use Rattle.history_law.specs.Read.{server_of, leads, ReadsAs}
use Rattle.history_law.proofs.Inputs.{placed_is_chosen}
use Rattle.history_law.proofs.Doing.{posts_of, Serving}
use Rattle.history_law.proofs.Leading.{AreFlat, Leads, Silent, Heads, IsPending}

-- ---- steps of lines

abbrev pub HaveNoHead : List Line → Type 0
HaveNoHead [] = Unit {0}
HaveNoHead (l ∷ ls) = (is_head l ≡ false) × HaveNoHead ls

flat_and : (xs ys : List Line) → AreFlat xs → HaveNoHead ys → HaveNoHead (xs ++ ys)
flat_and [] ys f h = h
flat_and (x ∷ xs) ys f h = (f.0, flat_and xs ys f.2 h)

pub sent_no_head : (n : ℕ) (ps : List Post) → HaveNoHead (sent_lines n ps)
unfolding sent_lines
sent_no_head n [] = tt
sent_no_head n (p ∷ ps) = (refl, sent_no_head (n + 1) ps)

pub none_begins : (ls : List Line) → HaveNoHead ls → grouped ls ≡ record { loose = ls; steps = [] }
unfolding grouped
none_begins [] h = refl
none_begins (l ∷ ls) h =
    ap (λ (b : Bool). grouped_with b l (grouped ls)) h.0 ∙ ap (grouped_with false l) (none_begins ls h.1)

pub one_step : (l : Line) (ls : List Line) → is_head l ≡ true → HaveNoHead ls
    → grouped (l ∷ ls) ≡ record { loose = []; steps = record { head = l; rest = ls } ∷ [] }
unfolding grouped
one_step l ls head h =
    ap (λ (b : Bool). grouped_with b l (grouped ls)) head ∙ ap (grouped_with true l) (none_begins ls h)

pub two_steps : (e : Event) (l : Line) (ls : List Line) → is_head l ≡ true → HaveNoHead ls
    → steps_of (line.Event e ∷ l ∷ ls)
    ≡ record { head = line.Event e; rest = [] } ∷ record { head = l; rest = ls } ∷ []
unfolding grouped
two_steps e l ls head h = ap (λ (g : Grouped). (grouped_with true (line.Event e) g).steps) (one_step l ls head h)

-- ---- the line of a call that is left pending

-- lines that are grouped are the same to the server
record AreAlike (g k : Grouped) : Type 0 where
  placed : placed_in g.loose ≡ placed_in k.loose
  sent : (ss : List Sent) → fold sent_after ss g.loose ≡ fold sent_after ss k.loose
  steps : (s : ServerSeen) → fold sees_server s g.steps ≡ fold sees_server s k.steps

-- what is seen behind a step, by what is taken from its lines
abbrev seen_by : ServerSeen → (head : Line) → (placed : List ℕ) → (sent : List Sent) → ServerSeen
seen_by s l placed sent = record {
  server = server_behind s.server (step_by s.server placed (input_at s l));
  clock = clock_after s.clock l;
  sent = sent;
}

alike_with : (b : Bool) (l : Line) (g k : Grouped) → AreAlike g k → AreAlike (grouped_with b l g) (grouped_with b l k)
alike_with true l g k a = record {
  placed = refl;
  sent = λ ss. refl;
  steps = λ s.
      ap (λ (x : ServerSeen). fold sees_server x g.steps)
      (ap (λ (ns : List ℕ). seen_by s l ns (fold sent_after (sent_after s.sent l) g.loose)) a.placed
      ∙ ap (seen_by s l (placed_in k.loose)) (a.sent (sent_after s.sent l)))
      ∙ a.steps (sees_server s (record { head = l; rest = k.loose }));
}
alike_with false l g k a = record {
  placed = ap (λ (ns : List ℕ). created_in l ++ ns) a.placed;
  sent = λ ss. a.sent (sent_after ss l);
  steps = a.steps;
}

alike_end : (h : List Line) (c : ℕ) (o : Outcome) → AreAlike (grouped (h ++ line.Ended c o ∷ [])) (grouped h)
unfolding grouped
alike_end [] c o = record { placed = refl; sent = λ ss. refl; steps = λ s. refl }
alike_end (x ∷ h) c o = alike_with (is_head x) x _ _ (alike_end h c o)

-- ---- a step

pub flat_placed : (xs ys : List Line) → AreFlat xs → placed_in (xs ++ ys) ≡ placed_in ys
flat_placed [] ys f = refl
flat_placed (x ∷ xs) ys f = ap (λ (ns : List ℕ). ns ++ placed_in (xs ++ ys)) f.1 ∙ flat_placed xs ys f.2

same_input : (s : Server) (chosen : List ℕ) (i : Option Input) (rest : List Line) (n : ℕ) (ps : List Post)
    → IsReadable s
    → ((x : Input) → i ≡ Some x → ps ≡ posts_of (step s chosen x).sends) → AreFlat rest
    → step_by s (placed_in (rest ++ sent_lines n ps)) i ≡ step_by s chosen i
same_input s chosen None rest n ps r posts f = refl
same_input s chosen (Some x) rest n ps r posts f =
    ap (λ (t : ServerStep). Some t)
    (ap (λ (ns : List ℕ). step s ns x)
    (flat_placed rest (sent_lines n ps) f ∙ ap (λ (qs : List Post). placed_in (sent_lines n qs)) (posts x refl))
    ∙ placed_is_chosen s chosen x n r)

-- ---- the lines of a move

abbrev pub view : World → List Sent
view w = map shown w.network.messages

-- what is seen behind a step of the server, at this time of its clock
abbrev pub seen_as : World → Option ServerStep → (time : ℕ) → List Sent → ServerSeen
seen_as w did time sent = record { server = server_behind w.server did; clock = time; sent = sent }

-- Lines behind a history are this step to the server that is read, and it goes on from where it was.
pub record AreReadAs (w : World) (did : Option ServerStep) (time : ℕ) (lines : List Line) : Type 0 where
  pub reads : ReadsAs (server_of w) did (steps_of lines)
  pub goes : (h : List Line) → server_seen (h ++ lines) ≡ fold sees_server (server_seen h) (steps_of lines)
  pub sees : fold sees_server (server_of w) (steps_of lines) ≡ seen_as w did time (fold sent_after (view w) lines)

-- none
none_read : (w : World) → AreReadAs w None w.clock []
unfolding grouped
none_read w = record { reads = refl; goes = λ h. ap server_seen (append-nil h); sees = refl }

-- the line of a call that is left pending
ended_read : (w : World) (c : ℕ) (o : Outcome) → AreReadAs w None w.clock (line.Ended c o ∷ [])
unfolding grouped
ended_read w c o = record {
  reads = refl;
  goes = λ h. (alike_end h c o).steps server_at_first;
  sees = refl;
}

-- either
pending_told : (w : World) (told : List Line)
    → (told ≡ []) ⊎ ((c : ℕ) × (k : CallKind) × (told ≡ line.Ended c (outcome.Failed k ending.Pending) ∷ []))
    → AreReadAs w None w.clock told
pending_told w told (inl none) = subst (AreReadAs w None w.clock) (sym none) (none_read w)
pending_told w told (inr one) = subst (AreReadAs w None w.clock) (sym one.2) (ended_read w one.0 _)

module _ (on : ServerGoesOn) (w : World) (readable : IsReadable w.server) (chosen : List ℕ) (i : Option Input)
    (time : ℕ)
    (a : Act) (serves : Serving w time chosen i a) (n : ℕ) where
  abbrev did : Option ServerStep
  did = step_by w.server chosen i

  abbrev sent : List Line
  sent = sent_lines n a.posts

  step_read : (l : Line) (rest : List Line) → input_at (server_of w) l ≡ i → AreFlat rest
      → server_step (server_of w) (record { head = l; rest = rest ++ sent }) ≡ did
  step_read l rest input f =
      ap (step_by w.server (placed_in (rest ++ sent))) input
      ∙ same_input w.server chosen i rest n a.posts readable serves.posts f

  step_seen : (l : Line) (rest : List Line) (after : ℕ) → input_at (server_of w) l ≡ i → AreFlat rest
      → clock_after w.clock l ≡ after
      → sees_server (server_of w) (record { head = l; rest = rest ++ sent })
      ≡ seen_as w did after (fold sent_after (view w) (l ∷ (rest ++ sent)))
  step_seen l rest after input f clock =
      ap (λ (t : Option ServerStep). seen_as w t (clock_after w.clock l)
      (fold sent_after (view w) (l ∷ (rest ++ sent))))
      (step_read l rest input f)
      ∙ ap (λ (k : ℕ). seen_as w did k (fold sent_after (view w) (l ∷ (rest ++ sent)))) clock

  no_head : (rest : List Line) → AreFlat rest → HaveNoHead (rest ++ sent)
  no_head rest f = flat_and rest sent f (sent_no_head n a.posts)

  -- a line that begins a step, and lines that begin none
  pub headed_read : (l : Line) (rest : List Line) → is_head l ≡ true → clock_after w.clock l ≡ time
      → input_at (server_of w) l ≡ i → AreFlat rest → AreReadAs w did time (l ∷ (rest ++ sent))
  headed_read l rest head clock input f =
      let steps : steps_of (l ∷ (rest ++ sent)) ≡ record { head = l; rest = rest ++ sent } ∷ [] =
      ap (λ (g : Grouped). g.steps) (one_step l (rest ++ sent) head (no_head rest f)) in
      record {
        reads = subst (ReadsAs (server_of w) did) (sym steps) (step_read l rest input f);
        goes = λ h. on h (l ∷ (rest ++ sent)) head;
        sees = ap (λ (ts : List Step). fold sees_server (server_of w) ts) steps ∙ step_seen l rest time input f clock;
      }

  -- an event's line, and then these
  abbrev alone : Event → Step
  alone e = record { head = line.Event e; rest = [] }

  led_read : (e : Event) (l : Line) (rest : List Line) → leads e ≡ true → input_of e ≡ None
      → sees_server (server_of w) (alone e) ≡ server_of w → sent_after (view w) (line.Event e) ≡ view w
      → is_head l ≡ true → clock_after w.clock l ≡ time → input_at (server_of w) l ≡ i → AreFlat rest
      → AreReadAs w did time (line.Event e ∷ l ∷ (rest ++ sent))
  led_read e l rest leading none same messages head clock input f =
      let t : Step = record { head = l; rest = rest ++ sent } in
      let steps : steps_of (line.Event e ∷ l ∷ (rest ++ sent)) ≡ alone e ∷ t ∷ [] =
      two_steps e l (rest ++ sent) head (no_head rest f) in
      record {
        reads = subst (ReadsAs (server_of w) did) (sym steps) (
          record { event = e; leading = leading; is = refl; nothing = ap (step_by w.server []) none },
          ap (λ (s : ServerSeen). server_step s t) same ∙ step_read l rest input f,
        );
        goes = λ h. on h (line.Event e ∷ l ∷ (rest ++ sent)) refl;
        sees = ap (λ (ts : List Step). fold sees_server (server_of w) ts) steps
            ∙ ap (λ (s : ServerSeen). sees_server s t) same ∙ step_seen l rest time input f clock
            ∙ ap (λ (ss : List Sent). seen_as w did time (fold sent_after ss (l ∷ (rest ++ sent)))) (sym messages);
      }

  -- ---- what an action tells

  pub leads_read : time ≡ w.clock → Leads w i a → AreReadAs w did time (a.told ++ sent)
  unfolding sent_lines
  leads_read same (Silent told posts none) =
      let lines : a.told ++ sent ≡ [] =
      ap (λ (ls : List Line). ls ++ sent) told ∙ ap (λ (ps : List Post). sent_lines n ps) posts in
      subst (AreReadAs w did time) (sym lines)
      (subst (λ (k : ℕ). AreReadAs w did k []) (sym same)
      (subst (λ (j : Option Input). AreReadAs w (step_by w.server chosen j) w.clock []) (sym none) (none_read w)))
  leads_read same (Heads l rest told head clock input f) =
      subst (λ (ls : List Line). AreReadAs w did time (ls ++ sent)) (sym told)
      (headed_read l rest head (clock ∙ sym same) input f)

  pub opened_read : (e : Event) → leads e ≡ true → input_of e ≡ None → sees_server (server_of w) (alone e) ≡ server_of w
      → sent_after (view w) (line.Event e) ≡ view w → clock_after w.clock (line.Event e) ≡ time → time ≡ w.clock
      → Leads w i a
      → AreReadAs w did time (line.Event e ∷ (a.told ++ sent))
  opened_read e leading none alike messages clock same (Silent told posts nothing) =
      subst (λ (ls : List Line). AreReadAs w did time (line.Event e ∷ (ls ++ sent))) (sym told)
      (headed_read (line.Event e) [] refl clock (none ∙ sym nothing) tt)
  opened_read e leading none alike messages clock same (Heads l rest told head later input f) =
      subst (λ (ls : List Line). AreReadAs w did time (line.Event e ∷ (ls ++ sent))) (sym told)
      (led_read e l rest leading none alike messages head (later ∙ sym same) input f)

  pub pending_read : i ≡ None → time ≡ w.clock → IsPending a → AreReadAs w did time (a.told ++ sent)
  unfolding sent_lines
  pending_read none same p =
      subst (λ (k : ℕ). AreReadAs w did k (a.told ++ sent)) (sym same)
      (subst (λ (j : Option Input). AreReadAs w (step_by w.server chosen j) w.clock (a.told ++ sent)) (sym none)
      (subst (AreReadAs w None w.clock)
      (sym (ap (λ (ps : List Post). a.told ++ sent_lines n ps) p.0 ∙ append-nil a.told)) (pending_told w a.told p.1)))
