-- At each moment one run of the server sent what the server sent to drives.
use Rattle.std.proofs.Common.{◌≡◌, ℕ, Bool, true, false, ◌++◌, ◌∷◌, [], List, Some, inl, inr, refl, sym, ap, subst, ◌∙◌}
use Rattle.scenario_text.specs.declared.line.Line.{Line}
use Rattle.server_rules.specs.History.{Act as ServerAct, state_after, step}
use Rattle.server_rules.specs.Laws.{In}
use Rattle.server_rules.specs.Making.{new_server}
use Rattle.server_rules.proofs.Members.{in_front, in_behind, in_either}
use Rattle.history_law.specs.Names.{Server, Command, Outgoing, ToDrive}
use Rattle.component_law.specs.Words.{Each}
use Rattle.world_history.specs.History.{OneEventMore}
use Rattle.world_history.specs.declared.messages.Message.{Message}
use Rattle.world_history.specs.State.{World, empty_world}
use Rattle.world_history.specs.Moves.{Act, Action, Opens, Delivers, TimesOut, Pends, acts}
use Rattle.world_history.specs.Sending.{Move, move}
use Rattle.world_history.specs.Plans.{due}
use Rattle.history_law.specs.BookMoments.{IsMoment, with_event, lines_in, plan_at}
use Rattle.history_law.proofs.Running.{server_more}
use Rattle.exchange_law.specs.Doing.{said, posted}
use Rattle.history_law.specs.Moves.{down_behind}
use Rattle.history_law.proofs.Goes.{moves_are_steps}
use Rattle.exchange_law.proofs.SlotLists.{said_more}
use Rattle.exchange_law.proofs.SlotMoments.{always}
use Rattle.component_law.specs.Naming.{IsNamed, IsNamedInput, AreNamed}
use Rattle.component_law.proofs.Lists.{each_end}
use Rattle.component_law.proofs.NextMoves.{first_begun}
use Rattle.component_law.specs.Tagged.{sent_over}
use Rattle.component_law.specs.Turns.{in_turn, AreInTurn, down_after}
use Rattle.component_law.specs.Sent.{commanded, IsSentByRun, ServerSentItsRun}
use Rattle.component_law.proofs.Doing.{Tells, Does, Rests, Serves, IsNamedAction, IsAllowed, does}

-- ---- lists

pub each_first : {A : Type 0} (P : A → Type 0) (xs ys : List A) → Each P (xs ++ ys) → Each P xs
each_first P [] ys k = tt
each_first P (x ∷ xs) ys k = (k.0, each_first P xs ys k.1)

pub each_second : {A : Type 0} (P : A → Type 0) (xs ys : List A) → Each P (xs ++ ys) → Each P ys
each_second P [] ys k = k
each_second P (x ∷ xs) ys k = each_second P xs ys k.1

-- ---- a run with one act more

sent_before : (s : Server) (run : List ServerAct) (a : ServerAct) (o : Outgoing) → In o (sent_over s run)
    → In o (sent_over s (run ++ a ∷ []))
unfolding sent_over
sent_before s [] a o i = absurd i
sent_before s (b ∷ run) a o i = elim (in_either o (step s b.chosen b.input).sends _ i) [
  | inl j ↦ in_front o (step s b.chosen b.input).sends _ j
  | inr j ↦ in_behind o (step s b.chosen b.input).sends _ (sent_before (step s b.chosen b.input).state run a o j)
]

sent_last : (s : Server) (run : List ServerAct) (a : ServerAct) (o : Outgoing)
    → In o (step (state_after s run) a.chosen a.input).sends → In o (sent_over s (run ++ a ∷ []))
unfolding sent_over
sent_last s [] a o i = in_front o (step s a.chosen a.input).sends [] i
sent_last s (b ∷ run) a o i =
    in_behind o (step s b.chosen b.input).sends _ (sent_last (step s b.chosen b.input).state run a o i)

-- ---- a move

abbrev Stand : World → List Line → Type 0
Stand w h = AreNamed h → IsSentByRun w

pub named_action : (action : Action) (ls : List Line) → AreNamed (with_event action ls) → IsNamedAction action
named_action (Opens e) ls named = named.0
named_action (Delivers number) ls named = tt
named_action (TimesOut c component) ls named = tt
named_action (Pends c) ls named = tt

-- where an event begins, it isn't refused
pub allowed_at : (w : World) (h : List Line) (k : IsMoment w h) (action : Action) → due (plan_at k) w ≡ Some action
    → IsAllowed w action
allowed_at w h k (Opens e) d = (first_begun w h k e d).allowed
allowed_at w h k (Delivers number) d = tt
allowed_at w h k (TimesOut c component) d = tt
allowed_at w h k (Pends c) d = tt

-- ---- a run in turn with one act more

turns_last : (down : Bool) (run : List ServerAct) (a : ServerAct) → AreInTurn down run
    → in_turn (down_after down run) a.input ≡ true → AreInTurn down (run ++ a ∷ [])
turns_last down [] a all last = (last, tt)
turns_last down (b ∷ run) a all last = (all.0, turns_last (down_behind down b.input) run a all.1 last)

down_last : (down : Bool) (run : List ServerAct) (a : ServerAct)
    → down_after down (run ++ a ∷ []) ≡ down_behind (down_after down run) a.input
down_last down [] a = refl
down_last down (b ∷ run) a = down_last (down_behind down b.input) run a

module _ (w : World) (m : Move) (s : IsSentByRun w) where
  abbrev a : Act
  a = acts w m.chosen m.action

  abbrev v : World
  v = (move w m).world

  all_said : said v.network.messages ≡ said w.network.messages ++ posted a.posts
  all_said =
      said_more a.world.network.messages a.posts
      ∙ ap (λ (ms : List Message). ms ++ posted a.posts) (moves_are_steps w m.chosen m.action).said

  told : (d : ℕ) (c : Command) (run : List ServerAct) (os : List Outgoing) → Tells a.posts os
      → (In (ToDrive d c) (sent_over (new_server []) s.acts) → In (ToDrive d c) (sent_over (new_server []) run))
      → (In (ToDrive d c) os → In (ToDrive d c) (sent_over (new_server []) run))
      → In (commanded d c) (said v.network.messages) → In (ToDrive d c) (sent_over (new_server []) run)
  told d c run os tells old new i =
      elim (in_either (commanded d c) (said w.network.messages) (posted a.posts)
      (subst (λ (ms : List Message). In (commanded d c) ms) all_said i)) [
        | inl j ↦ old (s.sends d c j)
        | inr j ↦ new (tells d c j)
      ]

  by_does : Does w m.chosen a → IsSentByRun v
  by_does (Rests same as_down tells) = record {
    acts = s.acts;
    server = same ∙ s.server;
    named = s.named;
    turns = s.turns;
    down = s.down ∙ sym as_down;
    sends = λ d c i. told d c s.acts [] tells (λ j. j) (λ j. absurd j) i;
  }
  by_does (Serves i comes goes as_down tells) =
      let act : ServerAct = record { input = i; chosen = m.chosen } in
      record {
        acts = s.acts ++ act ∷ [];
        server =
            goes ∙ ap (λ (x : Server). (step x m.chosen i).state) s.server
            ∙ sym (server_more (new_server []) s.acts act);
        named = each_end (λ (x : ServerAct). IsNamedInput x.input) s.acts act s.named comes.named;
        turns =
            turns_last false s.acts act s.turns
            (subst (λ (b : Bool). in_turn b i ≡ true) (sym s.down) comes.turn);
        down =
            down_last false s.acts act ∙ ap (λ (b : Bool). down_behind b i) s.down ∙ sym as_down;
        sends = λ d c j. told d c (s.acts ++ act ∷ []) (step w.server m.chosen i).sends tells
            (λ k. sent_before (new_server []) s.acts act (ToDrive d c) k)
            (λ k. sent_last (new_server []) s.acts act (ToDrive d c)
            (subst (λ (x : Server). In (ToDrive d c) (step x m.chosen i).sends) s.server k)) j;
      }

moved : (w : World) (h : List Line) (k : IsMoment w h) (m : Move) → due (plan_at k) w ≡ Some m.action → Stand w h
    → Stand (move w m).world (h ++ lines_in w m)
moved w h k m d before named =
    by_does w m (before (each_first IsNamed h (lines_in w m) named))
    (does w m.chosen m.action
    (named_action m.action (move w m).lines (each_second IsNamed h (lines_in w m) named))
    (allowed_at w h k m.action d))

first : Stand empty_world []
first named = record {
  acts = [];
  server = refl;
  named = tt;
  turns = tt;
  down = refl;
  sends = λ d c i. absurd i;
}

pub server_sent_its_run : OneEventMore → ServerSentItsRun
server_sent_its_run more w h k =
    always Stand (record { starts = first; moves = λ u g j m d p. moved u g j m d p }) more w h k
