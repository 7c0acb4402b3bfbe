-- The end of a fence, at each moment, and in the lines.
use Rattle.std.proofs.Common.{◌≡◌, ℕ, ◌<◌, ◌^◌, ◌&&◌, ◌||◌, not, nat_lt, Bool, true, false, ◌++◌, ◌∷◌, [], List, Some, None, length, refl, sym, ap, subst, ◌∙◌, append_assoc, arith, inl, inr}
use Rattle.std.proofs.lemmas.Bool.{cases_lt}
use Rattle.std.proofs.lemmas.Bool.Decides.{nat_tests}
use Rattle.std.proofs.lemmas.List.{append-nil}
use Rattle.server_rules.specs.Laws.{In}
use Rattle.scenario_text.specs.declared.event.Event.{Event}
use Rattle.scenario_text.specs.declared.line.Note.TheVariants as note
use Rattle.scenario_text.specs.declared.line.Line.{Line}
use Rattle.scenario_text.specs.declared.line.Line.TheVariants as line
use Rattle.world_history.specs.State.{World}
use Rattle.world_history.specs.Moves.{Action, Opens, Delivers, TimesOut, Pends, acts}
use Rattle.world_history.specs.Sending.{Move, move, sent_lines}
use Rattle.world_history.specs.Plans.{due, plan_of}
use Rattle.world_history.specs.Runs.{world_after, AreDue}
use Rattle.world_history.specs.Refusals.{refusal}
use Rattle.world_history.specs.History.{StandsFor}
use Rattle.history_law.specs.Spent.{Spends}
use Rattle.history_law.proofs.Each.{EachBehind, HoldsAt, each_front}
use Rattle.history_law.proofs.Histories.{stands, kept_part, lawful}
use Rattle.history_law.proofs.Moments.{so_far_more}
use Rattle.history_law.proofs.DriveEvents.{IsRead, kept}
use Rattle.history_law.proofs.Spending.{all_spend}
use Rattle.history_law.specs.BookMoments.{IsMoment, with_event, lines_so_far, lines_in, plan_at}
use Rattle.world_history.proofs.Runs.{due_more, world_more}
use Rattle.server_rules.proofs.Members.{in_either}
use Rattle.history_law.specs.Reaching.{is_spellable, OwnAt}
use Rattle.history_law.specs.Fenced.{FencesEnd, ReachedRefuses}
use Rattle.history_law.proofs.FencingMoves.{moved}
use Rattle.history_law.proofs.Reaching.{reached_spent}
use Rattle.history_law.proofs.Holding.{Holds, holds, ends_told, no_note}

-- ---- the next moment

pub next_moment : (w : World) (h : List Line) (k : IsMoment w h) (m : Move) → due (plan_at k) w ≡ Some m.action
    → IsMoment (move w m).world (h ++ lines_in w m)
next_moment w h k m d =
    let there : due (plan_at k) (world_after k.before k.moves) ≡ Some m.action =
    subst (λ (x : World). due (plan_at k) x ≡ Some m.action) k.world_is d in
    record {
      before = k.before;
      history = k.history;
      stands = k.stands;
      event = k.event;
      allowed = k.allowed;
      moves = k.moves ++ m ∷ [];
      are_due = due_more (plan_of k.before k.event) k.before k.moves m k.are_due there;
      world_is = ap (λ (x : World). (move x m).world) k.world_is ∙ sym (world_more k.before k.moves m);
      lines_are =
          ap (λ (x : World). h ++ lines_in x m) k.world_is
          ∙ ap (λ (ls : List Line). ls ++ lines_in (world_after k.before k.moves) m) k.lines_are
          ∙ append_assoc k.history (lines_so_far k.before k.event k.moves) _
          ∙ ap (λ (ls : List Line). k.history ++ ls) (sym (so_far_more k.before k.event k.moves m there));
    }

-- ---- at each moment

pub at_moves : (v : World) (h : List Line) (e : Event) (ms : List Move) → StandsFor v h → refusal v e ≡ None
    → AreDue (plan_of v e) v ms → Holds (world_after v ms) (h ++ lines_so_far v e ms)
at_moves v h e [] s allowed d = subst (Holds v) (sym (append-nil h)) (stands Holds holds v h s)
at_moves v h e (m ∷ ms) s allowed d = kept_part Holds holds v h e m ms d allowed (stands Holds holds v h s)

pub at_moment : (w : World) (h : List Line) → IsMoment w h → Holds w h
at_moment w h k =
    subst (λ (v : World). Holds v h) (sym k.world_is)
    (subst (Holds (world_after k.before k.moves)) (sym k.lines_are)
    (at_moves k.before k.history k.event k.moves k.stands k.allowed k.are_due))

pub own_each : (first lines : List Line)
    → ((before : List Line) (l : Line) (after : List Line) → first ++ lines ≡ before ++ l ∷ after → OwnAt before l)
    → EachBehind OwnAt first lines
own_each first [] own = tt
own_each first (l ∷ lines) own = (
  own first l lines refl,
  own_each (first ++ l ∷ []) lines (λ before m after is. own before m after (sym (append_assoc first (l ∷ []) lines)
      ∙ is)),
)

told_in : (a : Action) (ls sent : List Line) (n tag : ℕ) → ((f t : ℕ) → In (line.Note f (note.Fenced t)) sent → ⊥)
    → In (line.Note n (note.Fenced tag)) (with_event a (ls ++ sent)) → In (line.Note n (note.Fenced tag)) ls
told_in a ls sent n tag none i = elim (in_either (line.Note n (note.Fenced tag)) ls sent (behind a i)) [
  | inl told ↦ told
  | inr other ↦ absurd (none n tag other)
]
  where
    behind : (b : Action) → In (line.Note n (note.Fenced tag)) (with_event b (ls ++ sent))
        → In (line.Note n (note.Fenced tag)) (ls ++ sent)
    behind (Opens e) (inl x) = absurd (cc x)
    behind (Opens e) (inr j) = j
    behind (Delivers number) j = j
    behind (TimesOut c component) j = j
    behind (Pends c) j = j

pub fences_end : FencesEnd
fences_end w h k m d own n tag i =
    let a = acts w m.chosen m.action in
    let read : IsRead (move w m).world (h ++ lines_in w m) = (at_moment _ _ (next_moment w h k m d)).read in
    let e = ends_told w h (lines_in w m) (at_moment w h k) (move w m).world read
    (own_each [] (h ++ lines_in w m) own) a.told a.posts (moved w m) n tag
    (told_in m.action a.told (sent_lines (length a.world.network.messages) a.posts) n tag
    (no_note (length a.world.network.messages) a.posts) i) in
    record { file = e.0; there = e.1; number_is = e.2; tag_is = e.3; raised = e.4 }

-- ---- from then on

-- what was reached, as far as the numbers fit their places
pub fits_reached : (object tag : ℕ) (o : Bool) → object < 2 ^ 64 → tag < 2 ^ 32
    → (not (is_spellable object tag) || o) ≡ true → o ≡ true
fits_reached object tag o object_fits tag_fits e =
    sym (ap (λ (b : Bool). not b || o) (both (nat_lt object (2 ^ 64)) (nat_lt tag (2 ^ 32))
    (less object (2 ^ 64) object_fits) (less tag (2 ^ 32) tag_fits))) ∙ e
  where
    less : (m n : ℕ) → m < n → nat_lt m n ≡ true
    less m n l = grind (arith, l, nat_tests)

    both : (a b : Bool) → a ≡ true → b ≡ true → (a && b) ≡ true
    both true b x y = y
    both false b x y = absurd (cc x)

pub reached_refuses : ReachedRefuses
reached_refuses h l first middle after m is drive object tag object_fits tag_fits reached bytes c j read own =
    elim (cases_lt c.capability.tag tag) [
      | inl less ↦
          let further = lawful IsRead kept h l in
          let s : Spends h = all_spend h (each_front HoldsAt [] h further.1 further.2.lines) in
          absurd (s.refuses (first ++ middle) m drive bytes c j read
          (s.stays first middle (m ∷ after) is drive c
          (reached_spent _ object tag c (fits_reached object tag _ object_fits tag_fits reached) own less)))
      | inr from ↦ from
    ]
