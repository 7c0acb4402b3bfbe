-- What a client's call writes is bytes: the text of a scenario names no others.
-- Towards `CallsGoOn` (`relation_law/specs/Steps.antt`).
use Rattle.std.proofs.Common.{◌≡◌, ◌<◌, ◌++◌, ℕ, true, List, [], ◌∷◌, Option, Some, None, Result, Ok, Err, IsSome, refl, sym, ap, subst, ◌∙◌, inl, inr, arith}
use Rattle.std.specs.List.{All}
use Rattle.std.specs.Prelude.{option_map, zero, suc}
use Rattle.std.proofs.lemmas.Bool.{cases_eq}
use Rattle.std.proofs.lemmas.Option.{same_Some}
use Rattle.osd_objects.proofs.Entries.{lookup_inserted, lookup_beside, lookup_set, lookup_set_beside}
use Rattle.scenario_text.specs.Parts.{AllFit}
use Rattle.scenario_text.specs.Spelling.{call_parts}
use Rattle.scenario_text.specs.declared.event.Call.{Call as TextCall}
use Rattle.scenario_text.specs.declared.event.Call.TheVariants as call
use Rattle.scenario_text.specs.declared.event.Event.TheVariants as event
use Rattle.scenario_text.specs.declared.event.Sender.TheVariants as sender
use Rattle.scenario_text.specs.declared.line.Line.{Line}
use Rattle.hex.specs.Hex.{IsBytes}
use Rattle.client_rules.specs.Calls.{bytes_of}
use Rattle.client_rules.specs.History.{Input, Calls, Hears, TimesOut, Leaves, Resends, step, unless_refused}
use Rattle.client_rules.specs.Messages.{Step}
use Rattle.client_rules.specs.Steps.{calls}
use Rattle.world_history.specs.ClientNames.{Client, Call, CallErr, CallOp, Outcome}
use Rattle.world_history.specs.State.{World, ClientAt, at_number, with_number, and_number}
use Rattle.world_history.specs.Handed.{op_in, pending_op}
use Rattle.world_history.specs.Moves.{Act, Action, Opens, TimesOut as TimesOutAt, acts, op_of}
use Rattle.world_history.specs.Sending.{Move, move}
use Rattle.world_history.specs.History.{OneEventMore}
use Rattle.history_law.specs.Moves.{ForClient, IsForClient, asked_in}
use Rattle.history_law.proofs.Moves.{each_act}
use Rattle.history_law.specs.BookMoments.{IsMoment, lines_in, with_event}
use Rattle.exchange_law.specs.Text.{AreOfText}
use Rattle.exchange_law.proofs.CountGrowing.{text_front, text_behind}
use Rattle.exchange_law.proofs.SlotMoments.{always}
use Rattle.exchange_law.proofs.PendingTurns.{EndsAs, turn_ends, calls_end}

-- what the call writes is bytes
abbrev pub IsSmall : CallOp → Type 0
IsSmall op = All (λ v. v < 256) (bytes_of op)

abbrev pub OpSmall : Option CallOp → Type 0
OpSmall None = Unit {0}
OpSmall (Some op) = IsSmall op

abbrev pub CallSmall : Option Call → Type 0
CallSmall None = Unit {0}
CallSmall (Some call) = IsSmall call.op

-- ---- the text

all_small : (xs : List ℕ) → IsBytes xs → All (λ v. v < 256) xs
all_small [] b k d low = absurd (omega (arith, low))
all_small (x ∷ xs) b zero d low = b zero
all_small (x ∷ xs) b (suc k) d low = all_small xs (λ j. b (suc j)) k d (omega (arith, low))

parts_small : (x : TextCall) → AllFit (call_parts x) → IsSmall (op_of x)
parts_small (call.Write f offset bytes) fit = all_small bytes fit.1.1.1.0
parts_small (call.Read f offset n) fit = λ k d low. absurd (omega (arith, low))

same_input : (p q : ForClient) → Some p ≡ Some q → p.input ≡ q.input
same_input p q e = let r : p ≡ q = cc e in ap (λ (z : ForClient). z.input) r

pub asked_small : (a : Action) (ls : List Line) → AreOfText (with_event a ls) → (c : ℕ) (op : CallOp) →
    asked_in a ≡ Some (record { number = c; input = Calls op }) → IsSmall op
asked_small (Opens (event.Do d x)) ls text c op e =
    let i : Calls (op_of x) ≡ Calls op =
    same_input (record { number = d; input = Calls (op_of x) }) (record { number = c; input = Calls op }) e in
    let same : op_of x ≡ op = cc i in
    subst IsSmall same (parts_small x text.0.1.1)
asked_small (Opens (event.Call d x)) ls text c op e =
    let i : Calls (op_of x) ≡ Calls op =
    same_input (record { number = d; input = Calls (op_of x) }) (record { number = c; input = Calls op }) e in
    let same : op_of x ≡ op = cc i in
    subst IsSmall same (parts_small x text.0.1.1)
asked_small (Opens (event.Resend (sender.Client d))) ls text c op e =
    let i : Resends ≡ Calls op =
    same_input (record { number = d; input = Resends }) (record { number = c; input = Calls op }) e in
    absurd (cc i)
asked_small (Opens (event.Timeout d n)) ls text c op e =
    let i : TimesOut n ≡ Calls op =
    same_input (record { number = d; input = TimesOut n }) (record { number = c; input = Calls op }) e in
    absurd (cc i)
asked_small (Opens (event.Leave d)) ls text c op e =
    let i : Leaves ≡ Calls op =
    same_input (record { number = d; input = Leaves }) (record { number = c; input = Calls op }) e in
    absurd (cc i)
asked_small (TimesOutAt d n) ls text c op e =
    let i : TimesOut n ≡ Calls op =
    same_input (record { number = d; input = TimesOut n }) (record { number = c; input = Calls op }) e in
    absurd (cc i)
asked_small a ls text c op e = absurd (cc e)

-- ---- a step

pub pending_small : (o : Option Call) → CallSmall o → OpSmall (option_map (λ (x : Call). x.op) o)
pending_small None k = tt
pending_small (Some call) k = k

by_end : (o : Option CallOp) (u : Option Outcome) (call : Option Call) → EndsAs o u call → OpSmall o → CallSmall call
by_end o None None e small = tt
by_end o None (Some call) e small = subst OpSmall (sym e) small
by_end o (Some u) call e small = rw e tt

step_small : (x : Client) (i : Input) → CallSmall x.call → ((op : CallOp) → i ≡ Calls op → IsSmall op) →
    CallSmall (step x i).client.call
step_small x (Calls op) small new = by_calls (calls x op) refl
  where
    by_calls : (r : Result Step CallErr) → calls x op ≡ r → CallSmall (unless_refused x r).client.call
    by_calls (Ok s) e = by_end (Some op) s.outcome s.client.call (calls_end x op s e) (new op refl)
    by_calls (Err why) e = small
step_small x (Hears from b) small new =
    by_end (pending_op x) (step x (Hears from b)).outcome (step x (Hears from b)).client.call
    (turn_ends x (Hears from b) (λ op e. cc e)) (pending_small x.call small)
step_small x (TimesOut n) small new =
    by_end (pending_op x) (step x (TimesOut n)).outcome (step x (TimesOut n)).client.call
    (turn_ends x (TimesOut n) (λ op e. cc e)) (pending_small x.call small)
step_small x Leaves small new =
    by_end (pending_op x) (step x Leaves).outcome (step x Leaves).client.call (turn_ends x Leaves (λ op e. cc e))
    (pending_small x.call small)
step_small x Resends small new = small

-- ---- at each moment

abbrev AllSmall : List (ℕ × ClientAt) → Type 0
AllSmall xs = (c : ℕ) (a : ClientAt) → at_number xs c ≡ Some a → CallSmall a.state.call

put_small : (xs : List (ℕ × ClientAt)) (k : ℕ) (a b : ClientAt) → at_number xs k ≡ Some a → AllSmall xs →
    CallSmall b.state.call → AllSmall (with_number xs k b)
put_small xs k a b there all small c x e = elim (cases_eq c k) [
  | inl same ↦
      let it : b ≡ x =
      same_Some b x
      (sym (lookup_set xs k b (subst IsSome (sym there) refl))
      ∙ ap (λ (n : ℕ). at_number (with_number xs k b) n) (sym same) ∙ e) in
      subst (λ (y : ClientAt). CallSmall y.state.call) it small
  | inr other ↦ all c x (sym (lookup_set_beside xs k c b other) ∙ e)
]

more_small : (xs : List (ℕ × ClientAt)) (k : ℕ) (b : ClientAt) → AllSmall xs → CallSmall b.state.call →
    AllSmall (and_number xs k b)
more_small xs k b all small c x e = elim (cases_eq c k) [
  | inl same ↦
      let it : b ≡ x =
      same_Some b x
      (sym (lookup_inserted xs k b) ∙ ap (λ (n : ℕ). at_number (and_number xs k b) n) (sym same) ∙ e) in
      subst (λ (y : ClientAt). CallSmall y.state.call) it small
  | inr other ↦ all c x (sym (lookup_beside xs k c b other) ∙ e)
]

-- a call that comes in a move is of its text
new_small : (w : World) (m : Move) → AreOfText (lines_in w m) → (c : ℕ) (a : ClientAt) (op : CallOp) →
    IsForClient w m.action c a (Calls op) → IsSmall op
new_small w m text c a op is = asked_small m.action (move w m).lines text c op is

move_small : (w : World) (m : Move) → AreOfText (lines_in w m) → AllSmall w.clients →
    AllSmall (acts w m.chosen m.action).world.clients
move_small w m text all = each_act w m.chosen (λ (a : Act). AllSmall a.world.clients) m.action (record {
  rests = λ ms said told quiet. all;
  refused = λ c a found op is e why. all;
  clock = λ time. all;
  serves = λ ms said i is. all;
  goes = λ ms said c a found i is.
      put_small w.clients c a _ found all
      (step_small a.state i (all c a found)
      (λ op e. new_small w m text c a op (subst (IsForClient w m.action c a) e is)));
  comes = λ c is. more_small w.clients c _ all tt;
  stops = λ c a found. put_small w.clients c a (record a { stopped = true }) found all (all c a found);
  judged = λ ms said d a found hears n number. all;
  injected = λ d bytes is a found. all;
  turns = λ d a b found t. all;
  known = λ d key capacity stored is knows. all;
  adds = λ d key capacity stored is knows. all;
})

pub calls_small : OneEventMore → (w : World) (h : List Line) → IsMoment w h → AreOfText h → AllSmall w.clients
calls_small more w h k =
    always (λ w h. AreOfText h → AllSmall w.clients) (record {
      starts = λ text c a e. absurd (cc e);
      moves = λ v g j m d x text. move_small v m (text_behind g (lines_in v m) text) (x (text_front g (lines_in v m) text));
    }) more w h k

-- So the call that a client's move is about writes bytes.
pub about_small : OneEventMore → (w : World) (h : List Line) → IsMoment w h → (m : Move) → AreOfText (h ++ lines_in w m) →
    (c : ℕ) (a : ClientAt) → at_number w.clients c ≡ Some a → (i : Input) → IsForClient w m.action c a i → (op : CallOp) →
    op_in a.state i ≡ Some op → IsSmall op
about_small more w h k m text c a found i is op about = by_input i is about
  where
    old : pending_op a.state ≡ Some op → IsSmall op
    old e =
        subst OpSmall e
        (pending_small a.state.call (calls_small more w h k (text_front h (lines_in w m) text) c a found))

    by_input : (j : Input) → IsForClient w m.action c a j → op_in a.state j ≡ Some op → IsSmall op
    by_input (Calls o) is_ e =
        let same : o ≡ op = cc e in
        subst IsSmall same (new_small w m (text_behind h (lines_in w m) text) c a o is_)
    by_input (Hears from b) is_ e = old e
    by_input (TimesOut n) is_ e = old e
    by_input Leaves is_ e = old e
    by_input Resends is_ e = old e
