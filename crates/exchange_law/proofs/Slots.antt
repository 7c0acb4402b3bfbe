-- No line says that a call is refused since its client has no sequence number left.
use Rattle.std.specs.List.{AllByRecursion, cons_option, filter_map}
use Rattle.std.proofs.Common.{◌≡◌, ◌==◌, ◌||◌, ◌&&◌, ℕ, ◌+◌, ◌-◌, ◌≤◌, ◌++◌, ◌∷◌, [], List, Bool, true, false, Option, Some, None, Result, Ok, Err, is_some, length, nat_lt, refl, sym, subst, ◌∙◌, arith, if◌then◌else◌}
use Rattle.std.proofs.lemmas.Bool.Decides.{nat_tests}
use Rattle.server_rules.specs.History as server_input
use Rattle.client_rules.specs.declared.limits.TheConstants.{GREATEST_SEQUENCE, SPARE_REQUESTS}
use Rattle.client_rules.specs.Calls.{span_of}
use Rattle.client_rules.specs.Messages.{Step as ClientStep}
use Rattle.client_rules.specs.Steps.{is_bad_range, is_spent, starts, calls}
use Rattle.client_rules.specs.History.{step}
use Rattle.scenario_text.specs.declared.line.Delivery.{Delivery}
use Rattle.scenario_text.specs.declared.names.TheConstants.{FILES}
use Rattle.scenario_text.specs.declared.line.Outcome.{Outcome}
use Rattle.scenario_text.specs.declared.line.Refusal.TheVariants as refusal
use Rattle.scenario_text.specs.declared.line.Line.{Line}
use Rattle.scenario_text.specs.declared.line.Line.TheVariants as line
use Rattle.world_history.specs.declared.limits.TheConstants.{MAX_KEPT}
use Rattle.world_history.specs.ServerNames as server_rules
use Rattle.world_history.specs.ClientNames as client_rules
use Rattle.world_history.specs.ClientNames.{Client}
use Rattle.world_history.specs.State.{ClientAt, World, at_number}
use Rattle.world_history.specs.Told.{kind_of, told_refusal}
use Rattle.world_history.specs.Names.{where_known, note_line, is_tellable_note, known_note_line, known_outcome}
use Rattle.world_history.specs.Handed.{Post, op_in, end_line, ended_by}
use Rattle.world_history.specs.Moves.{Act, Action, acts}
use Rattle.world_history.specs.Sending.{Move, move, sent_lines}
use Rattle.history_law.specs.Moves.{AreQuiet, front_of, MoveCases}
use Rattle.history_law.proofs.Moves.{front_cases, each_act}
use Rattle.history_law.proofs.Each.{EachBehind, each_more, each_front, at_each_line}
use Rattle.world_history.proofs.Always.{opening, IsKept}
use Rattle.history_law.proofs.Histories.{lawful}
use Rattle.history_law.proofs.DriveEvents.{IsRead, kept as all_read}
use Rattle.exchange_law.specs.Text.{AreFew}
use Rattle.exchange_law.specs.Refused.{HasSlot, NoSlotIsSpent}
use Rattle.exchange_law.proofs.ClientMoves.{InWorld, none_there, move_goes}
use Rattle.exchange_law.proofs.ClientsCounted.{Fits, fits_kept}
use Rattle.exchange_law.proofs.CountGrowing.{as_many, fewer, each_few}

-- ---- what is told

abbrev Fine : Line → Type 0
Fine l = HasSlot [] l

abbrev AreFine : List Line → Type 0
AreFine ls = AllByRecursion Fine ls

note_fine : (known : Bool) (n : server_rules.Note) (ls : List Line) → AreFine ls
    → AreFine (cons_option (where_known known (note_line n)) ls)
note_fine true n ls s = (tt, s)
note_fine false n ls s = s

notes_fine : (ns : List server_rules.Note) → AreFine (filter_map known_note_line ns)
notes_fine [] = tt
notes_fine (n ∷ ns) =
    note_fine (nat_lt n.file FILES && is_tellable_note n.kind) n (filter_map known_note_line ns) (notes_fine ns)

end_fine : (c : ℕ) (o : Option Outcome) → AreFine (end_line c o)
end_fine c None = tt
end_fine c (Some o) = (tt, tt)

ended_fine : (c : ℕ) (op : Option client_rules.CallOp) (o : Option client_rules.Outcome) → AreFine (ended_by c op o)
ended_fine c None o = tt
ended_fine c (Some op) None = tt
ended_fine c (Some op) (Some o) = end_fine c (known_outcome (kind_of op) o)

sent_fine : (n : ℕ) (ps : List Post) → AreFine (sent_lines n ps)
unfolding sent_lines
sent_fine n [] = tt
sent_fine n (p ∷ ps) = (tt, sent_fine (n + 1) ps)

more_fine : (xs ys : List Line) → AreFine xs → AreFine ys → AreFine (xs ++ ys)
more_fine [] ys f g = g
more_fine (x ∷ xs) ys f g = (f.0, more_fine xs ys f.1 g)

-- ---- a call

-- some sequence number is left
abbrev HasNumber : Client → Type 0
HasNumber c = is_spent c.next ≡ false

same_error : (x e : client_rules.CallErr) (r : Result ClientStep client_rules.CallErr) → r ≡ Err x → r ≡ Err e → x ≡ e
same_error x e r is too = cc (sym is ∙ too)

refused_fine : (c : ℕ) (a b : Bool) (s : ClientStep) (e : client_rules.CallErr)
    → (if a then Err client_rules.Busy else if b then Err client_rules.BadRange else Ok s) ≡ Err e
    → Fine (line.Refused c (told_refusal e))
refused_fine c true b s e is =
    subst (λ (x : client_rules.CallErr). Fine (line.Refused c (told_refusal x))) (same_error client_rules.Busy e _ refl is) tt
refused_fine c false true s e is =
    subst (λ (x : client_rules.CallErr). Fine (line.Refused c (told_refusal x))) (same_error client_rules.BadRange e _ refl is)
    tt
refused_fine c false false s e is = absurd (cc is)

left_out : (c : Client) (op : client_rules.CallOp) (spent : Bool) → spent ≡ false
    → (if is_some c.call then Err client_rules.Busy else if is_bad_range (span_of op) then Err client_rules.BadRange
    else if spent then Err client_rules.SlotSpent else Ok (starts c op))
    ≡ (if is_some c.call then Err client_rules.Busy else if is_bad_range (span_of op) then Err client_rules.BadRange
    else Ok (starts c op))
left_out c op spent e = rw e refl

called_fine : (c : ℕ) (a : ClientAt) (op : client_rules.CallOp) (e : client_rules.CallErr) → calls a.state op ≡ Err e
    → HasNumber a.state → Fine (line.Refused c (told_refusal e))
unfolding calls
called_fine c a op e is has =
    refused_fine c (is_some a.state.call) (is_bad_range (span_of op)) (starts a.state op) e
    (sym (left_out a.state op (is_spent a.state.next) has) ∙ is)

-- ---- each action

fronts_fine : (action : Action) (d : Delivery) (ls : List Line) → AreFine ls → AreFine (front_of action d ++ ls)
fronts_fine action d ls f =
    front_cases (λ (front : List Line). AreFine (front ++ ls)) f (λ number x. (tt, f)) (λ c k. (tt, f)) action d

quiet_fine : (ls : List Line) → AreQuiet ls → AreFine ls
quiet_fine [] q = tt
quiet_fine (line.Refused c refusal.SlotSpent ∷ ls) q = absurd q.0
quiet_fine (l ∷ ls) q = (tt, quiet_fine ls q.1)

abbrev TellsFine : Act → Type 0
TellsFine a = AreFine a.told

module _ (w : World) (has : (c : ℕ) (a : ClientAt) → at_number w.clients c ≡ Some a → HasNumber a.state) where
  cases : (chosen : List ℕ) (action : Action) → MoveCases w chosen action TellsFine
  cases chosen action = record {
    rests = λ ms said told quiet. quiet_fine told quiet;
    refused = λ c a found op is e why. (called_fine c a op e why (has c a found), tt);
    clock = λ time. tt;
    serves = λ ms said i is. fronts_fine action _ _ (notes_fine (server_input.step w.server chosen i).notes);
    goes = λ ms said c a found i is.
        fronts_fine action _ _ (ended_fine c (op_in a.state i) (step a.state i).outcome);
    comes = λ c is. tt;
    stops = λ c a found. tt;
    judged = λ ms said d a found hears m number. (tt, tt);
    injected = λ d bytes is a found. (tt, tt);
    turns = λ d a b found turns. tt;
    known = λ d key capacity stored is knows. tt;
    adds = λ d key capacity stored is knows. tt;
  }

  acts_fine : (chosen : List ℕ) (action : Action) → AreFine (acts w chosen action).told
  acts_fine chosen action = each_act w chosen TellsFine action (cases chosen action)

-- ---- each moment

has_number : (n : ℕ) (c : Client) → n ≤ MAX_KEPT → Fits n c → HasNumber c
has_number n c few f = either (c.next == 0) (nat_lt (GREATEST_SEQUENCE - SPARE_REQUESTS) (c.next - 1)) refl refl
  where
    either : (a b : Bool) → (c.next == 0) ≡ a → nat_lt (GREATEST_SEQUENCE - SPARE_REQUESTS) (c.next - 1) ≡ b
        → (a || b) ≡ false
    either true b is too =
        let zero : c.next ≡ 0 = grind (arith, is, nat_tests) in
        absurd (omega (arith, few, f.counts.requests.spent zero))
    either false true is too = absurd (grind (arith, too, nat_tests, few, f.counts.requests.few))
    either false false is too = refl

record IsFine (w : World) (h : List Line) : Type 0 where
  read : IsRead w h
  clients : InWorld Fits w
  lines : EachBehind (λ (before : List Line) (l : Line). AreFew before → Fine l) [] h

move_fine : (w : World) (h : List Line) (k : IsFine w h) (m : Move) → AreFew h → AreFine (move w m).lines
move_fine w h k m few =
    more_fine (acts w m.chosen m.action).told _
    (acts_fine w (λ c a found. has_number (length w.network.messages) a.state
    (let many = as_many w h k.read in omega (arith, many, few)) (k.clients c a found)) m.chosen m.action)
    (sent_fine _ (acts w m.chosen m.action).posts)

all_fine : IsKept IsFine
all_fine = record {
  starts = record { read = all_read.starts; clients = none_there Fits fits_kept; lines = tt };
  opens =
      λ w h e chosen k allowed. record {
        read = all_read.opens w h e chosen k.read allowed;
        clients = move_goes Fits fits_kept w (opening e chosen) k.clients;
        lines =
            each_more _ [] h (line.Event e ∷ (move w (opening e chosen)).lines) k.lines
            (each_few Fine h (line.Event e ∷ (move w (opening e chosen)).lines)
            (λ few. (tt, move_fine w h k (opening e chosen) few)));
      };
  moves =
      λ w h r m k due. record {
        read = all_read.moves w h r m k.read due;
        clients = move_goes Fits fits_kept w m k.clients;
        lines = each_more _ [] h (move w m).lines k.lines (each_few Fine h (move w m).lines (move_fine w h k m));
      };
}

fine_slot : (before : List Line) (l : Line) → Fine l → HasSlot before l
fine_slot before (line.Refused c refusal.SlotSpent) f = f
fine_slot before (line.Refused c refusal.Busy) f = tt
fine_slot before (line.Refused c refusal.BadRange) f = tt
fine_slot before l f = tt

pub no_slot_is_spent : NoSlotIsSpent
no_slot_is_spent h l few before x after is =
    let more = lawful IsFine all_fine h l in
    fine_slot before x
    (at_each_line _ h (each_front _ [] h more.1 more.2.lines) before x after is
    (fewer before (x ∷ after) (subst AreFew is few)))
