-- Pending calls stay tied to the entries where the machine's clients and the world's stay as they are.
-- Towards `CutsKeepEntries` (`specs/EntriesTied.antt`).
use Rattle.std.proofs.Common.{◌≡◌, ◌==◌, true, ◌<◌, ℕ, Bool, List, Option, Some, None, refl, sym, ap, subst, ◌∙◌, inl, inr}
use Rattle.std.proofs.lemmas.Bool.{cases_lt, true≢false}
use Rattle.client_rules.specs.Calls.{file_of}
use Rattle.layout_ops.specs.declared.messages.Request.{Request}
use Rattle.scenario_text.specs.declared.line.Line.{Line}
use Rattle.server_rules.specs.Laws.{In}
use Rattle.server_rules.specs.Slots.{slot_of}
use Rattle.world_history.specs.ClientNames.{Client, Call, Need, First, Get, Commit, Report, Close, Phase, Starts, Needs, Waits, Reads, Probes, Gathers, Scatters}
use Rattle.world_history.specs.ReadLog.{entry_in, log_in}
use Rattle.world_history.specs.ServerNames.{Server}
use Rattle.world_history.specs.State.{World, at_number}
use Rattle.fence_law.specs.Machine.{after, after_all}
use Rattle.fence_law.specs.Starts.{repair_start, rebuilt_start}
use Rattle.fence_law.specs.State as machine
use Rattle.fence_law.specs.State.{State, Event, Grant, Start}
use Rattle.fence_law.specs.State.Event.{SetsTag, Performs, Shows, Fails, Repairs, Rebuilds}
use Rattle.fence_law.specs.Words.{In as InRun}
use Rattle.file_simulation.specs.EventLists.{write_of, entry_of, entry_in as at_entry}
use Rattle.file_simulation.specs.Relation.{client_of}
use Rattle.file_simulation.specs.Showing.{Pairs}
use Rattle.file_simulation.specs.Tied.{IsOver, CallTied, NeedTied, PhaseTied, HasAsked, AreTied}
use Rattle.headline_law.specs.Parts.{HasPairs}
use Rattle.relation_law.specs.Frames.{AreAll}
use Rattle.relation_law.proofs.CallsFrames.{last_more}
use Rattle.relation_law.proofs.FramesStay.{related_by_all}
use Rattle.headline_law.proofs.EntriesPairs.{EntriesStay}
use Rattle.headline_law.proofs.EntriesRest.{phase_stays}

-- ---- the machine

-- an event of a drive, or a rebuild that ends
abbrev pub IsAside : Event → Type 0
IsAside (SetsTag k) = Unit {0}
IsAside (Performs m) = Unit {0}
IsAside (Shows j k) = Unit {0}
IsAside (Fails k) = Unit {0}
IsAside (Repairs k cells e) = Unit {0}
IsAside (Rebuilds k cells) = Unit {0}
IsAside e = ⊥

-- The machine's clients and its answers are as they were.
abbrev pub Rests : (s t : State) → Type 0
Rests s t = record {
  held : t.held ≡ s.held;
  waiting : t.waiting ≡ s.waiting;
  sequence : t.sequence ≡ s.sequence;
  answers : t.answers ≡ s.answers;
  call : t.call ≡ s.call;
  write : (c : ℕ) → write_of t c ≡ write_of s c;
}

rests_same : (s : State) → Rests s s
rests_same s = record {
  held = refl;
  waiting = refl;
  sequence = refl;
  answers = refl;
  call = refl;
  write = λ c. refl;
}

rests_more : (s t u : State) → Rests s t → Rests t u → Rests s u
rests_more s t u a b = record {
  held = b.held ∙ a.held;
  waiting = b.waiting ∙ a.waiting;
  sequence = b.sequence ∙ a.sequence;
  answers = b.answers ∙ a.answers;
  call = b.call ∙ a.call;
  write = λ c. b.write c ∙ a.write c;
}

rests_one : (s : State) (e : Event) → IsAside e → Rests s (after s e)
rests_one s (SetsTag k) a = rests_same s
rests_one s (Performs m) a =
    record { held = refl; waiting = refl; sequence = refl; answers = refl; call = refl; write = λ c. refl }
rests_one s (Shows j k) a =
    record { held = refl; waiting = refl; sequence = refl; answers = refl; call = refl; write = λ c. refl }
rests_one s (Fails k) a = record { held = refl; waiting = refl; sequence = refl; answers = refl; call = refl; write = λ c. refl }
rests_one s (Repairs k cells e) a = record {
  held = refl;
  waiting = refl;
  sequence = refl;
  answers = refl;
  call = refl;
  write = λ c. last_more s (repair_start s k cells e) c refl;
}
rests_one s (Rebuilds k cells) a = record {
  held = refl;
  waiting = refl;
  sequence = refl;
  answers = refl;
  call = refl;
  write = λ c. last_more s (rebuilt_start s k cells) c refl;
}
rests_one s e a = absurd a

pub rests_all : (s : State) (es : List Event) → AreAll IsAside es → Rests s (after_all s es)
rests_all s es a = related_by_all IsAside Rests rests_same rests_more rests_one s es a

-- a call is tied still, where the machine's client is at the same
pub call_stays : (s t : State) (file c : ℕ) (pairs : Pairs) (o : Option ℕ) (x : Option Call) → write_of t c ≡ write_of s c →
    entry_of t c ≡ entry_of s c → CallTied s file c pairs o x → CallTied t file c pairs o x
call_stays s t file c pairs o None write at_ k = tt
call_stays s t file c pairs o (Some call) write at_ k = λ here.
    phase_stays s t c pairs o call.phase write (λ works. at_) (k here)

-- and with more pairs
need_more : (s : State) (c : ℕ) (pairs more : Pairs) (o : Option ℕ) (n : Need) → HasPairs pairs more →
    NeedTied s c pairs o n → NeedTied s c more o n
need_more s c pairs more o First has k = k
need_more s c pairs more o (Get tries) has k = k
need_more s c pairs more o (Commit timed) has k = (k.0, k.1, has k.0 (write_of s c) k.2)
need_more s c pairs more o (Report timed) has k = (k.0, k.1, has k.0 (write_of s c) k.2)
need_more s c pairs more o (Close outcome report) has k = k

phase_more : (s : State) (c : ℕ) (pairs more : Pairs) (o : Option ℕ) (p : Phase) → HasPairs pairs more →
    PhaseTied s c pairs o p → PhaseTied s c more o p
phase_more s c pairs more o Starts has k = k
phase_more s c pairs more o (Needs n) has k = need_more s c pairs more o n has k
phase_more s c pairs more o (Waits n) has k = need_more s c pairs more o n has k
phase_more s c pairs more o (Reads io) has k = (k.0, k.1, has k.0 (entry_of s c) k.2)
phase_more s c pairs more o (Probes io) has k = (k.0, k.1, has k.0 (entry_of s c) k.2)
phase_more s c pairs more o (Gathers io) has k = k
phase_more s c pairs more o (Scatters io queue) has k = (k.0, k.1, has k.0 (write_of s c) k.2)

pub call_more : (s : State) (file c : ℕ) (pairs more : Pairs) (o : Option ℕ) (x : Option Call) → HasPairs pairs more →
    CallTied s file c pairs o x → CallTied s file c more o x
call_more s file c pairs more o None has k = tt
call_more s file c pairs more o (Some call) has k = λ here. phase_more s c pairs more o call.phase has (k here)

-- a grant that is over is over still
pub over_rests : (w : World) (s t : State) (number : ℕ) → EntriesStay s t → Rests s t → IsOver w s number → IsOver w t number
over_rests w s t number stay r k = record {
  low = k.low;
  acknowledged = λ j l write under. elim (cases_lt j s.count) [
    | inl below ↦
        stay.acknowledged j below
        ∙ k.acknowledged j below (sym (ap (λ (e : Start). e.is_write) (stay.start j below)) ∙ write)
        (sym (ap (λ (e : Start). e.grant) (stay.start j below)) ∙ under)
    | inr high ↦ absurd (true≢false (sym write ∙ (stay.passed j high l).write))
  ];
  unheld = λ c x has. k.unheld c x (sym (ap (λ (f : ℕ → Option Grant). f c) r.held) ∙ has);
  untaken = λ c size x waits i.
      k.untaken c size x (sym (ap (λ (f : ℕ → Bool). f c) r.waiting) ∙ waits)
      (subst (λ (n : ℕ). InRun (record { client = c; sequence = n; grant = Some x; size = size }) s.answers)
      (ap (λ (f : ℕ → ℕ). f c) r.sequence)
      (subst (InRun (record { client = c; sequence = t.sequence c; grant = Some x; size = size })) r.answers i));
}

pub tied_rests : (w : World) (h : List Line) (s t : State) (file : ℕ) (pairs : Pairs) → EntriesStay s t → Rests s t →
    AreTied w h s file pairs → AreTied w h t file pairs
tied_rests w h s t file pairs stay r k = record {
  single = k.single;
  calls = λ c low.
      call_stays s t file c pairs (entry_in (at_number (log_in h).pending c)) (client_of w c).call (r.write c)
      (ap (λ (f : ℕ → machine.Call). at_entry (f c)) r.call) (k.calls c low);
  apart = λ a x i. k.apart a x (subst (InRun a) r.answers i);
  over = λ c number slot q is taken asked same returned.
      over_rests w s t number stay r (k.over c number slot q is taken asked same returned);
}

-- ---- the world

-- The server and the clients are as they were, and so are the entries of pending calls on the file; no request was sent that
-- wasn't before.
pub record WorldRests (w v : World) (h g : List Line) (file : ℕ) : Type 0 where
  pub server : v.server ≡ w.server
  pub clients : (c : ℕ) → client_of v c ≡ client_of w c
  pub entries : (c : ℕ) (call : Call) → (client_of w c).call ≡ Some call → (file_of call.op == file) ≡ true →
      entry_in (at_number (log_in g).pending c) ≡ entry_in (at_number (log_in h).pending c)
  pub asked : (c : ℕ) (q : Request) → HasAsked v c q → HasAsked w c q

-- a grant is over by the server's count of grants
pub over_there : (w v : World) (s : State) (number : ℕ) → v.server ≡ w.server → IsOver w s number → IsOver v s number
over_there w v s number same k = record {
  low = subst (λ (z : Server). number < z.next_grant) (sym same) k.low;
  acknowledged = k.acknowledged;
  unheld = k.unheld;
  untaken = k.untaken;
}

-- a call is tied to the same entry
same_entry : (s : State) (file c : ℕ) (pairs : Pairs) (o p : Option ℕ) (x : Option Call) →
    ((call : Call) → x ≡ Some call → (file_of call.op == file) ≡ true → p ≡ o) → CallTied s file c pairs o x →
    CallTied s file c pairs p x
same_entry s file c pairs o p None same k = tt
same_entry s file c pairs o p (Some call) same k = λ here.
    subst (λ (q : Option ℕ). PhaseTied s c pairs q call.phase) (sym (same call refl here)) (k here)

pub tied_there : (w v : World) (h g : List Line) (s : State) (file : ℕ) (pairs : Pairs) → WorldRests w v h g file →
    AreTied w h s file pairs → AreTied v g s file pairs
tied_there w v h g s file pairs r k = record {
  single = k.single;
  calls = λ c low.
      subst (λ (x : Client). CallTied s file c pairs (entry_in (at_number (log_in g).pending c)) x.call) (sym (r.clients c))
      (same_entry s file c pairs (entry_in (at_number (log_in h).pending c)) (entry_in (at_number (log_in g).pending c))
      (client_of w c).call (r.entries c) (k.calls c low));
  apart = λ a x i has f z there other held.
      k.apart a x i has f z (subst (λ (y : Server). In f y.files) r.server there) other held;
  over = λ c number t q is taken asked same returned.
      over_there w v s number r.server
      (k.over c number t q (sym (ap (λ (z : Server). slot_of z.slots c) r.server) ∙ is) taken (r.asked c q asked) same returned);
}
