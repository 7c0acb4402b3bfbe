-- Where a line tells that some bytes were written, the call has stored them.
use Rattle.std.proofs.Common.{◌≡◌, ℕ, ◌∷◌, [], List, Option, Some, None, fold, refl, sym, ap, subst, ◌∙◌, inl, inr}
use Rattle.scenario_text.specs.declared.line.Outcome.TheVariants as outcome
use Rattle.scenario_text.specs.declared.line.CallKind.{CallKind}
use Rattle.scenario_text.specs.declared.line.Line.{Line}
use Rattle.scenario_text.specs.declared.line.Line.TheVariants as line
use Rattle.client_rules.specs.History.{Input, step}
use Rattle.world_history.specs.ClientNames.{Client, Call, CallOp, Held, Outcome, WriteOk, ReadOk, NoFile, HeldBy, Fencing, Degraded, Spent, Status, Refused, Silent, Lost, BadLayout, Request}
use Rattle.world_history.specs.State.{ClientAt}
use Rattle.world_history.specs.Told.{kind_of, told_outcome}
use Rattle.world_history.specs.declared.messages.Sent.{Sent}
use Rattle.cause_law.specs.Caused.{call_in}
use Rattle.cause_law.specs.Ended.{CausedAt, EndsAreCaused}
use Rattle.cause_law.specs.Met.{Met, since, met_after}
use Rattle.cause_law.specs.ReadClients.{went}
use Rattle.cause_law.specs.ReadCalls.{line_input, LastStep, stepped, after_input, CallSeen, sees_call, call_seen}
use Rattle.cause_law.proofs.CallLines.{IsNew, Becomes, line_becomes, line_arrives}
use Rattle.history_claims.specs.Stored.{HasStored, StoredAt, WritesAreStored}
use Rattle.history_claims.proofs.StoredCalls.{CallStored}
use Rattle.history_claims.proofs.StoredDealings.{Last}
use Rattle.history_claims.proofs.StoredInputs.{step_stored}
use Rattle.history_claims.proofs.StoredSteps.{EndsStored, StepStored}
use Rattle.history_claims.proofs.Wrote.{IsSound, sound_step, always_sound}

-- ---- one client

-- what its pending call has met is what it stored by
record IsRight (x : Client) (ms : List Met) : Type 0 where
  sound : IsSound x
  stored : CallStored x.held x.outstanding ms x.call

since_stored : (hs : List Held) (out : Option Request) (ms : List Met) (o : Option Call) → CallStored hs out ms o →
    CallStored hs out (since o ms) o
since_stored hs out ms None x = tt
since_stored hs out ms (Some call) x = x

new_right : (b : ClientAt) (ms : List Met) → IsNew b → IsRight b.state ms
new_right b ms new =
    subst (λ (x : Client). IsRight x ms) (sym new.1) (record { sound = always_sound new.0 1 []; stored = tt })

step_right : (x : Client) (ms : List Met) (i : Input) → IsRight x ms →
    StepStored x.held (call_in x i) (met_after x ms i) (step x i)
step_right x ms i r = step_stored x ms r.sound (since_stored x.held x.outstanding ms x.call r.stored) i

-- how the last step ended its call
abbrev EndsWell : LastStep → Type 0
EndsWell t = (count : ℕ) → t.outcome ≡ Some (WriteOk count) → (count ≡ 0 → ⊥) → HasStored t

however : (before : List Held) (mine : Option CallOp) (ms : List Met) (o : Option Outcome) → HasStored (Last before mine ms) →
    HasStored (record { call = mine; held = before; met = ms; outcome = o })
however before mine ms o h = record {
  op = h.op;
  call = h.call;
  write = h.write;
  held = h.held;
  under = h.under;
  checked = h.checked;
  stored = h.stored;
  reported = h.reported;
}

stepped_well : (x : Client) (t : LastStep) (i : Input) → IsRight x t.met → EndsWell (stepped x t i)
stepped_well x t i r count e some =
    elim (subst (EndsStored x.held (call_in x i) (met_after x t.met i)) e (step_right x t.met i r).outcome) [
      | inl none ↦ absurd (some none)
      | inr h ↦ however x.held (call_in x i) (met_after x t.met i) (step x i).outcome h
    ]

-- ---- all lines

record IsRun (s : CallSeen) : Type 0 where
  client : (a : ClientAt) → s.seen.client ≡ Some a → IsRight a.state s.last.met
  ends : EndsWell s.last

same_client : (a b : ClientAt) → Some a ≡ Some b → a ≡ b
same_client a b e = cc e

module _ (c : ℕ) (sent : List Sent) (t : LastStep) (ends : EndsWell t) (l : Line) where
  by_input : (a : ClientAt) → IsRight a.state t.met → (i : Option Input) → (o : Option ClientAt) → Becomes a i o →
      IsRun (record { seen = record { sent = []; client = o }; last = after_input a.state t i })
  by_input a x None o b = record {
    client = λ d e. subst (λ (y : ClientAt). IsRight y.state t.met) (same_client b.0 d (sym b.1 ∙ e)) (elim b.2 [
      | inl same ↦ subst (λ (z : Client). IsRight z t.met) (sym same) x
      | inr new ↦ new_right b.0 t.met new
    ]);
    ends = ends;
  }
  by_input a x (Some i) o b = record {
    client = λ d e.
        subst (λ (y : ClientAt). IsRight y.state (met_after a.state t.met i))
        (same_client (went a i (step a.state i)) d (sym b ∙ e))
        (record { sound = sound_step a.state i x.sound; stored = (step_right a.state t.met i x).call });
    ends = stepped_well a.state t i x;
  }

  on_line : (o : Option ClientAt) → ((a : ClientAt) → o ≡ Some a → IsRight a.state t.met) →
      IsRun (sees_call c (record { seen = record { sent = sent; client = o }; last = t }) l)
  on_line None x = record { client = λ d e. new_right d t.met (line_arrives c sent l d e); ends = ends }
  on_line (Some a) x =
      let r = by_input a (x a refl) (line_input c sent l a) _ (line_becomes c sent a l) in
      record { client = r.client; ends = r.ends }

all_run : (c : ℕ) (s : CallSeen) (h : List Line) → IsRun s → IsRun (fold (sees_call c) s h)
all_run c s [] x = x
all_run c s (l ∷ h) x = all_run c (sees_call c s l) h (on_line c s.seen.sent s.last x.ends l s.seen.client x.client)

seen_ends : (c : ℕ) (h : List Line) → EndsWell (call_seen c h).last
seen_ends c h = (all_run c _ h (record { client = λ a e. absurd (cc e); ends = λ count e. absurd (cc e) })).ends

-- ---- what a line tells

-- the outcome of a write that is told as acknowledged
told_write : (kind : CallKind) (f : Outcome) (n : ℕ) → outcome.WriteOk n ≡ told_outcome kind f → f ≡ WriteOk n
told_write kind (WriteOk m) n e = let same : n ≡ m = cc e in ap WriteOk (sym same)
told_write kind (ReadOk bytes) n e = absurd (cc e)
told_write kind NoFile n e = absurd (cc e)
told_write kind (HeldBy c) n e = absurd (cc e)
told_write kind (Fencing k) n e = absurd (cc e)
told_write kind (Degraded k) n e = absurd (cc e)
told_write kind Spent n e = absurd (cc e)
told_write kind (Status s d) n e = absurd (cc e)
told_write kind (Refused d v k) n e = absurd (cc e)
told_write kind (Silent k) n e = absurd (cc e)
told_write kind (Lost ps) n e = absurd (cc e)
told_write kind (BadLayout why) n e = absurd (cc e)

at_line : (before : List Line) (l : Line) → CausedAt before l → StoredAt before l
at_line before (line.Ended c (outcome.WriteOk n)) x =
    seen_ends c before n (x.ended ∙ ap (λ (f : Outcome). Some f) (told_write (kind_of x.op) x.outcome n x.is))
at_line before (line.Ended c (outcome.ReadOk bytes)) x = tt
at_line before (line.Ended c (outcome.Failed kind e)) x = tt
at_line before l x = tt

pub writes_are_stored : EndsAreCaused → WritesAreStored
writes_are_stored caused h l before x after is = at_line before x (caused h l before x after is)
