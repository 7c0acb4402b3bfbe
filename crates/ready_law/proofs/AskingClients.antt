-- Clients beside the call's: one that gives back a grant as it is recalled, and one that has done so.
use Rattle.std.proofs.Common.{◌≡◌, ◌≢◌, ◌≤◌, ◌<◌, ◌+◌, ◌-◌, ◌==◌, ◌&&◌, ◌||◌, ◌^◌, ℕ, Bool, true, false, nat_lt, List, [], ◌∷◌, find, Option, Some, None, Result, Ok, Err, inl, inr, refl, sym, ap, subst, ◌∙◌, eq-eqb, ne_eqb, arith, if◌then◌else◌}
use Rattle.std.specs.List.{list_any}
use Rattle.std.proofs.lemmas.Bool.{cases_Bool}
use Rattle.std.proofs.lemmas.Bool.Decides.{nat_tests}
use Rattle.osd_lists.specs.declared.node.Node.TheVariants.{Server as FromServer}
use Rattle.xdr_codec.specs.Reading.{Rest, ◌>>=◌}
use Rattle.xdr_codec.proofs.ItemLaws.{bind_ok, ok_is}
use Rattle.layout_ops.specs.declared.err.OpErr.{OpErr}
use Rattle.layout_ops.specs.declared.envelope.Envelope.{Envelope}
use Rattle.layout_ops.specs.declared.envelope.Envelope.TheVariants as envelope
use Rattle.layout_ops.specs.declared.statuses.TheConstants.{NFS4_OK}
use Rattle.layout_ops.specs.Spelling.{EnvelopeFits, envelope_item}
use Rattle.layout_ops.specs.Reading.{answer_in, envelope_behind, envelope_in, envelope_of}
use Rattle.layout_ops.proofs.Fields.{u32_law}
use Rattle.layout_ops.proofs.Steps.{named}
use Rattle.layout_ops.proofs.Whole.{all_again}
use Rattle.history_law.proofs.Fronts.{codec_gets, next}
use Rattle.history_law.proofs.Parts.{message_ends}
use Rattle.server_rules.specs.declared.limits.TheConstants.{GREATEST_SEQUENCE}
use Rattle.server_rules.specs.Answers.{recall_of}
use Rattle.server_rules.specs.Laws.{last_of}
use Rattle.server_rules.specs.Slots.{New, admit, admit_after}
use Rattle.client_rules.specs.Envelopes.{message_in, by_envelope}
use Rattle.client_rules.specs.Going.{quiet, after_number, is_held, due_behind, begun, progressed, requests, returns, returns_due}
use Rattle.client_rules.specs.Grants.{held_of, without_held}
use Rattle.client_rules.specs.History.{Hears, step}
use Rattle.client_rules.specs.Messages.{Message as ClientMessage, Replies, Answers, Recalls, Step as ClientStep, TakesAnswer, answer_taken, by_taken, closed, is_awaited, recall_answer, due_with, finished, takes, hears}
use Rattle.client_rules.proofs.HeldGrants.{held_file}
use Rattle.client_rules.specs.Requests.{grant_in, return_args}
use Rattle.world_history.specs.ClientNames.{Client, Call, Held, Due, Request, Answer, Recall, AnswersRecall, Asks}
use Rattle.world_history.specs.ServerNames.{Grant, Slot}
use Rattle.world_history.specs.Handed.{for_client}
use Rattle.exchange_law.specs.Messages.{last_before}
use Rattle.exchange_law.proofs.RefusalTelling.{grant_read}
use Rattle.ready_law.proofs.Calls.{answer_message}
use Rattle.ready_law.proofs.ServingForms.{recall_message}

-- ---- what is read

pub answer_read : (a : Answer) → EnvelopeFits (envelope.Answer a) → for_client (answer_message a) ≡ Some (Answers a)
unfolding message_in
answer_read a fits = ap by_envelope (all_again (envelope.Answer a) fits)

pub recall_read : (r : Recall) → EnvelopeFits (envelope.Recall r) → for_client (recall_message r) ≡ Some (Recalls r)
unfolding message_in
recall_read r fits = ap by_envelope (all_again (envelope.Recall r) fits)

recalls_in : (r : Result Envelope OpErr) (v : Recall) → by_envelope r ≡ Some (Recalls v) → r ≡ Ok (envelope.Recall v)
recalls_in (Ok (envelope.Recall x)) v e = let same : x ≡ v = cc e in ap (λ (y : Recall). Ok (envelope.Recall y)) same
recalls_in (Ok (envelope.Answer a)) v e = absurd (cc e)
recalls_in (Ok (envelope.Request q)) v e = absurd (cc e)
recalls_in (Ok (envelope.Order o)) v e = absurd (cc e)
recalls_in (Ok (envelope.RecallAnswer a)) v e = absurd (cc e)
recalls_in (Ok (envelope.OrderAnswer a)) v e = absurd (cc e)
recalls_in (Err x) v e = absurd (cc e)

answer_kind : (a : Answer) (v : Recall) (i j : Rest) → i.left ≡ envelope_item (envelope.Answer a)
    → envelope_in i ≡ Ok (envelope.Recall v, j) → ⊥
unfolding envelope_in
answer_kind a v i j at e =
    next _ i _ _ (envelope.Recall v, j) (codec_gets u32_law 2 (omega arith)) at e (λ n i1 is a1 r1.
    let read : (answer_in i1 >>= named envelope.Answer) ≡ Ok (envelope.Recall v, j) =
    subst (λ (m : ℕ). envelope_behind i.at (m, i1) ≡ Ok (envelope.Recall v, j)) is r1 in
    let b = bind_ok (answer_in i1) (named envelope.Answer) (envelope.Recall v, j) read in
    let same = ok_is (envelope.Answer b.0.0, b.0.1) (envelope.Recall v, j) b.2 in
    let kinds : envelope.Answer b.0.0 ≡ envelope.Recall v = ap (λ (p : Envelope × Rest). p.0) same in
    absurd (cc kinds))

-- an answer isn't read as a recall
pub answer_no_recall : (a : Answer) (v : Recall) → for_client (answer_message a) ≡ Some (Recalls v) → ⊥
unfolding message_in envelope_of
answer_no_recall a v e =
    let bytes : List ℕ = envelope_item (envelope.Answer a) in
    let ends = message_ends envelope_in bytes (envelope.Recall v) (recalls_in (envelope_of bytes) v e) in
    answer_kind a v (record { left = bytes; at = 0 }) ends.rest refl ends.read

-- ---- the next request

-- the number behind the last one is new
pub next_new : (o : Option Slot) (n : ℕ) → n ≢ 0 → n ≤ GREATEST_SEQUENCE → last_of o ≡ last_before n → admit o n ≡ New
unfolding admit admit_after
next_new None n some most e =
    let last : last_before n ≡ n - 1 = rw (ne_eqb n 0 some) refl in
    let test : ((n == 0 + 1) && nat_lt 0 GREATEST_SEQUENCE) ≡ true = grind (arith, nat_tests, e, last, some) in
    rw test refl
next_new (Some s) n some most e =
    let last : last_before n ≡ n - 1 = rw (ne_eqb n 0 some) refl in
    let test : ((n == s.last + 1) && nat_lt s.last GREATEST_SEQUENCE) ≡ true =
    grind (arith, nat_tests, e, last, some, most) in
    rw (ne_eqb n s.last (λ same. absurd (omega (arith, same, e, last, some))), test) refl

-- ---- a client that is idle

-- without a call, an outstanding request and a grant to give back
abbrev pub idle_client : (number next : ℕ) → List Held → Client
idle_client number n hs = record { number = number; next = n; outstanding = None; held = hs; due = []; call = None }

pub is_idle_client : (x : Client) → x.outstanding ≡ None → x.due ≡ [] → x.call ≡ None
    → x ≡ idle_client x.number x.next x.held
is_idle_client x out due call =
    ap (λ (o : Option Request). record x { outstanding = o }) out
    ∙ ap (λ (us : List Due). record x { outstanding = None; due = us }) due
    ∙ ap (λ (c : Option Call). record x { outstanding = None; due = []; call = c }) call

found_any : (hs : List Held) (p q : Held → Bool) (h : Held) → find p hs ≡ Some h → q h ≡ true → list_any q hs ≡ true
found_any [] p q h e t = absurd (cc e)
found_any (g ∷ gs) p q h e t = elim (cases_Bool (p g)) [
  | inl y ↦
      let same : g ≡ h = cc (rw y at e) in
      rw (ap q same ∙ t) refl
  | inr n ↦ either (q g) (found_any gs p q h (rw n at e) t)
]
  where
    either : (b : Bool) → list_any q gs ≡ true → (b || list_any q gs) ≡ true
    either true l = refl
    either false l = l

held_there : (hs : List Held) (h : Held) (g : Grant) → held_of hs g.file ≡ Some h → h.number ≡ g.number
    → is_held hs (record { file = g.file; number = g.number }) ≡ true
unfolding held_of
held_there hs h g holds same =
    found_any hs (λ (x : Held). x.file == g.file) (λ (x : Held). (x.file == g.file) && (x.number == g.number)) h holds
    (rw (eq-eqb h.file g.file (held_file hs g.file h holds), eq-eqb h.number g.number same) refl)

-- ---- it is told to give back a grant

-- the return
abbrev pub its_return : (number next : ℕ) → Grant → Request
its_return number n g = record { client = number; sequence = n; file = g.file; args = return_args g.number [] }

pub recalled_step : (number n : ℕ) (hs : List Held) (h : Held) (g : Grant) (count : ℕ) → g.client ≡ number → n ≢ 0
    → held_of hs g.file ≡ Some h → h.number ≡ g.number → g.number < 2 ^ 32
    → step (idle_client number n hs) (Hears FromServer (Recalls (recall_of g count)))
    ≡ record {
      client = record {
        number = number;
        next = after_number n;
        outstanding = Some (its_return number n g);
        held = without_held hs g.file;
        due = [];
        call = None;
      };
      sends = AnswersRecall (recall_answer (recall_of g count) NFS4_OK) ∷ Asks (its_return number n g) ∷ [];
      outcome = None;
    }
unfolding hears takes finished begun progressed returns_due requests due_with due_behind
recalled_step number n hs h g count client some holds same low =
    let named : grant_in (recall_of g count).args.stateid ≡ g.number = grant_read g.number low in
    let held : is_held hs (record { file = g.file; number = g.number }) ≡ true = held_there hs h g holds same in
    rw (
      eq-eqb g.client number client,
      holds,
      named,
      eq-eqb h.number g.number same,
      ne_eqb n 0 some,
      held,
    ) (rw held refl)

-- ---- it hears an answer

-- a client without a call that owes nothing stays so, and sends nothing
pub record StaysQuiet (t : ClientStep) : Type 0 where
  pub call : t.client.call ≡ None
  pub due : t.client.due ≡ []
  pub sends : t.sends ≡ []
  pub outcome : t.outcome ≡ None

-- without a call, and with nothing to give back
abbrev quiet_client : (number next : ℕ) → Option Request → List Held → Client
quiet_client number n out hs = record { number = number; next = n; outstanding = out; held = hs; due = []; call = None }

quiet_takes : (number n : ℕ) (hs : List Held) (a : Answer) (o : Option Request) (out : Option Request)
    → StaysQuiet (by_taken (quiet_client number n out hs) (answer_taken (quiet_client number n out hs) a o))
unfolding finished begun progressed returns_due
quiet_takes number n hs a None out = record { call = refl; due = refl; sends = refl; outcome = refl }
quiet_takes number n hs a (Some r) out = either (is_awaited (quiet_client number n out hs) a r)
  where
    last : (b : Bool) → StaysQuiet (closed (if b then quiet (quiet_client number n None hs)
        else returns (quiet (quiet_client number n None hs)) None))
    last true = record { call = refl; due = refl; sends = refl; outcome = refl }
    last false = record { call = refl; due = refl; sends = refl; outcome = refl }

    either : (b : Bool) → StaysQuiet (by_taken (quiet_client number n out hs) (if b then Some (TakesAnswer a) else None))
    either true = last (n == 0)
    either false = record { call = refl; due = refl; sends = refl; outcome = refl }

-- A client without a call that owes nothing takes the answer that it waits for: it waits for none then, and all else stays.
pub record HearsAnswer (hs : List Held) (t : ClientStep) : Type 0 where
  pub call : t.client.call ≡ None
  pub outstanding : t.client.outstanding ≡ None
  pub held : t.client.held ≡ hs
  pub sends : t.sends ≡ []
  pub outcome : t.outcome ≡ None

quiet_answered : (number n : ℕ) (hs : List Held) (a : Answer) (r : Request)
    → is_awaited (quiet_client number n (Some r) hs) a r ≡ true
    → HearsAnswer hs (step (quiet_client number n (Some r) hs) (Hears FromServer (Answers a)))
unfolding hears takes finished begun progressed returns_due
quiet_answered number n hs a r e = either (is_awaited (quiet_client number n (Some r) hs) a r) e
  where
    last : (b : Bool) → HearsAnswer hs (closed (if b then quiet (quiet_client number n None hs)
        else returns (quiet (quiet_client number n None hs)) None))
    last true = record { call = refl; outstanding = refl; held = refl; sends = refl; outcome = refl }
    last false = record { call = refl; outstanding = refl; held = refl; sends = refl; outcome = refl }

    either : (b : Bool) → b ≡ true
        → HearsAnswer hs (by_taken (quiet_client number n (Some r) hs) (if b then Some (TakesAnswer a) else None))
    either true is = last (n == 0)
    either false is = absurd (cc is)

quiet_so : (x : Client) → x.due ≡ [] → x.call ≡ None → x ≡ quiet_client x.number x.next x.outstanding x.held
quiet_so x due call =
    ap (λ (us : List Due). record x { due = us }) due ∙ ap (λ (c : Option Call). record x { due = []; call = c }) call

pub answered_step : (x : Client) (a : Answer) (r : Request) → x.call ≡ None → x.due ≡ [] → x.outstanding ≡ Some r
    → is_awaited x a r ≡ true → HearsAnswer x.held (step x (Hears FromServer (Answers a)))
answered_step x a r call due out is =
    let same : x ≡ quiet_client x.number x.next (Some r) x.held =
    quiet_so x due call ∙ ap (λ (o : Option Request). quiet_client x.number x.next o x.held) out in
    subst (λ (y : Client). HearsAnswer x.held (step y (Hears FromServer (Answers a)))) (sym same)
    (quiet_answered x.number x.next x.held a r (subst (λ (y : Client). is_awaited y a r ≡ true) same is))

pub quiet_step : (x : Client) (m : ClientMessage) → ((v : Recall) → m ≡ Recalls v → ⊥) → x.call ≡ None → x.due ≡ []
    → StaysQuiet (step x (Hears FromServer m))
unfolding hears takes
quiet_step x (Recalls v) none call due = absurd (none v refl)
quiet_step x (Replies r) none call due = record { call = call; due = due; sends = refl; outcome = refl }
quiet_step x (Answers a) none call due =
    subst (λ (y : Client). StaysQuiet (step y (Hears FromServer (Answers a)))) (sym (quiet_so x due call))
    (quiet_takes x.number x.next x.held a x.outstanding x.outstanding)
