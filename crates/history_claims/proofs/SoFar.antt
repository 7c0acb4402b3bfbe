-- What an event delivered so far, of the messages that it has to deliver.
use Rattle.std.proofs.Common.{◌≡◌, ◌⊎◌, ◌≤◌, ◌++◌, ◌∷◌, ◌+◌, ◌-◌, ℕ, List, [], length, fold, append_assoc, slice_get, Option, Some, None, refl, sym, ap, subst, ◌∙◌, arith, if◌then◌else◌}
use Rattle.std.specs.List.{range_with_len}
use Rattle.std.proofs.lemmas.List.{append-nil, length-append}
use Rattle.client_rules.specs.Steps.{awaits}
use Rattle.client_rules.specs.Messages.{awaited_of}
use Rattle.scenario_text.specs.declared.event.Event.{Event}
use Rattle.scenario_text.specs.declared.line.Line.{Line}
use Rattle.scenario_text.specs.declared.line.Line.TheVariants as line
use Rattle.world_history.specs.declared.messages.Sent.{Sent}
use Rattle.world_history.specs.State.{World, ClientAt}
use Rattle.world_history.specs.Moves.{Opens}
use Rattle.world_history.specs.Sending.{Move, move}
use Rattle.world_history.specs.Plans.{Rule, Alone, Prompt, Plan, due_in, due, went_on, plan_of}
use Rattle.world_history.specs.Reading.{arrived, changed_at, sent_after}
use Rattle.world_history.specs.Runs.{plan_after}
use Rattle.world_history.proofs.ReadMessages.{never_opens}
use Rattle.world_history.proofs.Runs.{no_opening}
use Rattle.history_claims.specs.Delivered.{delivered_in}
use Rattle.history_claims.proofs.Opened.{opens, more_open, Sends}
use Rattle.cause_law.specs.ReadClients.{client_after}
use Rattle.history_claims.proofs.Idle.{delivered_more, changed_length}

-- ---- so far

-- only the first move of an event opens it
pub its_event : (v : World) (e : Event) (ms : List Move) (w : World) (f : Event)
    → due (plan_after (plan_of v e) ms) w ≡ Some (Opens f) → f ≡ e
its_event v e [] w f d = own d
  where
    own : Some (Opens e) ≡ Some (Opens f) → f ≡ e
    own x = let same : e ≡ f = cc x in sym same
its_event v e (m ∷ ms) w f d = by (plan_after (plan_of v e) (m ∷ ms)) (no_opening (went_on (plan_of v e) m.action) ms refl) d
  where
    by : (p : Plan) → p.opening ≡ None → due p w ≡ Some (Opens f) → f ≡ e
    by p none i =
        absurd (never_opens w p.rule f (subst (λ (o : Option Event). due_in w p.rule o ≡ Some (Opens f)) none i))

abbrev pub by_rule : Rule → Plan
by_rule r = record { opening = None; rule = r }

-- the call of the client, if one is named, awaits no command behind these lines
abbrev pub Rests : Option ℕ → List Line → Type 0
Rests None ls = Unit {0}
Rests (Some c) ls = (a : ClientAt) → client_after ls c ≡ Some a → awaited_of a.state.call ≡ []

-- Of an event that delivers what is open from a number on: what was delivered, and what is open, is what is due. Something may be
-- due, or the event is over, and nothing is open, and its client's call rests.
pub record IsSoFar (first : ℕ) (o : Option ℕ) (due : ℕ → List ℕ) (count : ℕ) (p : Plan) (h told : List Line) (ss : List Sent)
    : Type 0 where
  pub long : count ≤ length ss
  pub all : delivered_in told ++ opens first 0 ss ≡ due (length ss)
  pub plan : (p.rule ≡ Prompt first o) ⊎ ((p ≡ by_rule Alone) × (opens first 0 ss ≡ []) × Rests o (h ++ told))

abbrev pub Grows : (ℕ → List ℕ) → ℕ → Type 0
Grows due count = (k n : ℕ) → count ≤ k → due (k + n) ≡ due k ++ range_with_len k n

module _ (first : ℕ) (due : ℕ → List ℕ) (count : ℕ) (low : first ≤ count) (grows : Grows due count)
    (told : List Line) (ss : List Sent) (long : count ≤ length ss)
    (all : delivered_in told ++ opens first 0 ss ≡ due (length ss)) where
  pub sent_on : (ls : List Line) (r : Sends ls) → count ≤ length (fold sent_after ss ls)
  sent_on ls r =
      let is : length (fold sent_after ss ls) ≡ length ss + length r.news =
      ap length (r.reads ss) ∙ length-append ss r.news in
      omega (arith, is, long)

  pub all_on : (ls : List Line) (r : Sends ls)
      → delivered_in (told ++ ls) ++ opens first 0 (fold sent_after ss ls) ≡ due (length (fold sent_after ss ls))
  all_on ls r =
      let nothing : delivered_in (told ++ ls) ≡ delivered_in told =
      delivered_more told ls ∙ ap (λ (l : List ℕ). delivered_in told ++ l) r.none ∙ append-nil (delivered_in told) in
      let place : 0 + length ss ≡ length ss = omega arith in
      let below : first ≤ 0 + length ss = omega (arith, low, long) in
      let more_are : opens first 0 (fold sent_after ss ls) ≡ opens first 0 ss ++ range_with_len (length ss) (length r.news) =
      ap (opens first 0) (r.reads ss) ∙ more_open first 0 ss r.news r.are_open below
      ∙ ap (λ (j : ℕ). opens first 0 ss ++ range_with_len j (length r.news)) place in
      let size : length ss + length r.news ≡ length (fold sent_after ss ls) =
      sym (ap length (r.reads ss) ∙ length-append ss r.news) in
      ap (λ (l : List ℕ). l ++ opens first 0 (fold sent_after ss ls)) nothing
      ∙ ap (λ (l : List ℕ). delivered_in told ++ l) more_are
      ∙ sym (append_assoc (delivered_in told) (opens first 0 ss) (range_with_len (length ss) (length r.news)))
      ∙ ap (λ (l : List ℕ). l ++ range_with_len (length ss) (length r.news)) all
      ∙ sym (grows (length ss) (length r.news) long)
      ∙ ap due size

  -- the first open one is delivered
  pub delivers_on : (n : ℕ) (d : _) → opens first 0 ss ≡ n ∷ opens first 0 (changed_at ss n arrived)
      → delivered_in (told ++ line.Delivered n d ∷ []) ++ opens first 0 (changed_at ss n arrived)
      ≡ due (length (changed_at ss n arrived))
  unfolding delivered_in
  delivers_on n d next =
      ap (λ (l : List ℕ). l ++ opens first 0 (changed_at ss n arrived)) (delivered_more told (line.Delivered n d ∷ []))
      ∙ append_assoc (delivered_in told) (n ∷ []) (opens first 0 (changed_at ss n arrived))
      ∙ ap (λ (l : List ℕ). delivered_in told ++ l) (sym next)
      ∙ all
      ∙ ap due (sym (changed_length ss n (slice_get ss n)))
