-- Lines that deliver nothing.
use Rattle.std.proofs.Common.{◌≡◌, ◌++◌, ◌∷◌, ◌+◌, ◌-◌, ℕ, true, false, true≢false, List, [], length, fold, Option, Some, None, refl, sym, ap, subst, ◌∙◌, if◌then◌else◌}
use Rattle.std.specs.List.{cons_option, filter_map}
use Rattle.osd_lists.proofs.Slices.{length_set}
use Rattle.scenario_text.specs.declared.event.Event.{Event}
use Rattle.scenario_text.specs.declared.event.Event.TheVariants as event
use Rattle.scenario_text.specs.declared.line.Line.{Line}
use Rattle.scenario_text.specs.declared.line.Line.TheVariants as line
use Rattle.world_history.specs.ClientNames.{CallOp}
use Rattle.world_history.specs.declared.messages.Sent.{Sent}
use Rattle.world_history.specs.State.{World, ClientAt, at_number}
use Rattle.world_history.specs.Handed.{pending_op}
use Rattle.world_history.specs.Moves.{Opens, TimesOut, Pends, by_client, pends_as, pends, begins, acts}
use Rattle.world_history.specs.Sending.{sent_lines, sends_all}
use Rattle.world_history.specs.Reading.{arrived, changed_by, sent_after}
use Rattle.history_law.specs.Moves.{number_in}
use Rattle.component_law.specs.Opening.{is_opening}
use Rattle.history_claims.specs.Delivered.{delivered_at, delivered_in}
use Rattle.history_claims.proofs.Moved.{TimesOutAt, Says, PlainLines, ADelivery, ATimeout, AVerdict, ARefusal, says}
use Rattle.history_claims.proofs.Opened.{Sends, plain_sends}
use Rattle.cause_law.specs.ReadClients.{ClientSeen, sees_client}

-- ---- what is delivered in further lines

pub delivered_more : (xs ys : List Line) → delivered_in (xs ++ ys) ≡ delivered_in xs ++ delivered_in ys
unfolding delivered_in
delivered_more [] ys = refl
delivered_more (x ∷ xs) ys = by (delivered_at x) (delivered_more xs ys)
  where
    by : (o : Option ℕ) → filter_map delivered_at (xs ++ ys) ≡ filter_map delivered_at xs ++ filter_map delivered_at ys
        → cons_option o (filter_map delivered_at (xs ++ ys))
        ≡ cons_option o (filter_map delivered_at xs) ++ filter_map delivered_at ys
    by None e = e
    by (Some n) e = ap (λ (l : List ℕ). n ∷ l) e

pub changed_length : (ss : List Sent) (n : ℕ) (o : Option Sent) → length (changed_by ss n arrived o) ≡ length ss
changed_length ss n None = refl
changed_length ss n (Some s) = length_set ss n (arrived s)

-- ---- lines that deliver nothing

-- a line of its own stands first
abbrev IsIdle : Line → Type 0
IsIdle l = (delivered_at l ≡ None) × ((ss : List Sent) → sent_after ss l ≡ ss)

pub behind_idle : (l : Line) (ls : List Line) → IsIdle l → Sends ls → Sends (l ∷ ls)
unfolding delivered_in
behind_idle l ls i r = record {
  news = r.news;
  are_open = r.are_open;
  none = ap (λ (o : Option ℕ). cons_option o (filter_map delivered_at ls)) i.0 ∙ r.none;
  reads = λ ss. ap (λ (x : List Sent). fold sent_after x ls) (i.1 ss) ∙ r.reads ss;
}

-- what an event begins with, if it delivers nothing
pub opens_sends : (w : World) (chosen : List ℕ) (e : Event) → is_opening e ≡ false → Sends (sends_all (begins w chosen e)).lines
opens_sends w chosen e quiet = by (says w chosen (Opens e))
  where
    no_number : (f : Event) → is_opening f ≡ false → (n : ℕ) → number_in (Opens f) ≡ Some n → ⊥
    no_number (event.Deliver k) q n i = true≢false q
    no_number f q n i = cc i

    no_timeout : (f : Event) → is_opening f ≡ false → (c k : ℕ) → TimesOutAt (Opens f) c k → ⊥
    no_timeout (event.Timeout a b) q c k i = true≢false q
    no_timeout f q c k i = i

    no_verdict : (f : Event) → is_opening f ≡ false → (d : ℕ) (bytes : List ℕ) → Opens f ≡ Opens (event.Inject d bytes) → ⊥
    no_verdict f q d bytes i = let same : f ≡ event.Inject d bytes = cc i in true≢false (sym (ap is_opening same) ∙ q)

    by : Says w chosen (Opens e) (sends_all (begins w chosen e)).lines → Sends (sends_all (begins w chosen e)).lines
    by (PlainLines b) = plain_sends _ b
    by (ADelivery n p number found rest b are) = absurd (no_number e quiet n number)
    by (ATimeout c k a is found rest b are) = absurd (no_timeout e quiet c k is)
    by (AVerdict d bytes x is rest b are) = absurd (no_verdict e quiet d bytes is)
    by (ARefusal c a why found refuses are) =
        subst Sends (sym are) (behind_idle (line.Refused c why) [] (refl, λ ss. refl) (plain_sends [] tt))

-- a timeout sends what it sends
pub times_out_sends : (w : World) (chosen : List ℕ) (c k : ℕ) → Sends (sends_all (acts w chosen (TimesOut c k))).lines
times_out_sends w chosen c k = by (says w chosen (TimesOut c k))
  where
    by : Says w chosen (TimesOut c k) (sends_all (acts w chosen (TimesOut c k))).lines
        → Sends (sends_all (acts w chosen (TimesOut c k))).lines
    by (PlainLines b) = plain_sends _ b
    by (ADelivery n p number found rest b are) = absurd (cc number)
    by (ATimeout j i a is found rest b are) =
        subst Sends (sym are) (behind_idle (line.TimedOut j i) rest (refl, λ ss. refl) (plain_sends rest b))
    by (AVerdict d bytes x is rest b are) = absurd (cc is)
    by (ARefusal j a why found refuses are) = absurd refuses

-- that a call is left pending sends nothing
pub pends_still : (w : World) (chosen : List ℕ) (c : ℕ)
    → (delivered_in (sends_all (acts w chosen (Pends c))).lines ≡ [])
    × ((ss : List Sent) → fold sent_after ss (sends_all (acts w chosen (Pends c))).lines ≡ ss)
unfolding pends sent_lines delivered_in
pends_still w chosen c = found (at_number w.clients c)
  where
    Still : List Line → Type 0
    Still ls = (delivered_in ls ≡ []) × ((ss : List Sent) → fold sent_after ss ls ≡ ss)

    by : (o : Option CallOp) → Still (sends_all (pends_as w c o)).lines
    by None = (refl, λ ss. refl)
    by (Some op) = (refl, λ ss. refl)

    found : (o : Option ClientAt)
        → Still (sends_all (by_client w (λ (a : ClientAt). pends_as w c (pending_op a.state)) o)).lines
    found None = (refl, λ ss. refl)
    found (Some a) = by (pending_op a.state)

pub pends_clients : (w : World) (chosen : List ℕ) (c j : ℕ) (s : ClientSeen)
    → (fold (sees_client j) s (sends_all (acts w chosen (Pends c))).lines).client ≡ s.client
unfolding pends sent_lines
pends_clients w chosen c j s = found (at_number w.clients c)
  where
    by : (o : Option CallOp) → (fold (sees_client j) s (sends_all (pends_as w c o)).lines).client ≡ s.client
    by None = refl
    by (Some op) = refl

    found : (o : Option ClientAt)
        → (fold (sees_client j) s (sends_all (by_client w (λ (a : ClientAt). pends_as w c (pending_op a.state)) o)).lines).client
        ≡ s.client
    found None = refl
    found (Some a) = by (pending_op a.state)
