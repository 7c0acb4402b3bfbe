-- What a client does in an event is read off its lines.
use Rattle.std.proofs.Common.{◌≡◌, ℕ, ◌++◌, ◌∷◌, [], List, Bool, true, false, Option, Some, None, Result, Ok, Err, ◌==◌, map, is_some, refl, sym, ap, subst, ◌∙◌, inl, inr, if◌then◌else◌}
use Rattle.std.proofs.lemmas.Bool.{cases_eq, eq-eqb, ne_eqb}
use Rattle.osd_objects.proofs.Entries.{lookup_inserted, lookup_beside}
use Rattle.world_history.specs.ClientNames.{CallOp, CallErr}
use Rattle.client_rules.specs.Messages.{Step as ClientStep}
use Rattle.client_rules.specs.Steps.{new_client, calls}
use Rattle.client_rules.specs.History as client
use Rattle.scenario_text.specs.declared.event.Event.{Event}
use Rattle.scenario_text.specs.declared.event.Event.TheVariants as event
use Rattle.scenario_text.specs.declared.event.Sender.TheVariants as sender
use Rattle.scenario_text.specs.declared.line.Refusal.TheVariants as refusal
use Rattle.scenario_text.specs.declared.line.Line.{Line}
use Rattle.scenario_text.specs.declared.line.Line.TheVariants as line
use Rattle.world_history.specs.declared.messages.Posted.{Posted}
use Rattle.world_history.specs.declared.messages.Sent.{Sent}
use Rattle.world_history.specs.State.{World, ClientAt, at_number, and_number, with_client}
use Rattle.world_history.specs.Handed.{client_goes, client_did, pending_op}
use Rattle.world_history.specs.Moves.{acted, behind, by_client, called, times_out, pends_as, pends, adds_client, changed, tells, stops}
use Rattle.world_history.specs.Laws.{shown}
use Rattle.history_law.proofs.DriveLines.{view}
use Rattle.cause_law.specs.ReadClients as read
use Rattle.cause_law.specs.ReadClients.{ClientSeen, went, where_it_is, sees_client}
use Rattle.cause_law.specs.ReadCalls.{call_input, only_for, event_input, line_input, CallSeen, call_seen}
use Rattle.cause_law.proofs.CallMoves.{AreSeen, seen_more, IsTold, none_still, refused_still, pending_still, still_told, none_changed, one_changed, same_changed, last_is, goes_told, line_told}

-- ---- a line of an event, or of a timeout

-- what is read behind a line that changes no message
module _ (w : World) (h : List Line) (r : AreSeen w h) (l : Line) where
  -- as the line says of a client
  pub behind_line : (v : World) → v.network.messages ≡ w.network.messages
      → ((c : ℕ) (s : List Sent) → (sees_client c (record { sent = s; client = at_number w.clients c }) l)
      ≡ record { sent = s; client = at_number v.clients c })
      → AreSeen v (h ++ l ∷ [])
  behind_line v messages is c =
      let seen = ap (λ (s : CallSeen). s.seen) (seen_more c h (l ∷ []))
      ∙ ap (λ (s : ClientSeen). sees_client c s l) (seen_as c) ∙ is c (view w) in
      record {
        sent = ap (λ (s : ClientSeen). s.sent) seen ∙ ap (λ (ps : List Posted). map shown ps) (sym messages);
        client = ap (λ (s : ClientSeen). s.client) seen;
      }
    where
      seen_as : (c : ℕ) → (call_seen c h).seen ≡ record { sent = view w; client = at_number w.clients c }
      seen_as c = λ i. record { sent = (r c).sent i; client = (r c).client i }

-- an event whose line says nothing of clients and messages
pub plain_line : (w : World) (h : List Line) (l : Line) → AreSeen w h
    → ((c : ℕ) (s : ClientSeen) → sees_client c s l ≡ s) → AreSeen w (h ++ l ∷ [])
plain_line w h l r same = behind_line w h r l w refl (λ c s. same c (record { sent = s; client = at_number w.clients c }))

-- ---- a client is called, times out, leaves or sends again

module _ (w : World) (h : List Line) (r : AreSeen w h) (l : Line) (k : ℕ) (f : ClientAt → ClientAt)
    (is_where : (c : ℕ) (s : List Sent) (o : Option ClientAt)
    → sees_client c (record { sent = s; client = o }) l ≡ record { sent = s; client = where_it_is k c f o }) where
  -- it isn't there
  gone : at_number w.clients k ≡ None → AreSeen w (h ++ l ∷ [])
  gone none =
      behind_line w h r l w refl
      (λ c s. is_where c s (at_number w.clients c)
      ∙ ap (λ (o : Option ClientAt). record { sent = s; client = o }) (none_changed w k c f none))

  module _ (a : ClientAt) (there : at_number w.clients k ≡ Some a) where
    -- it stays as it is
    same : f a ≡ a → AreSeen w (h ++ l ∷ [])
    same is =
        behind_line w h r l w refl
        (λ c s. is_where c s (at_number w.clients c)
        ∙ ap (λ (o : Option ClientAt). record { sent = s; client = o }) (same_changed w k c f a there is))

    becomes : (b : ClientAt) → f a ≡ b → AreSeen (with_client w k b) (h ++ l ∷ [])
    becomes b is =
        behind_line w h r l (with_client w k b) refl
        (λ c s. is_where c s (at_number w.clients c)
        ∙ ap (λ (o : Option ClientAt). record { sent = s; client = o }) (one_changed w k c f a b there is))

    -- this comes to it
    goes : (i : client.Input) → f a ≡ went a i (client.step a.state i)
        → line_input k (call_seen k h).seen.sent l a ≡ Some i
        → IsTold (h ++ l ∷ []) (acted (client_goes w k a i))
    goes i is comes =
        goes_told w k a i (h ++ l ∷ []) (becomes (went a i (client.step a.state i)) is) (call_seen k h).last
        (last_is k h l a i ((r k).client ∙ there) comes)

one_only : (k : ℕ) (i : Option client.Input) → only_for k k i ≡ i
one_only k i = ap (λ (b : Bool). if b then i else None) (eq-eqb k k refl)

-- ---- the actions of a client

module _ (w : World) (h : List Line) (r : AreSeen w h) where
  -- a call, in the line of its event
  module _ (e : Event) (k : ℕ) (op : CallOp)
      (is_where : (c : ℕ) (s : List Sent) (o : Option ClientAt)
      → sees_client c (record { sent = s; client = o }) (line.Event e)
      ≡ record { sent = s; client = where_it_is k c (read.called op) o })
      (comes : (c : ℕ) (a : ClientAt) → event_input c a e ≡ only_for k c (call_input op (calls a.state op))) where
    by_calls : (a : ClientAt) → at_number w.clients k ≡ Some a → (t : Result ClientStep CallErr) → calls a.state op ≡ t
        → IsTold (h ++ line.Event e ∷ []) (called w k a op t)
    by_calls a there (Err x) is =
        still_told w (h ++ line.Event e ∷ []) _
        (same w h r (line.Event e) k (read.called op) is_where a there (ap (read.called_as a op) is))
        (record { messages = refl; clients = refl; told = refused_still k _ })
    by_calls a there (Ok t) is =
        let goes_on : client.step a.state (client.Calls op) ≡ t = ap (client.unless_refused a.state) is in
        subst (λ (s : ClientStep). IsTold (h ++ line.Event e ∷ []) (acted (client_did w k a (client.Calls op) s))) goes_on
        (goes w h r (line.Event e) k (read.called op) is_where a there (client.Calls op)
        (ap (read.called_as a op) is ∙ ap (went a (client.Calls op)) (sym goes_on))
        (comes k a ∙ one_only k (call_input op (calls a.state op)) ∙ ap (call_input op) is))

    pub called_told : (o : Option ClientAt) → at_number w.clients k ≡ o
        → IsTold (h ++ line.Event e ∷ []) (by_client w (λ (a : ClientAt). called w k a op (calls a.state op)) o)
    called_told None none =
        still_told w (h ++ line.Event e ∷ []) _ (gone w h r (line.Event e) k (read.called op) is_where none)
        (record { messages = refl; clients = refl; told = none_still })
    called_told (Some a) there = by_calls a there (calls a.state op) refl

  -- a timeout, in a line of its own
  timed_where : (k j c : ℕ) (s : List Sent) (o : Option ClientAt)
      → sees_client c (record { sent = s; client = o }) (line.TimedOut k j)
      ≡ record { sent = s; client = where_it_is k c (read.goes (client.TimesOut j)) o }
  timed_where k j c s o = refl

  timed_told : (k j : ℕ) (o : Option ClientAt) → at_number w.clients k ≡ o
      → IsTold h (by_client w (λ (a : ClientAt). behind (line.TimedOut k j) (client_goes w k a (client.TimesOut j))) o)
  timed_told k j None none = still_told w h _ r (record { messages = refl; clients = refl; told = none_still })
  timed_told k j (Some a) there =
      line_told h (line.TimedOut k j) (acted (client_goes w k a (client.TimesOut j))) tt
      (goes w h r (line.TimedOut k j) k (read.goes (client.TimesOut j)) (timed_where k j) a there (client.TimesOut j) refl
      (one_only k (Some (client.TimesOut j))))

  pub times_out_told : (k j : ℕ) → IsTold h (times_out w k j)
  unfolding times_out
  times_out_told k j = timed_told k j (at_number w.clients k) refl

  -- it sends again
  pub resends_told : (k : _) (o : Option ClientAt) → at_number w.clients k ≡ o
      → IsTold (h ++ line.Event (event.Resend (sender.Client k)) ∷ [])
      (by_client w (λ (a : ClientAt). acted (client_goes w k a client.Resends)) o)
  resends_told k None none =
      still_told w _ _ (gone w h r (line.Event (event.Resend (sender.Client k))) k (read.goes client.Resends)
      (λ c s o. refl) none) (record { messages = refl; clients = refl; told = none_still })
  resends_told k (Some a) there =
      goes w h r (line.Event (event.Resend (sender.Client k))) k (read.goes client.Resends) (λ c s o. refl) a there
      client.Resends refl (one_only k (Some client.Resends))

  -- it leaves, unless it has a call
  leaves_by : (k : _) (a : ClientAt) → at_number w.clients k ≡ Some a → (b : Bool) → is_some a.state.call ≡ b
      → IsTold (h ++ line.Event (event.Leave k) ∷ [])
      (if b then tells w (line.Refused k refusal.Busy)
      else acted (client_goes w k a client.Leaves))
  leaves_by k a there true busy =
      still_told w _ _ (same w h r (line.Event (event.Leave k)) k read.left (λ c s o. refl) a there
      (ap (λ (b : Bool). if b then a else read.goes client.Leaves a) busy))
      (record { messages = refl; clients = refl; told = refused_still k _ })
  leaves_by k a there false free =
      goes w h r (line.Event (event.Leave k)) k read.left (λ c s o. refl) a there client.Leaves
      (ap (λ (b : Bool). if b then a else read.goes client.Leaves a) free)
      (one_only k _ ∙ ap (λ (b : Bool). if b then None else Some client.Leaves) free)

  pub leaves_told : (k : _) (o : Option ClientAt) → at_number w.clients k ≡ o
      → IsTold (h ++ line.Event (event.Leave k) ∷ [])
      (by_client w (λ (a : ClientAt). if is_some a.state.call then tells w (line.Refused k refusal.Busy)
      else acted (client_goes w k a client.Leaves)) o)
  leaves_told k None none =
      still_told w _ _ (gone w h r (line.Event (event.Leave k)) k read.left (λ c s o. refl) none)
      (record { messages = refl; clients = refl; told = none_still })
  leaves_told k (Some a) there = leaves_by k a there (is_some a.state.call) refl

  -- it is stopped
  pub stops_told : (k : _) (o : Option ClientAt) → at_number w.clients k ≡ o
      → IsTold (h ++ line.Event (event.Stop k) ∷ []) (changed (stops w k o))
  stops_told k None none =
      still_told w _ _ (gone w h r (line.Event (event.Stop k)) k read.halted (λ c s o. refl) none)
      (record { messages = refl; clients = refl; told = none_still })
  stops_told k (Some a) there =
      still_told (with_client w k (read.halted a)) _ _
      (becomes w h r (line.Event (event.Stop k)) k read.halted (λ c s o. refl) a there (read.halted a) refl)
      (record { messages = refl; clients = refl; told = none_still })

  -- it comes
  pub comes_told : (k : _) → IsTold (h ++ line.Event (event.Client k) ∷ []) (changed (adds_client w k))
  comes_told k =
      still_told (adds_client w k) _ _
      (behind_line w h r (line.Event (event.Client k)) (adds_client w k) refl
      (λ c s. ap (λ (o : Option ClientAt). record { sent = s; client = o }) (added c)))
      (record { messages = refl; clients = refl; told = none_still })
    where
      new : ClientAt
      new = record { state = new_client k 1; stopped = false; wrote = false }

      added : (c : ℕ) → (if k == c then Some new else at_number w.clients c) ≡ at_number (and_number w.clients k new) c
      added c = elim (cases_eq k c) [
        | inl it ↦ ap (λ (b : Bool). if b then Some new else at_number w.clients c) (eq-eqb k c it)
            ∙ sym (lookup_inserted w.clients k new) ∙ ap (λ (n : ℕ). at_number (and_number w.clients k new) n) it
        | inr other ↦ ap (λ (b : Bool). if b then Some new else at_number w.clients c) (ne_eqb k c other)
            ∙ sym (lookup_beside w.clients k c new (λ (e : c ≡ k). other (sym e)))
      ]

  -- its call is left pending
  pends_by : (k : ℕ) (op : Option CallOp) → IsTold h (pends_as w k op)
  pends_by k None = still_told w h _ r (record { messages = refl; clients = refl; told = none_still })
  pends_by k (Some op) = still_told w h _ r (record { messages = refl; clients = refl; told = pending_still k _ })

  pends_at : (k : ℕ) (o : Option ClientAt) → IsTold h (by_client w (λ (a : ClientAt). pends_as w k (pending_op a.state)) o)
  pends_at k None = still_told w h _ r (record { messages = refl; clients = refl; told = none_still })
  pends_at k (Some a) = pends_by k (pending_op a.state)

  pub pends_told : (k : ℕ) → IsTold h (pends w k)
  unfolding pends
  pends_told k = pends_at k (at_number w.clients k)
