-- A move that goes to one client, or to others without a call, tells and sends of that client alone.
use Rattle.std.proofs.Common.{◌≡◌, ◌⊎◌, ◌&&◌, ◌+◌, nat_lt, ℕ, Bool, true, false, List, [], ◌∷◌, ◌++◌, length, filter, map, slice_get, Option, Some, None, refl, sym, ap, subst, ◌∙◌, inl, inr}
use Rattle.std.specs.Prelude.{option_map}
use Rattle.std.specs.List.{filter_map, cons_option}
use Rattle.std.proofs.lemmas.Option.{same_Some}
use Rattle.osd_lists.specs.declared.node.Node.{Node}
use Rattle.osd_lists.specs.declared.node.Node.TheVariants as node
use Rattle.scenario_text.specs.declared.event.Call.{Call as EventCall}
use Rattle.scenario_text.specs.declared.event.Event.TheVariants as event
use Rattle.scenario_text.specs.declared.line.Delivery.{Delivery}
use Rattle.scenario_text.specs.declared.line.Delivery.TheVariants as delivery
use Rattle.scenario_text.specs.declared.line.Outcome.{Outcome as ToldOutcome}
use Rattle.scenario_text.specs.declared.line.Line.{Line}
use Rattle.scenario_text.specs.declared.line.Line.TheVariants as line
use Rattle.scenario_text.specs.declared.names.TheConstants.{FILES}
use Rattle.server_rules.specs.Laws.{In}
use Rattle.server_rules.proofs.Members.{in_mapped, in_filtered}
use Rattle.server_rules.specs.History as server
use Rattle.client_rules.specs.Envelopes.{receiver}
use Rattle.client_rules.specs.History.{Input, Calls, Hears, TimesOut, Leaves, Resends, step}
use Rattle.client_rules.specs.Messages.{awaited_of}
use Rattle.world_history.specs.ServerNames.{Note}
use Rattle.world_history.specs.ServerNames as server_rules
use Rattle.world_history.specs.ClientNames.{Call, CallOp, Outcome, Outgoing}
use Rattle.world_history.specs.Handed.{Post, is_addressed, client_posts, server_post, pending_op, ended_by, end_line, op_in, wrote_in, data_in}
use Rattle.world_history.specs.Moves as moves
use Rattle.world_history.specs.Moves.{Act, Action, Opens, Delivers, Pends, acts, op_of}
use Rattle.world_history.specs.Names.{is_tellable_note, where_known, note_line, known_note_line, known_outcome}
use Rattle.world_history.specs.Sending.{Move, move, sent_line, sent_lines}
use Rattle.world_history.specs.Spelled.{party_of}
use Rattle.world_history.specs.Told.{kind_of}
use Rattle.world_history.specs.State.{World, ClientAt, at_number}
use Rattle.world_history.specs.declared.messages.Message.{Message}
use Rattle.world_history.specs.declared.messages.Posted.{Posted}
use Rattle.history_law.specs.Moves.{MoveCases, ForClient, IsForClient, AreQuiet, front_of, number_in, asked_in}
use Rattle.history_law.proofs.Moves.{each_act, front_cases}
use Rattle.exchange_law.proofs.PendingTurns.{EndsAs, turn_ends}
use Rattle.headline_law.proofs.NotLoggedMoves.{posted_out, to_drive_is}
use Rattle.headline_law.proofs.SentAwaited.{sends_awaited}
use Rattle.headline_law.specs.Working.{CallWorks}
use Rattle.history_claims.specs.Plain.{IsBy, IsOnlyOf, AreOnlyOf}

-- ---- to whom a move goes

-- a client that a move hands something is this one, or has no call and isn't called
abbrev pub GoesOnlyTo : World → (client : ℕ) → Action → Type 0
GoesOnlyTo w c action =
    (k : ℕ) (a : ClientAt) → at_number w.clients k ≡ Some a → (i : Input) → IsForClient w action k a i →
    (k ≡ c) ⊎ ((a.state.call ≡ None) × ((op : CallOp) → i ≡ Calls op → ⊥))

-- so it is of who receives a message
abbrev pub IsReceived : World → (client : ℕ) → Message → Type 0
IsReceived w c m =
    (k : ℕ) → m.to ≡ node.Client k →
    (k ≡ c) ⊎ ((a : ClientAt) → at_number w.clients k ≡ Some a → a.state.call ≡ None)

pub delivered_to : (w : World) (c number : ℕ) (p : Posted) → slice_get w.network.messages number ≡ Some p →
    IsReceived w c p.message → GoesOnlyTo w c (Delivers number)
delivered_to w c number p found to k a there (Hears from m) is =
    let d = is.0 in
    let same : number ≡ d.number = cc is.3 in
    let its : p ≡ d.posted = cc (sym found ∙ ap (slice_get w.network.messages) same ∙ d.there) in
    elim (to k (ap (λ (q : Posted). q.message.to) its ∙ d.receiver)) [
      | inl e ↦ inl e
      | inr free ↦ inr (free a there, λ op e. cc e)
    ]
delivered_to w c number p found to k a there (Calls op) is = absurd (cc is)
delivered_to w c number p found to k a there (TimesOut j) is = absurd (cc is)
delivered_to w c number p found to k a there Leaves is = absurd (cc is)
delivered_to w c number p found to k a there Resends is = absurd (cc is)

number_of : (r x : ForClient) → Some r ≡ Some x → r.number ≡ x.number
number_of r x e = ap (λ (y : ForClient). y.number) (same_Some r x e)

-- an action that asks this of a client hands no other anything
asked_to : (w : World) (c : ℕ) (action : Action) (r : ForClient) → number_in action ≡ None → asked_in action ≡ Some r →
    r.number ≡ c → GoesOnlyTo w c action
asked_to w c action r none asks same k a there i is = by i is
  where
    by : (i : Input) → IsForClient w action k a i → (k ≡ c) ⊎ ((a.state.call ≡ None) × ((op : CallOp) → i ≡ Calls op → ⊥))
    by (Hears from m) is = absurd (cc (sym none ∙ is.3))
    by (Calls op) is = inl (sym (number_of r (record { number = k; input = Calls op }) (sym asks ∙ is)) ∙ same)
    by (TimesOut j) is = inl (sym (number_of r (record { number = k; input = TimesOut j }) (sym asks ∙ is)) ∙ same)
    by Leaves is = inl (sym (number_of r (record { number = k; input = Leaves }) (sym asks ∙ is)) ∙ same)
    by Resends is = inl (sym (number_of r (record { number = k; input = Resends }) (sym asks ∙ is)) ∙ same)

pub timed_to : (w : World) (c j : ℕ) → GoesOnlyTo w c (moves.TimesOut c j)
timed_to w c j = asked_to w c (moves.TimesOut c j) (record { number = c; input = TimesOut j }) refl refl refl

pub opens_to : (w : World) (c : ℕ) (x : EventCall) → GoesOnlyTo w c (Opens (event.Do c x))
opens_to w c x =
    asked_to w c (Opens (event.Do c x)) (record { number = c; input = Calls (op_of x) }) refl refl refl

pub pends_to : (w : World) (c j : ℕ) → GoesOnlyTo w c (Pends j)
pends_to w c j k a there (Hears from m) is = absurd (cc is.3)
pends_to w c j k a there (Calls op) is = absurd (cc is)
pends_to w c j k a there (TimesOut i) is = absurd (cc is)
pends_to w c j k a there Leaves is = absurd (cc is)
pends_to w c j k a there Resends is = absurd (cc is)

-- ---- lines of one client

pub and_one : (c : ℕ) (l : Line) (ls : List Line) → IsOnlyOf c l → AreOnlyOf c ls → AreOnlyOf c (l ∷ ls)
and_one c l ls one rest y (inl e) = subst (IsOnlyOf c) (sym e) one
and_one c l ls one rest y (inr i) = rest y i

pub both_only : (c : ℕ) (xs ys : List Line) → AreOnlyOf c xs → AreOnlyOf c ys → AreOnlyOf c (xs ++ ys)
both_only c [] ys p q = q
both_only c (x ∷ xs) ys p q = and_one c x (xs ++ ys) (p x (inl refl)) (both_only c xs ys (λ l i. p l (inr i)) q)

-- a client without a call, that isn't called, has none behind its turn
none_behind : (o : Option CallOp) (x : Option Outcome) (call : Option Call) → o ≡ None → EndsAs o x call → call ≡ None
none_behind o (Some y) call none e = e
none_behind o None None none e = refl
none_behind o None (Some z) none e = absurd (cc (e ∙ none))

about_none : (a : ClientAt) (i : Input) → a.state.call ≡ None → ((op : CallOp) → i ≡ Calls op → ⊥) → op_in a.state i ≡ None
about_none a (Calls op) free other = absurd (other op refl)
about_none a (Hears from m) free other = ap (option_map (λ (z : Call). z.op)) free
about_none a (TimesOut k) free other = ap (option_map (λ (z : Call). z.op)) free
about_none a Leaves free other = ap (option_map (λ (z : Call). z.op)) free
about_none a Resends free other = ap (option_map (λ (z : Call). z.op)) free

module _ (w : World) (chosen : List ℕ) (c : ℕ) where
  -- what an act tells and sends is of the client alone
  pub record IsAlone (a : Act) : Type 0 where
    pub told : AreOnlyOf c a.told
    pub sent : (p : Post) → In p a.posts → (k d : ℕ) → p.message.from ≡ node.Client k → p.message.to ≡ node.Drive d → k ≡ c

  -- ---- what is told

  none_told : AreOnlyOf c []
  none_told l i = absurd i

  quiet_told : (ls : List Line) → AreQuiet ls → AreOnlyOf c ls
  quiet_told [] q = none_told
  quiet_told (l ∷ ls) q = and_one c l ls (inl q.0) (quiet_told ls q.1)

  notes_told : (ns : List Note) → AreOnlyOf c (filter_map known_note_line ns)
  notes_told [] = none_told
  notes_told (n ∷ ns) = by (nat_lt n.file FILES && is_tellable_note n.kind) (notes_told ns)
    where
      by : (b : Bool) → AreOnlyOf c (filter_map known_note_line ns) →
          AreOnlyOf c (cons_option (where_known b (note_line n)) (filter_map known_note_line ns))
      by true rest = and_one c _ (filter_map known_note_line ns) (inr tt) rest
      by false rest = rest

  end_told : (k : ℕ) → k ≡ c → (op : Option CallOp) (o : Option Outcome) → AreOnlyOf c (ended_by k op o)
  end_told k same None o = none_told
  end_told k same (Some op) None = none_told
  end_told k same (Some op) (Some o) = at_ (known_outcome (kind_of op) o)
    where
      at_ : (u : Option ToldOutcome) → AreOnlyOf c (end_line k u)
      at_ None = none_told
      at_ (Some u) = and_one c (line.Ended k u) [] (inr same) none_told

  module _ (action : Action) where
    front_told : (d : Delivery) (ls : List Line) → AreOnlyOf c ls → AreOnlyOf c (front_of action d ++ ls)
    front_told d ls rest =
        front_cases (λ (front : List Line). AreOnlyOf c (front ++ ls)) rest (λ number x. and_one c _ ls (inr tt) rest)
        (λ k j. and_one c _ ls (inr tt) rest) action d

    module _ (only : GoesOnlyTo w c action) where
      module _ (k : ℕ) (a : ClientAt) (i : Input) where
        abbrev all_posts : List Post
        all_posts = client_posts k (wrote_in a i) (data_in (op_in a.state i)) (step a.state i).sends

        own_sent : k ≡ c → (p : Post) → In p (filter is_addressed all_posts) → (q d : ℕ) → p.message.from ≡ node.Client q →
            p.message.to ≡ node.Drive d → q ≡ c
        own_sent same p j q d from to =
            let r = posted_out k (wrote_in a i) (data_in (op_in a.state i)) (step a.state i).sends p
            (in_filtered is_addressed p all_posts j).0 in
            let named : node.Client k ≡ node.Client q = sym (ap (λ (z : Post). z.message.from) r.3) ∙ from in
            let its : k ≡ q = cc named in sym its ∙ same

        module _ (free : a.state.call ≡ None) (other : (op : CallOp) → i ≡ Calls op → ⊥) where
          behind : (step a.state i).client.call ≡ None
          behind =
              none_behind (pending_op a.state) (step a.state i).outcome (step a.state i).client.call
              (ap (option_map (λ (z : Call). z.op)) free) (turn_ends a.state i other)

          none_sent : (p : Post) → In p (filter is_addressed all_posts) → (q d : ℕ) → p.message.from ≡ node.Client q →
              p.message.to ≡ node.Drive d → q ≡ c
          none_sent p j q d from to =
              let r = posted_out k (wrote_in a i) (data_in (op_in a.state i)) (step a.state i).sends p
              (in_filtered is_addressed p all_posts j).0 in
              let goes : receiver r.0 ≡ node.Drive d = sym (ap (λ (z : Post). z.message.to) r.3) ∙ to in
              let z = to_drive_is r.0 d goes in
              let x = sends_awaited a.state i (subst (CallWorks a.state.held) (sym free) tt) z.0 z.1
              (subst (λ (o : Outgoing). In o (step a.state i).sends) z.2 r.1) in
              absurd (subst (λ (o : Option Call). In x.0 (awaited_of o)) behind x.1)

          free_told : AreOnlyOf c (ended_by k (op_in a.state i) (step a.state i).outcome)
          free_told =
              subst (λ (o : Option CallOp). AreOnlyOf c (ended_by k o (step a.state i).outcome))
              (sym (about_none a i free other)) none_told

      cases : MoveCases w chosen action IsAlone
      cases = record {
        rests = λ ms said told quiet. record { told = quiet_told told quiet; sent = λ p j. absurd j };
        refused = λ k a found op is e why. record {
          told =
              and_one c _ [] (inr (elim (only k a found (Calls op) is) [
                | inl same ↦ same
                | inr z ↦ absurd (z.1 op refl)
              ])) none_told;
          sent = λ p j. absurd j;
        };
        clock = λ time. record { told = none_told; sent = λ p j. absurd j };
        serves = λ ms said i is. record {
          told =
              front_told delivery.Taken (filter_map known_note_line (server.step w.server chosen i).notes)
              (notes_told (server.step w.server chosen i).notes);
          sent = λ p j k d from.
              absurd (not_server p (server.step w.server chosen i).sends
              (in_filtered is_addressed p (map server_post (server.step w.server chosen i).sends) j).0 k from);
        };
        goes = λ ms said k a found i is. elim (only k a found i is) [
          | inl same ↦ record {
            told =
                front_told delivery.Taken (ended_by k (op_in a.state i) (step a.state i).outcome)
                (end_told k same (op_in a.state i) (step a.state i).outcome);
            sent = own_sent k a i same;
          }
          | inr z ↦ record {
            told =
                front_told delivery.Taken (ended_by k (op_in a.state i) (step a.state i).outcome)
                (free_told k a i z.0 z.1);
            sent = none_sent k a i z.0 z.1;
          }
        ];
        comes = λ k is. record { told = none_told; sent = λ p j. absurd j };
        stops = λ k a found. record { told = none_told; sent = λ p j. absurd j };
        judged = λ ms said d a found hears m number. record {
          told = and_one c _ [] (inr tt) none_told;
          sent = λ p j k e from. elim j [
            | inl it ↦ absurd (not_drive d k (sym (ap (λ (q : Post). q.message.from) it) ∙ from))
            | inr none ↦ absurd none
          ];
        };
        injected = λ d bytes is a found. record { told = and_one c _ [] (inr tt) none_told; sent = λ p j. absurd j };
        turns = λ d a b found turns. record { told = none_told; sent = λ p j. absurd j };
        known = λ d key capacity stored is knows. record { told = none_told; sent = λ p j. absurd j };
        adds = λ d key capacity stored is knows. record { told = none_told; sent = λ p j. absurd j };
      }
        where
          not_server : (p : Post) (os : List server_rules.Outgoing) → In p (map server_post os) → (k : ℕ) →
              p.message.from ≡ node.Client k → ⊥
          not_server p os j k from =
              let r = in_mapped server_post p os j in
              let e : node.Server ≡ node.Client k = sym (ap (λ (q : Post). q.message.from) r.2) ∙ from in cc e

          not_drive : (d k : ℕ) → node.Drive d ≡ node.Client k → ⊥
          not_drive d k e = cc e

      pub is_alone : IsAlone (acts w chosen action)
      is_alone = each_act w chosen IsAlone action cases

-- ---- its messages

message_only : (c number : ℕ) (bytes : List ℕ) (from to : Node) →
    ((k d : ℕ) → from ≡ node.Client k → to ≡ node.Drive d → k ≡ c) →
    IsBy c (line.Message number (party_of from) (party_of to) bytes)
message_only c number bytes (node.Client k) (node.Drive d) its = its k d refl refl
message_only c number bytes (node.Client k) (node.Client d) its = tt
message_only c number bytes (node.Client k) node.Server its = tt
message_only c number bytes (node.Drive k) to its = tt
message_only c number bytes node.Server to its = tt

sent_only : (c number : ℕ) (ps : List Post) →
    ((p : Post) → In p ps → (k d : ℕ) → p.message.from ≡ node.Client k → p.message.to ≡ node.Drive d → k ≡ c) →
    AreOnlyOf c (sent_lines number ps)
unfolding sent_lines
sent_only c number [] its = λ l i. absurd i
sent_only c number (p ∷ ps) its =
    and_one c (sent_line number p.message) (sent_lines (number + 1) ps)
    (inr (message_only c number _ p.message.from p.message.to (its p (inl refl))))
    (sent_only c (number + 1) ps (λ q i. its q (inr i)))

-- The lines of the move are of the client alone.
pub move_only : (w : World) (m : Move) (c : ℕ) → GoesOnlyTo w c m.action → AreOnlyOf c (move w m).lines
move_only w m c only =
    let a : Act = acts w m.chosen m.action in
    let k = is_alone w m.chosen c m.action only in
    both_only c a.told (sent_lines (length a.world.network.messages) a.posts) k.told
    (sent_only c (length a.world.network.messages) a.posts k.sent)
