-- Each message that is delivered is taken by who hears, and its receiver is deaf else.
use Rattle.std.proofs.Common.{◌≡◌, ◌++◌, ◌∷◌, ℕ, Bool, true, false, List, [], Option, Some, None, slice_get, refl, sym, ap, subst, ◌∙◌, if◌then◌else◌}
use Rattle.std.proofs.lemmas.Option.{same_Some}
use Rattle.osd_lists.specs.declared.node.Node.{Node}
use Rattle.osd_lists.specs.declared.node.Node.TheVariants as node
use Rattle.server_rules.specs.Messages.{Message as ServerMessage}
use Rattle.client_rules.specs.Messages.{Message as ClientMessage}
use Rattle.scenario_text.specs.declared.event.Event.{Event}
use Rattle.scenario_text.specs.declared.event.Event.TheVariants as event
use Rattle.scenario_text.specs.declared.line.Delivery.TheVariants as delivery
use Rattle.scenario_text.specs.declared.line.Line.{Line}
use Rattle.scenario_text.specs.declared.line.Line.TheVariants as line
use Rattle.world_history.specs.declared.messages.Posted.{Posted}
use Rattle.world_history.specs.declared.messages.Sent.{Sent}
use Rattle.world_history.specs.State.{World, DriveAt, ClientAt, at_number}
use Rattle.world_history.specs.Spelled.{party_of}
use Rattle.world_history.specs.Drives.{judges, command_in, is_deaf}
use Rattle.world_history.specs.Handed.{Handed, quiet, drive_hears, drive_replies, server_hears, server_takes, for_server, client_hears, client_takes, for_client, handed_to}
use Rattle.world_history.specs.Moves.{Action, Opens, Delivers, TimesOut, Pends, marked}
use Rattle.world_history.specs.Sending.{Move, move}
use Rattle.world_history.specs.History.{OneEventMore}
use Rattle.world_history.specs.Laws.{shown}
use Rattle.history_law.specs.Moments.{with_event, lines_in}
use Rattle.history_law.specs.Moves.{number_in}
use Rattle.history_law.proofs.DriveLines.{shown_get}
use Rattle.history_law.proofs.Each.{EachBehind}
use Rattle.history_claims.specs.Received.{HearsNothing, Hears, IsDriveUp, IsReceived, ReceivedAt, MessagesAreReceived}
use Rattle.history_claims.proofs.Moved.{receipt_of, Says, PlainLines, ADelivery, ATimeout, AVerdict, ARefusal, says}
use Rattle.history_claims.proofs.Plainly.{IsPlain, Plain}
use Rattle.history_claims.proofs.Places.{at_lines}
use Rattle.history_claims.proofs.Standing.{IsStanding, standing, standing_behind}

-- ---- what becomes of a message

module _ (w : World) (h : List Line) (s : IsStanding w h) (chosen : List ℕ) (n : ℕ) (p : Posted) where
  abbrev v : World
  v = marked w n p

  abbrev So : Handed → Type 0
  So a = IsReceived h a.receipt (party_of p.message.to)

  to_server : p.message.to ≡ node.Server → So (server_hears v chosen p.message)
  to_server to = by w.down refl
    where
      taken : w.down ≡ false → (m : Option ServerMessage) → So (server_takes v chosen p.message.from m)
      taken up None = subst (λ (x : Node). Hears h (party_of x)) (sym to) (s.down ∙ up)
      taken up (Some m) = subst (λ (x : Node). Hears h (party_of x)) (sym to) (s.down ∙ up)

      by : (b : Bool) → w.down ≡ b
          → So (if b then quiet v delivery.Deaf else server_takes v chosen p.message.from (for_server p.message))
      by true down = subst (λ (x : Node). HearsNothing h (party_of x)) (sym to) (s.down ∙ down)
      by false up = taken up (for_server p.message)

  to_drive : (d : ℕ) → p.message.to ≡ node.Drive d → So (drive_hears v d p.message (at_number v.drives d))
  to_drive d to = found (at_number w.drives d) refl
    where
      by : (a : DriveAt) → at_number w.drives d ≡ Some a → (b : Bool) → is_deaf a ≡ b
          → So (if b then quiet v delivery.Deaf else drive_replies v d p.message.from (judges a (command_in p.message.body)))
      by a there true deaf =
          subst (λ (x : Node). HearsNothing h (party_of x)) (sym to)
          (λ x is. subst (λ (y : DriveAt). is_deaf y ≡ true) (same_Some a x (sym (s.drives d ∙ there) ∙ is)) deaf)
      by a there false hears =
          subst (λ (x : Node). IsDriveUp h (party_of x)) (sym to) (a, s.drives d ∙ there, hears)

      found : (o : Option DriveAt) → at_number w.drives d ≡ o → So (drive_hears v d p.message o)
      found None none =
          subst (λ (x : Node). HearsNothing h (party_of x)) (sym to)
          (λ x is. absurd (cc (sym (s.drives d ∙ none) ∙ is)))
      found (Some a) there = by a there (is_deaf a) refl

  to_client : (c : ℕ) → p.message.to ≡ node.Client c → So (client_hears v c p.message (at_number v.clients c))
  to_client c to = found (at_number w.clients c) refl
    where
      taken : (a : ClientAt) → at_number w.clients c ≡ Some a → a.stopped ≡ false → (m : Option ClientMessage)
          → So (client_takes v c a p.message.from m)
      taken a there awake None =
          subst (λ (x : Node). Hears h (party_of x)) (sym to) (a, s.clients c ∙ there, awake)
      taken a there awake (Some m) =
          subst (λ (x : Node). Hears h (party_of x)) (sym to) (a, s.clients c ∙ there, awake)

      by : (a : ClientAt) → at_number w.clients c ≡ Some a → (b : Bool) → a.stopped ≡ b
          → So (if b then quiet v delivery.Deaf else client_takes v c a p.message.from (for_client p.message))
      by a there true stopped =
          subst (λ (x : Node). HearsNothing h (party_of x)) (sym to)
          (λ x is. subst (λ (y : ClientAt). y.stopped ≡ true) (same_Some a x (sym (s.clients c ∙ there) ∙ is)) stopped)
      by a there false awake = taken a there awake (for_client p.message)

      found : (o : Option ClientAt) → at_number w.clients c ≡ o → So (client_hears v c p.message o)
      found None none =
          subst (λ (x : Node). HearsNothing h (party_of x)) (sym to)
          (λ x is. absurd (cc (sym (s.clients c ∙ none) ∙ is)))
      found (Some a) there = by a there a.stopped refl

  handed_on : (to : Node) → p.message.to ≡ to → So (handed_to v chosen p.message to)
  handed_on node.Server to = to_server to
  handed_on (node.Drive d) to = to_drive d to
  handed_on (node.Client c) to = to_client c to

  received : slice_get w.network.messages n ≡ Some p → ReceivedAt h (line.Delivered n (receipt_of w chosen n p))
  received there = record {
    message = shown p;
    sent = ap (λ (ss : List Sent). slice_get ss n) s.messages ∙ shown_get w.network.messages n (Some p) there;
    received = handed_on p.message.to refl;
  }

-- ---- the lines of a move

plain : (b : List Line) (l : Line) → IsPlain l → ReceivedAt b l
plain b (line.Delivered n d) p = absurd p
plain b l p = tt

plain_lines : (b ls : List Line) → Plain ls → EachBehind ReceivedAt b ls
plain_lines b [] k = tt
plain_lines b (l ∷ ls) k = (plain b l k.0, plain_lines (b ++ l ∷ []) ls k.1)

module _ (w : World) (h : List Line) (s : IsStanding w h) (m : Move) where
  all_lines : (b : List Line) → ((n : ℕ) → number_in m.action ≡ Some n → IsStanding w b)
      → Says w m.chosen m.action (move w m).lines → EachBehind ReceivedAt b (move w m).lines
  all_lines b there (PlainLines k) = plain_lines b (move w m).lines k
  all_lines b there (ADelivery n p number found rest k are) =
      subst (EachBehind ReceivedAt b) (sym are)
      (received w b (there n number) m.chosen n p found, plain_lines (b ++ _ ∷ []) rest k)
  all_lines b there (ATimeout c j a is found rest k are) =
      subst (EachBehind ReceivedAt b) (sym are) (tt, plain_lines (b ++ _ ∷ []) rest k)
  all_lines b there (AVerdict d bytes x is rest k are) =
      subst (EachBehind ReceivedAt b) (sym are) (tt, plain_lines (b ++ _ ∷ []) rest k)
  all_lines b there (ARefusal c a why found refuses are) = subst (EachBehind ReceivedAt b) (sym are) (tt, tt)

  -- behind the event's own line
  opened : (e : Event) → m.action ≡ Opens e → (n : ℕ) → number_in m.action ≡ Some n
      → IsStanding w (h ++ line.Event e ∷ [])
  opened e is n number = by e (sym (ap number_in is) ∙ number)
    where
      by : (x : Event) → number_in (Opens x) ≡ Some n → IsStanding w (h ++ line.Event x ∷ [])
      by (event.Deliver k) j = standing_behind w h k s
      by x j = absurd (cc j)

  move_received : EachBehind ReceivedAt h (lines_in w m)
  move_received = by m.action refl
    where
      plainly : EachBehind ReceivedAt h (move w m).lines
      plainly = all_lines h (λ n number. s) (says w m.chosen m.action)

      by : (a : Action) → m.action ≡ a → EachBehind ReceivedAt h (with_event a (move w m).lines)
      by (Opens e) is = (tt, all_lines (h ++ line.Event e ∷ []) (opened e is) (says w m.chosen m.action))
      by (Delivers n) is = plainly
      by (TimesOut c k) is = plainly
      by (Pends c) is = plainly

pub messages_are_received : OneEventMore → MessagesAreReceived
messages_are_received more = at_lines ReceivedAt more (λ w h k m d. move_received w h (standing more w h k) m)
