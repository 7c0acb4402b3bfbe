-- Each move tells of the drives what it does, so they are read off every history.
use Rattle.std.proofs.Common.{◌≡◌, ℕ, ◌++◌, ◌∷◌, [], List, Bool, true, false, Option, Some, None, IsSome, Result, Ok, Err, is_some, length, fold, slice_get, option_map, refl, sym, ap, subst, ◌∙◌, inl, inr, if◌then◌else◌}
use Rattle.std.proofs.lemmas.Bool.{cases_eq}
use Rattle.std.proofs.lemmas.Option.{same_Some}
use Rattle.osd_lists.specs.declared.node.Node.{Node}
use Rattle.osd_lists.specs.declared.node.Node.TheVariants as node
use Rattle.osd_objects.proofs.Entries.{lookup_set, lookup_set_beside}
use Rattle.server_rules.specs.Files.{Step as ServerStep}
use Rattle.server_rules.specs.Making.{create_file}
use Rattle.server_rules.specs.Messages.{Message as ServerMessage}
use Rattle.server_rules.specs.History.{Hears as ServerHears, step as server_step}
use Rattle.server_rules.specs.History as server_input
use Rattle.client_rules.specs.Messages.{Message as ClientMessage, Step as ClientStep}
use Rattle.client_rules.specs.Steps.{calls}
use Rattle.client_rules.specs.History as client_input
use Rattle.scenario_text.specs.declared.line.Delivery.{Delivery}
use Rattle.scenario_text.specs.declared.line.Delivery.TheVariants as delivery
use Rattle.scenario_text.specs.declared.line.Party.TheVariants as party
use Rattle.scenario_text.specs.declared.line.Line.{Line}
use Rattle.scenario_text.specs.declared.line.Line.TheVariants as line
use Rattle.world_history.specs.ServerNames as server_rules
use Rattle.world_history.specs.ClientNames as client_rules
use Rattle.world_history.specs.declared.messages.Message.{Message}
use Rattle.world_history.specs.declared.messages.Posted.{Posted}
use Rattle.world_history.specs.declared.messages.Sent.{Sent}
use Rattle.world_history.specs.State.{DriveAt, ClientAt, World, at_number, with_number}
use Rattle.world_history.specs.Spelled.{spelled, party_of}
use Rattle.world_history.specs.Drives.{judges, command_in, is_deaf}
use Rattle.world_history.specs.Handed.{Handed, quiet, drive_hears, drive_replies, server_hears, server_takes, client_hears, client_takes, client_goes, for_client, for_server, handed_to, op_in, wrote_in, data_in, pending_op}
use Rattle.world_history.specs.Moves.{Act, marked, told_delivered, delivers_found, delivers, by_client, called, calls_at, times_out, leaves, resends, pends_as, pends, made_file, makes, gives, has_algorithm}
use Rattle.world_history.specs.Sending.{sent_lines}
use Rattle.world_history.specs.Reading.{sent_in}
use Rattle.world_history.specs.ReadDrives.{sees_drive, drive_after, hears_bytes, hears_sent}
use Rattle.world_history.specs.Laws.{shown}
use Rattle.history_law.specs.Judging.{Delivers, IsDelivered}
use Rattle.history_law.proofs.Each.{HoldsAt, each_more, seen, AreQuiet, none_quiet, timeout_quiet, refused_quiet, ended_quiet, noted_quiet, quiet_notes, quiet_ended, FromNoDrive, from_server, from_client, sent_say}
use Rattle.history_law.proofs.Replying.{at_it, at_another, at_server, at_client}
use Rattle.history_law.proofs.DriveLines.{view, shown_get, sent_read, drive_read, AreRead, IsTold, IsQuietAct, same_seen, quiet_told, delivery_read, says_verdict, replies}

-- ---- a message comes to the server, to a client, or to a drive that doesn't hear it

abbrev IsUnjudged : Delivery → Type 0
IsUnjudged (delivery.Judged v) = ⊥
IsUnjudged del = Unit {0}

record IsQuietHand (w : World) (h : Handed) : Type 0 where
  messages : h.world.network.messages ≡ w.network.messages
  drives : h.world.drives ≡ w.drives
  told : AreQuiet h.told
  posts : FromNoDrive h.posts
  unjudged : IsUnjudged h.receipt

deaf_hand : (w : World) → IsQuietHand w (quiet w delivery.Deaf)
deaf_hand w = record { messages = refl; drives = refl; told = none_quiet; posts = tt; unjudged = tt }

server_hand : (w : World) (chosen : List ℕ) (from : Node) (m : Option ServerMessage)
    → IsQuietHand w (server_takes w chosen from m)
server_hand w chosen from None = record {
  messages = refl;
  drives = refl;
  told = none_quiet;
  posts = tt;
  unjudged = tt;
}
server_hand w chosen from (Some m) = record {
  messages = refl;
  drives = refl;
  told = quiet_notes (server_step w.server chosen (ServerHears w.clock from m)).notes;
  posts = from_server (server_step w.server chosen (ServerHears w.clock from m)).sends;
  unjudged = tt;
}

server_heard : (w : World) (chosen : List ℕ) (m : Message) → IsQuietHand w (server_hears w chosen m)
server_heard w chosen m = either w.down
  where
    either : (b : Bool)
        → IsQuietHand w (if b then quiet w delivery.Deaf else server_takes w chosen m.from (for_server m))
    either true = deaf_hand w
    either false = server_hand w chosen m.from (for_server m)

client_hand : (w : World) (c : ℕ) (a : ClientAt) (from : Node) (m : Option ClientMessage)
    → IsQuietHand w (client_takes w c a from m)
client_hand w c a from None = record {
  messages = refl;
  drives = refl;
  told = none_quiet;
  posts = tt;
  unjudged = tt;
}
client_hand w c a from (Some m) = record {
  messages = refl;
  drives = refl;
  told = quiet_ended c (pending_op a.state) (client_input.step a.state (client_input.Hears from m)).outcome;
  posts = from_client c _ _ (client_input.step a.state (client_input.Hears from m)).sends;
  unjudged = tt;
}

client_heard : (w : World) (c : ℕ) (m : Message) (a : Option ClientAt) → IsQuietHand w (client_hears w c m a)
client_heard w c m None = deaf_hand w
client_heard w c m (Some a) = either a.stopped
  where
    either : (b : Bool) → IsQuietHand w (if b then quiet w delivery.Deaf else client_takes w c a m.from (for_client m))
    either true = deaf_hand w
    either false = client_hand w c a m.from (for_client m)

pub same_number : (k d : ℕ) → party.Drive k ≡ party.Drive d → k ≡ d
same_number k d is = cc is

-- what isn't judged is for no drive that hears
unjudged_tells : (before : List Line) (n : ℕ) (del : Delivery) (m : Sent) → IsUnjudged del
    → ((d : ℕ) (a : DriveAt) → m.to ≡ party.Drive d → drive_after before d ≡ Some a → is_deaf a ≡ true)
    → Delivers before n del m
unjudged_tells before n delivery.Deaf m is none = none
unjudged_tells before n delivery.Taken m is none = none
unjudged_tells before n (delivery.Judged v) m is none = absurd is

module _ (w : World) (i : List ℕ) (before : List Line) (n : ℕ) (p : Posted) (r : AreRead w i before)
    (found : slice_get w.network.messages n ≡ Some p) where
  sent_then : slice_get (sent_in before) n ≡ Some (shown p)
  sent_then =
      ap (λ (ss : List Sent). slice_get ss n) (sent_read w i before r) ∙ shown_get w.network.messages n (Some p) found

  -- the message is for no drive that hears
  abbrev IsUnheard : Type 0
  IsUnheard =
      (d : ℕ) (a : DriveAt) → party_of p.message.to ≡ party.Drive d → at_number w.drives d ≡ Some a → is_deaf a ≡ true

  delivered : (h : Handed) → IsQuietHand (marked w n p) h → IsUnheard → IsDelivered before n h.receipt
  delivered h q unheard = record {
    message = shown p;
    sent = sent_then;
    tells =
        unjudged_tells before n h.receipt (shown p) q.unjudged
        (λ d a to there. unheard d a to (sym (drive_read w i before d r) ∙ there));
  }

  hand_told : (h : Handed) → IsQuietHand (marked w n p) h
      → ((d : ℕ) → hears_sent d (at_number w.drives d) (Some (shown p)) ≡ at_number w.drives d) → IsUnheard
      → IsTold before (told_delivered n h)
  hand_told h q stays unheard = record {
    injected = i;
    drives =
        λ d. ap (λ s. fold (sees_drive d) s h.told) (delivery_read w i before n p h.receipt r found d
        ∙ ap (λ (a : Option DriveAt). seen (view (marked w n p)) i a) (stays d))
        ∙ q.told.folds d (view (marked w n p)) i (at_number w.drives d)
        ∙ same_seen d (marked w n p) h.world i q.messages q.drives;
    says =
        each_more HoldsAt before (line.Delivered n h.receipt ∷ h.told) _
        ((delivered h q unheard, tt), q.told.says (before ++ line.Delivered n h.receipt ∷ []))
        (sent_say (before ++ line.Delivered n h.receipt ∷ h.told) (length h.world.network.messages) h.posts q.posts);
  }

  -- ---- to a drive

  module _ (k : ℕ) (to : p.message.to ≡ node.Drive k) where
    -- a change of drive k that leaves it as it is
    stays : (d : ℕ) → option_map (hears_bytes (spelled p.message.body)) (at_number w.drives k) ≡ at_number w.drives k
        → hears_sent d (at_number w.drives d) (Some (shown p)) ≡ at_number w.drives d
    stays d same = elim (cases_eq k d) [
      | inl it ↦ at_it d k (at_number w.drives d) (shown p) (ap party_of to) it
          ∙ subst (λ (x : ℕ). option_map (hears_bytes (spelled p.message.body)) (at_number w.drives x) ≡
          at_number w.drives x) it same
      | inr other ↦ at_another d k (at_number w.drives d) (shown p) (ap party_of to) other
    ]

    becomes : (a : DriveAt) (d : ℕ) → at_number w.drives k ≡ Some a → is_deaf a ≡ false
        → hears_sent d (at_number w.drives d) (Some (shown p))
        ≡ at_number (with_number w.drives k (judges a (command_in p.message.body)).drive) d
    becomes a d there hears = elim (cases_eq k d) [
      | inl it ↦ at_it d k (at_number w.drives d) (shown p) (ap party_of to) it
          ∙ ap (λ (o : Option DriveAt). option_map (hears_bytes (spelled p.message.body)) o)
          (ap (at_number w.drives) (sym it) ∙ there)
          ∙ ap (λ (b : Bool). Some (if b then a else (judges a (command_in p.message.body)).drive)) hears
          ∙ sym (lookup_set w.drives k (judges a (command_in p.message.body)).drive (subst IsSome (sym there) refl))
          ∙ ap (λ (x : ℕ). at_number (with_number w.drives k (judges a (command_in p.message.body)).drive) x) it
      | inr other ↦ at_another d k (at_number w.drives d) (shown p) (ap party_of to) other
          ∙ sym (lookup_set_beside w.drives k d (judges a (command_in p.message.body)).drive
          (λ (e : d ≡ k). other (sym e)))
    ]

    drive_told : (a : DriveAt) (b : Bool) → is_deaf a ≡ b → at_number w.drives k ≡ Some a
        → IsTold before (told_delivered n (if b then quiet (marked w n p) delivery.Deaf
        else drive_replies (marked w n p) k p.message.from (judges a (command_in p.message.body))))
    unfolding sent_lines
    drive_told a true deaf there = hand_told _ (deaf_hand (marked w n p)) (λ d. stays d (
        ap (option_map (hears_bytes (spelled p.message.body))) there
        ∙ ap (λ (b : Bool). Some (if b then a else (judges a (command_in p.message.body)).drive)) deaf ∙ sym there))
        (λ d x is stands. subst (λ (y : DriveAt). is_deaf y ≡ true) (same_Some a x (sym there
        ∙ ap (at_number w.drives) (same_number k d (sym (ap party_of to) ∙ is)) ∙ stands)) deaf)
    drive_told a false hears there = record {
      injected = i;
      drives =
          λ d. delivery_read w i before n p (delivery.Judged (judges a (command_in p.message.body)).verdict) r found d
          ∙ ap (λ (o : Option DriveAt). seen (view (marked w n p)) i o) (becomes a d there hears);
      says = (
        (says_verdict w i before n p r found k to a there hears, tt),
        (
          (
            replies w i before n p r found k to a there hears
                (delivery.Judged (judges a (command_in p.message.body)).verdict),
            tt,
          ),
          tt,
        ),
      );
    }

    drive_heard : (o : Option DriveAt) → at_number w.drives k ≡ o
        → IsTold before (told_delivered n (drive_hears (marked w n p) k p.message o))
    drive_heard None none = hand_told _ (deaf_hand (marked w n p)) (λ d. stays d (
        ap (option_map (hears_bytes (spelled p.message.body))) none ∙ sym none))
        (λ d x is stands. absurd (cc (sym none ∙ ap (at_number w.drives) (same_number k d (sym (ap party_of to) ∙ is))
        ∙ stands)))
    drive_heard (Some a) there = drive_told a (is_deaf a) refl there

  handed_told : (chosen : List ℕ) (to : Node) → p.message.to ≡ to
      → IsTold before (told_delivered n (handed_to (marked w n p) chosen p.message to))
  handed_told chosen node.Server to =
      hand_told _ (server_heard (marked w n p) chosen p.message)
      (λ d. at_server d (at_number w.drives d) (shown p) (ap party_of to))
      (λ d x is stands. absurd (cc (sym (ap party_of to) ∙ is)))
  handed_told chosen (node.Client c) to =
      hand_told _ (client_heard (marked w n p) c p.message (at_number w.clients c))
      (λ d. at_client d c (at_number w.drives d) (shown p) (ap party_of to))
      (λ d x is stands. absurd (cc (sym (ap party_of to) ∙ is)))
  handed_told chosen (node.Drive k) to = drive_heard k to (at_number w.drives k) refl

found_told : (w : World) (i : List ℕ) (before : List Line) (chosen : List ℕ) (n : ℕ) (o : Option Posted) → AreRead w i before
    → slice_get w.network.messages n ≡ o → IsTold before (delivers_found w chosen n o)
found_told w i before chosen n None r none =
    quiet_told w i before _ r (record { messages = refl; drives = refl; told = none_quiet; posts = tt })
found_told w i before chosen n (Some p) r found = handed_told w i before n p r found chosen p.message.to refl

pub delivered_told : (w : World) (i : List ℕ) (before : List Line) (chosen : List ℕ) (n : ℕ) → AreRead w i before
    → IsTold before (delivers w chosen n)
unfolding delivers
delivered_told w i before chosen n r = found_told w i before chosen n (slice_get w.network.messages n) r refl

-- ---- a client is called, times out, leaves, resends or is left pending

pub nothing : (w : World) → IsQuietAct w (record { world = w; told = []; posts = [] })
nothing w = record { messages = refl; drives = refl; told = none_quiet; posts = tt }

either_act : (w : World) (b : Bool) (x y : Act) → IsQuietAct w x → IsQuietAct w y → IsQuietAct w (if b then x else y)
either_act w true x y p q = p
either_act w false x y p q = q

client_act : (w : World) (does : ClientAt → Act) (a : Option ClientAt) → ((x : ClientAt) → IsQuietAct w (does x))
    → IsQuietAct w (by_client w does a)
client_act w does None each = nothing w
client_act w does (Some a) each = each a

goes : (w : World) (c : ℕ) (a : ClientAt) (i : client_input.Input) → AreQuiet (client_goes w c a i).told
goes w c a i = quiet_ended c (op_in a.state i) (client_input.step a.state i).outcome

gone : (w : World) (c : ℕ) (a : ClientAt) (i : client_input.Input) → FromNoDrive (client_goes w c a i).posts
gone w c a i = from_client c (wrote_in a i) (data_in (op_in a.state i)) (client_input.step a.state i).sends

called_act : (w : World) (c : ℕ) (a : ClientAt) (op : client_rules.CallOp)
    (r : Result ClientStep client_rules.CallErr) → IsQuietAct w (called w c a op r)
called_act w c a op (Ok s) = record {
  messages = refl;
  drives = refl;
  told = quiet_ended c (Some op) s.outcome;
  posts = from_client c _ _ s.sends;
}
called_act w c a op (Err e) = record {
  messages = refl;
  drives = refl;
  told = refused_quiet c _;
  posts = tt;
}

pub calls_act : (w : World) (c : ℕ) (op : client_rules.CallOp) → IsQuietAct w (calls_at w c op)
unfolding calls_at
calls_act w c op = client_act w _ (at_number w.clients c) (λ a. called_act w c a op (calls a.state op))

pub timeout_act : (w : World) (c k : ℕ) → IsQuietAct w (times_out w c k)
unfolding times_out
timeout_act w c k = client_act w _ (at_number w.clients c) (λ a. record {
  messages = refl;
  drives = refl;
  told = timeout_quiet c k _ (goes w c a (client_input.TimesOut k));
  posts = gone w c a (client_input.TimesOut k);
})

pub leaves_act : (w : World) (c : ℕ) → IsQuietAct w (leaves w c)
unfolding leaves
leaves_act w c = client_act w _ (at_number w.clients c) (λ a. either_act w (is_some a.state.call) _ _
    (record { messages = refl; drives = refl; told = refused_quiet c _; posts = tt })
    (record {
      messages = refl;
      drives = refl;
      told = goes w c a client_input.Leaves;
      posts = gone w c a client_input.Leaves;
    }))

pub resends_act : (w : World) (c : ℕ) → IsQuietAct w (resends w c)
unfolding resends
resends_act w c = client_act w _ (at_number w.clients c) (λ a. record {
  messages = refl;
  drives = refl;
  told = goes w c a client_input.Resends;
  posts = gone w c a client_input.Resends;
})

pends_as_act : (w : World) (c : ℕ) (op : Option client_rules.CallOp) → IsQuietAct w (pends_as w c op)
pends_as_act w c None = nothing w
pends_as_act w c (Some op) = record { messages = refl; drives = refl; told = ended_quiet c _; posts = tt }

pub pends_act : (w : World) (c : ℕ) → IsQuietAct w (pends w c)
unfolding pends
pends_act w c = client_act w _ (at_number w.clients c) (λ a. pends_as_act w c (pending_op a.state))

-- ---- the server

pub gives_act : (w : World) (chosen : List ℕ) (i : server_input.Input) → IsQuietAct w (gives w chosen i)
unfolding gives
gives_act w chosen i = record {
  messages = refl;
  drives = refl;
  told = quiet_notes (server_step w.server chosen i).notes;
  posts = from_server (server_step w.server chosen i).sends;
}

made_act : (w : World) (f : ℕ) (r : Result ServerStep server_rules.Refusal) → IsQuietAct w (made_file w f r)
made_act w f (Ok s) = record {
  messages = refl;
  drives = refl;
  told = quiet_notes s.notes;
  posts = from_server s.sends;
}
made_act w f (Err e) = record { messages = refl; drives = refl; told = noted_quiet f _; posts = tt }

pub makes_act : (w : World) (chosen : List ℕ) (f : ℕ) (m : server_rules.RawMap) (tag : ℕ) (zoned : Bool)
    → IsQuietAct w (makes w chosen f m tag zoned)
unfolding makes
makes_act w chosen f m tag zoned =
    either_act w (has_algorithm m) _ _ (made_act w f (create_file w.server f m tag zoned chosen))
    (record { messages = refl; drives = refl; told = noted_quiet f _; posts = tt })
