-- Each move that tells a verdict tells the drive's reply directly behind it, and no move sends anything before a step begins.
use Rattle.std.proofs.Common.{◌≡◌, ℕ, ◌+◌, true, false, Bool, List, [], ◌∷◌, ◌++◌, length, Option, Some, None, slice_get, refl, sym, ap, subst, ◌∙◌, append_assoc, inl, inr, if◌then◌else◌}
use Rattle.std.proofs.lemmas.List.{append-nil}
use Rattle.osd_lists.specs.declared.node.Node.{Node}
use Rattle.osd_lists.specs.declared.node.Node.TheVariants as node
use Rattle.osd_lists.proofs.Slices.{head_same, tail_same, not_empty}
use Rattle.server_rules.specs.Messages.{Message as ServerMessage}
use Rattle.client_rules.specs.Messages.{Message as ClientMessage}
use Rattle.client_rules.specs.History as client_input
use Rattle.scenario_text.specs.declared.event.Event.{Event}
use Rattle.scenario_text.specs.declared.event.Event.TheVariants as event
use Rattle.scenario_text.specs.declared.line.Delivery.{Delivery}
use Rattle.scenario_text.specs.declared.line.Delivery.TheVariants as delivery
use Rattle.scenario_text.specs.declared.line.Party.{Party}
use Rattle.scenario_text.specs.declared.line.Party.TheVariants as party
use Rattle.scenario_text.specs.declared.line.Line.{Line}
use Rattle.scenario_text.specs.declared.line.Line.TheVariants as line
use Rattle.world_history.specs.ClientNames as client_rules
use Rattle.world_history.specs.declared.messages.Body.TheVariants.{Reply as OfReply}
use Rattle.world_history.specs.declared.messages.Message.{Message}
use Rattle.world_history.specs.declared.messages.Posted.{Posted}
use Rattle.world_history.specs.State.{DriveAt, ClientAt, World, at_number}
use Rattle.world_history.specs.Spelled.{spelled, party_of}
use Rattle.world_history.specs.Drives.{judges, command_in, is_deaf}
use Rattle.world_history.specs.Handed.{Post, Handed, quiet, drive_hears, drive_replies, server_hears, server_takes, client_hears, client_takes, client_goes, for_client, for_server, handed_to, op_in, pending_op}
use Rattle.world_history.specs.Moves.{Act, Action, Opens, Delivers, TimesOut, Pends, marked, delivers_found, delivers, behind, by_client, times_out, pends_as, pends, injects_at, injects, begins, acts}
use Rattle.world_history.specs.Sending.{move, sent_lines, sends_all}
use Rattle.world_history.specs.Reading.{is_head, sent_in}
use Rattle.world_history.specs.ReadDrives.{drive_after}
use Rattle.world_history.specs.Plans.{Rule, due_by}
use Rattle.world_history.specs.History.{StandsFor, Lawful}
use Rattle.world_history.specs.History.Begins.{Nothing}
use Rattle.world_history.proofs.Always.{opening}
use Rattle.world_history.proofs.ReadMessages.{never_opens}
use Rattle.history_law.specs.Judging.{Replies, JudgesAt}
use Rattle.history_law.specs.Safe.{AtEachLine, HistoriesAreSafe}
use Rattle.history_law.specs.Answered.{SendNone, IsRepliedTo, AnsweredAt, AreAnswered, VerdictsAreAnswered}
use Rattle.history_law.proofs.Histories.{stands}
use Rattle.history_law.proofs.Leading.{AreFlat, handed_flat, flat_ended, begins_flat}

-- ---- what stands behind a line

-- a message of some drive, and no other in the step
record IsReplied (ls : List Line) : Type 0 where
  reply : ℕ
  drive : ℕ
  to : Party
  bytes : List ℕ
  more : List Line
  is : ls ≡ line.Message reply (party.Drive drive) to bytes ∷ more
  alone : SendNone more

abbrev Follow : Line → List Line → Type 0
Follow (line.Delivered n (delivery.Judged v)) ls = IsReplied ls
Follow (line.Judged d v) ls = SendNone ls
Follow l ls = Unit {0}

abbrev AllFollow : List Line → Type 0
AllFollow [] = Unit {0}
AllFollow (l ∷ ls) = Follow l ls × AllFollow ls

none_both : (xs ys : List Line) → SendNone xs → SendNone ys → SendNone (xs ++ ys)
none_both [] ys p q = q
none_both (x ∷ xs) ys (inl head) q = inl head
none_both (x ∷ xs) ys (inr (no_message, rest)) q = inr (no_message, none_both xs ys rest q)

follow_more : (l : Line) (ls ys : List Line) → Follow l ls → SendNone ys → Follow l (ls ++ ys)
follow_more (line.Delivered n (delivery.Judged v)) ls ys f q = record {
  reply = f.reply;
  drive = f.drive;
  to = f.to;
  bytes = f.bytes;
  more = f.more ++ ys;
  is = ap (λ (x : List Line). x ++ ys) f.is;
  alone = none_both f.more ys f.alone q;
}
follow_more (line.Judged d v) ls ys f q = none_both ls ys f q
follow_more l ls ys f q = tt

all_both : (xs ys : List Line) → AllFollow xs → AllFollow ys → SendNone ys → AllFollow (xs ++ ys)
all_both [] ys p q none = q
all_both (x ∷ xs) ys p q none = (follow_more x xs ys p.0 none, all_both xs ys p.1 q none)

-- ---- lines that begin no step

flat_follow : (l : Line) (ls : List Line) → is_head l ≡ false → Follow l ls
flat_follow (line.Delivered n d) ls flat = absurd (cc flat)
flat_follow (line.Judged d v) ls flat = absurd (cc flat)
flat_follow l ls flat = tt

all_flat : (told sent : List Line) → AreFlat told → AllFollow sent → AllFollow (told ++ sent)
all_flat [] sent flat all = all
all_flat (l ∷ told) sent flat all = (flat_follow l (told ++ sent) flat.0, all_flat told sent flat.2 all)

all_sent : (number : ℕ) (ps : List Post) → AllFollow (sent_lines number ps)
unfolding sent_lines
all_sent number [] = tt
all_sent number (p ∷ ps) = (tt, all_sent (number + 1) ps)

-- ---- a delivery

abbrev IsUnjudged : Delivery → Type 0
IsUnjudged (delivery.Judged v) = ⊥
IsUnjudged d = Unit {0}

unjudged_follow : (n : ℕ) (d : Delivery) (ls : List Line) → IsUnjudged d → Follow (line.Delivered n d) ls
unjudged_follow n delivery.Deaf ls is = tt
unjudged_follow n delivery.Taken ls is = tt
unjudged_follow n (delivery.Judged v) ls is = absurd is

server_takes_it : (w : World) (chosen : List ℕ) (from : Node) (o : Option ServerMessage)
    → IsUnjudged (server_takes w chosen from o).receipt
server_takes_it w chosen from None = tt
server_takes_it w chosen from (Some x) = tt

server_unjudged : (w : World) (chosen : List ℕ) (m : Message) → IsUnjudged (server_hears w chosen m).receipt
server_unjudged w chosen m = either w.down
  where
    either : (b : Bool)
        → IsUnjudged (if b then quiet w delivery.Deaf else server_takes w chosen m.from (for_server m)).receipt
    either true = tt
    either false = server_takes_it w chosen m.from (for_server m)

client_takes_it : (w : World) (c : ℕ) (a : ClientAt) (from : Node) (o : Option ClientMessage)
    → IsUnjudged (client_takes w c a from o).receipt
client_takes_it w c a from None = tt
client_takes_it w c a from (Some x) = tt

client_unjudged : (w : World) (c : ℕ) (m : Message) (o : Option ClientAt) → IsUnjudged (client_hears w c m o).receipt
client_unjudged w c m None = tt
client_unjudged w c m (Some a) = either a.stopped
  where
    either : (b : Bool)
        → IsUnjudged (if b then quiet w delivery.Deaf else client_takes w c a m.from (for_client m)).receipt
    either true = tt
    either false = client_takes_it w c a m.from (for_client m)

-- what a party tells and sends stands behind the line of the delivery
abbrev AnswersIt : (n k : ℕ) → Handed → Type 0
AnswersIt n k h = Follow (line.Delivered n h.receipt) (h.told ++ sent_lines k h.posts)

drive_answers : (w : World) (d : ℕ) (m : Message) (n k : ℕ) (o : Option DriveAt) → AnswersIt n k (drive_hears w d m o)
unfolding sent_lines
drive_answers w d m n k None = tt
drive_answers w d m n k (Some a) = either (is_deaf a)
  where
    either : (b : Bool) → AnswersIt n k (if b then quiet w delivery.Deaf
        else drive_replies w d m.from (judges a (command_in m.body)))
    either true = tt
    either false = record {
      reply = k;
      drive = d;
      to = party_of m.from;
      bytes = spelled (OfReply (judges a (command_in m.body)).reply);
      more = [];
      is = refl;
      alone = tt;
    }

handed_answers : (w : World) (chosen : List ℕ) (m : Message) (n k : ℕ) (to : Node) → AnswersIt n k (handed_to w chosen m to)
handed_answers w chosen m n k node.Server = unjudged_follow n _ _ (server_unjudged w chosen m)
handed_answers w chosen m n k (node.Drive d) = drive_answers w d m n k (at_number w.drives d)
handed_answers w chosen m n k (node.Client c) = unjudged_follow n _ _ (client_unjudged w c m (at_number w.clients c))

-- ---- an act

-- what stands behind each of its lines, and that nothing is sent before its step
record IsFine (a : Act) : Type 0 where
  all : AllFollow (sends_all a).lines
  none : SendNone (sends_all a).lines

found_fine : (w : World) (chosen : List ℕ) (n : ℕ) (o : Option Posted) → IsFine (delivers_found w chosen n o)
unfolding sent_lines
found_fine w chosen n None = record { all = tt; none = tt }
found_fine w chosen n (Some p) =
    let v = marked w n p in
    let h = handed_to v chosen p.message p.message.to in
    let k = length h.world.network.messages in
    record {
      all = (
        handed_answers v chosen p.message n k p.message.to,
        all_flat h.told (sent_lines k h.posts) (handed_flat v chosen p.message p.message.to) (all_sent k h.posts),
      );
      none = inl refl;
    }

delivers_fine : (w : World) (chosen : List ℕ) (n : ℕ) → IsFine (delivers w chosen n)
unfolding delivers
delivers_fine w chosen n = found_fine w chosen n (slice_get w.network.messages n)

timeout_at : (w : World) (c k : ℕ) (o : Option ClientAt)
    → IsFine (by_client w (λ a. behind (line.TimedOut c k) (client_goes w c a (client_input.TimesOut k))) o)
unfolding sent_lines
timeout_at w c k None = record { all = tt; none = tt }
timeout_at w c k (Some a) =
    let h = client_goes w c a (client_input.TimesOut k) in
    let n = length h.world.network.messages in
    record {
      all = (
        tt,
        all_flat h.told (sent_lines n h.posts) (flat_ended c (op_in a.state (client_input.TimesOut k)) _)
            (all_sent n h.posts),
      );
      none = inl refl;
    }

timeout_fine : (w : World) (c k : ℕ) → IsFine (times_out w c k)
unfolding times_out
timeout_fine w c k = timeout_at w c k (at_number w.clients c)

pends_as_fine : (w : World) (c : ℕ) (o : Option client_rules.CallOp) → IsFine (pends_as w c o)
unfolding sent_lines
pends_as_fine w c None = record { all = tt; none = tt }
pends_as_fine w c (Some op) = record { all = (tt, tt); none = inr (tt, tt) }

pends_at : (w : World) (c : ℕ) (o : Option ClientAt) → IsFine (by_client w (λ a. pends_as w c (pending_op a.state)) o)
unfolding sent_lines
pends_at w c None = record { all = tt; none = tt }
pends_at w c (Some a) = pends_as_fine w c (pending_op a.state)

pends_fine : (w : World) (c : ℕ) → IsFine (pends w c)
unfolding pends
pends_fine w c = pends_at w c (at_number w.clients c)

injects_at_all : (w : World) (d : ℕ) (bytes : List ℕ) (o : Option DriveAt)
    → AllFollow (sends_all (injects_at w d bytes o)).lines
unfolding sent_lines
injects_at_all w d bytes None = tt
injects_at_all w d bytes (Some a) = (tt, tt)

injects_all : (w : World) (d : ℕ) (bytes : List ℕ) → AllFollow (sends_all (injects w d bytes)).lines
unfolding injects
injects_all w d bytes = injects_at_all w d bytes (at_number w.drives d)

begins_all : (w : World) (chosen : List ℕ) (e : Event) → AllFollow (sends_all (begins w chosen e)).lines
unfolding begins
begins_all w chosen (event.Deliver number) = (delivers_fine w chosen number).all
begins_all w chosen (event.Timeout c component) = (timeout_fine w c component).all
begins_all w chosen (event.Inject d bytes) = injects_all w d bytes
begins_all w chosen e = all_flat (begins w chosen e).told _ (begins_flat w chosen e refl) (all_sent _ _)

later_fine : (w : World) (chosen : List ℕ) (r : Rule) (action : Action) → due_by w r ≡ Some action
    → IsFine (acts w chosen action)
later_fine w chosen r (Delivers number) d = delivers_fine w chosen number
later_fine w chosen r (TimesOut c component) d = timeout_fine w c component
later_fine w chosen r (Pends c) d = pends_fine w c
later_fine w chosen r (Opens e) d = absurd (never_opens w r e d)

-- ---- a whole history

all_follow : (w : World) (h : List Line) → StandsFor w h → AllFollow h
all_follow w h s =
    stands (λ (v : World) (g : List Line). AllFollow g) (record {
      starts = tt;
      opens = λ v g e chosen all allowed.
          all_both g (line.Event e ∷ (move v (opening e chosen)).lines) all (tt, begins_all v chosen e) (inl refl);
      moves = λ v g r m all d.
          let fine = later_fine v m.chosen r m.action d in all_both g (move v m).lines all fine.all fine.none;
    }) w h s

at_place : (before : List Line) (l : Line) (after : List Line) → AllFollow (before ++ l ∷ after) → Follow l after
at_place [] l after all = all.0
at_place (x ∷ before) l after all = at_place before l after all.1

-- lines that end alike have the same lines before their last, and the same last
same_front : (xs ys : List Line) (x y : Line) → xs ++ x ∷ [] ≡ ys ++ y ∷ [] → (xs ≡ ys) × (x ≡ y)
same_front [] [] x y e = (refl, head_same x y [] [] e)
same_front [] (b ∷ ys) x y e = absurd (not_empty y ys (sym (tail_same x b [] (ys ++ y ∷ []) e)))
same_front (a ∷ xs) [] x y e = absurd (not_empty x xs (tail_same a y (xs ++ x ∷ []) [] e))
same_front (a ∷ xs) (b ∷ ys) x y e =
    let rest = same_front xs ys x y (tail_same a b (xs ++ x ∷ []) (ys ++ y ∷ []) e) in (
      ap (λ (c : Line). c ∷ xs) (head_same a b (xs ++ x ∷ []) (ys ++ y ∷ []) e)
          ∙ ap (λ (ls : List Line). b ∷ ls) rest.0,
      rest.1,
    )

same_number : (n k : ℕ) (d e : Delivery) → line.Delivered n d ≡ line.Delivered k e → n ≡ k
same_number n k d e is = cc is

-- the message behind a delivery is the reply to what was delivered
replied : (before after : List Line) (n : ℕ) (d : Delivery) (f : IsReplied after)
    → Replies (before ++ line.Delivered n d ∷ []) f.drive f.to f.bytes → IsRepliedTo before n after
replied before after n d f r =
    let same = same_front before r.lines (line.Delivered n d) (line.Delivered r.number r.delivery) r.before_is in
    let number = same_number n r.number d r.delivery same.1 in
    record {
      message = r.message;
      sent =
          ap (λ (ls : List Line). slice_get (sent_in ls) n) same.0
          ∙ ap (λ (k : ℕ). slice_get (sent_in r.lines) k) number ∙ r.sent;
      drive = f.drive;
      receiver = r.receiver;
      there = r.there;
      stands = ap (λ (ls : List Line). drive_after ls f.drive) same.0 ∙ r.stands;
      reply = f.reply;
      more = f.more;
      replies =
          f.is ∙ ap (λ (to : Party). line.Message f.reply (party.Drive f.drive) to f.bytes ∷ f.more) (sym r.sender)
          ∙ ap (λ (bytes : List ℕ). line.Message f.reply (party.Drive f.drive) r.message.from bytes ∷ f.more) r.bytes_are;
      alone = f.alone;
    }

module _ (h : List Line) (judge : AtEachLine JudgesAt h) where
  answered_at : (before : List Line) (l : Line) (after : List Line) → h ≡ before ++ l ∷ after → Follow l after
      → AnsweredAt before l after
  answered_at before (line.Delivered n (delivery.Judged v)) after is f =
      let told = line.Delivered n (delivery.Judged v) in
      let reply = line.Message f.reply (party.Drive f.drive) f.to f.bytes in
      replied before after n (delivery.Judged v) f
      (judge (before ++ told ∷ []) reply f.more
      (is ∙ ap (λ (ls : List Line). before ++ told ∷ ls) f.is ∙ sym (append_assoc before (told ∷ []) (reply ∷ f.more))))
  answered_at before (line.Judged d v) after is f = f
  answered_at before l after is f = tt

  answered : AllFollow h → AreAnswered h
  answered all before l after is = answered_at before l after is (at_place before l after (subst AllFollow is all))

pub verdicts_are_answered : HistoriesAreSafe → VerdictsAreAnswered
verdicts_are_answered safe w h s =
    let whole : Lawful h = record {
      world = w;
      whole = h;
      stands = s;
      last = [];
      begins = Nothing refl;
      lines_are = sym (append-nil h);
    } in
    answered h (safe h whole).commands (all_follow w h s)
