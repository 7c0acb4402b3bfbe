-- The drives that are read off a history are those of the world, and each line tells of them what it may.
use Rattle.std.proofs.Common.{◌≡◌, ℕ, ◌++◌, ◌∷◌, [], List, true, false, Option, Some, length, map, fold, slice_get, slice_set, option_map, refl, sym, ap, ◌∙◌, zero, suc}
use Rattle.std.proofs.lemmas.List.Sums.{fold-append}
use Rattle.osd_lists.specs.declared.node.Node.TheVariants as node
use Rattle.scenario_text.specs.declared.line.Delivery.{Delivery}
use Rattle.scenario_text.specs.declared.line.Delivery.TheVariants as delivery
use Rattle.scenario_text.specs.declared.line.Verdict.{Verdict}
use Rattle.scenario_text.specs.declared.line.Line.{Line}
use Rattle.scenario_text.specs.declared.line.Line.TheVariants as line
use Rattle.world_history.specs.declared.messages.Body.TheVariants.{Reply as OfReply}
use Rattle.world_history.specs.declared.messages.Posted.{Posted}
use Rattle.world_history.specs.declared.messages.Sent.{Sent}
use Rattle.world_history.specs.State.{DriveAt, World, at_number}
use Rattle.world_history.specs.Spelled.{spelled, party_of}
use Rattle.world_history.specs.Drives.{verdict_on, judges, command_in, is_deaf}
use Rattle.world_history.specs.Moves.{Act, marked}
use Rattle.world_history.specs.Sending.{fresh, sent_lines, sends_all}
use Rattle.world_history.specs.Reading.{arrived, changed_by, changed_at, sent_after, sent_in}
use Rattle.world_history.specs.ReadDrives.{DriveSeen, sees_drive, drive_seen, drive_after, hears_bytes, hears_sent}
use Rattle.world_history.specs.Laws.{shown}
use Rattle.world_history.proofs.ReadMessages.{shown_set}
use Rattle.history_law.specs.Judging.{Judges, IsDelivered, Replies}
use Rattle.history_law.proofs.Each.{EachBehind, HoldsAt, each_more, seen, AreQuiet, FromNoDrive, sent_say, sent_fold}
use Rattle.history_law.proofs.Replying.{at_it, at_another, heard, touches, reply_tells}

-- ---- what is read

-- the messages of a world, as lines show them
abbrev pub view : World → List Sent
view w = map shown w.network.messages

-- drive d is read off the lines as it stands in the world
abbrev pub seen_at : (d : ℕ) → World → (injected : List ℕ) → DriveSeen
seen_at d w i = seen (view w) i (at_number w.drives d)

abbrev pub AreRead : World → (injected : List ℕ) → List Line → Type 0
AreRead w i h = (d : ℕ) → drive_seen d h ≡ seen_at d w i

-- a fold over lines goes on behind what is read
pub reads_on : (h ls : List Line) (d : ℕ) (s : DriveSeen) → drive_seen d h ≡ s
    → drive_seen d (h ++ ls) ≡ fold (sees_drive d) s ls
reads_on h ls d s is = fold-append (sees_drive d) _ h ls ∙ ap (λ (x : DriveSeen). fold (sees_drive d) x ls) is

-- what is read of the messages is the same for each drive
pub sent_same : (d : ℕ) (s : DriveSeen) (h : List Line) → (fold (sees_drive d) s h).sent ≡ fold sent_after s.sent h
sent_same d s [] = refl
sent_same d s (l ∷ h) = sent_same d (sees_drive d s l) h

pub sent_read : (w : World) (i : List ℕ) (h : List Line) → AreRead w i h → sent_in h ≡ view w
unfolding sent_in
sent_read w i h r = sym (sent_same 0 _ h) ∙ ap (λ (s : DriveSeen). s.sent) (r 0)

pub drive_read : (w : World) (i : List ℕ) (h : List Line) (d : ℕ) → AreRead w i h → drive_after h d ≡ at_number w.drives d
drive_read w i h d r = ap (λ (s : DriveSeen). s.drive) (r d)

-- ---- an act

-- behind these lines an act tells what it does of drives and sends
pub record IsTold (before : List Line) (a : Act) : Type 0 where
  pub injected : List ℕ
  pub drives : (d : ℕ) → fold (sees_drive d) (drive_seen d before) a.told ≡ seen_at d a.world injected
  pub says : EachBehind HoldsAt before (a.told ++ sent_lines (length a.world.network.messages) a.posts)

map_more : (xs ys : List Posted) → map shown (xs ++ ys) ≡ map shown xs ++ map shown ys
map_more [] ys = refl
map_more (x ∷ xs) ys = ap (λ (l : List Sent). shown x ∷ l) (map_more xs ys)

-- what it sends is read, too
pub told_reads : (before : List Line) (a : Act) (t : IsTold before a)
    → AreRead (sends_all a).world t.injected (before ++ (sends_all a).lines)
told_reads before a t d =
    let sent = sent_lines (length a.world.network.messages) a.posts in
    reads_on before (a.told ++ sent) d (drive_seen d before) refl
    ∙ fold-append (sees_drive d) (drive_seen d before) a.told sent
    ∙ ap (λ (s : DriveSeen). fold (sees_drive d) s sent) (t.drives d)
    ∙ sent_fold d (length a.world.network.messages) a.posts (view a.world) t.injected (at_number a.world.drives d)
    ∙ ap (λ (x : List Sent). seen x t.injected (at_number a.world.drives d))
    (sym (map_more a.world.network.messages (map fresh a.posts)))

-- an act that changes no drive
pub record IsQuietAct (w : World) (a : Act) : Type 0 where
  pub messages : a.world.network.messages ≡ w.network.messages
  pub drives : a.world.drives ≡ w.drives
  pub told : AreQuiet a.told
  pub posts : FromNoDrive a.posts

pub same_seen : (d : ℕ) (w v : World) (i : List ℕ) → v.network.messages ≡ w.network.messages → v.drives ≡ w.drives
    → seen_at d w i ≡ seen_at d v i
same_seen d w v i messages drives =
    ap (λ (ps : List Posted). seen (map shown ps) i (at_number w.drives d)) (sym messages)
    ∙ ap (λ (ds : List (ℕ × DriveAt)). seen (view v) i (at_number ds d)) (sym drives)

pub quiet_told : (w : World) (i : List ℕ) (before : List Line) (a : Act) → AreRead w i before → IsQuietAct w a
    → IsTold before a
quiet_told w i before a r q = record {
  injected = i;
  drives =
      λ d. ap (λ (s : DriveSeen). fold (sees_drive d) s a.told) (r d)
      ∙ q.told.folds d (view w) i (at_number w.drives d) ∙ same_seen d w a.world i q.messages q.drives;
  says =
      each_more HoldsAt before a.told _ (q.told.says before)
      (sent_say (before ++ a.told) (length a.world.network.messages) a.posts q.posts);
}

-- ---- messages that are marked

pub shown_get : (ps : List Posted) (n : ℕ) (o : Option Posted) → slice_get ps n ≡ o
    → slice_get (map shown ps) n ≡ option_map shown o
shown_get [] n o e = ap (option_map shown) e
shown_get (x ∷ ps) zero o e = ap (option_map shown) e
shown_get (x ∷ ps) (suc n) o e = shown_get ps n o e

pub changed_view : (ps : List Posted) (n : ℕ) (p q : Posted) (change : Sent → Sent) → slice_get ps n ≡ Some p
    → shown q ≡ change (shown p) → changed_at (map shown ps) n change ≡ map shown (slice_set ps n q)
changed_view ps n p q change e same =
    ap (λ (o : Option Sent). changed_by (map shown ps) n change o) (shown_get ps n (Some p) e)
    ∙ ap (λ (s : Sent). slice_set (map shown ps) n s) (sym same) ∙ sym (shown_set ps n q)

-- ---- a message is delivered

-- what is read behind the line of a delivery
pub delivery_read : (w : World) (i : List ℕ) (before : List Line) (n : ℕ) (p : Posted) (del : Delivery) → AreRead w i before
    → slice_get w.network.messages n ≡ Some p → (d : ℕ)
    → sees_drive d (drive_seen d before) (line.Delivered n del)
    ≡ seen (view (marked w n p)) i (hears_sent d (at_number w.drives d) (Some (shown p)))
delivery_read w i before n p del r found d =
    ap (λ (s : DriveSeen). sees_drive d s (line.Delivered n del)) (r d)
    ∙ ap (λ (ss : List Sent). seen ss i (hears_sent d (at_number w.drives d) (slice_get (view w) n)))
    (changed_view w.network.messages n p (record p { delivered = true }) arrived found refl)
    ∙ ap (λ (o : Option Sent). seen (view (marked w n p)) i (hears_sent d (at_number w.drives d) o))
    (shown_get w.network.messages n (Some p) found)

drive_behind : (w : World) (i : List ℕ) (before : List Line) (n : ℕ) (p : Posted) (del : Delivery) → AreRead w i before
    → slice_get w.network.messages n ≡ Some p → (d : ℕ)
    → drive_after (before ++ line.Delivered n del ∷ []) d ≡ hears_sent d (at_number w.drives d) (Some (shown p))
drive_behind w i before n p del r found d =
    ap (λ (s : DriveSeen). s.drive)
    (reads_on before (line.Delivered n del ∷ []) d (drive_seen d before) refl
    ∙ delivery_read w i before n p del r found d)

-- ---- to a drive

module _ (w : World) (i : List ℕ) (before : List Line) (n : ℕ) (p : Posted) (r : AreRead w i before)
    (found : slice_get w.network.messages n ≡ Some p) (k : ℕ) (to : p.message.to ≡ node.Drive k) (a : DriveAt)
    (there : at_number w.drives k ≡ Some a) (hears : is_deaf a ≡ false) where
  sent_then : slice_get (sent_in before) n ≡ Some (shown p)
  sent_then =
      ap (λ (ss : List Sent). slice_get ss n) (sent_read w i before r) ∙ shown_get w.network.messages n (Some p) found

  stood : drive_after before k ≡ Some a
  stood = drive_read w i before k r ∙ there

  heard_behind : (del : Delivery) → drive_after (before ++ line.Delivered n del ∷ []) k
      ≡ Some (judges a (command_in p.message.body)).drive
  heard_behind del =
      drive_behind w i before n p del r found k ∙ at_it k k (at_number w.drives k) (shown p) (ap party_of to) refl
      ∙ ap (λ (o : Option DriveAt). option_map (hears_bytes (spelled p.message.body)) o) there
      ∙ ap (λ (x : DriveAt). Some x) (heard a (spelled p.message.body) hears)

  judges_it : (v : Verdict) → v ≡ verdict_on a.state a.clock (command_in p.message.body)
      → Judges before (line.Delivered n (delivery.Judged v)) k (spelled p.message.body) v
  judges_it v verdict = record {
    there = a;
    stands = stood;
    hears = hears;
    verdict = verdict;
    becomes = heard_behind (delivery.Judged v);
    others =
        λ d other. drive_behind w i before n p _ r found d
        ∙ at_another d k (at_number w.drives d) (shown p) (ap party_of to) (λ (e : k ≡ d). other (sym e))
        ∙ sym (drive_read w i before d r);
    touches = touches a (spelled p.message.body) v verdict;
  }

  pub says_verdict : IsDelivered before n (delivery.Judged (judges a (command_in p.message.body)).verdict)
  unfolding judges
  says_verdict = record {
    message = shown p;
    sent = sent_then;
    tells = (k, ap party_of to, judges_it (verdict_on a.state a.clock (command_in p.message.body)) refl);
  }

  pub replies : (del : Delivery) → Replies (before ++ line.Delivered n del ∷ []) k (party_of p.message.from)
      (spelled (OfReply (judges a (command_in p.message.body)).reply))
  replies del = record {
    lines = before;
    number = n;
    delivery = del;
    before_is = refl;
    message = shown p;
    sent = sent_then;
    receiver = ap party_of to;
    sender = refl;
    there = a;
    stands = stood;
    becomes = heard_behind del;
    bytes_are = refl;
    tells = λ c read reads. reply_tells a (spelled p.message.body) c read reads;
  }
