-- A file is made while each drive is deaf: its CREATEs are delivered at once, and nobody hears them.
use Rattle.std.proofs.Common.{◌≡◌, ℕ, zero, suc, ◌+◌, ◌≤◌, ◌<◌, Bool, true, false, cond, List, [], ◌∷◌, ◌++◌, Option, Some, None, Result, Ok, Err, length, map, arith, refl, sym, ap, subst, ◌∙◌, append_assoc, inl, inr}
use Rattle.std.specs.Prelude.{slice_get, slice_set, filter, nat_lt, if◌then◌else◌}
use Rattle.std.specs.List.{filter_map}
use Rattle.std.proofs.lemmas.List.{append-nil, length-map}
use Rattle.std.proofs.lemmas.Bool.{cases_eq, cases_lt}
use Rattle.std.proofs.lemmas.Bool.Decides.{nat_tests}
use Rattle.std.proofs.lemmas.Option.{slice_get_within}
use Rattle.osd_lists.specs.declared.node.Node.{Node}
use Rattle.osd_lists.specs.declared.node.Node.TheVariants as node
use Rattle.data_map.specs.declared.check.RawMap.{RawMap}
use Rattle.scenario_text.specs.declared.names.TheConstants.{DRIVES}
use Rattle.scenario_text.specs.declared.event.Event.{Event}
use Rattle.scenario_text.specs.declared.event.Event.TheVariants as event
use Rattle.scenario_text.specs.declared.line.Delivery.TheVariants as delivery
use Rattle.scenario_text.specs.declared.line.Line.{Line}
use Rattle.scenario_text.specs.declared.line.Line.TheVariants as line
use Rattle.server_rules.specs.Files.{Step as ServerStep, at_file, to_drive, to_drives}
use Rattle.server_rules.specs.Making.{create_file, unless_refused, makes_file, unmade, drives_for}
use Rattle.server_rules.specs.Making as making
use Rattle.server_rules.specs.Jobs as jobs
use Rattle.world_history.specs.ServerNames.{Server, File, Drive, Awaited, Refusal}
use Rattle.world_history.specs.declared.messages.Message.{Message}
use Rattle.world_history.specs.declared.messages.Posted.{Posted}
use Rattle.world_history.specs.State.{World, Network, DriveAt, at_number}
use Rattle.world_history.specs.Drives.{is_deaf}
use Rattle.world_history.specs.Names.{is_named, known_note_line}
use Rattle.world_history.specs.Handed.{Post, is_addressed, server_post, server_did, drive_hears, quiet}
use Rattle.world_history.specs.Moves.{Act, Delivers, Opens, acted, begins, delivers, makes, made_file, has_algorithm, marked, told_delivered, raw_of}
use Rattle.world_history.specs.Sending.{Move, move, fresh, with_posts, sent_lines, sends_all}
use Rattle.world_history.specs.Plans.{Rule, Alone, Prompt, Plan, due, due_pending, is_pending, next_pending, went_on, plan_of, rule_of}
use Rattle.world_history.specs.Refusals.{refusal}
use Rattle.world_history.specs.Runs.{AreDue, IsOver, Carries, lines_of, plan_after, world_after}
use Rattle.world_history.specs.History.{StandsFor}
use Rattle.world_history.specs.Laws.{NonePending}
use Rattle.world_history.proofs.Histories.{one_event_more}
use Rattle.world_history.proofs.Pending.{next_is_lowest}
use Rattle.history_law.specs.Said.{said, posted}
use Rattle.history_law.proofs.Moves.{said_marked}
use Rattle.cluster_history.specs.State.{Cluster}
use Rattle.cluster_history.specs.Deeds.{Deed, for_somebody, server_message, map_of, unheard}
use Rattle.cluster_history.specs.History as history
use Rattle.cluster_history.specs.Like.{cluster_of, AreStored, LeadsTo}
use Rattle.cluster_history.proofs.Worlds.{sent_same, lines_same, nothing_sent}
use Rattle.cluster_history.proofs.ServerSteps.{server_posted}

-- ---- lists

module _ {X : Type 0} where
  pub at_seam : (xs ys : List X) (y : X) → slice_get (xs ++ y ∷ ys) (length xs) ≡ Some y
  at_seam [] ys y = refl
  at_seam (x ∷ xs) ys y = at_seam xs ys y

  pub set_seam : (xs ys : List X) (y z : X) → slice_set (xs ++ y ∷ ys) (length xs) z ≡ xs ++ z ∷ ys
  set_seam [] ys y z = refl
  set_seam (x ∷ xs) ys y z = ap (λ (l : List X). x ∷ l) (set_seam xs ys y z)

  pub before_seam : (xs ys : List X) (k : ℕ) (z : X) → slice_get (xs ++ ys) k ≡ Some z → k < length xs
      → slice_get xs k ≡ Some z
  before_seam [] ys k z e l = absurd (omega (arith, l))
  before_seam (x ∷ xs) ys zero z e l = e
  before_seam (x ∷ xs) ys (suc k) z e l = before_seam xs ys k z e (omega (arith, l))

  pub length_more : (xs : List X) (y : X) → length (xs ++ y ∷ []) ≡ length xs + 1
  length_more [] y = refl
  length_more (x ∷ xs) y = let rest : length (xs ++ y ∷ []) ≡ length xs + 1 = length_more xs y in omega (arith, rest)

-- ---- deaf drives

-- no drive that a line can name hears
abbrev pub NobodyHears : World → Type 0
NobodyHears w = (d : ℕ) → d < DRIVES → (a : DriveAt) → at_number w.drives d ≡ Some a → is_deaf a ≡ true

-- each of these messages is for a drive that a line can name
abbrev pub AreForDrives : List Post → Type 0
AreForDrives [] = Unit {0}
AreForDrives (p ∷ ps) = ((d : ℕ) × (p.message.to ≡ node.Drive d) × (d < DRIVES)) × AreForDrives ps

-- none of these messages from a number on is pending
abbrev pub NoneLeft : (first : ℕ) → List Posted → Type 0
NoneLeft first ps = (k : ℕ) (p : Posted) → first ≤ k → slice_get ps k ≡ Some p → is_pending p ≡ false

abbrev heard : Posted → Posted
heard p = record p { delivered = true }

none_more : (first : ℕ) (ps : List Posted) (p : Posted) → NoneLeft first ps → is_pending p ≡ false
    → NoneLeft first (ps ++ p ∷ [])
none_more first ps p none is k x low found =
    elim (cases_lt k (length ps)) [
      | inl below ↦ none k x low (before_seam ps (p ∷ []) k x found below)
      | inr up ↦
          let inside : k < length (ps ++ p ∷ []) = slice_get_within (ps ++ p ∷ []) k x found in
          let all : length (ps ++ p ∷ []) ≡ length ps + 1 = length_more ps p in
          let here : k ≡ length ps = omega (arith, inside, all, up) in
          let it : Some p ≡ Some x = sym (at_seam ps [] p) ∙ ap (λ (j : ℕ). slice_get (ps ++ p ∷ []) j) (sym here) ∙ found in
          let same : p ≡ x = cc it in
          ap is_pending (sym same) ∙ is
    ]

-- ---- the deliveries

-- what is still to do
abbrev pub plan : (first : ℕ) → Plan
plan first = record { opening = None; rule = Prompt first None }

-- messages are delivered, one after the other, and nobody hears them
pub record AreDelivered (first number : ℕ) (u : World) (ps : List Post) : Type 0 where
  pub moves : List Move
  pub are_due : AreDue (plan first) u moves
  pub over : IsOver (plan_after (plan first) moves) (world_after u moves)
  pub lines : lines_of u moves ≡ unheard number (posted ps)
  pub same : cluster_of (world_after u moves) ≡ cluster_of u
  pub drives : (world_after u moves).drives ≡ u.drives

deaf_act : (u : World) (n d : ℕ) (p : Posted) → slice_get u.network.messages n ≡ Some p → p.message.to ≡ node.Drive d
    → (o : Option DriveAt) → at_number u.drives d ≡ o → ((a : DriveAt) → o ≡ Some a → is_deaf a ≡ true)
    → delivers u [] n ≡ told_delivered n (quiet (marked u n p) delivery.Deaf)
unfolding delivers
deaf_act u n d p there to None found deaf = rw (there, to, found) refl
deaf_act u n d p there to (Some a) found deaf = rw (there, to, found, deaf a refl) refl

unheard_move : (u : World) (n : ℕ) (p : Posted) (a : Act) → a ≡ told_delivered n (quiet (marked u n p) delivery.Deaf)
    → ((sends_all a).world ≡ marked u n p) × ((sends_all a).lines ≡ line.Delivered n delivery.Deaf ∷ [])
unfolding sent_lines
unheard_move u n p a is = (
  ap (λ (x : Act). (sends_all x).world) is
      ∙ ap (λ (y : Network). record (marked u n p) { network = y }) (nothing_sent (marked u n p).network),
  ap (λ (x : Act). (sends_all x).lines) is,
)

same_marked : (u : World) (n : ℕ) (p : Posted) → slice_get u.network.messages n ≡ Some p
    → cluster_of (marked u n p) ≡ cluster_of u
same_marked u n p there =
    ap (λ (l : List Message). record (cluster_of u) { sent = l }) (said_marked u.network.messages n p (heard p) there refl)

over_now : (first : ℕ) (u : World) (front : List Posted) → u.network.messages ≡ front → NoneLeft first front
    → IsOver (plan first) u
over_now first u front is none =
    ap (λ (o : Option ℕ). due_pending u None o)
    ((next_is_lowest u first 0).1
    (λ k p low below found. none k p low (sym (ap (λ (ms : List Posted). slice_get ms k) is) ∙ found)))

next_due : (first : ℕ) (u : World) (front : List Posted) (p : Post) (ps : List Post)
    → u.network.messages ≡ front ++ fresh p ∷ map fresh ps → NoneLeft first front → first ≤ length front
    → due (plan first) u ≡ Some (Delivers (length front))
next_due first u front p ps is none low =
    ap (λ (o : Option ℕ). due_pending u None o)
    ((next_is_lowest u first (length front)).0
    (record {
      from = low;
      message = fresh p;
      found = ap (λ (ms : List Posted). slice_get ms (length front)) is ∙ at_seam front (map fresh ps) (fresh p);
      pending = refl;
      below = λ k x up below found. none k x up
          (before_seam front (fresh p ∷ map fresh ps) k x
          (sym (ap (λ (ms : List Posted). slice_get ms k) is) ∙ found) below);
    }))

pub all_delivered : (first : ℕ) (u : World) (front : List Posted) (ps : List Post)
    → u.network.messages ≡ front ++ map fresh ps → NoneLeft first front → first ≤ length front → NobodyHears u
    → AreForDrives ps → AreDelivered first (length front) u ps
unfolding unheard
all_delivered first u front [] is none low nobody for = record {
  moves = [];
  are_due = tt;
  over = over_now first u front (is ∙ append-nil front) none;
  lines = refl;
  same = refl;
  drives = refl;
}
all_delivered first u front (p ∷ ps) is none low nobody for =
    let n : ℕ = length front in
    let m : Move = record { action = Delivers n; chosen = [] } in
    let there : slice_get u.network.messages n ≡ Some (fresh p) =
    ap (λ (ms : List Posted). slice_get ms n) is ∙ at_seam front (map fresh ps) (fresh p) in
    let act : delivers u [] n ≡ told_delivered n (quiet (marked u n (fresh p)) delivery.Deaf) =
    deaf_act u n for.0.0 (fresh p) there for.0.1 (at_number u.drives for.0.0) refl (λ a found. nobody for.0.0 for.0.2 a found) in
    let moved : ((sends_all (delivers u [] n)).world ≡ marked u n (fresh p))
    × ((sends_all (delivers u [] n)).lines ≡ line.Delivered n delivery.Deaf ∷ []) =
    unheard_move u n (fresh p) (delivers u [] n) act in
    let parted : (marked u n (fresh p)).network.messages ≡ (front ++ heard (fresh p) ∷ []) ++ map fresh ps =
    ap (λ (ms : List Posted). slice_set ms n (heard (fresh p))) is
    ∙ set_seam front (map fresh ps) (fresh p) (heard (fresh p))
    ∙ sym (append_assoc front (heard (fresh p) ∷ []) (map fresh ps)) in
    let longer : length (front ++ heard (fresh p) ∷ []) ≡ n + 1 = length_more front (heard (fresh p)) in
    let rest : AreDelivered first (length (front ++ heard (fresh p) ∷ [])) (marked u n (fresh p)) ps =
    all_delivered first (marked u n (fresh p)) (front ++ heard (fresh p) ∷ []) ps parted
    (none_more first front (heard (fresh p)) none refl) (omega (arith, low, longer)) nobody for.1 in
    let numbered : AreDelivered first (n + 1) (marked u n (fresh p)) ps =
    subst (λ (k : ℕ). AreDelivered first k (marked u n (fresh p)) ps) longer rest in
    let going : AreDelivered first (n + 1) (move u m).world ps =
    subst (λ (v : World). AreDelivered first (n + 1) v ps) (sym moved.0) numbered in
    record {
      moves = m ∷ going.moves;
      are_due = (next_due first u front p ps is none low, going.are_due);
      over = going.over;
      lines =
          ap (λ (l : List Line). l ++ lines_of (move u m).world going.moves) moved.1
          ∙ ap (λ (l : List Line). line.Delivered n delivery.Deaf ∷ l) going.lines;
      same = going.same ∙ ap cluster_of moved.0 ∙ same_marked u n (fresh p) there;
      drives = going.drives ∙ ap (λ (v : World). v.drives) moved.0;
    }

-- ---- the CREATEs

for_one : (b : Bool) (p : Post) (ps : List Post) (d : ℕ) → p.message.to ≡ node.Drive d → is_addressed p ≡ b
    → nat_lt d DRIVES ≡ b → AreForDrives ps → AreForDrives (cond b (p ∷ ps) ps)
for_one true p ps d to is named rest = ((d, to, grind (arith, nat_tests, named)), rest)
for_one false p ps d to is named rest = rest

pub for_drives : (ds : List Drive) (xs : List Awaited)
    → AreForDrives (filter is_addressed (map server_post (to_drives ds xs)))
for_drives ds [] = tt
for_drives ds (x ∷ xs) =
    for_one (nat_lt x.drive DRIVES) (server_post (to_drive ds x)) (filter is_addressed (map server_post (to_drives ds xs)))
    x.drive refl refl refl (for_drives ds xs)

if_made : (r : Option Refusal) (step x : ServerStep) → unless_refused r step ≡ Ok x → step ≡ x
if_made None step x e = cc e
if_made (Some r) step x e = absurd (cc e)

for_file : (s : Server) (f : File) → AreForDrives (filter is_addressed (map server_post (makes_file s f).sends))
for_file s f = for_drives s.drives (jobs.making (at_file (making.with_file s f) [] f)).effects.sent

for_made : (s : Server) (f : ℕ) (m : RawMap) (chosen : List ℕ) (x : ServerStep) → create_file s f m 1 false chosen ≡ Ok x
    → AreForDrives (filter is_addressed (map server_post x.sends))
unfolding create_file
for_made s f m chosen x made =
    let it : makes_file s (unmade s f m 1 false (drives_for false s.drives m chosen)) ≡ x = if_made _ _ x made in
    subst (λ (y : ServerStep). AreForDrives (filter is_addressed (map server_post y.sends))) it
    (for_file s (unmade s f m 1 false (drives_for false s.drives m chosen)))

-- ---- the event

module _ (w : World) (h : List Line) (s : StandsFor w h) (stored : AreStored w.drives) (nobody : NobodyHears w)
    (up : w.down ≡ false) (chosen : List ℕ) (f : ℕ) (m : RawMap) (x : ServerStep)
    (algorithm : has_algorithm m ≡ true) (made : create_file w.server f m 1 false chosen ≡ Ok x) where
  abbrev made_event : Event
  made_event = event.File f (map_of m) 1

  abbrev posts : List Post
  posts = filter is_addressed (map server_post x.sends)

  abbrev first : ℕ
  first = length w.network.messages

  abbrev first_move : Move
  first_move = record { action = Opens made_event; chosen = chosen }

  abbrev act : Act
  act = acted (server_did w x)

  act_is : begins w chosen made_event ≡ act
  unfolding begins makes
  act_is = rw (algorithm, made) refl

  delivered_then : AreDelivered first first (sends_all act).world posts
  delivered_then =
      all_delivered first (sends_all act).world w.network.messages posts refl
      (λ k p low found. absurd (omega (arith, low, slice_get_within w.network.messages k p found)))
      (omega arith) nobody (for_made w.server f m chosen x made)

  delivered : AreDelivered first first (move w first_move).world posts
  delivered = subst (λ (a : Act). AreDelivered first first (sends_all a).world posts) (sym act_is) delivered_then

  carries : Carries w made_event (line.Event made_event ∷ lines_of w (first_move ∷ delivered.moves))
      (world_after w (first_move ∷ delivered.moves))
  unfolding refusal rule_of
  carries = record {
    allowed = rw up refl;
    moves = first_move ∷ delivered.moves;
    are_due = (refl, delivered.are_due);
    over = delivered.over;
    lines_are = refl;
    world_is = refl;
  }

  abbrev gives : List Message
  gives = for_somebody (map server_message x.sends)

  -- what the event comes to
  abbrev pub file_deed : Deed
  file_deed = record {
    cluster = record (cluster_of w) { server = x.state };
    lines = line.Event made_event ∷ filter_map known_note_line x.notes;
    gives = gives;
    behind = unheard (length (cluster_of w).sent) gives;
  }

  number_same : first ≡ length (said w.network.messages)
  number_same = sym (length-map w.network.messages (λ (p : Posted). p.message))

  same : cluster_of (world_after w (first_move ∷ delivered.moves)) ≡ history.sending file_deed
  same =
      delivered.same ∙ ap (λ (a : Act). cluster_of (sends_all a).world) act_is ∙ sent_same act
      ∙ ap (λ (l : List Message). record file_deed.cluster { sent = said w.network.messages ++ l }) (server_posted x.sends)

  lines_then : lines_of w (first_move ∷ delivered.moves)
      ≡ (act.told ++ history.message_lines (length (said w.network.messages)) (posted posts))
      ++ unheard first (posted posts)
  lines_then =
      ap (λ (l : List Line). (move w first_move).lines ++ l) delivered.lines
      ∙ ap (λ (a : Act). (sends_all a).lines ++ unheard first (posted posts)) act_is
      ∙ ap (λ (l : List Line). l ++ unheard first (posted posts)) (lines_same act)

  lines_are : line.Event made_event ∷ lines_of w (first_move ∷ delivered.moves) ≡ history.lines_of file_deed
  lines_are =
      ap (λ (l : List Line). line.Event made_event ∷ l)
      (lines_then
      ∙ append_assoc act.told (history.message_lines (length (said w.network.messages)) (posted posts))
      (unheard first (posted posts))
      ∙ ap (λ (n : ℕ). act.told ++ (history.message_lines (length (said w.network.messages)) (posted posts)
      ++ unheard n (posted posts))) number_same
      ∙ ap (λ (l : List Message). act.told ++ (history.message_lines (length (said w.network.messages)) l
      ++ unheard (length (said w.network.messages)) l)) (server_posted x.sends))

  drives_same : (world_after w (first_move ∷ delivered.moves)).drives ≡ w.drives
  drives_same = delivered.drives ∙ ap (λ (a : Act). (sends_all a).world.drives) act_is

  pub file_goes : LeadsTo (h ++ history.lines_of file_deed) (history.sending file_deed)
  file_goes = record {
    world = world_after w (first_move ∷ delivered.moves);
    stands =
        subst (λ (l : List Line). StandsFor (world_after w (first_move ∷ delivered.moves)) (h ++ l)) lines_are
        (one_event_more w (world_after w (first_move ∷ delivered.moves)) h
        (line.Event made_event ∷ lines_of w (first_move ∷ delivered.moves)) made_event s carries);
    like = record { same = same; stored = subst AreStored (sym drives_same) stored };
  }
