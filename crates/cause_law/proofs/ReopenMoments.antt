-- At each moment behind a crash of the server, each file that had a grant or a fence then is barred, until a fence is over.
use Rattle.std.proofs.Common.{◌≡◌, ◌≢◌, ◌⊎◌, ℕ, ◌<◌, true, false, true≢false, List, [], ◌∷◌, ◌++◌, Some, Ok, refl, sym, ap, subst, ◌∙◌, inl, inr}
use Rattle.std.proofs.lemmas.List.{append-nil}
use Rattle.osd_lists.proofs.Slices.{tail_same}
use Rattle.layout_ops.specs.declared.envelope.Envelope.{Envelope}
use Rattle.layout_ops.specs.declared.envelope.Envelope.TheVariants as envelope
use Rattle.layout_ops.specs.Reading.{envelope_of}
use Rattle.layout_ops.proofs.Whole.{all_again}
use Rattle.scenario_text.specs.declared.names.TheConstants.{FILES}
use Rattle.scenario_text.specs.declared.event.Event.TheVariants as event
use Rattle.scenario_text.specs.declared.event.Machine.TheVariants as machine
use Rattle.scenario_text.specs.declared.line.Note.TheVariants as note
use Rattle.scenario_text.specs.declared.line.Line.{Line}
use Rattle.scenario_text.specs.declared.line.Line.TheVariants as line
use Rattle.server_rules.specs.declared.limits.TheConstants.{GREATEST_TAG}
use Rattle.server_rules.specs.Files.{file_at}
use Rattle.server_rules.specs.Laws.{In, AreSafe}
use Rattle.server_rules.proofs.FileLaws.{number_at}
use Rattle.server_rules.proofs.Members.{in_front, in_behind, in_either}
use Rattle.world_history.specs.ServerNames.{Server, File, Kept, Answer}
use Rattle.world_history.specs.Book.{ServerSeen, server_after, live_in}
use Rattle.world_history.specs.State.{World}
use Rattle.world_history.specs.Moves.{Action, Opens}
use Rattle.world_history.specs.Plans.{due}
use Rattle.world_history.specs.Sending.{Move, move}
use Rattle.world_history.specs.History.{OneEventMore}
use Rattle.history_law.specs.Moments.{IsMoment, plan_at, lines_in}
use Rattle.history_law.proofs.Moments.{always}
use Rattle.component_law.specs.Naming.{IsNamed}
use Rattle.component_law.specs.Seeing.{SeenIsSound}
use Rattle.component_law.specs.Sound.{IsSound}
use Rattle.component_law.specs.Tags.{EachStepRaisesTags}
use Rattle.component_law.proofs.NamedLines.{are_named}
use Rattle.component_law.proofs.Rounds.{each_at}
use Rattle.history_law.specs.Grants.{GrantsAreSafe}
use Rattle.history_law.specs.Read.{AreWritten, BookIsRead}
use Rattle.history_law.proofs.Staying.{written_front}
use Rattle.history_law.proofs.StepEnds.{place_of}
use Rattle.history_law.proofs.Ending.{next_moment}
use Rattle.history_law.proofs.Exact.{same_ok}
use Rattle.component_law.specs.Live.{AreShort}
use Rattle.exchange_law.specs.Counters.{CountersStayLow}
use Rattle.exchange_law.specs.Text.{AreOfText, AreFew}
use Rattle.exchange_law.proofs.CountGrowing.{fewer, text_front}
use Rattle.component_law.proofs.Moments.{each_second, named_action, allowed_at}
use Rattle.cause_law.specs.Changes.{IsUnsettled}
use Rattle.cause_law.specs.Told.{Answers, ToNew, Repeats, Refuses, IsToRequest, Spells, IsTold, TellsRecall, TellsAnswer, EachMessageIsCaused}
use Rattle.cause_law.proofs.Answering.{safe_at}
use Rattle.cause_law.proofs.Grants.{sound_at}
use Rattle.cause_law.specs.Reopened.{crash_line, reopen_line, NoneOver, LeaveBarred, GiveLayout, GivesLayoutOf, WasSentTo, ReadsNone, TellNoneNew, IsRefused, EachCrashBars}
use Rattle.cause_law.proofs.Unsettled.{is_fenced}
use Rattle.cause_law.proofs.Barring.{One, Stage, Crashed, Fenced, Again, Refused, under_none, fenced_on, stage_on, crashed}
use Rattle.cause_law.proofs.ReopenMoving.{Moves, Crashing, Opening, Resting, Serving, each_move, events_first}
use Rattle.cause_law.proofs.ReopenTelling.{Bars, plain_none, new_none, sent_before}

-- ---- a file at its number

one_is : (n : ℕ) (Q : File → Type 0) (fs : List File) (g : File) → One n Q fs → file_at fs n ≡ Some g → Q g
one_is n Q fs g (f, found, q) there = let same : f ≡ g = cc (sym found ∙ there) in subst Q same q

stage_known : (n tag : ℕ) (ls : List Line) (w : World) → Stage n tag ls w → IsSound w.server → n < FILES
stage_known n tag ls w stage sound = by (its stage)
  where
    its : Stage n tag ls w → (f : File) × (file_at w.server.files n ≡ Some f)
    its (Crashed down none o) = (o.0, o.1)
    its (Fenced up less o) = (o.0, o.1)
    its (Again down less o) = (o.0, o.1)
    its (Refused up greatest o) = (o.0, o.1)

    by : (f : File) × (file_at w.server.files n ≡ Some f) → n < FILES
    by (f, found) =
        subst (λ (k : ℕ). k < FILES) (number_at w.server.files n f found)
        (each_at (λ (x : File). x.kept.number < FILES) w.server.files n f sound.files found)

-- ---- lines of a crash

none_before : (front ls : List Line) → crash_line ∷ [] ≡ front ++ crash_line ∷ ls → (front ≡ []) × (ls ≡ [])
none_before [] ls e = (refl, sym (tail_same crash_line crash_line [] ls e))
none_before (x ∷ front) ls e = absurd (some front (tail_same crash_line x [] (front ++ crash_line ∷ ls) e))
  where
    some : (ys : List Line) → [] ≡ ys ++ crash_line ∷ ls → ⊥
    some [] q = cc q
    some (y ∷ ys) q = cc q

nothing_in : (l : Line) (ls : List Line) → ls ≡ [] → In l ls → ⊥
nothing_in l ls e i = subst (In l) e i

leaves_front : (n : ℕ) (k : Kept) (xs ys : List Line) → LeaveBarred n k (xs ++ ys) → LeaveBarred n k xs
leaves_front n k xs ys l = record {
  fence = λ tag i. l.fence tag (in_front (line.Note n (note.Fenced tag)) xs ys i);
  crash = λ e i. l.crash e (in_front crash_line xs ys i);
}

-- ---- what is told in a move

-- the file before and behind it
module _ (raise : EachStepRaisesTags) (n tag : ℕ) (w : World) (m : Move) (sound : IsSound w.server)
    (safe : AreSafe w.server.files)
    (later : AreSafe (move w m).world.server.files) (known : n < FILES) (quiet : NoneOver n (lines_in w m)) (ls : List Line)
    (moves : Moves w m) where
  bars_at : Stage n tag ls w → w.down ≡ false → (f g : File) → file_at w.server.files n ≡ Some f
      → file_at (move w m).world.server.files n ≡ Some g → Bars f g
  bars_at (Crashed down none o) up f g found behind = absurd (true≢false (sym down ∙ up))
  bars_at (Again down less o) up f g found behind = absurd (true≢false (sym down ∙ up))
  bars_at (Refused awake greatest o) up f g found behind = inl (one_is n _ w.server.files f o found).0
  bars_at (Fenced awake less o) up f g found behind = elim (fenced_on raise n tag w m sound safe known quiet awake o moves) [
    | inl r ↦
        inr (one_is n (λ (x : File). x.kept.grants ≡ []) (move w m).world.server.files g
        (under_none n tag (move w m).world.server later r.1) behind)
    | inr r ↦ inr (one_is n _ (move w m).world.server.files g r.1 behind).1
  ]

-- the lines up to now, behind the move
module _ (n : ℕ) (w : World) (action : Action) (before ls now : List Line) (s t : Server) (told : TellNoneNew before n ls)
    (bars : w.down ≡ false → (f g : File) → file_at s.files n ≡ Some f → file_at t.files n ≡ Some g → Bars f g) where
  abbrev h : List Line
  h = before ++ crash_line ∷ ls

  -- where a message fits, it is read in its bytes
  itself : (message : Envelope) (bytes : List ℕ) → Spells (AreShort now) message bytes → AreShort now → (m : Envelope)
      → envelope_of bytes ≡ Ok m → message ≡ m
  itself message bytes s short m read =
      same_ok message m (envelope_of bytes) (ap envelope_of s.bytes_are ∙ all_again message (s.fits short)) read

  by_why : (client : ℕ) (bytes : List ℕ) (a : Answer) → a.client ≡ client → Spells (AreShort now) (envelope.Answer a) bytes
      → AreShort now → (r : IsToRequest w action h s t a) → Answers h s t r.now r.request a
      → WasSentTo before client bytes ⊎ ReadsNone n bytes
  by_why client bytes a c b short r (ToNew new caused) =
      inr (λ m read gives.
      new_none n s t r.now r.request a (bars r.handed.5) caused
      (subst (GivesLayoutOf n) (sym (itself (envelope.Answer a) bytes b short m read)) gives))
  by_why client bytes a c b short r (Repeats last) = elim (sent_before n before ls a told last.sent) [
    | inl it ↦
        inl (subst (λ (k : ℕ). WasSentTo before k bytes) c (subst (WasSentTo before a.client) (sym b.bytes_are) it))
    | inr it ↦ inr (subst (ReadsNone n) (sym b.bytes_are) it)
  ]
  by_why client bytes a c b short r (Refuses wrong) =
      inr (λ m read gives.
      plain_none r.request.args _
      (subst GiveLayout (ap (λ (x : Answer). x.results) wrong.is)
      (subst (GivesLayoutOf n) (sym (itself (envelope.Answer a) bytes b short m read)) gives).1))

  pub told_on : (client : ℕ) (bytes : List ℕ) → AreShort now → IsTold (AreShort now) w action h s t client bytes
      → WasSentTo before client bytes ⊎ ReadsNone n bytes
  told_on client bytes short (TellsRecall r c b) =
      inr (λ m read gives.
      subst (GivesLayoutOf n) (sym (itself (envelope.Recall r) bytes b short m read)) gives)
  told_on client bytes short (TellsAnswer a c b r) = by_why client bytes a c b short r r.why

-- ---- the moments

module _ (causes : EachMessageIsCaused) (raise : EachStepRaisesTags) (seen : SeenIsSound) (safe : GrantsAreSafe)
    (read : BookIsRead) (low : CountersStayLow) where
  abbrev So : World → List Line → Type 0
  So w h = AreWritten h → AreOfText h → AreFew h → (before ls : List Line) → h ≡ before ++ crash_line ∷ ls → (n : ℕ)
      (f : File) → file_at (server_after before).files n ≡ Some f → IsUnsettled f.kept → LeaveBarred n f.kept ls
      → Stage n f.kept.tag ls w × TellNoneNew before n ls

  module _ (w : World) (h : List Line) (k : IsMoment w h) (m : Move) (d : due (plan_at k) w ≡ Some m.action) (so : So w h)
      (written : AreWritten (h ++ lines_in w m)) (text : AreOfText (h ++ lines_in w m)) (few : AreFew (h ++ lines_in w m)) where
    abbrev ms : List Line
    ms = lines_in w m

    written_here : AreWritten h
    written_here = written_front h ms written

    sound : IsSound w.server
    sound = sound_at seen read w h k written_here

    moves : Moves w m
    moves =
        each_move w m.chosen m.action (allowed_at w h k m.action d)
        (named_action m.action (move w m).lines (each_second IsNamed h ms (are_named (h ++ ms) written)))

    there : server_after h ≡ w.server
    there = ap (λ (s : ServerSeen). s.server) (read w h k written_here)

    behind : server_after (h ++ ms) ≡ (move w m).world.server
    behind = ap (λ (s : ServerSeen). s.server) (read (move w m).world (h ++ ms) (next_moment w h k m d) written)

    short : AreShort (h ++ ms)
    short = record { text = text; few = few }

    abbrev Tells : List Line → Server → Server → ℕ → List ℕ → Type 0
    Tells g s t = IsTold (AreShort (h ++ ms)) w m.action g s t

    -- a crash before the move
    older : (before rest : List Line) → h ≡ before ++ crash_line ∷ rest → (n : ℕ) (f : File)
        → file_at (server_after before).files n ≡ Some f → IsUnsettled f.kept → LeaveBarred n f.kept (rest ++ ms)
        → Stage n f.kept.tag (rest ++ ms) (move w m).world × TellNoneNew before n (rest ++ ms)
    older before rest own n f found open_ leaves =
        let r = so written_here (text_front h ms text) (fewer h ms few) before rest own n f found open_
        (leaves_front n f.kept rest ms leaves) in
        let quiet : NoneOver n ms = λ tag i. leaves.fence tag (in_behind (line.Note n (note.Fenced tag)) rest ms i) in
        let known : n < FILES = stage_known n f.kept.tag rest w r.0 sound in (
          stage_on raise n f.kept.tag w m sound (safe_at safe w h k) known quiet
              (low w h k (text_front h ms text) (fewer h ms few)) rest
              (λ e i. leaves.crash e (in_behind crash_line rest ms i)) r.0 moves,
          λ number client bytes i. elim (in_either _ rest ms i) [
            | inl j ↦ r.1 number client bytes j
            | inr j ↦
                told_on n w m.action before rest (h ++ ms) w.server (move w m).world.server r.1
                (bars_at raise n f.kept.tag w m sound (safe_at safe w h k)
                (safe_at safe (move w m).world (h ++ ms) (next_moment w h k m d)) known quiet rest moves r.0) client bytes short
                (subst (λ (g : List Line). Tells g w.server (move w m).world.server client bytes) own
                (subst (λ (s : Server). Tells h s (move w m).world.server client bytes) there
                (subst (λ (s : Server). Tells h (server_after h) s client bytes) behind
                (causes w h k m d written number client bytes j))))
          ],
        )

    -- the crash
    newer : (before front ls : List Line) → before ≡ h ++ front → ms ≡ front ++ crash_line ∷ ls → (n : ℕ) (f : File)
        → file_at (server_after before).files n ≡ Some f → IsUnsettled f.kept → Moves w m
        → Stage n f.kept.tag ls (move w m).world × TellNoneNew before n ls
    newer before front ls own is n f found open_ (Crashing lines awake state down) =
        let none = none_before front ls (sym lines ∙ is) in
        let here : file_at w.server.files n ≡ Some f =
        ap (λ (s : Server). file_at s.files n)
        (sym there ∙ ap server_after (sym (append-nil h) ∙ ap (λ (x : List Line). h ++ x) (sym none.0) ∙ sym own))
        ∙ found in (
          subst (λ (x : List Line). Stage n f.kept.tag x (move w m).world) (sym none.1)
              (crashed raise n w m sound f here (is_fenced f.kept open_) state down),
          λ number client bytes i. absurd (nothing_in _ ls none.1 i),
        )
    newer before front ls own is n f found open_ (Opening i asleep state down told) =
        let one : m.action ≡ Opens (event.Crash machine.Server) =
        events_first w m.chosen m.action (allowed_at w h k m.action d) (event.Crash machine.Server)
        (subst (In crash_line) (sym is) (in_behind crash_line front (crash_line ∷ ls) (inl refl))) in
        let other : m.action ≡ Opens (event.Reopen machine.Server) =
        events_first w m.chosen m.action (allowed_at w h k m.action d) (event.Reopen machine.Server) i in
        absurd (cc (sym one ∙ other))
    newer before front ls own is n f found open_ (Resting none files down) =
        absurd (none.0 (subst (In crash_line) (sym is) (in_behind crash_line front (crash_line ∷ ls) (inl refl))))
    newer before front ls own is n f found open_ (Serving i none plain named awake down state told) =
        absurd (none.0 (subst (In crash_line) (sym is) (in_behind crash_line front (crash_line ∷ ls) (inl refl))))

    moved : (before ls : List Line) → h ++ ms ≡ before ++ crash_line ∷ ls → (n : ℕ) (f : File)
        → file_at (server_after before).files n ≡ Some f → IsUnsettled f.kept → LeaveBarred n f.kept ls
        → Stage n f.kept.tag ls (move w m).world × TellNoneNew before n ls
    moved before ls is n f found open_ leaves = elim (place_of h ms before ls crash_line is) [
      | inl (rest, own, more) ↦
          subst (λ (x : List Line). Stage n f.kept.tag x (move w m).world × TellNoneNew before n x) (sym more)
          (older before rest own n f found open_ (subst (LeaveBarred n f.kept) more leaves))
      | inr (front, own, it) ↦ newer before front ls own it n f found open_ moves
    ]

  starts : (before ls : List Line) → [] ≡ before ++ crash_line ∷ ls → ⊥
  starts [] ls e = cc e
  starts (x ∷ before) ls e = cc e

  so_at : OneEventMore → (w : World) (h : List Line) → IsMoment w h → So w h
  so_at more w h k = always So (record {
    starts = λ written text few before ls e. absurd (starts before ls e);
    moves = λ v g j m d x written text few. moved v g j m d x written text few;
  }) more w h k

  -- ---- in the words of the lines

  live_of : (s : Server) (n : ℕ) → One n (λ (f : File). f.kept.grants ≡ []) s.files → live_in (file_at s.files n) ≡ []
  live_of s n (f, found, none) = ap live_in found ∙ none

  spent_of : (s : Server) (n : ℕ) (Q : File → Type 0) → ((f : File) → Q f → f.spent ≡ true) → One n Q s.files
      → IsRefused (file_at s.files n)
  spent_of s n Q has (f, found, q) = subst IsRefused (sym found) (has f q)

  once_live : (n tag : ℕ) (ls : List Line) (w : World) → AreSafe w.server.files → Stage n tag ls w → In reopen_line ls
      → tag ≢ GREATEST_TAG → live_in (file_at w.server.files n) ≡ []
  once_live n tag ls w all (Crashed down none o) i less = absurd (none i)
  once_live n tag ls w all (Fenced up high o) i less = live_of w.server n (under_none n tag w.server all o)
  once_live n tag ls w all (Again down high (f, found, q)) i less = live_of w.server n (f, found, q.1)
  once_live n tag ls w all (Refused up greatest o) i less = absurd (less greatest)

  once_spent : (n tag : ℕ) (ls : List Line) (w : World) → Stage n tag ls w → In reopen_line ls → tag ≡ GREATEST_TAG
      → IsRefused (file_at w.server.files n)
  once_spent n tag ls w (Crashed down none o) i greatest = absurd (none i)
  once_spent n tag ls w (Fenced up less o) i greatest = absurd (less greatest)
  once_spent n tag ls w (Again down less o) i greatest = absurd (less greatest)
  once_spent n tag ls w (Refused up high o) i greatest = spent_of w.server n _ (λ f q. q.0) o

  pub each_crash_bars : OneEventMore → EachCrashBars
  each_crash_bars more h w k written text few before ls is n f found open_ leaves =
      let r = so_at more w h k written text few before ls is n f found open_ leaves in
      let same : server_after (before ++ crash_line ∷ ls) ≡ w.server =
      ap server_after (sym is) ∙ ap (λ (s : ServerSeen). s.server) (read w h k written) in
      record {
        told = r.1;
        none = λ i less.
            ap (λ (s : Server). live_in (file_at s.files n)) same
            ∙ once_live n f.kept.tag ls w (safe_at safe w h k) r.0 i less;
        refused = λ i greatest.
            subst (λ (s : Server). IsRefused (file_at s.files n)) (sym same) (once_spent n f.kept.tag ls w r.0 i greatest);
      }
