-- At each moment, and in the lines: what was given before a fence was over is of an earlier tag.
use Rattle.std.proofs.Common.{◌≡◌, ℕ, zero, suc, ◌<◌, ◌++◌, ◌∷◌, [], List, length, map, slice_get, slice_set, Option, Some, None, refl, sym, ap, subst, ◌∙◌, append_assoc, arith, inl, inr}
use Rattle.std.proofs.lemmas.List.Sums.{fold-append}
use Rattle.std.specs.List.{fold}
use Rattle.std.proofs.lemmas.Option.{same_Some}
use Rattle.osd_lists.specs.declared.node.Node.{Node}
use Rattle.osd_lists.specs.declared.node.Node.TheVariants as node
use Rattle.osd_lists.proofs.Slices.{head_same, tail_same}
use Rattle.layout_ops.specs.declared.envelope.Envelope.{Envelope}
use Rattle.layout_ops.specs.declared.envelope.Envelope.TheVariants as envelope
use Rattle.layout_ops.specs.declared.results.LayoutGetResult.TheVariants as get
use Rattle.layout_ops.specs.declared.results.Results.{Results}
use Rattle.layout_ops.specs.declared.results.Results.TheVariants as results
use Rattle.server_rules.specs.Files.{file_at}
use Rattle.server_rules.specs.History.{step}
use Rattle.server_rules.specs.Laws.{In, FilesArePut}
use Rattle.scenario_text.specs.declared.event.Event.{Event}
use Rattle.scenario_text.specs.declared.event.Event.TheVariants as event
use Rattle.scenario_text.specs.declared.line.Line.{Line}
use Rattle.scenario_text.specs.declared.line.Line.TheVariants as line
use Rattle.scenario_text.specs.declared.line.Note.TheVariants as note
use Rattle.scenario_text.specs.declared.line.Party.TheVariants as party
use Rattle.world_history.specs.ServerNames as server_rules
use Rattle.world_history.specs.ServerNames.{File}
use Rattle.world_history.specs.declared.messages.Message.{Message}
use Rattle.world_history.specs.declared.messages.Posted.{Posted}
use Rattle.world_history.specs.declared.messages.Sent.{Sent}
use Rattle.world_history.specs.declared.messages.Body.{Body}
use Rattle.world_history.specs.State.{World}
use Rattle.world_history.specs.Spelled.{spelled}
use Rattle.world_history.specs.Reading.{sent_after, sent_after_event, sent_in, arrived, left_out, changed_by, steps_of}
use Rattle.world_history.specs.Laws.{shown, ServerGoesOn, AllLinesGoOn}
use Rattle.world_history.specs.Moves.{Act, acts}
use Rattle.world_history.specs.Sending.{Move, move, sent_lines}
use Rattle.world_history.specs.Book.{ServerSeen}
use Rattle.world_history.specs.Calm.{first_seen}
use Rattle.world_history.proofs.Always.{opening, IsKept}
use Rattle.world_history.proofs.Parties.{party_server, party_client}
use Rattle.history_law.proofs.DriveLines.{view, sent_read}
use Rattle.history_law.proofs.Histories.{stands}
use Rattle.history_law.specs.Read.{AreWritten}
use Rattle.history_law.proofs.Staying.{written_front}
use Rattle.history_law.proofs.Following.{IsFollowed, followed}
use Rattle.history_law.proofs.Issuing.{IsSilent, AreSilent}
use Rattle.history_law.proofs.IssuingMoves.{acts_known}
use Rattle.history_law.proofs.IssueLines.{IsKnown}
use Rattle.exchange_law.proofs.Fitting.{IsFitting}
use Rattle.component_law.specs.Sound.{IsSound}
use Rattle.component_law.specs.Seeing.{SeenIsSound}
use Rattle.component_law.specs.Tags.{fence_note, EachStepRaisesTags}
use Rattle.history_law.proofs.FencingMoves.{messages_in, Acts, Others, Serves, each_acts}
use Rattle.history_law.proofs.Holding.{no_note}
use Rattle.component_law.proofs.NamedLines.{are_named}
use Rattle.component_law.proofs.SeenServer.{seen_server}
use Rattle.component_law.specs.Live.{AreShort}
use Rattle.component_law.specs.Given.{GivesOlder, OlderIn, SpellsOlder, GivenBefore, GrantsAreOlder}
use Rattle.component_law.proofs.Aging.{GivesUpTo, to_client, EnvelopeUpTo, Aged, aged_by, aged_first}
use Rattle.component_law.proofs.Bodies.{BodiesFit, shorter, low_now, HasBodies, all_bodies}

-- ---- places in lists

-- a line of two lists is one of the first, or stands in the second behind a front of it
data Place (h ls before after : List Line) (x : Line) : Type 0 where
  InFirst : (rest : List Line) → h ≡ before ++ x ∷ rest → Place h ls before after x
  InSecond : (front : List Line) → before ≡ h ++ front → ls ≡ front ++ x ∷ after → Place h ls before after x

place_of : (h ls before after : List Line) (x : Line) → h ++ ls ≡ before ++ x ∷ after → Place h ls before after x
place_of [] ls before after x e = InSecond before refl e
place_of (y ∷ h) ls [] after x e =
    InFirst h (ap (λ (z : Line). z ∷ h) (head_same y x (h ++ ls) after e))
place_of (y ∷ h) ls (z ∷ before) after x e =
    let same : y ≡ z = head_same y z (h ++ ls) (before ++ x ∷ after) e in
    by_rest same (place_of h ls before after x (tail_same y z (h ++ ls) (before ++ x ∷ after) e))
  where
    by_rest : y ≡ z → Place h ls before after x → Place (y ∷ h) ls (z ∷ before) after x
    by_rest same (InFirst rest is) =
        InFirst rest (ap (λ (v : Line). v ∷ h) same ∙ ap (λ (l : List Line). z ∷ l) is)
    by_rest same (InSecond front is behind) =
        InSecond front (ap (λ (v : Line). v ∷ before) (sym same) ∙ ap (λ (l : List Line). y ∷ l) is) behind

silent_front : (xs ys : List Line) → AreSilent (xs ++ ys) → AreSilent xs
silent_front [] ys s = tt
silent_front (x ∷ xs) ys s = (s.0, silent_front xs ys s.1)

in_middle : (x : Line) (xs ys : List Line) → In x (xs ++ x ∷ ys)
in_middle x [] ys = inl refl
in_middle x (y ∷ xs) ys = inr (in_middle x xs ys)

-- ---- lines that tell of no message

-- the message was there before, with its parties and its bytes
record Was (ss : List Sent) (n : ℕ) (m : Sent) : Type 0 where
  message : Sent
  there : slice_get ss n ≡ Some message
  from_is : m.from ≡ message.from
  to_is : m.to ≡ message.to
  bytes_are : m.bytes ≡ message.bytes

was_there : (ss : List Sent) (n : ℕ) (m : Sent) → slice_get ss n ≡ Some m → Was ss n m
was_there ss n m e = record { message = m; there = e; from_is = refl; to_is = refl; bytes_are = refl }

was_next : (x : Sent) (ss : List Sent) (n : ℕ) (m : Sent) → Was ss n m → Was (x ∷ ss) (suc n) m
was_next x ss n m w = record {
  message = w.message;
  there = w.there;
  from_is = w.from_is;
  to_is = w.to_is;
  bytes_are = w.bytes_are;
}

set_back : (ss : List Sent) (k : ℕ) (s y : Sent) → slice_get ss k ≡ Some s → y.from ≡ s.from → y.to ≡ s.to
    → y.bytes ≡ s.bytes → (n : ℕ) (m : Sent) → slice_get (slice_set ss k y) n ≡ Some m → Was ss n m
set_back [] k s y there from to bytes n m e = absurd (cc there)
set_back (x ∷ ss) zero s y there from to bytes zero m e =
    let new : y ≡ m = same_Some y m e in
    let old : x ≡ s = same_Some x s there in
    record {
      message = x;
      there = refl;
      from_is = ap (λ (z : Sent). z.from) (sym new) ∙ from ∙ ap (λ (z : Sent). z.from) (sym old);
      to_is = ap (λ (z : Sent). z.to) (sym new) ∙ to ∙ ap (λ (z : Sent). z.to) (sym old);
      bytes_are = ap (λ (z : Sent). z.bytes) (sym new) ∙ bytes ∙ ap (λ (z : Sent). z.bytes) (sym old);
    }
set_back (x ∷ ss) zero s y there from to bytes (suc n) m e = was_next x ss n m (was_there ss n m e)
set_back (x ∷ ss) (suc k) s y there from to bytes zero m e = was_there (x ∷ ss) zero m e
set_back (x ∷ ss) (suc k) s y there from to bytes (suc n) m e =
    was_next x ss n m (set_back ss k s y there from to bytes n m e)

arrived_back : (ss : List Sent) (k : ℕ) (o : Option Sent) → slice_get ss k ≡ o → (n : ℕ) (m : Sent)
    → slice_get (changed_by ss k arrived o) n ≡ Some m → Was ss n m
arrived_back ss k None there n m e = was_there ss n m e
arrived_back ss k (Some s) there n m e = set_back ss k s (arrived s) there refl refl refl n m e

dropped_back : (ss : List Sent) (k : ℕ) (o : Option Sent) → slice_get ss k ≡ o → (n : ℕ) (m : Sent)
    → slice_get (changed_by ss k left_out o) n ≡ Some m → Was ss n m
dropped_back ss k None there n m e = was_there ss n m e
dropped_back ss k (Some s) there n m e = set_back ss k s (left_out s) there refl refl refl n m e

event_back : (ss : List Sent) (v : Event) (n : ℕ) (m : Sent) → slice_get (sent_after_event ss v) n ≡ Some m → Was ss n m
event_back ss (event.DropMessage k) n m e = dropped_back ss k (slice_get ss k) refl n m e
event_back ss v n m e = was_there ss n m e

line_back : (ss : List Sent) (l : Line) → IsSilent l → (n : ℕ) (m : Sent) → slice_get (sent_after ss l) n ≡ Some m
    → Was ss n m
line_back ss (line.Event v) silent n m e = event_back ss v n m e
line_back ss (line.Message k from to bytes) silent n m e = absurd silent
line_back ss (line.Delivered k d) silent n m e = arrived_back ss k (slice_get ss k) refl n m e
line_back ss l silent n m e = was_there ss n m e

lines_back : (ss : List Sent) (ls : List Line) → AreSilent ls → (n : ℕ) (m : Sent)
    → slice_get (fold sent_after ss ls) n ≡ Some m → Was ss n m
lines_back ss [] silent n m e = was_there ss n m e
lines_back ss (l ∷ ls) silent n m e =
    let w = lines_back (sent_after ss l) ls silent.1 n m e in
    let v = line_back ss l silent.0 n w.message w.there in
    record {
      message = v.message;
      there = v.there;
      from_is = w.from_is ∙ v.from_is;
      to_is = w.to_is ∙ v.to_is;
      bytes_are = w.bytes_are ∙ v.bytes_are;
    }

-- what was sent behind them was sent before
sent_back : (h front : List Line) → AreSilent front → (n : ℕ) (m : Sent) → slice_get (sent_in (h ++ front)) n ≡ Some m
    → Was (sent_in h) n m
unfolding sent_in
sent_back h front silent n m e =
    lines_back (fold sent_after [] h) front silent n m
    (ap (λ (ss : List Sent). slice_get ss n) (sym (fold-append sent_after [] h front)) ∙ e)

-- ---- messages of the world

found_post : (ps : List Posted) (n : ℕ) (x : Sent) → slice_get (map shown ps) n ≡ Some x
    → (p : Posted) × In p.message (map (λ (q : Posted). q.message) ps) × (x ≡ shown p)
found_post [] n x e = absurd (cc e)
found_post (p ∷ ps) zero x e = (p, inl refl, sym (same_Some (shown p) x e))
found_post (p ∷ ps) (suc n) x e = let r = found_post ps n x e in (r.0, inr r.1, r.2)

-- a message of the server to a client, as the lines show it, is one of the world's
record IsToClient (w : World) (client : ℕ) (m : Sent) : Type 0 where
  body : Body
  there : In (to_client client body) (messages_in w)
  bytes_are : m.bytes ≡ spelled body

to_client_is : (c : ℕ) (m : Message) → m.from ≡ node.Server → m.to ≡ node.Client c → m ≡ to_client c m.body
to_client_is c m from to =
    ap (λ (n : Node). record { from = n; to = m.to; body = m.body }) from
    ∙ ap (λ (n : Node). record { from = node.Server; to = n; body = m.body }) to

in_world : (w : World) (n client : ℕ) (x : Sent) → slice_get (view w) n ≡ Some x → x.from ≡ party.Server
    → x.to ≡ party.Client client → IsToClient w client x
in_world w n client x e from to =
    let r = found_post w.network.messages n x e in
    let p : Posted = r.0 in
    let source = party_server p.message.from (ap (λ (y : Sent). y.from) (sym r.2) ∙ from) in
    let target = party_client p.message.to client (ap (λ (y : Sent). y.to) (sym r.2) ∙ to) in
    record {
      body = p.message.body;
      there = subst (λ (y : Message). In y (messages_in w)) (to_client_is client p.message source target) r.1;
      bytes_are = ap (λ (y : Sent). y.bytes) r.2;
    }

-- ---- a fence that is over

module _ (Short Later : Type 0) (back : Later → Short) where
  older_by : (fs : List File) (n tag : ℕ) (r : Results)
      → ((f : File) → file_at fs n ≡ Some f → f.kept.tag < tag) → GivesUpTo Short fs n r → GivesOlder Later tag r
  older_by fs n tag (results.LayoutGet (get.Granted ok)) later up = record {
    drives = up.drives;
    file = up.old;
    grant = up.grant;
    is = up.is;
    older = let l = later up.now up.there in omega (arith, l, up.rises);
    numbers = λ short. up.numbers (back short);
  }
  older_by fs n tag (results.LayoutGet (get.TryLater b)) later up = tt
  older_by fs n tag (results.LayoutGet (get.Refused s)) later up = tt
  older_by fs n tag (results.LayoutCommit r) later up = tt
  older_by fs n tag (results.LayoutReturn r) later up = tt

  older_in : (fs : List File) (n tag : ℕ) (e : Envelope) → ((f : File) → file_at fs n ≡ Some f → f.kept.tag < tag)
      → EnvelopeUpTo Short fs e → OlderIn Later n tag e
  older_in fs n tag (envelope.Answer a) later up =
      λ same. older_by fs n tag a.results later (subst (λ (k : ℕ). GivesUpTo Short fs k a.results) same up)
  older_in fs n tag (envelope.Recall r) later up = tt
  older_in fs n tag (envelope.Request r) later up = tt
  older_in fs n tag (envelope.RecallAnswer r) later up = tt
  older_in fs n tag (envelope.Order r) later up = tt
  older_in fs n tag (envelope.OrderAnswer r) later up = tt

module _ (raise : EachStepRaisesTags) where
  -- the notes of a step name the fence
  note_in : (ns : List server_rules.Note) (x : server_rules.Note) (n tag : ℕ) → In x ns → x.file ≡ n
      → x.kind ≡ server_rules.Fenced tag → In (fence_note n tag) ns
  note_in ns x n tag i file kind =
      subst (λ (y : server_rules.Note). In y ns)
      (ap (λ (k : ℕ). record { file = k; kind = x.kind }) file
      ∙ ap (λ (k : server_rules.NoteKind). record { file = n; kind = k }) kind) i

  older_told : (Short : Type 0) (before : List Line) → (AreShort before → Short) → (w : World) (a : Act) → Aged Short w
      → (Short → BodiesFit w) → IsSound w.server → Acts w a.world a.told a.posts → (n tag : ℕ)
      → In (line.Note n (note.Fenced tag)) a.told → (c : ℕ) (m : Sent) → IsToClient w c m
      → SpellsOlder before n tag m.bytes
  older_told Short before back w a k bodies sound (Others server messages told others) n tag i c m is =
      absurd (told n tag i)
  older_told Short before back w a k bodies sound (Serves chosen j sent server messages told posts) n tag i c m is =
      let t = told n tag i in
      let x = note_in (step w.server chosen j).notes t.0 n tag t.1 t.2 t.3 in
      let r = k.sent c is.body is.there in
      record {
        message = r.0;
        bytes_are = is.bytes_are ∙ ap spelled r.1;
        older = older_in Short (AreShort before) back w.server.files n tag r.0
            (λ f there. (raise w.server chosen j sound n f there).later tag x) r.2;
        fits = λ short.
            bodies (back short) c r.0 (subst (λ (b : Body). In (to_client c b) (messages_in w)) r.1 is.there);
      }

-- ---- a move

-- what is known behind some lines
record Holds (w : World) (h : List Line) : Type 0 where
  followed : IsFollowed w h
  sent : HasBodies w h
  aged : AreWritten h → Aged (AreShort h) w
  given : AreWritten h → GivenBefore h

module _ (raise : EachStepRaisesTags) (put : FilesArePut) (on : ServerGoesOn) (all : AllLinesGoOn) (seen : SeenIsSound)
  where
    sound_now : (w : World) (h : List Line) → IsFollowed w h → AreWritten h → IsSound w.server
    sound_now w h f x =
        subst IsSound
        (ap (λ (s : ServerSeen). s.server) (seen_server first_seen (steps_of h) ∙ (f.server x).seen))
        (seen h (are_named h x))

    told_at : (w : World) (h : List Line) → IsKnown w h → (m : Move) → AreSilent (acts w m.chosen m.action).told
    told_at w h k m =
        (acts_known (sent_in h) w k.world (sym (sent_read w k.read.injected h k.read.drives)) m.chosen m.action).told

    -- no line of what is sent, or of the event itself, is such a note
    given_more : (w : World) (h pre : List Line) (m : Move) → Holds w h → AreWritten h → AreSilent pre
        → ((n tag : ℕ) → In (line.Note n (note.Fenced tag)) pre → ⊥) → GivenBefore h
        → GivenBefore (h ++ (pre ++ (move w m).lines))
    given_more w h pre m k x silent none given before after n tag is number client y found from to =
        by_place (place_of h (pre ++ (move w m).lines) before after (line.Note n (note.Fenced tag)) is)
      where
        a : Act
        a = acts w m.chosen m.action

        quiet : AreSilent (pre ++ a.told)
        quiet = both pre a.told silent (told_at w h k.sent.fitting.known m)
          where
            both : (xs ys : List Line) → AreSilent xs → AreSilent ys → AreSilent (xs ++ ys)
            both [] ys s t = t
            both (l ∷ xs) ys s t = (s.0, both xs ys s.1 t)

        not_sent : (n tag : ℕ) → In (line.Note n (note.Fenced tag)) (sent_lines (length a.world.network.messages) a.posts) → ⊥
        not_sent = no_note (length a.world.network.messages) a.posts

        in_told : (xs : List Line) → ((n tag : ℕ) → In (line.Note n (note.Fenced tag)) xs → ⊥)
            → In (line.Note n (note.Fenced tag)) (xs ++ a.told) → In (line.Note n (note.Fenced tag)) a.told
        in_told [] none_in i = i
        in_told (l ∷ xs) none_in (inl e) = absurd (none_in n tag (inl e))
        in_told (l ∷ xs) none_in (inr i) = in_told xs (λ p q j. none_in p q (inr j)) i

        in_front : (front rest : List Line) → before ≡ h ++ front
            → pre ++ a.told ≡ front ++ line.Note n (note.Fenced tag) ∷ rest → SpellsOlder before n tag y.bytes
        in_front front rest at split =
            let told : In (line.Note n (note.Fenced tag)) a.told =
            in_told pre none (subst (In (line.Note n (note.Fenced tag))) (sym split)
            (in_middle (line.Note n (note.Fenced tag)) front rest)) in
            let was = sent_back h front
            (silent_front front (line.Note n (note.Fenced tag) ∷ rest) (subst AreSilent split quiet)) number y
            (ap (λ (ls : List Line). slice_get (sent_in ls) number) (sym at) ∙ found) in
            let there : slice_get (view w) number ≡ Some was.message =
            ap (λ (ss : List Sent). slice_get ss number)
            (sym (sent_read w k.sent.fitting.known.read.injected h k.sent.fitting.known.read.drives)) ∙ was.there in
            let mine = in_world w number client was.message there (sym was.from_is ∙ from) (sym was.to_is ∙ to) in
            subst (SpellsOlder before n tag) (sym was.bytes_are)
            (older_told raise (AreShort h) before
            (λ short. shorter h front (subst AreShort at short)) w a (k.aged x) k.sent.bodies (sound_now w h k.followed x)
            (each_acts w m.chosen m.action) n tag told client
            was.message mine)

        by_told : (front : List Line) → before ≡ h ++ front
            → Place (pre ++ a.told) (sent_lines (length a.world.network.messages) a.posts) front after
            (line.Note n (note.Fenced tag))
            → SpellsOlder before n tag y.bytes
        by_told front at (InFirst rest split) = in_front front rest at split
        by_told front at (InSecond more behind split) =
            absurd (not_sent n tag (subst (In (line.Note n (note.Fenced tag))) (sym split)
            (in_middle (line.Note n (note.Fenced tag)) more after)))

        by_place : Place h (pre ++ (move w m).lines) before after (line.Note n (note.Fenced tag))
            → SpellsOlder before n tag y.bytes
        by_place (InFirst rest own) = given before rest n tag own number client y found from to
        by_place (InSecond front at split) =
            by_told front at
            (place_of (pre ++ a.told) (sent_lines (length a.world.network.messages) a.posts) front after
            (line.Note n (note.Fenced tag))
            (append_assoc pre a.told (sent_lines (length a.world.network.messages) a.posts) ∙ split))

    aged_move : (w : World) (h ls : List Line) (m : Move) → Holds w h → AreWritten h → IsFitting (move w m).world (h ++ ls)
        → Aged (AreShort (h ++ ls)) (move w m).world
    aged_move w h ls m k x next =
        aged_by raise put (AreShort h) (AreShort (h ++ ls)) (shorter h ls) w (acts w m.chosen m.action) (k.aged x)
        (sound_now w h k.followed x) (λ short. low_now (move w m).world (h ++ ls) next short)
        (each_acts w m.chosen m.action)

    -- ---- all moves

    holds : IsKept Holds
    holds = record {
      starts = record {
        followed = (followed on all).starts;
        sent = all_bodies.starts;
        aged = λ x. aged_first (AreShort []);
        given = λ x. none_given;
      };
      opens = λ w h e chosen k allowed.
          let m : Move = opening e chosen in
          let lines : List Line = line.Event e ∷ (move w m).lines in
          let next = all_bodies.opens w h e chosen k.sent allowed in
          record {
            followed = (followed on all).opens w h e chosen k.followed allowed;
            sent = next;
            aged = λ x. aged_move w h lines m k (written_front h lines x) next.fitting;
            given = λ x.
                let y = written_front h lines x in
                given_more w h (line.Event e ∷ []) m k y (tt, tt) (no_event e) (k.given y);
          };
      moves = λ w h r m k due.
          let next = all_bodies.moves w h r m k.sent due in
          record {
            followed = (followed on all).moves w h r m k.followed due;
            sent = next;
            aged = λ x. aged_move w h (move w m).lines m k (written_front h (move w m).lines x) next.fitting;
            given = λ x.
                let y = written_front h (move w m).lines x in
                given_more w h [] m k y tt (λ n tag i. i) (k.given y);
          };
    }
      where
        none_given : GivenBefore []
        none_given [] after n tag is = absurd (cc is)
        none_given (l ∷ before) after n tag is = absurd (cc is)

        no_event : (e : Event) (n tag : ℕ) → In (line.Note n (note.Fenced tag)) (line.Event e ∷ []) → ⊥
        no_event e n tag (inl is) = cc is
        no_event e n tag (inr i) = i

    pub grants_are_older : GrantsAreOlder
    grants_are_older w h s x = (stands Holds holds w h s).given x
