-- Each move that is due gives what a step must give.
use Rattle.std.proofs.Common.{◌≡◌, ◌++◌, ◌∷◌, [], List, Bool, true, false, true≢false, Some, None, fold, refl, sym, ap, subst, ◌∙◌, append_assoc, inl, inr, if◌then◌else◌}
use Rattle.std.proofs.lemmas.Bool.{cases_Bool}
use Rattle.std.proofs.lemmas.List.{append-nil}
use Rattle.std.proofs.lemmas.Option.{same_Some}
use Rattle.scenario_text.specs.declared.event.Event.{Event}
use Rattle.scenario_text.specs.declared.event.Event.TheVariants as event
use Rattle.scenario_text.specs.declared.line.Line.{Line}
use Rattle.scenario_text.specs.declared.line.Line.TheVariants as line
use Rattle.world_history.specs.declared.messages.Sent.{Sent}
use Rattle.world_history.specs.State.{World}
use Rattle.world_history.specs.Moves.{Action, Opens, begins, acts}
use Rattle.world_history.specs.Sending.{Move, move, sends_all}
use Rattle.world_history.specs.Plans.{due}
use Rattle.world_history.specs.Refusals.{refusal}
use Rattle.world_history.specs.History.{StandsFor}
use Rattle.world_history.specs.Laws.{MomentGoesOn, MessagesAreRead}
use Rattle.world_history.specs.Reading.{Step, is_head, steps_of}
use Rattle.world_history.specs.Book.{ServerSeen, server_step, sees_server, server_seen}
use Rattle.world_history.specs.Calm.{Seen, sees, seen, first_seen}
use Rattle.world_history.specs.ReadDrives.{injected_by}
use Rattle.world_history.specs.Guesses.{guarded}
use Rattle.world_watch.specs.Sighted.{Table}
use Rattle.world_watch.specs.Tied.{AreOf}
use Rattle.history_law.specs.Drives.{DrivesAreRead}
use Rattle.component_law.specs.Opening.{is_opening}
use Rattle.history_law.specs.BookMoments.{IsMoment, with_event, lines_in, plan_at}
use Rattle.history_law.specs.Doing.{did_in, ServerMoves}
use Rattle.history_law.specs.Read.{server_of, AreWritten, ReadsAs, BookIsRead, StepIsRead}
use Rattle.history_law.proofs.BookLines.{two_steps}
use Rattle.history_law.proofs.Staying.{written_front, written_behind}
use Rattle.exchange_law.proofs.HeldWorlds.{reached}
use Rattle.component_law.specs.Messages.{messages_of}
use Rattle.calm_law.specs.Sightings.{GuardsMessages}
use Rattle.calm_law.specs.Steps.{StepsTell}
use Rattle.component_law.specs.Components.{tells_component}
use Rattle.component_law.specs.Moments.{DeclaredHaveFailed, ServerWritesToOthers, WritesToOthers}
use Rattle.calm_law.specs.Seeing.{MovesShowFiles}
use Rattle.calm_law.specs.Moving.{Read, FactsOf, MovesGive, performed_in, reads}
use Rattle.component_law.proofs.Shapes.{Bare, Shape, IsHeaded, Nothing, Left, Heads, is_event, sent_bare}
use Rattle.component_law.proofs.MoveOpening.{opens_headed, begins_bare}
use Rattle.calm_law.proofs.MoveStepping.{steps_one, reads_plain, reads_behind}
use Rattle.component_law.proofs.NextMoves.{IsBegun, first_begun, is_opens, plain_lines, acts_shape}
use Rattle.calm_law.proofs.MoveNotes.{tells}
use Rattle.calm_law.proofs.MoveFacts.{IsOf, step_facts}
use Rattle.component_law.proofs.NamedLines.{are_named, named_line, named_inside}
use Rattle.component_law.proofs.SeenServer.{seen_server}

-- what the crates below say of moves
pub record Given : Type 0 where
  pub book : BookIsRead
  pub reading : StepIsRead
  pub moves : ServerMoves
  pub net : StepsTell
  pub files : MovesShowFiles
  pub drives : DrivesAreRead
  pub declared : DeclaredHaveFailed
  pub others : ServerWritesToOthers
  pub guards : GuardsMessages
  pub messages : MessagesAreRead
  pub moment : MomentGoesOn

-- ---- lines

quiet_head : (l : Line) → is_head l ≡ true → tells_component l ≡ false
quiet_head (line.Note f n) h = absurd (true≢false (sym h))
quiet_head l h = refl

tells_behind : (head : Line) (rest : List Line) → is_head head ≡ true → tells (head ∷ rest) ≡ tells rest
tells_behind head rest h =
    ap (λ (b : Bool). if b then head ∷ tells rest else tells rest) (quiet_head head h)

server_now : Given → (w : World) (h : List Line) → IsMoment w h → AreWritten h → (seen h).server ≡ server_of w
server_now laws w h k a = seen_server first_seen (steps_of h) ∙ laws.book w h k a

to_others : Given → (w : World) (h : List Line) → IsMoment w h → WritesToOthers w
to_others laws w h k =
    subst (λ (v : World). WritesToOthers v) (sym k.world_is) (laws.others k.before k.history k.moves k.stands)

-- ---- a step that is all lines of its move

plain_did : Given → (w : World) (h : List Line) (k : IsMoment w h) (m : Move) → due (plan_at k) w ≡ Some m.action
    → AreWritten (h ++ lines_in w m) → (head : Line) (rest : List Line) → is_head head ≡ true → Bare rest
    → lines_in w m ≡ head ∷ rest
    → server_step (seen h).server (record { head = head; rest = rest }) ≡ did_in w m
plain_did laws w h k m next written head rest b bare are =
    let t : Step = record { head = head; rest = rest } in
    let x : ReadsAs (server_seen h) (did_in w m) (t ∷ []) =
    subst (λ (ts : List Step). ReadsAs (server_seen h) (did_in w m) ts)
    (ap (λ (ls : List Line). steps_of ls) are ∙ steps_one head rest b bare) (laws.reading w h k m next written) in
    ap (λ (s : ServerSeen). server_step s t) (seen_server first_seen (steps_of h)) ∙ x

give_plain : Given → (w : World) (h : List Line) (m : Move) (t : Table) (r : Read) (head : Line) (rest : List Line)
    → is_head head ≡ true → Bare rest → lines_in w m ≡ head ∷ rest
    → IsOf w m t h (record { head = head; rest = rest }) (line.Event event.Settle) → reads (lines_in w m) ≡ Some r
    → FactsOf (seen (h ++ r.before)) r t w m
give_plain laws w h m t r head rest b bare are is i =
    let x : Read = record { before = []; step = record { head = head; rest = rest } } in
    let same : x ≡ r =
    same_Some x r (sym (ap (λ (ls : List Line). reads ls) are ∙ reads_plain head rest b bare) ∙ i) in
    subst (λ (y : Read). FactsOf (seen (h ++ y.before)) y t w m) same
    (subst (λ (ls : List Line). FactsOf (seen ls) x t w m) (sym (append-nil h))
    (step_facts laws.moves laws.net laws.files w m t h x.step (line.Event event.Settle)
    (performed_in t (messages_of (move w m).world) x) is refl))

-- ---- a move that begins no event

give_headed : Given → (w : World) (h : List Line) (k : IsMoment w h) (m : Move) (t : Table) (r : Read)
    → due (plan_at k) w ≡ Some m.action → AreWritten (h ++ lines_in w m) → lines_in w m ≡ (move w m).lines
    → ((e : Event) → m.action ≡ Opens e → ⊥) → IsHeaded (move w m).lines → reads (lines_in w m) ≡ Some r
    → FactsOf (seen (h ++ r.before)) r t w m
give_headed laws w h k m t r next written lines opens x i =
    let are : lines_in w m ≡ x.head ∷ x.rest = lines ∙ x.are in
    let front : AreWritten h = written_front h (lines_in w m) written in
    give_plain laws w h m t r x.head x.rest x.begins x.bare are (record {
      reached = reached w h k;
      others = to_others laws w h k;
      server = server_now laws w h k front;
      did = plain_did laws w h k m next written x.head x.rest x.begins x.bare are;
      step_is = inr (x.begins, x.are);
      injected = λ d bytes a. absurd (opens (event.Inject d bytes) a);
      tells = sym (ap (λ (ls : List Line). tells ls) x.are ∙ tells_behind x.head x.rest x.begins);
      declared = λ d e. absurd (true≢false (sym (ap (λ (l : Line). is_event l) e) ∙ x.inside));
      named = are_named h front;
      head = named_inside x.head x.inside;
    }) i

give_next : Given → (w : World) (h : List Line) (k : IsMoment w h) (m : Move) (t : Table) (r : Read)
    → due (plan_at k) w ≡ Some m.action → AreWritten (h ++ lines_in w m) → lines_in w m ≡ (move w m).lines
    → ((e : Event) → m.action ≡ Opens e → ⊥) → Shape (move w m).lines → reads (lines_in w m) ≡ Some r
    → FactsOf (seen (h ++ r.before)) r t w m
give_next laws w h k m t r next written lines opens (Nothing e) i =
    let none : None ≡ Some r = sym (ap (λ (ls : List Line). reads ls) (lines ∙ e)) ∙ i in
    absurd (cc none)
give_next laws w h k m t r next written lines opens (Left c kind e) i =
    let none : None ≡ Some r = sym (ap (λ (ls : List Line). reads ls) (lines ∙ e)) ∙ i in
    absurd (cc none)
give_next laws w h k m t r next written lines opens (Heads x) i = give_headed laws w h k m t r next written lines opens x i

-- ---- a move that begins an event

same_event : (w : World) (m : Move) (e f : Event) → m.action ≡ Opens e → m.action ≡ Opens f → e ≡ f
same_event w m e f p q = let both : Opens e ≡ Opens f = sym p ∙ q in cc both

-- one that is a step of its own
give_alone : Given → (w : World) (h : List Line) (k : IsMoment w h) (m : Move) (t : Table) (r : Read)
    → due (plan_at k) w ≡ Some m.action → AreWritten (h ++ lines_in w m) → (e : Event) → m.action ≡ Opens e
    → is_opening e ≡ false → IsBegun w h e k.history → lines_in w m ≡ line.Event e ∷ (move w m).lines
    → Bare (move w m).lines → reads (lines_in w m) ≡ Some r → FactsOf (seen (h ++ r.before)) r t w m
give_alone laws w h k m t r next written e q o begun are bare i =
    let front : AreWritten h = written_front h (lines_in w m) written in
    let own : AreWritten (line.Event e ∷ (move w m).lines) =
    written_behind h (line.Event e ∷ (move w m).lines) (subst (λ (ls : List Line). AreWritten (h ++ ls)) are written) in
    give_plain laws w h m t r (line.Event e) (move w m).lines refl bare are (record {
      reached = reached w h k;
      others = to_others laws w h k;
      server = server_now laws w h k front;
      did = plain_did laws w h k m next written (line.Event e) (move w m).lines refl bare are;
      step_is = inl (e, q, refl, refl);
      injected = λ d bytes a.
          absurd (true≢false (sym (ap (λ (x : Event). is_opening x) (same_event w m e (event.Inject d bytes) q a)) ∙ o));
      tells = refl;
      declared = λ d x.
          let same : e ≡ event.Declare d = cc x in
          laws.declared w h d (laws.drives w h begun.stands d) (ap (λ (y : Event). refusal w y) (sym same) ∙ begun.allowed);
      named = are_named h front;
      head = named_line (line.Event e) own.0;
    }) i

-- its own line changes nothing of the server that is seen, where a further step follows
alone_same : (e : Event) (s : ServerSeen) → is_opening e ≡ true
    → sees_server s (record { head = line.Event e; rest = [] }) ≡ s
alone_same (event.Deliver n) s o = refl
alone_same (event.Timeout c k) s o = refl
alone_same (event.Inject d bytes) s o = refl
alone_same e s o = absurd (true≢false (sym o))

-- the sightings are of the messages of the world
are_messages : Given → (w : World) (h history : List Line) (t : Table) → StandsFor w h → history ≡ h
    → AreOf (guarded history).sent t → AreOf (messages_of w) t
are_messages laws w h history t st same of =
    subst (λ (ms : List Sent). AreOf ms t) (laws.guards h ∙ laws.messages w h st)
    (subst (λ (ls : List Line). AreOf (guarded ls).sent t) same of)

-- one that a further step follows
give_behind : Given → (w : World) (h : List Line) (k : IsMoment w h) (m : Move) (t : Table) (r : Read)
    → due (plan_at k) w ≡ Some m.action → AreWritten (h ++ lines_in w m) → AreOf (guarded k.history).sent t → (e : Event)
    → m.action ≡ Opens e → is_opening e ≡ true → IsBegun w h e k.history
    → lines_in w m ≡ line.Event e ∷ (move w m).lines → IsHeaded (move w m).lines → reads (lines_in w m) ≡ Some r
    → FactsOf (seen (h ++ r.before)) r t w m
give_behind laws w h k m t r next written of e q o begun lines x i =
    let own : Step = record { head = line.Event e; rest = [] } in
    let st : Step = record { head = x.head; rest = x.rest } in
    let b : List Line = h ++ line.Event e ∷ [] in
    let are : lines_in w m ≡ line.Event e ∷ x.head ∷ x.rest = lines ∙ ap (λ (ls : List Line). line.Event e ∷ ls) x.are in
    let seen_b : seen b ≡ sees (seen h) own =
    laws.moment h (line.Event e ∷ []) refl
    ∙ ap (λ (ts : List Step). fold sees (seen h) ts) (steps_one (line.Event e) [] refl tt) in
    let before : AreWritten b =
    written_front b (x.head ∷ x.rest) (subst (λ (ls : List Line). AreWritten ls)
    (sym (append_assoc h (line.Event e ∷ []) (x.head ∷ x.rest)))
    (subst (λ (ls : List Line). AreWritten (h ++ ls)) are written)) in
    let server : (seen b).server ≡ (seen h).server =
    ap (λ (s : Seen). s.server) seen_b ∙ alone_same e (seen h).server o in
    let step_read : ReadsAs (server_seen h) (did_in w m) (own ∷ st ∷ []) =
    subst (λ (ts : List Step). ReadsAs (server_seen h) (did_in w m) ts)
    (ap (λ (ls : List Line). steps_of ls) are ∙ two_steps e x.head x.rest x.begins x.bare)
    (laws.reading w h k m next written) in
    let read : Read = record { before = line.Event e ∷ []; step = st } in
    let same : read ≡ r =
    same_Some read r (sym (ap (λ (ls : List Line). reads ls) are ∙ reads_behind (line.Event e) x.head x.rest x.begins) ∙ i) in
    subst (λ (y : Read). FactsOf (seen (h ++ y.before)) y t w m) same
    (step_facts laws.moves laws.net laws.files w m t b st (line.Event e)
    (performed_in t (messages_of (move w m).world) read) (record {
      reached = reached w h k;
      others = to_others laws w h k;
      server = server ∙ server_now laws w h k (written_front h (lines_in w m) written);
      did = ap (λ (s : ServerSeen). server_step s st) (ap (λ (s : Seen). s.server) seen_b
          ∙ ap (λ (s : ServerSeen). sees_server s own) (seen_server first_seen (steps_of h))) ∙ step_read.1;
      step_is = inr (x.begins, x.are);
      injected = λ d bytes a.
          let is : e ≡ event.Inject d bytes = same_event w m e (event.Inject d bytes) q a in
          record {
            event = ap (λ (y : Event). line.Event y) is;
            last = ap (λ (s : Seen). s.injected) seen_b
                ∙ ap (λ (y : Event). injected_by (seen h).injected y) is;
            sightings = are_messages laws w h k.history t begun.stands begun.history_is of;
          };
      tells = sym (ap (λ (ls : List Line). tells ls) x.are ∙ tells_behind x.head x.rest x.begins);
      declared = λ d y. absurd (true≢false (sym (ap (λ (l : Line). is_event l) y) ∙ x.inside));
      named = are_named b before;
      head = named_inside x.head x.inside;
    }) refl)

give_first : Given → (w : World) (h : List Line) (k : IsMoment w h) (m : Move) (t : Table) (r : Read)
    → due (plan_at k) w ≡ Some m.action → AreWritten (h ++ lines_in w m) → AreOf (guarded k.history).sent t → (e : Event)
    → m.action ≡ Opens e → reads (lines_in w m) ≡ Some r → FactsOf (seen (h ++ r.before)) r t w m
give_first laws w h k m t r next written of e q i =
    let begun : IsBegun w h e k.history = first_begun w h k e (next ∙ ap (λ (a : Action). Some a) q) in
    let lines : lines_in w m ≡ line.Event e ∷ (move w m).lines =
    ap (λ (a : Action). with_event a (move w m).lines) q in
    elim (cases_Bool (is_opening e)) [
      | inl o ↦
          give_behind laws w h k m t r next written of e q o begun lines
          (subst (λ (a : Action). IsHeaded (sends_all (acts w m.chosen a)).lines) (sym q)
          (opens_headed w m.chosen e o begun.allowed)) i
      | inr o ↦
          give_alone laws w h k m t r next written e q o begun lines
          (subst (λ (a : Action). Bare (sends_all (acts w m.chosen a)).lines) (sym q)
          (sent_bare (begins w m.chosen e) (begins_bare w m.chosen e o))) i
    ]

-- ---- any move

give : Given → (w : World) (h : List Line) (k : IsMoment w h) (m : Move) (t : Table) (r : Read)
    → due (plan_at k) w ≡ Some m.action → AreWritten (h ++ lines_in w m) → AreOf (guarded k.history).sent t
    → reads (lines_in w m) ≡ Some r → (a : Action) → m.action ≡ a → FactsOf (seen (h ++ r.before)) r t w m
give laws w h k m t r next written of i (Opens e) q = give_first laws w h k m t r next written of e q i
give laws w h k m t r next written of i a q =
    let late : is_opens m.action ≡ false = ap (λ (x : Action). is_opens x) q in
    give_next laws w h k m t r next written (plain_lines m.action (move w m).lines late)
    (λ e p. absurd (true≢false (sym (ap (λ (x : Action). is_opens x) p) ∙ late)))
    (acts_shape w m.chosen m.action late) i

pub moves_give : Given → MovesGive
moves_give laws w h k m t r next written of i = give laws w h k m t r next written of i m.action refl
