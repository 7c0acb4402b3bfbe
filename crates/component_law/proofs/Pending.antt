-- The line of a call that is left pending changes nothing that is read.
use Rattle.std.proofs.Common.{◌≡◌, ℕ, ◌||◌, ◌++◌, ◌∷◌, [], List, Bool, true, false, Option, refl, ap, ◌∙◌}
use Rattle.std.specs.List.{fold}
use Rattle.std.proofs.lemmas.List.Sums.{fold-append}
use Rattle.scenario_text.specs.declared.line.CallKind.{CallKind}
use Rattle.scenario_text.specs.declared.line.Line.{Line}
use Rattle.server_rules.specs.Files.{Step as ServerStep}
use Rattle.world_history.specs.declared.messages.Sent.{Sent}
use Rattle.world_history.specs.ReadLog.{Log, log_after}
use Rattle.world_history.specs.Stripes.{Moment}
use Rattle.world_history.specs.ReadDrives.{injected_after}
use Rattle.world_history.specs.Reading.{is_head, Step, Grouped, grouped_with, grouped, steps_of, sent_after}
use Rattle.world_history.specs.Book.{created_in, placed_in, input_at, step_by, server_behind, clock_after}
use Rattle.world_history.specs.Calm.{Seen, Watched, watched, watches, sees, sent_taken, is_told_taken, taken_by, returned_at, server_begins, failed_after, stopped_after, marks_at, mended_in, through, first_seen}
use Rattle.component_law.specs.LeftPending.{left_pending, PendingIsRead}

-- ---- the last step gets the line

add_last : List Step → Line → List Step
add_last [] l = []
add_last (t ∷ []) l = record t { rest = t.rest ++ l ∷ [] } ∷ []
add_last (t ∷ u ∷ ts) l = t ∷ add_last (u ∷ ts) l

add_line : (loose : List Line) → List Step → Line → Grouped
add_line loose [] l = record { loose = loose ++ l ∷ []; steps = [] }
add_line loose (t ∷ ts) l = record { loose = loose; steps = add_last (t ∷ ts) l }

with_line : (b : Bool) (x l : Line) (loose : List Line) (ts : List Step)
    → grouped_with b x (add_line loose ts l)
    ≡ add_line (grouped_with b x (record { loose = loose; steps = ts })).loose
    (grouped_with b x (record { loose = loose; steps = ts })).steps l
unfolding add_line add_last
with_line true x l loose [] = refl
with_line true x l loose (t ∷ ts) = refl
with_line false x l loose [] = refl
with_line false x l loose (t ∷ ts) = refl

grouped_end : (h : List Line) (l : Line) → is_head l ≡ false
    → grouped (h ++ l ∷ []) ≡ add_line (grouped h).loose (grouped h).steps l
unfolding grouped add_line
grouped_end [] l e = rw e refl
grouped_end (x ∷ h) l e =
    ap (λ (g : Grouped). grouped_with (is_head x) x g) (grouped_end h l e)
    ∙ with_line (is_head x) x l (grouped h).loose (grouped h).steps

steps_end : (loose : List Line) (ts : List Step) (l : Line) → (add_line loose ts l).steps ≡ add_last ts l
unfolding add_line add_last
steps_end loose [] l = refl
steps_end loose (t ∷ ts) l = refl

-- ---- a step with the line

-- what is seen behind a step, by what it takes from the lines
abbrev built : Seen → (head : Line) → Option ServerStep → Watched → List Sent → Log → Seen
built s head did w sent log = record {
  server = record {
    server = server_behind s.server.server did;
    clock = clock_after s.server.clock head;
    sent = sent;
  };
  injected = injected_after s.injected head;
  moment = record w.moment { server = server_behind s.server.server did; log = log };
  calm = w.calm;
}

placed_end : (rest : List Line) (c : ℕ) (k : CallKind) → placed_in (rest ++ left_pending c k ∷ []) ≡ placed_in rest
placed_end [] c k = refl
placed_end (x ∷ rest) c k = ap (λ (ns : List ℕ). created_in x ++ ns) (placed_end rest c k)

told_end : (rest : List Line) (c : ℕ) (k : CallKind) → is_told_taken (rest ++ left_pending c k ∷ []) ≡ is_told_taken rest
told_end [] c k = refl
told_end (x ∷ rest) c k = ap (λ (b : Bool). sent_taken x || b) (told_end rest c k)

abbrev begun_as : Seen → (head : Line) → (told : Bool) → Option ServerStep → Moment
begun_as s head told did = record {
  server = server_begins s.server.server told did;
  failed = failed_after s.moment.failed head;
  stopped = stopped_after s.moment.stopped head;
  log = taken_by s.moment.log told (returned_at s.server.sent head);
  marks = s.moment.marks ++ marks_at s head;
}

abbrev watched_as : Seen → (head : Line) → (told : Bool) → Option ServerStep → Watched
watched_as s head told did = watched (record { moment = s.moment; calm = s.calm }) (begun_as s head told did)

-- what is seen behind a step, by the lines through which it is gone
abbrev gone : Seen → (head : Line) → (told : Bool) → (through behind : List Line) → Option ServerStep → Seen
gone s head told through rest did =
    built s head did (fold (watches (mended_in did)) (watched_as s head told did) through)
    (fold sent_after s.server.sent (head ∷ rest))
    (fold log_after (fold (watches (mended_in did)) (watched_as s head told did) through).moment.log (head ∷ rest))

with_pending : (s : Seen) (t : Step) (c : ℕ) (k : CallKind)
    → sees s (record t { rest = t.rest ++ left_pending c k ∷ [] }) ≡ sees s t
with_pending s t c k =
    let l : Line = left_pending c k in
    let more : List Line = t.rest ++ l ∷ [] in
    let did : Option ServerStep = step_by s.server.server (placed_in t.rest) (input_at s.server t.head) in
    ap (λ (ns : List ℕ). gone s t.head (is_told_taken more) more more (step_by s.server.server ns (input_at s.server t.head)))
    (placed_end t.rest c k)
    ∙ ap (λ (b : Bool). gone s t.head b more more did) (told_end t.rest c k)
    ∙ ap (λ (w : Watched). built s t.head did w (fold sent_after s.server.sent (t.head ∷ more))
    (fold log_after w.moment.log (t.head ∷ more)))
    (fold-append (watches (mended_in did)) (watched_as s t.head (is_told_taken t.rest) did) t.rest (l ∷ []))
    ∙ ap
    (λ (ss : List Sent). built s t.head did (through s t did) ss
    (fold log_after (through s t did).moment.log (t.head ∷ more)))
    (fold-append sent_after (sent_after s.server.sent t.head) t.rest (l ∷ []))
    ∙ ap (λ (g : Log). built s t.head did (through s t did) (fold sent_after s.server.sent (t.head ∷ t.rest)) g)
    (fold-append log_after (log_after (through s t did).moment.log t.head) t.rest (l ∷ []))

-- ---- all steps

all_pending : (s : Seen) (ts : List Step) (c : ℕ) (k : CallKind) → fold sees s (add_last ts (left_pending c k)) ≡ fold sees s ts
unfolding add_last
all_pending s [] c k = refl
all_pending s (t ∷ []) c k = with_pending s t c k
all_pending s (t ∷ u ∷ ts) c k = all_pending (sees s t) (u ∷ ts) c k

pub pending_is_read : PendingIsRead
pending_is_read h c k =
    ap (λ (ts : List Step). fold sees first_seen ts)
    (ap (λ (g : Grouped). g.steps) (grouped_end h (left_pending c k) refl)
    ∙ steps_end (grouped h).loose (grouped h).steps (left_pending c k))
    ∙ all_pending first_seen (steps_of h) c k
