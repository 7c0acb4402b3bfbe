-- A history that is cut behind the note that a repair is over: the server's step, as it is read off the lines up to there, has
-- that repair, with as many stripes left short as the note says.
-- Towards `RepairsLeaveNoneDisturbed` (`file_simulation/specs/Claim.antt`).
use Rattle.std.proofs.Common.{◌≡◌, ◌⊎◌, ◌++◌, ℕ, true, false, true≢false, List, [], ◌∷◌, map, Option, Some, None, refl, sym, ap, subst, ◌∙◌, inl, inr, append_assoc}
use Rattle.std.specs.List.{fold}
use Rattle.std.proofs.lemmas.Bool.{cases_Bool}
use Rattle.std.proofs.lemmas.List.Sums.{fold-append}
use Rattle.scenario_text.specs.declared.line.Line.{Line}
use Rattle.scenario_text.specs.declared.line.Line.TheVariants as line
use Rattle.server_rules.specs.Files.{file_at, Step as ServerStep}
use Rattle.server_rules.specs.History.{Input, step}
use Rattle.server_rules.specs.Grants.{merged}
use Rattle.server_rules.specs.Laws.{In, AreSafe}
use Rattle.server_rules.proofs.Members.{in_behind}
use Rattle.world_history.specs.ServerNames.{File, Server}
use Rattle.world_history.specs.State.{World}
use Rattle.world_history.specs.Plans.{due}
use Rattle.world_history.specs.Sending.{Move}
use Rattle.world_history.specs.Reading.{Step, Grouped, is_head, grouped, steps_of}
use Rattle.world_history.specs.Book.{ServerSeen, placed_in, input_at, step_by, server_step, server_behind, sees_server, server_at_first, server_seen}
use Rattle.world_history.specs.Calm.{mended_in}
use Rattle.world_history.specs.History.{OneEventMore}
use Rattle.world_history.specs.Laws.{BeginWithHead, StepsGoOn, ServerGoesOn, AllLinesGoOn}
use Rattle.history_law.specs.Moments.{IsMoment, plan_at, lines_in}
use Rattle.history_law.specs.Doing.{did_in}
use Rattle.history_law.specs.Grants.{GrantsAreSafe}
use Rattle.history_law.specs.Placed.{IsReadable}
use Rattle.history_law.specs.Read.{AreWritten, is_written_line, ReadsAs}
use Rattle.history_law.specs.StepEnds.{BeginNone}
use Rattle.history_law.proofs.Behind.{none_behind}
use Rattle.history_law.proofs.BookLines.{HaveNoHead, none_begins, one_step}
use Rattle.history_law.proofs.BookMoments.{server_is_readable, book_is_read, step_is_read}
use Rattle.history_law.proofs.Inputs.{placer_leaves_repairs}
use Rattle.history_law.proofs.Staying.{written_front}
use Rattle.component_law.specs.Distinct.{AreDistinct}
use Rattle.cause_law.proofs.Answering.{safe_at}
use Rattle.cause_law.proofs.Reading.{AllHeads}
use Rattle.exchange_law.proofs.CountMoments.{reached}
use Rattle.relation_law.proofs.FramesFiles.{files_distinct, step_stays}
use Rattle.headline_law.specs.Mended.{EndsCounted}
use Rattle.headline_law.proofs.MendedJobs.{repair_of, IsCounted, to_repair}
use Rattle.headline_law.proofs.MendedSteps.{Counts, step_counts}
use Rattle.headline_law.proofs.MendedTold.{over_line, HaveNote, IsNoted, told_by_move}

-- ---- lines

-- steps of one line each, and then one with the lines that begin none
abbrev alone : Line → Step
alone x = record { head = x; rest = [] }

steps_heads : (hs : List Line) (x : Line) (ls : List Line) → AllHeads hs → is_head x ≡ true → HaveNoHead ls →
    grouped (hs ++ x ∷ ls) ≡ record { loose = []; steps = map alone hs ++ record { head = x; rest = ls } ∷ [] }
unfolding grouped
steps_heads [] x ls heads head none = one_step x ls head none
steps_heads (y ∷ hs) x ls heads head none = rw (heads.0, steps_heads hs x ls heads.1 head none) refl

begins_so : (hs : List Line) (x : Line) (ls : List Line) → AllHeads hs → is_head x ≡ true → BeginWithHead (hs ++ x ∷ ls)
begins_so [] x ls heads head = head
begins_so (y ∷ hs) x ls heads head = heads.0

-- the last of the steps is what the move is, and the server is as it was before them
read_last : (s : ServerSeen) (did : Option ServerStep) (os : List Step) (t : Step) → ReadsAs s did (os ++ t ∷ []) →
    ((fold sees_server s os).server ≡ s.server) × (server_step (fold sees_server s os) t ≡ did)
read_last s did [] t r = (refl, r)
read_last s did (o ∷ []) t r = (ap (server_behind s.server) r.0.nothing, r.1)
read_last s did (o ∷ p ∷ []) t r = absurd r
read_last s did (o ∷ p ∷ q ∷ os) t r = absurd r

-- where something is done, something comes
has_input : (s : Server) (placed : List ℕ) (o : Option Input) (t : ServerStep) → step_by s placed o ≡ Some t →
    (i : Input) × (o ≡ Some i) × (step s placed i ≡ t)
has_input s placed None t e = absurd (cc e)
has_input s placed (Some i) t e = (i, refl, cc e)

no_heads : (ls : List Line) → BeginNone ls → HaveNoHead ls
no_heads [] none = tt
no_heads (l ∷ ls) none = (none l (inl refl), no_heads ls (λ x i. none x (inr i)))

-- so it is of their front
bare_front : (xs : List Line) (l : Line) (after : List Line) → HaveNoHead (xs ++ l ∷ after) → HaveNoHead (xs ++ l ∷ [])
bare_front [] l after none = (none.0, tt)
bare_front (x ∷ xs) l after none = (none.0, bare_front xs l after none.1)

-- lines that begin no step are such as a text has them
written_there : (l : Line) → is_head l ≡ false → is_written_line l ≡ true
written_there (line.Event e) h = absurd (true≢false h)
written_there l h = refl

written_more : (xs ls : List Line) → AreWritten xs → HaveNoHead ls → AreWritten (xs ++ ls)
written_more [] [] a h = tt
written_more [] (l ∷ ls) a h = (written_there l h.0, written_more [] ls tt h.1)
written_more (x ∷ xs) ls a h = (a.0, written_more xs ls a.1 h)

-- ---- at the line of a note

-- The last step ends with the line of the note, and ends a repair of file f with these numbers; the file is there behind it.
pub record EndsThere (h : List Line) (l : Line) (f stripes short : ℕ) : Type 0 where
  pub so : EndsCounted h f stripes short
  pub rest : List Line
  pub line_last : so.ends.last.rest ≡ rest ++ l ∷ []
  pub did : ServerStep
  pub does : server_step (fold sees_server server_at_first so.ends.earlier) so.ends.last ≡ Some did
  pub found : repair_of f did.mended ≡ Some so.repair
  pub file : File
  pub there : file_at did.state.files f ≡ Some file

-- so it is up to the line of such a note
abbrev pub OverAt : List Line → Line → Type 0
OverAt before l =
    (f stripes short : ℕ) → l ≡ over_line f stripes short → EndsThere (before ++ l ∷ []) l f stripes short

-- laws of all histories
pub record RepairLaws : Type 0 where
  pub one_event_more : OneEventMore
  pub grants_are_safe : GrantsAreSafe
  pub steps_go_on : StepsGoOn
  pub all_lines_go_on : AllLinesGoOn

module _ (laws : RepairLaws) (w : World) (h : List Line) (k : IsMoment w h) (m : Move)
    (d : due (plan_at k) w ≡ Some m.action) (front : List Line) (l : Line) (after : List Line)
    (is : lines_in w m ≡ front ++ l ∷ after) (written : AreWritten (h ++ front)) (f a b : ℕ) (same : l ≡ over_line f a b) where
  goes : ServerGoesOn
  goes g more begins =
      ap (fold sees_server server_at_first) (laws.steps_go_on g more begins)
      ∙ fold-append sees_server server_at_first (steps_of g) (steps_of more)

  abbrev upto : List Line
  upto = (h ++ front) ++ l ∷ []

  no_head : is_head l ≡ false
  no_head = ap is_head same

  all_written : AreWritten (h ++ lines_in w m)
  all_written =
      subst AreWritten (append_assoc h front (l ∷ after) ∙ ap (λ (ls : List Line). h ++ ls) (sym is))
      (written_more (h ++ front) (l ∷ after) written (no_head, no_heads after (none_behind w m front after l is no_head)))

  -- the world's server
  apart : AreDistinct w.server.files
  apart = files_distinct w (reached w h k)

  readable : IsReadable w.server
  readable = server_is_readable goes laws.all_lines_go_on w h k (written_front h front written)

  told : IsNoted w m f a b
  told =
      told_by_move w apart m f a b
      (subst (In (over_line f a b)) (sym is) (in_behind (over_line f a b) front (l ∷ after) (inl (sym same))))

  does_so : did_in w m ≡ Some (step w.server m.chosen told.input)
  does_so = ap (step_by w.server m.chosen) told.comes

  -- ---- the lines of the move

  -- In front of the note some lines begin steps, and those behind them none.
  record IsSplit (ys : List Line) : Type 0 where
    heads : List Line
    head : Line
    rest : List Line
    is_so : ys ≡ heads ++ head ∷ rest
    all : AllHeads heads
    begins : is_head head ≡ true
    bare : HaveNoHead (rest ++ l ∷ after)

  split : (xs ys : List Line) → front ≡ xs ++ ys → HaveNoHead (ys ++ l ∷ after) ⊎ IsSplit ys
  split xs [] e = inl (no_head, no_heads after (none_behind w m front after l is no_head))
  split xs (y ∷ ys) e = elim (cases_Bool (is_head y)) [
    | inr z ↦ inl (
      z,
      no_heads (ys ++ l ∷ after)
          (none_behind w m xs (ys ++ l ∷ after) y
          (is ∙ ap (λ (zs : List Line). zs ++ l ∷ after) e ∙ append_assoc xs (y ∷ ys) (l ∷ after)) z),
    )
    | inl t ↦ elim (split (xs ++ y ∷ []) ys (e ∙ sym (append_assoc xs (y ∷ []) ys))) [
      | inl none ↦ inr (record { heads = []; head = y; rest = ys; is_so = refl; all = tt; begins = t; bare = none })
      | inr x ↦ inr (record {
        heads = y ∷ x.heads;
        head = x.head;
        rest = x.rest;
        is_so = ap (λ (zs : List Line). y ∷ zs) x.is_so;
        all = (t, x.all);
        begins = x.begins;
        bare = x.bare;
      })
    ]
  ]

  reads : ReadsAs (server_seen h) (did_in w m) (steps_of (front ++ l ∷ after))
  reads =
      subst (λ (ls : List Line). ReadsAs (server_seen h) (did_in w m) (steps_of ls)) is
      (step_is_read goes laws.all_lines_go_on w h k m d all_written)

  -- where no line begins a step, nothing is done
  not_bare : HaveNoHead (front ++ l ∷ after) → ⊥
  not_bare none =
      cc (sym does_so
      ∙ subst (ReadsAs (server_seen h) (did_in w m)) (ap (λ (g : Grouped). g.steps) (none_begins (front ++ l ∷ after) none))
      reads)

  module _ (x : IsSplit front) where
    -- the step, up to the line and with all lines, and what was seen before it
    abbrev last : Step
    last = record { head = x.head; rest = x.rest ++ l ∷ [] }

    abbrev whole : Step
    whole = record { head = x.head; rest = x.rest ++ l ∷ after }

    abbrev earlier : List Step
    earlier = steps_of h ++ map alone x.heads

    abbrev there : ServerSeen
    there = fold sees_server server_at_first (steps_of h ++ map alone x.heads)

    with_lines : (ls : List Line) → front ++ ls ≡ x.heads ++ x.head ∷ (x.rest ++ ls)
    with_lines ls = ap (λ (ys : List Line). ys ++ ls) x.is_so ∙ append_assoc x.heads (x.head ∷ x.rest) ls

    own_steps : (ls : List Line) → HaveNoHead (x.rest ++ ls) →
        steps_of (x.heads ++ x.head ∷ (x.rest ++ ls)) ≡ map alone x.heads ++ record { head = x.head; rest = x.rest ++ ls } ∷ []
    own_steps ls none =
        ap (λ (g : Grouped). g.steps) (steps_heads x.heads x.head (x.rest ++ ls) x.all x.begins none)

    read_so : ((fold sees_server (server_seen h) (map alone x.heads)).server ≡ (server_seen h).server)
        × (server_step (fold sees_server (server_seen h) (map alone x.heads))
        whole ≡ did_in w m)
    read_so =
        read_last (server_seen h) (did_in w m) (map alone x.heads) whole
        (subst (ReadsAs (server_seen h) (did_in w m)) (ap steps_of (with_lines (l ∷ after)) ∙ own_steps (l ∷ after) x.bare) reads)

    seen_there : there ≡ fold sees_server (server_seen h) (map alone x.heads)
    seen_there = fold-append sees_server server_at_first (steps_of h) (map alone x.heads)

    -- ---- the step as it is read

    steps : steps_of upto ≡ earlier ++ last ∷ []
    steps =
        ap steps_of (append_assoc h front (l ∷ [])) ∙ ap (λ (ls : List Line). steps_of (h ++ ls)) (with_lines (l ∷ []))
        ∙ laws.steps_go_on h (x.heads ++ x.head ∷ (x.rest ++ l ∷ []))
        (begins_so x.heads x.head (x.rest ++ l ∷ []) x.all x.begins)
        ∙ ap (λ (ts : List Step). steps_of h ++ ts) (own_steps (l ∷ []) (bare_front x.rest l after x.bare))
        ∙ sym (append_assoc (steps_of h) (map alone x.heads) (last ∷ []))

    server_is : there.server ≡ w.server
    server_is =
        ap (λ (s : ServerSeen). s.server) seen_there ∙ read_so.0
        ∙ ap (λ (s : ServerSeen). s.server) (book_is_read goes laws.all_lines_go_on w h k (written_front h front written))

    came : (i : Input) × (input_at there x.head ≡ Some i)
        × (step there.server (placed_in (x.rest ++ l ∷ after)) i ≡ step w.server m.chosen told.input)
    came = has_input there.server (placed_in (x.rest ++ l ∷ after)) (input_at there x.head) _
        (ap (λ (s : ServerSeen). server_step s whole) seen_there ∙ read_so.1
        ∙ does_so)

    -- the step as the lines up to there tell it, and as those of the whole move do
    abbrev cut : ServerStep
    cut = step there.server (placed_in (x.rest ++ l ∷ [])) came.0

    abbrev full : ServerStep
    full = step there.server (placed_in (x.rest ++ l ∷ after)) came.0

    noted : HaveNote full.notes f a b
    noted = subst (λ (t : ServerStep). HaveNote t.notes f a b) (sym came.2) told.noted

    there_apart : AreDistinct there.server.files
    there_apart = subst (λ (s : Server). AreDistinct s.files) (sym server_is) apart

    there_safe : AreSafe there.server.files
    there_safe = subst (λ (s : Server). AreSafe s.files) (sym server_is) (safe_at laws.grants_are_safe w h k)

    -- the repairs are the same
    agree : Counts there.server there_apart full.notes cut.mended
    agree =
        subst (Counts there.server there_apart full.notes)
        (sym (placer_leaves_repairs there.server (placed_in (x.rest ++ l ∷ after)) (placed_in (x.rest ++ l ∷ [])) came.0
        (subst IsReadable (sym server_is) readable)))
        (step_counts there.server there_apart there_safe (placed_in (x.rest ++ l ∷ after)) came.0)

    counts : IsCounted f cut.mended a b
    counts =
        subst (λ (n : ℕ). IsCounted n cut.mended a b) noted.file (agree.counted noted.note a b noted.told noted.kind)

    stood : (y : File) × (file_at there.server.files f ≡ Some y) × (counts.repair.worked ≡ merged (to_repair y.kept))
    stood = agree.there f counts.repair counts.found

    stands : (y : File) × (file_at cut.state.files f ≡ Some y)
    stands = (step_stays there.server (placed_in (x.rest ++ l ∷ [])) came.0 there_apart).2 f stood.0 stood.1

    does : server_step there last ≡ Some cut
    does = ap (step_by there.server (placed_in (x.rest ++ l ∷ []))) came.1

    ends_last : EndsThere upto l f a b
    ends_last = record {
      so = record {
        repair = counts.repair;
        ends = record {
          earlier = earlier;
          last = last;
          steps = steps;
          found = ap (λ (o : Option ServerStep). repair_of f (mended_in o)) does ∙ counts.found;
        };
        before = stood.0;
        there = stood.1;
        worked = stood.2;
        counted = counts.worked;
        left = counts.left;
      };
      rest = x.rest;
      line_last = refl;
      did = cut;
      does = does;
      found = counts.found;
      file = stands.0;
      there = stands.1;
    }

  ends_here : EndsThere upto l f a b
  ends_here = elim (split [] front refl) [ inl none ↦ absurd (not_bare none) | inr x ↦ ends_last x ]

pub over_at : RepairLaws → (w : World) (h : List Line) (k : IsMoment w h) (m : Move) →
    due (plan_at k) w ≡ Some m.action → (front : List Line) (l : Line) (after : List Line) →
    lines_in w m ≡ front ++ l ∷ after → AreWritten (h ++ front) → OverAt (h ++ front) l
over_at laws w h k m d front l after is written f a b same =
    ends_here laws w h k m d front l after is written f a b same
