-- The CREATEs of the step in which a file is made go to the drives of its components.
use Rattle.std.proofs.Common.{◌≡◌, ◌==◌, ℕ, ◌+◌, ◌∷◌, [], ◌++◌, List, Bool, true, false, true≢false, nat_lt, map, length, Option, Some, None, refl, sym, ap, subst, ◌∙◌, append_assoc, inl, inr, if◌then◌else◌}
use Rattle.std.proofs.lemmas.Bool.{cases_Bool, eq-eqb}
use Rattle.std.proofs.lemmas.List.{append-nil}
use Rattle.osd_lists.proofs.Slices.{head_same, tail_same}
use Rattle.scenario_text.specs.declared.event.Event.{Event}
use Rattle.scenario_text.specs.declared.event.Event.TheVariants as event
use Rattle.scenario_text.specs.declared.event.FileMap.{FileMap}
use Rattle.scenario_text.specs.declared.line.MapFault.TheVariants as map_fault
use Rattle.scenario_text.specs.declared.line.Note.TheVariants as note
use Rattle.scenario_text.specs.declared.line.Line.{Line}
use Rattle.scenario_text.specs.declared.line.Line.TheVariants as line
use Rattle.server_rules.specs.Commands.{Creating, All, to_all}
use Rattle.server_rules.specs.Files.{file_at, put_file, add_file, at_file}
use Rattle.server_rules.specs.Going.{Going, rests_or}
use Rattle.server_rules.specs.Jobs.{is_made, making}
use Rattle.server_rules.specs.Laws.{In, FilesArePut}
use Rattle.server_rules.specs.Making.{drives_for, components_on, unmade, with_file, makes_file, unless_refused, refusal, create_file}
use Rattle.server_rules.proofs.Members.{in_behind}
use Rattle.world_history.specs.ServerNames.{File, Kept, Component, Awaited, JobKind, Work, Making as MakesIt, Creates, RawMap, Refusal}
use Rattle.world_history.specs.State.{World}
use Rattle.world_history.specs.Moves.{Act, Action, Opens, raw_of, has_algorithm, made_file, makes, tells, begins, acts}
use Rattle.world_history.specs.Sending.{Move, move, sent_lines}
use Rattle.world_history.specs.Plans.{due, plan_of, went_on}
use Rattle.world_history.specs.Runs.{world_after, plan_after}
use Rattle.world_history.specs.Reading.{is_head}
use Rattle.world_history.specs.Refusals as refusals
use Rattle.world_history.specs.Book.{ServerSeen, placed_in, book_of}
use Rattle.world_history.specs.Laws.{ServerGoesOn, AllLinesGoOn}
use Rattle.world_history.specs.History.{OneEventMore}
use Rattle.world_history.proofs.Always.{opening}
use Rattle.history_law.proofs.Moments.{stands_kept}
use Rattle.history_law.specs.BookMoments.{IsMoment, plan_at, lines_in}
use Rattle.history_law.specs.Placed.{IsReadable}
use Rattle.history_law.specs.Read.{AreWritten}
use Rattle.history_law.specs.StepEnds.{BeginNone}
use Rattle.history_law.proofs.BookLines.{flat_placed}
use Rattle.history_law.proofs.Following.{IsServerRead, IsFollowed, followed}
use Rattle.history_law.proofs.Leading.{begins_flat}
use Rattle.history_law.proofs.Made.{for_named, told_on}
use Rattle.history_law.proofs.Staying.{written_front}
use Rattle.history_law.proofs.StepEnds.{place_of}
use Rattle.component_law.specs.Words.{Each}
use Rattle.component_law.specs.Opening.{is_opening}
use Rattle.component_law.proofs.Shapes.{Bare, is_event, sent_bare}
use Rattle.component_law.proofs.Inside.{shape_each, opens_each}
use Rattle.component_law.proofs.NextMoves.{acts_shape, next_opens, plain_lines}
use Rattle.component_law.proofs.MoveOpening.{begins_bare}
use Rattle.exchange_law.proofs.CountMoments.{at_moment}
use Rattle.history_law.proofs.Ending.{next_moment}
use Rattle.history_law.proofs.NextSteps.{begin_more, move_begins}
use Rattle.history_claims.specs.Created.{file_event, ArePlaced, FilesAreCreated, EachFileIsCreated}

-- ---- the file

-- a new file is found
add_same : (fs : List File) (f : File) (n : ℕ) → f.kept.number ≡ n → file_at fs n ≡ None
    → file_at (add_file fs f) n ≡ Some f
unfolding file_at add_file
add_same [] f n is none = rw (eq-eqb f.kept.number n is) refl
add_same (g ∷ fs) f n is none = elim (cases_Bool (g.kept.number == n)) [
  | inl t ↦ absurd (cc (rw t at none))
  | inr z ↦ elim (cases_Bool (nat_lt g.kept.number f.kept.number)) [
    | inl l ↦ rw l (rw z (add_same fs f n is (rw z at none)))
    | inr l ↦ rw l (rw (eq-eqb f.kept.number n is) refl)
  ]
]

-- what a job leaves as it is, where it rests or has nothing to send
kept_or : {A : Type 0} (F : Kept → A) (cs : List Awaited) (g : Going) (kind : JobKind) (work : Work) (later : Going)
    → F later.file.kept ≡ F g.file.kept → F (rests_or cs g kind work later).file.kept ≡ F g.file.kept
kept_or F [] g kind work later e = e
kept_or F (c ∷ cs) g kind work later e = refl

making_components : (g : Going) → (making g).file.kept.components ≡ g.file.kept.components
unfolding making
making_components g =
    kept_or (λ (k : Kept). k.components) (to_all g.file.kept All Creating g.effects.nonce) g MakesIt Creates (is_made g)
    refl

making_number : (g : Going) → (making g).file.kept.number ≡ g.file.kept.number
unfolding making
making_number g =
    kept_or (λ (k : Kept). k.number) (to_all g.file.kept All Creating g.effects.nonce) g MakesIt Creates (is_made g) refl

on_drives : (ns : List ℕ) (object : ℕ) → map (λ (at : Component). at.drive) (components_on ns object) ≡ ns
unfolding components_on
on_drives [] object = refl
on_drives (n ∷ ns) object = ap (λ (xs : List ℕ). n ∷ xs) (on_drives ns (object + 1))

-- ---- the act

-- the CREATEs that an act sends are of the file that is there behind it
abbrev ActPlaced : (number k : ℕ) → Act → Type 0
ActPlaced n k a = ArePlaced (placed_in (sent_lines k a.posts)) (file_at a.world.server.files n)

module _ (put : FilesArePut) (w : World) (readable : IsReadable w.server) (chosen : List ℕ) (n : ℕ) (m : RawMap)
    (tag k : ℕ) (zoned : Bool)
    (none : file_at w.server.files n ≡ None) where
  abbrev drives : List ℕ
  drives = drives_for zoned w.server.drives m chosen

  abbrev new : File
  new = unmade w.server n m tag zoned drives

  abbrev going : Going
  going = making (at_file (with_file w.server new) [] new)

  found : file_at (put_file (add_file w.server.files new) n going.file) n ≡ Some going.file
  found =
      (put (add_file w.server.files new) n going.file new (making_number (at_file (with_file w.server new) [] new))
      (add_same w.server.files new n refl none)).0

  components : map (λ (at : Component). at.drive) going.file.kept.components ≡ drives
  components =
      ap (map (λ (at : Component). at.drive)) (making_components (at_file (with_file w.server new) [] new))
      ∙ on_drives drives w.server.next_object

  nothing_placed : ArePlaced [] (file_at w.server.files n)
  nothing_placed = subst (ArePlaced []) (sym none) refl

  by_refusal : (o : Option Refusal) → ActPlaced n k (made_file w n (unless_refused o (makes_file w.server new)))
  unfolding sent_lines
  by_refusal (Some e) = nothing_placed
  by_refusal None =
      subst (ArePlaced _) (sym found)
      (told_on w.server n m tag zoned readable drives (for_named zoned w.server.drives m chosen readable.drives) k
      ∙ sym components)

  makes_placed : ActPlaced n k (makes w chosen n m tag zoned)
  unfolding makes create_file sent_lines
  makes_placed = either (has_algorithm m)
    where
      either : (b : Bool)
          → ActPlaced n k (if b then made_file w n (unless_refused (refusal w.server n m zoned) (makes_file w.server new))
          else tells w (line.Note n (note.BadMap map_fault.Width)))
      either true = by_refusal (refusal w.server n m zoned)
      either false = nothing_placed

-- ---- the move

-- in the lines of a move that makes a file
new_placed : FilesArePut → (w : World) → IsReadable w.server → (chosen : List ℕ) (n : ℕ) (m : FileMap) (tag : ℕ)
    (zoned : Bool) → file_at w.server.files n ≡ None
    → ArePlaced (placed_in (move w (opening (file_event n m tag zoned) chosen)).lines)
    (file_at (move w (opening (file_event n m tag zoned) chosen)).world.server.files n)
unfolding begins
new_placed put w readable chosen n m tag false none =
    let a : Act = makes w chosen n (raw_of m) tag false in
    let k : ℕ = length a.world.network.messages in
    subst (λ (ds : List ℕ). ArePlaced ds (file_at a.world.server.files n))
    (sym (flat_placed a.told (sent_lines k a.posts) (begins_flat w chosen (event.File n m tag) refl)))
    (makes_placed put w readable chosen n (raw_of m) tag k false none)
new_placed put w readable chosen n m tag true none =
    let a : Act = makes w chosen n (raw_of m) tag true in
    let k : ℕ = length a.world.network.messages in
    subst (λ (ds : List ℕ). ArePlaced ds (file_at a.world.server.files n))
    (sym (flat_placed a.told (sent_lines k a.posts) (begins_flat w chosen (event.ZonedFile n m tag) refl)))
    (makes_placed put w readable chosen n (raw_of m) tag k true none)

bare_none : (ls : List Line) → Bare ls → BeginNone ls
bare_none [] b l i = absurd i
bare_none (x ∷ ls) b l (inl e) = ap is_head e ∙ b.0
bare_none (x ∷ ls) b l (inr i) = bare_none ls b.1 l i

no_opening : (n : ℕ) (m : FileMap) (tag : ℕ) (zoned : Bool) → is_opening (file_event n m tag zoned) ≡ false
no_opening n m tag true = refl
no_opening n m tag false = refl

new_bare : (w : World) (chosen : List ℕ) (n : ℕ) (m : FileMap) (tag : ℕ) (zoned : Bool)
    → BeginNone (move w (opening (file_event n m tag zoned) chosen)).lines
new_bare w chosen n m tag zoned =
    bare_none (move w (opening (file_event n m tag zoned) chosen)).lines
    (sent_bare (acts w chosen (opening (file_event n m tag zoned) chosen).action)
    (begins_bare w chosen (file_event n m tag zoned) (no_opening n m tag zoned)))

-- ---- where the line of an event stands

-- it is the first of the lines of a move that begins the event
record IsFirst (w : World) (m : Move) (front after : List Line) (e : Event) : Type 0 where
  action : m.action ≡ Opens e
  first : front ≡ []
  rest : after ≡ (move w m).lines

abbrev NotEvent : Line → Type 0
NotEvent l = is_event l ≡ false

none_inside : (ls : List Line) (e : Event) → Each NotEvent ls → In (line.Event e) ls → ⊥
none_inside [] e each i = i
none_inside (x ∷ ls) e each (inl is) = true≢false (ap is_event is ∙ each.0)
none_inside (x ∷ ls) e each (inr i) = none_inside ls e each.1 i

inside : (l : Line) → is_event l ≡ false → NotEvent l
inside l e = e

at_first : (w : World) (e : Event) (chosen : List ℕ) → refusals.refusal w e ≡ None → (front after : List Line) (x : Event)
    → line.Event e ∷ (move w (opening e chosen)).lines ≡ front ++ line.Event x ∷ after
    → IsFirst w (opening e chosen) front after x
at_first w e chosen allowed [] after x is = record {
  action = ap Opens (same (head_same (line.Event e) (line.Event x) (move w (opening e chosen)).lines after is));
  first = refl;
  rest = sym (tail_same (line.Event e) (line.Event x) (move w (opening e chosen)).lines after is);
}
  where
    same : line.Event e ≡ line.Event x → e ≡ x
    same f = cc f
at_first w e chosen allowed (y ∷ front) after x is =
    let lines : List Line = (move w (opening e chosen)).lines in
    let split : lines ≡ front ++ line.Event x ∷ after = tail_same (line.Event e) y lines (front ++ line.Event x ∷ after) is
    in
    absurd (none_inside lines x (opens_each NotEvent inside w chosen e allowed)
    (subst (In (line.Event x)) (sym split) (in_behind (line.Event x) front (line.Event x ∷ after) (inl refl))))

by_moves : (v w : World) (e : Event) (ms : List Move) (m : Move) → w ≡ world_after v ms → refusals.refusal v e ≡ None
    → due (plan_after (plan_of v e) ms) w ≡ Some m.action → (front after : List Line) (x : Event)
    → lines_in w m ≡ front ++ line.Event x ∷ after → IsFirst w m front after x
by_moves v w e [] m is allowed d front after x there =
    let opens : Opens e ≡ m.action = cc d in
    subst (λ (a : Action). lines_in w (record { action = a; chosen = m.chosen }) ≡ front ++ line.Event x ∷ after
    → IsFirst w (record { action = a; chosen = m.chosen }) front after x) opens
    (at_first w e m.chosen (ap (λ (y : World). refusals.refusal y e) is ∙ allowed) front after x) there
by_moves v w e (z ∷ ms) m is allowed d front after x there =
    let late = next_opens (went_on (plan_of v e) z.action) ms w m.action refl d in
    let split : (move w m).lines ≡ front ++ line.Event x ∷ after =
    sym (plain_lines m.action (move w m).lines late) ∙ there in
    absurd (none_inside (move w m).lines x
    (shape_each NotEvent inside (move w m).lines (acts_shape w m.chosen m.action late))
    (subst (In (line.Event x)) (sym split) (in_behind (line.Event x) front (line.Event x ∷ after) (inl refl))))

-- ---- the lines of a history

none_created : FilesAreCreated []
none_created [] after n m tag zoned is none = absurd (cc is)
none_created (x ∷ before) after n m tag zoned is none = absurd (cc is)

module _ (put : FilesArePut) (on : ServerGoesOn) (all : AllLinesGoOn) where
  abbrev So : World → List Line → Type 0
  So w h = AreWritten h → FilesAreCreated h

  read_there : (w : World) (h : List Line) → IsMoment w h → AreWritten h → IsServerRead w h
  read_there w h k written = (at_moment IsFollowed (followed on all) w h k).server written

  book_there : (w : World) (h : List Line) → IsServerRead w h → (n : ℕ) → book_of h n ≡ file_at w.server.files n
  book_there w h r n = ap (λ (s : ServerSeen). file_at s.server.files n) r.seen

  one_more : (w : World) (h : List Line) (k : IsMoment w h) (m : Move) → due (plan_at k) w ≡ Some m.action → So w h
      → So (move w m).world (h ++ lines_in w m)
  one_more w h k m d so written before after n map tag zoned is none =
      let l : Line = line.Event (file_event n map tag zoned) in
      let front_written = written_front h (lines_in w m) written in
      elim (place_of h (lines_in w m) before after l is) [
        | inl (rest, own, behind) ↦
            let r = so front_written before rest n map tag zoned own none in
            record {
              rest = r.rest;
              more = r.more ++ lines_in w m;
              cut =
                  behind ∙ ap (λ (ls : List Line). ls ++ lines_in w m) r.cut
                  ∙ append_assoc r.rest r.more (lines_in w m);
              of_step = r.of_step;
              ends = begin_more r.more (lines_in w m) r.ends (move_begins w m);
              placed = r.placed;
            }
        | inr (front, own, it) ↦
            let f = by_moves k.before w k.event k.moves m k.world_is k.allowed d front after (file_event n map tag zoned) it in
            let same : before ≡ h = own ∙ ap (λ (ls : List Line). h ++ ls) f.first ∙ append-nil h in
            let there = read_there w h k front_written in
            let next = read_there (move w m).world (h ++ lines_in w m) (next_moment w h k m d) written in
            let missing : file_at w.server.files n ≡ None =
            sym (book_there w h there n) ∙ ap (λ (ls : List Line). book_of ls n) (sym same) ∙ none in
            let placed : ArePlaced (placed_in (move w m).lines) (file_at (move w m).world.server.files n) =
            subst (λ (a : Action). ArePlaced (placed_in (move w (record { action = a; chosen = m.chosen })).lines)
            (file_at (move w (record { action = a; chosen = m.chosen })).world.server.files n)) (sym f.action)
            (new_placed put w there.readable m.chosen n map tag zoned missing) in
            let bare : BeginNone (move w m).lines =
            subst (λ (a : Action). BeginNone (move w (record { action = a; chosen = m.chosen })).lines) (sym f.action)
            (new_bare w m.chosen n map tag zoned) in
            record {
              rest = after;
              more = [];
              cut = sym (append-nil after);
              of_step = subst BeginNone (sym f.rest) bare;
              ends = tt;
              placed =
                  subst (ArePlaced (placed_in after))
                  (sym (book_there (move w m).world (h ++ lines_in w m) next n)
                  ∙ ap (λ (ls : List Line). book_of ls n) is)
                  (subst (λ (ls : List Line). ArePlaced (placed_in ls) (file_at (move w m).world.server.files n))
                  (sym f.rest) placed);
            }
      ]

  pub each_file_is_created : OneEventMore → EachFileIsCreated
  each_file_is_created more w h s written =
      stands_kept So (record { starts = λ x. none_created; moves = one_more }) more w h s written
