-- In each whole history what a job awaits was sent in a step's lines, isn't answered yet, and ends with one of its causes.
use Rattle.std.proofs.Common.{◌≡◌, ◌⊎◌, ◌≤◌, ℕ, true, false, map, List, [], ◌∷◌, ◌++◌, Option, Some, None, refl, sym, ap, subst, ◌∙◌, arith, inl, inr}
use Rattle.std.proofs.lemmas.Bool.{lt-ltb, false≢true}
use Rattle.scenario_text.specs.declared.names.TheConstants.{DRIVES}
use Rattle.scenario_text.specs.declared.line.Line.{Line}
use Rattle.scenario_text.specs.declared.line.Line.TheVariants as line
use Rattle.scenario_text.specs.declared.line.Party.TheVariants as party
use Rattle.osd_commands.specs.Commands.{spelling}
use Rattle.server_rules.specs.Commands.{sealed}
use Rattle.server_rules.specs.Files.{Step, file_at, to_drive}
use Rattle.server_rules.specs.History.{Input, step}
use Rattle.server_rules.specs.Laws.{In, FilesArePut}
use Rattle.server_rules.specs.Messages.{awaited_by}
use Rattle.server_rules.proofs.FileLaws.{number_at}
use Rattle.server_rules.proofs.Members.{in_map, in_filter}
use Rattle.world_history.specs.ServerNames.{Server, File, Awaited}
use Rattle.world_history.specs.State.{World}
use Rattle.world_history.specs.Handed.{Post, is_addressed, server_post}
use Rattle.world_history.specs.Moves.{acts}
use Rattle.world_history.specs.Sending.{Move, move}
use Rattle.world_history.specs.Reading.{is_head}
use Rattle.world_history.specs.Book.{placed_in, step_by, server_behind, server_after, awaited_in}
use Rattle.world_history.specs.History.{OneEventMore}
use Rattle.world_history.specs.Laws.{ServerGoesOn}
use Rattle.history_law.proofs.Files.{in_at}
use Rattle.history_law.proofs.Moments.{always}
use Rattle.history_law.specs.Numbered.{NumbersOn}
use Rattle.history_law.proofs.JobSteps.{step_numbers}
use Rattle.history_law.specs.BookMoments.{IsMoment, lines_in}
use Rattle.history_law.specs.Doing.{input_in, ServerMoves}
use Rattle.history_law.specs.Grants.{GrantsAreSafe}
use Rattle.history_law.specs.Read.{BookIsRead, StepIsRead}
use Rattle.history_law.proofs.Staying.{written_front}
use Rattle.history_law.proofs.Numbers.{Numbers, numbers_move, numbers_first}
use Rattle.history_law.proofs.Ending.{next_moment}
use Rattle.component_law.specs.Sound.{IsSound}
use Rattle.component_law.specs.Seeing.{SeenIsSound}
use Rattle.cause_law.specs.Awaiting.{IsSent, Begins, Before, Sends, AwaitedGo, EachAwaitedHasItsCauses}
use Rattle.cause_law.specs.AwaitedEnds.{Ends, AwaitedEnd, EachAwaitedHasItsEnd}
use Rattle.cause_law.proofs.Answering.{safe_at}
use Rattle.cause_law.proofs.Reading.{AllHeads, all_heads}
use Rattle.cause_law.proofs.CauseInputs.{IsMoved, IsShown, at_inputs}
use Rattle.cause_law.proofs.Grants.{sound_at}
use Rattle.cause_law.proofs.Changing.{at_place}
use Rattle.cause_law.proofs.Telling.{sent_there}
use Rattle.cause_law.proofs.AwaitedSteps.{AreBelow, step_parts}
use Rattle.cause_law.proofs.AwaitedAnswered.{AreParted, AreOne, answered_ends}
use Rattle.cause_law.proofs.AwaitedEnds.{awaits_or_ends}

-- ---- at each moment

below_of : (w : World) → Numbers w → AreBelow w.server.next_nonce w.server.files
below_of w n f there a k = n.waits a (f, there, k)

-- a step parts them as they were parted
parted_step : (s : Server) (chosen : List ℕ) (i : Input) → AreBelow s.next_nonce s.files → AreParted s.files
    → AreParted (step s chosen i).state.files
parted_step s chosen i below parted x y j k a b p q e =
    let all = step_parts s chosen i below in
    elim (all.came x j) [
      | inr new ↦ all.parted x y j k a b p q (new a p) e
      | inl (f, own, goes) ↦ elim (goes.1 a p) [
        | inr new ↦ all.parted x y j k a b p q new e
        | inl old ↦ elim (all.came y k) [
          | inr later ↦ absurd (omega (arith, below f own a old, e, later b q))
          | inl (g, its, others) ↦ elim (others.1 b q) [
            | inr later ↦ absurd (omega (arith, below f own a old, e, later))
            | inl was ↦ goes.0 ∙ parted f g own its a b old was e ∙ sym others.0
          ]
        ]
      ]
    ]

abbrev IsNumberedAndParted : World → List Line → Type 0
IsNumberedAndParted w h = Numbers w × AreParted w.server.files

module _ (moves : ServerMoves) where
  parted_move : (w : World) (m : Move) → Numbers w → AreParted w.server.files → AreParted (move w m).world.server.files
  parted_move w m n parted =
      subst (λ (s : Server). AreParted s.files) (sym (moves w m).server) (by (input_in w m.action))
    where
      by : (o : Option Input) → AreParted (server_behind w.server (step_by w.server m.chosen o)).files
      by None = parted
      by (Some i) = parted_step w.server m.chosen i (below_of w n) parted

  pub kept_at : OneEventMore → (w : World) (h : List Line) → IsMoment w h → IsNumberedAndParted w h
  kept_at more w h k =
      always IsNumberedAndParted (record {
        starts = (numbers_first, λ x y i. absurd i);
        moves = λ v g at m d p. (numbers_move v m p.0, parted_move v m p.0 p.1);
      }) more w h k

-- ---- lines of a step

-- a line that begins no step, among the lines of a move
behind_head : (x l : Line) (front after : List Line) → is_head x ≡ false → AllHeads front → is_head l ≡ true
    → In x (front ++ l ∷ after) → In x after
behind_head x l [] after none heads head (inl same) = absurd (false≢true (sym none ∙ ap is_head same ∙ head))
behind_head x l [] after none heads head (inr i) = i
behind_head x l (y ∷ front) after none heads head (inl same) = absurd (false≢true (sym none ∙ ap is_head same ∙ heads.0))
behind_head x l (y ∷ front) after none heads head (inr i) = behind_head x l front after none heads.1 head i

one_there : (s : Server) → IsSound s → AreOne s.files
one_there s sound x y i j e =
    by (sym (at_place s.files x sound.distinct i) ∙ ap (file_at s.files) e ∙ at_place s.files y sound.distinct j)
  where
    by : Some x ≡ Some y → x ≡ y
    by q = cc q

module _ (put : FilesArePut) (moves : ServerMoves) (w : World) (h : List Line) (m : Move) (front : List Line) (l : Line)
    (after : List Line) (is : lines_in w m ≡ front ++ l ∷ after) (i : Input) (moved : IsMoved w h m front l after i)
    (sound : IsSound w.server) (numbers : Numbers w) (parted : AreParted w.server.files) where
  abbrev its : Step
  its = step w.server (placed_in after) i

  on : NumbersOn w.server its
  on = step_numbers w.server (placed_in after) i

  -- what the step sends to a drive that a line can name stands in its lines
  sent_line_of : (a : Awaited) → In (to_drive its.state.drives a) its.sends → IsSent its.state after a
  sent_line_of a among named =
      let p : Post = server_post (to_drive its.state.drives a) in
      let posted : In p (acts w m.chosen m.action).posts =
      subst (In p) (sym ((moves w m).posts its moved.did))
      (in_filter is_addressed p (map server_post its.sends) (in_map server_post (to_drive its.state.drives a) its.sends among)
      (lt-ltb a.drive DRIVES named)) in
      let r = sent_there w m p posted in
      record {
        number = r.0;
        there =
            behind_head
            (line.Message r.0 party.Server (party.Drive a.drive) (spelling (sealed its.state.drives a))) l front after refl
            (all_heads w m front l after is moved.head) moved.head (subst (In _) is r.1);
      }

  fresh_sent : (n : ℕ) (g : File) → file_at its.state.files n ≡ Some g → (a : Awaited) → In a (awaited_by g.job)
      → w.server.next_nonce ≤ a.command.nonce → IsSent its.state after a
  fresh_sent n g behind a k new =
      elim (on.waits a (g, in_at its.state.files n g behind, k)) [
        | inl (f, there, old) ↦ absurd (omega (arith, new, numbers.waits a (f, there, old)))
        | inr fresh ↦ sent_line_of a (on.goes_out a fresh)
      ]

  begun : (n : ℕ) (g : File) → file_at its.state.files n ≡ Some g → (a : Awaited) → In a (awaited_by g.job)
      → Begins w.server its.state i after a (file_at w.server.files n)
  begun n g behind a k =
      elim ((step_parts w.server (placed_in after) i (below_of w numbers)).came g (in_at its.state.files n g behind)) [
        | inr new ↦ Sends (file_at w.server.files n) (new a k) (fresh_sent n g behind a k (new a k))
        | inl (f, own, goes) ↦ elim (goes.1 a k) [
          | inr new ↦ Sends (file_at w.server.files n) new (fresh_sent n g behind a k new)
          | inl old ↦ as_before f own old (sym goes.0 ∙ number_at its.state.files n g behind)
        ]
      ]
    where
      as_before : (f : File) → In f w.server.files → In a (awaited_by f.job) → f.kept.number ≡ n
          → Begins w.server its.state i after a (file_at w.server.files n)
      as_before f own old number =
          let found : file_at w.server.files n ≡ Some f =
          subst (λ (x : ℕ). file_at w.server.files x ≡ Some f) number (at_place w.server.files f sound.distinct own) in
          subst (λ (o : Option File). Begins w.server its.state i after a o) (sym found)
          (Before f old (λ x. answered_ends put w.server (placed_in after) (below_of w numbers) parted numbers.alone
          (one_there w.server sound) n f found a old i x g behind k))

  awaits_so : (n : ℕ) (a : Awaited) → In a (awaited_in (file_at its.state.files n))
      → Begins w.server its.state i after a (file_at w.server.files n)
  awaits_so n a k = by (file_at its.state.files n) refl k
    where
      by : (o : Option File) → file_at its.state.files n ≡ o → In a (awaited_in o)
          → Begins w.server its.state i after a (file_at w.server.files n)
      by None e j = absurd j
      by (Some g) e j = begun n g e a j

module _ (put : FilesArePut) (moves : ServerMoves) (seen : SeenIsSound) (read : BookIsRead) (more : OneEventMore) where
  shown : IsShown AwaitedGo
  shown = record {
    shows = λ w h k m d written front l after is i moved file a.
        let upto : List Line = (h ++ front) ++ l ∷ after in
        let p = kept_at moves more w h k in
        subst (λ (s : Server). In a (awaited_in (file_at (server_after upto).files file))
        → Begins s (server_after upto) i after a (file_at s.files file)) (sym moved.server)
        (subst (λ (t : Server). In a (awaited_in (file_at t.files file))
        → Begins w.server t i after a (file_at w.server.files file)) (sym moved.behind)
        (awaits_so put moves w h m front l after is i moved
        (sound_at seen read w h k (written_front h (lines_in w m) written)) p.0 p.1 file a));
  }

  pub each_awaited_has_its_causes : StepIsRead → ServerGoesOn → EachAwaitedHasItsCauses
  each_awaited_has_its_causes step_read on w h s written =
      at_inputs read step_read moves more on AwaitedGo shown w h s written

-- ---- and ends

module _ (safe : GrantsAreSafe) (moves : ServerMoves) (seen : SeenIsSound) (read : BookIsRead) (more : OneEventMore) where
  ended : IsShown AwaitedEnd
  ended = record {
    shows = λ w h k m d written front l after is i moved file f found a awaits.
        let upto : List Line = (h ++ front) ++ l ∷ after in
        let p = kept_at moves more w h k in
        let sound : IsSound w.server = sound_at seen read w h k (written_front h (lines_in w m) written) in
        let behind : IsSound (step w.server (placed_in after) i).state =
        subst IsSound moved.state (sound_at seen read (move w m).world (h ++ lines_in w m) (next_moment w h k m d) written) in
        let same : file_at w.server.files file ≡ Some f =
        subst (λ (s : Server). file_at s.files file ≡ Some f) moved.server found in
        subst (λ (s : Server). In a (awaited_in (file_at (server_after upto).files file)) ⊎ Ends s i f a) (sym moved.server)
        (subst (λ (t : Server). In a (awaited_in (file_at t.files file)) ⊎ Ends w.server i f a) (sym moved.behind)
        (awaits_or_ends w.server (placed_in after) i (safe_at safe w h k) (one_there w.server sound) p.0.alone behind.distinct
        file f same a awaits));
  }

  pub each_awaited_has_its_end : StepIsRead → ServerGoesOn → EachAwaitedHasItsEnd
  each_awaited_has_its_end step_read on w h s written =
      at_inputs read step_read moves more on AwaitedEnd ended w h s written
