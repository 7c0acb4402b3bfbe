-- Each WRITE that the server sent begins at an offset that fits its place: it lies in a piece that begins inside a file of the
-- greatest size.
use Rattle.std.proofs.Common.{◌≡◌, ◌==◌, ◌||◌, ◌++◌, ℕ, ◌*◌, ◌^◌, ◌≤◌, ◌<◌, Bool, true, false, List, [], ◌∷◌, map, Option, Some, None, refl, sym, ap, subst, ◌∙◌, arith, inl, inr, if◌then◌else◌}
use Rattle.std.proofs.Math.Nat.{mul-le-mul_right, mul-le-mul_left}
use Rattle.std.specs.List.{AllByRecursion}
use Rattle.data_map.specs.declared.check.RawMap.{RawMap}
use Rattle.data_map.specs.Check.{IsChecked}
use Rattle.data_map.specs.Striping.{row_of, data_units, stripe_length}
use Rattle.data_map.proofs.Shape.{some_data}
use Rattle.data_map.proofs.Striping.{row_below}
use Rattle.osd_commands.specs.declared.actions.Action.TheVariants as action
use Rattle.osd_commands.specs.declared.commands.Command.{Command}
use Rattle.scenario_text.specs.declared.line.Line.{Line}
use Rattle.server_rules.specs.declared.limits.TheConstants.{GREATEST_TAG}
use Rattle.server_rules.specs.Files.{at_file, file_at}
use Rattle.server_rules.specs.Commands.{to_all, All, Creating}
use Rattle.server_rules.specs.Going.{Going, with_components, rests_or}
use Rattle.server_rules.specs.History.{Input, step}
use Rattle.server_rules.specs.Jobs.{fence_begins, ending, declares, declared_in, is_target, others_than, targets, making, is_made}
use Rattle.server_rules.specs.Laws.{In}
use Rattle.server_rules.specs.Making.{with_file}
use Rattle.server_rules.specs.Messages.{awaited_by}
use Rattle.server_rules.specs.Openings.{is_unsettled, opens_made, opens_fenced, opens}
use Rattle.server_rules.specs.Standing.{any_on, lose_on}
use Rattle.server_rules.proofs.Members.{in_either}
use Rattle.history_law.specs.Names.{Server, File, Kept, Job, JobKind, Revoking, Making, Awaited, Piece, Work, Creates, Fences, Fetches, Stores, Targets, Gathers, Fills, Lengths, Checks}
use Rattle.history_law.specs.Numbered.{Awaits}
use Rattle.history_law.specs.Steps.{Answering, IsAnswering, answered_file}
use Rattle.history_law.specs.BookMoments.{IsMoment, plan_at, lines_in}
use Rattle.history_law.proofs.Ending.{next_moment}
use Rattle.history_law.proofs.Files.{in_at}
use Rattle.history_law.proofs.FencingMoves.{Acts, Others, Serves, each_acts}
use Rattle.history_law.proofs.Numbers.{to_drive, sent_anew, none_anew}
use Rattle.world_history.specs.declared.messages.Body.TheVariants.{Command as OfCommand}
use Rattle.world_history.specs.Handed.{Post}
use Rattle.world_history.specs.History.{OneEventMore}
use Rattle.world_history.specs.Moves.{Act, acts}
use Rattle.world_history.specs.Plans.{due}
use Rattle.world_history.specs.Sending.{Move, move}
use Rattle.world_history.specs.State.{World}
use Rattle.exchange_law.specs.Files.{KeptFits, GrantFits, AllFilesFit}
use Rattle.exchange_law.specs.Text.{AreOfText}
use Rattle.exchange_law.proofs.CountGrowing.{text_front}
use Rattle.exchange_law.proofs.CountMoments.{reached}
use Rattle.exchange_law.proofs.SlotMoments.{always}
use Rattle.file_simulation.specs.Jobs.{IsInPiece}
use Rattle.relation_law.specs.Awaiting.{IsAskedIn, FitsIn, JobsAskTheirOwn}
use Rattle.relation_law.specs.ComponentsFollow.{WritesHavePlaces, EachWriteHasItsPlace}
use Rattle.relation_law.specs.Owning.{EachSendIsAwaited}
use Rattle.relation_law.proofs.FramesFiles.{files_distinct}
use Rattle.relation_law.proofs.KeptServer.{at_place}
use Rattle.relation_law.proofs.Walk.{walk_fence}
use Rattle.relation_law.proofs.Ways.{IsAlike, FileWays}
use Rattle.relation_law.proofs.WaysSteps.{files_go}
use Rattle.headline_law.proofs.Commanded.{commanded_either}
use Rattle.headline_law.proofs.PlacesPieces.{PieceFits, AllFit, KeptEnds, PiecesIn, PiecesAt, PlaceFits, todo_of, place_cases, fits_hears, fits_loses}
use Rattle.name_law.specs.ServerTells.{TextsAreNamed}

-- ---- a file in a step

abbrev pub PiecesOf : File → Type 0
PiecesOf f = PiecesIn f.kept.map f.job

-- where its ends and pieces fit, its pieces do behind
abbrev FitsFrom : File → Going → Type 0
FitsFrom f g = KeptEnds f.kept → PiecesOf f → PiecesAt g

pick : (b : Bool) (x y : Going) → PiecesAt x → PiecesAt y → PiecesAt (if b then x else y)
pick true x y p q = p
pick false x y p q = q

at_same : (f : File) (g : Going) → g.file ≡ f → PiecesOf f → PiecesAt g
at_same f g same fit = subst PiecesOf (sym same) fit

ends_same : (f : File) (g : Going) → g.file ≡ f → KeptEnds f.kept → KeptEnds g.file.kept
ends_same f g same ends = subst (λ (x : File). KeptEnds x.kept) (sym same) ends

ending_ends : (k : Kept) (format : ℕ) → KeptEnds k → KeptEnds (ending k format)
ending_ends k format e = record {
  high = e.high;
  ended = λ g i. elim (in_either g k.ended k.grants i) [ inl old ↦ e.ended g old | inr new ↦ e.grants g new ];
  grants = λ g i. absurd i;
}

fits_fence : (kind : JobKind) (format : ℕ) (g : Going) → KeptEnds g.file.kept → PiecesAt (fence_begins kind format g)
fits_fence kind format g ends =
    walk_fence PlaceFits PiecesAt place_cases kind format g
    (record { ends = ending_ends g.file.kept format ends; pieces = λ p i. absurd i })

rests_making : (cs : List Awaited) (g : Going) → PiecesAt (rests_or cs g Making Creates (is_made g))
unfolding todo_of
rests_making [] g = tt
rests_making (c ∷ cs) g = λ p i. absurd i

-- a job that makes a file has no piece
fits_making : (g : Going) → PiecesAt (making g)
unfolding making
fits_making g = rests_making (to_all g.file.kept All Creating g.effects.nonce) g

fits_declares : (drive : ℕ) (g : Going) → KeptEnds g.file.kept → PiecesAt g → PiecesAt (declares g drive)
unfolding declares
fits_declares drive g ends fit =
    let h : Going = with_components g (lose_on drive g.file.kept.components) in
    pick (any_on drive g.file.kept.components || targets g.file.job drive) (declared_in h drive g.file.job) g
    (by_job g.file.job refl fit) fit
  where
    by_job : (o : Option Job) → g.file.job ≡ o → PiecesIn g.file.kept.map o →
        PiecesAt (declared_in (with_components g (lose_on drive g.file.kept.components)) drive o)
    by_job None is f = subst (PiecesIn g.file.kept.map) (sym is) tt
    by_job (Some j) is f =
        fits_loses (with_components g (lose_on drive g.file.kept.components)) j
        (record { high = ends.high; ended = ends.ended; grants = ends.grants }) f (others_than drive j.awaited)
        (is_target j.work drive) (subst (PiecesIn g.file.kept.map) (sym is) f)

fits_opens : (format : ℕ) (g : Going) → KeptEnds g.file.kept → PiecesAt g → PiecesAt (opens format g)
unfolding opens opens_fenced
fits_opens format g ends fit =
    pick (is_unsettled g.file.kept) _ _
    (pick (g.file.kept.tag == GREATEST_TAG) _ _ fit (fits_fence Revoking format g ends)) (by_ready g.file.kept.ready)
  where
    by_ready : (b : Bool) → PiecesAt (opens_made g b)
    by_ready true = tt
    by_ready false = fits_making g

answered_fits : (s : Server) (chosen : List ℕ) (i : Input) (x : Answering) → IsAnswering s i x →
    FitsFrom x.file (answered_file s chosen x)
answered_fits s chosen i x is ends fit =
    fits_hears (at_file s chosen x.file) x.job x.awaited x.reply _ is.runs ends
    (subst (PiecesIn x.file.kept.map) is.runs fit)

alike_fits : (f : File) (g h : Going) → IsAlike g h → FitsFrom f g → FitsFrom f h
alike_fits f g h a p ends fit =
    subst (λ (m : RawMap). PiecesIn m h.file.job) (sym a.map)
    (subst (PiecesIn g.file.kept.map) (sym a.job) (p ends fit))

ways : (s : Server) (chosen : List ℕ) (i : Input) → FileWays s chosen i FitsFrom PiecesOf
ways s chosen i = record {
  stays = λ f g j same ends fit. at_same f g same fit;
  alike = alike_fits;
  heard = λ x is. answered_fits s chosen i x is;
  fenced = λ f g kind format j same ends fit. fits_fence kind format g (ends_same f g same ends);
  declared = λ f g drive j same ends fit. fits_declares drive g (ends_same f g same ends) (at_same f g same fit);
  crashed = λ f g j same ends fit. subst PiecesOf (sym same) tt;
  opened = λ f g format j same ends fit. fits_opens format g (ends_same f g same ends) (at_same f g same fit);
  made = λ f there none. fits_making (at_file (with_file s f) [] f);
}

-- ---- where a command begins

pub unit_low : (m : RawMap) → IsChecked m → m.unit ≤ stripe_length m
unit_low m k =
    let all : 1 * m.unit ≤ data_units m * m.unit = mul-le-mul_right m.unit (omega (arith, some_data m k)) in
    omega (arith, all)

-- a WRITE within a piece that fits
within : (m : RawMap) (p : Piece) (k : ℕ) (x : Command) → IsChecked m → PieceFits m p → IsInPiece m p k x → x.offset < 2 ^ 64
within m p k x checked fit is =
    let row : row_of m p.stripe * m.unit ≤ p.stripe * m.unit = mul-le-mul_right m.unit (row_below m p.stripe) in
    let all : p.stripe * m.unit ≤ p.stripe * stripe_length m = mul-le-mul_left p.stripe (unit_low m checked) in
    omega (arith, row, all, fit.stripe, fit.columns, is.high, checked.short_unit)

-- so it is of what a job awaits
awaited_within : (f : Kept) (j : Job) (a : Awaited) → IsChecked f.map → AllFit f.map (todo_of j.work) →
    IsAskedIn f j.work a → a.command.action ≡ action.Write → a.command.offset < 2 ^ 64
unfolding todo_of
awaited_within f j a checked fit asked write = by_work j.work fit asked
  where
    by_work : (work : Work) → AllFit f.map (todo_of work) → IsAskedIn f work a → a.command.offset < 2 ^ 64
    by_work Creates fit is = absurd (cc (sym is.action_is ∙ write))
    by_work Fences fit is = absurd (cc (sym is.action_is ∙ write))
    by_work (Fetches [] short) fit is = absurd is
    by_work (Fetches (p ∷ ps) short) fit is = absurd (cc (sym is.action_is ∙ write))
    by_work (Stores [] short b) fit is = absurd is
    by_work (Stores (p ∷ ps) short b) fit is = within f.map p a.component a.command checked (fit p (inl refl)) is.inside
    by_work (Targets t) fit is = absurd (cc (sym is.action_is ∙ write))
    by_work (Gathers t []) fit is = absurd is
    by_work (Gathers t (p ∷ ps)) fit is = absurd (cc (sym is.action_is ∙ write))
    by_work (Fills t []) fit is = absurd is
    by_work (Fills t (p ∷ ps)) fit is = within f.map p t.component a.command checked (fit p (inl refl)) is.inside
    by_work Lengths fit is = absurd (cc (sym is.action_is ∙ write))
    by_work (Checks [] tally) fit is = absurd is
    by_work (Checks (p ∷ ps) tally) fit is = absurd (cc (sym is.action_is ∙ write))

-- ---- each moment

pub record PlaceLaws : Type 0 where
  pub more : OneEventMore
  pub fits : AllFilesFit
  pub asks : JobsAskTheirOwn
  pub sends : EachSendIsAwaited
  pub texts : TextsAreNamed

-- the pieces of all files fit, and WRITEs have their places
pub record HavePlaces (w : World) : Type 0 where
  pub pieces : (f : File) → In f w.server.files → PiecesOf f
  pub writes : WritesHavePlaces w

abbrev pub Stand : World → List Line → Type 0
Stand w h = AreOfText h → HavePlaces w

pub in_all : {A : Type 0} (P : A → Type 0) (xs : List A) → AllByRecursion P xs → (x : A) → In x xs → P x
in_all P [] all x i = absurd i
in_all P (y ∷ xs) all x (inl same) = subst P (sym same) all.0
in_all P (y ∷ xs) all x (inr i) = in_all P xs all.1 x i

module _ (laws : PlaceLaws) (w : World) (h : List Line) (k : IsMoment w h) (m : Move)
    (d : due (plan_at k) w ≡ Some m.action) (before : Stand w h) (text : AreOfText (h ++ lines_in w m)) where
  abbrev v : World
  v = (move w m).world

  abbrev a : Act
  a = acts w m.chosen m.action

  behind : IsMoment v (h ++ lines_in w m)
  behind = next_moment w h k m d

  text_before : AreOfText h
  text_before = text_front h (lines_in w m) text

  kept_of : (u : World) (g : List Line) → IsMoment u g → AreOfText g → (f : File) → In f u.server.files →
      KeptFits u.server.next_object f.kept
  kept_of u g n t f i = in_all (λ (y : File). KeptFits u.server.next_object y.kept) u.server.files (laws.fits u g n t) f i

  ends_of : (f : File) → In f w.server.files → KeptEnds f.kept
  ends_of f i =
      let fit = kept_of w h k text_before f i in
      record {
        high = fit.high;
        ended = λ g j. (in_all (GrantFits f.kept.number f.kept.map) f.kept.ended fit.ended g j).end;
        grants = λ g j. (in_all (GrantFits f.kept.number f.kept.map) f.kept.grants fit.grants g j).end;
      }

  -- a WRITE that a job of a file behind the move awaits
  awaited_there : (pieces : (f : File) → In f v.server.files → PiecesOf f) (b : Awaited) → Awaits v.server.files b →
      b.command.action ≡ action.Write → b.command.offset < 2 ^ 64
  awaited_there pieces b waits write = by_job waits.0.job refl (pieces waits.0 waits.1)
      (laws.asks v (h ++ lines_in w m) behind (laws.texts (h ++ lines_in w m) text) waits.0 waits.1) waits.2
    where
      by_job : (o : Option Job) → waits.0.job ≡ o → PiecesIn waits.0.kept.map o → FitsIn waits.0.kept o →
          In b (awaited_by o) → b.command.offset < 2 ^ 64
      by_job None is fit asked here = absurd here
      by_job (Some j) is fit asked here =
          awaited_within waits.0.kept j b (kept_of v (h ++ lines_in w m) behind text waits.0 waits.1).map fit
          (asked.asked b here) write

  by_act : Acts w a.world a.told a.posts → HavePlaces v
  by_act (Others server messages told others) = record {
    pieces = λ f i. (before text_before).pieces f (subst (λ (s : Server). In f s.files) server i);
    writes = λ e x sent write. elim (commanded_either w m e x sent messages) [
      | inl old ↦ (before text_before).writes e x old write
      | inr now ↦ absurd (none_anew a.posts e (OfCommand x) others now)
    ];
  }
  by_act (Serves chosen input sent server messages told posts) = record {
    pieces = pieces_behind;
    writes = λ e x sent write. elim (commanded_either w m e x sent messages) [
      | inl old ↦ (before text_before).writes e x old write
      | inr now ↦
          let r = sent_anew (step w.server chosen input).sends e (OfCommand x)
          (subst (λ (ps : List Post). In (to_drive e (OfCommand x)) (map (λ (p : Post). p.message) ps)) posts now) in
          let same : x ≡ r.0 = own_command x r.0 r.2 in
          let z = laws.sends w.server chosen input e r.0 r.1 in
          let waits : Awaits v.server.files z.0 = subst (λ (s : Server). Awaits s.files z.0) (sym server) z.2 in
          let offset : x.offset ≡ z.0.command.offset =
          ap (λ (c : Command). c.offset) same ∙ ap (λ (c : Command). c.offset) z.1.1 in
          let as_written : z.0.command.action ≡ action.Write =
          sym (ap (λ (c : Command). c.action) z.1.1) ∙ sym (ap (λ (c : Command). c.action) same) ∙ write in
          subst (λ (n : ℕ). n < 2 ^ 64) (sym offset) (awaited_there pieces_behind z.0 waits as_written)
    ];
  }
    where
      own_command : (x y : Command) → OfCommand x ≡ OfCommand y → x ≡ y
      own_command x y e = cc e

      pieces_behind : (f : File) → In f v.server.files → PiecesOf f
      pieces_behind f i =
          elim (files_go w.server chosen input FitsFrom PiecesOf (ways w.server chosen input) (files_distinct w (reached w h k))
          f.kept.number f (ap (λ (s : Server). file_at s.files f.kept.number) (sym server)
          ∙ at_place v.server.files f (files_distinct v (reached v (h ++ lines_in w m) behind)) i)) [
            | inl x ↦
                let there : In x.before w.server.files = in_at w.server.files f.kept.number x.before x.there in
                subst PiecesOf x.is (x.so (ends_of x.before there) ((before text_before).pieces x.before there))
            | inr new ↦ new
          ]

pub have_places : PlaceLaws → (w : World) (h : List Line) → IsMoment w h → Stand w h
have_places laws =
    always Stand (record {
      starts = λ text. record { pieces = λ f i. absurd i; writes = λ d x sent write. absurd sent };
      moves = λ u g j m d p text. by_act laws u g j m d p text (each_acts u m.chosen m.action);
    }) laws.more

pub each_write_has_its_place : PlaceLaws → EachWriteHasItsPlace
each_write_has_its_place laws w h k scenario = (have_places laws w h k scenario.text).writes
