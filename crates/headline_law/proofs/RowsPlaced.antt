-- Each READ that the server sent fits its place: it reads the row of a piece that begins inside a file of the greatest size.
use Rattle.std.proofs.Common.{◌≡◌, ◌++◌, ℕ, ◌+◌, ◌*◌, ◌^◌, ◌≤◌, ◌<◌, List, [], ◌∷◌, map, Option, Some, None, refl, sym, ap, subst, ◌∙◌, arith, inl, inr}
use Rattle.std.proofs.Math.Nat.{mul-le-mul_right, mul-le-mul_left}
use Rattle.data_map.specs.declared.check.RawMap.{RawMap}
use Rattle.data_map.specs.Check.{IsChecked}
use Rattle.data_map.specs.Striping.{row_of, stripe_length}
use Rattle.data_map.proofs.Striping.{row_below}
use Rattle.osd_commands.specs.declared.actions.Action.TheVariants as action
use Rattle.osd_commands.specs.declared.commands.Command.{Command}
use Rattle.scenario_text.specs.declared.line.Line.{Line}
use Rattle.server_rules.specs.History.{step}
use Rattle.server_rules.specs.Laws.{In}
use Rattle.server_rules.specs.Messages.{awaited_by}
use Rattle.server_rules.proofs.Members.{in_either}
use Rattle.history_law.specs.Names.{Server, Component, File, Kept, Job, Awaited, Piece, Work, Creates, Fences, Fetches, Stores, Targets, Gathers, Fills, Lengths, Checks}
use Rattle.history_law.specs.Numbered.{Awaits}
use Rattle.history_law.specs.Moments.{IsMoment, plan_at, lines_in}
use Rattle.history_law.proofs.Ending.{next_moment}
use Rattle.history_law.proofs.FencingMoves.{messages_in, Acts, Others, Serves, each_acts}
use Rattle.history_law.proofs.Numbers.{to_drive, sent_anew, none_anew, messages_sent}
use Rattle.world_history.specs.declared.messages.Body.TheVariants.{Command as OfCommand}
use Rattle.world_history.specs.Handed.{Post}
use Rattle.world_history.specs.Moves.{Act, acts}
use Rattle.world_history.specs.Plans.{due}
use Rattle.world_history.specs.Sending.{Move, move}
use Rattle.world_history.specs.State.{World}
use Rattle.exchange_law.specs.Files.{KeptFits}
use Rattle.exchange_law.specs.Text.{AreOfText}
use Rattle.exchange_law.proofs.CountGrowing.{text_front}
use Rattle.exchange_law.proofs.SlotMoments.{always}
use Rattle.file_simulation.specs.Messages.{HasCommanded}
use Rattle.relation_law.specs.Awaiting.{IsRow, IsAskedIn, FitsIn}
use Rattle.headline_law.specs.RowsPlaces.{ReadsHavePlaces, EachReadHasItsPlace}
use Rattle.headline_law.proofs.PlacesPieces.{PieceFits, AllFit, PiecesIn, todo_of}
use Rattle.headline_law.proofs.PlacesWrites.{PlaceLaws, in_all, unit_low, have_places}

-- a command has room if its offset and its length fit their places
abbrev HasRoom : Command → Type 0
HasRoom x = (x.offset < 2 ^ 64) × (x.length < 2 ^ 64)

-- the row of a piece that fits
row_within : (m : RawMap) (cs : List Component) (p : Piece) (a : Awaited) → IsChecked m → PieceFits m p → IsRow m cs p a →
    HasRoom a.command
row_within m cs p a checked fit is =
    let row : row_of m p.stripe * m.unit ≤ p.stripe * m.unit = mul-le-mul_right m.unit (row_below m p.stripe) in
    let all : p.stripe * m.unit ≤ p.stripe * stripe_length m = mul-le-mul_left p.stripe (unit_low m checked) in
    let at : a.command.offset ≡ row_of m p.stripe * m.unit + p.column = is.offset in (
      omega (arith, row, all, at, fit.stripe, fit.columns, checked.short_unit),
      omega (arith, is.count, fit.columns, checked.short_unit),
    )

-- so it is of what a job awaits
awaited_room : (f : Kept) (j : Job) (a : Awaited) → IsChecked f.map → AllFit f.map (todo_of j.work) →
    IsAskedIn f j.work a → a.command.action ≡ action.Read → HasRoom a.command
unfolding todo_of
awaited_room f j a checked fit asked read = by_work j.work fit asked
  where
    by_work : (work : Work) → AllFit f.map (todo_of work) → IsAskedIn f work a → HasRoom a.command
    by_work Creates fit is = absurd (cc (sym is.action_is ∙ read))
    by_work Fences fit is = absurd (cc (sym is.action_is ∙ read))
    by_work (Fetches [] short) fit is = absurd is
    by_work (Fetches (p ∷ ps) short) fit is = row_within f.map f.components p a checked (fit p (inl refl)) is
    by_work (Stores [] short b) fit is = absurd is
    by_work (Stores (p ∷ ps) short b) fit is = absurd (cc (sym is.action_is ∙ read))
    by_work (Targets t) fit is = absurd (cc (sym is.action_is ∙ read))
    by_work (Gathers t []) fit is = absurd is
    by_work (Gathers t (p ∷ ps)) fit is = row_within f.map f.components p a checked (fit p (inl refl)) is
    by_work (Fills t []) fit is = absurd is
    by_work (Fills t (p ∷ ps)) fit is = absurd (cc (sym is.action_is ∙ read))
    by_work Lengths fit is = absurd (cc (sym is.action_is ∙ read))
    by_work (Checks [] tally) fit is = absurd is
    by_work (Checks (p ∷ ps) tally) fit is = row_within f.map f.components p a checked (fit p (inl refl)) is

-- ---- each moment

abbrev Fit : World → List Line → Type 0
Fit w h = AreOfText h → ReadsHavePlaces w

module _ (laws : PlaceLaws) (w : World) (h : List Line) (k : IsMoment w h) (m : Move)
    (d : due (plan_at k) w ≡ Some m.action) (before : Fit w h) (text : AreOfText (h ++ lines_in w m)) where
  abbrev v : World
  v = (move w m).world

  abbrev a : Act
  a = acts w m.chosen m.action

  behind : IsMoment v (h ++ lines_in w m)
  behind = next_moment w h k m d

  old_room : (e : ℕ) (x : Command) → HasCommanded w e x → x.action ≡ action.Read → HasRoom x
  old_room = before (text_front h (lines_in w m) text)

  -- a READ that a job of a file behind the move awaits
  awaited_there : (b : Awaited) → Awaits v.server.files b → b.command.action ≡ action.Read → HasRoom b.command
  awaited_there b waits read =
      by_job waits.0.job refl ((have_places laws v (h ++ lines_in w m) behind text).pieces waits.0 waits.1)
      (laws.asks v (h ++ lines_in w m) behind (laws.texts (h ++ lines_in w m) text) waits.0 waits.1) waits.2
    where
      by_job : (o : Option Job) → waits.0.job ≡ o → PiecesIn waits.0.kept.map o → FitsIn waits.0.kept o →
          In b (awaited_by o) → HasRoom b.command
      by_job None is fit asked here = absurd here
      by_job (Some j) is fit asked here =
          awaited_room waits.0.kept j b
          (in_all (λ (y : File). KeptFits v.server.next_object y.kept) v.server.files
          (laws.fits v (h ++ lines_in w m) behind text) waits.0 waits.1).map fit (asked.asked b here) read

  own_command : (x y : Command) → OfCommand x ≡ OfCommand y → x ≡ y
  own_command x y e = cc e

  sent_room : (e : ℕ) (x : Command) → messages_in a.world ≡ messages_in w →
      (In (to_drive e (OfCommand x)) (map (λ (p : Post). p.message) a.posts) → x.action ≡ action.Read → HasRoom x) →
      HasCommanded v e x → x.action ≡ action.Read → HasRoom x
  sent_room e x same anew sent read =
      elim (in_either (to_drive e (OfCommand x)) (messages_in a.world) (map (λ (p : Post). p.message) a.posts)
      (subst (In (to_drive e (OfCommand x))) (messages_sent a.world.network.messages a.posts) sent)) [
        | inl old ↦ old_room e x (subst (In (to_drive e (OfCommand x))) same old) read
        | inr new ↦ anew new read
      ]

  by_act : Acts w a.world a.told a.posts → ReadsHavePlaces v
  by_act (Others server messages told others) e x sent read =
      sent_room e x messages (λ now asked. absurd (none_anew a.posts e (OfCommand x) others now)) sent read
  by_act (Serves chosen input served server messages told posts) e x sent read = sent_room e x messages anew sent read
    where
      anew : In (to_drive e (OfCommand x)) (map (λ (p : Post). p.message) a.posts) → x.action ≡ action.Read → HasRoom x
      anew now asked =
          let r = sent_anew (step w.server chosen input).sends e (OfCommand x)
          (subst (λ (ps : List Post). In (to_drive e (OfCommand x)) (map (λ (p : Post). p.message) ps)) posts now) in
          let z = laws.sends w.server chosen input e r.0 r.1 in
          let same : x ≡ r.0 = own_command x r.0 r.2 in
          let reads_there : z.0.command.action ≡ action.Read =
          sym (ap (λ (c : Command). c.action) z.1.1) ∙ sym (ap (λ (c : Command). c.action) same) ∙ asked in
          let room : HasRoom z.0.command =
          awaited_there z.0 (subst (λ (s : Server). Awaits s.files z.0) (sym server) z.2) reads_there in
          let offset : x.offset ≡ z.0.command.offset =
          ap (λ (c : Command). c.offset) same ∙ ap (λ (c : Command). c.offset) z.1.1 in
          let count : x.length ≡ z.0.command.length =
          ap (λ (c : Command). c.length) same ∙ ap (λ (c : Command). c.length) z.1.1 in
          (subst (λ (n : ℕ). n < 2 ^ 64) (sym offset) room.0, subst (λ (n : ℕ). n < 2 ^ 64) (sym count) room.1)

pub each_read_has_its_place : PlaceLaws → EachReadHasItsPlace
each_read_has_its_place laws w h k scenario =
    always Fit (record {
      starts = λ text d x sent read. absurd sent;
      moves = λ u g j m d p text. by_act laws u g j m d p text (each_acts u m.chosen m.action);
    }) laws.more w h k scenario.text
