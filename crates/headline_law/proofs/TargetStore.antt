-- The object of a rebuild's target, behind a whole move, has what the rebuild has made so far: the server makes it with zeros,
-- and writes words of the log's bytes within the first piece.
-- Towards `TargetsFollow` (`specs/Parts.antt`).
use Rattle.std.proofs.Common.{◌≡◌, ◌⊎◌, ℕ, ◌+◌, ◌-◌, ◌<◌, ◌≤◌, Bool, true, false, List, [], ◌∷◌, length, get_or, Option, Some, None, refl, sym, ap, subst, ◌∙◌, arith, inl, inr}
use Rattle.std.proofs.lemmas.Bool.{cases_lt, cases_Bool, true≢false}
use Rattle.std.proofs.lemmas.List.{append-nil}
use Rattle.std.proofs.lemmas.Option.{same_Some}
use Rattle.data_map.specs.declared.check.RawMap.{RawMap}
use Rattle.data_map.specs.Check.{IsChecked}
use Rattle.data_map.specs.Striping.{offset_of}
use Rattle.osd_commands.specs.declared.actions.Action.TheVariants as action
use Rattle.osd_commands.specs.declared.commands.Command.{Command}
use Rattle.osd_objects.specs.declared.object.StoredObject.{StoredObject}
use Rattle.osd_objects.specs.declared.lanes.LaneEntry.{LaneEntry}
use Rattle.osd_objects.specs.Objects.{created, after_write}
use Rattle.osd_drive.specs.Effects.{lane_for}
use Rattle.scenario_text.specs.declared.line.Line.{Line}
use Rattle.server_rules.specs.Files.{file_at}
use Rattle.server_rules.specs.Laws.{In}
use Rattle.server_rules.specs.Making.{new_server}
use Rattle.server_rules.specs.Maps.{group_with, pieces_in}
use Rattle.server_rules.specs.Messages.{awaited_by, counters_have_room}
use Rattle.server_rules.specs.History.{state_after}
use Rattle.world_history.specs.Guesses.{unguessed}
use Rattle.world_history.specs.ServerNames.{Server, File, Awaited, Piece, Target, Job, Work, Creates, Fences, Fetches, Stores, Targets, Gathers, Fills, Lengths, Checks}
use Rattle.world_history.specs.Sending.{Move, move}
use Rattle.world_history.specs.State.{World, DriveAt, at_number}
use Rattle.history_law.specs.BookMoments.{IsMoment, lines_in}
use Rattle.history_law.proofs.Coming.{clean_front}
use Rattle.history_law.specs.Reaching.{reached_in}
use Rattle.component_law.specs.Objects.{target_in, target_of}
use Rattle.component_law.specs.Sent.{IsSentByRun}
use Rattle.component_law.specs.Standing.{IsCreating, StandsBy}
use Rattle.fence_law.specs.State.{State}
use Rattle.fence_law.specs.Law.{byte_before}
use Rattle.file_simulation.specs.Components.{object_on, has_failed}
use Rattle.file_simulation.specs.Jobs.{AreWords, IsInHead, IsInPiece, IsFilled, IsTarget, stripe_for, word_now}
use Rattle.file_simulation.specs.Messages.{HasCommanded}
use Rattle.relation_law.specs.Awaiting.{IsAskedIn}
use Rattle.relation_law.specs.ComponentsFollow.{EachWriteHasItsPlace}
use Rattle.relation_law.specs.DriveHearing.{IsOfServer}
use Rattle.relation_law.specs.Growing.{Grows}
use Rattle.relation_law.specs.Steps.{FollowsWhole}
use Rattle.relation_law.proofs.ComponentsMoved as moved
use Rattle.relation_law.proofs.ComponentsMoved.{MovedLaws}
use Rattle.relation_law.proofs.DriveObjects.{written_at, written_outside}
use Rattle.relation_law.proofs.Growing.{drives_grow}
use Rattle.relation_law.proofs.OwnedBefore.{run}
use Rattle.headline_law.specs.TargetLaws.{todo_in, EachTargetIsWellMade}
use Rattle.headline_law.specs.TargetDrives.{HasToDo, TargetObjectsStay}
use Rattle.headline_law.proofs.TargetBefore.{TargetLaws, scenario, in_before, laid, well, well_asked, fit_job}
use Rattle.headline_law.proofs.TargetMade.{there_if, reached_now, stands_now}
use Rattle.headline_law.proofs.TargetPieces.{IsPlanned, planned, cell_there, all_planned}
use Rattle.headline_law.proofs.TargetStoreTurns.{Turned, Same, Gone, Makes, Writes, Sets, turned}

-- what is known of the world
pub record StoreLaws : Type 0 where
  pub target : TargetLaws
  pub moved : MovedLaws
  pub well : EachTargetIsWellMade
  pub places : EachWriteHasItsPlace

-- ---- an object

-- one that is made is of zeros
filled_created : (s : State) (f : File) (t : Target) (tag : ℕ) (label : List ℕ) (lane : LaneEntry) → tag ≡ f.kept.tag →
    IsChecked f.kept.map → t.component < f.kept.map.comps →
    IsFilled s f t (pieces_in f.kept.map (group_with f.kept.map t.component) f.kept.high) (created tag label lane)
filled_created s f t tag label lane same checked low = record {
  tag = same;
  done = λ z below done.
      let r = all_planned f.kept.map t.component z f.kept.high checked low below in absurd (done r.0 r.1 r.2);
  others = λ z. inr refl;
  above = λ z high. refl;
}

-- a byte behind a WRITE
abbrev byte_behind : StoredObject → Command → LaneEntry → (z : ℕ) → ℕ
byte_behind b c lane z = get_or (after_write c.offset c.payload lane b).content.bytes z 0

-- one to which words are written below `high`
filled_write : (s : State) (f : File) (t : Target) (todo : List Piece) (b : StoredObject) (c : Command) (lane : LaneEntry) →
    IsFilled s f t todo b → AreWords s (byte_before s s.count) t.component c.offset c.payload →
    ((z : ℕ) → c.offset ≤ z → z < c.offset + length c.payload → stripe_for f.kept.map t.component z < f.kept.high) →
    IsFilled s f t todo (after_write c.offset c.payload lane b)
filled_write s f t todo b c lane filled words below = record {
  tag = filled.tag;
  done = λ z low done. elim (each z) [ inl word ↦ word.0 | inr same ↦ same ∙ filled.done z low done ];
  others = λ z. elim (each z) [
    | inl word ↦ inl word.0
    | inr same ↦ elim (filled.others z) [ inl word ↦ inl (same ∙ word) | inr zero ↦ inr (same ∙ zero) ]
  ];
  above = λ z high. elim (each z) [
    | inl word ↦ absurd (omega (arith, word.1, high))
    | inr same ↦ same ∙ filled.above z high
  ];
}
  where
    inside : (z : ℕ) → c.offset ≤ z → z < c.offset + length c.payload → byte_behind b c lane z ≡ word_now s t.component z
    inside z low high =
        let there : c.offset + (z - c.offset) ≡ z = omega (arith, low) in
        written_at b.content c.offset c.payload z low high ∙ words (z - c.offset) (omega (arith, low, high))
        ∙ ap (word_now s t.component) there

    each : (z : ℕ) → ((byte_behind b c lane z ≡ word_now s t.component z) × (stripe_for f.kept.map t.component z < f.kept.high))
        ⊎ (byte_behind b c lane z ≡ get_or b.content.bytes z 0)
    each z = elim (cases_lt z c.offset) [
      | inl ahead ↦ inr (written_outside b.content c.offset c.payload z (λ low high. omega (arith, ahead, low)))
      | inr low ↦ elim (cases_lt z (c.offset + length c.payload)) [
        | inl high ↦ inl (inside z low high, below z low high)
        | inr past ↦ inr (written_outside b.content c.offset c.payload z (λ from high. omega (arith, past, high)))
      ]
    ]

-- what lies in a planned piece is below `high`
below_piece : (m : RawMap) (p : Piece) (k high : ℕ) (c : Command) → IsChecked m → IsPlanned m (group_with m k) high p →
    IsInPiece m p k c → (z : ℕ) → c.offset ≤ z → z < c.offset + length c.payload → stripe_for m k z < high
below_piece m p k high c checked is here z low past =
    let j : ℕ = z - offset_of m p.stripe p.column in
    let first : offset_of m p.stripe p.column ≤ z = omega (arith, here.low, low) in
    let inside : j < p.count = omega (arith, here.high, past, first) in
    let there : offset_of m p.stripe (p.column + j) ≡ z = omega (arith, first) in
    let stripe : stripe_for m k (offset_of m p.stripe (p.column + j)) ≡ p.stripe =
    cell_there m p k j checked here.group is.within inside in
    subst (λ (y : ℕ). stripe_for m k y < high) there (omega (arith, stripe, is.low))

-- a drive that hasn't failed hadn't
lived_before : (a b : Option DriveAt) → Grows a b → has_failed b ≡ false → has_failed a ≡ false
lived_before None b grows lives = refl
lived_before (Some a) None grows lives = absurd grows
lived_before (Some a) (Some b) grows lives = elim (cases_Bool a.failed) [
  | inl failed ↦ absurd (true≢false (sym (grows.failed failed) ∙ lives))
  | inr lived ↦ lived
]

-- ---- a move

module _ (laws : StoreLaws) (w : World) (h : List Line) (m : Move) (f g : File) (s : State) (k : FollowsWhole w h m f g s)
    (j : Job) (t : Target) (todo : List Piece) (runs : f.job ≡ Some j) (has : HasToDo f.kept t todo j.work)
    (target : IsTarget s w f t todo) (lives : has_failed (at_number (move w m).world.drives t.drive) ≡ false) where
  abbrev v : World
  v = (move w m).world

  abbrev before : IsMoment w h
  before = k.follows.moment

  abbrev all_pieces : List Piece
  all_pieces = pieces_in f.kept.map (group_with f.kept.map t.component) f.kept.high

  lived : has_failed (at_number w.drives t.drive) ≡ false
  lived = lived_before _ _ (drives_grow w h before m k.follows.is_due t.drive) lives

  clean : unguessed h ≡ true
  clean = clean_front h (lines_in w m) (moved.clean laws.moved w h m f g s k)

  here : In f w.server.files
  here = in_before laws.target w h m f g s k.follows

  aim_in : (work : Work) → HasToDo f.kept t todo work → target_in work ≡ Some t
  aim_in Creates x = absurd x
  aim_in Fences x = absurd x
  aim_in (Fetches ps short) x = absurd x
  aim_in (Stores ps short b) x = absurd x
  aim_in (Targets u) x = ap Some x.0
  aim_in (Gathers u ps) x = ap Some x.0
  aim_in (Fills u ps) x = ap Some x.0
  aim_in Lengths x = absurd x
  aim_in (Checks ps tally) x = absurd x

  aim : target_in j.work ≡ Some t
  aim = aim_in j.work has

  aimed : target_of f.job ≡ Some t
  aimed = ap target_of runs ∙ aim

  low : t.component < f.kept.map.comps
  low = (well laws.target w h m f g s k.follows laws.well).inside t aimed

  -- what is to be done was planned
  todo_planned : (p : Piece) → In p todo → In p all_pieces
  todo_planned p i = by j.work refl has
    where
      asked : (work : Work) → j.work ≡ work → In p (todo_in work) → In p all_pieces
      asked work is x =
          (well_asked laws.target w h m f g s k.follows).planned j t p runs aim
          (subst (λ (y : Work). In p (todo_in y)) (sym is) x)

      by : (work : Work) → j.work ≡ work → HasToDo f.kept t todo work → In p all_pieces
      by Creates is x = absurd x
      by Fences is x = absurd x
      by (Fetches ps short) is x = absurd x
      by (Stores ps short b) is x = absurd x
      by (Targets u) is x = subst (In p) x.1 i
      by (Gathers u ps) is x = asked (Gathers u ps) is (subst (In p) x.1 i)
      by (Fills u ps) is x = asked (Fills u ps) is (subst (In p) x.1 i)
      by Lengths is x = absurd x
      by (Checks ps tally) is x = absurd x

  -- ---- a WRITE

  below : (ps : List Piece) → ((p : Piece) → In p ps → In p all_pieces) → (c : Command) →
      IsInHead f.kept.map ps t.component c → (z : ℕ) → c.offset ≤ z → z < c.offset + length c.payload →
      stripe_for f.kept.map t.component z < f.kept.high
  below [] all c head = absurd head
  below (p ∷ ps) all c head =
      below_piece f.kept.map p t.component f.kept.high c (laid laws.target w h m f g s k.follows).checked
      (planned f.kept.map (group_with f.kept.map t.component) f.kept.high p (all p (inl refl))) head

  by_write : (x : Command) (of : IsOfServer w t.drive x) → of.command.object ≡ t.object → of.command.action ≡ action.Write →
      (b : StoredObject) → IsFilled s f t todo b → (lane : LaneEntry) →
      IsInHead f.kept.map todo t.component of.command →
      IsFilled s f t todo (after_write of.command.offset of.command.payload lane b)
  by_write x of own write b filled lane head =
      filled_write s f t todo b of.command lane filled
      (target.words of.command (record { sent = of.sent; write = write; object = own }))
      (below todo todo_planned of.command head)

  -- ---- a CREATE

  stands : StandsBy w.down (reached_in h) f
  stands = stands_now laws.moved w h before (scenario laws.target w h m f g s k.follows) clean f here

  -- while the object isn't there, its CREATE is awaited
  creating : object_on (at_number w.drives t.drive) t.object ≡ None →
      IsCreating (awaited_by f.job) t.drive t.object f.kept.tag
  creating none = by w.down stands
    where
      by : (down : Bool) → StandsBy down (reached_in h) f → IsCreating (awaited_by f.job) t.drive t.object f.kept.tag
      by true left = absurd (cc (sym left.quiet ∙ runs))
      by false up = elim (up.target t aimed) [
        | inl awaited ↦ awaited
        | inr reached ↦
            let r =
            there_if (at_number w.drives t.drive) t.object f.kept.tag lived
            (reached_now laws.moved w h before (scenario laws.target w h m f g s k.follows) clean f here t aimed reached) in
            absurd (cc (sym none ∙ r.1))
      ]

  -- then all is to be done yet
  all_todo : (a : Awaited) → In a (awaited_by f.job) → a.command.action ≡ action.Create → todo ≡ all_pieces
  all_todo a waits create =
      by j.work has ((fit_job laws.target w h m f g s k.follows j runs).asked a
      (subst (λ (q : Option Job). In a (awaited_by q)) runs waits))
    where
      by : (work : Work) → HasToDo f.kept t todo work → IsAskedIn f.kept work a → todo ≡ all_pieces
      by Creates x asked = absurd x
      by Fences x asked = absurd x
      by (Fetches ps short) x asked = absurd x
      by (Stores ps short b) x asked = absurd x
      by (Targets u) x asked = x.1
      by (Gathers u []) x asked = absurd asked
      by (Gathers u (p ∷ ps)) x asked = absurd (cc (sym create ∙ asked.action_is))
      by (Fills u []) x asked = absurd asked
      by (Fills u (p ∷ ps)) x asked = absurd (cc (sym create ∙ asked.action_is))
      by Lengths x asked = absurd x
      by (Checks ps tally) x asked = absurd x

  ran : IsSentByRun w
  ran = run laws.target.join.world w h before (scenario laws.target w h m f g s k.follows)

  in_run : In f (state_after (new_server []) ran.acts).files
  in_run = subst (λ (q : Server). In f q.files) ran.server here

  -- what was sent to the target isn't past its file
  behind_file : (x : Command) → HasCommanded w t.drive x → x.object ≡ t.object → x.capability.tag ≤ f.kept.tag
  behind_file x sent object =
      let all = laws.moved.made.ahead ran.acts ran.named in
      let each = all.1 ran.acts [] (sym (append-nil ran.acts)) in
      let mine = each.1 t.drive x (ran.sends t.drive x sent) in
      let number : all.0 x.object ≡ f.kept.number = ap all.0 object ∙ ((each.0 f in_run).target t aimed).1 in
      let same : mine.file ≡ f =
      same_Some mine.file f (sym mine.there
      ∙ ap (λ (n : ℕ). file_at (state_after (new_server []) ran.acts).files n) number
      ∙ ap (λ (q : Server). file_at q.files f.kept.number) (sym ran.server) ∙ k.follows.there) in
      subst (λ (y : File). x.capability.tag ≤ y.kept.tag) same mine.behind.0

  -- it is under the file's tag, and all is to be done yet
  by_create : (x : Command) → HasCommanded w t.drive x → x.object ≡ t.object →
      object_on (at_number w.drives t.drive) t.object ≡ None → (x.capability.tag ≡ f.kept.tag) × (todo ≡ all_pieces)
  by_create x sent object none =
      let c = creating none in
      let room : counters_have_room (state_after (new_server []) ran.acts) ≡ true =
      ap counters_have_room (sym ran.server)
      ∙ laws.moved.room w h before (scenario laws.target w h m f g s k.follows).text
      (scenario laws.target w h m f g s k.follows).few in
      let from : f.kept.tag ≤ x.capability.tag =
      laws.moved.made.first ran.acts ran.turns room f in_run c.0 c.1 c.2.action t.drive x (ran.sends t.drive x sent)
      (object ∙ sym c.4) in
      let to = behind_file x sent object in
      (omega (arith, from, to), all_todo c.0 c.1 c.2.action)

  -- ---- each move

  by_turn : Turned w v t.drive t.object → (o : StoredObject) → object_on (at_number v.drives t.drive) t.object ≡ Some o →
      IsFilled s f t todo o
  by_turn (Same same) o is = target.object lived o (sym same ∙ is)
  by_turn (Gone none) o is = absurd (cc (sym none ∙ is))
  by_turn (Makes x of own create none made) o is =
      let r = by_create of.command of.sent own none in
      subst (IsFilled s f t todo) (same_Some _ o (sym made ∙ is))
      (subst (λ (ps : List Piece). IsFilled s f t ps (created of.command.capability.tag x.payload (lane_for x 0))) (sym r.1)
      (filled_created s f t of.command.capability.tag x.payload (lane_for x 0) r.0
      (laid laws.target w h m f g s k.follows).checked low))
  by_turn (Writes x of own write b was made unspent) o is =
      subst (IsFilled s f t todo) (same_Some _ o (sym made ∙ is))
      (by_write x of own write b (target.object lived b was) (lane_for x 0)
      (target.head of.command (record { sent = of.sent; write = write; object = own }) unspent))
  by_turn (Sets x of own sets b c was made n lanes) o is =
      absurd (elim ((well_asked laws.target w h m f g s k.follows).only t of.command aimed of.sent own) [
        | inl create ↦ elim sets [ inl tag ↦ cc (sym create ∙ tag) | inr attr ↦ cc (sym create ∙ attr) ]
        | inr write ↦ elim sets [ inl tag ↦ cc (sym write ∙ tag) | inr attr ↦ cc (sym write ∙ attr) ]
      ])

  pub stays : (o : StoredObject) → object_on (at_number v.drives t.drive) t.object ≡ Some o → IsFilled s f t todo o
  stays =
      by_turn (turned laws.moved laws.places w h before m k.follows.is_due (moved.later laws.moved w h m f g s k)
      (moved.clean laws.moved w h m f g s k) t.drive t.object
      ((well laws.target w h m f g s k.follows laws.well).alone t aimed).sent)

pub target_objects_stay : StoreLaws → TargetObjectsStay
target_objects_stay laws w h m f g s k j t todo runs has target lives o is =
    stays laws w h m f g s k j t todo runs has target lives o is
