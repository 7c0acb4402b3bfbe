-- A WRITE that a drive performs has its marks: those of the entry for which its message was sent, in the stripe in which it
-- begins.
use Rattle.std.proofs.Common.{◌≡◌, ◌==◌, ◌&&◌, ◌+◌, ◌*◌, ◌/◌, ◌%◌, ℕ, suc, Bool, true, false, List, [], ◌∷◌, length, lt-ltb, map, find, position, slice_get, Option, Some, None, Ok, refl, sym, ap, subst, ◌∙◌, inl, inr, arith, if◌then◌else◌}
use Rattle.std.specs.Cmp.Lexicographic.{pointwise}
use Rattle.std.specs.Prelude.{nat_eq}
use Rattle.std.specs.List.{position_or_len}
use Rattle.std.proofs.lemmas.Bool.{cases_Bool, cases_lt, le-ltb}
use Rattle.std.proofs.lemmas.Option.{same_Some}
use Rattle.osd_lists.specs.declared.node.Node.{Node}
use Rattle.osd_lists.specs.declared.node.Node.TheVariants as node
use Rattle.data_map.specs.declared.check.RawMap.{RawMap}
use Rattle.data_map.specs.Check.{IsChecked}
use Rattle.data_map.specs.Inverse as inverse
use Rattle.data_map.specs.Striping.{replicas, group_width, groups}
use Rattle.osd_commands.specs.declared.actions.Action.{Action}
use Rattle.osd_drive.specs.Table.{is_write}
use Rattle.scenario_text.specs.declared.line.Verdict.{Verdict}
use Rattle.scenario_text.specs.declared.line.Verdict.TheVariants as verdict
use Rattle.scenario_text.specs.declared.line.Delivery.{Delivery}
use Rattle.scenario_text.specs.declared.line.Delivery.TheVariants as delivery
use Rattle.scenario_text.specs.declared.line.Line.TheVariants as line
use Rattle.server_rules.specs.Laws.{In}
use Rattle.server_rules.proofs.Members.{in_front, in_behind}
use Rattle.world_history.specs.declared.messages.Posted.{Posted}
use Rattle.world_history.specs.declared.messages.Sent.{Sent}
use Rattle.world_history.specs.Book.{ServerSeen}
use Rattle.world_history.specs.Calm as calm
use Rattle.world_history.specs.Calm.{Seen, Performed, marks_at, marks_by, marks_for, marks_sent, marks_read, performed_sent, performed_by, performed_first}
use Rattle.world_history.specs.Drives.{command_in, judges, verdict_on}
use Rattle.world_history.specs.Handed.{handed_to, drive_hears, drive_replies, quiet}
use Rattle.world_history.specs.Laws.{shown}
use Rattle.world_history.specs.ServerNames.{File, Server}
use Rattle.world_history.specs.Reading.{is_drive}
use Rattle.world_history.specs.Spelled.{spelled, party_of}
use Rattle.world_history.specs.State.{World, DriveAt, at_number}
use Rattle.world_history.specs.Stripes.{Mark, component_at, marks_of, stripe_of}
use Rattle.history_law.specs.Read.{server_of}
use Rattle.history_law.proofs.DriveLines.{shown_get}
use Rattle.plan_law.specs.FileLayout.{stripe_of_column, column_of_cell, position_in}
use Rattle.plan_law.proofs.StripeColumns.{columns_have_stripes}
use Rattle.fence_law.specs.State.{State, Event}
use Rattle.file_simulation.specs.DriveEvents as drive
use Rattle.headline_law.proofs.MarksDrivesHear.{IsPerforming}

-- ---- stripes

-- the stripe of an offset is the one that a byte there belongs to
same_stripe : (m : RawMap) (k z : ℕ) → stripe_of m k z ≡ inverse.stripe_at m (position_in m k) z
same_stripe m k z = by (m.width == 0)
  where
    by : (b : Bool) → (if b then z / m.unit else
        (z / m.unit / m.depth * groups m + k / replicas m / group_width m) * m.depth + z / m.unit % m.depth) ≡
        (if b then z / m.unit else
        z / m.unit / m.depth * (m.depth * groups m) + k / replicas m / group_width m * m.depth + z / m.unit % m.depth)
    by true = refl
    by false = omega arith

-- the column of a cell is of the stripe of each offset in the cell's unit
pub stripe_there : (m : RawMap) (k z o : ℕ) → IsChecked m → z / m.unit ≡ o / m.unit →
    stripe_of_column m (column_of_cell m k z) ≡ stripe_of m k o
stripe_there m k z o checked unit =
    (columns_have_stripes m checked).1 k z
    ∙ ap (inverse.stripe_in m (position_in m k / group_width m)) unit ∙ sym (same_stripe m k o)

-- ---- the marks of a file

pub in_marks : (fs : List File) (f : File) (d object offset i k : ℕ) → In f fs →
    component_at d object f.kept.components 0 ≡ Some k →
    In (record { file = f.kept.number; stripe = stripe_of f.kept.map k offset; entry = i }) (marks_of fs d object offset i)
unfolding marks_of
in_marks [] f d object offset i k there found = absurd there
in_marks (g ∷ fs) f d object offset i k (inl same) found =
    in_front _ (calm_marks g) (marks_of fs d object offset i)
    (subst
    (λ (x : File). In (record { file = f.kept.number; stripe = stripe_of f.kept.map k offset; entry = i }) (calm_marks x))
    same
    (subst (λ (o : Option ℕ). In (record { file = f.kept.number; stripe = stripe_of f.kept.map k offset; entry = i })
    (marked f o)) (sym found) (inl refl)))
  where
    marked : File → Option ℕ → List Mark
    marked x None = []
    marked x (Some j) = record { file = x.kept.number; stripe = stripe_of x.kept.map j offset; entry = i } ∷ []

    calm_marks : File → List Mark
    calm_marks x = marked x (component_at d object x.kept.components 0)
in_marks (g ∷ fs) f d object offset i k (inr later) found =
    in_behind _ _ (marks_of fs d object offset i) (in_marks fs f d object offset i k later found)

-- ---- what a drive performed

module _ (s : State) (w : World) (f : File) (p : Posted) (es : List Event) (x : IsPerforming s w f p.message es) (n : ℕ)
    (posted : slice_get w.network.messages n ≡ Some p) where
  -- the verdict is that it performs
  verdict_is : verdict_on x.state.state x.state.clock (Ok x.command) ≡ verdict.Perform
  verdict_is = by (verdict_on x.state.state x.state.clock (Ok x.command)) x.performed
    where
      by : (v : Verdict) → drive.is_performed v ≡ true → v ≡ verdict.Perform
      by verdict.Perform e = refl
      by v e = absurd (cc e)

  pub judged : (judges x.state (command_in p.message.body)).verdict ≡ verdict.Perform
  unfolding judges
  judged = ap (verdict_on x.state.state x.state.clock) x.reads ∙ verdict_is

  pub receipt : (v : World) (chosen : List ℕ) → at_number v.drives x.drive ≡ Some x.state →
      (handed_to v chosen p.message p.message.to).receipt ≡ delivery.Judged verdict.Perform
  receipt v chosen there =
      ap (λ (t : Node). (handed_to v chosen p.message t).receipt) x.receiver
      ∙ ap (λ (o : Option DriveAt). (drive_hears v x.drive p.message o).receipt) there
      ∙ ap (λ (b : Bool). (if b then quiet v delivery.Deaf else
      drive_replies v x.drive p.message.from (judges x.state (command_in p.message.body))).receipt) x.hears
      ∙ ap delivery.Judged judged

  -- the marks of its entry
  module _ (b : Seen) (here : b.server ≡ server_of w) (server : b.moment.server ≡ w.server) (i : ℕ)
      (logged : at_number b.moment.log.writes n ≡ Some i) where
    abbrev it : Performed
    it = record { drive = x.drive; message = n }

    sent_is : slice_get b.server.sent n ≡ Some (shown p)
    sent_is = ap (λ (y : ServerSeen). slice_get y.sent n) here ∙ shown_get w.network.messages n (Some p) posted

    pub marks_are : marks_by b.moment b.server.sent (Some it) ≡
        marks_of w.server.files x.drive x.command.object x.command.offset i
    marks_are =
        ap (marks_for b.moment b.server.sent it) logged
        ∙ ap (marks_sent b.moment.server.files x.drive i) sent_is
        ∙ ap (marks_read b.moment.server.files x.drive i) x.reads
        ∙ ap (λ (a : Action). if is_write a then
        marks_of b.moment.server.files x.drive x.command.object x.command.offset i else []) x.action
        ∙ ap (λ (y : Server). marks_of y.files x.drive x.command.object x.command.offset i) server

    -- where the line tells of its delivery
    pub delivered_marks : (v : World) (chosen : List ℕ) → at_number v.drives x.drive ≡ Some x.state →
        marks_at b (line.Delivered n (handed_to v chosen p.message p.message.to).receipt) ≡
        marks_of w.server.files x.drive x.command.object x.command.offset i
    delivered_marks v chosen there =
        ap (λ (r : Delivery). marks_at b (line.Delivered n r)) (receipt v chosen there)
        ∙ ap (λ (o : Option Sent). marks_by b.moment b.server.sent (performed_sent n o)) sent_is
        ∙ ap (λ (t : Node). marks_by b.moment b.server.sent (performed_by n (party_of t))) x.receiver
        ∙ marks_are

    -- or of the judgement of injected bytes, for which it stands
    pub injected_marks : (v : Verdict) → v ≡ verdict.Perform →
        position (calm.is_sent_as x.drive b.injected) b.server.sent ≡ Some n →
        marks_at b (line.Judged x.drive v) ≡ marks_of w.server.files x.drive x.command.object x.command.offset i
    injected_marks v is first =
        ap (λ (r : Verdict). marks_at b (line.Judged x.drive r)) is
        ∙ ap (λ (o : Option ℕ). marks_by b.moment b.server.sent (performed_first x.drive o)) first
        ∙ marks_are

-- ---- injected bytes

-- the first message with these bytes, and its place
pub record IsFirst (w : World) (d : ℕ) (bytes : List ℕ) (p : Posted) : Type 0 where
  pub number : ℕ
  pub there : slice_get w.network.messages number ≡ Some p
  pub first : position (calm.is_sent_as d bytes) (map shown w.network.messages) ≡ Some number

position_here : {A : Type 0} (test : A → Bool) (x : A) (xs : List A) → test x ≡ true → position test (x ∷ xs) ≡ Some 0
position_here test x xs here = rw here (rw (lt-ltb 0 (suc (length xs)) (omega arith)) refl)

position_past : {A : Type 0} (test : A → Bool) (x : A) (xs : List A) (n : ℕ) → test x ≡ false → position test xs ≡ Some n →
    position test (x ∷ xs) ≡ Some (suc n)
position_past test x xs n past later = elim (cases_lt (position_or_len test xs) (length xs)) [
  | inl less ↦
      let same : position_or_len test xs ≡ n = same_Some _ n (rw (lt-ltb (position_or_len test xs) (length xs) less) at later) in
      let one : 1 + position_or_len test xs ≡ suc n = omega (arith, same) in
      rw past (rw (lt-ltb (1 + position_or_len test xs) (suc (length xs)) (omega (arith, less))) (ap Some one))
  | inr from ↦ absurd (cc (rw (le-ltb (position_or_len test xs) (length xs) from) at later))
]

same_test : (d : ℕ) (bytes : List ℕ) (y : Posted) → calm.is_sent_as d bytes (shown y) ≡ drive.is_sent_as d bytes y
same_test d bytes y = by y.message.to
  where
    by : (t : Node) → (is_drive d (party_of t) && pointwise nat_eq (spelled y.message.body) bytes) ≡
        (drive.is_for d t && pointwise nat_eq (spelled y.message.body) bytes)
    by (node.Drive k) = refl
    by (node.Client c) = refl
    by node.Server = refl

first_in : (d : ℕ) (bytes : List ℕ) (ps : List Posted) (p : Posted) → find (drive.is_sent_as d bytes) ps ≡ Some p →
    (n : ℕ) × (slice_get ps n ≡ Some p) × (position (calm.is_sent_as d bytes) (map shown ps) ≡ Some n)
first_in d bytes [] p is = absurd (cc is)
first_in d bytes (y ∷ ps) p is = elim (cases_Bool (drive.is_sent_as d bytes y)) [
  | inl t ↦ (0, rw t at is, position_here (calm.is_sent_as d bytes) (shown y) (map shown ps) (same_test d bytes y ∙ t))
  | inr z ↦
      let r = first_in d bytes ps p (rw z at is) in (
        suc r.0,
        r.1,
        position_past (calm.is_sent_as d bytes) (shown y) (map shown ps) r.0 (same_test d bytes y ∙ z) r.2,
      )
]

-- the first message with these bytes, which is for the drive
pub first_sent : (w : World) (d : ℕ) (bytes : List ℕ) (p : Posted) →
    find (drive.is_sent_as d bytes) w.network.messages ≡ Some p → IsFirst w d bytes p
first_sent w d bytes p is =
    let r = first_in d bytes w.network.messages p is in record { number = r.0; there = r.1; first = r.2 }
