-- At each moment the server is down exactly if the lines say so.
use Rattle.std.proofs.Common.{◌≡◌, ℕ, Bool, true, false, true≢false, List, [], ◌∷◌, Option, Some, None, Result, Ok, Err, slice_get, refl, sym, ap, subst, ◌∙◌, if◌then◌else◌}
use Rattle.std.specs.Prelude.{is_some}
use Rattle.std.specs.List.{fold}
use Rattle.std.proofs.lemmas.List.Sums.{fold-append}
use Rattle.scenario_text.specs.declared.event.Event.{Event}
use Rattle.scenario_text.specs.declared.event.Event.TheVariants as event
use Rattle.scenario_text.specs.declared.event.Sender.TheVariants as sender
use Rattle.scenario_text.specs.declared.event.Machine.TheVariants as machine
use Rattle.scenario_text.specs.declared.line.Line.{Line}
use Rattle.scenario_text.specs.declared.line.Line.TheVariants as line
use Rattle.client_rules.specs.Messages.{Step as ClientStep}
use Rattle.client_rules.specs.Steps.{calls}
use Rattle.server_rules.specs.Files.{Step as ServerStep}
use Rattle.server_rules.specs.Making.{create_file}
use Rattle.world_history.specs.ClientNames.{CallOp, CallErr}
use Rattle.world_history.specs.ServerNames as server_rules
use Rattle.world_history.specs.declared.messages.Posted.{Posted}
use Rattle.world_history.specs.State.{World, DriveAt, ClientAt, at_number}
use Rattle.world_history.specs.Drives.{fallen, crashed, reopened}
use Rattle.world_history.specs.Moves.{Act, Action, Opens, Delivers, TimesOut, Pends, drops_found, by_client, op_of, called, calls_at, times_out, leaves, resends, raw_of, has_algorithm, made_file, makes, gives, by_drive, injects_at, injects, knows_drive, adds_drive, stops, begins, acts}
use Rattle.world_history.specs.Sending.{Move, move}
use Rattle.world_history.specs.Plans.{Rule, due_in, due_by}
use Rattle.world_history.specs.History.{OneEventMore}
use Rattle.world_history.proofs.ReadMessages.{never_opens}
use Rattle.history_law.specs.Moments.{plan_at, lines_in}
use Rattle.history_law.proofs.Moments.{always, no_event}
use Rattle.cause_law.specs.Lines.{is_event}
use Rattle.cause_law.specs.Down.{down_after_line, is_down, DownIsRead}
use Rattle.cause_law.proofs.Eventless.{NoEvent, first_plain, opens_plain, later_plain}
use Rattle.cause_law.proofs.Frames.{delivers_down, other_frame}

-- ---- lines among which no event begins

plain_line : (down : Bool) (l : Line) → is_event l ≡ false → down_after_line down l ≡ down
plain_line down (line.Event e) h = absurd (true≢false h)
plain_line down l h = refl

pub plain_lines : (down : Bool) (ls : List Line) → NoEvent ls → fold down_after_line down ls ≡ down
plain_lines down [] h = refl
plain_lines down (l ∷ ls) h =
    let p = first_plain l ls h in
    ap (λ (b : Bool). fold down_after_line b ls) (plain_line down l p.0) ∙ plain_lines down ls p.1

-- ---- what an event begins with

either_down : (w : World) (b : Bool) (x y : Act) → x.world.down ≡ w.down → y.world.down ≡ w.down
    → (if b then x else y).world.down ≡ w.down
either_down w true x y p q = p
either_down w false x y p q = q

client_down : (w : World) (does : ClientAt → Act) (a : Option ClientAt) → ((x : ClientAt) → (does x).world.down ≡ w.down)
    → (by_client w does a).world.down ≡ w.down
client_down w does None h = refl
client_down w does (Some a) h = h a

called_down : (w : World) (j : ℕ) (a : ClientAt) (op : CallOp) (r : Result ClientStep CallErr)
    → (called w j a op r).world.down ≡ w.down
called_down w j a op (Ok s) = refl
called_down w j a op (Err e) = refl

made_down : (w : World) (f : ℕ) (r : Result ServerStep server_rules.Refusal) → (made_file w f r).world.down ≡ w.down
made_down w f (Ok s) = refl
made_down w f (Err e) = refl

makes_down : (w : World) (chosen : List ℕ) (f : ℕ) (m : server_rules.RawMap) (tag : ℕ) (zoned : Bool)
    → (makes w chosen f m tag zoned).world.down ≡ w.down
unfolding makes
makes_down w chosen f m tag zoned =
    either_down w (has_algorithm m) _ _ (made_down w f (create_file w.server f m tag zoned chosen)) refl

drive_down : (w : World) (d : ℕ) (becomes : DriveAt → DriveAt) (a : Option DriveAt) → (by_drive w d becomes a).down ≡ w.down
drive_down w d becomes None = refl
drive_down w d becomes (Some a) = refl

injected_down : (w : World) (d : ℕ) (bytes : List ℕ) (a : Option DriveAt) → (injects_at w d bytes a).world.down ≡ w.down
injected_down w d bytes None = refl
injected_down w d bytes (Some a) = refl

dropped_down : (w : World) (n : ℕ) (p : Option Posted) → (drops_found w n p).down ≡ w.down
dropped_down w n None = refl
dropped_down w n (Some p) = refl

stopped_down : (w : World) (j : ℕ) (a : Option ClientAt) → (stops w j a).down ≡ w.down
stopped_down w j None = refl
stopped_down w j (Some a) = refl

added_down : (w : World) (d : ℕ) (key : List ℕ) (capacity : ℕ) (stored : Bool)
    → (adds_drive w d key capacity stored).world.down ≡ w.down
unfolding gives
added_down w d key capacity stored = either_down w (knows_drive w.server d) _ _ refl refl

begins_down : (w : World) (chosen : List ℕ) (e : Event) → (begins w chosen e).world.down ≡ down_after_line w.down (line.Event e)
unfolding begins calls_at times_out leaves resends gives injects
begins_down w chosen (event.Drive d key capacity) = added_down w d key capacity false
begins_down w chosen (event.Disk d key capacity) = added_down w d key capacity true
begins_down w chosen (event.Client c) = refl
begins_down w chosen (event.File f m tag) = makes_down w chosen f (raw_of m) tag false
begins_down w chosen (event.ZonedFile f m tag) = makes_down w chosen f (raw_of m) tag true
begins_down w chosen (event.Zone d zone) = refl
begins_down w chosen (event.Least d format) = drive_down w d _ (at_number w.drives d)
begins_down w chosen (event.Format format) = refl
begins_down w chosen (event.Do j x) =
    client_down w _ (at_number w.clients j) (λ a. called_down w j a (op_of x) (calls a.state (op_of x)))
begins_down w chosen (event.Call j x) =
    client_down w _ (at_number w.clients j) (λ a. called_down w j a (op_of x) (calls a.state (op_of x)))
begins_down w chosen (event.Deliver n) = delivers_down w chosen n
begins_down w chosen (event.DropMessage n) = dropped_down w n (slice_get w.network.messages n)
begins_down w chosen event.Settle = refl
begins_down w chosen (event.Resend (sender.Client j)) = client_down w _ (at_number w.clients j) (λ a. refl)
begins_down w chosen (event.Resend sender.Server) = refl
begins_down w chosen (event.Timeout j k) = client_down w _ (at_number w.clients j) (λ a. refl)
begins_down w chosen (event.Leave j) =
    client_down w _ (at_number w.clients j) (λ a. either_down w (is_some a.state.call) _ _ refl refl)
begins_down w chosen (event.Inject d bytes) = injected_down w d bytes (at_number w.drives d)
begins_down w chosen (event.Clock (machine.Drive d) time) = drive_down w d _ (at_number w.drives d)
begins_down w chosen (event.Clock machine.Server time) = refl
begins_down w chosen (event.Recall f) = refl
begins_down w chosen (event.Revoke f) = refl
begins_down w chosen (event.Rebuild f) = refl
begins_down w chosen (event.Audit f) = refl
begins_down w chosen (event.Declare d) = refl
begins_down w chosen (event.Stop j) = stopped_down w j (at_number w.clients j)
begins_down w chosen (event.Fail d) = drive_down w d fallen (at_number w.drives d)
begins_down w chosen (event.Crash (machine.Drive d)) = drive_down w d crashed (at_number w.drives d)
begins_down w chosen (event.Crash machine.Server) = refl
begins_down w chosen (event.Reopen (machine.Drive d)) = drive_down w d reopened (at_number w.drives d)
begins_down w chosen (event.Reopen machine.Server) = refl

-- ---- moves

later_down : (w : World) (r : Rule) (chosen : List ℕ) (a : Action) → due_by w r ≡ Some a
    → ((e : Event) → a ≡ Opens e → ⊥) → (acts w chosen a).world.down ≡ w.down
later_down w r chosen (Opens e) d none = absurd (none e refl)
later_down w r chosen (Delivers n) d none = delivers_down w chosen n
later_down w r chosen (TimesOut j k) d none = (other_frame 0 w chosen (TimesOut j k) tt).down
later_down w r chosen (Pends j) d none = (other_frame 0 w chosen (Pends j) tt).down

module _ (w : World) (m : Move) where
  opening_down : (e : Event) → m.action ≡ Opens e → fold down_after_line w.down (lines_in w m) ≡ (move w m).world.down
  opening_down e is =
      subst (λ (a : Action). fold down_after_line w.down (lines_in w (record { action = a; chosen = m.chosen }))
      ≡ (move w (record { action = a; chosen = m.chosen })).world.down) (sym is)
      (plain_lines (down_after_line w.down (line.Event e)) (move w (record { action = Opens e; chosen = m.chosen })).lines
      (opens_plain w m.chosen e)
      ∙ sym (begins_down w m.chosen e))

  rule_down : (r : Rule) → due_by w r ≡ Some m.action → fold down_after_line w.down (lines_in w m) ≡ (move w m).world.down
  rule_down r d =
      ap (λ (ls : List Line). fold down_after_line w.down ls) (no_event w r m.action (move w m).lines d)
      ∙ plain_lines w.down (move w m).lines (later_plain w r m.chosen m.action d)
      ∙ sym (later_down w r m.chosen m.action d (λ e is. never w r m.action e d is))
    where
      never : (v : World) (q : Rule) (a : Action) (e : Event) → due_by v q ≡ Some a → a ≡ Opens e → ⊥
      never v q a e x is = never_opens v q e (x ∙ ap (λ (y : Action). Some y) is)

  by_plan : (o : Option Event) (r : Rule) → due_in w r o ≡ Some m.action
      → fold down_after_line w.down (lines_in w m) ≡ (move w m).world.down
  by_plan (Some e) r d = let is : Opens e ≡ m.action = cc d in opening_down e (sym is)
  by_plan None r d = rule_down r d

pub down_is_read : OneEventMore → DownIsRead
down_is_read more w h k =
    always (λ w h. is_down h ≡ w.down) (record {
      starts = refl;
      moves = λ v g j m d x.
          fold-append down_after_line false g (lines_in v m)
          ∙ ap (λ (b : Bool). fold down_after_line b (lines_in v m)) x
          ∙ by_plan v m (plan_at j).opening (plan_at j).rule d;
    }) more w h k
