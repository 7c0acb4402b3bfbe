-- The lines of an event's first move.
use Rattle.std.proofs.Common.{◌≡◌, ℕ, [], List, Bool, true, false, true≢false, Option, Some, None, Result, Ok, Err, is_some, length, slice_get, nat_lt, arith, refl, sym, if◌then◌else◌}
use Rattle.std.proofs.lemmas.Bool.Decides.{nat_tests}
use Rattle.osd_lists.proofs.Slices.{some_at}
use Rattle.server_rules.specs.Files.{Step as ServerStep}
use Rattle.server_rules.specs.History.{step as server_step}
use Rattle.server_rules.specs.History as server_input
use Rattle.server_rules.specs.Making.{create_file}
use Rattle.client_rules.specs.History as client_input
use Rattle.client_rules.specs.Messages.{Step as ClientStep}
use Rattle.client_rules.specs.Steps.{calls}
use Rattle.scenario_text.specs.declared.event.Event.{Event}
use Rattle.scenario_text.specs.declared.event.Event.TheVariants as event
use Rattle.scenario_text.specs.declared.event.Sender.TheVariants as sender
use Rattle.scenario_text.specs.declared.event.Machine.TheVariants as machine
use Rattle.scenario_text.specs.declared.line.Line.TheVariants as line
use Rattle.world_history.specs.ServerNames as server_rules
use Rattle.world_history.specs.ClientNames as client_rules
use Rattle.world_history.specs.declared.err.WorldErr.{WorldErr}
use Rattle.world_history.specs.declared.messages.Posted.{Posted}
use Rattle.world_history.specs.State.{DriveAt, ClientAt, World, at_number, with_down}
use Rattle.world_history.specs.Moves.{Act, by_client, called, made_file, injects_at, delivers, op_of, raw_of, calls_at, leaves, resends, makes, gives, injects, begins, known_drive, has_algorithm, knows_drive, adds_drive}
use Rattle.world_history.specs.Sending.{sends_all}
use Rattle.world_history.specs.Refusals.{unless_stopped, unless_deaf, of_message, refusal}
use Rattle.component_law.specs.Opening.{is_opening}
use Rattle.component_law.proofs.Shapes.{Bare, IsHeaded, bare_notes, bare_ended, bare_goes, sent_headed, found_headed, timed_headed}

-- ---- an event behind which a further step begins

has_client : (o : Option ClientAt) → unless_stopped o ≡ None → (a : ClientAt) × (o ≡ Some a)
has_client None e = absurd (cc e)
has_client (Some a) e = (a, refl)

has_drive : (o : Option DriveAt) → unless_deaf o ≡ None → (a : DriveAt) × (o ≡ Some a)
has_drive None e = absurd (cc e)
has_drive (Some a) e = (a, refl)

none_if : (b : Bool) (x : WorldErr) → (if b then None else Some x) ≡ None → b ≡ true
none_if true x e = refl
none_if false x e = absurd (cc e)

has_message : (w : World) (n : ℕ) → of_message w n ≡ None → (p : Posted) × (slice_get w.network.messages n ≡ Some p)
has_message w n e =
    let test : nat_lt n (length w.network.messages) ≡ true = none_if _ _ e in
    some_at w.network.messages n (grind (arith, nat_tests, test))

delivers_headed : (w : World) (chosen : List ℕ) (n : ℕ) (p : Posted) → slice_get w.network.messages n ≡ Some p
    → IsHeaded (sends_all (delivers w chosen n)).lines
unfolding delivers
delivers_headed w chosen n p e = rw e (found_headed w chosen n p)

injected_headed : (w : World) (d : ℕ) (bytes : List ℕ) (a : DriveAt) → at_number w.drives d ≡ Some a
    → IsHeaded (sends_all (injects w d bytes)).lines
unfolding injects
injected_headed w d bytes a e = rw e (sent_headed (injects_at w d bytes (Some a)) (line.Judged d _) [] refl refl tt refl)

pub opens_headed : (w : World) (chosen : List ℕ) (e : Event) → is_opening e ≡ true → refusal w e ≡ None
    → IsHeaded (sends_all (begins w chosen e)).lines
unfolding begins refusal
opens_headed w chosen (event.Deliver n) o r =
    let p : (x : Posted) × (slice_get w.network.messages n ≡ Some x) = has_message w n r in
    delivers_headed w chosen n p.0 p.1
opens_headed w chosen (event.Timeout c k) o r =
    let a : (x : ClientAt) × (at_number w.clients c ≡ Some x) = has_client (at_number w.clients c) r in
    timed_headed w c k a.0 a.1
opens_headed w chosen (event.Inject d bytes) o r =
    let a : (x : DriveAt) × (at_number w.drives d ≡ Some x) = has_drive (at_number w.drives d) r in
    injected_headed w d bytes a.0 a.1
opens_headed w chosen e o r = absurd (true≢false (sym o))

-- ---- any other

either_bare : (b : Bool) (x y : Act) → Bare x.told → Bare y.told → Bare (if b then x else y).told
either_bare true x y p q = p
either_bare false x y p q = q

by_bare : (w : World) (does : ClientAt → Act) (a : Option ClientAt) → ((x : ClientAt) → Bare (does x).told)
    → Bare (by_client w does a).told
by_bare w does None h = tt
by_bare w does (Some a) h = h a

called_bare : (w : World) (c : ℕ) (a : ClientAt) (op : client_rules.CallOp)
    (r : Result ClientStep client_rules.CallErr) → Bare (called w c a op r).told
called_bare w c a op (Ok s) = bare_ended c (Some op) s.outcome
called_bare w c a op (Err e) = (refl, tt)

made_bare : (w : World) (f : ℕ) (r : Result ServerStep server_rules.Refusal) → Bare (made_file w f r).told
made_bare w f (Ok s) = bare_notes s.notes
made_bare w f (Err e) = (refl, tt)

call_bare : (w : World) (c : ℕ) (op : client_rules.CallOp) → Bare (calls_at w c op).told
unfolding calls_at
call_bare w c op = by_bare w _ (at_number w.clients c) (λ a. called_bare w c a op (calls a.state op))

leave_bare : (w : World) (c : ℕ) → Bare (leaves w c).told
unfolding leaves
leave_bare w c = by_bare w _ (at_number w.clients c) (λ a.
    either_bare (is_some a.state.call) _ _ (refl, tt) (bare_goes w c a client_input.Leaves))

resend_bare : (w : World) (c : ℕ) → Bare (resends w c).told
unfolding resends
resend_bare w c = by_bare w _ (at_number w.clients c) (λ a. bare_goes w c a client_input.Resends)

gives_bare : (w : World) (chosen : List ℕ) (i : server_input.Input) → Bare (gives w chosen i).told
unfolding gives
gives_bare w chosen i = bare_notes (server_step w.server chosen i).notes

makes_bare : (w : World) (chosen : List ℕ) (f : ℕ) (m : server_rules.RawMap) (tag : ℕ) (zoned : Bool)
    → Bare (makes w chosen f m tag zoned).told
unfolding makes
makes_bare w chosen f m tag zoned =
    either_bare (has_algorithm m) _ _ (made_bare w f (create_file w.server f m tag zoned chosen)) (refl, tt)

adds_bare : (w : World) (d : ℕ) (key : List ℕ) (capacity : ℕ) (stored : Bool)
    → Bare (adds_drive w d key capacity stored).told
unfolding gives
adds_bare w d key capacity stored =
    either_bare (knows_drive w.server d) _ _ tt
    (bare_notes (server_step w.server [] (server_input.Adds (known_drive d key capacity))).notes)

pub begins_bare : (w : World) (chosen : List ℕ) (e : Event) → is_opening e ≡ false → Bare (begins w chosen e).told
unfolding begins
begins_bare w chosen (event.Drive d key capacity) o = adds_bare w d key capacity false
begins_bare w chosen (event.Disk d key capacity) o = adds_bare w d key capacity true
begins_bare w chosen (event.File f m tag) o = makes_bare w chosen f (raw_of m) tag false
begins_bare w chosen (event.ZonedFile f m tag) o = makes_bare w chosen f (raw_of m) tag true
begins_bare w chosen (event.Zone d zone) o = gives_bare w chosen (server_input.Zones d zone)
begins_bare w chosen (event.Format format) o = gives_bare w chosen (server_input.Formats format)
begins_bare w chosen (event.Do c x) o = call_bare w c (op_of x)
begins_bare w chosen (event.Call c x) o = call_bare w c (op_of x)
begins_bare w chosen (event.Deliver n) o = absurd (true≢false o)
begins_bare w chosen (event.Timeout c k) o = absurd (true≢false o)
begins_bare w chosen (event.Inject d bytes) o = absurd (true≢false o)
begins_bare w chosen (event.Resend (sender.Client c)) o = resend_bare w c
begins_bare w chosen (event.Resend sender.Server) o = gives_bare w chosen server_input.Resends
begins_bare w chosen (event.Leave c) o = leave_bare w c
begins_bare w chosen (event.Clock (machine.Drive d) time) o = tt
begins_bare w chosen (event.Clock machine.Server time) o = tt
begins_bare w chosen (event.Recall f) o = gives_bare w chosen (server_input.Obeys server_rules.ToRecall f)
begins_bare w chosen (event.Revoke f) o = gives_bare w chosen (server_input.Obeys server_rules.ToRevoke f)
begins_bare w chosen (event.Rebuild f) o = gives_bare w chosen (server_input.Obeys server_rules.ToRebuild f)
begins_bare w chosen (event.Audit f) o = gives_bare w chosen (server_input.Obeys server_rules.ToAudit f)
begins_bare w chosen (event.Declare d) o = gives_bare w chosen (server_input.Obeys server_rules.ToDeclare d)
begins_bare w chosen (event.Crash (machine.Drive d)) o = tt
begins_bare w chosen (event.Crash machine.Server) o = gives_bare (with_down w true) chosen server_input.Crashes
begins_bare w chosen (event.Reopen (machine.Drive d)) o = tt
begins_bare w chosen (event.Reopen machine.Server) o = gives_bare (with_down w false) chosen server_input.Opens
begins_bare w chosen e o = tt
