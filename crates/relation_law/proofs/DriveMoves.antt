-- A move in which neither a client goes on nor anything comes to the server: a drive hears a message or injected bytes, or
-- fails, or no component of any file is touched.
-- Towards `ComponentsGoOn` (`specs/Steps.antt`).
use Rattle.std.proofs.Common.{◌≡◌, ℕ, ◌||◌, ◌++◌, Bool, true, false, not, List, [], ◌∷◌, zero, suc, slice_get, Option, Some, None, Result, Ok, Err, refl, sym, ap, subst, ◌∙◌, inl, inr, if◌then◌else◌}
use Rattle.std.specs.Prelude.{find, nat_eq}
use Rattle.std.specs.Cmp.Lexicographic.{pointwise}
use Rattle.std.proofs.lemmas.Bool.{cases_Bool, and_parts, eqb-true}
use Rattle.std.proofs.lemmas.List.{append-nil}
use Rattle.std.proofs.lemmas.Option.{same_Some}
use Rattle.osd_lists.specs.declared.node.Node.{Node}
use Rattle.osd_lists.specs.declared.node.Node.TheVariants as node
use Rattle.osd_commands.specs.declared.commands.Command.{Command}
use Rattle.osd_commands.specs.declared.commands.CommandErr.{CommandErr}
use Rattle.osd_commands.specs.Commands as commands
use Rattle.osd_objects.specs.Store.{object_at}
use Rattle.osd_drive.specs.declared.verdict.Verdict.{Verdict}
use Rattle.osd_drive.specs.declared.verdict.Verdict.TheVariants.{Perform}
use Rattle.osd_drive.specs.Table.{first_fault}
use Rattle.osd_drive.specs.Effects.{performed, state_by, after_reading}
use Rattle.scenario_text.specs.declared.event.Event.{Event as Told}
use Rattle.scenario_text.specs.declared.event.Event.TheVariants as event
use Rattle.scenario_text.specs.declared.line.Delivery.TheVariants as delivery
use Rattle.server_rules.specs.Laws.{In}
use Rattle.server_rules.proofs.Members.{in_map}
use Rattle.world_history.specs.declared.err.WorldErr.TheVariants.{Dead, Down}
use Rattle.world_history.specs.declared.messages.Message.{Message}
use Rattle.world_history.specs.declared.messages.Posted.{Posted}
use Rattle.world_history.specs.declared.messages.Body.{Body}
use Rattle.world_history.specs.declared.messages.Body.TheVariants.{Reply as OfReply}
use Rattle.world_history.specs.ServerNames.{File}
use Rattle.world_history.specs.State.{World, DriveAt, at_number, with_drive, with_number}
use Rattle.world_history.specs.Stripes.{component_at}
use Rattle.world_history.specs.Spelled.{spelled}
use Rattle.world_history.specs.Told.{told_verdict}
use Rattle.world_history.specs.Drives.{command_in, verdict_on, judges, is_deaf, fallen}
use Rattle.world_history.specs.Handed.{Post, plain, drive_hears, drive_replies, quiet, handed_to}
use Rattle.world_history.specs.Moves as world
use Rattle.world_history.specs.Moves.{marked, told_delivered}
use Rattle.world_history.specs.Sending.{sends_all}
use Rattle.world_history.specs.Refusals as refusals
use Rattle.world_history.specs.Refusals.{unless_deaf, unless_failed}
use Rattle.history_law.specs.Said.{said}
use Rattle.history_law.proofs.Moves.{said_marked}
use Rattle.exchange_law.specs.Sent.{HasSent, message_of}
use Rattle.exchange_law.proofs.LatestLaw.{sent_split}
use Rattle.component_law.proofs.Doing.{IsAllowed}
use Rattle.fence_law.specs.State.{State, Event}
use Rattle.file_simulation.specs.Components.{AreComponents}
use Rattle.file_simulation.specs.EventLists.{where_so}
use Rattle.file_simulation.specs.Events.{joined}
use Rattle.file_simulation.specs.ClientEvents as table
use Rattle.file_simulation.specs.ClientEvents.{hearing_at, going_in}
use Rattle.file_simulation.specs.DriveEvents.{judged, heard, heard_at, delivered, opened, is_for, is_sent_as, is_performed, performed_on, fails_from, drive_events}
use Rattle.relation_law.specs.DriveHearing.{IsPerformed, IsOfSender, AreShownRight, AwaitedAreSent, AreOfSenders, WasSentAs, NoneIsGuessed}
use Rattle.relation_law.proofs.DriveStays.{IsAlike, alike_go, alike_lanes, same_drive, fails_lawful, fallen_go, fallen_lanes}
use Rattle.relation_law.proofs.DriveAlike.{sending, still, times_out, pends, is_for_drives, begun_alike, quiet_alike, server_alike, client_alike}
use Rattle.relation_law.proofs.DrivePerformed.{GoWell, IsReady, performed_goes}

-- ---- what a drive makes of a command

-- the drive behind what it judged
judged_drive : (a : DriveAt) (r : Result Command CommandErr) →
    (judges a r).drive ≡ record a { state = after_reading a.state a.clock r }
unfolding judges
judged_drive a r = refl

told_perform : (v : Verdict) → is_performed (told_verdict v) ≡ true → v ≡ Perform
told_perform Perform e = refl
told_perform v e = absurd (cc e)

-- what isn't performed leaves the drive
left_by : (v : Verdict) (a : DriveAt) (x : Command) → is_performed (told_verdict v) ≡ false → state_by v a.state x ≡ a.state
left_by Perform a x e = absurd (cc e)
left_by v a x e = refl

module _ (s : State) (w v : World) (f : File) (r : IsReady s w f) (d : ℕ) (a : DriveAt) (from : Node)
    (there : at_number w.drives d ≡ Some a) (hears : is_deaf a ≡ false) where
  -- what isn't performed leaves all as it was
  unjudged : (x : Command) → v.drives ≡ with_number w.drives d (judges a (Ok x)).drive →
      ((c e : ℕ) (y : Command) → HasSent v c e y → HasSent w c e y) →
      is_performed (verdict_on a.state a.clock (Ok x)) ≡ false → IsAlike w v
  unjudged x drives sent e =
      let none = left_by (first_fault a.state a.clock x) a x e in
      same_drive w v d a (judges a (Ok x)).drive there drives
      (ap (λ (q : DriveAt). q.failed) (judged_drive a (Ok x)))
      (λ o. ap (λ (q : DriveAt). object_at q.state.store o) (judged_drive a (Ok x)) ∙ ap (λ q. object_at q.store o) none)
      (λ c n y below. sent c n y)

  -- it performs one, or leaves all as it was
  by_verdict : (x : Command) → v.drives ≡ with_number w.drives d (judges a (Ok x)).drive →
      ((c e : ℕ) (y : Command) → HasSent v c e y → HasSent w c e y) →
      (IsPerformed w d a x → IsOfSender w d x from × AreShownRight s w f d x from) → (q : Bool) →
      is_performed (verdict_on a.state a.clock (Ok x)) ≡ q →
      GoWell s w v f (where_so q (performed_on s w r.owe.bytes f x from (component_at d x.object f.kept.components 0)))
  by_verdict x drives sent of true e =
      let clear : first_fault a.state a.clock x ≡ Perform = told_perform (first_fault a.state a.clock x) e in
      let p : IsPerformed w d a x = record { there = there; hears = hears; clear = clear } in
      let b : DriveAt = record a { state = performed a.state x } in
      let is : (judges a (Ok x)).drive ≡ record a { state = performed a.state x } =
      judged_drive a (Ok x)
      ∙ ap (λ (q : Verdict). record a { state = state_by q a.state x }) clear in
      performed_goes s w v f r d a (record a { state = performed a.state x }) x p
      (record {
        there = there;
        drives = drives ∙ ap (with_number w.drives d) is;
        sent = sent;
      }) refl refl from (of p).0 (of p).1
  by_verdict x drives sent of false e = record {
    lawful = tt;
    components = alike_go s w v f (unjudged x drives sent e) r.components;
    lanes = alike_lanes s w v f (unjudged x drives sent e);
  }

  -- bytes that spell no command leave all as it was
  by_error : (e : CommandErr) → v.drives ≡ with_number w.drives d (judges a (Err e)).drive →
      ((c n : ℕ) (y : Command) → HasSent v c n y → HasSent w c n y) → IsAlike w v
  by_error e drives sent =
      same_drive w v d a (judges a (Err e)).drive there drives
      (ap (λ (q : DriveAt). q.failed) (judged_drive a (Err e)))
      (λ o. ap (λ (q : DriveAt). object_at q.state.store o) (judged_drive a (Err e)))
      (λ c n y below. sent c n y)

  -- so it is of whatever it reads
  by_reading : (o : Result Command CommandErr) → v.drives ≡ with_number w.drives d (judges a o).drive →
      ((c e : ℕ) (y : Command) → HasSent v c e y → HasSent w c e y) →
      ((x : Command) → o ≡ Ok x → IsPerformed w d a x → IsOfSender w d x from × AreShownRight s w f d x from) →
      GoWell s w v f (judged s w r.owe.bytes f d a from o)
  by_reading (Err e) drives sent of = record {
    lawful = tt;
    components = alike_go s w v f (by_error e drives sent) r.components;
    lanes = alike_lanes s w v f (by_error e drives sent);
  }
  by_reading (Ok x) drives sent of =
      by_verdict x drives sent (of x refl) (is_performed (verdict_on a.state a.clock (Ok x))) refl

  -- and of what it performs none of
  unperformed : (o : Result Command CommandErr) → v.drives ≡ with_number w.drives d (judges a o).drive →
      ((c e : ℕ) (y : Command) → HasSent v c e y → HasSent w c e y) →
      ((x : Command) → o ≡ Ok x → IsPerformed w d a x → ⊥) → IsAlike w v
  unperformed (Err e) drives sent none = by_error e drives sent
  unperformed (Ok x) drives sent none =
      left (is_performed (verdict_on a.state a.clock (Ok x))) refl
    where
      left : (q : Bool) → is_performed (verdict_on a.state a.clock (Ok x)) ≡ q → IsAlike w v
      left true e = absurd (none x refl (record {
        there = there;
        hears = hears;
        clear = told_perform (first_fault a.state a.clock x) e;
      }))
      left false e = unjudged x drives sent e

-- ---- a message

pub got_in : {A : Type 0} (xs : List A) (n : ℕ) (x : A) → slice_get xs n ≡ Some x → In x xs
got_in [] n x e = absurd (cc e)
got_in (y ∷ xs) zero x e = inl (sym (same_Some y x e))
got_in (y ∷ xs) (suc n) x e = inr (got_in xs n x e)

-- a drive's reply isn't a client's
reply_none : (w : World) (n : ℕ) (p : Posted) → slice_get w.network.messages n ≡ Some p → (v : World) →
    said v.network.messages ≡ said w.network.messages → (d : ℕ) (to : Node) (body : Body) →
    (c e : ℕ) (y : Command) → HasSent (sending v (plain (node.Drive d) to body ∷ [])) c e y → HasSent w c e y
reply_none w n p there v same d to body c e y i =
    elim (sent_split w (record { world = v; told = []; posts = plain (node.Drive d) to body ∷ [] }) (message_of c e y) same i) [
      | inl old ↦ old
      | inr (q, j, is) ↦ absurd (other q j is)
    ]
  where
    other : (q : Post) → In q (plain (node.Drive d) to body ∷ []) → message_of c e y ≡ q.message → ⊥
    other q (inl same) is = cc (ap (λ (m : Message). m.from) is ∙ ap (λ (x : Post). x.message.from) same)
    other q (inr none) is = none

module _ (s : State) (w : World) (f : File) (r : IsReady s w f) (senders : AreOfSenders s w f) (chosen : List ℕ) (n : ℕ)
    (p : Posted) (there : slice_get w.network.messages n ≡ Some p) where
  same_said : said (marked w n p).network.messages ≡ said w.network.messages
  same_said = said_marked w.network.messages n p (record p { delivered = true }) there refl

  sent_there : In p.message (said w.network.messages)
  sent_there = in_map (λ (q : Posted). q.message) p w.network.messages (got_in w.network.messages n p there)

  module _ (d : ℕ) (to : p.message.to ≡ node.Drive d) where
    deaf_or_not : (a : DriveAt) → at_number w.drives d ≡ Some a → (b : Bool) → is_deaf a ≡ b →
        GoWell s w (sends_all (told_delivered n (if b then quiet (marked w n p) delivery.Deaf
        else drive_replies (marked w n p) d p.message.from (judges a (command_in p.message.body))))).world f
        (where_so (not b) (judged s w r.owe.bytes f d a p.message.from (command_in p.message.body)))
    deaf_or_not a found true deaf = record {
      lawful = tt;
      components = alike_go s w _ f (quiet_alike w chosen n p there) r.components;
      lanes = alike_lanes s w _ f (quiet_alike w chosen n p there);
    }
    deaf_or_not a found false hears =
        by_reading s w (sends_all (told_delivered n
        (drive_replies (marked w n p) d p.message.from (judges a (command_in p.message.body))))).world f r d a p.message.from
        found hears (command_in p.message.body) refl
        (reply_none w n p there (with_drive (marked w n p) d (judges a (command_in p.message.body)).drive) same_said d
        p.message.from (OfReply (judges a (command_in p.message.body)).reply))
        (λ x is performs. senders p.message d a x sent_there to is performs)

    drive_heard : (o : Option DriveAt) → at_number w.drives d ≡ o →
        GoWell s w (sends_all (told_delivered n (drive_hears (marked w n p) d p.message o))).world f
        (heard s w r.owe.bytes f d p.message o)
    drive_heard None found = record {
      lawful = tt;
      components = alike_go s w _ f (quiet_alike w chosen n p there) r.components;
      lanes = alike_lanes s w _ f (quiet_alike w chosen n p there);
    }
    drive_heard (Some a) found = deaf_or_not a found (is_deaf a) refl

  -- whoever it is for
  handed_goes : (to : Node) → p.message.to ≡ to → hearing_at w p.message to ≡ None →
      GoWell s w (sends_all (told_delivered n (handed_to (marked w n p) chosen p.message to))).world f
      (heard_at s w r.owe.bytes f p.message to)
  handed_goes node.Server to none = record {
    lawful = tt;
    components = alike_go s w _ f (server_alike w chosen n p there) r.components;
    lanes = alike_lanes s w _ f (server_alike w chosen n p there);
  }
  handed_goes (node.Client c) to none = record {
    lawful = tt;
    components = alike_go s w _ f (client_alike w chosen n p there c (at_number w.clients c) none) r.components;
    lanes = alike_lanes s w _ f (client_alike w chosen n p there c (at_number w.clients c) none);
  }
  handed_goes (node.Drive d) to none = drive_heard d to (at_number w.drives d) refl

-- ---- injected bytes

pub found_in : (p : Posted → Bool) (xs : List Posted) (y : Posted) → find p xs ≡ Some y → In y xs × (p y ≡ true)
found_in p [] y e = absurd (cc e)
found_in p (x ∷ xs) y e = elim (cases_Bool (p x)) [
  | inl here ↦
      let same : x ≡ y = same_Some x y (rw here at e) in
      (inl (sym same), ap p (sym same) ∙ here)
  | inr past ↦ let r = found_in p xs y (rw past at e) in (inr r.0, r.1)
]

pub same_numbers : (xs ys : List ℕ) → pointwise nat_eq xs ys ≡ true → xs ≡ ys
same_numbers [] [] e = refl
same_numbers [] (y ∷ ys) e = absurd (cc e)
same_numbers (x ∷ xs) [] e = absurd (cc e)
same_numbers (x ∷ xs) (y ∷ ys) e =
    let both = and_parts (nat_eq x y) _ e in
    ap (λ (n : ℕ). n ∷ xs) (eqb-true x y both.0) ∙ ap (λ (zs : List ℕ). y ∷ zs) (same_numbers xs ys both.1)

pub for_drive : (d : ℕ) (to : Node) → is_for d to ≡ true → to ≡ node.Drive d
for_drive d (node.Drive k) e = ap node.Drive (eqb-true k d e)
for_drive d node.Server e = absurd (cc e)
for_drive d (node.Client c) e = absurd (cc e)

module _ (s : State) (w : World) (f : File) (r : IsReady s w f) (senders : AreOfSenders s w f) (d : ℕ) (bytes : List ℕ)
    (a : DriveAt) (found : at_number w.drives d ≡ Some a) (hears : is_deaf a ≡ false) where
  abbrev v : World
  v = sending (with_drive w d (judges a (commands.reading bytes)).drive) []

  none_new : (c e : ℕ) (y : Command) → HasSent v c e y → HasSent w c e y
  none_new c e y i =
      elim (sent_split w (record { world = with_drive w d (judges a (commands.reading bytes)).drive; told = []; posts = [] })
      (message_of c e y) refl i) [
        | inl old ↦ old
        | inr (q, j, is) ↦ absurd j
      ]

  -- a message was sent with them
  injected_as : (p : Posted) → In p w.network.messages × (is_sent_as d bytes p ≡ true) →
      GoWell s w v f (heard_at s w r.owe.bytes f p.message p.message.to)
  injected_as p (there, is) =
      let both = and_parts (is_for d p.message.to) _ is in
      let to : p.message.to ≡ node.Drive d = for_drive d p.message.to both.0 in
      let same : spelled p.message.body ≡ bytes = same_numbers (spelled p.message.body) bytes both.1 in
      let reads : command_in p.message.body ≡ commands.reading bytes = ap commands.reading same in
      subst (λ (n : Node). GoWell s w v f (heard_at s w r.owe.bytes f p.message n)) (sym to)
      (subst (λ (o : Option DriveAt). GoWell s w v f (heard s w r.owe.bytes f d p.message o)) (sym found)
      (subst (λ (b : Bool). GoWell s w v f (where_so (not b)
      (judged s w r.owe.bytes f d a p.message.from (command_in p.message.body)))) (sym hears)
      (by_reading s w v f r d a p.message.from found hears (command_in p.message.body)
      (ap (λ (o : Result Command CommandErr). with_number w.drives d (judges a o).drive) (sym reads)) none_new
      (λ x e performs. senders p.message d a x (in_map (λ (q : Posted). q.message) p w.network.messages there) to e
      performs))))

  by_find : WasSentAs w d bytes → (o : Option Posted) → find (is_sent_as d bytes) w.network.messages ≡ o →
      GoWell s w v f (delivered s w r.owe.bytes f o)
  by_find guess (Some p) e = injected_as p (found_in (is_sent_as d bytes) w.network.messages p e)
  by_find guess None e =
      let k = unperformed s w v f r d a node.Server found hears (commands.reading bytes) refl none_new
      (λ x is performs. let q = guess a x is performs in cc (sym e ∙ q.1)) in
      record { lawful = tt; components = alike_go s w v f k r.components; lanes = alike_lanes s w v f k }

  pub injected_goes : WasSentAs w d bytes →
      GoWell s w v f (delivered s w r.owe.bytes f (find (is_sent_as d bytes) w.network.messages))
  injected_goes guess = by_find guess (find (is_sent_as d bytes) w.network.messages) refl

-- ---- each move of drives

pub stands_and_hears : (o : Option DriveAt) → unless_deaf o ≡ None → (a : DriveAt) × (o ≡ Some a) × (is_deaf a ≡ false)
stands_and_hears None e = absurd (cc e)
stands_and_hears (Some a) e = (a, refl, hears a.failed a.down e)
  where
    hears : (x y : Bool) → (if x then Some Dead else if y then Some Down else None) ≡ None → (x || y) ≡ false
    hears true y e = absurd (cc e)
    hears false true e = absurd (cc e)
    hears false false e = refl

stands_there : (o : Option DriveAt) → unless_failed o ≡ None → (a : DriveAt) × (o ≡ Some a)
stands_there None e = absurd (cc e)
stands_there (Some a) e = (a, refl)

module _ (s : State) (w : World) (f : File) (r : IsReady s w f) (senders : AreOfSenders s w f) (sent : AwaitedAreSent w)
    (chosen : List ℕ) where
  comes : (n : ℕ) (o : Option Posted) → slice_get w.network.messages n ≡ o → table.delivered w o ≡ None →
      GoWell s w (sends_all (world.delivers_found w chosen n o)).world f (delivered s w r.owe.bytes f o)
  comes n None there none = record {
    lawful = tt;
    components = alike_go s w _ f (still w) r.components;
    lanes = alike_lanes s w _ f (still w);
  }
  comes n (Some p) there none = handed_goes s w f r senders chosen n p there p.message.to refl none

  injected : (d : ℕ) (bytes : List ℕ) → unless_deaf (at_number w.drives d) ≡ None → WasSentAs w d bytes →
      GoWell s w (sends_all (world.injects_at w d bytes (at_number w.drives d))).world f
      (delivered s w r.owe.bytes f (find (is_sent_as d bytes) w.network.messages))
  injected d bytes ok guess =
      let a = stands_and_hears (at_number w.drives d) ok in
      subst (λ (o : Option DriveAt). GoWell s w (sends_all (world.injects_at w d bytes o)).world f
      (delivered s w r.owe.bytes f (find (is_sent_as d bytes) w.network.messages))) (sym a.1)
      (injected_goes s w f r senders d bytes a.0 a.1 a.2 guess)

  fails : (d : ℕ) → unless_failed (at_number w.drives d) ≡ None →
      GoWell s w (sends_all (world.changed (world.by_drive w d fallen (at_number w.drives d)))).world f
      (fails_from d f.kept.components 0)
  fails d ok =
      let a = stands_there (at_number w.drives d) ok in
      subst (λ (o : Option DriveAt). GoWell s w (sends_all (world.changed (world.by_drive w d fallen o))).world f
      (fails_from d f.kept.components 0)) (sym a.1)
      (record {
        lawful = fails_lawful d f.kept.components 0 s;
        components =
            fallen_go s w (sending (with_drive w d (fallen a.0)) []) f d a.0 (fallen a.0) a.1 refl refl
            (λ c e y below i. elim (sent_split w (record { world = with_drive w d (fallen a.0); told = []; posts = [] })
            (message_of c e y) refl i) [
              | inl old ↦ old
              | inr (q, j, is) ↦ absurd j
            ]) r.components;
        lanes = fallen_lanes s w (sending (with_drive w d (fallen a.0)) []) f d (fallen a.0) refl;
      })

  quiet_event : (e : Told) → is_for_drives e ≡ false → table.opened w e ≡ None → refusals.refusal w e ≡ None →
      AreComponents s (sends_all (world.begins w chosen e)).world f
  quiet_event e q none ok = alike_go s w _ f (begun_alike w chosen sent e q none ok) r.components

  event_goes : (e : Told) → table.opened w e ≡ None → refusals.refusal w e ≡ None → NoneIsGuessed w (world.Opens e) →
      GoWell s w (sends_all (world.begins w chosen e)).world f (opened s w r.owe.bytes f e)
  unfolding world.begins world.delivers world.injects refusals.refusal
  event_goes (event.Deliver number) none ok guess = comes number (slice_get w.network.messages number) refl none
  event_goes (event.Inject d bytes) none ok guess = injected d bytes ok guess
  event_goes (event.Fail d) none ok guess = fails d ok
  event_goes e none ok guess = record {
    lawful = tt;
    components = quiet_event e refl none ok;
    lanes = alike_lanes s w _ f (begun_alike w chosen sent e refl none ok);
  }

  one_line : (v : World) (es : List Event) → GoWell s w v f es → GoWell s w v f (es ++ [])
  one_line v es k = subst (λ xs. GoWell s w v f xs) (sym (append-nil es)) k

  -- the events of drives may happen, and lead to a machine that has the components
  pub drives_go : (action : world.Action) → IsAllowed w action → NoneIsGuessed w action → going_in w action ≡ None →
      GoWell s w (sends_all (world.acts w chosen action)).world f (joined (drive_events s w r.owe.bytes f action))
  unfolding world.delivers
  drives_go (world.Opens e) ok guess none = one_line _ _ (event_goes e none ok guess)
  drives_go (world.Delivers n) ok guess none = one_line _ _ (comes n (slice_get w.network.messages n) refl none)
  drives_go (world.TimesOut c k) ok guess none = record {
    lawful = tt;
    components = alike_go s w _ f (times_out w c k none) r.components;
    lanes = alike_lanes s w _ f (times_out w c k none);
  }
  drives_go (world.Pends c) ok guess none = record {
    lawful = tt;
    components = alike_go s w _ f (pends w c) r.components;
    lanes = alike_lanes s w _ f (pends w c);
  }
