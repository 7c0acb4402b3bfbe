-- A step of the server on anything but a client's request, by what comes to it.
-- Towards `KeptGoesOn` (`specs/Steps.antt`).
use Rattle.std.proofs.Common.{◌≡◌, ◌==◌, ◌&&◌, ◌||◌, ℕ, Bool, true, false, not, map, List, [], ◌∷◌, Option, Some, None, is_some, find, refl, sym, ap, subst, ◌∙◌, inl, inr, if◌then◌else◌}
use Rattle.std.proofs.lemmas.Bool.{true≢false, cases_Bool, ne_eqb}
use Rattle.std.proofs.lemmas.Option.{same_Some}
use Rattle.osd_lists.specs.declared.node.Node.{Node}
use Rattle.osd_lists.specs.declared.node.Node.TheVariants.{Server as FromServer, Client as FromClient, Drive as FromDrive}
use Rattle.server_rules.specs.declared.limits.TheConstants.{GREATEST_TAG}
use Rattle.component_law.specs.Tagged.{fence_open}
use Rattle.server_rules.specs.Files.{Step, still, begins, file_at, at_file}
use Rattle.server_rules.specs.Going.{Going}
use Rattle.server_rules.specs.History.{Input, Hears, Makes, Obeys, Adds, Zones, Formats, Resends, Crashes, Opens, step, unless_made}
use Rattle.server_rules.specs.Jobs.{ending, making}
use Rattle.server_rules.specs.Making.{refusal, unless_refused, with_file, makes_file, create_file}
use Rattle.server_rules.specs.Messages.{Message, Asks, Replies, Orders, counters_have_room, on_message}
use Rattle.server_rules.specs.Openings.{crash, crashed_file, opens, opens_each, reopen, opens_fenced, is_unsettled}
use Rattle.server_rules.specs.Orders.{ordered}
use Rattle.server_rules.specs.Rounds.{step_round}
use Rattle.server_rules.proofs.FileLaws.{put_other, add_other, not_there}
use Rattle.history_law.specs.Steps.{IsOrder, Here, Sent, StepCases, new_file}
use Rattle.history_law.proofs.Steps.{each_step}
use Rattle.component_law.proofs.Rounds.{each_at}
use Rattle.component_law.specs.Words.{Each}
use Rattle.world_history.specs.ServerNames.{Server, File, Note, Effects, Drive, Revoking, Rebuilding, Auditing, Reply, OrderKind, ToRecall, ToRevoke, ToDeclare, ToRebuild, ToAudit, RawMap, Refusal}
use Rattle.world_history.specs.State.{World}
use Rattle.fence_law.specs.State.{State, Event}
use Rattle.fence_law.specs.State.Event.{Fences}
use Rattle.fence_law.specs.Machine.{Lawful, after_all}
use Rattle.fence_law.proofs.Safe.{Safe, safe_all}
use Rattle.file_simulation.specs.EventLists.{where_so}
use Rattle.file_simulation.specs.ServerEvents.{begins_fence, fences, declared_from}
use Rattle.relation_law.specs.KeptSteps.{AllLight, notes_events, IsSoFar, IsKeptAt, GoesAs, IsDone, first_of, HearsNoOrder}
use Rattle.component_law.specs.KeptWalk.{FileFits}
use Rattle.component_law.proofs.KeptJobs.{ends_making}
use Rattle.relation_law.proofs.KeptNotes.{AreSupplied, IsBehind, walked}
use Rattle.relation_law.proofs.KeptEnds.{so_far_from, kept_from, begins_so_far}
use Rattle.relation_law.proofs.KeptRounds.{Quiet, quiet_walked, begun, done, goes_as}
use Rattle.component_law.proofs.KeptOpening.{IsIdle, has_to_fence, ends_opens}
use Rattle.relation_law.proofs.KeptOpens.{opening_fences, opening_shows, opened_round}
use Rattle.relation_law.proofs.KeptServer.{IsReady, light_first, HasNumber, number_walked, Makes_, quiet_goes, stays_goes, answered_goes, starts_goes, recalls_goes, known_goes}

-- what isn't a client's request
abbrev pub IsNoRequest : Input → Type 0
IsNoRequest (Hears now (FromClient c) (Asks q)) = ⊥
IsNoRequest i = Unit {0}

-- where the server is opened, no job runs
abbrev pub IsIdleAt : Input → List File → Type 0
IsIdleAt Opens fs = Each IsIdle fs
IsIdleAt i fs = Unit {0}

-- where it is up, the work of each file fits its phase
abbrev pub FitsAt : Input → List File → Type 0
FitsAt Opens fs = Unit {0}
FitsAt i fs = Each FileFits fs

crashed_at : (fs : List File) (n : ℕ) (f : File) → file_at fs n ≡ Some f → file_at (map crashed_file fs) n ≡ Some (crashed_file f)
unfolding file_at
crashed_at [] n f e = absurd (cc e)
crashed_at (x ∷ fs) n f e = elim (cases_Bool (x.kept.number == n)) [
  | inl t ↦ let same : x ≡ f = cc (rw t at e) in rw t (ap (λ (y : File). Some (crashed_file y)) same)
  | inr z ↦ rw z (crashed_at fs n f (rw z at e))
]

module _ (next : ℕ) (s : State) (w : World) (f : File) (chosen : List ℕ) (safe : Safe s) (h : IsKeptAt next s f)
    (ready : IsReady w f) where
  module _ (i : Input) (Given : State → List Note → Type 0)
      (supplied : (busy : Bool) (t : State) → AreSupplied next busy t w f i (Given t)) where
    abbrev Goes : Step → Type 0
    Goes did = Makes_ next s w f chosen safe h ready i Given supplied did

    stays : (did : Step) → did.state.files ≡ w.server.files → did.notes ≡ [] → Goes did
    stays = stays_goes next s w f chosen safe h ready i Given supplied

    -- ---- a reply

    reply_cases : Each FileFits w.server.files → (now drive : ℕ) (r : Reply) → i ≡ Hears now (FromDrive drive) (Replies r)
        → StepCases w.server chosen i Goes
    reply_cases fit now drive r is = record {
      rests = stays (still w.server) refl refl;
      asked = λ n q a. absurd (cc (sym is ∙ a.is));
      answered = λ x a. answered_goes next s w f chosen safe h ready i Given supplied fit x a (λ g. rw is refl);
      recalled = λ x o. absurd (no_order o.order);
      refused = λ x o. absurd (no_order o.order);
      fenced = λ x o. absurd (no_order o.order);
      declared = λ d e.
          known_goes next s w f chosen safe h ready i Given supplied fit d true (λ g. rw is tt) (λ g. rw is refl);
      told = λ t n o e. absurd (cc (sym is ∙ e));
      made = λ n m tag zoned e. absurd (cc (sym is ∙ e));
      added = λ d e. absurd (cc (sym is ∙ e));
      zoned = λ d zone e. absurd (cc (sym is ∙ e));
      formats = λ n e. absurd (cc (sym is ∙ e));
      resends = λ e. absurd (cc (sym is ∙ e));
      crashes = λ e. absurd (cc (sym is ∙ e));
      opened = λ e. absurd (cc (sym is ∙ e));
    }
      where
        no_order : {kind : OrderKind} {n : ℕ} → IsOrder i kind n → ⊥
        no_order (Here e) = cc (sym is ∙ e)
        no_order (Sent n o e k t) = cc (sym is ∙ e)

    replied : Each FileFits w.server.files → (now drive : ℕ) (r : Reply) → i ≡ Hears now (FromDrive drive) (Replies r)
        → Goes (step w.server chosen i)
    replied fit now drive r is = each_step w.server chosen i Goes (reply_cases fit now drive r is)

    -- nothing happens, whether the counters have room or not
    either_still : (b : Bool) → Goes (if b then still w.server else still w.server)
    either_still true = stays (still w.server) refl refl
    either_still false = stays (still w.server) refl refl

    -- ---- a file is made

    made : (n : ℕ) (m : RawMap) (tag : ℕ) (zoned : Bool) (o : Option Refusal) → refusal w.server n m zoned ≡ o
        → Goes (unless_made w.server (unless_refused o (makes_file w.server (new_file w.server chosen n m tag zoned))))
    unfolding notes_events
    made n m tag zoned (Some why) refused = stays (still w.server) refl refl
    made n m tag zoned None refused =
        let x : File = new_file w.server chosen n m tag zoned in
        let t : Server = with_file w.server x in
        let G : Going = making (at_file t [] x) in
        let ne : n ≡ f.kept.number → ⊥ = λ e.
        absurd (cc (sym (ap (file_at w.server.files) (sym e) ∙ not_there w.server n m zoned refused) ∙ ready.there)) in
        let number : G.file.kept.number ≡ n =
        (ends_making (HasNumber n) (number_walked n) (at_file t [] x) (refl, refl)).0 in
        quiet_goes next s w f chosen safe h ready i Given supplied (makes_file w.server x)
        (put_other t.files n G.file number f.kept.number (ne_eqb n f.kept.number ne)
        ∙ add_other w.server.files x f.kept.number (ne_eqb n f.kept.number ne) ∙ ready.there)
        (λ u.
        (ends_making (Quiet u w f i [] []) (quiet_walked u w f i [] []) (at_file t [] x)
        (refl, (ne, ([], refl), refl))).0.2)

    -- ---- the server crashes

    crashes : ((g : File) → first_of f g i ≡ []) → Goes (still (crash w.server))
    unfolding notes_events
    crashes first g found law =
        let same : crashed_file f ≡ g =
        same_Some (crashed_file f) g (sym (crashed_at w.server.files f.kept.number f ready.there) ∙ found) in
        let k : IsKeptAt next s (crashed_file f) =
        kept_from next false s (crashed_file f) (λ b. refl)
        (so_far_from next false s f (λ b. absurd (true≢false (sym b))) h) in
        subst (λ (es : List Event). GoesAs next (after_all s es) w f i (Given (after_all s es) []) [] g) (sym (first g))
        (subst (GoesAs next s w f i (Given s []) []) same (record { lawful = λ x. tt; kept = λ x. k }))

    -- ---- it is opened

    -- a file that has nothing to fence and is made has no job then
    opened_idle : (format : ℕ) (g : Going) → g.file.job ≡ None → has_to_fence g.file.kept ≡ false → g.file.kept.ready ≡ true
        → (opens format g).file.job ≡ None
    unfolding opens opens_fenced
    opened_idle format g idle n made_ = elim (cases_Bool (is_unsettled g.file.kept)) [
      | inl u ↦ elim (cases_Bool (g.file.kept.tag == GREATEST_TAG)) [
        | inl e ↦ rw (u, e) idle
        | inr e ↦ absurd (true≢false (rw (u, e) at n))
      ]
      | inr u ↦ rw (u, made_) refl
    ]

    -- the file's own part
    opens_done : (t : State) → Safe t → (busy : Bool) (format : ℕ) (g : Going) → g.file ≡ f
        → notes_events t w f i g.effects.notes ≡ [] → g.file.job ≡ None
        → (has_to_fence f.kept ≡ false → IsSoFar next busy t f.kept)
        → (has_to_fence f.kept ≡ true → IsSoFar next busy t (ending f.kept format))
        → (busy ≡ false → (opens format g).file.job ≡ None)
        → IsDone next t w f i (Given t) (opens format g)
    opens_done t safe_ busy format g is none idle rests fences_ last =
        let e = ends_opens (IsBehind next busy t w f i (Given t)) (walked next busy t w f i (Given t) (supplied busy t) safe_)
        format g idle
        (λ n.
        begun next t w f i (Given t) (λ c. supplied c t) busy g.file.kept g.effects.notes
        (ap (λ (x : File). x.kept.number) is) (ap (λ (x : File). x.kept.map) is) none
        (subst (λ (x : File). IsSoFar next busy t x.kept) (sym is)
        (rests (sym (ap (λ (x : File). has_to_fence x.kept) is) ∙ n))))
        (λ n.
        begun next t w f i (Given t) (λ c. supplied c t) busy (ending g.file.kept format) g.effects.notes
        (ap (λ (x : File). x.kept.number) is) (ap (λ (x : File). x.kept.map) is) none
        (subst (λ (x : File). IsSoFar next busy t (ending x.kept format)) (sym is)
        (fences_ (sym (ap (λ (x : File). has_to_fence x.kept) is) ∙ n)))) in
        done next t w f i (Given t) (λ c. supplied c t) busy (opens format g) last e.0

    -- so far behind the first line, by whether the file is fenced
    abbrev Opened : (es : List Event) (busy : Bool) → Type 0
    Opened es busy =
        Lawful s es → (has_to_fence f.kept ≡ false → IsSoFar next busy (after_all s es) f.kept)
        × (has_to_fence f.kept ≡ true → IsSoFar next busy (after_all s es) (ending f.kept w.server.format))

    first_opened : (b r : Bool) → has_to_fence f.kept ≡ b → f.kept.ready ≡ r
        → Opened (where_so (b && not (fence_open f.kept)) (Fences ∷ [])) (b || not r)
    first_opened true r is is_r l = (
      λ n. absurd (true≢false (sym is ∙ n)),
      λ n.
          begins_so_far next s f.kept w.server.format f.kept.phase refl l safe false
          (so_far_from next false s f (λ b. absurd (true≢false (sym b))) h),
    )
    first_opened false true is is_r l = (
      λ n. so_far_from next false s f (λ b. absurd (true≢false (sym b))) h,
      λ n. absurd (true≢false (sym n ∙ is)),
    )
    first_opened false false is is_r l =
        let k : IsSoFar next false s f.kept = so_far_from next false s f (λ b. absurd (true≢false (sym b))) h in (
          λ n. record {
            tag = k.tag;
            size = k.size;
            phase = k.phase;
            next_is = k.next_is;
            unused = λ b p. h.unready is_r;
            unready = k.unready;
            low = k.low;
          },
          λ n. absurd (true≢false (sym n ∙ is)),
        )

    -- behind the first line, the file's own part of an opening shows whether a fence began
    pub record IsOpened (es : List Event) (g : Going) : Type 0 where
      pub number : g.file.kept.number ≡ f.kept.number
      pub shows : begins_fence f g.file ≡ opening_fences f.kept
      pub is : Lawful s es → IsDone next (after_all s es) w f i (Given (after_all s es)) g

    opened : (idle : Each IsIdle w.server.files) → ((g : File) → first_of f g i ≡ fences f g)
        → Goes (step_round w.server (opens_each w.server.format w.server.drives w.server.files (begins w.server)))
    unfolding notes_events
    opened idle first g found law =
        let b : Bool = has_to_fence f.kept in
        let r : Bool = f.kept.ready in
        let es : List Event = where_so (opening_fences f.kept) (Fences ∷ []) in
        let t : State = after_all s es in
        let none : f.job ≡ None = each_at IsIdle w.server.files f.kept.number f idle ready.there in
        let own : (m : Effects) → notes_events t w f i m.notes ≡ []
        → IsOpened es (opens w.server.format (record { file = f; effects = m; drives = w.server.drives; chosen = [] })) =
        λ m quiet.
        let g0 : Going = record { file = f; effects = m; drives = w.server.drives; chosen = [] } in
        record {
          number =
              (ends_opens (HasNumber f.kept.number) (number_walked f.kept.number) w.server.format g0 none
              (λ n. refl) (λ n. refl)).0;
          shows = opening_shows w.server.format g0;
          is = λ l.
              let x = first_opened b r refl refl l in
              opens_done t (safe_all s es l safe) (b || not r) w.server.format g0 refl quiet none x.0 x.1
              (λ e. let n = neither b r e in opened_idle w.server.format g0 none n.0 n.1);
        } in
        let z = opened_round w f i t w.server.format w.server.drives (IsOpened es) (λ x d. d.number) own w.server.files
        (begins w.server) ready.there ready.apart idle refl in
        let is : z.going.file ≡ g = same_Some z.going.file g (sym z.found ∙ found) in
        let ns : List Note =
        (opens_each w.server.format w.server.drives w.server.files (begins w.server)).effects.notes in
        let seen : first_of f g i ≡ es =
        first g ∙ ap (fences f) (sym is) ∙ ap (λ (c : Bool). where_so c (Fences ∷ [])) z.is.shows in
        let law_ : Lawful s es = subst (Lawful s) seen law in
        subst (λ (x : List Event). GoesAs next (after_all s x) w f i (Given (after_all s x) ns) ns g) (sym seen)
        (subst (GoesAs next t w f i (Given t ns) ns) is
        (goes_as next t w f i (Given t) (λ c. supplied c t) z.going ns (z.is.is law_) z.behind.0 z.behind.1))
      where
        neither : (b r : Bool) → (b || not r) ≡ false → (b ≡ false) × (r ≡ true)
        neither true r e = absurd (true≢false e)
        neither false true e = (refl, refl)
        neither false false e = absurd (true≢false e)

    reopened : (idle : Each IsIdle w.server.files) → ((g : File) → first_of f g i ≡ fences f g) → Goes (reopen w.server)
    unfolding reopen
    reopened idle first = elim (cases_Bool (counters_have_room w.server)) [
      | inl e ↦ rw e (opened idle first)
      | inr e ↦ rw e (stays (still w.server) refl refl)
    ]

    -- ---- an order

    -- the first line of an order on files, which perhaps begins a fence of this one
    ordered_goes : Each FileFits w.server.files → (kind : OrderKind) (n : ℕ) → i ≡ Obeys kind n
        → Goes (ordered w.server chosen kind n).step
    unfolding ordered
    ordered_goes fit ToRecall n is = recalls_goes next s w f chosen safe h ready i Given supplied (file_at w.server.files n)
    ordered_goes fit ToRevoke n is =
        starts_goes next s w f chosen safe h ready i Given supplied n (λ g. rw is refl) Revoking (file_at w.server.files n) refl
    ordered_goes fit ToRebuild n is =
        starts_goes next s w f chosen safe h ready i Given supplied n (λ g. rw is refl) Rebuilding (file_at w.server.files n) refl
    ordered_goes fit ToAudit n is =
        starts_goes next s w f chosen safe h ready i Given supplied n (λ g. rw is refl) Auditing (file_at w.server.files n) refl
    ordered_goes fit ToDeclare n is =
        known_goes next s w f chosen safe h ready i Given supplied fit n
        (is_some (find (λ (d : Drive). d.number == n) w.server.drives)) (λ g. rw is (light_declared n)) (λ g. rw is refl)
      where
        light_declared : (d : ℕ) → AllLight (declared_from d f.kept.components 0)
        light_declared d = light_first f (Obeys ToDeclare d)

    -- ---- a message

    message_goes : Each FileFits w.server.files → (now : ℕ) (from : Node) (m : Message) → i ≡ Hears now from m
        → IsNoRequest (Hears now from m)
        → HearsNoOrder i → Goes (step w.server chosen (Hears now from m))
    unfolding on_message
    message_goes fit now (FromClient c) (Asks q) is plain orders = absurd plain
    message_goes fit now FromServer (Orders o) is plain orders = absurd (orders now o is)
    message_goes fit now (FromDrive d) (Replies r) is plain orders =
        subst (λ (j : Input). Goes (step w.server chosen j)) is (replied fit now d r is)
    message_goes fit now from m is plain orders = either_still (counters_have_room w.server)

  -- ---- by what comes

  pub no_request_goes : (i : Input) (Given : State → List Note → Type 0)
      (supplied : (busy : Bool) (t : State) → AreSupplied next busy t w f i (Given t)) → IsNoRequest i → HearsNoOrder i
      → IsIdleAt i w.server.files → FitsAt i w.server.files
      → Makes_ next s w f chosen safe h ready i Given supplied (step w.server chosen i)
  unfolding create_file
  no_request_goes (Hears now from m) Given supplied plain orders idle fit =
      message_goes (Hears now from m) Given supplied fit now from m refl plain orders
  no_request_goes (Makes n m tag zoned) Given supplied plain orders idle fit =
      made (Makes n m tag zoned) Given supplied n m tag zoned (refusal w.server n m zoned) refl
  no_request_goes (Obeys kind n) Given supplied plain orders idle fit =
      ordered_goes (Obeys kind n) Given supplied fit kind n refl
  no_request_goes (Adds d) Given supplied plain orders idle fit =
      stays (Adds d) Given supplied (step w.server chosen (Adds d)) refl refl
  no_request_goes (Zones d zone) Given supplied plain orders idle fit =
      stays (Zones d zone) Given supplied (step w.server chosen (Zones d zone)) refl refl
  no_request_goes (Formats n) Given supplied plain orders idle fit =
      stays (Formats n) Given supplied (step w.server chosen (Formats n)) refl refl
  no_request_goes Resends Given supplied plain orders idle fit =
      stays Resends Given supplied (step w.server chosen Resends) refl refl
  no_request_goes Crashes Given supplied plain orders idle fit = crashes Crashes Given supplied (λ g. refl)
  no_request_goes Opens Given supplied plain orders idle fit = reopened Opens Given supplied idle (λ g. refl)
