-- A client's request: the machine of a file has what is kept behind its step, whatever file the request names.
-- Towards `KeptGoesOn` (`specs/Steps.antt`).
use Rattle.std.proofs.Common.{◌≡◌, ◌==◌, ℕ, ◌+◌, ◌≤◌, Bool, true, false, List, [], ◌∷◌, ◌++◌, Option, Some, None, refl, sym, ap, subst, ◌∙◌, if◌then◌else◌}
use Rattle.std.proofs.lemmas.Bool.{eq-eqb}
use Rattle.std.proofs.lemmas.List.{append-nil}
use Rattle.std.proofs.lemmas.Option.{same_Some}
use Rattle.osd_lists.specs.declared.node.Node.TheVariants.{Client as FromClient}
use Rattle.layout_ops.specs.declared.statuses.TheConstants.{NFS4_OK}
use Rattle.server_rules.specs.declared.limits.TheConstants.{GREATEST_TAG}
use Rattle.client_rules.specs.Results.{status_of}
use Rattle.server_rules.specs.Answers.{recalls_from}
use Rattle.server_rules.specs.Commit.{Committed, NoGrant as NotCommitted, Wrong, Sizes, by_commit, commit_row, commits}
use Rattle.server_rules.specs.Files.{Step, file_at, at_file, to_drives}
use Rattle.server_rules.specs.Get.{Early, BadMode, Invalid, Unable, Waits, On, Late, NoNumber, Lacks, Conflict, Gives, by_late, late, give_or_refuse, after_fence, fence_first, on_grants, must_fence, by_early, gets}
use Rattle.server_rules.specs.Going.{Going}
use Rattle.server_rules.specs.History.{Input, Hears}
use Rattle.server_rules.specs.Jobs.{ending, fence_begins}
use Rattle.server_rules.specs.Messages.{Asks}
use Rattle.server_rules.specs.Requests.{serves, answer_with, carried_out}
use Rattle.server_rules.specs.Return.{Returned, NoGrant, Clean, Taken, TooMany, Fencing, return_row, by_return, takes_loss, returns_on}
use Rattle.server_rules.specs.Served.{Served}
use Rattle.history_law.proofs.Files.{put_gives}
use Rattle.component_law.specs.Words.{Each}
use Rattle.component_law.proofs.Rounds.{each_at}
use Rattle.world_history.specs.ServerNames.{Server, File, Kept, Grant, Note, Spent, Job, Revoking, ClientRequest, RequestArgs, Get as Gets, Commit as Commits_, Return as Returns, Outgoing, Answers}
use Rattle.world_history.specs.State.{World}
use Rattle.fence_law.specs.State.{State, Event}
use Rattle.fence_law.specs.Machine.{Lawful, after_all}
use Rattle.fence_law.proofs.Safe.{Safe, safe_all}
use Rattle.file_simulation.specs.Events.{joined}
use Rattle.file_simulation.specs.ServerEvents.{answer_of, served_here, is_served, answered_here, answered_to, sends_all, notes_all, at_first, server_goes}
use Rattle.relation_law.specs.KeptAsked.{AsksAs, AsksRightly}
use Rattle.relation_law.specs.KeptSteps.{AllLight, notes_events, behind_notes, IsKeptAt}
use Rattle.component_law.specs.KeptWalk.{IsWalked, FileFits}
use Rattle.component_law.proofs.KeptJobs.{ends_fence}
use Rattle.relation_law.proofs.KeptNotes.{AreSupplied, lawful_supplies, after_both, lawful_front, lawful_back}
use Rattle.relation_law.proofs.KeptLines.{drives_none, recalls_none, answer_alone, notes_joined}
use Rattle.relation_law.proofs.KeptMoves.{later_kept}
use Rattle.relation_law.proofs.KeptServer.{IsReady, light_kept, number_walked}
use Rattle.relation_law.proofs.KeptReturned.{loss_walked, returns_go}
use Rattle.relation_law.proofs.KeptCommitted.{commits_go}
use Rattle.relation_law.proofs.KeptGets.{gets_on}
use Rattle.relation_law.proofs.KeptAsked.{gets_asks}

-- ---- a request at another file

module _ (Q : Kept → List Note → Type 0) (w : IsWalked Q)
    (renumbers : (k l : Kept) (ns : List Note) → l.number ≡ k.number → Q k ns → Q l ns) where
  abbrev Ends : Served → Type 0
  Ends v = Q v.going.file.kept v.going.effects.notes

  abbrev Goes : Going → Type 0
  Goes g = Q g.file.kept g.effects.notes

  either_served : (b : Bool) (x y : Served) → Ends x → Ends y → Ends (if b then x else y)
  either_served true x y p q = p
  either_served false x y p q = q

  begins_fence_ : (kind : _) (format : ℕ) (g : Going) → Goes g → Goes (fence_begins kind format g)
  begins_fence_ kind format g h =
      (ends_fence Q w kind format g (renumbers g.file.kept (ending g.file.kept format) g.effects.notes refl h)).0

  ends_late : (go : Going) (x : Grant) (l : Late) → Goes go → Ends (by_late go x l)
  ends_late go x NoNumber h = h
  ends_late go x (Lacks k) h = h
  ends_late go x (Conflict holder) h = h
  ends_late go x Gives h =
      renumbers go.file.kept (by_late go x Gives).going.file.kept go.effects.notes refl h

  ends_given : (go : Going) (next : ℕ) (x : Grant) → Goes go → Ends (give_or_refuse go next x)
  unfolding give_or_refuse
  ends_given go next x h = ends_late go x (late go.file.kept next x) h

  ends_after : (go : Going) (next : ℕ) (x : Grant) (o : Option Job) → Goes go → Ends (after_fence go next x o)
  ends_after go next x None h = ends_given go next x h
  ends_after go next x (Some j) h = h

  ends_first : (go : Going) (next format : ℕ) (x : Grant) → Goes go → Ends (fence_first go next format x)
  unfolding fence_first
  ends_first go next format x h =
      either_served (go.file.kept.tag == GREATEST_TAG) _ _ (w.plain go.file.kept go.effects.notes Spent refl h)
      (ends_after (fence_begins Revoking format go) next x (fence_begins Revoking format go).file.job
      (begins_fence_ Revoking format go h))

  ends_grants : (go : Going) (next format now : ℕ) (x : Grant) → Goes go → Ends (on_grants go next format now x)
  unfolding on_grants
  ends_grants go next format now x h =
      either_served (must_fence now go.file.kept.grants x) _ _ (ends_first go next format x h) (ends_given go next x h)

  ends_early : (go : Going) (next format now : ℕ) (x : Grant) (e : Early) → Goes go → Ends (by_early go next format now x e)
  ends_early go next format now x BadMode h = h
  ends_early go next format now x Invalid h = h
  ends_early go next format now x Unable h = h
  ends_early go next format now x (Waits k) h = h
  ends_early go next format now x On h = ends_grants go next format now x h

  ends_commit : (go : Going) (r : Committed) → Goes go → Ends (by_commit go r)
  ends_commit go NotCommitted h = h
  ends_commit go Wrong h = h
  ends_commit go (Sizes size) h =
      renumbers go.file.kept (by_commit go (Sizes size)).going.file.kept go.effects.notes refl h

  ends_return : (go : Going) (format c : ℕ) (r : Returned) → Goes go → Ends (by_return go format c r)
  ends_return go format c NoGrant h = h
  ends_return go format c Clean h =
      renumbers go.file.kept (by_return go format c Clean).going.file.kept go.effects.notes refl h
  ends_return go format c (Taken ks) h =
      renumbers (takes_loss go ks).file.kept (by_return go format c (Taken ks)).going.file.kept
      (takes_loss go ks).effects.notes refl (loss_walked Q w.alike w.plain go ks h)
  ends_return go format c TooMany h = w.plain go.file.kept go.effects.notes Spent refl h
  ends_return go format c Fencing h = begins_fence_ Revoking format go h

  pub ends_served : (go : Going) (next format now c : ℕ) (args : RequestArgs) → Goes go
      → Ends (serves go next format now c args)
  unfolding gets commits returns_on
  ends_served go next format now c (Gets iomode offset count) h = ends_early go next format now _ _ h
  ends_served go next format now c (Commits_ last) h = ends_commit go (commit_row go.file.kept c last) h
  ends_served go next format now c (Returns report) h = ends_return go format c (return_row go.file.kept c report) h

-- ---- what the step sends

drives_answer : (ds : _) (cs : _) (os : List Outgoing) → answer_of (to_drives ds cs ++ os) ≡ answer_of os
unfolding answer_of
drives_answer ds [] os = refl
drives_answer ds (c ∷ cs) os = drives_answer ds cs os

recalls_answer : (n : ℕ) (gs : List Grant) (os : List Outgoing) → answer_of (recalls_from n gs ++ os) ≡ answer_of os
unfolding answer_of recalls_from
recalls_answer n [] os = refl
recalls_answer n (x ∷ gs) os = recalls_answer (n + 1) gs os

pub carried_answer : (server : Server) (q : ClientRequest) (v : Served)
    → answer_of (carried_out server q v).sends ≡ Some (answer_with server q v)
unfolding answer_of
carried_answer server q v =
    drives_answer server.drives v.going.effects.sent _
    ∙ recalls_answer server.next_recall v.recalled (Answers (answer_with server q v) ∷ [])

pub carried_sends : (server : Server) (g : File) (i : Input) (s : State) (q : ClientRequest) (v : Served)
    → joined (sends_all s server g i (carried_out server q v).sends) ≡ answered_to s server g (answer_with server q v) i
carried_sends server g i s q v =
    drives_none server g i s server.drives v.going.effects.sent _
    ∙ recalls_none server g i s server.next_recall v.recalled (Answers (answer_with server q v) ∷ [])
    ∙ answer_alone server g i s (answer_with server q v)

-- ---- a request on the file

module _ (s : State) (w : World) (f : File) (chosen : List ℕ) (now : ℕ) (q : ClientRequest) (safe : Safe s)
    (h : IsKeptAt w.server.next_grant s f) (ready : IsReady w f) (fit : Each FileFits w.server.files)
    (made : f.job ≡ None → f.spent ≡ false → f.kept.ready ≡ true) where
  abbrev next : ℕ
  next = w.server.next_grant

  abbrev i : Input
  i = Hears now (FromClient q.client) (Asks q)

  abbrev Given : State → List Note → Type 0
  Given t ns = Lawful t (notes_events t w f i ns)

  abbrev v : RequestArgs → Served
  v args = serves (at_file w.server chosen f) w.server.next_grant w.server.format now q.client args

  -- the events of the first line, and what the machine has behind them, the notes and the answer
  pub record RequestOn (args : RequestArgs) : Type 0 where
    pub events : List Event
    pub seen : served_here s q.client args (status_of (answer_with w.server q (v args)).results == NFS4_OK) f
        (v args).going.file ≡ events
    pub asks : Lawful s events
        → AsksAs (next + (v args).numbers) (after_all s events) w f i (Given (after_all s events) (v args).going.effects.notes)
        (v args).going.effects.notes
        (λ (u : State). answered_here u q.client args (answer_with w.server q (v args)) (v args).going.file)
        (v args).going.file

  supplied : (busy : Bool) (t : State) → AreSupplied next busy t w f i (Given t)
  supplied busy t = lawful_supplies next busy t w f i

  by_args : (args : RequestArgs) → q.args ≡ args → AsksRightly s f q → RequestOn args
  by_args (Gets iomode offset count) is a =
      let fits : FileFits f = each_at FileFits w.server.files f.kept.number f fit ready.there in
      let r = gets_on next s w f i Given supplied safe h fits made chosen w.server.format now q.client iomode offset count in
      record {
        events = r.events;
        seen = r.seen;
        asks = λ l.
            let t : State = after_all s r.events in
            gets_asks next t w f i (Given t) (safe_all s r.events l safe) w.server q iomode offset count is
            (v (Gets iomode offset count)) (r.is l);
      }
  by_args (Commits_ last) is a =
      let r = commits_go next s w f i Given safe h chosen q last is (a.commits last is) in
      record { events = r.events; seen = r.seen; asks = r.asks }
  by_args (Returns report) is a =
      let r = returns_go next s w f i Given supplied safe h chosen q report is (a.returns report is) in
      record { events = r.events; seen = r.seen; asks = r.asks }

  -- a request on the file that is carried out
  pub request_goes : is_served w.server q.client q ≡ true → q.file ≡ f.kept.number → AsksRightly s f q
      → (g : File) → file_at (carried_out w.server q (v q.args)).state.files f.kept.number ≡ Some g
      → Lawful s (joined (server_goes s w (carried_out w.server q (v q.args)) i (Some f) (Some g)))
      → IsKeptAt (carried_out w.server q (v q.args)).state.next_grant
      (after_all s (joined (server_goes s w (carried_out w.server q (v q.args)) i (Some f) (Some g)))) g
  request_goes taken here a g found law =
      let did : Step = carried_out w.server q (v q.args) in
      let n : ℕ = f.kept.number in
      let number : (v q.args).going.file.kept.number ≡ n =
      ends_served (λ k ns. k.number ≡ n) (number_walked n) (λ k l ns e m. e ∙ m) (at_file w.server chosen f)
      w.server.next_grant w.server.format now q.client q.args refl in
      let same : g ≡ (v q.args).going.file =
      put_gives w.server.files n (v q.args).going.file g number (rw here at found) in
      let G : File = (v q.args).going.file in
      let r = by_args q.args refl a in
      let t : State = after_all s r.events in
      let ns : List Note = (v q.args).going.effects.notes in
      let u : State = behind_notes t w f i ns in
      let last : List Event = answered_here u q.client q.args (answer_with w.server q (v q.args)) G in
      let first : at_first s w.server did f G i ≡ r.events =
      rw (taken, eq-eqb q.file n here, carried_answer w.server q (v q.args)) r.seen in
      let answer : joined (sends_all u w.server G i did.sends) ≡ last =
      carried_sends w.server G i u q (v q.args)
      ∙ rw (taken, eq-eqb q.file G.kept.number (here ∙ sym number)) refl in
      let is : joined (server_goes s w did i (Some f) (Some G)) ≡ r.events ++ (notes_events t w f i ns ++ last) =
      ap (λ (es : List Event). es ++ joined (notes_all (after_all s es) w f G i did.sends did.notes)) first
      ∙ ap (λ (es : List Event). r.events ++ es)
      (notes_joined t w f G i did.sends did.notes ∙ ap (λ (es : List Event). notes_events t w f i ns ++ es) answer) in
      subst (λ (y : File).
      Lawful s (joined (server_goes s w did i (Some f) (Some y)))
      → IsKeptAt did.state.next_grant (after_all s (joined (server_goes s w did i (Some f) (Some y)))) y) (sym same)
      (λ l0.
      let l : Lawful s (r.events ++ (notes_events t w f i ns ++ last)) = subst (Lawful s) is l0 in
      let l1 : Lawful s r.events = lawful_front s r.events (notes_events t w f i ns ++ last) l in
      let l2 : Lawful t (notes_events t w f i ns ++ last) = lawful_back s r.events (notes_events t w f i ns ++ last) l in
      let x = r.asks l1 in
      let k : IsKeptAt (next + (v q.args).numbers) (after_all u last) G =
      x.kept (lawful_front t (notes_events t w f i ns) last l2) (lawful_back t (notes_events t w f i ns) last l2) in
      let state : after_all s (r.events ++ (notes_events t w f i ns ++ last)) ≡ after_all u last =
      after_both s r.events (notes_events t w f i ns ++ last) ∙ after_both t (notes_events t w f i ns) last in
      subst (λ (es : List Event). IsKeptAt did.state.next_grant (after_all s es) G) (sym is)
      (subst (λ (z : State). IsKeptAt did.state.next_grant z G) (sym state) k)) law

-- ---- a request on another file, or one that isn't carried out

module _ (s : State) (w : World) (f : File) (chosen : List ℕ) (now c : ℕ) (q : ClientRequest) (safe : Safe s)
    (h : IsKeptAt w.server.next_grant s f) (ready : IsReady w f) where
  abbrev j : Input
  j = Hears now (FromClient c) (Asks q)

  -- the file stays, no note has an event, and those of the first line and of the answer are light
  pub beside : (did : Step) → file_at did.state.files f.kept.number ≡ Some f → w.server.next_grant ≤ did.state.next_grant
      → ((t : State) → notes_events t w f j did.notes ≡ []) → AllLight (at_first s w.server did f f j)
      → ((u : State) → joined (sends_all u w.server f j did.sends) ≡ []) → (g : File)
      → file_at did.state.files f.kept.number ≡ Some g
      → Lawful s (joined (server_goes s w did j (Some f) (Some g)))
      → IsKeptAt did.state.next_grant (after_all s (joined (server_goes s w did j (Some f) (Some g)))) g
  beside did stays more none light quiet g found law =
      let same : f ≡ g = same_Some f g (sym stays ∙ found) in
      let es : List Event = at_first s w.server did f f j in
      let t : State = after_all s es in
      let is : joined (server_goes s w did j (Some f) (Some f)) ≡ es =
      ap (λ (x : List Event). es ++ x) (notes_joined t w f f j did.sends did.notes
      ∙ rw (none t, quiet t) refl) ∙ append-nil es in
      subst (λ (y : File).
      Lawful s (joined (server_goes s w did j (Some f) (Some y)))
      → IsKeptAt did.state.next_grant (after_all s (joined (server_goes s w did j (Some f) (Some y)))) y) same
      (λ l0.
      let l : Lawful s es = subst (Lawful s) is l0 in
      subst (λ (x : List Event). IsKeptAt did.state.next_grant (after_all s x) f) (sym is)
      (later_kept w.server.next_grant did.state.next_grant t f more
      (light_kept w.server.next_grant s es f light l safe h))) law
