-- What a step of the server makes of the job of its file: the job begins a piece anew, or goes on at the same piece, and then
-- no note has an event.
-- Towards `RowsFollow` (`specs/Parts.antt`).
use Rattle.std.proofs.Common.{◌≡◌, ◌⊎◌, ◌==◌, ◌||◌, ℕ, ◌+◌, ◌≤◌, Bool, true, false, not, map, List, [], ◌∷◌, ◌++◌, Option, Some, None, refl, sym, ap, subst, ◌∙◌, inl, inr, arith, if◌then◌else◌}
use Rattle.std.proofs.lemmas.Option.{same_Some}
use Rattle.osd_lists.specs.declared.node.Node.TheVariants.{Drive as FromDrive}
use Rattle.server_rules.specs.declared.limits.TheConstants.{GREATEST_TAG}
use Rattle.server_rules.specs.Commands.{again_in_2}
use Rattle.server_rules.specs.Commit.{Committed, NoGrant, Wrong, Sizes, by_commit, commit_row, commits}
use Rattle.server_rules.specs.Get.{Early, BadMode, Invalid, Unable, Waits, On, Late, NoNumber, Lacks, Conflict, Gives, by_late, late, give_or_refuse, after_fence, fence_first, on_grants, must_fence, by_early, gets}
use Rattle.server_rules.specs.Going.{Going, over, keeping, noting, noting_if, with_components, waits_on}
use Rattle.server_rules.specs.Grants.{grant_of}
use Rattle.server_rules.specs.History.{Input, Hears}
use Rattle.server_rules.specs.Jobs.{fence_begins, making, waits_or_on, loses, declares, declared_in, is_target, others_than, targets}
use Rattle.server_rules.specs.Laws.{In, IsSafe, NoneBeside}
use Rattle.server_rules.specs.Messages.{Replies}
use Rattle.server_rules.specs.Numbers.{among}
use Rattle.server_rules.specs.Openings.{is_unsettled, opens_made, opens_spent, opens_fenced, opens}
use Rattle.server_rules.specs.Replies.{Hearing, Older, Full, Done, Nothing, answers, hearing, others, renewed, renews, fills_up, heard_with, hears}
use Rattle.server_rules.specs.Requests.{serves}
use Rattle.server_rules.specs.Return.{Returned, NoGrant as NotHeld, Clean, Taken, TooMany, Fencing as ToFence, by_grant, by_return, return_row, reports_from, takes_loss, returns_on}
use Rattle.server_rules.specs.Served.{Served}
use Rattle.server_rules.specs.Standing.{lose_from, lose_on, any_on}
use Rattle.server_rules.proofs.Members.{in_either, in_mapped, in_filtered}
use Rattle.history_law.specs.Names.{File, Drive, Effects, Component, Grant, Awaited, Heard, Job, JobKind, Revoking, Work, Creates, Fences, Fetches, Stores, Targets, Gathers, Fills, Lengths, Checks, NoteKind, NoSpace, Reported, Spent, Reply, RequestArgs, Get, Commit, Return}
use Rattle.world_history.specs.ServerNames.{IoErr}
use Rattle.world_history.specs.State.{World}
use Rattle.fence_law.specs.State.{State, Event}
use Rattle.file_simulation.specs.EventLists.{where_so}
use Rattle.file_simulation.specs.ServerEvents.{noted}
use Rattle.relation_law.specs.KeptSteps.{notes_events, behind_notes}
use Rattle.relation_law.proofs.KeptNotes.{events_more}
use Rattle.relation_law.proofs.Walk.{walk_audits, walk_fills, walk_repairs, walk_on, walk_fence, walk_making, walk_gone, walk_full}
use Rattle.headline_law.proofs.RowsBegin.{is_reading, IsPresent, BeginsAnew, HasCome, IsBegun, begin_cases}

-- ---- a job that goes on

-- a component's row is heard just now: the reply that comes to an awaited command is that it is done
pub record IsHeardNow (i : Input) (f : File) (j : Job) (x : Heard) : Type 0 where
  pub now : ℕ
  pub drive : ℕ
  pub reply : Reply
  pub awaited : Awaited
  pub comes : i ≡ Hears now (FromDrive drive) (Replies reply)
  pub awaits : In awaited j.awaited
  pub answer : answers drive reply awaited ≡ true
  pub is_done : hearing f.kept awaited reply ≡ Done
  pub is : x ≡ record { component = awaited.component; payload = reply.payload }

-- it was awaited, or is new, and goes to a component to which an awaited one went
pub record IsAgain (least : ℕ) (j : Job) (a : Awaited) : Type 0 where
  pub above : least ≤ a.command.nonce
  pub former : Awaited
  pub awaits : In former j.awaited
  pub component : a.component ≡ former.component

-- the job of file f goes on as this one at the same piece
pub record GoesOnAs (least : ℕ) (i : Input) (f : File) (l : Job) : Type 0 where
  pub job : Job
  pub runs : f.job ≡ Some job
  pub work : l.work ≡ job.work
  pub heard : (x : Heard) → In x l.heard → In x job.heard ⊎ IsHeardNow i f job x
  pub awaited : (a : Awaited) → In a l.awaited → In a job.awaited ⊎ IsAgain least job a

-- so does that of file g, if it reads; what is present stays so
pub record GoesOn (least : ℕ) (i : Input) (f g : File) : Type 0 where
  pub job : (l : Job) → g.job ≡ Some l → is_reading l.work ≡ true → GoesOnAs least i f l
  pub present : (k : ℕ) → IsPresent f.kept.components k → IsPresent g.kept.components k

-- the file's job begins anew, or goes on, and then no note on the file has an event
abbrev pub Turns : (least : ℕ) → State → World → File → Input → Going → Type 0
Turns n t w f i g =
    (n ≤ g.effects.nonce)
    × (BeginsAnew n g.file ⊎ (GoesOn n i f g.file × (notes_events t w f i g.effects.notes ≡ [])))

-- ---- small facts

no_job : (n : ℕ) (f : File) → f.job ≡ None → BeginsAnew n f
no_job n f none j runs = absurd (cc (sym none ∙ runs))

unread : (n : ℕ) (f : File) (j : Job) → f.job ≡ Some j → is_reading j.work ≡ false → BeginsAnew n f
unread n f j runs none l same reads =
    absurd (cc (sym none ∙ ap (λ (y : Job). is_reading y.work) (same_Some j l (sym runs ∙ same)) ∙ reads))

module _ (n : ℕ) (t : State) (w : World) (f : File) (i : Input) where
  abbrev T : Going → Type 0
  T g = Turns n t w f i g

  begun : (g : Going) → IsBegun n g → T g
  begun g b = (b.0, inl b.1)

  -- the job is the same
  pub same_goes : (g : File) → g.job ≡ f.job → g.kept.components ≡ f.kept.components → GoesOn n i f g
  same_goes g job components = record {
    job = λ l runs reads. record {
      job = l;
      runs = sym job ∙ runs;
      work = refl;
      heard = λ x j. inl j;
      awaited = λ a j. inl j;
    };
    present = λ k p. subst (λ (cs : List Component). IsPresent cs k) (sym components) p;
  }

  pub same_turns : (g : Going) → g.file.job ≡ f.job → g.file.kept.components ≡ f.kept.components → n ≤ g.effects.nonce →
      notes_events t w f i g.effects.notes ≡ [] → T g
  same_turns g job components low quiet = (low, inr (same_goes g.file job components, quiet))

  -- a further note without an event
  quiet_more : (g : Going) (kind : NoteKind) →
      ((u : State) → noted u w f i (record { file = g.file.kept.number; kind = kind }) ≡ [])
      → notes_events t w f i g.effects.notes ≡ [] → notes_events t w f i (noting g kind).effects.notes ≡ []
  quiet_more g kind none quiet =
      events_more t w f i g.effects.notes (record { file = g.file.kept.number; kind = kind })
      ∙ ap (λ (es : List Event). es ++ noted (behind_notes t w f i g.effects.notes) w f i
      (record { file = g.file.kept.number; kind = kind })) quiet
      ∙ none (behind_notes t w f i g.effects.notes)

  where_none : (b : Bool) → where_so b [] ≡ []
  where_none true = refl
  where_none false = refl

-- the job waits for the rest, or goes on
waits_begun : (n : ℕ) (g : Going) (j : Job) (work : Work) (rest : List Awaited) (heard : List Heard) → n ≤ g.effects.nonce →
    is_reading work ≡ false → IsBegun n (waits_or_on g j work rest heard)
waits_begun n g j work [] heard low none = walk_on (HasCome n) (IsBegun n) (begin_cases n) j.kind work heard g low
waits_begun n g j work (c ∷ cs) heard low none = (
  low,
  unread n (waits_on g j work c cs heard).file (record { kind = j.kind; work = work; awaited = c ∷ cs; heard = heard }) refl none,
)

-- a component is lost meanwhile
loses_begun : (n : ℕ) (g : Going) (j : Job) (work : Work) (rest : List Awaited) (gone : Bool) → n ≤ g.effects.nonce →
    g.file.job ≡ Some j → j.work ≡ work → IsBegun n (loses g j work rest gone)
unfolding loses
loses_begun n g j (Fetches todo short) rest gone low runs is =
    walk_repairs (HasCome n) (IsBegun n) (begin_cases n) j.kind todo short g low
loses_begun n g j (Stores todo short b) rest gone low runs is =
    waits_begun n g j (Stores todo short true) rest j.heard low refl
loses_begun n g j (Targets t) rest true low runs is =
    walk_gone (HasCome n) (IsBegun n) (begin_cases n) t [] g low
loses_begun n g j (Targets t) rest false low runs is = (low, unread n g.file j runs (ap is_reading is))
loses_begun n g j (Gathers t todo) rest true low runs is =
    walk_gone (HasCome n) (IsBegun n) (begin_cases n) t todo g low
loses_begun n g j (Gathers t todo) rest false low runs is =
    walk_fills (HasCome n) (IsBegun n) (begin_cases n) t todo g low
loses_begun n g j (Fills t todo) rest true low runs is =
    walk_gone (HasCome n) (IsBegun n) (begin_cases n) t todo g low
loses_begun n g j (Fills t todo) rest false low runs is =
    walk_fills (HasCome n) (IsBegun n) (begin_cases n) t todo g low
loses_begun n g j (Checks todo tally) rest gone low runs is =
    walk_audits (HasCome n) (IsBegun n) (begin_cases n) todo tally g low
loses_begun n g j Creates rest gone low runs is = waits_begun n g j Creates rest j.heard low refl
loses_begun n g j Fences rest gone low runs is = waits_begun n g j Fences rest j.heard low refl
loses_begun n g j Lengths rest gone low runs is = waits_begun n g j Lengths rest j.heard low refl

-- components are reported: the file is as it is, and so is the next nonce
pub reports_leave : (g : Going) (ks : List ℕ) (cs : List Component) (k : ℕ) →
    ((reports_from g ks cs k).file ≡ g.file) × ((reports_from g ks cs k).effects.nonce ≡ g.effects.nonce)
unfolding reports_from
reports_leave g ks [] k = (refl, refl)
reports_leave g ks (at ∷ cs) k = reports_leave (noting_if (among k ks) g (Reported k)) ks cs (k + 1)

-- nonces only rise where a drive is declared, or a file is opened
pub declares_rises : (n drive : ℕ) (g : Going) → n ≤ g.effects.nonce → n ≤ (declares g drive).effects.nonce
unfolding declares
declares_rises n drive g low =
    pick (any_on drive g.file.kept.components || targets g.file.job drive)
    (declared_in (with_components g (lose_on drive g.file.kept.components)) drive g.file.job) g (by_job g.file.job refl) low
  where
    pick : (b : Bool) (x y : Going) → n ≤ x.effects.nonce → n ≤ y.effects.nonce → n ≤ (if b then x else y).effects.nonce
    pick true x y p q = p
    pick false x y p q = q

    by_job : (o : Option Job) → g.file.job ≡ o →
        n ≤ (declared_in (with_components g (lose_on drive g.file.kept.components)) drive o).effects.nonce
    by_job None none = low
    by_job (Some j) runs =
        (loses_begun n (with_components g (lose_on drive g.file.kept.components)) j j.work (others_than drive j.awaited)
        (is_target j.work drive) low runs refl).0

fence_begun : (n : ℕ) (kind : JobKind) (format : ℕ) (g : Going) → n ≤ g.effects.nonce → IsBegun n (fence_begins kind format g)
fence_begun n kind format g low = walk_fence (HasCome n) (IsBegun n) (begin_cases n) kind format g low

pub opens_rises : (n format : ℕ) (g : Going) → n ≤ g.effects.nonce → n ≤ (opens format g).effects.nonce
unfolding opens opens_fenced
opens_rises n format g low =
    pick (is_unsettled g.file.kept) _ _
    (pick (g.file.kept.tag == GREATEST_TAG) _ _ low (fence_begun n Revoking format g low).0) (by_ready g.file.kept.ready)
  where
    pick : (b : Bool) (x y : Going) → n ≤ x.effects.nonce → n ≤ y.effects.nonce → n ≤ (if b then x else y).effects.nonce
    pick true x y p q = p
    pick false x y p q = q

    by_ready : (b : Bool) → n ≤ (opens_made g b).effects.nonce
    by_ready true = low
    by_ready false = (walk_making (HasCome n) (IsBegun n) (begin_cases n) g low).0

-- a report is taken only of a client that has a grant, so no job runs
pub none_taken : (f : File) → NoneBeside f.job f.kept.grants → (client : ℕ) (report : List IoErr) (ks : List ℕ) →
    return_row f.kept client report ≡ Taken ks → f.job ≡ None
unfolding return_row
none_taken f alone client report ks is = by_job f.job alone
  where
    by_job : (o : Option Job) → NoneBeside o f.kept.grants → o ≡ None
    by_job None h = refl
    by_job (Some j) h =
        absurd (cc (sym (ap (λ (gs : List Grant). by_grant f.kept report (grant_of gs client)) h) ∙ is))

-- ---- the file's own part of a step

module _ (n : ℕ) (t : State) (w : World) (f : File) (i : Input) (m : Effects) (ds : List Drive) (chosen : List ℕ)
    (low : n ≤ m.nonce) (quiet : notes_events t w f i m.notes ≡ []) where
  abbrev T_ : Going → Type 0
  T_ g = Turns n t w f i g

  abbrev go : Going
  go = record { file = f; effects = m; drives = ds; chosen = chosen }

  here : Turns n t w f i (record { file = f; effects = m; drives = ds; chosen = chosen })
  here = same_turns n t w f i go refl refl low quiet

  either : (b : Bool) (x y : Going) → T_ x → T_ y → T_ (if b then x else y)
  either true x y p q = p
  either false x y p q = q

  -- ---- a reply

  module _ (now drive : ℕ) (r : Reply) (comes : i ≡ Hears now (FromDrive drive) (Replies r)) (j : Job)
      (runs : f.job ≡ Some j) (a : Awaited) (awaits : In a j.awaited) (answer : answers drive r a ≡ true) where
    -- the command goes out again
    again : (x : Awaited) → In x (map (renewed a (again_in_2 a m.nonce)) j.awaited) → In x j.awaited ⊎ IsAgain n j x
    again x k =
        let y = in_mapped (renewed a (again_in_2 a m.nonce)) x j.awaited k in
        by_test (y.0.command.nonce == a.command.nonce) y.0 y.1 y.2
      where
        by_test : (b : Bool) (y : Awaited) → In y j.awaited → x ≡ (if b then again_in_2 a m.nonce else y) →
            In x j.awaited ⊎ IsAgain n j x
        by_test true y p is = inr (record {
          above = let e = ap (λ (z : Awaited). z.command.nonce) is in omega (arith, low, e);
          former = a;
          awaits = awaits;
          component = ap (λ (z : Awaited). z.component) is;
        })
        by_test false y p is = inl (subst (λ (z : Awaited). In z j.awaited) (sym is) p)

    renews_turn : T_ (renews go j a)
    renews_turn = (
      omega (arith, low),
      inr (
        record {
          job = λ l same reads.
              let it : record j { awaited = map (renewed a (again_in_2 a m.nonce)) j.awaited } ≡ l = same_Some _ l same in
              record {
                job = j;
                runs = runs;
                work = ap (λ (y : Job). y.work) (sym it);
                heard = λ x k. inl (subst (In x) (ap (λ (y : Job). y.heard) (sym it)) k);
                awaited = λ x k. again x (subst (In x) (ap (λ (y : Job). y.awaited) (sym it)) k);
              };
          present = λ k p. p;
        },
        quiet,
      ),
    )

    abbrev lacking : Going
    lacking = noting (with_components go (lose_from (a.component ∷ []) f.kept.components 0)) (NoSpace a.component)

    lacks_begun : (work : Work) → j.work ≡ work →
        IsBegun n (loses (noting (with_components go (lose_from (a.component ∷ []) f.kept.components 0)) (NoSpace a.component)) j
        work (others j.awaited a.command.nonce) false)
    lacks_begun work is = loses_begun n lacking j work (others j.awaited a.command.nonce) false low runs is

    full_begun : (work : Work) → j.work ≡ work → IsBegun n (fills_up go j a work)
    full_begun (Targets u) is = walk_full (HasCome n) (IsBegun n) (begin_cases n) u [] go low
    full_begun (Gathers u todo) is = walk_full (HasCome n) (IsBegun n) (begin_cases n) u todo go low
    full_begun (Fills u todo) is = walk_full (HasCome n) (IsBegun n) (begin_cases n) u todo go low
    full_begun Creates is = lacks_begun Creates is
    full_begun Fences is = lacks_begun Fences is
    full_begun (Fetches todo short) is = lacks_begun (Fetches todo short) is
    full_begun (Stores todo short b) is = lacks_begun (Stores todo short b) is
    full_begun Lengths is = lacks_begun Lengths is
    full_begun (Checks todo u) is = lacks_begun (Checks todo u) is

    -- the job waits for the rest, or goes on
    done_turn : hearing f.kept a r ≡ Done → (rest : List Awaited) → others j.awaited a.command.nonce ≡ rest →
        T_ (waits_or_on go j j.work rest (heard_with j a r))
    done_turn is [] none =
        begun n t w f i (waits_or_on go j j.work [] (heard_with j a r))
        (walk_on (HasCome n) (IsBegun n) (begin_cases n) j.kind j.work (heard_with j a r) go low)
    done_turn is (c ∷ cs) left = (
      low,
      inr (
        record {
          job = λ l same reads.
              let it : record { kind = j.kind; work = j.work; awaited = c ∷ cs; heard = heard_with j a r } ≡ l =
              same_Some _ l same in
              record {
                job = j;
                runs = runs;
                work = ap (λ (y : Job). y.work) (sym it);
                heard = λ x k. elim (in_either x j.heard _ (subst (In x) (ap (λ (y : Job). y.heard) (sym it)) k)) [
                  | inl old ↦ inl old
                  | inr (inl e) ↦ inr (record {
                    now = now;
                    drive = drive;
                    reply = r;
                    awaited = a;
                    comes = comes;
                    awaits = awaits;
                    answer = answer;
                    is_done = is;
                    is = e;
                  })
                  | inr (inr none) ↦ absurd none
                ];
                awaited = λ x k.
                    inl (in_filtered (λ (y : Awaited). not (y.command.nonce == a.command.nonce)) x j.awaited
                    (subst (In x) (sym left) (subst (In x) (ap (λ (y : Job). y.awaited) (sym it)) k))).0;
              };
          present = λ k p. p;
        },
        quiet,
      ),
    )

    pub hears_turn : (x : Hearing) → hearing f.kept a r ≡ x → T_ (hears go j a r x)
    hears_turn Older is = renews_turn
    hears_turn Full is = begun n t w f i (fills_up go j a j.work) (full_begun j.work refl)
    hears_turn Done is = done_turn is (others j.awaited a.command.nonce) refl
    hears_turn Nothing is = here

  -- ---- a fence, a declaration, an opening

  pub fence_turn : (kind : JobKind) (format : ℕ) → T_ (fence_begins kind format go)
  fence_turn kind format = begun n t w f i (fence_begins kind format go) (fence_begun n kind format go low)

  pub declares_turn : (drive : ℕ) → T_ (declares go drive)
  unfolding declares
  declares_turn drive =
      either (any_on drive f.kept.components || targets f.job drive) (declared_in h drive f.job) go (by_job f.job refl) here
    where
      h : Going
      h = with_components go (lose_on drive f.kept.components)

      by_job : (o : Option Job) → f.job ≡ o → T_ (declared_in h drive o)
      by_job None none = (low, inl (no_job n h.file none))
      by_job (Some j) runs =
          begun n t w f i (loses h j j.work (others_than drive j.awaited) (is_target j.work drive))
          (loses_begun n h j j.work (others_than drive j.awaited) (is_target j.work drive) low runs refl)

  spends : Turns n t w f i (opens_spent (record { file = f; effects = m; drives = ds; chosen = chosen }))
  spends =
      let g : Going = record go { file = record f { spent = true } } in
      same_turns n t w f i (opens_spent go) refl refl low
      (quiet_more n t w f i g Spent (λ u. where_none n t w f i (f.kept.number == f.kept.number)) quiet)

  pub opens_turn : (format : ℕ) → T_ (opens format go)
  unfolding opens opens_fenced
  opens_turn format =
      either (is_unsettled f.kept) _ _
      (either (f.kept.tag == GREATEST_TAG) _ _ spends (fence_turn Revoking format))
      (by_ready f.kept.ready)
    where
      by_ready : (b : Bool) → T_ (opens_made go b)
      by_ready true = (low, inl (no_job n (over go).file refl))
      by_ready false = begun n t w f i (making go) (walk_making (HasCome n) (IsBegun n) (begin_cases n) go low)

  -- ---- a request

  abbrev S : Served → Type 0
  S v = T_ v.going

  either_served : (b : Bool) (x y : Served) → S x → S y → S (if b then x else y)
  either_served true x y p q = p
  either_served false x y p q = q

  spent : Turns n t w f i (noting (record { file = f; effects = m; drives = ds; chosen = chosen }) Spent)
  spent =
      same_turns n t w f i (noting go Spent) refl refl low
      (quiet_more n t w f i go Spent (λ u. where_none n t w f i (f.kept.number == f.kept.number)) quiet)

  -- a file whose job is begun gets a grant
  begun_late : (g : Going) (x : Grant) (l : Late) → IsBegun n g → S (by_late g x l)
  begun_late g x NoNumber b = begun n t w f i g b
  begun_late g x (Lacks k) b = begun n t w f i g b
  begun_late g x (Conflict holder) b = begun n t w f i g b
  begun_late g x Gives b = (
    b.0,
    inl (λ j runs reads. let k = b.1 j runs reads in record {
      silent = k.silent;
      above = k.above;
      present = k.present;
    }),
  )

  given_late : (x : Grant) (l : Late) → S (by_late go x l)
  given_late x NoNumber = here
  given_late x (Lacks k) = here
  given_late x (Conflict holder) = here
  given_late x Gives = same_turns n t w f i (by_late go x Gives).going refl refl low quiet

  given_turn : (next : ℕ) (x : Grant) → S (give_or_refuse go next x)
  unfolding give_or_refuse
  given_turn next x = given_late x (late f.kept next x)

  behind_fence : (g : Going) (next : ℕ) (x : Grant) (o : Option Job) → IsBegun n g → S (after_fence g next x o)
  unfolding give_or_refuse
  behind_fence g next x None b = begun_late g x (late g.file.kept next x) b
  behind_fence g next x (Some j) b = begun n t w f i g b

  first_turn : (next format : ℕ) (x : Grant) → S (fence_first go next format x)
  unfolding fence_first
  first_turn next format x =
      either_served (f.kept.tag == GREATEST_TAG) _ _ spent
      (behind_fence (fence_begins Revoking format go) next x (fence_begins Revoking format go).file.job
      (fence_begun n Revoking format go low))

  early_turn : (next format now : ℕ) (x : Grant) (e : Early) → S (by_early go next format now x e)
  unfolding on_grants
  early_turn next format now x BadMode = here
  early_turn next format now x Invalid = here
  early_turn next format now x Unable = here
  early_turn next format now x (Waits k) = here
  early_turn next format now x On =
      either_served (must_fence now f.kept.grants x) _ _ (first_turn next format x) (given_turn next x)

  commit_turn : (c : Committed) → S (by_commit go c)
  commit_turn NoGrant = here
  commit_turn Wrong = here
  commit_turn (Sizes size) = same_turns n t w f i (by_commit go (Sizes size)).going refl refl low quiet

  return_turn : (format client : ℕ) (r : Returned) → ((ks : List ℕ) → r ≡ Taken ks → f.job ≡ None) →
      S (by_return go format client r)
  unfolding takes_loss
  return_turn format client NotHeld idle = here
  return_turn format client Clean idle =
      same_turns n t w f i (by_return go format client Clean).going refl refl low quiet
  return_turn format client (Taken ks) idle =
      let lost : Going = keeping go (record f.kept { components = lose_from ks f.kept.components 0 }) in
      let r = reports_leave lost ks f.kept.components 0 in (
        omega (arith, low, r.1),
        inl (no_job n (by_return go format client (Taken ks)).going.file
            (ap (λ (y : File). y.job) r.0 ∙ idle ks refl)),
      )
  return_turn format client TooMany idle = spent
  return_turn format client ToFence idle = fence_turn Revoking format

  pub serves_turn : IsSafe f → (next format now client : ℕ) (args : RequestArgs) → S (serves go next format now client args)
  unfolding gets commits returns_on
  serves_turn safe next format now client (Get iomode offset count) = early_turn next format now _ _
  serves_turn safe next format now client (Commit last) = commit_turn (commit_row f.kept client last)
  serves_turn safe next format now client (Return report) =
      return_turn format client (return_row f.kept client report) (none_taken f safe.alone client report)
