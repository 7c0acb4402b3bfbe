-- What a job awaits it awaits behind a step too, unless one of a few causes ends that.
use Rattle.std.proofs.Common.{◌≡◌, ◌⊎◌, ◌==◌, ◌&&◌, ◌||◌, ℕ, Bool, true, false, not, nat_le, find, is_some, map, List, [], ◌∷◌, Option, Some, None, refl, sym, ap, subst, ◌∙◌, arith, inl, inr, if◌then◌else◌}
use Rattle.std.proofs.lemmas.Bool.{cases_Bool, cases_eq, ne_eqb}
use Rattle.std.proofs.lemmas.Bool.Decides.{nat_tests}
use Rattle.osd_lists.specs.declared.node.Node.{Node}
use Rattle.osd_lists.specs.declared.node.Node.TheVariants.{Server as FromServer, Drive as FromDrive, Client as FromClient}
use Rattle.server_rules.specs.declared.limits.TheConstants.{MAX_CLIENT, GREATEST_TAG}
use Rattle.server_rules.specs.Commands.{again_in_2}
use Rattle.server_rules.specs.Files.{Step, file_at, put_file, add_file, at_file, begins}
use Rattle.server_rules.specs.Going.{Going, with_components}
use Rattle.server_rules.specs.History.{Input, Hears, Makes, Obeys, Adds, Zones, Formats, Resends, Crashes, Opens as OpensAgain, unless_made, step}
use Rattle.server_rules.specs.Jobs.{fence_begins, making, loses, others_than, is_target, targets, declares, declared_in as lost_in}
use Rattle.server_rules.specs.Laws.{In, NoneBeside, AreSafe}
use Rattle.server_rules.specs.Making.{refusal, unless_refused, makes_file, with_file, unmade, drives_for, create_file}
use Rattle.server_rules.specs.Messages.{Message, Asks, Replies, Orders, awaited_by, counters_have_room, or_else, heard_at, by_heard, on_drive_reply, handled, on_message}
use Rattle.server_rules.specs.Orders.{begins_job, starts, recalls_on, declares_known, ordered, offline, declare, declares_each}
use Rattle.server_rules.specs.Replies.{Hearing, Older, Full, Done, Nothing, answers, others, renewed, heard_with, hearing, hears, heard_by, heard_in, on_reply}
use Rattle.server_rules.specs.Requests.{serves, on_request}
use Rattle.server_rules.specs.Standing.{any_on, lose_on}
use Rattle.server_rules.proofs.FileLaws.{number_at, not_there}
use Rattle.server_rules.proofs.Members.{in_map, in_filter}
use Rattle.world_history.specs.ServerNames.{Server, File, Drive, Job, JobKind, Revoking, Rebuilding, Auditing, Awaited, Reply, OrderKind, ToRecall, ToRevoke, ToDeclare, ToRebuild, ToAudit, ClientRequest, RequestArgs, RawMap, Refusal, Effects}
use Rattle.world_history.specs.Book.{awaited_in}
use Rattle.history_law.proofs.Files.{in_at, safe_in}
use Rattle.history_law.proofs.Steps.{each_request}
use Rattle.history_law.proofs.JobFiles.{found_file, put_there}
use Rattle.history_law.proofs.Fences.{handled_fence}
use Rattle.history_law.proofs.Hearing.{found_in, goes_hears}
use Rattle.history_law.proofs.Asking.{handled_served, handled_declares}
use Rattle.component_law.specs.Going.{declared_by, declared_in, if_known, taken_out}
use Rattle.component_law.specs.Distinct.{AreDistinct}
use Rattle.cause_law.specs.Awaiting.{Answers}
use Rattle.cause_law.specs.AwaitedEnds.{Ends, Answered, Filled, Declared, Stopped, waits_for_all, begins_again, Without}
use Rattle.cause_law.proofs.Changing.{at_place}
use Rattle.cause_law.proofs.TagSteps.{R}
use Rattle.cause_law.proofs.AwaitedRests.{others_there, added_there, none_has, serves_leaves, rest_waits, lost_waits, full_waits}
use Rattle.cause_law.proofs.AwaitedAnswered.{AreOne, AreAlone, its_nonce}

-- ---- a reply

its_drive : (d : ℕ) (r : Reply) (a : Awaited) → answers d r a ≡ true → a.drive ≡ d
its_drive d r a e = grind (arith, e, nat_tests)

module _ (s : Server) (chosen : List ℕ) (d : ℕ) (r : Reply) where
  -- what a file of these did with the reply
  record IsHeardBy (fs : List File) (h : Going) : Type 0 where
    file : File
    there : In file fs
    job : Job
    awaited : Awaited
    runs : file.job ≡ Some job
    among : In awaited job.awaited
    its : answers d r awaited ≡ true
    is : h ≡ hears (at_file s chosen file) job awaited r (hearing file.kept awaited r)

  heard_behind : (x : File) (fs : List File) (h : Going) → IsHeardBy fs h → IsHeardBy (x ∷ fs) h
  heard_behind x fs h e = record {
    file = e.file;
    there = inr e.there;
    job = e.job;
    awaited = e.awaited;
    runs = e.runs;
    among = e.among;
    its = e.its;
    is = e.is;
  }

  heard_some : (fs : List File) (h : Going) → heard_at s chosen d r fs ≡ Some h → IsHeardBy fs h
  unfolding heard_at on_reply
  heard_some [] h e = absurd (cc e)
  heard_some (x ∷ fs) h e = of_job x.job refl e (λ q. heard_behind x fs h (heard_some fs h q))
    where
      own : (u v : Going) → Some u ≡ Some v → u ≡ v
      own u v q = cc q

      of_found : (j : Job) → x.job ≡ Some j → (o : Option Awaited) → find (answers d r) j.awaited ≡ o
          → or_else (heard_by (at_file s chosen x) r j o) (heard_at s chosen d r fs) ≡ Some h
          → (heard_at s chosen d r fs ≡ Some h → IsHeardBy (x ∷ fs) h) → IsHeardBy (x ∷ fs) h
      of_found j runs None none q rest = rest q
      of_found j runs (Some b) found q rest =
          let it = found_in (answers d r) j.awaited b found in
          record {
            file = x;
            there = inl refl;
            job = j;
            awaited = b;
            runs = runs;
            among = it.0;
            its = it.1;
            is = sym (own _ h q);
          }

      of_job : (o : Option Job) → x.job ≡ o
          → or_else (heard_in (at_file s chosen x) d r o) (heard_at s chosen d r fs) ≡ Some h
          → (heard_at s chosen d r fs ≡ Some h → IsHeardBy (x ∷ fs) h) → IsHeardBy (x ∷ fs) h
      of_job None none q rest = rest q
      of_job (Some j) runs q rest = of_found j runs (find (answers d r) j.awaited) refl q rest

-- ---- a step

module _ (s : Server) (chosen : List ℕ) (i : Input) (safe : AreSafe s.files) (one : AreOne s.files) (alone : AreAlone s.files)
  where
    -- the file awaits it still, or not any more for a cause
    abbrev Stays : List File → File → Awaited → Type 0
    Stays gs f a =
        ((g : File) × In g gs × (g.kept.number ≡ f.kept.number) × In a (awaited_by g.job)) ⊎ Ends s i f a

    abbrev Q : List File → Type 0
    Q gs = (f : File) → In f s.files → (a : Awaited) → In a (awaited_by f.job) → Stays gs f a

    stay : Q s.files
    stay f j a k = inl (f, j, refl, k)

    put_q : (n : ℕ) (x h : File) → In x s.files → x.kept.number ≡ n → h.kept.number ≡ n
        → ((a : Awaited) → In a (awaited_by x.job) → In a (awaited_by h.job) ⊎ Ends s i x a) → Q (put_file s.files n h)
    put_q n x h there is its goes f j a k = elim (cases_eq f.kept.number n) [
      | inr o ↦ inl (f, others_there s.files n h f j o, refl, k)
      | inl e ↦
          let same : f ≡ x = one f x j there (e ∙ sym is) in
          elim (goes a (subst (λ (y : File). In a (awaited_by y.job)) same k)) [
            | inl l ↦ inl (h, put_there s.files n h x there is, its ∙ sym e, l)
            | inr w ↦ inr (subst (λ (y : File). Ends s i y a) (sym same) w)
          ]
    ]

    -- ---- a request

    serves_on : (f : File) → In f s.files → (next format now client : ℕ) (args : RequestArgs) (a : Awaited)
        → In a (awaited_by f.job) → In a (awaited_by (serves (at_file s chosen f) next format now client args).going.file.job)
    serves_on f there next format now client args a k = by f.job refl
      where
        by : (o : Option Job) → f.job ≡ o
            → In a (awaited_by (serves (at_file s chosen f) next format now client args).going.file.job)
        by None none = absurd (subst (λ (o : Option Job). In a (awaited_by o)) none k)
        by (Some j) runs =
            subst (λ (o : Option Job). In a (awaited_by o))
            (sym (serves_leaves (at_file s chosen f) next format now client args j runs
            (no_grant f.job runs (safe_in s.files safe f there).alone))) k
          where
            no_grant : (o : Option Job) → o ≡ Some j → NoneBeside o f.kept.grants
                → f.kept.grants ≡ []
            no_grant None e n = absurd (cc e)
            no_grant (Some x) e n = n

    asked : (now : ℕ) (q : ClientRequest) → Q (on_request s now chosen q).state.files
    asked now q =
        each_request s now chosen q (λ (t : Step). Q t.state.files) (record {
          again = λ kept e. stay;
          misordered = λ expected e. stay;
          without = λ new none. stay;
          served = λ new f found.
              let it = found_file s.files q.file f found in
              put_q q.file f (serves (at_file s chosen f) s.next_grant s.format now q.client q.args).going.file it.0 it.1
              ((handled_served R (at_file s chosen f) s.next_grant s.format now q.client q.args).goes.number_is ∙ it.1)
              (λ a k. inl (serves_on f it.0 s.next_grant s.format now q.client q.args a k));
        })

    -- ---- a reply

    module _ (now d : ℕ) (r : Reply) (comes : i ≡ Hears now (FromDrive d) (Replies r)) (room : counters_have_room s ≡ true)
      where
        module _ (h : Going) (x : IsHeardBy s chosen d r s.files h) where
          abbrev answers_it : (hearing x.file.kept x.awaited r ≡ Nothing → ⊥) → Answers s i x.file x.awaited
          answers_it counts = record {
            now = now;
            reply = r;
            comes =
                comes ∙ ap (λ (n : ℕ). Hears now (FromDrive n) (Replies r)) (sym (its_drive d r x.awaited x.its));
            room = room;
            nonce = sym (its_nonce d r x.awaited x.its);
            counts = counts;
          }

          in_file : (b : Awaited) → In b x.job.awaited → In b (awaited_by x.file.job)
          in_file b k = subst (λ (o : Option Job). In b (awaited_by o)) (sym x.runs) k

          same_command : (a : Awaited) → In a x.job.awaited → a.command.nonce ≡ x.awaited.command.nonce → a ≡ x.awaited
          same_command a k e =
              alone a x.awaited (x.file, x.there, in_file a k) (x.file, x.there, in_file x.awaited x.among) e

          its_end : (a : Awaited) → In a x.job.awaited → (hearing x.file.kept x.awaited r ≡ Nothing → ⊥)
              → a.command.nonce ≡ x.awaited.command.nonce → Ends s i x.file a
          its_end a k counts e =
              subst (λ (b : Awaited). Ends s i x.file b) (sym (same_command a k e)) (Answered (answers_it counts))

          abbrev Heard_ : Hearing → Going
          Heard_ v = hears (at_file s chosen x.file) x.job x.awaited r v

          by_hearing : (v : Hearing) → hearing x.file.kept x.awaited r ≡ v → (a : Awaited) → In a x.job.awaited
              → In a (awaited_by (Heard_ v).file.job) ⊎ Ends s i x.file a
          by_hearing Nothing is a k = inl (in_file a k)
          by_hearing Older is a k = elim (cases_eq a.command.nonce x.awaited.command.nonce) [
            | inl e ↦ inr (its_end a k (λ q. cc (sym is ∙ q)) e)
            | inr o ↦
                let b : Awaited = again_in_2 x.awaited s.next_nonce in
                inl (subst (λ (y : Awaited). In y (map (renewed x.awaited b) x.job.awaited))
                (ap (λ (t : Bool). if t then b else a) (ne_eqb a.command.nonce x.awaited.command.nonce o))
                (in_map (renewed x.awaited b) a x.job.awaited k))
          ]
          by_hearing Done is a k = elim (cases_eq a.command.nonce x.awaited.command.nonce) [
            | inl e ↦ inr (its_end a k (λ q. cc (sym is ∙ q)) e)
            | inr o ↦
                inl (rest_waits (at_file s chosen x.file) x.job x.job.work (others x.job.awaited x.awaited.command.nonce)
                (heard_with x.job x.awaited r) a
                (in_filter _ a x.job.awaited k (ap not (ne_eqb a.command.nonce x.awaited.command.nonce o))))
          ]
          by_hearing Full is a k = elim (cases_eq a.command.nonce x.awaited.command.nonce) [
            | inl e ↦ inr (its_end a k (λ q. cc (sym is ∙ q)) e)
            | inr o ↦
                of_kind (waits_for_all x.job.work) refl
                (in_filter _ a x.job.awaited k (ap not (ne_eqb a.command.nonce x.awaited.command.nonce o)))
          ]
            where
              of_kind : (b : Bool) → waits_for_all x.job.work ≡ b → In a (others x.job.awaited x.awaited.command.nonce)
                  → In a (awaited_by (Heard_ Full).file.job) ⊎ Ends s i x.file a
              of_kind true w l = inl (full_waits (at_file s chosen x.file) x.job x.awaited x.job.work a w l)
              of_kind false w l =
                  inr (Filled x.awaited (in_file x.awaited x.among) (answers_it (λ q. cc (sym is ∙ q))) is
                  (ap begins_again x.runs ∙ ap not w))

          heard_q : Q (put_file s.files h.file.kept.number h.file)
          heard_q =
              let number : h.file.kept.number ≡ x.file.kept.number =
              ap (λ (g : Going). g.file.kept.number) x.is
              ∙ (goes_hears (at_file s chosen x.file) x.job x.awaited r (hearing x.file.kept x.awaited r) x.among
              in_file).number_is in
              put_q h.file.kept.number x.file h.file x.there (sym number) refl (λ a k.
              subst (λ (g : Going). In a (awaited_by g.file.job) ⊎ Ends s i x.file a) (sym x.is)
              (by_hearing (hearing x.file.kept x.awaited r) refl a
              (subst (λ (o : Option Job). In a (awaited_by o)) x.runs k)))

        replied : Q (on_drive_reply s chosen d r).state.files
        unfolding on_drive_reply
        replied = by (heard_at s chosen d r s.files) refl
          where
            by : (o : Option Going) → heard_at s chosen d r s.files ≡ o → Q (by_heard s o).state.files
            by None e = stay
            by (Some h) e = heard_q h (heard_some s chosen d r s.files h e)

    -- ---- an order

    begun : (kind : JobKind) (n : ℕ) (f : File) → file_at s.files n ≡ Some f → (o : Option Job) → f.job ≡ o
        → Q (begins_job s chosen kind f o).step.state.files
    begun kind n f found (Some j) runs =
        put_q f.kept.number f f (in_at s.files n f found) refl refl (λ a k. inl k)
    begun kind n f found None free = elim (cases_Bool (f.kept.tag == GREATEST_TAG)) [
      | inl t ↦ rw t (put_q f.kept.number f f (in_at s.files n f found) refl refl (λ a k. inl k))
      | inr z ↦
          rw z (put_q f.kept.number f (fence_begins kind s.format (at_file s chosen f)).file (in_at s.files n f found) refl
          (handled_fence R kind s.format (at_file s chosen f)).goes.number_is
          (λ a k. absurd (subst (λ (o : Option Job). In a (awaited_by o)) free k)))
    ]

    started : (kind : JobKind) (n : ℕ) (o : Option File) → file_at s.files n ≡ o → Q (starts s chosen kind o).step.state.files
    started kind n None e = stay
    started kind n (Some f) e = begun kind n f e f.job refl

    recalled : (o : Option File) → Q (recalls_on s o).step.state.files
    recalled None = stay
    recalled (Some f) = stay

    module _ (d : ℕ) (out : taken_out s i ≡ Some d) where
      declares_goes : (g : Going) (a : Awaited) → In a (awaited_by g.file.job)
          → In a (awaited_by (declares g d).file.job) ⊎ Ends s i g.file a
      unfolding declares
      declares_goes g a k = by (any_on d g.file.kept.components || targets g.file.job d)
        where
          h : Going
          h = with_components g (lose_on d g.file.kept.components)

          of_kind : (j : Job) → g.file.job ≡ Some j → (a.drive ≡ d → ⊥) → (b : Bool) → waits_for_all j.work ≡ b
              → In a (awaited_by (loses h j j.work (others_than d j.awaited) (is_target j.work d)).file.job)
              ⊎ Ends s i g.file a
          of_kind j e other true w =
              inl (lost_waits h j j.work (others_than d j.awaited) (is_target j.work d) a w
              (in_filter _ a j.awaited (subst (λ (o : Option Job). In a (awaited_by o)) e k) (ap not (ne_eqb a.drive d other))))
          of_kind j e other false w = inr (Without d out (ap begins_again e ∙ ap not w))

          of_job : (o : Option Job) → g.file.job ≡ o
              → In a (awaited_by (lost_in h d o).file.job) ⊎ Ends s i g.file a
          of_job None e = absurd (subst (λ (o : Option Job). In a (awaited_by o)) e k)
          of_job (Some j) e = elim (cases_eq a.drive d) [
            | inl same ↦ inr (Declared (out ∙ ap (λ (n : ℕ). Some n) (sym same)))
            | inr other ↦ of_kind j e other (waits_for_all j.work) refl
          ]

          by : (b : Bool) → In a (awaited_by (if b then lost_in h d g.file.job else g).file.job) ⊎ Ends s i g.file a
          by false = inl k
          by true = of_job g.file.job refl

      all_declared : (ds : List Drive) (fs : List File) (m : Effects) (placed : List ℕ) → (f : File) → In f fs
          → (a : Awaited) → In a (awaited_by f.job) → Stays (declares_each d ds fs m placed).files f a
      unfolding declares_each
      all_declared ds [] m placed f j a k = absurd j
      all_declared ds (x ∷ fs) m placed f (inl same) a k =
          let g : Going = record { file = x; effects = m; drives = ds; chosen = placed } in
          let number : (declares g d).file.kept.number ≡ x.kept.number = (handled_declares R g d).goes.number_is in
          elim (declares_goes g a (subst (λ (y : File). In a (awaited_by y.job)) same k)) [
            | inl l ↦
                inl ((declares g d).file, inl refl, number ∙ sym (ap (λ (y : File). y.kept.number) same), l)
            | inr w ↦ inr (subst (λ (y : File). Ends s i y a) (sym same) w)
          ]
      all_declared ds (x ∷ fs) m placed f (inr j) a k =
          let g : Going = record { file = x; effects = m; drives = ds; chosen = placed } in
          elim (all_declared ds fs (declares g d).effects (declares g d).chosen f j a k) [
            | inl (y, there, number, l) ↦ inl (y, inr there, number, l)
            | inr w ↦ inr w
          ]

    declared : (n : ℕ) (b : Bool) → (b ≡ true → taken_out s i ≡ Some n) → Q (declares_known s chosen n b).step.state.files
    unfolding declare
    declared n true out = all_declared n (out refl) (offline s.drives n) s.files (begins s) chosen
    declared n false out = stay

    obeyed : (kind : OrderKind) (n : ℕ) → taken_out s i ≡ if_known s (declared_by kind n)
        → Q (ordered s chosen kind n).step.state.files
    unfolding ordered
    obeyed ToRecall n out = recalled (file_at s.files n)
    obeyed ToRevoke n out = started Revoking n (file_at s.files n) refl
    obeyed ToDeclare n out =
        declared n (is_some (find (λ (d : Drive). d.number == n) s.drives))
        (λ known. out ∙ ap (λ (b : Bool). if b then Some n else None) known)
    obeyed ToRebuild n out = started Rebuilding n (file_at s.files n) refl
    obeyed ToAudit n out = started Auditing n (file_at s.files n) refl

    -- ---- a message

    either : (b : Bool) (t u : Step) → Q t.state.files → Q u.state.files → Q (if b then t else u).state.files
    either true t u p q = p
    either false t u p q = q

    message_q : (now : ℕ) (from : Node) (m : Message) → i ≡ Hears now from m → counters_have_room s ≡ true
        → taken_out s i ≡ if_known s (declared_in (Hears now from m)) → Q (handled s now chosen from m).state.files
    message_q now (FromClient c) (Asks q) is room out = either ((q.client == c) && nat_le c MAX_CLIENT) _ _ (asked now q) stay
    message_q now (FromDrive d) (Replies r) is room out = replied now d r is room
    message_q now FromServer (Orders o) is room out = obeyed o.order o.target out
    message_q now from m is room out = stay

    heard_message : (now : ℕ) (from : Node) (m : Message) → i ≡ Hears now from m → (b : Bool) → counters_have_room s ≡ b
        → Q (if b then handled s now chosen from m else record { state = s; sends = []; notes = []; mended = [] }).state.files
    heard_message now from m is true room =
        message_q now from m is room (ap (taken_out s) is
        ∙ ap (λ (b : Bool). if b then if_known s (declared_in (Hears now from m)) else None) room)
    heard_message now from m is false full = stay

    -- ---- a file is made

    made : (n : ℕ) (m : RawMap) (zoned : Bool) (f : File) (o : Option Refusal) → refusal s n m zoned ≡ o
        → f.kept.number ≡ n → Q (unless_made s (unless_refused o (makes_file s f))).state.files
    made n m zoned f (Some why) e is = stay
    made n m zoned f None e is = λ g j a k.
        inl (
          g,
          others_there (add_file s.files f) f.kept.number (making (at_file (with_file s f) [] f)).file g
              (added_there s.files f g j) (λ same. none_has s.files n g j (same ∙ is) (not_there s n m zoned e)),
          refl,
          k,
        )

    created : (n : ℕ) (m : RawMap) (tag : ℕ) (zoned : Bool) → Q (unless_made s (create_file s n m tag zoned chosen)).state.files
    unfolding create_file
    created n m tag zoned =
        made n m zoned (unmade s n m tag zoned (drives_for zoned s.drives m chosen)) (refusal s n m zoned) refl refl

-- ---- any step

ends_so : (s : Server) (chosen : List ℕ) (i : Input) (safe : AreSafe s.files) (one : AreOne s.files)
    (alone : AreAlone s.files) → Q s chosen i safe one alone (step s chosen i).state.files
unfolding on_message
ends_so s chosen (Hears now from m) safe one alone =
    heard_message s chosen (Hears now from m) safe one alone now from m refl (counters_have_room s) refl
ends_so s chosen (Makes n m tag zoned) safe one alone = created s chosen (Makes n m tag zoned) safe one alone n m tag zoned
ends_so s chosen (Obeys kind n) safe one alone = obeyed s chosen (Obeys kind n) safe one alone kind n refl
ends_so s chosen (Adds d) safe one alone = stay s chosen (Adds d) safe one alone
ends_so s chosen (Zones d zone) safe one alone = stay s chosen (Zones d zone) safe one alone
ends_so s chosen (Formats n) safe one alone = stay s chosen (Formats n) safe one alone
ends_so s chosen Resends safe one alone = stay s chosen Resends safe one alone
ends_so s chosen Crashes safe one alone = λ f j a k. inr (Stopped (inl refl))
ends_so s chosen OpensAgain safe one alone = λ f j a k. inr (Stopped (inr refl))

-- of the file of a number
pub awaits_or_ends : (s : Server) (chosen : List ℕ) (i : Input) → AreSafe s.files → AreOne s.files → AreAlone s.files
    → AreDistinct (step s chosen i).state.files → (n : ℕ) (f : File) → file_at s.files n ≡ Some f → (a : Awaited)
    → In a (awaited_by f.job) → In a (awaited_in (file_at (step s chosen i).state.files n)) ⊎ Ends s i f a
awaits_or_ends s chosen i safe one alone distinct n f found a k =
    elim (ends_so s chosen i safe one alone f (in_at s.files n f found) a k) [
      | inr w ↦ inr w
      | inl (g, there, number, l) ↦
          let behind : file_at (step s chosen i).state.files n ≡ Some g =
          subst (λ (x : ℕ). file_at (step s chosen i).state.files x ≡ Some g) (number ∙ number_at s.files n f found)
          (at_place (step s chosen i).state.files g distinct there) in
          inl (subst (λ (o : Option File). In a (awaited_in o)) (sym behind) l)
    ]
