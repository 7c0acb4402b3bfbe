-- What a step of the server makes of the formats of all files, and of its own.
use Rattle.std.proofs.Common.{◌≡◌, ◌⊎◌, ◌==◌, ℕ, Bool, true, false, true≢false, List, [], Option, None, refl, sym, ap, subst, ◌∙◌, inl, inr, if◌then◌else◌}
use Rattle.std.proofs.lemmas.Bool.{and_parts, eqb-true}
use Rattle.osd_lists.specs.declared.node.Node.TheVariants.{Drive as FromDrive}
use Rattle.server_rules.specs.Files.{Step, begins, still, file_at, put_file, add_file, at_file, step_at}
use Rattle.server_rules.specs.Going.{Going}
use Rattle.server_rules.specs.History.{Input, Hears, Makes, Obeys, Adds, Zones, Formats, Resends, Crashes, Opens, step}
use Rattle.server_rules.specs.Jobs.{making, declares, fence_begins}
use Rattle.server_rules.specs.Laws.{In, AreSafe}
use Rattle.server_rules.specs.Making.{with_file}
use Rattle.server_rules.specs.Messages.{Replies, awaited_by, counters_have_room}
use Rattle.server_rules.specs.Openings.{crashed_file, opens_each, reopen}
use Rattle.server_rules.specs.Orders.{offline, declare}
use Rattle.server_rules.specs.Replies.{Older, answers, hearing}
use Rattle.server_rules.specs.Requests.{serves, on_request}
use Rattle.server_rules.specs.Rounds.{step_round}
use Rattle.server_rules.proofs.FileLaws.{not_there}
use Rattle.server_rules.proofs.Runs.{ran_making}
use Rattle.world_history.specs.ServerNames.{Server, File, Awaited, Job, ClientRequest}
use Rattle.history_law.specs.Fencing.{is_fencing}
use Rattle.history_law.specs.Steps.{Answering, IsAnswering, answered_file, new_file, StepCases}
use Rattle.history_law.proofs.Files as Files
use Rattle.history_law.proofs.Files.{in_at, safe_in, put_each, add_each, declared_each, opened_each, crashed_each}
use Rattle.history_law.proofs.Steps.{each_request, each_step}
use Rattle.history_law.proofs.Fences.{handled_fence}
use Rattle.history_law.proofs.Hearing.{found_in, goes_hears as number_hears}
use Rattle.history_law.proofs.Asking.{handled_served, handled_declares, handled_opened}
use Rattle.component_law.specs.Going.{IsMaking}
use Rattle.relation_law.proofs.Walk.{walk_making}
use Rattle.cause_law.specs.Changes.{BeginsFence, ByOrder, ByOpening}
use Rattle.cause_law.proofs.TagSteps.{R}
use Rattle.history_claims.specs.Formats.{IsTooOld, format_behind}
use Rattle.history_claims.proofs.FormatJobs.{Here, End, keeps_on}
use Rattle.history_claims.proofs.FormatSteps.{Went, NoneOld, AnyTag, any_tag, went_still, went_idle, went_declared, went_heard, went_fence, serves_so, opens_so}

-- ---- each file

-- a file comes from one that was there, or is made
abbrev pub FormatAs : Server → Input → File → Type 0
FormatAs s i g =
    ((f : File) × In f s.files × (g.kept.number ≡ f.kept.number) × Went s i f g.kept.format g.kept.tag g.job)
    ⊎ ((file_at s.files g.kept.number ≡ None) × IsMaking i g.kept.number × (g.kept.format ≡ s.format)
    × ((a : Awaited) → In a (awaited_by g.job) → a.command.capability.format ≡ s.format))

module _ (s : Server) (chosen : List ℕ) (i : Input) (safe : AreSafe s.files) where
  abbrev P : Step → Type 0
  P t = Files.Each (FormatAs s i) t.state.files

  was : (f g : File) → In f s.files → g.kept.number ≡ f.kept.number → Went s i f g.kept.format g.kept.tag g.job
      → FormatAs s i g
  was f g there number went = inl (f, there, number, went)

  -- ---- where the server isn't opened

  module _ (never : i ≡ Opens → ⊥) where
    calm : (f : File) → BeginsFence s i f → is_fencing f.job ≡ false
    calm f (ByOrder kind fencing order takes free low) = ap is_fencing free
    calm f (ByOpening is room left low) = absurd (never is)

    stay : Files.Each (FormatAs s i) s.files
    stay f there = was f f there refl (went_still s i f (calm f))

    put_so : (n : ℕ) (f g : File) → In f s.files → g.kept.number ≡ f.kept.number
        → Went s i f g.kept.format g.kept.tag g.job → Files.Each (FormatAs s i) (put_file s.files n g)
    put_so n f g there number went = put_each (FormatAs s i) s.files n g stay (was f g there number went)

    asked : (now : ℕ) (q : ClientRequest) → P (on_request s now chosen q)
    asked now q =
        each_request s now chosen q P (record {
          again = λ kept e. stay;
          misordered = λ expected e. stay;
          without = λ new none. stay;
          served = λ new f found.
              let there : In f s.files = in_at s.files q.file f found in
              put_so q.file f (serves (at_file s chosen f) s.next_grant s.format now q.client q.args).going.file there
              (handled_served R (at_file s chosen f) s.next_grant s.format now q.client q.args).goes.number_is
              (serves_so s i chosen f (safe_in s.files safe f there).alone (went_still s i f (calm f)) s.next_grant now q.client
              q.args);
        })

    answered : (x : Answering) → IsAnswering s i x
        → P (step_at s (answered_file s chosen x).file.kept.number (answered_file s chosen x))
    answered x is =
        put_so (answered_file s chosen x).file.kept.number x.file (answered_file s chosen x).file is.there
        (number_hears (at_file s chosen x.file) x.job x.awaited x.reply (hearing x.file.kept x.awaited x.reply) own.0
        (λ b k. subst (λ (o : Option Job). In b (awaited_by o)) (sym is.runs) k)).number_is
        (went_heard s i x.file (calm x.file) chosen x.job is.runs x.awaited own.0 x.reply too_old
        (hearing x.file.kept x.awaited x.reply) refl)
      where
        own : In x.awaited x.job.awaited × (answers x.drive x.reply x.awaited ≡ true)
        own = found_in (answers x.drive x.reply) x.job.awaited x.awaited is.awaits

        its : (x.awaited.drive ≡ x.drive) × (x.reply.nonce ≡ x.awaited.command.nonce)
        its =
            let both = and_parts (x.awaited.command.nonce == x.reply.nonce) (x.awaited.drive == x.drive) own.1 in
            (eqb-true x.awaited.drive x.drive both.1, sym (eqb-true x.awaited.command.nonce x.reply.nonce both.0))

        too_old : hearing x.file.kept x.awaited x.reply ≡ Older → IsTooOld s i x.file
        too_old e = record {
          awaited = x.awaited;
          there = subst (λ (o : Option Job). In x.awaited (awaited_by o)) (sym is.runs) own.0;
          answers = record {
            now = x.now;
            reply = x.reply;
            comes = is.is ∙ ap (λ (n : ℕ). Hears x.now (FromDrive n) (Replies x.reply)) (sym its.0);
            room = is.low;
            nonce = its.1;
            counts = λ none. cc (sym e ∙ none);
          };
          old = e;
        }

    cases : StepCases s chosen i P
    unfolding declare
    cases = record {
      rests = stay;
      asked = λ now q is. asked now q;
      answered = answered;
      recalled = λ f is. stay;
      refused = λ f is n why.
          let there : In f s.files = in_at s.files is.target f is.found in
          put_so f.kept.number f f there refl (went_still s i f (calm f));
      fenced = λ f is kind free low.
          put_so f.kept.number f (fence_begins kind s.format (at_file s chosen f)).file (in_at s.files is.target f is.found)
          (handled_fence R kind s.format (at_file s chosen f)).goes.number_is
          (went_fence s i kind (at_file s chosen f) (inl (ap is_fencing free)));
      declared = λ d known.
          declared_each (FormatAs s i) d (offline s.drives d) s.files (begins s) chosen (λ f there m placed.
          let g : Going = record { file = f; effects = m; drives = offline s.drives d; chosen = placed } in
          was f (declares g d).file there (handled_declares R g d).goes.number_is (went_declared s i f (calm f) g d refl));
      told = λ t now o is result p. p;
      made = λ n m tag zoned is none.
          let f : File = new_file s chosen n m tag zoned in
          let g : Going = at_file (with_file s f) [] f in
          let absent : file_at s.files n ≡ None = not_there s n m zoned none in
          let begun : IsMaking i n = subst (λ (x : Input). IsMaking x n) (sym is) refl in
          let k : End s.format NoneOld AnyTag AnyTag any_tag (making g) =
          walk_making (Here s.format NoneOld AnyTag AnyTag any_tag) (End s.format NoneOld AnyTag AnyTag any_tag)
          (keeps_on s.format NoneOld AnyTag AnyTag any_tag) g (refl, tt) in
          put_each (FormatAs s i) (add_file s.files f) n (making g).file
          (add_each (FormatAs s i) s.files f stay (inr (absent, begun, refl, λ a j. absurd j)))
          (inr (
            ap (file_at s.files) (ran_making g).number ∙ absent,
            subst (IsMaking i) (sym (ran_making g).number) begun,
            k.format_is,
            λ a j. elim (k.asks a j) [ inl no_ ↦ absurd no_ | inr new ↦ new ],
          ));
      added = λ d is. stay;
      zoned = λ d zone is. stay;
      formats = λ n is. stay;
      resends = λ is. stay;
      crashes = λ is.
          crashed_each (FormatAs s i) s.files (λ f there. was f (crashed_file f) there refl (went_idle s i f (calm f)));
      opened = λ is low. absurd (never is);
    }

    pub formats_step : P (step s chosen i)
    formats_step = each_step s chosen i P cases

-- ---- an opening

pub formats_opened : (s : Server) (chosen : List ℕ) → Files.Each (FormatAs s Opens) (step s chosen Opens).state.files
unfolding reopen
formats_opened s chosen = by (counters_have_room s) refl
  where
    by : (b : Bool) → counters_have_room s ≡ b
        → Files.Each (FormatAs s Opens)
        (if b then step_round s (opens_each s.format s.drives s.files (begins s)) else still s).state.files
    by true room =
        opened_each (FormatAs s Opens) s.format s.drives s.files (begins s) (λ f there m.
        let g : Going = record { file = f; effects = m; drives = s.drives; chosen = [] } in
        inl (f, there, (handled_opened R s.format g).goes.number_is, opens_so s Opens g refl room))
    by false full = λ f there. inl (f, there, refl, went_still s Opens f (calm f))
      where
        calm : (f : File) → BeginsFence s Opens f → is_fencing f.job ≡ false
        calm f (ByOrder kind fencing order takes free low) = ap is_fencing free
        calm f (ByOpening is room left low) = absurd (true≢false (sym room ∙ full))

pub all_formats : (s : Server) (chosen : List ℕ) (i : Input) → AreSafe s.files
    → Files.Each (FormatAs s i) (step s chosen i).state.files
all_formats s chosen Opens safe = formats_opened s chosen
all_formats s chosen (Hears now from m) safe = formats_step s chosen (Hears now from m) safe (λ e. cc e)
all_formats s chosen (Makes n m tag zoned) safe = formats_step s chosen (Makes n m tag zoned) safe (λ e. cc e)
all_formats s chosen (Obeys kind n) safe = formats_step s chosen (Obeys kind n) safe (λ e. cc e)
all_formats s chosen (Adds d) safe = formats_step s chosen (Adds d) safe (λ e. cc e)
all_formats s chosen (Zones d zone) safe = formats_step s chosen (Zones d zone) safe (λ e. cc e)
all_formats s chosen (Formats n) safe = formats_step s chosen (Formats n) safe (λ e. cc e)
all_formats s chosen Resends safe = formats_step s chosen Resends safe (λ e. cc e)
all_formats s chosen Crashes safe = formats_step s chosen Crashes safe (λ e. cc e)

-- ---- the server's own

module _ (s : Server) (chosen : List ℕ) (i : Input) (none : (n : ℕ) → i ≡ Formats n → ⊥) where
  abbrev Same : Step → Type 0
  Same t = t.state.format ≡ s.format

  same_cases : StepCases s chosen i Same
  unfolding declare
  same_cases = record {
    rests = refl;
    asked = λ now q is.
        each_request s now chosen q Same (record {
          again = λ kept e. refl;
          misordered = λ expected e. refl;
          without = λ new gone. refl;
          served = λ new f found. refl;
        });
    answered = λ x is. refl;
    recalled = λ f is. refl;
    refused = λ f is n why. refl;
    fenced = λ f is kind free low. refl;
    declared = λ d known. refl;
    told = λ t now o is result p. p;
    made = λ n m tag zoned is new. refl;
    added = λ d is. refl;
    zoned = λ d zone is. refl;
    formats = λ n is. absurd (none n is);
    resends = λ is. refl;
    crashes = λ is. refl;
    opened = λ is low. refl;
  }

  same_format : Same (step s chosen i)
  same_format = each_step s chosen i Same same_cases

pub own_format : (s : Server) (chosen : List ℕ) (i : Input) → (step s chosen i).state.format ≡ format_behind i s.format
own_format s chosen (Formats n) = refl
own_format s chosen (Hears now from m) = same_format s chosen (Hears now from m) (λ n e. cc e)
own_format s chosen (Makes k m tag zoned) = same_format s chosen (Makes k m tag zoned) (λ n e. cc e)
own_format s chosen (Obeys kind k) = same_format s chosen (Obeys kind k) (λ n e. cc e)
own_format s chosen (Adds d) = same_format s chosen (Adds d) (λ n e. cc e)
own_format s chosen (Zones d zone) = same_format s chosen (Zones d zone) (λ n e. cc e)
own_format s chosen Resends = same_format s chosen Resends (λ n e. cc e)
own_format s chosen Crashes = same_format s chosen Crashes (λ n e. cc e)
own_format s chosen Opens = same_format s chosen Opens (λ n e. cc e)
