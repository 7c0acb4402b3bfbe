-- In a step the tag of a file stays, or becomes the next one.
use Rattle.std.proofs.Common.{◌≡◌, ◌⊎◌, ℕ, ◌+◌, true, List, [], Option, Some, None, refl, sym, ap, subst, ◌∙◌, inl, inr}
use Rattle.server_rules.specs.Files.{Step, file_at, put_file, add_file, at_file, begins}
use Rattle.server_rules.specs.Going.{Going}
use Rattle.server_rules.specs.History.{Input, step}
use Rattle.server_rules.specs.Jobs.{making}
use Rattle.server_rules.specs.Laws.{In}
use Rattle.server_rules.specs.Making.{with_file}
use Rattle.server_rules.specs.Messages.{awaited_by}
use Rattle.server_rules.specs.Orders.{offline, declare}
use Rattle.server_rules.specs.Replies.{hearing}
use Rattle.server_rules.specs.Requests.{serves, on_request}
use Rattle.server_rules.proofs.FileLaws.{number_at, not_there}
use Rattle.world_history.specs.ServerNames.{Server, File, Job, ClientRequest}
use Rattle.history_law.specs.Steps.{Answering, IsAnswering, answered_file, new_file, IsAsked, StepCases}
use Rattle.history_law.proofs.Files as Files
use Rattle.history_law.proofs.Files.{in_at, put_each, add_each, declared_each, opened_each, crashed_each}
use Rattle.history_law.proofs.Steps.{each_request, each_step}
use Rattle.history_law.specs.Fencing.{Reached}
use Rattle.history_law.proofs.Fences.{GoesFrom, handled_fence, handled_making}
use Rattle.history_law.proofs.Hearing.{found_in, goes_hears}
use Rattle.history_law.proofs.Asking.{handled_served, handled_declares, handled_opened}
use Rattle.component_law.specs.Sound.{IsSound}
use Rattle.cause_law.proofs.Changing.{at_place}

-- the same file, with its tag or the next one
abbrev pub Near : File → File → Type 0
Near f g = (g.kept.number ≡ f.kept.number) × ((g.kept.tag ≡ f.kept.tag) ⊎ (g.kept.tag ≡ f.kept.tag + 1))

near : (g h : Going) → GoesFrom g h → Near g.file h.file
near g h x = (x.number_is, x.tag_is)

-- what drives have doesn't matter here
abbrev pub R : Reached
R = λ drive object tag. true

module _ (s : Server) (chosen : List ℕ) (i : Input) where
  -- it was there so, or wasn't there
  abbrev Was : File → Type 0
  Was g = ((f : File) × In f s.files × Near f g) ⊎ (file_at s.files g.kept.number ≡ None)

  abbrev P : Step → Type 0
  P t = Files.Each Was t.state.files

  same : (f : File) → Near f f
  same f = (refl, inl refl)

  stay : Files.Each Was s.files
  stay f there = inl (f, there, same f)

  put_at : (n : ℕ) (f g : File) → In f s.files → Near f g → Files.Each Was (put_file s.files n g)
  put_at n f g there goes = put_each Was s.files n g stay (inl (f, there, goes))

  answered : (x : Answering) → IsAnswering s i x → Near x.file (answered_file s chosen x).file
  answered x is =
      near (at_file s chosen x.file) (answered_file s chosen x)
      (goes_hears (at_file s chosen x.file) x.job x.awaited x.reply (hearing x.file.kept x.awaited x.reply)
      (found_in _ x.job.awaited x.awaited is.awaits).0
      (λ y j. subst (λ (o : Option Job). In y (awaited_by o)) (sym is.runs) j))

  asked : (now : ℕ) (q : ClientRequest) → IsAsked s i now q → P (on_request s now chosen q)
  asked now q is =
      each_request s now chosen q P (record {
        again = λ kept e. stay;
        misordered = λ expected e. stay;
        without = λ new none. stay;
        served = λ new f found.
            put_at q.file f (serves (at_file s chosen f) s.next_grant s.format now q.client q.args).going.file
            (in_at s.files q.file f found)
            (near (at_file s chosen f) _
            (handled_served R (at_file s chosen f) s.next_grant s.format now q.client q.args).goes);
      })

  cases : StepCases s chosen i P
  unfolding declare
  cases = record {
    rests = stay;
    asked = asked;
    answered = λ x is.
        put_at (answered_file s chosen x).file.kept.number x.file (answered_file s chosen x).file is.there (answered x is);
    recalled = λ f is. stay;
    refused = λ f is n why. put_at f.kept.number f f (in_at s.files is.target f is.found) (same f);
    fenced = λ f is kind free low.
        put_at f.kept.number f _ (in_at s.files is.target f is.found)
        (near (at_file s chosen f) _ (handled_fence R kind s.format (at_file s chosen f)).goes);
    declared = λ d known.
        declared_each Was d (offline s.drives d) s.files (begins s) chosen (λ f there m placed.
        let g : Going = record { file = f; effects = m; drives = offline s.drives d; chosen = placed } in
        inl (f, there, near g _ (handled_declares R g d).goes));
    told = λ t now o is result p. p;
    made = λ n m tag zoned is none.
        let f : File = new_file s chosen n m tag zoned in
        let g : Going = at_file (with_file s f) [] f in
        let absent : file_at s.files n ≡ None = not_there s n m zoned none in
        let number : (making g).file.kept.number ≡ n = (handled_making R g).goes.number_is in
        put_each Was (add_file s.files f) n (making g).file (add_each Was s.files f stay (inr absent))
        (inr (subst (λ (k : ℕ). file_at s.files k ≡ None) (sym number) absent));
    added = λ d is. stay;
    zoned = λ d zone is. stay;
    formats = λ n is. stay;
    resends = λ is. stay;
    crashes = λ is. crashed_each Was s.files (λ f there. inl (f, there, same f));
    opened = λ is low.
        opened_each Was s.format s.drives s.files (begins s) (λ f there m.
        let g : Going = record { file = f; effects = m; drives = s.drives; chosen = [] } in
        inl (f, there, near g _ (handled_opened R s.format g).goes));
  }

  -- of the file of a number
  pub stays_near : IsSound s → (n : ℕ) (f g : File) → file_at s.files n ≡ Some f
      → file_at (step s chosen i).state.files n ≡ Some g → Near f g
  stays_near sound n f g before behind =
      elim (each_step s chosen i P cases g (in_at (step s chosen i).state.files n g behind)) [
        | inl (x, there, goes) ↦
            let here : file_at s.files n ≡ Some x =
            subst (λ (k : ℕ). file_at s.files k ≡ Some x)
            (sym goes.0 ∙ number_at (step s chosen i).state.files n g behind) (at_place s.files x sound.distinct there) in
            subst (λ (y : File). Near y g) (by x f (sym here ∙ before)) goes
        | inr none ↦
            absurd (cc (sym before ∙ ap (file_at s.files)
            (sym (number_at (step s chosen i).state.files n g behind)) ∙ none))
      ]
    where
      by : (x y : File) → Some x ≡ Some y → x ≡ y
      by x y e = cc e
