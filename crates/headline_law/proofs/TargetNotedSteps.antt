-- A component that a step of the server notes as made anew was the target of its file, and a reply came.
-- `RebuiltWereTargets` (`specs/TargetLaws.antt`).
use Rattle.std.proofs.Common.{◌≡◌, ℕ, List, [], ◌∷◌, slice_get, Some, refl, sym, ap, subst, ◌∙◌, inl, inr}
use Rattle.std.proofs.lemmas.Option.{same_Some}
use Rattle.osd_lists.specs.declared.node.Node.TheVariants as node
use Rattle.osd_commands.specs.declared.replies.Reply.{Reply}
use Rattle.server_rules.specs.Files.{Step, begins, file_at, put_file, at_file, step_at}
use Rattle.server_rules.specs.Going.{Going}
use Rattle.server_rules.specs.History.{Input, Hears, step}
use Rattle.server_rules.specs.Jobs.{fence_begins, declares, making}
use Rattle.server_rules.specs.Laws.{In}
use Rattle.server_rules.specs.Making.{with_file}
use Rattle.server_rules.specs.Messages.{Replies}
use Rattle.server_rules.specs.Openings.{opens, opens_each}
use Rattle.server_rules.specs.Orders.{declare, declares_each, offline}
use Rattle.server_rules.specs.Replies.{hearing}
use Rattle.server_rules.specs.Requests.{serves}
use Rattle.server_rules.proofs.FileLaws.{number_at, put_same}
use Rattle.world_history.specs.ServerNames.{Server, File, Drive, Effects, Revoking, Note, NoteKind, Rebuilt, Spent, Reported, ClientRequest, RequestArgs}
use Rattle.history_law.specs.Steps.{Answering, IsAnswering, answered_file, new_file, Refuses, WhileBusy, OnGreatest, StepCases, RequestCases}
use Rattle.history_law.proofs.Steps.{each_step, each_request}
use Rattle.component_law.specs.Distinct.{AreDistinct}
use Rattle.component_law.specs.Objects.{target_of}
use Rattle.relation_law.proofs.KeptServer.{at_place}
use Rattle.relation_law.proofs.Ways.{hears_number}
use Rattle.headline_law.specs.TargetLaws.{JobsAreAtPieces, RebuiltWereTargets}
use Rattle.headline_law.proofs.ServedWalk.{walk_serves}
use Rattle.headline_law.proofs.TargetNoted.{NoneMade, none_more, Made, AllMade, made_fence, made_making, made_opens, made_declares, made_hears}

-- where no reply comes, nothing is made anew
none_of : (f : File) (g : Going) → AllMade ⊥ f g → NoneMade g.effects.notes
none_of f g all x k d i e = (all x k d i e).heard

fence_none : (go : Going) (format : ℕ) → NoneMade go.effects.notes → NoneMade (fence_begins Revoking format go).effects.notes
fence_none go format none =
    none_of go.file (fence_begins Revoking format go) (made_fence ⊥ go.file Revoking format go (none, refl, refl))

-- ---- a request

pub none_serves : (go : Going) → NoneMade go.effects.notes → (next format now client : ℕ) (args : RequestArgs) →
    NoneMade (serves go next format now client args).going.effects.notes
none_serves go none =
    walk_serves (λ (m : Effects). NoneMade m.notes) go
    (record {
      begins = none;
      fences = λ format. fence_none go format none;
      spent = λ g q. none_more g.effects.notes g.file.kept.number Spent (λ a b z. cc z) q;
      reported = λ k g q. none_more g.effects.notes g.file.kept.number (Reported k) (λ a b z. cc z) q;
    })

-- ---- rounds

declared_none : (drive : ℕ) (ds : List Drive) (fs : List File) (m : Effects) (c : List ℕ) →
    ((x : File) → In x fs → JobsAreAtPieces x) → NoneMade m.notes →
    NoneMade (declares_each drive ds fs m c).effects.notes
unfolding declares_each
declared_none drive ds [] m c pieces none = none
declared_none drive ds (x ∷ fs) m c pieces none =
    let at : Going = record { file = x; effects = m; drives = ds; chosen = c } in
    let g : Going = declares at drive in
    declared_none drive ds fs g.effects g.chosen (λ y i. pieces y (inr i))
    (none_of x g (made_declares ⊥ x drive at refl none (pieces x (inl refl))))

pub opened_none : (format : ℕ) (ds : List Drive) (fs : List File) (m : Effects) → NoneMade m.notes →
    NoneMade (opens_each format ds fs m).effects.notes
unfolding opens_each
opened_none format ds [] m none = none
opened_none format ds (x ∷ fs) m none =
    let at : Going = record { file = x; effects = m; drives = ds; chosen = [] } in
    let g : Going = opens format at in
    opened_none format ds fs g.effects (none_of x g (made_opens ⊥ x format at (none, refl, refl)))

-- ---- any step

-- a drive's reply comes
record IsReply (i : Input) : Type 0 where
  now : ℕ
  drive : ℕ
  reply : Reply
  hears : i ≡ Hears now (node.Drive drive) (Replies reply)

-- what a note says was made anew of a file, with what stands in its place
record Says (s : Server) (i : Input) (files : List File) (n k d : ℕ) : Type 0 where
  before : File
  there : In before s.files
  behind : File
  found : file_at files before.kept.number ≡ Some behind
  made : Made (IsReply i) before behind.kept n k d

abbrev SayIn : Server → Input → List File → List Note → Type 0
SayIn s i files notes = (x : Note) (k d : ℕ) → In x notes → x.kind ≡ Rebuilt k d → Says s i files x.file k d

abbrev AllSay : Server → Input → Step → Type 0
AllSay s i did = SayIn s i did.state.files did.notes

module _ (s : Server) (chosen : List ℕ) (i : Input) (apart : AreDistinct s.files)
    (pieces : (x : File) → In x s.files → JobsAreAtPieces x) where
  none_said : (files : List File) (notes : List Note) → NoneMade notes → SayIn s i files notes
  none_said files notes none x k d j e = absurd (none x k d j e)

  none_here : (files : List File) → SayIn s i files []
  none_here files x k d j e = absurd j

  none_yet : NoneMade []
  none_yet x k d j e = j

  answered : (x : Answering) → IsAnswering s i x →
      AllSay s i (step_at s (answered_file s chosen x).file.kept.number (answered_file s chosen x))
  answered x is y k d j e =
      let h : Going = answered_file s chosen x in
      let number : h.file.kept.number ≡ x.file.kept.number =
      hears_number x.file.kept.number (at_file s chosen x.file) x.job x.awaited x.reply _ refl in
      record {
        before = x.file;
        there = is.there;
        behind = h.file;
        found = subst (λ (n : ℕ). file_at (put_file s.files n h.file) x.file.kept.number ≡ Some h.file) (sym number)
            (put_same s.files x.file.kept.number h.file x.file number (at_place s.files x.file apart is.there));
        made = made_hears (IsReply i) x.file (at_file s chosen x.file) x.job x.awaited x.reply (none_yet, refl, refl)
            (λ t to. ap target_of is.runs ∙ to)
            (record { now = x.now; drive = x.drive; reply = x.reply; hears = is.is })
            (hearing x.file.kept x.awaited x.reply) y k d j e;
      }

  refused : (x : File) (kind : NoteKind) → Refuses x kind →
      NoneMade (record { file = x.kept.number; kind = kind } ∷ [])
  refused x kind (WhileBusy j runs is) = none_more [] x.kept.number kind (λ a b e. cc (e ∙ is)) none_yet
  refused x kind (OnGreatest none great is) = none_more [] x.kept.number kind (λ a b e. cc (e ∙ is)) none_yet

  requests : (now : ℕ) (q : ClientRequest) → RequestCases s now chosen q (AllSay s i)
  requests now q = record {
    again = λ kept is. none_here _;
    misordered = λ expected is. none_here _;
    without = λ is none. none_here _;
    served = λ is f found.
        none_said _ _ (none_serves (at_file s chosen f) none_yet s.next_grant s.format now q.client q.args);
  }

  cases : StepCases s chosen i (AllSay s i)
  unfolding declare
  cases = record {
    rests = none_here _;
    asked = λ now q is. each_request s now chosen q (AllSay s i) (requests now q);
    answered = answered;
    recalled = λ x is. none_here _;
    refused = λ x is kind why. none_said _ (record { file = x.kept.number; kind = kind } ∷ []) (refused x kind why);
    fenced = λ x is kind none low.
        none_said _ _ (none_of x (fence_begins kind s.format (at_file s chosen x))
        (made_fence ⊥ x kind s.format (at_file s chosen x) (none_yet, refl, refl)));
    declared = λ d known.
        none_said _ _ (declared_none d (offline s.drives d) s.files (begins s) chosen pieces none_yet);
    told = λ u now o is result found. found;
    made = λ n m tag zoned is ok.
        let x : File = new_file s chosen n m tag zoned in
        none_said _ _ (none_of x (making (at_file (with_file s x) [] x))
        (made_making ⊥ x (at_file (with_file s x) [] x) (none_yet, refl, refl)));
    added = λ d is. none_here _;
    zoned = λ d zone is. none_here _;
    formats = λ n is. none_here _;
    resends = λ is. none_here _;
    crashes = λ is. none_here _;
    opened = λ is low. none_said _ _ (opened_none s.format s.drives s.files (begins s) none_yet);
  }

  said : AllSay s i (step s chosen i)
  said = each_step s chosen i (AllSay s i) cases

-- So it is of each component in each step.
pub rebuilt_were_targets : RebuiltWereTargets
rebuilt_were_targets s chosen i apart safe n f g there behind pieces k at at_is present was =
    let r = said s chosen i apart pieces was.note k at.drive was.told was.kind in
    let number : r.before.kept.number ≡ n = sym r.made.file ∙ was.file ∙ number_at s.files n f there in
    let one : r.before ≡ f =
    same_Some r.before f (sym (at_place s.files r.before apart r.there) ∙ ap (file_at s.files) number ∙ there) in
    let two : r.behind ≡ g =
    same_Some r.behind g (sym r.found ∙ ap (file_at (step s chosen i).state.files) number ∙ behind) in
    record {
      now = r.made.heard.now;
      drive = r.made.heard.drive;
      reply = r.made.heard.reply;
      hears = r.made.heard.hears;
      target = r.made.target;
      aimed = ap (λ (x : File). target_of x.job) (sym one) ∙ r.made.aimed;
      component = r.made.component;
      place = r.made.place;
      object = r.made.object at (ap (λ (x : File). slice_get x.kept.components k) two ∙ at_is);
      ready = λ e.
          ap (λ (x : File). x.kept.ready) (sym one) ∙ sym r.made.ready ∙ ap (λ (x : File). x.kept.ready) two ∙ e;
    }
