-- What is so of one file, in each step of the server while it is up, and where it crashes and is opened.
use Rattle.std.proofs.Common.{◌≡◌, ◌≢◌, ◌==◌, ℕ, Bool, true, false, List, [], Option, Some, None, refl, sym, ap, subst, ◌∙◌, inl}
use Rattle.std.proofs.lemmas.Bool.{eq-eqb, ne_eqb, false≢true}
use Rattle.server_rules.specs.declared.limits.TheConstants.{GREATEST_TAG}
use Rattle.server_rules.specs.Files.{Step, file_at, put_file, add_file, at_file, begins}
use Rattle.server_rules.specs.Going.{Going, keeping}
use Rattle.server_rules.specs.History.{Input, Makes, Crashes, Opens, step, unless_made}
use Rattle.server_rules.specs.Jobs.{making, ending, declares, fence_begins}
use Rattle.server_rules.specs.Laws.{In, Rests, AreSafe}
use Rattle.server_rules.specs.Making.{refusal, unless_refused, makes_file, with_file, create_file}
use Rattle.server_rules.specs.Messages.{counters_have_room}
use Rattle.server_rules.specs.Openings.{crashed_file, opens, reopen}
use Rattle.server_rules.specs.Orders.{offline, declare}
use Rattle.server_rules.specs.Replies.{hearing}
use Rattle.server_rules.specs.Requests.{serves}
use Rattle.server_rules.specs.Served.{Served}
use Rattle.server_rules.proofs.FileLaws.{put_other, add_other, not_there}
use Rattle.server_rules.proofs.HandlerLaws.{ran_hears, leaves_served}
use Rattle.server_rules.proofs.Runs.{ran_making, ran_fences, ran_declares}
use Rattle.world_history.specs.ServerNames.{Server, File, ClientRequest, RawMap, Refusal}
use Rattle.history_law.specs.Fencing.{is_fencing}
use Rattle.history_law.specs.Steps.{Answering, IsAnswering, answered_file, new_file, StepCases, RequestCases}
use Rattle.history_law.proofs.Files.{Each, in_at, put_each, add_each, crashed_each, declared_each, opened_each, safe_in}
use Rattle.history_law.proofs.Steps.{each_request, each_step}
use Rattle.cause_law.proofs.Fences.{IsUnder, Fence, fence_hears, fence_declared, fence_served}
use Rattle.cause_law.proofs.Opening.{IsDue, fence_opens, spent_opens, opens_number}
use Rattle.cause_law.proofs.Refusing.{IsSpent, spent_declared, spent_served}

-- the server crashes, or is opened
abbrev pub is_restart : Input → Bool
is_restart Crashes = true
is_restart Opens = true
is_restart i = false

-- so it is of each of these files with that number
abbrev pub At : (n : ℕ) → (File → Type 0) → List File → Type 0
At n Q fs = Each (λ (f : File). f.kept.number ≡ n → Q f) fs

-- what each handler of the server makes of a file
record Handles (Q R : File → Type 0) (s : Server) (chosen : List ℕ) (i : Input) : Type 0 where
  stays : (f : File) → Q f → R f
  served : (f : File) → Q f → (now : ℕ) (q : ClientRequest)
      → R (serves (at_file s chosen f) s.next_grant s.format now q.client q.args).going.file
  heard : (x : Answering) → IsAnswering s i x → Q x.file → R (answered_file s chosen x).file
  busy : (f : File) → Q f → f.job ≡ None → (f.kept.tag == GREATEST_TAG) ≡ false → ⊥
  declared : (g : Going) (d : ℕ) → Q g.file → R (declares g d).file

module _ (n : ℕ) (Q R : File → Type 0) (s : Server) (chosen : List ℕ) (i : Input) (k : Handles Q R s chosen i) (it : File)
    (there : file_at s.files n ≡ Some it) (safe : AreSafe s.files) (plain : is_restart i ≡ false) (all : At n Q s.files) where
  abbrev P : Step → Type 0
  P t = At n R t.state.files

  stay : At n R s.files
  stay f among here = k.stays f (all f among here)

  -- one file goes on under its number
  put : (m : ℕ) (g : File) → (g.kept.number ≡ n → R g) → At n R (put_file s.files m g)
  put m g here = put_each (λ (f : File). f.kept.number ≡ n → R f) s.files m g stay here

  requests : (now : ℕ) (q : ClientRequest) → RequestCases s now chosen q P
  requests now q = record {
    again = λ kept is. stay;
    misordered = λ expected is. stay;
    without = λ new none. stay;
    served = λ new f found.
        let v : Served = serves (at_file s chosen f) s.next_grant s.format now q.client q.args in
        let among : In f s.files = in_at s.files q.file f found in
        let l = leaves_served (at_file s chosen f) s.next_grant s.format now q.client q.args (safe_in s.files safe f among) in
        put q.file v.going.file (λ here. k.served f (all f among (sym l.number ∙ here)) now q);
  }

  beside : (m : ℕ) (r : RawMap) (zoned : Bool) → file_at s.files m ≡ None → m ≡ n → ⊥
  beside m r zoned none same = cc (sym none ∙ ap (file_at s.files) same ∙ there)

  cases : StepCases s chosen i P
  unfolding declare fence_begins
  cases = record {
    rests = stay;
    asked = λ now q is. each_request s now chosen q P (requests now q);
    answered = λ x is.
        let rests : Rests x.file.job = (safe_in s.files safe x.file is.there).rests in
        let r = ran_hears (at_file s chosen x.file) x.job x.awaited x.reply (hearing x.file.kept x.awaited x.reply)
        (subst Rests is.runs rests) rests in
        put (answered_file s chosen x).file.kept.number (answered_file s chosen x).file
        (λ here. k.heard x is (all x.file is.there (sym r.number ∙ here)));
    recalled = λ f is. stay;
    refused = λ f is why refuses. put f.kept.number f (λ here. stay f (in_at s.files is.target f is.found) here);
    fenced = λ f is kind free low.
        let r = ran_fences kind (keeping (at_file s chosen f) (ending f.kept s.format)) in
        put f.kept.number (fence_begins kind s.format (at_file s chosen f)).file (λ here.
        absurd (k.busy f (all f (in_at s.files is.target f is.found) (sym r.number ∙ here)) free low));
    declared = λ d known.
        declared_each (λ (f : File). f.kept.number ≡ n → R f) d (offline s.drives d) s.files (begins s) chosen
        (λ f among m placed here.
        let g : Going = record { file = f; effects = m; drives = offline s.drives d; chosen = placed } in
        let r = ran_declares g d (safe_in s.files safe f among).rests in
        k.declared g d (all f among (sym r.number ∙ here)));
    told = λ t now o is result p. p;
    made = λ m r tag zoned is none.
        let f : File = new_file s chosen m r tag zoned in
        let g : Going = making (at_file (with_file s f) [] f) in
        let other : m ≡ n → ⊥ = beside m r zoned (not_there s m r zoned none) in
        put_each (λ (x : File). x.kept.number ≡ n → R x) (add_file s.files f) m g.file
        (add_each (λ (x : File). x.kept.number ≡ n → R x) s.files f stay (λ here. absurd (other here)))
        (λ here. absurd (other (sym (ran_making (at_file (with_file s f) [] f)).number ∙ here)));
    added = λ d is. stay;
    zoned = λ d zone is. stay;
    formats = λ m is. stay;
    resends = λ is. stay;
    crashes = λ is. absurd (false≢true (sym plain ∙ ap is_restart is));
    opened = λ is low. absurd (false≢true (sym plain ∙ ap is_restart is));
  }

  goes : At n R (step s chosen i).state.files
  goes = each_step s chosen i P cases

-- ---- while the server is up

module _ (n : ℕ) (s : Server) (chosen : List ℕ) (i : Input) (it : File) (there : file_at s.files n ≡ Some it)
    (safe : AreSafe s.files) (plain : is_restart i ≡ false) where
  pub fence_stays : (tag : ℕ) → At n (IsUnder tag) s.files → At n (Fence tag) (step s chosen i).state.files
  fence_stays tag all = goes n (IsUnder tag) (Fence tag) s chosen i (record {
    stays = λ f u. inl u;
    served = λ f u now q. fence_served tag (at_file s chosen f) s.next_grant s.format now q.client q.args u;
    heard = λ x is u.
        fence_hears tag (at_file s chosen x.file) x.job x.awaited x.reply (hearing x.file.kept x.awaited x.reply) is.runs u;
    busy = λ f u free low. false≢true (sym (ap is_fencing free) ∙ u.0);
    declared = λ g d u. fence_declared tag g d u;
  }) it there safe plain all

  pub spent_stays : At n IsSpent s.files → At n IsSpent (step s chosen i).state.files
  spent_stays all = goes n IsSpent IsSpent s chosen i (record {
    stays = λ f u. u;
    served = λ f u now q. spent_served (at_file s chosen f) s.next_grant s.format now q.client q.args u;
    heard = λ x is u. absurd (cc (sym u.1 ∙ is.runs));
    busy = λ f u free low. false≢true (sym low ∙ eq-eqb f.kept.tag GREATEST_TAG u.2);
    declared = λ g d u. spent_declared g d u;
  }) it there safe plain all

-- a file that is made leaves the others as they are
pub made_stays : (s : Server) (chosen : List ℕ) (m : ℕ) (r : RawMap) (tag : ℕ) (zoned : Bool) (n : ℕ) (f : File)
    → file_at s.files n ≡ Some f → file_at (step s chosen (Makes m r tag zoned)).state.files n ≡ Some f
unfolding create_file
made_stays s chosen m r tag zoned n f found = by (refusal s m r zoned) refl
  where
    x : File
    x = new_file s chosen m r tag zoned

    by : (o : Option Refusal) → refusal s m r zoned ≡ o
        → file_at (unless_made s (unless_refused o (makes_file s x))).state.files n ≡ Some f
    by (Some why) e = found
    by None e =
        let other : (m == n) ≡ false =
        ne_eqb m n (λ q. cc (sym (not_there s m r zoned e) ∙ ap (file_at s.files) q ∙ found)) in
        put_other (add_file s.files x) m (making (at_file (with_file s x) [] x)).file
        (ran_making (at_file (with_file s x) [] x)).number n other
        ∙ add_other s.files x n other ∙ found

-- ---- a crash, and an opening

pub crash_leaves : (n : ℕ) (Q R : File → Type 0) (s : Server) (chosen : List ℕ) → ((f : File) → Q f → R (crashed_file f))
    → At n Q s.files → At n R (step s chosen Crashes).state.files
crash_leaves n Q R s chosen leaves all =
    crashed_each (λ (f : File). f.kept.number ≡ n → R f) s.files (λ f among here. leaves f (all f among here))

-- what an opening makes of each of these files
opened_at : (n : ℕ) (Q R : File → Type 0) (s : Server) (chosen : List ℕ) → counters_have_room s ≡ true
    → ((g : Going) → Q g.file → R (opens s.format g).file) → At n Q s.files → At n R (step s chosen Opens).state.files
unfolding reopen
opened_at n Q R s chosen room leaves all =
    rw room
    (opened_each (λ (f : File). f.kept.number ≡ n → R f) s.format s.drives s.files (begins s) (λ f among m here.
    let g : Going = record { file = f; effects = m; drives = s.drives; chosen = [] } in
    leaves g (all f among (sym (opens_number s.format g) ∙ here))))

pub fence_begun : (n tag : ℕ) (s : Server) (chosen : List ℕ) → counters_have_room s ≡ true → tag ≢ GREATEST_TAG
    → At n (IsDue tag) s.files → At n (Fence tag) (step s chosen Opens).state.files
fence_begun n tag s chosen room less all =
    opened_at n (IsDue tag) (Fence tag) s chosen room (λ g d. fence_opens tag s.format g less d) all

pub spent_noted : (n tag : ℕ) (s : Server) (chosen : List ℕ) → counters_have_room s ≡ true → tag ≡ GREATEST_TAG
    → At n (IsDue tag) s.files → At n IsSpent (step s chosen Opens).state.files
spent_noted n tag s chosen room greatest all =
    opened_at n (IsDue tag) IsSpent s chosen room (λ g d. spent_opens tag s.format g greatest d) all
