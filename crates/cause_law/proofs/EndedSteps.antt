-- What a step of the server makes of the grants that fences ended, of each file.
use Rattle.std.proofs.Common.{◌≡◌, ℕ, ◌+◌, true, false, true≢false, List, [], ◌∷◌, map, Option, Some, None, refl, sym, ap, subst, ◌∙◌, arith, inl, inr}
use Rattle.std.proofs.lemmas.Bool.{cases_eq, eq-eqb, ne_eqb}
use Rattle.server_rules.specs.Files.{Step, still, file_at, put_file, add_file, at_file, begins}
use Rattle.server_rules.specs.Going.{Going, noting}
use Rattle.server_rules.specs.History.{Input, step}
use Rattle.server_rules.specs.Jobs.{fence_begins, declares, making}
use Rattle.server_rules.specs.Laws.{In, AreSafe, NoneBeside, FilesArePut}
use Rattle.server_rules.specs.Making.{makes_file, with_file}
use Rattle.server_rules.specs.Openings.{crash, crashed_file, opens, opens_each}
use Rattle.server_rules.specs.Orders.{declare, declares_each, offline}
use Rattle.server_rules.specs.Replies.{hearing}
use Rattle.server_rules.specs.Requests.{serves}
use Rattle.server_rules.proofs.FileLaws.{number_at, put_other, not_there}
use Rattle.world_history.specs.ServerNames.{Server, File, Drive, Effects, Note, NoteKind, Job, ClientRequest}
use Rattle.history_law.specs.Steps.{Answering, IsAnswering, answered_file, new_file, Refuses, WhileBusy, OnGreatest, StepCases, RequestCases}
use Rattle.history_law.proofs.Files.{in_at, safe_in}
use Rattle.history_law.proofs.Steps.{each_step, each_request}
use Rattle.component_law.specs.Distinct.{AreDistinct}
use Rattle.component_law.specs.KeptWalk.{is_plain}
use Rattle.component_law.specs.Words.{Each}
use Rattle.component_law.proofs.Making.{beside, there}
use Rattle.cause_law.specs.EndedGrants.{IsUnderFence}
use Rattle.cause_law.proofs.Changing.{at_place}
use Rattle.cause_law.proofs.EndedParts.{IsOver, GoesSo, Part, over_beside, over_kept, kept_so, no_fence, part_fence, part_making, part_reply, part_declares, part_opens, part_serves, part_noted}

-- file f of number n, before and behind
module _ (n : ℕ) (f : File) (is : f.kept.number ≡ n) (alone : NoneBeside f.job f.kept.grants) where
  -- as it was, and nothing is noted
  rests_so : (ns : List Note) → (IsOver n ns → ⊥) → GoesSo f f ns
  rests_so ns none =
      inr (λ o. none (subst (λ (k : ℕ). IsOver k ns) is o), kept_so f f alone refl (λ free. no_fence f f free refl refl))

module _ (put : FilesArePut) (s : Server) (safe : AreSafe s.files) (apart : AreDistinct s.files) (n : ℕ) (f : File)
    (found : file_at s.files n ≡ Some f) where
  abbrev P : Step → Type 0
  P t = (g : File) → file_at t.state.files n ≡ Some g → GoesSo f g t.notes

  number : f.kept.number ≡ n
  number = number_at s.files n f found

  alone : (x : File) → In x s.files → NoneBeside x.job x.kept.grants
  alone x i = (safe_in s.files safe x i).alone

  none_in : (k : ℕ) → IsOver k [] → ⊥
  none_in k (a, b, i) = i

  one : (x y : File) → Some x ≡ Some y → x ≡ y
  one x y e = cc e

  -- nothing is noted on the file, and it is as it was
  same_so : (ns : List Note) → (IsOver n ns → ⊥) → (g : File) → file_at s.files n ≡ Some g → GoesSo f g ns
  same_so ns none g e =
      subst (λ (x : File). GoesSo f x ns) (one f g (sym found ∙ e))
      (rests_so n f number (alone f (in_at s.files n f found)) ns none)

  still_so : (g : File) → file_at s.files n ≡ Some g → GoesSo f g []
  still_so g e = same_so [] (none_in n) g e

  -- one file goes on
  put_so : (x : File) → In x s.files → (h : Going) → Part x [] h → (m : ℕ) → m ≡ x.kept.number → (g : File)
      → file_at (put_file s.files m h.file) n ≡ Some g → GoesSo f g h.effects.notes
  put_so x i h part m is g e = elim (cases_eq m n) [
    | inl same ↦
        let there_is : file_at s.files m ≡ Some x = ap (file_at s.files) is ∙ at_place s.files x apart i in
        let x_is : x ≡ f = one x f (sym there_is ∙ ap (file_at s.files) same ∙ found) in
        let behind : file_at (put_file s.files m h.file) m ≡ Some h.file =
        (put s.files m h.file x (part.number ∙ sym is) there_is).0 in
        let g_is : h.file ≡ g = one h.file g (sym behind ∙ ap (file_at (put_file s.files m h.file)) same ∙ e) in
        subst (λ (y : File). GoesSo f y h.effects.notes) g_is
        (subst (λ (y : File). GoesSo y h.file h.effects.notes) x_is part.goes)
    | inr other ↦
        same_so h.effects.notes
        (λ o. none_in n (over_beside x.kept.number n [] h.effects.notes part.come (λ k. other (is ∙ k)) o)) g
        (sym (put_other s.files m h.file (part.number ∙ sym is) n (ne_eqb m n other)) ∙ e)
  ]

  -- ---- rounds

  -- before the round of these files: no repair of them is over
  record AtRound (fs : List File) (m : Effects) : Type 0 where
    ahead : (y : File) → In y fs → IsOver y.kept.number m.notes → ⊥
    distinct : AreDistinct fs
    all : (y : File) → In y fs → In y s.files

  at_first : AtRound s.files (begins s)
  at_first = record { ahead = λ y i o. none_in y.kept.number o; distinct = apart; all = λ y i. i }

  -- behind it
  record RoundSo (fs : List File) (m : Effects) (files : List File) (ns : List Note) : Type 0 where
    grows : (k : ℕ) → IsOver k m.notes → IsOver k ns
    others : (k : ℕ) → ((y : File) → In y fs → y.kept.number ≡ k → ⊥) → IsOver k ns → IsOver k m.notes
    goes : (g : File) → file_at fs n ≡ Some f → file_at files n ≡ Some g → GoesSo f g ns

  no_files : (m : Effects) → RoundSo [] m [] m.notes
  unfolding file_at
  no_files m = record { grows = λ k o. o; others = λ k none o. o; goes = λ g e x. absurd (cc e) }

  differs : (x y : File) (fs : List File) → AreDistinct (x ∷ fs) → In y fs → y.kept.number ≡ x.kept.number → ⊥
  differs x y fs d i = none_of fs y x.kept.number d.0 i
    where
      none_of : (gs : List File) (z : File) (k : ℕ) → Each (λ (v : File). v.kept.number ≡ k → ⊥) gs → In z gs
          → z.kept.number ≡ k → ⊥
      none_of [] z k e j is = absurd j
      none_of (v ∷ gs) z k e (inl here) is = e.0 (sym (ap (λ (u : File). u.kept.number) here) ∙ is)
      none_of (v ∷ gs) z k e (inr j) is = none_of gs z k e.1 j is

  module _ (x : File) (fs : List File) (m : Effects) (r : AtRound (x ∷ fs) m) (h : Going) (part : Part x m.notes h) where
    round_on : AtRound fs h.effects
    round_on = record {
      ahead = λ y i o.
          r.ahead y (inr i)
          (over_beside x.kept.number y.kept.number m.notes h.effects.notes part.come
          (λ e. differs x y fs r.distinct i (sym e)) o);
      distinct = r.distinct.1;
      all = λ y i. r.all y (inr i);
    }

    one_round : (files : List File) (ns : List Note) → RoundSo fs h.effects files ns → RoundSo (x ∷ fs) m (h.file ∷ files) ns
    unfolding file_at
    one_round files ns rest = record {
      grows = λ k o. rest.grows k (over_kept x.kept.number k m.notes h.effects.notes part.come o);
      others = λ k none o.
          over_beside x.kept.number k m.notes h.effects.notes part.come (none x (inl refl))
          (rest.others k (λ y i. none y (inr i)) o);
      goes = λ g. elim (cases_eq x.kept.number n) [
        | inl same ↦
            rw (eq-eqb x.kept.number n same, eq-eqb h.file.kept.number n (part.number ∙ same))
            (λ (e : Some x ≡ Some f) (b : Some h.file ≡ Some g).
            subst (λ (y : File). GoesSo f y ns) (one h.file g b)
            (subst (λ (y : File). GoesSo y h.file ns) (one x f e) own))
        | inr other ↦
            rw (ne_eqb x.kept.number n other, ne_eqb h.file.kept.number n (λ e. other (sym part.number ∙ e)))
            (rest.goes g)
      ];
    }
      where
        own : GoesSo x h.file ns
        own = elim part.goes [
          | inl over_now ↦ inl (rest.grows x.kept.number over_now.0, over_now.1)
          | inr on ↦
              inr (λ o. on.0 (rest.others x.kept.number (λ y i. differs x y fs r.distinct i) o), on.1)
        ]

  declared_round : (d : ℕ) (ds : List Drive) (fs : List File) (m : Effects) (c : List ℕ) → AtRound fs m
      → RoundSo fs m (declares_each d ds fs m c).files (declares_each d ds fs m c).effects.notes
  unfolding declares_each
  declared_round d ds [] m c r = no_files m
  declared_round d ds (x ∷ fs) m c r =
      let at : Going = record { file = x; effects = m; drives = ds; chosen = c } in
      let part : Part x m.notes (declares at d) =
      part_declares at (r.ahead x (inl refl)) d (alone x (r.all x (inl refl))) in
      one_round x fs m r (declares at d) part _ _
      (declared_round d ds fs (declares at d).effects (declares at d).chosen (round_on x fs m r (declares at d) part))

  opened_round : (format : ℕ) (ds : List Drive) (fs : List File) (m : Effects) → AtRound fs m
      → RoundSo fs m (opens_each format ds fs m).files (opens_each format ds fs m).effects.notes
  unfolding opens_each
  opened_round format ds [] m r = no_files m
  opened_round format ds (x ∷ fs) m r =
      let at : Going = record { file = x; effects = m; drives = ds; chosen = [] } in
      let part : Part x m.notes (opens format at) =
      part_opens at (r.ahead x (inl refl)) format (alone x (r.all x (inl refl))) in
      one_round x fs m r (opens format at) part _ _
      (opened_round format ds fs (opens format at).effects (round_on x fs m r (opens format at) part))

  -- ---- a file is made, and a crash

  made_so : (x : File) → file_at s.files x.kept.number ≡ None → P (makes_file s x)
  made_so x none g e =
      let h : Going = making (at_file (with_file s x) [] x) in
      let part : Part x [] h = part_making (at_file (with_file s x) [] x) (none_in x.kept.number) in
      let other : x.kept.number ≡ n → ⊥ = λ same. cc (sym none ∙ ap (file_at s.files) same ∙ found) in
      same_so h.effects.notes (λ o. none_in n (over_beside x.kept.number n [] h.effects.notes part.come other o)) g
      (sym (beside s.files x n (ne_eqb x.kept.number n other))
      ∙ sym (put_other (add_file s.files x) x.kept.number h.file part.number n (ne_eqb x.kept.number n other)) ∙ e)

  crashed_at : (fs : List File) (g : File) → file_at fs n ≡ Some f → file_at (map crashed_file fs) n ≡ Some g
      → g ≡ crashed_file f
  unfolding file_at
  crashed_at [] g e b = absurd (cc e)
  crashed_at (x ∷ fs) g e b = elim (cases_eq x.kept.number n) [
    | inl same ↦
        by (rw (eq-eqb x.kept.number n same) at e) (rw (eq-eqb x.kept.number n same) at b)
    | inr other ↦
        crashed_at fs g (rw (ne_eqb x.kept.number n other) at e) (rw (ne_eqb x.kept.number n other) at b)
  ]
    where
      by : Some x ≡ Some f → Some (crashed_file x) ≡ Some g → g ≡ crashed_file f
      by p q = sym (one (crashed_file x) g q) ∙ ap crashed_file (one x f p)

  crash_so : P (still (crash s))
  crash_so g e =
      subst (λ (y : File). GoesSo f y []) (sym (crashed_at s.files g found e))
      (inr (λ o. none_in f.kept.number o, inr (left, refl)))
    where
      other : (t : ℕ) → t ≡ t + 1 → ⊥
      other t x = omega (arith, x)

      left : IsUnderFence f (crashed_file f) → ⊥
      left (inl t) = true≢false (sym t)
      left (inr e) = other f.kept.tag e

  -- ---- the cases

  module _ (chosen : List ℕ) (i : Input) where
    refused : (x : File) (kind : NoteKind) → Refuses x kind → is_plain kind ≡ true
    refused x kind (WhileBusy j runs is) = ap is_plain is
    refused x kind (OnGreatest none great is) = ap is_plain is

    requests : (now : ℕ) (q : ClientRequest) → RequestCases s now chosen q P
    requests now q = record {
      again = λ kept is. still_so;
      misordered = λ expected is. still_so;
      without = λ is none. still_so;
      served = λ is x there_is.
          let among : In x s.files = in_at s.files q.file x there_is in
          put_so x among (serves (at_file s chosen x) s.next_grant s.format now q.client q.args).going
          (part_serves (at_file s chosen x) (none_in x.kept.number) s.next_grant s.format now q.client q.args (alone x among))
          q.file (sym (number_at s.files q.file x there_is));
    }

    answered : (x : Answering) → IsAnswering s i x → Part x.file [] (answered_file s chosen x)
    answered x is =
        part_reply (at_file s chosen x.file) (none_in x.file.kept.number) x.job is.runs
        (subst (λ (o : Option Job). NoneBeside o x.file.kept.grants) is.runs (alone x.file is.there)) x.awaited x.reply
        (hearing x.file.kept x.awaited x.reply)

    cases : StepCases s chosen i P
    unfolding declare
    cases = record {
      rests = still_so;
      asked = λ now q is. each_request s now chosen q P (requests now q);
      answered = λ x is. put_so x.file is.there (answered_file s chosen x) (answered x is) _ (answered x is).number;
      recalled = λ x is. still_so;
      refused = λ x is kind why.
          let among : In x s.files = in_at s.files is.target x is.found in
          put_so x among (noting (at_file s chosen x) kind)
          (part_noted (at_file s chosen x) (none_in x.kept.number) kind (refused x kind why) (alone x among)) x.kept.number refl;
      fenced = λ x is kind free low.
          put_so x (in_at s.files is.target x is.found) (fence_begins kind s.format (at_file s chosen x))
          (part_fence (at_file s chosen x) (none_in x.kept.number) kind s.format) x.kept.number refl;
      declared = λ d known g e. (declared_round d (offline s.drives d) s.files (begins s) chosen at_first).goes g found e;
      told = λ t now o is result p. p;
      made = λ k m tag zoned is none. made_so (new_file s chosen k m tag zoned) (not_there s k m zoned none);
      added = λ d is. still_so;
      zoned = λ d zone is. still_so;
      formats = λ m is. still_so;
      resends = λ is. still_so;
      crashes = λ is. crash_so;
      opened = λ is low g e. (opened_round s.format s.drives s.files (begins s) at_first).goes g found e;
    }

    pub ended_so : P (step s chosen i)
    ended_so = each_step s chosen i P cases
