-- What the jobs of files await behind a step: what they awaited, and new commands; and no two files await one nonce.
use Rattle.std.proofs.Common.{◌≡◌, ◌⊎◌, ◌≤◌, ◌<◌, ℕ, List, [], ◌∷◌, map, Option, None, refl, sym, ap, subst, ◌∙◌, arith, inl, inr}
use Rattle.server_rules.specs.Files.{Step, put_file, add_file, at_file, begins}
use Rattle.server_rules.specs.Going.{Going}
use Rattle.server_rules.specs.History.{Input, step}
use Rattle.server_rules.specs.Jobs.{making, declares}
use Rattle.server_rules.specs.Laws.{In}
use Rattle.server_rules.specs.Making.{with_file}
use Rattle.server_rules.specs.Messages.{awaited_by}
use Rattle.server_rules.specs.Openings.{crashed_file, opens, opens_each}
use Rattle.server_rules.specs.Orders.{offline, declare, declares_each}
use Rattle.server_rules.specs.Replies.{hearing}
use Rattle.server_rules.specs.Requests.{on_request}
use Rattle.world_history.specs.ServerNames.{Server, File, Drive, Job, Awaited, Effects, ClientRequest}
use Rattle.history_law.specs.Steps.{answered_file, new_file, IsAsked, StepCases}
use Rattle.history_law.proofs.Files.{in_at, crashed_each}
use Rattle.history_law.proofs.Steps.{each_request, each_step}
use Rattle.history_law.proofs.Lists.{numbered_from}
use Rattle.history_law.proofs.Fences.{GoesFrom, handled_fence, handled_making}
use Rattle.history_law.proofs.Hearing.{found_in, goes_hears}
use Rattle.history_law.proofs.Asking.{handled_served, handled_declares, handled_opened}
use Rattle.history_law.proofs.JobFiles.{in_add, in_put}
use Rattle.cause_law.proofs.TagSteps.{R}

-- ---- a file

-- what it awaits it awaited, or is new
abbrev pub Waits : (next : ℕ) → File → File → Type 0
Waits n f g =
    (g.kept.number ≡ f.kept.number)
    × ((a : Awaited) → In a (awaited_by g.job) → In a (awaited_by f.job) ⊎ (n ≤ a.command.nonce))

-- of one of these, or of a new one
abbrev pub Came : (next : ℕ) → List File → File → Type 0
Came n fs g = ((f : File) × In f fs × Waits n f g) ⊎ ((a : Awaited) → In a (awaited_by g.job) → n ≤ a.command.nonce)

-- what is awaited has earlier nonces
abbrev pub AreBelow : (next : ℕ) → List File → Type 0
AreBelow n fs = (f : File) → In f fs → (a : Awaited) → In a (awaited_by f.job) → a.command.nonce < n

-- no new nonce is awaited by two files
abbrev pub ArePartedFrom : (next : ℕ) → List File → Type 0
ArePartedFrom n gs =
    (x y : File) → In x gs → In y gs → (a b : Awaited) → In a (awaited_by x.job) → In b (awaited_by y.job)
    → n ≤ a.command.nonce → a.command.nonce ≡ b.command.nonce → x.kept.number ≡ y.kept.number

pub record Parts (n : ℕ) (fs gs : List File) : Type 0 where
  pub came : (g : File) → In g gs → Came n fs g
  pub parted : ArePartedFrom n gs

-- ---- files one after another

-- what a file awaits it awaited, or its nonce is between these
record IsLink (n k : ℕ) (f g : File) : Type 0 where
  rises : n ≤ k
  number : g.kept.number ≡ f.kept.number
  waits : (a : Awaited) → In a (awaited_by g.job)
      → In a (awaited_by f.job) ⊎ ((n ≤ a.command.nonce) × (a.command.nonce < k))

link : (g h : Going) → GoesFrom g h → IsLink g.effects.nonce h.effects.nonce g.file h.file
link g h x = record {
  rises = omega (arith, x.rises);
  number = x.number_is;
  waits = λ a i. elim (x.waits a i) [
    | inl old ↦ inl old
    | inr new ↦
        let r = numbered_from g.effects.nonce x.fresh a x.numbered new in
        inr (r.0, omega (arith, r.1, x.rises))
  ];
}

abbrev Chain : (n : ℕ) → List File → List File → Type 0
Chain n [] [] = Unit {0}
Chain n (f ∷ fs) (g ∷ gs) = (k : ℕ) × IsLink n k f g × Chain k fs gs
Chain n fs gs = ⊥

chain_declared : (d : ℕ) (ds : List Drive) (fs : List File) (m : Effects) (placed : List ℕ)
    → Chain m.nonce fs (declares_each d ds fs m placed).files
unfolding declares_each
chain_declared d ds [] m placed = tt
chain_declared d ds (f ∷ fs) m placed =
    let g : Going = record { file = f; effects = m; drives = ds; chosen = placed } in
    let h : Going = declares g d in
    (h.effects.nonce, link g h (handled_declares R g d).goes, chain_declared d ds fs h.effects h.chosen)

chain_opened : (format : ℕ) (ds : List Drive) (fs : List File) (m : Effects)
    → Chain m.nonce fs (opens_each format ds fs m).files
unfolding opens_each
chain_opened format ds [] m = tt
chain_opened format ds (f ∷ fs) m =
    let g : Going = record { file = f; effects = m; drives = ds; chosen = [] } in
    let h : Going = opens format g in
    (h.effects.nonce, link g h (handled_opened R format g).goes, chain_opened format ds fs h.effects)

chain_came : (lo n : ℕ) (fs gs : List File) → lo ≤ n → Chain n fs gs → (g : File) → In g gs
    → (f : File) × In f fs × Waits lo f g
chain_came lo n [] [] le c g i = absurd i
chain_came lo n [] (y ∷ gs) le c g i = absurd c
chain_came lo n (f ∷ fs) [] le c g i = absurd c
chain_came lo n (f ∷ fs) (y ∷ gs) le c g (inl same) = (
  f,
  inl refl,
  subst (λ (x : File). Waits lo f x) (sym same) (
    c.1.number,
    λ a i. elim (c.1.waits a i) [
      | inl old ↦ inl old
      | inr new ↦ inr (omega (arith, le, new.0))
    ],
  ),
)
chain_came lo n (f ∷ fs) (y ∷ gs) le c g (inr i) =
    let r = chain_came lo c.0 fs gs (omega (arith, le, c.1.rises)) c.2 g i in (r.0, inr r.1, r.2)

-- what the first file awaits anew is before what the later ones do
first_apart : (lo n k : ℕ) (f z : File) (fs gs : List File) → lo ≤ n → AreBelow lo (f ∷ fs) → IsLink n k f z → Chain k fs gs
    → (y : File) → In y gs → (a b : Awaited) → In a (awaited_by z.job) → In b (awaited_by y.job) → lo ≤ a.command.nonce
    → a.command.nonce ≡ b.command.nonce → ⊥
first_apart lo n k f z fs gs le below x c y j a b p q new e =
    let r = chain_came k k fs gs (omega arith) c y j in
    elim (x.waits a p) [
      | inl old ↦ omega (arith, new, below f (inl refl) a old)
      | inr fresh ↦ elim (r.2.1 b q) [
        | inl old ↦ omega (arith, new, e, below r.0 (inr r.1) b old)
        | inr later ↦ omega (arith, fresh.1, e, later)
      ]
    ]

chain_parted : (lo n : ℕ) (fs gs : List File) → lo ≤ n → AreBelow lo fs → Chain n fs gs → ArePartedFrom lo gs
chain_parted lo n [] [] le below c x y i j a b p q new e = absurd i
chain_parted lo n [] (z ∷ gs) le below c x y i j a b p q new e = absurd c
chain_parted lo n (f ∷ fs) [] le below c x y i j a b p q new e = absurd c
chain_parted lo n (f ∷ fs) (z ∷ gs) le below c x y (inl here) (inl there) a b p q new e =
    ap (λ (v : File). v.kept.number) here ∙ sym (ap (λ (v : File). v.kept.number) there)
chain_parted lo n (f ∷ fs) (z ∷ gs) le below c x y (inl here) (inr j) a b p q new e =
    absurd (first_apart lo n c.0 f z fs gs le below c.1 c.2 y j a b
    (subst (λ (v : File). In a (awaited_by v.job)) here p) q new e)
chain_parted lo n (f ∷ fs) (z ∷ gs) le below c x y (inr i) (inl there) a b p q new e =
    absurd (first_apart lo n c.0 f z fs gs le below c.1 c.2 x i b a
    (subst (λ (v : File). In b (awaited_by v.job)) there q) p (subst (λ (k : ℕ). lo ≤ k) e new) (sym e))
chain_parted lo n (f ∷ fs) (z ∷ gs) le below c x y (inr i) (inr j) a b p q new e =
    chain_parted lo c.0 fs gs (omega (arith, le, c.1.rises)) (λ v k. below v (inr k)) c.2 x y i j a b p q new e

-- ---- a step

no_job : (o : Option Job) (a : Awaited) → o ≡ None → In a (awaited_by o) → ⊥
no_job o a e i = subst (λ (x : Option Job). In a (awaited_by x)) e i

module _ (s : Server) (chosen : List ℕ) (i : Input) (below : AreBelow s.next_nonce s.files) where
  abbrev P : Step → Type 0
  P t = Parts s.next_nonce s.files t.state.files

  none_old : (f : File) → In f s.files → (a : Awaited) → In a (awaited_by f.job) → s.next_nonce ≤ a.command.nonce → ⊥
  none_old f there a k new = omega (arith, new, below f there a k)

  stays : (f : File) → In f s.files → Came s.next_nonce s.files f
  stays f there = inl (f, there, (refl, λ a k. inl k))

  stay : Parts s.next_nonce s.files s.files
  stay = record { came = stays; parted = λ x y j k a b p q new e. absurd (none_old x j a p new) }

  -- these are of the server, or await nothing
  abbrev AreIdle : List File → Type 0
  AreIdle all = (x : File) → In x all → In x s.files ⊎ ((a : Awaited) → In a (awaited_by x.job) → ⊥)

  idle_none : (all : List File) → AreIdle all → (x : File) → In x all → (a : Awaited) → In a (awaited_by x.job)
      → s.next_nonce ≤ a.command.nonce → ⊥
  idle_none all idle x there a k new = elim (idle x there) [
    | inl own ↦ none_old x own a k new
    | inr none ↦ none a k
  ]

  put_in : (all : List File) (n : ℕ) (h : File) → AreIdle all → Came s.next_nonce s.files h
      → Parts s.next_nonce s.files (put_file all n h)
  put_in all n h idle came = record {
    came = λ g j. elim (in_put all n h g j) [
      | inl same ↦ subst (Came s.next_nonce s.files) (sym same) came
      | inr there ↦ elim (idle g there) [
        | inl own ↦ stays g own
        | inr none ↦ inr (λ a k. absurd (none a k))
      ]
    ];
    parted = λ x y j k a b p q new e. elim (in_put all n h x j) [
      | inl here ↦ elim (in_put all n h y k) [
        | inl there ↦ ap (λ (v : File). v.kept.number) here ∙ sym (ap (λ (v : File). v.kept.number) there)
        | inr old ↦ absurd (idle_none all idle y old b q (subst (λ (v : ℕ). s.next_nonce ≤ v) e new))
      ]
      | inr old ↦ absurd (idle_none all idle x old a p new)
    ];
  }

  own : AreIdle s.files
  own x there = inl there

  put_at : (n : ℕ) (f : File) (h : Going) → In f s.files → GoesFrom (at_file s chosen f) h
      → Parts s.next_nonce s.files (put_file s.files n h.file)
  put_at n f h there goes =
      let l = link (at_file s chosen f) h goes in
      put_in s.files n h.file own (inl (
        f,
        there,
        (
          l.number,
          λ a k. elim (l.waits a k) [
            | inl old ↦ inl old
            | inr new ↦ inr new.0
          ],
        ),
      ))

  all_of : (gs : List File) → Chain s.next_nonce s.files gs → Parts s.next_nonce s.files gs
  all_of gs c = record {
    came = λ g j. inl (chain_came s.next_nonce s.next_nonce s.files gs (omega arith) c g j);
    parted = chain_parted s.next_nonce s.next_nonce s.files gs (omega arith) below c;
  }

  asked : (now : ℕ) (q : ClientRequest) → IsAsked s i now q → P (on_request s now chosen q)
  asked now q is =
      each_request s now chosen q P (record {
        again = λ kept e. stay;
        misordered = λ expected e. stay;
        without = λ new none. stay;
        served = λ new f found.
            put_at q.file f _ (in_at s.files q.file f found)
            (handled_served R (at_file s chosen f) s.next_grant s.format now q.client q.args).goes;
      })

  crashed_none : (g : File) → In g (map crashed_file s.files) → (a : Awaited) → In a (awaited_by g.job) → ⊥
  crashed_none = crashed_each (λ (g : File). (a : Awaited) → In a (awaited_by g.job) → ⊥) s.files (λ f there a k. k)

  cases : StepCases s chosen i P
  unfolding declare
  cases = record {
    rests = stay;
    asked = asked;
    answered = λ x is.
        put_at (answered_file s chosen x).file.kept.number x.file (answered_file s chosen x) is.there
        (goes_hears (at_file s chosen x.file) x.job x.awaited x.reply (hearing x.file.kept x.awaited x.reply)
        (found_in _ x.job.awaited x.awaited is.awaits).0
        (λ y j. subst (λ (o : Option Job). In y (awaited_by o)) (sym is.runs) j));
    recalled = λ f is. stay;
    refused = λ f is n why.
        put_in s.files f.kept.number f own (stays f (in_at s.files is.target f is.found));
    fenced = λ f is kind free low.
        put_at f.kept.number f _ (in_at s.files is.target f is.found)
        (handled_fence R kind s.format (at_file s chosen f)).goes;
    declared = λ d known. all_of _ (chain_declared d (offline s.drives d) s.files (begins s) chosen);
    told = λ t now o is result p. p;
    made = λ n m tag zoned is none.
        let f : File = new_file s chosen n m tag zoned in
        let g : Going = at_file (with_file s f) [] f in
        let l = link g (making g) (handled_making R g).goes in
        put_in (add_file s.files f) n (making g).file
        (λ x there. elim (in_add s.files f x there) [
          | inl same ↦ inr (λ a k. no_job x.job a (ap (λ (v : File). v.job) same) k)
          | inr old ↦ inl old
        ])
        (inr (λ a k. elim (l.waits a k) [ inl old ↦ absurd old | inr new ↦ new.0 ]));
    added = λ d is. stay;
    zoned = λ d zone is. stay;
    formats = λ n is. stay;
    resends = λ is. stay;
    crashes = λ is. record {
      came = λ g j. inr (λ a k. absurd (crashed_none g j a k));
      parted = λ x y j k a b p q new e. absurd (crashed_none x j a p);
    };
    opened = λ is low. all_of _ (chain_opened s.format s.drives s.files (begins s));
  }

  pub step_parts : Parts s.next_nonce s.files (step s chosen i).state.files
  step_parts = each_step s chosen i P cases
