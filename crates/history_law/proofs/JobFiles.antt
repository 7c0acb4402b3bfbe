-- Steps at one file, and through all files: what they send anew, and what fences wait for.
use Rattle.std.proofs.Common.{◌≡◌, ◌⊎◌, ◌==◌, ℕ, ◌+◌, Bool, true, false, nat_lt, List, [], ◌∷◌, ◌++◌, length, Option, Some, None, refl, sym, ap, subst, ◌∙◌, arith, inl, inr, append_assoc, if◌then◌else◌}
use Rattle.std.proofs.lemmas.List.{append-nil, length-append}
use Rattle.std.proofs.lemmas.Bool.Decides.{nat_tests}
use Rattle.osd_commands.specs.declared.commands.Command.{Command}
use Rattle.history_law.specs.Names.{Server, File, Drive, Awaited, Job, Effects, Note, ToDrive, Fenced}
use Rattle.server_rules.specs.Commands.{sealed}
use Rattle.server_rules.specs.Going.{Going}
use Rattle.server_rules.specs.Jobs.{declares}
use Rattle.server_rules.specs.Files.{Step, file_at, put_file, add_file, to_drive, to_drives}
use Rattle.server_rules.specs.Messages.{awaited_by}
use Rattle.server_rules.specs.Orders.{declares_each}
use Rattle.server_rules.specs.Openings.{opens, opens_each}
use Rattle.server_rules.specs.Rounds.{Round, step_round}
use Rattle.server_rules.specs.Laws.{In}
use Rattle.server_rules.proofs.Members.{in_front, in_behind, in_either, in_map, in_mapped}
use Rattle.history_law.specs.Numbered.{Numbered, Awaits, IsOf, NumbersOn}
use Rattle.history_law.specs.Fencing.{Reached, is_fencing, IsFencing, AreFencing, FencesHold}
use Rattle.history_law.specs.Owned.{AreOwned, Owns}
use Rattle.history_law.proofs.Lists.{numbered_at, numbered_more}
use Rattle.history_law.proofs.Owned.{AllOwned, none_owned, sent_owned}
use Rattle.history_law.proofs.Fences.{Goes, Ended, Fencing, Handled}
use Rattle.history_law.proofs.Asking.{handled_declares, handled_opened}

-- ---- the list of files

pub found_file : (fs : List File) (n : ℕ) (f : File) → file_at fs n ≡ Some f → In f fs × (f.kept.number ≡ n)
unfolding file_at
found_file [] n f e = absurd (cc e)
found_file (g ∷ fs) n f e = either (g.kept.number == n) refl e (found_file fs n f)
  where
    same : Some g ≡ Some f → g ≡ f
    same x = cc x

    its : (a b : ℕ) → (a == b) ≡ true → a ≡ b
    its a b x = grind (arith, x, nat_tests)

    either : (b : Bool) → (g.kept.number == n) ≡ b → (if b then Some g else file_at fs n) ≡ Some f
        → (file_at fs n ≡ Some f → In f fs × (f.kept.number ≡ n)) → In f (g ∷ fs) × (f.kept.number ≡ n)
    either true is x rest = (
      inl (sym (same x)),
      subst (λ (y : File). y.kept.number ≡ n) (same x) (its g.kept.number n is),
    )
    either false is x rest = let r = rest x in (inr r.0, r.1)

pub in_put : (fs : List File) (n : ℕ) (g x : File) → In x (put_file fs n g) → (x ≡ g) ⊎ In x fs
unfolding put_file
in_put [] n g x i = absurd i
in_put (f ∷ fs) n g x i = either (f.kept.number == n) i (in_put fs n g x)
  where
    either : (b : Bool) → In x (if b then g ∷ fs else f ∷ put_file fs n g)
        → (In x (put_file fs n g) → (x ≡ g) ⊎ In x fs) → (x ≡ g) ⊎ In x (f ∷ fs)
    either true (inl e) rest = inl e
    either true (inr i) rest = inr (inr i)
    either false (inl e) rest = inr (inl e)
    either false (inr i) rest = elim (rest i) [ inl e ↦ inl e | inr j ↦ inr (inr j) ]

pub put_there : (fs : List File) (n : ℕ) (g f : File) → In f fs → f.kept.number ≡ n → In g (put_file fs n g)
unfolding put_file
put_there [] n g f i e = absurd i
put_there (x ∷ fs) n g f (inl same) e =
    here (x.kept.number == n) (yes x.kept.number n (ap (λ (y : File). y.kept.number) (sym same) ∙ e))
  where
    yes : (a b : ℕ) → a ≡ b → (a == b) ≡ true
    yes a b e = grind (arith, e, nat_tests)

    here : (b : Bool) → b ≡ true → In g (if b then g ∷ fs else x ∷ put_file fs n g)
    here true is = inl refl
    here false is = absurd (cc is)
put_there (x ∷ fs) n g f (inr i) e = either (x.kept.number == n) (put_there fs n g f i e)
  where
    either : (b : Bool) → In g (put_file fs n g) → In g (if b then g ∷ fs else x ∷ put_file fs n g)
    either true j = inl refl
    either false j = inr j

pub in_add : (fs : List File) (g x : File) → In x (add_file fs g) → (x ≡ g) ⊎ In x fs
unfolding add_file
in_add [] g x (inl e) = inl e
in_add [] g x (inr i) = absurd i
in_add (f ∷ fs) g x i = either (nat_lt f.kept.number g.kept.number) i (in_add fs g x)
  where
    either : (b : Bool) → In x (if b then f ∷ add_file fs g else g ∷ f ∷ fs)
        → (In x (add_file fs g) → (x ≡ g) ⊎ In x fs) → (x ≡ g) ⊎ In x (f ∷ fs)
    either true (inl e) rest = inr (inl e)
    either true (inr i) rest = elim (rest i) [ inl e ↦ inl e | inr j ↦ inr (inr j) ]
    either false (inl e) rest = inl e
    either false (inr i) rest = inr i

pub add_there : (fs : List File) (g : File) → In g (add_file fs g)
unfolding add_file
add_there [] g = inl refl
add_there (f ∷ fs) g = either (nat_lt f.kept.number g.kept.number) (add_there fs g)
  where
    either : (b : Bool) → In g (add_file fs g) → In g (if b then f ∷ add_file fs g else g ∷ f ∷ fs)
    either true i = inr i
    either false i = inl refl

-- ---- a step at one file

-- what goes to a drive is the command, under a check value
pub is_of : (ds : List Drive) (a : Awaited) (drive : ℕ) (c : Command) → ToDrive drive c ≡ to_drive ds a → IsOf drive c a
is_of ds a drive c e = (
  sym (drives e),
  subst (λ (x : Command). x ≡ record a.command { check = x.check }) (sym
      (commands e)) refl,
)
  where
    drives : ToDrive drive c ≡ to_drive ds a → drive ≡ a.drive
    drives x = cc x

    commands : ToDrive drive c ≡ to_drive ds a → c ≡ sealed ds a
    commands x = cc x

pub in_drives : (ds : List Drive) (cs : List Awaited) (drive : ℕ) (c : Command) → In (ToDrive drive c) (to_drives ds cs)
    → (a : Awaited) × IsOf drive c a × In a cs
in_drives ds cs drive c i =
    let r = in_mapped (to_drive ds) (ToDrive drive c) cs i in (r.0, is_of ds r.0 drive c r.2, r.1)

-- the step of a file: it is put, and what it sent goes to drives
pub record IsStepAt (s : Server) (f : File) (h : Going) (t : Step) : Type 0 where
  pub files : (x : File) → In x t.state.files → (x ≡ h.file) ⊎ (In x s.files ⊎ (x.job ≡ None))
  pub there : In h.file t.state.files
  pub awaits : (a : Awaited) → In a (awaited_by f.job) → Awaits s.files a
  pub nonce : t.state.next_nonce ≡ h.effects.nonce
  pub notes : t.notes ≡ h.effects.notes
  pub sends : (drive : ℕ) (c : Command) → In (ToDrive drive c) t.sends
      → In (ToDrive drive c) (to_drives s.drives h.effects.sent)
  pub out : (a : Awaited) → In a h.effects.sent → In (to_drive t.state.drives a) t.sends

module _ (s : Server) (f : File) (h : Going) (t : Step) (is : IsStepAt s f h t) where
  none_awaited : (o : Option Job) (a : Awaited) → o ≡ None → In a (awaited_by o) → ⊥
  none_awaited o a e i = subst (λ (x : Option Job). In a (awaited_by x)) e i

  pub numbers_at : (number tag : ℕ) → Goes number tag s.next_nonce [] (awaited_by f.job) h → NumbersOn s t
  numbers_at number tag g = record {
    fresh = g.fresh;
    numbered = g.numbered;
    rises = is.nonce ∙ g.rises;
    waits = λ a w. let x = w.0 in elim (is.files x w.1) [
      | inl same ↦ elim (g.waits a (subst (λ (y : File). In a (awaited_by y.job)) same w.2)) [
        | inl old ↦ inl (is.awaits a old)
        | inr new ↦ inr new
      ]
      | inr (inl i) ↦ inl (x, i, w.2)
      | inr (inr none) ↦ absurd (none_awaited x.job a none w.2)
    ];
    sends = λ drive c i.
        let r = in_drives s.drives h.effects.sent drive c (is.sends drive c i) in
        (r.0, r.1, inr (subst (In r.0) g.sent_is r.2));
    goes_out = λ a i. is.out a (subst (In a) (sym g.sent_is) i);
  }

  pub owns_at : (number tag : ℕ) → Goes number tag s.next_nonce [] (awaited_by f.job) h → Owns s t
  owns_at number tag g = record {
    waits = λ were a w. let x = w.0 in elim (is.files x w.1) [
      | inl same ↦ elim (g.waits a (subst (λ (y : File). In a (awaited_by y.job)) same w.2)) [
        | inl old ↦ were a (is.awaits a old)
        | inr new ↦ g.owned (λ b i. were b (is.awaits b i)) a new
      ]
      | inr (inl i) ↦ were a (x, i, w.2)
      | inr (inr none) ↦ absurd (none_awaited x.job a none w.2)
    ];
    sends = λ were drive c i.
        let r = in_drives s.drives h.effects.sent drive c (is.sends drive c i) in
        sent_owned drive c r.0 r.1
        (g.owned (λ b j. were b (is.awaits b j)) r.0 (subst (In r.0) g.sent_is r.2));
  }

  pub fences_at : (R : Reached) → AreFencing R s.files → Fencing R [] h → FencesHold R t
  fences_at R were g = record {
    fencing = λ x i e. elim (is.files x i) [
      | inl same ↦ subst (IsFencing R) (sym same) (g.fencing (ap (λ (y : File). is_fencing y.job) (sym same) ∙ e))
      | inr (inl j) ↦ were x j e
      | inr (inr none) ↦ absurd (cc (sym e ∙ ap is_fencing none))
    ];
    fenced = λ n tag i e. elim (g.ended n tag (subst (In n) is.notes i) e) [
      | inl nothing ↦ absurd nothing
      | inr (file, own, all) ↦ (h.file, is.there, sym file, own, all)
    ];
  }

-- ---- a step through all files

pub record GoesAll (nonce : ℕ) (sent : List Awaited) (fs : List File) (r : Round) : Type 0 where
  pub fresh : List Awaited
  pub sent_is : r.effects.sent ≡ sent ++ fresh
  pub rises : r.effects.nonce ≡ nonce + length fresh
  pub numbered : Numbered nonce fresh
  pub owned : AreOwned fs → AllOwned fresh
  pub waits : (a : Awaited) → Awaits r.files a → Awaits fs a ⊎ In a fresh

pub record FencingAll (R : Reached) (notes : List Note) (r : Round) : Type 0 where
  pub fencing : AreFencing R r.files
  pub ended : (x : Note) (tag : ℕ) → In x r.effects.notes → x.kind ≡ Fenced tag →
      In x notes ⊎ ((f : File) × In f r.files × Ended R x tag f)

pub record HandledAll (R : Reached) (nonce : ℕ) (sent : List Awaited) (notes : List Note) (fs : List File) (r :
    Round) : Type 0 where
  pub goes : GoesAll nonce sent fs r
  pub fences : AreFencing R fs → FencingAll R notes r

no_files : (R : Reached) (m : Effects) (chosen : List ℕ)
    → HandledAll R m.nonce m.sent m.notes [] (record { files = []; effects = m; chosen = chosen })
no_files R m chosen = record {
  goes = record {
    fresh = [];
    sent_is = sym (append-nil m.sent);
    rises = omega arith;
    numbered = tt;
    owned = λ were. none_owned;
    waits = λ a w. absurd w.1;
  };
  fences = λ were. record { fencing = λ f i e. absurd i; ended = λ x tag i e. inl i };
}

then_all : (R : Reached) (g h : Going) (fs : List File) (r : Round) → Handled R g h
    → HandledAll R h.effects.nonce h.effects.sent h.effects.notes fs r
    → HandledAll R g.effects.nonce g.effects.sent g.effects.notes (g.file ∷ fs) (record r { files = h.file ∷ r.files })
then_all R g h fs r one all = record {
  goes = record {
    fresh = one.goes.fresh ++ all.goes.fresh;
    sent_is =
        all.goes.sent_is ∙ ap (λ (l : List Awaited). l ++ all.goes.fresh) one.goes.sent_is
        ∙ append_assoc g.effects.sent one.goes.fresh all.goes.fresh;
    rises = omega (arith, all.goes.rises, one.goes.rises, length-append one.goes.fresh all.goes.fresh);
    numbered =
        numbered_more g.effects.nonce one.goes.fresh all.goes.fresh one.goes.numbered
        (numbered_at h.effects.nonce (g.effects.nonce + length one.goes.fresh) all.goes.fresh one.goes.rises
        all.goes.numbered);
    owned = λ were a i. elim (in_either a one.goes.fresh all.goes.fresh i) [
      | inl new ↦ one.goes.owned (λ b j. were b (g.file, inl refl, j)) a new
      | inr new ↦ all.goes.owned (λ b w. were b (w.0, inr w.1, w.2)) a new
    ];
    waits = waits;
  };
  fences = λ were.
      let a = one.fences (λ e. were g.file (inl refl) e) in
      let b = all.fences (λ x i e. were x (inr i) e) in
      record {
        fencing = λ x i e. elim i [
          | inl same ↦ subst (IsFencing R) (sym same) (a.fencing (ap (λ (y : File). is_fencing y.job) (sym same) ∙ e))
          | inr j ↦ b.fencing x j e
        ];
        ended = λ x tag i e. elim (b.ended x tag i e) [
          | inl before ↦ elim (a.ended x tag before e) [
            | inl there ↦ inl there
            | inr own ↦ inr (h.file, inl refl, own)
          ]
          | inr (f, j, own) ↦ inr (f, inr j, own)
        ];
      };
}
  where
    waits : (a : Awaited) → Awaits (h.file ∷ r.files) a
        → Awaits (g.file ∷ fs) a ⊎ In a (one.goes.fresh ++ all.goes.fresh)
    waits a (x, inl same, w) = elim (one.goes.waits a (subst (λ (y : File). In a (awaited_by y.job)) same w)) [
      | inl old ↦ inl (g.file, inl refl, old)
      | inr new ↦ inr (in_front a one.goes.fresh all.goes.fresh new)
    ]
    waits a (x, inr i, w) = elim (all.goes.waits a (x, i, w)) [
      | inl (y, j, old) ↦ inl (y, inr j, old)
      | inr new ↦ inr (in_behind a one.goes.fresh all.goes.fresh new)
    ]

pub handled_each : (R : Reached) (drive : ℕ) (ds : List Drive) (fs : List File) (m : Effects) (chosen : List ℕ)
    → HandledAll R m.nonce m.sent m.notes fs (declares_each drive ds fs m chosen)
unfolding declares_each
handled_each R drive ds [] m chosen = no_files R m chosen
handled_each R drive ds (f ∷ fs) m chosen =
    let g : Going = record { file = f; effects = m; drives = ds; chosen = chosen } in
    then_all R g (declares g drive) fs _ (handled_declares R g drive)
    (handled_each R drive ds fs (declares g drive).effects (declares g drive).chosen)

pub opened_each : (R : Reached) (format : ℕ) (ds : List Drive) (fs : List File) (m : Effects)
    → HandledAll R m.nonce m.sent m.notes fs (opens_each format ds fs m)
unfolding opens_each
opened_each R format ds [] m = no_files R m []
opened_each R format ds (f ∷ fs) m =
    let g : Going = record { file = f; effects = m; drives = ds; chosen = [] } in
    then_all R g (opens format g) fs _ (handled_opened R format g) (opened_each R format ds fs (opens format g).effects)

-- the step of a round, which may change drives
pub numbers_round : (s t : Server) (r : Round) → t.next_nonce ≡ s.next_nonce → GoesAll s.next_nonce [] s.files r
    → NumbersOn s (step_round t r)
numbers_round s t r same g = record {
  fresh = g.fresh;
  numbered = g.numbered;
  rises = g.rises;
  waits = g.waits;
  sends = λ drive c i.
      let x = in_drives t.drives r.effects.sent drive c i in (x.0, x.1, inr (subst (In x.0) g.sent_is x.2));
  goes_out = λ a i. in_map (to_drive t.drives) a r.effects.sent (subst (In a) (sym g.sent_is) i);
}

pub owns_round : (s t : Server) (r : Round) → GoesAll s.next_nonce [] s.files r → Owns s (step_round t r)
owns_round s t r g = record {
  waits = λ were a w. elim (g.waits a w) [
    | inl old ↦ were a old
    | inr new ↦ g.owned were a new
  ];
  sends = λ were drive c i.
      let x = in_drives t.drives r.effects.sent drive c i in
      sent_owned drive c x.0 x.1 (g.owned were x.0 (subst (In x.0) g.sent_is x.2));
}

pub fences_round : (R : Reached) (t : Server) (r : Round) → FencingAll R [] r → FencesHold R (step_round t r)
fences_round R t r f = record {
  fencing = f.fencing;
  fenced = λ n tag i e. elim (f.ended n tag i e) [
    | inl nothing ↦ absurd nothing
    | inr (x, j, own) ↦ (x, j, sym own.0, own.1, own.2)
  ];
}
