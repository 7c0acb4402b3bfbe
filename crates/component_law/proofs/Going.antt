-- What a step at one file leaves: owners of objects, and what was sent to them.
use Rattle.std.proofs.Common.{◌≡◌, ℕ, ◌<◌, ◌≤◌, Bool, true, false, List, [], Option, Some, None, refl, sym, subst, ◌∙◌, arith, inl, inr, if◌then◌else◌}
use Rattle.server_rules.specs.Laws.{In}
use Rattle.server_rules.specs.Going.{Going}
use Rattle.server_rules.specs.Files.{Step, still, at_file, put_file, to_drives}
use Rattle.server_rules.specs.Messages.{awaited_by}
use Rattle.history_law.specs.Names.{Kept, Command, ToDrive, Server, File, Target, Awaited}
use Rattle.history_law.specs.Numbered.{IsOf}
use Rattle.history_law.proofs.JobFiles.{in_put, put_there, in_drives}
use Rattle.component_law.specs.Objects.{target_of, IsOwned}
use Rattle.component_law.proofs.ObjectSteps.{Agree, owned_later, with_owner, owner_below, owner_from}
use Rattle.component_law.specs.Tagged.{IsBehind}
use Rattle.component_law.proofs.Sent.{IsMine, AllMine}
use Rattle.component_law.proofs.Ends.{IsAim, AreClosed, Ends}
use Rattle.component_law.proofs.Sent.{IsUsed}

-- ---- owners

-- what a file has, and what its job awaits
pub record IsFine (owner : ℕ → ℕ) (next : ℕ) (f : File) : Type 0 where
  pub owned : IsOwned owner next f
  pub mine : AllMine (λ (o : ℕ). owner o ≡ f.kept.number) next f.kept (awaited_by f.job)
  pub closed : AreClosed f.kept f.job

abbrev pub AreFine : (ℕ → ℕ) → Server → Type 0
AreFine owner s = (f : File) → In f s.files → IsFine owner s.next_object f

pub mine_later : (owner later : ℕ → ℕ) (n m : ℕ) (f : File) → Agree owner later n → n ≤ m → (a : Awaited)
    → IsMine (λ (o : ℕ). owner o ≡ f.kept.number) n f.kept a → IsMine (λ (o : ℕ). later o ≡ f.kept.number) m f.kept a
mine_later owner later n m f agree le a x =
    ((agree a.command.object x.0.1 ∙ x.0.0, omega (arith, x.0.1, le)), x.1)

pub fine_later : (owner later : ℕ → ℕ) (n m : ℕ) (f : File) → Agree owner later n → n ≤ m → IsFine owner n f
    → IsFine later m f
fine_later owner later n m f agree le h = record {
  owned = owned_later owner later n m f agree le h.owned;
  mine = λ a i. mine_later owner later n m f agree le a (h.mine a i);
  closed = h.closed;
}

-- ---- a step at a file

module _ (owner : ℕ → ℕ) (n number : ℕ) where
  abbrev pub Mine : ℕ → Type 0
  Mine o = with_owner owner n number o ≡ number

  pub mine_fresh : (o : ℕ) → n ≤ o → Mine o
  mine_fresh o from = owner_from owner n number o from

  -- in the middle of a step
  pub into : (g : Going) → g.effects.object ≡ n → g.file.kept.number ≡ number → IsFine owner n g.file
      → Ends Mine number n g.file.kept g.effects.sent g
  into g at is h = (
    (
      is,
      omega (arith, at),
      λ o i.
          let r = h.owned.components o i in
          (owner_below owner n number o r.0 ∙ r.1 ∙ is, subst (λ (m : ℕ). o < m) (sym at) r.0),
      h.owned.differ,
      (λ c b. b, λ a i. inl i),
    ),
    aims (target_of g.file.job) refl,
    λ a i.
        let r = h.mine a i in (
          (
            owner_below owner n number a.command.object r.0.1 ∙ r.0.0 ∙ is,
            subst (λ (m : ℕ). a.command.object < m) (sym at) r.0.1,
          ),
          r.1,
        ),
    h.closed,
  )
    where
      aims : (o : Option Target) → target_of g.file.job ≡ o → IsAim Mine g.effects.object g.file.kept.components o
      aims None e = tt
      aims (Some t) e =
          let r = h.owned.target t e in (
            (owner_below owner n number t.object r.0 ∙ r.1 ∙ is, subst (λ (m : ℕ). t.object < m) (sym at) r.0),
            h.owned.apart t e,
          )

  -- and behind it
  pub out : (k0 : Kept) (before : List Awaited) (g : Going) → Ends Mine number n k0 before g
      → IsFine (with_owner owner n number) g.effects.object g.file
  out k0 before g h = record {
    owned = record {
      components = λ o i. let r = h.0.2 o i in (r.1, r.0 ∙ sym h.0.0);
      target = λ t e.
          let a = subst (IsAim Mine g.effects.object g.file.kept.components) e h.1 in (a.0.1, a.0.0 ∙ sym h.0.0);
      differ = h.0.3;
      apart = λ t e. (subst (IsAim Mine g.effects.object g.file.kept.components) e h.1).1;
    };
    mine = λ a i. let r = h.2 a i in ((r.0.0 ∙ sym h.0.0, r.0.1), r.1);
    closed = h.3;
  }

-- ---- a step

-- it comes from one of these, and what wasn't past that isn't past it
pub record IsFrom (fs : List File) (x : File) : Type 0 where
  pub file : File
  pub there : In file fs
  pub number : file.kept.number ≡ x.kept.number
  pub behind : (c : Command) → IsBehind file.kept c → IsBehind x.kept c

-- the command goes to an object of one of these, and isn't past it
pub record IsSent (owner : ℕ → ℕ) (next : ℕ) (fs : List File) (c : Command) : Type 0 where
  pub file : File
  pub there : In file fs
  pub used : IsUsed (λ (o : ℕ). owner o ≡ file.kept.number) next c.object
  pub behind : IsBehind file.kept c

pub from_same : (fs : List File) (x : File) → In x fs → IsFrom fs x
from_same fs x i = record { file = x; there = i; number = refl; behind = λ c b. b }

-- what is sent of an awaited command
pub sent_of : (owner : ℕ → ℕ) (next : ℕ) (fs : List File) (f : File) (drive : ℕ) (c : Command) (a : Awaited) → In f fs
    → IsOf drive c a → IsMine (λ (o : ℕ). owner o ≡ f.kept.number) next f.kept a → IsSent owner next fs c
sent_of owner next fs f drive c a i of x =
    subst (IsSent owner next fs) (sym of.1) (record { file = f; there = i; used = x.0; behind = x.1 })

-- behind a step from these files: by some owners that agree with the former
pub record Keeps (owner : ℕ → ℕ) (next : ℕ) (fs : List File) (t : Step) : Type 0 where
  pub later : ℕ → ℕ
  pub agree : Agree owner later next
  pub rises : next ≤ t.state.next_object
  pub fine : AreFine later t.state
  pub from : (x : File) → In x t.state.files → IsFrom fs x
  pub sent : (drive : ℕ) (c : Command) → In (ToDrive drive c) t.sends
      → IsSent later t.state.next_object t.state.files c

-- it keeps that
pub record Steps (s : Server) (t : Step) : Type 0 where
  pub keeps : (owner : ℕ → ℕ) → AreFine owner s → Keeps owner s.next_object s.files t

-- the files stay
pub idle : (s : Server) (t : Step) → t.state.next_object ≡ s.next_object → t.state.files ≡ s.files
    → ((owner : ℕ → ℕ) → AreFine owner s → (drive : ℕ) (c : Command) → In (ToDrive drive c) t.sends
    → IsSent owner s.next_object s.files c) → Steps s t
idle s t next files sent = record {
  keeps = λ owner h. record {
    later = owner;
    agree = λ o less. refl;
    rises = omega (arith, next);
    fine = λ f i. subst (λ (m : ℕ). IsFine owner m f) (sym next) (h f (subst (In f) files i));
    from = λ x i. from_same s.files x (subst (In x) files i);
    sent = λ drive c i.
        subst (λ (m : ℕ). IsSent owner m t.state.files c) (sym next)
        (subst (λ (fs : List File). IsSent owner s.next_object fs c) (sym files) (sent owner h drive c i));
  };
}

pub stays : (s : Server) → Steps s (still s)
stays s = idle s (still s) refl refl (λ owner h drive c i. absurd i)

pub either_step : (s : Server) (b : Bool) (x y : Step) → Steps s x → Steps s y → Steps s (if b then x else y)
either_step s true x y p q = p
either_step s false x y p q = q

-- one file goes on
pub goes_at : (s : Server) (number : ℕ) (f : File) (h : Going) (t : Step) → In f s.files
    → t.state.files ≡ put_file s.files number h.file → t.state.next_object ≡ h.effects.object
    → (h.file.kept.number ≡ f.kept.number → f.kept.number ≡ number)
    → ((drive : ℕ) (c : Command) → In (ToDrive drive c) t.sends
    → In (ToDrive drive c) (to_drives s.drives h.effects.sent))
    → ((owner : ℕ → ℕ) → IsFine owner s.next_object f
    → Ends (Mine owner s.next_object f.kept.number) f.kept.number s.next_object f.kept [] h) → Steps s t
goes_at s number f h t i files next its sends ends = record {
  keeps = λ owner own.
      let e = ends owner (own f i) in
      let there : In h.file t.state.files =
      subst (In h.file) (sym files) (put_there s.files number h.file f i (its e.0.0)) in
      let owns = with_owner owner s.next_object f.kept.number in
      record {
        later = owns;
        agree = λ o less. owner_below owner s.next_object f.kept.number o less;
        rises = omega (arith, next, e.0.1);
        fine = λ x j. elim (in_put s.files number h.file x (subst (In x) files j)) [
          | inl same ↦
              subst (λ (y : File). IsFine owns t.state.next_object y) (sym same)
              (subst (λ (m : ℕ). IsFine owns m h.file) (sym next)
              (out owner s.next_object f.kept.number f.kept [] h e))
          | inr k ↦
              fine_later owner owns s.next_object t.state.next_object x
              (λ o less. owner_below owner s.next_object f.kept.number o less) (omega (arith, next, e.0.1)) (own x k)
        ];
        from = λ x j. elim (in_put s.files number h.file x (subst (In x) files j)) [
          | inl same ↦
              subst (IsFrom s.files) (sym same)
              (record { file = f; there = i; number = sym e.0.0; behind = e.0.4.0 })
          | inr k ↦ from_same s.files x k
        ];
        sent = λ drive c j.
            let r = in_drives s.drives h.effects.sent drive c (sends drive c j) in
            subst (λ (m : ℕ). IsSent owns m t.state.files c) (sym next)
            (elim (e.0.4.1 r.0 r.2) [
              | inl none ↦ absurd none
              | inr x ↦
                  sent_of owns h.effects.object t.state.files h.file drive c r.0 there r.1
                  ((x.0.0 ∙ sym e.0.0, x.0.1), x.1)
            ]);
      };
}

pub begun : (s : Server) (chosen : List ℕ) (f : File) (owner : ℕ → ℕ) → IsFine owner s.next_object f
    → Ends (Mine owner s.next_object f.kept.number) f.kept.number s.next_object f.kept [] (at_file s chosen f)
begun s chosen f owner h = into owner s.next_object f.kept.number (at_file s chosen f) refl refl h
