-- What each repair that a step of the server ends leaves short: stripes that it counted, and that are short behind the step.
use Rattle.std.proofs.Common.{◌≡◌, ◌⊎◌, ◌==◌, ℕ, List, [], ◌∷◌, Option, Some, None, refl, sym, ap, subst, ◌∙◌, inl, inr, if◌then◌else◌}
use Rattle.std.specs.List.{fold}
use Rattle.std.proofs.lemmas.Bool.{cases_Bool, eq-eqb}
use Rattle.server_rules.specs.Files.{Step, still, file_at, put_file, add_file, at_file, begins}
use Rattle.server_rules.specs.Going.{Going, noting}
use Rattle.server_rules.specs.History.{Input, step}
use Rattle.server_rules.specs.Jobs.{fence_begins, declares, making}
use Rattle.server_rules.specs.Laws.{In}
use Rattle.server_rules.specs.Making.{makes_file, with_file}
use Rattle.server_rules.specs.Openings.{crash, opens, opens_each}
use Rattle.server_rules.specs.Orders.{declare, declares_each, offline}
use Rattle.server_rules.specs.Replies.{hearing}
use Rattle.server_rules.specs.Requests.{serves}
use Rattle.server_rules.proofs.FileLaws.{not_there}
use Rattle.server_rules.proofs.Members.{in_either}
use Rattle.world_history.specs.ServerNames.{Server, File, Drive, Effects, Mended, ClientRequest}
use Rattle.world_history.specs.Reading.{Step as ToldStep}
use Rattle.world_history.specs.Book.{ServerSeen, sees_server, server_at_first, placed_in, input_at, step_by, server_behind}
use Rattle.history_law.specs.Steps.{Answering, IsAnswering, answered_file, new_file, StepCases, RequestCases}
use Rattle.history_law.proofs.Files as Files
use Rattle.history_law.proofs.Files.{in_at, put_each, add_each, crashed_each}
use Rattle.history_law.proofs.Steps.{each_step, each_request}
use Rattle.component_law.proofs.Making.{none_there, there}
use Rattle.history_claims.specs.LeftShort.{LeftShort}
use Rattle.history_claims.proofs.ShortParts.{FileRight, Behind, Part, part_fence, part_making, part_reply, part_declares, part_opens, part_serves, part_noted}

-- each repair is of one of these files, and left only stripes short that it counted, and that are short there
abbrev pub AreRight : List File → List Mended → Type 0
AreRight fs ms = (r : Mended) → In r ms → (g : File) × In g fs × (r.file ≡ g.kept.number) × LeftShort g.kept r

abbrev AllRight : List File → Type 0
AllRight fs = Files.Each FileRight fs

-- the file that is put is there
in_put : (fs : List File) (m : ℕ) (x g : File) → file_at fs m ≡ Some x → In g (put_file fs m g)
unfolding file_at put_file
in_put [] m x g e = absurd (cc e)
in_put (y ∷ fs) m x g e = elim (cases_Bool (y.kept.number == m)) [
  | inl t ↦ rw t (inl refl)
  | inr z ↦ rw z (inr (in_put fs m x g (rw z at e)))
]

module _ (s : Server) (all : AllRight s.files) where
  abbrev P : Step → Type 0
  P t = AllRight t.state.files × AreRight t.state.files t.mended

  stay : P (still s)
  stay = (all, λ r i. absurd i)

  -- the repair of a part that began with none
  of_part : (fs : List File) (x : File) (h : Going) → Part x [] h → In h.file fs → AreRight fs h.effects.mended
  of_part fs x h part i r j = by part.mended
    where
      none : h.effects.mended ≡ [] → (g : File) × In g fs × (r.file ≡ g.kept.number) × LeftShort g.kept r
      none e = absurd (subst (In r) e j)

      by : (h.effects.mended ≡ []) ⊎ Behind x.kept.number [] h.file.kept h.effects.mended
          → (g : File) × In g fs × (r.file ≡ g.kept.number) × LeftShort g.kept r
      by (inl e) = none e
      by (inr b) = elim (subst (In r) b.mended j) [
        | inl same ↦ (
          h.file,
          i,
          ap (λ (q : Mended). q.file) same ∙ b.own ∙ sym part.number,
          subst (LeftShort h.file.kept) (sym same) b.right,
        )
        | inr no_more ↦ absurd no_more
      ]

  put_so : (m : ℕ) (x : File) → file_at s.files m ≡ Some x → (h : Going) → Part x [] h
      → AllRight (put_file s.files m h.file) × AreRight (put_file s.files m h.file) h.effects.mended
  put_so m x found h part = (
    put_each FileRight s.files m h.file all part.right,
    of_part (put_file s.files m h.file) x h part (in_put s.files m x h.file found),
  )

  -- ---- rounds

  -- behind the round of some files: they are right, and so is each repair since
  record RoundRight (m : Effects) (files : List File) (ms : List Mended) : Type 0 where
    files_are : AllRight files
    since : (r : Mended) → In r ms
        → In r m.mended ⊎ ((g : File) × In g files × (r.file ≡ g.kept.number) × LeftShort g.kept r)

  one_round : (x : File) (m : Effects) (h : Going) → Part x m.mended h → (files : List File) (ms : List Mended)
      → RoundRight h.effects files ms → RoundRight m (h.file ∷ files) ms
  one_round x m h part files ms rest = record {
    files_are = first;
    since = λ r i. elim (rest.since r i) [
      | inr later ↦ inr (later.0, inr later.1, later.2, later.3)
      | inl mine ↦ by r mine part.mended
    ];
  }
    where
      first : AllRight (h.file ∷ files)
      first y (inl same) = subst FileRight (sym same) part.right
      first y (inr i) = rest.files_are y i

      by : (r : Mended) → In r h.effects.mended
          → (h.effects.mended ≡ m.mended) ⊎ Behind x.kept.number m.mended h.file.kept h.effects.mended
          → In r m.mended ⊎ ((g : File) × In g (h.file ∷ files) × (r.file ≡ g.kept.number) × LeftShort g.kept r)
      by r i (inl e) = inl (subst (In r) e i)
      by r i (inr b) = elim (in_either r m.mended (b.repair ∷ []) (subst (In r) b.mended i)) [
        | inl old ↦ inl old
        | inr (inl same) ↦ inr (
          h.file,
          inl refl,
          ap (λ (q : Mended). q.file) same ∙ b.own ∙ sym part.number,
          subst (LeftShort h.file.kept) (sym same) b.right,
        )
        | inr (inr none) ↦ absurd none
      ]

  no_files : (m : Effects) → RoundRight m [] m.mended
  no_files m = record { files_are = λ y i. absurd i; since = λ r i. inl i }

  declared_round : (d : ℕ) (ds : List Drive) (fs : List File) (m : Effects) (c : List ℕ) → AllRight fs
      → RoundRight m (declares_each d ds fs m c).files (declares_each d ds fs m c).effects.mended
  unfolding declares_each
  declared_round d ds [] m c are = no_files m
  declared_round d ds (x ∷ fs) m c are =
      let at : Going = record { file = x; effects = m; drives = ds; chosen = c } in
      one_round x m (declares at d) (part_declares at (are x (inl refl)) d) _ _
      (declared_round d ds fs (declares at d).effects (declares at d).chosen (λ y i. are y (inr i)))

  opened_round : (format : ℕ) (ds : List Drive) (fs : List File) (m : Effects) → AllRight fs
      → RoundRight m (opens_each format ds fs m).files (opens_each format ds fs m).effects.mended
  unfolding opens_each
  opened_round format ds [] m are = no_files m
  opened_round format ds (x ∷ fs) m are =
      let at : Going = record { file = x; effects = m; drives = ds; chosen = [] } in
      one_round x m (opens format at) (part_opens at (are x (inl refl)) format) _ _
      (opened_round format ds fs (opens format at).effects (λ y i. are y (inr i)))

  of_round : (files : List File) (ms : List Mended) → RoundRight (begins s) files ms → AllRight files × AreRight files ms
  of_round files ms r = (r.files_are, λ q i. elim (r.since q i) [ inl none ↦ absurd none | inr it ↦ it ])

  -- ---- the cases

  made_so : (x : File) → file_at s.files x.kept.number ≡ None → FileRight x → P (makes_file s x)
  made_so x none right =
      let h : Going = making (at_file (with_file s x) [] x) in
      let part : Part x [] h = part_making (at_file (with_file s x) [] x) in (
        put_each FileRight (add_file s.files x) x.kept.number h.file (add_each FileRight s.files x all right) part.right,
        of_part (put_file (add_file s.files x) x.kept.number h.file) x h part
            (in_put (add_file s.files x) x.kept.number x h.file (there s.files x (none_there s.files x.kept.number none))),
      )

  module _ (chosen : List ℕ) (i : Input) where
    requests : (now : ℕ) (q : ClientRequest) → RequestCases s now chosen q P
    requests now q = record {
      again = λ kept is. stay;
      misordered = λ expected is. stay;
      without = λ is none. stay;
      served = λ is x found.
          put_so q.file x found (serves (at_file s chosen x) s.next_grant s.format now q.client q.args).going
          (part_serves (at_file s chosen x) (all x (in_at s.files q.file x found)) s.next_grant s.format now q.client q.args);
    }

    answered : (x : Answering) → IsAnswering s i x → Part x.file [] (answered_file s chosen x)
    answered x is =
        part_reply (at_file s chosen x.file) (all x.file is.there) x.job is.runs x.awaited x.reply
        (hearing x.file.kept x.awaited x.reply)

    -- the file of the list that has the number of one of it
    found_one : (fs : List File) (x : File) → In x fs → (y : File) × (file_at fs x.kept.number ≡ Some y)
    unfolding file_at
    found_one [] x j = absurd j
    found_one (y ∷ fs) x (inl same) = (
      y,
      subst (λ (z : File). (if y.kept.number == z.kept.number then Some y else file_at fs z.kept.number) ≡ Some y) (sym same)
          (rw (eq-eqb y.kept.number y.kept.number refl) refl),
    )
    found_one (y ∷ fs) x (inr j) = elim (cases_Bool (y.kept.number == x.kept.number)) [
      | inl t ↦ (y, rw t refl)
      | inr z ↦ (let r = found_one fs x j in (r.0, rw z r.1))
    ]

    answered_so : (x : Answering) (is : IsAnswering s i x) (h : Going) → Part x.file [] h
        → AllRight (put_file s.files h.file.kept.number h.file) × AreRight (put_file s.files h.file.kept.number h.file)
        h.effects.mended
    answered_so x is h part =
        let r = found_one s.files x.file is.there in (
          put_each FileRight s.files h.file.kept.number h.file all part.right,
          of_part (put_file s.files h.file.kept.number h.file) x.file h part
              (in_put s.files h.file.kept.number r.0 h.file (ap (file_at s.files) part.number ∙ r.1)),
        )

    cases : StepCases s chosen i P
    unfolding declare
    cases = record {
      rests = stay;
      asked = λ now q is. each_request s now chosen q P (requests now q);
      answered = λ x is. answered_so x is (answered_file s chosen x) (answered x is);
      recalled = λ x is. stay;
      refused = λ x is kind why.
          let r = found_one s.files x (in_at s.files is.target x is.found) in
          let part : Part x [] (noting (at_file s chosen x) kind) =
          part_noted (at_file s chosen x) (all x (in_at s.files is.target x is.found)) kind in (
            put_each FileRight s.files x.kept.number x all part.right,
            of_part (put_file s.files x.kept.number x) x (noting (at_file s chosen x) kind) part
                (in_put s.files x.kept.number r.0 x r.1),
          );
      fenced = λ x is kind free low.
          let r = found_one s.files x (in_at s.files is.target x is.found) in
          let h : Going = fence_begins kind s.format (at_file s chosen x) in
          let part : Part x [] h = part_fence (at_file s chosen x) kind s.format in (
            put_each FileRight s.files x.kept.number h.file all part.right,
            of_part (put_file s.files x.kept.number h.file) x h part (in_put s.files x.kept.number r.0 h.file r.1),
          );
      declared = λ d known.
          of_round _ _ (declared_round d (offline s.drives d) s.files (begins s) chosen all);
      told = λ t now o is result p. p;
      made = λ k m tag zoned is none. made_so (new_file s chosen k m tag zoned) (not_there s k m zoned none) tt;
      added = λ d is. stay;
      zoned = λ d zone is. stay;
      formats = λ m is. stay;
      resends = λ is. stay;
      crashes = λ is. (crashed_each FileRight s.files (λ x j. tt), λ r j. absurd j);
      opened = λ is low. of_round _ _ (opened_round s.format s.drives s.files (begins s) all);
    }

    pub step_right : P (step s chosen i)
    step_right = each_step s chosen i P cases

-- ---- any steps that are read off lines

behind_right : (s : ServerSeen) (t : ToldStep) → AllRight s.server.files → AllRight (sees_server s t).server.files
behind_right s t all = by (input_at s t.head)
  where
    by : (o : Option Input) → AllRight (server_behind s.server (step_by s.server (placed_in t.rest) o)).files
    by None = all
    by (Some i) = (step_right s.server all (placed_in t.rest) i).0

pub all_right : (s : ServerSeen) (ts : List ToldStep) → AllRight s.server.files
    → AllRight (fold sees_server s ts).server.files
all_right s [] all = all
all_right s (t ∷ ts) all = all_right (sees_server s t) ts (behind_right s t all)

pub first_right : AllRight server_at_first.server.files
first_right x i = absurd i
