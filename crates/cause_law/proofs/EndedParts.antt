-- What the part of a file in a step makes of the grants that fences ended, and whether it notes that a repair is over.
use Rattle.std.proofs.Common.{◌≡◌, ◌⊎◌, ◌==◌, ◌||◌, ℕ, ◌+◌, Bool, true, false, true≢false, List, [], ◌∷◌, ◌++◌, length, Option, Some, None, refl, sym, ap, subst, ◌∙◌, arith, inl, inr, if◌then◌else◌}
use Rattle.std.proofs.lemmas.Bool.{cases_Bool, cases_eq}
use Rattle.std.proofs.lemmas.List.{append-nil}
use Rattle.server_rules.specs.declared.limits.TheConstants.{GREATEST_TAG}
use Rattle.server_rules.specs.Commands.{Creating, All, to_all}
use Rattle.server_rules.specs.Grants.{merged, count_stripes}
use Rattle.server_rules.specs.Going.{Going, over, noting, noting_if, with_components, rests_or}
use Rattle.server_rules.specs.Jobs.{making, is_made, ending, fence_begins, declares, declared_in, targets}
use Rattle.server_rules.specs.Laws.{In, NoneBeside}
use Rattle.server_rules.specs.Openings.{opens_made, opens_spent, opens_fenced, opens, is_unsettled}
use Rattle.server_rules.specs.Replies.{Hearing, hears}
use Rattle.server_rules.specs.Requests.{serves}
use Rattle.server_rules.specs.Standing.{lose_from, lose_on, any_on}
use Rattle.server_rules.proofs.Members.{in_front, in_behind, in_either}
use Rattle.osd_commands.specs.declared.replies.Reply.{Reply}
use Rattle.world_history.specs.ServerNames.{File, Kept, Grant, Note, NoteKind, Repaired, Fenced as FenceOver, Spent, Mended, Job, JobKind, Making, Revoking, Work, Creates, Fences, Fetches, Stores, Targets, Gathers, Fills, Lengths, Checks, Awaited, Piece, RequestArgs}
use Rattle.history_law.specs.Fencing.{is_fencing}
use Rattle.component_law.specs.KeptWalk.{is_plain, noted_of}
use Rattle.component_law.proofs.RequestWalk.{IsServed, ends_served}
use Rattle.cause_law.specs.EndedGrants.{IsUnderFence}
use Rattle.cause_law.proofs.Changing.{begun}
use Rattle.cause_law.proofs.RepairWalk.{Fact, RepairCases, Begins, Ends, EndsIn, of_making, of_fence, of_reply, of_declaration}

-- ---- notes

-- one of these notes tells that a repair of file n is over
abbrev pub IsOver : ℕ → List Note → Type 0
IsOver n ns = (stripes left : ℕ) × In (record { file = n; kind = Repaired stripes left }) ns

-- notes come to those from before, all of file n
pub record Come (n : ℕ) (before ns : List Note) : Type 0 where
  pub kept : (x : Note) → In x before → In x ns
  pub own : (x : Note) → In x ns → In x before ⊎ (x.file ≡ n)

come_first : (n : ℕ) (before : List Note) → Come n before before
come_first n before = record { kept = λ x i. i; own = λ x i. inl i }

come_more : (n : ℕ) (before ns : List Note) (x : Note) → x.file ≡ n → Come n before ns → Come n before (ns ++ x ∷ [])
come_more n before ns x is c = record {
  kept = λ y i. in_front y ns (x ∷ []) (c.kept y i);
  own = λ y i. elim (in_either y ns (x ∷ []) i) [
    | inl old ↦ c.own y old
    | inr (inl same) ↦ inr (ap (λ (z : Note). z.file) same ∙ is)
    | inr (inr none) ↦ absurd none
  ];
}

-- of another file as many repairs are over
pub over_beside : (n m : ℕ) (before ns : List Note) → Come n before ns → (n ≡ m → ⊥) → IsOver m ns → IsOver m before
over_beside n m before ns c other (a, b, i) = elim (c.own (record { file = m; kind = Repaired a b }) i) [
  | inl old ↦ (a, b, old)
  | inr same ↦ absurd (other (sym same))
]

pub over_kept : (n m : ℕ) (before ns : List Note) → Come n before ns → IsOver m before → IsOver m ns
over_kept n m before ns c (a, b, i) = (a, b, c.kept _ i)

-- a note that tells of no repair
over_plain : (n : ℕ) (ns : List Note) (x : Note) → is_plain x.kind ≡ true → IsOver n (ns ++ x ∷ []) → IsOver n ns
over_plain n ns x plain (a, b, i) = elim (in_either _ ns (x ∷ []) i) [
  | inl old ↦ (a, b, old)
  | inr (inl same) ↦
      absurd (true≢false (sym plain ∙ sym (ap (λ (z : Note). is_plain z.kind) same)))
  | inr (inr none) ↦ absurd none
]

over_more : (n : ℕ) (ns : List Note) (x : Note) → IsOver n ns → IsOver n (ns ++ x ∷ [])
over_more n ns x (a, b, i) = (a, b, in_front _ ns (x ∷ []) i)

-- ---- the walk

-- the file of number n, behind notes from before of which none tells that a repair of it is over
module _ (n : ℕ) (before : List Note) where
  -- no repair of it is over, and these grants are ended
  pub record Ahead (ended : List Grant) (k : Kept) (ns : List Note) : Type 0 where
    pub number : k.number ≡ n
    pub ended_are : k.ended ≡ ended
    pub none : IsOver n ns → ⊥
    pub come : Come n before ns

  -- one is, and no grant is ended any more
  pub record Past (k : Kept) (ns : List Note) : Type 0 where
    pub number : k.number ≡ n
    pub none_left : k.ended ≡ []
    pub is_over : IsOver n ns
    pub come : Come n before ns

  abbrev pub A : List Grant → Fact
  A ended k ns ms = Ahead ended k ns

  abbrev pub D : Fact
  D k ns ms = Past k ns

  abbrev pub R : List Grant → List Piece → List ℕ → Fact
  R ended ps ss k ns ms = Ahead ended k ns

  noted_ahead : (ended : List Grant) (k : Kept) (ns : List Note) (kind : NoteKind) → is_plain kind ≡ true → Ahead ended k ns
      → Ahead ended k (noted_of k ns kind)
  noted_ahead ended k ns kind p a = record {
    number = a.number;
    ended_are = a.ended_are;
    none = λ o. a.none (over_plain n ns _ p o);
    come = come_more n before ns _ a.number a.come;
  }

  fenced_ahead : (ended : List Grant) (k l : Kept) (ns : List Note) (tag : ℕ) → l.number ≡ k.number → l.ended ≡ k.ended
      → Ahead ended k ns → Ahead ended l (noted_of k ns (FenceOver tag))
  fenced_ahead ended k l ns tag number same a = record {
    number = number ∙ a.number;
    ended_are = same ∙ a.ended_are;
    none = λ o. a.none (no_repair o);
    come = come_more n before ns _ a.number a.come;
  }
    where
      no_repair : IsOver n (noted_of k ns (FenceOver tag)) → IsOver n ns
      no_repair (a, b, i) = elim (in_either _ ns _ i) [
        | inl old ↦ (a, b, old)
        | inr (inl same) ↦ absurd (no_kind (ap (λ (z : Note). z.kind) same))
        | inr (inr none) ↦ absurd none
      ]
        where
          no_kind : Repaired a b ≡ FenceOver tag → ⊥
          no_kind e = cc e

  as_it_was : (ended : List Grant) (k l : Kept) (ns : List Note) → l.number ≡ k.number → l.ended ≡ k.ended
      → Ahead ended k ns → Ahead ended l ns
  as_it_was ended k l ns number same a =
      record { number = number ∙ a.number; ended_are = same ∙ a.ended_are; none = a.none; come = a.come }

  over_now : (k : Kept) (ns : List Note) (stripes left : ℕ) → k.number ≡ n → IsOver n (noted_of k ns (Repaired stripes left))
  over_now k ns stripes left number =
      let x : Note = record { file = k.number; kind = Repaired stripes left } in
      subst (λ (m : ℕ). IsOver m (ns ++ x ∷ [])) number (stripes, left, in_behind x ns (x ∷ []) (inl refl))

  cases : (ended : List Grant) → RepairCases (A ended) D (R ended)
  cases ended = record {
    a_noted = λ k ns ms kind p a. noted_ahead ended k ns kind p a;
    d_noted = λ k ns ms kind p d. record {
      number = d.number;
      none_left = d.none_left;
      is_over = over_more n ns _ d.is_over;
      come = come_more n before ns _ d.number d.come;
    };
    r_noted = λ ps ss k ns ms kind p a. noted_ahead ended k ns kind p a;
    a_parts = λ k ns ms cs a. as_it_was ended k _ ns refl refl a;
    r_lost = λ ps ss k ns ms lost a. as_it_was ended k _ ns refl refl a;
    r_gone = λ ps ss k ns ms drive a. as_it_was ended k _ ns refl refl a;
    a_format = λ k ns ms format a. as_it_was ended k _ ns refl refl a;
    r_format = λ ps ss k ns ms format a. as_it_was ended k _ ns refl refl a;
    a_ready = λ k ns ms a. as_it_was ended k _ ns refl refl a;
    raised = λ k ns ms a. fenced_ahead ended k _ ns (k.tag + 1) refl refl a;
    marks = λ p ps ss k ns ms a. a;
    next = λ p ps ss k ns ms a. a;
    mends = λ ss k ns ms a. record {
      number = a.number;
      none_left = refl;
      is_over = over_now k ns (count_stripes (merged k.ended)) (length ss) a.number;
      come = come_more n before ns _ a.number a.come;
    };
  }

  begins_so : (ended : List Grant) (work : Work) (k : Kept) (ns : List Note) (ms : List Mended) → Ahead ended k ns
      → Begins (cases ended) work k ns ms
  begins_so ended (Fetches todo short) k ns ms a = a
  begins_so ended (Stores todo short broken) k ns ms a = a
  begins_so ended Creates k ns ms a = a
  begins_so ended Fences k ns ms a = a
  begins_so ended (Targets t) k ns ms a = a
  begins_so ended (Gathers t todo) k ns ms a = a
  begins_so ended (Fills t todo) k ns ms a = a
  begins_so ended Lengths k ns ms a = a
  begins_so ended (Checks todo t) k ns ms a = a

  -- where a part ends
  abbrev pub Went : List Grant → Kept → List Note → Type 0
  Went ended k ns = Ahead ended k ns ⊎ Past k ns

  ends_so : (ended : List Grant) (work : Work) (k : Kept) (ns : List Note) (ms : List Mended)
      → Ends (cases ended) work k ns ms → Went ended k ns
  ends_so ended (Fetches todo short) k ns ms a = inl a
  ends_so ended (Stores todo short broken) k ns ms a = inl a
  ends_so ended Creates k ns ms a = a
  ends_so ended Fences k ns ms a = a
  ends_so ended (Targets t) k ns ms a = a
  ends_so ended (Gathers t todo) k ns ms a = a
  ends_so ended (Fills t todo) k ns ms a = a
  ends_so ended Lengths k ns ms a = a
  ends_so ended (Checks todo t) k ns ms a = a

  ends_in : (ended : List Grant) (o : Option Job) (k : Kept) (ns : List Note) (ms : List Mended)
      → EndsIn (cases ended) o k ns ms → Went ended k ns
  ends_in ended None k ns ms a = a
  ends_in ended (Some j) k ns ms a = ends_so ended j.work k ns ms a

-- ---- the file before and behind

-- what is ended behind the part, where no repair is over
abbrev pub EndedSo : (f g : File) → Type 0
EndedSo f g =
    (IsUnderFence f g × (g.kept.ended ≡ f.kept.ended ++ f.kept.grants))
    ⊎ ((IsUnderFence f g → ⊥) × (g.kept.ended ≡ f.kept.ended))

-- a repair is over, and nothing is ended any more, or none is
abbrev pub GoesSo : (f g : File) → List Note → Type 0
GoesSo f g ns =
    (IsOver f.kept.number ns × (g.kept.ended ≡ [])) ⊎ ((IsOver f.kept.number ns → ⊥) × EndedSo f g)

-- what the part of file f leaves, behind these notes of which none tells that a repair of it is over
pub record Part (f : File) (before : List Note) (h : Going) : Type 0 where
  pub number : h.file.kept.number ≡ f.kept.number
  pub come : Come f.kept.number before h.effects.notes
  pub goes : GoesSo f h.file h.effects.notes

under_or : (f g : File) → IsUnderFence f g ⊎ (IsUnderFence f g → ⊥)
under_or f g = elim (cases_Bool (is_fencing g.job)) [
  | inl t ↦ inl (inl t)
  | inr z ↦ elim (cases_eq g.kept.tag (f.kept.tag + 1)) [
    | inl e ↦ inl (inr e)
    | inr o ↦ inr (λ u. elim u [ inl t ↦ true≢false (sym t ∙ z) | inr e ↦ o e ])
  ]
]

-- where no grant is live, or no fence is open or over
none_live : (f g : File) → f.kept.grants ≡ [] → g.kept.ended ≡ f.kept.ended → EndedSo f g
none_live f g none same = elim (under_or f g) [
  | inl is ↦ inl (is, same ∙ sym (ap (λ (gs : List Grant). f.kept.ended ++ gs) none ∙ append-nil f.kept.ended))
  | inr not_ ↦ inr (not_, same)
]

pub kept_so : (f g : File) → NoneBeside f.job f.kept.grants → g.kept.ended ≡ f.kept.ended
    → (f.job ≡ None → IsUnderFence f g → ⊥) → EndedSo f g
kept_so f g alone same idle = by f.job refl alone
  where
    by : (o : Option Job) → f.job ≡ o → NoneBeside o f.kept.grants → EndedSo f g
    by None free beside = inr (idle free, same)
    by (Some j) runs beside = none_live f g beside same

-- no fence is open or over where the job and the tag stay
pub no_fence : (f g : File) → f.job ≡ None → g.job ≡ f.job → g.kept.tag ≡ f.kept.tag → IsUnderFence f g → ⊥
no_fence f g free job tag (inl t) = true≢false (sym t ∙ ap is_fencing (job ∙ free))
no_fence f g free job tag (inr e) = other f.kept.tag (sym tag ∙ e)
  where
    other : (t : ℕ) → t ≡ t + 1 → ⊥
    other t x = omega (arith, x)

-- ---- the parts of a file

module _ (g : Going) (none : IsOver g.file.kept.number g.effects.notes → ⊥) where
  abbrev f : File
  f = g.file

  abbrev n : ℕ
  n = g.file.kept.number

  abbrev ns : List Note
  ns = g.effects.notes

  ahead : (ended : List Grant) (k : Kept) → k.number ≡ n → k.ended ≡ ended → Ahead n ns ended k ns
  ahead ended k number same = record { number = number; ended_are = same; none = none; come = come_first n ns }

  to_part : (h : Going) (ended : List Grant) → Went n ns ended h.file.kept h.effects.notes
      → (h.file.kept.ended ≡ ended → EndedSo f h.file) → Part f ns h
  to_part h ended (inl a) so =
      record { number = a.number; come = a.come; goes = inr (a.none, so a.ended_are) }
  to_part h ended (inr d) so =
      record { number = d.number; come = d.come; goes = inl (d.is_over, d.none_left) }

  pub part_fence : (kind : JobKind) (format : ℕ) → Part f ns (fence_begins kind format g)
  part_fence kind format =
      let all : List Grant = f.kept.ended ++ f.kept.grants in
      to_part (fence_begins kind format g) all
      (ends_in n ns all (fence_begins kind format g).file.job _ _ (fence_begins kind format g).effects.mended
      (of_fence (cases n ns all) kind format g (ahead all (ending f.kept format) refl refl)))
      (λ same. inl ((begun kind format g).fence, same))

  -- its job and its tag are as they were
  making_idle : IsUnderFence f (making g).file → ⊥
  unfolding making
  making_idle = by (to_all f.kept All Creating g.effects.nonce)
    where
      other : (t : ℕ) → t ≡ t + 1 → ⊥
      other t x = omega (arith, x)

      by : (cs : List Awaited) → IsUnderFence f (rests_or cs g Making Creates (is_made g)).file → ⊥
      by [] (inl t) = true≢false (sym t)
      by [] (inr e) = other f.kept.tag e
      by (c ∷ cs) (inl t) = true≢false (sym t)
      by (c ∷ cs) (inr e) = other f.kept.tag e

  pub part_making : Part f ns (making g)
  part_making =
      to_part (making g) f.kept.ended
      (ends_in n ns f.kept.ended (making g).file.job _ _ (making g).effects.mended
      (of_making (cases n ns f.kept.ended) g (ahead f.kept.ended f.kept refl refl)))
      (λ same. inr (making_idle, same))

  -- a job that runs, beside which no grant is live
  module _ (j : Job) (runs : f.job ≡ Some j) (none_beside : f.kept.grants ≡ []) where
    ran : (h : Going) → EndsIn (cases n ns f.kept.ended) h.file.job h.file.kept h.effects.notes h.effects.mended → Part f ns h
    ran h ends =
        to_part h f.kept.ended (ends_in n ns f.kept.ended h.file.job _ _ h.effects.mended ends)
        (λ same. none_live f h.file none_beside same)

    pub part_reply : (a : Awaited) (r : Reply) (x : Hearing) → Part f ns (hears g j a r x)
    part_reply a r x =
        ran (hears g j a r x) (of_reply (cases n ns f.kept.ended) g j a r x runs
        (begins_so n ns f.kept.ended j.work f.kept ns g.effects.mended (ahead f.kept.ended f.kept refl refl)))

    pub part_declared : (drive : ℕ) → Part f ns (declares g drive)
    part_declared drive =
        ran (declares g drive) (of_declaration (cases n ns f.kept.ended) g drive j runs
        (begins_so n ns f.kept.ended j.work f.kept ns g.effects.mended (ahead f.kept.ended f.kept refl refl)))

  -- nothing is noted, and what is ended stays
  still : (h : Going) → h.file.kept.number ≡ n → h.effects.notes ≡ ns → EndedSo f h.file → Part f ns h
  still h number notes so = record {
    number = number;
    come = subst (Come n ns) (sym notes) (come_first n ns);
    goes = inr (λ o. none (subst (IsOver n) notes o), so);
  }

  pub part_declares : (drive : ℕ) → NoneBeside f.job f.kept.grants → Part f ns (declares g drive)
  unfolding declares
  part_declares drive alone = by f.job refl alone
    where
      less : Going
      less = with_components g (lose_on drive f.kept.components)

      idle : (h : Going) → h.file.job ≡ f.job → h.file.kept.tag ≡ f.kept.tag → h.file.kept.number ≡ n
          → h.file.kept.ended ≡ f.kept.ended → h.effects.notes ≡ ns → f.job ≡ None → Part f ns h
      idle h job tag number ended notes free =
          still h number notes (inr (no_fence f h.file free job tag, ended))

      without : f.job ≡ None → (o : Option Job) → o ≡ None → Part f ns (declared_in less drive o)
      without free None e = idle less refl refl refl refl refl free
      without free (Some j) e = absurd (cc e)

      by : (o : Option Job) → f.job ≡ o → NoneBeside o f.kept.grants → Part f ns (declares g drive)
      by None free beside = either (any_on drive f.kept.components || targets f.job drive)
        where
          either : (b : Bool) → Part f ns (if b then declared_in less drive f.job else g)
          either true = without free f.job free
          either false = idle g refl refl refl refl refl free
      by (Some j) runs beside = part_declared j runs beside drive

  -- one plain note more
  more : (h : Going) (kind : NoteKind) → is_plain kind ≡ true → Part f ns h → Part f ns (noting h kind)
  more h kind p x = record {
    number = x.number;
    come = come_more n ns h.effects.notes _ x.number x.come;
    goes = elim x.goes [
      | inl over_now ↦ inl (over_more n h.effects.notes _ over_now.0, over_now.1)
      | inr on ↦ inr (λ o. on.0 (over_plain n h.effects.notes _ p o), on.1)
    ];
  }

  more_if : (b : Bool) (h : Going) (kind : NoteKind) → is_plain kind ≡ true → Part f ns h → Part f ns (noting_if b h kind)
  more_if true h kind p x = more h kind p x
  more_if false h kind p x = x

  -- the file as it was
  as_was : NoneBeside f.job f.kept.grants → (h : Going) → h.file.job ≡ f.job → h.file.kept.tag ≡ f.kept.tag
      → h.file.kept.number ≡ n → h.file.kept.ended ≡ f.kept.ended → h.effects.notes ≡ ns → Part f ns h
  as_was alone h job tag number ended notes =
      still h number notes (kept_so f h.file alone ended (λ free. no_fence f h.file free job tag))

  pub part_opens : (format : ℕ) → NoneBeside f.job f.kept.grants → Part f ns (opens format g)
  unfolding opens opens_fenced
  part_opens format alone =
      either (is_unsettled f.kept) _ _
      (either (f.kept.tag == GREATEST_TAG) (opens_spent g) _
      (more (record g { file = record g.file { spent = true } }) Spent refl
      (as_was alone (record g { file = record g.file { spent = true } }) refl refl refl refl refl))
      (part_fence Revoking format))
      (by_ready f.kept.ready)
    where
      either : (b : Bool) (x y : Going) → Part f ns x → Part f ns y → Part f ns (if b then x else y)
      either true x y p q = p
      either false x y p q = q

      other : (t : ℕ) → t ≡ t + 1 → ⊥
      other t x = omega (arith, x)

      idle : IsUnderFence f (over g).file → ⊥
      idle (inl t) = true≢false (sym t)
      idle (inr e) = other f.kept.tag e

      by_ready : (ready : Bool) → Part f ns (opens_made g ready)
      by_ready true = still (over g) refl refl (inr (idle, refl))
      by_ready false = part_making

  served : NoneBeside f.job f.kept.grants → IsServed (λ (h : Going). h ≡ g) (Part f ns)
  served alone = record {
    stays = λ h same. subst (Part f ns) (sym same) (as_was alone g refl refl refl refl refl);
    fence = λ format h same. subst (λ (x : Going). Part f ns (fence_begins Revoking format x)) (sym same) (part_fence Revoking format);
    lost = λ h ks same.
        subst (λ (x : Going). Part f ns (with_components x (lose_from ks x.file.kept.components 0))) (sym same)
        (as_was alone (with_components g (lose_from ks f.kept.components 0)) refl refl refl refl refl);
    noted = λ h b kind p x. more_if b h kind p x;
    granted = λ h gs high x. record { number = x.number; come = x.come; goes = x.goes };
    sized = λ h size x. record { number = x.number; come = x.come; goes = x.goes };
  }

  pub part_serves : (next format now client : ℕ) (args : RequestArgs) → NoneBeside f.job f.kept.grants
      → Part f ns (serves g next format now client args).going
  part_serves next format now client args alone =
      ends_served (λ (h : Going). h ≡ g) (Part f ns) (served alone) g next format now client args refl

  -- a job that is refused notes so
  pub part_noted : (kind : NoteKind) → is_plain kind ≡ true → NoneBeside f.job f.kept.grants → Part f ns (noting g kind)
  part_noted kind p alone = more g kind p (as_was alone g refl refl refl refl refl)
