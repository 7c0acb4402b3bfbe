-- Audits, rebuilds and repairs go with the placer's drives as the CREATEs that they send.
use Rattle.std.proofs.Common.{◌≡◌, ℕ, ◌+◌, ◌<◌, ◌==◌, ◌∷◌, [], List, ◌++◌, Bool, true, false, Option, Some, None, is_some, find, filter, nat_lt, refl, ap, ◌∙◌, arith, replicate, slice_set, if◌then◌else◌}
use Rattle.scenario_text.specs.declared.names.TheConstants.{DRIVES}
use Rattle.data_map.specs.Striping.{offset_of}
use Rattle.world_history.specs.ServerNames.{Kept, Piece, Component, Target, Drive, Heard, Tally, JobKind, Making, Revoking, Rebuilding, Auditing, Rebuilt, NoDrive, NoSpace, Fills}
use Rattle.server_rules.specs.Standing.{is_beyond, replica}
use Rattle.server_rules.specs.Zoning.{takers}
use Rattle.server_rules.proofs.Zoned.{of_takers}
use Rattle.server_rules.specs.Columns.{end_of}
use Rattle.server_rules.specs.Commands.{Creating, Reading, Measuring, All, FirstsOf, sent_to, to_all}
use Rattle.server_rules.specs.Going.{Going, over, noting, noting_if, with_components, rests}
use Rattle.server_rules.specs.Pieces.{reads, stores_from, stores, short_with}
use Rattle.server_rules.specs.Audit.{tallied, audited, audits, audits_all, audit_begins}
use Rattle.server_rules.specs.Rebuild.{or_first, picked, target_on, target_for, makes, makes_or, rebuilds, goes_past, group_for, position_for, sources_by, sources, stands_at, lost, fills, to_fill, filling, target_gone, target_full}
use Rattle.server_rules.specs.Repair.{after_repair, mended, is_left, repair_reads, repairs, storing, stored, repair_begins}
use Rattle.history_law.specs.Placed.{AreNamed}
use Rattle.history_law.proofs.Creating.{place_create}
use Rattle.history_law.proofs.Placing.{Given, given, choosing, Fit, placed_of, Placed, placed_here, placed_rests, placed_or, none_beside, none_each, none_one}

-- ---- an audit

pub audits_placed : (g : Going) (ps : List Piece) (t : Tally) → Fit g
    → Placed g.drives g.effects.sent (audits g ps t) (λ x. audits (choosing g x) ps t)
unfolding audits
audits_placed g [] t h = placed_here (audited g t) h
audits_placed g (p ∷ ps) t h =
    placed_or (reads g.file.kept p g.effects.nonce) g Auditing _ _
    (λ x. audits (choosing g x) ps (tallied g.file.kept p t)) h
    (none_each g.drives g.file.kept _ _ g.file.kept.components 0 g.effects.nonce (λ f k drive object nonce. refl))
    (audits_placed g ps (tallied g.file.kept p t) h)

pub audit_placed : (g : Going) → Fit g
    → Placed g.drives g.effects.sent (audit_begins g) (λ x. audit_begins (choosing g x))
unfolding audit_begins
audit_placed g h =
    placed_or (to_all g.file.kept All Measuring g.effects.nonce) g Auditing _ _ (λ x. audits_all (choosing g x) []) h
    (none_each g.drives g.file.kept _ _ g.file.kept.components 0 g.effects.nonce (λ f k drive object nonce. refl))
    (audits_placed g _ _ h)

-- ---- the drive of a target

pub found_named : (n : ℕ) (ds : List Drive) → AreNamed ds → is_some (find (λ d. d.number == n) ds) ≡ true → n < DRIVES
found_named n [] a e = absurd (cc e)
found_named n (d ∷ ds) a e = grind (arith, e, a.0, found_named n ds a.1)

pub first_named : (chosen : List ℕ) (d : Drive) (ds : List Drive) → AreNamed (d ∷ ds) → or_first chosen d ds < DRIVES
first_named [] d ds a = a.0
first_named (c ∷ cs) d ds a = either (is_some (find (λ e. e.number == c) (d ∷ ds))) (found_named c (d ∷ ds) a)
  where
    either : (b : Bool) → (b ≡ true → c < DRIVES) → (if b then c else d.number) < DRIVES
    either true named = named refl
    either false named = a.0

-- the drive that was taken is taken again
chosen_again : (c : ℕ) (d : Drive) (ds : List Drive) (rest : List ℕ)
    → is_some (find (λ e. e.number == c) (d ∷ ds)) ≡ true → or_first (c ∷ rest) d ds ≡ c
chosen_again c d ds rest e = rw e refl

either_same : (b : Bool) (n : ℕ) → (if b then n else n) ≡ n
either_same true n = refl
either_same false n = refl

first_again : (chosen : List ℕ) (d : Drive) (ds : List Drive) (rest : List ℕ)
    → or_first (or_first chosen d ds ∷ rest) d ds ≡ or_first chosen d ds
first_again [] d ds rest = either_same _ d.number
first_again (c ∷ cs) d ds rest = either (is_some (find (λ e. e.number == c) (d ∷ ds))) refl
  where
    either : (b : Bool) → is_some (find (λ e. e.number == c) (d ∷ ds)) ≡ b
        → or_first ((if b then c else d.number) ∷ rest) d ds ≡ (if b then c else d.number)
    either true is = chosen_again c d ds rest is
    either false is = either_same _ d.number

pub named_part : (p : Drive → Bool) (ds : List Drive) → AreNamed ds → AreNamed (filter p ds)
named_part p [] a = tt
named_part p (d ∷ ds) a = either (p d) (named_part p ds a.1)
  where
    either : (b : Bool) → AreNamed (filter p ds) → AreNamed (if b then d ∷ filter p ds else filter p ds)
    either true rest = (a.0, rest)
    either false rest = rest

pub takers_named : (ds : List Drive) (f : Kept) (k : ℕ) → AreNamed ds → AreNamed (takers ds f k)
takers_named ds f k a = of_takers AreNamed named_part ds f k (named_part _ ds a)

-- ---- a component is made anew

-- the drive that a placer's drives give among those that are free
abbrev target_of : Going → (missing : Bool) → (k : ℕ) → (free : List Drive) → Option Target
target_of g b k free = if b then target_on g k (picked g.chosen free) else None

makes_placed : (g : Going) (k : ℕ) (d : Drive) (ds : List Drive) → Fit g → AreNamed (d ∷ ds)
    → Placed g.drives g.effects.sent
    (makes g (record { component = k; drive = or_first g.chosen d ds; object = g.effects.object }))
    (λ x. makes (choosing g x) (record { component = k; drive = or_first x.chosen d ds; object = g.effects.object }))
makes_placed g k d ds h named =
    let drive = or_first g.chosen d ds in
    let create = sent_to g.file.kept Creating k drive g.effects.object g.effects.nonce in
    let places : placed_of g.drives (create ∷ []) ≡ drive ∷ [] = ap (λ (ns : List ℕ). ns ++ [])
    (place_create g.drives g.file.kept k drive g.effects.object g.effects.nonce h.format
    (first_named g.chosen d ds named)) in
    record {
      more = create ∷ [];
      sends = refl;
      same = λ rest. ap (λ (ns : List ℕ). makes (choosing g (given g.effects.sent (ns ++ rest)))
          (record { component = k; drive = or_first (ns ++ rest) d ds; object = g.effects.object })) places
          ∙ ap (λ (n : ℕ). makes (choosing g (given g.effects.sent (drive ∷ rest)))
          (record { component = k; drive = n; object = g.effects.object }))
          (first_again g.chosen d ds rest);
      alike = λ x. record { kept = refl; runs = refl; effects = refl };
      format = h.format;
    }

made_or : (g : Going) (b : Bool) (k : ℕ) (free : List Drive) (later : Going) (f : Given → Going) → Fit g
    → AreNamed free
    → Placed g.drives g.effects.sent later f
    → Placed g.drives g.effects.sent (makes_or g (target_of g b k free) later)
    (λ x. makes_or (choosing g x) (target_of (choosing g x) b k free) (f x))
made_or g false k free later f h named p = p
made_or g true k [] later f h named p = p
made_or g true k (d ∷ ds) later f h named p = makes_placed g k d ds h named

pub rebuilds_placed : (g : Going) (cs : List Component) (k : ℕ) → Fit g
    → Placed g.drives g.effects.sent (rebuilds g cs k) (λ x. rebuilds (choosing g x) cs k)
unfolding rebuilds target_for
rebuilds_placed g [] k h = placed_here (over g) h
rebuilds_placed g (at ∷ cs) k h =
    made_or g at.missing k (takers g.drives g.file.kept k) _
    (λ x. rebuilds (noting_if at.missing (choosing g x) (NoDrive k)) cs (k + 1)) h
    (takers_named g.drives g.file.kept k h.drives)
    (rebuilds_placed (noting_if at.missing g (NoDrive k)) cs (k + 1) h)

pub past_placed : (g : Going) (t : Target) → Fit g
    → Placed g.drives g.effects.sent (goes_past g t) (λ x. goes_past (choosing g x) t)
past_placed g t h = rebuilds_placed g _ _ h

-- ---- its pieces

none_sources : (ds : List Drive) (f : Kept) (t : Target) (p : Piece) (nonce : ℕ) (o : Option ℕ)
    → placed_of ds (sources_by f t p nonce o) ≡ []
none_sources ds f t p nonce (Some j) = none_each ds f _ _ f.components 0 nonce (λ g k drive object n. refl)
none_sources ds f t p nonce None = either (is_beyond f.map f.components (group_for f t))
  where
    either : (b : Bool) → placed_of ds (if b then []
        else to_all f (FirstsOf (group_for f t)) (Reading (offset_of f.map p.stripe p.column) p.count) nonce) ≡ []
    either true = refl
    either false = none_each ds f _ _ f.components 0 nonce (λ g k drive object n. refl)

pub fills_placed : (g : Going) (t : Target) (ps : List Piece) → Fit g
    → Placed g.drives g.effects.sent (fills g t ps) (λ x. fills (choosing g x) t ps)
unfolding fills sources
fills_placed g t [] h =
    past_placed (noting (with_components g (slice_set g.file.kept.components t.component (stands_at t)))
    (Rebuilt t.component t.drive)) t h
fills_placed g t (p ∷ ps) h =
    placed_or (sources g.file.kept t p g.effects.nonce) g Rebuilding _ _ (λ x. lost (choosing g x) t) h
    (none_sources g.drives g.file.kept t p g.effects.nonce
    (replica g.file.kept.map g.file.kept.components (position_for g.file.kept t)))
    (past_placed (noting g _) t h)

pub filling_placed : (g : Going) (t : Target) (p : Piece) (ps : List Piece) (bytes : List ℕ) → Fit g
    → Placed g.drives g.effects.sent (filling g t p ps bytes) (λ x. filling (choosing g x) t p ps bytes)
unfolding filling
filling_placed g t p ps bytes h = either (nat_lt 0 (end_of bytes (replicate p.count 0)))
  where
    either : (b : Bool) → Placed g.drives g.effects.sent
        (if b then rests g Rebuilding (Fills t (p ∷ ps))
        (to_fill g.file.kept t p bytes g.effects.nonce) [] else fills g t ps)
        (λ x. if b then rests (choosing g x) Rebuilding (Fills t (p ∷ ps))
        (to_fill g.file.kept t p bytes g.effects.nonce) []
        else fills (choosing g x) t ps)
    either true = placed_rests g Rebuilding _ _ [] h (none_one g.drives _ refl)
    either false = fills_placed g t ps h

pub gone_placed : (g : Going) (t : Target) → Fit g
    → Placed g.drives g.effects.sent (target_gone g t) (λ x. target_gone (choosing g x) t)
gone_placed g t h = past_placed (noting g (NoDrive t.component)) t h

pub full_placed : (g : Going) (t : Target) → Fit g
    → Placed g.drives g.effects.sent (target_full g t) (λ x. target_full (choosing g x) t)
full_placed g t h = past_placed (noting g (NoSpace t.component)) t h

-- ---- a repair

none_stored : (ds : List Drive) (f : Kept) (p : Piece) (rows : List (List ℕ)) (heard : List Heard)
    (cs : List Component) (k nonce : ℕ)
    → placed_of ds (stores_from f p rows heard cs k nonce) ≡ []
unfolding stores_from
none_stored ds f p rows heard [] k nonce = refl
none_stored ds f p rows heard (at ∷ cs) k nonce =
    none_beside ds _ _ _ _ refl (none_stored ds f p rows heard cs (k + 1) (nonce + 1))
    (none_stored ds f p rows heard cs (k + 1) nonce)

none_to_repair : (ds : List Drive) (f : Kept) (p : Piece) (nonce : ℕ) → placed_of ds (repair_reads f p nonce) ≡ []
unfolding repair_reads
none_to_repair ds f p nonce = either (is_left f p)
  where
    either : (b : Bool) → placed_of ds (if b then [] else reads f p nonce) ≡ []
    either true = refl
    either false = none_each ds f _ _ f.components 0 nonce (λ g k drive object n. refl)

after_placed : (kind : JobKind) (g : Going) → Fit g
    → Placed g.drives g.effects.sent (after_repair kind g) (λ x. after_repair kind (choosing g x))
after_placed Making g h = placed_here (over g) h
after_placed Revoking g h = placed_here (over g) h
after_placed Rebuilding g h = rebuilds_placed g g.file.kept.components 0 h
after_placed Auditing g h = audit_placed g h

pub repairs_placed : (kind : JobKind) (g : Going) (ps : List Piece) (short : List ℕ) → Fit g
    → Placed g.drives g.effects.sent (repairs kind g ps short) (λ x. repairs kind (choosing g x) ps short)
unfolding repairs
repairs_placed kind g [] short h = after_placed kind (mended g short) h
repairs_placed kind g (p ∷ ps) short h =
    placed_or (repair_reads g.file.kept p g.effects.nonce) g kind _ _
    (λ x. repairs kind (choosing g x) ps (short_with g.file.kept p short)) h
    (none_to_repair g.drives g.file.kept p g.effects.nonce) (repairs_placed kind g ps (short_with g.file.kept p short) h)

pub storing_placed : (kind : JobKind) (g : Going) (p : Piece) (ps : List Piece) (short : List ℕ) (heard : List Heard)
    → Fit g
    → Placed g.drives g.effects.sent (storing kind g p ps short heard) (λ x. storing kind (choosing g x) p ps short heard)
unfolding storing
storing_placed kind g p ps short heard h =
    placed_or (stores g.file.kept p heard g.effects.nonce) g kind _ _ (λ x. repairs kind (choosing g x) ps short) h
    (none_stored g.drives g.file.kept p _ heard g.file.kept.components 0 g.effects.nonce)
    (repairs_placed kind g ps short h)

pub stored_placed : (kind : JobKind) (g : Going) (p : Piece) (ps : List Piece) (short : List ℕ) (again : Bool) → Fit g
    → Placed g.drives g.effects.sent (stored kind g p ps short again) (λ x. stored kind (choosing g x) p ps short again)
stored_placed kind g p ps short true h = repairs_placed kind g (p ∷ ps) short h
stored_placed kind g p ps short false h = repairs_placed kind g ps short h

pub repair_placed : (kind : JobKind) (g : Going) → Fit g
    → Placed g.drives g.effects.sent (repair_begins kind g) (λ x. repair_begins kind (choosing g x))
unfolding repair_begins
repair_placed kind g h = repairs_placed kind g _ [] h
