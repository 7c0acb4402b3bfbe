-- What a request leaves of its file fits, and so do the numbers that it is told.
use Rattle.std.specs.List.{AllByRecursion}
use Rattle.std.proofs.Common.{◌≡◌, ◌||◌, ◌&&◌, ◌==◌, ℕ, ◌+◌, ◌-◌, ◌*◌, ◌/◌, ◌^◌, ◌≤◌, ◌<◌, ◌++◌, Bool, true, false, not, List, [], ◌∷◌, Option, Some, None, find, length, nat_lt, max, inl, inr, refl, sym, ap, subst, ◌∙◌, append_assoc, arith, if◌then◌else◌}
use Rattle.std.proofs.lemmas.Bool.Decides.{nat_tests}
use Rattle.std.proofs.lemmas.List.{length-append}
use Rattle.std.proofs.Math.Nat.{div-mul-le_self}
use Rattle.data_map.specs.declared.check.RawMap.{RawMap}
use Rattle.data_map.specs.declared.ranges.TheConstants.{MAX_FILE_SIZE}
use Rattle.data_map.specs.Striping.{stripe_length}
use Rattle.osd_capability.specs.Layout.{is_format}
use Rattle.layout_ops.specs.declared.statuses.TheConstants.{NFS4_OK, LAYOUTIOMODE4_READ, LAYOUTIOMODE4_RW}
use Rattle.server_rules.specs.declared.limits.TheConstants.{MAX_FILE_COMPONENTS, MAX_CLIENT, GREATEST_TAG, GREATEST_GRANT}
use Rattle.world_history.specs.ServerNames.{Kept, File, Component, Grant, Awaited, Job, Revoking, NoteKind, Spent}
use Rattle.server_rules.specs.Standing.{is_beyond, lacked_from}
use Rattle.server_rules.specs.Maps.{group_with, stands_in}
use Rattle.server_rules.specs.Grants.{conflicts, asked}
use Rattle.server_rules.specs.Going.{Going, noting, noting_if}
use Rattle.server_rules.specs.Jobs.{fence_begins}
use Rattle.server_rules.specs.Served.{Served, says}
use Rattle.server_rules.specs.Get.{lesser, lowest_after, or_zero, lowest, Early, BadMode, Invalid, Unable, Waits, On, by_job, early, must_fence, Late, NoNumber, Lacks, Conflict, Gives, by_first, by_lacked, lacked, late, by_late, give_or_refuse, after_fence, fence_then, fence_first, on_grants, by_early, gets}
use Rattle.history_law.specs.Placed.{AreNamed}
use Rattle.exchange_law.specs.Files.{GrantFits, KeptFits, EndFits}
use Rattle.std.proofs.Math.Nat.{max-eq_left, max-eq_right}
use Rattle.std.proofs.lemmas.Bool.{cases_lt}
use Rattle.exchange_law.proofs.Parts.{each_more, each_filtered, IsNear, AllNear, JobFits}
use Rattle.exchange_law.proofs.Running.{Sound, From, here, noted}
use Rattle.exchange_law.proofs.Mending.{fence_runs}

-- ---- one run behind another

pub sound_behind : (g h : Going) → Sound g → From g h → Sound h
sound_behind g h s r = record { kept = r.kept; drives = subst AreNamed (sym r.drives) s.drives }

pub then_runs : (g h k : Going) → From g h → From h k → From g k
then_runs g h k a b = record {
  number_is = b.number_is ∙ a.number_is;
  map_is = b.map_is ∙ a.map_is;
  more = a.more ++ b.more;
  sent_is =
      b.sent_is ∙ ap (λ (ws : List Awaited). ws ++ b.more) a.sent_is ∙ append_assoc g.effects.sent a.more b.more;
  rises = omega (arith, a.rises, b.rises, length-append a.more b.more);
  objects = omega (arith, a.objects, b.objects);
  given = omega (arith, a.given, b.given, length-append a.more b.more);
  near = each_more IsNear a.more b.more a.near b.near;
  drives = b.drives ∙ a.drives;
  kept = b.kept;
  job = b.job;
}

-- a further note
pub noted_behind : (g h : Going) (b : Bool) (kind : NoteKind) → From g h → From g (noting_if b h kind)
noted_behind g h b kind r = record {
  number_is = r.number_is;
  map_is = r.map_is;
  more = r.more;
  sent_is = r.sent_is;
  rises = r.rises;
  objects = r.objects;
  given = r.given;
  near = r.near;
  drives = r.drives;
  kept = r.kept;
  job = r.job;
}

-- ---- what is told

pub record ServedFits (go : Going) (v : Served) : Type 0 where
  pub runs : From go v.going
  pub recalled : AllByRecursion (GrantFits go.file.kept.number go.file.kept.map) v.recalled
  pub status : v.told.status < 2 ^ 32
  pub detail : v.told.detail < 2 ^ 32

-- where no layout is given, the status says so
abbrev pub Refuses : Served → Type 0
Refuses v = v.told.grant ≡ None → v.told.status ≡ NFS4_OK → ⊥

pub record GetFits (go : Going) (v : Served) : Type 0 where
  pub fits : ServedFits go v
  pub refuses : Refuses v

pub said : (go : Going) (h : Going) (status detail : ℕ) → From go h → status < 2 ^ 32 → detail < 2 ^ 32
    → ServedFits go (says h status detail)
said go h status detail r s d = record { runs = r; recalled = tt; status = s; detail = d }

refused : (go : Going) (h : Going) (status detail : ℕ) → From go h → status < 2 ^ 32 → detail < 2 ^ 32
    → (status ≡ NFS4_OK → ⊥) → GetFits go (says h status detail)
refused go h status detail r s d not = record { fits = said go h status detail r s d; refuses = λ e. not }

-- ---- the component that a job waits for

abbrev OptionFits : Option ℕ → Type 0
OptionFits None = Unit {0}
OptionFits (Some k) = k < MAX_FILE_COMPONENTS

lesser_fits : (m : Option ℕ) (k : ℕ) → OptionFits m → k < MAX_FILE_COMPONENTS → lesser m k < MAX_FILE_COMPONENTS
lesser_fits None k f l = l
lesser_fits (Some m) k f l = omega (arith, f, l)

lowest_fits : (m : Option ℕ) (ws : List Awaited) → OptionFits m → AllNear ws → OptionFits (lowest_after m ws)
unfolding lowest_after
lowest_fits m [] f n = f
lowest_fits m (a ∷ ws) f n =
    lowest_fits (Some (lesser m a.component)) ws (lesser_fits m a.component f n.0.component) n.1

or_zero_fits : (m : Option ℕ) → OptionFits m → or_zero m < MAX_FILE_COMPONENTS
or_zero_fits None f = omega arith
or_zero_fits (Some k) f = f

pub awaited_fits : (ws : List Awaited) → AllNear ws → lowest ws < MAX_FILE_COMPONENTS
awaited_fits ws n = or_zero_fits (lowest_after None ws) (lowest_fits None ws tt n)

-- ---- the later rows

abbrev LateFits : Late → Type 0
LateFits NoNumber = Unit {0}
LateFits (Lacks k) = k < MAX_FILE_COMPONENTS
LateFits (Conflict holder) = holder ≤ MAX_CLIENT
LateFits Gives = Unit {0}

either_option : (b : Bool) (o p : Option ℕ) → OptionFits o → OptionFits p → OptionFits (if b then o else p)
either_option true o p f g = f
either_option false o p f g = g

lacked_fits : (m : RawMap) (all : List Component) (first end : ℕ) (cs : List Component) (k : ℕ)
    → k + length cs ≤ MAX_FILE_COMPONENTS → OptionFits (lacked_from m all first end cs k)
unfolding lacked_from
lacked_fits m all first end [] k l = tt
lacked_fits m all first end (at ∷ cs) k l =
    let here : k < MAX_FILE_COMPONENTS = omega (arith, l) in
    let later : (k + 1) + length cs ≤ MAX_FILE_COMPONENTS = omega (arith, l) in
    either_option (at.missing && (stands_in m (group_with m k) first end && is_beyond m all (group_with m k)))
    (Some k) (lacked_from m all first end cs (k + 1)) here (lacked_fits m all first end cs (k + 1) later)

abbrev FoundFits : (number : ℕ) → RawMap → Option Grant → Type 0
FoundFits number m None = Unit {0}
FoundFits number m (Some g) = GrantFits number m g

find_fits : (number : ℕ) (m : RawMap) (p : Grant → Bool) (gs : List Grant) → AllByRecursion (GrantFits number m) gs
    → FoundFits number m (find p gs)
find_fits number m p [] k = tt
find_fits number m p (g ∷ gs) k = either (p g) (find_fits number m p gs k.1)
  where
    either : (b : Bool) → FoundFits number m (find p gs) → FoundFits number m (if b then Some g else find p gs)
    either true l = k.0
    either false l = l

first_fits : (number : ℕ) (m : RawMap) (o : Option Grant) → FoundFits number m o → LateFits (by_first o)
first_fits number m None f = tt
first_fits number m (Some d) f = f.client

by_lacked_fits : (number : ℕ) (m : RawMap) (o : Option ℕ) (first : Option Grant) → OptionFits o
    → FoundFits number m first → LateFits (by_lacked o first)
by_lacked_fits number m (Some k) first f g = f
by_lacked_fits number m None first f g = first_fits number m first g

either_late : (b : Bool) (x y : Late) → LateFits x → LateFits y → LateFits (if b then x else y)
either_late true x y f g = f
either_late false x y f g = g

late_fits : (n : ℕ) (f : Kept) (next : ℕ) (g : Grant) → KeptFits n f → LateFits (late f next g)
unfolding late
late_fits n f next g k =
    either_late (nat_lt GREATEST_GRANT next) NoNumber (by_lacked (lacked f g) (find (conflicts g) f.grants)) tt
    (by_lacked_fits f.number f.map (lacked f g) (find (conflicts g) f.grants)
    (either_option g.rw (lacked_from f.map f.components g.first g.end f.components 0) None
    (lacked_fits f.map f.components g.first g.end f.components 0 (omega (arith, k.few))) tt)
    (find_fits f.number f.map (conflicts g) f.grants k.grants))

-- where the grant is for writing, `high` is its end at least
max_fits : (m : RawMap) (high end : ℕ) → EndFits m high → EndFits m end → EndFits m (max high end)
max_fits m high end h e = elim (cases_lt high end) [
  | inl low ↦ subst (EndFits m) (sym (max-eq_right (omega (arith, low)))) e
  | inr above ↦ subst (EndFits m) (sym (max-eq_left above)) h
]

high_fits : (m : RawMap) (high end : ℕ) → EndFits m high → EndFits m end → (b : Bool) →
    EndFits m (if b then max high end else high)
high_fits m high end h e true = max_fits m high end h e
high_fits m high end h e false = h

-- the grant is one of the file's
pub given : (go : Going) (g : Grant) → Sound go → JobFits go.effects.object go.file.kept.tag go.file.job
    → GrantFits go.file.kept.number go.file.kept.map g → From go (by_late go g Gives).going
given go g s j f = here (by_late go g Gives).going (record {
  kept = record {
    number = s.kept.number;
    map = s.kept.map;
    few = s.kept.few;
    format = s.kept.format;
    tag = s.kept.tag;
    size = s.kept.size;
    components = s.kept.components;
    grants = each_more (GrantFits go.file.kept.number go.file.kept.map) go.file.kept.grants (g ∷ []) s.kept.grants (
      f,
      tt,
    );
    ended = s.kept.ended;
    high = high_fits go.file.kept.map go.file.kept.high g.end s.kept.high f.end g.rw;
  };
  drives = s.drives;
}) j

late_served : (go : Going) (g : Grant) (l : Late) → Sound go → JobFits go.effects.object go.file.kept.tag go.file.job
    → GrantFits go.file.kept.number go.file.kept.map g → LateFits l → GetFits go (by_late go g l)
late_served go g NoNumber s j f l = refused go go _ _ (here go s j) (omega arith) (omega arith) (λ e. cc e)
late_served go g (Lacks k) s j f l = refused go go _ _ (here go s j) (omega arith) (omega (arith, l)) (λ e. cc e)
late_served go g (Conflict holder) s j f l = record {
  fits = record {
    runs = here go s j;
    recalled = each_filtered (GrantFits go.file.kept.number go.file.kept.map) (conflicts g) go.file.kept.grants
        s.kept.grants;
    status = omega arith;
    detail = omega (arith, l);
  };
  refuses = λ e z. cc z;
}
late_served go g Gives s j f l = record {
  fits = record { runs = given go g s j f; recalled = tt; status = omega arith; detail = omega arith };
  refuses = λ e z. cc e;
}

give_served : (go : Going) (next : ℕ) (g : Grant) → Sound go → JobFits go.effects.object go.file.kept.tag go.file.job
    → GrantFits go.file.kept.number go.file.kept.map g → GetFits go (give_or_refuse go next g)
unfolding give_or_refuse
give_served go next g s j f =
    late_served go g (late go.file.kept next g) s j f (late_fits go.effects.object go.file.kept next g s.kept)

-- ---- a fence

abbrev GrantsOf : (number : ℕ) → RawMap → List Grant → Type 0
GrantsOf number m gs = AllByRecursion (GrantFits number m) gs

-- a further run of the file
behind : (go h : Going) (v : Served) → From go h → GetFits h v → GetFits go v
behind go h v r k = record {
  fits = record {
    runs = then_runs go h v.going r k.fits.runs;
    recalled =
        subst (λ (n : ℕ). GrantsOf n go.file.kept.map v.recalled) r.number_is
        (subst (λ (m : RawMap). GrantsOf h.file.kept.number m v.recalled) r.map_is k.fits.recalled);
    status = k.fits.status;
    detail = k.fits.detail;
  };
  refuses = k.refuses;
}

after_served : (go : Going) (next : ℕ) (g : Grant) (o : Option Job) → Sound go
    → JobFits go.effects.object go.file.kept.tag go.file.job → JobFits go.effects.object go.file.kept.tag o
    → GrantFits go.file.kept.number go.file.kept.map g → GetFits go (after_fence go next g o)
after_served go next g None s j k f = give_served go next g s j f
after_served go next g (Some x) s j k f =
    let low : lowest x.awaited < MAX_FILE_COMPONENTS = awaited_fits x.awaited k.1 in
    refused go go _ _ (here go s j) (omega arith) (omega (arith, low)) (λ e. cc e)

fence_served : (go : Going) (next format : ℕ) (g : Grant) → is_format format ≡ true → Sound go
    → JobFits go.effects.object go.file.kept.tag go.file.job → GrantFits go.file.kept.number go.file.kept.map g
    → GetFits go (fence_first go next format g)
unfolding fence_first
fence_served go next format g known s j f = either (go.file.kept.tag == GREATEST_TAG) refl
  where
    either : (b : Bool) → (go.file.kept.tag == GREATEST_TAG) ≡ b
        → GetFits go (if b then says (noting go Spent) 10059 4294967295
        else fence_then (fence_begins Revoking format go) next g)
    either true is =
        refused go (noting go Spent) _ _ (here (noting go Spent) (noted go Spent s) j) (omega arith) (omega arith)
        (λ e. cc e)
    either false is =
        let h : Going = fence_begins Revoking format go in
        let r = fence_runs Revoking format go known s (grind (arith, is, s.kept.tag, nat_tests)) in
        behind go h (fence_then h next g) r
        (after_served h next g h.file.job (sound_behind go h s r) r.job r.job
        (subst (λ (n : ℕ). GrantFits n h.file.kept.map g) (sym r.number_is)
        (subst (λ (m : RawMap). GrantFits go.file.kept.number m g) (sym r.map_is) f)))

either_served : (go : Going) (b : Bool) (x y : Served) → GetFits go x → GetFits go y → GetFits go (if b then x else y)
either_served go true x y p q = p
either_served go false x y p q = q

grants_served : (go : Going) (next format now : ℕ) (g : Grant) → is_format format ≡ true → Sound go
    → JobFits go.effects.object go.file.kept.tag go.file.job → GrantFits go.file.kept.number go.file.kept.map g
    → GetFits go (on_grants go next format now g)
unfolding on_grants
grants_served go next format now g known s j f =
    either_served go (must_fence now go.file.kept.grants g) (fence_first go next format g) (give_or_refuse go next g)
    (fence_served go next format g known s j f) (give_served go next g s j f)

-- ---- the first rows

abbrev EarlyFits : (offset count : ℕ) → Early → Type 0
EarlyFits offset count (Waits k) = k < MAX_FILE_COMPONENTS
EarlyFits offset count On = offset + count ≤ MAX_FILE_SIZE
EarlyFits offset count e = Unit {0}

by_job_fits : (offset count n tag : ℕ) (o : Option Job) → offset + count ≤ MAX_FILE_SIZE → JobFits n tag o
    → EarlyFits offset count (by_job o)
by_job_fits offset count n tag None l j = l
by_job_fits offset count n tag (Some x) l j = awaited_fits x.awaited j.1

early_fits : (f : File) (iomode offset count n : ℕ) → JobFits n f.kept.tag f.job
    → EarlyFits offset count (early f iomode offset count)
unfolding early
early_fits f iomode offset count n j =
    mode (not ((iomode == LAYOUTIOMODE4_READ) || (iomode == LAYOUTIOMODE4_RW)))
  where
    able : (b : Bool) → offset + count ≤ MAX_FILE_SIZE → EarlyFits offset count (if b then Unable else by_job f.job)
    able true l = tt
    able false l = by_job_fits offset count n f.kept.tag f.job l j

    short : (a b : Bool) → nat_lt MAX_FILE_SIZE (offset + count) ≡ b
        → EarlyFits offset count (if a || b then Invalid else if f.spent then Unable else by_job f.job)
    short true b is = tt
    short false true is = tt
    short false false is = able f.spent (grind (arith, is, nat_tests))

    mode : (b : Bool) → EarlyFits offset count (if b then BadMode
        else if (count == 0) || nat_lt MAX_FILE_SIZE (offset + count) then Invalid
        else if f.spent then Unable else by_job f.job)
    mode true = tt
    mode false = short (count == 0) (nat_lt MAX_FILE_SIZE (offset + count)) refl

asked_fits : (f : Kept) (number client now offset count : ℕ) (rw : Bool) → client ≤ MAX_CLIENT
    → offset + count ≤ MAX_FILE_SIZE → GrantFits f.number f.map (asked f number client now offset count rw)
unfolding asked
asked_fits f number client now offset count rw c l = record {
  number = omega arith;
  client = c;
  file_is = refl;
  first = below (offset / stripe_length f.map * stripe_length f.map) offset (div-mul-le_self offset _) l;
  end =
      behind_it ((offset + count + (stripe_length f.map - 1)) / stripe_length f.map * stripe_length f.map)
      (stripe_length f.map) (div-mul-le_self (offset + count + (stripe_length f.map - 1)) (stripe_length f.map)) l;
  expiry = omega arith;
}
  where
    below : (a o : ℕ) → a ≤ o → o + count ≤ MAX_FILE_SIZE → a ≤ MAX_FILE_SIZE
    below a o x y = omega (arith, x, y)

    behind_it : (a s : ℕ) → a ≤ offset + count + (s - 1) → offset + count ≤ MAX_FILE_SIZE → a ≤ MAX_FILE_SIZE + s
    behind_it a s x y = omega (arith, x, y)

early_served : (go : Going) (next format now : ℕ) (g : Grant) (offset count : ℕ) (e : Early) → is_format format ≡ true
    → Sound go → JobFits go.effects.object go.file.kept.tag go.file.job
    → (offset + count ≤ MAX_FILE_SIZE → GrantFits go.file.kept.number go.file.kept.map g) → EarlyFits offset count e
    → GetFits go (by_early go next format now g e)
early_served go next format now g offset count BadMode known s j f e =
    refused go go _ _ (here go s j) (omega arith) (omega arith) (λ x. cc x)
early_served go next format now g offset count Invalid known s j f e =
    refused go go _ _ (here go s j) (omega arith) (omega arith) (λ x. cc x)
early_served go next format now g offset count Unable known s j f e =
    refused go go _ _ (here go s j) (omega arith) (omega arith) (λ x. cc x)
early_served go next format now g offset count (Waits k) known s j f e =
    refused go go _ _ (here go s j) (omega arith) (omega (arith, e)) (λ x. cc x)
early_served go next format now g offset count On known s j f e = grants_served go next format now g known s j (f e)

pub gets_served : (go : Going) (next format now client iomode offset count : ℕ) → is_format format ≡ true
    → client ≤ MAX_CLIENT → Sound go → JobFits go.effects.object go.file.kept.tag go.file.job
    → GetFits go (gets go next format now client iomode offset count)
unfolding gets
gets_served go next format now client iomode offset count known c s j =
    early_served go next format now _ offset count (early go.file iomode offset count) known s j
    (asked_fits go.file.kept next client now offset count (iomode == LAYOUTIOMODE4_RW) c)
    (early_fits go.file iomode offset count go.effects.object j)
