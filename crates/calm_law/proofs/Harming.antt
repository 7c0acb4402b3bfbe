-- A moment is calm exactly where no stripe is harmed by what is kept.
use Rattle.std.proofs.Common.{◌≡◌, ℕ, ◌==◌, ◌||◌, ◌&&◌, List, Bool, true, false, not, Option, Some, None, map, slice_get, refl, sym, ap, ◌∙◌, eq-eqb}
use Rattle.std.specs.Prelude.{nat_lt}
use Rattle.std.specs.List.{list_any}
use Rattle.std.specs.Option.{option_map}
use Rattle.std.proofs.lemmas.Bool.{and_from, and_parts}
use Rattle.osd_lists.proofs.Tests.{not_false, same_number}
use Rattle.osd_objects.proofs.Entries.{some_there}
use Rattle.data_map.specs.declared.check.RawMap.{RawMap}
use Rattle.data_map.specs.Striping.{parities}
use Rattle.server_rules.specs.Files.{file_at}
use Rattle.server_rules.specs.Numbers.{among}
use Rattle.world_history.specs.ServerNames.{File, Kept, Grant}
use Rattle.world_history.specs.ReadLog.{Logged}
use Rattle.world_history.specs.Stripes.{Mark, Moment, is_in, is_unfinished, is_left as is_left_at, is_live, of_entry, is_torn_by, is_short_stripe, is_harmed_in, is_calm}
use Rattle.world_calm.specs.declared.calls.LogEntry.{LogEntry}
use Rattle.world_calm.specs.declared.marks.Marked.{Marked}
use Rattle.world_calm.specs.Files.{is_short_at}
use Rattle.world_calm.specs.Marking.{is_of, is_live_in, is_left, any_short, is_harmed, any_harmed}
use Rattle.world_calm.specs.Seeing.{CalmState, KeptOf}
use Rattle.component_law.specs.Words.{In, is_there}
use Rattle.calm_law.specs.Logs.{view}
use Rattle.calm_law.specs.Marks.{any_mark, any_marked, is_open, open_at, IsReal, has_parity, has_parity_in}
use Rattle.calm_law.specs.Harms.{KeepsMoment, CalmAlike}
use Rattle.component_law.proofs.Lists.{get_map}
use Rattle.component_law.proofs.Members.{found, here, of_each, among_in, in_among}
use Rattle.calm_law.proofs.Noting.{short_alike}

-- ---- truth values

same_bools : (a b : Bool) → (a ≡ true → b ≡ true) → (b ≡ true → a ≡ true) → a ≡ b
same_bools true b f g = sym (f refl)
same_bools false true f g = g refl
same_bools false false f g = refl

or_turned : (a b : Bool) → (a || b) ≡ (b || a)
or_turned true true = refl
or_turned true false = refl
or_turned false true = refl
or_turned false false = refl

-- ---- an entry that a mark is of

-- what is kept of an entry that isn't finished
open_view : (e : Logged) → is_unfinished e ≡ true → is_open (Some (view e)) ≡ true
open_view e u = rw u refl

-- the entry of a mark that is kept
real_entry : (es : List Logged) (m : Marked) (o : Option Logged) → slice_get es m.write ≡ o
    → option_map view o ≡ Some (record { client = m.client; grant = m.grant; finished = false })
    → (e : Logged) × (slice_get es m.write ≡ Some e)
    × (view e ≡ record { client = m.client; grant = m.grant; finished = false })
real_entry es m None e q = absurd (cc q)
real_entry es m (Some x) e q =
    let s : view x ≡ record { client = m.client; grant = m.grant; finished = false } = cc q in (x, e, s)

real_of : (es : List Logged) (fs : List LogEntry) (m : Marked) → fs ≡ map view es → IsReal fs m
    → (e : Logged) × (slice_get es m.write ≡ Some e)
    × (view e ≡ record { client = m.client; grant = m.grant; finished = false })
real_of es fs m q r =
    real_entry es m (slice_get es m.write) refl
    (sym (get_map view es m.write) ∙ ap (λ (x : List LogEntry). slice_get x m.write) (sym q) ∙ r)

unfinished_of : (e : Logged) (c g : ℕ) → view e ≡ record { client = c; grant = g; finished = false }
    → is_unfinished e ≡ true
unfinished_of e c g q = not_false (is_unfinished e) (ap (λ (x : LogEntry). x.finished) q)

-- it is left here as there
left_alike : (there : List File) (kept : KeptOf) (m : Moment) (c : CalmState) (h : KeepsMoment there kept m c)
    (k : Marked) (f : File) (e : Logged) → is_there there k.file ≡ true → file_at m.server.files k.file ≡ Some f
    → view e ≡ record { client = k.client; grant = k.grant; finished = false }
    → is_left c.stopped kept k ≡ is_left_at m f e
left_alike there kept m c h k f e t q v =
    let g : (x : Kept) × (kept k.file ≡ Some x) × (x.grants ≡ f.kept.grants) = h.grants k.file f t q in
    let client : e.client ≡ k.client = ap (λ (x : LogEntry). x.client) v in
    let grant : e.grant ≡ k.grant = ap (λ (x : LogEntry). x.grant) v in
    ap (λ (b : Bool). b || not (is_live_in k.grant (kept k.file)))
    (h.stopped k.client ∙ ap (λ (n : ℕ). among n m.stopped) (sym client))
    ∙ ap (λ (o : Option Kept). among e.client m.stopped || not (is_live_in k.grant o)) g.1
    ∙ ap (λ (gs : List Grant). among e.client m.stopped || not (list_any (λ (x : Grant). x.number == k.grant) gs)) g.2
    ∙ ap (λ (n : ℕ). among e.client m.stopped || not (list_any (λ (x : Grant). x.number == n) f.kept.grants)) (sym grant)
    ∙ or_turned (among e.client m.stopped) (not (is_live f e))

-- ---- what is harmed at the moment is harmed by what is kept

torn_entry : (m : Moment) (f : File) (k : Mark) (o : Option Logged) → slice_get m.log.entries k.entry ≡ o
    → of_entry (λ e. is_unfinished e && is_left_at m f e) o ≡ true
    → (e : Logged) × (slice_get m.log.entries k.entry ≡ Some e) × (is_unfinished e ≡ true) × (is_left_at m f e ≡ true)
torn_entry m f k None s e = absurd (cc e)
torn_entry m f k (Some x) s e =
    let b : (is_unfinished x ≡ true) × (is_left_at m f x ≡ true) = and_parts (is_unfinished x) (is_left_at m f x) e in
    (x, s, b.0, b.1)

parity_there : (there : List File) (kept : KeptOf) (m : Moment) (c : CalmState) (h : KeepsMoment there kept m c)
    (n : ℕ) (f : File) → is_there there n ≡ true → file_at m.server.files n ≡ Some f
    → has_parity there n ≡ nat_lt 0 (parities f.kept.map)
parity_there there kept m c h n f t q =
    let a : (x : File) × (file_at there n ≡ Some x) = some_there (file_at there n) t in
    let b : (g : File) × (file_at m.server.files n ≡ Some g) × (g.kept.map ≡ a.0.kept.map) = h.maps n a.0 a.1 in
    let same : b.0 ≡ f = cc (sym b.1 ∙ q) in
    ap has_parity_in a.1
    ∙ ap (λ (x : RawMap). nat_lt 0 (parities x)) (sym b.2 ∙ ap (λ (x : File). x.kept.map) same)

harmed_here : (there : List File) (kept : KeptOf) (m : Moment) (c : CalmState) (h : KeepsMoment there kept m c)
    (k : Mark) (o : Option File) → In k m.marks → file_at m.server.files k.file ≡ o → is_harmed_in m k o ≡ true
    → any_harmed c.files c.marks ≡ true
harmed_here there kept m c h k None i q e = absurd (cc e)
harmed_here there kept m c h k (Some f) i q e =
    let p : (nat_lt 0 (parities f.kept.map) ≡ true) × ((is_torn_by m f k && is_short_stripe m f k.stripe) ≡ true) =
    and_parts (nat_lt 0 (parities f.kept.map)) (is_torn_by m f k && is_short_stripe m f k.stripe) e in
    let ts : (is_torn_by m f k ≡ true) × (is_short_stripe m f k.stripe ≡ true) =
    and_parts (is_torn_by m f k) (is_short_stripe m f k.stripe) p.1 in
    let x : (e : Logged) × (slice_get m.log.entries k.entry ≡ Some e) × (is_unfinished e ≡ true)
    × (is_left_at m f e ≡ true) = torn_entry m f k (slice_get m.log.entries k.entry) refl ts.0 in
    let mark : any_mark k.file k.stripe k.entry m.marks ≡ true =
    here (λ (y : Mark). is_in k.file k.stripe y && (y.entry == k.entry)) m.marks k i
    (and_from (is_in k.file k.stripe k) (k.entry == k.entry)
    (and_from (k.file == k.file) (k.stripe == k.stripe) (eq-eqb k.file k.file refl) (eq-eqb k.stripe k.stripe refl))
    (eq-eqb k.entry k.entry refl)) in
    let t : is_there there k.file ≡ true = (h.marks.known k.file k.stripe k.entry mark).0 in
    let at_entry : slice_get c.log.entries k.entry ≡ Some (view x.0) =
    ap (λ (y : List LogEntry). slice_get y k.entry) h.log.entries ∙ get_map view m.log.entries k.entry
    ∙ ap (option_map view) x.1 in
    let opens : open_at c.log.entries k.entry ≡ true = ap is_open at_entry ∙ open_view x.0 x.2 in
    let marked : any_marked k.file k.stripe k.entry c.marks ≡ true =
    sym (h.marks.same k.file k.stripe k.entry (parity_there there kept m c h k.file f t q ∙ p.0) opens) ∙ mark in
    let y : (z : Marked) × In z c.marks × ((is_of k.entry k.file z && among k.stripe z.stripes) ≡ true) =
    found (λ (z : Marked). is_of k.entry k.file z && among k.stripe z.stripes) c.marks marked in
    let yb : (is_of k.entry k.file y.0 ≡ true) × (among k.stripe y.0.stripes ≡ true) =
    and_parts (is_of k.entry k.file y.0) (among k.stripe y.0.stripes) y.2 in
    let yo : ((y.0.write == k.entry) ≡ true) × ((y.0.file == k.file) ≡ true) =
    and_parts (y.0.write == k.entry) (y.0.file == k.file) yb.0 in
    let same_entry : y.0.write ≡ k.entry = same_number y.0.write k.entry yo.0 in
    let same_file : y.0.file ≡ k.file = same_number y.0.file k.file yo.1 in
    let real : IsReal c.log.entries y.0 × (is_there there y.0.file ≡ true) =
    of_each (λ (z : Marked). IsReal c.log.entries z × (is_there there z.file ≡ true)) c.marks y.0 h.marks.real y.1 in
    let v : Some (view x.0) ≡ Some (record { client = y.0.client; grant = y.0.grant; finished = false }) =
    sym at_entry ∙ ap (λ (n : ℕ). slice_get c.log.entries n) (sym same_entry) ∙ real.0 in
    let vs : view x.0 ≡ record { client = y.0.client; grant = y.0.grant; finished = false } = cc v in
    let left : y.0.left ≡ true =
    of_each (λ (z : Marked). z.left ≡ is_left c.stopped kept z) c.marks y.0 h.left y.1
    ∙ left_alike there kept m c h y.0 f x.0 real.1 (ap (file_at m.server.files) same_file ∙ q) vs ∙ x.3 in
    let short : is_short_at c.files k.file k.stripe ≡ true =
    short_alike there m c.files k.file k.stripe f h.files t q
    ∙ and_from (nat_lt 0 (parities f.kept.map)) (is_short_stripe m f k.stripe) p.0 ts.1 in
    here (is_harmed c.files) c.marks y.0 y.1
    (and_from y.0.left (any_short c.files y.0.file y.0.stripes) left
    (here (λ (s : ℕ). is_short_at c.files y.0.file s) y.0.stripes k.stripe (among_in k.stripe y.0.stripes yb.1)
    (ap (λ (n : ℕ). is_short_at c.files n k.stripe) same_file ∙ short)))

-- ---- and the other way round

harmed_there : (there : List File) (kept : KeptOf) (m : Moment) (c : CalmState) (h : KeepsMoment there kept m c)
    → any_harmed c.files c.marks ≡ true
    → list_any (λ (k : Mark). is_harmed_in m k (file_at m.server.files k.file)) m.marks ≡ true
harmed_there there kept m c h e =
    let y : (z : Marked) × In z c.marks × (is_harmed c.files z ≡ true) = found (is_harmed c.files) c.marks e in
    let b : (y.0.left ≡ true) × (any_short c.files y.0.file y.0.stripes ≡ true) =
    and_parts y.0.left (any_short c.files y.0.file y.0.stripes) y.2 in
    let s : (z : ℕ) × In z y.0.stripes × (is_short_at c.files y.0.file z ≡ true) =
    found (λ (z : ℕ). is_short_at c.files y.0.file z) y.0.stripes b.1 in
    let real : IsReal c.log.entries y.0 × (is_there there y.0.file ≡ true) =
    of_each (λ (z : Marked). IsReal c.log.entries z × (is_there there z.file ≡ true)) c.marks y.0 h.marks.real y.1 in
    let a : (x : File) × (file_at there y.0.file ≡ Some x) = some_there (file_at there y.0.file) real.1 in
    let f : (g : File) × (file_at m.server.files y.0.file ≡ Some g) × (g.kept.map ≡ a.0.kept.map) =
    h.maps y.0.file a.0 a.1 in
    let short : (nat_lt 0 (parities f.0.kept.map) && is_short_stripe m f.0 s.0) ≡ true =
    sym (short_alike there m c.files y.0.file s.0 f.0 h.files real.1 f.1) ∙ s.2 in
    let ps : (nat_lt 0 (parities f.0.kept.map) ≡ true) × (is_short_stripe m f.0 s.0 ≡ true) =
    and_parts (nat_lt 0 (parities f.0.kept.map)) (is_short_stripe m f.0 s.0) short in
    let x : (e : Logged) × (slice_get m.log.entries y.0.write ≡ Some e)
    × (view e ≡ record { client = y.0.client; grant = y.0.grant; finished = false }) =
    real_of m.log.entries c.log.entries y.0 h.log.entries real.0 in
    let unfinished : is_unfinished x.0 ≡ true = unfinished_of x.0 y.0.client y.0.grant x.2 in
    let left : is_left_at m f.0 x.0 ≡ true =
    sym (left_alike there kept m c h y.0 f.0 x.0 real.1 f.1 x.2)
    ∙ sym (of_each (λ (z : Marked). z.left ≡ is_left c.stopped kept z) c.marks y.0 h.left y.1) ∙ b.0 in
    let marked : any_marked y.0.file s.0 y.0.write c.marks ≡ true =
    here (λ (z : Marked). is_of y.0.write y.0.file z && among s.0 z.stripes) c.marks y.0 y.1
    (and_from (is_of y.0.write y.0.file y.0) (among s.0 y.0.stripes)
    (and_from (y.0.write == y.0.write) (y.0.file == y.0.file) (eq-eqb y.0.write y.0.write refl) (eq-eqb y.0.file y.0.file refl))
    (in_among s.0 y.0.stripes s.1)) in
    let opens : open_at c.log.entries y.0.write ≡ true = ap is_open real.0 in
    let mark : any_mark y.0.file s.0 y.0.write m.marks ≡ true =
    h.marks.same y.0.file s.0 y.0.write (parity_there there kept m c h y.0.file f.0 real.1 f.1 ∙ ps.0) opens ∙ marked in
    let k : (z : Mark) × In z m.marks × ((is_in y.0.file s.0 z && (z.entry == y.0.write)) ≡ true) =
    found (λ (z : Mark). is_in y.0.file s.0 z && (z.entry == y.0.write)) m.marks mark in
    let kb : (is_in y.0.file s.0 k.0 ≡ true) × ((k.0.entry == y.0.write) ≡ true) =
    and_parts (is_in y.0.file s.0 k.0) (k.0.entry == y.0.write) k.2 in
    let ki : ((k.0.file == y.0.file) ≡ true) × ((k.0.stripe == s.0) ≡ true) =
    and_parts (k.0.file == y.0.file) (k.0.stripe == s.0) kb.0 in
    let same_file : k.0.file ≡ y.0.file = same_number k.0.file y.0.file ki.0 in
    let same_stripe : k.0.stripe ≡ s.0 = same_number k.0.stripe s.0 ki.1 in
    let same_entry : k.0.entry ≡ y.0.write = same_number k.0.entry y.0.write kb.1 in
    let torn : is_torn_by m f.0 k.0 ≡ true =
    ap (of_entry (λ z. is_unfinished z && is_left_at m f.0 z))
    (ap (λ (n : ℕ). slice_get m.log.entries n) same_entry ∙ x.1)
    ∙ and_from (is_unfinished x.0) (is_left_at m f.0 x.0) unfinished left in
    here (λ (z : Mark). is_harmed_in m z (file_at m.server.files z.file)) m.marks k.0 k.1
    (ap (is_harmed_in m k.0) (ap (file_at m.server.files) same_file ∙ f.1)
    ∙ and_from (nat_lt 0 (parities f.0.kept.map)) (is_torn_by m f.0 k.0 && is_short_stripe m f.0 k.0.stripe) ps.0
    (and_from (is_torn_by m f.0 k.0) (is_short_stripe m f.0 k.0.stripe) torn
    (ap (is_short_stripe m f.0) same_stripe ∙ ps.1)))

pub calm_alike : CalmAlike
unfolding is_calm
calm_alike there kept m c h =
    ap (λ (b : Bool). not b)
    (same_bools (list_any (λ (k : Mark). is_harmed_in m k (file_at m.server.files k.file)) m.marks)
    (any_harmed c.files c.marks)
    (λ e.
    let k : (z : Mark) × In z m.marks × (is_harmed_in m z (file_at m.server.files z.file) ≡ true) =
    found (λ (z : Mark). is_harmed_in m z (file_at m.server.files z.file)) m.marks e in
    harmed_here there kept m c h k.0 (file_at m.server.files k.0.file) k.1 refl k.2)
    (harmed_there there kept m c h))
