-- One step of each definition that goes up to an end.
use Rattle.std.proofs.Common.{◌≡◌, ℕ, ◌+◌, ◌-◌, ◌*◌, ◌<◌, ◌≤◌, Bool, true, false, List, [], ◌∷◌, ◌++◌, refl, sym, ap, ◌∙◌, inl, inr, arith, append_assoc, append-nil}
use Rattle.std.specs.Prelude.{◌&&◌, ◌||◌, if◌then◌else◌, Option, Some, None, Ok, map}
use Rattle.std.specs.List.{range_with_len}
use Rattle.data_map.specs.declared.check.RawMap.{RawMap}
use Rattle.data_map.specs.Striping.{replicas, group_width, group_of, position_of}
use Rattle.stripe_plan.specs.declared.plan.Span.{Span}
use Rattle.stripe_plan.specs.declared.plan.Interval.{Interval}
use Rattle.stripe_plan.specs.declared.plan.Stretch.{Stretch}
use Rattle.stripe_plan.specs.declared.plan.Aim.{Aim}
use Rattle.stripe_plan.specs.declared.plan.Ask.{Ask}
use Rattle.stripe_plan.specs.declared.plan.Column.{Column}
use Rattle.stripe_plan.specs.declared.plan.Part.{Part}
use Rattle.stripe_plan.specs.declared.plan.Store.{Store}
use Rattle.stripe_plan.specs.Touched.{stripes, touches}
use Rattle.stripe_plan.specs.Plans.{filled, filled_each, part_of, parts_of, plan_scatter, unless_lost, writes, writes_of, Gives}
use Rattle.stripe_plan.specs.Words.{lost_from}
use Rattle.stripe_plan.specs.Asks.{asks_of, asks_each, asks_place, asks_stripe, asks}
use Rattle.stripe_plan.specs.Lost.{among, source_from, source, is_out, out_from, positions_out, is_short, hit_from, is_hit, when, unreadable, unwritable}
use Rattle.stripe_plan.proofs.Parities.{left}

pub none : (i e : ℕ) → e ≤ i → e - i ≡ 0
none i e le = omega (arith, le)

pub source_from_first : (m : RawMap) (out : List ℕ) (p k : ℕ) → k ≡ p * replicas m →
    source_from out k (k + replicas m - k) ≡ source m out p
unfolding source
source_from_first m out p k first = let n : k + replicas m - k ≡ replicas m = omega arith in rw (n, first) refl

pub source_step : (out : List ℕ) (k e : ℕ) → k < e →
    source_from out k (e - k) ≡ (if among k out then source_from out (k + 1) (e - (k + 1)) else Some k)
unfolding source_from
source_step out k e lt = rw (left k e lt) refl

pub source_end : (out : List ℕ) (k e : ℕ) → e ≤ k → source_from out k (e - k) ≡ None
unfolding source_from
source_end out k e le = rw (none k e le) refl

pub out_step : (m : RawMap) (out : List ℕ) (p e : ℕ) → p < e →
    out_from m out p
    (e - p) ≡ (if is_out m out p then p ∷ out_from m out (p + 1) (e - (p + 1)) else out_from m out (p + 1) (e - (p + 1)))
unfolding out_from
out_step m out p e lt = rw (left p e lt) refl

pub out_end : (m : RawMap) (out : List ℕ) (p e : ℕ) → e ≤ p → out_from m out p (e - p) ≡ []
unfolding out_from
out_end m out p e le = rw (none p e le) refl

pub hit_step : (m : RawMap) (r : Span) (out : List ℕ) (s c e : ℕ) → c < e →
    hit_from m r out s c
    (e - c) ≡ ((touches m r s c && is_out m out (position_of m s c)) || hit_from m r out s (c + 1) (e - (c + 1)))
unfolding hit_from
hit_step m r out s c e lt = rw (left c e lt) refl

pub hit_end : (m : RawMap) (r : Span) (out : List ℕ) (s c e : ℕ) → e ≤ c → hit_from m r out s c (e - c) ≡ false
unfolding hit_from
hit_end m r out s c e le = rw (none c e le) refl

pub writable_step : (m : RawMap) (out : List ℕ) (s e : ℕ) → s < e →
    unwritable m out
    (range_with_len s (e - s))
    ≡ (if is_short m out s then Some (positions_out m out (group_of m s)) else unwritable m out
    (range_with_len (s + 1) (e - (s + 1))))
unfolding unwritable
writable_step m out s e lt = rw (left s e lt) refl

pub writable_end : (m : RawMap) (out : List ℕ) (s e : ℕ) → e ≤ s → unwritable m out (range_with_len s (e - s)) ≡ None
unfolding unwritable
writable_end m out s e le = rw (none s e le) refl

pub readable_step : (m : RawMap) (r : Span) (out : List ℕ) (s e : ℕ) → s < e →
    unreadable m r out (range_with_len s (e - s))
    ≡ (if is_hit m r out s && is_short m out s then Some (positions_out m out (group_of m s)) else unreadable m r out
    (range_with_len (s + 1) (e - (s + 1))))
unfolding unreadable
readable_step m r out s e lt = rw (left s e lt) refl

pub readable_end : (m : RawMap) (r : Span) (out : List ℕ) (s e : ℕ) → e ≤ s → unreadable m r out (range_with_len s (e - s)) ≡ None
unfolding unreadable
readable_end m r out s e le = rw (none s e le) refl

pub each_first : (out : List ℕ) (s p k n : ℕ) (is : List Interval) → asks_each out s p k (k + n - k) is ≡ asks_each out s p k n is
each_first out s p k n is = let e : k + n - k ≡ n = omega arith in rw e refl

pub each_step : (out : List ℕ) (s p k e : ℕ) (is : List Interval) → k < e →
    asks_each out s p k
    (e - k) is ≡ (if among k out then asks_each out s p (k + 1) (e - (k + 1)) is else asks_of s p k is ++ asks_each out s p
    (k + 1) (e - (k + 1)) is)
unfolding asks_each
each_step out s p k e is lt = rw (left k e lt) refl

pub each_end : (out : List ℕ) (s p k e : ℕ) (is : List Interval) → e ≤ k → asks_each out s p k (e - k) is ≡ []
unfolding asks_each
each_end out s p k e is le = rw (none k e le) refl

pub place_step : (aim : Aim) (m : RawMap) (r : Span) (out : List ℕ) (had : List Stretch) (s i e : ℕ) → i < e →
    asks_stripe aim m r out had s i (e - i) ≡ asks_place aim m r out had s i ++ asks_stripe aim m r out had s (i + 1)
    (e - (i + 1))
unfolding asks_stripe
place_step aim m r out had s i e lt = rw (left i e lt) refl

pub place_end : (aim : Aim) (m : RawMap) (r : Span) (out : List ℕ) (had : List Stretch) (s i e : ℕ) → e ≤ i →
    asks_stripe aim m r out had s i (e - i) ≡ []
unfolding asks_stripe
place_end aim m r out had s i e le = rw (none i e le) refl

pub stripe_step : (aim : Aim) (m : RawMap) (r : Span) (out : List ℕ) (had : List Stretch) (s e : ℕ) → s < e →
    asks aim m r out had (range_with_len s (e - s)) ≡ asks_stripe aim m r out had s 0 (group_width m) ++ asks aim m r out had
    (range_with_len (s + 1) (e - (s + 1)))
unfolding asks
stripe_step aim m r out had s e lt = rw (left s e lt) refl

pub stripe_end : (aim : Aim) (m : RawMap) (r : Span) (out : List ℕ) (had : List Stretch) (s e : ℕ) → e ≤ s →
    asks aim m r out had (range_with_len s (e - s)) ≡ []
unfolding asks
stripe_end aim m r out had s e le = rw (none s e le) refl

pub lost_step : (m : RawMap) (out : List ℕ) (s c e : ℕ) → c < e →
    lost_from m out s c
    (e - c) ≡ (if is_out m out (position_of m s c) then c ∷ lost_from m out s (c + 1) (e - (c + 1)) else lost_from m out s
    (c + 1) (e - (c + 1)))
unfolding lost_from
lost_step m out s c e lt = rw (left c e lt) refl

pub lost_end : (m : RawMap) (out : List ℕ) (s c e : ℕ) → e ≤ c → lost_from m out s c (e - c) ≡ []
unfolding lost_from
lost_end m out s c e le = rw (none c e le) refl

pub range_step : {A : Type 0} (f : ℕ → A) (i e : ℕ) → i < e →
    map f (range_with_len i (e - i)) ≡ f i ∷ map f (range_with_len (i + 1) (e - (i + 1)))
range_step f i e lt = rw (left i e lt) refl

pub range_end : {A : Type 0} (f : ℕ → A) (i e : ℕ) → e ≤ i → map f (range_with_len i (e - i)) ≡ []
range_end f i e le = rw (none i e le) refl

-- what is made and one more, and the rest
pub one_more : {A : Type 0} (made next rest all new : List A) → new ≡ made ++ next → made ++ (next ++ rest) ≡ all →
    new ++ rest ≡ all
one_more made next rest all new e i = ap (λ xs. xs ++ rest) e ∙ append_assoc made next rest ∙ i

-- all is made
pub no_more : {A : Type 0} (made rest all : List A) → rest ≡ [] → made ++ rest ≡ all → made ≡ all
no_more made rest all e i = sym (append-nil made) ∙ ap (λ xs. made ++ xs) (sym e) ∙ i

-- the first that is found, or the rest
pub found_when : {X : Type 0} (t : Bool) (x y : X) (rest : Option X) → Some y ≡ when t x → (if t then Some x else rest) ≡ Some y
found_when true x y rest e = sym e
found_when false x y rest e = absurd (cc e)

pub rest_when : {X : Type 0} (t : Bool) (x : X) (rest : Option X) → None ≡ when t x → (if t then Some x else rest) ≡ rest
rest_when true x rest e = absurd (cc e)
rest_when false x rest e = refl

-- the writes of a plan are those of its stores
pub parts_told : (cols : List Column) (xs : List Ask) → parts_of (filled_each cols xs) ≡ writes_of cols xs
parts_told cols [] = refl
parts_told cols (a ∷ xs) = ap (λ (ws : List Part). part_of (filled cols a) ∷ ws) (parts_told cols xs)

-- where no stripe lacks too many positions there is a plan
given : {X Y : Type 0} (lost : Option (List ℕ)) (x : X) (y z : Y) → Gives (unless_lost lost y) (Ok z) →
    Gives (unless_lost lost x) (Ok x)
given None x y z g = inr refl
given (Some ps) x y z (inl e) = absurd (cc e)
given (Some ps) x y z (inr e) = absurd (cc e)

pub scattered : {Y : Type 0} (m : RawMap) (r : Span) (cols : List Column) (out : List ℕ) (y z : Y) (xs : List Ask)
    (stores : List Store) (ws : List Part) →
    Gives (unless_lost (unwritable m out (stripes m r)) y) (Ok z) → xs ≡ writes m r out → stores ≡ filled_each cols xs →
    ws ≡ parts_of stores → Gives (plan_scatter m r cols out) (Ok ws)
unfolding plan_scatter
scattered m r cols out y z xs stores ws g asked made is =
    let all : ws ≡ writes_of cols (writes m r out) = is ∙ ap parts_of made ∙ parts_told cols xs ∙ ap (writes_of cols) asked in
    rw all (given (unwritable m out (stripes m r)) (writes_of cols (writes m r out)) y z g)
