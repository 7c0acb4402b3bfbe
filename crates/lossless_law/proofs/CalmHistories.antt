-- A history in which no component becomes missing and no drive fails is calm.
use Rattle.std.proofs.Common.{◌≡◌, ℕ, ◌==◌, Bool, true, false, List, [], ◌∷◌, ◌++◌, Option, Some, None, map, refl, sym, ap, subst, ◌∙◌, append_assoc, slice_get, if◌then◌else◌}
use Rattle.std.specs.List.{AllByRecursion, fold}
use Rattle.scenario_text.specs.declared.event.Event.TheVariants as event
use Rattle.scenario_text.specs.declared.line.Party.TheVariants as party
use Rattle.scenario_text.specs.declared.line.Line.{Line}
use Rattle.scenario_text.specs.declared.line.Line.TheVariants as line
use Rattle.server_rules.specs.declared.server.Server.{Server}
use Rattle.server_rules.specs.Files.{file_at}
use Rattle.server_rules.specs.History.{Input, Makes, Hears, Obeys, Adds, Zones, Formats, Resends, Crashes, Opens, step}
use Rattle.world_history.specs.ServerNames.{File, Component}
use Rattle.world_history.specs.declared.messages.Sent.{Sent}
use Rattle.world_history.specs.Reading.{Step, grouped, sent_in, sent_after}
use Rattle.world_history.specs.Book.{ServerSeen, placed_in, input_at, step_by, server_step, server_behind, sees_server, server_seen, server_after, book_of}
use Rattle.world_history.specs.Calm.{Seen, noted, failed_after, sees, first_seen, calm}
use Rattle.world_history.specs.Laws.{ServerGoesOn, AllLinesGoOn, MessagesAreRead, shown}
use Rattle.world_history.specs.State.{empty_world}
use Rattle.component_law.specs.Moments.{ServerWritesToOthers}
use Rattle.history_law.proofs.Files.{Each, in_at}
use Rattle.exchange_law.proofs.Shapes.{Shaped, step_shaped}
use Rattle.exchange_law.proofs.Making.{good_map}
use Rattle.component_law.specs.Components.{Paired, StandAlike, told_by, told_in}
use Rattle.component_law.specs.Going.{declared_in, taken_out, IsMaking, Goes}
use Rattle.component_law.proofs.FileFacts.{declares_at}
use Rattle.cause_law.specs.Components.{ComponentsGo, ComponentsHaveCauses, EachComponentHasItsCauses}
use Rattle.cause_law.specs.Steps.{InStep}
use Rattle.lossless_law.specs.Lossless.{KeepsDrives, TellsNoLoss, IsLossless, LosslessIsCalm}
use Rattle.lossless_law.proofs.NotShort.{AllThere, HasAllComponents}
use Rattle.lossless_law.proofs.GoodMoments.{AreThere, noted_there}
use Rattle.lossless_law.proofs.CalmSteps.{SameMaps, step_good}
use Rattle.lossless_law.proofs.CalmInputs.{made_algorithm, out_none}
use Rattle.lossless_law.proofs.Grouping.{flat, AreSteps, Ungrouped, ungroup, none_loose, one_step, BeginStep, flat_begins, GoesOn, message_goes}
use Rattle.lossless_law.proofs.LeftLast.{LeftLast, last_right, steps_begin, steps_last, no_heads, placed_same}
use Rattle.lossless_law.proofs.MadeThere.{made_there}

-- ---- lines

pub each_left : (P : Line → Type 0) (xs ys : List Line) → AllByRecursion P (xs ++ ys) → AllByRecursion P xs
each_left P [] ys p = tt
each_left P (x ∷ xs) ys p = (p.0, each_left P xs ys p.1)

pub each_right : (P : Line → Type 0) (xs ys : List Line) → AllByRecursion P (xs ++ ys) → AllByRecursion P ys
each_right P [] ys p = p
each_right P (x ∷ xs) ys p = each_right P xs ys p.1

told_each : (ls : List Line) → AllByRecursion IsLossless ls → AllByRecursion TellsNoLoss ls
told_each [] p = tt
told_each (l ∷ ls) p = (p.0.told, told_each ls p.1)

same_failed : (ds : List ℕ) (l : Line) → KeepsDrives l → failed_after ds l ≡ ds
same_failed ds (line.Event (event.Fail d)) k = absurd k
same_failed ds l k = refl

-- ---- components

told_one : (b : Bool) (cs : List Component) (f : ℕ) (what : _) → TellsNoLoss (line.Note f what) → AllThere cs
    → AllThere (if b then noted cs what else cs)
told_one true cs f what t there = noted_there cs f what t there
told_one false cs f what t there = there

told_line : (n : ℕ) (cs : List Component) (l : Line) → TellsNoLoss l → AllThere cs → AllThere (told_by n cs l)
told_line n cs (line.Note f what) t there = told_one (f == n) cs f what t there
told_line n cs l t there = there

told_there : (n : ℕ) (cs : List Component) (ls : List Line) → AllByRecursion TellsNoLoss ls → AllThere cs
    → AllThere (told_in n cs ls)
told_there n cs [] t there = there
told_there n cs (l ∷ ls) t there = told_there n (told_by n cs l) ls t.1 (told_line n cs l t.0 there)

alike_there : (xs ys : List Component) → Paired StandAlike xs ys → AllThere xs → AllThere ys
alike_there [] [] p there = tt
alike_there [] (y ∷ ys) p there = absurd p
alike_there (x ∷ xs) [] p there = absurd p
alike_there (x ∷ xs) (y ∷ ys) p there = (sym p.0.1 ∙ there.0, alike_there xs ys p.1 there.1)

-- a file that comes by what was given to the server is made, with all of its components
new_there : (s : Server) (chosen : List ℕ) (i : Input) (n : ℕ) (g : File) → IsMaking i n → file_at s.files n ≡ None
    → file_at (step s chosen i).state.files n ≡ Some g → AllThere g.kept.components
new_there s chosen (Makes k m tag zoned) n g is none found =
    made_there s chosen k m tag zoned g (ap (λ (x : ℕ). file_at s.files x) is ∙ none)
    (ap (λ (x : ℕ). file_at (step s chosen (Makes k m tag zoned)).state.files x) is ∙ found)
new_there s chosen (Hears now from m) n g is none found = absurd is
new_there s chosen (Obeys k t) n g is none found = absurd is
new_there s chosen (Adds d) n g is none found = absurd is
new_there s chosen (Zones d zone) n g is none found = absurd is
new_there s chosen (Formats k) n g is none found = absurd is
new_there s chosen Resends n g is none found = absurd is
new_there s chosen Crashes n g is none found = absurd is
new_there s chosen Opens n g is none found = absurd is

-- ---- a step

-- how the files of a server go on
record GoOn (before behind : Server) : Type 0 where
  there : AreThere behind.files
  shaped : Each (Shaped HasAllComponents) behind.files
  maps : SameMaps before.files behind.files

module _ (s : Server) (there : AreThere s.files) (shaped : Each (Shaped HasAllComponents) s.files) where
  none_goes : GoOn s s
  none_goes = record {
    there = there;
    shaped = shaped;
    maps = λ n f g e q. let same : f ≡ g = cc (sym e ∙ q) in ap (λ (x : File). x.kept.map) (sym same);
  }

  module _ (chosen : List ℕ) (i : Input) (rest : List Line) (told : AllByRecursion TellsNoLoss rest)
      (goes : (n : ℕ) → Goes i None rest n (file_at s.files n) (file_at (step s chosen i).state.files n))
      (all : Each (Shaped HasAllComponents) (step s chosen i).state.files) where
    file_there : (n : ℕ) (o : Option File) (g : File) → file_at s.files n ≡ o
        → file_at (step s chosen i).state.files n ≡ Some g → Goes i None rest n o (Some g) → AllThere g.kept.components
    file_there n None g was now x = new_there s chosen i n g x was now
    file_there n (Some f) g was now x =
        alike_there (told_in n f.kept.components rest) g.kept.components x.alike
        (told_there n f.kept.components rest told (there n f was).0)

    goes_of : (n : ℕ) (o : Option File) (g : File) → file_at s.files n ≡ o → file_at (step s chosen i).state.files n ≡ Some g
        → Goes i None rest n o (Some g)
    goes_of n o g was now =
        subst (λ (y : Option File). Goes i None rest n y (Some g)) was
        (subst (λ (y : Option File). Goes i None rest n (file_at s.files n) y) now (goes n))

    input_goes : GoOn s (step s chosen i).state
    input_goes = record {
      there = λ n g e. (
        file_there n (file_at s.files n) g refl e (goes_of n (file_at s.files n) g refl e),
        all g (in_at (step s chosen i).state.files n g e),
      );
      shaped = all;
      maps = λ n f g was now. (goes_of n (Some f) g was now).map;
    }

-- ---- messages

sent_more : AllLinesGoOn → (before more : List Line) → sent_in (before ++ more) ≡ fold sent_after (sent_in before) more
sent_more lines before more = (lines before more).messages

-- ---- the walk

module _ (servers : ServerGoesOn) (lines : AllLinesGoOn) (h : List Line) (causes : ComponentsHaveCauses h)
    (apart : (n : ℕ) (m : Sent) → slice_get (sent_in h) n ≡ Some m → m.from ≡ party.Server → m.to ≡ party.Server → ⊥)
    (left : LeftLast h) where
  -- what was seen of a front of the history
  record Sees (before : List Line) (s : Seen) : Type 0 where
    server : s.server ≡ server_seen before
    sent : s.server.sent ≡ sent_in before
    calm : s.calm ≡ true
    failed : s.moment.failed ≡ []
    there : AreThere s.server.server.files
    shaped : Each (Shaped HasAllComponents) s.server.server.files

  module _ (before : List Line) (s : Seen) (t : Step) (ts : List Step) (is : h ≡ before ++ t.head ∷ (t.rest ++ flat ts))
      (are : AreSteps (t ∷ ts)) (fine : AllByRecursion IsLossless (t.head ∷ (t.rest ++ flat ts))) (x : Sees before s) where
    abbrev upto : List Line
    upto = before ++ t.head ∷ t.rest

    told : AllByRecursion TellsNoLoss t.rest
    told = each_left TellsNoLoss t.rest (flat ts) (told_each (t.rest ++ flat ts) fine.1)

    seen_server : sees_server s.server t ≡ server_seen upto
    seen_server =
        ap (λ (y : ServerSeen). sees_server y t) x.server
        ∙ sym (ap (λ (us : List Step). fold sees_server (server_seen before) us) (one_step t are.0 are.1))
        ∙ sym (servers before (t.head ∷ t.rest) are.0)

    to_others : (n : ℕ) (m : Sent) → slice_get s.server.sent n ≡ Some m → m.from ≡ party.Server → m.to ≡ party.Server → ⊥
    to_others n m e from to =
        let later : GoesOn (fold sent_after (sent_in before) (t.head ∷ (t.rest ++ flat ts))) n m =
        message_goes (sent_in before) (t.head ∷ (t.rest ++ flat ts)) n m
        (ap (λ (l : List Sent). slice_get l n) (sym x.sent) ∙ e) in
        let whole : fold sent_after (sent_in before) (t.head ∷ (t.rest ++ flat ts)) ≡ sent_in h =
        sym (sent_more lines before (t.head ∷ (t.rest ++ flat ts))) ∙ ap sent_in (sym is) in
        apart n later.message (ap (λ (l : List Sent). slice_get l n) (sym whole) ∙ later.found) (later.from ∙ from)
        (later.to ∙ to)

    declares_none : (i : Input) → input_at s.server t.head ≡ Some i → (o : Option ℕ) → declared_in i ≡ o → o ≡ None
    declares_none i e None q = refl
    declares_none i e (Some d) q =
        let it : t.head ≡ line.Event (event.Declare d) = declares_at s.server t.head i d to_others e q in
        absurd (subst KeepsDrives it fine.0.drives)

    input_shaped : (i : Input) → input_at s.server t.head ≡ Some i
        → Each (Shaped HasAllComponents) (step s.server.server (placed_in t.rest) i).state.files
    input_shaped i e =
        step_shaped HasAllComponents s.server.server (placed_in t.rest) i
        (λ n m tag zoned same none. (
          (good_map s.server.server n m zoned
              (made_algorithm s.server t.head n m tag zoned (e ∙ ap (λ (y : Input). Some y) same)) none).0,
          refl,
        )) x.shaped

    module _ (i : Input) (e : input_at s.server t.head ≡ Some i) where
      here : input_at (server_seen before) t.head ≡ Some i
      here = ap (λ (y : ServerSeen). input_at y t.head) (sym x.server) ∙ e

      -- the lines of the step up to where a call is left pending, if one is
      its : InStep (ComponentsGo before t.head i) (t.rest ++ flat ts)
      its = causes before t.head (t.rest ++ flat ts) i is here

      ends : LeftLast its.more
      ends =
          last_right its.rest its.more
          (subst LeftLast its.cut (last_right before (t.head ∷ (t.rest ++ flat ts)) (subst LeftLast is left)).1)

      placed : placed_in its.rest ≡ placed_in t.rest
      placed =
          sym (placed_same t.rest (flat ts) its.rest its.more its.cut are.1 (flat_begins ts are.2) its.of_step its.ends ends)

      its_told : AllByRecursion TellsNoLoss its.rest
      its_told =
          each_left TellsNoLoss its.rest its.more
          (subst (AllByRecursion TellsNoLoss) its.cut (told_each (t.rest ++ flat ts) fine.1))

      abbrev its_step : Step
      its_step = record { head = t.head; rest = its.rest }

      behind : server_after (before ++ t.head ∷ its.rest) ≡ (step s.server.server (placed_in t.rest) i).state
      behind =
          ap (λ (y : ServerSeen). y.server)
          (servers before (t.head ∷ its.rest) are.0
          ∙ ap (λ (us : List Step). fold sees_server (server_seen before) us)
          (one_step its_step are.0 (no_heads its.rest its.of_step)))
          ∙ ap (λ (y : ServerSeen). server_behind y.server (server_step y its_step)) (sym x.server)
          ∙ ap (λ (o : Option Input). server_behind s.server.server (step_by s.server.server (placed_in its.rest) o)) e
          ∙ ap (λ (ns : List ℕ). (step s.server.server ns i).state) placed

      out : taken_out (server_after before) i ≡ None
      out = out_none (server_after before) i (declares_none i e (declared_in i) refl)

      input_files : (n : ℕ)
          → Goes i None its.rest n (file_at s.server.server.files n)
          (file_at (step s.server.server (placed_in t.rest) i).state.files n)
      input_files n =
          let book : server_after before ≡ s.server.server = ap (λ (y : ServerSeen). y.server) (sym x.server) in
          let first : Goes i None its.rest n (book_of before n) (book_of (before ++ t.head ∷ its.rest) n) =
          subst (λ (o : Option ℕ). Goes i o its.rest n (book_of before n) (book_of (before ++ t.head ∷ its.rest) n)) out
          (its.holds n) in
          let second : Goes i None its.rest n (file_at s.server.server.files n) (book_of (before ++ t.head ∷ its.rest) n) =
          subst (λ (y : Server). Goes i None its.rest n (file_at y.files n) (book_of (before ++ t.head ∷ its.rest) n)) book
          first in
          subst (λ (y : Server). Goes i None its.rest n (file_at s.server.server.files n) (file_at y.files n)) behind second

    files_go : (o : Option Input) → input_at s.server t.head ≡ o
        → GoOn s.server.server (server_behind s.server.server (step_by s.server.server (placed_in t.rest) o))
    files_go None e = none_goes s.server.server x.there x.shaped
    files_go (Some i) e =
        input_goes s.server.server x.there x.shaped (placed_in t.rest) i (its i e).rest (its_told i e) (input_files i e)
        (input_shaped i e)

    one_more : Sees upto (sees s t)
    one_more =
        let go : GoOn s.server.server (sees_server s.server t).server = files_go (input_at s.server t.head) refl in
        let good : ((sees s t).calm ≡ true) × ((sees s t).moment.failed ≡ []) =
        step_good s t x.calm x.failed (same_failed s.moment.failed t.head fine.0.drives) told x.there go.there go.maps in
        record {
          server = seen_server;
          sent =
              ap (λ (l : List Sent). fold sent_after l (t.head ∷ t.rest)) x.sent ∙ sym (sent_more lines before (t.head ∷ t.rest));
          calm = good.0;
          failed = good.1;
          there = go.there;
          shaped = go.shaped;
        }

  walk : (before : List Line) (s : Seen) (ts : List Step) → h ≡ before ++ flat ts → AreSteps ts → AllByRecursion IsLossless (flat ts)
      → Sees before s → (fold sees s ts).calm ≡ true
  walk before s [] is are fine x = x.calm
  walk before s (t ∷ ts) is are fine x =
      walk (before ++ t.head ∷ t.rest) (sees s t) ts
      (is ∙ sym (append_assoc before (t.head ∷ t.rest) (flat ts))) are.2
      (each_right IsLossless t.rest (flat ts) fine.1) (one_more before s t ts is are fine x)

  pub lossless_is_calm : BeginStep h → AllByRecursion IsLossless h → calm h ≡ true
  unfolding file_at sent_in grouped
  lossless_is_calm begins fine =
      let u : Ungrouped h = ungroup h in
      let all : h ≡ flat (grouped h).steps =
      u.lines ∙ ap (λ (l : List Line). l ++ flat (grouped h).steps) (none_loose h begins) in
      walk [] first_seen (grouped h).steps all u.steps (subst (AllByRecursion IsLossless) all fine)
      (record {
        server = refl;
        sent = refl;
        calm = refl;
        failed = refl;
        there = λ n f e. absurd (cc e);
        shaped = λ f i. absurd i;
      })

-- ---- the law

pub lossless_history_is_calm : ServerGoesOn → AllLinesGoOn → MessagesAreRead → EachComponentHasItsCauses → ServerWritesToOthers
    → LosslessIsCalm
lossless_history_is_calm servers lines read causes others w h stands written fine =
    let sent : sent_in h ≡ map shown w.network.messages = read w h stands in
    lossless_is_calm servers lines h (causes w h stands written)
    (λ n m e from to. others w h [] stands n m (sym (ap (λ (ss : List Sent). slice_get ss n) sent) ∙ e) from to)
    (subst LeftLast (sym stands.lines_are) (steps_last empty_world stands.steps stands.carried))
    (subst BeginStep (sym stands.lines_are) (steps_begin empty_world stands.steps stands.carried)) fine
