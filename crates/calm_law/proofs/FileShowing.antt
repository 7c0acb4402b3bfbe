-- The files behind a step are those that its lines show, and else those behind its notes.
use Rattle.std.proofs.Common.{◌≡◌, ℕ, ◌&&◌, not, ◌∷◌, [], List, Bool, true, false, Option, Some, None, is_some, refl, sym, ap, subst, ◌∙◌}
use Rattle.std.specs.List.{filter_map, list_any}
use Rattle.std.proofs.lemmas.Bool.{or_parts}
use Rattle.data_map.specs.declared.check.RawMap.{RawMap}
use Rattle.scenario_text.specs.declared.event.Event.TheVariants as event
use Rattle.scenario_text.specs.declared.line.Line.{Line}
use Rattle.scenario_text.specs.declared.line.Line.TheVariants as line
use Rattle.server_rules.specs.Files.{Step as ServerStep, file_at}
use Rattle.server_rules.specs.Numbers.{among}
use Rattle.server_rules.specs.Laws.{FilesArePut}
use Rattle.server_rules.specs.History.{Input, step}
use Rattle.world_history.specs.ServerNames.{Server, File, Component}
use Rattle.world_history.specs.Names.{known_note_line}
use Rattle.world_history.specs.Reading.{Step}
use Rattle.world_history.specs.Stripes.{Moment, is_short_stripe}
use Rattle.world_history.specs.Book.{input_at, step_by, placed_in, server_step, server_behind}
use Rattle.world_history.specs.Calm.{Seen, watched, seen, begins, server_begins, failed_after, is_told_taken, takes_loss, mended_in, through}
use Rattle.calm_law.specs.Words.{seen_in}
use Rattle.component_law.specs.Words.{is_there}
use Rattle.component_law.specs.ShownFiles.{shows_file}
use Rattle.calm_law.specs.Following.{seen_then}
use Rattle.component_law.specs.Components.{Paired, StandAlike, told_in, tells_rebuilt, without_drive}
use Rattle.component_law.specs.Naming.{IsNamed}
use Rattle.component_law.specs.Sound.{IsSound}
use Rattle.component_law.specs.Going.{taken_out, Goes}
use Rattle.calm_law.specs.Seeing.{notes_in, IsMoveOf, ShowsFiles, MovesShowFiles}
use Rattle.component_law.proofs.Components.{paired_more, paired_same, paired_then}
use Rattle.component_law.proofs.Making.{each_step_tells}
use Rattle.calm_law.proofs.Short.{LostAlike, short_alike, lost_by_standing, out_alike, told_alike}
use Rattle.component_law.proofs.Through.{with_parts, through_at, through_failed, begun_at}
use Rattle.component_law.proofs.FileFacts.{named_input, declares_at, making_at, told_same, rebuilt_same, hidden, taken_declared}
use Rattle.component_law.proofs.SeenServer.{Reads, seen_reads}

-- ---- a file that was there

-- how it goes on in a step of the lines: by its notes, or the head declares its drive
abbrev Went : Seen → Step → (lines : List Line) → (n : ℕ) → (f g : File) → Type 0
Went s t lines n f g = record {
  map : g.kept.map ≡ f.kept.map;
  out : Option ℕ;
  declared : (d : ℕ) → out ≡ Some d → t.head ≡ line.Event (event.Declare d);
  alike : Paired StandAlike (told_in n (without_drive out f.kept.components) lines) g.kept.components;
  exact : out ≡ None → list_any (tells_rebuilt n) lines ≡ false → g.kept.components ≡ told_in n f.kept.components lines;
}

-- of any file
abbrev WentTo : Seen → Step → (lines : List Line) → (n : ℕ) → (behind : List File) → Option File → Option File → Type 0
WentTo s t lines n behind None None = Unit {0}
WentTo s t lines n behind None (Some g) = (known : Bool) → is_there behind n ≡ true → shows_file known behind n t.head ≡ true
WentTo s t lines n behind (Some f) None = ⊥
WentTo s t lines n behind (Some f) (Some g) = Went s t lines n f g

-- where nothing comes to the server
rests : (s : Seen) (t : Step) (n : ℕ) (behind : List File) (o : Option File) → WentTo s t [] n behind o o
rests s t n behind None = tt
rests s t n behind (Some f) = record {
  map = refl;
  out = None;
  declared = λ d e. absurd (cc e);
  alike = paired_same StandAlike (λ at. (refl, refl)) f.kept.components;
  exact = λ e w. refl;
}

takes : (s : Seen) (t : Step) (i : Input) → IsMoveOf s t → input_at s.server t.head ≡ Some i
    → (d : ℕ) → taken_out s.server.server i ≡ Some d → t.head ≡ line.Event (event.Declare d)
takes s t i m e d q = declares_at s.server t.head i d m.sent e (taken_declared s.server.server i d q)

does : (s : Seen) (t : Step) (i : Input) (lines : List Line) (n : ℕ) (behind : List File) (o p : Option File) → IsMoveOf s t
    → input_at s.server t.head ≡ Some i → Goes i (taken_out s.server.server i) lines n o p → WentTo s t lines n behind o p
does s t i lines n behind None None m e h = tt
does s t i lines n behind None (Some g) m e h = λ known is. making_at s.server t.head i n known behind e h is
does s t i lines n behind (Some f) None m e h = absurd h
does s t i lines n behind (Some f) (Some g) m e h = record {
  map = h.map;
  out = taken_out s.server.server i;
  declared = takes s t i m e;
  alike = h.alike;
  exact = λ none plain.
      h.exact plain ∙ ap (λ (out : Option ℕ). told_in n (without_drive out f.kept.components) lines) none;
}

went_by : (s : Seen) (t : Step) (o : Option Input) (n : ℕ) → IsMoveOf s t → IsSound s.server.server → IsNamed t.head
    → input_at s.server t.head ≡ o
    → WentTo s t (filter_map known_note_line (notes_in (step_by s.server.server (placed_in t.rest) o))) n
    (server_behind s.server.server (step_by s.server.server (placed_in t.rest) o)).files (file_at s.server.server.files n)
    (file_at (server_behind s.server.server (step_by s.server.server (placed_in t.rest) o)).files n)
went_by s t None n m h named e = rests s t n s.server.server.files (file_at s.server.server.files n)
went_by s t (Some i) n m h named e =
    does s t i (filter_map known_note_line (step s.server.server (placed_in t.rest) i).notes) n
    (step s.server.server (placed_in t.rest) i).state.files (file_at s.server.server.files n)
    (file_at (step s.server.server (placed_in t.rest) i).state.files n) m e
    (each_step_tells s.server.server (placed_in t.rest) i h (named_input s.server t.head i e named) n)

-- ---- where the step begins

begun_by : (s : Server) (told : Bool) (did : Option ServerStep) (n : ℕ) (f g : File) → file_at s.files n ≡ Some f
    → file_at (server_behind s did).files n ≡ Some g → g.kept.map ≡ f.kept.map
    → (b : File) × (file_at (server_begins s told did).files n ≡ Some b) × (b.kept.map ≡ g.kept.map)
    × (b.kept.components ≡ f.kept.components)
begun_by s told None n f g e q same = (f, e, sym same, refl)
begun_by s told (Some did) n f g e q same = begun_at (takes_loss (Some did) && not told) s did.state n f g e q

-- the file behind the notes
abbrev Behind : Seen → Step → Option ServerStep → (n : ℕ) → (f g : File) → Type 0
Behind s t did n f g = record {
  begun : File;
  is : file_at (through s t did).moment.server.files n ≡ Some (with_parts begun (told_in n f.kept.components t.rest));
  map : begun.kept.map ≡ g.kept.map;
}

behind_at : FilesArePut → (s : Seen) (t : Step) (did : Option ServerStep) (n : ℕ) (f g : File)
    → file_at s.server.server.files n ≡ Some f → file_at (server_behind s.server.server did).files n ≡ Some g
    → g.kept.map ≡ f.kept.map → Behind s t did n f g
behind_at put s t did n f g e q same =
    let b : (b : File) × (file_at (server_begins s.server.server (is_told_taken t.rest) did).files n ≡ Some b)
    × (b.kept.map ≡ g.kept.map) × (b.kept.components ≡ f.kept.components) =
    begun_by s.server.server (is_told_taken t.rest) did n f g e q same in
    record {
      begun = b.0;
      is =
          through_at put (mended_in did) (watched (record { moment = s.moment; calm = s.calm }) (begins s t did)) t.rest n b.0
          b.1
          ∙ ap (λ (cs : List Component). Some (with_parts b.0 (told_in n cs t.rest))) b.3;
      map = b.2;
    }

-- ---- what the lines show

abbrev did_at : Seen → Step → Option ServerStep
did_at s t = server_step s.server t

told_rest : (s : Seen) (t : Step) (n : ℕ) (cs : List Component) → IsMoveOf s t
    → told_in n cs (filter_map known_note_line (notes_in (did_at s t))) ≡ told_in n cs t.rest
told_rest s t n cs m =
    told_same n cs (filter_map known_note_line (notes_in (did_at s t))) t.rest (sym m.notes)

declared_shows : (known : Bool) (behind : List File) (n d : ℕ) (l : Line) → known ≡ true → is_there behind n ≡ true
    → l ≡ line.Event (event.Declare d) → shows_file known behind n l ≡ true
declared_shows known behind n d l k t e = ap (shows_file known behind n) e ∙ rw (k, t) refl

-- a file that goes on and isn't shown has the components that its notes tell
parts_told : (s : Seen) (t : Step) (n : ℕ) (f g : File) (behind : List File) → IsMoveOf s t
    → (w : Went s t (filter_map known_note_line (notes_in (did_at s t))) n f g) → (out : Option ℕ) → w.out ≡ out
    → is_there behind n ≡ true → list_any (shows_file true behind n) (t.head ∷ t.rest) ≡ false
    → g.kept.components ≡ told_in n f.kept.components t.rest
parts_told s t n f g behind m w None e is h =
    let p : (shows_file true behind n t.head ≡ false) × (list_any (shows_file true behind n) t.rest ≡ false) = or_parts _ _ h in
    w.exact e
    (rebuilt_same n (filter_map known_note_line (notes_in (did_at s t))) t.rest (sym m.notes)
    ∙ hidden true behind n t.rest is p.1)
    ∙ told_rest s t n f.kept.components m
parts_told s t n f g behind m w (Some d) e is h =
    let p : (shows_file true behind n t.head ≡ false) × (list_any (shows_file true behind n) t.rest ≡ false) = or_parts _ _ h in
    absurd (cc (sym (declared_shows true behind n d t.head refl is (w.declared d e)) ∙ p.0))

shown_file : (b g : File) (cs : List Component) → b.kept.map ≡ g.kept.map → g.kept.components ≡ cs
    → seen_in (Some g) ≡ seen_in (Some (with_parts b cs))
shown_file b g cs same e =
    ap (λ (x : List Component). Some (record { map = g.kept.map; components = x })) e
    ∙ ap (λ (x : RawMap). Some (record { map = x; components = cs })) (sym same)

shown_by : FilesArePut → (s : Seen) (t : Step) (n : ℕ) (o p : Option File) → IsMoveOf s t
    → file_at s.server.server.files n ≡ o → file_at (server_behind s.server.server (did_at s t)).files n ≡ p
    → WentTo s t (filter_map known_note_line (notes_in (did_at s t))) n (server_behind s.server.server (did_at s t)).files o p
    → list_any (shows_file (is_there s.server.server.files n) (server_behind s.server.server (did_at s t)).files n)
    (t.head ∷ t.rest)
    ≡ false
    → seen_in p ≡ seen_then s.server.server.files (through s t (did_at s t)).moment.server.files n
shown_by put s t n None None m e q w h = rw e refl
shown_by put s t n None (Some g) m e q w h =
    absurd (cc (sym (w (is_there s.server.server.files n) (rw q refl)) ∙ (or_parts _ _ h).0))
shown_by put s t n (Some f) None m e q w h = absurd w
shown_by put s t n (Some f) (Some g) m e q w h =
    let b : Behind s t (did_at s t) n f g = behind_at put s t (did_at s t) n f g e q w.map in
    shown_file b.begun g (told_in n f.kept.components t.rest) b.map
    (parts_told s t n f g (server_behind s.server.server (did_at s t)).files m w w.out refl (rw q refl)
    (subst (λ (x : Option File). list_any (shows_file (is_some x) (server_behind s.server.server (did_at s t)).files n)
    (t.head ∷ t.rest) ≡ false) e h))
    ∙ rw e (ap seen_in (sym b.is))

-- ---- short stripes

same_out : (m : Moment) (out : Option ℕ) (cs : List Component) → ((d : ℕ) → out ≡ Some d → among d m.failed ≡ true)
    → Paired (LostAlike m) cs (without_drive out cs)
same_out m None cs h = paired_same (LostAlike m) (λ at. refl) cs
same_out m (Some d) cs h = out_alike m d cs (h d refl)

-- a declaration fails no drive
failed_then : (s : Seen) (t : Step) (did : Option ServerStep) (d : ℕ) → t.head ≡ line.Event (event.Declare d)
    → (through s t did).moment.failed ≡ s.moment.failed
failed_then s t did d e =
    through_failed (mended_in did) (watched (record { moment = s.moment; calm = s.calm }) (begins s t did)) t.rest
    ∙ ap (λ (l : Line). failed_after s.moment.failed l) e

steady_by : FilesArePut → (s : Seen) (t : Step) (n stripe : ℕ) (f g h : File) → IsMoveOf s t
    → file_at s.server.server.files n ≡ Some f → file_at (server_behind s.server.server (did_at s t)).files n ≡ Some g
    → Went s t (filter_map known_note_line (notes_in (did_at s t))) n f g
    → file_at (through s t (did_at s t)).moment.server.files n ≡ Some h
    → is_short_stripe (through s t (did_at s t)).moment g stripe ≡ is_short_stripe (through s t (did_at s t)).moment h stripe
steady_by put s t n stripe f g h m e q w is =
    let at : Moment = (through s t (did_at s t)).moment in
    let lines : List Line = filter_map known_note_line (notes_in (did_at s t)) in
    let b : Behind s t (did_at s t) n f g = behind_at put s t (did_at s t) n f g e q w.map in
    let same : with_parts b.begun (told_in n f.kept.components t.rest) ≡ h = cc (sym b.is ∙ is) in
    let failed : (d : ℕ) → w.out ≡ Some d → among d at.failed ≡ true =
    λ d x. ap (λ (ds : List ℕ). among d ds) (failed_then s t (did_at s t) d (w.declared d x))
    ∙ m.declared d (w.declared d x) in
    let outs : Paired (LostAlike at) (told_in n f.kept.components lines)
    (told_in n (without_drive w.out f.kept.components) lines) =
    told_alike at n f.kept.components (without_drive w.out f.kept.components) lines
    (same_out at w.out f.kept.components failed) in
    let all : Paired (LostAlike at) (told_in n f.kept.components lines) g.kept.components =
    paired_then (LostAlike at) (λ x y z p r. p ∙ r) (told_in n f.kept.components lines)
    (told_in n (without_drive w.out f.kept.components) lines) g.kept.components outs
    (paired_more StandAlike (LostAlike at) (lost_by_standing at)
    (told_in n (without_drive w.out f.kept.components) lines) g.kept.components w.alike) in
    short_alike at (with_parts b.begun (told_in n f.kept.components t.rest)) g stripe (sym b.map)
    (subst (λ (cs : List Component). Paired (LostAlike at) cs g.kept.components) (told_rest s t n f.kept.components m) all)
    ∙ ap (λ (x : File). is_short_stripe at x stripe) same

-- ---- the facts of a step

maps_by : (s : Seen) (t : Step) (lines : List Line) (n : ℕ) (behind : List File) (f : File) (p : Option File)
    → WentTo s t lines n behind (Some f) p → (g : File) × (p ≡ Some g) × (g.kept.map ≡ f.kept.map)
maps_by s t lines n behind f None w = absurd w
maps_by s t lines n behind f (Some g) w = (g, refl, w.map)

steady_at : FilesArePut → (s : Seen) (t : Step) (n stripe : ℕ) (o p : Option File) (h g : File) → IsMoveOf s t
    → file_at s.server.server.files n ≡ o → file_at (server_behind s.server.server (did_at s t)).files n ≡ p
    → WentTo s t (filter_map known_note_line (notes_in (did_at s t))) n (server_behind s.server.server (did_at s t)).files o p
    → is_there s.server.server.files n ≡ true → p ≡ Some g
    → file_at (through s t (did_at s t)).moment.server.files n ≡ Some h
    → is_short_stripe (through s t (did_at s t)).moment g stripe ≡ is_short_stripe (through s t (did_at s t)).moment h stripe
steady_at put s t n stripe None p h g m e q w is x y = absurd (cc (rw e at is))
steady_at put s t n stripe (Some f) None h g m e q w is x y = absurd w
steady_at put s t n stripe (Some f) (Some k) h g m e q w is x y =
    let same : k ≡ g = cc x in
    subst (λ (z : File). is_short_stripe (through s t (did_at s t)).moment z stripe
    ≡ is_short_stripe (through s t (did_at s t)).moment h stripe) same (steady_by put s t n stripe f k h m e q w y)

went_at : (s : Seen) (t : Step) (n : ℕ) → IsMoveOf s t → IsSound s.server.server → IsNamed t.head
    → WentTo s t (filter_map known_note_line (notes_in (did_at s t))) n (server_behind s.server.server (did_at s t)).files
    (file_at s.server.server.files n) (file_at (server_behind s.server.server (did_at s t)).files n)
went_at s t n m h named = went_by s t (input_at s.server t.head) n m h named refl

pub shows_files : FilesArePut → (s : Seen) (t : Step) → s.moment.server ≡ s.server.server → IsSound s.server.server
    → IsNamed t.head → IsMoveOf s t → ShowsFiles s t (did_at s t)
shows_files put s t same h named m = record {
  maps = λ n f e.
      maps_by s t (filter_map known_note_line (notes_in (did_at s t))) n
      (server_behind s.server.server (did_at s t)).files f
      (file_at (server_behind s.server.server (did_at s t)).files n)
      (subst (λ (o : Option File). WentTo s t (filter_map known_note_line (notes_in (did_at s t))) n
      (server_behind s.server.server (did_at s t)).files o (file_at (server_behind s.server.server (did_at s t)).files n))
      (rw same at e) (went_at s t n m h named));
  distinct = rw same h.distinct;
  components = rw same h.components;
  shown = λ n e.
      let after : List File = (server_behind s.server.server (did_at s t)).files in
      subst (λ (x : Server). seen_in (file_at after n) ≡ seen_then x.files (through s t (did_at s t)).moment.server.files n)
      (sym same)
      (shown_by put s t n (file_at s.server.server.files n) (file_at after n) m refl refl (went_at s t n m h named)
      (subst (λ (x : Server). list_any (shows_file (is_there x.files n) after n) (t.head ∷ t.rest) ≡ false) same e));
  steady = λ n stripe f g is e q.
      steady_at put s t n stripe (file_at s.server.server.files n)
      (file_at (server_behind s.server.server (did_at s t)).files n) f g m refl refl (went_at s t n m h named)
      (rw same at is) q e;
}

-- ---- the server that is read off a history

pub moves_show_files : FilesArePut → MovesShowFiles
moves_show_files put h t n named m =
    let r : Reads (seen h) = seen_reads h n in shows_files put (seen h) t r.0 r.1 named m
