-- What a step of the lines shows of the files.
use Rattle.std.proofs.Common.{◌≡◌, ℕ, ◌==◌, ◌&&◌, ◌||◌, ◌∷◌, [], List, Bool, true, false, Option, Some, None, find, is_some, if◌then◌else◌, filter, slice_get, refl, sym, ap, subst, ◌∙◌, inl, inr, eq-eqb}
use Rattle.std.specs.List.{list_any}
use Rattle.std.proofs.lemmas.Bool.{cases_Bool, or_parts}
use Rattle.scenario_text.specs.declared.event.Event.{Event}
use Rattle.scenario_text.specs.declared.event.Event.TheVariants as event
use Rattle.scenario_text.specs.declared.event.Machine.TheVariants as machine
use Rattle.scenario_text.specs.declared.line.Delivery.TheVariants as delivery
use Rattle.scenario_text.specs.declared.line.Note.TheVariants as note
use Rattle.scenario_text.specs.declared.line.Party.{Party}
use Rattle.scenario_text.specs.declared.line.Party.TheVariants as party
use Rattle.scenario_text.specs.declared.line.Line.{Line}
use Rattle.scenario_text.specs.declared.line.Line.TheVariants as line
use Rattle.server_rules.specs.Messages.{Message, counters_have_room}
use Rattle.server_rules.specs.Envelopes.{message_in}
use Rattle.server_rules.specs.History.{Input, Hears, Makes, Obeys, Adds, Zones, Formats, Crashes, Opens}
use Rattle.world_history.specs.declared.messages.Sent.{Sent}
use Rattle.world_history.specs.ServerNames.{Server, Drive, File, Component, RawMap, ToRecall, ToRevoke, ToDeclare, ToRebuild, ToAudit}
use Rattle.world_history.specs.Spelled.{node_of}
use Rattle.world_history.specs.Moves.{has_algorithm, raw_of, known_drive}
use Rattle.world_history.specs.Book.{ServerSeen, heard, heard_for, heard_from, made_of, input_of, input_at}
use Rattle.component_law.specs.Words.{is_there}
use Rattle.component_law.specs.ShownFiles.{shows_file}
use Rattle.component_law.specs.Components.{told_by, told_in, tells_component, tells_rebuilt}
use Rattle.component_law.specs.Naming.{IsNamed, IsNamedInput}
use Rattle.component_law.specs.Going.{declared_in, if_known, taken_out, IsMaking}

-- ---- what comes to the server at a line

-- a message that was sent to it
heard_one : (now : ℕ) (m : Sent) (o : Option Message) (i : Input) → heard_from now m.from o ≡ Some i
    → (x : Message) × (i ≡ Hears now (node_of m.from) x)
heard_one now m None i e = absurd (cc e)
heard_one now m (Some x) i e = let s : Hears now (node_of m.from) x ≡ i = cc e in (x, sym s)

heard_by : (now : ℕ) (m : Sent) (p : Party) (i : Input) → heard_for now m p ≡ Some i
    → (p ≡ party.Server) × (x : Message) × (i ≡ Hears now (node_of m.from) x)
heard_by now m party.Server i e =
    let h : (x : Message) × (i ≡ Hears now (node_of m.from) x) =
    heard_one now m (message_in (node_of m.from) m.bytes) i e in
    (refl, h.0, h.1)
heard_by now m (party.Drive d) i e = absurd (cc e)
heard_by now m (party.Client c) i e = absurd (cc e)

heard_as : (now : ℕ) (o : Option Sent) (i : Input) → heard now o ≡ Some i
    → (m : Sent) × (o ≡ Some m) × (m.to ≡ party.Server) × (x : Message) × (i ≡ Hears now (node_of m.from) x)
heard_as now None i e = absurd (cc e)
heard_as now (Some m) i e =
    let h : (m.to ≡ party.Server) × (x : Message) × (i ≡ Hears now (node_of m.from) x) = heard_by now m m.to i e in
    (m, refl, h.0, h.1, h.2)

-- a file that is to be made
made_as : (f : ℕ) (m : RawMap) (tag : ℕ) (zoned : Bool) (i : Input) → made_of f m tag zoned ≡ Some i
    → i ≡ Makes f m tag zoned
made_as f m tag zoned i e = elim (cases_Bool (has_algorithm m)) [
  | inl t ↦ let s : Makes f m tag zoned ≡ i = cc (rw t at e) in sym s
  | inr z ↦ absurd (cc (rw z at e))
]

-- ---- lines can name what comes

named_event : (v : Event) (i : Input) → input_of v ≡ Some i → IsNamed (line.Event v) → IsNamedInput i
named_event (event.Drive d key capacity) i e h = let s : Adds (known_drive d key capacity) ≡ i = cc e in subst IsNamedInput s h
named_event (event.Disk d key capacity) i e h = let s : Adds (known_drive d key capacity) ≡ i = cc e in subst IsNamedInput s h
named_event (event.File f m tag) i e h =
    subst IsNamedInput (sym (made_as f (raw_of m) tag false i e)) h
named_event (event.ZonedFile f m tag) i e h =
    subst IsNamedInput (sym (made_as f (raw_of m) tag true i e)) h
named_event (event.Format format) i e h = let s : Formats format ≡ i = cc e in subst IsNamedInput s tt
named_event (event.Zone d zone) i e h = let s : Zones d zone ≡ i = cc e in subst IsNamedInput s tt
named_event (event.Recall f) i e h = let s : Obeys ToRecall f ≡ i = cc e in subst IsNamedInput s tt
named_event (event.Revoke f) i e h = let s : Obeys ToRevoke f ≡ i = cc e in subst IsNamedInput s tt
named_event (event.Rebuild f) i e h = let s : Obeys ToRebuild f ≡ i = cc e in subst IsNamedInput s tt
named_event (event.Audit f) i e h = let s : Obeys ToAudit f ≡ i = cc e in subst IsNamedInput s tt
named_event (event.Declare d) i e h = let s : Obeys ToDeclare d ≡ i = cc e in subst IsNamedInput s tt
named_event (event.Crash (machine.Drive d)) i e h = absurd (cc e)
named_event (event.Crash machine.Server) i e h = let s : Crashes ≡ i = cc e in subst IsNamedInput s tt
named_event (event.Reopen (machine.Drive d)) i e h = absurd (cc e)
named_event (event.Reopen machine.Server) i e h = let s : Opens ≡ i = cc e in subst IsNamedInput s tt
named_event v i e h = absurd (cc e)

pub named_input : (s : ServerSeen) (l : Line) (i : Input) → input_at s l ≡ Some i → IsNamed l → IsNamedInput i
named_input s (line.Event v) i e h = named_event v i e h
named_input s (line.Delivered number delivery.Deaf) i e h = absurd (cc e)
named_input s (line.Delivered number d) i e h =
    let a : (m : Sent) × (slice_get s.sent number ≡ Some m) × (m.to ≡ party.Server) × (x : Message)
    × (i ≡ Hears s.clock (node_of m.from) x) =
    heard_as s.clock (slice_get s.sent number) i e in
    subst IsNamedInput (sym a.4) tt
named_input s l i e h = absurd (cc e)

-- ---- a drive that is declared

-- what is taken out is declared
known_declared : (s : Server) (o : Option ℕ) (d : ℕ) → if_known s o ≡ Some d → o ≡ Some d
known_declared s None d e = absurd (cc e)
known_declared s (Some n) d e = by_known (is_some (find (λ (x : Drive). x.number == n) s.drives)) e
  where
    by_known : (b : Bool) → (if b then Some n else None) ≡ Some d → Some n ≡ Some d
    by_known true q = q
    by_known false q = absurd (cc q)

pub taken_declared : (s : Server) (i : Input) (d : ℕ) → taken_out s i ≡ Some d → declared_in i ≡ Some d
taken_declared s (Hears now from m) d e = by_room (counters_have_room s) e
  where
    by_room : (b : Bool) → (if b then if_known s (declared_in (Hears now from m)) else None) ≡ Some d
        → declared_in (Hears now from m) ≡ Some d
    by_room true q = known_declared s (declared_in (Hears now from m)) d q
    by_room false q = absurd (cc q)
taken_declared s i d e = known_declared s (declared_in i) d e

-- only the server's own order declares
hears_declared : (now : ℕ) (p : Party) (x : Message) (d : ℕ) → declared_in (Hears now (node_of p) x) ≡ Some d
    → p ≡ party.Server
hears_declared now party.Server x d e = refl
hears_declared now (party.Drive k) x d e = absurd (cc e)
hears_declared now (party.Client c) x d e = absurd (cc e)

event_declares : (v : Event) (i : Input) (d : ℕ) → input_of v ≡ Some i → declared_in i ≡ Some d
    → v ≡ event.Declare d
event_declares (event.Declare k) i d e q =
    let s : Obeys ToDeclare k ≡ i = cc e in
    let t : k ≡ d = cc (ap declared_in s ∙ q) in
    ap (λ (x : ℕ). event.Declare x) t
event_declares (event.Drive k key capacity) i d e q =
    let s : Adds (known_drive k key capacity) ≡ i = cc e in absurd (cc (ap declared_in s ∙ q))
event_declares (event.Disk k key capacity) i d e q =
    let s : Adds (known_drive k key capacity) ≡ i = cc e in absurd (cc (ap declared_in s ∙ q))
event_declares (event.File f m tag) i d e q = absurd (cc (ap declared_in (sym (made_as f (raw_of m) tag false i e)) ∙ q))
event_declares (event.ZonedFile f m tag) i d e q = absurd (cc (ap declared_in (sym (made_as f (raw_of m) tag true i e)) ∙ q))
event_declares (event.Format format) i d e q = let s : Formats format ≡ i = cc e in absurd (cc (ap declared_in s ∙ q))
event_declares (event.Zone k zone) i d e q = let s : Zones k zone ≡ i = cc e in absurd (cc (ap declared_in s ∙ q))
event_declares (event.Recall f) i d e q = let s : Obeys ToRecall f ≡ i = cc e in absurd (cc (ap declared_in s ∙ q))
event_declares (event.Revoke f) i d e q = let s : Obeys ToRevoke f ≡ i = cc e in absurd (cc (ap declared_in s ∙ q))
event_declares (event.Rebuild f) i d e q = let s : Obeys ToRebuild f ≡ i = cc e in absurd (cc (ap declared_in s ∙ q))
event_declares (event.Audit f) i d e q = let s : Obeys ToAudit f ≡ i = cc e in absurd (cc (ap declared_in s ∙ q))
event_declares (event.Crash (machine.Drive k)) i d e q = absurd (cc e)
event_declares (event.Crash machine.Server) i d e q = let s : Crashes ≡ i = cc e in absurd (cc (ap declared_in s ∙ q))
event_declares (event.Reopen (machine.Drive k)) i d e q = absurd (cc e)
event_declares (event.Reopen machine.Server) i d e q = let s : Opens ≡ i = cc e in absurd (cc (ap declared_in s ∙ q))
event_declares v i d e q = absurd (cc e)

pub declares_at : (s : ServerSeen) (l : Line) (i : Input) (d : ℕ)
    → ((number : ℕ) (m : Sent) → slice_get s.sent number ≡ Some m → m.from ≡ party.Server → m.to ≡ party.Server → ⊥)
    → input_at s l ≡ Some i → declared_in i ≡ Some d → l ≡ line.Event (event.Declare d)
declares_at s (line.Event v) i d none e q = ap (λ (x : Event). line.Event x) (event_declares v i d e q)
declares_at s (line.Delivered number delivery.Deaf) i d none e q = absurd (cc e)
declares_at s (line.Delivered number w) i d none e q =
    let a : (m : Sent) × (slice_get s.sent number ≡ Some m) × (m.to ≡ party.Server) × (x : Message)
    × (i ≡ Hears s.clock (node_of m.from) x) =
    heard_as s.clock (slice_get s.sent number) i e in
    absurd (none number a.0 a.1 (hears_declared s.clock a.0.from a.3 d (ap declared_in (sym a.4) ∙ q)) a.2)
declares_at s l i d none e q = absurd (cc e)

-- ---- a file that is made is shown

making_event : (v : Event) (i : Input) (n : ℕ) (known : Bool) (behind : List File) → input_of v ≡ Some i → IsMaking i n
    → is_there behind n ≡ true → shows_file known behind n (line.Event v) ≡ true
making_event (event.File f m tag) i n known behind e k t =
    let s : f ≡ n = subst (λ (x : Input). IsMaking x n) (made_as f (raw_of m) tag false i e) k in
    rw (eq-eqb f n s, t) refl
making_event (event.ZonedFile f m tag) i n known behind e k t =
    let s : f ≡ n = subst (λ (x : Input). IsMaking x n) (made_as f (raw_of m) tag true i e) k in
    rw (eq-eqb f n s, t) refl
making_event (event.Drive d key capacity) i n known behind e k t =
    let s : i ≡ Adds (known_drive d key capacity) = cc (sym e) in absurd (subst (λ (x : Input). IsMaking x n) s k)
making_event (event.Disk d key capacity) i n known behind e k t =
    let s : i ≡ Adds (known_drive d key capacity) = cc (sym e) in absurd (subst (λ (x : Input). IsMaking x n) s k)
making_event (event.Format format) i n known behind e k t =
    let s : i ≡ Formats format = cc (sym e) in absurd (subst (λ (x : Input). IsMaking x n) s k)
making_event (event.Zone d zone) i n known behind e k t =
    let s : i ≡ Zones d zone = cc (sym e) in absurd (subst (λ (x : Input). IsMaking x n) s k)
making_event (event.Recall f) i n known behind e k t =
    let s : i ≡ Obeys ToRecall f = cc (sym e) in absurd (subst (λ (x : Input). IsMaking x n) s k)
making_event (event.Revoke f) i n known behind e k t =
    let s : i ≡ Obeys ToRevoke f = cc (sym e) in absurd (subst (λ (x : Input). IsMaking x n) s k)
making_event (event.Rebuild f) i n known behind e k t =
    let s : i ≡ Obeys ToRebuild f = cc (sym e) in absurd (subst (λ (x : Input). IsMaking x n) s k)
making_event (event.Audit f) i n known behind e k t =
    let s : i ≡ Obeys ToAudit f = cc (sym e) in absurd (subst (λ (x : Input). IsMaking x n) s k)
making_event (event.Declare d) i n known behind e k t =
    let s : i ≡ Obeys ToDeclare d = cc (sym e) in absurd (subst (λ (x : Input). IsMaking x n) s k)
making_event (event.Crash (machine.Drive d)) i n known behind e k t = absurd (cc e)
making_event (event.Crash machine.Server) i n known behind e k t =
    let s : i ≡ Crashes = cc (sym e) in absurd (subst (λ (x : Input). IsMaking x n) s k)
making_event (event.Reopen (machine.Drive d)) i n known behind e k t = absurd (cc e)
making_event (event.Reopen machine.Server) i n known behind e k t =
    let s : i ≡ Opens = cc (sym e) in absurd (subst (λ (x : Input). IsMaking x n) s k)
making_event v i n known behind e k t = absurd (cc e)

pub making_at : (s : ServerSeen) (l : Line) (i : Input) (n : ℕ) (known : Bool) (behind : List File)
    → input_at s l ≡ Some i → IsMaking i n → is_there behind n ≡ true → shows_file known behind n l ≡ true
making_at s (line.Event v) i n known behind e k t = making_event v i n known behind e k t
making_at s (line.Delivered number delivery.Deaf) i n known behind e k t = absurd (cc e)
making_at s (line.Delivered number w) i n known behind e k t =
    let a : (m : Sent) × (slice_get s.sent number ≡ Some m) × (m.to ≡ party.Server) × (x : Message)
    × (i ≡ Hears s.clock (node_of m.from) x) =
    heard_as s.clock (slice_get s.sent number) i e in
    absurd (subst (λ (x : Input). IsMaking x n) a.4 k)
making_at s l i n known behind e k t = absurd (cc e)

-- ---- lines that tell of components

told_one : (n : ℕ) (cs : List Component) (l : Line) → tells_component l ≡ false → told_by n cs l ≡ cs
told_one n cs (line.Note f (note.NoSpace k)) e = absurd (cc e)
told_one n cs (line.Note f (note.Reported k)) e = absurd (cc e)
told_one n cs (line.Note f (note.Rebuilt k d)) e = absurd (cc e)
told_one n cs (line.Note f what) e = elim (cases_Bool (f == n)) [ inl t ↦ rw t refl | inr z ↦ rw z refl ]
told_one n cs l e = refl

told_filter : (n : ℕ) (cs : List Component) (ls : List Line) → told_in n cs ls ≡ told_in n cs (filter tells_component ls)
told_filter n cs [] = refl
told_filter n cs (l ∷ ls) = elim (cases_Bool (tells_component l)) [
  | inl t ↦ rw t (told_filter n (told_by n cs l) ls)
  | inr z ↦ rw z (ap (λ (x : List Component). told_in n x ls) (told_one n cs l z) ∙ told_filter n cs ls)
]

-- lines that tell the same of components
pub told_same : (n : ℕ) (cs : List Component) (ls ms : List Line)
    → filter tells_component ls ≡ filter tells_component ms → told_in n cs ls ≡ told_in n cs ms
told_same n cs ls ms e =
    told_filter n cs ls ∙ ap (λ (x : List Line). told_in n cs x) e ∙ sym (told_filter n cs ms)

rebuilt_one : (n : ℕ) (l : Line) → tells_component l ≡ false → tells_rebuilt n l ≡ false
rebuilt_one n (line.Note f (note.Rebuilt k d)) e = absurd (cc e)
rebuilt_one n l e = refl

rebuilt_filter : (n : ℕ) (ls : List Line) → list_any (tells_rebuilt n) ls ≡ list_any (tells_rebuilt n) (filter tells_component ls)
rebuilt_filter n [] = refl
rebuilt_filter n (l ∷ ls) = elim (cases_Bool (tells_component l)) [
  | inl t ↦ rw t (ap (λ (b : Bool). tells_rebuilt n l || b) (rebuilt_filter n ls))
  | inr z ↦ rw (z, rebuilt_one n l z) (rebuilt_filter n ls)
]

pub rebuilt_same : (n : ℕ) (ls ms : List Line) → filter tells_component ls ≡ filter tells_component ms
    → list_any (tells_rebuilt n) ls ≡ list_any (tells_rebuilt n) ms
rebuilt_same n ls ms e =
    rebuilt_filter n ls ∙ ap (λ (x : List Line). list_any (tells_rebuilt n) x) e ∙ sym (rebuilt_filter n ms)

-- where the lines don't show a file that is there, none of its components was rebuilt
hidden_one : (known : Bool) (behind : List File) (n : ℕ) (l : Line) → is_there behind n ≡ true
    → shows_file known behind n l ≡ false → tells_rebuilt n l ≡ false
hidden_one known behind n (line.Note f (note.Rebuilt k d)) t e = and_true (f == n) (is_there behind n) t e
  where
    and_true : (a b : Bool) → b ≡ true → (a && b) ≡ false → a ≡ false
    and_true true b q r = absurd (cc (sym q ∙ r))
    and_true false b q r = refl
hidden_one known behind n l t e = refl

pub hidden : (known : Bool) (behind : List File) (n : ℕ) (ls : List Line) → is_there behind n ≡ true
    → list_any (shows_file known behind n) ls ≡ false → list_any (tells_rebuilt n) ls ≡ false
hidden known behind n [] t e = refl
hidden known behind n (l ∷ ls) t e =
    let p : (shows_file known behind n l ≡ false) × (list_any (shows_file known behind n) ls ≡ false) = or_parts _ _ e in
    rw (hidden_one known behind n l t p.0) (hidden known behind n ls t p.1)
