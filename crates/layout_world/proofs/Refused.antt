-- A file that is made or refused is so in the world.
use Rattle.std.proofs.Common.{◌≡◌, ℕ, Bool, true, false, List, [], Some, Ok, Err, refl, sym, ap, ◌∙◌}
use Rattle.data_map.specs.declared.check.RawMap.{RawMap}
use Rattle.scenario_text.specs.declared.line.Line.{Line}
use Rattle.scenario_text.specs.declared.line.Line.TheVariants as line
use Rattle.scenario_text.specs.declared.line.Note.TheVariants as note
use Rattle.scenario_text.specs.declared.line.MapFault.TheVariants as map_fault
use Rattle.server_rules.specs.declared.notes.Mended.{Mended}
use Rattle.server_rules.specs.declared.server.Server.{Server}
use Rattle.server_rules.specs.declared.server.Refusal.{Refusal}
use Rattle.server_rules.specs.Files.{Step as RulesStep}
use Rattle.server_rules.specs.Making.{create_file, refusal}
use Rattle.layout_server.specs.declared.new_files.FileErr.{FileErr}
use Rattle.server_state.specs.declared.step.Step.{Step}
use Rattle.server_state.specs.States.{Did}
use Rattle.layout_server.specs.Calls.{IsRefused, Makes as CodeMakes}
use Rattle.world_history.specs.State.{World, with_server}
use Rattle.world_history.specs.Told.{told_file_refusal}
use Rattle.world_history.specs.Moves.{makes, has_algorithm, tells}
use Rattle.world_network.specs.declared.acts.Act.{Act}
use Rattle.world_network.specs.Acts.{IsDone, line_alone}
use Rattle.layout_world.specs.ServerState.{WorldServerState}
use Rattle.layout_world.specs.ServerActing.{Acts, Makes}
use Rattle.layout_world.specs.Making.{IsRefusedAs}

-- only a line is told
line_told : (w : World) (l : Line) (new : Server) (act : Act) → w.server ≡ new → act ≡ line_alone l
    → IsDone (tells w l) (with_server w new) act
line_told w l new act e f = record {
  world = ap (λ s. with_server w s) e;
  act = record { lines = ap (λ (a : Act). a.told) f; sends = ap (λ (a : Act). a.posts) f };
}

abbrev the_state : Server → List Mended → WorldServerState
the_state s m = record { state = s; mended = m }

same_server : (a b : WorldServerState) → a.state ≡ b.state → a.mended ≡ b.mended → a ≡ b
same_server a b e f =
    ap (λ (s : Server). the_state s a.mended) e ∙ ap (λ (m : List Mended). the_state b.state m) f

-- ---- made

made_in : (w : World) (old : Server) (chosen : List ℕ) (file : ℕ) (raw : RawMap) (tag : ℕ) (zoned : Bool) (s : RulesStep)
    (new : WorldServerState) (act : Act) → has_algorithm raw ≡ true → w.server ≡ old
    → create_file old file raw tag zoned chosen ≡ Ok s → Acts s new act
    → IsDone (makes w chosen file raw tag zoned) (with_server w new.state) act
unfolding makes
made_in w old chosen file raw tag zoned s new act k e f a =
    rw (k, e, f) (record { world = ap (λ x. with_server w x) (sym a.state); act = a.act_is })

pub made : (old : WorldServerState) (chosen : List ℕ) (file : ℕ) (raw : RawMap) (tag : ℕ) (zoned : Bool) (s : RulesStep)
    (new : WorldServerState) (act : Act) → has_algorithm raw ≡ true
    → create_file old.state file raw tag zoned chosen ≡ Ok s → Acts s new act → Makes old file raw tag zoned new act
made old chosen file raw tag zoned s new act k f a = record {
  chosen = chosen;
  done = λ w e. made_in w old.state chosen file raw tag zoned s new act k e f a;
  mended = rw (k, f) a.mended;
}

-- ---- refused

no_file : (s : Server) (file : ℕ) (raw : RawMap) (tag : ℕ) (zoned : Bool) (r : Refusal) → refusal s file raw zoned ≡ Some r
    → create_file s file raw tag zoned [] ≡ Err r
unfolding create_file
no_file s file raw tag zoned r e = rw e refl

refused_in : (w : World) (old : Server) (file : ℕ) (raw : RawMap) (tag : ℕ) (zoned : Bool) (r : Refusal) (act : Act)
    → has_algorithm raw ≡ true → w.server ≡ old → create_file old file raw tag zoned [] ≡ Err r
    → act ≡ line_alone (line.Note file (told_file_refusal r))
    → IsDone (makes w [] file raw tag zoned) (with_server w old) act
unfolding makes
refused_in w old file raw tag zoned r act k e f a =
    let told = line_told (with_server w old) (line.Note file (told_file_refusal r)) old act refl a in rw (k, e, f) told

refused_as : (old : WorldServerState) (file : ℕ) (raw : RawMap) (tag : ℕ) (zoned : Bool) (r : Refusal) (new : WorldServerState)
    (act : Act) → has_algorithm raw ≡ true → create_file old.state file raw tag zoned [] ≡ Err r → new ≡ old
    → act ≡ line_alone (line.Note file (told_file_refusal r)) → Makes old file raw tag zoned new act
refused_as old file raw tag zoned r new act k f e a = record {
  chosen = [];
  done = rw e (λ w h. refused_in w old.state file raw tag zoned r act k h f a);
  mended = rw (k, f) (ap (λ (s : WorldServerState). s.mended) e);
}

pub refused : (old : WorldServerState) (file : ℕ) (raw : RawMap) (tag : ℕ) (zoned : Bool) (why : FileErr) (core : Server)
    (new : WorldServerState) (act : Act) → has_algorithm raw ≡ true → IsRefused file raw zoned old.state core why
    → IsRefusedAs file why act → new.state ≡ core → new.mended ≡ old.mended → Makes old file raw tag zoned new act
refused old file raw tag zoned why core new act k i told e m =
    let r = i told.known in
    let same : new.state ≡ old.state = e ∙ r.3 in
    refused_as old file raw tag zoned r.0 new act k (no_file old.state file raw tag zoned r.0 r.1) (same_server new old same m)
    (told.told r.0 r.2)

-- ---- a map without a parity algorithm

unknown_in : (w : World) (old : Server) (file : ℕ) (raw : RawMap) (tag : ℕ) (zoned : Bool) (act : Act) → has_algorithm raw ≡ false
    → w.server ≡ old → act ≡ line_alone (line.Note file (note.BadMap map_fault.Width))
    → IsDone (makes w [] file raw tag zoned) (with_server w old) act
unfolding makes
unknown_in w old file raw tag zoned act k e a =
    let told = line_told w (line.Note file (note.BadMap map_fault.Width)) old act e a in rw k told

pub unknown : (old : WorldServerState) (file : ℕ) (raw : RawMap) (tag : ℕ) (zoned : Bool) (new : WorldServerState) (act : Act)
    → has_algorithm raw ≡ false → new ≡ old → act ≡ line_alone (line.Note file (note.BadMap map_fault.Width))
    → Makes old file raw tag zoned new act
unknown old file raw tag zoned new act k e a = record {
  chosen = [];
  done = rw e (λ w h. unknown_in w old.state file raw tag zoned act k h a);
  mended = rw k (ap (λ (s : WorldServerState). s.mended) e);
}

-- ---- as the code has it

pub made_by : (old : WorldServerState) (core mid : Server) (n file : ℕ) (read raw : RawMap) (tag : ℕ) (zoned : Bool) (out : Step)
    (new : WorldServerState) (act : Act) → true ≡ has_algorithm raw → core ≡ old.state → n ≡ file → read ≡ raw
    → CodeMakes n read tag zoned core mid out → ((s : RulesStep) → Did out mid s → Acts s new act)
    → Makes old file raw tag zoned new act
made_by old core mid n file read raw tag zoned out new act k e f g m h =
    made old m.0 file raw tag zoned m.1 new act (sym k) (rw (← g, ← f, ← e) m.2) (h m.1 m.3)

pub refused_by : (old : WorldServerState) (core mid : Server) (n file : ℕ) (read raw : RawMap) (tag : ℕ) (zoned : Bool)
    (why : FileErr)
    (new : WorldServerState) (act : Act) → true ≡ has_algorithm raw → core ≡ old.state → n ≡ file → read ≡ raw
    → IsRefused n read zoned core mid why → IsRefusedAs file why act → new.state ≡ mid → new.mended ≡ old.mended
    → Makes old file raw tag zoned new act
refused_by old core mid n file read raw tag zoned why new act k e f g i told s m =
    refused old file raw tag zoned why mid new act (sym k) (rw (← g, ← f, ← e) i) told s m
