-- The line of an event that a further step follows changes nothing.
use Rattle.std.proofs.Common.{◌≡◌, ℕ, ◌&&◌, ◌++◌, [], List, Bool, true, false, not, true≢false, refl, sym, ap, subst, ◌∙◌}
use Rattle.std.proofs.lemmas.List.{append-nil}
use Rattle.scenario_text.specs.declared.event.Event.TheVariants as event
use Rattle.server_rules.specs.Files.{file_at}
use Rattle.world_history.specs.ServerNames.{Server}
use Rattle.world_history.specs.Stripes.{Mark, Moment, is_calm}
use Rattle.world_history.specs.Book.{ServerSeen}
use Rattle.world_history.specs.Calm.{Seen}
use Rattle.world_calm.specs.Marking.{any_harmed}
use Rattle.world_calm.specs.Seeing.{CalmState, KeptOf}
use Rattle.calm_law.specs.Words.{kept_in, IsKeptOf}
use Rattle.calm_law.specs.Files.{KeepsFiles}
use Rattle.calm_law.specs.Marks.{KeepsMarks}
use Rattle.calm_law.specs.Harms.{KeepsMoment}
use Rattle.calm_law.specs.Following.{Follows, FollowsEvents}
use Rattle.calm_law.proofs.Harming.{calm_alike}

-- the same moment, in which the server stands as it is
abbrev again : Seen → Moment
again s = record {
  server = s.server.server;
  failed = s.moment.failed;
  stopped = s.moment.stopped;
  log = s.moment.log;
  marks = s.moment.marks ++ [];
}

-- what the server of the moment keeps
kept_then : Seen → KeptOf
kept_then s n = kept_in (file_at s.moment.server.files n)

again_keeps : (s : Seen) (c : CalmState) → Follows s c
    → KeepsMoment s.server.server.files (kept_then s) (again s) c
unfolding kept_then
again_keeps s c h = record {
  files = subst (λ (v : Server). KeepsFiles v.files v.files s.moment.failed c.files) h.server h.files;
  maps = λ n f e. (f, e, refl);
  grants = λ n f i e. (f.kept, ap kept_in (ap (λ (v : Server). file_at v.files n) h.server ∙ e), refl);
  stopped = h.stopped;
  log = h.log;
  marks = subst (λ (ks : List Mark). KeepsMarks s.server.server.files c.log.entries ks c.marks) (sym (append-nil s.moment.marks))
      (subst (λ (v : Server). KeepsMarks v.files c.log.entries s.moment.marks c.marks) h.server h.marks);
  left = h.left (kept_then s) (λ n. refl);
}

-- so it is calm where all was
still_calm : (a b h m : Bool) → a ≡ b → (a ≡ true → h ≡ false) → m ≡ not h → a ≡ (b && m)
still_calm true true h m e q k = sym (k ∙ ap (λ (x : Bool). not x) (q refl))
still_calm true false h m e q k = absurd (true≢false e)
still_calm false true h m e q k = absurd (true≢false (sym e))
still_calm false false h m e q k = refl

stays : (s : Seen) (c : CalmState) (sv : ServerSeen) (injected : List ℕ) → sv.server ≡ s.server.server → Follows s c
    → Follows (record { server = sv; injected = injected; moment = again s; calm = s.calm && is_calm (again s) }) c
stays s c sv injected e h =
    let k : KeepsMoment s.server.server.files (kept_then s) (again s) c = again_keeps s c h in
    record {
      server = sym e;
      files = k.files;
      stopped = h.stopped;
      log = h.log;
      marks = k.marks;
      left = λ kept q. h.left kept (subst (λ (v : Server). IsKeptOf v.files kept) (sym h.server) q);
      calm = still_calm c.calm s.calm (any_harmed c.files c.marks) (is_calm (again s)) h.calm h.quiet
          (calm_alike s.server.server.files (kept_then s) (again s) c k);
      quiet = h.quiet;
    }

pub follows_events : FollowsEvents
follows_events s c (event.Deliver number) o h = stays s c s.server s.injected refl h
follows_events s c (event.Timeout k component) o h = stays s c s.server s.injected refl h
follows_events s c (event.Inject d bytes) o h = stays s c s.server bytes refl h
follows_events s c e o h = absurd (true≢false (sym o))
