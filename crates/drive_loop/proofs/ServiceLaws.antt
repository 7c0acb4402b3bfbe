-- Why serving stopped, and what was told till then.
use Rattle.std.proofs.Common.{◌≡◌, ℕ, List, [], Option, None, Err, ap, inl, inr, refl, subst, sym, ◌∙◌}
use Rattle.std.proofs.lemmas.List.{append-nil}
use Rattle.std.specs.Io.KnownBytes.{Appends}
use Rattle.osd_bytes.specs.Causes.{Rose}
use Rattle.cluster_text.specs.Lines.{listening_line}
use Rattle.drive_command.specs.Records.{Handled, after_all}
use Rattle.drive_command.specs.GoesOn.{WentOn}
use Rattle.drive_command.specs.StoredStops.{stop_of_serving}
use Rattle.drive_command.specs.declared.device_server.DeviceServer.{Ghosts}
use Rattle.drive_command.specs.declared.serve_err.DriveServeErr.{DriveServeErr}
use Rattle.drive_command.specs.declared.serve_err.DriveServeErr.TheVariants.{LinkFault, DiskFault, Memory}
use Rattle.drive_command.specs.declared.stored_stop.StoredStop.{StoredStop}
use Rattle.drive_loop.specs.Service.{CutsBy, Ends, ServesBy, StopsKept, StopsServer, seen_in}
use Rattle.drive_loop.specs.Serving.{CutsMany, EndsMany, IsCutOff, IsServed, ServesMany, records_in}
use Rattle.port_loop.specs.Steps.{Step}

module _ {H : Type 0} (s : Ghosts H) (old new : H) (a b : Ends) where
  -- all that came was served, from before any refusal was told
  pub served-by : (first last : Option ℕ) → first ≡ None → (steps : List Step)
      → ServesMany s old new (seen_in a first) (seen_in b last) steps → ServesBy (s.drive old) (s.drive new) a b steps
  served-by first last untold steps x = (
    x.1.carries.state ∙ ap (λ (hs : List Handled). after_all (s.drive old) hs) (append-nil (records_in steps)),
    last,
    subst (λ (l : Option ℕ). IsServed (s.drive old) (seen_in a l) (seen_in b last) steps) untold x.0,
  )

  cut-by : (first last : Option ℕ) → first ≡ None → (steps : List Step)
      → CutsMany s old new (seen_in a first) (seen_in b last) steps → CutsBy (s.drive old) (s.drive new) a b steps
  cut-by first last untold steps x = (
    x.carries.state ∙ ap (λ (hs : List Handled). after_all (s.drive old) hs) (sym x.records.are),
    last,
    subst (λ (l : Option ℕ). IsCutOff (s.drive old) (seen_in a l) (seen_in b last) steps) untold x.cuts,
  )

  module _ (n : ℕ) (taken_before taken : Option (List ℕ)) (failed_before failed : ℕ) where
    -- it stopped with each record handled to its end
    pub stopped-after : (steps : List Step) (stop : StoredStop) → WentOn s (records_in steps) old new
        → StopsKept n (s.drive old) (s.drive new) a b taken_before taken failed_before failed (s.faults old) (s.faults new) steps
        stop
        → StopsServer s n old new a b taken_before taken failed_before failed stop
    stopped-after steps stop w why = record {
      steps = steps;
      handled = records_in steps;
      cut_off = [];
      records = record { are = sym (append-nil (records_in steps)); unput = inl refl };
      carries = w.carries;
      why = why;
    }

    stopped-cut : (first last : Option ℕ) (steps : List Step) (stop : StoredStop)
        → CutsMany s old new (seen_in a first) (seen_in b last) steps
        → StopsKept n (s.drive old) (s.drive new) a b taken_before taken failed_before failed (s.faults old) (s.faults new) steps
        stop
        → StopsServer s n old new a b taken_before taken failed_before failed stop
    stopped-cut first last steps stop x why = record {
      steps = steps;
      handled = x.handled;
      cut_off = x.cut_off;
      records = x.records;
      carries = x.carries;
      why = why;
    }

    -- the loop stopped once the first line had gone out
    pub stopped-serving : (first last : Option ℕ) (e : DriveServeErr) → first ≡ None
        → Appends taken_before taken listening_line
        → EndsMany s n old new (seen_in a first) (seen_in b last) (Err e)
        → (e ≡ LinkFault → Rose a.faults b.faults) → (e ≡ DiskFault → Rose (s.faults old) (s.faults new))
        → StopsServer s n old new a b taken_before taken failed_before failed (stop_of_serving e)
    stopped-serving first last LinkFault untold told ends link disk =
        stopped-after ends.0 (stop_of_serving LinkFault) ends.1.1
        (record { told = told; served = served-by first last untold ends.0 ends.1; rose = link refl })
    stopped-serving first last DiskFault untold told ends link disk =
        stopped-cut first last ends.0 (stop_of_serving DiskFault) ends.1
        (inr (told, cut-by first last untold ends.0 ends.1), disk refl)
    stopped-serving first last Memory untold told ends link disk =
        stopped-cut first last ends.0 (stop_of_serving Memory) ends.1 (inr (told, cut-by first last untold ends.0 ends.1))
