-- Bodies that were appended, as records behind gates.
use Rattle.std.proofs.Common.{◌≡◌, ℕ, List, [], ◌∷◌, ◌++◌, map, refl, ap, arith}
use Rattle.gate_log.specs.declared.entry.TheConstants.{OPEN_GATE}
use Rattle.gate_log.specs.declared.form.Form.TheVariants.{Checked}
use Rattle.gate_log.specs.Forms.{record_of}
use Rattle.gate_log.specs.Logs.{Gated, records_of, AreRecords, bodies_of}
use Rattle.gate_log.specs.Written.{appended, AreBodies}

abbrev pub gated : List ℕ → Gated
gated body = record { gate = OPEN_GATE; form = Checked; body = body }

abbrev pub all_gated : List (List ℕ) → List Gated
all_gated bodies = map gated bodies

pub bytes_gated : (bodies : List (List ℕ)) → records_of (all_gated bodies) ≡ appended bodies
bytes_gated [] = refl
bytes_gated (body ∷ bodies) = ap (λ (l : List ℕ). OPEN_GATE ∷ (record_of Checked body ++ l)) (bytes_gated bodies)

pub are_gated : (bodies : List (List ℕ)) → AreBodies bodies → AreRecords (all_gated bodies)
are_gated [] are = tt
are_gated (body ∷ bodies) are = (record { open_gate = omega arith; is_body = are.0 }, are_gated bodies are.1)

pub bodies_gated : (bodies : List (List ℕ)) → bodies_of (all_gated bodies) ≡ bodies
bodies_gated [] = refl
bodies_gated (body ∷ bodies) = ap (λ (l : List (List ℕ)). body ∷ l) (bodies_gated bodies)
