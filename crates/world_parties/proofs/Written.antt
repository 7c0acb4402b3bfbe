-- What a look-up found, written back as it was, changes nothing; a drive that is another then changes the drives so.
use Rattle.std.proofs.Common.{◌≡◌, ℕ, List, Result, Ok, Err, inl, inr, ap}
use Rattle.std.specs.Prelude.{Some, OnErr}
use Rattle.std.specs.Ordering.{nat_cmp}
use Rattle.std.specs.BTreeMap.{is_at}
use Rattle.std.specs.Map.{lookup, set_value}
use Rattle.std.proofs.lemmas.Map.Steps.{set_value_same}
use Rattle.osd_commands.specs.declared.commands.Command.{Command}
use Rattle.osd_commands.specs.declared.commands.CommandErr.{CommandErr}
use Rattle.world_history.specs.State.{DriveAt, at_number, with_number}
use Rattle.world_history.specs.Drives.{judges}
use Rattle.world_parties.specs.Drive.{LeavesEither}
use Rattle.world_parties.specs.Drives.{StaysOrDoes, Table, changed, injected}

-- what holds holds where an error is answered
pub on_err : {T E : Type 0} (r : Result T E) (A : Type 0) → A → OnErr r A
on_err (Ok x) A h = tt
on_err (Err e) A h = h

pub written_back : {X : Type 0} (es : List (ℕ × X)) (n : ℕ) (v w : X) → lookup (is_at (nat_cmp n)) es ≡ Some v → w ≡ v
    → set_value (is_at (nat_cmp n)) es w ≡ es
written_back es n v w f e = rw e (set_value_same (is_at (nat_cmp n)) es v f)

pub injected_or : (t : Table) (d : ℕ) (r : Result Command CommandErr) (v w : DriveAt) → at_number t d ≡ Some v
    → LeavesEither v w (judges v r).drive → StaysOrDoes (injected t d r).drives t (with_number t d w)
injected_or t d r v w f (inl same) = inl (written_back t d v w f same)
injected_or t d r v w f (inr done) = inr (rw f (ap (λ (a : DriveAt). with_number t d a) done.1))

pub changed_or : (t : Table) (d : ℕ) (becomes : DriveAt → DriveAt) (v w : DriveAt) → at_number t d ≡ Some v
    → LeavesEither v w (becomes v) → StaysOrDoes (changed t d becomes) t (with_number t d w)
changed_or t d becomes v w f (inl same) = inl (written_back t d v w f same)
changed_or t d becomes v w f (inr done) = inr (rw f (ap (λ (a : DriveAt). with_number t d a) done.1))
