-- The CREATEs of the scenario's file: each is read as it was sent, a new drive performs it, and its reply is read as it was sent.
use Rattle.std.specs.Cmp.Lexicographic.{pointwise}
use Rattle.std.proofs.Common.{◌≡◌, ◌<◌, ◌+◌, ◌^◌, not, nat_eq, ℕ, zero, suc, Bool, false, List, [], ◌∷◌, ◌++◌, length, replicate, None, Ok, refl, ap, ◌∙◌, arith}
use Rattle.std.proofs.lemmas.Bool.{eq-eqb}
use Rattle.osd_capability.specs.Keys.{key_of, check_of}
use Rattle.osd_commands.specs.declared.actions.Action.TheVariants.{Create}
use Rattle.osd_commands.specs.declared.commands.Command.{Command}
use Rattle.osd_commands.specs.declared.replies.Reply.{Reply}
use Rattle.osd_commands.specs.Actions.{number_of}
use Rattle.osd_commands.specs.Commands.{Fits, head, fields, spelling, reading}
use Rattle.osd_commands.specs.Replies as replies
use Rattle.osd_commands.proofs.CommandLaws.{reading-command}
use Rattle.osd_commands.proofs.ReplyLaws.{reading-reply}
use Rattle.osd_drive.specs.declared.verdict.Verdict.TheVariants.{Perform}
use Rattle.osd_drive.specs.Table.{Row, first_row, NoneApplies, all_rows, first_fault, has_wrong_check, is_elsewhere, passes_limit}
use Rattle.osd_drive.specs.Effects.{performed}
use Rattle.server_rules.specs.Making.{new_server, unmade}
use Rattle.server_rules.specs.Commands.{Creating, label, check_under, key_at, sealed, sent_to}
use Rattle.world_history.specs.ServerNames.{Awaited, Drive, Server}
use Rattle.world_history.specs.State.{DriveAt}
use Rattle.world_history.specs.Drives.{judges, made_drive}
use Rattle.world_history.specs.Moves.{known_drive, raw_of}
use Rattle.history_law.proofs.Checks.{is_check}
use Rattle.component_law.proofs.Sealing.{same_bytes}
use Rattle.generate_law.specs.Scenario.{file_map}

-- ---- drives

abbrev pub KEY : List ℕ
KEY = replicate 20 11

abbrev pub drive_new : (d : ℕ) → DriveAt
drive_new d = made_drive d KEY 20000000 false

-- the first n drives, as the server knows them
abbrev pub known_to : (n : ℕ) → List Drive
known_to zero = []
known_to (suc n) = known_to n ++ known_drive n KEY 20000000 ∷ []

-- the server with so many drives, and no file
abbrev pub server_to : (n : ℕ) → Server
server_to n = new_server (known_to n)

key_known : (d : ℕ) → d < 6 → key_at (known_to 6) d ≡ KEY
unfolding key_at
key_known zero l = refl
key_known (suc zero) l = refl
key_known (suc (suc zero)) l = refl
key_known (suc (suc (suc zero))) l = refl
key_known (suc (suc (suc (suc zero)))) l = refl
key_known (suc (suc (suc (suc (suc zero))))) l = refl
key_known (suc (suc (suc (suc (suc (suc d)))))) l = absurd (omega (arith, l))

-- ---- commands

-- what is asked for component k on drive d
abbrev pub asked : (k d : ℕ) → Awaited
asked k d = sent_to (unmade (server_to 6) 0 (raw_of file_map) 1 false []).kept Creating k d (65536 + k) (1 + k)

-- as it is sent
abbrev pub create_of : (k d : ℕ) → Command
create_of k d = sealed (known_to 6) (asked k d)

abbrev pub reply_of : (k : ℕ) → Reply
reply_of k = record {
  action = number_of Create;
  verdict = 0;
  object = 65536 + k;
  nonce = 1 + k;
  detail = 0;
  payload = [];
}

module _ (k d : ℕ) (few : k < 5) (low : d < 6) where
  short_label : length (label (raw_of file_map) 0 k) < 2 ^ 32
  unfolding label
  short_label = omega arith

  fits : Fits (create_of k d)
  unfolding check_under
  fits = record {
    whole = record {
      format = refl;
      check = is_check 1 _ [] _;
      allowed = refl;
      payload = short_label;
    };
    numbers = record {
      partition = omega (arith, low);
      object = omega (arith, few);
      offset = omega arith;
      length = omega arith;
      nonce = omega (arith, few);
      attribute = omega arith;
    };
    capability = record {
      format = refl;
      key_version = omega arith;
      rights = omega arith;
      expiry = omega arith;
      grant = omega arith;
      holder = omega arith;
      tag = omega arith;
      partition = omega (arith, low);
      object = omega (arith, few);
      range_start = omega arith;
      range_len = omega arith;
    };
  }

  pub create_read : reading (spelling (create_of k d)) ≡ Ok (create_of k d)
  create_read = reading-command (create_of k d) fits

  reply_fits : replies.Fits (reply_of k)
  reply_fits = record {
    whole = record { action = omega arith; verdict = refl; allowed = refl; payload = omega arith };
    numbers = record { object = omega (arith, few); nonce = omega (arith, few); detail = omega arith };
  }

  pub reply_read : replies.reading (replies.spelling (reply_of k)) ≡ Ok (reply_of k)
  reply_read = reading-reply (reply_of k) reply_fits

-- ---- what a new drive makes of it

none_first : (rows : List Row) → NoneApplies rows → first_row rows ≡ Perform
none_first [] n = refl
none_first (r ∷ rows) n = rw n.0 (none_first rows n.1)

module _ (k d : ℕ) (low : d < 6) where
  opened : has_wrong_check (drive_new d).state (create_of k d) ≡ false
  unfolding check_under head fields
  opened =
      ap (λ (key : List ℕ). not (pointwise nat_eq (check_under key (asked k d).command)
      (check_of (key_of KEY (asked k d).command.capability) (head (asked k d).command ++ (asked k d).command.payload))))
      (key_known d low)
      ∙ ap (λ (b : Bool). not b) (same_bytes (check_under KEY (asked k d).command))

  its_own : is_elsewhere d (create_of k d) ≡ false
  its_own = rw (eq-eqb (65536 + d) (65536 + d) refl, eq-eqb (65536 + k) (65536 + k) refl) refl

  within : passes_limit (record { object = None; lane = None; has_attribute = false; free = 20000000; objects = 0 })
      (create_of k d) ≡ false
  unfolding label
  within = refl

  performs : first_fault (drive_new d).state 0 (create_of k d) ≡ Perform
  unfolding first_fault
  performs =
      none_first (all_rows (drive_new d).state 0 (create_of k d)) (
        refl,
        (
          refl,
          (
            opened,
            (
              refl,
              (
                refl,
                (
                  its_own,
                  (
                    refl,
                    (refl, (refl, (refl, (within, (refl, (refl, (refl, (refl, (refl, tt))))))))),
                  ),
                ),
              ),
            ),
          ),
        ),
      )

  -- the drive with the object
  abbrev pub drive_with : DriveAt
  drive_with = record (drive_new d) { state = performed (drive_new d).state (create_of k d) }

  pub drive_makes : (judges (drive_new d) (Ok (create_of k d))).drive ≡ drive_with
  unfolding judges
  drive_makes = rw performs refl

  pub drive_answers : (judges (drive_new d) (Ok (create_of k d))).reply ≡ reply_of k
  unfolding judges
  drive_answers = rw performs refl
