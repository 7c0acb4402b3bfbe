-- The commands that a job sends are under the server's holder.
use Rattle.std.proofs.Common.{◌≡◌, ℕ, ◌+◌, ◌&&◌, Bool, true, false, not, List, [], ◌∷◌, Option, Some, None, refl, ap, ◌∙◌, inl, inr, if◌then◌else◌}
use Rattle.osd_commands.specs.declared.commands.Command.{Command}
use Rattle.server_rules.specs.declared.limits.TheConstants.{SERVER_HOLDER}
use Rattle.server_rules.specs.Columns.{row_from, unit_with, wanted}
use Rattle.server_rules.specs.Commands.{Ask, Creating, Raising, Reading, Writing, Measuring, Which, is_meant, command_for, to_each}
use Rattle.server_rules.specs.Laws.{In}
use Rattle.server_rules.specs.Pieces.{stores_from, is_off}
use Rattle.server_rules.specs.Rebuild.{sources_by, group_for}
use Rattle.server_rules.specs.Repair.{is_left, repair_reads}
use Rattle.server_rules.specs.Standing.{is_beyond}
use Rattle.history_law.specs.Names.{Kept, Piece, Heard, Component, Awaited, Target}
use Rattle.history_law.specs.Numbered.{IsOf}
use Rattle.history_law.specs.Owned.{IsOwned}

-- each of these is
abbrev pub AllOwned : List Awaited → Type 0
AllOwned ws = (a : Awaited) → In a ws → IsOwned a

pub none_owned : AllOwned []
none_owned a i = absurd i

pub one_owned : (x : Awaited) → IsOwned x → AllOwned (x ∷ [])
one_owned x o a (inl e) = ap (λ (y : Awaited). y.command.capability.holder) e ∙ o
one_owned x o a (inr i) = absurd i

-- a command that goes to a drive has the holder of the awaited one
pub sent_owned : (drive : ℕ) (c : Command) (a : Awaited) → IsOf drive c a → IsOwned a
    → c.capability.holder ≡ SERVER_HOLDER
sent_owned drive c a of o = ap (λ (x : Command). x.capability.holder) of.1 ∙ o

holder_of : (f : Kept) (a : Ask) (k drive object nonce : ℕ)
    → (command_for f a k drive object nonce).capability.holder ≡ SERVER_HOLDER
holder_of f Creating k drive object nonce = refl
holder_of f Raising k drive object nonce = refl
holder_of f (Reading offset len) k drive object nonce = refl
holder_of f (Writing offset bytes) k drive object nonce = refl
holder_of f Measuring k drive object nonce = refl

first_or : (b : Bool) (x : Awaited) (ws bs : List Awaited) → IsOwned x → AllOwned ws → AllOwned bs
    → AllOwned (if b then x ∷ ws else bs)
first_or true x ws bs o more less a (inl e) = ap (λ (y : Awaited). y.command.capability.holder) e ∙ o
first_or true x ws bs o more less a (inr i) = more a i
first_or false x ws bs o more less a i = less a i

pub each_owned : (f : Kept) (which : Which) (ask : Ask) (cs : List Component) (k nonce : ℕ)
    → AllOwned (to_each f which ask cs k nonce)
unfolding to_each
each_owned f which ask [] k nonce = none_owned
each_owned f which ask (at ∷ cs) k nonce =
    first_or (not at.missing && is_meant f which k) _ _ _ (holder_of f ask k at.drive at.object nonce)
    (each_owned f which ask cs (k + 1) (nonce + 1)) (each_owned f which ask cs (k + 1) nonce)

pub stores_owned : (f : Kept) (p : Piece) (rows : List (List ℕ)) (heard : List Heard) (cs : List Component) (k nonce : ℕ)
    → AllOwned (stores_from f p rows heard cs k nonce)
unfolding stores_from
stores_owned f p rows heard [] k nonce = none_owned
stores_owned f p rows heard (at ∷ cs) k nonce =
    first_or (is_off f p (row_from heard k p.count) (wanted f.map rows (unit_with f.map p.stripe k) p.count) at k)
    _ _ _ refl (stores_owned f p rows heard cs (k + 1) (nonce + 1)) (stores_owned f p rows heard cs (k + 1) nonce)

either_owned : (b : Bool) (ws bs : List Awaited) → AllOwned ws → AllOwned bs → AllOwned (if b then ws else bs)
either_owned true ws bs h i = h
either_owned false ws bs h i = i

pub repair_owned : (f : Kept) (p : Piece) (nonce : ℕ) → AllOwned (repair_reads f p nonce)
unfolding repair_reads
repair_owned f p nonce = either_owned (is_left f p) _ _ none_owned (each_owned f _ _ f.components 0 nonce)

pub sources_owned : (f : Kept) (t : Target) (p : Piece) (nonce : ℕ) (o : Option ℕ)
    → AllOwned (sources_by f t p nonce o)
sources_owned f t p nonce (Some j) = each_owned f _ _ f.components 0 nonce
sources_owned f t p nonce None =
    either_owned (is_beyond f.map f.components (group_for f t)) _ _ none_owned
    (each_owned f _ _ f.components 0 nonce)
