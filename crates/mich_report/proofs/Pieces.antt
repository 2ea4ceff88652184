-- Lines that are put together piece by piece.
use Rattle.std.proofs.Common.{◌≡◌, ℕ, ℤ, List, [], ◌++◌, OnOk, Result, Ok, Err, refl, sym, ap, ◌∙◌, append-nil, append_assoc}
use Rattle.std.specs.Prelude.{codes}
use Rattle.rules_code.specs.steps.Changes.{Change}
use Rattle.rules_text.specs.nodes.Tree.{Tree, bytes, int}
use Rattle.rules_text.specs.text.Printed.{printed}
use Rattle.rules_world.specs.lines.Nodes.{changes_node, effect_node}
use Rattle.rules_world.specs.world.Receipts.Effect.{Give}
use Rattle.mich_report.specs.Pieces.{field}

-- a piece, and what stands behind it
pub on : (line put whole piece rest : List ℕ) → put ≡ line ++ piece → whole ≡ put ++ rest → whole ≡ line ++ (piece ++ rest)
on line put whole piece rest p h = h ∙ ap (λ (l : List ℕ). l ++ rest) p ∙ append_assoc line piece rest

-- the last piece
pub last : (line put piece : List ℕ) → put ≡ line ++ piece → put ≡ line ++ (piece ++ [])
last line put piece p = p ∙ ap (λ (l : List ℕ). line ++ l) (sym (append-nil piece))

-- what holds where there was room
pub on_ok : {T E P Q : Type 0} (r : Result T E) → (P → Q) → OnOk r P → OnOk r Q
on_ok (Ok x) f p = f p
on_ok (Err e) f p = tt

-- the fields of a ticket that is given
pub give_pieces : (sender to issuer : List ℕ) (kind content : Tree) (amount : ℤ) (changes : List Change) →
    codes "Give" ++ (field (bytes sender) ++ (field (bytes to) ++ (field (bytes issuer) ++ (field kind ++ (field content ++ (field (int amount) ++ (field (changes_node changes) ++ [])))))))
    ≡ printed (effect_node (Give sender to issuer kind content amount changes))
give_pieces sender to issuer kind content amount changes = refl
