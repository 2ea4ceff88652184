-- Statements that are closed in the bytes so far.
use Rattle.std.proofs.Common.{ℕ, ◌-◌, ◌≤◌, ◌<◌, List, [], ◌∷◌, ◌++◌, length, drop, subst, arith}
use Rattle.std.proofs.lemmas.List.{drop-append-le, length-append}
use Rattle.rules_text.specs.nodes.Tree.{Tree}
use Rattle.rules_text.specs.text.Text.{IsNode, EndsAt}
use Rattle.rules_files.specs.commands.Places.{Placed}
use Rattle.mich_answers.proofs.ForCallers.{further}
use Rattle.mich_text.specs.pieces.Fronts.{IsClosed}
use Rattle.mich_text.proofs.pieces_lemmas.ForCallers.{closed_cut}
use Rattle.mich_replay.specs.Pace.{IsClosedAt, NoneIsClosedAt}

-- a statement behind which a byte is left has a `;`
pub signed : (rest : List ℕ) (end : ℕ) → 1 ≤ end → EndsAt rest end → 0 < length rest
signed [] end h e = absurd (omega (arith, h, e))
signed (c ∷ rest) end h e = omega arith

module _ (bytes : List ℕ) (place : ℕ) (within : place ≤ length bytes) where
  -- a statement that stands whatever follows has its `;`
  closed : (s : Placed) (behind : ℕ) → IsClosedAt bytes place s behind → (start : ℕ) × (end : ℕ) × IsClosed place (drop place bytes) s.node start end
  closed s behind h =
      let none = h [] in
      let one = h (0 ∷ []) in
      let some : 1 ≤ one.1 = omega (arith, none.4, one.4, length-append bytes [], length-append bytes (0 ∷ [])) in
      let node : IsNode place (drop place bytes ++ 0 ∷ []) s.node one.0 one.1 =
      subst (λ (l : List ℕ). IsNode place l s.node one.0 one.1) (drop-append-le place bytes (0 ∷ []) within) one.2 in (
        one.0 - 1,
        one.1 - 1,
        closed_cut place (drop place bytes) (0 ∷ []) s.node one.0 one.1 (record { node = node; sign = signed node.stands.rest one.1 some node.stands.ends }) some,
      )

  pub none_closed : ((tree : Tree) (start end : ℕ) → IsClosed place (drop place bytes) tree start end → ⊥) → NoneIsClosedAt bytes place
  none_closed none s behind h = let x = closed s behind h in none s.node x.0 x.1 x.2

-- none is where nothing was fed
pub none_first : NoneIsClosedAt [] 0
none_first s behind h = let f = further [] 0 s.node s.place behind (omega arith) (h []) in omega (arith, f)
