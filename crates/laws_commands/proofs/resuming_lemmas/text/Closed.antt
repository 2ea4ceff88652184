-- Statements that are each followed by a `;` stand in each file that begins with theirs.
use Rattle.std.proofs.Common.{◌≡◌, ℕ, ◌+◌, ◌-◌, ◌≤◌, ◌<◌, List, [], ◌∷◌, ◌++◌, length, drop, Option, Some, sym, ap, ◌∙◌, subst, arith}
use Rattle.std.specs.Prelude.{slice_get}
use Rattle.std.proofs.lemmas.List.{length-append, drop-append-le}
use Rattle.rules_text.specs.nodes.Tree.{Tree}
use Rattle.rules_text.specs.text.Text.{EndsAt, IsNode}
use Rattle.rules_files.specs.commands.Places.{Placed, IsNodeAt, AreStatements}
use Rattle.mich_text.proofs.pieces_lemmas.ForCallers.{closed_stays}
use Rattle.laws_commands.specs.resuming.Laws.{AreClosed}

pub closed_stand : (file : List ℕ) (p : ℕ) (ss : List Placed) (to : ℕ) → AreClosed file p ss to → AreStatements file p ss to
closed_stand file p [] to m = m
closed_stand file p (s ∷ ss) to m = (m.0, m.1, closed_stand file m.0 ss to m.3)

module _ (file more : List ℕ) (line : slice_get file (length file - 1) ≡ Some 10) where
  -- a statement that ends with the file has no `;`
  not_last : (rest : List ℕ) (end behind : ℕ) → EndsAt rest end → behind + end ≡ length file → slice_get file (behind - 1) ≡ Some 59 →
      0 < length rest
  not_last [] end behind e count sign =
      let same : length file - 1 ≡ behind - 1 = omega (arith, e, count) in
      absurd (omega (arith, ap byte (sym line ∙ ap (slice_get file) same ∙ sign)))
    where
      byte : Option ℕ → ℕ
      byte (Some n) = n
      byte o = 0
  not_last (c ∷ rest) end behind e count sign = omega arith

  node_stays : (p : ℕ) (t : Tree) (first behind : ℕ) → p ≤ length file → IsNodeAt file p t first behind →
      slice_get file (behind - 1) ≡ Some 59 →
      IsNodeAt (file ++ more) p t first behind
  node_stays p t first behind within (start, end, n, a, b) sign = (
    start + length more,
    end + length more,
    subst (λ (l : List ℕ). IsNode p l t (start + length more) (end + length more)) (sym (drop-append-le p file more within))
        (closed_stays p (drop p file) more t start end
        (record { node = n; sign = not_last n.stands.rest end behind n.stands.ends b sign })).node,
    omega (arith, a, length-append file more),
    omega (arith, b, length-append file more),
  )

  pub record Stays (p : ℕ) (ss : List Placed) (to : ℕ) : Type 0 where
    pub stand : AreStatements (file ++ more) p ss to
    pub within : to ≤ length file

  pub closed_on : (p : ℕ) (ss : List Placed) (to : ℕ) → p ≤ length file → AreClosed file p ss to → Stays p ss to
  closed_on p [] to within m = record { stand = m; within = subst (λ (x : ℕ). x ≤ length file) m within }
  closed_on p (s ∷ ss) to within m =
      let rest = closed_on m.0 ss to (omega (arith, m.1.4)) m.3 in
      record { stand = (m.0, node_stays p s.node s.place m.0 within m.1 m.2, rest.stand); within = rest.within }
