-- A file that stands behind another, beside the file alone.
use Rattle.std.proofs.Common.{◌≡◌, ℕ, suc, ◌+◌, ◌-◌, ◌≤◌, List, [], ◌∷◌, ◌++◌, map, length, drop, Some, refl, sym, ap, ◌∙◌, subst, arith}
use Rattle.std.proofs.lemmas.List.{length-append, length-drop, drop-append-le}
use Rattle.rules_text.specs.nodes.Limits.{file_limit}
use Rattle.rules_text.specs.nodes.Tree.{Tree}
use Rattle.rules_text.specs.declared.text.TextKind.{TextKind}
use Rattle.rules_text.specs.text.Lexical.{after_gap}
use Rattle.rules_files.specs.commands.Places.{Placed, IsNodeAt, IsFaultAt, IsEndAt, AreStatements}
use Rattle.mich_text.proofs.ForCallers.{stands_within}
use Rattle.laws_commands.proofs.resuming_lemmas.text.Feeds.{IsFedOrEmpty, gap_passes, fed_drop}
use Rattle.laws_commands.proofs.resuming_lemmas.text.Same.{holds_within, node_on, end_on, fault_on}

drop_past : (first second : List ℕ) (p : ℕ) → drop (length first + p) (first ++ second) ≡ drop p second
drop_past [] second p = ap (λ (n : ℕ). drop n second) (omega arith)
drop_past (c ∷ first) second p =
    let more : length (c ∷ first) + p ≡ suc (length first + p) = omega arith in
    ap (λ (n : ℕ). drop n (c ∷ (first ++ second))) more ∙ drop_past first second p

module _ (first second : List ℕ) (short : length first + length second ≤ file_limit) where
  abbrev file : List ℕ
  file = first ++ second

  size : length file ≡ length first + length second
  size = length-append first second

  -- from these places on, both are the same
  pub record AreBeside (q p : ℕ) : Type 0 where
    pub gap : after_gap (drop q file) ≡ after_gap (drop p second)
    pub within : q ≤ length file
    pub fits : p ≤ length second

  whole : (q : ℕ) → q ≤ length file → q + length (drop q file) ≤ file_limit
  whole q within = omega (arith, length-drop q file, within, size, short)

  alone : (p : ℕ) → p ≤ length second → p + length (drop p second) ≤ file_limit
  alone p fits = omega (arith, length-drop p second, fits, short)

  pub beside_on : (p : ℕ) → p ≤ length second → AreBeside (length first + p) p
  beside_on p fits = record { gap = ap after_gap (drop_past first second p); within = omega (arith, size, fits); fits = fits }

  -- where the first one's white space and comments begin
  pub beside_gap : (q : ℕ) → q ≤ length first → IsFedOrEmpty first → after_gap (drop q first) ≡ Some [] → AreBeside q 0
  beside_gap q within fed gap = record {
    gap = ap after_gap (drop-append-le q first second within) ∙ gap_passes (drop q first) second (fed_drop q first fed) gap;
    within = omega (arith, size, within);
    fits = omega arith;
  }

  -- a place of both
  pub record IsPlaceOf (place here : ℕ) : Type 0 where
    pub at_is : place ≡ length first + here
    pub fits : here ≤ length second

  place_of : (p place left : ℕ) → p ≤ length second → place + left ≡ length file → left ≤ length (drop p second) →
      IsPlaceOf place (length second - left)
  place_of p place left fits e within = record {
    at_is = omega (arith, e, size, within, length-drop p second, fits);
    fits = omega arith;
  }

  pub record NodeOf (p : ℕ) (t : Tree) (at behind : ℕ) : Type 0 where
    pub here : ℕ
    pub end : ℕ
    pub first_is : at ≡ length first + here
    pub behind_is : behind ≡ length first + end
    pub fits : end ≤ length second
    pub node : IsNodeAt second p t here end

  node_of : (q p : ℕ) (t : Tree) (at behind : ℕ) → AreBeside q p → IsNodeAt file q t at behind → NodeOf p t at behind
  node_of q p t at behind b (start, end, n, x, y) =
      let m = node_on q p (drop q file) (drop p second) b.gap (whole q b.within) (alone p b.fits) t start end n in
      let w = stands_within (drop p second) t start end m.stands in
      let f = place_of p at start b.fits x w.0 in
      let g = place_of p behind end b.fits y w.1 in
      record {
        here = length second - start;
        end = length second - end;
        first_is = f.at_is;
        behind_is = g.at_is;
        fits = g.fits;
        node = (start, end, m, omega (arith, w.0, length-drop p second, b.fits), omega (arith, w.1, length-drop p second, b.fits));
      }

  pub end_of : (q p : ℕ) → AreBeside q p → IsEndAt file q → IsEndAt second p
  end_of q p b e = end_on q p (drop q file) (drop p second) b.gap (whole q b.within) (alone p b.fits) e

  pub record FaultOf (p : ℕ) (kind : TextKind) (at : ℕ) : Type 0 where
    pub here : ℕ
    pub at_is : at ≡ length first + here
    pub fault : IsFaultAt second p kind here

  pub fault_of : (q p : ℕ) (kind : TextKind) (at : ℕ) → AreBeside q p → IsFaultAt file q kind at → FaultOf p kind at
  fault_of q p kind at b (left, f, e) =
      let g = fault_on q p (drop q file) (drop p second) b.gap (whole q b.within) (alone p b.fits) kind left f in
      let within = holds_within p (drop p second) kind left g.holds in
      record {
        here = length second - left;
        at_is = (place_of p at left b.fits e within).at_is;
        fault = (left, g, omega (arith, within, length-drop p second, b.fits));
      }

  -- ---- statements

  abbrev pub behind_first : Placed → Placed
  behind_first s = record { place = length first + s.place; node = s.node }

  pub record StatementsOf (p : ℕ) (ss : List Placed) (to : ℕ) : Type 0 where
    pub statements : List Placed
    pub end : ℕ
    pub are : ss ≡ map behind_first statements
    pub stand : AreStatements second p statements end
    pub beside : AreBeside to end

  pub statements_of : (q p : ℕ) (ss : List Placed) (to : ℕ) → AreBeside q p → AreStatements file q ss to → StatementsOf p ss to
  statements_of q p [] to b m = record {
    statements = [];
    end = p;
    are = refl;
    stand = refl;
    beside = subst (λ (x : ℕ). AreBeside x p) m b;
  }
  statements_of q p (s ∷ ss) to b m =
      let n = node_of q p s.node s.place m.0 b m.1 in
      let rest = statements_of m.0 n.end ss to (subst (λ (x : ℕ). AreBeside x n.end) (sym n.behind_is) (beside_on n.end n.fits)) m.2 in
      record {
        statements = record { place = n.here; node = s.node } ∷ rest.statements;
        end = rest.end;
        are = λ k. record { place = n.first_is k; node = s.node } ∷ rest.are k;
        stand = (n.end, n.node, rest.stand);
        beside = rest.beside;
      }
