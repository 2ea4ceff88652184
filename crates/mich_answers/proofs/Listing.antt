-- What is kept of the statements of a file.
use Rattle.std.proofs.Common.{◌≡◌, ℕ, ◌+◌, ◌≤◌, List, [], ◌∷◌, ◌++◌, length, Option, Some, None, refl, ap, ◌∙◌, arith}
use Rattle.rules_text.specs.nodes.Tree.{Tree, size}
use Rattle.rules_text.specs.declared.text.TextKind.{TextKind}
use Rattle.rules_files.specs.commands.Places.{Placed, IsNodeAt, IsEndAt, IsFaultAt}
use Rattle.rules_files.specs.commands.Answers.{Answer}
use Rattle.rules_files.specs.commands.Codec.{IsCodecAnswer, of_text, of_statements, fitting}
use Rattle.mich_base.specs.View.{tree}
use Rattle.mich_text.specs.declared.reader.Placed.{Placed as CodePlaced}
use Rattle.mich_answers.specs.declared.statements.Listed.{Listed}
use Rattle.mich_answers.specs.Listed.{second_place, placed_seen, Keeps, IsSmall, Passed, IsListed, beside, of_kept}
use Rattle.mich_answers.proofs.Stated.{statements-more}

beside_rest : (command : Tree → Option Answer) (s : Placed) (ss : List Placed) → beside (command s.node) s.place (second_place (s ∷ ss)) ≡ fitting (command s.node) s.place ss
beside_rest command s [] = by (command s.node)
  where
    by : (a : Option Answer) → beside a s.place None ≡ fitting a s.place []
    by None = refl
    by (Some a) = refl
beside_rest command s (r ∷ rs) = by (command s.node)
  where
    by : (a : Option Answer) → beside a s.place (Some r.place) ≡ fitting a s.place (r ∷ rs)
    by None = refl
    by (Some a) = refl

kept_answer : (command : Tree → Option Answer) (size : ℕ) (ss : List Placed) (first : Option CodePlaced) (second : Option ℕ) → Keeps ss first second
    → of_kept command size first second ≡ of_statements command size ss
kept_answer command size [] None second k = refl
kept_answer command size [] (Some p) second k = let e = k.first_is in cc
kept_answer command size (s ∷ ss) None second k = let e = k.first_is in cc
kept_answer command size (s ∷ ss) (Some p) second k =
    let e : placed_seen p ≡ s = some_is k.first_is in
    ap (λ (x : Placed). beside (command x.node) x.place second) e ∙ ap (λ (x : Option ℕ). beside (command s.node) s.place x) k.second_is ∙ beside_rest command s ss
  where
    or_else : Option Placed → Placed
    or_else None = s
    or_else (Some x) = x

    some_is : Some (placed_seen p) ≡ Some s → placed_seen p ≡ s
    some_is e = ap or_else e

-- the answer to what is kept is the answer to the file
pub listed_answer : (file : List ℕ) (l : Listed) (command : Tree → Option Answer) (answer : Answer) → IsListed file l
    → answer ≡ of_text l.fault (of_kept command (length file) l.first l.second) → IsCodecAnswer command file answer
listed_answer file l command answer h e = (
  h.found,
  h.listing,
  e ∙ ap (λ (a : Answer). of_text l.fault a) (kept_answer command (length file) h.found.statements l.first l.second h.kept)
      ∙ ap (λ (f : Option (TextKind × ℕ)). of_text f (of_statements command (length file) h.found.statements)) h.fault_is,
)

-- ---- one more statement

module _ (p : CodePlaced) where
  here : Placed
  here = placed_seen p

  kept-first : (ss : List Placed) (second : Option ℕ) → Keeps ss None second → Keeps (ss ++ placed_seen p ∷ []) (Some p) second
  kept-first [] second k = record { first_is = refl; second_is = k.second_is }
  kept-first (s ∷ ss) second k = let e = k.first_is in absurd cc

  kept-second : (ss : List Placed) (f : CodePlaced) → Keeps ss (Some f) None → Keeps (ss ++ placed_seen p ∷ []) (Some f) (Some p.start)
  kept-second [] f k = let e = k.first_is in absurd cc
  kept-second (s ∷ []) f k = record { first_is = k.first_is; second_is = refl }
  kept-second (s ∷ r ∷ rs) f k = let e = k.second_is in absurd cc

  kept-more : (ss : List Placed) (f : CodePlaced) (at : ℕ) → Keeps ss (Some f) (Some at) → Keeps (ss ++ placed_seen p ∷ []) (Some f) (Some at)
  kept-more [] f at k = let e = k.first_is in absurd cc
  kept-more (s ∷ []) f at k = let e = k.second_is in absurd cc
  kept-more (s ∷ r ∷ rs) f at k = record { first_is = k.first_is; second_is = k.second_is }

  module _ (file : List ℕ) (place : ℕ) (node : IsNodeAt file place (tree p.node) p.start p.end) (fits : size (tree p.node) + place ≤ p.end) where
    pub passed_first : (second : Option ℕ) → Passed file place None second → Passed file p.end (Some p) second
    passed_first second h = record {
      statements = h.statements ++ placed_seen p ∷ [];
      stand = statements-more file 0 place p.end h.statements (placed_seen p) h.stand node;
      kept = kept-first h.statements second h.kept;
      small = omega (arith, fits);
    }

    pub passed_second : (f : CodePlaced) → Passed file place (Some f) None → Passed file p.end (Some f) (Some p.start)
    passed_second f h = record {
      statements = h.statements ++ placed_seen p ∷ [];
      stand = statements-more file 0 place p.end h.statements (placed_seen p) h.stand node;
      kept = kept-second h.statements f h.kept;
      small = omega (arith, fits, h.small);
    }

    pub passed_more : (f : CodePlaced) (at : ℕ) → Passed file place (Some f) (Some at) → Passed file p.end (Some f) (Some at)
    passed_more f at h = record {
      statements = h.statements ++ placed_seen p ∷ [];
      stand = statements-more file 0 place p.end h.statements (placed_seen p) h.stand node;
      kept = kept-more h.statements f at h.kept;
      small = omega (arith, fits, h.small);
    }

-- ---- the end

small_in : (n m : ℕ) (first : Option CodePlaced) → n ≤ m → IsSmall n first → IsSmall m first
small_in n m None h s = tt
small_in n m (Some p) h s = omega (arith, h, s)

pub listed-end : (file : List ℕ) (place : ℕ) (first : Option CodePlaced) (second : Option ℕ) → place ≤ length file → Passed file place first second → IsEndAt file place
    → IsListed file (record { first = first; second = second; fault = None })
listed-end file place first second within h end = record {
  found = record { statements = h.statements; fault = None };
  listing = (place, h.stand, end);
  kept = h.kept;
  small = small_in place (length file) first within h.small;
  fault_is = refl;
}

pub listed-fault : (file : List ℕ) (place : ℕ) (first : Option CodePlaced) (second : Option ℕ) (kind : TextKind) (at : ℕ) → place ≤ length file → Passed file place first second → IsFaultAt file place kind at
    → IsListed file (record { first = first; second = second; fault = Some (kind, at) })
listed-fault file place first second kind at within h fault = record {
  found = record { statements = h.statements; fault = Some (kind, at) };
  listing = (place, h.stand, fault);
  kept = h.kept;
  small = small_in place (length file) first within h.small;
  fault_is = refl;
}
