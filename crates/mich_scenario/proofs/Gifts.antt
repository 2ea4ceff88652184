-- Gifts by their eight fields.
use Rattle.std.proofs.Common.{◌≡◌, List, [], ◌∷◌, ◌++◌, Option, Some, None, ap, sym, ◌∙◌}
use Rattle.std.specs.Prelude.{codes, length, take, option_map, MatchOption}
use Rattle.rules_text.specs.nodes.Tree.{Tree}
use Rattle.rules_files.specs.statements.Statements.{content_by, nodes_of}
use Rattle.mich_base.specs.View.{tree, trees}
use Rattle.mich_base.specs.declared.node.Node.{Node}
use Rattle.mich_scenario.specs.Fronts.{given, IsGift}
use Rattle.mich_scenario.specs.declared.actions.Gift.{Gift}

-- the last two of five
last_two : (a b i k c : Node) (front : List Node) (kind content : Node) → a ∷ b ∷ i ∷ k ∷ c ∷ [] ≡ front ++ kind ∷ content ∷ [] → (k ≡ kind) × (c ≡ content)
last_two a b i k c [] kind content h = cc
last_two a b i k c (f ∷ []) kind content h = cc
last_two a b i k c (f ∷ g ∷ []) kind content h = cc
last_two a b i k c (f ∷ g ∷ j ∷ []) kind content h = (cc, cc)
last_two a b i k c (f ∷ g ∷ j ∷ l ∷ []) kind content h = cc
last_two a b i k c (f ∷ g ∷ j ∷ l ∷ m ∷ []) kind content h = cc
last_two a b i k c (f ∷ g ∷ j ∷ l ∷ m ∷ n ∷ ns) kind content h = cc

-- what eight fields make with any type and content, they make with their own
pub is_gift : (fields : List Node) (a b i k c n t e : Node) (g : Gift) → fields ≡ a ∷ b ∷ i ∷ k ∷ c ∷ n ∷ t ∷ e ∷ []
    → ((kind content : Tree) → Some (given kind content g) ≡ content_by (codes "Give") (tree a ∷ tree b ∷ tree i ∷ kind ∷ content ∷ tree n ∷ tree t ∷ tree e ∷ []))
    → IsGift fields g
is_gift fields a b i k c n t e g is made = record {
  eight = ap (λ (ns : List Node). length ns) is;
  made = λ front kind content h.
      let five = last_two a b i k c front kind content (sym (ap (λ (ns : List Node). take 5 ns) is) ∙ h) in
      ap (λ (ns : List Node). content_by (codes "Give") (nodes_of (trees ns))) is ∙ sym (made (tree k) (tree c))
      ∙ ap (λ (x : Node). Some (given (tree x) (tree c) g)) five.0 ∙ ap (λ (x : Node). Some (given (tree kind) (tree x) g)) five.1;
}

-- what is read of eight fields
pub gift_read : (fields : List Node) (a b i k c n t e : Node) (o : Option Gift) → fields ≡ a ∷ b ∷ i ∷ k ∷ c ∷ n ∷ t ∷ e ∷ []
    → ((kind content : Tree) → option_map (given kind content) o ≡ content_by (codes "Give") (tree a ∷ tree b ∷ tree i ∷ kind ∷ content ∷ tree n ∷ tree t ∷ tree e ∷ []))
    → MatchOption o (content_by (codes "Give") (nodes_of (trees fields)) ≡ None) (λ g. IsGift fields g)
gift_read fields a b i k c n t e None is made = ap (λ (ns : List Node). content_by (codes "Give") (nodes_of (trees ns))) is ∙ sym (made (tree k) (tree c))
gift_read fields a b i k c n t e (Some g) is made = is_gift fields a b i k c n t e g is made
