-- The one line that stands for a node.
use Rattle.std.specs.Prelude.{ℕ, List, [], ◌∷◌, ◌++◌, Bool, true, false, ◌==◌, if◌then◌else◌}
use Rattle.std.specs.Fmt.{signed_decimal}
use Rattle.hex.specs.Hex.{encode_lower}
use Rattle.rules_text.specs.nodes.Tree.{Tree, int, str, prim, seq, Trees, none, more}

-- a byte of a string
abbrev pub spelling : ℕ → List ℕ
spelling c =
    if c == 10 then 92 ∷ 110 ∷ [] else (if c == 92 then 92 ∷ 92 ∷ [] else (if c == 34 then 92 ∷ 34 ∷ [] else (if c == 9 then 92 ∷ 116 ∷ [] else (if c == 8 then 92 ∷ 98 ∷ [] else (if c == 13 then 92 ∷ 114 ∷ [] else c ∷ [])))))

abbrev pub string_text : List ℕ → List ℕ
string_text [] = 34 ∷ []
string_text (c ∷ cs) = spelling c ++ string_text cs

abbrev pub annotations_text : List (List ℕ) → List ℕ
annotations_text [] = []
annotations_text (a ∷ as') = 32 ∷ (a ++ annotations_text as')

abbrev pub in_parens : Bool → List ℕ → List ℕ
in_parens true text = 40 ∷ (text ++ 41 ∷ [])
in_parens false text = text

-- an application with arguments or annotations stands in parentheses as an argument
abbrev pub is_wrapped : Tree → Bool
is_wrapped (int n) = false
is_wrapped (str s) = false
is_wrapped (Tree.bytes b) = false
is_wrapped (prim n [] none) = false
is_wrapped (prim n [] (more x xs)) = true
is_wrapped (prim n (a ∷ as') xs) = true
is_wrapped (seq xs) = false

abbrev mutual
  pub printed : Tree → List ℕ
  printed (int n) = signed_decimal n
  printed (str s) = 34 ∷ string_text s
  printed (Tree.bytes b) = 48 ∷ 120 ∷ encode_lower b
  printed (prim n ns xs) = n ++ (annotations_text ns ++ arguments_text xs)
  printed (seq none) = 123 ∷ 125 ∷ []
  printed (seq (more x xs)) = 123 ∷ 32 ∷ (printed x ++ (elements_text xs ++ 32 ∷ 125 ∷ []))

  pub arguments_text : Trees → List ℕ
  arguments_text none = []
  arguments_text (more x xs) = 32 ∷ (in_parens (is_wrapped x) (printed x) ++ arguments_text xs)

  pub elements_text : Trees → List ℕ
  elements_text none = []
  elements_text (more x xs) = 32 ∷ 59 ∷ 32 ∷ (printed x ++ elements_text xs)
