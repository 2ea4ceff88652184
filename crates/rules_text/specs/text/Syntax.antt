-- The grammar of nodes over tokens: how a text may be put together, the tokens that it then has, and what it stands for.
use Rattle.std.specs.Prelude.{◌≡◌, ℕ, ◌+◌, ◌≤◌, ℤ, max, List, [], ◌∷◌, ◌++◌}
use Rattle.rules_text.specs.nodes.Tree.{Tree, int, str, prim, seq, none, trees_of}
use Rattle.rules_text.specs.text.Token.{Token}

mutual
  -- A node that can stand anywhere. Parentheses stand only round an application.
  pub data Node : Type 0 where
    number : ℤ → Node
    bytes : List ℕ → Node
    string : List ℕ → Node
    parens : List ℕ → Items → Node
    -- { e ; e ; }
    braces : Separated → Node
    -- { e ; e ; e }
    braces_to : Separated → Element → Node

  -- What follows the name of an application, in any order.
  pub data Items : Type 0 where
    no_items : Items
    with_annotation : Items → List ℕ → Items
    -- as an argument a name without parentheses has no arguments
    with_name : Items → List ℕ → Items
    with_node : Items → Node → Items

  -- An element of a sequence, or a statement. An application is written here with its arguments.
  pub data Element : Type 0 where
    alone : Node → Element
    application : List ℕ → Items → Element

  -- elements, each followed by `;`
  pub data Separated : Type 0 where
    nothing : Separated
    followed : Separated → Element → Separated

-- A list of statements: the last may leave its `;` out.
pub data Statements : Type 0 where
  ended : Separated → Statements
  unended : Separated → Element → Statements

-- ---- the tokens

abbrev mutual
  pub node_tokens : Node → List Token
  node_tokens (number n) = Token.number n ∷ []
  node_tokens (bytes b) = Token.bytes b ∷ []
  node_tokens (string s) = Token.string s ∷ []
  node_tokens (parens n i) = Token.open_paren ∷ Token.name n ∷ (item_tokens i ++ Token.close_paren ∷ [])
  node_tokens (braces s) = Token.open_brace ∷ (separated_tokens s ++ Token.close_brace ∷ [])
  node_tokens (braces_to s e) = Token.open_brace ∷ (separated_tokens s ++ (element_tokens e ++ Token.close_brace ∷ []))

  pub item_tokens : Items → List Token
  item_tokens no_items = []
  item_tokens (with_annotation i a) = item_tokens i ++ Token.annotation a ∷ []
  item_tokens (with_name i n) = item_tokens i ++ Token.name n ∷ []
  item_tokens (with_node i n) = item_tokens i ++ node_tokens n

  pub element_tokens : Element → List Token
  element_tokens (alone n) = node_tokens n
  element_tokens (application n i) = Token.name n ∷ item_tokens i

  pub separated_tokens : Separated → List Token
  separated_tokens nothing = []
  separated_tokens (followed s e) = separated_tokens s ++ (element_tokens e ++ Token.semicolon ∷ [])

abbrev pub statements_tokens : Statements → List Token
statements_tokens (ended s) = separated_tokens s
statements_tokens (unended s e) = separated_tokens s ++ element_tokens e

-- ---- the nodes that it stands for

abbrev pub annotations : Items → List (List ℕ)
annotations no_items = []
annotations (with_annotation i a) = annotations i ++ a ∷ []
annotations (with_name i n) = annotations i
annotations (with_node i n) = annotations i

abbrev mutual
  pub node_tree : Node → Tree
  node_tree (number n) = int n
  node_tree (bytes b) = Tree.bytes b
  node_tree (string s) = str s
  node_tree (parens n i) = prim n (annotations i) (trees_of (arguments i))
  node_tree (braces s) = seq (trees_of (separated_trees s))
  node_tree (braces_to s e) = seq (trees_of (separated_trees s ++ element_tree e ∷ []))

  pub arguments : Items → List Tree
  arguments no_items = []
  arguments (with_annotation i a) = arguments i
  arguments (with_name i n) = arguments i ++ prim n [] none ∷ []
  arguments (with_node i n) = arguments i ++ node_tree n ∷ []

  pub element_tree : Element → Tree
  element_tree (alone n) = node_tree n
  element_tree (application n i) = prim n (annotations i) (trees_of (arguments i))

  pub separated_trees : Separated → List Tree
  separated_trees nothing = []
  separated_trees (followed s e) = separated_trees s ++ element_tree e ∷ []

-- ---- the depth of the deepest node: the root has depth 1

abbrev mutual
  pub node_depth : Node → ℕ
  node_depth (number n) = 1
  node_depth (bytes b) = 1
  node_depth (string s) = 1
  node_depth (parens n i) = 1 + items_depth i
  node_depth (braces s) = 1 + separated_depth s
  node_depth (braces_to s e) = 1 + max (separated_depth s) (element_depth e)

  pub items_depth : Items → ℕ
  items_depth no_items = 0
  items_depth (with_annotation i a) = items_depth i
  items_depth (with_name i n) = max (items_depth i) 1
  items_depth (with_node i n) = max (items_depth i) (node_depth n)

  pub element_depth : Element → ℕ
  element_depth (alone n) = node_depth n
  element_depth (application n i) = 1 + items_depth i

  pub separated_depth : Separated → ℕ
  separated_depth nothing = 0
  separated_depth (followed s e) = max (separated_depth s) (element_depth e)

abbrev pub statements_depth : Statements → ℕ
statements_depth (ended s) = separated_depth s
statements_depth (unended s e) = max (separated_depth s) (element_depth e)

-- ---- what may stand where

-- the tokens begin some list of statements
pub record IsFront (ts : List Token) : Type 0 where
  pub whole : Statements
  pub more : List Token
  pub tokens : ts ++ more ≡ statements_tokens whole

-- the tokens begin some list of statements with no node deeper than the limit
pub record IsFrontWithin (limit : ℕ) (ts : List Token) : Type 0 where
  pub whole : Statements
  pub more : List Token
  pub tokens : ts ++ more ≡ statements_tokens whole
  pub depth : statements_depth whole ≤ limit

-- the tokens are those of a list of statements
pub record IsWhole (ts : List Token) : Type 0 where
  pub whole : Statements
  pub tokens : ts ≡ statements_tokens whole

-- the tokens are those of one statement, without its `;`, and the tree is its node
pub record IsStatement (ts : List Token) (tree : Tree) : Type 0 where
  pub element : Element
  pub tokens : ts ≡ element_tokens element
  pub stands : tree ≡ element_tree element
