-- The parser on tokens: a stack of open nodes, the innermost first, and last the list of statements.
use Rattle.std.specs.Prelude.{ℕ, List, [], ◌∷◌, ◌++◌, length, Bool, true, false, nat_lt, Option, Some, None, Result, Ok, Err, if◌then◌else◌}
use Rattle.rules_text.specs.nodes.Tree.{Tree, int, str, prim, seq, none, trees_of}
use Rattle.rules_text.specs.text.Token.{Token}
use Rattle.rules_text.specs.declared.text.Shape.{Shape}
use Rattle.rules_text.specs.declared.text.Shape.TheVariants.{Digits, Quoted, Word, Note, OpenBrace, CloseBrace, OpenParen, CloseParen, Semicolon}

pub data Frame : Type 0 where
  -- a sequence in braces, or the list of statements: its nodes so far; and whether a further one may begin
  elements : (braced : Bool) → List Tree → (ready : Bool) → Frame
  -- an application, in parentheses or not
  named : (wrapped : Bool) → List ℕ → List (List ℕ) → List Tree → Frame
  -- a parenthesis, before the name
  paren : Frame

pub data Refusal : Type 0 where
  unexpected : Refusal
  too_deep : Refusal

abbrev pub Stack : Type 0
Stack = List Frame

-- a node may begin here
abbrev pub is_open : Stack → Bool
is_open [] = false
is_open (elements braced es ready ∷ s) = ready
is_open (named w n ns xs ∷ s) = true
is_open (paren ∷ s) = false

-- puts a whole node in
abbrev pub add : Tree → Stack → Stack
add x [] = []
add x (elements braced es ready ∷ s) = elements braced (es ++ x ∷ []) false ∷ s
add x (named w n ns xs ∷ s) = named w n ns (xs ++ x ∷ []) ∷ s
add x (paren ∷ s) = paren ∷ s

-- begins a node, where one may begin and isn't too deep
abbrev pub begins : ℕ → Stack → Stack → Result Stack Refusal
begins limit s next = if is_open s then (if nat_lt limit (length s) then Err too_deep else Ok next) else Err unexpected

-- an application that isn't in parentheses ends where its element ends
abbrev pub finish : Stack → Stack
finish [] = []
finish (elements braced es ready ∷ s) = elements braced es ready ∷ s
finish (named true n ns xs ∷ s) = named true n ns xs ∷ s
finish (named false n ns xs ∷ s) = add (prim n ns (trees_of xs)) s
finish (paren ∷ s) = paren ∷ s

abbrev pub at_name : ℕ → List ℕ → Stack → Result Stack Refusal
at_name limit n [] = Err unexpected
at_name limit n (elements braced es ready ∷ s) = begins limit (elements braced es ready ∷ s) (named false n [] [] ∷ elements braced es ready ∷ s)
at_name limit n (named w m ns xs ∷ s) = begins limit (named w m ns xs ∷ s) (named w m ns (xs ++ prim n [] none ∷ []) ∷ s)
at_name limit n (paren ∷ s) = Ok (named true n [] [] ∷ s)

abbrev pub at_annotation : List ℕ → Stack → Result Stack Refusal
at_annotation a [] = Err unexpected
at_annotation a (elements braced es ready ∷ s) = Err unexpected
at_annotation a (named w n ns xs ∷ s) = Ok (named w n (ns ++ a ∷ []) xs ∷ s)
at_annotation a (paren ∷ s) = Err unexpected

abbrev pub at_close_paren : Stack → Result Stack Refusal
at_close_paren [] = Err unexpected
at_close_paren (elements braced es ready ∷ s) = Err unexpected
at_close_paren (named true n ns xs ∷ s) = Ok (add (prim n ns (trees_of xs)) s)
at_close_paren (named false n ns xs ∷ s) = Err unexpected
at_close_paren (paren ∷ s) = Err unexpected

abbrev pub at_close_brace : Stack → Result Stack Refusal
at_close_brace [] = Err unexpected
at_close_brace (elements true es ready ∷ s) = Ok (add (seq (trees_of es)) s)
at_close_brace (elements false es ready ∷ s) = Err unexpected
at_close_brace (named w n ns xs ∷ s) = Err unexpected
at_close_brace (paren ∷ s) = Err unexpected

abbrev pub at_semicolon : Stack → Result Stack Refusal
at_semicolon [] = Err unexpected
at_semicolon (elements braced es true ∷ s) = Err unexpected
at_semicolon (elements braced es false ∷ s) = Ok (elements braced es true ∷ s)
at_semicolon (named w n ns xs ∷ s) = Err unexpected
at_semicolon (paren ∷ s) = Err unexpected

unfoldable pub step : ℕ → Stack → Token → Result Stack Refusal
step limit s (Token.number n) = begins limit s (add (int n) s)
step limit s (Token.bytes b) = begins limit s (add (Tree.bytes b) s)
step limit s (Token.string t) = begins limit s (add (str t) s)
step limit s (Token.name n) = at_name limit n s
step limit s (Token.annotation a) = at_annotation a s
step limit s Token.open_brace = begins limit s (elements true [] true ∷ s)
step limit s Token.open_paren = begins limit s (paren ∷ s)
step limit s Token.close_brace = at_close_brace (finish s)
step limit s Token.close_paren = at_close_paren s
step limit s Token.semicolon = at_semicolon (finish s)

-- One token, where an application that isn't in parentheses was ended already before `}` and `;`.
unfoldable pub on : ℕ → Stack → Token → Result Stack Refusal
on limit s (Token.number n) = begins limit s (add (int n) s)
on limit s (Token.bytes b) = begins limit s (add (Tree.bytes b) s)
on limit s (Token.string t) = begins limit s (add (str t) s)
on limit s (Token.name n) = at_name limit n s
on limit s (Token.annotation a) = at_annotation a s
on limit s Token.open_brace = begins limit s (elements true [] true ∷ s)
on limit s Token.open_paren = begins limit s (paren ∷ s)
on limit s Token.close_brace = at_close_brace s
on limit s Token.close_paren = at_close_paren s
on limit s Token.semicolon = at_semicolon s

-- why no token of this shape is taken, by the same rule
abbrev pub no_begin : ℕ → Stack → Option Refusal
no_begin limit s = if is_open s then (if nat_lt limit (length s) then Some too_deep else None) else Some unexpected

abbrev pub no_word : ℕ → Stack → Option Refusal
no_word limit [] = Some unexpected
no_word limit (elements braced es ready ∷ s) = no_begin limit (elements braced es ready ∷ s)
no_word limit (named w n ns xs ∷ s) = no_begin limit (named w n ns xs ∷ s)
no_word limit (paren ∷ s) = None

abbrev pub no_note : Stack → Option Refusal
no_note [] = Some unexpected
no_note (elements braced es ready ∷ s) = Some unexpected
no_note (named w n ns xs ∷ s) = None
no_note (paren ∷ s) = Some unexpected

abbrev pub no_close_paren : Stack → Option Refusal
no_close_paren [] = Some unexpected
no_close_paren (elements braced es ready ∷ s) = Some unexpected
no_close_paren (named true n ns xs ∷ s) = None
no_close_paren (named false n ns xs ∷ s) = Some unexpected
no_close_paren (paren ∷ s) = Some unexpected

abbrev pub no_close_brace : Stack → Option Refusal
no_close_brace [] = Some unexpected
no_close_brace (elements true es ready ∷ s) = None
no_close_brace (elements false es ready ∷ s) = Some unexpected
no_close_brace (named w n ns xs ∷ s) = Some unexpected
no_close_brace (paren ∷ s) = Some unexpected

abbrev pub no_semicolon : Stack → Option Refusal
no_semicolon [] = Some unexpected
no_semicolon (elements braced es true ∷ s) = Some unexpected
no_semicolon (elements braced es false ∷ s) = None
no_semicolon (named w n ns xs ∷ s) = Some unexpected
no_semicolon (paren ∷ s) = Some unexpected

-- the stack on which a token of this shape is tried
abbrev pub ready_for : Shape → Stack → Stack
ready_for CloseBrace s = finish s
ready_for Semicolon s = finish s
ready_for Digits s = s
ready_for Quoted s = s
ready_for Word s = s
ready_for Note s = s
ready_for OpenBrace s = s
ready_for OpenParen s = s
ready_for CloseParen s = s

unfoldable pub refused : ℕ → Stack → Shape → Option Refusal
refused limit s Digits = no_begin limit s
refused limit s Quoted = no_begin limit s
refused limit s Word = no_word limit s
refused limit s Note = no_note s
refused limit s OpenBrace = no_begin limit s
refused limit s OpenParen = no_begin limit s
refused limit s CloseBrace = no_close_brace s
refused limit s CloseParen = no_close_paren s
refused limit s Semicolon = no_semicolon s

-- the stack behind a token that isn't refused
abbrev pub put_name : List ℕ → Stack → Stack
put_name n [] = []
put_name n (elements braced es ready ∷ s) = named false n [] [] ∷ elements braced es ready ∷ s
put_name n (named w m ns xs ∷ s) = named w m ns (xs ++ prim n [] none ∷ []) ∷ s
put_name n (paren ∷ s) = named true n [] [] ∷ s

abbrev pub put_annotation : List ℕ → Stack → Stack
put_annotation a [] = []
put_annotation a (elements braced es ready ∷ s) = elements braced es ready ∷ s
put_annotation a (named w n ns xs ∷ s) = named w n (ns ++ a ∷ []) xs ∷ s
put_annotation a (paren ∷ s) = paren ∷ s

abbrev pub close_named : Stack → Stack
close_named [] = []
close_named (elements braced es ready ∷ s) = s
close_named (named w n ns xs ∷ s) = add (prim n ns (trees_of xs)) s
close_named (paren ∷ s) = s

abbrev pub close_elements : Stack → Stack
close_elements [] = []
close_elements (elements braced es ready ∷ s) = add (seq (trees_of es)) s
close_elements (named w n ns xs ∷ s) = s
close_elements (paren ∷ s) = s

abbrev pub go_on : Stack → Stack
go_on [] = []
go_on (elements braced es ready ∷ s) = elements braced es true ∷ s
go_on (named w n ns xs ∷ s) = named w n ns xs ∷ s
go_on (paren ∷ s) = paren ∷ s

abbrev pub put : Token → Stack → Stack
put (Token.number n) s = add (int n) s
put (Token.bytes b) s = add (Tree.bytes b) s
put (Token.string t) s = add (str t) s
put (Token.name n) s = put_name n s
put (Token.annotation a) s = put_annotation a s
put Token.open_brace s = elements true [] true ∷ s
put Token.open_paren s = paren ∷ s
put Token.close_brace s = close_elements s
put Token.close_paren s = close_named s
put Token.semicolon s = go_on s

abbrev pub then_run : {A : Type 0} → Result A Refusal → (A → Result Stack Refusal) → Result Stack Refusal
then_run (Ok x) f = f x
then_run (Err e) f = Err e

unfoldable pub run : ℕ → Stack → List Token → Result Stack Refusal
run limit s [] = Ok s
run limit s (t ∷ ts) = then_run (step limit s t) (λ next. run limit next ts)

abbrev pub start : Stack
start = elements false [] true ∷ []

-- the list of statements has one node that has ended, and no other node is open
abbrev pub has_statement : Stack → Bool
has_statement [] = false
has_statement (elements true es ready ∷ s) = false
has_statement (elements false [] ready ∷ s) = false
has_statement (elements false (e ∷ []) true ∷ s) = false
has_statement (elements false (e ∷ []) false ∷ []) = true
has_statement (elements false (e ∷ []) false ∷ (f ∷ s)) = false
has_statement (elements false (e ∷ d ∷ es) ready ∷ s) = false
has_statement (named w n ns xs ∷ s) = false
has_statement (paren ∷ s) = false

-- no node is open
abbrev pub is_root : Stack → Bool
is_root [] = false
is_root (elements true es ready ∷ s) = false
is_root (elements false es ready ∷ []) = true
is_root (elements false es ready ∷ (f ∷ s)) = false
is_root (named w n ns xs ∷ s) = false
is_root (paren ∷ s) = false

-- the node that has ended
abbrev pub ended_tree : Stack → Tree → Tree
ended_tree [] d = d
ended_tree (elements b [] r ∷ s) d = d
ended_tree (elements b (e ∷ es) r ∷ s) d = e
ended_tree (named w n ns xs ∷ s) d = d
ended_tree (paren ∷ s) d = d
