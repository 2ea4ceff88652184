-- The nodes that a text can give (Octez "Micheline", its concrete syntax, within the limits of a token).
use Rattle.std.specs.Prelude.{◌≡◌, ◌^◌, ◌<◌, ◌≤◌, ◌==◌, ◌&&◌, ◌||◌, ℕ, ℤ, pos, negsuc, Bool, true, nat_le, nat_lt, List, [], ◌∷◌, length, drop, Some}
use Rattle.std.specs.List.{list_all}
use Rattle.rules_text.specs.nodes.Limits.{name_limit, byte_limit, depth_limit}
use Rattle.rules_text.specs.nodes.Tree.{Tree, int, str, bytes, prim, seq, Trees, none, more, depth}
use Rattle.rules_text.specs.text.Lexical.{is_word, is_noted, first_shape}
use Rattle.rules_text.specs.declared.text.Shape.TheVariants.{Word, Note}

-- from -2^127 to 2^127-1
abbrev pub IsNumber : ℤ → Type 0
IsNumber (pos n) = n < 2 ^ 127
IsNumber (negsuc n) = n < 2 ^ 127

-- what ASCII prints, and the four that are written with a `\`
abbrev pub is_text : ℕ → Bool
is_text c = (nat_le 32 c && nat_le c 126) || (c == 10 || (c == 9 || (c == 8 || c == 13)))

abbrev pub IsString : List ℕ → Type 0
IsString s = (list_all is_text s ≡ true) × (length s ≤ byte_limit)

abbrev pub is_byte : ℕ → Bool
is_byte c = nat_lt c 256

abbrev pub IsBytes : List ℕ → Type 0
IsBytes b = (list_all is_byte b ≡ true) × (length b ≤ byte_limit)

-- begins with a letter or `_`
abbrev pub IsName : List ℕ → Type 0
IsName n = (first_shape n ≡ Some Word) × (list_all is_word n ≡ true) × (length n ≤ name_limit)

-- begins with `@`, `:` or `%`
abbrev pub IsAnnotation : List ℕ → Type 0
IsAnnotation a = (first_shape a ≡ Some Note) × (list_all is_noted (drop 1 a) ≡ true) × (length (drop 1 a) ≤ name_limit)

abbrev pub AreAnnotations : List (List ℕ) → Type 0
AreAnnotations [] = Unit {0}
AreAnnotations (a ∷ others) = IsAnnotation a × AreAnnotations others

abbrev mutual
  pub HasTextForm : Tree → Type 0
  HasTextForm (int n) = IsNumber n
  HasTextForm (str s) = IsString s
  HasTextForm (bytes b) = IsBytes b
  HasTextForm (prim name annotations args) = IsName name × AreAnnotations annotations × HaveTextForms args
  HasTextForm (seq ts) = HaveTextForms ts

  pub HaveTextForms : Trees → Type 0
  HaveTextForms none = Unit {0}
  HaveTextForms (more t ts) = HasTextForm t × HaveTextForms ts

-- each part has its form, and there are no more levels than a text may have
abbrev pub CanBeWritten : Tree → Type 0
CanBeWritten t = HasTextForm t × (depth t ≤ depth_limit)
