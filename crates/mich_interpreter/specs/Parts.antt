-- Truth values, unions, options and lists on top of a stack.
use Rattle.std.specs.Prelude.{◌≡◌, ◌<◌, ◌^◌, pos, Bool, true, false, List, ◌∷◌}
use Rattle.rules_data.specs.forms.Spelling.{is_address, is_key_hash}
use Rattle.rules_data.specs.values.Val.{Val, no_val, more_vals}
use Rattle.rules_data.specs.values.Val as v

abbrev pub is_true_top : List Val → Bool
is_true_top (v.truth b ∷ V) = b
is_true_top V = false

abbrev pub is_left_top : List Val → Bool
is_left_top (v.left x ∷ V) = true
is_left_top V = false

abbrev pub is_none_top : List Val → Bool
is_none_top (v.nothing ∷ V) = true
is_none_top V = false

abbrev pub is_cons_top : List Val → Bool
is_cons_top (v.list (more_vals x xs) ∷ V) = true
is_cons_top V = false

-- with what a union or an option on top holds in its place, or with the first element of a list above the others
abbrev pub opened : List Val → List Val
opened (v.left x ∷ V) = x ∷ V
opened (v.right x ∷ V) = x ∷ V
opened (v.some x ∷ V) = x ∷ V
opened (v.nothing ∷ V) = V
opened (v.list (more_vals x xs) ∷ V) = x ∷ v.list xs ∷ V
opened (v.list no_val ∷ V) = V
opened V = V

-- an amount of mutez of 64 bits, and the spelling of an address
abbrev pub HasAmount : List Val → Type 0
HasAmount (v.number (pos amount) ∷ V) = amount < 2 ^ 64
HasAmount _ = ⊥

abbrev pub HasAddress : List Val → Type 0
HasAddress (v.bytes b ∷ V) = is_address b ≡ true
HasAddress _ = ⊥

-- the spelling of a key hash, and an option of one on top
abbrev pub IsSpelledKeyHash : Val → Type 0
IsSpelledKeyHash (v.bytes b) = is_key_hash b ≡ true
IsSpelledKeyHash _ = ⊥

abbrev pub HasDelegate : List Val → Type 0
HasDelegate (v.nothing ∷ V) = Unit {0}
HasDelegate (v.some x ∷ V) = IsSpelledKeyHash x
HasDelegate _ = ⊥
