-- Lists of types that are made from nodes and paired.
use Rattle.std.proofs.Common.{◌≡◌, ℕ, ◌≤◌, length, take, List, [], ◌∷◌, ◌++◌, map, refl, ap, ◌∙◌, sym}
use Rattle.std.proofs.lemmas.List.{take_all}
use Rattle.rules_data.specs.types.Kind.{Kind}
use Rattle.rules_data.specs.types.Kind as k
use Rattle.mich_base.specs.declared.node.Node.{Node}
use Rattle.mich_base.specs.declared.ty.Ty.{Ty}
use Rattle.mich_base.specs.View.{tree, trees}
use Rattle.mich_base.specs.TypeView.{kind}
use Rattle.mich_types.specs.Built.{built, built_all, pair_of}

built_all_map : (ns : List Node) → built_all (trees ns) ≡ map (λ n. built (tree n)) ns
built_all_map [] = refl
built_all_map (n ∷ ns) = ap (λ rest. built (tree n) ∷ rest) (built_all_map ns)

-- all of some nodes are made
pub built_all_whole : (ns ms : List Node) (ks : List Kind) (i : ℕ) → ks ≡ map (λ n. built (tree n)) (take i ms) → length ms ≤ i → ms ≡ ns → ks ≡ built_all (trees ns)
built_all_whole ns ms ks i e h same =
    e ∙ ap (map (λ n. built (tree n))) (take_all i ms h ∙ same) ∙ sym (built_all_map ns)

pair_of_last : (ks : List Kind) (a b : Kind) → pair_of (ks ++ a ∷ b ∷ []) ≡ pair_of (ks ++ k.pair a b ∷ [])
pair_of_last [] a b = refl
pair_of_last (c ∷ []) a b = refl
pair_of_last (c ∷ d ∷ ds) a b = ap (k.pair c) (pair_of_last (d ∷ ds) a b)

kinds_last : (types : List Ty) (part : Ty) (ks : List Kind) → map kind (types ++ part ∷ []) ++ ks ≡ map kind types ++ kind part ∷ ks
kinds_last [] part ks = refl
kinds_last (t ∷ ts) part ks = ap (λ rest. kind t ∷ rest) (kinds_last ts part ks)

-- the last two of some types are paired
pub popped : (old new : List Ty) (part : Ty) (a : Kind) → old ≡ new ++ part ∷ [] →
    pair_of (map kind old ++ a ∷ []) ≡ pair_of (map kind new ++ k.pair (kind part) a ∷ [])
popped old new part a e =
    ap (λ types. pair_of (map kind types ++ a ∷ [])) e ∙ ap pair_of (kinds_last new part (a ∷ [])) ∙ pair_of_last (map kind new) (kind part) a
