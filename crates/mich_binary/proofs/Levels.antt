-- One level of nodes, and how many nodes there are.
use Rattle.std.proofs.Common.{◌≡◌, ℕ, suc, ◌-◌, ◌<◌, List, [], ◌∷◌, length, map, arith, refl, ap, ◌∙◌}
use Rattle.std.proofs.lemmas.List.{length-map}
use Rattle.rules_text.specs.nodes.Tree.{Tree, trees_of}
use Rattle.rules_text.specs.binary.Spelling.{count}
use Rattle.rules_text.specs.declared.binary.DecodeKind.TheVariants.{TooDeep}
use Rattle.rules_text.specs.binary.Reading.{Spot, ◌>>=◌, fault, tag_at, node_by, node_at}
use Rattle.mich_base.specs.declared.node.Node.{Node}
use Rattle.mich_base.specs.View.{tree, trees}

pub no_levels : (n : ℕ) (s : Spot) → n ≡ 0 → node_at n s ≡ (tag_at s >>= λ tag. fault TooDeep s.place)
unfolding node_at
no_levels n s e = rw e refl

pub one_level : (n : ℕ) (s : Spot) → 0 < n → node_at n s ≡ (tag_at s >>= λ tag. node_by (node_at (n - 1)) tag.0 s.place tag.1)
unfolding node_at
one_level n s h = let k : n ≡ suc (n - 1) = omega arith in ap (λ m. node_at m s) k

count_of : (ts : List Tree) → count (trees_of ts) ≡ length ts
count_of [] = refl
count_of (t ∷ ts) = ap suc (count_of ts)

pub count_is : (ns : List Node) → count (trees ns) ≡ length ns
count_is ns = count_of (map tree ns) ∙ simp length-map
