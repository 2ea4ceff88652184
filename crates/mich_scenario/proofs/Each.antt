-- Contents that are read one after another.
use Rattle.std.proofs.Common.{◌≡◌, List, [], ◌∷◌, ◌++◌, Option, Some, None, refl, sym, ap, ◌∙◌, append_assoc, append-nil}
use Rattle.std.proofs.lemmas.List.{map-append}
use Rattle.std.specs.Prelude.{option_map}
use Rattle.rules_world.specs.world.Contents as rules
use Rattle.rules_files.specs.statements.Statements.{content_by, each_content, named, nodes_of, ◌>>=◌}
use Rattle.mich_base.specs.View.{tree, trees}
use Rattle.mich_base.specs.declared.node.Node.{Node}
use Rattle.mich_ops.specs.View.{content}
use Rattle.mich_ops.specs.declared.group.Content.{Content}
use Rattle.mich_scenario.specs.View.{contents_said}

-- what all nodes are, where these contents are read and these nodes are left
abbrev pub reached : List Content → List Node → Option (List rules.Content)
reached read left = option_map (λ cs. contents_said read ++ cs) (each_content (nodes_of (trees left)))

before : (o : Option (List rules.Content)) (front : List rules.Content) (c : rules.Content)
    → option_map (λ cs. front ++ cs) (o >>= λ cs. Some (c ∷ cs)) ≡ option_map (λ cs. (front ++ c ∷ []) ++ cs) o
before None front c = refl
before (Some cs) front c = ap Some (sym (append_assoc front (c ∷ []) cs))

-- one more is read
pub one_more : (read now : List Content) (c : Content) (n : Node) (left rest : List Node) (whole : Option (List rules.Content))
    → left ≡ n ∷ rest → now ≡ read ++ c ∷ [] → named content_by (tree n) ≡ Some (content c) → whole ≡ reached read left → whole ≡ reached now rest
one_more read now c n left rest whole first pushed is h =
    h ∙ ap (λ (ns : List Node). reached read ns) first
    ∙ ap (λ (o : Option rules.Content). option_map (λ cs. contents_said read ++ cs) (o >>= λ x. each_content (nodes_of (trees rest)) >>= λ cs. Some (x ∷ cs))) is
    ∙ before (each_content (nodes_of (trees rest))) (contents_said read) (content c)
    ∙ ap (λ (front : List rules.Content). option_map (λ cs. front ++ cs) (each_content (nodes_of (trees rest)))) (sym (map-append content read (c ∷ [])))
    ∙ ap (λ (cs : List Content). reached cs rest) (sym pushed)

-- a node is no content
pub none_more : (read : List Content) (n : Node) (left rest : List Node) (whole : Option (List rules.Content))
    → left ≡ n ∷ rest → named content_by (tree n) ≡ None → whole ≡ reached read left → whole ≡ None
none_more read n left rest whole first is h =
    h ∙ ap (λ (ns : List Node). reached read ns) first
    ∙ ap (λ (o : Option rules.Content). option_map (λ cs. contents_said read ++ cs) (o >>= λ x. each_content (nodes_of (trees rest)) >>= λ cs. Some (x ∷ cs))) is

-- all are read
pub all_read : (read : List Content) (left : List Node) (whole : Option (List rules.Content)) → left ≡ [] → whole ≡ reached read left → whole ≡ Some (contents_said read)
all_read read left whole ended h = h ∙ ap (λ (ns : List Node). reached read ns) ended ∙ ap Some (append-nil (contents_said read))

same_whole : (o : Option (List rules.Content)) → o ≡ option_map (λ cs. [] ++ cs) o
same_whole None = refl
same_whole (Some cs) = refl

-- none is read yet
pub none_read : (nodes left : List Node) (read : List Content) → read ≡ [] → left ≡ nodes → each_content (nodes_of (trees nodes)) ≡ reached read left
none_read nodes left read empty all =
    same_whole (each_content (nodes_of (trees nodes)))
    ∙ ap (λ (cs : List Content). reached cs nodes) (sym empty) ∙ ap (λ (ns : List Node). reached read ns) (sym all)
