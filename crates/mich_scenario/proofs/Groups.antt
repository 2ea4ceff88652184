-- Groups by their source and their contents.
use Rattle.std.proofs.Common.{◌≡◌, ◌<◌, ◌≤◌, ℕ, Bool, true, false, ◌&&◌, List, [], ◌∷◌, ◌++◌, length, Option, Some, None, Result, Err, refl, sym, ap, ◌∙◌, subst, arith}
use Rattle.std.specs.Prelude.{nat_le}
use Rattle.std.proofs.lemmas.Bool.Decides.{nat_tests}
use Rattle.rules_text.specs.nodes.Limits.{most_contents}
use Rattle.rules_world.specs.world.Contents as rules
use Rattle.rules_files.specs.statements.Statements.{◌>>=◌, contents_of, counted, each_content, group_of, nodes_of, only_if}
use Rattle.rules_files.specs.statements.Statements as statements
use Rattle.mich_base.specs.Counted.{IsNotEmpty}
use Rattle.mich_base.specs.View.{tree, trees}
use Rattle.mich_base.specs.declared.node.Node.{Node}
use Rattle.mich_ops.specs.declared.group.Content.{Content}
use Rattle.mich_scenario.specs.View.{IsForm, IsNoSource, IsSource, contents_said, said}
use Rattle.mich_scenario.specs.declared.error.FormError.{FormError}
use Rattle.mich_scenario.specs.declared.error.FormError.TheVariants as error
use Rattle.mich_scenario.proofs.Fronts.{last_one}

-- no source, so no group
pub no_group : (fields front : List Node) (orders : Node) → fields ≡ front ++ orders ∷ [] → IsNoSource (nodes_of (trees front)) → group_of (nodes_of (trees fields)) ≡ None
no_group fields front orders first none = ap group_of (last_one fields front orders first) ∙ none (tree orders)

-- the contents of a source
pub a_group : (fields front : List Node) (orders : Node) (who : List ℕ) (cs : List Content) → fields ≡ front ++ orders ∷ [] → IsSource (nodes_of (trees front)) who
    → contents_of (tree orders) ≡ Some (contents_said cs) → group_of (nodes_of (trees fields)) ≡ Some (statements.Group who (contents_said cs))
a_group fields front orders who cs first source is =
    ap group_of (last_one fields front orders first) ∙ source (tree orders) ∙ ap (λ (o : Option (List rules.Content)). o >>= λ cs. Some (statements.Group who cs)) is

-- contents that aren't read
pub unread_group : (fields front : List Node) (orders : Node) (who : List ℕ) (e : FormError) → fields ≡ front ++ orders ∷ [] → IsSource (nodes_of (trees front)) who
    → IsForm contents_said (contents_of (tree orders)) (Err e) → IsForm said (group_of (nodes_of (trees fields))) (Err e)
unread_group fields front orders who error.BadStatement first source is =
    ap group_of (last_one fields front orders first) ∙ source (tree orders) ∙ ap (λ (o : Option (List rules.Content)). o >>= λ cs. Some (statements.Group who cs)) is
unread_group fields front orders who error.Memory first source is = tt

-- ---- their number

same_length : (ns : List Node) → length (nodes_of (trees ns)) ≡ length ns
same_length [] = refl
same_length (n ∷ ns) = grind (arith, same_length ns)

pub many_counted : (ns : List Node) → 1000 < length ns → counted (nodes_of (trees ns)) ≡ None
many_counted ns h =
    let over : nat_le (length (nodes_of (trees ns))) most_contents ≡ false = grind (arith, nat_tests, same_length ns) in
    ap (λ b. only_if (nat_le 1 (length (nodes_of (trees ns))) && b) (nodes_of (trees ns)) >>= each_content) over ∙ by (nat_le 1 (length (nodes_of (trees ns))))
  where
    by : (b : Bool) → (only_if (b && false) (nodes_of (trees ns)) >>= each_content) ≡ None
    by true = refl
    by false = refl

some_counted : (ns : List Node) → IsNotEmpty ns → length ns ≤ 1000 → counted (nodes_of (trees ns)) ≡ each_content (nodes_of (trees ns))
some_counted [] h l = absurd h
some_counted (n ∷ ns) h l =
    let one : nat_le 1 (length (nodes_of (trees (n ∷ ns)))) ≡ true = grind (arith, nat_tests, same_length (n ∷ ns)) in
    let within : nat_le (length (nodes_of (trees (n ∷ ns)))) most_contents ≡ true = grind (arith, nat_tests, same_length (n ∷ ns)) in
    ap (λ b. only_if (b && nat_le (length (nodes_of (trees (n ∷ ns)))) most_contents) (nodes_of (trees (n ∷ ns))) >>= each_content) one
    ∙ ap (λ b. only_if (true && b) (nodes_of (trees (n ∷ ns))) >>= each_content) within

pub counted_form : (ns : List Node) (r : Result (List Content) FormError) → IsNotEmpty ns → length ns ≤ 1000
    → IsForm contents_said (each_content (nodes_of (trees ns))) r → IsForm contents_said (counted (nodes_of (trees ns))) r
counted_form ns r h l is = subst (λ (o : Option (List rules.Content)). IsForm contents_said o r) (sym (some_counted ns h l)) is
