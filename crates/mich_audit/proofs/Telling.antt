-- What nodes tell, one after another.
use Rattle.std.proofs.Common.{◌≡◌, ℕ, ◌+◌, ◌<◌, ◌≤◌, Bool, true, false, List, [], ◌∷◌, ◌++◌, length, get_or, drop, Result, Ok, Err, IfOk, Option, Some, None, refl, sym, ap, ◌∙◌, subst, append_assoc, append-nil}
use Rattle.std.proofs.lemmas.List.{at_drop_more, drop_all}
use Rattle.rules_text.specs.nodes.Tree.{Tree, Trees, none, more}
use Rattle.rules_audit.specs.Fields.{◌>>=◌, Part, each, tickets_in, tickets_within}
use Rattle.mich_base.specs.View.{tree, trees}
use Rattle.mich_base.specs.declared.node.Node.{Node}
use Rattle.mich_audit.specs.Told.{Tells}

abbrev pub both : Option (List Part) → Option (List Part) → Option (List Part)
both a b = a >>= λ ps. b >>= λ qs. Some (ps ++ qs)

pub then_tells : (a b : Option (List Part)) (old mid new : List Part) (told : Bool) → Tells a old mid true → Tells b mid new told → Tells (both a b) old new told
then_tells None b old mid new told h g = let no : true ≡ false = h in absurd cc
then_tells (Some ps) None old mid new told h g = g
then_tells (Some ps) (Some qs) old mid new told h g = (g.0, g.1 ∙ ap (λ front. front ++ qs) h.1 ∙ append_assoc old ps qs)

pub none_tells : (a b : Option (List Part)) (old new other : List Part) → Tells a old new false → Tells (both a b) old other false
none_tells None b old new other h = refl
none_tells (Some ps) b old new other h = let no : false ≡ true = h.0 in absurd cc

-- the whole is told where what is left is
abbrev pub Reaches : Option (List Part) → List Part → Option (List Part) → List Part → Type 0
Reaches whole old left now = (new : List Part) (told : Bool) → Tells left now new told → Tells whole old new told

pub begun : (whole : Option (List Part)) (old : List Part) → Reaches whole old whole old
begun whole old new told h = h

left_is : (f : Tree → Option (List Part)) (xs : List Node) (i : ℕ) (x : Node) → i < length xs → x ≡ get_or xs i x
    → each f (trees (drop i xs)) ≡ both (f (tree x)) (each f (trees (drop (i + 1) xs)))
left_is f xs i x h e =
    at_drop_more (λ ns. each f (trees ns)) xs i x h ∙ ap (λ y. both (f (tree y)) (each f (trees (drop (i + 1) xs)))) (sym e)

pub one_more : (f : Tree → Option (List Part)) (whole : Option (List Part)) (old now next : List Part) (xs : List Node) (i : ℕ) (x : Node) → i < length xs → x ≡ get_or xs i x
    → Tells (f (tree x)) now next true → Reaches whole old (each f (trees (drop i xs))) now → Reaches whole old (each f (trees (drop (i + 1) xs))) next
one_more f whole old now next xs i x h e tells reaches new told rest =
    reaches new told (subst (λ (o : Option (List Part)). Tells o now new told) (sym (left_is f xs i x h e)) (then_tells (f (tree x)) (each f (trees (drop (i + 1) xs))) now next new told tells rest))

pub none_more : (f : Tree → Option (List Part)) (whole : Option (List Part)) (old now next : List Part) (xs : List Node) (i : ℕ) (x : Node) → i < length xs → x ≡ get_or xs i x
    → Tells (f (tree x)) now next false → Reaches whole old (each f (trees (drop i xs))) now → Tells whole old next false
none_more f whole old now next xs i x h e tells reaches =
    reaches next false (subst (λ (o : Option (List Part)). Tells o now next false) (sym (left_is f xs i x h e)) (none_tells (f (tree x)) (each f (trees (drop (i + 1) xs))) now next next tells))

pub all_told : (f : Tree → Option (List Part)) (whole : Option (List Part)) (old now : List Part) (xs : List Node) (i : ℕ) → length xs ≤ i
    → Reaches whole old (each f (trees (drop i xs))) now → Tells whole old now true
all_told f whole old now xs i h reaches =
    reaches now true (subst (λ (ns : List Node). Tells (each f (trees ns)) now now true) (sym (drop_all i xs h)) (refl, sym (append-nil now)))

pub within_each : (ts : Trees) → each tickets_in ts ≡ tickets_within ts
within_each none = refl
within_each (more t ts) = ap (λ o. both (tickets_in t) o) (within_each ts)

pub begun_within : (ts : Trees) (old : List Part) → Reaches (tickets_within ts) old (each tickets_in ts) old
begun_within ts old = subst (λ (o : Option (List Part)). Reaches o old (each tickets_in ts) old) (within_each ts) (begun (each tickets_in ts) old)

-- where one thing was told, both are where the other is
pub then_all : {E : Type 0} (a b : Option (List Part)) (old mid new : List Part) (r : Result Bool E) → Tells a old mid true
    → IfOk r (λ told. Tells b mid new told) → IfOk r (λ told. Tells (both a b) old new told)
then_all a b old mid new (Ok told) h g = then_tells a b old mid new told h g
then_all a b old mid new (Err e) h g = tt

pub nothing_told : (o : Option (List Part)) (ps : List Part) → o ≡ Some [] → Tells o ps ps true
nothing_told o ps e = subst (λ (o : Option (List Part)). Tells o ps ps true) (sym e) (refl, sym (append-nil ps))
