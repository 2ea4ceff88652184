-- Branches that are taken one list after another.
use Rattle.std.proofs.Common.{◌≡◌, ℕ, ◌+◌, Bool, true, false, List, [], ◌∷◌, ◌++◌, map, Result, Err, refl, ap, ◌∙◌, sym, subst}
use Rattle.rules_text.specs.nodes.Tree.{Tree, prim, none, more, size}
use Rattle.rules_data.specs.types.Kind.{Kind}
use Rattle.rules_data.specs.types.Kind as k
use Rattle.rules_data.specs.types.Entrypoints.{Entry, Branch, Entries, entries, bad_name, repeated, then_entries, with_branch, with_branches, in_order, branch, below}
use Rattle.mich_types.specs.declared.parameter.Entry.{Entry as CodeEntry}
use Rattle.mich_types.specs.declared.error.TypeError.{TypeError}
use Rattle.mich_types.specs.declared.error.TypeError.TheVariants as error
use Rattle.mich_types.specs.Entered.{IsEntered, IsEntryFault, IsNoOr, entry_of}

then_append : (r : Entries) (xs ys : List Branch) →
    ((es : List Entry) → with_branches es (xs ++ ys) ≡ then_entries (with_branches es xs) (λ more. with_branches more ys)) →
    then_entries r (λ more. with_branches more (xs ++ ys)) ≡ then_entries (then_entries r (λ more. with_branches more xs)) (λ more. with_branches more ys)
then_append (entries es) xs ys h = h es
then_append (bad_name l) xs ys h = refl
then_append (repeated l) xs ys h = refl

with_append : (xs ys : List Branch) (es : List Entry) → with_branches es (xs ++ ys) ≡ then_entries (with_branches es xs) (λ more. with_branches more ys)
with_append [] ys es = refl
with_append (x ∷ xs) ys es = then_append (with_branch es x) xs ys (with_append xs ys)

in_order_taken : (xs ys : List Branch) (es : List Entry) → with_branches es (in_order xs ys) ≡ then_entries (with_branches es xs) (λ more. with_branches more ys)
unfolding in_order
in_order_taken xs ys es = with_append xs ys es

-- the second list is taken where the first is
pub entered_both : {T : Type 0} (es : List Entry) (between after : List CodeEntry) (xs ys : List Branch) (result : Result T TypeError) →
    with_branches es xs ≡ entries (map entry_of between) → IsEntered (with_branches (map entry_of between) ys) after result →
    IsEntered (with_branches es (in_order xs ys)) after result
entered_both es between after xs ys result e h =
    subst (λ r. IsEntered r after result) (sym (in_order_taken xs ys es ∙ ap (λ r. then_entries r (λ more. with_branches more ys)) e)) h

-- a fault of the first list is that of both
entered_first : (es : List Entry) (xs ys : List Branch) (fault : TypeError) →
    IsEntryFault (with_branches es xs) fault → IsEntryFault (with_branches es (in_order xs ys)) fault
entered_first es xs ys (error.BadType l) h = in_order_taken xs ys es ∙ ap (λ r. then_entries r (λ more. with_branches more ys)) h
entered_first es xs ys error.TypeTooLarge h = absurd h
entered_first es xs ys (error.RepeatedEntrypoint l) h = in_order_taken xs ys es ∙ ap (λ r. then_entries r (λ more. with_branches more ys)) h
entered_first es xs ys error.Memory h = tt

-- the branches below an `or`, with its parts by other names
pub or_branches : (a b c : Kind) (at next : ℕ) (l r t : Tree) (name : List ℕ) (annots : List (List ℕ)) (path lp rp : List Bool) →
    c ≡ k.or a b → t ≡ prim name annots (more l (more r none)) → lp ≡ path ++ false ∷ [] → rp ≡ path ++ true ∷ [] → next ≡ at + 1 + size l →
    below c at t path ≡ in_order (branch (at + 1) l lp a ∷ below a (at + 1) l lp) (branch next r rp b ∷ below b next r rp)
or_branches a b c at next l r t name annots path lp rp e f g h i =
    ap (λ x. below x at t path) e ∙ ap (λ x. below (k.or a b) at x path) f
    ∙ ap (λ p. in_order (branch (at + 1) l p a ∷ below a (at + 1) l p) (branch (at + 1 + size l) r (path ++ true ∷ []) b ∷ below b (at + 1 + size l) r (path ++ true ∷ []))) (sym g)
    ∙ ap (λ p. in_order (branch (at + 1) l lp a ∷ below a (at + 1) l lp) (branch (at + 1 + size l) r p b ∷ below b (at + 1 + size l) r p)) (sym h)
    ∙ ap (λ n. in_order (branch (at + 1) l lp a ∷ below a (at + 1) l lp) (branch n r rp b ∷ below b n r rp)) (sym i)

pub entered_along : {T : Type 0} (es : List Entry) (after : List CodeEntry) (xs ys : List Branch) (result : Result T TypeError) →
    xs ≡ ys → IsEntered (with_branches es ys) after result → IsEntered (with_branches es xs) after result
entered_along es after xs ys result e h = subst (λ bs. IsEntered (with_branches es bs) after result) (sym e) h

pub none_below : (a : Kind) (at : ℕ) (t : Tree) (path : List Bool) → IsNoOr a → below a at t path ≡ []
none_below (k.simple v) at t path h = refl
none_below k.operation at t path h = refl
none_below (k.option a) at t path h = refl
none_below (k.or a b) at t path h = absurd h
none_below (k.pair a b) at t path h = refl
none_below (k.list a) at t path h = refl
none_below (k.set a) at t path h = refl
none_below (k.map a b) at t path h = refl
none_below (k.big_map a b) at t path h = refl
none_below (k.lambda a b) at t path h = refl
none_below (k.contract a) at t path h = refl
none_below (k.ticket a) at t path h = refl

pub entered_fault : {T : Type 0} (es : List Entry) (between after : List CodeEntry) (xs ys : List Branch) (first last : Result T TypeError) (fault : TypeError) →
    first ≡ Err fault → last ≡ Err fault → IsEntered (with_branches es xs) between first → IsEntered (with_branches es (in_order xs ys)) after last
entered_fault es between after xs ys first last fault e f h =
    let g : IsEntryFault (with_branches es xs) fault = subst (λ r. IsEntered (with_branches es xs) between r) e h in
    subst (λ r. IsEntered (with_branches es (in_order xs ys)) after r) (sym f) (entered_first es xs ys fault g)
