-- The paths of entrypoints lead from the parameter's type to their own.
use Rattle.std.proofs.Common.{◌≡◌, ℕ, ◌+◌, Bool, true, false, List, [], ◌∷◌, ◌++◌, Option, Some, None, refl, sym, subst}
use Rattle.std.specs.Prelude.{if◌then◌else◌}
use Rattle.std.specs.List.{AllByRecursion}
use Rattle.std.specs.Str.{bytes_eq}
use Rattle.rules_text.specs.nodes.Tree.{Tree, prim, none, more, size}
use Rattle.rules_data.specs.forms.Spelling.{default_name, is_entrypoint}
use Rattle.rules_data.specs.types.Kind.{Kind}
use Rattle.rules_data.specs.types.Kind as k
use Rattle.rules_data.specs.types.Entrypoints.{field_name, Entry, Branch, branch, in_order, below, find_entry, Entries, entries, bad_name, repeated, then_entries, with_new, with_named, with_branch, with_branches, root_by, or_default, with_default, entries_of}
use Rattle.rules_data.specs.values.Val.{Val}
use Rattle.rules_world.specs.world.Targets.{wrapped}
use Rattle.laws_data.specs.types.Laws.{IsWellFormed}
use Rattle.laws_tickets.specs.totals.Agreement.{Agrees}

-- true is right
abbrev pub LeadsTo : List Bool → Kind → Kind → Type 0
LeadsTo [] a b = a ≡ b
LeadsTo (false ∷ path) (k.or l r) b = LeadsTo path l b
LeadsTo (true ∷ path) (k.or l r) b = LeadsTo path r b
LeadsTo path a b = ⊥

pub leads_well : (path : List Bool) (a b : Kind) → LeadsTo path a b → IsWellFormed a → IsWellFormed b
leads_well [] a b h w = subst IsWellFormed h w
leads_well (false ∷ path) (k.or l r) b h w = leads_well path l b h w.0
leads_well (true ∷ path) (k.or l r) b h w = leads_well path r b h w.1
leads_well (false ∷ path) _ b h w = absurd h
leads_well (true ∷ path) _ b h w = absurd h

pub wrapped_agrees : (path : List Bool) (a b : Kind) (x : Val) → LeadsTo path a b → Agrees b x → Agrees a (wrapped path x)
wrapped_agrees [] a b x h g = subst (λ c. Agrees c x) (sym h) g
wrapped_agrees (false ∷ path) (k.or l r) b x h g = wrapped_agrees path l b x h g
wrapped_agrees (true ∷ path) (k.or l r) b x h g = wrapped_agrees path r b x h g
wrapped_agrees (false ∷ path) _ b x h g = absurd h
wrapped_agrees (true ∷ path) _ b x h g = absurd h

leads_left : (path : List Bool) (a l r : Kind) → LeadsTo path a (k.or l r) → LeadsTo (path ++ false ∷ []) a l
leads_left [] a l r h = subst (λ c. LeadsTo (false ∷ []) c l) (sym h) refl
leads_left (false ∷ path) (k.or b c) l r h = leads_left path b l r h
leads_left (true ∷ path) (k.or b c) l r h = leads_left path c l r h
leads_left (false ∷ path) _ l r h = absurd h
leads_left (true ∷ path) _ l r h = absurd h

leads_right : (path : List Bool) (a l r : Kind) → LeadsTo path a (k.or l r) → LeadsTo (path ++ true ∷ []) a r
leads_right [] a l r h = subst (λ c. LeadsTo (true ∷ []) c r) (sym h) refl
leads_right (false ∷ path) (k.or b c) l r h = leads_right path b l r h
leads_right (true ∷ path) (k.or b c) l r h = leads_right path c l r h
leads_right (false ∷ path) _ l r h = absurd h
leads_right (true ∷ path) _ l r h = absurd h

-- ---- branches

module _ (a : Kind) where
  abbrev BranchesLead : List Branch → Type 0
  BranchesLead bs = AllByRecursion (λ (b : Branch). LeadsTo b.path a b.kind) bs

  lead_in_order : (ls rs : List Branch) → BranchesLead ls → BranchesLead rs → BranchesLead (in_order ls rs)
  unfolding in_order
  lead_in_order [] rs h i = i
  lead_in_order (l ∷ ls) rs h i = (h.0, lead_in_order ls rs h.1 i)

  below_lead : (b : Kind) (at : ℕ) (t : Tree) (path : List Bool) → LeadsTo path a b → BranchesLead (below b at t path)
  below_lead (k.or l r) at (prim name annots (more x (more y none))) path h =
      let left = leads_left path a l r h in
      let right = leads_right path a l r h in
      lead_in_order
      (branch (at + 1) x (path ++ false ∷ []) l ∷ below l (at + 1) x (path ++ false ∷ []))
      (branch (at + 1 + size x) y (path ++ true ∷ []) r ∷ below r (at + 1 + size x) y (path ++ true ∷ []))
      (left, below_lead l (at + 1) x (path ++ false ∷ []) left)
      (right, below_lead r (at + 1 + size x) y (path ++ true ∷ []) right)
  below_lead _ at _ path h = tt

  -- ---- entrypoints

  abbrev pub EntriesLead : List Entry → Type 0
  EntriesLead es = AllByRecursion (λ (e : Entry). LeadsTo e.path a e.kind) es

  abbrev pub AllLead : Entries → Type 0
  AllLead (entries es) = EntriesLead es
  AllLead (bad_name l) = Unit {0}
  AllLead (repeated l) = Unit {0}

  lead_more : (es : List Entry) (e : Entry) → EntriesLead es → LeadsTo e.path a e.kind → EntriesLead (es ++ e ∷ [])
  lead_more [] e h i = (i, tt)
  lead_more (f ∷ es) e h i = (h.0, lead_more es e h.1 i)

  then_lead : (o : Entries) (next : List Entry → Entries) → AllLead o →
      ((es : List Entry) → EntriesLead es → AllLead (next es)) → AllLead (then_entries o next)
  then_lead (entries es) next h i = i es h
  then_lead (bad_name l) next h i = tt
  then_lead (repeated l) next h i = tt

  new_lead : (o : Option Entry) (es : List Entry) (at : ℕ) (name : List ℕ) (path : List Bool) (b : Kind) → EntriesLead es →
      LeadsTo path a b → AllLead (with_new o es at name path b)
  new_lead None es at name path b h i = lead_more es (record { name = name; path = path; kind = b }) h i
  new_lead (Some e) es at name path b h i = tt

  named_lead : (es : List Entry) (at : ℕ) (o : Option (List ℕ)) (path : List Bool) (b : Kind) → EntriesLead es →
      LeadsTo path a b → AllLead (with_named es at o path b)
  named_lead es at None path b h i = h
  named_lead es at (Some name) path b h i = by_test (is_entrypoint name)
    where
      by_test : (c : Bool) → AllLead (if c then with_new (find_entry name es) es at name path b else bad_name at)
      by_test true = new_lead (find_entry name es) es at name path b h i
      by_test false = tt

  branches_lead : (bs : List Branch) (es : List Entry) → BranchesLead bs → EntriesLead es → AllLead (with_branches es bs)
  branches_lead [] es h i = i
  branches_lead (b ∷ bs) es h i =
      then_lead (with_branch es b) (λ fs. with_branches fs bs) (named_lead es b.location b.name b.path b.kind i h.0)
      (λ fs j. branches_lead bs fs h.1 j)

  default_lead : (o : Option Entry) (es : List Entry) → EntriesLead es → EntriesLead (or_default o a es)
  default_lead None es h = lead_more es (record { name = default_name; path = []; kind = a }) h refl
  default_lead (Some e) es h = h

  root_lead : (o : Option (List ℕ)) (t : Tree) → LeadsTo (root_by o t a).path a (root_by o t a).kind
  root_lead (Some name) t = refl
  root_lead None t = refl

  pub entries_lead : (annots : List (List ℕ)) (t : Tree) → AllLead (entries_of annots t a)
  entries_lead annots t =
      then_lead (with_branches [] (root_by (field_name annots) t a ∷ below a 1 t [])) (with_default a)
      (branches_lead (root_by (field_name annots) t a ∷ below a 1 t []) []
      (root_lead (field_name annots) t, below_lead a 1 t [] refl) tt)
      (λ es h. default_lead (find_entry default_name es) es h)

  pub found_leads : (name : List ℕ) (es : List Entry) (e : Entry) → EntriesLead es → find_entry name es ≡ Some e →
      LeadsTo e.path a e.kind
  found_leads name [] e h f = absurd cc
  found_leads name (d ∷ es) e h f = by_test (bytes_eq d.name name) f (λ g. found_leads name es e h.1 g)
    where
      by_test : (b : Bool) → (if b then Some d else find_entry name es) ≡ Some e →
          (find_entry name es ≡ Some e → LeadsTo e.path a e.kind) → LeadsTo e.path a e.kind
      by_test true g later = let i : d ≡ e = cc in subst (λ (z : Entry). LeadsTo z.path a z.kind) i h.0
      by_test false g later = later g
