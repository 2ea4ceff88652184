-- Nodes one after another as types, and as entries.
use Rattle.std.proofs.Common.{◌≡◌, ℕ, ◌+◌, ◌<◌, ◌≤◌, Bool, true, false, ◌&&◌, nat_le, Some, None, List, [], ◌∷◌, ◌++◌, length, get_or, drop, refl, sym, ap, ◌∙◌, subst, arith}
use Rattle.std.proofs.lemmas.Bool.{le-leb}
use Rattle.std.specs.List.{list_all}
use Rattle.rules_text.specs.nodes.Limits.{type_limit}
use Rattle.rules_text.specs.nodes.Tree.{Tree, Trees, none, more, size, sizes}
use Rattle.rules_data.specs.types.Kind.{Kind, nodes}
use Rattle.rules_data.specs.types.Printing.{node_of}
use Rattle.rules_data.specs.types.Reading.{Reading, a_type, bad_type, too_large, limited, typed, type_at}
use Rattle.rules_code.specs.typing.Scripts.{is_small}
use Rattle.rules_code.specs.certificates.Certificates.{stack_nodes, entry_node, entry_nodes}
use Rattle.rules_code.specs.certificates.Derivation.{Entry}
use Rattle.laws_data.proofs.types_lemmas.ForCallers.{is_type, read_again, within}
use Rattle.mich_base.specs.TypeView.{kind}
use Rattle.mich_base.specs.View.{tree, trees}
use Rattle.mich_base.specs.declared.ty.Ty.{Ty}
use Rattle.mich_base.specs.declared.node.Node.{Node}
use Rattle.mich_data.proofs.ForCallers.{left_at, left_end}
use Rattle.mich_cert.specs.Arguments.{a_kind}
use Rattle.mich_cert.specs.Entries.{entry, all_entries}
use Rattle.mich_cert.specs.Listed.{IsReadable, NoType, NoTypes, NoEntry, NoEntries}
use Rattle.mich_cert.specs.View.{kinds}
use Rattle.mich_cert.specs.declared.entry.Entry.{Entry as CodeEntry}

-- ---- types

abbrev pub types_before : List Kind → Trees → Trees
types_before [] ts = ts
types_before (a ∷ A) ts = more (node_of a) (types_before A ts)

pub types_all : (A : List Kind) → types_before A none ≡ stack_nodes A
types_all [] = refl
types_all (a ∷ A) = ap (more (node_of a)) (types_all A)

pub types_push : (A : List Kind) (a : Kind) (ts : Trees) → types_before (A ++ a ∷ []) ts ≡ types_before A (more (node_of a) ts)
types_push [] a ts = refl
types_push (b ∷ A) a ts = ap (more (node_of b)) (types_push A a ts)

pub small_push : (A : List Kind) (a : Kind) → list_all is_small A ≡ true → is_small a ≡ true → list_all is_small (A ++ a ∷ []) ≡ true
small_push [] a h g = ap (λ q. q && true) g
small_push (b ∷ A) a h g = by (λ f. small_push A a f g) (is_small b) h
  where
    by : (list_all is_small A ≡ true → list_all is_small (A ++ a ∷ []) ≡ true) → (q : Bool) → (q && list_all is_small A) ≡ true → (q && list_all is_small (A ++ a ∷ [])) ≡ true
    by f true h = f h
    by f false h = h

pub no_types : (A : List Kind) (t : Tree) (ts : Trees) → NoType t → NoTypes (types_before A (more t ts))
no_types [] t ts h [] r e = absurd cc
no_types [] t ts h (b ∷ B) r e = h b r.0 cc
no_types (a ∷ A) t ts h [] r e = absurd cc
no_types (a ∷ A) t ts h (b ∷ B) r e = no_types A t ts h B r.1 cc

-- ---- entries

abbrev pub entries_before : List Entry → Trees → Trees
entries_before [] ts = ts
entries_before (e ∷ es) ts = more (entry_node e) (entries_before es ts)

pub entries_all : (es : List Entry) → entries_before es none ≡ entry_nodes es
entries_all [] = refl
entries_all (e ∷ es) = ap (more (entry_node e)) (entries_all es)

pub entries_push : (es : List Entry) (e : Entry) (ts : Trees) → entries_before (es ++ e ∷ []) ts ≡ entries_before es (more (entry_node e) ts)
entries_push [] e ts = refl
entries_push (d ∷ es) e ts = ap (more (entry_node d)) (entries_push es e ts)

pub no_entries : (es : List Entry) (t : Tree) (ts : Trees) → NoEntry t → NoEntries (entries_before es (more t ts))
no_entries [] t ts h [] r e = absurd cc
no_entries [] t ts h (f ∷ fs) r e = h f r.0 cc
no_entries (d ∷ es) t ts h [] r e = absurd cc
no_entries (d ∷ es) t ts h (f ∷ fs) r e = no_entries es t ts h fs r.1 cc

-- ---- at the places of a slice

kinds_push : (ts : List Ty) (t : Ty) → kinds (ts ++ t ∷ []) ≡ kinds ts ++ kind t ∷ []
kinds_push [] t = refl
kinds_push (u ∷ ts) t = ap (λ xs. kind u ∷ xs) (kinds_push ts t)

entries_pushed : (es : List CodeEntry) (e : CodeEntry) → all_entries (es ++ e ∷ []) ≡ all_entries es ++ entry e ∷ []
entries_pushed [] e = refl
entries_pushed (f ∷ es) e = ap (λ xs. entry f ∷ xs) (entries_pushed es e)

pub stack_push : (ts us : List Ty) (t : Ty) → us ≡ ts ++ t ∷ [] → list_all is_small (kinds ts) ≡ true → is_small (kind t) ≡ true → list_all is_small (kinds us) ≡ true
stack_push ts us t e h g = ap (λ xs. list_all is_small (kinds xs)) e ∙ ap (list_all is_small) (kinds_push ts t) ∙ small_push (kinds ts) (kind t) h g

module _ (ns : List Node) (i : ℕ) (n : Node) (h : i < length ns) (e : n ≡ get_or ns i n) where
  abbrev left : Trees
  left = trees (drop (i + 1) ns)

  pub rest_room : (room : ℕ) → sizes (trees (drop i ns)) ≤ room → (size (tree n) ≤ room) × (sizes left ≤ room)
  rest_room room r = let s : sizes (trees (drop i ns)) ≡ size (tree n) + sizes left = ap sizes (left_at ns i n h e) in (omega (arith, s, r), omega (arith, s, r))

  module _ (whole : Trees) where
    pub types_failed : (ts : List Ty) → types_before (kinds ts) (trees (drop i ns)) ≡ whole → NoType (tree n) → NoTypes whole
    types_failed ts w f = subst NoTypes (ap (types_before (kinds ts)) (sym (left_at ns i n h e)) ∙ w) (no_types (kinds ts) (tree n) left f)

    pub types_step : (ts us : List Ty) (t : Ty) → types_before (kinds ts) (trees (drop i ns)) ≡ whole → us ≡ ts ++ t ∷ [] → tree n ≡ node_of (kind t) →
        types_before (kinds us) left ≡ whole
    types_step ts us t w f g =
        ap (λ xs. types_before (kinds xs) left) f ∙ ap (λ A. types_before A left) (kinds_push ts t) ∙ types_push (kinds ts) (kind t) left
        ∙ ap (λ u. types_before (kinds ts) (more u left)) (sym g) ∙ ap (types_before (kinds ts)) (sym (left_at ns i n h e)) ∙ w

    pub entries_failed : (es : List CodeEntry) → entries_before (all_entries es) (trees (drop i ns)) ≡ whole → NoEntry (tree n) → NoEntries whole
    entries_failed es w f = subst NoEntries (ap (entries_before (all_entries es)) (sym (left_at ns i n h e)) ∙ w) (no_entries (all_entries es) (tree n) left f)

    pub entries_step : (es fs : List CodeEntry) (x : CodeEntry) → entries_before (all_entries es) (trees (drop i ns)) ≡ whole → fs ≡ es ++ x ∷ [] → tree n ≡ entry_node (entry x) →
        entries_before (all_entries fs) left ≡ whole
    entries_step es fs x w f g =
        ap (λ xs. entries_before (all_entries xs) left) f ∙ ap (λ E. entries_before E left) (entries_pushed es x) ∙ entries_push (all_entries es) (entry x) left
        ∙ ap (λ u. entries_before (all_entries es) (more u left)) (sym g) ∙ ap (entries_before (all_entries es)) (sym (left_at ns i n h e)) ∙ w

module _ (ns : List Node) (i : ℕ) (h : length ns ≤ i) (whole : Trees) where
  pub types_end : (ts : List Ty) → types_before (kinds ts) (trees (drop i ns)) ≡ whole → whole ≡ stack_nodes (kinds ts)
  types_end ts w = sym w ∙ ap (types_before (kinds ts)) (left_end ns i h) ∙ types_all (kinds ts)

  pub entries_end : (es : List CodeEntry) → entries_before (all_entries es) (trees (drop i ns)) ≡ whole → whole ≡ entry_nodes (all_entries es)
  entries_end es w = sym w ∙ ap (entries_before (all_entries es)) (left_end ns i h) ∙ entries_all (all_entries es)

-- ---- a type that is read and written again

-- a readable type is read again
again : (a : Kind) → IsReadable a → type_at 0 (node_of a) ≡ a_type a
again a r = ap limited (read_again a r.0 0) ∙ is_type (nat_le (nodes a) type_limit) a (le-leb (nodes a) type_limit r.1)

pub none_read : (t : Tree) → None ≡ a_kind (type_at 0 t) → NoType t
none_read t h a r e = let f : type_at 0 t ≡ a_type a = ap (type_at 0) e ∙ again a r in let g : None ≡ Some a = h ∙ ap a_kind f in absurd cc

pub other_read : (t : Tree) (a : Kind) → Some a ≡ a_kind (type_at 0 t) → (t ≡ node_of a → ⊥) → NoType t
other_read t a h ne b r e =
    let f : type_at 0 t ≡ a_type b = ap (type_at 0) e ∙ again b r in
    let k : Some a ≡ Some b = h ∙ ap a_kind f in
    let same : b ≡ a = cc in
    ne (e ∙ ap node_of same)

was_type : (R : Reading) (a : Kind) → Some a ≡ a_kind R → R ≡ a_type a
was_type (a_type b) a e = cc
was_type (bad_type l) a e = absurd cc
was_type too_large a e = absurd cc

-- what is read is within the limit
pub small_read : (at : ℕ) (t : Tree) (a : Kind) → Some a ≡ a_kind (type_at at t) → is_small a ≡ true
small_read at t a h = (within (typed at t) a (was_type (type_at at t) a h)).1
