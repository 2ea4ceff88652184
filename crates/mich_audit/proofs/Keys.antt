-- The key of a ticket tells its issuer, its type and its content.
use Rattle.std.proofs.Common.{◌≡◌, ◌⊎◌, inl, inr, ℕ, Bool, true, false, List, [], length, refl, sym, ap, ◌∙◌, subst}
use Rattle.std.specs.Str.{bytes_eq}
use Rattle.std.specs.Ordering.{nat_cmp}
use Rattle.std.specs.BTreeMap.{is_at}
use Rattle.std.specs.Cmp.Lexicographic.{slice_cmp}
use Rattle.std.proofs.lemmas.Map.Text.{is_eq-slice_cmp}
use Rattle.std.proofs.lemmas.Slice.Eq.{bytes_eq-Decides}
use Rattle.rules_text.specs.nodes.Tree.{Tree, bytes, seq, more}
use Rattle.rules_text.specs.text.Printed.{printed}
use Rattle.rules_text.specs.text.Text.{Stands}
use Rattle.mich_text.specs.Written.{HasTextForm}
use Rattle.mich_text.proofs.ForCallers.{line_stands, one_statement}
use Rattle.rules_audit.specs.Fields.{Identity}
use Rattle.mich_audit.specs.Key.{identity_node}
use Rattle.mich_audit.specs.Tallies.{key, HasForm}

same_line : (t u : Tree) → HasTextForm t → HasTextForm u → printed t ≡ printed u → t ≡ u
same_line t u h g e =
    let other : Stands (printed t) u (length (printed t)) 0 = subst (λ (text : List ℕ). Stands text u (length text) 0) (sym e) (line_stands u g) in
    (one_statement (printed t) t u (length (printed t)) 0 (length (printed t)) 0 (line_stands t h) other).0

issuer_in : Tree → List ℕ
issuer_in (seq (more (bytes b) ts)) = b
issuer_in t = []

kind_in : Tree → Tree
kind_in (seq (more b (more k ts))) = k
kind_in t = t

content_in : Tree → Tree
content_in (seq (more b (more k (more x ts)))) = x
content_in t = t

pub one_key : (i j : Identity) → HasForm i → HasForm j → key i ≡ key j → i ≡ j
unfolding issuer_in kind_in content_in
one_key i j h g e =
    let same : identity_node i ≡ identity_node j = same_line (identity_node i) (identity_node j) h g e in
    let a : i.issuer ≡ j.issuer = ap issuer_in same in
    let b : i.kind ≡ j.kind = ap kind_in same in
    let c : i.content ≡ j.content = ap content_in same in
    λ k. record { issuer = a k; kind = b k; content = c k }

-- ---- the test of keys

pub at_same : (k : List ℕ) → is_at (slice_cmp nat_cmp k) k ≡ true
at_same k = is_eq-slice_cmp k k ∙ (bytes_eq-Decides k k).1 refl

pub same_or_apart : (k q : List ℕ) → (k ≡ q) ⊎ (is_at (slice_cmp nat_cmp k) q ≡ false)
same_or_apart k q = by (bytes_eq k q) refl where
  by : (b : Bool) → bytes_eq k q ≡ b → (k ≡ q) ⊎ (is_at (slice_cmp nat_cmp k) q ≡ false)
  by true e = inl ((bytes_eq-Decides k q).0 e)
  by false e = inr (is_eq-slice_cmp k q ∙ e)
