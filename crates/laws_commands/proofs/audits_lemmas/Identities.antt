-- Tickets are told apart by their nodes.
use Rattle.std.proofs.Common.{◌≡◌, ℕ, Bool, true, false, List, [], ◌∷◌, refl, sym, ap, ◌∙◌, subst}
use Rattle.std.specs.Prelude.{ℤ, ◌==◌, if◌then◌else◌}
use Rattle.std.proofs.lemmas.Cmp.{tied_itself}
use Rattle.std.proofs.lemmas.Bool.{and_parts}
use Rattle.std.proofs.lemmas.Bool.Decides.{Decides-eqb}
use Rattle.std.specs.Ordering.{is_eq}
use Rattle.rules_text.specs.nodes.Tree.{Tree, int, str, bytes, prim, seq, more}
use Rattle.rules_text.specs.text.Printed.{printed}
use Rattle.rules_data.specs.values.Val.{is_comparable}
use Rattle.rules_data.specs.values.Val as v
use Rattle.rules_data.specs.values.Canonical.{canonical}
use Rattle.rules_data.specs.values.Tickets.{Identity}
use Rattle.rules_code.specs.steps.Changes.{is_alike}
use Rattle.rules_world.specs.world.World.{identity_order}
use Rattle.rules_audit.specs.Form.{same_identity}
use Rattle.rules_audit.specs.Fields as fields
use Rattle.laws_world.proofs.accounts.ForCallers.{texts_tell_types, alike_equal, identity_total, equal_of}
use Rattle.laws_world.proofs.lines_lemmas.ForCallers.{all_exact}
use Rattle.laws_commands.specs.audits.ToldLines.{identity_of}
use Rattle.laws_commands.specs.audits.Identities.{LiteralsTellComparable, NodesTellTickets}
use Rattle.mich_audit.proofs.Same.{identity_same, identity_equal}

-- what tells the literals of comparable values apart: the first letter of a name, or the form
abbrev shape : Tree → ℕ
shape (int n) = 1
shape (str s) = 2
shape (bytes b) = 3
shape (seq ts) = 4
shape (prim (c ∷ cs) ns ts) =
    if c == 85 then 5 else if c == 84 then 6 else if c == 70 then 7 else if c == 78 then 8 else if c == 83 then 9 else if c == 76 then 10 else if c == 82 then 11 else if c == 80 then 12 else 0
shape (prim [] ns ts) = 0

abbrev first_of : Tree → Tree
first_of (prim n ns (more t ts)) = t
first_of t = t

abbrev second_of : Tree → Tree
second_of (prim n ns (more t (more u ts))) = u
second_of t = t

abbrev number_of : Tree → ℤ
number_of (int n) = n
number_of t = ℤ.pos 0

abbrev text_of : Tree → List ℕ
text_of (str s) = s
text_of (bytes s) = s
text_of t = []

no : false ≡ true → ⊥
no e = absurd cc

differ : (m n : ℕ) → m == n ≡ false → m ≡ n → ⊥
differ m n h e = no (sym h ∙ (Decides-eqb m n).1 e)

pub literal_tells : LiteralsTellComparable
literal_tells v.unit v.unit c d e = refl
literal_tells (v.truth true) (v.truth true) c d e = refl
literal_tells (v.truth false) (v.truth false) c d e = refl
literal_tells (v.number m) (v.number n) c d e = ap v.number (ap number_of e)
literal_tells (v.text s) (v.text t) c d e = ap v.text (ap text_of e)
literal_tells (v.bytes s) (v.bytes t) c d e = ap v.bytes (ap text_of e)
literal_tells v.nothing v.nothing c d e = refl
literal_tells (v.some x) (v.some y) c d e = ap v.some (literal_tells x y c d (ap first_of e))
literal_tells (v.left x) (v.left y) c d e = ap v.left (literal_tells x y c d (ap first_of e))
literal_tells (v.right x) (v.right y) c d e = ap v.right (literal_tells x y c d (ap first_of e))
literal_tells (v.both x y) (v.both z w) c d e =
    let cs = and_parts (is_comparable x) (is_comparable y) c in
    let ds = and_parts (is_comparable z) (is_comparable w) d in
    let first : x ≡ z = literal_tells x z cs.0 ds.0 (ap first_of e) in
    let second : y ≡ w = literal_tells y w cs.1 ds.1 (ap second_of e) in
    λ i. v.both (first i) (second i)
literal_tells (v.list xs) y c d e = absurd (no c)
literal_tells (v.set xs) y c d e = absurd (no c)
literal_tells (v.table ps) y c d e = absurd (no c)
literal_tells (v.big_table ps) y c d e = absurd (no c)
literal_tells (v.lambda t r) y c d e = absurd (no c)
literal_tells (v.operation n) y c d e = absurd (no c)
literal_tells (v.ticket issuer kind content amount) y c d e = absurd (no c)
literal_tells x (v.list xs) c d e = absurd (no d)
literal_tells x (v.set xs) c d e = absurd (no d)
literal_tells x (v.table ps) c d e = absurd (no d)
literal_tells x (v.big_table ps) c d e = absurd (no d)
literal_tells x (v.lambda t r) c d e = absurd (no d)
literal_tells x (v.operation n) c d e = absurd (no d)
literal_tells x (v.ticket issuer kind content amount) c d e = absurd (no d)
literal_tells (v.truth true) y c d e = absurd (differ (shape (canonical (v.truth true))) (shape (canonical y)) refl (ap shape e))
literal_tells (v.truth false) y c d e = absurd (differ (shape (canonical (v.truth false))) (shape (canonical y)) refl (ap shape e))
literal_tells x (v.truth true) c d e = absurd (differ (shape (canonical x)) (shape (canonical (v.truth true))) refl (ap shape e))
literal_tells x (v.truth false) c d e = absurd (differ (shape (canonical x)) (shape (canonical (v.truth false))) refl (ap shape e))
literal_tells x y c d e = absurd (differ (shape (canonical x)) (shape (canonical y)) refl (ap shape e))

both_tests : (a b : Bool) → (a ≡ true → b ≡ true) → (b ≡ true → a ≡ true) → a ≡ b
both_tests true b f g = sym (f refl)
both_tests false true f g = g refl
both_tests false false f g = refl

abbrev alone : Identity → List (Identity × ℤ)
alone i = (i, ℤ.pos 0) ∷ []

abbrev key_in : Identity → List (Identity × ℤ) → Identity
key_in d [] = d
key_in d (e ∷ es) = e.0

pub alike_one : (i j : Identity) → is_comparable j.content ≡ true → is_alike i j ≡ true → i ≡ j
alike_one i j c h = ap (key_in i) (all_exact (alone i) (alone j) (c, tt) (equal_of (identity_order i j) (sym (alike_equal i j) ∙ h), refl, tt))

pub alike_itself : (i : Identity) → is_alike i i ≡ true
alike_itself i = alike_equal i i ∙ ap is_eq (tied_itself identity_total i)

pub node_one : (i j : Identity) → is_comparable i.content ≡ true → is_comparable j.content ≡ true → identity_of i ≡ identity_of j → i ≡ j
node_one i j c d e =
    let issuer : i.issuer ≡ j.issuer = ap (λ (x : fields.Identity). x.issuer) e in
    let kind : i.kind ≡ j.kind = texts_tell_types i.kind j.kind (ap (λ (x : fields.Identity). printed x.kind) e) in
    let content : i.content ≡ j.content = literal_tells i.content j.content c d (ap (λ (x : fields.Identity). x.content) e) in
    λ k. record { issuer = issuer k; kind = kind k; content = content k }

pub nodes_tell : NodesTellTickets
nodes_tell i j c d =
    both_tests (same_identity (identity_of i) (identity_of j)) (is_alike i j)
    (λ h. subst (λ x. is_alike i x ≡ true) (node_one i j c d (identity_equal (identity_of i) (identity_of j) h)) (alike_itself i))
    (λ h. subst (λ x. same_identity (identity_of i) (identity_of x) ≡ true) (alike_one i j d h) (identity_same (identity_of i)))
