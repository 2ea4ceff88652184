-- What code is the typed code of a node in a context, from these types to those: each instruction is the rule that the node has
-- there. What fails leads to any types (Michelson reference, "Instructions").
use Rattle.std.specs.Prelude.{◌≡◌, ℕ, Bool, true, false, List, [], ◌∷◌, ◌++◌, length, take, drop, ◌≤◌, Some}
use Rattle.rules_text.specs.nodes.Limits.{count_limit}
use Rattle.rules_text.specs.nodes.Tree.{Tree, prim, seq, Trees, none, more}
use Rattle.rules_text.specs.nodes.Primitives.{primitive_of_name}
use Rattle.rules_data.specs.types.Kind.{Kind, operation, option, or, pair, list, lambda}
use Rattle.rules_data.specs.types.Kind as k
use Rattle.rules_data.specs.types.Entrypoints.{Entry, find_entry}
use Rattle.rules_data.specs.values.Val.{Val}
use Rattle.rules_data.specs.values.Literals.{Pending, body, claim, good, read}
use Rattle.rules_code.specs.instructions.Types.{bool, address, mutez, key_hash}
use Rattle.rules_code.specs.instructions.Types as t
use Rattle.rules_code.specs.instructions.Straight.{Straight}
use Rattle.rules_code.specs.instructions.Context.{Context, main}
use Rattle.rules_code.specs.instructions.Context as place
use Rattle.rules_code.specs.instructions.Arguments.{found, count_argument}
use Rattle.rules_code.specs.instructions.Rules.{ruled, rule}
use Rattle.rules_code.specs.instructions.Control.{Pushed, push_of, Arrow, lambda_of, call_kinds, self_of}
use Rattle.rules_code.specs.instructions.Forms.{Form, form_of}
use Rattle.rules_code.specs.instructions.Forms as f
use Rattle.rules_code.specs.typing.Typing.{goes, part_kind}
use Rattle.rules_code.specs.typing.Nodes.{tree_type, trees_type}
use Rattle.rules_code.specs.typing.Nodes as rules
use Rattle.rules_code.specs.typing.Scripts.{View}
use Rattle.mich_instr.specs.Plain.{bare, kept, plain}
use Rattle.mich_instr.specs.Code.{Code, Codes, ScriptCode, ViewCodes, no_view, more_views}
use Rattle.mich_instr.specs.Code as made

abbrev pub HasForm : Form → List ℕ → Type 0
HasForm form name = form_of (primitive_of_name name) ≡ form

abbrev pub lambda_form : Bool → Form
lambda_form true = f.lambda_rec
lambda_form false = f.lambda

-- the type of the parts of what ITER goes through
pub data HasParts : Kind → Kind → Type 0 where
  of_list : {a : Kind} → HasParts (list a) a
  of_set : {a : Kind} → HasParts (k.set a) a
  of_map : {a b : Kind} → HasParts (k.map a b) (pair a b)

-- the type of the parts of what MAP goes through, and what is made of parts of another type
pub data IsMapped : Kind → Kind → Kind → Kind → Type 0 where
  to_list : {a b : Kind} → IsMapped (list a) a b (list b)
  to_option : {a b : Kind} → IsMapped (option a) a b (option b)
  to_map : {a b d : Kind} → IsMapped (k.map a b) (pair a b) d (k.map a d)

mutual
  pub data IsCode : Context → Tree → Code → List Kind → List Kind → Type 0 where
    is_seq : {c : Context} {ts : Trees} {is : Codes} {A B : List Kind} → AreCode c ts is A B → IsCode c (seq ts) (made.seq is) A B
    is_straight : {c : Context} {name : List ℕ} {annots : List (List ℕ)} {ts : Trees} {r : Straight} {A B : List Kind} →
        HasForm f.straight name → rule (primitive_of_name name) annots ts A ≡ ruled r B →
        IsCode c (prim name annots ts) (made.straight r (plain (prim name annots ts))) A B
    is_transfer : {c : Context} {name : List ℕ} {annots : List (List ℕ)} {ts : Trees} {r : Straight} {A B : List Kind} →
        HasForm f.transfer name → rule (primitive_of_name name) annots ts A ≡ ruled r B →
        tree_type (prim name annots ts) c A ≡ goes B →
        IsCode c (prim name annots ts) (made.straight r (plain (prim name annots ts))) A B
    is_push : {c : Context} {name : List ℕ} {annots : List (List ℕ)} {t u : Tree} {p : Pushed} {x : Val} {ps : List Pending} {is : Codes} {A : List Kind} →
        HasForm f.push name → push_of (more t (more u none)) ≡ found p →
        tree_type (prim name annots (more t (more u none))) c A ≡ goes (p.kind ∷ A) →
        read p.kind p.location p.literal ≡ good x ps → AreHeld ps is →
        IsCode c (prim name annots (more t (more u none))) (made.push p.kind (bare t) u is) A (p.kind ∷ A)
    is_dip : {c : Context} {name : List ℕ} {annots : List (List ℕ)} {ts : Trees} {is : Codes} {S C : List Kind} →
        HasForm f.dip name → 1 ≤ length S → AreCode c ts is (drop 1 S) C →
        IsCode c (prim name annots (more (seq ts) none)) (made.dip 1 none is) S (take 1 S ++ C)
    is_dip_by : {c : Context} {name : List ℕ} {annots : List (List ℕ)} {t : Tree} {ts : Trees} {n : ℕ} {is : Codes} {S C : List Kind} →
        HasForm f.dip name → count_argument 0 count_limit 1 t ≡ found n → n ≤ length S → AreCode c ts is (drop n S) C →
        IsCode c (prim name annots (more t (more (seq ts) none))) (made.dip n (more t none) is) S (take n S ++ C)
    is_lambda : {c : Context} {name : List ℕ} {annots : List (List ℕ)} {recursive : Bool} {t u : Tree} {ts : Trees} {x : Arrow} {is : Codes} {A : List Kind} →
        HasForm (lambda_form recursive) name → lambda_of (more t (more u (more (seq ts) none))) ≡ found x →
        AreCode place.lambda ts is (call_kinds x.argument x.result recursive) (x.result ∷ []) →
        IsCode c (prim name annots (more t (more u (more (seq ts) none))))
        (made.lambda recursive x.argument x.result (more (bare t) (more (bare u) none)) (seq ts) is) A (lambda x.argument x.result ∷ A)
    is_exec : {c : Context} {name : List ℕ} {annots : List (List ℕ)} {a r : Kind} {A : List Kind} →
        HasForm f.exec name → IsCode c (prim name annots none) (made.exec a r) (a ∷ lambda a r ∷ A) (r ∷ A)
    is_apply : {c : Context} {name : List ℕ} {annots : List (List ℕ)} {a b r : Kind} {A : List Kind} →
        HasForm f.apply name → IsCode c (prim name annots none) (made.apply a b r) (a ∷ lambda (pair a b) r ∷ A) (lambda b r ∷ A)
    is_if : {c : Context} {name : List ℕ} {annots : List (List ℕ)} {ts us : Trees} {is js : Codes} {A B : List Kind} →
        HasForm f.if_bool name → AreCode c ts is A B → AreCode c us js A B →
        IsCode c (prim name annots (more (seq ts) (more (seq us) none))) (made.if_bool is js) (bool ∷ A) B
    is_if_none : {c : Context} {name : List ℕ} {annots : List (List ℕ)} {ts us : Trees} {is js : Codes} {a : Kind} {A B : List Kind} →
        HasForm f.if_none name → AreCode c ts is A B → AreCode c us js (a ∷ A) B →
        IsCode c (prim name annots (more (seq ts) (more (seq us) none))) (made.if_none is js) (option a ∷ A) B
    is_if_left : {c : Context} {name : List ℕ} {annots : List (List ℕ)} {ts us : Trees} {is js : Codes} {a b : Kind} {A B : List Kind} →
        HasForm f.if_left name → AreCode c ts is (a ∷ A) B → AreCode c us js (b ∷ A) B →
        IsCode c (prim name annots (more (seq ts) (more (seq us) none))) (made.if_left is js) (or a b ∷ A) B
    is_if_cons : {c : Context} {name : List ℕ} {annots : List (List ℕ)} {ts us : Trees} {is js : Codes} {a : Kind} {A B : List Kind} →
        HasForm f.if_cons name → AreCode c ts is (a ∷ list a ∷ A) B → AreCode c us js A B →
        IsCode c (prim name annots (more (seq ts) (more (seq us) none))) (made.if_cons is js) (list a ∷ A) B
    is_loop : {c : Context} {name : List ℕ} {annots : List (List ℕ)} {ts : Trees} {is : Codes} {A : List Kind} →
        HasForm f.loop name → AreCode c ts is A (bool ∷ A) → IsCode c (prim name annots (more (seq ts) none)) (made.loop is) (bool ∷ A) A
    is_loop_left : {c : Context} {name : List ℕ} {annots : List (List ℕ)} {ts : Trees} {is : Codes} {a r : Kind} {A : List Kind} →
        HasForm f.loop_left name → AreCode c ts is (a ∷ A) (or a r ∷ A) →
        IsCode c (prim name annots (more (seq ts) none)) (made.loop_left is) (or a r ∷ A) (r ∷ A)
    is_iter : {c : Context} {name : List ℕ} {annots : List (List ℕ)} {ts : Trees} {is : Codes} {s a : Kind} {A : List Kind} →
        HasForm f.iter name → HasParts s a → AreCode c ts is (a ∷ A) A → IsCode c (prim name annots (more (seq ts) none)) (made.iter is) (s ∷ A) A
    is_map : {c : Context} {name : List ℕ} {annots : List (List ℕ)} {ts : Trees} {is : Codes} {s a b r : Kind} {A : List Kind} →
        HasForm f.map name → IsMapped s a b r → part_kind (trees_type ts c (a ∷ A)) A ≡ Some b → AreCode c ts is (a ∷ A) (b ∷ A) →
        IsCode c (prim name annots (more (seq ts) none)) (made.map is) (s ∷ A) (r ∷ A)
    is_failwith : {c : Context} {name : List ℕ} {annots : List (List ℕ)} {a : Kind} {A B : List Kind} →
        HasForm f.failwith name → IsCode c (prim name annots none) (made.failwith a) (a ∷ A) B
    is_never : {c : Context} {name : List ℕ} {annots : List (List ℕ)} {A B : List Kind} →
        HasForm f.never name → IsCode c (prim name annots none) made.never (t.never ∷ A) B
    is_self : {es : List Entry} {name : List ℕ} {annots : List (List ℕ)} {e : Entry} {entrypoint : List ℕ} {A : List Kind} →
        HasForm f.self name → self_of annots none ≡ found entrypoint → find_entry entrypoint es ≡ Some e →
        IsCode (main es) (prim name annots none) (made.self entrypoint (kept (primitive_of_name name) annots)) A (k.contract e.kind ∷ A)
    is_create : {c : Context} {name : List ℕ} {annots : List (List ℕ)} {u : Tree} {p g : Kind} {es : List Entry} {is : Codes} {vs : ViewCodes} {A : List Kind} →
        HasForm f.create_contract name → tree_type (prim name annots (more u none)) c (option key_hash ∷ mutez ∷ g ∷ A) ≡ goes (operation ∷ address ∷ A) →
        IsScript u (made.script u p es g is vs) →
        IsCode c (prim name annots (more u none)) (made.create_contract (made.script u p es g is vs)) (option key_hash ∷ mutez ∷ g ∷ A) (operation ∷ address ∷ A)

  pub data AreCode : Context → Trees → Codes → List Kind → List Kind → Type 0 where
    no_code : {c : Context} {A : List Kind} → AreCode c none made.none A A
    more_code : {c : Context} {t : Tree} {ts : Trees} {i : Code} {is : Codes} {A M B : List Kind} →
        IsCode c t i A M → AreCode c ts is M B → AreCode c (more t ts) (made.more i is) A B

  -- the bodies of the lambdas in a literal, in pre-order, each with its typed code
  pub data AreHeld : List Pending → Codes → Type 0 where
    none_held : AreHeld [] made.none
    held_claim : {l : ℕ} {b : List ℕ} {a : Kind} {ps : List Pending} {is : Codes} → AreHeld ps is → AreHeld (claim l b a ∷ ps) is
    held_body : {l : ℕ} {a r : Kind} {recursive : Bool} {ts : Trees} {is js : Codes} {ps : List Pending} →
        AreCode place.lambda ts is (call_kinds a r recursive) (r ∷ []) → AreHeld ps js →
        AreHeld (body l a r recursive (seq ts) ∷ ps) (made.more (made.lambda recursive a r none (seq ts) is) js)

  -- a script that is typed, with its code
  pub data IsScript : Tree → ScriptCode → Type 0 where
    is_script : {t : Tree} {ts : Trees} {p s : Kind} {es : List Entry} {is : Codes} {vs : List View} {ws : ViewCodes} →
        rules.script t ≡ found (record { parameter = p; entries = es; storage = s; code = seq ts; views = vs }) →
        AreCode (main es) ts is (pair p s ∷ []) (pair (list operation) s ∷ []) → AreViews s vs ws →
        IsScript t (made.script t p es s is ws)

  pub data AreViews : Kind → List View → ViewCodes → Type 0 where
    no_views : {s : Kind} → AreViews s [] no_view
    one_more : {s a b : Kind} {name : List ℕ} {ts : Trees} {is : Codes} {vs : List View} {ws : ViewCodes} →
        AreCode place.view ts is (pair a s ∷ []) (b ∷ []) → AreViews s vs ws →
        AreViews s (record { name = name; input = a; output = b; body = seq ts } ∷ vs) (more_views (made.view name a b is) ws)
