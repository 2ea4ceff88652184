-- The literal of a value tells the tickets in it, and no others.
use Rattle.std.proofs.Common.{◌≡◌, ℕ, Bool, true, false, cond, Option, Some, List, [], ◌∷◌, ◌++◌, length, map, refl, sym, ap, ◌∙◌}
use Rattle.std.specs.Prelude.{ℤ, pos, negsuc, unsigned_abs, codes, is_none}
use Rattle.std.specs.Str.{bytes_eq}
use Rattle.std.proofs.lemmas.Bool.{and_parts}
use Rattle.std.proofs.lemmas.Bool.Decides.{Decides-eqb}
use Rattle.std.proofs.lemmas.List.{map-append}
use Rattle.std.proofs.lemmas.Slice.Eq.{bytes_eq-Decides}
use Rattle.rules_text.specs.nodes.Tree.{Tree, int, str, bytes, prim, seq, Trees, none, more}
use Rattle.rules_text.specs.nodes.Primitives.{primitive_names, primitives, code_of_name}
use Rattle.rules_data.specs.forms.Spelling.{is_place}
use Rattle.rules_data.specs.declared.types.Simple.{Simple}
use Rattle.rules_data.specs.declared.types.Simple.TheVariants as s
use Rattle.rules_data.specs.types.Kind.{Kind}
use Rattle.rules_data.specs.types.Kind as k
use Rattle.rules_data.specs.types.Attributes.{comparable}
use Rattle.rules_data.specs.types.Printing.{node_of}
use Rattle.rules_data.specs.values.Val.{Val, Vals, no_val, more_vals, Pairs, no_pair, more_pairs}
use Rattle.rules_data.specs.values.Val as v
use Rattle.rules_data.specs.values.Forms.{has_simple_form, AllHave, AllEntriesHave, is_ticket_amount}
use Rattle.rules_data.specs.values.Tickets.{Held, tickets, all_tickets, pair_tickets}
use Rattle.rules_data.specs.values.Canonical.{canonical, canonicals, canonical_entries}
use Rattle.rules_code.specs.instructions.Context as place
use Rattle.rules_code.specs.instructions.Control.{call_kinds}
use Rattle.rules_code.specs.typing.Typing.{Typing, goes, fails, bad}
use Rattle.rules_code.specs.typing.Fits.{Known, Fits, Leads}
use Rattle.laws_data.specs.types.Laws.{IsWellFormed}
use Rattle.laws_typing.specs.packing.Names.{HasCodes, HaveCodes}
use Rattle.laws_typing.specs.packing.Laws.{IsTyped}
use Rattle.laws_typing.proofs.packing_lemmas.TypedCode.{typed_code_has_codes}
use Rattle.laws_data.proofs.forms_lemmas.ForCallers.{place_length}
use Rattle.rules_audit.specs.Fields.{◌>>=◌, only_if, identity, held, Part, part, ticket_of, tickets_in, tickets_within, is_issuer, amount_from}
use Rattle.laws_commands.specs.audits.Told.{told}

abbrev pub Tells : Val → Type 0
Tells x = tickets_in (canonical x) ≡ Some (map told (tickets x))

-- ---- how tickets are put together

joined : (xs ys : List Held) (o p : Option (List Part)) → o ≡ Some (map told xs) → p ≡ Some (map told ys) →
    (o >>= λ ps. p >>= λ qs. Some (ps ++ qs)) ≡ Some (map told (xs ++ ys))
joined xs ys o p e g =
    ap (λ o. o >>= λ ps. p >>= λ qs. Some (ps ++ qs)) e ∙ ap (λ p. p >>= λ qs. Some (map told xs ++ qs)) g ∙ ap Some (sym (map-append told xs ys))

alone : (o : Option (List Part)) (xs : List Held) → o ≡ Some (map told xs) → (o >>= λ ps. Some [] >>= λ qs. Some (ps ++ qs)) ≡ Some (map told xs)
alone o xs e = joined xs [] o (Some []) e refl ∙ ap (λ ys. Some (map told ys)) (append_none xs)
  where
    append_none : (xs : List Held) → xs ++ [] ≡ xs
    append_none [] = refl
    append_none (x ∷ xs) = ap (λ ys. x ∷ ys) (append_none xs)

-- behind nothing
behind_none : (p : Option (List Part)) (xs : List Held) → p ≡ Some (map told xs) → (Some [] >>= λ ps. p >>= λ qs. Some (ps ++ qs)) ≡ Some (map told xs)
behind_none p xs e = joined [] xs (Some []) p refl e

-- ---- nodes of primitives tell none

ticket_code : is_none (code_of_name (codes "Ticket")) ≡ true
unfolding code_of_name primitive_names primitives
ticket_code = refl

not_ticket : (name : List ℕ) → is_none (code_of_name name) ≡ false → (b : Bool) → bytes_eq name (codes "Ticket") ≡ b → b ≡ false
not_ticket name h false e = refl
not_ticket name h true e =
    let same : name ≡ codes "Ticket" = (bytes_eq-Decides name (codes "Ticket")).0 e in
    let no : true ≡ false = sym ticket_code ∙ ap (λ n. is_none (code_of_name n)) (sym same) ∙ h in
    absurd cc

mutual
  code_tells : (t : Tree) → HasCodes t → tickets_in t ≡ Some []
  code_tells (int n) h = refl
  code_tells (str n) h = refl
  code_tells (bytes n) h = refl
  code_tells (prim name annots ts) h =
      let no : bytes_eq name (codes "Ticket") ≡ false = not_ticket name h.0 (bytes_eq name (codes "Ticket")) refl in
      ap (λ b. cond b (ticket_of ts) (Some []) >>= λ ps. tickets_within ts >>= λ qs. Some (ps ++ qs)) no
      ∙ behind_none (tickets_within ts) [] (codes_tell ts h.1)
  code_tells (seq ts) h = codes_tell ts h

  codes_tell : (ts : Trees) → HaveCodes ts → tickets_within ts ≡ Some []
  codes_tell none h = refl
  codes_tell (more t ts) h = joined [] [] (tickets_in t) (tickets_within ts) (code_tells t h.0) (codes_tell ts h.1)

two_kinds : (a b : Kind) → tickets_in (node_of a) ≡ Some [] → tickets_in (node_of b) ≡ Some [] → tickets_within (more (node_of a) (more (node_of b) none)) ≡ Some []
two_kinds a b e g = joined [] [] (tickets_in (node_of a)) (tickets_within (more (node_of b) none)) e (alone (tickets_in (node_of b)) [] g)

kind_tells : (a : Kind) → tickets_in (node_of a) ≡ Some []
kind_tells (k.simple s.Unit) = refl
kind_tells (k.simple s.Never) = refl
kind_tells (k.simple s.Bool) = refl
kind_tells (k.simple s.Int) = refl
kind_tells (k.simple s.Nat) = refl
kind_tells (k.simple s.String) = refl
kind_tells (k.simple s.Bytes) = refl
kind_tells (k.simple s.Mutez) = refl
kind_tells (k.simple s.Timestamp) = refl
kind_tells (k.simple s.Key) = refl
kind_tells (k.simple s.KeyHash) = refl
kind_tells (k.simple s.Signature) = refl
kind_tells (k.simple s.ChainId) = refl
kind_tells (k.simple s.Address) = refl
kind_tells k.operation = refl
kind_tells (k.option a) = behind_none _ [] (alone (tickets_in (node_of a)) [] (kind_tells a))
kind_tells (k.list a) = behind_none _ [] (alone (tickets_in (node_of a)) [] (kind_tells a))
kind_tells (k.set a) = behind_none _ [] (alone (tickets_in (node_of a)) [] (kind_tells a))
kind_tells (k.contract a) = behind_none _ [] (alone (tickets_in (node_of a)) [] (kind_tells a))
kind_tells (k.ticket a) = behind_none _ [] (alone (tickets_in (node_of a)) [] (kind_tells a))
kind_tells (k.or a b) = behind_none _ [] (two_kinds a b (kind_tells a) (kind_tells b))
kind_tells (k.pair a b) = behind_none _ [] (two_kinds a b (kind_tells a) (kind_tells b))
kind_tells (k.map a b) = behind_none _ [] (two_kinds a b (kind_tells a) (kind_tells b))
kind_tells (k.big_map a b) = behind_none _ [] (two_kinds a b (kind_tells a) (kind_tells b))
kind_tells (k.lambda a b) = behind_none _ [] (two_kinds a b (kind_tells a) (kind_tells b))

-- ---- values of comparable types hold none

simple_none : (u : Simple) (x : Val) → has_simple_form u x ≡ true → (tickets x ≡ []) × (tickets_in (canonical x) ≡ Some [])
simple_none s.Unit v.unit h = (refl, refl)
simple_none s.Bool (v.truth true) h = (refl, refl)
simple_none s.Bool (v.truth false) h = (refl, refl)
simple_none s.Int (v.number n) h = (refl, refl)
simple_none s.Timestamp (v.number n) h = (refl, refl)
simple_none s.Nat (v.number n) h = (refl, refl)
simple_none s.Mutez (v.number n) h = (refl, refl)
simple_none s.String (v.text b) h = (refl, refl)
simple_none s.Bytes (v.bytes b) h = (refl, refl)
simple_none s.KeyHash (v.bytes b) h = (refl, refl)
simple_none s.Key (v.bytes b) h = (refl, refl)
simple_none s.Signature (v.bytes b) h = (refl, refl)
simple_none s.ChainId (v.bytes b) h = (refl, refl)
simple_none s.Address (v.bytes b) h = (refl, refl)
simple_none _ _ h = absurd cc

both_none : (xs ys : List Held) → xs ≡ [] → ys ≡ [] → xs ++ ys ≡ []
both_none xs ys e g = ap (λ xs. xs ++ ys) e ∙ g

module _ (w : Known) where
  comparable_none : (a : Kind) (x : Val) → comparable a ≡ true → Fits w a x → tickets x ≡ []
  comparable_none (k.simple u) x c h = (simple_none u x h).0
  comparable_none (k.option a) v.nothing c h = refl
  comparable_none (k.option a) (v.some x) c h = comparable_none a x c h
  comparable_none (k.or a b) (v.left x) c h = comparable_none a x (and_parts (comparable a) (comparable b) c).0 h
  comparable_none (k.or a b) (v.right x) c h = comparable_none b x (and_parts (comparable a) (comparable b) c).1 h
  comparable_none (k.pair a b) (v.both x y) c h =
      let cs = and_parts (comparable a) (comparable b) c in
      both_none (tickets x) (tickets y) (comparable_none a x cs.0 h.0) (comparable_none b y cs.1 h.1)
  comparable_none k.operation x c h = absurd cc
  comparable_none (k.list a) x c h = absurd cc
  comparable_none (k.set a) x c h = absurd cc
  comparable_none (k.map a b) x c h = absurd cc
  comparable_none (k.big_map a b) x c h = absurd cc
  comparable_none (k.lambda a b) x c h = absurd cc
  comparable_none (k.contract a) x c h = absurd cc
  comparable_none (k.ticket a) x c h = absurd cc
  comparable_none _ _ c h = absurd h

-- ---- tickets

pub amount_read : (n : ℤ) → is_ticket_amount n ≡ true → amount_from 1 (int n) ≡ Some (unsigned_abs n)
amount_read (pos m) h = ap (λ b. only_if b m) h
amount_read (negsuc m) h = absurd cc

pub issuer_read : (b : List ℕ) → is_place b ≡ true → is_issuer b ≡ true
issuer_read b h = (Decides-eqb (length b) 22).1 (place_length b h)

own_ticket : (issuer : List ℕ) (kind content : Tree) (n : ℤ) → is_issuer issuer ≡ true → is_ticket_amount n ≡ true →
    ticket_of (more (bytes issuer) (more kind (more content (more (int n) none)))) ≡ Some (part held (identity issuer kind content) (unsigned_abs n) ∷ [])
own_ticket issuer kind content n h g =
    ap (λ b. cond b (only_if b (int n) >>= λ n. amount_from 1 n >>= λ n. Some (part held (identity issuer kind content) n ∷ [])) (Some [])) h
    ∙ ap (λ o. o >>= λ n. Some (part held (identity issuer kind content) n ∷ [])) (amount_read n g)

-- the fields of a ticket tell no further one
fields_tell : (issuer : List ℕ) (a : Kind) (x : Val) (n : ℤ) → Tells x → tickets x ≡ [] →
    tickets_within (more (bytes issuer) (more (node_of a) (more (canonical x) (more (int n) none)))) ≡ Some []
fields_tell issuer a x n h e =
    joined [] [] (Some []) _ refl (joined [] [] (tickets_in (node_of a)) _ (kind_tells a) (alone (tickets_in (canonical x)) [] (h ∙ ap (λ ts. Some (map told ts)) e)))

-- ---- all values

elements_tell : (P : Val → Type 0) → ((x : Val) → P x → Tells x) → (xs : Vals) → AllHave P xs → tickets_within (canonicals xs) ≡ Some (map told (all_tickets xs))
elements_tell P one no_val h = refl
elements_tell P one (more_vals x xs) h =
    joined (tickets x) (all_tickets xs) (tickets_in (canonical x)) (tickets_within (canonicals xs)) (one x h.0) (elements_tell P one xs h.1)

elements_none : (P : Val → Type 0) → ((x : Val) → P x → tickets x ≡ []) → (xs : Vals) → AllHave P xs → all_tickets xs ≡ []
elements_none P one no_val h = refl
elements_none P one (more_vals x xs) h = both_none (tickets x) (all_tickets xs) (one x h.0) (elements_none P one xs h.1)

entries_tell : (P Q : Val → Type 0) → ((x : Val) → P x → Tells x × (tickets x ≡ [])) → ((x : Val) → Q x → Tells x) → (es : Pairs) → AllEntriesHave P Q es →
    tickets_within (canonical_entries es) ≡ Some (map told (pair_tickets es))
entries_tell P Q one two no_pair h = refl
entries_tell P Q one two (more_pairs x y es) h =
    joined (tickets y) (pair_tickets es) (tickets_in (prim (codes "Elt") [] (more (canonical x) (more (canonical y) none)))) (tickets_within (canonical_entries es))
    (behind_none _ (tickets y) (joined [] (tickets y) (tickets_in (canonical x)) _ ((one x h.0).0 ∙ ap (λ ts. Some (map told ts)) (one x h.0).1) (alone (tickets_in (canonical y)) (tickets y) (two y h.1))))
    (entries_tell P Q one two es h.2)

under_one : (x : Val) → Tells x → (Some [] >>= λ ps. tickets_within (more (canonical x) none) >>= λ qs. Some (ps ++ qs)) ≡ Some (map told (tickets x))
under_one x h = behind_none (tickets_within (more (canonical x) none)) (tickets x) (alone (tickets_in (canonical x)) (tickets x) h)

led : (T : Typing) (C : List Kind) → Leads T C → IsTyped T
led (goes B) C h = tt
led fails C h = tt
led (bad l) C h = absurd h

module _ (w : Known) where
  pub fitting_tells : (a : Kind) (x : Val) → IsWellFormed a → Fits w a x → Tells x
  fitting_tells (k.simple u) x f h = (simple_none u x h).1 ∙ ap (λ ts. Some (map told ts)) (sym (simple_none u x h).0)
  fitting_tells k.operation (v.operation n) f h = refl
  fitting_tells (k.option a) v.nothing f h = refl
  fitting_tells (k.option a) (v.some x) f h = under_one x (fitting_tells a x f h)
  fitting_tells (k.or a b) (v.left x) f h = under_one x (fitting_tells a x f.0 h)
  fitting_tells (k.or a b) (v.right x) f h = under_one x (fitting_tells b x f.1 h)
  fitting_tells (k.pair a b) (v.both x y) f h =
      behind_none (tickets_within (more (canonical x) (more (canonical y) none))) (tickets x ++ tickets y)
      (joined (tickets x) (tickets y) (tickets_in (canonical x)) _ (fitting_tells a x f.0 h.0) (alone (tickets_in (canonical y)) (tickets y) (fitting_tells b y f.1 h.1)))
  fitting_tells (k.list a) (v.list xs) f h = elements_tell (Fits w a) (λ x. fitting_tells a x f) xs h
  fitting_tells (k.set a) (v.set xs) f h =
      elements_tell (Fits w a) (λ x. fitting_tells a x f.1) xs h.0 ∙ ap (λ ts. Some (map told ts)) (elements_none (Fits w a) (λ x. comparable_none w a x f.0) xs h.0)
  fitting_tells (k.map a b) (v.table es) f h =
      entries_tell (Fits w a) (Fits w b) (λ x g. (fitting_tells a x f.1 g, comparable_none w a x f.0 g)) (λ x. fitting_tells b x f.2) es h.0
  fitting_tells (k.big_map a b) (v.big_table es) f h =
      entries_tell (Fits w a) (Fits w b) (λ x g. (fitting_tells a x f.2 g, comparable_none w a x f.0 g)) (λ x. fitting_tells b x f.3) es h.0
  fitting_tells (k.lambda a b) (v.lambda t true) f h =
      behind_none (tickets_within (more t none)) [] (alone (tickets_in t) [] (code_tells t (typed_code_has_codes t place.lambda (call_kinds a b true) (led _ (b ∷ []) h.2))))
  fitting_tells (k.lambda a b) (v.lambda t false) f h = code_tells t (typed_code_has_codes t place.lambda (call_kinds a b false) (led _ (b ∷ []) h.2))
  fitting_tells (k.contract a) (v.bytes b) f h = refl
  fitting_tells (k.ticket a) (v.ticket issuer kind content amount) f h =
      joined (record { issuer = issuer; kind = kind; content = content; amount = amount } ∷ []) [] (ticket_of (more (bytes issuer) (more (node_of kind) (more (canonical content) (more (int amount) none))))) _
      (own_ticket issuer (node_of kind) (canonical content) amount (issuer_read issuer h.3) h.2)
      (fields_tell issuer kind content amount (fitting_tells a content f.1 h.1) (comparable_none w a content f.0 h.1))
  fitting_tells _ _ f h = absurd h
