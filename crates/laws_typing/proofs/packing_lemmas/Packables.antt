-- A value that fits a packable type can be packed.
use Rattle.std.proofs.Common.{◌≡◌, ◌<◌, ◌^◌, ℕ, true, Option, Some, None, List, [], ◌∷◌, refl, subst}
use Rattle.rules_text.specs.nodes.Tree.{Tree, size}
use Rattle.rules_code.specs.instructions.Arguments.{found}
use Rattle.rules_code.specs.typing.Literals.{Checked, checked, of_reading, fault_of_bodies}
use Rattle.std.proofs.lemmas.Bool.{and_parts}
use Rattle.rules_data.specs.declared.types.Simple.{Simple}
use Rattle.rules_data.specs.declared.types.Simple.TheVariants as s
use Rattle.rules_data.specs.types.Kind.{Kind}
use Rattle.rules_data.specs.types.Kind as k
use Rattle.rules_data.specs.types.Attributes.{packable}
use Rattle.rules_data.specs.values.Val.{Val, Vals, no_val, more_vals, Pairs, no_pair, more_pairs}
use Rattle.rules_data.specs.values.Val as v
use Rattle.rules_data.specs.values.Forms.{has_simple_form, AllHave, AllEntriesHave}
use Rattle.rules_data.specs.values.Literals.{Pending, body, claim, Literal, good, read, claims}
use Rattle.rules_data.specs.values.Literals as literals
use Rattle.rules_code.specs.instructions.Context as place
use Rattle.rules_code.specs.instructions.Control.{call_kinds}
use Rattle.rules_code.specs.typing.Typing.{Typing, goes, fails, bad}
use Rattle.rules_code.specs.typing.Nodes.{tree_type}
use Rattle.rules_code.specs.typing.Fits.{Known, Fits, Leads}
use Rattle.laws_typing.specs.literals.Laws.{told_by, AllClaimed}
use Rattle.laws_typing.proofs.literals_lemmas.ForCallers.{literals_fit}
use Rattle.laws_typing.specs.packing.Laws.{IsTyped, FittingIsPackable, LiteralIsPackable}
use Rattle.laws_typing.specs.packing.Names.{IsPackable, ArePackable, EntriesArePackable}
use Rattle.laws_typing.proofs.packing_lemmas.TypedCode.{typed_code_has_codes}

led : (T : Typing) (C : List Kind) → Leads T C → IsTyped T
led (goes B) C h = tt
led fails C h = tt
led (bad l) C h = absurd h

simple_packable : (u : Simple) (x : Val) → has_simple_form u x ≡ true → IsPackable x
simple_packable s.Unit v.unit h = tt
simple_packable s.Bool (v.truth b) h = tt
simple_packable s.Int (v.number n) h = tt
simple_packable s.Timestamp (v.number n) h = tt
simple_packable s.Nat (v.number n) h = tt
simple_packable s.Mutez (v.number n) h = tt
simple_packable s.String (v.text b) h = tt
simple_packable s.Bytes (v.bytes b) h = tt
simple_packable s.KeyHash (v.bytes b) h = tt
simple_packable s.Key (v.bytes b) h = tt
simple_packable s.Signature (v.bytes b) h = tt
simple_packable s.ChainId (v.bytes b) h = tt
simple_packable s.Address (v.bytes b) h = tt
simple_packable _ _ h = absurd cc

all_packable : (P : Val → Type 0) → ((x : Val) → P x → IsPackable x) → (xs : Vals) → AllHave P xs → ArePackable xs
all_packable P one no_val h = tt
all_packable P one (more_vals x xs) h = (one x h.0, all_packable P one xs h.1)

entries_packable : (P Q : Val → Type 0) → ((x : Val) → P x → IsPackable x) → ((x : Val) → Q x → IsPackable x) → (es : Pairs) → AllEntriesHave P Q es → EntriesArePackable es
entries_packable P Q one two no_pair h = tt
entries_packable P Q one two (more_pairs x y es) h = (one x h.0, two y h.1, entries_packable P Q one two es h.2)

module _ (w : Known) where
  pub fitting : (a : Kind) (x : Val) → packable a ≡ true → Fits w a x → IsPackable x
  fitting (k.simple u) x p h = simple_packable u x h
  fitting k.operation x p h = absurd cc
  fitting (k.option a) v.nothing p h = tt
  fitting (k.option a) (v.some x) p h = fitting a x p h
  fitting (k.or a b) (v.left x) p h = fitting a x (and_parts (packable a) (packable b) p).0 h
  fitting (k.or a b) (v.right x) p h = fitting b x (and_parts (packable a) (packable b) p).1 h
  fitting (k.pair a b) (v.both x y) p h = let q = and_parts (packable a) (packable b) p in (fitting a x q.0 h.0, fitting b y q.1 h.1)
  fitting (k.list a) (v.list xs) p h = all_packable (Fits w a) (λ x g. fitting a x p g) xs h
  fitting (k.set a) (v.set xs) p h = all_packable (Fits w a) (λ x g. fitting a x p g) xs h.0
  fitting (k.map a b) (v.table es) p h =
      let q = and_parts (packable a) (packable b) p in
      entries_packable (Fits w a) (Fits w b) (λ x g. fitting a x q.0 g) (λ x g. fitting b x q.1 g) es h.0
  fitting (k.big_map a b) x p h = absurd cc
  fitting (k.lambda a b) (v.lambda t recursive) p h =
      typed_code_has_codes t place.lambda (call_kinds a b recursive) (led (tree_type t place.lambda (call_kinds a b recursive)) (b ∷ []) h.2)
  fitting (k.contract a) (v.bytes b) p h = tt
  fitting (k.ticket a) x p h = absurd cc
  fitting _ _ p h = absurd h

-- all contracts that a literal names are taken to be there
all_claimed : (ps : List Pending) → AllClaimed (told_by (λ b a. true) (λ n. true)) ps
all_claimed [] = tt
all_claimed (claim l b a ∷ ps) = (refl, all_claimed ps)
all_claimed (body l a r recursive t ∷ ps) = all_claimed ps

pub literal_is_packable : LiteralIsPackable
literal_is_packable a at t x ps p e wrong small =
    fitting (told_by (λ b a. true) (λ n. true)) a x p (literals_fit (λ b a. true) (λ n. true) a at t x ps e wrong (all_claimed ps) small)

pub fitting_is_packable : FittingIsPackable
fitting_is_packable is_contract is_issued a x p h = fitting (told_by is_contract is_issued) a x p h

-- a literal that is typed
pub checked_is_packable : (a : Kind) (at : ℕ) (t : Tree) (c : Checked) → packable a ≡ true → size t < 2 ^ 32 → of_reading (read a at t) ≡ found c → IsPackable c.value
checked_is_packable a at t c p small e = by (read a at t) refl e
  where
    value_is : (x y : Checked) → found x ≡ found y → x ≡ y
    value_is x y e = cc

    by : (l : Literal Val) → read a at t ≡ l → of_reading l ≡ found c → IsPackable c.value
    by (good x ps) r e = tried (fault_of_bodies ps) refl e
      where
        tried : (o : Option ℕ) → fault_of_bodies ps ≡ o → checked x ps o ≡ found c → IsPackable c.value
        tried None none e =
            subst (λ (d : Checked). IsPackable d.value) (value_is (record { value = x; claims = claims ps }) c e) (literal_is_packable a at t x ps p r none small)
        tried (Some l) some e = absurd cc
    by (literals.bad l) r e = absurd cc
