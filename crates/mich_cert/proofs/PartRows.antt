-- The lines on the order of the stack, on pairs, unions, options and lists are the rules of the instructions.
use Rattle.std.proofs.Common.{◌≡◌, Bool, true, false, Some, None, List, [], ◌∷◌, refl}
use Rattle.rules_text.specs.declared.nodes.Primitive.TheVariants as p
use Rattle.rules_data.specs.types.Kind.{Kind}
use Rattle.rules_data.specs.types.Kind as k
use Rattle.rules_code.specs.instructions.Types as t
use Rattle.rules_code.specs.instructions.Same.{same_kind}
use Rattle.mich_cert.specs.Words.{nothing}
use Rattle.mich_cert.specs.Table as table
use Rattle.mich_cert.specs.declared.words.Word.TheVariants as w
use Rattle.mich_cert.specs.Leading.{leads, bare}
use Rattle.mich_cert.proofs.Spelling.{nil, put, spelled, names_a, names_b, names_list, names_option, names_unit}

pub swap_rules : (A B : List Kind) → table.stack p.OpSwap A B ≡ leads (bare p.OpSwap A) B
swap_rules (a ∷ b ∷ A) B = spelled (w.B ∷ w.A ∷ []) (record { a = Some a; b = Some b; c = None }) A (b ∷ a ∷ A) (put names_b (put names_a nil)) B
swap_rules (a ∷ []) B = refl
swap_rules A B = refl

pub unit_rules : (A B : List Kind) → table.stack p.OpUnit A B ≡ leads (bare p.OpUnit A) B
unit_rules A B = spelled (w.Unit ∷ []) nothing A (t.unit ∷ A) (put names_unit nil) B

pub rename_rules : (A B : List Kind) → table.stack p.OpRename A B ≡ leads (bare p.OpRename A) B
rename_rules (a ∷ A) B = spelled (w.A ∷ []) (record { a = Some a; b = None; c = None }) A (a ∷ A) (put names_a nil) B
rename_rules A B = refl

pub car_rules : (A B : List Kind) → table.parts p.OpCar A B ≡ leads (bare p.OpCar A) B
car_rules (k.pair a b ∷ A) B = spelled (w.A ∷ []) (record { a = Some a; b = Some b; c = None }) A (a ∷ A) (put names_a nil) B
car_rules A B = refl

pub cdr_rules : (A B : List Kind) → table.parts p.OpCdr A B ≡ leads (bare p.OpCdr A) B
cdr_rules (k.pair a b ∷ A) B = spelled (w.B ∷ []) (record { a = Some a; b = Some b; c = None }) A (b ∷ A) (put names_b nil) B
cdr_rules A B = refl

pub some_rules : (A B : List Kind) → table.parts p.OpSome A B ≡ leads (bare p.OpSome A) B
some_rules (a ∷ A) B = spelled (w.Option ∷ w.A ∷ []) (record { a = Some a; b = None; c = None }) A ((k.option a) ∷ A) (put (names_option names_a) nil) B
some_rules A B = refl

cons_fits : (a b : Kind) (A B : List Kind) → (q : Bool) → (same_kind a b) ≡ q → table.parts p.OpCons (a ∷ k.list b ∷ A) B ≡ leads (bare p.OpCons (a ∷ k.list b ∷ A)) B
cons_fits a b A B true e = rw e (spelled (w.List ∷ w.A ∷ []) (record { a = Some b; b = None; c = None }) A ((k.list b) ∷ A) (put (names_list names_a) nil) B)
cons_fits a b A B false e = rw e refl

pub cons_rules : (A B : List Kind) → table.parts p.OpCons A B ≡ leads (bare p.OpCons A) B
cons_rules (a ∷ k.list b ∷ A) B = cons_fits a b A B (same_kind a b) refl
cons_rules (a ∷ []) B = refl
cons_rules A B = refl
