-- The lines on truth values, bits and comparison are the rules of the instructions.
use Rattle.std.proofs.Common.{◌≡◌, Bool, true, false, Some, None, List, [], ◌∷◌, refl, ◌∙◌}
use Rattle.rules_text.specs.declared.nodes.Primitive.TheVariants as p
use Rattle.rules_data.specs.types.Kind.{Kind}
use Rattle.rules_data.specs.types.Attributes.{comparable}
use Rattle.rules_code.specs.instructions.Types as t
use Rattle.rules_code.specs.instructions.Same.{same_kind}
use Rattle.mich_cert.specs.Words.{nothing}
use Rattle.mich_cert.specs.Table as table
use Rattle.mich_cert.specs.declared.words.Word.TheVariants as w
use Rattle.mich_cert.specs.Leading.{leads, bare}
use Rattle.mich_cert.proofs.Tests.{or_rest}
use Rattle.mich_cert.proofs.Spelling.{nil, put, spelled, names_bool, names_int, names_nat}

pub and_rules : (A B : List Kind) → table.logic p.OpAnd A B ≡ leads (bare p.OpAnd A) B
and_rules (t.bool ∷ t.bool ∷ A) B = or_rest _ _ refl ∙ or_rest _ _ refl ∙ spelled (w.Bool ∷ []) nothing A (t.bool ∷ A) (put names_bool nil) B
and_rules (t.nat ∷ t.nat ∷ A) B = or_rest _ _ refl ∙ spelled (w.Nat ∷ []) nothing A (t.nat ∷ A) (put names_nat nil) B
and_rules (t.int ∷ t.nat ∷ A) B = spelled (w.Nat ∷ []) nothing A (t.nat ∷ A) (put names_nat nil) B
and_rules (a ∷ []) B = refl
and_rules A B = refl

pub or_rules : (A B : List Kind) → table.logic p.OpOr A B ≡ leads (bare p.OpOr A) B
or_rules (t.bool ∷ t.bool ∷ A) B = or_rest _ _ refl ∙ spelled (w.Bool ∷ []) nothing A (t.bool ∷ A) (put names_bool nil) B
or_rules (t.nat ∷ t.nat ∷ A) B = spelled (w.Nat ∷ []) nothing A (t.nat ∷ A) (put names_nat nil) B
or_rules (a ∷ []) B = refl
or_rules A B = refl

pub xor_rules : (A B : List Kind) → table.logic p.OpXor A B ≡ leads (bare p.OpXor A) B
xor_rules (t.bool ∷ t.bool ∷ A) B = or_rest _ _ refl ∙ spelled (w.Bool ∷ []) nothing A (t.bool ∷ A) (put names_bool nil) B
xor_rules (t.nat ∷ t.nat ∷ A) B = spelled (w.Nat ∷ []) nothing A (t.nat ∷ A) (put names_nat nil) B
xor_rules (a ∷ []) B = refl
xor_rules A B = refl

pub not_rules : (A B : List Kind) → table.logic p.OpNot A B ≡ leads (bare p.OpNot A) B
not_rules (t.bool ∷ A) B = or_rest _ _ refl ∙ or_rest _ _ refl ∙ spelled (w.Bool ∷ []) nothing A (t.bool ∷ A) (put names_bool nil) B
not_rules (t.nat ∷ A) B = or_rest _ _ refl ∙ spelled (w.Int ∷ []) nothing A (t.int ∷ A) (put names_int nil) B
not_rules (t.int ∷ A) B = spelled (w.Int ∷ []) nothing A (t.int ∷ A) (put names_int nil) B
not_rules A B = refl

compare_one : (a : Kind) (B : List Kind) (q : Bool) → comparable a ≡ q → table.logic p.OpCompare (a ∷ []) B ≡ leads (bare p.OpCompare (a ∷ [])) B
compare_one a B true e = rw e refl
compare_one a B false e = rw e refl

compare_fits : (a b : Kind) (A B : List Kind) → (q : Bool) → (comparable a) ≡ q → (r : Bool) → (same_kind a b) ≡ r → table.logic p.OpCompare (a ∷ b ∷ A) B ≡ leads (bare p.OpCompare (a ∷ b ∷ A)) B
compare_fits a b A B true e true f = rw (e, f) (spelled (w.Int ∷ []) (record { a = Some b; b = None; c = None }) A (t.int ∷ A) (put names_int nil) B)
compare_fits a b A B true e false f = rw (e, f) refl
compare_fits a b A B false e true f = rw (e, f) refl
compare_fits a b A B false e false f = rw (e, f) refl

pub compare_rules : (A B : List Kind) → table.logic p.OpCompare A B ≡ leads (bare p.OpCompare A) B
compare_rules (a ∷ b ∷ A) B = compare_fits a b A B (comparable a) refl (same_kind a b) refl
compare_rules (a ∷ []) B = compare_one a B (comparable a) refl
compare_rules A B = refl

pub eq_rules : (A B : List Kind) → table.logic p.OpEq A B ≡ leads (bare p.OpEq A) B
eq_rules (t.int ∷ A) B = spelled (w.Bool ∷ []) nothing A (t.bool ∷ A) (put names_bool nil) B
eq_rules A B = refl

pub neq_rules : (A B : List Kind) → table.logic p.OpNeq A B ≡ leads (bare p.OpNeq A) B
neq_rules (t.int ∷ A) B = spelled (w.Bool ∷ []) nothing A (t.bool ∷ A) (put names_bool nil) B
neq_rules A B = refl

pub lt_rules : (A B : List Kind) → table.logic p.OpLt A B ≡ leads (bare p.OpLt A) B
lt_rules (t.int ∷ A) B = spelled (w.Bool ∷ []) nothing A (t.bool ∷ A) (put names_bool nil) B
lt_rules A B = refl

pub gt_rules : (A B : List Kind) → table.logic p.OpGt A B ≡ leads (bare p.OpGt A) B
gt_rules (t.int ∷ A) B = spelled (w.Bool ∷ []) nothing A (t.bool ∷ A) (put names_bool nil) B
gt_rules A B = refl

pub le_rules : (A B : List Kind) → table.logic p.OpLe A B ≡ leads (bare p.OpLe A) B
le_rules (t.int ∷ A) B = spelled (w.Bool ∷ []) nothing A (t.bool ∷ A) (put names_bool nil) B
le_rules A B = refl

pub ge_rules : (A B : List Kind) → table.logic p.OpGe A B ≡ leads (bare p.OpGe A) B
ge_rules (t.int ∷ A) B = spelled (w.Bool ∷ []) nothing A (t.bool ∷ A) (put names_bool nil) B
ge_rules A B = refl
