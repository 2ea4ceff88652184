-- The lines on numbers are the rules of the instructions.
use Rattle.std.proofs.Common.{◌≡◌, List, [], ◌∷◌, refl, ◌∙◌}
use Rattle.rules_text.specs.declared.nodes.Primitive.TheVariants as p
use Rattle.rules_data.specs.types.Kind.{Kind}
use Rattle.rules_data.specs.types.Kind as k
use Rattle.rules_code.specs.instructions.Types as t
use Rattle.mich_cert.specs.Words.{nothing}
use Rattle.mich_cert.specs.Table as table
use Rattle.mich_cert.specs.declared.words.Word.TheVariants as w
use Rattle.mich_cert.specs.Leading.{leads, bare}
use Rattle.mich_cert.proofs.Tests.{or_rest}
use Rattle.mich_cert.proofs.Spelling.{nil, put, spelled, names_bytes, names_int, names_mutez, names_nat, names_option, names_pair, names_timestamp}

pub add_rules : (A B : List Kind) → table.numbers p.OpAdd A B ≡ leads (bare p.OpAdd A) B
add_rules (t.nat ∷ t.nat ∷ A) B = or_rest _ _ refl ∙ or_rest _ _ refl ∙ or_rest _ _ refl ∙ or_rest _ _ refl ∙ or_rest _ _ refl ∙ or_rest _ _ refl ∙ spelled (w.Nat ∷ []) nothing A (t.nat ∷ A) (put names_nat nil) B
add_rules (t.nat ∷ t.int ∷ A) B = or_rest _ _ refl ∙ or_rest _ _ refl ∙ or_rest _ _ refl ∙ or_rest _ _ refl ∙ or_rest _ _ refl ∙ spelled (w.Int ∷ []) nothing A (t.int ∷ A) (put names_int nil) B
add_rules (t.int ∷ t.nat ∷ A) B = or_rest _ _ refl ∙ or_rest _ _ refl ∙ or_rest _ _ refl ∙ or_rest _ _ refl ∙ spelled (w.Int ∷ []) nothing A (t.int ∷ A) (put names_int nil) B
add_rules (t.int ∷ t.int ∷ A) B = or_rest _ _ refl ∙ or_rest _ _ refl ∙ or_rest _ _ refl ∙ spelled (w.Int ∷ []) nothing A (t.int ∷ A) (put names_int nil) B
add_rules (t.timestamp ∷ t.int ∷ A) B = or_rest _ _ refl ∙ or_rest _ _ refl ∙ spelled (w.Timestamp ∷ []) nothing A (t.timestamp ∷ A) (put names_timestamp nil) B
add_rules (t.int ∷ t.timestamp ∷ A) B = or_rest _ _ refl ∙ spelled (w.Timestamp ∷ []) nothing A (t.timestamp ∷ A) (put names_timestamp nil) B
add_rules (t.mutez ∷ t.mutez ∷ A) B = spelled (w.Mutez ∷ []) nothing A (t.mutez ∷ A) (put names_mutez nil) B
add_rules (a ∷ []) B = refl
add_rules A B = refl

pub sub_rules : (A B : List Kind) → table.numbers p.OpSub A B ≡ leads (bare p.OpSub A) B
sub_rules (t.nat ∷ t.nat ∷ A) B = or_rest _ _ refl ∙ or_rest _ _ refl ∙ or_rest _ _ refl ∙ or_rest _ _ refl ∙ or_rest _ _ refl ∙ spelled (w.Int ∷ []) nothing A (t.int ∷ A) (put names_int nil) B
sub_rules (t.nat ∷ t.int ∷ A) B = or_rest _ _ refl ∙ or_rest _ _ refl ∙ or_rest _ _ refl ∙ or_rest _ _ refl ∙ spelled (w.Int ∷ []) nothing A (t.int ∷ A) (put names_int nil) B
sub_rules (t.int ∷ t.nat ∷ A) B = or_rest _ _ refl ∙ or_rest _ _ refl ∙ or_rest _ _ refl ∙ spelled (w.Int ∷ []) nothing A (t.int ∷ A) (put names_int nil) B
sub_rules (t.int ∷ t.int ∷ A) B = or_rest _ _ refl ∙ or_rest _ _ refl ∙ spelled (w.Int ∷ []) nothing A (t.int ∷ A) (put names_int nil) B
sub_rules (t.timestamp ∷ t.int ∷ A) B = or_rest _ _ refl ∙ spelled (w.Timestamp ∷ []) nothing A (t.timestamp ∷ A) (put names_timestamp nil) B
sub_rules (t.timestamp ∷ t.timestamp ∷ A) B = spelled (w.Int ∷ []) nothing A (t.int ∷ A) (put names_int nil) B
sub_rules (a ∷ []) B = refl
sub_rules A B = refl

pub sub_mutez_rules : (A B : List Kind) → table.numbers p.OpSubMutez A B ≡ leads (bare p.OpSubMutez A) B
sub_mutez_rules (t.mutez ∷ t.mutez ∷ A) B = spelled (w.Option ∷ w.Mutez ∷ []) nothing A ((k.option t.mutez) ∷ A) (put (names_option names_mutez) nil) B
sub_mutez_rules (a ∷ []) B = refl
sub_mutez_rules A B = refl

pub mul_rules : (A B : List Kind) → table.numbers p.OpMul A B ≡ leads (bare p.OpMul A) B
mul_rules (t.nat ∷ t.nat ∷ A) B = or_rest _ _ refl ∙ or_rest _ _ refl ∙ or_rest _ _ refl ∙ or_rest _ _ refl ∙ or_rest _ _ refl ∙ spelled (w.Nat ∷ []) nothing A (t.nat ∷ A) (put names_nat nil) B
mul_rules (t.nat ∷ t.int ∷ A) B = or_rest _ _ refl ∙ or_rest _ _ refl ∙ or_rest _ _ refl ∙ or_rest _ _ refl ∙ spelled (w.Int ∷ []) nothing A (t.int ∷ A) (put names_int nil) B
mul_rules (t.int ∷ t.nat ∷ A) B = or_rest _ _ refl ∙ or_rest _ _ refl ∙ or_rest _ _ refl ∙ spelled (w.Int ∷ []) nothing A (t.int ∷ A) (put names_int nil) B
mul_rules (t.int ∷ t.int ∷ A) B = or_rest _ _ refl ∙ or_rest _ _ refl ∙ spelled (w.Int ∷ []) nothing A (t.int ∷ A) (put names_int nil) B
mul_rules (t.mutez ∷ t.nat ∷ A) B = or_rest _ _ refl ∙ spelled (w.Mutez ∷ []) nothing A (t.mutez ∷ A) (put names_mutez nil) B
mul_rules (t.nat ∷ t.mutez ∷ A) B = spelled (w.Mutez ∷ []) nothing A (t.mutez ∷ A) (put names_mutez nil) B
mul_rules (a ∷ []) B = refl
mul_rules (a ∷ t.mutez ∷ A) B = refl
mul_rules A B = refl

pub ediv_rules : (A B : List Kind) → table.numbers p.OpEdiv A B ≡ leads (bare p.OpEdiv A) B
ediv_rules (t.nat ∷ t.nat ∷ A) B = or_rest _ _ refl ∙ or_rest _ _ refl ∙ or_rest _ _ refl ∙ or_rest _ _ refl ∙ or_rest _ _ refl ∙ spelled (w.Option ∷ w.Pair ∷ w.Nat ∷ w.Nat ∷ []) nothing A ((k.option (k.pair t.nat t.nat)) ∷ A) (put (names_option (names_pair names_nat names_nat)) nil) B
ediv_rules (t.nat ∷ t.int ∷ A) B = or_rest _ _ refl ∙ or_rest _ _ refl ∙ or_rest _ _ refl ∙ or_rest _ _ refl ∙ spelled (w.Option ∷ w.Pair ∷ w.Int ∷ w.Nat ∷ []) nothing A ((k.option (k.pair t.int t.nat)) ∷ A) (put (names_option (names_pair names_int names_nat)) nil) B
ediv_rules (t.int ∷ t.nat ∷ A) B = or_rest _ _ refl ∙ or_rest _ _ refl ∙ or_rest _ _ refl ∙ spelled (w.Option ∷ w.Pair ∷ w.Int ∷ w.Nat ∷ []) nothing A ((k.option (k.pair t.int t.nat)) ∷ A) (put (names_option (names_pair names_int names_nat)) nil) B
ediv_rules (t.int ∷ t.int ∷ A) B = or_rest _ _ refl ∙ or_rest _ _ refl ∙ spelled (w.Option ∷ w.Pair ∷ w.Int ∷ w.Nat ∷ []) nothing A ((k.option (k.pair t.int t.nat)) ∷ A) (put (names_option (names_pair names_int names_nat)) nil) B
ediv_rules (t.mutez ∷ t.nat ∷ A) B = or_rest _ _ refl ∙ spelled (w.Option ∷ w.Pair ∷ w.Mutez ∷ w.Mutez ∷ []) nothing A ((k.option (k.pair t.mutez t.mutez)) ∷ A) (put (names_option (names_pair names_mutez names_mutez)) nil) B
ediv_rules (t.mutez ∷ t.mutez ∷ A) B = spelled (w.Option ∷ w.Pair ∷ w.Nat ∷ w.Mutez ∷ []) nothing A ((k.option (k.pair t.nat t.mutez)) ∷ A) (put (names_option (names_pair names_nat names_mutez)) nil) B
ediv_rules (a ∷ []) B = refl
ediv_rules A B = refl

pub abs_rules : (A B : List Kind) → table.numbers p.OpAbs A B ≡ leads (bare p.OpAbs A) B
abs_rules (t.int ∷ A) B = spelled (w.Nat ∷ []) nothing A (t.nat ∷ A) (put names_nat nil) B
abs_rules A B = refl

pub neg_rules : (A B : List Kind) → table.numbers p.OpNeg A B ≡ leads (bare p.OpNeg A) B
neg_rules (t.nat ∷ A) B = or_rest _ _ refl ∙ spelled (w.Int ∷ []) nothing A (t.int ∷ A) (put names_int nil) B
neg_rules (t.int ∷ A) B = spelled (w.Int ∷ []) nothing A (t.int ∷ A) (put names_int nil) B
neg_rules A B = refl

pub int_rules : (A B : List Kind) → table.numbers p.OpInt A B ≡ leads (bare p.OpInt A) B
int_rules (t.nat ∷ A) B = or_rest _ _ refl ∙ spelled (w.Int ∷ []) nothing A (t.int ∷ A) (put names_int nil) B
int_rules (t.bytes ∷ A) B = spelled (w.Int ∷ []) nothing A (t.int ∷ A) (put names_int nil) B
int_rules A B = refl

pub nat_rules : (A B : List Kind) → table.numbers p.OpNat A B ≡ leads (bare p.OpNat A) B
nat_rules (t.bytes ∷ A) B = spelled (w.Nat ∷ []) nothing A (t.nat ∷ A) (put names_nat nil) B
nat_rules A B = refl

pub bytes_rules : (A B : List Kind) → table.numbers p.OpBytes A B ≡ leads (bare p.OpBytes A) B
bytes_rules (t.nat ∷ A) B = or_rest _ _ refl ∙ spelled (w.Bytes ∷ []) nothing A (t.bytes ∷ A) (put names_bytes nil) B
bytes_rules (t.int ∷ A) B = spelled (w.Bytes ∷ []) nothing A (t.bytes ∷ A) (put names_bytes nil) B
bytes_rules A B = refl

pub isnat_rules : (A B : List Kind) → table.numbers p.OpIsnat A B ≡ leads (bare p.OpIsnat A) B
isnat_rules (t.int ∷ A) B = spelled (w.Option ∷ w.Nat ∷ []) nothing A ((k.option t.nat) ∷ A) (put (names_option names_nat) nil) B
isnat_rules A B = refl

pub lsl_rules : (A B : List Kind) → table.numbers p.OpLsl A B ≡ leads (bare p.OpLsl A) B
lsl_rules (t.nat ∷ t.nat ∷ A) B = spelled (w.Nat ∷ []) nothing A (t.nat ∷ A) (put names_nat nil) B
lsl_rules (a ∷ []) B = refl
lsl_rules A B = refl

pub lsr_rules : (A B : List Kind) → table.numbers p.OpLsr A B ≡ leads (bare p.OpLsr A) B
lsr_rules (t.nat ∷ t.nat ∷ A) B = spelled (w.Nat ∷ []) nothing A (t.nat ∷ A) (put names_nat nil) B
lsr_rules (a ∷ []) B = refl
lsr_rules A B = refl
