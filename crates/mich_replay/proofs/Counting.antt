-- Groups that are counted.
use Rattle.std.proofs.Common.{◌≡◌, ◌+◌, ◌≤◌, Bool, true, false, cond, List, [], ◌∷◌, ◌++◌, length, refl, sym, ap, ◌∙◌, arith}
use Rattle.rules_world.specs.summary.Summary.{was_applied, has_failed, count_of, calls_in}
use Rattle.rules_world.specs.world.Receipts as rules
use Rattle.rules_world.specs.world.Receipts.{Receipt}
use Rattle.mich_ops.specs.Told.{ToldReceipt, told_receipt}
use Rattle.mich_replay.specs.Generating.{told_applied, told_failed}

-- ---- one group

applied_told : (found : Receipt) → told_applied (told_receipt found) ≡ was_applied found
applied_told (rules.Refused fault) = refl
applied_told (rules.Done []) = refl
applied_told (rules.Done (rules.Applied gas effects ∷ [])) = refl
applied_told (rules.Done (rules.Backtracked ∷ [])) = refl
applied_told (rules.Done (rules.Failed count failure ∷ [])) = refl
applied_told (rules.Done (rules.Skipped ∷ [])) = refl
applied_told (rules.Done (rules.Applied gas effects ∷ s ∷ ss)) = refl
applied_told (rules.Done (rules.Backtracked ∷ s ∷ ss)) = refl
applied_told (rules.Done (rules.Failed count failure ∷ s ∷ ss)) = refl
applied_told (rules.Done (rules.Skipped ∷ s ∷ ss)) = refl

failed_told : (found : Receipt) → told_failed (told_receipt found) ≡ has_failed found
failed_told (rules.Refused fault) = refl
failed_told (rules.Done []) = refl
failed_told (rules.Done (rules.Applied gas effects ∷ [])) = refl
failed_told (rules.Done (rules.Backtracked ∷ [])) = refl
failed_told (rules.Done (rules.Failed count failure ∷ [])) = refl
failed_told (rules.Done (rules.Skipped ∷ [])) = refl
failed_told (rules.Done (rules.Applied gas effects ∷ s ∷ ss)) = refl
failed_told (rules.Done (rules.Backtracked ∷ s ∷ ss)) = refl
failed_told (rules.Done (rules.Failed count failure ∷ s ∷ ss)) = refl
failed_told (rules.Done (rules.Skipped ∷ s ∷ ss)) = refl

pub applied_of : (r : ToldReceipt) (found : Receipt) → told_receipt found ≡ r → told_applied r ≡ was_applied found
applied_of r found e = ap told_applied (sym e) ∙ applied_told found

pub failed_of : (r : ToldReceipt) (found : Receipt) → told_receipt found ≡ r → told_failed r ≡ has_failed found
failed_of r found e = ap told_failed (sym e) ∙ failed_told found

-- ---- all groups

count_more : (is_so : Receipt → Bool) (receipts : List Receipt) (found : Receipt) → count_of is_so (receipts ++ found ∷ []) ≡ count_of is_so receipts + cond (is_so found) 1 0
count_more is_so [] found = omega arith
count_more is_so (r ∷ rs) found = omega (arith, count_more is_so rs found)

pub at_most_one : (b : Bool) → cond b 1 0 ≤ 1
at_most_one true = omega arith
at_most_one false = omega arith

count_few : (is_so : Receipt → Bool) (receipts : List Receipt) → count_of is_so receipts ≤ length receipts
count_few is_so [] = omega arith
count_few is_so (r ∷ rs) = omega (arith, count_few is_so rs, at_most_one (is_so r))

calls_few : (receipts : List Receipt) → length (calls_in receipts) ≤ length receipts
calls_few [] = omega arith
calls_few (r ∷ rs) = omega arith

pub few : (is_so : Receipt → Bool) (receipts : List Receipt) → count_of is_so (calls_in receipts) ≤ length receipts
few is_so receipts = omega (arith, count_few is_so (calls_in receipts), calls_few receipts)

pub none : (is_so : Receipt → Bool) (receipts : List Receipt) (found : Receipt) → length receipts ≡ 0 → count_of is_so (calls_in (receipts ++ found ∷ [])) ≡ 0
none is_so [] found e = refl
none is_so (r ∷ rs) found e = absurd (omega (arith, e))

pub more : (is_so : Receipt → Bool) (receipts : List Receipt) (found : Receipt) → (length receipts ≡ 0 → ⊥) →
    count_of is_so (calls_in (receipts ++ found ∷ [])) ≡ count_of is_so (calls_in receipts) + cond (is_so found) 1 0
more is_so [] found some = absurd (some refl)
more is_so (r ∷ rs) found some = count_more is_so rs found
