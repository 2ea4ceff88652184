-- Calls, one by one.
use Rattle.std.proofs.Common.{◌≡◌, ◌+◌, ◌-◌, ◌<◌, ℕ, suc, List, [], ◌++◌, ap, sym, ◌∙◌, arith}
use mathlib.Core.List.{append_assoc}
use Rattle.rules_files.specs.workload.Workload.{call, calls, next}

-- the first of those that are left, and the others
first_left : (n i x : ℕ) → i < n → calls (n - i) x ≡ call (next x) ++ calls (n - (i + 1)) (next x)
first_left n i x less = let e : n - i ≡ suc (n - (i + 1)) = omega arith in ap (λ m. calls m x) e

-- behind what stands there is one call more
pub one_more : {n i y : ℕ} {longer whole : List ℕ} (x : ℕ) (text : List ℕ) → i < n → y ≡ next x → longer ≡ text ++ call y → text ++ calls (n - i) x ≡ whole →
    longer ++ calls (n - (i + 1)) y ≡ whole
one_more {n} {i} {y} {longer} {whole} x text less by_next by_call e =
    rw (by_call, by_next) (append_assoc text (call (next x)) (calls (n - (i + 1)) (next x)) ∙ ap (λ more. text ++ more) (sym (first_left n i x less)) ∙ e)

pub none_left : (n x : ℕ) → calls (n - n) x ≡ []
none_left n x = let e : n - n ≡ 0 = omega arith in ap (λ m. calls m x) e
