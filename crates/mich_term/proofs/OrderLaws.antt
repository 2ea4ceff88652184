-- What the order tells of values.
use Rattle.std.proofs.Common.{◌≡◌, refl, ap}
use Rattle.rules_data.specs.values.Val.{unit, truth, number, text, bytes, nothing, some, left, right, both, list, set, table, big_table, lambda, operation, ticket}
use Rattle.std.proofs.lemmas.Map.Lookups.{exact_signed, exact_bytes}
use Rattle.mich_term.specs.Laws.{OrderIsLawful, EqualOrderMeansEqual}
use Rattle.laws_data.proofs.values_lemmas.ForCallers.{order_lawful, same_truth, first_equal, then_equal, first_true, then_true}

pub lawful : OrderIsLawful
lawful = order_lawful

pub equal : EqualOrderMeansEqual
equal unit unit cv cw e = refl
equal (truth b) (truth c) cv cw e = ap truth (same_truth b c e)
equal (number m) (number n) cv cw e = ap number (exact_signed m n e)
equal (text s) (text t) cv cw e = ap text (exact_bytes s t e)
equal (bytes s) (bytes t) cv cw e = ap bytes (exact_bytes s t e)
equal nothing nothing cv cw e = refl
equal (some v) (some w) cv cw e = ap some (equal v w cv cw e)
equal (left v) (left w) cv cw e = ap left (equal v w cv cw e)
equal (right v) (right w) cv cw e = ap right (equal v w cv cw e)
equal (both v w) (both x y) cv cw e =
    let first : v ≡ x = equal v x (first_true _ _ cv) (first_true _ _ cw) (first_equal _ _ e) in
    let second : w ≡ y = equal w y (then_true _ _ cv) (then_true _ _ cw) (then_equal _ _ e) in
    cc
equal (list vs) w cv cw e = cc
equal (set vs) w cv cw e = cc
equal (table ps) w cv cw e = cc
equal (big_table ps) w cv cw e = cc
equal (lambda t b) w cv cw e = cc
equal (operation n) w cv cw e = cc
equal (ticket i ty v n) w cv cw e = cc
equal _ _ cv cw e = cc
