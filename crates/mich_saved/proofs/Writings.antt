-- What is written behind what was written.
use Rattle.std.proofs.Common.{◌≡◌, ℕ, List, ◌++◌, ap, ◌∙◌, append_assoc}

pub put_both : (a b c x y : List ℕ) → b ≡ a ++ x → c ≡ b ++ y → c ≡ a ++ (x ++ y)
put_both a b c x y first second = second ∙ (ap (λ (l : List ℕ). l ++ y) first ∙ append_assoc a x y)

pub put_three : (a b c d x y z : List ℕ) → b ≡ a ++ x → c ≡ b ++ y → d ≡ c ++ z → d ≡ a ++ (x ++ (y ++ z))
put_three a b c d x y z first second third = put_both a b d x (y ++ z) first (put_both b c d y z second third)
