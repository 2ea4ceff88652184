-- How far what is counted can go.
use Rattle.std.proofs.Common.{◌≡◌, ℕ, ◌+◌, ◌≤◌, ◌<◌, Bool, true, false, cond, ◌||◌, ◌&&◌, eqb, refl, sym, subst, arith}
use Rattle.std.proofs.lemmas.Bool.{eqb-true}
use Rattle.rules_text.specs.text.Lexical.{is_white, opens, closes}
use Rattle.mich_text.specs.declared.pieces.scan.Mode.{Mode}
use Rattle.mich_text.specs.declared.pieces.scan.Mode.TheVariants.{Outside, Slash, Line, Block, Text, Escape}
use Rattle.mich_text.specs.declared.pieces.scan.Scan.{Scan}
use Rattle.mich_text.specs.pieces.Marks.{mode_after, depth_after, is_sign, started, since_after, levels_of}
use Rattle.mich_text.specs.pieces.Scans.{IsBounded}

either_le : (b : Bool) (x y n : ℕ) → x ≤ n → y ≤ n → cond b x y ≤ n
either_le true x y n p q = p
either_le false x y n p q = q

either_levels : (b : Bool) (x y : Mode) (n : ℕ) → levels_of x ≤ n → levels_of y ≤ n → levels_of (cond b x y) ≤ n
either_levels true x y n p q = p
either_levels false x y n p q = q

levels_le : (m : Mode) (c n : ℕ) → levels_of m ≤ n → levels_of (mode_after m c) ≤ n + 1
levels_le Outside c n h = either_levels (eqb c 34) _ _ (n + 1) (omega arith) (either_levels (eqb c 35) _ _ (n + 1) (omega arith) (either_levels (eqb c 47) _ _ (n + 1) (omega arith) (omega arith)))
levels_le Slash c n h = either_levels (eqb c 42) _ _ (n + 1) (omega arith) (omega arith)
levels_le Line c n h = either_levels (eqb c 10) _ _ (n + 1) (omega arith) (omega arith)
levels_le (Block levels previous) c n h =
    either_levels (opens previous c) _ _ (n + 1) (omega (arith, h)) (either_levels (closes previous c) _ _ (n + 1) (either_levels (eqb levels 1) _ _ (n + 1) (omega arith) (omega (arith, h))) (omega (arith, h)))
levels_le Text c n h = either_levels (eqb c 34) _ _ (n + 1) (omega arith) (either_levels (eqb c 92) _ _ (n + 1) (omega arith) (omega arith))
levels_le Escape c n h = omega arith

depth_le : (m : Mode) (d c n : ℕ) → d ≤ n → depth_after m d c ≤ n + 1
depth_le Outside d c n h = either_le (eqb c 123 || eqb c 40) _ _ (n + 1) (omega (arith, h)) (either_le (eqb c 125 || eqb c 41) _ _ (n + 1) (omega (arith, h)) (omega (arith, h)))
depth_le Slash d c n h = omega (arith, h)
depth_le Line d c n h = omega (arith, h)
depth_le (Block levels previous) d c n h = omega (arith, h)
depth_le Text d c n h = omega (arith, h)
depth_le Escape d c n h = omega (arith, h)

started_le : (m : Mode) (c : ℕ) → started m c ≤ 2
started_le Outside c = either_le (is_white c || (eqb c 35 || eqb c 47)) 0 1 2 (omega arith) (omega arith)
started_le Slash c = either_le (eqb c 42) 0 2 2 (omega arith) (omega arith)
started_le Line c = omega arith
started_le (Block levels previous) c = omega arith
started_le Text c = omega arith
started_le Escape c = omega arith

since_le : (m : Mode) (since c n : ℕ) → since ≤ n + 1 → since_after m since c ≤ n + 1 + 1
since_le m since c n h = either_le (eqb since 0) (started m c) (since + 1) (n + 1 + 1) (omega (arith, started_le m c)) (omega (arith, h))

sign_is : (a b : Bool) → (a && b) ≡ true → a ≡ true
sign_is true b e = refl
sign_is false b e = absurd cc

sign_starts : (m : Mode) (d since c : ℕ) → is_sign m d c ≡ true → 0 < since_after m since c
sign_starts Outside d since c e = subst (λ (x : ℕ). 0 < since_after Outside since x) (sym (eqb-true c 59 (sign_is (eqb c 59) (eqb d 0) e))) (by (eqb since 0)) where
  by : (b : Bool) → 0 < cond b 1 (since + 1)
  by true = omega arith
  by false = omega arith
sign_starts Slash d since c e = absurd cc
sign_starts Line d since c e = absurd cc
sign_starts (Block levels previous) d since c e = absurd cc
sign_starts Text d since c e = absurd cc
sign_starts Escape d since c e = absurd cc

pub bounded_after : (s : Scan) (c : ℕ) → IsBounded s
    → IsBounded (record { mode = mode_after s.mode c; depth = depth_after s.mode s.depth c; since = since_after s.mode s.since c; found = is_sign s.mode s.depth c; seen = s.seen + 1 })
bounded_after s c b = record {
  depth = depth_le s.mode s.depth c s.seen b.depth;
  levels = levels_le s.mode c s.seen b.levels;
  since = since_le s.mode s.since c s.seen b.since;
  found = λ e. sign_starts s.mode s.depth s.since c e;
}
