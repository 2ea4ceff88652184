-- Histories that grow and are taken back.
use Rattle.std.proofs.Common.{◌≡◌, ℕ, ◌<◌, ◌≤◌, List, [], ◌∷◌, length, true, false, cond, nat_le, refl, sym, ap, ◌∙◌, arith, subst}
use Rattle.mich_base.specs.undo.History.{History, height_of, grown, stepped_back, rewound_from, rewound, Keeps}

le_true : (m n : ℕ) → m ≤ n → nat_le m n ≡ true
le_true m n h = grind arith

le_false : (m n : ℕ) → n < m → nat_le m n ≡ false
le_false m n h = grind arith

-- at its own height and above
pub rewound_here : {S : Type 0} (h : History S) (k : ℕ) → height_of h ≤ k → rewound h k ≡ h
unfolding rewound_from
rewound_here h k le = (elim h.past as (λ ps. length ps ≤ k → rewound_from h.present ps k ≡ record { present = h.present; past = ps })
    [ [] ↦ λ q. refl | ◌∷◌ p ps ↦ λ q. let t = le_true (length (p ∷ ps)) k q in simp t ]) le

-- one step down
pub rewound_down : {S : Type 0} (s p : S) (ps : List S) (k : ℕ) → k ≤ length ps → rewound_from s (p ∷ ps) k ≡ rewound_from p ps k
unfolding rewound_from
rewound_down s p ps k le = let t = le_false (length (p ∷ ps)) k (omega arith) in simp t

-- the same of a history with a step back
pub rewound_step : {S : Type 0} (h : History S) (k : ℕ) → k < height_of h → rewound (stepped_back h.present h.past) k ≡ rewound h k
rewound_step h k lt = (elim h.past as (λ ps. k < length ps → rewound (stepped_back h.present ps) k ≡ rewound_from h.present ps k)
    [ [] ↦ λ q. absurd (omega arith) | ◌∷◌ p ps ↦ λ q. sym (rewound_down h.present p ps k (omega arith)) ]) lt

pub height_of-rewound : {S : Type 0} (s : S) (ps : List S) (k : ℕ) → k ≤ length ps → height_of (rewound_from s ps k) ≡ k
unfolding rewound_from
height_of-rewound s [] k le = omega arith
height_of-rewound s (p ∷ ps) k le =
    (elim (nat_le (length (p ∷ ps)) k) as (λ b. nat_le (length (p ∷ ps)) k ≡ b → height_of (cond b (record { present = s; past = p ∷ ps }) (rewound_from p ps k)) ≡ k)
    [ true ↦ λ q. grind arith | false ↦ λ q. height_of-rewound p ps k (grind arith) ]) refl

-- twice back is back
pub rewound_twice : {S : Type 0} (s : S) (ps : List S) (j k : ℕ) → k ≤ j → rewound (rewound_from s ps j) k ≡ rewound_from s ps k
unfolding rewound_from
rewound_twice s [] j k le = refl
rewound_twice s (p ∷ ps) j k le =
    (elim (nat_le (length (p ∷ ps)) j) as (λ b. nat_le (length (p ∷ ps)) j ≡ b
    → rewound (cond b (record { present = s; past = p ∷ ps }) (rewound_from p ps j)) k ≡ rewound_from s (p ∷ ps) k)
    [ true ↦ λ q. refl | false ↦ λ q. rewound_twice p ps j k le ∙ sym (rewound_down s p ps k (grind arith)) ]) refl

pub keeps_same : {S : Type 0} (h : History S) → Keeps h h
keeps_same h = record { grows = omega arith; same = rewound_here h (height_of h) (omega arith) }

pub keeps_grown : {S : Type 0} (h : History S) (s : S) → Keeps h (grown h s)
keeps_grown h s = record { grows = omega arith; same = rewound_down s h.present h.past (length h.past) (omega arith) ∙ rewound_here h (height_of h) (omega arith) }

pub keeps_trans : {S : Type 0} (a b c : History S) → Keeps a b → Keeps b c → Keeps a c
keeps_trans a b c p q = record {
  grows = omega arith;
  same = sym (rewound_twice c.present c.past (height_of b) (height_of a) p.grows) ∙ ap (λ h. rewound h (height_of a)) q.same ∙ p.same;
}

pub keeps_equal : {S : Type 0} (a b : History S) → b ≡ a → Keeps a b
keeps_equal a b e = subst (λ h. Keeps a h) (sym e) (keeps_same a)

pub keeps_to : {S : Type 0} (a b : History S) (s : S) → b ≡ grown a s → Keeps a b
keeps_to a b s e = subst (λ h. Keeps a h) (sym e) (keeps_grown a s)
