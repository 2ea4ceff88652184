-- Bytes that change nothing, behind the first byte of a statement.
use Rattle.std.proofs.Common.{◌≡◌, ℕ, suc, ◌+◌, ◌≤◌, ◌<◌, Bool, true, false, cond, eqb, List, [], ◌∷◌, ◌++◌, length, drop, refl, sym, ap, ◌∙◌, arith}
use Rattle.std.specs.List.{prefix_len}
use Rattle.std.proofs.lemmas.Bool.{eqb-true}
use Rattle.std.proofs.lemmas.List.{length-append, length-drop, drop-drop}
use Rattle.mich_text.specs.declared.pieces.scan.Mode.{Mode}
use Rattle.mich_text.specs.declared.pieces.scan.Mode.TheVariants.{Outside, Slash, Line, Block, Text, Escape}
use Rattle.mich_text.specs.declared.pieces.scan.Scan.{Scan}
use Rattle.mich_text.specs.pieces.Marks.{is_plain, is_inner, run_of, sign_at}
use Rattle.mich_text.specs.pieces.Scans.{IsScanned}
use Rattle.mich_text.proofs.pieces_lemmas.Signs.{apart, plain_step}

inner_by : (a b : Bool) (depth : ℕ) (rest : List ℕ) → a ≡ false → b ≡ false → sign_at (cond a Outside (cond b Escape Text)) depth rest ≡ sign_at Text depth rest
inner_by true b depth rest e h = absurd (cc e)
inner_by false true depth rest e h = absurd (cc h)
inner_by false false depth rest e h = refl

inner_step : (depth c : ℕ) (rest : List ℕ) → is_inner c ≡ true → sign_at Text depth (c ∷ rest) ≡ sign_at Text depth rest
inner_step depth c rest h = inner_by (eqb c 34) (eqb c 92) depth rest (apart is_inner c 34 h refl) (apart is_inner c 92 h refl)

-- what changes nothing byte by byte changes nothing in a run
run_by : (m : Mode) (p : ℕ → Bool) → ((depth c : ℕ) (rest : List ℕ) → p c ≡ true → sign_at m depth (c ∷ rest) ≡ sign_at m depth rest)
    → (depth c : ℕ) (rest more : List ℕ) (b : Bool) → p c ≡ b → sign_at m depth (rest ++ more) ≡ sign_at m depth (drop (prefix_len p rest) rest ++ more)
    → sign_at m depth (c ∷ rest ++ more) ≡ sign_at m depth (drop (cond b (1 + prefix_len p rest) 0) (c ∷ rest) ++ more)
run_by m p step depth c rest more true e past =
    let same : 1 + prefix_len p rest ≡ suc (prefix_len p rest) = omega arith in
    step depth c (rest ++ more) e ∙ past ∙ ap (λ (n : ℕ). sign_at m depth (drop n (c ∷ rest) ++ more)) (sym same)
run_by m p step depth c rest more false e past = refl

run_past : (m : Mode) (p : ℕ → Bool) → ((depth c : ℕ) (rest : List ℕ) → p c ≡ true → sign_at m depth (c ∷ rest) ≡ sign_at m depth rest)
    → (depth : ℕ) (text more : List ℕ) → sign_at m depth (text ++ more) ≡ sign_at m depth (drop (prefix_len p text) text ++ more)
run_past m p step depth [] more = refl
run_past m p step depth (c ∷ rest) more = run_by m p step depth c rest more (p c) refl (run_past m p step depth rest more)

sign_past : (m : Mode) (depth : ℕ) (text more : List ℕ) → sign_at m depth (text ++ more) ≡ sign_at m depth (drop (run_of m text) text ++ more)
sign_past Outside depth text more = run_past Outside is_plain (plain_step is_plain (refl, refl, refl, refl, refl, refl, refl, refl)) depth text more
sign_past Slash depth text more = refl
sign_past Line depth text more = refl
sign_past (Block levels previous) depth text more = refl
sign_past Text depth text more = run_past Text is_inner inner_step depth text more
sign_past Escape depth text more = refl

-- ---- what was seen, with a run

abbrev with_run : Scan → ℕ → Scan
with_run s n = record { mode = s.mode; depth = s.depth; since = s.since + n; found = s.found; seen = s.seen + n }

not_first : (since : ℕ) → 0 < since → eqb since 0 ≡ false
not_first since some = by (eqb since 0) refl where
  by : (b : Bool) → eqb since 0 ≡ b → b ≡ false
  by false e = refl
  by true e = absurd (omega (arith, some, eqb-true since 0 e))

ahead_past : (s : Scan) (n : ℕ) (text rest : List ℕ) (found : Bool) → found ≡ false → sign_at s.mode s.depth text ≡ sign_at s.mode s.depth rest
    → cond found (1 + length text) (sign_at s.mode s.depth text) ≡ cond found (1 + length rest) (sign_at s.mode s.depth rest)
ahead_past s n text rest true e h = absurd (cc e)
ahead_past s n text rest false e h = h

pub ran : (held : List ℕ) (s : Scan) (n : ℕ) → IsScanned held s → s.found ≡ false → 0 < s.since → n ≡ run_of s.mode (drop s.seen held) → n ≤ length (drop s.seen held)
    → IsScanned held (with_run s n)
ran held s n sc found some run within =
    let b = sc.bounded in
    let left = length-drop s.seen held in
    let there : drop n (drop s.seen held) ≡ drop (s.seen + n) held = drop-drop n s.seen held in
    let old = not_first s.since some in
    let new = not_first (s.since + n) (omega (arith, some)) in
    record {
      bounded = record { depth = omega (arith, b.depth); levels = omega (arith, b.levels); since = omega (arith, b.since); found = λ h. omega (arith, some) };
      within = omega (arith, within, left, sc.within);
      sign = λ more.
          sc.sign more
          ∙ ahead_past s n (drop s.seen held ++ more) (drop (s.seen + n) held ++ more) s.found found
          (sign_past s.mode s.depth (drop s.seen held) more
          ∙ ap (λ (k : ℕ). sign_at s.mode s.depth (drop k (drop s.seen held) ++ more)) (sym run)
          ∙ ap (λ (l : List ℕ). sign_at s.mode s.depth (l ++ more)) there);
      first = λ more.
          let counted : s.since + length (drop s.seen held ++ more) ≡ s.since + n + length (drop (s.seen + n) held ++ more) =
          omega (arith, length-append (drop s.seen held) more, length-append (drop (s.seen + n) held) more, left, length-drop (s.seen + n) held, within, sc.within) in
          sc.first more ∙ rw (old, new) counted;
    }
