-- The verdict on a text of printed nodes.
use Rattle.std.proofs.Common.{◌≡◌, ◌≤◌, ◌+◌, ◌-◌, ◌==◌, ℕ, suc, true, false, cond, Option, Some, None, List, [], ◌∷◌, ◌++◌, map, length, inl, refl, sym, ap, ◌∙◌, subst, append_assoc, arith}
use Rattle.std.specs.Prelude.{reverse}
use Rattle.std.specs.List.{AllByRecursion, list_all}
use Rattle.std.proofs.lemmas.Bool.{and_parts}
use Rattle.std.proofs.lemmas.Bool.Decides.{nat_tests, Decides-eqb}
use Rattle.std.proofs.lemmas.List.{append-nil, length-append, reverse-reverse}
use Rattle.rules_text.specs.nodes.Tree.{Tree}
use Rattle.rules_text.specs.text.Printed.{printed}
use Rattle.mich_text.specs.Line.{is_printing}
use Rattle.mich_text.proofs.printed.WrittenLines.{written_again, written_in_line}
use Rattle.rules_world.specs.lines.Nodes.{line}
use Rattle.rules_files.specs.commands.Lines.{text_of}
use Rattle.rules_audit.specs.Form.{audit_limit, last_rank, pieces, pieces_of, Holds, Form, formed, ended, IsForm}
use Rattle.rules_audit.specs.Lines.{Line, line_of}
use Rattle.rules_audit.specs.Verdicts.{verdict}
use Rattle.laws_commands.specs.audits.Written.{IsWritable, CanAllFollow, TextsAreJudged}
use Rattle.laws_commands.proofs.audits_lemmas.Lines.{printable, line_stands, line_bare}

-- ---- pieces

no_feed : (c : ℕ) → is_printing c ≡ true → c == 10 ≡ false
no_feed c h = grind (arith, nat_tests)

not_zero : (n k : ℕ) → n ≡ suc k → n == 0 ≡ false
not_zero n k e = let pos : 1 ≤ n = omega (arith, e) in grind (arith, nat_tests)

less_one : (n k : ℕ) → n ≡ suc k → n - 1 ≡ k
less_one n k e = omega (arith, e)

-- a piece is cut at its line feed
cut : (p rest begun : List ℕ) (n k : ℕ) → n ≡ length p + suc k → list_all is_printing p ≡ true → pieces n begun (p ++ 10 ∷ rest) ≡ Some (begun ++ p) ∷ pieces k [] rest
cut [] rest begun n k e h =
    let m : n ≡ suc k = omega (arith, e) in
    ap (λ b. cond b (None ∷ []) (Some begun ∷ pieces (n - 1) [] rest)) (not_zero n k m)
    ∙ ap (λ m. Some begun ∷ pieces m [] rest) (less_one n k m)
    ∙ ap (λ b. Some b ∷ pieces k [] rest) (sym (append-nil begun))
cut (c ∷ p) rest begun n k e h =
    let hs = and_parts (is_printing c) (list_all is_printing p) h in
    let m : n ≡ suc (length p + suc k) = omega (arith, e) in
    ap (λ b. cond b (None ∷ []) (cond (c == 10) (Some begun ∷ pieces (n - 1) [] (p ++ 10 ∷ rest)) (pieces (n - 1) (begun ++ c ∷ []) (p ++ 10 ∷ rest)))) (not_zero n (length p + suc k) m)
    ∙ ap (λ b. cond b (Some begun ∷ pieces (n - 1) [] (p ++ 10 ∷ rest)) (pieces (n - 1) (begun ++ c ∷ []) (p ++ 10 ∷ rest))) (no_feed c hs.0)
    ∙ cut p rest (begun ++ c ∷ []) (n - 1) k (less_one n (length p + suc k) m) hs.1
    ∙ ap (λ b. Some b ∷ pieces k [] rest) (append_assoc begun (c ∷ []) p)

abbrev text : List Tree → List ℕ
text ts = text_of (map line ts)

abbrev lines : List Tree → List (Option (List ℕ))
lines ts = map (λ t. Some (printed t)) ts

cut_all : (ts : List Tree) (left k : ℕ) → AllByRecursion IsWritable ts → left ≡ length (text ts) + k → pieces left [] (text ts) ≡ lines ts
cut_all [] left k h e = refl
cut_all (t ∷ ts) left k h e =
    let joins : text (t ∷ ts) ≡ printed t ++ 10 ∷ text ts = append_assoc (printed t) (10 ∷ []) (text ts) in
    let long : length (text (t ∷ ts)) ≡ length (printed t) + suc (length (text ts)) = ap length joins ∙ length-append (printed t) (10 ∷ text ts) in
    let room : left ≡ length (printed t) + suc (length (text ts) + k) = omega (arith, e, long) in
    ap (λ xs. pieces left [] xs) joins
    ∙ cut (printed t) (text ts) [] left (length (text ts) + k) room (written_in_line t h.0.0.0)
    ∙ ap (λ ps. Some (printed t) ∷ ps) (cut_all ts (length (text ts) + k) k h.1 refl)

-- ---- lines

holds : (t : Tree) → IsWritable t → Holds (printed t) t
holds t h =
    let again = written_again t h.0 h.1 in
    record { start = length (printed t); node = record { stands = line_stands t (printable t h.0.0); clean = again.clean }; bare = line_bare t (printable t h.0.0) }

-- the lines behind others, with the last one first
abbrev behind : List Line → List Line → List Line
behind before [] = before
behind before (l ∷ ls) = behind (l ∷ before) ls

head_is : (x y : Option Line) (xs ys : List (Option Line)) → x ∷ xs ≡ y ∷ ys → x ≡ y
head_is x y xs ys e = cc

tail_is : (x y : Option Line) (xs ys : List (Option Line)) → x ∷ xs ≡ y ∷ ys → xs ≡ ys
tail_is x y xs ys e = cc

ended_is : (ls : List Line) → last_rank ls ≡ 7 → formed ls ≡ ended ls
ended_is ls h = ap (λ b. cond b (formed ls) (Form.bad_form (length ls + 1))) (sym ((Decides-eqb (last_rank ls) 7).1 h))

formed_all : (before : List Line) (ts : List Tree) (ls : List Line) → AllByRecursion IsWritable ts → map line_of ts ≡ map (λ l. Some l) ls →
    CanAllFollow before ls → last_rank (behind before ls) ≡ 7 → IsForm before (lines ts) (formed (behind before ls))
formed_all before [] [] h e g r = ended_is before r
formed_all before [] (l ∷ ls) h e g r = absurd cc
formed_all before (t ∷ ts) [] h e g r = absurd cc
formed_all before (t ∷ ts) (l ∷ ls) h e g r =
    inl (l, (t, holds t h.0, head_is _ _ _ _ e), g.0, formed_all (l ∷ before) ts ls h.1 (tail_is _ _ _ _ e) g.1 r)

pub judged : TextsAreJudged
judged ts ls h short e g r =
    let last : behind [] ls ≡ reverse ls = refl in
    let form : IsForm [] (lines ts) (formed (behind [] ls)) = formed_all [] ts ls h e g (ap last_rank last ∙ r) in
    let cuts : lines ts ≡ pieces_of (text ts) = sym (cut_all ts audit_limit (audit_limit - length (text ts)) h (omega (arith, short))) in (
      formed (behind [] ls),
      subst (λ ps. IsForm [] ps (formed (behind [] ls))) cuts form,
      ap verdict (sym (ap reverse last ∙ reverse-reverse ls)),
    )
