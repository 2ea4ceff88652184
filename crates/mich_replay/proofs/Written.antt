-- Lines that are written one after another.
use Rattle.std.proofs.Common.{◌≡◌, ◌+◌, ◌<◌, ℕ, List, [], ◌∷◌, ◌++◌, length, take, drop, get_or, refl, sym, ap, ◌∙◌, subst, append_assoc, append-nil, take-append-drop, arith}
use Rattle.std.specs.declared.option.Option.{Option}
use Rattle.std.specs.Io.KnownBytes.{Appends}
use Rattle.std.proofs.KnownBytes.{Appends-nil, Appends-trans}
use Rattle.std.proofs.lemmas.List.{drop_more, take_more}
use Rattle.rules_text.specs.streams.Known.{AppendsFront}
use Rattle.mich_io.proofs.ForCallers.{AppendsFront-more, all_front, all_nothing, all_then, front_longer, front_nothing, front_then as handed_front_then}
use Rattle.rules_world.specs.lines.Nodes.{line, group_node}
use Rattle.rules_files.specs.commands.Lines.{group_lines, text_of}
use Rattle.rules_world.specs.world.Receipts.{Receipt}
use Rattle.mich_replay.specs.Output.{Output, Writes, WritesFront}

pub text_of-append : (xs ys : List (List ℕ)) → text_of (xs ++ ys) ≡ text_of xs ++ text_of ys
text_of-append [] ys = refl
text_of-append (x ∷ xs) ys = ap (λ (l : List ℕ). x ++ l) (text_of-append xs ys) ∙ sym (append_assoc x (text_of xs) (text_of ys))

text_longer : (a b : Option (List ℕ)) (text more : List ℕ) → AppendsFront a b text → AppendsFront a b (text ++ more)
text_longer a b text more p = (p.0, p.1 ++ more, ap (λ (l : List ℕ). l ++ more) p.2 ∙ append_assoc p.0 p.1 more, p.3)

-- ---- lines one after another

pub writes_nothing : (a : Output) → Writes a a []
writes_nothing a = record { text = Appends-nil a.written; pieces = all_nothing a.handed }

pub nothing : (a : Output) (xs : List (List ℕ)) → WritesFront a a xs
nothing a xs = record { text = ([], text_of xs, refl, Appends-nil a.written); pieces = front_nothing a.handed xs }

pub writes_front : (a b : Output) (xs : List (List ℕ)) → Writes a b xs → WritesFront a b xs
writes_front a b xs p = record { text = (text_of xs, [], sym (append-nil (text_of xs)), p.text); pieces = all_front a.handed b.handed xs p.pieces }

pub longer : (a b : Output) (xs ys : List (List ℕ)) → WritesFront a b xs → WritesFront a b (xs ++ ys)
longer a b xs ys p = record {
  text = subst (AppendsFront a.written b.written) (sym (text_of-append xs ys)) (text_longer a.written b.written (text_of xs) (text_of ys) p.text);
  pieces = front_longer a.handed b.handed xs ys p.pieces;
}

pub writes_then : (a b c : Output) (xs ys : List (List ℕ)) → Writes a b xs → Writes b c ys → Writes a c (xs ++ ys)
writes_then a b c xs ys p q = record {
  text = subst (Appends a.written c.written) (sym (text_of-append xs ys)) (Appends-trans a.written b.written c.written (text_of xs) (text_of ys) p.text q.text);
  pieces = all_then a.handed b.handed c.handed xs ys p.pieces q.pieces;
}

pub front_then : (a b c : Output) (xs ys : List (List ℕ)) → Writes a b xs → WritesFront b c ys → WritesFront a c (xs ++ ys)
front_then a b c xs ys p q = record {
  text = AppendsFront-more a.written b.written c.written (text_of xs) (text_of ys) (text_of (xs ++ ys)) (text_of-append xs ys) p.text q.text;
  pieces = handed_front_then a.handed b.handed c.handed xs ys p.pieces q.pieces;
}

-- ---- one line

pub one_written : (a b : Output) (l text : List ℕ) → l ≡ text → Writes a b (l ∷ []) → Writes a b (text ∷ [])
one_written a b l text e p = subst (λ (x : List ℕ). Writes a b (x ∷ [])) e p

pub one_begun : (a b : Output) (l text : List ℕ) → l ≡ text → WritesFront a b (l ∷ []) → WritesFront a b (text ∷ [])
one_begun a b l text e p = subst (λ (x : List ℕ). WritesFront a b (x ∷ [])) e p

-- ---- the lines so far, one line, and those behind it

split : (lines : List (List ℕ)) (i : ℕ) (line : List ℕ) → i < length lines → line ≡ get_or lines i line
    → lines ≡ take i lines ++ (line ∷ drop (i + 1) lines)
split lines i line h e =
    sym (take-append-drop i lines) ∙ ap (λ (ls : List (List ℕ)). take i lines ++ ls) (drop_more lines i line h ∙ ap (λ (l : List ℕ). l ∷ drop (i + 1) lines) (sym e))

-- a line was cut short
pub lines_cut : (a b c : Output) (lines : List (List ℕ)) (i : ℕ) (line : List ℕ) → i < length lines → line ≡ get_or lines i line
    → Writes a b (take i lines) → WritesFront b c (line ∷ []) → WritesFront a c lines
lines_cut a b c lines i line h e p q =
    subst (WritesFront a c) (sym (split lines i line h e))
    (front_then a b c (take i lines) (line ∷ drop (i + 1) lines) p (longer b c (line ∷ []) (drop (i + 1) lines) q))

-- a line more was written
pub lines_grow : (a b c : Output) (lines : List (List ℕ)) (i : ℕ) (line : List ℕ) → i < length lines → line ≡ get_or lines i line
    → Writes a b (take i lines) → Writes b c (line ∷ []) → Writes a c (take (i + 1) lines)
lines_grow a b c lines i line h e p q =
    subst (Writes a c) (ap (λ (l : List ℕ). take i lines ++ l ∷ []) e ∙ sym (take_more lines i line h)) (writes_then a b c (take i lines) (line ∷ []) p q)

-- the lines of more groups
pub lines-more : (n : ℕ) (rs more : List Receipt) → group_lines n (rs ++ more) ≡ group_lines n rs ++ group_lines (length rs + n) more
lines-more n [] more = ap (λ (k : ℕ). group_lines k more) (omega arith)
lines-more n (r ∷ rs) more =
    let next : length rs + (n + 1) ≡ length (r ∷ rs) + n = omega arith in
    ap (λ (ls : List (List ℕ)). line (group_node n r) ∷ ls)
    (lines-more (n + 1) rs more ∙ ap (λ (k : ℕ). group_lines (n + 1) rs ++ group_lines k more) next)
