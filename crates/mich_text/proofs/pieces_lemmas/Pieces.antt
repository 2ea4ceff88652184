-- What is read of pieces is what stands in the file.
use Rattle.std.proofs.Common.{◌≡◌, ℕ, ◌+◌, Bool, true, false, ◌||◌, List, [], ◌++◌, length, drop, Some, Result, Ok, Err, refl, sym, ap, subst, ◌∙◌, arith}
use Rattle.std.proofs.lemmas.List.{append-nil, length-append}
use Rattle.std.proofs.Math.Seq.{drop-append_seam}
use Rattle.mich_base.specs.View.{tree}
use Rattle.rules_text.specs.text.Text.{IsNode, IsFault, IsEnd}
use Rattle.mich_text.specs.Results.{IsText}
use Rattle.mich_text.specs.declared.reader.Placed.{Placed}
use Rattle.mich_text.specs.declared.fault.TextError.{TextError}
use Rattle.mich_text.specs.declared.fault.TextError.TheVariants as texts
use Rattle.mich_text.specs.declared.pieces.reader.Next.{Next}
use Rattle.mich_text.specs.declared.pieces.reader.Next.TheVariants as next
use Rattle.mich_text.specs.pieces.Held.{Held}
use Rattle.mich_text.specs.pieces.Reading.{IsStatement, IsNext, Tells}
use Rattle.mich_text.proofs.pieces_lemmas.Stays.{closed_stays}

module _ (before more : List ℕ) (r : Held) (here : length before ≡ r.place) where
  rest_is : drop r.place (before ++ (r.bytes ++ more)) ≡ r.bytes ++ more
  rest_is = ap (λ (n : ℕ). drop n (before ++ (r.bytes ++ more))) (sym here) ∙ drop-append_seam before (r.bytes ++ more)

  size_is : length (before ++ (r.bytes ++ more)) ≡ r.place + length r.bytes + length more
  size_is = omega (arith, length-append before (r.bytes ++ more), length-append r.bytes more, here)

  statement_told : (last : Bool) (placed : Placed) → (last ≡ true → more ≡ []) → IsStatement r last placed → IsText (before ++ (r.bytes ++ more)) r.place (Ok (Some placed))
  statement_told last placed none s = by last refl where
    told : (start end : ℕ) → IsNode r.place (r.bytes ++ more) (tree placed.node) start end → placed.start + start ≡ r.place + length r.bytes + length more → placed.end + end ≡ r.place + length r.bytes + length more
        → IsText (before ++ (r.bytes ++ more)) r.place (Ok (Some placed))
    told start end n a b = (start, end, subst (λ (l : List ℕ). IsNode r.place l (tree placed.node) start end) (sym rest_is) n, a ∙ sym size_is, b ∙ sym size_is)

    by : (b : Bool) → last ≡ b → IsText (before ++ (r.bytes ++ more)) r.place (Ok (Some placed))
    by true e =
        let nothing = none e in
        let long : length more ≡ 0 = ap (λ (l : List ℕ). length l) nothing in
        told s.start s.end (subst (λ (l : List ℕ). IsNode r.place (r.bytes ++ l) (tree placed.node) s.start s.end) (sym nothing)
        (subst (λ (l : List ℕ). IsNode r.place l (tree placed.node) s.start s.end) (sym (append-nil r.bytes)) s.node)) (omega (arith, s.start_is, long)) (omega (arith, s.end_is, long))
    by false e =
        let c = closed_stays r.place r.bytes more (tree placed.node) s.start s.end (record { node = s.node; sign = s.sign e }) in
        told (s.start + length more) (s.end + length more) c.node (omega (arith, s.start_is)) (omega (arith, s.end_is))

  either : (a b : Bool) → (a ≡ true → more ≡ []) → (b ≡ true → more ≡ []) → (a || b) ≡ true → more ≡ []
  either true b p q e = p refl
  either false b p q e = q e

pub pieces_tell : (before more : List ℕ) (r s : Held) (last : Bool) (answer : Result Next TextError) → length before ≡ r.place → (last ≡ true → more ≡ []) → (r.ended ≡ true → more ≡ []) → IsNext r last s answer
    → Tells (before ++ (r.bytes ++ more)) r.place answer
pieces_tell before more r s last (Ok (next.Placed placed)) here none ended p = statement_told before more r here last placed none p.0
pieces_tell before more r s last (Ok next.More) here none ended p = tt
pieces_tell before more r s last (Ok next.End) here none ended p =
    subst (IsEnd r.place) (sym (rest_is before more r here)) (subst (λ (l : List ℕ). IsEnd r.place (r.bytes ++ l)) (sym (none p.0)) (subst (IsEnd r.place) (sym (append-nil r.bytes)) p.1))
pieces_tell before more r s last (Err texts.Memory) here none ended p = tt
pieces_tell before more r s last (Err (texts.Fault kind at)) here none ended p =
    let f = p.0 more (either before more r here r.ended last ended none) in
    (f.0, subst (λ (l : List ℕ). IsFault r.place l kind f.0) (sym (rest_is before more r here)) f.1, omega (arith, f.2, size_is before more r here, length-append r.bytes more))
