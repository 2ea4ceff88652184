-- What a reader keeps, from one call to the next.
use Rattle.std.proofs.Common.{◌≡◌, ℕ, ◌+◌, ◌-◌, ◌≤◌, inl, inr, Bool, true, false, ◌||◌, List, [], ◌++◌, length, take, drop, Option, Some, None, Result, Ok, Err, refl, sym, ap, subst, ◌∙◌, append_assoc, arith}
use Rattle.std.proofs.lemmas.List.{append-nil, length-append, take_rest, drop-append-le}
use Rattle.rules_text.specs.nodes.Limits.{file_limit}
use Rattle.rules_text.specs.nodes.Tree.{Tree}
use Rattle.rules_text.specs.declared.text.TextKind.{TextKind}
use Rattle.rules_text.specs.declared.text.TextKind.TheVariants.{TooLong}
use Rattle.rules_text.specs.text.Text.{past_limit, IsNode, IsFault, IsEnd}
use Rattle.mich_base.specs.View.{tree}
use Rattle.mich_text.specs.Parts.{IsPart}
use Rattle.mich_text.specs.declared.reader.Placed.{Placed}
use Rattle.mich_text.specs.declared.fault.TextError.{TextError}
use Rattle.mich_text.specs.declared.fault.TextError.TheVariants as texts
use Rattle.mich_text.specs.declared.pieces.reader.Next.{Next}
use Rattle.mich_text.specs.declared.pieces.reader.Next.TheVariants as next
use Rattle.mich_text.proofs.ForCallers.{split, stands_within}
use Rattle.mich_text.specs.declared.pieces.scan.Mode.TheVariants.{Outside}
use Rattle.mich_text.specs.declared.pieces.scan.Scan.{Scan}
use Rattle.mich_text.specs.pieces.Fronts.{IsClosed}
use Rattle.mich_text.specs.pieces.Held.{Held, fed, kept}
use Rattle.mich_text.specs.pieces.Marks.{sign_at, first_at}
use Rattle.mich_text.specs.pieces.Reading.{HasFault, KeepsFault, asked, failed, IsStatement, IsNext}
use Rattle.mich_text.specs.pieces.Scans.{ahead, begun, IsScanned}
use Rattle.mich_text.specs.pieces.Sound.{NeverClosed, IsSound, IsPlaced, IsTried, IsFound, IsDecided}
use Rattle.mich_text.proofs.pieces_lemmas.Stays.{no_end, node_closed, fault_stays}

-- the bytes of a slice of the buffer
pub held_is : (slice buffer : List ℕ) (n : ℕ) → slice ≡ buffer → take (length slice - n) (drop n slice) ≡ drop n buffer
held_is slice buffer n e = take_rest slice n ∙ ap (drop n) e

or_true : (a : Bool) → (a || true) ≡ true
or_true true = refl
or_true false = refl

or_left : (a b : Bool) → a ≡ true → (a || b) ≡ true
or_left true b e = refl
or_left false b e = absurd cc

or_false : (a : Bool) → (a || false) ≡ a
or_false true = refl
or_false false = refl

pub asked_none : (r : Held) → asked r false ≡ r
asked_none r = ap (λ (b : Bool). record { place = r.place; bytes = r.bytes; ended = b; fault = r.fault }) (or_false r.ended)

-- ---- places

pub place_le : (place : ℕ) (held : List ℕ) (t : Tree) (start end at : ℕ) → IsNode place held t start end → at + end ≡ place + length held → place ≤ at
place_le place held t start end at n e = omega (arith, (stands_within held t start end n.stands).1, e)

pub limit_le : (place : ℕ) (held : List ℕ) (t : Tree) (start end at : ℕ) → place ≤ file_limit → IsNode place held t start end → at + end ≡ place + length held → at ≤ file_limit
limit_le place held t start end at before n e = elim (split (place + length held) file_limit) [
  | inl h ↦ omega (arith, e, h)
  | inr h ↦
      let left = place + length held - file_limit in
      let behind : left ≤ end = n.clean TooLong left (past_limit (refl, inr (record { left_is = omega (arith, h); some = omega (arith, h); here = omega (arith, before) }))) in
      omega (arith, e, behind, h)
]

-- ---- feeding

fed_scanned : (held bytes : List ℕ) (scan : Scan) → IsScanned held scan → IsScanned (held ++ bytes) scan
fed_scanned held bytes scan s = record {
  bounded = s.bounded;
  within = omega (arith, s.within, length-append held bytes);
  sign = λ more. ap (sign_at Outside 0) (append_assoc held bytes more) ∙ s.sign (bytes ++ more) ∙ ap (ahead scan) (rest more);
  first = λ more. ap (first_at Outside) (append_assoc held bytes more) ∙ s.first (bytes ++ more) ∙ ap (begun scan) (rest more);
} where
  rest : (more : List ℕ) → drop scan.seen held ++ (bytes ++ more) ≡ drop scan.seen (held ++ bytes) ++ more
  rest more = sym (append_assoc (drop scan.seen held) bytes more) ∙ ap (λ (l : List ℕ). l ++ more) (sym (drop-append-le scan.seen held bytes s.within))

fed_never : (place : ℕ) (held bytes : List ℕ) → NeverClosed place held → NeverClosed place (held ++ bytes)
fed_never place held bytes never more t start end c = never (bytes ++ more) t start end (subst (λ (l : List ℕ). IsClosed place l t start end) (append_assoc held bytes more) c)

fed_fault : (r : Held) (bytes : List ℕ) → r.ended ≡ false → (f : Option (TextKind × ℕ)) → KeepsFault r f → KeepsFault (fed r bytes) f
fed_fault r bytes begun None p = tt
fed_fault r bytes begun (Some f) p = λ more h.
    let x = p (bytes ++ more) (λ e. absurd (cc (sym begun ∙ e))) in
    (x.0, subst (λ (l : List ℕ). IsFault r.place l f.0 x.0) (sym (append_assoc r.bytes bytes more)) x.1, x.2 ∙ ap (λ (l : List ℕ). r.place + length l) (sym (append_assoc r.bytes bytes more)))

pub fed_sound : (place n : ℕ) (buffer bytes new : List ℕ) (ended : Bool) (fault : Option (TextKind × ℕ)) (scan : Scan) (hopeless : Bool) → n ≤ length buffer → new ≡ buffer ++ bytes → ended ≡ false → IsSound (kept place n buffer ended fault) scan hopeless
    → (n ≤ length new) × IsSound (kept place n new ended fault) scan hopeless
fed_sound place n buffer bytes new ended fault scan hopeless within e begun s =
    subst (λ (l : List ℕ). (n ≤ length l) × IsSound (kept place n l ended fault) scan hopeless) (sym e) (
      omega (arith, within, length-append buffer bytes),
      record {
        place = s.place;
        scanned = subst (λ (l : List ℕ). IsScanned l scan) same (fed_scanned (drop n buffer) bytes scan s.scanned);
        never = λ h. subst (NeverClosed place) same (fed_never place (drop n buffer) bytes (s.never h));
        fault = subst (λ (l : List ℕ). KeepsFault (record { place = place; bytes = l; ended = ended; fault = fault }) fault) same (fed_fault (kept place n buffer ended fault) bytes begun fault s.fault);
      },
    )
  where
    same : drop n buffer ++ bytes ≡ drop n (buffer ++ bytes)
    same = sym (drop-append-le n buffer bytes within)

-- ---- what was tried

pub found_of : (r : Held) (found : Bool) (o : Option Placed) → IsTried r.place r.bytes found (Ok o) → IsFound r (Ok o)
found_of r found None p = p.0
found_of r found (Some placed) p = p

-- ---- what is read where it is decided

pub end_asked : (r : Held) (last : Bool) → IsDecided r last → IsEnd r.place r.bytes → last ≡ true
end_asked r last (inl e) end = e
end_asked r last (inr (limit, l)) end = absurd (no_end r.place r.bytes limit l end)

pub statement_read : (r : Held) (last : Bool) (placed : Placed) → IsDecided r last → IsPart r.place r.bytes (Ok (Some placed)) → IsStatement r last placed
statement_read r last placed (inl e) (start, end, n, start_is, end_is) = record {
  start = start;
  end = end;
  node = n;
  sign = λ f. absurd (cc (sym e ∙ f));
  start_is = start_is;
  end_is = end_is;
}
statement_read r last placed (inr (limit, l)) (start, end, n, start_is, end_is) =
    let c = node_closed r.place r.bytes limit l (tree placed.node) start end n in
    record { start = start; end = end; node = c.node; sign = λ _. c.sign; start_is = start_is; end_is = end_is }

pub statement_found : (r : Held) (placed : Placed) → IsPlaced r.place r.bytes placed → IsStatement r false placed
statement_found r placed p = record { start = p.start; end = p.end; node = p.closed.node; sign = λ _. p.closed.sign; start_is = p.start_is; end_is = p.end_is }

pub fault_read : (r : Held) (last : Bool) (kind : TextKind) (at : ℕ) → IsDecided r last → IsPart r.place r.bytes (Err (texts.Fault kind at)) → HasFault (asked r last) kind at
fault_read r last kind at (inl e) (left, f, place) = λ more h.
    let none : more ≡ [] = h (ap (λ (b : Bool). r.ended || b) e ∙ or_true r.ended) in (
      left,
      subst (λ (l : List ℕ). IsFault r.place (r.bytes ++ l) kind left) (sym none) (subst (λ (l : List ℕ). IsFault r.place l kind left) (sym (append-nil r.bytes)) f),
      place ∙ ap (λ (l : List ℕ). r.place + length l) (sym (append-nil r.bytes)) ∙ ap (λ (l : List ℕ). r.place + length (r.bytes ++ l)) (sym none),
    )
fault_read r last kind at (inr (limit, l)) (left, f, place) = λ more h.
    (left + length more, fault_stays r.place r.bytes more limit l kind left f, omega (arith, place, length-append r.bytes more))

-- ---- a fault that was found

pub fault_kept : (r : Held) (last : Bool) (kind : TextKind) (at : ℕ) → HasFault r kind at → HasFault (asked r last) kind at
fault_kept r last kind at p = λ more h. p more (λ e. h (or_left r.ended last e))

pub fault_again : (r : Held) (last : Bool) (kind : TextKind) (at : ℕ) → r.fault ≡ Some (kind, at) → asked r last ≡ failed (asked r last) kind at
fault_again r last kind at e = ap (λ (f : Option (TextKind × ℕ)). record { place = r.place; bytes = r.bytes; ended = r.ended || last; fault = f }) e

pub fault_of : (r : Held) (f : Option (TextKind × ℕ)) (kind : TextKind) (at : ℕ) → f ≡ Some (kind, at) → KeepsFault r f → HasFault r kind at
fault_of r f kind at e p = subst (KeepsFault r) e p

-- the input doesn't end where more may come
pub next_going : (r s : Held) (last : Bool) (answer : Result Next TextError) → IsNext r last s answer → last ≡ false → s.ended ≡ r.ended
next_going r s last answer p e = by answer p where
  not_asked : (r.ended || last) ≡ r.ended
  not_asked = ap (λ (b : Bool). r.ended || b) e ∙ or_false r.ended

  by : (answer : Result Next TextError) → IsNext r last s answer → s.ended ≡ r.ended
  by (Ok (next.Placed placed)) p = ap (λ (x : Held). x.ended) p.1 ∙ not_asked
  by (Ok next.More) p = ap (λ (x : Held). x.ended) p.2
  by (Ok next.End) p = ap (λ (x : Held). x.ended) p.2 ∙ not_asked
  by (Err texts.Memory) p = ap (λ (x : Held). x.ended) p
  by (Err (texts.Fault kind at)) p = ap (λ (x : Held). x.ended) p.1 ∙ not_asked
