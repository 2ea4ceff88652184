-- Writes one after another.
use Rattle.std.proofs.Common.{◌≡◌, ℕ, List, [], ◌++◌, Some, None, refl, sym, ap, ◌∙◌, append_assoc, append-nil, take, drop, take-append-drop}
use Rattle.std.specs.declared.option.Option.{Option}
use Rattle.std.specs.Io.KnownBytes.{Appends, Keeps}
use Rattle.std.proofs.KnownBytes.{Appends-trans, Appends-kept}
use Rattle.rules_text.specs.streams.Known.{AppendsFront}

-- a front was written, and then a front of the rest
pub AppendsFront-more : (a b c : Option (List ℕ)) (front rest text : List ℕ) → text ≡ front ++ rest → Appends a b front → AppendsFront b c rest → AppendsFront a c text
AppendsFront-more a b c front rest text e p q =
    (front ++ q.0, q.1, e ∙ ap (λ l. front ++ l) q.2 ∙ sym (append_assoc front q.0 q.1), Appends-trans a b c front q.0 p q.3)

-- a front of the rest is n bytes long
pub split_more : (front rest text : List ℕ) (n : ℕ) → text ≡ front ++ rest → text ≡ (front ++ take n rest) ++ drop n rest
split_more front rest text n e = e ∙ ap (λ l. front ++ l) (sym (take-append-drop n rest)) ∙ sym (append_assoc front (take n rest) (drop n rest))

-- bytes were written, and stay
pub piece_kept : (a b c : Option (List ℕ)) (piece : List ℕ) → Appends a b piece → Keeps b c → Appends a c piece
piece_kept a b c piece p q = Appends-kept a b c piece p q

pub front_kept : (a b c : Option (List ℕ)) (piece : List ℕ) (n : ℕ) → Appends a b (take n piece) → Keeps b c → AppendsFront a c piece
front_kept a b c piece n p q = (take n piece, drop n piece, sym (take-append-drop n piece), Appends-kept a b c (take n piece) p q)

-- what was written stays
pub kept_appends : (a b : Option (List ℕ)) → Keeps a b → Appends a b []
kept_appends None b p = tt
kept_appends (Some x) None p = absurd p
kept_appends (Some x) (Some y) p = p ∙ sym (append-nil x)

pub nothing_written : (a b : Option (List ℕ)) (piece : List ℕ) → Keeps a b → AppendsFront a b piece
nothing_written a b piece p = ([], piece, refl, kept_appends a b p)
