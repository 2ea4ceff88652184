-- What the files on each kind of token show of it: the properties, and how they pass a test and the making of a token.
use Rattle.std.proofs.Common.{◌≡◌, ℕ, ◌+◌, ◌≤◌, ◌<◌, Bool, true, false, cond, ◌||◌, List, [], ◌∷◌, ◌++◌, length, take, drop, Result, Ok, Err, refl, sym, ap, ◌∙◌, append_assoc, take-append-drop, arith}
use Rattle.std.proofs.lemmas.List.{length-append}
use Rattle.rules_text.specs.text.Token.{Token}
use Rattle.rules_text.specs.declared.text.TextKind.TheVariants.{TooLong}
use Rattle.rules_text.specs.text.Fault.{Flaw}
use Rattle.rules_text.specs.text.Lexical.{flaw, made}
use Rattle.rules_text.specs.declared.text.TextKind.{TextKind}
use Rattle.mich_text.specs.Plain.{rank_without_limits}
use Rattle.mich_text.specs.Shown.{Counts}

-- the flaw of a name or an annotation that is too long
abbrev pub wrong : List ℕ → Flaw
wrong text = record { kind = TooLong; left = length text }

-- ---- what is read lies further on

-- what was read takes a byte at least, and a flaw lies no further back
abbrev pub IsAhead : {A : Type 0} → ℕ → Result (A × List ℕ) Flaw → Type 0
IsAhead n (Ok r) = length r.1 < n
IsAhead n (Err f) = (f.left ≤ n) × (rank_without_limits f.kind ≡ 0)

pub either_ahead : {A : Type 0} (b : Bool) (n : ℕ) (x y : Result (A × List ℕ) Flaw) → (b ≡ true → IsAhead n x) → (b ≡ false → IsAhead n y)
    → IsAhead n (cond b x y)
either_ahead true n x y p q = p refl
either_ahead false n x y p q = q refl

pub made_ahead : {A : Type 0} (f : A → Token) (n : ℕ) (r : Result (A × List ℕ) Flaw) → IsAhead n r → IsAhead n (made f r)
made_ahead f n (Ok r) p = p
made_ahead f n (Err d) p = p

-- ---- with more bytes behind it

-- what was read with a byte behind it is read again with more bytes at the end
abbrev pub IsStable : {A : Type 0} → List ℕ → Result (A × List ℕ) Flaw → Result (A × List ℕ) Flaw → Type 0
IsStable more (Ok (x, [])) again = Unit {0}
IsStable more (Ok (x, c ∷ rest)) again = again ≡ Ok (x, c ∷ (rest ++ more))
IsStable more (Err f) again = Unit {0}

pub either_stable : {A : Type 0} (b : Bool) (more : List ℕ) (x y v w : Result (A × List ℕ) Flaw) → IsStable more x v → IsStable more y w
    → IsStable more (cond b x y) (cond b v w)
either_stable true more x y v w p q = p
either_stable false more x y v w p q = q

pub made_stable : {A : Type 0} (f : A → Token) (more : List ℕ) (r again : Result (A × List ℕ) Flaw) → IsStable more r again
    → IsStable more (made f r) (made f again)
made_stable f more (Ok (x, [])) again p = tt
made_stable f more (Ok (x, c ∷ rest)) again p = ap (made f) p
made_stable f more (Err d) again p = tt

pub limited_stable : {A : Type 0} (b : Bool) (more : List ℕ) (d e : Flaw) (x : A) (c : ℕ) (rest : List ℕ)
    → IsStable more (cond b (Err d) (Ok (x, c ∷ rest))) (cond b (Err e) (Ok (x, c ∷ (rest ++ more))))
limited_stable true more d e x c rest = tt
limited_stable false more d e x c rest = refl

pub limited_stable_end : {A : Type 0} (b : Bool) (more : List ℕ) (d : Flaw) (x : A) (again : Result (A × List ℕ) Flaw)
    → IsStable more (cond b (Err d) (Ok (x, []))) again
limited_stable_end true more d x again = tt
limited_stable_end false more d x again = tt

-- ---- in a front of the text

-- what is read with more bytes behind a front, and ends in the front, is read in the front alone
abbrev pub IsCut : {A : Type 0} → List ℕ → Result (A × List ℕ) Flaw → Result (A × List ℕ) Flaw → Type 0
IsCut {A} more front (Ok r) = length more < length r.1 → (b : List ℕ) × (r.1 ≡ b ++ more) × (front ≡ Ok (r.0, b))
IsCut more front (Err f) = Unit {0}

pub either_cut : {A : Type 0} (b : Bool) (more : List ℕ) (x y v w : Result (A × List ℕ) Flaw) → IsCut more x v → IsCut more y w
    → IsCut more (cond b x y) (cond b v w)
either_cut true more x y v w p q = p
either_cut false more x y v w p q = q

pub made_cut : {A : Type 0} (f : A → Token) (more : List ℕ) (front r : Result (A × List ℕ) Flaw) → IsCut more front r
    → IsCut more (made f front) (made f r)
made_cut f more front (Ok r) p = λ h. let x = p h in (x.0, x.1, ap (made f) x.2)
made_cut f more front (Err d) p = tt

-- too little is left
pub short_cut : {A : Type 0} (more : List ℕ) (front : Result (A × List ℕ) Flaw) (r : A × List ℕ) → length r.1 ≤ length more
    → IsCut more front (Ok r)
short_cut more front r h = λ g. absurd (omega (arith, h, g))

pub limited_cut : {A : Type 0} (b : Bool) (more : List ℕ) (d e : Flaw) (x : A) (c : ℕ) (rest : List ℕ)
    → IsCut more (cond b (Err d) (Ok (x, c ∷ rest))) (cond b (Err e) (Ok (x, c ∷ (rest ++ more))))
limited_cut true more d e x c rest = tt
limited_cut false more d e x c rest = λ h. (c ∷ rest, refl, refl)

pub limited_cut_end : {A : Type 0} (b : Bool) (more : List ℕ) (e : Flaw) (x : A) (rest : List ℕ) (other : Result (A × List ℕ) Flaw)
    → length rest ≤ length more → IsCut more other (cond b (Err e) (Ok (x, rest)))
limited_cut_end true more e x rest other h = tt
limited_cut_end false more e x rest other h = short_cut more other (x, rest) h

-- ---- a flaw that some bytes show

-- with so many bytes more behind its place
abbrev pub moved : ℕ → Flaw → Flaw
moved n f = record { kind = f.kind; left = f.left + n }

abbrev pub IsShown : {A : Type 0} → List ℕ → List ℕ → Result (A × List ℕ) Flaw → Result (A × List ℕ) Flaw → Type 0
IsShown text more (Ok r) again = Unit {0}
IsShown text more (Err f) again = Counts text f.kind → again ≡ Err (moved (length more) f)

-- a flaw at the first byte
pub at_first : {A : Type 0} (kind : TextKind) (text more : List ℕ)
    → ◌≡◌ {A = Result (A × List ℕ) Flaw} (flaw kind (text ++ more)) (Err (moved (length more) (record { kind = kind; left = length text })))
at_first kind text more = ap (λ (n : ℕ). Err (record { kind = kind; left = n })) (length-append text more)

pub either_shown : {A : Type 0} (b : Bool) (text more : List ℕ) (x y v w : Result (A × List ℕ) Flaw) → IsShown text more x v
    → IsShown text more y w → IsShown text more (cond b x y) (cond b v w)
either_shown true text more x y v w p q = p
either_shown false text more x y v w p q = q

pub made_shown : {A : Type 0} (f : A → Token) (text more : List ℕ) (r again : Result (A × List ℕ) Flaw) → IsShown text more r again
    → IsShown text more (made f r) (made f again)
made_shown f text more (Ok r) again p = tt
made_shown f text more (Err g) again p = λ c. ap (made f) (p c)

-- ---- what is left is the end of the text

abbrev pub Ends : List ℕ → List ℕ → Type 0
Ends text rest = (front : List ℕ) × (text ≡ front ++ rest)

pub ends_more : (c : ℕ) (text rest : List ℕ) → Ends text rest → Ends (c ∷ text) rest
ends_more c text rest p = (c ∷ p.0, ap (λ (l : List ℕ). c ∷ l) p.1)

ends_with : (front text rest : List ℕ) → Ends text rest → Ends (front ++ text) rest
ends_with front text rest p = (front ++ p.0, ap (λ (l : List ℕ). front ++ l) p.1 ∙ sym (append_assoc front p.0 rest))

pub dropped : (n : ℕ) (xs : List ℕ) → Ends xs (drop n xs)
dropped n xs = (take n xs, sym (take-append-drop n xs))

abbrev pub EndsRead : {A : Type 0} → List ℕ → Result (A × List ℕ) Flaw → Type 0
EndsRead text (Ok r) = Ends text r.1
EndsRead text (Err f) = Unit {0}

pub read_either : {A : Type 0} (b : Bool) (text : List ℕ) (x y : Result (A × List ℕ) Flaw) → EndsRead text x → EndsRead text y
    → EndsRead text (cond b x y)
read_either true text x y p q = p
read_either false text x y p q = q

pub made_ends : {A : Type 0} (f : A → Token) (text : List ℕ) (r : Result (A × List ℕ) Flaw) → EndsRead text r → EndsRead text (made f r)
made_ends f text (Ok r) p = p
made_ends f text (Err e) p = tt

-- ---- each flaw

-- where it is a flaw, this holds of it
abbrev pub Each : {A : Type 0} → (Flaw → Type 0) → Result (A × List ℕ) Flaw → Type 0
Each P (Ok r) = Unit {0}
Each P (Err f) = P f

-- of each flaw of a kind
abbrev pub Of : (Flaw → Type 0) → TextKind → Type 0
Of P kind = (n : ℕ) → P (record { kind = kind; left = n })

pub each_either : {A : Type 0} (P : Flaw → Type 0) (b : Bool) (x y : Result (A × List ℕ) Flaw) → Each P x → Each P y → Each P (cond b x y)
each_either P true x y p q = p
each_either P false x y p q = q

pub made_each : {A : Type 0} (P : Flaw → Type 0) (f : A → Token) (r : Result (A × List ℕ) Flaw) → Each P r → Each P (made f r)
made_each P f (Ok r) p = tt
made_each P f (Err e) p = p

-- ---- what was read

-- what is read, if it is
abbrev pub Reads : {A : Type 0} → (A → Type 0) → Result (A × List ℕ) Flaw → Type 0
Reads P (Ok r) = P r.0
Reads P (Err f) = Unit {0}

pub either_reads : {A : Type 0} (P : A → Type 0) (b : Bool) (x y : Result (A × List ℕ) Flaw) → (b ≡ true → Reads P x)
    → (b ≡ false → Reads P y) → Reads P (cond b x y)
either_reads P true x y p q = p refl
either_reads P false x y p q = q refl

-- ---- one test or another

pub or_false : (a b : Bool) → (a || b) ≡ false → a ≡ false
or_false true b e = e
or_false false b e = refl

pub or_left : (a b : Bool) → a ≡ true → (a || b) ≡ true
or_left true b e = refl
or_left false b e = cc

pub or_right : (a b : Bool) → b ≡ true → (a || b) ≡ true
or_right true b e = refl
or_right false b e = e

pub or_either : {P : Type 0} (a b : Bool) → (a ≡ true → P) → (b ≡ true → P) → (a || b) ≡ true → P
or_either true b p q e = p refl
or_either false b p q e = q e
