-- The parser takes a token exactly where the tokens begin some list of statements.
use Rattle.std.proofs.Common.{◌≡◌, ℕ, ◌≤◌, max, Bool, true, false, cond, ltb, List, [], ◌∷◌, ◌++◌, length, Option, Some, None, Result, Ok, Err, refl, sym, ap, subst, ◌∙◌, append_assoc, arith}
use Rattle.std.proofs.lemmas.Bool.{ltb-false, le-ltb}
use Rattle.std.proofs.lemmas.List.{append-nil}
use Rattle.rules_text.specs.text.Token.{Token, token_shape}
use Rattle.rules_text.specs.declared.text.Shape.{Shape}
use Rattle.rules_text.specs.declared.text.Shape.TheVariants.{Digits, Quoted, Word, Note, OpenBrace, CloseBrace, OpenParen, CloseParen, Semicolon}
use Rattle.rules_text.specs.text.Syntax.{statements_depth, IsFront, IsFrontWithin}
use Rattle.mich_text.specs.Machine.{elements, named, paren, Refusal, unexpected, too_deep, Stack, is_open, begins, step, on, put, no_begin, no_word, no_note, no_close_paren, no_close_brace, no_semicolon, refused, ready_for, then_run, run, start}
use Rattle.mich_text.proofs.grammar.Complete.{run-append, run_then, run_one, run_none, statements_run}
use Rattle.mich_text.proofs.grammar.Sound.{Spelt, start_spelt, step_spelt, completes}

-- ---- a step is a test and then a change

abbrev pub answer : Option Refusal → Stack → Result Stack Refusal
answer None s = Ok s
answer (Some r) s = Err r

begins_answer : (limit : ℕ) (s next : Stack) → begins limit s next ≡ answer (no_begin limit s) next
begins_answer limit s next = by (is_open s) (ltb limit (length s)) where
  by : (o b : Bool) → cond o (cond b (Err too_deep) (Ok next))
      (Err unexpected) ≡ answer (cond o (cond b (Some too_deep) None) (Some unexpected)) next
  by true true = refl
  by true false = refl
  by false b = refl

on_answer : (limit : ℕ) (s : Stack) (t : Token) → on limit s t ≡ answer (refused limit s (token_shape t)) (put t s)
unfolding on refused
on_answer limit s (Token.number n) = begins_answer limit s _
on_answer limit s (Token.bytes n) = begins_answer limit s _
on_answer limit s (Token.string n) = begins_answer limit s _
on_answer limit [] (Token.name n) = refl
on_answer limit (elements b es r ∷ s) (Token.name n) = begins_answer limit (elements b es r ∷ s) _
on_answer limit (named w m ns xs ∷ s) (Token.name n) = begins_answer limit (named w m ns xs ∷ s) _
on_answer limit (paren ∷ s) (Token.name n) = refl
on_answer limit [] (Token.annotation a) = refl
on_answer limit (elements b es r ∷ s) (Token.annotation a) = refl
on_answer limit (named w m ns xs ∷ s) (Token.annotation a) = refl
on_answer limit (paren ∷ s) (Token.annotation a) = refl
on_answer limit s Token.open_brace = begins_answer limit s _
on_answer limit s Token.open_paren = begins_answer limit s _
on_answer limit [] Token.close_brace = refl
on_answer limit (elements true es r ∷ s) Token.close_brace = refl
on_answer limit (elements false es r ∷ s) Token.close_brace = refl
on_answer limit (named w m ns xs ∷ s) Token.close_brace = refl
on_answer limit (paren ∷ s) Token.close_brace = refl
on_answer limit [] Token.close_paren = refl
on_answer limit (elements b es r ∷ s) Token.close_paren = refl
on_answer limit (named true m ns xs ∷ s) Token.close_paren = refl
on_answer limit (named false m ns xs ∷ s) Token.close_paren = refl
on_answer limit (paren ∷ s) Token.close_paren = refl
on_answer limit [] Token.semicolon = refl
on_answer limit (elements b es true ∷ s) Token.semicolon = refl
on_answer limit (elements b es false ∷ s) Token.semicolon = refl
on_answer limit (named w m ns xs ∷ s) Token.semicolon = refl
on_answer limit (paren ∷ s) Token.semicolon = refl

step_on : (limit : ℕ) (s : Stack) (t : Token) → step limit s t ≡ on limit (ready_for (token_shape t) s) t
unfolding step on
step_on limit s (Token.number n) = refl
step_on limit s (Token.bytes n) = refl
step_on limit s (Token.string n) = refl
step_on limit s (Token.name n) = refl
step_on limit s (Token.annotation a) = refl
step_on limit s Token.open_brace = refl
step_on limit s Token.open_paren = refl
step_on limit s Token.close_brace = refl
step_on limit s Token.close_paren = refl
step_on limit s Token.semicolon = refl

pub step_answer : (limit : ℕ) (s : Stack) (t : Token)
    → step limit s t ≡ answer (refused limit (ready_for (token_shape t) s) (token_shape t)) (put t (ready_for (token_shape t) s))
step_answer limit s t = step_on limit s t ∙ on_answer limit (ready_for (token_shape t) s) t

answer_ok : (o : Option Refusal) (s r : Stack) → answer o s ≡ Ok r → (o ≡ None) × (s ≡ r)
answer_ok None s r e = (refl, cc)
answer_ok (Some d) s r e = absurd cc

pub step_ok : (limit : ℕ) (s : Stack) (t : Token) → refused limit (ready_for (token_shape t) s) (token_shape t) ≡ None
    → step limit s t ≡ Ok (put t (ready_for (token_shape t) s))
step_ok limit s t e = step_answer limit s t ∙ ap (λ o. answer o (put t (ready_for (token_shape t) s))) e

step_not_refused : (limit : ℕ) (s r : Stack) (t : Token) → step limit s t ≡ Ok r
    → refused limit (ready_for (token_shape t) s) (token_shape t) ≡ None
step_not_refused limit s r t e =
    (answer_ok (refused limit (ready_for (token_shape t) s) (token_shape t)) (put t (ready_for (token_shape t) s)) r
    (sym (step_answer limit s t) ∙ e)).0

-- ---- the limit

abbrev chosen : Bool → Bool → Option Refusal
chosen o b = cond o (cond b (Some too_deep) None) (Some unexpected)

chosen_unexpected : (o b d : Bool) → chosen o b ≡ Some unexpected → chosen o d ≡ Some unexpected
chosen_unexpected true true d e = absurd cc
chosen_unexpected true false d e = absurd cc
chosen_unexpected false b d e = refl

chosen_deep : (o b : Bool) → chosen o b ≡ Some too_deep → (o ≡ true) × (b ≡ true)
chosen_deep true true e = (refl, refl)
chosen_deep true false e = absurd cc
chosen_deep false b e = absurd cc

chosen_none : (o b : Bool) → chosen o b ≡ None → (o ≡ true) × (b ≡ false)
chosen_none true true e = absurd cc
chosen_none true false e = (refl, refl)
chosen_none false b e = absurd cc

unexpected_begin : (limit other : ℕ) (s : Stack) → no_begin limit s ≡ Some unexpected → no_begin other s ≡ Some unexpected
unexpected_begin limit other s e = chosen_unexpected (is_open s) (ltb limit (length s)) (ltb other (length s)) e

deep_begin : (limit other : ℕ) (s : Stack) → no_begin limit s ≡ Some too_deep → length s ≤ other → no_begin other s ≡ None
deep_begin limit other s e h = let p = chosen_deep (is_open s) (ltb limit (length s)) e in rw (p.0, le-ltb _ _ h) refl

none_begin : (limit other : ℕ) (s : Stack) → limit ≤ other → no_begin limit s ≡ None → no_begin other s ≡ None
none_begin limit other s h e =
    let p = chosen_none (is_open s) (ltb limit (length s)) e in
    let le : length s ≤ other = omega (arith, ltb-false _ _ p.1) in
    rw (p.0, le-ltb _ _ le) refl

unexpected_word : (limit other : ℕ) (s : Stack) → no_word limit s ≡ Some unexpected → no_word other s ≡ Some unexpected
unexpected_word limit other [] e = refl
unexpected_word limit other (elements b es r ∷ s) e = unexpected_begin limit other (elements b es r ∷ s) e
unexpected_word limit other (named w n ns xs ∷ s) e = unexpected_begin limit other (named w n ns xs ∷ s) e
unexpected_word limit other (paren ∷ s) e = absurd cc

deep_word : (limit other : ℕ) (s : Stack) → no_word limit s ≡ Some too_deep → length s ≤ other → no_word other s ≡ None
deep_word limit other [] e h = absurd cc
deep_word limit other (elements b es r ∷ s) e h = deep_begin limit other (elements b es r ∷ s) e h
deep_word limit other (named w n ns xs ∷ s) e h = deep_begin limit other (named w n ns xs ∷ s) e h
deep_word limit other (paren ∷ s) e h = refl

none_word : (limit other : ℕ) (s : Stack) → limit ≤ other → no_word limit s ≡ None → no_word other s ≡ None
none_word limit other [] h e = e
none_word limit other (elements b es r ∷ s) h e = none_begin limit other (elements b es r ∷ s) h e
none_word limit other (named w n ns xs ∷ s) h e = none_begin limit other (named w n ns xs ∷ s) h e
none_word limit other (paren ∷ s) h e = refl

unexpected_stays : (limit other : ℕ) (s : Stack) (shape : Shape) → refused limit s shape ≡ Some unexpected
    → refused other s shape ≡ Some unexpected
unfolding refused
unexpected_stays limit other s Digits e = unexpected_begin limit other s e
unexpected_stays limit other s Quoted e = unexpected_begin limit other s e
unexpected_stays limit other s Word e = unexpected_word limit other s e
unexpected_stays limit other s Note e = e
unexpected_stays limit other s OpenBrace e = unexpected_begin limit other s e
unexpected_stays limit other s OpenParen e = unexpected_begin limit other s e
unexpected_stays limit other s CloseBrace e = e
unexpected_stays limit other s CloseParen e = e
unexpected_stays limit other s Semicolon e = e

none_stays : (limit other : ℕ) (s : Stack) (shape : Shape) → limit ≤ other → refused limit s shape ≡ None → refused other s shape ≡ None
unfolding refused
none_stays limit other s Digits h e = none_begin limit other s h e
none_stays limit other s Quoted h e = none_begin limit other s h e
none_stays limit other s Word h e = none_word limit other s h e
none_stays limit other s Note h e = e
none_stays limit other s OpenBrace h e = none_begin limit other s h e
none_stays limit other s OpenParen h e = none_begin limit other s h e
none_stays limit other s CloseBrace h e = e
none_stays limit other s CloseParen h e = e
none_stays limit other s Semicolon h e = e

deep_note : (other : ℕ) (s : Stack) → no_note s ≡ Some too_deep → no_note s ≡ None
deep_note other [] e = absurd cc
deep_note other (elements b es r ∷ s) e = absurd cc
deep_note other (named w n ns xs ∷ s) e = refl
deep_note other (paren ∷ s) e = absurd cc

deep_close_brace : (s : Stack) → no_close_brace s ≡ Some too_deep → no_close_brace s ≡ None
deep_close_brace [] e = absurd cc
deep_close_brace (elements true es r ∷ s) e = refl
deep_close_brace (elements false es r ∷ s) e = absurd cc
deep_close_brace (named w n ns xs ∷ s) e = absurd cc
deep_close_brace (paren ∷ s) e = absurd cc

deep_close_paren : (s : Stack) → no_close_paren s ≡ Some too_deep → no_close_paren s ≡ None
deep_close_paren [] e = absurd cc
deep_close_paren (elements b es r ∷ s) e = absurd cc
deep_close_paren (named true n ns xs ∷ s) e = refl
deep_close_paren (named false n ns xs ∷ s) e = absurd cc
deep_close_paren (paren ∷ s) e = absurd cc

deep_semicolon : (s : Stack) → no_semicolon s ≡ Some too_deep → no_semicolon s ≡ None
deep_semicolon [] e = absurd cc
deep_semicolon (elements b es true ∷ s) e = absurd cc
deep_semicolon (elements b es false ∷ s) e = refl
deep_semicolon (named w n ns xs ∷ s) e = absurd cc
deep_semicolon (paren ∷ s) e = absurd cc

deep_goes : (limit other : ℕ) (s : Stack) (shape : Shape) → refused limit s shape ≡ Some too_deep → length s ≤ other
    → refused other s shape ≡ None
unfolding refused
deep_goes limit other s Digits e h = deep_begin limit other s e h
deep_goes limit other s Quoted e h = deep_begin limit other s e h
deep_goes limit other s Word e h = deep_word limit other s e h
deep_goes limit other s Note e h = deep_note other s e
deep_goes limit other s OpenBrace e h = deep_begin limit other s e h
deep_goes limit other s OpenParen e h = deep_begin limit other s e h
deep_goes limit other s CloseBrace e h = deep_close_brace s e
deep_goes limit other s CloseParen e h = deep_close_paren s e
deep_goes limit other s Semicolon e h = deep_semicolon s e

-- ---- runs

bind_ok : (r : Result Stack Refusal) (f : Stack → Result Stack Refusal) (s : Stack) → then_run r f ≡ Ok s
    → (n : Stack) × (r ≡ Ok n) × (f n ≡ Ok s)
bind_ok (Ok n) f s e = (n, refl, e)
bind_ok (Err d) f s e = absurd cc

run_cons : (limit : ℕ) (s r : Stack) (t : Token) (ts : List Token) → run limit s (t ∷ ts) ≡ Ok r
    → (n : Stack) × (step limit s t ≡ Ok n) × (run limit n ts ≡ Ok r)
unfolding run
run_cons limit s r t ts e = bind_ok (step limit s t) (λ n. run limit n ts) r e

run_ahead : (limit : ℕ) (s n r : Stack) (a b : List Token) → run limit s (a ++ b) ≡ Ok r → run limit s a ≡ Ok n → run limit n b ≡ Ok r
run_ahead limit s n r a b e f = sym (run-append limit s a b ∙ ap (λ x. then_run x (λ m. run limit m b)) f) ∙ e

pub run_split : (limit : ℕ) (s r : Stack) (a b : List Token) → run limit s (a ++ b) ≡ Ok r
    → (n : Stack) × (run limit s a ≡ Ok n) × (run limit n b ≡ Ok r)
run_split limit s r a b e = bind_ok (run limit s a) (λ n. run limit n b) r (sym (run-append limit s a b) ∙ e)

pub run_more : (limit : ℕ) (s n r : Stack) (ts : List Token) (t : Token) → run limit s ts ≡ Ok n → step limit n t ≡ Ok r
    → run limit s (ts ++ t ∷ []) ≡ Ok r
run_more limit s n r ts t e f = run_then limit s n r ts (t ∷ []) e (run_one limit n r t f)

okay_is : (s r : Stack) → answer None s ≡ answer None r → s ≡ r
okay_is s r e = cc

step_higher : (limit other : ℕ) (s r : Stack) (t : Token) → limit ≤ other → step limit s t ≡ Ok r → step other s t ≡ Ok r
step_higher limit other s r t h e =
    let p = answer_ok (refused limit (ready_for (token_shape t) s) (token_shape t)) (put t (ready_for (token_shape t) s)) r
    (sym (step_answer limit s t) ∙ e) in
    step_ok other s t (none_stays limit other (ready_for (token_shape t) s) (token_shape t) h p.0) ∙ ap (λ x. answer None x) p.1

pub run_higher : (limit other : ℕ) (s r : Stack) (ts : List Token) → limit ≤ other → run limit s ts ≡ Ok r → run other s ts ≡ Ok r
run_higher limit other s r [] h e = run_none other s ∙ sym (run_none limit s) ∙ e
run_higher limit other s r (t ∷ ts) h e =
    let p = run_cons limit s r t ts e in
    run_then other s p.0 r (t ∷ []) ts (run_one other s p.0 t (step_higher limit other s p.0 t h p.1))
    (run_higher limit other p.0 r ts h p.2)

run_spelt : (limit : ℕ) (s r : Stack) (ts more : List Token) → Spelt limit s ts → run limit s more ≡ Ok r → Spelt limit r (ts ++ more)
run_spelt limit s r ts [] p e =
    subst (λ (q : Stack × List Token). Spelt limit q.0 q.1) (ap (λ (x : Stack). (x, ts ++ [])) (okay_is s r (sym (run_none limit s) ∙ e)))
    (subst (λ (q : List Token). Spelt limit s q) (sym (append-nil ts)) p)
run_spelt limit s r ts (t ∷ more) p e =
    let q = run_cons limit s r t more e in
    subst (λ (l : List Token). Spelt limit r l) (append_assoc ts (t ∷ []) more)
    (run_spelt limit q.0 r (ts ++ t ∷ []) more (step_spelt limit s q.0 ts t p q.1) q.2)

-- ---- what the parser's state says of the tokens so far

pub is_spelt : (limit : ℕ) (s : Stack) (ts : List Token) → run limit start ts ≡ Ok s → Spelt limit s ts
is_spelt limit s ts e = run_spelt limit start s [] ts (start_spelt limit) e

pub is_front_within : (limit : ℕ) (s : Stack) (ts : List Token) → run limit start ts ≡ Ok s → IsFrontWithin limit ts
is_front_within limit s ts e = completes limit s ts (is_spelt limit s ts e)

pub is_front : (limit : ℕ) (ts : List Token) → IsFrontWithin limit ts → IsFront ts
is_front limit ts p = record { whole = p.whole; more = p.more; tokens = p.tokens }

goes_through : (limit : ℕ) (s next : Stack) (ts more : List Token) (t : Token) → run limit start ((ts ++ t ∷ []) ++ more) ≡ Ok next
    → run limit start ts ≡ Ok s → refused limit (ready_for (token_shape t) s) (token_shape t) ≡ None
goes_through limit s next ts more t e f =
    let whole : run limit start (ts ++ t ∷ more) ≡ Ok next = ap (run limit start) (sym (append_assoc ts (t ∷ []) more)) ∙ e in
    let p = run_cons limit s next t more (run_ahead limit start s next ts (t ∷ more) whole f) in
    step_not_refused limit s p.0 t p.1

pub no_front : (limit : ℕ) (s : Stack) (ts : List Token) (t : Token) → run limit start ts ≡ Ok s
    → refused limit (ready_for (token_shape t) s) (token_shape t) ≡ Some unexpected → IsFront (ts ++ t ∷ []) → ⊥
no_front limit s ts t e r p =
    let high = max limit (statements_depth p.whole) in
    let q = statements_run high p.whole (omega arith) in
    let none = goes_through high s q.0 ts p.more t (ap (run high start) p.tokens ∙ q.1)
    (run_higher limit high start s ts (omega arith) e) in
    let some = unexpected_stays limit high (ready_for (token_shape t) s) (token_shape t) r in
    cc (none, some)

pub no_front_within : (limit : ℕ) (s : Stack) (ts : List Token) (t : Token) → run limit start ts ≡ Ok s
    → refused limit (ready_for (token_shape t) s) (token_shape t) ≡ Some too_deep → IsFrontWithin limit (ts ++ t ∷ []) → ⊥
no_front_within limit s ts t e r p =
    let q = statements_run limit p.whole p.depth in
    let none = goes_through limit s q.0 ts p.more t (ap (run limit start) p.tokens ∙ q.1) e in
    cc (none, r)

pub deeper_front : (limit : ℕ) (s : Stack) (ts : List Token) (t : Token) → run limit start ts ≡ Ok s
    → refused limit (ready_for (token_shape t) s) (token_shape t) ≡ Some too_deep → IsFront (ts ++ t ∷ [])
deeper_front limit s ts t e r =
    let ready = ready_for (token_shape t) s in
    let high = max limit (length ready) in
    let ok = step_ok high s t (deep_goes limit high ready (token_shape t) r (omega arith)) in
    is_front high (ts ++ t ∷ []) (is_front_within high (put t ready) (ts ++ t ∷ [])
    (run_more high start s (put t ready) ts t (run_higher limit high start s ts (omega arith) e) ok))
