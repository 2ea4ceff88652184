-- In one place one token is read, or one flaw.
use Rattle.std.proofs.Common.{◌≡◌, ℕ, List, Result, Ok, Err, sym, ◌∙◌}
use Rattle.rules_text.specs.text.Token.{Token}
use Rattle.rules_text.specs.text.Fault.{Flaw}
use Rattle.rules_text.specs.text.Lexical.{token_at}

abbrev okay : {A : Type 0} → A → Result A Flaw
okay x = Ok x

pub okay_is : {A : Type 0} (x y : A) → okay x ≡ okay y → x ≡ y
okay_is x y e = cc

pub clash : (x : List ℕ) {r : Token × List ℕ} {d : Flaw} → token_at x ≡ Err d → token_at x ≡ Ok r → ⊥
clash x f g = cc (sym f ∙ g)

abbrev pub wrongly : Flaw → Result (Token × List ℕ) Flaw
wrongly d = Err d

pub err_is : (f g : Flaw) → wrongly f ≡ wrongly g → f ≡ g
err_is f g e = cc

pub same_flaw : (f g : Flaw) (x : List ℕ) → token_at x ≡ Err f → token_at x ≡ Err g → f ≡ g
same_flaw f g x e h = err_is f g (sym e ∙ h)
