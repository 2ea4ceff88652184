-- What instructions burn.
use Rattle.std.proofs.Common.{◌≡◌, Err, List, [], ◌∷◌, refl, ap, sym, ◌∙◌}
use Rattle.rules_data.specs.values.Val.{Val}
use Rattle.rules_data.specs.values.Tickets.{Held}
use Rattle.rules_code.specs.steps.Changes.{burns}
use Rattle.rules_code.specs.steps.Step.{Step, done}
use Rattle.mich_stack.specs.Ends.{burnt_among, gone, IsKept, IsEnd}
use Rattle.mich_stack.specs.Given.{IsGiven}
use Rattle.mich_stack.specs.Views.{Sight}
use Rattle.mich_stack.specs.declared.error.StepError.{StepError}
use Rattle.mich_stack.specs.declared.error.StepError.TheVariants.{Failed, Memory}

pub burnt_among_burns : (ts : List Held) → burnt_among (burns ts) ≡ ts
burnt_among_burns [] = refl
burnt_among_burns (t ∷ ts) = ap (λ l. t ∷ l) (burnt_among_burns ts)

pub given_gone : (s : Step) (V : List Val) (ts : List Held) → s ≡ done V (burns ts) → gone s ≡ ts
given_gone s V ts e = ap gone e ∙ burnt_among_burns ts

pub given_ends : (s : Step) (V : List Val) (ts : List Held) → s ≡ done V (burns ts) → s ≡ done V (burns (gone s))
given_ends s V ts e = e ∙ ap (λ l. done V (burns l)) (sym (given_gone s V ts e))

-- ---- an instruction that fails

pub failed_given : (big : Sight) (s : Step) (V W : List Val) (e : StepError) → IsKept s V (Err e) → IsGiven big s W (Err e)
failed_given big s V W (Failed f) h = h
failed_given big s V W Memory h = h

pub given_failed : (big : Sight) (s : Step) (V W : List Val) (e : StepError) → IsGiven big s V (Err e) → IsEnd s W (Err e)
given_failed big s V W (Failed f) h = h
given_failed big s V W Memory h = h
